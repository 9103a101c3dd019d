-- What a delivery makes of a world: the session's bytes first, and then the records that they complete.
use Rattle.std.proofs.Common.{◌≡◌, ℕ, ◌+◌, ◌<◌, List, [], ◌∷◌, ◌++◌, Option, Some, None, refl, sym, ap, ◌∙◌, length, take, drop, slice_index_or, slice_set}
use Rattle.std.specs.Prelude.{map, Result, Ok, Err, OnOk}
use Rattle.std.proofs.lemmas.Option.{slice_get_read}
use Rattle.rpc_record.specs.Records.{fed, Unread}
use Rattle.rpc_record.specs.declared.records.Fed.{Fed}
use Rattle.rpc_record.specs.declared.refusal.Refusal.{Refusal}
use Rattle.trace_text.specs.declared.line.Amount.{Amount}
use Rattle.trace_ends.specs.Core.{Event, Event.Serves, Event.Hears}
use Rattle.trace_ends.specs.Numbers.{numbered, with_numbered}
use Rattle.trace_replay.specs.World.{World, happened}
use Rattle.trace_ends.specs.Wires.{Wire}
use Rattle.trace_replay.specs.Delivery.{all_happened, up_at, up_some, up_length, spoilt_as, taken_up, down_at, down_some, down_length}
use Rattle.trace_ends.specs.Queue.{count_of}
use Rattle.trace_replay.proofs.Numbers.{at_number, set_number}

wire_at : (wires : List Wire) (place number : ℕ) (q : Wire) → number ≡ place + 1 → place < length wires → q ≡ slice_index_or wires place q → numbered wires number ≡ Some q
wire_at wires place number q e lt is = at_number wires place number e ∙ slice_get_read wires (length wires) place q refl lt is

-- the world with these bytes on their way, and these records taken
abbrev then : World → (List ℕ → Event) → List Wire → List (List ℕ) → World
then w f wires records = all_happened (record w { wires = wires }) (map f records)

then_is : (w v : World) (f : List ℕ → Event) (place number : ℕ) (q : Wire) (wires : List Wire) (records all : List (List ℕ)) → number ≡ place + 1 → wires ≡ slice_set w.wires place q → records ≡ all → v ≡ then w f wires records → v ≡ then w f (with_numbered w.wires number q) all
then_is w v f place number q wires records all e set is d =
    d
    ∙ ap (λ (rs : List (List ℕ)). then w f wires rs) is
    ∙ ap (λ (ws : List Wire). then w f ws all) (set ∙ set_number w.wires place number q e)

abbrev up_left : Wire → (count : ℕ) → Wire
up_left q count = record q { up = drop count q.up; server_end = (fed q.server_end (take count q.up)).0 }

-- one delivery after another
happened_both : (w : World) (f : List ℕ → Event) (xs ys : List (List ℕ)) → all_happened (all_happened w (map f xs)) (map f ys) ≡ all_happened w (map f (xs ++ ys))
happened_both w f [] ys = refl
happened_both w f (x ∷ xs) ys = happened_both (happened w (f x)) f xs ys

-- the records, and one of no bytes where none can follow
pub spoilt_taken : (w u v : World) (number now : ℕ) (records : List (List ℕ)) (spoilt : Option Refusal) (why : Refusal) → spoilt ≡ Some why → u ≡ all_happened w (map (Serves number now) records) → v ≡ happened u (Serves number now [])
    → v ≡ all_happened w (map (Serves number now) (records ++ spoilt_as spoilt))
spoilt_taken w u v number now records spoilt why is first last =
    last
    ∙ ap (λ (x : World). happened x (Serves number now [])) first
    ∙ happened_both w (Serves number now) records ([] ∷ [])
    ∙ ap (λ (o : Option Refusal). all_happened w (map (Serves number now) (records ++ spoilt_as o))) (sym is)

pub sound_taken : (w v : World) (number now : ℕ) (records : List (List ℕ)) (spoilt : Option Refusal) → spoilt ≡ None → v ≡ all_happened w (map (Serves number now) records) → v ≡ all_happened w (map (Serves number now) (records ++ spoilt_as spoilt))
sound_taken w v number now records spoilt is first =
    first ∙ happened_both w (Serves number now) records [] ∙ ap (λ (o : Option Refusal). all_happened w (map (Serves number now) (records ++ spoilt_as o))) (sym is)

-- what is told of a piece stays so of the stream
spoilt_told : (end : Unread) (piece : List ℕ) → (fed end piece).0.spoilt ≡ (fed end piece).1.spoilt
spoilt_told end piece = by end.rest end.spoilt
  where
    by : (rest : List ℕ) (o : Option Refusal) → (let r = fed (record { rest = rest; spoilt = o }) piece in r.0.spoilt ≡ r.1.spoilt)
    by rest None = refl
    by rest (Some why) = refl

pub up_is : (w v : World) (number now place : ℕ) (amount : Amount) (q left : Wire) (wires : List Wire) (records : List (List ℕ)) (spoilt : Option Refusal) → number ≡ place + 1 → place < length w.wires → q ≡ slice_index_or w.wires place q
    → left ≡ up_left q (count_of amount (length q.up)) → wires ≡ slice_set w.wires place left → records ≡ (fed q.server_end (take (count_of amount (length q.up)) q.up)).1.records → spoilt ≡ left.server_end.spoilt
    → v ≡ all_happened (record w { wires = wires }) (map (Serves number now) (records ++ spoilt_as spoilt)) → v ≡ up_some w number (count_of amount (up_length (numbered w.wires number))) now
up_is w v number now place amount q left wires records spoilt e lt is taken set told why d =
    then_is w v (Serves number now) place number left wires (records ++ spoilt_as spoilt) _ e set all d
    ∙ ap (λ (x : Wire). then w (Serves number now) (with_numbered w.wires number x) (taken_up come.1)) taken
    ∙ ap (λ (o : Option Wire). up_at w number (count_of amount (up_length o)) now o) (sym (wire_at w.wires place number q e lt is))
  where
    come : Unread × Fed
    come = fed q.server_end (take (count_of amount (length q.up)) q.up)

    all : records ++ spoilt_as spoilt ≡ taken_up come.1
    all =
        ap (λ (rs : List (List ℕ)). rs ++ spoilt_as spoilt) told
        ∙ ap (λ (o : Option Refusal). come.1.records ++ spoilt_as o) (why ∙ ap (λ (x : Wire). x.server_end.spoilt) taken ∙ spoilt_told q.server_end (take (count_of amount (length q.up)) q.up))

abbrev down_left : Wire → (count : ℕ) → Wire
down_left q count = record q { down = drop count q.down; client_end = (fed q.client_end (take count q.down)).0 }

pub down_is : (w v : World) (number now place : ℕ) (amount : Amount) (q left : Wire) (wires : List Wire) (records : List (List ℕ)) → number ≡ place + 1 → place < length w.wires → q ≡ slice_index_or w.wires place q
    → left ≡ down_left q (count_of amount (length q.down)) → wires ≡ slice_set w.wires place left → records ≡ (fed q.client_end (take (count_of amount (length q.down)) q.down)).1.records
    → v ≡ all_happened (record w { wires = wires }) (map (Hears number now) records) → v ≡ down_some w number (count_of amount (down_length (numbered w.wires number))) now
down_is w v number now place amount q left wires records e lt is taken set told d =
    then_is w v (Hears number now) place number left wires records _ e set told d
    ∙ ap (λ (x : Wire). then w (Hears number now) (with_numbered w.wires number x) (fed q.client_end (take (count_of amount (length q.down)) q.down)).1.records) taken
    ∙ ap (λ (o : Option Wire). down_at w number (count_of amount (down_length o)) now o) (sym (wire_at w.wires place number q e lt is))

-- what follows from what a call left follows where it went well
pub by_ok : {T E : Type 0} {P Q : Type 0} (r : Result T E) → (P → Q) → OnOk r P → OnOk r Q
by_ok (Ok x) f h = f h
by_ok (Err e) f h = tt

-- However a run goes on, it has as many clients as before.
use Rattle.std.proofs.Common.{◌≡◌, ℕ, zero, suc, List, [], ◌∷◌, length, Option, Some, None, Bool, true, false, refl, ap, ◌∙◌}
use Rattle.std.specs.Prelude.{map, slice_set, Result, Ok, Err, take}
use Rattle.rpc_record.specs.Records.{fed}
use Rattle.wire.specs.Parse.{parse_of}
use Rattle.wire.specs.declared.message.Message.{Message}
use Rattle.wire.specs.declared.fault.WireFault.{WireFault}
use Rattle.wire.specs.declared.fault.WireFault.TheVariants as fault
use Rattle.command_text.specs.declared.command.Command.{Command}
use Rattle.trace_ends.specs.Core.{Event.Does, Event.Serves, Event.Hears, server_waits, serves, serves_if, serves_none, serves_unless, hears, hears_at, hears_if, does}
use Rattle.trace_ends.specs.Session.{Seat, Session, is_newest}
use Rattle.trace_ends.specs.Numbers.{numbered, with_numbered}
use Rattle.trace_replay.specs.World.{World, happened}
use Rattle.trace_ends.specs.Wires.{Wire}
use Rattle.trace_replay.specs.Delivery.{all_happened, up_some, up_at, up_taken, taken_up, down_some, down_at, down_taken, up_all, up_length, down_length, is_still, round, passes}

abbrev count : World → ℕ
count w = length w.core.seats

set_length : {A : Type 0} (xs : List A) (i : ℕ) (x : A) → length (slice_set xs i x) ≡ length xs
set_length [] i x = refl
set_length (y ∷ xs) zero x = refl
set_length (y ∷ xs) (suc i) x = ap suc (set_length xs i x)

with_length : {A : Type 0} (xs : List A) (n : ℕ) (x : A) → length (with_numbered xs n x) ≡ length xs
with_length xs zero x = refl
with_length xs (suc i) x = set_length xs i x

served : (w : World) (n now : ℕ) (bytes : List ℕ) (o : Option Session) → length (serves w.core n now bytes o).core.seats ≡ count w
served w n now bytes None = refl
served w n now bytes (Some x) = by x.hung
  where
    none : (e : WireFault) → length (serves_none w.core n x e).core.seats ≡ count w
    none (fault.UnknownXid xid) = refl
    none (fault.NotRpc place) = refl
    none (fault.Garbage place) = refl

    read : (r : Result Message WireFault) → length (serves_if w.core n now x r).core.seats ≡ count w
    read (Ok m) = refl
    read (Err e) = none e

    by : (b : Bool) → length (serves_unless w.core n now bytes x b).core.seats ≡ count w
    by true = refl
    by false = read (parse_of (server_waits w.core n) bytes)

heard : (w : World) (n now : ℕ) (bytes : List ℕ) (o : Option Session) → length (hears w.core n now bytes o).core.seats ≡ count w
heard w n now bytes None = refl
heard w n now bytes (Some x) = by (numbered w.core.seats x.owner)
  where
    by_if : (seat : Seat) (b : Bool) → length (hears_if w.core x.owner now seat bytes b).core.seats ≡ count w
    by_if seat true = with_length w.core.seats x.owner _
    by_if seat false = refl

    by : (o : Option Seat) → length (hears_at w.core n x.owner now bytes o).core.seats ≡ count w
    by None = refl
    by (Some seat) = by_if seat (is_newest seat.session n)

did : (w : World) (n now : ℕ) (c : Command) (o : Option Seat) → length (does w.core n now c o).core.seats ≡ count w
did w n now c None = refl
did w n now c (Some seat) = with_length w.core.seats n _

pub does_count : (w : World) (n now : ℕ) (c : Command) → count (happened w (Does n now c)) ≡ count w
does_count w n now c = did w n now c (numbered w.core.seats n)

serve_all : (w : World) (n now : ℕ) (rs : List (List ℕ)) → count (all_happened w (map (Serves n now) rs)) ≡ count w
serve_all w n now [] = refl
serve_all w n now (r ∷ rs) = serve_all (happened w (Serves n now r)) n now rs ∙ served w n now r (numbered w.core.sessions n)

hear_all : (w : World) (n now : ℕ) (rs : List (List ℕ)) → count (all_happened w (map (Hears n now) rs)) ≡ count w
hear_all w n now [] = refl
hear_all w n now (r ∷ rs) = hear_all (happened w (Hears n now r)) n now rs ∙ heard w n now r (numbered w.core.sessions n)

up_count : (w : World) (n amount now : ℕ) → count (up_some w n amount now) ≡ count w
up_count w n amount now = by (numbered w.wires n)
  where
    by : (o : Option Wire) → count (up_at w n amount now o) ≡ count w
    by None = refl
    by (Some q) = serve_all (up_taken w n amount q) n now (taken_up (fed q.server_end (take amount q.up)).1)

down_count : (w : World) (n amount now : ℕ) → count (down_some w n amount now) ≡ count w
down_count w n amount now = by (numbered w.wires n)
  where
    by : (o : Option Wire) → count (down_at w n amount now o) ≡ count w
    by None = refl
    by (Some q) = hear_all (down_taken w n amount q) n now (fed q.client_end (take amount q.down)).1.records

round_count : (w : World) (n server at : ℕ) → count (round w n server at) ≡ count w
round_count w n server at = down_count (up_all w n server) n (down_length (numbered (up_all w n server).wires n)) at ∙ up_count w n (up_length (numbered w.wires n)) server

pub passes_count : (k : ℕ) (w : World) (n server at : ℕ) → count (passes k w n server at) ≡ count w
passes_count zero w n server at = refl
passes_count (suc k) w n server at = by (is_still w n) (passes_count k (round w n server at) n server at)
  where
    by : (b : Bool) → count (passes k (round w n server at) n server at) ≡ count (round w n server at) → count (elim b as (λ (x : Bool). World) [ true ↦ w | false ↦ passes k (round w n server at) n server at ]) ≡ count w
    by true later = refl
    by false later = later ∙ round_count w n server at

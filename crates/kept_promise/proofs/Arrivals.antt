-- Messages that are on their way, in any number, are taken one after the other, wherever deliveries cut them.
use Rattle.std.proofs.Common.{◌≡◌, ℕ, ◌≤◌, List, [], ◌∷◌, ◌++◌, length, take, drop, Option, None, refl, sym, ap, ◌∙◌, subst, arith, append_assoc, map, append-nil}
use Rattle.rpc_record.specs.Records.{Begun}
use Rattle.kept_promise.specs.Arrivals.{AreComing, UpsComeInOrder, DownsComeInOrder}
use Rattle.kept_promise.proofs.Common.{take-append-drop, All-map, All, Fed, Refusal, Unread, Parts, Came, record_of, split, fed, stream, stream_comes, MessageFits, message_spell, Message, Event, Event.Serves, Event.Hears, bytes_of, all_happened, up_at, down_at, up_with, down_with}
use Rattle.kept_promise.proofs.RunsDeliveries.{parted, fits_short, drop_front}
use Rattle.trace_replay.specs.Delivery.{taken_up, spoilt_as}

abbrev ended : Parts → Unread × Fed
ended p = (record { rest = p.rest; spoilt = p.spoilt }, record { records = p.records; spoilt = p.spoilt })

fed_sound : (end : Unread) (piece : List ℕ) → end.spoilt ≡ None → fed end piece ≡ ended (split (end.rest ++ piece))
fed_sound end piece sound = ap (λ (s : Option Refusal). fed (record { rest = end.rest; spoilt = s }) piece) sound

-- what an end makes of a piece of messages
record Takes (ms : List Message) (left : List ℕ) (r : Unread × Fed) : Type 0 where
  front : List Message
  behind : List Message
  all : ms ≡ front ++ behind
  records : r.1.records ≡ map message_spell front
  taken : taken_up r.1 ≡ map message_spell front
  sound : r.0.spoilt ≡ None
  bytes : r.0.rest ++ left ≡ bytes_of behind
  partial : record_of r.0.rest ≡ Begun

takes_of : (ms : List Message) (left : List ℕ) (p : Parts) → Came (map message_spell ms) left p → Takes ms left (ended p)
takes_of ms left p c =
    let s = parted message_spell ms p.records c.left c.records in
    record { front = s.front; behind = s.behind; all = s.all; records = sym s.came_is; taken = ap (λ (o : Option Refusal). p.records ++ spoilt_as o) c.sound ∙ append-nil p.records ∙ sym s.came_is; sound = c.sound; bytes = c.bytes ∙ ap stream (sym s.left_is); partial = c.partial }

takes : (end : Unread) (queue : List ℕ) (count : ℕ) (ms : List Message) → All MessageFits ms → AreComing end queue ms → Takes ms (drop count queue) (fed end (take count queue))
takes end queue count ms fits coming =
    let short : All (λ r. length r ≤ 131072) (map message_spell ms) = All-map (λ r. length r ≤ 131072) message_spell ms (λ i m lt. fits_short _ (fits i m lt)) in
    let whole = append_assoc end.rest (take count queue) (drop count queue) ∙ ap (λ (z : List ℕ). end.rest ++ z) (take-append-drop count queue) ∙ coming.1 in
    subst (Takes ms (drop count queue)) (sym (fed_sound end (take count queue) coming.0)) (takes_of ms (drop count queue) (split (end.rest ++ take count queue)) (stream_comes (map message_spell ms) (end.rest ++ take count queue) (drop count queue) short whole))

take_front : {A : Type 0} (xs ys : List A) → take (length xs) (xs ++ ys) ≡ xs
take_front [] ys = refl
take_front (x ∷ xs) ys = ap (λ zs. x ∷ zs) (take_front xs ys)

front_within : {A : Type 0} (xs ys : List A) → length xs ≤ length (xs ++ ys)
front_within [] ys = omega arith
front_within (x ∷ xs) ys = let le = front_within xs ys in omega (arith, le)

events_are : (e : List ℕ → Event) (ms : List Message) → map e (map message_spell ms) ≡ map (λ m. e (message_spell m)) ms
events_are e [] = refl
events_are e (m ∷ ms) = ap (λ (z : List Event). e (message_spell m) ∷ z) (events_are e ms)

-- the records that come are those of the first messages
firsts : (e : List ℕ → Event) (ms front behind : List Message) (records : List (List ℕ)) → ms ≡ front ++ behind → records ≡ map message_spell front → map e records ≡ map (λ m. e (message_spell m)) (take (length front) ms)
firsts e ms front behind records all is = ap (map e) is ∙ events_are e front ∙ ap (λ (z : List Message). map (λ m. e (message_spell m)) z) (sym (ap (take (length front)) all ∙ take_front front behind))

pub ups_come_in_order : UpsComeInOrder
ups_come_in_order = λ w number q ms count now wire fits coming.
    let t = takes q.server_end q.up count ms fits coming in
    let end : Unread = (fed q.server_end (take count q.up)).0 in
    record {
      taken = length t.front;
      within = subst (λ (z : List Message). length t.front ≤ length z) (sym t.all) (front_within t.front t.behind);
      end = end;
      steps = ap (up_at w number count now) wire ∙ ap (all_happened (up_with w number q (drop count q.up) end)) (firsts (Serves number now) ms t.front t.behind (taken_up (fed q.server_end (take count q.up)).1) t.all t.taken);
      coming = (t.sound, t.bytes ∙ ap bytes_of (sym (ap (drop (length t.front)) t.all ∙ drop_front t.front t.behind)));
      partial = t.partial;
    }

pub downs_come_in_order : DownsComeInOrder
downs_come_in_order = λ w number q ms count now wire fits coming.
    let t = takes q.client_end q.down count ms fits coming in
    let end : Unread = (fed q.client_end (take count q.down)).0 in
    record {
      taken = length t.front;
      within = subst (λ (z : List Message). length t.front ≤ length z) (sym t.all) (front_within t.front t.behind);
      end = end;
      steps = ap (down_at w number count now) wire ∙ ap (all_happened (down_with w number q (drop count q.down) end)) (firsts (Hears number now) ms t.front t.behind (fed q.client_end (take count q.down)).1.records t.all t.records);
      coming = (t.sound, t.bytes ∙ ap bytes_of (sym (ap (drop (length t.front)) t.all ∙ drop_front t.front t.behind)));
      partial = t.partial;
    }

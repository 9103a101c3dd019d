-- A run goes from moment to moment, and its lines deliver what was sent: line by line.
use Rattle.std.proofs.Common.{◌⊎◌, inl, inr, ◌≡◌, ℕ, zero, suc, ◌+◌, ◌≤◌, List, [], ◌∷◌, ◌++◌, length, take, drop, map, Option, Some, None, Bool, true, false, refl, sym, ap, ◌∙◌, subst, arith, append-nil, append_assoc, eq-eqb, ne_eqb, Result, Ok, Err}
use Rattle.command_text.specs.declared.content.Part.{Part as Bytes}
use Rattle.command_text.specs.declared.path.Spot.{Spot}
use Rattle.client_state.specs.State as client
use Rattle.trace_text.specs.declared.line.Amount.{Amount}
use Rattle.trace_text.specs.declared.line.Amount.TheVariants as amount
use Rattle.trace_text.specs.declared.line.Line.TheVariants as line
use Rattle.trace_text.specs.declared.line.Who.{Who}
use Rattle.trace_text.specs.declared.line.Who.TheVariants as who
use Rattle.trace_ends.specs.Core.{with_client}
use Rattle.trace_ends.specs.Session.{Seat}
use Rattle.trace_replay.specs.Chained.{Side, Up, Down, AllSent, nothing_sent, sent_with, sent_after, unless_shut, Came, nothing_came, Delivery, brought, is_side, more_came, came_with, came_after, records_in, event_at, IsChain, IsDelivered, Part, Speaks, Grants, Drifts, Clients, Opens, Tells, Sends, Changes, Brings, rounds_of, parts_by, parts_of, client_with, is_shut, HasMoments, IsRunOf, IsChained}
use Rattle.trace_replay.specs.Delivery.{taken_up, spoilt_as}
use Rattle.trace_replay.specs.World.{raw_put, raw_put_in}
use Rattle.trace_replay.specs.Run.{place_for, directory_asks, file_asks}
use Rattle.trace_replay.specs.declared.stage.Stage.{Stage}
use Rattle.trace_replay.specs.declared.stage.Stage.TheVariants as stage
use Rattle.trace_replay.specs.declared.turn.Turn.TheVariants as turn
use Rattle.tree_nodes.specs.declared.node.Body.TheVariants.{Directory, File}
use Rattle.kept_promise.proofs.Common.{◌==◌, content_bytes, fed, Unread, Parts, nothing_read, lines_of, line_of, Line, LineFault, Grammar, Turn, Core, Session, Event, numbered, with_numbered, World, Wire, start, happened, all_happened, up_at, up_some, down_at, down_some, up_length, down_length, up_all, round, is_still, is_still_at, passes, at_events, count_of, asks_at, asks, asked, asked_by, turned, run_from, run, Moment, moments_of, up_moments_at, up_moments, down_moments_at, down_moments, round_moments, passes_moments, turn_moments, moments_from, moments, sized, nat_le, line_most, Fed, Refusal, split, unless}
use Rattle.kept_promise.proofs.Lists.{some_is, nothing_there, same_or_not, both_true}
use Rattle.kept_promise.proofs.Turns.{Around, around_with, also_numbered}
use Rattle.kept_promise.proofs.Deliveries.{end_twice, spoilt_told}
use Rattle.kept_promise.proofs.RunsCarried.{moment}
use Rattle.kept_promise.proofs.Rounds.{AreRested, AreRestedBut, rests_happened, rests_up, rests_down, rests_put, is_empty}
use Rattle.kept_promise.proofs.OnTheWay.{end_of, IsWay, queue_of, end_at, AreOnWay, sent_then, sent_all, way_next, on_way_next}
use Rattle.kept_promise.proofs.RunsAsked.{turn_of, within, asked_turn}
use Rattle.kept_promise.proofs.RunsResults.{asking, turn_is, refused_line, no_world, ended_is, ran_by, moments_by}

-- ---- bytes

take_none : (k : ℕ) → take {A = ℕ} k [] ≡ []
take_none zero = refl
take_none (suc k) = refl

drop_none : (k : ℕ) → drop {A = ℕ} k [] ≡ []
drop_none zero = refl
drop_none (suc k) = refl

-- taking as many as were taken takes them
take_own : (k : ℕ) (xs : List ℕ) → take (length (take k xs)) xs ≡ take k xs
take_own zero xs = refl
take_own (suc k) [] = refl
take_own (suc k) (x ∷ xs) = ap (λ z. x ∷ z) (take_own k xs)

drop_own : (k : ℕ) (xs : List ℕ) → drop (length (take k xs)) xs ≡ drop k xs
drop_own zero xs = refl
drop_own (suc k) [] = refl
drop_own (suc k) (x ∷ xs) = drop_own k xs

take_both : (c j : ℕ) (xs : List ℕ) → take (c + j) xs ≡ take c xs ++ take j (drop c xs)
take_both zero j xs = ap (λ k. take k xs) (omega arith)
take_both (suc c) j [] = ap (λ k. take k []) (let e : suc c + j ≡ suc (c + j) = omega arith in e) ∙ sym (take_none j)
take_both (suc c) j (x ∷ xs) = ap (λ k. take k (x ∷ xs)) (let e : suc c + j ≡ suc (c + j) = omega arith in e) ∙ ap (λ z. x ∷ z) (take_both c j xs)

drop_both : (c j : ℕ) (xs : List ℕ) → drop (c + j) xs ≡ drop j (drop c xs)
drop_both zero j xs = ap (λ k. drop k xs) (omega arith)
drop_both (suc c) j [] = ap (λ k. drop k []) (let e : suc c + j ≡ suc (c + j) = omega arith in e) ∙ sym (drop_none j)
drop_both (suc c) j (x ∷ xs) = ap (λ k. drop k (x ∷ xs)) (let e : suc c + j ≡ suc (c + j) = omega arith in e) ∙ drop_both c j xs

few_taken : (k : ℕ) (xs : List ℕ) → length (take k xs) ≤ length xs
few_taken zero xs = omega arith
few_taken (suc k) [] = omega arith
few_taken (suc k) (x ∷ xs) = let h = few_taken k xs in omega (arith, h)

few_left : (c : ℕ) (xs : List ℕ) → c ≤ length xs → c + length (drop c xs) ≡ length xs
few_left zero xs le = omega arith
few_left (suc c) [] le = absurd (omega (arith, le))
few_left (suc c) (x ∷ xs) le = let h = few_left c xs (omega (arith, le)) in omega (arith, h)

-- ---- one way on a session

-- whether it is lost or not
way_is : (lost : Bool) (queue : List ℕ) (end : Unread) (came : ℕ) (sent : List ℕ) → IsWay lost queue end came sent → (queue ≡ drop came sent) × (end ≡ end_of (take came sent))
way_is true queue end came sent h = (h.0 ∙ sym (drop_none came) ∙ ap (drop came) (sym h.2), h.1 ∙ ap end_of (sym (take_none came)) ∙ ap (λ z. end_of (take came z)) (sym h.2))
way_is false queue end came sent h = (h.1, h.2)

-- some of it comes
way_taken : (lost : Bool) (queue : List ℕ) (end : Unread) (came : ℕ) (sent : List ℕ) (k : ℕ) → IsWay lost queue end came sent → IsWay lost (drop k queue) (fed end (take k queue)).0 (came + length (take k (drop came sent))) sent
way_taken true queue end came sent k h = (
  ap (drop k) h.0 ∙ drop_none k,
  ap (λ z. (fed end (take k z)).0) h.0 ∙ ap (λ z. (fed end z).0) (take_none k) ∙ ap (λ (z : Unread). (fed z []).0) h.1,
  h.2,
)
way_taken false queue end came sent k h =
    let le = h.0 in
    let few = few_taken k (drop came sent) in
    let left = few_left came sent h.0 in (
      omega (arith, le, few, left),
      ap (drop k) h.1 ∙ sym (drop_own k (drop came sent)) ∙ sym (drop_both came (length (take k (drop came sent))) sent),
      ap (λ (z : Unread). (fed z (take k queue)).0) h.2 ∙ ap (λ z. (fed (end_of (take came sent)) (take k z)).0) h.1
          ∙ end_is (take came sent) (take k (drop came sent))
          ∙ ap end_of (ap (λ z. take came sent ++ z) (sym (take_own k (drop came sent))) ∙ sym (take_both came (length (take k (drop came sent))) sent)),
    )
  where
    end_is : (first second : List ℕ) → (fed (end_of first) second).0 ≡ end_of (first ++ second)
    end_is first second = ap (λ (p : Parts). record { rest = p.rest; spoilt = p.spoilt }) (end_twice nothing_read first second)

-- what an end takes of what it is given
abbrev taken_by : Side → Fed → List (List ℕ)
taken_by Up f = taken_up f
taken_by Down f = f.records

-- the records that it completes
down_records : (end : Unread) (piece first second : List ℕ) → end ≡ end_of first → piece ≡ second → records_in Down (first ++ second) ≡ records_in Down first ++ (fed end piece).1.records
down_records end piece first second e f = sym (ap (λ (p : Parts). p.records) (end_twice nothing_read first second)) ∙ ap (λ (z : Unread). records_in Down first ++ (fed z second).1.records) (sym e) ∙ ap (λ z. records_in Down first ++ (fed end z).1.records) (sym f)

way_records : (side : Side) (end : Unread) (piece first second : List ℕ) → end ≡ end_of first → piece ≡ second → end.spoilt ≡ None → records_in side (first ++ second) ≡ records_in side first ++ taken_by side (fed end piece).1
way_records Down end piece first second e f whole = down_records end piece first second e f
way_records Up end piece first second e f whole =
    ap (λ (p : Parts). p.records ++ spoilt_as p.spoilt) (sym (end_twice nothing_read first second))
    ∙ ap (λ (o : Option Refusal). ((split first).records ++ d.records) ++ spoilt_as o) (sym (spoilt_told (end_of first) second))
    ∙ append_assoc (split first).records d.records (spoilt_as d.spoilt)
    ∙ ap (λ (l : List (List ℕ)). l ++ (d.records ++ spoilt_as d.spoilt)) (sym (append-nil (split first).records) ∙ ap (λ (o : Option Refusal). (split first).records ++ spoilt_as o) (sym (ap (λ (z : Unread). z.spoilt) (sym e) ∙ whole)))
    ∙ ap (λ (z : Unread). records_in Up first ++ taken_up (fed z second).1) (sym e)
    ∙ ap (λ z. records_in Up first ++ taken_up (fed end z).1) (sym f)
  where
    d : Fed
    d = (fed (end_of first) second).1

-- ---- a delivery, either way

abbrev wire_with : Side → (count : ℕ) → Wire → Wire
wire_with Up count q = record q { up = drop count q.up; server_end = (fed q.server_end (take count q.up)).0 }
wire_with Down count q = record q { down = drop count q.down; client_end = (fed q.client_end (take count q.down)).0 }

abbrev records_at : Side → (count : ℕ) → Wire → List (List ℕ)
records_at side count q = taken_by side (fed (end_at side q) (take count (queue_of side q))).1

abbrev with_taken : World → Side → (n count : ℕ) → Wire → World
with_taken w side n count q = record w { wires = with_numbered w.wires n (wire_with side count q) }

abbrev events_at : Side → (n now count : ℕ) → Wire → List Event
events_at side n now count q = map (event_at side n now) (records_at side count q)

chain_of : (w : World) (es : List Event) → IsChain w.core (moments_of w es) (all_happened w es).core
chain_of w [] = refl
chain_of w (e ∷ es) = (refl, chain_of (happened w e) es)

events_of : (w : World) (es : List Event) → map (λ (m : Moment). m.event) (moments_of w es) ≡ es
events_of w [] = refl
events_of w (e ∷ es) = ap (λ z. e ∷ z) (events_of (happened w e) es)

on_way_all : (sent : AllSent) (came : Came) (w : World) (es : List Event) → AreOnWay sent came w → AreOnWay (sent_all sent (moments_of w es)) came (all_happened w es)
on_way_all sent came w [] h = h
on_way_all sent came w (e ∷ es) h = on_way_all (sent_then sent (moment w.core e)) came (happened w e) es (on_way_next sent came w e h)

-- what comes counts on this way of this session alone
abbrev delivery : Side → (n : ℕ) → Amount → (now : ℕ) → Delivery
delivery side n a now = record { side = side; session = n; amount = a; now = now }

came_else : (came : Came) (d : Delivery) (count : ℕ) (side : Side) (n : ℕ) → ((d.side ≡ side) → (d.session ≡ n) → ⊥) → came_with came d count side n ≡ came side n
came_else came d count side n apart = by d.side side (λ e. apart e)
  where
    other : (b : Bool) → (d.session ≡ n → ⊥) → more_came true (d.session == n) (came side n) count ≡ came side n
    other b none = ap (λ z. more_came true z (came side n) count) (ne_eqb d.session n none)

    by : (s t : Side) → (s ≡ t → d.session ≡ n → ⊥) → more_came (is_side s t) (d.session == n) (came side n) count ≡ came side n
    by Up Up none = other true (none refl)
    by Down Down none = other true (none refl)
    by Up Down none = refl
    by Down Up none = refl

came_own : (came : Came) (side : Side) (n : ℕ) (a : Amount) (now count : ℕ) → came_with came (delivery side n a now) count side n ≡ came side n + count
came_own came Up n a now count = ap (λ z. more_came true z (came Up n) count) (eq-eqb n n refl)
came_own came Down n a now count = ap (λ z. more_came true z (came Down n) count) (eq-eqb n n refl)

-- nothing more came
came_none : (came : Came) (d : Delivery) (side : Side) (n : ℕ) → came_with came d 0 side n ≡ came side n
came_none came d side n = by (is_side d.side side) (d.session == n)
  where
    by : (s t : Bool) → more_came s t (came side n) 0 ≡ came side n
    by true true = omega arith
    by true false = refl
    by false t = refl

on_way_came : (sent : AllSent) (came more : Came) (w : World) → ((side : Side) (n : ℕ) → more side n ≡ came side n) → AreOnWay sent came w → AreOnWay sent more w
on_way_came sent came more w same h = record {
  count = h.count;
  each = λ side n x q at there. subst (λ c. IsWay (is_shut side (Some x)) (queue_of side q) (end_at side q) c (sent side n)) (sym (same side n)) (h.each side n x q at there);
  none = λ side n at. (same side n ∙ (h.none side n at).0, (h.none side n at).1);
}

-- the wire is as it was on the other way
other_way : (side other : Side) (count : ℕ) (q : Wire) → (side ≡ other → ⊥) → (queue_of other (wire_with side count q) ≡ queue_of other q) × (end_at other (wire_with side count q) ≡ end_at other q)
other_way Up Up count q apart = absurd (apart refl)
other_way Down Down count q apart = absurd (apart refl)
other_way Up Down count q apart = (refl, refl)
other_way Down Up count q apart = (refl, refl)

own_way : (side : Side) (count : ℕ) (q : Wire) → (queue_of side (wire_with side count q) ≡ drop count (queue_of side q)) × (end_at side (wire_with side count q) ≡ (fed (end_at side q) (take count (queue_of side q))).0)
own_way Up count q = (refl, refl)
own_way Down count q = (refl, refl)

same_side : (s t : Side) → (s ≡ t) ⊎ (s ≡ t → ⊥)
same_side Up Up = inl refl
same_side Down Down = inl refl
same_side Up Down = inr (λ e. absurd cc)
same_side Down Up = inr (λ e. absurd cc)

-- of those on their way so many come
abbrev came_more : AllSent → Came → Delivery → Came
came_more sent came d = came_after sent came (Brings d)

taken_on_way : (sent : AllSent) (came : Came) (w : World) (side : Side) (n now : ℕ) (a : Amount) (q : Wire) → AreOnWay sent came w → numbered w.wires n ≡ Some q → AreOnWay sent (came_more sent came (delivery side n a now)) (with_taken w side n (count_of a (length (queue_of side q))) q)
taken_on_way sent came w side n now a q h at = record {
  count = ar.count ∙ h.count;
  each = each;
  none = λ other m none. elim (same_or_not m n) [
    | inl e ↦ (let x = also_numbered w.wires w.core.sessions n q (sym h.count) at in nothing_there x.0 (sym none ∙ ap (numbered w.core.sessions) e ∙ x.1))
    | inr apart ↦ (came_else came (delivery side n a now) (length (brought a (came side n) (sent side n))) other m (λ s e. apart (sym e)) ∙ (h.none other m none).0, (h.none other m none).1)
  ];
}
  where
    count : ℕ
    count = count_of a (length (queue_of side q))

    ar : Around w.wires (with_numbered w.wires n (wire_with side (count_of a (length (queue_of side q))) q)) n (wire_with side (count_of a (length (queue_of side q))) q)
    ar = around_with w.wires n q (wire_with side (count_of a (length (queue_of side q))) q) at

    x : (x : Session) × (numbered w.core.sessions n ≡ Some x)
    x = also_numbered w.wires w.core.sessions n q (sym h.count) at

    piece : take (count_of a (length (queue_of side q))) (drop (came side n) (sent side n)) ≡ brought a (came side n) (sent side n)
    piece = ap (λ z. take (count_of a (length z)) (drop (came side n) (sent side n))) (way_is (is_shut side (Some x.0)) (queue_of side q) (end_at side q) (came side n) (sent side n) (h.each side n x.0 q x.1 at)).0

    each : (other : Side) (m : ℕ) (y : Session) (r : Wire) → numbered w.core.sessions m ≡ Some y → numbered (with_numbered w.wires n (wire_with side (count_of a (length (queue_of side q))) q)) m ≡ Some r → IsWay (is_shut other (Some y)) (queue_of other r) (end_at other r) (came_more sent came (delivery side n a now) other m) (sent other m)
    each other m y r there is = elim (same_or_not m n) [
      | inr apart ↦ subst (λ c. IsWay (is_shut other (Some y)) (queue_of other r) (end_at other r) c (sent other m)) (sym (came_else came (delivery side n a now) (length (brought a (came side n) (sent side n))) other m (λ s e. apart (sym e)))) (h.each other m y r there (sym (ar.others m apart) ∙ is))
      | inl e ↦ here e (some_is r (wire_with side (count_of a (length (queue_of side q))) q) (sym is ∙ ap (numbered (with_numbered w.wires n (wire_with side (count_of a (length (queue_of side q))) q))) e ∙ ar.there)) (same_side side other)
    ]
      where
        here : m ≡ n → r ≡ wire_with side (count_of a (length (queue_of side q))) q → (side ≡ other) ⊎ (side ≡ other → ⊥) → IsWay (is_shut other (Some y)) (queue_of other r) (end_at other r) (came_more sent came (delivery side n a now) other m) (sent other m)
        here e r_is (inr apart) =
            let o = other_way side other (count_of a (length (queue_of side q))) q apart in
            subst (λ c. IsWay (is_shut other (Some y)) (queue_of other r) (end_at other r) c (sent other m)) (sym (came_else came (delivery side n a now) (length (brought a (came side n) (sent side n))) other m (λ s z. apart s)))
            (subst (λ z. IsWay (is_shut other (Some y)) z (end_at other r) (came other m) (sent other m)) (sym (ap (queue_of other) r_is ∙ o.0))
            (subst (λ (z : Unread). IsWay (is_shut other (Some y)) (queue_of other q) z (came other m) (sent other m)) (sym (ap (end_at other) r_is ∙ o.1)) (h.each other m y q there (ap (numbered w.wires) e ∙ at))))
        here e r_is (inl same) = subst (λ (o : Side). IsWay (is_shut o (Some y)) (queue_of o r) (end_at o r) (came_more sent came (delivery side n a now) o m) (sent o m)) same
            (subst (λ (z : Wire). IsWay (is_shut side (Some y)) (queue_of side z) (end_at side z) (came_more sent came (delivery side n a now) side m) (sent side m)) (sym r_is)
            (subst (λ (z : ℕ). IsWay (is_shut side (Some y)) (queue_of side (wire_with side (count_of a (length (queue_of side q))) q)) (end_at side (wire_with side (count_of a (length (queue_of side q))) q)) (came_more sent came (delivery side n a now) side z) (sent side z)) (sym e) own))
          where
            own_y : numbered w.core.sessions n ≡ Some y
            own_y = ap (numbered w.core.sessions) (sym e) ∙ there

            own : IsWay (is_shut side (Some y)) (queue_of side (wire_with side (count_of a (length (queue_of side q))) q)) (end_at side (wire_with side (count_of a (length (queue_of side q))) q)) (came_more sent came (delivery side n a now) side n) (sent side n)
            own =
                let o = own_way side (count_of a (length (queue_of side q))) q in
                subst (λ c. IsWay (is_shut side (Some y)) (queue_of side (wire_with side (count_of a (length (queue_of side q))) q)) (end_at side (wire_with side (count_of a (length (queue_of side q))) q)) c (sent side n)) (ap (λ z. came side n + length z) piece ∙ sym (came_own came side n a now (length (brought a (came side n) (sent side n)))))
                (subst (λ z. IsWay (is_shut side (Some y)) z (end_at side (wire_with side (count_of a (length (queue_of side q))) q)) (came side n + length (take (count_of a (length (queue_of side q))) (drop (came side n) (sent side n)))) (sent side n)) (sym o.0)
                (subst (λ (z : Unread). IsWay (is_shut side (Some y)) (drop (count_of a (length (queue_of side q))) (queue_of side q)) z (came side n + length (take (count_of a (length (queue_of side q))) (drop (came side n) (sent side n)))) (sent side n)) (sym o.1)
                (way_taken (is_shut side (Some y)) (queue_of side q) (end_at side q) (came side n) (sent side n) (count_of a (length (queue_of side q))) (h.each side n y q own_y at))))

-- where an end isn't lost no record that it had was wrong
whole_end : (sent : AllSent) (came : Came) (w : World) (n : ℕ) (q : Wire) → AreOnWay sent came w → AreRested w → numbered w.wires n ≡ Some q → q.server_end.spoilt ≡ None
whole_end sent came w n q h rested at = elim (rested.each n q at).1 [
  | inl none ↦ none
  | inr (inl hung) ↦ ap (λ (z : Unread). z.spoilt) (subst (λ (b : Bool). IsWay b q.up q.server_end (came Up n) (sent Up n)) hung.2 (h.each Up n hung.0 q hung.1 at)).1
  | inr (inr nowhere) ↦ nothing_there q (ap (numbered w.wires) (sym nowhere) ∙ at)
]

-- how far a run has come: what is on its way, and ends that hold no whole record
record IsSoFar (sent : AllSent) (came : Came) (w : World) : Type 0 where
  ways : AreOnWay sent came w
  rested : AreRested w

-- the moments of a delivery, and how far it brings the run
record Brought (sent : AllSent) (came : Came) (k : Core) (d : Delivery) (own : List Moment) (v : World) : Type 0 where
  delivered : IsDelivered (sent d.side d.session) (came d.side d.session) k d own v.core
  on_way : AreOnWay (sent_all sent own) (came_more sent came d) v

brings : (sent : AllSent) (came : Came) (w : World) (side : Side) (n now : ℕ) (a : Amount) (q : Wire) → IsSoFar sent came w → numbered w.wires n ≡ Some q
    → Brought sent came w.core (delivery side n a now) (moments_of (with_taken w side n (count_of a (length (queue_of side q))) q) (events_at side n now (count_of a (length (queue_of side q))) q)) (all_happened (with_taken w side n (count_of a (length (queue_of side q))) q) (events_at side n now (count_of a (length (queue_of side q))) q))
brings sent came w side n now a q h at =
    let v : World = with_taken w side n (count_of a (length (queue_of side q))) q in
    let es : List Event = events_at side n now (count_of a (length (queue_of side q))) q in
    let x = also_numbered w.wires w.core.sessions n q (sym h.ways.count) at in
    let way = way_is (is_shut side (Some x.0)) (queue_of side q) (end_at side q) (came side n) (sent side n) (h.ways.each side n x.0 q x.1 at) in
    record {
      delivered = record {
        records = records_at side (count_of a (length (queue_of side q))) q;
        events = events_of v es;
        chain = chain_of v es;
        complete = records side (take (came side n) (sent side n)) (brought a (came side n) (sent side n)) (count_of a (length (queue_of side q))) way.1 (ap (λ z. take (count_of a (length z)) z) way.0);
      };
      on_way = on_way_all sent (came_more sent came (delivery side n a now)) v es (taken_on_way sent came w side n now a q h.ways at);
    }
  where
    records : (side : Side) (first second : List ℕ) (count : ℕ) → end_at side q ≡ end_of first → take count (queue_of side q) ≡ second → records_in side (first ++ second) ≡ records_in side first ++ records_at side count q
    records Up first second count e f = way_records Up q.server_end (take count q.up) first second e f (whole_end sent came w n q h.ways h.rested at)
    records Down first second count e f = down_records q.client_end (take count q.down) first second e f

-- where nothing is on its way nothing comes
brings_none : (sent : AllSent) (came : Came) (w : World) (d : Delivery) → AreOnWay sent came w → drop (came d.side d.session) (sent d.side d.session) ≡ [] → Brought sent came w.core d [] w
brings_none sent came w d h none = record {
  delivered = record {
    records = [];
    events = refl;
    chain = refl;
    complete = ap (records_in d.side) (ap (λ z. take (came d.side d.session) (sent d.side d.session) ++ z) nothing ∙ append-nil (take (came d.side d.session) (sent d.side d.session))) ∙ sym (append-nil (records_in d.side (take (came d.side d.session) (sent d.side d.session))));
  };
  on_way = on_way_came sent came (came_more sent came d) w (λ side n. ap (λ z. came_with came d (length z) side n) nothing ∙ came_none came d side n) h;
}
  where
    nothing : brought d.amount (came d.side d.session) (sent d.side d.session) ≡ []
    nothing = ap (λ z. take (count_of d.amount (length z)) z) none ∙ take_none (count_of d.amount 0)

-- also where there is no such session
brings_nowhere : (sent : AllSent) (came : Came) (w : World) (d : Delivery) → AreOnWay sent came w → numbered w.wires d.session ≡ None → Brought sent came w.core d [] w
brings_nowhere sent came w d h at = brings_none sent came w d h (by (numbered w.core.sessions d.session) refl)
  where
    by : (o : Option Session) → numbered w.core.sessions d.session ≡ o → drop (came d.side d.session) (sent d.side d.session) ≡ []
    by None none = ap (drop (came d.side d.session)) (h.none d.side d.session none).1 ∙ drop_none (came d.side d.session)
    by (Some x) some = (let q = also_numbered w.core.sessions w.wires d.session x h.count some in nothing_there q.0 (sym at ∙ q.1))

up_brings : (sent : AllSent) (came : Came) (w : World) (n now : ℕ) (a : Amount) → IsSoFar sent came w → Brought sent came w.core (delivery Up n a now) (up_moments w n (count_of a (up_length (numbered w.wires n))) now) (up_some w n (count_of a (up_length (numbered w.wires n))) now)
up_brings sent came w n now a h = by (numbered w.wires n) refl
  where
    by : (o : Option Wire) → numbered w.wires n ≡ o → Brought sent came w.core (delivery Up n a now) (up_moments_at w n (count_of a (up_length o)) now o) (up_at w n (count_of a (up_length o)) now o)
    by None at = brings_nowhere sent came w (delivery Up n a now) h.ways at
    by (Some q) at = brings sent came w Up n now a q h at

down_brings : (sent : AllSent) (came : Came) (w : World) (n now : ℕ) (a : Amount) → IsSoFar sent came w → Brought sent came w.core (delivery Down n a now) (down_moments w n (count_of a (down_length (numbered w.wires n))) now) (down_some w n (count_of a (down_length (numbered w.wires n))) now)
down_brings sent came w n now a h = by (numbered w.wires n) refl
  where
    by : (o : Option Wire) → numbered w.wires n ≡ o → Brought sent came w.core (delivery Down n a now) (down_moments_at w n (count_of a (down_length o)) now o) (down_at w n (count_of a (down_length o)) now o)
    by None at = brings_nowhere sent came w (delivery Down n a now) h.ways at
    by (Some q) at = brings sent came w Down n now a q h at

-- ---- what a line has

-- so the rest of a run goes on
abbrev Onward : List Part → (ms : List Moment) → (last : Core) → World → Type 0
Onward ps ms last w = (sent : AllSent) (came : Came) → IsSoFar sent came w → IsRunOf sent came w.core ps ms last

goes_brought : (sent : AllSent) (came : Came) (w v : World) (d : Delivery) (own rest : List Moment) (ps : List Part) (last : Core) → Brought sent came w.core d own v → AreRested v → Onward ps rest last v → IsRunOf sent came w.core (Brings d ∷ ps) (own ++ rest) last
goes_brought sent came w v d own rest ps last b rested go = (own, rest, v.core, refl, b.delivered, go (sent_all sent own) (came_more sent came d) (record { ways = b.on_way; rested = rested }))

-- a part without a moment
goes_none : (sent : AllSent) (came : Came) (w v : World) (p : Part) (rest : List Moment) (ps : List Part) (last : Core) → HasMoments sent came w.core p [] v.core → IsSoFar (sent_after sent w.core p []) (came_after sent came p) v → Onward ps rest last v → IsRunOf sent came w.core (p ∷ ps) rest last
goes_none sent came w v p rest ps last has h go = ([], rest, v.core, refl, has, go (sent_after sent w.core p []) (came_after sent came p) h)

round_goes : (sent : AllSent) (came : Came) (w : World) (n server at : ℕ) (rest : List Moment) (ps : List Part) (last : Core) → IsSoFar sent came w → Onward ps rest last (round w n server at)
    → IsRunOf sent came w.core (rounds_of 1 n server at ++ ps) (round_moments w n server at ++ rest) last
round_goes sent came w n server at rest ps last h go =
    let v : World = up_all w n server in
    let ms : List Moment = up_moments w n (up_length (numbered w.wires n)) server in
    let ns : List Moment = down_moments v n (down_length (numbered v.wires n)) at in
    let rested : AreRested v = rests_up w n (up_length (numbered w.wires n)) server h.rested in
    subst (λ (z : List Moment). IsRunOf sent came w.core (rounds_of 1 n server at ++ ps) z last) (sym (append_assoc ms ns rest))
    (goes_brought sent came w v (delivery Up n amount.All server) ms (ns ++ rest) (Brings (delivery Down n amount.All at) ∷ ps) last (up_brings sent came w n server amount.All h) rested
    (λ then_ more on. goes_brought then_ more v (round w n server at) (delivery Down n amount.All at) ns rest ps last (down_brings then_ more v n at amount.All on) (rests_down v n (down_length (numbered v.wires n)) at rested) go))

-- rounds that bring nothing
still_goes : (k : ℕ) (sent : AllSent) (came : Came) (w : World) (n server at : ℕ) (rest : List Moment) (ps : List Part) (last : Core) → ((side : Side) (sent : AllSent) (came : Came) → AreOnWay sent came w → drop (came side n) (sent side n) ≡ []) → IsSoFar sent came w → Onward ps rest last w
    → IsRunOf sent came w.core (rounds_of k n server at ++ ps) rest last
still_goes zero sent came w n server at rest ps last none h go = go sent came h
still_goes (suc k) sent came w n server at rest ps last none h go =
    nothing sent came Up server (Brings (delivery Down n amount.All at) ∷ (rounds_of k n server at ++ ps)) h
    (λ then_ more on. nothing then_ more Down at (rounds_of k n server at ++ ps) on (λ last_ most end. still_goes k last_ most w n server at rest ps last none end go))
  where
    nothing : (sent : AllSent) (came : Came) (side : Side) (now : ℕ) (qs : List Part) → IsSoFar sent came w → Onward qs rest last w → IsRunOf sent came w.core (Brings (delivery side n amount.All now) ∷ qs) rest last
    nothing sent came side now qs h go = goes_brought sent came w w (delivery side n amount.All now) [] rest qs last (brings_none sent came w (delivery side n amount.All now) h.ways (none side sent came h.ways)) h.rested go

still_none : (w : World) (n : ℕ) → is_still w n ≡ true → (side : Side) (sent : AllSent) (came : Came) → AreOnWay sent came w → drop (came side n) (sent side n) ≡ []
still_none w n still side sent came h = by (numbered w.wires n) refl still
  where
    queue : (q : Wire) (side : Side) → is_still_at (Some q) ≡ true → queue_of side q ≡ []
    queue q Up e = is_empty q.up (both_true _ _ e).0
    queue q Down e = is_empty q.down (both_true _ _ e).1

    nowhere : (o : Option Session) → numbered w.core.sessions n ≡ o → numbered w.wires n ≡ None → drop (came side n) (sent side n) ≡ []
    nowhere None none at = ap (drop (came side n)) (h.none side n none).1 ∙ drop_none (came side n)
    nowhere (Some x) some at = (let q = also_numbered w.core.sessions w.wires n x h.count some in nothing_there q.0 (sym at ∙ q.1))

    by : (o : Option Wire) → numbered w.wires n ≡ o → is_still_at o ≡ true → drop (came side n) (sent side n) ≡ []
    by None at e = nowhere (numbered w.core.sessions n) refl at
    by (Some q) at e =
        let x = also_numbered w.wires w.core.sessions n q (sym h.count) at in
        sym (way_is (is_shut side (Some x.0)) (queue_of side q) (end_at side q) (came side n) (sent side n) (h.each side n x.0 q x.1 at)).0 ∙ queue q side e

passes_go : (k : ℕ) (sent : AllSent) (came : Came) (w : World) (n server at : ℕ) (rest : List Moment) (ps : List Part) (last : Core) → IsSoFar sent came w → Onward ps rest last (passes k w n server at)
    → IsRunOf sent came w.core (rounds_of k n server at ++ ps) (passes_moments k w n server at ++ rest) last
passes_go zero sent came w n server at rest ps last h go = go sent came h
passes_go (suc k) sent came w n server at rest ps last h go =
    by (is_still w n) refl (λ before more then_ onward. passes_go k before more (round w n server at) n server at rest ps last then_ onward) go
  where
    by : (b : Bool) → is_still w n ≡ b
        → ((before : AllSent) (more : Came) → IsSoFar before more (round w n server at) → Onward ps rest last (passes k (round w n server at) n server at)
        → IsRunOf before more (round w n server at).core (rounds_of k n server at ++ ps) (passes_moments k (round w n server at) n server at ++ rest) last)
        → Onward ps rest last (elim b as (λ (x : Bool). World) [ true ↦ w | false ↦ passes k (round w n server at) n server at ])
        → IsRunOf sent came w.core (rounds_of (suc k) n server at ++ ps) ((elim b as (λ (x : Bool). List Moment) [ true ↦ [] | false ↦ round_moments w n server at ++ passes_moments k (round w n server at) n server at ]) ++ rest) last
    by true still on go = still_goes (suc k) sent came w n server at rest ps last (still_none w n still) h go
    by false still on go =
        let ms : List Moment = round_moments w n server at in
        let ns : List Moment = passes_moments k (round w n server at) n server at in
        subst (λ (z : List Moment). IsRunOf sent came w.core (rounds_of (suc k) n server at ++ ps) z last) (sym (append_assoc ms ns rest))
        (round_goes sent came w n server at (ns ++ rest) (rounds_of k n server at ++ ps) last h (λ before more then_. on before more then_ go))

-- ---- a line before the first event

dir_place : (w : World) (s : Stage) (spot : Spot) (t : Turn) → asks_at w s (line.Dir spot) ≡ asking t → (dir : ℕ) × (place_for w.core.server.tree spot ≡ Some dir) × (t ≡ turn.Dir dir spot.name)
dir_place w stage.Files spot t e = by (place_for w.core.server.tree spot) refl e
  where
    by : (o : Option ℕ) → place_for w.core.server.tree spot ≡ o → directory_asks o spot.name ≡ asking t → (dir : ℕ) × (place_for w.core.server.tree spot ≡ Some dir) × (t ≡ turn.Dir dir spot.name)
    by None is e = refused_line Grammar t e
    by (Some dir) is e = (dir, is, sym (turn_is (turn.Dir dir spot.name) t e))
dir_place w s spot t e = refused_line Grammar t e

sized_is : (long much : Bool) (u t : Turn) → sized long much u ≡ asking t → t ≡ u
sized_is false false u t e = sym (turn_is u t e)
sized_is _ _ u t e = refused_line _ t e

file_place : (w : World) (s : Stage) (spot : Spot) (content : List Bytes) (t : Turn) → asks_at w s (line.File spot content) ≡ asking t → (dir : ℕ) × (place_for w.core.server.tree spot ≡ Some dir) × (t ≡ turn.File dir spot.name content)
file_place w stage.Files spot content t e = by (place_for w.core.server.tree spot) refl e
  where
    by : (o : Option ℕ) → place_for w.core.server.tree spot ≡ o → file_asks o w.size spot.name content ≡ asking t → (dir : ℕ) × (place_for w.core.server.tree spot ≡ Some dir) × (t ≡ turn.File dir spot.name content)
    by None is e = refused_line Grammar t e
    by (Some dir) is e = (dir, is, sized_is _ _ (turn.File dir spot.name content) t e)
file_place w s spot content t e = refused_line Grammar t e

-- ---- a line that changes an index or a cache

so_same : (sent : AllSent) (came : Came) (w v : World) → v.wires ≡ w.wires → v.core.sessions ≡ w.core.sessions → IsSoFar sent came w → IsSoFar sent came v
so_same sent came w v wires sessions h = record {
  ways = record {
    count = ap length wires ∙ h.ways.count ∙ ap length (sym sessions);
    each = λ side n x q at there. h.ways.each side n x q (ap (λ (z : List Session). numbered z n) (sym sessions) ∙ at) (ap (λ (z : List Wire). numbered z n) (sym wires) ∙ there);
    none = λ side n at. h.ways.none side n (ap (λ (z : List Session). numbered z n) (sym sessions) ∙ at);
  };
  rested = subst (λ (zs : List Session). AreRestedBut 0 zs v.wires) (sym sessions) (subst (AreRestedBut 0 w.core.sessions) (sym wires) h.rested);
}

client_is : (k : Core) (n : ℕ) (f : client.State → client.State) (o : Option Seat) → with_client k n f o ≡ client_with k n f o
client_is k n f None = refl
client_is k n f (Some seat) = refl

-- it leaves the sessions as they were
client_sessions : (k : Core) (n : ℕ) (f : client.State → client.State) (o : Option Seat) → (with_client k n f o).sessions ≡ k.sessions
client_sessions k n f None = refl
client_sessions k n f (Some seat) = refl

forge_changes : (w : World) (sent : AllSent) (came : Came) (who_ : Who) (key file offset count : ℕ) (rest : List Moment) (ps : List Part) (last : Core) → IsSoFar sent came w → Onward ps rest last (turned w (turn_of 0 (line.Forge who_ key file offset count)))
    → IsRunOf sent came w.core (Changes (line.Forge who_ key file offset count) ∷ ps) rest last
forge_changes w sent came who.Server key file offset count rest ps last h go = goes_none sent came w _ (Changes (line.Forge who.Server key file offset count)) rest ps last (refl, refl) (so_same sent came w _ refl refl h) go
forge_changes w sent came (who.Client c) key file offset count rest ps last h go = goes_none sent came w _ (Changes (line.Forge (who.Client c) key file offset count)) rest ps last (refl, client_is w.core c _ (numbered w.core.seats c)) (so_same sent came w _ refl (client_sessions w.core c _ (numbered w.core.seats c)) h) go

clear_changes : (w : World) (sent : AllSent) (came : Came) (who_ : Who) (rest : List Moment) (ps : List Part) (last : Core) → IsSoFar sent came w → Onward ps rest last (turned w (turn_of 0 (line.Clear who_)))
    → IsRunOf sent came w.core (Changes (line.Clear who_) ∷ ps) rest last
clear_changes w sent came who.Server rest ps last h go = goes_none sent came w _ (Changes (line.Clear who.Server)) rest ps last (refl, refl) (so_same sent came w _ refl refl h) go
clear_changes w sent came (who.Client c) rest ps last h go = goes_none sent came w _ (Changes (line.Clear (who.Client c))) rest ps last (refl, client_is w.core c _ (numbered w.core.seats c)) (so_same sent came w _ refl (client_sessions w.core c _ (numbered w.core.seats c)) h) go

-- ---- any line

-- a session that is no client's sends bytes
raw_on_way : (sent : AllSent) (came : Came) (w : World) (n : ℕ) (bytes : List ℕ) → AreOnWay sent came w → AreOnWay (sent_with sent w.core n bytes) came (raw_put w n bytes)
raw_on_way sent came w n bytes h = by (numbered w.core.sessions n) refl (numbered w.wires n) refl
  where
    more : (side : Side) → ℕ → List ℕ
    more side m = sent_with sent w.core n bytes side m

    apart_sent : (side : Side) (m : ℕ) → (n ≡ m → ⊥) → more side m ≡ sent side m
    apart_sent Up m apart = ap (λ (b : Bool). elim b as (λ (z : Bool). List ℕ) [ true ↦ unless_shut (is_shut Up (numbered w.core.sessions n)) (sent Up m ++ bytes) | false ↦ sent Up m ]) (ne_eqb n m apart)
    apart_sent Down m apart = refl

    own_sent : (m : ℕ) → n ≡ m → more Up m ≡ unless_shut (is_shut Up (numbered w.core.sessions m)) (sent Up m ++ bytes)
    own_sent m e =
        ap (λ (b : Bool). elim b as (λ (z : Bool). List ℕ) [ true ↦ unless_shut (is_shut Up (numbered w.core.sessions n)) (sent Up m ++ bytes) | false ↦ sent Up m ]) (eq-eqb n m e)
        ∙ ap (λ (i : ℕ). unless_shut (is_shut Up (numbered w.core.sessions i)) (sent Up m ++ bytes)) e

    none : (side : Side) (m : ℕ) → numbered w.core.sessions m ≡ None → (came side m ≡ 0) × (more side m ≡ [])
    none Down m at = h.none Down m at
    none Up m at = elim (same_or_not n m) [
      | inl e ↦ ((h.none Up m at).0, own_sent m e ∙ ap (λ (o : Option Session). unless_shut (is_shut Up o) (sent Up m ++ bytes)) at)
      | inr apart ↦ ((h.none Up m at).0, apart_sent Up m apart ∙ (h.none Up m at).1)
    ]

    else_way : (side : Side) (m : ℕ) (y : Session) (r : Wire) → numbered w.core.sessions m ≡ Some y → numbered w.wires m ≡ Some r → (n ≡ m → ⊥) → IsWay (is_shut side (Some y)) (queue_of side r) (end_at side r) (came side m) (more side m)
    else_way side m y r at there apart = subst (IsWay (is_shut side (Some y)) (queue_of side r) (end_at side r) (came side m)) (sym (apart_sent side m apart)) (h.each side m y r at there)

    -- it is put behind what is on its way up
    put_way : (x : Session) (q : Wire) → numbered w.core.sessions n ≡ Some x → numbered w.wires n ≡ Some q → (side : Side) (m : ℕ) (y : Session) (r : Wire) → numbered w.core.sessions m ≡ Some y → n ≡ m → r ≡ record q { up = unless x.hung q.up bytes } → IsWay (is_shut side (Some y)) (queue_of side r) (end_at side r) (came side m) (more side m)
    put_way x q some wire Down m y r at e r_is = subst (λ (v : Wire). IsWay y.cut v.down v.client_end (came Down m) (sent Down m)) (sym r_is) (h.each Down m y q at (ap (numbered w.wires) (sym e) ∙ wire))
    put_way x q some wire Up m y r at e r_is =
        let was : IsWay y.hung q.up q.server_end (came Up m) (sent Up m) = h.each Up m y q at (ap (numbered w.wires) (sym e) ∙ wire) in
        let same : y.hung ≡ x.hung = ap (λ (z : Session). z.hung) (some_is y x (sym at ∙ ap (numbered w.core.sessions) (sym e) ∙ some)) in
        subst (IsWay y.hung r.up r.server_end (came Up m)) (sym (own_sent m e ∙ ap (λ (o : Option Session). unless_shut (is_shut Up o) (sent Up m ++ bytes)) at))
        (subst (λ (v : Wire). IsWay y.hung v.up v.server_end (came Up m) (unless_shut y.hung (sent Up m ++ bytes))) (sym r_is)
        (subst (λ (b : Bool). IsWay y.hung (unless b q.up bytes) q.server_end (came Up m) (unless_shut y.hung (sent Up m ++ bytes))) same
        (way_next y.hung q.up q.server_end (came Up m) (sent Up m) bytes
        (λ lost. let z = subst (λ (b : Bool). IsWay b q.up q.server_end (came Up m) (sent Up m)) lost was in (z.0, z.1))
        (λ stands. subst (λ (b : Bool). IsWay b q.up q.server_end (came Up m) (sent Up m)) stands was))))

    by : (o : Option Session) → numbered w.core.sessions n ≡ o → (p : Option Wire) → numbered w.wires n ≡ p → AreOnWay (sent_with sent w.core n bytes) came (record w { wires = raw_put_in w.wires n bytes o p })
    by None missing p wire = record {
      count = h.count;
      each = λ side m y r at there. else_way side m y r at there (λ e. nothing_there y (sym missing ∙ ap (numbered w.core.sessions) e ∙ at));
      none = none;
    }
    by (Some x) some None wire = (let q = also_numbered w.core.sessions w.wires n x h.count some in nothing_there q.0 (sym wire ∙ q.1))
    by (Some x) some (Some q) wire =
        let v : Wire = record q { up = unless x.hung q.up bytes } in
        let ar = around_with w.wires n q v wire in
        record {
          count = ar.count ∙ h.count;
          each = λ side m y r at there. elim (same_or_not n m) [
            | inr apart ↦ else_way side m y r at (sym (ar.others m (λ e. apart (sym e))) ∙ there) apart
            | inl e ↦ put_way x q some wire side m y r at e (some_is r v (sym there ∙ ap (numbered (with_numbered w.wires n v)) (sym e) ∙ ar.there))
          ];
          none = none;
        }

-- a line that has one event
goes_told : (sent : AllSent) (came : Came) (w : World) (e : Event) (rest : List Moment) (ps : List Part) (last : Core) → IsSoFar sent came w → Onward ps rest last (happened (at_events w) e) → IsRunOf sent came w.core (Tells e ∷ ps) (moments_of (at_events w) (e ∷ []) ++ rest) last
goes_told sent came w e rest ps last h go =
    let on = so_same sent came w (at_events w) refl refl h in (
      moments_of (at_events w) (e ∷ []),
      rest,
      (happened (at_events w) e).core,
      refl,
      (refl, refl),
      go (sent_then sent (moment w.core e)) came (record { ways = on_way_next sent came (at_events w) e on.ways; rested = rests_happened (at_events w) e on.rested }),
    )

-- and one that has none
goes_idle : (sent : AllSent) (came : Came) (w v : World) (rest : List Moment) (ps : List Part) (last : Core) → v.core ≡ w.core → v.wires ≡ w.wires → IsSoFar sent came w → Onward ps rest last v → IsRunOf sent came w.core ps rest last
goes_idle sent came w v rest ps last core wires h go = subst (λ (k : Core). IsRunOf sent came k ps rest last) core (go sent came (so_same sent came w v wires (ap (λ (k : Core). k.sessions) core) h))

line_goes : (sent : AllSent) (came : Came) (w : World) (dir : ℕ) (l : Line) (rest : List Moment) (ps : List Part) (last : Core) → ((s : Spot) → (l ≡ line.Dir s → ⊥)) → ((s : Spot) (c : List Bytes) → (l ≡ line.File s c → ⊥)) → IsSoFar sent came w
    → Onward ps rest last (turned w (turn_of dir l)) → IsRunOf sent came w.core (parts_by (Some l) ++ ps) (turn_moments w (turn_of dir l) ++ rest) last
line_goes sent came w dir line.Skipped rest ps last d f h go = goes_idle sent came w w rest ps last refl refl h go
line_goes sent came w dir (line.Version v) rest ps last d f h go = goes_none sent came w _ (Speaks v) rest ps last (refl, refl) (so_same sent came w _ refl refl h) go
line_goes sent came w dir (line.Term n) rest ps last d f h go = goes_none sent came w _ (Grants n) rest ps last (refl, refl) (so_same sent came w _ refl refl h) go
line_goes sent came w dir (line.Drift n) rest ps last d f h go = goes_none sent came w _ (Drifts n) rest ps last (refl, refl) (so_same sent came w _ refl refl h) go
line_goes sent came w dir (line.Clients n) rest ps last d f h go = goes_none sent came w _ (Clients n) rest ps last (refl, refl) (so_same sent came w _ refl refl h) go
line_goes sent came w dir (line.Dir s) rest ps last d f h go = absurd (d s refl)
line_goes sent came w dir (line.File s c) rest ps last d f h go = absurd (f s c refl)
line_goes sent came w dir (line.Join c r at) rest ps last d f h go = goes_told sent came w _ rest ps last h go
line_goes sent came w dir (line.Do c r command) rest ps last d f h go = goes_told sent came w _ rest ps last h go
line_goes sent came w dir (line.Up n a now) rest ps last d f h go = goes_brought sent came (at_events w) _ (delivery Up n a now) _ rest ps last (up_brings sent came (at_events w) n now a (so_same sent came w (at_events w) refl refl h)) (rests_up (at_events w) n (count_of a (up_length (numbered w.wires n))) now (so_same sent came w (at_events w) refl refl h).rested) go
line_goes sent came w dir (line.Down n a now) rest ps last d f h go = goes_brought sent came (at_events w) _ (delivery Down n a now) _ rest ps last (down_brings sent came (at_events w) n now a (so_same sent came w (at_events w) refl refl h)) (rests_down (at_events w) n (count_of a (down_length (numbered w.wires n))) now (so_same sent came w (at_events w) refl refl h).rested) go
line_goes sent came w dir (line.Settle at) rest ps last d f h go = goes_told sent came w _ rest ps last h go
line_goes sent came w dir (line.Cut c r) rest ps last d f h go = goes_told sent came w _ rest ps last h go
line_goes sent came w dir (line.Hang n at) rest ps last d f h go = goes_told sent came w _ rest ps last h go
line_goes sent came w dir (line.RawJoin at) rest ps last d f h go = goes_told sent came w _ rest ps last h go
line_goes sent came w dir (line.Raw n bytes) rest ps last d f h go =
    let on = so_same sent came w (at_events w) refl refl h in
    goes_none sent came w _ (Sends n bytes) rest ps last (refl, refl) (record { ways = raw_on_way sent came (at_events w) n bytes on.ways; rested = rests_put (at_events w) n bytes on.rested }) go
line_goes sent came w dir (line.Pass n k server at) rest ps last d f h go = passes_go k sent came (at_events w) n server at rest ps last (so_same sent came w (at_events w) refl refl h) go
line_goes sent came w dir (line.Forge x key file offset count) rest ps last d f h go = forge_changes w sent came x key file offset count rest ps last h go
line_goes sent came w dir (line.Clear x) rest ps last d f h go = clear_changes w sent came x rest ps last h go
line_goes sent came w dir (line.Evict c file) rest ps last d f h go = goes_none sent came w _ (Changes (line.Evict c file)) rest ps last (refl, client_is w.core c _ (numbered w.core.seats c)) (so_same sent came w _ refl (client_sessions w.core c _ (numbered w.core.seats c)) h) go
line_goes sent came w dir (line.Warm c content) rest ps last d f h go = goes_none sent came w _ (Changes (line.Warm c content)) rest ps last (refl, client_is w.core c _ (numbered w.core.seats c)) (so_same sent came w _ refl (client_sessions w.core c _ (numbered w.core.seats c)) h) go

turn_goes : (sent : AllSent) (came : Came) (w : World) (n : ℕ) (l : Line) (t : Turn) (rest : List Moment) (ps : List Part) (last : Core) → asked w n l ≡ Ok t → IsSoFar sent came w → Onward ps rest last (turned w t) → IsRunOf sent came w.core (parts_by (Some l) ++ ps) (turn_moments w t ++ rest) last
turn_goes sent came w n (line.Dir s) t rest ps last e h go =
    let p = dir_place w w.stage s t (within (nat_le n line_most) (asks w (line.Dir s)) t e) in
    subst (λ (z : Turn). Onward ps rest last (turned w z) → IsRunOf sent came w.core (parts_by (Some (line.Dir s)) ++ ps) (turn_moments w z ++ rest) last) (sym p.2)
    (λ go. goes_none sent came w _ (Opens s Directory) rest ps last (refl, (p.0, p.1, refl)) (so_same sent came w _ refl refl h) go) go
turn_goes sent came w n (line.File s c) t rest ps last e h go =
    let p = file_place w w.stage s c t (within (nat_le n line_most) (asks w (line.File s c)) t e) in
    subst (λ (z : Turn). Onward ps rest last (turned w z) → IsRunOf sent came w.core (parts_by (Some (line.File s c)) ++ ps) (turn_moments w z ++ rest) last) (sym p.2)
    (λ go. goes_none sent came w _ (Opens s (File (content_bytes c))) rest ps last (refl, (p.0, p.1, refl)) (so_same sent came w _ refl refl h) go) go
turn_goes sent came w n l t rest ps last e h go =
    let p = asked_turn w n l t e in
    subst (λ (z : Turn). Onward ps rest last (turned w z) → IsRunOf sent came w.core (parts_by (Some l) ++ ps) (turn_moments w z ++ rest) last) (sym p.1)
    (line_goes sent came w p.0 l rest ps last (λ s is. absurd cc) (λ s c is. absurd cc) h) go

-- ---- all lines

abbrev Goes : ℕ → (w v : World) → List (List ℕ) → Type 0
Goes n w v ls = (t : Turn) → run_from (turned w t) (n + 1) ls ≡ Ok v → Onward (parts_of ls) (moments_from (turned w t) (n + 1) ls) v.core (turned w t)

lines_go : (n : ℕ) (w v : World) (ls : List (List ℕ)) → run_from w n ls ≡ Ok v → Onward (parts_of ls) (moments_from w n ls) v.core w
lines_go n w v [] e sent came h = (refl, ap (λ (z : World). z.core) (sym (ended_is w v n _ e)))
lines_go n w v (l ∷ ls) e sent came h = by_line (line_of l) (λ t. lines_go (n + 1) (turned w t) v ls) e
  where
    by_turn : (x : Line) (r : Result Turn LineFault) → asked w n x ≡ r → Goes n w v ls → ran_by w n ls r ≡ Ok v → IsRunOf sent came w.core (parts_by (Some x) ++ parts_of ls) (moments_by w n ls r) v.core
    by_turn x (Err f) is go e = no_world _ v e
    by_turn x (Ok t) is go e = turn_goes sent came w n x t (moments_from (turned w t) (n + 1) ls) (parts_of ls) v.core is h (go t e)

    by_line : (o : Option Line) → Goes n w v ls → ran_by w n ls (asked_by w n o) ≡ Ok v → IsRunOf sent came w.core (parts_by o ++ parts_of ls) (moments_by w n ls (asked_by w n o)) v.core
    by_line None go e = no_world _ v e
    by_line (Some x) go e = by_turn x (asked w n x) refl go e

on_way_first : IsSoFar nothing_sent nothing_came start
on_way_first = record {
  ways = record { count = refl; each = λ side n x q at there. none n q there; none = λ side n at. (refl, refl) };
  rested = record { count = refl; each = λ n q there. none n q there };
}
  where
    none : {A B : Type 0} (n : ℕ) (q : A) → numbered [] n ≡ Some q → B
    none zero q e = nothing_there q e
    none (suc n) q e = nothing_there q e

pub run_chained : (input : List ℕ) (w : World) → run input ≡ Ok w → IsChained input (moments input) w
run_chained input w e = lines_go 1 start w (lines_of input) e nothing_sent nothing_came on_way_first

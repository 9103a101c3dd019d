-- What is on its way on a session is what was sent and didn't come yet: each event leaves it so.
use Rattle.std.proofs.Common.{◌⊎◌, inl, inr, ◌≡◌, ℕ, zero, suc, ◌≤◌, List, [], ◌∷◌, ◌++◌, length, take, drop, Option, Some, None, Bool, true, false, refl, sym, ap, ◌∙◌, subst, arith, append-nil, append_assoc, eq-eqb, ne_eqb, Result, Ok, Err}
use Rattle.server_core.specs.State as server
use Rattle.server_core.specs.declared.event.Event.TheVariants as event
use Rattle.server_core.specs.declared.event.Sent.{Sent}
use Rattle.server_rules.specs.declared.told.Told.{Told}
use Rattle.server_rules.specs.declared.told.Told.TheVariants as told
use Rattle.trace_ends.specs.Session.{new_session}
use Rattle.trace_replay.specs.Chained.{Side, Up, Down, sent_on, sent_to, sent_by, is_shut, unless_shut, bytes_after, bytes_from, AllSent, Came}
use Rattle.wire.specs.declared.fault.WireFault.TheVariants as fault
use Rattle.kept_promise.proofs.Common.{nat_tests, ◌==◌, fed, Unread, nothing_read, slice_get, parse_of, Message, WireFault, server_step, word_of, Core, Seat, Session, Event, Event.Joins, Event.Does, Event.Serves, Event.Hears, Event.Settles, Event.Cuts, Event.Hangs, CoreStep, Loss.Down_of, numbered, with_numbered, session_of, is_newest, joins, joins_as, does, serves, serves_if, hears, hears_at, hears_if, cuts, cuts_if, hangs, hangs_if, server_waits, happens, World, Wire, new_wire, bytes_of, unless, up_put, down_put, down_lost, up_lost, lost_by, happened, Moment, loses, serves_unless, Event.RawJoins, raw_session, raw_joins_as}
use Rattle.kept_promise.proofs.Lists.{some_is, nothing_there, same_or_not, of_appended, count_more, within}
use Rattle.kept_promise.proofs.Turns.{Around, around_with, also_numbered}
use Rattle.kept_promise.proofs.Places.{at_place, becomes, there_is, none_is, own}
use Rattle.kept_promise.proofs.Routes.{bytes_both}
use Rattle.kept_promise.proofs.Deliveries.{all_become, add_up, add_down, downs, downs_in, ups, ups_in, down_is, up_is}
use Rattle.kept_promise.proofs.RunsCarried.{moment}
use Rattle.trace_ends.specs.Core.{commanded_sessions, cut_session, loss_down}
use Rattle.trace_ends.specs.Session.{commanded_session}

-- ---- one way on a session

-- what an end has of a record, of these bytes
abbrev pub end_of : List ℕ → Unread
end_of bytes = (fed nothing_read bytes).0

-- Where the end saw it lost nothing is there. Else what is on its way is what was sent, behind what came, of which the end has what makes no whole record.
abbrev pub IsWay : (lost : Bool) → (queue : List ℕ) → Unread → (came : ℕ) → (sent : List ℕ) → Type 0
IsWay true queue end came sent = (queue ≡ []) × (end ≡ nothing_read) × (sent ≡ [])
IsWay false queue end came sent = (came ≤ length sent) × (queue ≡ drop came sent) × (end ≡ end_of (take came sent))

abbrev pub queue_of : Side → Wire → List ℕ
queue_of Up q = q.up
queue_of Down q = q.down

abbrev pub end_at : Side → Wire → Unread
end_at Up q = q.server_end
end_at Down q = q.client_end

pub take_within : (c : ℕ) (xs ys : List ℕ) → c ≤ length xs → take c (xs ++ ys) ≡ take c xs
take_within zero xs ys le = refl
take_within (suc c) [] ys le = absurd (omega (arith, le))
take_within (suc c) (x ∷ xs) ys le = ap (λ zs. x ∷ zs) (take_within c xs ys (omega (arith, le)))

pub drop_within : (c : ℕ) (xs ys : List ℕ) → c ≤ length xs → drop c (xs ++ ys) ≡ drop c xs ++ ys
drop_within zero xs ys le = refl
drop_within (suc c) [] ys le = absurd (omega (arith, le))
drop_within (suc c) (x ∷ xs) ys le = drop_within c xs ys (omega (arith, le))

longer : (xs ys : List ℕ) (c : ℕ) → c ≤ length xs → c ≤ length (xs ++ ys)
longer [] ys c le = omega (arith, le)
longer (x ∷ xs) ys zero le = omega arith
longer (x ∷ xs) ys (suc c) le = let h = longer xs ys c (omega (arith, le)) in omega (arith, h)

-- more is sent
pub way_next : (lost : Bool) (queue : List ℕ) (end : Unread) (came : ℕ) (sent more : List ℕ) → (lost ≡ true → (queue ≡ []) × (end ≡ nothing_read)) → (lost ≡ false → IsWay false queue end came sent) → IsWay lost (unless lost queue more) end came (unless_shut lost (sent ++ more))
way_next true queue end came sent more shut open_ = (let h = shut refl in (h.0, h.1, refl))
way_next false queue end came sent more shut open_ =
    let h = open_ refl in
    (longer sent more came h.0, ap (λ z. z ++ more) h.1 ∙ sym (drop_within came sent more h.0), h.2 ∙ ap end_of (sym (take_within came sent more h.0)))

-- ---- what is put into a wire

-- the change of one, where it is this
abbrev changed : {A : Type 0} → (A → A) → (is_this : Bool) → A → A
changed f true q = f q
changed f false q = q

-- what these changes make of the wire of a number
abbrev made_of : List (ℕ × (Wire → Wire)) → ℕ → Wire → Wire
made_of [] n q = q
made_of (g ∷ gs) n q = made_of gs n (changed g.1 (g.0 == n) q)

place_count : {A : Type 0} (f : A → A) (ws : List A) (k : ℕ) → length (at_place f ws k) ≡ length ws
place_count f [] k = refl
place_count f (q ∷ qs) zero = refl
place_count f (q ∷ qs) (suc k) = ap suc (place_count f qs k)

become_count : {A : Type 0} (f : A → A) (ws : List A) (n : ℕ) → length (becomes f ws n) ≡ length ws
become_count f ws zero = refl
become_count f ws (suc k) = place_count f ws k

all_count : (gs : List (ℕ × (Wire → Wire))) (ws : List Wire) → length (all_become gs ws) ≡ length ws
all_count [] ws = refl
all_count (g ∷ gs) ws = all_count gs (becomes g.1 ws g.0) ∙ become_count g.1 ws g.0

place_else : {A : Type 0} (f : A → A) (ws : List A) (i k : ℕ) → (i ≡ k → ⊥) → slice_get (at_place f ws i) k ≡ slice_get ws k
place_else f [] i k apart = refl
place_else f (p ∷ ps) zero zero apart = absurd (apart refl)
place_else f (p ∷ ps) zero (suc k) apart = refl
place_else f (p ∷ ps) (suc i) zero apart = refl
place_else f (p ∷ ps) (suc i) (suc k) apart = place_else f ps i k (λ e. apart (ap suc e))

become_else : {A : Type 0} (f : A → A) (ws : List A) (m n : ℕ) → (m ≡ n → ⊥) → numbered (becomes f ws m) n ≡ numbered ws n
become_else f ws zero n apart = refl
become_else f ws (suc i) zero apart = refl
become_else f ws (suc i) (suc k) apart = place_else f ws i k (λ e. apart (ap suc e))

become_at : {A : Type 0} (f : A → A) (ws : List A) (m n : ℕ) (q : A) → numbered ws n ≡ Some q → numbered (becomes f ws m) n ≡ Some (changed f (m == n) q)
become_at f ws m n q e = elim (same_or_not m n) [
  | inl same ↦ ap (numbered (becomes f ws m)) (sym same) ∙ own f ws m q (ap (numbered ws) same ∙ e) ∙ ap (λ (b : Bool). Some (changed f b q)) (sym (eq-eqb m n same))
  | inr apart ↦ become_else f ws m n apart ∙ e ∙ ap (λ (b : Bool). Some (changed f b q)) (sym (ne_eqb m n apart))
]

all_at : (gs : List (ℕ × (Wire → Wire))) (ws : List Wire) (n : ℕ) (q : Wire) → numbered ws n ≡ Some q → numbered (all_become gs ws) n ≡ Some (made_of gs n q)
all_at [] ws n q e = e
all_at (g ∷ gs) ws n q e = all_at gs (becomes g.1 ws g.0) n (changed g.1 (g.0 == n) q) (become_at g.1 ws g.0 n q e)

made_both : (gs hs : List (ℕ × (Wire → Wire))) (n : ℕ) (q : Wire) → made_of (gs ++ hs) n q ≡ made_of hs n (made_of gs n q)
made_both [] hs n q = refl
made_both (g ∷ gs) hs n q = made_both gs hs n (changed g.1 (g.0 == n) q)

nothing_put : (lost : Bool) (queue : List ℕ) → unless lost queue [] ≡ queue
nothing_put true queue = refl
nothing_put false queue = append-nil queue

-- what a step sends up
ups_made : (sessions : List Session) (o : Option ℕ) (ms : List Message) (n : ℕ) (x : Session) (q : Wire) → numbered sessions n ≡ Some x → made_of (ups sessions o ms) n q ≡ record q { up = unless x.hung q.up (bytes_of (sent_on n o ms)) }
ups_made sessions None ms n x q at = ap (λ (z : List ℕ). record q { up = z }) (sym (nothing_put x.hung q.up))
ups_made sessions (Some m) ms n x q at = by (m == n) refl (numbered sessions m) refl
  where
    same : (m == n) ≡ true → m ≡ n
    same e = grind (arith, nat_tests, e)

    by : (b : Bool) → (m == n) ≡ b → (o : Option Session) → numbered sessions m ≡ o → made_of (ups_in m ms o) n q ≡ record q { up = unless x.hung q.up (bytes_of (elim b as (λ (z : Bool). List Message) [ true ↦ ms | false ↦ [] ])) }
    by true e None none = nothing_there x (sym none ∙ ap (numbered sessions) (same e) ∙ at)
    by true e (Some y) some = ap (λ (b : Bool). changed (add_up y.hung (bytes_of ms)) b q) e ∙ ap (λ (z : Session). record q { up = unless z.hung q.up (bytes_of ms) }) (some_is y x (sym some ∙ ap (numbered sessions) (same e) ∙ at))
    by false e None none = ap (λ (z : List ℕ). record q { up = z }) (sym (nothing_put x.hung q.up))
    by false e (Some y) some = ap (λ (b : Bool). changed (add_up y.hung (bytes_of ms)) b q) e ∙ ap (λ (z : List ℕ). record q { up = z }) (sym (nothing_put x.hung q.up))

put_twice : (lost : Bool) (queue : List ℕ) (m : Message) (ms : List Message) → unless lost (unless lost queue (bytes_of (m ∷ []))) (bytes_of ms) ≡ unless lost queue (bytes_of (m ∷ ms))
put_twice true queue m ms = refl
put_twice false queue m ms = append_assoc queue (bytes_of (m ∷ [])) (bytes_of ms) ∙ ap (λ (z : List ℕ). queue ++ z) (sym (bytes_both (m ∷ []) ms))

-- and down
downs_made : (sessions : List Session) (ss : List Sent) (n : ℕ) (x : Session) (q : Wire) → numbered sessions n ≡ Some x → made_of (downs sessions ss) n q ≡ record q { down = unless x.cut q.down (bytes_of (sent_to n ss)) }
downs_made sessions [] n x q at = ap (λ (z : List ℕ). record q { down = z }) (sym (nothing_put x.cut q.down))
downs_made sessions (s ∷ ss) n x q at = made_both (downs_in s (numbered sessions s.session)) (downs sessions ss) n q ∙ by (λ r. downs_made sessions ss n x r at) (s.session == n) refl (numbered sessions s.session) refl
  where
    same : (s.session == n) ≡ true → s.session ≡ n
    same e = grind (arith, nat_tests, e)

    by : ((r : Wire) → made_of (downs sessions ss) n r ≡ record r { down = unless x.cut r.down (bytes_of (sent_to n ss)) }) → (b : Bool) → (s.session == n) ≡ b → (o : Option Session) → numbered sessions s.session ≡ o → made_of (downs sessions ss) n (made_of (downs_in s o) n q) ≡ record q { down = unless x.cut q.down (bytes_of (elim b as (λ (z : Bool). List Message) [ true ↦ s.message ∷ sent_to n ss | false ↦ sent_to n ss ])) }
    by rest true e None none = nothing_there x (sym none ∙ ap (numbered sessions) (same e) ∙ at)
    by rest true e (Some y) some =
        ap (λ (b : Bool). made_of (downs sessions ss) n (changed (add_down y.cut (bytes_of (s.message ∷ []))) b q)) e
        ∙ ap (λ (z : Session). made_of (downs sessions ss) n (add_down z.cut (bytes_of (s.message ∷ [])) q)) (some_is y x (sym some ∙ ap (numbered sessions) (same e) ∙ at))
        ∙ rest (add_down x.cut (bytes_of (s.message ∷ [])) q)
        ∙ ap (λ (z : List ℕ). record q { down = z }) (put_twice x.cut q.down s.message (sent_to n ss))
    by rest false e None none = rest q
    by rest false e (Some y) some = ap (λ (b : Bool). made_of (downs sessions ss) n (changed (add_down y.cut (bytes_of (s.message ∷ []))) b q)) e ∙ rest q

-- ---- what becomes of the wires before that

-- on one way nothing changes, or it is lost now, and nothing is there
abbrev WayLeft : Side → (x y : Session) → (q r : Wire) → Type 0
WayLeft side x y q r = ((is_shut side (Some y) ≡ is_shut side (Some x)) × (queue_of side r ≡ queue_of side q) × (end_at side r ≡ end_at side q)) ⊎ ((is_shut side (Some y) ≡ true) × (queue_of side r ≡ []) × (end_at side r ≡ nothing_read))

-- a session is new, or was there
abbrev Was : List Session → List Wire → ℕ → (y : Session) → (r : Wire) → Type 0
Was sessions ws n y r = ((numbered sessions n ≡ None) × (r ≡ new_wire)) ⊎ ((x : Session) × (q : Wire) × (numbered sessions n ≡ Some x) × (numbered ws n ≡ Some q) × ((side : Side) → WayLeft side x y q r))

record Turned (sessions after : List Session) (ws lost : List Wire) : Type 0 where
  count : length lost ≡ length after
  each : (n : ℕ) (y : Session) (r : Wire) → numbered after n ≡ Some y → numbered lost n ≡ Some r → Was sessions ws n y r
  none : (n : ℕ) → numbered after n ≡ None → numbered sessions n ≡ None

-- sessions that stand as they did
record Stand (sessions after : List Session) : Type 0 where
  count : length after ≡ length sessions
  each : (n : ℕ) (y : Session) → numbered after n ≡ Some y → (x : Session) × (numbered sessions n ≡ Some x) × (y.hung ≡ x.hung) × (y.cut ≡ x.cut)

stand_same : (sessions : List Session) → Stand sessions sessions
stand_same sessions = record { count = refl; each = λ n y at. (y, at, refl, refl) }

stand_with : (sessions : List Session) (m : ℕ) (x y : Session) → numbered sessions m ≡ Some x → y.hung ≡ x.hung → y.cut ≡ x.cut → Stand sessions (with_numbered sessions m y)
stand_with sessions m x y at hung cut = record {
  count = a.count;
  each = λ n z there. elim (same_or_not n m) [
    | inl e ↦ (let same : z ≡ y = some_is z y (sym there ∙ ap (numbered (with_numbered sessions m y)) e ∙ a.there) in (x, ap (numbered sessions) e ∙ at, ap (λ (v : Session). v.hung) same ∙ hung, ap (λ (v : Session). v.cut) same ∙ cut))
    | inr apart ↦ (z, sym (a.others n apart) ∙ there, refl, refl)
  ];
}
  where
    a : Around sessions (with_numbered sessions m y) m y
    a = around_with sessions m x y at

-- what isn't in the longer list isn't in the other
none_too : {A B : Type 0} (xs : List A) (ys : List B) (n : ℕ) → length xs ≡ length ys → numbered xs n ≡ None → numbered ys n ≡ None
none_too xs ys n e none = by (numbered ys n) refl
  where
    by : (o : Option _) → numbered ys n ≡ o → o ≡ None
    by None at = refl
    by (Some y) at = (let x = also_numbered ys xs n y e at in nothing_there x.0 (sym none ∙ x.1))

turned_still : (sessions after : List Session) (ws : List Wire) → length ws ≡ length sessions → Stand sessions after → Turned sessions after ws ws
turned_still sessions after ws count h = record {
  count = count ∙ sym h.count;
  each = λ n y r at there. (let x = h.each n y at in inr (x.0, r, x.1, there, λ side. by side x.0 y r x.2 x.3));
  none = λ n at. none_too after sessions n h.count at;
}
  where
    by : (side : Side) (x y : Session) (r : Wire) → y.hung ≡ x.hung → y.cut ≡ x.cut → WayLeft side x y r r
    by Up x y r hung cut = inl (hung, refl, refl)
    by Down x y r hung cut = inl (cut, refl, refl)

turned_made : (sessions : List Session) (ws : List Wire) (x : Session) → length ws ≡ length sessions → Turned sessions (sessions ++ x ∷ []) ws (ws ++ new_wire ∷ [])
turned_made sessions ws x count = record {
  count = count_more ws new_wire ∙ ap suc count ∙ sym (count_more sessions x);
  each = each;
  none = none;
}
  where
    missing : {A : Type 0} (xs : List A) (k : ℕ) → k ≡ length xs → slice_get xs k ≡ None
    missing [] k e = refl
    missing (y ∷ ys) zero e = absurd (omega (arith, e))
    missing (y ∷ ys) (suc k) e = missing ys k (omega (arith, e))

    by_side : (side : Side) (y : Session) (r : Wire) → WayLeft side y y r r
    by_side side y r = inl (refl, refl, refl)

    at_new : (k : ℕ) (y : Session) (r : Wire) → ((k ≡ length sessions) × (y ≡ x)) ⊎ (slice_get sessions k ≡ Some y) → ((k ≡ length ws) × (r ≡ new_wire)) ⊎ (slice_get ws k ≡ Some r) → Was sessions ws (suc k) y r
    at_new k y r (inl a) (inl b) = inl (missing sessions k a.0, b.1)
    at_new k y r (inl a) (inr b) = (let lt = within ws k r b in let e = a.0 in absurd (omega (arith, lt, e, count)))
    at_new k y r (inr a) (inl b) = (let lt = within sessions k y a in let e = b.0 in absurd (omega (arith, lt, e, count)))
    at_new k y r (inr a) (inr b) = inr (y, r, a, b, λ side. by_side side y r)

    each : (n : ℕ) (y : Session) (r : Wire) → numbered (sessions ++ x ∷ []) n ≡ Some y → numbered (ws ++ new_wire ∷ []) n ≡ Some r → Was sessions ws n y r
    each zero y r at there = nothing_there y at
    each (suc k) y r at there = at_new k y r (of_appended sessions x k y at) (of_appended ws new_wire k r there)

    less : (xs : List Session) (k : ℕ) → slice_get (xs ++ x ∷ []) k ≡ None → slice_get xs k ≡ None
    less [] k e = refl
    less (y ∷ ys) zero e = nothing_there y (sym e)
    less (y ∷ ys) (suc k) e = less ys k e

    none : (n : ℕ) → numbered (sessions ++ x ∷ []) n ≡ None → numbered sessions n ≡ None
    none zero e = refl
    none (suc k) e = less sessions k e

-- a session is lost at one end
turned_lost : (sessions : List Session) (ws : List Wire) (m : ℕ) (x y : Session) (f : Wire → Wire) → length ws ≡ length sessions → numbered sessions m ≡ Some x → ((side : Side) (q : Wire) → WayLeft side x y q (f q)) → Turned sessions (with_numbered sessions m y) ws (becomes f ws m)
turned_lost sessions ws m x y f count at left = record {
  count = become_count f ws m ∙ count ∙ sym a.count;
  each = λ n z r there here. by n z r there (also_numbered (becomes f ws m) ws n r (sym (become_count f ws m)) here) here;
  none = λ n none. none_too (with_numbered sessions m y) sessions n a.count none;
}
  where
    a : Around sessions (with_numbered sessions m y) m y
    a = around_with sessions m x y at

    by : (n : ℕ) (z : Session) (r : Wire) → numbered (with_numbered sessions m y) n ≡ Some z → (w : (q : Wire) × (numbered ws n ≡ Some q)) → numbered (becomes f ws m) n ≡ Some r → Was sessions ws n z r
    by n z r there (q, was) here = elim (same_or_not m n) [
      | inl e ↦
          let z_is : z ≡ y = some_is z y (sym there ∙ ap (numbered (with_numbered sessions m y)) (sym e) ∙ a.there) in
          let r_is : r ≡ f q = some_is r (f q) (sym here ∙ become_at f ws m n q was ∙ ap (λ (b : Bool). Some (changed f b q)) (eq-eqb m n e)) in
          inr (x, q, ap (numbered sessions) (sym e) ∙ at, was, λ side. subst (λ (v : Session). WayLeft side x v q r) (sym z_is) (subst (WayLeft side x y q) (sym r_is) (left side q)))
      | inr apart ↦
          let r_is : r ≡ q = some_is r q (sym here ∙ become_at f ws m n q was ∙ ap (λ (b : Bool). Some (changed f b q)) (ne_eqb m n apart)) in
          inr (z, q, sym (a.others n (λ e. apart (sym e))) ∙ there, was, λ side. subst (WayLeft side z z q) (sym r_is) (inl (refl, refl, refl)))
    ]

-- ---- each event

-- what is known of the step of an event
abbrev TurnedBy : Core → List Wire → CoreStep → Type 0
TurnedBy k ws t = Turned k.sessions t.core.sessions ws (lost_by ws t.loss)

abbrev no_down : Wire → Wire
no_down q = record q { down = []; client_end = nothing_read }

abbrev no_up : Wire → Wire
no_up q = record q { up = []; server_end = nothing_read }

-- the server loses a session, or closes it
loses_turned : (k : Core) (ws : List Wire) (n : ℕ) (x : Session) → length ws ≡ length k.sessions → numbered k.sessions n ≡ Some x → TurnedBy k ws (loses k n x)
loses_turned k ws n x count e = subst (Turned k.sessions (with_numbered k.sessions n (record x { hung = true })) ws) (sym (lost (numbered ws n) refl)) (turned_lost k.sessions ws n x (record x { hung = true }) no_up count e left)
  where
    left : (side : Side) (q : Wire) → WayLeft side x (record x { hung = true }) q (no_up q)
    left Up q = inr (refl, refl, refl)
    left Down q = inl (refl, refl, refl)

    lost : (o : Option Wire) → numbered ws n ≡ o → up_lost ws n o ≡ becomes no_up ws n
    lost None e = sym (none_is no_up ws n e)
    lost (Some q) e = there_is no_up ws n q e

event_turned : (k : Core) (ws : List Wire) (e : Event) → length ws ≡ length k.sessions → TurnedBy k ws (happens k e)
event_turned k ws (Joins c) count = by (numbered k.seats c)
  where
    made : (seat : Seat) (s : server.State) (t : Told) → TurnedBy k ws (joins_as k c seat s t)
    made seat s (told.Session n) = turned_made k.sessions ws (new_session c) count
    made seat s _ = turned_still k.sessions k.sessions ws count (stand_same k.sessions)

    by : (o : Option Seat) → TurnedBy k ws (joins k c o)
    by None = turned_still k.sessions k.sessions ws count (stand_same k.sessions)
    by (Some seat) = (let r = server_step k.server event.Connect in made seat r.0 r.1.told)
event_turned k ws (Does c now d) count = by (numbered k.seats c)
  where
    stands : (o : Option ℕ) (running : Option ℕ) (place : ℕ) (acts : _) → Stand k.sessions (commanded_sessions k.sessions o (session_of k.sessions o) running place (word_of d) acts)
    stands None running place acts = stand_same k.sessions
    stands (Some n) running place acts = at (numbered k.sessions n) refl
      where
        at : (x : Option Session) → numbered k.sessions n ≡ x → Stand k.sessions (commanded_sessions k.sessions (Some n) x running place (word_of d) acts)
        at None e = stand_same k.sessions
        at (Some x) e = stand_with k.sessions n x (commanded_session x running place (word_of d) acts) e refl refl

    by : (o : Option Seat) → TurnedBy k ws (does k c now d o)
    by None = turned_still k.sessions k.sessions ws count (stand_same k.sessions)
    by (Some seat) = turned_still k.sessions _ ws count (stands seat.session seat.place (length k.ops) _)
event_turned k ws (Serves n now bytes) count = by (numbered k.sessions n) refl
  where
    got : (x : Session) → numbered k.sessions n ≡ Some x → (r : Result Message WireFault) → TurnedBy k ws (serves_if k n now x r)
    got x at (Ok m) = turned_still k.sessions _ ws count (stand_with k.sessions n x _ at refl refl)
    got x at (Err (fault.UnknownXid xid)) = turned_still k.sessions k.sessions ws count (stand_same k.sessions)
    got x at (Err (fault.NotRpc place)) = loses_turned k ws n x count at
    got x at (Err (fault.Garbage place)) = loses_turned k ws n x count at

    heard_by : (x : Session) → numbered k.sessions n ≡ Some x → (b : Bool) → TurnedBy k ws (serves_unless k n now bytes x b)
    heard_by x at true = turned_still k.sessions k.sessions ws count (stand_same k.sessions)
    heard_by x at false = got x at (parse_of (server_waits k n) bytes)

    by : (o : Option Session) → numbered k.sessions n ≡ o → TurnedBy k ws (serves k n now bytes o)
    by None at = turned_still k.sessions k.sessions ws count (stand_same k.sessions)
    by (Some x) at = heard_by x at x.hung
event_turned k ws (Hears n now bytes) count = by (numbered k.sessions n)
  where
    heard : (owner : ℕ) (seat : Seat) (b : Bool) → TurnedBy k ws (hears_if k owner now seat bytes b)
    heard owner seat true = turned_still k.sessions k.sessions ws count (stand_same k.sessions)
    heard owner seat false = turned_still k.sessions k.sessions ws count (stand_same k.sessions)

    there : (owner : ℕ) (o : Option Seat) → TurnedBy k ws (hears_at k n owner now bytes o)
    there owner None = turned_still k.sessions k.sessions ws count (stand_same k.sessions)
    there owner (Some seat) = heard owner seat (is_newest seat.session n)

    by : (o : Option Session) → TurnedBy k ws (hears k n now bytes o)
    by None = turned_still k.sessions k.sessions ws count (stand_same k.sessions)
    by (Some x) = there x.owner (numbered k.seats x.owner)
event_turned k ws (Settles now) count = turned_still k.sessions k.sessions ws count (stand_same k.sessions)
event_turned k ws (Cuts c) count = by (numbered k.seats c)
  where
    left : (x : Session) (side : Side) (q : Wire) → WayLeft side x (record x { cut = true }) q (no_down q)
    left x Up q = inl (refl, refl, refl)
    left x Down q = inr (refl, refl, refl)

    -- its wire
    lost : (n : ℕ) (o : Option Wire) → numbered ws n ≡ o → down_lost ws n o ≡ becomes no_down ws n
    lost n None e = sym (none_is no_down ws n e)
    lost n (Some q) e = there_is no_down ws n q e

    at : (n : ℕ) (o : Option Session) → numbered k.sessions n ≡ o → Turned k.sessions (cut_session k.sessions (Some n) o) ws (lost_by ws (Down_of n))
    at n None e = subst (Turned k.sessions k.sessions ws) (sym (lost n (numbered ws n) refl ∙ none_is no_down ws n (none_too k.sessions ws n (sym count) e))) (turned_still k.sessions k.sessions ws count (stand_same k.sessions))
    at n (Some x) e = subst (Turned k.sessions (with_numbered k.sessions n (record x { cut = true })) ws) (sym (lost n (numbered ws n) refl)) (turned_lost k.sessions ws n x (record x { cut = true }) no_down count e (left x))

    ended : (o : Option ℕ) → Turned k.sessions (cut_session k.sessions o (session_of k.sessions o)) ws (lost_by ws (loss_down o))
    ended None = turned_still k.sessions k.sessions ws count (stand_same k.sessions)
    ended (Some n) = at n (numbered k.sessions n) refl

    linked : (seat : Seat) (b : Bool) → TurnedBy k ws (cuts_if k c seat b)
    linked seat true = ended seat.session
    linked seat false = turned_still k.sessions k.sessions ws count (stand_same k.sessions)

    by : (o : Option Seat) → TurnedBy k ws (cuts k c o)
    by None = turned_still k.sessions k.sessions ws count (stand_same k.sessions)
    by (Some seat) = linked seat seat.client.linked
event_turned k ws (Hangs n) count = by (numbered k.sessions n) refl
  where
    at : (x : Session) → numbered k.sessions n ≡ Some x → (b : Bool) → TurnedBy k ws (hangs_if k n x b)
    at x e true = turned_still k.sessions k.sessions ws count (stand_same k.sessions)
    at x e false = loses_turned k ws n x count e

    by : (o : Option Session) → numbered k.sessions n ≡ o → TurnedBy k ws (hangs k n o)
    by None e = turned_still k.sessions k.sessions ws count (stand_same k.sessions)
    by (Some x) e = at x e x.hung
event_turned k ws RawJoins count = (let r = server_step k.server event.Connect in made r.0 r.1.told)
  where
    made : (s : server.State) (t : Told) → TurnedBy k ws (raw_joins_as k s t)
    made s (told.Session n) = turned_made k.sessions ws raw_session count
    made s _ = turned_still k.sessions k.sessions ws count (stand_same k.sessions)

-- ---- all ways

-- on each session what is on its way is what was sent and didn't come; on one that isn't there nothing was sent
pub record AreOnWay (sent : AllSent) (came : Came) (w : World) : Type 0 where
  pub count : length w.wires ≡ length w.core.sessions
  pub each : (side : Side) (n : ℕ) (x : Session) (q : Wire) → numbered w.core.sessions n ≡ Some x → numbered w.wires n ≡ Some q → IsWay (is_shut side (Some x)) (queue_of side q) (end_at side q) (came side n) (sent side n)
  pub none : (side : Side) (n : ℕ) → numbered w.core.sessions n ≡ None → (came side n ≡ 0) × (sent side n ≡ [])

-- what is sent then at a moment, and at moments in a row
abbrev pub sent_then : AllSent → Moment → AllSent
sent_then sent m side n = bytes_after side n (sent side n) m

abbrev pub sent_all : AllSent → List Moment → AllSent
sent_all sent ms side n = bytes_from side n (sent side n) ms

-- what a wire is after what a step puts into it
put_at : (k : Core) (t : CoreStep) (lost : List Wire) (n : ℕ) (y : Session) (r z : Wire) → numbered t.core.sessions n ≡ Some y → numbered lost n ≡ Some r → numbered (down_put t.core.sessions (up_put t.core.sessions lost t.session t.up) t.down) n ≡ Some z
    → (side : Side) → (queue_of side z ≡ unless (is_shut side (Some y)) (queue_of side r) (bytes_of (sent_by side n t))) × (end_at side z ≡ end_at side r)
put_at k t lost n y r z at there is side = by side
  where
    s : List Session
    s = t.core.sessions

    z_is : z ≡ record r { up = unless y.hung r.up (bytes_of (sent_on n t.session t.up)); down = unless y.cut r.down (bytes_of (sent_to n t.down)) }
    z_is = some_is z _ (sym is
        ∙ ap (λ (ws : List Wire). numbered ws n) (down_is t.core.sessions (up_put t.core.sessions lost t.session t.up) t.down)
        ∙ ap (λ (ws : List Wire). numbered (all_become (downs t.core.sessions t.down) ws) n) (up_is t.core.sessions lost t.session t.up)
        ∙ all_at (downs t.core.sessions t.down) (all_become (ups t.core.sessions t.session t.up) lost) n (made_of (ups t.core.sessions t.session t.up) n r) (all_at (ups t.core.sessions t.session t.up) lost n r there)
        ∙ ap (λ (v : Wire). Some (made_of (downs t.core.sessions t.down) n v)) (ups_made t.core.sessions t.session t.up n y r at)
        ∙ ap (λ (v : Wire). Some v) (downs_made t.core.sessions t.down n y (record r { up = unless y.hung r.up (bytes_of (sent_on n t.session t.up)) }) at))

    by : (side : Side) → (queue_of side z ≡ unless (is_shut side (Some y)) (queue_of side r) (bytes_of (sent_by side n t))) × (end_at side z ≡ end_at side r)
    by Up = (ap (λ (v : Wire). v.up) z_is, ap (λ (v : Wire). v.server_end) z_is)
    by Down = (ap (λ (v : Wire). v.down) z_is, ap (λ (v : Wire). v.client_end) z_is)

pub on_way_next : (sent : AllSent) (came : Came) (w : World) (e : Event) → AreOnWay sent came w → AreOnWay (sent_then sent (moment w.core e)) came (happened w e)
on_way_next sent came w e h = record {
  count = wires_count ∙ turned.count;
  each = each;
  none = λ side n at. ((h.none side n (turned.none n at)).0, ap (λ (o : Option Session). unless_shut (is_shut side o) (sent side n ++ bytes_of (sent_by side n t))) at);
}
  where
    t : CoreStep
    t = happens w.core e

    lost : List Wire
    lost = lost_by w.wires (happens w.core e).loss

    turned : Turned w.core.sessions (happens w.core e).core.sessions w.wires (lost_by w.wires (happens w.core e).loss)
    turned = event_turned w.core w.wires e h.count

    wires_count : length (happened w e).wires ≡ length (lost_by w.wires (happens w.core e).loss)
    wires_count =
        ap length (down_is (happens w.core e).core.sessions (up_put (happens w.core e).core.sessions (lost_by w.wires (happens w.core e).loss) (happens w.core e).session (happens w.core e).up) (happens w.core e).down)
        ∙ all_count (downs (happens w.core e).core.sessions (happens w.core e).down) (up_put (happens w.core e).core.sessions (lost_by w.wires (happens w.core e).loss) (happens w.core e).session (happens w.core e).up)
        ∙ ap length (up_is (happens w.core e).core.sessions (lost_by w.wires (happens w.core e).loss) (happens w.core e).session (happens w.core e).up)
        ∙ all_count (ups (happens w.core e).core.sessions (happens w.core e).session (happens w.core e).up) (lost_by w.wires (happens w.core e).loss)

    shut_before : (side : Side) (n : ℕ) (y : Session) (r : Wire) → Was w.core.sessions w.wires n y r → is_shut side (Some y) ≡ true → (queue_of side r ≡ []) × (end_at side r ≡ nothing_read)
    shut_before side n y r (inl new) shut = subst (λ (v : Wire). (queue_of side v ≡ []) × (end_at side v ≡ nothing_read)) (sym new.1) (by side)
      where
        by : (side : Side) → (queue_of side new_wire ≡ []) × (end_at side new_wire ≡ nothing_read)
        by Up = (refl, refl)
        by Down = (refl, refl)
    shut_before side n y r (inr (x, q, at, there, left)) shut = elim (left side) [
      | inr gone ↦ (gone.1, gone.2)
      | inl same ↦
          let was : is_shut side (Some x) ≡ true = sym same.0 ∙ shut in
          let way = subst (λ (b : Bool). IsWay b (queue_of side q) (end_at side q) (came side n) (sent side n)) was (h.each side n x q at there) in
          (same.1 ∙ way.0, same.2 ∙ way.1)
    ]

    open_before : (side : Side) (n : ℕ) (y : Session) (r : Wire) → Was w.core.sessions w.wires n y r → is_shut side (Some y) ≡ false → IsWay false (queue_of side r) (end_at side r) (came side n) (sent side n)
    open_before side n y r (inl new) shut =
        let none = h.none side n new.0 in
        subst (λ (v : Wire). IsWay false (queue_of side v) (end_at side v) (came side n) (sent side n)) (sym new.1)
        (subst (λ (c : ℕ). IsWay false (queue_of side new_wire) (end_at side new_wire) c (sent side n)) (sym none.0)
        (subst (λ (b : List ℕ). IsWay false (queue_of side new_wire) (end_at side new_wire) 0 b) (sym none.1) (by side)))
      where
        by : (side : Side) → IsWay false (queue_of side new_wire) (end_at side new_wire) 0 []
        by Up = (omega arith, refl, refl)
        by Down = (omega arith, refl, refl)
    open_before side n y r (inr (x, q, at, there, left)) shut = elim (left side) [
      | inr gone ↦ absurd (both (is_shut side (Some y)) gone.0 shut)
      | inl same ↦
          let was : is_shut side (Some x) ≡ false = sym same.0 ∙ shut in
          let way = subst (λ (b : Bool). IsWay b (queue_of side q) (end_at side q) (came side n) (sent side n)) was (h.each side n x q at there) in
          (way.0, same.1 ∙ way.1, same.2 ∙ way.2)
    ]
      where
        both : (b : Bool) → b ≡ true → b ≡ false → ⊥
        both b e f = absurd cc

    each : (side : Side) (n : ℕ) (y : Session) (z : Wire) → numbered (happens w.core e).core.sessions n ≡ Some y → numbered (happened w e).wires n ≡ Some z → IsWay (is_shut side (Some y)) (queue_of side z) (end_at side z) (came side n) (sent_then sent (moment w.core e) side n)
    each side n y z at is =
        let there = also_numbered (happened w e).wires (lost_by w.wires (happens w.core e).loss) n z (sym wires_count) is in
        let r : Wire = there.0 in
        let put = put_at w.core (happens w.core e) (lost_by w.wires (happens w.core e).loss) n y there.0 z at there.1 is side in
        let was = turned.each n y there.0 at there.1 in
        let more : sent_then sent (moment w.core e) side n ≡ unless_shut (is_shut side (Some y)) (sent side n ++ bytes_of (sent_by side n (happens w.core e))) = ap (λ (o : Option Session). unless_shut (is_shut side o) (sent side n ++ bytes_of (sent_by side n (happens w.core e)))) at in
        subst (IsWay (is_shut side (Some y)) (queue_of side z) (end_at side z) (came side n)) (sym more)
        (subst (λ (v : List ℕ). IsWay (is_shut side (Some y)) v (end_at side z) (came side n) (unless_shut (is_shut side (Some y)) (sent side n ++ bytes_of (sent_by side n (happens w.core e))))) (sym put.0)
        (subst (λ (v : Unread). IsWay (is_shut side (Some y)) (unless (is_shut side (Some y)) (queue_of side there.0) (bytes_of (sent_by side n (happens w.core e)))) v (came side n) (unless_shut (is_shut side (Some y)) (sent side n ++ bytes_of (sent_by side n (happens w.core e))))) (sym put.1)
        (way_next (is_shut side (Some y)) (queue_of side there.0) (end_at side there.0) (came side n) (sent side n) (bytes_of (sent_by side n (happens w.core e))) (shut_before side n y there.0 was) (open_before side n y there.0 was))))

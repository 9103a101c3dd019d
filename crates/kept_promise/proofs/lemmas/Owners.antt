-- What the owners of the sessions are, and the stage, once a line was run.
use Rattle.std.proofs.Common.{◌≡◌, ℕ, zero, suc, List, [], ◌∷◌, ◌++◌, length, Option, Some, None, Bool, true, false, refl, sym, ap, ◌∙◌, map, take, subst}
use Rattle.trace_text.specs.declared.line.Who.TheVariants as who
use Rattle.server_core.specs.declared.event.Event.TheVariants as event
use Rattle.cache_file.specs.Items.{items}
use Rattle.client_state.specs.Hints.{warms}
use Rattle.client_state.specs.State as client
use Rattle.command_text.specs.Content.{content_bytes}
use Rattle.trace_ends.specs.Core.{with_client, adjusted}
use Rattle.trace_replay.specs.World.{adjusts}
use Rattle.trace_ends.specs.declared.adjusting.Adjustment.{Adjustment}
use Rattle.trace_ends.specs.declared.adjusting.Adjustment.TheVariants as adjustment
use Rattle.trace_replay.specs.declared.stage.Stage.{Stage}
use Rattle.trace_replay.specs.declared.stage.Stage.TheVariants as stage
use Rattle.trace_replay.specs.declared.turn.Turn.TheVariants as turn
use Rattle.kept_promise.proofs.Common.{slice_get, slice_set, fed, has_room, connect, command_step, ClientStep, Word, Turn, Core, Seat, Session, CoreStep, Event, Event.Joins, Event.Does, Event.Serves, Event.Hears, Event.Settles, Event.Cuts, Event.Hangs, new_session, numbered, with_numbered, session_of, commanded_sessions, cut_session, joins, joins_as, happens, World, Wire, happened, all_happened, up_some, up_at, down_some, down_at, up_all, up_length, down_length, is_still, round, passes, at_events, count_of, turned, owners_of, Event.RawJoins, raw_joins_as, raw_session}
use Rattle.kept_promise.proofs.RecallsKept.{step_term}
use Rattle.kept_promise.proofs.Lists.{nothing_there}
use Rattle.kept_promise.proofs.Happens.{what_happens}

abbrev owners : List Session → List ℕ
owners xs = map (λ x. x.owner) xs

set_owner : (xs : List Session) (i : ℕ) (x y : Session) → slice_get xs i ≡ Some x → y.owner ≡ x.owner → owners (slice_set xs i y) ≡ owners xs
set_owner [] i x y at same = nothing_there x at
set_owner (z ∷ xs) zero x y at same = ap (λ o. o ∷ owners xs) (same ∙ sym (ap owner_in at))
  where
    owner_in : Option Session → ℕ
    owner_in (Some s) = s.owner
    owner_in None = 0
set_owner (z ∷ xs) (suc i) x y at same = ap (λ l. z.owner ∷ l) (set_owner xs i x y at same)

with_owner : (xs : List Session) (n : ℕ) (x y : Session) → numbered xs n ≡ Some x → y.owner ≡ x.owner → owners (with_numbered xs n y) ≡ owners xs
with_owner xs zero x y at same = nothing_there x at
with_owner xs (suc i) x y at same = set_owner xs i x y at same

-- ---- an event that makes no session

abbrev Keeps : Core → CoreStep → Type 0
Keeps k t = owners t.core.sessions ≡ owners k.sessions

commanded_keeps : (k : Core) (o : Option ℕ) (x : Option Session) → session_of k.sessions o ≡ x → (running : Option ℕ) (place : ℕ) (what : Word) (acts : ClientStep) → owners (commanded_sessions k.sessions o x running place what acts) ≡ owners k.sessions
commanded_keeps k (Some n) (Some x) at running place what acts = with_owner k.sessions n x _ at refl
commanded_keeps k _ _ at running place what acts = refl

cut_keeps : (k : Core) (o : Option ℕ) (x : Option Session) → session_of k.sessions o ≡ x → owners (cut_session k.sessions o x) ≡ owners k.sessions
cut_keeps k (Some n) (Some x) at = with_owner k.sessions n x _ at refl
cut_keeps k _ _ at = refl

abbrev MakesNone : Event → Type 0
MakesNone (Joins n) = ⊥
MakesNone RawJoins = ⊥
MakesNone e = Unit {0}

happens_keeps : (k : Core) (e : Event) → MakesNone e → Keeps k (happens k e)
happens_keeps k e m = what_happens k e (Keeps k) (record {
  nothing = refl;
  idle = refl;
  joins = λ c seat is. absurd (subst MakesNone is m);
  refuses = λ c seat is. refl;
  does = λ c now d seat is. commanded_keeps k seat.session (session_of k.sessions seat.session) refl seat.place (length k.ops) _ (command_step seat.client d now).1;
  takes = λ n now bytes x z is at stands read. with_owner k.sessions n x _ at refl;
  closes = λ n now bytes x is at stands. with_owner k.sessions n x _ at refl;
  raw_joins = λ is. absurd (subst MakesNone is m);
  raw_refuses = λ is. refl;
  hears = λ n now bytes owner seat is. refl;
  settles = λ now is. refl;
  cuts = λ c seat is. cut_keeps k seat.session (session_of k.sessions seat.session) refl;
  hangs = λ n x is at stands. with_owner k.sessions n x _ at refl;
})

-- ---- the header

-- for how long leases are granted, and how far clocks may drift apart
abbrev pub header_of : Core → ℕ × ℕ
header_of k = (k.server.leasing.term, k.drift)

term_alone : (k : Core) (t : ℕ) → t ≡ k.server.leasing.term → (t, k.drift) ≡ header_of k
term_alone k t e = ap (λ (x : ℕ). (x, k.drift)) e

-- no event changes it
pub happens_header : (k : Core) (e : Event) → header_of (happens k e).core ≡ header_of k
happens_header k e = what_happens k e (λ t. header_of t.core ≡ header_of k) (record {
  nothing = refl;
  idle = refl;
  joins = λ c seat is. refl;
  refuses = λ c seat is. refl;
  does = λ c now d seat is. refl;
  takes = λ n now bytes x m is at stands read. term_alone k _ (step_term k.server false (event.Got n m now));
  closes = λ n now bytes x is at stands. term_alone k _ (step_term k.server false (event.Hang n));
  raw_joins = λ is. refl;
  raw_refuses = λ is. refl;
  hears = λ n now bytes owner seat is. refl;
  settles = λ now is. term_alone k _ (step_term k.server false (event.Settle now));
  cuts = λ c seat is. refl;
  hangs = λ n x is at stands. term_alone k _ (step_term k.server false (event.Hang n));
})

-- ---- the world

-- the stage, the owners and the header stay
pub record Same (w v : World) : Type 0 where
  pub stage : v.stage ≡ w.stage
  pub header : header_of v.core ≡ header_of w.core
  pub owners : owners_of v ≡ owners_of w

same : (w : World) → Same w w
same w = record { stage = refl; header = refl; owners = refl }

and_then : (w v u : World) → Same w v → Same v u → Same w u
and_then w v u a b = record { stage = b.stage ∙ a.stage; header = b.header ∙ a.header; owners = b.owners ∙ a.owners }

pub happened_same : (w : World) (e : Event) → MakesNone e → Same w (happened w e)
happened_same w e m = record { stage = refl; header = happens_header w.core e; owners = happens_keeps w.core e m }

serve_all : (w : World) (n now : ℕ) (rs : List (List ℕ)) → Same w (all_happened w (map (Serves n now) rs))
serve_all w n now [] = same w
serve_all w n now (r ∷ rs) = and_then w (happened w (Serves n now r)) _ (happened_same w (Serves n now r) tt) (serve_all (happened w (Serves n now r)) n now rs)

hear_all : (w : World) (n now : ℕ) (rs : List (List ℕ)) → Same w (all_happened w (map (Hears n now) rs))
hear_all w n now [] = same w
hear_all w n now (r ∷ rs) = and_then w (happened w (Hears n now r)) _ (happened_same w (Hears n now r) tt) (hear_all (happened w (Hears n now r)) n now rs)

pub up_same : (w : World) (n count now : ℕ) → Same w (up_some w n count now)
up_same w n count now = by (numbered w.wires n)
  where
    by : (o : Option Wire) → Same w (up_at w n count now o)
    by None = same w
    by (Some q) = let h = serve_all (Rattle.trace_replay.specs.Delivery.up_taken w n count q) n now (Rattle.trace_replay.specs.Delivery.taken_up (fed q.server_end (take count q.up)).1) in record { stage = h.stage; header = h.header; owners = h.owners }

down_same : (w : World) (n count now : ℕ) → Same w (down_some w n count now)
down_same w n count now = by (numbered w.wires n)
  where
    by : (o : Option Wire) → Same w (down_at w n count now o)
    by None = same w
    by (Some q) = let h = hear_all (Rattle.trace_replay.specs.Delivery.down_taken w n count q) n now (fed q.client_end (take count q.down)).1.records in record { stage = h.stage; header = h.header; owners = h.owners }

pub round_same : (w : World) (n server at : ℕ) → Same w (round w n server at)
round_same w n server at = and_then w (up_all w n server) _ (up_same w n (up_length (numbered w.wires n)) server) (down_same (up_all w n server) n (down_length (numbered (up_all w n server).wires n)) at)

passes_same : (k : ℕ) (w : World) (n server at : ℕ) → Same w (passes k w n server at)
passes_same zero w n server at = same w
passes_same (suc k) w n server at = by (is_still w n) (passes_same k (round w n server at) n server at)
  where
    by : (b : Bool) → Same (round w n server at) (passes k (round w n server at) n server at) → Same w (elim b as (λ (x : Bool). World) [ true ↦ w | false ↦ passes k (round w n server at) n server at ])
    by true later = same w
    by false later = and_then w (round w n server at) _ (round_same w n server at) later

-- ---- an index or a cache alone

client_sessions : (k : Core) (number : ℕ) (change : client.State → client.State) (o : Option Seat) → (with_client k number change o).sessions ≡ k.sessions
client_sessions k number change None = refl
client_sessions k number change (Some seat) = refl

adjusted_sessions : (k : Core) (a : Adjustment) → (adjusted k a).sessions ≡ k.sessions
adjusted_sessions k (adjustment.Forge who.Server key place) = refl
adjusted_sessions k (adjustment.Forge (who.Client c) key place) = client_sessions k c (λ s. client.forged s key place) (numbered k.seats c)
adjusted_sessions k (adjustment.Clear who.Server) = refl
adjusted_sessions k (adjustment.Clear (who.Client c)) = client_sessions k c client.index_cleared (numbered k.seats c)
adjusted_sessions k (adjustment.Evict c file) = client_sessions k c (λ s. client.evicted s file) (numbered k.seats c)
adjusted_sessions k (adjustment.Warm c content) = client_sessions k c (λ s. warms s (items (content_bytes content))) (numbered k.seats c)

client_header : (k : Core) (number : ℕ) (change : client.State → client.State) (o : Option Seat) → header_of (with_client k number change o) ≡ header_of k
client_header k number change None = refl
client_header k number change (Some seat) = refl

adjusted_header : (k : Core) (a : Adjustment) → header_of (adjusted k a) ≡ header_of k
adjusted_header k (adjustment.Forge who.Server key place) = refl
adjusted_header k (adjustment.Forge (who.Client c) key place) = client_header k c (λ s. client.forged s key place) (numbered k.seats c)
adjusted_header k (adjustment.Clear who.Server) = refl
adjusted_header k (adjustment.Clear (who.Client c)) = client_header k c client.index_cleared (numbered k.seats c)
adjusted_header k (adjustment.Evict c file) = client_header k c (λ s. client.evicted s file) (numbered k.seats c)
adjusted_header k (adjustment.Warm c content) = client_header k c (λ s. warms s (items (content_bytes content))) (numbered k.seats c)

adjusts_same : (w : World) (a : Adjustment) → Same w (adjusts w a)
adjusts_same w a = record { stage = refl; header = adjusted_header w.core a; owners = ap (λ (xs : List Session). owners xs) (adjusted_sessions w.core a) }

-- ---- a turn

abbrev pub stage_after : Stage → Turn → Stage
stage_after s turn.Skip = s
stage_after s (turn.Version n) = stage.Term
stage_after s (turn.Term n) = stage.Drift
stage_after s (turn.Drift n) = stage.Clients
stage_after s (turn.Clients n) = stage.Files
stage_after s (turn.Dir dir name) = s
stage_after s (turn.File dir name content) = s
stage_after s t = stage.Events

abbrev pub owners_after : (owners : List ℕ) → (joins : Bool) → Turn → List ℕ
owners_after os true (turn.Join c) = os ++ c ∷ []
owners_after os true turn.RawJoin = os ++ 0 ∷ []
owners_after os b t = os

abbrev pub header_after : ℕ × ℕ → Turn → ℕ × ℕ
header_after h (turn.Term n) = (n, h.1)
header_after h (turn.Drift n) = (h.0, n)
header_after h t = h

pub record TurnedTo (w v : World) (t : Turn) (joins : Bool) : Type 0 where
  pub stage : v.stage ≡ stage_after w.stage t
  pub header : header_of v.core ≡ header_after (header_of w.core) t
  pub owners : owners_of v ≡ owners_after (owners_of w) joins t

owners_one : (xs : List Session) (x : Session) → owners (xs ++ x ∷ []) ≡ owners xs ++ x.owner ∷ []
owners_one [] x = refl
owners_one (z ∷ xs) x = ap (λ l. z.owner ∷ l) (owners_one xs x)

joined_to : (w : World) (c : ℕ) (seat : Seat) → numbered w.core.seats c ≡ Some seat → has_room w.core.server ≡ true → owners_of (happened (at_events w) (Joins c)) ≡ owners_of w ++ c ∷ []
joined_to w c seat at room = ap (λ (o : Option Seat). owners (joins w.core c o).core.sessions) at ∙ ap (λ (b : Bool). let r = connect w.core.server b in owners (joins_as w.core c seat r.0 r.1.told).core.sessions) room ∙ owners_one w.core.sessions (new_session c)

raw_joined_to : (w : World) → has_room w.core.server ≡ true → owners_of (happened (at_events w) RawJoins) ≡ owners_of w ++ 0 ∷ []
raw_joined_to w room = ap (λ (b : Bool). let r = connect w.core.server b in owners (raw_joins_as w.core r.0 r.1.told).core.sessions) room ∙ owners_one w.core.sessions raw_session

by_same : (w v : World) (t : Turn) → stage_after w.stage t ≡ stage.Events → header_after (header_of w.core) t ≡ header_of w.core → owners_after (owners_of w) true t ≡ owners_of w → Same (at_events w) v → TurnedTo w v t true
by_same w v t s g o h = record { stage = h.stage ∙ sym s; header = h.header ∙ sym g; owners = h.owners ∙ sym o }

-- where a session is made there is room for it
abbrev pub MayTurn : World → Turn → Type 0
MayTurn w (turn.Join c) = ((seat : Seat) × (numbered w.core.seats c ≡ Some seat)) × (has_room w.core.server ≡ true)
MayTurn w turn.RawJoin = has_room w.core.server ≡ true
MayTurn w t = Unit {0}

pub turned_to : (w : World) (t : Turn) → MayTurn w t → TurnedTo w (turned w t) t true
turned_to w (turn.Join c) m = record { stage = refl; header = happens_header w.core (Joins c); owners = joined_to w c m.0.0 m.0.1 m.1 }
turned_to w (turn.Do c now k) m = by_same w _ (turn.Do c now k) refl refl refl (happened_same (at_events w) (Does c now k) tt)
turned_to w (turn.Up n a now) m = by_same w _ (turn.Up n a now) refl refl refl (up_same (at_events w) n (count_of a (up_length (numbered w.wires n))) now)
turned_to w (turn.Down n a now) m = by_same w _ (turn.Down n a now) refl refl refl (down_same (at_events w) n (count_of a (down_length (numbered w.wires n))) now)
turned_to w (turn.Settle now) m = by_same w _ (turn.Settle now) refl refl refl (happened_same (at_events w) (Settles now) tt)
turned_to w (turn.Cut c) m = by_same w _ (turn.Cut c) refl refl refl (happened_same (at_events w) (Cuts c) tt)
turned_to w (turn.Hang n) m = by_same w _ (turn.Hang n) refl refl refl (happened_same (at_events w) (Hangs n) tt)
turned_to w turn.RawJoin m = record { stage = refl; header = happens_header w.core RawJoins; owners = raw_joined_to w m }
turned_to w (turn.Raw n bytes) m = by_same w _ (turn.Raw n bytes) refl refl refl (record { stage = refl; header = refl; owners = refl })
turned_to w (turn.Pass n k server at) m = by_same w _ (turn.Pass n k server at) refl refl refl (passes_same k (at_events w) n server at)
turned_to w (turn.Adjust a) m = by_same w _ (turn.Adjust a) refl refl refl (adjusts_same (at_events w) a)
turned_to w _ m = record { stage = refl; header = refl; owners = refl }

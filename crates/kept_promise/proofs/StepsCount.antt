-- The steps of a run count on, by what each event is.
use Rattle.std.proofs.Common.{◌≡◌, ℕ, ◌+◌, List, [], ◌∷◌, ◌++◌, Option, Some, None, Bool, true, false, refl, sym, ap, ◌∙◌, arith, Result, Ok, Err}
use Rattle.trace_replay.specs.Trail.{AreCounted, steps_by, step_if, is_heard, can_hang}
use Rattle.server_core.specs.State as server
use Rattle.server_core.specs.declared.event.Event.TheVariants as event
use Rattle.server_rules.specs.declared.told.Told.{Told}
use Rattle.server_rules.specs.declared.told.Told.TheVariants as told
use Rattle.kept_promise.proofs.Common.{Opening, Core, Seat, Session, Event, Event.Joins, Event.Does, Event.Serves, Event.Hears, Event.Settles, Event.Cuts, Event.Hangs, Event.RawJoins, numbered, joins, joins_as, does, serves, serves_if, hears, hears_at, hears_if, is_newest, cuts, cuts_if, hangs, hangs_if, server_waits, happens, Moment, moments, owner_in, Queue, World, run, parse_of, WireFault, Message, not, server_step}
use Rattle.wire.specs.declared.fault.WireFault.TheVariants as fault
use Rattle.trace_ends.specs.Core.{serves_none, serves_unless, raw_joins_as}
use Rattle.kept_promise.proofs.Fits.{FitLaws}
use Rattle.kept_promise.proofs.RunsCarried.{KeptLaws, moment, Step, Carried}
use Rattle.kept_promise.proofs.Runs.{carried_plain}

-- ---- one event

joins_count : (k : Core) (n : ℕ) (seat : Seat) (s : server.State) (t : Told) → (joins_as k n seat s t).core.steps ≡ k.steps + 2
joins_count k n seat s (told.Session made) = refl
joins_count k n seat s _ = refl

no_more : (k : Core) → k.steps ≡ k.steps + 0
no_more k = omega arith

raw_joins_count : (k : Core) (s : server.State) (t : Told) → (raw_joins_as k s t).core.steps ≡ k.steps + 1
raw_joins_count k s (told.Session made) = refl
raw_joins_count k s _ = refl

serves_count : (k : Core) (n now : ℕ) (bytes : List ℕ) (o : Option Session) → (serves k n now bytes o).core.steps ≡ k.steps + step_if (can_hang o)
serves_count k n now bytes None = no_more k
serves_count k n now bytes (Some x) = by x.hung
  where
    none : (e : WireFault) → (serves_none k n x e).core.steps ≡ k.steps + 1
    none (fault.UnknownXid xid) = refl
    none (fault.NotRpc place) = refl
    none (fault.Garbage place) = refl

    read : (r : Result Message WireFault) → (serves_if k n now x r).core.steps ≡ k.steps + 1
    read (Ok m) = refl
    read (Err e) = none e

    by : (b : Bool) → (serves_unless k n now bytes x b).core.steps ≡ k.steps + step_if (not b)
    by true = no_more k
    by false = read (parse_of (server_waits k n) bytes)

hears_count : (k : Core) (n now : ℕ) (bytes : List ℕ) (o : Option Session) → (hears k n now bytes o).core.steps ≡ k.steps + step_if (is_heard (numbered k.seats (owner_in o)) n)
hears_count k n now bytes None = no_more k
hears_count k n now bytes (Some x) = by (numbered k.seats x.owner)
  where
    by_if : (seat : Seat) (b : Bool) → (hears_if k x.owner now seat bytes b).core.steps ≡ k.steps + step_if b
    by_if seat true = refl
    by_if seat false = no_more k

    by : (o : Option Seat) → (hears_at k n x.owner now bytes o).core.steps ≡ k.steps + step_if (is_heard o n)
    by None = no_more k
    by (Some seat) = by_if seat (is_newest seat.session n)

cuts_count : (k : Core) (n : ℕ) (seat : Seat) (b : Bool) → (cuts_if k n seat b).core.steps ≡ k.steps + 1
cuts_count k n seat true = refl
cuts_count k n seat false = refl

hangs_count : (k : Core) (n : ℕ) (o : Option Session) → (hangs k n o).core.steps ≡ k.steps + step_if (can_hang o)
hangs_count k n None = no_more k
hangs_count k n (Some x) = by x.hung
  where
    by : (b : Bool) → (hangs_if k n x b).core.steps ≡ k.steps + step_if (not b)
    by true = no_more k
    by false = refl

-- ---- any event

happens_count : (all past rest : List Moment) (opening : List Opening) (k : Core) (qs : List Queue) (e : Event) (mid after : List Queue) → Step all past rest opening k qs e mid after → (happens k e).core.steps ≡ k.steps + steps_by k e
happens_count all past rest opening k qs (Joins c) mid after s =
    let r = server_step k.server event.Connect in
    ap (λ (o : Option Seat). (joins k c o).core.steps) s.finds.1 ∙ joins_count k c s.finds.0 r.0 r.1.told
happens_count all past rest opening k qs (Does c now d) mid after s = ap (λ (o : Option Seat). (does k c now d o).core.steps) s.finds.1
happens_count all past rest opening k qs (Serves n now bytes) mid after s = serves_count k n now bytes (numbered k.sessions n)
happens_count all past rest opening k qs (Hears n now bytes) mid after s = hears_count k n now bytes (numbered k.sessions n)
happens_count all past rest opening k qs (Settles now) mid after s = refl
happens_count all past rest opening k qs (Cuts c) mid after s = ap (λ (o : Option Seat). (cuts k c o).core.steps) s.finds.1 ∙ cuts_count k c s.finds.0 s.finds.0.client.linked
happens_count all past rest opening k qs (Hangs n) mid after s = hangs_count k n (numbered k.sessions n)
happens_count all past rest opening k qs RawJoins mid after s = let r = server_step k.server event.Connect in raw_joins_count k r.0 r.1.told

-- ---- all moments

count_more : (first last to : ℕ) (ms : List Moment) (m : Moment) → AreCounted first ms last → m.before.steps ≡ last → to ≡ last + steps_by m.before m.event → AreCounted first (ms ++ m ∷ []) to
count_more first last to [] m h is e = (is ∙ sym h, ap (λ (z : ℕ). z + steps_by m.before m.event) h ∙ sym e)
count_more first last to (x ∷ ms) m h is e = (h.0, count_more (first + steps_by x.before x.event) last to ms m h.1 is e)

pub carried_count : Carried (λ all past opening k qs. AreCounted 0 past k.steps)
carried_count = record {
  first = λ all opening tree count kept. refl;
  steps = λ all past rest opening k qs e mid after s h. count_more 0 k.steps (happens k e).core.steps past (moment k e) h refl (happens_count all past rest opening k qs e mid after s);
  adjusts = λ all past opening k qs index seats same h. h;
}

pub steps_counted : KeptLaws → FitLaws → (input : List ℕ) (w : World) → run input ≡ Ok w → AreCounted 0 (moments input) w.core.steps
steps_counted laws fits input w e = (carried_plain (λ all past opening k qs. AreCounted 0 past k.steps) laws fits carried_count input w e).more

-- A trace is accepted exactly where its run goes through and it keeps the clock rule.
use Rattle.std.proofs.Common.{◌≡◌, ℕ, ◌+◌, List, [], ◌∷◌, ◌++◌, Option, Some, None, Bool, true, false, refl, sym, ap, subst, ◌∙◌, Result, Ok, Err, map}
use Rattle.std.specs.Prelude.{IsOk}
use Rattle.clock_rule.specs.Clocks.{Clocked, read_at}
use Rattle.clock_rule.specs.Keeping.{at_first, all_read}
use Rattle.clock_rule.specs.declared.rule.ClockFault.{ClockFault}
use Rattle.clock_rule.specs.declared.rule.Reading.{Reading}
use Rattle.clock_rule.specs.declared.rule.Reading.TheVariants as reads
use Rattle.clock_rule.proofs.lemmas.Whole.{taken_whole}
use Rattle.command_text.specs.declared.path.Spot.{Spot}
use Rattle.trace_text.specs.declared.line.Line.TheVariants as line
use Rattle.trace_ends.specs.declared.adjusting.Adjustment.TheVariants as adjustment
use Rattle.trace_replay.specs.declared.stage.Stage.{Stage}
use Rattle.trace_replay.specs.declared.stage.Stage.TheVariants as stage
use Rattle.trace_replay.specs.declared.timing.Timing.{Timing}
use Rattle.trace_replay.specs.declared.timing.Timing.TheVariants as timing
use Rattle.trace_replay.specs.declared.turn.Turn.TheVariants as turn
use Rattle.trace_replay.specs.Timed.{Timed, Times, no_times, down_timing, pass_timing, timing_of, read_by, times_with, with_times, times_if, timed_by, timed_turn, timed_start, accepted_from}
use Rattle.trace_replay.specs.Readings.{said, said_by, owners_by, timings_from, timings_of}
use Rattle.trace_replay.specs.Run.{refused, place_for, file_asks, directory_asks}
use Rattle.kept_promise.proofs.Common.{nat_le, nat_lt, lines_of, Part, line_of, Line, LineFault, Grammar, Refused, Turn, Core, Seat, numbered, World, start, line_most, sessions_most, asks_if, sized, joins_if, joins_within, event_asks, asks_at, asks, asked, asked_by, turned, ended, in_header, run_from, run, owners_of, accepted, KeepsClocks, raw_joins_within}
use Rattle.kept_promise.proofs.Statements.{ClocksKeepTheRule}
use Rattle.kept_promise.proofs.lemmas.Owners.{stage_after, owners_after, MayTurn, turned_to}
use Rattle.trace_replay.proofs.lemmas.Warming.{warms_turn, warm_taken}
use Rattle.kept_promise.proofs.RunsResults.{asking, turn_is, refused_line, no_world, ran_by}
use Rattle.kept_promise.proofs.RunsAsked.{within}

-- What holds of each world of a run, before the line of this number, which was read: the server has room for the session of each join that
-- is asked for.
pub record HasRoom (Inv : ℕ → World → Type 0) : Type 0 where
  pub first : Inv 1 start
  pub next : (n : ℕ) (w : World) (bytes : List ℕ) (l : Line) (t : Turn) → line_of bytes ≡ Some l → Inv n w → asked w n l ≡ Ok t → MayTurn w t × Inv (n + 1) (turned w t)

-- ---- all that is said of the clocks, one after the other

abbrev taken_all : Times → List Timing → Result Times ClockFault
taken_all t [] = Ok t
taken_all t (x ∷ xs) = elim (times_with t x) [ Err f ↦ Err f | Ok new ↦ taken_all new xs ]

abbrev taken_then : Result Times ClockFault → List Timing → Result Times ClockFault
taken_then r xs = elim r [ Err f ↦ Err f | Ok new ↦ taken_all new xs ]

-- what is nothing takes nothing
said_first : (t : Times) (x : Timing) (xs : List Timing) → taken_all t (said x ++ xs) ≡ taken_then (times_with t x) xs
said_first t timing.Nothing xs = refl
said_first t (timing.Term n) xs = refl
said_first t (timing.Drift n) xs = refl
said_first t (timing.Reads r) xs = refl

-- readings alone are taken as the clock rule takes them

read_again : (t : Times) (clocks : Clocked) (r : Result Clocked ClockFault) → read_by (record t { clocks = clocks }) r ≡ read_by t r
read_again t clocks (Ok c) = refl
read_again t clocks (Err f) = refl

reads_all : (t : Times) (rs : List Reading) → taken_all t (map timing.Reads rs) ≡ read_by t (all_read t.clocks rs)
reads_all t [] = refl
reads_all t (r ∷ rs) = next t rs (read_at t.clocks r) (λ c. reads_all (record t { clocks = c }) rs)
  where
    next : (t : Times) (rs : List Reading) (x : Result Clocked ClockFault)
        → ((c : Clocked) → taken_all (record t { clocks = c }) (map timing.Reads rs) ≡ read_by (record t { clocks = c }) (all_read c rs))
        → taken_then (read_by t x) (map timing.Reads rs) ≡ read_by t (elim x [ Err f ↦ Err f | Ok new ↦ all_read new rs ])
    next t rs (Ok c) go = go c ∙ read_again t c (all_read c rs)
    next t rs (Err f) go = refl

ok_read : (t : Times) (r : Result Clocked ClockFault) → IsOk (read_by t r) → IsOk r
ok_read t (Ok c) h = refl
ok_read t (Err f) h = h

read_ok : (t : Times) (r : Result Clocked ClockFault) → IsOk r → IsOk (read_by t r)
read_ok t (Ok c) h = refl
read_ok t (Err f) h = h

-- ---- a line and its turn: the term comes first, then the drift, and then the readings

abbrev AreReadings : List Timing → Type 0
AreReadings xs = (rs : List Reading) × (xs ≡ map timing.Reads rs)

abbrev AreBehindTerm : List Timing → Type 0
AreBehindTerm xs = (drift : ℕ) × (rs : List Reading) × (xs ≡ timing.Drift drift ∷ map timing.Reads rs)

abbrev AreWhole : List Timing → Type 0
AreWhole xs = (term : ℕ) × (drift : ℕ) × (rs : List Reading) × (xs ≡ timing.Term term ∷ timing.Drift drift ∷ map timing.Reads rs)

-- what the lines from a stage on say of the clocks
abbrev AreFrom : Stage → List Timing → Type 0
AreFrom stage.Version xs = AreWhole xs
AreFrom stage.Term xs = AreWhole xs
AreFrom stage.Drift xs = AreBehindTerm xs
AreFrom _ xs = AreReadings xs

-- a line in place leaves the stage from which the others go on, and the owners
record GoesOn (os : List ℕ) (s : Stage) (l : Line) (t : Turn) : Type 0 where
  pub from : (xs : List Timing) → AreFrom (stage_after s t) xs → AreFrom s (said (timing_of os l) ++ xs)
  pub owners : owners_after os true t ≡ owners_by os (Some l)

goes : (os : List ℕ) (s : Stage) (l : Line) (u t : Turn) → asking u ≡ asking t → GoesOn os s l u → GoesOn os s l t
goes os s l u t e h = subst (λ (x : Turn). GoesOn os s l x) (turn_is u t e) h

goes_if : (os : List ℕ) (b : Bool) (s : Stage) (l : Line) (u t : Turn) → asks_if b u ≡ asking t → GoesOn os s l u → GoesOn os s l t
goes_if os true s l u t e h = goes os s l u t e h
goes_if os false s l u t e h = refused_line Grammar t e

one_more : (r : Reading) (xs : List Timing) → AreReadings xs → AreReadings (timing.Reads r ∷ xs)
one_more r xs h = (r ∷ h.0, ap (λ (ys : List Timing). timing.Reads r ∷ ys) h.1)

-- an event's reading, if it has one
down_more : (at : ℕ) (o : Option ℕ) (xs : List Timing) → AreReadings xs → AreReadings (said (down_timing at o) ++ xs)
down_more at None xs h = h
down_more at (Some owner) xs h = one_more (reads.Client owner at) xs h

pass_more : (server at : ℕ) (o : Option ℕ) (xs : List Timing) → AreReadings xs → AreReadings (said (pass_timing server at o) ++ xs)
pass_more server at None xs h = h
pass_more server at (Some owner) xs h = one_more (reads.Both server owner at) xs h

joins_on : (os : List ℕ) (standing c : ℕ) (o : Option Seat) (s : Stage) (l : Line) (t : Turn) → joins_if standing c o ≡ asking t → GoesOn os s l (turn.Join c) → GoesOn os s l t
joins_on os standing c None s l t e h = refused_line Grammar t e
joins_on os standing c (Some seat) s l t e h = by seat.client.linked (nat_lt standing sessions_most) e
  where
    by : (b room : Bool) → elim b as (λ (x : Bool). Result Turn LineFault) [ true ↦ Err Grammar | false ↦ joins_within room c ] ≡ asking t → GoesOn os s l t
    by true room e = refused_line Grammar t e
    by false true e = goes os s l (turn.Join c) t e h
    by false false e = refused_line _ t e

raw_joins_on : (os : List ℕ) (b : Bool) (s : Stage) (l : Line) (t : Turn) → raw_joins_within b ≡ asking t → GoesOn os s l turn.RawJoin → GoesOn os s l t
raw_joins_on os true s l t e h = goes os s l turn.RawJoin t e h
raw_joins_on os false s l t e h = refused_line _ t e

-- an event, where events may come
event_on : (os : List ℕ) (s : Stage) (k : Core) (l : Line) (t : Turn) → ((xs : List Timing) → AreReadings xs → AreFrom s xs) → event_asks k l ≡ asking t → GoesOn os s l t
event_on os s k (line.Join c r at) t here e = joins_on os _ c (numbered k.seats c) s (line.Join c r at) t e (record { from = λ xs h. here (timing.Reads (reads.Both at c r) ∷ xs) (one_more _ xs h); owners = refl })
event_on os s k (line.Do c r x) t here e = goes_if os _ s (line.Do c r x) (turn.Do c r x) t e (record { from = λ xs h. here (timing.Reads (reads.Client c r) ∷ xs) (one_more _ xs h); owners = refl })
event_on os s k (line.Up n a at) t here e = goes_if os _ s (line.Up n a at) (turn.Up n a at) t e (record { from = λ xs h. here (timing.Reads (reads.Server at) ∷ xs) (one_more _ xs h); owners = refl })
event_on os s k (line.Down n a r) t here e = goes_if os _ s (line.Down n a r) (turn.Down n a r) t e (record { from = λ xs h. here (said (down_timing r (numbered os n)) ++ xs) (down_more r (numbered os n) xs h); owners = refl })
event_on os s k (line.Settle at) t here e = goes os s (line.Settle at) (turn.Settle at) t e (record { from = λ xs h. here (timing.Reads (reads.Server at) ∷ xs) (one_more _ xs h); owners = refl })
event_on os s k (line.Cut c r) t here e = goes_if os _ s (line.Cut c r) (turn.Cut c) t e (record { from = λ xs h. here (timing.Reads (reads.Client c r) ∷ xs) (one_more _ xs h); owners = refl })
event_on os s k (line.Hang n at) t here e = goes_if os _ s (line.Hang n at) (turn.Hang n) t e (record { from = λ xs h. here (timing.Reads (reads.Server at) ∷ xs) (one_more _ xs h); owners = refl })
event_on os s k (line.RawJoin at) t here e = raw_joins_on os _ s (line.RawJoin at) t e (record { from = λ xs h. here (timing.Reads (reads.Server at) ∷ xs) (one_more _ xs h); owners = refl })
event_on os s k (line.Raw n bytes) t here e = goes_if os _ s (line.Raw n bytes) (turn.Raw n bytes) t e (record { from = λ xs h. here xs h; owners = refl })
event_on os s k (line.Pass n rounds at r) t here e = goes_if os _ s (line.Pass n rounds at r) (turn.Pass n rounds at r) t e (record { from = λ xs h. here (said (pass_timing at r (numbered os n)) ++ xs) (pass_more at r (numbered os n) xs h); owners = refl })
event_on os s k (line.Forge u key file offset count) t here e = goes_if os _ s (line.Forge u key file offset count) (turn.Adjust (adjustment.Forge u key (record { file = file; offset = offset; count = count }))) t e (record { from = λ xs h. here xs h; owners = refl })
event_on os s k (line.Clear u) t here e = goes_if os _ s (line.Clear u) (turn.Adjust (adjustment.Clear u)) t e (record { from = λ xs h. here xs h; owners = refl })
event_on os s k (line.Evict c file) t here e = goes_if os _ s (line.Evict c file) (turn.Adjust (adjustment.Evict c file)) t e (record { from = λ xs h. here xs h; owners = refl })
event_on os s k (line.Warm c content) t here e = goes os s (line.Warm c content) (warms_turn c content) t (warm_taken c content (numbered k.seats c) t e) (record { from = λ xs h. here xs h; owners = refl })
event_on os s k l t here e = refused_line Grammar t e

directory_on : (os : List ℕ) (spot : Spot) (o : Option ℕ) (t : Turn) → directory_asks o spot.name ≡ asking t → GoesOn os stage.Files (line.Dir spot) t
directory_on os spot None t e = refused_line Grammar t e
directory_on os spot (Some dir) t e = goes os stage.Files (line.Dir spot) (turn.Dir dir spot.name) t e (record { from = λ xs h. h; owners = refl })

sized_on : (os : List ℕ) (long much : Bool) (spot : Spot) (dir : ℕ) (content : List Part) (t : Turn) → sized long much (turn.File dir spot.name content) ≡ asking t → GoesOn os stage.Files (line.File spot content) t
sized_on os false false spot dir content t e = goes os stage.Files (line.File spot content) (turn.File dir spot.name content) t e (record { from = λ xs h. h; owners = refl })
sized_on os _ _ spot dir content t e = refused_line _ t e

file_on : (os : List ℕ) (spot : Spot) (size : ℕ) (content : List Part) (o : Option ℕ) (t : Turn) → file_asks o size spot.name content ≡ asking t → GoesOn os stage.Files (line.File spot content) t
file_on os spot size content None t e = refused_line Grammar t e
file_on os spot size content (Some dir) t e = sized_on os _ _ spot dir content t e

at_stage : (os : List ℕ) (w : World) (s : Stage) (l : Line) (t : Turn) → asks_at w s l ≡ asking t → GoesOn os s l t
at_stage os w stage.Version (line.Version n) t e = goes os stage.Version (line.Version n) (turn.Version n) t e (record { from = λ xs h. h; owners = refl })
at_stage os w stage.Term (line.Term n) t e = goes os stage.Term (line.Term n) (turn.Term n) t e (record { from = λ xs h. (n, h.0, h.1, ap (λ (ys : List Timing). timing.Term n ∷ ys) h.2); owners = refl })
at_stage os w stage.Drift (line.Drift n) t e = goes os stage.Drift (line.Drift n) (turn.Drift n) t e (record { from = λ xs h. (n, h.0, ap (λ (ys : List Timing). timing.Drift n ∷ ys) h.1); owners = refl })
at_stage os w stage.Clients (line.Clients n) t e = goes os stage.Clients (line.Clients n) (turn.Clients n) t e (record { from = λ xs h. h; owners = refl })
at_stage os w stage.Files (line.Dir spot) t e = directory_on os spot (place_for w.core.server.tree spot) t e
at_stage os w stage.Files (line.File spot content) t e = file_on os spot w.size content (place_for w.core.server.tree spot) t e
at_stage os w stage.Files l t e = event_on os stage.Files w.core l t (λ xs h. h) e
at_stage os w stage.Events l t e = event_on os stage.Events w.core l t (λ xs h. h) e
at_stage os w s l t e = refused_line Grammar t e

any_line : (os : List ℕ) (w : World) (l : Line) (t : Turn) → asks w l ≡ asking t → GoesOn os w.stage l t
any_line os w line.Skipped t e = goes os w.stage line.Skipped turn.Skip t e (record { from = λ xs h. h; owners = refl })
any_line os w l t e = at_stage os w w.stage l t e

goes_on : (w : World) (n : ℕ) (l : Line) (t : Turn) → asked w n l ≡ Ok t → GoesOn (owners_of w) w.stage l t
goes_on w n l t e = any_line (owners_of w) w l t (within (nat_le n line_most) (asks w l) t e)

-- what a line leaves of the owners is what its text says
owners_next : (w : World) (n : ℕ) (l : Line) (t : Turn) → MayTurn w t → asked w n l ≡ Ok t → owners_of (turned w t) ≡ owners_by (owners_of w) (Some l)
owners_next w n l t m e = (turned_to w t m).owners ∙ (goes_on w n l t e).owners

-- ---- a run that is accepted

abbrev accepted_by : Timed → ℕ → List (List ℕ) → Result (Turn × Times) LineFault → Result World Refused
accepted_by v n ls r = elim r [ Err f ↦ Err (refused n f) | Ok t ↦ accepted_from (timed_turn v t) (n + 1) ls ]

ran : (v : Timed) (n : ℕ) (ls : List (List ℕ)) (w : World) → accepted_from v n ls ≡ Ok w → run_from v.world n ls ≡ Ok w
ran v n [] w e = e
ran v n (l ∷ ls) w e = by_line (line_of l) (λ t times. ran (timed_turn v (t, times)) (n + 1) ls w) e
  where
    by_times : (t : Turn) (r : Result Times ClockFault) → ((times : Times) → accepted_from (timed_turn v (t, times)) (n + 1) ls ≡ Ok w → run_from (turned v.world t) (n + 1) ls ≡ Ok w) → accepted_by v n ls (with_times t r) ≡ Ok w → run_from (turned v.world t) (n + 1) ls ≡ Ok w
    by_times t (Err f) go e = no_world _ w e
    by_times t (Ok times) go e = go times e

    by_turn : (x : Timing) (r : Result Turn LineFault) → ((t : Turn) (times : Times) → accepted_from (timed_turn v (t, times)) (n + 1) ls ≡ Ok w → run_from (turned v.world t) (n + 1) ls ≡ Ok w) → accepted_by v n ls (times_if v.times x r) ≡ Ok w → ran_by v.world n ls r ≡ Ok w
    by_turn x (Err f) go e = no_world _ w e
    by_turn x (Ok t) go e = by_times t (times_with v.times x) (go t) e

    by_line : (o : Option Line) → ((t : Turn) (times : Times) → accepted_from (timed_turn v (t, times)) (n + 1) ls ≡ Ok w → run_from (turned v.world t) (n + 1) ls ≡ Ok w) → accepted_by v n ls (timed_by v n o) ≡ Ok w → ran_by v.world n ls (asked_by v.world n o) ≡ Ok w
    by_line None go e = no_world _ w e
    by_line (Some l) go e = by_turn (timing_of (owners_of v.world) l) (asked v.world n l) go e

pub run_accepted : (input : List ℕ) (w : World) → accepted input ≡ Ok w → run input ≡ Ok w
run_accepted input w e = ran timed_start 1 (lines_of input) w e

abbrev LaterTaken : (Inv : ℕ → World → Type 0) (v : Timed) (n : ℕ) (ls : List (List ℕ)) (w : World) → Type 0
LaterTaken Inv v n ls w = (t : Turn) (times : Times) → Inv (n + 1) (turned v.world t) → accepted_from (timed_turn v (t, times)) (n + 1) ls ≡ Ok w → IsOk (taken_all times (timings_from (owners_of (turned v.world t)) ls))

-- an accepted trace's readings are all taken
all_taken : (Inv : ℕ → World → Type 0) (room : HasRoom Inv) (v : Timed) (n : ℕ) (ls : List (List ℕ)) (w : World) → Inv n v.world → accepted_from v n ls ≡ Ok w → IsOk (taken_all v.times (timings_from (owners_of v.world) ls))
all_taken Inv room v n [] w holds e = refl
all_taken Inv room v n (l ∷ ls) w holds e = by_line (line_of l) refl (λ t times. all_taken Inv room (timed_turn v (t, times)) (n + 1) ls w) e
  where
    by_times : (os : List ℕ) (t : Turn) (r : Result Times ClockFault) → os ≡ owners_of (turned v.world t) → ((times : Times) → accepted_from (timed_turn v (t, times)) (n + 1) ls ≡ Ok w → IsOk (taken_all times (timings_from (owners_of (turned v.world t)) ls))) → accepted_by v n ls (with_times t r) ≡ Ok w → IsOk (taken_then r (timings_from os ls))
    by_times os t (Err f) same go e = no_world _ w e
    by_times os t (Ok times) same go e = subst (λ (z : List ℕ). IsOk (taken_all times (timings_from z ls))) (sym same) (go times e)

    by_turn : (x : Line) (r : Result Turn LineFault) → line_of l ≡ Some x → asked v.world n x ≡ r → LaterTaken Inv v n ls w → accepted_by v n ls (times_if v.times (timing_of (owners_of v.world) x) r) ≡ Ok w → IsOk (taken_then (times_with v.times (timing_of (owners_of v.world) x)) (timings_from (owners_by (owners_of v.world) (Some x)) ls))
    by_turn x (Err f) read is go e = no_world _ w e
    by_turn x (Ok t) read is go e =
        let step = room.next n v.world l x t read holds is in
        by_times (owners_by (owners_of v.world) (Some x)) t (times_with v.times (timing_of (owners_of v.world) x)) (sym (owners_next v.world n x t step.0 is)) (λ times. go t times step.1) e

    by_line : (o : Option Line) → line_of l ≡ o → LaterTaken Inv v n ls w → accepted_by v n ls (timed_by v n o) ≡ Ok w → IsOk (taken_all v.times (said_by (owners_of v.world) o ++ timings_from (owners_by (owners_of v.world) o) ls))
    by_line None read go e = no_world _ w e
    by_line (Some x) read go e = subst (λ (x : Result Times ClockFault). IsOk x) (sym (said_first v.times (timing_of (owners_of v.world) x) (timings_from (owners_by (owners_of v.world) (Some x)) ls))) (by_turn x (asked v.world n x) read refl go e)

abbrev LaterAccepted : (Inv : ℕ → World → Type 0) (v : Timed) (n : ℕ) (ls : List (List ℕ)) (w : World) → Type 0
LaterAccepted Inv v n ls w = (t : Turn) (times : Times) → Inv (n + 1) (turned v.world t) → run_from (turned v.world t) (n + 1) ls ≡ Ok w → IsOk (taken_all times (timings_from (owners_of (turned v.world t)) ls)) → accepted_from (timed_turn v (t, times)) (n + 1) ls ≡ Ok w

-- where a run goes through and all readings are taken, the trace is accepted
all_accepted : (Inv : ℕ → World → Type 0) (room : HasRoom Inv) (v : Timed) (n : ℕ) (ls : List (List ℕ)) (w : World) → Inv n v.world → run_from v.world n ls ≡ Ok w → IsOk (taken_all v.times (timings_from (owners_of v.world) ls)) → accepted_from v n ls ≡ Ok w
all_accepted Inv room v n [] w holds e h = e
all_accepted Inv room v n (l ∷ ls) w holds e h = by_line (line_of l) refl (λ t times. all_accepted Inv room (timed_turn v (t, times)) (n + 1) ls w) e h
  where
    by_times : (os : List ℕ) (t : Turn) (r : Result Times ClockFault) → os ≡ owners_of (turned v.world t) → ((times : Times) → IsOk (taken_all times (timings_from (owners_of (turned v.world t)) ls)) → accepted_from (timed_turn v (t, times)) (n + 1) ls ≡ Ok w) → IsOk (taken_then r (timings_from os ls)) → accepted_by v n ls (with_times t r) ≡ Ok w
    by_times os t (Err f) same go h = let e : false ≡ true = h in absurd cc
    by_times os t (Ok times) same go h = go times (subst (λ (z : List ℕ). IsOk (taken_all times (timings_from z ls))) same h)

    by_turn : (x : Line) (r : Result Turn LineFault) → line_of l ≡ Some x → asked v.world n x ≡ r → LaterAccepted Inv v n ls w → ran_by v.world n ls r ≡ Ok w → IsOk (taken_then (times_with v.times (timing_of (owners_of v.world) x)) (timings_from (owners_by (owners_of v.world) (Some x)) ls)) → accepted_by v n ls (times_if v.times (timing_of (owners_of v.world) x) r) ≡ Ok w
    by_turn x (Err f) read is go e h = no_world _ w e
    by_turn x (Ok t) read is go e h =
        let step = room.next n v.world l x t read holds is in
        by_times (owners_by (owners_of v.world) (Some x)) t (times_with v.times (timing_of (owners_of v.world) x)) (sym (owners_next v.world n x t step.0 is)) (λ times. go t times step.1 e) h

    by_line : (o : Option Line) → line_of l ≡ o → LaterAccepted Inv v n ls w → ran_by v.world n ls (asked_by v.world n o) ≡ Ok w → IsOk (taken_all v.times (said_by (owners_of v.world) o ++ timings_from (owners_by (owners_of v.world) o) ls)) → accepted_by v n ls (timed_by v n o) ≡ Ok w
    by_line None read go e h = no_world _ w e
    by_line (Some x) read go e h = by_turn x (asked v.world n x) read refl go e (subst (λ (x : Result Times ClockFault). IsOk x) (said_first v.times (timing_of (owners_of v.world) x) (timings_from (owners_by (owners_of v.world) (Some x)) ls)) h)

-- ---- what is said of the clocks is in order

-- a run goes through the header to its end
at_end : (w : World) (n : ℕ) (s : Stage) (v : World) → ended w n (in_header s) ≡ Ok v → AreFrom s []
at_end w n stage.Files v e = ([], refl)
at_end w n stage.Events v e = ([], refl)
at_end w n _ v e = no_world _ v e

abbrev LaterOrdered : (Inv : ℕ → World → Type 0) (w : World) (n : ℕ) (ls : List (List ℕ)) (v : World) → Type 0
LaterOrdered Inv w n ls v = (t : Turn) → Inv (n + 1) (turned w t) → run_from (turned w t) (n + 1) ls ≡ Ok v → AreFrom (turned w t).stage (timings_from (owners_of (turned w t)) ls)

in_order : (Inv : ℕ → World → Type 0) (room : HasRoom Inv) (w : World) (n : ℕ) (ls : List (List ℕ)) (v : World) → Inv n w → run_from w n ls ≡ Ok v → AreFrom w.stage (timings_from (owners_of w) ls)
in_order Inv room w n [] v holds e = at_end w n w.stage v e
in_order Inv room w n (l ∷ ls) v holds e = by_line (line_of l) refl (λ t. in_order Inv room (turned w t) (n + 1) ls v) e
  where
    by_turn : (x : Line) (r : Result Turn LineFault) → line_of l ≡ Some x → asked w n x ≡ r → LaterOrdered Inv w n ls v → ran_by w n ls r ≡ Ok v → AreFrom w.stage (said (timing_of (owners_of w) x) ++ timings_from (owners_by (owners_of w) (Some x)) ls)
    by_turn x (Err f) read is go e = no_world _ v e
    by_turn x (Ok t) read is go e =
        let step = room.next n w l x t read holds is in
        let to = turned_to w t step.0 in
        let later = subst (λ (z : List ℕ). AreFrom (turned w t).stage (timings_from z ls)) (owners_next w n x t step.0 is) (go t step.1 e) in
        (goes_on w n x t is).from (timings_from (owners_by (owners_of w) (Some x)) ls) (subst (λ (s : Stage). AreFrom s (timings_from (owners_by (owners_of w) (Some x)) ls)) to.stage later)

    by_line : (o : Option Line) → line_of l ≡ o → LaterOrdered Inv w n ls v → ran_by w n ls (asked_by w n o) ≡ Ok v → AreFrom w.stage (said_by (owners_of w) o ++ timings_from (owners_by (owners_of w) o) ls)
    by_line None read go e = no_world _ v e
    by_line (Some x) read go e = by_turn x (asked w n x) read refl go e

-- ---- the law

-- the clocks with a header's term and drift, before any reading
abbrev times_first : (term drift : ℕ) → Times
times_first term drift = record { term = term; clocks = at_first term drift }

-- with this term and this drift the readings are all taken exactly where all that is said is
ok_reads : (term drift : ℕ) (rs : List Reading) → IsOk (taken_all no_times (timing.Term term ∷ timing.Drift drift ∷ map timing.Reads rs)) → IsOk (all_read (at_first term drift) rs)
ok_reads term drift rs h = ok_read (times_first term drift) _ (subst (λ (x : Result Times ClockFault). IsOk x) (reads_all (times_first term drift) rs) h)

reads_ok : (term drift : ℕ) (rs : List Reading) → IsOk (all_read (at_first term drift) rs) → IsOk (taken_all no_times (timing.Term term ∷ timing.Drift drift ∷ map timing.Reads rs))
reads_ok term drift rs h = subst (λ (x : Result Times ClockFault). IsOk x) (sym (reads_all (times_first term drift) rs)) (read_ok (times_first term drift) _ h)

kept_whole : (input : List ℕ) → AreWhole (timings_of (lines_of input)) → IsOk (taken_all no_times (timings_of (lines_of input))) → KeepsClocks input
kept_whole input says ok =
    let h = (taken_whole says.0 says.1 says.2).0 (ok_reads says.0 says.1 says.2 (subst (λ (xs : List Timing). IsOk (taken_all no_times xs)) says.3 ok)) in
    record { term = says.0; drift = says.1; readings = says.2; says = says.3; server = h.0; rule = h.1 }

-- an accepted trace keeps the clock rule
pub clocks_kept : (Inv : ℕ → World → Type 0) (room : HasRoom Inv) (input : List ℕ) (w : World) → accepted input ≡ Ok w → KeepsClocks input
clocks_kept Inv room input w e = kept_whole input (in_order Inv room start 1 (lines_of input) w room.first (run_accepted input w e)) (all_taken Inv room timed_start 1 (lines_of input) w room.first e)

-- a trace that keeps the clock rule is accepted where its run goes through
pub kept_accepted : (Inv : ℕ → World → Type 0) (room : HasRoom Inv) (input : List ℕ) (w : World) → run input ≡ Ok w → KeepsClocks input → accepted input ≡ Ok w
kept_accepted Inv room input w e k =
    let all = (taken_whole k.term k.drift k.readings).1 (k.server, k.rule) in
    all_accepted Inv room timed_start 1 (lines_of input) w room.first e (subst (λ (xs : List Timing). IsOk (taken_all no_times xs)) (sym k.says) (reads_ok k.term k.drift k.readings all))

pub clocks_keep_the_rule : (Inv : ℕ → World → Type 0) → HasRoom Inv → ClocksKeepTheRule
clocks_keep_the_rule Inv room = λ input w. (λ e. (run_accepted input w e, clocks_kept Inv room input w e), λ h. kept_accepted Inv room input w h.0 h.1)

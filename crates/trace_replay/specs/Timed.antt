-- A run whose readings keep the clock rule.
use Rattle.std.specs.Prelude.{◌≡◌, ℕ, ◌+◌, List, [], ◌∷◌, map, Option, Some, None, Result, Ok, Err}
use Rattle.clock_rule.specs.Clocks.{Clocked, read_at}
use Rattle.clock_rule.specs.Keeping.{at_first}
use Rattle.clock_rule.specs.declared.rule.ClockFault.{ClockFault}
use Rattle.clock_rule.specs.declared.rule.NoteError.{NoteError}
use Rattle.clock_rule.specs.declared.rule.NoteError.TheVariants.{Fault, Memory}
use Rattle.clock_rule.specs.declared.rule.Reading.TheVariants as reads
use Rattle.command_text.specs.Parts.{lines_of}
use Rattle.trace_text.specs.Grammar.{line_of}
use Rattle.trace_text.specs.declared.line.Line.{Line}
use Rattle.trace_text.specs.declared.line.Line.TheVariants as line
use Rattle.trace_text.specs.declared.refusal.LineFault.{LineFault}
use Rattle.trace_text.specs.declared.refusal.LineFault.TheVariants.{Grammar, Clock}
use Rattle.trace_replay.specs.declared.fault.Refused.{Refused}
use Rattle.trace_replay.specs.declared.timing.Timing.{Timing}
use Rattle.trace_replay.specs.declared.timing.Timing.TheVariants as timing
use Rattle.trace_replay.specs.declared.turn.Turn.{Turn}
use Rattle.trace_ends.specs.Numbers.{numbered}
use Rattle.trace_replay.specs.World.{World, start}
use Rattle.trace_replay.specs.Run.{asked, turned, refused, in_header, ended}

-- ---- the clocks

-- the header's term, and the readings by that term and the header's drift
pub record Times : Type 0 where
  pub term : ℕ
  pub clocks : Clocked

abbrev pub no_times : Times
no_times = record { term = 0; clocks = at_first 0 0 }

-- a delivery down a session is an event of its owner's clock, also where its owner has left it
abbrev pub down_timing : (at : ℕ) → Option ℕ → Timing
down_timing at None = timing.Nothing
down_timing at (Some owner) = timing.Reads (reads.Client owner at)

abbrev pub pass_timing : (server at : ℕ) → Option ℕ → Timing
pass_timing server at None = timing.Nothing
pass_timing server at (Some owner) = timing.Reads (reads.Both server owner at)

-- what a line says of the clocks, where these are the owners of the sessions, by their numbers
abbrev pub timing_of : (owners : List ℕ) → Line → Timing
timing_of owners (line.Term term) = timing.Term term
timing_of owners (line.Drift drift) = timing.Drift drift
timing_of owners (line.Join c r s) = timing.Reads (reads.Both s c r)
timing_of owners (line.Do c r k) = timing.Reads (reads.Client c r)
timing_of owners (line.Up n a s) = timing.Reads (reads.Server s)
timing_of owners (line.Down n a r) = down_timing r (numbered owners n)
timing_of owners (line.RawJoin s) = timing.Reads (reads.Server s)
timing_of owners (line.Raw n bytes) = timing.Nothing
timing_of owners (line.Settle s) = timing.Reads (reads.Server s)
timing_of owners (line.Cut c r) = timing.Reads (reads.Client c r)
timing_of owners (line.Hang n s) = timing.Reads (reads.Server s)
timing_of owners (line.Pass n k s r) = pass_timing s r (numbered owners n)
timing_of owners line.Skipped = timing.Nothing
timing_of owners (line.Version lbfs) = timing.Nothing
timing_of owners (line.Clients count) = timing.Nothing
timing_of owners (line.Dir spot) = timing.Nothing
timing_of owners (line.File spot content) = timing.Nothing
timing_of owners (line.Forge who key file offset count) = timing.Nothing
timing_of owners (line.Clear who) = timing.Nothing
timing_of owners (line.Evict c file) = timing.Nothing
timing_of owners (line.Warm c content) = timing.Nothing

abbrev pub owners_of : World → List ℕ
owners_of w = map (λ x. x.owner) w.core.sessions

abbrev pub read_by : Times → Result Clocked ClockFault → Result Times ClockFault
read_by t (Ok clocks) = Ok (record t { clocks = clocks })
read_by t (Err f) = Err f

abbrev pub times_with : Times → Timing → Result Times ClockFault
times_with t timing.Nothing = Ok t
times_with t (timing.Term term) = Ok (record t { term = term })
times_with t (timing.Drift drift) = Ok (record t { clocks = at_first t.term drift })
times_with t (timing.Reads r) = read_by t (read_at t.clocks r)

-- what a line answers and leaves of the clocks: a fault, or running out of memory, leaves all as it
-- was
abbrev pub IsTaken : {T : Type 0} → Result T NoteError → Result Times ClockFault → (old new : Times) → Type 0
IsTaken (Ok _) ran old new = ran ≡ Ok new
IsTaken (Err (Fault f)) ran old new = (ran ≡ Err f) × (new ≡ old)
IsTaken (Err Memory) ran old new = new ≡ old

-- ---- a world with its clocks

pub record Timed : Type 0 where
  pub world : World
  pub times : Times

abbrev pub timed_start : Timed
timed_start = record { world = start; times = no_times }

abbrev pub with_times : Turn → Result Times ClockFault → Result (Turn × Times) LineFault
with_times t (Ok times) = Ok (t, times)
with_times t (Err f) = Err (Clock f)

-- A line is refused by the grammar or a limit first, and then by the clock rule.
abbrev pub times_if : Times → Timing → Result Turn LineFault → Result (Turn × Times) LineFault
times_if times said (Ok t) = with_times t (times_with times said)
times_if times said (Err f) = Err f

-- what the line of this number asks for, and the clocks once it is read
abbrev pub timed_asked : Timed → ℕ → Line → Result (Turn × Times) LineFault
timed_asked v n l = times_if v.times (timing_of (owners_of v.world) l) (asked v.world n l)

abbrev pub timed_turn : Timed → Turn × Times → Timed
timed_turn v t = record { world = turned v.world t.0; times = t.1 }

-- ---- lines

abbrev pub timed_by : Timed → ℕ → Option Line → Result (Turn × Times) LineFault
timed_by v n None = Err Grammar
timed_by v n (Some l) = timed_asked v n l

-- the world after the lines, or the first of them that is refused
abbrev pub accepted_from : Timed → ℕ → List (List ℕ) → Result World Refused
accepted_from v n [] = ended v.world n (in_header v.world.stage)
accepted_from v n (l ∷ ls) = elim (timed_by v n (line_of l)) [ Err f ↦ Err (refused n f) | Ok t ↦ accepted_from (timed_turn v t) (n + 1) ls ]

-- What the replay of a trace comes to. Where no line is refused, that is what its run comes to, whatever the clocks read.
abbrev pub accepted : List ℕ → Result World Refused
accepted input = accepted_from timed_start 1 (lines_of input)

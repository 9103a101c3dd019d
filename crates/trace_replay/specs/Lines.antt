-- Lines that are run, whatever follows them.
use Rattle.std.specs.Prelude.{◌≡◌, ℕ, ◌+◌, List, [], ◌∷◌, Result, Ok, Err}
use Rattle.trace_text.specs.Grammar.{line_of}
use Rattle.trace_replay.specs.declared.fault.Refused.{Refused}
use Rattle.trace_replay.specs.declared.fault.TraceError.{TraceError}
use Rattle.trace_replay.specs.declared.fault.TraceError.TheVariants as errors
use Rattle.trace_replay.specs.World.{World}
use Rattle.trace_replay.specs.Run.{refused, in_header, ended}
use Rattle.trace_replay.specs.Timed.{Timed, timed_by, timed_turn}

-- the world after the lines, of which the first has this number, and the number of the line behind them; or the first that is refused
abbrev pub applied_from : Timed → ℕ → List (List ℕ) → Result (Timed × ℕ) Refused
applied_from v n [] = Ok (v, n)
applied_from v n (l ∷ ls) = elim (timed_by v n (line_of l)) [ Err f ↦ Err (refused n f) | Ok t ↦ applied_from (timed_turn v t) (n + 1) ls ]

-- a trace may end there
abbrev pub ended_at : Result (Timed × ℕ) Refused → Result World Refused
ended_at (Ok p) = ended p.0.world p.1 (in_header p.0.world.stage)
ended_at (Err r) = Err r

-- what running lines answers and leaves; where memory ran out, nothing is said
abbrev pub AreApplied : Result ℕ TraceError → Result (Timed × ℕ) Refused → Timed → Type 0
AreApplied (Ok next) ran new = ran ≡ Ok (new, next)
AreApplied (Err errors.Memory) ran new = Unit {0}
AreApplied (Err (errors.Refused r)) ran new = ran ≡ Err r

-- the world that a trace comes to, or the first line that is refused
abbrev pub ComesTo : Result Timed TraceError → Result World Refused → Type 0
ComesTo (Ok v) ran = ran ≡ Ok v.world
ComesTo (Err errors.Memory) ran = Unit {0}
ComesTo (Err (errors.Refused r)) ran = ran ≡ Err r

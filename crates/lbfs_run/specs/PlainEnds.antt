-- What each end of a run says of the bytes that were read and written. What is left in a source and what a sink holds
-- are known only where they tell, as those in memory do: of a stream of the system these say nothing of its bytes.
use Rattle.std.specs.Prelude.{◌≡◌, ◌⊎◌, ℕ, List, Option, Some, Ok, true}
use Rattle.std.specs.Io.KnownBytes.{Appends, Consumes, IsAtEnd}
use Rattle.lb_base.specs.Known.{AppendsPart, AppendsPrefix}
use Rattle.register_model.specs.Text.{history_text}
use Rattle.trace_replay.specs.World.{World}
use Rattle.trace_replay.specs.World.{history_of}
use Rattle.trace_replay.specs.Timed.{accepted}
use Rattle.trace_replay.specs.Traces.{IsKeptPromise}
use Rattle.program_words.specs.declared.asked.View.{View}
use Rattle.program_words.specs.declared.asked.Command.{Command}
use Rattle.exit_status.specs.declared.status.Status.{Status}
use Rattle.exit_status.specs.declared.status.Status.TheVariants as status
use Rattle.program_words.specs.Words.{reads}
use Rattle.lbfs_run.specs.Output.{output_for, view_text}

-- the statuses of a run that needs no more than its source and its sink
abbrev pub IsPlainEnd : Status → Type 0
IsPlainEnd s = (s ≡ status.Done) ⊎ (s ≡ status.BadWords) ⊎ (s ≡ status.ReadFault) ⊎ (s ≡ status.WriteFault) ⊎ (s ≡ status.Refused) ⊎ (s ≡ status.Memory)

-- where the source tells, the status and the bytes written are those that the command and the input call for
abbrev pub IsAnswered : Option Command → Option (List ℕ) → Option (List ℕ) → Option (List ℕ) → Status → Type 0
IsAnswered command left held held' s =
    (input : List ℕ) → left ≡ Some input → (s ≡ (output_for command input).0) × Appends held held' (output_for command input).1

-- whatever the source tells, bytes were taken from it that call for the status and for the bytes written; with Done
-- they were all, where the command has the input read
abbrev pub IsAnsweredFrom : Option Command → Option (List ℕ) → Option (List ℕ) → Option (List ℕ) → Option (List ℕ) → Status → Type 0
IsAnsweredFrom command left left' held held' s =
    (input : List ℕ) × Consumes left left' input × (s ≡ status.Done → reads command ≡ true → IsAtEnd left') × (s ≡ (output_for command input).0) × Appends held held' (output_for command input).1

-- where the source tells, what was written is a front of the bytes that they call for
abbrev pub IsBegun : Option Command → Option (List ℕ) → Option (List ℕ) → Option (List ℕ) → Type 0
IsBegun command left held held' = (input : List ℕ) → left ≡ Some input → AppendsPrefix held held' (output_for command input).1

-- whatever the source tells, bytes were taken from it, and what was written is a front of those that they call for
abbrev pub IsBegunFrom : Option Command → Option (List ℕ) → Option (List ℕ) → Option (List ℕ) → Option (List ℕ) → Type 0
IsBegunFrom command left left' held held' = (input : List ℕ) × Consumes left left' input × AppendsPrefix held held' (output_for command input).1

-- where the source tells, what was written is a front of the bytes that they call for, and not all of them
abbrev pub IsBroken : Option Command → Option (List ℕ) → Option (List ℕ) → Option (List ℕ) → Type 0
IsBroken command left held held' = (input : List ℕ) → left ≡ Some input → AppendsPart held held' (output_for command input).1

-- the same whatever the source tells, for bytes that were taken from it
abbrev pub IsBrokenFrom : Option Command → Option (List ℕ) → Option (List ℕ) → Option (List ℕ) → Option (List ℕ) → Type 0
IsBrokenFrom command left left' held held' = (input : List ℕ) × Consumes left left' input × AppendsPart held held' (output_for command input).1

-- The input is an accepted trace, what was written (where the sink tells) is the history of its run and nothing else,
-- and that history keeps its promise.
abbrev pub IsReplayed : Option (List ℕ) → Option (List ℕ) → List ℕ → Type 0
IsReplayed held held' input = (w : World) × (accepted input ≡ Ok w) × Appends held held' (history_text (history_of w)) × IsKeptPromise input w

-- The same of a trace, whether it was read or made, and of its history or summary.
abbrev pub IsRun : View → Option (List ℕ) → Option (List ℕ) → (trace : List ℕ) → Type 0
IsRun view held held' trace = (w : World) × (accepted trace ≡ Ok w) × Appends held held' (view_text view w) × IsKeptPromise trace w

-- A write from the first byte on of a content that is whole: one part of bytes.
use Rattle.std.specs.Prelude.{◌≡◌, ℕ, ◌<◌, ◌≤◌, ◌^◌, List, [], ◌∷◌, length, ◌==◌, if◌then◌else◌}
use Rattle.command_text.specs.declared.command.Command.TheVariants as command
use Rattle.command_text.specs.declared.command.Command.{Command}
use Rattle.command_text.specs.declared.content.Part.TheVariants as part
use Rattle.client_state.specs.Counting.{ends}
use Rattle.client_state.specs.Local.{local_most, written_size, written}
use Rattle.client_state.specs.State.{State}
use Rattle.client_state.specs.declared.step.ClientStep.{ClientStep}
use Rattle.client_state.specs.declared.step.Outcome.TheVariants as outcome
use Rattle.client_state.specs.declared.task.Local.{Local}
use Rattle.open_close.specs.Step.{edits}

-- the command
abbrev pub put_of : (file : ℕ) → List ℕ → Command
put_of file bytes = command.Write file 0 (part.Bytes bytes ∷ [])

-- what `writes` makes of it
abbrev pub puts : State → (file : ℕ) → List ℕ → Local → State × ClientStep
puts s file bytes l = if length bytes == 0 then (s, ends outcome.Done 0 0) else edits s file l (written_size (length l.bytes) 0 (length bytes)) (written l.bytes 0 bytes)

-- and `WriteTakes`
abbrev pub PutTakes : List ℕ → Local → Type 0
PutTakes bytes l = (length bytes ≡ 0 → ⊥) × (written_size (length l.bytes) 0 (length bytes) < 2 ^ 128 → written_size (length l.bytes) 0 (length bytes) ≤ local_most)

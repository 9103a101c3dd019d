-- What is written for an input, and the status that the run then ends with.
use Rattle.std.specs.Prelude.{◌≡◌, ◌⊎◌, ℕ, List, [], ◌∷◌, ◌++◌, length, Option, Some, None, Result, Ok, Err, Bool, true, false, nat_lt, codes, decimal, flat_map}
use Rattle.limits.specs.declared.TheConstants.{INPUT_MOST}
use Rattle.hex.specs.Hex.{encode_lower}
use Rattle.chunk_cut.specs.Chunks.{chunks_of}
use Rattle.chunk_cut.specs.declared.chunk.Chunk.{Chunk}
use Rattle.record_show.specs.Show.{shown}
use Rattle.register_model.specs.Text.{history_text, summary_text}
use Rattle.trace_text.specs.Refusals.{refusal_of}
use Rattle.trace_text.specs.declared.refusal.Refusal.TheVariants as refusal
use Rattle.trace_replay.specs.declared.fault.Refused.{Refused}
use Rattle.trace_replay.specs.World.{World}
use Rattle.trace_replay.specs.World.{history_of}
use Rattle.trace_replay.specs.Timed.{accepted}
use Rattle.trace_generator.specs.Lines.{generated_text}
use Rattle.program_words.specs.declared.asked.View.{View}
use Rattle.program_words.specs.declared.asked.View.TheVariants.{History, Summary}
use Rattle.program_words.specs.declared.asked.InputCommand.{InputCommand}
use Rattle.program_words.specs.declared.asked.InputCommand.TheVariants as input
use Rattle.program_words.specs.declared.asked.SeedCommand.{SeedCommand}
use Rattle.program_words.specs.declared.asked.SeedCommand.TheVariants as seeded
use Rattle.program_words.specs.declared.asked.Command.{Command}
use Rattle.program_words.specs.declared.asked.Command.TheVariants.{OfInput, OfSeed}
use Rattle.exit_status.specs.declared.status.Status.{Status}
use Rattle.exit_status.specs.declared.status.Status.TheVariants as status

-- the statuses with which all of the output was written
abbrev pub IsWhole : Status → Type 0
IsWhole s = (s ≡ status.Done) ⊎ (s ≡ status.BadWords) ⊎ (s ≡ status.Refused)

-- where a chunk begins, how many bytes it has, and their digest
abbrev pub chunk_line : Chunk → List ℕ
chunk_line chunk = codes "chunk " ++ decimal chunk.start ++ codes " " ++ decimal chunk.len ++ codes " " ++ encode_lower chunk.digest ++ codes "\n"

-- a line for each chunk of the content, and one with their count and that of all bytes
abbrev pub cut_text : List ℕ → List ℕ
cut_text content = flat_map chunk_line (chunks_of content) ++ codes "chunks " ++ decimal (length (chunks_of content)) ++ codes " bytes " ++ decimal (length content) ++ codes "\n"

-- how a run is told: its history, or the counts of that and of the server's journal
abbrev pub view_text : View → World → List ℕ
view_text History w = history_text (history_of w)
view_text Summary w = summary_text (history_of w) (length w.core.server.journal)

-- the world that a trace comes to, or the first line that is refused
abbrev pub told : View → Result World Refused → Status × List ℕ
told view (Ok w) = (status.Done, view_text view w)
told view (Err r) = (status.Refused, refusal_of (refusal.Line r.line r.fault))

abbrev pub replay_output : View → (trace : List ℕ) → Status × List ℕ
replay_output view trace = told view (accepted trace)

abbrev pub input_output : InputCommand → (input : List ℕ) → Status × List ℕ
input_output (input.Replay view) bytes = replay_output view bytes
input_output input.Cut bytes = (status.Done, cut_text bytes)
input_output input.Show bytes = (status.Done, shown bytes)

-- a trace of so many blocks that is made from a seed
abbrev pub seed_output : (seed blocks : ℕ) → SeedCommand → Status × List ℕ
seed_output seed blocks seeded.Write = (status.Done, generated_text seed blocks)
seed_output seed blocks (seeded.Replay view) = replay_output view (generated_text seed blocks)

-- the most bytes that an input may have
abbrev pub most_bytes : ℕ
most_bytes = INPUT_MOST

-- an input that is too long is refused
abbrev pub unless_long : Bool → Status × List ℕ → Status × List ℕ
unless_long true output = (status.Refused, refusal_of refusal.LimitBytes)
unless_long false output = output

-- what is written for a command, or where there is none, and an input, and how the run ends, where nothing fails and
-- memory lasts
abbrev pub output_for : Option Command → List ℕ → Status × List ℕ
output_for None bytes = (status.BadWords, refusal_of refusal.Words)
output_for (Some (OfInput c)) bytes = unless_long (nat_lt most_bytes (length bytes)) (input_output c bytes)
output_for (Some (OfSeed seed blocks c)) bytes = seed_output seed blocks c

-- A command that makes its trace takes nothing from the source.
use Rattle.std.proofs.Common.{◌≡◌, ℕ, List, [], true, false, Option, Some, None, refl, sym, ap, ◌∙◌}
use Rattle.std.specs.Io.KnownBytes.{Consumes, IsAtEnd}
use Rattle.exit_status.specs.declared.status.Status.{Status}
use Rattle.exit_status.specs.declared.status.Status.TheVariants as status
use Rattle.program_words.specs.declared.asked.SeedCommand.{SeedCommand}
use Rattle.program_words.specs.declared.asked.Command.{Command}
use Rattle.program_words.specs.declared.asked.Command.TheVariants.{OfSeed}
use Rattle.program_words.specs.Words.{reads}
use Rattle.lbfs_run.specs.Output.{output_for, seed_output}

nothing : (left : Option (List ℕ)) → Consumes left left []
nothing None = tt
nothing (Some xs) = refl

no_reading : {A : Type 0} → false ≡ true → A
no_reading e = absurd cc

pub of_seed : (asked : Option Command) (left : Option (List ℕ)) (seed blocks : ℕ) (command : SeedCommand) (s : Status) (text : List ℕ) → asked ≡ Some (OfSeed seed blocks command) → (s, text) ≡ seed_output seed blocks command
    → (input : List ℕ) × Consumes left left input × (s ≡ status.Done → reads asked ≡ true → IsAtEnd left) × (output_for asked input ≡ (s, text))
of_seed asked left seed blocks command s text asks out = ([], nothing left, (λ done read. no_reading (ap reads (sym asks) ∙ read)), ap (λ (c : Option Command). output_for c []) asks ∙ sym out)

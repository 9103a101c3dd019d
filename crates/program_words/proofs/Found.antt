-- What an option was given, and what follows from it.
use Rattle.std.proofs.Common.{◌≡◌, ◌&&◌, ℕ, Bool, true, false, not, List, Option, refl, ◌∙◌}
use Rattle.std.specs.Borrow.{Bor}
use Rattle.std.specs.Option.{option_map}
use Rattle.clap.proofs.WalkLemmas.{first_value-rows}
use Rattle.clap.specs.Words.{Text, first_of, first_value, rows_of}
use Rattle.clap.specs.declared.parser.matches.Found.{Found}

-- a plain command has no argument that is global
pub is_own : (a b global rest : Bool) → (a && (b && (not global && rest))) ≡ true → global ≡ false
is_own a b false rest e = refl
is_own true true true rest e = absurd cc
is_own true false true rest e = absurd cc
is_own false b true rest e = absurd cc

-- the first value that was found is that of the rows
pub first_found : (f : Found) (name : Text) (o : Option (Bor (List ℕ))) → option_map (λ s. s.now) o ≡ first_value f name → option_map (λ s. s.now) o ≡ first_of name (rows_of f)
first_found f name o is = is ∙ first_value-rows f name

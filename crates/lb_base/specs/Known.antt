-- Known bytes over several calls.
use Rattle.std.specs.Prelude.{◌≡◌, ℕ, ◌<◌, List, ◌++◌, length, Option}
use Rattle.std.specs.Io.KnownBytes.{Appends}

-- known bytes grow by a front of these
abbrev pub AppendsPrefix : Option (List ℕ) → Option (List ℕ) → List ℕ → Type 0
AppendsPrefix old new bytes = (front : List ℕ) × (rest : List ℕ) × (front ++ rest ≡ bytes) × Appends old new front

-- known bytes grow by a front of these, and not by all
abbrev pub AppendsPart : Option (List ℕ) → Option (List ℕ) → List ℕ → Type 0
AppendsPart old new bytes = (front : List ℕ) × (rest : List ℕ) × (front ++ rest ≡ bytes) × Appends old new front × (0 < length rest)

-- Why a loop over a link's records ended, and how many links were taken.
use Rattle.std.specs.Prelude.{◌≡◌, ℕ, ◌+◌, ◌-◌, ◌^◌, ◌≤◌, ◌++◌, min, List, Option, None}
use Rattle.std.specs.Io.KnownBytes.{Consumes}
use Rattle.record_ends.specs.Ends.{Kept, coming, nothing_kept}

-- these bytes were taken and these records were given, which stand before all that is to come
abbrev pub Gave : Kept → List ℕ → List (List ℕ) → Kept → Type 0
Gave old bytes records new = (more : List ℕ) → coming old (bytes ++ more) ≡ record (coming new more) { records = records ++ (coming new more).records }

-- of what was to come some bytes were taken, and no record can stand behind these
abbrev pub IsSpoilt : Option (List ℕ) → Option (List ℕ) → Type 0
IsSpoilt before after = (bytes : List ℕ) × Consumes before after bytes × ¬ ((coming nothing_kept bytes).spoilt ≡ None)

-- at least so many more were counted, as far as a count goes
abbrev pub CountsMore : (before more after : ℕ) → Type 0
CountsMore before more after = min (before + more) (2 ^ 64 - 1) ≤ after

-- What the words of paths stand for: names joined by `/`, from the root on.
use Rattle.std.specs.Prelude.{ℕ, ◌-◌, List, [], ◌∷◌, length, remove, slice_index_or, nat_le, Option, Some, None, codes, bytes_eq, if◌then◌else◌}
use Rattle.limits.specs.declared.TheConstants.{PATH_NAMES_MOST}
use Rattle.command_text.specs.declared.path.Spot.{Spot}
use Rattle.command_text.specs.Fields.{◌>>=◌, name_of}
use Rattle.command_text.specs.Parts.{cut_at}

abbrev pub names_of : List (List ℕ) → Option (List (List ℕ))
names_of [] = Some []
names_of (w ∷ ws) = name_of w >>= λ n. names_of ws >>= λ ns. Some (n ∷ ns)

-- a path has so many names at most
abbrev pub within_path : List (List ℕ) → Option (List (List ℕ))
within_path names = if nat_le (length names) PATH_NAMES_MOST then Some names else None

-- a path other than `/`: at least one name
abbrev pub names_in : List ℕ → Option (List (List ℕ))
names_in word = names_of (cut_at 47 word) >>= within_path

-- the last name, in the directory of those before it
abbrev pub spot_at : List (List ℕ) → Spot
spot_at names = record { dirs = remove names (length names - 1); name = slice_index_or names (length names - 1) [] }

abbrev pub spot_in : List (List ℕ) → Option Spot
spot_in [] = None
spot_in (n ∷ ns) = Some (spot_at (n ∷ ns))

abbrev pub spot_of : List ℕ → Option Spot
spot_of word = names_in word >>= spot_in

-- any path: `/` is the root
abbrev pub path_of : List ℕ → Option (List (List ℕ))
path_of word = if bytes_eq word (codes "/") then Some [] else names_in word

-- The path that a word names: from the root where it begins with a slash (47), else from a directory.
use Rattle.std.specs.Prelude.{ℕ, ◌-◌, List, [], ◌∷◌, ◌++◌, Bool, ◌||◌, ◌==◌, length, take, nat_le, Result, Ok, Err, codes, bytes_eq, if◌then◌else◌}
use Rattle.limits.specs.declared.TheConstants.{NAME_MOST, PATH_NAMES_MOST}
use Rattle.command_text.specs.Parts.{cut_at}
use Rattle.shell_words.specs.Giving.{◌>>=◌}
use Rattle.shell_words.specs.declared.mistake.Mistake.{Mistake}
use Rattle.shell_words.specs.declared.mistake.Mistake.TheVariants as mistake

-- a part that stays where it is
abbrev pub stays : List ℕ → Bool
stays part = length part == 0 || bytes_eq part (codes ".")

-- one directory up; the root stays
abbrev pub above : List (List ℕ) → List (List ℕ)
above names = take (length names - 1) names

abbrev pub within : List (List ℕ) → Result (List (List ℕ)) Mistake
within names = if nat_le (length names) PATH_NAMES_MOST then Ok names else Err mistake.LongPath

-- what one part makes of the names so far
abbrev pub stepped : List (List ℕ) → List ℕ → Result (List (List ℕ)) Mistake
stepped names part =
    if stays part then Ok names
    else if bytes_eq part (codes "..") then Ok (above names)
    else if nat_le (length part) NAME_MOST then Ok (names ++ part ∷ [])
    else Err mistake.LongName

abbrev pub walked : List (List ℕ) → List (List ℕ) → Result (List (List ℕ)) Mistake
walked names [] = within names
walked names (part ∷ parts) = stepped names part >>= λ more. walked more parts

abbrev pub is_absolute : List ℕ → Bool
is_absolute word = bytes_eq (take 1 word) (codes "/")

-- the directory from which a word goes
abbrev pub from_of : List (List ℕ) → List ℕ → List (List ℕ)
from_of dir word = if is_absolute word then [] else dir

abbrev pub path_of : List (List ℕ) → List ℕ → Result (List (List ℕ)) Mistake
path_of dir word = walked (from_of dir word) (cut_at 47 word)

-- the last part of a word that isn't empty, or this one
abbrev pub last_from : List ℕ → List (List ℕ) → List ℕ
last_from last [] = last
last_from last (part ∷ parts) = if length part == 0 then last_from last parts else last_from part parts

abbrev pub last_of : List ℕ → List ℕ
last_of word = last_from [] (cut_at 47 word)

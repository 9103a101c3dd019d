-- The names of files that are being written here, and which names go between a folder and a directory.
use Rattle.std.specs.Prelude.{ℕ, List, ◌∷◌, ◌++◌, Bool, not, ◌&&◌, ◌==◌, Option, Some, None, take, drop, codes, decimal, bytes_eq, is_some, if◌then◌else◌}
use Rattle.std.specs.List.{before_first, after_first}
use Rattle.command_text.specs.Fields.{◌>>=◌, number_of}
use Rattle.shell_words.specs.Local.{is_local}

-- the number of the process, a hyphen (45) and that of the thread
abbrev pub temporary : (process thread : ℕ) → List ℕ
temporary process thread = codes "~lbfs-" ++ decimal process ++ 45 ∷ decimal thread

abbrev pub first_of_two : List ℕ → Option ℕ
first_of_two text = number_of (before_first (λ b. b == 45) text) >>= λ n. number_of (after_first (λ b. b == 45) text) >>= λ m. Some n

-- the process that writes, or wrote, a file of such a name
abbrev pub writer_of : List ℕ → Option ℕ
writer_of name = if bytes_eq (take 6 name) (codes "~lbfs-") then first_of_two (drop 6 name) else None

abbrev pub is_temporary : List ℕ → Bool
is_temporary name = is_some (writer_of name)

-- all that this host can have, but for those
abbrev pub is_carried : List ℕ → Bool
is_carried name = is_local name && not (is_temporary name)

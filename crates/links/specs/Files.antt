-- Files of the host, by their names.
use Rattle.std.specs.Prelude.{ℕ, List, [], ◌∷◌, ◌++◌, Bool, true, false, not, bytes_eq, if◌then◌else◌}
use Rattle.std.specs.List.{filter}
use Rattle.links.specs.declared.files.HostFile.{HostFile}

abbrev pub is_of : List ℕ → HostFile → Bool
is_of name file = bytes_eq file.name name

-- whether there is a file of this name
abbrev pub is_there : List ℕ → List HostFile → Bool
is_there name [] = false
is_there name (f ∷ fs) = let later : Bool = is_there name fs in if is_of name f then true else later

-- the bytes of the first file of this name; where there is none, no bytes
abbrev pub bytes_of : List ℕ → List HostFile → List ℕ
bytes_of name [] = []
bytes_of name (f ∷ fs) = let later : List ℕ = bytes_of name fs in if is_of name f then f.bytes else later

-- the files with this one in the place of all of its name
abbrev pub with_file : List ℕ → List ℕ → List HostFile → List HostFile
with_file name bytes files = filter (λ f. not (is_of name f)) files ++ record { name = name; bytes = bytes } ∷ []

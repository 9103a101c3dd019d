-- Which names may be given to a file of the host, and its path.
use Rattle.std.specs.Prelude.{ℕ, List, ◌∷◌, ◌++◌, Bool, Option, Some, None, not, ◌&&◌, ◌||◌, ◌==◌, length, take, drop, codes, bytes_eq, if◌then◌else◌}
use Rattle.std.specs.List.{list_any}
use Rattle.std.specs.Str.{is_utf8}
use Rattle.shell_words.specs.Paths.{is_absolute}

-- a slash or a NUL
abbrev pub is_parting : ℕ → Bool
is_parting b = b == 47 || b == 0

-- one component of a path, which stays in its folder: not empty, not . or .., and without a slash
abbrev pub is_component : List ℕ → Bool
is_component name = not (length name == 0) && not (bytes_eq name (codes ".")) && not (bytes_eq name (codes "..")) && not (list_any is_parting name)

-- the host's paths are texts
abbrev pub is_local : List ℕ → Bool
is_local name = is_component name && is_utf8 name

-- the file of a name in a folder
abbrev pub below : (folder name : List ℕ) → List ℕ
below folder name = folder ++ 47 ∷ name

-- the file that a word names, where a folder is worked in
abbrev pub local_path : (folder word : List ℕ) → List ℕ
local_path folder word = if is_absolute word then word else below folder word

-- the file of a name in a folder that may be the root
abbrev pub within : (folder name : List ℕ) → List ℕ
within folder name = if bytes_eq folder (codes "/") then 47 ∷ name else below folder name

-- a path from the root, by that of the folder (.) in which the program runs
abbrev pub whole_from : (here local : List ℕ) → List ℕ
whole_from here local =
    if is_absolute local then local
    else if bytes_eq local (codes ".") then here
    else if bytes_eq (take 2 local) (codes "./") then within here (drop 2 local)
    else within here local

-- where that folder isn't known a path stays as it is
abbrev pub whole_path : (here : Option (List ℕ)) → (local : List ℕ) → List ℕ
whole_path None local = local
whole_path (Some here) local = whole_from here local

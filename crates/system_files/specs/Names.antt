-- The names of the files of a store's folder.
use Rattle.std.specs.Prelude.{ℕ, Bool, List, [], ◌∷◌, ◌++◌, ◌<◌, ◌^◌, length, nat_lt, ◌&&◌, ◌||◌, Option, Some, None, ◌==◌, if◌then◌else◌, bytes_eq, codes, decimal}
use Rattle.command_text.specs.Fields.{number_of}
use Rattle.log_store.specs.declared.which.Which.{Which}
use Rattle.log_store.specs.declared.which.Which.TheVariants as which

abbrev pub name_of : Which → List ℕ
name_of which.Head = codes "head"
name_of (which.Node id) = codes "n" ++ decimal id
name_of (which.Content id) = codes "c" ++ decimal id

-- the record that a letter and an id tell
abbrev pub lettered_by : ℕ → Option ℕ → Option Which
lettered_by letter None = None
lettered_by letter (Some id) = if letter == 110 then Some (which.Node id) else if letter == 99 then Some (which.Content id) else None

-- a letter, and behind it an id
abbrev pub lettered : ℕ → List ℕ → Option Which
lettered letter digits = lettered_by letter (number_of digits)

abbrev pub lettered_in : List ℕ → Option Which
lettered_in [] = None
lettered_in (c ∷ cs) = lettered c cs

-- the record whose file has this name; any other name is none's
abbrev pub which_of : List ℕ → Option Which
which_of name = if bytes_eq name (codes "head") then Some which.Head else lettered_in name

-- a content as a file is made with it: of the first version, and without bytes
abbrev pub made_bytes : List ℕ
made_bytes = 0 ∷ 0 ∷ 0 ∷ 0 ∷ 0 ∷ 0 ∷ 0 ∷ 1 ∷ []

-- the bytes of a file of which a cut of power left none
abbrev pub are_lost : List ℕ → Bool
are_lost bytes = nat_lt (length bytes) 8 || bytes_eq bytes (0 ∷ 0 ∷ 0 ∷ 0 ∷ 0 ∷ 0 ∷ 0 ∷ 0 ∷ [])

-- the bytes of a content whose file has these, by whether its second name is there
abbrev pub as_read : Bool → List ℕ → List ℕ
as_read is_made bytes = if is_made && are_lost bytes then made_bytes else bytes

-- the second name of a content's file, which has the content as a file is made with it
abbrev pub made_name : ℕ → List ℕ
made_name id = codes "m" ++ decimal id

-- an id has 64 bits
abbrev pub IsWord : Which → Type 0
IsWord which.Head = Unit {0}
IsWord (which.Node id) = id < 2 ^ 64
IsWord (which.Content id) = id < 2 ^ 64

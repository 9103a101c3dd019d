-- Which names a directory takes.
use Rattle.std.specs.Prelude.{ℕ, List, [], ◌∷◌, length, Bool, ◌||◌, ◌==◌, if◌then◌else◌, nat_lt, Result, Ok, Err}
use Rattle.std.specs.List.{list_any}
use Rattle.std.specs.Str.{bytes_eq}
use Rattle.limits.specs.declared.TheConstants.{NAME_MOST}
use Rattle.xdr_codec.specs.declared.status.Status.{Status}
use Rattle.xdr_codec.specs.declared.status.Status.TheVariants as status

-- one byte, the number 46, and two of them
abbrev pub is_dot : List ℕ → Bool
is_dot name = bytes_eq name (46 ∷ [])

abbrev pub is_dot_dot : List ℕ → Bool
is_dot_dot name = bytes_eq name (46 ∷ 46 ∷ [])

-- no byte, or among them a slash or a zero byte
abbrev pub is_misspelt : List ℕ → Bool
is_misspelt name = (length name == 0) || list_any (λ b. (b == 47) || (b == 0)) name

abbrev pub spelt : List ℕ → Result Unit Status
spelt name = if nat_lt NAME_MOST (length name) then Err status.NameTooLong else (if is_misspelt name then Err status.Acces else Ok tt)

-- `.` is refused with the one status, and `..` with the other
abbrev pub undotted : Status → Status → List ℕ → Result Unit Status
undotted dot dot_dot name = if is_dot name then Err dot else (if is_dot_dot name then Err dot_dot else Ok tt)

-- What lies at a place, which whoever finds it by an index looks at again.
use Rattle.std.specs.Prelude.{ℕ, ◌+◌, List, length, take, drop, Option, Some, None, nat_le, if◌then◌else◌}
use Rattle.chunk_index.specs.declared.place.Place.{Place}

-- the bytes of a place, where they lie in the content of its file
abbrev pub bytes_placed : (content : List ℕ) → Place → Option (List ℕ)
bytes_placed content p = if nat_le (p.offset + p.count) (length content) then Some (take p.count (drop p.offset content)) else None

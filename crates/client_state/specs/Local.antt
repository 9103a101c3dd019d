-- What write, trunc and read make of an open file's local content.
use Rattle.std.specs.Prelude.{ℕ, ◌+◌, ◌-◌, List, [], ◌∷◌, ◌++◌, length, take, drop, replicate, max}
use Rattle.limits.specs.declared.TheConstants.{FILE_MOST}

-- no local content is longer, in bytes
abbrev pub local_most : ℕ
local_most = FILE_MOST

-- how long a content is after a write of so many bytes, which are some
abbrev pub written_size : (size offset count : ℕ) → ℕ
written_size size offset count = max size (offset + count)

-- bytes written at a place: a gap before them is filled with zeros; a write of no bytes changes nothing
abbrev pub written : List ℕ → (offset : ℕ) → List ℕ → List ℕ
written content offset [] = content
written content offset (b ∷ bs) = take offset content ++ replicate (offset - length content) 0 ++ b ∷ bs ++ drop (offset + length (b ∷ bs)) content

-- cut to a size, or filled with zeros up to it
abbrev pub truncated : List ℕ → (size : ℕ) → List ℕ
truncated content size = take size content ++ replicate (size - length content) 0

-- what there is of a range
abbrev pub part_of : List ℕ → (offset count : ℕ) → List ℕ
part_of content offset count = take count (drop offset content)

-- The pieces of one temporary file: which may be put among them, and what they come to.
use Rattle.std.specs.Prelude.{ℕ, ◌+◌, ◌<◌, ◌≤◌, List, [], ◌∷◌, ◌++◌, length, Option, Some, None, Bool, ◌&&◌, ◌==◌, nat_lt, if◌then◌else◌}
use Rattle.limits.specs.declared.TheConstants.{FILE_MOST}
use Rattle.std.specs.BTreeMap.{insert_entry}
use Rattle.std.specs.List.{list_any}
use Rattle.std.specs.Option.{option_map}
use Rattle.std.specs.Ordering.{nat_cmp}
use Rattle.xdr_codec.specs.declared.status.Status.{Status}
use Rattle.xdr_codec.specs.declared.status.Status.TheVariants as status

-- the bytes of a piece, behind the place of its first
abbrev pub Piece : Type 0
Piece = ℕ × List ℕ

-- no temporary file reaches further, in bytes
abbrev pub size_most : ℕ
size_most = FILE_MOST

-- ---- which may be put

-- a piece meets the range from start up to end
abbrev pub overlaps : (start end : ℕ) → Piece → Bool
overlaps start end p = nat_lt p.0 end && nat_lt start (p.0 + length p.1)

-- why a piece of so many bytes can't be put at this place among others: it is empty, it ends beyond all numbers of 64 bits,
-- it ends beyond the limit, it meets another
abbrev pub range_fault : List Piece → (offset count : ℕ) → Option Status
range_fault pieces offset count =
    if count == 0 then Some status.Inval
    else if nat_lt 18446744073709551615 (offset + count) then Some status.Inval
    else if nat_lt size_most (offset + count) then Some status.FBig
    else if list_any (overlaps offset (offset + count)) pieces then Some status.Inval
    else None

-- each piece has its place by its first byte
abbrev pub and_piece : List Piece → (offset : ℕ) → List ℕ → List Piece
and_piece pieces offset bytes = insert_entry nat_cmp pieces offset bytes

-- Pieces that stand apart, in order: each has a byte, and begins where the one before it ends or later; the last ends
-- within the limit. Those of a temporary file do.
abbrev pub StandApart : (at : ℕ) → List Piece → Type 0
StandApart at [] = at ≤ size_most
StandApart at (p ∷ ps) = (at ≤ p.0) × (0 < length p.1) × StandApart (p.0 + length p.1) ps

-- ---- what they come to

-- the bytes of all pieces, one behind the other
abbrev pub all_bytes : List Piece → List ℕ
all_bytes [] = []
all_bytes (p ∷ ps) = p.1 ++ all_bytes ps

-- the pieces joined, where the first begins at this place, each other where the one before it ends, and the end is at the size
abbrev pub joined : (at size : ℕ) → List Piece → Option (List ℕ)
joined at size [] = if at == size then Some [] else None
joined at size (p ∷ ps) =
    let rest : Option (List ℕ) = joined (at + length p.1) size ps in
    if p.0 == at then option_map (λ bytes. p.1 ++ bytes) rest else None

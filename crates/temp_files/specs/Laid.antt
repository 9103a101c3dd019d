-- How the pieces of a temporary file lie: the first of them in one list of bytes, from 0 on, as far as each begins where the one
-- before it ends, and the others by their places.
use Rattle.std.specs.Prelude.{◌≡◌, ℕ, ◌+◌, ◌≤◌, List, [], ◌∷◌, ◌++◌, length, take, drop, Option, Some, None, ⊤}
use Rattle.temp_files.specs.Pieces.{Piece}

-- bytes from a place on, cut into pieces of these lengths
abbrev pub cut_up : (at : ℕ) → (bytes lengths : List ℕ) → List Piece
cut_up at bytes [] = []
cut_up at bytes (n ∷ ns) = (at, take n bytes) ∷ cut_up (at + n) (drop n bytes) ns

-- pieces of these lengths are all of the bytes
abbrev pub AreLengthsOf : (bytes lengths : List ℕ) → Type 0
AreLengthsOf bytes [] = bytes ≡ []
AreLengthsOf bytes (n ∷ ns) = (n ≤ length bytes) × AreLengthsOf (drop n bytes) ns

-- all pieces: those in the list from 0 on, and the others
abbrev pub laid : (front lengths : List ℕ) → List Piece → List Piece
laid front lengths rest = cut_up 0 front lengths ++ rest

-- the first of the pieces, if there is one, begins at this place, and ends within the room
abbrev pub IsNext : (at room : ℕ) → List Piece → Type 0
IsNext at room [] = ⊤
IsNext at room (p ∷ ps) = (p.0 ≡ at) × (at + length p.1 ≤ room)

-- the bytes of the first pieces: those that are shared, where some are, and else its own
abbrev pub front_bytes : Option (List ℕ) → (own : List ℕ) → List ℕ
front_bytes None own = own
front_bytes (Some shared) own = shared

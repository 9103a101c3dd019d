-- What the pieces of a temporary file come to, without a word of how they are joined.
use Rattle.std.specs.Prelude.{◌≡◌, ℕ, ◌+◌, ◌<◌, ◌≤◌, List, length, take, drop, filter, All, Option, Some, None, Bool, ◌&&◌, nat_lt, nat_le}
use Rattle.temp_files.specs.Pieces.{Piece}

-- a piece has the byte at this place
abbrev pub has_place : ℕ → Piece → Bool
has_place at p = nat_le p.0 at && nat_lt at (p.0 + length p.1)

-- The pieces cover 0 to the size once each and nothing beyond, and the content is what they say: each place below the size
-- is in exactly one piece, no piece ends beyond the size, and the content has the size and at each piece's place its bytes.
pub record IsCovered (pieces : List Piece) (size : ℕ) (content : List ℕ) : Type 0 where
  pub once : (at : ℕ) → at < size → length (filter (has_place at) pieces) ≡ 1
  pub within : All (λ p. p.0 + length p.1 ≤ size) pieces
  pub len : length content ≡ size
  pub bytes : All (λ p. take (length p.1) (drop p.0 content) ≡ p.1) pieces

-- what pieces come to: the content that they cover, or nothing, where they cover none
abbrev pub ComesTo : List Piece → (size : ℕ) → Option (List ℕ) → Type 0
ComesTo pieces size None = (content : List ℕ) → IsCovered pieces size content → ⊥
ComesTo pieces size (Some content) = IsCovered pieces size content

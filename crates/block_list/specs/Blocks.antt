-- Numbers in blocks with room for 2,048 each: the first blocks are full, and those behind the last number are empty.
use Rattle.std.specs.Prelude.{◌≡◌, ℕ, ◌+◌, ◌-◌, ◌*◌, List, [], length, min, slice_index_or}

-- the numbers of a block; none past the last
abbrev pub block_at : List (List ℕ) → ℕ → List ℕ
block_at blocks k = slice_index_or blocks k []

-- how many of so many numbers a block has
abbrev pub share : ℕ → ℕ → ℕ
share n k = min 2048 (n - k * 2048)

-- the blocks have so many numbers
abbrev pub AreFilled : List (List ℕ) → ℕ → Type 0
AreFilled blocks n = (k : ℕ) → length (block_at blocks k) ≡ share n k

-- they have as many, but one block is short of one number, for which the blocks behind it have one more
pub record HaveHole (blocks : List (List ℕ)) (n hole : ℕ) : Type 0 where
  pub short : length (block_at blocks hole) + 1 ≡ share (n + 1) hole
  pub others : (k : ℕ) → (k ≡ hole → ⊥) → length (block_at blocks k) ≡ share (n + 1) k

-- What contracts see of a list.
use Rattle.std.specs.Prelude.{◌≡◌, ℕ, ◌+◌, ◌*◌, ◌<◌, ◌^◌, List, length}
use Rattle.std.specs.List.{concat}
use Rattle.block_list.specs.Blocks.{AreFilled}

pub record Listed : Type 0 where
  -- the numbers
  pub items : List ℕ
  -- for how many more there is room
  pub room : ℕ

-- the blocks have all numbers, and room for so many more
pub record IsSound (blocks : List (List ℕ)) (len room : ℕ) : Type 0 where
  pub counted : len ≡ length (concat blocks)
  pub filled : AreFilled blocks len
  pub wide : len + room ≡ 2048 * length blocks
  pub few : len + room < 2 ^ 63

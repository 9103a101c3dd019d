-- How much of a text is left.
use Rattle.std.proofs.Common.{ℕ, List, Option, Some, None, suc, length}
use Rattle.std.specs.Borrow.{Bor}

-- one more than its bytes, where a part is left
abbrev pub left_size : Option (Bor (List ℕ)) → ℕ
left_size None = 0
left_size (Some rest) = suc (length rest.now)

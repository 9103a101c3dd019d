-- The list that an owner shows.
use Rattle.std.specs.Prelude.{ℕ, List, [], Option, Some, None}
use Rattle.std.specs.Arc.{arc_value}
use Rattle.std.specs.declared.sync.Arc.{Arc}

-- the bytes that it holds, and no byte where it holds none
abbrev pub shared_list : {A : Type 0} → Option (Arc (List ℕ) A) → List ℕ
shared_list None = []
shared_list (Some held) = arc_value held

-- When all chunks of a file have come, which are asked for in order.
use Rattle.std.specs.Prelude.{ℕ, List, [], ◌∷◌, Bool, true, false, ◌&&◌, ◌==◌}

abbrev pub is_none : {A : Type 0} → List A → Bool
is_none [] = true
is_none (x ∷ xs) = false

-- no call is under way, and of so many chunks all were asked for
abbrev pub all_came : {A : Type 0} → (under : List A) → (asked count : ℕ) → Bool
all_came under asked count = is_none under && asked == count

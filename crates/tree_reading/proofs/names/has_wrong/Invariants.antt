use Rattle.std.proofs.Common.{◌≡◌, ℕ, drop}
use Rattle.std.specs.Prelude.{◌==◌, ◌||◌}
use Rattle.std.specs.List.{list_any}
use Rattle.tree_reading.proofs.names.has_wrong.Given as goal

-- those that are left decide
abbrev pub invariant-loop-byte : goal.invariant-loop-byte
invariant-loop-byte l = list_any (λ (b : ℕ). (b == 47) || (b == 0)) (drop l.byte-index l.name) ≡ list_any (λ (b : ℕ). (b == 47) || (b == 0)) l.name

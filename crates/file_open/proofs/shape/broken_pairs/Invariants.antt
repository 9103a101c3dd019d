use Rattle.std.proofs.Common.{◌≡◌, drop}
use Rattle.file_open.specs.Shape.{broken_pairs}
use Rattle.file_open.proofs.shape.broken_pairs.Given as goal

-- nothing is wrong so far
abbrev pub invariant-loop-i : goal.invariant-loop-i
invariant-loop-i l = broken_pairs l.is_last (drop l.i l.pairs) ≡ broken_pairs l.is_last l.pairs

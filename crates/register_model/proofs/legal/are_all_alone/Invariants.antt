use Rattle.std.proofs.Common.{◌≡◌, drop}
use Rattle.register_model.specs.Index.{all_alone}
use Rattle.register_model.proofs.legal.are_all_alone.Given as goal

abbrev pub invariant-loop-place : goal.invariant-loop-place
invariant-loop-place l = all_alone l.by_point l.place (drop l.place l.ops) ≡ all_alone l.by_point 0 l.ops

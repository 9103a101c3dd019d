use Rattle.std.proofs.Common.{◌≡◌, ◌++◌, drop}
use Rattle.register_model.specs.Index.{marks_from}
use Rattle.register_model.proofs.index.marks_of.Given as goal

abbrev pub invariant-loop-place : goal.invariant-loop-place
invariant-loop-place l = l.marks.items ++ marks_from l.place (drop l.place l.ops) ≡ marks_from 0 l.ops

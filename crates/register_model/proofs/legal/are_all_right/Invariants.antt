use Rattle.std.proofs.Common.{◌≡◌, drop}
use Rattle.std.specs.List.{list_all}
use Rattle.register_model.specs.Register.{value_at}
use Rattle.register_model.specs.Test.{is_right, are_all_right}
use Rattle.register_model.proofs.legal.are_all_right.Given as goal

abbrev pub invariant-loop-op : goal.invariant-loop-op
invariant-loop-op l = list_all (λ o. is_right (value_at l.history o.file) o o.point) (drop l.op-index l.history.ops) ≡ are_all_right l.history

use Rattle.std.proofs.Common.{◌≡◌, ◌≤◌, ◌+◌, drop}
use Rattle.register_model.specs.Summary.{ended, ended_so}
use Rattle.register_model.proofs.summary.count.Given as goal

abbrev pub invariant-loop-op : goal.invariant-loop-op
invariant-loop-op l = record {
  told : l.found + ended (ended_so l.way) (drop l.op-index l.ops) ≡ ended (ended_so l.way) l.ops;
  few : l.found ≤ l.op-index;
}

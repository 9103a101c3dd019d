use Rattle.std.proofs.Common.{◌≡◌, ◌≤◌, drop}
use Rattle.tree_reading.specs.Tree.{tree_most}
use Rattle.tree_load.specs.Load.{first_fault}
use Rattle.tree_load.proofs.rules.first_fault.Given as goal

abbrev pub invariant-loop-place : goal.invariant-loop-place
invariant-loop-place l = record {
  rest : first_fault l.head l.records l.place l.sum (drop l.place l.records) ≡ first_fault l.head l.records 1 0 (drop 1 l.records);
  small : l.sum ≤ tree_most;
}

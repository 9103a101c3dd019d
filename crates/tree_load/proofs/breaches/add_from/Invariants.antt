use Rattle.std.proofs.Common.{◌≡◌, ◌≤◌, ◌++◌, drop}
use Rattle.tree_reading.specs.Tree.{tree_most}
use Rattle.tree_load.specs.Rules.{broken_from}
use Rattle.tree_load.proofs.breaches.add_from.Given as goal

abbrev pub invariant-loop-place : goal.invariant-loop-place
invariant-loop-place l = record {
  rest : l.found.items ++ broken_from l.head l.records l.place l.sum (drop l.place l.records) ≡ l.fn.found.items ++ broken_from l.head l.records l.fn.from 0 (drop l.fn.from l.records);
  small : l.sum ≤ tree_most;
}

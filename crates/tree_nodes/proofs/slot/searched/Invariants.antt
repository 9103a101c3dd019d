use Rattle.std.proofs.Common.{◌-◌, ◌≤◌, length}
use Rattle.tree_nodes.specs.Table.{first_from}
use Rattle.tree_nodes.proofs.slot.searched.Given as goal

abbrev pub invariant-halves : goal.invariant-halves
invariant-halves l = record {
  within : l.high ≤ length l.slots.items;
  low : l.low ≤ first_from l.slots.items l.id;
  high : first_from l.slots.items l.id ≤ l.high;
}

abbrev pub decreases-halves : goal.decreases-halves
decreases-halves l = l.high - l.low

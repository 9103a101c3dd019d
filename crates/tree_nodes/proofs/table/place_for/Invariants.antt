use Rattle.std.proofs.Common.{◌-◌, ◌≤◌, length}
use Rattle.tree_nodes.specs.Table.{shown, place_for}
use Rattle.tree_nodes.proofs.table.place_for.Given as goal

abbrev pub invariant-halves : goal.invariant-halves
invariant-halves l = record {
  within : l.high ≤ length l.order.items;
  low : l.low ≤ place_for (shown l.slots.items l.order.items) l.dir l.name;
  high : place_for (shown l.slots.items l.order.items) l.dir l.name ≤ l.high;
}

abbrev pub decreases-halves : goal.decreases-halves
decreases-halves l = l.high - l.low

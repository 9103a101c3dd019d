use Rattle.std.proofs.Common.{◌≡◌, ◌-◌, ◌≤◌}
use Rattle.block_list.proofs.list.BlockList.reserve.Given as goal

abbrev pub invariant-wider : goal.invariant-wider
invariant-wider l = record {
  items : l.self.items ≡ l.fn.self.items;
  more : l.fn.self.room ≤ l.self.room;
}

abbrev pub decreases-wider : goal.decreases-wider
decreases-wider l = l.count - l.self.room

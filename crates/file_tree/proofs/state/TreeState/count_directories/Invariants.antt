use Rattle.std.proofs.Common.{◌≡◌, ◌≤◌, map}
use Rattle.file_tree.specs.State.{IsState}
use Rattle.file_tree.specs.View.{counted_below}
use Rattle.file_tree.proofs.state.TreeState.count_directories.Given as goal

abbrev pub invariant-loop-id : goal.invariant-loop-id
invariant-loop-id l = record {
  counted : l.self.nodes.nodes ≡ map (counted_below l.id) l.fn.self.nodes.nodes;
  next : l.self.nodes.next ≡ l.fn.self.nodes.next;
  changes : l.self.changes ≡ l.fn.self.changes;
  bytes : l.self.bytes ≡ l.fn.self.bytes;
  room : l.fn.self.nodes.room ≤ l.self.nodes.room;
  state : IsState l.self;
}

use Rattle.std.proofs.Common.{◌∷◌}
use Rattle.std.specs.Vec.Iter.{into_iter_items}
use Rattle.tree_reading.specs.Tree.{root}
use Rattle.tree_load.proofs.Parting.{AreJoined, joined}
use Rattle.tree_load.proofs.making.join.Given as goal

abbrev pub invariant-loop-one : goal.invariant-loop-one
invariant-loop-one l = AreJoined (root l.changes ∷ joined l.changes l.fn.parted.contents l.fn.parted.nodes.items) l.changes l.made.items l.contents (into_iter_items l.one-iterator)

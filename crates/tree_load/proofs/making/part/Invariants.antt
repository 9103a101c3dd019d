use Rattle.std.specs.Vec.Iter.{into_iter_items}
use Rattle.tree_load.proofs.Parting.{AreParted}
use Rattle.tree_load.proofs.making.part.Given as goal

abbrev pub invariant-loop-one : goal.invariant-loop-one
invariant-loop-one l = AreParted l.fn.records.items l.parted.nodes.items l.parted.contents (into_iter_items l.one-iterator)

use Rattle.std.specs.Vec.Iter.{into_iter_items}
use Rattle.tree_nodes.proofs.lemmas.Gathering.{AreUnderIds}
use Rattle.tree_nodes.proofs.listed.under_ids.Given as goal

abbrev pub invariant-loop-node : goal.invariant-loop-node
invariant-loop-node l = AreUnderIds l.fn.nodes.items l.by_ids.entries (into_iter_items l.node-iterator)

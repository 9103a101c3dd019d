use Rattle.tree_nodes.proofs.lemmas.Gathering.{AreFilled}
use Rattle.tree_nodes.proofs.listed.from_list.Given as goal

abbrev pub invariant-loop-node : goal.invariant-loop-node
invariant-loop-node l = AreFilled l.fn.nodes.items l.next l.table l.node-iterator

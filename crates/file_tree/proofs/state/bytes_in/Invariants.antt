use Rattle.std.proofs.Common.{◌≡◌, ◌+◌, drop}
use Rattle.tree_reading.specs.Tree.{contents_size}
use Rattle.file_tree.proofs.state.bytes_in.Given as goal

abbrev pub invariant-loop-place : goal.invariant-loop-place
invariant-loop-place l = l.bytes + contents_size (drop l.place l.nodes.nodes) ≡ contents_size l.nodes.nodes

use Rattle.std.proofs.Common.{refl}
use Rattle.chunk_cut.specs.Search.{closed_ends}
use Rattle.tree_nodes.proofs.content.Content.empty.Goals as goal

pub invariant_of-result : goal.invariant_of-result
unfolding closed_ends
invariant_of-result c = rw (c.new.ensures, c.empty.ensures) (refl, c.digest.ensures)

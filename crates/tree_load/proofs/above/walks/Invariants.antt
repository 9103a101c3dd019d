use Rattle.tree_load.proofs.Climbs.{IsWalking}
use Rattle.tree_load.proofs.above.walks.Given as goal

abbrev pub invariant-halves : goal.invariant-halves
invariant-halves l = IsWalking l.count l.fn.step.items l.at.items l.jump.items l.left

abbrev pub decreases-halves : goal.decreases-halves
decreases-halves l = l.left

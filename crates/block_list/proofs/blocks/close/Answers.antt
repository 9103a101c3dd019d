use Rattle.block_list.proofs.Filled.{hole_next}
use Rattle.block_list.proofs.blocks.close.Goals as goal

pub move_back-requires-clause-next : goal.move_back-requires-clause-next
move_back-requires-clause-next c = hole_next c.holes.blocks.items c.args.len c.holes.hole c.holes.invariant.hole c.holes-test.true

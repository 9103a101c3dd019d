use Rattle.std.proofs.Common.{arith}
use Rattle.chunk_slots.proofs.Joining.{all_joined}
use Rattle.chunk_slots.proofs.joined.Goals as goal

pub returns : goal.returns
returns c = all_joined c.loop-slot.whole.items c.loop-slot.left.now c.loop-slot.lens_left.now c.args.apart.now c.loop-slot.slot-index _ (omega (arith, c.loop-slot-test.false)) c.loop-slot.invariant.1

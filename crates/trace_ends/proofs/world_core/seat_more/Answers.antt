use Rattle.trace_ends.specs.Session.{new_seat}
use Rattle.trace_ends.proofs.Seated.{seated_more}
use Rattle.trace_ends.proofs.world_core.seat_more.Goals as goal

pub loop-i-preserved : goal.loop-i-preserved
loop-i-preserved c = seated_more c.args.seats.now.items c.loop-i.seats.items c.push.new.self.items c.loop-i._i (new_seat c.args.drift c.args.lbfs) c.in_ok-new.field-0 c.loop-i.invariant c.in_ok-new.ensures c.in_ok-push.ensures.items

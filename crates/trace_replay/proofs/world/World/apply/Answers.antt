use Rattle.std.proofs.Common.{rules}
use Rattle.trace_replay.specs.WorldView.{world_of, times_of}
use Rattle.trace_replay.proofs.Applied.{applied, faulted}
use Rattle.trace_replay.proofs.world.World.apply.Goals as goal

pub returns-clause-ok : goal.returns-clause-ok
returns-clause-ok c = applied (world_of c.self.inside.state) (world_of c.take-2.new.self) (times_of c.self.inside.times) (times_of c.take.new.self) c.args.self.now c.args.number c.args.line c.in-Ok.turn c.timing_of-timing.result c.self.view_is c.in-Ok.ensures.asked c.timing_of-timing.ensures c.in-Ok-take.ensures c.in_ok-take.ensures

pub returns-in-Err-Fault-clause-err : goal.returns-in-Err-Fault-clause-err
returns-in-Err-Fault-clause-err c = faulted (Unit {0}) (world_of c.self.inside.state) (times_of c.self.inside.times) (times_of c.take.new.self) c.args.self.now c.args.number c.args.line c.in-Ok.turn c.timing_of-timing.result c.in-Err-Fault.field-0 c.in-Err-Fault.fault c.refusal-in-Err-Fault.result c.self.view_is c.in-Ok.ensures.asked c.timing_of-timing.ensures c.in-Err-Fault.ensures (search rules) (search rules)

use Rattle.std.proofs.Common.{rules, sym}
use Rattle.trace_ends.specs.Numbers.{numbered}
use Rattle.trace_replay.proofs.RawWay.{raw_stays}
use Rattle.trace_replay.proofs.sending.raw_put_in.Goals as goal

pub returns-in-None : goal.returns-in-None
returns-in-None c = sym (raw_stays c.args.wires.now.items c.args.bytes c.args.number (numbered c.args.sessions.now c.args.number) (search rules))

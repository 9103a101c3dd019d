use Rattle.std.proofs.Common.{arith}
use Rattle.rabin_window.proofs.Rolling.{appended}
use Rattle.rabin_window.proofs.append.Goals as goal

pub returns : goal.returns
returns c w is =
    rw c.from.ensures (appended c.args.print c.args.byte c.high_part.result c.requires (omega arith) c.high_part.ensures w is)

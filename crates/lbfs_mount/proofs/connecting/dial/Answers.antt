use Rattle.lbfs_mount.specs.Mounts.{IsFaulty}
use Rattle.lbfs_mount.proofs.Progress.{unpaired}
use Rattle.lbfs_mount.proofs.connecting.dial.Goals as goal

pub returns-in-Ok-dial-clause-why : goal.returns-in-Ok-dial-clause-why
returns-in-Ok-dial-clause-why g c = unpaired c.pair.result (IsFaulty g.N.L.Link.faults c.pair.new.unpaired) (g.N.Network.faults c.args.dialler.now.net) (g.N.Network.faults c.dial.new.self) c.dial.ensures.later (c.pair.ensures (g.N.Network.faults c.dial.new.self))

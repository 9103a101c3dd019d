use Rattle.lbfs_mount.specs.Heard.{SaysRun}
use Rattle.lbfs_mount.specs.Mounts.{IsFaulty}
use Rattle.lbfs_mount.proofs.Progress.{joined, outside, unjoined}
use Rattle.lbfs_mount.proofs.running.run_lines.Goals as goal

pub returns-in-Ok-clause-ends : goal.returns-in-Ok-clause-ends
returns-in-Ok-clause-ends g c = joined (SaysRun g.D.Turns.runs g.D.Turns.takes) (IsFaulty g.N.L.Link.faults c.run_on.new.dialler.unpaired) (outside (g.S.Source.left c.args.script.now) (g.S.Source.faults c.args.script.now) (g.K.Sink.held c.args.sink.now) (g.K.Sink.faults c.args.sink.now) (g.N.Network.faults c.args.dialler.now.net)) (g.N.Network.faults c.connect.new.dialler.net) (outside (g.S.Source.left c.run_on.new.script) (g.S.Source.faults c.run_on.new.script) (g.K.Sink.held c.run_on.new.sink) (g.K.Sink.faults c.run_on.new.sink) (g.N.Network.faults c.run_on.new.dialler.net)) c.run_on.result c.connect.ensures.later c.run_on.ensures.ends

pub returns-in-Err-clause-ends : goal.returns-in-Err-clause-ends
returns-in-Err-clause-ends g c = unjoined (SaysRun g.D.Turns.runs g.D.Turns.takes) (IsFaulty g.N.L.Link.faults c.connect.new.dialler.unpaired) (outside (g.S.Source.left c.args.script.now) (g.S.Source.faults c.args.script.now) (g.K.Sink.held c.args.sink.now) (g.K.Sink.faults c.args.sink.now) (g.N.Network.faults c.args.dialler.now.net)) (g.N.Network.faults c.connect.new.dialler.net) c.in-Err.why c.in-Err.ensures.why

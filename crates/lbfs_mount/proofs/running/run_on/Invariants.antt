use Rattle.std.proofs.Common.{◌≤◌}
use Rattle.lbfs_mount.specs.Heard.{SaysRun}
use Rattle.lbfs_mount.proofs.Progress.{Progress, outside}
use Rattle.lbfs_mount.proofs.running.run_on.Given as goal

abbrev pub invariant-loop-at : goal.invariant-loop-at
invariant-loop-at g l = record {
  progress : Progress (SaysRun g.D.Turns.runs g.D.Turns.takes) (outside (g.S.Source.left l.fn.script) (g.S.Source.faults l.fn.script) (g.K.Sink.held l.fn.sink) (g.K.Sink.faults l.fn.sink) (g.N.Network.faults l.fn.dialler.net)) (outside (g.S.Source.left l.script) (g.S.Source.faults l.script) (g.K.Sink.held l.sink) (g.K.Sink.faults l.sink) (g.N.Network.faults l.dialler.net)) l.lines l.at;
  reads : g.S.Source.faults l.fn.script ≤ g.S.Source.faults l.script;
  writes : g.K.Sink.faults l.fn.sink ≤ g.K.Sink.faults l.sink;
}

use Rattle.std.proofs.Common.{◌≤◌}
use Rattle.lbfs_shell.proofs.running.run_lines.Given as goal

abbrev pub invariant-loop-at : goal.invariant-loop-at
invariant-loop-at g l = record {
  reads : g.S.Source.faults l.fn.source ≤ g.S.Source.faults l.source;
  writes : g.K.Sink.faults l.fn.sink ≤ g.K.Sink.faults l.sink;
}

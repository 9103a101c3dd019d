use Rattle.std.proofs.Common.{◌≡◌}
use Rattle.std.specs.Io.KnownBytes.{Keeps}
use Rattle.lb_base.proofs.streams.StreamSinkSink.give.Given as goal

abbrev pub invariant-loop : goal.invariant-loop
invariant-loop g l = record {
  kept : Keeps (g.W.Write.contents l.fn.self.output) (g.W.Write.contents l.self.output);
  faults : l.self.faults ≡ l.fn.self.faults;
}

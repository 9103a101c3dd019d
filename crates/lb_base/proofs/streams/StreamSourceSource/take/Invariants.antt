use Rattle.std.proofs.Common.{◌≡◌}
use Rattle.std.specs.Io.KnownBytes.{Keeps}
use Rattle.lb_base.proofs.streams.StreamSourceSource.take.Given as goal

abbrev pub invariant-loop : goal.invariant-loop
invariant-loop g l = record {
  kept : Keeps (g.R.Read.remaining l.fn.self.input) (g.R.Read.remaining l.self.input);
  faults : l.self.faults ≡ l.fn.self.faults;
}

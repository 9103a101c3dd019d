use Rattle.std.proofs.Common.{◌≡◌}
use Rattle.host.proofs.tcp.TcpLinkLink.take.Given as goal

abbrev pub invariant-loop : goal.invariant-loop
invariant-loop g l = l.self.faults ≡ l.fn.self.faults

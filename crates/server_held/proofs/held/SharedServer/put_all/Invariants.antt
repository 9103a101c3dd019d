use Rattle.server_held.specs.Held.{Delivered}
use Rattle.server_held.proofs.held.SharedServer.put_all.Given as goal

abbrev pub invariant-loop-sent : goal.invariant-loop-sent
invariant-loop-sent g l = Delivered g.S.Store.records g.S.Store.faults l.fn.self l.yielded l.all l.self

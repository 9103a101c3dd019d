use Rattle.std.proofs.Common.{refl}
use Rattle.server_held.proofs.Delivering.{took}
use Rattle.server_held.proofs.held.SharedServer.take_message.Goals as goal

pub returns-then-deliver : goal.returns-then-deliver
returns-then-deliver g c = took g.S.Store.records g.S.Store.faults c.args.self.now _ _ c.standing.result c.deliver.new.self c.step-send.result c.deliver.result c.step-send.ensures.stepped c.step-send.ensures.store refl c.deliver.ensures (λ not. c.if-deliver.true) c.standing.ensures.0

pub returns-else-deliver : goal.returns-else-deliver
returns-else-deliver g c = took g.S.Store.records g.S.Store.faults c.args.self.now _ _ _ c.deliver.new.self c.step-send.result c.deliver.result c.step-send.ensures.stepped c.step-send.ensures.store refl c.deliver.ensures (λ not. absurd (not refl)) tt

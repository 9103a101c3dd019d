use Rattle.std.proofs.Common.{refl, inl, inr, sym, ◌∙◌}
use Rattle.server_held.proofs.Delivering.{took}
use Rattle.server_held.proofs.Quiet.{quiet}
use Rattle.server_held.proofs.held.SharedServer.settle.Goals as goal

pub returns-then-deliver : goal.returns-then-deliver
returns-then-deliver g c = took g.S.Store.records g.S.Store.faults c.args.self.now _ _ c.settled_as.result c.deliver.new.self c.step-send.result c.deliver.result c.step-send.ensures.stepped c.step-send.ensures.store refl c.deliver.ensures (λ not. c.if-deliver.true) (inr (c.settled_as.ensures, λ not. quiet _ _ c.args.self.now.kept.server c.args.now c.step-send.new.self.server c.step-send.result c.step-send.ensures.stepped (sym c.settled_as.ensures ∙ not)))

pub returns-else-deliver : goal.returns-else-deliver
returns-else-deliver g c = took g.S.Store.records g.S.Store.faults c.args.self.now _ _ _ c.deliver.new.self c.step-send.result c.deliver.result c.step-send.ensures.stepped c.step-send.ensures.store refl c.deliver.ensures (λ not. absurd (not refl)) (inl refl)

use Rattle.std.proofs.Common.{rules, ◌≡◌, [], ◌∷◌, ◌∙◌, sym, subst, map-id}
use Rattle.std.proofs.lemmas.Iterator.Adapters.{YieldsList-from_vec}
use Rattle.std.proofs.lemmas.Iterator.Consumers.{YieldsList-end}
use Rattle.server_held.specs.Held.{Delivered}
use Rattle.server_held.proofs.Delivering.{delivered_none, delivered_more}
use Rattle.server_held.proofs.held.SharedServer.put_all.Goals as goal

pub loop-sent-init : goal.loop-sent-init
loop-sent-init g c = delivered_none g.S.Store.records g.S.Store.faults c.args.self.now

pub loop-sent-preserved : goal.loop-sent-preserved
loop-sent-preserved g c = delivered_more g.S.Store.records g.S.Store.faults c.args.self.now c.loop-sent.self c.put-put.new.self c.loop-sent.yielded (c.in-Some.sent ∷ []) c.loop-sent.all c.put-put.result c.both-all.result c.both-all.ensures c.loop-sent.invariant c.put-put.ensures

pub returns : goal.returns
returns g c =
    let end = YieldsList-end (YieldsList-from_vec {s = c.into_iter-sent-iterator.result} c.args.messages.items (search rules) (search rules)) c.loop-sent.yielded c.loop-sent.sent-iterator c.loop-sent.yielded_by c.next.result c.next.new.self c.in-None.is c.next.ensures.steps in
    subst (λ xs. Delivered g.S.Store.records g.S.Store.faults c.args.self.now xs c.loop-sent.all c.loop-sent.self) (sym (map-id c.loop-sent.yielded) ∙ end.0) c.loop-sent.invariant

use Rattle.std.proofs.Common.{◌<◌, ◌∙◌, List, length, ap, sym, arith}
use Rattle.callback_core.specs.BackCalls.{BackCall, answered_by}
use Rattle.callback_core.proofs.Changed.{changed_next}
use Rattle.callback_core.proofs.back_calls.BackCalls.answered.Goals as goal

pub loop-call-preserved : goal.loop-call-preserved
loop-call-preserved c =
    let within : c.loop-call.call-index < length c.args.self.now = omega (arith, c.loop-call-test.true, ap (λ (cs : List BackCall). length cs) c.deref_mut-call-items.ensures.value, ap (λ (cs : List BackCall). length cs) c.self.view_is) in
    changed_next (answered_by c.args.session c.args.xid) c.loop-call.call-items c.args.self.now c.loop-call.call-index c.call-item.result c.take_answer.new.self c.loop-call.invariant within c.call-item.is (c.take_answer.ensures ∙ ap (answered_by c.args.session c.args.xid) (sym c.call-item.is))

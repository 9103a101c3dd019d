use Rattle.std.proofs.Common.{arith, ◌∙◌, sym, ap}
use Rattle.std.specs.Prelude.{take}
use Rattle.lease_rules.specs.Changes.{waits_behind}
use Rattle.callback_core.proofs.Reached.{found_ready}
use Rattle.callback_core.proofs.ready.place_of_ready.Goals as goal

pub returns-then-is_free-clause-ready : goal.returns-then-is_free-clause-ready
returns-then-is_free-clause-ready g c =
    found_ready c.args.waits.now.items c.loop-at.at c.index-change.result.now (omega (arith, c.loop-at-test.true, c.len-at-end.ensures)) c.index-change.ensures c.args.leases.now.leases c.args.now c.loop-at.invariant
    (ap (λ cs. waits_behind (take c.loop-at.at cs) c.index-change.result.now) (sym c.deref.ensures.value) ∙ sym c.waits_behind-behind.ensures ∙ c.if-not-behind.true) (sym c.is_free.ensures ∙ c.if-is_free.true)

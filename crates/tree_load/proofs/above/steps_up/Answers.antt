use Rattle.std.proofs.Common.{◌++◌, ◌∷◌, [], ◌∙◌, refl, ap, arith}
use Rattle.tree_load.proofs.Climbs.{step_more, steps_done}
use Rattle.tree_load.proofs.above.steps_up.Goals as goal

pub loop-one-preserved : goal.loop-one-preserved
loop-one-preserved c = step_more _ c.args.records.now c.loop-one.one-index c.one-item.result c.loop-one.steps.items c.push.new.self.items (omega (arith, c.loop-one-test.true)) c.one-item.is c.loop-one.invariant (c.in_ok-push.ensures.items ∙ ap (λ n. c.loop-one.steps.items ++ n ∷ []) c.up_from.ensures)

pub returns : goal.returns
returns c = steps_done c.args.records.now c.args.nodes.now c.loop-one.one-index _ c.loop-one.steps.items c.push-2.new.self.items c.push-3.new.self.items c.requires refl (omega (arith, c.loop-one-test.false)) c.loop-one.invariant c.in_ok-push-2.ensures.items c.in_ok-push-3.ensures.items

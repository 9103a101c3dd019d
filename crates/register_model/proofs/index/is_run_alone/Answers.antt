use Rattle.register_model.proofs.Marks.{past_run, not_any}
use Rattle.register_model.proofs.index.is_run_alone.Goals as goal

pub returns-then-mark-point : goal.returns-then-mark-point
returns-then-mark-point c =
    let lt = c.loop-mark-test.true in
    not_any _ _ c.loop-mark.invariant (past_run c.args.rest.now c.args.point c.args.place c.loop-mark.mark-index _ c.requires.rise lt (c.requires.from c.loop-mark.mark-index _ lt) c.if-mark-point.true)

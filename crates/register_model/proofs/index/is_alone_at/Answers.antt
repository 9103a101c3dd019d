use Rattle.std.proofs.Common.{ap, ◌∙◌, not}
use Rattle.register_model.proofs.Marks.{clash_in_rest}
use Rattle.register_model.proofs.index.is_alone_at.Goals as goal

pub returns : goal.returns
returns c = c.is_run_alone.ensures ∙ ap not (clash_in_rest c.args.by_point.now c.args.point c.args.place c.first_from-first.result c.first_from-first.ensures.bound c.first_from-first.ensures.below)

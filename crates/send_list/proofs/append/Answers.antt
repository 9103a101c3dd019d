use Rattle.std.proofs.Common.{◌++◌, ap, ◌∙◌}
use Rattle.send_list.proofs.Appended.{appended}
use Rattle.send_list.proofs.append.Goals as goal

pub returns : goal.returns
returns g c =
    c.in_ok-add_rest.ensures
    ∙ ap (λ xs. xs ++ c.into_parts-first.result.1) c.in_ok-add_first.ensures
    ∙ appended c.args.all.now c.into_parts-first.result.0 c.into_parts-first.result.1 c.args.more c.into_parts-first.ensures

use Rattle.std.proofs.Common.{◌∙◌, ap, Some}
use Rattle.log_store.proofs.Redo.{moved_done}
use Rattle.log_store.proofs.carrying.carry_line.Goals as goal

pub returns-in-Moves-clause-does : goal.returns-in-Moves-clause-does
returns-in-Moves-clause-does g c = λ told records f is.
    moved_done records c.args.line.now.which c.in-Moves.field-0 _ _ f (is ∙ ap Some c.in-Moves.is) _ (c.rename.ensures.does told)

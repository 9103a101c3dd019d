use Rattle.std.proofs.Common.{sym, ◌∙◌}
use Rattle.log_store.proofs.lemmas.Logs.{not_named}
use Rattle.log_store.proofs.Redo.{passes, passed, says, carried}
use Rattle.log_store.proofs.carrying.carry_last.Goals as goal

pub returns-then-names-clause-does : goal.returns-then-names-clause-does
returns-then-names-clause-does g c = λ told records f so.
    passes records c.args.rest.now _ f (passed records c.args.line.now c.args.rest.now _ f so (sym c.names.ensures ∙ c.if-names.true))

pub returns-clause-does : goal.returns-clause-does
returns-clause-does g c = λ told records f so.
    let none = not_named c.args.rest.now c.args.line.now.which (sym c.names.ensures ∙ c.if-names.false) in
    carried records c.args.line.now c.args.rest.now _ f so _ _ none (c.carry_line.ensures.does told records f (says records c.args.line.now c.args.rest.now _ f so none))

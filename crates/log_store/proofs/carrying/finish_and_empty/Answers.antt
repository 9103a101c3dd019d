use Rattle.log_store.proofs.Redo.{not_finished, emptied, not_emptied}
use Rattle.log_store.proofs.carrying.finish_and_empty.Goals as goal

pub returns-in-Ok-empty-clause-does : goal.returns-in-Ok-empty-clause-does
returns-in-Ok-empty-clause-does g c = λ told records past pending s is.
    let f = c.in-Ok.ensures.does told records past pending s is in
    emptied records past pending _ _ _ f (c.in-Ok-empty.ensures.does told records f.done)

pub returns-in-Err-empty-clause-does : goal.returns-in-Err-empty-clause-does
returns-in-Err-empty-clause-does g c = λ told records past pending s is.
    let f = c.in-Ok.ensures.does told records past pending s is in
    not_emptied records past pending _ _ _ _ f (c.in-Err-empty.ensures.does told records f.done)

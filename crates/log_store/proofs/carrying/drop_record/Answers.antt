use Rattle.std.proofs.Common.{rules}
use Rattle.log_store.proofs.Steps.{if_err, rose_behind}
use Rattle.log_store.proofs.Redo.{drop_done, drop_fails}
use Rattle.log_store.proofs.carrying.drop_record.Goals as goal

pub returns-clause-does : goal.returns-clause-does
returns-clause-does g c = λ told records f is.
    drop_done records c.args.which _ _ f is _ _ (c.in_ok-remove.ensures.does told) (c.remove-2.ensures.does told)

pub returns-in_err-remove-clause-does : goal.returns-in_err-remove-clause-does
returns-in_err-remove-clause-does g c = λ told records f is.
    let failed = drop_fails records c.args.which _ _ f is _ (c.in_err-remove.ensures.does told) in
    record { leaves = failed.leaves; firm = failed.firm; others = failed.others; entries = failed.entries; done = search rules }

pub returns-in_err-remove-clause-cause : goal.returns-in_err-remove-clause-cause
returns-in_err-remove-clause-cause g c = if_err _ c.in_err-remove.ensures.cause

pub returns-clause-cause : goal.returns-clause-cause
returns-clause-cause g c = rose_behind _ _ _ _ c.in_ok-remove.ensures.later c.remove-2.ensures.cause

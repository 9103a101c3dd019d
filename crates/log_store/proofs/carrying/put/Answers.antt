use Rattle.std.proofs.Common.{rules}
use Rattle.log_store.proofs.Steps.{if_err, rose_behind}
use Rattle.log_store.proofs.Redo.{put_done, put_fails}
use Rattle.log_store.proofs.carrying.put.Goals as goal

pub returns-clause-does : goal.returns-clause-does
returns-clause-does g c = λ told records f is.
    put_done records c.args.which c.args.bytes.now _ _ f is _ _ (c.in_ok-write.ensures.does told) (c.remove.ensures.does told)

pub returns-in_err-write-clause-does : goal.returns-in_err-write-clause-does
returns-in_err-write-clause-does g c = λ told records f is.
    let failed = put_fails records c.args.which c.args.bytes.now _ _ f is _ (c.in_err-write.ensures.does told) in
    record { leaves = failed.leaves; firm = failed.firm; others = failed.others; entries = failed.entries; done = search rules }

pub returns-in_err-write-clause-cause : goal.returns-in_err-write-clause-cause
returns-in_err-write-clause-cause g c = if_err _ c.in_err-write.ensures.cause

pub returns-clause-cause : goal.returns-clause-cause
returns-clause-cause g c = rose_behind _ _ _ _ c.in_ok-write.ensures.later c.remove.ensures.cause

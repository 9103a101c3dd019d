use Rattle.std.proofs.Common.{rules}
use Rattle.log_store.proofs.Steps.{if_err, rose_behind}
use Rattle.log_store.proofs.Redo.{not_written, written_firm}
use Rattle.log_store.proofs.carrying.write_firm.Goals as goal

pub returns-in_err-write-clause-does : goal.returns-in_err-write-clause-does
returns-in_err-write-clause-does g c = λ told. not_written _ _ _ _ _ _ (search rules) (c.in_err-write.ensures.does told)

pub returns-in_err-write-clause-cause : goal.returns-in_err-write-clause-cause
returns-in_err-write-clause-cause g c = if_err _ c.in_err-write.ensures.cause

pub returns-clause-does : goal.returns-clause-does
returns-clause-does g c = λ told. written_firm _ _ _ _ _ _ (c.in_ok-write.ensures.does told) (c.flush.ensures.does told)

pub returns-clause-cause : goal.returns-clause-cause
returns-clause-cause g c = rose_behind _ _ _ _ c.in_ok-write.ensures.later c.flush.ensures.cause

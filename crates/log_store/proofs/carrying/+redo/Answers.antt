use Rattle.std.proofs.Common.{rules}
use Rattle.log_store.proofs.Steps.{if_err, rose_behind}
use Rattle.log_store.proofs.Redo.{rest_front, redo_on, redo_none, redo_stops}
use Rattle.log_store.proofs.carrying.+redo.Goals as goal

pub returns-in_ok-carry_last-in-len1-up-clause-does : goal.returns-in_ok-carry_last-in-len1-up-clause-does
returns-in_ok-carry_last-in-len1-up-clause-does g t c = λ told records f so.
    let first = c.in_ok-carry_last-in-len1-up.ensures.does told records f (rest_front c.args.lines.now _ c.line-item.is c.in-len1-up.len_at_least records _ so) in
    redo_on records _ _ _ _ _ first (c.redo.ensures.does told records first.firm first.done)

pub returns-in_err-carry_last-in-len1-up-clause-does : goal.returns-in_err-carry_last-in-len1-up-clause-does
returns-in_err-carry_last-in-len1-up-clause-does g t c = λ told records f so.
    redo_stops records _ _ _ _ _ (search rules) (c.in_err-carry_last-in-len1-up.ensures.does told records f (rest_front c.args.lines.now _ c.line-item.is c.in-len1-up.len_at_least records _ so))

pub returns-in_err-carry_last-in-len1-up-clause-cause : goal.returns-in_err-carry_last-in-len1-up-clause-cause
returns-in_err-carry_last-in-len1-up-clause-cause g t c = if_err _ c.in_err-carry_last-in-len1-up.ensures.cause

pub returns-in_ok-carry_last-in-len1-up-clause-cause : goal.returns-in_ok-carry_last-in-len1-up-clause-cause
returns-in_ok-carry_last-in-len1-up-clause-cause g t c = rose_behind _ _ _ _ c.in_ok-carry_last-in-len1-up.ensures.later c.redo.ensures.cause

pub returns-in-empty-clause-does : goal.returns-in-empty-clause-does
returns-in-empty-clause-does g t c = λ told records f so. redo_none records c.args.lines.now _ c.in-empty.len_below f so

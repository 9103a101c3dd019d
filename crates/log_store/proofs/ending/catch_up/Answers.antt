use Rattle.std.proofs.Common.{rules}
use Rattle.log_store.proofs.End.{not_flushed, flushed_up}
use Rattle.log_store.proofs.ending.catch_up.Goals as goal

pub returns-in_err-flush_log-clause-does : goal.returns-in_err-flush_log-clause-does
returns-in_err-flush_log-clause-does g c = λ told f l past is.
    let up = not_flushed f l past _ _ is _ (c.in_err-flush_log.ensures.does told) in
    record { leaves = up.leaves; left = up.left; done = search rules }

pub returns-clause-does : goal.returns-clause-does
returns-clause-does g c = λ told f l past is.
    flushed_up f l past _ _ is (c.in_ok-flush_log.ensures.does told) _ _ (c.flush_all.ensures.does told)

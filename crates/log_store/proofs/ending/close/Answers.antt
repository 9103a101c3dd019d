use Rattle.std.proofs.Common.{rules}
use Rattle.log_store.proofs.End.{swept_closed, dropped}
use Rattle.log_store.proofs.ending.close.Goals as goal

pub returns-in_err-carry_out-clause-does : goal.returns-in_err-carry_out-clause-does
returns-in_err-carry_out-clause-does g c = λ told records past pending s.
    let tried = c.in_err-carry_out.ensures.does told records past pending s in
    record { leaves = tried.leaves; left = tried.left; done = search rules }

pub returns-in_err-_names-clause-does : goal.returns-in_err-_names-clause-does
returns-in_err-_names-clause-does g c = λ told records past pending s.
    let done = c.in_ok-carry_out.ensures.does told records past pending s in
    swept_closed records past pending _ _ done _ _ (c.sweep.ensures.does told records done.done) _

pub returns-in-Ok-clause-does : goal.returns-in-Ok-clause-does
returns-in-Ok-clause-does g c = λ told records past pending s.
    let done = c.in_ok-carry_out.ensures.does told records past pending s in
    dropped records past pending _ _ done _ _ (c.sweep.ensures.does told records done.done) _ _ _ (c.drop_log.ensures.does told)

pub returns-clause-does : goal.returns-clause-does
returns-clause-does g c = λ told records past pending s.
    let done = c.in_ok-carry_out.ensures.does told records past pending s in
    dropped records past pending _ _ done _ _ (c.sweep.ensures.does told records done.done) _ _ _ (c.drop_log.ensures.does told)

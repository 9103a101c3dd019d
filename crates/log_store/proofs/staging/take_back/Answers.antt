use Rattle.std.proofs.Common.{rules}
use Rattle.log_store.proofs.Add.{back_fails, taken_back}
use Rattle.log_store.proofs.staging.take_back.Goals as goal

pub returns-in_err-cut_log-clause-does : goal.returns-in_err-cut_log-clause-does
returns-in_err-cut_log-clause-does g c = λ told edits records past pending before is m.
    let back = back_fails edits records past pending before c.args.count is _ _ m _ (c.in_err-cut_log.ensures.does told) in
    record { leaves = back.leaves; left = back.left; done = search rules }

pub returns-clause-does : goal.returns-clause-does
returns-clause-does g c = λ told edits records past pending before is m.
    taken_back edits records past pending before c.args.count is _ _ _ m (c.in_ok-cut_log.ensures.does told) _ (c.flush_log.ensures.does told)

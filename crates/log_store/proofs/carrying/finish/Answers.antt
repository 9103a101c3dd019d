use Rattle.std.proofs.Common.{rules}
use Rattle.log_store.proofs.Redo.{firm_1, rest_1, redo_failed, finished}
use Rattle.log_store.proofs.carrying.finish.Goals as goal

pub returns-in_err-redo-clause-does : goal.returns-in_err-redo-clause-does
returns-in_err-redo-clause-does g c = λ told records past pending s is.
    let flushed = c.in_ok-flush_log.ensures.does told in
    let failed = redo_failed records past pending c.args.lines.now _ _ s flushed _ _ (c.in_err-redo.ensures.does told records (firm_1 records past pending c.args.lines.now _ _ s flushed) (rest_1 records past pending c.args.lines.now _ _ s flushed is)) in
    record { leaves = failed.leaves; sound = failed.sound; entries = failed.entries; done = search rules }

pub returns-clause-does : goal.returns-clause-does
returns-clause-does g c = λ told records past pending s is.
    let flushed = c.in_ok-flush_log.ensures.does told in
    finished records past pending c.args.lines.now _ _ s flushed _ _ (c.in_ok-redo.ensures.does told records (firm_1 records past pending c.args.lines.now _ _ s flushed) (rest_1 records past pending c.args.lines.now _ _ s flushed is)) _ (c.flush_all.ensures.does told)

use Rattle.std.proofs.Common.{arith}
use Rattle.callback_core.proofs.Reached.{found_change}
use Rattle.callback_core.proofs.ready.place_of.Goals as goal

pub returns-then-index-session-clause-change : goal.returns-then-index-session-clause-change
returns-then-index-session-clause-change g c =
    found_change c.args.waits.now.items c.loop-at.at c.index.result.now (omega (arith, c.loop-at-test.true, c.len-at-end.ensures)) c.index.ensures c.args.session c.loop-at.invariant c.if-index-session.true

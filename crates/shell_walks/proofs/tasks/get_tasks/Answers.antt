use Rattle.std.proofs.Common.{arith}
use Rattle.shell_walks.proofs.Listed.{gets_on}
use Rattle.shell_walks.proofs.tasks.get_tasks.Goals as goal

pub loop-at-preserved : goal.loop-at-preserved
loop-at-preserved c = gets_on c.args.path.now c.args.local.now c.args.ids.now c.loop-at.at c.args.names.now c.index-names-at.result c.as_slice.result.now c.id_at.result c.loop-at.tasks c.get_more.new.tasks (omega (arith, c.loop-at-test.true)) c.index-names-at.is c.as_slice.ensures c.id_at.ensures c.in_ok-get_more.ensures c.loop-at.invariant

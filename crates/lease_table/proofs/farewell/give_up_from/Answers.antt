use Rattle.lease_table.proofs.GivenUp.{session_dropped}
use Rattle.lease_table.proofs.farewell.give_up_from.Goals as goal

pub returns-in-Some-clause-same : goal.returns-in-Some-clause-same
returns-in-Some-clause-same c = session_dropped _ c.args.session c.in-Some.file _ c.drop_one.ensures.leases

pub returns-in-Some-clause-less : goal.returns-in-Some-clause-less
returns-in-Some-clause-less c = c.drop_one.ensures.less c.in-Some.ensures.some

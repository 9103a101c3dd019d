use Rattle.std.proofs.Common.{arith}
use Rattle.lease_table.proofs.Leased.{ended_dropped, ended_there, none_ended}
use Rattle.lease_table.proofs.changes.forget_one.Goals as goal

pub returns-in-Some-clause-same : goal.returns-in-Some-clause-same
returns-in-Some-clause-same c = let it = c.in-Some.ensures.some in ended_dropped _ c.args.recalls.now.entries _ c.requires c.args.now it.0 _ _ it.1 it.2 _ c.drop_one.ensures.leases

pub returns-in-Some-clause-less : goal.returns-in-Some-clause-less
returns-in-Some-clause-less c = let it = c.in-Some.ensures.some in omega (arith, c.drop_one.ensures.less (ended_there _ c.args.recalls.now.entries _ c.requires it.0 _ _ it.2))

pub returns-in-None-clause-none : goal.returns-in-None-clause-none
returns-in-None-clause-none c = λ h. none_ended _ c.args.recalls.now.entries _ c.requires c.args.now c.in-None.ensures.none

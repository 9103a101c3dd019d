use Rattle.std.proofs.Common.{arith}
use Rattle.lease_table.proofs.Leased.{recalled_dropped, recalled_there, none_recalled}
use Rattle.lease_table.proofs.changes.give_up_one.Goals as goal

pub returns-in-Some-clause-same : goal.returns-in-Some-clause-same
returns-in-Some-clause-same c = recalled_dropped _ _ c.args.ends.now.entries c.requires _ _ _ c.in-Some.ensures.some _ c.drop_one.ensures.leases

pub returns-in-Some-clause-less : goal.returns-in-Some-clause-less
returns-in-Some-clause-less c = omega (arith, c.drop_one.ensures.less (recalled_there _ _ c.args.ends.now.entries c.requires _ _ _ c.in-Some.ensures.some))

pub returns-in-None-clause-none : goal.returns-in-None-clause-none
returns-in-None-clause-none c = λ h. none_recalled _ _ c.args.ends.now.entries c.requires _ _ c.in-None.ensures.none

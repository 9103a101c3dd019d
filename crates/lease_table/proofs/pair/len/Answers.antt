use Rattle.std.proofs.Common.{arith}
use Rattle.lease_table.proofs.Whole.{counted}
use Rattle.lease_table.proofs.pair.len.Goals as goal

pub returns-clause-len : goal.returns-clause-len
returns-clause-len g c = omega (arith, counted g.K.Ord.cmp g.met.K.Ord.total c.args.map.now.entries c.args.spare.now.items c.requires, c.len.ensures.len, c.len-2.ensures)

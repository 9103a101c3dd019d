use Rattle.std.proofs.Common.{◌≡◌, drop}
use Rattle.lease_table.specs.Reserved.{at}
use Rattle.lease_table.proofs.spare.find.Given as goal

abbrev pub invariant-loop-entry : goal.invariant-loop-entry
invariant-loop-entry g l = at g.K.Ord.cmp (drop l.entry-index l.spare) l.key ≡ at g.K.Ord.cmp l.fn.spare l.fn.key

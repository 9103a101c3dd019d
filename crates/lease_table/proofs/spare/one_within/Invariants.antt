use Rattle.std.proofs.Common.{◌≡◌, drop, true}
use Rattle.std.specs.BTreeMap.Range.{range_contains}
use Rattle.std.specs.declared.ops.Bound.TheVariants.{Included}
use Rattle.lease_table.specs.Reserved.{at}
use Rattle.lease_table.proofs.spare.one_within.Given as goal

-- no key of those that were looked at is within
abbrev pub invariant-loop-entry : goal.invariant-loop-entry
invariant-loop-entry g l = record {
  rest : (key : _) → range_contains g.K.Ord.cmp (Included l.fn.first) (Included l.fn.last) key ≡ true → at g.K.Ord.cmp (drop l.entry-index l.spare) key ≡ at g.K.Ord.cmp l.fn.spare key;
  first : l.first ≡ l.fn.first;
  last : l.last ≡ l.fn.last;
  spare : l.spare ≡ l.fn.spare;
}

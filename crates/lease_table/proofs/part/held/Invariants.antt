use Rattle.std.proofs.Common.{◌≡◌, ◌++◌}
use Rattle.std.specs.BTreeMap.Range.{entries_between}
use Rattle.std.specs.declared.ops.Bound.TheVariants.{Included}
use Rattle.lease_table.proofs.part.held.Given as goal

abbrev pub invariant-loop-key : goal.invariant-loop-key
invariant-loop-key g l = l.entries.items ++ l.key-iterator ≡ entries_between g.K.Ord.cmp (Included l.fn.first) (Included l.fn.last) l.fn.map.entries

use Rattle.std.proofs.Common.{◌≡◌, drop}
use Rattle.std.specs.Prelude.{filter}
use Rattle.std.specs.BTreeMap.Range.{range_contains}
use Rattle.std.specs.declared.ops.Bound.TheVariants.{Included}
use Rattle.lease_table.specs.Reserved.{all_of}
use Rattle.lease_table.proofs.Placing.{AreAdded}
use Rattle.lease_table.proofs.part.add_spared.Given as goal

-- those that are left, put among the entries so far, come to the same
abbrev pub invariant-loop-entry : goal.invariant-loop-entry
invariant-loop-entry g l = record {
  added : AreAdded g.K.Ord.cmp
      (all_of g.K.Ord.cmp l.fn.entries.items (filter (λ p. range_contains g.K.Ord.cmp (Included l.fn.first) (Included l.fn.last) p.0) l.fn.spare))
      l.entries.items (filter (λ p. range_contains g.K.Ord.cmp (Included l.fn.first) (Included l.fn.last) p.0) (drop l.entry-index l.spare));
  first : l.first ≡ l.fn.first;
  last : l.last ≡ l.fn.last;
}

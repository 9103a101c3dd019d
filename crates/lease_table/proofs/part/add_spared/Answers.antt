use Rattle.std.proofs.Common.{refl, rules}
use Rattle.std.specs.BTreeMap.Range.{range_contains}
use Rattle.std.specs.declared.ops.Bound.TheVariants.{Included}
use Rattle.lease_table.proofs.Placing.{next_may, next_added}
use Rattle.lease_table.proofs.part.add_spared.Goals as goal

pub add_if-requires : goal.add_if-requires
add_if-requires g c =
    next_may g.K.Ord.cmp g.met.K.Ord.total c.requires.exact _ _ (range_contains g.K.Ord.cmp (Included c.args.first.now) (Included c.args.last.now)) c.args.spare.now c.loop-entry.entry-index c.entry-item.result (search rules) c.entry-item.is c.loop-entry.invariant.added

pub loop-entry-preserved : goal.loop-entry-preserved
loop-entry-preserved g c = record {
  added = next_added g.K.Ord.cmp g.met.K.Ord.total c.requires.exact _ _ (range_contains g.K.Ord.cmp (Included c.args.first.now) (Included c.args.last.now)) c.args.spare.now c.loop-entry.entry-index c.entry-item.result (search rules) c.entry-item.is c.loop-entry.invariant.added _ c.in_ok-add_if.ensures;
  first = refl;
  last = refl;
}

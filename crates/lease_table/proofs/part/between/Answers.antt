use Rattle.std.specs.BTreeMap.Range.{range_contains}
use Rattle.std.specs.declared.ops.Bound.TheVariants.{Included}
use Rattle.lease_table.proofs.Placing.{part_sorted, part_apart, part_all}
use Rattle.lease_table.proofs.part.between.Goals as goal

pub add_spared-requires-clause-sorted : goal.add_spared-requires-clause-sorted
add_spared-requires-clause-sorted g c =
    part_sorted g.K.Ord.cmp g.met.K.Ord.total c.requires.whole.exact c.args.map.now.entries c.args.spare.now.items c.requires.whole.sorted (range_contains g.K.Ord.cmp (Included c.args.first) (Included c.args.last)) _ c.in_ok-entries.ensures

pub add_spared-requires-clause-apart : goal.add_spared-requires-clause-apart
add_spared-requires-clause-apart g c =
    part_apart g.K.Ord.cmp g.met.K.Ord.total c.requires.whole.exact c.args.map.now.entries c.args.spare.now.items c.requires.whole.sorted (range_contains g.K.Ord.cmp (Included c.args.first) (Included c.args.last)) _ c.in_ok-entries.ensures _ c.deref.ensures.value
    c.requires.whole.apart

pub returns-in-Ok : goal.returns-in-Ok
returns-in-Ok g c =
    part_all g.K.Ord.cmp g.met.K.Ord.total c.requires.whole.exact c.args.map.now.entries c.args.spare.now.items c.requires.whole.sorted (range_contains g.K.Ord.cmp (Included c.args.first) (Included c.args.last)) _ c.in_ok-entries.ensures _ _ c.deref.ensures.value
    c.in-Ok.ensures

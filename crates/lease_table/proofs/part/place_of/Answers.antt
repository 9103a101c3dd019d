use Rattle.std.proofs.Common.{refl, sym, ◌∙◌, rules}
use Rattle.lease_table.proofs.Placing.{looked_past}
use Rattle.lease_table.proofs.part.place_of.Goals as goal

pub loop-at-preserved : goal.loop-at-preserved
loop-at-preserved g c = record {
  place = looked_past g.K.Ord.cmp c.args.entries.now c.loop-at.at _ c.args.key.now (search rules) c.index-entries-at.is c.requires (sym c.comes_before.ensures ∙ c.if-comes_before.false) c.loop-at.invariant.place;
  entries = refl;
  key = refl;
}

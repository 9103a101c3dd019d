use Rattle.std.proofs.Common.{◌≡◌, ap, sym, ◌∙◌}
use Rattle.std.specs.Prelude.{◌||◌, ◌&&◌}
use Rattle.std.specs.BTreeMap.Range.{entries_between}
use Rattle.std.specs.List.{list_any}
use Rattle.std.specs.declared.ops.Bound.TheVariants.{Included}
use Rattle.lease_table.specs.Reserved.{Reserved}
use Rattle.lease_table.proofs.Between.{any_in_parts}
use Rattle.lease_table.proofs.map.ReservedMap.parts.Goals as goal

pub returns : goal.returns
returns g c = λ t.
    ap (λ (m : Reserved _ _). list_any t (entries_between g.K.Ord.cmp (Included c.args.first) (Included c.args.last) m.entries)) (sym c.self.view_is)
    ∙ any_in_parts g.K.Ord.cmp g.met.K.Ord.total c.self.inside.map.entries c.self.inside.spare.items c.self.invariant.0 _ _ c.args.first c.args.last c.new.ensures.start c.new.ensures.end _ _ (c.range.ensures.between c.new.ensures.exhausted) c.as_slice.ensures.value t

use Rattle.std.proofs.Common.{rules, ◌≡◌, length, drop, take, ◌++◌, sym, ap, ◌∙◌}
use Rattle.std.specs.Vec.Iter.{into_iter_items}
use Rattle.tree_load.proofs.Parting.{all_gone_over, each_same, taken_back}
use Rattle.tree_load.proofs.coming.cut_all.Goals as goal

pub returns : goal.returns
returns g c =
    let items : c.loop-one.coming.items ≡ c.args.records.items = all_gone_over c.args.records.items c.loop-one.coming.items (into_iter_items c.loop-one.one-iterator) c.loop-one.one-iterator.rest.len c.loop-one.one-iterator.rest.ok.0 c.in-None.ensures.steps.0 c.loop-one.invariant in
    let slice : c.as_mut_slice.result.now ≡ c.loop-one.coming.items = c.as_mut_slice.ensures.value in
    let same = each_same c.as_mut_slice.result.now c.cut_each.new.coming c.cut_each.ensures.len c.cut_each.ensures.each in
    let len : c.loop-one.coming.len ≡ length c.cut_each.new.coming = search rules in
    ap (λ n. take n (c.cut_each.new.coming ++ drop (length c.cut_each.new.coming) c.loop-one.coming.items)) len ∙ taken_back c.cut_each.new.coming (drop (length c.cut_each.new.coming) c.loop-one.coming.items) ∙ same ∙ slice ∙ items

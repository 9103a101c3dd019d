use Rattle.std.proofs.Common.{refl, arith}
use Rattle.std.proofs.lemmas.Option.{slice_get_read}
use Rattle.tree_load.proofs.Broken.{one_more, none_more}
use Rattle.tree_load.proofs.breaches.add_from.Goals as goal

pub loop-place-preserved : goal.loop-place-preserved
loop-place-preserved c =
    let at = slice_get_read c.args.records.now _ c.loop-place.place c.index-records-place.result refl (omega (arith, c.loop-place-test.true)) c.index-records-place.is in
    record {
      rest = one_more c.args.head c.args.records.now c.loop-place.place c.loop-place.sum c.sum_with-sum.result c.index-records-place.result c.rule_of-rule.result c.loop-place.found.items c.add.new.found.items _ at c.rule_of-rule.ensures c.sum_with-sum.ensures.sum c.in_ok-add.ensures c.loop-place.invariant.rest;
      small = c.sum_with-sum.ensures.small;
    }

pub returns : goal.returns
returns c = none_more c.args.head c.args.records.now c.loop-place.place c.loop-place.sum c.loop-place.found.items _ (omega (arith, c.loop-place-test.false)) c.loop-place.invariant.rest

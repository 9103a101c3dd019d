use Rattle.std.proofs.Common.{◌+◌, ◌∙◌, drop, refl, sym, ap, arith}
use Rattle.std.proofs.lemmas.Option.{slice_get_read}
use Rattle.tree_load.specs.Load.{first_fault}
use Rattle.tree_load.proofs.Ruled.{fault_on, fault_here, fault_none, sum_on}
use Rattle.tree_load.proofs.rules.first_fault.Goals as goal

pub loop-place-preserved : goal.loop-place-preserved
loop-place-preserved c =
    let head = c.args.head in
    let all = c.args.records.now in
    let place = c.loop-place.place in
    let sum = c.loop-place.sum in
    let one = c.index-records-place.result in
    let at = slice_get_read all _ place one refl (omega (arith, c.loop-place-test.true)) c.index-records-place.is in
    let well = sym c.is_well.ensures ∙ c.if-not-is_well.false in
    let small = sum_on head all place sum one well c.loop-place.invariant.small in
    record {
      rest = ap (λ n. first_fault head all (place + 1) (sum + n) (drop (place + 1) all)) c.size_of-sum.ensures ∙ sym (fault_on head all place sum one at well) ∙ c.loop-place.invariant.rest;
      small = omega (arith, small, c.size_of-sum.ensures);
    }

pub returns-then-not-is_well : goal.returns-then-not-is_well
returns-then-not-is_well c =
    let all = c.args.records.now in
    let place = c.loop-place.place in
    let one = c.index-records-place.result in
    let at = slice_get_read all _ place one refl (omega (arith, c.loop-place-test.true)) c.index-records-place.is in
    sym (fault_here c.args.head all place c.loop-place.sum one at (sym c.is_well.ensures ∙ c.if-not-is_well.true)) ∙ c.loop-place.invariant.rest

pub returns : goal.returns
returns c = sym (fault_none c.args.head c.args.records.now c.loop-place.place c.loop-place.sum (omega (arith, c.loop-place-test.false))) ∙ c.loop-place.invariant.rest

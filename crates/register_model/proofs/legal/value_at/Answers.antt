use Rattle.std.proofs.Common.{◌∙◌, sym}
use Rattle.register_model.proofs.LegalLemmas.{seen_none, seen_there, seen_nowhere}
use Rattle.register_model.proofs.legal.value_at.Goals as goal

pub returns-in_err-get-in-Some : goal.returns-in_err-get-in-Some
returns-in_err-get-in-Some c =
    let past = c.in_err-get-in-Some.ensures.lookup in
    absurd (seen_nowhere c.args.history.now _ _ _ _ _ _ _ c.index.ensures c.requires c.as_slice.ensures.value c.ops.ensures c.in-Some.ensures past.3)

pub returns-in_ok-get-in-Some : goal.returns-in_ok-get-in-Some
returns-in_ok-get-in-Some c =
    let at = c.in_ok-get-in-Some.ensures.lookup in
    c.left_by.ensures ∙ seen_there c.args.history.now _ _ _ _ _ _ _ c.in_ok-get-in-Some.field-0.now c.index.ensures c.requires c.as_slice.ensures.value c.ops.ensures c.in-Some.ensures at.3.1

pub returns-in-None : goal.returns-in-None
returns-in-None c = c.value_at_first.ensures ∙ sym (seen_none c.args.history.now _ _ _ _ _ c.index.ensures c.as_slice.ensures.value c.in-None.ensures)

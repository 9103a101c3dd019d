use Rattle.std.proofs.Common.{◌∙◌, sym, ap, Some}
use Rattle.std.specs.Option.{option_copied}
use Rattle.register_model.proofs.OpeningLemmas.{no_content, content_at, content_past}
use Rattle.register_model.proofs.openings.content_in_order.Goals as goal

pub returns-in_err-found : goal.returns-in_err-found
returns-in_err-found c = ap option_copied c.from_residual.ensures ∙ sym (no_content c.args.opening.now c.args.file _ c.first_file_from-first.ensures.below c.in_err-found.ensures.lookup.3)

pub returns-then-found-file : goal.returns-then-found-file
returns-then-found-file c =
    let at = c.in_ok-found.ensures.lookup in
    ap (λ x. Some x) c.as_slice.ensures ∙ sym (content_at c.args.opening.now c.args.file _ c.in_ok-found.found.now c.first_file_from-first.ensures.below at.3.0 (at.3.1 c.in_ok-found.found.now) c.if-found-file.true)

pub returns-else-found-file : goal.returns-else-found-file
returns-else-found-file c =
    let at = c.in_ok-found.ensures.lookup in
    sym (content_past c.args.opening.now c.args.file _ c.in_ok-found.found.now c.requires c.first_file_from-first.ensures.below c.first_file_from-first.ensures.from at.3.0 (at.3.1 c.in_ok-found.found.now) c.if-found-file.false)

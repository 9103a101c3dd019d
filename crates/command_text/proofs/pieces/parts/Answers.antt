use Rattle.std.proofs.Common.{List, sym, ap, ◌∙◌}
use Rattle.command_text.proofs.Joined.{ahead, part_read}
use Rattle.command_text.specs.Fields.{part_of, parts_of}
use Rattle.command_text.specs.Parts.{parts_left}
use Rattle.command_text.specs.declared.content.Part.{Part}
use Rattle.command_text.proofs.pieces.parts.Goals as goal

pub parts-preserved : goal.parts-preserved
parts-preserved c =
    let later = parts_of (parts_left 43 c.first_part.result.1) in
    ap (λ (ps : List Part). ahead ps later) c.in_ok-push.ensures.ok
    ∙ part_read c.parts.parts c.in_ok-part.field-0 (part_of c.first_part.result.0.now) later _ c.in_ok-part.ensures
    (ap (λ ws. ahead c.parts.parts (parts_of ws)) (sym c.first_part.ensures.parts) ∙ ap (λ r. ahead c.parts.parts (parts_of (parts_left 43 r))) (sym c.in-Some.is) ∙ c.parts.invariant)

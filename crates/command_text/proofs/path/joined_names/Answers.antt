use Rattle.std.proofs.Common.{ℕ, List, sym, ap, ◌∙◌}
use Rattle.command_text.proofs.Joined.{ahead, part_read}
use Rattle.command_text.specs.Fields.{name_of}
use Rattle.command_text.specs.Parts.{parts_left}
use Rattle.command_text.specs.Paths.{names_of}
use Rattle.command_text.proofs.path.joined_names.Goals as goal

pub names-preserved : goal.names-preserved
names-preserved c =
    let later = names_of (parts_left 47 c.first_part.result.1) in
    ap (λ (ns : List (List ℕ)). ahead ns later) c.in_ok-push.ensures.ok
    ∙ part_read c.names.names c.in_ok-name.field-0 (name_of c.first_part.result.0.now) later _ c.in_ok-name.ensures
    (ap (λ ws. ahead c.names.names (names_of ws)) (sym c.first_part.ensures.parts) ∙ ap (λ r. ahead c.names.names (names_of (parts_left 47 r))) (sym c.in-Some.is) ∙ c.names.invariant)

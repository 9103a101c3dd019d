use Rattle.std.proofs.Common.{◌≡◌, List, ℕ, ◌∷◌, ◌++◌, refl, sym, ap, ◌∙◌, ◌==◌}
use Rattle.std.specs.List.{after_first}
use Rattle.command_text.specs.Parts.{lines_of}
use Rattle.lbfs_mount.proofs.Lines.{first_line, split_line, none_found, kept_either}
use Rattle.lbfs_mount.proofs.splitting.split.Goals as goal

pub lines-init : goal.lines-init
lines-init c = record { same = λ more. refl; none = c.requires }

pub lines-preserved : goal.lines-preserved
lines-preserved c =
    let cut = c.in-Some.ensures in
    let first : (m : List ℕ) → lines_of (c.lines.left.now ++ m) ≡ c.in-Some.line.now ∷ lines_of (c.in-Some.after.now ++ m) = λ m. first_line c.lines.left.now m cut.0 ∙ ap (λ (xs : List ℕ). xs ∷ lines_of (after_first (λ b. b == 10) c.lines.left.now ++ m)) (sym cut.1) ∙ ap (λ (xs : List ℕ). c.in-Some.line.now ∷ lines_of (xs ++ m)) (sym cut.2) in
    record {
      same = λ more. c.lines.invariant.same more ∙ split_line c.lines.lines.items c.end_line.new.lines.items c.lines.rest.items c.lines.left.now c.in-Some.line.now c.in-Some.after.now more c.lines.invariant.none first c.in_ok-end_line.ensures.ok.0 ∙ ap (λ (xs : List ℕ). c.end_line.new.lines.items ++ lines_of (xs ++ (c.in-Some.after.now ++ more))) (sym c.in_ok-end_line.ensures.ok.1);
      none = c.end_line.ensures.kept c.lines.invariant.none;
    }

pub returns-clause-kept : goal.returns-clause-kept
returns-clause-kept c =
    kept_either _ c.lines.rest.items c.lines.left.now _ c.extend_from_slice.ensures.items c.lines.invariant.none (none_found c.lines.left.now c.in_default.ensures)

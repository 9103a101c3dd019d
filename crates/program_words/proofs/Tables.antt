-- What a table of commands comes to, one command after the other.
use Rattle.std.proofs.Common.{◌≡◌, ℕ, suc, ◌+◌, ◌<◌, length, true, List, [], ◌∷◌, drop, slice_index_or, arith, refl, sym, ap, ◌∙◌}
use Rattle.std.proofs.Math.Seq.{drop-cons}
use Rattle.clap.specs.Words.{App, Rule, new_app, with_rule, with_subcommand}
use Rattle.program_words.specs.declared.line.Line.{Line}
use Rattle.program_words.specs.Table.{command, program, rules_in, with_commands, with_rules}

plain_rules : (a : App) (rs : List Rule) → (with_rules a rs).top.is_plain ≡ a.top.is_plain
plain_rules a [] = refl
plain_rules a (r ∷ rs) = plain_rules (with_rule a r) rs

-- its arguments leave a command plain
pub plain : (a : App) (l : Line) → a ≡ command l → a.top.is_plain ≡ true
unfolding command
plain a l is = ap (λ (x : App). x.top.is_plain) is ∙ plain_rules (new_app l.name.now) (rules_in l.args.now)

at_place : (ls : List Line) (i : ℕ) (l : Line) → i < length ls → l ≡ slice_index_or ls i l → drop i ls ≡ l ∷ drop (i + 1) ls
at_place ls i l within is =
    let next : suc i ≡ i + 1 = omega arith in
    drop-cons ls i l within ∙ ap (λ (x : Line). x ∷ drop (suc i) ls) (sym is) ∙ ap (λ (k : ℕ). l ∷ drop k ls) next

-- the command at `i`, `sub`, was added
pub added : (ls : List Line) (i : ℕ) (l : Line) (old sub new : App) → sub ≡ command l → i < length ls → l ≡ slice_index_or ls i l → new ≡ with_subcommand old sub.top → with_commands old (drop i ls) ≡ program ls → with_commands new (drop (i + 1) ls) ≡ program ls
added ls i l old sub new is within at one so_far =
    ap (λ (a : App). with_commands a (drop (i + 1) ls)) (one ∙ ap (λ (x : App). with_subcommand old x.top) is)
    ∙ sym (ap (with_commands old) (at_place ls i l within at))
    ∙ so_far

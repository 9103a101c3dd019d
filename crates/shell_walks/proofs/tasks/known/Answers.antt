use Rattle.std.proofs.Common.{List, ℕ, ap, sym, ◌∙◌, arith}
use Rattle.std.specs.Prelude.{bytes_eq}
use Rattle.shell_walks.proofs.Listed.{known_here}
use Rattle.shell_walks.proofs.tasks.known.Goals as goal

pub returns-then-is : goal.returns-then-is
returns-then-is c = known_here c.args.storing c.args.ids.now c.loop-at.at c.args.names.now c.args.name.now c.index-names-at.result c.id_at.result (omega (arith, c.loop-at-test.true)) c.index-names-at.is (ap (λ (x : List ℕ). bytes_eq x c.args.name.now) (sym c.as_slice.ensures) ∙ (sym c.is.ensures ∙ c.if-is.true)) c.id_at.ensures c.loop-at.invariant

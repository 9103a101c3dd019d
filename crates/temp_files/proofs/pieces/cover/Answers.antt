use Rattle.std.proofs.Common.{◌≡◌, ◌∙◌, sym, arith}
use Rattle.std.proofs.lemmas.Bool.Decides.{nat_tests}
use Rattle.temp_files.proofs.lemmas.Joins.{within_most}
use Rattle.temp_files.proofs.pieces.cover.Goals as goal

pub overflow_add-end : goal.overflow_add-end
overflow_add-end c =
    let left = rw c.in-Some.ensures.steps at c.loop-at.invariant.1 in
    let within = within_most _ _ left.2 in
    let next : c.in-Some.at.now ≡ c.loop-at.end = grind (arith, nat_tests, sym c.follows.ensures ∙ c.if-not-follows.false) in
    omega (arith, within, c.len.ensures, next)

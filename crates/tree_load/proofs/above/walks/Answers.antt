use Rattle.std.proofs.Common.{◌∙◌, ◌==◌, ◌%◌, ap, map, if◌then◌else◌, List, ℕ}
use Rattle.std.specs.List.{slice_index}
use Rattle.tree_load.proofs.Climbs.{walking_half}
use Rattle.tree_load.proofs.above.walks.Goals as goal

pub halves-preserved : goal.halves-preserved
halves-preserved c =
    let at = c.halves.at.items in
    let jump = c.halves.jump.items in
    let left = c.halves.left in
    let first = c.as_slice-in-halves.ensures.value in
    let places = c.as_slice-in-halves-2.ensures.value in
    let list = c.as_slice-in-halves-3.ensures.value in
    walking_half c.args.count c.args.step.items at c.in_ok-at-2.at.items jump c.in_ok-jump.jump.items left c.halves.invariant
    (c.in_ok-at-2.ensures ∙ ap (λ (js : List ℕ). if left % 2 == 1 then map (λ place. slice_index js place) at else at) first)
    (c.in_ok-jump.ensures ∙ (λ i. map (λ place. slice_index (list i) place) (places i)))

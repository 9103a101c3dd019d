use Rattle.std.proofs.Common.{◌≡◌, map, take}
use Rattle.std.specs.BTreeMap.{get}
use Rattle.std.specs.Ordering.{nat_cmp}
use Rattle.tree_load.specs.Above.{up_by}
use Rattle.tree_load.specs.Found.{found_place}
use Rattle.tree_load.proofs.above.steps_up.Given as goal

abbrev pub invariant-loop-one : goal.invariant-loop-one
invariant-loop-one l = l.steps.items ≡ map (up_by l.count (λ id. found_place (get nat_cmp l.nodes id))) (take l.one-index l.records)

use Rattle.std.proofs.Common.{◌≡◌, ◌+◌, ◌++◌, length, drop}
use Rattle.std.specs.List.{concat}
use Rattle.client_state.specs.Hints.{laid_from}
use Rattle.client_state.proofs.hints.laid.Given as goal

abbrev pub invariant-loop-item : goal.invariant-loop-item
invariant-loop-item l = record {
  start : l.start + length (concat (drop l.item-index l.items)) ≡ length (concat l.items);
  chunks : l.chunks ++ laid_from l.start (drop l.item-index l.items) ≡ laid_from 0 l.items;
}

use Rattle.std.proofs.Common.{◌≡◌, ◌-◌, ◌<◌, ◌≤◌, length}
use Rattle.std.specs.List.{concat}
use Rattle.block_list.specs.Blocks.{HaveHole}
use Rattle.block_list.proofs.blocks.open.Given as goal

abbrev pub invariant-holes : goal.invariant-holes
invariant-holes l = record {
  same : concat l.blocks.items ≡ concat l.fn.blocks.items;
  count : length l.blocks.items ≡ length l.fn.blocks.items;
  hole : HaveHole l.blocks.items l.len l.hole;
  within : l.block ≤ l.hole;
  there : l.hole < length l.blocks.items;
}

abbrev pub decreases-holes : goal.decreases-holes
decreases-holes l = l.hole - l.block

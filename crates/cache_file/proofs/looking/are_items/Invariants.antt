use Rattle.std.proofs.Common.{◌≡◌, ◌≤◌, ◌-◌, length, drop}
use Rattle.cache_file.specs.Items.{is_cache}
use Rattle.cache_file.proofs.looking.are_items.Given as goal

-- what is left is all items where the whole is
abbrev pub invariant-loop-at : goal.invariant-loop-at
invariant-loop-at l = record {
  within : l.at ≤ length l.bytes;
  same : is_cache (drop l.at l.bytes) ≡ is_cache l.bytes;
}

abbrev pub decreases-loop-at : goal.decreases-loop-at
decreases-loop-at l = length l.bytes - l.at

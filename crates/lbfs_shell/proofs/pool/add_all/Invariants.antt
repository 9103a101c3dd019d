use Rattle.std.proofs.Common.{◌≡◌, ◌+◌, ◌++◌, length, reverse}
use Rattle.lbfs_shell.specs.Jobs.{others, removals}
use Rattle.lbfs_shell.proofs.pool.add_all.Given as goal

-- those that are left of what came go behind what is there by now
abbrev pub invariant-loop-task : goal.invariant-loop-task
invariant-loop-task l = record {
  came : l.tasks.items ++ reverse (others l.more.items) ≡ l.initial.tasks.items ++ reverse (others l.initial.more.items);
  waits : l.later.items ++ reverse (removals l.more.items) ≡ l.initial.later.items ++ reverse (removals l.initial.more.items);
  count : length l.tasks.items + length l.later.items + length l.more.items ≡ length l.initial.tasks.items + length l.initial.later.items + length l.initial.more.items;
}

abbrev pub decreases-loop-task : goal.decreases-loop-task
decreases-loop-task l = length l.more.items

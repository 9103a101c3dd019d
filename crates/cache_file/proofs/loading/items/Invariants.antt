use Rattle.std.proofs.Common.{◌≡◌, ◌-◌, ◌++◌}
use Rattle.cache_file.specs.Items.{items_from}
use Rattle.cache_file.proofs.loading.items.Given as goal

-- those that were read, and those that are still read
abbrev pub invariant-loop-i : goal.invariant-loop-i
invariant-loop-i l = l.items.items ++ items_from (l.most - l._i) l.reader ≡ items_from l.most l.initial.reader

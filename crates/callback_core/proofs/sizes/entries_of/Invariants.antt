use Rattle.std.proofs.Common.{◌≡◌, ◌+◌, drop}
use Rattle.callback_core.specs.Waits.{entries_of}
use Rattle.callback_core.proofs.sizes.entries_of.Given as goal

abbrev pub invariant-loop-change : goal.invariant-loop-change
invariant-loop-change g l = l.entries + entries_of (drop l.change-index l.change-items) ≡ entries_of l.fn.waits.items

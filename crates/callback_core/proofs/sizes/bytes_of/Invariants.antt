use Rattle.std.proofs.Common.{◌≡◌, ◌+◌, drop}
use Rattle.callback_core.specs.Waits.{bytes_of}
use Rattle.callback_core.proofs.sizes.bytes_of.Given as goal

abbrev pub invariant-loop-change : goal.invariant-loop-change
invariant-loop-change g l = l.bytes + bytes_of (drop l.change-index l.change-items) ≡ bytes_of l.fn.waits.items

use Rattle.std.proofs.Common.{◌≡◌, drop}
use Rattle.callback_core.specs.Waits.{change_of}
use Rattle.callback_core.proofs.ready.place_of.Given as goal

abbrev pub invariant-loop-at : goal.invariant-loop-at
invariant-loop-at g l = change_of (drop l.at l.waits.items) l.session ≡ change_of l.fn.waits.items l.fn.session

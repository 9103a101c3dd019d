use Rattle.std.proofs.Common.{◌≡◌, drop, take}
use Rattle.std.specs.Prelude.{find}
use Rattle.callback_core.specs.Waits.{is_free, heads_after, ready}
use Rattle.callback_core.proofs.ready.place_of_ready.Given as goal

abbrev pub invariant-loop-at : goal.invariant-loop-at
invariant-loop-at g l = find (is_free l.leases.leases l.now) (heads_after (take l.at l.waits.items) (drop l.at l.waits.items)) ≡ ready l.fn.leases.leases l.fn.now l.fn.waits.items

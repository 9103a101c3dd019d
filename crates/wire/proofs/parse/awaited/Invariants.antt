use Rattle.std.proofs.Common.{◌≡◌, drop}
use Rattle.wire.specs.Parse.{waiting}
use Rattle.wire.proofs.parse.awaited.Given as goal

abbrev pub invariant-loop-pending : goal.invariant-loop-pending
invariant-loop-pending l = waiting l.xid (drop l.pending-index l.calls) ≡ waiting l.xid l.calls

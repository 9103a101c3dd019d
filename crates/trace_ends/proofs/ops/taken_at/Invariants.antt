use Rattle.std.proofs.Common.{◌≡◌, drop}
use Rattle.trace_ends.specs.Ops.{taken_at}
use Rattle.trace_ends.proofs.ops.taken_at.Given as goal

abbrev pub invariant-loop-call : goal.invariant-loop-call
invariant-loop-call l = taken_at (drop l.call-index l.taken) l.xid ≡ taken_at l.taken l.xid

use Rattle.rpc_record.specs.Progress.{Reaches}
use Rattle.rpc_record.proofs.fragments.find.Given as goal

abbrev pub invariant-loop-next : goal.invariant-loop-next
invariant-loop-next l = Reaches l.bytes l.known

abbrev pub decreases-loop-next : goal.decreases-loop-next
decreases-loop-next l = l.known.more

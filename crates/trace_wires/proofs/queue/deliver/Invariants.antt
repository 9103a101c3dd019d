use Rattle.std.proofs.Common.{length}
use Rattle.trace_wires.proofs.Delivering.{Delivers}
use Rattle.trace_wires.proofs.queue.deliver.Given as goal

abbrev pub invariant-pieces : goal.invariant-pieces
invariant-pieces l = Delivers l.amount l.fn.queue l.fn.end l.queue l.end l.records.items l.most

abbrev pub decreases-pieces : goal.decreases-pieces
decreases-pieces l = length l.queue

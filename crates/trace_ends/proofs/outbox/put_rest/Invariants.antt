use Rattle.std.proofs.Common.{◌≡◌, ◌++◌, drop}
use Rattle.trace_ends.specs.Wires.{bytes_of}
use Rattle.trace_ends.proofs.outbox.put_rest.Given as goal

abbrev pub invariant-loop-message : goal.invariant-loop-message
invariant-loop-message l = l.queue ++ bytes_of (drop l.message-index l.messages) ≡ l.fn.queue ++ bytes_of l.messages

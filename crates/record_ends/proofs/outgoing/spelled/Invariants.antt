use Rattle.std.proofs.Common.{◌≡◌, ◌++◌, drop}
use Rattle.record_ends.specs.Ends.{out_bytes}
use Rattle.record_ends.proofs.outgoing.spelled.Given as goal

abbrev pub invariant-loop-message : goal.invariant-loop-message
invariant-loop-message l = l.all.items ++ out_bytes (drop l.message-index l.messages) ≡ out_bytes l.messages

use Rattle.std.proofs.Common.{length}
use Rattle.rpc_record.specs.Progress.{Joins}
use Rattle.rpc_record.proofs.fragments.join.Given as goal

abbrev pub invariant-loop-header : goal.invariant-loop-header
invariant-loop-header l = Joins l.bytes l.contents.items l.left

abbrev pub decreases-loop-header : goal.decreases-loop-header
decreases-loop-header l = length l.left

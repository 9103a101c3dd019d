use Rattle.std.proofs.Common.{length}
use Rattle.rpc_record.specs.Progress.{Reaches}
use Rattle.rpc_record.proofs.Cutting.{Cuts}
use Rattle.rpc_record.proofs.records.cut_off.Given as goal

abbrev pub invariant-loop-end : goal.invariant-loop-end
invariant-loop-end l = record {
  cuts : Cuts l.bytes.items l.records.items l.used l.left;
  known : Reaches l.left l.known;
}

abbrev pub decreases-loop-end : goal.decreases-loop-end
decreases-loop-end l = length l.left

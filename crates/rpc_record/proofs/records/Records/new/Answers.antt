use Rattle.rpc_record.proofs.Reaching.{reach_start}
use Rattle.rpc_record.proofs.records.Records.new.Goals as goal

pub invariant_of-result : goal.invariant_of-result
invariant_of-result c = reach_start _

use Rattle.rpc_record.proofs.Reaching.{reach_start}
use Rattle.rpc_record.proofs.records.Records.take.Goals as goal

pub take_off-requires : goal.take_off-requires
take_off-requires c = reach_start _

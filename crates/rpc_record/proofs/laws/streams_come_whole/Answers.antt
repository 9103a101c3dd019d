use Rattle.rpc_record.proofs.lemmas.Streaming.{stream_comes}
use Rattle.rpc_record.proofs.laws.streams_come_whole.Goals as goal

pub returns : goal.returns
returns c = stream_comes

use Rattle.rpc_record.proofs.Spoiling.{fed_spoils, fed_beside}
use Rattle.rpc_record.proofs.laws.refusals_are_of_spoilt_streams.Goals as goal

pub returns-clause-exact : goal.returns-clause-exact
returns-clause-exact c = fed_spoils

pub returns-clause-beside : goal.returns-clause-beside
returns-clause-beside c = fed_beside

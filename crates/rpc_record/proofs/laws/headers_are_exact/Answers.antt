use Rattle.rpc_record.proofs.lemmas.Exact.{call_exact, reply_exact}
use Rattle.rpc_record.proofs.laws.headers_are_exact.Goals as goal

pub returns-clause-calls : goal.returns-clause-calls
returns-clause-calls c = call_exact

pub returns-clause-replies : goal.returns-clause-replies
returns-clause-replies c = reply_exact

use Rattle.rpc_record.proofs.Refusing.{call_refusal, reply_refusal}
use Rattle.rpc_record.proofs.laws.refused_headers_have_their_causes.Goals as goal

pub returns-clause-calls : goal.returns-clause-calls
returns-clause-calls c = call_refusal

pub returns-clause-replies : goal.returns-clause-replies
returns-clause-replies c = reply_refusal

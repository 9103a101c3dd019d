use Rattle.std.proofs.Common.{inl, inr}
use Rattle.server_core.proofs.state.ServerState.call.Goals as goal

pub returns-in-Ok-clause-missed : goal.returns-in-Ok-clause-missed
returns-in-Ok-clause-missed g c some = inr (c.in-Ok.ensures.lacks some)

pub returns-in-Err-clause-missed : goal.returns-in-Err-clause-missed
returns-in-Err-clause-missed g c some = inl (c.in-Err.ensures.takes, c.in-Err.ensures.err, c.miss_call.ensures)

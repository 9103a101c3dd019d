use Rattle.std.proofs.Common.{arith}
use Rattle.server_core.proofs.Needs.{few_entries}
use Rattle.server_core.proofs.server.Server.step_unkept.Goals as goal

pub step-step-requires-clause-spare : goal.step-step-requires-clause-spare
step-step-requires-clause-spare c = omega (arith, few_entries c.self.inside.state.waits.waits, c.self.invariant.room, c.self.inside.state.journal.ok.0)

use Rattle.server_core.specs.View.{state_of}
use Rattle.server_core.proofs.Missing.{connect_misses, settle_misses}
use Rattle.server_core.proofs.state.ServerState.step.Goals as goal

pub returns-in-Connect-clause-missed : goal.returns-in-Connect-clause-missed
returns-in-Connect-clause-missed g c some =
    connect_misses (state_of c.args.self.now) (state_of c.connect.new.self) c.args.event c.connect.result c.in-Connect.is (c.connect.ensures.sure some) (c.connect.ensures.missed some) (c.connect.ensures.said some)

pub returns-in-Settle-clause-missed : goal.returns-in-Settle-clause-missed
returns-in-Settle-clause-missed g c some =
    settle_misses (state_of c.args.self.now) (state_of c.settle.new.self) c.in-Settle.now c.args.event c.settle.result c.in-Settle.is (c.settle.ensures.lacks some)

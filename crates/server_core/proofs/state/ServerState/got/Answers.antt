use Rattle.std.proofs.Common.{sym, ◌∙◌}
use Rattle.server_core.specs.View.{state_of}
use Rattle.server_core.proofs.Missing.{call_misses}
use Rattle.server_core.proofs.state.ServerState.got.Goals as goal

pub returns-in-Call-clause-missed : goal.returns-in-Call-clause-missed
returns-in-Call-clause-missed g c some =
    call_misses (state_of c.args.self.now) (state_of c.call.new.self) c.args.session c.in-Call.xid c.args.now c.max-self.result c.in-Call.body c.args.message.now c.call.result
    c.in-Call.is (sym c.stands.ensures ∙ c.if-not-stands.false) c.max-self.ensures (c.call.ensures.missed some)

use Rattle.std.proofs.Common.{length, ap, arith}
use Rattle.server_core.proofs.state.ServerState.reserve.Goals as goal

pub returns-clause-room : goal.returns-clause-room
returns-clause-room c = (
  omega (arith, c.in_ok-reserve.ensures.ok, c.reserve.new.self.ok.0, c.len-waiting.ensures, ap length c.reserve.ensures.items, ap length c.make_room.ensures.waits),
  c.in_ok-make_room.ensures.ok,
)

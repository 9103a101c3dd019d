use Rattle.std.proofs.Common.{rules}
use Rattle.trace_replay.specs.WorldView.{world_of}
use Rattle.trace_replay.proofs.Bounded.{asked_bounded}
use Rattle.trace_replay.proofs.turn.asked.Goals as goal

pub returns-clause-bounded : goal.returns-clause-bounded
returns-clause-bounded c = asked_bounded (world_of c.args.world.now) c.args.number c.args.line c.asks_within.result c.requires (search rules)

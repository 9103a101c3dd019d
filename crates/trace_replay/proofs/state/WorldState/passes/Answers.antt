use Rattle.std.proofs.Common.{◌∙◌, sym}
use Rattle.trace_replay.specs.WorldView.{world_of}
use Rattle.trace_replay.proofs.Rounds.{passes_on}
use Rattle.trace_replay.proofs.state.WorldState.passes.Goals as goal

pub rounds-preserved : goal.rounds-preserved
rounds-preserved c = passes_on c.rounds.left (world_of c.rounds.self) (world_of c.round.new.self) c.args.session c.args.server c.args.at c.rounds-test.true (sym c.if-is_still.ensures) c.in_ok-round.ensures ∙ c.rounds.invariant

use Rattle.std.proofs.Common.{◌≡◌}
use Rattle.trace_replay.specs.Delivery.{passes}
use Rattle.trace_replay.specs.WorldView.{world_of}
use Rattle.trace_replay.proofs.state.WorldState.passes.Given as goal

abbrev pub invariant-rounds : goal.invariant-rounds
invariant-rounds l = passes l.left (world_of l.self) l.session l.server l.at ≡ passes l.fn.count (world_of l.fn.self) l.session l.server l.at

abbrev pub decreases-rounds : goal.decreases-rounds
decreases-rounds l = l.left

use Rattle.std.proofs.Common.{◌≡◌, drop}
use Rattle.std.specs.Prelude.{map}
use Rattle.trace_replay.specs.Delivery.{all_happened}
use Rattle.trace_replay.specs.WorldView.{taken_at, world_of}
use Rattle.trace_replay.proofs.state.WorldState.takes_all.Given as goal

abbrev pub invariant-loop-bytes : goal.invariant-loop-bytes
invariant-loop-bytes l = all_happened (world_of l.self) (map (taken_at l.end l.session l.now) (drop l.bytes-index l.records)) ≡ all_happened (world_of l.fn.self) (map (taken_at l.end l.session l.now) l.records)

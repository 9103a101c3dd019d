use Rattle.std.proofs.Common.{rules, slice_set}
use Rattle.trace_replay.specs.WorldView.{world_of}
use Rattle.trace_replay.proofs.Pieces.{down_is, by_ok}
use Rattle.trace_replay.proofs.state.WorldState.down_some.Goals as goal

pub returns : goal.returns
returns c =
    by_ok c.takes_all.result
    (λ d. down_is (world_of c.args.self.now) (world_of c.takes_all.new.self) c.args.session c.args.now c.in-Some.place c.args.amount c.index_mut.result.now c.take_down.new.self (slice_set c.args.self.now.wires.items c.in-Some.place c.take_down.new.self) c.as_slice.result.now
    (search rules) (search rules) (search rules) (search rules) (search rules) (search rules) d)
    c.takes_all.ensures

use Rattle.std.proofs.Common.{rules, slice_set}
use Rattle.trace_replay.specs.WorldView.{world_of}
use Rattle.trace_replay.proofs.Pieces.{up_is, by_ok}
use Rattle.trace_replay.proofs.state.WorldState.up_some.Goals as goal

pub returns : goal.returns
returns c =
    by_ok c.takes_up.result
    (λ d. up_is (world_of c.args.self.now) (world_of c.takes_up.new.self) c.args.session c.args.now c.in-Some.place c.args.amount c.index_mut-wire.result.now c.take_up.new.self (slice_set c.args.self.now.wires.items c.in-Some.place c.take_up.new.self) c.as_slice.result.now c.spoilt-spoilt.result
    (search rules) (search rules) (search rules) (search rules) (search rules) (search rules) (search rules) d)
    c.takes_up.ensures

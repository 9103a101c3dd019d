use Rattle.std.proofs.Common.{rules}
use Rattle.trace_replay.specs.WorldView.{world_of}
use Rattle.trace_replay.proofs.Pieces.{spoilt_taken, sound_taken, by_ok}
use Rattle.trace_replay.proofs.state.WorldState.takes_up.Goals as goal

pub returns-in-Some : goal.returns-in-Some
returns-in-Some c =
    by_ok c.takes.result
    (λ d. spoilt_taken (world_of c.args.self.now) (world_of c.takes_all.new.self) (world_of c.takes.new.self) c.args.session c.args.now c.args.records.now c.args.spoilt _ c.in-Some.is (search rules) d)
    c.takes.ensures

pub returns-in-None : goal.returns-in-None
returns-in-None c = sound_taken (world_of c.args.self.now) (world_of c.takes_all.new.self) c.args.session c.args.now c.args.records.now c.args.spoilt c.in-None.is (search rules)

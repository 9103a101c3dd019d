use Rattle.std.proofs.Common.{◌≡◌, drop}
use Rattle.trace_replay.specs.World.{down_put}
use Rattle.trace_replay.proofs.sending.put_rest.Given as goal

abbrev pub invariant-loop-one : goal.invariant-loop-one
invariant-loop-one l = down_put l.sessions l.wires.items (drop l.one-index l.sent) ≡ down_put l.sessions l.fn.wires.items l.sent

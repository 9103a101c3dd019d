use Rattle.std.proofs.Common.{◌≡◌, ◌++◌, drop}
use Rattle.std.specs.Prelude.{map}
use Rattle.register_model.specs.Raw.{op_of}
use Rattle.trace_replay.proofs.state.put_raws.Given as goal

abbrev pub invariant-loop-raw : goal.invariant-loop-raw
invariant-loop-raw l = l.ops.items ++ map op_of (drop l.raw-index l.raws) ≡ l.fn.ops.items ++ map op_of l.raws

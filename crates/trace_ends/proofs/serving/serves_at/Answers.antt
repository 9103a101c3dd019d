use Rattle.std.proofs.Common.{◌+◌, rules}
use Rattle.std.specs.Prelude.{Ok, Err}
use Rattle.trace_ends.specs.View.{core_of, core_step_of}
use Rattle.trace_ends.proofs.Served.{serves_is, unserved}
use Rattle.trace_ends.proofs.serving.serves_at.Goals as goal

pub returns-in-Ok : goal.returns-in-Ok
returns-in-Ok c =
    serves_is (core_of c.args.core.now) c.args.place (c.args.place + 1) c.args.now c.args.bytes.now c.index.result.now (Ok c.in-Ok.message) c.got.result (λ t. core_step_of c.got.new.core t) c.requires.place c.index.ensures (search rules) (search rules) c.got.ensures

pub returns-in-Err : goal.returns-in-Err
returns-in-Err c =
    serves_is (core_of c.args.core.now) c.args.place (c.args.place + 1) c.args.now c.args.bytes.now c.index.result.now (Err c.in-Err.fault) c.serves_none.result (λ t. core_step_of c.serves_none.new.core t) c.requires.place c.index.ensures (search rules) (search rules) c.serves_none.ensures

pub returns-then-is_hung : goal.returns-then-is_hung
returns-then-is_hung c = unserved (core_of c.args.core.now) c.args.place c.args.now c.args.bytes.now c.index.result.now _ c.requires.place c.index.ensures (search rules) (search rules)

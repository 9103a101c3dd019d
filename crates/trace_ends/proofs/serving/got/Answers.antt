use Rattle.std.proofs.Common.{rules, refl}
use Rattle.std.specs.Prelude.{slice_get}
use Rattle.trace_ends.specs.View.{core_of}
use Rattle.trace_ends.proofs.Got.{got_is}
use Rattle.trace_ends.proofs.serving.got.Goals as goal

pub returns-in-Ok-enter_at : goal.returns-in-Ok-enter_at
returns-in-Ok-enter_at c =
    let k = core_of c.args.core.now in
    got_is k (core_of c.note.new.core) (core_of c.enter_at.new.core) c.args.place c.in-Ok.session c.args.now (slice_get k.sessions c.args.place) c.args.message c.has_waiting-waits.result c.step_unkept-step.new.self c.step_unkept-step.result c.served.result
    c.in-Ok.ensures refl c.has_waiting-waits.ensures c.in-Ok-note.ensures (search rules) c.in-Ok-enter_at.ensures c.served.ensures

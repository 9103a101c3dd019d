use Rattle.std.proofs.Common.{ℕ, ◌≡◌, ◌∙◌, refl, ap, rules, length}
use Rattle.std.specs.Prelude.{slice_set}
use Rattle.std.proofs.lemmas.Option.{slice_get_read}
use Rattle.trace_ends.specs.View.{core_of}
use Rattle.trace_ends.proofs.Commanded.{does_is, left_is}
use Rattle.trace_ends.proofs.commanding.does_at.Goals as goal

pub returns-in-Ok-done : goal.returns-in-Ok-done
returns-in-Ok-done c =
    let seats = c.args.core.now.seats.items in
    let at = slice_get_read seats (length seats) c.args.place c.index_mut-seat.result.now refl c.requires c.index_mut-seat.ensures.value in
    left_is (core_of c.args.core.now) c.index_mut-seat.result.now (slice_set seats c.args.place c.does.new.self) c.command_session.new.sessions.items c.begin-done.new.ops.items c.in_ok-acts.acts c.in-Ok.both.0 c.session-session.result c.acted.result c.acted.ensures (ap (λ (b : ℕ × ℕ). b.0) c.in-Ok.ensures) c.session-session.ensures
    ∙ does_is (core_of c.args.core.now) c.args.place c.args.now c.args.command c.index_mut-seat.result.now c.does.new.self c.command_session.new.sessions.items c.begin-done.new.ops.items c.in_ok-acts.acts at (search rules) (search rules) (search rules) (search rules)

use Rattle.std.proofs.Common.{List, length, refl, sym, ap, ◌∙◌}
use Rattle.std.proofs.lemmas.Option.{slice_get_read}
use Rattle.client_state.specs.State as client
use Rattle.trace_ends.specs.Ops.{ops_with}
use Rattle.trace_ends.specs.Session.{Session, session_of, taken_of}
use Rattle.trace_ends.specs.View.{core_of}
use Rattle.trace_ends.proofs.Acting.{hears_is}
use Rattle.trace_ends.proofs.hearing.hears_at.Goals as goal

pub returns : goal.returns
returns c =
    let k = core_of c.args.core.now in
    let x = c.index_mut-seat.result.now in
    let y = c.index-seat.result.now in
    hears_is k c.args.place c.args.number c.args.now c.args.bytes.now x y c.hears.new.self c.session-session.result c.place-running.result c.in_ok-acts.acts c.taken_of-taken.result.now c.in_ok-step.step c.note_with.new.ops.items c.acted.result
    (slice_get_read k.seats (length k.seats) c.args.place x refl c.requires c.index_mut-seat.ensures.value)
    (slice_get_read k.seats (length k.seats) c.args.place y refl c.requires c.index-seat.ensures)
    c.session-session.ensures c.place-running.ensures (sym c.if-not-is_newest.false ∙ c.is_newest.ensures)
    c.in_ok-acts.ensures.acts c.in_ok-acts.ensures.seat c.in_ok-step.ensures
    (c.taken_of-taken.ensures ∙ ap (λ (ss : List Session). taken_of (session_of ss c.session-session.result)) c.deref.ensures.value)
    (c.in_ok-note_with.ensures ∙ ap (λ (s : client.State). ops_with k.ops c.place-running.result s c.taken_of-taken.result.now c.in_ok-step.step c.in_ok-acts.acts) c.client.ensures)
    c.acted.ensures

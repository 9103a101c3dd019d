use Rattle.std.proofs.Common.{List, ◌≡◌, length, refl, sym, subst, ap, ◌∙◌}
use Rattle.std.specs.Prelude.{slice_get, IfSome}
use Rattle.std.proofs.lemmas.Option.{slice_get_read}
use Rattle.client_state.specs.State as client
use Rattle.trace_ends.specs.Ops.{ops_with}
use Rattle.trace_ends.specs.Session.{Seat, Session, session_of, taken_of}
use Rattle.trace_ends.specs.View.{core_of}
use Rattle.trace_ends.proofs.Acting.{cuts_is}
use Rattle.trace_ends.proofs.disconnecting.cuts_at.Goals as goal

pub returns : goal.returns
returns c =
    let k = core_of c.args.core.now in
    let x = c.index_mut-seat.result.now in
    let y = c.index.result.now in
    cuts_is k c.args.place x y c.cuts-acts.new.self c.session-session.result c.running_at-running.result c.cuts-acts.result c.taken_of-taken.result.now c.in_ok-step.step c.note_with.new.ops.items c.cut_session.new.sessions.items c.loss_down.result c.acted.result
    (slice_get_read k.seats (length k.seats) c.args.place x refl c.requires c.index_mut-seat.ensures.value)
    (slice_get_read k.seats (length k.seats) c.args.place y refl c.requires c.index.ensures)
    (sym c.if-not-linked.false ∙ c.linked.ensures) c.session-session.ensures
    (subst (λ (ss : List Seat). IfSome (slice_get ss c.args.place) (λ s. c.running_at-running.result ≡ s.place)) c.deref.ensures.value c.running_at-running.ensures)
    c.cuts-acts.ensures.acts c.cuts-acts.ensures.seat c.in_ok-step.ensures
    (c.taken_of-taken.ensures ∙ ap (λ (ss : List Session). taken_of (session_of ss c.session-session.result)) c.deref-2.ensures.value)
    (c.in_ok-note_with.ensures ∙ ap (λ (s : client.State). ops_with k.ops c.running_at-running.result s c.taken_of-taken.result.now c.in_ok-step.step c.cuts-acts.result) c.client.ensures)
    c.cut_session.ensures c.loss_down.ensures c.acted.ensures

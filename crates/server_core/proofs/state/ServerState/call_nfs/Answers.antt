use Rattle.std.proofs.Common.{◌≡◌, ◌∙◌, sym, ap, subst, inl, Bool}
use Rattle.tree_calls.specs.Calling.{IsCalled}
use Rattle.tree_calls.specs.Waiting.{calls_under, enters}
use Rattle.tree_reading.specs.Tree.{Tree}
use Rattle.tree_reading.specs.declared.call.Reservation.{Reservation}
use Rattle.server_core.specs.declared.state.ServerState.{ServerState}
use Rattle.server_core.specs.Closing.{has_waiting}
use Rattle.server_core.specs.State.{State}
use Rattle.server_core.specs.Step.{asks}
use Rattle.server_core.specs.View.{state_of}
use Rattle.server_core.proofs.Asks.{served_by, room_for, came_free, came_same, came_enters}
use Rattle.server_core.proofs.state.ServerState.call_nfs.Goals as goal

pub take_outcome-requires-clause-room : goal.take_outcome-requires-clause-room
take_outcome-requires-clause-room g c =
    let left = c.reserve_for.new.self in
    let s : ServerState = record { tree = c.call.new.tree; journal = left.journal; temps = left.temps; index = left.index; waits = left.waits; sessions = left.sessions; term = left.term; moment = left.moment; calls = left.calls; ahead = left.ahead } in
    let bounded = c.reserve_for.ensures.bounded in
    room_for (g.S.Store.faults c.args.store.now) (g.S.Store.faults c.call.new.store) s c.args.self.now.tree.tree c.call.new.tree.tree c.held-held.result c.has-busy.result c.args.call.now c.in_ok-outcome.outcome (record { bytes = bounded.bytes; room = bounded.room; made = bounded.made; early = bounded.early }) c.in_ok-reserve_for.ensures.room
    (subst (λ (x : State). IsCalled (g.S.Store.faults c.args.store.now) (g.S.Store.faults c.call.new.store) (λ fault. calls_under x.tree c.held-held.result c.has-busy.result fault c.args.call.now) (c.call.new.tree.tree, c.in_ok-outcome.outcome)) c.reserve_for.ensures.same c.in_ok-outcome.ensures.ok)

pub take_outcome-requires-clause-new : goal.take_outcome-requires-clause-new
take_outcome-requires-clause-new g c waits =
    ap (λ (s : State). has_waiting s.waiting c.args.session) c.reserve_for.ensures.same
    ∙ sym c.has-busy.ensures
    ∙ came_free (g.S.Store.faults c.args.store.now) (g.S.Store.faults c.call.new.store) c.reserve_for.new.self.tree.tree c.call.new.tree.tree c.held-held.result c.has-busy.result c.args.call.now c.in_ok-outcome.outcome c.in_ok-outcome.ensures.ok waits

pub returns-in-Ok-clause-ok : goal.returns-in-Ok-clause-ok
returns-in-Ok-clause-ok g c =
    let same = c.reserve_for.ensures.same in
    served_by (g.S.Store.faults c.args.store.now) (g.S.Store.faults c.call.new.store) (state_of c.args.self.now) (state_of c.take_outcome.new.self) c.args.session c.args.xid c.args.call.now c.held-held.result c.has-busy.result c.call.new.tree.tree c.in_ok-outcome.outcome c.in-Ok.step
    c.held-held.ensures c.has-busy.ensures
    (subst (λ (x : State). IsCalled (g.S.Store.faults c.args.store.now) (g.S.Store.faults c.call.new.store) (λ fault. calls_under x.tree c.held-held.result c.has-busy.result fault c.args.call.now) (c.call.new.tree.tree, c.in_ok-outcome.outcome)) same c.in_ok-outcome.ensures.ok)
    (ap (λ (x : State). asks (record x { tree = c.call.new.tree.tree }) c.args.session c.args.xid c.in_ok-outcome.outcome) (sym same) ∙ c.in-Ok.ensures.exact)

pub returns-in-Err-clause-err : goal.returns-in-Err-clause-err
returns-in-Err-clause-err g c =
    let left = c.reserve_for.new.self in
    let tree : c.call.new.tree.tree ≡ left.tree.tree = came_same (g.S.Store.faults c.args.store.now) (g.S.Store.faults c.call.new.store) left.tree.tree c.call.new.tree.tree c.held-held.result c.has-busy.result c.args.call.now c.in_ok-outcome.outcome c.in_ok-outcome.ensures.ok c.in-Err.ensures.waits in
    c.in-Err.ensures.err
    ∙ ap (λ (t : Tree). record (state_of left) { tree = t }) tree
    ∙ c.reserve_for.ensures.same

pub returns-in-Err-clause-takes : goal.returns-in-Err-clause-takes
returns-in-Err-clause-takes g c =
    let s = c.args.self.now in
    let call = c.args.call.now in
    let held = c.held-held.result in
    let busy = c.has-busy.result in
    inl (
    ap (λ (h : Reservation). enters s.tree.tree h (has_waiting s.waits.waits c.args.session) call) (sym c.held-held.ensures)
    ∙ ap (λ (b : Bool). enters s.tree.tree held b call) (sym c.has-busy.ensures)
    ∙ ap (λ (x : State). enters x.tree held busy call) (sym c.reserve_for.ensures.same)
    ∙ came_enters (g.S.Store.faults c.args.store.now) (g.S.Store.faults c.call.new.store) c.reserve_for.new.self.tree.tree c.call.new.tree.tree held busy call c.in_ok-outcome.outcome c.in_ok-outcome.ensures.ok c.in-Err.ensures.waits
    )

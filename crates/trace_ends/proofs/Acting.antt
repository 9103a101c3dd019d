-- A step of a client that hears something or sees its connection lost, from what each part of it gives.
use Rattle.std.proofs.Common.{◌≡◌, ℕ, ◌+◌, List, [], Option, Some, true, sym, ap, subst, ◌∙◌}
use Rattle.std.specs.Prelude.{slice_get, slice_set, IfSome}
use Rattle.std.proofs.lemmas.Option.{same_Some}
use Rattle.wire.specs.Parse.{parse_of}
use Rattle.client_state.specs.State as client
use Rattle.client_state.specs.declared.step.ClientStep.{ClientStep}
use Rattle.client_state.specs.Ending.{cut}
use Rattle.open_close.specs.Step.{got_step}
use Rattle.register_model.specs.declared.op.Op.{Op}
use Rattle.session_rules.specs.declared.taken_call.TakenCall.{TakenCall}
use Rattle.trace_ends.specs.Core.{Core, CoreStep, Loss, acted, hears_if, hears_at, loss_down, cut_session, cuts_if, cuts}
use Rattle.trace_ends.specs.Ops.{ops_with, place_after}
use Rattle.trace_ends.specs.Session.{Seat, Session, is_newest, session_of, taken_of}
use Rattle.trace_ends.specs.View.{loss_of}
use Rattle.trace_ends.specs.declared.core_step.Loss.{Loss as Lost}
use Rattle.trace_ends.specs.declared.core_step.Loss.TheVariants as lost
use Rattle.trace_ends.specs.declared.core_step.CoreStep.{CoreStep as Left}
use Rattle.trace_ends.proofs.Commanded.{as_core_step, seat_set}

abbrev pub left_of : Lost → (session : Option ℕ) → ClientStep → Left
left_of loss session acts = record { loss = loss; session = session; up = acts.send; down = [] }

-- the client as this left it
abbrev pub seat_by : Seat → client.State → ClientStep → Seat
seat_by x s acts = record x { client = s; place = place_after x.place acts.ended }

abbrev acted_by : Core → Seat → List Seat → (steps : ℕ) → List TakenCall → (after : Seat) → ClientStep → CoreStep
acted_by k x seats steps taken after acts = as_core_step (record k { steps = steps; seats = seats; ops = ops_with k.ops x.place after.client taken steps acts }) (left_of lost.Nothing x.session acts)

acted_is : (k : Core) (place : ℕ) (x after : Seat) (s : client.State) (did acts : ClientStep) (taken : List TakenCall) (steps : ℕ) (ops : List Op)
    → did ≡ acts
    → after ≡ seat_by x s acts
    → steps ≡ k.steps + 1
    → taken ≡ taken_of (session_of k.sessions x.session)
    → ops ≡ ops_with k.ops x.place after.client taken steps acts
    → as_core_step (record k { steps = steps; seats = slice_set k.seats place after; ops = ops }) (left_of lost.Nothing x.session acts) ≡ acted k (place + 1) x s did
acted_is k place x after s did acts taken steps ops done seated counted took noted =
    let calls = taken_of (session_of k.sessions x.session) in
    ap (λ (o : List Op). as_core_step (record k { steps = steps; seats = slice_set k.seats place after; ops = o }) (left_of lost.Nothing x.session acts)) noted
    ∙ ap (λ (n : ℕ). acted_by k x (slice_set k.seats place after) n taken after acts) counted
    ∙ ap (λ (l : List TakenCall). acted_by k x (slice_set k.seats place after) (k.steps + 1) l after acts) took
    ∙ ap (λ (z : Seat). acted_by k x (slice_set k.seats place z) (k.steps + 1) calls z acts) seated
    ∙ sym (ap (λ (a : ClientStep). acted_by k x (slice_set k.seats place (seat_by x s a)) (k.steps + 1) calls (seat_by x s a) a) done)
    ∙ sym (ap (λ (l : List Seat). acted_by k x l (k.steps + 1) calls (seat_by x s did) did) (seat_set k.seats place (seat_by x s did)))

-- what was read of the client at a place is what was changed there
one_there : (seats : List Seat) (place : ℕ) (x y : Seat) → slice_get seats place ≡ Some x → slice_get seats place ≡ Some y → y ≡ x
one_there seats place x y at there = same_Some y x (sym there ∙ at)

pub hears_is : (k : Core) (place number now : ℕ) (bytes : List ℕ) (x y after : Seat) (own running : Option ℕ) (acts : ClientStep) (taken : List TakenCall) (steps : ℕ) (ops : List Op) (t : Left)
    → slice_get k.seats place ≡ Some x
    → slice_get k.seats place ≡ Some y
    → own ≡ y.session
    → running ≡ y.place
    → true ≡ is_newest own number
    → (got_step x.client (parse_of (client.waiting_of x.client) bytes) now).1 ≡ acts
    → after ≡ seat_by x (got_step x.client (parse_of (client.waiting_of x.client) bytes) now).0 acts
    → steps ≡ k.steps + 1
    → taken ≡ taken_of (session_of k.sessions own)
    → ops ≡ ops_with k.ops running after.client taken steps acts
    → t ≡ left_of lost.Nothing own acts
    → as_core_step (record k { steps = steps; seats = slice_set k.seats place after; ops = ops }) t ≡ hears_at k number (place + 1) now bytes (slice_get k.seats place)
hears_is k place number now bytes x y after own running acts taken steps ops t at there owned runs newest done seated counted took noted left =
    let r = got_step x.client (parse_of (client.waiting_of x.client) bytes) now in
    let one = one_there k.seats place x y at there in
    let its : own ≡ x.session = owned ∙ ap (λ (s : Seat). s.session) one in
    let run : running ≡ x.place = runs ∙ ap (λ (s : Seat). s.place) one in
    ap (as_core_step (record k { steps = steps; seats = slice_set k.seats place after; ops = ops })) (left ∙ ap (λ (o : Option ℕ). left_of lost.Nothing o acts) its)
    ∙ acted_is k place x after r.0 r.1 acts taken steps ops done seated counted
    (took ∙ ap (λ (o : Option ℕ). taken_of (session_of k.sessions o)) its)
    (noted ∙ ap (λ (p : Option ℕ). ops_with k.ops p after.client taken steps acts) run)
    ∙ ap (hears_if k (place + 1) now x bytes) (newest ∙ ap (λ (o : Option ℕ). is_newest o number) its)
    ∙ sym (ap (hears_at k number (place + 1) now bytes) at)

-- what a client's step comes to where its newest session is cut as well
abbrev pub lost_of : CoreStep → List Session → Loss → CoreStep
lost_of z sessions loss = record z { core = record z.core { sessions = sessions }; loss = loss }

pub cuts_is : (k : Core) (place : ℕ) (x y after : Seat) (own running : Option ℕ) (acts : ClientStep) (taken : List TakenCall) (steps : ℕ) (ops : List Op) (sessions : List Session) (loss : Lost) (t : Left)
    → slice_get k.seats place ≡ Some x
    → slice_get k.seats place ≡ Some y
    → true ≡ y.client.linked
    → own ≡ x.session
    → IfSome (slice_get k.seats place) (λ s. running ≡ s.place)
    → (cut x.client).1 ≡ acts
    → after ≡ seat_by x (cut x.client).0 acts
    → steps ≡ k.steps + 1
    → taken ≡ taken_of (session_of k.sessions own)
    → ops ≡ ops_with k.ops running after.client taken steps acts
    → sessions ≡ cut_session k.sessions own (session_of k.sessions own)
    → loss_of loss ≡ loss_down own
    → t ≡ left_of loss own acts
    → as_core_step (record k { steps = steps; seats = slice_set k.seats place after; ops = ops; sessions = sessions }) t ≡ cuts k (place + 1) (slice_get k.seats place)
cuts_is k place x y after own running acts taken steps ops sessions loss t at there linked its ran done seated counted took noted ended gone left =
    let r = cut x.client in
    let runs : running ≡ x.place = subst (λ (o : Option Seat). IfSome o (λ s. running ≡ s.place)) at ran in
    let without = cut_session k.sessions x.session (session_of k.sessions x.session) in
    let z : CoreStep = as_core_step (record k { steps = steps; seats = slice_set k.seats place after; ops = ops }) (left_of lost.Nothing x.session acts) in
    ap (as_core_step (record k { steps = steps; seats = slice_set k.seats place after; ops = ops; sessions = sessions })) (left ∙ ap (λ (o : Option ℕ). left_of loss o acts) its)
    ∙ ap (λ (ss : List Session). lost_of z ss (loss_of loss)) (ended ∙ ap (λ (o : Option ℕ). cut_session k.sessions o (session_of k.sessions o)) its)
    ∙ ap (λ (l : Loss). lost_of z without l) (gone ∙ ap loss_down its)
    ∙ ap (λ (c : CoreStep). lost_of c without (loss_down x.session))
    (acted_is k place x after r.0 r.1 acts taken steps ops done seated counted
    (took ∙ ap (λ (o : Option ℕ). taken_of (session_of k.sessions o)) its)
    (noted ∙ ap (λ (p : Option ℕ). ops_with k.ops p after.client taken steps acts) runs))
    ∙ ap (cuts_if k (place + 1) x) (linked ∙ ap (λ (s : Seat). s.client.linked) (one_there k.seats place x y at there))
    ∙ sym (ap (cuts k (place + 1)) at)

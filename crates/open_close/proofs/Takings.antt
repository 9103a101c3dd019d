-- An answer to a call of the operation under way: the operation is taken out, and is what was under way.
use Rattle.std.proofs.Common.{◌≡◌, refl, sym, ap, subst, ◌∙◌, ℕ, List, Bool, true}
use Rattle.std.specs.Prelude.{Option, Some, None, Ok}
use Rattle.wire.specs.declared.message.Body.{Body}
use Rattle.wire.specs.declared.message.Message.TheVariants as message
use Rattle.wire.specs.declared.message.Pending.{Pending}
use Rattle.client_state.specs.State.{State, pending, pending_in, has_call}
use Rattle.client_state.specs.Ending.{idle}
use Rattle.client_state.specs.View.{state_of, IsSound}
use Rattle.client_state.specs.declared.state.ClientState.{ClientState}
use Rattle.client_state.specs.declared.step.ClientStep.{ClientStep}
use Rattle.client_state.specs.declared.task.Fetch.{Fetch}
use Rattle.client_state.specs.declared.task.Task.{Task}
use Rattle.file_open.specs.Looking.{Entering, with_file, reading, reading_if, reading_by, entering, entering_by}
use Rattle.open_close.specs.Step.{took, took_if, got_message}

-- what is taken of it
pub taken : (s : ClientState) (t : Task) (xid : ℕ) (b : Body) → IsSound s → Some t ≡ s.task → has_call (pending s.task) xid ≡ true
    → took (idle (state_of s)) s.waiting.calls t.file t.stage xid b ≡ got_message (state_of s) s.task (message.Answer xid b)
taken s t xid b h is own =
    let by : Option Task → Bool → State × ClientStep = λ o k. took_if (state_of s) o xid b k in
    let calls : List Pending → State × ClientStep = λ ps. took (idle (state_of s)) ps t.file t.stage xid b in
    ap calls h.calls ∙ (ap (λ (o : Option Task). by o true) is ∙ ap (by s.task) (sym own))

-- what enters the index doesn't rest on what is under way
enters_idle : (s : State) (o : Option (ℕ × Fetch)) → entering_by (idle s) o ≡ entering_by s o
enters_idle s None = refl
enters_idle s (Some p) = refl

pub entered : (s : State) (t : Task) (xid : ℕ) (b : Body) → Some t ≡ s.task → has_call (pending s.task) xid ≡ true
    → entering_by (idle s) (with_file t.file (reading_by t.stage xid b)) ≡ entering s (Ok (message.Answer xid b))
entered s t xid b is own =
    let at : has_call (pending_in t.stage) xid ≡ true = subst (λ (o : Option Task). has_call (pending o) xid ≡ true) (sym is) own in
    enters_idle s (with_file t.file (reading_by t.stage xid b))
    ∙ (ap (λ (k : Bool). entering_by s (reading_if t xid b k)) (sym at)
    ∙ ap (λ (o : Option Task). entering_by s (reading o (message.Answer xid b))) is)

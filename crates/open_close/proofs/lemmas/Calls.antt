-- A call of the callback program takes no memory.
use Rattle.std.proofs.Common.{◌≡◌, refl, ap, subst, ℕ}
use Rattle.std.specs.Prelude.{Option, Some, None, Ok}
use Rattle.wire.specs.declared.message.Body.{Body}
use Rattle.wire.specs.declared.message.Message.TheVariants as message
use Rattle.client_state.specs.State.{State}
use Rattle.client_state.specs.declared.step.ClientStep.{ClientStep}
use Rattle.client_state.specs.declared.task.Fetch.{Fetch}
use Rattle.client_state.specs.declared.task.Task.{Task}
use Rattle.file_open.specs.Fetching.{IsLacking}
use Rattle.file_open.specs.Looking.{Entering, entering, entering_by, reading}
use Rattle.open_close.specs.Step.{Misses, Misses.ended, Misses.lacks}

reading_none : (t : Option Task) (xid : ℕ) (b : Body) → reading t (message.Call xid b) ≡ None
reading_none None xid b = refl
reading_none (Some t) xid b = refl

enters_none : (s : State) (xid : ℕ) (b : Body) → entering s (Ok (message.Call xid b)) ≡ None
enters_none s xid b = ap (λ (o : Option (ℕ × Fetch)). entering_by s o) (reading_none s.task xid b)

pub never_missed : (s : State) (xid : ℕ) (b : Body) (now : ℕ) (new : State) (step : ClientStep) → Misses s (Ok (message.Call xid b)) now new step → ⊥
never_missed s xid b now new step (Misses.ended may left said) = may
never_missed s xid b now new step (Misses.lacks h) = subst (λ (o : Option Entering). IsLacking s.index o new.index) (enters_none s xid b) h.lacks

-- What comes is looked at under the reading at which it came; where memory ran out the clock is put back.
use Rattle.std.proofs.Common.{◌≡◌, refl, ap, ◌∙◌, subst, ℕ, true, false}
use Rattle.std.specs.Prelude.{Option, Some, None, Result, Ok, Err}
use Rattle.wire.specs.declared.fault.WireFault.{WireFault}
use Rattle.wire.specs.declared.message.Message.{Message}
use Rattle.wire.specs.declared.message.Message.TheVariants as message
use Rattle.client_state.specs.Counting.{misses, by_memory}
use Rattle.client_state.specs.Noting.{at}
use Rattle.client_state.specs.State.{State}
use Rattle.client_state.specs.declared.step.ClientStep.{ClientStep}
use Rattle.client_state.specs.declared.task.Fetch.{Fetch}
use Rattle.file_open.specs.Fetching.{Comes, Lacks}
use Rattle.file_open.specs.Looking.{Entering, entering_by, entering, reading}
use Rattle.open_close.specs.Step.{hears, got_step, missed_at, MayMiss, Misses, Misses.ended, Misses.lacks}

enters_at : (s : State) (now : ℕ) (o : Option (ℕ × Fetch)) → entering_by (at s now) o ≡ entering_by s o
enters_at s now None = refl
enters_at s now (Some p) = refl

entering_at : (s : State) (now : ℕ) (m : Result Message WireFault) → entering (at s now) m ≡ entering s m
entering_at s now (Ok m) = enters_at s now (reading s.task m)
entering_at s now (Err e) = refl

may_miss_at : (s : State) (now : ℕ) (m : Result Message WireFault) → MayMiss (at s now) m → MayMiss s m
may_miss_at s now (Ok (message.Answer xid b)) h = h
may_miss_at s now (Ok (message.Refuse xid r)) h = h
may_miss_at s now (Ok (message.Unfit xid r)) h = h
may_miss_at s now (Ok (message.Call xid b)) h = h
may_miss_at s now (Err e) h = h

-- the clock is put back
pub put_back : (s : State) (now : ℕ) (m : Result Message WireFault) → at (missed_at (at s now) m) s.clock ≡ missed_at s m
put_back s now (Ok (message.Answer xid b)) = refl
put_back s now (Ok (message.Refuse xid r)) = refl
put_back s now (Ok (message.Unfit xid r)) = refl
put_back s now (Ok (message.Call xid b)) = refl
put_back s now (Err e) = refl

pub unchanged : (s mid new : State) (now : ℕ) → mid ≡ at s now → new ≡ at mid s.clock → new ≡ s
unchanged s mid new now is back = back ∙ ap (λ (t : State). at t s.clock) is

-- memory ran out
pub missed_so : (s : State) (m : Result Message WireFault) (now : ℕ) (mid new : State) (step : ClientStep) → MayMiss (at s now) m → mid ≡ missed_at (at s now) m → new ≡ at mid s.clock → step ≡ misses (Some by_memory) → Misses s m now new step
missed_so s m now mid new step may is back said = ended (may_miss_at s now m may) (back ∙ (ap (λ (t : State). at t s.clock) is ∙ put_back s now m)) said

-- what was to come, at the reading
pub came_so : (s : State) (m : Result Message WireFault) (now : ℕ) (mid new : State) (step : ClientStep) → mid ≡ at s now → Comes mid.index (entering mid m) (hears mid m) new step → Comes s.index (entering (at s now) m) (hears (at s now) m) new step
came_so s m now mid new step is h = subst (λ (t : State). Comes t.index (entering t m) (hears t m) new step) is h

-- or places are missing in the index
pub lacks_so : (s : State) (m : Result Message WireFault) (now : ℕ) (new : State) (step : ClientStep) → Comes s.index (entering (at s now) m) (hears (at s now) m) new step → step.missed ≡ true → Misses s m now new step
lacks_so s m now new step h e = lacks (subst (λ (o : Option Entering). Lacks s.index o (got_step s m now) new step) (entering_at s now m) (h.lacks e))

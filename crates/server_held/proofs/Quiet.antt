-- A turn in which no change can be made says nothing.
use Rattle.std.specs.Prelude.{◌≡◌, ℕ, [], Option, Some, None, Bool, true, false}
use Rattle.std.proofs.Common.{refl, sym, ap, ◌∙◌}
use Rattle.server_core.specs.Closing.{makes_change_under, ready_by, settles_by}
use Rattle.server_core.specs.State.{State, FileChange}
use Rattle.server_core.specs.Step.{Misses, nothing, lacks}
use Rattle.server_core.specs.declared.change.Wanted.{Wanted}
use Rattle.server_core.specs.declared.change.Wanted.TheVariants as wanted
use Rattle.server_core.specs.declared.event.Event.TheVariants as event
use Rattle.server_core.specs.declared.event.ServerStep.{ServerStep}
use Rattle.server_rules.specs.declared.told.Told.{Told}
use Rattle.server_held.specs.declared.held.Went.TheVariants as went
use Rattle.server_held.specs.Held.{settled_as}
use Rattle.server_held.specs.Kept.{Steps}

is_told : (s : State) (fault : Bool) (c : FileChange) (w : Wanted) (t : Told) → (makes_change_under s fault c w).1.told ≡ t → ¬ (settled_as t ≡ went.NotReady)
is_told s fault c (wanted.Content content) t is not = let opens : went.Open c.session ≡ went.NotReady = ap settled_as is ∙ not in cc
is_told s fault c (wanted.Asked a) t is not = let opens : went.Open c.session ≡ went.NotReady = ap settled_as is ∙ not in cc

quiet_of : (s : State) (fault : Bool) (now : ℕ) (next : Option FileChange) (step : ServerStep) → (settles_by s fault now next).1.told ≡ step.told → (settles_by s fault now next).1.send ≡ step.send → settled_as step.told ≡ went.NotReady → step.send ≡ []
quiet_of s fault now None step told sent not = sym sent
quiet_of s fault now (Some c) step told sent not = absurd (is_told _ fault c c.what step.told told not)

quiet_missed : (s : State) (now : ℕ) (new : State) (step : ServerStep) → Misses s (event.Settle now) new step → settled_as step.told ≡ went.NotReady → step.send ≡ []
quiet_missed s now new step (nothing may left said) not = absurd may
quiet_missed s now new step (lacks l) not = quiet_of s false now (ready_by s now) step (ap (λ t. t.told) (sym l.3)) (ap (λ t. t.send) (sym l.3)) not

pub quiet : (before after : ℕ) (s : State) (now : ℕ) (new : State) (step : ServerStep) → Steps before after s (event.Settle now) new step → settled_as step.told ≡ went.NotReady → step.send ≡ []
quiet before after s now new step steps not = by_missed step.missed refl
  where
    by_missed : (missed : Bool) → step.missed ≡ missed → step.send ≡ []
    by_missed true e = quiet_missed s now new step (steps.1 e) not
    by_missed false e = let served = steps.0 e in quiet_of s served.fault now (ready_by s now) step (ap (λ p. p.1.told) served.is) (ap (λ p. p.1.send) served.is) not

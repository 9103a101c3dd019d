-- Sessions that are hung.
use Rattle.std.specs.Prelude.{◌≡◌, ℕ, List, [], ◌∷◌, ◌++◌, true, false}
use Rattle.std.proofs.Common.{refl, sym, ap, Bool}
use Rattle.server_core.specs.declared.event.Event.TheVariants as event
use Rattle.server_core.specs.declared.event.ServerStep.{ServerStep}
use Rattle.server_core.specs.State.{State}
use Rattle.server_core.specs.Step.{hangs_if, stands, Misses, nothing, lacks}
use Rattle.server_held.specs.Held.{hung}
use Rattle.server_held.specs.Kept.{Steps}

pub hung_more : (s : State) (xs ys : List ℕ) → hung (hung s xs) ys ≡ hung s (xs ++ ys)
hung_more s [] ys = refl
hung_more s (k ∷ ks) ys = hung_more (hangs_if s (stands s k) k).0 ks ys

-- where a connection is lost nothing may be missing
never_missed : (s : State) (session : ℕ) (new : State) (step : ServerStep) → Misses s (event.Hang session) new step → ⊥
never_missed s session new step (nothing may left said) = may
never_missed s session new step (lacks l) = l.1

pub hang_is : (before after : ℕ) (s : State) (session : ℕ) (new : State) (step : ServerStep) → Steps before after s (event.Hang session) new step → new ≡ (hangs_if s (stands s session) session).0
hang_is before after s session new step steps = by_missed step.missed refl
  where
    by_missed : (missed : Bool) → step.missed ≡ missed → new ≡ (hangs_if s (stands s session) session).0
    by_missed true e = absurd (never_missed s session new step (steps.1 e))
    by_missed false e = sym (ap (λ p. p.0) (steps.0 e).is)

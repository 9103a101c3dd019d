use Rattle.server_held.proofs.Accounting.{steps_hold, keeps_later}
use Rattle.server_held.proofs.kept.KeptServer.step.Goals as goal

pub invariant_of-self : goal.invariant_of-self
invariant_of-self g c = (c.step-step.ensures.spare, steps_hold _ _ _ _ _ _ _ (c.step-step.ensures.exact, c.step-step.ensures.missed) c.self.invariant.1, keeps_later _ _ _ _ c.step-step.ensures.keeps c.self.invariant.2)

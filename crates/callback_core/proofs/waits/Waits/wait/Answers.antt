use Rattle.std.proofs.Common.{◌<◌, length, subst, arith}
use Rattle.callback_core.specs.Waits.{Waiting}
use Rattle.callback_core.proofs.waits.Waits.wait.Goals as goal

pub invariant_of-self : goal.invariant_of-self
invariant_of-self g c =
    c.push.ensures.bounded c.self.inside.leases.room c.self.invariant
    (subst (λ (w : Waiting _). 0 < w.room → length c.self.inside.waits.items < c.self.inside.leases.room) c.self.view_is (λ h. omega (arith, h)) c.requires.room)

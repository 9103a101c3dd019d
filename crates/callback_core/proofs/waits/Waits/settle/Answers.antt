use Rattle.std.proofs.Common.{◌∙◌, sym, subst, ap, List}
use Rattle.lease_rules.specs.declared.change.PendingChange.{PendingChange}
use Rattle.callback_core.specs.Waits.{AreBounded, without_made}
use Rattle.callback_core.proofs.Taken.{bounded_taken, made_taken}
use Rattle.callback_core.proofs.waits.Waits.settle.Goals as goal

pub invariant_of-self : goal.invariant_of-self
invariant_of-self g c =
    subst (λ (cs : List (PendingChange _)). AreBounded cs c.self.inside.leases.room) (sym c.take_out.ensures.rest) (bounded_taken c.self.inside.waits.items c.self.inside.leases.room c.place_of_ready-at.result c.place_of_ready-at.ensures.within c.self.invariant)

pub returns-clause-waits : goal.returns-clause-waits
returns-clause-waits g c =
    c.take_out.ensures.rest ∙ sym (made_taken c.self.inside.waits.items c.self.invariant.apart c.place_of_ready-at.result c.place_of_ready-at.ensures.within)
    ∙ ap (without_made c.self.inside.waits.items) (sym c.take_out.ensures.change) ∙ ap (λ w. without_made w.waits c.take_out.result) c.self.view_is

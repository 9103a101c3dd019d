use Rattle.std.proofs.Common.{◌∙◌, sym, ap}
use Rattle.callback_core.specs.Waits.{without}
use Rattle.callback_core.proofs.Taken.{bounded_hung, change_taken}
use Rattle.callback_core.proofs.waits.Waits.hang.Goals as goal

pub invariant_of-self : goal.invariant_of-self
invariant_of-self g c =
    bounded_hung c.self.inside.waits.items _ c.self.inside.leases.room _ c.place_of-at.result c.hang.ensures.rest c.hang.ensures.room c.place_of-at.ensures.within c.self.invariant

pub returns-clause-waits : goal.returns-clause-waits
returns-clause-waits g c =
    c.hang.ensures.rest ∙ sym (change_taken c.self.inside.waits.items c.self.invariant.apart c.args.session c.place_of-at.result c.place_of-at.ensures.within c.place_of-at.ensures.change)
    ∙ ap (λ w. without w.waits c.args.session) c.self.view_is

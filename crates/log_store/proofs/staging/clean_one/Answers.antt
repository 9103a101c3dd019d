use Rattle.log_store.proofs.Stage.{cleans}
use Rattle.log_store.proofs.Gone.{gone_or, stays_gone}
use Rattle.log_store.proofs.staging.clean_one.Goals as goal

pub returns-in-Large-clause-does : goal.returns-in-Large-clause-does
returns-in-Large-clause-does g c = λ told records past pending s clear.
    cleans c.args.edit.now c.in-Large.field-0 c.in-Large.is records past pending _ _ s clear _ (c.remove-later.ensures.does told)

pub returns-in-Large-clause-gone : goal.returns-in-Large-clause-gone
returns-in-Large-clause-gone g c = λ told. ((λ is. gone_or _ _ _ _ _ _ (c.remove-later.ensures.does told) c.remove-later.ensures.cause), tt)

pub returns-in-Large-clause-stays : goal.returns-in-Large-clause-stays
returns-in-Large-clause-stays g c = λ told. stays_gone _ _ _ _ (c.remove-later.ensures.does told)

use Rattle.log_store.proofs.Stage.{stages}
use Rattle.log_store.proofs.staging.stage_one.Goals as goal

pub returns-in-Large-clause-does : goal.returns-in-Large-clause-does
returns-in-Large-clause-does g c = λ told records past pending s clear.
    stages c.args.edit.now c.in-Large.parts c.in-Large.is records past pending _ _ s clear _ (c.write_firm.ensures.does told)

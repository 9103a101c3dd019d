use Rattle.log_store.proofs.Add.{added, maybe_of, not_added, in_doubt}
use Rattle.log_store.proofs.staging.add.Goals as goal

pub returns-in-Ok-clause-does : goal.returns-in-Ok-clause-does
returns-in-Ok-clause-does g c = λ told records past pending s ready.
    added c.args.edits.now records past pending _ _ s ready (c.in-Ok.ensures.does told)

pub returns-in-Ok-take_back-clause-does : goal.returns-in-Ok-take_back-clause-does
returns-in-Ok-take_back-clause-does g c = λ told records past pending s ready.
    let did = c.in-Err.ensures.does told in
    not_added c.args.edits.now records past pending _ _ s ready _ did _
    (c.in-Ok-take_back.ensures.does told c.args.edits.now records past pending _ (c.count-count.ensures told) (maybe_of c.args.edits.now records past pending _ _ s ready _ did))

pub returns-in-Err-take_back-clause-does : goal.returns-in-Err-take_back-clause-does
returns-in-Err-take_back-clause-does g c = λ told records past pending s ready.
    let did = c.in-Err.ensures.does told in
    in_doubt c.args.edits.now records past pending _ _ s ready _ did _ _
    (c.in-Err-take_back.ensures.does told c.args.edits.now records past pending _ (c.count-count.ensures told) (maybe_of c.args.edits.now records past pending _ _ s ready _ did))

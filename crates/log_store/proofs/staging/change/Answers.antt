use Rattle.log_store.proofs.Add.{ready_added, cleaned_ready}
use Rattle.log_store.proofs.Gone.{gone_after, gone_sooner}
use Rattle.log_store.proofs.staging.change.Goals as goal

pub returns-in-Ok-clause-gone : goal.returns-in-Ok-clause-gone
returns-in-Ok-clause-gone g c = λ told. gone_sooner c.args.edits.now _ c.add_or_clean.result _ _ _ c.in-Ok.ensures.later (c.add_or_clean.ensures.gone told)

pub returns-in-Ok-clause-does : goal.returns-in-Ok-clause-does
returns-in-Ok-clause-does g c = λ told records past pending s clear.
    let ready = c.in-Ok.ensures.does told records past pending s clear in
    ready_added c.args.edits.now records past pending _ _ _ _ ready (c.add_or_clean.ensures.does told records past pending ready.sound ready.done clear)

pub returns-in-Err-clause-gone : goal.returns-in-Err-clause-gone
returns-in-Err-clause-gone g c = λ told. gone_after c.args.edits.now _ _ _ _ c.in-Err.ensures.cause (c.clean.ensures.gone told)

pub returns-in-Err-clause-does : goal.returns-in-Err-clause-does
returns-in-Err-clause-does g c = λ told records past pending s clear.
    let ready = c.in-Err.ensures.does told records past pending s clear in
    cleaned_ready c.args.edits.now records past pending _ _ _ _ ready (c.clean.ensures.does told records past pending ready.sound clear)

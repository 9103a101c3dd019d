use Rattle.std.proofs.Common.{rules, refl}
use Rattle.log_store.proofs.Hold.{applied, not_noted, not_applied, perhaps_applied}
use Rattle.log_store.proofs.records.LogStore.add.Goals as goal

pub returns-in-Ok-clause-does : goal.returns-in-Ok-clause-does
returns-in-Ok-clause-does g c = λ told records past s clear sure.
    applied c.args.edits.now records past _ _ _ _ _ sure c.in_ok-push_larges.ensures.done (c.in-Ok.ensures.does told records past _ s clear)

pub returns-in_err-push_larges-clause-does : goal.returns-in_err-push_larges-clause-does
returns-in_err-push_larges-clause-does g c = λ told records past s clear sure. not_noted c.args.edits.now records past _ _ _ _ _ (search rules) c.in_err-push_larges.ensures.stays s

pub returns-in-Err-Before-clause-does : goal.returns-in-Err-Before-clause-does
returns-in-Err-Before-clause-does g c = λ told records past s clear sure.
    not_applied c.args.edits.now records past _ _ _ _ _ _ _ c.in-Err-Before.field-0-is c.in_ok-push_larges.ensures.stays (c.in-Err-Before.ensures.does told records past _ s clear)

pub returns-in-Err-InDoubt-clause-does : goal.returns-in-Err-InDoubt-clause-does
returns-in-Err-InDoubt-clause-does g c = λ told records past s clear sure.
    perhaps_applied c.args.edits.now records past _ _ _ _ _ _ _ refl (c.in-Err-InDoubt.ensures.does told records past _ s clear)

use Rattle.log_store.proofs.Hold.{applied_again}
use Rattle.log_store.proofs.records.LogStore.add_or_again.Goals as goal

pub returns-in-Ok-clause-does : goal.returns-in-Ok-clause-does
returns-in-Ok-clause-does g c = c.in-Ok.ensures.does

pub returns-then-self-clause-does : goal.returns-then-self-clause-does
returns-then-self-clause-does g c = c.in-Err.ensures.does

pub returns-else-count-eq0-clause-does : goal.returns-else-count-eq0-clause-does
returns-else-count-eq0-clause-does g c = λ told records past s clear sure.
    let first = c.in-Err.ensures.does told records past s clear sure in
    applied_again c.args.edits.now records past _ _ _ _ _ _ _ _ _ first (c.add_behind.ensures.does told records past (first.failed c.if-self.false) c.if-self.false)

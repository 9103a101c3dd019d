use Rattle.log_store.proofs.records.LogStore.relieve.Goals as goal

pub returns-in-Ok-clause-does : goal.returns-in-Ok-clause-does
returns-in-Ok-clause-does g c = c.in-Ok.ensures.does

pub returns-then-self-clause-does : goal.returns-then-self-clause-does
returns-then-self-clause-does g c = c.in-Err.ensures.does

pub returns-else-self-clause-does : goal.returns-else-self-clause-does
returns-else-self-clause-does g c = c.in-Err.ensures.does

use Rattle.std.proofs.Common.{refl}
use Rattle.log_store.proofs.Hold.{relieved_quiet, relieved_failed, relieved_starved, relieved_doubt}
use Rattle.log_store.proofs.records.LogStore.carry_out.Goals as goal

pub returns-in-Ok-clause-does : goal.returns-in-Ok-clause-does
returns-in-Ok-clause-does g c = λ told records past sure held. relieved_quiet records past _ _ _ _ _ (c.in-Ok.ensures.does told records past _ (held sure))

pub returns-in-Err-Failed-clause-does : goal.returns-in-Err-Failed-clause-does
returns-in-Err-Failed-clause-does g c = λ told records past sure held.
    relieved_failed records past _ _ _ _ _ c.in-Err-Failed.field-0-is (c.in-Err-Failed.ensures.does told records past _ (held sure))

pub returns-in-Err-Memory-clause-does : goal.returns-in-Err-Memory-clause-does
returns-in-Err-Memory-clause-does g c = λ told records past sure held.
    relieved_starved records past _ _ _ _ _ c.in-Err-Memory.field-0-is (c.in-Err-Memory.ensures.does told records past _ (held sure))

pub returns-in-Err-InDoubt-clause-does : goal.returns-in-Err-InDoubt-clause-does
returns-in-Err-InDoubt-clause-does g c = λ told records past sure held. relieved_doubt records past _ _ _ _ _ _ refl (c.in-Err-InDoubt.ensures.does told records past _ (held sure))

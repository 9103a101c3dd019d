use Rattle.lease_table.proofs.Beside.{kept_elsewhere, kept_forgotten}
use Rattle.lease_table.proofs.Claiming.{kept_new, kept_later, kept_happens, open_is_right}
use Rattle.lease_table.proofs.laws.leases_are_safe.Goals as goal

pub returns-clause-start : goal.returns-clause-start
returns-clause-start c = kept_new

pub returns-clause-time : goal.returns-clause-time
returns-clause-time c = kept_later

pub returns-clause-event : goal.returns-clause-event
returns-clause-event c = kept_happens

pub returns-clause-open : goal.returns-clause-open
returns-clause-open c = open_is_right

pub returns-clause-elsewhere : goal.returns-clause-elsewhere
returns-clause-elsewhere c = kept_elsewhere

pub returns-clause-forgotten : goal.returns-clause-forgotten
returns-clause-forgotten c = kept_forgotten

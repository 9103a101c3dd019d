use Rattle.std.proofs.Common.{rules}
use Rattle.transfer_rules.proofs.bounds.may_try_again.Goals as goal

pub returns-clause-may : goal.returns-clause-may
returns-clause-may c = search rules

pub returns-clause-below : goal.returns-clause-below
returns-clause-below c = search rules

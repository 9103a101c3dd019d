use Rattle.std.proofs.Common.{refl}
use Rattle.lease_rules.proofs.leaving.hang.Goals as goal

pub returns-clause-leases : goal.returns-clause-leases
returns-clause-leases g c = refl

pub returns-clause-room : goal.returns-clause-room
returns-clause-room g c = refl

use Rattle.std.proofs.Common.{rules}
use Rattle.lease_rules.proofs.lease.end_of.Goals as goal

pub returns : goal.returns
returns c = search rules

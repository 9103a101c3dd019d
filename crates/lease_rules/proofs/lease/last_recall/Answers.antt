use Rattle.std.proofs.Common.{rules}
use Rattle.lease_rules.proofs.lease.last_recall.Goals as goal

pub returns : goal.returns
returns c = search rules

use Rattle.std.proofs.Common.{rules}
use Rattle.lease_rules.proofs.lease.is_wanted_back.Goals as goal

pub returns-then-blocks : goal.returns-then-blocks
returns-then-blocks c = search rules

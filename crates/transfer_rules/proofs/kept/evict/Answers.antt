use Rattle.std.proofs.Common.{rules}
use Rattle.transfer_rules.proofs.kept.evict.Goals as goal

pub returns : goal.returns
returns g c = search rules

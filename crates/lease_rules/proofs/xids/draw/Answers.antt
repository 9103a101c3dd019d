use Rattle.std.proofs.Common.{rules}
use Rattle.lease_rules.proofs.xids.draw.Goals as goal

pub returns : goal.returns
returns c = search rules

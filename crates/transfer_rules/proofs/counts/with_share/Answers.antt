use Rattle.std.proofs.Common.{rules}
use Rattle.transfer_rules.proofs.counts.with_share.Goals as goal

pub returns : goal.returns
returns c = search rules

use Rattle.std.proofs.Common.{rules}
use Rattle.transfer_rules.proofs.counts.late_counts.Goals as goal

pub returns : goal.returns
returns c = search rules

use Rattle.std.proofs.Common.{rules}
use Rattle.transfer_rules.proofs.pieces.broken_sum.Goals as goal

pub returns-else-sum-size : goal.returns-else-sum-size
returns-else-sum-size c = search rules

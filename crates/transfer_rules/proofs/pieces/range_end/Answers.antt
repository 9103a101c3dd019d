use Rattle.std.proofs.Common.{rules}
use Rattle.transfer_rules.proofs.pieces.range_end.Goals as goal

pub returns-else-end-len : goal.returns-else-end-len
returns-else-end-len c = search rules

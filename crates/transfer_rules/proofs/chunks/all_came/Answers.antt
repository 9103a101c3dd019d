use Rattle.std.proofs.Common.{rules}
use Rattle.transfer_rules.proofs.chunks.all_came.Goals as goal

pub returns-then-asked-count : goal.returns-then-asked-count
returns-then-asked-count g c = search rules

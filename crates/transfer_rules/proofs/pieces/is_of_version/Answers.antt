use Rattle.std.proofs.Common.{rules}
use Rattle.transfer_rules.proofs.pieces.is_of_version.Goals as goal

pub returns : goal.returns
returns c = search rules

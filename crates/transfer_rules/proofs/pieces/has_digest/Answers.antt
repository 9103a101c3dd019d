use Rattle.std.proofs.Common.{rules}
use Rattle.transfer_rules.proofs.pieces.has_digest.Goals as goal

pub returns : goal.returns
returns c = search rules

use Rattle.std.proofs.Common.{rules}
use Rattle.told_outcome.proofs.told_of.Goals as goal

pub returns : goal.returns
returns c = search rules

use Rattle.std.proofs.Common.{rules}
use Rattle.server_rules.proofs.told.settled.Goals as goal

pub returns : goal.returns
returns c = search rules

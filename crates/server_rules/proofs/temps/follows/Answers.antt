use Rattle.std.proofs.Common.{rules}
use Rattle.server_rules.proofs.temps.follows.Goals as goal

pub returns : goal.returns
returns c = search rules

use Rattle.std.proofs.Common.{rules}
use Rattle.server_rules.proofs.sessions.is_of.Goals as goal

pub returns : goal.returns
returns c = search rules

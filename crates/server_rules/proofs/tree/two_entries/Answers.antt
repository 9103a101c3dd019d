use Rattle.std.proofs.Common.{rules}
use Rattle.server_rules.proofs.tree.two_entries.Goals as goal

pub returns-clause-second : goal.returns-clause-second
returns-clause-second g c = search rules

use Rattle.std.proofs.Common.{rules}
use Rattle.server_rules.proofs.tree.is_still.Goals as goal

pub returns : goal.returns
returns c = search rules

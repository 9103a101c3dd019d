use Rattle.std.proofs.Common.{rules}
use Rattle.server_rules.proofs.tree.next_once_gone.Goals as goal

pub returns : goal.returns
returns c = search rules

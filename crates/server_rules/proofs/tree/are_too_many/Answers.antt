use Rattle.std.proofs.Common.{rules}
use Rattle.server_rules.proofs.tree.are_too_many.Goals as goal

pub returns : goal.returns
returns c = search rules

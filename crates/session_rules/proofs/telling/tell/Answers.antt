use Rattle.std.proofs.Common.{rules}
use Rattle.session_rules.proofs.telling.tell.Goals as goal

pub returns : goal.returns
returns c = search rules

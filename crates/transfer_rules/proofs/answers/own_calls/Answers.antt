use Rattle.std.proofs.Common.{rules}
use Rattle.transfer_rules.proofs.answers.own_calls.Goals as goal

pub returns : goal.returns
returns g c = search rules

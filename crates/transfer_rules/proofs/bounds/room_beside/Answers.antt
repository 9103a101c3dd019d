use Rattle.std.proofs.Common.{rules}
use Rattle.transfer_rules.specs.Limits.{calls_most}
use Rattle.transfer_rules.proofs.bounds.room_beside.Goals as goal

pub returns : goal.returns
unfolding calls_most
returns c = search rules

use Rattle.wire.proofs.Sent.{refused}
use Rattle.wire.proofs.laws.refusals_are_read.Goals as goal

pub returns : goal.returns
returns c = refused

use Rattle.wire.proofs.Refusals.{have_causes}
use Rattle.wire.proofs.laws.refusals_have_causes.Goals as goal

pub returns : goal.returns
returns c = have_causes

use Rattle.wire.proofs.Sent.{has_no_bytes}
use Rattle.wire.proofs.laws.unfit_is_not_sent.Goals as goal

pub returns : goal.returns
returns c = has_no_bytes

use Rattle.wire.proofs.lemmas.Again.{said_again}
use Rattle.wire.proofs.laws.said_is_read.Goals as goal

pub returns : goal.returns
returns c = said_again

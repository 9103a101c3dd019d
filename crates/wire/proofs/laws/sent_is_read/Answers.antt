use Rattle.wire.proofs.lemmas.Again.{spell_again}
use Rattle.wire.proofs.laws.sent_is_read.Goals as goal

pub returns : goal.returns
returns c = spell_again

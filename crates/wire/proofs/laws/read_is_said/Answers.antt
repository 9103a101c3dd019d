use Rattle.wire.proofs.lemmas.Said.{read_is_said}
use Rattle.wire.proofs.laws.read_is_said.Goals as goal

pub returns : goal.returns
returns c = read_is_said

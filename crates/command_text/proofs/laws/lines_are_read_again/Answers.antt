use Rattle.command_text.proofs.lemmas.Again.{lines_again}
use Rattle.command_text.proofs.laws.lines_are_read_again.Goals as goal

pub returns : goal.returns
returns c = lines_again

use Rattle.shell_words.proofs.Again.{read_again}
use Rattle.shell_words.proofs.laws.shown_names_are_read.Goals as goal

pub returns : goal.returns
returns c = λ names are. read_again names are

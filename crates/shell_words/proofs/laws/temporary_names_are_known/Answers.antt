use Rattle.shell_words.proofs.Made.{known_again}
use Rattle.shell_words.proofs.laws.temporary_names_are_known.Goals as goal

pub returns : goal.returns
returns c = λ process thread p t. known_again process thread p t

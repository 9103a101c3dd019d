use Rattle.shell_words.proofs.lemmas.Sizes.{left_size}
use Rattle.host.proofs.host_folder.names_in.Given as goal

abbrev pub decreases-names : goal.decreases-names
decreases-names l = left_size l.rest

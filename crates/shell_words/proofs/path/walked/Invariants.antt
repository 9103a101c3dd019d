use Rattle.std.proofs.Common.{◌≡◌}
use Rattle.command_text.specs.Parts.{cut_at, parts_left}
use Rattle.shell_words.specs.Paths.{walked}
use Rattle.shell_words.proofs.lemmas.Sizes.{left_size}
use Rattle.shell_words.proofs.path.walked.Given as goal

abbrev pub invariant-parts : goal.invariant-parts
invariant-parts l = walked l.names (parts_left 47 l.rest) ≡ walked l.fn.from (cut_at 47 l.word)

abbrev pub decreases-parts : goal.decreases-parts
decreases-parts l = left_size l.rest

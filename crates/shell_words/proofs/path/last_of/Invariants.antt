use Rattle.std.proofs.Common.{◌≡◌}
use Rattle.command_text.specs.Parts.{cut_at, parts_left}
use Rattle.shell_words.specs.Paths.{last_of, last_from}
use Rattle.shell_words.proofs.lemmas.Sizes.{left_size}
use Rattle.shell_words.proofs.path.last_of.Given as goal

abbrev pub invariant-parts : goal.invariant-parts
invariant-parts l = last_from l.last (parts_left 47 l.rest) ≡ last_of l.word

abbrev pub decreases-parts : goal.decreases-parts
decreases-parts l = left_size l.rest

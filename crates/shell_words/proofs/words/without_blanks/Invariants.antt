use Rattle.std.proofs.Common.{◌≡◌, length}
use Rattle.shell_words.specs.Words.{without_blanks}
use Rattle.shell_words.proofs.words.without_blanks.Given as goal

abbrev pub invariant-blanks : goal.invariant-blanks
invariant-blanks l = without_blanks l.rest ≡ without_blanks l.text

abbrev pub decreases-blanks : goal.decreases-blanks
decreases-blanks l = length l.rest

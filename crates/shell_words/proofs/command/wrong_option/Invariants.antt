use Rattle.std.proofs.Common.{◌≡◌, drop}
use Rattle.shell_words.specs.Commands.{wrong_option}
use Rattle.shell_words.proofs.command.wrong_option.Given as goal

abbrev pub invariant-loop-word : goal.invariant-loop-word
invariant-loop-word l = wrong_option l.verb (drop l.word-index l.words) ≡ wrong_option l.verb l.words

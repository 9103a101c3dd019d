use Rattle.std.proofs.Common.{◌≡◌, drop}
use Rattle.shell_words.specs.Commands.{has_options}
use Rattle.shell_words.proofs.command.has_options.Given as goal

abbrev pub invariant-loop-word : goal.invariant-loop-word
invariant-loop-word l = has_options (drop l.word-index l.words) ≡ has_options l.words

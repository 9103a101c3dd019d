use Rattle.std.proofs.Common.{◌≡◌, ◌++◌, drop, if◌then◌else◌}
use Rattle.shell_words.specs.Commands.{operands_of}
use Rattle.shell_words.proofs.command.operands_of.Given as goal

abbrev pub invariant-loop-word : goal.invariant-loop-word
invariant-loop-word l = l.operands ++ (if l.is_over then drop l.word-index l.words else operands_of (drop l.word-index l.words)) ≡ operands_of l.words

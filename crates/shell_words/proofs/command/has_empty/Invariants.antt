use Rattle.std.proofs.Common.{◌≡◌, drop}
use Rattle.std.specs.List.{list_any}
use Rattle.shell_words.specs.Commands.{is_nothing}
use Rattle.shell_words.proofs.command.has_empty.Given as goal

abbrev pub invariant-loop-word : goal.invariant-loop-word
invariant-loop-word l = list_any is_nothing (drop l.word-index l.words) ≡ list_any is_nothing l.words

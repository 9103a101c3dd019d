use Rattle.std.proofs.Common.{◌≡◌, ◌++◌, drop}
use Rattle.shell_walks.specs.Telling.{names_text}
use Rattle.shell_walks.proofs.telling.names_text.Given as goal

abbrev pub invariant-loop-name : goal.invariant-loop-name
invariant-loop-name l = l.out ++ names_text (drop l.name-index l.names) ≡ names_text l.names

use Rattle.std.proofs.Common.{◌≡◌, ◌++◌, ◌∷◌, drop}
use Rattle.shell_words.specs.Quoting.{all_spelled}
use Rattle.shell_words.proofs.quoting.all_spelled.Given as goal

abbrev pub invariant-loop-byte : goal.invariant-loop-byte
invariant-loop-byte l = l.out.items ++ all_spelled l.text (drop l.byte-index l.name) ≡ 39 ∷ all_spelled l.text l.name

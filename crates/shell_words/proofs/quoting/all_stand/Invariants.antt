use Rattle.std.proofs.Common.{◌≡◌, drop}
use Rattle.std.specs.List.{list_all}
use Rattle.shell_words.specs.Quoting.{stands}
use Rattle.shell_words.proofs.quoting.all_stand.Given as goal

abbrev pub invariant-loop-byte : goal.invariant-loop-byte
invariant-loop-byte l = list_all (λ b. stands l.text b) (drop l.byte-index l.name) ≡ list_all (λ b. stands l.text b) l.name

use Rattle.std.proofs.Common.{◌≡◌, drop}
use Rattle.shell_words.specs.Quoting.{has_control}
use Rattle.shell_words.proofs.quoting.has_control.Given as goal

abbrev pub invariant-loop-byte : goal.invariant-loop-byte
invariant-loop-byte l = has_control l.before (drop l.byte-index l.name) ≡ has_control 0 l.name

use Rattle.std.proofs.Common.{◌≡◌, drop}
use Rattle.shell_words.specs.Words.{nothing_read, read_from}
use Rattle.shell_words.proofs.words.read_whole.Given as goal

abbrev pub invariant-loop-byte : goal.invariant-loop-byte
invariant-loop-byte l = read_from l.reading (drop l.byte-index l.line) ≡ read_from nothing_read l.line

use Rattle.std.proofs.Common.{◌≡◌, drop}
use Rattle.std.specs.List.{list_any}
use Rattle.shell_words.specs.Local.{is_parting}
use Rattle.shell_words.proofs.local.has_parting.Given as goal

abbrev pub invariant-loop-byte : goal.invariant-loop-byte
invariant-loop-byte l = list_any is_parting (drop l.byte-index l.name) ≡ list_any is_parting l.name

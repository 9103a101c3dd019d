use Rattle.std.proofs.Common.{◌≡◌, drop}
use Rattle.std.specs.List.{list_all}
use Rattle.command_text.specs.Fields.{is_letter}
use Rattle.command_text.proofs.fields.are_letters.Given as goal

abbrev pub invariant-loop-byte : goal.invariant-loop-byte
invariant-loop-byte l = list_all is_letter (drop l.byte-index l.text) ≡ list_all is_letter l.text

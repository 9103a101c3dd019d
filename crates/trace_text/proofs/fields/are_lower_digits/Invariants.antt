use Rattle.std.proofs.Common.{◌≡◌, drop}
use Rattle.std.specs.List.{list_all}
use Rattle.command_text.specs.Fields.{is_lower_digit}
use Rattle.trace_text.proofs.fields.are_lower_digits.Given as goal

abbrev pub invariant-loop-byte : goal.invariant-loop-byte
invariant-loop-byte l = list_all is_lower_digit (drop l.byte-index l.text) ≡ list_all is_lower_digit l.text

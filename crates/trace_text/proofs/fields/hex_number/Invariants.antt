use Rattle.std.proofs.Common.{◌≡◌, ◌<◌, ◌^◌, true, drop}
use Rattle.std.specs.List.{list_all}
use Rattle.command_text.specs.Fields.{is_lower_digit}
use Rattle.trace_text.specs.Fields.{hex_from}
use Rattle.trace_text.proofs.fields.hex_number.Given as goal

abbrev pub invariant-loop-digit : goal.invariant-loop-digit
invariant-loop-digit l = record {
  digits : list_all is_lower_digit (drop l.digit-index l.digits) ≡ true;
  told : hex_from l.value (drop l.digit-index l.digits) ≡ hex_from 0 l.digits;
  small : l.value < 2 ^ 64;
}

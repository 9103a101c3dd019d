use Rattle.std.proofs.Common.{◌≡◌, ◌<◌, ◌^◌, true, drop}
use Rattle.std.specs.List.{list_all}
use Rattle.std.specs.Char.{is_ascii_digit}
use Rattle.command_text.specs.Fields.{value_from}
use Rattle.command_text.proofs.fields.value.Given as goal

abbrev pub invariant-loop-digit : goal.invariant-loop-digit
invariant-loop-digit l = record {
  digits : list_all is_ascii_digit (drop l.digit-index l.digits) ≡ true;
  told : value_from l.value (drop l.digit-index l.digits) ≡ value_from 0 l.digits;
  small : l.value < 2 ^ 64;
}

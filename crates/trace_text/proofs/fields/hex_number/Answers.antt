use Rattle.std.proofs.Common.{sym, ◌∙◌}
use Rattle.trace_text.proofs.Hex.{none_above, some_below}
use Rattle.trace_text.proofs.fields.hex_number.Goals as goal

pub returns-in_err-value : goal.returns-in_err-value
returns-in_err-value c = c.from_residual.ensures ∙ sym (none_above c.args.digits.now c.loop-digit.digit-index c.loop-digit.value c.loop-digit-test.true c.loop-digit.invariant.told c.in_err-value.ensures)

pub returns : goal.returns
returns c = sym (some_below c.args.digits.now c.loop-digit.digit-index c.loop-digit.value c.loop-digit-test.false c.loop-digit.invariant.told c.loop-digit.invariant.small)

use Rattle.std.proofs.Common.{◌++◌, length, ap, ◌∙◌}
use Rattle.xdr_codec.specs.Xdr.{u32_form}
use Rattle.wire.proofs.spell.room_for_mark.Goals as goal

pub returns : goal.returns
unfolding u32_form
returns c = ap length (c.in_ok-u32.ensures.spelled ∙ ap (λ z. z ++ u32_form.spell 0) c.new-writer.ensures)

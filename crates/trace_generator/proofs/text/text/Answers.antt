use Rattle.std.proofs.Common.{string_bytes}
use Rattle.trace_generator.proofs.Texts.{with_block}
use Rattle.trace_generator.proofs.text.text.Goals as goal

pub loop-block-preserved : goal.loop-block-preserved
loop-block-preserved c = with_block (string_bytes c.loop-block.out) (string_bytes c.put_block.new.out) c.args.seed c.loop-block.block c.loop-block.invariant c.in_ok-put_block.ensures

use Rattle.std.proofs.Common.{string_bytes}
use Rattle.trace_generator.specs.Lines.{do_front, write_command}
use Rattle.trace_generator.proofs.Texts.{on_ok, one_line}
use Rattle.trace_generator.proofs.blocks.put_write.Goals as goal

pub returns : goal.returns
returns c = on_ok c.put_command.result _ _ (one_line (string_bytes c.args.out.now) (string_bytes c.put_front.new.out) (string_bytes c.put_command.new.out) (do_front c.args.client c.args.time) (write_command c.args.file c.args.offset c.args.block) c.in_ok-put_front.ensures) c.put_command.ensures

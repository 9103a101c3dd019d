use Rattle.std.proofs.Common.{◌++◌}
use Rattle.command_text.specs.Content.{marks}
use Rattle.command_text.proofs.lemmas.Contents.{marks_go_on}
use Rattle.command_text.proofs.content.push_marks.Goals as goal

pub loop-preserved : goal.loop-preserved
loop-preserved c = rw c.in_ok-push_mark.ensures (marks_go_on c.loop.bytes.items (c.args.bytes.now.items ++ marks c.args.count) c.args.count c.loop.counter c.loop-test.true c.loop.invariant)

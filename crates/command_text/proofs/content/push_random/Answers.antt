use Rattle.std.proofs.Common.{◌++◌}
use Rattle.command_text.specs.Content.{random_bytes}
use Rattle.command_text.proofs.lemmas.Contents.{random_goes_on}
use Rattle.command_text.proofs.content.push_random.Goals as goal

pub loop-preserved : goal.loop-preserved
loop-preserved c = rw (c.in_ok-push.ensures.items, c.next_state-state.ensures) (random_goes_on c.loop.bytes.items (c.args.bytes.now.items ++ random_bytes c.args.seed c.args.count) c.loop.state c.args.count c.loop.counter c.loop-test.true c.loop.invariant)

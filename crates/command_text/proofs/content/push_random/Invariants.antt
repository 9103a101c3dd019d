use Rattle.std.proofs.Common.{◌≡◌, ◌-◌, ◌++◌}
use Rattle.command_text.specs.Content.{random_bytes}
use Rattle.command_text.proofs.content.push_random.Given as goal

abbrev pub invariant-loop : goal.invariant-loop
invariant-loop l = l.bytes.items ++ random_bytes l.state (l.count - l.counter) ≡ l.initial.bytes.items ++ random_bytes l.seed l.count

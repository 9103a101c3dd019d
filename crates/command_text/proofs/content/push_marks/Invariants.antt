use Rattle.std.proofs.Common.{◌≡◌, ◌-◌, ◌++◌}
use Rattle.command_text.specs.Content.{marks}
use Rattle.command_text.proofs.content.push_marks.Given as goal

abbrev pub invariant-loop : goal.invariant-loop
invariant-loop l = l.bytes.items ++ marks (l.count - l.counter) ≡ l.initial.bytes.items ++ marks l.count

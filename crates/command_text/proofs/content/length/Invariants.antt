use Rattle.std.proofs.Common.{◌≡◌, ◌+◌, drop}
use Rattle.command_text.specs.Content.{content_length}
use Rattle.command_text.proofs.content.length.Given as goal

abbrev pub invariant-loop-part : goal.invariant-loop-part
invariant-loop-part l = l.length + content_length (drop l.part-index l.part-items) ≡ content_length l.part-items

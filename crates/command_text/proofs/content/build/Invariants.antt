use Rattle.std.proofs.Common.{◌≡◌, ◌++◌, drop}
use Rattle.command_text.specs.Content.{content_bytes}
use Rattle.command_text.proofs.content.build.Given as goal

abbrev pub invariant-loop-part : goal.invariant-loop-part
invariant-loop-part l = l.bytes.items ++ content_bytes (drop l.part-index l.part-items) ≡ content_bytes l.part-items

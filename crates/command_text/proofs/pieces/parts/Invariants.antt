use Rattle.std.proofs.Common.{◌≡◌}
use Rattle.command_text.specs.Fields.{parts_of}
use Rattle.command_text.specs.Parts.{cut_at, parts_left}
use Rattle.command_text.proofs.Joined.{ahead, left_size}
use Rattle.command_text.proofs.pieces.parts.Given as goal

abbrev pub invariant-parts : goal.invariant-parts
invariant-parts l = ahead l.parts (parts_of (parts_left 43 l.rest)) ≡ parts_of (cut_at 43 l.word)

abbrev pub decreases-parts : goal.decreases-parts
decreases-parts l = left_size l.rest

use Rattle.std.proofs.Common.{◌≡◌}
use Rattle.command_text.specs.Parts.{cut_at, parts_left}
use Rattle.command_text.specs.Paths.{names_of}
use Rattle.command_text.proofs.Joined.{ahead, left_size}
use Rattle.command_text.proofs.path.joined_names.Given as goal

abbrev pub invariant-names : goal.invariant-names
invariant-names l = ahead l.names (names_of (parts_left 47 l.rest)) ≡ names_of (cut_at 47 l.word)

abbrev pub decreases-names : goal.decreases-names
decreases-names l = left_size l.rest

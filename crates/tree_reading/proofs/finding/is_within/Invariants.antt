use Rattle.std.proofs.Common.{◌≡◌, length}
use Rattle.tree_reading.specs.Tree.{climbs}
use Rattle.tree_reading.proofs.finding.is_within.Given as goal

abbrev pub invariant-climb : goal.invariant-climb
invariant-climb l = climbs l.left l.nodes.nodes l.top l.at ≡ climbs (length l.nodes.nodes) l.nodes.nodes l.top l.id

abbrev pub decreases-climb : goal.decreases-climb
decreases-climb l = l.left

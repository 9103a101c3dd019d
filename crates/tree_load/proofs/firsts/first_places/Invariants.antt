use Rattle.std.proofs.Common.{◌≤◌, length, drop}
use Rattle.tree_load.specs.Found.{AreFirstNodes, AreFirstNames, AreFirstContents}
use Rattle.tree_load.proofs.firsts.first_places.Given as goal

abbrev pub invariant-records : goal.invariant-records
invariant-records l = record {
  within : l.place ≤ length l.records;
  nodes : AreFirstNodes l.place (drop l.place l.records) l.firsts.nodes;
  names : AreFirstNames l.place (drop l.place l.records) l.firsts.names;
  contents : AreFirstContents l.place (drop l.place l.records) l.firsts.contents;
}

abbrev pub decreases-records : goal.decreases-records
decreases-records l = l.place

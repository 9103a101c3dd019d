use Rattle.std.proofs.Common.{◌≡◌, ◌≤◌, ◌+◌, ◌-◌, ◌<◌, ◌^◌, ◌++◌, take, drop}
use Rattle.tree_reading.specs.Reading.{page}
use Rattle.tree_reading.proofs.listing.page.Given as goal

abbrev pub invariant-entries : goal.invariant-entries
invariant-entries l = record {
  within : l.at ≤ l.end;
  cookies : l.cookie + (l.end - l.at) < 2 ^ 64;
  rest : l.entries.items ++ page l.left l.cookie (take (l.end - l.at) (drop l.at l.nodes.nodes)) ≡ page l.room l.fn.cookie (take (l.end - l.start) (drop l.start l.nodes.nodes));
}

abbrev pub decreases-entries : goal.decreases-entries
decreases-entries l = l.end - l.at

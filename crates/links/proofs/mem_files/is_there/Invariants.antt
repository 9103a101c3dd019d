use Rattle.std.proofs.Common.{◌≡◌, ◌≤◌, length, drop, ◌-◌}
use Rattle.links.specs.Files.{is_there}
use Rattle.links.proofs.mem_files.is_there.Given as goal

abbrev pub invariant-places : goal.invariant-places
invariant-places l = record {
  within : l.place ≤ length l.files.items;
  rest : is_there l.name (drop l.place l.files.items) ≡ is_there l.name l.files.items;
}

abbrev pub decreases-places : goal.decreases-places
decreases-places l = length l.files.items - l.place

use Rattle.std.proofs.Common.{◌≡◌, ◌≤◌, length, drop, ◌-◌}
use Rattle.links.specs.Files.{bytes_of}
use Rattle.links.proofs.mem_files.bytes_of.Given as goal

abbrev pub invariant-places : goal.invariant-places
invariant-places l = record {
  within : l.place ≤ length l.files.items;
  rest : bytes_of l.name (drop l.place l.files.items) ≡ bytes_of l.name l.files.items;
}

abbrev pub decreases-places : goal.decreases-places
decreases-places l = length l.files.items - l.place

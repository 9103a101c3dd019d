use Rattle.std.proofs.Common.{◌≡◌, ◌+◌, ◌≤◌, length, drop, ◌-◌}
use Rattle.store.specs.Records.{place_of}
use Rattle.store.proofs.edits.place_of.Given as goal

abbrev pub invariant-places : goal.invariant-places
invariant-places l = record {
  within : l.place ≤ length l.records.items;
  rest : l.place + place_of l.one (drop l.place l.records.items) ≡ place_of l.one l.records.items;
}

abbrev pub decreases-places : goal.decreases-places
decreases-places l = length l.records.items - l.place

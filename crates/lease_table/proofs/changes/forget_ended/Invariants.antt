use Rattle.std.proofs.Common.{◌≡◌, ◌≤◌, length}
use Rattle.lease_table.specs.Leases.{without_ended}
use Rattle.lease_table.specs.Kept.{AreKept, leases_of}
use Rattle.lease_table.proofs.changes.forget_ended.Given as goal

abbrev pub invariant-endings : goal.invariant-endings
invariant-endings l = record {
  kept : AreKept l.leases.entries l.recalls.entries l.ends.entries;
  same : without_ended (leases_of l.leases.entries) l.now ≡ without_ended (leases_of l.fn.leases.entries) l.fn.now;
  len : length l.leases.entries ≤ length l.fn.leases.entries;
  taken : l.leases.taken ≤ l.fn.leases.taken;
  places : l.leases.places ≡ l.fn.leases.places;
  recalls_places : l.recalls.places ≡ l.fn.recalls.places;
  ends_places : l.ends.places ≡ l.fn.ends.places;
  now : l.now ≡ l.fn.now;
}

abbrev pub decreases-endings : goal.decreases-endings
decreases-endings l = length l.leases.entries

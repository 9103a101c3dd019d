use Rattle.std.proofs.Common.{◌≡◌, ◌≤◌, length}
use Rattle.lease_table.specs.Leases.{without_session}
use Rattle.lease_table.specs.Kept.{AreKept, leases_of}
use Rattle.lease_table.proofs.farewell.give_up_all.Given as goal

abbrev pub invariant-passes : goal.invariant-passes
invariant-passes l = record {
  kept : AreKept l.leases.entries l.recalls.entries l.ends.entries;
  same : without_session (leases_of l.leases.entries) l.session ≡ without_session (leases_of l.fn.leases.entries) l.fn.session;
  len : length l.leases.entries ≤ length l.fn.leases.entries;
  taken : l.leases.taken ≤ l.fn.leases.taken;
  places : l.leases.places ≡ l.fn.leases.places;
  recalls_places : l.recalls.places ≡ l.fn.recalls.places;
  ends_places : l.ends.places ≡ l.fn.ends.places;
  session : l.session ≡ l.fn.session;
}

abbrev pub decreases-passes : goal.decreases-passes
decreases-passes l = length l.leases.entries

use Rattle.std.proofs.Common.{◌≡◌, ◌+◌, ◌≤◌, false, length}
use Rattle.std.specs.Prelude.{if◌then◌else◌}
use Rattle.lease_table.specs.Leases.{without_session}
use Rattle.lease_table.specs.Kept.{AreKept, leases_of}
use Rattle.lease_table.proofs.farewell.give_up_found.Given as goal

-- as long as none was found, the pass begins at the first file
abbrev pub invariant-files : goal.invariant-files
invariant-files l = record {
  kept : AreKept l.leases.entries l.recalls.entries l.ends.entries;
  same : without_session (leases_of l.leases.entries) l.session ≡ without_session (leases_of l.fn.leases.entries) l.fn.session;
  start : l.found ≡ false → l.from ≡ 0;
  less : length l.leases.entries + (if l.found then 1 else 0) ≤ length l.fn.leases.entries;
  taken : l.leases.taken ≤ l.fn.leases.taken;
  places : l.leases.places ≡ l.fn.leases.places;
  recalls_places : l.recalls.places ≡ l.fn.recalls.places;
  ends_places : l.ends.places ≡ l.fn.ends.places;
  session : l.session ≡ l.fn.session;
}

abbrev pub decreases-files : goal.decreases-files
decreases-files l = length l.leases.entries

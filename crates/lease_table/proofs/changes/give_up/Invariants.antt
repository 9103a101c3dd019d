use Rattle.std.proofs.Common.{◌≡◌, ◌≤◌, length}
use Rattle.lease_table.specs.Leases.{without_recalled}
use Rattle.lease_table.specs.Kept.{AreKept, leases_of}
use Rattle.lease_table.proofs.changes.give_up.Given as goal

abbrev pub invariant-answers : goal.invariant-answers
invariant-answers l = record {
  kept : AreKept l.leases.entries l.recalls.entries l.ends.entries;
  same : without_recalled (leases_of l.leases.entries) l.session l.xid ≡ without_recalled (leases_of l.fn.leases.entries) l.fn.session l.fn.xid;
  len : length l.leases.entries ≤ length l.fn.leases.entries;
  taken : l.leases.taken ≤ l.fn.leases.taken;
  places : l.leases.places ≡ l.fn.leases.places;
  recalls_places : l.recalls.places ≡ l.fn.recalls.places;
  ends_places : l.ends.places ≡ l.fn.ends.places;
  session : l.session ≡ l.fn.session;
  xid : l.xid ≡ l.fn.xid;
}

abbrev pub decreases-answers : goal.decreases-answers
decreases-answers l = length l.leases.entries

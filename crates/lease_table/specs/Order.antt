-- How leases stand in their list.
use Rattle.std.specs.Prelude.{◌≡◌, List, true, AllPairs}
use Rattle.lease_rules.specs.declared.lease.Lease.{Lease}
use Rattle.lease_table.specs.Leases.{is_before}

abbrev pub ComesBefore : Lease → Lease → Type 0
ComesBefore a b = is_before a b.session b.file ≡ true

-- by file, and by session within a file
abbrev pub AreOrdered : List Lease → Type 0
AreOrdered leases = AllPairs ComesBefore leases

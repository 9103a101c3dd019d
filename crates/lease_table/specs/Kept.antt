-- How the leases are kept: each under its file and its session; and beside them which RECALLs they remember, and when they end.
use Rattle.std.specs.Prelude.{◌≡◌, ℕ, ◌<◌, ◌^◌, List, Option, Some, None, Bool, false, ◌==◌, is_some, length, map, sum_by}
use Rattle.std.specs.BTreeMap.{insert_entry, is_at}
use Rattle.std.specs.List.{All}
use Rattle.std.specs.List.Sorted.{IsStrictlySortedBy}
use Rattle.std.specs.Map.{keys_of, values_of, remove_entry}
use Rattle.std.specs.Ordering.{nat_cmp, ordering_then}
use Rattle.std.specs.declared.cmp.Ordering.{Ordering}
use Rattle.lease_table.specs.Reserved.{at}
use Rattle.lease_rules.specs.declared.lease.LeaseEntry.{LeaseEntry}
use Rattle.lease_rules.specs.declared.lease.Lease.{Lease}
use Rattle.lease_rules.specs.Leases.{is_recall}
pub use Rattle.lease_rules.specs.Leases.{lease_from}

-- ---- keys

abbrev pub by_two : (ℕ × ℕ) → (ℕ × ℕ) → Ordering
by_two x y = ordering_then (nat_cmp x.0 y.0) (nat_cmp x.1 y.1)

abbrev pub by_three : (ℕ × ℕ × ℕ) → (ℕ × ℕ × ℕ) → Ordering
by_three x y = ordering_then (ordering_then (nat_cmp x.0 y.0) (nat_cmp x.1 y.1)) (nat_cmp x.2 y.2)

-- ---- leases, each under its file and its session

abbrev pub Entries : Type 0
Entries = List ((ℕ × ℕ) × LeaseEntry)

-- the list of them, by file, and by session within a file
abbrev pub leases_of : Entries → List Lease
leases_of es = map lease_from es

abbrev pub held_at : Entries → (session file : ℕ) → Option LeaseEntry
held_at es session file = at by_two es (file, session)

-- ---- what stands beside them

abbrev pub Keys : Type 0
Keys = List ((ℕ × ℕ × ℕ) × Unit {0})

abbrev pub is_listed : Keys → (a b c : ℕ) → Bool
is_listed keys a b c = is_some (at by_three keys (a, b, c))

-- the RECALL with this xid asked for the lease
abbrev pub is_recalled : Option LeaseEntry → (xid : ℕ) → Bool
is_recalled None xid = false
is_recalled (Some h) xid = is_recall h.recall xid

-- the lease ends at this reading
abbrev pub is_ending : Option LeaseEntry → (ends : ℕ) → Bool
is_ending None ends = false
is_ending (Some h) ends = h.ends == ends

-- how many RECALLs a lease remembers
abbrev pub marks : Option ℕ → ℕ
marks None = 0
marks (Some x) = 1

abbrev pub FitsKey : ℕ × ℕ → Type 0
FitsKey k = (k.0 < 2 ^ 64) × (k.1 < 2 ^ 32)

-- each RECALL that a lease remembers is listed by session, xid and file, each end by reading, file and session, and no other is
pub record AreKept (es : Entries) (recalls ends : Keys) : Type 0 where
  pub sorted : IsStrictlySortedBy by_two (keys_of es)
  pub fit : All FitsKey (keys_of es)
  pub recalls_sorted : IsStrictlySortedBy by_three (keys_of recalls)
  pub recalled : (session xid file : ℕ) → is_listed recalls session xid file ≡ is_recalled (held_at es session file) xid
  pub few : length recalls ≡ sum_by (λ h. marks h.recall) (values_of es)
  pub ends_sorted : IsStrictlySortedBy by_three (keys_of ends)
  pub ending : (reading file session : ℕ) → is_listed ends reading file session ≡ is_ending (held_at es session file) reading
  pub all : length ends ≡ length es

-- the recalls without the one that a session's lease on a file remembered
abbrev pub unlisted : Keys → (session : ℕ) → Option ℕ → (file : ℕ) → Keys
unlisted keys session None file = keys
unlisted keys session (Some xid) file = remove_entry (is_at (by_three (session, xid, file))) keys

-- the recalls with one that a session's lease on a file is to remember
abbrev pub listed : Keys → (session : ℕ) → Option ℕ → (file : ℕ) → Keys
listed keys session None file = keys
listed keys session (Some xid) file = insert_entry by_three keys (session, xid, file) (record {})

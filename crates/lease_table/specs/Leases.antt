-- Leases (Gray and Cheriton, SOSP 1989). Who has a lease on a file is asked before the file is
-- changed, until the lease ends. A session has one lease on a file at most.
use Rattle.std.specs.Prelude.{ℕ, List, ◌∷◌, ◌++◌, Option, Some, None, Bool, not, ◌&&◌, ◌||◌, ◌==◌, find, filter, map}
use Rattle.std.specs.List.{list_any}
use Rattle.lease_rules.specs.declared.lease.Lease.{Lease}
pub use Rattle.lease_rules.specs.Leases.{is_on, is_before, is_behind, is_others, blocks, is_none, is_wanted_back, is_recall, remembers, without_ended}

-- the leases by file, and by session within a file; and how many more have their place already
pub record Table : Type 0 where
  pub leases : List Lease
  pub room : ℕ

-- ---- all of them

-- the lease of the session on the file
abbrev pub lease_at : List Lease → (session file : ℕ) → Option Lease
lease_at leases session file = find (λ l. is_on l session file) leases

-- a lease among the others, in place of the one that its session has on its file
abbrev pub with_lease : List Lease → Lease → List Lease
with_lease leases new =
    filter (λ l. is_before l new.session new.file) leases ++ new ∷ filter (λ l. is_behind l new.session new.file) leases

-- a new lease, which nobody has asked for
abbrev pub lease_of : (session file ends : ℕ) → Lease
lease_of session file ends = record { session = session; file = file; ends = ends; recall = None }

abbrev pub grant : List Lease → (session file ends : ℕ) → List Lease
grant leases session file ends = with_lease leases (lease_of session file ends)

abbrev pub without_lease : List Lease → (session file : ℕ) → List Lease
without_lease leases session file = filter (λ l. not (is_on l session file)) leases

-- the lease remembers the xid of the RECALL that asks for it, if it is there
abbrev pub mark : List Lease → (xid : ℕ) → Option Lease → List Lease
mark leases xid None = leases
mark leases xid (Some l) = with_lease leases (record l { recall = Some xid })

abbrev pub marked : List Lease → (session file xid : ℕ) → List Lease
marked leases session file xid = mark leases xid (lease_at leases session file)

-- a lease is given up by the answer to the RECALL that it remembers, and by no other
abbrev pub without_recalled : List Lease → (session xid : ℕ) → List Lease
without_recalled leases session xid = filter (λ l. not (remembers l session xid)) leases

-- a session gives all of its leases up
abbrev pub without_session : List Lease → (session : ℕ) → List Lease
without_session leases session = filter (λ l. not (l.session == session)) leases

-- a lease blocks a change of the file that the session asked for
abbrev pub is_blocked : List Lease → (session file now : ℕ) → Bool
is_blocked leases session file now = list_any (λ l. blocks l session file now) leases

-- the sessions whose leases are to be asked for back, where the session asks for a change of the file
abbrev pub others : List Lease → (session file now : ℕ) → List ℕ
others leases session file now = map (λ l. l.session) (filter (λ l. is_wanted_back l session file now) leases)

-- Changes that wait, one queue a file in the order of arrival, and which of them may be made. What a
-- change of the file asks for, its COMMITTMP, REMOVE or RENAME, waits until nobody else's lease says
-- that the file stays as it is (Gray and Cheriton, SOSP 1989).
use Rattle.std.specs.Prelude.{◌≡◌, ℕ, List, [], ◌∷◌, ◌++◌, Option, Some, None, Bool, not, ◌==◌, cond, find, filter, map, sum_by, AllPairs, length, ◌≤◌, ◌<◌, ◌^◌}
use Rattle.std.specs.List.{list_any}
use Rattle.lease_rules.specs.declared.lease.Lease.{Lease}
use Rattle.lease_table.specs.Leases.{is_blocked, others}
pub use Rattle.lease_rules.specs.Changes.{asker_of, asker, is_about, meets, waits_behind}
pub use Rattle.lease_rules.specs.Places.{places_of}
use Rattle.lease_rules.specs.declared.change.PendingChange.{PendingChange}
use Rattle.lease_rules.specs.declared.change.Recall.{Recall}

-- the session is asked for its lease on the file
abbrev pub recall_of : (file session : ℕ) → Recall
recall_of file session = record { session = session; file = file }

-- the recalls that are due where a session asks for a change of the file
abbrev pub recalls_of : List Lease → (session file now : ℕ) → List Recall
recalls_of leases session file now = map (recall_of file) (others leases session file now)

module _ {P : Type 0} where
  -- ---- one change

  -- no lease blocks it
  abbrev pub is_free : List Lease → (now : ℕ) → PendingChange P → Bool
  is_free leases now c = not (is_blocked leases (asker c) c.file now)

  -- the recalls that it asks for when it comes
  abbrev pub recalls_due : List Lease → (now : ℕ) → PendingChange P → List Recall
  recalls_due leases now c = recalls_of leases (asker c) c.file now

  -- ---- those that wait, the one that came first before the others

  -- the changes that none which came earlier meets; those of the first list came before all of the second
  abbrev pub heads_after : List (PendingChange P) → List (PendingChange P) → List (PendingChange P)
  heads_after earlier [] = []
  heads_after earlier (c ∷ cs) =
      let later : List (PendingChange P) = heads_after (earlier ++ c ∷ []) cs in
      cond (list_any (λ e. meets e c) earlier) later (c ∷ later)

  -- the first of each queue
  abbrev pub heads : List (PendingChange P) → List (PendingChange P)
  heads waits = heads_after [] waits

  -- the change that is made next: of the heads that no lease blocks, the one that came first
  abbrev pub ready : List Lease → (now : ℕ) → List (PendingChange P) → Option (PendingChange P)
  ready leases now waits = find (is_free leases now) (heads waits)

  -- the session's change
  abbrev pub change_of : List (PendingChange P) → (session : ℕ) → Option (PendingChange P)
  change_of waits session = find (λ c. c.session == session) waits

  abbrev pub has_wait : List (PendingChange P) → (session : ℕ) → Bool
  has_wait waits session = list_any (λ c. c.session == session) waits

  abbrev pub waits_on : List (PendingChange P) → (file : ℕ) → Bool
  waits_on waits file = list_any (λ c. is_about c file) waits

  abbrev pub without : List (PendingChange P) → (session : ℕ) → List (PendingChange P)
  without waits session = filter (λ c. not (c.session == session)) waits

  -- those that wait on after the change is made
  abbrev pub without_made : List (PendingChange P) → Option (PendingChange P) → List (PendingChange P)
  without_made waits None = waits
  without_made waits (Some c) = without waits c.session

  -- how many entries of the journal, and bytes of the tree, they will make
  abbrev pub entries_of : List (PendingChange P) → ℕ
  entries_of waits = sum_by (λ c. c.entries) waits

  abbrev pub bytes_of : List (PendingChange P) → ℕ
  bytes_of waits = sum_by (λ c. c.bytes) waits

-- what a server holds of leases and of pending changes
pub record Waiting (P : Type 0) : Type 0 where
  pub leases : List Lease
  -- how many leases more may be granted for certain, beside the one that each change has its place for
  pub spare : ℕ
  -- how many changes more may wait for certain
  pub room : ℕ
  -- in the order of arrival
  pub waits : List (PendingChange P)

module _ {P : Type 0} where
  abbrev pub AreOthers : PendingChange P → PendingChange P → Type 0
  AreOthers c d = c.session ≡ d.session → ⊥

  -- no session has two pending changes, each has a place for its lease, and their sizes are numbers of 64 bits
  pub record AreBounded (waits : List (PendingChange P)) (room : ℕ) : Type 0 where
    pub apart : AllPairs AreOthers waits
    pub places : length waits ≤ room
    pub entries : entries_of waits < 2 ^ 64
    pub bytes : bytes_of waits < 2 ^ 64

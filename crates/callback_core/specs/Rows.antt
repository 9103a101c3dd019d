-- Which change waits for what, and which is next, at worked lists.
use Rattle.std.specs.Prelude.{◌≡◌, ℕ, List, [], ◌∷◌, Option, Some, None, true, false, refl}
use Rattle.lease_rules.specs.declared.lease.Lease.{Lease}
use Rattle.lease_table.specs.Leases.{grant, marked, without_recalled}
use Rattle.lease_rules.specs.declared.change.Kind.{Kind}
use Rattle.lease_rules.specs.declared.change.Kind.TheVariants.{Commit, Remove, Rename}
use Rattle.lease_rules.specs.declared.change.PendingChange.{PendingChange}
use Rattle.callback_core.specs.Waits.{recall_of, recalls_due, heads, ready, change_of, has_wait, waits_on, without, without_made, entries_of, bytes_of}

-- a change that a session asked for, of what else it takes no more than a number
abbrev change : Kind → (session file : ℕ) → PendingChange ℕ
change kind session file = record { session = session; xid = 5; file = file; kind = kind; entries = 1; bytes = 10; what = 0 }

abbrev commit : (session file : ℕ) → PendingChange ℕ
commit = change Commit

abbrev lease : (session file ends : ℕ) → Option ℕ → Lease
lease session file ends recall = record { session = session; file = file; ends = ends; recall = recall }

-- sessions 1 and 3 have leases on file 2
abbrev leases : List Lease
leases = lease 1 2 1000 None ∷ lease 3 2 1500 None ∷ []

-- ---- what is due when a change comes

others_are_asked : recalls_due leases 0 (commit 4 2) ≡ recall_of 2 1 ∷ recall_of 2 3 ∷ []
others_are_asked = refl

-- one's own lease isn't recalled by one's COMMITTMP
own_is_not : recalls_due leases 0 (commit 1 2) ≡ recall_of 2 3 ∷ []
own_is_not = refl

-- but by one's REMOVE and RENAME
own_by_remove : recalls_due leases 0 (change Remove 1 2) ≡ recall_of 2 1 ∷ recall_of 2 3 ∷ []
own_by_remove = refl

own_by_rename : recalls_due leases 0 (change Rename 1 2) ≡ recall_of 2 1 ∷ recall_of 2 3 ∷ []
own_by_rename = refl

-- a lease that was recalled isn't recalled again
not_twice : recalls_due (marked leases 1 2 7) 0 (commit 4 2) ≡ recall_of 2 3 ∷ []
not_twice = refl

-- nor one that has ended
ended : recalls_due leases 1000 (commit 4 2) ≡ recall_of 2 3 ∷ []
ended = refl

-- ---- what is next

nothing_waits : ready {P = ℕ} leases 0 [] ≡ None
nothing_waits = refl

-- a lease blocks until it ends, recalled or not, and whether its session is hung or not
blocked : ready (marked leases 3 2 7) 1499 (commit 4 2 ∷ []) ≡ None
blocked = refl

-- one that ends just now doesn't
ends_now : ready leases 1500 (commit 4 2 ∷ []) ≡ Some (commit 4 2)
ends_now = refl

given_up : ready (without_recalled (marked (lease 1 2 1000 None ∷ []) 1 2 7) 1 7) 0 (commit 4 2 ∷ []) ≡ Some (commit 4 2)
given_up = refl

-- an answer that comes late, after the lease was granted anew, doesn't unblock it
late_answer : ready (without_recalled (grant (marked (lease 1 2 1000 None ∷ []) 1 2 7) 1 2 2000) 1 7) 1000 (commit 4 2 ∷ []) ≡ None
late_answer = refl

-- one's own lease doesn't block one's COMMITTMP, but one's REMOVE and RENAME
own_commit : ready (lease 4 2 1000 None ∷ []) 0 (commit 4 2 ∷ []) ≡ Some (commit 4 2)
own_commit = refl

own_remove : ready (lease 4 2 1000 None ∷ []) 0 (change Remove 4 2 ∷ []) ≡ None
own_remove = refl

own_rename : ready (lease 4 2 1000 None ∷ []) 0 (change Rename 4 2 ∷ []) ≡ None
own_rename = refl

-- the first of each file
first_of_each : heads (commit 4 2 ∷ commit 5 3 ∷ commit 6 2 ∷ commit 7 3 ∷ commit 8 9 ∷ []) ≡ commit 4 2 ∷ commit 5 3 ∷ commit 8 9 ∷ []
first_of_each = refl

-- The second change of a file waits for the first, though nothing blocks it itself.
second_waits : ready (lease 6 2 1000 None ∷ []) 0 (commit 4 2 ∷ commit 6 2 ∷ []) ≡ None
second_waits = refl

-- by arrival over the files: the first of another file is made while the first of all is blocked
another_file : ready leases 0 (commit 4 2 ∷ commit 5 3 ∷ commit 6 9 ∷ []) ≡ Some (commit 5 3)
another_file = refl

by_arrival : ready [] 0 (commit 6 9 ∷ commit 4 2 ∷ commit 5 3 ∷ []) ≡ Some (commit 6 9)
by_arrival = refl

-- then the second is the first
then_second : ready [] 0 (without_made (commit 4 2 ∷ commit 6 2 ∷ []) (ready [] 0 (commit 4 2 ∷ commit 6 2 ∷ []))) ≡ Some (commit 6 2)
then_second = refl

nothing_made : without_made (commit 4 2 ∷ []) (ready leases 0 (commit 4 2 ∷ [])) ≡ commit 4 2 ∷ []
nothing_made = refl

-- ---- a session, and a file

its_change : change_of (commit 4 2 ∷ commit 5 3 ∷ []) 5 ≡ Some (commit 5 3)
its_change = refl

no_change : change_of (commit 4 2 ∷ commit 5 3 ∷ []) 6 ≡ None
no_change = refl

has_one : has_wait (commit 4 2 ∷ commit 5 3 ∷ []) 4 ≡ true
has_one = refl

has_none : has_wait (commit 4 2 ∷ commit 5 3 ∷ []) 6 ≡ false
has_none = refl

of_the_file : waits_on (commit 4 2 ∷ commit 5 3 ∷ []) 3 ≡ true
of_the_file = refl

of_no_file : waits_on (commit 4 2 ∷ commit 5 3 ∷ []) 4 ≡ false
of_no_file = refl

-- a session that is hung takes its change with it
hung : without (commit 4 2 ∷ commit 5 3 ∷ commit 6 2 ∷ []) 4 ≡ commit 5 3 ∷ commit 6 2 ∷ []
hung = refl

-- and the next of the file is its first then
next_after_hang : ready [] 0 (without (commit 4 2 ∷ commit 6 2 ∷ []) 4) ≡ Some (commit 6 2)
next_after_hang = refl

-- ---- sizes

entries : entries_of (commit 4 2 ∷ change Rename 5 3 ∷ []) ≡ 2
entries = refl

bytes : bytes_of (commit 4 2 ∷ commit 5 3 ∷ []) ≡ 20
bytes = refl

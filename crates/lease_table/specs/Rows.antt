-- What the calls do, at worked lists of leases.
use Rattle.std.specs.Prelude.{◌≡◌, ℕ, List, [], ◌∷◌, Option, Some, None, true, false, refl}
use Rattle.lease_rules.specs.declared.lease.Lease.{Lease}
use Rattle.lease_table.specs.Leases.{lease_at, grant, without_lease, marked, without_recalled, without_ended, without_session, is_blocked, others}

abbrev at : (session file ends : ℕ) → Option ℕ → Lease
at session file ends recall = record { session = session; file = file; ends = ends; recall = recall }

-- two sessions have leases on file 2, and one of them on file 3; the second of file 2 was asked for by RECALL 7
abbrev some : List Lease
some = at 1 2 1000 None ∷ at 3 2 1500 (Some 7) ∷ at 1 3 900 None ∷ []

-- ---- grants

first_grant : grant [] 1 2 1000 ≡ at 1 2 1000 None ∷ []
first_grant = refl

-- by file, and by session within a file
in_order : grant some 2 2 1700 ≡ at 1 2 1000 None ∷ at 2 2 1700 None ∷ at 3 2 1500 (Some 7) ∷ at 1 3 900 None ∷ []
in_order = refl

last_of_its_file : grant some 4 2 1700 ≡ at 1 2 1000 None ∷ at 3 2 1500 (Some 7) ∷ at 4 2 1700 None ∷ at 1 3 900 None ∷ []
last_of_its_file = refl

last_file : grant some 1 9 1700 ≡ at 1 2 1000 None ∷ at 3 2 1500 (Some 7) ∷ at 1 3 900 None ∷ at 1 9 1700 None ∷ []
last_file = refl

-- in place of the one that the session has, and nobody has asked for it
in_place : grant some 3 2 1700 ≡ at 1 2 1000 None ∷ at 3 2 1700 None ∷ at 1 3 900 None ∷ []
in_place = refl

-- a new lease may end before the old one would have, where the term is shorter
shorter : grant some 1 2 500 ≡ at 1 2 500 None ∷ at 3 2 1500 (Some 7) ∷ at 1 3 900 None ∷ []
shorter = refl

found : lease_at some 3 2 ≡ Some (at 3 2 1500 (Some 7))
found = refl

not_found : lease_at some 3 3 ≡ None
not_found = refl

-- ---- one is dropped

dropped : without_lease some 1 2 ≡ at 3 2 1500 (Some 7) ∷ at 1 3 900 None ∷ []
dropped = refl

nothing_dropped : without_lease some 2 2 ≡ some
nothing_dropped = refl

-- ---- recalls

remembers : marked some 1 2 8 ≡ at 1 2 1000 (Some 8) ∷ at 3 2 1500 (Some 7) ∷ at 1 3 900 None ∷ []
remembers = refl

remembers_the_last : marked some 3 2 8 ≡ at 1 2 1000 None ∷ at 3 2 1500 (Some 8) ∷ at 1 3 900 None ∷ []
remembers_the_last = refl

no_lease_to_mark : marked some 2 2 8 ≡ some
no_lease_to_mark = refl

answered : without_recalled some 3 7 ≡ at 1 2 1000 None ∷ at 1 3 900 None ∷ []
answered = refl

-- the xids of another session are others
another_session : without_recalled some 1 7 ≡ some
another_session = refl

another_xid : without_recalled some 3 8 ≡ some
another_xid = refl

-- an answer that comes late, after the lease was granted anew, removes nothing
late_answer : without_recalled (grant some 3 2 1700) 3 7 ≡ at 1 2 1000 None ∷ at 3 2 1700 None ∷ at 1 3 900 None ∷ []
late_answer = refl

-- nor does the answer to an earlier RECALL of a lease that was recalled again
earlier_answer : without_recalled (marked (grant some 3 2 1700) 3 2 8) 3 7 ≡ at 1 2 1000 None ∷ at 3 2 1700 (Some 8) ∷ at 1 3 900 None ∷ []
earlier_answer = refl

-- ---- what blocks a change

-- a lease blocks though it was recalled, until it ends
blocked : is_blocked some 1 2 1499 ≡ true
blocked = refl

-- one that ends just now doesn't
ends_now : is_blocked some 1 2 1500 ≡ false
ends_now = refl

-- one's own lease doesn't block one's COMMITTMP
own : is_blocked (at 1 2 1000 None ∷ []) 1 2 0 ≡ false
own = refl

-- it does block one's REMOVE, which is asked for as by nobody
own_remove : is_blocked (at 1 2 1000 None ∷ []) 0 2 0 ≡ true
own_remove = refl

another_file : is_blocked some 3 3 899 ≡ true
another_file = refl

no_lease_on_it : is_blocked some 3 4 0 ≡ false
no_lease_on_it = refl

-- ---- whom to ask

-- others that were not asked yet
to_ask : others some 2 2 0 ≡ 1 ∷ []
to_ask = refl

own_not_asked : others some 1 2 0 ≡ []
own_not_asked = refl

own_asked_for_a_remove : others some 0 2 0 ≡ 1 ∷ []
own_asked_for_a_remove = refl

in_their_order : others (grant (grant some 2 2 1700) 3 2 1700) 0 2 0 ≡ 1 ∷ 2 ∷ 3 ∷ []
in_their_order = refl

ended_not_asked : others some 2 2 1000 ≡ []
ended_not_asked = refl

-- ---- leases that have ended

forgotten : without_ended some 1000 ≡ at 3 2 1500 (Some 7) ∷ []
forgotten = refl

none_forgotten : without_ended some 899 ≡ some
none_forgotten = refl

ends_just_now : without_ended some 900 ≡ at 1 2 1000 None ∷ at 3 2 1500 (Some 7) ∷ []
ends_just_now = refl

-- ---- a session gives all of its leases up

-- on each file, those of others stay, and it doesn't matter what was asked for
all_given_up : without_session some 1 ≡ at 3 2 1500 (Some 7) ∷ []
all_given_up = refl

asked_for_given_up : without_session some 3 ≡ at 1 2 1000 None ∷ at 1 3 900 None ∷ []
asked_for_given_up = refl

none_given_up : without_session some 2 ≡ some
none_given_up = refl

-- What a server asks for on its sessions' connections, at worked lists.
use Rattle.std.specs.Prelude.{◌≡◌, ℕ, List, [], ◌∷◌, Option, Some, None, true, false, refl}
use Rattle.wire.specs.declared.message.Pending.{Pending}
use Rattle.wire.specs.declared.message.Side.TheVariants.{Server}
use Rattle.lease_rules.specs.declared.lease.Lease.{Lease}
use Rattle.lease_table.specs.Leases.{grant, without_recalled}
use Rattle.callback_core.specs.declared.back_calls.Asked.{Asked}
use Rattle.callback_core.specs.Waits.{recall_of}
use Rattle.callback_core.specs.BackCalls.{BackCall, recall_pending, waiting_at, xid_at, asks, answered, hung, spent, all_marked}

abbrev call : (session last : ℕ) → List Pending → BackCall
call session last waits = record { session = session; last = last; waits = waits; spent = false }

abbrev needy : BackCall → BackCall
needy c = record c { spent = true }

abbrev asked : (session file xid : ℕ) → Asked
asked session file xid = record { session = session; file = file; xid = xid }

-- ---- xids

-- the first of each session is 1
first_of_each : asks [] (recall_of 2 1 ∷ recall_of 2 3 ∷ []) ≡ (call 1 1 (recall_pending 1 ∷ []) ∷ call 3 1 (recall_pending 1 ∷ []) ∷ [], asked 1 2 1 ∷ asked 3 2 1 ∷ [])
first_of_each = refl

-- the next is one more; the other sessions' stay
next : asks (call 1 7 [] ∷ call 3 1 (recall_pending 1 ∷ []) ∷ []) (recall_of 2 1 ∷ []) ≡ (call 3 1 (recall_pending 1 ∷ []) ∷ call 1 8 (recall_pending 8 ∷ []) ∷ [], asked 1 2 8 ∷ [])
next = refl

-- two RECALLs of one session have two xids
two_of_one : asks [] (recall_of 2 1 ∷ recall_of 5 1 ∷ []) ≡ (call 1 2 (recall_pending 1 ∷ recall_pending 2 ∷ []) ∷ [], asked 1 2 1 ∷ asked 1 5 2 ∷ [])
two_of_one = refl

-- a session that has drawn all its xids isn't asked, and the others are
all_drawn : asks (call 1 4294967295 [] ∷ []) (recall_of 2 1 ∷ recall_of 2 3 ∷ []) ≡ (needy (call 1 4294967295 []) ∷ call 3 1 (recall_pending 1 ∷ []) ∷ [], asked 3 2 1 ∷ [])
all_drawn = refl

one_is_spent : spent (call 3 1 [] ∷ needy (call 1 4294967295 []) ∷ []) ≡ Some 1
one_is_spent = refl

-- as long as it isn't to be asked once more, the last xid may be drawn
none_is_spent : spent (asks (call 1 4294967294 [] ∷ []) (recall_of 2 1 ∷ [])).0 ≡ None
none_is_spent = refl

the_last_xid : asks (call 1 4294967294 [] ∷ []) (recall_of 2 1 ∷ []) ≡ (call 1 4294967295 (recall_pending 4294967295 ∷ []) ∷ [], asked 1 2 4294967295 ∷ [])
the_last_xid = refl

-- ---- answers

-- whatever it says, an answer uses the xid up, on its own session
used_up : answered (call 1 2 (recall_pending 1 ∷ recall_pending 2 ∷ []) ∷ call 3 1 (recall_pending 1 ∷ []) ∷ []) 1 1 ≡ call 1 2 (recall_pending 2 ∷ []) ∷ call 3 1 (recall_pending 1 ∷ []) ∷ []
used_up = refl

-- and none is drawn again for that
not_again : xid_at (answered (call 1 2 (recall_pending 2 ∷ []) ∷ []) 1 2) 1 ≡ Some 3
not_again = refl

-- an answer to what wasn't asked changes nothing
never_asked : answered (call 1 2 (recall_pending 2 ∷ []) ∷ []) 3 2 ≡ call 1 2 (recall_pending 2 ∷ []) ∷ []
never_asked = refl

-- ---- what is waited for

waits_for : waiting_at (call 1 2 (recall_pending 2 ∷ []) ∷ []) 1 ≡ record { side = Server; lbfs = 1; calls = recall_pending 2 ∷ [] }
waits_for = refl

for_nothing : waiting_at (call 1 2 (recall_pending 2 ∷ []) ∷ []) 3 ≡ record { side = Server; lbfs = 1; calls = [] }
for_nothing = refl

-- a session that is hung is waited for no longer
of_the_hung : hung (call 1 2 (recall_pending 2 ∷ []) ∷ call 3 1 [] ∷ []) 1 ≡ call 3 1 [] ∷ []
of_the_hung = refl

-- ---- leases

-- each remembers its own RECALL
abbrev leases : List Lease
leases = grant (grant [] 1 2 1000) 3 2 1500

remembered : all_marked leases (asked 1 2 8 ∷ asked 3 2 1 ∷ []) ≡ record { session = 1; file = 2; ends = 1000; recall = Some 8 } ∷ record { session = 3; file = 2; ends = 1500; recall = Some 1 } ∷ []
remembered = refl

-- and is given up by its answer alone
given_up : without_recalled (all_marked leases (asked 1 2 8 ∷ asked 3 2 1 ∷ [])) 1 8 ≡ record { session = 3; file = 2; ends = 1500; recall = Some 1 } ∷ []
given_up = refl

-- granted anew, a lease isn't given up by the answer to the old RECALL
late_answer : without_recalled (grant (all_marked leases (asked 1 2 8 ∷ [])) 1 2 2000) 1 8 ≡ grant (grant [] 1 2 2000) 3 2 1500
late_answer = refl

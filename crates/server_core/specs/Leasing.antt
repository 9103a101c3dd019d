-- The leases that a server grants (Gray and Cheriton, SOSP 1989): for how long, to whom, and which change may be made while they stand.
use Rattle.std.specs.Prelude.{ℕ, ◌+◌, List, [], Option, Some, None, Bool, true, false, ◌==◌, max, nat_le, if◌then◌else◌}
use Rattle.lease_rules.specs.Leases.{term_for, without_ended}
use Rattle.lease_rules.specs.declared.lease.Lease.{Lease}
use Rattle.lease_rules.specs.declared.change.PendingChange.{PendingChange}
use Rattle.lease_rules.specs.declared.change.Recall.{Recall}
use Rattle.lease_table.specs.Leases.{grant, without_recalled}
use Rattle.callback_core.specs.BackCalls.{BackCall, asks, answered, hung, all_marked}
use Rattle.callback_core.specs.Waits.{ready, waits_on}
use Rattle.callback_core.specs.declared.back_calls.Asked.{Asked}

pub record Leasing : Type 0 where
  -- for how long a lease is granted, in milliseconds; 0 where none is
  pub term : ℕ
  -- the last moment used, in milliseconds of the server's clock
  pub moment : ℕ
  -- the moment before which no change is made
  pub quiet : ℕ
  pub leases : List Lease
  -- what was asked for on the connections of sessions that stand
  pub calls : List BackCall

-- no lease stands, and none is granted
abbrev pub unleased : (moment : ℕ) → Leasing
unleased moment = record { term = 0; moment = moment; quiet = 0; leases = []; calls = [] }

-- the moment of a reading is the greater of the reading and the last moment used
abbrev pub later : Leasing → (now : ℕ) → Leasing
later g now = record g { moment = max g.moment now }

-- ---- granted

-- A lease of a session on a file, from the moment on, in place of its former one; none where the term is 0. Those that have ended are forgotten.
abbrev pub with_granted : List Lease → (moment session file term : ℕ) → List Lease
with_granted leases moment session file term = if term == 0 then leases else grant (without_ended leases moment) session file (moment + term)

abbrev pub granted : Leasing → (session file term : ℕ) → Leasing
granted g session file term = record g { leases = with_granted g.leases g.moment session file term }

-- the same on a file, if there is one
abbrev pub with_granted_on : List Lease → (moment session : ℕ) → (file : Option ℕ) → (term : ℕ) → List Lease
with_granted_on leases moment session None term = leases
with_granted_on leases moment session (Some id) term = with_granted leases moment session id term

-- ---- asked for back

-- sessions are asked for their leases, and each of these remembers the xid of its RECALL
abbrev pub asking : Leasing → List Recall → List BackCall × List Asked
asking g recalls = asks g.calls recalls

abbrev pub recalled : Leasing → List Recall → Leasing
recalled g recalls = record g { leases = all_marked g.leases (asking g recalls).1; calls = (asking g recalls).0 }

-- ---- given up

abbrev pub given_up : List Lease → (session xid : ℕ) → (done : Bool) → List Lease
given_up leases session xid true = without_recalled leases session xid
given_up leases session xid false = leases

-- An answer to what the session was asked for uses its xid up. Where it says that a RECALL was done, the lease that remembers this xid is no more.
abbrev pub heard : Leasing → (session xid : ℕ) → (done : Bool) → Leasing
heard g session xid done = record g { leases = given_up g.leases session xid done; calls = answered g.calls session xid }

-- a session whose connection is lost is asked for nothing; its leases stay until they end
abbrev pub unheard : Leasing → (session : ℕ) → Leasing
unheard g session = record g { calls = hung g.calls session }

module _ {P : Type 0} where
  -- the term of a lease on a file: 0 while a change of the file waits
  abbrev pub term_of : (term : ℕ) → List (PendingChange P) → (file : ℕ) → ℕ
  term_of term waiting file = term_for (waits_on waiting file) term

  -- the same, if there is a file
  abbrev pub term_if : (term : ℕ) → List (PendingChange P) → (file : Option ℕ) → ℕ
  term_if term waiting None = 0
  term_if term waiting (Some id) = term_of term waiting id

  -- ---- made

  -- the change that is made at this moment: of the first of each file, the one that came first of those that no lease blocks
  abbrev pub ready_at : Leasing → (moment : ℕ) → List (PendingChange P) → Option (PendingChange P)
  ready_at g moment waiting = if nat_le g.quiet moment then ready g.leases moment waiting else None

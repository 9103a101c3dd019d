-- The rules on a single lease (Gray and Cheriton, SOSP 1989). Who has a lease on a file is asked before the file is
-- changed, until the lease ends.
use Rattle.std.specs.Prelude.{ℕ, ◌+◌, ◌-◌, List, filter, Option, Some, None, Bool, true, false, not, ◌&&◌, ◌||◌, ◌==◌, nat_lt, if◌then◌else◌}
use Rattle.lease_rules.specs.declared.lease.LeaseEntry.{LeaseEntry}
use Rattle.lease_rules.specs.declared.lease.Lease.{Lease}

-- whose it is, and on which file
abbrev pub is_on : Lease → (session file : ℕ) → Bool
is_on l session file = l.file == file && l.session == session

-- it stands before that of the session on the file
abbrev pub is_before : Lease → (session file : ℕ) → Bool
is_before l session file = nat_lt l.file file || (l.file == file && nat_lt l.session session)

-- it stands behind it
abbrev pub is_behind : Lease → (session file : ℕ) → Bool
is_behind l session file = nat_lt file l.file || (l.file == file && nat_lt session l.session)

-- another's than the session's; session 0 is nobody's, and so every lease is another's than its
abbrev pub is_others : Lease → (session : ℕ) → Bool
is_others l session = session == 0 || not (l.session == session)

-- a change of the file that this session asked for can't be made before it is given up
abbrev pub blocks : Lease → (session file now : ℕ) → Bool
blocks l session file now = l.file == file && (is_others l session && nat_lt now l.ends)

abbrev pub is_none : Option ℕ → Bool
is_none None = true
is_none (Some x) = false

-- it is to be asked for back
abbrev pub is_wanted_back : Lease → (session file now : ℕ) → Bool
is_wanted_back l session file now = blocks l session file now && is_none l.recall

abbrev pub is_recall : Option ℕ → (xid : ℕ) → Bool
is_recall None x = false
is_recall (Some y) x = y == x

-- the session was asked for it by the RECALL with this xid
abbrev pub remembers : Lease → (session xid : ℕ) → Bool
remembers l session xid = l.session == session && is_recall l.recall xid

-- ---- for how long

-- None is granted on a file while a change of it waits, which is the term 0.
abbrev pub term_for : (waits : Bool) → (term : ℕ) → ℕ
term_for true term = 0
term_for false term = term

-- The first reading of its own clock at which a client goes no more by a lease. It began at the server when the call had been sent, so the client counts
-- its term from there, and less the drift of the clocks. Where the term isn't above the drift there is none.
abbrev pub note_until : (sent term drift : ℕ) → Option ℕ
note_until sent term drift = if nat_lt drift term then Some (sent + (term - drift)) else None

-- ---- many of them

-- those that have not ended
abbrev pub without_ended : List Lease → (now : ℕ) → List Lease
without_ended leases now = filter (λ l. nat_lt now l.ends) leases

-- ---- how they are kept

-- what is kept under a file and a session, as a lease
abbrev pub lease_from : (ℕ × ℕ) × LeaseEntry → Lease
lease_from e = record { session = e.0.1; file = e.0.0; ends = e.1.ends; recall = e.1.recall }

-- what is asked for by the RECALL with an xid stands under the session, that xid and the file: from the first such place on, to the last
abbrev pub first_recall : (session xid : ℕ) → ℕ × ℕ × ℕ
first_recall session xid = (session, xid, 0)

abbrev pub last_recall : (session xid : ℕ) → ℕ × ℕ × ℕ
last_recall session xid = (session, xid, 18446744073709551615)

-- What a server asks for on its sessions' connections, by calls of its own. Each has an xid of the session, and waits until it is answered, or the session is
-- hung.
use Rattle.std.specs.Prelude.{ℕ, List, [], ◌∷◌, ◌++◌, Option, Some, None, Bool, true, false, not, ◌==◌, filter, find, map, unwrap_or, if◌then◌else◌}
use Rattle.std.specs.Option.{option_map}
use Rattle.std.specs.List.{list_any}
use Rattle.hash_calls.specs.declared.message.BackProc.TheVariants as back_proc
use Rattle.wire.specs.declared.message.Pending.{Pending}
use Rattle.wire.specs.declared.message.Program.TheVariants as program
use Rattle.wire.specs.declared.message.Side.TheVariants.{Server}
use Rattle.wire.specs.declared.message.Waiting.{Waiting}
use Rattle.lease_rules.specs.Xids.{draw}
use Rattle.lease_rules.specs.declared.lease.Lease.{Lease}
use Rattle.lease_rules.specs.declared.change.Recall.{Recall}
use Rattle.lease_table.specs.Leases.{marked}
use Rattle.callback_core.specs.declared.back_calls.Asked.{Asked}
use Rattle.wire.specs.declared.message.TheConstants.{LBFS_SERVED}

-- a session that was asked for something
pub record BackCall : Type 0 where
  pub session : ℕ
  -- the xid that was drawn last; 0 where none was
  pub last : ℕ
  -- the calls that wait for their answers, the one that came first before the others
  pub waits : List Pending
  -- it was to be asked once more, and had no xid left
  pub spent : Bool

-- ---- one session

-- it was asked for nothing yet
abbrev pub unasked : (session : ℕ) → BackCall
unasked session = record { session = session; last = 0; waits = []; spent = false }

-- a RECALL waits
abbrev pub recall_pending : (xid : ℕ) → Pending
recall_pending xid = record { xid = xid; program = program.Back back_proc.Recall }

-- one RECALL more
abbrev pub with_recall : BackCall → (xid : ℕ) → BackCall
with_recall c xid = record c { last = xid; waits = c.waits ++ recall_pending xid ∷ [] }

-- the same, if there is an xid for it
abbrev pub recalled_if : BackCall → (xid : Option ℕ) → BackCall
recalled_if c None = record c { spent = true }
recalled_if c (Some xid) = with_recall c xid

-- ---- all of them

abbrev pub is_at : (session : ℕ) → BackCall → Bool
is_at session c = c.session == session

-- a session's; one that stands in none of them was asked for nothing yet
abbrev pub call_at : List BackCall → (session : ℕ) → BackCall
call_at calls session = unwrap_or (find (is_at session) calls) (unasked session)

-- what may come on a session's connection: the calls that are served, and answers to those that wait
abbrev pub waiting_at : List BackCall → (session : ℕ) → Waiting
waiting_at calls session = record { side = Server; lbfs = LBFS_SERVED; calls = (call_at calls session).waits }

-- the xid of the session's next call, if it has one left
abbrev pub xid_at : List BackCall → (session : ℕ) → Option ℕ
xid_at calls session = draw (call_at calls session).last

-- The session is hung: nothing of it is waited for.
abbrev pub hung : List BackCall → (session : ℕ) → List BackCall
hung calls session = filter (λ c. not (is_at session c)) calls

-- a session's in place of what stood there, behind the others
abbrev pub with_call : List BackCall → (session : ℕ) → BackCall → List BackCall
with_call calls session c = hung calls session ++ c ∷ []

-- a session is asked for a lease, if there is an xid for it
abbrev pub asks_if : List BackCall → (session : ℕ) → (xid : Option ℕ) → List BackCall
asks_if calls session xid = with_call calls session (recalled_if (call_at calls session) xid)

abbrev pub asked_with : Recall → Option ℕ → List Asked
asked_with r None = []
asked_with r (Some xid) = record { session = r.session; file = r.file; xid = xid } ∷ []

-- Sessions are asked for leases, one after the other. One that has no xid left isn't asked.
abbrev pub asks : List BackCall → List Recall → List BackCall × List Asked
asks calls [] = (calls, [])
asks calls (r ∷ rs) =
    let xid : Option ℕ = xid_at calls r.session in
    let later : List BackCall × List Asked = asks (asks_if calls r.session xid) rs in
    (later.0, asked_with r xid ++ later.1)

-- An answer to the call with the xid came. It is waited for no longer.
abbrev pub answered_by : (session xid : ℕ) → BackCall → BackCall
answered_by session xid c = if is_at session c then record c { waits = filter (λ p. not (p.xid == xid)) c.waits } else c

abbrev pub answered : List BackCall → (session xid : ℕ) → List BackCall
answered calls session xid = map (answered_by session xid) calls

abbrev pub is_spent : BackCall → Bool
is_spent c = c.spent

-- a session that was to be asked for more than it has xids, if there is one
abbrev pub spent : List BackCall → Option ℕ
spent calls = option_map (λ c. c.session) (find is_spent calls)

-- ---- the leases that are asked for

-- each remembers the xid of the RECALL that asks for it
abbrev pub all_marked : List Lease → List Asked → List Lease
all_marked leases [] = leases
all_marked leases (a ∷ rest) = all_marked (marked leases a.session a.file a.xid) rest

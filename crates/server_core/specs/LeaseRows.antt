-- Worked sessions at a server that grants leases for 1,000 ms.
use Rattle.std.specs.Prelude.{◌≡◌, ℕ, List, [], ◌∷◌, ◌++◌, Option, Some, None, true, false, refl, codes}
use Rattle.xdr_codec.specs.Handle.{handle_bytes}
use Rattle.xdr_codec.specs.declared.answer.Answer.TheVariants.{Done, Failed}
use Rattle.xdr_codec.specs.declared.status.Status.TheVariants as status
use Rattle.hash_calls.specs.declared.message.Back.TheVariants as back
use Rattle.hash_calls.specs.declared.message.Lb.{Lb}
use Rattle.hash_calls.specs.declared.message.Lb.TheVariants as lb
use Rattle.nfs3_calls.specs.declared.message.Nfs.TheVariants as nfs
use Rattle.wire.specs.declared.message.Body.TheVariants as body
use Rattle.wire.specs.declared.message.Message.TheVariants as message
use Rattle.wire.specs.declared.message.RpcRefusal.TheVariants as refusal
use Rattle.lease_rules.specs.declared.lease.Lease.{Lease}
use Rattle.callback_core.specs.BackCalls.{BackCall, recall_pending}
use Rattle.chunk_calls.specs.Answers.{attr_of}
use Rattle.tree_nodes.specs.declared.node.Body.TheVariants.{Directory, File as Content}
use Rattle.server_rules.specs.declared.told.Told.TheVariants as told
use Rattle.server_core.specs.declared.event.Event.{Event}
use Rattle.server_core.specs.declared.event.Event.TheVariants as event
use Rattle.server_core.specs.declared.event.Sent.{Sent}
use Rattle.server_core.specs.declared.event.ServerStep.{ServerStep}
use Rattle.server_core.specs.Leasing.{unleased}
use Rattle.server_core.specs.Steps.{sends, to}
use Rattle.server_core.specs.State.{State, empty, with_term}
use Rattle.server_core.specs.Step.{server_step, server_step_under, opens_with, gives_up}

abbrev after : State → List Event → State
after s [] = s
after s (e ∷ es) = after (server_step s e).0 es

abbrev steps : State → List Event → List ServerStep
steps s [] = []
steps s (e ∷ es) = (server_step s e).1 ∷ steps (server_step s e).0 es

-- file 2 is "abc", file 3 has nothing in it, 4 is a directory; sessions 1 and 2 stand
abbrev tree : State
tree = after (with_term (opens_with (opens_with (opens_with empty 1 (codes "a") (Content (codes "abc"))) 1 (codes "b") (Content [])) 1 (codes "d") Directory) 1000) (event.Connect ∷ event.Connect ∷ [])

-- ---- what comes

abbrev calls : (session xid now : ℕ) → Lb → Event
calls session xid now b = event.Got session (message.Call xid (body.Lb b)) now

abbrev leases_at : (session file now : ℕ) → Event
leases_at session file now = calls session 1 now (lb.GetLease (record { lbfs = 1; handle = handle_bytes file }))

-- a session gives a file no content; the last of these calls has the xid 3
abbrev commits : (session file now : ℕ) → List Event
commits session file now = calls session 2 now (lb.MkTmpFile (record { lbfs = 1; fd = 1; handle = handle_bytes file })) ∷ calls session 3 now (lb.CommitTmp (record { lbfs = 1; fd = 1; handle = handle_bytes file; size = 0; base = None })) ∷ []

abbrev removes : (session now : ℕ) → List ℕ → Event
removes session now name = event.Got session (message.Call 3 (body.Nfs (nfs.Remove (record { dir = handle_bytes 1; name = name })))) now

-- a RECALL is done
abbrev recalls_done : (session xid now : ℕ) → Event
recalls_done session xid now = event.Got session (message.Answer xid (body.Back back.RecallAnswer)) now

-- ---- what is told

abbrev answers : (session xid : ℕ) → Lb → ServerStep
answers session xid b = to session (message.Answer xid (body.Lb b))

abbrev leased : (session version term : ℕ) → ServerStep
leased session version term = answers session 1 (lb.GetLeaseAnswer (Done (record { attr = attr_of (record { id = 2; version = version; content = codes "abc" }); version = version; term = term })))

abbrev made : (session : ℕ) → ServerStep
made session = answers session 2 (lb.MkTmpFileAnswer (Done tt))

abbrev recall : (session xid file : ℕ) → Sent
recall session xid file = record { session = session; message = message.Call xid (body.Back (back.Recall (handle_bytes file))) }

abbrev settled : (session version term : ℕ) → ServerStep
settled session version term = record (answers session 3 (lb.CommitTmpAnswer (Done (record { version = version; term = term })))) { told = told.Settled session 3; entries = 1 }

abbrev not_ready : ServerStep
not_ready = record (sends []) { told = told.NotReady }

abbrev lease : (session file ends : ℕ) → Option ℕ → Lease
lease session file ends xid = record { session = session; file = file; ends = ends; recall = xid }

-- ---- granted

-- from the moment on, for the term, in place of the session's former lease on the file; on no directory, and by no handle of another form
granted : steps tree (leases_at 1 2 0 ∷ leases_at 1 4 0 ∷ []) ≡ (leased 1 1 1000 ∷ answers 1 1 (lb.GetLeaseAnswer (Failed status.IsDir tt)) ∷ [])
granted = refl

granted_leases : (after tree (leases_at 1 2 0 ∷ leases_at 2 2 3 ∷ leases_at 1 2 5 ∷ leases_at 1 4 7 ∷ [])).leasing.leases ≡ lease 1 2 1005 None ∷ lease 2 2 1003 None ∷ []
granted_leases = refl

-- the moment doesn't go back
later_moment : (after tree (leases_at 1 2 9 ∷ leases_at 2 2 3 ∷ [])).leasing.leases ≡ lease 1 2 1009 None ∷ lease 2 2 1009 None ∷ []
later_moment = refl

-- those that have ended are forgotten where one is granted
forgotten : (after tree (leases_at 1 2 0 ∷ leases_at 2 2 1000 ∷ [])).leasing.leases ≡ lease 2 2 2000 None ∷ []
forgotten = refl

-- GETHASH grants one too, whatever it tells
by_hashes : (after tree (calls 1 1 4 (lb.GetHash (record { lbfs = 1; handle = handle_bytes 3; offset = 0; count = 0 })) ∷ [])).leasing.leases ≡ lease 1 3 1004 None ∷ []
by_hashes = refl

-- none is granted while a change of the file waits, and the term 0 is told; on another file one is
while_it_waits : steps (after tree (commits 2 2 0)) (leases_at 1 2 0 ∷ []) ≡ (leased 1 1 0 ∷ [])
while_it_waits = refl

none_while_it_waits : (after tree (commits 2 2 0 ++ leases_at 1 2 0 ∷ leases_at 1 3 0 ∷ [])).leasing.leases ≡ lease 1 3 1000 None ∷ []
none_while_it_waits = refl

-- a server that grants none tells the term 0
none_granted : steps (with_term tree 0) (leases_at 1 2 0 ∷ []) ≡ (leased 1 1 0 ∷ [])
none_granted = refl

none_stands : (after (with_term tree 0) (leases_at 1 2 0 ∷ [])).leasing ≡ unleased 0
none_stands = refl

-- ---- asked for back

-- a change asks for the leases of others on its file when it comes, and each remembers the xid
recalled : steps tree (leases_at 1 2 0 ∷ commits 2 2 5) ≡ (leased 1 1 1000 ∷ made 2 ∷ sends (recall 1 1 2 ∷ []) ∷ [])
recalled = refl

abbrev asked : State
asked = after tree (leases_at 1 2 0 ∷ commits 2 2 5)

recalled_leases : asked.leasing.leases ≡ lease 1 2 1000 (Some 1) ∷ []
recalled_leases = refl

recalled_calls : asked.leasing.calls ≡ record { session = 1; last = 1; waits = recall_pending 1 ∷ []; spent = false } ∷ []
recalled_calls = refl

-- no lease is asked for twice: not by the change that comes next
not_twice : steps asked (event.Connect ∷ commits 3 2 6) ≡ (record (sends []) { told = told.Session 3 } ∷ made 3 ∷ sends [] ∷ [])
not_twice = refl

-- a COMMITTMP is held up by no lease of its own session, and asks for none of it
own_commit : steps tree (leases_at 1 2 0 ∷ commits 1 2 0 ++ event.Settle 0 ∷ []) ≡ (leased 1 1 1000 ∷ made 1 ∷ sends [] ∷ settled 1 2 1000 ∷ [])
own_commit = refl

-- a REMOVE is held up by its own session's, and asks for it
own_remove : steps tree (leases_at 1 2 0 ∷ removes 1 0 (codes "a") ∷ event.Settle 0 ∷ event.Settle 999 ∷ []) ≡ (leased 1 1 1000 ∷ sends (recall 1 1 2 ∷ []) ∷ not_ready ∷ not_ready ∷ [])
own_remove = refl

-- ---- given up

-- the answer to the RECALL that a lease remembers gives it up, and the change is made; its session gets a lease
given_up : steps asked (event.Settle 6 ∷ recalls_done 1 1 7 ∷ event.Settle 8 ∷ []) ≡ (not_ready ∷ sends [] ∷ settled 2 2 1000 ∷ [])
given_up = refl

given_up_state : (after asked (recalls_done 1 1 7 ∷ event.Settle 8 ∷ [])).leasing ≡ record { term = 1000; moment = 8; quiet = 0; leases = lease 2 2 1008 None ∷ []; calls = record { session = 1; last = 1; waits = []; spent = false } ∷ [] }
given_up_state = refl

-- one of another xid, or of another session, gives nothing up
another_xid : (after asked (recalls_done 1 2 7 ∷ recalls_done 2 1 7 ∷ [])).leasing.leases ≡ lease 1 2 1000 (Some 1) ∷ []
another_xid = refl

-- nor does another answer, or a refusal, which uses the xid up
refused : (after asked (event.Got 1 (message.Refuse 1 refusal.ProcUnavail) 7 ∷ [])).leasing ≡ record { term = 1000; moment = 7; quiet = 0; leases = lease 1 2 1000 (Some 1) ∷ []; calls = record { session = 1; last = 1; waits = []; spent = false } ∷ [] }
refused = refl

another_answer : (after asked (event.Got 1 (message.Answer 1 (body.Back back.NullAnswer)) 7 ∷ [])).leasing.leases ≡ lease 1 2 1000 (Some 1) ∷ []
another_answer = refl

-- A late answer gives nothing up: the lease was granted anew since. The next change asks under another xid.
abbrev anew : State
anew = after asked (event.Settle 1000 ∷ leases_at 1 2 1000 ∷ recalls_done 1 1 1001 ∷ [])

late : anew.leasing.leases ≡ lease 1 2 2000 None ∷ lease 2 2 2000 None ∷ []
late = refl

late_then : steps anew (commits 2 2 1002) ≡ (made 2 ∷ sends (recall 1 2 2 ∷ []) ∷ [])
late_then = refl

-- ---- made

-- a lease that nobody gives up holds a change up until it ends, and not longer; until then a settling changes nothing, the moment neither
until_it_ends : steps asked (event.Settle 999 ∷ event.Settle 1000 ∷ []) ≡ (not_ready ∷ settled 2 2 1000 ∷ [])
until_it_ends = refl

not_ready_changes_nothing : (after asked (event.Settle 999 ∷ [])) ≡ asked
not_ready_changes_nothing = refl

-- the first that no lease holds up is made, wherever it stands
abbrev both : State
both = after tree (leases_at 1 2 0 ∷ commits 2 2 5 ++ commits 1 3 6)

first_ready : steps both (event.Settle 7 ∷ event.Settle 8 ∷ event.Settle 1000 ∷ []) ≡ (settled 1 2 1000 ∷ not_ready ∷ settled 2 2 1000 ∷ [])
first_ready = refl

-- a change that is made while another of its file waits is told the term 0, and its session gets no lease
another_waits : steps tree (commits 1 2 0 ++ commits 2 2 0 ++ event.Settle 0 ∷ event.Settle 0 ∷ []) ≡ (made 1 ∷ sends [] ∷ made 2 ∷ sends [] ∷ settled 1 2 0 ∷ settled 2 3 1000 ∷ [])
another_waits = refl

-- what is refused is granted nothing
gone : (after tree (removes 2 0 (codes "a") ∷ commits 1 2 0 ++ event.Settle 0 ∷ event.Settle 0 ∷ [])).leasing.leases ≡ []
gone = refl

failed : (server_step_under (after tree (commits 1 2 0)) true (event.Settle 5)).0.leasing.leases ≡ []
failed = refl

-- ---- a connection that is lost

-- the session's leases stay until they end; it isn't asked for them
hung : steps (after tree (leases_at 1 2 0 ∷ event.Hang 1 ∷ [])) (commits 2 2 5 ++ event.Settle 999 ∷ event.Settle 1000 ∷ []) ≡ (made 2 ∷ sends [] ∷ not_ready ∷ settled 2 2 1000 ∷ [])
hung = refl

-- what it was asked for is waited for no longer
hung_calls : (after asked (event.Hang 1 ∷ [])).leasing ≡ record { term = 1000; moment = 5; quiet = 0; leases = lease 1 2 1000 (Some 1) ∷ []; calls = [] }
hung_calls = refl

-- ---- a session gives all of its leases up

-- on each file; those of others stay
all_given_up : (gives_up (after tree (leases_at 1 2 0 ∷ leases_at 1 3 0 ∷ leases_at 2 2 3 ∷ [])) 1).leasing.leases ≡ lease 2 2 1003 None ∷ []
all_given_up = refl

-- what it was asked for stays, and so does what waits, which none of its leases holds up any more
farewell : (gives_up asked 1).leasing ≡ record { term = 1000; moment = 5; quiet = 0; leases = []; calls = record { session = 1; last = 1; waits = recall_pending 1 ∷ []; spent = false } ∷ [] }
farewell = refl

farewell_then : steps (gives_up asked 1) (event.Settle 6 ∷ []) ≡ (settled 2 2 1000 ∷ [])
farewell_then = refl

-- it need not stand any more
hung_farewell : steps (gives_up (after asked (event.Hang 1 ∷ [])) 1) (event.Settle 6 ∷ []) ≡ (settled 2 2 1000 ∷ [])
hung_farewell = refl

-- an answer to what it was asked for finds no lease
answered_behind : (after (gives_up asked 1) (event.Settle 6 ∷ recalls_done 1 1 7 ∷ [])).leasing.leases ≡ lease 2 2 1006 None ∷ []
answered_behind = refl

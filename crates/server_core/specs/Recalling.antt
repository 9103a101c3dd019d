-- Which leases a server's calls are granted, and how a change comes to wait for those that hold it up.
use Rattle.std.specs.Prelude.{ℕ, List, [], ◌∷◌, ◌++◌, map, filter, Option, Some, None, Result, Ok, Err}
use Rattle.xdr_codec.specs.Handle.{handle_bytes}
use Rattle.xdr_codec.specs.declared.status.Status.{Status}
use Rattle.hash_calls.specs.declared.message.Back.TheVariants as back
use Rattle.hash_calls.specs.declared.message.Lb.{Lb}
use Rattle.hash_calls.specs.declared.message.Lb.TheVariants as lb
use Rattle.wire.specs.declared.message.Body.TheVariants as body
use Rattle.wire.specs.declared.message.Message.TheVariants as message
use Rattle.lease_rules.specs.declared.change.Recall.{Recall}
use Rattle.lease_rules.specs.Changes.{asker}
use Rattle.callback_core.specs.Waits.{recalls_of}
use Rattle.callback_core.specs.declared.back_calls.Asked.{Asked}
use Rattle.tree_reading.specs.Tree.{Tree}
use Rattle.chunk_calls.specs.Answers.{Node, directory, file as a_file, node_of}
use Rattle.server_core.specs.declared.event.Sent.{Sent}
use Rattle.server_core.specs.declared.event.ServerStep.{ServerStep}
use Rattle.server_core.specs.Leasing.{granted, with_granted_on, asking, recalled, term_of, term_if}
use Rattle.server_core.specs.State.{State, FileChange, stands}
use Rattle.server_core.specs.Steps.{sends}

-- ---- what is granted

-- the term of a lease on a file
abbrev pub term_at : State → (file : ℕ) → ℕ
term_at s id = term_of s.leasing.term s.waiting id

-- a session gets a lease on a file, for a term
abbrev pub grants : State → (session file term : ℕ) → State
grants s session id term = record s { leasing = granted s.leasing session id term }

-- the file that a handle names
abbrev pub file_in : Result Node Status → Option ℕ
file_in (Err e) = None
file_in (Ok directory) = None
file_in (Ok (a_file f)) = Some f.id

-- the same, where there is one
abbrev pub term_on : State → (file : Option ℕ) → ℕ
term_on s file = term_if s.leasing.term s.waiting file

abbrev pub grants_on : State → (session : ℕ) → (file : Option ℕ) → State
grants_on s session file = record s { leasing = record s.leasing { leases = with_granted_on s.leasing.leases s.leasing.moment session file (term_on s file) } }

-- the file on which a call is granted a lease, if it names one
abbrev pub leased_file : Tree → Lb → Option ℕ
leased_file t (lb.GetLease z) = file_in (node_of t z.handle)
leased_file t (lb.GetHash r) = file_in (node_of t r.handle)
leased_file t m = None

-- ---- what is asked for back

-- The recalls that a change of a file asks for when it comes: of all leases that hold it up and that no RECALL asked for yet, but of sessions that don't stand
-- any more. No lease of the asker's holds it up; 0 is nobody.
abbrev pub recalls_on : State → (file asker : ℕ) → List Recall
recalls_on s id asker = filter (λ r. stands s r.session) (recalls_of s.leasing.leases asker id s.leasing.moment)

abbrev pub recalls_for : State → FileChange → List Recall
recalls_for s c = recalls_on s c.file (asker c)

-- the RECALL of a lease, under its xid
abbrev pub recall_sent : Asked → Sent
recall_sent a = record { session = a.session; message = message.Call a.xid (body.Back (back.Recall (handle_bytes a.file))) }

-- A change waits from now on, behind the others, and the leases that hold it up are asked for.
abbrev pub comes : State → FileChange → State × ServerStep
comes s c =
    let recalls : List Recall = recalls_for s c in
    (record s { waiting = s.waiting ++ c ∷ []; leasing = recalled s.leasing recalls }, sends (map recall_sent (asking s.leasing recalls).1))

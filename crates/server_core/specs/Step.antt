-- One event of the server.
use Rattle.std.specs.Prelude.{◌≡◌, ◌⊎◌, ℕ, ◌+◌, ◌<◌, ◌^◌, [], ◌∷◌, ◌++◌, List, length, Option, Some, None, IsSome, Result, Bool, true, false, ◌==◌, filter, not}
use Rattle.server_rules.specs.Sessions.{has_place}
use Rattle.lease_table.specs.Leases.{without_session as without_leases}
use Rattle.callback_core.specs.Waits.{without}
use Rattle.xdr_codec.specs.declared.status.Status.{Status}
use Rattle.xdr_codec.specs.declared.answer.Answer.{Answer}
use Rattle.xdr_codec.specs.declared.answer.Answer.TheVariants as answer
use Rattle.hash_calls.specs.declared.call.Committed.{Committed}
use Rattle.hash_calls.specs.declared.call.HashRange.{HashRange}
use Rattle.hash_calls.specs.declared.message.Lb.TheVariants as lb
use Rattle.hash_calls.specs.declared.message.Back.TheVariants as back
use Rattle.nfs3_calls.specs.declared.message.Nfs.TheVariants as nfs
use Rattle.wire.specs.declared.message.Body.{Body}
use Rattle.wire.specs.declared.message.Body.TheVariants as body
use Rattle.wire.specs.declared.message.Message.{Message}
use Rattle.wire.specs.declared.message.Message.TheVariants as message
use Rattle.wire.specs.declared.message.RpcRefusal.TheVariants as refusal
use Rattle.chunk_cut.specs.Chunks.{chunks_of}
use Rattle.chunk_cut.specs.declared.chunk.Chunk.{Chunk}
use Rattle.chunk_index.specs.Index.{Indexed, key_of, place_of, put, cleared}
use Rattle.chunk_index.specs.declared.place.Place.{Place}
use Rattle.temp_files.specs.Temps.{temp_at, without_session, room_fault, piece_fault}
use Rattle.chunk_calls.specs.Entering.{with_told, IsLacking}
use Rattle.chunk_calls.specs.Files.{file_at, chunks_at}
use Rattle.server_core.specs.declared.event.Event.{Event}
use Rattle.server_core.specs.declared.event.Event.TheVariants as event
use Rattle.server_core.specs.declared.event.ServerStep.{ServerStep}
use Rattle.server_rules.specs.declared.told.Told.TheVariants as told
use Rattle.server_core.specs.declared.change.Wanted.{Wanted}
use Rattle.server_core.specs.declared.change.Wanted.TheVariants as wanted
pub use Rattle.server_core.specs.State.{stands}
use Rattle.server_core.specs.State.{State, FileChange, empty, change_of, held}
use Rattle.server_core.specs.Leasing.{heard, unheard}
use Rattle.server_core.specs.Recalling.{file_in, term_at, term_on, grants_on, comes}
use Rattle.tree_nodes.specs.declared.node.Body.{Body as NodeBody}
use Rattle.file_tree.specs.Opening.{opens}
use Rattle.tree_reading.specs.Tree.{Tree}
use Rattle.tree_calls.specs.Waiting.{calls_under, enters, file_of, Takes, gives_content as gives_content}
use Rattle.tree_calls.specs.declared.asked.Done.{Done}
use Rattle.tree_calls.specs.declared.asked.Outcome.{Outcome}
use Rattle.tree_calls.specs.declared.asked.Outcome.TheVariants.{Answered, Waits}
use Rattle.chunk_calls.specs.Answers.{Node, file, node_of, lease_answer, hash_answer, chunks_told, IsFile}
use Rattle.server_core.specs.Answers.{read_answer}
use Rattle.server_core.specs.Asking.{CanWait}
use Rattle.server_core.specs.Closing.{at, has_waiting, entries_by, count_of, makes, writes, names, looked_up, takes_commit, ready_by, settles_under}
use Rattle.server_core.specs.Steps.{sends, to}
use Rattle.chunk_calls.specs.Writing.{cond_fault, bytes_known}

-- ---- a message

abbrev pub says : State → (session xid : ℕ) → Body → State × ServerStep
says s session xid b = (s, to session (message.Answer xid b))

-- what a GETLEASE is told; its session gets the lease
abbrev pub tells_lease : State → (session xid : ℕ) → Result Node Status → State × ServerStep
tells_lease s session xid n = says (grants_on s session (file_in n)) session xid (body.Lb (lb.GetLeaseAnswer (lease_answer (term_on s (file_in n)) n)))

-- what a GETHASH is told; its session gets the lease, and the index the places
abbrev pub tells_hashes : State → (session xid : ℕ) → HashRange → Result Node Status → State × ServerStep
tells_hashes s session xid r n = says (record (grants_on s session (file_in n)) { index = with_told s.index (chunks_told n r) }) session xid (body.Lb (lb.GetHashAnswer (hash_answer (term_on s (file_in n)) n r)))

-- what a call of NFS is answered, and the entries that it makes
abbrev pub does : State → (session xid : ℕ) → Done → State × ServerStep
does s session xid d = (record s { journal = s.journal ++ entries_by session d.first d.second }, record (to session (message.Answer xid (body.Nfs d.answer))) { entries = count_of d.first d.second })

-- What a call of NFS comes to over the tree, which it may have changed. Of a message that is none of its calls nothing comes.
abbrev pub asks : State → (session xid : ℕ) → Option Outcome → State × ServerStep
asks s session xid None = (s, to session (message.Refuse xid refusal.ProcUnavail))
asks s session xid (Some (Answered d)) = does s session xid d
asks s session xid (Some (Waits a)) = comes s (change_of session xid (file_of a) (wanted.Asked a))

-- what waits leaves a call no less room than it needs itself
abbrev pub asks_tree : State → (session xid : ℕ) → Tree × Option Outcome → State × ServerStep
asks_tree s session xid p = asks (record s { tree = p.0 }) session xid p.1

-- What a call of a session does. One of these programs that the server doesn't do yet is refused, as a procedure that it doesn't have
-- (RFC 5531 section 9). fault: whether the store fails, if it is asked.
abbrev pub called_under : State → (fault : Bool) → (session xid : ℕ) → Body → State × ServerStep
called_under s fault session xid (body.Lb (lb.Null z)) = says s session xid (body.Lb lb.NullAnswer)
called_under s fault session xid (body.Lb (lb.GetLease z)) = tells_lease s session xid (node_of s.tree z.handle)
called_under s fault session xid (body.Lb (lb.GetHash r)) = tells_hashes s session xid r (node_of s.tree r.handle)
called_under s fault session xid (body.Lb (lb.MkTmpFile a)) = makes s session xid a.fd (node_of s.tree a.handle)
called_under s fault session xid (body.Lb (lb.TmpWrite a)) = writes s session xid a (temp_at s.temps session a.fd)
called_under s fault session xid (body.Lb (lb.CondWrite a)) = names s session xid a (temp_at s.temps session a.fd)
called_under s fault session xid (body.Lb (lb.CommitTmp a)) = takes_commit s session xid a (temp_at s.temps session a.fd)
called_under s fault session xid (body.Nfs nfs.Null) = says s session xid (body.Nfs nfs.NullAnswer)
called_under s fault session xid (body.Nfs (nfs.Read r)) = says s session xid (body.Nfs (nfs.ReadAnswer (read_answer (node_of s.tree r.handle) r)))
called_under s fault session xid (body.Nfs m) = asks_tree s session xid (calls_under s.tree (held s.waiting) (has_waiting s.waiting session) fault m)
called_under s fault session xid _ = (s, to session (message.Refuse xid refusal.ProcUnavail))

-- whether an answer says that a RECALL was done
abbrev pub is_recalled : Body → Bool
is_recalled (body.Back back.RecallAnswer) = true
is_recalled b = false

-- what was asked for under this xid is answered
abbrev pub hears : State → (session xid : ℕ) → (done : Bool) → State × ServerStep
hears s session xid done = (record s { leasing = heard s.leasing session xid done }, sends [])

-- a call is done, and an unfit one refused; an answer, or a refusal, is to what the server asked for
abbrev pub got_under : State → (fault : Bool) → (session : ℕ) → Message → State × ServerStep
got_under s fault session (message.Call xid b) = called_under s fault session xid b
got_under s fault session (message.Unfit xid why) = (s, to session (message.Refuse xid why))
got_under s fault session (message.Answer xid b) = hears s session xid (is_recalled b)
got_under s fault session (message.Refuse xid why) = hears s session xid false

abbrev pub got_if_under : State → (fault : Bool) → Bool → ℕ → Message → ℕ → State × ServerStep
got_if_under s fault true session m now = got_under (at s now) fault session m
got_if_under s fault false session m now = (s, sends [])

-- ---- a connection

abbrev pub has_room : State → Bool
has_room s = has_place (length s.sessions) s.sessions_made

abbrev pub connect : State → Bool → State × ServerStep
connect s true = (record s { sessions = s.sessions ++ (s.sessions_made + 1) ∷ []; sessions_made = s.sessions_made + 1 }, record { send = []; told = told.Session (s.sessions_made + 1); entries = 0; missed = false })
connect s false = (s, record { send = []; told = told.Full; entries = 0; missed = false })

-- ---- a connection is lost

-- The session's temporary files go, and its change that waits. Its leases stay until they end.
abbrev pub hangs : State → (session : ℕ) → State
hangs s session = record s { sessions = filter (λ k. not (k == session)) s.sessions; temps = without_session s.temps session; waiting = without s.waiting session; leasing = unheard s.leasing session }

abbrev pub hangs_if : State → Bool → (session : ℕ) → State × ServerStep
hangs_if s true session = (hangs s session, sends [])
hangs_if s false session = (s, sends [])

-- ---- any event

-- an event of a session that does not stand changes nothing
abbrev pub server_step_under : State → (fault : Bool) → Event → State × ServerStep
server_step_under s fault event.Connect = connect s (has_room s)
server_step_under s fault (event.Got session m now) = got_if_under s fault (stands s session) session m now
server_step_under s fault (event.Settle now) = settles_under s fault now
server_step_under s fault (event.Hang session) = hangs_if s (stands s session) session

-- where the store doesn't fail
abbrev pub called : State → (session xid : ℕ) → Body → State × ServerStep
called s session xid b = called_under s false session xid b

abbrev pub got : State → (session : ℕ) → Message → State × ServerStep
got s session m = got_under s false session m

abbrev pub got_if : State → Bool → ℕ → Message → ℕ → State × ServerStep
got_if s there session m now = got_if_under s false there session m now

abbrev pub server_step : State → Event → State × ServerStep
server_step s e = server_step_under s false e

-- a server over a tree, with no session
abbrev pub with_tree : Tree → State
with_tree t = record empty { tree = t }

-- a node that the tree opens with; what can't be opened changes nothing
abbrev pub opens_with : State → (dir : ℕ) → (name : List ℕ) → NodeBody → State
opens_with s dir name b = record s { tree = opens s.tree dir name b }

-- ---- the index alone

-- the state with another index
abbrev pub with_index : State → Indexed → State
with_index s index = record s { index = index }

-- The places of the chunks of a file's content enter the index, if there is such a file.
abbrev pub learns : State → (file : ℕ) → State
learns s id = record s { index = with_told s.index (chunks_at id (file_at s.tree id)) }

-- the same, but for places that are left out, of which there is at least one
abbrev pub LearnsSome : State → (file : ℕ) → State → Type 0
LearnsSome s id new = (new ≡ record s { index = new.index }) × IsLacking s.index (chunks_at id (file_at s.tree id)) new.index

-- a place is put under a key
abbrev pub forges : State → (key : ℕ) → Place → State
forges s key p = with_index s (put s.index key p)

-- all pairs are dropped
abbrev pub clears_index : State → State
clears_index s = with_index s (cleared s.index)

-- ---- the leases of a session alone

-- A session gives all of its leases up. What it was asked for stays: an answer to it finds no lease.
abbrev pub gives_up : State → (session : ℕ) → State
gives_up s session = record s { leasing = record s.leasing { leases = without_leases s.leasing.leases session } }

-- ---- what is wanted of an event, and running out of memory

-- the readings that an event may have
abbrev pub IsTimed : Event → Type 0
IsTimed event.Connect = Unit {0}
IsTimed (event.Got session m now) = now < 2 ^ 63
IsTimed (event.Settle now) = now < 2 ^ 63
IsTimed (event.Hang session) = Unit {0}

-- what a call leaves that met running out of memory: a CONDWRITE has looked its digest up by then
abbrev pub missed_call : State → Body → State
missed_call s (body.Lb (lb.CondWrite a)) = looked_up s a
missed_call s b = s

-- what a step leaves that met running out of memory and did nothing: all as it was, but for the moment of its reading, and a look-up
abbrev pub missed_at : State → Event → State
missed_at s (event.Got session (message.Call xid b) now) = missed_call (at s now) b
missed_at s (event.Got session m now) = at s now
missed_at s e = s

-- what it says then: a call is refused, and a connection told
abbrev pub missed_step : Event → ServerStep
missed_step (event.Got session (message.Call xid b) now) = record (to session (message.Refuse xid refusal.SystemErr)) { missed = true }
missed_step event.Connect = record (sends []) { told = told.Memory; missed = true }
missed_step e = record (sends []) { missed = true }

-- the file and those of its chunks whose places an event puts into the index, where it puts any
abbrev pub chunks_got : (id : ℕ) → List ℕ → Answer Committed Unit → Option (ℕ × List Chunk)
chunks_got id content (answer.Done a) = Some (id, chunks_of content)
chunks_got id content (answer.Failed e u) = None

-- those of a change that waits no longer
abbrev pub change_entered : State → FileChange → Wanted → Option (ℕ × List Chunk)
change_entered s c (wanted.Content content) = chunks_got c.file content (gives_content s.tree (held s.waiting) c.file content (term_at s c.file)).1.answer
change_entered s c (wanted.Asked a) = None

abbrev pub chunks_of_change : State → Option FileChange → Option (ℕ × List Chunk)
chunks_of_change s None = None
chunks_of_change s (Some c) = change_entered (record s { waiting = without s.waiting c.session }) c c.what

abbrev pub chunks_if : Bool → Option (ℕ × List Chunk) → Option (ℕ × List Chunk)
chunks_if true e = e
chunks_if false e = None

abbrev pub chunks_called : State → Body → Option (ℕ × List Chunk)
chunks_called s (body.Lb (lb.GetHash r)) = chunks_told (node_of s.tree r.handle) r
chunks_called s b = None

abbrev pub chunks_entered : State → Event → Option (ℕ × List Chunk)
chunks_entered s (event.Got session (message.Call xid b) now) = chunks_if (stands s session) (chunks_called s b)
chunks_entered s (event.Settle now) = chunks_of_change s (ready_by s now)
chunks_entered s e = None

-- The calls that take memory: those that give chunks or bytes of a file, a handle or names, and those that keep something, a lease too. One that is refused,
-- or answered by a failure, takes none.
abbrev pub TakesMemory : State → (session : ℕ) → Body → Type 0
TakesMemory s session (body.Lb (lb.GetLease z)) = (term_on s (file_in (node_of s.tree z.handle)) == 0) ≡ false
TakesMemory s session (body.Lb (lb.GetHash r)) = IsFile (node_of s.tree r.handle)
TakesMemory s session (body.Lb (lb.MkTmpFile a)) = IsFile (node_of s.tree a.handle) × (room_fault s.temps session a.fd ≡ None)
TakesMemory s session (body.Lb (lb.TmpWrite a)) = piece_fault (temp_at s.temps session a.fd) a.offset (length a.bytes) ≡ None
TakesMemory s session (body.Lb (lb.CondWrite a)) = (cond_fault a (temp_at s.temps session a.fd) ≡ None) × IsSome (bytes_known s.tree a (place_of s.index.pairs (key_of a.digest)))
TakesMemory s session (body.Lb (lb.CommitTmp a)) = CanWait s session a (temp_at s.temps session a.fd)
TakesMemory s session (body.Nfs m) = (enters s.tree (held s.waiting) (has_waiting s.waiting session) m ≡ true) ⊎ Takes s.tree (held s.waiting) (has_waiting s.waiting session) m
TakesMemory s session _ = ⊥

-- A step may do nothing for running out of memory where a connection is to be made, and at a call of a session that stands, if it takes memory. A change
-- is always made, since what it takes was taken when it came; nor is anything wanted where a connection is lost.
abbrev pub MayMiss : State → Event → Type 0
MayMiss s event.Connect = has_room s ≡ true
MayMiss s (event.Got session (message.Call xid b) now) = (stands s session ≡ true) × TakesMemory (at s now) session b
MayMiss s e = ⊥

-- What is done but for places for which memory ran out: at least one is left out of the index.
abbrev pub Lacks : Indexed → Option (ℕ × List Chunk) → State × ServerStep → State → ServerStep → Type 0
Lacks index entered done new step = (left : Indexed) × IsLacking index entered left × (new ≡ with_index done.0 left) × (step ≡ record done.1 { missed = true })

-- what a call does that met running out of memory: it is refused, or done but for places that are left out of the index
abbrev pub MissesCall : State → (session xid : ℕ) → Body → State → ServerStep → Type 0
MissesCall s session xid b new step =
    (TakesMemory s session b × (new ≡ missed_call s b) × (step ≡ record (to session (message.Refuse xid refusal.SystemErr)) { missed = true }))
    ⊎ Lacks s.index (chunks_called s b) (called s session xid b) new step

-- what an event does that met running out of memory: nothing, or all but that places are left out of the index
pub data Misses (s : State) (e : Event) (new : State) (step : ServerStep) : Type 0 where
  nothing : MayMiss s e → new ≡ missed_at s e → step ≡ missed_step e → Misses s e new step
  lacks : Lacks s.index (chunks_entered s e) (server_step s e) new step → Misses s e new step

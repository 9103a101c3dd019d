-- One command, or one message, of the client.
use Rattle.std.specs.Prelude.{◌≡◌, ℕ, ◌<◌, ◌≤◌, ◌^◌, List, length, Option, Some, None, Result, Ok, Err, Bool, true, ◌==◌, nat_lt, if◌then◌else◌}
use Rattle.sha1.specs.Sha1.{sha1}
use Rattle.command_text.specs.Content.{content_length, content_bytes}
use Rattle.command_text.specs.declared.command.Command.TheVariants as command
use Rattle.command_text.specs.declared.command.Command.{Command}
use Rattle.command_text.specs.declared.content.Part.{Part}
use Rattle.xdr_codec.specs.declared.answer.Answer.TheVariants.{Done, Failed}
use Rattle.xdr_codec.specs.Handle.{file_of}
use Rattle.hash_calls.specs.declared.message.Back.{Back}
use Rattle.hash_calls.specs.declared.message.Back.TheVariants as back
use Rattle.hash_calls.specs.declared.message.Lb.TheVariants as lb
use Rattle.nfs3_calls.specs.declared.message.Nfs.TheVariants as nfs
use Rattle.wire.specs.declared.fault.WireFault.TheVariants as wire
use Rattle.wire.specs.declared.fault.WireFault.{WireFault}
use Rattle.wire.specs.declared.message.Body.TheVariants as body
use Rattle.wire.specs.declared.message.Body.{Body}
use Rattle.wire.specs.declared.message.Message.TheVariants as message
use Rattle.wire.specs.declared.message.Message.{Message}
use Rattle.wire.specs.declared.message.Pending.{Pending}
use Rattle.wire.specs.declared.message.RpcRefusal.{RpcRefusal}
use Rattle.client_state.specs.Counting.{misses, by_memory, nothing_done, sends_one, ends}
use Rattle.client_state.specs.Ending.{may_ask, on_local, idle, forgets, bad_peer, unknown, refused, denied, cut_off, drops, MayMissOn}
use Rattle.client_state.specs.Local.{local_most, written_size, written, truncated, part_of}
use Rattle.client_state.specs.Noting.{at, unnoted, noting}
use Rattle.client_state.specs.declared.noting.Granted.{Granted}
use Rattle.client_state.specs.State.{State, local_at, with_local, without_local, local_bytes, pending, calls_of, has_call}
use Rattle.client_state.specs.declared.step.BadPeer.TheVariants as bad
use Rattle.client_state.specs.declared.step.BadPeer.{BadPeer}
use Rattle.client_state.specs.declared.step.ClientStep.{ClientStep}
use Rattle.client_state.specs.declared.step.Outcome.TheVariants as outcome
use Rattle.client_state.specs.declared.task.Local.{Local}
use Rattle.client_state.specs.declared.task.Stage.TheVariants as stage
use Rattle.client_state.specs.declared.task.Stage.{Stage}
use Rattle.client_state.specs.declared.task.Task.{Task}
use Rattle.file_open.specs.Fetching.{opens, told_hashes, told_first, told_lease, told_piece, MayMissOpen, Lacks}
use Rattle.file_open.specs.Looking.{entering}
use Rattle.file_open.specs.Opening.{read_at}
use Rattle.file_open.specs.Rewriting.{rewrites, told_anew}
use Rattle.file_close.specs.Closing.{store_at}
use Rattle.file_close.specs.Storing.{closes, told_temp, told_stored, closed}
use Rattle.open_close.specs.Walking.{walks, is_its, told_walk, MayMissWalk}

-- ---- commands on an open file

abbrev pub done_with : State → ℕ → Local → List ℕ → State × ClientStep
done_with s file l content = (record s { opened = with_local s.opened file (record l { bytes = content }) }, ends outcome.Done 0 0)

abbrev pub too_big : State → ℕ → State × ClientStep
too_big s size = (s, ends (outcome.TooBig size) 0 0)

-- a content of this size takes the place of the local one, unless it is above the limit
abbrev pub edits : State → ℕ → Local → (size : ℕ) → List ℕ → State × ClientStep
edits s file l size content = if nat_lt local_most size then too_big s size else done_with s file l content

-- a write of no bytes is done at any place
abbrev pub writes : State → (file offset : ℕ) → List Part → Local → State × ClientStep
writes s file offset content l = if content_length content == 0 then (s, ends outcome.Done 0 0) else edits s file l (written_size (length l.bytes) offset (content_length content)) (written l.bytes offset (content_bytes content))

abbrev pub truncates : State → (file size : ℕ) → Local → State × ClientStep
truncates s file size l = edits s file l size (truncated l.bytes size)

abbrev pub reads : State → (offset count : ℕ) → Local → State × ClientStep
reads s offset count l = let piece : List ℕ = part_of l.bytes offset count in (s, ends (outcome.Piece (length piece) (sha1 piece)) 0 0)

abbrev pub abandons : State → (file : ℕ) → Local → State × ClientStep
abandons s file l = (record s { opened = without_local s.opened file }, ends outcome.Done 0 0)

abbrev pub does : State → Command → State × ClientStep
does s (command.Open file) = opens s file s.task
does s (command.Rewrite file) = rewrites s file s.task
does s (command.Write file offset content) = on_local s s.task (local_at s.opened file) (writes s file offset content)
does s (command.Trunc file size) = on_local s s.task (local_at s.opened file) (truncates s file size)
does s (command.Read file offset count) = on_local s s.task (local_at s.opened file) (reads s offset count)
does s (command.Close file) = on_local s s.task (local_at s.opened file) (closes s file)
does s (command.Abandon file) = on_local s s.task (local_at s.opened file) (abandons s file)
does s (command.Named c) = walks s c s.task

-- a command, at a reading of the client's clock
abbrev pub command_step : State → Command → (now : ℕ) → State × ClientStep
command_step s c now = does (at s now) c

-- ---- a message

-- the lease that an answer grants beside what it tells, where a call is under way that asked for it
abbrev pub lease_in : Stage → Body → Option Granted
lease_in (stage.Asking asked) (body.Lb (lb.GetLeaseAnswer (Done l))) = Some (record { version = l.version; term = l.term })
lease_in (stage.Rewriting asked) (body.Lb (lb.GetLeaseAnswer (Done l))) = Some (record { version = l.version; term = l.term })
lease_in (stage.Hashing tries asked) (body.Lb (lb.GetHashAnswer (Done h))) = Some (record { version = h.version; term = h.term })
lease_in (stage.Listing asked f) (body.Lb (lb.GetHashAnswer (Done h))) = Some (record { version = h.version; term = h.term })
lease_in (stage.Committing asked) (body.Lb (lb.CommitTmpAnswer (Done c))) = Some (record { version = c.version; term = c.term })
lease_in p b = None

-- what an answer to a call of the operation under way tells
abbrev pub takes : State → (calls : List Pending) → (file : ℕ) → Stage → (xid : ℕ) → Body → State × ClientStep
takes s calls file (stage.Asking asked) xid (body.Lb (lb.GetLeaseAnswer a)) = told_lease s calls file xid a
takes s calls file (stage.Rewriting asked) xid (body.Lb (lb.GetLeaseAnswer a)) = told_anew s calls file xid a
takes s calls file (stage.Hashing tries asked) xid (body.Lb (lb.GetHashAnswer a)) = told_first s calls file xid tries a
takes s calls file (stage.Listing asked f) xid (body.Lb (lb.GetHashAnswer a)) = told_hashes s calls file xid f a
takes s calls file (stage.Reading f) xid (body.Nfs (nfs.ReadAnswer (Failed status a))) = refused s calls xid status
takes s calls file (stage.Reading f) xid (body.Nfs (nfs.ReadAnswer (Done piece))) = told_piece s calls file xid f piece (read_at f.under xid)
takes s calls file (stage.Making asked temp) xid (body.Lb (lb.MkTmpFileAnswer a)) = told_temp s calls file xid temp (local_bytes s.opened file) a
takes s calls file (stage.Storing st) xid b = told_stored s calls file xid (local_bytes s.opened file) st b (store_at st.under xid)
takes s calls file (stage.Committing asked) xid (body.Lb (lb.CommitTmpAnswer (Failed status u))) = refused s calls xid status
takes s calls file (stage.Committing asked) xid (body.Lb (lb.CommitTmpAnswer (Done c))) = closed s calls file xid c.version (local_bytes s.opened file)
takes s calls file (stage.Walking asked w) xid (body.Nfs a) = told_walk s calls xid w a (is_its w a)
takes s calls file p xid b = unknown s xid

-- the lease that it grants is noted, by the reading at which its call went out, before another may
abbrev pub took : State → (calls : List Pending) → (file : ℕ) → Stage → (xid : ℕ) → Body → State × ClientStep
took s calls file p xid b = noting s.sent file (lease_in p b) (takes s calls file p xid b)

abbrev pub took_if : State → Option Task → (xid : ℕ) → Body → (is_own : Bool) → State × ClientStep
took_if s (Some t) xid b true = took (idle s) (calls_of s) t.file t.stage xid b
took_if s task xid b is_own = drops s task xid (has_call s.forgotten xid)

abbrev pub denied_if : State → Option Task → (xid : ℕ) → RpcRefusal → (is_own : Bool) → State × ClientStep
denied_if s (Some t) xid r true = denied (idle s) (calls_of s) xid r
denied_if s task xid r is_own = drops s task xid (has_call s.forgotten xid)

-- the lease on a file is asked for back: what is noted of it goes
abbrev pub recalls : State → Option ℕ → State
recalls s None = s
recalls s (Some file) = unnoted s file

-- A call of the callback program is answered at any moment, and the operation under way goes on.
abbrev pub called_back : State → (xid : ℕ) → Back → State × ClientStep
called_back s xid (back.Recall handle) = (recalls s (file_of handle), sends_one (message.Answer xid (body.Back back.RecallAnswer)) 0)
called_back s xid back.Null = (s, sends_one (message.Answer xid (body.Back back.NullAnswer)) 0)
called_back s xid b = (s, nothing_done)

-- no other program is the client's
abbrev pub called : State → (xid : ℕ) → Body → State × ClientStep
called s xid (body.Back b) = called_back s xid b
called s xid b = (s, nothing_done)

-- an answer takes the operation under way, and its step says what is under way then
abbrev pub got_message : State → Option Task → Message → State × ClientStep
got_message s task (message.Answer xid b) = took_if s task xid b (has_call (pending task) xid)
got_message s task (message.Refuse xid r) = denied_if s task xid r (has_call (pending task) xid)
got_message s task (message.Unfit xid r) = (s, sends_one (message.Refuse xid r) 0)
got_message s task (message.Call xid b) = called s xid b

abbrev pub fault_of : WireFault → BadPeer
fault_of (wire.NotRpc at) = bad.Garbage at
fault_of (wire.UnknownXid xid) = bad.UnknownXid xid
fault_of (wire.Garbage at) = bad.Garbage at

abbrev pub got_fault : State → Option Task → WireFault → State × ClientStep
got_fault s (Some t) e = bad_peer s (fault_of e) 0
got_fault s None e = cut_off s

-- what comes from the other end: a message, or why a record is none
abbrev pub hears : State → Result Message WireFault → State × ClientStep
hears s (Ok m) = got_message s s.task m
hears s (Err e) = got_fault s s.task e

-- at a reading of the client's clock
abbrev pub got_step : State → Result Message WireFault → (now : ℕ) → State × ClientStep
got_step s m now = hears (at s now) m

-- ---- running out of memory

-- A write of some bytes takes memory, unless it is told that the file would have too many. (A number past 128 bits can't be told.)
abbrev pub WriteTakes : (offset : ℕ) → List Part → Local → Type 0
WriteTakes offset content l = (content_length content ≡ 0 → ⊥) × (written_size (length l.bytes) offset (content_length content) < 2 ^ 128 → written_size (length l.bytes) offset (content_length content) ≤ local_most)

-- Which commands may meet running out of memory: those that send a call, and those that make a local content. What is told at once takes none.
abbrev pub MayMissCommand : State → Command → Type 0
MayMissCommand s (command.Open file) = MayMissOpen s file s.task
MayMissCommand s (command.Rewrite file) = MayMissOpen s file s.task
MayMissCommand s (command.Write file offset content) = MayMissOn s.task (local_at s.opened file) (WriteTakes offset content)
MayMissCommand s (command.Trunc file size) = MayMissOn s.task (local_at s.opened file) (λ l. size ≤ local_most)
MayMissCommand s (command.Read file offset count) = ⊥
MayMissCommand s (command.Close file) = MayMissOn s.task (local_at s.opened file) (λ l. may_ask s ≡ true)
MayMissCommand s (command.Abandon file) = ⊥
MayMissCommand s (command.Named c) = MayMissWalk s c s.task

-- what is left where memory ran out at what came: the operation under way has ended by it
abbrev pub missed_at : State → Result Message WireFault → State
missed_at s (Ok (message.Answer xid b)) = forgets s (calls_of s) xid
missed_at s m = s

abbrev pub InCommit : Stage → Type 0
InCommit (stage.Committing xid) = Unit {0}
InCommit p = ⊥

-- Once COMMITTMP was sent an operation takes no memory: what its end takes was taken before.
abbrev pub IsCommitting : Option Task → Type 0
IsCommitting None = ⊥
IsCommitting (Some t) = InCommit t.stage

-- only an answer to a call of the operation under way may meet running out of memory
abbrev pub MayMiss : State → Result Message WireFault → Type 0
MayMiss s (Ok (message.Answer xid b)) = (has_call (pending s.task) xid ≡ true) × (IsCommitting s.task → ⊥)
MayMiss s m = ⊥

-- Where memory ran out the operation ended by that, or a fetch ended well and nothing is missing but places in the index.
pub data Misses (s : State) (m : Result Message WireFault) (now : ℕ) (new : State) (step : ClientStep) : Type 0 where
  ended : MayMiss s m → new ≡ missed_at s m → step ≡ misses (Some by_memory) → Misses s m now new step
  lacks : Lacks s.index (entering s m) (got_step s m now) new step → Misses s m now new step

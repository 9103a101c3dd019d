-- What the replay of a trace answers, and what is promised of its history.
use Rattle.std.specs.Prelude.{Bool, [], true, false, ◌≡◌, ℕ, ◌+◌, ◌<◌, ◌⊎◌, List, ◌++◌, length, All, Result, Ok, Err, Option, Some, None, slice_get}
use Rattle.rpc_record.specs.Records.{Unread}
use Rattle.wire.specs.Message.{MessageFits, message_spell}
use Rattle.wire.specs.Parse.{parse_of}
use Rattle.hash_calls.specs.declared.message.Back.TheVariants as back
use Rattle.hash_calls.specs.declared.message.Lb.TheVariants as lb
use Rattle.nfs3_calls.specs.declared.message.Nfs.TheVariants as nfs
use Rattle.wire.specs.declared.message.Body.TheVariants as body
use Rattle.wire.specs.declared.message.Pending.{Pending}
use Rattle.wire.specs.declared.message.Message.TheVariants as message
use Rattle.wire.specs.declared.message.Message.{Message}
use Rattle.wire.specs.declared.message.Waiting.{Waiting}
use Rattle.client_state.specs.State.{waiting_of, calls_of, has_call}
use Rattle.client_cache.specs.Cache.{content_of}
use Rattle.client_cache.specs.declared.kept.Content.{Content}
use Rattle.register_model.specs.Register.{History, IsLegal, Value}
use Rattle.register_model.specs.declared.op.Op.{Op}
use Rattle.register_model.specs.declared.op.Outcome.TheVariants as told
use Rattle.register_model.specs.declared.op.Word.TheVariants as word
use Rattle.chunk_calls.specs.Files.{File, file_at}
use Rattle.server_core.specs.State.{FileChange}
use Rattle.server_core.specs.declared.change.Wanted.{Wanted}
use Rattle.server_core.specs.declared.change.Wanted.TheVariants as wanted
use Rattle.tree_calls.specs.declared.asked.Asked.TheVariants as asked
use Rattle.trace_replay.specs.declared.fault.Refused.{Refused}
use Rattle.trace_replay.specs.declared.fault.TraceError.{TraceError}
use Rattle.trace_replay.specs.declared.fault.TraceError.TheVariants as errors
use Rattle.trace_ends.specs.Session.{Seat, Session, is_raw}
use Rattle.trace_ends.specs.Numbers.{numbered}
use Rattle.trace_ends.specs.Core.{server_waits}
use Rattle.trace_replay.specs.World.{World, history_of}
use Rattle.trace_ends.specs.Wires.{Wire, bytes_of}
use Rattle.trace_replay.specs.Trail.{moments, hashed}
use Rattle.trace_replay.specs.Traffic.{deals_of, stored_traffic}
use Rattle.trace_replay.specs.Book.{Book, AreApart, HadContent, Or, book_of, value_at, version_at}
use Rattle.trace_replay.specs.Faithful.{IsFaithful}
use Rattle.trace_replay.specs.Complete.{IsComplete}
use Rattle.trace_replay.specs.Chained.{IsChained}
use Rattle.trace_replay.specs.Saving.{IsSaving}

abbrev pub Fails : TraceError → Result World Refused → Type 0
Fails errors.Memory ran = Unit {0}
Fails (errors.Refused r) ran = ran ≡ Err r

-- the history of the world that the lines end in, or the first line that is refused, unless memory runs out
abbrev pub Gives : Result History TraceError → Result World Refused → Type 0
Gives (Ok h) ran = (w : World) × (ran ≡ Ok w) × (h ≡ history_of w)
Gives (Err e) ran = Fails e ran

-- What a pending change is to make: a close's value, of a close that had sent all of its traffic; or that its file goes, by a remove, or by a rename over it.
abbrev pub IsWanted : Book → Op → Wanted → Type 0
IsWanted book o (wanted.Content content) = (o.word ≡ word.Close) × (length o.value ≡ length content) × Or book (o.value ≡ content) × (o.traffic ≡ stored_traffic o.value (deals_of o book.moments))
IsWanted book o (wanted.Asked (asked.Remove r)) = o.word ≡ word.Remove
IsWanted book o (wanted.Asked (asked.Rename r)) = o.word ≡ word.Rename

-- the file of the operation is the one that waits to be changed; one on names has it once its change is made
abbrev pub HasTarget : Op → Wanted → (file : ℕ) → Type 0
HasTarget o (wanted.Content content) file = o.file ≡ file
HasTarget o (wanted.Asked a) file = o.file ≡ 0

-- A pending change is that of an operation that is still running, or was lost. It came on a session of the operation's client that the server did not see lost,
-- and it is of the last operation that sent calls there and may change a file.
pub record HoldsValue (book : Book) (w : World) (c : FileChange) : Type 0 where
  pub place : ℕ
  pub op : Op
  pub there : slice_get w.core.ops place ≡ Some op
  pub wanted_is : IsWanted book op c.what
  pub file_is : HasTarget op c.what c.file
  pub untold : (op.outcome ≡ told.Running) ⊎ (op.outcome ≡ told.Lost)
  pub pointless : op.point ≡ None
  pub session : Session
  pub session_is : numbered w.core.sessions c.session ≡ Some session
  pub stands : session.hung ≡ false
  pub owner : session.owner ≡ op.client
  pub closing : session.closing ≡ Some place

-- or it came on a session that is no client's, which stands
abbrev pub IsRawChange : World → FileChange → Type 0
IsRawChange w c = (x : Session) × (numbered w.core.sessions c.session ≡ Some x) × (is_raw x ≡ true) × (x.hung ≡ false)

-- so has each, and no two are of one session
pub record HoldsValues (book : Book) (w : World) : Type 0 where
  pub values : (i : ℕ) (c : FileChange) → slice_get w.core.server.waiting i ≡ Some c → HoldsValue book w c ⊎ IsRawChange w c
  pub single : (i j : ℕ) (c d : FileChange) → slice_get w.core.server.waiting i ≡ Some c → slice_get w.core.server.waiting j ≡ Some d → c.session ≡ d.session → i ≡ j

-- the server's tree has of each file what the history says that it is, if it is there, and the version
abbrev pub HoldsFile : Book → World → (file : ℕ) → Option File → Value → Type 0
HoldsFile book w file None None = Unit {0}
HoldsFile book w file (Some f) (Some content) = (length f.content ≡ length content) × Or book (f.content ≡ content) × (f.version ≡ version_at book file (w.core.steps + 1))
HoldsFile book w file f v = ⊥

abbrev pub HoldsFiles : Book → World → Type 0
HoldsFiles book w = (file : ℕ) → HoldsFile book w file (file_at w.core.server.tree file) (value_at book file (w.core.steps + 1))

-- each content that a client keeps of a file is what the file had in that version: what it keeps under 0 is no file's
abbrev pub HoldsContents : Book → World → Type 0
HoldsContents book w = (c file : ℕ) (seat : Seat) (kept : Content) → numbered w.core.seats c ≡ Some seat → content_of seat.client.cache file ≡ Some kept → 0 < file → HadContent book file kept.version kept.bytes

-- a message fits a record, and an end with these calls waiting reads it as itself
abbrev pub IsRead : Waiting → Message → Type 0
IsRead waiting m = MessageFits m × (parse_of waiting (message_spell m) ≡ Ok m)

-- a call that these clients make, or an answer to a RECALL that the server waits for
abbrev pub IsServed : List Pending → Message → Type 0
IsServed waits (message.Call xid (body.Lb (lb.GetLease z))) = Unit {0}
IsServed waits (message.Call xid (body.Lb (lb.GetHash a))) = Unit {0}
IsServed waits (message.Call xid (body.Lb (lb.MkTmpFile a))) = Unit {0}
IsServed waits (message.Call xid (body.Lb (lb.TmpWrite a))) = Unit {0}
IsServed waits (message.Call xid (body.Lb (lb.CondWrite a))) = Unit {0}
IsServed waits (message.Call xid (body.Lb (lb.CommitTmp a))) = Unit {0}
IsServed waits (message.Call xid (body.Nfs (nfs.Read a))) = Unit {0}
IsServed waits (message.Call xid (body.Nfs (nfs.GetAttr a))) = Unit {0}
IsServed waits (message.Call xid (body.Nfs (nfs.Lookup a))) = Unit {0}
IsServed waits (message.Call xid (body.Nfs (nfs.ReadDir a))) = Unit {0}
IsServed waits (message.Call xid (body.Nfs (nfs.Create a))) = Unit {0}
IsServed waits (message.Call xid (body.Nfs (nfs.MkDir a))) = Unit {0}
IsServed waits (message.Call xid (body.Nfs (nfs.Remove a))) = Unit {0}
IsServed waits (message.Call xid (body.Nfs (nfs.RmDir a))) = Unit {0}
IsServed waits (message.Call xid (body.Nfs (nfs.Rename a))) = Unit {0}
IsServed waits (message.Answer xid (body.Back back.RecallAnswer)) = has_call waits xid ≡ true
IsServed waits m = ⊥

-- an answer to one of these calls, or a RECALL
abbrev pub IsAnswered : List Pending → Message → Type 0
IsAnswered calls (message.Answer xid b) = has_call calls xid ≡ true
IsAnswered calls (message.Call xid (body.Back (back.Recall handle))) = Unit {0}
IsAnswered calls m = ⊥

abbrev pub xid_of : Message → ℕ
xid_of (message.Call xid b) = xid
xid_of (message.Answer xid b) = xid
xid_of (message.Refuse xid why) = xid
xid_of (message.Unfit xid why) = xid

-- whether it is of the client's numbers or of the server's
abbrev pub is_call : Message → Bool
is_call (message.Call xid b) = true
is_call m = false

-- two of one number: that of one call, or of one answer
abbrev pub AreOfOne : Message → Message → Type 0
AreOfOne a b = (is_call a ≡ is_call b) × (xid_of a ≡ xid_of b)

-- what an end has of a record and what is on its way to it are together the bytes of these whole messages, each of which it reads, and no
-- start of its stream is spoilt
pub record AreOfMessages (waiting : Waiting) (end : Unread) (queue : List ℕ) (ms : List Message) : Type 0 where
  pub sound : end.spoilt ≡ None
  pub read : All (IsRead waiting) ms
  pub bytes : end.rest ++ queue ≡ bytes_of ms

-- So it is at both ends of a session. Up come calls that the server does and answers to RECALLs that it waits for, and down answers to calls that the
-- session's owner waits for, each to another, and RECALLs; nor do two calls have one number, while the owner does not see the session lost. Nothing comes up once the server has seen it
-- lost, and nothing down once its owner has.
pub record HoldsQueues (w : World) (number : ℕ) (q : Wire) : Type 0 where
  pub session : Session
  pub seat : Seat
  pub session_is : numbered w.core.sessions number ≡ Some session
  pub seat_is : numbered w.core.seats session.owner ≡ Some seat
  pub ups : List Message
  pub up : AreOfMessages (server_waits w.core number) q.server_end q.up ups
  pub done : All (IsServed (server_waits w.core number).calls) ups
  pub apart : session.cut ≡ false → (i j : ℕ) (a b : Message) → slice_get ups i ≡ Some a → slice_get ups j ≡ Some b → AreOfOne a b → i ≡ j
  pub downs : List Message
  pub down : AreOfMessages (waiting_of seat.client) q.client_end q.down downs
  pub answered : All (IsAnswered (calls_of seat.client)) downs
  pub once : (i j : ℕ) (a b : Message) → slice_get downs i ≡ Some a → slice_get downs j ≡ Some b → AreOfOne a b → i ≡ j
  pub lost : session.hung ≡ true → ups ≡ []
  pub shut : session.cut ≡ true → downs ≡ []

-- or the session is no client's: nothing is on its way down, and what comes up is anything
abbrev pub IsRawWire : World → (number : ℕ) → Wire → Type 0
IsRawWire w number q = (x : Session) × (numbered w.core.sessions number ≡ Some x) × (is_raw x ≡ true) × (q.down ≡ [])

abbrev pub HoldsMessages : World → Type 0
HoldsMessages w = (number : ℕ) (q : Wire) → numbered w.wires number ≡ Some q → HoldsQueues w number q ⊎ IsRawWire w number q

-- A replayed history tells what the trace says, moment by moment. Each open in it gave the whole content that its file had at one moment within it, and each
-- close that ended Closed replaced its file wholly by its local content at one moment within it, wherever no two different byte lists
-- that were hashed in the run share a digest. An operation that is left alone has ended, and bytes that the other end was found to have were
-- not sent. A change waits no longer than the leases that hold it up, and an open under a lease that is noted asks nobody. What the server holds is what the history says, and what is on its way
-- between a client and the server are whole messages, which their ends take. Sessions that are no client's may send anything: what they change is in the history.
pub record IsKeptPromise (input : List ℕ) (w : World) : Type 0 where
  pub chained : IsChained input (moments input) w
  pub faithful : IsFaithful input (book_of w (moments input))
  pub legal : AreApart (hashed input) → IsLegal (history_of w)
  pub complete : IsComplete (book_of w (moments input)) w
  pub saving : IsSaving (book_of w (moments input))
  pub waiting : HoldsValues (book_of w (moments input)) w
  pub tree : HoldsFiles (book_of w (moments input)) w
  pub contents : HoldsContents (book_of w (moments input)) w
  pub messages : HoldsMessages w

-- When the history of a run is faithful to its trace.
use Rattle.std.specs.Prelude.{◌≡◌, ℕ, zero, suc, ◌+◌, ◌*◌, ◌<◌, ◌≤◌, List, [], length, remove, max, ◌⊎◌, Bool, true, false, not, Option, Some, None, IsSome, is_some, unwrap_or, Contains, slice_get, map}
use Rattle.sha1.specs.Sha1.{sha1}
use Rattle.command_text.specs.Parts.{lines_of}
use Rattle.command_text.specs.declared.command.Command.{Command}
use Rattle.command_text.specs.declared.command.Command.TheVariants as command
use Rattle.command_text.specs.declared.path.PathCommand.{PathCommand}
use Rattle.command_text.specs.declared.path.PathCommand.TheVariants as path
use Rattle.xdr_codec.specs.Handle.{handle_bytes}
use Rattle.xdr_codec.specs.declared.answer.Answer.TheVariants.{Done}
use Rattle.hash_calls.specs.declared.message.Lb.TheVariants as lb
use Rattle.wire.specs.declared.message.Body.{Body}
use Rattle.wire.specs.declared.message.Body.TheVariants as body
use Rattle.wire.specs.declared.message.Message.{Message}
use Rattle.wire.specs.declared.message.Message.TheVariants as message
use Rattle.transfer_rules.specs.Limits.{calls_most}
use Rattle.lease_rules.specs.Changes.{asker, meets}
use Rattle.lease_rules.specs.Leases.{is_others}
use Rattle.lease_rules.specs.declared.lease.Lease.{Lease}
use Rattle.server_core.specs.Closing.{ready_by}
use Rattle.server_core.specs.State.{FileChange}
use Rattle.server_core.specs.declared.change.Wanted.TheVariants as wanted
use Rattle.tree_calls.specs.declared.asked.Asked.{Asked}
use Rattle.server_core.specs.declared.journal.Entry.{Entry}
use Rattle.tree_reading.specs.declared.entry.EntryKind.{EntryKind}
use Rattle.tree_reading.specs.declared.entry.EntryKind.TheVariants as kind
use Rattle.xdr_codec.specs.declared.status.Status.{Status}
use Rattle.register_model.specs.Register.{changes, value_from}
use Rattle.register_model.specs.declared.op.Word.{Word}
use Rattle.register_model.specs.declared.op.Op.{Op}
use Rattle.register_model.specs.declared.op.Outcome.{Outcome}
use Rattle.register_model.specs.declared.op.Outcome.TheVariants as told
use Rattle.register_model.specs.declared.op.Word.TheVariants as word
use Rattle.trace_ends.specs.Ops.{no_traffic}
use Rattle.trace_ends.specs.Core.{is_of_file, Event.Settles, Event.Cuts, happens}
use Rattle.trace_replay.specs.Naming.{failed_by, refusal_of}
use Rattle.trace_replay.specs.NameChanges.{NamesChangeBy}
use Rattle.trace_replay.specs.Entries.{JournalGrows, IsChangedBy}
use Rattle.trace_replay.specs.Walking.{AreCalls, HasFoundFile}
use Rattle.trace_ends.specs.Commands.{word_of, file_of}
use Rattle.trace_ends.specs.Session.{Session, is_raw}
use Rattle.register_model.specs.declared.raw.Raw.{Raw}
use Rattle.register_model.specs.declared.raw.RawKind.TheVariants as raw_kind
use Rattle.trace_ends.specs.Numbers.{numbered}
use Rattle.trace_replay.specs.Trail.{Deed, Moment, Said, AreCounted, told_of, events_of, deeds_of, told_in, openings_of, commands_of, step_of, sent_of, taken_of}
use Rattle.trace_replay.specs.Traffic.{is_of, attempts_of, traffic_of, stored_traffic, CountsOwn, SentCommit, AttemptsEnd, AttemptsMet, deals_of, IsFor, NamesChunks}
use Rattle.trace_replay.specs.Fetches.{EachReaches, GotBy, last_fetch, read_traffic}
use Rattle.trace_replay.specs.Owing.{owes_nothing, PaysAll}
use Rattle.trace_replay.specs.Numbered.{numbers_of, CountOn}
use Rattle.trace_replay.specs.Book.{Book, Or, history, version_at}
use Rattle.trace_replay.specs.OwnCalls.{TakesCall}
use Rattle.trace_replay.specs.AtOnce.{EndsFresh}
use Rattle.trace_replay.specs.PendingChanges.{ClosesRaw, WaitInTurn}
use Rattle.trace_replay.specs.Notes.{AnswersRecall, NotesCome}
use Rattle.trace_replay.specs.Causes.{HasCause, can_go, is_busy, local_before, own_answer}

-- ---- an operation

abbrev pub is_running : Outcome → Bool
is_running told.Running = true
is_running _ = false

-- an open, or a rewrite, whose path led to a file was told that it is open just where it was
abbrev pub FindsOpen : PathCommand → Outcome → Option (List ℕ) → Type 0
FindsOpen (path.Find s) told.AlreadyOpen l = IsSome l
FindsOpen (path.Find s) (told.Opened len digest) l = l ≡ None
FindsOpen (path.Rewrite s) told.AlreadyOpen l = IsSome l
FindsOpen (path.Rewrite s) told.Done l = l ≡ None
FindsOpen k outcome l = Unit {0}

-- a close is to store the local content that its client had when it began
abbrev pub StoresLocal : Command → Op → Option (List ℕ) → Type 0
StoresLocal (command.Close f) o l = l ≡ Some o.value
StoresLocal (command.Named k) o l = FindsOpen k o.outcome l
StoresLocal k o l = Unit {0}

-- the file of an operation is that of the command's id; one on names has a file by its cause, if it asked the server
abbrev pub HasFile : Command → Op → (own : Option Outcome) → Type 0
HasFile (command.Named k) o (Some own) = o.file ≡ 0
HasFile (command.Named k) o None = Unit {0}
HasFile k o own = o.file ≡ file_of k

-- What became of a command, where its client had this local content of the file before: it was answered by the client itself, in its own
-- step, exactly where that has an answer; else the operation began, and ended by its cause: what came of the server, or a content that was fresh.
abbrev pub CameTo : Book → Deed → Op → Option (List ℕ) → Option Outcome → Type 0
CameTo book d o l (Some own) = (o.outcome ≡ own) × (o.end ≡ Some o.begin) × (o.point ≡ None)
CameTo book d o l None = HasCause book d.command o o.outcome × StoresLocal d.command o l

-- an operation is that of a command, began at its line's step, and ended as its cause has it
pub record IsDone (book : Book) (d : Deed) (o : Op) (l : Option (List ℕ)) : Type 0 where
  pub client : o.client ≡ d.client
  pub word : o.word ≡ word_of d.command
  pub file : HasFile d.command o (own_answer (is_busy book.ops o) (can_go d) d.command l)
  pub begin : o.begin ≡ d.begin
  -- no step sends more calls than one operation may have under way
  pub few : d.calls ≤ calls_most * d.begin
  pub came_to : CameTo book d o l (own_answer (is_busy book.ops o) (can_go d) d.command l)
  -- it has an end exactly where it is not running, and not before its begin
  pub end : is_some o.end ≡ not (is_running o.outcome)
  pub order : (e : ℕ) → o.end ≡ Some e → o.begin ≤ e

-- Where a client saw its connection lost each operation that it began before has ended: by that, in that step, unless it had ended before.
abbrev pub CutsEnd : Book → Type 0
CutsEnd book = (m : Moment) (c k : ℕ) (o : Op) → Contains book.moments m → m.event ≡ Cuts c → slice_get book.ops k ≡ Some o → o.client ≡ c → o.begin < step_of m
    → (e : ℕ) × (o.end ≡ Some e) × ((e < step_of m) ⊎ ((e ≡ step_of m) × (o.outcome ≡ told.Lost)))

-- ---- versions

-- the answer to a GETHASH, or to a GETLEASE, that carries this version
abbrev pub Carries : (version : ℕ) → Message → Type 0
Carries version (message.Answer xid (body.Lb (lb.GetHashAnswer (Done h)))) = h.version ≡ version
Carries version (message.Answer xid (body.Lb (lb.GetLeaseAnswer (Done l)))) = l.version ≡ version
Carries version m = ⊥

-- an answer to one of these
abbrev pub TellsVersion : Message → Type 0
TellsVersion (message.Answer xid (body.Lb (lb.GetHashAnswer a))) = Unit {0}
TellsVersion (message.Answer xid (body.Lb (lb.GetLeaseAnswer a))) = Unit {0}
TellsVersion m = ⊥

-- Each answer to a GETHASH or a GETLEASE that an open took after its point, and there is one, carried the version that its file had there, with the content
-- that the open gave.
pub record OpensOne (book : Book) (o : Op) : Type 0 where
  pub point : ℕ
  pub point_is : o.point ≡ Some point
  pub some : (s : Said) × Contains (taken_of book.moments) s × (is_of o s ≡ true) × (point < s.step) × Carries (version_at book o.file point) s.message
  pub all : (s : Said) → Contains (taken_of book.moments) s → is_of o s ≡ true → point < s.step → TellsVersion s.message → Carries (version_at book o.file point) s.message

-- Or it ended at once, by a content that is kept in that version.
abbrev pub OpensFresh : Book → Op → Type 0
OpensFresh book o = (e : EndsFresh book.moments o) × (o.point ≡ Some (step_of e.moment)) × (e.content.version ≡ version_at book o.file (step_of e.moment))

abbrev pub OpensVersion : Book → Op → Outcome → Type 0
OpensVersion book o (told.Opened len digest) = OpensOne book o ⊎ OpensFresh book o
OpensVersion book o outcome = Unit {0}

-- ---- the point of an open

-- by which call an open of this file has its point, where it began so many attempts: by its GETLEASE, where it began none, and else by a GETHASH from the
-- first byte on, as each attempt begins with one
abbrev pub IsFirstOf : (attempts file : ℕ) → Body → Type 0
IsFirstOf zero file (body.Lb (lb.GetLease z)) = z.handle ≡ handle_bytes file
IsFirstOf (suc n) file (body.Lb (lb.GetHash a)) = (a.handle ≡ handle_bytes file) × (a.offset ≡ 0)
IsFirstOf n file b = ⊥

-- An open that got its content has its point in the step in which the server took that call, while the client's operation under way waited for the answer.
pub record PointsAsked (book : Book) (o : Op) : Type 0 where
  pub point : ℕ
  pub point_is : o.point ≡ Some point
  pub xid : ℕ
  pub call : Body
  pub first : IsFirstOf (attempts_of o (sent_of book.moments)) o.file call
  pub taken : TakesCall book o.client point xid call

-- or in its own step, where it ended at once by what was kept
abbrev pub PointsFresh : Book → Op → Type 0
PointsFresh book o = (e : EndsFresh book.moments o) × (o.point ≡ Some (step_of e.moment)) × (o.value ≡ e.content.bytes)

abbrev pub HasPoint : Book → Op → Type 0
HasPoint book o = PointsAsked book o ⊎ PointsFresh book o

abbrev pub OpensAt : Book → Op → Outcome → Type 0
OpensAt book o (told.Opened len digest) = HasPoint book o
OpensAt book o outcome = Unit {0}

-- ---- what an open counts

-- An open that got its content counted the READs of its last attempt, and the bytes that they brought; just that, where its file had one version from
-- its begin to its end. Attempts on other versions come on top.
pub record OpenedBy (book : Book) (o : Op) : Type 0 where
  pub reads : length (last_fetch (deals_of o book.moments)).reads ≤ o.traffic.read
  pub bytes : (last_fetch (deals_of o book.moments)).bytes ≤ o.traffic.«data»
  pub once : (e : ℕ) → o.end ≡ Some e → version_at book o.file o.begin ≡ version_at book o.file (e + 1) → o.traffic ≡ read_traffic (last_fetch (deals_of o book.moments))

-- ---- the journal

-- an operation of this word makes an entry of this kind
abbrev pub IsKind : Word → EntryKind → Type 0
IsKind word.Close k = k ≡ kind.Commit
IsKind word.Make k = k ≡ kind.Make
IsKind word.Remove k = k ≡ kind.Remove
IsKind word.Rename k = k ≡ kind.Remove
IsKind w k = ⊥

-- what a change leaves of its file, no bytes where it goes
abbrev pub left_by : Op → List ℕ
left_by o = unwrap_or (value_from o.word o.value) []

-- An entry of this step tells a change: that of an operation, or of a session that is no client's, whose point it is, of its file, with what that left of it, in the version after that
-- of the file before.
abbrev pub Tells : Book → (step : ℕ) → Entry → Type 0
Tells book p e = (k : ℕ) × (o : Op) × (slice_get (history book).ops k ≡ Some o) × IsKind o.word e.kind × (o.point ≡ Some p) × (o.file ≡ e.file) × (length (left_by o) ≡ e.len) × Or book (sha1 (left_by o) ≡ e.sha1) × (e.version ≡ version_at book e.file p + 1)

-- the changes of files in the server's journal are those of the operations that have a point as a change, one for one and in order
pub record HasJournal (book : Book) : Type 0 where
  -- each entry has its step, and the steps rise; of the entries of one step one at most is of a file
  pub count : length book.entries ≡ length book.journal
  pub rising : (i j p q : ℕ) → i < j → slice_get book.entries i ≡ Some p → slice_get book.entries j ≡ Some q → p ≤ q
  pub apart : (i j p q : ℕ) (d e : Entry) → i < j → slice_get book.entries i ≡ Some p → slice_get book.entries j ≡ Some q → slice_get book.journal i ≡ Some d → slice_get book.journal j ≡ Some e → is_of_file d.kind ≡ true → is_of_file e.kind ≡ true → p < q
  -- each of a file tells the change of one
  pub made : (i p : ℕ) (e : Entry) → slice_get book.entries i ≡ Some p → slice_get book.journal i ≡ Some e → is_of_file e.kind ≡ true → Tells book p e
  -- and each operation that has a point as a change made one
  pub only : (k p : ℕ) (o : Op) → slice_get (history book).ops k ≡ Some o → changes o.word ≡ true → o.point ≡ Some p → (i : ℕ) × (e : Entry) × (slice_get book.entries i ≡ Some p) × (slice_get book.journal i ≡ Some e) × (is_of_file e.kind ≡ true)
  -- which no other operation made: none has the same point
  pub once : (k m p : ℕ) (o q : Op) → slice_get (history book).ops k ≡ Some o → slice_get (history book).ops m ≡ Some q → changes o.word ≡ true → o.point ≡ Some p → q.point ≡ Some p → k ≡ m

-- The change of this number was made in this step: at a moment at which the server was told to make one, with so many before it. It is the
-- one that was ready, and the journal's entry tells it; it is that of a close of the client whose session asked for it, of the close's value,
-- and the last close that had sent calls there.
pub record IsSettled (book : Book) (number step : ℕ) : Type 0 where
  pub moment : Moment
  pub there : Contains book.moments moment
  pub now : ℕ
  pub event_is : moment.event ≡ Settles now
  pub step_is : step_of moment ≡ step
  pub number_is : length moment.before.server.journal ≡ number
  pub change : FileChange
  pub ready : ready_by moment.before.server now ≡ Some change
  pub entry : Entry
  pub entry_is : slice_get book.journal number ≡ Some entry
  pub kind_is : entry.kind ≡ kind.Commit
  pub file_is : entry.file ≡ change.file
  pub session_is : entry.session ≡ change.session
  pub session : Session
  pub on : numbered moment.before.sessions change.session ≡ Some session
  pub place : ℕ
  pub op : Op
  pub op_is : slice_get book.ops place ≡ Some op
  pub word_is : op.word ≡ word.Close
  pub point_is : op.point ≡ Some step
  pub content : List ℕ
  pub what_is : change.what ≡ wanted.Content content
  pub size_is : length op.value ≡ length content
  pub value_is : Or book (op.value ≡ content)
  pub owner : session.owner ≡ op.client
  pub closing : session.closing ≡ Some place

-- A file goes in this step as a change is made that was pending: the one that was ready, of that file, which a REMOVE asked for, or a RENAME over it. The journal's
-- entry names its session.
pub record IsRemoved (moments : List Moment) (step : ℕ) (e : Entry) : Type 0 where
  pub moment : Moment
  pub there : Contains moments moment
  pub now : ℕ
  pub event_is : moment.event ≡ Settles now
  pub step_is : step_of moment ≡ step
  pub change : FileChange
  pub ready : ready_by moment.before.server now ≡ Some change
  pub call : Asked
  pub what_is : change.what ≡ wanted.Asked call
  pub file_is : e.file ≡ change.file
  pub session_is : e.session ≡ change.session

-- Or a content that is settled is a session's that is no client's, and this has it whole: so the history's line of it says, with no premise on digests.
pub record IsRawSettled (book : Book) (number step : ℕ) : Type 0 where
  pub moment : Moment
  pub there : Contains book.moments moment
  pub now : ℕ
  pub event_is : moment.event ≡ Settles now
  pub step_is : step_of moment ≡ step
  pub number_is : length moment.before.server.journal ≡ number
  pub change : FileChange
  pub ready : ready_by moment.before.server now ≡ Some change
  pub session : Session
  pub on : numbered moment.before.sessions change.session ≡ Some session
  pub raw : is_raw session ≡ true
  -- its message came in this step
  pub came : ℕ
  pub came_is : numbered moment.before.came change.session ≡ Some came
  pub entry : Entry
  pub entry_is : slice_get book.journal number ≡ Some entry
  pub content : List ℕ
  pub what_is : change.what ≡ wanted.Content content
  pub place : ℕ
  pub line : Raw
  pub line_is : slice_get book.raws place ≡ Some line
  pub told : line ≡ record { session = change.session; kind = raw_kind.Commit; file = change.file; begin = came; point = step; version = entry.version; len = length content; sha1 = sha1 content; value = content }
  -- as the entry says
  pub entry_told : entry ≡ record { file = change.file; version = entry.version; kind = kind.Commit; len = length content; sha1 = sha1 content; session = change.session }

-- why an answer to what waited refuses, if it does
abbrev pub change_refusal : Message → Option Status
change_refusal (message.Answer xid (body.Lb (lb.CommitTmpAnswer a))) = failed_by a
change_refusal (message.Answer xid (body.Nfs m)) = refusal_of m
change_refusal m = None

-- The change was made in this step, as the journal's next; or its session was told why it was not.
abbrev pub IsMadeOrRefused : Book → Moment → FileChange → Type 0
IsMadeOrRefused book m c = (slice_get book.entries (length m.before.server.journal) ≡ Some (step_of m)) ⊎ ((answer : Message) × (s : Status) × Contains (happens m.before m.event).down (record { session = c.session; message = answer }) × (change_refusal answer ≡ Some s))

-- A settling takes the change that is ready out, wherever it stands, and no other; it is made, or its session told why not. It is the first of its file, by then
-- each lease on that has ended, but for the session's own under its COMMITTMP, and the quiet after the server's start is over.
pub record TakesReady (book : Book) (m : Moment) (now : ℕ) (c : FileChange) : Type 0 where
  pub place : ℕ
  pub there : slice_get m.before.server.waiting place ≡ Some c
  pub left : (happens m.before m.event).core.server.waiting ≡ remove m.before.server.waiting place
  pub first : (i : ℕ) (d : FileChange) → i < place → slice_get m.before.server.waiting i ≡ Some d → meets d c ≡ false
  pub awake : m.before.server.leasing.quiet ≤ max m.before.server.leasing.moment now
  pub free : (i : ℕ) (l : Lease) → slice_get m.before.server.leasing.leases i ≡ Some l → l.file ≡ c.file → is_others l (asker c) ≡ true → l.ends ≤ max m.before.server.leasing.moment now
  pub done : IsMadeOrRefused book m c

-- where none is ready nothing of the server changes
abbrev pub IsSettling : Book → Moment → (now : ℕ) → Option FileChange → Type 0
IsSettling book m now None = (happens m.before m.event).core.server ≡ m.before.server
IsSettling book m now (Some c) = TakesReady book m now c

abbrev pub SettlesReady : Book → Type 0
SettlesReady book = (m : Moment) (now : ℕ) → Contains book.moments m → m.event ≡ Settles now → IsSettling book m now (ready_by m.before.server now)

-- ---- all of it

-- what a trace's lines end in tells no more and no less than they say
pub record IsFaithful (input : List ℕ) (book : Book) : Type 0 where
  pub opening : book.opening ≡ openings_of (lines_of input)
  -- the moments, deliveries apart, are what the lines tell, and the commands those of the `do` lines
  pub lines : told_of book.moments ≡ events_of (lines_of input)
  pub commands : map told_in (deeds_of book.moments) ≡ commands_of (lines_of input)
  -- and the steps, by which they begin and end, are those of the moments
  pub counted : AreCounted 0 book.moments book.steps
  -- each command has its one operation, in order
  pub count : length book.ops ≡ length (deeds_of book.moments)
  pub done : (k : ℕ) (d : Deed) (o : Op) → slice_get (deeds_of book.moments) k ≡ Some d → slice_get book.ops k ≡ Some o
      → IsDone book d o (local_before (deeds_of book.moments) book.ops k d.client o.file)
  pub cuts : CutsEnd book
  pub journal : HasJournal book
  pub settled : (i p : ℕ) (e : Entry) → slice_get book.entries i ≡ Some p → slice_get book.journal i ≡ Some e → e.kind ≡ kind.Commit → IsSettled book i p ⊎ IsRawSettled book i p
  pub removed : (i p : ℕ) (e : Entry) → slice_get book.entries i ≡ Some p → slice_get book.journal i ≡ Some e → e.kind ≡ kind.Remove → IsRemoved book.moments p e
  pub settles : SettlesReady book
  -- a change waits no longer than the leases on its file last, and than those that stand before it
  pub waits : WaitInTurn book
  -- and no session of a client is closed, with its change
  pub closed : (m : Moment) → Contains book.moments m → ClosesRaw m
  -- a client is asked for its lease, and answers; and what it notes of leases was told it
  pub recalls : (m : Moment) → Contains book.moments m → AnswersRecall m
  pub notes : (m : Moment) → Contains book.moments m → NotesCome book.moments m
  -- an open that got its content has its point by its GETLEASE, if it began no attempt, or else by the first GETHASH of one, or in its own step, by a content that was fresh then
  pub points : (k : ℕ) (o : Op) → slice_get book.ops k ≡ Some o → OpensAt book o o.outcome
  pub versions : (k : ℕ) (o : Op) → slice_get book.ops k ≡ Some o → OpensVersion book o o.outcome
  -- a peer's fault never comes
  pub no_fault : (k n : ℕ) (o : Op) → slice_get book.ops k ≡ Some o → o.outcome ≡ told.BadPeer n → ⊥
  -- what an operation counts is what was sent and received for it; a close that sent its COMMITTMP named and sent all chunks
  pub traffic : (k : ℕ) (o : Op) → slice_get book.ops k ≡ Some o → o.traffic ≡ traffic_of o (sent_of book.moments) (taken_of book.moments)
  pub own : (k : ℕ) (o : Op) → slice_get book.ops k ≡ Some o → CountsOwn o.word o.traffic
  -- none began more attempts than an open may, and one that ended by Changed began just as many
  pub attempts : (k : ℕ) (o : Op) → slice_get book.ops k ≡ Some o → AttemptsEnd (sent_of book.moments) o
  -- and no open gave one up but where it had met another version
  pub met : (k : ℕ) (o : Op) → slice_get book.ops k ≡ Some o → o.word ≡ word.Open → AttemptsMet o (deals_of o book.moments)
  -- no answer is taken and no call made but for an operation, and those made for one are its own
  pub owned : (m : Moment) → Contains book.moments m → IsFor book.ops m
  pub calls : (k : ℕ) (d : Deed) (o : Op) → slice_get (deeds_of book.moments) k ≡ Some d → slice_get book.ops k ≡ Some o → AreCalls d.command o (deals_of o book.moments)
  -- by which one on names has its file, whatever comes of it
  pub files : (k : ℕ) (d : Deed) (o : Op) → slice_get (deeds_of book.moments) k ≡ Some d → slice_get book.ops k ≡ Some o → HasFoundFile d.command o (deals_of o book.moments)
  -- names change by such calls alone
  pub names : (m : Moment) → Contains book.moments m → NamesChangeBy book m
  -- and so does the journal grow, by entries of the session of such a call
  pub entered : (m : Moment) → Contains book.moments m → JournalGrows book m
  -- each operation that changed a file waited for the answer to the call by which that was done
  pub whose : (k p : ℕ) (o : Op) → slice_get book.ops k ≡ Some o → changes o.word ≡ true → o.point ≡ Some p → IsChangedBy book o p
  -- the calls that go up a session are numbered from 1 on, in order: no two have one number, also where its client left it
  pub numbered : (session : ℕ) → CountOn 1 (numbers_of session book.moments)
  -- what a client answers by itself counts nothing
  pub silent : (k : ℕ) (o : Op) → slice_get book.ops k ≡ Some o → o.end ≡ Some o.begin → o.traffic ≡ no_traffic
  pub opened : (k len : ℕ) (digest : List ℕ) (o : Op) → slice_get book.ops k ≡ Some o → o.outcome ≡ told.Opened len digest → OpenedBy book o
  -- Each attempt of an open, whatever comes of it, has reached the first of the chunks that GETHASH answers told it, in order, and each once: by a READ, or
  -- by the index.
  pub reached : (k : ℕ) (o : Op) → slice_get book.ops k ≡ Some o → o.word ≡ word.Open → EachReaches (deals_of o book.moments)
  -- an open that got its content had it kept, and sent no READ, or its last attempt was told its chunks, and reached all of them
  pub fetched : (k len : ℕ) (digest : List ℕ) (o : Op) → slice_get book.ops k ≡ Some o → o.outcome ≡ told.Opened len digest → GotBy book o (deals_of o book.moments)
  -- a close, whatever comes of it, has named the first chunks of its value, in order
  pub named : (k : ℕ) (o : Op) → slice_get book.ops k ≡ Some o → o.word ≡ word.Close → NamesChunks o.value (deals_of o book.moments)
  -- and has sent the bytes of just those that answers told it the server doesn't know
  pub paid : (k : ℕ) (o : Op) → slice_get book.ops k ≡ Some o → o.word ≡ word.Close → PaysAll o.value owes_nothing (deals_of o book.moments)
  pub stored : (k : ℕ) (o : Op) → slice_get book.ops k ≡ Some o → SentCommit o (sent_of book.moments) → o.traffic ≡ stored_traffic o.value (deals_of o book.moments)
  -- and each that replaced its file had sent it
  pub made : (k p : ℕ) (o : Op) → slice_get book.ops k ≡ Some o → o.word ≡ word.Close → o.point ≡ Some p → SentCommit o (sent_of book.moments)

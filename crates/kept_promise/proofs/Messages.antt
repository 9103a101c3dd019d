-- What holds of a call and of an answer on its way, if its owner waits for it.
use Rattle.std.proofs.Common.{◌≡◌, ap, ◌∙◌, ℕ, suc, ◌+◌, ◌<◌, ◌≤◌, List, [], ◌∷◌, ◌++◌, ◌⊎◌, Option, Some, None, Ok, Bool, true, false, length, take, drop}
use Rattle.hash_calls.specs.declared.call.Leased.{Leased}
use Rattle.xdr_codec.specs.declared.status.Status.TheVariants as status
use Rattle.hash_calls.specs.declared.message.Lb.TheVariants as lb
use Rattle.wire.specs.declared.message.Body.TheVariants as body
use Rattle.wire.specs.declared.message.Message.TheVariants as message
use Rattle.client_state.specs.declared.task.Stage.TheVariants as stage
use Rattle.nfs3_calls.specs.declared.message.Nfs.{Nfs}
use Rattle.tree_calls.specs.Telling.{told as told_by}
use Rattle.path_calls.specs.Walk.{next_call}
use Rattle.path_calls.specs.declared.walk.Goal.{Goal}
use Rattle.path_calls.specs.declared.walk.Goal.TheVariants as goal
use Rattle.path_calls.specs.declared.walk.Walk.{Walk}
use Rattle.server_law.proofs.lemmas.Trees.{IsBounded}
use Rattle.kept_promise.proofs.Rooted.{IsRooted}
use Rattle.kept_promise.proofs.PathNames.{IsWalkSmall, is_making, is_creating, makes_later}
use Rattle.kept_promise.proofs.Makings.{step_by}
use Rattle.kept_promise.proofs.Goings.{RefusedAs}
use Rattle.tree_calls.specs.declared.asked.Asked.{Asked}
use Rattle.tree_calls.specs.declared.asked.Asked.TheVariants as asked
use Rattle.tree_reading.specs.declared.call.Changed.{Changed as TreeChange}
use Rattle.path_calls.specs.Told.{walk_told}
use Rattle.path_calls.specs.declared.answers.Ended.TheVariants as walk_end
use Rattle.path_calls.specs.declared.answers.Told.TheVariants as leading
use Rattle.register_model.specs.declared.op.Word.TheVariants as words
use Rattle.tree_nodes.specs.declared.node.Node.{Node}
use Rattle.tree_reading.specs.Tree.{directory_of}
use Rattle.server_core.specs.Closing.{entries_by}
use Rattle.wire.specs.Parse.{parse_of}
use Rattle.trace_ends.specs.Core.{Event.Serves, server_waiting}
use Rattle.trace_replay.specs.OwnCalls.{TakesCall, ComesTo, held_at}
use Rattle.trace_replay.specs.Naming.{tree_at, entry_file, refusal_of}
use Rattle.trace_replay.specs.Trail.{Moment, step_of}
use Rattle.kept_promise.proofs.Common.{handle_bytes, Body, slice_get, cond, Status, Collides, ◌==◌, Contains, chunk_bytes, end_of, chunks_of, Chunk, Answer, Done, Failed, Attr, Committed, Hashes, HashRange, Piece, Range, hashes_of, piece_of, told_chunks, File, read_at, Fetch, ReadCall, Stage, Upload, UploadCall, Task, Value, Op, Word, TakenCall, Seat, taken_at, hashed_of, sha1, Book, Or, value_at, version_at, Tried, Call, Call.Lease, Call.Hash, Call.Read, Call.Make, Call.Name, Call.Send, Call.Commit, Reply, Reply.Versioned, Reply.Hashed, Reply.Bytes, Reply.Changed, Ask, Told, Wanted, Call.Walks, Reply.Walked, name_answer, numbered, happens, changes}
use Rattle.kept_promise.proofs.Lists.{AllOf}
use Rattle.kept_promise.proofs.Rights.{WasThere, IsHeld, IsUnmade, IsMade}
use Rattle.server_core.specs.declared.change.Wanted.TheVariants as wanted

-- ---- the operation under way

-- an operation's place, its file, and how far it has come
pub record Job : Type 0 where
  pub place : ℕ
  pub file : ℕ
  pub stage : Stage

abbrev pub job_of : Option ℕ → Option Task → Option Job
job_of (Some k) (Some t) = Some (record { place = k; file = t.file; stage = t.stage })
job_of place task = None

abbrev pub job : Seat → Option Job
job seat = job_of seat.place seat.client.task

-- what a walk is for
abbrev pub goal_word : Goal → Word
goal_word (goal.Find name) = words.Open
goal_word (goal.Rewrite name) = words.Rewrite
goal_word (goal.Look name) = words.Look
goal_word goal.LookRoot = words.Look
goal_word (goal.List pages) = words.List
goal_word (goal.Make name) = words.Make
goal_word (goal.MakeDir name) = words.Mkdir
goal_word (goal.Remove name) = words.Remove
goal_word (goal.RemoveDir name) = words.Rmdir
goal_word (goal.RenameFrom name to) = words.Rename
goal_word (goal.RenameTo from name to_name) = words.Rename

abbrev pub stage_word : Stage → Word
stage_word (stage.Making x temp) = words.Close
stage_word (stage.Storing st) = words.Close
stage_word (stage.Committing x) = words.Close
stage_word (stage.Rewriting x) = words.Rewrite
stage_word (stage.Walking x w) = goal_word w.goal
stage_word _ = words.Open

-- ---- lists of messages

abbrev pub AllAsks : (Ask → Type 0) → List Ask → Type 0
AllAsks P us = AllOf P us

abbrev pub AllTolds : (Told → Type 0) → List Told → Type 0
AllTolds P ts = AllOf P ts

abbrev pub AllUnder : ℕ → List TakenCall → Type 0
AllUnder n [] = Unit {0}
AllUnder n (t ∷ ts) = (t.xid < n) × AllUnder n ts

-- the xids of calls rise, from this one on, and stay under that one
abbrev pub Rising : ℕ → List Ask → ℕ → Type 0
Rising n [] top = n ≤ top
Rising n (a ∷ us) top = (n ≤ a.xid) × Rising (a.xid + 1) us top

-- ---- calls

-- from where a GETHASH that is waited for asks, and for which chunk a READ
abbrev pub hash_offset : Stage → (xid : ℕ) → Option ℕ
hash_offset (stage.Hashing tries x) y = cond (x == y) (Some 0) None
hash_offset (stage.Listing x f) y = cond (x == y) (Some (end_of f.chunks)) None
hash_offset _ y = None

abbrev pub chunk_for : List Chunk → Option ReadCall → Option Chunk
chunk_for chunks None = None
chunk_for chunks (Some r) = slice_get chunks r.index

abbrev pub read_chunk : Stage → (xid : ℕ) → Option Chunk
read_chunk (stage.Reading f) y = chunk_for f.chunks (read_at f.under y)
read_chunk _ y = None

-- the GETLEASE that is waited for, of an open or of a rewrite
abbrev pub lease_xid : Stage → Option ℕ
lease_xid (stage.Asking x) = Some x
lease_xid (stage.Rewriting x) = Some x
lease_xid _ = None

-- a call that the owner waits for asks for what its task wants
abbrev pub CallOf : Option Job → (xid : ℕ) → Call → Type 0
CallOf job x (Lease g) = (j : Job) → job ≡ Some j → lease_xid j.stage ≡ Some x → j.file ≡ g
CallOf job x (Hash g offset) = (j : Job) (o : ℕ) → job ≡ Some j → hash_offset j.stage x ≡ Some o → (j.file ≡ g) × (o ≡ offset)
CallOf job x (Walks w) = (j : Job) (v : Walk) → job ≡ Some j → j.stage ≡ stage.Walking x v → v ≡ w
CallOf job x (Read g c) = (j : Job) (k : Chunk) → job ≡ Some j → read_chunk j.stage x ≡ Some k → (j.file ≡ g) × (k ≡ c)
CallOf job x c = Unit {0}

abbrev pub IsAsked : Option Job → Ask → Type 0
IsAsked job a = CallOf job a.xid a.call

-- ---- answers

-- the call with this xid was taken within the job's operation, at a moment at which its file was this, in this version
pub record IsTold (book : Book) (taken : List TakenCall) (j : Job) (xid : ℕ) (v : Value) (version : ℕ) : Type 0 where
  pub moment : ℕ
  pub was : taken_at taken xid ≡ Some moment
  pub past : moment ≤ book.steps
  pub value : value_at book j.file moment ≡ v
  pub version_is : version_at book j.file moment ≡ version
  pub op : Op
  pub there : slice_get book.ops j.place ≡ Some op
  pub after : op.begin ≤ moment
  -- no change was made in that step
  pub apart : (i : ℕ) → slice_get book.entries i ≡ Some moment → ⊥

-- the calls by which an open asks, in a version of LBFS
abbrev pub lease_body : (lbfs file : ℕ) → Body
lease_body lbfs file = body.Lb (lb.GetLease (record { lbfs = lbfs; handle = handle_bytes file }))

abbrev pub hash_body : (lbfs file offset : ℕ) → Body
hash_body lbfs file offset = body.Lb (lb.GetHash (record { lbfs = lbfs; handle = handle_bytes file; offset = offset; count = 4294967295 }))

-- this call was taken, and the job's client waited for the answer
pub record IsServed (book : Book) (taken : List TakenCall) (j : Job) (xid : ℕ) (call : Body) : Type 0 where
  pub moment : ℕ
  pub was : taken_at taken xid ≡ Some moment
  pub op : Op
  pub there : slice_get book.ops j.place ≡ Some op
  pub takes : TakesCall book op.client moment xid call

-- the attempts before the one of this GETHASH, up to the moment at which it was taken
pub record IsTried (book : Book) (taken : List TakenCall) (j : Job) (xid tries : ℕ) : Type 0 where
  pub moment : ℕ
  pub was : taken_at taken xid ≡ Some moment
  pub past : moment ≤ book.steps
  pub op : Op
  pub there : slice_get book.ops j.place ≡ Some op
  pub count : ℕ
  pub tries_is : tries ≡ suc count
  pub tried : Tried book j.file op.begin count moment
  pub call : IsServed book taken j xid (hash_body book.lbfs j.file 0)

-- the same as long as it was not taken, up to now
pub record Trying (book : Book) (j : Job) (tries : ℕ) : Type 0 where
  pub op : Op
  pub there : slice_get book.ops j.place ≡ Some op
  pub count : ℕ
  pub tries_is : tries ≡ suc count
  pub tried : Tried book j.file op.begin count (book.steps + 1)

abbrev pub IsTrying : Book → Option Job → Type 0
IsTrying book job = (j : Job) (n x : ℕ) → job ≡ Some j → j.stage ≡ stage.Hashing n x → Trying book j n

-- what is told of a range is the same in each version
abbrev pub range_from : (offset : ℕ) → HashRange
range_from offset = record { lbfs = 0; handle = []; offset = offset; count = 4294967295 }

abbrev pub range_of : Chunk → Range
range_of c = record { handle = []; offset = c.start; count = c.len }

-- The chunks that are told of a file are those of the content that the server had, which were hashed. That is the file's value then, bytes that were
-- known by their digest apart.
pub record IsHashed (book : Book) (taken : List TakenCall) (j : Job) (xid offset : ℕ) (h : Hashes) : Type 0 where
  pub file : File
  pub is : h ≡ hashes_of h.term file (range_from offset)
  pub held : IsHeld book.moments j.file file
  pub value : List ℕ
  pub told : IsTold book taken j xid (Some value) file.version
  pub value_is : Or book (value ≡ file.content)
  pub short : length file.content ≤ 67108864
  pub known : WasThere book j.file
  pub hashed : (i : ℕ) (c : Chunk) → slice_get (told_chunks file.content (range_from offset)) i ≡ Some c → Contains (hashed_of book.moments) (chunk_bytes file.content c)

-- the call with this xid was taken within the job's operation, at a moment at which its id was that of a directory
pub record NamesDirectory (book : Book) (taken : List TakenCall) (j : Job) (xid : ℕ) : Type 0 where
  pub at : Moment
  pub noted : Contains book.moments at
  pub moment : ℕ
  pub step_is : step_of at ≡ moment
  pub was : taken_at taken xid ≡ Some moment
  pub past : moment ≤ book.steps
  pub op : Op
  pub there : slice_get book.ops j.place ≡ Some op
  pub after : op.begin ≤ moment
  pub node : Node
  pub node_is : directory_of (tree_at at).nodes j.file ≡ Ok node

-- what is refused was a directory then, or wasn't there
abbrev pub RefusedTold : Book → List TakenCall → Job → (xid : ℕ) → Status → Type 0
RefusedTold book taken j xid s = ((s ≡ status.IsDir) × NamesDirectory book taken j xid) ⊎ ((s ≡ status.Stale) × ((version : ℕ) × IsTold book taken j xid None version))

abbrev pub HashTold : Book → List TakenCall → Job → (xid offset : ℕ) → Answer Hashes Unit → Type 0
HashTold book taken j xid offset (Failed s u) = RefusedTold book taken j xid s
HashTold book taken j xid offset (Done h) = IsHashed book taken j xid offset h

-- a version that was told is the file's then
pub record IsLeased (book : Book) (taken : List TakenCall) (j : Job) (xid : ℕ) (l : Leased) : Type 0 where
  pub value : List ℕ
  pub told : IsTold book taken j xid (Some value) l.version
  pub call : IsServed book taken j xid (lease_body book.lbfs j.file)
  pub known : WasThere book j.file

abbrev pub LeaseTold : Book → List TakenCall → Job → (xid : ℕ) → Answer Leased Unit → Type 0
LeaseTold book taken j xid (Failed s u) = RefusedTold book taken j xid s
LeaseTold book taken j xid (Done l) = IsLeased book taken j xid l

-- a READ was taken after the attempt's first GETHASH, and this is what the server had of the file then
pub record IsRead (book : Book) (taken : List TakenCall) (j : Job) (first : ℕ) (c : Chunk) (p : Piece) : Type 0 where
  pub file : File
  pub is : p ≡ piece_of file (range_of c)
  pub held : IsHeld book.moments j.file file
  pub began : ℕ
  pub was : taken_at taken first ≡ Some began
  pub last : ℕ
  pub order : began < last
  pub past : last ≤ book.steps
  pub version_is : version_at book j.file last ≡ file.version

-- a READ is refused where its file is gone
abbrev pub ReadTold : Book → List TakenCall → Job → (xid first : ℕ) → Chunk → Answer Piece (Option Attr) → Type 0
ReadTold book taken j xid first c (Failed s a) = RefusedTold book taken j xid s
ReadTold book taken j xid first c (Done p) = IsRead book taken j first c p

abbrev pub CommitTold : Book → (closing : Option ℕ) → Job → Answer Committed Unit → Type 0
CommitTold book closing j (Done c) = IsMade book j.place c.version
CommitTold book closing j (Failed s u) = (op : Op) × (slice_get book.ops j.place ≡ Some op) × IsUnmade op × (closing ≡ Some j.place)

-- ---- what is told of names, and of what was made

-- the operation of a walk's call that can't change a file is as its client left it; that of one that may is still unmade, or has its point and its file
abbrev pub UnmadeBy : (creates : Bool) → (closing : Option ℕ) → Job → Op → Type 0
UnmadeBy false closing j o = Unit {0}
UnmadeBy true closing j o = IsUnmade o × (o.file ≡ 0) × (closing ≡ Some j.place)

abbrev pub PointedBy : (creates : Bool) → (closing : Option ℕ) → Job → Op → (step : ℕ) → (changed : Option ℕ) → Type 0
PointedBy false closing j o step changed = Unit {0}
PointedBy true closing j o step changed = ((changed ≡ None) × UnmadeBy true closing j o) ⊎ ((file : ℕ) × (changed ≡ Some file) × (changes o.word ≡ true) × (o.point ≡ Some step) × (o.file ≡ file))

-- the tree told this of a walk's call, in a step in which no change was made
abbrev pub TellsWalk : Book → (at : Moment) → (step : ℕ) → Walk → Nfs → Type 0
TellsWalk book at step w m = (told_by (tree_at at).nodes (next_call w) ≡ Some m) × ((i : ℕ) → slice_get book.entries i ≡ Some step → ⊥)

-- its last call was refused, and nothing was made
pub record RefusesWalk (at : Moment) (closing : Option ℕ) (j : Job) (o : Op) (w : Walk) (m : Nfs) : Type 0 where
  pub making : is_making w ≡ true
  pub why : Status
  pub why_is : RefusedAs (tree_at at) w why
  pub refuses : refusal_of m ≡ Some why
  pub leads : walk_told w m ≡ leading.Ends (walk_end.Refused why)
  pub unmade : UnmadeBy (is_creating w) closing j o

-- a walk's call was taken on this session, and its client had this job then, which waited for the answer
pub record IsTakenFor (book : Book) (client : ℕ) (j : Job) (session xid : ℕ) (w : Walk) : Type 0 where
  pub at : Moment
  pub noted : Contains book.moments at
  pub past : step_of at ≤ book.steps
  pub now : ℕ
  pub bytes : List ℕ
  pub event_is : at.event ≡ Serves session now bytes
  pub parsed : parse_of server_waiting bytes ≡ Ok (message.Call xid (body.Nfs (next_call w)))
  pub seat : Seat
  pub seat_is : numbered at.before.seats client ≡ Some seat
  pub newest : seat.session ≡ Some session
  pub job_is : job seat ≡ Some j
  pub stage_is : j.stage ≡ stage.Walking xid w

-- or the tree's own step was made, as that was taken, or once it had waited
pub record MakesWalk (book : Book) (at : Moment) (step : ℕ) (closing : Option ℕ) (j : Job) (o : Op) (w : Walk) (m : Nfs) : Type 0 where
  pub making : is_making w ≡ true
  pub session : ℕ
  pub xid : ℕ
  pub taken : IsTakenFor book o.client j session xid w
  pub comes : ComesTo at session xid (step_of taken.at)
  pub before : step_of taken.at ≤ step
  pub done : TreeChange
  pub step_is : (step_by (tree_at at) (held_at at) w.dir w.goal).1 ≡ Ok done
  pub tree_is : (happens at.before at.event).core.server.tree ≡ (step_by (tree_at at) (held_at at) w.dir w.goal).0
  pub journal_is : (happens at.before at.event).core.server.journal ≡ at.before.server.journal ++ entries_by session done.first done.second
  pub leads : walk_told w m ≡ leading.Ends walk_end.Done
  pub pointed : PointedBy (is_creating w) closing j o step (entry_file done.first)

abbrev pub WalkCame : Book → (at : Moment) → (step : ℕ) → (closing : Option ℕ) → Job → Op → Walk → Nfs → Type 0
WalkCame book at step closing j o w m = TellsWalk book at step w m ⊎ (RefusesWalk at closing j o w m ⊎ MakesWalk book at step closing j o w m)

-- the call of a walk with this xid was taken within the job's operation, at a moment at which the server's tree told this of it, or this came of it
pub record WalkTold (book : Book) (taken : List TakenCall) (closing : Option ℕ) (j : Job) (xid : ℕ) (w : Walk) (m : Nfs) : Type 0 where
  pub at : Moment
  pub noted : Contains book.moments at
  pub moment : ℕ
  pub step_is : step_of at ≡ moment
  -- what waited is answered later
  pub was : is_making w ≡ false → taken_at taken xid ≡ Some moment
  pub past : moment ≤ book.steps
  pub op : Op
  pub there : slice_get book.ops j.place ≡ Some op
  pub after : op.begin ≤ moment
  pub bounded : IsBounded (tree_at at)
  pub rooted : IsRooted (tree_at at).nodes
  pub came : WalkCame book at moment closing j op w m
  -- it was sent in that step
  pub session : ℕ
  pub sent : Contains (happens at.before at.event).down (record { session = session; message = message.Answer xid (body.Nfs m) })
  -- and the client, which was at this session, had this job then
  pub seat : Seat
  pub seat_is : numbered at.before.seats op.client ≡ Some seat
  pub newest : seat.session ≡ Some session
  pub job_is : job seat ≡ Some j
  -- of this operation
  pub then_op : Op
  pub then_is : slice_get at.before.ops j.place ≡ Some then_op
  pub then_began : then_op.begin ≡ op.begin

-- a call was taken behind the first one of its attempt
pub record IsAfter (taken : List TakenCall) (first x : ℕ) : Type 0 where
  pub began : ℕ
  pub was : taken_at taken first ≡ Some began
  pub last : ℕ
  pub is : taken_at taken x ≡ Some last
  pub order : began < last

abbrev pub TriedBy : Book → List TakenCall → Job → (xid : ℕ) → Stage → Type 0
TriedBy book taken j x (stage.Hashing tries y) = IsTried book taken j x tries
TriedBy book taken j x (stage.Listing y f) = IsAfter taken f.first x
TriedBy book taken j x _ = Unit {0}

-- an answer that the owner waits for is true
abbrev pub AnswerOf : Book → List TakenCall → (closing : Option ℕ) → Option Job → (xid : ℕ) → Reply → Type 0
AnswerOf book taken closing job x (Versioned a) = (j : Job) → job ≡ Some j → lease_xid j.stage ≡ Some x → LeaseTold book taken j x a
AnswerOf book taken closing job x (Hashed a) = (j : Job) (o : ℕ) → job ≡ Some j → hash_offset j.stage x ≡ Some o → HashTold book taken j x o a × TriedBy book taken j x j.stage
AnswerOf book taken closing job x (Bytes a) = (j : Job) (f : Fetch) (c : Chunk) → job ≡ Some j → j.stage ≡ stage.Reading f → read_chunk j.stage x ≡ Some c → ReadTold book taken j x f.first c a
AnswerOf book taken closing job x (Changed a) = (j : Job) → job ≡ Some j → j.stage ≡ stage.Committing x → CommitTold book closing j a
AnswerOf book taken closing job x (Walked r) = (j : Job) (w : Walk) → job ≡ Some j → j.stage ≡ stage.Walking x w → WalkTold book taken closing j x w (name_answer r)
AnswerOf book taken closing job x r = Unit {0}

abbrev pub IsAnswer : Book → List TakenCall → (closing : Option ℕ) → Option Job → Told → Type 0
IsAnswer book taken closing job t = AnswerOf book taken closing job t.xid t.reply

-- ---- a fetch

-- an attempt has the first chunks of the content that the server had of its file, in its version, when its first GETHASH was taken
pub record IsFetch (book : Book) (taken : List TakenCall) (j : Job) (f : Fetch) : Type 0 where
  pub file : File
  pub held : IsHeld book.moments j.file file
  pub version : file.version ≡ f.version
  pub value : List ℕ
  pub told : IsTold book taken j f.first (Some value) f.version
  pub value_is : Or book (value ≡ file.content)
  pub tried : IsTried book taken j f.first f.tries
  pub size : f.size ≡ length file.content
  pub short : length file.content ≤ 67108864
  pub known : WasThere book j.file
  pub count : ℕ
  pub within : count ≤ length (chunks_of file.content)
  pub chunks : f.chunks ≡ take count (chunks_of file.content)
  pub hashed : (i : ℕ) (c : Chunk) → slice_get f.chunks i ≡ Some c → Contains (hashed_of book.moments) (chunk_bytes file.content c)

-- all chunks are told; what has come of each is its bytes, and each that was asked for has come or is under way
pub record IsReading (book : Book) (content : List ℕ) (f : Fetch) : Type 0 where
  pub whole : f.chunks ≡ chunks_of content
  pub slots : length f.slots ≡ length f.chunks
  pub came : (i : ℕ) (b : List ℕ) (c : Chunk) → slice_get f.slots i ≡ Some (Some b) → slice_get f.chunks i ≡ Some c → Or book (b ≡ chunk_bytes content c) × (length b ≡ c.len)
  pub asked : f.asked ≤ length f.chunks
  pub inside : (k : ℕ) (r : ReadCall) → slice_get f.under k ≡ Some r → r.index < f.asked
  pub filled : (i : ℕ) → i < f.asked → ((b : List ℕ) × (slice_get f.slots i ≡ Some (Some b))) ⊎ ((k : ℕ) × (r : ReadCall) × (slice_get f.under k ≡ Some r) × (r.index ≡ i))

abbrev pub FetchOf : Book → List TakenCall → Job → Stage → Type 0
FetchOf book taken j (stage.Listing x f) = IsFetch book taken j f × (f.asked ≡ 0) × (f.under ≡ [])
FetchOf book taken j (stage.Reading f) = (h : IsFetch book taken j f) × IsReading book h.file.content f
FetchOf book taken j (stage.Walking x w) = (j.file ≡ 0) × IsWalkSmall w
FetchOf book taken j _ = Unit {0}

abbrev pub HasFetch : Book → List TakenCall → Option Job → Type 0
HasFetch book taken job = (j : Job) → job ≡ Some j → FetchOf book taken j j.stage

-- ---- a change on its way

-- the content that a commit which waits is to store
abbrev pub content_wanted : Wanted → List ℕ
content_wanted (wanted.Content content) = content
content_wanted (wanted.Asked a) = []

-- a change is on its way, as a call or as one that waits: it is that of the close which the session remembers, with its value, bytes that were known by
-- their digest apart
pub record IsPending (book : Book) (closing : Option ℕ) (cut : Bool) (job : Option Job) (xid file : ℕ) (content : List ℕ) : Type 0 where
  pub place : ℕ
  pub known : closing ≡ Some place
  pub op : Op
  pub there : slice_get book.ops place ≡ Some op
  pub unmade : IsUnmade op
  pub word_is : op.word ≡ words.Close
  pub file_is : op.file ≡ file
  pub size_is : length op.value ≡ length content
  pub value_is : Or book (op.value ≡ content)
  -- as long as the owner is at this session, it waits for it
  pub waited : cut ≡ false → job ≡ Some (record { place = place; file = file; stage = stage.Committing xid })

-- which word asks for what waits, and by which walk's call
abbrev pub asked_word : Asked → Word
asked_word (asked.Remove r) = words.Remove
asked_word (asked.Rename r) = words.Rename

abbrev pub AsksFor : Walk → Asked → Type 0
AsksFor w (asked.Remove r) = (w.left ≡ []) × (w.goal ≡ goal.Remove r.spot.name) × (w.dir ≡ r.spot.dir)
AsksFor w (asked.Rename r) = (w.left ≡ []) × (w.goal ≡ goal.RenameTo r.from.dir r.from.name r.to.name) × (w.dir ≡ r.to.dir)

-- the walk whose last call waits
abbrev pub walk_for : Asked → Walk
walk_for (asked.Remove r) = record { dir = r.spot.dir; left = []; goal = goal.Remove r.spot.name }
walk_for (asked.Rename r) = record { dir = r.to.dir; left = []; goal = goal.RenameTo r.from.dir r.from.name r.to.name }

pub walk_is : (w : Walk) (a : Asked) → AsksFor w a → w ≡ walk_for a
walk_is w (asked.Remove r) h = ap (λ (l : List (List ℕ)). record w { left = l }) h.0 ∙ ap (λ (g : Goal). record { dir = w.dir; left = []; goal = g }) h.1 ∙ ap (λ (d : ℕ). record { dir = d; left = []; goal = goal.Remove r.spot.name }) h.2
walk_is w (asked.Rename r) h = ap (λ (l : List (List ℕ)). record w { left = l }) h.0 ∙ ap (λ (g : Goal). record { dir = w.dir; left = []; goal = g }) h.1 ∙ ap (λ (d : ℕ). record { dir = d; left = []; goal = goal.RenameTo r.from.dir r.from.name r.to.name }) h.2

-- A remove, or a rename over a file, waits: it is that of the operation which the session remembers, which may still take effect.
pub record IsGoing (book : Book) (session : ℕ) (closing : Option ℕ) (cut : Bool) (job : Option Job) (xid : ℕ) (a : Asked) : Type 0 where
  pub place : ℕ
  pub known : closing ≡ Some place
  pub op : Op
  pub there : slice_get book.ops place ≡ Some op
  pub unmade : IsUnmade op
  pub word_is : op.word ≡ asked_word a
  pub file_is : op.file ≡ 0
  -- as long as the owner is at this session, it waits for it
  pub waited : cut ≡ false → (w : Walk) × (job ≡ Some (record { place = place; file = 0; stage = stage.Walking xid w })) × AsksFor w a
  -- and waited for it when the call was taken
  pub taken : cut ≡ false → IsTakenFor book op.client (record { place = place; file = 0; stage = stage.Walking xid (walk_for a) }) session xid (walk_for a)

-- a pending change
abbrev pub WaitsFor : Book → (session : ℕ) → (closing : Option ℕ) → (cut : Bool) → Option Job → (xid file : ℕ) → Wanted → Type 0
WaitsFor book session closing cut job xid file (wanted.Content content) = IsPending book closing cut job xid file content
WaitsFor book session closing cut job xid file (wanted.Asked a) = IsGoing book session closing cut job xid a

-- A call that may change a file is on its way: it is that of the operation which the session remembers, which may still take effect.
pub record IsCreating (book : Book) (closing : Option ℕ) (cut : Bool) (job : Option Job) (xid : ℕ) (w : Walk) : Type 0 where
  pub place : ℕ
  pub known : closing ≡ Some place
  pub op : Op
  pub there : slice_get book.ops place ≡ Some op
  pub unmade : IsUnmade op
  pub word_is : op.word ≡ goal_word w.goal
  pub file_is : op.file ≡ 0
  -- as long as the owner is at this session, it waits for it
  pub waited : cut ≡ false → job ≡ Some (record { place = place; file = 0; stage = stage.Walking xid w })

-- a commit names a temporary file whose pieces are to be the close's value
abbrev pub CommitOf : Book → (closing : Option ℕ) → (cut : Bool) → Option Job → (contents : ℕ → List ℕ) → (xid : ℕ) → Call → Type 0
CommitOf book closing cut job contents x (Commit temp file size) = IsPending book closing cut job x file (contents temp) × (size ≡ length (contents temp))
CommitOf book closing cut job contents x (Walks w) = is_creating w ≡ true → IsCreating book closing cut job x w
CommitOf book closing cut job contents x c = Unit {0}

abbrev pub IsCommit : Book → (closing : Option ℕ) → (cut : Bool) → Option Job → (contents : ℕ → List ℕ) → Ask → Type 0
IsCommit book closing cut job contents a = CommitOf book closing cut job contents a.xid a.call

-- ---- a close under way

-- bytes are those of a content, at this place
abbrev pub IsPartOf : (content : List ℕ) → (start : ℕ) → (bytes : List ℕ) → Type 0
IsPartOf content start bytes = bytes ≡ take (length bytes) (drop start content)

-- a chunk is named as it is in a content, and its bytes were hashed
pub record IsNamed (hashed : List (List ℕ)) (content : List ℕ) (c : Chunk) : Type 0 where
  pub digest : c.digest ≡ sha1 (chunk_bytes content c)
  pub len : length (chunk_bytes content c) ≡ c.len
  pub there : Contains hashed (chunk_bytes content c)

-- what is named or sent for a temporary file is a part of what it is to be
abbrev pub PieceOf : (hashed : List (List ℕ)) → (contents : ℕ → List ℕ) → Call → Type 0
PieceOf hashed contents (Name temp c) = IsNamed hashed (contents temp) c
PieceOf hashed contents (Send temp start bytes) = IsPartOf (contents temp) start bytes
PieceOf hashed contents c = Unit {0}

abbrev pub IsPiece : (hashed : List (List ℕ)) → (contents : ℕ → List ℕ) → Ask → Type 0
IsPiece hashed contents a = PieceOf hashed contents a.call

abbrev pub TempUnder : ℕ → Call → Type 0
TempUnder n (Make temp file) = temp < n
TempUnder n (Name temp c) = temp < n
TempUnder n (Send temp start bytes) = temp < n
TempUnder n (Commit temp file size) = temp < n
TempUnder n c = Unit {0}

-- the pieces of a temporary file are those of a content, bytes that were known by their digest apart
abbrev pub AreParts : (hashed : List (List ℕ)) → (content : List ℕ) → List (ℕ × List ℕ) → Type 0
AreParts hashed content [] = Unit {0}
AreParts hashed content (p ∷ ps) = (IsPartOf content p.0 p.1 ⊎ Collides hashed) × AreParts hashed content ps

-- a close that has not yet sent its commit
pub record IsOwed (book : Book) (closing : Option ℕ) (j : Job) (content : List ℕ) : Type 0 where
  pub known : closing ≡ Some j.place
  pub op : Op
  pub there : slice_get book.ops j.place ≡ Some op
  pub unmade : IsUnmade op
  pub word_is : op.word ≡ words.Close
  pub value_is : op.value ≡ content
  -- its number has a spelling
  pub small : j.file < 18446744073709551616

pub record IsStoring (content : List ℕ) (st : Upload) : Type 0 where
  pub chunks : st.chunks ≡ chunks_of content
  pub named : st.named ≤ length st.chunks
  pub inside : (k : ℕ) (c : UploadCall) → slice_get st.under k ≡ Some c → c.index < st.named

-- a command that may change a file and has not yet asked for it
pub record IsNameOwed (book : Book) (closing : Option ℕ) (j : Job) (g : Goal) : Type 0 where
  pub known : closing ≡ Some j.place
  pub op : Op
  pub there : slice_get book.ops j.place ≡ Some op
  pub unmade : IsUnmade op
  pub word_is : op.word ≡ goal_word g
  pub file_is : op.file ≡ 0

abbrev pub CloseOf : Book → (closing : Option ℕ) → (contents : ℕ → List ℕ) → (next_temp : ℕ) → Job → (local : List ℕ) → Stage → Type 0
CloseOf book closing contents n j v (stage.Making x temp) = IsOwed book closing j v × (contents temp ≡ v) × (temp < n)
CloseOf book closing contents n j v (stage.Storing st) = IsOwed book closing j v × (contents st.temp ≡ v) × (st.temp < n) × IsStoring v st
CloseOf book closing contents n j v (stage.Committing x) = (op : Op) × (slice_get book.ops j.place ≡ Some op) × (op.word ≡ words.Close) × (op.value ≡ v)
CloseOf book closing contents n j v (stage.Walking x w) = makes_later w.left w.goal ≡ true → IsNameOwed book closing j w.goal
CloseOf book closing contents n j v _ = Unit {0}

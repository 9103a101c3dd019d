-- What holds in each world of a run: of each session with its owner, of each client, and of all together.
use Rattle.std.proofs.Common.{◌≡◌, ℕ, suc, ◌+◌, ◌*◌, ◌<◌, ◌≤◌, List, [], ◌∷◌, ◌⊎◌, Option, Some, None, Bool, true, false, length, map, sym, subst, arith}
use Rattle.client_cache.specs.Cache.{Entries, content_of as kept_of}
use Rattle.client_cache.specs.declared.kept.Content.{Content}
use Rattle.server_core.specs.State as server
use Rattle.chunk_calls.specs.Files as the_files
use Rattle.client_state.specs.State as client
use Rattle.client_state.specs.declared.task.Stage.TheVariants as stage
use Rattle.client_state.specs.declared.task.Way.TheVariants as way
use Rattle.register_model.specs.declared.op.Outcome.TheVariants as told
use Rattle.kept_promise.proofs.Common.{slice_get, not, is_raw, MessageFits, Pending, stands, Temp, key_of, FileChange, File, Local, Stage, UploadCall, Op, Core, Seat, Session, numbered, hashed_of, Book, HadContent, Or, value_at, version_at, Call, Call.Commit, Call.Walks, Ask, Queue, told_message, cond, changes, Leasing, taken_at}
use Rattle.kept_promise.proofs.PathNames.{IsWalkSmall, walk_calls, is_creating}
use Rattle.kept_promise.proofs.Statements.{IsSpoken, ToldFits, CallFits}
use Rattle.kept_promise.proofs.Keys.{times, own, on_way, pending_key, IsOurs}
use Rattle.kept_promise.proofs.Messages.{Job, job, stage_word, goal_word, AllAsks, AllTolds, AllUnder, Rising, IsAsked, IsAnswer, IsTrying, HasFetch, IsCommit, IsPiece, WaitsFor, walk_for, TempUnder, AreParts, CloseOf, content_wanted}
use Rattle.kept_promise.proofs.Rights.{WasThere, IsSound}
use Rattle.kept_promise.proofs.Shelf.{IsShelf}
use Rattle.kept_promise.proofs.Orderly.{Orderly}
use Rattle.server_core.specs.declared.change.Wanted.{Wanted}
use Rattle.server_core.specs.declared.change.Wanted.TheVariants as wanted
use Rattle.tree_calls.specs.Waiting.{file_of}
use Rattle.kept_promise.proofs.Departures.{AreTwo}
use Rattle.server_law.proofs.lemmas.Trees.{IsBounded}
use Rattle.kept_promise.proofs.Rooted.{IsRooted}
use Rattle.tree_nodes.specs.Nodes.{with_id}
use Rattle.kept_promise.proofs.Unused.{IsUnused}
use Rattle.kept_promise.proofs.RecallsKept.{AreRecalls}

-- ---- xids

abbrev pub names_in : List UploadCall → ℕ
names_in [] = 0
names_in (c ∷ cs) = elim c.way [ way.Named ↦ suc (names_in cs) | way.Whole ↦ names_in cs ]

-- each call that an operation may still send has an xid
abbrev pub HasXids : (next : ℕ) → Stage → Type 0
HasXids next (stage.Asking x) = next + 380001 ≤ 4294967296
HasXids next (stage.Rewriting x) = next ≤ 4294967296
HasXids next (stage.Hashing tries x) = (spare : ℕ) × (tries + spare ≡ 4) × (next + 100000 * spare + 80000 ≤ 4294967296)
HasXids next (stage.Listing x f) = (spare : ℕ) × (f.tries + spare ≡ 4) × (next + 100000 * spare + 80000 ≤ 4294967296 + length f.chunks)
HasXids next (stage.Reading f) = (spare : ℕ) × (f.tries + spare ≡ 4) × (next + 100000 * spare + 40000 ≤ 4294967296 + f.asked)
HasXids next (stage.Making x temp) = next + 80002 ≤ 4294967296
HasXids next (stage.Storing st) = next + 80001 + names_in st.under ≤ 4294967296 + 2 * st.named
HasXids next (stage.Committing x) = next ≤ 4294967296
HasXids next (stage.Walking x w) = next + walk_calls w ≤ 4294967296

-- ---- a session whose owner is there

-- each call that waits for its answer is on its way once, unless the server lost the connection
pub record IsBalanced (n : ℕ) (waiting : List FileChange) (q : Queue) (hung : Bool) (next : ℕ) (calls : List Pending) : Type 0 where
  pub most : (y : ℕ) → times y (on_way n waiting q) ≤ times y (map pending_key calls)
  pub least : hung ≡ false → (y : ℕ) → times y (map pending_key calls) ≤ times y (on_way n waiting q)
  pub once : (y : ℕ) → times y (map (λ p. p.xid) calls) ≤ 1
  pub below : (y : ℕ) → next ≤ y → times y (map (λ p. p.xid) calls) ≡ 0
  pub ours : (i : ℕ) (p : Pending) → slice_get calls i ≡ Some p → IsOurs p.program

pub record IsTalk (book : Book) (n : ℕ) (waiting : List FileChange) (x : Session) (q : Queue) (seat : Seat) : Type 0 where
  pub floor : ℕ
  pub under : AllUnder floor x.taken
  pub rising : Rising floor q.ups seat.client.next_xid
  -- numbers of calls begin with 1
  pub numbered : (0 < floor) × (taken_at x.taken 0 ≡ None)
  pub asked : AllAsks (IsAsked (job seat)) q.ups
  pub answers : AllTolds (IsAnswer book x.taken x.closing (job seat)) q.downs
  pub fetch : HasFetch book x.taken (job seat)
  pub balanced : IsBalanced n waiting q x.hung seat.client.next_xid (client.calls_of seat.client)
  -- where the owner waits, something is under way
  pub busy : (j : Job) → job seat ≡ Some j → 0 < length (client.pending_in j.stage)

-- ---- any session

-- a call that may change a file: a commit, or one that makes a file
abbrev pub change_number : Call → ℕ
change_number (Commit temp file size) = 1
change_number (Walks w) = cond (is_creating w) 1 0
change_number c = 0

abbrev pub commits_in : List Ask → ℕ
commits_in [] = 0
commits_in (a ∷ us) = change_number a.call + commits_in us

pub record IsSession (book : Book) (seats : List Seat) (s : server.State) (n : ℕ) (x : Session) (q : Queue) : Type 0 where
  pub seat : Seat
  pub owner : numbered seats x.owner ≡ Some seat
  pub here : x.cut ≡ false → (seat.session ≡ Some n) × (seat.client.linked ≡ true)
  pub shut : x.cut ≡ true → q.downs ≡ []
  pub lost : x.hung ≡ true → q.ups ≡ []
  pub stands_is : stands s n ≡ not x.hung
  pub ups_fit : AllAsks (λ a. CallFits a.lbfs a.xid a.call) q.ups
  -- each call is of the version that the clients speak, and each answer is laid out in it
  pub ups_speak : AllAsks (λ a. a.lbfs ≡ book.lbfs) q.ups
  pub downs_fit : AllTolds (ToldFits book.lbfs) q.downs
  pub talk : x.cut ≡ false → IsTalk book n s.waiting x q seat
  -- what each temporary file of the session is to be
  pub contents : ℕ → List ℕ
  pub lengths : (m : ℕ) → length (contents m) ≤ 67108864
  pub commits : AllAsks (IsCommit book x.closing x.cut (job seat) contents) q.ups
  pub pieces : AllAsks (IsPiece (hashed_of book.moments) contents) q.ups
  pub temps : (i m : ℕ) (e : ℕ × Temp) → m < 4294967296 → slice_get s.temps i ≡ Some e → e.0 ≡ key_of n m → AreParts (hashed_of book.moments) (contents m) e.1.pieces × (key_of e.1.session e.1.fd ≡ e.0)
  pub temps_below : x.cut ≡ false → AllAsks (λ a. TempUnder seat.client.next_temp a.call) q.ups × ((i m : ℕ) (e : ℕ × Temp) → m < 4294967296 → slice_get s.temps i ≡ Some e → e.0 ≡ key_of n m → m < seat.client.next_temp)
  pub closes : x.cut ≡ false → (j : Job) → job seat ≡ Some j → CloseOf book x.closing contents seat.client.next_temp j (client.local_bytes seat.client.opened j.file) j.stage
  pub pending : (i : ℕ) (c : FileChange) → slice_get (own n s.waiting) i ≡ Some c → WaitsFor book c.session x.closing x.cut (job seat) c.xid c.file c.what
  pub single : commits_in q.ups + length (own n s.waiting) ≤ 1
  pub old : (k : ℕ) → x.closing ≡ Some k → (o : Op) × (slice_get book.ops k ≡ Some o) × (o.client ≡ x.owner)
  pub orderly : x.cut ≡ false → Orderly book n s.temps x.hung q seat

-- ---- a session that is no client's

-- What it does is bounded by its calls alone: of what it sends nothing is known, and nothing is said of it but that what it holds at the server is its own.
-- What is sent to it vanishes, and none of the operations of clients is its.
pub record IsRawSession (s : server.State) (n : ℕ) (x : Session) (q : Queue) : Type 0 where
  pub shut : x.cut ≡ true
  pub closing : x.closing ≡ None
  pub ups : q.ups ≡ []
  pub downs : q.downs ≡ []
  pub stands_is : stands s n ≡ not x.hung
  pub temps : (i m : ℕ) (e : ℕ × Temp) → m < 4294967296 → slice_get s.temps i ≡ Some e → e.0 ≡ key_of n m → key_of e.1.session e.1.fd ≡ e.0
  -- it has one change that waits at most
  pub single : length (own n s.waiting) ≤ 1

-- ---- a client

-- whether the server may give the operation of a stage its file
abbrev pub is_naming : Stage → Bool
is_naming (stage.Walking x w) = changes (goal_word w.goal)
is_naming s = false

-- a job is that of a running operation of the client
pub record IsOf (book : Book) (i : ℕ) (j : Job) : Type 0 where
  pub op : Op
  pub there : slice_get book.ops j.place ≡ Some op
  pub client : op.client ≡ i
  pub word : op.word ≡ stage_word j.stage
  pub file : is_naming j.stage ≡ false → op.file ≡ j.file
  pub running : op.outcome ≡ told.Running

-- each content that is kept of a file is what it had in its version: what is kept under 0 is no file's
abbrev pub Cached : Book → Entries → Type 0
Cached book cache = (f : ℕ) (c : Content) → kept_of cache f ≡ Some c → (0 < f → HadContent book f c.version c.bytes) × (length c.bytes ≤ 67108864) × (0 < f → WasThere book f) × (f ≡ 0 → c.version ≡ 0)

-- an operation is under way where a task is
abbrev pub IsMatched : Seat → Type 0
IsMatched seat = ((seat.place ≡ None) × (seat.client.task ≡ None)) ⊎ ((j : Job) × (job seat ≡ Some j))

pub record IsSeat (book : Book) (sessions : List Session) (i : ℕ) (seat : Seat) : Type 0 where
  pub session : (n : ℕ) → seat.session ≡ Some n → (x : Session) × (numbered sessions n ≡ Some x) × (x.owner ≡ i)
  pub linked : seat.client.linked ≡ true → (n : ℕ) × (x : Session) × (seat.session ≡ Some n) × (numbered sessions n ≡ Some x) × (x.cut ≡ false)
  pub unlinked : seat.client.linked ≡ false → (seat.client.task ≡ None) × (seat.client.forgotten ≡ [])
  pub speaks : seat.client.lbfs ≡ book.lbfs
  pub matched : IsMatched seat
  pub task : (j : Job) → job seat ≡ Some j → IsOf book i j
  pub trying : IsTrying book (job seat)
  pub xids : (j : Job) → job seat ≡ Some j → HasXids seat.client.next_xid j.stage
  pub next : (seat.client.next_xid ≤ 4294967296) × (seat.client.next_temp ≤ seat.client.next_xid)
  -- what is open is a file of the tree, and within the limit
  pub opened : (f : ℕ) (l : Local) → client.local_at seat.client.opened f ≡ Some l → WasThere book f × (length l.bytes ≤ 67108864)
  pub kept : Cached book seat.client.cache

-- ---- the server

-- a content is what the history says of a file, bytes that were known by their digest apart
pub record IsValue (book : Book) (f : ℕ) (content : List ℕ) : Type 0 where
  pub value : List ℕ
  pub is : value_at book f (book.steps + 1) ≡ Some value
  pub size : length value ≡ length content
  pub same : Or book (value ≡ content)

-- what the tree has of a file is what the history says
abbrev pub FileIs : Book → (file : ℕ) → Option File → Type 0
FileIs book f None = value_at book f (book.steps + 1) ≡ None
FileIs book f (Some g) = (g.id ≡ f) × (1 < f) × (f < 18446744073709551616) × IsValue book f g.content × (version_at book f (book.steps + 1) ≡ g.version) × (length g.content ≤ 67108864)

-- what the tree has is there
pub is_there : (book : Book) (f : ℕ) (g : File) → FileIs book f (Some g) → WasThere book f
is_there book f g h = record { positive = h.1; small = h.2; moment = book.steps + 1; past = omega arith; value = h.3.value; value_is = h.3.is }

-- a commit is of any file
abbrev pub IsWanted : (file : ℕ) → Wanted → Type 0
IsWanted file (wanted.Content content) = Unit {0}
IsWanted file (wanted.Asked a) = (file ≡ file_of a) × AreTwo a × IsWalkSmall (walk_for a)

-- the term has a record, and what is waited for are answers to RECALLs
abbrev pub IsLeasing : Leasing → Type 0
IsLeasing g = (g.term < 4294967296) × AreRecalls g.calls

pub record IsServer (book : Book) (s : server.State) : Type 0 where
  pub held : (f : ℕ) → FileIs book f (the_files.file_at s.tree f)
  -- what no file has had as its number has no version
  pub fresh : (f : ℕ) → IsUnused s.tree f → version_at book f (book.steps + 1) ≡ 0
  -- its tree is within the limits
  pub bounded : IsBounded s.tree
  -- no node has the id 0
  pub zero : with_id s.tree.nodes 0 ≡ None
  -- the root is there, and names are short
  pub rooted : IsRooted s.tree.nodes
  -- each change that waits is of the file that it says, and has its room
  pub wants : (i : ℕ) (c : FileChange) → slice_get s.waiting i ≡ Some c → IsWanted c.file c.what
  pub changes : s.tree.changes + server.entries_held s.waiting ≤ 4294967295
  pub bytes : server.bytes_held s ≤ 1073741824
  pub lengths : (i : ℕ) (c : FileChange) → slice_get s.waiting i ≡ Some c → length (content_wanted c.what) ≤ 67108864
  -- each change that waits is of a file of the tree
  pub targets : (i : ℕ) (c : FileChange) → slice_get s.waiting i ≡ Some c → WasThere book c.file
  pub xids : (i : ℕ) (c : FileChange) → slice_get s.waiting i ≡ Some c → c.xid < 4294967296
  pub leases : IsLeasing s.leasing
  -- the version that the clients speak is one that is served
  pub serves : IsSpoken book.lbfs

-- ---- all of it

-- of each session a step that is past, or none
pub record AreCome (came : List ℕ) (count steps : ℕ) : Type 0 where
  pub many : length came ≡ count
  pub past : (n p : ℕ) → numbered came n ≡ Some p → p ≤ steps

pub record IsKept (book : Book) (k : Core) (qs : List Queue) : Type 0 where
  pub lbfs : book.lbfs ≡ k.lbfs
  pub ops : book.ops ≡ k.ops
  pub steps : book.steps ≡ k.steps
  pub journal : book.journal ≡ k.server.journal
  pub entries : book.entries ≡ k.entries
  pub sound : IsSound book
  pub server : IsServer book k.server
  pub made : (length k.sessions ≡ k.server.sessions_made) × (length qs ≡ length k.sessions)
  pub raws : book.raws ≡ k.raws
  pub came : AreCome k.came (length k.sessions) k.steps
  pub sessions : (n : ℕ) (x : Session) (q : Queue) → numbered k.sessions n ≡ Some x → numbered qs n ≡ Some q → is_raw x ≡ false → IsSession book k.seats k.server n x q
  pub strangers : (n : ℕ) (x : Session) (q : Queue) → numbered k.sessions n ≡ Some x → numbered qs n ≡ Some q → is_raw x ≡ true → IsRawSession k.server n x q
  pub seats : (i : ℕ) (seat : Seat) → numbered k.seats i ≡ Some seat → IsSeat book k.sessions i seat
  -- each operation that runs is its client's job
  pub running : (p : ℕ) (o : Op) → slice_get book.ops p ≡ Some o → o.outcome ≡ told.Running → (seat : Seat) × (j : Job) × (numbered k.seats o.client ≡ Some seat) × (job seat ≡ Some j) × (j.place ≡ p)
  -- no two sessions remember one close
  pub closings : (m n p : ℕ) (x y : Session) → numbered k.sessions m ≡ Some x → numbered k.sessions n ≡ Some y → x.closing ≡ Some p → y.closing ≡ Some p → m ≡ n
  -- a pending change is of a session that the server has not lost
  pub home : (i : ℕ) (c : FileChange) → slice_get k.server.waiting i ≡ Some c → (x : Session) × (numbered k.sessions c.session ≡ Some x) × (x.hung ≡ false)
  -- temporary files stand by rising keys
  pub shelf : IsShelf k.server.temps
  -- no temporary file is of a session that was never made
  pub unborn : (n m i : ℕ) (e : ℕ × Temp) → length k.sessions < n → m < 4294967296 → slice_get k.server.temps i ≡ Some e → e.0 ≡ key_of n m → ⊥

-- the version that a client speaks is one that is served
pub spoken_by : (book : Book) (k : Core) (qs : List Queue) (i : ℕ) (seat : Seat) → IsKept book k qs → numbered k.seats i ≡ Some seat → IsSpoken seat.client.lbfs
spoken_by book k qs i seat kept at = subst IsSpoken (sym (kept.seats i seat at).speaks) kept.server.serves

-- The calls of a close and their answers are in order: each is of the operation under way, and the session's temporary file holds just
-- what the server took.
use Rattle.std.proofs.Common.{◌≡◌, ◌⊎◌, ℕ, ◌<◌, ◌≤◌, List, [], Option, Some, None, Bool, true, false, length, Ok}
use Rattle.xdr_codec.specs.declared.status.Status.TheVariants as status
use Rattle.hash_calls.specs.declared.call.Commit.{Commit as Commit_call}
use Rattle.hash_calls.specs.declared.message.Lb.TheVariants as lb
use Rattle.wire.specs.declared.message.Body.TheVariants as body
use Rattle.wire.specs.declared.message.Message.TheVariants as message
use Rattle.client_state.specs.State as client
use Rattle.trace_replay.specs.OwnCalls.{WaitsFor}
use Rattle.client_state.specs.declared.task.Stage.TheVariants as stage
use Rattle.client_state.specs.declared.task.Way.TheVariants as way
use Rattle.register_model.specs.declared.op.Word.TheVariants as words
use Rattle.kept_promise.proofs.Common.{slice_get, Contains, chunks_of, chunk_bytes, Chunk, Done, Failed, parse_of, is_full, Temp, store_at, Stage, Upload, UploadCall, Way, Op, Seat, Event.Serves, server_waiting, Moment, step_of, Book, Call, Call.Make, Call.Name, Call.Send, Call.Commit, Reply, Reply.Made, Reply.Named, Reply.Stored, Reply.Changed, Ask, Told, Queue, Answer, Status, value_at}
use Rattle.kept_promise.proofs.Statements.{PiecesOf, SameShape}
use Rattle.kept_promise.proofs.Messages.{Job, job, stage_word, AllAsks, AllTolds}
use Rattle.kept_promise.proofs.Shelf.{NoTemp, OneTemp}
use Rattle.kept_promise.proofs.Rights.{WasThere}

-- ---- the call of a store

-- the operation under way waits for this call of its store
pub record IsStore (job : Option Job) (xid : ℕ) (w : Way) : Type 0 where
  pub of : Job
  pub is : job ≡ Some of
  pub store : Upload
  pub at : of.stage ≡ stage.Storing store
  pub call : UploadCall
  pub found : store_at store.under xid ≡ Some call
  pub way : call.way ≡ w

-- ---- calls on their way

-- what a client has open, by file
abbrev pub locals_of : client.State → ℕ → List ℕ
locals_of c file = client.local_bytes c.opened file

-- a call of a close is one that the operation under way waits for
abbrev pub InPlace : Option Job → (ℕ → List ℕ) → (xid : ℕ) → Call → Type 0
InPlace job v x (Make m f) = (j : Job) × (job ≡ Some j) × (j.stage ≡ stage.Making x m) × (j.file ≡ f)
InPlace job v x (Name m c) = (s : IsStore job x way.Named) × (s.store.temp ≡ m) × (slice_get s.store.chunks s.call.index ≡ Some c)
InPlace job v x (Send m start bytes) = (s : IsStore job x way.Whole) × (s.store.temp ≡ m) × ((c : Chunk) × (slice_get s.store.chunks s.call.index ≡ Some c) × (start ≡ c.start) × (bytes ≡ chunk_bytes (v s.of.file) c))
InPlace job v x (Commit m f size) = (j : Job) × (job ≡ Some j) × (j.stage ≡ stage.Committing x) × (j.file ≡ f) × (size ≡ length (v j.file))
InPlace job v x _ = Unit {0}

abbrev pub IsInPlace : Option Job → (ℕ → List ℕ) → Ask → Type 0
IsInPlace job v a = InPlace job v a.xid a.call

-- ---- answers on their way

-- when its COMMITTMP was taken within an operation the tree had no room for its value
pub record NoRoom (book : Book) (o : Op) : Type 0 where
  pub moment : Moment
  pub there : Contains book.moments moment
  pub session : ℕ
  pub now : ℕ
  pub bytes : List ℕ
  pub event_is : moment.event ≡ Serves session now bytes
  pub xid : ℕ
  pub call : Commit_call
  pub parsed : parse_of server_waiting bytes ≡ Ok (message.Call xid (body.Lb (lb.CommitTmp call)))
  pub size : call.size ≡ length o.value
  pub after : o.begin ≤ step_of moment
  pub before : step_of moment ≤ book.steps
  pub waits : WaitsFor moment o.client session xid
  pub full : is_full moment.before.server (length o.value) ≡ true

-- its file was gone at a moment within it
pub record Went (book : Book) (o : Op) : Type 0 where
  pub step : ℕ
  pub after : o.begin ≤ step
  pub before : step ≤ book.steps
  pub value_is : value_at book o.file step ≡ None

-- why a close is refused: for want of room, or since its file was gone
abbrev pub Denied : Book → Op → Status → Type 0
Denied book o s = (NoRoom book o × (s ≡ status.NoSpc)) ⊎ (Went book o × (s ≡ status.Stale))

-- where it asks for a temporary file it is for the latter
abbrev pub MadeTold : Book → Job → Answer Unit Unit → Type 0
MadeTold book j (Done u) = Unit {0}
MadeTold book j (Failed s u) = (o : Op) × (slice_get book.ops j.place ≡ Some o) × (o.word ≡ words.Close) × Went book o × (s ≡ status.Stale)

-- an answer to a call of a close is one that the operation under way waits for, and it is no refusal but for one of these
abbrev pub Wanted : Book → Option Job → (xid : ℕ) → Reply → Type 0
Wanted book job x (Made a) = (j : Job) × (m : ℕ) × (job ≡ Some j) × (j.stage ≡ stage.Making x m) × MadeTold book j a
Wanted book job x (Named a) = IsStore job x way.Named × ((a ≡ Done tt) ⊎ (a ≡ Failed status.HashNotFound tt))
Wanted book job x (Stored a) = IsStore job x way.Whole × (a ≡ Done tt)
Wanted book job x (Changed (Failed s u)) = (j : Job) × (o : Op) × (job ≡ Some j) × (j.stage ≡ stage.Committing x) × (slice_get book.ops j.place ≡ Some o) × (o.word ≡ words.Close) × Denied book o s
Wanted book job x r = Unit {0}

abbrev pub IsWanted : Book → Option Job → Told → Type 0
IsWanted book job t = Wanted book job t.xid t.reply

-- ---- the temporary file

abbrev pub UpMake : List Ask → (xid : ℕ) → Type 0
UpMake us x = (i m f lbfs : ℕ) × (slice_get us i ≡ Some (record { lbfs = lbfs; xid = x; call = Make m f }))

abbrev pub UpSend : List Ask → (xid : ℕ) → Type 0
UpSend us x = (i m s : ℕ) × (b : List ℕ) × (lbfs : ℕ) × (slice_get us i ≡ Some (record { lbfs = lbfs; xid = x; call = Send m s b }))

abbrev pub UpCommit : List Ask → (xid : ℕ) → Type 0
UpCommit us x = (i m f size lbfs : ℕ) × (slice_get us i ≡ Some (record { lbfs = lbfs; xid = x; call = Commit m f size }))

-- the answer that the server knew the chunk of a name, and that it is on its way down
abbrev pub known_reply : Reply
known_reply = Named (Done tt)

abbrev pub DownKnown : List Told → (xid : ℕ) → Type 0
DownKnown ts x = (i : ℕ) × (slice_get ts i ≡ Some (record { xid = x; reply = known_reply }))

-- that a temporary file was refused is on its way down
abbrev pub DownRefused : List Told → (xid : ℕ) → Type 0
DownRefused ts x = (i : ℕ) × (s : Status) × (u : Unit {0}) × (slice_get ts i ≡ Some (record { xid = x; reply = Made (Failed s u) }))

-- The pieces have the places and lengths of the chunks whose bytes the server took, or knew: all that were named, but those whose name is under way and
-- not known yet, or whose bytes are on their way up.
pub record Holds (v : List ℕ) (us : List Ask) (ts : List Told) (st : Upload) (pieces : List (ℕ × List ℕ)) : Type 0 where
  pub has : Chunk → Bool
  pub pieces_is : SameShape pieces (PiecesOf v has (chunks_of v))
  pub later : (i : ℕ) (c : Chunk) → slice_get (chunks_of v) i ≡ Some c → st.named ≤ i → has c ≡ false
  pub done : (i : ℕ) (c : Chunk) → slice_get (chunks_of v) i ≡ Some c → i < st.named → ((k : ℕ) (u : UploadCall) → slice_get st.under k ≡ Some u → u.index ≡ i → ⊥) → has c ≡ true
  pub by_name : (k : ℕ) (u : UploadCall) (c : Chunk) → slice_get st.under k ≡ Some u → u.way ≡ way.Named → (DownKnown ts u.xid → ⊥) → slice_get (chunks_of v) u.index ≡ Some c → has c ≡ false
  pub known : (k : ℕ) (u : UploadCall) (c : Chunk) → slice_get st.under k ≡ Some u → u.way ≡ way.Named → DownKnown ts u.xid → slice_get (chunks_of v) u.index ≡ Some c → has c ≡ true
  pub up : (k : ℕ) (u : UploadCall) (c : Chunk) → slice_get st.under k ≡ Some u → UpSend us u.xid → slice_get (chunks_of v) u.index ≡ Some c → has c ≡ false
  pub taken : (k : ℕ) (u : UploadCall) (c : Chunk) → slice_get st.under k ≡ Some u → u.way ≡ way.Whole → (UpSend us u.xid → ⊥) → slice_get (chunks_of v) u.index ≡ Some c → has c ≡ true
  -- each chunk is under way once
  pub apart : (k m : ℕ) (u w : UploadCall) → slice_get st.under k ≡ Some u → slice_get st.under m ≡ Some w → u.index ≡ w.index → u ≡ w

abbrev pub HeldIn : List (ℕ × Temp) → (n : ℕ) → List Ask → List Told → (v : List ℕ) → Stage → Type 0
HeldIn temps n us ts v (stage.Making x m) = (UpMake us x → NoTemp temps n) × ((UpMake us x → ⊥) → (DownRefused ts x → ⊥) → (t : Temp) × OneTemp temps n m t × (t.pieces ≡ [])) × (DownRefused ts x → NoTemp temps n)
HeldIn temps n us ts v (stage.Storing st) = (t : Temp) × OneTemp temps n st.temp t × Holds v us ts st t.pieces
HeldIn temps n us ts v (stage.Committing x) = ((u : UpCommit us x) → (t : Temp) × OneTemp temps n u.1 t × SameShape t.pieces (PiecesOf v (λ c. true) (chunks_of v))) × ((UpCommit us x → ⊥) → NoTemp temps n)
HeldIn temps n us ts v s = NoTemp temps n

abbrev pub HoldsTemp : List (ℕ × Temp) → (n : ℕ) → List Ask → List Told → (ℕ → List ℕ) → Option Job → Type 0
HoldsTemp temps n us ts v None = NoTemp temps n
HoldsTemp temps n us ts v (Some j) = HeldIn temps n us ts (v j.file) j.stage

-- ---- all of it

pub record Orderly (book : Book) (n : ℕ) (temps : List (ℕ × Temp)) (hung : Bool) (q : Queue) (seat : Seat) : Type 0 where
  pub asks : AllAsks (IsInPlace (job seat) (locals_of seat.client)) q.ups
  pub tolds : AllTolds (IsWanted book (job seat)) q.downs
  pub holds : hung ≡ false → HoldsTemp temps n q.ups q.downs (locals_of seat.client) (job seat)
  -- a close is of a file of the tree
  pub tree : (j : Job) → job seat ≡ Some j → stage_word j.stage ≡ words.Close → WasThere book j.file

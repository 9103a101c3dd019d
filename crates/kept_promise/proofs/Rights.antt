-- What holds of an operation, and of the journal beside the operations.
use Rattle.std.proofs.Common.{◌≡◌, ◌⊎◌, ℕ, ◌+◌, ◌<◌, ◌≤◌, List, length, Some, None, Bool, true, false, IsSome, refl, sym, ◌∙◌, subst}
use Rattle.path_calls.specs.declared.walk.Walk.{Walk}
use Rattle.chunk_calls.specs.Files as the_files
use Rattle.client_state.specs.declared.task.Stage.TheVariants as stage
use Rattle.register_model.specs.declared.op.Outcome.{Outcome}
use Rattle.register_model.specs.declared.op.Outcome.TheVariants as told
use Rattle.register_model.specs.declared.op.Word.TheVariants as words
use Rattle.tree_reading.specs.declared.entry.EntryKind.{EntryKind}
use Rattle.register_model.specs.Register.{succeeded, IsFit}
use Rattle.register_model.specs.declared.raw.Raw.{Raw}
use Rattle.register_model.specs.Raw.{op_of}
use Rattle.xdr_codec.specs.Handle.{handle_bytes}
use Rattle.hash_calls.specs.declared.message.Lb.TheVariants as lb
use Rattle.wire.specs.declared.message.Body.TheVariants as body
use Rattle.trace_replay.specs.Causes.{HasNoRoom, IsGone, IsDirectory, Within, OrBy}
use Rattle.trace_replay.specs.Naming.{IsInside}
use Rattle.trace_replay.specs.OwnCalls.{TakesCall}
pub use Rattle.trace_replay.specs.AtOnce.{acts_for, acts_at, EndsFresh}
use Rattle.trace_replay.specs.Trail.{step_of}
use Rattle.trace_replay.specs.Faithful.{IsKind, HasJournal}
use Rattle.std.proofs.Common.{List}
use Rattle.client_cache.specs.Cache.{content_of as kept_of, fresh_of}
use Rattle.client_cache.specs.declared.kept.Content.{Content}
use Rattle.kept_promise.proofs.Lists.{some_is}
use Rattle.kept_promise.proofs.Common.{Entry, Or, Task, Seat, numbered, slice_get, not, is_some, Contains, sha1, File, Moment, value_at, version_at, is_lost, is_untold, Op, Word, Book, IsOpened, IsClosed, IsChanged, IsLost, IsOpenRefused, IsEntered, is_running, changes, nat_lt}

-- ---- what is fresh

-- at each moment a content that is fresh to the client that acts is of the version that the server's tree then has
abbrev pub AreLeased : List Moment → Type 0
AreLeased moments = (m : Moment) (c now f : ℕ) (seat : Seat) (kept : Content) → Contains moments m → acts_at m.before m.event ≡ Some (c, now) → numbered m.before.seats c ≡ Some seat
    → kept_of seat.client.cache f ≡ Some kept → fresh_of seat.client.cache f now ≡ Some kept.bytes → (g : File) × (the_files.file_at m.before.server.tree f ≡ Some g) × (g.version ≡ kept.version)

-- an open got the content that its file had at its point, if no note was stale
pub record IsOpenedIf (book : Book) (file : ℕ) (o : Op) (len : ℕ) (digest : List ℕ) : Type 0 where
  pub length_is : len ≡ length o.value
  pub digest_is : digest ≡ sha1 o.value
  pub point : ℕ
  pub within : Within o point
  pub value_is : AreLeased book.moments → Or book (value_at book file point ≡ Some o.value)

-- What rests on digests while an operation goes on, on those of all that these moments hash, is told of what was hashed by its end alone:
-- of an open and of a close that succeeded.
abbrev pub Soon : Book → Op → Outcome → Type 0
Soon book o (told.Opened len digest) = (p : ℕ) × (o.point ≡ Some p) × OrBy book o (value_at book o.file p ≡ Some o.value)
Soon book o (told.Closed version len digest) = (p : ℕ) × (o.point ≡ Some p) × IsEntered book o o.file p version len digest
Soon book o u = Unit {0}

pub opened_if : (book : Book) (o : Op) (len : ℕ) (digest : List ℕ) → Soon book o (told.Opened len digest) → IsOpenedIf book o.file o len digest → IsOpened book o.file o len digest
opened_if book o len digest soon h = record {
  length_is = h.length_is;
  digest_is = h.digest_is;
  point = h.point;
  within = h.within;
  value_is = subst (λ (p : ℕ). OrBy book o (value_at book o.file p ≡ Some o.value)) (some_is soon.0 h.point (sym soon.1 ∙ h.within.0)) soon.2;
}

-- a change of the file was made at the point, of which the server's journal tells this, or lists of the run share a digest
pub record IsEnteredIf (book : Book) (file point version len : ℕ) (digest : List ℕ) : Type 0 where
  pub place : ℕ
  pub entry : Entry
  pub step_is : slice_get book.entries place ≡ Some point
  pub entry_is : slice_get book.journal place ≡ Some entry
  pub file_is : entry.file ≡ file
  pub version_is : entry.version ≡ version
  pub len_is : entry.len ≡ len
  pub digest_is : Or book (entry.sha1 ≡ digest)

pub record IsClosedIf (book : Book) (file : ℕ) (o : Op) (version len : ℕ) (digest : List ℕ) : Type 0 where
  pub length_is : len ≡ length o.value
  pub digest_is : digest ≡ sha1 o.value
  pub point : ℕ
  pub within : Within o point
  pub entered : IsEnteredIf book file point version len digest

pub closed_if : (book : Book) (o : Op) (version len : ℕ) (digest : List ℕ) → Soon book o (told.Closed version len digest) → IsClosedIf book o.file o version len digest → IsClosed book o.file o version len digest
closed_if book o version len digest soon h = record {
  length_is = h.length_is;
  digest_is = h.digest_is;
  point = h.point;
  within = h.within;
  entered = subst (λ (p : ℕ). IsEntered book o o.file p version len digest) (some_is soon.0 h.point (sym soon.1 ∙ h.within.0)) soon.2;
}

pub open_not_close : words.Open ≡ words.Close → ⊥
open_not_close e = absurd cc

pub close_not_open : words.Close ≡ words.Open → ⊥
close_not_open e = absurd cc

-- it goes to the server
abbrev pub is_remote : Word → Bool
is_remote words.Open = true
is_remote words.Rewrite = true
is_remote words.Close = true
is_remote words.Look = true
is_remote words.List = true
is_remote words.Make = true
is_remote words.Mkdir = true
is_remote words.Rmdir = true
is_remote words.Remove = true
is_remote words.Rename = true
is_remote _ = false

-- it may have a point: what goes to the server, but a rewrite
abbrev pub may_point : Word → Bool
may_point words.Rewrite = false
may_point w = is_remote w

-- it has no file before it has made its change
abbrev pub gets_file : Word → Bool
gets_file words.Make = true
gets_file words.Remove = true
gets_file words.Rename = true
gets_file _ = false

-- A file was in the tree at a moment that is past, or is there now.
pub record WasThere (book : Book) (f : ℕ) : Type 0 where
  pub positive : 1 < f
  -- its number has a spelling
  pub small : f < 18446744073709551616
  pub moment : ℕ
  pub past : moment ≤ book.steps + 1
  pub value : List ℕ
  pub value_is : value_at book f moment ≡ Some value

-- At a moment its client looked names up, for an operation that began with it.
pub record WasWalk (book : Book) (o : Op) : Type 0 where
  pub at : Moment
  pub noted : Contains book.moments at
  pub seat : Seat
  pub seat_is : numbered at.before.seats o.client ≡ Some seat
  pub place : ℕ
  pub place_is : seat.place ≡ Some place
  pub task : Task
  pub task_is : seat.client.task ≡ Some task
  pub xid : ℕ
  pub walk : Walk
  pub stage_is : task.stage ≡ stage.Walking xid walk
  pub then_op : Op
  pub then_is : slice_get at.before.ops place ≡ Some then_op
  pub then_began : then_op.begin ≡ o.begin

-- a rewrite was refused, by now
abbrev pub RewriteRefused : Book → Op → (status : ℕ) → Type 0
RewriteRefused book o status = ((status ≡ 21) × IsDirectory book o o.file) ⊎ ((status ≡ 70) × ((step : ℕ) × IsInside o o.begin step × (step ≤ book.steps) × (value_at book o.file step ≡ None)))

-- the file of a rewrite that is done was there when the server took its GETLEASE, by now
pub record Renewed (book : Book) (o : Op) : Type 0 where
  pub step : ℕ
  pub inside : IsInside o o.begin step
  pub past : step ≤ book.steps
  pub value : List ℕ
  pub value_is : value_at book o.file step ≡ Some value
  pub xid : ℕ
  pub taken : TakesCall book o.client step xid (body.Lb (lb.GetLease (record { lbfs = book.lbfs; handle = handle_bytes o.file })))
  pub known : WasThere book o.file

-- or it ended at once, and the file was there then, if no note was stale
pub record RenewedNow (book : Book) (o : Op) : Type 0 where
  pub ends : EndsFresh book.moments o
  pub past : step_of ends.moment ≤ book.steps
  pub value_is : AreLeased book.moments → IsSome (value_at book o.file (step_of ends.moment))
  pub known : WasThere book o.file

abbrev pub RenewedBy : Book → Op → Type 0
RenewedBy book o = Renewed book o ⊎ RenewedNow book o

abbrev pub RefusedBy : Book → Op → Word → (status : ℕ) → Type 0
-- one of a path may be refused before its file is known
RefusedBy book o words.Open status = IsOpenRefused book o.file o status ⊎ ((o.file ≡ 0) × (status ≡ 70 → (p : ℕ) × Within o p) × WasWalk book o)
RefusedBy book o words.Rewrite status = RewriteRefused book o status ⊎ ((o.file ≡ 0) × WasWalk book o)
RefusedBy book o words.Look status = Unit {0}
RefusedBy book o words.List status = Unit {0}
RefusedBy book o words.Make status = Unit {0}
RefusedBy book o words.Mkdir status = Unit {0}
RefusedBy book o words.Rmdir status = Unit {0}
RefusedBy book o words.Remove status = Unit {0}
RefusedBy book o words.Rename status = Unit {0}
RefusedBy book o words.Close status = HasNoRoom book o status ⊎ ((h : IsGone book o status) × (h.step ≤ book.steps))
RefusedBy book o w status = ⊥

-- what is done and changes a file has its point; a rename changes one where there was one at its new place
abbrev pub DoneBy : Book → Op → Word → Type 0
DoneBy book o words.Make = IsSome o.point
DoneBy book o words.Remove = IsSome o.point
DoneBy book o words.Rename = nat_lt 0 o.file ≡ true → IsSome o.point
DoneBy book o words.Rewrite = RenewedBy book o
DoneBy book o w = Unit {0}

-- The cause of an outcome, by the word alone; what a client answers by itself has none here.
abbrev pub Caused : Book → Op → Outcome → Type 0
Caused book o (told.Opened len digest) = (o.word ≡ words.Open) × IsOpenedIf book o.file o len digest × WasThere book o.file
Caused book o (told.Refused status) = RefusedBy book o o.word status
Caused book o (told.Changed first last) = (o.word ≡ words.Open) × IsChanged book o.file o first last
Caused book o (told.Closed version len digest) = (o.word ≡ words.Close) × IsClosedIf book o.file o version len digest
Caused book o told.Lost = (is_remote o.word ≡ true) × IsLost book o
Caused book o told.Running = (is_remote o.word ≡ true) × (o.end ≡ None)
Caused book o (told.BadPeer n) = ⊥
Caused book o told.PeerMemory = ⊥
Caused book o told.Memory = ⊥
Caused book o (told.Names names) = o.word ≡ words.List
Caused book o (told.Seen file kind version len) = o.word ≡ words.Look
Caused book o told.Done = DoneBy book o o.word
Caused book o _ = Unit {0}

pub record IsRight (book : Book) (o : Op) : Type 0 where
  pub cause : Caused book o o.outcome
  pub begun : o.begin ≤ book.steps
  pub pointed : (p : ℕ) → o.point ≡ Some p → (o.begin ≤ p) × (p ≤ book.steps) × (may_point o.word ≡ true)
  pub past : (e : ℕ) → o.end ≡ Some e → (o.begin ≤ e) × (e ≤ book.steps)
  pub ends : is_some o.end ≡ not (is_running o.outcome)
  -- its point is not behind its end, unless it was lost
  pub within : is_lost o.outcome ≡ false → (p e : ℕ) → o.point ≡ Some p → o.end ≡ Some e → p ≤ e
  -- a change that was told otherwise takes no effect
  pub failed : changes o.word ≡ true → succeeded o ≡ false → is_untold o.outcome ≡ false → o.point ≡ None

-- a change that may still take effect
abbrev pub IsUnmade : Op → Type 0
IsUnmade o = (changes o.word ≡ true) × (o.point ≡ None) × (is_untold o.outcome ≡ true)

-- the close at a place has its point, and its entry this version, in which its file had its value
abbrev pub IsMade : Book → (place version : ℕ) → Type 0
IsMade book place v = (o : Op) × (p : ℕ) × (slice_get book.ops place ≡ Some o) × (o.word ≡ words.Close) × (o.point ≡ Some p) × (p ≤ book.steps) × IsEnteredIf book o.file p v (length o.value) (sha1 o.value)
    × ((q : ℕ) × (q ≤ book.steps + 1) × (version_at book o.file q ≡ v) × (value_at book o.file q ≡ Some o.value))

-- ---- what the server had

-- a file was this at one of these moments
pub record IsHeld (moments : List Moment) (f : ℕ) (g : File) : Type 0 where
  pub at : Moment
  pub there : Contains moments at
  pub held : the_files.file_at at.before.server.tree f ≡ Some g

-- in one version a file has one content
abbrev pub AreAlike : List Moment → Type 0
AreAlike moments = (f : ℕ) (g h : File) → IsHeld moments f g → IsHeld moments f h → g.version ≡ h.version → g.content ≡ h.content

pub kind_changes : (w : Word) (k : EntryKind) → IsKind w k → changes w ≡ true
kind_changes words.Close k h = refl
kind_changes words.Make k h = refl
kind_changes words.Remove k h = refl
kind_changes words.Rename k h = refl
kind_changes _ k h = absurd h

-- a change was made of a file that was what it must be
abbrev pub IsFitted : Book → Op → Type 0
IsFitted book o = changes o.word ≡ true → (p : ℕ) → o.point ≡ Some p → (1 < o.file) × IsFit o.word (value_at book o.file p)

-- A change of a session that is no client's was made by now, once it was asked for, of a file that was what it must be.
pub record IsStranger (book : Book) (r : Raw) : Type 0 where
  pub order : r.begin ≤ r.point
  pub past : r.point ≤ book.steps
  pub positive : 1 < r.file
  pub fit : IsFit (op_of r).word (value_at book r.file r.point)

-- what holds of all operations together
pub record IsSound (book : Book) : Type 0 where
  pub rights : (k : ℕ) (o : Op) → slice_get book.ops k ≡ Some o → IsRight book o
  pub fits : (k : ℕ) (o : Op) → slice_get book.ops k ≡ Some o → IsFitted book o
  pub strangers : (k : ℕ) (r : Raw) → slice_get book.raws k ≡ Some r → IsStranger book r
  pub journal : HasJournal book
  -- no entry is of a step to come
  pub past : (i p : ℕ) → slice_get book.entries i ≡ Some p → (0 < p) × (p ≤ book.steps)
  pub alike : AreAlike book.moments

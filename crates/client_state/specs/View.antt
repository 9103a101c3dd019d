-- The client's fields as a state, and what always holds of them.
use Rattle.std.specs.List.{All}
use Rattle.std.specs.Map.{values_of}
use Rattle.std.specs.Prelude.{◌≡◌, ℕ, ◌+◌, ◌-◌, ◌*◌, ◌<◌, ◌≤◌, ◌^◌, List, [], ◌∷◌, ◌++◌, length, drop, Option, Some, None, IsSome}
use Rattle.chunk_cut.specs.Places.{end_of}
use Rattle.chunk_cut.specs.declared.chunk.Chunk.{Chunk}
use Rattle.wire.specs.declared.message.Pending.{Pending}
use Rattle.wire.specs.declared.message.Side.TheVariants as side
use Rattle.client_cache.specs.Cache.{Entries, kept_of}
use Rattle.client_cache.specs.declared.kept.Content.{Content}
use Rattle.client_cache.specs.declared.kept.Kept.{Kept}
use Rattle.path_calls.specs.Walk.{calls_left as calls_behind}
use Rattle.path_calls.specs.declared.walk.Goal.{Goal}
use Rattle.path_calls.specs.declared.walk.Goal.TheVariants as goal
use Rattle.path_calls.specs.declared.walk.Walk.{Walk}
use Rattle.transfer_rules.specs.Limits.{tries_most, file_limit, chunk_least, chunk_most}
use Rattle.client_state.specs.State.{State, IsRising, pending}
use Rattle.client_state.specs.declared.state.ClientState.{ClientState}
use Rattle.client_state.specs.declared.task.Fetch.{Fetch}
use Rattle.client_state.specs.declared.task.Local.{Local}
use Rattle.client_state.specs.declared.task.Stage.TheVariants as stage
use Rattle.client_state.specs.declared.task.Stage.{Stage}
use Rattle.client_state.specs.declared.task.Upload.{Upload}
use Rattle.client_state.specs.declared.task.UploadCall.{UploadCall}
use Rattle.client_state.specs.declared.task.Task.{Task}
use Rattle.client_state.specs.declared.task.Way.TheVariants as way
use Rattle.client_state.specs.declared.task.Way.{Way}

abbrev pub state_of : ClientState → State
state_of s = record { linked = s.linked; next_xid = s.next_xid; next_temp = s.next_temp; opened = s.opened.entries; task = s.task; forgotten = drop s.own s.waiting.calls; cache = s.cache; index = s.index; clock = s.clock; sent = s.sent; drift = s.drift; lbfs = s.waiting.lbfs }

-- the state, and all calls that wait
abbrev pub whole_of : ClientState → State × List Pending
whole_of s = (state_of s, s.waiting.calls)

-- ---- sizes

abbrev pub length_sum : List Chunk → ℕ
length_sum [] = 0
length_sum (c ∷ cs) = c.len + length_sum cs

abbrev pub IsChunkBounded : Chunk → Type 0
IsChunkBounded c = c.len ≤ chunk_most

-- what is fetched stays within the limit of a file
pub record IsFetch (f : Fetch) : Type 0 where
  pub sum : length_sum f.chunks ≡ end_of f.chunks
  pub size : end_of f.chunks ≤ f.size
  pub limit : end_of f.chunks ≤ file_limit
  -- all chunks but the file's last have the least length
  pub few : chunk_least * length f.chunks ≤ end_of f.chunks + chunk_least
  pub lens : All IsChunkBounded f.chunks
  pub tries : f.tries ≤ tries_most

-- each slot is a chunk's, and the bytes in it have the chunk's length
abbrev pub FitsIn : List (Option (List ℕ)) → List Chunk → Type 0
FitsIn [] [] = Unit {0}
FitsIn (None ∷ slots) (c ∷ cs) = FitsIn slots cs
FitsIn (Some bytes ∷ slots) (c ∷ cs) = (length bytes ≡ c.len) × FitsIn slots cs
FitsIn slots cs = ⊥

-- no chunk is asked for before all are told
abbrev pub IsListing : Fetch → Type 0
IsListing f = IsFetch f × (chunk_least * length f.chunks ≤ end_of f.chunks) × (f.asked ≡ 0)

abbrev pub IsReading : Fetch → Type 0
IsReading f = IsFetch f × FitsIn f.slots f.chunks × (f.asked ≤ length f.chunks)

pub record IsStore (st : Upload) : Type 0 where
  pub few : chunk_least * length st.chunks ≤ file_limit + chunk_least
  pub lens : All IsChunkBounded st.chunks
  pub named : st.named ≤ length st.chunks

abbrev pub IsWithin : Stage → Type 0
IsWithin (stage.Hashing tries xid) = tries ≤ tries_most
IsWithin (stage.Listing xid f) = IsListing f
IsWithin (stage.Reading f) = IsReading f
IsWithin (stage.Storing st) = IsStore st
IsWithin p = Unit {0}

abbrev pub TaskIsWithin : Option Task → Type 0
TaskIsWithin None = Unit {0}
TaskIsWithin (Some t) = IsWithin t.stage

-- ---- xids

-- an attempt, or a close, takes no more: a GETHASH and a READ, or a CONDWRITE and a TMPWRITE, for each of at most 32,769 chunks
abbrev pub attempt_most : ℕ
attempt_most = 65540

-- the calls that the attempts behind this one may take
abbrev pub later_left : (tries : ℕ) → ℕ
later_left tries = (tries_most - tries) * attempt_most

-- the calls that the answer to one under way may bring about: the bytes of a chunk that was named
abbrev pub calls_after : Way → ℕ
calls_after way.Named = 1
calls_after way.Whole = 0

abbrev pub calls_after_all : List UploadCall → ℕ
calls_after_all [] = 0
calls_after_all (c ∷ cs) = calls_after c.way + calls_after_all cs

-- the most calls that a close may still send, with COMMITTMP
abbrev pub store_left : Upload → ℕ
store_left st = 2 * (length st.chunks - st.named) + calls_after_all st.under + 1

-- the calls that may follow of the open, a GETLEASE and all attempts, or of the rewrite, a GETLEASE
abbrev pub open_left : Goal → ℕ
open_left (goal.Find name) = 2 + attempt_most + later_left 1
open_left (goal.Rewrite name) = 1
open_left g = 0

-- the most calls that a walk may still send behind its next one
abbrev pub walk_left : Walk → ℕ
walk_left w = calls_behind w + open_left w.goal

abbrev pub calls_left : Stage → ℕ
calls_left (stage.Asking xid) = 1 + attempt_most + later_left 1
calls_left (stage.Rewriting xid) = 0
calls_left (stage.Hashing tries xid) = attempt_most + later_left tries
calls_left (stage.Listing xid f) = attempt_most - length f.chunks + later_left f.tries
calls_left (stage.Reading f) = length f.chunks - f.asked + 1 + later_left f.tries
calls_left (stage.Making xid temp) = attempt_most
calls_left (stage.Storing st) = store_left st
calls_left (stage.Committing xid) = 0
calls_left (stage.Walking xid w) = walk_left w

-- each call that an operation may still send has an xid
abbrev pub HasXids : ℕ → Stage → Type 0
HasXids next p = next + calls_left p < 2 ^ 32

abbrev pub TaskHasXids : ℕ → Option Task → Type 0
TaskHasXids next None = Unit {0}
TaskHasXids next (Some t) = HasXids next t.stage

-- ---- what is kept

-- a file has an entry in the cache, for what an answer brings
abbrev pub IsThere : Entries → (file : ℕ) → Type 0
IsThere cache file = IsSome (kept_of cache file)

-- where an operation may end with a content that is kept
abbrev pub StageIsThere : Entries → (file : ℕ) → Stage → Type 0
StageIsThere cache file (stage.Making xid temp) = Unit {0}
StageIsThere cache file (stage.Storing st) = Unit {0}
StageIsThere cache file (stage.Walking xid w) = Unit {0}
StageIsThere cache file p = IsThere cache file

abbrev pub TaskIsThere : Entries → Option Task → Type 0
TaskIsThere cache None = Unit {0}
TaskIsThere cache (Some t) = StageIsThere cache t.file t.stage

-- ---- the whole

abbrev pub IsLocalBounded : Local → Type 0
IsLocalBounded l = length l.bytes ≤ file_limit

-- what is kept of a file is within the limit of a file
abbrev pub IsContentBounded : Option Content → Type 0
IsContentBounded None = Unit {0}
IsContentBounded (Some c) = length c.bytes ≤ file_limit

abbrev pub IsKeptBounded : ℕ × Kept → Type 0
IsKeptBounded e = IsContentBounded e.1.content

pub record IsBase (s : ClientState) : Type 0 where
  pub side : s.waiting.side ≡ side.Client
  pub own : s.own ≤ length s.waiting.calls
  pub next : 0 < s.next_xid
  -- each close takes an xid for its temporary file's number
  pub temps : (0 < s.next_temp) × (s.next_temp ≤ s.next_xid)
  pub ids : IsRising s.opened.entries
  pub locals : All IsLocalBounded (values_of s.opened.entries)
  pub kept : All IsKeptBounded s.cache

-- while an answer is looked at the operation under way is taken out, and its calls stand as they stood
pub record IsHeld (s : ClientState) : Type 0 where
  pub base : IsBase s
  pub task : s.task ≡ None

pub record IsSound (s : ClientState) : Type 0 where
  pub base : IsBase s
  pub calls : s.waiting.calls ≡ pending s.task ++ drop s.own s.waiting.calls
  pub own : s.own ≡ length (pending s.task)
  pub xids : TaskHasXids s.next_xid s.task
  pub within : TaskIsWithin s.task
  pub there : TaskIsThere s.cache s.task

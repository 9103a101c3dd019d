-- Places that enter a client's index, and contents that are no file's where they lead: hints, which nobody trusts.
use Rattle.std.specs.Prelude.{◌≡◌, ℕ, ◌+◌, List, [], ◌∷◌, length, Option, Some, None, Bool, true, false, nat_le, if◌then◌else◌}
use Rattle.std.specs.List.{concat}
use Rattle.sha1.specs.Sha1.{sha1}
use Rattle.limits.specs.declared.TheConstants.{FILE_MOST}
use Rattle.chunk_cut.specs.Chunks.{chunks_of}
use Rattle.chunk_cut.specs.declared.chunk.Chunk.{Chunk}
use Rattle.chunk_index.specs.Index.{Indexed}
use Rattle.chunk_index.specs.Places.{indexed, LeavesSome}
use Rattle.client_cache.specs.Cache.{reserved, content_of, with_content}
use Rattle.client_cache.specs.declared.kept.Content.{Content}
use Rattle.client_state.specs.State.{State}
use Rattle.client_state.specs.declared.task.Task.{Task}

-- the places of chunks entered an index, all of them or all but some
abbrev pub Enters : Indexed → (file : ℕ) → List Chunk → (left_out : Bool) → Indexed → Type 0
Enters index file chunks false new = new ≡ indexed index file chunks
Enters index file chunks true new = LeavesSome index file chunks new

-- nothing but the index of a client is another
pub record Indexes (s : State) (file : ℕ) (chunks : List Chunk) (left_out : Bool) (new : State) : Type 0 where
  pub rest : new ≡ record s { index = new.index }
  pub enters : Enters s.index file chunks left_out new.index

-- the places of the chunks of what is kept of a file, if anything is
abbrev pub LearnsOf : State → (file : ℕ) → Option Content → (left_out : Bool) → State → Type 0
LearnsOf s file None left_out new = new ≡ s
LearnsOf s file (Some c) left_out new = Indexes s file (chunks_of c.bytes) left_out new

abbrev pub Learns : State → (file : ℕ) → (left_out : Bool) → State → Type 0
Learns s file left_out new = LearnsOf s file (content_of s.cache file) left_out new

-- No file has these ids, so what is kept under them is never opened: the bytes of a cache file,
abbrev pub cached_file : ℕ
cached_file = 0

-- and a content that was offered.
abbrev pub offered_file : ℕ
offered_file = 18446744073709551615

-- a content is kept that is no file's, so it has no version
abbrev pub keeps_bytes : State → (file : ℕ) → List ℕ → State
keeps_bytes s file content = record s { cache = with_content (reserved s.cache file) file 0 content }

-- It is offered: kept, and its places enter. While an operation is under way nothing is.
abbrev pub OffersTo : State → List ℕ → Option Task → (left_out : Bool) → State → Type 0
OffersTo s content None left_out new = Indexes (keeps_bytes s offered_file content) offered_file (chunks_of content) left_out new
OffersTo s content (Some t) left_out new = new ≡ s

abbrev pub Offers : State → List ℕ → (left_out : Bool) → State → Type 0
Offers s content left_out new = OffersTo s content s.task left_out new

-- ---- the items of a cache file

-- where they are, one behind the other from a place on, each under the digest of its bytes
abbrev pub laid_from : (at : ℕ) → List (List ℕ) → List Chunk
laid_from at [] = []
laid_from at (x ∷ xs) = record { start = at; len = length x; digest = sha1 x } ∷ laid_from (at + length x) xs

-- their bytes are kept
abbrev pub keeps_items : State → List (List ℕ) → State
keeps_items s items = keeps_bytes s cached_file (concat items)

-- and their places enter; not while an operation is under way, and only where they have no more bytes than a file may have
abbrev pub can_warm : Option Task → List (List ℕ) → Bool
can_warm None items = nat_le (length (concat items)) FILE_MOST
can_warm (Some t) items = false

abbrev pub warms : State → List (List ℕ) → State
warms s items = record s {
  cache = if can_warm s.task items then (keeps_items s items).cache else s.cache;
  index = if can_warm s.task items then indexed s.index cached_file (laid_from 0 items) else s.index;
}

-- the same, where places may be left out
abbrev pub WarmsIf : (can : Bool) → State → List (List ℕ) → (left_out : Bool) → State → Type 0
WarmsIf true s items left_out new = Indexes (keeps_items s items) cached_file (laid_from 0 items) left_out new
WarmsIf false s items left_out new = new ≡ s

abbrev pub Warms : State → List (List ℕ) → (left_out : Bool) → State → Type 0
Warms s items left_out new = WarmsIf (can_warm s.task items) s items left_out new

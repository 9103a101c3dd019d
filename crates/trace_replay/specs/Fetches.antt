-- What each attempt of an open was told, found and read, by what was said for the open.
use Rattle.std.specs.Prelude.{◌≡◌, ◌⊎◌, ℕ, ◌+◌, ◌≤◌, List, [], ◌∷◌, ◌++◌, length, None, Bool, true, false, not}
use Rattle.chunk_cut.specs.Chunks.{chunks_of}
use Rattle.chunk_cut.specs.declared.chunk.Chunk.{Chunk}
use Rattle.xdr_codec.specs.declared.answer.Answer.TheVariants.{Done}
use Rattle.hash_calls.specs.declared.message.Lb.TheVariants as lb
use Rattle.nfs3_calls.specs.declared.message.Nfs.TheVariants as nfs
use Rattle.wire.specs.declared.message.Body.TheVariants as body
use Rattle.wire.specs.declared.message.Message.TheVariants as message
use Rattle.file_open.specs.Shape.{with_pairs}
use Rattle.register_model.specs.declared.op.Op.{Op}
use Rattle.register_model.specs.declared.op.Traffic.{Traffic}
use Rattle.trace_ends.specs.Ops.{no_traffic}
use Rattle.trace_replay.specs.Trail.{place_of}
use Rattle.trace_replay.specs.Traffic.{Deal, Deal.Took, Deal.Found, Deal.Sent, begins, attempts_in}
use Rattle.trace_replay.specs.Book.{Book, Or}

-- ---- the attempts of an open

-- the chunks that GETHASH answers told, those that were asked for by a READ, those that the index gave (each by its place and length), and how many
-- bytes came
pub record Fetched : Type 0 where
  pub told : List Chunk
  pub reads : List (ℕ × ℕ)
  pub found : List (ℕ × ℕ)
  pub bytes : ℕ

abbrev pub no_fetch : Fetched
no_fetch = record { told = []; reads = []; found = []; bytes = 0 }

-- a message that is sent may begin a new attempt
abbrev pub begins_by : Deal → Bool
begins_by (Sent m) = begins m
begins_by d = false

abbrev pub fetch_if : (anew : Bool) → Fetched → Fetched
fetch_if true f = no_fetch
fetch_if false f = f

abbrev pub fetch_with : Fetched → Deal → Fetched
fetch_with f (Sent (message.Call xid (body.Nfs (nfs.Read r)))) = record f { reads = f.reads ++ (r.offset, r.count) ∷ [] }
fetch_with f (Sent m) = fetch_if (begins m) f
fetch_with f (Found place) = record f { found = f.found ++ place ∷ [] }
fetch_with f (Took (message.Answer xid (body.Lb (lb.GetHashAnswer (Done h))))) = record f { told = with_pairs f.told h.pairs }
fetch_with f (Took (message.Answer xid (body.Nfs (nfs.ReadAnswer (Done piece))))) = record f { bytes = f.bytes + length piece.bytes }
fetch_with f d = f

abbrev pub fetch_from : Fetched → List Deal → Fetched
fetch_from f [] = f
fetch_from f (d ∷ ds) = fetch_from (fetch_with f d) ds

-- the last of them
abbrev pub last_fetch : List Deal → Fetched
last_fetch ds = fetch_from no_fetch ds

-- those behind which another began
abbrev pub over_if : (anew : Bool) → Fetched → List Fetched
over_if true f = f ∷ []
over_if false f = []

abbrev pub over_from : Fetched → List Deal → List Fetched
over_from f [] = []
over_from f (d ∷ ds) = over_if (begins_by d) f ++ over_from (fetch_with f d) ds

-- all of them, in order, behind what came before the first
abbrev pub fetches_in : List Deal → List Fetched
fetches_in ds = over_from no_fetch ds ++ last_fetch ds ∷ []

-- ---- what each read

abbrev pub is_same : Bool → Bool → Bool
is_same true b = b
is_same false b = not b

-- those chunks of which this is so
abbrev pub chosen_if : Bool → Chunk → List (ℕ × ℕ)
chosen_if true c = place_of c ∷ []
chosen_if false c = []

abbrev pub chosen : (which : Bool) → List Bool → List Chunk → List (ℕ × ℕ)
chosen which [] cs = []
chosen which (b ∷ bs) [] = []
chosen which (b ∷ bs) (c ∷ cs) = chosen_if (is_same b which) c ++ chosen which bs cs

-- Of the chunks that were told the first so many were reached, in order and each once: a READ went out for one exactly where the index didn't give its
-- bytes.
pub record ReachesFirst (f : Fetched) : Type 0 where
  pub given : List Bool
  pub within : length given ≤ length f.told
  pub found : f.found ≡ chosen true given f.told
  pub reads : f.reads ≡ chosen false given f.told

abbrev pub AllReach : List Fetched → Type 0
AllReach [] = Unit {0}
AllReach (f ∷ fs) = ReachesFirst f × AllReach fs

-- each attempt did so; before the first nothing was told, and so nothing read
abbrev pub EachReaches : List Deal → Type 0
EachReaches deals = AllReach (fetches_in deals)

-- ---- what the last one of an open that got its content did

abbrev pub lengths_of : List (ℕ × ℕ) → ℕ
lengths_of [] = 0
lengths_of (p ∷ ps) = p.1 + lengths_of ps

-- it was told the chunks of a content, reached all of them, and took what its READs asked for
pub record ReachesAll (content : List ℕ) (f : Fetched) : Type 0 where
  pub told : f.told ≡ chunks_of content
  pub all : length f.found + length f.reads ≡ length f.told
  pub bytes : f.bytes ≡ lengths_of f.reads

-- an open that read just this
abbrev pub read_traffic : Fetched → Traffic
read_traffic f = record no_traffic { read = length f.reads; «data» = f.bytes }

-- An open that got its content by what its client kept sent no READ, and took no byte of it; else its last attempt reached all chunks of a content, which
-- is its value.
abbrev pub GotBy : Book → Op → List Deal → Type 0
GotBy book o deals = (((attempts_in deals).last ≡ None) × (o.traffic ≡ no_traffic)) ⊎ ((content : List ℕ) × ReachesAll content (last_fetch deals) × Or book (o.value ≡ content))

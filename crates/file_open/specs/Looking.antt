-- When a client looks chunks up in its index, which bytes it finds there, and which places enter it then.
use Rattle.std.specs.Prelude.{ℕ, List, [], ◌∷◌, ◌++◌, length, slice_get, Option, Some, None, Result, Ok, Err, Bool, true, false, ◌==◌}
use Rattle.chunk_cut.specs.declared.chunk.Chunk.{Chunk}
use Rattle.xdr_codec.specs.declared.answer.Answer.TheVariants.{Done}
use Rattle.hash_calls.specs.declared.call.Hashes.{Hashes}
use Rattle.hash_calls.specs.declared.message.Lb.TheVariants as lb
use Rattle.nfs3_calls.specs.declared.call.Piece.{Piece}
use Rattle.nfs3_calls.specs.declared.message.Nfs.TheVariants as nfs
use Rattle.wire.specs.declared.fault.WireFault.{WireFault}
use Rattle.wire.specs.declared.message.Body.TheVariants as body
use Rattle.wire.specs.declared.message.Body.{Body}
use Rattle.wire.specs.declared.message.Message.TheVariants as message
use Rattle.wire.specs.declared.message.Message.{Message}
use Rattle.chunk_index.specs.Index.{Indexed, key_of, place_of}
use Rattle.client_cache.specs.Cache.{Entries}
use Rattle.client_state.specs.State.{State, pending_in, has_call}
use Rattle.client_state.specs.declared.step.BadPeer.{BadPeer}
use Rattle.client_state.specs.declared.task.Fetch.{Fetch}
use Rattle.client_state.specs.declared.task.ReadCall.{ReadCall}
use Rattle.client_state.specs.declared.task.Stage.TheVariants as stage
use Rattle.client_state.specs.declared.task.Stage.{Stage}
use Rattle.client_state.specs.declared.task.Task.{Task}
use Rattle.file_open.specs.Caching.{bytes_there}
use Rattle.file_open.specs.Opening.{Reads, fetch_of, with_hashes, listed, reads_all, looked_up, is_here, read_at, fault_in, with_bytes}
use Rattle.file_open.specs.Shape.{Broken, broken_of}

-- ---- the attempt that an answer leaves, where further chunks are wanted then

-- all chunks are told
abbrev pub listed_if : Fetch → Hashes → (is_same : Bool) → Broken → (eof : Bool) → Option Fetch
listed_if f h true None true = Some (listed (with_hashes f h))
listed_if f h is_same b eof = None

abbrev pub listed_by : Fetch → Hashes → Option Fetch
listed_by f h = listed_if f h (h.version == f.version) (broken_of f h) h.eof

-- the bytes of a chunk fit
abbrev pub taken_if : Fetch → ReadCall → Piece → Option BadPeer → Option Fetch
taken_if f c piece None = Some (with_bytes f c piece.bytes)
taken_if f c piece (Some b) = None

abbrev pub taken_at : Fetch → ReadCall → Piece → Option Chunk → Option Fetch
taken_at f c piece None = None
taken_at f c piece (Some k) = taken_if f c piece (fault_in k piece.bytes (length piece.bytes == k.len))

abbrev pub taken_by : Fetch → Piece → Option ReadCall → Option Fetch
taken_by f piece None = None
taken_by f piece (Some c) = taken_at f c piece (slice_get f.chunks c.index)

abbrev pub reading_by : Stage → (xid : ℕ) → Body → Option Fetch
reading_by (stage.Hashing tries asked) xid (body.Lb (lb.GetHashAnswer (Done h))) = listed_by (fetch_of tries xid h) h
reading_by (stage.Listing asked f) xid (body.Lb (lb.GetHashAnswer (Done h))) = listed_by f h
reading_by (stage.Reading f) xid (body.Nfs (nfs.ReadAnswer (Done piece))) = taken_by f piece (read_at f.under xid)
reading_by p xid b = None

-- with its file
abbrev pub with_file : (file : ℕ) → Option Fetch → Option (ℕ × Fetch)
with_file file None = None
with_file file (Some f) = Some (file, f)

abbrev pub reading_if : Task → (xid : ℕ) → Body → (is_own : Bool) → Option (ℕ × Fetch)
reading_if t xid b true = with_file t.file (reading_by t.stage xid b)
reading_if t xid b false = None

-- at what comes
abbrev pub reading : Option Task → Message → Option (ℕ × Fetch)
reading (Some t) (message.Answer xid b) = reading_if t xid b (has_call (pending_in t.stage) xid)
reading task m = None

-- ---- what is found then

abbrev pub found_bytes : Option (List ℕ) → List (List ℕ)
found_bytes None = []
found_bytes (Some bytes) = bytes ∷ []

-- bytes of a chunk's length, which are compared with its digest
abbrev pub chunks_found : Entries → Indexed → List Chunk → List (List ℕ)
chunks_found cache index [] = []
chunks_found cache index (c ∷ cs) = found_bytes (bytes_there cache c (place_of index.pairs (key_of c.digest))) ++ chunks_found cache index cs

-- of each chunk that is looked up
abbrev pub looked_by : State → Option (ℕ × Fetch) → List (List ℕ)
looked_by s None = []
looked_by s (Some p) = chunks_found s.cache s.index (looked_up p.1 (reads_all s.cache s.index p.0 p.1 s.next_xid))

-- ---- what enters then

-- where all chunks are here: those that were looked up by then, and those of the file, whose places enter
pub record Entering : Type 0 where
  pub looked : List Chunk
  pub file : ℕ
  pub chunks : List Chunk

abbrev pub entering_if : (file : ℕ) → Fetch → Reads → (is_here : Bool) → Option Entering
entering_if file f r true = Some (record { looked = looked_up f r; file = file; chunks = r.fetch.chunks })
entering_if file f r false = None

abbrev pub entering_by : State → Option (ℕ × Fetch) → Option Entering
entering_by s None = None
entering_by s (Some p) =
    let r : Reads = reads_all s.cache s.index p.0 p.1 s.next_xid in
    entering_if p.0 p.1 r (is_here r.fetch)

-- at what comes
abbrev pub entering : State → Result Message WireFault → Option Entering
entering s (Ok m) = entering_by s (reading s.task m)
entering s (Err e) = None

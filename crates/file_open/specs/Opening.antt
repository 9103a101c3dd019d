-- An attempt to fetch a file: GETHASHes until its last chunk is told, then a READ for each chunk.
use Rattle.std.specs.Prelude.{ℕ, zero, suc, ◌+◌, ◌-◌, ◌*◌, List, [], ◌∷◌, ◌++◌, length, filter, find, not, replicate, slice_get, slice_set, take, drop, nat_lt, Option, Some, None, Bool, true, false, ◌==◌, bytes_eq, if◌then◌else◌}
use Rattle.sha1.specs.Sha1.{sha1}
use Rattle.chunk_cut.specs.declared.chunk.Chunk.{Chunk}
use Rattle.xdr_codec.specs.Handle.{handle_bytes}
use Rattle.xdr_codec.specs.declared.attr.Attr.{Attr}
use Rattle.hash_calls.specs.declared.call.Hashes.{Hashes}
use Rattle.hash_calls.specs.declared.message.Lb.TheVariants as lb
use Rattle.nfs3_calls.specs.declared.message.Nfs.TheVariants as nfs
use Rattle.wire.specs.declared.message.Body.TheVariants as body
use Rattle.wire.specs.declared.message.Message.TheVariants as message
use Rattle.wire.specs.declared.message.Message.{Message}
use Rattle.chunk_index.specs.Index.{Indexed}
use Rattle.client_cache.specs.Cache.{Entries}
use Rattle.transfer_rules.specs.Limits.{calls_most}
use Rattle.transfer_rules.specs.Chunks.{all_came}
use Rattle.client_state.specs.declared.step.BadPeer.TheVariants as bad
use Rattle.client_state.specs.declared.step.BadPeer.{BadPeer}
use Rattle.client_state.specs.declared.task.Fetch.{Fetch}
use Rattle.client_state.specs.declared.task.ReadCall.{ReadCall}
use Rattle.file_open.specs.Caching.{from_index}
use Rattle.file_open.specs.Shape.{with_pairs}
pub use Rattle.chunk_slots.specs.Slots.{slots_bytes}
pub use Rattle.file_open.specs.declared.calls.Reads.{Reads}

-- ---- the calls

-- in a version of LBFS, for the version of a file whose content is kept
abbrev pub lease_call : (lbfs xid file : ℕ) → Message
lease_call lbfs xid file = message.Call xid (body.Lb (lb.GetLease (record { lbfs = lbfs; handle = handle_bytes file })))

-- for the chunks from a place on
abbrev pub hash_call : (lbfs xid file offset : ℕ) → Message
hash_call lbfs xid file offset = message.Call xid (body.Lb (lb.GetHash (record { lbfs = lbfs; handle = handle_bytes file; offset = offset; count = 4294967295 })))

abbrev pub read_call : (xid file : ℕ) → Chunk → Message
read_call xid file c = message.Call xid (body.Nfs (nfs.Read (record { handle = handle_bytes file; offset = c.start; count = c.len })))

-- ---- its chunks

-- the attempt whose first GETHASH had this xid, before its answer's chunks are listed
abbrev pub fetch_of : (tries xid : ℕ) → Hashes → Fetch
fetch_of tries xid h = record { tries = tries; first = xid; version = h.version; size = h.size; chunks = []; slots = []; asked = 0; under = [] }

abbrev pub with_hashes : Fetch → Hashes → Fetch
with_hashes f h = record f { chunks = with_pairs f.chunks h.pairs }

-- all chunks are told, and none has come
abbrev pub listed : Fetch → Fetch
listed f = record f { slots = replicate (length f.chunks) None }

-- ---- their bytes

abbrev pub reads_from : Fetch → ℕ → Reads
reads_from f next = record { fetch = f; next_xid = next; send = [] }

-- the chunk's bytes are taken from what is kept, or it is asked for
abbrev pub reads_chunk : (file : ℕ) → Reads → Chunk → (kept : Option (List ℕ)) → Reads
reads_chunk file r c (Some bytes) = record r { fetch = record r.fetch { asked = r.fetch.asked + 1; slots = slice_set r.fetch.slots r.fetch.asked (Some bytes) } }
reads_chunk file r c None = record r {
  fetch = record r.fetch { asked = r.fetch.asked + 1; under = r.fetch.under ++ record { xid = r.next_xid; index = r.fetch.asked } ∷ [] };
  next_xid = r.next_xid + 1;
  send = r.send ++ read_call r.next_xid file c ∷ [];
}

-- the chunk is looked up, if it is there
abbrev pub reads_next : Entries → Indexed → (file : ℕ) → Reads → Option Chunk → Reads
reads_next cache index file r None = r
reads_next cache index file r (Some c) = reads_chunk file r c (from_index cache index c)

-- so many chunks, while fewer calls are under way than may be
abbrev pub reads_more : ℕ → Entries → Indexed → (file : ℕ) → Reads → Reads
reads_more zero cache index file r = r
reads_more (suc k) cache index file r = if nat_lt (length r.fetch.under) calls_most then reads_more k cache index file (reads_next cache index file r (slice_get r.fetch.chunks r.fetch.asked)) else r

-- all chunks that are left, or as many as may be asked for
abbrev pub reads_all : Entries → Indexed → (file : ℕ) → Fetch → (next : ℕ) → Reads
reads_all cache index file f next = reads_more (length f.chunks - f.asked) cache index file (reads_from f next)

-- the chunks that were looked up by then, one after the other
abbrev pub looked_up : Fetch → Reads → List Chunk
looked_up f r = take (r.fetch.asked - f.asked) (drop f.asked r.fetch.chunks)

-- all chunks are here
abbrev pub is_here : Fetch → Bool
is_here f = all_came f.under f.asked (length f.chunks)

-- ---- an answer to a READ

-- the READ under way with this xid, and those with other xids
abbrev pub read_at : List ReadCall → (xid : ℕ) → Option ReadCall
read_at under xid = find (λ c. c.xid == xid) under

abbrev pub without_read : List ReadCall → (xid : ℕ) → List ReadCall
without_read under xid = filter (λ c. not (c.xid == xid)) under

-- what is wrong with the bytes of a chunk: their length, or their digest
abbrev pub fault_in_digest : Chunk → List ℕ → Bool → Option BadPeer
fault_in_digest c bytes true = None
fault_in_digest c bytes false = Some (bad.Digest (sha1 bytes) c.digest)

abbrev pub fault_in : Chunk → List ℕ → Bool → Option BadPeer
fault_in c bytes true = fault_in_digest c bytes (bytes_eq (sha1 bytes) c.digest)
fault_in c bytes false = Some (bad.Shape (length bytes) c.len)

-- the version that attributes show, by the time of the last change (RFC 1813 section 2.6: mtime)
abbrev pub shown_version : Attr → ℕ
shown_version a = a.mtime.seconds * 1000000000 + a.mtime.nanoseconds

-- the one that they show in place of this one
abbrev pub other_version : (version : ℕ) → Option Attr → Option ℕ
other_version version None = None
other_version version (Some a) = if shown_version a == version then None else Some (shown_version a)

-- the bytes of the chunk have come that this READ asked for
abbrev pub with_bytes : Fetch → ReadCall → List ℕ → Fetch
with_bytes f c bytes = record f { slots = slice_set f.slots c.index (Some bytes); under = without_read f.under c.xid }

-- A close: MKTMPFILE, a CONDWRITE for each chunk of the local content, a TMPWRITE for each that the server doesn't know, then COMMITTMP.
use Rattle.std.specs.Prelude.{ℕ, zero, suc, ◌+◌, ◌-◌, List, [], ◌∷◌, ◌++◌, length, filter, find, not, slice_get, Option, Some, None, Bool, ◌==◌}
use Rattle.chunk_cut.specs.Chunks.{chunks_of}
use Rattle.chunk_cut.specs.Places.{chunk_bytes}
use Rattle.chunk_cut.specs.declared.chunk.Chunk.{Chunk}
use Rattle.xdr_codec.specs.Handle.{handle_bytes}
use Rattle.hash_calls.specs.declared.message.Lb.TheVariants as lb
use Rattle.wire.specs.declared.message.Body.TheVariants as body
use Rattle.wire.specs.declared.message.Message.TheVariants as message
use Rattle.wire.specs.declared.message.Message.{Message}
use Rattle.transfer_rules.specs.Limits.{calls_most}
use Rattle.transfer_rules.specs.Chunks.{all_came}
use Rattle.client_state.specs.declared.task.Upload.{Upload}
use Rattle.client_state.specs.declared.task.UploadCall.{UploadCall}
use Rattle.client_state.specs.declared.task.Way.TheVariants as way
pub use Rattle.file_close.specs.declared.calls.Names.{Names}

-- ---- the calls, each in a version of LBFS

abbrev pub make_call : (lbfs xid temp file : ℕ) → Message
make_call lbfs xid temp file = message.Call xid (body.Lb (lb.MkTmpFile (record { lbfs = lbfs; fd = temp; handle = handle_bytes file })))

abbrev pub cond_call : (lbfs xid temp : ℕ) → Chunk → Message
cond_call lbfs xid temp c = message.Call xid (body.Lb (lb.CondWrite (record { lbfs = lbfs; fd = temp; offset = c.start; count = c.len; digest = c.digest })))

abbrev pub temp_call : (lbfs xid temp : ℕ) → List ℕ → Chunk → Message
temp_call lbfs xid temp content c = message.Call xid (body.Lb (lb.TmpWrite (record { lbfs = lbfs; fd = temp; offset = c.start; bytes = chunk_bytes content c })))

abbrev pub commit_call : (lbfs xid temp file size : ℕ) → Message
commit_call lbfs xid temp file size = message.Call xid (body.Lb (lb.CommitTmp (record { lbfs = lbfs; fd = temp; handle = handle_bytes file; size = size; base = None })))

-- ---- the chunks are named

-- the temporary file of this number is there, and no chunk of the content in it
abbrev pub store_of : (temp : ℕ) → List ℕ → Upload
store_of temp content = record { temp = temp; chunks = chunks_of content; named = 0; under = [] }

abbrev pub names_from : Upload → ℕ → Names
names_from st next = record { store = st; next_xid = next; send = [] }

-- the chunk is named, if it is there, in a version of LBFS
abbrev pub names_next : (lbfs : ℕ) → Names → Option Chunk → Names
names_next lbfs n None = n
names_next lbfs n (Some c) = record {
  store = record n.store { named = n.store.named + 1; under = n.store.under ++ record { xid = n.next_xid; index = n.store.named; way = way.Named } ∷ [] };
  next_xid = n.next_xid + 1;
  send = n.send ++ cond_call lbfs n.next_xid n.store.temp c ∷ [];
}

-- so many chunks, or as many as there are
abbrev pub names_more : (lbfs : ℕ) → ℕ → Names → Names
names_more lbfs zero n = n
names_more lbfs (suc k) n = names_more lbfs k (names_next lbfs n (slice_get n.store.chunks n.store.named))

-- all CONDWRITEs that may be under way beside the calls that are
abbrev pub names_all : (lbfs : ℕ) → Upload → (next : ℕ) → Names
names_all lbfs st next = names_more lbfs (calls_most - length st.under) (names_from st next)

-- all chunks are stored
abbrev pub is_stored : Upload → Bool
is_stored st = all_came st.under st.named (length st.chunks)

-- ---- their answers

-- the call under way with this xid, and those with other xids
abbrev pub store_at : List UploadCall → (xid : ℕ) → Option UploadCall
store_at under xid = find (λ c. c.xid == xid) under

abbrev pub without_store : List UploadCall → (xid : ℕ) → List UploadCall
without_store under xid = filter (λ c. not (c.xid == xid)) under

abbrev pub answered : Upload → (xid : ℕ) → Upload
answered st xid = record st { under = without_store st.under xid }

-- the bytes of the chunk go out that this CONDWRITE named
abbrev pub with_whole : Upload → UploadCall → (xid : ℕ) → Upload
with_whole st c xid = record st { under = st.under ++ record { xid = xid; index = c.index; way = way.Whole } ∷ [] }

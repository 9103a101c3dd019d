-- What a client does at each answer while a file is opened.
use Rattle.std.specs.Prelude.{◌≡◌, ℕ, ◌+◌, List, length, Option, Some, None, Bool, true, false, ◌==◌, nat_lt, slice_get}
use Rattle.sha1.specs.Sha1.{sha1}
use Rattle.chunk_cut.specs.Places.{end_of}
use Rattle.chunk_cut.specs.declared.chunk.Chunk.{Chunk}
use Rattle.xdr_codec.specs.declared.answer.Answer.TheVariants.{Done, Failed}
use Rattle.xdr_codec.specs.declared.answer.Answer.{Answer}
use Rattle.hash_calls.specs.declared.call.Hashes.{Hashes}
use Rattle.hash_calls.specs.declared.call.Leased.{Leased}
use Rattle.nfs3_calls.specs.declared.call.Piece.{Piece}
use Rattle.wire.specs.declared.message.Pending.{Pending}
use Rattle.chunk_index.specs.Index.{Indexed}
use Rattle.chunk_index.specs.Places.{indexed, LeavesSome}
use Rattle.client_cache.specs.Cache.{reserved, content_of, with_content}
use Rattle.client_cache.specs.declared.kept.Content.{Content}
use Rattle.client_state.specs.Counting.{sends_one, sends_reads, ends}
use Rattle.client_state.specs.Ending.{is_open, may_ask, forgets, bad_peer, unknown, refused}
use Rattle.transfer_rules.specs.Limits.{tries_most}
use Rattle.client_state.specs.State.{State, with_local}
use Rattle.client_state.specs.declared.step.BadPeer.TheVariants as bad
use Rattle.client_state.specs.declared.step.BadPeer.{BadPeer}
use Rattle.client_state.specs.declared.step.ClientStep.{ClientStep}
use Rattle.client_state.specs.declared.step.Outcome.TheVariants as outcome
use Rattle.client_state.specs.declared.task.Fetch.{Fetch}
use Rattle.client_state.specs.declared.task.ReadCall.{ReadCall}
use Rattle.client_state.specs.declared.task.Stage.TheVariants as stage
use Rattle.client_state.specs.declared.task.Task.{Task}
use Rattle.file_open.specs.Caching.{content_in, fresh_content, found_all}
use Rattle.file_open.specs.Looking.{Entering}
use Rattle.file_open.specs.Opening.{lease_call, hash_call, fetch_of, with_hashes, listed, Reads, reads_all, looked_up, is_here, slots_bytes, fault_in, other_version, with_bytes}
use Rattle.file_open.specs.Shape.{Broken, broken_of}

-- ---- an attempt begins

-- an attempt begins: its first GETHASH goes out, after so many bytes of a READ came
abbrev pub tries_anew : State → (file tries bytes : ℕ) → State × ClientStep
tries_anew s file tries bytes = (record s { next_xid = s.next_xid + 1; task = Some (record { file = file; stage = stage.Hashing tries s.next_xid }); sent = s.clock }, sends_one (hash_call s.lbfs s.next_xid file 0) bytes)

-- a content that is kept is asked for by its version, and else the file by its chunks
abbrev pub asks_kept : State → (file : ℕ) → (kept : Option Content) → State × ClientStep
asks_kept s file None = tries_anew s file 1 0
asks_kept s file (Some c) = (record s { next_xid = s.next_xid + 1; task = Some (record { file = file; stage = stage.Asking s.next_xid }); sent = s.clock }, sends_one (lease_call s.lbfs s.next_xid file) 0)

-- the file's entry comes first in the cache, and is there for what the answers bring
abbrev pub asks_file : State → (file : ℕ) → (may_ask : Bool) → State × ClientStep
asks_file s file true = asks_kept (record s { cache = reserved s.cache file }) file (content_of s.cache file)
asks_file s file false = (s, ends outcome.NoLink 0 0)

-- a content that is kept is open again, resting on the call with this xid
abbrev pub reopens : State → (file version : ℕ) → (bytes : List ℕ) → (rests_on : ℕ) → State × ClientStep
reopens s file version bytes rests_on = (record s { opened = with_local s.opened file (record { version = version; bytes = bytes }) }, ends (outcome.Opened file (length bytes) (sha1 bytes)) rests_on 0)

-- one that is fresh is opened at once: nobody is asked, and it rests on no call
abbrev pub opens_fresh : State → (file : ℕ) → Content → State × ClientStep
opens_fresh s file c = reopens s file c.version c.bytes 0

abbrev pub opens_kept : State → (file : ℕ) → (fresh : Option Content) → State × ClientStep
opens_kept s file (Some c) = opens_fresh s file c
opens_kept s file None = asks_file s file (may_ask s)

abbrev pub opens_if : State → ℕ → Bool → State × ClientStep
opens_if s file true = (s, ends outcome.AlreadyOpen 0 0)
opens_if s file false = opens_kept s file (fresh_content s.cache file s.clock)

-- the file is one that a path was found to stand for, by the answer with this xid
abbrev pub finds_kept : State → (calls : List Pending) → (xid file : ℕ) → (fresh : Option Content) → State × ClientStep
finds_kept s calls xid file (Some c) = opens_fresh (forgets s calls xid) file c
finds_kept s calls xid file None = asks_file s file true

abbrev pub opens : State → ℕ → Option Task → State × ClientStep
opens s file (Some t) = (s, ends outcome.Busy 0 0)
opens s file None = opens_if s file (is_open s.opened file)

-- ---- an attempt ends

-- the file is open; its content is kept, and its chunks' places enter the index
abbrev pub opened_with : State → (calls : List Pending) → (file xid : ℕ) → Fetch → (bytes : ℕ) → State × ClientStep
opened_with s calls file xid f bytes =
    let content : List ℕ = slots_bytes f.slots in
    (record (forgets s calls xid) { opened = with_local s.opened file (record { version = f.version; bytes = content }); cache = with_content s.cache file f.version content; index = indexed s.index file f.chunks }, ends (outcome.Opened file (length content) (sha1 content)) f.first bytes)

-- an attempt ends by another version than its own, and the next begins, or there is none
abbrev pub retries : State → (calls : List Pending) → (file xid : ℕ) → (may_try : Bool) → Fetch → (version bytes : ℕ) → State × ClientStep
retries s calls file xid true f version bytes = tries_anew (forgets s calls xid) file (f.tries + 1) bytes
retries s calls file xid false f version bytes = (forgets s calls xid, ends (outcome.Changed f.version version) 0 bytes)

abbrev pub changes : State → (calls : List Pending) → (file xid : ℕ) → Fetch → (version bytes : ℕ) → State × ClientStep
changes s calls file xid f version bytes = retries s calls file xid (nat_lt f.tries tries_most) f version bytes

-- ---- the chunks of a file

-- the READs go out, or all chunks are here
abbrev pub reads_if : State → (calls : List Pending) → (file xid : ℕ) → Reads → (bytes : ℕ) → (is_here : Bool) → State × ClientStep
reads_if s calls file xid r bytes true = opened_with s calls file xid r.fetch bytes
reads_if s calls file xid r bytes false = (record s { next_xid = r.next_xid; task = Some (record { file = file; stage = stage.Reading r.fetch }) }, sends_reads r.send bytes)

abbrev pub reads_on : State → (calls : List Pending) → (file xid : ℕ) → Fetch → (bytes : ℕ) → State × ClientStep
reads_on s calls file xid f bytes =
    let r : Reads = reads_all s.cache s.index file f s.next_xid in
    reads_if (record s { index = found_all s.index (looked_up f r) }) calls file xid r bytes (is_here r.fetch)

-- the further chunks are asked for, from the end of the last one on, or all are told
abbrev pub lists_on : State → (calls : List Pending) → (file xid : ℕ) → Fetch → (eof : Bool) → State × ClientStep
lists_on s calls file xid f true = reads_on s calls file xid (listed f) 0
lists_on s calls file xid f false = (record s { next_xid = s.next_xid + 1; task = Some (record { file = file; stage = stage.Listing s.next_xid f }); sent = s.clock }, sends_one (hash_call s.lbfs s.next_xid file (end_of f.chunks)) 0)

abbrev pub told_shape : State → (calls : List Pending) → (file xid : ℕ) → Fetch → Hashes → Broken → State × ClientStep
told_shape s calls file xid f h None = lists_on s calls file xid (with_hashes f h) h.eof
told_shape s calls file xid f h (Some b) = bad_peer s (bad.Shape b.0 b.1) 0

-- all pieces are of one version; what else is wrong with one is looked at behind that
abbrev pub told_version : State → (calls : List Pending) → (file xid : ℕ) → Fetch → Hashes → (is_same : Bool) → State × ClientStep
told_version s calls file xid f h true = told_shape s calls file xid f h (broken_of f h)
told_version s calls file xid f h false = changes s calls file xid f h.version 0

abbrev pub told_hashes : State → (calls : List Pending) → (file xid : ℕ) → Fetch → Answer Hashes Unit → State × ClientStep
told_hashes s calls file xid f (Failed status u) = refused s calls xid status
told_hashes s calls file xid f (Done h) = told_version s calls file xid f h (h.version == f.version)

abbrev pub told_first : State → (calls : List Pending) → (file xid tries : ℕ) → Answer Hashes Unit → State × ClientStep
told_first s calls file xid tries (Failed status u) = refused s calls xid status
told_first s calls file xid tries (Done h) = told_hashes s calls file xid (fetch_of tries xid h) (Done h)

-- ---- a content that is kept

-- one that is kept in the file's version is opened again, and else the file is fetched
abbrev pub uses_kept : State → (calls : List Pending) → (file xid version : ℕ) → (kept : Option (List ℕ)) → State × ClientStep
uses_kept s calls file xid version (Some bytes) = reopens (forgets s calls xid) file version bytes xid
uses_kept s calls file xid version None = tries_anew (forgets s calls xid) file 1 0

-- what was asked for may have been dropped meanwhile
abbrev pub told_lease : State → (calls : List Pending) → (file xid : ℕ) → Answer Leased Unit → State × ClientStep
told_lease s calls file xid (Failed status u) = refused s calls xid status
told_lease s calls file xid (Done l) = uses_kept s calls file xid l.version (content_in l.version (content_of s.cache file))

-- ---- their bytes

-- bytes that don't fit end the attempt where another version shows; else they are the peer's fault
abbrev pub misfits : State → (calls : List Pending) → (file xid : ℕ) → Fetch → BadPeer → (bytes : ℕ) → (shown : Option ℕ) → State × ClientStep
misfits s calls file xid f b bytes (Some version) = changes s calls file xid f version bytes
misfits s calls file xid f b bytes None = bad_peer s b bytes

-- bytes that fit are taken, whatever version they are of
abbrev pub told_bytes : State → (calls : List Pending) → (file xid : ℕ) → Fetch → ReadCall → Piece → Option BadPeer → State × ClientStep
told_bytes s calls file xid f c piece None = reads_on s calls file xid (with_bytes f c piece.bytes) (length piece.bytes)
told_bytes s calls file xid f c piece (Some b) = misfits s calls file xid f b (length piece.bytes) (other_version f.version piece.attr)

abbrev pub told_chunk : State → (calls : List Pending) → (file xid : ℕ) → Fetch → ReadCall → Piece → Option Chunk → State × ClientStep
told_chunk s calls file xid f c piece None = unknown s xid
told_chunk s calls file xid f c piece (Some k) = told_bytes s calls file xid f c piece (fault_in k piece.bytes (length piece.bytes == k.len))

abbrev pub told_piece : State → (calls : List Pending) → (file xid : ℕ) → Fetch → Piece → Option ReadCall → State × ClientStep
told_piece s calls file xid f piece None = unknown s xid
told_piece s calls file xid f piece (Some c) = told_chunk s calls file xid f c piece (slice_get f.chunks c.index)

-- ---- running out of memory

-- an open takes memory only where it opens what is fresh, or asks for the file
abbrev pub MayMissKept : State → (fresh : Option Content) → Type 0
MayMissKept s (Some c) = Unit {0}
MayMissKept s None = may_ask s ≡ true

abbrev pub MayMissOpen : State → ℕ → Option Task → Type 0
MayMissOpen s file None = (is_open s.opened file ≡ false) × MayMissKept s (fresh_content s.cache file s.clock)
MayMissOpen s file (Some t) = ⊥

-- the operation under way has ended, and this is the index of chunks
abbrev pub with_index : State → Indexed → State
with_index s index = record s { index = index }

-- an index in which places are missing of those that enter: at least one was left out
abbrev pub IsLacking : (old : Indexed) → Option Entering → (new : Indexed) → Type 0
IsLacking old None new = ⊥
IsLacking old (Some e) new = LeavesSome (found_all old e.looked) e.file e.chunks new

-- What was to come, but for such places, which the step says. None is missing where none enters, so only what ends a fetch well may say so.
pub record Lacks (old : Indexed) (enters : Option Entering) (comes : State × ClientStep) (new : State) (step : ClientStep) : Type 0 where
  pub lacks : IsLacking old enters new.index
  pub rest : new ≡ with_index comes.0 new.index
  pub said : step ≡ record comes.1 { missed = true }

-- what was to come, or what lacks such places
pub record Comes (old : Indexed) (enters : Option Entering) (comes : State × ClientStep) (new : State) (step : ClientStep) : Type 0 where
  pub exact : step.missed ≡ false → comes ≡ (new, step)
  pub lacks : step.missed ≡ true → Lacks old enters comes new step

-- What a client does at each answer while a file is closed.
use Rattle.std.specs.Prelude.{ℕ, ◌+◌, List, [], ◌∷◌, ◌++◌, length, Option, Some, None, Bool, true, false, slice_get}
use Rattle.sha1.specs.Sha1.{sha1}
use Rattle.chunk_cut.specs.Places.{chunk_bytes}
use Rattle.chunk_cut.specs.declared.chunk.Chunk.{Chunk}
use Rattle.xdr_codec.specs.declared.answer.Answer.TheVariants.{Done, Failed}
use Rattle.xdr_codec.specs.declared.answer.Answer.{Answer}
use Rattle.transfer_rules.specs.Answers.{wants_bytes}
use Rattle.hash_calls.specs.declared.message.Lb.TheVariants as lb
use Rattle.wire.specs.declared.message.Body.TheVariants as body
use Rattle.wire.specs.declared.message.Body.{Body}
use Rattle.wire.specs.declared.message.Pending.{Pending}
use Rattle.client_cache.specs.Cache.{reserved, with_content, without_note}
use Rattle.client_state.specs.Counting.{no_counts, sends, sends_one, ends}
use Rattle.client_state.specs.Ending.{may_ask, forgets, unknown, refused}
use Rattle.client_state.specs.State.{State, without_local}
use Rattle.client_state.specs.declared.step.ClientStep.{ClientStep}
use Rattle.client_state.specs.declared.step.Outcome.TheVariants as outcome
use Rattle.client_state.specs.declared.task.Local.{Local}
use Rattle.client_state.specs.declared.task.Stage.TheVariants as stage
use Rattle.client_state.specs.declared.task.Upload.{Upload}
use Rattle.client_state.specs.declared.task.UploadCall.{UploadCall}
use Rattle.client_state.specs.declared.task.Way.TheVariants as way
use Rattle.client_state.specs.declared.task.Way.{Way}
use Rattle.file_close.specs.Closing.{make_call, temp_call, commit_call, Names, store_of, names_all, is_stored, answered, with_whole}

-- ---- the close begins

-- a close begins with a temporary file of the next number
abbrev pub asks_temp : State → (file : ℕ) → (may_ask : Bool) → State × ClientStep
asks_temp s file true = (record s { next_xid = s.next_xid + 1; next_temp = s.next_temp + 1; task = Some (record { file = file; stage = stage.Making s.next_xid s.next_temp }) }, sends_one (make_call s.lbfs s.next_xid s.next_temp file) 0)
asks_temp s file false = (s, ends outcome.NoLink 0 0)

abbrev pub closes : State → (file : ℕ) → Local → State × ClientStep
closes s file l = asks_temp s file (may_ask s)

-- ---- the chunks of a close

-- CONDWRITEs go out, or COMMITTMP where all chunks are stored: the file then has an entry in the cache for the content that it gets, and what was noted of it goes
abbrev pub goes_if : State → (file : ℕ) → (content : List ℕ) → Names → (is_stored : Bool) → State × ClientStep
goes_if s file content n true = (record s { next_xid = n.next_xid + 1; cache = without_note (reserved s.cache file) file; task = Some (record { file = file; stage = stage.Committing n.next_xid }); sent = s.clock }, sends (n.send ++ commit_call s.lbfs n.next_xid n.store.temp file (length content) ∷ []) (record no_counts { cond_writes = length n.send }))
goes_if s file content n false = (record s { next_xid = n.next_xid; task = Some (record { file = file; stage = stage.Storing n.store }) }, sends n.send (record no_counts { cond_writes = length n.send }))

abbrev pub goes_on : State → (file : ℕ) → (content : List ℕ) → Upload → State × ClientStep
goes_on s file content st =
    let n : Names = names_all s.lbfs st s.next_xid in
    goes_if s file content n (is_stored n.store)

abbrev pub told_temp : State → (calls : List Pending) → (file xid temp : ℕ) → (content : List ℕ) → Answer Unit Unit → State × ClientStep
told_temp s calls file xid temp content (Failed status u) = refused s calls xid status
told_temp s calls file xid temp content (Done u) = goes_on s file content (store_of temp content)

-- the bytes of a chunk that the server doesn't know go out in the place of its name
abbrev pub sends_whole : State → (file xid : ℕ) → (content : List ℕ) → Upload → UploadCall → Option Chunk → State × ClientStep
sends_whole s file xid content st c None = unknown s xid
sends_whole s file xid content st c (Some k) = (record s { next_xid = s.next_xid + 1; task = Some (record { file = file; stage = stage.Storing (with_whole st c s.next_xid) }) }, sends (temp_call s.lbfs s.next_xid st.temp content k ∷ []) (record no_counts { temp_writes = 1; bytes = length (chunk_bytes content k) }))

-- the answer to a CONDWRITE, which is no longer under way
abbrev pub named_if : State → (calls : List Pending) → (file xid : ℕ) → (content : List ℕ) → Upload → UploadCall → Answer Unit Unit → (wants_bytes : Bool) → State × ClientStep
named_if s calls file xid content st c a true = sends_whole s file xid content st c (slice_get st.chunks c.index)
named_if s calls file xid content st c (Done u) false = goes_on s file content st
named_if s calls file xid content st c (Failed status u) false = refused s calls xid status

abbrev pub told_named : State → (calls : List Pending) → (file xid : ℕ) → (content : List ℕ) → Upload → UploadCall → Answer Unit Unit → State × ClientStep
told_named s calls file xid content st c a = named_if s calls file xid content st c a (wants_bytes a)

-- the answer to a TMPWRITE
abbrev pub told_whole : State → (calls : List Pending) → (file xid : ℕ) → (content : List ℕ) → Upload → Answer Unit Unit → State × ClientStep
told_whole s calls file xid content st (Done u) = goes_on s file content st
told_whole s calls file xid content st (Failed status u) = refused s calls xid status

abbrev pub told_way : State → (calls : List Pending) → (file xid : ℕ) → (content : List ℕ) → Upload → UploadCall → Way → Body → State × ClientStep
told_way s calls file xid content st c way.Named (body.Lb (lb.CondWriteAnswer a)) = told_named s calls file xid content st c a
told_way s calls file xid content st c way.Whole (body.Lb (lb.TmpWriteAnswer a)) = told_whole s calls file xid content st a
told_way s calls file xid content st c w b = unknown s xid

abbrev pub told_stored : State → (calls : List Pending) → (file xid : ℕ) → (content : List ℕ) → Upload → Body → Option UploadCall → State × ClientStep
told_stored s calls file xid content st b None = unknown s xid
told_stored s calls file xid content st b (Some c) = told_way s calls file xid content (answered st xid) c c.way b

-- ---- running out of memory

-- an answer to a CONDWRITE takes memory only where the close goes on by it
abbrev pub MayMissNamed : Answer Unit Unit → (wants_bytes : Bool) → Type 0
MayMissNamed a true = Unit {0}
MayMissNamed (Done u) false = Unit {0}
MayMissNamed (Failed status u) false = ⊥

-- and so does any answer to a call for a chunk
abbrev pub MayMissWay : Way → Body → Type 0
MayMissWay way.Named (body.Lb (lb.CondWriteAnswer a)) = MayMissNamed a (wants_bytes a)
MayMissWay way.Whole (body.Lb (lb.TmpWriteAnswer (Done u))) = Unit {0}
MayMissWay w b = ⊥

-- ---- the close ends

-- the file has its new content, which is kept, and is no longer open
abbrev pub closed : State → (calls : List Pending) → (file xid version : ℕ) → (content : List ℕ) → State × ClientStep
closed s calls file xid version content = (record (forgets s calls xid) { opened = without_local s.opened file; cache = with_content s.cache file version content }, ends (outcome.Closed file version (length content) (sha1 content)) xid 0)

-- What an answer leaves of a client's open files, and how far the xids of its calls go on.
use Rattle.std.proofs.Common.{◌≡◌, ℕ, zero, suc, ◌+◌, ◌-◌, ◌<◌, ◌≤◌, List, [], ◌∷◌, length, Option, Some, None, Bool, true, false, refl, sym, subst, arith, Result, ◌∙◌}
use Rattle.std.proofs.lemmas.List.{length-append}
use Rattle.xdr_codec.specs.declared.status.Status.TheVariants as status
use Rattle.hash_calls.specs.declared.call.Leased.{Leased}
use Rattle.hash_calls.specs.declared.message.Lb.TheVariants as lb
use Rattle.nfs3_calls.specs.declared.message.Nfs.TheVariants as nfs
use Rattle.wire.specs.declared.message.Body.TheVariants as body
use Rattle.chunk_index.specs.Index.{Indexed}
use Rattle.client_cache.specs.Cache.{Entries, content_of}
use Rattle.file_open.specs.Caching.{content_in, from_index, found_all}
use Rattle.file_open.specs.Opening.{reads_chunk, looked_up}
use Rattle.file_open.specs.Fetching.{uses_kept, told_lease}
use Rattle.client_state.specs.State as client
use Rattle.client_state.specs.declared.step.Outcome.TheVariants as outcome
use Rattle.client_state.specs.declared.task.Stage.TheVariants as stage
use Rattle.client_state.specs.declared.task.Way.TheVariants as way
use Rattle.register_model.specs.declared.op.Word.TheVariants as words
use Rattle.kept_promise.proofs.Common.{nat_tests, slice_get, nat_lt, if◌then◌else◌, ◌==◌, ◌&&◌, Chunk, Answer, Done, Failed, Status, Hashes, Piece, Body, Message, Pending, WireFault, names_from, names_next, names_more, names_all, is_stored, store_of, store_at, answered, calls_most, is_none, fetch_of, with_hashes, listed, reads_from, reads_next, reads_more, reads_all, is_here, read_at, fault_in, other_version, with_bytes, Broken, broken_of, idle, refused, reads_if, reads_on, lists_on, told_shape, told_version, told_hashes, told_first, retries, misfits, told_bytes, told_chunk, told_piece, goes_if, goes_on, told_temp, sends_whole, told_named, told_whole, told_way, told_stored, took, got_step, Names, Reads, BadPeer, ClientStep, Ended, Outcome, Fetch, Local, ReadCall, Stage, Upload, UploadCall, Task, Way}
use Rattle.kept_promise.proofs.Lists.{some_is, nothing_there}
use Rattle.hash_calls.specs.declared.message.Back.TheVariants as back
use Rattle.wire.specs.declared.message.Message.TheVariants as message
use Rattle.client_state.specs.Noting.{at as clocked}
use Rattle.client_state.specs.Counting.{sends_one}
use Rattle.open_close.specs.Step.{takes, recalls}
use Rattle.kept_promise.proofs.StepCases.{some_call, IsOfFile, renoted, got_cases}
use Rattle.kept_promise.proofs.Messages.{stage_word}
use Rattle.register_model.specs.declared.op.Word.{Word}

-- ---- what is said

-- An operation on a file that asked the server, and ended so, leaves these files open: what an open got is under its number, a file that is written
-- anew stands there with nothing in it, a closed one is gone, and else all is as it was. What a client answers by itself is none of its ends.
abbrev pub EndsWith : (what : Word) → (opened after : List (ℕ × Local)) → (file : ℕ) → Outcome → Type 0
EndsWith what opened after file (outcome.Opened g len digest) = (g ≡ file) × ((l : Local) × (after ≡ client.with_local opened file l))
EndsWith what opened after file (outcome.Closed g version len digest) = (g ≡ file) × (after ≡ client.without_local opened file)
EndsWith what opened after file (outcome.Piece len digest) = ⊥
EndsWith what opened after file outcome.Done = (what ≡ words.Rewrite) × ((l : Local) × (l.bytes ≡ []) × (after ≡ client.with_local opened file l))
EndsWith what opened after file outcome.Busy = ⊥
EndsWith what opened after file outcome.NotOpen = ⊥
EndsWith what opened after file outcome.AlreadyOpen = ⊥
EndsWith what opened after file (outcome.TooBig size) = ⊥
EndsWith what opened after file outcome.NoLink = ⊥
EndsWith what opened after file o = after ≡ opened

abbrev pub Leaves : (what : Word) → (opened after : List (ℕ × Local)) → (file : ℕ) → Option Ended → Type 0
Leaves what opened after file None = after ≡ opened
Leaves what opened after file (Some e) = EndsWith what opened after file e.outcome

abbrev pub IsLeftBy : (what : Word) → client.State → (file : ℕ) → client.State × ClientStep → Type 0
IsLeftBy what s file r = (r.0.next_xid ≤ s.next_xid + calls_most) × Leaves what s.opened r.0.opened file r.1.ended

-- of an open or a close, neither of which is done
abbrev IsLeft : client.State → (file : ℕ) → client.State × ClientStep → Type 0
IsLeft s file r = IsLeftBy words.Open s file r

left_ends : (what : Word) (opened after : List (ℕ × Local)) (file : ℕ) (o : Outcome) → EndsWith words.Open opened after file o → EndsWith what opened after file o
left_ends what opened after file outcome.Done h = absurd (never h.0)
  where
    never : words.Open ≡ words.Rewrite → ⊥
    never e = absurd cc
left_ends what opened after file _ h = h

left_by : (what : Word) (s : client.State) (file : ℕ) (r : client.State × ClientStep) → IsLeft s file r → IsLeftBy what s file r
left_by what s file r h = (h.0, by r.1.ended h.1)
  where
    by : (e : Option Ended) → Leaves words.Open s.opened r.0.opened file e → Leaves what s.opened r.0.opened file e
    by None left = left
    by (Some e) left = left_ends what s.opened r.0.opened file e.outcome left

-- ---- how many calls go out

less_by : (a b : ℕ) → a - b ≤ a
less_by (suc a) (suc b) = let h = less_by a b in omega (arith, h)
less_by _ _ = omega arith

reads_more_most : (k : ℕ) (cache : Entries) (index : Indexed) (file : ℕ) (r : Reads) (most : ℕ) → calls_most ≤ length r.fetch.under + most → (reads_more k cache index file r).next_xid ≤ r.next_xid + most
reads_more_most zero cache index file r most le = omega arith
reads_more_most (suc k) cache index file r most le = by (nat_lt (length r.fetch.under) calls_most) refl (λ q n. reads_more_most k cache index file q n)
  where
    chunk : (c : Chunk) (o : Option (List ℕ)) → length r.fetch.under < calls_most → ((q : Reads) (n : ℕ) → calls_most ≤ length q.fetch.under + n → (reads_more k cache index file q).next_xid ≤ q.next_xid + n) → (reads_more k cache index file (reads_chunk file r c o)).next_xid ≤ r.next_xid + most
    chunk c (Some bytes) less go = go (reads_chunk file r c (Some bytes)) most le
    chunk c None less go = one most le
      where
        one : (n : ℕ) → calls_most ≤ length r.fetch.under + n → (reads_more k cache index file (reads_chunk file r c None)).next_xid ≤ r.next_xid + n
        one zero full = absurd (omega (arith, less, full))
        one (suc n) room =
            let l = length-append r.fetch.under (record { xid = r.next_xid; index = r.fetch.asked } ∷ []) in
            let h = go (reads_chunk file r c None) n (omega (arith, room, l)) in
            omega (arith, h)

    next : (o : Option Chunk) → length r.fetch.under < calls_most → ((q : Reads) (n : ℕ) → calls_most ≤ length q.fetch.under + n → (reads_more k cache index file q).next_xid ≤ q.next_xid + n) → (reads_more k cache index file (reads_next cache index file r o)).next_xid ≤ r.next_xid + most
    next None less go = go r most le
    next (Some c) less go = chunk c (from_index cache index c) less go

    by : (b : Bool) → nat_lt (length r.fetch.under) calls_most ≡ b → ((q : Reads) (n : ℕ) → calls_most ≤ length q.fetch.under + n → (reads_more k cache index file q).next_xid ≤ q.next_xid + n) → (if b then reads_more k cache index file (reads_next cache index file r (slice_get r.fetch.chunks r.fetch.asked)) else r).next_xid ≤ r.next_xid + most
    by true lt go = next (slice_get r.fetch.chunks r.fetch.asked) (grind (arith, nat_tests, lt)) go
    by false lt go = omega arith

names_next_most : (lbfs : ℕ) (n : Names) (o : Option Chunk) → ((names_next lbfs n o).next_xid ≤ n.next_xid + 1) × ((names_next lbfs n o).next_xid + length n.store.under ≡ n.next_xid + length (names_next lbfs n o).store.under)
names_next_most lbfs n None = (omega arith, refl)
names_next_most lbfs n (Some c) = let l = length-append n.store.under (record { xid = n.next_xid; index = n.store.named; way = way.Named } ∷ []) in (omega arith, omega (arith, l))

names_more_most : (lbfs : ℕ) (k : ℕ) (n : Names) → ((names_more lbfs k n).next_xid ≤ n.next_xid + k) × ((names_more lbfs k n).next_xid + length n.store.under ≡ n.next_xid + length (names_more lbfs k n).store.under)
names_more_most lbfs zero n = (omega arith, refl)
names_more_most lbfs (suc k) n =
    let m = names_next lbfs n (slice_get n.store.chunks n.store.named) in
    let a = names_next_most lbfs n (slice_get n.store.chunks n.store.named) in
    let b = names_more_most lbfs k m in
    let a0 = a.0 in
    let a1 = a.1 in
    let b0 = b.0 in
    let b1 = b.1 in
    (omega (arith, a0, b0), omega (arith, a1, b1))

reads_most : (cache : Entries) (index : Indexed) (file : ℕ) (f : Fetch) (next : ℕ) → (reads_all cache index file f next).next_xid ≤ next + calls_most
reads_most cache index file f next = reads_more_most (length f.chunks - f.asked) cache index file (reads_from f next) calls_most (omega arith)

names_most : (lbfs : ℕ) (st : Upload) (next : ℕ) → (names_all lbfs st next).next_xid ≤ next + calls_most
names_most lbfs st next = let a = (names_more_most lbfs (calls_most - length st.under) (names_from st next)).0 in let b = less_by calls_most (length st.under) in omega (arith, a, b)

-- where nothing is under way none went out
none_named : (lbfs : ℕ) (st : Upload) (next : ℕ) → is_stored (names_all lbfs st next).store ≡ true → (names_all lbfs st next).next_xid ≤ next
none_named lbfs st next e = by (names_all lbfs st next).store.under e (names_more_most lbfs (calls_most - length st.under) (names_from st next)).1
  where
    by : (us : List UploadCall) → (is_none us && (names_all lbfs st next).store.named == length (names_all lbfs st next).store.chunks) ≡ true → (names_all lbfs st next).next_xid + length st.under ≡ next + length us → (names_all lbfs st next).next_xid ≤ next
    by [] e n = omega (arith, n)
    by (u ∷ us) e n = absurd cc

-- ---- an open's answers

refused_left : (s : client.State) (calls : List Pending) (file xid : ℕ) (t : Status) → IsLeft s file (refused s calls xid t)
refused_left s calls file xid t = (omega arith, refl)

reads_if_left : (s : client.State) (calls : List Pending) (file xid : ℕ) (r : Reads) (bytes : ℕ) (b : Bool) → r.next_xid ≤ s.next_xid + calls_most → IsLeft s file (reads_if s calls file xid r bytes b)
reads_if_left s calls file xid r bytes true le = (omega arith, (refl, (_, refl)))
reads_if_left s calls file xid r bytes false le = (le, refl)

reads_on_left : (s : client.State) (calls : List Pending) (file xid : ℕ) (f : Fetch) (bytes : ℕ) → IsLeft s file (reads_on s calls file xid f bytes)
reads_on_left s calls file xid f bytes = let r = reads_all s.cache s.index file f s.next_xid in reads_if_left (record s { index = found_all s.index (looked_up f r) }) calls file xid r bytes (is_here r.fetch) (reads_most s.cache s.index file f s.next_xid)

lists_on_left : (s : client.State) (calls : List Pending) (file xid : ℕ) (f : Fetch) (eof : Bool) → IsLeft s file (lists_on s calls file xid f eof)
lists_on_left s calls file xid f true = reads_on_left s calls file xid (listed f) 0
lists_on_left s calls file xid f false = (let o = some_call in omega (arith, o), refl)

retries_left : (s : client.State) (calls : List Pending) (file xid : ℕ) (b : Bool) (f : Fetch) (version bytes : ℕ) → IsLeft s file (retries s calls file xid b f version bytes)
retries_left s calls file xid true f version bytes = (let o = some_call in omega (arith, o), refl)
retries_left s calls file xid false f version bytes = (omega arith, refl)

told_shape_left : (s : client.State) (calls : List Pending) (file xid : ℕ) (f : Fetch) (h : Hashes) (b : Broken) → IsLeft s file (told_shape s calls file xid f h b)
told_shape_left s calls file xid f h None = lists_on_left s calls file xid (with_hashes f h) h.eof
told_shape_left s calls file xid f h (Some b) = (omega arith, refl)

told_version_left : (s : client.State) (calls : List Pending) (file xid : ℕ) (f : Fetch) (h : Hashes) (same : Bool) → IsLeft s file (told_version s calls file xid f h same)
told_version_left s calls file xid f h true = told_shape_left s calls file xid f h (broken_of f h)
told_version_left s calls file xid f h false = retries_left s calls file xid _ f h.version 0

told_hashes_left : (s : client.State) (calls : List Pending) (file xid : ℕ) (f : Fetch) (a : Answer Hashes Unit) → IsLeft s file (told_hashes s calls file xid f a)
told_hashes_left s calls file xid f (Failed t u) = refused_left s calls file xid t
told_hashes_left s calls file xid f (Done h) = told_version_left s calls file xid f h (h.version == f.version)

told_first_left : (s : client.State) (calls : List Pending) (file xid tries : ℕ) (a : Answer Hashes Unit) → IsLeft s file (told_first s calls file xid tries a)
told_first_left s calls file xid tries (Failed t u) = refused_left s calls file xid t
told_first_left s calls file xid tries (Done h) = told_hashes_left s calls file xid (fetch_of tries xid h) (Done h)

uses_kept_left : (s : client.State) (calls : List Pending) (file xid version : ℕ) (o : Option (List ℕ)) → IsLeft s file (uses_kept s calls file xid version o)
uses_kept_left s calls file xid version (Some bytes) = (omega arith, (refl, (_, refl)))
uses_kept_left s calls file xid version None = (let o = some_call in omega (arith, o), refl)

told_lease_left : (s : client.State) (calls : List Pending) (file xid : ℕ) (a : Answer Leased Unit) → IsLeft s file (told_lease s calls file xid a)
told_lease_left s calls file xid (Failed t u) = refused_left s calls file xid t
told_lease_left s calls file xid (Done l) = uses_kept_left s calls file xid l.version (content_in l.version (content_of s.cache file))

misfits_left : (s : client.State) (calls : List Pending) (file xid : ℕ) (f : Fetch) (b : BadPeer) (bytes : ℕ) (o : Option ℕ) → IsLeft s file (misfits s calls file xid f b bytes o)
misfits_left s calls file xid f b bytes (Some version) = retries_left s calls file xid _ f version bytes
misfits_left s calls file xid f b bytes None = (omega arith, refl)

told_bytes_left : (s : client.State) (calls : List Pending) (file xid : ℕ) (f : Fetch) (c : ReadCall) (piece : Piece) (o : Option BadPeer) → IsLeft s file (told_bytes s calls file xid f c piece o)
told_bytes_left s calls file xid f c piece None = reads_on_left s calls file xid (with_bytes f c piece.bytes) (length piece.bytes)
told_bytes_left s calls file xid f c piece (Some b) = misfits_left s calls file xid f b (length piece.bytes) (other_version f.version piece.attr)

told_chunk_left : (s : client.State) (calls : List Pending) (file xid : ℕ) (f : Fetch) (c : ReadCall) (piece : Piece) (o : Option Chunk) → IsLeft s file (told_chunk s calls file xid f c piece o)
told_chunk_left s calls file xid f c piece None = (omega arith, refl)
told_chunk_left s calls file xid f c piece (Some k) = told_bytes_left s calls file xid f c piece (fault_in k piece.bytes (length piece.bytes == k.len))

told_piece_left : (s : client.State) (calls : List Pending) (file xid : ℕ) (f : Fetch) (piece : Piece) (o : Option ReadCall) → IsLeft s file (told_piece s calls file xid f piece o)
told_piece_left s calls file xid f piece None = (omega arith, refl)
told_piece_left s calls file xid f piece (Some c) = told_chunk_left s calls file xid f c piece (slice_get f.chunks c.index)

-- ---- a close's answers

goes_if_left : (s : client.State) (file : ℕ) (content : List ℕ) (st : Upload) (b : Bool) → is_stored (names_all s.lbfs st s.next_xid).store ≡ b → IsLeft s file (goes_if s file content (names_all s.lbfs st s.next_xid) b)
goes_if_left s file content st true e = (let n = none_named s.lbfs st s.next_xid e in let o = some_call in omega (arith, n, o), refl)
goes_if_left s file content st false e = (names_most s.lbfs st s.next_xid, refl)

goes_on_left : (s : client.State) (file : ℕ) (content : List ℕ) (st : Upload) → IsLeft s file (goes_on s file content st)
goes_on_left s file content st = goes_if_left s file content st (is_stored (names_all s.lbfs st s.next_xid).store) refl

told_temp_left : (s : client.State) (calls : List Pending) (file xid temp : ℕ) (content : List ℕ) (a : Answer Unit Unit) → IsLeft s file (told_temp s calls file xid temp content a)
told_temp_left s calls file xid temp content (Failed t u) = refused_left s calls file xid t
told_temp_left s calls file xid temp content (Done u) = goes_on_left s file content (store_of temp content)

sends_whole_left : (s : client.State) (file xid : ℕ) (content : List ℕ) (st : Upload) (c : UploadCall) (o : Option Chunk) → IsLeft s file (sends_whole s file xid content st c o)
sends_whole_left s file xid content st c None = (omega arith, refl)
sends_whole_left s file xid content st c (Some k) = (let o = some_call in omega (arith, o), refl)

told_named_left : (s : client.State) (calls : List Pending) (file xid : ℕ) (content : List ℕ) (st : Upload) (c : UploadCall) (a : Answer Unit Unit) → IsLeft s file (told_named s calls file xid content st c a)
told_named_left s calls file xid content st c (Done u) = goes_on_left s file content st
told_named_left s calls file xid content st c (Failed status.HashNotFound u) = sends_whole_left s file xid content st c (slice_get st.chunks c.index)
told_named_left s calls file xid content st c (Failed t u) = refused_left s calls file xid t

told_whole_left : (s : client.State) (calls : List Pending) (file xid : ℕ) (content : List ℕ) (st : Upload) (a : Answer Unit Unit) → IsLeft s file (told_whole s calls file xid content st a)
told_whole_left s calls file xid content st (Done u) = goes_on_left s file content st
told_whole_left s calls file xid content st (Failed t u) = refused_left s calls file xid t

told_way_left : (s : client.State) (calls : List Pending) (file xid : ℕ) (content : List ℕ) (st : Upload) (c : UploadCall) (w : Way) (b : Body) → IsLeft s file (told_way s calls file xid content st c w b)
told_way_left s calls file xid content st c way.Named (body.Lb (lb.CondWriteAnswer a)) = told_named_left s calls file xid content st c a
told_way_left s calls file xid content st c way.Whole (body.Lb (lb.TmpWriteAnswer a)) = told_whole_left s calls file xid content st a
told_way_left s calls file xid content st c w b = (omega arith, refl)

told_stored_left : (s : client.State) (calls : List Pending) (file xid : ℕ) (content : List ℕ) (st : Upload) (b : Body) (o : Option UploadCall) → IsLeft s file (told_stored s calls file xid content st b o)
told_stored_left s calls file xid content st b None = (omega arith, refl)
told_stored_left s calls file xid content st b (Some c) = told_way_left s calls file xid content (answered st xid) c c.way b

-- ---- any answer

-- no rewrite is
abbrev IsNoRewrite : Stage → Type 0
IsNoRewrite (stage.Rewriting asked) = ⊥
IsNoRewrite t = Unit {0}

took_plainly : (s : client.State) (calls : List Pending) (file : ℕ) (t : Stage) (xid : ℕ) (b : Body) → IsOfFile t → IsNoRewrite t → IsLeft s file (takes s calls file t xid b)
took_plainly s calls file (stage.Asking asked) xid (body.Lb (lb.GetLeaseAnswer a)) known other = told_lease_left s calls file xid a
took_plainly s calls file (stage.Rewriting asked) xid b known other = absurd other
took_plainly s calls file (stage.Hashing tries asked) xid (body.Lb (lb.GetHashAnswer a)) known other = told_first_left s calls file xid tries a
took_plainly s calls file (stage.Listing asked f) xid (body.Lb (lb.GetHashAnswer a)) known other = told_hashes_left s calls file xid f a
took_plainly s calls file (stage.Reading f) xid (body.Nfs (nfs.ReadAnswer (Failed t a))) known other = refused_left s calls file xid t
took_plainly s calls file (stage.Reading f) xid (body.Nfs (nfs.ReadAnswer (Done piece))) known other = told_piece_left s calls file xid f piece (read_at f.under xid)
took_plainly s calls file (stage.Making asked temp) xid (body.Lb (lb.MkTmpFileAnswer a)) known other = told_temp_left s calls file xid temp (client.local_bytes s.opened file) a
took_plainly s calls file (stage.Storing st) xid b known other = told_stored_left s calls file xid (client.local_bytes s.opened file) st b (store_at st.under xid)
took_plainly s calls file (stage.Committing asked) xid (body.Lb (lb.CommitTmpAnswer (Failed t u))) known other = refused_left s calls file xid t
took_plainly s calls file (stage.Committing asked) xid (body.Lb (lb.CommitTmpAnswer (Done c))) known other = (omega arith, (refl, refl))
took_plainly s calls file (stage.Walking asked w) xid b known other = absurd known
took_plainly s calls file p xid b known other = (omega arith, refl)

pub took_left : (s : client.State) (calls : List Pending) (file : ℕ) (t : Stage) (xid : ℕ) (b : Body) → IsOfFile t → IsLeftBy (stage_word t) s file (takes s calls file t xid b)
took_left s calls file (stage.Rewriting asked) xid (body.Lb (lb.GetLeaseAnswer (Done l))) known = (omega arith, (refl, (_, refl, refl)))
took_left s calls file (stage.Rewriting asked) xid (body.Lb (lb.GetLeaseAnswer (Failed t u))) known = (omega arith, refl)
took_left s calls file (stage.Rewriting asked) xid b known = (omega arith, refl)
took_left s calls file (stage.Walking asked w) xid b known = absurd known
took_left s calls file t xid b known = left_by (stage_word t) s file (takes s calls file t xid b) (took_plainly s calls file t xid b known tt)

-- whatever comes
pub step_left : (s : client.State) (m : Result Message WireFault) (now : ℕ) (t : Task) → s.task ≡ Some t → IsOfFile t.stage → IsLeftBy (stage_word t.stage) s t.file (got_step s m now)
step_left s m now t at known = got_cases (IsLeftBy (stage_word t.stage) s t.file) s m now (record {
  took = λ u is xid b. subst (λ (z : Task). IsLeftBy (stage_word t.stage) s t.file (took (idle (clocked s now)) (client.calls_of s) z.file z.stage xid b)) (some_is t u (sym at ∙ is)) (renoted (λ found r. IsLeftBy (stage_word t.stage) s t.file r) (idle (clocked s now)) t.file t.stage b (λ found r g until lease is h. h) [] (takes (idle (clocked s now)) (client.calls_of s) t.file t.stage xid b) (took_left (idle (clocked s now)) (client.calls_of s) t.file t.stage xid b known));
  memory = λ u is xid. (omega arith, refl);
  bad = λ u is f. (omega arith, refl);
  off = λ none. (omega arith, refl);
  forgot = λ xid. (omega arith, refl);
  recalled = λ xid o. back_by o xid;
  greeted = λ xid. (omega arith, refl);
  unfit = λ xid r. (omega arith, refl);
  call = (omega arith, refl);
})
  where
    back_by : (o : Option ℕ) (xid : ℕ) → IsLeftBy (stage_word t.stage) s t.file (recalls (clocked s now) o, sends_one (message.Answer xid (body.Back back.RecallAnswer)) 0)
    back_by None xid = (omega arith, refl)
    back_by (Some f) xid = (omega arith, refl)

-- with nothing under way nothing ends by it
abbrev IsIdle : client.State → client.State × ClientStep → Type 0
IsIdle s r = (r.0.next_xid ≡ s.next_xid) × (r.0.opened ≡ s.opened) × (r.1.ended ≡ None)

pub step_idle : (s : client.State) (m : Result Message WireFault) (now : ℕ) → s.task ≡ None → (let r = got_step s m now in (r.0.next_xid ≡ s.next_xid) × (r.0.opened ≡ s.opened) × (r.1.ended ≡ None))
step_idle s m now none = got_cases (IsIdle s) s m now (record {
  took = λ t is xid b. nothing_there t (sym none ∙ is);
  memory = λ t is xid. nothing_there t (sym none ∙ is);
  bad = λ t is f. nothing_there t (sym none ∙ is);
  off = λ none. (refl, refl, refl);
  forgot = λ xid. (refl, refl, refl);
  recalled = λ xid o. back_by o xid;
  greeted = λ xid. (refl, refl, refl);
  unfit = λ xid r. (refl, refl, refl);
  call = (refl, refl, refl);
})
  where
    back_by : (o : Option ℕ) (xid : ℕ) → IsIdle s (recalls (clocked s now) o, sends_one (message.Answer xid (body.Back back.RecallAnswer)) 0)
    back_by None xid = (refl, refl, refl)
    back_by (Some f) xid = (refl, refl, refl)

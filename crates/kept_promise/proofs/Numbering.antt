-- The number of a client's next call is one more than the calls that it sent on its connection.
use Rattle.std.proofs.Common.{◌≡◌, ℕ, zero, suc, ◌+◌, ◌-◌, List, [], ◌∷◌, ◌++◌, length, Option, Some, None, Result, Bool, true, false, refl, sym, ap, ◌∙◌, arith, eq-eqb, ne_eqb}
use Rattle.xdr_codec.specs.declared.status.Status.TheVariants as status
use Rattle.hash_calls.specs.declared.call.Leased.{Leased}
use Rattle.hash_calls.specs.declared.message.Lb.TheVariants as lb
use Rattle.nfs3_calls.specs.declared.message.Nfs.TheVariants as nfs
use Rattle.wire.specs.declared.message.Body.TheVariants as body
use Rattle.chunk_index.specs.Index.{Indexed}
use Rattle.client_cache.specs.Cache.{Entries, content_of}
use Rattle.file_open.specs.Caching.{content_in, found_all}
use Rattle.file_open.specs.Opening.{reads_chunk, looked_up}
use Rattle.lease_rules.specs.Leases.{note_until}
use Rattle.client_state.specs.Noting.{at as at_clock, noted, noted_until}
use Rattle.client_state.specs.declared.noting.Granted.{Granted}
use Rattle.open_close.specs.Step.{takes, lease_in, recalls}
use Rattle.client_state.specs.State as client
use Rattle.client_state.specs.declared.task.Stage.TheVariants as stage
use Rattle.client_state.specs.declared.task.Way.TheVariants as way
use Rattle.trace_replay.specs.Trail.{call_number}
use Rattle.kept_promise.proofs.Common.{slice_get, ◌==◌, nat_lt, if◌then◌else◌, Chunk, Command, Answer, Done, Failed, Hashes, Piece, Body, Message, Pending, WireFault, names_from, names_next, names_more, names_all, is_stored, store_of, store_at, answered, calls_most, fetch_of, with_hashes, listed, reads_from, reads_more, reads_all, is_here, read_at, fault_in, other_version, with_bytes, Broken, broken_of, uses_kept, told_lease, closes, command_step, idle, reads_if, reads_on, lists_on, told_shape, told_version, told_hashes, told_first, retries, misfits, told_bytes, told_chunk, told_piece, goes_if, goes_on, told_temp, sends_whole, told_named, told_whole, told_way, told_stored, took, got_step, ends, Names, Reads, BadPeer, ClientStep, Fetch, ReadCall, Stage, Upload, UploadCall, Way, Moment, calls_among, sent_if, calls_by, calls_from}
use Rattle.path_calls.specs.declared.walk.Walk.{Walk}
use Rattle.kept_promise.proofs.StepCases.{reads_keep, IsOfFile, walk_cases, got_cases, command_cases}
use Rattle.file_open.specs.Rewriting.{told_anew}

-- ---- a client's step

-- its next number goes on by the calls that it sends
abbrev pub Numbers : client.State → client.State × ClientStep → Type 0
Numbers s r = r.0.next_xid ≡ s.next_xid + calls_among r.1.send

among_more : (ms : List Message) (m : Message) → calls_among (ms ++ m ∷ []) ≡ calls_among ms + call_number m
among_more [] m = omega arith
among_more (x ∷ ms) m = let h = among_more ms m in omega (arith, h)

-- so many READs went out as numbers were used
abbrev Asks : (next : ℕ) → Reads → Type 0
Asks next r = r.next_xid ≡ next + calls_among r.send

reads_number : (cache : Entries) (index : Indexed) (k file next : ℕ) (r : Reads) → Asks next r → Asks next (reads_more k cache index file r)
reads_number cache index k file next r h = reads_keep (Asks next) cache index file (λ q c o g at is. one q c o g) k r h
  where
    one : (q : Reads) (c : Chunk) (o : Option (List ℕ)) → Asks next q → Asks next (reads_chunk file q c o)
    one q c (Some bytes) g = g
    one q c None g = let m = among_more q.send (Rattle.file_open.specs.Opening.read_call q.next_xid file c) in omega (arith, g, m)

names_number : (lbfs : ℕ) (k : ℕ) (n : Names) → (names_more lbfs k n).next_xid + calls_among n.send ≡ n.next_xid + calls_among (names_more lbfs k n).send
names_number lbfs zero n = refl
names_number lbfs (suc k) n = by (slice_get n.store.chunks n.store.named) (λ q. names_number lbfs k q)
  where
    by : (o : Option Chunk) → ((q : Names) → (names_more lbfs k q).next_xid + calls_among q.send ≡ q.next_xid + calls_among (names_more lbfs k q).send) → (names_more lbfs k (names_next lbfs n o)).next_xid + calls_among n.send ≡ n.next_xid + calls_among (names_more lbfs k (names_next lbfs n o)).send
    by None go = go n
    by (Some c) go =
        let h = go (names_next lbfs n (Some c)) in
        let m = among_more n.send (Rattle.file_close.specs.Closing.cond_call lbfs n.next_xid n.store.temp c) in
        omega (arith, h, m)

reads_on_number : (s : client.State) (calls : List Pending) (file xid : ℕ) (f : Fetch) (bytes : ℕ) → Numbers s (reads_on s calls file xid f bytes)
reads_on_number s calls file xid f bytes = by (is_here r.fetch)
  where
    r : Reads
    r = reads_all s.cache s.index file f s.next_xid

    by : (b : Bool) → Numbers s (reads_if (record s { index = found_all s.index (looked_up f r) }) calls file xid r bytes b)
    by true = omega arith
    by false = reads_number s.cache s.index (length f.chunks - f.asked) file s.next_xid (reads_from f s.next_xid) (omega arith)

lists_number : (s : client.State) (calls : List Pending) (file xid : ℕ) (f : Fetch) (eof : Bool) → Numbers s (lists_on s calls file xid f eof)
lists_number s calls file xid f true = reads_on_number s calls file xid (listed f) 0
lists_number s calls file xid f false = refl

retries_number : (s : client.State) (calls : List Pending) (file xid : ℕ) (b : Bool) (f : Fetch) (version bytes : ℕ) → Numbers s (retries s calls file xid b f version bytes)
retries_number s calls file xid true f version bytes = refl
retries_number s calls file xid false f version bytes = omega arith

shape_number : (s : client.State) (calls : List Pending) (file xid : ℕ) (f : Fetch) (h : Hashes) (b : Broken) → Numbers s (told_shape s calls file xid f h b)
shape_number s calls file xid f h None = lists_number s calls file xid (with_hashes f h) h.eof
shape_number s calls file xid f h (Some b) = omega arith

hashes_number : (s : client.State) (calls : List Pending) (file xid : ℕ) (f : Fetch) (a : Answer Hashes Unit) → Numbers s (told_hashes s calls file xid f a)
hashes_number s calls file xid f (Failed t u) = omega arith
hashes_number s calls file xid f (Done h) = by (h.version == f.version)
  where
    by : (same : Bool) → Numbers s (told_version s calls file xid f h same)
    by true = shape_number s calls file xid f h (broken_of f h)
    by false = retries_number s calls file xid (nat_lt f.tries Rattle.transfer_rules.specs.Limits.tries_most) f h.version 0

first_numbers : (s : client.State) (calls : List Pending) (file xid tries : ℕ) (a : Answer Hashes Unit) → Numbers s (told_first s calls file xid tries a)
first_numbers s calls file xid tries (Failed t u) = omega arith
first_numbers s calls file xid tries (Done h) = hashes_number s calls file xid (fetch_of tries xid h) (Done h)

kept_number : (s : client.State) (calls : List Pending) (file xid version : ℕ) (o : Option (List ℕ)) → Numbers s (uses_kept s calls file xid version o)
kept_number s calls file xid version (Some bytes) = omega arith
kept_number s calls file xid version None = refl

lease_number : (s : client.State) (calls : List Pending) (file xid : ℕ) (a : Answer Leased Unit) → Numbers s (told_lease s calls file xid a)
lease_number s calls file xid (Failed t u) = omega arith
lease_number s calls file xid (Done l) = kept_number s calls file xid l.version (content_in l.version (content_of s.cache file))

misfits_number : (s : client.State) (calls : List Pending) (file xid : ℕ) (f : Fetch) (b : BadPeer) (bytes : ℕ) (o : Option ℕ) → Numbers s (misfits s calls file xid f b bytes o)
misfits_number s calls file xid f b bytes (Some version) = retries_number s calls file xid (nat_lt f.tries Rattle.transfer_rules.specs.Limits.tries_most) f version bytes
misfits_number s calls file xid f b bytes None = omega arith

bytes_number : (s : client.State) (calls : List Pending) (file xid : ℕ) (f : Fetch) (c : ReadCall) (piece : Piece) (o : Option BadPeer) → Numbers s (told_bytes s calls file xid f c piece o)
bytes_number s calls file xid f c piece None = reads_on_number s calls file xid (with_bytes f c piece.bytes) (length piece.bytes)
bytes_number s calls file xid f c piece (Some b) = misfits_number s calls file xid f b (length piece.bytes) (other_version f.version piece.attr)

chunk_number : (s : client.State) (calls : List Pending) (file xid : ℕ) (f : Fetch) (c : ReadCall) (piece : Piece) (o : Option Chunk) → Numbers s (told_chunk s calls file xid f c piece o)
chunk_number s calls file xid f c piece None = omega arith
chunk_number s calls file xid f c piece (Some k) = bytes_number s calls file xid f c piece (fault_in k piece.bytes (length piece.bytes == k.len))

piece_number : (s : client.State) (calls : List Pending) (file xid : ℕ) (f : Fetch) (piece : Piece) (o : Option ReadCall) → Numbers s (told_piece s calls file xid f piece o)
piece_number s calls file xid f piece None = omega arith
piece_number s calls file xid f piece (Some c) = chunk_number s calls file xid f c piece (slice_get f.chunks c.index)

goes_number : (s : client.State) (file : ℕ) (content : List ℕ) (st : Upload) → Numbers s (goes_on s file content st)
goes_number s file content st = by (is_stored (names_all s.lbfs st s.next_xid).store)
  where
    by : (b : Bool) → Numbers s (goes_if s file content (names_all s.lbfs st s.next_xid) b)
    by true =
        let n : Names = names_all s.lbfs st s.next_xid in
        let h = names_number s.lbfs (calls_most - length st.under) (names_from st s.next_xid) in
        let m = among_more n.send (Rattle.file_close.specs.Closing.commit_call s.lbfs n.next_xid n.store.temp file (length content)) in
        omega (arith, h, m)
    by false = let h = names_number s.lbfs (calls_most - length st.under) (names_from st s.next_xid) in omega (arith, h)

temp_number : (s : client.State) (calls : List Pending) (file xid temp : ℕ) (content : List ℕ) (a : Answer Unit Unit) → Numbers s (told_temp s calls file xid temp content a)
temp_number s calls file xid temp content (Failed t u) = omega arith
temp_number s calls file xid temp content (Done u) = goes_number s file content (store_of temp content)

sends_number : (s : client.State) (file xid : ℕ) (content : List ℕ) (st : Upload) (c : UploadCall) (o : Option Chunk) → Numbers s (sends_whole s file xid content st c o)
sends_number s file xid content st c None = omega arith
sends_number s file xid content st c (Some k) = refl

named_number : (s : client.State) (calls : List Pending) (file xid : ℕ) (content : List ℕ) (st : Upload) (c : UploadCall) (a : Answer Unit Unit) → Numbers s (told_named s calls file xid content st c a)
named_number s calls file xid content st c (Done u) = goes_number s file content st
named_number s calls file xid content st c (Failed status.HashNotFound u) = sends_number s file xid content st c (slice_get st.chunks c.index)
named_number s calls file xid content st c (Failed t u) = omega arith

whole_number : (s : client.State) (calls : List Pending) (file xid : ℕ) (content : List ℕ) (st : Upload) (a : Answer Unit Unit) → Numbers s (told_whole s calls file xid content st a)
whole_number s calls file xid content st (Failed t u) = omega arith
whole_number s calls file xid content st (Done u) = goes_number s file content st

way_number : (s : client.State) (calls : List Pending) (file xid : ℕ) (content : List ℕ) (st : Upload) (c : UploadCall) (w : Way) (b : Body) → Numbers s (told_way s calls file xid content st c w b)
way_number s calls file xid content st c way.Named (body.Lb (lb.CondWriteAnswer a)) = named_number s calls file xid content st c a
way_number s calls file xid content st c way.Whole (body.Lb (lb.TmpWriteAnswer a)) = whole_number s calls file xid content st a
way_number s calls file xid content st c w b = omega arith

stored_number : (s : client.State) (calls : List Pending) (file xid : ℕ) (content : List ℕ) (st : Upload) (b : Body) (o : Option UploadCall) → Numbers s (told_stored s calls file xid content st b o)
stored_number s calls file xid content st b None = omega arith
stored_number s calls file xid content st b (Some c) = way_number s calls file xid content (answered st xid) c c.way b

anew_number : (s : client.State) (calls : List Pending) (file xid : ℕ) (a : Answer Leased Unit) → Numbers s (told_anew s calls file xid a)
anew_number s calls file xid (Failed t u) = omega arith
anew_number s calls file xid (Done l) = omega arith

walk_number : (s : client.State) (calls : List Pending) (file asked : ℕ) (w : Walk) (xid : ℕ) (b : Body) → Numbers s (took s calls file (stage.Walking asked w) xid b)
walk_number s calls file asked w xid b = walk_cases (Numbers s) s calls file asked w xid b (record {
  fault = λ f bad. omega arith;
  asks = λ v k. refl;
  open_already = λ id k is. omega arith;
  fetches = λ id k shut none. refl;
  leases = λ id c k shut some. refl;
  opens_now = λ id c k shut fresh. omega arith;
  renew_already = λ id k is. omega arith;
  renews = λ id k shut. refl;
  empties_now = λ id c k shut fresh. omega arith;
  ends = λ w e k is. omega arith;
})

takes_number : (s : client.State) (calls : List Pending) (file : ℕ) (t : Stage) (xid : ℕ) (b : Body) → IsOfFile t → Numbers s (takes s calls file t xid b)
takes_number s calls file (stage.Asking asked) xid (body.Lb (lb.GetLeaseAnswer a)) of = lease_number s calls file xid a
takes_number s calls file (stage.Rewriting asked) xid (body.Lb (lb.GetLeaseAnswer a)) of = anew_number s calls file xid a
takes_number s calls file (stage.Hashing tries asked) xid (body.Lb (lb.GetHashAnswer a)) of = first_numbers s calls file xid tries a
takes_number s calls file (stage.Listing asked f) xid (body.Lb (lb.GetHashAnswer a)) of = hashes_number s calls file xid f a
takes_number s calls file (stage.Reading f) xid (body.Nfs (nfs.ReadAnswer (Failed t a))) of = omega arith
takes_number s calls file (stage.Reading f) xid (body.Nfs (nfs.ReadAnswer (Done piece))) of = piece_number s calls file xid f piece (read_at f.under xid)
takes_number s calls file (stage.Making asked temp) xid (body.Lb (lb.MkTmpFileAnswer a)) of = temp_number s calls file xid temp (client.local_bytes s.opened file) a
takes_number s calls file (stage.Storing st) xid b of = stored_number s calls file xid (client.local_bytes s.opened file) st b (store_at st.under xid)
takes_number s calls file (stage.Committing asked) xid (body.Lb (lb.CommitTmpAnswer (Failed t u))) of = omega arith
takes_number s calls file (stage.Committing asked) xid (body.Lb (lb.CommitTmpAnswer (Done c))) of = omega arith
takes_number s calls file (stage.Walking asked w) xid b of = absurd of
takes_number s calls file p xid b of = omega arith

-- a note takes no number
noted_number : (s : client.State) (sent file : ℕ) (g : Option Granted) → (noted s sent file g).next_xid ≡ s.next_xid
noted_number s sent file None = refl
noted_number s sent file (Some g) = by (note_until sent g.term s.drift)
  where
    by : (o : Option ℕ) → (noted_until s file g.version o).next_xid ≡ s.next_xid
    by None = refl
    by (Some until) = refl

took_number : (s : client.State) (calls : List Pending) (file : ℕ) (t : Stage) (xid : ℕ) (b : Body) → Numbers s (took s calls file t xid b)
took_number s calls file (stage.Walking asked w) xid b = walk_number s calls file asked w xid b
took_number s calls file t xid b = noted_number (takes s calls file t xid b).0 s.sent file (lease_in t b) ∙ takes_number s calls file t xid b tt

recalled_number : (s : client.State) (xid : ℕ) (file : Option ℕ) → (recalls s file).next_xid ≡ s.next_xid
recalled_number s xid None = refl
recalled_number s xid (Some file) = refl

-- whatever comes
pub got_number : (s : client.State) (m : Result Message WireFault) (now : ℕ) → Numbers s (got_step s m now)
got_number s m now = got_cases (Numbers s) s m now (record {
  took = λ t is xid b. took_number (idle (at_clock s now)) (client.calls_of (at_clock s now)) t.file t.stage xid b;
  memory = λ t is xid. omega arith;
  bad = λ t is f. omega arith;
  off = λ none. omega arith;
  recalled = λ xid file. (let e = recalled_number (at_clock s now) xid file in omega (arith, e));
  greeted = λ xid. omega arith;
  forgot = λ xid. omega arith;
  unfit = λ xid r. omega arith;
  call = omega arith;
})

-- ---- a command

pub command_number : (s : client.State) (d : Command) (now : ℕ) → Numbers s (command_step s d now)
command_number s d now = command_cases (Numbers s) s d now (record {
  busy = λ t is. omega arith;
  answers = λ free opened o plain. omega arith;
  fetches = λ file is free may. refl;
  asks = λ file c is free may at. refl;
  renews = λ file is free may. refl;
  opens_now = λ file c is free shut fresh. omega arith;
  empties_now = λ file c is free shut fresh. omega arith;
  walks = λ c is free may. refl;
  closes = λ file l is free may at. refl;
})

-- ---- calls that were sent

pub calls_more : (c was : ℕ) (past : List Moment) (m : Moment) → calls_from c was (past ++ m ∷ []) ≡ calls_by c (calls_from c was past) m
calls_more c was [] m = refl
calls_more c was (z ∷ past) m = calls_more c (calls_by c was z) past m

-- none by one who sends none, or another
pub no_calls : (z c was : ℕ) (ms : List Message) → ms ≡ [] → was + sent_if (c == z) ms ≡ was
no_calls z c was ms none = ap (λ l. was + sent_if (c == z) l) none ∙ by (c == z)
  where
    by : (b : Bool) → was + sent_if b [] ≡ was
    by true = omega arith
    by false = omega arith

pub other_calls : (z c was : ℕ) (ms : List Message) → (z ≡ c → ⊥) → was + sent_if (c == z) ms ≡ was
other_calls z c was ms apart = ap (λ b. was + sent_if b ms) (ne_eqb c z (λ e. apart (sym e))) ∙ omega arith

pub own_calls : (z c was : ℕ) (ms : List Message) → z ≡ c → was + sent_if (c == z) ms ≡ was + calls_among ms
own_calls z c was ms same = ap (λ b. was + sent_if b ms) (eq-eqb c z (sym same))

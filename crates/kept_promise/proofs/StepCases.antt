-- What a client's step can come to, by a command or by an answer to a call of its operation: whatever holds of each case holds of the step. And what
-- is true of the calls that go out in it, one by one.
use Rattle.std.proofs.Common.{◌⊎◌, inl, inr, ◌≡◌, ℕ, zero, suc, ◌+◌, ◌<◌, ◌≤◌, List, [], ◌∷◌, ◌++◌, length, Option, Some, None, Bool, true, false, refl, sym, ap, ◌∙◌, subst, arith, Result, Ok, Err}
use Rattle.command_text.specs.declared.command.Command.TheVariants as command
use Rattle.command_text.specs.declared.path.PathCommand.{PathCommand}
use Rattle.xdr_codec.specs.declared.status.Status.TheVariants as status
use Rattle.hash_calls.specs.declared.call.Leased.{Leased}
use Rattle.hash_calls.specs.declared.message.Back.TheVariants as back
use Rattle.hash_calls.specs.declared.message.Back.{Back}
use Rattle.hash_calls.specs.declared.message.Lb.TheVariants as lb
use Rattle.nfs3_calls.specs.declared.message.Nfs.TheVariants as nfs
use Rattle.nfs3_calls.specs.declared.message.Nfs.{Nfs}
use Rattle.path_calls.specs.Walk.{begun as walk_begun}
use Rattle.path_calls.specs.Told.{walk_told}
use Rattle.path_calls.specs.declared.answers.Ended.{Ended as WalkEnd}
use Rattle.path_calls.specs.declared.answers.Told.{Told as WalkTold}
use Rattle.path_calls.specs.declared.answers.Told.TheVariants as walk_told_as
use Rattle.path_calls.specs.declared.walk.Walk.{Walk}
use Rattle.open_close.specs.Walking.{asks_next, walks_if, walks, finding, finds_if, renews_if, outcome_of, is_look, seen_in, walked, is_its, told_walk}
use Rattle.client_state.specs.Ending.{may_walk, cut_off, refusal_code}
use Rattle.wire.specs.declared.message.Body.TheVariants as body
use Rattle.wire.specs.declared.message.Message.TheVariants as message
use Rattle.wire.specs.declared.message.RpcRefusal.TheVariants as refusal
use Rattle.lease_rules.specs.Leases.{note_until}
use Rattle.client_state.specs.Counting.{sends_one}
use Rattle.client_state.specs.Noting.{at as clocked, noting, noted_until}
use Rattle.client_state.specs.declared.noting.Granted.{Granted}
use Rattle.open_close.specs.Step.{fault_of, does, hears, takes, lease_in, recalls, called, called_back}
use Rattle.xdr_codec.specs.Handle.{file_of}
use Rattle.chunk_index.specs.Index.{Indexed}
use Rattle.client_cache.specs.Cache.{Entries, reserved, content_of, with_note}
use Rattle.client_cache.specs.declared.kept.Content.{Content}
use Rattle.file_open.specs.Caching.{content_in, fresh_content, from_index, found_all}
use Rattle.file_open.specs.Looking.{listed_if, listed_by, taken_if, taken_at, taken_by, reading_by, with_file}
use Rattle.transfer_rules.specs.Limits.{calls_most}
use Rattle.file_open.specs.Opening.{reads_chunk, looked_up}
use Rattle.file_open.specs.Shape.{or_else, pairs_most}
use Rattle.transfer_rules.specs.Limits.{file_limit}
use Rattle.file_open.specs.Fetching.{changes, asks_kept, asks_file, uses_kept, told_lease, opens_fresh, opens_kept, finds_kept}
use Rattle.file_open.specs.Rewriting.{asks_version, asks_anew, rewrites_if, rewrites, opened_empty, empties_fresh, renews_kept, empties_kept}
use Rattle.file_close.specs.Storing.{closed}
use Rattle.client_state.specs.State.{with_local, without_local}
use Rattle.client_state.specs.declared.step.BadPeer.TheVariants as bad
use Rattle.client_state.specs.declared.step.Outcome.TheVariants as outcome
use Rattle.client_state.specs.declared.task.Stage.TheVariants as stage
use Rattle.client_state.specs.declared.task.Way.TheVariants as way
use Rattle.register_model.specs.declared.op.Word.TheVariants as words
use Rattle.trace_replay.specs.Trail.{given_in}
use Rattle.kept_promise.proofs.Common.{nat_tests, ◌==◌, ◌&&◌, not, if◌then◌else◌, sha1, end_from, end_of, slice_get, nat_lt, Chunk, content_length, content_bytes, Command, Answer, Done, Failed, Status, Hashes, Pair, Piece, Body, Pending, names_next, names_more, names_all, is_stored, store_of, store_at, answered, ends, local_most, written_size, written, truncated, tries_most, fetch_of, with_hashes, listed, reads_next, reads_more, reads_all, is_here, read_at, fault_in, other_version, with_bytes, Broken, broken_if, broken_pair, broken_pairs, chunks_from, with_pairs, broken_sum, broken_of, State, local_at, local_bytes, part_of, bad_peer, refused, tries_anew, retries, reads_if, reads_on, lists_on, told_shape, told_version, told_hashes, misfits, told_bytes, told_chunk, told_piece, goes_if, goes_on, sends_whole, told_named, told_way, told_stored, forgets, idle, took, is_open, may_ask, opens_if, opens, on_local, too_big, done_with, edits, writes, truncates, abandons, asks_temp, closes, command_step, Names, Reads, BadPeer, ClientStep, Ended, Outcome, Fetch, Local, ReadCall, Stage, Upload, UploadCall, Task, Way, Word, no_counts, taken_traffic, Message, RpcRefusal, WireFault, calls_of, pending, has_call, denied, drops, took_if, denied_if, got_message, got_fault, got_step, nothing_done}
use Rattle.kept_promise.proofs.Lists.{some_is, nothing_there}
use Rattle.kept_promise.proofs.Messages.{stage_word}

-- ---- calls that go out one by one

-- whatever each further chunk of a fetch keeps is so of all
pub reads_keep : (P : Reads → Type 0) (cache : Entries) (index : Indexed) (file : ℕ)
    → ((r : Reads) (c : Chunk) (o : Option (List ℕ)) → P r → slice_get r.fetch.chunks r.fetch.asked ≡ Some c → from_index cache index c ≡ o → P (reads_chunk file r c o)) → (k : ℕ) (r : Reads) → P r → P (reads_more k cache index file r)
reads_keep P cache index file step zero r h = h
reads_keep P cache index file step (suc k) r h = by (nat_lt (length r.fetch.under) calls_most) (λ q g. reads_keep P cache index file step k q g)
  where
    one : (o : Option Chunk) → slice_get r.fetch.chunks r.fetch.asked ≡ o → P (reads_next cache index file r o)
    one None e = h
    one (Some c) e = step r c (from_index cache index c) h e refl

    by : (b : Bool) → ((q : Reads) → P q → P (reads_more k cache index file q)) → P (if b then reads_more k cache index file (reads_next cache index file r (slice_get r.fetch.chunks r.fetch.asked)) else r)
    by true later = later (reads_next cache index file r (slice_get r.fetch.chunks r.fetch.asked)) (one (slice_get r.fetch.chunks r.fetch.asked) refl)
    by false later = h

-- and each further chunk of a close
pub names_keep : (lbfs : ℕ) (P : Names → Type 0) → ((n : Names) (c : Chunk) → P n → slice_get n.store.chunks n.store.named ≡ Some c → P (names_next lbfs n (Some c))) → (k : ℕ) (n : Names) → P n → P (names_more lbfs k n)
names_keep lbfs P step zero n h = h
names_keep lbfs P step (suc k) n h = names_keep lbfs P step k (names_next lbfs n (slice_get n.store.chunks n.store.named)) (one (slice_get n.store.chunks n.store.named) refl)
  where
    one : (o : Option Chunk) → slice_get n.store.chunks n.store.named ≡ o → P (names_next lbfs n o)
    one None e = h
    one (Some c) e = step n c h e

-- where no call is under way one may be
pub some_call : 0 < calls_most
unfolding calls_most
some_call = omega arith

abbrev going : ℕ → Entries → Indexed → (file : ℕ) → Reads → Bool → Reads
going k cache index file r b = if b then reads_more k cache index file (reads_next cache index file r (slice_get r.fetch.chunks r.fetch.asked)) else r

past_all : {A : Type 0} (xs : List A) (k : ℕ) → slice_get xs k ≡ None → length xs ≤ k
past_all [] k e = omega arith
past_all (x ∷ xs) zero e = absurd cc
past_all (x ∷ xs) (suc k) e = let h = past_all xs k e in omega (arith, h)

-- Where no READ is under way then, all chunks were looked up.
pub reads_end : (cache : Entries) (index : Indexed) (file k : ℕ) (r : Reads) → length r.fetch.chunks ≤ r.fetch.asked + k → (reads_more k cache index file r).fetch.under ≡ [] → length (reads_more k cache index file r).fetch.chunks ≤ (reads_more k cache index file r).fetch.asked
reads_end cache index file zero r le none = omega (arith, le)
reads_end cache index file (suc k) r le none = by (nat_lt (length r.fetch.under) calls_most) refl none (λ q less gone. reads_end cache index file k q less gone)
  where
    one : (c : Chunk) (o : Option (List ℕ)) → length (reads_chunk file r c o).fetch.chunks ≤ (reads_chunk file r c o).fetch.asked + k
    one c None = omega (arith, le)
    one c (Some bytes) = omega (arith, le)

    next : (o : Option Chunk) → slice_get r.fetch.chunks r.fetch.asked ≡ o → length (reads_next cache index file r o).fetch.chunks ≤ (reads_next cache index file r o).fetch.asked + k
    next None e = let n = past_all r.fetch.chunks r.fetch.asked e in omega (arith, n)
    next (Some c) e = one c (from_index cache index c)

    by : (b : Bool) → nat_lt (length r.fetch.under) calls_most ≡ b → (going k cache index file r b).fetch.under ≡ []
        → ((q : Reads) → length q.fetch.chunks ≤ q.fetch.asked + k → (reads_more k cache index file q).fetch.under ≡ [] → length (reads_more k cache index file q).fetch.chunks ≤ (reads_more k cache index file q).fetch.asked)
        → length (going k cache index file r b).fetch.chunks ≤ (going k cache index file r b).fetch.asked
    by true lt gone later = later (reads_next cache index file r (slice_get r.fetch.chunks r.fetch.asked)) (next (slice_get r.fetch.chunks r.fetch.asked) refl) gone
    by false full gone later = let e = ap (λ (l : List ReadCall). length l) gone in let some = some_call in absurd (grind (arith, nat_tests, full, e, some))

-- ---- a further piece of chunks is asked for behind some bytes

both_none : (a b : Broken) → or_else a b ≡ None → (a ≡ None) × (b ≡ None)
both_none None b e = (refl, e)
both_none (Some x) b e = absurd cc

unbroken : (b : Bool) (got wanted : ℕ) → broken_if b got wanted ≡ None → b ≡ false
unbroken true got wanted e = absurd cc
unbroken false got wanted e = refl

grows : (last : Bool) (at : ℕ) (ps : List Pair) → broken_pairs last ps ≡ None → at + length ps ≤ end_from at (chunks_from at ps)
grows last at [] e = omega arith
grows last at (p ∷ ps) e =
    let a = both_none (broken_pair (last && length ps == 0) p) (broken_pairs last ps) e in
    let some : (p.size == 0) ≡ false = unbroken (p.size == 0) 0 1 (both_none (broken_if (p.size == 0) 0 1) _ a.0).0 in
    let later = grows last (at + p.size) ps a.1 in
    let pos : 1 ≤ p.size = grind (arith, nat_tests, some) in
    omega (arith, later, pos)

end_append : (at : ℕ) (cs ds : List Chunk) → end_from at (cs ++ ds) ≡ end_from (end_from at cs) ds
end_append at [] ds = refl
end_append at (c ∷ cs) ds = end_append (c.start + c.len) cs ds

pub behind : (f : Fetch) (h : Hashes) → broken_of f h ≡ None → h.eof ≡ false → (end_of (with_hashes f h).chunks == 0) ≡ false
behind f h e more =
    let a = (both_none (broken_if (nat_lt file_limit h.size) h.size file_limit) _ e).1 in
    let b = (both_none (broken_if (nat_lt pairs_most (length h.pairs)) (length h.pairs) pairs_most) _ a).1 in
    let c = (both_none (broken_if (not (h.size == f.size)) h.size f.size) _ b).1 in
    let d = both_none (broken_pairs h.eof h.pairs) _ c in
    let s = subst (λ z. broken_sum z (end_of (with_pairs f.chunks h.pairs)) h.size (length h.pairs) ≡ None) more d.1 in
    let some : (length h.pairs == 0) ≡ false = unbroken (length h.pairs == 0) 0 1 (both_none (broken_if (nat_lt h.size (end_of (with_pairs f.chunks h.pairs))) (end_of (with_pairs f.chunks h.pairs)) h.size) _ s).1 in
    let le = grows h.eof (end_of f.chunks) h.pairs d.0 in
    let is = end_append 0 f.chunks (chunks_from (end_of f.chunks) h.pairs) in
    let pos : 1 ≤ length h.pairs = grind (arith, nat_tests, some) in
    let far : 1 ≤ end_of (with_hashes f h).chunks = omega (arith, le, is, pos) in
    grind (arith, nat_tests, far)

-- ---- an answer

-- a peer's fault ends it
abbrev pub IsFault : Option Ended → Type 0
IsFault None = ⊥
IsFault (Some e) = (f : BadPeer) × (e.outcome ≡ outcome.BadPeer f)

-- an answer to a CONDWRITE of a chunk that the server doesn't know
abbrev pub IsUnknown : Body → Type 0
IsUnknown (body.Lb (lb.CondWriteAnswer (Failed status.HashNotFound u))) = Unit {0}
IsUnknown b = ⊥

-- an open that got its content
abbrev pub IsOpenedBy : Outcome → Type 0
IsOpenedBy (outcome.Opened file len digest) = Unit {0}
IsOpenedBy o = ⊥

-- the bytes of a READ in an answer
abbrev pub bytes_came : (xid : ℕ) → Body → ℕ
bytes_came x b = (taken_traffic (message.Answer x b)).«data»

-- an operation ends, but not by an opened file
pub record JustEnds (x : ℕ) (b : Body) (r : State × ClientStep) : Type 0 where
  pub sent : r.1.send ≡ []
  pub bytes : ℕ
  pub counts : r.1.counts ≡ record no_counts { bytes = bytes }
  pub task : r.0.task ≡ None
  pub ended : Ended
  pub ended_is : r.1.ended ≡ Some ended
  pub unopened : IsOpenedBy ended.outcome → ⊥
  -- by a peer's fault, or an answer that isn't of an unknown chunk, whose bytes are counted
  pub known : IsFault r.1.ended ⊎ ((IsUnknown b → ⊥) × (bytes ≡ bytes_came x b))

-- by versions that differ
abbrev pub IsChangedBy : (first last : ℕ) → State × ClientStep → Type 0
IsChangedBy first last r = (e : Ended) × (r.1.ended ≡ Some e) × (e.outcome ≡ outcome.Changed first last)

-- the attempt that an answer to a GETHASH is of, without its pieces
abbrev pub FetchIn : Stage → (xid : ℕ) → Hashes → Fetch → Type 0
FetchIn st x h f = ((tries y : ℕ) × (st ≡ stage.Hashing tries y) × (f ≡ fetch_of tries x h)) ⊎ ((y : ℕ) × (st ≡ stage.Listing y f))

-- all its chunks are told, or the bytes of one have come
pub data FetchNow (st : Stage) (x : ℕ) (b : Body) (f : Fetch) (bytes : ℕ) : Type 0 where
  all_told : (g : Fetch) (h : Hashes) → b ≡ body.Lb (lb.GetHashAnswer (Done h)) → h.eof ≡ true → FetchIn st x h g → (h.version == g.version) ≡ true → f ≡ listed (with_hashes g h) → bytes ≡ 0 → FetchNow st x b f bytes
  one_came : (g : Fetch) (c : ReadCall) (k : Chunk) (p : Piece) → b ≡ body.Nfs (nfs.ReadAnswer (Done p)) → st ≡ stage.Reading g → read_at g.under x ≡ Some c → slice_get g.chunks c.index ≡ Some k → fault_in k p.bytes (length p.bytes == k.len) ≡ None → f ≡ with_bytes g c p.bytes → bytes ≡ length p.bytes
      → FetchNow st x b f bytes

-- the store that goes on by an answer
abbrev pub StoreIn : Stage → (xid : ℕ) → (content : List ℕ) → Upload → Type 0
StoreIn st x content w = ((y temp : ℕ) × (st ≡ stage.Making y temp) × (w ≡ store_of temp content)) ⊎ ((old : Upload) × (st ≡ stage.Storing old) × (w ≡ answered old x))

-- another version showed than that of the attempt
abbrev pub GaveUp : Stage → (xid : ℕ) → Body → Fetch → (version : ℕ) → Type 0
GaveUp st x b f version =
    ((h : Hashes) × (b ≡ body.Lb (lb.GetHashAnswer (Done h))) × FetchIn st x h f × (version ≡ h.version) × ((h.version == f.version) ≡ false))
    ⊎ ((p : Piece) × (b ≡ body.Nfs (nfs.ReadAnswer (Done p))) × (st ≡ stage.Reading f) × (other_version f.version p.attr ≡ Some version))

-- the READs that go out for a fetch, and the places of the chunks that the index gives
abbrev pub reads_of : State → (file : ℕ) → Fetch → Reads
reads_of s file f = reads_all s.cache s.index file f s.next_xid

abbrev pub given : State → (file : ℕ) → Fetch → List (ℕ × ℕ)
given s file f = given_in s (Some (file, f))

-- with what was looked up in front
abbrev pub looked : State → (file : ℕ) → Fetch → State
looked s file f = record s { index = found_all s.index (looked_up f (reads_of s file f)) }

-- what holds of each of them: of the places of chunks that the index gave, and of the step
pub record Cases (Z : List (ℕ × ℕ) → State × ClientStep → Type 0) (s : State) (calls : List Pending) (file : ℕ) (st : Stage) (x : ℕ) (b : Body) : Type 0 where
  pub ends : (r : State × ClientStep) → JustEnds x b r → ((first last : ℕ) → IsChangedBy first last r → ⊥) → IsFault r.1.ended ⊎ (bytes_came x b ≡ 0) → Z [] r
  -- a kept content is used, or the file is fetched
  pub uses : (y : ℕ) (l : Leased) (bytes : List ℕ) → st ≡ stage.Asking y → b ≡ body.Lb (lb.GetLeaseAnswer (Done l)) → content_in l.version (content_of s.cache file) ≡ Some bytes → Z [] (uses_kept s calls file x l.version (Some bytes))
  pub fetches : (y : ℕ) (l : Leased) → st ≡ stage.Asking y → b ≡ body.Lb (lb.GetLeaseAnswer (Done l)) → Z [] (tries_anew (forgets s calls x) file 1 0)
  -- an attempt ends by another version
  pub anew : (f : Fetch) (version bytes : ℕ) → stage_word st ≡ words.Open → GaveUp st x b f version → nat_lt f.tries tries_most ≡ true → bytes ≡ bytes_came x b → Z [] (tries_anew (forgets s calls x) file (f.tries + 1) bytes)
  pub changed : (r : State × ClientStep) (f : Fetch) (version : ℕ) → JustEnds x b r → stage_word st ≡ words.Open → GaveUp st x b f version → nat_lt f.tries tries_most ≡ false → IsChangedBy f.version version r → Z [] r
  -- further chunks are asked for, or their bytes, or all is here
  pub lists : (f : Fetch) (h : Hashes) → b ≡ body.Lb (lb.GetHashAnswer (Done h)) → FetchIn st x h f → (h.version == f.version) ≡ true → (end_of (with_hashes f h).chunks == 0) ≡ false → Z [] (lists_on s calls file x (with_hashes f h) false)
  pub reads : (f : Fetch) (bytes : ℕ) → FetchNow st x b f bytes → is_here (reads_of s file f).fetch ≡ false → Z (given s file f) (reads_if (looked s file f) calls file x (reads_of s file f) bytes false)
  pub opens : (f : Fetch) (bytes : ℕ) → FetchNow st x b f bytes → is_here (reads_of s file f).fetch ≡ true → Z (given s file f) (reads_if (looked s file f) calls file x (reads_of s file f) bytes true)
  -- further chunks are named, or all are stored, or one is sent whole
  pub names : (w : Upload) → StoreIn st x (local_bytes s.opened file) w → (IsUnknown b → ⊥) → bytes_came x b ≡ 0 → is_stored (names_all s.lbfs w s.next_xid).store ≡ false → Z [] (goes_if s file (local_bytes s.opened file) (names_all s.lbfs w s.next_xid) false)
  pub commits : (w : Upload) → StoreIn st x (local_bytes s.opened file) w → (IsUnknown b → ⊥) → bytes_came x b ≡ 0 → is_stored (names_all s.lbfs w s.next_xid).store ≡ true → Z [] (goes_if s file (local_bytes s.opened file) (names_all s.lbfs w s.next_xid) true)
  pub whole : (old : Upload) (c : UploadCall) (k : Chunk) → st ≡ stage.Storing old → IsUnknown b → bytes_came x b ≡ 0 → store_at old.under x ≡ Some c → c.way ≡ way.Named → slice_get old.chunks c.index ≡ Some k → Z [] (sends_whole s file x (local_bytes s.opened file) (answered old x) c (Some k))

-- of a client with nothing under way as well
pub given_idle : (s : State) (o : Option (ℕ × Fetch)) → given_in (idle s) o ≡ given_in s o
given_idle s None = refl
given_idle s (Some p) = refl

-- ---- each is one of them

not_changed : (r : State × ClientStep) (e : Ended) → r.1.ended ≡ Some e → ((first last : ℕ) → e.outcome ≡ outcome.Changed first last → ⊥) → (first last : ℕ) → IsChangedBy first last r → ⊥
not_changed r e is apart first last (d, at, c) = apart first last (ap (λ (z : Ended). z.outcome) (some_is e d (sym is ∙ at)) ∙ c)

-- by a peer's fault, and by a refusal
fault : (Z : List (ℕ × ℕ) → State × ClientStep → Type 0) (s : State) (calls : List Pending) (file : ℕ) (st : Stage) (x : ℕ) (b : Body) → Cases Z s calls file st x b → (f : BadPeer) (n : ℕ) → Z [] (bad_peer s f n)
fault Z s calls file st x b h f n = h.ends (bad_peer s f n) (record { sent = refl; bytes = n; counts = refl; task = refl; ended = _; ended_is = refl; unopened = λ z. z; known = inl (f, refl) }) (not_changed (bad_peer s f n) _ refl (bad_not f)) (inl (f, refl))
  where
    bad_not : (f : BadPeer) (first last : ℕ) → outcome.BadPeer f ≡ outcome.Changed first last → ⊥
    bad_not f first last z = absurd cc

plain : (Z : List (ℕ × ℕ) → State × ClientStep → Type 0) (s : State) (calls : List Pending) (file : ℕ) (st : Stage) (x : ℕ) (b : Body) → Cases Z s calls file st x b → (t : Status) → (IsUnknown b → ⊥) → bytes_came x b ≡ 0 → Z [] (refused s calls x t)
plain Z s calls file st x b h t known none = h.ends (refused s calls x t) (record { sent = refl; bytes = 0; counts = refl; task = refl; ended = _; ended_is = refl; unopened = λ z. z; known = inr (known, sym none) }) (not_changed (refused s calls x t) _ refl (refused_not t)) (inr none)
  where
    refused_not : (t : Status) (first last : ℕ) → outcome.Refused t ≡ outcome.Changed first last → ⊥
    refused_not t first last z = absurd cc

retried : (Z : List (ℕ × ℕ) → State × ClientStep → Type 0) (s : State) (calls : List Pending) (file : ℕ) (st : Stage) (x : ℕ) (b : Body) → Cases Z s calls file st x b → stage_word st ≡ words.Open → (IsUnknown b → ⊥) → (f : Fetch) (version bytes : ℕ) → bytes ≡ bytes_came x b → GaveUp st x b f version → Z [] (changes s calls file x f version bytes)
retried Z s calls file st x b h open_ known f version bytes came gave = by (nat_lt f.tries tries_most) refl
  where
    by : (t : Bool) → nat_lt f.tries tries_most ≡ t → Z [] (retries s calls file x t f version bytes)
    by true e = h.anew f version bytes open_ gave e came
    by false e = h.changed (retries s calls file x false f version bytes) f version (record { sent = refl; bytes = bytes; counts = refl; task = refl; ended = _; ended_is = refl; unopened = λ z. z; known = inr (known, came) }) open_ gave e (_, refl, refl)

fetched : (Z : List (ℕ × ℕ) → State × ClientStep → Type 0) (s : State) (calls : List Pending) (file : ℕ) (st : Stage) (x : ℕ) (b : Body) → Cases Z s calls file st x b → (f : Fetch) (bytes : ℕ) → FetchNow st x b f bytes → Z (given s file f) (reads_on s calls file x f bytes)
fetched Z s calls file st x b cases f bytes now = by (is_here (reads_of s file f).fetch) refl
  where
    by : (t : Bool) → is_here (reads_of s file f).fetch ≡ t → Z (given s file f) (reads_if (looked s file f) calls file x (reads_of s file f) bytes t)
    by true e = cases.opens f bytes now e
    by false e = cases.reads f bytes now e

hashed : (Z : List (ℕ × ℕ) → State × ClientStep → Type 0) (s : State) (calls : List Pending) (file : ℕ) (st : Stage) (x : ℕ) (h : Hashes) → Cases Z s calls file st x (body.Lb (lb.GetHashAnswer (Done h))) → stage_word st ≡ words.Open → (f : Fetch) → FetchIn st x h f
    → Z (given_in s (with_file file (listed_by f h))) (told_hashes s calls file x f (Done h))
hashed Z s calls file st x h cases open_ f is = version (h.version == f.version) refl
  where
    eof : (h.version == f.version) ≡ true → broken_of f h ≡ None → (t : Bool) → h.eof ≡ t → Z (given_in s (with_file file (listed_if f h true None t))) (lists_on s calls file x (with_hashes f h) t)
    eof same sound true e = fetched Z s calls file st x (body.Lb (lb.GetHashAnswer (Done h))) cases (listed (with_hashes f h)) 0 (all_told f h refl e is same refl refl)
    eof same sound false e = cases.lists f h refl is same (behind f h sound e)

    shape : (h.version == f.version) ≡ true → (o : Broken) → broken_of f h ≡ o → Z (given_in s (with_file file (listed_if f h true o h.eof))) (told_shape s calls file x f h o)
    shape same None sound = eof same sound h.eof refl
    shape same (Some o) sound = fault Z s calls file st x (body.Lb (lb.GetHashAnswer (Done h))) cases (bad.Shape o.0 o.1) 0

    version : (t : Bool) → (h.version == f.version) ≡ t → Z (given_in s (with_file file (listed_if f h t (broken_of f h) h.eof))) (told_version s calls file x f h t)
    version true e = shape e (broken_of f h) refl
    version false e = retried Z s calls file st x (body.Lb (lb.GetHashAnswer (Done h))) cases open_ (λ z. z) f h.version 0 refl (inl (h, refl, is, refl, e))

read : (Z : List (ℕ × ℕ) → State × ClientStep → Type 0) (s : State) (calls : List Pending) (file : ℕ) (f : Fetch) (x : ℕ) (p : Piece) → Cases Z s calls file (stage.Reading f) x (body.Nfs (nfs.ReadAnswer (Done p)))
    → Z (given_in s (with_file file (taken_by f p (read_at f.under x)))) (told_piece s calls file x f p (read_at f.under x))
read Z s calls file f x p cases = by (read_at f.under x) refl
  where
    shown : (o : BadPeer) (t : Option ℕ) → other_version f.version p.attr ≡ t → Z [] (misfits s calls file x f o (length p.bytes) t)
    shown o (Some version) e = retried Z s calls file (stage.Reading f) x (body.Nfs (nfs.ReadAnswer (Done p))) cases refl (λ z. z) f version (length p.bytes) refl (inr (p, refl, refl, e))
    shown o None e = fault Z s calls file (stage.Reading f) x (body.Nfs (nfs.ReadAnswer (Done p))) cases o (length p.bytes)

    bytes : (c : ReadCall) (k : Chunk) → read_at f.under x ≡ Some c → slice_get f.chunks c.index ≡ Some k → (o : Option BadPeer) → fault_in k p.bytes (length p.bytes == k.len) ≡ o → Z (given_in s (with_file file (taken_if f c p o))) (told_bytes s calls file x f c p o)
    bytes c k at there None e = fetched Z s calls file (stage.Reading f) x (body.Nfs (nfs.ReadAnswer (Done p))) cases (with_bytes f c p.bytes) (length p.bytes) (one_came f c k p refl refl at there e refl refl)
    bytes c k at there (Some o) e = shown o (other_version f.version p.attr) refl

    chunk : (c : ReadCall) → read_at f.under x ≡ Some c → (o : Option Chunk) → slice_get f.chunks c.index ≡ o → Z (given_in s (with_file file (taken_at f c p o))) (told_chunk s calls file x f c p o)
    chunk c at None e = fault Z s calls file (stage.Reading f) x (body.Nfs (nfs.ReadAnswer (Done p))) cases (bad.UnknownXid x) 0
    chunk c at (Some k) e = bytes c k at e (fault_in k p.bytes (length p.bytes == k.len)) refl

    by : (o : Option ReadCall) → read_at f.under x ≡ o → Z (given_in s (with_file file (taken_by f p o))) (told_piece s calls file x f p o)
    by None e = fault Z s calls file (stage.Reading f) x (body.Nfs (nfs.ReadAnswer (Done p))) cases (bad.UnknownXid x) 0
    by (Some c) e = chunk c e (slice_get f.chunks c.index) refl

goes : (Z : List (ℕ × ℕ) → State × ClientStep → Type 0) (s : State) (calls : List Pending) (file : ℕ) (st : Stage) (x : ℕ) (b : Body) → Cases Z s calls file st x b → (w : Upload) → StoreIn st x (local_bytes s.opened file) w → (IsUnknown b → ⊥) → bytes_came x b ≡ 0 → Z [] (goes_on s file (local_bytes s.opened file) w)
goes Z s calls file st x b cases w at known none = by (is_stored (names_all s.lbfs w s.next_xid).store) refl
  where
    by : (t : Bool) → is_stored (names_all s.lbfs w s.next_xid).store ≡ t → Z [] (goes_if s file (local_bytes s.opened file) (names_all s.lbfs w s.next_xid) t)
    by true e = cases.commits w at known none e
    by false e = cases.names w at known none e

stored : (Z : List (ℕ × ℕ) → State × ClientStep → Type 0) (s : State) (calls : List Pending) (file : ℕ) (old : Upload) (x : ℕ) (b : Body) → Cases Z s calls file (stage.Storing old) x b → Z [] (told_stored s calls file x (local_bytes s.opened file) old b (store_at old.under x))
stored Z s calls file old x b cases = by (store_at old.under x) refl
  where
    came_none : (d : Body) → b ≡ d → bytes_came x d ≡ 0 → bytes_came x b ≡ 0
    came_none d is e = ap (bytes_came x) is ∙ e

    whole : (c : UploadCall) → store_at old.under x ≡ Some c → c.way ≡ way.Named → IsUnknown b → bytes_came x b ≡ 0 → (o : Option Chunk) → slice_get old.chunks c.index ≡ o → Z [] (sends_whole s file x (local_bytes s.opened file) (answered old x) c o)
    whole c at name is none None e = fault Z s calls file (stage.Storing old) x b cases (bad.UnknownXid x) 0
    whole c at name is none (Some k) e = cases.whole old c k refl is none at name e

    go : (IsUnknown b → ⊥) → bytes_came x b ≡ 0 → Z [] (goes_on s file (local_bytes s.opened file) (answered old x))
    go known none = goes Z s calls file (stage.Storing old) x b cases (answered old x) (inr (old, refl, refl)) known none

    named : (c : UploadCall) → store_at old.under x ≡ Some c → c.way ≡ way.Named → (a : Answer Unit Unit) → b ≡ body.Lb (lb.CondWriteAnswer a) → Z [] (told_named s calls file x (local_bytes s.opened file) (answered old x) c a)
    named c at name (Done u) is = go (λ z. not_done (subst IsUnknown is z)) (came_none _ is refl)
      where
        not_done : IsUnknown (body.Lb (lb.CondWriteAnswer (Done u))) → ⊥
        not_done z = z
    named c at name (Failed status.HashNotFound u) is = whole c at name (subst IsUnknown (sym is) tt) (came_none _ is refl) (slice_get old.chunks c.index) refl
    named c at name (Failed t u) is = plain Z s calls file (stage.Storing old) x b cases t (λ z. subst IsUnknown is z) (came_none _ is refl)

    way_ : (c : UploadCall) → store_at old.under x ≡ Some c → (w : Way) → c.way ≡ w → (d : Body) → b ≡ d → Z [] (told_way s calls file x (local_bytes s.opened file) (answered old x) c w d)
    way_ c at way.Named name (body.Lb (lb.CondWriteAnswer a)) is = named c at name a is
    way_ c at way.Whole name (body.Lb (lb.TmpWriteAnswer (Done u))) is = go (λ z. subst IsUnknown is z) (came_none _ is refl)
    way_ c at way.Whole name (body.Lb (lb.TmpWriteAnswer (Failed t u))) is = plain Z s calls file (stage.Storing old) x b cases t (λ z. subst IsUnknown is z) (came_none _ is refl)
    way_ c at w name d is = fault Z s calls file (stage.Storing old) x b cases (bad.UnknownXid x) 0

    by : (o : Option UploadCall) → store_at old.under x ≡ o → Z [] (told_stored s calls file x (local_bytes s.opened file) old b o)
    by None e = fault Z s calls file (stage.Storing old) x b cases (bad.UnknownXid x) 0
    by (Some c) e = way_ c e c.way refl b refl

leased : (Z : List (ℕ × ℕ) → State × ClientStep → Type 0) (s : State) (calls : List Pending) (file y x : ℕ) (l : Leased) → Cases Z s calls file (stage.Asking y) x (body.Lb (lb.GetLeaseAnswer (Done l))) → Z [] (told_lease s calls file x (Done l))
leased Z s calls file y x l cases = by (content_in l.version (content_of s.cache file)) refl
  where
    by : (o : Option (List ℕ)) → content_in l.version (content_of s.cache file) ≡ o → Z [] (uses_kept s calls file x l.version o)
    by (Some bytes) e = cases.uses y l bytes refl refl e
    by None e = cases.fetches y l refl refl

-- a stage of an open, a rewrite or a close of a file that is known
abbrev pub IsOfFile : Stage → Type 0
IsOfFile (stage.Walking y w) = ⊥
IsOfFile st = Unit {0}

-- whatever holds of each holds of what an answer makes but for the note of a lease, beside the chunks that the index gives then
pub takes_cases : (Z : List (ℕ × ℕ) → State × ClientStep → Type 0) (s : State) (calls : List Pending) (file : ℕ) (st : Stage) (x : ℕ) (b : Body) → IsOfFile st → Cases Z s calls file st x b → Z (given_in s (with_file file (reading_by st x b))) (takes s calls file st x b)
takes_cases Z s calls file (stage.Walking y w) x b known cases = absurd known
takes_cases Z s calls file (stage.Asking y) x (body.Lb (lb.GetLeaseAnswer (Done l))) known cases = leased Z s calls file y x l cases
takes_cases Z s calls file (stage.Asking y) x (body.Lb (lb.GetLeaseAnswer (Failed t u))) known cases = plain Z s calls file (stage.Asking y) x (body.Lb (lb.GetLeaseAnswer (Failed t u))) cases t (λ z. z) refl
takes_cases Z s calls file (stage.Rewriting y) x (body.Lb (lb.GetLeaseAnswer (Done l))) known cases =
    let r = opened_empty s calls file x l.version in
    cases.ends r (record { sent = refl; bytes = 0; counts = refl; task = refl; ended = _; ended_is = refl; unopened = λ z. z; known = inr ((λ z. z), refl) }) (not_changed r _ refl done_not) (inr refl)
  where
    done_not : (first last : ℕ) → outcome.Done ≡ outcome.Changed first last → ⊥
    done_not first last z = absurd cc
takes_cases Z s calls file (stage.Rewriting y) x (body.Lb (lb.GetLeaseAnswer (Failed t u))) known cases = plain Z s calls file (stage.Rewriting y) x (body.Lb (lb.GetLeaseAnswer (Failed t u))) cases t (λ z. z) refl
takes_cases Z s calls file (stage.Hashing tries y) x (body.Lb (lb.GetHashAnswer (Done h))) known cases = hashed Z s calls file (stage.Hashing tries y) x h cases refl (fetch_of tries x h) (inl (tries, y, refl, refl))
takes_cases Z s calls file (stage.Hashing tries y) x (body.Lb (lb.GetHashAnswer (Failed t u))) known cases = plain Z s calls file (stage.Hashing tries y) x (body.Lb (lb.GetHashAnswer (Failed t u))) cases t (λ z. z) refl
takes_cases Z s calls file (stage.Listing y f) x (body.Lb (lb.GetHashAnswer (Done h))) known cases = hashed Z s calls file (stage.Listing y f) x h cases refl f (inr (y, refl))
takes_cases Z s calls file (stage.Listing y f) x (body.Lb (lb.GetHashAnswer (Failed t u))) known cases = plain Z s calls file (stage.Listing y f) x (body.Lb (lb.GetHashAnswer (Failed t u))) cases t (λ z. z) refl
takes_cases Z s calls file (stage.Reading f) x (body.Nfs (nfs.ReadAnswer (Failed t a))) known cases = plain Z s calls file (stage.Reading f) x (body.Nfs (nfs.ReadAnswer (Failed t a))) cases t (λ z. z) refl
takes_cases Z s calls file (stage.Reading f) x (body.Nfs (nfs.ReadAnswer (Done p))) known cases = read Z s calls file f x p cases
takes_cases Z s calls file (stage.Making y temp) x (body.Lb (lb.MkTmpFileAnswer (Done u))) known cases = goes Z s calls file (stage.Making y temp) x (body.Lb (lb.MkTmpFileAnswer (Done u))) cases (store_of temp (local_bytes s.opened file)) (inl (y, temp, refl, refl)) (λ z. z) refl
takes_cases Z s calls file (stage.Making y temp) x (body.Lb (lb.MkTmpFileAnswer (Failed t u))) known cases = plain Z s calls file (stage.Making y temp) x (body.Lb (lb.MkTmpFileAnswer (Failed t u))) cases t (λ z. z) refl
takes_cases Z s calls file (stage.Storing old) x b known cases = stored Z s calls file old x b cases
takes_cases Z s calls file (stage.Committing y) x (body.Lb (lb.CommitTmpAnswer (Failed t u))) known cases = plain Z s calls file (stage.Committing y) x (body.Lb (lb.CommitTmpAnswer (Failed t u))) cases t (λ z. z) refl
takes_cases Z s calls file (stage.Committing y) x (body.Lb (lb.CommitTmpAnswer (Done c))) known cases =
    let r = closed s calls file x c.version (local_bytes s.opened file) in
    cases.ends r (record { sent = refl; bytes = 0; counts = refl; task = refl; ended = _; ended_is = refl; unopened = λ z. z; known = inr ((λ z. z), refl) }) (not_changed r _ refl (closed_not file c.version (length (local_bytes s.opened file)) (sha1 (local_bytes s.opened file)))) (inr refl)
  where
    closed_not : (file version len : ℕ) (digest : List ℕ) (first last : ℕ) → outcome.Closed file version len digest ≡ outcome.Changed first last → ⊥
    closed_not file version len digest first last z = absurd cc
takes_cases Z s calls file st x b known cases = fault Z s calls file st x b cases (bad.UnknownXid x) 0

-- what it leaves stays so where the lease that it grants is noted
abbrev pub Renotes : (Z : List (ℕ × ℕ) → State × ClientStep → Type 0) → State → (file : ℕ) → Stage → Body → Type 0
Renotes Z s file st b = (found : List (ℕ × ℕ)) (r : State × ClientStep) (g : Granted) (until : ℕ) → lease_in st b ≡ Some g → note_until s.sent g.term r.0.drift ≡ Some until → Z found r → Z found (record r.0 { cache = with_note r.0.cache file g.version until }, r.1)

pub renoted : (Z : List (ℕ × ℕ) → State × ClientStep → Type 0) (s : State) (file : ℕ) (st : Stage) (b : Body) → Renotes Z s file st b → (found : List (ℕ × ℕ)) (r : State × ClientStep) → Z found r → Z found (noting s.sent file (lease_in st b) r)
renoted Z s file st b renote found r h = by (lease_in st b) refl
  where
    until : (g : Granted) → lease_in st b ≡ Some g → (o : Option ℕ) → note_until s.sent g.term r.0.drift ≡ o → Z found (noted_until r.0 file g.version o, r.1)
    until g lease None is = h
    until g lease (Some n) is = renote found r g n lease is h

    by : (o : Option Granted) → lease_in st b ≡ o → Z found (noting s.sent file o r)
    by None is = h
    by (Some g) is = until g is (note_until s.sent g.term r.0.drift) refl

-- whatever holds of each, and stays where a lease is noted, holds of what an answer makes
pub took_cases : (Z : List (ℕ × ℕ) → State × ClientStep → Type 0) (s : State) (calls : List Pending) (file : ℕ) (st : Stage) (x : ℕ) (b : Body) → IsOfFile st → Renotes Z s file st b → Cases Z s calls file st x b → Z (given_in s (with_file file (reading_by st x b))) (took s calls file st x b)
took_cases Z s calls file st x b known renote cases = renoted Z s file st b renote (given_in s (with_file file (reading_by st x b))) (takes s calls file st x b) (takes_cases Z s calls file st x b known cases)

-- ---- where only opens matter, or only closes

pub in_open : (st : Stage) (x : ℕ) (h : Hashes) (f : Fetch) → FetchIn st x h f → stage_word st ≡ words.Open
in_open st x h f (inl (tries, y, is, e)) = ap stage_word is
in_open st x h f (inr (y, is)) = ap stage_word is

pub now_open : (st : Stage) (x : ℕ) (b : Body) (f : Fetch) (bytes : ℕ) → FetchNow st x b f bytes → stage_word st ≡ words.Open
now_open st x b f bytes (all_told g h is eof at same f_is none) = in_open st x h g at
now_open st x b f bytes (one_came g c k p is at found chunk fits f_is len) = ap stage_word at

pub in_close : (st : Stage) (x : ℕ) (content : List ℕ) (w : Upload) → StoreIn st x content w → stage_word st ≡ words.Close
in_close st x content w (inl (y, temp, is, e)) = ap stage_word is
in_close st x content w (inr (old, is, e)) = ap stage_word is

pub renew_and_close : (w : Word) → w ≡ words.Rewrite → w ≡ words.Close → ⊥
renew_and_close w a b = apart (sym a ∙ b)
  where
    apart : words.Rewrite ≡ words.Close → ⊥
    apart e = cc

pub renew_and_open : (w : Word) → w ≡ words.Rewrite → w ≡ words.Open → ⊥
renew_and_open w a b = apart (sym a ∙ b)
  where
    apart : words.Rewrite ≡ words.Open → ⊥
    apart e = cc

pub open_and_close : (w : Word) → w ≡ words.Open → w ≡ words.Close → ⊥
open_and_close w a b = apart (sym a ∙ b)
  where
    apart : words.Open ≡ words.Close → ⊥
    apart e = cc

-- ---- a walk

-- the file's entry is in front
abbrev pub fronts : State → (file : ℕ) → State
fronts s file = record s { cache = reserved s.cache file }

-- an answer to the call of a walk, and what comes of it
pub record Walks (st : Stage) (b : Body) (t : WalkTold) : Type 0 where
  pub asked : ℕ
  pub walk : Walk
  pub answer : Nfs
  pub stage_is : st ≡ stage.Walking asked walk
  pub body_is : b ≡ body.Nfs answer
  pub its : is_its walk answer ≡ true
  pub told_is : walk_told walk answer ≡ t

abbrev pub IsBad : WalkTold → Type 0
IsBad (walk_told_as.Shape got wanted) = Unit {0}
IsBad walk_told_as.Other = Unit {0}
IsBad t = ⊥

-- it isn't one to its call, or nothing comes of it
abbrev pub IsUntold : Stage → Body → Type 0
IsUntold st b = (y : ℕ) (w : Walk) (a : Nfs) → st ≡ stage.Walking y w → b ≡ body.Nfs a → is_its w a ≡ true → IsBad (walk_told w a)

-- what holds of each of them
pub record WalkCases (Z : State × ClientStep → Type 0) (s : State) (calls : List Pending) (st : Stage) (x : ℕ) (b : Body) : Type 0 where
  -- an answer that isn't its call's, or tells nothing, is a fault
  pub fault : (f : BadPeer) → IsUntold st b → Z (bad_peer s f 0)
  -- the next call goes out
  pub asks : (v : Walk) → Walks st b (walk_told_as.Asks v) → Z (asks_next s v)
  -- the name that was to be opened stands for a file: that is open, or the open goes on as one of it
  pub open_already : (id : ℕ) → Walks st b (walk_told_as.Finds id) → is_open s.opened id ≡ true → Z (finding id (forgets s calls x, ends outcome.AlreadyOpen 0 0))
  pub fetches : (id : ℕ) → Walks st b (walk_told_as.Finds id) → is_open s.opened id ≡ false → content_of s.cache id ≡ None → Z (finding id (asks_kept (fronts s id) id None))
  pub leases : (id : ℕ) (c : Content) → Walks st b (walk_told_as.Finds id) → is_open s.opened id ≡ false → content_of s.cache id ≡ Some c → Z (finding id (asks_kept (fronts s id) id (Some c)))
  -- or it is fresh, and open at once
  pub opens_now : (id : ℕ) (c : Content) → Walks st b (walk_told_as.Finds id) → is_open s.opened id ≡ false → fresh_content s.cache id s.clock ≡ Some c → Z (finding id (opens_fresh (forgets s calls x) id c))
  -- so does a rewrite
  pub renew_already : (id : ℕ) → Walks st b (walk_told_as.Rewrites id) → is_open s.opened id ≡ true → Z (finding id (forgets s calls x, ends outcome.AlreadyOpen 0 0))
  pub renews : (id : ℕ) → Walks st b (walk_told_as.Rewrites id) → is_open s.opened id ≡ false → Z (finding id (asks_version (fronts s id) id))
  pub empties_now : (id : ℕ) (c : Content) → Walks st b (walk_told_as.Rewrites id) → is_open s.opened id ≡ false → fresh_content s.cache id s.clock ≡ Some c → Z (finding id (empties_fresh (forgets s calls x) id c))
  -- it was the last call
  pub ends : (w : Walk) (e : WalkEnd) (k : Walks st b (walk_told_as.Ends e)) → k.walk ≡ w → Z (forgets s calls x, record (ends (outcome_of e) x 0) { found = seen_in (is_look w.goal) e })

-- whatever holds of each holds of what an answer makes of a walk
pub walk_cases : (Z : State × ClientStep → Type 0) (s : State) (calls : List Pending) (file y : ℕ) (w : Walk) (x : ℕ) (b : Body) → WalkCases Z s calls (stage.Walking y w) x b → Z (took s calls file (stage.Walking y w) x b)
walk_cases Z s calls file y w x (body.Nfs a) h = own (is_its w a) refl
  where
    true_not_false : true ≡ false → ⊥
    true_not_false e = cc

    walk_is : (z : ℕ) (v : Walk) → stage.Walking y w ≡ stage.Walking z v → w ≡ v
    walk_is z v e = cc

    answer_is : (m : Nfs) → body.Nfs a ≡ body.Nfs m → a ≡ m
    answer_is m e = cc

    same : (z : ℕ) (v : Walk) (m : Nfs) → stage.Walking y w ≡ stage.Walking z v → body.Nfs a ≡ body.Nfs m → walk_told w a ≡ walk_told v m
    same z v m at is = ap (λ (u : Walk). walk_told u a) (walk_is z v at) ∙ ap (walk_told v) (answer_is m is)

    its_same : (z : ℕ) (v : Walk) (m : Nfs) → stage.Walking y w ≡ stage.Walking z v → body.Nfs a ≡ body.Nfs m → is_its w a ≡ is_its v m
    its_same z v m at is = ap (λ (u : Walk). is_its u a) (walk_is z v at) ∙ ap (is_its v) (answer_is m is)

    kept : (id : ℕ) → walk_told w a ≡ walk_told_as.Finds id → is_its w a ≡ true → is_open s.opened id ≡ false → (o : Option Content) → content_of s.cache id ≡ o → Z (finding id (asks_kept (fronts s id) id o))
    kept id is own shut None e = h.fetches id (record { asked = y; walk = w; answer = a; stage_is = refl; body_is = refl; its = own; told_is = is }) shut e
    kept id is own shut (Some c) e = h.leases id c (record { asked = y; walk = w; answer = a; stage_is = refl; body_is = refl; its = own; told_is = is }) shut e

    finds : (id : ℕ) → walk_told w a ≡ walk_told_as.Finds id → is_its w a ≡ true → (o : Bool) → is_open s.opened id ≡ o → Z (finds_if s calls x id o)
    finds id is own true e = h.open_already id (record { asked = y; walk = w; answer = a; stage_is = refl; body_is = refl; its = own; told_is = is }) e
    finds id is own false e = fresh (fresh_content s.cache id s.clock) refl
      where
        fresh : (o : Option Content) → fresh_content s.cache id s.clock ≡ o → Z (finding id (finds_kept s calls x id o))
        fresh None f = kept id is own e (content_of s.cache id) refl
        fresh (Some c) f = h.opens_now id c (record { asked = y; walk = w; answer = a; stage_is = refl; body_is = refl; its = own; told_is = is }) e f

    anew : (id : ℕ) → walk_told w a ≡ walk_told_as.Rewrites id → is_its w a ≡ true → (o : Bool) → is_open s.opened id ≡ o → Z (renews_if s calls x id o)
    anew id is own true e = h.renew_already id (record { asked = y; walk = w; answer = a; stage_is = refl; body_is = refl; its = own; told_is = is }) e
    anew id is own false e = fresh (fresh_content s.cache id s.clock) refl
      where
        fresh : (o : Option Content) → fresh_content s.cache id s.clock ≡ o → Z (finding id (empties_kept s calls x id o))
        fresh None f = h.renews id (record { asked = y; walk = w; answer = a; stage_is = refl; body_is = refl; its = own; told_is = is }) e
        fresh (Some c) f = h.empties_now id c (record { asked = y; walk = w; answer = a; stage_is = refl; body_is = refl; its = own; told_is = is }) e f

    by : is_its w a ≡ true → (t : WalkTold) → walk_told w a ≡ t → Z (walked s calls x (is_look w.goal) t)
    by own (walk_told_as.Asks v) is = h.asks v (record { asked = y; walk = w; answer = a; stage_is = refl; body_is = refl; its = own; told_is = is })
    by own (walk_told_as.Finds id) is = finds id is own (is_open s.opened id) refl
    by own (walk_told_as.Rewrites id) is = anew id is own (is_open s.opened id) refl
    by own (walk_told_as.Ends e) is = h.ends w e (record { asked = y; walk = w; answer = a; stage_is = refl; body_is = refl; its = own; told_is = is }) refl
    by own (walk_told_as.Shape got wanted) is = h.fault (bad.Shape got wanted) (λ z v m at is_body mine. subst IsBad (sym (sym (same z v m at is_body) ∙ is)) tt)
    by own walk_told_as.Other is = h.fault (bad.UnknownXid x) (λ z v m at is_body mine. subst IsBad (sym (sym (same z v m at is_body) ∙ is)) tt)

    own : (t : Bool) → is_its w a ≡ t → Z (told_walk s calls x w a t)
    own true e = by e (walk_told w a) refl
    own false e = h.fault (bad.UnknownXid x) (λ z v m at is_body mine. absurd (true_not_false (sym mine ∙ sym (its_same z v m at is_body) ∙ e)))
walk_cases Z s calls file y w x b h = h.fault (bad.UnknownXid x) (λ z v m at is_body mine. absurd cc)

-- its operation goes on as one with this word, if it does
abbrev pub GoesOn : Word → State × ClientStep → Type 0
GoesOn w r = (u : Task) → r.1.ended ≡ None → r.0.task ≡ Some u → stage_word u.stage ≡ w

goes_with : (w : Word) (r : State × ClientStep) (t : Task) → r.0.task ≡ Some t → stage_word t.stage ≡ w → GoesOn w r
goes_with w r t is word u running at = subst (λ (z : Task). stage_word z.stage ≡ w) (some_is t u (sym is ∙ at)) word

goes_none : (w : Word) (r : State × ClientStep) (e : Ended) → r.1.ended ≡ Some e → GoesOn w r
goes_none w r e is u running at = nothing_there e (sym running ∙ is)

pub record OfCloses (Z : List (ℕ × ℕ) → State × ClientStep → Type 0) (s : State) (file : ℕ) (st : Stage) (x : ℕ) (b : Body) : Type 0 where
  pub opens : stage_word st ≡ words.Open → (found : List (ℕ × ℕ)) (r : State × ClientStep) → GoesOn words.Open r → Z found r
  pub renews : stage_word st ≡ words.Rewrite → (r : State × ClientStep) → JustEnds x b r → IsFault r.1.ended ⊎ (bytes_came x b ≡ 0) → Z [] r
  pub ends : stage_word st ≡ words.Close → (r : State × ClientStep) → JustEnds x b r → IsFault r.1.ended ⊎ (bytes_came x b ≡ 0) → Z [] r
  pub names : (w : Upload) → StoreIn st x (local_bytes s.opened file) w → (IsUnknown b → ⊥) → bytes_came x b ≡ 0 → is_stored (names_all s.lbfs w s.next_xid).store ≡ false → Z [] (goes_if s file (local_bytes s.opened file) (names_all s.lbfs w s.next_xid) false)
  pub commits : (w : Upload) → StoreIn st x (local_bytes s.opened file) w → (IsUnknown b → ⊥) → bytes_came x b ≡ 0 → is_stored (names_all s.lbfs w s.next_xid).store ≡ true → Z [] (goes_if s file (local_bytes s.opened file) (names_all s.lbfs w s.next_xid) true)
  pub whole : (old : Upload) (c : UploadCall) (k : Chunk) → st ≡ stage.Storing old → IsUnknown b → bytes_came x b ≡ 0 → store_at old.under x ≡ Some c → c.way ≡ way.Named → slice_get old.chunks c.index ≡ Some k → Z [] (sends_whole s file x (local_bytes s.opened file) (answered old x) c (Some k))

pub either_word : (st : Stage) → IsOfFile st → (stage_word st ≡ words.Open) ⊎ ((stage_word st ≡ words.Close) ⊎ (stage_word st ≡ words.Rewrite))
either_word (stage.Making x temp) known = inr (inl refl)
either_word (stage.Storing w) known = inr (inl refl)
either_word (stage.Committing x) known = inr (inl refl)
either_word (stage.Rewriting x) known = inr (inr refl)
either_word (stage.Walking y w) known = absurd known
either_word _ known = inl refl

pub of_closes : (Z : List (ℕ × ℕ) → State × ClientStep → Type 0) (s : State) (calls : List Pending) (file : ℕ) (st : Stage) (x : ℕ) (b : Body) → IsOfFile st → OfCloses Z s file st x b → Cases Z s calls file st x b
of_closes Z s calls file st x b known h = record {
  ends = λ r e unchanged came. elim (either_word st known) [ inl open_ ↦ h.opens open_ [] r (goes_none words.Open r e.ended e.ended_is) | inr (inl close) ↦ h.ends close r e came | inr (inr renew) ↦ h.renews renew r e came ];
  changed = λ r f version e open_ gave last is. h.opens open_ [] r (goes_none words.Open r e.ended e.ended_is);
  uses = λ y l bytes at is kept. h.opens (ap stage_word at) [] (uses_kept s calls file x l.version (Some bytes)) (goes_none words.Open (uses_kept s calls file x l.version (Some bytes)) _ refl);
  fetches = λ y l at is. h.opens (ap stage_word at) [] (tries_anew (forgets s calls x) file 1 0) (goes_with words.Open (tries_anew (forgets s calls x) file 1 0) _ refl refl);
  anew = λ f version bytes open_ gave few came. h.opens open_ [] (tries_anew (forgets s calls x) file (f.tries + 1) bytes) (goes_with words.Open (tries_anew (forgets s calls x) file (f.tries + 1) bytes) _ refl refl);
  lists = λ f g is at same far. h.opens (in_open st x g f at) [] (lists_on s calls file x (with_hashes f g) false) (goes_with words.Open (lists_on s calls file x (with_hashes f g) false) _ refl refl);
  reads = λ f bytes now here. h.opens (now_open st x b f bytes now) (given s file f) (reads_if (looked s file f) calls file x (reads_of s file f) bytes false) (goes_with words.Open (reads_if (looked s file f) calls file x (reads_of s file f) bytes false) _ refl refl);
  opens = λ f bytes now here. h.opens (now_open st x b f bytes now) (given s file f) (reads_if (looked s file f) calls file x (reads_of s file f) bytes true) (goes_none words.Open (reads_if (looked s file f) calls file x (reads_of s file f) bytes true) _ refl);
  names = h.names;
  commits = h.commits;
  whole = h.whole;
}

pub record OfOpens (Z : List (ℕ × ℕ) → State × ClientStep → Type 0) (s : State) (calls : List Pending) (file : ℕ) (st : Stage) (x : ℕ) (b : Body) : Type 0 where
  -- a close goes on, or ends
  pub closes : stage_word st ≡ words.Close → (r : State × ClientStep) → GoesOn words.Close r → ((e : Ended) → r.1.ended ≡ Some e → IsOpenedBy e.outcome → ⊥) → ((first last : ℕ) → IsChangedBy first last r → ⊥) → Z [] r
  -- a rewrite ends
  pub renews : stage_word st ≡ words.Rewrite → (r : State × ClientStep) → JustEnds x b r → ((first last : ℕ) → IsChangedBy first last r → ⊥) → Z [] r
  pub ends : stage_word st ≡ words.Open → (r : State × ClientStep) → JustEnds x b r → ((first last : ℕ) → IsChangedBy first last r → ⊥) → Z [] r
  pub uses : (y : ℕ) (l : Leased) (bytes : List ℕ) → st ≡ stage.Asking y → b ≡ body.Lb (lb.GetLeaseAnswer (Done l)) → content_in l.version (content_of s.cache file) ≡ Some bytes → Z [] (uses_kept s calls file x l.version (Some bytes))
  pub fetches : (y : ℕ) (l : Leased) → st ≡ stage.Asking y → b ≡ body.Lb (lb.GetLeaseAnswer (Done l)) → Z [] (tries_anew (forgets s calls x) file 1 0)
  pub anew : (f : Fetch) (version bytes : ℕ) → stage_word st ≡ words.Open → GaveUp st x b f version → nat_lt f.tries tries_most ≡ true → bytes ≡ bytes_came x b → Z [] (tries_anew (forgets s calls x) file (f.tries + 1) bytes)
  pub changed : (r : State × ClientStep) (f : Fetch) (version : ℕ) → JustEnds x b r → stage_word st ≡ words.Open → GaveUp st x b f version → nat_lt f.tries tries_most ≡ false → IsChangedBy f.version version r → Z [] r
  pub lists : (f : Fetch) (h : Hashes) → b ≡ body.Lb (lb.GetHashAnswer (Done h)) → FetchIn st x h f → (h.version == f.version) ≡ true → (end_of (with_hashes f h).chunks == 0) ≡ false → Z [] (lists_on s calls file x (with_hashes f h) false)
  pub reads : (f : Fetch) (bytes : ℕ) → FetchNow st x b f bytes → is_here (reads_of s file f).fetch ≡ false → Z (given s file f) (reads_if (looked s file f) calls file x (reads_of s file f) bytes false)
  pub opens : (f : Fetch) (bytes : ℕ) → FetchNow st x b f bytes → is_here (reads_of s file f).fetch ≡ true → Z (given s file f) (reads_if (looked s file f) calls file x (reads_of s file f) bytes true)

pub of_opens : (Z : List (ℕ × ℕ) → State × ClientStep → Type 0) (s : State) (calls : List Pending) (file : ℕ) (st : Stage) (x : ℕ) (b : Body) → IsOfFile st → OfOpens Z s calls file st x b → Cases Z s calls file st x b
of_opens Z s calls file st x b known h = record {
  ends = λ r e unchanged came. elim (either_word st known) [
    | inl open_ ↦ h.ends open_ r e unchanged
    | inr (inr renew) ↦ h.renews renew r e unchanged
    | inr (inl close) ↦ h.closes close r (goes_none words.Close r e.ended e.ended_is) (λ d is opened. e.unopened (subst (λ (z : Ended). IsOpenedBy z.outcome) (some_is d e.ended (sym is ∙ e.ended_is)) opened)) unchanged
  ];
  changed = h.changed;
  uses = h.uses;
  fetches = h.fetches;
  anew = h.anew;
  lists = h.lists;
  reads = h.reads;
  opens = h.opens;
  names = λ w at known none is. let r = goes_if s file (local_bytes s.opened file) (names_all s.lbfs w s.next_xid) false in h.closes (in_close st x (local_bytes s.opened file) w at) r (goes_with words.Close r _ refl refl) (λ e ended opened. nothing_there e ended) (λ first last c. nothing_there c.0 c.1);
  commits = λ w at known none is. let r = goes_if s file (local_bytes s.opened file) (names_all s.lbfs w s.next_xid) true in h.closes (in_close st x (local_bytes s.opened file) w at) r (goes_with words.Close r _ refl refl) (λ e ended opened. nothing_there e ended) (λ first last c. nothing_there c.0 c.1);
  whole = λ old c k at unknown none found name chunk. let r = sends_whole s file x (local_bytes s.opened file) (answered old x) c (Some k) in h.closes (ap stage_word at) r (goes_with words.Close r _ refl refl) (λ e ended opened. nothing_there e ended) (λ first last c. nothing_there c.0 c.1);
}

-- ---- a command

-- what a client answers by itself
abbrev pub IsPlain : Outcome → Type 0
IsPlain (outcome.Opened file len digest) = ⊥
IsPlain (outcome.Changed first last) = ⊥
IsPlain (outcome.Closed file version len digest) = ⊥
IsPlain (outcome.Refused s) = ⊥
IsPlain (outcome.BadPeer f) = ⊥
IsPlain o = Unit {0}

pub record Begins (Z : State × ClientStep → Type 0) (s : State) (d : Command) : Type 0 where
  pub busy : (t : Task) → s.task ≡ Some t → Z (s, ends outcome.Busy 0 0)
  pub answers : s.task ≡ None → (opened : List (ℕ × Local)) (o : Outcome) → IsPlain o → Z (record s { opened = opened }, ends o 0 0)
  pub fetches : (file : ℕ) → d ≡ command.Open file → s.task ≡ None → may_ask s ≡ true → Z (asks_kept (fronts s file) file None)
  pub asks : (file : ℕ) (c : Content) → d ≡ command.Open file → s.task ≡ None → may_ask s ≡ true → content_of s.cache file ≡ Some c → Z (asks_kept (fronts s file) file (Some c))
  pub renews : (file : ℕ) → d ≡ command.Rewrite file → s.task ≡ None → may_ask s ≡ true → Z (asks_version (fronts s file) file)
  -- a content that is fresh is open at once, and so is a file whose content is fresh, with nothing in it
  pub opens_now : (file : ℕ) (c : Content) → d ≡ command.Open file → s.task ≡ None → is_open s.opened file ≡ false → fresh_content s.cache file s.clock ≡ Some c → Z (opens_fresh s file c)
  pub empties_now : (file : ℕ) (c : Content) → d ≡ command.Rewrite file → s.task ≡ None → is_open s.opened file ≡ false → fresh_content s.cache file s.clock ≡ Some c → Z (empties_fresh s file c)
  pub walks : (c : PathCommand) → d ≡ command.Named c → s.task ≡ None → may_walk s (walk_begun c) ≡ true → Z (asks_next s (walk_begun c))
  pub closes : (file : ℕ) (l : Local) → d ≡ command.Close file → s.task ≡ None → may_ask s ≡ true → local_at s.opened file ≡ Some l → Z (asks_temp s file true)

edited : (Z : State × ClientStep → Type 0) (s : State) (d : Command) → Begins Z s d → s.task ≡ None → (file : ℕ) (l : Local) (size : ℕ) (content : List ℕ) → Z (edits s file l size content)
edited Z s d h free file l size content = by (nat_lt local_most size)
  where
    by : (b : Bool) → Z (if b then too_big s size else done_with s file l content)
    by true = h.answers free s.opened (outcome.TooBig size) tt
    by false = h.answers free (with_local s.opened file (record l { bytes = content })) outcome.Done tt

begun : (Z : State × ClientStep → Type 0) (s : State) (d : Command) → Begins Z s d → (t : Option Task) → s.task ≡ t → (l : Option Local) (f : Local → State × ClientStep) → (s.task ≡ None → (k : Local) → l ≡ Some k → Z (f k)) → Z (on_local s t l f)
begun Z s d h (Some t) is l f does = h.busy t is
begun Z s d h None is None f does = h.answers is s.opened outcome.NotOpen tt
begun Z s d h None is (Some l) f does = does is l refl

opened : (Z : State × ClientStep → Type 0) (s : State) (file : ℕ) → Begins Z s (command.Open file) → (t : Option Task) → s.task ≡ t → Z (opens s file t)
opened Z s file h (Some t) is = h.busy t is
opened Z s file h None is = by (is_open s.opened file) refl
  where
    kept : may_ask s ≡ true → (o : Option Content) → content_of s.cache file ≡ o → Z (asks_kept (fronts s file) file o)
    kept may None e = h.fetches file refl is may
    kept may (Some c) e = h.asks file c refl is may e

    asks : (b : Bool) → may_ask s ≡ b → Z (asks_file s file b)
    asks true may = kept may (content_of s.cache file) refl
    asks false may = h.answers is s.opened outcome.NoLink tt

    fresh : is_open s.opened file ≡ false → (o : Option Content) → fresh_content s.cache file s.clock ≡ o → Z (opens_kept s file o)
    fresh shut None e = asks (may_ask s) refl
    fresh shut (Some c) e = h.opens_now file c refl is shut e

    by : (b : Bool) → is_open s.opened file ≡ b → Z (opens_if s file b)
    by true e = h.answers is s.opened outcome.AlreadyOpen tt
    by false e = fresh e (fresh_content s.cache file s.clock) refl

renewed : (Z : State × ClientStep → Type 0) (s : State) (file : ℕ) → Begins Z s (command.Rewrite file) → (t : Option Task) → s.task ≡ t → Z (rewrites s file t)
renewed Z s file h (Some t) is = h.busy t is
renewed Z s file h None is = by (is_open s.opened file) refl
  where
    asks : (b : Bool) → may_ask s ≡ b → Z (asks_anew s file b)
    asks true may = h.renews file refl is may
    asks false may = h.answers is s.opened outcome.NoLink tt

    fresh : is_open s.opened file ≡ false → (o : Option Content) → fresh_content s.cache file s.clock ≡ o → Z (renews_kept s file o)
    fresh shut None e = asks (may_ask s) refl
    fresh shut (Some c) e = h.empties_now file c refl is shut e

    by : (b : Bool) → is_open s.opened file ≡ b → Z (rewrites_if s file b)
    by true e = h.answers is s.opened outcome.AlreadyOpen tt
    by false e = fresh e (fresh_content s.cache file s.clock) refl

does_cases : (Z : State × ClientStep → Type 0) (s : State) (d : Command) → Begins Z s d → Z (does s d)
does_cases Z s (command.Open file) h = opened Z s file h s.task refl
does_cases Z s (command.Rewrite file) h = renewed Z s file h s.task refl
does_cases Z s (command.Write file offset content) h = begun Z s (command.Write file offset content) h s.task refl (local_at s.opened file) (writes s file offset content) (λ free l at. by free l (content_length content == 0))
  where
    by : s.task ≡ None → (l : Local) (b : Bool) → Z (if b then (s, ends outcome.Done 0 0) else edits s file l (written_size (length l.bytes) offset (content_length content)) (written l.bytes offset (content_bytes content)))
    by free l true = h.answers free s.opened outcome.Done tt
    by free l false = edited Z s (command.Write file offset content) h free file l (written_size (length l.bytes) offset (content_length content)) (written l.bytes offset (content_bytes content))
does_cases Z s (command.Trunc file size) h = begun Z s (command.Trunc file size) h s.task refl (local_at s.opened file) (truncates s file size) (λ free l at. edited Z s (command.Trunc file size) h free file l size (truncated l.bytes size))
does_cases Z s (command.Read file offset count) h = begun Z s (command.Read file offset count) h s.task refl (local_at s.opened file) (Rattle.open_close.specs.Step.reads s offset count) (λ free l at. h.answers free s.opened (outcome.Piece (length (part_of l.bytes offset count)) (sha1 (part_of l.bytes offset count))) tt)
does_cases Z s (command.Close file) h = begun Z s (command.Close file) h s.task refl (local_at s.opened file) (closes s file) (λ free l at. by free l at (may_ask s) refl)
  where
    by : s.task ≡ None → (l : Local) → local_at s.opened file ≡ Some l → (b : Bool) → may_ask s ≡ b → Z (asks_temp s file b)
    by free l at true may = h.closes file l refl free may at
    by free l at false may = h.answers free s.opened outcome.NoLink tt
does_cases Z s (command.Abandon file) h = begun Z s (command.Abandon file) h s.task refl (local_at s.opened file) (abandons s file) (λ free l at. h.answers free (without_local s.opened file) outcome.Done tt)
does_cases Z s (command.Named c) h = by s.task refl
  where
    asks : s.task ≡ None → (b : Bool) → may_walk s (walk_begun c) ≡ b → Z (walks_if s (walk_begun c) b)
    asks free true may = h.walks c refl free may
    asks free false may = h.answers free s.opened outcome.NoLink tt

    by : (t : Option Task) → s.task ≡ t → Z (walks s c t)
    by (Some t) is = h.busy t is
    by None is = asks is (may_walk s (walk_begun c)) refl

-- whatever holds of each, at this reading of the client's clock, holds of a command
pub command_cases : (Z : State × ClientStep → Type 0) (s : State) (d : Command) (now : ℕ) → Begins Z (clocked s now) d → Z (command_step s d now)
command_cases Z s d now h = does_cases Z (clocked s now) d h

-- ---- what comes

-- what a step by a message, or by a record that is none, can come to
pub record Gets (Z : State × ClientStep → Type 0) (s : State) : Type 0 where
  -- an answer, or a refusal, to a call of the operation under way
  pub took : (t : Task) → s.task ≡ Some t → (xid : ℕ) (b : Body) → Z (took (idle s) (calls_of s) t.file t.stage xid b)
  pub memory : (t : Task) → s.task ≡ Some t → (xid : ℕ) → Z (denied (idle s) (calls_of s) xid refusal.SystemErr)
  -- what no server sends, where an operation is under way, and where none is
  pub bad : (t : Task) → s.task ≡ Some t → (f : BadPeer) → Z (bad_peer s f 0)
  pub off : s.task ≡ None → Z (cut_off s)
  -- a RECALL is answered, and what is noted of its file goes; a NULL is answered
  pub recalled : (xid : ℕ) (file : Option ℕ) → Z (recalls s file, sends_one (message.Answer xid (body.Back back.RecallAnswer)) 0)
  pub greeted : (xid : ℕ) → Z (s, sends_one (message.Answer xid (body.Back back.NullAnswer)) 0)
  -- an answer to a call that was forgotten, and other calls
  pub forgot : (xid : ℕ) → Z (drops s None xid true)
  pub unfit : (xid : ℕ) (r : RpcRefusal) → Z (got_message s None (message.Unfit xid r))
  pub call : Z (s, nothing_done)

unwaited : (Z : State × ClientStep → Type 0) (s : State) → Gets Z s → (o : Option Task) → s.task ≡ o → (xid : ℕ) (forgotten : Bool) → Z (drops s o xid forgotten)
unwaited Z s h o is xid true = h.forgot xid
unwaited Z s h (Some t) is xid false = h.bad t is (bad.UnknownXid xid)
unwaited Z s h None is xid false = h.off is

hears_cases : (Z : State × ClientStep → Type 0) (s : State) (m : Result Message WireFault) → Gets Z s → Z (hears s m)
hears_cases Z s (Err e) h = by s.task refl
  where
    by : (o : Option Task) → s.task ≡ o → Z (got_fault s o e)
    by (Some t) is = h.bad t is (fault_of e)
    by None is = h.off is
hears_cases Z s (Ok (message.Answer xid b)) h = by s.task refl (has_call (pending s.task) xid)
  where
    by : (o : Option Task) → s.task ≡ o → (own : Bool) → Z (took_if s o xid b own)
    by (Some t) is true = h.took t is xid b
    by o is own = unwaited Z s h o is xid (has_call s.forgotten xid)
hears_cases Z s (Ok (message.Refuse xid r)) h = by s.task refl (has_call (pending s.task) xid)
  where
    denies : (t : Task) → s.task ≡ Some t → (r : RpcRefusal) → Z (denied (idle s) (calls_of s) xid r)
    denies t is refusal.SystemErr = h.memory t is xid
    denies t is r = h.bad t is (bad.Denied (refusal_code r))

    by : (o : Option Task) → s.task ≡ o → (own : Bool) → Z (denied_if s o xid r own)
    by (Some t) is true = denies t is r
    by o is own = unwaited Z s h o is xid (has_call s.forgotten xid)
hears_cases Z s (Ok (message.Unfit xid r)) h = h.unfit xid r
hears_cases Z s (Ok (message.Call xid b)) h = by b
  where
    back_by : (c : Back) → Z (called_back s xid c)
    back_by (back.Recall handle) = h.recalled xid (file_of handle)
    back_by back.Null = h.greeted xid
    back_by c = h.call

    by : (c : Body) → Z (called s xid c)
    by (body.Back c) = back_by c
    by c = h.call

-- whatever holds of each, at this reading of the client's clock, holds of the step
pub got_cases : (Z : State × ClientStep → Type 0) (s : State) (m : Result Message WireFault) (now : ℕ) → Gets Z (clocked s now) → Z (got_step s m now)
got_cases Z s m now h = hears_cases Z (clocked s now) m h

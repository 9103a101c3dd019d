-- What a client's step does to notes of leases, and to the call that may bring one.
use Rattle.std.proofs.Common.{◌≡◌, ◌⊎◌, inl, inr, ℕ, ◌+◌, ◌<◌, ◌≤◌, List, [], ◌∷◌, ◌++◌, length, Option, Some, None, Ok, Bool, true, false, refl, sym, ap, ◌∙◌, subst, arith}
use Rattle.std.specs.Prelude.{◌-◌, ◌==◌, ◌||◌, cond, nat_eq, nat_lt, if◌then◌else◌}
use Rattle.std.specs.List.{list_any, AllByRecursion}
use Rattle.std.specs.Map.{set_value}
use Rattle.std.proofs.lemmas.Bool.Decides.{nat_tests}
use Rattle.xdr_codec.specs.Handle.{handle_bytes}
use Rattle.hash_calls.specs.declared.message.Lb.TheVariants as lb
use Rattle.hash_calls.specs.declared.message.LbProc.TheVariants as lb_proc
use Rattle.nfs3_calls.specs.declared.message.Nfs.TheVariants as nfs
use Rattle.path_calls.specs.declared.walk.Walk.{Walk}
use Rattle.wire.specs.declared.message.Body.TheVariants as body
use Rattle.wire.specs.declared.message.Message.{Message}
use Rattle.wire.specs.declared.message.Message.TheVariants as message
use Rattle.wire.specs.declared.message.Program.{Program}
use Rattle.wire.specs.declared.message.Program.TheVariants as program
use Rattle.lease_rules.specs.Leases.{note_until}
use Rattle.transfer_rules.specs.Answers.{wants_bytes}
use Rattle.transfer_rules.specs.Limits.{calls_most}
use Rattle.chunk_index.specs.Index.{Indexed}
use Rattle.client_cache.specs.Cache.{Entries, kept_of, content_of, reserved, notes, with_note, without_note}
use Rattle.client_cache.specs.declared.kept.Kept.{Kept}
use Rattle.client_cache.specs.declared.kept.Note.{Note}
use Rattle.client_state.specs.Ending.{drops}
use Rattle.client_state.specs.Noting.{at, noting, noted_until}
use Rattle.client_state.specs.State.{pending, pending_in, has_call}
use Rattle.client_state.specs.declared.noting.Granted.{Granted}
use Rattle.client_state.specs.declared.task.Stage.TheVariants as stage
use Rattle.client_state.specs.declared.task.Task.{Task}
use Rattle.client_state.specs.declared.task.Way.TheVariants as way
use Rattle.file_open.specs.Caching.{content_in, from_index, found_all}
use Rattle.file_open.specs.Opening.{reads_chunk, reads_from, read_call, looked_up}
use Rattle.file_close.specs.Closing.{names_next, names_from, cond_call, commit_call}
use Rattle.file_close.specs.Storing.{named_if}
use Rattle.open_close.specs.Step.{takes, took_if, lease_in}
use Rattle.lease_law.specs.Claims.{answered_by, stored_by}
use Rattle.trace_replay.specs.Notes.{handle_asked}
use Rattle.kept_promise.proofs.Common.{slice_get, Contains, Contains-push, Command, Answer, Done, Failed, Chunk, Hashes, Leased, Piece, Pending, Body, Broken, broken_of, State, local_bytes, Fetch, ReadCall, Upload, UploadCall, Stage, Way, Names, Reads, BadPeer, ClientStep, is_here, is_stored, names_all, store_of, store_at, answered, read_at, with_hashes, with_bytes, fetch_of, listed, fault_in, other_version, tries_most, took, got_step, command_step, reads_if, lists_on, retries, told_shape, told_version, told_hashes, told_first, told_lease, uses_kept, misfits, told_bytes, told_chunk, told_piece, goes_if, told_temp, told_way, told_stored, told_whole, sends_whole, calls_of, idle, reads_all, reads_on, goes_on, Told, told_message, reply_body}
use Rattle.kept_promise.proofs.Lists.{some_is, nothing_there}
use Rattle.kept_promise.proofs.TreeWalks.{own_handle}
use Rattle.kept_promise.proofs.Caches.{AddsNone, same_notes, reserved_notes, with_notes, unnoted_notes, set_found}
use Rattle.kept_promise.proofs.StepCases.{IsOfFile, reads_keep, names_keep, walk_cases, command_cases}
use Rattle.kept_promise.proofs.RecallsKept.{all_join, all_map}
use Rattle.kept_promise.proofs.Claimed.{leasing_xid}

-- it was noted before
pub record HadNote (es : Entries) (f : ℕ) (n : Note) : Type 0 where
  pub entry : Kept
  pub there : kept_of es f ≡ Some entry
  pub noted : entry.note ≡ Some n

-- or an answer granted it to the call that was waited for
pub record NewNote (s : State) (a : Told) (f : ℕ) (n : Note) : Type 0 where
  pub task : Task
  pub task_is : s.task ≡ Some task
  pub file : task.file ≡ f
  pub granted : Granted
  pub awaits : leasing_xid task.stage ≡ Some a.xid
  pub lease : lease_in task.stage (reply_body a.reply) ≡ Some granted
  pub version : n.version ≡ granted.version
  pub until : note_until s.sent granted.term s.drift ≡ Some n.until

-- among what goes out is the call of this number, on the file
abbrev pub SendsLease : List Message → (xid file : ℕ) → Type 0
SendsLease ms xid file = (b : Body) × (handle_asked b ≡ Some (handle_bytes file)) × Contains ms (message.Call xid b)

one_sent : (b : Body) (xid file : ℕ) → handle_asked b ≡ Some (handle_bytes file) → SendsLease (message.Call xid b ∷ []) xid file
one_sent b xid file names = (b, names, Contains-push [] (message.Call xid b))

-- a step at a reading of the client's clock
pub record StepKeeps (now : ℕ) (s : State) (r : State × ClientStep) (New : (f : ℕ) → Note → Type 0) : Type 0 where
  pub drift : r.0.drift ≡ s.drift
  pub notes : (f : ℕ) (e : Kept) (n : Note) → kept_of r.0.cache f ≡ Some e → e.note ≡ Some n → HadNote s.cache f n ⊎ New f n
  -- calls go out, and a COMMITTMP for no file of which something is noted then
  pub calls : AllByRecursion (λ m. answered_by m ≡ None) r.1.send
  pub stores : (f : ℕ) (e : Kept) (n : Note) → kept_of r.0.cache f ≡ Some e → e.note ≡ Some n → AllByRecursion (λ m. stored_by m ≡ Some f → ⊥) r.1.send
  -- a call that may bring a lease goes out now, or is the same, and nothing goes out
  pub sent : (u : Task) (x : ℕ) → r.0.task ≡ Some u → leasing_xid u.stage ≡ Some x → ((s.next_xid ≤ x) × (r.0.sent ≡ now) × SendsLease r.1.send x u.file) ⊎ ((s.task ≡ Some u) × (r.0.sent ≡ s.sent) × (r.1.send ≡ []))

-- a close's file has a number of 64 bits
abbrev pub IsStoring : Stage → Type 0
IsStoring (stage.Making x temp) = Unit {0}
IsStoring (stage.Storing st) = Unit {0}
IsStoring st = ⊥

abbrev pub ClosesSmall : State → Type 0
ClosesSmall s = (t : Task) → s.task ≡ Some t → IsStoring t.stage → t.file < 18446744073709551616

-- what a note that was set says
pub until_is : (sent term drift until : ℕ) → note_until sent term drift ≡ Some until → (drift < term) × (until + drift ≡ sent + term)
until_is sent term drift until e = by (nat_lt drift term) refl e
  where
    some_is : (a b : ℕ) → ◌≡◌ {A = Option ℕ} (Some a) (Some b) → a ≡ b
    some_is a b e = cc

    by : (b : Bool) → nat_lt drift term ≡ b → (if b then Some (sent + (term - drift)) else None) ≡ Some until → (drift < term) × (until + drift ≡ sent + term)
    by true lt e = let l : drift < term = grind (arith, nat_tests, lt) in let s = some_is _ until e in (l, omega (arith, l, s))
    by false lt e = absurd cc

-- ---- what goes out but for COMMITTMPs

abbrev ArePlain : List Message → Type 0
ArePlain ms = AllByRecursion (λ m. (answered_by m ≡ None) × (stored_by m ≡ None)) ms

-- a step that sends no COMMITTMP
record StepPlain (s : State) (r : State × ClientStep) : Type 0 where
  pub drift : r.0.drift ≡ s.drift
  pub notes : AddsNone s.cache r.0.cache
  pub plain : ArePlain r.1.send
  pub sent : (u : Task) (x : ℕ) → r.0.task ≡ Some u → leasing_xid u.stage ≡ Some x → (s.next_xid ≤ x) × (r.0.sent ≡ s.clock) × SendsLease r.1.send x u.file

-- one that sends one at its end
record StepCommit (s : State) (r : State × ClientStep) : Type 0 where
  pub drift : r.0.drift ≡ s.drift
  pub notes : AddsNone s.cache r.0.cache
  pub calls : AllByRecursion (λ m. answered_by m ≡ None) r.1.send
  pub stores : (f : ℕ) (e : Kept) (n : Note) → kept_of r.0.cache f ≡ Some e → e.note ≡ Some n → AllByRecursion (λ m. stored_by m ≡ Some f → ⊥) r.1.send
  pub sent : (u : Task) (x : ℕ) → r.0.task ≡ Some u → leasing_xid u.stage ≡ Some x → (s.next_xid ≤ x) × (r.0.sent ≡ s.clock) × SendsLease r.1.send x u.file

module _ (s : State) where
  -- the operation ends
  ends_so : (t : State) (c : ClientStep) → t.drift ≡ s.drift → AddsNone s.cache t.cache → t.task ≡ None → c.send ≡ [] → StepPlain s (t, c)
  ends_so t c drift notes none nothing = record { drift = drift; notes = notes; plain = subst ArePlain (sym nothing) tt; sent = λ u x task lease. nothing_there u (sym none ∙ task) }

  -- it goes on by a call that brings no lease
  goes_so : (t : State) (c : ClientStep) (u : Task) → t.drift ≡ s.drift → AddsNone s.cache t.cache → t.task ≡ Some u → leasing_xid u.stage ≡ None → ArePlain c.send → StepPlain s (t, c)
  goes_so t c u drift notes is none plain = record { drift = drift; notes = notes; plain = plain; sent = λ v x task lease. nothing_there x (sym none ∙ ap (λ (z : Task). leasing_xid z.stage) (some_is u v (sym is ∙ task)) ∙ lease) }

  -- or by one that may
  asks_so : (t : State) (c : ClientStep) (u : Task) → t.drift ≡ s.drift → AddsNone s.cache t.cache → t.task ≡ Some u → leasing_xid u.stage ≡ Some s.next_xid → t.sent ≡ s.clock → ArePlain c.send → SendsLease c.send s.next_xid u.file → StepPlain s (t, c)
  asks_so t c u drift notes is lease_ sent plain asks = record {
    drift = drift;
    notes = notes;
    plain = plain;
    sent = λ v x task lease.
        let own = some_is u v (sym is ∙ task) in
        let same : s.next_xid ≡ x = some_is s.next_xid x (sym lease_ ∙ ap (λ (z : Task). leasing_xid z.stage) own ∙ lease) in
        (omega (arith, same), sent, subst (λ (n : ℕ). SendsLease c.send n v.file) same (subst (λ (z : Task). SendsLease c.send s.next_xid z.file) own asks));
  }

-- ---- calls that go out one by one

plain_join : (xs ys : List Message) → ArePlain xs → ArePlain ys → ArePlain (xs ++ ys)
plain_join xs ys h k = all_join (λ m. (answered_by m ≡ None) × (stored_by m ≡ None)) xs ys h k

reads_plain : (cache : Entries) (index : Indexed) (file : ℕ) (f : Fetch) (next : ℕ) → ArePlain (reads_all cache index file f next).send
reads_plain cache index file f next = reads_keep (λ r. ArePlain r.send) cache index file step (length f.chunks - f.asked) (reads_from f next) tt
  where
    step : (r : Reads) (c : Chunk) (o : Option (List ℕ)) → ArePlain r.send → slice_get r.fetch.chunks r.fetch.asked ≡ Some c → from_index cache index c ≡ o → ArePlain (reads_chunk file r c o).send
    step r c (Some bytes) h at is = h
    step r c None h at is = plain_join r.send (read_call r.next_xid file c ∷ []) h ((refl, refl), tt)

-- the xids of names that go out rise
record NamesGo (next : ℕ) (n : Names) : Type 0 where
  pub plain : ArePlain n.send
  pub rises : next ≤ n.next_xid

names_go : (lbfs : ℕ) (st : Upload) (next : ℕ) → NamesGo next (names_all lbfs st next)
names_go lbfs st next = names_keep lbfs (NamesGo next) step (calls_most - length st.under) (names_from st next) (record { plain = tt; rises = omega arith })
  where
    step : (n : Names) (c : Chunk) → NamesGo next n → slice_get n.store.chunks n.store.named ≡ Some c → NamesGo next (names_next lbfs n (Some c))
    step n c h at = let r = h.rises in record { plain = plain_join n.send (cond_call lbfs n.next_xid n.store.temp c ∷ []) h.plain ((refl, refl), tt); rises = omega (arith, r) }

-- ---- a note that is cleared

set_own : (es : Entries) (g : ℕ) (w k : Kept) → kept_of es g ≡ Some k → kept_of (set_value (nat_eq g) es w) g ≡ Some w
set_own [] g w k e = nothing_there k e
set_own (y ∷ es) g w k e = by (nat_eq g y.0) refl e (set_own es g w k)
  where
    by : (b : Bool) → nat_eq g y.0 ≡ b → cond b (Some y.1) (kept_of es g) ≡ Some k → (kept_of es g ≡ Some k → kept_of (set_value (nat_eq g) es w) g ≡ Some w) → kept_of (cond b ((y.0, w) ∷ es) (y ∷ set_value (nat_eq g) es w)) g ≡ Some w
    by true is e later = ap (λ (b : Bool). cond b (Some w) (kept_of es g)) is
    by false is e later = ap (λ (b : Bool). cond b (Some y.1) (kept_of (set_value (nat_eq g) es w) g)) is ∙ later e

pub unnoted_own : (es : Entries) (f : ℕ) (e : Kept) (n : Note) → kept_of (without_note es f) f ≡ Some e → e.note ≡ Some n → ⊥
unnoted_own es f e n at is = by (kept_of es f) refl at
  where
    by : (o : Option Kept) → kept_of es f ≡ o → kept_of (notes es f None o) f ≡ Some e → ⊥
    by None none found = nothing_there e (sym none ∙ found)
    by (Some k) there found = nothing_there n (ap (λ (z : Kept). z.note) (some_is (record k { note = None }) e (sym (set_own es f (record k { note = None }) k there) ∙ found)) ∙ is)

-- ---- an answer to an operation's call

module _ (s : State) (calls : List Pending) (file xid : ℕ) where
  on_reads : (f : Fetch) (bytes : ℕ) (here : Bool) → StepPlain s (reads_if (record s { index = found_all s.index (looked_up f (reads_all s.cache s.index file f s.next_xid)) }) calls file xid (reads_all s.cache s.index file f s.next_xid) bytes here)
  on_reads f bytes true = ends_so s _ _ refl (with_notes s.cache file _ _) refl refl
  on_reads f bytes false = goes_so s _ _ _ refl (same_notes s.cache) refl refl (reads_plain s.cache s.index file f s.next_xid)

  reads_again : (f : Fetch) (bytes : ℕ) → StepPlain s (reads_on s calls file xid f bytes)
  reads_again f bytes = on_reads f bytes (is_here (reads_all s.cache s.index file f s.next_xid).fetch)

  retried : (f : Fetch) (version bytes : ℕ) (may : Bool) → StepPlain s (retries s calls file xid may f version bytes)
  retried f version bytes true = asks_so s _ _ _ refl (same_notes s.cache) refl refl refl ((refl, refl), tt) (one_sent _ _ _ refl)
  retried f version bytes false = ends_so s _ _ refl (same_notes s.cache) refl refl

  lists : (f : Fetch) (eof : Bool) → StepPlain s (lists_on s calls file xid f eof)
  lists f true = reads_again (listed f) 0
  lists f false = asks_so s _ _ _ refl (same_notes s.cache) refl refl refl ((refl, refl), tt) (one_sent _ _ _ refl)

  shaped : (f : Fetch) (h : Hashes) (o : Broken) → StepPlain s (told_shape s calls file xid f h o)
  shaped f h None = lists (with_hashes f h) h.eof
  shaped f h (Some b) = ends_so s _ _ refl (same_notes s.cache) refl refl

  versioned : (f : Fetch) (h : Hashes) (same : Bool) → StepPlain s (told_version s calls file xid f h same)
  versioned f h true = shaped f h (broken_of f h)
  versioned f h false = retried f h.version 0 (nat_lt f.tries tries_most)

  hashed : (f : Fetch) (a : Answer Hashes Unit) → StepPlain s (told_hashes s calls file xid f a)
  hashed f (Failed e u) = ends_so s _ _ refl (same_notes s.cache) refl refl
  hashed f (Done h) = versioned f h (h.version == f.version)

  first_hashed : (tries : ℕ) (a : Answer Hashes Unit) → StepPlain s (told_first s calls file xid tries a)
  first_hashed tries (Failed e u) = ends_so s _ _ refl (same_notes s.cache) refl refl
  first_hashed tries (Done h) = hashed (fetch_of tries xid h) (Done h)

  uses : (version : ℕ) (o : Option (List ℕ)) → StepPlain s (uses_kept s calls file xid version o)
  uses version (Some bytes) = ends_so s _ _ refl (same_notes s.cache) refl refl
  uses version None = asks_so s _ _ _ refl (same_notes s.cache) refl refl refl ((refl, refl), tt) (one_sent _ _ _ refl)

  leased : (a : Answer Leased Unit) → StepPlain s (told_lease s calls file xid a)
  leased (Failed e u) = ends_so s _ _ refl (same_notes s.cache) refl refl
  leased (Done l) = uses l.version (content_in l.version (content_of s.cache file))

  misfitting : (f : Fetch) (b : BadPeer) (bytes : ℕ) (o : Option ℕ) → StepPlain s (misfits s calls file xid f b bytes o)
  misfitting f b bytes (Some version) = retried f version bytes (nat_lt f.tries tries_most)
  misfitting f b bytes None = ends_so s _ _ refl (same_notes s.cache) refl refl

  byted : (f : Fetch) (c : ReadCall) (p : Piece) (o : Option BadPeer) → StepPlain s (told_bytes s calls file xid f c p o)
  byted f c p None = reads_again (with_bytes f c p.bytes) (length p.bytes)
  byted f c p (Some b) = misfitting f b (length p.bytes) (other_version f.version p.attr)

  chunked : (f : Fetch) (c : ReadCall) (p : Piece) (o : Option Chunk) → StepPlain s (told_chunk s calls file xid f c p o)
  chunked f c p None = ends_so s _ _ refl (same_notes s.cache) refl refl
  chunked f c p (Some k) = byted f c p (fault_in k p.bytes (length p.bytes == k.len))

  pieced : (f : Fetch) (p : Piece) (o : Option ReadCall) → StepPlain s (told_piece s calls file xid f p o)
  pieced f p None = ends_so s _ _ refl (same_notes s.cache) refl refl
  pieced f p (Some c) = chunked f c p (slice_get f.chunks c.index)

  -- a close sends its COMMITTMP last
  module _ (small : file < 18446744073709551616) where
    goes : (content : List ℕ) (st : Upload) (stored : Bool) → StepPlain s (goes_if s file content (names_all s.lbfs st s.next_xid) stored) ⊎ StepCommit s (goes_if s file content (names_all s.lbfs st s.next_xid) stored)
    goes content st false = inl (goes_so s _ _ _ refl (same_notes s.cache) refl refl (names_go s.lbfs st s.next_xid).plain)
    goes content st true = inr (record {
      drift = refl;
      notes = λ f k n at is. (let g = unnoted_notes (reserved s.cache file) file f k n at is in reserved_notes s.cache file f g.0 n g.1 g.2);
      calls = all_join (λ m. answered_by m ≡ None) (names_all s.lbfs st s.next_xid).send (commit_call s.lbfs (names_all s.lbfs st s.next_xid).next_xid (names_all s.lbfs st s.next_xid).store.temp file (length content) ∷ []) (all_map (λ m. (answered_by m ≡ None) × (stored_by m ≡ None)) (λ m. answered_by m ≡ None) (names_all s.lbfs st s.next_xid).send (λ m h. h.0) (names_go s.lbfs st s.next_xid).plain) (refl, tt);
      stores = λ f e n at is. all_join (λ m. stored_by m ≡ Some f → ⊥) (names_all s.lbfs st s.next_xid).send (commit_call s.lbfs (names_all s.lbfs st s.next_xid).next_xid (names_all s.lbfs st s.next_xid).store.temp file (length content) ∷ [])
          (all_map (λ m. (answered_by m ≡ None) × (stored_by m ≡ None)) (λ m. stored_by m ≡ Some f → ⊥) (names_all s.lbfs st s.next_xid).send (λ m h q. nothing_there f (sym h.1 ∙ q)) (names_go s.lbfs st s.next_xid).plain)
          ((λ q. let same : file ≡ f = some_is file f (sym (own_handle file small) ∙ q) in unnoted_own (reserved s.cache file) file e n (ap (kept_of (without_note (reserved s.cache file) file)) same ∙ at) is), tt);
      sent = λ u x task lease. (let same = some_is (record { file = file; stage = stage.Committing (names_all s.lbfs st s.next_xid).next_xid }) u task in
          let is_x : (names_all s.lbfs st s.next_xid).next_xid ≡ x = some_is (names_all s.lbfs st s.next_xid).next_xid x (ap (λ (z : Task). leasing_xid z.stage) same ∙ lease) in
          let r = (names_go s.lbfs st s.next_xid).rises in
          let last = commit_call s.lbfs (names_all s.lbfs st s.next_xid).next_xid (names_all s.lbfs st s.next_xid).store.temp file (length content) in
          let asks : SendsLease ((names_all s.lbfs st s.next_xid).send ++ last ∷ []) (names_all s.lbfs st s.next_xid).next_xid file = (_, refl, Contains-push (names_all s.lbfs st s.next_xid).send last) in
          (omega (arith, r, is_x), refl, subst (λ (n : ℕ). SendsLease ((names_all s.lbfs st s.next_xid).send ++ last ∷ []) n u.file) is_x (subst (λ (z : Task). SendsLease ((names_all s.lbfs st s.next_xid).send ++ last ∷ []) (names_all s.lbfs st s.next_xid).next_xid z.file) same asks)));
    })

    goes_next : (content : List ℕ) (w : Upload) → StepPlain s (goes_on s file content w) ⊎ StepCommit s (goes_on s file content w)
    goes_next content w = goes content w (is_stored (names_all s.lbfs w s.next_xid).store)

    temped : (temp : ℕ) (content : List ℕ) (a : Answer Unit Unit) → StepPlain s (told_temp s calls file xid temp content a) ⊎ StepCommit s (told_temp s calls file xid temp content a)
    temped temp content (Failed e u) = inl (ends_so s _ _ refl (same_notes s.cache) refl refl)
    temped temp content (Done u) = goes_next content (store_of temp content)

    whole : (content : List ℕ) (w : Upload) (c : UploadCall) (o : Option Chunk) → StepPlain s (sends_whole s file xid content w c o)
    whole content w c None = ends_so s _ _ refl (same_notes s.cache) refl refl
    whole content w c (Some k) = goes_so s _ _ _ refl (same_notes s.cache) refl refl ((refl, refl), tt)

    named : (content : List ℕ) (w : Upload) (c : UploadCall) (a : Answer Unit Unit) (wants : Bool) → StepPlain s (named_if s calls file xid content w c a wants) ⊎ StepCommit s (named_if s calls file xid content w c a wants)
    named content w c a true = inl (whole content w c (slice_get w.chunks c.index))
    named content w c (Done u) false = goes_next content w
    named content w c (Failed e u) false = inl (ends_so s _ _ refl (same_notes s.cache) refl refl)

    wholly : (content : List ℕ) (w : Upload) (a : Answer Unit Unit) → StepPlain s (told_whole s calls file xid content w a) ⊎ StepCommit s (told_whole s calls file xid content w a)
    wholly content w (Done u) = goes_next content w
    wholly content w (Failed e u) = inl (ends_so s _ _ refl (same_notes s.cache) refl refl)

    on_way : (content : List ℕ) (w : Upload) (c : UploadCall) (v : Way) (b : Body) → StepPlain s (told_way s calls file xid content w c v b) ⊎ StepCommit s (told_way s calls file xid content w c v b)
    on_way content w c way.Named (body.Lb (lb.CondWriteAnswer a)) = named content w c a (wants_bytes a)
    on_way content w c way.Whole (body.Lb (lb.TmpWriteAnswer a)) = wholly content w a
    on_way content w c v b = inl (ends_so s _ _ refl (same_notes s.cache) refl refl)

    stored : (content : List ℕ) (w : Upload) (b : Body) (o : Option UploadCall) → StepPlain s (told_stored s calls file xid content w b o) ⊎ StepCommit s (told_stored s calls file xid content w b o)
    stored content w b None = inl (ends_so s _ _ refl (same_notes s.cache) refl refl)
    stored content w b (Some c) = on_way content (answered w xid) c c.way b

  takes_so : (st : Stage) (b : Body) → (IsStoring st → file < 18446744073709551616) → IsOfFile st → StepPlain s (takes s calls file st xid b) ⊎ (IsStoring st × StepCommit s (takes s calls file st xid b))
  takes_so (stage.Asking y) (body.Lb (lb.GetLeaseAnswer a)) small known = inl (leased a)
  takes_so (stage.Rewriting y) (body.Lb (lb.GetLeaseAnswer (Failed e u))) small known = inl (ends_so s _ _ refl (same_notes s.cache) refl refl)
  takes_so (stage.Rewriting y) (body.Lb (lb.GetLeaseAnswer (Done l))) small known = inl (ends_so s _ _ refl (same_notes s.cache) refl refl)
  takes_so (stage.Hashing tries y) (body.Lb (lb.GetHashAnswer a)) small known = inl (first_hashed tries a)
  takes_so (stage.Listing y f) (body.Lb (lb.GetHashAnswer a)) small known = inl (hashed f a)
  takes_so (stage.Reading f) (body.Nfs (nfs.ReadAnswer (Failed e a))) small known = inl (ends_so s _ _ refl (same_notes s.cache) refl refl)
  takes_so (stage.Reading f) (body.Nfs (nfs.ReadAnswer (Done p))) small known = inl (pieced f p (read_at f.under xid))
  takes_so (stage.Making y temp) (body.Lb (lb.MkTmpFileAnswer a)) small known = elim (temped (small tt) temp (local_bytes s.opened file) a) [ inl h ↦ inl h | inr h ↦ inr (tt, h) ]
  takes_so (stage.Storing w) b small known = elim (stored (small tt) (local_bytes s.opened file) w b (store_at w.under xid)) [ inl h ↦ inl h | inr h ↦ inr (tt, h) ]
  takes_so (stage.Committing y) (body.Lb (lb.CommitTmpAnswer (Failed e u))) small known = inl (ends_so s _ _ refl (same_notes s.cache) refl refl)
  takes_so (stage.Committing y) (body.Lb (lb.CommitTmpAnswer (Done c))) small known = inl (ends_so s _ _ refl (with_notes s.cache file c.version (local_bytes s.opened file)) refl refl)
  takes_so (stage.Walking y w) b small known = absurd known
  takes_so st b small known = inl (ends_so s _ _ refl (same_notes s.cache) refl refl)

  walks_so : (y : ℕ) (w : Walk) (b : Body) → StepPlain s (took s calls file (stage.Walking y w) xid b)
  walks_so y w b = walk_cases (StepPlain s) s calls file y w xid b (record {
    fault = λ f untold. ends_so s _ _ refl (same_notes s.cache) refl refl;
    asks = λ v k. goes_so s _ _ _ refl (same_notes s.cache) refl refl ((refl, refl), tt);
    open_already = λ id k is. ends_so s _ _ refl (same_notes s.cache) refl refl;
    fetches = λ id k shut none. asks_so s _ _ _ refl (reserved_notes s.cache id) refl refl refl ((refl, refl), tt) (one_sent _ _ _ refl);
    leases = λ id c k shut at. asks_so s _ _ _ refl (reserved_notes s.cache id) refl refl refl ((refl, refl), tt) (one_sent _ _ _ refl);
    opens_now = λ id c k shut at. ends_so s _ _ refl (same_notes s.cache) refl refl;
    renew_already = λ id k is. ends_so s _ _ refl (same_notes s.cache) refl refl;
    renews = λ id k shut. asks_so s _ _ _ refl (reserved_notes s.cache id) refl refl refl ((refl, refl), tt) (one_sent _ _ _ refl);
    empties_now = λ id c k shut at. ends_so s _ _ refl (same_notes s.cache) refl refl;
    ends = λ v e k is. ends_so s _ _ refl (same_notes s.cache) refl refl;
  })

-- ---- a command

plain_keeps : (now : ℕ) (s : State) (r : State × ClientStep) (New : (f : ℕ) → Note → Type 0) → StepPlain (at s now) r → StepKeeps now s r New
plain_keeps now s r New h = record {
  drift = h.drift;
  notes = λ f e n there is. (let g = h.notes f e n there is in inl (record { entry = g.0; there = g.1; noted = g.2 }));
  calls = all_map (λ m. (answered_by m ≡ None) × (stored_by m ≡ None)) (λ m. answered_by m ≡ None) r.1.send (λ m p. p.0) h.plain;
  stores = λ f e n there is. all_map (λ m. (answered_by m ≡ None) × (stored_by m ≡ None)) (λ m. stored_by m ≡ Some f → ⊥) r.1.send (λ m p q. nothing_there f (sym p.1 ∙ q)) h.plain;
  sent = λ u x task lease. inl (h.sent u x task lease);
}

-- where nothing is done for the operation under way
same_keeps : (now : ℕ) (s : State) (r : State × ClientStep) (New : (f : ℕ) → Note → Type 0) → r.0.drift ≡ s.drift → r.0.cache ≡ s.cache → r.0.task ≡ s.task → r.0.sent ≡ s.sent → r.1.send ≡ [] → StepKeeps now s r New
same_keeps now s r New drift cache task sent none = record {
  drift = drift;
  notes = λ f e n there is. inl (record { entry = e; there = sym (ap (λ (es : Entries). kept_of es f) cache) ∙ there; noted = is });
  calls = subst (AllByRecursion (λ m. answered_by m ≡ None)) (sym none) tt;
  stores = λ f e n there is. subst (AllByRecursion (λ m. stored_by m ≡ Some f → ⊥)) (sym none) tt;
  sent = λ u x under lease. inr (sym task ∙ under, sent, none);
}

pub command_keeps : (s : State) (d : Command) (now : ℕ) → StepKeeps now s (command_step s d now) (λ f n. ⊥)
command_keeps s d now = command_cases (λ r. StepKeeps now s r (λ f n. ⊥)) s d now (record {
  busy = λ t is. same_keeps now s _ (λ f n. ⊥) refl refl refl refl refl;
  answers = λ free opened o plain. same_keeps now s _ (λ f n. ⊥) refl refl refl refl refl;
  fetches = λ file is free may. plain_keeps now s _ (λ f n. ⊥) (asks_so (at s now) _ _ _ refl (reserved_notes s.cache file) refl refl refl ((refl, refl), tt) (one_sent _ _ _ refl));
  asks = λ file c is free may there. plain_keeps now s _ (λ f n. ⊥) (asks_so (at s now) _ _ _ refl (reserved_notes s.cache file) refl refl refl ((refl, refl), tt) (one_sent _ _ _ refl));
  renews = λ file is free may. plain_keeps now s _ (λ f n. ⊥) (asks_so (at s now) _ _ _ refl (reserved_notes s.cache file) refl refl refl ((refl, refl), tt) (one_sent _ _ _ refl));
  opens_now = λ file c is free shut fresh. same_keeps now s _ (λ f n. ⊥) refl refl refl refl refl;
  empties_now = λ file c is free shut fresh. same_keeps now s _ (λ f n. ⊥) refl refl refl refl refl;
  walks = λ c is free may. plain_keeps now s _ (λ f n. ⊥) (goes_so (at s now) _ _ _ refl (same_notes s.cache) refl refl ((refl, refl), tt));
  closes = λ file l is free may there. plain_keeps now s _ (λ f n. ⊥) (goes_so (at s now) _ _ _ refl (same_notes s.cache) refl refl ((refl, refl), tt));
})

-- ---- an answer

commit_keeps : (now : ℕ) (s : State) (r : State × ClientStep) (New : (f : ℕ) → Note → Type 0) → StepCommit (at s now) r → StepKeeps now s r New
commit_keeps now s r New h = record {
  drift = h.drift;
  notes = λ f e n there is. (let g = h.notes f e n there is in inl (record { entry = g.0; there = g.1; noted = g.2 }));
  calls = h.calls;
  stores = h.stores;
  sent = λ u x task lease. inl (h.sent u x task lease);
}

-- a call that may bring a lease is the only one that is waited for
one_awaited : (p : Program) (y x : ℕ) → list_any (λ (c : Pending). c.xid == x) (record { xid = y; program = p } ∷ []) ≡ true → Some y ≡ Some x
one_awaited p y x e = by (y == x) refl e
  where
    by : (b : Bool) → (y == x) ≡ b → (b || false) ≡ true → Some y ≡ Some x
    by true is e = ap (λ (z : ℕ). Some z) (grind (arith, nat_tests, is))
    by false is e = absurd cc

awaits_is : (st : Stage) (b : Body) (g : Granted) (x : ℕ) → lease_in st b ≡ Some g → has_call (pending_in st) x ≡ true → leasing_xid st ≡ Some x
awaits_is (stage.Asking y) b g x lease e = one_awaited (program.Lb lb_proc.GetLease) y x e
awaits_is (stage.Rewriting y) b g x lease e = one_awaited (program.Lb lb_proc.GetLease) y x e
awaits_is (stage.Hashing tries y) b g x lease e = one_awaited (program.Lb lb_proc.GetHash) y x e
awaits_is (stage.Listing y f) b g x lease e = one_awaited (program.Lb lb_proc.GetHash) y x e
awaits_is (stage.Committing y) b g x lease e = one_awaited (program.Lb lb_proc.CommitTmp) y x e
awaits_is st b g x lease e = nothing_there g lease

no_grant_stored : (st : Stage) (b : Body) (g : Granted) → lease_in st b ≡ Some g → IsStoring st → ⊥
no_grant_stored (stage.Making y temp) b g lease is = nothing_there g lease
no_grant_stored (stage.Storing w) b g lease is = nothing_there g lease
no_grant_stored st b g lease is = is

module _ (s : State) (a : Told) (now : ℕ) (t : Task) (under : s.task ≡ Some t) (own : has_call (pending_in t.stage) a.xid ≡ true) where
  abbrev taken : State × ClientStep
  taken = takes (idle (at s now)) (calls_of (at s now)) t.file t.stage a.xid (reply_body a.reply)

  -- the lease that it grants is noted
  granted_keeps : (g : Granted) → lease_in t.stage (reply_body a.reply) ≡ Some g → StepPlain (idle (at s now)) taken → (o : Option ℕ) → note_until s.sent g.term taken.0.drift ≡ o → StepKeeps now s (noted_until taken.0 t.file g.version o, taken.1) (NewNote s a)
  granted_keeps g lease h None e = plain_keeps now s taken (NewNote s a) (record { drift = h.drift; notes = h.notes; plain = h.plain; sent = h.sent })
  granted_keeps g lease h (Some until) e = record {
    drift = h.drift;
    notes = λ f k n there is. noted_or f k n there is (kept_of taken.0.cache t.file) refl there;
    calls = all_map (λ m. (answered_by m ≡ None) × (stored_by m ≡ None)) (λ m. answered_by m ≡ None) taken.1.send (λ m p. p.0) h.plain;
    stores = λ f k n there is. all_map (λ m. (answered_by m ≡ None) × (stored_by m ≡ None)) (λ m. stored_by m ≡ Some f → ⊥) taken.1.send (λ m p q. nothing_there f (sym p.1 ∙ q)) h.plain;
    sent = λ u x task lease_. inl (h.sent u x task lease_);
  }
    where
      note : Note
      note = record { version = g.version; until = until }

      old : (f : ℕ) (k : Kept) (n : Note) → kept_of taken.0.cache f ≡ Some k → k.note ≡ Some n → HadNote s.cache f n ⊎ NewNote s a f n
      old f k n there is = let w = h.notes f k n there is in inl (record { entry = w.0; there = w.1; noted = w.2 })

      noted_or : (f : ℕ) (k : Kept) (n : Note) → kept_of (with_note taken.0.cache t.file g.version until) f ≡ Some k → k.note ≡ Some n → (o : Option Kept) → kept_of taken.0.cache t.file ≡ o → kept_of (notes taken.0.cache t.file (Some note) o) f ≡ Some k → HadNote s.cache f n ⊎ NewNote s a f n
      noted_or f k n there is None none found = old f k n found is
      noted_or f k n there is (Some w) at_ found = elim (set_found taken.0.cache f t.file (record w { note = Some note }) k found) [
        | inl new ↦ (let same : note ≡ n = some_is note n (ap (λ (z : Kept). z.note) new.1 ∙ is) in inr (record {
          task = t;
          task_is = under;
          file = sym new.0;
          granted = g;
          awaits = awaits_is t.stage (reply_body a.reply) g a.xid lease own;
          lease = lease;
          version = ap (λ (z : Note). z.version) (sym same);
          until = ap (note_until s.sent g.term) (sym h.drift) ∙ e ∙ ap (λ (z : Note). Some z.until) same;
        }))
        | inr was ↦ old f k n was is
      ]

  took_keeps : ClosesSmall s → IsOfFile t.stage → StepKeeps now s (took (idle (at s now)) (calls_of (at s now)) t.file t.stage a.xid (reply_body a.reply)) (NewNote s a)
  took_keeps small known = by (lease_in t.stage (reply_body a.reply)) refl (takes_so (idle (at s now)) (calls_of (at s now)) t.file a.xid t.stage (reply_body a.reply) (λ is. small t under is) known)
    where
      by : (o : Option Granted) → lease_in t.stage (reply_body a.reply) ≡ o → StepPlain (idle (at s now)) taken ⊎ (IsStoring t.stage × StepCommit (idle (at s now)) taken) → StepKeeps now s (noting s.sent t.file o taken) (NewNote s a)
      by None e (inl h) = plain_keeps now s taken (NewNote s a) (record { drift = h.drift; notes = h.notes; plain = h.plain; sent = h.sent })
      by None e (inr h) = commit_keeps now s taken (NewNote s a) (record { drift = h.1.drift; notes = h.1.notes; calls = h.1.calls; stores = h.1.stores; sent = h.1.sent })
      by (Some g) e (inl h) = granted_keeps g e h (note_until s.sent g.term taken.0.drift) refl
      by (Some g) e (inr h) = absurd (no_grant_stored t.stage (reply_body a.reply) g e h.0)

pub told_keeps : (s : State) (a : Told) (now : ℕ) → ClosesSmall s → StepKeeps now s (got_step s (Ok (told_message a)) now) (NewNote s a)
told_keeps s a now small = by s.task refl (has_call (pending s.task) a.xid) refl
  where
    dropped : (o : Option Task) → s.task ≡ o → (b : Bool) → StepKeeps now s (drops (at s now) o a.xid b) (NewNote s a)
    dropped o is true = same_keeps now s _ (NewNote s a) refl refl refl refl refl
    dropped (Some t) is false = plain_keeps now s _ (NewNote s a) (ends_so (at s now) _ _ refl (same_notes s.cache) refl refl)
    dropped None is false = plain_keeps now s _ (NewNote s a) (ends_so (at s now) _ _ refl (same_notes s.cache) is refl)

    stage_by : (t : Task) → s.task ≡ Some t → has_call (pending_in t.stage) a.xid ≡ true → (st : Stage) → t.stage ≡ st → StepKeeps now s (took (idle (at s now)) (calls_of (at s now)) t.file t.stage a.xid (reply_body a.reply)) (NewNote s a)
    stage_by t is own (stage.Walking y w) e =
        subst (λ (st : Stage). StepKeeps now s (took (idle (at s now)) (calls_of (at s now)) t.file st a.xid (reply_body a.reply)) (NewNote s a)) (sym e)
        (let h = walks_so (idle (at s now)) (calls_of (at s now)) t.file a.xid y w (reply_body a.reply) in plain_keeps now s _ (NewNote s a) (record { drift = h.drift; notes = h.notes; plain = h.plain; sent = h.sent }))
    stage_by t is own (stage.Asking y) e = took_keeps s a now t is own small (subst IsOfFile (sym e) tt)
    stage_by t is own (stage.Rewriting y) e = took_keeps s a now t is own small (subst IsOfFile (sym e) tt)
    stage_by t is own (stage.Hashing tries y) e = took_keeps s a now t is own small (subst IsOfFile (sym e) tt)
    stage_by t is own (stage.Listing y f) e = took_keeps s a now t is own small (subst IsOfFile (sym e) tt)
    stage_by t is own (stage.Reading f) e = took_keeps s a now t is own small (subst IsOfFile (sym e) tt)
    stage_by t is own (stage.Making y temp) e = took_keeps s a now t is own small (subst IsOfFile (sym e) tt)
    stage_by t is own (stage.Storing w) e = took_keeps s a now t is own small (subst IsOfFile (sym e) tt)
    stage_by t is own (stage.Committing y) e = took_keeps s a now t is own small (subst IsOfFile (sym e) tt)

    by : (o : Option Task) → s.task ≡ o → (b : Bool) → has_call (pending o) a.xid ≡ b → StepKeeps now s (took_if (at s now) o a.xid (reply_body a.reply) b) (NewNote s a)
    by (Some t) is true own = stage_by t is own t.stage refl
    by (Some t) is false own = dropped (Some t) is (has_call s.forgotten a.xid)
    by None is true own = dropped None is (has_call s.forgotten a.xid)
    by None is false own = dropped None is (has_call s.forgotten a.xid)

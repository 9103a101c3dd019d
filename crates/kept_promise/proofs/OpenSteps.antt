-- What an open comes to by each answer that it waits for.
use Rattle.std.proofs.Common.{inl, ◌≡◌, ℕ, zero, suc, ◌+◌, ◌*◌, ◌<◌, ◌≤◌, List, [], ◌∷◌, ◌++◌, length, Option, Some, None, Bool, true, false, refl, sym, ap, ◌∙◌, subst, arith, eqb-true, eq-eqb, replicate, map}
use Rattle.client_cache.specs.Cache.{content_of}
use Rattle.hash_calls.specs.declared.call.Leased.{Leased}
use Rattle.file_open.specs.Caching.{content_in}
use Rattle.file_open.specs.Looking.{listed_if, listed_by, reading_by}
use Rattle.client_state.specs.State as client
use Rattle.client_state.specs.declared.task.Stage.TheVariants as stage
use Rattle.register_model.specs.declared.op.Word.TheVariants as words
use Rattle.std.specs.Prelude.{not, ◌&&◌}
use Rattle.kept_promise.proofs.Common.{nat_tests, slice_get, cond, ◌==◌, chunks_of, end_of, Answer, Done, Failed, Hashes, read_pending, fetch_of, with_hashes, listed, read_at, broken_of, idle, told_first, told_hashes, told_version, told_shape, lists_on, told_lease, uses_kept, if◌then◌else◌, Content, Pending, Fetch, ReadCall, Stage, Core, Session, hashed_of, Book, value_at, Reply.Hashed, Reply.Versioned, Told, Queue, reply_program, reply_body}
use Rattle.kept_promise.proofs.Lists.{some_is, nothing_there}
use Rattle.kept_promise.proofs.Keys.{times}
use Rattle.kept_promise.proofs.Messages.{Job, job, stage_word, AllTolds, hash_offset, AnswerOf, IsAnswer, HashTold, IsHashed, IsLeased, LeaseTold, IsAfter, IsTried, Trying, TriedBy, IsFetch, FetchOf, lease_xid}
use Rattle.kept_promise.proofs.Growth.{or_map}
use Rattle.kept_promise.proofs.Facts.{HasXids, IsSession, IsOf}
use Rattle.kept_promise.proofs.Chunks.{row_of, sum_sound}
use Rattle.kept_promise.proofs.Heard.{Moves, told_pending}
use Rattle.kept_promise.proofs.Moves.{told_there, moves_single, moves_retries}
use Rattle.kept_promise.proofs.Steps.{Here, session_at, Quiet, job_op, on}
use Rattle.kept_promise.proofs.Attempts.{one_content, fetch_first, Next, fetch_next, fetch_few}
use Rattle.kept_promise.proofs.CloseEnds.{quiet_before}
use Rattle.kept_promise.proofs.CloseSteps.{calls_are}
use Rattle.kept_promise.proofs.Comes.{client_at, Comes, comes_refused}
use Rattle.kept_promise.proofs.Hashings.{file_small, hash_ask, goes_hash, comes_changed}
use Rattle.kept_promise.proofs.Listings.{fetch_on, Looked, Gets, MayRead, comes_opened, comes_reading}
use Rattle.kept_promise.proofs.StepCases.{IsOfFile}

-- ---- chunks were told

empty_at : {A : Type 0} (k i : ℕ) (b : A) → slice_get (replicate k None) i ≡ Some (Some b) → ⊥
empty_at zero i b e = nothing_there (Some b) e
empty_at (suc k) zero b e = absurd cc
empty_at (suc k) (suc i) b e = empty_at k i b e

empty_count : {A : Type 0} (k : ℕ) (x : A) → length (replicate k x) ≡ k
empty_count zero x = refl
empty_count (suc k) x = ap suc (empty_count k x)

-- an attempt that waited for chunks, of which these were told
pub record MayList (book : Book) (k : Core) (qs : List Queue) (n : ℕ) (x : Session) (q : Queue) (t : Told) (ts : List Told) (j : Job) (g : Here book k qs n x q t ts j) (f : Fetch) (h : Hashes) : Type 0 where
  pub quiet : Quiet k n q
  pub word : stage_word j.stage ≡ words.Open
  pub pends : client.pending_in j.stage ≡ told_pending t ∷ []
  pub fact : IsFetch book x.taken j f
  pub bare : (f.asked ≡ 0) × (f.under ≡ [])
  pub told : IsHashed book x.taken j t.xid (end_of f.chunks) h
  pub same : h.version ≡ f.version
  pub looked : (u : Fetch) → listed_by f h ≡ Some u → Looked (hashed_of book.moments) (client_at book k qs n x q t ts j g) j.file u
  pub xids : (spare : ℕ) × (f.tries + spare ≡ 4) × ((client_at book k qs n x q t ts j g).next_xid + 100000 * spare + 80000 ≤ 4294967296 + length f.chunks)

-- the further chunks are asked for, or their bytes
lists_come : (book : Book) (k : Core) (qs : List Queue) (n : ℕ) (x : Session) (q : Queue) (t : Told) (ts : List Told) (j : Job) (g : Here book k qs n x q t ts j) (f : Fetch) (h : Hashes) → MayList book k qs n x q t ts j g f h
    → Comes book k qs n x q t ts j g (told_shape (idle (client_at book k qs n x q t ts j g)) (client.calls_of (client_at book k qs n x q t ts j g)) j.file t.xid f h (broken_of f h))
lists_come book k qs n x q t ts j g f h may = subst (λ b. Comes book k qs n x q t ts j g (told_shape (idle c) (client.calls_of c) j.file t.xid f h b)) (sym next.broken) (by h.eof refl)
  where
    is : IsSession book k.seats k.server n x q
    is = session_at book k qs n x q t ts j g

    c : client.State
    c = is.seat.client

    next : Next book x.taken j f h
    next = fetch_next book x.taken j t.xid f h g.kept.sound may.fact may.told may.same

    after : Fetch
    after = with_hashes f h

    s : Stage
    s = stage.Listing c.next_xid after

    small : j.file < 18446744073709551616
    small = file_small book k qs j.file g.kept may.fact.known

    moves : Moves (client.calls_of c) (client.pending_in s ++ c.forgotten) t (hash_ask c.lbfs c.next_xid j.file (end_of after.chunks) ∷ [])
    moves = subst (λ l. Moves l (client.pending_in s ++ c.forgotten) t (hash_ask c.lbfs c.next_xid j.file (end_of after.chunks) ∷ [])) (sym (calls_are is.seat j g.job_is)) (moves_single (client.pending_in j.stage) (client.pending_in s) c.forgotten t (hash_ask c.lbfs c.next_xid j.file (end_of after.chunks) ∷ []) may.pends (λ m y. refl))

    ends : end_of after.chunks ≤ 67108864
    ends =
        let e = ap end_of next.fetch.chunks in
        let le = sum_sound next.fetch.file.content 0 next.fetch.count (chunks_of next.fetch.file.content) (row_of next.fetch.file.content) next.fetch.within in
        let short = next.fetch.short in
        omega (arith, e, le, short)

    chunks_few : length after.chunks ≤ 32769
    chunks_few = fetch_few book x.taken j after next.fetch

    xids : length f.chunks < length after.chunks → HasXids (c.next_xid + 1) s
    xids lt = let z = may.xids.2 in (may.xids.0, may.xids.1, omega (arith, z, lt))

    bound : c.next_xid + 1 ≤ 4294967296
    bound = let z = may.xids.2 in let d = fetch_few book x.taken j f may.fact in omega (arith, z, d)

    -- all are told
    whole : Fetch
    whole = listed after

    fetched : IsFetch book x.taken j whole
    fetched = record { file = next.fetch.file; held = next.fetch.held; version = next.fetch.version; value = next.fetch.value; told = next.fetch.told; value_is = next.fetch.value_is; tried = next.fetch.tried; size = next.fetch.size; short = next.fetch.short; known = next.fetch.known; count = next.fetch.count; within = next.fetch.within; chunks = next.fetch.chunks; hashed = next.fetch.hashed }

    nothing_under : (y : ℕ) (r : ReadCall) (us : List ReadCall) → us ≡ [] → read_at us y ≡ Some r → ⊥
    nothing_under y r [] none e = nothing_there r e
    nothing_under y r (u ∷ us) none e = absurd cc

    may_read : h.eof ≡ true → MayRead book k qs n x q t ts j g whole fetched
    may_read e = record {
      quiet = may.quiet;
      word = may.word;
      reading = record {
        whole = next.whole e;
        slots = empty_count (length after.chunks) None;
        came = λ i b d at. absurd (empty_at (length after.chunks) i b at);
        asked = let z = may.bare.0 in omega (arith, z);
        inside = λ m r at. nothing_there r (ap (λ (l : List ReadCall). slice_get l m) (sym may.bare.1) ∙ at);
        filled = λ i lt. let z = may.bare.0 in absurd (omega (arith, z, lt));
      };
      looked = may.looked whole (ap (λ b. listed_if f h b (broken_of f h) h.eof) (eq-eqb h.version f.version may.same) ∙ ap (λ b. listed_if f h true b h.eof) next.broken ∙ ap (listed_if f h true None) e);
      moves = λ m y. ap (λ l. times y (map m (map read_pending l)) + times y (m (told_pending t) ∷ [])) may.bare.1 ∙ (let z : 0 + times y (m (told_pending t) ∷ []) ≡ times y (m (told_pending t) ∷ []) = omega arith in z) ∙ ap (λ l. times y (map m l)) (sym may.pends);
      below = λ y r at. absurd (nothing_under y r f.under may.bare.1 at);
      again = λ y r d at. absurd (nothing_under y r f.under may.bare.1 at);
      xids = let z = may.xids.2 in let d = fetch_few book x.taken j f may.fact in (may.xids.0, may.xids.1, omega (arith, z, d));
    }

    by : (b : Bool) → h.eof ≡ b → Comes book k qs n x q t ts j g (lists_on (idle c) (client.calls_of c) j.file t.xid after b)
    by true e = comes_reading book k qs n x q t ts j g whole 0 fetched (may_read e)
    by false e = inl (record {
      to = s;
      next = c.next_xid + 1;
      forgotten = c.forgotten;
      cache = c.cache;
      index = c.index;
      sent = c.clock;
      asks = hash_ask c.lbfs c.next_xid j.file (end_of after.chunks) ∷ [];
      shows = goes_hash book k qs n x q t ts j g s (end_of after.chunks) c.forgotten may.quiet (sym may.word) (λ y. refl) (λ y e2. absurd cc) (λ y e2. nothing_there y e2) (λ u e2. absurd cc) refl moves small ends (fetch_on book x.taken j s after next.fetch, may.bare.0, may.bare.1) tt (λ m y e2. absurd cc) (xids (next.more e)) bound may.word;
      cached = (g.kept.seats x.owner is.seat is.owner).kept;
      state_is = refl;
      send_is = refl;
      ended_is = refl;
    })

-- ---- a GETHASH is answered

-- what its answer says
pub said : (book : Book) (k : Core) (qs : List Queue) (n : ℕ) (x : Session) (q : Queue) (t : Told) (ts : List Told) (j : Job) (g : Here book k qs n x q t ts j) → AnswerOf book x.taken x.closing (Some j) t.xid t.reply
said book k qs n x q t ts j g =
    let h = session_at book k qs n x q t ts j g in
    subst (λ (o : Option Job). AnswerOf book x.taken x.closing o t.xid t.reply) g.job_is (subst (AllTolds (IsAnswer book x.taken x.closing (job h.seat))) g.first (h.talk g.uncut).answers).0

answer_at : (book : Book) (k : Core) (qs : List Queue) (n : ℕ) (x : Session) (q : Queue) (t : Told) (ts : List Told) (j : Job) (g : Here book k qs n x q t ts j) (a : Answer Hashes Unit) (o : ℕ) → t.reply ≡ Hashed a → hash_offset j.stage t.xid ≡ Some o → HashTold book x.taken j t.xid o a × TriedBy book x.taken j t.xid j.stage
answer_at book k qs n x q t ts j g a o e waits = subst (AnswerOf book x.taken x.closing (Some j) t.xid) e (said book k qs n x q t ts j g) j o refl waits

-- what is found of the attempt that it leaves is noted
abbrev pub Finds : (book : Book) (k : Core) (qs : List Queue) (n : ℕ) (x : Session) (q : Queue) (t : Told) (ts : List Told) (j : Job) → Here book k qs n x q t ts j → Type 0
Finds book k qs n x q t ts j g = (u : Fetch) → reading_by j.stage t.xid (reply_body t.reply) ≡ Some u → Looked (hashed_of book.moments) (client_at book k qs n x q t ts j g) j.file u

pub xids_at : (book : Book) (k : Core) (qs : List Queue) (n : ℕ) (x : Session) (q : Queue) (t : Told) (ts : List Told) (j : Job) (g : Here book k qs n x q t ts j) (s : Stage) → j.stage ≡ s → HasXids (client_at book k qs n x q t ts j g).next_xid s
xids_at book k qs n x q t ts j g s at = let h = session_at book k qs n x q t ts j g in subst (HasXids h.seat.client.next_xid) at ((g.kept.seats x.owner h.seat h.owner).xids j g.job_is)

same_xid : (y v : ℕ) → cond (y == y) (Some v) None ≡ Some v
same_xid y v = ap (λ b. cond b (Some v) None) (eq-eqb y y refl)

pub comes_hashing : (book : Book) (k : Core) (qs : List Queue) (n : ℕ) (x : Session) (q : Queue) (t : Told) (ts : List Told) (j : Job) (g : Here book k qs n x q t ts j) (tries : ℕ) (a : Answer Hashes Unit) → j.stage ≡ stage.Hashing tries t.xid → t.reply ≡ Hashed a → Finds book k qs n x q t ts j g
    → Comes book k qs n x q t ts j g (told_first (idle (client_at book k qs n x q t ts j g)) (client.calls_of (client_at book k qs n x q t ts j g)) j.file t.xid tries a)
comes_hashing book k qs n x q t ts j g tries a at e looked = by a e (answer_at book k qs n x q t ts j g a 0 e (ap (λ s. hash_offset s t.xid) at ∙ same_xid t.xid 0)).0
  where
    c : client.State
    c = client_at book k qs n x q t ts j g

    quiet : Quiet k n q
    quiet = quiet_before book k qs n x q t ts j g (λ y s. apart y (sym at ∙ s)) (subst IsOfFile (sym at) tt)
      where
        apart : (y : ℕ) → stage.Hashing tries t.xid ≡ stage.Committing y → ⊥
        apart y e = absurd cc

    word : stage_word j.stage ≡ words.Open
    word = ap stage_word at

    tried : IsTried book x.taken j t.xid tries
    tried = subst (TriedBy book x.taken j t.xid) at (answer_at book k qs n x q t ts j g a 0 e (ap (λ s. hash_offset s t.xid) at ∙ same_xid t.xid 0)).1

    pends : client.pending_in j.stage ≡ told_pending t ∷ []
    pends = ap client.pending_in at ∙ ap (λ r. record { xid = t.xid; program = reply_program r } ∷ []) (sym e)

    by : (a : Answer Hashes Unit) → t.reply ≡ Hashed a → HashTold book x.taken j t.xid 0 a → Comes book k qs n x q t ts j g (told_first (idle c) (client.calls_of c) j.file t.xid tries a)
    by (Failed s tt) e told = comes_refused book k qs n x q t ts j g s word quiet told
    by (Done h) e told = subst (λ b. Comes book k qs n x q t ts j g (told_version (idle c) (client.calls_of c) j.file t.xid (fetch_of tries t.xid h) h b)) (sym (eq-eqb h.version h.version refl)) (lists_come book k qs n x q t ts j g (fetch_of tries t.xid h) h (record {
      quiet = quiet;
      word = word;
      pends = pends;
      fact = fetch_first book x.taken j t.xid tries h told tried;
      bare = (refl, refl);
      told = told;
      same = refl;
      looked = λ u is. looked u (ap (λ s. reading_by s t.xid (reply_body t.reply)) at ∙ ap (λ r. reading_by (stage.Hashing tries t.xid) t.xid (reply_body r)) e ∙ is);
      xids = xids_at book k qs n x q t ts j g (stage.Hashing tries t.xid) at;
    }))

pub comes_listing : (book : Book) (k : Core) (qs : List Queue) (n : ℕ) (x : Session) (q : Queue) (t : Told) (ts : List Told) (j : Job) (g : Here book k qs n x q t ts j) (f : Fetch) (a : Answer Hashes Unit) → j.stage ≡ stage.Listing t.xid f → t.reply ≡ Hashed a → Finds book k qs n x q t ts j g
    → Comes book k qs n x q t ts j g (told_hashes (idle (client_at book k qs n x q t ts j g)) (client.calls_of (client_at book k qs n x q t ts j g)) j.file t.xid f a)
comes_listing book k qs n x q t ts j g f a at e looked = by a e (answer_at book k qs n x q t ts j g a (end_of f.chunks) e (ap (λ s. hash_offset s t.xid) at ∙ same_xid t.xid (end_of f.chunks))).0
  where
    c : client.State
    c = client_at book k qs n x q t ts j g

    quiet : Quiet k n q
    quiet = quiet_before book k qs n x q t ts j g (λ y s. apart y (sym at ∙ s)) (subst IsOfFile (sym at) tt)
      where
        apart : (y : ℕ) → stage.Listing t.xid f ≡ stage.Committing y → ⊥
        apart y e = absurd cc

    word : stage_word j.stage ≡ words.Open
    word = ap stage_word at

    later : IsAfter x.taken f.first t.xid
    later = subst (TriedBy book x.taken j t.xid) at (answer_at book k qs n x q t ts j g a (end_of f.chunks) e (ap (λ s. hash_offset s t.xid) at ∙ same_xid t.xid (end_of f.chunks))).1

    fact : IsFetch book x.taken j f × (f.asked ≡ 0) × (f.under ≡ [])
    fact = subst (FetchOf book x.taken j) at (((session_at book k qs n x q t ts j g).talk g.uncut).fetch j g.job_is)

    pends : client.pending_in j.stage ≡ told_pending t ∷ []
    pends = ap client.pending_in at ∙ ap (λ r. record { xid = t.xid; program = reply_program r } ∷ []) (sym e)

    left : (spare : ℕ) × (f.tries + spare ≡ 4) × (c.next_xid + 100000 * spare + 80000 ≤ 4294967296 + length f.chunks)
    left = xids_at book k qs n x q t ts j g (stage.Listing t.xid f) at

    by : (a : Answer Hashes Unit) → t.reply ≡ Hashed a → HashTold book x.taken j t.xid (end_of f.chunks) a → Comes book k qs n x q t ts j g (told_hashes (idle c) (client.calls_of c) j.file t.xid f a)
    by (Failed s tt) e told = comes_refused book k qs n x q t ts j g s word quiet told
    by (Done h) e told = by_version (h.version == f.version) refl
      where
        differ : (m v : ℕ) → (m == v) ≡ false → m ≡ v → ⊥
        differ m v e s = grind (arith, nat_tests, e, s)

        by_version : (b : Bool) → (h.version == f.version) ≡ b → Comes book k qs n x q t ts j g (told_version (idle c) (client.calls_of c) j.file t.xid f h b)
        by_version true same = lists_come book k qs n x q t ts j g f h (record { quiet = quiet; word = word; pends = pends; fact = fact.0; bare = (fact.1, fact.2); told = told; same = eqb-true h.version f.version same; looked = λ u is. looked u (ap (λ s. reading_by s t.xid (reply_body t.reply)) at ∙ ap (λ r. reading_by (stage.Listing t.xid f) t.xid (reply_body r)) e ∙ is); xids = left })
        by_version false apart =
            let began = some_is later.began fact.0.told.moment (sym later.was ∙ fact.0.told.was) in
            let last = some_is later.last told.told.moment (sym later.is ∙ told.told.was) in
            let order = later.order in
            let lt : fact.0.told.moment < told.told.moment = omega (arith, began, last, order) in
            let d = fetch_few book x.taken j f fact.0 in
            let z = left.2 in
            comes_changed book k qs n x q t ts j g f told.told.moment h.version 0 fact.0 word quiet lt told.told.past (told.told.version_is ∙ sym (ap (λ (v : Hashes). v.version) told.is)) (λ s. differ h.version f.version apart s) (left.0, left.1, omega (arith, d, z))

-- ---- a GETLEASE is answered

content_found : (version : ℕ) (o : Option Content) (b : List ℕ) → content_in version o ≡ Some b → (c : Content) × (o ≡ Some c) × (c.version ≡ version) × (c.bytes ≡ b)
content_found version None b e = nothing_there b e
content_found version (Some c) b e = by (c.version == version) (not (version == 0)) refl e
  where
    by : (t u : Bool) → (c.version == version) ≡ t → (if t && u then Some c.bytes else None) ≡ Some b → (d : Content) × (Some c ≡ Some d) × (d.version ≡ version) × (d.bytes ≡ b)
    by true true same e = (c, refl, eqb-true c.version version same, some_is c.bytes b e)
    by true false same e = nothing_there b e
    by false u same e = nothing_there b e

pub comes_leased : (book : Book) (k : Core) (qs : List Queue) (n : ℕ) (x : Session) (q : Queue) (t : Told) (ts : List Told) (j : Job) (g : Here book k qs n x q t ts j) (a : Answer Leased Unit) → j.stage ≡ stage.Asking t.xid → t.reply ≡ Versioned a
    → Comes book k qs n x q t ts j g (told_lease (idle (client_at book k qs n x q t ts j g)) (client.calls_of (client_at book k qs n x q t ts j g)) j.file t.xid a)
comes_leased book k qs n x q t ts j g a at e = by a (subst (AnswerOf book x.taken x.closing (Some j) t.xid) e (said book k qs n x q t ts j g) j refl (ap lease_xid at))
  where
    h : IsSession book k.seats k.server n x q
    h = session_at book k qs n x q t ts j g

    c : client.State
    c = h.seat.client

    of : IsOf book x.owner j
    of = job_op book k qs x h.seat j g.kept h.owner g.job_is

    quiet : Quiet k n q
    quiet = quiet_before book k qs n x q t ts j g (λ y s. apart y (sym at ∙ s)) (subst IsOfFile (sym at) tt)
      where
        apart : (y : ℕ) → stage.Asking t.xid ≡ stage.Committing y → ⊥
        apart y e = absurd cc

    word : stage_word j.stage ≡ words.Open
    word = ap stage_word at

    s : Stage
    s = stage.Hashing 1 c.next_xid

    forgotten : List Pending
    forgotten = client.without_call (client.calls_of c) t.xid

    moves : Moves (client.calls_of c) (client.pending_in s ++ forgotten) t (hash_ask c.lbfs c.next_xid j.file 0 ∷ [])
    moves =
        let b = (h.talk g.uncut).balanced in
        let there = told_there n k.server.waiting q x.hung c.next_xid (client.calls_of c) 0 t b (ap (λ (l : List Told). slice_get l 0) g.first) in
        moves_retries (client.calls_of c) there.0 t (hash_ask c.lbfs c.next_xid j.file 0) there.1 (b.once t.xid)

    room : c.next_xid + 380001 ≤ 4294967296
    room = xids_at book k qs n x q t ts j g (stage.Asking t.xid) at

    tries_of : Stage → ℕ
    tries_of (stage.Hashing m y) = m
    tries_of z = 0

    begun : (m : ℕ) → 1 ≡ m → Trying book (on j s) m
    begun m is = let b = (g.kept.sound.rights j.place of.op of.there).begun in record { op = of.op; there = of.there; count = 0; tries_is = sym is; tried = omega (arith, b) }

    -- what is kept in the version that was told is the content of it
    kept : (l : Leased) → IsLeased book x.taken j t.xid l → (bytes : List ℕ) → content_in l.version (content_of c.cache j.file) ≡ Some bytes → Gets book k qs n x q t ts j g t.xid l.version bytes
    kept l told bytes is =
        let f = content_found l.version (content_of c.cache j.file) bytes is in
        let held = (g.kept.seats x.owner h.seat h.owner).kept j.file f.0 f.1 in
        let had = held.0 (let some = told.known.positive in omega (arith, some)) in
        record {
          quiet = quiet;
          word = word;
          value = told.value;
          told_ = told.told;
          value_is = or_map book (value_at book j.file had.moment ≡ Some f.0.bytes) (bytes ≡ told.value) (λ v. sym f.3 ∙ one_content book j.file had.moment told.told.moment f.0.bytes told.value v told.told.value (had.version_is ∙ f.2 ∙ sym told.told.version_is)) had.value_is;
          short = subst (λ (b : List ℕ). length b ≤ 67108864) f.3 held.1;
          known = told.known;
        }

    used : (l : Leased) → IsLeased book x.taken j t.xid l → (o : Option (List ℕ)) → content_in l.version (content_of c.cache j.file) ≡ o → Comes book k qs n x q t ts j g (uses_kept (idle c) (client.calls_of c) j.file t.xid l.version o)
    used l told (Some bytes) is = comes_opened book k qs n x q t ts j g t.xid l.version bytes 0 c.cache c.index (uses_kept (idle c) (client.calls_of c) j.file t.xid l.version (Some bytes)) (kept l told bytes is) (g.kept.seats x.owner h.seat h.owner).kept (record { state = refl; acts = refl })
    used l told None is = inl (record {
      to = s;
      next = c.next_xid + 1;
      forgotten = forgotten;
      cache = c.cache;
      index = c.index;
      sent = c.clock;
      asks = hash_ask c.lbfs c.next_xid j.file 0 ∷ [];
      shows = goes_hash book k qs n x q t ts j g s 0 forgotten quiet (sym word) (λ y. refl) (λ y e. absurd cc) (λ y e. nothing_there y e) (λ f e. absurd cc) refl moves (file_small book k qs j.file g.kept told.known) (omega arith) tt tt (λ m y e. begun m (ap tries_of e)) (3, refl, (let r = room in omega (arith, r))) (let r = room in omega (arith, r)) word;
      cached = (g.kept.seats x.owner h.seat h.owner).kept;
      state_is = refl;
      send_is = refl;
      ended_is = refl;
    })

    by : (a : Answer Leased Unit) → LeaseTold book x.taken j t.xid a → Comes book k qs n x q t ts j g (told_lease (idle c) (client.calls_of c) j.file t.xid a)
    by (Failed s tt) told = comes_refused book k qs n x q t ts j g s word quiet told
    by (Done l) told = used l told (content_in l.version (content_of c.cache j.file)) refl

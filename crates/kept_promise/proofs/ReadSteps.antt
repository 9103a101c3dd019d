-- What an open comes to by the answer to a READ.
use Rattle.std.proofs.Common.{inl, inr, ◌≡◌, ℕ, zero, suc, ◌+◌, ◌<◌, ◌≤◌, List, [], ◌∷◌, ◌++◌, length, Option, Some, None, Bool, true, false, refl, sym, ap, ◌∙◌, subst, arith, eqb-true, eq-eqb, ne_eqb, map}
use native.Mathlib.Nat.{div-add-mod'}
use Rattle.std.proofs.lemmas.Slice.Eq.{bytes_eq-Decides}
use Rattle.client_state.specs.State as client
use Rattle.file_open.specs.Looking.{taken_if, taken_at, taken_by, reading_by}
use Rattle.file_open.specs.Opening.{fault_in_digest}
use Rattle.client_state.specs.declared.task.Stage.TheVariants as stage
use Rattle.register_model.specs.declared.op.Word.TheVariants as words
use Rattle.kept_promise.proofs.Common.{shown_version, nat_tests, slice_get, slice_set, not, cond, ◌==◌, nat_le, bytes_eq, Contains, sha1, chunks_of, chunk_bytes, Chunk, Done, Piece, Pending, attr_of, piece_bytes, File, read_pending, without_call, read_at, without_read, fault_in, other_version, with_bytes, idle, told_piece, told_chunk, told_bytes, misfits, BadPeer, Fetch, ReadCall, Core, Session, hashed_of, Book, Or, Reply.Bytes, Told, Queue, reply_program, reply_body}
use Rattle.kept_promise.proofs.Lists.{some_is, nothing_there, same_or_not, within, of_replaced, else_replaced, set_count}
use Rattle.kept_promise.proofs.Keys.{times, there_by}
use Rattle.kept_promise.proofs.Taken.{times_map_append}
use Rattle.kept_promise.proofs.Messages.{Job, stage_word, read_chunk, chunk_for, AnswerOf, IsRead, IsFetch, IsReading, FetchOf, range_of}
use Rattle.kept_promise.proofs.Growth.{bytes_or}
use Rattle.kept_promise.proofs.Facts.{IsSession}
use Rattle.kept_promise.proofs.Heard.{told_pending}
use Rattle.kept_promise.proofs.Moves.{without_moves}
use Rattle.kept_promise.proofs.Steps.{Here, session_at, Quiet}
use Rattle.kept_promise.proofs.ReadCalls.{read_found, read_kept, read_was, read_still}
use Rattle.kept_promise.proofs.Chunks.{row_of, link_at, read_gives, chunks_are_named}
use Rattle.kept_promise.proofs.Attempts.{fetch_few}
use Rattle.kept_promise.proofs.CloseEnds.{quiet_before}
use Rattle.kept_promise.proofs.CloseSteps.{calls_are}
use Rattle.kept_promise.proofs.Comes.{client_at, Comes}
use Rattle.kept_promise.proofs.Hashings.{comes_changed}
use Rattle.kept_promise.proofs.Listings.{MayRead, comes_reading}
use Rattle.kept_promise.proofs.OpenSteps.{Finds, said, xids_at}
use Rattle.kept_promise.proofs.StepCases.{IsOfFile}

-- ---- bytes and versions

version_shown : (g : File) → shown_version (attr_of g) ≡ g.version
version_shown g = div-add-mod' g.version 1000000000

pub record Fits (c : Chunk) (bytes : List ℕ) : Type 0 where
  pub len : length bytes ≡ c.len
  pub digest : sha1 bytes ≡ c.digest

fits_of : (c : Chunk) (bytes : List ℕ) → fault_in c bytes (length bytes == c.len) ≡ None → Fits c bytes
fits_of c bytes e = by (length bytes == c.len) refl e
  where
    inner : (b : Bool) → fault_in_digest c bytes b ≡ None → b ≡ true
    inner true e = refl
    inner false e = absurd cc

    by : (b : Bool) → (length bytes == c.len) ≡ b → fault_in c bytes b ≡ None → Fits c bytes
    by true s e = record { len = eqb-true (length bytes) c.len s; digest = (bytes_eq-Decides (sha1 bytes) c.digest).0 (inner (bytes_eq (sha1 bytes) c.digest) e) }
    by false s e = absurd cc

faultless : (c : Chunk) (bytes : List ℕ) → length bytes ≡ c.len → sha1 bytes ≡ c.digest → fault_in c bytes (length bytes == c.len) ≡ None
faultless c bytes len digest = ap (fault_in c bytes) (eq-eqb (length bytes) c.len len) ∙ ap (fault_in_digest c bytes) ((bytes_eq-Decides (sha1 bytes) c.digest).1 digest)

-- ---- READs under way

without_same : (us : List ReadCall) (x : ℕ) → map read_pending (without_read us x) ≡ without_call (map read_pending us) x
without_same [] x = refl
without_same (u ∷ us) x = by (u.xid == x) (without_same us x)
  where
    by : (b : Bool) → map read_pending (without_read us x) ≡ without_call (map read_pending us) x → map read_pending (cond (not b) (u ∷ without_read us x) (without_read us x)) ≡ cond (not b) (read_pending u ∷ without_call (map read_pending us) x) (without_call (map read_pending us) x)
    by true e = e
    by false e = ap (λ l. read_pending u ∷ l) e

-- where xids are there once, one xid is one READ
only_one : (us : List ReadCall) (x k : ℕ) (r u : ReadCall) → times x (map (λ (p : Pending). p.xid) (map read_pending us)) ≤ 1 → read_at us x ≡ Some u → slice_get us k ≡ Some r → r.xid ≡ x → r ≡ u
only_one [] x k r u once e at same = nothing_there r at
only_one (v ∷ us) x zero r u once e at same = let is = some_is v r at in some_is r u (sym (ap (λ b. cond b (Some v) (read_at us x)) (eq-eqb v.xid x (ap (λ (z : ReadCall). z.xid) is ∙ same)) ∙ at) ∙ e)
only_one (v ∷ us) x (suc k) r u once e at same = by (v.xid == x) refl once e (only_one us x k r u)
  where
    there : 0 < times x (map (λ (p : Pending). p.xid) (map read_pending us))
    there = subst (λ y. 0 < times y (map (λ (p : Pending). p.xid) (map read_pending us))) same (mapped us k r at)
      where
        mapped : (us : List ReadCall) (k : ℕ) (r : ReadCall) → slice_get us k ≡ Some r → 0 < times r.xid (map (λ (p : Pending). p.xid) (map read_pending us))
        mapped [] k r at = nothing_there r at
        mapped (u ∷ us) zero r at = let head = ap (λ b. cond b (suc (times r.xid (map (λ (p : Pending). p.xid) (map read_pending us)))) (times r.xid (map (λ (p : Pending). p.xid) (map read_pending us)))) (eq-eqb u.xid r.xid (ap (λ (z : ReadCall). z.xid) (some_is u r at))) in omega (arith, head)
        mapped (u ∷ us) (suc k) r at = more (u.xid == r.xid) (mapped us k r at)
          where
            more : (b : Bool) → 0 < times r.xid (map (λ (p : Pending). p.xid) (map read_pending us)) → 0 < cond b (suc (times r.xid (map (λ (p : Pending). p.xid) (map read_pending us)))) (times r.xid (map (λ (p : Pending). p.xid) (map read_pending us)))
            more true lt = omega arith
            more false lt = lt

    by : (b : Bool) → (v.xid == x) ≡ b → cond b (suc (times x (map (λ (p : Pending). p.xid) (map read_pending us)))) (times x (map (λ (p : Pending). p.xid) (map read_pending us))) ≤ 1 → cond b (Some v) (read_at us x) ≡ Some u
        → (times x (map (λ (p : Pending). p.xid) (map read_pending us)) ≤ 1 → read_at us x ≡ Some u → slice_get us k ≡ Some r → r.xid ≡ x → r ≡ u) → r ≡ u
    by true s le e later = let t = there in absurd (omega (arith, le, t))
    by false s le e later = later le e at same

mapped_at : (us : List ReadCall) (k : ℕ) (r : ReadCall) → slice_get us k ≡ Some r → slice_get (map read_pending us) k ≡ Some (read_pending r)
mapped_at [] k r at = nothing_there r at
mapped_at (u ∷ us) zero r at = ap (λ (z : ReadCall). Some (read_pending z)) (some_is u r at)
mapped_at (u ∷ us) (suc k) r at = mapped_at us k r at

-- ---- the answer

-- the answer to the READ of a chunk
pub record Reads_ (book : Book) (k : Core) (qs : List Queue) (n : ℕ) (x : Session) (q : Queue) (t : Told) (ts : List Told) (j : Job) (g : Here book k qs n x q t ts j) (f : Fetch) (p : Piece) (r : ReadCall) (c : Chunk) : Type 0 where
  pub at : j.stage ≡ stage.Reading f
  pub reply_is : t.reply ≡ Bytes (Done p)
  pub under : read_at f.under t.xid ≡ Some r
  pub chunk : slice_get f.chunks r.index ≡ Some c
  -- bytes of the chunk's length are noted
  pub noted : length p.bytes ≡ c.len → Contains (hashed_of book.moments) p.bytes
  pub looked : Finds book k qs n x q t ts j g

pub comes_read : (book : Book) (k : Core) (qs : List Queue) (n : ℕ) (x : Session) (q : Queue) (t : Told) (ts : List Told) (j : Job) (g : Here book k qs n x q t ts j) (f : Fetch) (p : Piece) (r : ReadCall) (d : Chunk) → Reads_ book k qs n x q t ts j g f p r d
    → Comes book k qs n x q t ts j g (told_piece (idle (client_at book k qs n x q t ts j g)) (client.calls_of (client_at book k qs n x q t ts j g)) j.file t.xid f p (read_at f.under t.xid))
comes_read book k qs n x q t ts j g f p r d is =
    subst (λ o. Comes book k qs n x q t ts j g (told_piece (idle c) (client.calls_of c) j.file t.xid f p o)) (sym is.under)
    (subst (λ o. Comes book k qs n x q t ts j g (told_chunk (idle c) (client.calls_of c) j.file t.xid f r p o)) (sym is.chunk)
    (by (fault_in d p.bytes (length p.bytes == d.len)) refl))
  where
    h : IsSession book k.seats k.server n x q
    h = session_at book k qs n x q t ts j g

    c : client.State
    c = h.seat.client

    fetch : (fact : IsFetch book x.taken j f) × IsReading book fact.file.content f
    fetch = subst (FetchOf book x.taken j) is.at ((h.talk g.uncut).fetch j g.job_is)

    quiet : Quiet k n q
    quiet = quiet_before book k qs n x q t ts j g (λ y s. apart y (sym is.at ∙ s)) (subst IsOfFile (sym is.at) tt)
      where
        apart : (y : ℕ) → stage.Reading f ≡ stage.Committing y → ⊥
        apart y e = absurd cc

    word : stage_word j.stage ≡ words.Open
    word = ap stage_word is.at

    told : IsRead book x.taken j f.first d p
    told = subst (AnswerOf book x.taken x.closing (Some j) t.xid) is.reply_is (said book k qs n x q t ts j g) j f d refl is.at (ap (λ s. read_chunk s t.xid) is.at ∙ ap (chunk_for f.chunks) is.under ∙ is.chunk)

    found : (m : ℕ) × (slice_get f.under m ≡ Some r) × (r.xid ≡ t.xid)
    found = read_found f.under t.xid r is.under

    calls : client.calls_of c ≡ map read_pending f.under ++ c.forgotten
    calls = calls_are h.seat j g.job_is ∙ ap (λ s. client.pending_in s ++ c.forgotten) is.at

    once : (y : ℕ) → times y (map (λ (z : Pending). z.xid) (map read_pending f.under)) ≤ 1
    once y =
        let o = (h.talk g.uncut).balanced.once y in
        let a = ap (λ l. times y (map (λ (z : Pending). z.xid) l)) calls ∙ times_map_append (λ (z : Pending). z.xid) y (map read_pending f.under) c.forgotten in
        omega (arith, o, a)

    before : (y : ℕ) (u : ReadCall) → read_at f.under y ≡ Some u → y < c.next_xid
    before y u e =
        let z = read_found f.under y u e in
        let there = subst (λ v. 0 < times v (map (λ (w : Pending). w.xid) (map read_pending f.under))) z.2 (there_by (λ (w : Pending). w.xid) (map read_pending f.under) z.0 (read_pending u) (mapped_at f.under z.0 u z.1)) in
        let a = ap (λ l. times y (map (λ (w : Pending). w.xid) l)) calls ∙ times_map_append (λ (w : Pending). w.xid) y (map read_pending f.under) c.forgotten in
        under_next (nat_le c.next_xid y) refl (λ le. let b = (h.talk g.uncut).balanced.below y le in omega (arith, b, a, there))
      where
        under_next : (b : Bool) → nat_le c.next_xid y ≡ b → (c.next_xid ≤ y → ⊥) → y < c.next_xid
        under_next true e late = absurd (late (grind (arith, nat_tests, e)))
        under_next false e late = grind (arith, nat_tests, e)

    after : Fetch
    after = with_bytes f r p.bytes

    gone : r.xid ≡ t.xid
    gone = found.2

    fetched : IsFetch book x.taken j after
    fetched = let u = fetch.0 in record { file = u.file; held = u.held; version = u.version; value = u.value; told = u.told; value_is = u.value_is; tried = u.tried; size = u.size; short = u.short; known = u.known; count = u.count; within = u.within; chunks = u.chunks; hashed = u.hashed }

    named : (d.digest ≡ sha1 (chunk_bytes fetch.0.file.content d)) × (length (chunk_bytes fetch.0.file.content d) ≡ d.len) × (d.start + d.len ≤ length fetch.0.file.content)
    named = chunks_are_named fetch.0.file.content r.index d (ap (λ l. slice_get l r.index) (sym fetch.1.whole) ∙ is.chunk)

    may_read : Fits d p.bytes → MayRead book k qs n x q t ts j g after fetched
    may_read fits = record {
      quiet = quiet;
      word = word;
      reading = record {
        whole = fetch.1.whole;
        slots = set_count f.slots r.index (Some p.bytes) ∙ fetch.1.slots;
        came = λ i b e at chunk. elim (of_replaced f.slots r.index (Some p.bytes) i (Some b) at) [
          | inl here ↦
              let same : e ≡ d = some_is e d (sym chunk ∙ ap (slice_get f.chunks) here.0 ∙ is.chunk) in
              let bytes : b ≡ p.bytes = some_is b p.bytes here.1 in
              (subst (λ v. Or book (v ≡ chunk_bytes fetch.0.file.content e)) (sym bytes) (subst (λ (z : Chunk). Or book (p.bytes ≡ chunk_bytes fetch.0.file.content z)) (sym same) (bytes_or book p.bytes (chunk_bytes fetch.0.file.content d) (is.noted fits.len) (fetch.0.hashed r.index d is.chunk) (fits.digest ∙ named.0))), ap length bytes ∙ fits.len ∙ ap (λ (z : Chunk). z.len) (sym same))
          | inr there ↦ fetch.1.came i b e there.1 chunk
        ];
        asked = fetch.1.asked;
        inside = λ m u at. let w = read_was f.under r.xid m u at in fetch.1.inside w.0 u w.1;
        filled = λ i lt. elim (same_or_not i r.index) [
          | inl same ↦ inl (p.bytes, filled_here i same)
          | inr apart ↦ elim (fetch.1.filled i lt) [
            | inl here ↦ inl (here.0, filled_there i here.0 apart here.1)
            | inr under ↦ let z = read_kept f.under r.xid under.0 under.1 under.2 (λ e. apart (sym under.3 ∙ ap (λ (w : ReadCall). w.index) (only_one f.under t.xid under.0 under.1 r (once t.xid) is.under under.2 (e ∙ gone)))) in inr (z.0, under.1, z.1, under.3)
          ]
        ];
      };
      looked = is.looked after (
          ap (λ s. reading_by s t.xid (reply_body t.reply)) is.at
          ∙ ap (λ u. reading_by (stage.Reading f) t.xid (reply_body u)) is.reply_is
          ∙ ap (taken_by f p) is.under
          ∙ ap (taken_at f r p) is.chunk
          ∙ ap (taken_if f r p) (faultless d p.bytes fits.len fits.digest));
      moves = λ m y.
          let a = ap (λ l. times y (map m l)) (without_same f.under r.xid ∙ ap (without_call (map read_pending f.under)) gone) in
          let pend : read_pending r ≡ told_pending t = ap (λ v. record { xid = v; program = reply_program (Bytes (Done p)) }) gone ∙ ap (λ u. record { xid = t.xid; program = reply_program u }) (sym is.reply_is) in
          let b = without_moves m y (map read_pending f.under) found.0 (told_pending t) (mapped_at f.under found.0 r found.1 ∙ ap (λ z. Some z) pend) (once t.xid) in
          let e = ap (λ s. times y (map m (client.pending_in s))) is.at in
          omega (arith, a, b, e);
      below = λ y u e. let a = apart_from y u e in before y u (sym (read_still f.under r.xid y a) ∙ e);
      again = λ y u v e chunk. let a = apart_from y u e in (f, is.at, ap (λ s. read_chunk s y) is.at ∙ ap (chunk_for f.chunks) (sym (read_still f.under r.xid y a) ∙ e) ∙ chunk, refl);
      xids = xids_at book k qs n x q t ts j g (stage.Reading f) is.at;
    }
      where
        filled_here : (i : ℕ) → i ≡ r.index → slice_get (slice_set f.slots r.index (Some p.bytes)) i ≡ Some (Some p.bytes)
        filled_here i same = ap (slice_get (slice_set f.slots r.index (Some p.bytes))) same ∙ (let lt = within f.chunks r.index d is.chunk in let e = fetch.1.slots in at_there f.slots r.index (Some p.bytes) (omega (arith, lt, e)))
          where
            at_there : (l : List (Option (List ℕ))) (i : ℕ) (v : Option (List ℕ)) → i < length l → slice_get (slice_set l i v) i ≡ Some v
            at_there [] i v lt = absurd (omega (arith, lt))
            at_there (z ∷ l) zero v lt = refl
            at_there (z ∷ l) (suc i) v lt = at_there l i v (omega (arith, lt))

        filled_there : (i : ℕ) (b : List ℕ) → (i ≡ r.index → ⊥) → slice_get f.slots i ≡ Some (Some b) → slice_get (slice_set f.slots r.index (Some p.bytes)) i ≡ Some (Some b)
        filled_there i b apart at = elim (else_replaced f.slots r.index (Some p.bytes) i (Some b) at) [ inl e ↦ absurd (apart e) | inr z ↦ z.1 ]

        apart_from : (y : ℕ) (u : ReadCall) → read_at (without_read f.under r.xid) y ≡ Some u → y ≡ r.xid → ⊥
        apart_from y u e same = let z = read_found (without_read f.under r.xid) y u e in let w = read_was f.under r.xid z.0 u z.1 in w.2 (z.2 ∙ same)

    -- another version is shown, since else the bytes would be the chunk's
    unfit : (b : BadPeer) → fault_in d p.bytes (length p.bytes == d.len) ≡ Some b → told.file.version ≡ f.version → ⊥
    unfit b e same =
        let one = g.kept.sound.alike j.file told.file fetch.0.file told.held fetch.0.held (same ∙ sym fetch.0.version) in
        let most = (link_at fetch.0.file.content 0 (chunks_of fetch.0.file.content) r.index d (row_of fetch.0.file.content) (ap (λ l. slice_get l r.index) (sym fetch.1.whole) ∙ is.chunk)).1.most in
        let bytes : p.bytes ≡ chunk_bytes fetch.0.file.content d = ap (λ (z : Piece). z.bytes) told.is ∙ ap (λ v. piece_bytes v (range_of d)) one ∙ read_gives fetch.0.file.content d [] most in
        nothing_there b (sym (faultless d p.bytes (ap length bytes ∙ named.1) (ap sha1 bytes ∙ sym named.0)) ∙ e)

    shows : other_version f.version p.attr ≡ cond (told.file.version == f.version) None (Some told.file.version)
    shows = ap (λ (z : Piece). other_version f.version z.attr) told.is ∙ ap (λ v. cond (v == f.version) None (Some v)) (version_shown told.file)

    by : (o : Option BadPeer) → fault_in d p.bytes (length p.bytes == d.len) ≡ o → Comes book k qs n x q t ts j g (told_bytes (idle c) (client.calls_of c) j.file t.xid f r p o)
    by None e = comes_reading book k qs n x q t ts j g after (length p.bytes) fetched (may_read (fits_of d p.bytes e))
    by (Some b) e =
        let began = some_is told.began fetch.0.told.moment (sym told.was ∙ fetch.0.told.was) in
        let order = told.order in
        let few = fetch_few book x.taken j f fetch.0 in
        let asked = fetch.1.asked in
        let left = xids_at book k qs n x q t ts j g (stage.Reading f) is.at in
        let z = left.2 in
        let done = comes_changed book k qs n x q t ts j g f told.last told.file.version (length p.bytes) fetch.0 word quiet (omega (arith, began, order)) told.past told.version_is (unfit b e) (left.0, left.1, omega (arith, few, asked, z)) in
        subst (λ o. Comes book k qs n x q t ts j g (misfits (idle c) (client.calls_of c) j.file t.xid f b (length p.bytes) o)) (sym (shows ∙ ap (λ z. cond z None (Some told.file.version)) (ne_eqb told.file.version f.version (unfit b e)))) done

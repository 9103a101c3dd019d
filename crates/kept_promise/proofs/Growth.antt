-- How a history grows in a step, and what stays true of operations then.
use Rattle.std.proofs.Common.{IsSome, ◌⊎◌, inl, inr, ◌≡◌, ℕ, zero, suc, ◌+◌, ◌<◌, ◌≤◌, List, length, Option, Some, Bool, true, false, refl, sym, ap, ◌∙◌, subst, arith}
use Rattle.std.proofs.lemmas.Slice.Eq.{bytes_eq-Decides}
use Rattle.register_model.specs.declared.op.Outcome.{Outcome}
use Rattle.hash_calls.specs.declared.message.Lb.TheVariants as lb
use Rattle.wire.specs.declared.message.Body.TheVariants as body
use Rattle.register_model.specs.declared.op.Outcome.TheVariants as told
use Rattle.register_model.specs.declared.op.Word.TheVariants as words
use Rattle.register_model.specs.declared.raw.Raw.{Raw}
use Rattle.register_model.specs.Raw.{op_of}
use Rattle.trace_replay.specs.Book.{first_version}
use Rattle.register_model.specs.Register.{changes, IsFit}
use Rattle.trace_replay.specs.OwnCalls.{WaitsFor, TakesCall}
use Rattle.kept_promise.proofs.Common.{handle_bytes, step_of, Body, slice_get, bytes_eq, Contains, sha1, Entry, File, Value, content_of, Op, Opening, Word, Moment, hashed_of, Book, Or, Collides, history, value_at, version_at, Tried}
use Rattle.kept_promise.proofs.Lists.{false_and_true}
use Rattle.kept_promise.proofs.Marks.{Mark, marks, latest_mark, left_by, value_is, count_is}
use Rattle.kept_promise.proofs.Rights.{IsEnteredIf, WasThere, gets_file, Caused, WasWalk, RefusedBy, DoneBy, IsRight, IsUnmade, IsMade, IsHeld, IsFitted, IsStranger}

-- what becomes of an operation; at most one is made, and at most one goes on, or ends, by a step of its client
pub record Follows (book : Book) (made ended : Option ℕ) (k : ℕ) (o r : Op) : Type 0 where
  pub client : r.client ≡ o.client
  pub word : r.word ≡ o.word
  -- a step of its client may find its file, by its path
  pub file : (ended ≡ Some k → ⊥) → gets_file o.word ≡ false → r.file ≡ o.file
  pub close_file : o.word ≡ words.Close → r.file ≡ o.file
  -- one that changes a file may get it where the change is made
  pub own_file : changes o.word ≡ true → (made ≡ Some k → ⊥) → r.file ≡ o.file
  pub begin : r.begin ≡ o.begin
  -- a change that was made stays
  pub point : changes o.word ≡ true → (p : ℕ) → o.point ≡ Some p → (r.point ≡ Some p) × (r.file ≡ o.file)
  pub value : changes o.word ≡ true → r.value ≡ o.value
  pub unmade : (made ≡ Some k → ⊥) → IsUnmade o → IsUnmade r
  -- it ends now, if it does
  pub end : (e : ℕ) → r.end ≡ Some e → (o.end ≡ Some e) ⊎ (book.steps < e)
  pub running : (ended ≡ Some k → ⊥) → o.outcome ≡ told.Running → r.outcome ≡ told.Running

pub follows_same : (book : Book) (made ended : Option ℕ) (k : ℕ) (o : Op) → Follows book made ended k o o
follows_same book made ended k o = record { client = refl; word = refl; file = λ n w. refl; close_file = λ w. refl; own_file = λ w n. refl; begin = refl; point = λ w p e. (e, refl); value = λ w. refl; unmade = λ n u. u; end = λ e q. inl q; running = λ n e. e }

-- each operation is still there, and what files are at moments up to now is as it was
pub record Grows (book more : Book) (made ended : Option ℕ) : Type 0 where
  pub lbfs : more.lbfs ≡ book.lbfs
  pub opening : more.opening ≡ book.opening
  pub happened : (m : Moment) → Contains book.moments m → Contains more.moments m
  pub hashed : (b : List ℕ) → Contains (hashed_of book.moments) b → Contains (hashed_of more.moments) b
  pub passes : book.steps ≤ more.steps
  pub steps_kept : (j p : ℕ) → slice_get book.entries j ≡ Some p → slice_get more.entries j ≡ Some p
  pub entries_new : (j p : ℕ) → slice_get more.entries j ≡ Some p → (slice_get book.entries j ≡ Some p) ⊎ (book.steps < p)
  pub journal_kept : (j : ℕ) (e : Entry) → slice_get book.journal j ≡ Some e → slice_get more.journal j ≡ Some e
  pub values : (f p : ℕ) → p ≤ book.steps + 1 → marks f p (history more).ops ≡ marks f p (history book).ops
  -- each change of others is still there
  pub raws_kept : (j : ℕ) (r : Raw) → slice_get book.raws j ≡ Some r → slice_get more.raws j ≡ Some r
  pub each : (k : ℕ) (o : Op) → slice_get book.ops k ≡ Some o → (r : Op) × (slice_get more.ops k ≡ Some r) × Follows book made ended k o r

-- ---- values and versions

abbrev pub seen_in : List Opening → (file : ℕ) → List Mark → Value
seen_in opening f ms = left_by (content_of opening f) (latest_mark ms)

pub value_seen : (book : Book) (f p : ℕ) → value_at book f p ≡ seen_in book.opening f (marks f p (history book).ops)
value_seen book f p = value_is (history book) f p

pub version_seen : (book : Book) (f p : ℕ) → version_at book f p ≡ length (marks f p (history book).ops) + first_version (content_of book.opening f)
version_seen book f p = ap (λ n. n + first_version (content_of book.opening f)) (sym (count_is f p (history book).ops))

-- the same marks at two moments, of two books
pub value_alike : (book more : Book) (f p q : ℕ) → more.opening ≡ book.opening → marks f p (history more).ops ≡ marks f q (history book).ops → value_at more f p ≡ value_at book f q
value_alike book more f p q o e = value_seen more f p ∙ ap (λ l. seen_in l f (marks f p (history more).ops)) o ∙ ap (seen_in book.opening f) e ∙ sym (value_seen book f q)

pub version_alike : (book more : Book) (f p q : ℕ) → more.opening ≡ book.opening → marks f p (history more).ops ≡ marks f q (history book).ops → version_at more f p ≡ version_at book f q
version_alike book more f p q o e = version_seen more f p ∙ ap (λ (l : List Opening). length (marks f p (history more).ops) + first_version (content_of l f)) o ∙ ap (λ ms. length ms + first_version (content_of book.opening f)) e ∙ sym (version_seen book f q)

pub value_later : (book more : Book) (made ended : Option ℕ) (f p : ℕ) → Grows book more made ended → p ≤ book.steps + 1 → value_at more f p ≡ value_at book f p
value_later book more made ended f p g le = value_alike book more f p p g.opening (g.values f p le)

pub version_later : (book more : Book) (made ended : Option ℕ) (f p : ℕ) → Grows book more made ended → p ≤ book.steps + 1 → version_at more f p ≡ version_at book f p
version_later book more made ended f p g le = version_alike book more f p p g.opening (g.values f p le)

pub there_later : (book more : Book) (made ended : Option ℕ) (f : ℕ) → Grows book more made ended → WasThere book f → WasThere more f
there_later book more made ended f g h = let le = h.past in let n = g.passes in record { positive = h.positive; small = h.small; moment = h.moment; past = omega (arith, le, n); value = h.value; value_is = value_later book more made ended f h.moment g h.past ∙ h.value_is }

-- ---- what rests on digests

pub collides_later : (book more : Book) (made ended : Option ℕ) → Grows book more made ended → Collides (hashed_of book.moments) → Collides (hashed_of more.moments)
collides_later book more made ended g c = record { a = c.a; b = c.b; first = g.hashed c.a c.first; second = g.hashed c.b c.second; same = c.same; apart = c.apart }

pub or_later : (book more : Book) (made ended : Option ℕ) (P Q : Type 0) → Grows book more made ended → (P → Q) → Or book P → Or more Q
or_later book more made ended P Q g f (inl p) = inl (f p)
or_later book more made ended P Q g f (inr c) = inr (collides_later book more made ended g c)

pub or_map : (book : Book) (P Q : Type 0) → (P → Q) → Or book P → Or book Q
or_map book P Q f (inl p) = inl (f p)
or_map book P Q f (inr c) = inr c

pub or_both : (book : Book) (P Q R : Type 0) → (P → Q → R) → Or book P → Or book Q → Or book R
or_both book P Q R f (inl p) (inl q) = inl (f p q)
or_both book P Q R f (inl p) (inr c) = inr c
or_both book P Q R f (inr c) q = inr c

-- two that were hashed and share a digest are the same, or collide
pub bytes_or : (book : Book) (a b : List ℕ) → Contains (hashed_of book.moments) a → Contains (hashed_of book.moments) b → sha1 a ≡ sha1 b → Or book (a ≡ b)
bytes_or book a b first second same = by (bytes_eq a b) refl
  where
    by : (t : Bool) → bytes_eq a b ≡ t → Or book (a ≡ b)
    by true e = inl ((bytes_eq-Decides a b).0 e)
    by false e = inr (record { a = a; b = b; first = first; second = second; same = same; apart = λ s. false_and_true (bytes_eq a b) e ((bytes_eq-Decides a b).1 s) })

-- what the server had
pub held_later : (book more : Book) (made ended : Option ℕ) (f : ℕ) (d : File) → Grows book more made ended → IsHeld book.moments f d → IsHeld more.moments f d
held_later book more made ended f d g h = record { at = h.at; there = g.happened h.at h.there; held = h.held }

-- ---- an operation

pub entered_later : (book more : Book) (made ended : Option ℕ) (f p v len : ℕ) (digest : List ℕ) → Grows book more made ended → IsEnteredIf book f p v len digest → IsEnteredIf more f p v len digest
entered_later book more made ended f p v len digest g h = record { place = h.place; entry = h.entry; step_is = g.steps_kept h.place p h.step_is; entry_is = g.journal_kept h.place h.entry h.entry_is; file_is = h.file_is; version_is = h.version_is; len_is = h.len_is; digest_is = or_later book more made ended _ _ g (λ e. e) h.digest_is }

-- attempts stay so where versions do
pub tried_moves : (book more : Book) (f b n p limit : ℕ) → ((q : ℕ) → q ≤ limit → version_at more f q ≡ version_at book f q) → p ≤ limit → Tried book f b n p → Tried more f b n p
tried_moves book more f b zero p limit same le h = h
tried_moves book more f b (suc n) p limit same le h =
    let lt = h.3 in
    let at = h.4 in
    (h.0, h.1, tried_moves book more f b n h.0 limit same (omega (arith, lt, at, le)) h.2, h.3, h.4, λ e. h.5 (sym (same h.0 (omega (arith, lt, at, le))) ∙ e ∙ same h.1 (omega (arith, at, le))))

pub tried_later : (book more : Book) (made ended : Option ℕ) (f b n p : ℕ) → Grows book more made ended → p ≤ book.steps + 1 → Tried book f b n p → Tried more f b n p
tried_later book more made ended f b n p g le h = tried_moves book more f b n p (book.steps + 1) (λ q at. version_later book more made ended f q g at) le h

pub tried_wider : (book : Book) (f b n p q : ℕ) → p ≤ q → Tried book f b n p → Tried book f b n q
tried_wider book f b zero p q le h = omega (arith, le, h)
tried_wider book f b (suc n) p q le h = let at = h.4 in (h.0, h.1, h.2, h.3, omega (arith, at, le), h.5)

pub takes_later : (book more : Book) (made ended : Option ℕ) (c d step xid : ℕ) (call : Body) → Grows book more made ended → d ≡ c → TakesCall book c step xid call → TakesCall more d step xid call
takes_later book more made ended c d step xid call g same h = record { moment = h.moment; there = g.happened h.moment h.there; step_is = h.step_is; session = h.session; now = h.now; bytes = h.bytes; event_is = h.event_is; parsed = h.parsed; waits = subst (λ (z : ℕ). WaitsFor h.moment z h.session xid) (sym same) h.waits }

was_walk_later : (book more : Book) (made ended : Option ℕ) (o : Op) → Grows book more made ended → WasWalk book o → WasWalk more o
was_walk_later book more made ended o g h = record { at = h.at; noted = g.happened h.at h.noted; seat = h.seat; seat_is = h.seat_is; place = h.place; place_is = h.place_is; task = h.task; task_is = h.task_is; xid = h.xid; walk = h.walk; stage_is = h.stage_is; then_op = h.then_op; then_is = h.then_is; then_began = h.then_began }

refused_later : (book more : Book) (made ended : Option ℕ) (o : Op) (w : Word) (s : ℕ) → Grows book more made ended → ((p : ℕ) → o.point ≡ Some p → p ≤ book.steps) → RefusedBy book o w s → RefusedBy more o w s
refused_later book more made ended o words.Open s g past (inl (inl h)) = inl (inl (h.0, record { moment = h.1.moment; there = g.happened h.1.moment h.1.there; inside = h.1.inside; node = h.1.node; node_is = h.1.node_is }))
refused_later book more made ended o words.Open s g past (inl (inr h)) = inl (inr (h.0, (h.1.0, h.1.1, value_later book more made ended o.file h.1.0 g (let le = past h.1.0 h.1.1.0 in omega (arith, le)) ∙ h.1.2)))
refused_later book more made ended o words.Open s g past (inr h) = inr (h.0, h.1, was_walk_later book more made ended o g h.2)
refused_later book more made ended o words.Rewrite s g past (inl (inl h)) = inl (inl (h.0, record { moment = h.1.moment; there = g.happened h.1.moment h.1.there; inside = h.1.inside; node = h.1.node; node_is = h.1.node_is }))
refused_later book more made ended o words.Rewrite s g past (inl (inr h)) = let le = h.1.2 in let n = g.passes in inl (inr (h.0, (h.1.0, h.1.1, omega (arith, le, n), value_later book more made ended o.file h.1.0 g (omega (arith, le)) ∙ h.1.3)))
refused_later book more made ended o words.Rewrite s g past (inr h) = inr (h.0, was_walk_later book more made ended o g h.1)
refused_later book more made ended o words.Close s g past (inl h) = inl (record { status_is = h.status_is; pointless = h.pointless; end = h.end; end_is = h.end_is; moment = h.moment; there = g.happened h.moment h.there; session = h.session; now = h.now; bytes = h.bytes; event_is = h.event_is; xid = h.xid; call = h.call; parsed = h.parsed; size = h.size; after = h.after; before = h.before; waits = h.waits; full = h.full })
refused_later book more made ended o words.Close s g past (inr (h, before)) = let n = g.passes in inr (record { status_is = h.status_is; pointless = h.pointless; step = h.step; inside = h.inside; value_is = value_later book more made ended o.file h.step g (omega (arith, before)) ∙ h.value_is }, omega (arith, before, n))
refused_later book more made ended o _ s g past h = h

done_later : (book more : Book) (made ended : Option ℕ) (o : Op) (w : Word) → Grows book more made ended → DoneBy book o w → DoneBy more o w
done_later book more made ended o words.Rewrite g (inr h) = let le = h.past in let n = g.passes in inr (record {
  ends = record { moment = h.ends.moment; there = g.happened h.ends.moment h.ends.there; end_is = h.ends.end_is; quiet = h.ends.quiet; now = h.ends.now; acts = h.ends.acts; seat = h.ends.seat; seat_is = h.ends.seat_is; content = h.ends.content; fresh = h.ends.fresh };
  past = omega (arith, le, n);
  value_is = λ leased. subst (λ (v : Option (List ℕ)). IsSome v) (sym (value_later book more made ended o.file (step_of h.ends.moment) g (omega (arith, le)))) (h.value_is (λ m c now f seat kept there. leased m c now f seat kept (g.happened m there)));
  known = there_later book more made ended o.file g h.known;
})
done_later book more made ended o words.Rewrite g (inl h) = let le = h.past in let n = g.passes in inl (record {
  step = h.step;
  inside = h.inside;
  past = omega (arith, le, n);
  value = h.value;
  value_is = value_later book more made ended o.file h.step g (omega (arith, le)) ∙ h.value_is;
  xid = h.xid;
  taken = subst (λ (v : ℕ). TakesCall more o.client h.step h.xid (body.Lb (lb.GetLease (record { lbfs = v; handle = handle_bytes o.file })))) (sym g.lbfs) (takes_later book more made ended o.client o.client h.step h.xid (body.Lb (lb.GetLease (record { lbfs = book.lbfs; handle = handle_bytes o.file }))) g refl h.taken);
  known = there_later book more made ended o.file g h.known;
})
done_later book more made ended o _ g h = h

cause_later : (book more : Book) (made ended : Option ℕ) (o : Op) (u : Outcome) → Grows book more made ended → IsRight book o → Caused book o u → Caused more o u
cause_later book more made ended o (told.Opened len digest) g r h = (
  h.0,
  record {
    length_is = h.1.length_is;
    digest_is = h.1.digest_is;
    point = h.1.point;
    within = h.1.within;
    value_is = λ leased. or_later book more made ended _ _ g (λ e. value_later book more made ended o.file h.1.point g (let lt = (r.pointed h.1.point h.1.within.0).1 in omega (arith, lt)) ∙ e) (h.1.value_is (λ m c now f seat kept there. leased m c now f seat kept (g.happened m there)));
  },
  there_later book more made ended o.file g h.2,
)
cause_later book more made ended o (told.Refused s) g r h = refused_later book more made ended o o.word s g (λ p e. (r.pointed p e).1) h
cause_later book more made ended o (told.Changed v w) g r h =
    let c = h.1 in
    let past = (r.past c.end c.end_is).1 in
    let le = c.past in
    let lt = c.order in (
      h.0,
      record {
        end = c.end;
        end_is = c.end_is;
        first = c.first;
        last = c.last;
        before = tried_later book more made ended o.file o.begin 3 c.first g (omega (arith, past, le, lt)) c.before;
        order = c.order;
        past = c.past;
        first_is = version_later book more made ended o.file c.first g (omega (arith, past, le, lt)) ∙ c.first_is;
        last_is = version_later book more made ended o.file c.last g (omega (arith, past, le)) ∙ c.last_is;
        apart = c.apart;
      },
    )
cause_later book more made ended o (told.Closed v len digest) g r h = (h.0, record { length_is = h.1.length_is; digest_is = h.1.digest_is; point = h.1.point; within = h.1.within; entered = entered_later book more made ended o.file h.1.point v len digest g h.1.entered })
cause_later book more made ended o told.Lost g r h = (h.0, record { end = h.1.end; end_is = h.1.end_is; moment = h.1.moment; there = g.happened h.1.moment h.1.there; step_is = h.1.step_is; event_is = h.1.event_is })
cause_later book more made ended o told.Running g r h = h
cause_later book more made ended o (told.BadPeer n) g r h = h
cause_later book more made ended o told.PeerMemory g r h = h
cause_later book more made ended o told.Memory g r h = h
cause_later book more made ended o (told.Names names) g r h = h
cause_later book more made ended o (told.Seen file kind version len) g r h = h
cause_later book more made ended o told.Done g r h = done_later book more made ended o o.word g h
cause_later book more made ended o _ g r h = tt

pub right_later : (book more : Book) (made ended : Option ℕ) (o : Op) → Grows book more made ended → IsRight book o → IsRight more o
right_later book more made ended o g h = record {
  cause = cause_later book more made ended o o.outcome g h h.cause;
  begun = let b = h.begun in let n = g.passes in omega (arith, b, n);
  pointed = λ p e. let r = h.pointed p e in let b = r.1 in let n = g.passes in (r.0, omega (arith, b, n), r.2);
  past = λ e q. let r = h.past e q in let b = r.1 in let n = g.passes in (r.0, omega (arith, b, n));
  ends = h.ends;
  within = h.within;
  failed = h.failed;
}

-- one that keeps its word, and its file and its point if it is a change, is of a file that was what it must be
pub fitted_later : (book more : Book) (made ended : Option ℕ) (o r : Op) → Grows book more made ended → r.word ≡ o.word → (changes o.word ≡ true → (r.file ≡ o.file) × (r.point ≡ o.point)) → IsRight book o → IsFitted book o → IsFitted more r
fitted_later book more made ended o r g word same right h c p e =
    let change : changes o.word ≡ true = ap changes (sym word) ∙ c in
    let s = same change in
    let at : o.point ≡ Some p = sym s.1 ∙ e in
    let b = (right.pointed p at).1 in
    let was = h change p at in (
      subst (λ (f : ℕ). 1 < f) (sym s.0) was.0,
      subst (λ (w : Word). IsFit w (value_at more r.file p)) (sym word) (subst (λ (f : ℕ). IsFit o.word (value_at more f p)) (sym s.0) (subst (IsFit o.word) (sym (value_later book more made ended o.file p g (omega (arith, b)))) was.1)),
    )

-- a change of others stays as it is
pub stranger_later : (book more : Book) (made ended : Option ℕ) (r : Raw) → Grows book more made ended → IsStranger book r → IsStranger more r
stranger_later book more made ended r g h =
    let le = h.past in
    let n = g.passes in
    record {
      order = h.order;
      past = omega (arith, le, n);
      positive = h.positive;
      fit = subst (IsFit (op_of r).word) (sym (value_later book more made ended r.file r.point g (omega (arith, le)))) h.fit;
    }

pub made_later : (book more : Book) (made ended : Option ℕ) (place v : ℕ) → Grows book more made ended → IsMade book place v → IsMade more place v
made_later book more made ended place v g h =
    let r = g.each place h.0 h.2 in
    let le = h.5 in
    let n = g.passes in
    let q = h.7.1 in
    let same : r.0.value ≡ h.0.value = r.2.value (ap changes h.3) in (
      r.0,
      h.1,
      r.1,
      r.2.word ∙ h.3,
      (r.2.point (ap changes h.3) h.1 h.4).0,
      omega (arith, le, n),
      subst (λ (x : List ℕ). IsEnteredIf more r.0.file h.1 v (length x) (sha1 x)) (sym same) (subst (λ (f : ℕ). IsEnteredIf more f h.1 v (length h.0.value) (sha1 h.0.value)) (sym (r.2.close_file h.3)) (entered_later book more made ended h.0.file h.1 v (length h.0.value) (sha1 h.0.value) g h.6)),
      (h.7.0, omega (arith, q, n), ap (λ (f : ℕ). version_at more f h.7.0) (r.2.close_file h.3) ∙ version_later book more made ended h.0.file h.7.0 g h.7.1 ∙ h.7.2, ap (λ (f : ℕ). value_at more f h.7.0) (r.2.close_file h.3) ∙ value_later book more made ended h.0.file h.7.0 g h.7.1 ∙ h.7.3 ∙ ap (λ (x : List ℕ). Some x) (sym same)),
    )

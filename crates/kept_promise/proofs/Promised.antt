-- What the facts of a world make of its history: each open and each close is whole, and what the server holds is what the history says.
use Rattle.std.proofs.Common.{◌⊎◌, inl, inr, ◌≡◌, ℕ, zero, suc, ◌+◌, ◌<◌, ◌≤◌, List, [], ◌∷◌, length, Option, Some, None, Bool, true, false, refl, sym, ap, ◌∙◌, subst, arith, eq-eqb, eqb-true, IsSome, map}
use Rattle.std.proofs.lemmas.Option.{slice_get-get_or}
use Rattle.tree_calls.specs.declared.asked.Asked.{Asked}
use Rattle.tree_calls.specs.declared.asked.Asked.TheVariants as asked
use Rattle.server_core.specs.State as server
use Rattle.chunk_calls.specs.Files as the_files
use Rattle.server_core.specs.declared.change.Wanted.TheVariants as wanted
use Rattle.register_model.specs.Register as register
use Rattle.register_model.specs.Register.{Absent, IsLegal, IsApart, IsWithin, OpensWhole, FindsGone, ChangesOnce, ChangesNothing, is_opened, is_stale, IsFit}
use Rattle.register_model.specs.declared.op.Outcome.{Outcome}
use Rattle.register_model.specs.declared.op.Outcome.TheVariants as told
use Rattle.register_model.specs.declared.op.Word.TheVariants as words
use Rattle.trace_replay.specs.Book.{AreApart}
use Rattle.trace_replay.specs.Traces.{IsWanted, HasTarget, HoldsValues, HoldsFile, HoldsFiles, HoldsContents, HoldsValue}
use Rattle.kept_promise.proofs.Common.{nat_tests, ◌==◌, ◌&&◌, ◌||◌, nat_lt, All, slice_get, cond, FileChange, File, changes, is_closed, is_untold, Op, Word, Core, Session, numbered, World, hashed_of, stored_traffic, deals_of, Moment, Book, Or, history, value_at, version_at, Queue, Wanted, is_raw}
use Rattle.kept_promise.proofs.Lists.{some_is, nothing_there, within, of_more, of_map, true_and_false}
use Rattle.kept_promise.proofs.Keys.{own}
use Rattle.kept_promise.proofs.Rights.{AreLeased, DoneBy, Caused, RefusedBy, IsRight, IsSound, IsFitted, IsStranger}
use Rattle.kept_promise.proofs.Remains.{zero_never}
use Rattle.kept_promise.proofs.Growth.{or_map}
use Rattle.kept_promise.proofs.Facts.{FileIs, IsServer, IsKept, IsSession}
use Rattle.kept_promise.proofs.Turns.{also_numbered, raw_or_owned}
use Rattle.kept_promise.proofs.Messages.{job, WaitsFor, asked_word}
use Rattle.register_model.specs.Raw.{op_of, word_of}
use Rattle.register_model.specs.declared.raw.Raw.{Raw}
use Rattle.register_model.specs.declared.raw.RawKind.{RawKind}
use Rattle.register_model.specs.declared.raw.RawKind.TheVariants as raw

-- ---- an operation ended as it may

-- by no fault of its peer
pub no_fault : (book : Book) → IsSound book → (k n : ℕ) (o : Op) → slice_get book.ops k ≡ Some o → o.outcome ≡ told.BadPeer n → ⊥
no_fault book sound k n o at e = subst (Caused book o) e (sound.rights k o at).cause

-- ---- legality

either_true : (a b : Bool) → (a || b) ≡ true → (a ≡ true) ⊎ (b ≡ true)
either_true true b e = inl refl
either_true false b e = inr e

all_by_place : {A : Type 0} (P : A → Type 0) (xs : List A) → ((k : ℕ) (x : A) → slice_get xs k ≡ Some x → P x) → All P xs
all_by_place P xs h = λ k d lt. h k _ (slice_get-get_or xs k d lt)

apart_by_place : (book : Book) → IsSound book → (i k : ℕ) (a b : Op) → i < k → slice_get (history book).ops i ≡ Some a → slice_get (history book).ops k ≡ Some b → IsApart a b
apart_by_place book sound i k a b less at_a at_b = λ change p of_a of_b. elim (either_true (changes a.word) (changes b.word) change) [
  | inl first ↦ (let same = sound.journal.once i k p a b at_a at_b first of_a of_b in omega (arith, less, same))
  | inr second ↦ (let same = sound.journal.once k i p b a at_b at_a second of_b of_a in omega (arith, less, same))
]

-- what rests on digests stands where none collide
surely : (book : Book) (P : Type 0) → AreApart (hashed_of book.moments) → Or book P → P
surely book P apart (inl p) = p
surely book P apart (inr c) = absurd (c.apart (apart c.a c.b c.first c.second c.same))

opens_whole : (book : Book) (o : Op) → AreLeased book.moments → AreApart (hashed_of book.moments) → IsRight book o → OpensWhole (history book) o
opens_whole book o leased apart r = λ is_open opened. by o.outcome r.cause opened
  where
    by : (u : Outcome) → Caused book o u → is_opened u ≡ true → (p : ℕ) × (o.point ≡ Some p) × (value_at book o.file p ≡ Some o.value)
    by (told.Opened len digest) h e = (h.1.point, h.1.within.0, surely book (value_at book o.file h.1.point ≡ Some o.value) apart (h.1.value_is leased))
    by u h e = absurd cc

-- no file has the number 0
none_zero : (book : Book) (s : server.State) → IsSound book → IsServer book s → (p : ℕ) → value_at book 0 p ≡ Absent
none_zero book s sound held p = by (the_files.file_at s.tree 0) (held.held 0)
  where
    by : (g : Option File) → FileIs book 0 g → value_at book 0 p ≡ Absent
    by None h = zero_never book sound h p
    by (Some g) h = (let lt = h.1 in absurd (omega (arith, lt)))

finds_gone : (book : Book) (s : server.State) → IsSound book → IsServer book s → (k : ℕ) (o : Op) → slice_get book.ops k ≡ Some o → FindsGone (history book) o
finds_gone book s sound held k o at = λ is_open stale. by o.outcome (sound.rights k o at).cause stale is_open
  where
    gone : (status : ℕ) → RefusedBy book o words.Open status → (status == 70) ≡ true → (p : ℕ) × (o.point ≡ Some p) × (value_at book o.file p ≡ Absent)
    gone status (inl (inl h)) e = let is = h.0 in absurd (grind (arith, nat_tests, is, e))
    gone status (inl (inr h)) e = (h.1.0, h.1.1.0, h.1.2)
    gone status (inr h) e = let w = h.1 (eqb-true status 70 e) in (w.0, w.1.0, ap (λ f. value_at book f w.0) h.0 ∙ none_zero book s sound held w.0)

    by : (u : Outcome) → Caused book o u → is_stale u ≡ true → o.word ≡ words.Open → (p : ℕ) × (o.point ≡ Some p) × (value_at book o.file p ≡ Absent)
    by (told.Refused status) h e is_open = gone status (subst (λ (w : Word). RefusedBy book o w status) is_open h) e
    by u h e is_open = absurd cc

-- ---- what was done

closed_point : (book : Book) (o : Op) → IsRight book o → is_closed o.outcome ≡ true → IsSome o.point
closed_point book o r closed = by o.outcome r.cause closed
  where
    by : (u : Outcome) → Caused book o u → is_closed u ≡ true → IsSome o.point
    by (told.Closed version len digest) h e = subst (λ (t : Option ℕ). IsSome t) (sym h.1.within.0) refl
    by u h e = absurd cc

done_by : (book : Book) (o : Op) → IsRight book o → register.is_done o.outcome ≡ true → DoneBy book o o.word
done_by book o r done = by o.outcome r.cause done
  where
    by : (u : Outcome) → Caused book o u → register.is_done u ≡ true → DoneBy book o o.word
    by told.Done h e = h
    by u h e = absurd cc

both_first : (a b : Bool) → (a && b) ≡ true → a ≡ true
both_first true b e = refl
both_first false b e = absurd cc

both_second : (a b : Bool) → (a && b) ≡ true → b ≡ true
both_second true b e = e
both_second false b e = absurd cc

-- what succeeded as a change has its point
succeeds : (book : Book) (o : Op) → IsRight book o → register.succeeded o ≡ true → IsSome o.point
succeeds book o r so = by o.word refl so
  where
    by : (w : Word) → o.word ≡ w → register.success w o.file o.outcome ≡ true → IsSome o.point
    by words.Close w e = closed_point book o r e
    by words.Make w e = subst (λ (z : Word). DoneBy book o z) w (done_by book o r e)
    by words.Remove w e = subst (λ (z : Word). DoneBy book o z) w (done_by book o r e)
    by words.Rename w e = subst (λ (z : Word). DoneBy book o z) w (done_by book o r (both_first (register.is_done o.outcome) (nat_lt 0 o.file) e)) (both_second (register.is_done o.outcome) (nat_lt 0 o.file) e)
    by _ w e = absurd cc

changes_once : (book : Book) (o : Op) → IsRight book o → IsFitted book o → ChangesOnce (history book) o
changes_once book o r fit = (λ so. succeeds book o r so, λ change p point. (fit change p point).1)

changes_nothing : (book : Book) (o : Op) → IsRight book o → ChangesNothing o
changes_nothing book o r = λ change failed known. r.failed change failed known

-- a change by a session that is no client's is right by itself
stranger_word : (r : Raw) → (op_of r).word ≡ words.Open → ⊥
stranger_word r e = by r.kind e
  where
    by : (k : RawKind) → word_of k ≡ words.Open → ⊥
    by raw.Make e = absurd cc
    by raw.Commit e = absurd cc
    by raw.Remove e = absurd cc

stranger_success : (r : Raw) → register.succeeded (op_of r) ≡ true
stranger_success r = by r.kind refl
  where
    by : (k : RawKind) → r.kind ≡ k → register.succeeded (op_of r) ≡ true
    by raw.Make e = ap (λ (k : RawKind). register.succeeded (op_of (record r { kind = k }))) e
    by raw.Commit e = ap (λ (k : RawKind). register.succeeded (op_of (record r { kind = k }))) e
    by raw.Remove e = ap (λ (k : RawKind). register.succeeded (op_of (record r { kind = k }))) e

stranger_within : (book : Book) (r : Raw) → IsStranger book r → IsWithin (op_of r)
stranger_within book r h = λ p at. (
  (let order = h.order in let same = some_is r.point p at in omega (arith, order, same)),
  λ lost t end. (let same = some_is r.point p at in let last = some_is r.point t end in omega (arith, same, last)),
)

stranger_once : (book : Book) (r : Raw) → IsStranger book r → ChangesOnce (history book) (op_of r)
stranger_once book r h = (λ so. refl, λ change p at. subst (λ (z : ℕ). IsFit (op_of r).word (value_at book r.file z)) (some_is r.point p at) h.fit)

-- each operation of a history is a client's, or one of these
each_of : (book : Book) (P : Op → Type 0) → ((k : ℕ) (o : Op) → slice_get book.ops k ≡ Some o → P o) → ((k : ℕ) (r : Raw) → slice_get book.raws k ≡ Some r → P (op_of r)) → (i : ℕ) (o : Op) → slice_get (history book).ops i ≡ Some o → P o
each_of book P own other i o at = elim (of_more book.ops (map op_of book.raws) i o at) [
  | inl here ↦ own i o here
  | inr there ↦ (let r = of_map op_of book.raws there.0 o there.2 in subst P (sym r.2) (other there.0 r.0 r.1))
]

pub legal_kept : (book : Book) (k : Core) (qs : List Queue) → IsKept book k qs → AreLeased book.moments → AreApart (hashed_of book.moments) → IsLegal (history book)
legal_kept book k qs kept leased apart = record {
  apart = λ i m d less within. apart_by_place book kept.sound i m _ _ less (slice_get-get_or (history book).ops i d (omega (arith, less, within))) (slice_get-get_or (history book).ops m d within);
  within = all_by_place IsWithin (history book).ops (each_of book IsWithin (λ i o at. λ p e. let r = kept.sound.rights i o at in ((r.pointed p e).0, λ lost t end. r.within lost p t e end)) (λ i r at. stranger_within book r (kept.sound.strangers i r at)));
  opens = all_by_place (OpensWhole (history book)) (history book).ops (each_of book (OpensWhole (history book)) (λ i o at. opens_whole book o leased apart (kept.sound.rights i o at)) (λ i r at. λ open_. absurd (stranger_word r open_)));
  absences = all_by_place (FindsGone (history book)) (history book).ops (each_of book (FindsGone (history book)) (λ i o at. finds_gone book k.server kept.sound kept.server i o at) (λ i r at. λ open_. absurd (stranger_word r open_)));
  successes = all_by_place (ChangesOnce (history book)) (history book).ops (each_of book (ChangesOnce (history book)) (λ i o at. changes_once book o (kept.sound.rights i o at) (kept.sound.fits i o at)) (λ i r at. stranger_once book r (kept.sound.strangers i r at)));
  failures = all_by_place ChangesNothing (history book).ops (each_of book ChangesNothing (λ i o at. changes_nothing book o (kept.sound.rights i o at)) (λ i r at. λ change failed known. absurd (true_and_false (register.succeeded (op_of r)) (stranger_success r) failed)));
}

-- ---- what the server holds

pub holds_files : (book : Book) (w : World) (qs : List Queue) → book.steps ≡ w.core.steps → IsKept book w.core qs → HoldsFiles book w
holds_files book w qs now kept = λ file. by file (the_files.file_at w.core.server.tree file) ((kept.server).held file)
  where
    by : (file : ℕ) (g : Option File) → FileIs book file g → HoldsFile book w file g (value_at book file (w.core.steps + 1))
    by file None h = subst (HoldsFile book w file None) (sym (ap (λ n. value_at book file (n + 1)) (sym now) ∙ h)) tt
    by file (Some g) h =
        let v : value_at book file (w.core.steps + 1) ≡ Some h.3.value = ap (λ n. value_at book file (n + 1)) (sym now) ∙ h.3.is in
        let u : version_at book file (w.core.steps + 1) ≡ g.version = ap (λ n. version_at book file (n + 1)) (sym now) ∙ h.4 in
        subst (HoldsFile book w file (Some g)) (sym v) (sym h.3.size, or_map book _ _ (λ e. sym e) h.3.same, sym u)

-- and what clients keep
pub holds_contents : (book : Book) (w : World) (qs : List Queue) → IsKept book w.core qs → HoldsContents book w
holds_contents book w qs kept = λ c file seat content at is. ((kept.seats c seat at).kept file content is).0

-- a pending change is among those of its session
pub own_there : (cs : List FileChange) (i : ℕ) (c : FileChange) → slice_get cs i ≡ Some c → (j : ℕ) × (slice_get (own c.session cs) j ≡ Some c)
own_there [] i c e = nothing_there c e
own_there (d ∷ cs) zero c e =
    let same : d ≡ c = some_is d c e in
    (0, ap (λ b. slice_get (cond b (d ∷ own c.session cs) (own c.session cs)) 0) (eq-eqb d.session c.session (ap (λ (z : FileChange). z.session) same)) ∙ ap (λ (z : FileChange). Some z) same)
own_there (d ∷ cs) (suc i) c e = by (d.session == c.session) (own_there cs i c e)
  where
    by : (b : Bool) → (j : ℕ) × (slice_get (own c.session cs) j ≡ Some c) → (j : ℕ) × (slice_get (cond b (d ∷ own c.session cs) (own c.session cs)) j ≡ Some c)
    by true h = (suc h.0, h.1)
    by false h = h

untold_is : (u : Outcome) → is_untold u ≡ true → (u ≡ told.Running) ⊎ (u ≡ told.Lost)
untold_is told.Running e = inl refl
untold_is told.Lost e = inr refl
untold_is u e = absurd cc

-- the close that a session with a change that waits remembers had sent all
abbrev pub HaveStored : List Moment → Core → Type 0
HaveStored all k = (n p i : ℕ) (x : Session) (o : Op) (c : FileChange) → numbered k.sessions n ≡ Some x → x.closing ≡ Some p → slice_get k.ops p ≡ Some o → slice_get (own n k.server.waiting) i ≡ Some c → o.word ≡ words.Close → o.traffic ≡ stored_traffic o.value (deals_of o all)

pub two_own : (n : ℕ) (ws : List FileChange) (i j : ℕ) (c d : FileChange) → slice_get ws i ≡ Some c → slice_get ws j ≡ Some d → c.session ≡ n → d.session ≡ n → length (own n ws) ≤ 1 → i ≡ j
two_own n [] i j c d a b e f le = nothing_there c a
two_own n (w ∷ ws) zero zero c d a b e f le = refl
two_own n (w ∷ ws) zero (suc j) c d a b e f le =
    let here : (w.session == n) ≡ true = eq-eqb w.session n (ap (λ (z : FileChange). z.session) (some_is w c a) ∙ e) in
    let first = ap (λ t. length (cond t (w ∷ own n ws) (own n ws))) here in
    let there = own_there ws j d b in
    let w2 = within (own d.session ws) there.0 d there.1 in
    let same = ap (λ (z : ℕ). length (own z ws)) f in
    absurd (omega (arith, first, le, w2, same))
two_own n (w ∷ ws) (suc i) zero c d a b e f le =
    let here : (w.session == n) ≡ true = eq-eqb w.session n (ap (λ (z : FileChange). z.session) (some_is w d b) ∙ f) in
    let first = ap (λ t. length (cond t (w ∷ own n ws) (own n ws))) here in
    let there = own_there ws i c a in
    let w2 = within (own c.session ws) there.0 c there.1 in
    let same = ap (λ (z : ℕ). length (own z ws)) e in
    absurd (omega (arith, first, le, w2, same))
two_own n (w ∷ ws) (suc i) (suc j) c d a b e f le = ap suc (two_own n ws i j c d a b e f (less (w.session == n) le))
  where
    less : (t : Bool) → length (cond t (w ∷ own n ws) (own n ws)) ≤ 1 → length (own n ws) ≤ 1
    less true le = omega (arith, le)
    less false le = le

asked_is : (book : Book) (a : Asked) (o : Op) → o.word ≡ asked_word a → IsWanted book o (wanted.Asked a)
asked_is book (asked.Remove r) o e = e
asked_is book (asked.Rename r) o e = e

held_value : (book : Book) (w : World) (qs : List Queue) → (kept : IsKept book w.core qs) → HaveStored book.moments w.core → (i : ℕ) (c : FileChange) → (at : slice_get w.core.server.waiting i ≡ Some c) → is_raw (kept.home i c at).0 ≡ false → HoldsValue book w c
held_value book w qs kept stored i c at owned = by c.what refl (h.pending there.0 c there.1)
  where
    home : (x : Session) × (numbered w.core.sessions c.session ≡ Some x) × (x.hung ≡ false)
    home = kept.home i c at

    q : (q : Queue) × (numbered qs c.session ≡ Some q)
    q = also_numbered w.core.sessions qs c.session home.0 kept.made.1 home.1

    h : IsSession book w.core.seats w.core.server c.session home.0 q.0
    h = kept.sessions c.session home.0 q.0 home.1 q.1 owned

    there : (j : ℕ) × (slice_get (own c.session w.core.server.waiting) j ≡ Some c)
    there = own_there w.core.server.waiting i c at

    placed : (place : ℕ) (op : Op) → home.0.closing ≡ Some place → slice_get book.ops place ≡ Some op → (slice_get w.core.ops place ≡ Some op) × (home.0.owner ≡ op.client)
    placed place op known is =
        let old = h.old place known in
        (ap (λ (l : List Op). slice_get l place) (sym kept.ops) ∙ is, sym old.2 ∙ ap (λ (z : Op). z.client) (some_is old.0 op (sym old.1 ∙ is)))

    by : (what : Wanted) → c.what ≡ what → WaitsFor book c.session home.0.closing home.0.cut (job h.seat) c.xid c.file what → HoldsValue book w c
    by (wanted.Content content) e p =
        let o = placed p.place p.op p.known p.there in
        record {
          place = p.place;
          op = p.op;
          there = o.0;
          wanted_is = subst (IsWanted book p.op) (sym e) (p.word_is, p.size_is, p.value_is, stored c.session p.place there.0 home.0 p.op c home.1 p.known o.0 there.1 p.word_is);
          file_is = subst (λ (a : Wanted). HasTarget p.op a c.file) (sym e) p.file_is;
          untold = untold_is p.op.outcome p.unmade.2;
          pointless = p.unmade.1;
          session = home.0;
          session_is = home.1;
          stands = home.2;
          owner = o.1;
          closing = p.known;
        }
    by (wanted.Asked a) e p =
        let o = placed p.place p.op p.known p.there in
        record {
          place = p.place;
          op = p.op;
          there = o.0;
          wanted_is = subst (IsWanted book p.op) (sym e) (asked_is book a p.op p.word_is);
          file_is = subst (λ (a : Wanted). HasTarget p.op a c.file) (sym e) p.file_is;
          untold = untold_is p.op.outcome p.unmade.2;
          pointless = p.unmade.1;
          session = home.0;
          session_is = home.1;
          stands = home.2;
          owner = o.1;
          closing = p.known;
        }

-- of a session one change waits at most
pub one_waits : {book : Book} {k : Core} {qs : List Queue} → IsKept book k qs → (n : ℕ) (x : Session) → numbered k.sessions n ≡ Some x → length (own n k.server.waiting) ≤ 1
one_waits {k = k} {qs = qs} kept n x at =
    let q = also_numbered k.sessions qs n x kept.made.1 at in
    elim (raw_or_owned x) [
      | inl raw ↦ (kept.strangers n x q.0 at q.1 raw).single
      | inr owned ↦ (let le = (kept.sessions n x q.0 at q.1 owned).single in omega (arith, le))
    ]

pub holds_values : (book : Book) (w : World) (qs : List Queue) → IsKept book w.core qs → HaveStored book.moments w.core → HoldsValues book w
holds_values book w qs kept stored = record {
  values = λ i c at. (let home = kept.home i c at in elim (raw_or_owned home.0) [
    | inl raw ↦ inr (home.0, home.1, raw, home.2)
    | inr owned ↦ inl (held_value book w qs kept stored i c at owned)
  ]);
  single = λ i j c d a b same.
      let home = kept.home i c a in
      let le = one_waits kept c.session home.0 home.1 in
      two_own c.session w.core.server.waiting i j c d a b refl (sym same) (omega (arith, le));
}

-- An open that ended gave the content of a version that an answer to a GETHASH of its carried, as a run goes on.
use Rattle.std.proofs.Common.{◌⊎◌, inl, inr, ◌≡◌, ℕ, zero, suc, ◌+◌, ◌<◌, ◌≤◌, List, [], ◌∷◌, ◌++◌, length, Option, Some, None, Bool, true, false, refl, sym, ap, ◌∙◌, subst, arith, map, append-nil}
use Rattle.client_state.specs.State as client
use Rattle.client_state.specs.declared.task.Stage.TheVariants as stage
use Rattle.register_model.specs.declared.op.Outcome.TheVariants as told
use Rattle.register_model.specs.declared.op.Word.TheVariants as words
use Rattle.trace_replay.specs.Book.{first_version}
use Rattle.trace_ends.specs.Session.{taken_of as session_taken}
use Rattle.trace_replay.specs.Faithful.{Carries, TellsVersion}
use Rattle.kept_promise.proofs.Common.{◌==◌, ◌&&◌, nat_lt, slice_get, slice_set, filter, cond, Contains, option_map_or, ClientStep, Ended, Outcome, Stage, changes, changed_before, Op, Word, TakenCall, has_point, point_if, op_after, taken_at, Seat, Session, numbered, with_numbered, session_of, Said, is_of, content_of, Opening, Moment, step_of, Core, Event, Book, version_at, Entry, Tree, is_raw, happens}
use Rattle.kept_promise.proofs.Lists.{some_is, nothing_there, of_replaced, map_end}
use Rattle.kept_promise.proofs.Messages.{Job, job}
use Rattle.kept_promise.proofs.Counted.{SaidBy, said_by}
use Rattle.kept_promise.proofs.Shapes.{StageGood}
use Rattle.kept_promise.proofs.Rights.{AreLeased, EndsFresh}
use Rattle.kept_promise.proofs.Marks.{too_late}
use Rattle.kept_promise.proofs.Happens.{what_happens}
use Rattle.register_model.specs.declared.raw.Raw.{Raw}
use Rattle.register_model.specs.declared.raw.RawKind.{RawKind}
use Rattle.register_model.specs.Raw.{op_of}
use Rattle.server_rules.specs.declared.told.Told.{Told}
use Rattle.server_rules.specs.declared.told.Told.TheVariants as announced
use Rattle.trace_ends.specs.Core.{raw_of, raw_kind, raw_by, raw_in, raws_with, raws_on, raws_by}

-- ---- lists

pub of_numbered : {A : Type 0} (xs : List A) (n : ℕ) (x : A) (m : ℕ) (y : A) → numbered (with_numbered xs n x) m ≡ Some y → ((m ≡ n) × (y ≡ x)) ⊎ ((m ≡ n → ⊥) × (numbered xs m ≡ Some y))
of_numbered xs zero x (suc m) y e = inr ((λ q. omega (arith, q)), e)
of_numbered xs (suc n) x (suc m) y e = elim (of_replaced xs n x m y e) [ inl h ↦ inl (ap suc h.0, h.1) | inr h ↦ inr ((λ q. h.0 (omega (arith, q))), h.1) ]
of_numbered xs _ x zero y e = nothing_there y e

-- ---- versions

abbrev pub version_in : List Op → (file moment : ℕ) → ℕ
version_in ops f p = length (filter (changed_before f p) ops) + 1

-- what the history says, where each file would have had this version then without these
abbrev pub version_by : (base : ℕ → ℕ → ℕ) → List Op → (file moment : ℕ) → ℕ
version_by base ops f p = length (filter (changed_before f p) ops) + base f p

-- its version at first, and the changes by sessions that are no client's
abbrev pub early_of : List Opening → List Raw → (file moment : ℕ) → ℕ
early_of opening raws f p = length (filter (changed_before f p) (map op_of raws)) + first_version (content_of opening f)

pub by_counts : (base : ℕ → ℕ → ℕ) (a b : List Op) (f p : ℕ) → version_in a f p ≡ version_in b f p → version_by base a f p ≡ version_by base b f p
by_counts base a b f p e = ap (λ n. n + base f p) (same (length (filter (changed_before f p) a)) (length (filter (changed_before f p) b)) e)
  where
    same : (n m : ℕ) → n + 1 ≡ m + 1 → n ≡ m
    same n m e = omega (arith, e)

pub cons_count : (f p : ℕ) (o : Op) (os : List Op) → length (filter (changed_before f p) (o ∷ os)) ≡ cond (changed_before f p o) (suc (length (filter (changed_before f p) os))) (length (filter (changed_before f p) os))
cons_count f p o os = by (changed_before f p o)
  where
    by : (b : Bool) → length (cond b (o ∷ filter (changed_before f p) os) (filter (changed_before f p) os)) ≡ cond b (suc (length (filter (changed_before f p) os))) (length (filter (changed_before f p) os))
    by true = refl
    by false = refl

pub count_replaced : (f p : ℕ) (ops : List Op) (k : ℕ) (old new : Op) → slice_get ops k ≡ Some old → changed_before f p new ≡ changed_before f p old → length (filter (changed_before f p) (slice_set ops k new)) ≡ length (filter (changed_before f p) ops)
count_replaced f p [] k old new at same = refl
count_replaced f p (o ∷ os) zero old new at same =
    cons_count f p new os
    ∙ ap (λ b. cond b (suc (length (filter (changed_before f p) os))) (length (filter (changed_before f p) os))) (same ∙ ap (changed_before f p) (sym (some_is o old at)))
    ∙ sym (cons_count f p o os)
count_replaced f p (o ∷ os) (suc k) old new at same =
    cons_count f p o (slice_set os k new)
    ∙ ap (λ n. cond (changed_before f p o) (suc n) n) (count_replaced f p os k old new at same)
    ∙ sym (cons_count f p o os)

pub count_appended : (f p : ℕ) (ops : List Op) (o : Op) → changed_before f p o ≡ false → length (filter (changed_before f p) (ops ++ o ∷ [])) ≡ length (filter (changed_before f p) ops)
count_appended f p [] o e = cons_count f p o [] ∙ ap (λ b. cond b 1 0) e
count_appended f p (q ∷ ops) o e = cons_count f p q (ops ++ o ∷ []) ∙ ap (λ n. cond (changed_before f p q) (suc n) n) (count_appended f p ops o e) ∙ sym (cons_count f p q ops)

count_both : (f p : ℕ) (xs ys : List Op) → length (filter (changed_before f p) (xs ++ ys)) ≡ length (filter (changed_before f p) xs) + length (filter (changed_before f p) ys)
count_both f p [] ys = on (length (filter (changed_before f p) ys))
  where
    on : (c : ℕ) → c ≡ 0 + c
    on c = omega arith
count_both f p (o ∷ os) ys =
    let a : ℕ = length (filter (changed_before f p) os) in
    let c : ℕ = length (filter (changed_before f p) ys) in
    cons_count f p o (os ++ ys)
    ∙ ap (λ n. cond (changed_before f p o) (suc n) n) (count_both f p os ys)
    ∙ by (changed_before f p o) a c
    ∙ ap (λ n. n + c) (sym (cons_count f p o os))
  where
    by : (b : Bool) (a c : ℕ) → cond b (suc (a + c)) (a + c) ≡ cond b (suc a) a + c
    by true a c = omega arith
    by false a c = refl

-- so are those of clients and of others together
pub version_split : (book : Book) (f p : ℕ) → version_at book f p ≡ version_by (early_of book.opening book.raws) book.ops f p
version_split book f p = let e = count_both f p book.ops (map op_of book.raws) in omega (arith, e)

-- what changes nothing is no change
pub none_changed : (f p : ℕ) (o : Op) → changes o.word ≡ false → changed_before f p o ≡ false
none_changed f p o quiet = ap (λ b. (b && (o.file == f)) && option_map_or (λ q. nat_lt q p) o.point false) quiet

-- what an operation's end leaves of whether it is a change
pub after_alike : (f p : ℕ) (o : Op) (c : client.State) (taken : List TakenCall) (step : ℕ) (acts : ClientStep) → (acts.found ≡ None) ⊎ (changes o.word ≡ false) → changed_before f p (op_after o c taken step acts) ≡ changed_before f p o
after_alike f p o c taken step acts (inr quiet) = none_changed f p (op_after o c taken step acts) (by acts.ended) ∙ sym (none_changed f p o quiet)
  where
    by : (e : Option Ended) → changes (op_after o c taken step (record acts { ended = e })).word ≡ false
    by None = quiet
    by (Some e) = quiet
after_alike f p o c taken step acts (inl none) = ap (λ (z : Option ℕ). changed_before f p (op_after o c taken step (record acts { found = z }))) none ∙ by acts.ended
  where
    word : (w : Word) (u : Outcome) (x : ℕ) (t : Option ℕ) → ((changes w && (o.file == f)) && option_map_or (λ q. nat_lt q p) (point_if (has_point w u) taken x step t) false) ≡ ((changes w && (o.file == f)) && option_map_or (λ q. nat_lt q p) t false)
    word words.Open u x t = refl
    word _ u x t = refl

    by : (e : Option Ended) → changed_before f p (op_after o c taken step (record acts { found = None; ended = e })) ≡ changed_before f p o
    by None = refl
    by (Some e) = word o.word e.outcome e.rests_on o.point

-- ---- what is carried

-- an answer to a GETHASH, or to a GETLEASE, that this operation took after a moment carried this version
abbrev pub CameTo : List Said → Op → (moment version : ℕ) → Type 0
CameTo said o q v = (s : Said) × Contains said s × (is_of o s ≡ true) × (q < s.step) × Carries v s.message

-- and so did each that it took after that moment
abbrev pub Since : List Said → Op → (moment version : ℕ) → Type 0
Since said o q v = (s : Said) → Contains said s → is_of o s ≡ true → q < s.step → TellsVersion s.message → Carries v s.message

-- an attempt: the moment at which its first call was taken, the version that the file had then, and what was told of it since
abbrev pub Attempt : (base : ℕ → ℕ → ℕ) → List Said → List Op → List TakenCall → Op → (version first : ℕ) → Type 0
Attempt base said ops taken o v x = (q : ℕ) × (taken_at taken x ≡ Some q) × (version_by base ops o.file q ≡ v) × CameTo said o q v × Since said o q v

-- nothing was told yet since a first call was taken, if it was
abbrev pub Untold : List Said → List TakenCall → Op → (first : ℕ) → Type 0
Untold said taken o x = (q : ℕ) → taken_at taken x ≡ Some q → (s : Said) → Contains said s → is_of o s ≡ true → q < s.step → TellsVersion s.message → ⊥

-- the calls that were taken of a client's newest session
abbrev pub takens : List Session → Seat → List TakenCall
takens sessions seat = session_taken (session_of sessions seat.session)

abbrev pub JobVersion : (base : ℕ → ℕ → ℕ) → List Said → List Op → List TakenCall → Op → Stage → Type 0
JobVersion base said ops taken o s = StageGood (Attempt base said ops taken o) (Untold said taken o) s

-- an open got its content at once, which was kept in this version, if no note was stale
pub record IsNow (all : List Moment) (o : Op) (q version : ℕ) : Type 0 where
  pub ends : EndsFresh all o
  pub at : q ≡ step_of ends.moment
  pub version_is : AreLeased all → ends.content.version ≡ version

pub record HaveVersions (all : List Moment) (base : ℕ → ℕ → ℕ) (said : List Said) (sessions : List Session) (seats : List Seat) (ops : List Op) : Type 0 where
  -- the version of an attempt under way
  pub jobs : (i : ℕ) (seat : Seat) (j : Job) (o : Op) → numbered seats i ≡ Some seat → job seat ≡ Some j → slice_get ops j.place ≡ Some o → JobVersion base said ops (takens sessions seat) o j.stage
  -- and of an open that ended
  pub opened : (p len q : ℕ) (digest : List ℕ) (o : Op) → slice_get ops p ≡ Some o → o.outcome ≡ told.Opened len digest → o.point ≡ Some q → (CameTo said o q (version_by base ops o.file q) × Since said o q (version_by base ops o.file q)) ⊎ IsNow all o q (version_by base ops o.file q)

-- ---- what stays

-- an operation has the same part of what was said
pub record Alike (said more : List Said) (o r : Op) : Type 0 where
  pub file : r.file ≡ o.file
  pub forth : (s : Said) → Contains said s → is_of o s ≡ true → Contains more s × (is_of r s ≡ true)
  pub back : (s : Said) → Contains more s → is_of r s ≡ true → Contains said s × (is_of o s ≡ true)

pub alike_same : (said : List Said) (o : Op) → Alike said said o o
alike_same said o = record { file = refl; forth = λ s c e. (c, e); back = λ s c e. (c, e) }

-- what was taken is so still; what was not may be, after this step
abbrev pub Extends : (n : ℕ) → List TakenCall → List TakenCall → Type 0
Extends n taken more = ((y q : ℕ) → taken_at taken y ≡ Some q → taken_at more y ≡ Some q) × ((y q : ℕ) → taken_at more y ≡ Some q → (taken_at taken y ≡ Some q) ⊎ (n < q))

pub extends_same : (n : ℕ) (taken : List TakenCall) → Extends n taken taken
extends_same n taken = (λ y q e. e, λ y q e. inl e)

pub came_alike : (said more : List Said) (o r : Op) (q v : ℕ) → Alike said more o r → CameTo said o q v → CameTo more r q v
came_alike said more o r q v a (s, there, of, lt, c) = let f = a.forth s there of in (s, f.0, f.1, lt, c)

pub since_alike : (said more : List Said) (o r : Op) (q v : ℕ) → Alike said more o r → Since said o q v → Since more r q v
since_alike said more o r q v a h = λ s there of lt is. let b = a.back s there of in h s b.0 b.1 lt is

-- a moment at which something was told before is past
came_past : (n : ℕ) (said : List Said) (o : Op) (q v : ℕ) → SaidBy n said → CameTo said o q v → q ≤ n
came_past n said o q v past (s, there, of, lt, c) = let le = said_by n said s past there in omega (arith, lt, le)

pub job_alike : (base : ℕ → ℕ → ℕ) → (n : ℕ) (said more : List Said) (ops after : List Op) (taken later : List TakenCall) (o r : Op) (s : Stage) → SaidBy n said → Alike said more o r → Extends n taken later → ((f q : ℕ) → q ≤ n → version_in after f q ≡ version_in ops f q) → JobVersion base said ops taken o s → JobVersion base more after later r s
job_alike base n said more ops after taken later o r s past a e stays h = by s h
  where
    attempt : (v x : ℕ) → Attempt base said ops taken o v x → Attempt base more after later r v x
    attempt v x (q, was, version, came, since) = (q, e.0 x q was, ap (λ f. version_by base after f q) a.file ∙ by_counts base after ops o.file q (stays o.file q (came_past n said o q v past came)) ∙ version, came_alike said more o r q v a came, since_alike said more o r q v a since)

    untold : (x : ℕ) → Untold said taken o x → Untold more later r x
    untold x h = λ q was s there of lt is. let b = a.back s there of in elim (e.1 x q was) [
      | inl old ↦ h q old s b.0 b.1 lt is
      | inr new ↦ (let le = said_by n said s past b.0 in omega (arith, le, lt, new))
    ]

    by : (s : Stage) → JobVersion base said ops taken o s → JobVersion base more after later r s
    by (stage.Asking x) h = untold x h
    by (stage.Hashing tries x) h = untold x h
    by (stage.Listing x f) h = attempt f.version f.first h
    by (stage.Reading f) h = attempt f.version f.first h
    by _ h = tt

-- ---- more changes by others

-- what an event adds to them: nothing, or one, which is made in its step
abbrev pub Adds : Core → (steps : ℕ) → List Raw → Type 0
Adds k n rs = (rs ≡ k.raws) ⊎ ((r : Raw) × (rs ≡ k.raws ++ r ∷ []) × (r.point ≡ k.steps + 1) × (n ≡ k.steps + 1))

pub raws_more : (k : Core) (e : Event) → Adds k (happens k e).core.steps (happens k e).core.raws
raws_more k e = what_happens k e (λ t. Adds k t.core.steps t.core.raws) (record {
  nothing = inl refl;
  idle = inl refl;
  joins = λ c seat is. inl refl;
  refuses = λ c seat is. inl refl;
  does = λ c now d seat is. inl refl;
  takes = λ n now bytes x m is at unhung read. with_more (is_raw x) (k.steps + 1) _ _;
  closes = λ n now bytes x is at unhung. inl refl;
  hears = λ n now bytes owner seat is. inl refl;
  settles = λ now is. told_more _ _ _;
  cuts = λ c seat is. inl refl;
  hangs = λ n x is at unhung. inl refl;
  raw_joins = λ is. inl refl;
  raw_refuses = λ is. inl refl;
})
  where
    kind_more : (begin : ℕ) (t : Tree) (e : Entry) (o : Option RawKind) → Adds k (k.steps + 1) (k.raws ++ raw_by begin (k.steps + 1) t e o)
    kind_more begin t e None = inl (append-nil k.raws)
    kind_more begin t e (Some kind) = inr (raw_of begin (k.steps + 1) t e kind, refl, refl, refl)

    in_more : (begin : ℕ) (t : Tree) (e : Option Entry) → Adds k (k.steps + 1) (k.raws ++ raw_in begin (k.steps + 1) t e)
    in_more begin t None = inl (append-nil k.raws)
    in_more begin t (Some e) = kind_more begin t e (raw_kind e.kind)

    with_more : (raw : Bool) (begin : ℕ) (t : Tree) (e : Option Entry) → Adds k (k.steps + 1) (raws_with k.raws raw begin (k.steps + 1) t e)
    with_more true begin t e = in_more begin t e
    with_more false begin t e = inl refl

    on_more : (came : Option ℕ) (t : Tree) (e : Option Entry) (x : Option Session) → Adds k (k.steps + 1) (raws_on k.raws came (k.steps + 1) t e x)
    on_more (Some b) t e (Some x) = with_more (is_raw x) b t e
    on_more (Some b) t e None = inl refl
    on_more None t e x = inl refl

    told_more : (t : Tree) (e : Option Entry) (told : Told) → Adds k (k.steps + 1) (raws_by k t e told)
    told_more t e (announced.Settled session xid) = on_more (numbered k.came session) t e (numbered k.sessions session)
    told_more t e _ = inl refl

early_step : (opening : List Opening) (k : Core) (e : Event) (f q : ℕ) → q ≤ (happens k e).core.steps → early_of opening (happens k e).core.raws f q ≡ early_of opening k.raws f q
early_step opening k e f q le = elim (raws_more k e) [
  | inl same ↦ ap (λ (l : List Raw). early_of opening l f q) same
  | inr new ↦ ap (λ (l : List Raw). early_of opening l f q) new.1 ∙ one new.0 new.2 (let n = new.3 in omega (arith, le, n))
]
  where
    first : ℕ
    first = first_version (content_of opening f)

    one : (r : Raw) → r.point ≡ k.steps + 1 → q ≤ k.steps + 1 → early_of opening (k.raws ++ r ∷ []) f q ≡ early_of opening k.raws f q
    one r now le =
        ap (λ (l : List Op). length (filter (changed_before f q) l) + first) (map_end op_of k.raws r)
        ∙ ap (λ (n : ℕ). n + first) (count_appended f q (map op_of k.raws) (op_of r) (too_late f q (k.steps + 1) (op_of r) (ap (λ (n : ℕ). Some n) now) le))

-- how many changes by others there were before a moment
abbrev pub others_in : List Raw → (file moment : ℕ) → ℕ
others_in rs f p = length (filter (changed_before f p) (map op_of rs))

-- no step goes back
steps_on : (k : Core) (e : Event) → k.steps ≤ (happens k e).core.steps
steps_on k e = what_happens k e (λ t. k.steps ≤ t.core.steps) (record {
  nothing = same;
  idle = one;
  joins = λ c seat is. two;
  refuses = λ c seat is. two;
  does = λ c now d seat is. one;
  takes = λ n now bytes x m is at unhung read. one;
  closes = λ n now bytes x is at unhung. one;
  hears = λ n now bytes owner seat is. one;
  settles = λ now is. one;
  cuts = λ c seat is. one;
  hangs = λ n x is at unhung. one;
  raw_joins = λ is. one;
  raw_refuses = λ is. one;
})
  where
    same : k.steps ≤ k.steps
    same = omega arith

    one : k.steps ≤ k.steps + 1
    one = omega arith

    two : k.steps ≤ k.steps + 2
    two = omega arith

others_same : (k : Core) (e : Event) (f q : ℕ) → q ≤ k.steps → others_in (happens k e).core.raws f q ≡ others_in k.raws f q
others_same k e f q le = let on = steps_on k e in let s = early_step [] k e f q (omega (arith, on, le)) in omega (arith, s)

-- so it is with theirs behind the operations of clients
version_both : (f q : ℕ) (a b : List Op) (rs ss : List Raw) → version_in a f q ≡ version_in b f q → others_in rs f q ≡ others_in ss f q → version_in (a ++ map op_of rs) f q ≡ version_in (b ++ map op_of ss) f q
version_both f q a b rs ss own others = let x = count_both f q a (map op_of rs) in let y = count_both f q b (map op_of ss) in omega (arith, own, others, x, y)

pub versions_beside : (f q : ℕ) (a b : List Op) (rs : List Raw) → version_in a f q ≡ version_in b f q → version_in (a ++ map op_of rs) f q ≡ version_in (b ++ map op_of rs) f q
versions_beside f q a b rs own = version_both f q a b rs rs own refl

pub versions_whole : (k : Core) (e : Event) (ops : List Op) (f q : ℕ) → q ≤ k.steps → version_in ops f q ≡ version_in k.ops f q → version_in (ops ++ map op_of (happens k e).core.raws) f q ≡ version_in (k.ops ++ map op_of k.raws) f q
versions_whole k e ops f q le own = version_both f q ops k.ops (happens k e).core.raws k.raws own (others_same k e f q le)

-- at moments that are past no version is another then
versions_based : (all : List Moment) → (base next : ℕ → ℕ → ℕ) → (n : ℕ) (said : List Said) (sessions : List Session) (seats : List Seat) (ops : List Op) → SaidBy n said → ((f q : ℕ) → q ≤ n → next f q ≡ base f q) → ((p q : ℕ) (o : Op) → slice_get ops p ≡ Some o → o.point ≡ Some q → q ≤ n) → HaveVersions all base said sessions seats ops → HaveVersions all next said sessions seats ops
versions_based all base next n said sessions seats ops past same points h = record {
  jobs = λ i seat j o here is at. of_job (takens sessions seat) o j.stage (h.jobs i seat j o here is at);
  opened = λ p len q digest o at e point. subst (λ v. (CameTo said o q v × Since said o q v) ⊎ IsNow all o q v) (sym (version o.file q (points p q o at point))) (h.opened p len q digest o at e point);
}
  where
    version : (f q : ℕ) → q ≤ n → version_by next ops f q ≡ version_by base ops f q
    version f q le = ap (λ m. length (filter (changed_before f q) ops) + m) (same f q le)

    attempt : (taken : List TakenCall) (o : Op) (v x : ℕ) → Attempt base said ops taken o v x → Attempt next said ops taken o v x
    attempt taken o v x (q, was, is, came, since) = (q, was, version o.file q (came_past n said o q v past came) ∙ is, came, since)

    of_job : (taken : List TakenCall) (o : Op) (s : Stage) → JobVersion base said ops taken o s → JobVersion next said ops taken o s
    of_job taken o (stage.Asking x) w = w
    of_job taken o (stage.Hashing tries x) w = w
    of_job taken o (stage.Listing x f) w = attempt taken o f.version f.first w
    of_job taken o (stage.Reading f) w = attempt taken o f.version f.first w
    of_job taken o _ w = tt

-- so it is behind an event
pub versions_later : (all : List Moment) (opening : List Opening) (k : Core) (e : Event) (said : List Said) → SaidBy (happens k e).core.steps said → ((p q : ℕ) (o : Op) → slice_get (happens k e).core.ops p ≡ Some o → o.point ≡ Some q → q ≤ (happens k e).core.steps)
    → HaveVersions all (early_of opening k.raws) said (happens k e).core.sessions (happens k e).core.seats (happens k e).core.ops → HaveVersions all (early_of opening (happens k e).core.raws) said (happens k e).core.sessions (happens k e).core.seats (happens k e).core.ops
versions_later all opening k e said past points h = versions_based all (early_of opening k.raws) (early_of opening (happens k e).core.raws) (happens k e).core.steps said (happens k e).core.sessions (happens k e).core.seats (happens k e).core.ops past (early_step opening k e) points h

-- a job was there before, or is shown
abbrev pub JobCame : (base : ℕ → ℕ → ℕ) → (n : ℕ) → (said more : List Said) → (sessions later : List Session) → (seats : List Seat) → (ops after : List Op) → (i : ℕ) → Seat → Job → Op → Type 0
JobCame base n said more sessions later seats ops after i seat j r =
    ((old : Seat) × (o : Op) × (numbered seats i ≡ Some old) × (job old ≡ Some j) × (slice_get ops j.place ≡ Some o) × Alike said more o r × Extends n (takens sessions old) (takens later seat)) ⊎ JobVersion base more after (takens later seat) r j.stage

-- an open that has ended was there before, or is shown
abbrev pub OpenCame : (all : List Moment) → (base : ℕ → ℕ → ℕ) → (said more : List Said) → (ops after : List Op) → (p q : ℕ) → Op → Type 0
OpenCame all base said more ops after p q r = ((slice_get ops p ≡ Some r) × Alike said more r r) ⊎ ((CameTo more r q (version_by base after r.file q) × Since more r q (version_by base after r.file q)) ⊎ IsNow all r q (version_by base after r.file q))

pub versions_onward : (all : List Moment) → (base : ℕ → ℕ → ℕ) → (n : ℕ) (said more : List Said) (sessions later : List Session) (seats next : List Seat) (ops after : List Op) → SaidBy n said → ((f q : ℕ) → q ≤ n → version_in after f q ≡ version_in ops f q) → ((p q : ℕ) (o : Op) → slice_get ops p ≡ Some o → o.point ≡ Some q → version_in after o.file q ≡ version_in ops o.file q)
    → ((i : ℕ) (seat : Seat) (j : Job) (r : Op) → numbered next i ≡ Some seat → job seat ≡ Some j → slice_get after j.place ≡ Some r → JobCame base n said more sessions later seats ops after i seat j r)
    → ((p len q : ℕ) (digest : List ℕ) (r : Op) → slice_get after p ≡ Some r → r.outcome ≡ told.Opened len digest → r.point ≡ Some q → OpenCame all base said more ops after p q r)
    → HaveVersions all base said sessions seats ops → HaveVersions all base more later next after
versions_onward all base n said more sessions later seats next ops after past stays keeps jobs opens h = record {
  jobs = λ i seat j r here is at. elim (jobs i seat j r here is at) [
    | inr shown ↦ shown
    | inl (old, o, there, was, old_at, a, e) ↦ job_alike base n said more ops after (takens sessions old) (takens later seat) o r j.stage past a e stays (h.jobs i old j o there was old_at)
  ];
  opened = λ p len q digest r at e point. elim (opens p len q digest r at e point) [
    | inr shown ↦ shown
    | inl (there, a) ↦
        let same : version_by base after r.file q ≡ version_by base ops r.file q = by_counts base after ops r.file q (keeps p q r there point) in
        elim (h.opened p len q digest r there e point) [
          | inl w ↦ inl (subst (λ v. CameTo more r q v × Since more r q v) (sym same) (came_alike said more r r q (version_by base ops r.file q) a w.0, since_alike said more r r q (version_by base ops r.file q) a w.1))
          | inr now ↦ inr (subst (IsNow all r q) (sym same) now)
        ]
  ];
}

-- Calls that were taken: what was told of them stays so when a further one is taken.
use Rattle.std.proofs.Common.{◌<◌, inl, inr, ◌≡◌, ℕ, suc, ◌+◌, ◌≤◌, List, [], ◌∷◌, ◌++◌, Option, Some, None, Bool, true, false, refl, ap, ◌∙◌, arith, eq-eqb, ne_eqb, map}
use Rattle.std.specs.Option.{option_map}
use Rattle.hash_calls.specs.declared.call.Leased.{Leased}
use Rattle.client_state.specs.declared.task.Stage.TheVariants as stage
use Rattle.kept_promise.proofs.Common.{Body, cond, ◌==◌, find, Chunk, Status, Answer, Done, Failed, Attr, Hashes, Piece, Fetch, Stage, Value, TakenCall, taken_at, Book, Reply, Reply.Versioned, Reply.Hashed, Reply.Bytes, Reply.Changed, Ask, Told, Reply.Walked, name_answer, slice_get}
use Rattle.kept_promise.proofs.Lists.{nothing_there}
use Rattle.kept_promise.proofs.Keys.{times}
use Rattle.kept_promise.proofs.Messages.{Job, IsServed, lease_body, hash_body, AllTolds, AllUnder, Rising, IsTold, IsTried, RefusedTold, HashTold, LeaseTold, ReadTold, TriedBy, AnswerOf, IsAnswer, IsFetch, FetchOf, HasFetch, WalkTold}
use Rattle.path_calls.specs.declared.walk.Walk.{Walk}
use Rattle.nfs3_calls.specs.declared.message.Nfs.{Nfs}

-- what was found is found
abbrev pub Finds : List TakenCall → List TakenCall → Type 0
Finds taken after = (x p : ℕ) → taken_at taken x ≡ Some p → taken_at after x ≡ Some p

pub finds_more : (taken : List TakenCall) (t : TakenCall) → Finds taken (taken ++ t ∷ [])
finds_more [] t x p e = nothing_there p e
finds_more (u ∷ taken) t x p e = by (u.xid == x) e (finds_more taken t x p)
  where
    by : (b : Bool) → option_map (λ z. z.step) (cond b (Some u) (find (λ z. z.xid == x) taken)) ≡ Some p → (option_map (λ z. z.step) (find (λ z. z.xid == x) taken) ≡ Some p → option_map (λ z. z.step) (find (λ z. z.xid == x) (taken ++ t ∷ [])) ≡ Some p) → option_map (λ z. z.step) (cond b (Some u) (find (λ z. z.xid == x) (taken ++ t ∷ []))) ≡ Some p
    by true e later = e
    by false e later = later e

-- the last one is found where none had its xid
pub finds_last : (taken : List TakenCall) (floor : ℕ) (t : TakenCall) → AllUnder floor taken → floor ≤ t.xid → taken_at (taken ++ t ∷ []) t.xid ≡ Some t.step
finds_last [] floor t u le = ap (λ b. option_map (λ z. z.step) (cond b (Some t) None)) (eq-eqb t.xid t.xid refl)
finds_last (v ∷ taken) floor t u le =
    let lt = u.0 in
    ap (λ b. option_map (λ z. z.step) (cond b (Some v) (find (λ z. z.xid == t.xid) (taken ++ t ∷ [])))) (ne_eqb v.xid t.xid (λ e. omega (arith, lt, le, e))) ∙ finds_last taken floor t u.1 le

pub under_more : (floor : ℕ) (taken : List TakenCall) (t : TakenCall) → AllUnder floor taken → floor ≤ t.xid → AllUnder (t.xid + 1) (taken ++ t ∷ [])
under_more floor [] t u le = (omega arith, tt)
under_more floor (v ∷ taken) t u le = let lt = u.0 in (omega (arith, lt, le), under_more floor taken t u.1 le)

-- none has the number 0
pub zero_last : (taken : List TakenCall) (t : TakenCall) → taken_at taken 0 ≡ None → 0 < t.xid → taken_at (taken ++ t ∷ []) 0 ≡ None
zero_last [] t none some = ap (λ b. option_map (λ z. z.step) (cond b (Some t) None)) (ne_eqb t.xid 0 (λ e. omega (arith, e, some)))
zero_last (v ∷ taken) t none some = by (v.xid == 0) none (λ e. zero_last taken t e some)
  where
    by : (b : Bool) → option_map (λ z. z.step) (cond b (Some v) (find (λ z. z.xid == 0) taken)) ≡ None → (taken_at taken 0 ≡ None → taken_at (taken ++ t ∷ []) 0 ≡ None) → option_map (λ z. z.step) (cond b (Some v) (find (λ z. z.xid == 0) (taken ++ t ∷ []))) ≡ None
    by true e later = absurd cc
    by false e later = later e

-- ---- facts

told_found : (book : Book) (taken after : List TakenCall) (j : Job) (x : ℕ) (v : Value) (version : ℕ) → Finds taken after → IsTold book taken j x v version → IsTold book after j x v version
told_found book taken after j x v version f h = record { moment = h.moment; was = f x h.moment h.was; past = h.past; value = h.value; version_is = h.version_is; op = h.op; there = h.there; after = h.after; apart = h.apart }

served_found : (book : Book) (taken after : List TakenCall) (j : Job) (x : ℕ) (call : Body) → Finds taken after → IsServed book taken j x call → IsServed book after j x call
served_found book taken after j x call f h = record { moment = h.moment; was = f x h.moment h.was; op = h.op; there = h.there; takes = h.takes }

tried_found : (book : Book) (taken after : List TakenCall) (j : Job) (x n : ℕ) → Finds taken after → IsTried book taken j x n → IsTried book after j x n
tried_found book taken after j x n f h = record { moment = h.moment; was = f x h.moment h.was; past = h.past; op = h.op; there = h.there; count = h.count; tries_is = h.tries_is; tried = h.tried; call = served_found book taken after j x (hash_body book.lbfs j.file 0) f h.call }

refused_found : (book : Book) (taken after : List TakenCall) (j : Job) (x : ℕ) (s : Status) → Finds taken after → RefusedTold book taken j x s → RefusedTold book after j x s
refused_found book taken after j x s f (inl (is, h)) = inl (is, record { at = h.at; noted = h.noted; moment = h.moment; step_is = h.step_is; was = f x h.moment h.was; past = h.past; op = h.op; there = h.there; after = h.after; node = h.node; node_is = h.node_is })
refused_found book taken after j x s f (inr h) = inr (h.0, (h.1.0, told_found book taken after j x None h.1.0 f h.1.1))

hash_found : (book : Book) (taken after : List TakenCall) (j : Job) (x o : ℕ) (a : Answer Hashes Unit) → Finds taken after → HashTold book taken j x o a → HashTold book after j x o a
hash_found book taken after j x o (Failed s u) f h = refused_found book taken after j x s f h
hash_found book taken after j x o (Done a) f h = record { file = h.file; is = h.is; held = h.held; value = h.value; told = told_found book taken after j x (Some h.value) h.file.version f h.told; value_is = h.value_is; short = h.short; known = h.known; hashed = h.hashed }

lease_found : (book : Book) (taken after : List TakenCall) (j : Job) (x : ℕ) (a : Answer Leased Unit) → Finds taken after → LeaseTold book taken j x a → LeaseTold book after j x a
lease_found book taken after j x (Failed s u) f h = refused_found book taken after j x s f h
lease_found book taken after j x (Done a) f h = record { value = h.value; told = told_found book taken after j x (Some h.value) a.version f h.told; call = served_found book taken after j x (lease_body book.lbfs j.file) f h.call; known = h.known }

walk_found : (book : Book) (taken after : List TakenCall) (closing : Option ℕ) (j : Job) (x : ℕ) (w : Walk) (m : Nfs) → Finds taken after → WalkTold book taken closing j x w m → WalkTold book after closing j x w m
walk_found book taken after closing j x w m f h = record { then_op = h.then_op; then_is = h.then_is; then_began = h.then_began; at = h.at; noted = h.noted; moment = h.moment; step_is = h.step_is; was = λ m. f x h.moment (h.was m); past = h.past; op = h.op; there = h.there; after = h.after; bounded = h.bounded; rooted = h.rooted; came = h.came; session = h.session; sent = h.sent; seat = h.seat; seat_is = h.seat_is; newest = h.newest; job_is = h.job_is }

tried_by_found : (book : Book) (taken after : List TakenCall) (j : Job) (x : ℕ) (s : Stage) → Finds taken after → TriedBy book taken j x s → TriedBy book after j x s
tried_by_found book taken after j x (stage.Hashing tries y) f h = tried_found book taken after j x tries f h
tried_by_found book taken after j x (stage.Listing y g) f h = record { began = h.began; was = f g.first h.began h.was; last = h.last; is = f x h.last h.is; order = h.order }
tried_by_found book taken after j x _ f h = tt

read_found : (book : Book) (taken after : List TakenCall) (j : Job) (x first : ℕ) (c : Chunk) (a : Answer Piece (Option Attr)) → Finds taken after → ReadTold book taken j x first c a → ReadTold book after j x first c a
read_found book taken after j x first c (Failed s a) f h = refused_found book taken after j x s f h
read_found book taken after j x first c (Done p) f h = record { file = h.file; is = h.is; held = h.held; began = h.began; was = f first h.began h.was; last = h.last; order = h.order; past = h.past; version_is = h.version_is }

answer_of_found : (book : Book) (taken after : List TakenCall) (closing : Option ℕ) (job : Option Job) (x : ℕ) (r : Reply) → Finds taken after → AnswerOf book taken closing job x r → AnswerOf book after closing job x r
answer_of_found book taken after closing job x (Versioned a) f h = λ j e s. lease_found book taken after j x a f (h j e s)
answer_of_found book taken after closing job x (Hashed a) f h = λ j o e w. let r = h j o e w in (hash_found book taken after j x o a f r.0, tried_by_found book taken after j x j.stage f r.1)
answer_of_found book taken after closing job x (Bytes a) f h = λ j g c e s w. read_found book taken after j x g.first c a f (h j g c e s w)
answer_of_found book taken after closing job x (Changed a) f h = h
answer_of_found book taken after closing job x (Walked r) f h = λ j w e s. walk_found book taken after closing j x w (name_answer r) f (h j w e s)
answer_of_found book taken after closing job x _ f h = tt

pub answer_found : (book : Book) (taken after : List TakenCall) (closing : Option ℕ) (job : Option Job) (t : Told) → Finds taken after → IsAnswer book taken closing job t → IsAnswer book after closing job t
answer_found book taken after closing job t f h = answer_of_found book taken after closing job t.xid t.reply f h

abbrev fetch_found : (book : Book) (taken after : List TakenCall) (j : Job) (g : Fetch) → Finds taken after → IsFetch book taken j g → IsFetch book after j g
fetch_found book taken after j g f h = record { file = h.file; held = h.held; version = h.version; value = h.value; told = told_found book taken after j g.first (Some h.value) g.version f h.told; value_is = h.value_is; tried = tried_found book taken after j g.first g.tries f h.tried; size = h.size; short = h.short; known = h.known; count = h.count; within = h.within; chunks = h.chunks; hashed = h.hashed }

fetch_of_found : (book : Book) (taken after : List TakenCall) (j : Job) (s : Stage) → Finds taken after → FetchOf book taken j s → FetchOf book after j s
fetch_of_found book taken after j (stage.Listing x g) f h = (fetch_found book taken after j g f h.0, h.1, h.2)
fetch_of_found book taken after j (stage.Reading g) f h = (fetch_found book taken after j g f h.0, h.1)
fetch_of_found book taken after j (stage.Walking x w) f h = h
fetch_of_found book taken after j _ f h = tt

pub has_fetch_found : (book : Book) (taken after : List TakenCall) (job : Option Job) → Finds taken after → HasFetch book taken job → HasFetch book after job
has_fetch_found book taken after job f h = λ j e. fetch_of_found book taken after j j.stage f (h j e)

-- ---- lists of messages

pub rising_append : (n : ℕ) (us vs : List Ask) (top next : ℕ) → Rising n us top → Rising top vs next → Rising n (us ++ vs) next
rising_append n [] vs top next a b = lower n top vs next a b
  where
    lower : (n top : ℕ) (vs : List Ask) (next : ℕ) → n ≤ top → Rising top vs next → Rising n vs next
    lower n top [] next le h = omega (arith, le, h)
    lower n top (v ∷ vs) next le h = let m = h.0 in (omega (arith, le, m), h.1)
rising_append n (u ∷ us) vs top next a b = (a.0, rising_append (u.xid + 1) us vs top next a.1 b)

pub times_map_append : {A : Type 0} (f : A → ℕ) (y : ℕ) (us vs : List A) → times y (map f (us ++ vs)) ≡ times y (map f us) + times y (map f vs)
times_map_append f y [] vs = omega arith
times_map_append f y (u ∷ us) vs = by (f u == y) (times_map_append f y us vs)
  where
    by : (b : Bool) → times y (map f (us ++ vs)) ≡ times y (map f us) + times y (map f vs) → cond b (suc (times y (map f (us ++ vs)))) (times y (map f (us ++ vs))) ≡ cond b (suc (times y (map f us))) (times y (map f us)) + times y (map f vs)
    by true e = omega (arith, e)
    by false e = e

pub tolds_at : (P Q : Told → Type 0) (us : List Told) → ((i : ℕ) (u : Told) → slice_get us i ≡ Some u → P u → Q u) → AllTolds P us → AllTolds Q us
tolds_at P Q [] f h = tt
tolds_at P Q (u ∷ us) f h = (f 0 u refl h.0, tolds_at P Q us (λ i v at. f (suc i) v at) h.1)

-- What is known of an operation as its client takes an answer to one of its calls: its attempts before, and the content that is fetched.
use Rattle.std.proofs.Common.{inl, inr, ◌≡◌, ℕ, zero, suc, ◌+◌, ◌<◌, ◌≤◌, List, [], ◌∷◌, length, Option, Some, None, Bool, true, false, refl, sym, ap, ◌∙◌, subst, arith, eqb-true, map, ◌⊎◌, ◌++◌}
use Rattle.hash_calls.specs.declared.message.Lb.TheVariants as lb
use Rattle.wire.specs.declared.message.Body.TheVariants as body
use Rattle.client_state.specs.State as client
use Rattle.client_state.specs.declared.task.Stage.TheVariants as stage
use Rattle.register_model.specs.declared.op.Outcome.TheVariants as told
use Rattle.register_model.specs.declared.op.Word.TheVariants as words
use Rattle.kept_promise.proofs.Common.{nat_tests, ◌==◌, ◌&&◌, ◌||◌, nat_lt, cond, not, slice_get, slice_set, filter, option_map_or, chunks_of, Done, Hashes, Body, Pending, ClientStep, Fetch, ReadCall, Stage, without_read, with_hashes, fetch_of, end_of, content_of, changes, changed_before, latest, value_after, Op, Opening, TakenCall, op_after, ops_after, ops_with, Book, value_at, Tried, Reply, Reply.Hashed, reply_body, history}
use Rattle.kept_promise.proofs.Lists.{some_is}
use Rattle.kept_promise.proofs.Keys.{times}
use Rattle.kept_promise.proofs.Messages.{Job, stage_word, hash_offset, IsTried, TriedBy, AnswerOf, IsHashed, IsFetch, FetchOf, Trying, IsTrying}
use Rattle.kept_promise.proofs.Rights.{IsSound, close_not_open}
use Rattle.kept_promise.proofs.Attempts.{fetch_first, fetch_next}
use Rattle.kept_promise.proofs.Versions.{version_in, cons_count, count_replaced, after_alike}
use Rattle.kept_promise.proofs.StepCases.{FetchIn, FetchNow, FetchNow.all_told, FetchNow.one_came}
use Rattle.register_model.specs.Raw.{op_of}
use Rattle.register_model.specs.declared.raw.Raw.{Raw}

-- ---- versions grow

changed_later : (f p q : ℕ) (o : Op) → p ≤ q → changed_before f p o ≡ true → changed_before f q o ≡ true
changed_later f p q o le e = by (changes o.word && (o.file == f)) o.point e
  where
    by : (b : Bool) (t : Option ℕ) → (b && option_map_or (λ x. nat_lt x p) t false) ≡ true → (b && option_map_or (λ x. nat_lt x q) t false) ≡ true
    by true (Some x) e = grind (arith, nat_tests, e, le)
    by _ _ e = absurd cc

count_later : (f p q : ℕ) (ops : List Op) → p ≤ q → length (filter (changed_before f p) ops) ≤ length (filter (changed_before f q) ops)
count_later f p q [] le = omega arith
count_later f p q (o ∷ os) le =
    let a = cons_count f p o os in
    let b = cons_count f q o os in
    let c = by (changed_before f p o) (changed_before f q o) (changed_later f p q o le) (count_later f p q os le) in
    omega (arith, a, b, c)
  where
    by : (x y : Bool) → (x ≡ true → y ≡ true) → length (filter (changed_before f p) os) ≤ length (filter (changed_before f q) os)
        → cond x (suc (length (filter (changed_before f p) os))) (length (filter (changed_before f p) os)) ≤ cond y (suc (length (filter (changed_before f q) os))) (length (filter (changed_before f q) os))
    by true true h later = omega (arith, later)
    by true false h later = let e : false ≡ true = h refl in absurd cc
    by false true h later = omega (arith, later)
    by false false h later = later

pub version_later : (ops : List Op) (f p q : ℕ) → p ≤ q → version_in ops f p ≤ version_in ops f q
version_later ops f p q le = let c = count_later f p q ops le in omega (arith, c)

-- ---- attempts

pub tried_from : (book : Book) (f b n p : ℕ) → Tried book f b n p → b ≤ p
tried_from book f b zero p h = h
tried_from book f b (suc n) p h = let le = tried_from book f b n h.0 h.2 in let lt = h.3 in let at = h.4 in omega (arith, le, lt, at)

-- in a moment up to now the file had another version than at the begin
abbrev pub Moved : List Op → (file begin end : ℕ) → Type 0
Moved ops f b e = (m : ℕ) × (b ≤ m) × (m ≤ e) × (version_in ops f b ≡ version_in ops f m → ⊥)

pub tried_moved : (book : Book) (f b n p : ℕ) → Tried book f b (suc n) p → Moved (history book).ops f b p
tried_moved book f b n p h =
    let le = tried_from book f b n h.0 h.2 in
    let lt = h.3 in
    let x = version_later (history book).ops f b h.0 le in
    let y = version_later (history book).ops f h.0 h.1 (omega (arith, lt)) in
    (h.1, omega (arith, le, lt), h.4, λ e. h.5 (omega (arith, x, y, e)))

pub versions_after : (ops : List Op) (place : Option ℕ) (c : client.State) (taken : List TakenCall) (step : ℕ) (acts : ClientStep) → ((p : ℕ) (o : Op) → place ≡ Some p → slice_get ops p ≡ Some o → (acts.found ≡ None) ⊎ (changes o.word ≡ false)) → (f q : ℕ) → version_in (ops_with ops place c taken step acts) f q ≡ version_in ops f q
versions_after ops None c taken step acts none f q = refl
versions_after ops (Some l) c taken step acts none f q = by (slice_get ops l) refl
  where
    by : (o : Option Op) → slice_get ops l ≡ o → version_in (ops_after ops l o c taken step acts) f q ≡ version_in ops f q
    by None at = refl
    by (Some o) at = ap (λ z. z + 1) (count_replaced f q ops l o (op_after o c taken step acts) at (after_alike f q o c taken step acts (none l o refl at)))

-- ---- where an open has tried before, its file has moved

abbrev pub tries_of : Stage → ℕ
tries_of (stage.Hashing tries x) = tries
tries_of (stage.Listing x f) = f.tries
tries_of (stage.Reading f) = f.tries
tries_of s = 0

filter_set : (f m : ℕ) (ops : List Op) (p : ℕ) (old new : Op) → slice_get ops p ≡ Some old → changed_before f m old ≡ false → changed_before f m new ≡ false → filter (changed_before f m) (slice_set ops p new) ≡ filter (changed_before f m) ops
filter_set f m [] p old new at a b = refl
filter_set f m (o ∷ os) zero old new at a b =
    ap (λ z. cond z (new ∷ filter (changed_before f m) os) (filter (changed_before f m) os)) b
    ∙ sym (ap (λ z. cond z (o ∷ filter (changed_before f m) os) (filter (changed_before f m) os)) (ap (changed_before f m) (some_is o old at) ∙ a))
filter_set f m (o ∷ os) (suc p) old new at a b = ap (λ l. cond (changed_before f m o) (o ∷ l) l) (filter_set f m os p old new at a b)

no_change : (f m : ℕ) (o : Op) → o.word ≡ words.Open → changed_before f m o ≡ false
no_change f m o e = ap (λ w. (changes w && (o.file == f)) && option_map_or (λ p. nat_lt p m) o.point false) e

filter_more : (p : Op → Bool) (xs ys : List Op) → filter p (xs ++ ys) ≡ filter p xs ++ filter p ys
filter_more p [] ys = refl
filter_more p (x ∷ xs) ys = by (p x) (filter_more p xs ys)
  where
    by : (b : Bool) → filter p (xs ++ ys) ≡ filter p xs ++ filter p ys → cond b (x ∷ filter p (xs ++ ys)) (filter p (xs ++ ys)) ≡ cond b (x ∷ filter p xs) (filter p xs) ++ filter p ys
    by true e = ap (λ (l : List Op). x ∷ l) e
    by false e = e

pub same_value : (book more : Book) (f m p : ℕ) (old new : Op) → more.opening ≡ book.opening → more.raws ≡ book.raws → more.ops ≡ slice_set book.ops p new → slice_get book.ops p ≡ Some old → old.word ≡ words.Open → new.word ≡ words.Open → value_at more f m ≡ value_at book f m
same_value book more f m p old new opening raws are at a b =
    ap (λ (l : List Opening). value_after (content_of l f) (latest (filter (changed_before f m) (history more).ops))) opening
    ∙ ap (λ (l : List Op). value_after (content_of book.opening f) (latest (filter (changed_before f m) (l ++ map op_of more.raws)))) are
    ∙ ap (λ (l : List Raw). value_after (content_of book.opening f) (latest (filter (changed_before f m) (slice_set book.ops p new ++ map op_of l)))) raws
    ∙ ap (λ (l : List Op). value_after (content_of book.opening f) (latest l)) (
    filter_more (changed_before f m) (slice_set book.ops p new) (map op_of book.raws)
    ∙ ap (λ (l : List Op). l ++ filter (changed_before f m) (map op_of book.raws)) (filter_set f m book.ops p old new at (no_change f m old a) (no_change f m new b))
    ∙ sym (filter_more (changed_before f m) book.ops (map op_of book.raws))
    )

-- where an open has tried before, its file has moved
pub moved_by : (book : Book) (taken : List TakenCall) (j : Job) (o : Op) → slice_get book.ops j.place ≡ Some o → IsTrying book (Some j) → FetchOf book taken j j.stage → stage_word j.stage ≡ words.Open → 1 < tries_of j.stage → Moved (history book).ops j.file o.begin (book.steps + 1)
moved_by book taken j o at trying fetch word more = by j.stage refl fetch word more
  where
    one_more : (n count : ℕ) → n ≡ suc count → (n ≡ 1 → ⊥) → (c : ℕ) × (count ≡ suc c)
    one_more n zero e more = absurd (more e)
    one_more n (suc c) e more = (c, refl)

    fetched : (x tries : ℕ) → IsTried book taken j x tries → (tries ≡ 1 → ⊥) → Moved (history book).ops j.file o.begin (book.steps + 1)
    fetched x tries t more =
        let c = one_more tries t.count t.tries_is more in
        let begin : t.op.begin ≡ o.begin = ap (λ (z : Op). z.begin) (some_is t.op o (sym t.there ∙ at)) in
        let m = tried_moved book j.file t.op.begin c.0 t.moment (subst (λ n. Tried book j.file t.op.begin n t.moment) c.1 t.tried) in
        let a = m.1 in
        let b = m.2 in
        let past = t.past in
        (m.0, omega (arith, a, begin), omega (arith, b, past), λ e. m.3 (ap (version_in (history book).ops j.file) begin ∙ e))

    hashing : (tries : ℕ) → Trying book j tries → (tries ≡ 1 → ⊥) → Moved (history book).ops j.file o.begin (book.steps + 1)
    hashing tries t more =
        let c = one_more tries t.count t.tries_is more in
        let begin : t.op.begin ≡ o.begin = ap (λ (z : Op). z.begin) (some_is t.op o (sym t.there ∙ at)) in
        let m = tried_moved book j.file t.op.begin c.0 (book.steps + 1) (subst (λ n. Tried book j.file t.op.begin n (book.steps + 1)) c.1 t.tried) in
        let a = m.1 in
        (m.0, omega (arith, a, begin), m.2, λ e. m.3 (ap (version_in (history book).ops j.file) begin ∙ e))

    by : (st : Stage) → j.stage ≡ st → FetchOf book taken j st → stage_word st ≡ words.Open → 1 < tries_of st → Moved (history book).ops j.file o.begin (book.steps + 1)
    by (stage.Asking x) e f w more = absurd (omega (arith, more))
    by (stage.Hashing tries x) e f w more = hashing tries (trying j tries x refl e) (λ one. omega (arith, one, more))
    by (stage.Listing x g) e f w more = fetched g.first g.tries f.0.tried (λ one. omega (arith, one, more))
    by (stage.Reading g) e f w more = fetched g.first g.tries f.0.tried (λ one. omega (arith, one, more))
    by (stage.Walking x v) e f w more = absurd (omega (arith, more))
    by (stage.Rewriting x) e f w more = absurd (omega (arith, more))
    by _ e f w more = absurd (close_not_open w)

-- ---- chunks

-- what is known of an operation as its client takes an answer
pub record Taking (book more : Book) (taken : List TakenCall) (j : Job) (o : Op) (p : ℕ) : Type 0 where
  pub at : slice_get book.ops j.place ≡ Some o
  pub place : j.place ≡ p
  pub file : o.file ≡ j.file
  pub word : o.word ≡ stage_word j.stage
  pub running : o.outcome ≡ told.Running
  pub fetch : FetchOf book taken j j.stage
  pub trying : IsTrying book (Some j)
  pub opening : more.opening ≡ book.opening
  pub raws : more.raws ≡ book.raws

-- ---- calls under way

pub none_without : (us : List ReadCall) (x : ℕ) → times x (map (λ (c : ReadCall). c.xid) us) ≡ 0 → without_read us x ≡ us
none_without [] x none = refl
none_without (u ∷ us) x none = by (u.xid == x) refl none (none_without us x)
  where
    by : (b : Bool) → (u.xid == x) ≡ b → cond b (suc (times x (map (λ (c : ReadCall). c.xid) us))) (times x (map (λ (c : ReadCall). c.xid) us)) ≡ 0 → (times x (map (λ (c : ReadCall). c.xid) us) ≡ 0 → without_read us x ≡ us) → cond (not b) (u ∷ without_read us x) (without_read us x) ≡ u ∷ us
    by true e none later = absurd (omega (arith, none))
    by false e none later = ap (λ l. u ∷ l) (later none)

-- no other call of its has this xid
abbrev pub IsApart : (xid : ℕ) → Stage → Type 0
IsApart x (stage.Reading f) = times x (map (λ (u : ReadCall). u.xid) f.under) ≤ 1
IsApart x st = Unit {0}

read_xids : (us : List ReadCall) → map (λ (p : Pending). p.xid) (map client.read_pending us) ≡ map (λ (u : ReadCall). u.xid) us
read_xids [] = refl
read_xids (u ∷ us) = ap (λ (l : List ℕ). u.xid ∷ l) (read_xids us)

pub apart_in : (x : ℕ) (st : Stage) → times x (map (λ (p : Pending). p.xid) (client.pending_in st)) ≤ 1 → IsApart x st
apart_in x (stage.Reading f) once = subst (λ (l : List ℕ). times x l ≤ 1) (read_xids f.under) once
apart_in x _ once = tt

-- ---- the content that is fetched

abbrev fetch_slots : (book : Book) (taken : List TakenCall) (j : Job) (f : Fetch) (slots : List (Option (List ℕ))) (under : List ReadCall) → IsFetch book taken j f → IsFetch book taken j (record f { slots = slots; under = under })
fetch_slots book taken j f slots under h = record { file = h.file; held = h.held; version = h.version; value = h.value; told = h.told; value_is = h.value_is; tried = h.tried; size = h.size; short = h.short; known = h.known; count = h.count; within = h.within; chunks = h.chunks; hashed = h.hashed }

-- all chunks of one are known
abbrev pub IsWhole : Book → List TakenCall → Job → Fetch → Type 0
IsWhole book taken j f = (h : IsFetch book taken j f) × (f.chunks ≡ chunks_of h.file.content)

hashed_is : (r : Reply) (h : Hashes) → reply_body r ≡ body.Lb (lb.GetHashAnswer (Done h)) → r ≡ Hashed (Done h)
hashed_is (Hashed a) h e = ap (λ z. reply_in z) e
  where
    reply_in : Body → Reply
    reply_in (body.Lb (lb.GetHashAnswer z)) = Hashed z
    reply_in b = Hashed a
hashed_is r h e = absurd cc

or_none : (b : Bool) → (b || false) ≡ true → b ≡ true
or_none true e = refl
or_none false e = e

pub fetched_now : (book : Book) (taken : List TakenCall) (closing : Option ℕ) (j : Job) (x : ℕ) (r : Reply) → IsSound book → FetchOf book taken j j.stage → AnswerOf book taken closing (Some j) x r → client.has_call (client.pending_in j.stage) x ≡ true → (f : Fetch) (bytes : ℕ) → FetchNow j.stage x (reply_body r) f bytes → IsWhole book taken j f
fetched_now book taken closing j x r sound fetch answer own f bytes (one_came g c k p is at found chunk fits f_is len) =
    let w = subst (FetchOf book taken j) at fetch in
    subst (IsWhole book taken j) (sym f_is) (fetch_slots book taken j g _ _ w.0, w.1.whole)
fetched_now book taken closing j x r sound fetch answer own f bytes (all_told g h is eof at same f_is none) = subst (IsWhole book taken j) (sym f_is) (by at)
  where
    told : AnswerOf book taken closing (Some j) x (Hashed (Done h))
    told = subst (AnswerOf book taken closing (Some j) x) (hashed_is r h is) answer

    whole : (g : Fetch) → IsFetch book taken j g → IsHashed book taken j x (end_of g.chunks) h → h.version ≡ g.version → IsWhole book taken j (Rattle.file_open.specs.Opening.listed (with_hashes g h))
    whole g fact hashed same = let n = fetch_next book taken j x g h sound fact hashed same in (fetch_slots book taken j (with_hashes g h) _ _ n.fetch, n.whole eof)

    by : FetchIn j.stage x h g → IsWhole book taken j (Rattle.file_open.specs.Opening.listed (with_hashes g h))
    by (inl (tries, y, st, e)) =
        let mine : (y == x) ≡ true = or_none (y == x) (ap (λ z. client.has_call (client.pending_in z) x) (sym st) ∙ own) in
        let t = told j 0 refl (ap (λ z. hash_offset z x) st ∙ ap (λ b. cond b (Some 0) None) mine) in
        let first = fetch_first book taken j x tries h t.0 (subst (TriedBy book taken j x) st t.1) in
        subst (λ (z : Fetch). IsWhole book taken j (Rattle.file_open.specs.Opening.listed (with_hashes z h))) (sym e) (whole (fetch_of tries x h) first t.0 refl)
    by (inr (y, st)) =
        let mine : (y == x) ≡ true = or_none (y == x) (ap (λ z. client.has_call (client.pending_in z) x) (sym st) ∙ own) in
        let t = told j (end_of g.chunks) refl (ap (λ z. hash_offset z x) st ∙ ap (λ b. cond b (Some (end_of g.chunks)) None) mine) in
        whole g (subst (FetchOf book taken j) st fetch).0 t.0 (eqb-true h.version g.version same)

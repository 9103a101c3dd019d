-- Messages on their way, as one is sent behind them.
use Rattle.std.proofs.Common.{◌≡◌, ℕ, ◌+◌, ◌<◌, ◌≤◌, List, [], ◌∷◌, ◌++◌, ◌⊎◌, inl, inr, refl, ap, arith}
use Rattle.lease_table.specs.Machine.{Up, Up.Ask, Up.Commit, Up.Reply, Down, Down.Answered, Down.Recall}
use Rattle.lease_table.specs.Claims.{recalls_of, replies_of, Among, AllBelow, AreApart, calls, commits, answers_in, AllAnswers}

pub recalls-append : (ds es : List Down) → recalls_of (ds ++ es) ≡ recalls_of ds ++ recalls_of es
recalls-append [] es = refl
recalls-append (Answered v t ∷ ds) es = recalls-append ds es
recalls-append (Recall x ∷ ds) es = ap (λ xs. x ∷ xs) (recalls-append ds es)

pub recalls_answered : (ds : List Down) (v t : ℕ) → recalls_of (ds ++ Answered v t ∷ []) ≡ recalls_of ds
recalls_answered [] v t = refl
recalls_answered (Answered w u ∷ ds) v t = recalls_answered ds v t
recalls_answered (Recall x ∷ ds) v t = ap (λ xs. x ∷ xs) (recalls_answered ds v t)

pub replies-append : (us vs : List Up) → replies_of (us ++ vs) ≡ replies_of us ++ replies_of vs
replies-append [] vs = refl
replies-append (Ask ∷ us) vs = replies-append us vs
replies-append (Commit ∷ us) vs = replies-append us vs
replies-append (Reply x ∷ us) vs = ap (λ xs. x ∷ xs) (replies-append us vs)

pub replies_ask : (us : List Up) → replies_of (us ++ Ask ∷ []) ≡ replies_of us
replies_ask [] = refl
replies_ask (Ask ∷ us) = replies_ask us
replies_ask (Commit ∷ us) = replies_ask us
replies_ask (Reply x ∷ us) = ap (λ xs. x ∷ xs) (replies_ask us)

pub replies_commit : (us : List Up) → replies_of (us ++ Commit ∷ []) ≡ replies_of us
replies_commit [] = refl
replies_commit (Ask ∷ us) = replies_commit us
replies_commit (Commit ∷ us) = replies_commit us
replies_commit (Reply x ∷ us) = ap (λ xs. x ∷ xs) (replies_commit us)

pub calls-append : (us vs : List Up) → calls (us ++ vs) ≡ calls us + calls vs
calls-append [] vs = omega arith
calls-append (Ask ∷ us) vs = omega (arith, calls-append us vs)
calls-append (Commit ∷ us) vs = omega (arith, calls-append us vs)
calls-append (Reply x ∷ us) vs = calls-append us vs

pub commits-append : (us vs : List Up) → commits (us ++ vs) ≡ commits us + commits vs
commits-append [] vs = omega arith
commits-append (Ask ∷ us) vs = commits-append us vs
commits-append (Commit ∷ us) vs = omega (arith, commits-append us vs)
commits-append (Reply x ∷ us) vs = commits-append us vs

-- a COMMITTMP is a call
pub commits_are_calls : (us : List Up) → commits us ≤ calls us
commits_are_calls [] = omega arith
commits_are_calls (Ask ∷ us) = omega (arith, commits_are_calls us)
commits_are_calls (Commit ∷ us) = omega (arith, commits_are_calls us)
commits_are_calls (Reply x ∷ us) = commits_are_calls us

pub answers-append : (ds es : List Down) → answers_in (ds ++ es) ≡ answers_in ds + answers_in es
answers-append [] es = omega arith
answers-append (Answered v t ∷ ds) es = omega (arith, answers-append ds es)
answers-append (Recall x ∷ ds) es = answers-append ds es

-- ---- what holds of each answer

pub all_answers : (P Q : (version term : ℕ) → List Down → Type 0) → ((v t : ℕ) (ds : List Down) → P v t ds → Q v t ds) → (ds : List Down) → AllAnswers P ds → AllAnswers Q ds
all_answers P Q f [] h = tt
all_answers P Q f (Answered v t ∷ ds) h = (f v t ds h.0, all_answers P Q f ds h.1)
all_answers P Q f (Recall x ∷ ds) h = all_answers P Q f ds h

-- a RECALL comes behind
pub answers_recalled : (P Q : (version term : ℕ) → List Down → Type 0) (x : ℕ) → ((v t : ℕ) (ds : List Down) → P v t ds → Q v t (ds ++ Recall x ∷ [])) → (ds : List Down) → AllAnswers P ds → AllAnswers Q (ds ++ Recall x ∷ [])
answers_recalled P Q x f [] h = tt
answers_recalled P Q x f (Answered v t ∷ ds) h = (f v t ds h.0, answers_recalled P Q x f ds h.1)
answers_recalled P Q x f (Recall y ∷ ds) h = answers_recalled P Q x f ds h

pub none_answered : (P : (version term : ℕ) → List Down → Type 0) (ds : List Down) → answers_in ds ≡ 0 → AllAnswers P ds
none_answered P [] h = tt
none_answered P (Answered v t ∷ ds) h = absurd (omega arith)
none_answered P (Recall x ∷ ds) h = none_answered P ds h

-- the first answer comes behind
pub only_answer : (P : (version term : ℕ) → List Down → Type 0) (v t : ℕ) → P v t [] → (ds : List Down) → answers_in ds ≡ 0 → AllAnswers P (ds ++ Answered v t ∷ [])
only_answer P v t p [] h = (p, tt)
only_answer P v t p (Answered w u ∷ ds) h = absurd (omega arith)
only_answer P v t p (Recall x ∷ ds) h = only_answer P v t p ds h

-- of an answer, where this xid is not among the RECALLs behind any
pub apart_answers : (P Q : (version term : ℕ) → List Down → Type 0) (x : ℕ) → ((v t : ℕ) (ds : List Down) → (Among x (recalls_of ds) → ⊥) → P v t ds → Q v t ds) → (ds : List Down) → (Among x (recalls_of ds) → ⊥) → AllAnswers P ds → AllAnswers Q ds
apart_answers P Q x f [] n h = tt
apart_answers P Q x f (Answered v t ∷ ds) n h = (f v t ds n h.0, apart_answers P Q x f ds n h.1)
apart_answers P Q x f (Recall y ∷ ds) n h = apart_answers P Q x f ds (λ a. n (inr a)) h

-- ---- numbers

pub not_below : (x n : ℕ) (xs : List ℕ) → AllBelow n xs → Among x xs → x < n
not_below x n [] b a = absurd a
not_below x n (y ∷ ys) b (inl e) = omega (arith, b.0)
not_below x n (y ∷ ys) b (inr a) = not_below x n ys b.1 a

pub below_more : (n : ℕ) (xs : List ℕ) → AllBelow n xs → AllBelow (n + 1) xs
below_more n [] b = tt
below_more n (x ∷ xs) b = (omega (arith, b.0), below_more n xs b.1)

pub below_last : (n x : ℕ) (xs : List ℕ) → AllBelow n xs → x < n → AllBelow n (xs ++ x ∷ [])
below_last n x [] b h = (h, tt)
below_last n x (y ∷ ys) b h = (b.0, below_last n x ys b.1 h)

pub among_last : (x : ℕ) (xs : List ℕ) → Among x (xs ++ x ∷ [])
among_last x [] = inl refl
among_last x (y ∷ xs) = inr (among_last x xs)

pub among_either : (x y : ℕ) (xs : List ℕ) → Among x (xs ++ y ∷ []) → Among x xs ⊎ (x ≡ y)
among_either x y [] (inl e) = inr e
among_either x y [] (inr a) = absurd a
among_either x y (z ∷ xs) (inl e) = inl (inl e)
among_either x y (z ∷ xs) (inr a) = elim (among_either x y xs a) [ inl b ↦ inl (inr b) | inr e ↦ inr e ]

pub apart_last : (x : ℕ) (xs : List ℕ) → AllBelow x xs → AreApart xs → AreApart (xs ++ x ∷ [])
apart_last x [] b d = ((λ a. a), tt)
apart_last x (y ∷ xs) b d = ((λ a. elim (among_either y x xs a) [ inl c ↦ d.0 c | inr e ↦ absurd (omega (arith, b.0)) ]), apart_last x xs b.1 d.1)

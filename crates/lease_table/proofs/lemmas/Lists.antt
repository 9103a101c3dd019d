-- What is found in a list of which some elements are kept, and in one that has an element put into its order.
use Rattle.std.proofs.Common.{◌≡◌, ◌≤◌, length, List, [], ◌∷◌, ◌++◌, Option, Some, None, Bool, true, false, true≢false, refl, sym, ap, ◌∙◌, arith}
use Rattle.std.specs.Prelude.{not, cond, filter, find, All, AllPairs, ◌||◌}
use Rattle.std.specs.List.{list_any, AllByRecursion}
use Rattle.std.proofs.lemmas.List.Elements.{All-append, All-cons, All-head, All-tail}
use Rattle.std.proofs.lemmas.List.Folds.{list_any-append}
use Rattle.std.proofs.lemmas.List.Kept.{AllPairs-cons, AllPairs-filter}
pub use Rattle.clock_rule.proofs.lemmas.Keeping.{pairs_head, pairs_tail}
pub use Rattle.clock_rule.proofs.lemmas.Lists.{some_is}

-- the first, or the second where there is none
abbrev pub or_else : {X : Type 0} → Option X → Option X → Option X
or_else (Some x) o = Some x
or_else None o = o

module _ {X : Type 0} where
  pub find_append : (q : X → Bool) (xs ys : List X) → find q (xs ++ ys) ≡ or_else (find q xs) (find q ys)
  find_append q [] ys = refl
  find_append q (x ∷ xs) ys = by (q x) (find_append q xs ys)
    where
      by : (b : Bool) → find q (xs ++ ys) ≡ or_else (find q xs) (find q ys) → cond b (Some x) (find q (xs ++ ys)) ≡ or_else (cond b (Some x) (find q xs)) (find q ys)
      by true h = refl
      by false h = h

  module _ (q keep : X → Bool) where
    -- what passes the test is kept
    pub find_kept : ((x : X) → q x ≡ true → keep x ≡ true) → (xs : List X) → find q (filter keep xs) ≡ find q xs
    find_kept h [] = refl
    find_kept h (x ∷ xs) = by (keep x) (q x) refl refl (find_kept h xs)
      where
        by : (k b : Bool) → keep x ≡ k → q x ≡ b → find q (filter keep xs) ≡ find q xs → find q (cond k (x ∷ filter keep xs) (filter keep xs)) ≡ cond b (Some x) (find q xs)
        by true b e f later = rw f (ap (λ o. cond b (Some x) o) later)
        by false true e f later = absurd (true≢false (sym (h x f) ∙ e))
        by false false e f later = later

    -- none of what passes it is
    pub find_none_kept : ((x : X) → q x ≡ true → keep x ≡ false) → (xs : List X) → find q (filter keep xs) ≡ None
    find_none_kept h [] = refl
    find_none_kept h (x ∷ xs) = by (keep x) (q x) refl refl (find_none_kept h xs)
      where
        by : (k b : Bool) → keep x ≡ k → q x ≡ b → find q (filter keep xs) ≡ None → find q (cond k (x ∷ filter keep xs) (filter keep xs)) ≡ None
        by true true e f later = absurd (true≢false (sym e ∙ h x f))
        by true false e f later = rw f later
        by false b e f later = later

    pub any_kept : ((x : X) → q x ≡ true → keep x ≡ true) → (xs : List X) → list_any q (filter keep xs) ≡ list_any q xs
    any_kept h [] = refl
    any_kept h (x ∷ xs) = by (keep x) (q x) refl refl (any_kept h xs)
      where
        by : (k b : Bool) → keep x ≡ k → q x ≡ b → list_any q (filter keep xs) ≡ list_any q xs → list_any q (cond k (x ∷ filter keep xs) (filter keep xs)) ≡ (b || list_any q xs)
        by true b e f later = rw f (ap (λ o. b || o) later)
        by false true e f later = absurd (true≢false (sym (h x f) ∙ e))
        by false false e f later = later

    pub any_none_kept : ((x : X) → q x ≡ true → keep x ≡ false) → (xs : List X) → list_any q (filter keep xs) ≡ false
    any_none_kept h [] = refl
    any_none_kept h (x ∷ xs) = by (keep x) (q x) refl refl (any_none_kept h xs)
      where
        by : (k b : Bool) → keep x ≡ k → q x ≡ b → list_any q (filter keep xs) ≡ false → list_any q (cond k (x ∷ filter keep xs) (filter keep xs)) ≡ false
        by true true e f later = absurd (true≢false (sym e ∙ h x f))
        by true false e f later = rw f later
        by false b e f later = later

    pub filter_kept : ((x : X) → q x ≡ true → keep x ≡ true) → (xs : List X) → filter q (filter keep xs) ≡ filter q xs
    filter_kept h [] = refl
    filter_kept h (x ∷ xs) = by (keep x) (q x) refl refl (filter_kept h xs)
      where
        by : (k b : Bool) → keep x ≡ k → q x ≡ b → filter q (filter keep xs) ≡ filter q xs → filter q (cond k (x ∷ filter keep xs) (filter keep xs)) ≡ cond b (x ∷ filter q xs) (filter q xs)
        by true b e f later = rw f (ap (λ o. cond b (x ∷ o) o) later)
        by false true e f later = absurd (true≢false (sym (h x f) ∙ e))
        by false false e f later = later

  -- all elements pass, or all fail
  pub filter_all : (p : X → Bool) (xs : List X) → AllByRecursion (λ x. p x ≡ true) xs → filter p xs ≡ xs
  filter_all p [] h = refl
  filter_all p (x ∷ xs) h = rw h.0 (ap (λ l. x ∷ l) (filter_all p xs h.1))

  -- each element that passes is this one
  pub unique : (R : X → X → Type 0) (q : X → Bool) → ((a b : X) → R a b → q a ≡ true → q b ≡ true → ⊥) → (xs : List X) → AllPairs R xs → (x : X) → find q xs ≡ Some x → AllByRecursion (λ y. q y ≡ true → y ≡ x) xs
  unique R q apart [] pairs x e = tt
  unique R q apart (y ∷ ys) pairs x e = by (q y) refl e (unique R q apart ys (pairs_tail R y ys pairs) x)
    where
      none_else : q y ≡ true → (zs : List X) → All (R y) zs → AllByRecursion (λ z. q z ≡ true → z ≡ x) zs
      none_else f [] a = tt
      none_else f (z ∷ zs) a = ((λ g. absurd (apart y z (All-head (R y) z zs a) f g)), none_else f zs (All-tail (R y) z zs a))

      by : (b : Bool) → q y ≡ b → cond b (Some y) (find q ys) ≡ Some x → (find q ys ≡ Some x → AllByRecursion (λ z. q z ≡ true → z ≡ x) ys) → AllByRecursion (λ z. q z ≡ true → z ≡ x) (y ∷ ys)
      by true f e later = ((λ g. some_is y x e), none_else f ys (pairs_head R y ys pairs))
      by false f e later = ((λ g. absurd (true≢false (sym g ∙ f))), later e)

  -- ---- an element is put between those before it and those behind it

  abbrev pub put : (p r : X → Bool) → List X → X → List X
  put p r xs x = filter p xs ++ x ∷ filter r xs

  module _ (R : X → X → Type 0) (x : X) where
    pairs_joined : (xs ys : List X) → AllPairs R xs → All (λ y. R y x) xs → AllPairs R ys → All (R x) ys → ((a b : X) → R a x → R x b → R a b) → AllPairs R (xs ++ x ∷ ys)
    pairs_joined [] ys a b c d t = AllPairs-cons R x ys d c
    pairs_joined (y ∷ xs) ys a b c d t =
        let here : R y x = All-head (λ z. R z x) y xs b in
        AllPairs-cons R y (xs ++ x ∷ ys)
        (All-append (R y) xs (x ∷ ys) (pairs_head R y xs a) (All-cons (R y) x ys here (beyond y here ys d)))
        (pairs_joined xs ys (pairs_tail R y xs a) (All-tail (λ z. R z x) y xs b) c d t)
      where
        beyond : (y : X) → R y x → (zs : List X) → All (R x) zs → All (R y) zs
        beyond y h zs all = λ k e within. t y _ h (all k e within)

    passes : (p : X → Bool) (P : X → Type 0) → ((y : X) → p y ≡ true → P y) → (ys : List X) → All P (filter p ys)
    passes p P h [] = λ k d within. absurd (omega arith)
    passes p P h (y ∷ ys) = by (p y) refl (passes p P h ys)
      where
        by : (b : Bool) → p y ≡ b → All P (filter p ys) → All P (cond b (y ∷ filter p ys) (filter p ys))
        by true e later = All-cons P y (filter p ys) (h y e) later
        by false e later = later

    pub put_ordered : (p r : X → Bool) → ((y : X) → p y ≡ true → R y x) → ((y : X) → r y ≡ true → R x y) → ((a b : X) → R a x → R x b → R a b) → (xs : List X) → AllPairs R xs → AllPairs R (put p r xs x)
    put_ordered p r before behind t xs pairs =
        pairs_joined (filter p xs) (filter r xs) (AllPairs-filter R p xs pairs) (passes p (λ y. R y x) before xs) (AllPairs-filter R r xs pairs) (passes r (R x) behind xs) t

  -- ---- what is found then: the new one by a test that only elements pass which stand where it does, and by any other what was there
  module _ (p q r t : X → Bool) (x : X) (xs : List X) (without : filter (λ y. not (q y)) xs ≡ filter p xs ++ filter r xs) where
    pub find_put_new : t x ≡ true → ((y : X) → t y ≡ true → p y ≡ false) → find t (put p r xs x) ≡ Some x
    find_put_new it h = find_append t (filter p xs) (x ∷ filter r xs) ∙ ap (λ o. or_else o (find t (x ∷ filter r xs))) (find_none_kept t p h xs) ∙ ap (λ b. cond b (Some x) (find t (filter r xs))) it

    pub find_put_other : t x ≡ false → ((y : X) → t y ≡ true → not (q y) ≡ true) → find t (put p r xs x) ≡ find t xs
    find_put_other it h =
        find_append t (filter p xs) (x ∷ filter r xs) ∙ ap (λ b. or_else (find t (filter p xs)) (cond b (Some x) (find t (filter r xs)))) it
        ∙ sym (find_append t (filter p xs) (filter r xs)) ∙ ap (find t) (sym without) ∙ find_kept t (λ y. not (q y)) h xs

    pub any_put_new : t x ≡ true → list_any t (put p r xs x) ≡ true
    any_put_new it = list_any-append t (filter p xs) (x ∷ filter r xs) ∙ ap (λ b. list_any t (filter p xs) || (b || list_any t (filter r xs))) it ∙ by (list_any t (filter p xs))
      where
        by : (b : Bool) → (b || true) ≡ true
        by true = refl
        by false = refl

    pub any_put_other : t x ≡ false → ((y : X) → t y ≡ true → not (q y) ≡ true) → list_any t (put p r xs x) ≡ list_any t xs
    any_put_other it h =
        list_any-append t (filter p xs) (x ∷ filter r xs) ∙ ap (λ b. list_any t (filter p xs) || (b || list_any t (filter r xs))) it
        ∙ sym (list_any-append t (filter p xs) (filter r xs)) ∙ ap (list_any t) (sym without) ∙ any_kept t (λ y. not (q y)) h xs

module _ {X : Type 0} where
  pub filter_kept_all : (q keep : X → Bool) (xs : List X) → AllByRecursion (λ x. q x ≡ true → keep x ≡ true) xs → filter q (filter keep xs) ≡ filter q xs
  filter_kept_all q keep [] h = refl
  filter_kept_all q keep (x ∷ xs) h = by (keep x) (q x) refl refl (filter_kept_all q keep xs h.1)
    where
      by : (k b : Bool) → keep x ≡ k → q x ≡ b → filter q (filter keep xs) ≡ filter q xs → filter q (cond k (x ∷ filter keep xs) (filter keep xs)) ≡ cond b (x ∷ filter q xs) (filter q xs)
      by true b e f later = rw f (ap (λ o. cond b (x ∷ o) o) later)
      by false true e f later = absurd (true≢false (sym (h.0 f) ∙ e))
      by false false e f later = later

  -- what is found among the elements that pass, where only one may be found
  abbrev pub if_passes : (X → Bool) → Option X → Option X
  if_passes keep None = None
  if_passes keep (Some x) = cond (keep x) (Some x) None

  pub find_filtered : (q keep : X → Bool) (xs : List X) (o : Option X) → find q xs ≡ o → ((x : X) → o ≡ Some x → AllByRecursion (λ y. q y ≡ true → y ≡ x) xs) → find q (filter keep xs) ≡ if_passes keep o
  find_filtered q keep [] o e only = ap (if_passes keep) e
  find_filtered q keep (x ∷ xs) o e only = by (q x) (keep x) refl refl o e only (find_filtered q keep xs)
    where
      none : (z : X) (ys : List X) → keep z ≡ false → AllByRecursion (λ y. q y ≡ true → y ≡ z) ys → find q (filter keep ys) ≡ None
      none z [] k a = refl
      none z (y ∷ ys) k a = here (q y) (keep y) refl refl (none z ys k a.1)
        where
          here : (b c : Bool) → q y ≡ b → keep y ≡ c → find q (filter keep ys) ≡ None → find q (cond c (y ∷ filter keep ys) (filter keep ys)) ≡ None
          here true true f g later = absurd (true≢false (sym g ∙ ap keep (a.0 f) ∙ k))
          here false true f g later = rw f later
          here b false f g later = later

      by : (b c : Bool) → q x ≡ b → keep x ≡ c → (o : Option X) → cond b (Some x) (find q xs) ≡ o → ((z : X) → o ≡ Some z → AllByRecursion (λ y. q y ≡ true → y ≡ z) (x ∷ xs))
          → ((o : Option X) → find q xs ≡ o → ((z : X) → o ≡ Some z → AllByRecursion (λ y. q y ≡ true → y ≡ z) xs) → find q (filter keep xs) ≡ if_passes keep o)
          → find q (cond c (x ∷ filter keep xs) (filter keep xs)) ≡ if_passes keep o
      by true true f g o e only later = rw f (rw (sym e) (rw g refl))
      by true false f g o e only later = rw (sym e) (rw g (none x xs g (only x (sym e)).1))
      by false c f g o e only later = here c refl (later o e (λ z h. (only z h).1))
        where
          here : (d : Bool) → c ≡ d → find q (filter keep xs) ≡ if_passes keep o → find q (cond c (x ∷ filter keep xs) (filter keep xs)) ≡ if_passes keep o
          here true h i = rw h (rw f i)
          here false h i = rw h i

  pub length_filtered_twice : (p q : X → Bool) (xs : List X) → length (filter p (filter q xs)) ≤ length (filter p xs)
  length_filtered_twice p q [] = omega arith
  length_filtered_twice p q (x ∷ xs) = by (q x) (p x) refl (length_filtered_twice p q xs)
    where
      by : (b c : Bool) → p x ≡ c → length (filter p (filter q xs)) ≤ length (filter p xs) → length (filter p (cond b (x ∷ filter q xs) (filter q xs))) ≤ length (cond c (x ∷ filter p xs) (filter p xs))
      by true true e h = rw e (omega arith)
      by true false e h = rw e h
      by false true e h = omega arith
      by false false e h = h

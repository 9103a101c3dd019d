-- A list in order, and where something stands in it.
use Rattle.std.proofs.Common.{◌≡◌, ℕ, zero, suc, ◌<◌, ◌≤◌, List, [], ◌∷◌, ◌++◌, ◌⊎◌, inl, inr, Option, Some, None, Bool, true, false, true≢false, length, take, drop, refl, sym, ap, subst, ◌∙◌, arith}
use Rattle.std.specs.Prelude.{not, cond, filter, find, AllPairs, slice_index_or, slice_get, is_some}
use Rattle.std.specs.List.{AllWithin, AllByRecursion}
use Rattle.std.specs.List.Sorted.{IsPartitionedBy}
use Rattle.std.specs.Option.{option_to_list}
use Rattle.std.proofs.lemmas.Bool.{cases_lt}
use Rattle.std.proofs.lemmas.List.Elements.{recursion_from_All}
use Rattle.clock_rule.proofs.lemmas.Keeping.{pairs_head, pairs_tail}
use Rattle.clock_rule.proofs.lemmas.Lists.{some_is}

-- what stands before something, at it and behind it
pub record IsProbe {X : Type 0} (R : X → X → Type 0) (p q r : X → Bool) : Type 0 where
  pub cases : (a : X) → ((p a ≡ true) × (q a ≡ false) × (r a ≡ false)) ⊎ (((p a ≡ false) × (q a ≡ true) × (r a ≡ false)) ⊎ ((p a ≡ false) × (q a ≡ false) × (r a ≡ true)))
  -- what stands behind an element that isn't before it is behind it
  pub up : (a b : X) → R a b → p a ≡ false → r b ≡ true

module _ {X : Type 0} where
  -- ---- by a test that no element passes after one that fails it

  pub front_and_rest : (p : X → Bool) (xs : List X) (i : ℕ) → i ≤ length xs → AllWithin (λ y. p y ≡ true) xs 0 i → AllWithin (λ y. p y ≡ false) xs i (length xs)
      → (take i xs ≡ filter p xs) × (drop i xs ≡ filter (λ y. not (p y)) xs)
  front_and_rest p [] zero h a b = (refl, refl)
  front_and_rest p [] (suc i) h a b = (refl, refl)
  front_and_rest p (x ∷ xs) zero h a b =
      let no : p x ≡ false = b 0 x (omega arith) (omega arith) in
      let rest = front_and_rest p xs zero (omega arith) (λ k d low high. absurd (omega arith)) (λ k d low high. b (suc k) d (omega arith) (omega arith)) in
      (rest.0 ∙ ap (λ t. cond t (x ∷ filter p xs) (filter p xs)) (sym no), ap (λ l. x ∷ l) rest.1 ∙ ap (λ t. cond (not t) (x ∷ filter (λ y. not (p y)) xs) (filter (λ y. not (p y)) xs)) (sym no))
  front_and_rest p (x ∷ xs) (suc i) h a b =
      let yes : p x ≡ true = a 0 x (omega arith) (omega arith) in
      let rest = front_and_rest p xs i (omega arith) (λ k d low high. a (suc k) d (omega arith) (omega arith)) (λ k d low high. b (suc k) d (omega arith) (omega arith)) in
      (ap (λ l. x ∷ l) rest.0 ∙ ap (λ t. cond t (x ∷ filter p xs) (filter p xs)) (sym yes), rest.1 ∙ ap (λ t. cond (not t) (x ∷ filter (λ y. not (p y)) xs) (filter (λ y. not (p y)) xs)) (sym yes))

  module _ (R : X → X → Type 0) (p q r : X → Bool) (probe : IsProbe R p q r) where
    is_apart : (b : X) → r b ≡ true → p b ≡ true → ⊥
    is_apart b behind before = elim (probe.cases b) [
      | inl h ↦ true≢false (sym behind ∙ h.2)
      | inr (inl h) ↦ true≢false (sym behind ∙ h.2)
      | inr (inr h) ↦ true≢false (sym before ∙ h.0)
    ]

    pub parted : (xs : List X) → AllPairs R xs → IsPartitionedBy p xs
    parted xs pairs i j d within last before = elim (cases_lt i j) [
      | inl less ↦ by less (p (slice_index_or xs i d)) refl
      | inr same ↦ subst (λ (k : ℕ). p (slice_index_or xs k d) ≡ true) (omega arith) before
    ]
      where
        by : i < j → (b : Bool) → p (slice_index_or xs i d) ≡ b → p (slice_index_or xs i d) ≡ true
        by less true e = e
        by less false e = absurd (is_apart (slice_index_or xs j d) (probe.up (slice_index_or xs i d) (slice_index_or xs j d) (pairs i j d less last) e) before)

    -- all stand behind
    record AreBehind (xs : List X) : Type 0 where
      pub front : filter p xs ≡ []
      pub none : find q xs ≡ None
      pub rest : filter (λ y. not (p y)) xs ≡ filter r xs
      pub left : filter (λ y. not (q y)) xs ≡ filter r xs

    are_behind : (xs : List X) → AllByRecursion (λ y. r y ≡ true) xs → AreBehind xs
    are_behind [] h = record { front = refl; none = refl; rest = refl; left = refl }
    are_behind (x ∷ xs) h = elim (probe.cases x) [
      | inl c ↦ absurd (true≢false (sym h.0 ∙ c.2))
      | inr (inl c) ↦ absurd (true≢false (sym h.0 ∙ c.2))
      | inr (inr c) ↦
          let later = are_behind xs h.1 in
          record {
            front = ap (λ t. cond t (x ∷ filter p xs) (filter p xs)) c.0 ∙ later.front;
            none = ap (λ t. cond t (Some x) (find q xs)) c.1 ∙ later.none;
            rest = rw (c.0, c.2) (ap (λ l. x ∷ l) later.rest);
            left = rw (c.1, c.2) (ap (λ l. x ∷ l) later.left);
          }
    ]

    -- what is left of a list behind those before, and without the one
    pub record IsSplit (xs : List X) : Type 0 where
      pub rest : filter (λ y. not (p y)) xs ≡ option_to_list (find q xs) ++ filter r xs
      pub left : filter (λ y. not (q y)) xs ≡ filter p xs ++ filter r xs

    later_behind : (x : X) (xs : List X) → p x ≡ false → AllPairs R (x ∷ xs) → AreBehind xs
    later_behind x xs e pairs = are_behind xs (recursion_from_All (λ y. r y ≡ true) xs (λ k d within. probe.up x (slice_index_or xs k d) (pairs_head R x xs pairs k d within) e))

    pub split : (xs : List X) → AllPairs R xs → IsSplit xs
    split [] pairs = record { rest = refl; left = refl }
    split (x ∷ xs) pairs = elim (probe.cases x) [
      | inl c ↦
          let later = split xs (pairs_tail R x xs pairs) in
          record { rest = rw (c.0, c.1, c.2) later.rest; left = rw (c.0, c.1, c.2) (ap (λ l. x ∷ l) later.left) }
      | inr (inl c) ↦
          let later = later_behind x xs c.0 pairs in
          record { rest = rw (c.0, c.1, c.2) (ap (λ l. x ∷ l) later.rest); left = rw (c.0, c.1, c.2) (later.left ∙ ap (λ l. l ++ filter r xs) (sym later.front)) }
      | inr (inr c) ↦
          let later = later_behind x xs c.0 pairs in
          record {
            rest = rw (c.0, c.1, c.2) (ap (λ l. x ∷ l) later.rest ∙ ap (λ o. option_to_list o ++ x ∷ filter r xs) (sym later.none));
            left = rw (c.0, c.1, c.2) (ap (λ l. x ∷ l) later.left ∙ ap (λ l. l ++ x ∷ filter r xs) (sym later.front));
          }
    ]

    found_is : (xs : List X) (x : X) → find q xs ≡ Some x → q x ≡ true
    found_is [] x e = absurd cc
    found_is (y ∷ xs) x e = by (q y) refl (found_is xs x) e
      where
        by : (b : Bool) → q y ≡ b → (find q xs ≡ Some x → q x ≡ true) → cond b (Some y) (find q xs) ≡ Some x → q x ≡ true
        by true is later e = subst (λ (z : X). q z ≡ true) (some_is y x e) is
        by false is later e = later e

    -- whether the one stands at the head of the rest
    abbrev pub is_it : Option X → Bool
    is_it None = false
    is_it (Some x) = q x

    pub at_head : (xs : List X) (i : ℕ) → drop i xs ≡ option_to_list (find q xs) ++ filter r xs → is_it (slice_get xs i) ≡ is_some (find q xs)
    at_head xs i e = ap is_it (got xs i) ∙ ap (λ (l : List X). is_it (slice_get l 0)) e ∙ by (find q xs) refl (filter r xs) (behind xs)
      where
        got : (ys : List X) (k : ℕ) → slice_get ys k ≡ slice_get (drop k ys) 0
        got [] zero = refl
        got [] (suc k) = refl
        got (y ∷ ys) zero = refl
        got (y ∷ ys) (suc k) = got ys k

        behind : (ys : List X) → AllByRecursion (λ y. q y ≡ false) (filter r ys)
        behind [] = tt
        behind (y ∷ ys) = elim (probe.cases y) [
          | inl c ↦ rw c.2 (behind ys)
          | inr (inl c) ↦ rw c.2 (behind ys)
          | inr (inr c) ↦ rw c.2 (c.1, behind ys)
        ]

        by : (o : Option X) → find q xs ≡ o → (ys : List X) → AllByRecursion (λ y. q y ≡ false) ys → is_it (slice_get (option_to_list o ++ ys) 0) ≡ is_some o
        by None f [] a = refl
        by None f (y ∷ ys) a = a.0
        by (Some x) f ys a = found_is xs x f

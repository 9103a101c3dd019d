-- Lists by place: what an element appended, or put in another's place, makes of them.
use Rattle.std.proofs.Common.{◌≡◌, ℕ, zero, suc, ◌<◌, ◌≤◌, List, [], ◌∷◌, ◌++◌, ◌⊎◌, inl, inr, Some, None, Bool, false, length, get_or, take, refl, sym, ap, subst, ◌∙◌, arith, length-take}
use Rattle.std.specs.Prelude.{slice_get, slice_set, All, Any, AllPairs, find, cond}
use Rattle.std.specs.List.{AllByRecursion}
use Rattle.std.proofs.lemmas.List.{get_or-take, get_or_append_left, length_push}
use Rattle.std.proofs.lemmas.List.Elements.{recursion_from_All}
use Rattle.std.proofs.lemmas.List.Quantifiers.{Any-push}
use Rattle.std.proofs.lemmas.Bool.{cases_lt}
use Rattle.std.proofs.lemmas.Option.{slice_get-get_or}

pub some_is : {A : Type 0} (a b : A) → Some a ≡ Some b → a ≡ b
some_is a b e = cc

pub nothing_there : {A B : Type 0} (a : A) → None ≡ Some a → B
nothing_there a e = absurd cc

default_free : {A : Type 0} (xs : List A) (i : ℕ) (d e : A) → i < length xs → get_or xs i d ≡ get_or xs i e
default_free xs i d e h = some_is (get_or xs i d) (get_or xs i e) (sym (slice_get-get_or xs i d h) ∙ slice_get-get_or xs i e h)

-- what holds of an element holds of it whatever is read past the end
pub at_any : {A : Type 0} (P : A → Type 0) (xs : List A) (i : ℕ) (d e : A) → i < length xs → P (get_or xs i d) → P (get_or xs i e)
at_any P xs i d e h p = subst P (default_free xs i d e h) p

-- an element of a list with one more is the new one, or was there
pub of_appended : {A : Type 0} (xs : List A) (x : A) (k : ℕ) (y : A) → slice_get (xs ++ x ∷ []) k ≡ Some y → ((k ≡ length xs) × (y ≡ x)) ⊎ (slice_get xs k ≡ Some y)
of_appended [] x zero y e = inl (refl, sym (some_is x y e))
of_appended [] x (suc k) y e = nothing_there y e
of_appended (z ∷ xs) x zero y e = inr e
of_appended (z ∷ xs) x (suc k) y e = elim (of_appended xs x k y e) [ inl h ↦ inl (ap suc h.0, h.1) | inr h ↦ inr h ]

pub kept_appended : {A : Type 0} (xs : List A) (x : A) (k : ℕ) (y : A) → slice_get xs k ≡ Some y → slice_get (xs ++ x ∷ []) k ≡ Some y
kept_appended [] x k y e = nothing_there y e
kept_appended (z ∷ xs) x zero y e = e
kept_appended (z ∷ xs) x (suc k) y e = kept_appended xs x k y e

pub at_end : {A : Type 0} (xs : List A) (x : A) → slice_get (xs ++ x ∷ []) (length xs) ≡ Some x
at_end [] x = refl
at_end (z ∷ xs) x = at_end xs x

-- an element of a list with one replaced is the new one, or was there at another place
pub of_replaced : {A : Type 0} (xs : List A) (i : ℕ) (x : A) (k : ℕ) (y : A) → slice_get (slice_set xs i x) k ≡ Some y → ((k ≡ i) × (y ≡ x)) ⊎ ((k ≡ i → ⊥) × (slice_get xs k ≡ Some y))
of_replaced [] i x k y e = nothing_there y e
of_replaced (z ∷ xs) zero x zero y e = inl (refl, sym (some_is x y e))
of_replaced (z ∷ xs) zero x (suc k) y e = inr ((λ q. omega arith), e)
of_replaced (z ∷ xs) (suc i) x zero y e = inr ((λ q. omega arith), e)
of_replaced (z ∷ xs) (suc i) x (suc k) y e = elim (of_replaced xs i x k y e) [ inl h ↦ inl (ap suc h.0, h.1) | inr h ↦ inr ((λ q. h.0 (omega arith)), h.1) ]

pub at_replaced : {A : Type 0} (xs : List A) (i : ℕ) (x y : A) → slice_get xs i ≡ Some y → slice_get (slice_set xs i x) i ≡ Some x
at_replaced [] i x y e = nothing_there y e
at_replaced (z ∷ xs) zero x y e = refl
at_replaced (z ∷ xs) (suc i) x y e = at_replaced xs i x y e

pub else_replaced : {A : Type 0} (xs : List A) (i : ℕ) (x : A) (k : ℕ) (y : A) → slice_get xs k ≡ Some y → (k ≡ i) ⊎ (slice_get (slice_set xs i x) k ≡ Some y)
else_replaced [] i x k y e = inr e
else_replaced (z ∷ xs) zero x zero y e = inl refl
else_replaced (z ∷ xs) zero x (suc k) y e = inr e
else_replaced (z ∷ xs) (suc i) x zero y e = inr e
else_replaced (z ∷ xs) (suc i) x (suc k) y e = elim (else_replaced xs i x k y e) [ inl h ↦ inl (ap suc h) | inr h ↦ inr h ]

-- what no element passes isn't found
find_none : {A : Type 0} (test : A → Bool) (xs : List A) → AllByRecursion (λ x. test x ≡ false) xs → find test xs ≡ None
find_none test [] h = refl
find_none test (x ∷ xs) h = ap (λ b. cond b (Some x) (find test xs)) h.0 ∙ find_none test xs h.1

pub none_found : {A : Type 0} (test : A → Bool) (xs : List A) → All (λ x. test x ≡ false) xs → find test xs ≡ None
none_found test xs h = find_none test xs (recursion_from_All (λ x. test x ≡ false) xs h)

-- in front of the new one stand the old ones that were kept
pub in_front : {A : Type 0} (xs : List A) (keep : ℕ) (v : A) (k : ℕ) (d : A) → keep ≤ length xs → k < keep → get_or (take keep xs ++ v ∷ []) k d ≡ get_or xs k d
in_front xs keep v k d within h =
    let long : k < length (take keep xs) = omega (arith, length-take keep xs) in
    get_or_append_left (take keep xs) (v ∷ []) d k long ∙ get_or-take keep xs k d h

pub any_kept : {A : Type 0} (P : A → Type 0) (xs : List A) (keep : ℕ) (v : A) → keep ≤ length xs → ((k : ℕ) (d : A) → keep ≤ k → k < length xs → P (get_or xs k d) → P v) → Any P xs → Any P (take keep xs ++ v ∷ [])
any_kept P xs keep v within passes h = elim (cases_lt h.0 keep) [
  | inl below ↦ (h.0, h.1, omega (arith, length-take keep xs, length_push (take keep xs) v), in_front xs keep v h.0 h.1 within below ∙ h.3, h.4)
  | inr beyond ↦ Any-push P (take keep xs) v (passes h.0 h.1 beyond h.2 (subst P (sym h.3) h.4))
]

pub pairs_taken : {A : Type 0} (R : A → A → Type 0) (xs : List A) (n : ℕ) → n ≤ length xs → AllPairs R xs → AllPairs R (take n xs)
pairs_taken R xs n within h = λ i j d before last.
    let short : j < n = omega (arith, length-take n xs) in
    subst (λ x. R x (get_or (take n xs) j d)) (sym (get_or-take n xs i d (omega arith)))
    (subst (λ y. R (get_or xs i d) y) (sym (get_or-take n xs j d short)) (h i j d before (omega arith)))

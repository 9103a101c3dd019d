-- The element of a list at a number becomes another: when two such changes may be swapped, and what stays.
use Rattle.std.proofs.Common.{◌≡◌, ℕ, zero, suc, List, [], ◌∷◌, Some, None, refl, ap, ◌∙◌, Option, sym, length, ◌⊎◌, inl, inr, ◌++◌}
use Rattle.kept_promise.proofs.Common.{slice_get, slice_set, numbered, with_numbered}
use Rattle.kept_promise.proofs.Lists.{nothing_there, of_appended, of_replaced}

abbrev pub at_place : {A : Type 0} → (A → A) → List A → ℕ → List A
at_place f [] k = []
at_place f (q ∷ qs) zero = f q ∷ qs
at_place f (q ∷ qs) (suc k) = q ∷ at_place f qs k

abbrev pub becomes : {A : Type 0} → (A → A) → List A → (number : ℕ) → List A
becomes f qs zero = qs
becomes f qs (suc k) = at_place f qs k

place_count : {A : Type 0} (f : A → A) (qs : List A) (k : ℕ) → length (at_place f qs k) ≡ length qs
place_count f [] k = refl
place_count f (q ∷ qs) zero = refl
place_count f (q ∷ qs) (suc k) = ap suc (place_count f qs k)

pub become_count : {A : Type 0} (f : A → A) (qs : List A) (number : ℕ) → length (becomes f qs number) ≡ length qs
become_count f qs zero = refl
become_count f qs (suc k) = place_count f qs k

place_there : {A : Type 0} (f : A → A) (qs : List A) (k : ℕ) (q : A) → slice_get qs k ≡ Some q → slice_set qs k (f q) ≡ at_place f qs k
place_there f [] k q e = absurd cc
place_there f (p ∷ ps) zero q e = let same : q ≡ p = cc in ap (λ z. f z ∷ ps) same
place_there f (p ∷ ps) (suc k) q e = ap (λ zs. p ∷ zs) (place_there f ps k q e)

place_none : {A : Type 0} (f : A → A) (qs : List A) (k : ℕ) → slice_get qs k ≡ None → at_place f qs k ≡ qs
place_none f [] k e = refl
place_none f (p ∷ ps) zero e = absurd cc
place_none f (p ∷ ps) (suc k) e = ap (λ zs. p ∷ zs) (place_none f ps k e)

pub there_is : {A : Type 0} (f : A → A) (qs : List A) (number : ℕ) (q : A) → numbered qs number ≡ Some q → with_numbered qs number (f q) ≡ becomes f qs number
there_is f qs zero q e = refl
there_is f qs (suc k) q e = place_there f qs k q e

pub none_is : {A : Type 0} (f : A → A) (qs : List A) (number : ℕ) → numbered qs number ≡ None → becomes f qs number ≡ qs
none_is f qs zero e = refl
none_is f qs (suc k) e = place_none f qs k e

-- what is put in place of what stands there, if anything does
pub put_is : {A : Type 0} (put : Option A → List A) (f : A → A) (qs : List A) (number : ℕ) → put None ≡ qs → ((q : A) → put (Some q) ≡ with_numbered qs number (f q)) → put (numbered qs number) ≡ becomes f qs number
put_is {A = A} put f qs number none some = by (numbered qs number) refl
  where
    by : (o : Option A) → numbered qs number ≡ o → put o ≡ becomes f qs number
    by None e = none ∙ sym (none_is f qs number e)
    by (Some q) e = some q ∙ there_is f qs number q e

place_next : {A : Type 0} (f g : A → A) (qs : List A) (k : ℕ) (q r : A) → slice_get qs k ≡ Some q → f q ≡ g r → at_place f qs k ≡ at_place g (slice_set qs k r) k
place_next f g [] k q r e is = absurd cc
place_next f g (p ∷ ps) zero q r e is = let same : p ≡ q = cc in ap (λ z. z ∷ ps) (ap f same ∙ is)
place_next f g (p ∷ ps) (suc k) q r e is = ap (λ zs. p ∷ zs) (place_next f g ps k q r e is)

-- one that was put there first, and became the same
pub next_is : {A : Type 0} (f g : A → A) (qs : List A) (number : ℕ) (q r : A) → numbered qs number ≡ Some q → f q ≡ g r → becomes f qs number ≡ becomes g (with_numbered qs number r) number
next_is f g qs zero q r e is = absurd cc
next_is f g qs (suc k) q r e is = place_next f g qs k q r e is

place_swap : {A : Type 0} (f g : A → A) → ((q : A) → f (g q) ≡ g (f q)) → (qs : List A) (i k : ℕ) → at_place f (at_place g qs i) k ≡ at_place g (at_place f qs k) i
place_swap f g h (q ∷ qs) zero zero = ap (λ z. z ∷ qs) (h q)
place_swap f g h (q ∷ qs) (suc i) (suc k) = ap (λ zs. q ∷ zs) (place_swap f g h qs i k)
place_swap f g h _ _ _ = refl

pub swap : {A : Type 0} (f g : A → A) → ((q : A) → f (g q) ≡ g (f q)) → (qs : List A) (i k : ℕ) → becomes f (becomes g qs i) k ≡ becomes g (becomes f qs k) i
swap f g h qs (suc i) (suc k) = place_swap f g h qs i k
swap f g h qs _ _ = refl

place_twice : {A : Type 0} (f g : A → A) (ws : List A) (k : ℕ) → at_place f (at_place g ws k) k ≡ at_place (λ q. f (g q)) ws k
place_twice f g (q ∷ qs) (suc k) = ap (λ zs. q ∷ zs) (place_twice f g qs k)
place_twice f g _ _ = refl

pub twice : {A : Type 0} (f g : A → A) (ws : List A) (number : ℕ) → becomes f (becomes g ws number) number ≡ becomes (λ q. f (g q)) ws number
twice f g ws zero = refl
twice f g ws (suc k) = place_twice f g ws k

place_own : {A : Type 0} (f : A → A) (ws : List A) (k : ℕ) (q : A) → slice_get ws k ≡ Some q → slice_get (at_place f ws k) k ≡ Some (f q)
place_own f [] k q e = absurd cc
place_own f (p ∷ ps) zero q e = let same : p ≡ q = cc in ap (λ z. Some (f z)) same
place_own f (p ∷ ps) (suc k) q e = place_own f ps k q e

pub own : {A : Type 0} (f : A → A) (ws : List A) (number : ℕ) (q : A) → numbered ws number ≡ Some q → numbered (becomes f ws number) number ≡ Some (f q)
own f ws zero q e = absurd cc
own f ws (suc k) q e = place_own f ws k q e

place_same : {A : Type 0} (f : A → A) → ((q : A) → f q ≡ q) → (qs : List A) (k : ℕ) → at_place f qs k ≡ qs
place_same f h [] k = refl
place_same f h (q ∷ qs) zero = ap (λ z. z ∷ qs) (h q)
place_same f h (q ∷ qs) (suc k) = ap (λ zs. q ∷ zs) (place_same f h qs k)

pub become_same : {A : Type 0} (f : A → A) → ((q : A) → f q ≡ q) → (qs : List A) (n : ℕ) → becomes f qs n ≡ qs
become_same f h qs zero = refl
become_same f h qs (suc k) = place_same f h qs k

-- what is there has what the change leaves it
place_has : {A B : Type 0} (has : A → B) (f : A → A) → ((q : A) → has (f q) ≡ has q) → (qs : List A) (i k : ℕ) (q : A) → slice_get qs k ≡ Some q → (p : A) × (slice_get (at_place f qs i) k ≡ Some p) × (has p ≡ has q)
place_has has f h [] i k q e = absurd cc
place_has has f h (p ∷ ps) zero zero q e = let same : p ≡ q = cc in (f p, refl, h p ∙ ap has same)
place_has has f h (p ∷ ps) (suc i) (suc k) q e = place_has has f h ps i k q e
place_has has f h (p ∷ ps) _ _ q e = (q, e, refl)

pub become_has : {A B : Type 0} (has : A → B) (f : A → A) → ((q : A) → has (f q) ≡ has q) → (qs : List A) (i n : ℕ) (q : A) → numbered qs n ≡ Some q → (p : A) × (numbered (becomes f qs i) n ≡ Some p) × (has p ≡ has q)
become_has has f h qs zero n q e = (q, e, refl)
become_has has f h qs (suc i) zero q e = absurd cc
become_has has f h qs (suc i) (suc k) q e = place_has has f h qs i k q e

-- what stands at a number of a list with another there is that one, or was there
pub of_with : {A : Type 0} (xs : List A) (m n : ℕ) (y z : A) → numbered (with_numbered xs m y) n ≡ Some z → ((n ≡ m) × (z ≡ y)) ⊎ (numbered xs n ≡ Some z)
of_with xs zero n y z e = inr e
of_with xs (suc m) zero y z e = nothing_there z e
of_with xs (suc m) (suc n) y z e = elim (of_replaced xs m y n z e) [ inl h ↦ inl (ap suc h.0, h.1) | inr h ↦ inr h.1 ]

-- and of one with one more
pub of_more : {A : Type 0} (xs : List A) (n : ℕ) (y z : A) → numbered (xs ++ y ∷ []) n ≡ Some z → ((n ≡ suc (length xs)) × (z ≡ y)) ⊎ (numbered xs n ≡ Some z)
of_more xs zero y z e = nothing_there z e
of_more xs (suc n) y z e = elim (of_appended xs y n z e) [ inl h ↦ inl (ap suc h.0, h.1) | inr h ↦ inr h ]

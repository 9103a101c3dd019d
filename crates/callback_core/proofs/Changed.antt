-- A loop over a list that changes each of its elements.
use Rattle.std.proofs.Common.{◌≡◌, ℕ, zero, suc, ◌+◌, ◌<◌, List, [], ◌∷◌, ◌++◌, length, take, drop, refl, sym, ap, subst, arith}
use Rattle.std.specs.Prelude.{map, slice_index_or, slice_set}

module _ {A : Type 0} (f : A → A) where
  -- the first of them are changed, and the others not yet
  abbrev pub changed_to : (xs : List A) (i : ℕ) → List A
  changed_to xs i = map f (take i xs) ++ drop i xs

  one_more : (xs : List A) (i : ℕ) (x : A) → i < length xs → x ≡ slice_index_or (changed_to xs i) i x → slice_set (changed_to xs i) i (f x) ≡ changed_to xs (suc i)
  one_more [] i x h is = absurd (omega arith)
  one_more (y ∷ ys) zero x h is = ap (λ z. f z ∷ ys) is
  one_more (y ∷ ys) (suc i) x h is = ap (λ zs. f y ∷ zs) (one_more ys i x (omega arith) is)

  next : (i : ℕ) → suc i ≡ i + 1
  next i = omega arith

  pub changed_next : (now xs : List A) (i : ℕ) (x new : A) → now ≡ changed_to xs i → i < length xs → x ≡ slice_index_or now i x → new ≡ f x → slice_set now i new ≡ changed_to xs (i + 1)
  changed_next now xs i x new so_far h is made =
      subst (λ (n : ℕ). slice_set now i new ≡ changed_to xs n) (next i)
      (rw made (subst (λ (zs : List A). x ≡ slice_index_or zs i x → slice_set zs i (f x) ≡ changed_to xs (suc i)) (sym so_far) (one_more xs i x h) is))

-- Entries in reserved places that are looked through one by one.
use Rattle.std.proofs.Common.{◌≡◌, refl, sym, ap, subst, ◌∙◌, ℕ, suc, ◌+◌, ◌<◌, List, [], ◌∷◌, length, drop, Bool, true, false, true≢false, Option, Some, arith}
use Rattle.std.specs.Prelude.{cond, slice_index_or, IsSome, ◌&&◌, not}
use Rattle.std.specs.BTreeMap.{is_at}
use Rattle.std.specs.BTreeMap.Range.{range_contains}
use Rattle.std.specs.Cmp.{IsTotalOrder}
use Rattle.std.specs.Ordering.{is_eq, is_le, is_lt}
use Rattle.std.specs.declared.cmp.Ordering.{Ordering}
use Rattle.std.specs.declared.cmp.Ordering.TheVariants.{Less, Equal, Greater}
use Rattle.std.specs.declared.ops.Bound.TheVariants.{Included}
use Rattle.std.proofs.lemmas.Cmp.{alike_right, tied_itself}
use Rattle.lease_table.specs.Reserved.{at}
use Rattle.lease_table.proofs.Placing.{next}

equal_of : (o : Ordering) → is_eq o ≡ true → o ≡ Equal
equal_of Less e = absurd (true≢false (sym e))
equal_of Equal e = refl
equal_of Greater e = absurd (true≢false (sym e))

-- the one that is looked at
module _ {K V : Type 0} (R : K → K → Ordering) (spare : List (K × V)) (i : ℕ) (e : K × V) (within : i < length spare) (is : e ≡ slice_index_or spare i e) where
  here : drop i spare ≡ e ∷ drop (suc i) spare
  here = next spare i e within ∙ ap (λ (y : K × V). y ∷ drop (suc i) spare) (sym is)

  at_here : (k : K) → at R (drop i spare) k ≡ cond (is_at (R k) e.0) (Some e.1) (at R (drop (suc i) spare) k)
  at_here k = ap (λ (l : List (K × V)). at R l k) here

  -- it isn't under this key
  pub other_key : (k : K) → is_at (R k) e.0 ≡ false → at R (drop i spare) k ≡ at R spare k → at R (drop (i + 1) spare) k ≡ at R spare k
  other_key k differs so_far =
      let plus : i + 1 ≡ suc i = omega arith in
      ap (λ (n : ℕ). at R (drop n spare) k) plus ∙ sym (at_here k ∙ ap (λ b. cond b (Some e.1) (at R (drop (suc i) spare) k)) differs) ∙ so_far

  -- it is
  pub same_key : (k : K) → is_at (R k) e.0 ≡ true → at R (drop i spare) k ≡ at R spare k → Some e.1 ≡ at R spare k
  same_key k same so_far = sym (at_here k ∙ ap (λ b. cond b (Some e.1) (at R (drop (suc i) spare) k)) same) ∙ so_far

-- keys from the first up to the last
module _ {K : Type 0} (R : K → K → Ordering) (first last : K) where
  abbrev is_within : K → Bool
  is_within k = range_contains R (Included first) (Included last) k

  -- equal keys are both within, or neither is
  alike : IsTotalOrder R → (k e : K) → is_at (R k) e ≡ true → is_within k ≡ is_within e
  alike total k e same =
      let equal = equal_of (R k e) same in
      ap (λ o. is_le o && not (is_lt (R last k))) (alike_right total k e first equal) ∙ ap (λ o. is_le (R first e) && not (is_lt o)) (alike_right total k e last equal)

  differ : IsTotalOrder R → (k e : K) → is_within k ≡ true → is_within e ≡ false → (b : Bool) → is_at (R k) e ≡ b → is_at (R k) e ≡ false
  differ total k e is_in out true same = absurd (true≢false (sym is_in ∙ alike total k e same ∙ out))
  differ total k e is_in out false same = same

module _ {K V : Type 0} (R : K → K → Ordering) (total : IsTotalOrder R) (first last : K) (spare : List (K × V)) (i : ℕ) (e : K × V) (within : i < length spare) (is : e ≡ slice_index_or spare i e)
    (so_far : (k : K) → is_within R first last k ≡ true → at R (drop i spare) k ≡ at R spare k) where
  -- the key of the one that is looked at isn't
  pub out_of_it : is_within R first last e.0 ≡ false → (k : K) → is_within R first last k ≡ true → at R (drop (i + 1) spare) k ≡ at R spare k
  out_of_it out k is_in = other_key R spare i e within is k (differ R first last total k e.0 is_in out (is_at (R k) e.0) refl) (so_far k is_in)

  -- it is
  pub within_it : is_within R first last e.0 ≡ true → IsSome (at R spare e.0)
  within_it is_in = subst (λ (o : Option V). IsSome o) (same_key R spare i e within is e.0 (ap is_eq (tied_itself total e.0)) (so_far e.0 is_in)) refl

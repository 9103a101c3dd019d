-- What stands from one key up to another.
use Rattle.std.proofs.Common.{◌≡◌, refl, sym, ap, subst, ◌∙◌, List, [], ◌∷◌, Bool, true, false, Option, Some, None}
use Rattle.std.specs.Prelude.{cond, filter, ◌&&◌, ◌||◌, IsSome, IfSome, IfNone, slice_get}
use Rattle.std.specs.List.{list_any}
use Rattle.std.specs.BTreeMap.{BTreeMap, get}
use Rattle.std.specs.BTreeMap.Range.{range_contains, entries_between, IsInRange, IsRangeOf}
use Rattle.std.specs.Cmp.{IsTotalOrder}
use Rattle.std.specs.declared.cmp.Ordering.{Ordering}
use Rattle.std.specs.declared.ops.Bound.TheVariants.{Included}
use Rattle.std.proofs.lemmas.Map.Views.{IsInRange-from_range_contains, range_contains-from_IsInRange}
use Rattle.lease_table.specs.Reserved.{at, all_of, AreApart, IsWhole}
use Rattle.lease_table.proofs.Merged.{all_filtered, any_all}
use Rattle.lease_table.proofs.Placing.{part_apart}
use Rattle.lease_table.proofs.Whole.{some_held, some_spared, none_of_both}

ranged : {K V : Type 0} (R : K → K → Ordering) (m : BTreeMap K V) (a b first last : K) → a ≡ first → b ≡ last → (r : List (K × V)) → IsRangeOf R (Included a) (Included b) m r → IsRangeOf R (Included first) (Included last) m r
ranged R m a b first last p q r range = subst (λ x. IsRangeOf R (Included x) (Included last) m r) p (subst (λ y. IsRangeOf R (Included a) (Included y) m r) q range)

module _ {K V : Type 0} (R : K → K → Ordering) (total : IsTotalOrder R) where
  module _ (m : BTreeMap K V) (ps : List (K × V)) (whole : IsWhole R m.entries ps) where
    pub first_is_there : (a b first last k : K) (v : V) (r t : List (K × V)) → a ≡ first → b ≡ last → IsRangeOf R (Included a) (Included b) m r → r ≡ (k, v) ∷ t
        → (range_contains R (Included first) (Included last) k ≡ true) × IsSome (at R (all_of R m.entries ps) k)
    first_is_there a b first last k v r t p q range e =
        let there = head r e (ranged R m a b first last p q r range).1 in
        (range_contains-from_IsInRange total (Included first) (Included last) k there.0, some_held R total m.entries ps whole k v there.1)
      where
        head : (r : List (K × V)) → r ≡ (k, v) ∷ t → IfSome (slice_get r 0) (λ x. IsInRange R (Included first) (Included last) x.0 × (get R m x.0 ≡ Some x.1)) → IsInRange R (Included first) (Included last) k × (get R m k ≡ Some v)
        head r e h = subst (λ (l : List (K × V)). IfSome (slice_get l 0) (λ x. IsInRange R (Included first) (Included last) x.0 × (get R m x.0 ≡ Some x.1))) e h

  pub none_is_there : (a b first last : K) (m : BTreeMap K V) (r : List (K × V)) → a ≡ first → b ≡ last → IsRangeOf R (Included a) (Included b) m r → r ≡ [] → (k : K) → range_contains R (Included first) (Included last) k ≡ true → at R m.entries k ≡ None
  none_is_there a b first last m r p q range e k h = (ranged R m a b first last p q r range).5 e k (IsInRange-from_range_contains total (Included first) (Included last) k h)

  module _ (es ps : List (K × V)) (whole : IsWhole R es ps) (first last : K) (slice : List (K × V)) (is : slice ≡ ps) where
    pub one_spared : (o : Option K) → IfSome o (λ k. (range_contains R (Included first) (Included last) k ≡ true) × IsSome (at R slice k)) → IfSome o (λ k. (range_contains R (Included first) (Included last) k ≡ true) × IsSome (at R (all_of R es ps) k))
    one_spared None h = h
    one_spared (Some k) h = (h.0, some_spared R total es ps whole k (subst (λ (l : List (K × V)). IsSome (at R l k)) is h.1))

    pub none_spared : (o : Option K) → ((k : K) → range_contains R (Included first) (Included last) k ≡ true → at R es k ≡ None) → IfNone o ((k : K) → range_contains R (Included first) (Included last) k ≡ true → at R slice k ≡ None)
        → IfNone o ((k : K) → range_contains R (Included first) (Included last) k ≡ true → at R (all_of R es ps) k ≡ None)
    none_spared (Some k) held h = h
    none_spared None held h = λ k within. none_of_both R total es ps whole k (held k within) (ap (λ l. at R l k) (sym is) ∙ h k within)

any_passing : {X : Type 0} (p t : X → Bool) (xs : List X) → list_any t (filter p xs) ≡ list_any (λ x. p x && t x) xs
any_passing p t [] = refl
any_passing p t (x ∷ xs) = by (p x) (any_passing p t xs)
  where
    by : (b : Bool) → list_any t (filter p xs) ≡ list_any (λ x. p x && t x) xs → list_any t (cond b (x ∷ filter p xs) (filter p xs)) ≡ ((b && t x) || list_any (λ x. p x && t x) xs)
    by true h = ap (λ b. t x || b) h
    by false h = h

module _ {K V : Type 0} (R : K → K → Ordering) (total : IsTotalOrder R) (es ps : List (K × V)) (whole : IsWhole R es ps) (a b first last : K) (p : a ≡ first) (q : b ≡ last) where
  pub any_in_parts : (held slice : List (K × V)) → held ≡ entries_between R (Included a) (Included b) es → slice ≡ ps → (t : K × V → Bool)
      → list_any t (entries_between R (Included first) (Included last) (all_of R es ps)) ≡ (list_any (λ e. range_contains R (Included first) (Included last) e.0 && t e) slice || list_any t held)
  any_in_parts held slice in_map spared t =
      ap (list_any t) (all_filtered R total whole.exact (range_contains R (Included first) (Included last)) es ps whole.sorted)
      ∙ any_all R total whole.exact t _ (filter (λ e. range_contains R (Included first) (Included last) e.0) ps) apart
      ∙ ap (λ c. c || list_any t (entries_between R (Included first) (Included last) es)) (any_passing (λ e. range_contains R (Included first) (Included last) e.0) t ps ∙ ap (list_any (λ e. range_contains R (Included first) (Included last) e.0 && t e)) (sym spared))
      ∙ ap (λ l. list_any (λ e. range_contains R (Included first) (Included last) e.0 && t e) slice || list_any t l) (sym here)
    where
      here : held ≡ entries_between R (Included first) (Included last) es
      here = in_map ∙ ap (λ x. entries_between R (Included x) (Included b) es) p ∙ ap (λ y. entries_between R (Included first) (Included y) es) q

      apart : AreApart R (entries_between R (Included first) (Included last) es) (filter (λ e. range_contains R (Included first) (Included last) e.0) ps)
      apart = part_apart R total whole.exact es ps whole.sorted (range_contains R (Included first) (Included last)) _ refl ps refl whole.apart

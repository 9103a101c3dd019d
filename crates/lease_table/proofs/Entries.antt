-- Entries by rising key, after one is put among them or taken out.
use Rattle.std.proofs.Common.{◌≡◌, refl, sym, ap, subst, ◌∙◌, List, [], ◌∷◌, ◌++◌, Bool, true, false, true≢false, Some, None}
use Rattle.std.specs.Prelude.{cond, is_some, unwrap_or, not, filter, ◌||◌}
use Rattle.std.specs.BTreeMap.{insert_entry, is_at}
use Rattle.std.specs.Cmp.{IsTotalOrder}
use Rattle.std.specs.List.{AllByRecursion}
use Rattle.std.specs.List.Sorted.{IsStrictlySortedBy}
use Rattle.std.specs.Map.{keys_of, remove_entry}
use Rattle.std.specs.Ordering.{is_eq, match_ordering, ordering_reverse}
use Rattle.std.specs.declared.cmp.Ordering.{Ordering}
use Rattle.std.specs.declared.cmp.Ordering.TheVariants.{Less, Equal, Greater}
use Rattle.std.proofs.lemmas.Cmp.{tied_itself, eq_by_cmp_equiv}
use Rattle.std.proofs.lemmas.Map.{lookup-none, lookup-remove_entry}
use Rattle.std.proofs.lemmas.Map.Entries.{lookup-filter-keys, lookup_head, lookup_tail, none_below_head, none_past_head}
use Rattle.std.proofs.lemmas.Map.Keys.{sorted_head, sorted_tail, IsDistinct-from_sorted}
use Rattle.std.proofs.lemmas.Map.Lookups.{CmpEqualImpliesEq}
use Rattle.lease_table.specs.Reserved.{at}

pub not_true : (b : Bool) → not b ≡ true → b ≡ false
not_true true h = absurd (true≢false (sym h))
not_true false h = refl

module _ {K : Type 0} (R : K → K → Ordering) (total : IsTotalOrder R) (exact : CmpEqualImpliesEq R) where
  -- ---- a key against a key

  pub here_itself : (k : K) → is_at (R k) k ≡ true
  here_itself k = ap is_eq (tied_itself total k)

  equal_of : (o : Ordering) → is_eq o ≡ true → o ≡ Equal
  equal_of Less e = absurd (true≢false (sym e))
  equal_of Equal e = refl
  equal_of Greater e = absurd (true≢false (sym e))

  pub same_key : (q k : K) → is_at (R q) k ≡ true → q ≡ k
  same_key q k e = exact q k (equal_of (R q k) e)

  -- an equal key is one both ways
  pub not_back : (q k : K) → is_at (R k) q ≡ false → is_at (R q) k ≡ false
  not_back q k h = by (is_at (R q) k) refl
    where
      by : (b : Bool) → is_at (R q) k ≡ b → b ≡ false
      by true i = absurd (true≢false (sym (ap (λ z. is_at (R z) q) (sym (same_key q k i)) ∙ here_itself q) ∙ h))
      by false i = refl

  all_above : (j k : K) (ks : List K) → R j k ≡ Less → AllByRecursion (λ y. R k y ≡ Less) ks → AllByRecursion (λ y. R j y ≡ Less) ks
  all_above j k [] h a = tt
  all_above j k (y ∷ ys) h a = (total.trans j k y h a.0, all_above j k ys h a.1)

  flipped : (j k : K) → R j k ≡ Greater → R k j ≡ Less
  flipped j k h = total.antisymm k j ∙ ap ordering_reverse h

module _ {K V : Type 0} (R : K → K → Ordering) (total : IsTotalOrder R) (exact : CmpEqualImpliesEq R) where
  -- ---- an entry that is put in

  pub at_inserted : (es : List (K × V)) (k : K) (v : V) (q : K) → at R (insert_entry R es k v) q ≡ cond (is_at (R q) k) (Some v) (at R es q)
  at_inserted [] k v q = refl
  at_inserted (e ∷ es) k v q = by (R k e.0) refl (at_inserted es k v q)
    where
      same : k ≡ e.0 → (b : Bool) → is_at (R q) e.0 ≡ b → cond b (Some v) (at R es q) ≡ cond (is_at (R q) k) (Some v) (cond b (Some e.1) (at R es q))
      same p true h = ap (λ b. cond b (Some v) (Some e.1)) (sym (ap (is_at (R q)) p ∙ h))
      same p false h = ap (λ b. cond b (Some v) (at R es q)) (sym (ap (is_at (R q)) p ∙ h))

      other : (b c : Bool) → is_at (R q) e.0 ≡ b → is_at (R q) k ≡ c → R k e.0 ≡ Greater → cond b (Some e.1) (cond c (Some v) (at R es q)) ≡ cond c (Some v) (cond b (Some e.1) (at R es q))
      other true true h i p = absurd (greater_not (subst (λ (z : K). R z e.0 ≡ Greater) (sym (same_key R total exact q k i) ∙ same_key R total exact q e.0 h) p))
        where
          greater_not : R e.0 e.0 ≡ Greater → ⊥
          greater_not g = true≢false (sym (here_itself R total exact e.0) ∙ ap is_eq g)
      other true false h i p = refl
      other false true h i p = refl
      other false false h i p = refl

      by : (r : Ordering) → R k e.0 ≡ r → at R (insert_entry R es k v) q ≡ cond (is_at (R q) k) (Some v) (at R es q)
          → at R (match_ordering r ((k, v) ∷ e ∷ es) ((e.0, v) ∷ es) (e ∷ insert_entry R es k v)) q ≡ cond (is_at (R q) k) (Some v) (at R (e ∷ es) q)
      by Less p h = refl
      by Equal p h = same (exact k e.0 p) (is_at (R q) e.0) refl
      by Greater p h = ap (λ l. cond (is_at (R q) e.0) (Some e.1) l) h ∙ other (is_at (R q) e.0) (is_at (R q) k) refl refl p

  -- ---- in order

  above_inserted : (j : K) (es : List (K × V)) (k : K) (v : V) → R j k ≡ Less → AllByRecursion (λ y. R j y ≡ Less) (keys_of es) → AllByRecursion (λ y. R j y ≡ Less) (keys_of (insert_entry R es k v))
  above_inserted j [] k v h a = (h, tt)
  above_inserted j (e ∷ es) k v h a = by (R k e.0) (above_inserted j es k v h a.1)
    where
      by : (r : Ordering) → AllByRecursion (λ y. R j y ≡ Less) (keys_of (insert_entry R es k v))
          → AllByRecursion (λ y. R j y ≡ Less) (keys_of (match_ordering r ((k, v) ∷ e ∷ es) ((e.0, v) ∷ es) (e ∷ insert_entry R es k v)))
      by Less later = (h, (a.0, a.1))
      by Equal later = (a.0, a.1)
      by Greater later = (a.0, later)

  pub sorted_inserted : (es : List (K × V)) (k : K) (v : V) → IsStrictlySortedBy R (keys_of es) → IsStrictlySortedBy R (keys_of (insert_entry R es k v))
  unfolding IsStrictlySortedBy
  sorted_inserted [] k v s = (tt, tt)
  sorted_inserted (e ∷ es) k v s = by (R k e.0) refl (sorted_inserted es k v (sorted_tail R e.0 (keys_of es) s))
    where
      by : (r : Ordering) → R k e.0 ≡ r → IsStrictlySortedBy R (keys_of (insert_entry R es k v))
          → IsStrictlySortedBy R (keys_of (match_ordering r ((k, v) ∷ e ∷ es) ((e.0, v) ∷ es) (e ∷ insert_entry R es k v)))
      by Less p later = ((p, all_above R total exact k e.0 (keys_of es) p (sorted_head R e.0 (keys_of es) s)), s)
      by Equal p later = s
      by Greater p later = (above_inserted e.0 es k v (flipped R total exact k e.0 p) (sorted_head R e.0 (keys_of es) s), later)

  -- ---- an entry that is taken out

  pub at_removed : (es : List (K × V)) (k : K) → IsStrictlySortedBy R (keys_of es) → (q : K) → at R (remove_entry (is_at (R k)) es) q ≡ cond (is_at (R k) q) None (at R es q)
  at_removed es k s q = lookup-remove_entry (eq_by_cmp_equiv total) (is_at (R k)) (λ x y h. (eq_by_cmp_equiv total).congr k x y h ∙ refl) q es (IsDistinct-from_sorted R (keys_of es) s)

  above_removed : (j k : K) (es : List (K × V)) → AllByRecursion (λ y. R j y ≡ Less) (keys_of es) → AllByRecursion (λ y. R j y ≡ Less) (keys_of (remove_entry (is_at (R k)) es))
  above_removed j k [] a = tt
  above_removed j k (e ∷ es) a = by (is_at (R k) e.0) (above_removed j k es a.1)
    where
      by : (b : Bool) → AllByRecursion (λ y. R j y ≡ Less) (keys_of (remove_entry (is_at (R k)) es)) → AllByRecursion (λ y. R j y ≡ Less) (keys_of (cond b es (e ∷ remove_entry (is_at (R k)) es)))
      by true later = a.1
      by false later = (a.0, later)

  pub sorted_removed : (es : List (K × V)) (k : K) → IsStrictlySortedBy R (keys_of es) → IsStrictlySortedBy R (keys_of (remove_entry (is_at (R k)) es))
  unfolding IsStrictlySortedBy
  sorted_removed [] k s = tt
  sorted_removed (e ∷ es) k s = by (is_at (R k) e.0) (sorted_removed es k (sorted_tail R e.0 (keys_of es) s))
    where
      by : (b : Bool) → IsStrictlySortedBy R (keys_of (remove_entry (is_at (R k)) es)) → IsStrictlySortedBy R (keys_of (cond b es (e ∷ remove_entry (is_at (R k)) es)))
      by true later = sorted_tail R e.0 (keys_of es) s
      by false later = (above_removed e.0 k es (sorted_head R e.0 (keys_of es) s), later)

  -- ---- entries that pass a test

  above_filtered : (j : K) (p : K × V → Bool) (es : List (K × V)) → AllByRecursion (λ y. R j y ≡ Less) (keys_of es) → AllByRecursion (λ y. R j y ≡ Less) (keys_of (filter p es))
  above_filtered j p [] a = tt
  above_filtered j p (e ∷ es) a = by (p e) (above_filtered j p es a.1)
    where
      by : (b : Bool) → AllByRecursion (λ y. R j y ≡ Less) (keys_of (filter p es)) → AllByRecursion (λ y. R j y ≡ Less) (keys_of (cond b (e ∷ filter p es) (filter p es)))
      by true later = (a.0, later)
      by false later = later

  pub sorted_filtered : (p : K × V → Bool) (es : List (K × V)) → IsStrictlySortedBy R (keys_of es) → IsStrictlySortedBy R (keys_of (filter p es))
  unfolding IsStrictlySortedBy
  sorted_filtered p [] s = tt
  sorted_filtered p (e ∷ es) s = by (p e) (sorted_filtered p es (sorted_tail R e.0 (keys_of es) s))
    where
      by : (b : Bool) → IsStrictlySortedBy R (keys_of (filter p es)) → IsStrictlySortedBy R (keys_of (cond b (e ∷ filter p es) (filter p es)))
      by true later = (above_filtered e.0 p es (sorted_head R e.0 (keys_of es) s), later)
      by false later = later

  -- by a test of the keys
  pub at_filtered : (p : K → Bool) (es : List (K × V)) (q : K) → at R (filter (λ e. p e.0) es) q ≡ cond (p q) (at R es q) None
  at_filtered p es q = lookup-filter-keys (is_at (R q)) p (p q) (λ k h. sym (ap p (same_key R total exact q k h))) es

  -- ---- the same at each key is the same

  none_is : (es : List (K × V)) (q : K) → at R es q ≡ None → (v : V) → at R es q ≡ Some v → ⊥
  none_is es q h v e = true≢false (sym (ap is_some (sym h ∙ e)))

  at_first : (e : K × V) (es : List (K × V)) → at R (e ∷ es) e.0 ≡ Some e.1
  at_first e es = lookup_head (is_at (R e.0)) e es (here_itself R total exact e.0)

  below_all : (q : K) (e : K × V) (es : List (K × V)) → IsStrictlySortedBy R (keys_of (e ∷ es)) → R q e.0 ≡ Less → at R (e ∷ es) q ≡ None
  below_all q e es s h = lookup-none (is_at (R q)) (e ∷ es) (none_below_head total q e es s h)

  past_first : (q : K) (e : K × V) (es : List (K × V)) → IsStrictlySortedBy R (keys_of (e ∷ es)) → is_at (R q) e.0 ≡ true → at R es q ≡ None
  past_first q e es s h = lookup-none (is_at (R q)) es (none_past_head (eq_by_cmp_equiv total) q e es (IsDistinct-from_sorted R (keys_of (e ∷ es)) s) h)

  tails_same : (e f : K × V) (es fs : List (K × V)) → e.0 ≡ f.0 → IsStrictlySortedBy R (keys_of (e ∷ es)) → IsStrictlySortedBy R (keys_of (f ∷ fs))
      → ((q : K) → at R (e ∷ es) q ≡ at R (f ∷ fs) q) → (q : K) → at R es q ≡ at R fs q
  tails_same e f es fs k s t h q = by (is_at (R q) e.0) refl
    where
      by : (b : Bool) → is_at (R q) e.0 ≡ b → at R es q ≡ at R fs q
      by true i = past_first q e es s i ∙ sym (past_first q f fs t (ap (is_at (R q)) (sym k) ∙ i))
      by false i = sym (lookup_tail (is_at (R q)) e es i) ∙ h q ∙ lookup_tail (is_at (R q)) f fs (ap (is_at (R q)) (sym k) ∙ i)

  some_same : (x y : V) → Some x ≡ Some y → x ≡ y
  some_same x y e = ap (λ o. unwrap_or o x) e

  pub same_entries : (es fs : List (K × V)) → IsStrictlySortedBy R (keys_of es) → IsStrictlySortedBy R (keys_of fs) → ((q : K) → at R es q ≡ at R fs q) → es ≡ fs
  same_entries [] [] s t h = refl
  same_entries [] (f ∷ fs) s t h = absurd (none_is [] f.0 refl f.1 (h f.0 ∙ at_first f fs))
  same_entries (e ∷ es) [] s t h = absurd (none_is [] e.0 refl e.1 (sym (h e.0) ∙ at_first e es))
  same_entries (e ∷ es) (f ∷ fs) s t h = by (R e.0 f.0) refl (same_entries es fs (sorted_tail R e.0 (keys_of es) s) (sorted_tail R f.0 (keys_of fs) t))
    where
      first : e.0 ≡ f.0 → e ≡ f
      first k = pair k (some_same e.1 f.1 (sym (at_first e es) ∙ h e.0 ∙ ap (at R (f ∷ fs)) k ∙ at_first f fs))
        where
          pair : e.0 ≡ f.0 → e.1 ≡ f.1 → e ≡ f
          pair k v = ap (λ x. (x, e.1)) k ∙ ap (λ y. (f.0, y)) v

      by : (r : Ordering) → R e.0 f.0 ≡ r → (((q : K) → at R es q ≡ at R fs q) → es ≡ fs) → e ∷ es ≡ f ∷ fs
      by Less p later = absurd (none_is (f ∷ fs) e.0 (below_all e.0 f fs t p) e.1 (sym (h e.0) ∙ at_first e es))
      by Equal p later = let k = exact e.0 f.0 p in ap (λ x. x ∷ es) (first k) ∙ ap (λ l. f ∷ l) (later (tails_same e f es fs k s t h))
      by Greater p later = absurd (none_is (e ∷ es) f.0 (below_all f.0 e es s (flipped R total exact e.0 f.0 p)) f.1 (h f.0 ∙ at_first f fs))

-- Where an entry is to stand among entries by rising key.
use Rattle.std.proofs.Common.{◌≡◌, refl, sym, ap, subst, ◌∙◌, ℕ, zero, suc, ◌+◌, ◌<◌, List, [], ◌∷◌, ◌++◌, length, take, drop, Bool, true, false, true≢false, Option, Some, None, arith}
use Rattle.std.specs.Prelude.{cond, filter, slice_index_or}
use Rattle.std.specs.Cmp.{IsTotalOrder}
use Rattle.std.specs.List.Sorted.{IsStrictlySortedBy}
use Rattle.std.specs.Map.{keys_of}
use Rattle.std.specs.BTreeMap.{insert_entry, is_at}
use Rattle.std.specs.Ordering.{is_eq, is_lt, match_ordering}
use Rattle.std.specs.declared.cmp.Ordering.{Ordering}
use Rattle.std.specs.declared.cmp.Ordering.TheVariants.{Less, Equal, Greater}
use Rattle.lease_table.specs.Reserved.{at, all_of, AreApart, IsExact}
use Rattle.lease_table.proofs.Entries.{at_inserted, not_back, sorted_inserted, sorted_filtered, at_filtered}
use Rattle.lease_table.proofs.Merged.{all_put, all_filtered, apart_filtered}

module _ {K V : Type 0} (R : K → K → Ordering) where
  -- it stands behind the one that was looked at
  pub looked_past : (es : List (K × V)) (i : ℕ) (e : K × V) (k : K) → i < length es → e ≡ slice_index_or es i e → at R es k ≡ None → is_lt (R k (slice_index_or es i e).0) ≡ false
      → ((v : V) → insert_entry R es k v ≡ take i es ++ insert_entry R (drop i es) k v) → (v : V) → insert_entry R es k v ≡ take (i + 1) es ++ insert_entry R (drop (i + 1) es) k v
  looked_past es i e k within is none before h v = let plus : suc i ≡ i + 1 = omega arith in h v ∙ step es i within is none ∙ ap (λ (n : ℕ). take n es ++ insert_entry R (drop n es) k v) plus
    where
      behind : is_lt (R k e.0) ≡ false
      behind = ap (λ (y : K × V). is_lt (R k y.0)) is ∙ before

      not_equal : (b : Bool) (x : K × V) (xs : List (K × V)) → is_at (R k) x.0 ≡ b → cond b (Some x.1) (at R xs k) ≡ None → b ≡ false
      not_equal true x xs p n = absurd cc
      not_equal false x xs p n = refl

      behind_it : (o : Ordering) → is_lt o ≡ false → is_eq o ≡ false → o ≡ Greater
      behind_it Less n q = absurd cc
      behind_it Equal n q = absurd cc
      behind_it Greater n q = refl

      rest : (b : Bool) (x : K × V) (xs : List (K × V)) → cond b (Some x.1) (at R xs k) ≡ None → at R xs k ≡ None
      rest true x xs n = absurd cc
      rest false x xs n = n

      step : (xs : List (K × V)) (j : ℕ) → j < length xs → e ≡ slice_index_or xs j e → at R xs k ≡ None → take j xs ++ insert_entry R (drop j xs) k v ≡ take (suc j) xs ++ insert_entry R (drop (suc j) xs) k v
      step [] j lt f n = absurd (omega arith)
      step (x ∷ xs) zero lt f n =
          let at_x : e ≡ x = f in
          let past : R k x.0 ≡ Greater = ap (λ (y : K × V). R k y.0) (sym at_x) ∙ behind_it (R k e.0) behind (ap (λ (y : K × V). is_at (R k) y.0) at_x ∙ not_equal (is_at (R k) x.0) x xs refl n) in
          ap (λ o. match_ordering o ((k, v) ∷ x ∷ xs) ((x.0, v) ∷ xs) (x ∷ insert_entry R xs k v)) past
      step (x ∷ xs) (suc j) lt f n = ap (λ l. x ∷ l) (step xs j (omega arith) f (rest (is_at (R k) x.0) x xs n))

-- ---- an entry in a reserved place

module _ {K V : Type 0} (R : K → K → Ordering) where
  -- what holds as the entries in reserved places are put among the others
  pub record AreAdded (target es ps : List (K × V)) : Type 0 where
    pub all : all_of R es ps ≡ target
    pub sorted : IsStrictlySortedBy R (keys_of es)
    pub apart : AreApart R es ps

module _ {K V : Type 0} (R : K → K → Ordering) (total : IsTotalOrder R) (exact : IsExact R) where
  -- one that stands in no reserved place any more
  apart_more : (es ps : List (K × V)) (k : K) (v : V) → at R ps k ≡ None → AreApart R es ps → AreApart R (insert_entry R es k v) ps
  apart_more es [] k v n a = tt
  apart_more es (p ∷ ps) k v n a = (absent, a.1, apart_more es ps k v (rest (is_at (R k) p.0) n) a.2)
    where
      rest : (b : Bool) → cond b (Some p.1) (at R ps k) ≡ None → at R ps k ≡ None
      rest true m = absurd cc
      rest false m = m

      other : (b : Bool) → is_at (R k) p.0 ≡ b → cond b (Some p.1) (at R ps k) ≡ None → b ≡ false
      other true e m = absurd cc
      other false e m = refl

      absent : at R (insert_entry R es k v) p.0 ≡ None
      absent = at_inserted R total exact es k v p.0 ∙ ap (λ b. cond b (Some v) (at R es p.0)) (not_back R total exact p.0 k (other (is_at (R k) p.0) refl n)) ∙ a.0

  pub may_add : (target es : List (K × V)) (p : K × V) (ps : List (K × V)) (b : Bool) → AreAdded R target es (cond b (p ∷ ps) ps) → b ≡ true → at R es p.0 ≡ None
  may_add target es p ps true a e = let apart = a.apart in apart.0
  may_add target es p ps false a e = absurd (true≢false (sym e))

  pub added : (target es fs : List (K × V)) (p : K × V) (ps : List (K × V)) (b : Bool) → AreAdded R target es (cond b (p ∷ ps) ps) → fs ≡ cond b (insert_entry R es p.0 p.1) es → AreAdded R target fs ps
  added target es fs p ps true a e =
      let apart = a.apart in
      subst (λ (l : List (K × V)). AreAdded R target l ps) (sym e)
      (record {
        all = all_put R total exact es ps a.sorted p.0 p.1 apart.1 ∙ a.all;
        sorted = sorted_inserted R total exact es p.0 p.1 a.sorted;
        apart = apart_more es ps p.0 p.1 apart.1 apart.2;
      })
  added target es fs p ps false a e = subst (λ (l : List (K × V)). AreAdded R target l ps) (sym e) a

  -- ---- all of them

  module _ (es ps : List (K × V)) (sorted : IsStrictlySortedBy R (keys_of es)) (p : K → Bool) (fs : List (K × V)) (is : fs ≡ filter (λ e. p e.0) es) where
    pub part_sorted : IsStrictlySortedBy R (keys_of fs)
    part_sorted = subst (λ (l : List (K × V)). IsStrictlySortedBy R (keys_of l)) (sym is) (sorted_filtered R total exact (λ e. p e.0) es sorted)

    pub part_apart : (qs : List (K × V)) → qs ≡ ps → AreApart R es ps → AreApart R fs (filter (λ e. p e.0) qs)
    part_apart qs same a =
        subst (λ (l : List (K × V)). AreApart R fs (filter (λ e. p e.0) l)) (sym same)
        (apart_filtered R total exact p es fs ps (λ q h none. ap (λ l. at R l q) is ∙ at_filtered R total exact p es q ∙ ap (λ o. cond (p q) o None) none ∙ nothing (p q)) a)
      where
        nothing : (b : Bool) → cond {A = Option V} b None None ≡ None
        nothing true = refl
        nothing false = refl

    pub part_all : (qs gs : List (K × V)) → qs ≡ ps → gs ≡ all_of R fs (filter (λ e. p e.0) qs) → gs ≡ filter (λ e. p e.0) (all_of R es ps)
    part_all qs gs same e =
        e ∙ ap (λ l. all_of R l (filter (λ x. p x.0) qs)) is ∙ ap (λ (l : List (K × V)). all_of R (filter (λ x. p x.0) es) (filter (λ x. p x.0) l)) same ∙ sym (all_filtered R total exact p es ps sorted)

-- ---- the next of them

pub next : {X : Type 0} (xs : List X) (i : ℕ) (d : X) → i < length xs → drop i xs ≡ slice_index_or xs i d ∷ drop (suc i) xs
next [] i d lt = absurd (omega arith)
next (x ∷ xs) zero d lt = refl
next (x ∷ xs) (suc i) d lt = next xs i d (omega arith)

module _ {K V : Type 0} (R : K → K → Ordering) (total : IsTotalOrder R) (exact : IsExact R) (target es : List (K × V)) (p : K → Bool) (spare : List (K × V)) (i : ℕ) (x : K × V) (within : i < length spare) (is : x ≡ slice_index_or spare i x)
    (so_far : AreAdded R target es (filter (λ e. p e.0) (drop i spare))) where
  here : AreAdded R target es (cond (p x.0) (x ∷ filter (λ e. p e.0) (drop (suc i) spare)) (filter (λ e. p e.0) (drop (suc i) spare)))
  here = subst (λ (l : List (K × V)). AreAdded R target es (filter (λ e. p e.0) l)) (next spare i x within ∙ ap (λ (y : K × V). y ∷ drop (suc i) spare) (sym is)) so_far

  pub next_may : p x.0 ≡ true → at R es x.0 ≡ None
  next_may e = may_add R total exact target es x (filter (λ e. p e.0) (drop (suc i) spare)) (p x.0) here e

  pub next_added : (fs : List (K × V)) → fs ≡ cond (p x.0) (insert_entry R es x.0 x.1) es → AreAdded R target fs (filter (λ e. p e.0) (drop (i + 1) spare))
  next_added fs e =
      let plus : suc i ≡ i + 1 = omega arith in
      subst (λ (n : ℕ). AreAdded R target fs (filter (λ e. p e.0) (drop n spare))) plus (added R total exact target es fs x (filter (λ e. p e.0) (drop (suc i) spare)) (p x.0) here e)

-- What a call does to a map and the reserved places beside it, it does to the list of all entries.
use Rattle.std.proofs.Common.{◌≡◌, ◌⊎◌, inl, inr, refl, sym, ap, subst, ◌∙◌, ℕ, ◌+◌, ◌<◌, ◌≤◌, List, [], ◌∷◌, ◌++◌, length, Bool, true, false, true≢false, Option, Some, None, arith}
use Rattle.std.specs.Prelude.{cond, IsSome, not}
use Rattle.std.specs.BTreeMap.{insert_entry, is_at}
use Rattle.std.specs.Cmp.{IsTotalOrder}
use Rattle.std.specs.List.Sorted.{IsStrictlySortedBy}
use Rattle.std.specs.Map.{keys_of, remove_entry}
use Rattle.std.specs.Option.{option_or}
use Rattle.std.specs.declared.cmp.Ordering.{Ordering}
use Rattle.lease_table.specs.Reserved.{at, or_else, all_of, without, HasRoom, AreApart, IsWhole}
use Rattle.lease_table.proofs.Entries.{here_itself, sorted_inserted, sorted_removed}
use Rattle.lease_table.proofs.Merged.{sorted_all, at_all, all_pushed, all_put_anew, all_removed, apart_put, apart_removed, apart_without, apart_pushed, at_without, length_all}

module _ {K V : Type 0} (R : K → K → Ordering) (total : IsTotalOrder R) (es ps : List (K × V)) (whole : IsWhole R es ps) where
  -- ---- looked up

  pub found : (k : K) → at R (all_of R es ps) k ≡ or_else (at R ps k) (at R es k)
  found k = at_all R total whole.exact es ps k

  pub found_spared : (k : K) (v : V) → at R ps k ≡ Some v → at R (all_of R es ps) k ≡ Some v
  found_spared k v e = found k ∙ ap (λ o. or_else o (at R es k)) e

  pub found_held : (k : K) → at R ps k ≡ None → at R (all_of R es ps) k ≡ at R es k
  found_held k e = found k ∙ ap (λ o. or_else o (at R es k)) e

  pub either : (k : K) (o p : Option V) → o ≡ at R ps k → p ≡ at R es k → option_or o p ≡ at R (all_of R es ps) k
  either k o p e f = ap (λ x. option_or x p) e ∙ ap (option_or (at R ps k)) f ∙ same (at R ps k) (at R es k) ∙ sym (found k)
    where
      same : (x y : Option V) → option_or x y ≡ or_else x y
      same (Some v) y = refl
      same None y = refl

  pub some_spared : (k : K) → IsSome (at R ps k) → IsSome (at R (all_of R es ps) k)
  some_spared k h = subst (λ (o : Option V). IsSome o) (sym (found k)) (by (at R ps k) h)
    where
      by : (o : Option V) → IsSome o → IsSome (or_else o (at R es k))
      by (Some v) h = refl
      by None h = absurd (true≢false (sym h))

  pub some_held : (k : K) (v : V) → at R es k ≡ Some v → IsSome (at R (all_of R es ps) k)
  some_held k v e = subst (λ (o : Option V). IsSome o) (sym (found k ∙ ap (or_else (at R ps k)) e)) (by (at R ps k))
    where
      by : (o : Option V) → IsSome (or_else o (Some v))
      by (Some w) = refl
      by None = refl

  pub none_of_both : (k : K) → at R es k ≡ None → at R ps k ≡ None → at R (all_of R es ps) k ≡ None
  none_of_both k e p = found_held k p ∙ e

  pub counted : length (all_of R es ps) ≡ length es + length ps
  counted = length_all R total whole.exact es ps whole.apart

  -- ---- put in

  module _ (fs qs : List (K × V)) (k : K) (v : V) (in_map : fs ≡ insert_entry R es k v) (out : qs ≡ without R ps k) where
    pub entries_put : all_of R fs qs ≡ insert_entry R (all_of R es ps) k v
    entries_put = ap (λ l. all_of R l qs) in_map ∙ ap (all_of R (insert_entry R es k v)) out ∙ all_put_anew R total whole.exact es ps whole.sorted k v

    pub whole_put : IsWhole R fs qs
    whole_put = record {
      exact = whole.exact;
      sorted = subst (λ (l : List (K × V)). IsStrictlySortedBy R (keys_of l)) (sym in_map) (sorted_inserted R total whole.exact es k v whole.sorted);
      apart = subst (λ (l : List (K × V)). AreApart R l qs) (sym in_map) (subst (λ (l : List (K × V)). AreApart R (insert_entry R es k v) l) (sym out) (apart_put R total whole.exact es ps k v whole.apart));
    }

  module _ (fs ws qs : List (K × V)) (k : K) (v : V) (same : fs ≡ es) (absent : at R es k ≡ None) (out : ws ≡ without R ps k) (more : qs ≡ ws ++ (k, v) ∷ []) where
    is_more : qs ≡ without R ps k ++ (k, v) ∷ []
    is_more = more ∙ ap (λ (l : List (K × V)). l ++ (k, v) ∷ []) out

    pub entries_pushed : all_of R fs qs ≡ insert_entry R (all_of R es ps) k v
    entries_pushed =
        ap (λ l. all_of R l qs) same ∙ ap (all_of R es) is_more ∙ all_pushed R total whole.exact es (without R ps k) k v ∙ all_put_anew R total whole.exact es ps whole.sorted k v

    gone : at R (without R ps k) k ≡ None
    gone = at_without R total whole.exact ps k k ∙ ap (λ b. cond b None (at R ps k)) (here_itself R total whole.exact k)

    pub whole_pushed : IsWhole R fs qs
    whole_pushed = record {
      exact = whole.exact;
      sorted = subst (λ (l : List (K × V)). IsStrictlySortedBy R (keys_of l)) (sym same) whole.sorted;
      apart = subst (λ (l : List (K × V)). AreApart R l qs) (sym same)
          (subst (λ (l : List (K × V)). AreApart R es l) (sym is_more) (apart_pushed R total whole.exact es (without R ps k) k v absent gone (apart_without R total whole.exact es ps k whole.apart)));
    }

  -- what stood in a reserved place leaves it
  fewer : (qs : List (K × V)) (k : K) → IsSome (at R qs k) → length (without R qs k) < length qs
  fewer [] k h = absurd (true≢false (sym h))
  fewer (q ∷ qs) k h = by (is_at (R k) q.0) h (fewer qs k)
    where
      at_most : (xs : List (K × V)) → length (without R xs k) ≤ length xs
      at_most [] = omega arith
      at_most (x ∷ xs) = here (is_at (R k) x.0) (at_most xs)
        where
          here : (b : Bool) → length (without R xs k) ≤ length xs → length (cond (not b) (x ∷ without R xs k) (without R xs k)) ≤ length (x ∷ xs)
          here true h = omega (arith, h)
          here false h = omega (arith, h)

      by : (b : Bool) → IsSome (cond b (Some q.1) (at R qs k)) → (IsSome (at R qs k) → length (without R qs k) < length qs) → length (cond (not b) (q ∷ without R qs k) (without R qs k)) < length (q ∷ qs)
      by true h later = omega (arith, at_most qs)
      by false h later = omega (arith, later h)

  spared : (k : K) → at R es k ≡ None → IsSome (at R (all_of R es ps) k) → IsSome (at R ps k)
  spared k absent h = by (at R ps k) (subst (λ (o : Option V). IsSome o) (found k ∙ ap (or_else (at R ps k)) absent) h)
    where
      by : (o : Option V) → IsSome (or_else o None) → IsSome o
      by (Some v) h = refl
      by None h = absurd (true≢false (sym h))

  pub less : (qs : List (K × V)) (k : K) → at R es k ≡ None → qs ≡ without R ps k → IsSome (at R (all_of R es ps) k) → length qs < length ps
  less qs k absent out h = subst (λ (l : List (K × V)). length l < length ps) (sym out) (fewer ps k (spared k absent h))

  pub has_room : (places before after : ℕ) (qs : List (K × V)) (k : K) → before ≡ length ps → after ≡ length qs → at R es k ≡ None → qs ≡ without R ps k → after ≤ before → before ≤ places
      → IsSome (at R (all_of R es ps) k) ⊎ (before < places) → after < places
  has_room places before after qs k p q absent out at_most fit (inl h) = omega (arith, less qs k absent out h, p, q, fit)
  has_room places before after qs k p q absent out at_most fit (inr h) = omega (arith, at_most, h)

  -- ---- taken out

  module _ (fs qs : List (K × V)) (k : K) (from_map : fs ≡ remove_entry (is_at (R k)) es) (out : qs ≡ without R ps k) where
    pub entries_removed : all_of R fs qs ≡ remove_entry (is_at (R k)) (all_of R es ps)
    entries_removed = ap (λ l. all_of R l qs) from_map ∙ ap (all_of R (remove_entry (is_at (R k)) es)) out ∙ all_removed R total whole.exact es ps whole.sorted k

    pub whole_removed : IsWhole R fs qs
    whole_removed = record {
      exact = whole.exact;
      sorted = subst (λ (l : List (K × V)). IsStrictlySortedBy R (keys_of l)) (sym from_map) (sorted_removed R total whole.exact es k whole.sorted);
      apart = subst (λ (l : List (K × V)). AreApart R l qs) (sym from_map)
          (subst (λ (l : List (K × V)). AreApart R (remove_entry (is_at (R k)) es) l) (sym out) (apart_removed R total whole.exact es ps whole.sorted k whole.apart));
    }

  -- ---- in order

  pub whole_sorted : IsStrictlySortedBy R (keys_of (all_of R es ps))
  whole_sorted = sorted_all R total whole.exact es ps whole.sorted

  pub room_of : (taken places : ℕ) (k : K) → taken ≡ length ps → HasRoom R (record { entries = all_of R es ps; taken = taken; places = places }) k → IsSome (at R (all_of R es ps) k) ⊎ (taken < places)
  room_of taken places k n (inl h) = inl h
  room_of taken places k n (inr (inl h)) = inr h
  room_of taken places k n (inr (inr h)) = inr (omega (arith, h, n, counted))

-- What stands in a map, and in reserved places beside it, as one list.
use Rattle.std.proofs.Common.{◌≡◌, refl, sym, ap, ◌∙◌, ◌+◌, List, [], ◌∷◌, ◌++◌, length, Bool, true, false, Option, Some, None, arith}
use Rattle.std.specs.Prelude.{cond, not, filter, ◌||◌, ◌&&◌}
use Rattle.std.specs.BTreeMap.{insert_entry, is_at}
use Rattle.std.specs.Cmp.{IsTotalOrder}
use Rattle.std.specs.List.{list_any}
use Rattle.std.specs.List.Sorted.{IsStrictlySortedBy}
use Rattle.std.specs.Map.{keys_of, remove_entry}
use Rattle.std.specs.Ordering.{is_eq, match_ordering}
use Rattle.std.specs.declared.cmp.Ordering.{Ordering}
use Rattle.std.specs.declared.cmp.Ordering.TheVariants.{Less, Equal, Greater}
use Rattle.std.proofs.lemmas.Map.Lookups.{CmpEqualImpliesEq}
use Rattle.lease_table.specs.Reserved.{at, or_else, all_of, without, AreApart}
use Rattle.lease_table.proofs.Entries.{here_itself, not_true, not_back, same_key, at_inserted, sorted_inserted, at_removed, sorted_removed, sorted_filtered, at_filtered, same_entries}

module _ {K V : Type 0} (R : K → K → Ordering) (total : IsTotalOrder R) (exact : CmpEqualImpliesEq R) where
  -- ---- all of them

  pub sorted_all : (es ps : List (K × V)) → IsStrictlySortedBy R (keys_of es) → IsStrictlySortedBy R (keys_of (all_of R es ps))
  sorted_all es [] s = s
  sorted_all es (p ∷ ps) s = sorted_inserted R total exact (all_of R es ps) p.0 p.1 (sorted_all es ps s)

  pub at_all : (es ps : List (K × V)) (q : K) → at R (all_of R es ps) q ≡ or_else (at R ps q) (at R es q)
  at_all es [] q = refl
  at_all es (p ∷ ps) q = at_inserted R total exact (all_of R es ps) p.0 p.1 q ∙ by (is_at (R q) p.0) (at_all es ps q)
    where
      by : (b : Bool) → at R (all_of R es ps) q ≡ or_else (at R ps q) (at R es q) → cond b (Some p.1) (at R (all_of R es ps) q) ≡ or_else (cond b (Some p.1) (at R ps q)) (at R es q)
      by true h = refl
      by false h = h

  -- ---- one is put in

  -- into the map, where its key isn't in a reserved place
  pub all_put : (es ps : List (K × V)) → IsStrictlySortedBy R (keys_of es) → (k : K) (v : V) → at R ps k ≡ None → all_of R (insert_entry R es k v) ps ≡ insert_entry R (all_of R es ps) k v
  all_put es ps s k v none =
      same_entries R total exact _ _ (sorted_all (insert_entry R es k v) ps (sorted_inserted R total exact es k v s)) (sorted_inserted R total exact (all_of R es ps) k v (sorted_all es ps s)) each
    where
      by : (q : K) (b : Bool) → is_at (R q) k ≡ b → or_else (at R ps q) (cond b (Some v) (at R es q)) ≡ cond b (Some v) (or_else (at R ps q) (at R es q))
      by q true i = ap (λ o. or_else o (Some v)) (ap (at R ps) (same_key R total exact q k i) ∙ none)
      by q false i = refl

      each : (q : K) → at R (all_of R (insert_entry R es k v) ps) q ≡ at R (insert_entry R (all_of R es ps) k v) q
      each q =
          at_all (insert_entry R es k v) ps q ∙ ap (or_else (at R ps q)) (at_inserted R total exact es k v q) ∙ by q (is_at (R q) k) refl
          ∙ ap (cond (is_at (R q) k) (Some v)) (sym (at_all es ps q)) ∙ sym (at_inserted R total exact (all_of R es ps) k v q)

  -- into a reserved place
  pub all_pushed : (es ps : List (K × V)) (k : K) (v : V) → all_of R es (ps ++ (k, v) ∷ []) ≡ all_of R (insert_entry R es k v) ps
  all_pushed es [] k v = refl
  all_pushed es (p ∷ ps) k v = ap (λ l. insert_entry R l p.0 p.1) (all_pushed es ps k v)

  pub at_without : (ps : List (K × V)) (k q : K) → at R (without R ps k) q ≡ cond (is_at (R k) q) None (at R ps q)
  at_without ps k q = at_filtered R total exact (λ x. not (is_at (R k) x)) ps q ∙ turned (is_at (R k) q)
    where
      turned : (b : Bool) → cond (not b) (at R ps q) None ≡ cond b None (at R ps q)
      turned true = refl
      turned false = refl

  -- what stood under the key in a reserved place doesn't matter
  pub all_put_anew : (es ps : List (K × V)) → IsStrictlySortedBy R (keys_of es) → (k : K) (v : V) → all_of R (insert_entry R es k v) (without R ps k) ≡ insert_entry R (all_of R es ps) k v
  all_put_anew es ps s k v =
      all_put es (without R ps k) s k v (at_without ps k k ∙ ap (λ b. cond b None (at R ps k)) (here_itself R total exact k))
      ∙ same_entries R total exact _ _ (sorted_inserted R total exact _ k v (sorted_all es (without R ps k) s)) (sorted_inserted R total exact _ k v (sorted_all es ps s)) each
    where
      by : (q : K) (b : Bool) → is_at (R q) k ≡ b → cond b (Some v) (or_else (cond (is_at (R k) q) None (at R ps q)) (at R es q)) ≡ cond b (Some v) (or_else (at R ps q) (at R es q))
      by q true i = refl
      by q false i = ap (λ b. or_else (cond b None (at R ps q)) (at R es q)) (not_back R total exact k q i)

      each : (q : K) → at R (insert_entry R (all_of R es (without R ps k)) k v) q ≡ at R (insert_entry R (all_of R es ps) k v) q
      each q =
          at_inserted R total exact _ k v q ∙ ap (cond (is_at (R q) k) (Some v)) (at_all es (without R ps k) q ∙ ap (λ o. or_else o (at R es q)) (at_without ps k q))
          ∙ by q (is_at (R q) k) refl ∙ ap (cond (is_at (R q) k) (Some v)) (sym (at_all es ps q)) ∙ sym (at_inserted R total exact (all_of R es ps) k v q)

  -- ---- one is taken out

  pub all_removed : (es ps : List (K × V)) → IsStrictlySortedBy R (keys_of es) → (k : K) → all_of R (remove_entry (is_at (R k)) es) (without R ps k) ≡ remove_entry (is_at (R k)) (all_of R es ps)
  all_removed es ps s k =
      same_entries R total exact _ _ (sorted_all _ (without R ps k) (sorted_removed R total exact es k s)) (sorted_removed R total exact _ k (sorted_all es ps s)) each
    where
      by : (q : K) (b : Bool) → or_else (cond b None (at R ps q)) (cond b None (at R es q)) ≡ cond b None (or_else (at R ps q) (at R es q))
      by q true = refl
      by q false = refl

      each : (q : K) → at R (all_of R (remove_entry (is_at (R k)) es) (without R ps k)) q ≡ at R (remove_entry (is_at (R k)) (all_of R es ps)) q
      each q =
          at_all (remove_entry (is_at (R k)) es) (without R ps k) q ∙ ap (λ o. or_else o (at R (remove_entry (is_at (R k)) es) q)) (at_without ps k q)
          ∙ ap (or_else (cond (is_at (R k) q) None (at R ps q))) (at_removed R total exact es k s q) ∙ by q (is_at (R k) q)
          ∙ ap (cond (is_at (R k) q) None) (sym (at_all es ps q)) ∙ sym (at_removed R total exact (all_of R es ps) k (sorted_all es ps s) q)

  -- ---- those that pass a test of their keys

  pub all_filtered : (p : K → Bool) (es ps : List (K × V)) → IsStrictlySortedBy R (keys_of es) → filter (λ e. p e.0) (all_of R es ps) ≡ all_of R (filter (λ e. p e.0) es) (filter (λ e. p e.0) ps)
  all_filtered p es ps s =
      same_entries R total exact _ _ (sorted_filtered R total exact (λ e. p e.0) _ (sorted_all es ps s)) (sorted_all (filter (λ e. p e.0) es) (filter (λ e. p e.0) ps) (sorted_filtered R total exact (λ e. p e.0) es s)) each
    where
      by : (q : K) (b : Bool) → cond b (or_else (at R ps q) (at R es q)) None ≡ or_else (cond b (at R ps q) None) (cond b (at R es q) None)
      by q true = refl
      by q false = refl

      each : (q : K) → at R (filter (λ e. p e.0) (all_of R es ps)) q ≡ at R (all_of R (filter (λ e. p e.0) es) (filter (λ e. p e.0) ps)) q
      each q =
          at_filtered R total exact p (all_of R es ps) q ∙ ap (λ o. cond (p q) o None) (at_all es ps q) ∙ by q (p q)
          ∙ ap (λ o. or_else o (cond (p q) (at R es q) None)) (sym (at_filtered R total exact p ps q)) ∙ ap (or_else (at R (filter (λ e. p e.0) ps) q)) (sym (at_filtered R total exact p es q))
          ∙ sym (at_all (filter (λ e. p e.0) es) (filter (λ e. p e.0) ps) q)

  -- ---- no key stands twice

  pub apart_empty : (es : List (K × V)) → AreApart R es []
  apart_empty es = tt

  none_all : (es ps : List (K × V)) (q : K) → at R es q ≡ None → at R ps q ≡ None → at R (all_of R es ps) q ≡ None
  none_all es ps q e p = at_all es ps q ∙ ap (λ o. or_else o (at R es q)) p ∙ e

  -- a test that no entry under a removed key has to pass
  module _ (p : K → Bool) where
    still_none : (ps : List (K × V)) (q : K) → at R ps q ≡ None → at R (filter (λ e. p e.0) ps) q ≡ None
    still_none ps q h = at_filtered R total exact p ps q ∙ ap (λ o. cond (p q) o None) h ∙ nothing (p q)
      where
        nothing : (b : Bool) → cond {A = Option V} b None None ≡ None
        nothing true = refl
        nothing false = refl

    -- entries of which some stay, over a map that has no more of the keys that stay
    pub apart_filtered : (es fs ps : List (K × V)) → ((q : K) → p q ≡ true → at R es q ≡ None → at R fs q ≡ None) → AreApart R es ps → AreApart R fs (filter (λ e. p e.0) ps)
    apart_filtered es fs [] less a = tt
    apart_filtered es fs (x ∷ ps) less a = by (p x.0) refl (apart_filtered es fs ps less a.2)
      where
        by : (b : Bool) → p x.0 ≡ b → AreApart R fs (filter (λ e. p e.0) ps) → AreApart R fs (cond b (x ∷ filter (λ e. p e.0) ps) (filter (λ e. p e.0) ps))
        by true h later = (less x.0 h a.0, still_none ps x.0 a.1, later)
        by false h later = later

  pub apart_put : (es ps : List (K × V)) (k : K) (v : V) → AreApart R es ps → AreApart R (insert_entry R es k v) (without R ps k)
  apart_put es ps k v a =
      apart_filtered (λ x. not (is_at (R k) x)) es (insert_entry R es k v) ps
      (λ q h none. at_inserted R total exact es k v q ∙ ap (λ b. cond b (Some v) (at R es q)) (not_back R total exact q k (not_true (is_at (R k) q) h)) ∙ none) a

  pub apart_removed : (es ps : List (K × V)) → IsStrictlySortedBy R (keys_of es) → (k : K) → AreApart R es ps → AreApart R (remove_entry (is_at (R k)) es) (without R ps k)
  apart_removed es ps s k a =
      apart_filtered (λ x. not (is_at (R k) x)) es (remove_entry (is_at (R k)) es) ps (λ q h none. at_removed R total exact es k s q ∙ ap (cond (is_at (R k) q) None) none ∙ nothing (is_at (R k) q)) a
    where
      nothing : (b : Bool) → cond {A = Option V} b None None ≡ None
      nothing true = refl
      nothing false = refl

  pub apart_without : (es ps : List (K × V)) (k : K) → AreApart R es ps → AreApart R es (without R ps k)
  apart_without es ps k a = apart_filtered (λ x. not (is_at (R k) x)) es es ps (λ q h none. none) a

  pub apart_pushed : (es ps : List (K × V)) (k : K) (v : V) → at R es k ≡ None → at R ps k ≡ None → AreApart R es ps → AreApart R es (ps ++ (k, v) ∷ [])
  apart_pushed es [] k v e p a = (e, refl, tt)
  apart_pushed es (x ∷ ps) k v e p a = (a.0, pushed_none, apart_pushed es ps k v e (tail (is_at (R k) x.0) refl p) a.2)
    where
      tail : (b : Bool) → is_at (R k) x.0 ≡ b → cond b (Some x.1) (at R ps k) ≡ None → at R ps k ≡ None
      tail true h n = absurd cc
      tail false h n = n

      apart : (b : Bool) → is_at (R k) x.0 ≡ b → cond b (Some x.1) (at R ps k) ≡ None → b ≡ false
      apart true h n = absurd cc
      apart false h n = refl

      pushed_none : at R (ps ++ (k, v) ∷ []) x.0 ≡ None
      pushed_none = at_pushed ps x.0 a.1
        where
          at_pushed : (qs : List (K × V)) (q : K) → at R qs x.0 ≡ None → at R (qs ++ (k, v) ∷ []) x.0 ≡ None
          at_pushed [] q n = ap (λ b. cond b (Some v) None) (not_back R total exact x.0 k (apart (is_at (R k) x.0) refl p))
          at_pushed (y ∷ qs) q n = by (is_at (R x.0) y.0) n (at_pushed qs q)
            where
              by : (b : Bool) → cond b (Some y.1) (at R qs x.0) ≡ None → (at R qs x.0 ≡ None → at R (qs ++ (k, v) ∷ []) x.0 ≡ None) → cond b (Some y.1) (at R (qs ++ (k, v) ∷ []) x.0) ≡ None
              by true n later = absurd cc
              by false n later = later n

  -- ---- each of them

  any_inserted : (t : K × V → Bool) (es : List (K × V)) (k : K) (v : V) → at R es k ≡ None → list_any t (insert_entry R es k v) ≡ (t (k, v) || list_any t es)
  any_inserted t [] k v n = refl
  any_inserted t (e ∷ es) k v n = by (R k e.0) refl n (any_inserted t es k v)
    where
      swap : (a b c : Bool) → (a || (b || c)) ≡ (b || (a || c))
      swap true true c = refl
      swap true false c = refl
      swap false b c = refl

      by : (r : Ordering) → R k e.0 ≡ r → cond (is_eq r) (Some e.1) (at R es k) ≡ None → (at R es k ≡ None → list_any t (insert_entry R es k v) ≡ (t (k, v) || list_any t es))
          → list_any t (match_ordering r ((k, v) ∷ e ∷ es) ((e.0, v) ∷ es) (e ∷ insert_entry R es k v)) ≡ (t (k, v) || (t e || list_any t es))
      by Less p n later = refl
      by Equal p n later = absurd cc
      by Greater p n later = ap (λ b. t e || b) (later n) ∙ swap (t e) (t (k, v)) (list_any t es)

  pub any_all : (t : K × V → Bool) (es ps : List (K × V)) → AreApart R es ps → list_any t (all_of R es ps) ≡ (list_any t ps || list_any t es)
  any_all t es [] a = refl
  any_all t es (p ∷ ps) a = any_inserted t (all_of R es ps) p.0 p.1 (none_all es ps p.0 a.0 a.1) ∙ ap (λ b. t p || b) (any_all t es ps a.2) ∙ assoc (t p) (list_any t ps) (list_any t es)
    where
      assoc : (a b c : Bool) → (a || (b || c)) ≡ ((a || b) || c)
      assoc true b c = refl
      assoc false b c = refl

  pub length_inserted : (es : List (K × V)) (k : K) (v : V) → at R es k ≡ None → length (insert_entry R es k v) ≡ length es + 1
  length_inserted [] k v n = refl
  length_inserted (e ∷ es) k v n = by (R k e.0) refl n (length_inserted es k v)
    where
      by : (r : Ordering) → R k e.0 ≡ r → cond (is_eq r) (Some e.1) (at R es k) ≡ None → (at R es k ≡ None → length (insert_entry R es k v) ≡ length es + 1)
          → length (match_ordering r ((k, v) ∷ e ∷ es) ((e.0, v) ∷ es) (e ∷ insert_entry R es k v)) ≡ length (e ∷ es) + 1
      by Less p n later = omega arith
      by Equal p n later = absurd cc
      by Greater p n later = omega (arith, later n)

  pub length_all : (es ps : List (K × V)) → AreApart R es ps → length (all_of R es ps) ≡ length es + length ps
  length_all es [] a = omega arith
  length_all es (p ∷ ps) a = omega (arith, length_inserted (all_of R es ps) p.0 p.1 (none_all es ps p.0 a.0 a.1), length_all es ps a.2)

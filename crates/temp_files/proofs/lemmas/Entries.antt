-- The entries of a map by rising number, after one is put among them or taken out.
use Rattle.std.proofs.Common.{◌≡◌, refl, sym, ap, subst, ◌∙◌, ℕ, List, [], ◌∷◌, Bool, true, false, true≢false, Some, None}
use Rattle.std.specs.Prelude.{cond, is_some, unwrap_or}
use Rattle.std.specs.BTreeMap.{insert_entry, is_at}
use Rattle.std.specs.Cmp.{nat_cmp_total, eq_by_cmp_equiv}
use Rattle.std.specs.List.{All, AllByRecursion}
use Rattle.std.specs.List.Sorted.{IsStrictlySortedBy}
use Rattle.std.specs.Map.{keys_of, lookup, remove_entry, set_value}
use Rattle.std.specs.Ordering.{nat_cmp, is_eq, match_ordering}
use Rattle.std.specs.declared.cmp.Ordering.{Ordering}
use Rattle.std.specs.declared.cmp.Ordering.TheVariants.{Less, Equal, Greater}
use Rattle.std.proofs.lemmas.List.Elements.{All-cons, All-head, All-tail}
use Rattle.std.proofs.lemmas.Map.{lookup-none}
use Rattle.std.proofs.lemmas.Map.Entries.{lookup_head, lookup_tail, none_below_head}
use Rattle.std.proofs.lemmas.Map.Keys.{sorted_head, sorted_tail}
use Rattle.std.proofs.lemmas.Map.Lookups.{exact_unsigned}
use Rattle.std.proofs.lemmas.Map.Views.{tells_apart}

-- ---- a number against a number

pub at_itself : (id : ℕ) → is_at (nat_cmp id) id ≡ true
at_itself id = (eq_by_cmp_equiv nat_cmp_total).refl id

pub at_another : (q id : ℕ) → (q ≡ id → ⊥) → is_at (nat_cmp q) id ≡ false
at_another q id apart = by (is_at (nat_cmp q) id) (λ y. apart (tells_apart exact_unsigned q id y))
  where
    by : (b : Bool) → (b ≡ true → ⊥) → b ≡ false
    by true n = absurd (n refl)
    by false n = refl

pub some_same : {X : Type 0} (x y : X) → Some x ≡ Some y → x ≡ y
some_same x y e = ap (λ o. unwrap_or o x) e

module _ {X : Type 0} where
  -- ---- an entry that is put in

  pub inserted_itself : (es : List (ℕ × X)) (k : ℕ) (v : X) → lookup (is_at (nat_cmp k)) (insert_entry nat_cmp es k v) ≡ Some v
  inserted_itself [] k v = lookup_head (is_at (nat_cmp k)) (k, v) [] (at_itself k)
  inserted_itself (e ∷ es) k v = by (nat_cmp k e.0) refl (inserted_itself es k v)
    where
      by : (r : Ordering) → nat_cmp k e.0 ≡ r → lookup (is_at (nat_cmp k)) (insert_entry nat_cmp es k v) ≡ Some v
          → lookup (is_at (nat_cmp k)) (match_ordering r ((k, v) ∷ e ∷ es) ((e.0, v) ∷ es) (e ∷ insert_entry nat_cmp es k v)) ≡ Some v
      by Less p h = lookup_head (is_at (nat_cmp k)) (k, v) (e ∷ es) (at_itself k)
      by Equal p h = lookup_head (is_at (nat_cmp k)) (e.0, v) es (ap is_eq p)
      by Greater p h = lookup_tail (is_at (nat_cmp k)) e (insert_entry nat_cmp es k v) (ap is_eq p) ∙ h

  pub inserted_another : (es : List (ℕ × X)) (k : ℕ) (v : X) (q : ℕ) → (q ≡ k → ⊥) → lookup (is_at (nat_cmp q)) (insert_entry nat_cmp es k v) ≡ lookup (is_at (nat_cmp q)) es
  inserted_another [] k v q apart = lookup_tail (is_at (nat_cmp q)) (k, v) [] (at_another q k apart)
  inserted_another (e ∷ es) k v q apart = by (nat_cmp k e.0) refl (inserted_another es k v q apart)
    where
      by : (r : Ordering) → nat_cmp k e.0 ≡ r → lookup (is_at (nat_cmp q)) (insert_entry nat_cmp es k v) ≡ lookup (is_at (nat_cmp q)) es
          → lookup (is_at (nat_cmp q)) (match_ordering r ((k, v) ∷ e ∷ es) ((e.0, v) ∷ es) (e ∷ insert_entry nat_cmp es k v)) ≡ lookup (is_at (nat_cmp q)) (e ∷ es)
      by Less p h = lookup_tail (is_at (nat_cmp q)) (k, v) (e ∷ es) (at_another q k apart)
      by Equal p h =
          let n = at_another q e.0 (λ y. apart (y ∙ sym (exact_unsigned k e.0 p))) in
          lookup_tail (is_at (nat_cmp q)) (e.0, v) es n ∙ sym (lookup_tail (is_at (nat_cmp q)) e es n)
      by Greater p h = ap (λ l. cond (is_at (nat_cmp q) e.0) (Some e.1) l) h

  -- a value written at a key that is there is that value put in
  pub set_as_inserted : (es : List (ℕ × X)) (k : ℕ) (v w : X) → IsStrictlySortedBy nat_cmp (keys_of es) → lookup (is_at (nat_cmp k)) es ≡ Some v
      → set_value (is_at (nat_cmp k)) es w ≡ insert_entry nat_cmp es k w
  set_as_inserted [] k v w s h = absurd (true≢false (sym (ap is_some h)))
  set_as_inserted (e ∷ es) k v w s h = by (nat_cmp k e.0) refl h (set_as_inserted es k v w (sorted_tail nat_cmp e.0 (keys_of es) s))
    where
      by : (r : Ordering) → nat_cmp k e.0 ≡ r → cond (is_eq r) (Some e.1) (lookup (is_at (nat_cmp k)) es) ≡ Some v
          → (lookup (is_at (nat_cmp k)) es ≡ Some v → set_value (is_at (nat_cmp k)) es w ≡ insert_entry nat_cmp es k w)
          → cond (is_eq r) ((e.0, w) ∷ es) (e ∷ set_value (is_at (nat_cmp k)) es w) ≡ match_ordering r ((k, w) ∷ e ∷ es) ((e.0, w) ∷ es) (e ∷ insert_entry nat_cmp es k w)
      by Less p g later = absurd (true≢false (sym (ap is_some (sym (lookup-none (is_at (nat_cmp k)) es (none_below_head nat_cmp_total k e es s p).1) ∙ g))))
      by Equal p g later = refl
      by Greater p g later = ap (λ l. e ∷ l) (later g)

  -- ---- an entry that is taken out

  none_above : (es : List (ℕ × X)) (k : ℕ) → AllByRecursion (λ y. nat_cmp k y ≡ Less) (keys_of es) → lookup (is_at (nat_cmp k)) es ≡ None
  none_above [] k a = refl
  none_above (e ∷ es) k a = lookup_tail (is_at (nat_cmp k)) e es (ap is_eq a.0) ∙ none_above es k a.1

  pub removed_itself : (es : List (ℕ × X)) (k : ℕ) → IsStrictlySortedBy nat_cmp (keys_of es) → lookup (is_at (nat_cmp k)) (remove_entry (is_at (nat_cmp k)) es) ≡ None
  removed_itself [] k s = refl
  removed_itself (e ∷ es) k s = by (is_at (nat_cmp k) e.0) refl (removed_itself es k (sorted_tail nat_cmp e.0 (keys_of es) s))
    where
      by : (b : Bool) → is_at (nat_cmp k) e.0 ≡ b → lookup (is_at (nat_cmp k)) (remove_entry (is_at (nat_cmp k)) es) ≡ None
          → lookup (is_at (nat_cmp k)) (cond b es (e ∷ remove_entry (is_at (nat_cmp k)) es)) ≡ None
      by true p h = none_above es k (subst (λ n. AllByRecursion (λ y. nat_cmp n y ≡ Less) (keys_of es)) (sym (tells_apart exact_unsigned k e.0 p)) (sorted_head nat_cmp e.0 (keys_of es) s))
      by false p h = lookup_tail (is_at (nat_cmp k)) e (remove_entry (is_at (nat_cmp k)) es) p ∙ h

  -- whatever value was written there
  pub removed_anew : (test : ℕ → Bool) (es : List (ℕ × X)) (w : X) → remove_entry test (set_value test es w) ≡ remove_entry test es
  removed_anew test [] w = refl
  removed_anew test (e ∷ es) w = by (test e.0) refl (removed_anew test es w)
    where
      by : (b : Bool) → test e.0 ≡ b → remove_entry test (set_value test es w) ≡ remove_entry test es
          → remove_entry test (cond b ((e.0, w) ∷ es) (e ∷ set_value test es w)) ≡ cond b es (e ∷ remove_entry test es)
      by true p h = ap (λ c. cond c es ((e.0, w) ∷ remove_entry test es)) p
      by false p h = ap (λ c. cond c (set_value test es w) (e ∷ remove_entry test (set_value test es w))) p ∙ ap (λ l. e ∷ l) h

  pub removed_another : (es : List (ℕ × X)) (k q : ℕ) → (q ≡ k → ⊥) → lookup (is_at (nat_cmp q)) (remove_entry (is_at (nat_cmp k)) es) ≡ lookup (is_at (nat_cmp q)) es
  removed_another [] k q apart = refl
  removed_another (e ∷ es) k q apart = by (is_at (nat_cmp k) e.0) refl (removed_another es k q apart)
    where
      by : (b : Bool) → is_at (nat_cmp k) e.0 ≡ b → lookup (is_at (nat_cmp q)) (remove_entry (is_at (nat_cmp k)) es) ≡ lookup (is_at (nat_cmp q)) es
          → lookup (is_at (nat_cmp q)) (cond b es (e ∷ remove_entry (is_at (nat_cmp k)) es)) ≡ lookup (is_at (nat_cmp q)) (e ∷ es)
      by true p h = sym (lookup_tail (is_at (nat_cmp q)) e es (at_another q e.0 (λ y. apart (y ∙ sym (tells_apart exact_unsigned k e.0 p)))))
      by false p h = ap (λ l. cond (is_at (nat_cmp q) e.0) (Some e.1) l) h

  -- ---- what holds of each entry

  module _ (P : ℕ × X → Type 0) where
    pub All-inserted : (es : List (ℕ × X)) (k : ℕ) (v : X) → All P es → P (k, v) → All P (insert_entry nat_cmp es k v)
    All-inserted [] k v a p = All-cons P (k, v) [] p a
    All-inserted (e ∷ es) k v a p = by (nat_cmp k e.0) refl (All-inserted es k v (All-tail P e es a) p)
      where
        by : (r : Ordering) → nat_cmp k e.0 ≡ r → All P (insert_entry nat_cmp es k v)
            → All P (match_ordering r ((k, v) ∷ e ∷ es) ((e.0, v) ∷ es) (e ∷ insert_entry nat_cmp es k v))
        by Less q h = All-cons P (k, v) (e ∷ es) p a
        by Equal q h = All-cons P (e.0, v) es (subst (λ n. P (n, v)) (exact_unsigned k e.0 q) p) (All-tail P e es a)
        by Greater q h = All-cons P e (insert_entry nat_cmp es k v) (All-head P e es a) h

    pub All-removed : (test : ℕ → Bool) (es : List (ℕ × X)) → All P es → All P (remove_entry test es)
    All-removed test [] a = a
    All-removed test (e ∷ es) a = by (test e.0) (All-removed test es (All-tail P e es a))
      where
        by : (b : Bool) → All P (remove_entry test es) → All P (cond b es (e ∷ remove_entry test es))
        by true h = All-tail P e es a
        by false h = All-cons P e (remove_entry test es) (All-head P e es a) h

    -- an entry that a look-up finds
    pub All-at : (es : List (ℕ × X)) (k : ℕ) (v : X) → All P es → lookup (is_at (nat_cmp k)) es ≡ Some v → P (k, v)
    All-at [] k v a h = absurd (true≢false (sym (ap is_some h)))
    All-at (e ∷ es) k v a h = by (is_at (nat_cmp k) e.0) refl h (All-at es k v (All-tail P e es a))
      where
        by : (b : Bool) → is_at (nat_cmp k) e.0 ≡ b → cond b (Some e.1) (lookup (is_at (nat_cmp k)) es) ≡ Some v
            → (lookup (is_at (nat_cmp k)) es ≡ Some v → P (k, v)) → P (k, v)
        by true p g later = subst (λ x. P (k, x)) (some_same e.1 v g) (subst (λ n. P (n, e.1)) (sym (tells_apart exact_unsigned k e.0 p)) (All-head P e es a))
        by false p g later = later g

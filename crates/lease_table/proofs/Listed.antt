-- What stands beside the leases goes with them, as one is put in or taken out.
use Rattle.std.proofs.Common.{◌≡◌, ℕ, ◌+◌, ◌<◌, ◌≤◌, ◌^◌, List, [], ◌∷◌, length, Option, Some, None, Bool, true, false, true≢false, refl, sym, ap, subst, ◌∙◌, arith}
use Rattle.std.specs.Prelude.{cond, ◌&&◌, ◌==◌, is_some, sum_by, unwrap_or}
use Rattle.std.specs.BTreeMap.{insert_entry, is_at}
use Rattle.std.specs.List.Sorted.{IsStrictlySortedBy}
use Rattle.std.specs.Map.{keys_of, values_of, remove_entry}
use Rattle.std.specs.Option.{option_map}
use Rattle.std.specs.declared.cmp.Ordering.{Ordering}
use Rattle.std.proofs.lemmas.Bool.Decides.{nat_tests}
use Rattle.std.proofs.lemmas.List.Elements.{All-nil}
use Rattle.std.proofs.lemmas.List.Sums.{sum_by-cons}
use Rattle.std.proofs.lemmas.Map.Entries.{sum_by-insert_entry, sum_by-remove_entry}
use Rattle.std.proofs.lemmas.Map.Views.{All-keys-insert_entry, All-map-remove_entry}
use Rattle.lease_table.specs.Reserved.{at}
use Rattle.lease_table.proofs.Entries.{at_inserted, at_removed, sorted_inserted, sorted_removed, same_entries}
use Rattle.lease_table.proofs.Merged.{length_inserted}
use Rattle.lease_rules.specs.declared.lease.LeaseEntry.{LeaseEntry}
use Rattle.lease_table.specs.Leases.{is_recall}
use Rattle.lease_table.specs.Kept.{by_two, by_three, Entries, Keys, held_at, is_listed, is_recalled, is_ending, marks, FitsKey, AreKept, unlisted, listed}
use Rattle.lease_table.proofs.lemmas.Keeping.{is_same, same_session, same_file}
use Rattle.lease_table.proofs.UnderKeys.{two_total, two_exact, three_total, three_exact, at_two, at_three}

-- ---- a lease is looked up where one is put in, or taken out

pub held_put : (es : Entries) (s f : ℕ) (h : LeaseEntry) (t g : ℕ) → held_at (insert_entry by_two es (f, s) h) t g ≡ cond (is_same s f t g) (Some h) (held_at es t g)
held_put es s f h t g = at_inserted by_two two_total two_exact es (f, s) h (g, t) ∙ ap (λ b. cond b (Some h) (held_at es t g)) (at_two g t f s)

turned : (s f t g : ℕ) → (g == f && t == s) ≡ is_same s f t g
turned s f t g = grind (arith, nat_tests)

pub held_removed : (es : Entries) → IsStrictlySortedBy by_two (keys_of es) → (s f t g : ℕ) → held_at (remove_entry (is_at (by_two (f, s))) es) t g ≡ cond (is_same s f t g) None (held_at es t g)
held_removed es sorted s f t g = at_removed by_two two_total two_exact es (f, s) sorted (g, t) ∙ ap (λ b. cond b None (held_at es t g)) (at_two f s g t ∙ turned s f t g)

-- ---- keys

-- two keys of three numbers are the same
abbrev is_key : (a b c x y z : ℕ) → Bool
is_key a b c x y z = (a == x && b == y) && c == z

some_if : (b : Bool) (o : Option (Unit {0})) → is_some (cond b (Some (record {})) o) ≡ cond b true (is_some o)
some_if true o = refl
some_if false o = refl

none_if : (b : Bool) (o : Option (Unit {0})) → is_some (cond b None o) ≡ cond b false (is_some o)
none_if true o = refl
none_if false o = refl

listed_put : (ks : Keys) (a b c x y z : ℕ) → is_listed (insert_entry by_three ks (a, b, c) (record {})) x y z ≡ cond (is_key a b c x y z) true (is_listed ks x y z)
listed_put ks a b c x y z =
    ap is_some (at_inserted by_three three_total three_exact ks (a, b, c) (record {}) (x, y, z)) ∙ some_if (is_at (by_three (x, y, z)) (a, b, c)) (at by_three ks (x, y, z))
    ∙ ap (λ d. cond d true (is_listed ks x y z)) (at_three x y z a b c)

listed_removed : (ks : Keys) → IsStrictlySortedBy by_three (keys_of ks) → (a b c x y z : ℕ) → is_listed (remove_entry (is_at (by_three (a, b, c))) ks) x y z ≡ cond (is_key x y z a b c) false (is_listed ks x y z)
listed_removed ks sorted a b c x y z =
    ap is_some (at_removed by_three three_total three_exact ks (a, b, c) sorted (x, y, z)) ∙ none_if (is_at (by_three (a, b, c)) (x, y, z)) (at by_three ks (x, y, z))
    ∙ ap (λ d. cond d false (is_listed ks x y z)) (at_three a b c x y z)

not_some : {X : Type 0} (o : Option X) → is_some o ≡ false → o ≡ None
not_some None e = refl
not_some (Some x) e = absurd (true≢false e)

a_some : {X : Type 0} (o : Option X) → is_some o ≡ true → (x : X) × (o ≡ Some x)
a_some None e = absurd (true≢false (sym e))
a_some (Some x) e = (x, refl)

module _ {K V : Type 0} (R : K → K → Ordering) where
  pub length_removed : (es : List (K × V)) (k : K) (v : V) → at R es k ≡ Some v → length (remove_entry (is_at (R k)) es) + 1 ≡ length es
  length_removed [] k v e = absurd cc
  length_removed (x ∷ es) k v e = by (is_at (R k) x.0) e (length_removed es k v)
    where
      by : (b : Bool) → cond b (Some x.1) (at R es k) ≡ Some v → (at R es k ≡ Some v → length (remove_entry (is_at (R k)) es) + 1 ≡ length es) → length (cond b es (x ∷ remove_entry (is_at (R k)) es)) + 1 ≡ length (x ∷ es)
      by true e later = omega arith
      by false e later = omega (arith, later e)

  pub removed_none : (es : List (K × V)) (k : K) → at R es k ≡ None → remove_entry (is_at (R k)) es ≡ es
  removed_none [] k e = refl
  removed_none (x ∷ es) k e = by (is_at (R k) x.0) e (removed_none es k)
    where
      by : (b : Bool) → cond b (Some x.1) (at R es k) ≡ None → (at R es k ≡ None → remove_entry (is_at (R k)) es ≡ es) → cond b es (x ∷ remove_entry (is_at (R k)) es) ≡ x ∷ es
      by true e later = absurd cc
      by false e later = ap (λ l. x ∷ l) (later e)

-- ---- how many RECALLs are listed

few_marks : (es : Entries) → sum_by (λ h. marks h.recall) (values_of es) ≤ length es
few_marks [] = omega arith
few_marks (e ∷ es) = omega (arith, sum_by-cons (λ (h : LeaseEntry). marks h.recall) e.1 (values_of es), at_most_one e.1.recall, few_marks es)
  where
    at_most_one : (o : Option ℕ) → marks o ≤ 1
    at_most_one None = omega arith
    at_most_one (Some x) = omega arith

pub few_recalls : (es : Entries) (rs ts : Keys) → AreKept es rs ts → length rs ≤ length es
few_recalls es rs ts kept = omega (arith, kept.few, few_marks es)

-- ---- a lease is put in

listed_sorted : (rs : Keys) (s f : ℕ) (o : Option ℕ) → IsStrictlySortedBy by_three (keys_of rs) → IsStrictlySortedBy by_three (keys_of (listed rs s o f))
listed_sorted rs s f None sorted = sorted
listed_sorted rs s f (Some x) sorted = sorted_inserted by_three three_total three_exact rs (s, x, f) (record {}) sorted

module _ (es : Entries) (rs ts : Keys) (kept : AreKept es rs ts) (s f : ℕ) (h : LeaseEntry) (new : held_at es s f ≡ None) where
  not_recalled : (y : ℕ) → is_listed rs s y f ≡ false
  not_recalled y = kept.recalled s y f ∙ ap (λ o. is_recalled o y) new

  not_ending : (e : ℕ) → is_listed ts e f s ≡ false
  not_ending e = kept.ending e f s ∙ ap (λ o. is_ending o e) new

  put_recalled : (o : Option ℕ) → h.recall ≡ o → (t y g : ℕ) → is_listed (listed rs s o f) t y g ≡ is_recalled (cond (is_same s f t g) (Some h) (held_at es t g)) y
  put_recalled None e t y g = by (is_same s f t g) refl
    where
      by : (b : Bool) → is_same s f t g ≡ b → is_listed rs t y g ≡ is_recalled (cond b (Some h) (held_at es t g)) y
      by true i = rw (same_session s f t g i, same_file s f t g i) (not_recalled y ∙ ap (λ o. is_recall o y) (sym e))
      by false i = kept.recalled t y g
  put_recalled (Some x) e t y g = listed_put rs s x f t y g ∙ by (is_same s f t g) refl
    where
      same : (b : Bool) → cond b true false ≡ b
      same true = refl
      same false = refl

      by : (b : Bool) → is_same s f t g ≡ b → cond (is_key s x f t y g) true (is_listed rs t y g) ≡ is_recalled (cond b (Some h) (held_at es t g)) y
      by true i =
          let key : is_key s x f t y g ≡ (x == y) = grind (arith, nat_tests, i) in
          let none : is_listed rs t y g ≡ false = rw (same_session s f t g i, same_file s f t g i) (not_recalled y) in
          ap (λ b. cond b true (is_listed rs t y g)) key ∙ ap (cond (x == y) true) none ∙ same (x == y) ∙ ap (λ o. is_recall o y) (sym e)
      by false i =
          let key : is_key s x f t y g ≡ false = grind (arith, nat_tests, i) in
          ap (λ b. cond b true (is_listed rs t y g)) key ∙ kept.recalled t y g

  put_ending : (e g t : ℕ) → is_listed (insert_entry by_three ts (h.ends, f, s) (record {})) e g t ≡ is_ending (cond (is_same s f t g) (Some h) (held_at es t g)) e
  put_ending e g t = listed_put ts h.ends f s e g t ∙ by (is_same s f t g) refl
    where
      same : (b : Bool) → cond b true false ≡ b
      same true = refl
      same false = refl

      by : (b : Bool) → is_same s f t g ≡ b → cond (is_key h.ends f s e g t) true (is_listed ts e g t) ≡ is_ending (cond b (Some h) (held_at es t g)) e
      by true i =
          let key : is_key h.ends f s e g t ≡ (h.ends == e) = grind (arith, nat_tests, i) in
          let none : is_listed ts e g t ≡ false = rw (same_session s f t g i, same_file s f t g i) (not_ending e) in
          ap (λ b. cond b true (is_listed ts e g t)) key ∙ ap (cond (h.ends == e) true) none ∙ same (h.ends == e)
      by false i =
          let key : is_key h.ends f s e g t ≡ false = grind (arith, nat_tests, i) in
          ap (λ b. cond b true (is_listed ts e g t)) key ∙ kept.ending e g t

  listed_length : (o : Option ℕ) → length (listed rs s o f) ≡ length rs + marks o
  listed_length None = omega arith
  listed_length (Some x) = length_inserted by_three three_total three_exact rs (s, x, f) (record {}) (not_some (at by_three rs (s, x, f)) (not_recalled x))

  sums : sum_by (λ h. marks h.recall) (values_of (insert_entry by_two es (f, s) h)) + unwrap_or (option_map (λ h. marks h.recall) (held_at es s f)) 0 ≡ sum_by (λ h. marks h.recall) (values_of es) + marks h.recall
  sums = sum_by-insert_entry (λ h. marks h.recall) two_total es (f, s) h kept.sorted

  nothing : unwrap_or (option_map (λ (h : LeaseEntry). marks h.recall) (held_at es s f)) 0 ≡ 0
  nothing = ap (λ o. unwrap_or (option_map (λ (h : LeaseEntry). marks h.recall) o) 0) new

  pub put_length : length (insert_entry by_two es (f, s) h) ≡ length es + 1
  put_length = length_inserted by_two two_total two_exact es (f, s) h new

  pub kept_put : f < 2 ^ 64 → s < 2 ^ 32 → AreKept (insert_entry by_two es (f, s) h) (listed rs s h.recall f) (insert_entry by_three ts (h.ends, f, s) (record {}))
  kept_put below_file below_session = record {
    sorted = sorted_inserted by_two two_total two_exact es (f, s) h kept.sorted;
    fit = All-keys-insert_entry by_two (f, s) h FitsKey es kept.fit (below_file, below_session);
    recalls_sorted = listed_sorted rs s f h.recall kept.recalls_sorted;
    recalled = λ t y g. put_recalled h.recall refl t y g ∙ ap (λ o. is_recalled o y) (sym (held_put es s f h t g));
    few = omega (arith, listed_length h.recall, kept.few, sums, nothing);
    ends_sorted = sorted_inserted by_three three_total three_exact ts (h.ends, f, s) (record {}) kept.ends_sorted;
    ending = λ e g t. put_ending e g t ∙ ap (λ o. is_ending o e) (sym (held_put es s f h t g));
    all = omega (arith, length_inserted by_three three_total three_exact ts (h.ends, f, s) (record {}) (not_some (at by_three ts (h.ends, f, s)) (not_ending h.ends)), put_length, kept.all);
  }

-- ---- a lease is taken out

unlisted_sorted : (rs : Keys) (s f : ℕ) (o : Option ℕ) → IsStrictlySortedBy by_three (keys_of rs) → IsStrictlySortedBy by_three (keys_of (unlisted rs s o f))
unlisted_sorted rs s f None sorted = sorted
unlisted_sorted rs s f (Some x) sorted = sorted_removed by_three three_total three_exact rs (s, x, f) sorted

module _ (es : Entries) (rs ts : Keys) (kept : AreKept es rs ts) (s f : ℕ) (h : LeaseEntry) (there : held_at es s f ≡ Some h) where
  is_its : (y : ℕ) → is_listed rs s y f ≡ is_recall h.recall y
  is_its y = kept.recalled s y f ∙ ap (λ o. is_recalled o y) there

  is_its_end : (e : ℕ) → is_listed ts e f s ≡ (h.ends == e)
  is_its_end e = kept.ending e f s ∙ ap (λ o. is_ending o e) there

  gone : (a b : Bool) → (b ≡ true → a ≡ true) → cond a false b ≡ false
  gone true b imp = refl
  gone false true imp = absurd (true≢false (sym (imp refl)))
  gone false false imp = refl

  removed_recalled : (o : Option ℕ) → h.recall ≡ o → (t y g : ℕ) → is_listed (unlisted rs s o f) t y g ≡ is_recalled (cond (is_same s f t g) None (held_at es t g)) y
  removed_recalled None e t y g = by (is_same s f t g) refl
    where
      by : (b : Bool) → is_same s f t g ≡ b → is_listed rs t y g ≡ is_recalled (cond b None (held_at es t g)) y
      by true i = rw (same_session s f t g i, same_file s f t g i) (is_its y ∙ ap (λ o. is_recall o y) e)
      by false i = kept.recalled t y g
  removed_recalled (Some x) e t y g = listed_removed rs kept.recalls_sorted s x f t y g ∙ by (is_same s f t g) refl
    where
      by : (b : Bool) → is_same s f t g ≡ b → cond (is_key t y g s x f) false (is_listed rs t y g) ≡ is_recalled (cond b None (held_at es t g)) y
      by true i =
          let key : is_key t y g s x f ≡ (x == y) = grind (arith, nat_tests, i) in
          let its : is_listed rs t y g ≡ (x == y) = rw (same_session s f t g i, same_file s f t g i) (is_its y ∙ ap (λ o. is_recall o y) e) in
          ap (λ b. cond b false (is_listed rs t y g)) key ∙ ap (cond (x == y) false) its ∙ gone (x == y) (x == y) (λ k. k)
      by false i =
          let key : is_key t y g s x f ≡ false = grind (arith, nat_tests, i) in
          ap (λ b. cond b false (is_listed rs t y g)) key ∙ kept.recalled t y g

  removed_ending : (e g t : ℕ) → is_listed (remove_entry (is_at (by_three (h.ends, f, s))) ts) e g t ≡ is_ending (cond (is_same s f t g) None (held_at es t g)) e
  removed_ending e g t = listed_removed ts kept.ends_sorted h.ends f s e g t ∙ by (is_same s f t g) refl
    where
      by : (b : Bool) → is_same s f t g ≡ b → cond (is_key e g t h.ends f s) false (is_listed ts e g t) ≡ is_ending (cond b None (held_at es t g)) e
      by true i =
          let key : is_key e g t h.ends f s ≡ (h.ends == e) = grind (arith, nat_tests, i) in
          let its : is_listed ts e g t ≡ (h.ends == e) = rw (same_session s f t g i, same_file s f t g i) (is_its_end e) in
          ap (λ b. cond b false (is_listed ts e g t)) key ∙ ap (cond (h.ends == e) false) its ∙ gone (h.ends == e) (h.ends == e) (λ k. k)
      by false i =
          let key : is_key e g t h.ends f s ≡ false = grind (arith, nat_tests, i) in
          ap (λ b. cond b false (is_listed ts e g t)) key ∙ kept.ending e g t

  itself : (x : ℕ) → (x == x) ≡ true
  itself x = grind (arith, nat_tests)

  unlisted_length : (o : Option ℕ) → h.recall ≡ o → length (unlisted rs s o f) + marks o ≡ length rs
  unlisted_length None e = omega arith
  unlisted_length (Some x) e =
      let a = a_some (at by_three rs (s, x, f)) (is_its x ∙ ap (λ o. is_recall o x) e ∙ itself x) in
      length_removed by_three rs (s, x, f) a.0 a.1

  end_length : length (remove_entry (is_at (by_three (h.ends, f, s))) ts) + 1 ≡ length ts
  end_length = let a = a_some (at by_three ts (h.ends, f, s)) (is_its_end h.ends ∙ itself h.ends) in length_removed by_three ts (h.ends, f, s) a.0 a.1

  pub removed_length : length (remove_entry (is_at (by_two (f, s))) es) + 1 ≡ length es
  removed_length = length_removed by_two es (f, s) h there

  sums_left : sum_by (λ h. marks h.recall) (values_of (remove_entry (is_at (by_two (f, s))) es)) + marks h.recall ≡ sum_by (λ h. marks h.recall) (values_of es)
  sums_left = omega (arith, sum_by-remove_entry (λ h. marks h.recall) (is_at (by_two (f, s))) es, ap (λ o. unwrap_or (option_map (λ (h : LeaseEntry). marks h.recall) o) 0) there)

  pub kept_removed : AreKept (remove_entry (is_at (by_two (f, s))) es) (unlisted rs s h.recall f) (remove_entry (is_at (by_three (h.ends, f, s))) ts)
  kept_removed = record {
    sorted = sorted_removed by_two two_total two_exact es (f, s) kept.sorted;
    fit = All-map-remove_entry (is_at (by_two (f, s))) (λ (e : (ℕ × ℕ) × LeaseEntry). e.0) FitsKey es kept.fit;
    recalls_sorted = unlisted_sorted rs s f h.recall kept.recalls_sorted;
    recalled = λ t y g. removed_recalled h.recall refl t y g ∙ ap (λ o. is_recalled o y) (sym (held_removed es kept.sorted s f t g));
    few = omega (arith, unlisted_length h.recall refl, kept.few, sums_left);
    ends_sorted = sorted_removed by_three three_total three_exact ts (h.ends, f, s) kept.ends_sorted;
    ending = λ e g t. removed_ending e g t ∙ ap (λ o. is_ending o e) (sym (held_removed es kept.sorted s f t g));
    all = omega (arith, end_length, removed_length, kept.all);
  }

  pub gone_is : held_at (remove_entry (is_at (by_two (f, s))) es) s f ≡ None
  gone_is = held_removed es kept.sorted s f s f ∙ ap (λ b. cond b None (held_at es s f)) same
    where
      same : is_same s f s f ≡ true
      same = grind (arith, nat_tests)

  -- to put another in place of it is to take it out, and put the other in
  pub put_anew : (other : LeaseEntry) → insert_entry by_two (remove_entry (is_at (by_two (f, s))) es) (f, s) other ≡ insert_entry by_two es (f, s) other
  put_anew other =
      same_entries by_two two_total two_exact _ _ (sorted_inserted by_two two_total two_exact _ (f, s) other (sorted_removed by_two two_total two_exact es (f, s) kept.sorted)) (sorted_inserted by_two two_total two_exact es (f, s) other kept.sorted)
      (λ q. held_put (remove_entry (is_at (by_two (f, s))) es) s f other q.1 q.0 ∙ ap (cond (is_same s f q.1 q.0) (Some other)) (held_removed es kept.sorted s f q.1 q.0) ∙ by q (is_same s f q.1 q.0) ∙ sym (held_put es s f other q.1 q.0))
    where
      by : (q : ℕ × ℕ) (b : Bool) → cond b (Some other) (cond b None (held_at es q.1 q.0)) ≡ cond b (Some other) (held_at es q.1 q.0)
      by q true = refl
      by q false = refl

-- ---- as the calls have it

pub kept_is : {es others : Entries} {rs recalls ts ends : Keys} → others ≡ es → recalls ≡ rs → ends ≡ ts → AreKept es rs ts → AreKept others recalls ends
kept_is {es} {others} {rs} {recalls} {ts} {ends} e f g k = subst (λ (x : Entries). AreKept x recalls ends) (sym e) (subst (λ (y : Keys). AreKept es y ends) (sym f) (subst (λ (z : Keys). AreKept es rs z) (sym g) k))

module _ (es : Entries) (rs ts : Keys) (kept : AreKept es rs ts) (s f : ℕ) where
  module _ (h : LeaseEntry) (new : held_at es s f ≡ None) (below_file : f < 2 ^ 64) (below_session : s < 2 ^ 32) (others : Entries) (recalls ends : Keys) (is : others ≡ insert_entry by_two es (f, s) h) where
    pub added_kept : recalls ≡ listed rs s h.recall f → ends ≡ insert_entry by_three ts (h.ends, f, s) (record {}) → AreKept others recalls ends
    added_kept r t = kept_is is r t (kept_put es rs ts kept s f h new below_file below_session)

    pub added_length : length others ≡ length es + 1
    added_length = ap length is ∙ put_length es rs ts kept s f h new

  module _ (h : LeaseEntry) (there : held_at es s f ≡ Some h) (recalls ends : Keys) (r : recalls ≡ unlisted rs s h.recall f) (t : ends ≡ remove_entry (is_at (by_three (h.ends, f, s))) ts) where
    left : AreKept (remove_entry (is_at (by_two (f, s))) es) (unlisted rs s h.recall f) (remove_entry (is_at (by_three (h.ends, f, s))) ts)
    left = kept_removed es rs ts kept s f h there

    pub taken_kept : (others : Entries) → others ≡ remove_entry (is_at (by_two (f, s))) es → AreKept others recalls ends
    taken_kept others is = kept_is is r t left

    pub taken_length : (others : Entries) → others ≡ remove_entry (is_at (by_two (f, s))) es → length others + 1 ≡ length es
    taken_length others is = omega (arith, ap (λ (x : Entries). length x) is, removed_length es rs ts kept s f h there)

    pub fewer_recalls : length recalls < length es
    fewer_recalls = omega (arith, ap (λ (x : Keys). length x) r, few_recalls _ _ _ left, removed_length es rs ts kept s f h there)

    pub fewer_ends : length ends < length es
    fewer_ends = omega (arith, ap (λ (x : Keys). length x) t, left.all, removed_length es rs ts kept s f h there)

    module _ (other : LeaseEntry) (others : Entries) (is : others ≡ insert_entry by_two es (f, s) other) where
      anew : others ≡ insert_entry by_two (remove_entry (is_at (by_two (f, s))) es) (f, s) other
      anew = is ∙ sym (put_anew es rs ts kept s f h there other)

      pub replaced_kept : f < 2 ^ 64 → s < 2 ^ 32 → (more later : Keys) → more ≡ listed recalls s other.recall f → later ≡ insert_entry by_three ends (other.ends, f, s) (record {}) → AreKept others more later
      replaced_kept below_file below_session more later m l =
          kept_is anew (m ∙ ap (λ (x : Keys). listed x s other.recall f) r) (l ∙ ap (λ (x : Keys). insert_entry by_three x (other.ends, f, s) (record {})) t)
          (kept_put _ _ _ left s f other (gone_is es rs ts kept s f h there) below_file below_session)

      pub replaced_length : length others ≡ length es
      replaced_length = omega (arith, ap (λ (x : Entries). length x) anew, put_length _ _ _ left s f other (gone_is es rs ts kept s f h there), removed_length es rs ts kept s f h there)

  pub nothing_taken : held_at es s f ≡ None → (others : Entries) → others ≡ remove_entry (is_at (by_two (f, s))) es → others ≡ es
  nothing_taken none others is = is ∙ removed_none by_two es (f, s) none

pub kept_empty : (es : Entries) (rs ts : Keys) → es ≡ [] → rs ≡ [] → ts ≡ [] → AreKept es rs ts
unfolding IsStrictlySortedBy
kept_empty es rs ts e r t = kept_is e r t (record {
  sorted = tt;
  fit = All-nil FitsKey;
  recalls_sorted = tt;
  recalled = λ s x f. refl;
  few = refl;
  ends_sorted = tt;
  ending = λ e f s. refl;
  all = refl;
})

-- The open file with an id, after one is put among the open files, or taken out.
use Rattle.std.proofs.Common.{◌≡◌, refl, sym, ap, subst, ◌∙◌, ℕ, List, [], ◌∷◌, Bool, true, false, Some, None}
use Rattle.std.specs.Prelude.{cond, not}
use Rattle.std.specs.List.{AllByRecursion}
use Rattle.std.specs.Map.{keys_of, remove_entry}
use Rattle.std.specs.BTreeMap.{insert_entry, is_at}
use Rattle.std.specs.Cmp.{nat_cmp_total, eq_by_cmp_equiv}
use Rattle.std.specs.Ordering.{nat_cmp, is_eq, match_ordering}
use Rattle.std.specs.declared.cmp.Ordering.{Ordering}
use Rattle.std.specs.declared.cmp.Ordering.TheVariants.{Less, Equal, Greater}
use Rattle.std.proofs.lemmas.Map.Entries.{lookup_head, lookup_tail}
use Rattle.std.proofs.lemmas.Map.Lookups.{exact_unsigned}
use Rattle.std.proofs.lemmas.Map.Keys.{sorted_head, sorted_tail}
use Rattle.std.proofs.lemmas.Map.Views.{tells_apart}
use Rattle.client_state.specs.State.{local_at, with_local, without_local, IsRising}
use Rattle.client_state.specs.declared.task.Local.{Local}
use Rattle.client_state.proofs.lemmas.Bounds.{locals_without}

-- ---- an id against an id

at_itself : (id : ℕ) → is_at (nat_cmp id) id ≡ true
at_itself id = (eq_by_cmp_equiv nat_cmp_total).refl id

at_another : (q id : ℕ) → (q ≡ id → ⊥) → is_at (nat_cmp q) id ≡ false
at_another q id apart = by (is_at (nat_cmp q) id) (λ y. apart (tells_apart exact_unsigned q id y))
  where
    by : (b : Bool) → (b ≡ true → ⊥) → b ≡ false
    by true n = absurd (n refl)
    by false n = refl

-- ---- open files

-- under its own id it is the new one
pub local_at_itself : (es : List (ℕ × Local)) (k : ℕ) (v : Local) → local_at (with_local es k v) k ≡ Some v
local_at_itself [] k v = lookup_head (is_at (nat_cmp k)) (k, v) [] (at_itself k)
local_at_itself (e ∷ es) k v = by (nat_cmp k e.0) refl (local_at_itself es k v)
  where
    by : (r : Ordering) → nat_cmp k e.0 ≡ r → local_at (insert_entry nat_cmp es k v) k ≡ Some v
        → local_at (match_ordering r ((k, v) ∷ e ∷ es) ((e.0, v) ∷ es) (e ∷ insert_entry nat_cmp es k v)) k ≡ Some v
    by Less p h = lookup_head (is_at (nat_cmp k)) (k, v) (e ∷ es) (at_itself k)
    by Equal p h = lookup_head (is_at (nat_cmp k)) (e.0, v) es (ap is_eq p)
    by Greater p h = lookup_tail (is_at (nat_cmp k)) e (insert_entry nat_cmp es k v) (ap is_eq p) ∙ h

-- under any other id it is as before
pub local_at_another : (es : List (ℕ × Local)) (k : ℕ) (v : Local) (q : ℕ) → (q ≡ k → ⊥) → local_at (with_local es k v) q ≡ local_at es q
local_at_another [] k v q apart = lookup_tail (is_at (nat_cmp q)) (k, v) [] (at_another q k apart)
local_at_another (e ∷ es) k v q apart = by (nat_cmp k e.0) refl (local_at_another es k v q apart)
  where
    by : (r : Ordering) → nat_cmp k e.0 ≡ r → local_at (insert_entry nat_cmp es k v) q ≡ local_at es q
        → local_at (match_ordering r ((k, v) ∷ e ∷ es) ((e.0, v) ∷ es) (e ∷ insert_entry nat_cmp es k v)) q ≡ local_at (e ∷ es) q
    by Less p h = lookup_tail (is_at (nat_cmp q)) (k, v) (e ∷ es) (at_another q k apart)
    by Equal p h =
        let n = at_another q e.0 (λ y. apart (y ∙ sym (exact_unsigned k e.0 p))) in
        lookup_tail (is_at (nat_cmp q)) (e.0, v) es n ∙ sym (lookup_tail (is_at (nat_cmp q)) e es n)
    by Greater p h = ap (λ l. cond (is_at (nat_cmp q) e.0) (Some e.1) l) h

-- once it is taken out there is none under its id
pub without_at_itself : (es : List (ℕ × Local)) (k : ℕ) → local_at (without_local es k) k ≡ None
without_at_itself [] k = refl
without_at_itself (e ∷ es) k = by (is_at (nat_cmp k) e.0) refl (without_at_itself es k)
  where
    by : (b : Bool) → is_at (nat_cmp k) e.0 ≡ b → local_at (without_local es k) k ≡ None
        → local_at (cond (not b) (e ∷ without_local es k) (without_local es k)) k ≡ None
    by true p h = h
    by false p h = lookup_tail (is_at (nat_cmp k)) e (without_local es k) p ∙ h

-- and under any other id it is as before
pub without_at_another : (es : List (ℕ × Local)) (k q : ℕ) → (q ≡ k → ⊥) → local_at (without_local es k) q ≡ local_at es q
without_at_another [] k q apart = refl
without_at_another (e ∷ es) k q apart = by (is_at (nat_cmp k) e.0) refl (without_at_another es k q apart)
  where
    by : (b : Bool) → is_at (nat_cmp k) e.0 ≡ b → local_at (without_local es k) q ≡ local_at es q
        → local_at (cond (not b) (e ∷ without_local es k) (without_local es k)) q ≡ local_at (e ∷ es) q
    by true p h =
        let n = at_another q e.0 (λ y. apart (y ∙ sym (tells_apart exact_unsigned k e.0 p))) in
        h ∙ sym (lookup_tail (is_at (nat_cmp q)) e es n)
    by false p h = ap (λ l. cond (is_at (nat_cmp q) e.0) (Some e.1) l) h

-- ---- a map's removal

-- where no key of the entries passes all of them stay
all_apart : (es : List (ℕ × Local)) (k : ℕ) → AllByRecursion (λ y. nat_cmp k y ≡ Less) (keys_of es) → without_local es k ≡ es
all_apart [] k a = refl
all_apart (e ∷ es) k a =
    let rest = all_apart es k a.1 in
    let apart : is_at (nat_cmp k) e.0 ≡ false = ap is_eq a.0 in
    ap (λ b. cond (not b) (e ∷ without_local es k) (without_local es k)) apart ∙ ap (λ l. e ∷ l) rest

-- where the ids rise one entry is taken out at most, and so all with this id
pub remove_is_without : (es : List (ℕ × Local)) (k : ℕ) → IsRising es → remove_entry (is_at (nat_cmp k)) es ≡ without_local es k
remove_is_without [] k s = refl
remove_is_without (e ∷ es) k s = by (is_at (nat_cmp k) e.0) refl (remove_is_without es k (sorted_tail nat_cmp e.0 (keys_of es) s))
  where
    by : (b : Bool) → is_at (nat_cmp k) e.0 ≡ b → remove_entry (is_at (nat_cmp k)) es ≡ without_local es k
        → cond b es (e ∷ remove_entry (is_at (nat_cmp k)) es) ≡ cond (not b) (e ∷ without_local es k) (without_local es k)
    by true p h =
        let same : k ≡ e.0 = tells_apart exact_unsigned k e.0 p in
        sym (all_apart es k (subst (λ j. AllByRecursion (λ y. nat_cmp j y ≡ Less) (keys_of es)) (sym same) (sorted_head nat_cmp e.0 (keys_of es) s)))
    by false p h = ap (λ l. e ∷ l) h

-- what `take_local` goes by
pub ruleset by_take_local = (locals_without, remove_is_without)

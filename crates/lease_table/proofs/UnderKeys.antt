-- Leases under their keys are the list of them, and what is done to the one is done to the other.
use Rattle.std.proofs.Common.{◌≡◌, ℕ, ◌<◌, ◌≤◌, ◌^◌, List, [], ◌∷◌, ◌++◌, Some, Bool, true, false, true≢false, refl, sym, ap, subst, ◌∙◌, arith}
use Rattle.std.specs.Prelude.{not, cond, filter, All, ◌&&◌, ◌||◌, ◌==◌, nat_lt}
use Rattle.std.specs.BTreeMap.{insert_entry, is_at}
use Rattle.std.specs.BTreeMap.Range.{range_contains}
use Rattle.std.specs.declared.ops.Bound.TheVariants.{Included}
use Rattle.std.specs.Cmp.{IsTotalOrder}
use Rattle.std.specs.List.{AllByRecursion}
use Rattle.std.specs.List.Sorted.{IsStrictlySortedBy}
use Rattle.std.specs.Map.{keys_of, remove_entry}
use Rattle.std.specs.Option.{option_map}
use Rattle.std.specs.Ordering.{nat_cmp, ordering_then, ordering_reverse, is_eq, is_le, is_lt, match_ordering}
use Rattle.std.specs.declared.cmp.Ordering.{Ordering}
use Rattle.std.specs.declared.cmp.Ordering.TheVariants.{Less, Equal, Greater}
use Rattle.std.proofs.lemmas.Bool.Decides.{nat_tests}
use Rattle.std.proofs.lemmas.Cmp.{nat_cmp_total, on_total, then_total}
use Rattle.std.proofs.lemmas.List.Elements.{All-cons}
use Rattle.std.proofs.lemmas.List.Kept.{AllPairs-cons}
use Rattle.std.proofs.lemmas.Map.Keys.{sorted_head, sorted_tail}
use Rattle.std.proofs.lemmas.Map.Lookups.{exact_unsigned}
use Rattle.lease_table.specs.Reserved.{IsExact}
use Rattle.lease_rules.specs.declared.lease.LeaseEntry.{LeaseEntry}
use Rattle.lease_rules.specs.declared.lease.Lease.{Lease}
use Rattle.lease_table.specs.Leases.{is_on, is_before, is_behind, lease_at, with_lease, without_lease}
use Rattle.lease_table.specs.Order.{ComesBefore, AreOrdered}
use Rattle.lease_table.specs.Kept.{by_two, by_three, Entries, lease_from, leases_of, held_at}

-- ---- keys

pub two_total : IsTotalOrder by_two
two_total = then_total (on_total (λ (p : ℕ × ℕ). p.0) nat_cmp_total) (on_total (λ (p : ℕ × ℕ). p.1) nat_cmp_total)

pub three_total : IsTotalOrder by_three
three_total = then_total (then_total (on_total (λ (p : ℕ × ℕ × ℕ). p.0) nat_cmp_total) (on_total (λ (p : ℕ × ℕ × ℕ). p.1) nat_cmp_total)) (on_total (λ (p : ℕ × ℕ × ℕ). p.2) nat_cmp_total)

both_equal : (o p : Ordering) → ordering_then o p ≡ Equal → (o ≡ Equal) × (p ≡ Equal)
both_equal Less p e = absurd cc
both_equal Equal p e = (refl, e)
both_equal Greater p e = absurd cc

pub two_exact : IsExact by_two
two_exact x y e =
    let b = both_equal (nat_cmp x.0 y.0) (nat_cmp x.1 y.1) e in
    ap (λ (n : ℕ). (n, x.1)) (exact_unsigned x.0 y.0 b.0) ∙ ap (λ (n : ℕ). (y.0, n)) (exact_unsigned x.1 y.1 b.1)

pub three_exact : IsExact by_three
three_exact x y e =
    let b = both_equal (ordering_then (nat_cmp x.0 y.0) (nat_cmp x.1 y.1)) (nat_cmp x.2 y.2) e in
    let c = both_equal (nat_cmp x.0 y.0) (nat_cmp x.1 y.1) b.0 in
    ap (λ (n : ℕ). (n, x.1, x.2)) (exact_unsigned x.0 y.0 c.0) ∙ ap (λ (n : ℕ). (y.0, n, x.2)) (exact_unsigned x.1 y.1 c.1) ∙ ap (λ (n : ℕ). (y.0, y.1, n)) (exact_unsigned x.2 y.2 b.1)

then_eq : (o p : Ordering) → is_eq (ordering_then o p) ≡ (is_eq o && is_eq p)
then_eq Less p = refl
then_eq Equal p = refl
then_eq Greater p = refl

eq_nat : (a b : ℕ) → is_eq (nat_cmp a b) ≡ (b == a)
eq_nat a b = grind (arith, nat_tests)

pub at_two : (f s g t : ℕ) → is_at (by_two (f, s)) (g, t) ≡ (g == f && t == s)
at_two f s g t = then_eq (nat_cmp f g) (nat_cmp s t) ∙ ap (λ b. b && is_eq (nat_cmp s t)) (eq_nat f g) ∙ ap (λ b. g == f && b) (eq_nat s t)

pub at_three : (a b c x y z : ℕ) → is_at (by_three (a, b, c)) (x, y, z) ≡ ((x == a && y == b) && z == c)
at_three a b c x y z =
    then_eq (ordering_then (nat_cmp a x) (nat_cmp b y)) (nat_cmp c z) ∙ ap (λ d. d && is_eq (nat_cmp c z)) (then_eq (nat_cmp a x) (nat_cmp b y))
    ∙ ap (λ d. (d && is_eq (nat_cmp b y)) && is_eq (nat_cmp c z)) (eq_nat a x) ∙ ap (λ d. (x == a && d) && is_eq (nat_cmp c z)) (eq_nat b y) ∙ ap (λ d. (x == a && y == b) && d) (eq_nat c z)

-- ---- a lease under a key, against another key

on_is : (e : (ℕ × ℕ) × LeaseEntry) (s f : ℕ) → is_at (by_two (f, s)) e.0 ≡ is_on (lease_from e) s f
on_is e s f = at_two f s e.0.0 e.0.1

-- what a comparison of keys says of leases
record IsCompared (l : Lease) (s f : ℕ) (r : Ordering) : Type 0 where
  before : is_before l s f ≡ match_ordering r false false true
  behind : is_behind l s f ≡ match_ordering r true false false

compared : (e : (ℕ × ℕ) × LeaseEntry) (s f : ℕ) → IsCompared (lease_from e) s f (by_two (f, s) e.0)
compared e s f = record { before = before e.0.0 e.0.1; behind = behind e.0.0 e.0.1 }
  where
    before : (g t : ℕ) → (nat_lt g f || (g == f && nat_lt t s)) ≡ match_ordering (ordering_then (nat_cmp f g) (nat_cmp s t)) false false true
    before g t = grind (arith, nat_tests)

    behind : (g t : ℕ) → (nat_lt f g || (g == f && nat_lt s t)) ≡ match_ordering (ordering_then (nat_cmp f g) (nat_cmp s t)) true false false
    behind g t = grind (arith, nat_tests)

-- ---- what stands behind

-- none of these is before the lease or is it, and all are behind it
record AreBehind (s f : ℕ) (es : Entries) : Type 0 where
  before : filter (λ l. is_before l s f) (leases_of es) ≡ []
  behind : filter (λ l. is_behind l s f) (leases_of es) ≡ leases_of es
  others : filter (λ l. not (is_on l s f)) (leases_of es) ≡ leases_of es

are_behind : (s f : ℕ) (es : Entries) → AllByRecursion (λ y. by_two (f, s) y ≡ Less) (keys_of es) → AreBehind s f es
are_behind s f [] a = record { before = refl; behind = refl; others = refl }
are_behind s f (e ∷ es) a =
    let later = are_behind s f es a.1 in
    let c = compared e s f in
    let before : is_before (lease_from e) s f ≡ false = c.before ∙ ap (λ r. match_ordering r false false true) a.0 in
    let behind : is_behind (lease_from e) s f ≡ true = c.behind ∙ ap (λ r. match_ordering r true false false) a.0 in
    let on : is_on (lease_from e) s f ≡ false = sym (on_is e s f) ∙ ap is_eq a.0 in
    record {
      before = ap (λ b. cond b (lease_from e ∷ filter (λ l. is_before l s f) (leases_of es)) (filter (λ l. is_before l s f) (leases_of es))) before ∙ later.before;
      behind = ap (λ b. cond b (lease_from e ∷ filter (λ l. is_behind l s f) (leases_of es)) (filter (λ l. is_behind l s f) (leases_of es))) behind ∙ ap (λ l. lease_from e ∷ l) later.behind;
      others = ap (λ b. cond (not b) (lease_from e ∷ filter (λ l. not (is_on l s f)) (leases_of es)) (filter (λ l. not (is_on l s f)) (leases_of es))) on ∙ ap (λ l. lease_from e ∷ l) later.others;
    }

above : (j k : ℕ × ℕ) (ks : List (ℕ × ℕ)) → by_two j k ≡ Less → AllByRecursion (λ y. by_two k y ≡ Less) ks → AllByRecursion (λ y. by_two j y ≡ Less) ks
above j k [] h a = tt
above j k (y ∷ ys) h a = (two_total.trans j k y h a.0, above j k ys h a.1)

-- ---- a lease is put in, or taken out

pub put_is : (es : Entries) → IsStrictlySortedBy by_two (keys_of es) → (s f : ℕ) (h : LeaseEntry) → leases_of (insert_entry by_two es (f, s) h) ≡ with_lease (leases_of es) (lease_from ((f, s), h))
put_is [] sorted s f h = refl
put_is (e ∷ es) sorted s f h = by (by_two (f, s) e.0) refl (compared e s f) (put_is es (sorted_tail by_two e.0 (keys_of es) sorted) s f h)
  where
    l : Lease
    l = lease_from ((f, s), h)

    by : (r : Ordering) → by_two (f, s) e.0 ≡ r → IsCompared (lease_from e) s f (by_two (f, s) e.0) → leases_of (insert_entry by_two es (f, s) h) ≡ with_lease (leases_of es) l
        → leases_of (match_ordering r (((f, s), h) ∷ e ∷ es) ((e.0, h) ∷ es) (e ∷ insert_entry by_two es (f, s) h)) ≡ with_lease (leases_of (e ∷ es)) l
    by Less p c later =
        let all = are_behind s f (e ∷ es) (p, above (f, s) e.0 (keys_of es) p (sorted_head by_two e.0 (keys_of es) sorted)) in
        ap (λ (m : List Lease). l ∷ m) (sym all.behind) ∙ ap (λ (m : List Lease). m ++ l ∷ filter (λ x. is_behind x s f) (leases_of (e ∷ es))) (sym all.before)
    by Equal p c later =
        let key : (f, s) ≡ e.0 = two_exact (f, s) e.0 p in
        let rest = are_behind s f es (subst (λ (k : ℕ × ℕ). AllByRecursion (λ y. by_two k y ≡ Less) (keys_of es)) (sym key) (sorted_head by_two e.0 (keys_of es) sorted)) in
        let before : is_before (lease_from e) s f ≡ false = c.before ∙ ap (λ r. match_ordering r false false true) p in
        let behind : is_behind (lease_from e) s f ≡ false = c.behind ∙ ap (λ r. match_ordering r true false false) p in
        ap (λ (k : ℕ × ℕ). lease_from (k, h) ∷ leases_of es) (sym key)
        ∙ ap (λ (m : List Lease). l ∷ m) (sym rest.behind)
        ∙ ap (λ (m : List Lease). m ++ l ∷ filter (λ x. is_behind x s f) (leases_of es)) (sym rest.before)
        ∙ ap (λ b. cond b (lease_from e ∷ filter (λ x. is_before x s f) (leases_of es)) (filter (λ x. is_before x s f) (leases_of es)) ++ l ∷ filter (λ x. is_behind x s f) (leases_of es)) (sym before)
        ∙ ap (λ b. filter (λ x. is_before x s f) (leases_of (e ∷ es)) ++ l ∷ cond b (lease_from e ∷ filter (λ x. is_behind x s f) (leases_of es)) (filter (λ x. is_behind x s f) (leases_of es))) (sym behind)
    by Greater p c later =
        let before : is_before (lease_from e) s f ≡ true = c.before ∙ ap (λ r. match_ordering r false false true) p in
        let behind : is_behind (lease_from e) s f ≡ false = c.behind ∙ ap (λ r. match_ordering r true false false) p in
        ap (λ (m : List Lease). lease_from e ∷ m) later
        ∙ ap (λ b. cond b (lease_from e ∷ filter (λ x. is_before x s f) (leases_of es)) (filter (λ x. is_before x s f) (leases_of es)) ++ l ∷ filter (λ x. is_behind x s f) (leases_of es)) (sym before)
        ∙ ap (λ b. filter (λ x. is_before x s f) (leases_of (e ∷ es)) ++ l ∷ cond b (lease_from e ∷ filter (λ x. is_behind x s f) (leases_of es)) (filter (λ x. is_behind x s f) (leases_of es))) (sym behind)

pub removed_is : (es : Entries) → IsStrictlySortedBy by_two (keys_of es) → (s f : ℕ) → leases_of (remove_entry (is_at (by_two (f, s))) es) ≡ without_lease (leases_of es) s f
removed_is [] sorted s f = refl
removed_is (e ∷ es) sorted s f = by (is_at (by_two (f, s)) e.0) refl (removed_is es (sorted_tail by_two e.0 (keys_of es) sorted) s f)
  where
    equal_of : (r : Ordering) → is_eq r ≡ true → r ≡ Equal
    equal_of Less e = absurd (true≢false (sym e))
    equal_of Equal e = refl
    equal_of Greater e = absurd (true≢false (sym e))

    by : (b : Bool) → is_at (by_two (f, s)) e.0 ≡ b → leases_of (remove_entry (is_at (by_two (f, s))) es) ≡ without_lease (leases_of es) s f
        → leases_of (cond b es (e ∷ remove_entry (is_at (by_two (f, s))) es)) ≡ without_lease (leases_of (e ∷ es)) s f
    by true h later =
        let key : (f, s) ≡ e.0 = two_exact (f, s) e.0 (equal_of (by_two (f, s) e.0) h) in
        let rest = are_behind s f es (subst (λ (k : ℕ × ℕ). AllByRecursion (λ y. by_two k y ≡ Less) (keys_of es)) (sym key) (sorted_head by_two e.0 (keys_of es) sorted)) in
        sym rest.others ∙ ap (λ b. cond (not b) (lease_from e ∷ filter (λ l. not (is_on l s f)) (leases_of es)) (filter (λ l. not (is_on l s f)) (leases_of es))) (sym (sym (on_is e s f) ∙ h))
    by false h later =
        ap (λ (m : List Lease). lease_from e ∷ m) later
        ∙ ap (λ b. cond (not b) (lease_from e ∷ filter (λ l. not (is_on l s f)) (leases_of es)) (filter (λ l. not (is_on l s f)) (leases_of es))) (sym (sym (on_is e s f) ∙ h))

-- ---- a lease is looked up

pub found_is : (es : Entries) (s f : ℕ) → lease_at (leases_of es) s f ≡ option_map (λ h. lease_from ((f, s), h)) (held_at es s f)
found_is [] s f = refl
found_is (e ∷ es) s f = ap (λ b. cond b (Some (lease_from e)) (lease_at (leases_of es) s f)) (sym (on_is e s f)) ∙ by (is_at (by_two (f, s)) e.0) refl (found_is es s f)
  where
    equal_of : (r : Ordering) → is_eq r ≡ true → r ≡ Equal
    equal_of Less e = absurd (true≢false (sym e))
    equal_of Equal e = refl
    equal_of Greater e = absurd (true≢false (sym e))

    by : (b : Bool) → is_at (by_two (f, s)) e.0 ≡ b → lease_at (leases_of es) s f ≡ option_map (λ h. lease_from ((f, s), h)) (held_at es s f)
        → cond b (Some (lease_from e)) (lease_at (leases_of es) s f) ≡ option_map (λ h. lease_from ((f, s), h)) (cond b (Some e.1) (held_at es s f))
    by true h later = ap (λ (k : ℕ × ℕ). Some (lease_from (k, e.1))) (sym (two_exact (f, s) e.0 (equal_of (by_two (f, s) e.0) h)))
    by false h later = later

pub ordered_is : (es : Entries) → IsStrictlySortedBy by_two (keys_of es) → AreOrdered (leases_of es)
ordered_is [] sorted = λ i j d less last. absurd (omega arith)
ordered_is (e ∷ es) sorted = AllPairs-cons ComesBefore (lease_from e) (leases_of es) (later es (sorted_head by_two e.0 (keys_of es) sorted)) (ordered_is es (sorted_tail by_two e.0 (keys_of es) sorted))
  where
    flipped : (x : (ℕ × ℕ) × LeaseEntry) → by_two e.0 x.0 ≡ Less → ComesBefore (lease_from e) (lease_from x)
    flipped x h = (compared e x.0.1 x.0.0).before ∙ ap (λ r. match_ordering r false false true) (two_total.antisymm x.0 e.0 ∙ ap ordering_reverse h)

    later : (xs : Entries) → AllByRecursion (λ y. by_two e.0 y ≡ Less) (keys_of xs) → All (ComesBefore (lease_from e)) (leases_of xs)
    later [] a = λ i d within. absurd (omega arith)
    later (x ∷ xs) a = All-cons (ComesBefore (lease_from e)) (lease_from x) (leases_of xs) (flipped x a.0) (later xs a.1)

-- ---- ranges of keys

and_true : (a b : Bool) → a ≡ true → b ≡ true → (a && b) ≡ true
and_true true b p q = q
and_true false b p q = absurd (true≢false (sym p))

pub of_recall : (s x f : ℕ) → f < 2 ^ 64 → range_contains by_three (Included (s, x, 0)) (Included (s, x, 18446744073709551615)) (s, x, f) ≡ true
of_recall s x f below = and_true (is_le (by_three (s, x, 0) (s, x, f))) (not (is_lt (by_three (s, x, 18446744073709551615) (s, x, f)))) (grind (arith, nat_tests)) (grind (arith, nat_tests, below))

-- the same between bounds that are these
pub of_recall_between : (s x f : ℕ) (first last : ℕ × ℕ × ℕ) → first ≡ (s, x, 0) → last ≡ (s, x, 18446744073709551615) → f < 2 ^ 64 → range_contains by_three (Included first) (Included last) (s, x, f) ≡ true
of_recall_between s x f first last is_first is_last below =
    ap (λ (p : ℕ × ℕ × ℕ). range_contains by_three (Included p) (Included last) (s, x, f)) is_first ∙ ap (λ (p : ℕ × ℕ × ℕ). range_contains by_three (Included (s, x, 0)) (Included p) (s, x, f)) is_last ∙ of_recall s x f below

pub up_to_now : (now reading f s : ℕ) → reading ≤ now → f < 2 ^ 64 → s < 2 ^ 32 → range_contains by_three (Included (0, 0, 0)) (Included (now, 18446744073709551615, 4294967295)) (reading, f, s) ≡ true
up_to_now now reading f s past below_file below_session =
    and_true (is_le (by_three (0, 0, 0) (reading, f, s))) (not (is_lt (by_three (now, 18446744073709551615, 4294967295) (reading, f, s)))) (grind (arith, nat_tests)) (grind (arith, nat_tests, past, below_file, below_session))

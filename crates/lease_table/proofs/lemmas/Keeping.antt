-- Which lease is found where, as leases are granted and dropped.
use Rattle.std.proofs.Common.{◌≡◌, ℕ, List, [], ◌∷◌, ◌++◌, Some, None, Bool, true, false, refl, subst, ◌∙◌, arith}
use Rattle.std.specs.Prelude.{not, cond, filter, All, ◌&&◌, ◌==◌}
use Rattle.std.specs.List.{AllByRecursion}
use Rattle.std.proofs.lemmas.Bool.Decides.{nat_tests}
use Rattle.std.proofs.lemmas.List.Elements.{All-head, All-tail}
use Rattle.clock_rule.proofs.lemmas.Keeping.{pairs_head, pairs_tail}
use Rattle.lease_rules.specs.declared.lease.Lease.{Lease}
use Rattle.lease_table.specs.Leases.{is_on, is_before, is_behind, lease_at, with_lease, without_lease}
use Rattle.lease_table.specs.Order.{ComesBefore, AreOrdered}
use Rattle.lease_table.proofs.lemmas.Lists.{find_kept, find_none_kept, unique, put_ordered, find_put_new, find_put_other, some_is}
use Rattle.lease_table.proofs.Ordered.{split}
use Rattle.lease_table.proofs.Places.{lease_probe}

-- two sessions and two files are the same
abbrev pub is_same : (session file other_session other_file : ℕ) → Bool
is_same s f t g = f == g && s == t

pub same_session : (s f t g : ℕ) → is_same s f t g ≡ true → t ≡ s
same_session s f t g e = grind (arith, nat_tests, e)

pub same_file : (s f t g : ℕ) → is_same s f t g ≡ true → g ≡ f
same_file s f t g e = grind (arith, nat_tests, e)

-- ---- leases

module _ (leases : List Lease) (ordered : AreOrdered leases) where
  pub with_ordered : (new : Lease) → AreOrdered (with_lease leases new)
  with_ordered new =
      put_ordered ComesBefore new (λ l. is_before l new.session new.file) (λ l. is_behind l new.session new.file)
      (λ y h. h) (λ y h. grind (arith, nat_tests, h)) (λ a b h k. grind (arith, nat_tests, h, k)) leases ordered

  pub at_granted : (new : Lease) (t g : ℕ) → lease_at (with_lease leases new) t g ≡ cond (is_on new t g) (Some new) (lease_at leases t g)
  at_granted new t g = by (is_on new t g) refl
    where
      left : filter (λ l. not (is_on l new.session new.file)) leases ≡ filter (λ l. is_before l new.session new.file) leases ++ filter (λ l. is_behind l new.session new.file) leases
      left = (split ComesBefore _ _ _ (lease_probe new.session new.file) leases ordered).left

      by : (b : Bool) → is_on new t g ≡ b → lease_at (with_lease leases new) t g ≡ cond b (Some new) (lease_at leases t g)
      by true e =
          find_put_new (λ l. is_before l new.session new.file) (λ l. is_on l new.session new.file) (λ l. is_behind l new.session new.file) (λ l. is_on l t g) new leases left e (λ y h. grind (arith, nat_tests, e, h))
      by false e =
          find_put_other (λ l. is_before l new.session new.file) (λ l. is_on l new.session new.file) (λ l. is_behind l new.session new.file) (λ l. is_on l t g) new leases left e (λ y h. grind (arith, nat_tests, e, h))

  -- only one lease of a session stands on a file
  pub one_at : (s f : ℕ) (l : Lease) → lease_at leases s f ≡ Some l → AllByRecursion (λ m. is_on m s f ≡ true → m ≡ l) leases
  one_at s f l e = unique ComesBefore (λ m. is_on m s f) (λ a b h k i. grind (arith, nat_tests, h, k, i)) leases ordered l e

pub at_dropped : (leases : List Lease) (s f t g : ℕ) → lease_at (without_lease leases s f) t g ≡ cond (is_same s f t g) None (lease_at leases t g)
at_dropped leases s f t g = by (is_same s f t g) refl
  where
    by : (b : Bool) → is_same s f t g ≡ b → lease_at (without_lease leases s f) t g ≡ cond b None (lease_at leases t g)
    by true e = find_none_kept (λ l. is_on l t g) (λ l. not (is_on l s f)) (λ y h. grind (arith, nat_tests, e, h)) leases
    by false e = find_kept (λ l. is_on l t g) (λ l. not (is_on l s f)) (λ y h. grind (arith, nat_tests, e, h)) leases

-- each lease is found where it stands
pub all_found : (leases : List Lease) → AreOrdered leases → AllByRecursion (λ l. lease_at leases l.session l.file ≡ Some l) leases
all_found [] ordered = tt
all_found (l ∷ ls) ordered = (rw (itself l) refl, later ls (pairs_head ComesBefore l ls ordered) (all_found ls (pairs_tail ComesBefore l ls ordered)))
  where
    itself : (m : Lease) → is_on m m.session m.file ≡ true
    itself m = grind (arith, nat_tests)

    later : (ms : List Lease) → All (ComesBefore l) ms → AllByRecursion (λ m. lease_at ls m.session m.file ≡ Some m) ms → AllByRecursion (λ m. lease_at (l ∷ ls) m.session m.file ≡ Some m) ms
    later [] a h = tt
    later (m ∷ ms) a h =
        let before : is_before l m.session m.file ≡ true = All-head (ComesBefore l) m ms a in
        let other : is_on l m.session m.file ≡ false = grind (arith, nat_tests, before) in
        (rw other h.0, later ms (All-tail (ComesBefore l) m ms a) h.1)

-- what is found is what was looked for
pub found_on : (leases : List Lease) (s f : ℕ) (l : Lease) → lease_at leases s f ≡ Some l → is_on l s f ≡ true
found_on [] s f l e = absurd cc
found_on (m ∷ ms) s f l e = by (is_on m s f) refl (found_on ms s f l) e
  where
    by : (b : Bool) → is_on m s f ≡ b → (lease_at ms s f ≡ Some l → is_on l s f ≡ true) → cond b (Some m) (lease_at ms s f) ≡ Some l → is_on l s f ≡ true
    by true h later e = subst (λ (n : Lease). is_on n s f ≡ true) (some_is m l e) h
    by false h later e = later e

-- The lease that guards a claim, as leases are granted, recalled and given up.
use Rattle.std.proofs.Common.{◌≡◌, ℕ, ◌≤◌, List, [], ◌∷◌, Option, Some, None, Bool, true, false, true≢false, refl, ap, subst, ◌∙◌, arith}
use Rattle.std.specs.Prelude.{not, cond, ◌||◌, ◌==◌}
use Rattle.std.proofs.lemmas.Bool.Decides.{nat_tests}
use Rattle.std.proofs.lemmas.List.Kept.{AllPairs-filter}
use Rattle.lease_rules.specs.declared.lease.Lease.{Lease}
use Rattle.lease_table.specs.Leases.{is_on, remembers, blocks, is_blocked, lease_at, lease_of, grant, mark, marked, without_recalled}
use Rattle.lease_table.specs.Order.{ComesBefore, AreOrdered}
use Rattle.lease_table.proofs.lemmas.Lists.{if_passes, find_filtered, some_is}
use Rattle.lease_table.proofs.lemmas.Keeping.{with_ordered, at_granted, one_at, found_on}

pub grant_ordered : (leases : List Lease) → AreOrdered leases → (s f ends : ℕ) → AreOrdered (grant leases s f ends)
grant_ordered leases ordered s f ends = with_ordered leases ordered (lease_of s f ends)

pub marked_ordered : (leases : List Lease) → AreOrdered leases → (s f x : ℕ) → AreOrdered (marked leases s f x)
marked_ordered leases ordered s f x = by (lease_at leases s f)
  where
    by : (o : Option Lease) → AreOrdered (mark leases x o)
    by None = ordered
    by (Some l) = with_ordered leases ordered (record l { recall = Some x })

pub recalled_ordered : (leases : List Lease) → AreOrdered leases → (s x : ℕ) → AreOrdered (without_recalled leases s x)
recalled_ordered leases ordered s x = AllPairs-filter ComesBefore (λ l. not (remembers l s x)) leases ordered

pub at_grant : (leases : List Lease) → AreOrdered leases → (s f ends : ℕ) → lease_at (grant leases s f ends) s f ≡ Some (lease_of s f ends)
at_grant leases ordered s f ends = at_granted leases ordered (lease_of s f ends) s f ∙ ap (λ b. cond b (Some (lease_of s f ends)) (lease_at leases s f)) itself
  where
    itself : is_on (lease_of s f ends) s f ≡ true
    itself = grind (arith, nat_tests)

pub at_mark : (leases : List Lease) → AreOrdered leases → (s f x : ℕ) (l : Lease) → lease_at leases s f ≡ Some l → lease_at (marked leases s f x) s f ≡ Some (record l { recall = Some x })
at_mark leases ordered s f x l e =
    ap (λ o. lease_at (mark leases x o) s f) e ∙ at_granted leases ordered (record l { recall = Some x }) s f ∙ ap (λ b. cond b (Some (record l { recall = Some x })) (lease_at leases s f)) (found_on leases s f l e)

pub at_recalled : (leases : List Lease) → AreOrdered leases → (s f x : ℕ) → lease_at (without_recalled leases s x) s f ≡ if_passes (λ l. not (remembers l s x)) (lease_at leases s f)
at_recalled leases ordered s f x = find_filtered (λ l. is_on l s f) (λ l. not (remembers l s x)) leases (lease_at leases s f) refl (λ l e. one_at leases ordered s f l e)

pub first : (a b : Bool) → (a || b) ≡ false → a ≡ false
first true b h = absurd (true≢false h)
first false b h = refl

pub second : (a b : Bool) → (a || b) ≡ false → b ≡ false
second true b h = absurd (true≢false h)
second false b h = h

-- where nothing blocks another's change, the session's lease has ended
pub not_blocking : (leases : List Lease) (by s f at : ℕ) → (by == s) ≡ false → is_blocked leases by f at ≡ false → (l : Lease) → lease_at leases s f ≡ Some l → l.ends ≤ at
not_blocking [] by s f at other none l e = absurd cc
not_blocking (m ∷ ms) by s f at other none l e = here (is_on m s f) refl e (not_blocking ms by s f at other (second (blocks m by f at) _ none) l)
  where
    ended : is_on m s f ≡ true → blocks m by f at ≡ false → m.ends ≤ at
    ended on free = grind (arith, nat_tests, on, free, other)

    here : (b : Bool) → is_on m s f ≡ b → cond b (Some m) (lease_at ms s f) ≡ Some l → (lease_at ms s f ≡ Some l → l.ends ≤ at) → l.ends ≤ at
    here true on e later = subst (λ (n : Lease). n.ends ≤ at) (some_is m l e) (ended on (first (blocks m by f at) _ none))
    here false on e later = later e

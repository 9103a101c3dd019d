-- The change that is made next: it stands among those that wait.
use Rattle.std.proofs.Common.{◌≡◌, refl, ap, ℕ, zero, suc, List, [], ◌∷◌, ◌++◌, Option, Some, None, Bool, true, false, arith, subst}
use Rattle.std.specs.Prelude.{cond, find, slice_get, nat_le, if◌then◌else◌}
use Rattle.std.specs.List.{list_any}
use Rattle.std.proofs.lemmas.Bool.Decides.{nat_tests}
use Rattle.lease_rules.specs.declared.lease.Lease.{Lease}
use Rattle.lease_rules.specs.declared.change.PendingChange.{PendingChange}
use Rattle.lease_rules.specs.Changes.{meets}
use Rattle.callback_core.specs.Waits.{is_free, heads_after, heads, ready}
use Rattle.server_core.specs.Leasing.{Leasing, ready_at}

module _ {X : Type 0} where
  -- what is found stands there
  found_at : (p : X → Bool) (xs : List X) (x : X) → find p xs ≡ Some x → (i : ℕ) × (slice_get xs i ≡ Some x)
  found_at p [] x e = absurd cc
  found_at p (y ∷ ys) x e = by (p y) e (found_at p ys x)
    where
      by : (b : Bool) → cond b (Some y) (find p ys) ≡ Some x → (find p ys ≡ Some x → (i : ℕ) × (slice_get ys i ≡ Some x)) → (i : ℕ) × (slice_get (y ∷ ys) i ≡ Some x)
      by true e later = (0, e)
      by false e later = let l = later e in (suc l.0, l.1)

module _ {P : Type 0} where
  -- a head is one of those that wait
  head_by : (ds later : List (PendingChange P)) (d c : PendingChange P) (b : Bool) (i : ℕ) → ((i : ℕ) → slice_get later i ≡ Some c → (j : ℕ) × (slice_get ds j ≡ Some c))
      → slice_get (cond b later (d ∷ later)) i ≡ Some c → (j : ℕ) × (slice_get (d ∷ ds) j ≡ Some c)
  head_by ds later d c true i there e = let h = there i e in (suc h.0, h.1)
  head_by ds later d c false zero there e = (0, e)
  head_by ds later d c false (suc i) there e = let h = there i e in (suc h.0, h.1)

  head_there : (earlier cs : List (PendingChange P)) (i : ℕ) (c : PendingChange P) → slice_get (heads_after earlier cs) i ≡ Some c → (j : ℕ) × (slice_get cs j ≡ Some c)
  head_there earlier [] i c e = absurd cc
  head_there earlier (d ∷ ds) i c e = head_by ds (heads_after (earlier ++ d ∷ []) ds) d c (list_any (λ e. meets e d) earlier) i (λ k q. head_there (earlier ++ d ∷ []) ds k c q) e

  pub ready_there : (leases : List Lease) (now : ℕ) (waits : List (PendingChange P)) (c : PendingChange P) → ready leases now waits ≡ Some c → (i : ℕ) × (slice_get waits i ≡ Some c)
  ready_there leases now waits c e = let f = found_at (is_free leases now) (heads waits) c e in head_there [] waits f.0 c f.1

  -- where there is no moment before which nothing is made
  pub ready_is : (g : Leasing) (moment : ℕ) (waits : List (PendingChange P)) → g.quiet ≡ 0 → ready_at g moment waits ≡ ready g.leases moment waits
  ready_is g moment waits none = let past : nat_le g.quiet moment ≡ true = grind (arith, nat_tests, none) in ap (λ (b : Bool). if b then ready g.leases moment waits else None) past

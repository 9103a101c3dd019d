-- Leases in their order.
use Rattle.std.proofs.Common.{◌≡◌, ℕ, ◌⊎◌, inl, inr, Bool, true, false, refl, arith}
use Rattle.std.specs.Prelude.{◌&&◌, ◌||◌, ◌==◌, nat_lt}
use Rattle.std.proofs.lemmas.Bool.{cases_lt}
use Rattle.std.proofs.lemmas.Bool.Decides.{nat_tests}
use Rattle.lease_table.specs.Leases.{is_on, is_before, is_behind}
use Rattle.lease_table.specs.Order.{ComesBefore}
use Rattle.lease_table.proofs.Ordered.{IsProbe}

-- of three tests one alone is passed
abbrev Trichotomy : (below same above : Bool) → Type 0
Trichotomy below same above =
    ((below ≡ true) × (same ≡ false) × (above ≡ false)) ⊎ (((below ≡ false) × (same ≡ true) × (above ≡ false)) ⊎ ((below ≡ false) × (same ≡ false) × (above ≡ true)))

of_number : (x y : ℕ) → Trichotomy (nat_lt x y) (x == y) (nat_lt y x)
of_number x y = elim (cases_lt x y) [
  | inl h ↦ inl (grind (arith, nat_tests, h), grind (arith, nat_tests, h), grind (arith, nat_tests, h))
  | inr h ↦ elim (cases_lt y x) [
    | inl k ↦ inr (inr (grind (arith, nat_tests, h, k), grind (arith, nat_tests, h, k), grind (arith, nat_tests, h, k)))
    | inr k ↦ inr (inl (grind (arith, nat_tests, h, k), grind (arith, nat_tests, h, k), grind (arith, nat_tests, h, k)))
  ]
]

-- by one number, and where it is the same by more
lexical : (b s a b' s' a' : Bool) → Trichotomy b s a → Trichotomy b' s' a' → Trichotomy (b || (s && b')) (s && s') (a || (s && a'))
lexical b s a b' s' a' (inl h) k = inl (rw (h.0, h.1, h.2) (refl, refl, refl))
lexical b s a b' s' a' (inr (inl h)) k = rw (h.0, h.1, h.2) k
lexical b s a b' s' a' (inr (inr h)) k = inr (inr (rw (h.0, h.1, h.2) (refl, refl, refl)))

pub lease_probe : (session file : ℕ) → IsProbe ComesBefore (λ l. is_before l session file) (λ l. is_on l session file) (λ l. is_behind l session file)
lease_probe session file = record {
  cases = λ l. lexical (nat_lt l.file file) (l.file == file) (nat_lt file l.file) (nat_lt l.session session) (l.session == session) (nat_lt session l.session) (of_number l.file file) (of_number l.session session);
  up = λ a b comes not_before. grind (arith, nat_tests, comes, not_before);
}

-- What is done beside the machine: leases of other sessions and files come and go, and leases that have ended are forgotten.
use Rattle.std.proofs.Common.{◌≡◌, ◌⊎◌, inl, inr, ℕ, ◌+◌, ◌<◌, ◌≤◌, List, [], ◌∷◌, Option, Some, None, Bool, true, false, refl, sym, subst, ◌∙◌, arith}
use Rattle.std.specs.Prelude.{nat_lt, cond}
use Rattle.std.proofs.lemmas.Bool.Decides.{nat_tests}
use Rattle.std.proofs.lemmas.List.Kept.{AllPairs-filter}
use Rattle.lease_rules.specs.declared.lease.Lease.{Lease}
use Rattle.lease_table.specs.Leases.{is_on, lease_at, without_ended}
use Rattle.lease_table.specs.Order.{ComesBefore, AreOrdered}
use Rattle.lease_table.specs.Machine.{Machine}
use Rattle.lease_table.specs.Claims.{recalls_of, replies_of, AllBelow, IsGuarded, IsSafe, IsKept}
use Rattle.lease_table.proofs.lemmas.Lists.{if_passes, find_filtered}
use Rattle.lease_table.proofs.lemmas.Keeping.{one_at}
use Rattle.lease_table.proofs.Messages.{all_answers}
use Rattle.lease_table.proofs.Claiming.{Claims, note_map, promise_map}

wider : (n k : ℕ) (xs : List ℕ) → n ≤ k → AllBelow n xs → AllBelow k xs
wider n k [] le h = tt
wider n k (x ∷ xs) le h = let lt = h.0 in (omega (arith, lt, le), wider n k xs le h.1)

-- with other leases, which guard as before or where the claim is spent, and another number for the next call
beside : (m : Machine) (leases : List Lease) (next : ℕ) → AreOrdered leases → m.next ≤ next → ((b : List ℕ) → Claims m (record m { leases = leases; next = next }) b b) → IsKept m → IsKept (record m { leases = leases; next = next })
beside m leases next ordered le claims k =
    let n : Machine = record m { leases = leases; next = next } in
    record {
      ordered = ordered;
      note = note_map m n m.note _ _ refl refl (claims (recalls_of m.downs)) k.note;
      answers = all_answers _ _ (λ v t ds. promise_map m n v t (recalls_of ds) (recalls_of ds) refl refl refl (claims (recalls_of ds))) m.downs k.answers;
      sent = k.sent;
      numbered = record { apart = k.numbered.apart; below = wider m.next next (recalls_of m.downs) le k.numbered.below; replies = wider m.next next (replies_of m.ups) le k.numbered.replies };
      single = k.single;
      opens = k.opens;
    }

pub kept_elsewhere : (m : Machine) (leases : List Lease) (next : ℕ) → AreOrdered leases → lease_at leases m.session m.file ≡ lease_at m.leases m.session m.file → m.next ≤ next → IsKept m → IsKept (record m { leases = leases; next = next })
kept_elsewhere m leases next ordered same le k = beside m leases next ordered le (λ b v s c. (c.0, c.1, safe b v (c.0 + m.clocks.term) c.2)) k
  where
    safe : (b : List ℕ) (v limit : ℕ) → IsSafe m v limit b → IsSafe (record m { leases = leases; next = next }) v limit b
    safe b v limit (inl spent) = inl spent
    safe b v limit (inr (is, inl quiet)) = inr (is, inl quiet)
    safe b v limit (inr (is, inr g)) = inr (is, inr (subst (λ (o : Option Lease). IsGuarded o limit (replies_of m.ups) b m.cut) (sym same) g))

at_ended : (leases : List Lease) → AreOrdered leases → (s f now : ℕ) → lease_at (without_ended leases now) s f ≡ if_passes (λ l. nat_lt now l.ends) (lease_at leases s f)
at_ended leases ordered s f now = find_filtered (λ l. is_on l s f) (λ l. nat_lt now l.ends) leases (lease_at leases s f) refl (λ l e. one_at leases ordered s f l e)

pub kept_forgotten : (m : Machine) (now : ℕ) → now ≤ m.clocks.server → IsKept m → IsKept (record m { leases = without_ended m.leases now })
kept_forgotten m now past k = beside m (without_ended m.leases now) m.next (AllPairs-filter ComesBefore (λ l. nat_lt now l.ends) m.leases k.ordered) (omega arith) (λ b v s c. (c.0, c.1, safe b v (c.0 + m.clocks.term) c.2)) k
  where
    kept_or_spent : (b : List ℕ) (limit : ℕ) (o : Option Lease) → IsGuarded o limit (replies_of m.ups) b m.cut → (limit ≤ m.clocks.server) ⊎ IsGuarded (if_passes (λ l. nat_lt now l.ends) o) limit (replies_of m.ups) b m.cut
    kept_or_spent b limit None g = absurd g
    kept_or_spent b limit (Some l) g = by (nat_lt now l.ends) refl
      where
        by : (t : Bool) → nat_lt now l.ends ≡ t → (limit ≤ m.clocks.server) ⊎ IsGuarded (cond t (Some l) None) limit (replies_of m.ups) b m.cut
        by true e = inr g
        by false e = let ended : l.ends ≤ now = grind (arith, nat_tests, e) in let le = g.0 in inl (omega (arith, ended, le, past))

    safe : (b : List ℕ) (v limit : ℕ) → IsSafe m v limit b → IsSafe (record m { leases = without_ended m.leases now; next = m.next }) v limit b
    safe b v limit (inl spent) = inl spent
    safe b v limit (inr (is, inl quiet)) = inr (is, inl quiet)
    safe b v limit (inr (is, inr g)) = elim (kept_or_spent b limit (lease_at m.leases m.session m.file) g) [
      | inl spent ↦ inl spent
      | inr guarded ↦ inr (is, inr (subst (λ (o : Option Lease). IsGuarded o limit (replies_of m.ups) b m.cut) (sym (at_ended m.leases k.ordered m.session m.file now)) guarded))
    ]

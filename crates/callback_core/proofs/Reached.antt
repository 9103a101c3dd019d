-- What is found at a place of those that wait.
use Rattle.std.proofs.Common.{◌≡◌, ℕ, zero, suc, ◌<◌, List, [], ◌∷◌, ◌++◌, Some, true, false, length, take, drop, sym, ap, ◌∙◌, arith, eq-eqb}
use Rattle.std.specs.Prelude.{find, cond, slice_get, slice_index_or}
use Rattle.lease_rules.specs.declared.lease.Lease.{Lease}
use Rattle.lease_rules.specs.declared.change.PendingChange.{PendingChange}
use Rattle.callback_core.specs.Waits.{is_free, heads_after, ready, change_of}
use Rattle.lease_rules.specs.Changes.{waits_behind}

module _ {X : Type 0} where
  pub reached : (xs : List X) (i : ℕ) (x : X) → i < length xs → x ≡ slice_index_or xs i x → drop i xs ≡ x ∷ drop (suc i) xs
  reached [] zero x h e = absurd (omega arith)
  reached [] (suc i) x h e = absurd (omega arith)
  reached (y ∷ xs) zero x h e = ap (λ z. z ∷ xs) (sym e)
  reached (y ∷ xs) (suc i) x h e = reached xs i x (omega arith) e

  pub got_there : (xs : List X) (i : ℕ) (x : X) → i < length xs → x ≡ slice_index_or xs i x → slice_get xs i ≡ Some x
  got_there [] zero x h e = absurd (omega arith)
  got_there [] (suc i) x h e = absurd (omega arith)
  got_there (y ∷ xs) zero x h e = ap (λ z. Some z) (sym e)
  got_there (y ∷ xs) (suc i) x h e = got_there xs i x (omega arith) e

module _ {P : Type 0} (waits : List (PendingChange P)) (at : ℕ) (x : PendingChange P) (within : at < length waits) (is : x ≡ slice_index_or waits at x) where
  pub found_ready : (leases : List Lease) (now : ℕ) → find (is_free leases now) (heads_after (take at waits) (drop at waits)) ≡ ready leases now waits → waits_behind (take at waits) x ≡ false → is_free leases now x ≡ true → ready leases now waits ≡ slice_get waits at
  found_ready leases now so_far first free =
      sym so_far ∙ ap (λ cs. find (is_free leases now) (heads_after (take at waits) cs)) (reached waits at x within is)
      ∙ ap (λ b. find (is_free leases now) (cond b (heads_after (take at waits ++ x ∷ []) (drop (suc at) waits)) (x ∷ heads_after (take at waits ++ x ∷ []) (drop (suc at) waits)))) first
      ∙ ap (λ b. cond b (Some x) (find (is_free leases now) (heads_after (take at waits ++ x ∷ []) (drop (suc at) waits)))) free
      ∙ sym (got_there waits at x within is)

  pub found_change : (session : ℕ) → change_of (drop at waits) session ≡ change_of waits session → x.session ≡ session → change_of waits session ≡ slice_get waits at
  found_change session so_far own =
      sym so_far ∙ ap (λ cs. change_of cs session) (reached waits at x within is) ∙ ap (λ b. cond b (Some x) (change_of (drop (suc at) waits) session)) (eq-eqb x.session session own)
      ∙ sym (got_there waits at x within is)

-- What stands at a number stands at the place before it.
use Rattle.std.proofs.Common.{◌≡◌, ℕ, zero, suc, ◌+◌, ◌<◌, List, Some, arith, refl, ap, ◌∙◌, length, slice_index_or, slice_set}
use Rattle.std.specs.Prelude.{slice_get, map, option_map}
use Rattle.std.proofs.lemmas.Option.{slice_get-map, slice_get_read}
use Rattle.trace_ends.specs.Session.{Session}
use Rattle.trace_ends.specs.Numbers.{numbered, with_numbered}

pub at_number : {A : Type 0} (xs : List A) (place number : ℕ) → number ≡ place + 1 → numbered xs number ≡ slice_get xs place
at_number xs place zero e = absurd (omega (arith, e))
at_number xs place (suc k) e = let d : k ≡ place = omega (arith, e) in ap (slice_get xs) d

pub owner_at : (xs : List Session) (place number : ℕ) (x : Session) → number ≡ place + 1 → place < length xs → x ≡ slice_index_or xs place x → numbered (map (λ (y : Session). y.owner) xs) number ≡ Some x.owner
owner_at xs place number x e lt is =
    at_number (map (λ (y : Session). y.owner) xs) place number e
    ∙ slice_get-map (λ (y : Session). y.owner) xs place
    ∙ ap (option_map (λ (y : Session). y.owner)) (slice_get_read xs (length xs) place x refl lt is)

pub set_number : {A : Type 0} (xs : List A) (place number : ℕ) (x : A) → number ≡ place + 1 → slice_set xs place x ≡ with_numbered xs number x
set_number xs place zero x e = absurd (omega (arith, e))
set_number xs place (suc k) x e = let d : place ≡ k = omega (arith, e) in ap (λ (n : ℕ). slice_set xs n x) d

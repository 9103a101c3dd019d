-- Items one after the other, as a loop reads them.
use Rattle.std.proofs.Common.{◌≡◌, ℕ, suc, ◌-◌, ◌+◌, ◌≤◌, ◌<◌, List, [], ◌∷◌, ◌++◌, Option, Some, None, Result, Ok, Err, refl, sym, ap, ◌∙◌, append_assoc, arith}
use Rattle.std.proofs.lemmas.List.{append-nil}
use Rattle.xdr_codec.specs.declared.fault.Fault.{Fault}
use Rattle.xdr_codec.specs.declared.fault.ReadError.{ReadError}
use Rattle.xdr_codec.specs.declared.fault.ReadError.TheVariants as errors
use Rattle.xdr_codec.specs.Format.{Input, Format, ◌>>=◌, Fails}
use Rattle.xdr_codec.specs.Repeat.{repeated_read}
use Rattle.xdr_codec.specs.Choice.{optional}
use Rattle.xdr_codec.specs.Chain.{chain_read, chain_after}

-- what was read before, and what is still read
abbrev pub with_front : {A : Type 0} → List A → Result (List A × Input) Fault → Result (List A × Input) Fault
with_front front read = read >>= λ x. Ok (front ++ x.0, x.1)

regroup : {A : Type 0} (front : List A) (a : A) (read : Result (List A × Input) Fault) → with_front front (read >>= λ x. Ok (a ∷ x.0, x.1)) ≡ with_front (front ++ a ∷ []) read
regroup {A} front a (Ok x) = ap (λ (xs : List A). Ok (xs, x.1)) (simp append_assoc)
regroup front a (Err f) = refl

pub goes_on : {A : Type 0} (f : Format A) (front : List A) (count i : ℕ) (here : Input) (a : A) (after : Input) (total : Result (List A × Input) Fault) → i < count → f.read here ≡ Ok (a, after)
    → with_front front (repeated_read f (count - i) here) ≡ total → with_front (front ++ a ∷ []) (repeated_read f (count - (i + 1)) after) ≡ total
goes_on f front count i here a after total lt h so_far =
    let k : count - i ≡ suc (count - (i + 1)) = omega arith in
    let one : with_front front (repeated_read f (count - i) here) ≡ with_front (front ++ a ∷ []) (repeated_read f (count - (i + 1)) after) = rw (k, h) (regroup front a (repeated_read f (count - (i + 1)) after)) in
    sym one ∙ so_far

pub ends : {A : Type 0} (f : Format A) (e : ReadError) (front : List A) (count i : ℕ) (here : Input) (total : Result (List A × Input) Fault) → i < count → Fails e (f.read here)
    → with_front front (repeated_read f (count - i) here) ≡ total → Fails e total
ends f errors.Memory front count i here total lt h so_far = tt
ends f (errors.Fault d) front count i here total lt h so_far =
    let k : count - i ≡ suc (count - (i + 1)) = omega arith in
    let one : with_front front (repeated_read f (count - i) here) ≡ Err d = rw (k, h) refl in
    sym so_far ∙ one

pub is_done : {A : Type 0} (f : Format A) (front : List A) (count i : ℕ) (here : Input) (total : Result (List A × Input) Fault) → count ≤ i → with_front front (repeated_read f (count - i) here) ≡ total → total ≡ Ok (front, here)
is_done {A} f front count i here total le so_far =
    let k : count - i ≡ 0 = omega arith in
    let one : with_front front (repeated_read f (count - i) here) ≡ Ok (front, here) = rw k (ap (λ (xs : List A). Ok (xs, here)) (append-nil front)) in
    sym so_far ∙ one

-- ---- a chain

chain_one : {A : Type 0} (f : Format A) (most i : ℕ) (here : Input) → i < most → chain_read f (most - i) here ≡ ((optional f).read here >>= λ link. chain_after (chain_read f (most - (i + 1))) link.0 link.1)
chain_one f most i here lt = let k : most - i ≡ suc (most - (i + 1)) = omega arith in ap (λ (n : ℕ). chain_read f n here) k

pub chain_goes_on : {A : Type 0} (f : Format A) (front : List A) (most i : ℕ) (here : Input) (x : A) (after : Input) (total : Result (List A × Input) Fault) → i < most → (optional f).read here ≡ Ok (Some x, after)
    → with_front front (chain_read f (most - i) here) ≡ total → with_front (front ++ x ∷ []) (chain_read f (most - (i + 1)) after) ≡ total
chain_goes_on {A} f front most i here x after total lt h so_far =
    let one : chain_read f (most - i) here ≡ (chain_read f (most - (i + 1)) after >>= λ xs. Ok (x ∷ xs.0, xs.1)) = chain_one f most i here lt ∙ ap (λ (r : Result (Option A × Input) Fault). r >>= λ link. chain_after (chain_read f (most - (i + 1))) link.0 link.1) h in
    sym (ap (with_front front) one ∙ regroup front x (chain_read f (most - (i + 1)) after)) ∙ so_far

pub chain_stops : {A : Type 0} (f : Format A) (front : List A) (most i : ℕ) (here after : Input) (total : Result (List A × Input) Fault) → i < most → (optional f).read here ≡ Ok (None, after)
    → with_front front (chain_read f (most - i) here) ≡ total → total ≡ Ok (front, after)
chain_stops {A} f front most i here after total lt h so_far =
    let one : chain_read f (most - i) here ≡ Ok ([], after) = chain_one f most i here lt ∙ ap (λ (r : Result (Option A × Input) Fault). r >>= λ link. chain_after (chain_read f (most - (i + 1))) link.0 link.1) h in
    sym so_far ∙ ap (with_front front) one ∙ ap (λ (xs : List A). Ok (xs, after)) (append-nil front)

pub chain_ends : {A : Type 0} (f : Format A) (e : ReadError) (front : List A) (most i : ℕ) (here : Input) (total : Result (List A × Input) Fault) → i < most → Fails e ((optional f).read here)
    → with_front front (chain_read f (most - i) here) ≡ total → Fails e total
chain_ends f errors.Memory front most i here total lt h so_far = tt
chain_ends {A} f (errors.Fault d) front most i here total lt h so_far =
    let one : chain_read f (most - i) here ≡ Err d = chain_one f most i here lt ∙ ap (λ (r : Result (Option A × Input) Fault). r >>= λ link. chain_after (chain_read f (most - (i + 1))) link.0 link.1) h in
    sym so_far ∙ ap (with_front front) one

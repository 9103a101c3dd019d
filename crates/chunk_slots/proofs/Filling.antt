-- A slot is filled, and the others stay.
use Rattle.std.proofs.Common.{◌≡◌, refl, sym, ap, ◌∙◌, ℕ, zero, suc, ◌+◌, ◌<◌, ◌≤◌, List, [], ◌∷◌, ◌++◌, length, take, drop, arith}
use Rattle.std.proofs.lemmas.List.{take_all, take-append-le, drop-append-le, length-append, length-drop}
use Rattle.std.specs.Prelude.{slice_set, Option, Some, None}
use Rattle.chunk_slots.specs.Slots.{slots_of, total}

pub slots_length : (front lens : List ℕ) (apart : List (Option (List ℕ))) → length (slots_of front lens apart) ≡ length apart
slots_length front [] apart = refl
slots_length front (n ∷ lens) [] = refl
slots_length front (n ∷ lens) (None ∷ apart) = ap suc (slots_length (drop n front) lens apart)
slots_length front (n ∷ lens) (Some b ∷ apart) = ap suc (slots_length (drop n front) lens apart)

-- bytes apart
pub filled_apart : (front lens : List ℕ) (apart : List (Option (List ℕ))) (place : ℕ) (b : List ℕ) → slots_of front lens (slice_set apart place (Some b)) ≡ slice_set (slots_of front lens apart) place (Some b)
filled_apart front [] apart place b = refl
filled_apart front (n ∷ lens) [] place b = refl
filled_apart front (n ∷ lens) (None ∷ apart) zero b = refl
filled_apart front (n ∷ lens) (None ∷ apart) (suc i) b = ap (λ slots. Some (take n front) ∷ slots) (filled_apart (drop n front) lens apart i b)
filled_apart front (n ∷ lens) (Some x ∷ apart) zero b = refl
filled_apart front (n ∷ lens) (Some x ∷ apart) (suc i) b = ap (λ slots. Some x ∷ slots) (filled_apart (drop n front) lens apart i b)

pub less : (front lens : List ℕ) (n : ℕ) → n + total lens ≡ length front → total lens ≡ length (drop n front)
less front lens n sum = let d = length-drop n front in omega (arith, sum, d)

-- bytes behind those in front
pub filled_next : (front lens : List ℕ) (apart : List (Option (List ℕ))) (b : List ℕ) → total lens ≡ length front → length lens < length apart
    → slots_of (front ++ b) (lens ++ length b ∷ []) (slice_set apart (length lens) None) ≡ slice_set (slots_of front lens apart) (length lens) (Some b)
filled_next [] [] [] b sum lt = let no : ⊥ = omega (arith, lt) in absurd no
filled_next [] [] (x ∷ apart) b sum lt = ap (λ piece. Some piece ∷ apart) (take_all (length b) b (omega arith))
filled_next (f ∷ front) [] apart b sum lt = let no : ⊥ = omega (arith, sum) in absurd no
filled_next front (n ∷ lens) [] b sum lt = let no : ⊥ = omega (arith, lt) in absurd no
filled_next front (n ∷ lens) (None ∷ apart) b sum lt =
    let le : n ≤ length front = omega (arith, sum) in
    ap (λ piece. Some piece ∷ slots_of (drop n (front ++ b)) (lens ++ length b ∷ []) (slice_set apart (length lens) None)) (take-append-le n front b le)
    ∙ (ap (λ rest. Some (take n front) ∷ slots_of rest (lens ++ length b ∷ []) (slice_set apart (length lens) None)) (drop-append-le n front b le)
    ∙ ap (λ slots. Some (take n front) ∷ slots) (filled_next (drop n front) lens apart b (less front lens n sum) (omega (arith, lt))))
filled_next front (n ∷ lens) (Some x ∷ apart) b sum lt =
    let le : n ≤ length front = omega (arith, sum) in
    ap (λ rest. Some x ∷ slots_of rest (lens ++ length b ∷ []) (slice_set apart (length lens) None)) (drop-append-le n front b le)
    ∙ ap (λ slots. Some x ∷ slots) (filled_next (drop n front) lens apart b (less front lens n sum) (omega (arith, lt)))

pub total_more : (lens : List ℕ) (n : ℕ) → total (lens ++ n ∷ []) ≡ total lens + n
total_more [] n = omega arith
total_more (m ∷ lens) n = let h = total_more lens n in omega (arith, h)

-- as the code has it
pub filled_behind : (front lens : List ℕ) (apart : List (Option (List ℕ))) (place : ℕ) (b new_front new_lens : List ℕ) → place ≡ length lens → total lens ≡ length front → place < length apart → new_front ≡ front ++ b → new_lens ≡ lens ++ length b ∷ []
    → slots_of new_front new_lens (slice_set apart place None) ≡ slice_set (slots_of front lens apart) place (Some b)
filled_behind front lens apart place b new_front new_lens at sum lt f l =
    ap (λ bytes. slots_of bytes new_lens (slice_set apart place None)) f
    ∙ (ap (λ ns. slots_of (front ++ b) ns (slice_set apart place None)) l
    ∙ (ap (λ i. slots_of (front ++ b) (lens ++ length b ∷ []) (slice_set apart i None)) at
    ∙ (filled_next front lens apart b sum (omega (arith, lt, at))
    ∙ ap (λ i. slice_set (slots_of front lens apart) i (Some b)) (sym at))))

pub total_behind : (front lens b new_front new_lens : List ℕ) → total lens ≡ length front → new_front ≡ front ++ b → new_lens ≡ lens ++ length b ∷ [] → total new_lens ≡ length new_front
total_behind front lens b new_front new_lens sum f l =
    let m = total_more lens (length b) in
    let a = length-append front b in
    let e = ap total l in
    let g = ap length f in
    omega (arith, sum, m, a, e, g)

pub filled_else : (front lens : List ℕ) (apart : List (Option (List ℕ))) (place : ℕ) (b new_front new_lens : List ℕ) → new_front ≡ front → new_lens ≡ lens
    → slots_of new_front new_lens (slice_set apart place (Some b)) ≡ slice_set (slots_of front lens apart) place (Some b)
filled_else front lens apart place b new_front new_lens f l =
    ap (λ bytes. slots_of bytes new_lens (slice_set apart place (Some b))) f
    ∙ (ap (λ ns. slots_of front ns (slice_set apart place (Some b))) l
    ∙ filled_apart front lens apart place b)

pub place_there : (front lens : List ℕ) (apart slots : List (Option (List ℕ))) (place : ℕ) → slots_of front lens apart ≡ slots → place < length slots → place < length apart
place_there front lens apart slots place is lt =
    let e = slots_length front lens apart in
    let h = ap length is in
    omega (arith, e, h, lt)

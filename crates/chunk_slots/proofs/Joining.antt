-- The bytes of all slots, as they lie.
use Rattle.std.proofs.Common.{◌≡◌, refl, sym, ap, ◌∙◌, ℕ, ◌≤◌, List, [], ◌∷◌, ◌++◌, length, take, drop, true, false, arith}
use Rattle.std.proofs.Math.ListN.{drop_of_length-le}
use Rattle.std.proofs.lemmas.List.{append-nil, take-append-drop}
use Rattle.std.specs.Prelude.{Option, Some, None}
use Rattle.chunk_slots.proofs.Filling.{less}
use Rattle.chunk_slots.specs.Slots.{has_piece, slots_bytes, slots_of, total}

apart_some : true ≡ false → ⊥
apart_some e = cc

-- where all are in front, the front
pub all_in_front : (front lens : List ℕ) (apart : List (Option (List ℕ))) → total lens ≡ length front → length lens ≡ length apart → has_piece apart ≡ false → slots_bytes (slots_of front lens apart) ≡ front
all_in_front [] [] [] sum all none = refl
all_in_front (f ∷ front) [] apart sum all none = let no : ⊥ = omega (arith, sum) in absurd no
all_in_front [] [] (x ∷ apart) sum all none = let no : ⊥ = omega (arith, all) in absurd no
all_in_front front (n ∷ lens) [] sum all none = let no : ⊥ = omega (arith, all) in absurd no
all_in_front front (n ∷ lens) (None ∷ apart) sum all none = ap (λ bytes. take n front ++ bytes) (all_in_front (drop n front) lens apart (less front lens n sum) (omega (arith, all)) none) ∙ take-append-drop n front
all_in_front front (n ∷ lens) (Some b ∷ apart) sum all none = absurd (apart_some none)

none_left : (front lens : List ℕ) → slots_bytes (slots_of front lens []) ≡ []
none_left front [] = refl
none_left front (n ∷ lens) = refl

-- behind the last slot
pub all_joined : (whole front lens : List ℕ) (apart : List (Option (List ℕ))) (i : ℕ) (all : List ℕ) → length apart ≤ i → whole ++ slots_bytes (slots_of front lens (drop i apart)) ≡ all → whole ≡ all
all_joined whole front lens apart i all past is =
    sym (append-nil whole)
    ∙ (sym (ap (λ bytes. whole ++ bytes) (ap (λ slots. slots_bytes (slots_of front lens slots)) (drop_of_length-le apart past) ∙ none_left front lens))
    ∙ is)

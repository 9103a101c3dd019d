-- A ring of bytes, read from the oldest on.
use Rattle.std.proofs.Common.{◌≡◌, ℕ, ◌+◌, ◌<◌, List, [], ◌∷◌, ◌++◌, length, take, drop, get_or, set, sym, ap, ◌∙◌, append_assoc, arith}
use Rattle.std.proofs.lemmas.List.{drop_more, take_more_set, drop-set-lt, drop_all, take_all, length-append, length-take, length-drop, length-set, append-nil}

abbrev pub from_oldest : List ℕ → ℕ → List ℕ
from_oldest ring oldest = drop oldest ring ++ take oldest ring

-- all but the oldest
abbrev pub others : List ℕ → ℕ → List ℕ
others ring oldest = drop (oldest + 1) ring ++ take oldest ring

pub ring_split : (ring : List ℕ) (oldest : ℕ) → oldest < length ring → from_oldest ring oldest ≡ get_or ring oldest 0 ∷ others ring oldest
ring_split ring oldest h = ap (λ (xs : List ℕ). xs ++ take oldest ring) (drop_more ring oldest 0 h)

pub length-others : (ring : List ℕ) (oldest : ℕ) → oldest < length ring → length (others ring oldest) + 1 ≡ length ring
length-others ring oldest h = simp (length-append, length-drop, length-take) (omega arith)

pub ring_next : (ring : List ℕ) (oldest b : ℕ) → oldest < length ring → from_oldest (set ring oldest b) (oldest + 1) ≡ others ring oldest ++ b ∷ []
ring_next ring oldest b h =
    let e1 : drop (oldest + 1) (set ring oldest b) ≡ drop (oldest + 1) ring = drop-set-lt (oldest + 1) ring oldest b (omega arith) in
    let e2 : take (oldest + 1) (set ring oldest b) ≡ take oldest ring ++ b ∷ [] = take_more_set ring oldest b h in
    ap (λ (xs : List ℕ). xs ++ take (oldest + 1) (set ring oldest b)) e1
    ∙ ap (λ (xs : List ℕ). drop (oldest + 1) ring ++ xs) e2
    ∙ sym (append_assoc (drop (oldest + 1) ring) (take oldest ring) (b ∷ []))

-- at its end the ring begins again
pub ring_wraps : (ring : List ℕ) → from_oldest ring (length ring) ≡ from_oldest ring 0
ring_wraps ring =
    let e1 : drop (length ring) ring ≡ [] = drop_all (length ring) ring (omega arith) in
    let e2 : take (length ring) ring ≡ ring = take_all (length ring) ring (omega arith) in
    ap (λ (xs : List ℕ). xs ++ take (length ring) ring) e1 ∙ e2 ∙ sym (append-nil ring)

pub ring_first : (ring : List ℕ) (oldest b : ℕ) → oldest + 1 ≡ length ring → from_oldest (set ring oldest b) 0 ≡ others ring oldest ++ b ∷ []
ring_first ring oldest b e =
    let n : oldest + 1 ≡ length (set ring oldest b) = e ∙ sym (length-set ring oldest b) in
    sym (ring_wraps (set ring oldest b))
    ∙ ap (λ (n : ℕ). from_oldest (set ring oldest b) n) (sym n)
    ∙ ring_next ring oldest b (omega arith)

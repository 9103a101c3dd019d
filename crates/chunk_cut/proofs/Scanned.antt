-- A piece after the content, byte by byte.
use Rattle.std.proofs.Common.{◌≡◌, ℕ, ◌+◌, ◌<◌, ◌≤◌, ◌⊎◌, inl, inr, List, [], ◌∷◌, ◌++◌, length, take, drop, get_or, sym, ap, subst, ◌∙◌, append_assoc, arith}
use Rattle.std.proofs.lemmas.List.{length-take-le, take_more, take_all}
use Rattle.chunk_cut.specs.Cutting.{IsUnderWay}
use Rattle.chunk_cut.proofs.Windows.{IsPushed, pushed, skipped}

-- the bytes that are skipped
pub begun : (content piece : List ℕ) (s len n : ℕ) (window : List ℕ) → n ≤ length piece → len + n ≤ 2000 ⊎ (n ≡ 0) → IsUnderWay content s len window → IsUnderWay (content ++ take n piece) s (len + n) window
begun content piece s len n window h small u =
    let l : length (take n piece) ≡ n = length-take-le n piece h in
    subst (λ (k : ℕ). IsUnderWay (content ++ take n piece) s (len + k) window) l (skipped content (take n piece) s len window (at l small) u)
  where
    at : length (take n piece) ≡ n → len + n ≤ 2000 ⊎ (n ≡ 0) → len + length (take n piece) ≤ 2000 ⊎ (length (take n piece) ≡ 0)
    at l (inl p) = inl (omega arith)
    at l (inr p) = inr (omega arith)

-- the next byte
pub stepped : (content piece : List ℕ) (s len i : ℕ) (before after : List ℕ) → i < length piece → after ≡ drop 1 before ++ get_or piece i 0 ∷ [] → IsUnderWay (content ++ take i piece) s (len + i) before → IsPushed (content ++ take (i + 1) piece) s (len + i + 1) after
stepped content piece s len i before after h is u =
    let b : ℕ = get_or piece i 0 in
    let e : content ++ take (i + 1) piece ≡ (content ++ take i piece) ++ b ∷ [] = ap (λ (xs : List ℕ). content ++ xs) (take_more piece i 0 h) ∙ sym (append_assoc content (take i piece) (b ∷ [])) in
    subst (λ (xs : List ℕ). IsPushed xs s (len + i + 1) after) (sym e)
    (subst (λ (ws : List ℕ). IsPushed ((content ++ take i piece) ++ b ∷ []) s (len + i + 1) ws) (sym is) (pushed (content ++ take i piece) s (len + i) before b u))

-- the whole piece
pub ended : (content piece : List ℕ) (s len i : ℕ) (window : List ℕ) → length piece ≡ i → IsUnderWay (content ++ take i piece) s (len + i) window → IsUnderWay (content ++ piece) s (len + length piece) window
ended content piece s len i window e u =
    let a : take i piece ≡ piece = take_all i piece (omega arith) in
    subst (λ (k : ℕ). IsUnderWay (content ++ piece) s (len + k) window) (sym e)
    (subst (λ (xs : List ℕ). IsUnderWay (content ++ xs) s (len + i) window) a u)

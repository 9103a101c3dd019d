-- Lines that were written are read again.
use Rattle.std.proofs.Common.{◌≡◌, ℕ, ◌==◌, List, [], ◌∷◌, ◌++◌, Bool, true, false, ◌||◌, cond, refl, ap, ◌∙◌, append_assoc}
use Rattle.std.specs.List.{list_any, AllByRecursion, flat_map, onto_first}
use Rattle.command_text.specs.Parts.{lines_of}

again_by : (b : Bool) (x : ℕ) (line rest : List ℕ) (found : Bool) → (b || found) ≡ false → (found ≡ false → lines_of (line ++ 10 ∷ rest) ≡ line ∷ lines_of rest) → cond b ([] ∷ lines_of (line ++ 10 ∷ rest)) (onto_first x (lines_of (line ++ 10 ∷ rest))) ≡ (x ∷ line) ∷ lines_of rest
again_by true x line rest found none later = cc
again_by false x line rest found none later = rw (later none) refl

line_again : (line rest : List ℕ) → list_any (λ b. b == 10) line ≡ false → lines_of (line ++ 10 ∷ rest) ≡ line ∷ lines_of rest
line_again [] rest none = refl
line_again (x ∷ line) rest none = again_by (x == 10) x line rest (list_any (λ b. b == 10) line) none (line_again line rest)

pub lines_again : (lines : List (List ℕ)) → AllByRecursion (λ line. list_any (λ b. b == 10) line ≡ false) lines → lines_of (flat_map (λ line. line ++ 10 ∷ []) lines) ≡ lines
lines_again [] h = refl
lines_again (line ∷ lines) h =
    ap lines_of (append_assoc line (10 ∷ []) (flat_map (λ line. line ++ 10 ∷ []) lines)) ∙ line_again line _ h.0 ∙ ap (λ ls. line ∷ ls) (lines_again lines h.1)

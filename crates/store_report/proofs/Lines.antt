-- How many lines there are.
use Rattle.std.proofs.Common.{◌≡◌, List, [], ◌∷◌, length, map, string_bytes, String, suc, refl, ap}

pub length_texts : {Z : Type 0} (xs : List (String Z)) → length (map (λ w. string_bytes w) xs) ≡ length xs
length_texts [] = refl
length_texts (x ∷ xs) = ap suc (length_texts xs)

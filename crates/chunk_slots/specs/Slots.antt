-- The slots of a file's chunks, and how their bytes lie.
use Rattle.std.specs.Prelude.{ℕ, ◌+◌, List, [], ◌∷◌, ◌++◌, take, drop, Option, Some, None, Bool, is_some}
use Rattle.std.specs.List.{list_any}

-- the bytes of all chunks that have come
abbrev pub slots_bytes : List (Option (List ℕ)) → List ℕ
slots_bytes [] = []
slots_bytes (None ∷ slots) = slots_bytes slots
slots_bytes (Some bytes ∷ slots) = bytes ++ slots_bytes slots

-- ---- how they lie

-- The first slots, as many as there are lengths, have their bytes in front, one behind another. Bytes that a slot has apart stand for those.
abbrev pub slots_of : (front : List ℕ) → (lens : List ℕ) → (apart : List (Option (List ℕ))) → List (Option (List ℕ))
slots_of front [] apart = apart
slots_of front (n ∷ lens) [] = []
slots_of front (n ∷ lens) (None ∷ apart) = Some (take n front) ∷ slots_of (drop n front) lens apart
slots_of front (n ∷ lens) (Some bytes ∷ apart) = Some bytes ∷ slots_of (drop n front) lens apart

abbrev pub total : List ℕ → ℕ
total [] = 0
total (n ∷ ns) = n + total ns

-- whether a slot has bytes apart
abbrev pub has_piece : List (Option (List ℕ)) → Bool
has_piece apart = list_any (λ slot. is_some slot) apart

-- the length of the first chunk in front, and those of the others
abbrev pub first_len : List ℕ → ℕ
first_len [] = 0
first_len (n ∷ lens) = n

abbrev pub behind : List ℕ → List ℕ
behind [] = []
behind (n ∷ lens) = lens

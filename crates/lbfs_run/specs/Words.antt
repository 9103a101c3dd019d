-- The words that a run is given, which are those behind the program's name.
use Rattle.std.specs.Prelude.{ℕ, List, String, map, string_bytes}

-- their bytes
abbrev pub words_as_bytes : {Z : Type 0} → List (String Z) → List (List ℕ)
words_as_bytes words = map (λ w. string_bytes w) words

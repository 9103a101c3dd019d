-- The first message in its place, and those behind it.
use Rattle.std.specs.Prelude.{List, ◌∷◌, Option, Some, None}

abbrev pub sent_list : {A : Type 0} → Option A → List A → List A
sent_list None rest = rest
sent_list (Some m) rest = m ∷ rest

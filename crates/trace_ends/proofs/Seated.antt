-- One client more of those that have not joined.
use Rattle.std.proofs.Common.{◌≡◌, ℕ, ◌+◌, List, [], ◌∷◌, ◌++◌, replicate, ap, ◌∙◌, append_assoc}
use Rattle.std.proofs.lemmas.List.{replicate_more}
use Rattle.trace_ends.specs.Session.{Seat}

pub seated_more : (before now after : List Seat) (n : ℕ) (x y : Seat) → now ≡ before ++ replicate n x → y ≡ x → after ≡ now ++ y ∷ [] → after ≡ before ++ replicate (n + 1) x
seated_more before now after n x y so new more =
    more
    ∙ ap (λ (xs : List Seat). xs ++ y ∷ []) so
    ∙ ap (λ (z : Seat). (before ++ replicate n x) ++ z ∷ []) new
    ∙ append_assoc before (replicate n x) (x ∷ [])
    ∙ ap (λ (ys : List Seat). before ++ ys) (replicate_more n x)

-- Words behind words.
use Rattle.std.proofs.Common.{◌≡◌, ap, ◌∙◌, ℕ, List, ◌++◌, Result, Ok, Err, OnOk}
use Rattle.std.proofs.lemmas.List.{append_assoc}

pub behind : {A E : Type 0} (r : Result A E) (out mid new words tail : List ℕ) → mid ≡ out ++ words → OnOk r (new ≡ mid ++ tail) → OnOk r (new ≡ out ++ (words ++ tail))
behind (Ok u) out mid new words tail m e = e ∙ ap (λ (l : List ℕ). l ++ tail) m ∙ append_assoc out words tail
behind (Err w) out mid new words tail m e = tt

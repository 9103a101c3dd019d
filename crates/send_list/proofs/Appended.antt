-- A list of messages behind others.
use Rattle.std.proofs.Common.{◌≡◌, List, [], ◌∷◌, ◌++◌, refl, ap, ◌∙◌, append_assoc}
use Rattle.std.specs.Prelude.{Option, Some, None}
use Rattle.std.specs.Option.{option_to_list}
use Rattle.send_list.specs.Sent.{sent_list}

append_none : {T : Type 0} → (xs : List T) → xs ++ [] ≡ xs
append_none [] = refl
append_none (x ∷ xs) = ap (λ z. x ∷ z) (append_none xs)

-- the first message and those behind it, behind some
pub appended : {T : Type 0} (old : List T) (first : Option T) (rest more : List T) → sent_list first rest ≡ more → (old ++ option_to_list first) ++ rest ≡ old ++ more
appended old None rest more is = ap (λ xs. xs ++ rest) (append_none old) ∙ ap (λ xs. old ++ xs) is
appended old (Some x) rest more is = append_assoc old (x ∷ []) rest ∙ ap (λ xs. old ++ xs) is

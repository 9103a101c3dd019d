-- A content, read part by part.
use Rattle.std.proofs.Common.{◌≡◌, ℕ, suc, List, [], ◌∷◌, ◌++◌, length, Option, Some, None, refl, sym, ap, ◌∙◌, append_assoc}
use Rattle.std.specs.Borrow.{Bor}
use Rattle.command_text.specs.Fields.{◌>>=◌}

-- the parts that were read, and those that are still read
abbrev pub ahead : {A : Type 0} → List A → Option (List A) → Option (List A)
ahead front parts = parts >>= λ ps. Some (front ++ ps)

-- how much is left to read
abbrev pub left_size : Option (Bor (List ℕ)) → ℕ
left_size None = 0
left_size (Some rest) = suc (length rest.now)

-- a part, and those behind it
abbrev pub joined : {A : Type 0} → Option A → Option (List A) → Option (List A)
joined part parts = part >>= λ p. parts >>= λ ps. Some (p ∷ ps)

taken_on : {A : Type 0} (front : List A) (a : A) (later : Option (List A)) → ahead (front ++ a ∷ []) later ≡ ahead front (joined (Some a) later)
taken_on front a None = refl
taken_on front a (Some ps) = ap Some (append_assoc front (a ∷ []) ps)

-- one more part was read
pub part_read : {A : Type 0} (front : List A) (a : A) (part : Option A) (later whole : Option (List A)) → part ≡ Some a → ahead front (joined part later) ≡ whole → ahead (front ++ a ∷ []) later ≡ whole
part_read front a part later whole is told = taken_on front a later ∙ ap (λ o. ahead front (joined o later)) (sym is) ∙ told

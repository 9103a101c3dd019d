-- Bytes that are equal are the same.
use Rattle.std.proofs.Common.{◌≡◌, ap, ◌∙◌, sym, ℕ, List, ◌++◌, length, take, drop, true}
use Rattle.std.proofs.lemmas.List.{take-append-drop}
use Rattle.std.specs.Str.{bytes_eq}
use Rattle.std.proofs.lemmas.Slice.Eq.{bytes_eq-Decides}

pub same : (xs ys : List ℕ) → bytes_eq xs ys ≡ true → xs ≡ ys
same xs ys is = (bytes_eq-Decides xs ys).0 is

-- a content whose front is these bytes begins with them
pub front_same : (front content : List ℕ) → bytes_eq (take (length front) content) front ≡ true → front ++ drop (length front) content ≡ content
front_same front content is = ap (λ (xs : List ℕ). xs ++ drop (length front) content) (sym (same (take (length front) content) front is)) ∙ take-append-drop (length front) content

-- A frame's parts, one behind the other.
use Rattle.std.specs.List.{IsSplitAt}
use Rattle.std.proofs.Common.{◌≡◌, ℕ, zero, suc, ◌++◌, List, [], ◌∷◌, take, drop, Result, OnOk, Ok, Err, refl, sym, ◌∙◌, ap, ap₂}
use Rattle.sha1.specs.Sha1.{sha1}
use Rattle.log_store.specs.Frames.{front, frame}

joined : (a b c : List ℕ) → (a ++ b) ++ c ≡ a ++ (b ++ c)
joined [] b c = refl
joined (x ∷ a) b c = ap (λ (ys : List ℕ). x ∷ ys) (joined a b c)

-- from the parts that were split off
parts : (f s p r x y z : List ℕ) → x ≡ f ++ y → y ≡ s ++ z → z ≡ p ++ r → x ≡ (f ++ (s ++ p)) ++ r
parts f s p r x y z a b c = a ∙ ap (λ (t : List ℕ). f ++ t) (b ∙ ap (λ (t : List ℕ). s ++ t) c ∙ sym (joined s p r)) ∙ sym (joined f (s ++ p) r)

pub whole_frame : (number : ℕ) (payload f s r x y z : List ℕ) → x ≡ f ++ y → y ≡ s ++ z → z ≡ payload ++ r → f ≡ front number payload → s ≡ sha1 (f ++ payload) → (rest : List ℕ) × (x ≡ frame number payload ++ rest)
whole_frame number payload f s r x y z a b c is sum =
    (r, parts f s payload r x y z a b c ∙ ap₂ (λ (g t : List ℕ). (g ++ (t ++ payload)) ++ r) is (sum ∙ ap (λ (g : List ℕ). sha1 (g ++ payload)) is))

-- written one behind the other
behind : (out f s p x y z : List ℕ) → x ≡ out ++ f → y ≡ x ++ s → z ≡ y ++ p → z ≡ out ++ (f ++ (s ++ p))
behind out f s p x y z a b c = c ∙ ap (λ (t : List ℕ). t ++ p) (b ∙ ap (λ (t : List ℕ). t ++ s) a ∙ joined out f s) ∙ joined out (f ++ s) p ∙ ap (λ (t : List ℕ). out ++ t) (joined f s p)

pub frame_behind : (number : ℕ) (payload out f s x y z : List ℕ) → f ≡ front number payload → s ≡ sha1 (f ++ payload) → x ≡ out ++ f → y ≡ x ++ s → z ≡ y ++ payload → z ≡ out ++ frame number payload
frame_behind number payload out f s x y z is sum a b c =
    behind out f s payload x y z a b c ∙ ap₂ (λ (g t : List ℕ). out ++ (g ++ (t ++ payload))) is (sum ∙ ap (λ (g : List ℕ). sha1 (g ++ payload)) is)

taken : (n : ℕ) (xs : List ℕ) → xs ≡ take n xs ++ drop n xs
taken zero xs = refl
taken (suc n) [] = refl
taken (suc n) (x ∷ xs) = ap (λ (ys : List ℕ). x ∷ ys) (taken n xs)

pub split_join : (xs : List ℕ) (n : ℕ) (a b : List ℕ) → IsSplitAt xs n a b → xs ≡ a ++ b
split_join xs n a b split = taken n xs ∙ ap₂ (λ (y z : List ℕ). y ++ z) (sym split.1) (sym split.2)

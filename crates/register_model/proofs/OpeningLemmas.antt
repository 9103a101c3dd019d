-- Files in the order of their ids.
use Rattle.std.proofs.Common.{◌-◌, ◌≡◌, ℕ, zero, suc, ◌<◌, ◌≤◌, List, [], ◌∷◌, length, Bool, true, false, ◌==◌, nat_lt, Some, None, refl, sym, ap, ◌∙◌, arith, slice_index_or, find, All, ⊎_elim}
use Rattle.std.specs.List.{AllWithin}
use Rattle.std.specs.List.Sorted.{IsNonDecreasingBy}
use Rattle.std.specs.Option.{option_map}
use Rattle.std.proofs.lemmas.Bool.Decides.{nat_tests}
use Rattle.std.proofs.lemmas.Bool.{cases_lt}
use Rattle.std.proofs.lemmas.List.{get_or_default}
use Rattle.register_model.specs.declared.op.Opening.{Opening}
use Rattle.register_model.specs.Register.{content_of}

pub finds_none : {X : Type 0} (t : X → Bool) (xs : List X) → All (λ x. t x ≡ false) xs → find t xs ≡ None
finds_none t [] h = refl
finds_none t (x ∷ xs) h = rw (h 0 x (omega arith)) (finds_none t xs (λ k d lt. h (suc k) d (omega arith)))

pub finds_first : {X : Type 0} (t : X → Bool) (xs : List X) (n : ℕ) (x : X) → n < length xs → AllWithin (λ y. t y ≡ false) xs 0 n → x ≡ slice_index_or xs n x → t x ≡ true → find t xs ≡ Some x
finds_first t [] n x lt before at h = absurd (omega arith)
finds_first t (y ∷ xs) zero x lt before at h = let here : t y ≡ true = ap t (sym at) ∙ h in rw here (ap (λ z. Some z) (sym at))
finds_first t (y ∷ xs) (suc n) x lt before at h = rw (before 0 y (omega arith) (omega arith)) (finds_first t xs n x (omega arith) (λ k d low w. before (suc k) d (omega arith) (omega arith)) at h)

pub no_content : (opening : List Opening) (file n : ℕ) → AllWithin (λ f. nat_lt f.file file ≡ true) opening 0 n → length opening ≤ n → content_of opening file ≡ None
no_content opening file n below past = ap (option_map (λ f. f.content)) (finds_none (λ f. f.file == file) opening (λ k d lt.
    let b = below k d (omega arith) (omega (arith, lt, past)) in
    grind (arith, nat_tests, b)))

pub content_at : (opening : List Opening) (file n : ℕ) (x : Opening) → AllWithin (λ f. nat_lt f.file file ≡ true) opening 0 n → n < length opening → x ≡ slice_index_or opening n x → x.file ≡ file → content_of opening file ≡ Some x.content
content_at opening file n x below lt at same =
    let passes : (x.file == file) ≡ true = grind (arith, nat_tests, same) in
    ap (option_map (λ f. f.content)) (finds_first (λ f. f.file == file) opening n x lt (λ k d low w. let b = below k d low w in grind (arith, nat_tests, b)) at passes)

pub content_past : (opening : List Opening) (file n : ℕ) (x : Opening) → IsNonDecreasingBy (λ f. f.file) opening → AllWithin (λ f. nat_lt f.file file ≡ true) opening 0 n → AllWithin (λ f. nat_lt f.file file ≡ false) opening n (length opening)
    → n < length opening → x ≡ slice_index_or opening n x → ¬ (x.file ≡ file) → content_of opening file ≡ None
content_past opening file n x rise below from lt at other = ap (option_map (λ f. f.content)) (finds_none (λ f. f.file == file) opening (λ k d w. ⊎_elim
    (λ (inside : k < n). let b = below k d (omega arith) inside in grind (arith, nat_tests, b))
    (λ (past : n ≤ k).
    let up = rise n k x past w in
    let here = from n x (omega arith) lt in
    let same = ap (λ (f : Opening). f.file) at in
    let there = ap (λ (f : Opening). f.file) (get_or_default opening k d x w) in
    grind (arith, nat_tests, up, here, same, there, other))
    (cases_lt k n)))

pub falls : (opening : List Opening) (i : ℕ) (d e : Opening) → 1 ≤ i → i < length opening → (slice_index_or opening i d).file < (slice_index_or opening (i - 1) e).file → IsNonDecreasingBy (λ f. f.file) opening → ⊥
falls opening i d e some lt less rise =
    let up = rise (i - 1) i d (omega arith) lt in
    let same = ap (λ (f : Opening). f.file) (get_or_default opening (i - 1) d e (omega arith)) in
    omega (arith, up, same, less)

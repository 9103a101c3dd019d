-- How many of a list's first elements pass a test.
use Rattle.std.proofs.Common.{◌≡◌, ℕ, zero, suc, ◌<◌, ◌≤◌, List, [], ◌∷◌, length, Option, Some, None, Bool, true, false, refl, sym, ap, ◌∙◌, subst, arith, if◌then◌else◌}
use mathlib.Core.Bool.{true≢false}
use Rattle.std.specs.List.{slice_get, find, AllByRecursion}
use Rattle.tree_nodes.specs.Table.{front, kept_by}

abbrev or_else : {X : Type 0} → X → Option X → X
or_else d None = d
or_else d (Some z) = z

pub some_is : {X : Type 0} (a b : X) → Some a ≡ Some b → a ≡ b
some_is a b e = ap (or_else a) e

pub all_at : {X : Type 0} (P : X → Type 0) (xs : List X) (i : ℕ) (x : X) → AllByRecursion P xs → slice_get xs i ≡ Some x → P x
all_at P [] i x all at = absurd (none_some at)
  where
    none_some : {A : Type 0} {a : A} → None ≡ Some a → ⊥
    none_some e = absurd cc
all_at P (y ∷ ys) zero x all at = subst P (some_is y x at) all.0
all_at P (y ∷ ys) (suc i) x all at = all_at P ys i x all.1 at

pub all_map : {X : Type 0} (P Q : X → Type 0) → ((x : X) → P x → Q x) → (xs : List X) → AllByRecursion P xs → AllByRecursion Q xs
all_map P Q f [] all = tt
all_map P Q f (x ∷ xs) all = (f x all.0, all_map P Q f xs all.1)

-- none that passes comes behind one that doesn't
abbrev pub IsParted : {X : Type 0} → (X → Bool) → List X → Type 0
IsParted p [] = Unit {0}
IsParted p (x ∷ xs) = (p x ≡ false → AllByRecursion (λ y. p y ≡ false) xs) × IsParted p xs

module _ {X : Type 0} (p : X → Bool) where
  front_le_if : (b : Bool) (n m : ℕ) → n ≤ m → (if b then suc n else 0) ≤ suc m
  front_le_if true n m le = omega (arith, le)
  front_le_if false n m le = omega arith

  pub front_le : (xs : List X) → front p xs ≤ length xs
  front_le [] = omega arith
  front_le (x ∷ xs) = front_le_if (p x) (front p xs) (length xs) (front_le xs)

  front_zero_if : (b : Bool) (n : ℕ) → b ≡ false → (if b then suc n else 0) ≤ 0
  front_zero_if true n e = absurd (true≢false e)
  front_zero_if false n e = omega arith

  front_not_if : (b : Bool) (n i : ℕ) → n ≤ i → (if b then suc n else 0) ≤ suc i
  front_not_if true n i le = omega (arith, le)
  front_not_if false n i le = omega arith

  -- they end at the first that doesn't pass
  pub front_not : (xs : List X) (i : ℕ) (x : X) → slice_get xs i ≡ Some x → p x ≡ false → front p xs ≤ i
  front_not [] i x at fails = omega arith
  front_not (y ∷ ys) zero x at fails = front_zero_if (p y) (front p ys) (ap p (some_is y x at) ∙ fails)
  front_not (y ∷ ys) (suc i) x at fails = front_not_if (p y) (front p ys) i (front_not ys i x at fails)

  front_yes_if : (b : Bool) (n : ℕ) → b ≡ true → 0 < (if b then suc n else 0)
  front_yes_if true n e = omega arith
  front_yes_if false n e = absurd (true≢false (sym e))

  front_more_if : (b : Bool) (n i : ℕ) → (b ≡ false → ⊥) → i < n → suc i < (if b then suc n else 0)
  front_more_if true n i never le = omega (arith, le)
  front_more_if false n i never le = absurd (never refl)

  -- and reach past each that does, where the list is parted
  pub front_yes : (xs : List X) (i : ℕ) (x : X) → IsParted p xs → slice_get xs i ≡ Some x → p x ≡ true → i < front p xs
  front_yes [] i x parted at passes = absurd cc
  front_yes (y ∷ ys) zero x parted at passes = front_yes_if (p y) (front p ys) (ap p (some_is y x at) ∙ passes)
  front_yes (y ∷ ys) (suc i) x parted at passes = front_more_if (p y) (front p ys) i (λ fails. true≢false (sym passes ∙ all_at (λ z. p z ≡ false) ys i x (parted.0 fails) at)) (front_yes ys i x parted.1 at passes)

-- ---- what stands at the front's end

-- the first that passes q is the first that doesn't pass p, if any
abbrev pub IsFoundAt : {X : Type 0} → (X → Bool) → (X → Bool) → List X → Type 0
IsFoundAt p q [] = Unit {0}
IsFoundAt p q (x ∷ xs) = (p x ≡ true → q x ≡ false) × (p x ≡ false → AllByRecursion (λ y. q y ≡ false) xs) × IsFoundAt p q xs

module _ {X : Type 0} (p q : X → Bool) where
  find_none : (xs : List X) → AllByRecursion (λ y. q y ≡ false) xs → find q xs ≡ None
  find_none [] all = refl
  find_none (x ∷ xs) all = rw all.0 (find_none xs all.1)

  found_if : (b c : Bool) (x : X) (xs : List X) → (b ≡ true → c ≡ false) → (b ≡ false → find q xs ≡ None) → find q xs ≡ kept_by q (slice_get xs (front p xs)) → q x ≡ c → (if c then Some x else find q xs) ≡ kept_by q (slice_get (x ∷ xs) (if b then suc (front p xs) else 0))
  found_if true true x xs f n later e = absurd (true≢false (f refl))
  found_if true false x xs f n later e = later
  found_if false true x xs f n later e = rw e refl
  found_if false false x xs f n later e = rw e (n refl)

  pub found_at : (xs : List X) → IsFoundAt p q xs → find q xs ≡ kept_by q (slice_get xs (front p xs))
  found_at [] found = refl
  found_at (x ∷ xs) found = found_if (p x) (q x) x xs found.0 (λ e. find_none xs (found.1 e)) (found_at xs found.2) refl

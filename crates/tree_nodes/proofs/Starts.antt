-- How names stand to each other by where they begin.
use Rattle.std.proofs.Common.{◌≡◌, ℕ, zero, suc, ◌+◌, ◌*◌, ◌^◌, ◌<◌, ◌≤◌, List, [], ◌∷◌, get_or, Bool, true, false, ◌==◌, refl, sym, ap, ◌∙◌, subst, arith, nat_lt, cond, ◌⊎◌, inl, inr}
use mathlib.Core.Bool.{true≢false}
use Rattle.std.specs.Int.{w64, from_be_bytes}
use Rattle.std.specs.Ordering.{nat_cmp, is_lt, ordering_then, ordering_reverse}
use Rattle.std.specs.declared.cmp.Ordering.{Ordering}
use Rattle.std.specs.declared.cmp.Ordering.TheVariants.{Less, Equal, Greater}
use Rattle.std.specs.Cmp.Lexicographic.{slice_cmp, nat_list_cmp_total}
use Rattle.std.proofs.lemmas.Bool.{cases_eq, cases_lt}
use Rattle.std.proofs.lemmas.Bool.Decides.{nat_tests}
use Rattle.std.proofs.lemmas.Nat.{mul-add-lt}
use Rattle.std.proofs.Math.Nat.{mul_comm, pow-suc}
use Rattle.tree_nodes.specs.declared.node.Node.{Node}
use Rattle.tree_nodes.specs.Nodes.{before}
use Rattle.tree_nodes.specs.Places.{first_bytes, start_of, AreBytes}

-- ---- the number of a name's first bytes

pub first_eight : (name : List ℕ) → from_be_bytes w64 (get_or name 0 0 ∷ get_or name 1 0 ∷ get_or name 2 0 ∷ get_or name 3 0 ∷ get_or name 4 0 ∷ get_or name 5 0 ∷ get_or name 6 0 ∷ get_or name 7 0 ∷ []) ≡ start_of name
unfolding start_of
first_eight [] = omega arith
first_eight (a ∷ []) = omega arith
first_eight (a ∷ b ∷ []) = omega arith
first_eight (a ∷ b ∷ c ∷ []) = omega arith
first_eight (a ∷ b ∷ c ∷ d ∷ []) = omega arith
first_eight (a ∷ b ∷ c ∷ d ∷ e ∷ []) = omega arith
first_eight (a ∷ b ∷ c ∷ d ∷ e ∷ f ∷ []) = omega arith
first_eight (a ∷ b ∷ c ∷ d ∷ e ∷ f ∷ g ∷ []) = omega arith
first_eight (a ∷ b ∷ c ∷ d ∷ e ∷ f ∷ g ∷ h ∷ more) = omega arith

first_below : (k : ℕ) (bytes : List ℕ) → AreBytes bytes → first_bytes k bytes < 256 ^ k
first_below zero bytes fit = omega arith
first_below (suc k) [] fit = subst (λ (z : ℕ). 0 < z) (sym (pow-suc 256 k)) (omega (arith, first_below k [] fit))
first_below (suc k) (b ∷ bs) fit = subst (λ (z : ℕ). b * 256 ^ k + first_bytes k bs < z) (sym (pow-suc 256 k)) (mul-add-lt b (256 ^ k) (first_bytes k bs) 256 (fit 0) (first_below k bs (λ i. fit (suc i))))

-- ---- two names

less_first : (a b : ℕ) (o : Ordering) → a < b → ordering_then (nat_cmp a b) o ≡ Less
less_first a b o less = less_if (nat_lt a b) (grind (arith, nat_tests, less))
  where
    less_if : (c : Bool) → c ≡ true → ordering_then (cond c Less (cond (a == b) Equal Greater)) o ≡ Less
    less_if true e = refl
    less_if false e = absurd (true≢false (sym e))

same_first : (a b : ℕ) (o : Ordering) → a ≡ b → ordering_then (nat_cmp a b) o ≡ o
same_first a b o same = same_if (nat_lt a b) (a == b) (grind (arith, nat_tests, same)) (grind (arith, nat_tests, same))
  where
    same_if : (c d : Bool) → c ≡ false → d ≡ true → ordering_then (cond c Less (cond d Equal Greater)) o ≡ o
    same_if true d e f = absurd (true≢false e)
    same_if false true e f = refl
    same_if false false e f = absurd (true≢false (sym f))

other_first : (a b : ℕ) (o : Ordering) → (a ≡ b → ⊥) → is_lt (ordering_then (nat_cmp a b) o) ≡ nat_lt a b
other_first a b o other = other_if (nat_lt a b) (a == b) (grind (arith, nat_tests, other))
  where
    other_if : (c d : Bool) → d ≡ false → is_lt (ordering_then (cond c Less (cond d Equal Greater)) o) ≡ c
    other_if true d e = refl
    other_if false true e = absurd (true≢false e)
    other_if false false e = refl

-- what begins lower comes first
lower_first : (k : ℕ) (xs ys : List ℕ) → AreBytes xs → AreBytes ys → first_bytes k xs < first_bytes k ys → slice_cmp nat_cmp xs ys ≡ Less
lower_first zero xs ys fit fits less = absurd (omega (arith, less))
lower_first (suc k) [] [] fit fits less = absurd (omega (arith, less))
lower_first (suc k) [] (y ∷ ys) fit fits less = refl
lower_first (suc k) (x ∷ xs) [] fit fits less = absurd (omega (arith, less))
lower_first (suc k) (x ∷ xs) (y ∷ ys) fit fits less = by (λ lower. lower_first k xs ys (λ i. fit (suc i)) (λ i. fits (suc i)) lower) (cases_eq x y)
  where
    rest : x ≡ y → first_bytes k xs < first_bytes k ys
    rest same = left (x * 256 ^ k) (y * 256 ^ k) (first_bytes k xs) (first_bytes k ys) (ap (λ (z : ℕ). z * 256 ^ k) same) less
      where
        left : (p q a b : ℕ) → p ≡ q → p + a < q + b → a < b
        left p q a b e l = omega (arith, e, l)

    never : y < x → ⊥
    never more = clash (x * 256 ^ k) (256 ^ k * x) (first_bytes k xs) (y * 256 ^ k + first_bytes k ys) (mul_comm x (256 ^ k)) less (mul-add-lt y (256 ^ k) (first_bytes k ys) x more (first_below k ys (λ i. fits (suc i))))
      where
        clash : (p q a b : ℕ) → p ≡ q → p + a < b → b < q → ⊥
        clash p q a b e l m = absurd (omega (arith, e, l, m))

    either : (x ≡ y → ⊥) → (x < y) ⊎ (y ≤ x) → ordering_then (nat_cmp x y) (slice_cmp nat_cmp xs ys) ≡ Less
    either other (inl first) = less_first x y (slice_cmp nat_cmp xs ys) first
    either other (inr most) = absurd (never (omega (arith, most, other)))

    by : (first_bytes k xs < first_bytes k ys → slice_cmp nat_cmp xs ys ≡ Less) → (x ≡ y) ⊎ (x ≡ y → ⊥) → ordering_then (nat_cmp x y) (slice_cmp nat_cmp xs ys) ≡ Less
    by later (inl same) = same_first x y (slice_cmp nat_cmp xs ys) same ∙ later (rest same)
    by later (inr other) = either other (cases_lt x y)

starts_apart : (xs ys : List ℕ) → AreBytes xs → AreBytes ys → (start_of xs ≡ start_of ys → ⊥) → is_lt (slice_cmp nat_cmp xs ys) ≡ nat_lt (start_of xs) (start_of ys)
unfolding start_of
starts_apart xs ys fit fits other = by (cases_lt (first_bytes 8 xs) (first_bytes 8 ys))
  where
    yes : (a b : ℕ) → a < b → nat_lt a b ≡ true
    yes a b less = grind (arith, nat_tests, less)

    no : (a b : ℕ) → b ≤ a → nat_lt a b ≡ false
    no a b most = grind (arith, nat_tests, most)

    past : (a b : ℕ) → (a ≡ b → ⊥) → b ≤ a → b < a
    past a b differ most = omega (arith, differ, most)

    by : (first_bytes 8 xs < first_bytes 8 ys) ⊎ (first_bytes 8 ys ≤ first_bytes 8 xs) → is_lt (slice_cmp nat_cmp xs ys) ≡ nat_lt (first_bytes 8 xs) (first_bytes 8 ys)
    by (inl less) = ap is_lt (lower_first 8 xs ys fit fits less) ∙ sym (yes (first_bytes 8 xs) (first_bytes 8 ys) less)
    by (inr most) = ap is_lt (nat_list_cmp_total.antisymm xs ys ∙ ap ordering_reverse (lower_first 8 ys xs fits fit (past (first_bytes 8 xs) (first_bytes 8 ys) other most))) ∙ sym (no (first_bytes 8 xs) (first_bytes 8 ys) most)

-- ---- a node and a name

pub other_dir : (n : Node) (dir : ℕ) (name : List ℕ) → (n.parent ≡ dir → ⊥) → before n dir name ≡ nat_lt n.parent dir
other_dir n dir name other = other_first n.parent dir (slice_cmp nat_cmp n.name name) other

pub other_start : (n : Node) (dir : ℕ) (name : List ℕ) → AreBytes n.name → AreBytes name → n.parent ≡ dir → (start_of n.name ≡ start_of name → ⊥) → before n dir name ≡ nat_lt (start_of n.name) (start_of name)
other_start n dir name fit fits same other = ap is_lt (same_first n.parent dir (slice_cmp nat_cmp n.name name) same) ∙ starts_apart n.name name fit fits other

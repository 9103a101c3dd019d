-- The nodes of a directory stand together.
use Rattle.std.proofs.Common.{◌≡◌, ℕ, suc, ◌+◌, ◌-◌, ◌<◌, ◌≤◌, List, [], ◌∷◌, length, take, drop, Bool, true, false, ◌==◌, refl, sym, ap, ◌∙◌, subst, arith, length-take-le, length-drop, nat_lt, if◌then◌else◌, cond}
use mathlib.Core.Bool.{true≢false}
use Rattle.std.specs.List.{AllByRecursion}
use Rattle.std.specs.Ordering.{nat_cmp, is_lt, ordering_then}
use Rattle.std.specs.declared.cmp.Ordering.{Ordering}
use Rattle.std.specs.declared.cmp.Ordering.TheVariants.{Less, Equal, Greater}
use Rattle.std.specs.Cmp.Lexicographic.{slice_cmp}
use Rattle.std.proofs.lemmas.Bool.Decides.{nat_tests}
use Rattle.tree_nodes.specs.declared.node.Node.{Node}
use Rattle.tree_nodes.specs.Nodes.{before, names, AreInOrder}
use Rattle.tree_nodes.specs.Table.{place_for, shown}
use Rattle.tree_nodes.specs.declared.slot.Slot.{Slot}
use Rattle.tree_nodes.proofs.Fronts.{all_map, front_le}

-- the empty name comes first in its directory
nil_after : (name : List ℕ) → is_lt (slice_cmp nat_cmp name []) ≡ false
nil_after [] = refl
nil_after (b ∷ bs) = refl

is_lt_then : (a b : ℕ) (s : Ordering) → is_lt s ≡ false → is_lt (ordering_then (nat_cmp a b) s) ≡ nat_lt a b
is_lt_then a b s last = less_if (nat_lt a b) (a == b) refl refl
  where
    less_if : (c d : Bool) → nat_lt a b ≡ c → (a == b) ≡ d → is_lt (ordering_then (cond c Less (cond d Equal Greater)) s) ≡ c
    less_if true d e f = refl
    less_if false true e f = last
    less_if false false e f = refl

before_nil : (n : Node) (dir : ℕ) → before n dir [] ≡ nat_lt n.parent dir
before_nil n dir = is_lt_then n.parent dir (slice_cmp nat_cmp n.name []) (nil_after n.name)

-- what comes before something stands in no later directory
before_le : (a b : ℕ) (s : Ordering) → is_lt (ordering_then (nat_cmp a b) s) ≡ true → a ≤ b
before_le a b s first = le_if (nat_lt a b) (a == b) refl refl first
  where
    le_if : (c d : Bool) → nat_lt a b ≡ c → (a == b) ≡ d → is_lt (ordering_then (cond c Less (cond d Equal Greater)) s) ≡ true → a ≤ b
    le_if true d e f first' = grind (arith, nat_tests, e)
    le_if false true e f first' = grind (arith, nat_tests, f)
    le_if false false e f first' = absurd (true≢false (sym first'))

front_none : (dir : ℕ) (ns : List Node) → AllByRecursion (λ m. dir ≤ m.parent) ns → place_for ns dir [] ≡ 0
front_none dir [] all = refl
front_none dir (n ∷ ns) all = rw (before_nil n dir, at_least n.parent dir all.0) refl
  where
    at_least : (a b : ℕ) → b ≤ a → nat_lt a b ≡ false
    at_least a b le = grind (arith, nat_tests, le)

names_none : (dir : ℕ) (ns : List Node) → AllByRecursion (λ m. dir < m.parent) ns → names ns dir ≡ []
names_none dir [] all = refl
names_none dir (n ∷ ns) all = rw (other n.parent dir all.0) (names_none dir ns all.1)
  where
    other : (a b : ℕ) → b < a → (a == b) ≡ false
    other a b less = grind (arith, nat_tests, less)

later_parents : (n : Node) (ns : List Node) → AllByRecursion (λ m. before n m.parent m.name ≡ true) ns → AllByRecursion (λ m. n.parent ≤ m.parent) ns
later_parents n ns all = all_map (λ m. before n m.parent m.name ≡ true) (λ m. n.parent ≤ m.parent) (λ m first. before_le n.parent m.parent (slice_cmp nat_cmp n.name m.name) first) ns all

-- from where the directory's would begin to where the next one's would
module _ (n : Node) (ns : List Node) (dir : ℕ) (all : AllByRecursion (λ m. n.parent ≤ m.parent) ns) (rest : names ns dir ≡ take (place_for ns (dir + 1) [] - place_for ns dir []) (drop (place_for ns dir []) ns)) where
  first_zero : n.parent ≡ dir → place_for ns dir [] ≡ 0
  first_zero same = front_none dir ns (all_map (λ m. n.parent ≤ m.parent) (λ m. dir ≤ m.parent) (λ m le. subst (λ p. p ≤ m.parent) same le) ns all)

  none_left : dir < n.parent → names ns dir ≡ []
  none_left less = names_none dir ns (all_map (λ m. n.parent ≤ m.parent) (λ m. dir < m.parent) (λ m le. omega (arith, le, less)) ns all)

  names_if : (b c d : Bool) → (b ≡ true → (c ≡ true) × (d ≡ false)) → (d ≡ true → (c ≡ true) × (n.parent ≡ dir)) → (b ≡ false → d ≡ false → (c ≡ false) × (dir < n.parent)) → cond d (n ∷ names ns dir) (names ns dir) ≡ take ((if c then suc (place_for ns (dir + 1) []) else 0) - (if b then suc (place_for ns dir []) else 0)) (drop (if b then suc (place_for ns dir []) else 0) (n ∷ ns))
  names_if true true true f g h = absurd (true≢false (f refl).1)
  names_if true true false f g h =
      let same : place_for ns (dir + 1) [] - place_for ns dir [] ≡ suc (place_for ns (dir + 1) []) - suc (place_for ns dir []) = omega arith in
      rest ∙ ap (λ k. take k (drop (place_for ns dir []) ns)) same
  names_if true false d f g h = absurd (true≢false (sym (f refl).0))
  names_if false true true f g h =
      let zeroed = first_zero (g refl).1 in
      let here : names ns dir ≡ take (place_for ns (dir + 1) []) ns = rest ∙ ap (λ a. take (place_for ns (dir + 1) [] - a) (drop a ns)) zeroed ∙ ap (λ k. take k ns) (minus_zero (place_for ns (dir + 1) [])) in
      ap (λ z. n ∷ z) here ∙ ap (λ k. take k (n ∷ ns)) (sym (minus_zero (suc (place_for ns (dir + 1) []))))
    where
      minus_zero : (a : ℕ) → a - 0 ≡ a
      minus_zero a = omega arith
  names_if false false true f g h = absurd (true≢false (sym (g refl).0))
  names_if false true false f g h = absurd (true≢false (h refl refl).0)
  names_if false false false f g h = none_left (h refl refl).1

pub names_at : (ns : List Node) (dir : ℕ) → AreInOrder ns → names ns dir ≡ take (place_for ns (dir + 1) [] - place_for ns dir []) (drop (place_for ns dir []) ns)
names_at [] dir sorted = refl
names_at (n ∷ ns) dir sorted =
    rw (before_nil n dir, before_nil n (dir + 1)) (names_if n ns dir (later_parents n ns sorted.0) (names_at ns dir sorted.1) (nat_lt n.parent dir) (nat_lt n.parent (dir + 1)) (n.parent == dir) (below n.parent) (same n.parent) (above n.parent))
  where
    below : (p : ℕ) → nat_lt p dir ≡ true → (nat_lt p (dir + 1) ≡ true) × ((p == dir) ≡ false)
    below p e = (grind (arith, nat_tests, e), grind (arith, nat_tests, e))

    same : (p : ℕ) → (p == dir) ≡ true → (nat_lt p (dir + 1) ≡ true) × (p ≡ dir)
    same p e = (grind (arith, nat_tests, e), grind (arith, nat_tests, e))

    above : (p : ℕ) → nat_lt p dir ≡ false → (p == dir) ≡ false → (nat_lt p (dir + 1) ≡ false) × (dir < p)
    above p e f = (grind (arith, nat_tests, e, f), grind (arith, nat_tests, e, f))

pub place_rises : (ns : List Node) (dir : ℕ) → place_for ns dir [] ≤ place_for ns (dir + 1) []
place_rises [] dir = omega arith
place_rises (n ∷ ns) dir = rw (before_nil n dir, before_nil n (dir + 1)) (rises_if (nat_lt n.parent dir) (nat_lt n.parent (dir + 1)) (wider n.parent) (place_rises ns dir))
  where
    wider : (p : ℕ) → nat_lt p dir ≡ true → nat_lt p (dir + 1) ≡ true
    wider p e = grind (arith, nat_tests, e)

    rises_if : (b c : Bool) → (b ≡ true → c ≡ true) → place_for ns dir [] ≤ place_for ns (dir + 1) [] → (if b then suc (place_for ns dir []) else 0) ≤ (if c then suc (place_for ns (dir + 1) []) else 0)
    rises_if true true f le = omega (arith, le)
    rises_if true false f le = absurd (true≢false (sym (f refl)))
    rises_if false c f le = omega arith

-- the same with the places as they were found
pub names_between : (ns : List Node) (dir a b : ℕ) → AreInOrder ns → a ≡ place_for ns dir [] → b ≡ place_for ns (dir + 1) [] → names ns dir ≡ take (b - a) (drop a ns)
names_between ns dir a b sorted from to = rw (from, to) (names_at ns dir sorted)

pub places_rise : (ns : List Node) (dir a b : ℕ) → a ≡ place_for ns dir [] → b ≡ place_for ns (dir + 1) [] → a ≤ b
places_rise ns dir a b from to = rw (from, to) (place_rises ns dir)

pub places_end : (ns : List Node) (dir b : ℕ) → b ≡ place_for ns (dir + 1) [] → b ≤ length ns
places_end ns dir b to = rw to (front_le (λ n. before n (dir + 1) []) ns)

pub count_between : (ns : List Node) (dir a b : ℕ) → AreInOrder ns → a ≡ place_for ns dir [] → b ≡ place_for ns (dir + 1) [] → length (names ns dir) ≡ b - a
count_between ns dir a b sorted from to =
    ap length (names_between ns dir a b sorted from to) ∙ length-take-le (b - a) (drop a ns) (rw (length-drop a ns) (omega (arith, places_rise ns dir a b from to, places_end ns dir b to)))

pub length_shown : (slots : List Slot) (order : List ℕ) → length (shown slots order) ≡ length order
length_shown slots [] = refl
length_shown slots (k ∷ ks) = ap (λ n. suc n) (length_shown slots ks)

-- what `places` goes by
pub ruleset by_places = (names_between, count_between, places_rise, places_end)

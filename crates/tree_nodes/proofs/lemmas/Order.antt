-- The order of names in directories.
use Rattle.std.proofs.Common.{◌≡◌, ℕ, List, [], ◌∷◌, Bool, true, false, ◌&&◌, ◌==◌, refl, sym, ap, ◌∙◌, subst, arith}
use mathlib.Core.Bool.{true≢false}
use Rattle.std.specs.List.{AllByRecursion}
use Rattle.std.specs.Str.{bytes_eq}
use Rattle.std.specs.Ordering.{is_lt}
use Rattle.std.specs.declared.cmp.Ordering.{Ordering}
use Rattle.std.specs.declared.cmp.Ordering.TheVariants.{Less, Equal, Greater}
use Rattle.std.specs.Cmp.{IsTotalOrder, then_total, on_total, nat_cmp_total, tied_itself}
use Rattle.std.specs.Cmp.Lexicographic.{nat_list_cmp_total}
use Rattle.std.proofs.lemmas.Slice.Eq.{bytes_eq-Decides}
use Rattle.std.proofs.lemmas.Bool.Decides.{nat_tests}
use Rattle.tree_nodes.specs.declared.node.Node.{Node}
use Rattle.tree_nodes.specs.Nodes.{place_cmp, before, AreInOrder}
use Rattle.tree_nodes.proofs.Fronts.{IsParted, IsFoundAt, all_map}

abbrev Key : Type 0
Key = ℕ × List ℕ

key_cmp : Key → Key → Ordering
key_cmp k l = place_cmp k.0 k.1 l.0 l.1

pub key_total : IsTotalOrder (λ (k l : Key). place_cmp k.0 k.1 l.0 l.1)
key_total = then_total (on_total (λ (k : Key). k.0) nat_cmp_total) (on_total (λ (k : Key). k.1) nat_list_cmp_total)

pub less_is : (r : Ordering) → is_lt r ≡ true → r ≡ Less
less_is Less e = refl
less_is Equal e = absurd (true≢false (sym e))
less_is Greater e = absurd (true≢false (sym e))

pub not_true : (b : Bool) → (b ≡ true → ⊥) → b ≡ false
not_true true never = absurd (never refl)
not_true false never = refl

-- what comes before what comes before a name comes before it
pub before_trans : (x y : Node) (dir : ℕ) (name : List ℕ) → before x y.parent y.name ≡ true → before y dir name ≡ true → before x dir name ≡ true
before_trans x y dir name first second = ap is_lt (key_total.trans (x.parent, x.name) (y.parent, y.name) (dir, name) (less_is _ first) (less_is _ second))

-- nothing comes before itself
pub before_itself : (dir : ℕ) (name : List ℕ) → is_lt (place_cmp dir name dir name) ≡ false
before_itself dir name = ap is_lt (tied_itself key_total (dir, name))

abbrev pub is_named : ℕ → List ℕ → Node → Bool
is_named dir name n = (n.parent == dir) && bytes_eq n.name name

both_true : (a b : Bool) → (a && b) ≡ true → (a ≡ true) × (b ≡ true)
both_true true b e = (refl, e)
both_true false b e = absurd (true≢false (sym e))

-- what has the name stands at its place
pub named_is : (n : Node) (dir : ℕ) (name : List ℕ) → is_named dir name n ≡ true → (n.parent ≡ dir) × (n.name ≡ name)
named_is n dir name e =
    let parts : ((n.parent == dir) ≡ true) × (bytes_eq n.name name ≡ true) = both_true (n.parent == dir) (bytes_eq n.name name) e in
    (grind (arith, nat_tests, parts.0), (bytes_eq-Decides n.name name).0 parts.1)

pub named_not_before : (n : Node) (dir : ℕ) (name : List ℕ) → is_named dir name n ≡ true → before n dir name ≡ false
named_not_before n dir name e = let is = named_is n dir name e in rw (is.0, is.1) (before_itself dir name)

-- the nodes are parted at a name
parted_behind : (x : Node) (dir : ℕ) (name : List ℕ) (ns : List Node) → AllByRecursion (λ m. before x m.parent m.name ≡ true) ns → before x dir name ≡ false → AllByRecursion (λ m. before m dir name ≡ false) ns
parted_behind x dir name ns all fails = all_map (λ m. before x m.parent m.name ≡ true) (λ m. before m dir name ≡ false) (λ m first. not_true (before m dir name) (λ second. true≢false (sym (before_trans x m dir name first second) ∙ fails))) ns all

pub parted : (dir : ℕ) (name : List ℕ) (nodes : List Node) → AreInOrder nodes → IsParted (λ n. before n dir name) nodes
parted dir name [] sorted = tt
parted dir name (n ∷ ns) sorted = (parted_behind n dir name ns sorted.0, parted dir name ns sorted.1)

found_behind : (x : Node) (dir : ℕ) (name : List ℕ) (ns : List Node) → AllByRecursion (λ m. before x m.parent m.name ≡ true) ns → before x dir name ≡ false → AllByRecursion (λ m. is_named dir name m ≡ false) ns
found_behind x dir name ns all fails = all_map (λ m. before x m.parent m.name ≡ true) (λ m. is_named dir name m ≡ false) (λ m first. not_true (is_named dir name m) (λ is. true≢false (sym (at_name m first is) ∙ fails))) ns all
  where
    at_name : (m : Node) → before x m.parent m.name ≡ true → is_named dir name m ≡ true → before x dir name ≡ true
    at_name m first is = let same = named_is m dir name is in subst (λ d. before x d name ≡ true) same.0 (subst (λ (t : List ℕ). before x m.parent t ≡ true) same.1 first)

-- and the node of a name stands at its end
pub found : (dir : ℕ) (name : List ℕ) (nodes : List Node) → AreInOrder nodes → IsFoundAt (λ n. before n dir name) (is_named dir name) nodes
found dir name [] sorted = tt
found dir name (n ∷ ns) sorted = (λ first. not_true (is_named dir name n) (λ is. true≢false (sym first ∙ named_not_before n dir name is)), found_behind n dir name ns sorted.0, found dir name ns sorted.1)

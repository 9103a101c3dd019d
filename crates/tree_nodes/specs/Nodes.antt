-- The nodes of a tree: a list in the order of their directories' ids, and in a directory of their names' bytes.
use Rattle.std.specs.Prelude.{◌≡◌, ℕ, List, [], ◌∷◌, map, Option, Bool, true, false, not, ◌==◌, ◌&&◌, if◌then◌else◌}
use Rattle.std.specs.List.{find, filter, AllByRecursion}
use Rattle.std.specs.Str.{bytes_eq}
use Rattle.std.specs.Ordering.{nat_cmp, is_lt, ordering_then}
use Rattle.std.specs.Cmp.Lexicographic.{slice_cmp}
use Rattle.std.specs.declared.cmp.Ordering.{Ordering}
use Rattle.tree_nodes.specs.declared.node.Node.{Node}

-- ---- what is found

-- the node with the id
abbrev pub with_id : List Node → ℕ → Option Node
with_id nodes id = find (λ n. n.id == id) nodes

-- the node with the name in the directory
abbrev pub named : List Node → ℕ → List ℕ → Option Node
named nodes dir name = find (λ n. (n.parent == dir) && bytes_eq n.name name) nodes

-- the nodes in the directory
abbrev pub names : List Node → ℕ → List Node
names nodes dir = filter (λ n. n.parent == dir) nodes

-- ---- their order

abbrev pub place_cmp : ℕ → List ℕ → ℕ → List ℕ → Ordering
place_cmp dir name other_dir other_name = ordering_then (nat_cmp dir other_dir) (slice_cmp nat_cmp name other_name)

-- whether the node comes before that name in that directory
abbrev pub before : Node → ℕ → List ℕ → Bool
before n dir name = is_lt (place_cmp n.parent n.name dir name)

-- each comes before all behind it
abbrev pub AreInOrder : List Node → Type 0
AreInOrder [] = Unit {0}
AreInOrder (n ∷ ns) = AllByRecursion (λ m. before n m.parent m.name ≡ true) ns × AreInOrder ns

-- two nodes have neither one id nor one name
abbrev pub Differ : Node → Node → Type 0
Differ m n = ((m.id == n.id) ≡ false) × (((m.parent == n.parent) && bytes_eq m.name n.name) ≡ false)

-- no two of them have
abbrev pub AreApart : List Node → Type 0
AreApart [] = Unit {0}
AreApart (n ∷ ns) = AllByRecursion (Differ n) ns × AreApart ns

-- ---- changes

-- the nodes and one more, before the first that it comes before
abbrev pub with_node : List Node → Node → List Node
with_node [] n = n ∷ []
with_node (m ∷ ms) n = let later : List Node = with_node ms n in if before m n.parent n.name then m ∷ later else n ∷ m ∷ ms

-- the nodes and several more
abbrev pub with_nodes : List Node → List Node → List Node
with_nodes ms [] = ms
with_nodes ms (n ∷ ns) = with_nodes (with_node ms n) ns

-- the nodes without that of an id
abbrev pub without : List Node → ℕ → List Node
without nodes id = filter (λ n. not (n.id == id)) nodes

-- the nodes with that of an id changed
abbrev pub changed : List Node → ℕ → (Node → Node) → List Node
changed nodes id f = map (λ n. if n.id == id then f n else n) nodes

-- the nodes with another version for that of an id
abbrev pub versioned : List Node → ℕ → ℕ → List Node
versioned nodes id version = changed nodes id (λ n. record n { version = version })

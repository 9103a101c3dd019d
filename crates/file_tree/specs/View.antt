-- What contracts see of a tree.
use Rattle.std.specs.Prelude.{ℕ, List, Option, Some, None, ◌≤◌, ◌^◌, ◌+◌, ◌==◌, ◌≡◌, [], ◌∷◌, Bool, true, false, nat_lt, if◌then◌else◌}
use Rattle.std.specs.List.{AllByRecursion}
use Rattle.tree_nodes.specs.declared.node.Node.{Node}
use Rattle.tree_nodes.specs.View.{NodesState}
use Rattle.tree_nodes.specs.Nodes.{with_id, versioned}
use Rattle.file_tree.specs.Opening.{counted_at}
use Rattle.tree_reading.specs.Tree.{changes_most, tree_most, is_directory, contents_size}
use Rattle.tree_reading.specs.View.{IsNodeBounded}

-- the ids of all nodes differ
abbrev pub AreIdsApart : List Node → Type 0
AreIdsApart [] = Unit {0}
AreIdsApart (n ∷ ns) = AllByRecursion (λ m. (n.id == m.id) ≡ false) ns × AreIdsApart ns

-- what holds of a tree: its limits, and that no id stands twice
pub record IsWithinLimits (nodes : NodesState) (changes : ℕ) : Type 0 where
  pub count : changes ≤ changes_most
  pub next : nodes.next ≤ 2 ^ 63 + changes
  pub each : AllByRecursion (IsNodeBounded nodes.next changes) nodes.nodes
  pub apart : AreIdsApart nodes.nodes
  pub size : contents_size nodes.nodes ≤ tree_most

-- whether a directory has the id
abbrev pub is_directory_found : Option Node → Bool
is_directory_found None = false
is_directory_found (Some n) = is_directory n.body

abbrev pub is_directory_at : List Node → ℕ → Bool
is_directory_at nodes id = is_directory_found (with_id nodes id)

-- the nodes, once a directory with the id has the version 1
abbrev pub counted_if : Bool → List Node → ℕ → List Node
counted_if true nodes id = versioned nodes id 1
counted_if false nodes id = nodes

-- the nodes, once all directories below an id have it
abbrev pub counted_below : ℕ → Node → Node
counted_below id n = if nat_lt n.id id then counted_at 1 n else n

-- Which records keep a tree.
use Rattle.std.specs.Prelude.{◌≡◌, ℕ, List, [], ◌∷◌, ◌⊎◌, Option, Some, None, ◌==◌, if◌then◌else◌}
use Rattle.std.specs.List.{filter}
use Rattle.store.specs.declared.record.Kept.{Kept}
use Rattle.store.specs.declared.record.Kept.TheVariants as kept
use Rattle.store.specs.declared.record.NodeKind.TheVariants as node_kind
use Rattle.store.specs.Records.{is_head, is_node, is_content}
use Rattle.tree_nodes.specs.declared.node.Node.{Node}
use Rattle.tree_nodes.specs.declared.node.Body.{Body}
use Rattle.tree_nodes.specs.declared.node.Body.TheVariants.{Directory, File}
use Rattle.tree_nodes.specs.Nodes.{with_id}
use Rattle.tree_reading.specs.Tree.{Tree, empty}

abbrev pub node_record : Node → Body → Kept
node_record n Directory = kept.Node (record { id = n.id; parent = n.parent; kind = node_kind.Directory; name = n.name })
node_record n (File c) = kept.Node (record { id = n.id; parent = n.parent; kind = node_kind.File; name = n.name })

-- the records of the node with an id: there is none of the root
abbrev pub node_records : ℕ → Option Node → List Kept
node_records id None = []
node_records id (Some n) = if id == 1 then [] else node_record n n.body ∷ []

-- and of its content
abbrev pub body_records : Node → Body → List Kept
body_records n Directory = []
body_records n (File c) = kept.Content (record { id = n.id; version = n.version; bytes = c }) ∷ []

abbrev pub content_records : Option Node → List Kept
content_records None = []
content_records (Some n) = body_records n n.body

-- of each id there is just the record of its node, and just that of its content, wherever they stand
pub record AreRecordsOf (records : List Kept) (t : Tree) : Type 0 where
  pub heads : filter is_head records ≡ []
  pub nodes : (id : ℕ) → filter (is_node id) records ≡ node_records id (with_id t.nodes id)
  pub contents : (id : ℕ) → filter (is_content id) records ≡ content_records (with_id t.nodes id)

-- the head is first; or there is no record, and the tree is the root alone
abbrev pub IsKept : List Kept → Tree → Type 0
IsKept records t =
    ((records ≡ []) × (t ≡ empty))
    ⊎ ((rest : List Kept) × (records ≡ kept.Head (record { next = t.next; changes = t.changes }) ∷ rest) × AreRecordsOf rest t)

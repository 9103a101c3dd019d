-- The nodes of records, on the way to the tree.
use Rattle.std.specs.Prelude.{◌≡◌, ℕ, List, [], ◌∷◌, Option, Some, None, false, ◌==◌, if◌then◌else◌}
use Rattle.std.specs.List.{AllByRecursion}
use Rattle.store.specs.declared.record.ContentRecord.{ContentRecord}
use Rattle.store.specs.declared.record.Kept.{Kept}
use Rattle.store.specs.declared.record.Kept.TheVariants as kept
use Rattle.store.specs.declared.record.NodeKind.{NodeKind}
use Rattle.store.specs.declared.record.NodeKind.TheVariants as node_kind
use Rattle.store.specs.declared.record.NodeRecord.{NodeRecord}
use Rattle.tree_nodes.specs.declared.node.Node.{Node}
use Rattle.tree_nodes.specs.declared.node.Body.TheVariants.{Directory, File}
use Rattle.tree_load.specs.declared.making.Stored.{Stored}

-- the records of nodes
abbrev pub node_list : List Kept → List NodeRecord
node_list [] = []
node_list (kept.Head h ∷ rs) = node_list rs
node_list (kept.Node n ∷ rs) = n ∷ node_list rs
node_list (kept.Content c ∷ rs) = node_list rs

abbrev pub stored : ContentRecord → Stored
stored c = record { version = c.version; content = c.bytes }

-- the bytes of a content
abbrev pub bytes_of : Kept → List ℕ
bytes_of (kept.Head h) = []
bytes_of (kept.Node n) = []
bytes_of (kept.Content c) = c.bytes

-- the first content of an id
abbrev pub content_with : List Kept → ℕ → Option Stored
content_with [] id = None
content_with (kept.Head h ∷ rs) id = content_with rs id
content_with (kept.Node n ∷ rs) id = content_with rs id
content_with (kept.Content c ∷ rs) id = let later : Option Stored = content_with rs id in if c.id == id then Some (stored c) else later

abbrev pub or_else : Option Stored → Option Stored → Option Stored
or_else None o = o
or_else (Some s) o = Some s

abbrev pub content_at : Kept → ℕ → Option Stored
content_at (kept.Head h) id = None
content_at (kept.Node n) id = None
content_at (kept.Content c) id = if c.id == id then Some (stored c) else None

abbrev pub with_stored : NodeRecord → Option Stored → Node
with_stored n None = record { id = n.id; parent = n.parent; name = n.name; version = 0; body = File [] }
with_stored n (Some s) = record { id = n.id; parent = n.parent; name = n.name; version = s.version; body = File s.content }

-- the node of a record, by the content that its id has
abbrev pub node_of_kind : ℕ → NodeRecord → Option Stored → NodeKind → Node
node_of_kind changes n o node_kind.Directory = record { id = n.id; parent = n.parent; name = n.name; version = changes; body = Directory }
node_of_kind changes n o node_kind.File = with_stored n o

abbrev pub node_by : ℕ → NodeRecord → Option Stored → Node
node_by changes n o = node_of_kind changes n o n.kind

-- no two have one id
abbrev pub AreIdsApart : List NodeRecord → Type 0
AreIdsApart [] = Unit {0}
AreIdsApart (n ∷ ns) = AllByRecursion (λ m. (n.id == m.id) ≡ false) ns × AreIdsApart ns

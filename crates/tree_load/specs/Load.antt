-- Which lists of records a tree may be loaded from; else which record is the first that breaks a rule.
use Rattle.std.specs.Prelude.{ℕ, zero, suc, ◌+◌, ◌^◌, List, [], ◌∷◌, length, Option, Some, None, Result, Ok, Err, is_ok, Bool, true, false, not, ◌&&◌, ◌||◌, ◌==◌, if◌then◌else◌, nat_lt, nat_le}
use Rattle.std.specs.Str.{bytes_eq}
use Rattle.store.specs.declared.record.Head.{Head}
use Rattle.store.specs.declared.record.Kept.{Kept}
use Rattle.store.specs.declared.record.Kept.TheVariants as kept
use Rattle.store.specs.declared.record.NodeRecord.{NodeRecord}
use Rattle.store.specs.declared.record.ContentRecord.{ContentRecord}
use Rattle.store.specs.declared.record.NodeKind.{NodeKind}
use Rattle.store.specs.declared.record.NodeKind.TheVariants as node_kind
use Rattle.tree_nodes.specs.declared.node.Node.{Node}
use Rattle.tree_nodes.specs.declared.node.Body.TheVariants.{Directory, File}
use Rattle.tree_nodes.specs.Nodes.{with_nodes}
use Rattle.tree_reading.specs.Names.{is_dot, is_dot_dot, spelt}
use Rattle.tree_reading.specs.Tree.{Tree, root, empty, changes_most, file_most, tree_most}

-- ---- what is found among the records, each with its number; of several, the first

abbrev pub first_node : ℕ → List Kept → ℕ → Option (ℕ × NodeRecord)
first_node k [] id = None
first_node k (kept.Head h ∷ rs) id = first_node (suc k) rs id
first_node k (kept.Node n ∷ rs) id = let later : Option (ℕ × NodeRecord) = first_node (suc k) rs id in if n.id == id then Some (k, n) else later
first_node k (kept.Content c ∷ rs) id = first_node (suc k) rs id

abbrev pub first_named : ℕ → List Kept → ℕ → List ℕ → Option ℕ
first_named k [] parent name = None
first_named k (kept.Head h ∷ rs) parent name = first_named (suc k) rs parent name
first_named k (kept.Node n ∷ rs) parent name = let later : Option ℕ = first_named (suc k) rs parent name in if (n.parent == parent) && bytes_eq n.name name then Some k else later
first_named k (kept.Content c ∷ rs) parent name = first_named (suc k) rs parent name

abbrev pub first_content : ℕ → List Kept → ℕ → Option (ℕ × ContentRecord)
first_content k [] id = None
first_content k (kept.Head h ∷ rs) id = first_content (suc k) rs id
first_content k (kept.Node n ∷ rs) id = first_content (suc k) rs id
first_content k (kept.Content c ∷ rs) id = let later : Option (ℕ × ContentRecord) = first_content (suc k) rs id in if c.id == id then Some (k, c) else later

abbrev pub is_at : ℕ → Option ℕ → Bool
is_at k None = false
is_at k (Some j) = j == k

abbrev pub place_of : {A : Type 0} → Option (ℕ × A) → Option ℕ
place_of None = None
place_of (Some p) = Some p.0

-- whether it is there before the record with the number
abbrev pub is_before : {A : Type 0} → ℕ → Option (ℕ × A) → Bool
is_before k None = false
is_before k (Some p) = nat_lt p.0 k

abbrev pub is_directory_kind : NodeKind → Bool
is_directory_kind node_kind.Directory = true
is_directory_kind node_kind.File = false

abbrev pub is_directory_found : Option (ℕ × NodeRecord) → Bool
is_directory_found None = false
is_directory_found (Some p) = is_directory_kind p.1.kind

-- ---- the rules of each record

abbrev pub is_head_well : Head → Bool
is_head_well h = nat_le h.changes changes_most && nat_le 2 h.next && nat_le h.next (2 ^ 63 + h.changes)

abbrev pub is_name_well : List ℕ → Bool
is_name_well name = is_ok (spelt name) && not (is_dot name) && not (is_dot_dot name)

-- whether going up from a node comes to the root, in so many steps at most
abbrev pub reaches : ℕ → List Kept → ℕ → Bool
reaches zero all id = id == 1
reaches (suc k) all id = (id == 1) || elim (first_node 0 all id) [ None ↦ false | Some p ↦ reaches k all p.1.parent ]

-- a file has a content; of a directory and a content of its id the later breaks the rule
abbrev pub content_fits : NodeKind → ℕ → Option (ℕ × ContentRecord) → Bool
content_fits node_kind.File k None = false
content_fits node_kind.File k (Some p) = true
content_fits node_kind.Directory k o = not (is_before k o)

abbrev pub is_node_well : Head → List Kept → ℕ → NodeRecord → Bool
is_node_well h all k n =
    nat_le 2 n.id && nat_lt n.id h.next && is_at k (place_of (first_node 0 all n.id))
    && ((n.parent == 1) || is_directory_found (first_node 0 all n.parent))
    && is_name_well n.name && is_at k (first_named 0 all n.parent n.name)
    && reaches (length all) all n.id && content_fits n.kind k (first_content 0 all n.id)

abbrev pub is_its_files : ℕ → Option (ℕ × NodeRecord) → Bool
is_its_files k None = false
is_its_files k (Some p) = not (is_directory_kind p.1.kind && nat_lt p.0 k)

-- sum: the bytes of the contents before it
abbrev pub is_content_well : Head → List Kept → ℕ → ℕ → ContentRecord → Bool
is_content_well h all k sum c =
    is_its_files k (first_node 0 all c.id) && is_at k (place_of (first_content 0 all c.id))
    && nat_le 1 c.version && nat_le c.version h.changes
    && nat_le (length c.bytes) file_most && nat_le (sum + length c.bytes) tree_most

abbrev pub is_well : Head → List Kept → ℕ → ℕ → Kept → Bool
is_well h all k sum (kept.Head g) = false
is_well h all k sum (kept.Node n) = is_node_well h all k n
is_well h all k sum (kept.Content c) = is_content_well h all k sum c

-- the bytes of a content
abbrev pub size_of : Kept → ℕ
size_of (kept.Head g) = 0
size_of (kept.Node n) = 0
size_of (kept.Content c) = length c.bytes

-- the first from the record with a number on that breaks a rule
abbrev pub first_fault : Head → List Kept → ℕ → ℕ → List Kept → Option ℕ
first_fault h all k sum [] = None
first_fault h all k sum (r ∷ rs) = let later : Option ℕ = first_fault h all (suc k) (sum + size_of r) rs in if is_well h all k sum r then later else Some k

-- ---- the tree

abbrev pub content_found : Option (ℕ × ContentRecord) → ℕ × List ℕ
content_found None = (0, [])
content_found (Some p) = (p.1.version, p.1.bytes)

-- a directory's version is the count of changes
abbrev pub node_with : Head → NodeRecord → ℕ × List ℕ → NodeKind → Node
node_with h n c node_kind.Directory = record { id = n.id; parent = n.parent; name = n.name; version = h.changes; body = Directory }
node_with h n c node_kind.File = record { id = n.id; parent = n.parent; name = n.name; version = c.0; body = File c.1 }

abbrev pub loaded_node : Head → List Kept → NodeRecord → Node
loaded_node h all n = node_with h n (content_found (first_content 0 all n.id)) n.kind

-- the nodes of the records, as they stand there
abbrev pub loaded_nodes : Head → List Kept → List Kept → List Node
loaded_nodes h all [] = []
loaded_nodes h all (kept.Head g ∷ rs) = loaded_nodes h all rs
loaded_nodes h all (kept.Node n ∷ rs) = loaded_node h all n ∷ loaded_nodes h all rs
loaded_nodes h all (kept.Content c ∷ rs) = loaded_nodes h all rs

-- the root and all of these, in their order
abbrev pub loaded_tree : Head → List Kept → Tree
loaded_tree h all = record { nodes = with_nodes (root h.changes ∷ []) (loaded_nodes h all all); next = h.next; changes = h.changes }

abbrev pub loaded_if : Head → List Kept → Option ℕ → Result Tree ℕ
loaded_if h all (Some k) = Err k
loaded_if h all None = Ok (loaded_tree h all)

-- the head that is the first record, if it is one
abbrev pub first_head : List Kept → Option Head
first_head [] = None
first_head (kept.Head h ∷ rs) = Some h
first_head (kept.Node n ∷ rs) = None
first_head (kept.Content c ∷ rs) = None

-- which record is the first that breaks a rule, where the first is this head
abbrev pub fault : Head → List Kept → Option ℕ
fault h rs = if is_head_well h then first_fault h (kept.Head h ∷ rs) 1 0 rs else Some 0

-- the tree of these records, or the number of the first that breaks a rule
abbrev pub load : List Kept → Result Tree ℕ
load [] = Ok empty
load (kept.Head h ∷ rs) = loaded_if h (kept.Head h ∷ rs) (fault h rs)
load (kept.Node n ∷ rs) = Err 0
load (kept.Content c ∷ rs) = Err 0

-- What a store is given at a change of the tree, so that it keeps the tree that the change leaves.
use Rattle.std.specs.Prelude.{◌≡◌, ◌<◌, ℕ, List, [], Option, Some, None, Result, Ok, Err}
use Rattle.std.specs.List.{AllByRecursion}
use Rattle.xdr_codec.specs.declared.status.Status.{Status}
use Rattle.store.specs.Records.{applied}
use Rattle.store.specs.declared.record.RecordChange.{RecordChange}
use Rattle.store.specs.declared.record.RecordChange.TheVariants as change
use Rattle.store.specs.declared.record.Head.{Head}
use Rattle.store.specs.declared.record.Kept.{Kept}
use Rattle.store.specs.declared.record.NodeKind.{NodeKind}
use Rattle.store.specs.declared.record.NodeKind.TheVariants as node_kind
use Rattle.tree_nodes.specs.declared.node.Node.{Node}
use Rattle.tree_nodes.specs.declared.node.Body.{Body}
use Rattle.tree_nodes.specs.declared.node.Body.TheVariants.{Directory, File}
use Rattle.tree_nodes.specs.Nodes.{named, with_id}
use Rattle.file_tree.specs.Kept.{IsKept}
use Rattle.file_tree.specs.Step.{made, new_file, new_directory, removed, moved, replaced}
use Rattle.tree_reading.specs.Tree.{Tree}
use Rattle.file_tree.specs.View.{AreIdsApart}
use Rattle.tree_reading.specs.declared.call.Changed.{Changed}
use Rattle.tree_reading.specs.declared.call.Planned.{Planned}
use Rattle.tree_reading.specs.declared.call.Planned.TheVariants.{Nothing, Free, Over}

abbrev pub kind_of : Body → NodeKind
kind_of Directory = node_kind.Directory
kind_of (File c) = node_kind.File

abbrev pub head_of : Tree → Head
head_of t = record { next = t.next; changes = t.changes }

abbrev pub node_change : Node → RecordChange
node_change n = change.Node (record { id = n.id; parent = n.parent; kind = kind_of n.body; name = n.name })

abbrev pub content_change : Node → Body → Option RecordChange
content_change n Directory = None
content_change n (File c) = Some (change.Content (record { id = n.id; version = n.version; bytes = c }))

-- ---- what each call gives a store

-- the head, and one change or two
pub record Given : Type 0 where
  pub head : Head
  pub first : RecordChange
  pub second : Option RecordChange

-- nothing is given where the tree stays
abbrev pub with_given : Option Given → List Kept → List Kept
with_given None records = records
with_given (Some g) records = applied g.head g.first g.second records

-- t: the tree that is left
abbrev pub gives_made : Tree → Node → Given
gives_made t n = record { head = head_of t; first = node_change n; second = content_change n n.body }

abbrev pub gives_removed : Tree → ℕ → Given
gives_removed t id = record { head = head_of t; first = change.Drop id; second = None }

abbrev pub gives_moved : Tree → Node → Option Node → Given
gives_moved t n None = record { head = head_of t; first = node_change n; second = None }
gives_moved t n (Some gone) = record { head = head_of t; first = change.Drop gone.id; second = Some (node_change n) }

abbrev pub gives_replaced : Tree → ℕ → ℕ → List ℕ → Given
gives_replaced t id version content = record { head = head_of t; first = change.Content (record { id = id; version = version; bytes = content }); second = None }

abbrev pub create_gives : Tree → ℕ → List ℕ → Result (Option Changed) Status → Option Given
create_gives t dir name (Err s) = None
create_gives t dir name (Ok (Some done)) = None
create_gives t dir name (Ok None) = Some (gives_made (made t (new_file t dir name)) (new_file t dir name))

abbrev pub mkdir_gives : Tree → ℕ → List ℕ → Result Unit Status → Option Given
mkdir_gives t dir name (Err s) = None
mkdir_gives t dir name (Ok u) = Some (gives_made (made t (new_directory t dir name)) (new_directory t dir name))

-- REMOVE and RMDIR
abbrev pub remove_gives : Tree → ℕ → Result Changed Status → Option Given
remove_gives t dir (Err s) = None
remove_gives t dir (Ok done) = Some (gives_removed (removed t dir done.id) done.id)

abbrev pub shift_gives : Tree → ℕ → Option Node → Option Node → ℕ → List ℕ → Option Given
shift_gives t dir None o to to_name = None
shift_gives t dir (Some n) o to to_name = Some (gives_moved (moved t dir n o to to_name) (record n { parent = to; name = to_name }) o)

abbrev pub rename_gives : Tree → ℕ → List ℕ → ℕ → List ℕ → Result Planned Status → Option Given
rename_gives t dir name to to_name (Err s) = None
rename_gives t dir name to to_name (Ok (Nothing done)) = None
rename_gives t dir name to to_name (Ok (Free done)) = shift_gives t dir (named t.nodes dir name) None to to_name
rename_gives t dir name to to_name (Ok (Over done)) = shift_gives t dir (named t.nodes dir name) (named t.nodes to to_name) to to_name

abbrev pub replace_gives : Tree → ℕ → List ℕ → Result ℕ Status → Option Given
replace_gives t id content (Err s) = None
replace_gives t id content (Ok version) = Some (gives_replaced (replaced t id version content) id version content)

-- ---- a tree that a store keeps

-- no id stands twice, each is below the next, and the root, which has no name, is there
pub record AreWhole (nodes : List Node) (next : ℕ) : Type 0 where
  pub apart : AreIdsApart nodes
  pub below : AllByRecursion (λ n. n.id < next) nodes
  pub rooted : (r : Node) × (with_id nodes 1 ≡ Some r) × (r.name ≡ [])

abbrev pub IsStored : List Kept → Tree → Type 0
IsStored records t = AreWhole t.nodes t.next × IsKept records t

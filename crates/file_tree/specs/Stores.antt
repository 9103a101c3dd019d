-- Steps of a tree that a store is asked for first.
use Rattle.std.specs.Prelude.{◌≡◌, ◌≤◌, ℕ, List, Option, Some, None, Result, Ok, Err, Bool, true, false, ◌==◌, if◌then◌else◌}
use Rattle.xdr_codec.specs.declared.status.Status.{Status}
use Rattle.xdr_codec.specs.declared.status.Status.TheVariants as status
use Rattle.store.specs.declared.record.Kept.{Kept}
use Rattle.store.specs.declared.record.NodeKind.{NodeKind}
use Rattle.store.specs.declared.record.NodeKind.TheVariants as node_kind
use Rattle.tree_nodes.specs.declared.node.Node.{Node}
use Rattle.file_tree.specs.Storing.{kind_of, IsStored}
use Rattle.tree_reading.specs.Tree.{Tree}
pub use Rattle.server_rules.specs.Asking.{IsFault}
use Rattle.tree_reading.specs.declared.call.Changed.{Changed}

-- ---- where the store fails, nothing is done, and IO is told; of a step that counts no change no store is asked

abbrev pub fails : Tree → Tree × Result Changed Status → Result Changed Status → Tree × Result Changed Status
fails t p (Err s) = p
fails t p (Ok c) = if p.0.changes == t.changes then p else (t, Err status.Io)

-- the step p of the tree t; fault: whether the store fails, if it is asked
abbrev pub stored : Bool → Tree → Tree × Result Changed Status → Tree × Result Changed Status
stored false t p = p
stored true t p = fails t p p.1

-- ---- what a caller knows

-- the tree and the answer are those of the step, where the store failed or didn't
pub record IsStep (before after : ℕ) (t : Tree) (p q : Tree × Result Changed Status) : Type 0 where
  pub fault : Bool
  pub cause : IsFault fault before after
  pub is : stored fault t p ≡ q

-- The records that are left of a store that had others, where the tree t became u: if they were those of t they are those of u; and where no change was counted,
-- as by a step that is refused or answered IO, which leaves the tree as it was, they are exactly those that were there.
pub record IsLeft (records : List Kept) (t : Tree) (later : List Kept) (u : Tree) : Type 0 where
  pub stored : IsStored records t → IsStored later u
  pub counted : t.changes ≤ u.changes
  pub same : u.changes ≡ t.changes → later ≡ records

-- what is left of a store that tells its records; one that tells none goes on to tell none
abbrev pub Keeps : Option (List Kept) → Tree → Option (List Kept) → Tree → Type 0
Keeps None t new u = new ≡ None
Keeps (Some records) t new u = (later : List Kept) × (new ≡ Some later) × IsLeft records t later u

-- ---- the record of a node that gets another name

abbrev pub kind_if : Bool → NodeKind
kind_if true = node_kind.File
kind_if false = node_kind.Directory

abbrev pub kind_found : Option Node → NodeKind
kind_found None = node_kind.Directory
kind_found (Some n) = kind_of n.body

abbrev pub id_found : Option Node → ℕ
id_found None = 0
id_found (Some n) = n.id

-- What a tree's state stands for, and what holds of it.
use Rattle.std.specs.Prelude.{◌≡◌, ℕ}
use Rattle.file_tree.specs.declared.state.TreeState.{TreeState}
use Rattle.tree_reading.specs.Tree.{Tree, contents_size}
use Rattle.file_tree.specs.View.{IsWithinLimits}

abbrev pub state_of : TreeState → Tree
state_of s = record { nodes = s.nodes.nodes; next = s.nodes.next; changes = s.changes }

pub record IsState (s : TreeState) : Type 0 where
  pub limits : IsWithinLimits s.nodes s.changes
  -- the bytes are counted, and not added up
  pub counted : s.bytes ≡ contents_size s.nodes.nodes

-- a tree, and for how many nodes more there is room
pub record TreeView : Type 0 where
  pub tree : Tree
  pub room : ℕ

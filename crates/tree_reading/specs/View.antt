-- What contracts see of nodes that are lent, and of the bounds of a tree.
use Rattle.std.specs.Prelude.{ℕ, List, Option, Result, Ok, Err, ◌<◌, ◌≤◌, ◌^◌, length}
use Rattle.std.specs.List.{AllByRecursion}
use Rattle.std.specs.Borrow.{Bor}
use Rattle.xdr_codec.specs.declared.status.Status.{Status}
use Rattle.std.specs.Option.{option_copied}
use Rattle.tree_nodes.specs.declared.node.Node.{Node}
use Rattle.tree_nodes.specs.View.{NodesState}
use Rattle.tree_reading.specs.Tree.{file_most, Tree, content_of}

-- a node that is lent, as the node that it is
abbrev pub lent : Result (Bor Node) Status → Result Node Status
lent (Ok n) = Ok n.now
lent (Err s) = Err s

abbrev pub lent_option : Result (Option (Bor Node)) Status → Result (Option Node) Status
lent_option (Ok o) = Ok (option_copied o)
lent_option (Err s) = Err s

-- bytes that are lent, or chunks
abbrev pub lent_list : {A : Type 0} → Result (Bor (List A)) Status → Result (List A) Status
lent_list (Ok xs) = Ok xs.now
lent_list (Err s) = Err s

-- a tree of these nodes
abbrev pub tree_of : NodesState → ℕ → Tree
tree_of nodes changes = record { nodes = nodes.nodes; next = nodes.next; changes = changes }

-- what holds of each node: its id was given, its version was counted, and its content is no longer than one may be
pub record IsNodeBounded (next changes : ℕ) (n : Node) : Type 0 where
  pub id : n.id < next
  pub version : n.version ≤ changes
  pub content : length (content_of n.body) ≤ file_most

pub record AreBounded (nodes : NodesState) (changes : ℕ) : Type 0 where
  pub next : nodes.next < 2 ^ 64
  pub changes_most : changes < 2 ^ 32
  pub each : AllByRecursion (IsNodeBounded nodes.next changes) nodes.nodes

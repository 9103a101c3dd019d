-- What contracts see of the nodes of a tree.
use Rattle.std.specs.Prelude.{ℕ, List, length}
use Rattle.tree_nodes.specs.declared.node.Node.{Node}
use Rattle.tree_nodes.specs.declared.table.Table.{Table}
use Rattle.tree_nodes.specs.Table.{shown, room_left, IsTable}

pub record NodesState : Type 0 where
  -- the nodes in the order of their directories' ids, and in a directory of their names' bytes
  pub nodes : List Node
  -- no node ever had this id, or a greater one
  pub next : ℕ
  -- for how many nodes more there is room
  pub room : ℕ

abbrev pub nodes_of : Table → List Node
nodes_of t = shown t.slots.items t.order.items

abbrev pub room_of : Table → ℕ
room_of t = room_left t.slots.capacity (length t.slots.items) t.order.room

abbrev pub IsSound : Table → Type 0
IsSound t = IsTable t.slots.items t.order.items t.next

-- Places for nodes, each with its node's directory, and where its name begins, beside it.
use Rattle.std.specs.Prelude.{◌≡◌, ℕ, zero, suc, ◌+◌, ◌*◌, ◌^◌, ◌<◌, List, [], ◌∷◌, get_or, map, Option, Some, None}
use Rattle.std.specs.List.{AllByRecursion}
use Rattle.tree_nodes.specs.declared.key.Key.{Key}
use Rattle.tree_nodes.specs.declared.node.Node.{Node}
use Rattle.tree_nodes.specs.declared.slot.Slot.{Slot}
use Rattle.tree_nodes.specs.Table.{node_in, or_blank}

-- the first so many bytes as a number, the highest first; past the end there are zeros
abbrev pub first_bytes : ℕ → List ℕ → ℕ
first_bytes zero bytes = 0
first_bytes (suc k) [] = 0
first_bytes (suc k) (b ∷ bs) = b * 256 ^ k + first_bytes k bs

-- where a name begins: the number of its first eight bytes
unfoldable pub start_of : List ℕ → ℕ
start_of name = first_bytes 8 name

abbrev pub AreBytes : List ℕ → Type 0
AreBytes bytes = (i : ℕ) → get_or bytes i 0 < 256

abbrev pub key_of : Node → Key
key_of n = record { dir = n.parent; start = start_of n.name }

abbrev pub key_or : Option Key → Key
key_or None = record { dir = 0; start = 0 }
key_or (Some k) = k

-- the node in a place, or a blank one
abbrev pub node_of : Slot → Node
node_of s = or_blank (node_in (Some s))

-- each place's key is that of its node, whose name has bytes
pub record AreKeyed (slots : List Slot) (keys : List Key) : Type 0 where
  pub keyed : keys ≡ map (λ s. key_of (node_of s)) slots
  pub bytes : AllByRecursion (λ s. AreBytes (node_of s).name) slots

-- what contracts see of the places
pub record Places : Type 0 where
  pub items : List Slot
  -- for how many there is room, those that are there with them
  pub capacity : ℕ

-- How nodes are kept: each in a place of its own, by rising ids; and the places in the nodes' order.
use Rattle.std.specs.Prelude.{◌≡◌, ℕ, suc, ◌<◌, List, [], ◌∷◌, map, Option, Some, None, Bool, false, ◌==◌, if◌then◌else◌, nat_lt, min, ◌-◌}
use Rattle.std.specs.List.{find, slice_get, AllByRecursion}
use Rattle.tree_nodes.specs.declared.node.Node.{Node}
use Rattle.tree_nodes.specs.declared.node.Body.TheVariants.{Directory}
use Rattle.tree_nodes.specs.declared.slot.Slot.{Slot}
use Rattle.tree_nodes.specs.declared.slot.Slot.TheVariants.{Gone, Taken}
use Rattle.tree_nodes.specs.Nodes.{with_id, before, AreInOrder}

-- how many of a list's first elements pass a test
abbrev pub front : {X : Type 0} → (X → Bool) → List X → ℕ
front p [] = 0
front p (x ∷ xs) = let later : ℕ = front p xs in if p x then suc later else 0

-- the element, if it passes a test
abbrev pub kept_by : {X : Type 0} → (X → Bool) → Option X → Option X
kept_by q None = None
kept_by q (Some x) = if q x then Some x else None

abbrev pub slot_id : Slot → ℕ
slot_id (Gone id) = id
slot_id (Taken n) = n.id

abbrev pub id_or : Option Slot → ℕ
id_or None = 0
id_or (Some s) = slot_id s

-- what a place has that has no node
abbrev pub blank : Node
blank = record { id = 0; parent = 0; name = []; version = 0; body = Directory }

abbrev pub node_in : Option Slot → Option Node
node_in None = None
node_in (Some (Gone id)) = None
node_in (Some (Taken n)) = Some n

abbrev pub or_blank : Option Node → Node
or_blank None = blank
or_blank (Some n) = n

abbrev pub node_at : List Slot → ℕ → Node
node_at slots place = or_blank (node_in (slice_get slots place))

abbrev pub AreRising : List Slot → Type 0
AreRising [] = Unit {0}
AreRising (s ∷ ss) = AllByRecursion (λ t. slot_id s < slot_id t) ss × AreRising ss

abbrev pub first_from : List Slot → ℕ → ℕ
first_from slots id = front (λ s. nat_lt (slot_id s) id) slots

-- the nodes in their order
abbrev pub shown : List Slot → List ℕ → List Node
shown slots order = map (node_at slots) order

-- the node with the id, among the places
abbrev pub taken_at : List Slot → ℕ → Option Node
taken_at slots id = node_in (find (λ s. slot_id s == id) slots)

-- the place of a name, or where it would be
abbrev pub place_for : List Node → ℕ → List ℕ → ℕ
place_for nodes dir name = front (λ n. before n dir name) nodes

-- whether the node in a place of the order comes before a name
abbrev pub before_at : List Slot → Option ℕ → ℕ → List ℕ → Bool
before_at slots None dir name = false
before_at slots (Some place) dir name = before (node_at slots place) dir name

abbrev pub IsTaken : List Slot → ℕ → Type 0
IsTaken slots place = (n : Node) × (slice_get slots place ≡ Some (Taken n))

-- the place has the node with the id
abbrev pub IsNodeAt : List Slot → ℕ → ℕ → Type 0
IsNodeAt slots place id = (n : Node) × (slice_get slots place ≡ Some (Taken n)) × (n.id ≡ id)

pub record IsTable (slots : List Slot) (order : List ℕ) (next : ℕ) : Type 0 where
  -- ids that were never given are from next on
  pub below : AllByRecursion (λ s. slot_id s < next) slots
  pub rising : AreRising slots
  pub taken : AllByRecursion (IsTaken slots) order
  pub sorted : AreInOrder (shown slots order)
  -- what is found by an id is the same in both
  pub agree : (id : ℕ) → with_id (shown slots order) id ≡ taken_at slots id

-- for how many nodes more there is room: each takes a place, of which there may be fewer than 2^32, and one in the order
abbrev pub room_left : ℕ → ℕ → ℕ → ℕ
room_left slot_room slots order_room = min (min slot_room 4294967295 - slots) order_room

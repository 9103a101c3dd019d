-- Nodes that come all at once, on the way to their places.
use Rattle.std.specs.Prelude.{ℕ, List, [], ◌∷◌, if◌then◌else◌, nat_lt}
use Rattle.tree_nodes.specs.declared.node.Node.{Node}

-- a node under its id
abbrev pub keyed : Node → ℕ × Node
keyed n = (n.id, n)

-- nodes by rising ids, and one more
abbrev pub with_risen : List Node → Node → List Node
with_risen [] n = n ∷ []
with_risen (m ∷ ms) n = let later : List Node = with_risen ms n in if nat_lt m.id n.id then m ∷ later else n ∷ m ∷ ms

-- and several more
abbrev pub risen_with : List Node → List Node → List Node
risen_with ms [] = ms
risen_with ms (n ∷ ns) = risen_with (with_risen ms n) ns

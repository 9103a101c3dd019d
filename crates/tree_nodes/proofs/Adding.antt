-- A node added to a table.
use Rattle.std.proofs.Common.{◌≡◌, ℕ, ◌+◌, ◌≤◌, List, [], ◌∷◌, ◌++◌, length, set, None, sym, ap, ◌∙◌, subst}
use Rattle.std.specs.List.{insert}
use Rattle.tree_nodes.specs.declared.node.Node.{Node}
use Rattle.tree_nodes.specs.declared.slot.Slot.{Slot}
use Rattle.tree_nodes.specs.declared.slot.Slot.TheVariants.{Gone, Taken}
use Rattle.tree_nodes.specs.Nodes.{named, with_node}
use Rattle.tree_nodes.specs.Table.{shown, place_for, IsTable}
use Rattle.tree_nodes.proofs.Changes.{shown_more, table_more, shown_put, table_put, get_end}

abbrev more : List Slot → ℕ → List Slot
more slots id = slots ++ Gone id ∷ []

-- what a table has with a place more and a node in it
pub added : (slots slots' slots'' : List Slot) (order order' : List ℕ) (next : ℕ) (n : Node) → IsTable slots order next → next ≤ n.id → slots' ≡ slots ++ Gone n.id ∷ [] → slots'' ≡ set slots' (length slots) (Taken n) → order' ≡ insert order (place_for (shown slots' order) n.parent n.name) (length slots) → shown slots'' order' ≡ with_node (shown slots order) n
added slots slots' slots'' order order' next n t from more_is put_is order_is =
    let wide = table_more slots order next n.id t from in
    let same = shown_more slots order next n.id t in
    subst (λ z. shown z order' ≡ with_node (shown slots order) n) (sym put_is) (subst (λ z. shown (set slots' (length slots) (Taken n)) z ≡ with_node (shown slots order) n) (sym order_is) (subst (λ z. shown (set z (length slots) (Taken n)) (insert order (place_for (shown z order) n.parent n.name) (length slots)) ≡ with_node (shown slots order) n) (sym more_is) (shown_put (more slots n.id) order (n.id + 1) (length slots) n wide (get_end slots (Gone n.id)) ∙ ap (λ ns. with_node ns n) same)))

pub added_sound : (slots slots' slots'' : List Slot) (order order' : List ℕ) (next : ℕ) (n : Node) → IsTable slots order next → next ≤ n.id → named (shown slots order) n.parent n.name ≡ None → slots' ≡ slots ++ Gone n.id ∷ [] → slots'' ≡ set slots' (length slots) (Taken n) → order' ≡ insert order (place_for (shown slots' order) n.parent n.name) (length slots) → IsTable slots'' order' (n.id + 1)
added_sound slots slots' slots'' order order' next n t from fresh more_is put_is order_is =
    let wide = table_more slots order next n.id t from in
    let same = shown_more slots order next n.id t in
    subst (λ z. IsTable z order' (n.id + 1)) (sym put_is) (subst (λ z. IsTable (set slots' (length slots) (Taken n)) z (n.id + 1)) (sym order_is) (subst (λ z. IsTable (set z (length slots) (Taken n)) (insert order (place_for (shown z order) n.parent n.name) (length slots)) (n.id + 1)) (sym more_is) (table_put (more slots n.id) order (n.id + 1) (length slots) n wide (get_end slots (Gone n.id)) (ap (λ ns. named ns n.parent n.name) same ∙ fresh))))

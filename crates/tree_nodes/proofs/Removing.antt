-- A node taken out of a table, and put in again under another name.
use Rattle.std.proofs.Common.{◌≡◌, ℕ, ◌<◌, List, [], ◌∷◌, zero, suc, length, set, Some, None, Bool, true, false, not, cond, if◌then◌else◌, ◌==◌, refl, sym, ap, ◌∙◌, subst, arith}
use Rattle.std.specs.List.{slice_get, insert, remove, AllByRecursion}
use Rattle.tree_nodes.specs.declared.node.Node.{Node}
use Rattle.tree_nodes.specs.declared.slot.Slot.{Slot}
use Rattle.tree_nodes.specs.declared.slot.Slot.TheVariants.{Gone, Taken}
use Rattle.tree_nodes.specs.Nodes.{named, with_node, without, AreInOrder}
use Rattle.tree_nodes.specs.Table.{shown, node_at, node_in, or_blank, place_for, IsTable}
use Rattle.tree_nodes.proofs.Changes.{shown_less, table_less, shown_put, table_put, get_same, self_test}
use Rattle.tree_nodes.proofs.Fronts.{some_is}
use Rattle.tree_nodes.proofs.lemmas.Order.{is_named, found, named_not_before}
use Rattle.tree_nodes.proofs.lemmas.Lists.{find_first}

pub less : (slots slots' : List Slot) (order order' : List ℕ) (next i k : ℕ) (n : Node) → IsTable slots order next → slice_get order i ≡ Some k → slice_get slots k ≡ Some (Taken n) → slots' ≡ set slots k (Gone n.id) → order' ≡ remove order i → shown slots' order' ≡ without (shown slots order) n.id
less slots slots' order order' next i k n t at is slots_are order_is = subst (λ z. shown z order' ≡ without (shown slots order) n.id) (sym slots_are) (subst (λ z. shown (set slots k (Gone n.id)) z ≡ without (shown slots order) n.id) (sym order_is) (shown_less slots order next i k n t at is))

pub less_sound : (slots slots' : List Slot) (order order' : List ℕ) (next i k : ℕ) (n : Node) → IsTable slots order next → slice_get order i ≡ Some k → slice_get slots k ≡ Some (Taken n) → slots' ≡ set slots k (Gone n.id) → order' ≡ remove order i → IsTable slots' order' next
less_sound slots slots' order order' next i k n t at is slots_are order_is = subst (λ z. IsTable z order' next) (sym slots_are) (subst (λ z. IsTable (set slots k (Gone n.id)) z next) (sym order_is) (table_less slots order next i k n t at is))

pub get_gone : (slots slots' : List Slot) (k : ℕ) (n : Node) → slice_get slots k ≡ Some (Taken n) → slots' ≡ set slots k (Gone n.id) → slice_get slots' k ≡ Some (Gone n.id)
get_gone slots slots' k n is slots_are = ap (λ z. slice_get z k) slots_are ∙ get_same slots k (Taken n) (Gone n.id) is

pub put_again : (slots slots' : List Slot) (order order' : List ℕ) (next k : ℕ) (n : Node) → IsTable slots order next → slice_get slots k ≡ Some (Gone n.id) → slots' ≡ set slots k (Taken n) → order' ≡ insert order (place_for (shown slots order) n.parent n.name) k → shown slots' order' ≡ with_node (shown slots order) n
put_again slots slots' order order' next k n t is slots_are order_is = subst (λ z. shown z order' ≡ with_node (shown slots order) n) (sym slots_are) (subst (λ z. shown (set slots k (Taken n)) z ≡ with_node (shown slots order) n) (sym order_is) (shown_put slots order next k n t is))

pub put_again_sound : (slots slots' : List Slot) (order order' : List ℕ) (next k : ℕ) (n : Node) → IsTable slots order next → slice_get slots k ≡ Some (Gone n.id) → named (shown slots order) n.parent n.name ≡ None → slots' ≡ set slots k (Taken n) → order' ≡ insert order (place_for (shown slots order) n.parent n.name) k → IsTable slots' order' next
put_again_sound slots slots' order order' next k n t is fresh slots_are order_is = subst (λ z. IsTable z order' next) (sym slots_are) (subst (λ z. IsTable (set slots k (Taken n)) z next) (sym order_is) (table_put slots order next k n t is fresh))

-- ---- what is found on the way

pub shown_get : (slots : List Slot) (order : List ℕ) (i k : ℕ) (n m : Node) → slice_get order i ≡ Some k → slice_get slots k ≡ Some (Taken n) → slice_get (shown slots order) i ≡ Some m → n ≡ m
shown_get slots [] i k n m at is there = absurd cc
shown_get slots (x ∷ xs) zero k n m at is there = sym (ap (λ o. or_blank (node_in o)) is) ∙ ap (node_at slots) (sym (some_is x k at)) ∙ some_is (node_at slots x) m there
shown_get slots (x ∷ xs) (suc i) k n m at is there = shown_get slots xs i k n m at is there

pub named_without : (ns : List Node) (gone dir : ℕ) (name : List ℕ) → named ns dir name ≡ None → named (without ns gone) dir name ≡ None
named_without [] gone dir name fresh = refl
named_without (m ∷ ms) gone dir name fresh =
    let parts = find_first (is_named dir name) m ms fresh in
    without_if (not (m.id == gone)) parts.0 (named_without ms gone dir name parts.1)
  where
    without_if : (b : Bool) → is_named dir name m ≡ false → named (without ms gone) dir name ≡ None → named (cond b (m ∷ without ms gone) (without ms gone)) dir name ≡ None
    without_if true first later = rw first later
    without_if false first later = later

length_set : (xs : List Slot) (k : ℕ) (y : Slot) → length (set xs k y) ≡ length xs
length_set [] k y = refl
length_set (x ∷ xs) zero y = refl
length_set (x ∷ xs) (suc k) y = ap (λ n. suc n) (length_set xs k y)

get_within : (xs : List Slot) (k : ℕ) (x : Slot) → slice_get xs k ≡ Some x → k < length xs
get_within [] k x at = absurd cc
get_within (z ∷ zs) zero x at = omega arith
get_within (z ∷ zs) (suc k) x at = omega (arith, get_within zs k x at)

pub still_within : (slots slots' : List Slot) (k : ℕ) (n : Node) → slice_get slots k ≡ Some (Taken n) → slots' ≡ set slots k (Gone n.id) → k < length slots'
still_within slots slots' k n is slots_are = get_within slots' k (Gone n.id) (get_gone slots slots' k n is slots_are)

-- ---- a name stands once

named_none : (ns : List Node) (dir : ℕ) (name : List ℕ) → AllByRecursion (λ m. is_named dir name m ≡ false) ns → named ns dir name ≡ None
named_none [] dir name all = refl
named_none (m ∷ ms) dir name all = rw all.0 (named_none ms dir name all.1)

once_if : (k m : Node) (ks : List Node) (dir : ℕ) (name : List ℕ) (b : Bool) → is_named dir name k ≡ b → AreInOrder (k ∷ ks) → (if b then Some k else named ks dir name) ≡ Some m → (named ks dir name ≡ Some m → named (without ks m.id) dir name ≡ None) → named (cond (not (k.id == m.id)) (k ∷ without ks m.id) (without ks m.id)) dir name ≡ None
once_if k m ks dir name true is sorted same later =
    let parts = found dir name (k ∷ ks) sorted in
    let rest : named (without ks m.id) dir name ≡ None = named_without ks m.id dir name (named_none ks dir name (parts.1 (named_not_before k dir name is))) in
    let mine : (k.id == m.id) ≡ true = subst (λ (j : Node). (k.id == j.id) ≡ true) (some_is k m same) (self_test k.id) in
    rw mine rest
once_if k m ks dir name false is sorted same later = other_if (k.id == m.id) (later same)
  where
    other_if : (b : Bool) → named (without ks m.id) dir name ≡ None → named (cond (not b) (k ∷ without ks m.id) (without ks m.id)) dir name ≡ None
    other_if true none = none
    other_if false none = rw is none

pub named_once : (ns : List Node) (dir : ℕ) (name : List ℕ) (m : Node) → AreInOrder ns → named ns dir name ≡ Some m → named (without ns m.id) dir name ≡ None
named_once [] dir name m sorted at = refl
named_once (k ∷ ks) dir name m sorted at = once_if k m ks dir name (is_named dir name k) refl sorted at (named_once ks dir name m sorted.1)

-- A node changed in its place.
use Rattle.std.proofs.Common.{◌≡◌, ℕ, zero, suc, List, [], ◌∷◌, set, Some, None, Option, IsSome, is_some, Bool, true, false, ◌==◌, if◌then◌else◌, refl, sym, ap, ◌∙◌, subst, arith}
use mathlib.Core.Bool.{true≢false, false≢true}
use Rattle.std.specs.List.{slice_get}
use Rattle.std.proofs.lemmas.Bool.Decides.{nat_tests}
use Rattle.tree_nodes.specs.declared.node.Node.{Node}
use Rattle.tree_nodes.specs.declared.slot.Slot.{Slot}
use Rattle.tree_nodes.specs.declared.slot.Slot.TheVariants.{Gone, Taken}
use Rattle.tree_nodes.specs.Nodes.{with_id, changed, versioned}
use Rattle.tree_nodes.proofs.lemmas.Lists.{find_first}
use Rattle.tree_nodes.specs.Table.{shown, slot_id, node_in, kept_by, taken_at, first_from, AreRising, IsTable, IsNodeAt}
use Rattle.tree_nodes.proofs.Finds.{id_found}
use Rattle.tree_nodes.proofs.Changes.{shown_changed, table_changed}

some_node : (o : Option Node) → IsSome o → (n : Node) × (o ≡ Some n)
some_node None is = absurd (false≢true is)
some_node (Some n) is = (n, refl)

kept_some : (o : Option Node) (id : ℕ) (n : Node) → kept_by (λ (m : Node). m.id == id) o ≡ Some n → (o ≡ Some n) × (n.id ≡ id)
kept_some None id n e = absurd cc
kept_some (Some m) id n e = some_if (m.id == id) refl e
  where
    some_if : (b : Bool) → (m.id == id) ≡ b → (if b then Some m else None) ≡ Some n → (Some m ≡ Some n) × (n.id ≡ id)
    some_if true is same = (same, subst (λ (o : Option Node). id_of o ≡ id) same (grind (arith, nat_tests, is)))
      where
        id_of : Option Node → ℕ
        id_of None = 0
        id_of (Some k) = k.id
    some_if false is same = absurd cc

in_slot : (o : Option Slot) (n : Node) → node_in o ≡ Some n → o ≡ Some (Taken n)
in_slot None n e = absurd cc
in_slot (Some (Gone g)) n e = absurd cc
in_slot (Some (Taken m)) n e = ap (λ o. Some (Taken (or_this o))) e
  where
    or_this : Option Node → Node
    or_this None = m
    or_this (Some k) = k

pub place_is : (slots : List Slot) (id : ℕ) → AreRising slots → IsSome (taken_at slots id) → IsNodeAt slots (first_from slots id) id
place_is slots id rising there =
    let found = some_node (taken_at slots id) there in
    let kept = kept_some (node_in (slice_get slots (first_from slots id))) id found.0 (id_found slots id rising ∙ found.1) in
    (found.0, in_slot (slice_get slots (first_from slots id)) found.0 kept.0, kept.1)

set_twice : (xs : List Slot) (k : ℕ) (x y : Slot) → set (set xs k x) k y ≡ set xs k y
set_twice [] k x y = refl
set_twice (z ∷ zs) zero x y = refl
set_twice (z ∷ zs) (suc k) x y = ap (λ l. z ∷ l) (set_twice zs k x y)

module _ (f : Node → Node) (same : (n : Node) → ((f n).id ≡ n.id) × ((f n).parent ≡ n.parent) × ((f n).name ≡ n.name)) (slots slots' slots'' : List Slot) (order : List ℕ) (next k id : ℕ) (n : Node) (t : IsTable slots order next) (is : slice_get slots k ≡ Some (Taken n)) (has : n.id ≡ id) (out : slots' ≡ set slots k (Gone n.id)) (again : slots'' ≡ set slots' k (Taken (f n))) where
  set_is : slots'' ≡ set slots k (Taken (f n))
  set_is = again ∙ ap (λ z. set z k (Taken (f n))) out ∙ set_twice slots k (Gone n.id) (Taken (f n))

  pub renewed : shown slots'' order ≡ changed (shown slots order) id f
  renewed = ap (λ z. shown z order) set_is ∙ shown_changed f slots k n t.rising is order t.taken ∙ ap (λ i. changed (shown slots order) i f) has

  pub renewed_sound : IsTable slots'' order next
  renewed_sound = subst (λ z. IsTable z order next) (sym set_is) (table_changed f same slots order next k n t is)

pub has_id : (slots : List Slot) (place id : ℕ) (n : Node) → IsNodeAt slots place id → slice_get slots place ≡ Some (Taken n) → n.id ≡ id
has_id slots place id n there is = ap id_in (sym is ∙ there.1) ∙ there.2
  where
    id_in : Option Slot → ℕ
    id_in None = 0
    id_in (Some s) = slot_id s

-- where there is none, nothing changes
changed_same : (f : Node → Node) (ns : List Node) (id : ℕ) → with_id ns id ≡ None → changed ns id f ≡ ns
changed_same f [] id none = refl
changed_same f (m ∷ ms) id none =
    let parts = find_first (λ k. k.id == id) m ms none in
    rw parts.0 (ap (λ z. m ∷ z) (changed_same f ms id parts.1))

none_by : (o : Option Node) → is_some o ≡ false → o ≡ None
none_by None e = refl
none_by (Some n) e = absurd (true≢false e)

pub changed_none : (slots : List Slot) (order : List ℕ) (next id version : ℕ) → IsTable slots order next → is_some (taken_at slots id) ≡ false → shown slots order ≡ versioned (shown slots order) id version
changed_none slots order next id version t none = sym (changed_same (λ n. record n { version = version }) (shown slots order) id (t.agree id ∙ none_by (taken_at slots id) none))

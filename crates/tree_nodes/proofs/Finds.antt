-- What is found in a table.
use Rattle.std.proofs.Common.{◌≡◌, ℕ, zero, suc, ◌<◌, ◌≤◌, List, [], ◌∷◌, length, Option, Some, None, IsSome, Bool, true, false, ◌==◌, refl, sym, ap, ◌∙◌, arith, nat_lt, if◌then◌else◌}
use mathlib.Core.Bool.{false≢true}
use Rattle.std.specs.List.{slice_get}
use Rattle.std.proofs.lemmas.Bool.Decides.{nat_tests}
use Rattle.tree_nodes.specs.declared.node.Node.{Node}
use Rattle.tree_nodes.specs.declared.slot.Slot.{Slot}
use Rattle.tree_nodes.specs.declared.slot.Slot.TheVariants.{Gone, Taken}
use Rattle.tree_nodes.specs.Nodes.{before, named, AreInOrder}
use Rattle.tree_nodes.specs.Table.{kept_by, slot_id, node_in, node_at, before_at, shown, place_for, first_from, taken_at, AreRising}
use Rattle.tree_nodes.proofs.Fronts.{IsFoundAt, found_at, front_le, front_not, front_yes, all_map}
use Rattle.tree_nodes.proofs.lemmas.Order.{is_named, found, parted}

-- ---- by id

id_found_at : (id : ℕ) (slots : List Slot) → AreRising slots → IsFoundAt (λ s. nat_lt (slot_id s) id) (λ s. slot_id s == id) slots
id_found_at id [] rising = tt
id_found_at id (s ∷ ss) rising = (λ below. grind (arith, nat_tests, below), λ above. all_map (λ t. slot_id s < slot_id t) (λ t. (slot_id t == id) ≡ false) (λ t less. grind (arith, nat_tests, less, above)) ss rising.0, id_found_at id ss rising.1)

kept_if : (b : Bool) (n : Node) → (if b then Some n else None) ≡ node_in (if b then Some (Taken n) else None)
kept_if true n = refl
kept_if false n = refl

gone_if : (b : Bool) (id : ℕ) → None ≡ node_in (if b then Some (Gone id) else None)
gone_if true id = refl
gone_if false id = refl

kept_in : (id : ℕ) (o : Option Slot) → kept_by (λ (n : Node). n.id == id) (node_in o) ≡ node_in (kept_by (λ s. slot_id s == id) o)
kept_in id None = refl
kept_in id (Some (Gone g)) = gone_if (g == id) g
kept_in id (Some (Taken n)) = kept_if (n.id == id) n

pub id_found : (slots : List Slot) (id : ℕ) → AreRising slots → kept_by (λ (n : Node). n.id == id) (node_in (slice_get slots (first_from slots id))) ≡ taken_at slots id
id_found slots id rising = kept_in id (slice_get slots (first_from slots id)) ∙ ap node_in (sym (found_at (λ s. nat_lt (slot_id s) id) (λ s. slot_id s == id) slots (id_found_at id slots rising)))

-- ---- by name

pub name_found : (slots : List Slot) (order : List ℕ) (dir : ℕ) (name : List ℕ) → AreInOrder (shown slots order) → kept_by (is_named dir name) (slice_get (shown slots order) (place_for (shown slots order) dir name)) ≡ named (shown slots order) dir name
name_found slots order dir name sorted = sym (found_at (λ n. before n dir name) (is_named dir name) (shown slots order) (found dir name (shown slots order) sorted))

-- a place of the order shows its node
shown_at : (slots : List Slot) (order : List ℕ) (i : ℕ) → i < length order → (n : Node) × (slice_get (shown slots order) i ≡ Some n) × ((dir : ℕ) (name : List ℕ) → before_at slots (slice_get order i) dir name ≡ before n dir name)
shown_at slots [] i within = absurd (omega (arith, within))
shown_at slots (k ∷ ks) zero within = (node_at slots k, refl, λ dir name. refl)
shown_at slots (k ∷ ks) (suc i) within = shown_at slots ks i (omega (arith, within))

pub order_past : (slots : List Slot) (order : List ℕ) (dir : ℕ) (name : List ℕ) (place : ℕ) → AreInOrder (shown slots order) → place < length order → before_at slots (slice_get order place) dir name ≡ true → place < place_for (shown slots order) dir name
order_past slots order dir name place sorted within first =
    let at = shown_at slots order place within in
    front_yes (λ n. before n dir name) (shown slots order) place at.0 (parted dir name (shown slots order) sorted) at.1 (sym (at.2 dir name) ∙ first)

pub order_stays : (slots : List Slot) (order : List ℕ) (dir : ℕ) (name : List ℕ) (place : ℕ) → place < length order → before_at slots (slice_get order place) dir name ≡ false → place_for (shown slots order) dir name ≤ place
order_stays slots order dir name place within fails =
    let at = shown_at slots order place within in
    front_not (λ n. before n dir name) (shown slots order) place at.0 at.1 (sym (at.2 dir name) ∙ fails)

length_shown : (slots : List Slot) (order : List ℕ) → length (shown slots order) ≤ length order
length_shown slots [] = omega arith
length_shown slots (k ∷ ks) = omega (arith, length_shown slots ks)

pub order_end : (slots : List Slot) (order : List ℕ) (dir : ℕ) (name : List ℕ) → place_for (shown slots order) dir name ≤ length order
order_end slots order dir name = omega (arith, front_le (λ n. before n dir name) (shown slots order), length_shown slots order)

-- a name that is there

some_of : (o : Option Node) → IsSome o → (n : Node) × (o ≡ Some n)
some_of None is = absurd (false≢true is)
some_of (Some n) is = (n, refl)

kept_is : (q : Node → Bool) (o : Option Node) (n : Node) → kept_by q o ≡ Some n → o ≡ Some n
kept_is q None n e = absurd cc
kept_is q (Some m) n e = is_if (q m) e
  where
    is_if : (b : Bool) → (if b then Some m else None) ≡ Some n → Some m ≡ Some n
    is_if true same = same
    is_if false same = absurd cc

shown_within : (slots : List Slot) (order : List ℕ) (i : ℕ) (n : Node) → slice_get (shown slots order) i ≡ Some n → i < length order
shown_within slots [] i n at = absurd cc
shown_within slots (k ∷ ks) zero n at = omega arith
shown_within slots (k ∷ ks) (suc i) n at = omega (arith, shown_within slots ks i n at)

pub named_there : (slots : List Slot) (order : List ℕ) (dir : ℕ) (name : List ℕ) (place : ℕ) → AreInOrder (shown slots order) → IsSome (named (shown slots order) dir name) → place ≡ place_for (shown slots order) dir name → (named (shown slots order) dir name ≡ slice_get (shown slots order) place) × (place < length order)
named_there slots order dir name place sorted there is =
    let found = some_of (named (shown slots order) dir name) there in
    let at : slice_get (shown slots order) place ≡ Some found.0 = ap (λ i. slice_get (shown slots order) i) is ∙ kept_is (is_named dir name) (slice_get (shown slots order) (place_for (shown slots order) dir name)) found.0 (name_found slots order dir name sorted ∙ found.1) in
    (found.1 ∙ sym at, shown_within slots order place found.0 at)

-- what `place_for` goes by
pub ruleset by_place_for = (order_past, order_stays, order_end)

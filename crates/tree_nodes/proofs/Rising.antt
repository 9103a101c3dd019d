-- Places by rising ids.
use Rattle.std.proofs.Common.{◌≡◌, ℕ, zero, suc, ◌<◌, ◌≤◌, List, [], ◌∷◌, length, Some, true, false, refl, sym, ap, ◌∙◌, subst, arith, nat_lt}
use Rattle.std.specs.List.{slice_get, AllByRecursion}
use Rattle.std.proofs.lemmas.Bool.Decides.{nat_tests}
use Rattle.tree_nodes.specs.declared.slot.Slot.{Slot}
use Rattle.tree_nodes.specs.Table.{slot_id, id_or, AreRising, first_from}
use Rattle.tree_nodes.proofs.Fronts.{IsParted, front_le, front_not, front_yes, all_map, all_at, some_is}

parted_if : (id : ℕ) (s : Slot) (ss : List Slot) → AllByRecursion (λ t. slot_id s < slot_id t) ss → nat_lt (slot_id s) id ≡ false → AllByRecursion (λ t. nat_lt (slot_id t) id ≡ false) ss
parted_if id s ss all fails = all_map (λ t. slot_id s < slot_id t) (λ t. nat_lt (slot_id t) id ≡ false) (λ t less. grind (arith, nat_tests, less, fails)) ss all

pub parted : (id : ℕ) (slots : List Slot) → AreRising slots → IsParted (λ s. nat_lt (slot_id s) id) slots
parted id [] rising = tt
parted id (s ∷ ss) rising = (parted_if id s ss rising.0, parted id ss rising.1)

pub from_high : (slots : List Slot) (id : ℕ) → first_from slots id ≤ length slots
from_high slots id = front_le (λ s. nat_lt (slot_id s) id) slots

-- a place whose id is below is before the first whose id isn't, and one whose isn't is not
get_some : (slots : List Slot) (i : ℕ) → i < length slots → (s : Slot) × (slice_get slots i ≡ Some s)
get_some [] i within = absurd (omega (arith, within))
get_some (s ∷ ss) zero within = (s, refl)
get_some (s ∷ ss) (suc i) within = get_some ss i (omega (arith, within))

pub goes_past : (slots : List Slot) (id place : ℕ) → AreRising slots → place < length slots → id_or (slice_get slots place) < id → place < first_from slots id
goes_past slots id place rising within below =
    let got : (s : Slot) × (slice_get slots place ≡ Some s) = get_some slots place within in
    front_yes (λ s. nat_lt (slot_id s) id) slots place got.0 (parted id slots rising) got.1 (lt_true (slot_id got.0) id (subst (λ o. id_or o < id) got.1 below))
  where
    lt_true : (a b : ℕ) → a < b → nat_lt a b ≡ true
    lt_true a b less = grind (arith, nat_tests, less)

pub stays : (slots : List Slot) (id place : ℕ) → place < length slots → id ≤ id_or (slice_get slots place) → first_from slots id ≤ place
stays slots id place within above =
    let got : (s : Slot) × (slice_get slots place ≡ Some s) = get_some slots place within in
    front_not (λ s. nat_lt (slot_id s) id) slots place got.0 got.1 (lt_false (slot_id got.0) id (subst (λ o. id ≤ id_or o) got.1 above))
  where
    lt_false : (a b : ℕ) → b ≤ a → nat_lt a b ≡ false
    lt_false a b le = grind (arith, nat_tests, le)

-- the place of an id that is there
rises : (slots : List Slot) (i : ℕ) (s t : Slot) → AreRising slots → slice_get slots i ≡ Some s → slice_get slots (suc i) ≡ Some t → slot_id s < slot_id t
rises [] i s t rising at next = absurd cc
rises (x ∷ xs) zero s t rising at next = subst (λ z. slot_id z < slot_id t) (some_is x s at) (all_at (λ y. slot_id x < slot_id y) xs 0 t rising.0 next)
rises (x ∷ xs) (suc i) s t rising at next = rises xs i s t rising.1 at next

pub stands_at : (slots : List Slot) (id place : ℕ) → AreRising slots → place < length slots → id_or (slice_get slots place) ≡ id → place ≡ first_from slots id
stands_at slots id zero rising within is = omega (arith, stays slots id 0 within (omega (arith, is)))
stands_at slots id (suc q) rising within is =
    let earlier : q < length slots = omega (arith, within) in
    let one : (s : Slot) × (slice_get slots q ≡ Some s) = get_some slots q earlier in
    let next : (t : Slot) × (slice_get slots (suc q) ≡ Some t) = get_some slots (suc q) within in
    let less : slot_id one.0 < slot_id next.0 = rises slots q one.0 next.0 rising one.1 next.1 in
    let same : slot_id next.0 ≡ id = sym (ap id_or next.1) ∙ is in
    let first : slot_id one.0 < id = omega (arith, less, same) in
    let below : id_or (slice_get slots q) < id = subst (λ o. id_or o < id) (sym one.1) first in
    omega (arith, stays slots id (suc q) within (omega (arith, is)), goes_past slots id q rising earlier below)

-- what `searched` goes by
pub ruleset by_searched = (from_high, goes_past, stays)

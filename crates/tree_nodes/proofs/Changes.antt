-- Tables with a place more, and with a node put in, taken out or changed.
use Rattle.std.proofs.Common.{◌≡◌, ℕ, zero, suc, ◌+◌, ◌<◌, ◌≤◌, List, [], ◌∷◌, ◌++◌, length, set, Some, None, Bool, true, false, not, ◌==◌, ◌⊎◌, inl, inr, refl, sym, ap, ◌∙◌, subst, arith, if◌then◌else◌, cond}
use mathlib.Core.Bool.{true≢false}
use Rattle.std.specs.List.{slice_get, find, insert, remove, AllByRecursion}
use Rattle.std.specs.Option.{option_map}
use Rattle.std.proofs.lemmas.Bool.Decides.{nat_tests}
use Rattle.tree_nodes.specs.declared.node.Node.{Node}
use Rattle.tree_nodes.specs.declared.slot.Slot.{Slot}
use Rattle.tree_nodes.specs.declared.slot.Slot.TheVariants.{Gone, Taken}
use Rattle.tree_nodes.specs.Nodes.{before, named, with_id, with_node, without, changed, AreInOrder}
use Rattle.tree_nodes.specs.Table.{slot_id, node_in, or_blank, node_at, AreRising, shown, taken_at, place_for, IsTaken, IsTable}
use Rattle.tree_nodes.proofs.Fronts.{all_map, all_at, some_is}
use Rattle.tree_nodes.proofs.lemmas.Order.{before_itself}
use Rattle.tree_nodes.proofs.lemmas.Lists.{with_at, in_order_with, with_id_with, with_id_without, with_id_changed, in_order_filter, in_order_changed}

-- ---- a slot set

pub get_same : (xs : List Slot) (k : ℕ) (x y : Slot) → slice_get xs k ≡ Some x → slice_get (set xs k y) k ≡ Some y
get_same [] k x y at = absurd cc
get_same (z ∷ zs) zero x y at = refl
get_same (z ∷ zs) (suc k) x y at = get_same zs k x y at

get_other : (xs : List Slot) (k j : ℕ) (y : Slot) → (k ≡ j → ⊥) → slice_get (set xs k y) j ≡ slice_get xs j
get_other [] k j y other = refl
get_other (z ∷ zs) zero zero y other = absurd (other refl)
get_other (z ∷ zs) zero (suc j) y other = refl
get_other (z ∷ zs) (suc k) zero y other = refl
get_other (z ∷ zs) (suc k) (suc j) y other = get_other zs k j y (λ e. other (ap (λ n. suc n) e))

pub all_set : (P : Slot → Type 0) (xs : List Slot) (k : ℕ) (y : Slot) → AllByRecursion P xs → P y → AllByRecursion P (set xs k y)
all_set P [] k y all is = tt
all_set P (x ∷ xs) zero y all is = (is, all.1)
all_set P (x ∷ xs) (suc k) y all is = (all.0, all_set P xs k y all.1 is)

rising_set : (xs : List Slot) (k : ℕ) (x y : Slot) → AreRising xs → slice_get xs k ≡ Some x → slot_id y ≡ slot_id x → AreRising (set xs k y)
rising_set [] k x y rising at same = tt
rising_set (z ∷ zs) zero x y rising at same = (subst (λ i. AllByRecursion (λ t. i < slot_id t) zs) (ap slot_id (some_is z x at) ∙ sym same) rising.0, rising.1)
rising_set (z ∷ zs) (suc k) x y rising at same = (all_set (λ t. slot_id z < slot_id t) zs k y rising.0 (subst (λ i. slot_id z < i) (sym same) (all_at (λ t. slot_id z < slot_id t) zs k x rising.0 at)), rising_set zs k x y rising.1 at same)

-- different places have different ids
ids_differ : (xs : List Slot) (k j : ℕ) (x y : Slot) → AreRising xs → slice_get xs k ≡ Some x → slice_get xs j ≡ Some y → (k ≡ j → ⊥) → (slot_id x ≡ slot_id y → ⊥)
ids_differ [] k j x y rising at there other = absurd cc
ids_differ (z ∷ zs) zero zero x y rising at there other = absurd (other refl)
ids_differ (z ∷ zs) zero (suc j) x y rising at there other = λ same. let less : slot_id z < slot_id y = all_at (λ t. slot_id z < slot_id t) zs j y rising.0 there in omega (arith, less, same, ap slot_id (some_is z x at))
ids_differ (z ∷ zs) (suc k) zero x y rising at there other = λ same. let less : slot_id z < slot_id x = all_at (λ t. slot_id z < slot_id t) zs k x rising.0 at in omega (arith, less, same, ap slot_id (some_is z y there))
ids_differ (z ∷ zs) (suc k) (suc j) x y rising at there other = ids_differ zs k j x y rising.1 at there (λ e. other (ap (λ n. suc n) e))

-- what is found by an id then
found_first : (b : Bool) (x : Slot) (xs : List Slot) (id : ℕ) → (slot_id x == id) ≡ b → find (λ s. slot_id s == id) (x ∷ xs) ≡ (if b then Some x else find (λ s. slot_id s == id) xs)
found_first b x xs id e = rw e refl

taken_set : (xs : List Slot) (k id : ℕ) (x y : Slot) → AreRising xs → slice_get xs k ≡ Some x → slot_id y ≡ slot_id x → taken_at (set xs k y) id ≡ (if slot_id x == id then node_in (Some y) else taken_at xs id)
taken_set [] k id x y rising at same = absurd cc
taken_set (z ∷ zs) zero id x y rising at same = here_if (slot_id x == id) refl
  where
    here_if : (b : Bool) → (slot_id x == id) ≡ b → taken_at (y ∷ zs) id ≡ (if b then node_in (Some y) else taken_at (z ∷ zs) id)
    here_if true e = ap node_in (found_first true y zs id (ap (λ i. i == id) same ∙ e))
    here_if false e = ap node_in (found_first false y zs id (ap (λ i. i == id) same ∙ e)) ∙ sym (ap node_in (found_first false z zs id (ap (λ s. slot_id s == id) (some_is z x at) ∙ e)))
taken_set (z ∷ zs) (suc k) id x y rising at same = there_if (slot_id z == id) (slot_id x == id) refl (taken_set zs k id x y rising.1 at same) (λ a b. grind (arith, nat_tests, a, b, all_at (λ t. slot_id z < slot_id t) zs k x rising.0 at))
  where
    there_if : (b c : Bool) → (slot_id z == id) ≡ b → taken_at (set zs k y) id ≡ (if c then node_in (Some y) else taken_at zs id) → ((slot_id z == id) ≡ true → c ≡ true → ⊥) → taken_at (z ∷ set zs k y) id ≡ (if c then node_in (Some y) else taken_at (z ∷ zs) id)
    there_if true true e later never = absurd (never e refl)
    there_if true false e later never = ap node_in (found_first true z (set zs k y) id e) ∙ sym (ap node_in (found_first true z zs id e))
    there_if false true e later never = ap node_in (found_first false z (set zs k y) id e) ∙ later
    there_if false false e later never = ap node_in (found_first false z (set zs k y) id e) ∙ later ∙ sym (ap node_in (found_first false z zs id e))

-- ---- a place more, at the end, whose node is gone

pub get_end : (xs : List Slot) (y : Slot) → slice_get (xs ++ y ∷ []) (length xs) ≡ Some y
get_end [] y = refl
get_end (x ∷ xs) y = get_end xs y

get_before : (xs : List Slot) (y x : Slot) (k : ℕ) → slice_get xs k ≡ Some x → slice_get (xs ++ y ∷ []) k ≡ Some x
get_before [] y x k at = absurd cc
get_before (z ∷ zs) y x zero at = at
get_before (z ∷ zs) y x (suc k) at = get_before zs y x k at

pub all_end : (P : Slot → Type 0) (xs : List Slot) (y : Slot) → AllByRecursion P xs → P y → AllByRecursion P (xs ++ y ∷ [])
all_end P [] y all is = (is, tt)
all_end P (x ∷ xs) y all is = (all.0, all_end P xs y all.1 is)

rising_end : (xs : List Slot) (y : Slot) → AreRising xs → AllByRecursion (λ t. slot_id t < slot_id y) xs → AreRising (xs ++ y ∷ [])
rising_end [] y rising below = (tt, tt)
rising_end (x ∷ xs) y rising below = (all_end (λ t. slot_id x < slot_id t) xs y rising.0 below.0, rising_end xs y rising.1 below.1)

taken_end : (xs : List Slot) (gone id : ℕ) → taken_at (xs ++ Gone gone ∷ []) id ≡ taken_at xs id
taken_end [] gone id = end_if (gone == id)
  where
    end_if : (b : Bool) → node_in (cond b (Some (Gone gone)) None) ≡ None
    end_if true = refl
    end_if false = refl
taken_end (x ∷ xs) gone id = more_if (slot_id x == id) (taken_end xs gone id)
  where
    more_if : (b : Bool) → taken_at (xs ++ Gone gone ∷ []) id ≡ taken_at xs id → node_in (cond b (Some x) (find (λ s. slot_id s == id) (xs ++ Gone gone ∷ []))) ≡ node_in (cond b (Some x) (find (λ s. slot_id s == id) xs))
    more_if true later = refl
    more_if false later = later

shown_end : (slots : List Slot) (y : Slot) (order : List ℕ) → AllByRecursion (IsTaken slots) order → shown (slots ++ y ∷ []) order ≡ shown slots order
shown_end slots y [] taken = refl
shown_end slots y (k ∷ ks) taken =
    let first : node_at (slots ++ y ∷ []) k ≡ node_at slots k = ap (λ o. or_blank (node_in o)) (get_before slots y (Taken taken.0.0) k taken.0.1 ∙ sym taken.0.1) in
    let rest = shown_end slots y ks taken.1 in
    λ i. first i ∷ rest i

pub shown_more : (slots : List Slot) (order : List ℕ) (next gone : ℕ) → IsTable slots order next → shown (slots ++ Gone gone ∷ []) order ≡ shown slots order
shown_more slots order next gone t = shown_end slots (Gone gone) order t.taken

pub table_more : (slots : List Slot) (order : List ℕ) (next gone : ℕ) → IsTable slots order next → next ≤ gone → IsTable (slots ++ Gone gone ∷ []) order (gone + 1)
table_more slots order next gone t from =
    let same = shown_more slots order next gone t in
    record {
      below = all_end (λ s. slot_id s < gone + 1) slots (Gone gone) (all_map (λ s. slot_id s < next) (λ s. slot_id s < gone + 1) (λ s less. omega (arith, less, from)) slots t.below) (omega arith);
      rising = rising_end slots (Gone gone) t.rising (all_map (λ s. slot_id s < next) (λ s. slot_id s < gone) (λ s less. omega (arith, less, from)) slots t.below);
      taken = all_taken order t.taken;
      sorted = subst AreInOrder (sym same) t.sorted;
      agree = λ id. ap (λ nodes. with_id nodes id) same ∙ t.agree id ∙ sym (taken_end slots gone id);
    }
  where
    all_taken : (ks : List ℕ) → AllByRecursion (IsTaken slots) ks → AllByRecursion (IsTaken (slots ++ Gone gone ∷ [])) ks
    all_taken [] all = tt
    all_taken (k ∷ ks) all = ((all.0.0, get_before slots (Gone gone) (Taken all.0.0) k all.0.1), all_taken ks all.1)

-- ---- places that differ from one

-- none of these is the place
abbrev AreOther : ℕ → List ℕ → Type 0
AreOther k ks = AllByRecursion (λ j. k ≡ j → ⊥) ks

abbrev AreApart : List ℕ → Type 0
AreApart [] = Unit {0}
AreApart (k ∷ ks) = AreOther k ks × AreApart ks

all_shown : (P : Node → Type 0) (slots : List Slot) (ks : List ℕ) → AllByRecursion P (shown slots ks) → AllByRecursion (λ j. P (node_at slots j)) ks
all_shown P slots [] all = tt
all_shown P slots (k ∷ ks) all = (all.0, all_shown P slots ks all.1)

all_nats : (P Q : ℕ → Type 0) → ((x : ℕ) → P x → Q x) → (xs : List ℕ) → AllByRecursion P xs → AllByRecursion Q xs
all_nats P Q f [] all = tt
all_nats P Q f (x ∷ xs) all = (f x all.0, all_nats P Q f xs all.1)

-- no place stands twice in the order
apart : (slots : List Slot) (order : List ℕ) → AreInOrder (shown slots order) → AreApart order
apart slots [] sorted = tt
apart slots (k ∷ ks) sorted =
    let n = node_at slots k in
    (all_nats (λ j. before n (node_at slots j).parent (node_at slots j).name ≡ true) (λ j. k ≡ j → ⊥) (λ j first same. true≢false (sym (subst (λ i. before n (node_at slots i).parent (node_at slots i).name ≡ true) (sym same) first) ∙ before_itself n.parent n.name)) ks (all_shown (λ m. before n m.parent m.name ≡ true) slots ks sorted.0), apart slots ks sorted.1)

-- other places show what they did
shown_other : (slots : List Slot) (k : ℕ) (y : Slot) (ks : List ℕ) → AreOther k ks → shown (set slots k y) ks ≡ shown slots ks
shown_other slots k y [] other = refl
shown_other slots k y (j ∷ js) other =
    let first : node_at (set slots k y) j ≡ node_at slots j = ap (λ o. or_blank (node_in o)) (get_other slots k j y other.0) in
    let rest = shown_other slots k y js other.1 in
    λ i. first i ∷ rest i

-- and their nodes have other ids
id_other : (slots : List Slot) (k j : ℕ) (x : Slot) → AreRising slots → slice_get slots k ≡ Some x → IsTaken slots j → (k ≡ j → ⊥) → ((node_at slots j).id == slot_id x) ≡ false
id_other slots k j x rising at taken other =
    let differ : slot_id x ≡ taken.0.id → ⊥ = ids_differ slots k j x (Taken taken.0) rising at taken.1 other in
    ap (λ o. (or_blank (node_in o)).id == slot_id x) taken.1 ∙ apart_test (slot_id x) taken.0.id differ
  where
    apart_test : (a b : ℕ) → (a ≡ b → ⊥) → (b == a) ≡ false
    apart_test a b differ = grind (arith, nat_tests, differ)

kept_all : (slots : List Slot) (k : ℕ) (x : Slot) (ks : List ℕ) → AreRising slots → slice_get slots k ≡ Some x → AllByRecursion (IsTaken slots) ks → AreOther k ks → without (shown slots ks) (slot_id x) ≡ shown slots ks
kept_all slots k x [] rising at taken other = refl
kept_all slots k x (j ∷ js) rising at taken other = rw (id_other slots k j x rising at taken.0 other.0) (ap (λ z. node_at slots j ∷ z) (kept_all slots k x js rising at taken.1 other.1))

taken_other : (slots : List Slot) (k : ℕ) (y : Slot) (ks : List ℕ) → AllByRecursion (IsTaken slots) ks → AreOther k ks → AllByRecursion (IsTaken (set slots k y)) ks
taken_other slots k y [] taken other = tt
taken_other slots k y (j ∷ js) taken other = ((taken.0.0, get_other slots k j y other.0 ∙ taken.0.1), taken_other slots k y js taken.1 other.1)

-- ---- a node taken out

there : (ks : List ℕ) (P : ℕ → Type 0) (i k : ℕ) → AllByRecursion P ks → slice_get ks i ≡ Some k → P k
there [] P i k all at = absurd cc
there (x ∷ xs) P zero k all at = subst P (some_is x k at) all.0
there (x ∷ xs) P (suc i) k all at = there xs P i k all.1 at

pub self_test : (a : ℕ) → (a == a) ≡ true
self_test a = grind (arith, nat_tests)

removed_other : (ks : List ℕ) (i k : ℕ) → AreApart ks → slice_get ks i ≡ Some k → AreOther k (remove ks i)
removed_other [] i k apart at = absurd cc
removed_other (x ∷ xs) zero k apart at = there (x ∷ []) (λ j. AreOther j xs) zero k (apart.0, tt) at
removed_other (x ∷ xs) (suc i) k apart at = (λ same. there xs (λ j. x ≡ j → ⊥) i k apart.0 at (sym same), removed_other xs i k apart.1 at)

shown_out : (slots : List Slot) (order : List ℕ) (i k : ℕ) (n : Node) → AreRising slots → AllByRecursion (IsTaken slots) order → AreApart order → slice_get order i ≡ Some k → slice_get slots k ≡ Some (Taken n) → without (shown slots order) n.id ≡ shown slots (remove order i)
shown_out slots [] i k n rising taken apart at is = absurd cc
shown_out slots (x ∷ xs) zero k n rising taken apart at is =
    let at_x : slice_get slots x ≡ Some (Taken n) = there (x ∷ []) (λ j. slice_get slots j ≡ Some (Taken n)) zero x (there (k ∷ []) (λ j. slice_get slots j ≡ Some (Taken n)) zero x (is, tt) (sym at), tt) refl in
    let mine : ((node_at slots x).id == n.id) ≡ true = ap (λ o. (or_blank (node_in o)).id == n.id) at_x ∙ self_test n.id in
    rw mine (kept_all slots x (Taken n) xs rising at_x taken.1 apart.0)
shown_out slots (x ∷ xs) (suc i) k n rising taken apart at is =
    let other : k ≡ x → ⊥ = λ same. there xs (λ j. x ≡ j → ⊥) i k apart.0 at (sym same) in
    rw (id_other slots k x (Taken n) rising is taken.0 other) (ap (λ z. node_at slots x ∷ z) (shown_out slots xs i k n rising taken.1 apart.1 at is))

taken_removed : (P : ℕ → Type 0) (ks : List ℕ) (i : ℕ) → AllByRecursion P ks → AllByRecursion P (remove ks i)
taken_removed P [] zero all = tt
taken_removed P [] (suc i) all = tt
taken_removed P (x ∷ xs) zero all = all.1
taken_removed P (x ∷ xs) (suc i) all = (all.0, taken_removed P xs i all.1)

pub shown_less : (slots : List Slot) (order : List ℕ) (next i k : ℕ) (n : Node) → IsTable slots order next → slice_get order i ≡ Some k → slice_get slots k ≡ Some (Taken n) → shown (set slots k (Gone n.id)) (remove order i) ≡ without (shown slots order) n.id
shown_less slots order next i k n t at is =
    let far = apart slots order t.sorted in
    shown_other slots k (Gone n.id) (remove order i) (removed_other order i k far at) ∙ sym (shown_out slots order i k n t.rising t.taken far at is)

pub table_less : (slots : List Slot) (order : List ℕ) (next i k : ℕ) (n : Node) → IsTable slots order next → slice_get order i ≡ Some k → slice_get slots k ≡ Some (Taken n) → IsTable (set slots k (Gone n.id)) (remove order i) next
table_less slots order next i k n t at is =
    let same = shown_less slots order next i k n t at is in
    record {
      below = all_set (λ s. slot_id s < next) slots k (Gone n.id) t.below (all_at (λ s. slot_id s < next) slots k (Taken n) t.below is);
      rising = rising_set slots k (Taken n) (Gone n.id) t.rising is refl;
      taken = taken_other slots k (Gone n.id) (remove order i) (taken_removed (IsTaken slots) order i t.taken) (removed_other order i k (apart slots order t.sorted) at);
      sorted = subst AreInOrder (sym same) (in_order_filter (λ m. not (m.id == n.id)) (shown slots order) t.sorted);
      agree = λ id. ap (λ nodes. with_id nodes id) same ∙ with_id_without (shown slots order) n.id id ∙ ap (λ o. if n.id == id then None else o) (t.agree id) ∙ sym (taken_set slots k id (Taken n) (Gone n.id) t.rising is refl);
    }

-- ---- a node put into a place whose node is gone

gone_other : (slots : List Slot) (k gone : ℕ) (ks : List ℕ) → slice_get slots k ≡ Some (Gone gone) → AllByRecursion (IsTaken slots) ks → AreOther k ks
gone_other slots k gone [] at taken = tt
gone_other slots k gone (j ∷ js) at taken = (λ same. clash (sym at ∙ ap (λ i. slice_get slots i) same ∙ taken.0.1), gone_other slots k gone js at taken.1)
  where
    clash : {n : Node} → Some (Gone gone) ≡ Some (Taken n) → ⊥
    clash e = absurd cc

shown_insert : (slots : List Slot) (k : ℕ) (order : List ℕ) (i : ℕ) → shown slots (insert order i k) ≡ insert (shown slots order) i (node_at slots k)
shown_insert slots k [] zero = refl
shown_insert slots k [] (suc i) = refl
shown_insert slots k (x ∷ xs) zero = refl
shown_insert slots k (x ∷ xs) (suc i) = ap (λ z. node_at slots x ∷ z) (shown_insert slots k xs i)

taken_insert : (P : ℕ → Type 0) (k : ℕ) (order : List ℕ) (i : ℕ) → AllByRecursion P order → P k → AllByRecursion P (insert order i k)
taken_insert P k [] zero all is = (is, tt)
taken_insert P k [] (suc i) all is = (is, tt)
taken_insert P k (x ∷ xs) zero all is = (is, all)
taken_insert P k (x ∷ xs) (suc i) all is = (all.0, taken_insert P k xs i all.1 is)

taken_here : (xs : List Slot) (k : ℕ) (x : Slot) → AreRising xs → slice_get xs k ≡ Some x → taken_at xs (slot_id x) ≡ node_in (Some x)
taken_here [] k x rising at = absurd cc
taken_here (z ∷ zs) zero x rising at = ap node_in (found_first true z zs (slot_id x) (ap (λ s. slot_id s == slot_id x) (some_is z x at) ∙ self_test (slot_id x)) ∙ at)
taken_here (z ∷ zs) (suc k) x rising at = ap node_in (found_first false z zs (slot_id x) (less_test (slot_id z) (slot_id x) (all_at (λ t. slot_id z < slot_id t) zs k x rising.0 at))) ∙ taken_here zs k x rising.1 at
  where
    less_test : (a b : ℕ) → a < b → (a == b) ≡ false
    less_test a b less = grind (arith, nat_tests, less)

pub shown_put : (slots : List Slot) (order : List ℕ) (next k : ℕ) (n : Node) → IsTable slots order next → slice_get slots k ≡ Some (Gone n.id) → shown (set slots k (Taken n)) (insert order (place_for (shown slots order) n.parent n.name) k) ≡ with_node (shown slots order) n
shown_put slots order next k n t is =
    let place = place_for (shown slots order) n.parent n.name in
    let here : node_at (set slots k (Taken n)) k ≡ n = ap (λ o. or_blank (node_in o)) (get_same slots k (Gone n.id) (Taken n) is) in
    let others = shown_other slots k (Taken n) order (gone_other slots k n.id order is t.taken) in
    shown_insert (set slots k (Taken n)) k order place ∙ ap (λ m. insert (shown (set slots k (Taken n)) order) place m) here ∙ ap (λ ms. insert ms place n) others ∙ sym (with_at (shown slots order) n)

pub table_put : (slots : List Slot) (order : List ℕ) (next k : ℕ) (n : Node) → IsTable slots order next → slice_get slots k ≡ Some (Gone n.id) → named (shown slots order) n.parent n.name ≡ None → IsTable (set slots k (Taken n)) (insert order (place_for (shown slots order) n.parent n.name) k) next
table_put slots order next k n t is fresh =
    let same = shown_put slots order next k n t is in
    record {
      below = all_set (λ s. slot_id s < next) slots k (Taken n) t.below (all_at (λ s. slot_id s < next) slots k (Gone n.id) t.below is);
      rising = rising_set slots k (Gone n.id) (Taken n) t.rising is refl;
      taken = taken_insert (IsTaken (set slots k (Taken n))) k order (place_for (shown slots order) n.parent n.name) (taken_other slots k (Taken n) order t.taken (gone_other slots k n.id order is t.taken)) (n, get_same slots k (Gone n.id) (Taken n) is);
      sorted = subst AreInOrder (sym same) (in_order_with (shown slots order) n t.sorted fresh);
      agree = λ id. ap (λ nodes. with_id nodes id) same ∙ with_id_with (shown slots order) n id (t.agree n.id ∙ taken_here slots k (Gone n.id) t.rising is) ∙ ap (λ o. if n.id == id then Some n else o) (t.agree id) ∙ sym (taken_set slots k id (Gone n.id) (Taken n) t.rising is refl);
    }

-- ---- a node changed in its place

same_or_not : (k j : ℕ) → (k ≡ j) ⊎ (k ≡ j → ⊥)
same_or_not zero zero = inl refl
same_or_not zero (suc j) = inr (λ e. omega (arith, e))
same_or_not (suc k) zero = inr (λ e. omega (arith, e))
same_or_not (suc k) (suc j) = more (same_or_not k j)
  where
    more : (k ≡ j) ⊎ (k ≡ j → ⊥) → (suc k ≡ suc j) ⊎ (suc k ≡ suc j → ⊥)
    more (inl e) = inl (ap (λ n. suc n) e)
    more (inr f) = inr (λ e. f (omega (arith, e)))

module _ (f : Node → Node) (slots : List Slot) (k : ℕ) (n : Node) (rising : AreRising slots) (is : slice_get slots k ≡ Some (Taken n)) where
  one_shown : (j : ℕ) → IsTaken slots j → (k ≡ j) ⊎ (k ≡ j → ⊥) → node_at (set slots k (Taken (f n))) j ≡ (if (node_at slots j).id == n.id then f (node_at slots j) else node_at slots j)
  one_shown j taken (inl same) =
      let at_j : slice_get slots j ≡ Some (Taken n) = subst (λ i. slice_get slots i ≡ Some (Taken n)) same is in
      let now : node_at (set slots k (Taken (f n))) j ≡ f n = subst (λ i. node_at (set slots k (Taken (f n))) i ≡ f n) same (ap (λ o. or_blank (node_in o)) (get_same slots k (Taken n) (Taken (f n)) is)) in
      let before_it : node_at slots j ≡ n = ap (λ o. or_blank (node_in o)) at_j in
      now ∙ sym (rw (before_it, self_test n.id) refl)
  one_shown j taken (inr other) = ap (λ o. or_blank (node_in o)) (get_other slots k j (Taken (f n)) other) ∙ sym (rw (id_other slots k j (Taken n) rising is taken other) refl)

  pub shown_changed : (order : List ℕ) → AllByRecursion (IsTaken slots) order → shown (set slots k (Taken (f n))) order ≡ changed (shown slots order) n.id f
  shown_changed [] taken = refl
  shown_changed (j ∷ js) taken =
      let first = one_shown j taken.0 (same_or_not k j) in
      let rest = shown_changed js taken.1 in
      λ i. first i ∷ rest i

  taken_still : (order : List ℕ) → AllByRecursion (IsTaken slots) order → AllByRecursion (IsTaken (set slots k (Taken (f n)))) order
  taken_still [] taken = tt
  taken_still (j ∷ js) taken = (still (same_or_not k j), taken_still js taken.1)
    where
      still : (k ≡ j) ⊎ (k ≡ j → ⊥) → IsTaken (set slots k (Taken (f n))) j
      still (inl same) = (f n, subst (λ i. slice_get (set slots k (Taken (f n))) i ≡ Some (Taken (f n))) same (get_same slots k (Taken n) (Taken (f n)) is))
      still (inr other) = (taken.0.0, get_other slots k j (Taken (f n)) other ∙ taken.0.1)

mapped_if : (f : Node → Node) (n : Node) (id : ℕ) (slots : List Slot) → AreRising slots → (b : Bool) → (n.id == id) ≡ b → (b ≡ true → taken_at slots id ≡ Some n) → (if b then option_map f (taken_at slots id) else taken_at slots id) ≡ (if b then Some (f n) else taken_at slots id)
mapped_if f n id slots rising true e is = ap (option_map f) (is refl)
mapped_if f n id slots rising false e is = refl

pub table_changed : (f : Node → Node) → ((n : Node) → ((f n).id ≡ n.id) × ((f n).parent ≡ n.parent) × ((f n).name ≡ n.name)) → (slots : List Slot) (order : List ℕ) (next k : ℕ) (n : Node) → IsTable slots order next → slice_get slots k ≡ Some (Taken n) → IsTable (set slots k (Taken (f n))) order next
table_changed f same slots order next k n t is =
    let now = shown_changed f slots k n t.rising is order t.taken in
    record {
      below = all_set (λ s. slot_id s < next) slots k (Taken (f n)) t.below (subst (λ i. i < next) (sym (same n).0) (all_at (λ s. slot_id s < next) slots k (Taken n) t.below is));
      rising = rising_set slots k (Taken n) (Taken (f n)) t.rising is (same n).0;
      taken = taken_still f slots k n t.rising is order t.taken;
      sorted = subst AreInOrder (sym now) (in_order_changed f (λ m. ((same m).1, (same m).2)) (shown slots order) n.id t.sorted);
      agree = λ id.
          let found : (n.id == id) ≡ true → taken_at slots id ≡ Some n = λ e. subst (λ i. taken_at slots i ≡ Some n) (test_is n.id id e) (taken_here slots k (Taken n) t.rising is) in
          ap (λ nodes. with_id nodes id) now ∙ with_id_changed f (λ m. (same m).0) (shown slots order) n.id id ∙ ap (λ o. if n.id == id then option_map f o else o) (t.agree id) ∙ mapped_if f n id slots t.rising (n.id == id) refl found ∙ sym (taken_set slots k id (Taken n) (Taken (f n)) t.rising is (same n).0);
    }
  where
    test_is : (a b : ℕ) → (a == b) ≡ true → a ≡ b
    test_is a b e = grind (arith, nat_tests, e)

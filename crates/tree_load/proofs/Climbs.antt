-- Going up from the nodes of records.
use Rattle.std.proofs.Common.{◌≡◌, ℕ, zero, suc, ◌+◌, ◌-◌, ◌/◌, ◌%◌, ◌<◌, ◌≤◌, List, [], ◌∷◌, ◌++◌, map, take, get_or, length, append_assoc, Option, Some, None, Bool, true, false, ◌==◌, ◌||◌, refl, sym, ap, ◌∙◌, subst, arith, if◌then◌else◌, nat_le}
use mathlib.Core.Bool.{true≢false}
use Rattle.std.specs.BTreeMap.{BTreeMap, get}
use Rattle.std.specs.List.{slice_get, slice_index, AllByRecursion}
use Rattle.std.specs.Ordering.{nat_cmp}
use Rattle.std.proofs.lemmas.Bool.Decides.{nat_tests}
use Rattle.std.proofs.lemmas.List.{map-append, take_all, take_more}
use Rattle.store.specs.declared.record.Kept.{Kept}
use Rattle.store.specs.declared.record.Kept.TheVariants as kept
use Rattle.store.specs.declared.record.NodeRecord.{NodeRecord}
use Rattle.tree_load.specs.Above.{or_nowhere, spot_by, up_by, ups, walk, AreWalks, StayWithin}
use Rattle.tree_load.specs.Found.{node_found, found_place, AreFirstNodes}
use Rattle.tree_load.specs.Load.{first_node, place_of, is_at, reaches}
use Rattle.tree_load.specs.declared.firsts.Found.{Found}

self_test : (a : ℕ) → (a == a) ≡ true
self_test a = grind (arith, nat_tests)

some_is : {X : Type 0} (a b : X) → Some a ≡ Some b → a ≡ b
some_is {X} a b e = ap or_this e
  where
    or_this : Option X → X
    or_this None = a
    or_this (Some z) = z

-- ---- the steps up

pub place_same : (o : Option (ℕ × NodeRecord)) → found_place (node_found o) ≡ place_of o
place_same None = refl
place_same (Some p) = refl

up_same : (n : ℕ) (f g : ℕ → Option ℕ) → ((id : ℕ) → f id ≡ g id) → (r : Kept) → up_by n f r ≡ up_by n g r
up_same n f g same (kept.Head h) = refl
up_same n f g same (kept.Node m) = ap (λ o. spot_by n m.parent o) (same m.parent)
up_same n f g same (kept.Content c) = refl

map_same : (f g : Kept → ℕ) → ((r : Kept) → f r ≡ g r) → (rs : List Kept) → map f rs ≡ map g rs
map_same f g same [] = refl
map_same f g same (r ∷ rs) = let first = same r in let rest = map_same f g same rs in λ i. first i ∷ rest i

pub ups_are : (all : List Kept) (m : BTreeMap ℕ Found) → AreFirstNodes 0 all m → map (up_by (length all) (λ id. found_place (get nat_cmp m id))) all ++ length all ∷ (length all + 1) ∷ [] ≡ ups all
ups_are all m firsts = ap (λ z. z ++ length all ∷ (length all + 1) ∷ []) (map_same (up_by (length all) (λ id. found_place (get nat_cmp m id))) (up_by (length all) (λ id. place_of (first_node 0 all id))) (up_same (length all) (λ id. found_place (get nat_cmp m id)) (λ id. place_of (first_node 0 all id)) (λ id. ap found_place (firsts id) ∙ place_same (first_node 0 all id))) all)

-- one record more
pub step_more : (f : Kept → ℕ) (rs : List Kept) (k : ℕ) (r : Kept) (steps steps' : List ℕ) → k < length rs → r ≡ get_or rs k r → steps ≡ map f (take k rs) → steps' ≡ steps ++ f r ∷ [] → steps' ≡ map f (take (k + 1) rs)
step_more f rs k r steps steps' within is so with =
    with ∙ ap (λ z. z ++ f r ∷ []) so ∙ sym (map-append f (take k rs) (r ∷ []))
    ∙ ap (λ z. map f z) (sym (take_more rs k r within ∙ ap (λ z. take k rs ++ z ∷ []) (sym is)))

-- all records, then the root and nowhere
pub steps_done : (all : List Kept) (m : BTreeMap ℕ Found) (k count : ℕ) (steps one two : List ℕ) → AreFirstNodes 0 all m → count ≡ length all → length all ≤ k
    → steps ≡ map (up_by count (λ id. found_place (get nat_cmp m id))) (take k all) → one ≡ steps ++ count ∷ [] → two ≡ one ++ (count + 1) ∷ [] → two ≡ ups all
steps_done all m k count steps one two firsts is past so first second =
    second ∙ ap (λ z. z ++ (count + 1) ∷ []) first ∙ append_assoc steps (count ∷ []) ((count + 1) ∷ [])
    ∙ ap (λ z. z ++ count ∷ (count + 1) ∷ []) (so ∙ ap (λ z. map (up_by count (λ id. found_place (get nat_cmp m id))) z) (take_all k all past))
    ∙ ap (λ n. map (up_by n (λ id. found_place (get nat_cmp m id))) all ++ n ∷ (n + 1) ∷ []) is
    ∙ ups_are all m firsts

-- where a first node is
pub record IsFirst (k : ℕ) (rs : List Kept) (id : ℕ) (p : ℕ × NodeRecord) : Type 0 where
  pub at : ℕ
  pub place : p.0 ≡ k + at
  pub there : slice_get rs at ≡ Some (kept.Node p.1)
  pub has : p.1.id ≡ id

later_first : (k : ℕ) (r : Kept) (rs : List Kept) (id : ℕ) (p : ℕ × NodeRecord) → IsFirst (suc k) rs id p → IsFirst k (r ∷ rs) id p
later_first k r rs id p first = record { at = suc first.at; place = omega (arith, first.place); there = first.there; has = first.has }

pub first_is : (k : ℕ) (rs : List Kept) (id : ℕ) (p : ℕ × NodeRecord) → first_node k rs id ≡ Some p → IsFirst k rs id p
first_is k [] id p e = absurd cc
first_is k (kept.Head h ∷ rs) id p e = later_first k (kept.Head h) rs id p (first_is (suc k) rs id p e)
first_is k (kept.Content c ∷ rs) id p e = later_first k (kept.Content c) rs id p (first_is (suc k) rs id p e)
first_is k (kept.Node n ∷ rs) id p e = is_if (n.id == id) refl e (λ later. first_is (suc k) rs id p later)
  where
    is_if : (b : Bool) → (n.id == id) ≡ b → (if b then Some (k, n) else first_node (suc k) rs id) ≡ Some p → (first_node (suc k) rs id ≡ Some p → IsFirst (suc k) rs id p) → IsFirst k (kept.Node n ∷ rs) id p
    is_if true is same later = subst (λ q. IsFirst k (kept.Node n ∷ rs) id q) (some_is (k, n) p same) (record { at = 0; place = omega arith; there = refl; has = grind (arith, nat_tests, is) })
    is_if false is same later = later_first k (kept.Node n) rs id p (later same)

within : (xs : List Kept) (k : ℕ) (x : Kept) → slice_get xs k ≡ Some x → k < length xs
within [] k x at = absurd cc
within (y ∷ ys) zero x at = omega arith
within (y ∷ ys) (suc k) x at = omega (arith, within ys k x at)

pub first_within : (k : ℕ) (rs : List Kept) (id : ℕ) (p : ℕ × NodeRecord) → first_node k rs id ≡ Some p → p.0 < k + length rs
first_within k rs id p e = let first = first_is k rs id p e in omega (arith, first.place, within rs first.at (kept.Node p.1) first.there)

-- ---- all steps stay within

abbrev spot : List Kept → ℕ → ℕ
spot all id = spot_by (length all) id (place_of (first_node 0 all id))

spot_within : (all : List Kept) (id : ℕ) → spot all id < length all + 2
spot_within all id = spot_if (id == 1) (first_node 0 all id) refl
  where
    spot_if : (b : Bool) (o : Option (ℕ × NodeRecord)) → first_node 0 all id ≡ o → (if b then length all else or_nowhere (length all) (place_of o)) < length all + 2
    spot_if true o is = omega arith
    spot_if false None is = omega arith
    spot_if false (Some p) is = let less = first_within 0 all id p is in omega (arith, less)

up_within : (all : List Kept) (r : Kept) → up_by (length all) (λ id. place_of (first_node 0 all id)) r < length all + 2
up_within all (kept.Head h) = omega arith
up_within all (kept.Node n) = spot_within all n.parent
up_within all (kept.Content c) = omega arith

all_ups : (all rs : List Kept) → AllByRecursion (λ p. p < length all + 2) (map (up_by (length all) (λ id. place_of (first_node 0 all id))) rs ++ length all ∷ (length all + 1) ∷ [])
all_ups all [] = (omega arith, (omega arith, tt))
all_ups all (r ∷ rs) = (up_within all r, all_ups all rs)

ups_length : (f : Kept → ℕ) (a b : ℕ) (rs : List Kept) → length (map f rs ++ a ∷ b ∷ []) ≡ length rs + 2
ups_length f a b [] = refl
ups_length f a b (r ∷ rs) = let rest = ups_length f a b rs in omega (arith, rest)

index_all : (n : ℕ) (xs : List ℕ) → AllByRecursion (λ p. p < n) xs → StayWithin xs n
index_all n [] all = λ k less. absurd (omega (arith, less))
index_all n (x ∷ xs) all = λ k. at_place k (index_all n xs all.1)
  where
    at_place : (k : ℕ) → StayWithin xs n → k < length (x ∷ xs) → slice_index (x ∷ xs) k < n
    at_place zero rest less = all.0
    at_place (suc k) rest less = rest k (omega (arith, less))

pub ups_within : (all : List Kept) → StayWithin (ups all) (length (ups all))
ups_within all = subst (λ n. StayWithin (ups all) n) (sym (ups_length (up_by (length all) (λ id. place_of (first_node 0 all id))) (length all) (length all + 1) all)) (index_all (length all + 2) (ups all) (all_ups all all))

pub length_ups : (all : List Kept) → length (ups all) ≡ length all + 2
length_ups all = ups_length (up_by (length all) (λ id. place_of (first_node 0 all id))) (length all) (length all + 1) all

-- ---- what stands at a place

index_map : (f : Kept → ℕ) (a b : ℕ) (rs : List Kept) (k : ℕ) (r : Kept) → slice_get rs k ≡ Some r → slice_index (map f rs ++ a ∷ b ∷ []) k ≡ f r
index_map f a b [] k r at = absurd cc
index_map f a b (x ∷ xs) zero r at = ap f (some_is x r at)
index_map f a b (x ∷ xs) (suc k) r at = index_map f a b xs k r at

index_root : (f : Kept → ℕ) (a b : ℕ) (rs : List Kept) → slice_index (map f rs ++ a ∷ b ∷ []) (length rs) ≡ a
index_root f a b [] = refl
index_root f a b (r ∷ rs) = index_root f a b rs

index_none : (f : Kept → ℕ) (a b : ℕ) (rs : List Kept) → slice_index (map f rs ++ a ∷ b ∷ []) (suc (length rs)) ≡ b
index_none f a b [] = refl
index_none f a b (r ∷ rs) = index_none f a b rs

-- ---- walks

walk_stays : (n : ℕ) (step : List ℕ) (k : ℕ) → slice_index step k ≡ k → walk n step k ≡ k
walk_stays zero step k stays = refl
walk_stays (suc n) step k stays = ap (λ j. walk n step j) stays ∙ walk_stays n step k stays

from_root : (all : List Kept) (n : ℕ) → walk n (ups all) (length all) ≡ length all
from_root all n = walk_stays n (ups all) (length all) (index_root (up_by (length all) (λ id. place_of (first_node 0 all id))) (length all) (length all + 1) all)

from_none : (all : List Kept) (n : ℕ) → walk n (ups all) (length all + 1) ≡ length all + 1
from_none all n =
    let next : length all + 1 ≡ suc (length all) = omega arith in
    walk_stays n (ups all) (length all + 1) (ap (λ k. slice_index (ups all) k) next ∙ index_none (up_by (length all) (λ id. place_of (first_node 0 all id))) (length all) (length all + 1) all)

up_from : (all : List Kept) (id : ℕ) (p : ℕ × NodeRecord) → first_node 0 all id ≡ Some p → slice_index (ups all) p.0 ≡ spot all p.1.parent
up_from all id p e =
    let first = first_is 0 all id p e in
    let place : p.0 ≡ first.at = omega (arith, first.place) in
    ap (λ k. slice_index (ups all) k) place ∙ index_map (up_by (length all) (λ id. place_of (first_node 0 all id))) (length all) (length all + 1) all first.at (kept.Node p.1) first.there

apart_test : (a b : ℕ) → a < b → (a == b) ≡ false
apart_test a b less = grind (arith, nat_tests, less)

past_test : (n : ℕ) → (n + 1 == n) ≡ false
past_test n = grind (arith, nat_tests)

reach : (all : List Kept) (n id : ℕ) → reaches n all id ≡ (walk n (ups all) (spot all id) == length all)
reach all zero id = reach_if (id == 1) (first_node 0 all id) refl
  where
    reach_if : (b : Bool) (o : Option (ℕ × NodeRecord)) → first_node 0 all id ≡ o → b ≡ ((if b then length all else or_nowhere (length all) (place_of o)) == length all)
    reach_if true o is = sym (self_test (length all))
    reach_if false None is = sym (past_test (length all))
    reach_if false (Some p) is = let less : p.0 < length all = omega (arith, first_within 0 all id p is) in sym (apart_test p.0 (length all) less)
reach all (suc n) id = reach_if (id == 1) (first_node 0 all id) refl (λ above. reach all n above)
  where
    reach_if : (b : Bool) (o : Option (ℕ × NodeRecord)) → first_node 0 all id ≡ o → ((above : ℕ) → reaches n all above ≡ (walk n (ups all) (spot all above) == length all)) → (b || elim o as (λ (x : Option (ℕ × NodeRecord)). Bool) [ None ↦ false | Some p ↦ reaches n all p.1.parent ]) ≡ (walk (suc n) (ups all) (if b then length all else or_nowhere (length all) (place_of o)) == length all)
    reach_if true o is up = sym (ap (λ k. k == length all) (from_root all (suc n)) ∙ self_test (length all))
    reach_if false None is up = sym (ap (λ k. k == length all) (from_none all (suc n)) ∙ past_test (length all))
    reach_if false (Some p) is up = up p.1.parent ∙ ap (λ k. walk n (ups all) k == length all) (sym (up_from all id p is))

-- from a node that is the first of its id
pub reach_at : (all : List Kept) (n k id : ℕ) → is_at k (place_of (first_node 0 all id)) ≡ true → nat_le 2 id ≡ true → reaches n all id ≡ (walk n (ups all) k == length all)
reach_at all n k id first above = reach all n id ∙ ap (λ j. walk n (ups all) j == length all) (spot_is (id == 1) refl (place_of (first_node 0 all id)) first)
  where
    spot_is : (b : Bool) → (id == 1) ≡ b → (o : Option ℕ) → is_at k o ≡ true → (if b then length all else or_nowhere (length all) o) ≡ k
    spot_is true is o at = absurd (grind (arith, nat_tests, is, above))
    spot_is false is None at = absurd (true≢false (sym at))
    spot_is false is (Some j) at = grind (arith, nat_tests, at)

-- ---- twice as far by each step

map_length : (f : ℕ → ℕ) (xs : List ℕ) → length (map f xs) ≡ length xs
map_length f [] = refl
map_length f (x ∷ xs) = ap (λ n. suc n) (map_length f xs)

map_index : (f : ℕ → ℕ) (xs : List ℕ) (k : ℕ) → k < length xs → slice_index (map f xs) k ≡ f (slice_index xs k)
map_index f [] k less = absurd (omega (arith, less))
map_index f (x ∷ xs) zero less = refl
map_index f (x ∷ xs) (suc k) less = map_index f xs k (omega (arith, less))

abbrev twice : List ℕ → List ℕ
twice jump = map (λ place. slice_index jump place) jump

walk_twice : (jump : List ℕ) → StayWithin jump (length jump) → (m k : ℕ) → k < length jump → walk m (twice jump) k ≡ walk (m + m) jump k
walk_twice jump stay zero k less = refl
walk_twice jump stay (suc m) k less =
    let two : suc m + suc m ≡ suc (suc (m + m)) = omega arith in
    ap (λ j. walk m (twice jump) j) (map_index (λ place. slice_index jump place) jump k less)
    ∙ walk_twice jump stay m (slice_index jump (slice_index jump k)) (stay (slice_index jump k) (stay k less))
    ∙ ap (λ n. walk n jump k) (sym two)

-- what is left to go, by steps that reach further
pub record IsWalking (count : ℕ) (step at jump : List ℕ) (left : ℕ) : Type 0 where
  pub at_length : length at ≡ length step
  pub jump_length : length jump ≡ length step
  pub at_stays : StayWithin at (length jump)
  pub jump_stays : StayWithin jump (length jump)
  pub each : (k : ℕ) → k < length step → walk left jump (slice_index at k) ≡ walk count step k

pub walking_first : (count : ℕ) (step at : List ℕ) → 0 < count → StayWithin step (length step) → at ≡ step → IsWalking count step at step (count - 1)
walking_first count step at some stay same = subst (λ z. IsWalking count step z step (count - 1)) (sym same) (record {
  at_length = refl;
  jump_length = refl;
  at_stays = stay;
  jump_stays = stay;
  each = λ k less. let next : suc (count - 1) ≡ count = omega (arith, some) in ap (λ n. walk n step k) next;
})

module _ (count : ℕ) (step at jump : List ℕ) (left : ℕ) (walking : IsWalking count step at jump left) where
  jump_more : StayWithin (twice jump) (length (twice jump))
  jump_more = λ k less.
      let len = map_length (λ place. slice_index jump place) jump in
      let small : k < length jump = omega (arith, less, len) in
      let there = walking.jump_stays (slice_index jump k) (walking.jump_stays k small) in
      let is = map_index (λ place. slice_index jump place) jump k small in
      omega (arith, there, is, len)

  pub walking_even : (left % 2 ≡ 1 → ⊥) → IsWalking count step at (twice jump) (left / 2)
  walking_even even = record {
    at_length = walking.at_length;
    jump_length = map_length (λ place. slice_index jump place) jump ∙ walking.jump_length;
    at_stays = subst (λ n. StayWithin at n) (sym (map_length (λ place. slice_index jump place) jump)) walking.at_stays;
    jump_stays = jump_more;
    each = λ k less.
        let small : k < length at = omega (arith, less, walking.at_length) in
        let half : left / 2 + left / 2 ≡ left = omega (arith, even) in
        walk_twice jump walking.jump_stays (left / 2) (slice_index at k) (walking.at_stays k small) ∙ ap (λ n. walk n jump (slice_index at k)) half ∙ walking.each k less;
  }

  pub walking_odd : left % 2 ≡ 1 → IsWalking count step (map (λ place. slice_index jump place) at) (twice jump) (left / 2)
  walking_odd odd = record {
    at_length = map_length (λ place. slice_index jump place) at ∙ walking.at_length;
    jump_length = map_length (λ place. slice_index jump place) jump ∙ walking.jump_length;
    at_stays = λ k less.
        let small : k < length at = omega (arith, less, map_length (λ place. slice_index jump place) at) in
        let there = walking.jump_stays (slice_index at k) (walking.at_stays k small) in
        let is = map_index (λ place. slice_index jump place) at k small in
        let len = map_length (λ place. slice_index jump place) jump in
        omega (arith, there, is, len);
    jump_stays = jump_more;
    each = λ k less.
        let small : k < length at = omega (arith, less, walking.at_length) in
        let on = walking.at_stays k small in
        let half : suc (left / 2 + left / 2) ≡ left = omega (arith, odd) in
        ap (λ j. walk (left / 2) (twice jump) j) (map_index (λ place. slice_index jump place) at k small)
        ∙ walk_twice jump walking.jump_stays (left / 2) (slice_index jump (slice_index at k)) (walking.jump_stays (slice_index at k) on)
        ∙ ap (λ n. walk n jump (slice_index at k)) half ∙ walking.each k less;
  }

-- the half that is left, once the odd step is gone
pub walking_half : (count : ℕ) (step at at' jump jump' : List ℕ) (left : ℕ) → IsWalking count step at jump left → at' ≡ (if left % 2 == 1 then map (λ place. slice_index jump place) at else at) → jump' ≡ twice jump → IsWalking count step at' jump' (left / 2)
walking_half count step at at' jump jump' left walking at_is jump_is =
    subst (λ z. IsWalking count step at' z (left / 2)) (sym jump_is) (subst (λ z. IsWalking count step z (twice jump) (left / 2)) (sym at_is) (by_half (left % 2 == 1) refl))
  where
    by_half : (b : Bool) → (left % 2 == 1) ≡ b → IsWalking count step (if b then map (λ place. slice_index jump place) at else at) (twice jump) (left / 2)
    by_half true is = walking_odd count step at jump left walking (grind (arith, nat_tests, is))
    by_half false is = walking_even count step at jump left walking (λ odd. true≢false (sym (ap (λ n. n == 1) odd) ∙ is))

-- places that stay within, of steps as long
pub steps_within : (all : List Kept) (steps : List ℕ) → steps ≡ ups all → StayWithin steps (length steps)
steps_within all steps are = subst (λ z. StayWithin z (length z)) (sym are) (ups_within all)

pub walking_last : (count : ℕ) (step at jump : List ℕ) (left : ℕ) → IsWalking count step at jump left → left ≡ 0 → AreWalks count step at
walking_last count step at jump left walking none = record {
  len = walking.at_length;
  each = λ k less. ap (λ n. walk n jump (slice_index at k)) (sym none) ∙ walking.each k less;
}

-- what `walks` goes by
pub ruleset by_walks = (walking_first, walking_half, walking_last)

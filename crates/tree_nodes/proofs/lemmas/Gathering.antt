-- Nodes that come all at once.
use Rattle.std.proofs.Common.{◌≡◌, ℕ, suc, ◌+◌, ◌<◌, ◌≤◌, List, [], ◌∷◌, length, map, Option, Some, None, Bool, true, false, ◌==◌, ◌&&◌, refl, sym, ap, ◌∙◌, subst, arith, if◌then◌else◌, nat_lt}
use mathlib.Core.Bool.{true≢false}
use Rattle.std.specs.List.{AllByRecursion}
use Rattle.std.specs.Map.{values_of}
use Rattle.std.specs.BTreeMap.{insert_entry}
use Rattle.std.specs.Ordering.{nat_cmp}
use Rattle.std.specs.Str.{bytes_eq}
use Rattle.std.proofs.lemmas.Slice.Eq.{bytes_eq-Decides}
use Rattle.std.proofs.lemmas.Bool.Decides.{nat_tests}
use Rattle.tree_nodes.specs.declared.node.Node.{Node}
use Rattle.tree_nodes.specs.declared.slot.Slot.{Slot}
use Rattle.tree_nodes.specs.declared.table.Table.{Table}
use Rattle.tree_nodes.specs.Nodes.{before, named, with_id, with_node, with_nodes, Differ, AreApart}
use Rattle.tree_nodes.specs.Risen.{keyed, with_risen, risen_with}
use Rattle.tree_nodes.specs.Table.{slot_id, IsTable}
use Rattle.tree_nodes.specs.View.{nodes_of, room_of, IsSound}
use Rattle.tree_nodes.proofs.Fronts.{all_map}
use Rattle.tree_nodes.proofs.lemmas.Order.{is_named, named_is, not_true, before_trans, before_itself}
use Rattle.tree_nodes.proofs.lemmas.Lists.{all_with, comes_after, with_id_with}

-- ---- nodes that differ

named_itself : (m : Node) → is_named m.parent m.name m ≡ true
named_itself m = let first : (m.parent == m.parent) ≡ true = grind (arith, nat_tests) in let second : bytes_eq m.name m.name ≡ true = (bytes_eq-Decides m.name m.name).1 refl in rw (first, second) refl

pub turned : (m n : Node) → Differ m n → Differ n m
turned m n d = (grind (arith, nat_tests, d.0), not_true (is_named m.parent m.name n) (λ is. true≢false (sym (back is) ∙ d.1)))
  where
    back : is_named m.parent m.name n ≡ true → is_named n.parent n.name m ≡ true
    back is = let same = named_is n m.parent m.name is in subst (λ p. is_named p n.name m ≡ true) (sym same.0) (subst (λ (t : List ℕ). is_named m.parent t m ≡ true) (sym same.1) (named_itself m))

-- each differs from all of the one list, and from those before it in its own
abbrev pub AreNew : List Node → List Node → Type 0
AreNew ms [] = Unit {0}
AreNew ms (n ∷ ns) = AllByRecursion (λ m. Differ m n) ms × AreNew (n ∷ ms) ns

new_beside : (ms ns : List Node) → AllByRecursion (λ n. AllByRecursion (λ m. Differ m n) ms) ns → AreApart ns → AreNew ms ns
new_beside ms [] others apart = tt
new_beside ms (n ∷ ns) others apart = (others.0, new_beside (n ∷ ms) ns (both ns apart.0 others.1) apart.1)
  where
    both : (ks : List Node) → AllByRecursion (Differ n) ks → AllByRecursion (λ k. AllByRecursion (λ m. Differ m k) ms) ks → AllByRecursion (λ k. AllByRecursion (λ m. Differ m k) (n ∷ ms)) ks
    both [] a b = tt
    both (k ∷ ks) a b = ((a.0, b.0), both ks a.1 b.1)

pub new_first : (ns : List Node) → AreApart ns → AreNew [] ns
new_first ns apart = new_beside [] ns (none ns) apart
  where
    none : (ks : List Node) → AllByRecursion (λ k. AllByRecursion (λ m. Differ m k) []) ks
    none [] = tt
    none (k ∷ ks) = (tt, none ks)

-- the one list's order is of no account
pub new_moved : (ms ms' ns : List Node) → ((P : Node → Type 0) → AllByRecursion P ms → AllByRecursion P ms') → AreNew ms ns → AreNew ms' ns
new_moved ms ms' [] f new = tt
new_moved ms ms' (n ∷ ns) f new = (f (λ m. Differ m n) new.0, new_moved (n ∷ ms) (n ∷ ms') ns (λ P all. (all.0, f P all.1)) new.1)

-- those behind differ from one in the list
new_behind : (m : Node) (ms ns : List Node) → AreNew (m ∷ ms) ns → AllByRecursion (λ n. Differ m n) ns
new_behind m ms [] new = tt
new_behind m ms (n ∷ ns) new = (new.0.0, new_behind m (n ∷ ms) ns (new_moved (n ∷ m ∷ ms) (m ∷ n ∷ ms) ns (λ P all. (all.1.0, (all.0, all.1.1))) new.1))

fresh_name : (ms : List Node) (n : Node) → AllByRecursion (λ m. Differ m n) ms → named ms n.parent n.name ≡ None
fresh_name [] n all = refl
fresh_name (m ∷ ms) n all = rw all.0.1 (fresh_name ms n all.1)

none_of : (ms : List Node) (id : ℕ) → AllByRecursion (λ m. (m.id == id) ≡ false) ms → with_id ms id ≡ None
none_of [] id all = refl
none_of (m ∷ ms) id all = rw all.0 (none_of ms id all.1)

fresh_id : (ms : List Node) (n : Node) → AllByRecursion (λ m. Differ m n) ms → with_id ms n.id ≡ None
fresh_id ms n all = none_of ms n.id (all_map (λ m. Differ m n) (λ m. (m.id == n.id) ≡ false) (λ m d. d.0) ms all)

-- ---- by rising ids

pub all_risen : (P : Node → Type 0) (ms : List Node) (n : Node) → AllByRecursion P ms → P n → AllByRecursion P (with_risen ms n)
all_risen P [] n all is = (is, tt)
all_risen P (m ∷ ms) n all is = all_if (nat_lt m.id n.id) (all_risen P ms n all.1 is)
  where
    all_if : (b : Bool) → AllByRecursion P (with_risen ms n) → AllByRecursion P (if b then m ∷ with_risen ms n else n ∷ m ∷ ms)
    all_if true later = (all.0, later)
    all_if false later = (is, all)

pub all_risen_with : (P : Node → Type 0) (ms ns : List Node) → AllByRecursion P ms → AllByRecursion P ns → AllByRecursion P (risen_with ms ns)
all_risen_with P ms [] all more = all
all_risen_with P ms (n ∷ ns) all more = all_risen_with P (with_risen ms n) ns (all_risen P ms n all more.0) more.1

pub new_risen : (ms : List Node) (n : Node) (ns : List Node) → AreNew (n ∷ ms) ns → AreNew (with_risen ms n) ns
new_risen ms n ns new = new_moved (n ∷ ms) (with_risen ms n) ns (λ P all. all_risen P ms n all.1 all.0) new

-- as a map has them
pub keyed_more : (ms : List Node) (n : Node) → AllByRecursion (λ m. Differ m n) ms → insert_entry nat_cmp (map keyed ms) n.id n ≡ map keyed (with_risen ms n)
keyed_more [] n new = refl
keyed_more (m ∷ ms) n new = more_if (nat_lt m.id n.id) refl (keyed_more ms n new.1)
  where
    more_if : (b : Bool) → nat_lt m.id n.id ≡ b → insert_entry nat_cmp (map keyed ms) n.id n ≡ map keyed (with_risen ms n) → insert_entry nat_cmp (map keyed (m ∷ ms)) n.id n ≡ map keyed (if b then m ∷ with_risen ms n else n ∷ m ∷ ms)
    more_if true is later =
        let above : nat_lt n.id m.id ≡ false = grind (arith, nat_tests, is) in
        let other : (n.id == m.id) ≡ false = grind (arith, nat_tests, new.0.0) in
        rw (above, other) (ap (λ es. keyed m ∷ es) later)
    more_if false is later =
        let below : nat_lt n.id m.id ≡ true = grind (arith, nat_tests, is, new.0.0) in
        rw below refl

pub values_keyed : (ms : List Node) → values_of (map keyed ms) ≡ ms
values_keyed [] = refl
values_keyed (m ∷ ms) = ap (λ z. m ∷ z) (values_keyed ms)

-- ---- whatever order they come in, they come to one list

clash : (a b : Node) → before a b.parent b.name ≡ true → before b a.parent a.name ≡ true → ⊥
clash a b first second = true≢false (sym (before_trans a b a.parent a.name first second) ∙ before_itself a.parent a.name)

-- what isn't before the one is behind it, and before what that is before
goes_on : (m a b : Node) → is_named a.parent a.name b ≡ false → before m b.parent b.name ≡ false → before m a.parent a.name ≡ true → before b a.parent a.name ≡ true
goes_on m a b other fails first = by_order (before b a.parent a.name) refl
  where
    by_order : (c : Bool) → before b a.parent a.name ≡ c → c ≡ true
    by_order true is = refl
    by_order false is = absurd (true≢false (sym (before_trans m a b.parent b.name first (comes_after b a is other)) ∙ fails))

pub swapped : (ms : List Node) (a b : Node) → Differ a b → with_node (with_node ms a) b ≡ with_node (with_node ms b) a
swapped [] a b d = by_order (before a b.parent b.name) (before b a.parent a.name) refl refl
  where
    by_order : (r s : Bool) → before a b.parent b.name ≡ r → before b a.parent a.name ≡ s → (if r then a ∷ b ∷ [] else b ∷ a ∷ []) ≡ (if s then b ∷ a ∷ [] else a ∷ b ∷ [])
    by_order true true is also = absurd (clash a b is also)
    by_order true false is also = refl
    by_order false true is also = refl
    by_order false false is also = absurd (true≢false (sym (comes_after a b is d.1) ∙ also))
swapped (m ∷ ms) a b d = by_order (before m a.parent a.name) (before m b.parent b.name) (before a b.parent b.name) (before b a.parent a.name) refl refl refl refl (swapped ms a b d)
  where
    by_order : (p q r s : Bool) → before m a.parent a.name ≡ p → before m b.parent b.name ≡ q → before a b.parent b.name ≡ r → before b a.parent a.name ≡ s → with_node (with_node ms a) b ≡ with_node (with_node ms b) a → with_node (if p then m ∷ with_node ms a else a ∷ m ∷ ms) b ≡ with_node (if q then m ∷ with_node ms b else b ∷ m ∷ ms) a
    by_order true true r s pe qe re se later = rw (pe, qe) (ap (λ z. m ∷ z) later)
    by_order true false r s pe qe re se later = let first : before b a.parent a.name ≡ true = goes_on m a b (turned a b d).1 qe pe in rw (qe, first, pe) refl
    by_order false true r s pe qe re se later = let first : before a b.parent b.name ≡ true = goes_on m b a d.1 pe qe in rw (first, qe, pe) refl
    by_order false false true true pe qe re se later = absurd (clash a b re se)
    by_order false false true false pe qe re se later = rw (re, qe, se) refl
    by_order false false false true pe qe re se later = rw (re, se, pe) refl
    by_order false false false false pe qe re se later = absurd (true≢false (sym (comes_after a b re d.1) ∙ se))

-- one that comes first may come last
comes_last : (ms : List Node) (n : Node) (ns : List Node) → AllByRecursion (Differ n) ns → with_nodes (with_node ms n) ns ≡ with_node (with_nodes ms ns) n
comes_last ms n [] all = refl
comes_last ms n (k ∷ ks) all = ap (λ z. with_nodes z ks) (swapped ms n k all.0) ∙ comes_last (with_node ms k) n ks all.1

risen_last : (ms rs : List Node) (n : Node) → AllByRecursion (λ m. Differ m n) rs → with_nodes ms (with_risen rs n) ≡ with_node (with_nodes ms rs) n
risen_last ms [] n new = refl
risen_last ms (r ∷ rs) n new = last_if (nat_lt r.id n.id) (risen_last (with_node ms r) rs n new.1)
  where
    last_if : (b : Bool) → with_nodes (with_node ms r) (with_risen rs n) ≡ with_node (with_nodes (with_node ms r) rs) n → with_nodes ms (if b then r ∷ with_risen rs n else n ∷ r ∷ rs) ≡ with_node (with_nodes ms (r ∷ rs)) n
    last_if true later = later
    last_if false later = comes_last ms n (r ∷ rs) (all_map (λ m. Differ m n) (Differ n) (λ m d. turned m n d) (r ∷ rs) new)

same_risen_with : (rs ns : List Node) → AreNew rs ns → with_nodes [] (risen_with rs ns) ≡ with_nodes (with_nodes [] rs) ns
same_risen_with rs [] new = refl
same_risen_with rs (n ∷ ns) new = same_risen_with (with_risen rs n) ns (new_risen rs n ns new.1) ∙ ap (λ z. with_nodes z ns) (risen_last [] rs n new.0)

same_risen : (ns : List Node) → AreApart ns → with_nodes [] (risen_with [] ns) ≡ with_nodes [] ns
same_risen ns apart = same_risen_with [] ns (new_first ns apart)

-- ---- what holds of them by rising ids

apart_more : (ms : List Node) (n : Node) → AreApart ms → AllByRecursion (λ m. Differ m n) ms → AreApart (with_risen ms n)
apart_more [] n apart new = (tt, tt)
apart_more (m ∷ ms) n apart new = more_if (nat_lt m.id n.id) (apart_more ms n apart.1 new.1)
  where
    more_if : (b : Bool) → AreApart (with_risen ms n) → AreApart (if b then m ∷ with_risen ms n else n ∷ m ∷ ms)
    more_if true later = (all_risen (Differ m) ms n apart.0 new.0, later)
    more_if false later = (all_map (λ k. Differ k n) (Differ n) (λ k d. turned k n d) (m ∷ ms) new, apart)

apart_with : (ms ns : List Node) → AreApart ms → AreNew ms ns → AreApart (risen_with ms ns)
apart_with ms [] apart new = apart
apart_with ms (n ∷ ns) apart new = apart_with (with_risen ms n) ns (apart_more ms n apart new.0) (new_risen ms n ns new.1)

pub apart_risen : (ns : List Node) → AreApart ns → AreApart (risen_with [] ns)
apart_risen ns apart = apart_with [] ns tt (new_first ns apart)

length_more : (ms : List Node) (n : Node) → length (with_risen ms n) ≡ suc (length ms)
length_more [] n = refl
length_more (m ∷ ms) n = more_if (nat_lt m.id n.id) (length_more ms n)
  where
    more_if : (b : Bool) → length (with_risen ms n) ≡ suc (length ms) → length (if b then m ∷ with_risen ms n else n ∷ m ∷ ms) ≡ suc (suc (length ms))
    more_if true later = ap (λ k. suc k) later
    more_if false later = refl

length_with : (ms ns : List Node) → length (risen_with ms ns) ≡ length ms + length ns
length_with ms [] = omega arith
length_with ms (n ∷ ns) = let more = length_more ms n in let rest = length_with (with_risen ms n) ns in omega (arith, more, rest)

pub length_risen : (ns : List Node) → length (risen_with [] ns) ≡ length ns
length_risen ns = let all = length_with [] ns in omega (arith, all)

abbrev AreIdsRising : List Node → Type 0
AreIdsRising [] = Unit {0}
AreIdsRising (n ∷ ns) = AllByRecursion (λ m. n.id < m.id) ns × AreIdsRising ns

rising_more : (ms : List Node) (n : Node) → AreIdsRising ms → AllByRecursion (λ m. Differ m n) ms → AreIdsRising (with_risen ms n)
rising_more [] n rising new = (tt, tt)
rising_more (m ∷ ms) n rising new = more_if (nat_lt m.id n.id) refl (rising_more ms n rising.1 new.1)
  where
    more_if : (b : Bool) → nat_lt m.id n.id ≡ b → AreIdsRising (with_risen ms n) → AreIdsRising (if b then m ∷ with_risen ms n else n ∷ m ∷ ms)
    more_if true is later = (all_risen (λ k. m.id < k.id) ms n rising.0 (grind (arith, nat_tests, is)), later)
    more_if false is later =
        let first : n.id < m.id = grind (arith, nat_tests, is, new.0.0) in
        ((first, all_map (λ k. m.id < k.id) (λ k. n.id < k.id) (λ k less. omega (arith, less, first)) ms rising.0), rising)

rising_with : (ms ns : List Node) → AreIdsRising ms → AreNew ms ns → AreIdsRising (risen_with ms ns)
rising_with ms [] rising new = rising
rising_with ms (n ∷ ns) rising new = rising_with (with_risen ms n) ns (rising_more ms n rising new.0) (new_risen ms n ns new.1)

-- ---- what is found of them

abbrev or_else : Option Node → Option Node → Option Node
or_else None o = o
or_else (Some n) o = Some n

found_with : (ms ns : List Node) (id : ℕ) → AreNew ms ns → with_id (with_nodes ms ns) id ≡ or_else (with_id ns id) (with_id ms id)
found_with ms [] id new = refl
found_with ms (n ∷ ns) id new =
    found_with (with_node ms n) ns id (new_moved (n ∷ ms) (with_node ms n) ns (λ P all. all_with P ms n all.1 all.0) new.1)
    ∙ ap (λ o. or_else (with_id ns id) o) (with_id_with ms n id (fresh_id ms n new.0))
    ∙ found_if (n.id == id) refl
  where
    found_if : (b : Bool) → (n.id == id) ≡ b → or_else (with_id ns id) (if b then Some n else with_id ms id) ≡ or_else (if b then Some n else with_id ns id) (with_id ms id)
    found_if true is = ap (λ o. or_else o (Some n)) (none_of ns id (all_map (λ k. Differ n k) (λ k. (k.id == id) ≡ false) (λ k d. grind (arith, nat_tests, is, d.0)) ns (new_behind n ms ns new.1)))
    found_if false is = refl

or_none : (o : Option Node) → or_else o None ≡ o
or_none None = refl
or_none (Some n) = refl

pub found_all : (ns : List Node) (id : ℕ) → AreApart ns → with_id (with_nodes [] ns) id ≡ with_id ns id
found_all ns id apart = found_with [] ns id (new_first ns apart) ∙ or_none (with_id ns id)

-- ---- the table

-- what was put in so far, and what is left
pub record AreFilled (nodes : List Node) (next : ℕ) (t : Table) (left : List Node) : Type 0 where
  pub sound : IsSound t
  pub rest : with_nodes (nodes_of t) left ≡ with_nodes [] nodes
  pub new : AreNew (nodes_of t) left
  pub rising : AreIdsRising left
  pub after : AllByRecursion (λ n. t.next ≤ n.id) left
  pub below : AllByRecursion (λ n. n.id < next) left
  pub room : length left ≤ room_of t
  pub last : t.next ≤ next

pub none_filled : (nodes : List Node) (next : ℕ) (t : Table) (left : List Node) → AreApart nodes → AllByRecursion (λ n. n.id < next) nodes → left ≡ risen_with [] nodes → IsSound t → nodes_of t ≡ [] → t.next ≡ 0 → length nodes ≤ room_of t → AreFilled nodes next t left
none_filled nodes next t left apart below are sound none zeroth room =
    let far : AreApart left = subst AreApart (sym are) (apart_risen nodes apart) in
    let many : length left ≡ length nodes = ap (λ (ns : List Node). length ns) are ∙ length_risen nodes in
    record {
      sound = sound;
      rest = ap (λ ns. with_nodes ns left) none ∙ ap (λ ns. with_nodes [] ns) are ∙ same_risen nodes apart;
      new = subst (λ ns. AreNew ns left) (sym none) (new_first left far);
      rising = subst AreIdsRising (sym are) (rising_with [] nodes tt (new_first nodes apart));
      after = all_after left;
      below = subst (λ ns. AllByRecursion (λ n. n.id < next) ns) (sym are) (all_risen_with (λ n. n.id < next) [] nodes tt below);
      room = omega (arith, many, room);
      last = omega (arith, zeroth);
    }
  where
    all_after : (ns : List Node) → AllByRecursion (λ n. t.next ≤ n.id) ns
    all_after [] = tt
    all_after (n ∷ ns) = (omega (arith, zeroth), all_after ns)

pub one_filled : (nodes : List Node) (next : ℕ) (t u : Table) (n : Node) (left : List Node) → AreFilled nodes next t (n ∷ left) → nodes_of u ≡ with_node (nodes_of t) n → IsSound u → u.next ≡ n.id + 1 → room_of t ≤ room_of u + 1 → AreFilled nodes next u left
one_filled nodes next t u n left filled more sound after room =
    let had = filled.room in
    let under = filled.below.0 in
    record {
      sound = sound;
      rest = ap (λ ns. with_nodes ns left) more ∙ filled.rest;
      new = subst (λ ns. AreNew ns left) (sym more) (new_moved (n ∷ nodes_of t) (with_node (nodes_of t) n) left (λ P all. all_with P (nodes_of t) n all.1 all.0) filled.new.1);
      rising = filled.rising.1;
      after = all_map (λ m. n.id < m.id) (λ m. u.next ≤ m.id) (λ m less. omega (arith, less, after)) left filled.rising.0;
      below = filled.below.1;
      room = omega (arith, had, room);
      last = omega (arith, under, after);
    }

pub is_fresh : (nodes : List Node) (next : ℕ) (t : Table) (n : Node) (left : List Node) → AreFilled nodes next t (n ∷ left) → named (nodes_of t) n.parent n.name ≡ None
is_fresh nodes next t n left filled = fresh_name (nodes_of t) n filled.new.0

-- a later id may be the next too
pub still_sound : (t : Table) (next : ℕ) → IsSound t → t.next ≤ next → IsTable t.slots.items t.order.items next
still_sound t next sound last = record {
  below = all_map (λ (s : Slot). slot_id s < t.next) (λ s. slot_id s < next) (λ s less. omega (arith, less, last)) t.slots.items sound.below;
  rising = sound.rising;
  taken = sound.taken;
  sorted = sound.sorted;
  agree = sound.agree;
}

-- ---- under their ids

-- what was put in so far, and what is left
pub record AreUnderIds (nodes : List Node) (es : List (ℕ × Node)) (left : List Node) : Type 0 where
  pub so_far : List Node
  pub are : es ≡ map keyed so_far
  pub rest : risen_with so_far left ≡ risen_with [] nodes
  pub new : AreNew so_far left

pub none_under : (nodes : List Node) → AreApart nodes → AreUnderIds nodes [] nodes
none_under nodes apart = record { so_far = []; are = refl; rest = refl; new = new_first nodes apart }

pub one_under : (nodes : List Node) (es : List (ℕ × Node)) (n : Node) (left : List Node) → AreUnderIds nodes es (n ∷ left) → AreUnderIds nodes (insert_entry nat_cmp es n.id n) left
one_under nodes es n left under = record {
  so_far = with_risen under.so_far n;
  are = ap (λ z. insert_entry nat_cmp z n.id n) under.are ∙ keyed_more under.so_far n under.new.0;
  rest = under.rest;
  new = new_risen under.so_far n left under.new.1;
}

pub all_under : (nodes : List Node) (es : List (ℕ × Node)) → AreUnderIds nodes es [] → es ≡ map keyed (risen_with [] nodes)
all_under nodes es under = under.are ∙ ap (λ z. map keyed z) under.rest

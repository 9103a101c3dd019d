-- Nodes with one more, one less, or one changed.
use Rattle.std.proofs.Common.{◌≡◌, ℕ, suc, List, [], ◌∷◌, Option, Some, None, Bool, true, false, not, ◌==◌, refl, sym, ap, ◌∙◌, arith, if◌then◌else◌, cond}
use mathlib.Core.Bool.{true≢false}
use Rattle.std.specs.List.{find, filter, insert, AllByRecursion}
use Rattle.std.specs.Option.{option_map}
use Rattle.std.specs.Str.{bytes_eq}
use Rattle.std.specs.Ordering.{nat_cmp, is_lt, ordering_then, ordering_reverse}
use Rattle.std.specs.declared.cmp.Ordering.{Ordering}
use Rattle.std.specs.declared.cmp.Ordering.TheVariants.{Less, Equal, Greater}
use Rattle.std.specs.Cmp.Lexicographic.{slice_cmp}
use Rattle.std.specs.FinMap.{nat_cmp-IsAntisymmetric, slice_cmp-IsAntisymmetric}
use Rattle.std.proofs.lemmas.Slice.Eq.{bytes_eq-Decides}
use Rattle.std.proofs.lemmas.Bool.Decides.{nat_tests}
use Rattle.tree_nodes.specs.declared.node.Node.{Node}
use Rattle.tree_nodes.specs.Nodes.{place_cmp, before, named, with_id, with_node, without, changed, AreInOrder}
use Rattle.tree_nodes.specs.Table.{place_for}
use Rattle.tree_nodes.proofs.Fronts.{all_map}
use Rattle.tree_nodes.proofs.lemmas.Order.{is_named, key_total, before_trans}

-- ---- one more

-- it goes where its name would be
pub with_at : (ms : List Node) (n : Node) → with_node ms n ≡ insert ms (place_for ms n.parent n.name) n
with_at [] n = refl
with_at (m ∷ ms) n = at_if (before m n.parent n.name) (with_at ms n)
  where
    at_if : (b : Bool) → with_node ms n ≡ insert ms (place_for ms n.parent n.name) n → (if b then m ∷ with_node ms n else n ∷ m ∷ ms) ≡ insert (m ∷ ms) (if b then suc (place_for ms n.parent n.name) else 0) n
    at_if true later = ap (λ z. m ∷ z) later
    at_if false later = refl

pub all_with : (P : Node → Type 0) (ms : List Node) (n : Node) → AllByRecursion P ms → P n → AllByRecursion P (with_node ms n)
all_with P [] n all is = (is, tt)
all_with P (m ∷ ms) n all is = all_if (before m n.parent n.name) (all_with P ms n all.1 is)
  where
    all_if : (b : Bool) → AllByRecursion P (with_node ms n) → AllByRecursion P (if b then m ∷ with_node ms n else n ∷ m ∷ ms)
    all_if true later = (all.0, later)
    all_if false later = (is, all)

-- of two names one comes before the other, or they are the same
then_equal : (r s : Ordering) → ordering_then r s ≡ Equal → (r ≡ Equal) × (s ≡ Equal)
then_equal Less s e = absurd cc
then_equal Equal s e = (refl, e)
then_equal Greater s e = absurd cc

pub named_if : (m : Node) (dir : ℕ) (name : List ℕ) → place_cmp m.parent m.name dir name ≡ Equal → is_named dir name m ≡ true
named_if m dir name e =
    let parts = then_equal (nat_cmp m.parent dir) (slice_cmp nat_cmp m.name name) e in
    let first : (m.parent == dir) ≡ true = let same : m.parent ≡ dir = nat_cmp-IsAntisymmetric m.parent dir parts.0 in grind (arith, nat_tests, same) in
    let second : bytes_eq m.name name ≡ true = (bytes_eq-Decides m.name name).1 (slice_cmp-IsAntisymmetric nat_cmp-IsAntisymmetric m.name name parts.1) in
    rw (first, second) refl

after_by : (r : Ordering) (m n : Node) → place_cmp m.parent m.name n.parent n.name ≡ r → before m n.parent n.name ≡ false → is_named n.parent n.name m ≡ false → before n m.parent m.name ≡ true
after_by Less m n e fails other = absurd (true≢false (sym (ap is_lt e) ∙ fails))
after_by Equal m n e fails other = absurd (true≢false (sym (named_if m n.parent n.name e) ∙ other))
after_by Greater m n e fails other = ap is_lt (key_total.antisymm (n.parent, n.name) (m.parent, m.name) ∙ ap ordering_reverse e)

pub comes_after : (m n : Node) → before m n.parent n.name ≡ false → is_named n.parent n.name m ≡ false → before n m.parent m.name ≡ true
comes_after m n fails other = after_by (place_cmp m.parent m.name n.parent n.name) m n refl fails other

pub find_first : {X : Type 0} (q : X → Bool) (x : X) (xs : List X) → find q (x ∷ xs) ≡ None → (q x ≡ false) × (find q xs ≡ None)
find_first q x xs e = first_if (q x) refl e
  where
    first_if : (b : Bool) → q x ≡ b → (if b then Some x else find q xs) ≡ None → (q x ≡ false) × (find q xs ≡ None)
    first_if true is none = absurd cc
    first_if false is none = (is, none)

-- the order is kept, where the name is new
pub in_order_with : (ms : List Node) (n : Node) → AreInOrder ms → named ms n.parent n.name ≡ None → AreInOrder (with_node ms n)
in_order_with [] n sorted fresh = (tt, tt)
in_order_with (m ∷ ms) n sorted fresh =
    let new : (is_named n.parent n.name m ≡ false) × (named ms n.parent n.name ≡ None) = find_first (is_named n.parent n.name) m ms fresh in
    order_if (before m n.parent n.name) refl (in_order_with ms n sorted.1 new.1) new.0
  where
    order_if : (b : Bool) → before m n.parent n.name ≡ b → AreInOrder (with_node ms n) → is_named n.parent n.name m ≡ false → AreInOrder (if b then m ∷ with_node ms n else n ∷ m ∷ ms)
    order_if true is later other = (all_with (λ k. before m k.parent k.name ≡ true) ms n sorted.0 is, later)
    order_if false is later other =
        let first : before n m.parent m.name ≡ true = comes_after m n is other in
        ((first, all_map (λ k. before m k.parent k.name ≡ true) (λ k. before n k.parent k.name ≡ true) (λ k next. before_trans n m k.parent k.name first next) ms sorted.0), sorted)

-- what is found by an id then
pub with_id_with : (ms : List Node) (n : Node) (id : ℕ) → with_id ms n.id ≡ None → with_id (with_node ms n) id ≡ (if n.id == id then Some n else with_id ms id)
with_id_with [] n id fresh = refl
with_id_with (m ∷ ms) n id fresh =
    let new : ((m.id == n.id) ≡ false) × (with_id ms n.id ≡ None) = find_first (λ k. k.id == n.id) m ms fresh in
    with_if (before m n.parent n.name) (n.id == id) (m.id == id) (with_id_with ms n id new.1) (λ here there. grind (arith, nat_tests, new.0, here, there)) refl refl
  where
    with_if : (b c d : Bool) → with_id (with_node ms n) id ≡ (if c then Some n else with_id ms id) → ((n.id == id) ≡ true → (m.id == id) ≡ true → ⊥) → (n.id == id) ≡ c → (m.id == id) ≡ d → with_id (if b then m ∷ with_node ms n else n ∷ m ∷ ms) id ≡ (if c then Some n else (if d then Some m else with_id ms id))
    with_if true true true later never is at = absurd (never is at)
    with_if true true false later never is at = rw at later
    with_if true false true later never is at = rw at refl
    with_if true false false later never is at = rw at later
    with_if false true d later never is at = rw is refl
    with_if false false d later never is at = rw (is, at) refl

-- ---- one less

none_if : (b : Bool) (o : Option Node) → o ≡ None → o ≡ (if b then None else None)
none_if true o e = e
none_if false o e = e

pub with_id_without : (ms : List Node) (gone id : ℕ) → with_id (without ms gone) id ≡ (if gone == id then None else with_id ms id)
with_id_without [] gone id = none_if (gone == id) None refl
with_id_without (m ∷ ms) gone id =
    without_if (m.id == gone) (gone == id) (m.id == id) (with_id_without ms gone id) refl (λ a b. grind (arith, nat_tests, a, b)) (λ a b. grind (arith, nat_tests, a, b)) (λ a b d. grind (arith, nat_tests, a, b, d))
  where
    without_if : (b c d : Bool) → with_id (without ms gone) id ≡ (if c then None else with_id ms id) → (m.id == id) ≡ d → (b ≡ true → d ≡ true → c ≡ true) → (b ≡ true → c ≡ true → d ≡ true) → (b ≡ false → d ≡ true → c ≡ true → ⊥) → with_id (cond (not b) (m ∷ without ms gone) (without ms gone)) id ≡ (if c then None else (if d then Some m else with_id ms id))
    without_if true true d later at f g h = later
    without_if true false true later at f g h = absurd (true≢false (sym (f refl refl)))
    without_if true false false later at f g h = later
    without_if false true true later at f g h = absurd (h refl refl refl)
    without_if false true false later at f g h = rw at later
    without_if false false true later at f g h = rw at refl
    without_if false false false later at f g h = rw at later

-- ---- one changed

pub with_id_changed : (f : Node → Node) → ((n : Node) → (f n).id ≡ n.id) → (ms : List Node) (which id : ℕ) → with_id (changed ms which f) id ≡ (if which == id then option_map f (with_id ms id) else with_id ms id)
with_id_changed f same [] which id = none_if (which == id) None refl
with_id_changed f same (m ∷ ms) which id =
    changed_if (m.id == which) (which == id) (m.id == id) (with_id_changed f same ms which id) refl (λ a b. grind (arith, nat_tests, a, b)) (λ a b. grind (arith, nat_tests, a, b)) (λ a b d. grind (arith, nat_tests, a, b, d)) (ap (λ i. i == id) (same m))
  where
    changed_if : (b c d : Bool) → with_id (changed ms which f) id ≡ (if c then option_map f (with_id ms id) else with_id ms id) → (m.id == id) ≡ d → (b ≡ true → d ≡ true → c ≡ true) → (b ≡ true → c ≡ true → d ≡ true) → (b ≡ false → d ≡ true → c ≡ true → ⊥) → ((f m).id == id) ≡ (m.id == id) → with_id ((if b then f m else m) ∷ changed ms which f) id ≡ (if c then option_map f (if d then Some m else with_id ms id) else (if d then Some m else with_id ms id))
    changed_if true true true later at f' g h e = rw (e, at) refl
    changed_if true true false later at f' g h e = absurd (true≢false (sym (g refl refl)))
    changed_if true false true later at f' g h e = absurd (true≢false (sym (f' refl refl)))
    changed_if true false false later at f' g h e = rw (e, at) later
    changed_if false true true later at f' g h e = absurd (h refl refl refl)
    changed_if false true false later at f' g h e = rw at later
    changed_if false false true later at f' g h e = rw at refl
    changed_if false false false later at f' g h e = rw at later

-- the order is kept by what keeps directories and names
pub in_order_changed : (f : Node → Node) → ((n : Node) → ((f n).parent ≡ n.parent) × ((f n).name ≡ n.name)) → (ms : List Node) (which : ℕ) → AreInOrder ms → AreInOrder (changed ms which f)
in_order_changed f same [] which sorted = tt
in_order_changed f same (m ∷ ms) which sorted = (all_changed ms sorted.0, in_order_changed f same ms which sorted.1)
  where
    alike : (n : Node) (b : Bool) → ((if b then f n else n).parent ≡ n.parent) × ((if b then f n else n).name ≡ n.name)
    alike n true = same n
    alike n false = (refl, refl)

    one_alike : (n : Node) → before m n.parent n.name ≡ true → before (if m.id == which then f m else m) (if n.id == which then f n else n).parent (if n.id == which then f n else n).name ≡ true
    one_alike n first =
        let a = alike m (m.id == which) in
        let b = alike n (n.id == which) in
        rw (a.0, a.1, b.0, b.1) first

    all_changed : (ns : List Node) → AllByRecursion (λ n. before m n.parent n.name ≡ true) ns → AllByRecursion (λ n. before (if m.id == which then f m else m) n.parent n.name ≡ true) (changed ns which f)
    all_changed [] all = tt
    all_changed (n ∷ ns) all = (one_alike n all.0, all_changed ns all.1)

-- and by what takes some out
all_filter : (P : Node → Type 0) (q : Node → Bool) (ms : List Node) → AllByRecursion P ms → AllByRecursion P (filter q ms)
all_filter P q [] all = tt
all_filter P q (m ∷ ms) all = filter_if (q m) (all_filter P q ms all.1)
  where
    filter_if : (b : Bool) → AllByRecursion P (filter q ms) → AllByRecursion P (cond b (m ∷ filter q ms) (filter q ms))
    filter_if true later = (all.0, later)
    filter_if false later = later

pub in_order_filter : (q : Node → Bool) (ms : List Node) → AreInOrder ms → AreInOrder (filter q ms)
in_order_filter q [] sorted = tt
in_order_filter q (m ∷ ms) sorted = filter_if (q m) (in_order_filter q ms sorted.1)
  where
    filter_if : (b : Bool) → AreInOrder (filter q ms) → AreInOrder (cond b (m ∷ filter q ms) (filter q ms))
    filter_if true later = (all_filter (λ k. before m k.parent k.name ≡ true) q ms sorted.0, later)
    filter_if false later = later

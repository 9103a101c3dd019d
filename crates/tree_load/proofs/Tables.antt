-- Tables of first records.
use Rattle.std.proofs.Common.{◌≡◌, ℕ, zero, suc, ◌+◌, ◌-◌, ◌<◌, ◌≤◌, List, [], ◌∷◌, length, drop, Option, Some, None, Bool, true, false, ◌==◌, ◌&&◌, refl, sym, ap, ◌∙◌, arith, if◌then◌else◌, cond, nat_lt, get_or}
use mathlib.Core.Bool.{true≢false}
use Rattle.std.specs.Borrow.{Bor}
use Rattle.std.specs.BTreeMap.{BTreeMap, get, is_at, Updates}
use Rattle.std.specs.Cmp.{tied_itself}
use Rattle.std.specs.List.{slice_get}
use Rattle.std.specs.Map.{lookup}
use Rattle.std.specs.Ordering.{nat_cmp, is_eq}
use Rattle.std.specs.Str.{bytes_eq}
use Rattle.std.specs.declared.cmp.Ordering.{Ordering}
use Rattle.std.specs.declared.cmp.Ordering.TheVariants.{Less, Equal, Greater}
use Rattle.std.proofs.lemmas.Bool.Decides.{nat_tests}
use Rattle.std.proofs.lemmas.Option.{slice_get_read}
use Rattle.store.specs.declared.record.Kept.{Kept}
use Rattle.store.specs.declared.record.Kept.TheVariants as kept
use Rattle.tree_nodes.proofs.lemmas.Lists.{named_if}
use Rattle.tree_nodes.proofs.lemmas.Order.{key_total, named_is}
use Rattle.tree_nodes.specs.Nodes.{place_cmp}
use Rattle.tree_nodes.specs.declared.node.Node.{Node}
use Rattle.tree_nodes.specs.declared.node.Body.TheVariants.{Directory}
use Rattle.tree_load.specs.Found.{NameKey, by_name, node_found, AreFirstNodes, AreFirstNames, AreFirstContents, node_over, name_over, content_over, IsNameNoted}
use Rattle.tree_load.specs.Load.{first_node, first_named, first_content, place_of}
use Rattle.tree_load.specs.declared.firsts.Found.{Found}

-- ---- keys that are equal

pub at_id : (a b : ℕ) → is_at (nat_cmp a) b ≡ (a == b)
at_id a b = by_order (nat_lt a b) (a == b) refl refl
  where
    by_order : (p q : Bool) → nat_lt a b ≡ p → (a == b) ≡ q → is_eq (cond p Less (cond q Equal Greater)) ≡ q
    by_order true true l e = absurd (grind (arith, nat_tests, l, e))
    by_order true false l e = refl
    by_order false true l e = refl
    by_order false false l e = refl

pub id_is : (a b : ℕ) → (a == b) ≡ true → a ≡ b
id_is a b is = grind (arith, nat_tests, is)

abbrev a_node : ℕ → List ℕ → Node
a_node dir name = record { id = 0; parent = dir; name = name; version = 0; body = Directory }

at_name : (d : ℕ) (n : List ℕ) (e : ℕ) (m : List ℕ) → is_eq (place_cmp d n e m) ≡ ((d == e) && bytes_eq n m)
at_name d n e m = by_order (place_cmp d n e m) ((d == e) && bytes_eq n m) refl refl
  where
    same : ((d == e) && bytes_eq n m) ≡ true → Equal ≡ place_cmp d n e m
    same is = let both = named_is (a_node d n) e m is in sym (tied_itself key_total (d, n)) ∙ (λ i. place_cmp d n (both.0 i) (both.1 i))

    by_order : (r : Ordering) (b : Bool) → place_cmp d n e m ≡ r → ((d == e) && bytes_eq n m) ≡ b → is_eq r ≡ b
    by_order Less true c is = ap is_eq (sym (same is ∙ c))
    by_order Less false c is = refl
    by_order Equal true c is = refl
    by_order Equal false c is = absurd (true≢false (sym (named_if (a_node d n) e m c) ∙ is))
    by_order Greater true c is = ap is_eq (sym (same is ∙ c))
    by_order Greater false c is = refl

-- ---- a list from a place on

drop_at : (xs : List Kept) (k : ℕ) (x : Kept) → slice_get xs k ≡ Some x → drop k xs ≡ x ∷ drop (suc k) xs
drop_at [] k x at = absurd cc
drop_at (y ∷ ys) zero x at = ap (λ z. z ∷ ys) (ap (or_this y) at)
  where
    or_this : Kept → Option Kept → Kept
    or_this d None = d
    or_this d (Some z) = z
drop_at (y ∷ ys) (suc k) x at = drop_at ys k x at

pub drop_next : (xs : List Kept) (k : ℕ) (x : Kept) → slice_get xs k ≡ Some x → drop k xs ≡ x ∷ drop (k + 1) xs
drop_next xs k x at = let next : k + 1 ≡ suc k = omega arith in drop_at xs k x at ∙ ap (λ j. x ∷ drop j xs) (sym next)

pub drop_past : (xs : List Kept) (k : ℕ) → length xs ≤ k → drop k xs ≡ []
drop_past [] zero past = refl
drop_past [] (suc k) past = refl
drop_past (x ∷ xs) zero past = absurd (omega (arith, past))
drop_past (x ∷ xs) (suc k) past = drop_past xs k (omega (arith, past))

-- ---- one record more, in front

nodes_more : (k : ℕ) (r : Kept) (rs : List Kept) (id : ℕ) → node_found (first_node k (r ∷ rs) id) ≡ node_over k r (node_found (first_node (suc k) rs id)) id
nodes_more k (kept.Head h) rs id = refl
nodes_more k (kept.Content c) rs id = refl
nodes_more k (kept.Node n) rs id = more_if (n.id == id)
  where
    more_if : (b : Bool) → node_found (if b then Some (k, n) else first_node (suc k) rs id) ≡ (if b then Some (record { place = k; kind = n.kind }) else node_found (first_node (suc k) rs id))
    more_if true = refl
    more_if false = refl

names_more : (k : ℕ) (r : Kept) (rs : List Kept) (parent : ℕ) (name : List ℕ) → first_named k (r ∷ rs) parent name ≡ name_over k r (first_named (suc k) rs parent name) parent name
names_more k (kept.Head h) rs parent name = refl
names_more k (kept.Node n) rs parent name = refl
names_more k (kept.Content c) rs parent name = refl

contents_more : (k : ℕ) (r : Kept) (rs : List Kept) (id : ℕ) → place_of (first_content k (r ∷ rs) id) ≡ content_over k r (place_of (first_content (suc k) rs id)) id
contents_more k (kept.Head h) rs id = refl
contents_more k (kept.Node n) rs id = refl
contents_more k (kept.Content c) rs id = more_if (c.id == id)
  where
    more_if : (b : Bool) → place_of (if b then Some (k, c) else first_content (suc k) rs id) ≡ (if b then Some k else place_of (first_content (suc k) rs id))
    more_if true = refl
    more_if false = refl

-- ---- a table that is filled from the last record to the first

back_is : (all : List Kept) (place : ℕ) (r : Kept) → 0 < place → place ≤ length all → r ≡ get_or all (place - 1) r → slice_get all (place - 1) ≡ Some r
back_is all place r some within is = slice_get_read all _ (place - 1) r refl (omega (arith, some, within)) is

back_drop : (all : List Kept) (place : ℕ) (r : Kept) → 0 < place → place ≤ length all → r ≡ get_or all (place - 1) r → drop (place - 1) all ≡ r ∷ drop place all
back_drop all place r some within is = let next : suc (place - 1) ≡ place = omega (arith, some) in drop_at all (place - 1) r (back_is all place r some within is) ∙ ap (λ j. r ∷ drop j all) next

pub nodes_none : (all : List Kept) (m : BTreeMap ℕ Found) → m.entries ≡ [] → AreFirstNodes (length all) (drop (length all) all) m
nodes_none all m none = λ id. ap (λ es. lookup (is_at (nat_cmp id)) es) none ∙ ap (λ rs. node_found (first_node (length all) rs id)) (sym (drop_past all (length all) (omega arith)))

pub nodes_back : (all : List Kept) (place : ℕ) (r : Kept) (m m' : BTreeMap ℕ Found) → 0 < place → place ≤ length all → r ≡ get_or all (place - 1) r → AreFirstNodes place (drop place all) m → ((id : ℕ) → get nat_cmp m' id ≡ node_over (place - 1) r (get nat_cmp m id) id) → AreFirstNodes (place - 1) (drop (place - 1) all) m'
nodes_back all place r m m' some within is firsts noted = λ id.
    let next : place ≡ suc (place - 1) = omega (arith, some) in
    noted id ∙ ap (λ o. node_over (place - 1) r o id) (firsts id ∙ ap (λ k. node_found (first_node k (drop place all) id)) next) ∙ sym (nodes_more (place - 1) r (drop place all) id) ∙ ap (λ rs. node_found (first_node (place - 1) rs id)) (sym (back_drop all place r some within is))

pub contents_none : (all : List Kept) (m : BTreeMap ℕ ℕ) → m.entries ≡ [] → AreFirstContents (length all) (drop (length all) all) m
contents_none all m none = λ id. ap (λ es. lookup (is_at (nat_cmp id)) es) none ∙ ap (λ rs. place_of (first_content (length all) rs id)) (sym (drop_past all (length all) (omega arith)))

pub contents_back : (all : List Kept) (place : ℕ) (r : Kept) (m m' : BTreeMap ℕ ℕ) → 0 < place → place ≤ length all → r ≡ get_or all (place - 1) r → AreFirstContents place (drop place all) m → ((id : ℕ) → get nat_cmp m' id ≡ content_over (place - 1) r (get nat_cmp m id) id) → AreFirstContents (place - 1) (drop (place - 1) all) m'
contents_back all place r m m' some within is firsts noted = λ id.
    let next : place ≡ suc (place - 1) = omega (arith, some) in
    noted id ∙ ap (λ o. content_over (place - 1) r o id) (firsts id ∙ ap (λ k. place_of (first_content k (drop place all) id)) next) ∙ sym (contents_more (place - 1) r (drop place all) id) ∙ ap (λ rs. place_of (first_content (place - 1) rs id)) (sym (back_drop all place r some within is))

pub names_none : (all : List Kept) (m : BTreeMap NameKey ℕ) → m.entries ≡ [] → AreFirstNames (length all) (drop (length all) all) m
names_none all m none = λ key. ap (λ es. lookup (is_at (by_name key)) es) none ∙ ap (λ rs. first_named (length all) rs key.0 key.1.now) (sym (drop_past all (length all) (omega arith)))

pub names_back : (all : List Kept) (place : ℕ) (r : Kept) (m m' : BTreeMap NameKey ℕ) → 0 < place → place ≤ length all → r ≡ get_or all (place - 1) r → AreFirstNames place (drop place all) m → IsNameNoted (place - 1) r m m' → AreFirstNames (place - 1) (drop (place - 1) all) m'
names_back all place r m m' some within is firsts noted = λ key.
    let next : place ≡ suc (place - 1) = omega (arith, some) in
    noted key ∙ ap (λ o. name_over (place - 1) r o key.0 key.1.now) (firsts key ∙ ap (λ k. first_named k (drop place all) key.0 key.1.now) next) ∙ sym (names_more (place - 1) r (drop place all) key.0 key.1.now) ∙ ap (λ rs. first_named (place - 1) rs key.0 key.1.now) (sym (back_drop all place r some within is))

-- a name that is put into the table
pub name_test : (d : ℕ) (n : List ℕ) (q : NameKey) → is_eq (place_cmp d n q.0 q.1.now) ≡ ((d == q.0) && bytes_eq n q.1.now)
name_test d n q = at_name d n q.0 q.1.now

pub put_is : {V : Type 0} (m m' : BTreeMap ℕ V) (k : ℕ) (v : V) → Updates nat_cmp m m' k (Some v) → (q : ℕ) → get nat_cmp m' q ≡ (if k == q then Some v else get nat_cmp m q)
put_is m m' k v updates q = updates.0 q ∙ ap (λ b. if b then Some v else get nat_cmp m q) (at_id k q)

pub name_put : (m m' : BTreeMap NameKey ℕ) (parent : ℕ) (name : Bor (List ℕ)) (place : ℕ) → Updates by_name m m' (parent, name) (Some place) → (q : NameKey) → get by_name m' q ≡ (if (parent == q.0) && bytes_eq name.now q.1.now then Some place else get by_name m q)
name_put m m' parent name place updates q = updates.0 q ∙ ap (λ b. if b then Some place else get by_name m q) (name_test parent name.now q)

-- what `first_places` goes by
pub ruleset by_first_places = (nodes_none, nodes_back, names_none, names_back, contents_none, contents_back)

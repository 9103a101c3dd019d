-- Records taken apart, and joined to nodes.
use Rattle.std.proofs.Common.{◌≡◌, ℕ, List, [], ◌∷◌, ◌++◌, map, Option, Some, None, Bool, true, false, ◌==◌, ◌<◌, length, take, slice_index_or, refl, sym, ap, ◌∙◌, subst, if◌then◌else◌, is_some}
use Rattle.std.proofs.lemmas.List.{ext_get_or}
use Rattle.std.specs.BTreeMap.{BTreeMap, get, Updates}
use Rattle.std.specs.List.{AllByRecursion}
use Rattle.std.specs.Ordering.{nat_cmp}
use Rattle.store.specs.declared.record.ContentRecord.{ContentRecord}
use Rattle.store.specs.declared.record.Kept.{Kept}
use Rattle.store.specs.declared.record.Kept.TheVariants as kept
use Rattle.store.specs.declared.record.NodeRecord.{NodeRecord}
use Rattle.tree_nodes.specs.declared.node.Node.{Node}
use Rattle.tree_load.proofs.Tables.{put_is, id_is}
use Rattle.tree_load.specs.Making.{node_list, stored, content_with, content_at, or_else, node_by, AreIdsApart}
use Rattle.tree_load.specs.declared.making.Stored.{Stored}

append_assoc : {X : Type 0} (xs ys zs : List X) → (xs ++ ys) ++ zs ≡ xs ++ (ys ++ zs)
append_assoc [] ys zs = refl
append_assoc (x ∷ xs) ys zs = ap (λ l. x ∷ l) (append_assoc xs ys zs)

-- ---- a content that is kept

kept_if : (a : Option Stored) (b : Bool) (s : Stored) → (a ≡ None) → (if b then Some s else a) ≡ or_else a (if b then Some s else None)
kept_if None true s e = refl
kept_if None false s e = refl
kept_if (Some t) b s e = absurd cc

some_first : (a b : Option Stored) → is_some a ≡ true → a ≡ or_else a b
some_first None b e = absurd cc
some_first (Some s) b e = refl

none_else : (a : Option Stored) → a ≡ or_else a None
none_else None = refl
none_else (Some s) = refl

is_none : (a : Option Stored) → is_some a ≡ false → a ≡ None
is_none None e = refl
is_none (Some s) e = absurd cc

-- one more, of an id that has none
pub kept_new : (m m' : BTreeMap ℕ Stored) (c : ContentRecord) (s : Stored) → s ≡ stored c → is_some (get nat_cmp m c.id) ≡ false → Updates nat_cmp m m' c.id (Some s) → (id : ℕ) → get nat_cmp m' id ≡ or_else (get nat_cmp m id) (content_at (kept.Content c) id)
kept_new m m' c s same none updates id = put_is m m' c.id s updates id ∙ ap (λ z. if c.id == id then Some z else get nat_cmp m id) same ∙ by_id (c.id == id) refl
  where
    by_id : (b : Bool) → (c.id == id) ≡ b → (if b then Some (stored c) else get nat_cmp m id) ≡ or_else (get nat_cmp m id) (if b then Some (stored c) else None)
    by_id true is = kept_if (get nat_cmp m id) true (stored c) (subst (λ i. get nat_cmp m i ≡ None) (id_is c.id id is) (is_none (get nat_cmp m c.id) none))
    by_id false is = none_else (get nat_cmp m id)

-- one more, of an id that has one
pub kept_old : (m : BTreeMap ℕ Stored) (c : ContentRecord) → is_some (get nat_cmp m c.id) ≡ true → (id : ℕ) → get nat_cmp m id ≡ or_else (get nat_cmp m id) (content_at (kept.Content c) id)
kept_old m c some id = by_id (c.id == id) refl
  where
    by_id : (b : Bool) → (c.id == id) ≡ b → get nat_cmp m id ≡ or_else (get nat_cmp m id) (if b then Some (stored c) else None)
    by_id true is = some_first (get nat_cmp m id) (Some (stored c)) (subst (λ i. is_some (get nat_cmp m i) ≡ true) (id_is c.id id is) some)
    by_id false is = none_else (get nat_cmp m id)

-- ---- records one after the other

pub list_more : (ns : List NodeRecord) (r : Kept) (rs : List Kept) → (ns ++ node_list (r ∷ [])) ++ node_list rs ≡ ns ++ node_list (r ∷ rs)
list_more ns (kept.Head h) rs = append_assoc ns [] (node_list rs)
list_more ns (kept.Node n) rs = append_assoc ns (n ∷ []) (node_list rs)
list_more ns (kept.Content c) rs = append_assoc ns [] (node_list rs)

pub content_more : (a : Option Stored) (r : Kept) (rs : List Kept) (id : ℕ) → or_else (or_else a (content_at r id)) (content_with rs id) ≡ or_else a (content_with (r ∷ rs) id)
content_more (Some s) r rs id = refl
content_more None (kept.Head h) rs id = refl
content_more None (kept.Node n) rs id = refl
content_more None (kept.Content c) rs id = more_if (c.id == id)
  where
    more_if : (b : Bool) → or_else (if b then Some (stored c) else None) (content_with rs id) ≡ (if b then Some (stored c) else content_with rs id)
    more_if true = refl
    more_if false = refl

-- what was taken apart so far, and what is left
pub record AreParted (records : List Kept) (ns : List NodeRecord) (m : BTreeMap ℕ Stored) (left : List Kept) : Type 0 where
  pub nodes : ns ++ node_list left ≡ node_list records
  pub contents : (id : ℕ) → or_else (get nat_cmp m id) (content_with left id) ≡ content_with records id

pub one_parted : (records : List Kept) (ns ns' : List NodeRecord) (m m' : BTreeMap ℕ Stored) (r : Kept) (left : List Kept) → AreParted records ns m (r ∷ left) → ns' ≡ ns ++ node_list (r ∷ []) → ((id : ℕ) → get nat_cmp m' id ≡ or_else (get nat_cmp m id) (content_at r id)) → AreParted records ns' m' left
one_parted records ns ns' m m' r left parted more noted = record {
  nodes = ap (λ z. z ++ node_list left) more ∙ list_more ns r left ∙ parted.nodes;
  contents = λ id. ap (λ o. or_else o (content_with left id)) (noted id) ∙ content_more (get nat_cmp m id) r left id ∙ parted.contents id;
}

-- all records were gone over
pub all_gone_over : (all gone left : List Kept) (n : ℕ) → n ≡ length left → n ≡ 0 → gone ++ left ≡ all → gone ≡ all
all_gone_over all gone left n len none are = sym (append_none gone) ∙ ap (λ l. gone ++ l) (sym (is_none left (sym len ∙ none))) ∙ are
  where
    is_none : (xs : List Kept) → length xs ≡ 0 → xs ≡ []
    is_none [] e = refl
    is_none (x ∷ xs) e = absurd cc

    append_none : (xs : List Kept) → xs ++ [] ≡ xs
    append_none [] = refl
    append_none (x ∷ xs) = ap (λ l. x ∷ l) (append_none xs)

pub taken_back : (xs ys : List Kept) → take (length xs) (xs ++ ys) ≡ xs
taken_back [] ys = refl
taken_back (x ∷ xs) ys = ap (λ l. x ∷ l) (taken_back xs ys)

-- records that are the same at each place
pub each_same : (old new : List Kept) → length new ≡ length old → ((i : ℕ) (d : Kept) → i < length old → slice_index_or new i d ≡ slice_index_or old i d) → new ≡ old
each_same old new len each = let d : Kept = kept.Head (record { next = 0; changes = 0 }) in ext_get_or d new old len (λ i below. each i d (subst (λ n. i < n) len below))

-- ---- nodes joined to their contents

abbrev pub joined : ℕ → BTreeMap ℕ Stored → List NodeRecord → List Node
joined changes m ns = map (λ n. node_by changes n (get nat_cmp m n.id)) ns

joined_same : (changes : ℕ) (m m' : BTreeMap ℕ Stored) (id : ℕ) (ns : List NodeRecord) → AllByRecursion (λ n. (id == n.id) ≡ false) ns → ((q : ℕ) → (id == q) ≡ false → get nat_cmp m' q ≡ get nat_cmp m q) → joined changes m' ns ≡ joined changes m ns
joined_same changes m m' id [] others same = refl
joined_same changes m m' id (n ∷ ns) others same = let first = same n.id others.0 in let rest = joined_same changes m m' id ns others.1 same in λ i. node_by changes n (first i) ∷ rest i

pub record AreJoined (all : List Node) (changes : ℕ) (made : List Node) (m : BTreeMap ℕ Stored) (left : List NodeRecord) : Type 0 where
  pub are : made ++ joined changes m left ≡ all
  pub apart : AreIdsApart left

pub one_joined : (all : List Node) (changes : ℕ) (made made' : List Node) (m m' : BTreeMap ℕ Stored) (r : NodeRecord) (n : Node) (left : List NodeRecord) → AreJoined all changes made m (r ∷ left) → n ≡ node_by changes r (get nat_cmp m r.id) → ((q : ℕ) → (r.id == q) ≡ false → get nat_cmp m' q ≡ get nat_cmp m q) → made' ≡ made ++ n ∷ [] → AreJoined all changes made' m' left
one_joined all changes made made' m m' r n left joins is others more = record {
  are = (λ i. more i ++ joined_same changes m m' r.id left joins.apart.0 others i) ∙ append_assoc made (n ∷ []) (joined changes m left) ∙ ap (λ z. made ++ z ∷ joined changes m left) is ∙ joins.are;
  apart = joins.apart.1;
}

-- What loading comes to.
use Rattle.std.proofs.Common.{◌≡◌, ℕ, ◌+◌, ◌<◌, List, [], ◌∷◌, map, length, drop, Option, Some, None, Result, Ok, Err, true, false, ◌==◌, refl, sym, ap, ◌∙◌, subst, arith, if◌then◌else◌}
use mathlib.Core.Bool.{true≢false}
use Rattle.std.specs.List.{AllByRecursion}
use Rattle.std.proofs.lemmas.Bool.Decides.{nat_tests}
use Rattle.store.specs.declared.record.Head.{Head}
use Rattle.store.specs.declared.record.Kept.{Kept}
use Rattle.store.specs.declared.record.Kept.TheVariants as kept
use Rattle.tree_nodes.specs.Nodes.{with_nodes, AreApart}
use Rattle.tree_nodes.specs.View.{NodesState}
use Rattle.tree_nodes.specs.declared.node.Node.{Node}
use Rattle.file_tree.proofs.lemmas.Stored.{empty_stored}
use Rattle.file_tree.specs.Storing.{IsStored}
use Rattle.tree_reading.specs.Tree.{Tree, root, empty}
use Rattle.tree_reading.specs.View.{tree_of}
use Rattle.file_tree.specs.View.{IsWithinLimits}
use Rattle.tree_load.proofs.Keeps.{loaded_stored}
use Rattle.tree_load.proofs.Whole.{made_are, records_apart, tree_apart, tree_below, tree_limits}
use Rattle.tree_load.specs.Load.{first_head, is_head_well, first_fault, fault, loaded_nodes, loaded_tree, load}
use Rattle.tree_load.specs.Making.{node_list, content_with, node_by, AreIdsApart}

some_is : {X : Type 0} (a b : X) → Some a ≡ Some b → a ≡ b
some_is {X} a b e = ap or_this e
  where
    or_this : Option X → X
    or_this None = a
    or_this (Some z) = z

pub head_first : (records : List Kept) (h : Head) → first_head records ≡ Some h → records ≡ kept.Head h ∷ drop 1 records
head_first [] h e = absurd cc
head_first (kept.Head g ∷ rs) h e = ap (λ k. kept.Head k ∷ rs) (some_is g h e)
head_first (kept.Node n ∷ rs) h e = absurd cc
head_first (kept.Content c ∷ rs) h e = absurd cc

pub some_record : (records : List Kept) (h : Head) → first_head records ≡ Some h → 0 < length records
some_record [] h e = absurd cc
some_record (r ∷ rs) h e = omega arith

pub fault_well : (records : List Kept) (h : Head) → first_head records ≡ Some h → is_head_well h ≡ true → fault h (drop 1 records) ≡ first_fault h records 1 0 (drop 1 records)
fault_well records h is well = ap (λ b. if b then first_fault h (kept.Head h ∷ drop 1 records) 1 0 (drop 1 records) else Some 0) well ∙ ap (λ all. first_fault h all 1 0 (drop 1 records)) (sym (head_first records h is))

pub fault_head : (rs : List Kept) (h : Head) → is_head_well h ≡ false → fault h rs ≡ Some 0
fault_head rs h bad = ap (λ b. if b then first_fault h (kept.Head h ∷ rs) 1 0 rs else Some 0) bad

-- ---- the tree, step by step

made : Head → List Kept → List Node
made h records = root h.changes ∷ map (λ n. node_by h.changes n (content_with records n.id)) (node_list records)

made_nodes : (records : List Kept) (h : Head) → first_head records ≡ Some h → made h records ≡ root h.changes ∷ loaded_nodes h (kept.Head h ∷ drop 1 records) (drop 1 records)
unfolding made
made_nodes records h is = ap (λ all. made h all) (head_first records h is) ∙ ap (λ ns. root h.changes ∷ ns) (made_are h (kept.Head h ∷ drop 1 records) (kept.Head h ∷ drop 1 records))

pub ids_of : (records : List Kept) (h : Head) → first_head records ≡ Some h → fault h (drop 1 records) ≡ None → AreIdsApart (node_list records)
ids_of records h is well = subst (λ all. AreIdsApart (node_list all)) (sym (head_first records h is)) (records_apart h (drop 1 records) well)

module _ (records : List Kept) (h : Head) (is : first_head records ≡ Some h) (well : fault h (drop 1 records) ≡ None) (v : List Node) (made_is : v ≡ root h.changes ∷ map (λ n. node_by h.changes n (content_with records n.id)) (node_list records)) where
  nodes_are : v ≡ root h.changes ∷ loaded_nodes h (kept.Head h ∷ drop 1 records) (drop 1 records)
  unfolding made
  nodes_are = made_is ∙ made_nodes records h is

  pub apart_of : AreApart v
  apart_of = subst AreApart (sym nodes_are) (tree_apart h (drop 1 records) well)

  pub below_of : AllByRecursion (λ n. n.id < h.next) v
  below_of = subst (λ ns. AllByRecursion (λ n. n.id < h.next) ns) (sym nodes_are) (tree_below h (drop 1 records) well)

  pub limits_of : (s : NodesState) → s.nodes ≡ with_nodes [] v → s.next ≡ h.next → IsWithinLimits s h.changes
  limits_of s listed next = tree_limits h (drop 1 records) well s (listed ∙ ap (λ ns. with_nodes [] ns) nodes_are) next

  pub tree_is : (s : NodesState) (t : Tree) → s.nodes ≡ with_nodes [] v → s.next ≡ h.next → t ≡ tree_of s h.changes → t ≡ loaded_tree h records
  tree_is s t listed next same =
      let nodes = listed ∙ ap (λ ns. with_nodes [] ns) nodes_are in
      same ∙ (λ i. record { nodes = nodes i; next = next i; changes = h.changes }) ∙ ap (λ all. loaded_tree h all) (sym (head_first records h is))

-- ---- what is answered

pub load_none : (records : List Kept) (t : Tree) → records ≡ [] → t ≡ empty → load records ≡ Ok t
load_none records t none same = ap load none ∙ ap (λ z. Ok z) (sym same)

pub load_headless : (records : List Kept) → (records ≡ [] → ⊥) → first_head records ≡ None → load records ≡ Err 0
load_headless [] some none = absurd (some refl)
load_headless (kept.Head h ∷ rs) some none = absurd cc
load_headless (kept.Node n ∷ rs) some none = refl
load_headless (kept.Content c ∷ rs) some none = refl

load_if : Head → List Kept → Option ℕ → Result Tree ℕ
load_if h all (Some k) = Err k
load_if h all None = Ok (loaded_tree h all)

load_is : (records : List Kept) (h : Head) → first_head records ≡ Some h → load records ≡ load_if h records (fault h (drop 1 records))
unfolding load_if
load_is records h is = ap load (head_first records h is) ∙ by_fault (fault h (drop 1 records)) refl ∙ ap (λ all. load_if h all (fault h (drop 1 records))) (sym (head_first records h is))
  where
    by_fault : (o : Option ℕ) → fault h (drop 1 records) ≡ o → load (kept.Head h ∷ drop 1 records) ≡ load_if h (kept.Head h ∷ drop 1 records) (fault h (drop 1 records))
    by_fault None e = rw e refl
    by_fault (Some k) e = rw e refl

pub load_bad : (records : List Kept) (h : Head) (k : ℕ) → first_head records ≡ Some h → fault h (drop 1 records) ≡ Some k → load records ≡ Err k
unfolding load_if
load_bad records h k is bad = load_is records h is ∙ ap (λ o. load_if h records o) bad

pub load_good : (records : List Kept) (h : Head) (t : Tree) → first_head records ≡ Some h → fault h (drop 1 records) ≡ None → t ≡ loaded_tree h records → load records ≡ Ok t
unfolding load_if
load_good records h t is well same = load_is records h is ∙ ap (λ o. load_if h records o) well ∙ ap (λ z. Ok z) (sym same)

stored_none : (records : List Kept) (t : Tree) → records ≡ [] → t ≡ empty → IsStored records t
stored_none records t none same = subst (λ rs. IsStored rs t) (sym none) (subst (λ z. IsStored [] z) (sym same) empty_stored)

-- len: how many records a vector has
pub stored_no : (records : List Kept) (len : ℕ) (t : Tree) → len ≡ length records → true ≡ (len == 0) → t ≡ empty → IsStored records t
stored_no [] len t long none same = stored_none [] t refl same
stored_no (r ∷ rs) len t long none same = let other : (len == 0) ≡ false = grind (arith, nat_tests, long) in absurd (true≢false (none ∙ other))

pub stored_good : (records : List Kept) (h : Head) (t : Tree) → first_head records ≡ Some h → fault h (drop 1 records) ≡ None → t ≡ loaded_tree h records → IsStored records t
stored_good records h t is well same =
    let all = kept.Head h ∷ drop 1 records in
    let there : loaded_tree h all ≡ t = ap (λ z. loaded_tree h z) (sym (head_first records h is)) ∙ sym same in
    subst (λ rs. IsStored rs t) (sym (head_first records h is)) (subst (λ z. IsStored all z) there (loaded_stored h (drop 1 records) well))

-- what `fault` goes by
pub ruleset by_fault_load = (some_record, fault_well, fault_head)

-- what `tree_of` goes by
pub ruleset by_tree_of = (ids_of, apart_of, below_of, limits_of, tree_is)

-- what `load` goes by
pub ruleset by_load = (load_none, load_headless, load_bad, load_good)

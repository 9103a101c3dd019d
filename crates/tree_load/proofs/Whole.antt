-- What holds of records that break no rule, and of the tree of these.
use Rattle.std.proofs.Common.{◌≡◌, ℕ, suc, ◌+◌, ◌^◌, ◌<◌, ◌≤◌, List, [], ◌∷◌, map, length, Option, Some, None, Bool, true, false, ◌==◌, ◌&&◌, ◌||◌, refl, sym, ap, ◌∙◌, subst, arith, if◌then◌else◌, nat_lt, nat_le}
use mathlib.Core.Bool.{true≢false}
use Rattle.std.specs.List.{AllByRecursion}
use Rattle.std.specs.Str.{bytes_eq}
use Rattle.std.proofs.lemmas.Bool.Decides.{nat_tests}
use Rattle.store.specs.declared.record.ContentRecord.{ContentRecord}
use Rattle.store.specs.declared.record.Head.{Head}
use Rattle.store.specs.declared.record.Kept.{Kept}
use Rattle.store.specs.declared.record.Kept.TheVariants as kept
use Rattle.store.specs.declared.record.NodeKind.{NodeKind}
use Rattle.store.specs.declared.record.NodeKind.TheVariants as node_kind
use Rattle.store.specs.declared.record.NodeRecord.{NodeRecord}
use Rattle.tree_nodes.proofs.lemmas.Gathering.{AreNew, new_first, new_moved, found_all}
use Rattle.tree_nodes.proofs.lemmas.Lists.{all_with}
use Rattle.tree_nodes.proofs.lemmas.Order.{named_is, not_true}
use Rattle.tree_nodes.specs.Nodes.{with_node, with_nodes, Differ, AreApart}
use Rattle.tree_nodes.specs.View.{NodesState}
use Rattle.tree_nodes.specs.declared.node.Node.{Node}
use Rattle.tree_nodes.specs.declared.node.Body.TheVariants.{Directory, File}
use Rattle.file_tree.proofs.lemmas.Limits.{apart_with, size_with}
use Rattle.tree_reading.specs.Tree.{changes_most, file_most, tree_most, root, content_of, contents_size}
use Rattle.file_tree.specs.Storing.{AreWhole}
use Rattle.tree_reading.specs.View.{IsNodeBounded}
use Rattle.file_tree.specs.View.{IsWithinLimits}
use Rattle.file_tree.specs.View as view
use Rattle.tree_load.proofs.Ruled.{both_true, sum_on}
use Rattle.tree_load.specs.Load.{first_node, first_named, first_content, place_of, is_at, is_directory_found, is_head_well, is_name_well, reaches, content_fits, is_its_files, is_node_well, is_content_well, is_well, size_of, first_fault, fault, content_found, node_with, loaded_node, loaded_nodes}
use Rattle.tree_load.specs.Making.{node_list, stored, content_with, with_stored, node_of_kind, node_by, AreIdsApart}
use Rattle.tree_load.specs.declared.making.Stored.{Stored}

-- ---- what is known of each record

pub record NodeFacts (h : Head) (all : List Kept) (k : ℕ) (n : NodeRecord) : Type 0 where
  pub least : 2 ≤ n.id
  pub below : n.id < h.next
  pub own : is_at k (place_of (first_node 0 all n.id)) ≡ true
  pub name : is_name_well n.name ≡ true
  pub named : is_at k (first_named 0 all n.parent n.name) ≡ true
  pub content : content_fits n.kind k (first_content 0 all n.id) ≡ true

pub node_facts : (h : Head) (all : List Kept) (k : ℕ) (n : NodeRecord) → is_node_well h all k n ≡ true → NodeFacts h all k n
node_facts h all k n well =
    let a = nat_le 2 n.id in
    let b = nat_lt n.id h.next in
    let c = is_at k (place_of (first_node 0 all n.id)) in
    let d = (n.parent == 1) || is_directory_found (first_node 0 all n.parent) in
    let e = is_name_well n.name in
    let f = is_at k (first_named 0 all n.parent n.name) in
    let g = reaches (length all) all n.id in
    let i = content_fits n.kind k (first_content 0 all n.id) in
    let s7 = both_true (a && b && c && d && e && f && g) i well in
    let s6 = both_true (a && b && c && d && e && f) g s7.0 in
    let s5 = both_true (a && b && c && d && e) f s6.0 in
    let s4 = both_true (a && b && c && d) e s5.0 in
    let s3 = both_true (a && b && c) d s4.0 in
    let s2 = both_true (a && b) c s3.0 in
    let s1 = both_true a b s2.0 in
    record { least = grind (arith, nat_tests, s1.0); below = grind (arith, nat_tests, s1.1); own = s2.1; name = s4.1; named = s5.1; content = s7.1 }

pub record ContentFacts (h : Head) (all : List Kept) (k : ℕ) (c : ContentRecord) : Type 0 where
  pub own : is_its_files k (first_node 0 all c.id) ≡ true
  pub first : is_at k (place_of (first_content 0 all c.id)) ≡ true
  pub version : c.version ≤ h.changes
  pub short : length c.bytes ≤ file_most

pub content_facts : (h : Head) (all : List Kept) (k sum : ℕ) (c : ContentRecord) → is_content_well h all k sum c ≡ true → ContentFacts h all k c
content_facts h all k sum c well =
    let a = is_its_files k (first_node 0 all c.id) in
    let b = is_at k (place_of (first_content 0 all c.id)) in
    let d = nat_le 1 c.version in
    let e = nat_le c.version h.changes in
    let f = nat_le (length c.bytes) file_most in
    let g = nat_le (sum + length c.bytes) tree_most in
    let s5 = both_true (a && b && d && e && f) g well in
    let s4 = both_true (a && b && d && e) f s5.0 in
    let s3 = both_true (a && b && d) e s4.0 in
    let s2 = both_true (a && b) d s3.0 in
    let s1 = both_true a b s2.0 in
    record { own = s1.0; first = s1.1; version = grind (arith, nat_tests, s3.1); short = grind (arith, nat_tests, s4.1) }

-- no record from one on breaks a rule: not the first of them, and none behind it
pub well_first : (h : Head) (all : List Kept) (k sum : ℕ) (r : Kept) (rs : List Kept) → first_fault h all k sum (r ∷ rs) ≡ None → (is_well h all k sum r ≡ true) × (first_fault h all (suc k) (sum + size_of r) rs ≡ None)
well_first h all k sum r rs e = first_if (is_well h all k sum r) refl e
  where
    first_if : (b : Bool) → is_well h all k sum r ≡ b → (if b then first_fault h all (suc k) (sum + size_of r) rs else Some k) ≡ None → (is_well h all k sum r ≡ true) × (first_fault h all (suc k) (sum + size_of r) rs ≡ None)
    first_if true is none = (is, none)
    first_if false is none = absurd cc

pub at_both : (j k : ℕ) (o : Option ℕ) → is_at j o ≡ true → is_at k o ≡ true → j ≡ k
at_both j k None a b = absurd (true≢false (sym a))
at_both j k (Some i) a b = grind (arith, nat_tests, a, b)

-- ---- ids and names are apart

abbrev a_node : NodeRecord → Node
a_node r = record { id = r.id; parent = r.parent; name = r.name; version = 0; body = Directory }

module _ (h : Head) (all : List Kept) where
  pub later_ids : (j id : ℕ) → is_at j (place_of (first_node 0 all id)) ≡ true → (k sum : ℕ) (rs : List Kept) → j < k → first_fault h all k sum rs ≡ None → AllByRecursion (λ m. (id == m.id) ≡ false) (node_list rs)
  later_ids j id own k sum [] less none = tt
  later_ids j id own k sum (kept.Head g ∷ rs) less none = let w = well_first h all k sum (kept.Head g) rs none in later_ids j id own (suc k) (sum + 0) rs (omega (arith, less)) w.1
  later_ids j id own k sum (kept.Content c ∷ rs) less none = let w = well_first h all k sum (kept.Content c) rs none in later_ids j id own (suc k) (sum + length c.bytes) rs (omega (arith, less)) w.1
  later_ids j id own k sum (kept.Node m ∷ rs) less none =
      let w = well_first h all k sum (kept.Node m) rs none in
      let facts = node_facts h all k m w.0 in
      (not_true (id == m.id) (λ is. let same : m.id ≡ id = grind (arith, nat_tests, is) in let both = at_both j k (place_of (first_node 0 all id)) own (subst (λ i. is_at k (place_of (first_node 0 all i)) ≡ true) same facts.own) in omega (arith, both, less)), later_ids j id own (suc k) (sum + 0) rs (omega (arith, less)) w.1)

  pub ids_apart : (k sum : ℕ) (rs : List Kept) → first_fault h all k sum rs ≡ None → AreIdsApart (node_list rs)
  ids_apart k sum [] none = tt
  ids_apart k sum (kept.Head g ∷ rs) none = let w = well_first h all k sum (kept.Head g) rs none in ids_apart (suc k) (sum + 0) rs w.1
  ids_apart k sum (kept.Content c ∷ rs) none = let w = well_first h all k sum (kept.Content c) rs none in ids_apart (suc k) (sum + length c.bytes) rs w.1
  ids_apart k sum (kept.Node n ∷ rs) none =
      let w = well_first h all k sum (kept.Node n) rs none in
      let facts = node_facts h all k n w.0 in
      (later_ids k n.id facts.own (suc k) (sum + 0) rs (omega arith) w.1, ids_apart (suc k) (sum + 0) rs w.1)

  -- the node of a record has the record's id and name
  pub loaded_is : (n : NodeRecord) → ((loaded_node h all n).id ≡ n.id) × ((loaded_node h all n).parent ≡ n.parent) × ((loaded_node h all n).name ≡ n.name)
  loaded_is n = is_by n.kind
    where
      is_by : (kind : NodeKind) → ((node_with h n (content_found (first_content 0 all n.id)) kind).id ≡ n.id) × ((node_with h n (content_found (first_content 0 all n.id)) kind).parent ≡ n.parent) × ((node_with h n (content_found (first_content 0 all n.id)) kind).name ≡ n.name)
      is_by node_kind.Directory = (refl, refl, refl)
      is_by node_kind.File = (refl, refl, refl)

  differ_by : (n m : NodeRecord) → (n.id == m.id) ≡ false → ((n.parent == m.parent) && bytes_eq n.name m.name) ≡ false → Differ (loaded_node h all n) (loaded_node h all m)
  differ_by n m ids names =
      let a = loaded_is n in
      let b = loaded_is m in
      (ap (λ i. i == (loaded_node h all m).id) a.0 ∙ ap (λ i. n.id == i) b.0 ∙ ids, (λ t. (a.1 t == b.1 t) && bytes_eq (a.2 t) (b.2 t)) ∙ names)

  name_apart : (j k : ℕ) (n m : NodeRecord) → j < k → is_at j (first_named 0 all n.parent n.name) ≡ true → is_at k (first_named 0 all m.parent m.name) ≡ true → ((n.parent == m.parent) && bytes_eq n.name m.name) ≡ false
  name_apart j k n m less first second = not_true ((n.parent == m.parent) && bytes_eq n.name m.name) (λ is.
      let same = named_is (a_node n) m.parent m.name is in
      let both = at_both j k (first_named 0 all m.parent m.name) (subst (λ d. is_at j (first_named 0 all d m.name) ≡ true) same.0 (subst (λ (t : List ℕ). is_at j (first_named 0 all n.parent t) ≡ true) same.1 first)) second in
      omega (arith, both, less))

  later_nodes : (j : ℕ) (n : NodeRecord) → NodeFacts h all j n → (k sum : ℕ) (rs : List Kept) → j < k → first_fault h all k sum rs ≡ None → AllByRecursion (Differ (loaded_node h all n)) (loaded_nodes h all rs)
  later_nodes j n facts k sum [] less none = tt
  later_nodes j n facts k sum (kept.Head g ∷ rs) less none = let w = well_first h all k sum (kept.Head g) rs none in later_nodes j n facts (suc k) (sum + 0) rs (omega (arith, less)) w.1
  later_nodes j n facts k sum (kept.Content c ∷ rs) less none = let w = well_first h all k sum (kept.Content c) rs none in later_nodes j n facts (suc k) (sum + length c.bytes) rs (omega (arith, less)) w.1
  later_nodes j n facts k sum (kept.Node m ∷ rs) less none =
      let w = well_first h all k sum (kept.Node m) rs none in
      let its = node_facts h all k m w.0 in
      let ids = later_ids j n.id facts.own k sum (kept.Node m ∷ rs) less none in
      (differ_by n m ids.0 (name_apart j k n m less facts.named its.named), later_nodes j n facts (suc k) (sum + 0) rs (omega (arith, less)) w.1)

  nodes_apart : (k sum : ℕ) (rs : List Kept) → first_fault h all k sum rs ≡ None → AreApart (loaded_nodes h all rs)
  nodes_apart k sum [] none = tt
  nodes_apart k sum (kept.Head g ∷ rs) none = let w = well_first h all k sum (kept.Head g) rs none in nodes_apart (suc k) (sum + 0) rs w.1
  nodes_apart k sum (kept.Content c ∷ rs) none = let w = well_first h all k sum (kept.Content c) rs none in nodes_apart (suc k) (sum + length c.bytes) rs w.1
  nodes_apart k sum (kept.Node n ∷ rs) none =
      let w = well_first h all k sum (kept.Node n) rs none in
      (later_nodes k n (node_facts h all k n w.0) (suc k) (sum + 0) rs (omega arith) w.1, nodes_apart (suc k) (sum + 0) rs w.1)

  -- the root has no node's id, and no node has its name
  named_some : (name : List ℕ) → is_name_well name ≡ true → bytes_eq [] name ≡ false
  named_some [] well = absurd (true≢false (sym well))
  named_some (b ∷ bs) well = refl

  and_false : (a b : Bool) → b ≡ false → (a && b) ≡ false
  and_false true b e = e
  and_false false b e = refl

  root_apart : (k sum : ℕ) (rs : List Kept) → first_fault h all k sum rs ≡ None → AllByRecursion (Differ (root h.changes)) (loaded_nodes h all rs)
  root_apart k sum [] none = tt
  root_apart k sum (kept.Head g ∷ rs) none = let w = well_first h all k sum (kept.Head g) rs none in root_apart (suc k) (sum + 0) rs w.1
  root_apart k sum (kept.Content c ∷ rs) none = let w = well_first h all k sum (kept.Content c) rs none in root_apart (suc k) (sum + length c.bytes) rs w.1
  root_apart k sum (kept.Node n ∷ rs) none =
      let w = well_first h all k sum (kept.Node n) rs none in
      let facts = node_facts h all k n w.0 in
      let is = loaded_is n in
      let other : (1 == n.id) ≡ false = grind (arith, nat_tests, facts.least) in
      ((ap (λ i. 1 == i) is.0 ∙ other, and_false (0 == (loaded_node h all n).parent) (bytes_eq [] (loaded_node h all n).name) (ap (λ (t : List ℕ). bytes_eq [] t) is.2 ∙ named_some n.name facts.name)), root_apart (suc k) (sum + 0) rs w.1)

  pub all_apart : (k sum : ℕ) (rs : List Kept) → first_fault h all k sum rs ≡ None → AreApart (root h.changes ∷ loaded_nodes h all rs)
  all_apart k sum rs none = (root_apart k sum rs none, nodes_apart k sum rs none)

-- ---- the nodes as they are made

content_is : (k : ℕ) (rs : List Kept) (n : NodeRecord) (id : ℕ) → with_stored n (content_with rs id) ≡ record { id = n.id; parent = n.parent; name = n.name; version = (content_found (first_content k rs id)).0; body = File (content_found (first_content k rs id)).1 }
content_is k [] n id = refl
content_is k (kept.Head h ∷ rs) n id = content_is (suc k) rs n id
content_is k (kept.Node m ∷ rs) n id = content_is (suc k) rs n id
content_is k (kept.Content c ∷ rs) n id = is_if (c.id == id) (content_is (suc k) rs n id)
  where
    is_if : (b : Bool) → with_stored n (content_with rs id) ≡ record { id = n.id; parent = n.parent; name = n.name; version = (content_found (first_content (suc k) rs id)).0; body = File (content_found (first_content (suc k) rs id)).1 } → with_stored n (if b then Some (stored c) else content_with rs id) ≡ record { id = n.id; parent = n.parent; name = n.name; version = (content_found (if b then Some (k, c) else first_content (suc k) rs id)).0; body = File (content_found (if b then Some (k, c) else first_content (suc k) rs id)).1 }
    is_if true later = refl
    is_if false later = later

made_is : (h : Head) (all : List Kept) (n : NodeRecord) → node_by h.changes n (content_with all n.id) ≡ loaded_node h all n
made_is h all n = is_by n.kind
  where
    is_by : (kind : NodeKind) → node_of_kind h.changes n (content_with all n.id) kind ≡ node_with h n (content_found (first_content 0 all n.id)) kind
    is_by node_kind.Directory = refl
    is_by node_kind.File = content_is 0 all n n.id

pub made_are : (h : Head) (all rs : List Kept) → map (λ n. node_by h.changes n (content_with all n.id)) (node_list rs) ≡ loaded_nodes h all rs
made_are h all [] = refl
made_are h all (kept.Head g ∷ rs) = made_are h all rs
made_are h all (kept.Content c ∷ rs) = made_are h all rs
made_are h all (kept.Node n ∷ rs) = let first = made_is h all n in let rest = made_are h all rs in λ t. first t ∷ rest t

-- ---- the limits

module _ (h : Head) (all : List Kept) where
  found_bounded : (k sum : ℕ) (rs : List Kept) (id : ℕ) → first_fault h all k sum rs ≡ None → ((content_found (first_content k rs id)).0 ≤ h.changes) × (length (content_found (first_content k rs id)).1 ≤ file_most)
  found_bounded k sum [] id none = (omega arith, omega arith)
  found_bounded k sum (kept.Head g ∷ rs) id none = let w = well_first h all k sum (kept.Head g) rs none in found_bounded (suc k) (sum + 0) rs id w.1
  found_bounded k sum (kept.Node n ∷ rs) id none = let w = well_first h all k sum (kept.Node n) rs none in found_bounded (suc k) (sum + 0) rs id w.1
  found_bounded k sum (kept.Content c ∷ rs) id none =
      let w = well_first h all k sum (kept.Content c) rs none in
      let facts = content_facts h all k sum c w.0 in
      bounded_if (c.id == id) facts (found_bounded (suc k) (sum + length c.bytes) rs id w.1)
    where
      bounded_if : (b : Bool) → ContentFacts h all k c → ((content_found (first_content (suc k) rs id)).0 ≤ h.changes) × (length (content_found (first_content (suc k) rs id)).1 ≤ file_most) → ((content_found (if b then Some (k, c) else first_content (suc k) rs id)).0 ≤ h.changes) × (length (content_found (if b then Some (k, c) else first_content (suc k) rs id)).1 ≤ file_most)
      bounded_if true facts later = (facts.version, facts.short)
      bounded_if false facts later = later

  loaded_bounded : (n : NodeRecord) → n.id < h.next → ((content_found (first_content 0 all n.id)).0 ≤ h.changes) × (length (content_found (first_content 0 all n.id)).1 ≤ file_most) → IsNodeBounded h.next h.changes (loaded_node h all n)
  loaded_bounded n below content = bounded_by n.kind
    where
      bounded_by : (kind : NodeKind) → IsNodeBounded h.next h.changes (node_with h n (content_found (first_content 0 all n.id)) kind)
      bounded_by node_kind.Directory = record { id = below; version = omega arith; content = omega arith }
      bounded_by node_kind.File = record { id = below; version = content.0; content = content.1 }

  nodes_bounded : ((id : ℕ) → ((content_found (first_content 0 all id)).0 ≤ h.changes) × (length (content_found (first_content 0 all id)).1 ≤ file_most)) → (k sum : ℕ) (rs : List Kept) → first_fault h all k sum rs ≡ None → AllByRecursion (IsNodeBounded h.next h.changes) (loaded_nodes h all rs)
  nodes_bounded contents k sum [] none = tt
  nodes_bounded contents k sum (kept.Head g ∷ rs) none = let w = well_first h all k sum (kept.Head g) rs none in nodes_bounded contents (suc k) (sum + 0) rs w.1
  nodes_bounded contents k sum (kept.Content c ∷ rs) none = let w = well_first h all k sum (kept.Content c) rs none in nodes_bounded contents (suc k) (sum + length c.bytes) rs w.1
  nodes_bounded contents k sum (kept.Node n ∷ rs) none =
      let w = well_first h all k sum (kept.Node n) rs none in
      let facts = node_facts h all k n w.0 in
      (loaded_bounded n facts.below (contents n.id), nodes_bounded contents (suc k) (sum + 0) rs w.1)

-- ---- the bytes of all

abbrev size_by : Option Stored → ℕ
size_by None = 0
size_by (Some s) = length s.content

-- of the contents of several ids
abbrev sizes : List NodeRecord → List Kept → ℕ
sizes [] cs = 0
sizes (n ∷ ns) cs = size_by (content_with cs n.id) + sizes ns cs

-- and of all
abbrev total : List Kept → ℕ
total [] = 0
total (r ∷ rs) = size_of r + total rs

sizes_none : (ns : List NodeRecord) → sizes ns [] ≡ 0
sizes_none [] = refl
sizes_none (n ∷ ns) = let rest = sizes_none ns in omega (arith, rest)

sizes_head : (h : Head) (ns : List NodeRecord) (cs : List Kept) → sizes ns (kept.Head h ∷ cs) ≡ sizes ns cs
sizes_head h [] cs = refl
sizes_head h (n ∷ ns) cs = ap (λ s. size_by (content_with cs n.id) + s) (sizes_head h ns cs)

sizes_node : (m : NodeRecord) (ns : List NodeRecord) (cs : List Kept) → sizes ns (kept.Node m ∷ cs) ≡ sizes ns cs
sizes_node m [] cs = refl
sizes_node m (n ∷ ns) cs = ap (λ s. size_by (content_with cs n.id) + s) (sizes_node m ns cs)

sizes_other : (c : ContentRecord) (ns : List NodeRecord) (cs : List Kept) → AllByRecursion (λ n. (c.id == n.id) ≡ false) ns → sizes ns (kept.Content c ∷ cs) ≡ sizes ns cs
sizes_other c [] cs others = refl
sizes_other c (n ∷ ns) cs others = let rest = sizes_other c ns cs others.1 in λ t. size_by (if others.0 t then Some (stored c) else content_with cs n.id) + rest t

all_map : (P Q : NodeRecord → Type 0) → ((n : NodeRecord) → P n → Q n) → (ns : List NodeRecord) → AllByRecursion P ns → AllByRecursion Q ns
all_map P Q f [] all = tt
all_map P Q f (n ∷ ns) all = (f n all.0, all_map P Q f ns all.1)

sizes_more : (c : ContentRecord) (ns : List NodeRecord) (cs : List Kept) → AreIdsApart ns → sizes ns (kept.Content c ∷ cs) ≤ length c.bytes + sizes ns cs
sizes_more c [] cs apart = omega arith
sizes_more c (n ∷ ns) cs apart = more_if (c.id == n.id) refl (sizes_more c ns cs apart.1)
  where
    more_if : (b : Bool) → (c.id == n.id) ≡ b → sizes ns (kept.Content c ∷ cs) ≤ length c.bytes + sizes ns cs → size_by (if b then Some (stored c) else content_with cs n.id) + sizes ns (kept.Content c ∷ cs) ≤ length c.bytes + (size_by (content_with cs n.id) + sizes ns cs)
    more_if true is later =
        let others = sizes_other c ns cs (all_map (λ m. (n.id == m.id) ≡ false) (λ m. (c.id == m.id) ≡ false) (λ m e. grind (arith, nat_tests, e, is)) ns apart.0) in
        omega (arith, others)
    more_if false is later = omega (arith, later)

sizes_least : (ns : List NodeRecord) (cs : List Kept) → AreIdsApart ns → sizes ns cs ≤ total cs
sizes_least ns [] apart = omega (arith, sizes_none ns)
sizes_least ns (kept.Head h ∷ cs) apart = let same = sizes_head h ns cs in let rest = sizes_least ns cs apart in omega (arith, same, rest)
sizes_least ns (kept.Node m ∷ cs) apart = let same = sizes_node m ns cs in let rest = sizes_least ns cs apart in omega (arith, same, rest)
sizes_least ns (kept.Content c ∷ cs) apart = let more = sizes_more c ns cs apart in let rest = sizes_least ns cs apart in omega (arith, more, rest)

total_small : (h : Head) (all : List Kept) (k sum : ℕ) (rs : List Kept) → first_fault h all k sum rs ≡ None → sum ≤ tree_most → sum + total rs ≤ tree_most
total_small h all k sum [] none small = omega (arith, small)
total_small h all k sum (r ∷ rs) none small =
    let w = well_first h all k sum r rs none in
    let rest = total_small h all (suc k) (sum + size_of r) rs w.1 (sum_on h all k sum r w.0 small) in
    omega (arith, rest)

size_made : (changes : ℕ) (n : NodeRecord) (o : Option Stored) → length (content_of (node_by changes n o).body) ≤ size_by o
size_made changes n o = made_by n.kind o
  where
    made_by : (kind : NodeKind) (o : Option Stored) → length (content_of (node_of_kind changes n o kind).body) ≤ size_by o
    made_by node_kind.Directory o = omega arith
    made_by node_kind.File None = omega arith
    made_by node_kind.File (Some s) = omega arith

sizes_made : (changes : ℕ) (all : List Kept) (ns : List NodeRecord) → contents_size (map (λ n. node_by changes n (content_with all n.id)) ns) ≤ sizes ns all
sizes_made changes all [] = omega arith
sizes_made changes all (n ∷ ns) = let first = size_made changes n (content_with all n.id) in let rest = sizes_made changes all ns in omega (arith, first, rest)

-- ---- the tree

all_nodes : (P : Node → Type 0) (ms ns : List Node) → AllByRecursion P ms → AllByRecursion P ns → AllByRecursion P (with_nodes ms ns)
all_nodes P ms [] all more = all
all_nodes P ms (n ∷ ns) all more = all_nodes P (with_node ms n) ns (all_with P ms n all more.0) more.1

size_nodes : (ms ns : List Node) → contents_size (with_nodes ms ns) ≡ contents_size ms + contents_size ns
size_nodes ms [] = omega arith
size_nodes ms (n ∷ ns) = let first = size_with ms n in let rest = size_nodes (with_node ms n) ns in omega (arith, first, rest)

zero_plus : (n : ℕ) → 0 + n ≡ n
zero_plus n = omega arith

apart_nodes : (ms ns : List Node) → view.AreIdsApart ms → AreNew ms ns → view.AreIdsApart (with_nodes ms ns)
apart_nodes ms [] apart new = apart
apart_nodes ms (n ∷ ns) apart new = apart_nodes (with_node ms n) ns (apart_with ms n apart (ids_of ms new.0)) (new_moved (n ∷ ms) (with_node ms n) ns (λ P all. all_with P ms n all.1 all.0) new.1)
  where
    ids_of : (ks : List Node) → AllByRecursion (λ m. Differ m n) ks → AllByRecursion (λ m. (m.id == n.id) ≡ false) ks
    ids_of [] all = tt
    ids_of (k ∷ ks) all = (all.0.0, ids_of ks all.1)

-- the head is within its limits, and no record behind it breaks a rule
pub none_behind : (h : Head) (rs : List Kept) → fault h rs ≡ None → (is_head_well h ≡ true) × (first_fault h (kept.Head h ∷ rs) 1 0 rs ≡ None)
none_behind h rs e = behind_if (is_head_well h) refl e
  where
    behind_if : (b : Bool) → is_head_well h ≡ b → (if b then first_fault h (kept.Head h ∷ rs) 1 0 rs else Some 0) ≡ None → (is_head_well h ≡ true) × (first_fault h (kept.Head h ∷ rs) 1 0 rs ≡ None)
    behind_if true is none = (is, none)
    behind_if false is none = absurd cc

head_limits : (h : Head) → is_head_well h ≡ true → (h.changes ≤ changes_most) × (2 ≤ h.next) × (h.next ≤ 2 ^ 63 + h.changes)
head_limits h well =
    let s2 = both_true (nat_le h.changes changes_most && nat_le 2 h.next) (nat_le h.next (2 ^ 63 + h.changes)) well in
    let s1 = both_true (nat_le h.changes changes_most) (nat_le 2 h.next) s2.0 in
    (grind (arith, nat_tests, s1.0), grind (arith, nat_tests, s1.1), grind (arith, nat_tests, s2.1))

module _ (h : Head) (rs : List Kept) (well : fault h rs ≡ None) where
  abbrev all : List Kept
  all = kept.Head h ∷ rs

  abbrev nodes : List Node
  nodes = root h.changes ∷ loaded_nodes h all rs

  pub records_apart : AreIdsApart (node_list rs)
  records_apart = ids_apart h all 1 0 rs (none_behind h rs well).1

  pub tree_apart : AreApart nodes
  tree_apart = all_apart h all 1 0 rs (none_behind h rs well).1

  all_bounded : AllByRecursion (IsNodeBounded h.next h.changes) nodes
  all_bounded =
      let none = (none_behind h rs well).1 in
      let limits = head_limits h (none_behind h rs well).0 in
      (record { id = omega (arith, limits.1); version = omega arith; content = omega arith }, nodes_bounded h all (λ id. found_bounded h all 1 0 rs id none) 1 0 rs none)

  pub tree_below : AllByRecursion (λ n. n.id < h.next) nodes
  tree_below = below_all nodes all_bounded
    where
      below_all : (ns : List Node) → AllByRecursion (IsNodeBounded h.next h.changes) ns → AllByRecursion (λ n. n.id < h.next) ns
      below_all [] bounded = tt
      below_all (n ∷ ns) bounded = (bounded.0.id, below_all ns bounded.1)

  size_small : contents_size nodes ≤ tree_most
  size_small =
      let made = sizes_made h.changes all (node_list rs) in
      let are = ap contents_size (made_are h all rs) in
      let least : sizes (node_list rs) all ≤ 0 + total rs = sizes_least (node_list rs) all records_apart in
      let small : 0 + total rs ≤ tree_most = total_small h all 1 0 rs (none_behind h rs well).1 (omega arith) in
      let all_of : 0 + contents_size (loaded_nodes h all rs) ≤ tree_most = omega (arith, made, are, least, small) in
      all_of

  pub tree_limits : (s : NodesState) → s.nodes ≡ with_nodes [] nodes → s.next ≡ h.next → IsWithinLimits s h.changes
  tree_limits s nodes_are next_is =
      let limits = head_limits h (none_behind h rs well).0 in
      record {
        count = limits.0;
        next = omega (arith, limits.2, next_is);
        each = subst (λ k. AllByRecursion (IsNodeBounded k h.changes) s.nodes) (sym next_is) (subst (λ ns. AllByRecursion (IsNodeBounded h.next h.changes) ns) (sym nodes_are) (all_nodes (IsNodeBounded h.next h.changes) [] nodes tt all_bounded));
        apart = subst view.AreIdsApart (sym nodes_are) (apart_nodes [] nodes tt (new_first nodes tree_apart));
        size = subst (λ n. n ≤ tree_most) (sym (ap contents_size nodes_are ∙ size_nodes [] nodes ∙ zero_plus (contents_size nodes))) size_small;
      }

  -- no id stands twice, each is below the next, and the root is there
  pub tree_whole : AreWhole (with_nodes [] nodes) h.next
  tree_whole = record {
    apart = apart_nodes [] nodes tt (new_first nodes tree_apart);
    below = all_nodes (λ n. n.id < h.next) [] nodes tt tree_below;
    rooted = (root h.changes, found_all nodes 1 tree_apart, refl);
  }

-- Records that break no rule keep the tree that they are loaded as.
use Rattle.std.proofs.Common.{◌≡◌, ℕ, suc, ◌+◌, ◌<◌, ◌≤◌, List, [], ◌∷◌, length, Option, Some, None, Bool, true, false, not, ◌==◌, ◌&&◌, inr, refl, sym, ap, ◌∙◌, subst, arith, if◌then◌else◌, cond, nat_lt}
use mathlib.Core.Bool.{true≢false}
use Rattle.std.specs.List.{slice_get, filter, AllByRecursion}
use Rattle.std.proofs.lemmas.Bool.Decides.{nat_tests}
use Rattle.store.specs.Records.{is_head, is_node, is_content}
use Rattle.store.specs.declared.record.ContentRecord.{ContentRecord}
use Rattle.store.specs.declared.record.Head.{Head}
use Rattle.store.specs.declared.record.Kept.{Kept}
use Rattle.store.specs.declared.record.Kept.TheVariants as kept
use Rattle.store.specs.declared.record.NodeKind.{NodeKind}
use Rattle.store.specs.declared.record.NodeKind.TheVariants as node_kind
use Rattle.store.specs.declared.record.NodeRecord.{NodeRecord}
use Rattle.tree_nodes.proofs.lemmas.Gathering.{found_all}
use Rattle.tree_nodes.proofs.lemmas.Order.{not_true}
use Rattle.tree_nodes.specs.Nodes.{with_id}
use Rattle.tree_nodes.specs.declared.node.Node.{Node}
use Rattle.tree_nodes.specs.declared.node.Body.TheVariants.{Directory, File}
use Rattle.file_tree.specs.Kept.{node_record, node_records, content_records, IsKept}
use Rattle.file_tree.specs.Storing.{IsStored}
use Rattle.tree_reading.specs.Tree.{root}
use Rattle.tree_load.proofs.Climbs.{first_is}
use Rattle.tree_load.proofs.Whole.{NodeFacts, node_facts, ContentFacts, content_facts, well_first, at_both, later_ids, loaded_is, tree_apart, tree_whole, none_behind}
use Rattle.tree_load.specs.Load.{first_node, first_content, place_of, is_at, is_directory_kind, content_fits, is_its_files, is_node_well, is_content_well, first_fault, fault, content_found, node_with, loaded_node, loaded_nodes, loaded_tree}
use Rattle.tree_load.specs.Making.{node_list}

all_map : (P Q : NodeRecord → Type 0) → ((n : NodeRecord) → P n → Q n) → (ns : List NodeRecord) → AllByRecursion P ns → AllByRecursion Q ns
all_map P Q f [] all = tt
all_map P Q f (n ∷ ns) all = (f n all.0, all_map P Q f ns all.1)

no_node : (id : ℕ) (rs : List Kept) → AllByRecursion (λ m. (m.id == id) ≡ false) (node_list rs) → filter (is_node id) rs ≡ []
no_node id [] all = refl
no_node id (kept.Head g ∷ rs) all = no_node id rs all
no_node id (kept.Content c ∷ rs) all = no_node id rs all
no_node id (kept.Node n ∷ rs) all = rw all.0 (no_node id rs all.1)

abbrev content_list : Option (ℕ × ContentRecord) → List Kept
content_list None = []
content_list (Some p) = kept.Content p.1 ∷ []

-- where a first content is
record IsFirstContent (k : ℕ) (rs : List Kept) (p : ℕ × ContentRecord) : Type 0 where
  at : ℕ
  place : p.0 ≡ k + at
  there : slice_get rs at ≡ Some (kept.Content p.1)

later_content : (k : ℕ) (r : Kept) (rs : List Kept) (p : ℕ × ContentRecord) → IsFirstContent (suc k) rs p → IsFirstContent k (r ∷ rs) p
later_content k r rs p first = record { at = suc first.at; place = omega (arith, first.place); there = first.there }

some_is : {X : Type 0} (a b : X) → Some a ≡ Some b → a ≡ b
some_is {X} a b e = ap or_this e
  where
    or_this : Option X → X
    or_this None = a
    or_this (Some z) = z

first_content_is : (k : ℕ) (rs : List Kept) (id : ℕ) (p : ℕ × ContentRecord) → first_content k rs id ≡ Some p → IsFirstContent k rs p
first_content_is k [] id p e = absurd cc
first_content_is k (kept.Head h ∷ rs) id p e = later_content k (kept.Head h) rs p (first_content_is (suc k) rs id p e)
first_content_is k (kept.Node n ∷ rs) id p e = later_content k (kept.Node n) rs p (first_content_is (suc k) rs id p e)
first_content_is k (kept.Content c ∷ rs) id p e = is_if (c.id == id) e (λ later. first_content_is (suc k) rs id p later)
  where
    is_if : (b : Bool) → (if b then Some (k, c) else first_content (suc k) rs id) ≡ Some p → (first_content (suc k) rs id ≡ Some p → IsFirstContent (suc k) rs p) → IsFirstContent k (kept.Content c ∷ rs) p
    is_if true same later = subst (λ q. IsFirstContent k (kept.Content c ∷ rs) q) (some_is (k, c) p same) (record { at = 0; place = omega arith; there = refl })
    is_if false same later = later_content k (kept.Content c) rs p (later same)

module _ (h : Head) (all : List Kept) where
  no_head : (k sum : ℕ) (rs : List Kept) → first_fault h all k sum rs ≡ None → filter is_head rs ≡ []
  no_head k sum [] none = refl
  no_head k sum (kept.Head g ∷ rs) none = absurd (true≢false (sym (well_first h all k sum (kept.Head g) rs none).0))
  no_head k sum (kept.Node n ∷ rs) none = let w = well_first h all k sum (kept.Node n) rs none in no_head (suc k) (sum + 0) rs w.1
  no_head k sum (kept.Content c ∷ rs) none = let w = well_first h all k sum (kept.Content c) rs none in no_head (suc k) (sum + length c.bytes) rs w.1

  -- ---- nodes

  record_is : (n : NodeRecord) → node_record (loaded_node h all n) (loaded_node h all n).body ≡ kept.Node n
  record_is n = is_by n.kind
    where
      is_by : (kind : NodeKind) → node_record (node_with h n (content_found (first_content 0 all n.id)) kind) (node_with h n (content_found (first_content 0 all n.id)) kind).body ≡ kept.Node (record { id = n.id; parent = n.parent; kind = kind; name = n.name })
      is_by node_kind.Directory = refl
      is_by node_kind.File = refl

  id_nodes : (id : ℕ) → (id == 1) ≡ false → (k sum : ℕ) (rs : List Kept) → first_fault h all k sum rs ≡ None → filter (is_node id) rs ≡ node_records id (with_id (loaded_nodes h all rs) id)
  id_nodes id other k sum [] none = refl
  id_nodes id other k sum (kept.Head g ∷ rs) none = let w = well_first h all k sum (kept.Head g) rs none in id_nodes id other (suc k) (sum + 0) rs w.1
  id_nodes id other k sum (kept.Content c ∷ rs) none = let w = well_first h all k sum (kept.Content c) rs none in id_nodes id other (suc k) (sum + length c.bytes) rs w.1
  id_nodes id other k sum (kept.Node n ∷ rs) none =
      let w = well_first h all k sum (kept.Node n) rs none in
      let facts = node_facts h all k n w.0 in
      by_id (n.id == id) refl (later_ids h all k n.id facts.own (suc k) (sum + 0) rs (omega arith) w.1) (id_nodes id other (suc k) (sum + 0) rs w.1)
      ∙ ap (λ i. node_records id (if i == id then Some (loaded_node h all n) else with_id (loaded_nodes h all rs) id)) (sym (loaded_is h all n).0)
    where
      by_id : (b : Bool) → (n.id == id) ≡ b → AllByRecursion (λ m. (n.id == m.id) ≡ false) (node_list rs) → filter (is_node id) rs ≡ node_records id (with_id (loaded_nodes h all rs) id) → cond b (kept.Node n ∷ filter (is_node id) rs) (filter (is_node id) rs) ≡ node_records id (if b then Some (loaded_node h all n) else with_id (loaded_nodes h all rs) id)
      by_id true is later same =
          let none_else = no_node id rs (all_map (λ m. (n.id == m.id) ≡ false) (λ m. (m.id == id) ≡ false) (λ m e. grind (arith, nat_tests, e, is)) (node_list rs) later) in
          ap (λ z. kept.Node n ∷ z) none_else ∙ ap (λ z. z ∷ []) (sym (record_is n)) ∙ sym (ap (λ b. if b then [] else node_record (loaded_node h all n) (loaded_node h all n).body ∷ []) other)
      by_id false is later same = same

  -- ---- contents

  no_content : (j id : ℕ) → is_at j (place_of (first_content 0 all id)) ≡ true → (k sum : ℕ) (rs : List Kept) → j < k → first_fault h all k sum rs ≡ None → filter (is_content id) rs ≡ []
  no_content j id own k sum [] less none = refl
  no_content j id own k sum (kept.Head g ∷ rs) less none = let w = well_first h all k sum (kept.Head g) rs none in no_content j id own (suc k) (sum + 0) rs (omega (arith, less)) w.1
  no_content j id own k sum (kept.Node n ∷ rs) less none = let w = well_first h all k sum (kept.Node n) rs none in no_content j id own (suc k) (sum + 0) rs (omega (arith, less)) w.1
  no_content j id own k sum (kept.Content c ∷ rs) less none =
      let w = well_first h all k sum (kept.Content c) rs none in
      let facts = content_facts h all k sum c w.0 in
      let other : (c.id == id) ≡ false = not_true (c.id == id) (λ is. let same : c.id ≡ id = grind (arith, nat_tests, is) in let both = at_both j k (place_of (first_content 0 all id)) own (subst (λ i. is_at k (place_of (first_content 0 all i)) ≡ true) same facts.first) in omega (arith, both, less)) in
      rw other (no_content j id own (suc k) (sum + length c.bytes) rs (omega (arith, less)) w.1)

  id_contents : (id k sum : ℕ) (rs : List Kept) → first_fault h all k sum rs ≡ None → filter (is_content id) rs ≡ content_list (first_content k rs id)
  id_contents id k sum [] none = refl
  id_contents id k sum (kept.Head g ∷ rs) none = let w = well_first h all k sum (kept.Head g) rs none in id_contents id (suc k) (sum + 0) rs w.1
  id_contents id k sum (kept.Node n ∷ rs) none = let w = well_first h all k sum (kept.Node n) rs none in id_contents id (suc k) (sum + 0) rs w.1
  id_contents id k sum (kept.Content c ∷ rs) none =
      let w = well_first h all k sum (kept.Content c) rs none in
      let facts = content_facts h all k sum c w.0 in
      by_id (c.id == id) refl facts w.1 (id_contents id (suc k) (sum + length c.bytes) rs w.1)
    where
      by_id : (b : Bool) → (c.id == id) ≡ b → ContentFacts h all k c → first_fault h all (suc k) (sum + length c.bytes) rs ≡ None → filter (is_content id) rs ≡ content_list (first_content (suc k) rs id) → cond b (kept.Content c ∷ filter (is_content id) rs) (filter (is_content id) rs) ≡ content_list (if b then Some (k, c) else first_content (suc k) rs id)
      by_id true is facts none later =
          let same : c.id ≡ id = grind (arith, nat_tests, is) in
          ap (λ z. kept.Content c ∷ z) (no_content k id (subst (λ i. is_at k (place_of (first_content 0 all i)) ≡ true) same facts.first) (suc k) (sum + length c.bytes) rs (omega arith) none)
      by_id false is facts none later = later

  abbrev node_of : Option (ℕ × NodeRecord) → Option Node
  node_of None = None
  node_of (Some p) = Some (loaded_node h all p.1)

  with_id_first : (k : ℕ) (rs : List Kept) (id : ℕ) → with_id (loaded_nodes h all rs) id ≡ node_of (first_node k rs id)
  with_id_first k [] id = refl
  with_id_first k (kept.Head g ∷ rs) id = with_id_first (suc k) rs id
  with_id_first k (kept.Content c ∷ rs) id = with_id_first (suc k) rs id
  with_id_first k (kept.Node n ∷ rs) id = ap (λ i. if i == id then Some (loaded_node h all n) else with_id (loaded_nodes h all rs) id) (loaded_is h all n).0 ∙ by_id (n.id == id) (with_id_first (suc k) rs id)
    where
      by_id : (b : Bool) → with_id (loaded_nodes h all rs) id ≡ node_of (first_node (suc k) rs id) → (if b then Some (loaded_node h all n) else with_id (loaded_nodes h all rs) id) ≡ node_of (if b then Some (k, n) else first_node (suc k) rs id)
      by_id true later = refl
      by_id false later = later

  -- the rules of the first node of an id, and of the first content
  node_ruled : (k sum : ℕ) (rs : List Kept) (id : ℕ) (p : ℕ × NodeRecord) → first_fault h all k sum rs ≡ None → first_node k rs id ≡ Some p → NodeFacts h all p.0 p.1
  node_ruled k sum [] id p none e = absurd cc
  node_ruled k sum (kept.Head g ∷ rs) id p none e = let w = well_first h all k sum (kept.Head g) rs none in node_ruled (suc k) (sum + 0) rs id p w.1 e
  node_ruled k sum (kept.Content c ∷ rs) id p none e = let w = well_first h all k sum (kept.Content c) rs none in node_ruled (suc k) (sum + length c.bytes) rs id p w.1 e
  node_ruled k sum (kept.Node n ∷ rs) id p none e = let w = well_first h all k sum (kept.Node n) rs none in by_id (n.id == id) w.0 (λ later. node_ruled (suc k) (sum + 0) rs id p w.1 later) e
    where
      by_id : (b : Bool) → is_node_well h all k n ≡ true → (first_node (suc k) rs id ≡ Some p → NodeFacts h all p.0 p.1) → (if b then Some (k, n) else first_node (suc k) rs id) ≡ Some p → NodeFacts h all p.0 p.1
      by_id true well later same = subst (λ q. NodeFacts h all q.0 q.1) (some_is (k, n) p same) (node_facts h all k n well)
      by_id false well later same = later same

  content_ruled : (k sum : ℕ) (rs : List Kept) (id : ℕ) (p : ℕ × ContentRecord) → first_fault h all k sum rs ≡ None → first_content k rs id ≡ Some p → ContentFacts h all p.0 p.1 × (p.1.id ≡ id)
  content_ruled k sum [] id p none e = absurd cc
  content_ruled k sum (kept.Head g ∷ rs) id p none e = let w = well_first h all k sum (kept.Head g) rs none in content_ruled (suc k) (sum + 0) rs id p w.1 e
  content_ruled k sum (kept.Node n ∷ rs) id p none e = let w = well_first h all k sum (kept.Node n) rs none in content_ruled (suc k) (sum + 0) rs id p w.1 e
  content_ruled k sum (kept.Content c ∷ rs) id p none e = let w = well_first h all k sum (kept.Content c) rs none in by_id (c.id == id) refl w.0 (λ later. content_ruled (suc k) (sum + length c.bytes) rs id p w.1 later) e
    where
      by_id : (b : Bool) → (c.id == id) ≡ b → is_content_well h all k sum c ≡ true → (first_content (suc k) rs id ≡ Some p → ContentFacts h all p.0 p.1 × (p.1.id ≡ id)) → (if b then Some (k, c) else first_content (suc k) rs id) ≡ Some p → ContentFacts h all p.0 p.1 × (p.1.id ≡ id)
      by_id true is well later same = subst (λ q. ContentFacts h all q.0 q.1 × (q.1.id ≡ id)) (some_is (k, c) p same) (content_facts h all k sum c well, grind (arith, nat_tests, is))
      by_id false is well later same = later same

is_not : (b : Bool) → not b ≡ true → b ≡ false
is_not true e = absurd (true≢false (sym e))
is_not false e = refl

-- a record is a node or a content, and not both
one_kind : (n : NodeRecord) (c : ContentRecord) → ◌≡◌ {A = Option Kept} (Some (kept.Node n)) (Some (kept.Content c)) → ⊥
one_kind n c e = true≢false (ap is_it e)
  where
    is_it : Option Kept → Bool
    is_it None = false
    is_it (Some (kept.Head h)) = false
    is_it (Some (kept.Node m)) = true
    is_it (Some (kept.Content d)) = false

module _ (h : Head) (rs : List Kept) (none : first_fault h (kept.Head h ∷ rs) 1 0 rs ≡ None) where
  abbrev all : List Kept
  all = kept.Head h ∷ rs

  -- a directory has no content
  no_directory : (id : ℕ) (q : ℕ × NodeRecord) (p : ℕ × ContentRecord) → first_node 1 rs id ≡ Some q → first_content 1 rs id ≡ Some p → q.1.kind ≡ node_kind.Directory → ⊥
  no_directory id q p is also directory =
      let node = node_ruled h all 1 0 rs id q none is in
      let content = content_ruled h all 1 0 rs id p none also in
      let node_at = first_is 1 rs id q is in
      let content_at = first_content_is 1 rs id p also in
      let found : first_content 1 rs q.1.id ≡ Some p = ap (λ i. first_content 1 rs i) node_at.has ∙ also in
      let in_front : not (nat_lt p.0 q.0) ≡ true = subst (λ o. content_fits node_kind.Directory q.0 o ≡ true) found (subst (λ kind. content_fits kind q.0 (first_content 1 rs q.1.id) ≡ true) directory node.content) in
      let there : first_node 1 rs p.1.id ≡ Some q = ap (λ i. first_node 1 rs i) content.1 ∙ is in
      let behind : not (nat_lt q.0 p.0) ≡ true = subst (λ kind. not (is_directory_kind kind && nat_lt q.0 p.0) ≡ true) directory (subst (λ o. is_its_files p.0 o ≡ true) there content.0.own) in
      let a = is_not (nat_lt p.0 q.0) in_front in
      let b = is_not (nat_lt q.0 p.0) behind in
      let same : node_at.at ≡ content_at.at = grind (arith, nat_tests, a, b, node_at.place, content_at.place) in
      one_kind q.1 p.1 (sym node_at.there ∙ ap (λ k. slice_get rs k) same ∙ content_at.there)

  agree : (id : ℕ) (o : Option (ℕ × NodeRecord)) (c : Option (ℕ × ContentRecord)) → first_node 1 rs id ≡ o → first_content 1 rs id ≡ c → content_list c ≡ content_records (node_of h all o)
  agree id None None is also = refl
  agree id None (Some p) is also =
      let content = content_ruled h all 1 0 rs id p none also in
      let there : first_node 1 rs p.1.id ≡ None = ap (λ i. first_node 1 rs i) content.1 ∙ is in
      let never : false ≡ true = subst (λ o. is_its_files p.0 o ≡ true) there content.0.own in
      absurd (true≢false (sym never))
  agree id (Some q) c is also =
      let node = node_ruled h all 1 0 rs id q none is in
      let node_at = first_is 1 rs id q is in
      let found : first_content 1 rs q.1.id ≡ c = ap (λ i. first_content 1 rs i) node_at.has ∙ also in
      by_kind q.1.kind refl c found (λ p e. (content_ruled h all 1 0 rs id p none (also ∙ e)).1 ∙ sym node_at.has) (λ p e directory. no_directory id q p is (also ∙ e) directory) (subst (λ o. content_fits q.1.kind q.0 o ≡ true) found node.content)
    where
      by_kind : (kind : NodeKind) → q.1.kind ≡ kind → (c : Option (ℕ × ContentRecord)) → first_content 1 rs q.1.id ≡ c → ((p : ℕ × ContentRecord) → c ≡ Some p → p.1.id ≡ q.1.id) → ((p : ℕ × ContentRecord) → c ≡ Some p → q.1.kind ≡ node_kind.Directory → ⊥) → content_fits kind q.0 c ≡ true → content_list c ≡ content_records (Some (node_with h q.1 (content_found (first_content 1 rs q.1.id)) kind))
      by_kind node_kind.Directory directory None found ids never fits = refl
      by_kind node_kind.Directory directory (Some p) found ids never fits = absurd (never p refl directory)
      by_kind node_kind.File file None found ids never fits = absurd (true≢false (sym fits))
      by_kind node_kind.File file (Some p) found ids never fits =
          ap (λ i. kept.Content (record { id = i; version = p.1.version; bytes = p.1.bytes }) ∷ []) (ids p refl)
          ∙ ap (λ o. kept.Content (record { id = q.1.id; version = (content_found o).0; bytes = (content_found o).1 }) ∷ []) (sym found)

  -- the root has neither record
  no_root : first_node 1 rs 1 ≡ None
  no_root = by_first (first_node 1 rs 1) refl
    where
      by_first : (o : Option (ℕ × NodeRecord)) → first_node 1 rs 1 ≡ o → o ≡ None
      by_first None is = refl
      by_first (Some q) is = let node = node_ruled h all 1 0 rs 1 q none is in let node_at = first_is 1 rs 1 q is in absurd (omega (arith, node.least, node_at.has))

  nodes_kept : (b : Bool) (id : ℕ) → (id == 1) ≡ b → filter (is_node id) rs ≡ node_records id (with_id (root h.changes ∷ loaded_nodes h all rs) id)
  nodes_kept true id is =
      let root_is : (1 == id) ≡ true = grind (arith, nat_tests, is) in
      no_node id rs (others 1 0 rs none)
      ∙ sym (ap (λ b. node_records id (if b then Some (root h.changes) else with_id (loaded_nodes h all rs) id)) root_is ∙ ap (λ b. if b then [] else node_record (root h.changes) Directory ∷ []) is)
    where
      others : (k sum : ℕ) (ks : List Kept) → first_fault h all k sum ks ≡ None → AllByRecursion (λ m. (m.id == id) ≡ false) (node_list ks)
      others k sum [] none = tt
      others k sum (kept.Head g ∷ ks) none = let w = well_first h all k sum (kept.Head g) ks none in others (suc k) (sum + 0) ks w.1
      others k sum (kept.Content c ∷ ks) none = let w = well_first h all k sum (kept.Content c) ks none in others (suc k) (sum + length c.bytes) ks w.1
      others k sum (kept.Node n ∷ ks) none =
          let w = well_first h all k sum (kept.Node n) ks none in
          let facts = node_facts h all k n w.0 in
          (grind (arith, nat_tests, facts.least, is), others (suc k) (sum + 0) ks w.1)
  nodes_kept false id is = let root_is : (1 == id) ≡ false = grind (arith, nat_tests, is) in id_nodes h all id is 1 0 rs none ∙ sym (ap (λ b. node_records id (if b then Some (root h.changes) else with_id (loaded_nodes h all rs) id)) root_is)

  contents_kept : (b : Bool) (id : ℕ) → (id == 1) ≡ b → filter (is_content id) rs ≡ content_records (with_id (root h.changes ∷ loaded_nodes h all rs) id)
  contents_kept true id is =
      let root_is : (1 == id) ≡ true = grind (arith, nat_tests, is) in
      let same : id ≡ 1 = grind (arith, nat_tests, is) in
      id_contents h all id 1 0 rs none ∙ agree id (first_node 1 rs id) (first_content 1 rs id) refl refl ∙ ap (λ i. content_records (node_of h all (first_node 1 rs i))) same ∙ ap (λ o. content_records (node_of h all o)) no_root
      ∙ sym (ap (λ b. content_records (if b then Some (root h.changes) else with_id (loaded_nodes h all rs) id)) root_is)
  contents_kept false id is =
      let root_is : (1 == id) ≡ false = grind (arith, nat_tests, is) in
      id_contents h all id 1 0 rs none ∙ agree id (first_node 1 rs id) (first_content 1 rs id) refl refl ∙ ap content_records (sym (with_id_first h all 1 rs id))
      ∙ sym (ap (λ b. content_records (if b then Some (root h.changes) else with_id (loaded_nodes h all rs) id)) root_is)

loaded_kept : (h : Head) (rs : List Kept) → fault h rs ≡ None → IsKept (kept.Head h ∷ rs) (loaded_tree h (kept.Head h ∷ rs))
loaded_kept h rs well =
    let none = (none_behind h rs well).1 in
    let found = λ (id : ℕ). found_all (root h.changes ∷ loaded_nodes h (kept.Head h ∷ rs) rs) id (tree_apart h rs well) in
    inr (
      rs,
      refl,
      record {
        heads = no_head h (kept.Head h ∷ rs) 1 0 rs none;
        nodes = λ id. nodes_kept h rs none (id == 1) id refl ∙ ap (λ o. node_records id o) (sym (found id));
        contents = λ id. contents_kept h rs none (id == 1) id refl ∙ ap content_records (sym (found id));
      },
    )

pub loaded_stored : (h : Head) (rs : List Kept) → fault h rs ≡ None → IsStored (kept.Head h ∷ rs) (loaded_tree h (kept.Head h ∷ rs))
loaded_stored h rs well = (tree_whole h rs well, loaded_kept h rs well)

-- A store that kept the tree before a change keeps the one that the change leaves.
use Rattle.std.proofs.Common.{◌≡◌, ℕ, ◌+◌, List, [], ◌∷◌, Option, Some, None, Bool, true, false, not, ◌==◌, inl, inr, refl, sym, ap, ◌∙◌, subst, arith, cond, if◌then◌else◌}
use mathlib.Core.Bool.{true≢false}
use Rattle.std.specs.List.{filter}
use Rattle.std.specs.Option.{option_map}
use Rattle.std.proofs.lemmas.Bool.Decides.{nat_tests}
use Rattle.store.specs.Records.{is_head, is_node, is_content, is_of, with_record, headless, applied}
use Rattle.store.specs.declared.record.ContentRecord.{ContentRecord}
use Rattle.store.specs.declared.record.Kept.{Kept}
use Rattle.store.specs.declared.record.Kept.TheVariants as kept
use Rattle.store.specs.declared.record.NodeRecord.{NodeRecord}
use Rattle.tree_nodes.proofs.lemmas.Lists.{with_id_with, with_id_without, with_id_changed}
use Rattle.tree_nodes.specs.Nodes.{with_id, with_node, without, versioned}
use Rattle.tree_nodes.specs.declared.node.Node.{Node}
use Rattle.tree_nodes.specs.declared.node.Body.{Body}
use Rattle.tree_nodes.specs.declared.node.Body.TheVariants.{Directory, File}
use Rattle.file_tree.specs.Kept.{node_record, node_records, body_records, content_records, IsKept}
use Rattle.file_tree.specs.Step.{made, removed, placed, moved, replaced}
use Rattle.file_tree.specs.Storing.{kind_of, head_of, node_change, content_change, with_given, gives_made, gives_removed, gives_moved, gives_replaced}
use Rattle.tree_reading.specs.Tree.{Tree, is_directory, root}

pub self_test : (a : ℕ) → (a == a) ≡ true
self_test a = grind (arith, nat_tests)

-- ---- a record that takes another's place

abbrev behind : List Kept → List Kept
behind [] = []
behind (x ∷ xs) = xs

node_other : (r : NodeRecord) (id : ℕ) (rs : List Kept) → (r.id == id) ≡ false → filter (is_node id) (with_record (kept.Node r) rs) ≡ filter (is_node id) rs
node_other r id [] e = rw e refl
node_other r id (kept.Head h ∷ rs) e = node_other r id rs e
node_other r id (kept.Content c ∷ rs) e = node_other r id rs e
node_other r id (kept.Node n ∷ rs) e = by_place (n.id == r.id) refl (node_other r id rs e)
  where
    by_place : (b : Bool) → (n.id == r.id) ≡ b → filter (is_node id) (with_record (kept.Node r) rs) ≡ filter (is_node id) rs → filter (is_node id) (if b then kept.Node r ∷ rs else kept.Node n ∷ with_record (kept.Node r) rs) ≡ filter (is_node id) (kept.Node n ∷ rs)
    by_place true is later = let other : (n.id == id) ≡ false = grind (arith, nat_tests, is, e) in rw (e, other) refl
    by_place false is later = ap (λ z. cond (n.id == id) (kept.Node n ∷ z) z) later

node_put : (r : NodeRecord) (rs : List Kept) → behind (filter (is_node r.id) rs) ≡ [] → filter (is_node r.id) (with_record (kept.Node r) rs) ≡ kept.Node r ∷ []
node_put r [] one = rw (self_test r.id) refl
node_put r (kept.Head h ∷ rs) one = node_put r rs one
node_put r (kept.Content c ∷ rs) one = node_put r rs one
node_put r (kept.Node n ∷ rs) one = by_place (n.id == r.id) refl one (node_put r rs)
  where
    by_place : (b : Bool) → (n.id == r.id) ≡ b → behind (cond (n.id == r.id) (kept.Node n ∷ filter (is_node r.id) rs) (filter (is_node r.id) rs)) ≡ [] → (behind (filter (is_node r.id) rs) ≡ [] → filter (is_node r.id) (with_record (kept.Node r) rs) ≡ kept.Node r ∷ []) → filter (is_node r.id) (if b then kept.Node r ∷ rs else kept.Node n ∷ with_record (kept.Node r) rs) ≡ kept.Node r ∷ []
    by_place true is only later = rw (self_test r.id) (ap (λ z. kept.Node r ∷ z) (subst (λ c. behind (cond c (kept.Node n ∷ filter (is_node r.id) rs) (filter (is_node r.id) rs)) ≡ []) is only))
    by_place false is only later = rw is (later (subst (λ c. behind (cond c (kept.Node n ∷ filter (is_node r.id) rs) (filter (is_node r.id) rs)) ≡ []) is only))

node_content : (r : NodeRecord) (id : ℕ) (rs : List Kept) → filter (is_content id) (with_record (kept.Node r) rs) ≡ filter (is_content id) rs
node_content r id [] = refl
node_content r id (kept.Head h ∷ rs) = node_content r id rs
node_content r id (kept.Content c ∷ rs) = ap (λ z. cond (c.id == id) (kept.Content c ∷ z) z) (node_content r id rs)
node_content r id (kept.Node n ∷ rs) = by_place (n.id == r.id) (node_content r id rs)
  where
    by_place : (b : Bool) → filter (is_content id) (with_record (kept.Node r) rs) ≡ filter (is_content id) rs → filter (is_content id) (if b then kept.Node r ∷ rs else kept.Node n ∷ with_record (kept.Node r) rs) ≡ filter (is_content id) rs
    by_place true later = refl
    by_place false later = later

node_head : (r : NodeRecord) (rs : List Kept) → filter is_head rs ≡ [] → filter is_head (with_record (kept.Node r) rs) ≡ []
node_head r [] none = refl
node_head r (kept.Head h ∷ rs) none = absurd cc
node_head r (kept.Content c ∷ rs) none = node_head r rs none
node_head r (kept.Node n ∷ rs) none = by_place (n.id == r.id) (node_head r rs none)
  where
    by_place : (b : Bool) → filter is_head (with_record (kept.Node r) rs) ≡ [] → filter is_head (if b then kept.Node r ∷ rs else kept.Node n ∷ with_record (kept.Node r) rs) ≡ []
    by_place true later = none
    by_place false later = later

content_other : (r : ContentRecord) (id : ℕ) (rs : List Kept) → (r.id == id) ≡ false → filter (is_content id) (with_record (kept.Content r) rs) ≡ filter (is_content id) rs
content_other r id [] e = rw e refl
content_other r id (kept.Head h ∷ rs) e = content_other r id rs e
content_other r id (kept.Node n ∷ rs) e = content_other r id rs e
content_other r id (kept.Content c ∷ rs) e = by_place (c.id == r.id) refl (content_other r id rs e)
  where
    by_place : (b : Bool) → (c.id == r.id) ≡ b → filter (is_content id) (with_record (kept.Content r) rs) ≡ filter (is_content id) rs → filter (is_content id) (if b then kept.Content r ∷ rs else kept.Content c ∷ with_record (kept.Content r) rs) ≡ filter (is_content id) (kept.Content c ∷ rs)
    by_place true is later = let other : (c.id == id) ≡ false = grind (arith, nat_tests, is, e) in rw (e, other) refl
    by_place false is later = ap (λ z. cond (c.id == id) (kept.Content c ∷ z) z) later

content_put : (r : ContentRecord) (rs : List Kept) → behind (filter (is_content r.id) rs) ≡ [] → filter (is_content r.id) (with_record (kept.Content r) rs) ≡ kept.Content r ∷ []
content_put r [] one = rw (self_test r.id) refl
content_put r (kept.Head h ∷ rs) one = content_put r rs one
content_put r (kept.Node n ∷ rs) one = content_put r rs one
content_put r (kept.Content c ∷ rs) one = by_place (c.id == r.id) refl one (content_put r rs)
  where
    by_place : (b : Bool) → (c.id == r.id) ≡ b → behind (cond (c.id == r.id) (kept.Content c ∷ filter (is_content r.id) rs) (filter (is_content r.id) rs)) ≡ [] → (behind (filter (is_content r.id) rs) ≡ [] → filter (is_content r.id) (with_record (kept.Content r) rs) ≡ kept.Content r ∷ []) → filter (is_content r.id) (if b then kept.Content r ∷ rs else kept.Content c ∷ with_record (kept.Content r) rs) ≡ kept.Content r ∷ []
    by_place true is only later = rw (self_test r.id) (ap (λ z. kept.Content r ∷ z) (subst (λ d. behind (cond d (kept.Content c ∷ filter (is_content r.id) rs) (filter (is_content r.id) rs)) ≡ []) is only))
    by_place false is only later = rw is (later (subst (λ d. behind (cond d (kept.Content c ∷ filter (is_content r.id) rs) (filter (is_content r.id) rs)) ≡ []) is only))

content_node : (r : ContentRecord) (id : ℕ) (rs : List Kept) → filter (is_node id) (with_record (kept.Content r) rs) ≡ filter (is_node id) rs
content_node r id [] = refl
content_node r id (kept.Head h ∷ rs) = content_node r id rs
content_node r id (kept.Node n ∷ rs) = ap (λ z. cond (n.id == id) (kept.Node n ∷ z) z) (content_node r id rs)
content_node r id (kept.Content c ∷ rs) = by_place (c.id == r.id) (content_node r id rs)
  where
    by_place : (b : Bool) → filter (is_node id) (with_record (kept.Content r) rs) ≡ filter (is_node id) rs → filter (is_node id) (if b then kept.Content r ∷ rs else kept.Content c ∷ with_record (kept.Content r) rs) ≡ filter (is_node id) rs
    by_place true later = refl
    by_place false later = later

content_head : (r : ContentRecord) (rs : List Kept) → filter is_head rs ≡ [] → filter is_head (with_record (kept.Content r) rs) ≡ []
content_head r [] none = refl
content_head r (kept.Head h ∷ rs) none = absurd cc
content_head r (kept.Node n ∷ rs) none = content_head r rs none
content_head r (kept.Content c ∷ rs) none = by_place (c.id == r.id) (content_head r rs none)
  where
    by_place : (b : Bool) → filter is_head (with_record (kept.Content r) rs) ≡ [] → filter is_head (if b then kept.Content r ∷ rs else kept.Content c ∷ with_record (kept.Content r) rs) ≡ []
    by_place true later = none
    by_place false later = later

-- ---- records that go

nothing_if : (b : Bool) → ◌≡◌ {A = List Kept} [] (if b then [] else [])
nothing_if true = refl
nothing_if false = refl

drop_node : (gone id : ℕ) (rs : List Kept) → filter (is_node id) (filter (λ r. not (is_of gone r)) rs) ≡ (if gone == id then [] else filter (is_node id) rs)
drop_node gone id [] = nothing_if (gone == id)
drop_node gone id (kept.Head h ∷ rs) = drop_node gone id rs
drop_node gone id (kept.Content c ∷ rs) = by_content (c.id == gone) (drop_node gone id rs)
  where
    by_content : (b : Bool) → filter (is_node id) (filter (λ r. not (is_of gone r)) rs) ≡ (if gone == id then [] else filter (is_node id) rs) → filter (is_node id) (cond (not b) (kept.Content c ∷ filter (λ r. not (is_of gone r)) rs) (filter (λ r. not (is_of gone r)) rs)) ≡ (if gone == id then [] else filter (is_node id) rs)
    by_content true later = later
    by_content false later = later
drop_node gone id (kept.Node n ∷ rs) = by_node (n.id == gone) (gone == id) (n.id == id) (drop_node gone id rs) refl (λ a b. grind (arith, nat_tests, a, b)) (λ a b. grind (arith, nat_tests, a, b)) (λ a b d. grind (arith, nat_tests, a, b, d))
  where
    by_node : (b c d : Bool) → filter (is_node id) (filter (λ r. not (is_of gone r)) rs) ≡ (if c then [] else filter (is_node id) rs) → (n.id == id) ≡ d → (b ≡ true → d ≡ true → c ≡ true) → (b ≡ true → c ≡ true → d ≡ true) → (b ≡ false → d ≡ true → c ≡ true → ⊥) → filter (is_node id) (cond (not b) (kept.Node n ∷ filter (λ r. not (is_of gone r)) rs) (filter (λ r. not (is_of gone r)) rs)) ≡ (if c then [] else cond d (kept.Node n ∷ filter (is_node id) rs) (filter (is_node id) rs))
    by_node true true d later at f g h = later
    by_node true false true later at f g h = absurd (true≢false (sym (f refl refl)))
    by_node true false false later at f g h = later
    by_node false true true later at f g h = absurd (h refl refl refl)
    by_node false true false later at f g h = rw at later
    by_node false false true later at f g h = rw at (ap (λ z. kept.Node n ∷ z) later)
    by_node false false false later at f g h = rw at later

drop_content : (gone id : ℕ) (rs : List Kept) → filter (is_content id) (filter (λ r. not (is_of gone r)) rs) ≡ (if gone == id then [] else filter (is_content id) rs)
drop_content gone id [] = nothing_if (gone == id)
drop_content gone id (kept.Head h ∷ rs) = drop_content gone id rs
drop_content gone id (kept.Node n ∷ rs) = by_node (n.id == gone) (drop_content gone id rs)
  where
    by_node : (b : Bool) → filter (is_content id) (filter (λ r. not (is_of gone r)) rs) ≡ (if gone == id then [] else filter (is_content id) rs) → filter (is_content id) (cond (not b) (kept.Node n ∷ filter (λ r. not (is_of gone r)) rs) (filter (λ r. not (is_of gone r)) rs)) ≡ (if gone == id then [] else filter (is_content id) rs)
    by_node true later = later
    by_node false later = later
drop_content gone id (kept.Content n ∷ rs) = by_content (n.id == gone) (gone == id) (n.id == id) (drop_content gone id rs) refl (λ a b. grind (arith, nat_tests, a, b)) (λ a b. grind (arith, nat_tests, a, b)) (λ a b d. grind (arith, nat_tests, a, b, d))
  where
    by_content : (b c d : Bool) → filter (is_content id) (filter (λ r. not (is_of gone r)) rs) ≡ (if c then [] else filter (is_content id) rs) → (n.id == id) ≡ d → (b ≡ true → d ≡ true → c ≡ true) → (b ≡ true → c ≡ true → d ≡ true) → (b ≡ false → d ≡ true → c ≡ true → ⊥) → filter (is_content id) (cond (not b) (kept.Content n ∷ filter (λ r. not (is_of gone r)) rs) (filter (λ r. not (is_of gone r)) rs)) ≡ (if c then [] else cond d (kept.Content n ∷ filter (is_content id) rs) (filter (is_content id) rs))
    by_content true true d later at f g h = later
    by_content true false true later at f g h = absurd (true≢false (sym (f refl refl)))
    by_content true false false later at f g h = later
    by_content false true true later at f g h = absurd (h refl refl refl)
    by_content false true false later at f g h = rw at later
    by_content false false true later at f g h = rw at (ap (λ z. kept.Content n ∷ z) later)
    by_content false false false later at f g h = rw at later

drop_head : (gone : ℕ) (rs : List Kept) → filter is_head rs ≡ [] → filter is_head (filter (λ r. not (is_of gone r)) rs) ≡ []
drop_head gone [] none = refl
drop_head gone (kept.Head h ∷ rs) none = absurd cc
drop_head gone (kept.Node n ∷ rs) none = by_node (n.id == gone) (drop_head gone rs none)
  where
    by_node : (b : Bool) → filter is_head (filter (λ r. not (is_of gone r)) rs) ≡ [] → filter is_head (cond (not b) (kept.Node n ∷ filter (λ r. not (is_of gone r)) rs) (filter (λ r. not (is_of gone r)) rs)) ≡ []
    by_node true later = later
    by_node false later = later
drop_head gone (kept.Content n ∷ rs) none = by_content (n.id == gone) (drop_head gone rs none)
  where
    by_content : (b : Bool) → filter is_head (filter (λ r. not (is_of gone r)) rs) ≡ [] → filter is_head (cond (not b) (kept.Content n ∷ filter (λ r. not (is_of gone r)) rs) (filter (λ r. not (is_of gone r)) rs)) ≡ []
    by_content true later = later
    by_content false later = later

headless_same : (rs : List Kept) → filter is_head rs ≡ [] → headless rs ≡ rs
headless_same [] none = refl
headless_same (kept.Head h ∷ rs) none = absurd cc
headless_same (kept.Node n ∷ rs) none = ap (λ z. kept.Node n ∷ z) (headless_same rs none)
headless_same (kept.Content c ∷ rs) none = ap (λ z. kept.Content c ∷ z) (headless_same rs none)

-- ---- what the records are, id by id

record AreOf (rs : List Kept) (nodes contents : ℕ → List Kept) : Type 0 where
  heads : filter is_head rs ≡ []
  node : (id : ℕ) → filter (is_node id) rs ≡ nodes id
  content : (id : ℕ) → filter (is_content id) rs ≡ contents id

same_number : (a b : ℕ) → (a == b) ≡ true → a ≡ b
same_number a b e = grind (arith, nat_tests, e)

put_node : (rs : List Kept) (g h : ℕ → List Kept) (r : NodeRecord) → AreOf rs g h → behind (g r.id) ≡ [] → AreOf (with_record (kept.Node r) rs) (λ id. if r.id == id then kept.Node r ∷ [] else g id) h
put_node rs g h r a one = record { heads = node_head r rs a.heads; node = λ id. at id (r.id == id) refl; content = λ id. node_content r id rs ∙ a.content id }
  where
    at : (id : ℕ) (b : Bool) → (r.id == id) ≡ b → filter (is_node id) (with_record (kept.Node r) rs) ≡ (if b then kept.Node r ∷ [] else g id)
    at id true e = subst (λ j. filter (is_node j) (with_record (kept.Node r) rs) ≡ kept.Node r ∷ []) (same_number r.id id e) (node_put r rs (ap behind (a.node r.id) ∙ one))
    at id false e = node_other r id rs e ∙ a.node id

put_content : (rs : List Kept) (g h : ℕ → List Kept) (r : ContentRecord) → AreOf rs g h → behind (h r.id) ≡ [] → AreOf (with_record (kept.Content r) rs) g (λ id. if r.id == id then kept.Content r ∷ [] else h id)
put_content rs g h r a one = record { heads = content_head r rs a.heads; node = λ id. content_node r id rs ∙ a.node id; content = λ id. at id (r.id == id) refl }
  where
    at : (id : ℕ) (b : Bool) → (r.id == id) ≡ b → filter (is_content id) (with_record (kept.Content r) rs) ≡ (if b then kept.Content r ∷ [] else h id)
    at id true e = subst (λ j. filter (is_content j) (with_record (kept.Content r) rs) ≡ kept.Content r ∷ []) (same_number r.id id e) (content_put r rs (ap behind (a.content r.id) ∙ one))
    at id false e = content_other r id rs e ∙ a.content id

drop_one : (rs : List Kept) (g h : ℕ → List Kept) (gone : ℕ) → AreOf rs g h → AreOf (filter (λ r. not (is_of gone r)) rs) (λ id. if gone == id then [] else g id) (λ id. if gone == id then [] else h id)
drop_one rs g h gone a = record { heads = drop_head gone rs a.heads; node = λ id. drop_node gone id rs ∙ ap (λ (z : List Kept). if gone == id then [] else z) (a.node id); content = λ id. drop_content gone id rs ∙ ap (λ (z : List Kept). if gone == id then [] else z) (a.content id) }

-- ---- those of a tree

abbrev nodes_in : List Node → ℕ → List Kept
nodes_in nodes id = node_records id (with_id nodes id)

abbrev contents_in : List Node → ℕ → List Kept
contents_in nodes id = content_records (with_id nodes id)

one_node : (id : ℕ) (o : Option Node) → behind (node_records id o) ≡ []
one_node id None = refl
one_node id (Some n) = by_root (id == 1)
  where
    by_root : (b : Bool) → behind (if b then [] else node_record n n.body ∷ []) ≡ []
    by_root true = refl
    by_root false = refl

one_content : (o : Option Node) → behind (content_records o) ≡ []
one_content None = refl
one_content (Some n) = by_body n.body
  where
    by_body : (b : Body) → behind (body_records n b) ≡ []
    by_body Directory = refl
    by_body (File c) = refl

of_root : AreOf [] (nodes_in (root 0 ∷ [])) (contents_in (root 0 ∷ []))
of_root = record { heads = refl; node = λ id. root_node id (1 == id) refl; content = λ id. root_content (1 == id) }
  where
    root_node : (id : ℕ) (b : Bool) → (1 == id) ≡ b → [] ≡ node_records id (if b then Some (root 0) else None)
    root_node id true e = let one : (id == 1) ≡ true = grind (arith, nat_tests, e) in rw one refl
    root_node id false e = refl

    root_content : (b : Bool) → [] ≡ content_records (if b then Some (root 0) else None)
    root_content true = refl
    root_content false = refl

starts : (records : List Kept) (t : Tree) → IsKept records t → AreOf (headless records) (nodes_in t.nodes) (contents_in t.nodes)
starts records t (inl none) = subst (λ z. AreOf (headless z) (nodes_in t.nodes) (contents_in t.nodes)) (sym none.0) (subst (λ (u : Tree). AreOf [] (nodes_in u.nodes) (contents_in u.nodes)) (sym none.1) of_root)
starts records t (inr some) =
    let a : AreOf some.0 (nodes_in t.nodes) (contents_in t.nodes) = record { heads = some.2.heads; node = some.2.nodes; content = some.2.contents } in
    subst (λ z. AreOf (headless z) (nodes_in t.nodes) (contents_in t.nodes)) (sym some.1) (subst (λ z. AreOf z (nodes_in t.nodes) (contents_in t.nodes)) (sym (headless_same some.0 some.2.heads)) a)

ends_in : (rs : List Kept) (g h : ℕ → List Kept) (t : Tree) → AreOf rs g h → ((id : ℕ) → g id ≡ nodes_in t.nodes id) → ((id : ℕ) → h id ≡ contents_in t.nodes id) → IsKept (kept.Head (head_of t) ∷ rs) t
ends_in rs g h t a same_nodes same_contents = inr (rs, refl, record { heads = a.heads; nodes = λ id. a.node id ∙ same_nodes id; contents = λ id. a.content id ∙ same_contents id })

-- ---- a version of a directory isn't kept

abbrev with_version : ℕ → Node → Node
with_version v = λ n. record n { version = v }

version_record : (v : ℕ) (n : Node) (b : Body) → node_record (with_version v n) b ≡ node_record n b
version_record v n Directory = refl
version_record v n (File c) = refl

version_node : (v id : ℕ) (b : Bool) (o : Option Node) → node_records id o ≡ node_records id (if b then option_map (with_version v) o else o)
version_node v id true None = refl
version_node v id true (Some n) = ap (λ (r : Kept). if id == 1 then [] else r ∷ []) (sym (version_record v n n.body))
version_node v id false o = refl

-- what has no content
abbrev IsBare : Option Node → Type 0
IsBare o = content_records o ≡ []

version_bare : (v : ℕ) (o : Option Node) → IsBare o → content_records o ≡ content_records (option_map (with_version v) o)
version_bare v None bare = refl
version_bare v (Some n) bare = bare ∙ by_body n.body bare
  where
    by_body : (b : Body) → body_records n b ≡ [] → [] ≡ body_records (with_version v n) b
    by_body Directory e = refl
    by_body (File c) e = absurd cc

version_content : (v : ℕ) (b : Bool) (o : Option Node) → (b ≡ true → IsBare o) → content_records o ≡ content_records (if b then option_map (with_version v) o else o)
version_content v true o bare = version_bare v o (bare refl)
version_content v false o bare = refl

-- so a directory's version may change
same_nodes : (nodes : List Node) (dir v id : ℕ) → nodes_in nodes id ≡ nodes_in (versioned nodes dir v) id
same_nodes nodes dir v id = version_node v id (dir == id) (with_id nodes id) ∙ ap (node_records id) (sym (with_id_changed (with_version v) (λ n. refl) nodes dir id))

same_contents : (nodes : List Node) (dir v id : ℕ) → IsBare (with_id nodes dir) → contents_in nodes id ≡ contents_in (versioned nodes dir v) id
same_contents nodes dir v id bare = version_content v (dir == id) (with_id nodes id) (λ e. subst (λ j. IsBare (with_id nodes j)) (same_number dir id e) bare) ∙ ap content_records (sym (with_id_changed (with_version v) (λ n. refl) nodes dir id))

bare_directory : (o : Option Node) (d : Node) → o ≡ Some d → is_directory d.body ≡ true → IsBare o
bare_directory o d e is = subst IsBare (sym e) (by_body d.body is)
  where
    by_body : (b : Body) → is_directory b ≡ true → body_records d b ≡ []
    by_body Directory same = refl
    by_body (File c) same = absurd cc

-- ---- a node more

record_kind : (n : Node) (b : Body) → kept.Node (record { id = n.id; parent = n.parent; kind = kind_of b; name = n.name }) ≡ node_record n b
record_kind n Directory = refl
record_kind n (File c) = refl

abbrev node_of_new : (n : Node) → NodeRecord
node_of_new n = record { id = n.id; parent = n.parent; kind = kind_of n.body; name = n.name }

new_node : (n : Node) (id : ℕ) (b : Bool) (o : Option Node) → (n.id == id) ≡ b → (n.id == 1) ≡ false → (if b then kept.Node (node_of_new n) ∷ [] else node_records id o) ≡ node_records id (if b then Some n else o)
new_node n id true o e other = let not_root : (id == 1) ≡ false = grind (arith, nat_tests, e, other) in rw not_root (ap (λ (r : Kept). r ∷ []) (record_kind n n.body))
new_node n id false o e other = refl

added_nodes : (nodes : List Node) (n : Node) (id : ℕ) → with_id nodes n.id ≡ None → (n.id == 1) ≡ false → (if n.id == id then kept.Node (node_of_new n) ∷ [] else nodes_in nodes id) ≡ nodes_in (with_node nodes n) id
added_nodes nodes n id fresh other = new_node n id (n.id == id) (with_id nodes id) refl other ∙ ap (node_records id) (sym (with_id_with nodes n id fresh))

-- in a directory that is there
below_new : (nodes : List Node) (n d : Node) → with_id nodes n.id ≡ None → with_id nodes n.parent ≡ Some d → is_directory d.body ≡ true → IsBare (with_id (with_node nodes n) n.parent)
below_new nodes n d fresh there is = subst IsBare (sym (with_id_with nodes n n.parent fresh)) (at (n.id == n.parent) refl)
  where
    at : (b : Bool) → (n.id == n.parent) ≡ b → IsBare (if b then Some n else with_id nodes n.parent)
    at true e = absurd (never (sym (subst (λ j. with_id nodes j ≡ None) (same_number n.id n.parent e) fresh) ∙ there))
      where
        never : ◌≡◌ {A = Option Node} None (Some d) → ⊥
        never same = absurd cc
    at false e = bare_directory (with_id nodes n.parent) d there is

new_content : (n : Node) (c : List ℕ) (b : Bool) (o : Option Node) → n.body ≡ File c → (if b then kept.Content (record { id = n.id; version = n.version; bytes = c }) ∷ [] else content_records o) ≡ content_records (if b then Some n else o)
new_content n c true o e = ap (body_records n) (sym e)
new_content n c false o e = refl

no_content : (n : Node) (b : Bool) (o : Option Node) → n.body ≡ Directory → (b ≡ true → o ≡ None) → content_records o ≡ content_records (if b then Some n else o)
no_content n true o e none = ap content_records (none refl) ∙ ap (body_records n) (sym e)
no_content n false o e none = refl

-- CREATE and MKDIR: a node in a directory, under an id that no node has
pub kept_made : (t : Tree) (n d : Node) (records : List Kept) → IsKept records t → with_id t.nodes n.id ≡ None → (n.id == 1) ≡ false → with_id t.nodes n.parent ≡ Some d → is_directory d.body ≡ true → IsKept (with_given (Some (gives_made (made t n) n)) records) (made t n)
kept_made t n d records k fresh other there is = by_body n.body refl
  where
    with_new : AreOf (with_record (kept.Node (node_of_new n)) (headless records)) (λ id. if n.id == id then kept.Node (node_of_new n) ∷ [] else nodes_in t.nodes id) (contents_in t.nodes)
    with_new = put_node (headless records) (nodes_in t.nodes) (contents_in t.nodes) (node_of_new n) (starts records t k) (one_node n.id (with_id t.nodes n.id))

    nodes : (id : ℕ) → (if n.id == id then kept.Node (node_of_new n) ∷ [] else nodes_in t.nodes id) ≡ nodes_in (made t n).nodes id
    nodes id = added_nodes t.nodes n id fresh other ∙ same_nodes (with_node t.nodes n) n.parent (t.changes + 1) id

    contents : (id : ℕ) → contents_in (with_node t.nodes n) id ≡ contents_in (made t n).nodes id
    contents id = same_contents (with_node t.nodes n) n.parent (t.changes + 1) id (below_new t.nodes n d fresh there is)

    by_body : (b : Body) → n.body ≡ b → IsKept (applied (head_of (made t n)) (node_change n) (content_change n b) records) (made t n)
    by_body Directory e =
        ends_in (with_record (kept.Node (node_of_new n)) (headless records)) (λ id. if n.id == id then kept.Node (node_of_new n) ∷ [] else nodes_in t.nodes id) (contents_in t.nodes) (made t n) with_new nodes
        (λ id. no_content n (n.id == id) (with_id t.nodes id) e (λ same. subst (λ j. with_id t.nodes j ≡ None) (same_number n.id id same) fresh) ∙ ap content_records (sym (with_id_with t.nodes n id fresh)) ∙ contents id)
    by_body (File c) e =
        let r : ContentRecord = record { id = n.id; version = n.version; bytes = c } in
        ends_in (with_record (kept.Content r) (with_record (kept.Node (node_of_new n)) (headless records))) (λ id. if n.id == id then kept.Node (node_of_new n) ∷ [] else nodes_in t.nodes id) (λ id. if n.id == id then kept.Content r ∷ [] else contents_in t.nodes id) (made t n)
        (put_content (with_record (kept.Node (node_of_new n)) (headless records)) (λ id. if n.id == id then kept.Node (node_of_new n) ∷ [] else nodes_in t.nodes id) (contents_in t.nodes) r with_new (one_content (with_id t.nodes n.id)))
        nodes
        (λ id. new_content n c (n.id == id) (with_id t.nodes id) e ∙ ap content_records (sym (with_id_with t.nodes n id fresh)) ∙ contents id)

-- ---- REMOVE and RMDIR

gone_node : (id : ℕ) (b : Bool) (o : Option Node) → (if b then [] else node_records id o) ≡ node_records id (if b then None else o)
gone_node id true o = refl
gone_node id false o = refl

gone_content : (b : Bool) (o : Option Node) → (if b then [] else content_records o) ≡ content_records (if b then None else o)
gone_content true o = refl
gone_content false o = refl

gone_bare : (b : Bool) (o : Option Node) → IsBare o → IsBare (if b then None else o)
gone_bare true o bare = refl
gone_bare false o bare = bare

without_nodes : (nodes : List Node) (gone id : ℕ) → (if gone == id then [] else nodes_in nodes id) ≡ nodes_in (without nodes gone) id
without_nodes nodes gone id = gone_node id (gone == id) (with_id nodes id) ∙ ap (node_records id) (sym (with_id_without nodes gone id))

without_contents : (nodes : List Node) (gone id : ℕ) → (if gone == id then [] else contents_in nodes id) ≡ contents_in (without nodes gone) id
without_contents nodes gone id = gone_content (gone == id) (with_id nodes id) ∙ ap content_records (sym (with_id_without nodes gone id))

without_bare : (nodes : List Node) (gone dir : ℕ) → IsBare (with_id nodes dir) → IsBare (with_id (without nodes gone) dir)
without_bare nodes gone dir bare = subst IsBare (sym (with_id_without nodes gone dir)) (gone_bare (gone == dir) (with_id nodes dir) bare)

pub kept_removed : (t : Tree) (dir gone : ℕ) (d : Node) (records : List Kept) → IsKept records t → with_id t.nodes dir ≡ Some d → is_directory d.body ≡ true → IsKept (with_given (Some (gives_removed (removed t dir gone) gone)) records) (removed t dir gone)
kept_removed t dir gone d records k there is =
    ends_in (filter (λ r. not (is_of gone r)) (headless records)) (λ id. if gone == id then [] else nodes_in t.nodes id) (λ id. if gone == id then [] else contents_in t.nodes id) (removed t dir gone)
    (drop_one (headless records) (nodes_in t.nodes) (contents_in t.nodes) gone (starts records t k))
    (λ id. without_nodes t.nodes gone id ∙ same_nodes (without t.nodes gone) dir (t.changes + 1) id)
    (λ id. without_contents t.nodes gone id ∙ same_contents (without t.nodes gone) dir (t.changes + 1) id (without_bare t.nodes gone dir (bare_directory (with_id t.nodes dir) d there is)))

-- ---- RENAME

abbrev elsewhere : Node → ℕ → List ℕ → Node
elsewhere n to to_name = record n { parent = to; name = to_name }

moved_node : (n : Node) (id : ℕ) (b : Bool) (o : Option Node) → (n.id == id) ≡ b → (n.id == 1) ≡ false → (if b then kept.Node (node_of_new n) ∷ [] else node_records id o) ≡ node_records id (if b then Some n else (if b then None else o))
moved_node n id true o e other = new_node n id true o e other
moved_node n id false o e other = refl

body_elsewhere : (n : Node) (to : ℕ) (to_name : List ℕ) (b : Body) → body_records n b ≡ body_records (elsewhere n to to_name) b
body_elsewhere n to to_name Directory = refl
body_elsewhere n to to_name (File c) = refl

moved_content : (n : Node) (to : ℕ) (to_name : List ℕ) (b : Bool) (o : Option Node) → (b ≡ true → o ≡ Some n) → content_records o ≡ content_records (if b then Some (elsewhere n to to_name) else (if b then None else o))
moved_content n to to_name true o same = ap content_records (same refl) ∙ body_elsewhere n to to_name n.body
moved_content n to to_name false o same = refl

gone_itself : (nodes : List Node) (id : ℕ) → with_id (without nodes id) id ≡ None
gone_itself nodes id = with_id_without nodes id id ∙ rw (self_test id) refl

found_placed : (nodes : List Node) (n : Node) (to : ℕ) (to_name : List ℕ) (id : ℕ) → with_id (placed nodes n to to_name) id ≡ (if n.id == id then Some (elsewhere n to to_name) else (if n.id == id then None else with_id nodes id))
found_placed nodes n to to_name id = with_id_with (without nodes n.id) (elsewhere n to to_name) id (gone_itself nodes n.id) ∙ ap (λ (o : Option Node). if n.id == id then Some (elsewhere n to to_name) else o) (with_id_without nodes n.id id)

same_placed : (nodes : List Node) (n : Node) (to : ℕ) (to_name : List ℕ) (id : ℕ) → with_id nodes n.id ≡ Some n → contents_in nodes id ≡ contents_in (placed nodes n to to_name) id
same_placed nodes n to to_name id there = moved_content n to to_name (n.id == id) (with_id nodes id) (λ e. subst (λ j. with_id nodes j ≡ Some n) (same_number n.id id e) there) ∙ ap content_records (sym (found_placed nodes n to to_name id))

moves_in : (rs : List Kept) (nodes : List Node) (n : Node) (dir to : ℕ) (to_name : List ℕ) (next changes : ℕ) → AreOf rs (nodes_in nodes) (contents_in nodes) → with_id nodes n.id ≡ Some n → (n.id == 1) ≡ false → IsBare (with_id nodes dir) → IsBare (with_id nodes to) → IsKept (kept.Head (record { next = next; changes = changes }) ∷ with_record (kept.Node (node_of_new (elsewhere n to to_name))) rs) (record { nodes = versioned (versioned (placed nodes n to to_name) dir changes) to changes; next = next; changes = changes })
moves_in rs nodes n dir to to_name next changes a there other bare_from bare_to =
    let here = placed nodes n to to_name in
    let from_bare : IsBare (with_id here dir) = sym (same_placed nodes n to to_name dir there) ∙ bare_from in
    let to_bare : IsBare (with_id (versioned here dir changes) to) = sym (same_contents here dir changes to from_bare) ∙ sym (same_placed nodes n to to_name to there) ∙ bare_to in
    ends_in (with_record (kept.Node (node_of_new (elsewhere n to to_name))) rs) (λ id. if n.id == id then kept.Node (node_of_new (elsewhere n to to_name)) ∷ [] else nodes_in nodes id) (contents_in nodes)
    (record { nodes = versioned (versioned here dir changes) to changes; next = next; changes = changes })
    (put_node rs (nodes_in nodes) (contents_in nodes) (node_of_new (elsewhere n to to_name)) a (one_node n.id (with_id nodes n.id)))
    (λ id. moved_node (elsewhere n to to_name) id (n.id == id) (with_id nodes id) refl other ∙ ap (node_records id) (sym (found_placed nodes n to to_name id)) ∙ same_nodes here dir changes id ∙ same_nodes (versioned here dir changes) to changes id)
    (λ id. same_placed nodes n to to_name id there ∙ same_contents here dir changes id from_bare ∙ same_contents (versioned here dir changes) to changes id to_bare)

pub kept_moved : (t : Tree) (dir to : ℕ) (to_name : List ℕ) (n d e : Node) (records : List Kept) → IsKept records t → with_id t.nodes n.id ≡ Some n → (n.id == 1) ≡ false → with_id t.nodes dir ≡ Some d → is_directory d.body ≡ true → with_id t.nodes to ≡ Some e → is_directory e.body ≡ true → IsKept (with_given (Some (gives_moved (moved t dir n None to to_name) (elsewhere n to to_name) None)) records) (moved t dir n None to to_name)
kept_moved t dir to to_name n d e records k there other from is_from into is_into =
    moves_in (headless records) t.nodes n dir to to_name t.next (t.changes + 1) (starts records t k) there other (bare_directory (with_id t.nodes dir) d from is_from) (bare_directory (with_id t.nodes to) e into is_into)

pub kept_moved_over : (t : Tree) (dir to : ℕ) (to_name : List ℕ) (n gone d e : Node) (records : List Kept) → IsKept records t → with_id t.nodes n.id ≡ Some n → (gone.id == n.id) ≡ false → (n.id == 1) ≡ false → with_id t.nodes dir ≡ Some d → is_directory d.body ≡ true → with_id t.nodes to ≡ Some e → is_directory e.body ≡ true → IsKept (with_given (Some (gives_moved (moved t dir n (Some gone) to to_name) (elsewhere n to to_name) (Some gone))) records) (moved t dir n (Some gone) to to_name)
kept_moved_over t dir to to_name n gone d e records k there apart other from is_from into is_into =
    let a = drop_one (headless records) (nodes_in t.nodes) (contents_in t.nodes) gone.id (starts records t k) in
    moves_in (filter (λ r. not (is_of gone.id r)) (headless records)) (without t.nodes gone.id) n dir to to_name t.next (t.changes + 2)
    (record { heads = a.heads; node = λ id. a.node id ∙ without_nodes t.nodes gone.id id; content = λ id. a.content id ∙ without_contents t.nodes gone.id id })
    (with_id_without t.nodes gone.id n.id ∙ rw apart there) other
    (without_bare t.nodes gone.id dir (bare_directory (with_id t.nodes dir) d from is_from)) (without_bare t.nodes gone.id to (bare_directory (with_id t.nodes to) e into is_into))

-- ---- COMMITTMP

abbrev refilled : ℕ → List ℕ → Node → Node
refilled version content = λ n. record n { version = version; body = File content }

file_record : (version : ℕ) (content : List ℕ) (n : Node) (b : Body) → is_directory b ≡ false → node_record n b ≡ node_record (refilled version content n) (File content)
file_record version content n Directory e = absurd (true≢false e)
file_record version content n (File c) e = refl

refilled_node : (version : ℕ) (content : List ℕ) (n : Node) (id : ℕ) (b : Bool) (o : Option Node) → is_directory n.body ≡ false → (b ≡ true → o ≡ Some n) → node_records id o ≡ node_records id (if b then option_map (refilled version content) o else o)
refilled_node version content n id true o e same = subst (λ (p : Option Node). node_records id p ≡ node_records id (option_map (refilled version content) p)) (sym (same refl)) (ap (λ (r : Kept). if id == 1 then [] else r ∷ []) (file_record version content n n.body e))
refilled_node version content n id false o e same = refl

refilled_content : (version : ℕ) (content : List ℕ) (n : Node) (b : Bool) (o : Option Node) → (b ≡ true → o ≡ Some n) → (if b then kept.Content (record { id = n.id; version = version; bytes = content }) ∷ [] else content_records o) ≡ content_records (if b then option_map (refilled version content) o else o)
refilled_content version content n true o same = subst (λ (p : Option Node). kept.Content (record { id = n.id; version = version; bytes = content }) ∷ [] ≡ content_records (option_map (refilled version content) p)) (sym (same refl)) refl
refilled_content version content n false o same = refl

pub kept_replaced : (t : Tree) (n : Node) (version : ℕ) (content : List ℕ) (records : List Kept) → IsKept records t → with_id t.nodes n.id ≡ Some n → is_directory n.body ≡ false → IsKept (with_given (Some (gives_replaced (replaced t n.id version content) n.id version content)) records) (replaced t n.id version content)
kept_replaced t n version content records k there is =
    let r : ContentRecord = record { id = n.id; version = version; bytes = content } in
    ends_in (with_record (kept.Content r) (headless records)) (nodes_in t.nodes) (λ id. if n.id == id then kept.Content r ∷ [] else contents_in t.nodes id) (replaced t n.id version content)
    (put_content (headless records) (nodes_in t.nodes) (contents_in t.nodes) r (starts records t k) (one_content (with_id t.nodes n.id)))
    (λ id. refilled_node version content n id (n.id == id) (with_id t.nodes id) is (λ e. subst (λ j. with_id t.nodes j ≡ Some n) (same_number n.id id e) there) ∙ ap (node_records id) (sym (with_id_changed (refilled version content) (λ m. refl) t.nodes n.id id)))
    (λ id. refilled_content version content n (n.id == id) (with_id t.nodes id) (λ e. subst (λ j. with_id t.nodes j ≡ Some n) (same_number n.id id e) there) ∙ ap content_records (sym (with_id_changed (refilled version content) (λ m. refl) t.nodes n.id id)))

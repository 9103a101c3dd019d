-- What steps of a tree leave of its files, and of the ids that were given. No module but this one and the two behind it (`TreeCalls`, `TreeOpens`)
-- looks into nodes.
use Rattle.std.proofs.Common.{◌⊎◌, inl, inr, ◌≡◌, ℕ, ◌+◌, ◌<◌, ◌≤◌, List, [], ◌∷◌, length, Option, Some, None, Bool, true, false, not, ◌==◌, refl, sym, ap, ◌∙◌, subst, arith, if◌then◌else◌, cond}
use Rattle.std.specs.List.{AllByRecursion}
use Rattle.std.specs.Option.{option_map}
use Rattle.std.proofs.lemmas.Bool.Decides.{nat_tests}
use Rattle.tree_nodes.specs.declared.node.Node.{Node}
use Rattle.tree_nodes.specs.declared.node.Body.{Body}
use Rattle.tree_nodes.specs.declared.node.Body.TheVariants.{Directory, File as Plain}
use Rattle.tree_nodes.specs.Nodes.{with_id, with_node, without, versioned}
use Rattle.tree_nodes.specs.View.{NodesState}
use Rattle.tree_nodes.proofs.lemmas.Lists.{with_id_with, with_id_without, with_id_changed}
use Rattle.tree_reading.specs.Tree.{Tree, is_directory, content_of, contents_size, changes_most, file_most, tree_most}
use Rattle.file_tree.specs.Step.{made, removed, placed, moved_at, moved, replaced}
use Rattle.tree_reading.specs.View.{IsNodeBounded}
use Rattle.file_tree.specs.View.{AreIdsApart, IsWithinLimits}
use Rattle.tree_reading.proofs.lemmas.Found.{found_all}
use Rattle.file_tree.proofs.lemmas.Limits.{all_map, all_with, all_filter, all_changed, apart_with, apart_without, apart_changed, counted, limits_refilled, size_changed}
use Rattle.file_tree.proofs.lemmas.States.{id_is}
use Rattle.chunk_calls.specs.Files.{File, file_of_body, file_of_node, file_at}
pub use Rattle.server_law.specs.Facts.{IsGiven}

-- ---- what always holds

abbrev pub nodes_of : Tree → NodesState
nodes_of t = record { nodes = t.nodes; next = t.next; room = 0 }

-- within the limits: ids that were given once, versions that were counted, no more bytes than a file, and than a tree, may have
abbrev pub IsBounded : Tree → Type 0
IsBounded t = IsWithinLimits (nodes_of t) t.changes

pub given : (t : Tree) → IsBounded t → IsGiven t
given t h = record { below = all_map (IsNodeBounded t.next t.changes) (λ n. n.id < t.next) (λ n b. b.id) t.nodes h.each; apart = h.apart }

pub some_is : {A : Type 0} (a b : A) → Some a ≡ Some b → a ≡ b
some_is a b e = cc

pub below_next : (t : Tree) (id : ℕ) (n : Node) → IsGiven t → with_id t.nodes id ≡ Some n → id < t.next
below_next t id n h at =
    let b = found_all (λ (m : Node). m.id < t.next) (λ m. m.id == id) t.nodes n h.below at in
    let e = id_is t.nodes id n at in
    omega (arith, b, e)

-- the next id names nothing
pub next_free : (t : Tree) → IsGiven t → with_id t.nodes t.next ≡ None
next_free t h = by (with_id t.nodes t.next) refl
  where
    by : (o : Option Node) → with_id t.nodes t.next ≡ o → o ≡ None
    by None e = refl
    by (Some n) e = let lt = below_next t t.next n h e in absurd (omega (arith, lt))

pub file_below : (t : Tree) (f : ℕ) (g : File) → IsGiven t → file_at t f ≡ Some g → f < t.next
file_below t f g h at = by (with_id t.nodes f) refl at
  where
    by : (o : Option Node) → with_id t.nodes f ≡ o → file_of_node o ≡ Some g → f < t.next
    by None e at = absurd cc
    by (Some n) e at = below_next t f n h e

-- what is known of a node that is a file
pub record IsNode (t : Tree) (f : ℕ) (g : File) : Type 0 where
  pub node : Node
  pub there : with_id t.nodes f ≡ Some node
  pub body : node.body ≡ Plain g.content
  pub id : node.id ≡ g.id
  pub version : node.version ≡ g.version

node_in : (n : Node) (b : Body) (g : File) → n.body ≡ b → file_of_body n b ≡ Some g → (n.body ≡ Plain g.content) × (n.id ≡ g.id) × (n.version ≡ g.version)
node_in n Directory g e at = absurd cc
node_in n (Plain c) g e at =
    let same : ◌≡◌ {A = File} (record { id = n.id; version = n.version; content = c }) g = some_is (record { id = n.id; version = n.version; content = c }) g at in
    (e ∙ ap (λ (z : File). Plain z.content) same, ap (λ (z : File). z.id) same, ap (λ (z : File). z.version) same)

pub file_node : (t : Tree) (f : ℕ) (g : File) → file_at t f ≡ Some g → IsNode t f g
file_node t f g at = by (with_id t.nodes f) refl at
  where
    by : (o : Option Node) → with_id t.nodes f ≡ o → file_of_node o ≡ Some g → IsNode t f g
    by None e at = absurd cc
    by (Some n) e at = let h = node_in n n.body g refl at in record { node = n; there = e; body = h.0; id = h.1; version = h.2 }

-- a file stands under its own id, in a version that was counted, and is within the limit
pub file_id : (t : Tree) (f : ℕ) (g : File) → file_at t f ≡ Some g → g.id ≡ f
file_id t f g at = let n = file_node t f g at in sym n.id ∙ id_is t.nodes f n.node n.there

pub file_bounded : (t : Tree) (f : ℕ) (g : File) → IsBounded t → file_at t f ≡ Some g → (g.version ≤ t.changes) × (length g.content ≤ file_most)
file_bounded t f g h at =
    let n = file_node t f g at in
    let b = found_all (IsNodeBounded t.next t.changes) (λ m. m.id == f) t.nodes n.node h.each n.there in
    let v = n.version in
    let w = b.version in
    (omega (arith, v, w), subst (λ (z : Body). length (content_of z) ≤ file_most) n.body b.content)

-- ---- a directory's names are no part of a file

-- a node that is no file
abbrev pub NoFile : List Node → ℕ → Type 0
NoFile ns id = file_of_node (with_id ns id) ≡ None

directory_in : (n : Node) (b : Body) → n.body ≡ b → is_directory b ≡ true → file_of_body n n.body ≡ None
directory_in n Directory e is = ap (file_of_body n) e
directory_in n (Plain c) e is = absurd cc

pub no_file : (ns : List Node) (id : ℕ) (d : Node) → with_id ns id ≡ Some d → is_directory d.body ≡ true → NoFile ns id
no_file ns id d there is = ap file_of_node there ∙ directory_in d d.body refl is

versioned_none : (o : Option Node) (version : ℕ) → file_of_node o ≡ None → file_of_node (option_map (λ (n : Node). record n { version = version }) o) ≡ None
versioned_none None version e = refl
versioned_none (Some n) version e = by n.body e
  where
    by : (b : Body) → file_of_body n b ≡ None → file_of_body (record n { version = version }) b ≡ None
    by Directory e = refl
    by (Plain c) e = absurd cc

-- another version of a directory changes no file
pub versioned_files : (ns : List Node) (dir version f : ℕ) → NoFile ns dir → file_of_node (with_id (versioned ns dir version) f) ≡ file_of_node (with_id ns f)
versioned_files ns dir version f none = ap file_of_node (with_id_changed (λ n. record n { version = version }) (λ n. refl) ns dir f) ∙ by (dir == f) refl
  where
    by : (b : Bool) → (dir == f) ≡ b → file_of_node (if b then option_map (λ (n : Node). record n { version = version }) (with_id ns f) else with_id ns f) ≡ file_of_node (with_id ns f)
    by true same =
        let e : dir ≡ f = grind (arith, nat_tests, same) in
        let gone = subst (λ (i : ℕ). NoFile ns i) e none in
        versioned_none (with_id ns f) version gone ∙ sym gone
    by false other = refl

-- what is left where a node goes
pub without_none : (ns : List Node) (gone id : ℕ) → NoFile ns id → NoFile (without ns gone) id
without_none ns gone id none = ap file_of_node (with_id_without ns gone id) ∙ by (gone == id)
  where
    by : (b : Bool) → file_of_node (if b then None else with_id ns id) ≡ None
    by true = refl
    by false = none

-- ---- what has become of a file

-- it is gone, or as it was, or in a later version
abbrev pub IsSince : Option File → Option File → Type 0
IsSince g None = Unit {0}
IsSince None (Some h) = ⊥
IsSince (Some g) (Some h) = (g.version < h.version) ⊎ ((g.version ≡ h.version) × (g.content ≡ h.content))

since_same : (o : Option File) → IsSince o o
since_same None = tt
since_same (Some g) = inr (refl, refl)

since_join : (a b c : Option File) → IsSince a b → IsSince b c → IsSince a c
since_join a b None p q = tt
since_join None None (Some h) p q = q
since_join None (Some g) (Some h) p q = absurd p
since_join (Some f) None (Some h) p q = absurd q
since_join (Some f) (Some g) (Some h) (inl x) (inl y) = inl (omega (arith, x, y))
since_join (Some f) (Some g) (Some h) (inl x) (inr y) = let e = y.0 in inl (omega (arith, x, e))
since_join (Some f) (Some g) (Some h) (inr x) (inl y) = let e = x.0 in inl (omega (arith, y, e))
since_join (Some f) (Some g) (Some h) (inr x) (inr y) = inr (x.0 ∙ y.0, x.1 ∙ y.1)

-- no id is given twice, and a file that is there still is as it was, or in a later version
pub record IsLater (a b : Tree) : Type 0 where
  pub next : a.next ≤ b.next
  pub files : (f : ℕ) → f < a.next → IsSince (file_at a f) (file_at b f)

pub later_same : (a : Tree) → IsLater a a
later_same a = record { next = omega arith; files = λ f lt. since_same (file_at a f) }

pub later_join : (a b c : Tree) → IsLater a b → IsLater b c → IsLater a c
later_join a b c p q = let x = p.next in let y = q.next in record { next = omega (arith, x, y); files = λ f lt. since_join (file_at a f) (file_at b f) (file_at c f) (p.files f lt) (q.files f (omega (arith, lt, x))) }

-- what a step of a tree keeps
abbrev pub Keeps : Tree → Tree → Type 0
Keeps a b = IsGiven a → IsGiven b × IsLater a b

pub keeps_same : (a : Tree) → Keeps a a
keeps_same a h = (h, later_same a)

-- ---- a node more

pub given_with : (ns : List Node) (next : ℕ) (n : Node) → n.id ≡ next → AllByRecursion (λ (m : Node). m.id < next) ns → AreIdsApart ns → AllByRecursion (λ (m : Node). m.id < next + 1) (with_node ns n) × AreIdsApart (with_node ns n)
given_with ns next n new below apart = (
  all_with (λ (m : Node). m.id < next + 1) ns n (all_map (λ m. m.id < next) (λ m. m.id < next + 1) (λ m lt. omega (arith, lt)) ns below) (omega (arith, new)),
  apart_with ns n apart (all_map (λ m. m.id < next) (λ m. (m.id == n.id) ≡ false) (λ m lt. other m.id lt) ns below),
)
  where
    other : (i : ℕ) → i < next → (i == n.id) ≡ false
    other i lt = grind (arith, nat_tests, lt, new)

pub given_versioned : (ns : List Node) (next dir version : ℕ) → AllByRecursion (λ (m : Node). m.id < next) ns → AreIdsApart ns → AllByRecursion (λ (m : Node). m.id < next) (versioned ns dir version) × AreIdsApart (versioned ns dir version)
given_versioned ns next dir version below apart = (all_changed (λ (m : Node). m.id < next) (λ m. record m { version = version }) (λ m lt. lt) ns dir below, apart_changed (λ m. record m { version = version }) (λ m. refl) ns dir apart)

pub given_without : (ns : List Node) (next gone : ℕ) → AllByRecursion (λ (m : Node). m.id < next) ns → AreIdsApart ns → AllByRecursion (λ (m : Node). m.id < next) (without ns gone) × AreIdsApart (without ns gone)
given_without ns next gone below apart = (all_filter (λ (m : Node). m.id < next) (λ m. not (m.id == gone)) ns below, apart_without ns gone apart)

-- with a node more that has the next id
pub with_files : (ns : List Node) (n : Node) (f : ℕ) → with_id ns n.id ≡ None → file_of_node (with_id (with_node ns n) f) ≡ (if n.id == f then file_of_node (Some n) else file_of_node (with_id ns f))
with_files ns n f free = ap file_of_node (with_id_with ns n f free) ∙ by (n.id == f)
  where
    by : (b : Bool) → file_of_node (if b then Some n else with_id ns f) ≡ (if b then file_of_node (Some n) else file_of_node (with_id ns f))
    by true = refl
    by false = refl

pub made_files : (t : Tree) (n d : Node) (f : ℕ) → IsGiven t → n.id ≡ t.next → with_id t.nodes n.parent ≡ Some d → is_directory d.body ≡ true → file_at (made t n) f ≡ (if n.id == f then file_of_node (Some n) else file_at t f)
made_files t n d f h new there is =
    let free : with_id t.nodes n.id ≡ None = ap (with_id t.nodes) new ∙ next_free t h in
    let lt = below_next t n.parent d h there in
    let other : (n.id == n.parent) ≡ false = grind (arith, nat_tests, lt, new) in
    let none : NoFile (with_node t.nodes n) n.parent = with_files t.nodes n n.parent free ∙ ap (λ (b : Bool). if b then file_of_node (Some n) else file_at t n.parent) other ∙ no_file t.nodes n.parent d there is in
    versioned_files (with_node t.nodes n) n.parent (t.changes + 1) f none ∙ with_files t.nodes n f free

pub made_keeps : (t : Tree) (n d : Node) → n.id ≡ t.next → with_id t.nodes n.parent ≡ Some d → is_directory d.body ≡ true → Keeps t (made t n)
made_keeps t n d new there is h =
    let a = given_with t.nodes t.next n new h.below h.apart in
    let b = given_versioned (with_node t.nodes n) (t.next + 1) n.parent (t.changes + 1) a.0 a.1 in (
      record { below = b.0; apart = b.1 },
      record {
        next = omega arith;
        files = λ f lt. subst (IsSince (file_at t f)) (sym (made_files t n d f h new there is ∙ ap (λ (b : Bool). if b then file_of_node (Some n) else file_at t f) (other f lt))) (since_same (file_at t f));
      },
    )
  where
    other : (f : ℕ) → f < t.next → (n.id == f) ≡ false
    other f lt = grind (arith, nat_tests, lt, new)

-- ---- a node less

pub removed_files : (t : Tree) (dir id : ℕ) (f : ℕ) → NoFile t.nodes dir → file_at (removed t dir id) f ≡ (if id == f then None else file_at t f)
removed_files t dir id f none = versioned_files (without t.nodes id) dir (t.changes + 1) f (without_none t.nodes id dir none) ∙ ap file_of_node (with_id_without t.nodes id f) ∙ by (id == f)
  where
    by : (b : Bool) → file_of_node (if b then None else with_id t.nodes f) ≡ (if b then None else file_at t f)
    by true = refl
    by false = refl

pub removed_keeps : (t : Tree) (dir id : ℕ) → NoFile t.nodes dir → Keeps t (removed t dir id)
removed_keeps t dir id none h =
    let a = given_without t.nodes t.next id h.below h.apart in
    let b = given_versioned (without t.nodes id) t.next dir (t.changes + 1) a.0 a.1 in (
      record { below = b.0; apart = b.1 },
      record { next = omega arith; files = λ f lt. subst (IsSince (file_at t f)) (sym (removed_files t dir id f none)) (by f (id == f)) },
    )
  where
    by : (f : ℕ) (b : Bool) → IsSince (file_at t f) (if b then None else file_at t f)
    by f true = tt
    by f false = since_same (file_at t f)

-- ---- another content

abbrev pub refill : ℕ → List ℕ → Node → Node
refill version content m = record m { version = version; body = Plain content }

pub replaced_own : (t : Tree) (f version : ℕ) (content : List ℕ) (g : File) → file_at t f ≡ Some g → file_at (replaced t f version content) f ≡ Some (record g { version = version; content = content })
replaced_own t f version content g at =
    let n = file_node t f g at in
    let same : (f == f) ≡ true = grind (arith, nat_tests) in
    ap file_of_node (with_id_changed (refill version content) (λ m. refl) t.nodes f f ∙ ap (λ (b : Bool). if b then option_map (refill version content) (with_id t.nodes f) else with_id t.nodes f) same ∙ ap (option_map (refill version content)) n.there)
    ∙ ap (λ (i : ℕ). Some (record { id = i; version = version; content = content })) n.id

pub replaced_other : (t : Tree) (id version : ℕ) (content : List ℕ) (f : ℕ) → (f ≡ id → ⊥) → file_at (replaced t id version content) f ≡ file_at t f
replaced_other t id version content f apart =
    let other : (id == f) ≡ false = by (id == f) refl in
    ap file_of_node (with_id_changed (refill version content) (λ m. refl) t.nodes id f ∙ ap (λ (b : Bool). if b then option_map (refill version content) (with_id t.nodes f) else with_id t.nodes f) other)
  where
    by : (b : Bool) → (id == f) ≡ b → b ≡ false
    by true same = absurd (apart (grind (arith, nat_tests, same)))
    by false other = refl

pub replaced_size : (t : Tree) (id version : ℕ) (content : List ℕ) (g : File) → IsBounded t → file_at t id ≡ Some g → contents_size (replaced t id version content).nodes + length g.content ≡ contents_size t.nodes + length content
replaced_size t id version content g h at =
    let n = file_node t id g at in
    ap (λ (b : Body). contents_size (replaced t id version content).nodes + length (content_of b)) (sym n.body) ∙ size_changed (refill version content) t.nodes id n.node h.apart n.there

pub replaced_bounded : (t : Tree) (id : ℕ) (content : List ℕ) (g : File) → file_at t id ≡ Some g → t.changes + 1 ≤ changes_most → length content ≤ file_most → contents_size t.nodes + length content ≤ tree_most → IsBounded t → IsBounded (replaced t id (g.version + 1) content)
replaced_bounded t id content g at most short small h =
    let n = file_node t id g at in
    let same : n.node.id ≡ id = id_is t.nodes id n.node n.there in
    let le = (file_bounded t id g h at).0 in
    subst (λ (i : ℕ). IsBounded (replaced t i (g.version + 1) content)) same (limits_refilled (nodes_of t) (t.changes + 1) n.node (g.version + 1) content 0 (counted (nodes_of t) t.changes (t.changes + 1) h (omega arith) most) (ap (with_id t.nodes) same ∙ n.there) (omega (arith, le)) short small)

pub replaced_keeps : (t : Tree) (id : ℕ) (content : List ℕ) (g : File) → file_at t id ≡ Some g → Keeps t (replaced t id (g.version + 1) content)
replaced_keeps t id content g at h = (
  record {
    below = all_changed (λ (m : Node). m.id < t.next) (refill (g.version + 1) content) (λ m lt. lt) t.nodes id h.below;
    apart = apart_changed (refill (g.version + 1) content) (λ m. refl) t.nodes id h.apart;
  },
  record { next = omega arith; files = λ f lt. by f (f == id) refl },
)
  where
    by : (f : ℕ) (b : Bool) → (f == id) ≡ b → IsSince (file_at t f) (file_at (replaced t id (g.version + 1) content) f)
    by f true same =
        let e : f ≡ id = grind (arith, nat_tests, same) in
        subst (λ (i : ℕ). IsSince (file_at t i) (file_at (replaced t id (g.version + 1) content) i)) (sym e) (subst (λ (o : Option File). IsSince o (file_at (replaced t id (g.version + 1) content) id)) (sym at) (subst (IsSince (Some g)) (sym (replaced_own t id (g.version + 1) content g at)) (inl (omega arith))))
    by f false other = subst (IsSince (file_at t f)) (sym (replaced_other t id (g.version + 1) content f (λ e. apart e other))) (since_same (file_at t f))
      where
        apart : f ≡ id → (f == id) ≡ false → ⊥
        apart e other = let same : (f == id) ≡ true = grind (arith, nat_tests, e) in absurd cc

-- ---- a node under another name

pub shifted_files : (ns : List Node) (n : Node) (to : ℕ) (name : List ℕ) (f : ℕ) → with_id ns n.id ≡ Some n → file_of_node (with_id (placed ns n to name) f) ≡ file_of_node (with_id ns f)
shifted_files ns n to name f at = with_files (without ns n.id) (record n { parent = to; name = name }) f gone ∙ ap (λ (o : Option Node). if n.id == f then file_of_node (Some n) else file_of_node o) (with_id_without ns n.id f) ∙ by (n.id == f) refl
  where
    self : (n.id == n.id) ≡ true
    self = grind (arith, nat_tests)

    gone : with_id (without ns n.id) n.id ≡ None
    gone = with_id_without ns n.id n.id ∙ ap (λ (b : Bool). if b then None else with_id ns n.id) self

    is_id : (n.id == f) ≡ true → n.id ≡ f
    is_id same = grind (arith, nat_tests, same)

    by : (b : Bool) → (n.id == f) ≡ b → (if b then file_of_node (Some n) else file_of_node (if b then None else with_id ns f)) ≡ file_of_node (with_id ns f)
    by true same = ap file_of_node (sym at ∙ ap (with_id ns) (is_id same))
    by false other = refl

given_placed : (ns : List Node) (next : ℕ) (n : Node) (to : ℕ) (name : List ℕ) → n.id < next → AllByRecursion (λ (m : Node). m.id < next) ns → AreIdsApart ns → AllByRecursion (λ (m : Node). m.id < next) (placed ns n to name) × AreIdsApart (placed ns n to name)
given_placed ns next n to name lt below apart =
    let a = given_without ns next n.id below apart in (
      all_with (λ (m : Node). m.id < next) (without ns n.id) (record n { parent = to; name = name }) a.0 lt,
      apart_with (without ns n.id) (record n { parent = to; name = name }) a.1 (gone ns),
    )
  where
    gone_if : (m : Node) (ms : List Node) (b : Bool) → (m.id == n.id) ≡ b → AllByRecursion (λ (k : Node). (k.id == n.id) ≡ false) (without ms n.id) → AllByRecursion (λ (k : Node). (k.id == n.id) ≡ false) (cond (not b) (m ∷ without ms n.id) (without ms n.id))
    gone_if m ms true e later = later
    gone_if m ms false e later = (e, later)

    gone : (ms : List Node) → AllByRecursion (λ (k : Node). (k.id == n.id) ≡ false) (without ms n.id)
    gone [] = tt
    gone (m ∷ ms) = gone_if m ms (m.id == n.id) refl (gone ms)

pub moved_at_files : (t : Tree) (ns : List Node) (n : Node) (dir to changes : ℕ) (name : List ℕ) (f : ℕ) → with_id ns n.id ≡ Some n → NoFile ns dir → NoFile ns to → file_at (moved_at t dir n ns to name changes) f ≡ file_of_node (with_id ns f)
moved_at_files t ns n dir to changes name f at from into =
    let a : NoFile (placed ns n to name) dir = shifted_files ns n to name dir at ∙ from in
    let b : NoFile (versioned (placed ns n to name) dir changes) to = versioned_files (placed ns n to name) dir changes to a ∙ shifted_files ns n to name to at ∙ into in
    versioned_files (versioned (placed ns n to name) dir changes) to changes f b ∙ versioned_files (placed ns n to name) dir changes f a ∙ shifted_files ns n to name f at

-- a node that is there goes under another name, and both directories have another version
moved_at_keeps : (t : Tree) (ns : List Node) (n : Node) (dir to changes : ℕ) (name : List ℕ) → ((f : ℕ) → IsSince (file_at t f) (file_of_node (with_id ns f))) → n.id < t.next → AllByRecursion (λ (m : Node). m.id < t.next) ns → AreIdsApart ns → with_id ns n.id ≡ Some n → NoFile ns dir → NoFile ns to → IsGiven (moved_at t dir n ns to name changes) × IsLater t (moved_at t dir n ns to name changes)
moved_at_keeps t ns n dir to changes name since lt below apart at from into =
    let p = given_placed ns t.next n to name lt below apart in
    let q = given_versioned (placed ns n to name) t.next dir changes p.0 p.1 in
    let r = given_versioned (versioned (placed ns n to name) dir changes) t.next to changes q.0 q.1 in
    let a : NoFile (placed ns n to name) dir = shifted_files ns n to name dir at ∙ from in
    let b : NoFile (versioned (placed ns n to name) dir changes) to = versioned_files (placed ns n to name) dir changes to a ∙ shifted_files ns n to name to at ∙ into in (
      record { below = r.0; apart = r.1 },
      record {
        next = omega arith;
        files = λ f u. subst (IsSince (file_at t f)) (sym (versioned_files (versioned (placed ns n to name) dir changes) to changes f b ∙ versioned_files (placed ns n to name) dir changes f a ∙ shifted_files ns n to name f at)) (since f);
      },
    )

pub moved_keeps : (t : Tree) (dir : ℕ) (n : Node) (o : Option Node) (to : ℕ) (name : List ℕ) → ((m : Node) → o ≡ Some m → (m.id == n.id) ≡ false) → with_id t.nodes n.id ≡ Some n → NoFile t.nodes dir → NoFile t.nodes to → Keeps t (moved t dir n o to name)
moved_keeps t dir n None to name apart at from into h = moved_at_keeps t t.nodes n dir to (t.changes + 1) name (λ f. since_same (file_at t f)) (below_next t n.id n h at) h.below h.apart at from into
moved_keeps t dir n (Some m) to name apart at from into h =
    let a = given_without t.nodes t.next m.id h.below h.apart in
    let still : with_id (without t.nodes m.id) n.id ≡ Some n = with_id_without t.nodes m.id n.id ∙ ap (λ (b : Bool). if b then None else with_id t.nodes n.id) (apart m refl) ∙ at in
    moved_at_keeps t (without t.nodes m.id) n dir to (t.changes + 2) name (λ f. gone_since f) (below_next t n.id n h at) a.0 a.1 still (without_none t.nodes m.id dir from) (without_none t.nodes m.id to into)
  where
    gone_since : (f : ℕ) → IsSince (file_at t f) (file_of_node (with_id (without t.nodes m.id) f))
    gone_since f = subst (λ (o : Option Node). IsSince (file_at t f) (file_of_node o)) (sym (with_id_without t.nodes m.id f)) (by (m.id == f))
      where
        by : (b : Bool) → IsSince (file_at t f) (file_of_node (if b then None else with_id t.nodes f))
        by true = tt
        by false = since_same (file_at t f)

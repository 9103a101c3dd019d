-- What each call leaves of the directories of a tree: in one version a directory has one list of names.
use Rattle.std.proofs.Common.{inl, inr, ◌≡◌, ℕ, ◌+◌, ◌<◌, ◌≤◌, List, [], ◌∷◌, Option, Some, None, Bool, true, false, not, ◌==◌, ◌&&◌, refl, sym, ap, ◌∙◌, subst, arith, if◌then◌else◌}
use Rattle.std.specs.List.{find, AllByRecursion}
use Rattle.std.specs.Option.{option_map}
use Rattle.std.specs.Str.{bytes_eq}
use Rattle.std.proofs.lemmas.Bool.Decides.{nat_tests}
use Rattle.tree_nodes.specs.declared.node.Node.{Node}
use Rattle.tree_nodes.specs.declared.node.Body.{Body}
use Rattle.tree_nodes.specs.declared.node.Body.TheVariants.{Directory, File as Plain}
use Rattle.tree_nodes.specs.Nodes.{with_id, named, with_node, without, versioned}
use Rattle.tree_nodes.proofs.lemmas.Lists.{with_id_with, with_id_without, with_id_changed}
use Rattle.tree_reading.specs.Tree.{Tree, is_directory}
use Rattle.file_tree.specs.Step.{made, removed, placed, moved_at, moved, replaced}
use Rattle.file_tree.specs.View.{AreIdsApart}
use Rattle.tree_reading.proofs.lemmas.Found.{found_all}
use Rattle.file_tree.proofs.lemmas.Limits.{all_map, all_with, all_filter, all_changed, apart_without}
use Rattle.file_tree.proofs.lemmas.States.{named_id}
use Rattle.chunk_calls.specs.Files.{File, file_at}
use Rattle.server_law.proofs.lemmas.Trees.{IsGiven, file_node, next_free, refill, made_keeps, removed_keeps, moved_keeps, replaced_keeps, no_file, some_is}
use Rattle.kept_promise.proofs.TreeDirs.{version_in, version_of, directory_version, names_in, names_with, names_without, names_changed, names_versioned, IsDirSince, dir_same, dir_join, IsLeft, version_versioned, dir_renewed, both_renewed}

-- ---- what is carried

-- each id was given once, and each version counted
pub record IsCounted (t : Tree) : Type 0 where
  pub given : IsGiven t
  pub versions : AllByRecursion (λ (n : Node). n.version ≤ t.changes) t.nodes

-- a directory that is there still has its names, or a later version
pub record AreDirsLater (a b : Tree) : Type 0 where
  pub each : (d : ℕ) → d < a.next → IsDirSince (directory_version a.nodes d) (directory_version b.nodes d) (names_in a.nodes d) (names_in b.nodes d)

abbrev pub KeepsDirs : Tree → Tree → Type 0
KeepsDirs a b = IsCounted a → IsCounted b × AreDirsLater a b

pub dirs_same : (a : Tree) → KeepsDirs a a
dirs_same a h = (h, record { each = λ d lt. dir_same (directory_version a.nodes d) (names_in a.nodes d) (names_in a.nodes d) refl })

pub dirs_join : (a b c : Tree) → a.next ≤ b.next → AreDirsLater a b → AreDirsLater b c → AreDirsLater a c
dirs_join a b c le p q = record { each = λ d lt. dir_join (directory_version a.nodes d) (directory_version b.nodes d) (directory_version c.nodes d) (names_in a.nodes d) (names_in b.nodes d) (names_in c.nodes d) (p.each d lt) (q.each d (omega (arith, lt, le))) }

-- a directory's version was counted
version_counted : (t : Tree) (d v : ℕ) → IsCounted t → directory_version t.nodes d ≡ Some v → v ≤ t.changes
version_counted t d v h is = by (with_id t.nodes d) refl is
  where
    of_body : (n : Node) (b : Body) → n.version ≤ t.changes → version_in n b ≡ Some v → v ≤ t.changes
    of_body n Directory le e = subst (λ (u : ℕ). u ≤ t.changes) (some_is n.version v e) le
    of_body n (Plain c) le e = absurd cc

    by : (o : Option Node) → with_id t.nodes d ≡ o → version_of o ≡ Some v → v ≤ t.changes
    by None at e = absurd cc
    by (Some n) at e = of_body n n.body (found_all (λ (m : Node). m.version ≤ t.changes) (λ m. m.id == d) t.nodes n h.versions at) e

-- ---- nodes and where they stand

both_true : (a b : Bool) → (a && b) ≡ true → a ≡ true
both_true true b e = refl
both_true false b e = e

find_is : (q : Node → Bool) (ns : List Node) (n : Node) → find q ns ≡ Some n → q n ≡ true
find_is q [] n e = absurd cc
find_is q (m ∷ ms) n e = by (q m) refl e (find_is q ms n)
  where
    by : (b : Bool) → q m ≡ b → (if b then Some m else find q ms) ≡ Some n → (find q ms ≡ Some n → q n ≡ true) → q n ≡ true
    by true is same later = subst (λ (k : Node). q k ≡ true) (some_is m n same) is
    by false is same later = later same

-- what has a name in a directory stands there
pub named_parent : (ns : List Node) (dir : ℕ) (name : List ℕ) (n : Node) → named ns dir name ≡ Some n → n.parent ≡ dir
named_parent ns dir name n e = let is : (n.parent == dir) ≡ true = both_true (n.parent == dir) (bytes_eq n.name name) (find_is (λ m. (m.parent == dir) && bytes_eq m.name name) ns n e) in grind (arith, nat_tests, is)

-- of a node that stands in another directory nothing is among these names
stands_else : (ns : List Node) (n : Node) (d : ℕ) → AreIdsApart ns → with_id ns n.id ≡ Some n → (n.parent == d) ≡ false → AllByRecursion (λ (m : Node). (m.id == n.id) ≡ true → (m.parent == d) ≡ false) ns
stands_else [] n d apart at other = tt
stands_else (m ∷ ms) n d apart at other = by (m.id == n.id) refl at (λ e. stands_else ms n d apart.1 e other)
  where
    none : (ks : List Node) → (m.id == n.id) ≡ true → AllByRecursion (λ (k : Node). (m.id == k.id) ≡ false) ks → AllByRecursion (λ (k : Node). (k.id == n.id) ≡ true → (k.parent == d) ≡ false) ks
    none [] is all = tt
    none (k ∷ ks) is all = (λ same. absurd (differ k same (all.0)), none ks is all.1)
      where
        differ : (k : Node) → (k.id == n.id) ≡ true → (m.id == k.id) ≡ false → ⊥
        differ k same apart = let a : m.id ≡ n.id = grind (arith, nat_tests, is) in let b : k.id ≡ n.id = grind (arith, nat_tests, same) in let c : (m.id == k.id) ≡ true = grind (arith, nat_tests, a, b) in absurd cc

    by : (b : Bool) → (m.id == n.id) ≡ b → (if b then Some m else with_id ms n.id) ≡ Some n → (with_id ms n.id ≡ Some n → AllByRecursion (λ (k : Node). (k.id == n.id) ≡ true → (k.parent == d) ≡ false) ms) → AllByRecursion (λ (k : Node). (k.id == n.id) ≡ true → (k.parent == d) ≡ false) (m ∷ ms)
    by true is same later = (λ u. ap (λ (k : Node). k.parent == d) (some_is m n same) ∙ other, none ms is apart.0)
    by false is same later = (λ u. absurd (no (sym is ∙ u)), later same)
      where
        no : false ≡ true → ⊥
        no e = absurd cc

-- a number is another, or it isn't
test_false : (a b : ℕ) → a ≡ b → (c : ℕ) → (b == c) ≡ false → (a == c) ≡ false
test_false a b e c f = ap (λ (z : ℕ). z == c) e ∙ f

-- ---- a node more

pub made_dirs : (t : Tree) (n d : Node) → n.id ≡ t.next → n.version ≤ t.changes + 1 → with_id t.nodes n.parent ≡ Some d → is_directory d.body ≡ true → KeepsDirs t (made t n)
made_dirs t n d new version there is h = (
  record {
    given = (made_keeps t n d new there is h.given).0;
    versions = all_changed (λ (m : Node). m.version ≤ t.changes + 1) (λ m. record m { version = t.changes + 1 }) (λ m le. omega arith) (with_node t.nodes n) n.parent (all_with (λ (m : Node). m.version ≤ t.changes + 1) t.nodes n (all_map (λ m. m.version ≤ t.changes) (λ m. m.version ≤ t.changes + 1) (λ m le. omega (arith, le)) t.nodes h.versions) version);
  },
  record { each = λ f lt. subst (λ (o : Option ℕ). IsDirSince (directory_version t.nodes f) o (names_in t.nodes f) (names_in (made t n).nodes f)) (sym (version_versioned (with_node t.nodes n) n.parent (t.changes + 1) f)) (dir_renewed (directory_version t.nodes f) (directory_version (with_node t.nodes n) f) (t.changes + 1) (n.parent == f) (names_in t.nodes f) (names_in (made t n).nodes f) (inr (left f lt)) (λ u e. let le = version_counted t f u h e in omega (arith, le)) (λ other. sym (names_versioned (with_node t.nodes n) n.parent (t.changes + 1) f ∙ names_with t.nodes n f other))) },
)
  where
    free : with_id t.nodes n.id ≡ None
    free = ap (with_id t.nodes) new ∙ next_free t h.given

    left : (f : ℕ) → f < t.next → directory_version (with_node t.nodes n) f ≡ directory_version t.nodes f
    left f lt = let other : (n.id == f) ≡ false = grind (arith, nat_tests, lt, new) in ap version_of (with_id_with t.nodes n f free ∙ ap (λ (b : Bool). if b then Some n else with_id t.nodes f) other)

-- ---- a node less

left_without : (ns : List Node) (gone f : ℕ) → IsLeft (directory_version ns f) (directory_version (without ns gone) f)
left_without ns gone f = subst (λ (o : Option Node). IsLeft (directory_version ns f) (version_of o)) (sym (with_id_without ns gone f)) (by (gone == f))
  where
    by : (b : Bool) → IsLeft (directory_version ns f) (version_of (if b then None else with_id ns f))
    by true = inl refl
    by false = inr refl

pub removed_dirs : (t : Tree) (dir : ℕ) (name : List ℕ) (n d : Node) → named t.nodes dir name ≡ Some n → with_id t.nodes dir ≡ Some d → is_directory d.body ≡ true → KeepsDirs t (removed t dir n.id)
removed_dirs t dir name n d at there is h = (
  record {
    given = (removed_keeps t dir n.id (no_file t.nodes dir d there is) h.given).0;
    versions = all_changed (λ (m : Node). m.version ≤ t.changes + 1) (λ m. record m { version = t.changes + 1 }) (λ m le. omega arith) (without t.nodes n.id) dir (all_filter (λ (m : Node). m.version ≤ t.changes + 1) (λ m. not (m.id == n.id)) t.nodes (all_map (λ m. m.version ≤ t.changes) (λ m. m.version ≤ t.changes + 1) (λ m le. omega (arith, le)) t.nodes h.versions));
  },
  record { each = λ f lt. subst (λ (o : Option ℕ). IsDirSince (directory_version t.nodes f) o (names_in t.nodes f) (names_in (removed t dir n.id).nodes f)) (sym (version_versioned (without t.nodes n.id) dir (t.changes + 1) f)) (dir_renewed (directory_version t.nodes f) (directory_version (without t.nodes n.id) f) (t.changes + 1) (dir == f) (names_in t.nodes f) (names_in (removed t dir n.id).nodes f) (left_without t.nodes n.id f) (λ u e. let le = version_counted t f u h e in omega (arith, le)) (λ other. sym (names_versioned (without t.nodes n.id) dir (t.changes + 1) f ∙ names_without t.nodes n.id f (stands_else t.nodes n f h.given.apart (named_id t.nodes dir name n h.given.apart at) (test_false n.parent dir (named_parent t.nodes dir name n at) f other))))) },
)

-- ---- another content

pub replaced_dirs : (t : Tree) (id : ℕ) (content : List ℕ) (g : File) → file_at t id ≡ Some g → g.version + 1 ≤ t.changes + 1 → KeepsDirs t (replaced t id (g.version + 1) content)
replaced_dirs t id content g at le h = (
  record {
    given = (replaced_keeps t id content g at h.given).0;
    versions = all_changed (λ (m : Node). m.version ≤ t.changes + 1) (refill (g.version + 1) content) (λ m u. le) t.nodes id (all_map (λ m. m.version ≤ t.changes) (λ m. m.version ≤ t.changes + 1) (λ m le. omega (arith, le)) t.nodes h.versions);
  },
  record { each = λ f lt. subst (λ (o : Option ℕ). IsDirSince (directory_version t.nodes f) o (names_in t.nodes f) (names_in (replaced t id (g.version + 1) content).nodes f)) (sym (version_is f)) (dir_same (directory_version t.nodes f) (names_in t.nodes f) (names_in (replaced t id (g.version + 1) content).nodes f) (sym (names_changed (refill (g.version + 1) content) (λ n. (refl, refl)) t.nodes id f))) },
)
  where
    is_none : version_of (with_id t.nodes id) ≡ None
    is_none = let n = file_node t id g at in ap version_of n.there ∙ ap (version_in n.node) n.body

    emptied : (o : Option Node) → version_of (option_map (refill (g.version + 1) content) o) ≡ None
    emptied None = refl
    emptied (Some n) = refl

    version_is : (f : ℕ) → directory_version (replaced t id (g.version + 1) content).nodes f ≡ directory_version t.nodes f
    version_is f = ap version_of (with_id_changed (refill (g.version + 1) content) (λ m. refl) t.nodes id f) ∙ by (id == f) refl
      where
        by : (b : Bool) → (id == f) ≡ b → version_of (if b then option_map (refill (g.version + 1) content) (with_id t.nodes f) else with_id t.nodes f) ≡ directory_version t.nodes f
        by true same = let e : id ≡ f = grind (arith, nat_tests, same) in emptied (with_id t.nodes f) ∙ sym (ap (λ (i : ℕ). version_of (with_id t.nodes i)) (sym e) ∙ is_none)
        by false other = refl

-- ---- a node under another name

-- it keeps its version, and so do all others
shifted_version : (ns : List Node) (n : Node) (to : ℕ) (name : List ℕ) (f : ℕ) → with_id ns n.id ≡ Some n → directory_version (placed ns n to name) f ≡ directory_version ns f
shifted_version ns n to name f at = ap version_of (with_id_with (without ns n.id) (record n { parent = to; name = name }) f gone ∙ ap (λ (o : Option Node). if n.id == f then Some (record n { parent = to; name = name }) else o) (with_id_without ns n.id f)) ∙ by (n.id == f) refl
  where
    self : (n.id == n.id) ≡ true
    self = grind (arith, nat_tests)

    gone : with_id (without ns n.id) n.id ≡ None
    gone = with_id_without ns n.id n.id ∙ ap (λ (b : Bool). if b then None else with_id ns n.id) self

    is_id : (n.id == f) ≡ true → n.id ≡ f
    is_id same = grind (arith, nat_tests, same)

    by : (b : Bool) → (n.id == f) ≡ b → version_of (if b then Some (record n { parent = to; name = name }) else (if b then None else with_id ns f)) ≡ directory_version ns f
    by true same = renamed n.body refl ∙ ap version_of (sym at ∙ ap (with_id ns) (is_id same))
      where
        renamed : (b : Body) → n.body ≡ b → version_of (Some (record n { parent = to; name = name })) ≡ version_of (Some n)
        renamed Directory e = ap (version_in (record n { parent = to; name = name })) e ∙ sym (ap (version_in n) e)
        renamed (Plain c) e = ap (version_in (record n { parent = to; name = name })) e ∙ sym (ap (version_in n) e)
    by false other = refl

-- the directories that it leaves and comes to have another version; all others keep their names
moved_at_dirs : (t : Tree) (ns : List Node) (n : Node) (dir to version : ℕ) (name : List ℕ) → IsCounted t → t.changes < version → AreIdsApart ns → with_id ns n.id ≡ Some n → n.parent ≡ dir → ((f : ℕ) → IsLeft (directory_version t.nodes f) (directory_version ns f)) → ((f : ℕ) → (to == f) ≡ false → names_in ns f ≡ names_in t.nodes f) → AreDirsLater t (moved_at t dir n ns to name version)
moved_at_dirs t ns n dir to version name h more apart at stands left names_ = record {
  each = λ f lt. subst (λ (o : Option ℕ). IsDirSince (directory_version t.nodes f) o (names_in t.nodes f) (names_in after f)) (sym (version_is f)) (both_renewed (directory_version t.nodes f) (directory_version ns f) version (dir == f) (to == f) (names_in t.nodes f) (names_in after f) (left f) (λ u e. let le = version_counted t f u h e in omega (arith, le, more)) (λ a b. sym (names_are f a b)));
}
  where
    after : List Node
    after = versioned (versioned (placed ns n to name) dir version) to version

    version_is : (f : ℕ) → directory_version after f ≡ (let x : Option ℕ = if dir == f then option_map (λ (u : ℕ). version) (directory_version ns f) else directory_version ns f in if to == f then option_map (λ (u : ℕ). version) x else x)
    version_is f =
        version_versioned (versioned (placed ns n to name) dir version) to version f
        ∙ ap (λ (o : Option ℕ). if to == f then option_map (λ (u : ℕ). version) o else o) (version_versioned (placed ns n to name) dir version f ∙ ap (λ (o : Option ℕ). if dir == f then option_map (λ (u : ℕ). version) o else o) (shifted_version ns n to name f at))

    names_are : (f : ℕ) → (dir == f) ≡ false → (to == f) ≡ false → names_in after f ≡ names_in t.nodes f
    names_are f a b =
        names_versioned (versioned (placed ns n to name) dir version) to version f
        ∙ names_versioned (placed ns n to name) dir version f
        ∙ names_with (without ns n.id) (record n { parent = to; name = name }) f b
        ∙ names_without ns n.id f (stands_else ns n f apart at (test_false n.parent dir stands f a))
        ∙ names_ f b

versions_moved : (t : Tree) (ns : List Node) (n : Node) (dir to version : ℕ) (name : List ℕ) → t.changes ≤ version → n.version ≤ version → AllByRecursion (λ (m : Node). m.version ≤ version) ns → AllByRecursion (λ (m : Node). m.version ≤ version) (versioned (versioned (placed ns n to name) dir version) to version)
versions_moved t ns n dir to version name more own all = all_changed (λ (m : Node). m.version ≤ version) (λ m. record m { version = version }) (λ m le. omega arith) (versioned (placed ns n to name) dir version) to (all_changed (λ (m : Node). m.version ≤ version) (λ m. record m { version = version }) (λ m le. omega arith) (placed ns n to name) dir (all_with (λ (m : Node). m.version ≤ version) (without ns n.id) (record n { parent = to; name = name }) (all_filter (λ (m : Node). m.version ≤ version) (λ m. not (m.id == n.id)) ns all) own))

pub moved_to : (t : Tree) (dir : ℕ) (n : Node) (to : ℕ) (name to_name : List ℕ) → named t.nodes dir name ≡ Some n → ((d : Node) × (with_id t.nodes dir ≡ Some d) × (is_directory d.body ≡ true)) → ((e : Node) × (with_id t.nodes to ≡ Some e) × (is_directory e.body ≡ true)) → KeepsDirs t (moved t dir n None to to_name)
moved_to t dir n to name to_name at d e h = (
  record {
    given = (moved_keeps t dir n None to to_name (λ m is. absurd (no m is)) own (no_file t.nodes dir d.0 d.1 d.2) (no_file t.nodes to e.0 e.1 e.2) h.given).0;
    versions = versions_moved t t.nodes n dir to (t.changes + 1) to_name (omega arith) (omega (arith, counted)) (all_map (λ (m : Node). m.version ≤ t.changes) (λ m. m.version ≤ t.changes + 1) (λ m le. omega (arith, le)) t.nodes h.versions);
  },
  moved_at_dirs t t.nodes n dir to (t.changes + 1) to_name h (omega arith) h.given.apart own (named_parent t.nodes dir name n at) (λ f. inr refl) (λ f other. refl),
)
  where
    no : (m : Node) → None ≡ Some m → ⊥
    no m e = absurd cc

    own : with_id t.nodes n.id ≡ Some n
    own = named_id t.nodes dir name n h.given.apart at

    counted : n.version ≤ t.changes
    counted = found_all (λ (m : Node). m.version ≤ t.changes) (λ m. m.id == n.id) t.nodes n h.versions own

pub moved_over : (t : Tree) (dir : ℕ) (n m : Node) (to : ℕ) (name to_name : List ℕ) → named t.nodes dir name ≡ Some n → named t.nodes to to_name ≡ Some m → (m.id == n.id) ≡ false → ((d : Node) × (with_id t.nodes dir ≡ Some d) × (is_directory d.body ≡ true)) → ((e : Node) × (with_id t.nodes to ≡ Some e) × (is_directory e.body ≡ true)) → KeepsDirs t (moved t dir n (Some m) to to_name)
moved_over t dir n m to name to_name at there differ d e h = (
  record {
    given = (moved_keeps t dir n (Some m) to to_name (λ k is. subst (λ (z : Node). (z.id == n.id) ≡ false) (some_is m k is) differ) own (no_file t.nodes dir d.0 d.1 d.2) (no_file t.nodes to e.0 e.1 e.2) h.given).0;
    versions = versions_moved t (without t.nodes m.id) n dir to (t.changes + 2) to_name (omega arith) (omega (arith, counted)) (all_filter (λ (k : Node). k.version ≤ t.changes + 2) (λ k. not (k.id == m.id)) t.nodes (all_map (λ (k : Node). k.version ≤ t.changes) (λ k. k.version ≤ t.changes + 2) (λ k le. omega (arith, le)) t.nodes h.versions));
  },
  moved_at_dirs t (without t.nodes m.id) n dir to (t.changes + 2) to_name h (omega arith) (apart_without t.nodes m.id h.given.apart) still (named_parent t.nodes dir name n at) (λ f. left_without t.nodes m.id f)
      (λ f other. names_without t.nodes m.id f (stands_else t.nodes m f h.given.apart (named_id t.nodes to to_name m h.given.apart there) (test_false m.parent to (named_parent t.nodes to to_name m there) f other))),
)
  where
    own : with_id t.nodes n.id ≡ Some n
    own = named_id t.nodes dir name n h.given.apart at

    counted : n.version ≤ t.changes
    counted = found_all (λ (k : Node). k.version ≤ t.changes) (λ k. k.id == n.id) t.nodes n h.versions own

    still : with_id (without t.nodes m.id) n.id ≡ Some n
    still = with_id_without t.nodes m.id n.id ∙ ap (λ (b : Bool). if b then None else with_id t.nodes n.id) differ ∙ own

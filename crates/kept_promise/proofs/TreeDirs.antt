-- The directories of a tree: what a step leaves of a directory's version and of its names.
use Rattle.std.proofs.Common.{◌⊎◌, inl, inr, ◌≡◌, ℕ, ◌<◌, List, [], ◌∷◌, map, Option, Some, None, Bool, true, false, not, ◌==◌, refl, sym, ap, ◌∙◌, subst, arith, if◌then◌else◌, cond}
use Rattle.std.specs.List.{filter, AllByRecursion}
use Rattle.std.specs.Option.{option_map}
use Rattle.tree_nodes.specs.declared.node.Node.{Node}
use Rattle.tree_nodes.specs.declared.node.Body.{Body}
use Rattle.tree_nodes.specs.declared.node.Body.TheVariants.{Directory, File as Plain}
use Rattle.tree_nodes.specs.Nodes.{with_id, names, with_node, without, changed, versioned, before}
use Rattle.tree_nodes.proofs.lemmas.Lists.{with_id_changed}

-- ---- a directory's version, and its names

abbrev pub version_in : Node → Body → Option ℕ
version_in n Directory = Some n.version
version_in n (Plain c) = None

abbrev pub version_of : Option Node → Option ℕ
version_of None = None
version_of (Some n) = version_in n n.body

-- the version of the directory with an id
abbrev pub directory_version : List Node → ℕ → Option ℕ
directory_version ns id = version_of (with_id ns id)

-- the names in a directory, in their order
abbrev pub names_in : List Node → ℕ → List (List ℕ)
names_in ns dir = map (λ (n : Node). n.name) (names ns dir)

-- ---- names

-- with a node of another directory
pub names_with : (ns : List Node) (n : Node) (dir : ℕ) → (n.parent == dir) ≡ false → names_in (with_node ns n) dir ≡ names_in ns dir
names_with [] n dir other = ap (λ (b : Bool). map (λ (m : Node). m.name) (cond b (n ∷ []) [])) other
names_with (m ∷ ms) n dir other = by (before m n.parent n.name) (names_with ms n dir other)
  where
    first : (b : Bool) (xs ys : List Node) → map (λ (k : Node). k.name) xs ≡ map (λ (k : Node). k.name) ys → map (λ (k : Node). k.name) (cond b (m ∷ xs) xs) ≡ map (λ (k : Node). k.name) (cond b (m ∷ ys) ys)
    first true xs ys e = ap (λ (l : List (List ℕ)). m.name ∷ l) e
    first false xs ys e = e

    by : (b : Bool) → names_in (with_node ms n) dir ≡ names_in ms dir → names_in (if b then m ∷ with_node ms n else n ∷ m ∷ ms) dir ≡ names_in (m ∷ ms) dir
    by true later = first (m.parent == dir) (names (with_node ms n) dir) (names ms dir) later
    by false later = ap (λ (b : Bool). map (λ (k : Node). k.name) (cond b (n ∷ names (m ∷ ms) dir) (names (m ∷ ms) dir))) other

-- without a node of another directory
pub names_without : (ns : List Node) (gone dir : ℕ) → AllByRecursion (λ (m : Node). (m.id == gone) ≡ true → (m.parent == dir) ≡ false) ns → names_in (without ns gone) dir ≡ names_in ns dir
names_without [] gone dir all = refl
names_without (m ∷ ms) gone dir all = by (m.id == gone) (m.parent == dir) refl refl (names_without ms gone dir all.1)
  where
    by : (b c : Bool) → (m.id == gone) ≡ b → (m.parent == dir) ≡ c → names_in (without ms gone) dir ≡ names_in ms dir → map (λ (k : Node). k.name) (filter (λ (k : Node). k.parent == dir) (cond (not b) (m ∷ without ms gone) (without ms gone))) ≡ map (λ (k : Node). k.name) (cond c (m ∷ names ms dir) (names ms dir))
    by true true is there later = absurd (no (sym (all.0 is) ∙ there))
      where
        no : false ≡ true → ⊥
        no e = absurd cc
    by true false is there later = later
    by false true is there later = ap (λ (t : Bool). map (λ (k : Node). k.name) (cond t (m ∷ names (without ms gone) dir) (names (without ms gone) dir))) there ∙ ap (λ (l : List (List ℕ)). m.name ∷ l) later
    by false false is there later = ap (λ (t : Bool). map (λ (k : Node). k.name) (cond t (m ∷ names (without ms gone) dir) (names (without ms gone) dir))) there ∙ later

-- nodes that are changed keep their names and directories
pub names_changed : (f : Node → Node) → ((n : Node) → ((f n).parent ≡ n.parent) × ((f n).name ≡ n.name)) → (ns : List Node) (id dir : ℕ) → names_in (changed ns id f) dir ≡ names_in ns dir
names_changed f same [] id dir = refl
names_changed f same (m ∷ ms) id dir = by (m.id == id) (names_changed f same ms id dir)
  where
    first : (k : Node) → (k.parent ≡ m.parent) × (k.name ≡ m.name) → (xs ys : List Node) → map (λ (j : Node). j.name) xs ≡ map (λ (j : Node). j.name) ys → map (λ (j : Node). j.name) (cond (k.parent == dir) (k ∷ xs) xs) ≡ map (λ (j : Node). j.name) (cond (m.parent == dir) (m ∷ ys) ys)
    first k e xs ys later = ap (λ (p : ℕ). map (λ (j : Node). j.name) (cond (p == dir) (k ∷ xs) xs)) e.0 ∙ cases (m.parent == dir)
      where
        cases : (b : Bool) → map (λ (j : Node). j.name) (cond b (k ∷ xs) xs) ≡ map (λ (j : Node). j.name) (cond b (m ∷ ys) ys)
        cases true = ap (λ (s : List ℕ). s ∷ map (λ (j : Node). j.name) xs) e.1 ∙ ap (λ (l : List (List ℕ)). m.name ∷ l) later
        cases false = later

    by : (b : Bool) → names_in (changed ms id f) dir ≡ names_in ms dir → map (λ (j : Node). j.name) (filter (λ (j : Node). j.parent == dir) ((if b then f m else m) ∷ changed ms id f)) ≡ names_in (m ∷ ms) dir
    by true later = first (f m) (same m) (names (changed ms id f) dir) (names ms dir) later
    by false later = first m (refl, refl) (names (changed ms id f) dir) (names ms dir) later

pub names_versioned : (ns : List Node) (id version dir : ℕ) → names_in (versioned ns id version) dir ≡ names_in ns dir
names_versioned ns id version dir = names_changed (λ n. record n { version = version }) (λ n. (refl, refl)) ns id dir

-- ---- what has become of a directory

-- it is gone, or in a later version, or as it was, with the names that it had
abbrev pub IsDirSince : (before after : Option ℕ) → (names names_after : List (List ℕ)) → Type 0
IsDirSince v None xs ys = Unit {0}
IsDirSince None (Some w) xs ys = ⊥
IsDirSince (Some v) (Some w) xs ys = (v < w) ⊎ ((v ≡ w) × (xs ≡ ys))

pub dir_same : (v : Option ℕ) (xs ys : List (List ℕ)) → xs ≡ ys → IsDirSince v v xs ys
dir_same None xs ys e = tt
dir_same (Some v) xs ys e = inr (refl, e)

pub dir_join : (a b c : Option ℕ) (xs ys zs : List (List ℕ)) → IsDirSince a b xs ys → IsDirSince b c ys zs → IsDirSince a c xs zs
dir_join a b None xs ys zs p q = tt
dir_join None None (Some w) xs ys zs p q = q
dir_join None (Some v) (Some w) xs ys zs p q = absurd p
dir_join (Some u) None (Some w) xs ys zs p q = absurd q
dir_join (Some u) (Some v) (Some w) xs ys zs (inl x) (inl y) = inl (omega (arith, x, y))
dir_join (Some u) (Some v) (Some w) xs ys zs (inl x) (inr y) = let e = y.0 in inl (omega (arith, x, e))
dir_join (Some u) (Some v) (Some w) xs ys zs (inr x) (inl y) = let e = x.0 in inl (omega (arith, y, e))
dir_join (Some u) (Some v) (Some w) xs ys zs (inr x) (inr y) = inr (x.0 ∙ y.0, x.1 ∙ y.1)

-- of a directory nothing is left, or its version is the same
abbrev pub IsLeft : (before after : Option ℕ) → Type 0
IsLeft v w = (w ≡ None) ⊎ (w ≡ v)

-- another version where it is that of this id
pub version_versioned : (ns : List Node) (id version dir : ℕ) → directory_version (versioned ns id version) dir ≡ (if id == dir then option_map (λ (v : ℕ). version) (directory_version ns dir) else directory_version ns dir)
version_versioned ns id version dir = ap version_of (with_id_changed (λ n. record n { version = version }) (λ n. refl) ns id dir) ∙ by (id == dir)
  where
    renewed : (o : Option Node) → version_of (option_map (λ (n : Node). record n { version = version }) o) ≡ option_map (λ (v : ℕ). version) (version_of o)
    renewed None = refl
    renewed (Some n) = of_body n.body
      where
        of_body : (b : Body) → version_in (record n { version = version }) b ≡ option_map (λ (v : ℕ). version) (version_in n b)
        of_body Directory = refl
        of_body (Plain c) = refl

    by : (b : Bool) → version_of (if b then option_map (λ (n : Node). record n { version = version }) (with_id ns dir) else with_id ns dir) ≡ (if b then option_map (λ (v : ℕ). version) (version_of (with_id ns dir)) else version_of (with_id ns dir))
    by true = renewed (with_id ns dir)
    by false = refl

-- One directory gets a version greater than any; all others keep their names.
pub dir_renewed : (v w : Option ℕ) (version : ℕ) (b : Bool) (xs ys : List (List ℕ)) → IsLeft v w → ((u : ℕ) → v ≡ Some u → u < version) → (b ≡ false → xs ≡ ys) → IsDirSince v (if b then option_map (λ (u : ℕ). version) w else w) xs ys
dir_renewed v None version true xs ys left less same = tt
dir_renewed v None version false xs ys left less same = tt
dir_renewed v (Some w) version b xs ys (inl none) less same = absurd (no none)
  where
    no : Some w ≡ None → ⊥
    no e = absurd cc
dir_renewed v (Some w) version true xs ys (inr is) less same = subst (λ (o : Option ℕ). IsDirSince o (Some version) xs ys) is (inl (less w (sym is)))
dir_renewed v (Some w) version false xs ys (inr is) less same = subst (λ (o : Option ℕ). IsDirSince o (Some w) xs ys) is (inr (refl, same refl))

-- Two directories do, or one twice.
pub both_renewed : (v w : Option ℕ) (version : ℕ) (b c : Bool) (xs ys : List (List ℕ)) → IsLeft v w → ((u : ℕ) → v ≡ Some u → u < version) → (b ≡ false → c ≡ false → xs ≡ ys)
    → (let x : Option ℕ = if b then option_map (λ (u : ℕ). version) w else w in IsDirSince v (if c then option_map (λ (u : ℕ). version) x else x) xs ys)
both_renewed v None version true true xs ys left less same = tt
both_renewed v (Some w) version true true xs ys (inl none) less same = absurd (no none)
  where
    no : Some w ≡ None → ⊥
    no e = absurd cc
both_renewed v (Some w) version true true xs ys (inr is) less same = subst (λ (o : Option ℕ). IsDirSince o (Some version) xs ys) is (inl (less w (sym is)))
both_renewed v w version b false xs ys left less same = dir_renewed v w version b xs ys left less (λ e. same e refl)
both_renewed v w version false true xs ys left less same = dir_renewed v w version true xs ys left less (λ e. absurd (no e))
  where
    no : true ≡ false → ⊥
    no e = absurd cc

-- What changes leave of a tree's state.
use Rattle.std.proofs.Common.{◌≡◌, ℕ, ◌+◌, ◌-◌, ◌≤◌, List, [], ◌∷◌, length, Option, Some, None, IsSome, Bool, true, false, ◌==◌, ◌&&◌, not, refl, sym, ap, ◌∙◌, subst, arith, if◌then◌else◌, cond}
use mathlib.Core.Bool.{true≢false}
use Rattle.std.specs.List.{find, AllByRecursion}
use Rattle.std.specs.Str.{bytes_eq}
use Rattle.std.proofs.lemmas.Bool.Decides.{nat_tests}
use Rattle.tree_nodes.specs.declared.node.Node.{Node}
use Rattle.tree_nodes.specs.declared.node.Body.TheVariants.{File}
use Rattle.tree_nodes.specs.Nodes.{named, with_id, with_node, without, changed, versioned}
use Rattle.tree_nodes.specs.View.{NodesState}
use Rattle.tree_reading.specs.Tree.{content_of, contents_size, changes_most, file_most, tree_most}
use Rattle.file_tree.specs.View.{AreIdsApart, IsWithinLimits}
use Rattle.tree_reading.proofs.lemmas.Found.{some_is}
use Rattle.file_tree.proofs.lemmas.Limits.{counted, limits_with, limits_without, limits_versioned, limits_moved, limits_refilled, size_with, size_same, size_without, size_changed}

-- ---- what is found by its name is found by its id

find_other : (q : Node → Bool) (ms : List Node) (m n : Node) → AllByRecursion (λ k. (m.id == k.id) ≡ false) ms → find q ms ≡ Some n → (m.id == n.id) ≡ false
find_other q [] m n all e = absurd cc
find_other q (k ∷ ks) m n all e = other_if (q k) e (find_other q ks m n all.1)
  where
    other_if : (b : Bool) → (if b then Some k else find q ks) ≡ Some n → (find q ks ≡ Some n → (m.id == n.id) ≡ false) → (m.id == n.id) ≡ false
    other_if true same later = subst (λ (j : Node). (m.id == j.id) ≡ false) (some_is k k n same) all.0
    other_if false same later = later same

pub found_id : (q : Node → Bool) (ns : List Node) (n : Node) → AreIdsApart ns → find q ns ≡ Some n → with_id ns n.id ≡ Some n
found_id q [] n apart e = absurd cc
found_id q (m ∷ ms) n apart e = id_if (q m) e (find_other q ms m n apart.0) (found_id q ms n apart.1)
  where
    self_test : (a : ℕ) → (a == a) ≡ true
    self_test a = grind (arith, nat_tests)

    id_if : (b : Bool) → (if b then Some m else find q ms) ≡ Some n → (find q ms ≡ Some n → (m.id == n.id) ≡ false) → (find q ms ≡ Some n → with_id ms n.id ≡ Some n) → with_id (m ∷ ms) n.id ≡ Some n
    id_if true same other later =
        let is : m ≡ n = some_is m m n same in
        subst (λ (j : Node). with_id (m ∷ ms) j.id ≡ Some j) is (rw (self_test m.id) refl)
    id_if false same other later = rw (other same) (later same)

pub named_id : (ns : List Node) (dir : ℕ) (name : List ℕ) (n : Node) → AreIdsApart ns → named ns dir name ≡ Some n → with_id ns n.id ≡ Some n
named_id ns dir name n apart e = found_id (λ m. (m.parent == dir) && bytes_eq m.name name) ns n apart e

-- ---- the limits and the size, after each change

pub made_limits : (old more new : NodesState) (changes : ℕ) (n : Node) → IsWithinLimits old changes → n.id ≡ old.next → changes + 1 ≤ changes_most → n.version ≤ changes + 1 → length (content_of n.body) ≡ 0 → more ≡ record { nodes = with_node old.nodes n; next = n.id + 1; room = more.room } → new ≡ record { nodes = versioned more.nodes n.parent (changes + 1); next = more.next; room = new.room } → IsWithinLimits new (changes + 1)
made_limits old more new changes n l id most version none more_is new_is =
    let raised = counted old changes (changes + 1) l (omega arith) most in
    let wide : IsWithinLimits (record { nodes = with_node old.nodes n; next = old.next + 1; room = more.room }) (changes + 1) = limits_with old (changes + 1) n more.room raised id (omega (arith, l.next)) version (omega (arith, none)) (omega (arith, none, l.size)) in
    let wider : IsWithinLimits more (changes + 1) = subst (λ (s : NodesState). IsWithinLimits s (changes + 1)) (sym (more_is ∙ ap (λ (i : ℕ). record { nodes = with_node old.nodes n; next = i + 1; room = more.room }) id)) wide in
    subst (λ (s : NodesState). IsWithinLimits s (changes + 1)) (sym new_is) (limits_versioned more (changes + 1) n.parent (changes + 1) new.room wider (omega arith))

pub made_size : (old more new : NodesState) (changes : ℕ) (n : Node) → length (content_of n.body) ≡ 0 → more ≡ record { nodes = with_node old.nodes n; next = n.id + 1; room = more.room } → new ≡ record { nodes = versioned more.nodes n.parent (changes + 1); next = more.next; room = new.room } → contents_size new.nodes ≡ contents_size old.nodes
made_size old more new changes n none more_is new_is =
    let same = ap (λ (s : NodesState). contents_size s.nodes) new_is ∙ size_same (λ k. record k { version = changes + 1 }) (λ m. refl) more.nodes n.parent ∙ ap (λ (s : NodesState). contents_size s.nodes) more_is in
    omega (arith, same, size_with old.nodes n, none)

pub removed_limits : (old less new : NodesState) (changes dir : ℕ) (n : Node) → IsWithinLimits old changes → changes + 1 ≤ changes_most → less ≡ record { nodes = without old.nodes n.id; next = old.next; room = less.room } → new ≡ record { nodes = versioned less.nodes dir (changes + 1); next = less.next; room = new.room } → IsWithinLimits new (changes + 1)
removed_limits old less new changes dir n l most less_is new_is =
    let raised = counted old changes (changes + 1) l (omega arith) most in
    let fewer : IsWithinLimits less (changes + 1) = subst (λ (s : NodesState). IsWithinLimits s (changes + 1)) (sym less_is) (limits_without old (changes + 1) n.id less.room raised) in
    subst (λ (s : NodesState). IsWithinLimits s (changes + 1)) (sym new_is) (limits_versioned less (changes + 1) dir (changes + 1) new.room fewer (omega arith))

pub removed_size : (old less new : NodesState) (changes dir : ℕ) (n : Node) → IsWithinLimits old changes → with_id old.nodes n.id ≡ Some n → less ≡ record { nodes = without old.nodes n.id; next = old.next; room = less.room } → new ≡ record { nodes = versioned less.nodes dir (changes + 1); next = less.next; room = new.room } → contents_size new.nodes + length (content_of n.body) ≡ contents_size old.nodes
removed_size old less new changes dir n l at less_is new_is =
    let same = ap (λ (s : NodesState). contents_size s.nodes) new_is ∙ size_same (λ k. record k { version = changes + 1 }) (λ m. refl) less.nodes dir ∙ ap (λ (s : NodesState). contents_size s.nodes) less_is in
    omega (arith, same, size_without old.nodes n.id n l.apart at)

-- ---- one node less

pub cleared_sum : (old new : NodesState) (changes : ℕ) (n : Node) → IsWithinLimits old changes → with_id old.nodes n.id ≡ Some n → new ≡ record { nodes = without old.nodes n.id; next = old.next; room = new.room } → contents_size new.nodes + length (content_of n.body) ≡ contents_size old.nodes
cleared_sum old new changes n l at is = subst (λ (s : NodesState). contents_size s.nodes + length (content_of n.body) ≡ contents_size old.nodes) (sym is) (size_without old.nodes n.id n l.apart at)

pub cleared_limits : (old new : NodesState) (changes : ℕ) (n : Node) → IsWithinLimits old changes → new ≡ record { nodes = without old.nodes n.id; next = old.next; room = new.room } → IsWithinLimits new changes
cleared_limits old new changes n l is = subst (λ (s : NodesState). IsWithinLimits s changes) (sym is) (limits_without old changes n.id new.room l)

-- ---- a change counted

pub count_limits : (old new : NodesState) (changes changes' dir : ℕ) → IsWithinLimits old changes → changes ≤ changes' → changes' ≤ changes_most → new ≡ record { nodes = versioned old.nodes dir changes'; next = old.next; room = new.room } → IsWithinLimits new changes'
count_limits old new changes changes' dir l more most is = subst (λ (s : NodesState). IsWithinLimits s changes') (sym is) (limits_versioned old changes' dir changes' new.room (counted old changes changes' l more most) (omega arith))

pub count_size : (old new : NodesState) (dir version : ℕ) → new ≡ record { nodes = versioned old.nodes dir version; next = old.next; room = new.room } → contents_size new.nodes ≡ contents_size old.nodes
count_size old new dir version is = ap (λ (s : NodesState). contents_size s.nodes) is ∙ size_same (λ k. record k { version = version }) (λ m. refl) old.nodes dir

-- ---- a node under another name

module _ (old moved : NodesState) (changes : ℕ) (n : Node) (to : ℕ) (name : List ℕ) (l : IsWithinLimits old changes) (at : with_id old.nodes n.id ≡ Some n) (is : moved ≡ record { nodes = with_node (without old.nodes n.id) (record n { parent = to; name = name }); next = old.next; room = moved.room }) where
  pub shift_limits : IsWithinLimits moved changes
  shift_limits = subst (λ (s : NodesState). IsWithinLimits s changes) (sym is) (limits_moved old changes n to name moved.room l at)

  pub shift_size : contents_size moved.nodes ≡ contents_size old.nodes
  shift_size =
      let now = ap (λ (s : NodesState). contents_size s.nodes) is in
      omega (arith, now, size_with (without old.nodes n.id) (record n { parent = to; name = name }), size_without old.nodes n.id n l.apart at)

-- ---- a node that stays, where another goes

pub named_other : (ns : List Node) (dir : ℕ) (name : List ℕ) (gone : ℕ) (n : Node) → named ns dir name ≡ Some n → (n.id == gone) ≡ false → named (without ns gone) dir name ≡ Some n
named_other [] dir name gone n at other = absurd cc
named_other (m ∷ ms) dir name gone n at other = other_if (m.id == gone) refl ((m.parent == dir) && bytes_eq m.name name) refl at (λ later. named_other ms dir name gone n later other)
  where
    other_if : (b : Bool) → (m.id == gone) ≡ b → (c : Bool) → ((m.parent == dir) && bytes_eq m.name name) ≡ c → (if c then Some m else named ms dir name) ≡ Some n → (named ms dir name ≡ Some n → named (without ms gone) dir name ≡ Some n) → named (cond (not b) (m ∷ without ms gone) (without ms gone)) dir name ≡ Some n
    other_if true is true e same later = absurd (true≢false (sym is ∙ subst (λ (k : Node). (k.id == gone) ≡ false) (sym (some_is m m n same)) other))
    other_if true is false e same later = later same
    other_if false is true e same later = rw e same
    other_if false is false e same later = rw e (later same)

pub is_there : (o : Option Node) (n : Node) → o ≡ Some n → IsSome o
is_there o n e = subst IsSome (sym e) refl

pub some_node : (o : Option Node) → IsSome o → (n : Node) × (o ≡ Some n)
some_node None is = absurd (true≢false (sym is))
some_node (Some n) is = (n, refl)

-- ---- another content

module _ (old new : NodesState) (changes : ℕ) (n : Node) (version : ℕ) (content : List ℕ) (l : IsWithinLimits old changes) (at : with_id old.nodes n.id ≡ Some n) (is : new ≡ record { nodes = changed old.nodes n.id (λ m. record m { version = version; body = File content }); next = old.next; room = new.room }) where
  pub refill_limits : changes + 1 ≤ changes_most → version ≤ changes + 1 → length content ≤ file_most → contents_size old.nodes + length content ≤ tree_most → IsWithinLimits new (changes + 1)
  refill_limits most counted_version short small = subst (λ (s : NodesState). IsWithinLimits s (changes + 1)) (sym is) (limits_refilled old (changes + 1) n version content new.room (counted old changes (changes + 1) l (omega arith) most) at counted_version short small)

  pub refill_size : contents_size new.nodes + length (content_of n.body) ≡ contents_size old.nodes + length content
  refill_size = ap (λ (s : NodesState). contents_size s.nodes + length (content_of n.body)) is ∙ size_changed (λ m. record m { version = version; body = File content }) old.nodes n.id n l.apart at

pub id_is : (ns : List Node) (id : ℕ) (n : Node) → with_id ns id ≡ Some n → n.id ≡ id
id_is [] id n at = absurd cc
id_is (m ∷ ms) id n at = is_if (m.id == id) refl at (id_is ms id n)
  where
    is_if : (b : Bool) → (m.id == id) ≡ b → (if b then Some m else with_id ms id) ≡ Some n → (with_id ms id ≡ Some n → n.id ≡ id) → n.id ≡ id
    is_if true is same later = subst (λ (k : Node). k.id ≡ id) (some_is m m n same) (grind (arith, nat_tests, is))
    is_if false is same later = later same

abbrev pub IsRefilled : NodesState → NodesState → ℕ → ℕ → List ℕ → Type 0
IsRefilled old new id version content = new ≡ record { nodes = changed old.nodes id (λ m. record m { version = version; body = File content }); next = old.next; room = new.room }

pub refilled_limits : (old new : NodesState) (changes id : ℕ) (n : Node) (version : ℕ) (content : List ℕ) → IsWithinLimits old changes → with_id old.nodes id ≡ Some n → IsRefilled old new id version content → changes + 1 ≤ changes_most → version ≤ changes + 1 → length content ≤ file_most → contents_size old.nodes + length content ≤ tree_most → IsWithinLimits new (changes + 1)
refilled_limits old new changes id n version content l at is most counted_version short small =
    let same : id ≡ n.id = sym (id_is old.nodes id n at) in
    refill_limits old new changes n version content l (subst (λ i. with_id old.nodes i ≡ Some n) same at) (subst (λ i. IsRefilled old new i version content) same is) most counted_version short small

pub refilled_size : (old new : NodesState) (changes id : ℕ) (n : Node) (version : ℕ) (content : List ℕ) → IsWithinLimits old changes → with_id old.nodes id ≡ Some n → IsRefilled old new id version content → contents_size new.nodes + length (content_of n.body) ≡ contents_size old.nodes + length content
refilled_size old new changes id n version content l at is =
    let same : id ≡ n.id = sym (id_is old.nodes id n at) in
    refill_size old new changes n version content l (subst (λ i. with_id old.nodes i ≡ Some n) same at) (subst (λ i. IsRefilled old new i version content) same is)

-- what is counted then
pub refilled_bytes : (size gone more len now all bytes : ℕ) → size ≡ gone → len ≡ more → bytes ≡ all → now + gone ≡ all + more → gone ≤ all → bytes - size + len ≡ now
refilled_bytes size gone more len now all bytes a b d e f = omega (arith, a, b, d, e, f)

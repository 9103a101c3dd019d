-- The tree that a run opens with, and what the ids of a tree name.
use Rattle.std.proofs.Common.{◌≡◌, ℕ, ◌+◌, ◌<◌, ◌≤◌, List, [], ◌∷◌, length, map, Option, Some, None, Result, Ok, Err, Bool, true, false, ◌==◌, refl, sym, ap, ◌∙◌, subst, arith, if◌then◌else◌}
use Rattle.std.specs.List.{AllByRecursion}
use Rattle.std.specs.Option.{option_map}
use Rattle.std.proofs.lemmas.Bool.Decides.{nat_tests}
use Rattle.xdr_codec.specs.declared.status.Status.{Status}
use Rattle.xdr_codec.specs.declared.status.Status.TheVariants as status
use Rattle.tree_nodes.specs.declared.node.Node.{Node}
use Rattle.tree_nodes.specs.declared.node.Body.{Body}
use Rattle.tree_nodes.specs.declared.node.Body.TheVariants.{Directory, File as Plain}
use Rattle.tree_nodes.specs.Nodes.{with_id, with_node}
use Rattle.tree_reading.specs.Chain.{◌>>=◌}
use Rattle.tree_reading.specs.Tree.{Tree, is_directory, directory_of, directory_or, or_stale, content_of, contents_size, file_most, tree_most}
use Rattle.file_tree.specs.Opening.{can_open, counted_at, with_change, with_next, opened, opens}
use Rattle.tree_reading.specs.View.{IsNodeBounded}
use Rattle.file_tree.specs.View.{AreIdsApart}
use Rattle.file_tree.proofs.lemmas.Limits.{all_map, all_with, size_with}
use Rattle.chunk_calls.specs.Answers.{directory, file, node_with, node_found, node_named, Node as ServerNode}
use Rattle.chunk_calls.specs.Files.{File, file_of_body, file_of_node, file_at}
use Rattle.kept_promise.proofs.TreeNames.{IsCounted as AreCounted}
use Rattle.server_law.proofs.lemmas.Trees.{IsBounded, IsGiven, next_free, given_with, with_files}
use Rattle.tree_nodes.proofs.lemmas.Lists.{with_id_with}

-- ---- the opening tree

counted_id : (v : ℕ) (n : Node) → (counted_at v n).id ≡ n.id
counted_id v n = by (is_directory n.body)
  where
    by : (b : Bool) → (if b then record n { version = v } else n).id ≡ n.id
    by true = refl
    by false = refl

counted_body : (v : ℕ) (n : Node) → (counted_at v n).body ≡ n.body
counted_body v n = by (is_directory n.body)
  where
    by : (b : Bool) → (if b then record n { version = v } else n).body ≡ n.body
    by true = refl
    by false = refl

counted_file : (v : ℕ) (n : Node) → file_of_node (Some (counted_at v n)) ≡ file_of_node (Some n)
counted_file v n = by n.body refl
  where
    by : (b : Body) → n.body ≡ b → file_of_node (Some (counted_at v n)) ≡ file_of_node (Some n)
    by Directory e = ap (file_of_body (counted_at v n)) (counted_body v n ∙ e) ∙ sym (ap (file_of_body n) e)
    by (Plain c) e = ap (λ (z : Body). file_of_node (Some (if is_directory z then record n { version = v } else n))) e

counted_found : (v : ℕ) (ns : List Node) (id : ℕ) → with_id (map (counted_at v) ns) id ≡ option_map (counted_at v) (with_id ns id)
counted_found v [] id = refl
counted_found v (n ∷ ns) id = ap (λ (i : ℕ). if i == id then Some (counted_at v n) else with_id (map (counted_at v) ns) id) (counted_id v n) ∙ by (n.id == id) (counted_found v ns id)
  where
    by : (b : Bool) → with_id (map (counted_at v) ns) id ≡ option_map (counted_at v) (with_id ns id) → (if b then Some (counted_at v n) else with_id (map (counted_at v) ns) id) ≡ option_map (counted_at v) (if b then Some n else with_id ns id)
    by true later = refl
    by false later = later

counted_size : (v : ℕ) (ns : List Node) → contents_size (map (counted_at v) ns) ≡ contents_size ns
counted_size v [] = refl
counted_size v (n ∷ ns) = let a : length (content_of (counted_at v n).body) ≡ length (content_of n.body) = ap (λ (z : Body). length (content_of z)) (counted_body v n) in let b = counted_size v ns in omega (arith, a, b)

counted_apart : (v : ℕ) (ns : List Node) → AreIdsApart ns → AreIdsApart (map (counted_at v) ns)
counted_apart v [] h = tt
counted_apart v (n ∷ ns) h = (by ns h.0, counted_apart v ns h.1)
  where
    by : (ms : List Node) → AllByRecursion (λ (m : Node). (n.id == m.id) ≡ false) ms → AllByRecursion (λ (m : Node). ((counted_at v n).id == m.id) ≡ false) (map (counted_at v) ms)
    by [] all = tt
    by (m ∷ ms) all = (ap (λ (i : ℕ). i == (counted_at v m).id) (counted_id v n) ∙ ap (λ (i : ℕ). n.id == i) (counted_id v m) ∙ all.0, by ms all.1)

counted_all : (P Q : Node → Type 0) (v : ℕ) → ((n : Node) → P n → Q (counted_at v n)) → (ns : List Node) → AllByRecursion P ns → AllByRecursion Q (map (counted_at v) ns)
counted_all P Q v f [] all = tt
counted_all P Q v f (n ∷ ns) all = (f n all.0, counted_all P Q v f ns all.1)

-- where there is a file, there was a change: no file is another for that
record IsCounted (t u : Tree) : Type 0 where
  files : (f : ℕ) → file_at u f ≡ file_at t f
  gone : (f : ℕ) → with_id t.nodes f ≡ None → with_id u.nodes f ≡ None
  body : (f : ℕ) (n : Node) → with_id t.nodes f ≡ Some n → (m : Node) × (with_id u.nodes f ≡ Some m) × (m.body ≡ n.body)
  bounded : IsBounded t → IsBounded u
  given : IsGiven t → IsGiven u
  next : u.next ≡ t.next
  size : contents_size u.nodes ≡ contents_size t.nodes
  positive : 1 ≤ u.changes

counted_tree : (t : Tree) → IsCounted t (with_change t)
counted_tree t = by (t.changes == 0) refl
  where
    files_of : (f : ℕ) (o : Option Node) → file_of_node (option_map (counted_at 1) o) ≡ file_of_node o
    files_of f None = refl
    files_of f (Some n) = counted_file 1 n

    version : (n : Node) → n.version ≤ 0 → (b : Bool) → (if b then record n { version = 1 } else n).version ≤ 1
    version n le true = omega arith
    version n le false = omega (arith, le)

    by : (b : Bool) → (t.changes == 0) ≡ b → IsCounted t (if b then record { nodes = map (counted_at 1) t.nodes; next = t.next; changes = 1 } else t)
    by false e = record {
      files = λ f. refl;
      gone = λ f z. z;
      body = λ f n z. (n, z, refl);
      bounded = λ h. h;
      given = λ h. h;
      next = refl;
      size = refl;
      positive = grind (arith, nat_tests, e);
    }
    by true e =
        let none : t.changes ≡ 0 = grind (arith, nat_tests, e) in
        record {
          files = λ f. ap file_of_node (counted_found 1 t.nodes f) ∙ files_of f (with_id t.nodes f);
          gone = λ f z. counted_found 1 t.nodes f ∙ ap (option_map (counted_at 1)) z;
          body = λ f n z. (counted_at 1 n, counted_found 1 t.nodes f ∙ ap (option_map (counted_at 1)) z, counted_body 1 n);
          bounded = λ h. record {
            count = omega arith;
            next = (let a = h.next in omega (arith, a, none));
            each = counted_all (IsNodeBounded t.next t.changes) (IsNodeBounded t.next 1) 1 (λ n b. record { id = subst (λ (i : ℕ). i < t.next) (sym (counted_id 1 n)) b.id; version = version n (let a = b.version in omega (arith, a, none)) (is_directory n.body); content = subst (λ (z : Body). length (content_of z) ≤ file_most) (sym (counted_body 1 n)) b.content }) t.nodes h.each;
            apart = counted_apart 1 t.nodes h.apart;
            size = subst (λ (z : ℕ). z ≤ tree_most) (sym (counted_size 1 t.nodes)) h.size;
          };
          given = λ h. record { below = counted_all (λ (n : Node). n.id < t.next) (λ (n : Node). n.id < t.next) 1 (λ n lt. subst (λ (i : ℕ). i < t.next) (sym (counted_id 1 n)) lt) t.nodes h.below; apart = counted_apart 1 t.nodes h.apart };
          next = refl;
          size = counted_size 1 t.nodes;
          positive = omega arith;
        }

abbrev pub opening_node : Tree → ℕ → List ℕ → List ℕ → Node
opening_node t dir name content = record { id = t.next; parent = dir; name = name; version = 1; body = Plain content }

abbrev pub opening_file : ℕ → List ℕ → File
opening_file id content = record { id = id; version = 1; content = content }

-- the tree with a file more
pub record IsOpened (t u : Tree) (content : List ℕ) : Type 0 where
  pub next : u.next ≡ t.next + 1
  pub own : file_at u t.next ≡ Some (opening_file t.next content)
  pub others : (f : ℕ) → (f ≡ t.next → ⊥) → file_at u f ≡ file_at t f
  pub size : contents_size u.nodes ≡ contents_size t.nodes + length content
  pub given : IsGiven u
  pub zero : 1 < t.next → with_id t.nodes 0 ≡ None → with_id u.nodes 0 ≡ None
  pub bounded : IsBounded t → t.next < 9223372036854775808 → length content ≤ file_most → contents_size t.nodes + length content ≤ tree_most → IsBounded u

opened_tree : (t : Tree) (dir : ℕ) (name content : List ℕ) → IsGiven t → IsOpened t (opened t dir name (Plain content)) content
opened_tree t dir name content h = record {
  next = ap (λ (i : ℕ). i + 1) c.next;
  own = found t.next ∙ ap (λ (b : Bool). if b then file_of_node (Some n) else file_at u t.next) (self t.next c.next) ∙ ap (λ (i : ℕ). Some (opening_file i content)) c.next;
  others = λ f apart. found f ∙ ap (λ (b : Bool). if b then file_of_node (Some n) else file_at u f) (other f apart) ∙ c.files f;
  size = let a = size_with u.nodes n in let b = c.size in omega (arith, a, b);
  given = record { below = g.0; apart = g.1 };
  zero = λ above none. with_id_with u.nodes n 0 free ∙ ap (λ (b : Bool). if b then Some n else with_id u.nodes 0) (let e = c.next in let z : (u.next == 0) ≡ false = grind (arith, nat_tests, above, e) in z) ∙ c.gone 0 none;
  bounded = bounded;
}
  where
    u : Tree
    u = with_change t

    c : IsCounted t u
    c = counted_tree t

    n : Node
    n = opening_node u dir name content

    free : with_id u.nodes u.next ≡ None
    free = next_free u (c.given h)

    g : AllByRecursion (λ (m : Node). m.id < u.next + 1) (with_node u.nodes n) × AreIdsApart (with_node u.nodes n)
    g = given_with u.nodes u.next n refl (c.given h).below (c.given h).apart

    self : (i : ℕ) → (with_change t).next ≡ i → ((with_change t).next == i) ≡ true
    self i e = grind (arith, nat_tests, e)

    found : (f : ℕ) → file_of_node (with_id (with_node u.nodes n) f) ≡ (if u.next == f then file_of_node (Some n) else file_at u f)
    found f = with_files u.nodes n f free

    other : (f : ℕ) → (f ≡ t.next → ⊥) → (u.next == f) ≡ false
    other f apart = by (u.next == f) refl
      where
        by : (b : Bool) → (u.next == f) ≡ b → b ≡ false
        by true e = absurd (apart (let same : u.next ≡ f = grind (arith, nat_tests, e) in sym same ∙ c.next))
        by false e = refl

    bounded : IsBounded t → t.next < 9223372036854775808 → length content ≤ file_most → contents_size t.nodes + length content ≤ tree_most → IsBounded (with_next u dir name 1 (Plain content))
    bounded b few short small =
        let l = c.bounded b in
        let positive = c.positive in
        record {
          count = l.count;
          next = (let e = c.next in omega (arith, few, e));
          each = all_with (IsNodeBounded (u.next + 1) u.changes) u.nodes n (all_map (IsNodeBounded u.next u.changes) (IsNodeBounded (u.next + 1) u.changes) (λ m d. record { id = (let a = d.id in omega (arith, a)); version = d.version; content = d.content }) u.nodes l.each) (record { id = omega arith; version = positive; content = short });
          apart = g.1;
          size = let e = size_with u.nodes n in let d = c.size in omega (arith, e, d, small);
        }

pub opens_file : (t : Tree) (dir : ℕ) (name content : List ℕ) → IsGiven t → can_open t dir name ≡ true → IsOpened t (opens t dir name (Plain content)) content
opens_file t dir name content h can = subst (λ (b : Bool). IsOpened t (if b then opened t dir name (Plain content) else t) content) (sym can) (opened_tree t dir name content h)

-- the tree with a directory more
pub record IsWidened (t u : Tree) : Type 0 where
  pub next : u.next ≡ t.next + 1
  pub files : (f : ℕ) → file_at u f ≡ file_at t f
  pub size : contents_size u.nodes ≡ contents_size t.nodes
  pub given : IsGiven u
  pub zero : 1 < t.next → with_id t.nodes 0 ≡ None → with_id u.nodes 0 ≡ None
  pub bounded : IsBounded t → t.next < 9223372036854775808 → IsBounded u

widened_tree : (t : Tree) (dir : ℕ) (name : List ℕ) → IsGiven t → IsWidened t (opened t dir name Directory)
widened_tree t dir name h = record {
  next = refl;
  files = λ f. with_files t.nodes n f free ∙ by f (t.next == f) refl;
  size = let e = size_with t.nodes n in omega (arith, e);
  given = record { below = g.0; apart = g.1 };
  zero = λ above none. with_id_with t.nodes n 0 free ∙ ap (λ (b : Bool). if b then Some n else with_id t.nodes 0) (let z : (t.next == 0) ≡ false = grind (arith, nat_tests, above) in z) ∙ none;
  bounded = λ b few. record {
    count = b.count;
    next = omega (arith, few);
    each = all_with (IsNodeBounded (t.next + 1) t.changes) t.nodes n (all_map (IsNodeBounded t.next t.changes) (IsNodeBounded (t.next + 1) t.changes) (λ m d. record { id = (let a = d.id in omega (arith, a)); version = d.version; content = d.content }) t.nodes b.each) (record { id = omega arith; version = omega arith; content = omega arith });
    apart = g.1;
    size = let e = size_with t.nodes n in let small = b.size in omega (arith, e, small);
  };
}
  where
    n : Node
    n = record { id = t.next; parent = dir; name = name; version = t.changes; body = Directory }

    free : with_id t.nodes t.next ≡ None
    free = next_free t h

    g : AllByRecursion (λ (m : Node). m.id < t.next + 1) (with_node t.nodes n) × AreIdsApart (with_node t.nodes n)
    g = given_with t.nodes t.next n refl h.below h.apart

    by : (f : ℕ) (b : Bool) → (t.next == f) ≡ b → (if b then file_of_node (Some n) else file_at t f) ≡ file_at t f
    by f true e = let same : t.next ≡ f = grind (arith, nat_tests, e) in sym (ap file_of_node free) ∙ ap (file_at t) same
    by f false e = refl

pub opens_directory : (t : Tree) (dir : ℕ) (name : List ℕ) → IsGiven t → can_open t dir name ≡ true → IsWidened t (opens t dir name Directory)
opens_directory t dir name h can = subst (λ (b : Bool). IsWidened t (if b then opened t dir name Directory else t)) (sym can) (widened_tree t dir name h)

-- its versions are counted
pub opens_counted : (t : Tree) (dir : ℕ) (name : List ℕ) (b : Body) → can_open t dir name ≡ true → AreCounted t → AreCounted (opens t dir name b)
opens_counted t dir name b can h = subst (λ (z : Bool). AreCounted (if z then opened t dir name b else t)) (sym can) (by b)
  where
    changed_ : (z : Bool) → (t.changes == 0) ≡ z → (let u : Tree = if z then record { nodes = map (counted_at 1) t.nodes; next = t.next; changes = 1 } else t in AllByRecursion (λ (n : Node). n.version ≤ u.changes) u.nodes × (1 ≤ u.changes))
    changed_ false e = (h.versions, grind (arith, nat_tests, e))
    changed_ true e = (counted_all (λ (n : Node). n.version ≤ t.changes) (λ (n : Node). n.version ≤ 1) 1 (λ n le. one n (let z : t.changes ≡ 0 = grind (arith, nat_tests, e) in omega (arith, le, z)) (is_directory n.body)) t.nodes h.versions, omega arith)
      where
        one : (n : Node) → n.version ≤ 0 → (b : Bool) → (if b then record n { version = 1 } else n).version ≤ 1
        one n le true = omega arith
        one n le false = omega (arith, le)

    by : (b : Body) → AreCounted (opened t dir name b)
    by Directory = record { given = (widened_tree t dir name h.given).given; versions = all_with (λ (n : Node). n.version ≤ t.changes) t.nodes (record { id = t.next; parent = dir; name = name; version = t.changes; body = Directory }) h.versions (omega arith) }
    by (Plain content) =
        let c = changed_ (t.changes == 0) refl in
        let u = with_change t in
        let one = c.1 in
        record { given = (opened_tree t dir name content h.given).given; versions = all_with (λ (n : Node). n.version ≤ u.changes) u.nodes (opening_node u dir name content) c.0 (omega (arith, one)) }

-- ---- what a handle of this file system names

pub data Named (t : Tree) (f : ℕ) : Type 0 where
  a_directory : (n : Node) → directory_of t.nodes f ≡ Ok n → file_at t f ≡ None → node_named t (Some f) ≡ Ok directory → Named t f
  nobody : file_at t f ≡ None → node_named t (Some f) ≡ Err status.Stale → Named t f
  a_file : (g : File) → file_at t f ≡ Some g → node_named t (Some f) ≡ Ok (file g) → Named t f

pub named_in : (t : Tree) (f : ℕ) → Named t f
named_in t f = by (with_id t.nodes f) refl
  where
    file_by : (n : Node) (b : Body) → n.body ≡ b → with_id t.nodes f ≡ Some n → Named t f
    file_by n Directory e at = a_directory n (ap (λ (o : Option Node). or_stale o >>= directory_or status.NotDir) at ∙ ap (λ (z : Body). let r : Result Node Status = if is_directory z then Ok n else Err status.NotDir in r) e) (ap file_of_node at ∙ ap (file_of_body n) e) (ap node_found at ∙ ap (λ (z : Body). let r : Result ServerNode Status = Ok (node_with n z) in r) e)
    file_by n (Plain x) e at = a_file (record { id = n.id; version = n.version; content = x }) (ap file_of_node at ∙ ap (file_of_body n) e) (ap node_found at ∙ ap (λ (z : Body). let r : Result ServerNode Status = Ok (node_with n z) in r) e)

    by : (o : Option Node) → with_id t.nodes f ≡ o → Named t f
    by None at = nobody (ap file_of_node at) (ap node_found at)
    by (Some n) at = file_by n n.body refl at

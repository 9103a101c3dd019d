-- What a node more that a tree opens with leaves of its limits, and how all directories get one version, one after the other.
use Rattle.std.proofs.Common.{◌≡◌, refl, sym, ap, ◌∙◌, subst, ℕ, ◌+◌, ◌<◌, ◌≤◌, ◌^◌, List, [], ◌∷◌, length, map, Option, Some, None, Bool, true, false, ◌==◌, ◌&&◌, arith, if◌then◌else◌, inl, inr, ◌⊎◌, Result, Ok, Err}
use Rattle.std.specs.Prelude.{nat_lt}
use Rattle.std.specs.List.{AllByRecursion}
use Rattle.std.specs.Str.{bytes_eq}
use Rattle.std.proofs.lemmas.Bool.{cases_lt}
use Rattle.std.proofs.lemmas.Bool.Decides.{nat_tests}
use Rattle.xdr_codec.specs.declared.status.Status.{Status}
use Rattle.xdr_codec.specs.declared.status.Status.TheVariants as status
use Rattle.tree_nodes.specs.declared.node.Node.{Node}
use Rattle.tree_nodes.specs.Nodes.{named, with_node, versioned}
use Rattle.tree_nodes.specs.View.{NodesState}
use Rattle.tree_reading.specs.Chain.{◌>>=◌}
use Rattle.tree_reading.specs.Names.{spelt, undotted}
use Rattle.file_tree.specs.Opening.{may_open, counted_at, with_change}
use Rattle.tree_reading.specs.Tree.{Tree, is_directory, content_of, contents_size, directory_of, or_taken, file_most, tree_most}
use Rattle.tree_reading.specs.View.{IsNodeBounded}
use Rattle.file_tree.specs.View.{AreIdsApart, IsWithinLimits, is_directory_at, counted_if, counted_below}
use Rattle.file_tree.proofs.lemmas.Limits.{limits_with, limits_versioned, size_with, size_same}

-- ---- a node more

pub added_limits : (old new : NodesState) (changes : ℕ) (n : Node) → IsWithinLimits old changes → n.id ≡ old.next → n.id < 2 ^ 63 → n.version ≤ changes → length (content_of n.body) ≤ file_most → contents_size old.nodes + length (content_of n.body) ≤ tree_most → new ≡ record { nodes = with_node old.nodes n; next = n.id + 1; room = new.room } → IsWithinLimits new changes
added_limits old new changes n l id few version short small is =
    let wide : IsWithinLimits (record { nodes = with_node old.nodes n; next = old.next + 1; room = new.room }) changes = limits_with old changes n new.room l id (omega (arith, id, few)) version short small in
    subst (λ (s : NodesState). IsWithinLimits s changes) (sym (is ∙ ap (λ (i : ℕ). record { nodes = with_node old.nodes n; next = i + 1; room = new.room }) id)) wide

pub added_size : (old new : NodesState) (n : Node) → new ≡ record { nodes = with_node old.nodes n; next = n.id + 1; room = new.room } → contents_size new.nodes ≡ contents_size old.nodes + length (content_of n.body)
added_size old new n is = ap (λ (s : NodesState). contents_size s.nodes) is ∙ size_with old.nodes n

-- what is counted then
pub added_fits : (bytes all len size : ℕ) → bytes ≡ all → all + len ≤ tree_most → size ≡ len → bytes + size < 2 ^ 64
added_fits bytes all len size a b c = omega (arith, a, b, c)

pub added_bytes : (bytes all len size now : ℕ) → bytes ≡ all → size ≡ len → now ≡ all + len → bytes + size ≡ now
added_bytes bytes all len size now a b c = omega (arith, a, b, c)

-- ---- another version for one

pub versioned_limits : (old new : NodesState) (changes id : ℕ) → IsWithinLimits old changes → 1 ≤ changes → new ≡ record { nodes = versioned old.nodes id 1; next = old.next; room = new.room } → IsWithinLimits new changes
versioned_limits old new changes id l one is = subst (λ (s : NodesState). IsWithinLimits s changes) (sym is) (limits_versioned old changes id 1 new.room l one)

pub versioned_size : (old new : NodesState) (id : ℕ) → new ≡ record { nodes = versioned old.nodes id 1; next = old.next; room = new.room } → contents_size new.nodes ≡ contents_size old.nodes
versioned_size old new id is = ap (λ (s : NodesState). contents_size s.nodes) is ∙ size_same (λ k. record k { version = 1 }) (λ m. refl) old.nodes id

-- a first change
pub first_limits : (s : NodesState) → IsWithinLimits s 0 → IsWithinLimits s 1
first_limits s l = record {
  count = omega arith;
  next = omega (arith, l.next);
  each = raised s.nodes l.each;
  apart = l.apart;
  size = l.size;
}
  where
    raised : (ns : List Node) → AllByRecursion (IsNodeBounded s.next 0) ns → AllByRecursion (IsNodeBounded s.next 1) ns
    raised [] all = tt
    raised (n ∷ ns) all = (record { id = all.0.id; version = omega (arith, all.0.version); content = all.0.content }, raised ns all.1)

-- ---- one after the other

lt_none : (a : ℕ) → nat_lt a 0 ≡ false
lt_none a = grind (arith, nat_tests)

lt_here : (a k : ℕ) → (a == k) ≡ true → nat_lt a k ≡ false
lt_here a k e = grind (arith, nat_tests, e)

lt_behind : (a k : ℕ) → (a == k) ≡ true → nat_lt a (k + 1) ≡ true
lt_behind a k e = grind (arith, nat_tests, e)

lt_is : (a k : ℕ) → a < k → nat_lt a k ≡ true
lt_is a k lt = grind (arith, nat_tests, lt)

lt_not : (a k : ℕ) → k ≤ a → nat_lt a k ≡ false
lt_not a k le = grind (arith, nat_tests, le)

apart_is : (a k : ℕ) → (a == k) ≡ false → k ≤ a → k + 1 ≤ a
apart_is a k e le = grind (arith, nat_tests, e, le)

lt_same : (a k : ℕ) → (a == k) ≡ false → nat_lt a k ≡ nat_lt a (k + 1)
lt_same a k e = by (cases_lt a k)
  where
    by : (a < k) ⊎ (k ≤ a) → nat_lt a k ≡ nat_lt a (k + 1)
    by (inl lt) = lt_is a k lt ∙ sym (lt_is a (k + 1) (omega (arith, lt)))
    by (inr le) = lt_not a k le ∙ sym (lt_not a (k + 1) (apart_is a k e le))

id_at : (n : Node) → (counted_at 1 n).id ≡ n.id
id_at n = by (is_directory n.body)
  where
    by : (b : Bool) → (if b then record n { version = 1 } else n).id ≡ n.id
    by true = refl
    by false = refl

id_same : (k : ℕ) (n : Node) → (counted_below k n).id ≡ n.id
id_same k n = by (nat_lt n.id k)
  where
    by : (b : Bool) → (if b then counted_at 1 n else n).id ≡ n.id
    by true = id_at n
    by false = refl

one_same : (k : ℕ) (n : Node) → (n.id == k) ≡ false → counted_below k n ≡ counted_below (k + 1) n
one_same k n e = ap (λ (b : Bool). if b then counted_at 1 n else n) (lt_same n.id k e)

-- none of these has the id
rest_same : (k : ℕ) (ns : List Node) → AllByRecursion (λ m. (m.id == k) ≡ false) ns → map (counted_below k) ns ≡ map (counted_below (k + 1)) ns
rest_same k [] all = refl
rest_same k (n ∷ ns) all = ap (λ (m : Node). m ∷ map (counted_below k) ns) (one_same k n all.0) ∙ ap (λ (ms : List Node). counted_below (k + 1) n ∷ ms) (rest_same k ns all.1)

rest_left : (k : ℕ) (ns : List Node) → AllByRecursion (λ m. (m.id == k) ≡ false) ns → versioned (map (counted_below k) ns) k 1 ≡ map (counted_below k) ns
rest_left k [] all = refl
rest_left k (n ∷ ns) all = by ((counted_below k n).id == k) (ap (λ (i : ℕ). i == k) (id_same k n) ∙ all.0) (rest_left k ns all.1)
  where
    by : (b : Bool) → b ≡ false → versioned (map (counted_below k) ns) k 1 ≡ map (counted_below k) ns → (if b then record (counted_below k n) { version = 1 } else counted_below k n) ∷ versioned (map (counted_below k) ns) k 1 ≡ counted_below k n ∷ map (counted_below k) ns
    by true e rest = absurd cc
    by false e rest = ap (λ (ms : List Node). counted_below k n ∷ ms) rest

only : (n : Node) (ns : List Node) (k : ℕ) → AllByRecursion (λ m. (n.id == m.id) ≡ false) ns → (n.id == k) ≡ true → AllByRecursion (λ m. (m.id == k) ≡ false) ns
only n [] k all is = tt
only n (m ∷ ms) k all is = (other m.id all.0, only n ms k all.1 is)
  where
    other : (b : ℕ) → (n.id == b) ≡ false → (b == k) ≡ false
    other b e = grind (arith, nat_tests, e, is)

-- the directory of an id is the next
pub next_counted : (k : ℕ) (ns : List Node) → AreIdsApart ns → counted_if (is_directory_at (map (counted_below k) ns) k) (map (counted_below k) ns) k ≡ map (counted_below (k + 1)) ns
next_counted k [] apart = refl
next_counted k (n ∷ ns) apart = by (n.id == k) refl (next_counted k ns apart.1)
  where
    tail : List Node
    tail = map (counted_below k) ns

    -- the first has it: it is as it was so far
    first : (m : Node) (b : Bool) → (m.id == k) ≡ true → is_directory m.body ≡ b → AllByRecursion (λ x. (x.id == k) ≡ false) ns
        → counted_if (is_directory_at (m ∷ tail) k) (m ∷ tail) k ≡ (if b then record m { version = 1 } else m) ∷ map (counted_below (k + 1)) ns
    first m true is dir others = rw (is, dir, is) (ap (λ (ms : List Node). record m { version = 1 } ∷ ms) (rest_left k ns others ∙ rest_same k ns others))
    first m false is dir others = rw (is, dir) (ap (λ (ms : List Node). m ∷ ms) (rest_same k ns others))

    -- another has it, or none
    later : (m : Node) (d : Bool) → (m.id == k) ≡ false → is_directory_at tail k ≡ d → counted_if d tail k ≡ map (counted_below (k + 1)) ns
        → counted_if (is_directory_at (m ∷ tail) k) (m ∷ tail) k ≡ m ∷ map (counted_below (k + 1)) ns
    later m true other dir rest = rw (other, dir, other) (ap (λ (ms : List Node). m ∷ ms) rest)
    later m false other dir rest = rw (other, dir) (ap (λ (ms : List Node). m ∷ ms) rest)

    by : (b : Bool) → (n.id == k) ≡ b → counted_if (is_directory_at tail k) tail k ≡ map (counted_below (k + 1)) ns
        → counted_if (is_directory_at (counted_below k n ∷ tail) k) (counted_below k n ∷ tail) k ≡ counted_below (k + 1) n ∷ map (counted_below (k + 1)) ns
    by true is rest =
        let now : counted_below k n ≡ n = ap (λ (b : Bool). if b then counted_at 1 n else n) (lt_here n.id k is) in
        let next : counted_below (k + 1) n ≡ counted_at 1 n = ap (λ (b : Bool). if b then counted_at 1 n else n) (lt_behind n.id k is) in
        subst (λ (m : Node). counted_if (is_directory_at (m ∷ tail) k) (m ∷ tail) k ≡ counted_below (k + 1) n ∷ map (counted_below (k + 1)) ns) (sym now)
        (first n (is_directory n.body) is refl (only n ns k apart.0 is) ∙ ap (λ (m : Node). m ∷ map (counted_below (k + 1)) ns) (sym next))
    by false other rest =
        later (counted_below k n) (is_directory_at tail k) (ap (λ (i : ℕ). i == k) (id_same k n) ∙ other) refl rest
        ∙ ap (λ (m : Node). m ∷ map (counted_below (k + 1)) ns) (one_same k n other)

pub none_counted : (ns : List Node) → map (counted_below 0) ns ≡ ns
none_counted [] = refl
none_counted (n ∷ ns) = ap (λ (b : Bool). (if b then counted_at 1 n else n) ∷ map (counted_below 0) ns) (lt_none n.id) ∙ ap (λ (ms : List Node). n ∷ ms) (none_counted ns)

pub all_counted : (next changes k : ℕ) (ns : List Node) → next ≤ k → AllByRecursion (IsNodeBounded next changes) ns → map (counted_below k) ns ≡ map (counted_at 1) ns
all_counted next changes k [] le all = refl
all_counted next changes k (n ∷ ns) le all = ap (λ (b : Bool). (if b then counted_at 1 n else n) ∷ map (counted_below k) ns) (lt_is n.id k (omega (arith, all.0.id, le))) ∙ ap (λ (ms : List Node). counted_at 1 n ∷ ms) (all_counted next changes k ns le all.1)

-- ---- a name that was free is free still

free_at : (n : Node) (dir : ℕ) (name : List ℕ) (rest : List Node) → named (counted_at 1 n ∷ rest) dir name ≡ (if (n.parent == dir) && bytes_eq n.name name then Some (counted_at 1 n) else named rest dir name)
free_at n dir name rest = by (is_directory n.body)
  where
    by : (b : Bool) → named ((if b then record n { version = 1 } else n) ∷ rest) dir name ≡ (if (n.parent == dir) && bytes_eq n.name name then Some (if b then record n { version = 1 } else n) else named rest dir name)
    by true = refl
    by false = refl

named_counted : (ns : List Node) (dir : ℕ) (name : List ℕ) → named ns dir name ≡ None → named (map (counted_at 1) ns) dir name ≡ None
named_counted [] dir name free = refl
named_counted (n ∷ ns) dir name free = free_at n dir name (map (counted_at 1) ns) ∙ by ((n.parent == dir) && bytes_eq n.name name) free (named_counted ns dir name)
  where
    by : (b : Bool) → (if b then Some n else named ns dir name) ≡ None → (named ns dir name ≡ None → named (map (counted_at 1) ns) dir name ≡ None) → (if b then Some (counted_at 1 n) else named (map (counted_at 1) ns) dir name) ≡ None
    by true e later = absurd cc
    by false e later = later e

pub free_still : (t : Tree) (dir : ℕ) (name : List ℕ) → named t.nodes dir name ≡ None → named (with_change t).nodes dir name ≡ None
free_still t dir name free = by (t.changes == 0)
  where
    by : (b : Bool) → named (if b then record { nodes = map (counted_at 1) t.nodes; next = t.next; changes = 1 } else t).nodes dir name ≡ None
    by true = named_counted t.nodes dir name free
    by false = free

pub free_opened : (ns : List Node) (dir : ℕ) (name : List ℕ) → may_open ns dir name ≡ Ok tt → named ns dir name ≡ None
free_opened ns dir name may = by (directory_of ns dir) (spelt name) (undotted status.Exist status.Exist name) (named ns dir name) may
  where
    by : (a : Result Node Status) (b c : Result Unit Status) (o : Option Node) → (a >>= λ _. b >>= λ _. c >>= λ _. or_taken o) ≡ Ok tt → o ≡ None
    by (Err s) b c o e = absurd cc
    by (Ok d) (Err s) c o e = absurd cc
    by (Ok d) (Ok u) (Err s) o e = absurd cc
    by (Ok d) (Ok u) (Ok v) (Some n) e = absurd cc
    by (Ok d) (Ok u) (Ok v) None e = refl

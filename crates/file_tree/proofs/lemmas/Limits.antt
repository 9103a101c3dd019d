-- What changes leave of a tree's limits.
use Rattle.std.proofs.Common.{◌≡◌, ℕ, zero, suc, ◌+◌, ◌^◌, ◌<◌, ◌≤◌, List, [], ◌∷◌, length, drop, Some, Bool, true, false, not, ◌==◌, refl, sym, ap, ◌∙◌, arith, if◌then◌else◌, cond}
use Rattle.std.specs.List.{filter, slice_get, AllByRecursion}
use Rattle.std.proofs.lemmas.Bool.Decides.{nat_tests}
use Rattle.tree_nodes.specs.declared.node.Node.{Node}
use Rattle.tree_nodes.specs.declared.node.Body.{Body}
use Rattle.tree_nodes.specs.declared.node.Body.TheVariants.{File}
use Rattle.tree_nodes.specs.Nodes.{before, with_id, with_node, without, changed, versioned}
use Rattle.tree_nodes.specs.View.{NodesState}
use Rattle.tree_reading.specs.Tree.{content_of, contents_size, size_in, changes_most, file_most, tree_most}
use Rattle.tree_reading.specs.View.{IsNodeBounded, AreBounded}
use Rattle.file_tree.specs.View.{AreIdsApart, IsWithinLimits}
use Rattle.tree_reading.proofs.lemmas.Found.{some_is, found_all}
use Rattle.tree_reading.proofs.lemmas.Admitted.{remove_there, rmdir_there, replace_there}

-- ---- each node

pub all_map : (P Q : Node → Type 0) → ((x : Node) → P x → Q x) → (xs : List Node) → AllByRecursion P xs → AllByRecursion Q xs
all_map P Q f [] all = tt
all_map P Q f (x ∷ xs) all = (f x all.0, all_map P Q f xs all.1)

pub all_with : (P : Node → Type 0) (ms : List Node) (n : Node) → AllByRecursion P ms → P n → AllByRecursion P (with_node ms n)
all_with P [] n all is = (is, tt)
all_with P (m ∷ ms) n all is = all_if P m ms n (before m n.parent n.name) all is (all_with P ms n all.1 is)
  where
    all_if : (P : Node → Type 0) (m : Node) (ms : List Node) (n : Node) (b : Bool) → AllByRecursion P (m ∷ ms) → P n → AllByRecursion P (with_node ms n) → AllByRecursion P (if b then m ∷ with_node ms n else n ∷ m ∷ ms)
    all_if P m ms n true all is later = (all.0, later)
    all_if P m ms n false all is later = (is, all)

pub all_filter : (P : Node → Type 0) (q : Node → Bool) (ms : List Node) → AllByRecursion P ms → AllByRecursion P (filter q ms)
all_filter P q [] all = tt
all_filter P q (m ∷ ms) all = filter_if P q m ms (q m) all.0 (all_filter P q ms all.1)
  where
    filter_if : (P : Node → Type 0) (q : Node → Bool) (m : Node) (ms : List Node) (b : Bool) → P m → AllByRecursion P (filter q ms) → AllByRecursion P (cond b (m ∷ filter q ms) (filter q ms))
    filter_if P q m ms true is later = (is, later)
    filter_if P q m ms false is later = later

pub all_changed : (P : Node → Type 0) (f : Node → Node) → ((m : Node) → P m → P (f m)) → (ms : List Node) (id : ℕ) → AllByRecursion P ms → AllByRecursion P (changed ms id f)
all_changed P f keeps [] id all = tt
all_changed P f keeps (m ∷ ms) id all = (changed_if P f keeps m (m.id == id) all.0, all_changed P f keeps ms id all.1)
  where
    changed_if : (P : Node → Type 0) (f : Node → Node) → ((m : Node) → P m → P (f m)) → (m : Node) (b : Bool) → P m → P (if b then f m else m)
    changed_if P f keeps m true is = keeps m is
    changed_if P f keeps m false is = is

-- ---- ids

pub apart_with : (ms : List Node) (n : Node) → AreIdsApart ms → AllByRecursion (λ m. (m.id == n.id) ≡ false) ms → AreIdsApart (with_node ms n)
apart_with [] n apart new = (tt, tt)
apart_with (m ∷ ms) n apart new = apart_if (before m n.parent n.name) (apart_with ms n apart.1 new.1)
  where
    turned : (k : Node) → (k.id == n.id) ≡ false → (n.id == k.id) ≡ false
    turned k e = grind (arith, nat_tests, e)

    apart_if : (b : Bool) → AreIdsApart (with_node ms n) → AreIdsApart (if b then m ∷ with_node ms n else n ∷ m ∷ ms)
    apart_if true later = (all_with (λ k. (m.id == k.id) ≡ false) ms n apart.0 new.0, later)
    apart_if false later = ((turned m new.0, all_map (λ k. (k.id == n.id) ≡ false) (λ k. (n.id == k.id) ≡ false) turned ms new.1), apart)

pub apart_without : (ms : List Node) (id : ℕ) → AreIdsApart ms → AreIdsApart (without ms id)
apart_without [] id apart = tt
apart_without (m ∷ ms) id apart = without_if (not (m.id == id)) (apart_without ms id apart.1)
  where
    without_if : (b : Bool) → AreIdsApart (without ms id) → AreIdsApart (cond b (m ∷ without ms id) (without ms id))
    without_if true later = (all_filter (λ k. (m.id == k.id) ≡ false) (λ k. not (k.id == id)) ms apart.0, later)
    without_if false later = later

pub apart_changed : (f : Node → Node) → ((m : Node) → (f m).id ≡ m.id) → (ms : List Node) (id : ℕ) → AreIdsApart ms → AreIdsApart (changed ms id f)
apart_changed f same [] id apart = tt
apart_changed f same (m ∷ ms) id apart = (others ms apart.0, apart_changed f same ms id apart.1)
  where
    id_same : (k : Node) (b : Bool) → (if b then f k else k).id ≡ k.id
    id_same k true = same k
    id_same k false = refl

    others : (ks : List Node) → AllByRecursion (λ k. (m.id == k.id) ≡ false) ks → AllByRecursion (λ k. ((if m.id == id then f m else m).id == k.id) ≡ false) (changed ks id f)
    others [] all = tt
    others (k ∷ ks) all = (rw (id_same m (m.id == id), id_same k (k.id == id)) all.0, others ks all.1)

-- ---- sizes

pub size_with : (ms : List Node) (n : Node) → contents_size (with_node ms n) ≡ contents_size ms + length (content_of n.body)
size_with [] n = omega arith
size_with (m ∷ ms) n = size_if (before m n.parent n.name) (size_with ms n)
  where
    size_if : (b : Bool) → contents_size (with_node ms n) ≡ contents_size ms + length (content_of n.body) → contents_size (if b then m ∷ with_node ms n else n ∷ m ∷ ms) ≡ length (content_of m.body) + contents_size ms + length (content_of n.body)
    size_if true later = omega (arith, later)
    size_if false later = omega arith

-- place by place
size_at : (ns : List Node) (k : ℕ) → k < length ns → contents_size (drop k ns) ≡ size_in (slice_get ns k) + contents_size (drop (suc k) ns)
size_at [] k within = absurd (omega (arith, within))
size_at (n ∷ ns) zero within = refl
size_at (n ∷ ns) (suc k) within = size_at ns k (omega (arith, within))

pub size_from : (ns : List Node) (k : ℕ) → k < length ns → contents_size (drop k ns) ≡ size_in (slice_get ns k) + contents_size (drop (k + 1) ns)
size_from ns k within = let next : k + 1 ≡ suc k = omega arith in size_at ns k within ∙ ap (λ j. size_in (slice_get ns k) + contents_size (drop j ns)) (sym next)

pub size_past : (ns : List Node) (k : ℕ) → length ns ≤ k → contents_size (drop k ns) ≡ 0
size_past [] zero past = refl
size_past [] (suc k) past = refl
size_past (n ∷ ns) zero past = absurd (omega (arith, past))
size_past (n ∷ ns) (suc k) past = size_past ns k (omega (arith, past))

pub size_same : (f : Node → Node) → ((m : Node) → (f m).body ≡ m.body) → (ms : List Node) (id : ℕ) → contents_size (changed ms id f) ≡ contents_size ms
size_same f same [] id = refl
size_same f same (m ∷ ms) id =
    let first : length (content_of (if m.id == id then f m else m).body) ≡ length (content_of m.body) = body_if (m.id == id) in
    let rest = size_same f same ms id in
    λ i. first i + rest i
  where
    body_if : (b : Bool) → length (content_of (if b then f m else m).body) ≡ length (content_of m.body)
    body_if true = ap (λ (k : Body). length (content_of k)) (same m)
    body_if false = refl

-- none of these has the id
without_none : (ms : List Node) (id : ℕ) → AllByRecursion (λ m. (m.id == id) ≡ false) ms → without ms id ≡ ms
without_none [] id all = refl
without_none (m ∷ ms) id all = rw all.0 (ap (λ z. m ∷ z) (without_none ms id all.1))

changed_none : (f : Node → Node) (ms : List Node) (id : ℕ) → AllByRecursion (λ m. (m.id == id) ≡ false) ms → changed ms id f ≡ ms
changed_none f [] id all = refl
changed_none f (m ∷ ms) id all = rw all.0 (ap (λ z. m ∷ z) (changed_none f ms id all.1))

only_one : (m : Node) (ms : List Node) (id : ℕ) → AllByRecursion (λ k. (m.id == k.id) ≡ false) ms → (m.id == id) ≡ true → AllByRecursion (λ k. (k.id == id) ≡ false) ms
only_one m ms id apart is = all_map (λ k. (m.id == k.id) ≡ false) (λ k. (k.id == id) ≡ false) (λ k other. grind (arith, nat_tests, other, is)) ms apart

pub size_without : (ms : List Node) (id : ℕ) (n : Node) → AreIdsApart ms → with_id ms id ≡ Some n → contents_size (without ms id) + length (content_of n.body) ≡ contents_size ms
size_without [] id n apart at = absurd cc
size_without (m ∷ ms) id n apart at = without_if (m.id == id) refl at (size_without ms id n apart.1)
  where
    without_if : (b : Bool) → (m.id == id) ≡ b → (if b then Some m else with_id ms id) ≡ Some n → (with_id ms id ≡ Some n → contents_size (without ms id) + length (content_of n.body) ≡ contents_size ms) → contents_size (cond (not b) (m ∷ without ms id) (without ms id)) + length (content_of n.body) ≡ length (content_of m.body) + contents_size ms
    without_if true is same later =
        let rest : contents_size (without ms id) ≡ contents_size ms = ap contents_size (without_none ms id (only_one m ms id apart.0 is)) in
        let which : length (content_of n.body) ≡ length (content_of m.body) = ap (λ (k : Node). length (content_of k.body)) (sym (some_is m m n same)) in
        omega (arith, rest, which)
    without_if false is same later = omega (arith, later same)

pub size_changed : (f : Node → Node) (ms : List Node) (id : ℕ) (n : Node) → AreIdsApart ms → with_id ms id ≡ Some n → contents_size (changed ms id f) + length (content_of n.body) ≡ contents_size ms + length (content_of (f n).body)
size_changed f [] id n apart at = absurd cc
size_changed f (m ∷ ms) id n apart at = changed_if (m.id == id) refl at (size_changed f ms id n apart.1)
  where
    changed_if : (b : Bool) → (m.id == id) ≡ b → (if b then Some m else with_id ms id) ≡ Some n → (with_id ms id ≡ Some n → contents_size (changed ms id f) + length (content_of n.body) ≡ contents_size ms + length (content_of (f n).body)) → length (content_of (if b then f m else m).body) + contents_size (changed ms id f) + length (content_of n.body) ≡ length (content_of m.body) + contents_size ms + length (content_of (f n).body)
    changed_if true is same later =
        let rest : contents_size (changed ms id f) ≡ contents_size ms = ap contents_size (changed_none f ms id (only_one m ms id apart.0 is)) in
        let before_it : length (content_of n.body) ≡ length (content_of m.body) = ap (λ (k : Node). length (content_of k.body)) (sym (some_is m m n same)) in
        let after_it : length (content_of (f n).body) ≡ length (content_of (f m).body) = ap (λ (k : Node). length (content_of (f k).body)) (sym (some_is m m n same)) in
        omega (arith, rest, before_it, after_it)
    changed_if false is same later = omega (arith, later same)

-- ---- the limits of a tree, change by change

abbrev with_nodes : NodesState → List Node → ℕ → NodesState
with_nodes s ns room = record { nodes = ns; next = s.next; room = room }

-- a count more
pub counted : (s : NodesState) (changes changes' : ℕ) → IsWithinLimits s changes → changes ≤ changes' → changes' ≤ changes_most → IsWithinLimits s changes'
counted s changes changes' l more most = record {
  count = most;
  next = omega (arith, l.next, more);
  each = all_map (IsNodeBounded s.next changes) (IsNodeBounded s.next changes') (λ n b. record { id = b.id; version = omega (arith, b.version, more); content = b.content }) s.nodes l.each;
  apart = l.apart;
  size = l.size;
}

-- a node more, with a new id
pub limits_with : (s : NodesState) (changes : ℕ) (n : Node) (room : ℕ) → IsWithinLimits s changes → n.id ≡ s.next → s.next + 1 ≤ 2 ^ 63 + changes → n.version ≤ changes → length (content_of n.body) ≤ file_most → contents_size s.nodes + length (content_of n.body) ≤ tree_most → IsWithinLimits (record { nodes = with_node s.nodes n; next = s.next + 1; room = room }) changes
limits_with s changes n room l new next counted_version short small = record {
  count = l.count;
  next = next;
  each = all_with (IsNodeBounded (s.next + 1) changes) s.nodes n (all_map (IsNodeBounded s.next changes) (IsNodeBounded (s.next + 1) changes) (λ m b. record { id = omega (arith, b.id); version = b.version; content = b.content }) s.nodes l.each) (record { id = omega (arith, new); version = counted_version; content = short });
  apart = apart_with s.nodes n l.apart (all_map (IsNodeBounded s.next changes) (λ m. (m.id == n.id) ≡ false) (λ m b. other m.id n.id (omega (arith, b.id, new))) s.nodes l.each);
  size = omega (arith, size_with s.nodes n, small);
}
  where
    other : (a b : ℕ) → a < b → (a == b) ≡ false
    other a b less = grind (arith, nat_tests, less)

less_size : (ms : List Node) (id : ℕ) → contents_size (without ms id) ≤ contents_size ms
less_size [] id = omega arith
less_size (m ∷ ms) id = less_if (not (m.id == id)) (less_size ms id)
  where
    less_if : (b : Bool) → contents_size (without ms id) ≤ contents_size ms → contents_size (cond b (m ∷ without ms id) (without ms id)) ≤ length (content_of m.body) + contents_size ms
    less_if true le = omega (arith, le)
    less_if false le = omega (arith, le)

pub limits_without : (s : NodesState) (changes id room : ℕ) → IsWithinLimits s changes → IsWithinLimits (with_nodes s (without s.nodes id) room) changes
limits_without s changes id room l = record {
  count = l.count;
  next = l.next;
  each = all_filter (IsNodeBounded s.next changes) (λ m. not (m.id == id)) s.nodes l.each;
  apart = apart_without s.nodes id l.apart;
  size = omega (arith, less_size s.nodes id, l.size);
}

pub limits_versioned : (s : NodesState) (changes id version room : ℕ) → IsWithinLimits s changes → version ≤ changes → IsWithinLimits (with_nodes s (versioned s.nodes id version) room) changes
limits_versioned s changes id version room l counted_version = record {
  count = l.count;
  next = l.next;
  each = all_changed (IsNodeBounded s.next changes) (λ n. record n { version = version }) (λ m b. record { id = b.id; version = counted_version; content = b.content }) s.nodes id l.each;
  apart = apart_changed (λ n. record n { version = version }) (λ m. refl) s.nodes id l.apart;
  size = rw (size_same (λ n. record n { version = version }) (λ m. refl) s.nodes id) l.size;
}

-- a node that is there under another name
pub limits_moved : (s : NodesState) (changes : ℕ) (n : Node) (to : ℕ) (name : List ℕ) (room : ℕ) → IsWithinLimits s changes → with_id s.nodes n.id ≡ Some n → IsWithinLimits (with_nodes s (with_node (without s.nodes n.id) (record n { parent = to; name = name })) room) changes
limits_moved s changes n to name room l at = record {
  count = l.count;
  next = l.next;
  each = all_with (IsNodeBounded s.next changes) (without s.nodes n.id) (record n { parent = to; name = name }) (all_filter (IsNodeBounded s.next changes) (λ m. not (m.id == n.id)) s.nodes l.each) (let b = found_bounded s.nodes l.each at in record { id = b.id; version = b.version; content = b.content });
  apart = apart_with (without s.nodes n.id) (record n { parent = to; name = name }) (apart_without s.nodes n.id l.apart) (gone s.nodes);
  size = omega (arith, size_with (without s.nodes n.id) (record n { parent = to; name = name }), size_without s.nodes n.id n l.apart at, l.size);
}
  where
    found_bounded : (ms : List Node) → AllByRecursion (IsNodeBounded s.next changes) ms → with_id ms n.id ≡ Some n → IsNodeBounded s.next changes n
    found_bounded ms each is = found_all (IsNodeBounded s.next changes) (λ m. m.id == n.id) ms n each is

    gone_if : (m : Node) (ms : List Node) (b : Bool) → (m.id == n.id) ≡ b → AllByRecursion (λ k. (k.id == n.id) ≡ false) (without ms n.id) → AllByRecursion (λ k. (k.id == n.id) ≡ false) (cond (not b) (m ∷ without ms n.id) (without ms n.id))
    gone_if m ms true e later = later
    gone_if m ms false e later = (e, later)

    gone : (ms : List Node) → AllByRecursion (λ k. (k.id == n.id) ≡ false) (without ms n.id)
    gone [] = tt
    gone (m ∷ ms) = gone_if m ms (m.id == n.id) refl (gone ms)

-- another content for a file
pub limits_refilled : (s : NodesState) (changes : ℕ) (n : Node) (version : ℕ) (content : List ℕ) (room : ℕ) → IsWithinLimits s changes → with_id s.nodes n.id ≡ Some n → version ≤ changes → length content ≤ file_most → contents_size s.nodes + length content ≤ tree_most → IsWithinLimits (with_nodes s (changed s.nodes n.id (λ m. record m { version = version; body = File content })) room) changes
limits_refilled s changes n version content room l at counted_version short small = record {
  count = l.count;
  next = l.next;
  each = all_changed (IsNodeBounded s.next changes) (λ m. record m { version = version; body = File content }) (λ m b. record { id = b.id; version = counted_version; content = short }) s.nodes n.id l.each;
  apart = apart_changed (λ m. record m { version = version; body = File content }) (λ m. refl) s.nodes n.id l.apart;
  size = omega (arith, size_changed (λ m. record m { version = version; body = File content }) s.nodes n.id n l.apart at, small);
}

-- what a node contains is a part of all
pub size_part : (ms : List Node) (id : ℕ) (n : Node) → with_id ms id ≡ Some n → length (content_of n.body) ≤ contents_size ms
size_part [] id n at = absurd cc
size_part (m ∷ ms) id n at = part_if (m.id == id) at (size_part ms id n)
  where
    part_if : (b : Bool) → (if b then Some m else with_id ms id) ≡ Some n → (with_id ms id ≡ Some n → length (content_of n.body) ≤ contents_size ms) → length (content_of n.body) ≤ length (content_of m.body) + contents_size ms
    part_if true same later = let which : length (content_of n.body) ≡ length (content_of m.body) = ap (λ (k : Node). length (content_of k.body)) (sym (some_is m m n same)) in omega (arith, which)
    part_if false same later = omega (arith, later same)

-- what the checks ask for follows
pub bounds : (s : NodesState) (changes : ℕ) → IsWithinLimits s changes → AreBounded s changes
bounds s changes l = record {
  next = omega (arith, l.next, l.count);
  changes_most = omega (arith, l.count);
  each = l.each;
}

-- what `bytes_in` goes by
pub ruleset by_bytes_in = (size_from, size_past)

-- what `remove` goes by
pub ruleset by_remove = (bounds, remove_there)

-- what `rmdir` goes by
pub ruleset by_rmdir = (bounds, rmdir_there)

-- what `replace` goes by
pub ruleset by_replace = (bounds, replace_there)

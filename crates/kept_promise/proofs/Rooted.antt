-- A tree always has its root, which alone has no name, and no name in it is longer than a directory takes: so a run begins, and what it makes of the tree leaves that.
use Rattle.std.proofs.Common.{◌≡◌, ℕ, ◌+◌, ◌<◌, ◌≤◌, List, [], ◌∷◌, length, map, Option, Some, None, Result, Ok, Err, Bool, true, false, not, ◌&&◌, ◌==◌, refl, sym, ap, ◌∙◌, subst, arith, nat_lt, if◌then◌else◌, IsSome}
use Rattle.std.specs.Prelude.{is_ok}
use Rattle.std.specs.List.{AllByRecursion}
use Rattle.std.specs.Str.{bytes_eq}
use Rattle.std.proofs.lemmas.Bool.Decides.{nat_tests}
use Rattle.xdr_codec.specs.declared.status.Status.{Status}
use Rattle.xdr_codec.specs.declared.status.Status.TheVariants as status
use Rattle.tree_nodes.specs.declared.node.Node.{Node}
use Rattle.tree_nodes.specs.declared.node.Body.{Body}
use Rattle.tree_nodes.specs.declared.node.Body.TheVariants.{Directory, File as Plain}
use Rattle.tree_nodes.specs.Nodes.{before, with_id, named, with_node, without, changed, versioned}
use Rattle.tree_nodes.proofs.lemmas.Lists.{with_id_without}
use Rattle.tree_reading.specs.Chain.{◌>>=◌}
use Rattle.tree_reading.specs.Names.{is_misspelt, spelt, undotted}
use Rattle.file_tree.specs.Opening.{may_open, can_open, counted_at, with_change, opened, opens}
use Rattle.tree_reading.specs.Plans.{rename_plan}
use Rattle.file_tree.specs.Step.{removed, placed, moved_at, moved, shifted, rename_if, rename, replaced}
use Rattle.tree_reading.specs.declared.call.Reservation.{Reservation}
use Rattle.tree_reading.specs.declared.call.Planned.{Planned}
use Rattle.tree_reading.specs.declared.call.Planned.TheVariants as planned
use Rattle.tree_reading.specs.Tree.{Tree, is_directory, directory_of, or_taken, root as root_of}
use Rattle.file_tree.proofs.lemmas.Limits.{all_map, all_with, all_filter}
use Rattle.server_law.proofs.lemmas.Trees.{IsGiven, refill, below_next, some_is}

-- its name is as long at most as a directory takes, and the root has none
pub record IsFit (n : Node) : Type 0 where
  pub short : length n.name ≤ 255
  pub root : n.id ≡ 1 → n.name ≡ []

abbrev pub IsShort : Node → Type 0
IsShort n = length n.name ≤ 255

pub record IsRooted (nodes : List Node) : Type 0 where
  pub root : IsSome (with_id nodes 1)
  pub each : AllByRecursion IsFit nodes

pub all_short : (nodes : List Node) → IsRooted nodes → AllByRecursion IsShort nodes
all_short nodes h = all_map IsFit IsShort (λ n f. f.short) nodes h.each

pub root_rooted : (version : ℕ) → IsRooted (root_of version ∷ [])
root_rooted version = record { root = refl; each = (record { short = omega arith; root = λ e. refl }, tt) }

-- ---- an id that names a node still does

found_next : (m : Node) (ms : List Node) (id : ℕ) → IsSome (with_id ms id) → IsSome (with_id (m ∷ ms) id)
found_next m ms id h = by (m.id == id)
  where
    by : (b : Bool) → IsSome (if b then Some m else with_id ms id)
    by true = refl
    by false = h

-- where it does behind the first, or is that one's
found_on : (m n : Node) (ms ns : List Node) (id : ℕ) → n.id ≡ m.id → (IsSome (with_id ms id) → IsSome (with_id ns id)) → IsSome (with_id (m ∷ ms) id) → IsSome (with_id (n ∷ ns) id)
found_on m n ms ns id same keeps h = subst (λ (i : ℕ). IsSome (if i == id then Some n else with_id ns id)) (sym same) (by (m.id == id) h)
  where
    by : (b : Bool) → IsSome (if b then Some m else with_id ms id) → IsSome (if b then Some n else with_id ns id)
    by true e = refl
    by false e = keeps e

found_with : (ms : List Node) (n : Node) (id : ℕ) → IsSome (with_id ms id) → IsSome (with_id (with_node ms n) id)
found_with [] n id h = absurd (none h)
  where
    none : IsSome {T = Node} None → ⊥
    none e = absurd cc
found_with (m ∷ ms) n id h = by (before m n.parent n.name) (found_with ms n id)
  where
    by : (b : Bool) → (IsSome (with_id ms id) → IsSome (with_id (with_node ms n) id)) → IsSome (with_id (if b then m ∷ with_node ms n else n ∷ m ∷ ms) id)
    by true keeps = found_on m m ms (with_node ms n) id refl keeps h
    by false keeps = found_next n (m ∷ ms) id h

found_map : (f : Node → Node) → ((m : Node) → (f m).id ≡ m.id) → (ms : List Node) (id : ℕ) → IsSome (with_id ms id) → IsSome (with_id (map f ms) id)
found_map f same [] id h = h
found_map f same (m ∷ ms) id h = found_on m (f m) ms (map f ms) id (same m) (found_map f same ms id) h

-- ---- one node more, one less, and one changed

pub with_rooted : (ns : List Node) (n : Node) → length n.name ≤ 255 → (n.id ≡ 1 → ⊥) → IsRooted ns → IsRooted (with_node ns n)
with_rooted ns n short other h = record { root = found_with ns n 1 h.root; each = all_with IsFit ns n h.each (record { short = short; root = λ e. absurd (other e) }) }

pub without_rooted : (ns : List Node) (id : ℕ) → (id ≡ 1 → ⊥) → IsRooted ns → IsRooted (without ns id)
without_rooted ns id other h = record { root = subst IsSome (sym (with_id_without ns id 1)) (by (id == 1) refl); each = all_filter IsFit (λ n. not (n.id == id)) ns h.each }
  where
    by : (b : Bool) → (id == 1) ≡ b → IsSome (if b then None else with_id ns 1)
    by true e = absurd (other (let same : id ≡ 1 = grind (arith, nat_tests, e) in same))
    by false e = h.root

-- each is changed, and keeps its id and its name
map_rooted : (f : Node → Node) → ((m : Node) → (f m).id ≡ m.id) → ((m : Node) → (f m).name ≡ m.name) → (ns : List Node) → IsRooted ns → IsRooted (map f ns)
map_rooted f same name ns h = record { root = found_map f same ns 1 h.root; each = all ns h.each }
  where
    fit : (m : Node) → IsFit m → IsFit (f m)
    fit m x = record { short = subst (λ (l : List ℕ). length l ≤ 255) (sym (name m)) x.short; root = λ e. name m ∙ x.root (sym (same m) ∙ e) }

    all : (ms : List Node) → AllByRecursion IsFit ms → AllByRecursion IsFit (map f ms)
    all [] x = tt
    all (m ∷ ms) x = (fit m x.0, all ms x.1)

pub changed_rooted : (ns : List Node) (id : ℕ) (f : Node → Node) → ((m : Node) → (f m).id ≡ m.id) → ((m : Node) → (f m).name ≡ m.name) → IsRooted ns → IsRooted (changed ns id f)
changed_rooted ns id f same name h = map_rooted (λ m. if m.id == id then f m else m) (λ m. same_if m (m.id == id)) (λ m. name_if m (m.id == id)) ns h
  where
    same_if : (m : Node) (b : Bool) → (if b then f m else m).id ≡ m.id
    same_if m true = same m
    same_if m false = refl

    name_if : (m : Node) (b : Bool) → (if b then f m else m).name ≡ m.name
    name_if m true = name m
    name_if m false = refl

-- a content is replaced
pub replaced_rooted : (t : Tree) (id version : ℕ) (content : List ℕ) → IsRooted t.nodes → IsRooted (replaced t id version content).nodes
replaced_rooted t id version content h = changed_rooted t.nodes id (refill version content) (λ m. refl) (λ m. refl) h

-- a directory's names have changed
pub versioned_rooted : (ns : List Node) (dir version : ℕ) → IsRooted ns → IsRooted (versioned ns dir version)
versioned_rooted ns dir version h = changed_rooted ns dir (λ n. record n { version = version }) (λ n. refl) (λ n. refl) h

-- the next id isn't the root's
pub next_above : (t : Tree) → IsGiven t → IsRooted t.nodes → 1 < t.next
next_above t given h = by (with_id t.nodes 1) refl h.root
  where
    by : (o : Option Node) → with_id t.nodes 1 ≡ o → IsSome o → 1 < t.next
    by None at e = absurd cc
    by (Some n) at e = below_next t 1 n given at

-- a name stands for no root
pub named_apart : (ns : List Node) (dir : ℕ) (name : List ℕ) (n : Node) → AllByRecursion IsFit ns → (length name == 0) ≡ false → named ns dir name ≡ Some n → n.id ≡ 1 → ⊥
named_apart [] dir name n all some at = absurd cc
named_apart (m ∷ ms) dir name n all some at = by ((m.parent == dir) && bytes_eq m.name name) refl (named_apart ms dir name n all.1 some) at
  where
    empty : (l : List ℕ) → (length l == 0) ≡ false → bytes_eq [] l ≡ true → ⊥
    empty [] some e = absurd cc
    empty (c ∷ cs) some e = absurd cc

    both : (a b : Bool) → (a && b) ≡ true → b ≡ true
    both true b e = e
    both false b e = absurd cc

    by : (b : Bool) → ((m.parent == dir) && bytes_eq m.name name) ≡ b → (named ms dir name ≡ Some n → n.id ≡ 1 → ⊥) → (if b then Some m else named ms dir name) ≡ Some n → n.id ≡ 1 → ⊥
    by true is later e root = empty name some (subst (λ (l : List ℕ). bytes_eq l name ≡ true) (all.0.root (ap (λ (z : Node). z.id) (some_is m n e) ∙ root)) (both (m.parent == dir) (bytes_eq m.name name) is))
    by false is later e root = later e root

-- a node goes that a name stands for
pub gone_rooted : (t : Tree) (dir : ℕ) (name : List ℕ) (n : Node) → (length name == 0) ≡ false → named t.nodes dir name ≡ Some n → IsRooted t.nodes → IsRooted (removed t dir n.id).nodes
gone_rooted t dir name n some at h = versioned_rooted (without t.nodes n.id) dir (t.changes + 1) (without_rooted t.nodes n.id (named_apart t.nodes dir name n h.each some at) h)

-- one goes under another name, and what has that name goes, if anything has
moved_rooted : (t : Tree) (dir : ℕ) (n : Node) (o : Option Node) (to : ℕ) (to_name : List ℕ) → length to_name ≤ 255 → (n.id ≡ 1 → ⊥) → ((m : Node) → o ≡ Some m → m.id ≡ 1 → ⊥) → IsRooted t.nodes → IsRooted (moved t dir n o to to_name).nodes
moved_rooted t dir n o to to_name short other free h = by o free
  where
    at : (ns : List Node) (changes : ℕ) → IsRooted ns → IsRooted (moved_at t dir n ns to to_name changes).nodes
    at ns changes r =
        let left : IsRooted (without ns n.id) = without_rooted ns n.id other r in
        let there : IsRooted (placed ns n to to_name) = with_rooted (without ns n.id) (record n { parent = to; name = to_name }) short other left in
        versioned_rooted (versioned (placed ns n to to_name) dir changes) to changes (versioned_rooted (placed ns n to to_name) dir changes there)

    by : (o : Option Node) → ((m : Node) → o ≡ Some m → m.id ≡ 1 → ⊥) → IsRooted (moved t dir n o to to_name).nodes
    by None free = at t.nodes (t.changes + 1) h
    by (Some m) free = at (without t.nodes m.id) (t.changes + 2) (without_rooted t.nodes m.id (free m refl) h)

pub rename_rooted : (t : Tree) (held : Reservation) (dir : ℕ) (name : List ℕ) (to : ℕ) (to_name : List ℕ) → (length name == 0) ≡ false → (length to_name == 0) ≡ false → length to_name ≤ 255 → IsRooted t.nodes → IsRooted (rename t held dir name to to_name).0.nodes
rename_rooted t held dir name to to_name some to_some short h = by (rename_plan t held dir name to to_name)
  where
    free : (m : Node) → named t.nodes to to_name ≡ Some m → m.id ≡ 1 → ⊥
    free m at = named_apart t.nodes to to_name m h.each to_some at

    nobody : (m : Node) → ◌≡◌ {A = Option Node} None (Some m) → m.id ≡ 1 → ⊥
    nobody m e = absurd cc

    shifts : (n : Option Node) (o : Option Node) → named t.nodes dir name ≡ n → ((m : Node) → o ≡ Some m → m.id ≡ 1 → ⊥) → IsRooted (shifted t dir n o to to_name).nodes
    shifts None o at other = h
    shifts (Some n) o at other = moved_rooted t dir n o to to_name short (named_apart t.nodes dir name n h.each some at) other h

    by : (r : Result Planned Status) → IsRooted (rename_if t dir name to to_name r).0.nodes
    by (Err s) = h
    by (Ok (planned.Nothing c)) = h
    by (Ok (planned.Free c)) = shifts (named t.nodes dir name) None refl nobody
    by (Ok (planned.Over c)) = shifts (named t.nodes dir name) (named t.nodes to to_name) refl free

-- ---- what a tree opens with

pub spelt_short : (name : List ℕ) → is_ok (spelt name) ≡ true → length name ≤ 255
spelt_short name e = by (nat_lt 255 (length name)) refl e
  where
    by : (b : Bool) → nat_lt 255 (length name) ≡ b → is_ok {T = Unit {0}} (if b then Err status.NameTooLong else (if is_misspelt name then Err status.Acces else Ok tt)) ≡ true → length name ≤ 255
    by true is e = absurd cc
    by false is e = grind (arith, nat_tests, is)

-- where all of a chain is done, so is its first
pub first_ok : {A B : Type 0} (r : Result A Status) (f : A → Result B Status) → is_ok (r >>= f) ≡ true → is_ok r ≡ true
first_ok (Ok x) f e = refl
first_ok (Err s) f e = absurd cc

next_ok : {A B : Type 0} (r : Result A Status) (f : A → Result B Status) → is_ok (r >>= f) ≡ true → (x : A) × (is_ok (f x) ≡ true)
next_ok (Ok x) f e = (x, e)
next_ok (Err s) f e = absurd cc

opens_short : (nodes : List Node) (dir : ℕ) (name : List ℕ) → is_ok (may_open nodes dir name) ≡ true → length name ≤ 255
opens_short nodes dir name e =
    let found = next_ok (directory_of nodes dir) (λ d. spelt name >>= λ a. undotted status.Exist status.Exist name >>= λ b. or_taken (named nodes dir name)) e in
    spelt_short name (first_ok (spelt name) (λ a. undotted status.Exist status.Exist name >>= λ b. or_taken (named nodes dir name)) found.1)

counted_rooted : (t : Tree) → IsRooted t.nodes → IsRooted (with_change t).nodes
counted_rooted t h = by (t.changes == 0)
  where
    id : (m : Node) (b : Bool) → (if b then record m { version = 1 } else m).id ≡ m.id
    id m true = refl
    id m false = refl

    name : (m : Node) (b : Bool) → (if b then record m { version = 1 } else m).name ≡ m.name
    name m true = refl
    name m false = refl

    by : (b : Bool) → IsRooted (if b then record { nodes = map (counted_at 1) t.nodes; next = t.next; changes = 1 } else t).nodes
    by true = map_rooted (counted_at 1) (λ m. id m (is_directory m.body)) (λ m. name m (is_directory m.body)) t.nodes h
    by false = h

counted_next : (t : Tree) → (with_change t).next ≡ t.next
counted_next t = by (t.changes == 0)
  where
    by : (b : Bool) → (if b then record { nodes = map (counted_at 1) t.nodes; next = t.next; changes = 1 } else t).next ≡ t.next
    by true = refl
    by false = refl

pub opens_rooted : (t : Tree) (dir : ℕ) (name : List ℕ) (body : Body) → can_open t dir name ≡ true → 1 < t.next → IsRooted t.nodes → IsRooted (opens t dir name body).nodes
opens_rooted t dir name body can above h = subst (λ (b : Bool). IsRooted (if b then opened t dir name body else t).nodes) (sym can) (by body)
  where
    by : (b : Body) → IsRooted (opened t dir name b).nodes
    by Directory = with_rooted t.nodes (record { id = t.next; parent = dir; name = name; version = t.changes; body = Directory }) (opens_short t.nodes dir name can) (λ e. omega (arith, above, e)) h
    by (Plain content) = with_rooted (with_change t).nodes (record { id = (with_change t).next; parent = dir; name = name; version = 1; body = Plain content }) (opens_short t.nodes dir name can) (λ e. let next = counted_next t in omega (arith, above, next, e)) (counted_rooted t h)

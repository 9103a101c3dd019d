-- What a tree holds once it has made a file, or made or removed a directory: its files, its limits, and that no node has the id 0.
use Rattle.std.proofs.Common.{◌≡◌, ℕ, zero, suc, ◌+◌, ◌<◌, ◌≤◌, List, [], Option, Some, None, Result, Ok, Err, Bool, true, false, ◌==◌, refl, sym, ap, ◌∙◌, arith, if◌then◌else◌}
use Rattle.std.specs.Option.{option_map}
use Rattle.std.proofs.lemmas.Bool.Decides.{nat_tests}
use Rattle.xdr_codec.specs.declared.status.Status.{Status}
use Rattle.tree_nodes.specs.declared.node.Node.{Node}
use Rattle.tree_nodes.specs.Nodes.{with_id, with_node, without, versioned}
use Rattle.tree_nodes.proofs.lemmas.Lists.{with_id_with, with_id_without, with_id_changed}
use Rattle.tree_reading.specs.Tree.{Tree, is_directory}
use Rattle.file_tree.specs.Step.{made, removed, new_file, new_directory}
use Rattle.tree_reading.specs.declared.call.Changed.{Changed}
use Rattle.tree_reading.specs.declared.call.CreateMode.TheVariants as mode
use Rattle.tree_reading.specs.declared.call.Reservation.{Reservation}
use Rattle.file_tree.proofs.lemmas.States.{named_id}
use Rattle.path_calls.specs.declared.walk.Goal.{Goal}
use Rattle.path_calls.specs.declared.walk.Goal.TheVariants as goal
use Rattle.chunk_calls.specs.Files as the_files
use Rattle.server_law.proofs.lemmas.Trees.{IsGiven, IsBounded, given, below_next, next_free, made_files, removed_files, no_file, file_below}
use Rattle.server_law.proofs.lemmas.TreeCalls.{no_file_in}
use Rattle.kept_promise.proofs.Common.{File}
use Rattle.kept_promise.proofs.Lists.{nothing_there}
use Rattle.kept_promise.proofs.TreeBounds.{Stays, stays_same, create_stays, mkdir_stays, rmdir_stays, remove_stays, rename_stays}
use Rattle.kept_promise.proofs.Makings.{step_by, AfterAt, EntryAt, MadeSo, refuses, enters, made_walk}
use Rattle.kept_promise.proofs.PathNames.{is_building}
use Rattle.path_calls.specs.declared.walk.Walk.{Walk}
use Rattle.tree_reading.specs.declared.entry.Entry.{Entry as TreeEntry}
use Rattle.tree_reading.specs.declared.entry.EntryKind.TheVariants as kind
use Rattle.trace_replay.specs.Naming.{entry_file}
use Rattle.trace_ends.specs.Core.{is_of_file}
use Rattle.server_law.proofs.lemmas.TreeCalls.{ok_is}

-- ---- the limits

pub step_stays : (t : Tree) (held : Reservation) (dir : ℕ) (g : Goal) → Stays held t (step_by t held dir g).0
step_stays t held dir (goal.Make name) = create_stays t held dir name mode.Guarded
step_stays t held dir (goal.MakeDir name) = mkdir_stays t held dir name
step_stays t held dir (goal.RemoveDir name) = rmdir_stays t held dir name
step_stays t held dir (goal.Remove name) = remove_stays t held dir name
step_stays t held dir (goal.RenameTo from name to_name) = rename_stays t held from name dir to_name
step_stays t held dir g = stays_same held t

-- ---- no node has the id 0

pub none_versioned : (ns : List Node) (dir version f : ℕ) → with_id ns f ≡ None → with_id (versioned ns dir version) f ≡ None
none_versioned ns dir version f none = with_id_changed (λ (n : Node). record n { version = version }) (λ m. refl) ns dir f ∙ by (dir == f)
  where
    by : (b : Bool) → (if b then option_map (λ (n : Node). record n { version = version }) (with_id ns f) else with_id ns f) ≡ None
    by true = ap (option_map (λ (n : Node). record n { version = version })) none
    by false = none

none_made : (t : Tree) (n : Node) (f : ℕ) → IsGiven t → n.id ≡ t.next → f < t.next → with_id t.nodes f ≡ None → with_id (made t n).nodes f ≡ None
none_made t n f h new lt none =
    none_versioned (with_node t.nodes n) n.parent (t.changes + 1) f
    (with_id_with t.nodes n f (ap (with_id t.nodes) new ∙ next_free t h) ∙ ap (λ (b : Bool). if b then Some n else with_id t.nodes f) other ∙ none)
  where
    other : (n.id == f) ≡ false
    other = grind (arith, nat_tests, lt, new)

none_removed : (t : Tree) (dir id f : ℕ) → with_id t.nodes f ≡ None → with_id (removed t dir id).nodes f ≡ None
none_removed t dir id f none = none_versioned (without t.nodes id) dir (t.changes + 1) f (with_id_without t.nodes id f ∙ by (id == f))
  where
    by : (b : Bool) → (if b then None else with_id t.nodes f) ≡ None
    by true = refl
    by false = none

pub none_after : (t : Tree) (dir : ℕ) (g : Goal) (after : Tree) (f : ℕ) → IsGiven t → AfterAt t dir g after → f < t.next → with_id t.nodes f ≡ None → with_id after.nodes f ≡ None
none_after t dir (goal.Make name) after f h a lt none = ap (λ (z : Tree). with_id z.nodes f) a.0 ∙ none_made t (new_file t dir name) f h refl lt none
none_after t dir (goal.MakeDir name) after f h a lt none = ap (λ (z : Tree). with_id z.nodes f) a.0 ∙ none_made t (new_directory t dir name) f h refl lt none
none_after t dir (goal.RemoveDir name) after f h a lt none = ap (λ (z : Tree). with_id z.nodes f) a.1 ∙ none_removed t dir a.0.id f none
none_after t dir g after f h a lt none = absurd a

-- some id was given: the directory's own
pub positive : (t : Tree) (dir : ℕ) (g : Goal) (after : Tree) → AfterAt t dir g after → IsBounded t → 0 < t.next
positive t dir (goal.Make name) after a h = let lt = below_next t dir a.1.0 (given t h) a.1.1 in omega (arith, lt)
positive t dir (goal.MakeDir name) after a h = let lt = below_next t dir a.1.0 (given t h) a.1.1 in omega (arith, lt)
positive t dir (goal.RemoveDir name) after a h = let lt = below_next t dir a.2.0 (given t h) a.2.1 in omega (arith, lt)
positive t dir g after a h = absurd a

-- the ids that were given
pub next_after : (t : Tree) (dir : ℕ) (g : Goal) (after : Tree) → AfterAt t dir g after → t.next ≤ after.next
next_after t dir (goal.Make name) after a = let is = ap (λ (z : Tree). z.next) a.0 in omega (arith, is)
next_after t dir (goal.MakeDir name) after a = let is = ap (λ (z : Tree). z.next) a.0 in omega (arith, is)
next_after t dir (goal.RemoveDir name) after a = let is = ap (λ (z : Tree). z.next) a.1 in omega (arith, is)
next_after t dir g after a = absurd a

-- ---- files

-- a file is there that has no bytes, and all others are as they were
pub file_made : (t : Tree) (dir : ℕ) (name : List ℕ) (after : Tree) → IsGiven t → AfterAt t dir (goal.Make name) after → (f : ℕ) → the_files.file_at after f ≡ (if t.next == f then Some (record { id = t.next; version = 1; content = [] }) else the_files.file_at t f)
file_made t dir name after h a f = ap (λ (z : Tree). the_files.file_at z f) a.0 ∙ made_files t (new_file t dir name) a.1.0 f h refl a.1.1 a.1.2

-- a directory is none
none_made_directory : (t : Tree) (dir : ℕ) (name : List ℕ) (f : ℕ) → IsGiven t → (b : Bool) → (t.next == f) ≡ b → (if b then None else the_files.file_at t f) ≡ the_files.file_at t f
none_made_directory t dir name f h false is = refl
none_made_directory t dir name f h true is = by (the_files.file_at t f) refl
  where
    by : (o : Option File) → the_files.file_at t f ≡ o → None ≡ o
    by None e = refl
    by (Some g) e = (let lt = file_below t f g h e in absurd (grind (arith, nat_tests, lt, is)))

none_removed_directory : (t : Tree) (n : Node) (f : ℕ) → with_id t.nodes n.id ≡ Some n → is_directory n.body ≡ true → (b : Bool) → (n.id == f) ≡ b → (if b then None else the_files.file_at t f) ≡ the_files.file_at t f
none_removed_directory t n f there is false e = refl
none_removed_directory t n f there is true e = sym (ap (the_files.file_at t) (sym same) ∙ no_file t.nodes n.id n there is)
  where
    same : n.id ≡ f
    same = grind (arith, nat_tests, e)

-- no file is another where names alone change
abbrev pub IsNameGoal : Goal → Type 0
IsNameGoal (goal.MakeDir name) = Unit {0}
IsNameGoal (goal.RemoveDir name) = Unit {0}
IsNameGoal g = ⊥

pub files_same : (t : Tree) (dir : ℕ) (g : Goal) (after : Tree) → IsGiven t → AfterAt t dir g after → IsNameGoal g → (f : ℕ) → the_files.file_at after f ≡ the_files.file_at t f
files_same t dir (goal.MakeDir name) after h a names f = ap (λ (z : Tree). the_files.file_at z f) a.0 ∙ made_files t (new_directory t dir name) a.1.0 f h refl a.1.1 a.1.2 ∙ none_made_directory t dir name f h (t.next == f) refl
files_same t dir (goal.RemoveDir name) after h a names f = ap (λ (z : Tree). the_files.file_at z f) a.1 ∙ removed_files t dir a.0.id f (no_file_in t dir a.2) ∙ none_removed_directory t a.0 f (named_id t.nodes dir name a.0 h.apart a.3) a.4 (a.0.id == f) refl
files_same t dir g after h a names f = absurd names

-- one id more was given
pub next_made : (t : Tree) (dir : ℕ) (name : List ℕ) (after : Tree) → AfterAt t dir (goal.Make name) after → after.next ≡ t.next + 1
next_made t dir name after a = ap (λ (z : Tree). z.next) a.0

-- a new file's id is not the root's, nor 0
pub next_big : (t : Tree) (dir : ℕ) (name : List ℕ) (after : Tree) → AfterAt t dir (goal.Make name) after → IsBounded t → with_id t.nodes 0 ≡ None → 1 < t.next
next_big t dir name after a h none =
    let lt = below_next t dir a.1.0 (given t h) a.1.1 in
    by dir lt (some dir a.1.1)
  where
    some : (d : ℕ) → with_id t.nodes d ≡ Some a.1.0 → d ≡ 0 → ⊥
    some d there is = nothing_there a.1.0 (sym none ∙ ap (with_id t.nodes) (sym is) ∙ there)

    by : (d : ℕ) → d < t.next → (d ≡ 0 → ⊥) → 1 < t.next
    by zero lt apart = absurd (apart refl)
    by (suc d) lt apart = omega (arith, lt)

-- and has a spelling
pub next_small : (t : Tree) → IsBounded t → t.next < 18446744073709551616
next_small t h = let x = h.next in let c = h.count in omega (arith, x, c)

-- nothing was there of that id
pub next_none : (t : Tree) → IsGiven t → the_files.file_at t t.next ≡ None
next_none t h = ap the_files.file_of_node (next_free t h)

-- ---- what is told of a change that is no file's

pub names_file : (t : Tree) (held : Reservation) (w : Walk) (done : Changed) → is_building w ≡ true → IsNameGoal w.goal → (step_by t held w.dir w.goal).1 ≡ Ok done → entry_file done.first ≡ None
names_file t held w done making names is = by (made_walk t held w making)
  where
    name_kind : (t : Tree) (g : Goal) (e : TreeEntry) → IsNameGoal g → EntryAt t g e → e.kind ≡ kind.Name
    name_kind t (goal.MakeDir name) e names is = is
    name_kind t (goal.RemoveDir name) e names is = is
    name_kind t g e names is = absurd names

    by : MadeSo t held w → entry_file done.first ≡ None
    by (refuses s r m err refused leads procs) = (let z : ◌≡◌ {A = Result Changed Status} (Err s) (Ok done) = sym err ∙ is in absurd cc)
    by (enters other e r after m step first second entry a leads procs) =
        let same : other ≡ done = ok_is other done (sym (ap (λ (p : Tree × Result Changed Status). p.1) step) ∙ is) in
        ap (λ (c : Changed). entry_file c.first) (sym same) ∙ ap entry_file first ∙ ap (λ (b : Bool). if b then Some e.file else None) (ap is_of_file (name_kind t w.goal e names entry))

-- A store that is given what each call says keeps the tree that the call leaves.
use Rattle.std.proofs.Common.{◌≡◌, ℕ, ◌+◌, ◌<◌, List, [], ◌∷◌, Option, Some, None, Result, Ok, Err, Bool, true, false, not, ◌==◌, ◌&&◌, inl, refl, sym, ap, ◌∙◌, subst, arith, cond, if◌then◌else◌}
use Rattle.std.specs.List.{find, AllByRecursion}
use Rattle.std.specs.Option.{option_map}
use Rattle.std.specs.Str.{bytes_eq}
use Rattle.std.proofs.lemmas.Bool.Decides.{nat_tests}
use Rattle.xdr_codec.specs.declared.status.Status.{Status}
use Rattle.xdr_codec.specs.declared.status.Status.TheVariants as status
use Rattle.store.specs.declared.record.Kept.{Kept}
use Rattle.tree_nodes.proofs.lemmas.Lists.{all_with, with_id_with, with_id_without, with_id_changed}
use Rattle.tree_nodes.proofs.lemmas.Order.{named_is, not_true}
use Rattle.tree_nodes.specs.Nodes.{named, with_id, with_node, without, changed, versioned}
use Rattle.tree_nodes.specs.declared.node.Node.{Node}
use Rattle.tree_nodes.specs.declared.node.Body.TheVariants.{File}
use Rattle.tree_reading.proofs.lemmas.Admitted.{bind_ok, stale_ok, IsPlannedGone, remove_there, rmdir_there, rename_there}
use Rattle.tree_reading.proofs.lemmas.Found.{some_is, found_all}
use Rattle.file_tree.proofs.Keeping.{self_test, kept_made, kept_removed, kept_moved, kept_moved_over, kept_replaced}
use Rattle.file_tree.proofs.lemmas.Limits.{all_map, all_filter, all_changed, apart_with, apart_without, apart_changed}
use Rattle.file_tree.proofs.lemmas.States.{named_id, id_is, some_node}
use Rattle.tree_reading.specs.Chain.{◌>>=◌}
use Rattle.file_tree.specs.Kept.{IsKept}
use Rattle.tree_reading.specs.Names.{spelt, undotted}
use Rattle.tree_reading.specs.Plans.{nothing, create_mode, may_create, create_plan, may_mkdir, may_remove, remove_plan, remove_done, or_not_empty, may_rmdir, rmdir_plan, spared, spared_bytes, within_file, planned_found, rename_plan, may_replace_content, replace_plan}
use Rattle.file_tree.specs.Step.{made, new_file, new_directory, removed, placed, replaced, created, create, mkdir_if, mkdir, remove_if, remove, rmdir, shifted, rename_if, rename, replace_if}
use Rattle.file_tree.specs.Storing.{with_given, gives_made, create_gives, mkdir_gives, remove_gives, shift_gives, rename_gives, replace_gives, AreWhole, IsStored}
use Rattle.tree_reading.specs.Tree.{Tree, root, empty, is_directory, contents_size, node_of, directory_or, file_or, directory_of, or_no_entry, or_taken}
use Rattle.tree_reading.specs.declared.call.Changed.{Changed}
use Rattle.tree_reading.specs.declared.call.CreateMode.{CreateMode}
use Rattle.tree_reading.specs.declared.call.Reservation.{Reservation}
use Rattle.tree_reading.specs.declared.call.Planned.{Planned}
use Rattle.tree_reading.specs.declared.call.Planned.TheVariants.{Nothing, Free, Over}

-- ---- what the checks tell

directory_is : (s : Status) (n m : Node) → directory_or s n ≡ Ok m → is_directory n.body ≡ true
directory_is s n m e = is_if (is_directory n.body) e
  where
    is_if : (b : Bool) → (if b then Ok n else Err s) ≡ Ok m → b ≡ true
    is_if true same = refl
    is_if false same = absurd cc

file_is : (s : Status) (n m : Node) → file_or s n ≡ Ok m → is_directory n.body ≡ false
file_is s n m e = is_if (is_directory n.body) e
  where
    is_if : (b : Bool) → (if b then Err s else Ok n) ≡ Ok m → b ≡ false
    is_if true same = absurd cc
    is_if false same = refl

-- the directory of an id
abbrev IsDirectoryAt : List Node → ℕ → Node → Type 0
IsDirectoryAt nodes dir d = (with_id nodes dir ≡ Some d) × (is_directory d.body ≡ true)

directory_at : (nodes : List Node) (dir : ℕ) (d : Node) → directory_of nodes dir ≡ Ok d → (n : Node) × IsDirectoryAt nodes dir n
directory_at nodes dir d e =
    let a = bind_ok (node_of nodes dir) (directory_or status.NotDir) d e in
    (a.0, (stale_ok (with_id nodes dir) a.0 a.1, directory_is status.NotDir a.0 d a.2))

name_some : (name : List ℕ) (u : Unit) → spelt name ≡ Ok u → name ≡ [] → ⊥
name_some name u e none = never u (subst (λ (t : List ℕ). spelt t ≡ Ok u) none e)
  where
    never : (u : Unit) → spelt [] ≡ Ok u → ⊥
    never u same = absurd cc

-- ---- a tree that is whole

none_with : (ns : List Node) (id : ℕ) → AllByRecursion (λ n. n.id < id) ns → with_id ns id ≡ None
none_with [] id all = refl
none_with (n ∷ ns) id all = let other : (n.id == id) ≡ false = grind (arith, nat_tests, all.0) in rw other (none_with ns id all.1)

found_test : (q : Node → Bool) (ns : List Node) (n : Node) → find q ns ≡ Some n → q n ≡ true
found_test q [] n e = absurd cc
found_test q (m ∷ ms) n e = test_if (q m) refl e (λ later. found_test q ms n later)
  where
    test_if : (b : Bool) → q m ≡ b → (if b then Some m else find q ms) ≡ Some n → (find q ms ≡ Some n → q n ≡ true) → q n ≡ true
    test_if true is same later = subst (λ (k : Node). q k ≡ true) (some_is m m n same) is
    test_if false is same later = later same

module _ (nodes : List Node) (next : ℕ) (whole : AreWhole nodes next) where
  fresh_next : with_id nodes next ≡ None
  fresh_next = none_with nodes next whole.below

  root_id : whole.rooted.0.id ≡ 1
  root_id = id_is nodes 1 whole.rooted.0 whole.rooted.1

  next_other : (next == 1) ≡ false
  next_other =
      let less : whole.rooted.0.id < next = found_all (λ n. n.id < next) (λ n. n.id == 1) nodes whole.rooted.0 whole.below whole.rooted.1 in
      grind (arith, nat_tests, less, root_id)

  -- a name that has a byte isn't the root's
  named_other : (dir : ℕ) (name : List ℕ) (n : Node) → named nodes dir name ≡ Some n → (name ≡ [] → ⊥) → (n.id == 1) ≡ false
  named_other dir name n at some = not_true (n.id == 1) (λ is.
      let one : n.id ≡ 1 = grind (arith, nat_tests, is) in
      let there : with_id nodes 1 ≡ Some n = subst (λ i. with_id nodes i ≡ Some n) one (named_id nodes dir name n whole.apart at) in
      let same : whole.rooted.0 ≡ n = some_is n whole.rooted.0 n (sym whole.rooted.1 ∙ there) in
      let called = named_is n dir name (found_test (λ m. (m.parent == dir) && bytes_eq m.name name) nodes n at) in
      some (sym called.1 ∙ ap (λ (k : Node). k.name) (sym same) ∙ whole.rooted.2))

others_without : (ms : List Node) (gone : ℕ) → AllByRecursion (λ m. (m.id == gone) ≡ false) (without ms gone)
others_without [] gone = tt
others_without (m ∷ ms) gone = without_if (m.id == gone) refl (others_without ms gone)
  where
    without_if : (b : Bool) → (m.id == gone) ≡ b → AllByRecursion (λ k. (k.id == gone) ≡ false) (without ms gone) → AllByRecursion (λ k. (k.id == gone) ≡ false) (cond (not b) (m ∷ without ms gone) (without ms gone))
    without_if true is later = later
    without_if false is later = (is, later)

-- ---- what stays whole

whole_with : (ns : List Node) (next : ℕ) (n : Node) → AreWhole ns next → n.id ≡ next → AreWhole (with_node ns n) (next + 1)
whole_with ns next n whole is = record {
  apart = apart_with ns n whole.apart (all_map (λ m. m.id < next) (λ m. (m.id == n.id) ≡ false) (λ m less. grind (arith, nat_tests, less, is)) ns whole.below);
  below = all_with (λ m. m.id < next + 1) ns n (all_map (λ m. m.id < next) (λ m. m.id < next + 1) (λ m less. omega (arith, less)) ns whole.below) (omega (arith, is));
  rooted = (whole.rooted.0, with_id_with ns n 1 (subst (λ i. with_id ns i ≡ None) (sym is) (fresh_next ns next whole)) ∙ ap (λ b. if b then Some n else with_id ns 1) (ap (λ i. i == 1) is ∙ next_other ns next whole) ∙ whole.rooted.1, whole.rooted.2);
}

-- f: keeps each node's id and name
whole_changed : (f : Node → Node) → ((n : Node) → (f n).id ≡ n.id) → ((n : Node) → (f n).name ≡ n.name) → (ns : List Node) (next id : ℕ) → AreWhole ns next → AreWhole (changed ns id f) next
whole_changed f same called ns next id whole = record {
  apart = apart_changed f same ns id whole.apart;
  below = all_changed (λ n. n.id < next) f (λ n less. subst (λ i. i < next) (sym (same n)) less) ns id whole.below;
  rooted = root_if (id == 1) (with_id_changed f same ns id 1);
}
  where
    root_if : (b : Bool) → with_id (changed ns id f) 1 ≡ (if b then option_map f (with_id ns 1) else with_id ns 1) → (r : Node) × (with_id (changed ns id f) 1 ≡ Some r) × (r.name ≡ [])
    root_if true e = (f whole.rooted.0, e ∙ ap (option_map f) whole.rooted.1, called whole.rooted.0 ∙ whole.rooted.2)
    root_if false e = (whole.rooted.0, e ∙ whole.rooted.1, whole.rooted.2)

whole_versioned : (ns : List Node) (next id version : ℕ) → AreWhole ns next → AreWhole (versioned ns id version) next
whole_versioned ns next id version whole = whole_changed (λ n. record n { version = version }) (λ n. refl) (λ n. refl) ns next id whole

whole_without : (ns : List Node) (next gone : ℕ) → (gone == 1) ≡ false → AreWhole ns next → AreWhole (without ns gone) next
whole_without ns next gone other whole = record {
  apart = apart_without ns gone whole.apart;
  below = all_filter (λ n. n.id < next) (λ n. not (n.id == gone)) ns whole.below;
  rooted = (whole.rooted.0, with_id_without ns gone 1 ∙ ap (λ b. if b then None else with_id ns 1) other ∙ whole.rooted.1, whole.rooted.2);
}

whole_placed : (ns : List Node) (next : ℕ) (n : Node) (to : ℕ) (to_name : List ℕ) → (n.id == 1) ≡ false → with_id ns n.id ≡ Some n → AreWhole ns next → AreWhole (placed ns n to to_name) next
whole_placed ns next n to to_name other at whole =
    let less = whole_without ns next n.id other whole in
    let small : n.id < next = found_all (λ m. m.id < next) (λ m. m.id == n.id) ns n whole.below at in
    let gone : with_id (without ns n.id) n.id ≡ None = with_id_without ns n.id n.id ∙ ap (λ b. if b then None else with_id ns n.id) (self_test n.id) in
    let elsewhere = record n { parent = to; name = to_name } in
    record {
      apart = apart_with (without ns n.id) elsewhere less.apart (others_without ns n.id);
      below = all_with (λ m. m.id < next) (without ns n.id) elsewhere less.below small;
      rooted = (less.rooted.0, with_id_with (without ns n.id) elsewhere 1 gone ∙ ap (λ b. if b then Some elsewhere else with_id (without ns n.id) 1) other ∙ less.rooted.1, less.rooted.2);
    }

-- ---- CREATE and MKDIR

made_stored : (t : Tree) (n : Node) (records : List Kept) → IsStored records t → n.id ≡ t.next → (d : Node) × IsDirectoryAt t.nodes n.parent d → IsStored (with_given (Some (gives_made (made t n) n)) records) (made t n)
made_stored t n records stored is d = (
  whole_versioned (with_node t.nodes n) (t.next + 1) n.parent (t.changes + 1) (whole_with t.nodes t.next n stored.0 is),
  kept_made t n d.0 records stored.1 (subst (λ i. with_id t.nodes i ≡ None) (sym is) (fresh_next t.nodes t.next stored.0)) (ap (λ i. i == 1) is ∙ next_other t.nodes t.next stored.0) d.1.0 d.1.1,
)

create_in : (t : Tree) (held : Reservation) (dir : ℕ) (name : List ℕ) (m : CreateMode) → create_plan t held dir name m ≡ Ok None → (d : Node) × IsDirectoryAt t.nodes dir d
create_in t held dir name m e =
    let p = bind_ok (may_create t held dir name m) (λ found. Ok (option_map nothing found)) None e in
    let a = bind_ok (directory_of t.nodes dir) (λ _. spelt name >>= λ _. undotted status.Inval status.Inval name >>= λ _. create_mode t held dir name m) p.0 p.1 in
    directory_at t.nodes dir a.0 a.1

pub create_stored : (t : Tree) (held : Reservation) (dir : ℕ) (name : List ℕ) (m : CreateMode) (records : List Kept) → IsStored records t → IsStored (with_given (create_gives t dir name (create_plan t held dir name m)) records) (create t held dir name m).0
create_stored t held dir name m records stored = by_plan (create_plan t held dir name m) refl
  where
    by_plan : (r : Result (Option Changed) Status) → create_plan t held dir name m ≡ r → IsStored (with_given (create_gives t dir name r) records) (created t dir name r).0
    by_plan (Err s) e = stored
    by_plan (Ok (Some done)) e = stored
    by_plan (Ok None) e = made_stored t (new_file t dir name) records stored refl (create_in t held dir name m e)

mkdir_in : (t : Tree) (held : Reservation) (dir : ℕ) (name : List ℕ) (u : Unit) → may_mkdir t held dir name ≡ Ok u → (d : Node) × IsDirectoryAt t.nodes dir d
mkdir_in t held dir name u e =
    let a = bind_ok (directory_of t.nodes dir) (λ _. spelt name >>= λ _. undotted status.Exist status.Exist name >>= λ _. or_taken (named t.nodes dir name) >>= λ _. spared t.changes held 1) u e in
    directory_at t.nodes dir a.0 a.1

pub mkdir_stored : (t : Tree) (held : Reservation) (dir : ℕ) (name : List ℕ) (records : List Kept) → IsStored records t → IsStored (with_given (mkdir_gives t dir name (may_mkdir t held dir name)) records) (mkdir t held dir name).0
mkdir_stored t held dir name records stored = by_plan (may_mkdir t held dir name) refl
  where
    by_plan : (r : Result Unit Status) → may_mkdir t held dir name ≡ r → IsStored (with_given (mkdir_gives t dir name r) records) (mkdir_if t dir name r).0
    by_plan (Err s) e = stored
    by_plan (Ok u) e = made_stored t (new_directory t dir name) records stored refl (mkdir_in t held dir name u e)

-- ---- REMOVE and RMDIR

removed_stored : (t : Tree) (dir : ℕ) (name : List ℕ) (done : Changed) (records : List Kept) → IsStored records t → (name ≡ [] → ⊥) → (d : Node) × IsDirectoryAt t.nodes dir d → IsPlannedGone t dir name done → IsStored (with_given (remove_gives t dir (Ok done)) records) (removed t dir done.id)
removed_stored t dir name done records stored some d gone =
    let which : done.id ≡ gone.0.id = ap (λ (c : Changed). c.id) gone.2 in
    let other : (done.id == 1) ≡ false = ap (λ i. i == 1) which ∙ named_other t.nodes t.next stored.0 dir name gone.0 gone.1 some in (
      whole_versioned (without t.nodes done.id) t.next dir (t.changes + 1) (whole_without t.nodes t.next done.id other stored.0),
      kept_removed t dir done.id d.0 records stored.1 d.1.0 d.1.1,
    )

-- the directory and the name of what may be removed
record IsPlaced (t : Tree) (dir : ℕ) (name : List ℕ) : Type 0 where
  directory : (d : Node) × IsDirectoryAt t.nodes dir d
  some : name ≡ [] → ⊥

remove_in : (t : Tree) (held : Reservation) (dir : ℕ) (name : List ℕ) (done : Changed) → remove_plan t held dir name ≡ Ok done → IsPlaced t dir name
remove_in t held dir name done e =
    let p = bind_ok (may_remove t held dir name) (λ n. Ok (remove_done n)) done e in
    let a = bind_ok (directory_of t.nodes dir) (λ _. spelt name >>= λ _. undotted status.Inval status.Inval name >>= λ _. or_no_entry (named t.nodes dir name) >>= file_or status.IsDir >>= λ n. spared t.changes held 1 >>= λ _. Ok n) p.0 p.1 in
    let b = bind_ok (spelt name) (λ _. undotted status.Inval status.Inval name >>= λ _. or_no_entry (named t.nodes dir name) >>= file_or status.IsDir >>= λ n. spared t.changes held 1 >>= λ _. Ok n) p.0 a.2 in
    record { directory = directory_at t.nodes dir a.0 a.1; some = name_some name b.0 b.1 }

rmdir_in : (t : Tree) (held : Reservation) (dir : ℕ) (name : List ℕ) (done : Changed) → rmdir_plan t held dir name ≡ Ok done → IsPlaced t dir name
rmdir_in t held dir name done e =
    let p = bind_ok (may_rmdir t held dir name) (λ n. Ok (remove_done n)) done e in
    let a = bind_ok (directory_of t.nodes dir) (λ _. spelt name >>= λ _. undotted status.Inval status.Exist name >>= λ _. or_no_entry (named t.nodes dir name) >>= directory_or status.NotDir >>= λ n. or_not_empty t.nodes n >>= λ _. spared t.changes held 1 >>= λ _. Ok n) p.0 p.1 in
    let b = bind_ok (spelt name) (λ _. undotted status.Inval status.Exist name >>= λ _. or_no_entry (named t.nodes dir name) >>= directory_or status.NotDir >>= λ n. or_not_empty t.nodes n >>= λ _. spared t.changes held 1 >>= λ _. Ok n) p.0 a.2 in
    record { directory = directory_at t.nodes dir a.0 a.1; some = name_some name b.0 b.1 }

pub remove_stored : (t : Tree) (held : Reservation) (dir : ℕ) (name : List ℕ) (records : List Kept) → IsStored records t → IsStored (with_given (remove_gives t dir (remove_plan t held dir name)) records) (remove t held dir name).0
remove_stored t held dir name records stored = by_plan (remove_plan t held dir name) refl
  where
    by_plan : (r : Result Changed Status) → remove_plan t held dir name ≡ r → IsStored (with_given (remove_gives t dir r) records) (remove_if t dir r).0
    by_plan (Err s) e = stored
    by_plan (Ok done) e = let at = remove_in t held dir name done e in removed_stored t dir name done records stored at.some at.directory (remove_there t held dir name done e)

pub rmdir_stored : (t : Tree) (held : Reservation) (dir : ℕ) (name : List ℕ) (records : List Kept) → IsStored records t → IsStored (with_given (remove_gives t dir (rmdir_plan t held dir name)) records) (rmdir t held dir name).0
rmdir_stored t held dir name records stored = by_plan (rmdir_plan t held dir name) refl
  where
    by_plan : (r : Result Changed Status) → rmdir_plan t held dir name ≡ r → IsStored (with_given (remove_gives t dir r) records) (remove_if t dir r).0
    by_plan (Err s) e = stored
    by_plan (Ok done) e = let at = rmdir_in t held dir name done e in removed_stored t dir name done records stored at.some at.directory (rmdir_there t held dir name done e)

-- ---- RENAME

record IsMoved (t : Tree) (dir : ℕ) (name : List ℕ) (to : ℕ) (to_name : List ℕ) : Type 0 where
  from : (d : Node) × IsDirectoryAt t.nodes dir d
  into : (e : Node) × IsDirectoryAt t.nodes to e
  some : name ≡ [] → ⊥
  to_some : to_name ≡ [] → ⊥

rename_in : (t : Tree) (held : Reservation) (dir : ℕ) (name : List ℕ) (to : ℕ) (to_name : List ℕ) (p : Planned) → rename_plan t held dir name to to_name ≡ Ok p → IsMoved t dir name to to_name
rename_in t held dir name to to_name p e =
    let rest = λ (n : Node). planned_found t held n to (named t.nodes to to_name) in
    let a = bind_ok (node_of t.nodes dir) (λ d. node_of t.nodes to >>= λ e. directory_or status.NotDir d >>= λ _. directory_or status.NotDir e >>= λ _. spelt name >>= λ _. undotted status.Inval status.Inval name >>= λ _. spelt to_name >>= λ _. undotted status.Inval status.Inval to_name >>= λ _. or_no_entry (named t.nodes dir name) >>= rest) p e in
    let b = bind_ok (node_of t.nodes to) (λ e. directory_or status.NotDir a.0 >>= λ _. directory_or status.NotDir e >>= λ _. spelt name >>= λ _. undotted status.Inval status.Inval name >>= λ _. spelt to_name >>= λ _. undotted status.Inval status.Inval to_name >>= λ _. or_no_entry (named t.nodes dir name) >>= rest) p a.2 in
    let c = bind_ok (directory_or status.NotDir a.0) (λ _. directory_or status.NotDir b.0 >>= λ _. spelt name >>= λ _. undotted status.Inval status.Inval name >>= λ _. spelt to_name >>= λ _. undotted status.Inval status.Inval to_name >>= λ _. or_no_entry (named t.nodes dir name) >>= rest) p b.2 in
    let d = bind_ok (directory_or status.NotDir b.0) (λ _. spelt name >>= λ _. undotted status.Inval status.Inval name >>= λ _. spelt to_name >>= λ _. undotted status.Inval status.Inval to_name >>= λ _. or_no_entry (named t.nodes dir name) >>= rest) p c.2 in
    let f = bind_ok (spelt name) (λ _. undotted status.Inval status.Inval name >>= λ _. spelt to_name >>= λ _. undotted status.Inval status.Inval to_name >>= λ _. or_no_entry (named t.nodes dir name) >>= rest) p d.2 in
    let g = bind_ok (undotted status.Inval status.Inval name) (λ _. spelt to_name >>= λ _. undotted status.Inval status.Inval to_name >>= λ _. or_no_entry (named t.nodes dir name) >>= rest) p f.2 in
    let h = bind_ok (spelt to_name) (λ _. undotted status.Inval status.Inval to_name >>= λ _. or_no_entry (named t.nodes dir name) >>= rest) p g.2 in
    record {
      from = (a.0, (stale_ok (with_id t.nodes dir) a.0 a.1, directory_is status.NotDir a.0 c.0 c.1));
      into = (b.0, (stale_ok (with_id t.nodes to) b.0 b.1, directory_is status.NotDir b.0 d.0 d.1));
      some = name_some name f.0 f.1;
      to_some = name_some to_name h.0 h.1;
    }

free_stored : (t : Tree) (dir : ℕ) (name : List ℕ) (to : ℕ) (to_name : List ℕ) (n : Node) (done : Changed) (records : List Kept) → IsStored records t → IsMoved t dir name to to_name → named t.nodes dir name ≡ Some n → IsStored (with_given (rename_gives t dir name to to_name (Ok (Free done))) records) (shifted t dir (named t.nodes dir name) None to to_name)
free_stored t dir name to to_name n done records stored at is =
    let there = named_id t.nodes dir name n stored.0.apart is in
    let other = named_other t.nodes t.next stored.0 dir name n is at.some in
    let changes = t.changes + 1 in
    let whole = whole_versioned (versioned (placed t.nodes n to to_name) dir changes) t.next to changes (whole_versioned (placed t.nodes n to to_name) t.next dir changes (whole_placed t.nodes t.next n to to_name other there stored.0)) in
    let kept = kept_moved t dir to to_name n at.from.0 at.into.0 records stored.1 there other at.from.1.0 at.from.1.1 at.into.1.0 at.into.1.1 in
    subst (λ (o : Option Node). IsStored (with_given (shift_gives t dir o None to to_name) records) (shifted t dir o None to to_name)) (sym is) (whole, kept)

over_stored : (t : Tree) (dir : ℕ) (name : List ℕ) (to : ℕ) (to_name : List ℕ) (n m : Node) (done : Changed) (records : List Kept) → IsStored records t → IsMoved t dir name to to_name → named t.nodes dir name ≡ Some n → named t.nodes to to_name ≡ Some m → (m.id == n.id) ≡ false → IsStored (with_given (rename_gives t dir name to to_name (Ok (Over done))) records) (shifted t dir (named t.nodes dir name) (named t.nodes to to_name) to to_name)
over_stored t dir name to to_name n m done records stored at is over apart =
    let there = named_id t.nodes dir name n stored.0.apart is in
    let other = named_other t.nodes t.next stored.0 dir name n is at.some in
    let gone = named_other t.nodes t.next stored.0 to to_name m over at.to_some in
    let less = whole_without t.nodes t.next m.id gone stored.0 in
    let still : with_id (without t.nodes m.id) n.id ≡ Some n = with_id_without t.nodes m.id n.id ∙ ap (λ b. if b then None else with_id t.nodes n.id) apart ∙ there in
    let changes = t.changes + 2 in
    let whole = whole_versioned (versioned (placed (without t.nodes m.id) n to to_name) dir changes) t.next to changes (whole_versioned (placed (without t.nodes m.id) n to to_name) t.next dir changes (whole_placed (without t.nodes m.id) t.next n to to_name other still less)) in
    let kept = kept_moved_over t dir to to_name n m at.from.0 at.into.0 records stored.1 there apart other at.from.1.0 at.from.1.1 at.into.1.0 at.into.1.1 in
    subst (λ (o : Option Node). IsStored (with_given (shift_gives t dir o (named t.nodes to to_name) to to_name) records) (shifted t dir o (named t.nodes to to_name) to to_name)) (sym is)
    (subst (λ (o : Option Node). IsStored (with_given (shift_gives t dir (Some n) o to to_name) records) (shifted t dir (Some n) o to to_name)) (sym over) (whole, kept))

pub rename_stored : (t : Tree) (held : Reservation) (dir : ℕ) (name : List ℕ) (to : ℕ) (to_name : List ℕ) (records : List Kept) → IsStored records t → IsStored (with_given (rename_gives t dir name to to_name (rename_plan t held dir name to to_name)) records) (rename t held dir name to to_name).0
rename_stored t held dir name to to_name records stored = by_plan (rename_plan t held dir name to to_name) refl
  where
    turned : (a b : ℕ) → (a == b) ≡ false → (b == a) ≡ false
    turned a b is = grind (arith, nat_tests, is)

    by_plan : (r : Result Planned Status) → rename_plan t held dir name to to_name ≡ r → IsStored (with_given (rename_gives t dir name to to_name r) records) (rename_if t dir name to to_name r).0
    by_plan (Err s) e = stored
    by_plan (Ok (Nothing done)) e = stored
    by_plan (Ok (Free done)) e =
        let there = rename_there t held dir name to to_name (Free done) e in
        let n = some_node (named t.nodes dir name) there.0 in
        free_stored t dir name to to_name n.0 done records stored (rename_in t held dir name to to_name (Free done) e) n.1
    by_plan (Ok (Over done)) e =
        let there = rename_there t held dir name to to_name (Over done) e in
        let n = some_node (named t.nodes dir name) there.0 in
        let m = some_node (named t.nodes to to_name) there.1 in
        over_stored t dir name to to_name n.0 m.0 done records stored (rename_in t held dir name to to_name (Over done) e) n.1 m.1 (turned n.0.id m.0.id (there.2 n.0 m.0 n.1 m.1))

-- ---- a content replaced

replace_in : (t : Tree) (held : Reservation) (id len version : ℕ) → replace_plan t held id len ≡ Ok version → (n : Node) × (with_id t.nodes id ≡ Some n) × (is_directory n.body ≡ false)
replace_in t held id len version e =
    let p = bind_ok (may_replace_content t held id len) (λ n. Ok (n.version + 1)) version e in
    let f = bind_ok (node_of t.nodes id >>= file_or status.IsDir) (λ n. within_file len >>= λ _. spared t.changes held 1 >>= λ _. spared_bytes (contents_size t.nodes) held len >>= λ _. Ok n) p.0 p.1 in
    let g = bind_ok (node_of t.nodes id) (file_or status.IsDir) f.0 f.1 in
    (g.0, stale_ok (with_id t.nodes id) g.0 g.1, file_is status.IsDir g.0 f.0 g.2)

replaced_stored : (t : Tree) (id version : ℕ) (content : List ℕ) (records : List Kept) → IsStored records t → (n : Node) × (with_id t.nodes id ≡ Some n) × (is_directory n.body ≡ false) → IsStored (with_given (replace_gives t id content (Ok version)) records) (replaced t id version content)
replaced_stored t id version content records stored at =
    let n = at.0 in
    let same : n.id ≡ id = id_is t.nodes id n at.1 in
    let there : with_id t.nodes n.id ≡ Some n = subst (λ i. with_id t.nodes i ≡ Some n) (sym same) at.1 in (
      whole_changed (λ m. record m { version = version; body = File content }) (λ m. refl) (λ m. refl) t.nodes t.next id stored.0,
      subst (λ i. IsKept (with_given (replace_gives t i content (Ok version)) records) (replaced t i version content)) same (kept_replaced t n version content records stored.1 there at.2),
    )

pub replace_stored : (t : Tree) (held : Reservation) (id : ℕ) (content : List ℕ) (len : ℕ) (records : List Kept) → IsStored records t → IsStored (with_given (replace_gives t id content (replace_plan t held id len)) records) (replace_if t id content (replace_plan t held id len)).0
replace_stored t held id content len records stored = by_plan (replace_plan t held id len) refl
  where
    by_plan : (r : Result ℕ Status) → replace_plan t held id len ≡ r → IsStored (with_given (replace_gives t id content r) records) (replace_if t id content r).0
    by_plan (Err s) e = stored
    by_plan (Ok version) e = replaced_stored t id version content records stored (replace_in t held id len version e)

-- ---- the first tree

pub empty_stored : IsStored [] empty
empty_stored = (record { apart = (tt, tt); below = (omega arith, tt); rooted = (root 0, refl, refl) }, inl (refl, refl))

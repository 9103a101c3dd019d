-- What REMOVE and RENAME make of a tree: nothing, where they are refused; or a file goes, or a node goes under another name, over what has that name, if anything has.
-- And what the tree has then: its files, and no node of another id.
use Rattle.std.proofs.Common.{◌⊎◌, inl, inr, ◌≡◌, ℕ, ◌+◌, List, Option, Some, None, Result, Ok, Err, Bool, true, false, ◌&&◌, ◌==◌, refl, sym, ap, ◌∙◌, arith, length, if◌then◌else◌}
use Rattle.std.proofs.lemmas.Bool.Decides.{nat_tests}
use Rattle.xdr_codec.specs.declared.status.Status.{Status}
use Rattle.xdr_codec.specs.declared.status.Status.TheVariants as status
use Rattle.tree_nodes.specs.declared.node.Node.{Node}
use Rattle.tree_nodes.specs.declared.node.Body.{Body}
use Rattle.tree_nodes.specs.declared.node.Body.TheVariants.{Directory, File as Plain}
use Rattle.tree_nodes.specs.Nodes.{with_id, named, names, without, versioned}
use Rattle.tree_nodes.proofs.lemmas.Lists.{with_id_with, with_id_without}
use Rattle.tree_reading.specs.Chain.{◌>>=◌}
use Rattle.tree_reading.specs.Tree.{Tree, is_directory}
use Rattle.tree_reading.specs.Plans.{Target, Target.itself, Target.over, spared, last_version, gone_entry, one, nothing, move_done, remove_done, remove_plan, or_within, may_replace, rename_over, is_same, planned as planned_as, planned_found, rename_plan}
use Rattle.file_tree.specs.Step.{remove_if, remove, removed, placed, moved_at, moved, shifted, rename_if, rename, create, mkdir, rmdir}
use Rattle.tree_reading.specs.declared.call.Changed.{Changed}
use Rattle.tree_reading.specs.declared.call.CreateMode.TheVariants as mode
use Rattle.tree_reading.specs.declared.call.Reservation.{Reservation}
use Rattle.tree_reading.specs.declared.call.Planned.{Planned}
use Rattle.tree_reading.specs.declared.call.Planned.TheVariants as plan
use Rattle.tree_calls.specs.Waiting.{asks_remove, asks_rename, remove_again, rename_again, spot_of}
use Rattle.path_calls.specs.declared.walk.Goal.{Goal}
use Rattle.path_calls.specs.declared.walk.Goal.TheVariants as goal
use Rattle.path_calls.specs.declared.walk.Walk.{Walk}
use Rattle.chunk_calls.specs.Files as the_files
use Rattle.server_law.proofs.lemmas.Trees.{moved_at_files, removed_files, without_none}
use Rattle.server_law.proofs.lemmas.TreeCalls.{bind_ok, ok_is, HasDirectory, no_file_in, remove_in, rename_in}
use Rattle.kept_promise.proofs.Lists.{nothing_there}
use Rattle.kept_promise.proofs.TreeBounds.{IsSpared, remove_room, rename_finds, spared_room}
use Rattle.kept_promise.proofs.TreeMade.{remove_file}
use Rattle.kept_promise.proofs.MakingTrees.{none_versioned}

-- ---- REMOVE

pub data RemovedSo (t : Tree) (held : Reservation) (dir : ℕ) (name : List ℕ) : Type 0 where
  no_remove : (s : Status) → remove t held dir name ≡ (t, Err s) → RemovedSo t held dir name
  goes : (n : Node) (content : List ℕ) → named t.nodes dir name ≡ Some n → n.body ≡ Plain content → HasDirectory t dir → IsSpared t held 1 → remove t held dir name ≡ (removed t dir n.id, Ok (one n.id (n.version + 1) (gone_entry n (Plain content)))) → RemovedSo t held dir name

pub removed_so : (t : Tree) (held : Reservation) (dir : ℕ) (name : List ℕ) → RemovedSo t held dir name
removed_so t held dir name = by (remove_plan t held dir name) refl
  where
    file : (done : Changed) → remove_plan t held dir name ≡ Ok done → (n : Node) → named t.nodes dir name ≡ Some n → done ≡ remove_done n → (b : Body) → n.body ≡ b → is_directory b ≡ false → RemovedSo t held dir name
    file done e n at is Directory body plain = absurd cc
    file done e n at is (Plain content) body plain = goes n content at body (remove_in t held dir name done e) (remove_room t held dir name done e) (ap (remove_if t dir) (e ∙ ap (λ (c : Changed). Ok c) is) ∙ ap (λ (b : Body). (removed t dir n.id, Ok (one n.id (last_version n b) (gone_entry n b)))) body)

    by : (r : Result Changed Status) → remove_plan t held dir name ≡ r → RemovedSo t held dir name
    by (Err s) e = no_remove s (ap (remove_if t dir) e)
    by (Ok done) e = let f = remove_file t held dir name done e in file done e f.0 f.1 f.3 f.0.body refl f.2

-- ---- RENAME

pub data RenamedSo (t : Tree) (held : Reservation) (dir : ℕ) (name : List ℕ) (to : ℕ) (to_name : List ℕ) : Type 0 where
  no_rename : (s : Status) → rename_plan t held dir name to to_name ≡ Err s → RenamedSo t held dir name to to_name
  -- both names are the node's
  stays : (n : Node) → named t.nodes dir name ≡ Some n → is_same n (named t.nodes to to_name) ≡ true → rename_plan t held dir name to to_name ≡ Ok (plan.Nothing (nothing n)) → RenamedSo t held dir name to to_name
  moves : (n : Node) → named t.nodes dir name ≡ Some n → named t.nodes to to_name ≡ None → HasDirectory t dir × HasDirectory t to → IsSpared t held 1 → rename_plan t held dir name to to_name ≡ Ok (plan.Free (move_done n None)) → RenamedSo t held dir name to to_name
  -- a file for a file, or a directory for a directory
  goes_over : (n m : Node) → named t.nodes dir name ≡ Some n → named t.nodes to to_name ≡ Some m → (m.id == n.id) ≡ false → is_directory m.body ≡ is_directory n.body → HasDirectory t dir × HasDirectory t to → IsSpared t held 2 → rename_plan t held dir name to to_name ≡ Ok (plan.Over (move_done n (Some m))) → RenamedSo t held dir name to to_name

-- what goes for a node is of its kind
kind_same : (nodes : List Node) (n m : Node) (u : Unit) → may_replace nodes n m ≡ Ok u → is_directory m.body ≡ is_directory n.body
kind_same nodes n m u e = by (is_directory n.body) refl e
  where
    empty : (a b : Bool) → (let r : Result Unit Status = if a && b then Ok tt else Err status.Exist in r ≡ Ok u) → a ≡ true
    empty true b e = refl
    empty false b e = absurd cc

    plain : (a : Bool) → (let r : Result Unit Status = if a then Err status.Exist else Ok tt in r ≡ Ok u) → a ≡ false
    plain true e = absurd cc
    plain false e = refl

    by : (b : Bool) → is_directory n.body ≡ b → (let r : Result Unit Status = elim b [ true ↦ if is_directory m.body && (length (names nodes m.id) == 0) then Ok tt else Err status.Exist | false ↦ if is_directory m.body then Err status.Exist else Ok tt ] in r ≡ Ok u) → is_directory m.body ≡ is_directory n.body
    by true is e = empty (is_directory m.body) (length (names nodes m.id) == 0) e ∙ sym is
    by false is e = plain (is_directory m.body) e ∙ sym is

-- what is known of a target that isn't the node itself
abbrev IsTarget : Tree → Reservation → Node → (found : Option Node) → Type 0
IsTarget t held n None = IsSpared t held 1
IsTarget t held n (Some m) = (is_directory m.body ≡ is_directory n.body) × IsSpared t held 2

over_target : (t : Tree) (held : Reservation) (n : Node) (found : Option Node) (g : Target) → rename_over t held n found ≡ Ok g → (g ≡ over found) × IsTarget t held n found
over_target t held n None g e =
    let a = bind_ok (spared t.changes held 1) (λ _. Ok (over None)) g e in
    (sym (ok_is (over None) g a.2), spared_room t held 1 a.0 a.1)
over_target t held n (Some m) g e =
    let a = bind_ok (may_replace t.nodes n m) (λ _. spared t.changes held 2 >>= λ _. Ok (over (Some m))) g e in
    let b = bind_ok (spared t.changes held 2) (λ _. Ok (over (Some m))) g a.2 in
    (sym (ok_is (over (Some m)) g b.2), (kind_same t.nodes n m a.0 a.1, spared_room t held 2 b.0 b.1))

-- what is planned
found_target : (t : Tree) (held : Reservation) (n : Node) (to : ℕ) (found : Option Node) (p : Planned) → planned_found t held n to found ≡ Ok p → ((is_same n found ≡ true) × (p ≡ planned_as n itself)) ⊎ ((is_same n found ≡ false) × (p ≡ planned_as n (over found)) × IsTarget t held n found)
found_target t held n to found p e = by (is_same n found) refl e
  where
    by : (b : Bool) → is_same n found ≡ b → ((let r : Result Target Status = if b then Ok itself else (or_within t.nodes n to >>= λ _. rename_over t held n found) in r) >>= λ target. Ok (planned_as n target)) ≡ Ok p → ((is_same n found ≡ true) × (p ≡ planned_as n itself)) ⊎ ((is_same n found ≡ false) × (p ≡ planned_as n (over found)) × IsTarget t held n found)
    by true is same = inl (is, sym (ok_is (planned_as n itself) p same))
    by false is same =
        let a = bind_ok (or_within t.nodes n to >>= λ _. rename_over t held n found) (λ target. Ok (planned_as n target)) p same in
        let b = bind_ok (or_within t.nodes n to) (λ _. rename_over t held n found) a.0 a.1 in
        let g = over_target t held n found a.0 b.2 in
        inr (is, sym (ok_is (planned_as n a.0) p a.2) ∙ ap (planned_as n) g.0, g.1)

pub renamed_so : (t : Tree) (held : Reservation) (dir : ℕ) (name : List ℕ) (to : ℕ) (to_name : List ℕ) → RenamedSo t held dir name to to_name
renamed_so t held dir name to to_name = by (rename_plan t held dir name to to_name) refl
  where
    target : (p : Planned) → rename_plan t held dir name to to_name ≡ Ok p → (n : Node) → named t.nodes dir name ≡ Some n → (found : Option Node) → named t.nodes to to_name ≡ found → is_same n found ≡ false → p ≡ planned_as n (over found) → IsTarget t held n found → RenamedSo t held dir name to to_name
    target p e n at None free apart is k = moves n at free (rename_in t held dir name to to_name p e) k (e ∙ ap (λ (q : Planned). Ok q) is)
    target p e n at (Some m) there apart is k = goes_over n m at there apart k.0 (rename_in t held dir name to to_name p e) k.1 (e ∙ ap (λ (q : Planned). Ok q) is)

    by : (r : Result Planned Status) → rename_plan t held dir name to to_name ≡ r → RenamedSo t held dir name to to_name
    by (Err s) e = no_rename s e
    by (Ok p) e =
        let f = rename_finds t held dir name to to_name p e in
        elim (found_target t held f.0 to (named t.nodes to to_name) p f.2) [
          | inl same ↦ stays f.0 f.1 same.0 (e ∙ ap (λ (q : Planned). Ok q) same.1)
          | inr k ↦ target p e f.0 f.1 (named t.nodes to to_name) refl k.0 k.1 k.2
        ]

-- what it makes of the tree
pub renames_moved : (t : Tree) (held : Reservation) (dir : ℕ) (name : List ℕ) (to : ℕ) (to_name : List ℕ) (n : Node) → named t.nodes dir name ≡ Some n → rename_plan t held dir name to to_name ≡ Ok (plan.Free (move_done n None)) → rename t held dir name to to_name ≡ (moved t dir n None to to_name, Ok (move_done n None))
renames_moved t held dir name to to_name n at e = ap (rename_if t dir name to to_name) e ∙ ap (λ (o : Option Node). (shifted t dir o None to to_name, Ok (move_done n None))) at

pub renames_over : (t : Tree) (held : Reservation) (dir : ℕ) (name : List ℕ) (to : ℕ) (to_name : List ℕ) (n m : Node) → named t.nodes dir name ≡ Some n → named t.nodes to to_name ≡ Some m → rename_plan t held dir name to to_name ≡ Ok (plan.Over (move_done n (Some m))) → rename t held dir name to to_name ≡ (moved t dir n (Some m) to to_name, Ok (move_done n (Some m)))
renames_over t held dir name to to_name n m at there e =
    ap (rename_if t dir name to to_name) e ∙ ap (λ (o : Option Node). (shifted t dir o (named t.nodes to to_name) to to_name, Ok (move_done n (Some m)))) at ∙ ap (λ (o : Option Node). (moved t dir n o to to_name, Ok (move_done n (Some m)))) there

-- ---- why a call that makes, removes or renames something is refused

-- By the tree's step in the directory that was reached; a REMOVE and a RENAME also when they come, or since another change came between, once nothing blocks
-- them.
abbrev pub RefusedBy : Tree → (dir : ℕ) → Goal → Status → Type 0
RefusedBy t dir (goal.Make name) s = (held : Reservation) × ((create t held dir name mode.Guarded).1 ≡ Err s)
RefusedBy t dir (goal.MakeDir name) s = (held : Reservation) × ((mkdir t held dir name).1 ≡ Err s)
RefusedBy t dir (goal.RemoveDir name) s = (held : Reservation) × ((rmdir t held dir name).1 ≡ Err s)
RefusedBy t dir (goal.Remove name) s = ((held : Reservation) × (busy : Bool) × (asks_remove t held busy dir name ≡ Err s)) ⊎ (((file : ℕ) × (remove_again t.nodes (record { spot = spot_of dir name; file = file }) ≡ Err s)) ⊎ ((held : Reservation) × ((remove t held dir name).1 ≡ Err s)))
RefusedBy t dir (goal.RenameTo from name to_name) s = ((held : Reservation) × (busy : Bool) × (asks_rename t held busy from name dir to_name ≡ Err s)) ⊎ (((node : ℕ) × (file : ℕ) × (rename_again t.nodes (record { from = spot_of from name; to = spot_of dir to_name; node = node; file = file }) ≡ Err s)) ⊎ ((held : Reservation) × ((rename t held from name dir to_name).1 ≡ Err s)))
RefusedBy t dir g s = ⊥

abbrev pub RefusedAs : Tree → Walk → Status → Type 0
RefusedAs t w s = RefusedBy t w.dir w.goal s

-- ---- files

-- one goes
pub file_gone : (t : Tree) (dir : ℕ) (n : Node) (f : ℕ) → HasDirectory t dir → the_files.file_at (removed t dir n.id) f ≡ (if n.id == f then None else the_files.file_at t f)
file_gone t dir n f d = removed_files t dir n.id f (no_file_in t dir d)

-- none is another where a node goes under another name
pub file_moved : (t : Tree) (dir : ℕ) (n : Node) (to : ℕ) (to_name : List ℕ) (f : ℕ) → with_id t.nodes n.id ≡ Some n → HasDirectory t dir × HasDirectory t to → the_files.file_at (moved t dir n None to to_name) f ≡ the_files.file_at t f
file_moved t dir n to to_name f at d = moved_at_files t t.nodes n dir to (t.changes + 1) to_name f at (no_file_in t dir d.0) (no_file_in t to d.1)

-- but what had that name
pub file_over : (t : Tree) (dir : ℕ) (n m : Node) (to : ℕ) (to_name : List ℕ) (f : ℕ) → with_id t.nodes n.id ≡ Some n → (m.id == n.id) ≡ false → HasDirectory t dir × HasDirectory t to → the_files.file_at (moved t dir n (Some m) to to_name) f ≡ (if m.id == f then None else the_files.file_at t f)
file_over t dir n m to to_name f at apart d =
    let still : with_id (without t.nodes m.id) n.id ≡ Some n = with_id_without t.nodes m.id n.id ∙ ap (λ (b : Bool). if b then None else with_id t.nodes n.id) apart ∙ at in
    moved_at_files t (without t.nodes m.id) n dir to (t.changes + 2) to_name f still (without_none t.nodes m.id dir (no_file_in t dir d.0)) (without_none t.nodes m.id to (no_file_in t to d.1))
    ∙ ap the_files.file_of_node (with_id_without t.nodes m.id f) ∙ by (m.id == f)
  where
    by : (b : Bool) → the_files.file_of_node (if b then None else with_id t.nodes f) ≡ (if b then None else the_files.file_at t f)
    by true = refl
    by false = refl

-- ---- an id that names nobody still does

none_without : (ns : List Node) (id f : ℕ) → with_id ns f ≡ None → with_id (without ns id) f ≡ None
none_without ns id f none = with_id_without ns id f ∙ by (id == f)
  where
    by : (b : Bool) → (if b then None else with_id ns f) ≡ None
    by true = refl
    by false = none

pub none_gone : (t : Tree) (dir id f : ℕ) → with_id t.nodes f ≡ None → with_id (removed t dir id).nodes f ≡ None
none_gone t dir id f none = none_versioned (without t.nodes id) dir (t.changes + 1) f (none_without t.nodes id f none)

none_placed : (ns : List Node) (n : Node) (to : ℕ) (name : List ℕ) (f : ℕ) → with_id ns n.id ≡ Some n → with_id ns f ≡ None → with_id (placed ns n to name) f ≡ None
none_placed ns n to name f at none = with_id_with (without ns n.id) (record n { parent = to; name = name }) f (with_id_without ns n.id n.id ∙ ap (λ (b : Bool). if b then None else with_id ns n.id) self) ∙ by (n.id == f) refl
  where
    self : (n.id == n.id) ≡ true
    self = grind (arith, nat_tests)

    by : (b : Bool) → (n.id == f) ≡ b → (if b then Some (record n { parent = to; name = name }) else with_id (without ns n.id) f) ≡ None
    by true e = nothing_there n (sym none ∙ ap (with_id ns) (let same : f ≡ n.id = grind (arith, nat_tests, e) in same) ∙ at)
    by false e = none_without ns n.id f none

none_at : (t : Tree) (ns : List Node) (dir : ℕ) (n : Node) (to : ℕ) (name : List ℕ) (changes f : ℕ) → with_id ns n.id ≡ Some n → with_id ns f ≡ None → with_id (moved_at t dir n ns to name changes).nodes f ≡ None
none_at t ns dir n to name changes f at none = none_versioned (versioned (placed ns n to name) dir changes) to changes f (none_versioned (placed ns n to name) dir changes f (none_placed ns n to name f at none))

pub none_moved : (t : Tree) (dir : ℕ) (n : Node) (o : Option Node) (to : ℕ) (name : List ℕ) (f : ℕ) → with_id t.nodes n.id ≡ Some n → ((m : Node) → o ≡ Some m → (m.id == n.id) ≡ false) → with_id t.nodes f ≡ None → with_id (moved t dir n o to name).nodes f ≡ None
none_moved t dir n None to name f at apart none = none_at t t.nodes dir n to name (t.changes + 1) f at none
none_moved t dir n (Some m) to name f at apart none =
    let still : with_id (without t.nodes m.id) n.id ≡ Some n = with_id_without t.nodes m.id n.id ∙ ap (λ (b : Bool). if b then None else with_id t.nodes n.id) (apart m refl) ∙ at in
    none_at t (without t.nodes m.id) dir n to name (t.changes + 2) f still (none_without t.nodes m.id f none)

-- ---- what went has no node

gone_self : (ns : List Node) (id : ℕ) → with_id (without ns id) id ≡ None
gone_self ns id = with_id_without ns id id ∙ ap (λ (b : Bool). if b then None else with_id ns id) (let self : (id == id) ≡ true = grind (arith, nat_tests) in self)

pub off_gone : (t : Tree) (dir id : ℕ) → with_id (removed t dir id).nodes id ≡ None
off_gone t dir id = none_versioned (without t.nodes id) dir (t.changes + 1) id (gone_self t.nodes id)

pub off_over : (t : Tree) (dir : ℕ) (n m : Node) (to : ℕ) (name : List ℕ) → with_id t.nodes n.id ≡ Some n → (m.id == n.id) ≡ false → with_id (moved t dir n (Some m) to name).nodes m.id ≡ None
off_over t dir n m to name at apart =
    let still : with_id (without t.nodes m.id) n.id ≡ Some n = with_id_without t.nodes m.id n.id ∙ ap (λ (b : Bool). if b then None else with_id t.nodes n.id) apart ∙ at in
    none_at t (without t.nodes m.id) dir n to name (t.changes + 2) m.id still (gone_self t.nodes m.id)

-- Every call keeps of each directory its names, or leaves it in a later version, or gone.
use Rattle.std.proofs.Common.{◌≡◌, ℕ, ◌≤◌, List, length, Option, Some, None, Result, Ok, Err, Bool, false, ◌==◌, refl, sym, subst, arith}
use Rattle.std.proofs.lemmas.Bool.Decides.{nat_tests}
use Rattle.xdr_codec.specs.declared.status.Status.{Status}
use Rattle.nfs3_calls.specs.declared.message.Nfs.{Nfs}
use Rattle.nfs3_calls.specs.declared.message.Nfs.TheVariants as nfs
use Rattle.tree_nodes.specs.declared.node.Node.{Node}
use Rattle.tree_nodes.specs.Nodes.{named}
use Rattle.tree_reading.specs.declared.call.Changed.{Changed}
use Rattle.tree_reading.specs.declared.call.CreateMode.{CreateMode}
use Rattle.tree_reading.specs.declared.call.Reservation.{Reservation}
use Rattle.tree_reading.specs.declared.call.Planned.{Planned}
use Rattle.tree_reading.specs.declared.call.Planned.TheVariants as planned
use Rattle.tree_reading.specs.Tree.{Tree}
use Rattle.tree_reading.specs.Plans.{create_plan, may_mkdir, remove_done, remove_plan, rmdir_plan, rename_plan, replace_plan}
use Rattle.file_tree.specs.Step.{create, created as create_made, new_file, new_directory, mkdir, mkdir_if, remove_if, remove, rmdir, shifted, rename_if, rename, replace_if, replaced, removed}
use Rattle.tree_reading.proofs.lemmas.Admitted.{remove_there, rmdir_there, rename_there}
use Rattle.tree_reading.proofs.lemmas.Found.{found_all}
use Rattle.tree_calls.specs.declared.asked.Asked.{Asked}
use Rattle.tree_calls.specs.declared.asked.Asked.TheVariants as asked
use Rattle.tree_calls.specs.Telling.{id_of}
use Rattle.tree_calls.specs.Changing.{mode_of}
use Rattle.tree_calls.specs.Waiting.{gives_content, settles, removes_if, renames_if, remove_again, rename_again, calls, creates_in, mkdirs_in, rmdirs_in, renaming, asks_rename, renames_in}
use Rattle.server_law.proofs.lemmas.Trees.{file_node}
use Rattle.server_law.proofs.lemmas.TreeCalls.{HasDirectory, create_in, mkdir_in, remove_in, rmdir_in, rename_in, replace_in}
use Rattle.kept_promise.proofs.TreeNames.{IsCounted, AreDirsLater, KeepsDirs, dirs_same, made_dirs, removed_dirs, replaced_dirs, moved_to, moved_over}

create_dirs : (t : Tree) (held : Reservation) (dir : ℕ) (name : List ℕ) (m : CreateMode) → KeepsDirs t (create t held dir name m).0
create_dirs t held dir name m = by (create_plan t held dir name m) refl
  where
    by : (r : Result (Option Changed) Status) → create_plan t held dir name m ≡ r → KeepsDirs t (create_made t dir name r).0
    by (Err s) e = dirs_same t
    by (Ok (Some done)) e = dirs_same t
    by (Ok None) e = let d = create_in t held dir name m None e in made_dirs t (new_file t dir name) d.0 refl (omega arith) d.1 d.2

mkdir_dirs : (t : Tree) (held : Reservation) (dir : ℕ) (name : List ℕ) → KeepsDirs t (mkdir t held dir name).0
mkdir_dirs t held dir name = by (may_mkdir t held dir name) refl
  where
    by : (r : Result Unit Status) → may_mkdir t held dir name ≡ r → KeepsDirs t (mkdir_if t dir name r).0
    by (Err s) e = dirs_same t
    by (Ok u) e = let d = mkdir_in t held dir name u e in made_dirs t (new_directory t dir name) d.0 refl (omega arith) d.1 d.2

-- what goes has the name
gone_dirs : (t : Tree) (dir : ℕ) (name : List ℕ) (n : Node) (done : Changed) → named t.nodes dir name ≡ Some n → done ≡ remove_done n → HasDirectory t dir → KeepsDirs t (removed t dir done.id)
gone_dirs t dir name n done at same d = subst (λ (c : Changed). KeepsDirs t (removed t dir c.id)) (sym same) (removed_dirs t dir name n d.0 at d.1 d.2)

remove_dirs : (t : Tree) (held : Reservation) (dir : ℕ) (name : List ℕ) → KeepsDirs t (remove t held dir name).0
remove_dirs t held dir name = by (remove_plan t held dir name) refl
  where
    by : (r : Result Changed Status) → remove_plan t held dir name ≡ r → KeepsDirs t (remove_if t dir r).0
    by (Err s) e = dirs_same t
    by (Ok done) e = let g = remove_there t held dir name done e in gone_dirs t dir name g.0 done g.1 g.2 (remove_in t held dir name done e)

rmdir_dirs : (t : Tree) (held : Reservation) (dir : ℕ) (name : List ℕ) → KeepsDirs t (rmdir t held dir name).0
rmdir_dirs t held dir name = by (rmdir_plan t held dir name) refl
  where
    by : (r : Result Changed Status) → rmdir_plan t held dir name ≡ r → KeepsDirs t (remove_if t dir r).0
    by (Err s) e = dirs_same t
    by (Ok done) e = let g = rmdir_there t held dir name done e in gone_dirs t dir name g.0 done g.1 g.2 (rmdir_in t held dir name done e)

free_dirs : (t : Tree) (dir : ℕ) (name : List ℕ) (to : ℕ) (to_name : List ℕ) (n : Option Node) → named t.nodes dir name ≡ n → HasDirectory t dir → HasDirectory t to → KeepsDirs t (shifted t dir n None to to_name)
free_dirs t dir name to to_name None at d e = dirs_same t
free_dirs t dir name to to_name (Some n) at d e = moved_to t dir n to name to_name at d e

over_dirs : (t : Tree) (dir : ℕ) (name : List ℕ) (to : ℕ) (to_name : List ℕ) (n o : Option Node) → named t.nodes dir name ≡ n → named t.nodes to to_name ≡ o → ((k l : Node) → n ≡ Some k → o ≡ Some l → (l.id == k.id) ≡ false) → HasDirectory t dir → HasDirectory t to → KeepsDirs t (shifted t dir n o to to_name)
over_dirs t dir name to to_name None o at there differ d e = dirs_same t
over_dirs t dir name to to_name (Some n) None at there differ d e = moved_to t dir n to name to_name at d e
over_dirs t dir name to to_name (Some n) (Some m) at there differ d e = moved_over t dir n m to name to_name at there (differ n m refl refl) d e

rename_dirs : (t : Tree) (held : Reservation) (dir : ℕ) (name : List ℕ) (to : ℕ) (to_name : List ℕ) → KeepsDirs t (rename t held dir name to to_name).0
rename_dirs t held dir name to to_name = by (rename_plan t held dir name to to_name) refl
  where
    by : (r : Result Planned Status) → rename_plan t held dir name to to_name ≡ r → KeepsDirs t (rename_if t dir name to to_name r).0
    by (Err s) e = dirs_same t
    by (Ok (planned.Nothing done)) e = dirs_same t
    by (Ok (planned.Free done)) e = let d = rename_in t held dir name to to_name (planned.Free done) e in free_dirs t dir name to to_name (named t.nodes dir name) refl d.0 d.1
    by (Ok (planned.Over done)) e =
        let d = rename_in t held dir name to to_name (planned.Over done) e in
        let apart = (rename_there t held dir name to to_name (planned.Over done) e).2 in
        over_dirs t dir name to to_name (named t.nodes dir name) (named t.nodes to to_name) refl refl (λ k l is there. other k l (apart k l is there)) d.0 d.1
      where
        other : (k l : Node) → (k.id == l.id) ≡ false → (l.id == k.id) ≡ false
        other k l e = grind (arith, nat_tests, e)

pub commits_dirs : (t : Tree) (held : Reservation) (id : ℕ) (content : List ℕ) (term : ℕ) → KeepsDirs t (gives_content t held id content term).0
commits_dirs t held id content term = λ h. by h (replace_plan t held id (length content)) refl
  where
    by : (h : IsCounted t) (r : Result ℕ Status) → replace_plan t held id (length content) ≡ r → (IsCounted (replace_if t id content r).0) × AreDirsLater t (replace_if t id content r).0
    by h (Err s) e = dirs_same t h
    by h (Ok version) e =
        let g = replace_in t held id (length content) version e in
        let n = file_node t id g.0 g.1 in
        let le = found_all (λ (m : Node). m.version ≤ t.changes) (λ m. m.id == id) t.nodes n.node h.versions n.there in
        let v = n.version in
        subst (λ (u : ℕ). KeepsDirs t (replaced t id u content)) (sym g.2) (replaced_dirs t id content g.0 g.1 (omega (arith, le, v))) h

pub settles_dirs : (t : Tree) (held : Reservation) (a : Asked) → KeepsDirs t (settles t held a).0
settles_dirs t held (asked.Remove r) = by (remove_again t.nodes r)
  where
    by : (o : Result Unit Status) → KeepsDirs t (removes_if t held r.spot o).0
    by (Err e) = dirs_same t
    by (Ok u) = remove_dirs t held r.spot.dir r.spot.name
settles_dirs t held (asked.Rename r) = by (rename_again t.nodes r)
  where
    by : (o : Result Unit Status) → KeepsDirs t (renames_if t held r.from r.to o).0
    by (Err e) = dirs_same t
    by (Ok u) = rename_dirs t held r.from.dir r.from.name r.to.dir r.to.name

pub calls_dirs : (t : Tree) (held : Reservation) (busy : Bool) (m : Nfs) → KeepsDirs t (calls t held busy m).0
calls_dirs t held busy (nfs.Create f) = by (id_of f.place.dir)
  where
    by : (r : Result ℕ Status) → KeepsDirs t (creates_in t held f r).0
    by (Err s) = dirs_same t
    by (Ok dir) = create_dirs t held dir f.place.name (mode_of f.how)
calls_dirs t held busy (nfs.MkDir d) = by (id_of d.place.dir)
  where
    by : (r : Result ℕ Status) → KeepsDirs t (mkdirs_in t held d.place.name r).0
    by (Err s) = dirs_same t
    by (Ok dir) = mkdir_dirs t held dir d.place.name
calls_dirs t held busy (nfs.RmDir p) = by (id_of p.dir)
  where
    by : (r : Result ℕ Status) → KeepsDirs t (rmdirs_in t held p.name r).0
    by (Err s) = dirs_same t
    by (Ok dir) = rmdir_dirs t held dir p.name
calls_dirs t held busy (nfs.Rename r) = by (id_of r.from.dir) (id_of r.to.dir)
  where
    comes : (dir to : ℕ) (o : Result (Option (ℕ × ℕ)) Status) → KeepsDirs t (renaming t held dir r.from.name to r.to.name o).0
    comes dir to (Err s) = dirs_same t
    comes dir to (Ok None) = rename_dirs t held dir r.from.name to r.to.name
    comes dir to (Ok (Some p)) = dirs_same t

    by : (a b : Result ℕ Status) → KeepsDirs t (renames_in t held busy r.from.name r.to.name a b).0
    by (Ok dir) (Ok to) = comes dir to (asks_rename t held busy dir r.from.name to r.to.name)
    by (Ok dir) (Err s) = dirs_same t
    by (Err s) b = dirs_same t
calls_dirs t held busy m = dirs_same t

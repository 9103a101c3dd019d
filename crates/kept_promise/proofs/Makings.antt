-- What the server's tree makes of a walk's next call that makes a file, or makes or removes a directory: it's refused, and nothing is changed; or the tree's own
-- step is made, with one entry.
use Rattle.std.proofs.Common.{◌≡◌, ℕ, ◌+◌, ◌<◌, List, [], Option, Some, None, Result, Ok, Err, Bool, true, false, refl, sym, ap, ◌∙◌, if◌then◌else◌}
use Rattle.std.specs.Option.{option_map}
use Rattle.xdr_codec.specs.Handle.{handle_bytes}
use Rattle.xdr_codec.specs.declared.answer.Answer.TheVariants as answer
use Rattle.xdr_codec.specs.declared.status.Status.{Status}
use Rattle.xdr_codec.specs.declared.status.Status.TheVariants as status
use Rattle.nfs3_calls.specs.Nfs.{nfs_proc}
use Rattle.nfs3_calls.specs.declared.making.HowMade.TheVariants as how
use Rattle.nfs3_calls.specs.declared.message.Nfs.TheVariants as nfs
use Rattle.wire.specs.declared.message.Body.TheVariants as body
use Rattle.tree_nodes.specs.declared.node.Node.{Node}
use Rattle.tree_nodes.specs.declared.node.Body.{Body}
use Rattle.tree_nodes.specs.declared.node.Body.TheVariants.{Directory, File}
use Rattle.tree_nodes.specs.Nodes.{named}
use Rattle.tree_reading.specs.Chain.{◌>>=◌}
use Rattle.tree_reading.specs.Names.{spelt, undotted}
use Rattle.tree_reading.specs.Tree.{Tree, is_directory, directory_of, directory_or, or_no_entry}
use Rattle.tree_reading.specs.Plans.{create_plan, create_mode, create_found, may_create, may_mkdir, rmdir_plan, may_rmdir, or_not_empty, remove_done, gone_entry, made_entry, name_entry, nothing, one, spared}
use Rattle.file_tree.specs.Step.{create, created as create_made, mkdir, mkdir_if, remove, rename, rmdir, remove_if, removed, made, new_file, new_directory}
use Rattle.tree_reading.specs.declared.call.Changed.{Changed}
use Rattle.tree_reading.specs.declared.call.CreateMode.TheVariants as mode
use Rattle.tree_reading.specs.declared.call.Reservation.{Reservation}
use Rattle.tree_reading.specs.declared.entry.Entry.{Entry}
use Rattle.tree_reading.specs.declared.entry.EntryKind.TheVariants as kind
use Rattle.tree_calls.specs.Telling.{id_of, or_bad_handle}
use Rattle.tree_calls.specs.Changing.{before, both_sides, no_side, said, with_done, made_of, created, creates, made_directory, mkdirs, removed_directory, rmdirs}
use Rattle.tree_calls.specs.Waiting.{creates_in, mkdirs_in, rmdirs_in}
use Rattle.tree_calls.specs.declared.asked.Done.{Done}
use Rattle.path_calls.specs.Told.{walk_told}
use Rattle.path_calls.specs.Walk.{place, keeps_all, call_at, next_call}
use Rattle.path_calls.specs.declared.answers.Ended.TheVariants as ended
use Rattle.path_calls.specs.declared.answers.Told.TheVariants as told
use Rattle.path_calls.specs.declared.walk.Goal.{Goal}
use Rattle.path_calls.specs.declared.walk.Goal.TheVariants as goal
use Rattle.path_calls.specs.declared.walk.Walk.{Walk}
use Rattle.server_core.specs.State as server
use Rattle.server_core.specs.Step.{does}
use Rattle.server_core.specs.declared.event.ServerStep.{ServerStep}
use Rattle.server_law.proofs.lemmas.TreeCalls.{bind_ok, ok_is, HasDirectory, create_in, mkdir_in, rmdir_in}
use Rattle.trace_replay.specs.Naming.{refusal_of}
use Rattle.kept_promise.proofs.Common.{called, NameReply, NameReply.MadeFile, NameReply.MadeDir, NameReply.NoDir, name_answer}
use Rattle.kept_promise.proofs.PathNames.{IsWalkSmall, builds_at, is_building}
use Rattle.kept_promise.proofs.TreeTold.{entry_is}
use Rattle.kept_promise.proofs.TreeWalks.{own_handle}

-- ---- which step

-- with its answer
abbrev pub made_by : Tree → Reservation → (dir : ℕ) → Goal → Tree × Done
made_by t held dir (goal.Make name) = creates t held dir name mode.Guarded
made_by t held dir (goal.MakeDir name) = mkdirs t held dir name
made_by t held dir (goal.RemoveDir name) = rmdirs t held dir name
-- no other goal makes anything at once
made_by t held dir g = (t, said nfs.Null)

-- the tree's own
abbrev pub step_by : Tree → Reservation → (dir : ℕ) → Goal → Tree × Result Changed Status
step_by t held dir (goal.Make name) = create t held dir name mode.Guarded
step_by t held dir (goal.MakeDir name) = mkdir t held dir name
step_by t held dir (goal.RemoveDir name) = rmdir t held dir name
step_by t held dir (goal.Remove name) = remove t held dir name
step_by t held dir (goal.RenameTo from name to_name) = rename t held from name dir to_name
step_by t held dir g = (t, Err status.ServerFault)

-- ---- the server's step

pub own_id : (dir : ℕ) → dir < 18446744073709551616 → id_of (handle_bytes dir) ≡ Ok dir
own_id dir small = ap or_bad_handle (own_handle dir small)

-- what the server does with what a tree made of a call
abbrev pub does_made : server.State → (session xid : ℕ) → Tree × Done → server.State × ServerStep
does_made s session xid p = does (record s { tree = p.0 }) session xid p.1

called_at : (s : server.State) (session xid dir : ℕ) (left : List (List ℕ)) (g : Goal) → dir < 18446744073709551616 → builds_at left g ≡ true → called s session xid (body.Nfs (call_at dir left g)) ≡ does_made s session xid (made_by s.tree (server.held s.waiting) dir g)
called_at s session xid dir [] (goal.Make name) small e = ap (λ (r : Result ℕ Status). does_made s session xid (creates_in s.tree (server.held s.waiting) (record { place = place dir name; how = how.Guarded keeps_all }) r)) (own_id dir small)
called_at s session xid dir [] (goal.MakeDir name) small e = ap (λ (r : Result ℕ Status). does_made s session xid (mkdirs_in s.tree (server.held s.waiting) name r)) (own_id dir small)
called_at s session xid dir [] (goal.RemoveDir name) small e = ap (λ (r : Result ℕ Status). does_made s session xid (rmdirs_in s.tree (server.held s.waiting) name r)) (own_id dir small)
called_at s session xid dir left g small e = absurd cc

pub called_making : (s : server.State) (session xid : ℕ) (w : Walk) → IsWalkSmall w → is_building w ≡ true → called s session xid (body.Nfs (next_call w)) ≡ does_made s session xid (made_by s.tree (server.held s.waiting) w.dir w.goal)
called_making s session xid w h e = called_at s session xid w.dir w.left w.goal h.dir e

-- ---- what comes of it

-- the entry of a change: of a file that is made, or of a name
abbrev pub EntryAt : Tree → Goal → Entry → Type 0
EntryAt t (goal.Make name) e = e ≡ made_entry t.next
EntryAt t g e = e.kind ≡ kind.Name

-- what the tree is after it
abbrev pub AfterAt : Tree → (dir : ℕ) → Goal → Tree → Type 0
AfterAt t dir (goal.Make name) after = (after ≡ made t (new_file t dir name)) × HasDirectory t dir
AfterAt t dir (goal.MakeDir name) after = (after ≡ made t (new_directory t dir name)) × HasDirectory t dir
AfterAt t dir (goal.RemoveDir name) after = (n : Node) × (after ≡ removed t dir n.id) × HasDirectory t dir × (named t.nodes dir name ≡ Some n) × (is_directory n.body ≡ true)
AfterAt t dir g after = ⊥

-- it's refused and nothing is changed, or the tree's own step is made, with one entry; either way its answer ends the walk
pub data MadeSo (t : Tree) (held : Reservation) (w : Walk) : Type 0 where
  refuses : (s : Status) (r : NameReply) → made_by t held w.dir w.goal ≡ (t, said (name_answer r)) → (step_by t held w.dir w.goal).1 ≡ Err s → refusal_of (name_answer r) ≡ Some s → walk_told w (name_answer r) ≡ told.Ends (ended.Refused s) → nfs_proc (name_answer r) ≡ nfs_proc (next_call w) → MadeSo t held w
  enters : (done : Changed) (e : Entry) (r : NameReply) (after : Tree) → made_by t held w.dir w.goal ≡ (after, record { answer = name_answer r; first = Some e; second = None }) → step_by t held w.dir w.goal ≡ (after, Ok done) → done.first ≡ Some e → done.second ≡ None → EntryAt t w.goal e → AfterAt t w.dir w.goal after → walk_told w (name_answer r) ≡ told.Ends ended.Done → nfs_proc (name_answer r) ≡ nfs_proc (next_call w) → MadeSo t held w

-- a file is made where its name is free, and else it's refused
guarded_plan : (t : Tree) (held : Reservation) (dir : ℕ) (name : List ℕ) (done : Changed) → create_plan t held dir name mode.Guarded ≡ Ok (Some done) → ⊥
guarded_plan t held dir name done e =
    let p = bind_ok (may_create t held dir name mode.Guarded) (λ found. Ok (option_map nothing found)) (Some done) e in
    let a = bind_ok (directory_of t.nodes dir) (λ _. spelt name >>= λ _. undotted status.Inval status.Inval name >>= λ _. create_mode t held dir name mode.Guarded) p.0 p.1 in
    let b = bind_ok (spelt name) (λ _. undotted status.Inval status.Inval name >>= λ _. create_mode t held dir name mode.Guarded) p.0 a.2 in
    let c = bind_ok (undotted status.Inval status.Inval name) (λ _. create_mode t held dir name mode.Guarded) p.0 b.2 in
    by p.0 (named t.nodes dir name) c.2 (ok_is (option_map nothing p.0) (Some done) p.2)
  where
    by : (f : Option Node) (o : Option Node) → create_found t.changes held mode.Guarded o ≡ Ok f → option_map nothing f ≡ Some done → ⊥
    by f None e is =
        let s = bind_ok (spared t.changes held 1) (λ _. Ok None) f e in
        absurd (none (ap (option_map nothing) (ok_is None f s.2) ∙ is))
      where
        none : ◌≡◌ {A = Option Changed} None (Some done) → ⊥
        none e = absurd cc
    by f (Some n) e is = absurd cc

-- a directory goes
rmdir_entry : (t : Tree) (held : Reservation) (dir : ℕ) (name : List ℕ) (done : Changed) → rmdir_plan t held dir name ≡ Ok done → (n : Node) × (done ≡ remove_done n) × (is_directory n.body ≡ true) × (named t.nodes dir name ≡ Some n)
rmdir_entry t held dir name done e =
    let p = bind_ok (may_rmdir t held dir name) (λ n. Ok (remove_done n)) done e in
    let a = bind_ok (directory_of t.nodes dir) (λ _. spelt name >>= λ _. undotted status.Inval status.Exist name >>= λ _. or_no_entry (named t.nodes dir name) >>= directory_or status.NotDir >>= λ n. or_not_empty t.nodes n >>= λ _. spared t.changes held 1 >>= λ _. Ok n) p.0 p.1 in
    let b = bind_ok (spelt name) (λ _. undotted status.Inval status.Exist name >>= λ _. or_no_entry (named t.nodes dir name) >>= directory_or status.NotDir >>= λ n. or_not_empty t.nodes n >>= λ _. spared t.changes held 1 >>= λ _. Ok n) p.0 a.2 in
    let d = bind_ok (undotted status.Inval status.Exist name) (λ _. or_no_entry (named t.nodes dir name) >>= directory_or status.NotDir >>= λ n. or_not_empty t.nodes n >>= λ _. spared t.changes held 1 >>= λ _. Ok n) p.0 b.2 in
    let f = bind_ok (or_no_entry (named t.nodes dir name) >>= directory_or status.NotDir) (λ n. or_not_empty t.nodes n >>= λ _. spared t.changes held 1 >>= λ _. Ok n) p.0 d.2 in
    let g = bind_ok (or_no_entry (named t.nodes dir name)) (directory_or status.NotDir) f.0 f.1 in
    let h = bind_ok (or_not_empty t.nodes f.0) (λ _. spared t.changes held 1 >>= λ _. Ok f.0) p.0 f.2 in
    let k = bind_ok (spared t.changes held 1) (λ _. Ok f.0) p.0 h.2 in
    let is = directory_if g.0 f.0 (is_directory g.0.body) g.2 in
    let same : p.0 ≡ g.0 = sym (is.1 ∙ ok_is f.0 p.0 k.2) in
    (g.0, sym (ok_is (remove_done p.0) done p.2) ∙ ap remove_done same, is.0, entry_is (named t.nodes dir name) g.0 g.1)
  where
    directory_if : (n m : Node) (b : Bool) → (let r : Result Node Status = if b then Ok n else Err status.NotDir in r ≡ Ok m) → (b ≡ true) × (n ≡ m)
    directory_if n m true e = (refl, ok_is n m e)
    directory_if n m false e = absurd cc

gone_name : (n : Node) (b : Body) → is_directory b ≡ true → (gone_entry n b).kind ≡ kind.Name
gone_name n Directory e = refl
gone_name n (File c) e = absurd cc

made_so : (t : Tree) (held : Reservation) (dir : ℕ) (left : List (List ℕ)) (g : Goal) → builds_at left g ≡ true → MadeSo t held (record { dir = dir; left = left; goal = g })
made_so t held dir [] (goal.Make name) e = by (create_plan t held dir name mode.Guarded) refl
  where
    by : (r : Result (Option Changed) Status) → create_plan t held dir name mode.Guarded ≡ r → MadeSo t held (record { dir = dir; left = []; goal = goal.Make name })
    by (Err s) is = refuses s (MadeFile (answer.Failed s no_side)) (ap (λ z. with_done (created (before t.nodes dir) dir) (create_made t dir name z)) is) (ap (λ z. (create_made t dir name z).1) is) refl refl refl
    by (Ok (Some done)) is = absurd (guarded_plan t held dir name done is)
    by (Ok None) is =
        let done : Changed = one t.next 1 (made_entry t.next) in
        let after : Tree = made t (new_file t dir name) in
        enters done (made_entry t.next) (MadeFile (answer.Done (made_of (before t.nodes dir) dir after.nodes done))) after (ap (λ z. with_done (created (before t.nodes dir) dir) (create_made t dir name z)) is) (ap (create_made t dir name) is) refl refl refl (refl, create_in t held dir name mode.Guarded None is) refl refl
made_so t held dir [] (goal.MakeDir name) e = by (may_mkdir t held dir name) refl
  where
    by : (r : Result Unit Status) → may_mkdir t held dir name ≡ r → MadeSo t held (record { dir = dir; left = []; goal = goal.MakeDir name })
    by (Err s) is = refuses s (MadeDir (answer.Failed s no_side)) (ap (λ z. with_done (made_directory (before t.nodes dir) dir) (mkdir_if t dir name z)) is) (ap (λ z. (mkdir_if t dir name z).1) is) refl refl refl
    by (Ok u) is =
        let done : Changed = one t.next (t.changes + 1) (name_entry t.next) in
        let after : Tree = made t (new_directory t dir name) in
        enters done (name_entry t.next) (MadeDir (answer.Done (made_of (before t.nodes dir) dir after.nodes done))) after (ap (λ z. with_done (made_directory (before t.nodes dir) dir) (mkdir_if t dir name z)) is) (ap (mkdir_if t dir name) is) refl refl refl (refl, mkdir_in t held dir name u is) refl refl
made_so t held dir [] (goal.RemoveDir name) e = by (rmdir_plan t held dir name) refl
  where
    by : (r : Result Changed Status) → rmdir_plan t held dir name ≡ r → MadeSo t held (record { dir = dir; left = []; goal = goal.RemoveDir name })
    by (Err s) is = refuses s (NoDir (answer.Failed s no_side)) (ap (λ z. with_done (removed_directory (before t.nodes dir) dir) (remove_if t dir z)) is) (ap (λ z. (remove_if t dir z).1) is) refl refl refl
    by (Ok done) is =
        let f = rmdir_entry t held dir name done is in
        let same : rmdir_plan t held dir name ≡ Ok (remove_done f.0) = is ∙ ap (λ (z : Changed). Ok z) f.1 in
        let after : Tree = removed t dir f.0.id in
        enters (remove_done f.0) (gone_entry f.0 f.0.body) (NoDir (answer.Done (both_sides (before t.nodes dir) after.nodes dir))) after (ap (λ z. with_done (removed_directory (before t.nodes dir) dir) (remove_if t dir z)) same) (ap (remove_if t dir) same) refl refl (gone_name f.0 f.0.body f.2) (f.0, refl, rmdir_in t held dir name done is, f.3, f.2) refl refl
made_so t held dir left g e = absurd cc

pub made_walk : (t : Tree) (held : Reservation) (w : Walk) → is_building w ≡ true → MadeSo t held w
made_walk t held w e = made_so t held w.dir w.left w.goal e

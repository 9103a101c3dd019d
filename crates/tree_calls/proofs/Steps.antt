-- What a step of the tree is answered, with a store that failed or didn't.
use Rattle.std.proofs.Common.{◌≡◌, ℕ, ◌+◌, ◌≤◌, List, Option, Some, None, Result, Ok, Err, IfOk, OnErr, Bool, true, false, ◌==◌, refl, sym, ap, ◌∙◌, subst, arith, if◌then◌else◌}
use mathlib.Core.Bool.{true≢false}
use Rattle.lb_base.specs.Causes.{Rose}
use Rattle.xdr_codec.specs.Handle.{handle_bytes}
use Rattle.xdr_codec.specs.declared.answer.Answer.TheVariants as answer
use Rattle.xdr_codec.specs.declared.status.Status.{Status}
use Rattle.xdr_codec.specs.declared.status.Status.TheVariants as status
use Rattle.nfs3_calls.specs.declared.change.Before.{Before}
use Rattle.nfs3_calls.specs.declared.making.NewFile.{NewFile}
use Rattle.nfs3_calls.specs.declared.message.Nfs.{Nfs}
use Rattle.nfs3_calls.specs.declared.message.Nfs.TheVariants as nfs
use Rattle.store.specs.declared.record.Kept.{Kept}
use Rattle.file_tree.specs.Storing.{IsStored}
use Rattle.tree_reading.specs.Tree.{Tree}
use Rattle.tree_reading.specs.Plans.{create_plan, may_mkdir, rmdir_plan}
use Rattle.file_tree.specs.Step.{create, mkdir, rmdir, remove, rename, replace}
use Rattle.tree_reading.specs.declared.call.Changed.{Changed}
use Rattle.tree_reading.specs.declared.call.CreateMode.{CreateMode}
use Rattle.tree_reading.specs.declared.call.Reservation.{Reservation}
use Rattle.tree_reading.specs.declared.call.Spot.{Spot}
use Rattle.file_tree.specs.Stores.{stored, IsFault, IsStep, Keeps}
use Rattle.tree_calls.specs.Calling.{IsCalled, places_of_call}
use Rattle.tree_calls.specs.declared.asked.Committing.{Committing}
use Rattle.tree_calls.specs.declared.asked.Done.{Done}
use Rattle.tree_calls.specs.declared.asked.Outcome.{Outcome}
use Rattle.tree_calls.specs.declared.asked.Outcome.TheVariants.{Answered}
use Rattle.tree_calls.specs.declared.asked.Removing.{Removing}
use Rattle.tree_calls.specs.declared.asked.Renaming.{Renaming}
use Rattle.tree_calls.specs.Changing.{before, no_side, said, created, made_directory, removed_directory, removed, renamed, refused_rename, with_done, creates_under, mkdirs_under, rmdirs_under, renames_under}
use Rattle.tree_calls.specs.Waiting.{committed, with_committed, gives_content_under, remove_again, rename_again, removes_if_under, renames_if_under, creates_in_under, mkdirs_in_under, rmdirs_in_under, renames_in_under, renaming_under, answered, some, told_outcome, changes, calls_under, Takes}
use Rattle.tree_calls.specs.Telling.{id_of, told, TakesTold}

abbrev Step : Type 0
Step = Tree × Result Changed Status

-- ---- a store's count of faults

pub no_less : (n : ℕ) → n ≤ n
no_less n = omega (arith)

-- a count that rose from one that was no less rose from the first
rises : (old mid new : ℕ) → old ≤ mid → Rose mid new → Rose old new
rises old mid new later rose = omega (arith, later, rose)

fault_rises : (fault : Bool) (old mid new : ℕ) → old ≤ mid → IsFault fault mid new → IsFault fault old new
fault_rises false old mid new later cause = tt
fault_rises true old mid new later cause = rises old mid new later cause

-- no store was asked, or it didn't fail
pub not_asked : {A : Type 0} (old new : ℕ) (f : Bool → Tree × A) (q : Tree × A) → f false ≡ q → IsCalled old new f q
not_asked old new f q e = record { fault = false; cause = tt; is = e }

-- what is made of a call
made_of_call : {A B : Type 0} (old mid new : ℕ) (f : Bool → Tree × A) (g : Tree × A → Tree × B) (q : Tree × A) → old ≤ mid → IsCalled mid new f q → IsCalled old new (λ fault. g (f fault)) (g q)
made_of_call old mid new f g q later call = record {
  fault = call.fault;
  cause = fault_rises call.fault old mid new later call.cause;
  is = ap g call.is;
}

-- what is made of a step
made_of_step : {A : Type 0} (old mid new : ℕ) (t : Tree) (p q : Step) (g : Step → Tree × A) (o : Tree × A) → old ≤ mid → IsStep mid new t p q → g q ≡ o → IsCalled old new (λ fault. g (stored fault t p)) o
made_of_step old mid new t p q g o later step e = record {
  fault = step.fault;
  cause = fault_rises step.fault old mid new later step.cause;
  is = ap g step.is ∙ e;
}

-- a call that changes neither
pub kept_same : (old new : Option (List Kept)) (t u : Tree) → new ≡ old → u ≡ t → Keeps old t new u
kept_same None new t u e same = e
kept_same (Some records) new t u e same = (
  records,
  e,
  record {
    stored = λ keeps. subst (λ (z : Tree). IsStored records z) (sym same) keeps;
    counted = omega (arith, ap (λ (z : Tree). z.changes) same);
    same = λ _. refl;
  },
)

-- what was made ready before changes neither
pub kept_ready : (old mid new : Option (List Kept)) (t ready u : Tree) → mid ≡ old → ready ≡ t → Keeps mid ready new u → Keeps old t new u
kept_ready old mid new t ready u same same_tree keeps = subst (λ (z : Tree). Keeps old z new u) same_tree (subst (λ (z : Option (List Kept)). Keeps z ready new u) same keeps)

pub called_ready : {A : Type 0} (old mid new : ℕ) (f : Bool → Tree × A) (q : Tree × A) → old ≤ mid → IsCalled mid new f q → IsCalled old new f q
called_ready old mid new f q later call = made_of_call old mid new f (λ p. p) q later call

-- ---- the tree that a step leaves, and its answer: b is what a directory was before

pub created_step : (old mid new : ℕ) (t u : Tree) (held : Reservation) (dir : ℕ) (name : List ℕ) (m : CreateMode) (b : Option Before) (r : Result Changed Status) (o : Done) → old ≤ mid → b ≡ before t.nodes dir → IsStep mid new t (create t held dir name m) (u, r) → o ≡ created b dir u.nodes r → IsCalled old new (λ fault. creates_under t held fault dir name m) (u, o)
created_step old mid new t u held dir name m b r o later was step is = made_of_step old mid new t (create t held dir name m) (u, r) (with_done (created (before t.nodes dir) dir)) (u, o) later step (ap (λ (z : Done). (u, z)) (sym (is ∙ ap (λ (x : Option Before). created x dir u.nodes r) was)))

pub mkdir_step : (old mid new : ℕ) (t u : Tree) (held : Reservation) (dir : ℕ) (name : List ℕ) (b : Option Before) (r : Result Changed Status) (o : Done) → old ≤ mid → b ≡ before t.nodes dir → IsStep mid new t (mkdir t held dir name) (u, r) → o ≡ made_directory b dir u.nodes r → IsCalled old new (λ fault. mkdirs_under t held fault dir name) (u, o)
mkdir_step old mid new t u held dir name b r o later was step is = made_of_step old mid new t (mkdir t held dir name) (u, r) (with_done (made_directory (before t.nodes dir) dir)) (u, o) later step (ap (λ (z : Done). (u, z)) (sym (is ∙ ap (λ (x : Option Before). made_directory x dir u.nodes r) was)))

pub rmdir_step : (old new : ℕ) (t u : Tree) (held : Reservation) (dir : ℕ) (name : List ℕ) (b : Option Before) (r : Result Changed Status) (o : Done) → b ≡ before t.nodes dir → IsStep old new t (rmdir t held dir name) (u, r) → o ≡ removed_directory b dir u.nodes r → IsCalled old new (λ fault. rmdirs_under t held fault dir name) (u, o)
rmdir_step old new t u held dir name b r o was step is = made_of_step old old new t (rmdir t held dir name) (u, r) (with_done (removed_directory (before t.nodes dir) dir)) (u, o) (no_less old) step (ap (λ (z : Done). (u, z)) (sym (is ∙ ap (λ (x : Option Before). removed_directory x dir u.nodes r) was)))

pub removed_step : (old new : ℕ) (t u : Tree) (held : Reservation) (s : Spot) (b : Option Before) (r : Result Changed Status) (o : Done) → b ≡ before t.nodes s.dir → IsStep old new t (remove t held s.dir s.name) (u, r) → o ≡ removed b s.dir u.nodes r → IsCalled old new (λ fault. removes_if_under t held fault s (Ok tt)) (u, o)
removed_step old new t u held s b r o was step is = made_of_step old old new t (remove t held s.dir s.name) (u, r) (with_done (removed (before t.nodes s.dir) s.dir)) (u, o) (no_less old) step (ap (λ (z : Done). (u, z)) (sym (is ∙ ap (λ (x : Option Before). removed x s.dir u.nodes r) was)))

pub renamed_step : (old new : ℕ) (t u : Tree) (held : Reservation) (dir : ℕ) (name : List ℕ) (to : ℕ) (to_name : List ℕ) (a b : Option Before) (r : Result Changed Status) (o : Done) → a ≡ before t.nodes dir → b ≡ before t.nodes to → IsStep old new t (rename t held dir name to to_name) (u, r) → o ≡ renamed a b dir to u.nodes r → IsCalled old new (λ fault. renames_under t held fault dir name to to_name) (u, o)
renamed_step old new t u held dir name to to_name a b r o was was_to step is = made_of_step old old new t (rename t held dir name to to_name) (u, r) (with_done (renamed (before t.nodes dir) (before t.nodes to) dir to)) (u, o) (no_less old) step (ap (λ (z : Done). (u, z)) (sym (is ∙ ap (λ (x : Option Before). renamed x b dir to u.nodes r) was ∙ ap (λ (x : Option Before). renamed (before t.nodes dir) x dir to u.nodes r) was_to)))

pub committed_step : (old new : ℕ) (t u : Tree) (held : Reservation) (file : ℕ) (content : List ℕ) (term : ℕ) (r : Result Changed Status) (o : Committing) → IsStep old new t (replace t held file content) (u, r) → o ≡ committed term r → IsCalled old new (λ fault. gives_content_under t held fault file content term) (u, o)
committed_step old new t u held file content term r o step is = made_of_step old old new t (replace t held file content) (u, r) (with_committed term) (u, o) (no_less old) step (ap (λ (z : Committing). (u, z)) (sym is))

-- ---- CREATE, MKDIR and RMDIR, where no store is asked

create_errs : (t : Tree) (held : Reservation) (dir : ℕ) (name : List ℕ) (m : CreateMode) (s : Status) → create_plan t held dir name m ≡ Err s → creates_under t held false dir name m ≡ (t, said (nfs.CreateAnswer (answer.Failed s no_side)))
create_errs t held dir name m s e = rw e refl

create_finds : (t : Tree) (held : Reservation) (dir : ℕ) (name : List ℕ) (m : CreateMode) (c : Changed) → create_plan t held dir name m ≡ Ok (Some c) → creates_under t held false dir name m ≡ (t, created (before t.nodes dir) dir t.nodes (Ok c))
create_finds t held dir name m c e = rw e refl

mkdir_errs : (t : Tree) (held : Reservation) (dir : ℕ) (name : List ℕ) (s : Status) → may_mkdir t held dir name ≡ Err s → mkdirs_under t held false dir name ≡ (t, said (nfs.MkDirAnswer (answer.Failed s no_side)))
mkdir_errs t held dir name s e = rw e refl

rmdir_errs : (t : Tree) (held : Reservation) (dir : ℕ) (name : List ℕ) (s : Status) → rmdir_plan t held dir name ≡ Err s → rmdirs_under t held false dir name ≡ (t, said (nfs.RmDirAnswer (answer.Failed s no_side)))
rmdir_errs t held dir name s e = rw e refl

pub create_refused : (old new : ℕ) (t : Tree) (held : Reservation) (dir : ℕ) (name : List ℕ) (m : CreateMode) (s : Status) → create_plan t held dir name m ≡ Err s → IsCalled old new (λ fault. creates_under t held fault dir name m) (t, said (nfs.CreateAnswer (answer.Failed s no_side)))
create_refused old new t held dir name m s e = not_asked old new (λ fault. creates_under t held fault dir name m) _ (create_errs t held dir name m s e)

pub create_there : (old new : ℕ) (t : Tree) (held : Reservation) (dir : ℕ) (name : List ℕ) (m : CreateMode) (c : Changed) (o : Done) → create_plan t held dir name m ≡ Ok (Some c) → o ≡ created (before t.nodes dir) dir t.nodes (Ok c) → IsCalled old new (λ fault. creates_under t held fault dir name m) (t, o)
create_there old new t held dir name m c o e is = not_asked old new (λ fault. creates_under t held fault dir name m) (t, o) (create_finds t held dir name m c e ∙ ap (λ (z : Done). (t, z)) (sym is))

pub mkdir_refused : (old new : ℕ) (t : Tree) (held : Reservation) (dir : ℕ) (name : List ℕ) (s : Status) → may_mkdir t held dir name ≡ Err s → IsCalled old new (λ fault. mkdirs_under t held fault dir name) (t, said (nfs.MkDirAnswer (answer.Failed s no_side)))
mkdir_refused old new t held dir name s e = not_asked old new (λ fault. mkdirs_under t held fault dir name) _ (mkdir_errs t held dir name s e)

pub rmdir_refused : (old new : ℕ) (t : Tree) (held : Reservation) (dir : ℕ) (name : List ℕ) (s : Status) → rmdir_plan t held dir name ≡ Err s → IsCalled old new (λ fault. rmdirs_under t held fault dir name) (t, said (nfs.RmDirAnswer (answer.Failed s no_side)))
rmdir_refused old new t held dir name s e = not_asked old new (λ fault. rmdirs_under t held fault dir name) _ (rmdir_errs t held dir name s e)

-- ---- CREATE and MKDIR, where what they need was made ready before: the tree is the same, and the name a copy

pub file_made : (old mid new : ℕ) (t ready u : Tree) (held : Reservation) (dir : ℕ) (name copy : List ℕ) (m : CreateMode) (b : Option Before) (r : Result Changed Status) (o : Done) → old ≤ mid → ready ≡ t → copy ≡ name → b ≡ before ready.nodes dir → IsStep mid new ready (create ready held dir copy m) (u, r) → o ≡ created b dir u.nodes r → IsCalled old new (λ fault. creates_under t held fault dir name m) (u, o)
file_made old mid new t ready u held dir name copy m b r o later same same_name was step is = subst (λ (z : Tree). IsCalled old new (λ fault. creates_under z held fault dir name m) (u, o)) same (subst (λ (z : List ℕ). IsCalled old new (λ fault. creates_under ready held fault dir z m) (u, o)) same_name (created_step old mid new ready u held dir copy m b r o later was step is))

pub directory_made : (old mid new : ℕ) (t ready u : Tree) (held : Reservation) (dir : ℕ) (name copy : List ℕ) (b : Option Before) (r : Result Changed Status) (o : Done) → old ≤ mid → ready ≡ t → copy ≡ name → b ≡ before ready.nodes dir → IsStep mid new ready (mkdir ready held dir copy) (u, r) → o ≡ made_directory b dir u.nodes r → IsCalled old new (λ fault. mkdirs_under t held fault dir name) (u, o)
directory_made old mid new t ready u held dir name copy b r o later same same_name was step is = subst (λ (z : Tree). IsCalled old new (λ fault. mkdirs_under z held fault dir name) (u, o)) same (subst (λ (z : List ℕ). IsCalled old new (λ fault. mkdirs_under ready held fault dir z) (u, o)) same_name (mkdir_step old mid new ready u held dir copy b r o later was step is))

-- what is true of what a step did is true with a store too
abbrev pick : Bool → Tree → Tree → Changed → Step
pick b t u c = if b then (u, Ok c) else (t, Err status.Io)

picked : (Q : Changed → Type 0) (b : Bool) (t u : Tree) (c : Changed) → Q c → IfOk (pick b t u c).1 Q
picked Q true t u c is = is
picked Q false t u c is = tt

of_stored : (Q : Changed → Type 0) (fault : Bool) (t : Tree) (p : Step) → IfOk p.1 Q → IfOk (stored fault t p).1 Q
of_stored Q false t p is = is
of_stored Q true t (u, Ok c) is = picked Q (u.changes == t.changes) t u c is
of_stored Q true t (u, Err s) is = tt

of_step : (Q : Changed → Type 0) (mid new : ℕ) (t u : Tree) (p : Step) (r : Result Changed Status) → IsStep mid new t p (u, r) → IfOk p.1 Q → IfOk r Q
of_step Q mid new t u p r step is = subst (λ (z : Step). IfOk z.1 Q) step.is (of_stored Q step.fault t p is)

-- a node that is made gets the next id
pub file_id : (mid new : ℕ) (t ready u : Tree) (held : Reservation) (dir : ℕ) (name copy : List ℕ) (m : CreateMode) (r : Result Changed Status) (handle : List ℕ) → create_plan t held dir name m ≡ Ok None → ready ≡ t → copy ≡ name → IsStep mid new ready (create ready held dir copy m) (u, r) → handle ≡ handle_bytes t.next → IfOk r (λ c. handle ≡ handle_bytes c.id)
file_id mid new t ready u held dir name copy m r handle plan same same_name step is =
    let at : IsStep mid new t (create t held dir name m) (u, r) = subst (λ (z : Tree). IsStep mid new z (create z held dir name m) (u, r)) same (subst (λ (z : List ℕ). IsStep mid new ready (create ready held dir z m) (u, r)) same_name step) in
    of_step (λ c. handle ≡ handle_bytes c.id) mid new t u (create t held dir name m) r at (file_id_of t held dir name m handle plan is)
  where
    file_id_of : (t : Tree) (held : Reservation) (dir : ℕ) (name : List ℕ) (m : CreateMode) (handle : List ℕ) → create_plan t held dir name m ≡ Ok None → handle ≡ handle_bytes t.next → IfOk (create t held dir name m).1 (λ c. handle ≡ handle_bytes c.id)
    file_id_of t held dir name m handle plan is = rw plan is

pub directory_id : (mid new : ℕ) (t ready u : Tree) (held : Reservation) (dir : ℕ) (name copy : List ℕ) (r : Result Changed Status) (handle : List ℕ) → may_mkdir t held dir name ≡ Ok tt → ready ≡ t → copy ≡ name → IsStep mid new ready (mkdir ready held dir copy) (u, r) → handle ≡ handle_bytes t.next → IfOk r (λ c. handle ≡ handle_bytes c.id)
directory_id mid new t ready u held dir name copy r handle plan same same_name step is =
    let at : IsStep mid new t (mkdir t held dir name) (u, r) = subst (λ (z : Tree). IsStep mid new z (mkdir z held dir name) (u, r)) same (subst (λ (z : List ℕ). IsStep mid new ready (mkdir ready held dir z) (u, r)) same_name step) in
    of_step (λ c. handle ≡ handle_bytes c.id) mid new t u (mkdir t held dir name) r at (directory_id_of t held dir name handle plan is)
  where
    directory_id_of : (t : Tree) (held : Reservation) (dir : ℕ) (name : List ℕ) (handle : List ℕ) → may_mkdir t held dir name ≡ Ok tt → handle ≡ handle_bytes t.next → IfOk (mkdir t held dir name).1 (λ c. handle ≡ handle_bytes c.id)
    directory_id_of t held dir name handle plan is = rw plan is

-- ---- what waited

pub remove_again_refused : (old new : ℕ) (t : Tree) (held : Reservation) (r : Removing) (s : Status) → remove_again t.nodes r ≡ Err s → IsCalled old new (λ fault. removes_if_under t held fault r.spot (remove_again t.nodes r)) (t, said (nfs.RemoveAnswer (answer.Failed s no_side)))
remove_again_refused old new t held r s e = not_asked old new (λ fault. removes_if_under t held fault r.spot (remove_again t.nodes r)) _ (ap (removes_if_under t held false r.spot) e)

pub remove_checked : (old new : ℕ) (t u : Tree) (held : Reservation) (r : Removing) (z : Unit) (o : Done) → remove_again t.nodes r ≡ Ok z → IsCalled old new (λ fault. removes_if_under t held fault r.spot (Ok tt)) (u, o) → IsCalled old new (λ fault. removes_if_under t held fault r.spot (remove_again t.nodes r)) (u, o)
remove_checked old new t u held r z o e call = subst (λ (c : Result Unit Status). IsCalled old new (λ fault. removes_if_under t held fault r.spot c) (u, o)) (sym e) call

pub rename_again_refused : (old new : ℕ) (t : Tree) (held : Reservation) (r : Renaming) (s : Status) → rename_again t.nodes r ≡ Err s → IsCalled old new (λ fault. renames_if_under t held fault r.from r.to (rename_again t.nodes r)) (t, refused_rename s)
rename_again_refused old new t held r s e = not_asked old new (λ fault. renames_if_under t held fault r.from r.to (rename_again t.nodes r)) _ (ap (renames_if_under t held false r.from r.to) e)

pub rename_checked : (old new : ℕ) (t u : Tree) (held : Reservation) (r : Renaming) (z : Unit) (o : Done) → rename_again t.nodes r ≡ Ok z → IsCalled old new (λ fault. renames_under t held fault r.from.dir r.from.name r.to.dir r.to.name) (u, o) → IsCalled old new (λ fault. renames_if_under t held fault r.from r.to (rename_again t.nodes r)) (u, o)
rename_checked old new t u held r z o e call = subst (λ (c : Result Unit Status). IsCalled old new (λ fault. renames_if_under t held fault r.from r.to c) (u, o)) (sym e) call

-- ---- handles of no form

pub create_misnamed : (old new : ℕ) (t : Tree) (held : Reservation) (f : NewFile) (s : Status) → id_of f.place.dir ≡ Err s → IsCalled old new (λ fault. creates_in_under t held fault f (id_of f.place.dir)) (t, said (nfs.CreateAnswer (answer.Failed s no_side)))
create_misnamed old new t held f s e = not_asked old new (λ fault. creates_in_under t held fault f (id_of f.place.dir)) _ (ap (creates_in_under t held false f) e)

pub mkdir_misnamed : (old new : ℕ) (t : Tree) (held : Reservation) (name dir : List ℕ) (s : Status) → id_of dir ≡ Err s → IsCalled old new (λ fault. mkdirs_in_under t held fault name (id_of dir)) (t, said (nfs.MkDirAnswer (answer.Failed s no_side)))
mkdir_misnamed old new t held name dir s e = not_asked old new (λ fault. mkdirs_in_under t held fault name (id_of dir)) _ (ap (mkdirs_in_under t held false name) e)

pub rmdir_misnamed : (old new : ℕ) (t : Tree) (held : Reservation) (name dir : List ℕ) (s : Status) → id_of dir ≡ Err s → IsCalled old new (λ fault. rmdirs_in_under t held fault name (id_of dir)) (t, said (nfs.RmDirAnswer (answer.Failed s no_side)))
rmdir_misnamed old new t held name dir s e = not_asked old new (λ fault. rmdirs_in_under t held fault name (id_of dir)) _ (ap (rmdirs_in_under t held false name) e)

from_misnamed : (t : Tree) (held : Reservation) (busy : Bool) (name to_name : List ℕ) (dir to : Result ℕ Status) (s : Status) → dir ≡ Err s → renames_in_under t held busy false name to_name dir to ≡ (t, Answered (refused_rename s))
from_misnamed t held busy name to_name dir to s e = ap (λ (z : Result ℕ Status). renames_in_under t held busy false name to_name z to) e

to_misnamed : (t : Tree) (held : Reservation) (busy : Bool) (name to_name : List ℕ) (dir to : Result ℕ Status) (id : ℕ) (s : Status) → dir ≡ Ok id → to ≡ Err s → renames_in_under t held busy false name to_name dir to ≡ (t, Answered (refused_rename s))
to_misnamed t held busy name to_name dir to id s there e = ap (λ (z : Result ℕ Status). renames_in_under t held busy false name to_name z to) there ∙ ap (renames_in_under t held busy false name to_name (Ok id)) e

pub rename_misnamed : (old new : ℕ) (t : Tree) (held : Reservation) (busy : Bool) (name to_name dir to : List ℕ) (s : Status) → id_of dir ≡ Err s → IsCalled old new (λ fault. renames_in_under t held busy fault name to_name (id_of dir) (id_of to)) (t, Answered (refused_rename s))
rename_misnamed old new t held busy name to_name dir to s e = not_asked old new (λ fault. renames_in_under t held busy fault name to_name (id_of dir) (id_of to)) _ (from_misnamed t held busy name to_name (id_of dir) (id_of to) s e)

pub rename_to_misnamed : (old new : ℕ) (t : Tree) (held : Reservation) (busy : Bool) (name to_name dir to : List ℕ) (id : ℕ) (s : Status) → id_of dir ≡ Ok id → id_of to ≡ Err s → IsCalled old new (λ fault. renames_in_under t held busy fault name to_name (id_of dir) (id_of to)) (t, Answered (refused_rename s))
rename_to_misnamed old new t held busy name to_name dir to id s there e = not_asked old new (λ fault. renames_in_under t held busy fault name to_name (id_of dir) (id_of to)) _ (to_misnamed t held busy name to_name (id_of dir) (id_of to) id s there e)

-- ---- outcomes

pub renamed_now : (old mid new : ℕ) (t u : Tree) (held : Reservation) (dir : ℕ) (name : List ℕ) (to : ℕ) (to_name copy : List ℕ) (comes : Result (Option (ℕ × ℕ)) Status) (d : Done) → old ≤ mid → comes ≡ Ok None → copy ≡ to_name → IsCalled mid new (λ fault. renames_under t held fault dir name to copy) (u, d) → IsCalled old new (λ fault. renaming_under t held fault dir name to to_name comes) (u, Answered d)
renamed_now old mid new t u held dir name to to_name copy comes d later now same call =
    subst (λ (z : Result (Option (ℕ × ℕ)) Status). IsCalled old new (λ fault. renaming_under t held fault dir name to to_name z) (u, Answered d)) (sym now) (subst (λ (z : List ℕ). IsCalled old new (λ fault. answered (renames_under t held fault dir name to z)) (u, Answered d)) same (made_of_call old mid new (λ fault. renames_under t held fault dir name to copy) answered (u, d) later call))

-- where it is refused, or waits, no store is asked
pub renaming_refused : (old new : ℕ) (t : Tree) (held : Reservation) (dir : ℕ) (name : List ℕ) (to : ℕ) (to_name : List ℕ) (comes : Result (Option (ℕ × ℕ)) Status) (s : Status) → comes ≡ Err s → IsCalled old new (λ fault. renaming_under t held fault dir name to to_name comes) (t, Answered (refused_rename s))
renaming_refused old new t held dir name to to_name comes s e = not_asked old new (λ fault. renaming_under t held fault dir name to to_name comes) _ (ap (renaming_under t held false dir name to to_name) e)

pub renaming_waits : (old new : ℕ) (t : Tree) (held : Reservation) (dir : ℕ) (name : List ℕ) (to : ℕ) (to_name : List ℕ) (comes : Result (Option (ℕ × ℕ)) Status) (p : ℕ × ℕ) (o : Outcome) → comes ≡ Ok (Some p) → (t, o) ≡ renaming_under t held false dir name to to_name (Ok (Some p)) → IsCalled old new (λ fault. renaming_under t held fault dir name to to_name comes) (t, o)
renaming_waits old new t held dir name to to_name comes p o e is = not_asked old new (λ fault. renaming_under t held fault dir name to to_name comes) (t, o) (ap (renaming_under t held false dir name to to_name) e ∙ sym is)

pub some_answered : (old new : ℕ) (f : Bool → Tree × Done) (u : Tree) (d : Done) → IsCalled old new f (u, d) → IsCalled old new (λ fault. some (answered (f fault))) (u, Some (Answered d))
some_answered old new f u d call = made_of_call old old new f (λ p. some (answered p)) (u, d) (no_less old) call

pub some_outcome : (old new : ℕ) (f : Bool → Tree × Outcome) (u : Tree) (o : Outcome) → IsCalled old new f (u, o) → IsCalled old new (λ fault. some (f fault)) (u, Some o)
some_outcome old new f u o call = made_of_call old old new f some (u, o) (no_less old) call

-- ---- the calls that change nothing

calls_told : (t : Tree) (held : Reservation) (busy fault : Bool) (m : Nfs) → changes m ≡ false → calls_under t held busy fault m ≡ (t, told_outcome (told t.nodes m))
calls_told t held busy fault (nfs.Create f) e = absurd (true≢false e)
calls_told t held busy fault (nfs.MkDir d) e = absurd (true≢false e)
calls_told t held busy fault (nfs.Remove p) e = absurd (true≢false e)
calls_told t held busy fault (nfs.RmDir p) e = absurd (true≢false e)
calls_told t held busy fault (nfs.Rename r) e = absurd (true≢false e)
calls_told t held busy fault m e = refl

pub told_calls : {E : Type 0} (t : Tree) (held : Reservation) (busy fault : Bool) (m : Nfs) (r : Result (Option Outcome) E) → changes m ≡ false → IfOk r (λ o. o ≡ told_outcome (told t.nodes m)) → IfOk r (λ o. calls_under t held busy fault m ≡ (t, o))
told_calls t held busy fault m (Ok o) e is = subst (λ (z : Option Outcome). calls_under t held busy fault m ≡ (t, z)) (sym is) (calls_told t held busy fault m e)
told_calls t held busy fault m (Err x) e is = tt

pub told_called : {E : Type 0} (old new : ℕ) (t : Tree) (held : Reservation) (busy : Bool) (m : Nfs) (r : Result (Option Outcome) E) → IfOk r (λ o. calls_under t held busy false m ≡ (t, o)) → IfOk r (λ o. IsCalled old new (λ fault. calls_under t held busy fault m) (t, o))
told_called old new t held busy m (Ok o) is = not_asked old new (λ fault. calls_under t held busy fault m) (t, o) is
told_called old new t held busy m (Err x) is = tt

-- what is told waits for nothing
told_places : (o : Option Nfs) → places_of_call (told_outcome o) ≡ 0
told_places None = refl
told_places (Some m) = refl

pub told_waits : {E : Type 0} (o : Option Nfs) (r : Result (Option Outcome) E) → IfOk r (λ a. a ≡ told_outcome o) → IfOk r (λ a. places_of_call a ≡ 0)
told_waits o (Ok a) is = ap places_of_call is ∙ told_places o
told_waits o (Err x) is = tt

pub no_places : {E : Type 0} (entries spare : ℕ) (r : Result (Option Outcome) E) → IfOk r (λ a. places_of_call a ≡ 0) → IfOk r (λ a. entries ≤ spare → entries + places_of_call a ≤ spare)
no_places entries spare (Ok a) none = λ fits. let kept : entries + 0 ≤ spare = omega (arith, fits) in subst (λ (z : ℕ). entries + z ≤ spare) (sym none) kept
no_places entries spare (Err x) none = tt

takes_told : (t : Tree) (held : Reservation) (busy : Bool) (m : Nfs) → changes m ≡ false → TakesTold t.nodes m → Takes t held busy m
takes_told t held busy (nfs.Create f) e takes = absurd (true≢false e)
takes_told t held busy (nfs.MkDir d) e takes = absurd (true≢false e)
takes_told t held busy (nfs.Remove p) e takes = absurd (true≢false e)
takes_told t held busy (nfs.RmDir p) e takes = absurd (true≢false e)
takes_told t held busy (nfs.Rename r) e takes = absurd (true≢false e)
takes_told t held busy m e takes = takes

pub told_takes : {A E : Type 0} (t : Tree) (held : Reservation) (busy : Bool) (m : Nfs) (r : Result A E) → changes m ≡ false → OnErr r (TakesTold t.nodes m) → OnErr r (Takes t held busy m)
told_takes t held busy m (Ok o) e takes = tt
told_takes t held busy m (Err x) e takes = takes_told t held busy m e takes

pub unchanged : {A E : Type 0} (t : Tree) (r : Result A E) → OnErr r (t ≡ t)
unchanged t (Ok o) = tt
unchanged t (Err x) = refl

-- what `rename` goes by
pub ruleset by_rename = (renamed_now, renaming_refused, renaming_waits, kept_ready, kept_same)

-- what `rename` goes by
pub ruleset by_rename_calls = (rename_misnamed, rename_to_misnamed, kept_same)

-- what `unchanging` goes by
pub ruleset by_unchanging = (told_calls, told_takes, told_waits)

-- what `make_file` goes by
pub ruleset by_make_file = (file_made, file_id, kept_ready, kept_same)

-- what `create` goes by
pub ruleset by_create = (create_misnamed, create_refused, create_there, kept_same)

-- what `make_directory` goes by
pub ruleset by_make_directory = (directory_made, directory_id, kept_ready, kept_same)

-- what `mkdir` goes by
pub ruleset by_mkdir = (mkdir_misnamed, mkdir_refused, kept_same)

-- what `rmdir` goes by
pub ruleset by_rmdir = (rmdir_misnamed, rmdir_refused, called_ready, kept_ready, kept_same)

-- what `settle_remove` goes by
pub ruleset by_settle_remove = (remove_again_refused, remove_checked, kept_same)

-- what `settle_rename` goes by
pub ruleset by_settle_rename = (rename_again_refused, rename_checked, kept_same)

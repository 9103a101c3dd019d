-- What the tree plans to do for a call has names that are such, in directories that are there: whoever asks.
use Rattle.std.proofs.Common.{◌≡◌, ℕ, ◌<◌, ◌≤◌, List, [], ◌∷◌, length, Option, Some, None, Result, Ok, Err, Bool, true, false, nat_lt, refl, sym, ap, ◌∙◌, subst, arith, if◌then◌else◌}
use Rattle.std.proofs.lemmas.Bool.Decides.{nat_tests}
use Rattle.std.specs.Option.{option_map}
use Rattle.xdr_codec.specs.declared.status.Status.{Status}
use Rattle.xdr_codec.specs.declared.status.Status.TheVariants as status
use Rattle.tree_nodes.specs.declared.node.Node.{Node}
use Rattle.tree_nodes.specs.Nodes.{named}
use Rattle.tree_reading.specs.Chain.{◌>>=◌}
use Rattle.tree_reading.specs.Names.{is_dot, is_dot_dot, is_misspelt, spelt, undotted}
use Rattle.tree_reading.specs.Reading.{stands_for}
use Rattle.tree_reading.specs.Tree.{Tree, directory_of, directory_or, file_or, node_of, or_taken, or_no_entry}
use Rattle.tree_reading.specs.Plans.{create_mode, create_plan, may_create, may_mkdir, may_remove, remove_plan, remove_done, may_rmdir, rmdir_plan, rename_plan, planned_found, or_not_empty, spared, nothing}
use Rattle.tree_reading.specs.declared.call.Changed.{Changed}
use Rattle.tree_reading.specs.declared.call.CreateMode.{CreateMode}
use Rattle.tree_reading.specs.declared.call.CreateMode.TheVariants as mode
use Rattle.tree_reading.specs.declared.call.Reservation.{Reservation}
use Rattle.tree_reading.specs.declared.call.Planned.{Planned}
use Rattle.tree_calls.specs.Changing.{said, renames_under, refused_rename}
use Rattle.tree_calls.specs.Telling.{id_of}
use Rattle.tree_calls.specs.Waiting.{removing, asks_remove, remove_comes, renaming, asks_rename, rename_comes}
use Rattle.tree_calls.specs.declared.asked.Asked.{Asked}
use Rattle.tree_calls.specs.declared.asked.Done.{Done as Finished}
use Rattle.tree_calls.specs.declared.asked.Outcome.{Outcome}
use Rattle.tree_calls.specs.declared.asked.Outcome.TheVariants.{Answered, Waits}
use Rattle.file_tree.specs.Step.{created, mkdir_if, remove_if, rename, rename_if}
use Rattle.path_calls.specs.declared.walk.Goal.{Goal}
use Rattle.path_calls.specs.declared.walk.Goal.TheVariants as goal
use Rattle.server_law.proofs.lemmas.Trees.{IsBounded, given, below_next}
use Rattle.server_law.proofs.lemmas.TreeCalls.{bind_ok, HasDirectory, remove_in, rename_in}
use Rattle.kept_promise.proofs.Makings.{step_by}
use Rattle.kept_promise.proofs.MakingTrees.{next_small}
use Rattle.kept_promise.proofs.PathNames.{IsName, IsGoalNamed, builds_at}
use Rattle.kept_promise.proofs.TreeWalks.{IsUndotted}

-- ---- a name

spelt_is : (name : List ℕ) (u : Unit) → spelt name ≡ Ok u → (length name ≤ 255) × (is_misspelt name ≡ false)
spelt_is name u e = by (nat_lt 255 (length name)) (is_misspelt name) refl e
  where
    by : (a b : Bool) → nat_lt 255 (length name) ≡ a → (let r : Result Unit Status = if a then Err status.NameTooLong else (if b then Err status.Acces else Ok tt) in r ≡ Ok u) → (length name ≤ 255) × (b ≡ false)
    by true b is e = absurd cc
    by false true is e = absurd cc
    by false false is e = (grind (arith, nat_tests, is), refl)

undotted_is : (dot dot_dot : Status) (name : List ℕ) (u : Unit) → undotted dot dot_dot name ≡ Ok u → IsUndotted name
undotted_is dot dot_dot name u e = by (is_dot name) (is_dot_dot name) e
  where
    by : (a b : Bool) → (let r : Result Unit Status = if a then Err dot else (if b then Err dot_dot else Ok tt) in r ≡ Ok u) → (a ≡ false) × (b ≡ false)
    by true b e = absurd cc
    by false true e = absurd cc
    by false false e = (refl, refl)

-- the front of each plan
name_in : {A : Type 0} (name : List ℕ) (dot dot_dot : Status) (rest : Result A Status) (y : A) → (spelt name >>= λ _. undotted dot dot_dot name >>= λ _. rest) ≡ Ok y → IsName name × (rest ≡ Ok y)
name_in name dot dot_dot rest y e =
    let a = bind_ok (spelt name) (λ _. undotted dot dot_dot name >>= λ _. rest) y e in
    let b = bind_ok (undotted dot dot_dot name) (λ _. rest) y a.2 in
    let s = spelt_is name a.0 a.1 in
    ((undotted_is dot dot_dot name b.0 b.1, s.0, s.1), b.2)

-- ---- each plan

create_named : (t : Tree) (held : Reservation) (dir : ℕ) (name : List ℕ) (m : CreateMode) (o : Option Changed) → create_plan t held dir name m ≡ Ok o → IsName name
create_named t held dir name m o e =
    let p = bind_ok (may_create t held dir name m) (λ found. Ok (option_map nothing found)) o e in
    let a = bind_ok (directory_of t.nodes dir) (λ _. spelt name >>= λ _. undotted status.Inval status.Inval name >>= λ _. create_mode t held dir name m) p.0 p.1 in
    (name_in name status.Inval status.Inval (create_mode t held dir name m) p.0 a.2).0

mkdir_named : (t : Tree) (held : Reservation) (dir : ℕ) (name : List ℕ) (u : Unit) → may_mkdir t held dir name ≡ Ok u → IsName name
mkdir_named t held dir name u e =
    let a = bind_ok (directory_of t.nodes dir) (λ _. spelt name >>= λ _. undotted status.Exist status.Exist name >>= λ _. or_taken (named t.nodes dir name) >>= λ _. spared t.changes held 1) u e in
    (name_in name status.Exist status.Exist (or_taken (named t.nodes dir name) >>= λ _. spared t.changes held 1) u a.2).0

rmdir_named : (t : Tree) (held : Reservation) (dir : ℕ) (name : List ℕ) (done : Changed) → rmdir_plan t held dir name ≡ Ok done → IsName name
rmdir_named t held dir name done e =
    let p = bind_ok (may_rmdir t held dir name) (λ n. Ok (remove_done n)) done e in
    let rest : Result Node Status = or_no_entry (named t.nodes dir name) >>= directory_or status.NotDir >>= λ n. or_not_empty t.nodes n >>= λ _. spared t.changes held 1 >>= λ _. Ok n in
    let a = bind_ok (directory_of t.nodes dir) (λ _. spelt name >>= λ _. undotted status.Inval status.Exist name >>= λ _. rest) p.0 p.1 in
    (name_in name status.Inval status.Exist rest p.0 a.2).0

remove_named : (t : Tree) (held : Reservation) (dir : ℕ) (name : List ℕ) (done : Changed) → remove_plan t held dir name ≡ Ok done → IsName name
remove_named t held dir name done e =
    let p = bind_ok (may_remove t held dir name) (λ n. Ok (remove_done n)) done e in
    let rest : Result Node Status = or_no_entry (named t.nodes dir name) >>= file_or status.IsDir >>= λ n. spared t.changes held 1 >>= λ _. Ok n in
    let a = bind_ok (directory_of t.nodes dir) (λ _. spelt name >>= λ _. undotted status.Inval status.Inval name >>= λ _. rest) p.0 p.1 in
    (name_in name status.Inval status.Inval rest p.0 a.2).0

pub rename_named : (t : Tree) (held : Reservation) (dir : ℕ) (name : List ℕ) (to : ℕ) (to_name : List ℕ) (p : Planned) → rename_plan t held dir name to to_name ≡ Ok p → IsName name × IsName to_name
rename_named t held dir name to to_name p e =
    let last : Result Planned Status = or_no_entry (named t.nodes dir name) >>= λ n. planned_found t held n to (named t.nodes to to_name) in
    let second : Result Planned Status = spelt to_name >>= λ _. undotted status.Inval status.Inval to_name >>= λ _. last in
    let first : Result Planned Status = spelt name >>= λ _. undotted status.Inval status.Inval name >>= λ _. second in
    let a = bind_ok (node_of t.nodes dir) (λ d. node_of t.nodes to >>= λ e. directory_or status.NotDir d >>= λ _. directory_or status.NotDir e >>= λ _. first) p e in
    let b = bind_ok (node_of t.nodes to) (λ e. directory_or status.NotDir a.0 >>= λ _. directory_or status.NotDir e >>= λ _. first) p a.2 in
    let c = bind_ok (directory_or status.NotDir a.0) (λ _. directory_or status.NotDir b.0 >>= λ _. first) p b.2 in
    let d = bind_ok (directory_or status.NotDir b.0) (λ _. first) p c.2 in
    let f = name_in name status.Inval status.Inval second p d.2 in
    (f.0, (name_in to_name status.Inval status.Inval last p f.1).0)

-- ---- what was done

err_ok : {A : Type 0} (s : Status) (x : A) → ◌≡◌ {A = Result A Status} (Err s) (Ok x) → ⊥
err_ok s x e = absurd cc

-- a file or directory that is made, or a directory that goes
pub step_named : (t : Tree) (held : Reservation) (dir : ℕ) (g : Goal) (done : Changed) → builds_at [] g ≡ true → (step_by t held dir g).1 ≡ Ok done → IsGoalNamed g
step_named t held dir (goal.Make name) done builds e = by (create_plan t held dir name mode.Guarded) refl
  where
    by : (r : Result (Option Changed) Status) → create_plan t held dir name mode.Guarded ≡ r → IsName name
    by (Err s) is = absurd (err_ok s done (sym (ap (λ (z : Result (Option Changed) Status). (created t dir name z).1) is) ∙ e))
    by (Ok o) is = create_named t held dir name mode.Guarded o is
step_named t held dir (goal.MakeDir name) done builds e = by (may_mkdir t held dir name) refl
  where
    by : (r : Result Unit Status) → may_mkdir t held dir name ≡ r → IsName name
    by (Err s) is = absurd (err_ok s done (sym (ap (λ (z : Result Unit Status). (mkdir_if t dir name z).1) is) ∙ e))
    by (Ok u) is = mkdir_named t held dir name u is
step_named t held dir (goal.RemoveDir name) done builds e = by (rmdir_plan t held dir name) refl
  where
    by : (r : Result Changed Status) → rmdir_plan t held dir name ≡ r → IsName name
    by (Err s) is = absurd (err_ok s done (sym (ap (λ (z : Result Changed Status). (remove_if t dir z).1) is) ∙ e))
    by (Ok c) is = rmdir_named t held dir name c is
step_named t held dir g done builds e = absurd cc

-- a rename
pub renamed_named : (t : Tree) (held : Reservation) (from : ℕ) (name : List ℕ) (to : ℕ) (to_name : List ℕ) (after : Tree) (done : Changed) → rename t held from name to to_name ≡ (after, Ok done) → IsName name × IsName to_name
renamed_named t held from name to to_name after done e = by (rename_plan t held from name to to_name) refl
  where
    by : (r : Result Planned Status) → rename_plan t held from name to to_name ≡ r → IsName name × IsName to_name
    by (Err s) is = absurd (err_ok s done (sym (ap (λ (z : Result Planned Status). (rename_if t from name to to_name z).1) is) ∙ ap (λ (z : Tree × Result Changed Status). z.1) e))
    by (Ok p) is = rename_named t held from name to to_name p is

-- ---- what waits

answered_waits : (d : Finished) (a : Asked) → Answered d ≡ Waits a → ⊥
answered_waits d a e = absurd cc

pub small_directory : (t : Tree) (dir : ℕ) → IsBounded t → HasDirectory t dir → dir < 18446744073709551616
small_directory t dir bounded d = let lt = below_next t dir d.0 (given t bounded) d.1 in let le = next_small t bounded in omega (arith, lt, le)

pub remove_waits_named : (t : Tree) (held : Reservation) (busy : Bool) (dir : ℕ) (name : List ℕ) (a : Asked) → removing dir name (asks_remove t held busy dir name) ≡ Waits a → IsName name × HasDirectory t dir
remove_waits_named t held busy dir name a e = by (remove_plan t held dir name) refl
  where
    by : (r : Result Changed Status) → remove_plan t held dir name ≡ r → IsName name × HasDirectory t dir
    by (Err s) is = absurd (answered_waits _ a (sym (ap (λ (z : Result Changed Status). removing dir name (remove_comes busy z)) is) ∙ e))
    by (Ok c) is = (remove_named t held dir name c is, remove_in t held dir name c is)

pub rename_waits_named : (t : Tree) (held : Reservation) (busy : Bool) (from : ℕ) (name : List ℕ) (to : ℕ) (to_name : List ℕ) (a : Asked) → renaming t held from name to to_name (asks_rename t held busy from name to to_name) ≡ (t, Waits a) → (IsName name × IsName to_name) × (HasDirectory t from × HasDirectory t to)
rename_waits_named t held busy from name to to_name a e = by (rename_plan t held from name to to_name) refl
  where
    by : (r : Result Planned Status) → rename_plan t held from name to to_name ≡ r → (IsName name × IsName to_name) × (HasDirectory t from × HasDirectory t to)
    by (Err s) is = absurd (answered_waits _ a (sym (ap (λ (z : Result Planned Status). (renaming t held from name to to_name (rename_comes busy (stands_for t.nodes to to_name) z)).1) is) ∙ ap (λ (z : Tree × Outcome). z.1) e))
    by (Ok p) is = (rename_named t held from name to to_name p is, rename_in t held from name to to_name p is)

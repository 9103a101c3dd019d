-- The calls that change a tree leave of its files what their entries say.
use Rattle.std.proofs.Common.{◌≡◌, refl, sym, ap, subst, ℕ, List, length, Option, Some, None, Result, Ok, Err, Bool, true, false, ◌==◌, arith, if◌then◌else◌}
use Rattle.std.specs.Option.{option_map}
use Rattle.std.proofs.lemmas.Bool.Decides.{nat_tests}
use Rattle.xdr_codec.specs.declared.status.Status.{Status}
use Rattle.xdr_codec.specs.declared.status.Status.TheVariants as status
use Rattle.tree_nodes.specs.declared.node.Node.{Node}
use Rattle.tree_nodes.specs.Nodes.{named}
use Rattle.tree_reading.specs.Chain.{◌>>=◌}
use Rattle.tree_reading.specs.Names.{spelt, undotted}
use Rattle.tree_reading.specs.Tree.{Tree, node_of, directory_or, or_no_entry}
use Rattle.tree_reading.specs.Plans.{Target, itself, over, nothing, move_done, may_create, create_plan, may_mkdir, remove_plan, rmdir_plan, is_same, or_within, rename_over, rename_found, planned, planned_found, rename_plan, replace_plan, spared, may_replace}
use Rattle.file_tree.specs.Step.{created, create, mkdir_if, mkdir, remove_if, remove, rmdir, shifted, moved, rename_if, rename, replace_if, replace, removed}
use Rattle.tree_reading.specs.declared.call.Changed.{Changed}
use Rattle.tree_reading.specs.declared.call.CreateMode.{CreateMode}
use Rattle.tree_reading.specs.declared.call.Reservation.{Reservation}
use Rattle.tree_reading.specs.declared.call.Planned.{Planned}
use Rattle.tree_reading.specs.declared.call.Planned.TheVariants as planned_as
use Rattle.tree_reading.proofs.lemmas.Admitted.{IsPlannedGone, remove_there, rmdir_there, rename_there}
use Rattle.file_tree.proofs.lemmas.States.{named_id}
use Rattle.server_law.proofs.Facts.{IsTelling, tells_none, tells_file, tells_directory, tells_removed, tells_replaced, tells_moved, tells_over}
use Rattle.server_law.proofs.lemmas.TreeCalls.{bind_ok, ok_is, create_in, mkdir_in, remove_in, rmdir_in, rename_in, replace_in, no_file_in, HasDirectory}
use Rattle.server_law.proofs.lemmas.Trees.{IsGiven}

abbrev pub TellsChange : Tree → ℕ → Tree → Result Changed Status → Type 0
TellsChange t session u (Err s) = IsTelling t session None None u
TellsChange t session u (Ok c) = IsTelling t session c.first c.second u

-- what was only told makes no entry
quiet : (t : Tree) (session : ℕ) (c : Changed) → c.first ≡ None → c.second ≡ None → IsTelling t session c.first c.second t
quiet t session c a b = subst (λ x. IsTelling t session x c.second t) (sym a) (subst (λ x. IsTelling t session None x t) (sym b) (tells_none t session))

-- ---- CREATE and MKDIR

there_quiet : (found : Option Node) (done : Changed) → option_map nothing found ≡ Some done → (done.first ≡ None) × (done.second ≡ None)
there_quiet None done e = absurd cc
there_quiet (Some n) done e = let is : nothing n ≡ done = some_is (nothing n) done e in (ap (λ (c : Changed). c.first) (sym is), ap (λ (c : Changed). c.second) (sym is))
  where
    some_is : (x y : Changed) → Some x ≡ Some y → x ≡ y
    some_is x y e = cc

pub tells_create : (t : Tree) (session : ℕ) (held : Reservation) (dir : ℕ) (name : List ℕ) (m : CreateMode) → IsGiven t → TellsChange t session (create t held dir name m).0 (create t held dir name m).1
tells_create t session held dir name m h = by (create_plan t held dir name m) refl
  where
    by : (r : Result (Option Changed) Status) → create_plan t held dir name m ≡ r → TellsChange t session (created t dir name r).0 (created t dir name r).1
    by (Err s) e = tells_none t session
    by (Ok (Some done)) e =
        let p = bind_ok (may_create t held dir name m) (λ found. Ok (option_map nothing found)) (Some done) e in
        let q = there_quiet p.0 done (ok_is (option_map nothing p.0) (Some done) p.2) in
        quiet t session done q.0 q.1
    by (Ok None) e = let d = create_in t held dir name m None e in tells_file t session dir name d.0 h d.1 d.2

pub tells_mkdir : (t : Tree) (session : ℕ) (held : Reservation) (dir : ℕ) (name : List ℕ) → IsGiven t → TellsChange t session (mkdir t held dir name).0 (mkdir t held dir name).1
tells_mkdir t session held dir name h = by (may_mkdir t held dir name) refl
  where
    by : (r : Result Unit Status) → may_mkdir t held dir name ≡ r → TellsChange t session (mkdir_if t dir name r).0 (mkdir_if t dir name r).1
    by (Err s) e = tells_none t session
    by (Ok u) e = let d = mkdir_in t held dir name u e in tells_directory t session dir name d.0 h d.1 d.2

-- ---- REMOVE and RMDIR

tells_gone : (t : Tree) (session dir : ℕ) (name : List ℕ) (r : Result Changed Status) → IsGiven t → ((done : Changed) → r ≡ Ok done → IsPlannedGone t dir name done × HasDirectory t dir) → TellsChange t session (remove_if t dir r).0 (remove_if t dir r).1
tells_gone t session dir name (Err s) h known = tells_none t session
tells_gone t session dir name (Ok done) h known =
    let k = known done refl in
    let n = k.0.0 in
    subst (λ (c : Changed). IsTelling t session c.first c.second (removed t dir c.id)) (sym k.0.2) (tells_removed t session dir n (named_id t.nodes dir name n h.apart k.0.1) (no_file_in t dir k.1))

pub tells_remove : (t : Tree) (session : ℕ) (held : Reservation) (dir : ℕ) (name : List ℕ) → IsGiven t → TellsChange t session (remove t held dir name).0 (remove t held dir name).1
tells_remove t session held dir name h = tells_gone t session dir name (remove_plan t held dir name) h (λ done e. (remove_there t held dir name done e, remove_in t held dir name done e))

pub tells_rmdir : (t : Tree) (session : ℕ) (held : Reservation) (dir : ℕ) (name : List ℕ) → IsGiven t → TellsChange t session (rmdir t held dir name).0 (rmdir t held dir name).1
tells_rmdir t session held dir name h = tells_gone t session dir name (rmdir_plan t held dir name) h (λ done e. (rmdir_there t held dir name done e, rmdir_in t held dir name done e))

-- ---- RENAME: what its plan is of

-- n is the node that moves, and o what stands under the new name
abbrev IsMove : Node → Option Node → Planned → Type 0
IsMove n o (planned_as.Nothing done) = (done.first ≡ None) × (done.second ≡ None)
IsMove n o (planned_as.Free done) = (o ≡ None) × (done ≡ move_done n None)
IsMove n o (planned_as.Over done) = (m : Node) × (o ≡ Some m) × (done ≡ move_done n (Some m))

over_is : (x y : Option Node) → (let r : Result Target Status = Ok (over x) in r ≡ Ok (over y)) → x ≡ y
over_is x y e = ap (λ (r : Result Target Status). under r) e
  where
    under : Result Target Status → Option Node
    under (Err s) = x
    under (Ok itself) = x
    under (Ok (over o)) = o

over_found : (t : Tree) (held : Reservation) (n : Node) (o x : Option Node) → rename_over t held n o ≡ Ok (over x) → o ≡ x
over_found t held n None x e = over_is None x (bind_ok (spared t.changes held 1) (λ _. Ok (over None)) (over x) e).2
over_found t held n (Some m) x e =
    let p = bind_ok (may_replace t.nodes n m) (λ _. spared t.changes held 2 >>= λ _. Ok (over (Some m))) (over x) e in
    over_is (Some m) x (bind_ok (spared t.changes held 2) (λ _. Ok (over (Some m))) (over x) p.2).2

target_is : (t : Tree) (held : Reservation) (n : Node) (to : ℕ) (o x : Option Node) → rename_found t held n to o ≡ Ok (over x) → o ≡ x
target_is t held n to o x e = by (is_same n o) e
  where
    by : (b : Bool) → (let r : Result Target Status = if b then Ok itself else (or_within t.nodes n to >>= λ _. rename_over t held n o) in r ≡ Ok (over x)) → o ≡ x
    by true e = absurd (no e)
      where
        is_over : Result Target Status → Bool
        is_over (Ok (over y)) = true
        is_over (Ok itself) = false
        is_over (Err s) = false

        no : (let r : Result Target Status = Ok itself in r ≡ Ok (over x)) → ⊥
        no e = let z : false ≡ true = ap (λ (r : Result Target Status). is_over r) e in absurd cc
    by false e = over_found t held n o x (bind_ok (or_within t.nodes n to) (λ _. rename_over t held n o) (over x) e).2

move_of : (t : Tree) (held : Reservation) (n : Node) (to : ℕ) (o : Option Node) (target : Target) → rename_found t held n to o ≡ Ok target → IsMove n o (planned n target)
move_of t held n to o itself e = (refl, refl)
move_of t held n to o (over None) e = (target_is t held n to o None e, refl)
move_of t held n to o (over (Some m)) e = (m, target_is t held n to o (Some m) e, refl)

entry_ok : (o : Option Node) (n : Node) → or_no_entry o ≡ Ok n → o ≡ Some n
entry_ok None n e = absurd cc
entry_ok (Some m) n e = ap Some (ok_is m n e)

move_is : (t : Tree) (held : Reservation) (dir : ℕ) (name : List ℕ) (to : ℕ) (to_name : List ℕ) (p : Planned) → rename_plan t held dir name to to_name ≡ Ok p → (n : Node) × (named t.nodes dir name ≡ Some n) × IsMove n (named t.nodes to to_name) p
move_is t held dir name to to_name p e =
    let rest = λ (n : Node). planned_found t held n to (named t.nodes to to_name) in
    let a = bind_ok (node_of t.nodes dir) (λ d. node_of t.nodes to >>= λ e. directory_or status.NotDir d >>= λ _. directory_or status.NotDir e >>= λ _. spelt name >>= λ _. undotted status.Inval status.Inval name >>= λ _. spelt to_name >>= λ _. undotted status.Inval status.Inval to_name >>= λ _. or_no_entry (named t.nodes dir name) >>= rest) p e in
    let b = bind_ok (node_of t.nodes to) (λ e. directory_or status.NotDir a.0 >>= λ _. directory_or status.NotDir e >>= λ _. spelt name >>= λ _. undotted status.Inval status.Inval name >>= λ _. spelt to_name >>= λ _. undotted status.Inval status.Inval to_name >>= λ _. or_no_entry (named t.nodes dir name) >>= rest) p a.2 in
    let c = bind_ok (directory_or status.NotDir a.0) (λ _. directory_or status.NotDir b.0 >>= λ _. spelt name >>= λ _. undotted status.Inval status.Inval name >>= λ _. spelt to_name >>= λ _. undotted status.Inval status.Inval to_name >>= λ _. or_no_entry (named t.nodes dir name) >>= rest) p b.2 in
    let d = bind_ok (directory_or status.NotDir b.0) (λ _. spelt name >>= λ _. undotted status.Inval status.Inval name >>= λ _. spelt to_name >>= λ _. undotted status.Inval status.Inval to_name >>= λ _. or_no_entry (named t.nodes dir name) >>= rest) p c.2 in
    let f = bind_ok (spelt name) (λ _. undotted status.Inval status.Inval name >>= λ _. spelt to_name >>= λ _. undotted status.Inval status.Inval to_name >>= λ _. or_no_entry (named t.nodes dir name) >>= rest) p d.2 in
    let g = bind_ok (undotted status.Inval status.Inval name) (λ _. spelt to_name >>= λ _. undotted status.Inval status.Inval to_name >>= λ _. or_no_entry (named t.nodes dir name) >>= rest) p f.2 in
    let h = bind_ok (spelt to_name) (λ _. undotted status.Inval status.Inval to_name >>= λ _. or_no_entry (named t.nodes dir name) >>= rest) p g.2 in
    let k = bind_ok (undotted status.Inval status.Inval to_name) (λ _. or_no_entry (named t.nodes dir name) >>= rest) p h.2 in
    let l = bind_ok (or_no_entry (named t.nodes dir name)) rest p k.2 in
    let q = bind_ok (rename_found t held l.0 to (named t.nodes to to_name)) (λ target. Ok (planned l.0 target)) p l.2 in
    (l.0, entry_ok (named t.nodes dir name) l.0 l.1, subst (IsMove l.0 (named t.nodes to to_name)) (ok_is (planned l.0 q.0) p q.2) (move_of t held l.0 to (named t.nodes to to_name) q.0 q.1))

-- ---- RENAME

pub tells_rename : (t : Tree) (session : ℕ) (held : Reservation) (dir : ℕ) (name : List ℕ) (to : ℕ) (to_name : List ℕ) → IsGiven t → TellsChange t session (rename t held dir name to to_name).0 (rename t held dir name to to_name).1
tells_rename t session held dir name to to_name h = by (rename_plan t held dir name to to_name) refl
  where
    free : (n : Node) (done : Changed) → HasDirectory t dir → HasDirectory t to → named t.nodes dir name ≡ Some n → done ≡ move_done n None → IsTelling t session done.first done.second (shifted t dir (named t.nodes dir name) None to to_name)
    free n done d e at is =
        subst (λ (c : Changed). IsTelling t session c.first c.second (shifted t dir (named t.nodes dir name) None to to_name)) (sym is)
        (subst (λ (x : Option Node). IsTelling t session (move_done n None).first (move_done n None).second (shifted t dir x None to to_name)) (sym at) (tells_moved t session dir n None to to_name (named_id t.nodes dir name n h.apart at) (no_file_in t dir d) (no_file_in t to e) refl))

    turned : (k l : Node) → (k.id == l.id) ≡ false → (l.id == k.id) ≡ false
    turned k l e = grind (arith, nat_tests, e)

    gone : (n m : Node) (done : Changed) → HasDirectory t dir → HasDirectory t to → named t.nodes dir name ≡ Some n → named t.nodes to to_name ≡ Some m → (n.id == m.id) ≡ false → done ≡ move_done n (Some m) → IsTelling t session done.first done.second (shifted t dir (named t.nodes dir name) (named t.nodes to to_name) to to_name)
    gone n m done d e at there apart is =
        subst (λ (c : Changed). IsTelling t session c.first c.second (shifted t dir (named t.nodes dir name) (named t.nodes to to_name) to to_name)) (sym is)
        (subst (λ (x : Option Node). IsTelling t session (move_done n (Some m)).first (move_done n (Some m)).second (shifted t dir x (named t.nodes to to_name) to to_name)) (sym at)
        (subst (λ (x : Option Node). IsTelling t session (move_done n (Some m)).first (move_done n (Some m)).second (moved t dir n x to to_name)) (sym there)
        (tells_over t session dir n m to to_name (named_id t.nodes dir name n h.apart at) (named_id t.nodes to to_name m h.apart there) (turned n m apart) (no_file_in t dir d) (no_file_in t to e))))

    by : (r : Result Planned Status) → rename_plan t held dir name to to_name ≡ r → TellsChange t session (rename_if t dir name to to_name r).0 (rename_if t dir name to to_name r).1
    by (Err s) e = tells_none t session
    by (Ok (planned_as.Nothing done)) e = let k = move_is t held dir name to to_name (planned_as.Nothing done) e in quiet t session done k.2.0 k.2.1
    by (Ok (planned_as.Free done)) e =
        let d = rename_in t held dir name to to_name (planned_as.Free done) e in
        let k = move_is t held dir name to to_name (planned_as.Free done) e in
        free k.0 done d.0 d.1 k.1 k.2.1
    by (Ok (planned_as.Over done)) e =
        let d = rename_in t held dir name to to_name (planned_as.Over done) e in
        let k = move_is t held dir name to to_name (planned_as.Over done) e in
        let apart = (rename_there t held dir name to to_name (planned_as.Over done) e).2 in
        gone k.0 k.2.0 done d.0 d.1 k.1 k.2.1 (apart k.0 k.2.0 k.1 k.2.1) k.2.2

-- ---- COMMITTMP

pub tells_replace : (t : Tree) (session : ℕ) (held : Reservation) (id : ℕ) (content : List ℕ) → TellsChange t session (replace t held id content).0 (replace t held id content).1
tells_replace t session held id content = by (replace_plan t held id (length content)) refl
  where
    by : (r : Result ℕ Status) → replace_plan t held id (length content) ≡ r → TellsChange t session (replace_if t id content r).0 (replace_if t id content r).1
    by (Err s) e = tells_none t session
    by (Ok version) e = let g = replace_in t held id (length content) version e in tells_replaced t session id version content g.0 g.1 g.2

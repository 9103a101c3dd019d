-- What calls on names leave of a tree's limits, and of the room that other changes hold: it's theirs afterwards as well. No call but a commit makes
-- the contents more.
use Rattle.std.proofs.Common.{◌≡◌, ℕ, ◌+◌, ◌≤◌, List, [], ◌∷◌, length, Option, Some, None, Result, Ok, Err, Bool, true, false, not, ◌==◌, refl, sym, ap, ◌∙◌, subst, arith, nat_lt, if◌then◌else◌, cond}
use Rattle.std.specs.Option.{option_map}
use Rattle.std.proofs.lemmas.Bool.Decides.{nat_tests}
use Rattle.xdr_codec.specs.declared.status.Status.{Status}
use Rattle.xdr_codec.specs.declared.status.Status.TheVariants as status
use Rattle.tree_nodes.specs.declared.node.Node.{Node}
use Rattle.tree_nodes.specs.Nodes.{with_id, with_node, without, versioned, named}
use Rattle.tree_nodes.proofs.lemmas.Lists.{with_id_without}
use Rattle.tree_reading.specs.Chain.{◌>>=◌}
use Rattle.tree_reading.specs.Names.{spelt, undotted}
use Rattle.tree_reading.specs.declared.call.Changed.{Changed}
use Rattle.tree_reading.specs.declared.call.CreateMode.{CreateMode}
use Rattle.tree_reading.specs.declared.call.CreateMode.TheVariants as mode
use Rattle.tree_reading.specs.declared.call.Reservation.{Reservation}
use Rattle.tree_reading.specs.declared.call.Planned.{Planned}
use Rattle.tree_reading.specs.declared.call.Planned.TheVariants as planned
use Rattle.tree_reading.specs.Tree.{Tree, content_of, contents_size, node_of, directory_of, directory_or, file_or, or_no_entry, or_taken, changes_most}
use Rattle.tree_reading.specs.Plans.{spared, nothing, create_found, create_mode, may_create, create_plan, may_mkdir, or_not_empty, may_remove, may_rmdir, remove_done, remove_plan, rmdir_plan, Target, itself, over, or_within, may_replace, is_same, rename_over, planned as planned_as, planned_found, rename_plan}
use Rattle.file_tree.specs.Step.{made, removed, placed, moved_at, moved, create, created as create_made, new_file, new_directory, mkdir, mkdir_if, remove_if, remove, rmdir, shifted, rename_if, rename}
use Rattle.file_tree.proofs.lemmas.Limits.{counted, limits_with, limits_without, limits_versioned, limits_moved, size_with, size_same, size_without}
use Rattle.file_tree.proofs.lemmas.States.{named_id}
use Rattle.server_law.proofs.lemmas.Trees.{nodes_of, IsBounded}
use Rattle.server_law.proofs.lemmas.TreeCalls.{bind_ok, ok_is}
use Rattle.kept_promise.proofs.TreeTold.{entry_is}

-- there is room for so many changes beside those that are held
abbrev pub IsSpared : Tree → Reservation → ℕ → Type 0
IsSpared t held n = t.changes + held.entries + n ≤ changes_most

-- the limits are kept, the room that is held is there still, and no bytes came
abbrev pub Stays : Reservation → Tree → Tree → Type 0
Stays held t u = IsBounded t → IsSpared t held 0 → IsBounded u × IsSpared u held 0 × (contents_size u.nodes ≤ contents_size t.nodes)

pub stays_same : (held : Reservation) (t : Tree) → Stays held t t
stays_same held t h room = (h, room, omega arith)

pub spared_room : (t : Tree) (held : Reservation) (n : ℕ) (u : Unit) → spared t.changes held n ≡ Ok u → IsSpared t held n
spared_room t held n u e = by (nat_lt changes_most (t.changes + held.entries + n)) refl e
  where
    by : (b : Bool) → nat_lt changes_most (t.changes + held.entries + n) ≡ b → (let r : Result Unit Status = if b then Err status.NoSpc else Ok tt in r ≡ Ok u) → t.changes + held.entries + n ≤ changes_most
    by true is same = absurd cc
    by false is same = grind (arith, nat_tests, is)

-- ---- the trees

versioned_size : (ns : List Node) (id version : ℕ) → contents_size (versioned ns id version) ≡ contents_size ns
versioned_size ns id version = size_same (λ n. record n { version = version }) (λ m. refl) ns id

fewer_size : (ns : List Node) (id : ℕ) → contents_size (without ns id) ≤ contents_size ns
fewer_size [] id = omega arith
fewer_size (m ∷ ms) id = by (not (m.id == id)) (fewer_size ms id)
  where
    by : (b : Bool) → contents_size (without ms id) ≤ contents_size ms → contents_size (cond b (m ∷ without ms id) (without ms id)) ≤ length (content_of m.body) + contents_size ms
    by true le = omega (arith, le)
    by false le = omega (arith, le)

made_stays : (held : Reservation) (t : Tree) (n : Node) → n.id ≡ t.next → n.version ≤ t.changes + 1 → length (content_of n.body) ≡ 0 → IsSpared t held 1 → Stays held t (made t n)
made_stays held t n id version none room h free =
    let raised = counted (nodes_of t) t.changes (t.changes + 1) h (omega arith) (omega (arith, room)) in
    let next = h.next in
    let size = h.size in
    let wide = limits_with (nodes_of t) (t.changes + 1) n 0 raised id (omega (arith, next)) version (omega (arith, none)) (omega (arith, none, size)) in
    let same = versioned_size (with_node t.nodes n) n.parent (t.changes + 1) in
    let more = size_with t.nodes n in
    (limits_versioned (record { nodes = with_node t.nodes n; next = t.next + 1; room = 0 }) (t.changes + 1) n.parent (t.changes + 1) 0 wide (omega arith), omega (arith, room), omega (arith, same, more, none))

removed_stays : (held : Reservation) (t : Tree) (dir id : ℕ) → IsSpared t held 1 → Stays held t (removed t dir id)
removed_stays held t dir id room h free =
    let raised = counted (nodes_of t) t.changes (t.changes + 1) h (omega arith) (omega (arith, room)) in
    let fewer = limits_without (nodes_of t) (t.changes + 1) id 0 raised in
    let same = versioned_size (without t.nodes id) dir (t.changes + 1) in
    let less = fewer_size t.nodes id in
    (limits_versioned (record { nodes = without t.nodes id; next = t.next; room = 0 }) (t.changes + 1) dir (t.changes + 1) 0 fewer (omega arith), omega (arith, room), omega (arith, same, less))

-- a node of these goes under another name
placed_stays : (t : Tree) (nodes : List Node) (changes dir : ℕ) (n : Node) (to : ℕ) (name : List ℕ) → IsBounded (record t { nodes = nodes; changes = changes }) → with_id nodes n.id ≡ Some n → IsBounded (moved_at t dir n nodes to name changes) × (contents_size (moved_at t dir n nodes to name changes).nodes ≡ contents_size nodes)
placed_stays t nodes changes dir n to name h at =
    let other : Node = record n { parent = to; name = name } in
    let set = limits_moved (record { nodes = nodes; next = t.next; room = 0 }) changes n to name 0 h at in
    let one = limits_versioned (record { nodes = placed nodes n to name; next = t.next; room = 0 }) changes dir changes 0 set (omega arith) in
    let two = limits_versioned (record { nodes = versioned (placed nodes n to name) dir changes; next = t.next; room = 0 }) changes to changes 0 one (omega arith) in
    let a = versioned_size (versioned (placed nodes n to name) dir changes) to changes in
    let b = versioned_size (placed nodes n to name) dir changes in
    let c = size_with (without nodes n.id) other in
    let d = size_without nodes n.id n h.apart at in
    (two, omega (arith, a, b, c, d))

-- how many changes a move makes
abbrev pub moves : Option Node → ℕ
moves None = 1
moves (Some m) = 2

moved_stays : (held : Reservation) (t : Tree) (dir : ℕ) (n : Node) (o : Option Node) (to : ℕ) (name : List ℕ) → with_id t.nodes n.id ≡ Some n → ((m : Node) → o ≡ Some m → (m.id == n.id) ≡ false) → IsSpared t held (moves o) → Stays held t (moved t dir n o to name)
moved_stays held t dir n None to name at apart room h free =
    let raised = counted (nodes_of t) t.changes (t.changes + 1) h (omega arith) (omega (arith, room)) in
    let p = placed_stays t t.nodes (t.changes + 1) dir n to name raised at in
    let same = p.1 in
    (p.0, omega (arith, room), omega (arith, same))
moved_stays held t dir n (Some m) to name at apart room h free =
    let raised = counted (nodes_of t) t.changes (t.changes + 2) h (omega arith) (omega (arith, room)) in
    let fewer = limits_without (nodes_of t) (t.changes + 2) m.id 0 raised in
    let still : with_id (without t.nodes m.id) n.id ≡ Some n = with_id_without t.nodes m.id n.id ∙ ap (λ (b : Bool). if b then None else with_id t.nodes n.id) (apart m refl) ∙ at in
    let p = placed_stays t (without t.nodes m.id) (t.changes + 2) dir n to name fewer still in
    let same = p.1 in
    let less = fewer_size t.nodes m.id in
    (p.0, omega (arith, room), omega (arith, same, less))

-- ---- the calls

create_room : (t : Tree) (held : Reservation) (dir : ℕ) (name : List ℕ) (m : CreateMode) → create_plan t held dir name m ≡ Ok None → IsSpared t held 1
create_room t held dir name m e =
    let p = bind_ok (may_create t held dir name m) (λ found. Ok (option_map nothing found)) None e in
    let a = bind_ok (directory_of t.nodes dir) (λ _. spelt name >>= λ _. undotted status.Inval status.Inval name >>= λ _. create_mode t held dir name m) p.0 p.1 in
    let b = bind_ok (spelt name) (λ _. undotted status.Inval status.Inval name >>= λ _. create_mode t held dir name m) p.0 a.2 in
    let c = bind_ok (undotted status.Inval status.Inval name) (λ _. create_mode t held dir name m) p.0 b.2 in
    by m p.0 c.2 (ok_is (option_map nothing p.0) None p.2)
  where
    found : (k : CreateMode) (o : Option Node) (f : Option Node) → create_found t.changes held k o ≡ Ok f → option_map nothing f ≡ None → IsSpared t held 1
    found k None f e none = let s = bind_ok (spared t.changes held 1) (λ _. Ok None) f e in spared_room t held 1 s.0 s.1
    found mode.Unchecked (Some n) f e none =
        let s = bind_ok (file_or status.Exist n) (λ k. Ok (Some k)) f e in
        absurd (there s.0 (ap (option_map nothing) (ok_is (Some s.0) f s.2) ∙ none))
      where
        there : (k : Node) → option_map nothing (Some k) ≡ None → ⊥
        there k e = absurd cc
    found mode.Guarded (Some n) f e none = absurd cc
    found mode.Exclusive (Some n) f e none = absurd cc

    by : (k : CreateMode) (f : Option Node) → create_mode t held dir name k ≡ Ok f → option_map nothing f ≡ None → IsSpared t held 1
    by mode.Exclusive f e none = absurd cc
    by mode.Guarded f e none = found mode.Guarded (named t.nodes dir name) f e none
    by mode.Unchecked f e none = found mode.Unchecked (named t.nodes dir name) f e none

pub create_stays : (t : Tree) (held : Reservation) (dir : ℕ) (name : List ℕ) (m : CreateMode) → Stays held t (create t held dir name m).0
create_stays t held dir name m = by (create_plan t held dir name m) refl
  where
    by : (r : Result (Option Changed) Status) → create_plan t held dir name m ≡ r → Stays held t (create_made t dir name r).0
    by (Err s) e = stays_same held t
    by (Ok (Some done)) e = stays_same held t
    by (Ok None) e = made_stays held t (new_file t dir name) refl (omega arith) refl (create_room t held dir name m e)

mkdir_room : (t : Tree) (held : Reservation) (dir : ℕ) (name : List ℕ) (u : Unit) → may_mkdir t held dir name ≡ Ok u → IsSpared t held 1
mkdir_room t held dir name u e =
    let a = bind_ok (directory_of t.nodes dir) (λ _. spelt name >>= λ _. undotted status.Exist status.Exist name >>= λ _. or_taken (named t.nodes dir name) >>= λ _. spared t.changes held 1) u e in
    let b = bind_ok (spelt name) (λ _. undotted status.Exist status.Exist name >>= λ _. or_taken (named t.nodes dir name) >>= λ _. spared t.changes held 1) u a.2 in
    let c = bind_ok (undotted status.Exist status.Exist name) (λ _. or_taken (named t.nodes dir name) >>= λ _. spared t.changes held 1) u b.2 in
    let d = bind_ok (or_taken (named t.nodes dir name)) (λ _. spared t.changes held 1) u c.2 in
    spared_room t held 1 u d.2

pub mkdir_stays : (t : Tree) (held : Reservation) (dir : ℕ) (name : List ℕ) → Stays held t (mkdir t held dir name).0
mkdir_stays t held dir name = by (may_mkdir t held dir name) refl
  where
    by : (r : Result Unit Status) → may_mkdir t held dir name ≡ r → Stays held t (mkdir_if t dir name r).0
    by (Err s) e = stays_same held t
    by (Ok u) e = made_stays held t (new_directory t dir name) refl (omega arith) refl (mkdir_room t held dir name u e)

pub remove_room : (t : Tree) (held : Reservation) (dir : ℕ) (name : List ℕ) (done : Changed) → remove_plan t held dir name ≡ Ok done → IsSpared t held 1
remove_room t held dir name done e =
    let p = bind_ok (may_remove t held dir name) (λ n. Ok (remove_done n)) done e in
    let a = bind_ok (directory_of t.nodes dir) (λ _. spelt name >>= λ _. undotted status.Inval status.Inval name >>= λ _. or_no_entry (named t.nodes dir name) >>= file_or status.IsDir >>= λ n. spared t.changes held 1 >>= λ _. Ok n) p.0 p.1 in
    let b = bind_ok (spelt name) (λ _. undotted status.Inval status.Inval name >>= λ _. or_no_entry (named t.nodes dir name) >>= file_or status.IsDir >>= λ n. spared t.changes held 1 >>= λ _. Ok n) p.0 a.2 in
    let d = bind_ok (undotted status.Inval status.Inval name) (λ _. or_no_entry (named t.nodes dir name) >>= file_or status.IsDir >>= λ n. spared t.changes held 1 >>= λ _. Ok n) p.0 b.2 in
    let f = bind_ok (or_no_entry (named t.nodes dir name) >>= file_or status.IsDir) (λ n. spared t.changes held 1 >>= λ _. Ok n) p.0 d.2 in
    let h = bind_ok (spared t.changes held 1) (λ _. Ok f.0) p.0 f.2 in
    spared_room t held 1 h.0 h.1

rmdir_room : (t : Tree) (held : Reservation) (dir : ℕ) (name : List ℕ) (done : Changed) → rmdir_plan t held dir name ≡ Ok done → IsSpared t held 1
rmdir_room t held dir name done e =
    let p = bind_ok (may_rmdir t held dir name) (λ n. Ok (remove_done n)) done e in
    let a = bind_ok (directory_of t.nodes dir) (λ _. spelt name >>= λ _. undotted status.Inval status.Exist name >>= λ _. or_no_entry (named t.nodes dir name) >>= directory_or status.NotDir >>= λ n. or_not_empty t.nodes n >>= λ _. spared t.changes held 1 >>= λ _. Ok n) p.0 p.1 in
    let b = bind_ok (spelt name) (λ _. undotted status.Inval status.Exist name >>= λ _. or_no_entry (named t.nodes dir name) >>= directory_or status.NotDir >>= λ n. or_not_empty t.nodes n >>= λ _. spared t.changes held 1 >>= λ _. Ok n) p.0 a.2 in
    let d = bind_ok (undotted status.Inval status.Exist name) (λ _. or_no_entry (named t.nodes dir name) >>= directory_or status.NotDir >>= λ n. or_not_empty t.nodes n >>= λ _. spared t.changes held 1 >>= λ _. Ok n) p.0 b.2 in
    let f = bind_ok (or_no_entry (named t.nodes dir name) >>= directory_or status.NotDir) (λ n. or_not_empty t.nodes n >>= λ _. spared t.changes held 1 >>= λ _. Ok n) p.0 d.2 in
    let h = bind_ok (or_not_empty t.nodes f.0) (λ _. spared t.changes held 1 >>= λ _. Ok f.0) p.0 f.2 in
    let k = bind_ok (spared t.changes held 1) (λ _. Ok f.0) p.0 h.2 in
    spared_room t held 1 k.0 k.1

gone_stays : (t : Tree) (held : Reservation) (dir : ℕ) (r : Result Changed Status) → ((done : Changed) → r ≡ Ok done → IsSpared t held 1) → Stays held t (remove_if t dir r).0
gone_stays t held dir (Err s) room = stays_same held t
gone_stays t held dir (Ok done) room = removed_stays held t dir done.id (room done refl)

pub remove_stays : (t : Tree) (held : Reservation) (dir : ℕ) (name : List ℕ) → Stays held t (remove t held dir name).0
remove_stays t held dir name = gone_stays t held dir (remove_plan t held dir name) (λ done e. remove_room t held dir name done e)

pub rmdir_stays : (t : Tree) (held : Reservation) (dir : ℕ) (name : List ℕ) → Stays held t (rmdir t held dir name).0
rmdir_stays t held dir name = gone_stays t held dir (rmdir_plan t held dir name) (λ done e. rmdir_room t held dir name done e)

-- ---- RENAME

-- what is known of one that is planned, of a node
abbrev pub IsMove : Tree → Reservation → Node → (found : Option Node) → Planned → Type 0
IsMove t held n found (planned.Nothing done) = Unit {0}
IsMove t held n found (planned.Free done) = (found ≡ None) × IsSpared t held 1
IsMove t held n found (planned.Over done) = (m : Node) × (found ≡ Some m) × ((m.id == n.id) ≡ false) × IsSpared t held 2

over_move : (t : Tree) (held : Reservation) (n : Node) (found : Option Node) (p : Planned) → is_same n found ≡ false → (rename_over t held n found >>= λ target. Ok (planned_as n target)) ≡ Ok p → IsMove t held n found p
over_move t held n None p other e =
    let a = bind_ok (rename_over t held n None) (λ target. Ok (planned_as n target)) p e in
    let b = bind_ok (spared t.changes held 1) (λ _. Ok (over None)) a.0 a.1 in
    subst (IsMove t held n None) (ap (planned_as n) (ok_is (over None) a.0 b.2) ∙ ok_is (planned_as n a.0) p a.2) (refl, spared_room t held 1 b.0 b.1)
over_move t held n (Some m) p other e =
    let a = bind_ok (rename_over t held n (Some m)) (λ target. Ok (planned_as n target)) p e in
    let b = bind_ok (may_replace t.nodes n m) (λ _. spared t.changes held 2 >>= λ _. Ok (over (Some m))) a.0 a.1 in
    let c = bind_ok (spared t.changes held 2) (λ _. Ok (over (Some m))) a.0 b.2 in
    subst (IsMove t held n (Some m)) (ap (planned_as n) (ok_is (over (Some m)) a.0 c.2) ∙ ok_is (planned_as n a.0) p a.2) (m, refl, other, spared_room t held 2 c.0 c.1)

pub move_is : (t : Tree) (held : Reservation) (n : Node) (to : ℕ) (found : Option Node) (p : Planned) → planned_found t held n to found ≡ Ok p → IsMove t held n found p
move_is t held n to found p e = by (is_same n found) refl e
  where
    by : (b : Bool) → is_same n found ≡ b → ((let r : Result Target Status = if b then Ok itself else (or_within t.nodes n to >>= λ _. rename_over t held n found) in r) >>= λ target. Ok (planned_as n target)) ≡ Ok p → IsMove t held n found p
    by true is same = subst (IsMove t held n found) (ok_is (planned_as n itself) p same) tt
    by false is same =
        let a = bind_ok (or_within t.nodes n to >>= λ _. rename_over t held n found) (λ target. Ok (planned_as n target)) p same in
        let b = bind_ok (or_within t.nodes n to) (λ _. rename_over t held n found) a.0 a.1 in
        over_move t held n found p is (ap (λ (r : Result Target Status). r >>= λ target. Ok (planned_as n target)) b.2 ∙ a.2)

-- what a RENAME finds
pub rename_finds : (t : Tree) (held : Reservation) (dir : ℕ) (name : List ℕ) (to : ℕ) (to_name : List ℕ) (p : Planned) → rename_plan t held dir name to to_name ≡ Ok p → (n : Node) × (named t.nodes dir name ≡ Some n) × (planned_found t held n to (named t.nodes to to_name) ≡ Ok p)
rename_finds t held dir name to to_name p e =
    let rest = λ (n : Node). planned_found t held n to (named t.nodes to to_name) in
    let a = bind_ok (node_of t.nodes dir) (λ d. node_of t.nodes to >>= λ e. directory_or status.NotDir d >>= λ _. directory_or status.NotDir e >>= λ _. spelt name >>= λ _. undotted status.Inval status.Inval name >>= λ _. spelt to_name >>= λ _. undotted status.Inval status.Inval to_name >>= λ _. or_no_entry (named t.nodes dir name) >>= rest) p e in
    let b = bind_ok (node_of t.nodes to) (λ e. directory_or status.NotDir a.0 >>= λ _. directory_or status.NotDir e >>= λ _. spelt name >>= λ _. undotted status.Inval status.Inval name >>= λ _. spelt to_name >>= λ _. undotted status.Inval status.Inval to_name >>= λ _. or_no_entry (named t.nodes dir name) >>= rest) p a.2 in
    let c = bind_ok (directory_or status.NotDir a.0) (λ _. directory_or status.NotDir b.0 >>= λ _. spelt name >>= λ _. undotted status.Inval status.Inval name >>= λ _. spelt to_name >>= λ _. undotted status.Inval status.Inval to_name >>= λ _. or_no_entry (named t.nodes dir name) >>= rest) p b.2 in
    let d = bind_ok (directory_or status.NotDir b.0) (λ _. spelt name >>= λ _. undotted status.Inval status.Inval name >>= λ _. spelt to_name >>= λ _. undotted status.Inval status.Inval to_name >>= λ _. or_no_entry (named t.nodes dir name) >>= rest) p c.2 in
    let f = bind_ok (spelt name) (λ _. undotted status.Inval status.Inval name >>= λ _. spelt to_name >>= λ _. undotted status.Inval status.Inval to_name >>= λ _. or_no_entry (named t.nodes dir name) >>= rest) p d.2 in
    let g = bind_ok (undotted status.Inval status.Inval name) (λ _. spelt to_name >>= λ _. undotted status.Inval status.Inval to_name >>= λ _. or_no_entry (named t.nodes dir name) >>= rest) p f.2 in
    let h = bind_ok (spelt to_name) (λ _. undotted status.Inval status.Inval to_name >>= λ _. or_no_entry (named t.nodes dir name) >>= rest) p g.2 in
    let k = bind_ok (undotted status.Inval status.Inval to_name) (λ _. or_no_entry (named t.nodes dir name) >>= rest) p h.2 in
    let l = bind_ok (or_no_entry (named t.nodes dir name)) rest p k.2 in
    (l.0, entry_is (named t.nodes dir name) l.0 l.1, l.2)

pub rename_stays : (t : Tree) (held : Reservation) (dir : ℕ) (name : List ℕ) (to : ℕ) (to_name : List ℕ) → Stays held t (rename t held dir name to to_name).0
rename_stays t held dir name to to_name = by (rename_plan t held dir name to to_name) refl
  where
    none_some : (m : Node) → ◌≡◌ {A = Option Node} None (Some m) → ⊥
    none_some m e = absurd cc

    free : (n : Node) (o : Option Node) → named t.nodes dir name ≡ Some n → o ≡ Some n → IsSpared t held 1 → Stays held t (shifted t dir o None to to_name)
    free n None at same room = absurd cc
    free n (Some k) at same room = λ h. moved_stays held t dir k None to to_name (named_id t.nodes dir name k h.apart (at ∙ sym same)) (λ m e. absurd (none_some m e)) room h

    over_node : (n m : Node) (o p : Option Node) → named t.nodes dir name ≡ Some n → o ≡ Some n → p ≡ Some m → (m.id == n.id) ≡ false → IsSpared t held 2 → Stays held t (shifted t dir o p to to_name)
    over_node n m None p at same there other room = absurd cc
    over_node n m (Some k) None at same there other room = absurd cc
    over_node n m (Some k) (Some l) at same there other room = λ h. moved_stays held t dir k (Some l) to to_name (named_id t.nodes dir name k h.apart (at ∙ sym same)) (λ z e. ap (λ (q : Option Node). or_false q) (sym e ∙ there) ∙ ap (λ (q : Option Node). other_of m q) same ∙ other) room h
      where
        or_false : Option Node → Bool
        or_false None = false
        or_false (Some q) = q.id == k.id

        other_of : Node → Option Node → Bool
        other_of q None = false
        other_of q (Some r) = q.id == r.id

    by : (r : Result Planned Status) → rename_plan t held dir name to to_name ≡ r → Stays held t (rename_if t dir name to to_name r).0
    by (Err s) e = stays_same held t
    by (Ok (planned.Nothing done)) e = stays_same held t
    by (Ok (planned.Free done)) e =
        let f = rename_finds t held dir name to to_name (planned.Free done) e in
        let g = move_is t held f.0 to (named t.nodes to to_name) (planned.Free done) f.2 in
        free f.0 (named t.nodes dir name) f.1 f.1 g.1
    by (Ok (planned.Over done)) e =
        let f = rename_finds t held dir name to to_name (planned.Over done) e in
        let g = move_is t held f.0 to (named t.nodes to to_name) (planned.Over done) f.2 in
        over_node f.0 g.0 (named t.nodes dir name) (named t.nodes to to_name) f.1 f.1 g.1 g.2 g.3

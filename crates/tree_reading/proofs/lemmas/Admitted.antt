-- What is known where a call isn't refused.
use Rattle.std.proofs.Common.{◌≡◌, ℕ, ◌+◌, ◌≤◌, List, Option, Some, None, IsSome, Result, Ok, Err, Bool, true, false, ◌==◌, refl, sym, ap, ◌∙◌, subst, arith, nat_lt, if◌then◌else◌}
use Rattle.std.specs.Option.{option_map}
use Rattle.std.proofs.lemmas.Bool.Decides.{nat_tests}
use Rattle.xdr_codec.specs.declared.status.Status.{Status}
use Rattle.xdr_codec.specs.declared.status.Status.TheVariants as status
use Rattle.tree_nodes.specs.declared.node.Node.{Node}
use Rattle.tree_nodes.specs.Nodes.{named, with_id}
use Rattle.tree_reading.specs.declared.call.CreateMode.{CreateMode}
use Rattle.tree_reading.specs.declared.call.CreateMode.TheVariants as mode
use Rattle.tree_reading.specs.declared.call.Reservation.{Reservation}
use Rattle.tree_reading.specs.declared.call.Changed.{Changed}
use Rattle.tree_reading.specs.declared.call.Planned.{Planned}
use Rattle.tree_reading.proofs.lemmas.Found.{some_is, ok_is, entry_is}
use Rattle.tree_reading.specs.Chain.{◌>>=◌}
use Rattle.tree_reading.specs.Names.{spelt, undotted}
use Rattle.tree_reading.specs.Tree.{Tree, is_directory, contents_size, node_of, or_stale, directory_or, file_or, directory_of, or_no_entry, or_taken, changes_most, file_most, tree_most}
use Rattle.tree_reading.specs.Plans.{spared, spared_bytes, within_file, create_found, create_mode, may_create, create_plan, nothing, may_mkdir, may_remove, remove_plan, remove_done, or_not_empty, may_rmdir, rmdir_plan, Target, itself, over, or_within, may_replace, rename_over, is_same, planned_found, rename_plan, planned, may_replace_content, replace_plan, IsPlannedMove}

pub bind_ok : {A B : Type 0} (r : Result A Status) (f : A → Result B Status) (y : B) → (r >>= f) ≡ Ok y → (x : A) × (r ≡ Ok x) × (f x ≡ Ok y)
bind_ok (Ok x) f y e = (x, refl, e)
bind_ok (Err s) f y e = absurd cc

-- ---- what each check tells

spared_ok : (changes : ℕ) (held : Reservation) (n : ℕ) (u : Unit) → spared changes held n ≡ Ok u → changes + n ≤ changes_most
spared_ok changes held n u e = spared_if (nat_lt changes_most (changes + held.entries + n)) refl e
  where
    spared_if : (b : Bool) → nat_lt changes_most (changes + held.entries + n) ≡ b → (if b then Err status.NoSpc else Ok tt) ≡ Ok u → changes + n ≤ changes_most
    spared_if true is same = absurd cc
    spared_if false is same = grind (arith, nat_tests, is)

bytes_ok : (bytes : ℕ) (held : Reservation) (len : ℕ) (u : Unit) → spared_bytes bytes held len ≡ Ok u → bytes + len ≤ tree_most
bytes_ok bytes held len u e = bytes_if (nat_lt tree_most (bytes + held.bytes + len)) refl e
  where
    bytes_if : (b : Bool) → nat_lt tree_most (bytes + held.bytes + len) ≡ b → (if b then Err status.NoSpc else Ok tt) ≡ Ok u → bytes + len ≤ tree_most
    bytes_if true is same = absurd cc
    bytes_if false is same = grind (arith, nat_tests, is)

file_ok : (len : ℕ) (u : Unit) → within_file len ≡ Ok u → len ≤ file_most
file_ok len u e = file_if (nat_lt file_most len) refl e
  where
    file_if : (b : Bool) → nat_lt file_most len ≡ b → (if b then Err status.FBig else Ok tt) ≡ Ok u → len ≤ file_most
    file_if true is same = absurd cc
    file_if false is same = grind (arith, nat_tests, is)

taken_ok : (o : Option Node) (u : Unit) → or_taken o ≡ Ok u → o ≡ None
taken_ok None u e = refl
taken_ok (Some n) u e = absurd cc

pub stale_ok : (o : Option Node) (n : Node) → or_stale o ≡ Ok n → o ≡ Some n
stale_ok None n e = absurd cc
stale_ok (Some m) n e = ap Some (ok_is m n e)

directory_ok : (s : Status) (n m : Node) → directory_or s n ≡ Ok m → n ≡ m
directory_ok s n m e = directory_if (is_directory n.body) e
  where
    directory_if : (b : Bool) → (if b then Ok n else Err s) ≡ Ok m → n ≡ m
    directory_if true same = ok_is n m same
    directory_if false same = absurd cc

is_file_ok : (s : Status) (n m : Node) → file_or s n ≡ Ok m → n ≡ m
is_file_ok s n m e = file_if (is_directory n.body) e
  where
    file_if : (b : Bool) → (if b then Err s else Ok n) ≡ Ok m → n ≡ m
    file_if true same = absurd cc
    file_if false same = ok_is n m same

-- ---- CREATE

pub none_is : (o : Option Node) → option_map nothing o ≡ None → o ≡ None
none_is None e = refl
none_is (Some n) e = absurd cc

found_free : (changes : ℕ) (held : Reservation) (m : CreateMode) (o : Option Node) → create_found changes held m o ≡ Ok None → (o ≡ None) × (changes + 1 ≤ changes_most)
found_free changes held m None e = let s = bind_ok (spared changes held 1) (λ _. Ok None) None e in (refl, spared_ok changes held 1 s.0 s.1)
found_free changes held mode.Unchecked (Some n) e = let s = bind_ok (file_or status.Exist n) (λ f. Ok (Some f)) None e in absurd (some_none s.0 s.2)
  where
    some_none : (f : Node) → ◌≡◌ {A = Result (Option Node) Status} (Ok (Some f)) (Ok None) → ⊥
    some_none f same = absurd cc
found_free changes held mode.Guarded (Some n) e = absurd cc
found_free changes held mode.Exclusive (Some n) e = absurd cc

mode_free : (t : Tree) (held : Reservation) (dir : ℕ) (name : List ℕ) (m : CreateMode) → create_mode t held dir name m ≡ Ok None → (named t.nodes dir name ≡ None) × (t.changes + 1 ≤ changes_most)
mode_free t held dir name mode.Exclusive e = absurd cc
mode_free t held dir name mode.Guarded e = found_free t.changes held mode.Guarded (named t.nodes dir name) e
mode_free t held dir name mode.Unchecked e = found_free t.changes held mode.Unchecked (named t.nodes dir name) e

pub create_free : (t : Tree) (held : Reservation) (dir : ℕ) (name : List ℕ) (m : CreateMode) → create_plan t held dir name m ≡ Ok None → (named t.nodes dir name ≡ None) × (t.changes + 1 ≤ changes_most)
create_free t held dir name m e =
    let p = bind_ok (may_create t held dir name m) (λ found. Ok (option_map nothing found)) None e in
    let is : may_create t held dir name m ≡ Ok None = p.1 ∙ ap (λ (o : Option Node). Ok o) (none_is p.0 (ok_is (option_map nothing p.0) None p.2)) in
    let a = bind_ok (directory_of t.nodes dir) (λ _. spelt name >>= λ _. undotted status.Inval status.Inval name >>= λ _. create_mode t held dir name m) None is in
    let b = bind_ok (spelt name) (λ _. undotted status.Inval status.Inval name >>= λ _. create_mode t held dir name m) None a.2 in
    let d = bind_ok (undotted status.Inval status.Inval name) (λ _. create_mode t held dir name m) None b.2 in
    mode_free t held dir name m d.2

-- ---- MKDIR

pub mkdir_free : (t : Tree) (held : Reservation) (dir : ℕ) (name : List ℕ) (u : Unit) → may_mkdir t held dir name ≡ Ok u → (named t.nodes dir name ≡ None) × (t.changes + 1 ≤ changes_most)
mkdir_free t held dir name u is =
    let a = bind_ok (directory_of t.nodes dir) (λ _. spelt name >>= λ _. undotted status.Exist status.Exist name >>= λ _. or_taken (named t.nodes dir name) >>= λ _. spared t.changes held 1) u is in
    let b = bind_ok (spelt name) (λ _. undotted status.Exist status.Exist name >>= λ _. or_taken (named t.nodes dir name) >>= λ _. spared t.changes held 1) u a.2 in
    let d = bind_ok (undotted status.Exist status.Exist name) (λ _. or_taken (named t.nodes dir name) >>= λ _. spared t.changes held 1) u b.2 in
    let f = bind_ok (or_taken (named t.nodes dir name)) (λ _. spared t.changes held 1) u d.2 in
    (taken_ok (named t.nodes dir name) f.0 f.1, spared_ok t.changes held 1 u f.2)

-- ---- REMOVE and RMDIR

abbrev pub IsPlannedGone : Tree → ℕ → List ℕ → Changed → Type 0
IsPlannedGone t dir name done = (n : Node) × (named t.nodes dir name ≡ Some n) × (done ≡ remove_done n) × (t.changes + 1 ≤ changes_most)

pub remove_there : (t : Tree) (held : Reservation) (dir : ℕ) (name : List ℕ) (done : Changed) → remove_plan t held dir name ≡ Ok done → IsPlannedGone t dir name done
remove_there t held dir name done e =
    let p = bind_ok (may_remove t held dir name) (λ n. Ok (remove_done n)) done e in
    let a = bind_ok (directory_of t.nodes dir) (λ _. spelt name >>= λ _. undotted status.Inval status.Inval name >>= λ _. or_no_entry (named t.nodes dir name) >>= file_or status.IsDir >>= λ n. spared t.changes held 1 >>= λ _. Ok n) p.0 p.1 in
    let b = bind_ok (spelt name) (λ _. undotted status.Inval status.Inval name >>= λ _. or_no_entry (named t.nodes dir name) >>= file_or status.IsDir >>= λ n. spared t.changes held 1 >>= λ _. Ok n) p.0 a.2 in
    let d = bind_ok (undotted status.Inval status.Inval name) (λ _. or_no_entry (named t.nodes dir name) >>= file_or status.IsDir >>= λ n. spared t.changes held 1 >>= λ _. Ok n) p.0 b.2 in
    let f = bind_ok (or_no_entry (named t.nodes dir name) >>= file_or status.IsDir) (λ n. spared t.changes held 1 >>= λ _. Ok n) p.0 d.2 in
    let g = bind_ok (or_no_entry (named t.nodes dir name)) (file_or status.IsDir) f.0 f.1 in
    let h = bind_ok (spared t.changes held 1) (λ _. Ok f.0) p.0 f.2 in
    let same : g.0 ≡ p.0 = ◌∙◌ {b = f.0} (is_file_ok status.IsDir g.0 f.0 g.2) (ok_is f.0 p.0 h.2) in
    (p.0, ◌∙◌ {b = Some g.0} (entry_is (named t.nodes dir name) g.0 g.1) (ap Some same), sym (ok_is (remove_done p.0) done p.2), spared_ok t.changes held 1 h.0 h.1)

pub rmdir_there : (t : Tree) (held : Reservation) (dir : ℕ) (name : List ℕ) (done : Changed) → rmdir_plan t held dir name ≡ Ok done → IsPlannedGone t dir name done
rmdir_there t held dir name done e =
    let p = bind_ok (may_rmdir t held dir name) (λ n. Ok (remove_done n)) done e in
    let a = bind_ok (directory_of t.nodes dir) (λ _. spelt name >>= λ _. undotted status.Inval status.Exist name >>= λ _. or_no_entry (named t.nodes dir name) >>= directory_or status.NotDir >>= λ n. or_not_empty t.nodes n >>= λ _. spared t.changes held 1 >>= λ _. Ok n) p.0 p.1 in
    let b = bind_ok (spelt name) (λ _. undotted status.Inval status.Exist name >>= λ _. or_no_entry (named t.nodes dir name) >>= directory_or status.NotDir >>= λ n. or_not_empty t.nodes n >>= λ _. spared t.changes held 1 >>= λ _. Ok n) p.0 a.2 in
    let d = bind_ok (undotted status.Inval status.Exist name) (λ _. or_no_entry (named t.nodes dir name) >>= directory_or status.NotDir >>= λ n. or_not_empty t.nodes n >>= λ _. spared t.changes held 1 >>= λ _. Ok n) p.0 b.2 in
    let f = bind_ok (or_no_entry (named t.nodes dir name) >>= directory_or status.NotDir) (λ n. or_not_empty t.nodes n >>= λ _. spared t.changes held 1 >>= λ _. Ok n) p.0 d.2 in
    let g = bind_ok (or_no_entry (named t.nodes dir name)) (directory_or status.NotDir) f.0 f.1 in
    let h = bind_ok (or_not_empty t.nodes f.0) (λ _. spared t.changes held 1 >>= λ _. Ok f.0) p.0 f.2 in
    let k = bind_ok (spared t.changes held 1) (λ _. Ok f.0) p.0 h.2 in
    let same : g.0 ≡ p.0 = ◌∙◌ {b = f.0} (directory_ok status.NotDir g.0 f.0 g.2) (ok_is f.0 p.0 k.2) in
    (p.0, ◌∙◌ {b = Some g.0} (entry_is (named t.nodes dir name) g.0 g.1) (ap Some same), sym (ok_is (remove_done p.0) done p.2), spared_ok t.changes held 1 k.0 k.1)

-- ---- a content replaced

pub record IsPlannedContent (t : Tree) (id len version : ℕ) : Type 0 where
  pub node : Node
  pub there : with_id t.nodes id ≡ Some node
  pub version_is : version ≡ node.version + 1
  pub short : len ≤ file_most
  pub count : t.changes + 1 ≤ changes_most
  pub small : contents_size t.nodes + len ≤ tree_most

pub replace_there : (t : Tree) (held : Reservation) (id len version : ℕ) → replace_plan t held id len ≡ Ok version → IsPlannedContent t id len version
replace_there t held id len version e =
    let p = bind_ok (may_replace_content t held id len) (λ n. Ok (n.version + 1)) version e in
    let f = bind_ok (node_of t.nodes id >>= file_or status.IsDir) (λ n. within_file len >>= λ _. spared t.changes held 1 >>= λ _. spared_bytes (contents_size t.nodes) held len >>= λ _. Ok n) p.0 p.1 in
    let g = bind_ok (node_of t.nodes id) (file_or status.IsDir) f.0 f.1 in
    let h = bind_ok (within_file len) (λ _. spared t.changes held 1 >>= λ _. spared_bytes (contents_size t.nodes) held len >>= λ _. Ok f.0) p.0 f.2 in
    let k = bind_ok (spared t.changes held 1) (λ _. spared_bytes (contents_size t.nodes) held len >>= λ _. Ok f.0) p.0 h.2 in
    let l = bind_ok (spared_bytes (contents_size t.nodes) held len) (λ _. Ok f.0) p.0 k.2 in
    let same : g.0 ≡ p.0 = ◌∙◌ {b = f.0} (is_file_ok status.IsDir g.0 f.0 g.2) (ok_is f.0 p.0 l.2) in
    record {
      node = p.0;
      there = ◌∙◌ {b = Some g.0} (stale_ok (with_id t.nodes id) g.0 g.1) (ap Some same);
      version_is = sym (ok_is (p.0.version + 1) version p.2);
      short = file_ok len h.0 h.1;
      count = spared_ok t.changes held 1 k.0 k.1;
      small = bytes_ok (contents_size t.nodes) held len l.0 l.1;
    }

-- ---- RENAME

there_is : (o : Option Node) (n : Node) → o ≡ Some n → IsSome o
there_is o n e = subst IsSome (sym e) refl

-- what is planned where the new name stands for this
move_by : (t : Tree) (held : Reservation) (dir : ℕ) (name : List ℕ) (to : ℕ) (to_name : List ℕ) (n : Node) (o : Option Node) (p : Planned) → named t.nodes dir name ≡ Some n → named t.nodes to to_name ≡ o → is_same n o ≡ false → (rename_over t held n o >>= (λ target. Ok (planned n target))) ≡ Ok p → IsPlannedMove t dir name to to_name p
move_by t held dir name to to_name n None p at free other e =
    let a = bind_ok (rename_over t held n None) (λ target. Ok (planned n target)) p e in
    let b = bind_ok (spared t.changes held 1) (λ _. Ok (over None)) a.0 a.1 in
    subst (IsPlannedMove t dir name to to_name) (ap (planned n) (ok_is (over None) a.0 b.2) ∙ ok_is (planned n a.0) p a.2) (there_is (named t.nodes dir name) n at, free, spared_ok t.changes held 1 b.0 b.1)
move_by t held dir name to to_name n (Some m) p at there other e =
    let a = bind_ok (rename_over t held n (Some m)) (λ target. Ok (planned n target)) p e in
    let b = bind_ok (may_replace t.nodes n m) (λ _. spared t.changes held 2 >>= λ _. Ok (over (Some m))) a.0 a.1 in
    let d = bind_ok (spared t.changes held 2) (λ _. Ok (over (Some m))) a.0 b.2 in
    subst (IsPlannedMove t dir name to to_name) (ap (planned n) (ok_is (over (Some m)) a.0 d.2) ∙ ok_is (planned n a.0) p a.2) (there_is (named t.nodes dir name) n at, there_is (named t.nodes to to_name) m there, λ k l is_k is_l. differ k l (some_is n n k (sym at ∙ is_k)) (some_is m m l (sym there ∙ is_l)), spared_ok t.changes held 2 d.0 d.1)
  where
    turned : (a b : ℕ) → (b == a) ≡ false → (a == b) ≡ false
    turned a b is = grind (arith, nat_tests, is)

    differ : (k l : Node) → n ≡ k → m ≡ l → (k.id == l.id) ≡ false
    differ k l same_k same_l = subst (λ (x : Node). (x.id == l.id) ≡ false) same_k (subst (λ (y : Node). (n.id == y.id) ≡ false) same_l (turned n.id m.id other))

found_move : (t : Tree) (held : Reservation) (dir : ℕ) (name : List ℕ) (to : ℕ) (to_name : List ℕ) (n : Node) (p : Planned) → named t.nodes dir name ≡ Some n → planned_found t held n to (named t.nodes to to_name) ≡ Ok p → IsPlannedMove t dir name to to_name p
found_move t held dir name to to_name n p at e = found_if (is_same n (named t.nodes to to_name)) refl e
  where
    found_if : (b : Bool) → is_same n (named t.nodes to to_name) ≡ b → ((if b then Ok itself else (or_within t.nodes n to >>= λ _. rename_over t held n (named t.nodes to to_name))) >>= (λ target. Ok (planned n target))) ≡ Ok p → IsPlannedMove t dir name to to_name p
    found_if true is same = subst (IsPlannedMove t dir name to to_name) (ok_is (planned n itself) p same) tt
    found_if false is same =
        let a = bind_ok (or_within t.nodes n to >>= λ _. rename_over t held n (named t.nodes to to_name)) (λ target. Ok (planned n target)) p same in
        let b = bind_ok (or_within t.nodes n to) (λ _. rename_over t held n (named t.nodes to to_name)) a.0 a.1 in
        move_by t held dir name to to_name n (named t.nodes to to_name) p at refl is (ap (λ (r : Result Target Status). r >>= λ target. Ok (planned n target)) b.2 ∙ a.2)

pub rename_there : (t : Tree) (held : Reservation) (dir : ℕ) (name : List ℕ) (to : ℕ) (to_name : List ℕ) (p : Planned) → rename_plan t held dir name to to_name ≡ Ok p → IsPlannedMove t dir name to to_name p
rename_there t held dir name to to_name p e =
    let rest = λ (n : Node). planned_found t held n to (named t.nodes to to_name) in
    let a = bind_ok (node_of t.nodes dir) (λ d. node_of t.nodes to >>= λ e. directory_or status.NotDir d >>= λ _. directory_or status.NotDir e >>= λ _. spelt name >>= λ _. undotted status.Inval status.Inval name >>= λ _. spelt to_name >>= λ _. undotted status.Inval status.Inval to_name >>= λ _. or_no_entry (named t.nodes dir name) >>= rest) p e in
    let b = bind_ok (node_of t.nodes to) (λ e. directory_or status.NotDir a.0 >>= λ _. directory_or status.NotDir e >>= λ _. spelt name >>= λ _. undotted status.Inval status.Inval name >>= λ _. spelt to_name >>= λ _. undotted status.Inval status.Inval to_name >>= λ _. or_no_entry (named t.nodes dir name) >>= rest) p a.2 in
    let c = bind_ok (directory_or status.NotDir a.0) (λ _. directory_or status.NotDir b.0 >>= λ _. spelt name >>= λ _. undotted status.Inval status.Inval name >>= λ _. spelt to_name >>= λ _. undotted status.Inval status.Inval to_name >>= λ _. or_no_entry (named t.nodes dir name) >>= rest) p b.2 in
    let d = bind_ok (directory_or status.NotDir b.0) (λ _. spelt name >>= λ _. undotted status.Inval status.Inval name >>= λ _. spelt to_name >>= λ _. undotted status.Inval status.Inval to_name >>= λ _. or_no_entry (named t.nodes dir name) >>= rest) p c.2 in
    let f = bind_ok (spelt name) (λ _. undotted status.Inval status.Inval name >>= λ _. spelt to_name >>= λ _. undotted status.Inval status.Inval to_name >>= λ _. or_no_entry (named t.nodes dir name) >>= rest) p d.2 in
    let g = bind_ok (undotted status.Inval status.Inval name) (λ _. spelt to_name >>= λ _. undotted status.Inval status.Inval to_name >>= λ _. or_no_entry (named t.nodes dir name) >>= rest) p f.2 in
    let h = bind_ok (spelt to_name) (λ _. undotted status.Inval status.Inval to_name >>= λ _. or_no_entry (named t.nodes dir name) >>= rest) p g.2 in
    let k = bind_ok (undotted status.Inval status.Inval to_name) (λ _. or_no_entry (named t.nodes dir name) >>= rest) p h.2 in
    let l = bind_ok (or_no_entry (named t.nodes dir name)) rest p k.2 in
    found_move t held dir name to to_name l.0 p (entry_is (named t.nodes dir name) l.0 l.1) l.2

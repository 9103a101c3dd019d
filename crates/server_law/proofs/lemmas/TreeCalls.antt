-- What the calls that change a tree know where they are not refused, and that each file is then as it was, later, or gone; and that a commit
-- which has its room is made.
use Rattle.std.proofs.Common.{◌≡◌, ℕ, ◌+◌, ◌≤◌, List, [], ◌∷◌, ◌++◌, length, Option, Some, None, Result, Ok, Err, Bool, true, false, ◌==◌, refl, sym, ap, ◌∙◌, subst, arith, nat_lt, if◌then◌else◌, cond}
use Rattle.std.specs.List.{filter}
use Rattle.std.specs.Option.{option_map}
use Rattle.std.proofs.lemmas.Bool.Decides.{nat_tests}
use Rattle.xdr_codec.specs.declared.status.Status.{Status}
use Rattle.xdr_codec.specs.declared.status.Status.TheVariants as status
use Rattle.tree_nodes.specs.declared.node.Node.{Node}
use Rattle.tree_nodes.specs.declared.node.Body.{Body}
use Rattle.tree_nodes.specs.declared.node.Body.TheVariants.{Directory, File as Plain}
use Rattle.tree_nodes.specs.Nodes.{with_id, named}
use Rattle.tree_reading.specs.Chain.{◌>>=◌}
use Rattle.tree_reading.specs.Names.{spelt, undotted}
use Rattle.tree_reading.specs.declared.call.Changed.{Changed}
use Rattle.tree_reading.specs.declared.call.CreateMode.{CreateMode}
use Rattle.tree_reading.specs.declared.call.Reservation.{Reservation}
use Rattle.tree_reading.specs.declared.call.Planned.{Planned}
use Rattle.tree_reading.specs.declared.call.Planned.TheVariants as planned
use Rattle.tree_reading.specs.Tree.{Tree, is_directory, contents_size, node_of, or_stale, directory_or, directory_of, file_or, or_no_entry, or_taken, changes_most, file_most, tree_most}
use Rattle.tree_reading.specs.Plans.{spared, may_create, create_plan, create_mode, nothing, may_mkdir, may_remove, remove_done, remove_plan, may_rmdir, rmdir_plan, or_not_empty, rename_plan, planned_found, within_file, spared_bytes, may_replace_content, replace_plan, commit_entry}
use Rattle.file_tree.specs.Step.{replaced, create, created as create_made, new_file, new_directory, mkdir, mkdir_if, remove_if, remove, rmdir, shifted, rename_if, rename, replace_if, replace}
use Rattle.tree_reading.proofs.lemmas.Admitted.{rename_there}
use Rattle.file_tree.proofs.lemmas.States.{named_id}
use Rattle.nfs3_calls.specs.declared.message.Nfs.{Nfs}
use Rattle.nfs3_calls.specs.declared.message.Nfs.TheVariants as nfs
use Rattle.xdr_codec.specs.declared.answer.Answer.TheVariants as answer
use Rattle.tree_calls.specs.declared.asked.Asked.{Asked}
use Rattle.tree_calls.specs.declared.asked.Asked.TheVariants as asked
use Rattle.tree_calls.specs.Telling.{id_of}
use Rattle.tree_calls.specs.Changing.{mode_of}
use Rattle.file_tree.specs.Stores.{stored}
use Rattle.tree_calls.specs.Waiting.{gives_content, gives_content_under, with_committed, settles, settles_under, removes_if_under, renames_if_under, remove_again, rename_again, calls, calls_under, creates_in_under, mkdirs_in_under, rmdirs_in_under, renaming_under, asks_rename, renames_in_under}
use Rattle.chunk_calls.specs.Files.{File, file_of_body, file_of_node, file_at}
use Rattle.server_core.specs.State.{FileChange, entries_wanted, size_wanted, entries_held, waiting_size}
use Rattle.server_law.proofs.lemmas.Asked.{asked_holds}
use Rattle.server_law.proofs.lemmas.Trees.{file_node, NoFile, no_file, Keeps, keeps_same, made_keeps, removed_keeps, replaced_keeps, moved_keeps}

-- ---- what a call that isn't refused knows

pub bind_ok : {A B : Type 0} (r : Result A Status) (f : A → Result B Status) (y : B) → (r >>= f) ≡ Ok y → (x : A) × (r ≡ Ok x) × (f x ≡ Ok y)
bind_ok (Ok x) f y e = (x, refl, e)
bind_ok (Err s) f y e = absurd cc

pub ok_is : {A : Type 0} (x y : A) → ◌≡◌ {A = Result A Status} (Ok x) (Ok y) → x ≡ y
ok_is {A} x y e = ap (λ r. or_else r) e
  where
    or_else : Result A Status → A
    or_else (Ok z) = z
    or_else (Err s) = x

-- the id names a directory
abbrev pub HasDirectory : Tree → ℕ → Type 0
HasDirectory t dir = (d : Node) × (with_id t.nodes dir ≡ Some d) × (is_directory d.body ≡ true)

directory_if : (n d : Node) (b : Bool) → (let r : Result Node Status = if b then Ok n else Err status.NotDir in r ≡ Ok d) → b ≡ true
directory_if n d true e = refl
directory_if n d false e = absurd cc

directory_there : (t : Tree) (dir : ℕ) (o : Option Node) (d : Node) → with_id t.nodes dir ≡ o → (or_stale o >>= directory_or status.NotDir) ≡ Ok d → HasDirectory t dir
directory_there t dir None d at e = absurd cc
directory_there t dir (Some n) d at e = (n, at, directory_if n d (is_directory n.body) e)

pub directory_is : (t : Tree) (dir : ℕ) (d : Node) → directory_of t.nodes dir ≡ Ok d → HasDirectory t dir
directory_is t dir d e = directory_there t dir (with_id t.nodes dir) d refl e

pub no_file_in : (t : Tree) (dir : ℕ) → HasDirectory t dir → NoFile t.nodes dir
no_file_in t dir h = no_file t.nodes dir h.0 h.1 h.2

-- ---- CREATE and MKDIR

pub create_in : (t : Tree) (held : Reservation) (dir : ℕ) (name : List ℕ) (m : CreateMode) (o : Option Changed) → create_plan t held dir name m ≡ Ok o → HasDirectory t dir
create_in t held dir name m o e =
    let p = bind_ok (may_create t held dir name m) (λ found. Ok (option_map nothing found)) o e in
    let a = bind_ok (directory_of t.nodes dir) (λ _. spelt name >>= λ _. undotted status.Inval status.Inval name >>= λ _. create_mode t held dir name m) p.0 p.1 in
    directory_is t dir a.0 a.1

create_keeps : (t : Tree) (held : Reservation) (dir : ℕ) (name : List ℕ) (m : CreateMode) → Keeps t (create t held dir name m).0
create_keeps t held dir name m = by (create_plan t held dir name m) refl
  where
    by : (r : Result (Option Changed) Status) → create_plan t held dir name m ≡ r → Keeps t (create_made t dir name r).0
    by (Err s) e = keeps_same t
    by (Ok (Some done)) e = keeps_same t
    by (Ok None) e = let d = create_in t held dir name m None e in made_keeps t (new_file t dir name) d.0 refl d.1 d.2

pub mkdir_in : (t : Tree) (held : Reservation) (dir : ℕ) (name : List ℕ) (u : Unit) → may_mkdir t held dir name ≡ Ok u → HasDirectory t dir
mkdir_in t held dir name u e =
    let a = bind_ok (directory_of t.nodes dir) (λ _. spelt name >>= λ _. undotted status.Exist status.Exist name >>= λ _. or_taken (named t.nodes dir name) >>= λ _. spared t.changes held 1) u e in
    directory_is t dir a.0 a.1

mkdir_keeps : (t : Tree) (held : Reservation) (dir : ℕ) (name : List ℕ) → Keeps t (mkdir t held dir name).0
mkdir_keeps t held dir name = by (may_mkdir t held dir name) refl
  where
    by : (r : Result Unit Status) → may_mkdir t held dir name ≡ r → Keeps t (mkdir_if t dir name r).0
    by (Err s) e = keeps_same t
    by (Ok u) e = let d = mkdir_in t held dir name u e in made_keeps t (new_directory t dir name) d.0 refl d.1 d.2

-- ---- REMOVE and RMDIR

removes_keeps : (t : Tree) (dir : ℕ) (r : Result Changed Status) → ((done : Changed) → r ≡ Ok done → HasDirectory t dir) → Keeps t (remove_if t dir r).0
removes_keeps t dir (Err s) known = keeps_same t
removes_keeps t dir (Ok done) known = removed_keeps t dir done.id (no_file_in t dir (known done refl))

pub remove_in : (t : Tree) (held : Reservation) (dir : ℕ) (name : List ℕ) (done : Changed) → remove_plan t held dir name ≡ Ok done → HasDirectory t dir
remove_in t held dir name done e =
    let p = bind_ok (may_remove t held dir name) (λ n. Ok (remove_done n)) done e in
    let a = bind_ok (directory_of t.nodes dir) (λ _. spelt name >>= λ _. undotted status.Inval status.Inval name >>= λ _. or_no_entry (named t.nodes dir name) >>= file_or status.IsDir >>= λ n. spared t.changes held 1 >>= λ _. Ok n) p.0 p.1 in
    directory_is t dir a.0 a.1

pub rmdir_in : (t : Tree) (held : Reservation) (dir : ℕ) (name : List ℕ) (done : Changed) → rmdir_plan t held dir name ≡ Ok done → HasDirectory t dir
rmdir_in t held dir name done e =
    let p = bind_ok (may_rmdir t held dir name) (λ n. Ok (remove_done n)) done e in
    let a = bind_ok (directory_of t.nodes dir) (λ _. spelt name >>= λ _. undotted status.Inval status.Exist name >>= λ _. or_no_entry (named t.nodes dir name) >>= directory_or status.NotDir >>= λ n. or_not_empty t.nodes n >>= λ _. spared t.changes held 1 >>= λ _. Ok n) p.0 p.1 in
    directory_is t dir a.0 a.1

remove_keeps : (t : Tree) (held : Reservation) (dir : ℕ) (name : List ℕ) → Keeps t (remove t held dir name).0
remove_keeps t held dir name = removes_keeps t dir (remove_plan t held dir name) (λ done e. remove_in t held dir name done e)

rmdir_keeps : (t : Tree) (held : Reservation) (dir : ℕ) (name : List ℕ) → Keeps t (rmdir t held dir name).0
rmdir_keeps t held dir name = removes_keeps t dir (rmdir_plan t held dir name) (λ done e. rmdir_in t held dir name done e)

-- ---- RENAME

pub stale_is : (t : Tree) (id : ℕ) (n : Node) → node_of t.nodes id ≡ Ok n → with_id t.nodes id ≡ Some n
stale_is t id n e = by (with_id t.nodes id) e
  where
    by : (o : Option Node) → or_stale o ≡ Ok n → o ≡ Some n
    by None e = absurd cc
    by (Some m) e = ap Some (ok_is m n e)

directory_ok : (n d : Node) → directory_or status.NotDir n ≡ Ok d → is_directory n.body ≡ true
directory_ok n d e = directory_if n d (is_directory n.body) e

-- both directories are there
pub rename_in : (t : Tree) (held : Reservation) (dir : ℕ) (name : List ℕ) (to : ℕ) (to_name : List ℕ) (p : Planned) → rename_plan t held dir name to to_name ≡ Ok p → HasDirectory t dir × HasDirectory t to
rename_in t held dir name to to_name p e =
    let rest = λ (n : Node). planned_found t held n to (named t.nodes to to_name) in
    let a = bind_ok (node_of t.nodes dir) (λ d. node_of t.nodes to >>= λ e. directory_or status.NotDir d >>= λ _. directory_or status.NotDir e >>= λ _. spelt name >>= λ _. undotted status.Inval status.Inval name >>= λ _. spelt to_name >>= λ _. undotted status.Inval status.Inval to_name >>= λ _. or_no_entry (named t.nodes dir name) >>= rest) p e in
    let b = bind_ok (node_of t.nodes to) (λ e. directory_or status.NotDir a.0 >>= λ _. directory_or status.NotDir e >>= λ _. spelt name >>= λ _. undotted status.Inval status.Inval name >>= λ _. spelt to_name >>= λ _. undotted status.Inval status.Inval to_name >>= λ _. or_no_entry (named t.nodes dir name) >>= rest) p a.2 in
    let c = bind_ok (directory_or status.NotDir a.0) (λ _. directory_or status.NotDir b.0 >>= λ _. spelt name >>= λ _. undotted status.Inval status.Inval name >>= λ _. spelt to_name >>= λ _. undotted status.Inval status.Inval to_name >>= λ _. or_no_entry (named t.nodes dir name) >>= rest) p b.2 in
    let d = bind_ok (directory_or status.NotDir b.0) (λ _. spelt name >>= λ _. undotted status.Inval status.Inval name >>= λ _. spelt to_name >>= λ _. undotted status.Inval status.Inval to_name >>= λ _. or_no_entry (named t.nodes dir name) >>= rest) p c.2 in
    ((a.0, stale_is t dir a.0 a.1, directory_ok a.0 c.0 c.1), (b.0, stale_is t to b.0 b.1, directory_ok b.0 d.0 d.1))

shifted_keeps : (t : Tree) (dir : ℕ) (n o : Option Node) (to : ℕ) (to_name : List ℕ) → HasDirectory t dir → HasDirectory t to → ((k : Node) → n ≡ Some k → with_id t.nodes k.id ≡ Some k) → ((k l : Node) → n ≡ Some k → o ≡ Some l → (l.id == k.id) ≡ false) → Keeps t (shifted t dir n o to to_name)
shifted_keeps t dir None o to to_name d e at apart = keeps_same t
shifted_keeps t dir (Some n) o to to_name d e at apart = moved_keeps t dir n o to to_name (λ m is. apart n m refl is) (at n refl) (no_file_in t dir d) (no_file_in t to e)

rename_keeps : (t : Tree) (held : Reservation) (dir : ℕ) (name : List ℕ) (to : ℕ) (to_name : List ℕ) → Keeps t (rename t held dir name to to_name).0
rename_keeps t held dir name to to_name = by (rename_plan t held dir name to to_name) refl
  where
    by : (r : Result Planned Status) → rename_plan t held dir name to to_name ≡ r → Keeps t (rename_if t dir name to to_name r).0
    by (Err s) e = keeps_same t
    by (Ok (planned.Nothing done)) e = keeps_same t
    by (Ok (planned.Free done)) e = λ h. let d = rename_in t held dir name to to_name (planned.Free done) e in shifted_keeps t dir (named t.nodes dir name) None to to_name d.0 d.1 (λ k is. named_id t.nodes dir name k h.apart is) (λ k l is none. absurd cc) h
    by (Ok (planned.Over done)) e = λ h.
        let d = rename_in t held dir name to to_name (planned.Over done) e in
        let apart = (rename_there t held dir name to to_name (planned.Over done) e).2 in
        shifted_keeps t dir (named t.nodes dir name) (named t.nodes to to_name) to to_name d.0 d.1 (λ k is. named_id t.nodes dir name k h.apart is) (λ k l is there. other k l (apart k l is there)) h
      where
        other : (k l : Node) → (k.id == l.id) ≡ false → (l.id == k.id) ≡ false
        other k l e = grind (arith, nat_tests, e)

-- ---- a content replaced: COMMITTMP once it's made

within_is : (len : ℕ) → len ≤ file_most → within_file len ≡ Ok tt
within_is len le = by (nat_lt file_most len) refl
  where
    by : (b : Bool) → nat_lt file_most len ≡ b → (let r : Result Unit Status = if b then Err status.FBig else Ok tt in r ≡ Ok tt)
    by true lt = absurd (no lt)
      where
        no : nat_lt file_most len ≡ true → ⊥
        no lt = let z : nat_lt file_most len ≡ false = grind (arith, nat_tests, le) in absurd cc
    by false lt = refl

spared_is : (changes : ℕ) (held : Reservation) (n : ℕ) → changes + held.entries + n ≤ changes_most → spared changes held n ≡ Ok tt
spared_is changes held n le = let z : nat_lt changes_most (changes + held.entries + n) ≡ false = grind (arith, nat_tests, le) in ap (λ (b : Bool). let r : Result Unit Status = if b then Err status.NoSpc else Ok tt in r) z

bytes_are : (bytes : ℕ) (held : Reservation) (len : ℕ) → bytes + held.bytes + len ≤ tree_most → spared_bytes bytes held len ≡ Ok tt
bytes_are bytes held len le = let z : nat_lt tree_most (bytes + held.bytes + len) ≡ false = grind (arith, nat_tests, le) in ap (λ (b : Bool). let r : Result Unit Status = if b then Err status.NoSpc else Ok tt in r) z

-- there is room for a change beside those that are held
pub record HasRoom (t : Tree) (held : Reservation) (content : List ℕ) : Type 0 where
  pub count : t.changes + held.entries + 1 ≤ changes_most
  pub short : length content ≤ file_most
  pub small : contents_size t.nodes + held.bytes + length content ≤ tree_most

replace_may : (t : Tree) (held : Reservation) (id : ℕ) (content : List ℕ) (g : File) → file_at t id ≡ Some g → HasRoom t held content → replace_plan t held id (length content) ≡ Ok (g.version + 1)
replace_may t held id content g at room =
    let n = file_node t id g at in
    let a : node_of t.nodes id ≡ Ok n.node = ap or_stale n.there in
    let b : file_or status.IsDir n.node ≡ Ok n.node = ap (λ (z : Body). let r : Result Node Status = if is_directory z then Err status.IsDir else Ok n.node in r) n.body in
    let c = within_is (length content) room.short in
    let d = spared_is t.changes held 1 room.count in
    let e = bytes_are (contents_size t.nodes) held (length content) room.small in
    ap (λ (r : Result Node Status). (r >>= file_or status.IsDir >>= λ n. within_file (length content) >>= λ _. spared t.changes held 1 >>= λ _. spared_bytes (contents_size t.nodes) held (length content) >>= λ _. Ok n) >>= λ n. Ok (n.version + 1)) a
    ∙ ap (λ (r : Result Node Status). (r >>= λ n. within_file (length content) >>= λ _. spared t.changes held 1 >>= λ _. spared_bytes (contents_size t.nodes) held (length content) >>= λ _. Ok n) >>= λ n. Ok (n.version + 1)) b
    ∙ ap (λ (r : Result Unit Status). (r >>= λ _. spared t.changes held 1 >>= λ _. spared_bytes (contents_size t.nodes) held (length content) >>= λ _. Ok n.node) >>= λ n. Ok (n.version + 1)) c
    ∙ ap (λ (r : Result Unit Status). (r >>= λ _. spared_bytes (contents_size t.nodes) held (length content) >>= λ _. Ok n.node) >>= λ n. Ok (n.version + 1)) d
    ∙ ap (λ (r : Result Unit Status). (r >>= λ _. Ok n.node) >>= λ n. Ok (n.version + 1)) e
    ∙ ap (λ (v : ℕ). let r : Result ℕ Status = Ok (v + 1) in r) n.version

-- where the file is there, and there is room, the change is made
pub commits_made : (t : Tree) (held : Reservation) (id : ℕ) (content : List ℕ) (g : File) → file_at t id ≡ Some g → HasRoom t held content → gives_content t held id content 0 ≡ (replaced t id (g.version + 1) content, record { answer = answer.Done (record { version = g.version + 1; term = 0 }); entry = Some (commit_entry id (g.version + 1) content) })
commits_made t held id content g at room = ap (λ (r : Result ℕ Status). with_committed 0 (replace_if t id content r)) (replace_may t held id content g at room)

file_found : (t : Tree) (id : ℕ) (n : Node) → with_id t.nodes id ≡ Some n → is_directory n.body ≡ false → (g : File) × (file_at t id ≡ Some g) × (g.version ≡ n.version)
file_found t id n there is = by n.body refl is
  where
    by : (b : Body) → n.body ≡ b → is_directory b ≡ false → (g : File) × (file_at t id ≡ Some g) × (g.version ≡ n.version)
    by Directory e is = absurd cc
    by (Plain c) e is = (record { id = n.id; version = n.version; content = c }, ap file_of_node there ∙ ap (file_of_body n) e, refl)

pub replace_in : (t : Tree) (held : Reservation) (id len version : ℕ) → replace_plan t held id len ≡ Ok version → (g : File) × (file_at t id ≡ Some g) × (version ≡ g.version + 1)
replace_in t held id len version e =
    let p = bind_ok (may_replace_content t held id len) (λ n. Ok (n.version + 1)) version e in
    let f = bind_ok (node_of t.nodes id >>= file_or status.IsDir) (λ n. within_file len >>= λ _. spared t.changes held 1 >>= λ _. spared_bytes (contents_size t.nodes) held len >>= λ _. Ok n) p.0 p.1 in
    let g = bind_ok (node_of t.nodes id) (file_or status.IsDir) f.0 f.1 in
    let h = bind_ok (within_file len) (λ _. spared t.changes held 1 >>= λ _. spared_bytes (contents_size t.nodes) held len >>= λ _. Ok f.0) p.0 f.2 in
    let k = bind_ok (spared t.changes held 1) (λ _. spared_bytes (contents_size t.nodes) held len >>= λ _. Ok f.0) p.0 h.2 in
    let l = bind_ok (spared_bytes (contents_size t.nodes) held len) (λ _. Ok f.0) p.0 k.2 in
    let is : (is_directory g.0.body ≡ false) × (g.0 ≡ f.0) = file_if g.0 f.0 (is_directory g.0.body) g.2 in
    let same : g.0 ≡ p.0 = is.1 ∙ ok_is f.0 p.0 l.2 in
    let found = file_found t id g.0 (stale_is t id g.0 g.1) is.0 in
    let v = ok_is (p.0.version + 1) version p.2 in
    let w = ap (λ (z : Node). z.version) same in
    let u = found.2 in
    (found.0, found.1, omega (arith, v, w, u))
  where
    file_if : (n m : Node) (b : Bool) → (let r : Result Node Status = if b then Err status.IsDir else Ok n in r ≡ Ok m) → (b ≡ false) × (n ≡ m)
    file_if n m true e = absurd cc
    file_if n m false e = (refl, ok_is n m e)

pub commits_keep : (t : Tree) (held : Reservation) (id : ℕ) (content : List ℕ) (term : ℕ) → Keeps t (gives_content t held id content term).0
commits_keep t held id content term = by (replace_plan t held id (length content)) refl
  where
    by : (r : Result ℕ Status) → replace_plan t held id (length content) ≡ r → Keeps t (replace_if t id content r).0
    by (Err s) e = keeps_same t
    by (Ok version) e = let g = replace_in t held id (length content) version e in subst (λ (v : ℕ). Keeps t (replaced t id v content)) (sym g.2) (replaced_keeps t id content g.0 g.1)

pub commits_keep_under : (t : Tree) (held : Reservation) (fault : Bool) (id : ℕ) (content : List ℕ) (term : ℕ) → Keeps t (gives_content_under t held fault id content term).0
commits_keep_under t held fault id content term = asked_holds (λ q. Keeps t q.0) fault t (replace t held id content) (commits_keep t held id content term) (keeps_same t)

-- ---- any call, and REMOVE and RENAME once they're made, whatever the store does

module _ (t : Tree) (held : Reservation) (fault : Bool) where
  asked_keeps : (p : Tree × Result Changed Status) → Keeps t p.0 → Keeps t (stored fault t p).0
  asked_keeps p k = asked_holds (λ q. Keeps t q.0) fault t p k (keeps_same t)

  pub settles_keep_under : (a : Asked) → Keeps t (settles_under t held fault a).0
  settles_keep_under (asked.Remove r) = by (remove_again t.nodes r)
    where
      by : (o : Result Unit Status) → Keeps t (removes_if_under t held fault r.spot o).0
      by (Err e) = keeps_same t
      by (Ok u) = asked_keeps (remove t held r.spot.dir r.spot.name) (remove_keeps t held r.spot.dir r.spot.name)
  settles_keep_under (asked.Rename r) = by (rename_again t.nodes r)
    where
      by : (o : Result Unit Status) → Keeps t (renames_if_under t held fault r.from r.to o).0
      by (Err e) = keeps_same t
      by (Ok u) = asked_keeps (rename t held r.from.dir r.from.name r.to.dir r.to.name) (rename_keeps t held r.from.dir r.from.name r.to.dir r.to.name)

  pub calls_keep_under : (busy : Bool) (m : Nfs) → Keeps t (calls_under t held busy fault m).0
  calls_keep_under busy (nfs.Create f) = by (id_of f.place.dir)
    where
      by : (r : Result ℕ Status) → Keeps t (creates_in_under t held fault f r).0
      by (Err s) = keeps_same t
      by (Ok dir) = asked_keeps (create t held dir f.place.name (mode_of f.how)) (create_keeps t held dir f.place.name (mode_of f.how))
  calls_keep_under busy (nfs.MkDir d) = by (id_of d.place.dir)
    where
      by : (r : Result ℕ Status) → Keeps t (mkdirs_in_under t held fault d.place.name r).0
      by (Err s) = keeps_same t
      by (Ok dir) = asked_keeps (mkdir t held dir d.place.name) (mkdir_keeps t held dir d.place.name)
  calls_keep_under busy (nfs.RmDir p) = by (id_of p.dir)
    where
      by : (r : Result ℕ Status) → Keeps t (rmdirs_in_under t held fault p.name r).0
      by (Err s) = keeps_same t
      by (Ok dir) = asked_keeps (rmdir t held dir p.name) (rmdir_keeps t held dir p.name)
  calls_keep_under busy (nfs.Rename r) = by (id_of r.from.dir) (id_of r.to.dir)
    where
      comes : (dir to : ℕ) (o : Result (Option (ℕ × ℕ)) Status) → Keeps t (renaming_under t held fault dir r.from.name to r.to.name o).0
      comes dir to (Err s) = keeps_same t
      comes dir to (Ok None) = asked_keeps (rename t held dir r.from.name to r.to.name) (rename_keeps t held dir r.from.name to r.to.name)
      comes dir to (Ok (Some p)) = keeps_same t

      by : (a b : Result ℕ Status) → Keeps t (renames_in_under t held busy fault r.from.name r.to.name a b).0
      by (Ok dir) (Ok to) = comes dir to (asks_rename t held busy dir r.from.name to r.to.name)
      by (Ok dir) (Err s) = keeps_same t
      by (Err s) b = keeps_same t
  calls_keep_under busy m = keeps_same t

-- where it doesn't fail
pub settles_keep : (t : Tree) (held : Reservation) (a : Asked) → Keeps t (settles t held a).0
settles_keep t held a = settles_keep_under t held false a

pub calls_keep : (t : Tree) (held : Reservation) (busy : Bool) (m : Nfs) → Keeps t (calls t held busy m).0
calls_keep t held busy m = calls_keep_under t held false busy m

-- ---- what the pending changes need

pub entries_more : (ws : List FileChange) (c : FileChange) → entries_held (ws ++ c ∷ []) ≡ entries_held ws + entries_wanted c.what
entries_more [] c = omega arith
entries_more (w ∷ ws) c = let later = entries_more ws c in omega (arith, later)

pub sizes_more : (ws : List FileChange) (c : FileChange) → waiting_size (ws ++ c ∷ []) ≡ waiting_size ws + size_wanted c.what
sizes_more [] c = omega arith
sizes_more (w ∷ ws) c = let later = sizes_more ws c in omega (arith, later)

-- fewer changes need no more
pub fewer_need : (p : FileChange → Bool) (ws : List FileChange) → (entries_held (filter p ws) ≤ entries_held ws) × (waiting_size (filter p ws) ≤ waiting_size ws)
fewer_need p [] = (omega arith, omega arith)
fewer_need p (w ∷ ws) = by (p w) (fewer_need p ws)
  where
    by : (b : Bool) → (entries_held (filter p ws) ≤ entries_held ws) × (waiting_size (filter p ws) ≤ waiting_size ws) → (entries_held (cond b (w ∷ filter p ws) (filter p ws)) ≤ entries_held (w ∷ ws)) × (waiting_size (cond b (w ∷ filter p ws) (filter p ws)) ≤ waiting_size (w ∷ ws))
    by true h = let a = h.0 in let b = h.1 in (omega (arith, a), omega (arith, b))
    by false h = let a = h.0 in let b = h.1 in (omega (arith, a), omega (arith, b))

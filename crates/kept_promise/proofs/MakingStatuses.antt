-- What a call that makes a file or a directory, or removes one, may be refused by, where its name is spelt.
use Rattle.std.proofs.Common.{inl, inr, ◌≡◌, ℕ, ◌≤◌, List, [], ◌∷◌, length, Option, Some, None, Result, Ok, Err, Bool, true, false, ◌==◌, refl, sym, subst, nat_lt, ◌+◌, if◌then◌else◌}
use Rattle.std.specs.Option.{option_map}
use Rattle.xdr_codec.specs.Status.{status_number}
use Rattle.xdr_codec.specs.declared.status.Status.{Status}
use Rattle.xdr_codec.specs.declared.status.Status.TheVariants as status
use Rattle.tree_nodes.specs.declared.node.Node.{Node}
use Rattle.tree_nodes.specs.Nodes.{named, names}
use Rattle.tree_reading.specs.Chain.{◌>>=◌}
use Rattle.tree_reading.specs.Names.{is_dot_dot, is_misspelt, spelt, undotted}
use Rattle.tree_reading.specs.Tree.{Tree, is_directory, directory_of, directory_or, or_no_entry, or_taken, changes_most}
use Rattle.tree_reading.specs.Plans.{spared, nothing, create_found, may_create, create_plan, may_mkdir, or_not_empty, remove_done, may_rmdir, rmdir_plan}
use Rattle.file_tree.specs.Step.{created, create, mkdir_if, mkdir, remove_if, rmdir}
use Rattle.tree_reading.specs.declared.call.Changed.{Changed}
use Rattle.tree_reading.specs.declared.call.CreateMode.TheVariants as mode
use Rattle.tree_reading.specs.declared.call.Reservation.{Reservation}
use Rattle.trace_replay.specs.Complete.{IsNameRefused}
use Rattle.kept_promise.proofs.Common.{Contains, Contains-append_left, Contains-push}
use Rattle.kept_promise.proofs.Checks.{FailsBy, done, fails, chain, directory_fails, spelt_fails}
use Rattle.kept_promise.proofs.TreeWalks.{IsUndotted}

-- by what its path is found to be, or by one of these
abbrev pub IsWith : List ℕ → (status : ℕ) → Type 0
IsWith others status = IsNameRefused status others

abbrev pub Refuses : {A : Type 0} → List ℕ → Result A Status → Type 0
Refuses others r = FailsBy (IsWith others) r

-- ---- the directory, the name, and room for one more change

pub directory_refused : (others : List ℕ) (nodes : List Node) (id : ℕ) → Refuses others (directory_of nodes id)
directory_refused others nodes id = directory_fails (IsWith others) nodes id (inl (inr (inl refl))) (inl (inr (inr refl)))

pub undotted_refused : (others : List ℕ) (dot two : Status) (name : List ℕ) → IsUndotted name → Refuses others (undotted dot two name)
undotted_refused others dot two name plain =
    subst (λ (b : Bool). Refuses others (if b then Err dot else (if is_dot_dot name then Err two else Ok tt))) (sym plain.0)
    (subst (λ (b : Bool). Refuses others (if b then Err two else Ok tt)) (sym plain.1) (done (IsWith others) tt))

pub spared_refused : (others : List ℕ) (changes : ℕ) (held : Reservation) (n : ℕ) → Contains others 28 → Refuses others (spared changes held n)
spared_refused others changes held n there = by (nat_lt changes_most (changes + held.entries + n))
  where
    by : (b : Bool) → (let r : Result Unit Status = if b then Err status.NoSpc else Ok tt in Refuses others r)
    by true = fails (IsWith others) status.NoSpc (inr there)
    by false = done (IsWith others) tt

-- ---- CREATE

abbrev made_others : List ℕ
made_others = 17 ∷ 28 ∷ []

taken_there : Contains made_others 17
taken_there = Contains-append_left (17 ∷ []) (28 ∷ []) 17 (Contains-push [] 17)

full_there : Contains made_others 28
full_there = Contains-push (17 ∷ []) 28

found_refused : (changes : ℕ) (held : Reservation) (o : Option Node) → Refuses made_others (create_found changes held mode.Guarded o)
found_refused changes held None = chain (IsWith made_others) (spared changes held 1) _ (spared_refused made_others changes held 1 full_there) (λ u. done (IsWith made_others) None)
found_refused changes held (Some n) = fails (IsWith made_others) status.Exist (inr taken_there)

plan_refused : (t : Tree) (held : Reservation) (dir : ℕ) (name : List ℕ) → IsUndotted name → length name ≤ 255 → is_misspelt name ≡ false → Refuses made_others (create_plan t held dir name mode.Guarded)
plan_refused t held dir name plain short right =
    chain (IsWith made_others) (may_create t held dir name mode.Guarded) _
    (chain (IsWith made_others) (directory_of t.nodes dir) _ (directory_refused made_others t.nodes dir) (λ d. chain (IsWith made_others) (spelt name) _ (spelt_fails (IsWith made_others) name short right) (λ u. chain (IsWith made_others) (undotted status.Inval status.Inval name) _ (undotted_refused made_others status.Inval status.Inval name plain) (λ v. found_refused t.changes held (named t.nodes dir name)))))
    (λ f. done (IsWith made_others) (option_map nothing f))

created_err : (t : Tree) (dir : ℕ) (name : List ℕ) (r : Result (Option Changed) Status) (s : Status) → (created t dir name r).1 ≡ Err s → r ≡ Err s
created_err t dir name (Err e) s h = again h
  where
    again : ◌≡◌ {A = Result Changed Status} (Err e) (Err s) → ◌≡◌ {A = Result (Option Changed) Status} (Err e) (Err s)
    again h = cc
created_err t dir name (Ok None) s h = absurd cc
created_err t dir name (Ok (Some d)) s h = absurd cc

pub create_refused : (t : Tree) (held : Reservation) (dir : ℕ) (name : List ℕ) (s : Status) → IsUndotted name → length name ≤ 255 → is_misspelt name ≡ false → (create t held dir name mode.Guarded).1 ≡ Err s → IsNameRefused (status_number s) (17 ∷ 28 ∷ [])
create_refused t held dir name s plain short right e = plan_refused t held dir name plain short right s (created_err t dir name (create_plan t held dir name mode.Guarded) s e)

-- ---- MKDIR

may_mkdir_refused : (t : Tree) (held : Reservation) (dir : ℕ) (name : List ℕ) → IsUndotted name → length name ≤ 255 → is_misspelt name ≡ false → Refuses made_others (may_mkdir t held dir name)
may_mkdir_refused t held dir name plain short right =
    chain (IsWith made_others) (directory_of t.nodes dir) _ (directory_refused made_others t.nodes dir) (λ d. chain (IsWith made_others) (spelt name) _ (spelt_fails (IsWith made_others) name short right) (λ u. chain (IsWith made_others) (undotted status.Exist status.Exist name) _ (undotted_refused made_others status.Exist status.Exist name plain)
    (λ v. chain (IsWith made_others) (or_taken (named t.nodes dir name)) _ (by (named t.nodes dir name)) (λ x. spared_refused made_others t.changes held 1 full_there))))
  where
    by : (o : Option Node) → Refuses made_others (or_taken o)
    by None = done (IsWith made_others) tt
    by (Some n) = fails (IsWith made_others) status.Exist (inr taken_there)

mkdir_err : (t : Tree) (dir : ℕ) (name : List ℕ) (r : Result Unit Status) (s : Status) → (mkdir_if t dir name r).1 ≡ Err s → r ≡ Err s
mkdir_err t dir name (Err e) s h = again h
  where
    again : ◌≡◌ {A = Result Changed Status} (Err e) (Err s) → ◌≡◌ {A = Result Unit Status} (Err e) (Err s)
    again h = cc
mkdir_err t dir name (Ok u) s h = absurd cc

pub mkdir_refused : (t : Tree) (held : Reservation) (dir : ℕ) (name : List ℕ) (s : Status) → IsUndotted name → length name ≤ 255 → is_misspelt name ≡ false → (mkdir t held dir name).1 ≡ Err s → IsNameRefused (status_number s) (17 ∷ 28 ∷ [])
mkdir_refused t held dir name s plain short right e = may_mkdir_refused t held dir name plain short right s (mkdir_err t dir name (may_mkdir t held dir name) s e)

-- ---- RMDIR

abbrev gone_others : List ℕ
gone_others = 28 ∷ 66 ∷ []

filled_there : Contains gone_others 66
filled_there = Contains-push (28 ∷ []) 66

room_there : Contains gone_others 28
room_there = Contains-append_left (28 ∷ []) (66 ∷ []) 28 (Contains-push [] 28)

empty_refused : (nodes : List Node) (n : Node) → Refuses gone_others (or_not_empty nodes n)
empty_refused nodes n = by (length (names nodes n.id) == 0)
  where
    by : (b : Bool) → (let r : Result Unit Status = if b then Ok tt else Err status.NotEmpty in Refuses gone_others r)
    by true = done (IsWith gone_others) tt
    by false = fails (IsWith gone_others) status.NotEmpty (inr filled_there)

rmdir_plan_refused : (t : Tree) (held : Reservation) (dir : ℕ) (name : List ℕ) → IsUndotted name → length name ≤ 255 → is_misspelt name ≡ false → Refuses gone_others (rmdir_plan t held dir name)
rmdir_plan_refused t held dir name plain short right =
    chain (IsWith gone_others) (may_rmdir t held dir name) _
    (chain (IsWith gone_others) (directory_of t.nodes dir) _ (directory_refused gone_others t.nodes dir) (λ d. chain (IsWith gone_others) (spelt name) _ (spelt_fails (IsWith gone_others) name short right) (λ u. chain (IsWith gone_others) (undotted status.Inval status.Exist name) _ (undotted_refused gone_others status.Inval status.Exist name plain)
    (λ v. chain (IsWith gone_others) (or_no_entry (named t.nodes dir name) >>= directory_or status.NotDir) _ (chain (IsWith gone_others) (or_no_entry (named t.nodes dir name)) (directory_or status.NotDir) (by (named t.nodes dir name)) (λ n. of n (is_directory n.body)))
    (λ n. chain (IsWith gone_others) (or_not_empty t.nodes n) _ (empty_refused t.nodes n) (λ x. chain (IsWith gone_others) (spared t.changes held 1) _ (spared_refused gone_others t.changes held 1 room_there) (λ y. done (IsWith gone_others) n)))))))
    (λ n. done (IsWith gone_others) (remove_done n))
  where
    by : (o : Option Node) → Refuses gone_others (or_no_entry o)
    by None = fails (IsWith gone_others) status.NoEnt (inl (inl refl))
    by (Some n) = done (IsWith gone_others) n

    of : (n : Node) (b : Bool) → Refuses gone_others (if b then Ok n else Err status.NotDir)
    of n true = done (IsWith gone_others) n
    of n false = fails (IsWith gone_others) status.NotDir (inl (inr (inl refl)))

remove_err : (t : Tree) (dir : ℕ) (r : Result Changed Status) (s : Status) → (remove_if t dir r).1 ≡ Err s → r ≡ Err s
remove_err t dir (Err e) s h = h
remove_err t dir (Ok d) s h = absurd cc

pub rmdir_refused : (t : Tree) (held : Reservation) (dir : ℕ) (name : List ℕ) (s : Status) → IsUndotted name → length name ≤ 255 → is_misspelt name ≡ false → (rmdir t held dir name).1 ≡ Err s → IsNameRefused (status_number s) (28 ∷ 66 ∷ [])
rmdir_refused t held dir name s plain short right e = rmdir_plan_refused t held dir name plain short right s (remove_err t dir (rmdir_plan t held dir name) s e)

-- What a REMOVE of a file and a RENAME may be refused by, where their names are spelt: when they come, and once nothing blocks them.
use Rattle.std.proofs.Common.{inl, inr, ◌≡◌, ℕ, List, [], ◌∷◌, ◌++◌, length, Option, Some, None, Result, Ok, Err, Bool, true, false, ◌&&◌, ◌==◌, refl, if◌then◌else◌}
use Rattle.xdr_codec.specs.Status.{status_number}
use Rattle.xdr_codec.specs.declared.status.Status.{Status}
use Rattle.xdr_codec.specs.declared.status.Status.TheVariants as status
use Rattle.tree_nodes.specs.declared.node.Node.{Node}
use Rattle.tree_nodes.specs.Nodes.{named, names}
use Rattle.tree_reading.specs.Chain.{◌>>=◌}
use Rattle.tree_reading.specs.Names.{spelt, undotted}
use Rattle.tree_reading.specs.Reading.{stands_for, version}
use Rattle.tree_reading.specs.Plans.{remove_done, may_remove, remove_plan, Target, Target.itself, or_within, may_replace, rename_over, is_same, rename_found, planned, rename_plan, spared, is_node}
use Rattle.file_tree.specs.Step.{remove_if, remove, rename_if, rename}
use Rattle.tree_reading.specs.Tree.{Tree, is_directory, is_within, node_of, directory_of, directory_or, file_or, or_no_entry}
use Rattle.tree_reading.specs.declared.call.Changed.{Changed}
use Rattle.tree_reading.specs.declared.call.Reservation.{Reservation}
use Rattle.tree_reading.specs.declared.call.Planned.{Planned}
use Rattle.tree_reading.specs.declared.call.Planned.TheVariants as plan
use Rattle.tree_reading.specs.declared.call.Spot.{Spot}
use Rattle.tree_reading.specs.declared.reading.Standing.{Standing}
use Rattle.tree_calls.specs.declared.asked.Removing.{Removing}
use Rattle.tree_calls.specs.declared.asked.Renaming.{Renaming}
use Rattle.tree_calls.specs.Waiting.{busy_first, remove_comes, is_over_file, over_comes, with_node, rename_comes, still, remove_again, rename_again, asks_remove, asks_rename}
use Rattle.trace_replay.specs.Complete.{IsNameRefused}
use Rattle.kept_promise.proofs.Common.{Contains, Contains-append_left, Contains-push}
use Rattle.kept_promise.proofs.PathNames.{IsName}
use Rattle.kept_promise.proofs.Checks.{done, fails, chain, node_fails, spelt_fails}
use Rattle.kept_promise.proofs.MakingStatuses.{IsWith, Refuses, directory_refused, undotted_refused, spared_refused}

-- ---- the statuses

abbrev remove_others : List ℕ
remove_others = 21 ∷ 28 ∷ 10008 ∷ []

abbrev rename_others : List ℕ
rename_others = 17 ∷ 22 ∷ 28 ∷ 10008 ∷ []

first_of : (others more : List ℕ) (n : ℕ) → Contains others n → Contains (others ++ more) n
first_of others more n h = Contains-append_left others more n h

remove_file : Contains remove_others 21
remove_file = first_of (21 ∷ []) (28 ∷ 10008 ∷ []) 21 (Contains-push [] 21)

remove_full : Contains remove_others 28
remove_full = first_of (21 ∷ 28 ∷ []) (10008 ∷ []) 28 (Contains-push (21 ∷ []) 28)

remove_busy : Contains remove_others 10008
remove_busy = Contains-push (21 ∷ 28 ∷ []) 10008

rename_taken : Contains rename_others 17
rename_taken = first_of (17 ∷ []) (22 ∷ 28 ∷ 10008 ∷ []) 17 (Contains-push [] 17)

rename_below : Contains rename_others 22
rename_below = first_of (17 ∷ 22 ∷ []) (28 ∷ 10008 ∷ []) 22 (Contains-push (17 ∷ []) 22)

rename_full : Contains rename_others 28
rename_full = first_of (17 ∷ 22 ∷ 28 ∷ []) (10008 ∷ []) 28 (Contains-push (17 ∷ 22 ∷ []) 28)

rename_busy : Contains rename_others 10008
rename_busy = Contains-push (17 ∷ 22 ∷ 28 ∷ []) 10008

-- where another change of the session waits, want of space isn't told
busy_refused : (others : List ℕ) (b : Bool) (s : Status) → Contains others 10008 → IsNameRefused (status_number s) others → IsNameRefused (status_number (busy_first b s)) others
busy_refused others false s there h = h
busy_refused others true s there h = by s h
  where
    by : (s : Status) → IsNameRefused (status_number s) others → IsNameRefused (status_number (busy_first true s)) others
    by status.NoSpc h = inr there
    by _ h = h

-- ---- what names stand for

entry_refused : (others : List ℕ) (o : Option Node) → Refuses others (or_no_entry o)
entry_refused others None = fails (IsWith others) status.NoEnt (inl (inl refl))
entry_refused others (Some n) = done (IsWith others) n

node_refused : (others : List ℕ) (nodes : List Node) (id : ℕ) → Refuses others (node_of nodes id)
node_refused others nodes id = node_fails (IsWith others) nodes id (inl (inr (inr refl)))

-- a file that was there, and a name that stood for a node
version_refused : (others : List ℕ) (nodes : List Node) (id : ℕ) → Refuses others (version nodes id)
version_refused others nodes id = chain (IsWith others) (node_of nodes id) (λ n. Ok n.version) (node_refused others nodes id) (λ n. done (IsWith others) n.version)

still_refused : (others : List ℕ) (nodes : List Node) (s : Spot) (id : ℕ) → Contains others 10008 → Refuses others (still nodes s id)
still_refused others nodes s id there = by (is_node id (stands_for nodes s.dir s.name))
  where
    by : (b : Bool) → (let r : Result Unit Status = if b then Ok tt else Err status.Jukebox in Refuses others r)
    by true = done (IsWith others) tt
    by false = fails (IsWith others) status.Jukebox (inr there)

-- ---- REMOVE

remove_plan_refused : (t : Tree) (held : Reservation) (dir : ℕ) (name : List ℕ) → IsName name → Refuses remove_others (remove_plan t held dir name)
remove_plan_refused t held dir name h =
    chain (IsWith remove_others) (may_remove t held dir name) _
    (chain (IsWith remove_others) (directory_of t.nodes dir) _ (directory_refused remove_others t.nodes dir) (λ d. chain (IsWith remove_others) (spelt name) _ (spelt_fails (IsWith remove_others) name h.1 h.2) (λ u. chain (IsWith remove_others) (undotted status.Inval status.Inval name) _ (undotted_refused remove_others status.Inval status.Inval name h.0)
    (λ v. chain (IsWith remove_others) (or_no_entry (named t.nodes dir name) >>= file_or status.IsDir) _ (chain (IsWith remove_others) (or_no_entry (named t.nodes dir name)) (file_or status.IsDir) (entry_refused remove_others (named t.nodes dir name)) (λ n. of n (is_directory n.body)))
    (λ n. chain (IsWith remove_others) (spared t.changes held 1) _ (spared_refused remove_others t.changes held 1 remove_full) (λ y. done (IsWith remove_others) n))))))
    (λ n. done (IsWith remove_others) (remove_done n))
  where
    of : (n : Node) (b : Bool) → Refuses remove_others (if b then Err status.IsDir else Ok n)
    of n true = fails (IsWith remove_others) status.IsDir (inr remove_file)
    of n false = done (IsWith remove_others) n

removed_err : (t : Tree) (dir : ℕ) (r : Result Changed Status) (s : Status) → (remove_if t dir r).1 ≡ Err s → r ≡ Err s
removed_err t dir (Err e) s h = h
removed_err t dir (Ok d) s h = absurd cc

-- when it comes
pub remove_asked : (t : Tree) (held : Reservation) (busy : Bool) (dir : ℕ) (name : List ℕ) (s : Status) → IsName name → asks_remove t held busy dir name ≡ Err s → IsNameRefused (status_number s) (21 ∷ 28 ∷ 10008 ∷ [])
remove_asked t held busy dir name s h e = by busy (remove_plan t held dir name) (remove_plan_refused t held dir name h) s e
  where
    by : (b : Bool) (r : Result Changed Status) → Refuses remove_others r → Refuses remove_others (remove_comes b r)
    by b (Err x) g = fails (IsWith remove_others) (busy_first b x) (busy_refused remove_others b x remove_busy (g x refl))
    by true (Ok c) g = fails (IsWith remove_others) status.Jukebox (inr remove_busy)
    by false (Ok c) g = done (IsWith remove_others) c.id

-- once nothing blocks it
pub remove_late : (nodes : List Node) (r : Removing) (s : Status) → remove_again nodes r ≡ Err s → IsNameRefused (status_number s) (21 ∷ 28 ∷ 10008 ∷ [])
remove_late nodes r s e = chain (IsWith remove_others) (version nodes r.file) (λ v. still nodes r.spot r.file) (version_refused remove_others nodes r.file) (λ v. still_refused remove_others nodes r.spot r.file remove_busy) s e

pub remove_refused : (t : Tree) (held : Reservation) (dir : ℕ) (name : List ℕ) (s : Status) → IsName name → (remove t held dir name).1 ≡ Err s → IsNameRefused (status_number s) (21 ∷ 28 ∷ 10008 ∷ [])
remove_refused t held dir name s h e = remove_plan_refused t held dir name h s (removed_err t dir (remove_plan t held dir name) s e)

-- ---- RENAME

within_refused : (nodes : List Node) (n : Node) (to : ℕ) → Refuses rename_others (or_within nodes n to)
within_refused nodes n to = by (is_directory n.body && is_within nodes n.id to)
  where
    by : (b : Bool) → (let r : Result Unit Status = if b then Err status.Inval else Ok tt in Refuses rename_others r)
    by true = fails (IsWith rename_others) status.Inval (inr rename_below)
    by false = done (IsWith rename_others) tt

replace_refused : (nodes : List Node) (n m : Node) → Refuses rename_others (may_replace nodes n m)
replace_refused nodes n m = by (is_directory n.body)
  where
    empty : (b : Bool) → (let r : Result Unit Status = if b then Ok tt else Err status.Exist in Refuses rename_others r)
    empty true = done (IsWith rename_others) tt
    empty false = fails (IsWith rename_others) status.Exist (inr rename_taken)

    file : (b : Bool) → (let r : Result Unit Status = if b then Err status.Exist else Ok tt in Refuses rename_others r)
    file true = fails (IsWith rename_others) status.Exist (inr rename_taken)
    file false = done (IsWith rename_others) tt

    by : (b : Bool) → (let r : Result Unit Status = elim b [ true ↦ if is_directory m.body && (length (names nodes m.id) == 0) then Ok tt else Err status.Exist | false ↦ if is_directory m.body then Err status.Exist else Ok tt ] in Refuses rename_others r)
    by true = empty (is_directory m.body && (length (names nodes m.id) == 0))
    by false = file (is_directory m.body)

over_refused : (t : Tree) (held : Reservation) (n : Node) (o : Option Node) → Refuses rename_others (rename_over t held n o)
over_refused t held n None = chain (IsWith rename_others) (spared t.changes held 1) _ (spared_refused rename_others t.changes held 1 rename_full) (λ u. done (IsWith rename_others) _)
over_refused t held n (Some m) = chain (IsWith rename_others) (may_replace t.nodes n m) _ (replace_refused t.nodes n m) (λ u. chain (IsWith rename_others) (spared t.changes held 2) _ (spared_refused rename_others t.changes held 2 rename_full) (λ v. done (IsWith rename_others) _))

target_refused : (t : Tree) (held : Reservation) (n : Node) (to : ℕ) (o : Option Node) → Refuses rename_others (rename_found t held n to o)
target_refused t held n to o = by (is_same n o)
  where
    by : (b : Bool) → (let r : Result Target Status = if b then Ok itself else (or_within t.nodes n to >>= λ u. rename_over t held n o) in Refuses rename_others r)
    by true = done (IsWith rename_others) itself
    by false = chain (IsWith rename_others) (or_within t.nodes n to) _ (within_refused t.nodes n to) (λ u. over_refused t held n o)

directory_or_refused : (n : Node) → Refuses rename_others (directory_or status.NotDir n)
directory_or_refused n = by (is_directory n.body)
  where
    by : (b : Bool) → Refuses rename_others (if b then Ok n else Err status.NotDir)
    by true = done (IsWith rename_others) n
    by false = fails (IsWith rename_others) status.NotDir (inl (inr (inl refl)))

rename_plan_refused : (t : Tree) (held : Reservation) (dir : ℕ) (name : List ℕ) (to : ℕ) (to_name : List ℕ) → IsName name → IsName to_name → Refuses rename_others (rename_plan t held dir name to to_name)
rename_plan_refused t held dir name to to_name h k =
    chain (IsWith rename_others) (node_of t.nodes dir) _ (node_refused rename_others t.nodes dir) (λ d. chain (IsWith rename_others) (node_of t.nodes to) _ (node_refused rename_others t.nodes to) (λ e. chain (IsWith rename_others) (directory_or status.NotDir d) _ (directory_or_refused d) (λ x. chain (IsWith rename_others) (directory_or status.NotDir e) _ (directory_or_refused e)
    (λ y. chain (IsWith rename_others) (spelt name) _ (spelt_fails (IsWith rename_others) name h.1 h.2) (λ u. chain (IsWith rename_others) (undotted status.Inval status.Inval name) _ (undotted_refused rename_others status.Inval status.Inval name h.0)
    (λ v. chain (IsWith rename_others) (spelt to_name) _ (spelt_fails (IsWith rename_others) to_name k.1 k.2) (λ w. chain (IsWith rename_others) (undotted status.Inval status.Inval to_name) _ (undotted_refused rename_others status.Inval status.Inval to_name k.0)
    (λ z. chain (IsWith rename_others) (or_no_entry (named t.nodes dir name)) _ (entry_refused rename_others (named t.nodes dir name))
    (λ n. chain (IsWith rename_others) (rename_found t held n to (named t.nodes to to_name)) _ (target_refused t held n to (named t.nodes to to_name)) (λ g. done (IsWith rename_others) (planned n g)))))))))))

renamed_err : (t : Tree) (dir : ℕ) (name : List ℕ) (to : ℕ) (to_name : List ℕ) (r : Result Planned Status) (s : Status) → (rename_if t dir name to to_name r).1 ≡ Err s → r ≡ Err s
renamed_err t dir name to to_name (Err e) s h = again h
  where
    again : ◌≡◌ {A = Result Changed Status} (Err e) (Err s) → ◌≡◌ {A = Result Planned Status} (Err e) (Err s)
    again h = cc
renamed_err t dir name to to_name (Ok (plan.Nothing d)) s h = absurd cc
renamed_err t dir name to to_name (Ok (plan.Free d)) s h = absurd cc
renamed_err t dir name to to_name (Ok (plan.Over d)) s h = absurd cc

-- when it comes
pub rename_asked : (t : Tree) (held : Reservation) (busy : Bool) (dir : ℕ) (name : List ℕ) (to : ℕ) (to_name : List ℕ) (s : Status) → IsName name → IsName to_name → asks_rename t held busy dir name to to_name ≡ Err s → IsNameRefused (status_number s) (17 ∷ 22 ∷ 28 ∷ 10008 ∷ [])
rename_asked t held busy dir name to to_name s h k e = by (stands_for t.nodes to to_name) (rename_plan t held dir name to to_name) (rename_plan_refused t held dir name to to_name h k) s e
  where
    blocked : (n : Standing) (c : Changed) (file busy_ : Bool) → (let r : Result (Option ℕ) Status = if file then (if busy_ then Err status.Jukebox else Ok (Some n.id)) else Ok None in Refuses rename_others (r >>= λ f. Ok (with_node c.id f)))
    blocked n c true true = fails (IsWith rename_others) status.Jukebox (inr rename_busy)
    blocked n c true false = done (IsWith rename_others) _
    blocked n c false b = done (IsWith rename_others) _

    over : (found : Option Standing) (c : Changed) → Refuses rename_others (over_comes busy found >>= λ f. Ok (with_node c.id f))
    over None c = done (IsWith rename_others) _
    over (Some n) c = blocked n c n.is_file busy

    by : (found : Option Standing) (r : Result Planned Status) → Refuses rename_others r → Refuses rename_others (rename_comes busy found r)
    by found (Err x) g = fails (IsWith rename_others) (busy_first (busy && is_over_file found) x) (busy_refused rename_others (busy && is_over_file found) x rename_busy (g x refl))
    by found (Ok (plan.Nothing c)) g = done (IsWith rename_others) _
    by found (Ok (plan.Free c)) g = done (IsWith rename_others) _
    by found (Ok (plan.Over c)) g = over found c

-- once nothing blocks it
pub rename_late : (nodes : List Node) (r : Renaming) (s : Status) → rename_again nodes r ≡ Err s → IsNameRefused (status_number s) (17 ∷ 22 ∷ 28 ∷ 10008 ∷ [])
rename_late nodes r s e = chain (IsWith rename_others) (version nodes r.file) (λ v. still nodes r.from r.node >>= λ u. still nodes r.to r.file) (version_refused rename_others nodes r.file) (λ v. chain (IsWith rename_others) (still nodes r.from r.node) (λ u. still nodes r.to r.file) (still_refused rename_others nodes r.from r.node rename_busy) (λ u. still_refused rename_others nodes r.to r.file rename_busy)) s e

pub rename_refused : (t : Tree) (held : Reservation) (dir : ℕ) (name : List ℕ) (to : ℕ) (to_name : List ℕ) (s : Status) → IsName name → IsName to_name → (rename t held dir name to to_name).1 ≡ Err s → IsNameRefused (status_number s) (17 ∷ 22 ∷ 28 ∷ 10008 ∷ [])
rename_refused t held dir name to to_name s h k e = rename_plan_refused t held dir name to to_name h k s (renamed_err t dir name to to_name (rename_plan t held dir name to to_name) s e)

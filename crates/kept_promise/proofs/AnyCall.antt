-- What the server's taking of any message leaves of its journal and of what waits, whoever sent it.
use Rattle.std.proofs.Common.{◌⊎◌, inl, inr, ◌≡◌, ℕ, zero, suc, ◌+◌, ◌≤◌, List, [], ◌∷◌, ◌++◌, length, Option, Some, None, Result, Ok, Err, Bool, true, false, refl, sym, ap, ◌∙◌, subst, arith, append-nil, if◌then◌else◌}
use Rattle.std.specs.Option.{option_map}
use Rattle.hash_calls.specs.declared.message.Lb.{Lb}
use Rattle.hash_calls.specs.declared.message.Lb.TheVariants as lb
use Rattle.nfs3_calls.specs.declared.message.Nfs.{Nfs}
use Rattle.nfs3_calls.specs.declared.message.Nfs.TheVariants as nfs
use Rattle.wire.specs.declared.message.Body.TheVariants as body
use Rattle.wire.specs.declared.message.Message.TheVariants as message
use Rattle.wire.specs.declared.fault.WireFault.TheVariants as fault
use Rattle.xdr_codec.specs.declared.status.Status.TheVariants as status
use Rattle.tree_nodes.specs.declared.node.Node.{Node as TreeNode}
use Rattle.tree_reading.specs.Tree.{Tree, directory_of, file_or}
use Rattle.tree_reading.specs.Names.{spelt, undotted}
use Rattle.tree_reading.specs.Plans.{nothing, create_plan, create_mode, create_found, may_create}
use Rattle.tree_reading.specs.Chain.{◌>>=◌}
use Rattle.tree_nodes.specs.Nodes.{named}
use Rattle.file_tree.specs.Step.{created as create_made}
use Rattle.tree_reading.specs.declared.call.Changed.{Changed}
use Rattle.tree_reading.specs.declared.call.CreateMode.{CreateMode}
use Rattle.tree_reading.specs.declared.call.CreateMode.TheVariants as mode
use Rattle.tree_reading.specs.declared.call.Reservation.{Reservation}
use Rattle.tree_reading.specs.declared.entry.Entry.{Entry as TreeEntry}
use Rattle.tree_reading.specs.declared.entry.EntryKind.{EntryKind}
use Rattle.tree_reading.specs.declared.entry.EntryKind.TheVariants as kind
use Rattle.tree_calls.specs.Telling.{told as told_by, id_of}
use Rattle.tree_calls.specs.Changing.{before, no_side, said, mode_of, with_done, created, creates, made_of}
use Rattle.tree_calls.specs.Waiting.{calls, told_outcome, some, answered, creates_in, mkdirs_in, rmdirs_in, removes_in, removing, asks_remove, renames_in, renaming, asks_rename}
use Rattle.tree_calls.specs.declared.asked.Done.{Done as Finished}
use Rattle.path_calls.specs.declared.walk.Goal.{Goal}
use Rattle.path_calls.specs.declared.walk.Goal.TheVariants as goal
use Rattle.server_law.proofs.lemmas.Trees.{IsGiven}
use Rattle.server_law.proofs.lemmas.TreeCalls.{bind_ok, ok_is}
use Rattle.tree_calls.specs.declared.asked.Outcome.{Outcome}
use Rattle.tree_calls.specs.declared.asked.Outcome.TheVariants.{Answered, Waits as ToWait}
use Rattle.server_core.specs.State as server
use Rattle.server_core.specs.Closing.{answers, looked_up, entries_by, entered_by, entry_by}
use Rattle.server_core.specs.Recalling.{comes, term_at}
use Rattle.server_core.specs.Step.{asks, asks_tree, hangs_if}
use Rattle.server_core.specs.declared.change.Wanted.TheVariants as wanted
use Rattle.server_core.specs.declared.event.ServerStep.{ServerStep}
use Rattle.trace_replay.specs.Entries.{MayEnter}
use Rattle.trace_ends.specs.Core.{serves_none, serves_unless}
use Rattle.kept_promise.proofs.Common.{slice_get, nat_lt, Failed, Done, Status, Body, Message, WireFault, parse_of, Temp, size_most, temp_at, room_fault, piece_fault, cond_fault, assembled, without_temp, File, Node, file, directory, node_of, called, got_if, at, stands, makes, makes_unless, writes_unless, names_unless, names_bytes, takes_commit, takes_commit_on, commits_whole, has_waiting, is_full, makes_change, Wanted, FileChange, Entry, Core, Session, CoreStep, server_waits, serves, serves_if, change_of, name_answer}
use Rattle.kept_promise.proofs.Lists.{some_is, nothing_there}
use Rattle.kept_promise.proofs.ServesFiles.{count_is}
use Rattle.kept_promise.proofs.PathNames.{builds_at}
use Rattle.kept_promise.proofs.Makings.{made_by, EntryAt, MadeSo, refuses, enters, made_walk}
use Rattle.kept_promise.proofs.GoingCalls.{IsName, no_name, RemoveComes, remove_turned, remove_waits, remove_comes_so, remove_asked, RenameComes, rename_turned, rename_now, rename_waits, rename_comes_so, rename_asked}
use Rattle.kept_promise.proofs.CallsKeep.{Waits}

-- ---- entries

entered_session : (n : ℕ) (o : Option TreeEntry) (i : ℕ) (e : Entry) → slice_get (entered_by n o) i ≡ Some e → e.session ≡ n
entered_session n None i e at = nothing_there e at
entered_session n (Some d) zero e at = ap (λ (z : Entry). z.session) (sym (some_is (entry_by n d) e at))
entered_session n (Some d) (suc i) e at = nothing_there e at

entries_session : (n : ℕ) (first second : Option TreeEntry) (i : ℕ) (e : Entry) → slice_get (entries_by n first second) i ≡ Some e → e.session ≡ n
entries_session n None second i e at = entered_session n second i e at
entries_session n (Some d) second zero e at = ap (λ (z : Entry). z.session) (sym (some_is (entry_by n d) e at))
entries_session n (Some d) second (suc i) e at = entered_session n second i e at

-- ---- a step of the server

-- the journal has entries of a session more, as many as are told
pub record Grown (n : ℕ) (s : server.State) (r : server.State × ServerStep) : Type 0 where
  pub new : List Entry
  pub journal_is : r.0.journal ≡ s.journal ++ new
  pub count : r.1.entries ≡ length new
  pub sessions : (i : ℕ) (e : Entry) → slice_get new i ≡ Some e → e.session ≡ n

-- none is told, and none is there
abbrev pub Stays : server.State → server.State × ServerStep → Type 0
Stays s r = (r.0.journal ≡ s.journal) × (r.1.entries ≡ 0)

-- what waits is as it was, or what this call asked for came to wait
abbrev pub Comes : (n xid : ℕ) → server.State → server.State × ServerStep → Type 0
Comes n xid s r = (r.0.waiting ≡ s.waiting) ⊎ ((c : FileChange) × (c.session ≡ n) × (c.xid ≡ xid) × (r.0.waiting ≡ s.waiting ++ c ∷ []))

-- of a call
abbrev pub CallGrows : (n xid : ℕ) → Body → server.State → server.State × ServerStep → Type 0
CallGrows n xid b s r = (Stays s r × (r.0.waiting ≡ s.waiting)) ⊎ (MayEnter b × Comes n xid s r × (Stays s r ⊎ Grown n s r))

commits_grows : (s : server.State) (n xid size : ℕ) (t : Temp) (nd : Result Node Status) → (let r = takes_commit_on s n xid size t nd in Stays s r × Comes n xid s r)
commits_grows s n xid size t (Err e) = ((refl, refl), inl refl)
commits_grows s n xid size t (Ok directory) = ((refl, refl), inl refl)
commits_grows s n xid size t (Ok (file f)) = by (nat_lt size_most size)
  where
    waits : (content : List ℕ) (a b : Bool) → (let r : server.State × ServerStep = if a then answers s n xid (lb.CommitTmpAnswer (Failed status.Jukebox tt)) else if b then answers s n xid (lb.CommitTmpAnswer (Failed status.NoSpc tt)) else comes s (change_of n xid f.id (wanted.Content content)) in Stays s r × Comes n xid s r)
    waits content true b = ((refl, refl), inl refl)
    waits content false true = ((refl, refl), inl refl)
    waits content false false = ((refl, refl), inr (change_of n xid f.id (wanted.Content content), refl, refl, refl))

    whole : (o : Option (List ℕ)) → (let r = commits_whole s n xid f.id o in Stays s r × Comes n xid s r)
    whole None = ((refl, refl), inl refl)
    whole (Some content) = waits content (has_waiting s.waiting n) (is_full s (length content))

    by : (b : Bool) → (let r : server.State × ServerStep = if b then answers s n xid (lb.CommitTmpAnswer (Failed status.FBig tt)) else commits_whole s n xid f.id (assembled t size) in Stays s r × Comes n xid s r)
    by true = ((refl, refl), inl refl)
    by false = whole (assembled t size)

-- a call on files makes none
abbrev LbGrows : (n xid : ℕ) → Body → server.State → server.State × ServerStep → Type 0
LbGrows n xid b s r = (Stays s r × (r.0.waiting ≡ s.waiting)) ⊎ (MayEnter b × Comes n xid s r × Stays s r)

lb_grows : (s : server.State) (n xid : ℕ) (m : Lb) → LbGrows n xid (body.Lb m) s (called s n xid (body.Lb m))
lb_grows s n xid (lb.CondWrite a) = by (cond_fault a (temp_at s.temps n a.fd))
  where
    bytes : (t : Option Temp) (o : Option (List ℕ)) → LbGrows n xid (body.Lb (lb.CondWrite a)) s (names_bytes (looked_up s a) n xid a t o)
    bytes (Some t) (Some b) = inl ((refl, refl), refl)
    bytes (Some t) None = inl ((refl, refl), refl)
    bytes None o = inl ((refl, refl), refl)

    by : (o : Option Status) → LbGrows n xid (body.Lb (lb.CondWrite a)) s (names_unless s n xid a (temp_at s.temps n a.fd) o)
    by (Some e) = inl ((refl, refl), refl)
    by None = bytes (temp_at s.temps n a.fd) _
lb_grows s n xid (lb.MkTmpFile a) = by (node_of s.tree a.handle)
  where
    room : (f : File) (o : Option Status) → LbGrows n xid (body.Lb (lb.MkTmpFile a)) s (makes_unless s n xid a.fd f.id o)
    room f (Some e) = inl ((refl, refl), refl)
    room f None = inl ((refl, refl), refl)

    by : (nd : Result Node Status) → LbGrows n xid (body.Lb (lb.MkTmpFile a)) s (makes s n xid a.fd nd)
    by (Err e) = inl ((refl, refl), refl)
    by (Ok directory) = inl ((refl, refl), refl)
    by (Ok (file f)) = room f (room_fault s.temps n a.fd)
lb_grows s n xid (lb.TmpWrite a) = by (temp_at s.temps n a.fd) (piece_fault (temp_at s.temps n a.fd) a.offset (length a.bytes))
  where
    by : (t : Option Temp) (o : Option Status) → LbGrows n xid (body.Lb (lb.TmpWrite a)) s (writes_unless s n xid a t o)
    by (Some t) None = inl ((refl, refl), refl)
    by (Some t) (Some e) = inl ((refl, refl), refl)
    by None o = inl ((refl, refl), refl)
lb_grows s n xid (lb.CommitTmp a) = by (temp_at s.temps n a.fd)
  where
    by : (t : Option Temp) → LbGrows n xid (body.Lb (lb.CommitTmp a)) s (takes_commit s n xid a t)
    by None = inl ((refl, refl), refl)
    by (Some t) = (let h = commits_grows (record s { temps = without_temp s.temps n a.fd }) n xid a.size t (node_of s.tree a.handle) in inr (tt, h.1, h.0))
lb_grows s n xid m = inl ((refl, refl), refl)

-- what a call on names comes to over the tree
asks_grows : (s : server.State) (n xid : ℕ) (p : Tree × Option Outcome) → (let r = asks_tree s n xid p in Comes n xid s r × (Stays s r ⊎ Grown n s r))
asks_grows s n xid p = by p.1
  where
    by : (o : Option Outcome) → (let r = asks (record s { tree = p.0 }) n xid o in Comes n xid s r × (Stays s r ⊎ Grown n s r))
    by None = (inl refl, inl (refl, refl))
    by (Some (Answered d)) = (inl refl, inr (record { new = entries_by n d.first d.second; journal_is = refl; count = count_is n d.first d.second; sessions = λ i e at. entries_session n d.first d.second i e at }))
    by (Some (ToWait a)) = (inr (change_of n xid (Rattle.tree_calls.specs.Waiting.file_of a) (wanted.Asked a), refl, refl, refl), inl (refl, refl))

-- a call that changes nothing has no entry
tells_none : (s : server.State) (n xid : ℕ) (b : Body) (o : Option Nfs) → CallGrows n xid b s (asks_tree s n xid (s.tree, told_outcome o))
tells_none s n xid b None = inl ((refl, refl), refl)
tells_none s n xid b (Some m) = inl ((append-nil s.journal, refl), refl)

nfs_grows : (s : server.State) (n xid : ℕ) (m : Nfs) → CallGrows n xid (body.Nfs m) s (called s n xid (body.Nfs m))
nfs_grows s n xid nfs.Null = inl ((refl, refl), refl)
nfs_grows s n xid (nfs.Read r) = inl ((refl, refl), refl)
nfs_grows s n xid (nfs.Create a) = (let h = asks_grows s n xid (calls s.tree (server.held s.waiting) (has_waiting s.waiting n) (nfs.Create a)) in inr (tt, h.0, h.1))
nfs_grows s n xid (nfs.MkDir a) = (let h = asks_grows s n xid (calls s.tree (server.held s.waiting) (has_waiting s.waiting n) (nfs.MkDir a)) in inr (tt, h.0, h.1))
nfs_grows s n xid (nfs.Remove a) = (let h = asks_grows s n xid (calls s.tree (server.held s.waiting) (has_waiting s.waiting n) (nfs.Remove a)) in inr (tt, h.0, h.1))
nfs_grows s n xid (nfs.RmDir a) = (let h = asks_grows s n xid (calls s.tree (server.held s.waiting) (has_waiting s.waiting n) (nfs.RmDir a)) in inr (tt, h.0, h.1))
nfs_grows s n xid (nfs.Rename a) = (let h = asks_grows s n xid (calls s.tree (server.held s.waiting) (has_waiting s.waiting n) (nfs.Rename a)) in inr (tt, h.0, h.1))
nfs_grows s n xid m = tells_none s n xid (body.Nfs m) (told_by s.tree.nodes m)

pub body_grows : (s : server.State) (n xid : ℕ) (b : Body) → CallGrows n xid b s (called s n xid b)
body_grows s n xid (body.Lb m) = elim (lb_grows s n xid m) [ inl h ↦ inl h | inr h ↦ inr (h.0, h.1, inl h.2) ]
body_grows s n xid (body.Nfs m) = nfs_grows s n xid m
body_grows s n xid (body.Back z) = inl ((refl, refl), refl)

pub change_grows : (s : server.State) (c : FileChange) (w : Wanted) → Grown c.session s (makes_change s c w)
change_grows s c (wanted.Content content) =
    let p = Rattle.tree_calls.specs.Waiting.gives_content s.tree (server.held s.waiting) c.file content (term_at s c.file) in
    record { new = entries_by c.session p.1.entry None; journal_is = refl; count = count_is c.session p.1.entry None; sessions = λ i e at. entries_session c.session p.1.entry None i e at }
change_grows s c (wanted.Asked a) =
    let p = Rattle.tree_calls.specs.Waiting.settles s.tree (server.held s.waiting) a in
    record { new = entries_by c.session p.1.first p.1.second; journal_is = refl; count = count_is c.session p.1.first p.1.second; sessions = λ i e at. entries_session c.session p.1.first p.1.second i e at }

pub change_waits : (s : server.State) (c : FileChange) (w : Wanted) → (makes_change s c w).0.waiting ≡ s.waiting
change_waits s c (wanted.Content content) = refl
change_waits s c (wanted.Asked a) = refl

-- ---- a call on names, whoever asks

-- Each comes to nothing, but for an answer; or is made at once, as a walk's last call that makes a file, or makes or removes a directory; or is one that removes or renames.
pub data TreeAny (t : Tree) (held : Reservation) (busy : Bool) (p : Tree × Option Outcome) : Type 0 where
  quietly : (o : Option Nfs) → p ≡ (t, told_outcome o) → TreeAny t held busy p
  builds : (dir : ℕ) (g : Goal) → builds_at [] g ≡ true → p ≡ some (answered (made_by t held dir g)) → TreeAny t held busy p
  removes : (dir : ℕ) (name : List ℕ) → p ≡ (t, Some (removing dir name (asks_remove t held busy dir name))) → TreeAny t held busy p
  renames : (from : ℕ) (name : List ℕ) (to : ℕ) (to_name : List ℕ) → p ≡ some (renaming t held from name to to_name (asks_rename t held busy from name to to_name)) → TreeAny t held busy p

-- a CREATE that makes its file makes it as one does that finds none, and any other changes nothing
creates_any : (t : Tree) (held : Reservation) (busy : Bool) (dir : ℕ) (name : List ℕ) (m : CreateMode) → TreeAny t held busy (some (answered (creates t held dir name m)))
creates_any t held busy dir name m = by (create_plan t held dir name m) refl
  where
    none_some : {A : Type 0} (x : A) → ◌≡◌ {A = Option A} None (Some x) → ⊥
    none_some x e = absurd cc

    some_none : {A : Type 0} (x : A) → ◌≡◌ {A = Option A} (Some x) None → ⊥
    some_none x e = absurd cc

    -- what is there stays
    found : (o : Option TreeNode) (done : Changed) → option_map nothing o ≡ Some done → (n : TreeNode) × (nothing n ≡ done)
    found None done e = absurd (none_some done e)
    found (Some n) done e = (n, cc)

    free : (o : Option TreeNode) → option_map nothing o ≡ None → o ≡ None
    free None e = refl
    free (Some n) e = absurd (some_none (nothing n) e)

    free_found : (o : Option TreeNode) → create_found t.changes held mode.Unchecked o ≡ Ok None → create_found t.changes held mode.Guarded o ≡ Ok None
    free_found None e = e
    free_found (Some n) e = absurd (never (file_or status.Exist n) e)
      where
        never : (r : Result TreeNode Status) → (r >>= λ f. Ok (Some f)) ≡ Ok None → ⊥
        never (Ok f) e = absurd cc
        never (Err s) e = absurd cc

    guarded_mode : (m : CreateMode) → create_mode t held dir name m ≡ Ok None → create_mode t held dir name mode.Guarded ≡ Ok None
    guarded_mode mode.Exclusive e = absurd cc
    guarded_mode mode.Guarded e = e
    guarded_mode mode.Unchecked e = free_found (named t.nodes dir name) e

    guarded : create_plan t held dir name m ≡ Ok None → create_plan t held dir name mode.Guarded ≡ Ok None
    guarded e =
        let p = bind_ok (may_create t held dir name m) (λ o. Ok (option_map nothing o)) None e in
        let none = free p.0 (ok_is (option_map nothing p.0) None p.2) in
        let a = bind_ok (directory_of t.nodes dir) (λ _. spelt name >>= λ _. undotted status.Inval status.Inval name >>= λ _. create_mode t held dir name m) p.0 p.1 in
        let b = bind_ok (spelt name) (λ _. undotted status.Inval status.Inval name >>= λ _. create_mode t held dir name m) p.0 a.2 in
        let c = bind_ok (undotted status.Inval status.Inval name) (λ _. create_mode t held dir name m) p.0 b.2 in
        let last = guarded_mode m (c.2 ∙ ap (λ (o : Option TreeNode). Ok o) none) in
        ap (λ (r : Result TreeNode Status). r >>= (λ _. spelt name >>= λ _. undotted status.Inval status.Inval name >>= λ _. create_mode t held dir name mode.Guarded) >>= (λ o. Ok (option_map nothing o))) a.1
        ∙ ap (λ (r : Result Unit Status). r >>= (λ _. undotted status.Inval status.Inval name >>= λ _. create_mode t held dir name mode.Guarded) >>= (λ o. Ok (option_map nothing o))) b.1
        ∙ ap (λ (r : Result Unit Status). r >>= (λ _. create_mode t held dir name mode.Guarded) >>= (λ o. Ok (option_map nothing o))) c.1
        ∙ ap (λ (r : Result (Option TreeNode) Status). r >>= (λ o. Ok (option_map nothing o))) last

    by : (r : Result (Option Changed) Status) → create_plan t held dir name m ≡ r → TreeAny t held busy (some (answered (creates t held dir name m)))
    by (Err s) is = quietly (Some (nfs.CreateAnswer (Failed s no_side))) (ap (λ z. some (answered (with_done (created (before t.nodes dir) dir) (create_made t dir name z)))) is)
    by (Ok None) is = builds dir (goal.Make name) refl (ap (λ z. some (answered (with_done (created (before t.nodes dir) dir) (create_made t dir name z)))) (is ∙ sym (guarded is)))
    by (Ok (Some done)) is =
        let p = bind_ok (may_create t held dir name m) (λ o. Ok (option_map nothing o)) (Some done) is in
        let n = found p.0 done (ok_is (option_map nothing p.0) (Some done) p.2) in
        quietly (Some (nfs.CreateAnswer (Done (made_of (before t.nodes dir) dir t.nodes (nothing n.0))))) (ap (λ z. some (answered (with_done (created (before t.nodes dir) dir) (create_made t dir name z)))) (is ∙ ap (λ (c : Changed). Ok (Some c)) (sym n.1)))

pub tree_any : (t : Tree) (held : Reservation) (busy : Bool) (m : Nfs) → TreeAny t held busy (calls t held busy m)
tree_any t held busy (nfs.Create f) = by (id_of f.place.dir)
  where
    by : (r : Result ℕ Status) → TreeAny t held busy (some (answered (creates_in t held f r)))
    by (Err s) = quietly (Some (nfs.CreateAnswer (Failed s no_side))) refl
    by (Ok dir) = creates_any t held busy dir f.place.name (mode_of f.how)
tree_any t held busy (nfs.MkDir d) = by (id_of d.place.dir)
  where
    by : (r : Result ℕ Status) → TreeAny t held busy (some (answered (mkdirs_in t held d.place.name r)))
    by (Err s) = quietly (Some (nfs.MkDirAnswer (Failed s no_side))) refl
    by (Ok dir) = builds dir (goal.MakeDir d.place.name) refl refl
tree_any t held busy (nfs.RmDir p) = by (id_of p.dir)
  where
    by : (r : Result ℕ Status) → TreeAny t held busy (some (answered (rmdirs_in t held p.name r)))
    by (Err s) = quietly (Some (nfs.RmDirAnswer (Failed s no_side))) refl
    by (Ok dir) = builds dir (goal.RemoveDir p.name) refl refl
tree_any t held busy (nfs.Remove p) = by (id_of p.dir)
  where
    by : (r : Result ℕ Status) → TreeAny t held busy (t, Some (removes_in t held busy p.name r))
    by (Err s) = quietly (Some (nfs.RemoveAnswer (Failed s no_side))) refl
    by (Ok dir) = removes dir p.name refl
tree_any t held busy (nfs.Rename r) = by (id_of r.from.dir) (id_of r.to.dir)
  where
    by : (a b : Result ℕ Status) → TreeAny t held busy (some (renames_in t held busy r.from.name r.to.name a b))
    by (Ok dir) (Ok to) = renames dir r.from.name to r.to.name refl
    by (Ok dir) (Err s) = quietly (Some (nfs.RenameAnswer (Failed s (record { from = no_side; to = no_side })))) refl
    by (Err s) b = quietly (Some (nfs.RenameAnswer (Failed s (record { from = no_side; to = no_side })))) refl
tree_any t held busy m = quietly (told_by t.nodes m) refl

-- ---- no entry that is made at once is of a content that was replaced, or of a file that went

abbrev pub IsNew : EntryKind → Type 0
IsNew what = (what ≡ kind.Commit → ⊥) × (what ≡ kind.Remove → ⊥)

abbrev pub AreNew : List Entry → Type 0
AreNew es = (i : ℕ) (e : Entry) → slice_get es i ≡ Some e → IsNew e.kind

abbrev pub Entered : server.State → server.State × ServerStep → Type 0
Entered s r = (es : List Entry) × (r.0.journal ≡ s.journal ++ es) × (r.1.entries ≡ length es) × AreNew es

none_entered : (s : server.State) (r : server.State × ServerStep) → Stays s r → Entered s r
none_entered s r h = ([], h.0 ∙ sym (append-nil s.journal), h.1, λ i e at. nothing_there e at)

name_new : IsNew kind.Name
name_new = (λ e. absurd cc, λ e. absurd cc)

make_new : IsNew kind.Make
make_new = (λ e. absurd cc, λ e. absurd cc)

entry_new : (t : Tree) (g : Goal) (e : TreeEntry) → EntryAt t g e → IsNew e.kind
entry_new t (goal.Make name) e is = subst IsNew (sym (ap (λ (z : TreeEntry). z.kind) is)) make_new
entry_new t g e is = subst IsNew (sym is) name_new

-- as the tree's entry is, so is the journal's
written_new : (n : ℕ) (d : TreeEntry) (e : Entry) → Some (entry_by n d) ≡ Some e → IsNew d.kind → IsNew e.kind
written_new n d e is new = subst IsNew (ap (λ (z : Entry). z.kind) (some_is (entry_by n d) e is)) new

names_new : (n : ℕ) (first second : Option TreeEntry) → IsName first → IsName second → AreNew (entries_by n first second)
names_new n None second a b i e at = of second b i at
  where
    of : (o : Option TreeEntry) → IsName o → (i : ℕ) → slice_get (entered_by n o) i ≡ Some e → IsNew e.kind
    of None b i at = nothing_there e at
    of (Some d) b zero at = written_new n d e at (subst IsNew (sym (b d refl)) name_new)
    of (Some d) b (suc i) at = nothing_there e at
names_new n (Some d) second a b zero e at = written_new n d e at (subst IsNew (sym (a d refl)) name_new)
names_new n (Some d) second a b (suc i) e at = names_new n None second no_name b i e at

asks_entered : (s : server.State) (n xid : ℕ) (busy : Bool) (p : Tree × Option Outcome) → IsGiven s.tree → TreeAny s.tree (server.held s.waiting) busy p → Entered s (asks_tree s n xid p)
asks_entered s n xid busy p given (quietly o is) = subst (λ (z : Tree × Option Outcome). Entered s (asks_tree s n xid z)) (sym is) (by o)
  where
    by : (o : Option Nfs) → Entered s (asks_tree s n xid (s.tree, told_outcome o))
    by None = none_entered s (asks_tree s n xid (s.tree, None)) (refl, refl)
    by (Some m) = none_entered s (asks_tree s n xid (s.tree, told_outcome (Some m))) (append-nil s.journal, refl)
asks_entered s n xid busy p given (builds dir g makes is) = subst (λ (z : Tree × Option Outcome). Entered s (asks_tree s n xid z)) (sym is) (by (made_walk s.tree (server.held s.waiting) (record { dir = dir; left = []; goal = g }) makes))
  where
    plain : (e : TreeEntry) → EntryAt s.tree g e → AreNew (entries_by n (Some e) None)
    plain e is zero d at = written_new n e d at (entry_new s.tree g e is)
    plain e is (suc i) d at = nothing_there d at

    by : MadeSo s.tree (server.held s.waiting) (record { dir = dir; left = []; goal = g }) → Entered s (asks_tree s n xid (some (answered (made_by s.tree (server.held s.waiting) dir g))))
    by (refuses st r is err turned leads procs) = subst (λ (z : Tree × Finished). Entered s (asks_tree s n xid (some (answered z)))) (sym is) (none_entered s (asks_tree s n xid (some (answered (s.tree, said (name_answer r))))) (append-nil s.journal, refl))
    by (enters done e r after is step first second entry_is after_is leads procs) = subst (λ (z : Tree × Finished). Entered s (asks_tree s n xid (some (answered z)))) (sym is) (entries_by n (Some e) None, refl, refl, plain e entry_is)
asks_entered s n xid busy p given (removes dir name is) = subst (λ (z : Tree × Option Outcome). Entered s (asks_tree s n xid z)) (sym is) (by (remove_comes_so s.tree (server.held s.waiting) busy dir name))
  where
    by : RemoveComes s.tree (server.held s.waiting) busy dir name → Entered s (asks_tree s n xid (s.tree, Some (removing dir name (asks_remove s.tree (server.held s.waiting) busy dir name))))
    by (remove_turned st r is why refuses_ leads procs) = subst (λ (o : Outcome). Entered s (asks_tree s n xid (s.tree, Some o))) (sym is) (none_entered s (asks_tree s n xid (s.tree, Some (Answered (said (name_answer r))))) (append-nil s.journal, refl))
    by (remove_waits m content is free at body room) = subst (λ (o : Outcome). Entered s (asks_tree s n xid (s.tree, Some o))) (sym is) (none_entered s (asks_tree s n xid (s.tree, Some (ToWait (remove_asked dir name m.id)))) (refl, refl))
asks_entered s n xid busy p given (renames from name to to_name is) = subst (λ (z : Tree × Option Outcome). Entered s (asks_tree s n xid z)) (sym is) (by (rename_comes_so s.tree given (server.held s.waiting) busy from name to to_name))
  where
    by : RenameComes s.tree (server.held s.waiting) busy from name to to_name → Entered s (asks_tree s n xid (some (renaming s.tree (server.held s.waiting) from name to to_name (asks_rename s.tree (server.held s.waiting) busy from name to to_name))))
    by (rename_turned st r is why refuses_ leads procs) = subst (λ (z : Tree × Outcome). Entered s (asks_tree s n xid (some z))) (sym is) (none_entered s (asks_tree s n xid (some (s.tree, Answered (said (name_answer r))))) (append-nil s.journal, refl))
    by (rename_now done after r is m leads procs) = subst (λ (z : Tree × Outcome). Entered s (asks_tree s n xid (some z))) (sym is) (entries_by n done.first done.second, refl, count_is n done.first done.second, names_new n done.first done.second m.first m.second)
    by (rename_waits m g content is free at over_ apart body room) = subst (λ (z : Tree × Outcome). Entered s (asks_tree s n xid (some z))) (sym is) (none_entered s (asks_tree s n xid (some (s.tree, ToWait (rename_asked from name to to_name m.id g.id)))) (refl, refl))

nfs_entered : (s : server.State) (n xid : ℕ) (m : Nfs) → IsGiven s.tree → Entered s (called s n xid (body.Nfs m))
nfs_entered s n xid nfs.Null given = none_entered s (called s n xid (body.Nfs nfs.Null)) (refl, refl)
nfs_entered s n xid (nfs.Read r) given = none_entered s (called s n xid (body.Nfs (nfs.Read r))) (refl, refl)
nfs_entered s n xid m given = asks_entered s n xid (has_waiting s.waiting n) (calls s.tree (server.held s.waiting) (has_waiting s.waiting n) m) given (tree_any s.tree (server.held s.waiting) (has_waiting s.waiting n) m)

-- of any message
pub any_entered : (s : server.State) (n : ℕ) (m : Message) (now : ℕ) (b : Bool) → IsGiven s.tree → Entered s (got_if s b n m now)
any_entered s n (message.Call xid (body.Nfs m)) now true given = nfs_entered (at s now) n xid m given
any_entered s n (message.Call xid (body.Lb m)) now true given = elim (lb_grows (at s now) n xid m) [ inl h ↦ none_entered s (called (at s now) n xid (body.Lb m)) h.0 | inr h ↦ none_entered s (called (at s now) n xid (body.Lb m)) h.2 ]
any_entered s n (message.Call xid (body.Back z)) now true given = none_entered s (called (at s now) n xid (body.Back z)) (refl, refl)
any_entered s n (message.Unfit xid why) now true given = none_entered s (got_if s true n (message.Unfit xid why) now) (refl, refl)
any_entered s n (message.Answer xid b) now true given = none_entered s (got_if s true n (message.Answer xid b) now) (refl, refl)
any_entered s n (message.Refuse xid why) now true given = none_entered s (got_if s true n (message.Refuse xid why) now) (refl, refl)
any_entered s n m now false given = none_entered s (got_if s false n m now) (refl, refl)

-- ---- and nothing more waits, or one change of the session

pub any_waits : (s : server.State) (n : ℕ) (m : Message) (now : ℕ) (b : Bool) → Waits s.waiting n (λ c. Unit {0}) (got_if s b n m now).0.waiting
any_waits s n (message.Call xid b) now true = by (body_grows (at s now) n xid b)
  where
    came : Comes n xid (at s now) (called (at s now) n xid b) → Waits s.waiting n (λ c. Unit {0}) (called (at s now) n xid b).0.waiting
    came (inl same) = inl same
    came (inr c) = inr (c.0, c.1, c.3, tt)

    by : CallGrows n xid b (at s now) (called (at s now) n xid b) → Waits s.waiting n (λ c. Unit {0}) (called (at s now) n xid b).0.waiting
    by (inl h) = inl h.1
    by (inr h) = came h.1
any_waits s n (message.Unfit xid why) now true = inl refl
any_waits s n (message.Answer xid b) now true = inl refl
any_waits s n (message.Refuse xid why) now true = inl refl
any_waits s n m now false = inl refl

-- ---- a connection that is lost, or closed

pub hung_journal : (s : server.State) (n : ℕ) (b : Bool) → (hangs_if s b n).0.journal ≡ s.journal
hung_journal s n true = refl
hung_journal s n false = refl

-- ---- nobody but the server moves

pub serves_plain : (k : Core) (n now : ℕ) (bytes : List ℕ) (x : Option Session) → (let t = serves k n now bytes x in (t.up ≡ []) × (t.core.seats ≡ k.seats) × (k.steps ≤ t.core.steps))
serves_plain k n now bytes None = (refl, refl, omega arith)
serves_plain k n now bytes (Some x) = by x.hung
  where
    none : (e : WireFault) → (let t = serves_none k n x e in (t.up ≡ []) × (t.core.seats ≡ k.seats) × (k.steps ≤ t.core.steps))
    none (fault.UnknownXid xid) = (refl, refl, omega arith)
    none _ = (refl, refl, omega arith)

    read : (m : Result Message WireFault) → (let t = serves_if k n now x m in (t.up ≡ []) × (t.core.seats ≡ k.seats) × (k.steps ≤ t.core.steps))
    read (Ok m) = (refl, refl, omega arith)
    read (Err e) = none e

    by : (b : Bool) → (let t = serves_unless k n now bytes x b in (t.up ≡ []) × (t.core.seats ≡ k.seats) × (k.steps ≤ t.core.steps))
    by true = (refl, refl, omega arith)
    by false = read (parse_of (server_waits k n) bytes)

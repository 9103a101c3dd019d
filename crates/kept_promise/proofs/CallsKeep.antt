-- What the server changes as it takes a message that asks for nothing by a name: its temporary files, the pending changes, its index and its
-- moment, and nothing else; and what any message leaves of the tree.
use Rattle.std.proofs.Common.{◌⊎◌, inl, inr, ◌≡◌, refl, ℕ, List, ◌∷◌, ◌++◌, [], length, Option, Some, None, Result, Ok, Err, Bool, true, false, sym, subst, append-nil}
use Rattle.hash_calls.specs.declared.message.Lb.TheVariants as lb
use Rattle.nfs3_calls.specs.declared.message.Nfs.{Nfs}
use Rattle.nfs3_calls.specs.declared.message.Nfs.TheVariants as nfs
use Rattle.wire.specs.declared.message.Body.TheVariants as body
use Rattle.wire.specs.declared.message.Message.TheVariants as message
use Rattle.xdr_codec.specs.declared.status.Status.TheVariants as status
use Rattle.chunk_index.specs.Index.{key_of as digest_key, place_of}
use Rattle.server_core.specs.State as server
use Rattle.server_core.specs.Closing.{answers, names_unless, names_bytes, looked_up as index_found, writes_unless}
use Rattle.chunk_calls.specs.Writing.{bytes_known, cond_fault}
use Rattle.server_core.specs.declared.event.Event.TheVariants as event
use Rattle.kept_promise.proofs.Common.{Temp, size_most, temp_at, room_fault, piece_fault, assembled, without_temp, nat_lt, if◌then◌else◌, Failed, Status, Body, Message, Indexed, Node, directory, file, node_of, File, FileChange, ServerStep, server_step, called, got_if, stands, at, makes, makes_unless, takes_commit, takes_commit_on, commits_whole, has_waiting, is_full, Tree, Ask, ask_message, Call, Call.Walks, Entry, Leasing, change_of}
use Rattle.server_core.specs.Recalling.{comes}
use Rattle.server_core.specs.declared.change.Wanted.TheVariants as wanted
use Rattle.server_core.specs.Step.{asks, asks_tree}
use Rattle.tree_calls.specs.Telling.{told as told_by}
use Rattle.tree_calls.specs.Waiting.{calls, told_outcome}
use Rattle.trace_replay.specs.NameChanges.{ChangesNames}
use Rattle.tree_calls.specs.declared.asked.Outcome.{Outcome}
use Rattle.tree_calls.specs.declared.asked.Outcome.TheVariants.{Answered, Waits as ToWait}
use Rattle.server_law.proofs.lemmas.Trees.{Keeps, keeps_same}
use Rattle.server_law.proofs.lemmas.TreeCalls.{calls_keep}
use Rattle.kept_promise.proofs.TreeNameCalls.{calls_dirs}
use Rattle.kept_promise.proofs.TreeNames.{KeepsDirs, dirs_same}
use Rattle.path_calls.specs.Walk.{call_at}
use Rattle.path_calls.specs.declared.walk.Goal.{Goal}
use Rattle.path_calls.specs.declared.walk.Goal.TheVariants as goal
use Rattle.kept_promise.proofs.Statements.{CallFits}
use Rattle.kept_promise.proofs.PathNames.{IsAhead, makes_at, is_making}
use Rattle.path_calls.specs.declared.walk.Walk.{Walk}

-- a change that comes by a COMMITTMP
abbrev pub IsByCommit : Message → FileChange → Type 0
IsByCommit (message.Call xid (body.Lb (lb.CommitTmp a))) c = (content : List ℕ) × (c.what ≡ wanted.Content content)
IsByCommit m c = ⊥

-- nothing more waits, or one change of the session, of which this holds
abbrev pub Waits : (waiting : List FileChange) → (session : ℕ) → (FileChange → Type 0) → List FileChange → Type 0
Waits waiting n P after = (after ≡ waiting) ⊎ ((c : FileChange) × (c.session ≡ n) × (after ≡ waiting ++ c ∷ []) × P c)

-- what holds of a server's state whatever these are then
abbrev pub Frees : (server.State → Type 0) → server.State → (session : ℕ) → (FileChange → Type 0) → Type 0
Frees Q s n P = (temps : List (ℕ × Temp)) (waiting : List FileChange) (index : Indexed) (leasing : Leasing) → Waits s.waiting n P waiting → Q (record s { temps = temps; waiting = waiting; index = index; leasing = leasing })

commits_keeps : (Q : server.State → Type 0) (s : server.State) (session : ℕ) → Frees Q s session (λ c. (content : List ℕ) × (c.what ≡ wanted.Content content)) → (xid size : ℕ) (t : Temp) (nd : Result Node Status) → Q (takes_commit_on s session xid size t nd).0
commits_keeps Q s session q xid size t (Err e) = q s.temps s.waiting s.index s.leasing (inl refl)
commits_keeps Q s session q xid size t (Ok directory) = q s.temps s.waiting s.index s.leasing (inl refl)
commits_keeps Q s session q xid size t (Ok (file f)) = by (nat_lt size_most size)
  where
    waits : (content : List ℕ) (a b : Bool) → (let r : server.State × ServerStep = if a then answers s session xid (lb.CommitTmpAnswer (Failed status.Jukebox tt)) else if b then answers s session xid (lb.CommitTmpAnswer (Failed status.NoSpc tt)) else comes s (change_of session xid f.id (wanted.Content content)) in Q r.0)
    waits content true b = q s.temps s.waiting s.index s.leasing (inl refl)
    waits content false true = q s.temps s.waiting s.index s.leasing (inl refl)
    waits content false false = q s.temps (s.waiting ++ change_of session xid f.id (wanted.Content content) ∷ []) s.index _ (inr (change_of session xid f.id (wanted.Content content), refl, refl, (content, refl)))

    whole : (o : Option (List ℕ)) → Q (commits_whole s session xid f.id o).0
    whole None = q s.temps s.waiting s.index s.leasing (inl refl)
    whole (Some content) = waits content (has_waiting s.waiting session) (is_full s (length content))

    by : (b : Bool) → (let r : server.State × ServerStep = if b then answers s session xid (lb.CommitTmpAnswer (Failed status.FBig tt)) else commits_whole s session xid f.id (assembled t size) in Q r.0)
    by true = q s.temps s.waiting s.index s.leasing (inl refl)
    by false = whole (assembled t size)

-- a message that makes nothing: it asks for files, or what names stand for
abbrev pub IsOfFiles : Message → Type 0
IsOfFiles (message.Call xid (body.Nfs nfs.Null)) = Unit {0}
IsOfFiles (message.Call xid (body.Nfs (nfs.Read r))) = Unit {0}
IsOfFiles (message.Call xid (body.Nfs (nfs.Lookup p))) = Unit {0}
IsOfFiles (message.Call xid (body.Nfs (nfs.GetAttr h))) = Unit {0}
IsOfFiles (message.Call xid (body.Nfs (nfs.ReadDir l))) = Unit {0}
IsOfFiles (message.Call xid (body.Nfs m)) = ⊥
IsOfFiles m = Unit {0}

walk_of_files : (xid dir : ℕ) (left : List (List ℕ)) (g : Goal) → IsAhead left g → makes_at left g ≡ false → IsOfFiles (message.Call xid (body.Nfs (call_at dir left g)))
walk_of_files xid dir [] (goal.Make name) asks none = absurd cc
walk_of_files xid dir [] (goal.MakeDir name) asks none = absurd cc
walk_of_files xid dir [] (goal.Remove name) asks none = absurd cc
walk_of_files xid dir [] (goal.RemoveDir name) asks none = absurd cc
walk_of_files xid dir [] (goal.RenameFrom name to) asks none = absurd asks
walk_of_files xid dir [] (goal.RenameTo from name to) asks none = absurd cc
walk_of_files xid dir _ _ asks none = tt

-- a call that is taken may make or remove something
abbrev pub makes_call : Call → Bool
makes_call (Walks w) = is_making w
makes_call c = false

-- each call on its way that doesn't is so
pub is_of_files : (a : Ask) → CallFits a.lbfs a.xid a.call → makes_call a.call ≡ false → IsOfFiles (ask_message a)
is_of_files a fits none = by a.call fits none
  where
    by : (c : Call) → CallFits a.lbfs a.xid c → makes_call c ≡ false → IsOfFiles (ask_message (record { lbfs = a.lbfs; xid = a.xid; call = c }))
    by (Walks w) fits none = walk_of_files a.xid w.dir w.left w.goal fits.1.ahead none
    by _ fits none = tt

-- the others are the last calls of walks
pub walk_made : (c : Call) → makes_call c ≡ true → (w : Walk) × (c ≡ Walks w) × (is_making w ≡ true)
walk_made (Walks w) e = (w, refl, e)
walk_made c e = absurd cc

-- with no entry more
none_more : (Q : server.State → Type 0) (s : server.State) → Q s → Q (record s { journal = s.journal ++ [] })
none_more Q s q = subst (λ (l : List Entry). Q (record s { journal = l })) (sym (append-nil s.journal)) q

called_keeps : (Q : server.State → Type 0) (s : server.State) (session xid : ℕ) (b : Body) → IsOfFiles (message.Call xid b) → Frees Q s session (IsByCommit (message.Call xid b)) → Q (called s session xid b).0
called_keeps Q s session xid (body.Lb (lb.GetLease z)) plain q = q s.temps s.waiting s.index _ (inl refl)
called_keeps Q s session xid (body.Lb (lb.GetHash r)) plain q = q s.temps s.waiting _ _ (inl refl)
called_keeps Q s session xid (body.Lb (lb.MkTmpFile a)) plain q = by (node_of s.tree a.handle)
  where
    room : (f : File) (o : Option Status) → Q (makes_unless s session xid a.fd f.id o).0
    room f (Some e) = q s.temps s.waiting s.index s.leasing (inl refl)
    room f None = q _ s.waiting s.index s.leasing (inl refl)

    by : (nd : Result Node Status) → Q (makes s session xid a.fd nd).0
    by (Err e) = q s.temps s.waiting s.index s.leasing (inl refl)
    by (Ok directory) = q s.temps s.waiting s.index s.leasing (inl refl)
    by (Ok (file f)) = room f (room_fault s.temps session a.fd)
called_keeps Q s session xid (body.Lb (lb.TmpWrite a)) plain q = by (temp_at s.temps session a.fd) (piece_fault (temp_at s.temps session a.fd) a.offset (length a.bytes))
  where
    by : (t : Option Temp) (o : Option Status) → Q (writes_unless s session xid a t o).0
    by (Some t) None = q _ s.waiting s.index s.leasing (inl refl)
    by (Some t) (Some e) = q s.temps s.waiting s.index s.leasing (inl refl)
    by None o = q s.temps s.waiting s.index s.leasing (inl refl)
called_keeps Q s session xid (body.Lb (lb.CondWrite a)) plain q = by (temp_at s.temps session a.fd) (cond_fault a (temp_at s.temps session a.fd)) (bytes_known s.tree a (place_of s.index.pairs (digest_key a.digest)))
  where
    found : Indexed
    found = (index_found s a).index

    taken : (t : Option Temp) (o : Option (List ℕ)) → Q (names_bytes (index_found s a) session xid a t o).0
    taken (Some t) (Some bytes) = q _ s.waiting found s.leasing (inl refl)
    taken (Some t) None = q s.temps s.waiting found s.leasing (inl refl)
    taken None o = q s.temps s.waiting found s.leasing (inl refl)

    by : (t : Option Temp) (o : Option Status) (known : Option (List ℕ)) → Q (names_unless s session xid a t o).0
    by t (Some e) known = q s.temps s.waiting s.index s.leasing (inl refl)
    by t None known = taken t (bytes_known s.tree a (place_of s.index.pairs (digest_key a.digest)))
called_keeps Q s session xid (body.Lb (lb.CommitTmp a)) plain q = by (temp_at s.temps session a.fd)
  where
    by : (t : Option Temp) → Q (takes_commit s session xid a t).0
    by None = q s.temps s.waiting s.index s.leasing (inl refl)
    by (Some t) = commits_keeps Q (record s { temps = without_temp s.temps session a.fd }) session (λ temps waiting index leasing w. q temps waiting index leasing w) xid a.size t (node_of s.tree a.handle)
called_keeps Q s session xid (body.Nfs nfs.Null) plain q = q s.temps s.waiting s.index s.leasing (inl refl)
called_keeps Q s session xid (body.Nfs (nfs.Read r)) plain q = q s.temps s.waiting s.index s.leasing (inl refl)
called_keeps Q s session xid (body.Nfs (nfs.Lookup p)) plain q = none_more Q s (q s.temps s.waiting s.index s.leasing (inl refl))
called_keeps Q s session xid (body.Nfs (nfs.GetAttr h)) plain q = none_more Q s (q s.temps s.waiting s.index s.leasing (inl refl))
called_keeps Q s session xid (body.Nfs (nfs.ReadDir l)) plain q = none_more Q s (q s.temps s.waiting s.index s.leasing (inl refl))
called_keeps Q s session xid (body.Nfs m) plain q = absurd plain
called_keeps Q s session xid b plain q = q s.temps s.waiting s.index s.leasing (inl refl)

pub got_if_keeps : (Q : server.State → Type 0) (s : server.State) (session : ℕ) (m : Message) (now : ℕ) → IsOfFiles m → Frees Q s session (IsByCommit m) → (b : Bool) → Q (got_if s b session m now).0
got_if_keeps Q s session (message.Call xid b) now plain q true = called_keeps Q (at s now) session xid b plain (λ temps waiting index leasing w. q temps waiting index leasing w)
got_if_keeps Q s session (message.Unfit xid why) now plain q true = q s.temps s.waiting s.index _ (inl refl)
got_if_keeps Q s session (message.Answer xid b) now plain q true = q s.temps s.waiting s.index _ (inl refl)
got_if_keeps Q s session (message.Refuse xid why) now plain q true = q s.temps s.waiting s.index _ (inl refl)
got_if_keeps Q s session m now plain q false = q s.temps s.waiting s.index s.leasing (inl refl)

pub got_keeps : (Q : server.State → Type 0) (s : server.State) (session : ℕ) (m : Message) (now : ℕ) → IsOfFiles m → Frees Q s session (IsByCommit m) → Q (server_step s (event.Got session m now)).0
got_keeps Q s session m now plain q = got_if_keeps Q s session m now plain q (stands s session)

-- ---- the tree, whatever the message

outcome_tree : (s : server.State) (session xid : ℕ) (p : Tree × Option Outcome) → (asks_tree s session xid p).0.tree ≡ p.0
outcome_tree s session xid p = by p.1
  where
    by : (o : Option Outcome) → (asks (record s { tree = p.0 }) session xid o).0.tree ≡ p.0
    by None = refl
    by (Some (Answered d)) = refl
    by (Some (ToWait a)) = refl

-- a call by which names may change
abbrev pub MayName : Body → Type 0
MayName (body.Nfs m) = ChangesNames m
MayName b = ⊥

-- any other leaves the tree
pub called_tree : (s : server.State) (session xid : ℕ) (b : Body) → ((called s session xid b).0.tree ≡ s.tree) ⊎ MayName b
called_tree s session xid (body.Nfs nfs.Null) = inl refl
called_tree s session xid (body.Nfs (nfs.Read r)) = inl refl
called_tree s session xid (body.Nfs (nfs.Create a)) = inr tt
called_tree s session xid (body.Nfs (nfs.MkDir a)) = inr tt
called_tree s session xid (body.Nfs (nfs.Remove a)) = inr tt
called_tree s session xid (body.Nfs (nfs.RmDir a)) = inr tt
called_tree s session xid (body.Nfs (nfs.Rename a)) = inr tt
called_tree s session xid (body.Nfs m) = inl (outcome_tree s session xid (s.tree, told_outcome (told_by s.tree.nodes m)))
called_tree s session xid b = inl (called_keeps (λ (z : server.State). z.tree ≡ s.tree) s session xid b tt (λ temps waiting index leasing w. refl))

-- and such a one leaves what it comes to over that
pub named_tree : (s : server.State) (session xid : ℕ) (m : Nfs) → ChangesNames m → (called s session xid (body.Nfs m)).0.tree ≡ (calls s.tree (server.held s.waiting) (has_waiting s.waiting session) m).0
named_tree s session xid (nfs.Create a) may = outcome_tree s session xid (calls s.tree (server.held s.waiting) (has_waiting s.waiting session) (nfs.Create a))
named_tree s session xid (nfs.MkDir a) may = outcome_tree s session xid (calls s.tree (server.held s.waiting) (has_waiting s.waiting session) (nfs.MkDir a))
named_tree s session xid (nfs.Remove a) may = outcome_tree s session xid (calls s.tree (server.held s.waiting) (has_waiting s.waiting session) (nfs.Remove a))
named_tree s session xid (nfs.RmDir a) may = outcome_tree s session xid (calls s.tree (server.held s.waiting) (has_waiting s.waiting session) (nfs.RmDir a))
named_tree s session xid (nfs.Rename a) may = outcome_tree s session xid (calls s.tree (server.held s.waiting) (has_waiting s.waiting session) (nfs.Rename a))
named_tree s session xid m may = absurd may

-- what a server's tree keeps by the calls on it, it keeps whatever comes
called_any : (s : server.State) (session xid : ℕ) (b : Body) (R : Tree → Type 0) → R s.tree → ((busy : Bool) (m : Nfs) → R (calls s.tree (server.held s.waiting) busy m).0) → R (called s session xid b).0.tree
called_any s session xid (body.Nfs nfs.Null) R same step = same
called_any s session xid (body.Nfs (nfs.Read r)) R same step = same
called_any s session xid (body.Nfs m) R same step = subst R (sym (outcome_tree s session xid (calls s.tree (server.held s.waiting) (has_waiting s.waiting session) m))) (step (has_waiting s.waiting session) m)
called_any s session xid b R same step = called_keeps (λ z. R z.tree) s session xid b tt (λ temps waiting index leasing w. same)

pub got_any : (s : server.State) (session : ℕ) (m : Message) (now : ℕ) (R : Tree → Type 0) → R s.tree → ((busy : Bool) (c : Nfs) → R (calls s.tree (server.held s.waiting) busy c).0) → R (server_step s (event.Got session m now)).0.tree
got_any s session m now R same step = by m (stands s session)
  where
    by : (m : Message) (b : Bool) → R (got_if s b session m now).0.tree
    by (message.Call xid b) true = called_any (at s now) session xid b R same step
    by (message.Unfit xid why) true = same
    by (message.Answer xid b) true = same
    by (message.Refuse xid why) true = same
    by m false = same

-- ids stay, and files are as they were, later, or gone
pub got_tree : (s : server.State) (session : ℕ) (m : Message) (now : ℕ) → Keeps s.tree (server_step s (event.Got session m now)).0.tree
got_tree s session m now = got_any s session m now (Keeps s.tree) (keeps_same s.tree) (λ busy c. calls_keep s.tree (server.held s.waiting) busy c)

-- directories have their names, or later versions
pub got_dirs : (s : server.State) (session : ℕ) (m : Message) (now : ℕ) → KeepsDirs s.tree (server_step s (event.Got session m now)).0.tree
got_dirs s session m now = got_any s session m now (KeepsDirs s.tree) (dirs_same s.tree) (λ busy c. calls_dirs s.tree (server.held s.waiting) busy c)

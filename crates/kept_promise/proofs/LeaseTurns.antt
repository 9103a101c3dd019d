-- What a message that is taken does to the changes that wait at the server and to its leases: nothing; one is granted; a change comes, and leases are asked for; or one is given up.
use Rattle.std.proofs.Common.{◌≡◌, ℕ, List, [], ◌∷◌, ◌++◌, length, map, Option, Some, None, Result, Ok, Err, Bool, true, false, refl, sym, ap, ◌∙◌, subst}
use Rattle.std.specs.Prelude.{not, nat_lt, if◌then◌else◌}
use Rattle.std.specs.Option.{option_map}
use Rattle.xdr_codec.specs.Handle.{file_of as named_by}
use Rattle.xdr_codec.specs.declared.answer.Answer.TheVariants.{Failed}
use Rattle.xdr_codec.specs.declared.status.Status.{Status}
use Rattle.xdr_codec.specs.declared.status.Status.TheVariants as status
use Rattle.hash_calls.specs.declared.call.Commit.{Commit}
use Rattle.hash_calls.specs.declared.call.CondPiece.{CondPiece}
use Rattle.hash_calls.specs.declared.call.TempPiece.{TempPiece}
use Rattle.hash_calls.specs.declared.message.Lb.TheVariants as lb
use Rattle.nfs3_calls.specs.declared.message.Nfs.{Nfs}
use Rattle.nfs3_calls.specs.declared.place.Place.{Place}
use Rattle.nfs3_calls.specs.declared.place.Rename.{Rename}
use Rattle.nfs3_calls.specs.declared.message.Nfs.TheVariants as nfs
use Rattle.wire.specs.declared.message.Body.{Body}
use Rattle.wire.specs.declared.message.Body.TheVariants as body
use Rattle.lease_rules.specs.declared.change.Kind.TheVariants as kind
use Rattle.temp_files.specs.Pieces.{size_most}
use Rattle.temp_files.specs.Temps.{Temp, temp_at, room_fault, piece_fault, without_temp, assembled}
use Rattle.tree_nodes.specs.declared.node.Node.{Node as TreeNode}
use Rattle.tree_nodes.specs.Nodes.{named}
use Rattle.tree_reading.specs.Chain.{◌>>=◌}
use Rattle.tree_reading.specs.Plans.{remove_plan, rename_plan}
use Rattle.tree_reading.specs.Reading.{standing_of}
use Rattle.tree_reading.specs.Tree.{Tree, is_directory}
use Rattle.tree_reading.specs.declared.call.Changed.{Changed}
use Rattle.tree_reading.specs.declared.call.Reservation.{Reservation}
use Rattle.tree_reading.specs.declared.call.Planned.{Planned}
use Rattle.tree_reading.specs.declared.call.Planned.TheVariants as planned
use Rattle.tree_calls.specs.Telling.{or_bad_handle, id_of, told}
use Rattle.tree_calls.specs.Waiting.{calls_under, file_of, told_outcome, remove_comes, rename_comes, with_node, asks_remove, asks_rename, removing, removes_in, renaming_under, renames_in_under, spot_of}
use Rattle.tree_calls.specs.declared.asked.Asked.{Asked}
use Rattle.tree_calls.specs.declared.asked.Asked.TheVariants as asked
use Rattle.tree_calls.specs.declared.asked.Done.{Done}
use Rattle.tree_calls.specs.declared.asked.Outcome.{Outcome}
use Rattle.tree_calls.specs.declared.asked.Outcome.TheVariants.{Answered, Waits}
use Rattle.chunk_calls.specs.Answers.{Node, directory, file as a_file, node_of}
use Rattle.chunk_calls.specs.Writing.{cond_fault, bytes_known}
use Rattle.chunk_index.specs.Index.{key_of, place_of}
use Rattle.server_core.specs.declared.change.Wanted.TheVariants as wanted
use Rattle.server_core.specs.declared.event.ServerStep.{ServerStep}
use Rattle.server_core.specs.Closing.{answers, has_waiting, is_full, makes, makes_unless, writes_unless, names_unless, names_bytes, looked_up, takes_commit, takes_commit_on, commits_whole}
use Rattle.server_core.specs.Leasing.{asking, recalled}
use Rattle.server_core.specs.Recalling.{file_in, grants_on, recall_sent, recalls_for, comes}
use Rattle.server_core.specs.State.{State, FileChange, change_of, held}
use Rattle.server_core.specs.Step.{called_under, asks as asks_outcome, asks_tree}
use Rattle.lease_law.proofs.lemmas.Calls.{named_file}
use Rattle.server_core.specs.declared.event.Sent.{Sent}
use Rattle.trace_replay.specs.Numbered.{numbers_among}
use Rattle.trace_replay.specs.PendingChanges.{name_in, file_asked, file_leased, kind_asked}
use Rattle.kept_promise.proofs.Lists.{nothing_there}
use Rattle.kept_promise.proofs.TreeMade.{remove_file}

-- a call that waits from now on, as a change of the file that it asks to change
pub record IsAsked (t : Tree) (n xid : ℕ) (b : Body) (c : FileChange) : Type 0 where
  pub session_is : c.session ≡ n
  pub xid_is : c.xid ≡ xid
  pub file_is : file_asked t b ≡ Some c.file
  pub kind_is : kind_asked b ≡ Some c.kind

-- no call is sent
abbrev pub NoCalls : List Sent → Type 0
NoCalls ss = numbers_among (map (λ (s : Sent). s.message) ss) ≡ []

abbrev pub SameSessions : State → State → Type 0
SameSessions s t = (t.sessions ≡ s.sessions) × (t.sessions_made ≡ s.sessions_made)

pub data Taken (s : State) (n xid : ℕ) (b : Body) (p : State × ServerStep) : Type 0 where
  stays : p.0.waiting ≡ s.waiting → p.0.leasing ≡ s.leasing → NoCalls p.1.send → SameSessions s p.0 → Taken s n xid b p
  grants : (file : Option ℕ) → ((id : ℕ) → file ≡ Some id → file_leased b ≡ Some id) → p.0.waiting ≡ s.waiting → p.0.leasing ≡ (grants_on s n file).leasing → NoCalls p.1.send → SameSessions s p.0 → Taken s n xid b p
  comes_to : (c : FileChange) → IsAsked s.tree n xid b c → p.0.waiting ≡ s.waiting ++ c ∷ [] → p.0.leasing ≡ recalled s.leasing (recalls_for s c) → p.1.send ≡ map recall_sent (asking s.leasing (recalls_for s c)).1 → SameSessions s p.0 → Taken s n xid b p

-- ---- the file that a name stands for

no_ok : {A B : Type 0} {e : Status} {x : A} → ◌≡◌ {A = Result A Status} (Err e) (Ok x) → B
no_ok e = absurd cc

none_ok : {A B : Type 0} {x : A} → ◌≡◌ {A = Result (Option A) Status} (Ok None) (Ok (Some x)) → B
none_ok e = absurd cc

pair_ok : (p q : ℕ × ℕ) → ◌≡◌ {A = Result (Option (ℕ × ℕ)) Status} (Ok (Some p)) (Ok (Some q)) → p ≡ q
pair_ok p q e = cc

ok_same : {A : Type 0} (x y : A) → ◌≡◌ {A = Result A Status} (Ok x) (Ok y) → x ≡ y
ok_same x y e = cc

handle_is : (handle : List ℕ) (id : ℕ) → id_of handle ≡ Ok id → named_by handle ≡ Some id
handle_is handle id e = by (named_by handle) e
  where
    by : (o : Option ℕ) → or_bad_handle o ≡ Ok id → o ≡ Some id
    by None e = no_ok e
    by (Some x) e = ap (λ (z : ℕ). Some z) (ok_same x id e)

-- that of a node
node_named : (t : Tree) (handle : List ℕ) (o : Result Node Status) → node_of t handle ≡ o → (id : ℕ) → file_in o ≡ Some id → named_by handle ≡ Some id
node_named t handle (Err e) is id none = nothing_there id none
node_named t handle (Ok directory) is id none = nothing_there id none
node_named t handle (Ok (a_file f)) is id at = named_file t handle f is ∙ at

-- what REMOVE's name stands for
removed_is : (t : Tree) (held : Reservation) (busy : Bool) (dir : ℕ) (name : List ℕ) (file : ℕ) → asks_remove t held busy dir name ≡ Ok file → option_map (λ (n : TreeNode). n.id) (named t.nodes dir name) ≡ Some file
removed_is t held busy dir name file e = by busy (remove_plan t held dir name) refl e
  where
    by : (b : Bool) (r : Result Changed Status) → remove_plan t held dir name ≡ r → remove_comes b r ≡ Ok file → option_map (λ (n : TreeNode). n.id) (named t.nodes dir name) ≡ Some file
    by b (Err z) is e = no_ok e
    by true (Ok c) is e = no_ok e
    by false (Ok c) is e =
        let f = remove_file t held dir name c is in
        ap (option_map (λ (n : TreeNode). n.id)) f.1 ∙ ap (λ (d : Changed). Some d.id) (sym f.3) ∙ ap (λ (z : ℕ). Some z) (ok_same c.id file e)

-- and RENAME's new name
over_is : (busy : Bool) (o : Option TreeNode) (r : Result Planned Status) (node file : ℕ) → rename_comes busy (option_map standing_of o) r ≡ Ok (Some (node, file)) → option_map (λ (n : TreeNode). n.id) o ≡ Some file
over_is busy o (Err z) node file e = no_ok e
over_is busy o (Ok (planned.Nothing c)) node file e = none_ok e
over_is busy o (Ok (planned.Free c)) node file e = none_ok e
over_is busy None (Ok (planned.Over c)) node file e = none_ok e
over_is busy (Some n) (Ok (planned.Over c)) node file e = by (is_directory n.body) busy e
  where
    by : (d b : Bool) → ◌≡◌ {A = Result (Option (ℕ × ℕ)) Status} ((let r : Result (Option ℕ) Status = if not d then (if b then Err status.Jukebox else Ok (Some n.id)) else Ok None in r) >>= λ f. Ok (with_node c.id f)) (Ok (Some (node, file))) → Some n.id ≡ Some file
    by true b e = none_ok e
    by false true e = no_ok e
    by false false e = ap (λ (z : ℕ). Some z) (ap (λ (p : ℕ × ℕ). p.1) (pair_ok (c.id, n.id) (node, file) e))

-- ---- a call is taken

module _ (s : State) (n xid : ℕ) (b : Body) where
  makes_taken : (fd : ℕ) (o : Result Node Status) → Taken s n xid b (makes s n xid fd o)
  makes_taken fd (Err e) = stays refl refl refl (refl, refl)
  makes_taken fd (Ok directory) = stays refl refl refl (refl, refl)
  makes_taken fd (Ok (a_file f)) = by (room_fault s.temps n fd)
    where
      by : (o : Option Status) → Taken s n xid b (makes_unless s n xid fd f.id o)
      by (Some e) = stays refl refl refl (refl, refl)
      by None = stays refl refl refl (refl, refl)

  writes_taken : (a : TempPiece) (t : Option Temp) (o : Option Status) → Taken s n xid b (writes_unless s n xid a t o)
  writes_taken a (Some t) None = stays refl refl refl (refl, refl)
  writes_taken a (Some t) (Some e) = stays refl refl refl (refl, refl)
  writes_taken a None o = stays refl refl refl (refl, refl)

  names_taken : (a : CondPiece) (t : Option Temp) (o : Option Status) → Taken s n xid b (names_unless s n xid a t o)
  names_taken a t (Some e) = stays refl refl refl (refl, refl)
  names_taken a t None = by t (bytes_known s.tree a (place_of s.index.pairs (key_of a.digest)))
    where
      by : (t : Option Temp) (o : Option (List ℕ)) → Taken s n xid b (names_bytes (looked_up s a) n xid a t o)
      by (Some t) (Some bytes) = stays refl refl refl (refl, refl)
      by (Some t) None = stays refl refl refl (refl, refl)
      by None o = stays refl refl refl (refl, refl)

  whole_taken : (temps : List (ℕ × Temp)) (id : ℕ) → file_asked s.tree b ≡ Some id → kind_asked b ≡ Some kind.Commit → (o : Option (List ℕ)) → Taken s n xid b (commits_whole (record s { temps = temps }) n xid id o)
  whole_taken temps id file does None = stays refl refl refl (refl, refl)
  whole_taken temps id file does (Some content) = by (has_waiting s.waiting n) (is_full (record s { temps = temps }) (length content))
    where
      u : State
      u = record s { temps = temps }

      by : (x y : Bool) → Taken s n xid b (if x then answers u n xid (lb.CommitTmpAnswer (Failed status.Jukebox tt)) else if y then answers u n xid (lb.CommitTmpAnswer (Failed status.NoSpc tt)) else comes u (change_of n xid id (wanted.Content content)))
      by true y = stays refl refl refl (refl, refl)
      by false true = stays refl refl refl (refl, refl)
      by false false = comes_to (change_of n xid id (wanted.Content content)) (record { session_is = refl; xid_is = refl; file_is = file; kind_is = does }) refl refl refl (refl, refl)

commits_taken : (s : State) (n xid : ℕ) (a : Commit) (t : Option Temp) → Taken s n xid (body.Lb (lb.CommitTmp a)) (takes_commit s n xid a t)
commits_taken s n xid a None = stays refl refl refl (refl, refl)
commits_taken s n xid a (Some t) = by (node_of s.tree a.handle) refl
  where
    temps : List (ℕ × Temp)
    temps = without_temp s.temps n a.fd

    b : Body
    b = body.Lb (lb.CommitTmp a)

    by : (o : Result Node Status) → node_of s.tree a.handle ≡ o → Taken s n xid b (takes_commit_on (record s { temps = temps }) n xid a.size t o)
    by (Err e) is = stays refl refl refl (refl, refl)
    by (Ok directory) is = stays refl refl refl (refl, refl)
    by (Ok (a_file f)) is = short (nat_lt size_most a.size)
      where
        short : (x : Bool) → Taken s n xid b (if x then answers (record s { temps = temps }) n xid (lb.CommitTmpAnswer (Failed status.FBig tt)) else commits_whole (record s { temps = temps }) n xid f.id (assembled t a.size))
        short true = stays refl refl refl (refl, refl)
        short false = whole_taken s n xid b temps f.id (named_file s.tree a.handle f is) refl (assembled t a.size)

-- what a call of NFS comes to, over the tree that it leaves
asks_taken : (s : State) (n xid : ℕ) (b : Body) (t : Tree) (o : Option Outcome) → ((a : Asked) → o ≡ Some (Waits a) → IsAsked s.tree n xid b (change_of n xid (file_of a) (wanted.Asked a))) → Taken s n xid b (asks_outcome (record s { tree = t }) n xid o)
asks_taken s n xid b t None is = stays refl refl refl (refl, refl)
asks_taken s n xid b t (Some (Answered d)) is = stays refl refl refl (refl, refl)
asks_taken s n xid b t (Some (Waits a)) is = comes_to (change_of n xid (file_of a) (wanted.Asked a)) (is a refl) refl refl refl (refl, refl)

answered_waits : {A : Type 0} {d : Done} {a : Asked} → ◌≡◌ {A = Option Outcome} (Some (Answered d)) (Some (Waits a)) → A
answered_waits e = absurd cc

waits_same : (a c : Asked) → ◌≡◌ {A = Option Outcome} (Some (Waits a)) (Some (Waits c)) → a ≡ c
waits_same a c e = cc

nothing_waits : {A : Type 0} {a : Asked} → ◌≡◌ {A = Option Outcome} None (Some (Waits a)) → A
nothing_waits e = absurd cc

module _ (s : State) (n xid : ℕ) where
  abbrev busy : Bool
  busy = has_waiting s.waiting n

  abbrev IsFor : Body → Asked → Type 0
  IsFor b a = IsAsked s.tree n xid b (change_of n xid (file_of a) (wanted.Asked a))

  remove_asked : (p : Place) (a : Asked) → ◌≡◌ {A = Option Outcome} (Some (removes_in s.tree (held s.waiting) busy p.name (id_of p.dir))) (Some (Waits a)) → IsFor (body.Nfs (nfs.Remove p)) a
  remove_asked p a e = by (id_of p.dir) refl e
    where
      here : (dir : ℕ) → id_of p.dir ≡ Ok dir → (o : Result ℕ Status) → asks_remove s.tree (held s.waiting) busy dir p.name ≡ o → ◌≡◌ {A = Option Outcome} (Some (removing dir p.name o)) (Some (Waits a)) → IsFor (body.Nfs (nfs.Remove p)) a
      here dir at (Err z) is e = answered_waits e
      here dir at (Ok file) is e = subst (IsFor (body.Nfs (nfs.Remove p))) (waits_same (asked.Remove (record { spot = spot_of dir p.name; file = file })) a e) (record {
        session_is = refl;
        xid_is = refl;
        file_is = ap (λ (o : Option ℕ). name_in s.tree o p.name) (handle_is p.dir dir at) ∙ removed_is s.tree (held s.waiting) busy dir p.name file is;
        kind_is = refl;
      })

      by : (o : Result ℕ Status) → id_of p.dir ≡ o → ◌≡◌ {A = Option Outcome} (Some (removes_in s.tree (held s.waiting) busy p.name o)) (Some (Waits a)) → IsFor (body.Nfs (nfs.Remove p)) a
      by (Err z) at e = answered_waits e
      by (Ok dir) at e = here dir at (asks_remove s.tree (held s.waiting) busy dir p.name) refl e

  rename_asked : (r : Rename) (a : Asked) → Some (renames_in_under s.tree (held s.waiting) busy false r.from.name r.to.name (id_of r.from.dir) (id_of r.to.dir)).1 ≡ Some (Waits a) → IsFor (body.Nfs (nfs.Rename r)) a
  rename_asked r a e = by (id_of r.from.dir) (id_of r.to.dir) refl e
    where
      here : (dir to : ℕ) → id_of r.to.dir ≡ Ok to → (o : Result (Option (ℕ × ℕ)) Status) → asks_rename s.tree (held s.waiting) busy dir r.from.name to r.to.name ≡ o → Some (renaming_under s.tree (held s.waiting) false dir r.from.name to r.to.name o).1 ≡ Some (Waits a) → IsFor (body.Nfs (nfs.Rename r)) a
      here dir to at (Err z) is e = answered_waits e
      here dir to at (Ok None) is e = answered_waits e
      here dir to at (Ok (Some p)) is e = subst (IsFor (body.Nfs (nfs.Rename r))) (waits_same (asked.Rename (record { from = spot_of dir r.from.name; to = spot_of to r.to.name; node = p.0; file = p.1 })) a e) (record {
        session_is = refl;
        xid_is = refl;
        file_is = ap (λ (o : Option ℕ). name_in s.tree o r.to.name) (handle_is r.to.dir to at) ∙ over_is busy (named s.tree.nodes to r.to.name) (rename_plan s.tree (held s.waiting) dir r.from.name to r.to.name) p.0 p.1 is;
        kind_is = refl;
      })

      by : (x y : Result ℕ Status) → id_of r.to.dir ≡ y → Some (renames_in_under s.tree (held s.waiting) busy false r.from.name r.to.name x y).1 ≡ Some (Waits a) → IsFor (body.Nfs (nfs.Rename r)) a
      by (Ok dir) (Ok to) at e = here dir to at (asks_rename s.tree (held s.waiting) busy dir r.from.name to r.to.name) refl e
      by (Ok dir) (Err z) at e = answered_waits e
      by (Err z) y at e = answered_waits e

  told_never : (o : Option Nfs) (b : Body) (a : Asked) → told_outcome o ≡ Some (Waits a) → IsFor b a
  told_never None b a e = nothing_waits e
  told_never (Some m) b a e = answered_waits e

  nfs_taken : (m : Nfs) → Taken s n xid (body.Nfs m) (asks_tree s n xid (calls_under s.tree (held s.waiting) busy false m))
  nfs_taken (nfs.Create f) = let p : Tree × Option Outcome = calls_under s.tree (held s.waiting) busy false (nfs.Create f) in asks_taken s n xid (body.Nfs (nfs.Create f)) p.0 p.1 (λ a e. answered_waits e)
  nfs_taken (nfs.MkDir d) = let p : Tree × Option Outcome = calls_under s.tree (held s.waiting) busy false (nfs.MkDir d) in asks_taken s n xid (body.Nfs (nfs.MkDir d)) p.0 p.1 (λ a e. answered_waits e)
  nfs_taken (nfs.RmDir d) = let p : Tree × Option Outcome = calls_under s.tree (held s.waiting) busy false (nfs.RmDir d) in asks_taken s n xid (body.Nfs (nfs.RmDir d)) p.0 p.1 (λ a e. answered_waits e)
  nfs_taken (nfs.Remove p) = asks_taken s n xid (body.Nfs (nfs.Remove p)) s.tree (Some (removes_in s.tree (held s.waiting) busy p.name (id_of p.dir))) (λ a e. remove_asked p a e)
  nfs_taken (nfs.Rename r) = let p : Tree × Outcome = renames_in_under s.tree (held s.waiting) busy false r.from.name r.to.name (id_of r.from.dir) (id_of r.to.dir) in asks_taken s n xid (body.Nfs (nfs.Rename r)) p.0 (Some p.1) (λ a e. rename_asked r a e)
  nfs_taken m = let p : Tree × Option Outcome = calls_under s.tree (held s.waiting) busy false m in asks_taken s n xid (body.Nfs m) p.0 p.1 (λ a e. told_never (told s.tree.nodes m) (body.Nfs m) a e)

  pub called_taken : (b : Body) → Taken s n xid b (called_under s false n xid b)
  called_taken (body.Lb (lb.GetLease z)) = grants (file_in (node_of s.tree z.handle)) (node_named s.tree z.handle (node_of s.tree z.handle) refl) refl refl refl (refl, refl)
  called_taken (body.Lb (lb.GetHash r)) = grants (file_in (node_of s.tree r.handle)) (node_named s.tree r.handle (node_of s.tree r.handle) refl) refl refl refl (refl, refl)
  called_taken (body.Lb (lb.MkTmpFile a)) = makes_taken s n xid (body.Lb (lb.MkTmpFile a)) a.fd (node_of s.tree a.handle)
  called_taken (body.Lb (lb.TmpWrite a)) = writes_taken s n xid (body.Lb (lb.TmpWrite a)) a (temp_at s.temps n a.fd) (piece_fault (temp_at s.temps n a.fd) a.offset (length a.bytes))
  called_taken (body.Lb (lb.CondWrite a)) = names_taken s n xid (body.Lb (lb.CondWrite a)) a (temp_at s.temps n a.fd) (cond_fault a (temp_at s.temps n a.fd))
  called_taken (body.Lb (lb.CommitTmp a)) = commits_taken s n xid a (temp_at s.temps n a.fd)
  called_taken (body.Lb m) = stays refl refl refl (refl, refl)
  called_taken (body.Nfs nfs.Null) = stays refl refl refl (refl, refl)
  called_taken (body.Nfs (nfs.Read r)) = stays refl refl refl (refl, refl)
  called_taken (body.Nfs m) = nfs_taken m
  called_taken (body.Back m) = stays refl refl refl (refl, refl)

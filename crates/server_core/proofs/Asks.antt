-- The calls of NFS: what GETLEASE and READ tell of a file, and what a call leaves that has no memory taken for it.
use Rattle.std.proofs.Common.{◌≡◌, refl, sym, ap, ◌∙◌, subst, ℕ, ◌+◌, ◌≤◌, List, Option, Some, None, Result, Ok, Err, Bool, true, false, true≢false, arith}
use Rattle.std.specs.Prelude.{is_ok, if◌then◌else◌}
use Rattle.std.proofs.lemmas.List.{append-nil}
use Rattle.xdr_codec.specs.Handle.{file_of}
use Rattle.xdr_codec.specs.declared.status.Status.{Status}
use Rattle.xdr_codec.specs.declared.status.Status.TheVariants as status
use Rattle.xdr_codec.specs.declared.answer.Answer.{Answer}
use Rattle.nfs3_calls.specs.declared.call.Range.{Range}
use Rattle.nfs3_calls.specs.declared.change.Before.{Before}
use Rattle.nfs3_calls.specs.declared.message.Nfs.{Nfs}
use Rattle.nfs3_calls.specs.declared.message.Nfs.TheVariants as nfs
use Rattle.wire.specs.declared.message.Body.TheVariants as body
use Rattle.wire.specs.declared.message.Message.TheVariants as message
use Rattle.tree_nodes.specs.declared.node.Node.{Node as TreeNode}
use Rattle.tree_nodes.specs.declared.node.Body.{Body as NodeBody}
use Rattle.tree_nodes.specs.declared.node.Body.TheVariants.{Directory, File as Content}
use Rattle.tree_nodes.specs.Nodes.{with_id}
use Rattle.tree_reading.specs.Chain.{◌>>=◌}
use Rattle.tree_reading.specs.Reading.{piece_of, stands_for}
use Rattle.tree_reading.specs.Plans.{create_plan, may_mkdir, remove_plan, rmdir_plan, rename_plan}
use Rattle.tree_reading.specs.declared.call.Planned.{Planned}
use Rattle.tree_reading.specs.declared.call.Planned.TheVariants as planned
use Rattle.tree_reading.specs.declared.reading.Standing.{Standing}
use Rattle.file_tree.specs.Step.{created, mkdir_if, remove_if}
use Rattle.tree_reading.specs.Tree.{Tree, or_stale, file_or}
use Rattle.tree_reading.specs.declared.call.Changed.{Changed}
use Rattle.tree_reading.specs.declared.call.Reservation.{Reservation}
use Rattle.tree_reading.specs.declared.entry.Entry.{Entry as TreeEntry}
use Rattle.tree_calls.specs.Telling.{id_of, or_bad_handle, answer_of, piece, told}
use Rattle.tree_calls.specs.Changing.{before, with_done, mode_of, created as created_answer, made_directory, removed_directory}
use Rattle.file_tree.specs.Stores.{stored}
use Rattle.tree_calls.specs.Calling.{IsCalled}
use Rattle.tree_calls.specs.Waiting.{calls_under, enters, remove_comes, over_comes, rename_comes, with_node, asks_remove, asks_rename, removes_in, removing, renames_in_under, renaming_under, told_outcome, creates_in_under, mkdirs_in_under, rmdirs_in_under}
use Rattle.tree_calls.specs.declared.asked.Done.{Done}
use Rattle.tree_calls.specs.declared.asked.Outcome.{Outcome}
use Rattle.tree_calls.specs.declared.asked.Outcome.TheVariants.{Answered, Waits}
use Rattle.server_core.specs.declared.event.ServerStep.{ServerStep}
use Rattle.server_core.specs.declared.journal.Entry.{Entry}
use Rattle.server_core.specs.declared.state.ServerState.{ServerState}
use Rattle.chunk_calls.specs.Answers.{node_with, node_found, node_named, node_of}
use Rattle.server_core.specs.Answers.{read_answer}
use Rattle.server_core.specs.Closing.{has_waiting, count_of, one_if}
use Rattle.server_core.specs.Steps.{to}
use Rattle.server_core.specs.State.{State, held}
use Rattle.server_core.specs.Served.{IsServed}
use Rattle.server_core.specs.Step.{called_under, asks, asks_tree}
use Rattle.server_core.specs.View.{IsBounded, IsWaiting, HasRoom, RoomFor}

-- ---- READ, as the tree's calls have it

module _ (t : Tree) (r : Range) where
  read_of : (n : TreeNode) (b : NodeBody) → answer_of None (file_or status.Inval (record n { body = b }) >>= λ (m : TreeNode). Ok (piece_of t.nodes m r.offset r.count)) ≡ read_answer (Ok (node_with (record n { body = b }) b)) r
  read_of n Directory = refl
  read_of n (Content c) = refl

  read_found : (o : Option TreeNode) → answer_of None (or_stale o >>= file_or status.Inval >>= λ (m : TreeNode). Ok (piece_of t.nodes m r.offset r.count)) ≡ read_answer (node_found o) r
  read_found None = refl
  read_found (Some n) = read_of n n.body

  read_named : (o : Option ℕ) → answer_of None (or_bad_handle o >>= λ id. or_stale (with_id t.nodes id) >>= file_or status.Inval >>= λ (m : TreeNode). Ok (piece_of t.nodes m r.offset r.count)) ≡ read_answer (node_named t o) r
  read_named None = refl
  read_named (Some id) = read_found (with_id t.nodes id)

  pub read_told : answer_of None (piece t.nodes r) ≡ read_answer (node_of t r.handle) r
  read_told = read_named (file_of r.handle)

-- ---- any call

-- NULL and READ are told as the tree's calls tell them
told_as : (s : State) (session xid : ℕ) (m n : Nfs) → n ≡ m → (s, to session (message.Answer xid (body.Nfs m))) ≡ asks_tree s session xid (s.tree, Some (Answered (record { answer = n; first = None; second = None })))
told_as s session xid m n is =
    ap (λ (x : Nfs). (s, to session (message.Answer xid (body.Nfs x)))) (sym is)
    ∙ ap (λ (l : List Entry). (record s { journal = l }, to session (message.Answer xid (body.Nfs n)))) (sym (append-nil s.journal))

pub called_asks : (s : State) (fault : Bool) (session xid : ℕ) (m : Nfs) → called_under s fault session xid (body.Nfs m) ≡ asks_tree s session xid (calls_under s.tree (held s.waiting) (has_waiting s.waiting session) fault m)
called_asks s fault session xid nfs.Null = told_as s session xid nfs.NullAnswer nfs.NullAnswer refl
called_asks s fault session xid (nfs.Read r) = told_as s session xid (nfs.ReadAnswer (read_answer (node_of s.tree r.handle) r)) (nfs.ReadAnswer (answer_of None (piece s.tree.nodes r))) (ap (λ x. nfs.ReadAnswer x) (read_told s.tree r))
called_asks s fault session xid m = refl

-- the same by what was found of the pending changes, and by what the tree makes of the call
called_by : (s new : State) (fault : Bool) (session xid : ℕ) (m : Nfs) (h : Reservation) (busy : Bool) (t : Tree) (o : Option Outcome) (step : ServerStep)
    → h ≡ held s.waiting → busy ≡ has_waiting s.waiting session → calls_under s.tree h busy fault m ≡ (t, o) → asks (record s { tree = t }) session xid o ≡ (new, step) → called_under s fault session xid (body.Nfs m) ≡ (new, step)
called_by s new fault session xid m h busy t o step needs has done made =
    called_asks s fault session xid m
    ∙ ap (λ (x : Reservation). asks_tree s session xid (calls_under s.tree x (has_waiting s.waiting session) fault m)) (sym needs)
    ∙ ap (λ (b : Bool). asks_tree s session xid (calls_under s.tree h b fault m)) (sym has)
    ∙ ap (λ (p : Tree × Option Outcome). asks_tree s session xid p) done
    ∙ made

-- where the store failed or didn't
pub served_by : (before after : ℕ) (s new : State) (session xid : ℕ) (m : Nfs) (h : Reservation) (busy : Bool) (t : Tree) (o : Option Outcome) (step : ServerStep)
    → h ≡ held s.waiting → busy ≡ has_waiting s.waiting session → IsCalled before after (λ fault. calls_under s.tree h busy fault m) (t, o) → asks (record s { tree = t }) session xid o ≡ (new, step)
    → IsServed before after (λ fault. called_under s fault session xid (body.Nfs m)) (new, step)
served_by before after s new session xid m h busy t o step needs has done made =
    record { fault = done.fault; cause = done.cause; is = called_by s new done.fault session xid m h busy t o step needs has done.is made }

-- ---- a call that is refused, or changes nothing, makes no entry and doesn't wait

abbrev pub IsQuiet : Option Outcome → Type 0
IsQuiet None = Unit {0}
IsQuiet (Some (Answered d)) = (d.first ≡ None) × (d.second ≡ None)
IsQuiet (Some (Waits a)) = ⊥

quiet_told : (o : Option Nfs) → IsQuiet (told_outcome o)
quiet_told None = tt
quiet_told (Some m) = (refl, refl)

-- a step that is refused is so whatever the store does
same_refused : (fault : Bool) (t : Tree) (s : Status) → stored fault t (t, Err s) ≡ (t, Err s)
same_refused false t s = refl
same_refused true t s = refl

module _ (t : Tree) (h : Reservation) (busy fault : Bool) where
  abbrev Step : Type 0
  Step = Tree × Result Changed Status

  -- the entries of what is said of a step
  abbrev said_of : (List TreeNode → Result Changed Status → Done) → Step → Option Outcome
  said_of f p = Some (Answered (with_done f p).1)

  quiet_made : (b : Option Before) (dir : ℕ) (name : List ℕ) (p : Result (Option Changed) Status) → is_ok p ≡ false → IsQuiet (said_of (created_answer b dir) (stored fault t (created t dir name p)))
  quiet_made b dir name (Err s) e = subst (λ (p : Step). IsQuiet (said_of (created_answer b dir) p)) (sym (same_refused fault t s)) (refl, refl)
  quiet_made b dir name (Ok o) e = absurd (true≢false e)

  quiet_directory : (b : Option Before) (dir : ℕ) (name : List ℕ) (p : Result Unit Status) → is_ok p ≡ false → IsQuiet (said_of (made_directory b dir) (stored fault t (mkdir_if t dir name p)))
  quiet_directory b dir name (Err s) e = subst (λ (p : Step). IsQuiet (said_of (made_directory b dir) p)) (sym (same_refused fault t s)) (refl, refl)
  quiet_directory b dir name (Ok o) e = absurd (true≢false e)

  quiet_gone : (b : Option Before) (dir : ℕ) (p : Result Changed Status) → is_ok p ≡ false → IsQuiet (said_of (removed_directory b dir) (stored fault t (remove_if t dir p)))
  quiet_gone b dir (Err s) e = subst (λ (p : Step). IsQuiet (said_of (removed_directory b dir) p)) (sym (same_refused fault t s)) (refl, refl)
  quiet_gone b dir (Ok o) e = absurd (true≢false e)

  quiet_removing : (dir : ℕ) (name : List ℕ) (p : Result ℕ Status) → is_ok p ≡ false → IsQuiet (Some (removing dir name p))
  quiet_removing dir name (Err s) e = (refl, refl)
  quiet_removing dir name (Ok o) e = absurd (true≢false e)

  quiet_renaming : (dir : ℕ) (name : List ℕ) (to : ℕ) (to_name : List ℕ) (p : Result (Option (ℕ × ℕ)) Status) → is_ok p ≡ false → IsQuiet (Some (renaming_under t h fault dir name to to_name p).1)
  quiet_renaming dir name to to_name (Err s) e = (refl, refl)
  quiet_renaming dir name to to_name (Ok o) e = absurd (true≢false e)

  pub quiet : (m : Nfs) → enters t h busy m ≡ false → IsQuiet (calls_under t h busy fault m).1
  quiet (nfs.Create f) e = by (id_of f.place.dir) e
    where
      by : (r : Result ℕ Status) → is_ok (r >>= λ dir. create_plan t h dir f.place.name (mode_of f.how)) ≡ false → IsQuiet (Some (Answered (creates_in_under t h fault f r).1))
      by (Err s) g = (refl, refl)
      by (Ok dir) g = quiet_made (before t.nodes dir) dir f.place.name (create_plan t h dir f.place.name (mode_of f.how)) g
  quiet (nfs.MkDir d) e = by (id_of d.place.dir) e
    where
      by : (r : Result ℕ Status) → is_ok (r >>= λ dir. may_mkdir t h dir d.place.name) ≡ false → IsQuiet (Some (Answered (mkdirs_in_under t h fault d.place.name r).1))
      by (Err s) g = (refl, refl)
      by (Ok dir) g = quiet_directory (before t.nodes dir) dir d.place.name (may_mkdir t h dir d.place.name) g
  quiet (nfs.Remove p) e = by (id_of p.dir) e
    where
      by : (r : Result ℕ Status) → is_ok (r >>= λ dir. asks_remove t h busy dir p.name) ≡ false → IsQuiet (Some (removes_in t h busy p.name r))
      by (Err s) g = (refl, refl)
      by (Ok dir) g = quiet_removing dir p.name (asks_remove t h busy dir p.name) g
  quiet (nfs.RmDir p) e = by (id_of p.dir) e
    where
      by : (r : Result ℕ Status) → is_ok (r >>= λ dir. rmdir_plan t h dir p.name) ≡ false → IsQuiet (Some (Answered (rmdirs_in_under t h fault p.name r).1))
      by (Err s) g = (refl, refl)
      by (Ok dir) g = quiet_gone (before t.nodes dir) dir (rmdir_plan t h dir p.name) g
  quiet (nfs.Rename r) e = by (id_of r.from.dir) (id_of r.to.dir) e
    where
      by : (a b : Result ℕ Status) → is_ok (a >>= λ dir. b >>= λ to. asks_rename t h busy dir r.from.name to r.to.name) ≡ false → IsQuiet (Some (renames_in_under t h busy fault r.from.name r.to.name a b).1)
      by (Err s) b g = (refl, refl)
      by (Ok dir) (Err s) g = (refl, refl)
      by (Ok dir) (Ok to) g = quiet_renaming dir r.from.name to r.to.name (asks_rename t h busy dir r.from.name to r.to.name) g
  quiet m e = quiet_told (told t.nodes m)

-- ---- a call that waits

quiet_free : (o : Option Outcome) → IsQuiet o → IsWaiting o → ⊥
quiet_free None q w = w
quiet_free (Some (Answered d)) q w = w
quiet_free (Some (Waits a)) q w = q

module _ (t : Tree) (h : Reservation) where
  free_removing : (dir : ℕ) (name : List ℕ) (busy : Bool) (r : Result Changed Status) → IsWaiting (Some (removing dir name (remove_comes busy r))) → busy ≡ false
  free_removing dir name false r w = refl
  free_removing dir name true (Err s) w = absurd w
  free_removing dir name true (Ok c) w = absurd w

  free_over : (fault : Bool) (dir : ℕ) (name : List ℕ) (to : ℕ) (to_name : List ℕ) (id : ℕ) (found : Option Standing) → IsWaiting (Some (renaming_under t h fault dir name to to_name (over_comes true found >>= λ file. Ok (with_node id file))).1) → ⊥
  free_over fault dir name to to_name id None w = w
  free_over fault dir name to to_name id (Some n) w = by n.is_file w
    where
      by : (b : Bool) → IsWaiting (Some (renaming_under t h fault dir name to to_name ((if b then Err status.Jukebox else Ok None) >>= λ file. Ok (with_node id file))).1) → ⊥
      by true w = w
      by false w = w

  free_renaming : (fault : Bool) (dir : ℕ) (name : List ℕ) (to : ℕ) (to_name : List ℕ) (busy : Bool) (found : Option Standing) (r : Result Planned Status) → IsWaiting (Some (renaming_under t h fault dir name to to_name (rename_comes busy found r)).1) → busy ≡ false
  free_renaming fault dir name to to_name false found r w = refl
  free_renaming fault dir name to to_name true found (Err s) w = absurd w
  free_renaming fault dir name to to_name true found (Ok (planned.Nothing c)) w = absurd w
  free_renaming fault dir name to to_name true found (Ok (planned.Free c)) w = absurd w
  free_renaming fault dir name to to_name true found (Ok (planned.Over c)) w = absurd (free_over fault dir name to to_name c.id found w)

  not_told : (o : Option Nfs) → IsWaiting (told_outcome o) → ⊥
  not_told None w = w
  not_told (Some m) w = w

  -- no change of the session waits where one comes to wait
  pub waits_free : (busy fault : Bool) (m : Nfs) → IsWaiting (calls_under t h busy fault m).1 → busy ≡ false
  waits_free busy fault (nfs.Create f) w = absurd w
  waits_free busy fault (nfs.MkDir d) w = absurd w
  waits_free busy fault (nfs.Remove p) w = by (id_of p.dir) w
    where
      by : (r : Result ℕ Status) → IsWaiting (Some (removes_in t h busy p.name r)) → busy ≡ false
      by (Err s) w = absurd w
      by (Ok dir) w = free_removing dir p.name busy (remove_plan t h dir p.name) w
  waits_free busy fault (nfs.RmDir p) w = absurd w
  waits_free busy fault (nfs.Rename r) w = by (id_of r.from.dir) (id_of r.to.dir) w
    where
      by : (a b : Result ℕ Status) → IsWaiting (Some (renames_in_under t h busy fault r.from.name r.to.name a b).1) → busy ≡ false
      by (Err s) b w = absurd w
      by (Ok dir) (Err s) w = absurd w
      by (Ok dir) (Ok to) w = free_renaming fault dir r.from.name to r.to.name busy (stands_for t.nodes to r.to.name) (rename_plan t h dir r.from.name to r.to.name) w
  waits_free busy fault m w = absurd (not_told (told t.nodes m) w)

  same_renaming : (fault : Bool) (dir : ℕ) (name : List ℕ) (to : ℕ) (to_name : List ℕ) (r : Result (Option (ℕ × ℕ)) Status) → IsWaiting (Some (renaming_under t h fault dir name to to_name r).1) → (renaming_under t h fault dir name to to_name r).0 ≡ t
  same_renaming fault dir name to to_name (Err s) w = absurd w
  same_renaming fault dir name to to_name (Ok None) w = absurd w
  same_renaming fault dir name to to_name (Ok (Some p)) w = refl

  -- and it changes no tree yet
  pub waits_same : (busy fault : Bool) (m : Nfs) → IsWaiting (calls_under t h busy fault m).1 → (calls_under t h busy fault m).0 ≡ t
  waits_same busy fault (nfs.Create f) w = absurd w
  waits_same busy fault (nfs.MkDir d) w = absurd w
  waits_same busy fault (nfs.Remove p) w = refl
  waits_same busy fault (nfs.RmDir p) w = absurd w
  waits_same busy fault (nfs.Rename r) w = by (id_of r.from.dir) (id_of r.to.dir) w
    where
      by : (a b : Result ℕ Status) → IsWaiting (Some (renames_in_under t h busy fault r.from.name r.to.name a b).1) → (renames_in_under t h busy fault r.from.name r.to.name a b).0 ≡ t
      by (Err s) b w = absurd w
      by (Ok dir) (Err s) w = absurd w
      by (Ok dir) (Ok to) w = same_renaming fault dir r.from.name to r.to.name (asks_rename t h busy dir r.from.name to r.to.name) w
  waits_same busy fault m w = absurd (not_told (told t.nodes m) w)

  -- memory is taken for it
  pub waits_enters : (busy fault : Bool) (m : Nfs) → IsWaiting (calls_under t h busy fault m).1 → enters t h busy m ≡ true
  waits_enters busy fault m w = by (enters t h busy m) refl
    where
      by : (b : Bool) → enters t h busy m ≡ b → b ≡ true
      by true e = refl
      by false e = absurd (quiet_free (calls_under t h busy fault m).1 (quiet t h busy fault m e) w)

-- the same of what a call came to
module _ (before after : ℕ) (t t' : Tree) (h : Reservation) (busy : Bool) (m : Nfs) (o : Option Outcome) (done : IsCalled before after (λ fault. calls_under t h busy fault m) (t', o)) (waits : IsWaiting o) where
  it_waits : IsWaiting (calls_under t h busy done.fault m).1
  it_waits = subst IsWaiting (ap (λ (p : Tree × Option Outcome). p.1) (sym done.is)) waits

  pub came_free : busy ≡ false
  came_free = waits_free t h busy done.fault m it_waits

  pub came_same : t' ≡ t
  came_same = ap (λ (p : Tree × Option Outcome). p.0) (sym done.is) ∙ waits_same t h busy done.fault m it_waits

  pub came_enters : enters t h busy m ≡ true
  came_enters = waits_enters t h busy done.fault m it_waits

-- ---- there is room for what comes

two_at_most : (d : Done) → count_of d.first d.second ≤ 2
two_at_most d = by d.first d.second
  where
    by : (a b : Option TreeEntry) → one_if a + one_if b ≤ 2
    by None None = omega arith
    by (Some x) None = omega arith
    by None (Some y) = omega arith
    by (Some x) (Some y) = omega arith

room_if : (s : ServerState) (o : Option Outcome) → HasRoom s → RoomFor s o
room_if s None room = tt
room_if s (Some (Answered d)) room = omega (arith, room.0, two_at_most d)
room_if s (Some (Waits a)) room = room

room_quiet : (s : ServerState) (o : Option Outcome) → IsBounded s → IsQuiet o → RoomFor s o
room_quiet s None b q = tt
room_quiet s (Some (Answered d)) b q = omega (arith, b.room, ap one_if q.0, ap one_if q.1)
room_quiet s (Some (Waits a)) b q = absurd q

pub room_for : (before after : ℕ) (s : ServerState) (t t' : Tree) (h : Reservation) (busy : Bool) (m : Nfs) (o : Option Outcome) → IsBounded s → (enters t h busy m ≡ true → HasRoom s) → IsCalled before after (λ fault. calls_under t h busy fault m) (t', o) → RoomFor s o
room_for before after s t t' h busy m o bounded room done = by (enters t h busy m) refl
  where
    by : (b : Bool) → enters t h busy m ≡ b → RoomFor s o
    by true is = room_if s o (room is)
    by false is = room_quiet s o bounded (subst IsQuiet (ap (λ (p : Tree × Option Outcome). p.1) done.is) (quiet t h busy done.fault m is))

-- ---- what waits has its places in the store

pub room_waits : (entries more spare : ℕ) → entries + more ≤ spare → (now : ℕ) → now ≡ entries + more → now ≤ spare
room_waits entries more spare le now is = omega (arith, le, is)

-- What the server makes of a walk's last call that removes or renames: it's refused, or is done at once where no file goes, or waits; and what comes of it once it
-- has waited.
use Rattle.std.proofs.Common.{◌≡◌, ℕ, ◌+◌, ◌<◌, List, [], Option, Some, None, Result, Ok, Err, Bool, true, false, ◌==◌, refl, sym, ap, ◌∙◌, subst, arith, if◌then◌else◌}
use Rattle.sha1.specs.Sha1.{sha1}
use Rattle.xdr_codec.specs.Handle.{handle_bytes}
use Rattle.std.proofs.lemmas.Bool.Decides.{nat_tests}
use Rattle.xdr_codec.specs.declared.status.Status.{Status}
use Rattle.xdr_codec.specs.declared.status.Status.TheVariants as status
use Rattle.nfs3_calls.specs.Nfs.{nfs_proc}
use Rattle.nfs3_calls.specs.declared.message.Nfs.TheVariants as nfs
use Rattle.wire.specs.declared.message.Body.TheVariants as body
use Rattle.tree_nodes.specs.declared.node.Node.{Node}
use Rattle.tree_nodes.specs.declared.node.Body.{Body}
use Rattle.tree_nodes.specs.declared.node.Body.TheVariants.{File as Plain}
use Rattle.tree_nodes.specs.Nodes.{with_id, named}
use Rattle.tree_reading.specs.Chain.{◌>>=◌}
use Rattle.tree_reading.specs.Plans.{one, move_done, gone_entry, name_entry}
use Rattle.file_tree.specs.Step.{removed, moved}
use Rattle.file_tree.proofs.lemmas.States.{named_id}
use Rattle.tree_reading.specs.Tree.{Tree, is_directory, or_stale, directory_of, directory_or}
use Rattle.tree_reading.specs.declared.call.Changed.{Changed}
use Rattle.tree_reading.specs.declared.call.Reservation.{Reservation}
use Rattle.tree_reading.specs.declared.entry.Entry.{Entry}
use Rattle.tree_reading.specs.declared.entry.EntryKind.TheVariants as kind
use Rattle.tree_calls.specs.Telling.{id_of}
use Rattle.tree_calls.specs.Changing.{said}
use Rattle.tree_calls.specs.Waiting.{removing, asks_remove, removes_in, renaming, asks_rename, renames_in, some, settles, file_of, entries_of, spot_of}
use Rattle.tree_calls.specs.declared.asked.Asked.{Asked}
use Rattle.tree_calls.specs.declared.asked.Asked.TheVariants as asked
use Rattle.tree_calls.specs.declared.asked.Removing.{Removing}
use Rattle.tree_calls.specs.declared.asked.Renaming.{Renaming}
use Rattle.tree_calls.specs.declared.asked.Outcome.{Outcome}
use Rattle.tree_calls.specs.declared.asked.Outcome.TheVariants.{Answered, Waits}
use Rattle.path_calls.specs.Told.{walk_told}
use Rattle.path_calls.specs.Walk.{call_at, next_call}
use Rattle.path_calls.specs.declared.answers.Ended.TheVariants as ended
use Rattle.path_calls.specs.declared.answers.Told.TheVariants as told
use Rattle.path_calls.specs.declared.walk.Goal.{Goal}
use Rattle.path_calls.specs.declared.walk.Goal.TheVariants as goal
use Rattle.path_calls.specs.declared.walk.Walk.{Walk}
use Rattle.server_core.specs.State as server
use Rattle.chunk_calls.specs.Files as the_files
use Rattle.server_core.specs.Step.{asks_tree}
use Rattle.trace_replay.specs.Naming.{refusal_of}
use Rattle.kept_promise.proofs.Common.{called, has_waiting, File, NameReply, name_answer}
use Rattle.server_law.proofs.lemmas.Trees.{IsGiven, IsBounded, given}
use Rattle.kept_promise.proofs.PathNames.{IsGoalNamed, IsWalkSmall, IsAsking, goes_at, is_going}
use Rattle.kept_promise.proofs.Makings.{own_id, step_by}
use Rattle.kept_promise.proofs.Goings.{RefusedAs, file_gone, file_over, none_gone, none_moved, off_gone, off_over}
use Rattle.kept_promise.proofs.GoingCalls.{IsName, no_name, name_is, RemoveComes, remove_turned, remove_waits, remove_comes_so, RenameComes, rename_turned, rename_now, rename_waits, rename_comes_so, RemoveSettles, remove_fails, remove_goes, remove_settles_so, RenameSettles, rename_fails, rename_goes, rename_settles_so}
use Rattle.kept_promise.proofs.Rooted.{IsRooted, gone_rooted, rename_rooted}
use Rattle.kept_promise.proofs.MakingRooted.{some_letter}
use Rattle.kept_promise.proofs.TreeBounds.{IsSpared}
use Rattle.kept_promise.proofs.Messages.{AsksFor, walk_for}

-- ---- on arrival

-- busy: a change of the session waits
abbrev pub comes_by : Tree → Reservation → (busy : Bool) → (dir : ℕ) → Goal → Tree × Outcome
comes_by t held busy dir (goal.Remove name) = (t, removing dir name (asks_remove t held busy dir name))
comes_by t held busy dir (goal.RenameTo from name to_name) = renaming t held from name dir to_name (asks_rename t held busy from name dir to_name)
-- no other goal does
comes_by t held busy dir g = (t, Answered (said nfs.Null))

called_at : (s : server.State) (session xid dir : ℕ) (left : List (List ℕ)) (g : Goal) → dir < 18446744073709551616 → IsAsking g → goes_at left g ≡ true → called s session xid (body.Nfs (call_at dir left g)) ≡ asks_tree s session xid (some (comes_by s.tree (server.held s.waiting) (has_waiting s.waiting session) dir g))
called_at s session xid dir [] (goal.Remove name) small asking e = ap (λ (r : Result ℕ Status). asks_tree s session xid (s.tree, Some (removes_in s.tree (server.held s.waiting) (has_waiting s.waiting session) name r))) (own_id dir small)
called_at s session xid dir [] (goal.RenameTo from name to_name) small asking e =
    ap (λ (r : Result ℕ Status). asks_tree s session xid (some (renames_in s.tree (server.held s.waiting) (has_waiting s.waiting session) name to_name r (id_of (handle_bytes dir))))) (own_id from asking)
    ∙ ap (λ (r : Result ℕ Status). asks_tree s session xid (some (renames_in s.tree (server.held s.waiting) (has_waiting s.waiting session) name to_name (Ok from) r))) (own_id dir small)
called_at s session xid dir left g small asking e = absurd cc

pub called_going : (s : server.State) (session xid : ℕ) (w : Walk) → IsWalkSmall w → is_going w ≡ true → called s session xid (body.Nfs (next_call w)) ≡ asks_tree s session xid (some (comes_by s.tree (server.held s.waiting) (has_waiting s.waiting session) w.dir w.goal))
called_going s session xid w h e = called_at s session xid w.dir w.left w.goal h.dir h.asking e

-- the node that goes under another name isn't the file that goes
abbrev pub AreTwo : Asked → Type 0
AreTwo (asked.Remove r) = Unit {0}
AreTwo (asked.Rename r) = (r.node == r.file) ≡ false

pub data ComesSo (t : Tree) (held : Reservation) (busy : Bool) (w : Walk) : Type 0 where
  refused : (s : Status) (r : NameReply) → comes_by t held busy w.dir w.goal ≡ (t, Answered (said (name_answer r))) → RefusedAs t w s → refusal_of (name_answer r) ≡ Some s → walk_told w (name_answer r) ≡ told.Ends (ended.Refused s) → nfs_proc (name_answer r) ≡ nfs_proc (next_call w) → ComesSo t held busy w
  -- a rename over no file
  done_now : (done : Changed) (r : NameReply) (after : Tree) → comes_by t held busy w.dir w.goal ≡ (after, Answered (record { answer = name_answer r; first = done.first; second = done.second })) → step_by t held w.dir w.goal ≡ (after, Ok done) → IsName done.first → IsName done.second → walk_told w (name_answer r) ≡ told.Ends ended.Done → nfs_proc (name_answer r) ≡ nfs_proc (next_call w)
      → ((f : ℕ) → the_files.file_at after f ≡ the_files.file_at t f) → ((f : ℕ) → with_id t.nodes f ≡ None → with_id after.nodes f ≡ None) → (IsRooted t.nodes → IsRooted after.nodes) → after.next ≡ t.next → ComesSo t held busy w
  waits : (a : Asked) (g : File) → comes_by t held busy w.dir w.goal ≡ (t, Waits a) → AsksFor w a → the_files.file_at t (file_of a) ≡ Some g → IsSpared t held (entries_of a) → busy ≡ false → AreTwo a → ComesSo t held busy w

-- ---- once it has waited

-- a file goes
pub record IsGoneEntry (t : Tree) (file : ℕ) (o : Option Entry) : Type 0 where
  pub entry : Entry
  pub is : o ≡ Some entry
  pub kind_is : entry.kind ≡ kind.Remove
  pub file_is : entry.file ≡ file
  pub len_is : entry.len ≡ 0
  pub digest_is : entry.sha1 ≡ sha1 []
  pub old : File
  pub there : the_files.file_at t file ≡ Some old
  pub version_is : entry.version ≡ old.version + 1

pub data SettlesSo (t : Tree) (held : Reservation) (w : Walk) (a : Asked) : Type 0 where
  refused_late : (s : Status) (r : NameReply) → settles t held a ≡ (t, said (name_answer r)) → RefusedAs t w s → refusal_of (name_answer r) ≡ Some s → walk_told w (name_answer r) ≡ told.Ends (ended.Refused s) → nfs_proc (name_answer r) ≡ nfs_proc (next_call w) → SettlesSo t held w a
  goes : (done : Changed) (r : NameReply) (after : Tree) → settles t held a ≡ (after, record { answer = name_answer r; first = done.first; second = done.second }) → step_by t held w.dir w.goal ≡ (after, Ok done) → IsGoneEntry t (file_of a) done.first → IsName done.second → walk_told w (name_answer r) ≡ told.Ends ended.Done → nfs_proc (name_answer r) ≡ nfs_proc (next_call w)
      → ((f : ℕ) → the_files.file_at after f ≡ (if file_of a == f then None else the_files.file_at t f)) → ((f : ℕ) → with_id t.nodes f ≡ None → with_id after.nodes f ≡ None) → with_id after.nodes (file_of a) ≡ None → (IsRooted t.nodes → IsRooted after.nodes) → after.next ≡ t.next → SettlesSo t held w a

-- ---- each call

-- what a name stands for is a file, if its body is a content
file_there : (t : Tree) (dir : ℕ) (name : List ℕ) (n : Node) (content : List ℕ) → IsGiven t → named t.nodes dir name ≡ Some n → n.body ≡ Plain content → the_files.file_at t n.id ≡ Some (record { id = n.id; version = n.version; content = content })
file_there t dir name n content given at body = ap the_files.file_of_node (named_id t.nodes dir name n given.apart at) ∙ ap (the_files.file_of_body n) body

remove_so : (t : Tree) (held : Reservation) (busy : Bool) (dir : ℕ) (name : List ℕ) → IsGiven t → RemoveComes t held busy dir name → ComesSo t held busy (record { dir = dir; left = []; goal = goal.Remove name })
remove_so t held busy dir name given (remove_turned s r is why refuses leads procs) = refused s r (ap (λ (o : Outcome). (t, o)) is) why refuses leads procs
remove_so t held busy dir name given (remove_waits n content is free at body room) = waits (asked.Remove (record { spot = spot_of dir name; file = n.id })) (record { id = n.id; version = n.version; content = content }) (ap (λ (o : Outcome). (t, o)) is) (refl, refl, refl) (file_there t dir name n content given at body) room free tt

rename_so : (t : Tree) (held : Reservation) (busy : Bool) (from : ℕ) (name : List ℕ) (to : ℕ) (to_name : List ℕ) → IsGiven t → IsGoalNamed (goal.RenameTo from name to_name) → RenameComes t held busy from name to to_name → ComesSo t held busy (record { dir = to; left = []; goal = goal.RenameTo from name to_name })
rename_so t held busy from name to to_name given h (rename_turned s r is why refuses leads procs) = refused s r is why refuses leads procs
rename_so t held busy from name to to_name given h (rename_now done after r is m leads procs) =
    done_now done r after is m.step m.first m.second leads procs m.keeps.files m.keeps.none (λ z. subst (λ (p : Tree × Result Changed Status). IsRooted p.0.nodes) m.step (rename_rooted t held from name to to_name (some_letter name h.0.2) (some_letter to_name h.1.2) h.1.1 z)) m.keeps.next
rename_so t held busy from name to to_name given h (rename_waits n m content is free at over apart body room) =
    waits (asked.Rename (record { from = spot_of from name; to = spot_of to to_name; node = n.id; file = m.id })) (record { id = m.id; version = m.version; content = content }) is (refl, refl, refl) (file_there t to to_name m content given over body) room free (turned n.id m.id apart)
  where
    turned : (a b : ℕ) → (b == a) ≡ false → (a == b) ≡ false
    turned a b e = grind (arith, nat_tests, e)

comes_at : (t : Tree) (held : Reservation) (busy : Bool) (dir : ℕ) (left : List (List ℕ)) (g : Goal) → IsGiven t → IsGoalNamed g → goes_at left g ≡ true → ComesSo t held busy (record { dir = dir; left = left; goal = g })
comes_at t held busy dir [] (goal.Remove name) given h e = remove_so t held busy dir name given (remove_comes_so t held busy dir name)
comes_at t held busy dir [] (goal.RenameTo from name to_name) given h e = rename_so t held busy from name dir to_name given h (rename_comes_so t given held busy from name dir to_name)
comes_at t held busy dir left g given h e = absurd cc

pub comes_so : (t : Tree) (held : Reservation) (busy : Bool) (w : Walk) → IsBounded t → IsWalkSmall w → is_going w ≡ true → ComesSo t held busy w
comes_so t held busy w bounded small going = comes_at t held busy w.dir w.left w.goal (given t bounded) small.named.1 going

-- ---- each that waited

-- what isn't a directory's id isn't one's
not_directory : (t : Tree) (f : ℕ) → ((n : Node) → directory_of t.nodes f ≡ Ok n → ⊥) → (d : Node) → with_id t.nodes f ≡ Some d → is_directory d.body ≡ false
not_directory t f none d at = by (is_directory d.body) refl
  where
    by : (b : Bool) → is_directory d.body ≡ b → b ≡ false
    by true is = absurd (none d (ap (λ (o : Option Node). or_stale o >>= directory_or status.NotDir) at ∙ ap (λ (b : Bool). let r : Result Node Status = if b then Ok d else Err status.NotDir in r) is))
    by false is = refl

-- the file's own entry
gone_entry_is : (t : Tree) (dir : ℕ) (name : List ℕ) (n : Node) (content : List ℕ) (file : ℕ) → IsGiven t → named t.nodes dir name ≡ Some n → n.body ≡ Plain content → n.id ≡ file → IsGoneEntry t file (Some (gone_entry n (Plain content)))
gone_entry_is t dir name n content file given at body same = record {
  entry = gone_entry n (Plain content);
  is = refl;
  kind_is = refl;
  file_is = same;
  len_is = refl;
  digest_is = refl;
  old = record { id = n.id; version = n.version; content = content };
  there = ap (the_files.file_at t) (sym same) ∙ file_there t dir name n content given at body;
  version_is = refl;
}

gone_at : (t after : Tree) (id file f : ℕ) → id ≡ file → the_files.file_at after f ≡ (if id == f then None else the_files.file_at t f) → the_files.file_at after f ≡ (if file == f then None else the_files.file_at t f)
gone_at t after id file f same e = e ∙ ap (λ (i : ℕ). if i == f then None else the_files.file_at t f) same

remove_late_so : (t : Tree) (held : Reservation) (r : Removing) → IsGiven t → IsGoalNamed (goal.Remove r.spot.name) → RemoveSettles t held r → SettlesSo t held (record { dir = r.spot.dir; left = []; goal = goal.Remove r.spot.name }) (asked.Remove r)
remove_late_so t held r given h (remove_fails s m is why refuses leads procs) = refused_late s m is why refuses leads procs
remove_late_so t held r given h (remove_goes n content m is same at body d step leads procs) =
    goes (one n.id (n.version + 1) (gone_entry n (Plain content))) m (removed t r.spot.dir n.id) is step (gone_entry_is t r.spot.dir r.spot.name n content r.file given at body same) no_name leads procs
    (λ f. gone_at t (removed t r.spot.dir n.id) n.id r.file f same (file_gone t r.spot.dir n f d)) (λ f none. none_gone t r.spot.dir n.id f none) (ap (with_id (removed t r.spot.dir n.id).nodes) (sym same) ∙ off_gone t r.spot.dir n.id) (λ z. gone_rooted t r.spot.dir r.spot.name n (some_letter r.spot.name h.2) at z) refl

rename_late_so : (t : Tree) (held : Reservation) (r : Renaming) → IsGiven t → IsGoalNamed (goal.RenameTo r.from.dir r.from.name r.to.name) → RenameSettles t held r → SettlesSo t held (record { dir = r.to.dir; left = []; goal = goal.RenameTo r.from.dir r.from.name r.to.name }) (asked.Rename r)
rename_late_so t held r given h (rename_fails s m is why refuses leads procs) = refused_late s m is why refuses leads procs
rename_late_so t held r given h (rename_goes n g content m is same at over apart body d step leads procs) =
    let there : with_id t.nodes n.id ≡ Some n = named_id t.nodes r.from.dir r.from.name n given.apart at in
    let after : Tree = moved t r.from.dir n (Some g) r.to.dir r.to.name in
    goes (move_done n (Some g)) m after (is ∙ ap (λ (b : Body). (after, record { answer = name_answer m; first = Some (gone_entry g b); second = Some (name_entry n.id) })) (sym body)) step
    (subst (λ (b : Body). IsGoneEntry t r.file (Some (gone_entry g b))) (sym body) (gone_entry_is t r.to.dir r.to.name g content r.file given over body same)) (name_is n.id) leads procs
    (λ f. gone_at t after g.id r.file f same (file_over t r.from.dir n g r.to.dir r.to.name f there apart d)) (λ f none. none_moved t r.from.dir n (Some g) r.to.dir r.to.name f there (λ k e. subst (λ (j : Node). (j.id == n.id) ≡ false) (node_is g k e) apart) none)
    (ap (with_id after.nodes) (sym same) ∙ off_over t r.from.dir n g r.to.dir r.to.name there apart)
    (λ z. subst (λ (p : Tree × Result Changed Status). IsRooted p.0.nodes) step (rename_rooted t held r.from.dir r.from.name r.to.dir r.to.name (some_letter r.from.name h.0.2) (some_letter r.to.name h.1.2) h.1.1 z)) refl
  where
    node_is : (x y : Node) → ◌≡◌ {A = Option Node} (Some x) (Some y) → x ≡ y
    node_is x y e = cc

settles_at : (t : Tree) (held : Reservation) (dir : ℕ) (left : List (List ℕ)) (g : Goal) (a : Asked) → IsGiven t → IsGoalNamed g → AsksFor (record { dir = dir; left = left; goal = g }) a → AreTwo a → ((n : Node) → directory_of t.nodes (file_of a) ≡ Ok n → ⊥) → SettlesSo t held (record { dir = dir; left = left; goal = g }) a
settles_at t held dir left g (asked.Remove r) given h asks two none =
    subst (λ (w : Walk). SettlesSo t held w (asked.Remove r)) (sym (walk_is (record { dir = dir; left = left; goal = g }) asks)) (remove_late_so t held r given (subst IsGoalNamed asks.1 h) (remove_settles_so t held r))
  where
    walk_is : (w : Walk) → AsksFor w (asked.Remove r) → w ≡ record { dir = r.spot.dir; left = []; goal = goal.Remove r.spot.name }
    walk_is w h = ap (λ (l : List (List ℕ)). record w { left = l }) h.0 ∙ ap (λ (g : Goal). record { dir = w.dir; left = []; goal = g }) h.1 ∙ ap (λ (d : ℕ). record { dir = d; left = []; goal = goal.Remove r.spot.name }) h.2
settles_at t held dir left g (asked.Rename r) given h asks two none =
    subst (λ (w : Walk). SettlesSo t held w (asked.Rename r)) (sym (walk_is (record { dir = dir; left = left; goal = g }) asks)) (rename_late_so t held r given (subst IsGoalNamed asks.1 h) (rename_settles_so t held r given two (not_directory t r.file none)))
  where
    walk_is : (w : Walk) → AsksFor w (asked.Rename r) → w ≡ record { dir = r.to.dir; left = []; goal = goal.RenameTo r.from.dir r.from.name r.to.name }
    walk_is w h = ap (λ (l : List (List ℕ)). record w { left = l }) h.0 ∙ ap (λ (g : Goal). record { dir = w.dir; left = []; goal = g }) h.1 ∙ ap (λ (d : ℕ). record { dir = d; left = []; goal = goal.RenameTo r.from.dir r.from.name r.to.name }) h.2

-- what is taken out is asked for by a walk of its own
pub asks_itself : (a : Asked) → AsksFor (walk_for a) a
asks_itself (asked.Remove r) = (refl, refl, refl)
asks_itself (asked.Rename r) = (refl, refl, refl)

pub settles_so : (t : Tree) (held : Reservation) (w : Walk) (a : Asked) → IsBounded t → IsWalkSmall w → AsksFor w a → AreTwo a → ((n : Node) → directory_of t.nodes (file_of a) ≡ Ok n → ⊥) → SettlesSo t held w a
settles_so t held w a bounded small asks two none = settles_at t held w.dir w.left w.goal a (given t bounded) small.named.1 asks two none

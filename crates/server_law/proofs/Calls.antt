-- What the tree makes of any call, and of what waited, leaves of its files what its entries say.
use Rattle.std.proofs.Common.{◌≡◌, refl, ℕ, List, length, Option, Some, None, Result, Ok, Err, Bool}
use Rattle.xdr_codec.specs.declared.status.Status.{Status}
use Rattle.xdr_codec.specs.declared.status.Status.TheVariants as status
use Rattle.nfs3_calls.specs.declared.change.Before.{Before}
use Rattle.nfs3_calls.specs.declared.message.Nfs.{Nfs}
use Rattle.nfs3_calls.specs.declared.message.Nfs.TheVariants as nfs
use Rattle.tree_nodes.specs.declared.node.Node.{Node}
use Rattle.tree_reading.specs.Tree.{Tree}
use Rattle.tree_reading.specs.Plans.{replace_plan}
use Rattle.file_tree.specs.Step.{create, mkdir, remove, rmdir, rename, replace, replace_if}
use Rattle.tree_reading.specs.declared.call.Changed.{Changed}
use Rattle.tree_reading.specs.declared.call.Reservation.{Reservation}
use Rattle.tree_calls.specs.declared.asked.Asked.{Asked}
use Rattle.tree_calls.specs.declared.asked.Asked.TheVariants as asked
use Rattle.tree_calls.specs.declared.asked.Done.{Done}
use Rattle.tree_calls.specs.declared.asked.Outcome.{Outcome}
use Rattle.tree_calls.specs.declared.asked.Outcome.TheVariants.{Answered, Waits}
use Rattle.tree_calls.specs.Telling.{id_of, told}
use Rattle.file_tree.specs.Stores.{stored}
use Rattle.tree_calls.specs.Changing.{before, mode_of, created, made_directory, removed_directory, removed, renamed, with_done, renames_under}
use Rattle.tree_calls.specs.Waiting.{told_outcome, gives_content_under, with_committed, settles_under, removes_if_under, renames_if_under, remove_again, rename_again, calls_under, creates_in_under, mkdirs_in_under, rmdirs_in_under, removes_in, removing, asks_remove, renaming_under, asks_rename, renames_in_under}
use Rattle.server_law.proofs.lemmas.Asked.{asked_holds}
use Rattle.server_law.proofs.Changes.{TellsChange, tells_create, tells_mkdir, tells_remove, tells_rmdir, tells_rename}
use Rattle.server_law.proofs.Facts.{IsTelling, tells_none, tells_replaced}
use Rattle.server_law.proofs.lemmas.TreeCalls.{replace_in}
use Rattle.server_law.proofs.lemmas.Trees.{IsGiven}

abbrev pub TellsDone : Tree → ℕ → Tree × Done → Type 0
TellsDone t session p = IsTelling t session p.1.first p.1.second p.0

abbrev pub TellsOutcome : Tree → ℕ → Tree → Option Outcome → Type 0
TellsOutcome t session u None = IsTelling t session None None u
TellsOutcome t session u (Some (Answered d)) = IsTelling t session d.first d.second u
TellsOutcome t session u (Some (Waits a)) = IsTelling t session None None u

-- ---- an answer has the entries of its change

module _ (t : Tree) (session : ℕ) (u : Tree) where
  created_has : (b : Option Before) (dir : ℕ) (nodes : List Node) (r : Result Changed Status) → TellsChange t session u r → TellsDone t session (u, created b dir nodes r)
  created_has b dir nodes (Ok c) h = h
  created_has b dir nodes (Err s) h = h

  directory_has : (b : Option Before) (dir : ℕ) (nodes : List Node) (r : Result Changed Status) → TellsChange t session u r → TellsDone t session (u, made_directory b dir nodes r)
  directory_has b dir nodes (Ok c) h = h
  directory_has b dir nodes (Err s) h = h

  rmdir_has : (b : Option Before) (dir : ℕ) (nodes : List Node) (r : Result Changed Status) → TellsChange t session u r → TellsDone t session (u, removed_directory b dir nodes r)
  rmdir_has b dir nodes (Ok c) h = h
  rmdir_has b dir nodes (Err s) h = h

  remove_has : (b : Option Before) (dir : ℕ) (nodes : List Node) (r : Result Changed Status) → TellsChange t session u r → TellsDone t session (u, removed b dir nodes r)
  remove_has b dir nodes (Ok c) h = h
  remove_has b dir nodes (Err s) h = h

  rename_has : (a b : Option Before) (dir to : ℕ) (nodes : List Node) (r : Result Changed Status) → TellsChange t session u r → TellsDone t session (u, renamed a b dir to nodes r)
  rename_has a b dir to nodes (Ok c) h = h
  rename_has a b dir to nodes (Err s) h = h

-- ---- what waited

module _ (t : Tree) (session : ℕ) (held : Reservation) (fault : Bool) (h : IsGiven t) where
  -- where IO is told nothing is made
  asked_has : (f : List Node → Result Changed Status → Done) (p : Tree × Result Changed Status) → TellsDone t session (with_done f p) → TellsDone t session (with_done f (t, Err status.Io)) → TellsDone t session (with_done f (stored fault t p))
  asked_has f p made failed = asked_holds (λ q. TellsDone t session (with_done f q)) fault t p made failed

  renames_has : (dir : ℕ) (name : List ℕ) (to : ℕ) (to_name : List ℕ) → TellsDone t session (renames_under t held fault dir name to to_name)
  renames_has dir name to to_name =
      let p : Tree × Result Changed Status = rename t held dir name to to_name in
      asked_has (renamed (before t.nodes dir) (before t.nodes to) dir to) p (rename_has t session p.0 (before t.nodes dir) (before t.nodes to) dir to p.0.nodes p.1 (tells_rename t session held dir name to to_name h)) (tells_none t session)

  pub tells_settles : (a : Asked) → TellsDone t session (settles_under t held fault a)
  tells_settles (asked.Remove r) = by (remove_again t.nodes r)
    where
      p : Tree × Result Changed Status
      p = remove t held r.spot.dir r.spot.name

      by : (o : Result Unit Status) → TellsDone t session (removes_if_under t held fault r.spot o)
      by (Err e) = tells_none t session
      by (Ok v) = asked_has (removed (before t.nodes r.spot.dir) r.spot.dir) p (remove_has t session p.0 (before t.nodes r.spot.dir) r.spot.dir p.0.nodes p.1 (tells_remove t session held r.spot.dir r.spot.name h)) (tells_none t session)
  tells_settles (asked.Rename r) = by (rename_again t.nodes r)
    where
      by : (o : Result Unit Status) → TellsDone t session (renames_if_under t held fault r.from r.to o)
      by (Err e) = tells_none t session
      by (Ok v) = renames_has r.from.dir r.from.name r.to.dir r.to.name

  tells_commit : (id : ℕ) (content : List ℕ) (term : ℕ) → IsTelling t session (with_committed term (replace t held id content)).1.entry None (replace t held id content).0
  tells_commit id content term = by (replace_plan t held id (length content)) refl
    where
      by : (r : Result ℕ Status) → replace_plan t held id (length content) ≡ r → IsTelling t session (with_committed term (replace_if t id content r)).1.entry None (with_committed term (replace_if t id content r)).0
      by (Err s) e = tells_none t session
      by (Ok version) e = let g = replace_in t held id (length content) version e in tells_replaced t session id version content g.0 g.1 g.2

  pub tells_commits : (id : ℕ) (content : List ℕ) (term : ℕ) → IsTelling t session (gives_content_under t held fault id content term).1.entry None (gives_content_under t held fault id content term).0
  tells_commits id content term = asked_holds (λ q. IsTelling t session (with_committed term q).1.entry None q.0) fault t (replace t held id content) (tells_commit id content term) (tells_none t session)

  -- ---- any call

  told_has : (o : Option Nfs) → TellsOutcome t session t (told_outcome o)
  told_has None = tells_none t session
  told_has (Some m) = tells_none t session

  pub tells_calls : (busy : Bool) (m : Nfs) → TellsOutcome t session (calls_under t held busy fault m).0 (calls_under t held busy fault m).1
  tells_calls busy (nfs.Create f) = by (id_of f.place.dir)
    where
      by : (r : Result ℕ Status) → TellsDone t session (creates_in_under t held fault f r)
      by (Err s) = tells_none t session
      by (Ok dir) =
          let p : Tree × Result Changed Status = create t held dir f.place.name (mode_of f.how) in
          asked_has (created (before t.nodes dir) dir) p (created_has t session p.0 (before t.nodes dir) dir p.0.nodes p.1 (tells_create t session held dir f.place.name (mode_of f.how) h)) (tells_none t session)
  tells_calls busy (nfs.MkDir d) = by (id_of d.place.dir)
    where
      by : (r : Result ℕ Status) → TellsDone t session (mkdirs_in_under t held fault d.place.name r)
      by (Err s) = tells_none t session
      by (Ok dir) =
          let p : Tree × Result Changed Status = mkdir t held dir d.place.name in
          asked_has (made_directory (before t.nodes dir) dir) p (directory_has t session p.0 (before t.nodes dir) dir p.0.nodes p.1 (tells_mkdir t session held dir d.place.name h)) (tells_none t session)
  tells_calls busy (nfs.Remove p) = by (id_of p.dir)
    where
      comes : (dir : ℕ) (o : Result ℕ Status) → TellsOutcome t session t (Some (removing dir p.name o))
      comes dir (Err s) = tells_none t session
      comes dir (Ok id) = tells_none t session

      by : (r : Result ℕ Status) → TellsOutcome t session t (Some (removes_in t held busy p.name r))
      by (Err s) = tells_none t session
      by (Ok dir) = comes dir (asks_remove t held busy dir p.name)
  tells_calls busy (nfs.RmDir p) = by (id_of p.dir)
    where
      by : (r : Result ℕ Status) → TellsDone t session (rmdirs_in_under t held fault p.name r)
      by (Err s) = tells_none t session
      by (Ok dir) =
          let q : Tree × Result Changed Status = rmdir t held dir p.name in
          asked_has (removed_directory (before t.nodes dir) dir) q (rmdir_has t session q.0 (before t.nodes dir) dir q.0.nodes q.1 (tells_rmdir t session held dir p.name h)) (tells_none t session)
  tells_calls busy (nfs.Rename r) = by (id_of r.from.dir) (id_of r.to.dir)
    where
      comes : (dir to : ℕ) (o : Result (Option (ℕ × ℕ)) Status) → TellsOutcome t session (renaming_under t held fault dir r.from.name to r.to.name o).0 (Some (renaming_under t held fault dir r.from.name to r.to.name o).1)
      comes dir to (Err s) = tells_none t session
      comes dir to (Ok None) = renames_has dir r.from.name to r.to.name
      comes dir to (Ok (Some p)) = tells_none t session

      by : (a b : Result ℕ Status) → TellsOutcome t session (renames_in_under t held busy fault r.from.name r.to.name a b).0 (Some (renames_in_under t held busy fault r.from.name r.to.name a b).1)
      by (Ok dir) (Ok to) = comes dir to (asks_rename t held busy dir r.from.name to r.to.name)
      by (Ok dir) (Err s) = tells_none t session
      by (Err s) b = tells_none t session
  tells_calls busy m = told_has (told t.nodes m)

-- A session that is no client's sends any bytes: what holds of the two ends goes on.
use Rattle.std.proofs.Common.{inl, inr, ◌≡◌, ℕ, zero, suc, ◌+◌, ◌<◌, ◌≤◌, List, [], ◌∷◌, ◌++◌, length, length-append, append-nil, Option, Some, None, Result, Ok, Err, Bool, true, false, refl, sym, ap, ◌∙◌, subst, arith, if◌then◌else◌}
use Rattle.std.proofs.lemmas.Bool.Decides.{nat_tests}
use Rattle.std.specs.List.{AllByRecursion}
use Rattle.xdr_codec.specs.Xdr.{u32_form}
use Rattle.xdr_codec.specs.Handle.{file_of as handle_file}
use Rattle.xdr_codec.specs.declared.status.Status.TheVariants as status
use Rattle.hash_calls.specs.Calls.{new_temp_form, temp_piece_form, cond_piece_form, commit_form}
use Rattle.hash_calls.specs.Lb.{LbFits}
use Rattle.hash_calls.specs.declared.message.Lb.{Lb}
use Rattle.hash_calls.specs.declared.message.Lb.TheVariants as lb
use Rattle.nfs3_calls.specs.declared.message.Nfs.{Nfs}
use Rattle.nfs3_calls.specs.declared.message.Nfs.TheVariants as nfs
use Rattle.wire.specs.Message.{IsSpelled, is_unfit}
use Rattle.wire.specs.declared.message.Body.TheVariants as body
use Rattle.wire.specs.declared.message.Message.TheVariants as message
use Rattle.wire.specs.declared.fault.WireFault.TheVariants as fault
use Rattle.wire.proofs.lemmas.Said.{read_is_said}
use Rattle.tree_nodes.specs.Nodes.{with_id}
use Rattle.tree_nodes.specs.declared.node.Node.{Node as TreeNode}
use Rattle.tree_nodes.specs.declared.node.Body.TheVariants.{File as Plain}
use Rattle.tree_nodes.specs.Nodes.{named}
use Rattle.tree_reading.specs.Tree.{contents_size}
use Rattle.tree_reading.specs.Plans.{made_entry}
use Rattle.tree_reading.specs.declared.call.Changed.{Changed as TreeChange}
use Rattle.tree_reading.specs.declared.call.Reservation.{Reservation}
use Rattle.tree_reading.specs.declared.entry.Entry.{Entry as TreeEntry}
use Rattle.tree_calls.specs.Waiting.{calls, told_outcome, some, answered as answered_at, removing, asks_remove, renaming, asks_rename, file_of, entries_of}
use Rattle.tree_calls.specs.Changing.{said}
use Rattle.tree_calls.specs.declared.asked.Asked.{Asked}
use Rattle.tree_calls.specs.declared.asked.Asked.TheVariants as asked
use Rattle.tree_calls.specs.declared.asked.Done.{Done as Finished}
use Rattle.tree_calls.specs.declared.asked.Outcome.{Outcome}
use Rattle.tree_calls.specs.declared.asked.Outcome.TheVariants.{Answered, Waits as ToWait}
use Rattle.path_calls.specs.declared.walk.Goal.{Goal}
use Rattle.path_calls.specs.declared.walk.Goal.TheVariants as goal
use Rattle.file_tree.specs.Step.{rename}
use Rattle.file_tree.proofs.lemmas.States.{named_id}
use Rattle.temp_files.specs.Pieces.{joined}
use Rattle.chunk_calls.specs.Answers.{node_named}
use Rattle.chunk_calls.specs.Files as the_files
use Rattle.server_core.specs.State as server
use Rattle.server_core.specs.Closing.{answers, looked_up, entries_by, entry_by as written_by, changes_most, tree_most}
use Rattle.server_core.specs.Recalling.{comes}
use Rattle.server_core.specs.Step.{asks_tree}
use Rattle.server_core.specs.declared.change.Wanted.TheVariants as wanted
use Rattle.server_core.specs.declared.event.ServerStep.{ServerStep}
use Rattle.server_core.specs.declared.event.Sent.{Sent}
use Rattle.trace_ends.specs.Core.{serves_none, loses, is_of_file}
use Rattle.server_law.proofs.lemmas.Trees.{IsGiven, IsBounded, given}
use Rattle.server_law.proofs.lemmas.TreeCalls.{entries_more, sizes_more}
use Rattle.kept_promise.proofs.Common.{slice_get, nat_lt, option_map, ◌==◌, ◌||◌, Done, Failed, Status, Body, Message, WireFault, parse_of, Temp, size_most, temp_at, room_fault, piece_fault, cond_fault, assembled, without_temp, with_temp, key_of, File, Node, file, directory, node_of, called, got_if, at, stands, makes, makes_unless, writes_unless, names_unless, names_bytes, takes_commit, takes_commit_on, commits_whole, has_waiting, is_full, FileChange, Entry, Core, Session, CoreStep, Event.Serves, happens, server_waits, serves, serves_if, serves_unless, change_of, name_answer, numbered, Book, Queue, Tree, is_raw, later}
use Rattle.kept_promise.proofs.Lists.{some_is, nothing_there}
use Rattle.kept_promise.proofs.Keys.{own}
use Rattle.kept_promise.proofs.Rights.{WasThere}
use Rattle.kept_promise.proofs.History.{AreNames}
use Rattle.kept_promise.proofs.Facts.{FileIs, IsWanted, IsKept, is_there, IsLeasing}
use Rattle.kept_promise.proofs.Turns.{also_numbered}
use Rattle.kept_promise.proofs.TreeOpens.{Named, a_directory, nobody, a_file, named_in}
use Rattle.kept_promise.proofs.TreeBounds.{IsSpared}
use Rattle.kept_promise.proofs.Shelves.{of_lookup}
use Rattle.kept_promise.proofs.Commits.{not_full}
use Rattle.kept_promise.proofs.ServesFiles.{count_is}
use Rattle.kept_promise.proofs.PathNames.{IsWalkSmall, builds_at, creates_at, no_names}
use Rattle.kept_promise.proofs.Messages.{walk_for}
use Rattle.kept_promise.proofs.Makings.{made_by, step_by, MadeSo, refuses, enters, made_walk, EntryAt, AfterAt}
use Rattle.kept_promise.proofs.MakingTrees.{step_stays, next_after, none_after, positive, files_same}
use Rattle.kept_promise.proofs.MakingRooted.{after_rooted, some_letter}
use Rattle.kept_promise.proofs.MakingServes.{name_goal, make_goal, entry_name}
use Rattle.kept_promise.proofs.Rooted.{IsRooted, rename_rooted}
use Rattle.kept_promise.proofs.Unused.{unused_named, unused_same}
use Rattle.kept_promise.proofs.GoingCalls.{IsName, RemoveComes, remove_turned, remove_waits, remove_comes_so, remove_asked, IsMovedNow, RenameComes, rename_turned, rename_now, rename_waits, rename_comes_so, rename_asked}
use Rattle.kept_promise.proofs.Departures.{AreTwo}
use Rattle.kept_promise.proofs.AnyCall.{TreeAny, quietly, builds, removes, renames, tree_any}
use Rattle.kept_promise.proofs.PlansNamed.{step_named, renamed_named, remove_waits_named, rename_waits_named, small_directory}
use Rattle.kept_promise.proofs.Leading.{Leads, KeptRaws}
use Rattle.kept_promise.proofs.Cuts.{leads_idle}
use Rattle.kept_promise.proofs.Hangs.{leads_quiet, leads_hung}
use Rattle.kept_promise.proofs.RawGot.{AreOwn, TempsOf, temps_same, temps_put, temps_out, Got, got_leads, quietly_got, named_got, made_got, coming_got}
use Rattle.temp_files.specs.Temps.{with_piece}
use Rattle.kept_promise.proofs.RecallsKept.{used_recalls}
use Rattle.kept_promise.proofs.SentBytes.{AreBytes, is_bytes}

-- ---- what was read has numbers of 32 bits

abbrev FdFits : Lb → Type 0
FdFits (lb.MkTmpFile a) = a.fd < 4294967296
FdFits (lb.TmpWrite a) = a.fd < 4294967296
FdFits (lb.CondWrite a) = a.fd < 4294967296
FdFits (lb.CommitTmp a) = a.fd < 4294967296
FdFits m = Unit {0}

fd_fits : (m : Lb) → LbFits m → FdFits m
unfolding new_temp_form temp_piece_form cond_piece_form commit_form u32_form
fd_fits (lb.MkTmpFile a) h = h.1.0
fd_fits (lb.TmpWrite a) h = h.1.0
fd_fits (lb.CondWrite a) h = h.1.0
fd_fits (lb.CommitTmp a) h = h.1.0
fd_fits m h = tt

-- ---- what it comes to

none_waits : (n : ℕ) (ws : List FileChange) → has_waiting ws n ≡ false → own n ws ≡ []
none_waits n [] e = refl
none_waits n (w ∷ ws) e = by (w.session == n) e (none_waits n ws)
  where
    by : (b : Bool) → (b || has_waiting ws n) ≡ false → (has_waiting ws n ≡ false → own n ws ≡ []) → (if b then w ∷ own n ws else own n ws) ≡ []
    by true e later = absurd cc
    by false e later = later e

-- a content has as many bytes as were said
joined_length : (ps : List (ℕ × List ℕ)) (place size : ℕ) (x : List ℕ) → joined place size ps ≡ Some x → place + length x ≡ size
joined_length [] place size x e = by (place == size) refl e
  where
    by : (b : Bool) → (place == size) ≡ b → (let o : Option (List ℕ) = if b then Some [] else None in o ≡ Some x) → place + length x ≡ size
    by true same e = let none = ap (λ (l : List ℕ). length l) (some_is [] x e) in let is : place ≡ size = grind (arith, nat_tests, same) in omega (arith, none, is)
    by false same e = nothing_there x e
joined_length (p ∷ ps) place size x e = by (λ y rest. joined_length ps (place + length p.1) size y rest) (p.0 == place) (joined (place + length p.1) size ps) refl e
  where
    by : ((y : List ℕ) → joined (place + length p.1) size ps ≡ Some y → place + length p.1 + length y ≡ size) → (b : Bool) (o : Option (List ℕ)) → joined (place + length p.1) size ps ≡ o
        → (let z : Option (List ℕ) = if b then option_map (λ bytes. p.1 ++ bytes) o else None in z ≡ Some x) → place + length x ≡ size
    by on true (Some y) rest e =
        let later = on y rest in
        let is = ap (λ (l : List ℕ). length l) (some_is (p.1 ++ y) x e) in
        let both = length-append p.1 y in
        omega (arith, later, is, both)
    by on true None rest e = nothing_there x e
    by on false o rest e = nothing_there x e

-- a file that a handle names is one of the tree
file_named : (t : Tree) (handle : List ℕ) (z : File) → node_of t handle ≡ Ok (file z) → (f : ℕ) × (the_files.file_at t f ≡ Some z)
file_named t handle z e = by (handle_file handle) e
  where
    same : (x y : File) → ◌≡◌ {A = Result Node Status} (Ok (file x)) (Ok (file y)) → x ≡ y
    same x y e = cc

    none : (s : Status) → ◌≡◌ {A = Result Node Status} (Err s) (Ok (file z)) → ⊥
    none s e = absurd cc

    other : ◌≡◌ {A = Result Node Status} (Ok directory) (Ok (file z)) → ⊥
    other e = absurd cc

    found : (f : ℕ) → node_named t (Some f) ≡ Ok (file z) → Named t f → (f : ℕ) × (the_files.file_at t f ≡ Some z)
    found f e (a_directory d there free is) = absurd (other (sym is ∙ e))
    found f e (nobody free is) = absurd (none status.Stale (sym is ∙ e))
    found f e (a_file g there is) = (f, there ∙ ap (λ (x : File). Some x) (same g z (sym is ∙ e)))

    by : (o : Option ℕ) → node_named t o ≡ Ok (file z) → (f : ℕ) × (the_files.file_at t f ≡ Some z)
    by None e = absurd (none status.BadHandle e)
    by (Some f) e = found f e (named_in t f)

module _ (book : Book) (k : Core) (qs : List Queue) (n now : ℕ) (kept : IsKept book k qs) where
  abbrev s : server.State
  s = at k.server now

  abbrev t : Tree
  t = k.server.tree

  abbrev held : Reservation
  held = server.held k.server.waiting

  -- nothing of the tree changes, and nothing comes to wait
  plain : (r : server.State × ServerStep) → r.0 ≡ record k.server { index = r.0.index; leasing = r.0.leasing } → IsLeasing r.0.leasing → r.1.entries ≡ 0 → AreOwn n r.1.send → Got book k n r
  plain r is term none owns = quietly_got book k qs n r k.server.temps r.0.index r.0.leasing kept is term none owns (temps_same n k.server.temps kept.shelf)

  with_temps : (r : server.State × ServerStep) → TempsOf n k.server.temps r.0.temps → r.0 ≡ record k.server { temps = r.0.temps; index = r.0.index; leasing = r.0.leasing } → IsLeasing r.0.leasing → r.1.entries ≡ 0 → AreOwn n r.1.send → Got book k n r
  with_temps r temps is term none owns = quietly_got book k qs n r r.0.temps r.0.index r.0.leasing kept is term none owns temps

  -- what is found under a number is its own
  is_own : (m : ℕ) (u : Temp) → m < 4294967296 → temp_at k.server.temps n m ≡ Some u → (key_of u.session u.fd ≡ key_of n m) × (u.fd < 4294967296)
  is_own m u small found =
      let e = of_lookup k.server.temps (key_of n m) u found in
      let keyed = kept.shelf.1 e.0 e.1 e.2 in
      (ap (λ (z : Temp). key_of z.session z.fd) (sym e.4) ∙ sym keyed.0 ∙ e.3, subst (λ (z : Temp). z.fd < 4294967296) e.4 keyed.1)

  known_file : (handle : List ℕ) (z : File) → node_of t handle ≡ Ok (file z) → WasThere book z.id
  known_file handle z e =
      let f = file_named t handle z e in
      let is : FileIs book f.0 (Some z) = subst (FileIs book f.0) f.1 (kept.server.held f.0) in
      subst (WasThere book) (sym is.0) (is_there book f.0 z is)

  -- ---- of files

  commit_got : (xid m size : ℕ) → m < 4294967296 → xid < 4294967296 → (handle : List ℕ) (u : Temp) (nd : Result Node Status) → node_of t handle ≡ nd → Got book k n (takes_commit_on (record s { temps = without_temp k.server.temps n m }) n xid size u nd)
  commit_got xid m size fd small handle u (Err e) is = with_temps (takes_commit_on (record s { temps = without_temp k.server.temps n m }) n xid size u (Err e)) (temps_out n m k.server.temps fd kept.shelf) refl kept.server.leases refl (refl, tt)
  commit_got xid m size fd small handle u (Ok directory) is = with_temps (takes_commit_on (record s { temps = without_temp k.server.temps n m }) n xid size u (Ok directory)) (temps_out n m k.server.temps fd kept.shelf) refl kept.server.leases refl (refl, tt)
  commit_got xid m size fd small handle u (Ok (file f)) is = sized (nat_lt size_most size) refl
    where
      before : server.State
      before = record s { temps = without_temp k.server.temps n m }

      refused : (e : Status) → Got book k n (answers before n xid (lb.CommitTmpAnswer (Failed e tt)))
      refused e = with_temps (answers before n xid (lb.CommitTmpAnswer (Failed e tt))) (temps_out n m k.server.temps fd kept.shelf) refl kept.server.leases refl (refl, tt)

      room : (content : List ℕ) (busy full : Bool) → has_waiting k.server.waiting n ≡ busy → is_full before (length content) ≡ full → length content ≤ 67108864
          → Got book k n (if busy then answers before n xid (lb.CommitTmpAnswer (Failed status.Jukebox tt)) else if full then answers before n xid (lb.CommitTmpAnswer (Failed status.NoSpc tt)) else comes before (change_of n xid f.id (wanted.Content content)))
      room content true full waits is_ short = refused status.Jukebox
      room content false true waits is_ short = refused status.NoSpc
      room content false false waits is_ short =
          let d : FileChange = change_of n xid f.id (wanted.Content content) in
          let free = not_full changes_most (k.server.tree.changes + server.entries_held k.server.waiting + 1) tree_most (server.bytes_held k.server + length content) is_ in
          let entries = free.0 in
          let bytes = free.1 in
          let e = entries_more k.server.waiting d in
          let b = sizes_more k.server.waiting d in
          coming_got book k qs n now (without_temp k.server.temps n m) d kept (temps_out n m k.server.temps fd kept.shelf) refl (none_waits n k.server.waiting waits) tt (omega (arith, e, entries)) (omega (arith, b, bytes)) short (known_file handle f is) small

      whole : (o : Option (List ℕ)) → assembled u size ≡ o → size ≤ 67108864 → Got book k n (commits_whole before n xid f.id o)
      whole None e most = refused status.Inval
      whole (Some content) e most = let count = joined_length u.pieces 0 size content e in room content (has_waiting k.server.waiting n) (is_full before (length content)) refl refl (omega (arith, count, most))

      sized : (b : Bool) → nat_lt size_most size ≡ b → Got book k n (if b then answers before n xid (lb.CommitTmpAnswer (Failed status.FBig tt)) else commits_whole before n xid f.id (assembled u size))
      sized true e = refused status.FBig
      sized false e = whole (assembled u size) refl (grind (arith, nat_tests, e))

  lb_got : (xid : ℕ) (m : Lb) → xid < 4294967296 → FdFits m → Got book k n (called s n xid (body.Lb m))
  lb_got xid (lb.MkTmpFile a) small fd = by (node_of t a.handle)
    where
      room : (f : File) (o : Option Status) → Got book k n (makes_unless s n xid a.fd f.id o)
      room f (Some e) = plain (makes_unless s n xid a.fd f.id (Some e)) refl kept.server.leases refl (refl, tt)
      room f None = with_temps (makes_unless s n xid a.fd f.id None) (temps_put n a.fd k.server.temps (record { session = n; fd = a.fd; target = f.id; pieces = [] }) fd fd refl kept.shelf) refl kept.server.leases refl (refl, tt)

      by : (nd : Result Node Status) → Got book k n (makes s n xid a.fd nd)
      by (Err e) = plain (makes s n xid a.fd (Err e)) refl kept.server.leases refl (refl, tt)
      by (Ok directory) = plain (makes s n xid a.fd (Ok directory)) refl kept.server.leases refl (refl, tt)
      by (Ok (file f)) = room f (room_fault k.server.temps n a.fd)
  lb_got xid (lb.TmpWrite a) small fd = by (temp_at k.server.temps n a.fd) (piece_fault (temp_at k.server.temps n a.fd) a.offset (length a.bytes)) refl
    where
      by : (u : Option Temp) (o : Option Status) → temp_at k.server.temps n a.fd ≡ u → Got book k n (writes_unless s n xid a u o)
      by (Some u) None found = (let its = is_own a.fd u fd found in with_temps (writes_unless s n xid a (Some u) None) (temps_put n a.fd k.server.temps (with_piece u a.offset a.bytes) fd its.1 its.0 kept.shelf) refl kept.server.leases refl (refl, tt))
      by (Some u) (Some e) found = plain (writes_unless s n xid a (Some u) (Some e)) refl kept.server.leases refl (refl, tt)
      by None o found = plain (writes_unless s n xid a None o) refl kept.server.leases refl (refl, tt)
  lb_got xid (lb.CondWrite a) small fd = by (cond_fault a (temp_at k.server.temps n a.fd))
    where
      bytes : (u : Option Temp) (o : Option (List ℕ)) → temp_at k.server.temps n a.fd ≡ u → Got book k n (names_bytes (looked_up s a) n xid a u o)
      bytes (Some u) (Some b) found = (let its = is_own a.fd u fd found in with_temps (names_bytes (looked_up s a) n xid a (Some u) (Some b)) (temps_put n a.fd k.server.temps (with_piece u a.offset b) fd its.1 its.0 kept.shelf) refl kept.server.leases refl (refl, tt))
      bytes (Some u) None found = plain (names_bytes (looked_up s a) n xid a (Some u) None) refl kept.server.leases refl (refl, tt)
      bytes None o found = plain (names_bytes (looked_up s a) n xid a None o) refl kept.server.leases refl (refl, tt)

      by : (o : Option Status) → Got book k n (names_unless s n xid a (temp_at k.server.temps n a.fd) o)
      by (Some e) = plain (names_unless s n xid a (temp_at k.server.temps n a.fd) (Some e)) refl kept.server.leases refl (refl, tt)
      by None = bytes (temp_at k.server.temps n a.fd) _ refl
  lb_got xid (lb.CommitTmp a) small fd = by (temp_at k.server.temps n a.fd)
    where
      by : (u : Option Temp) → Got book k n (takes_commit s n xid a u)
      by None = plain (takes_commit s n xid a None) refl kept.server.leases refl (refl, tt)
      by (Some u) = commit_got xid a.fd a.size fd small a.handle u (node_of t a.handle) refl
  lb_got xid m small fd = plain (called s n xid (body.Lb m)) refl kept.server.leases refl (refl, tt)

  -- ---- of names

  -- what the tree keeps
  room : t.changes + server.entries_held k.server.waiting + 0 ≤ 4294967295
  room = let c = kept.server.changes in omega (arith, c)

  stays : (dir : ℕ) (g : Goal) (after : Tree) (done : TreeChange) → step_by t held dir g ≡ (after, Ok done) → IsBounded after × (after.changes + server.entries_held k.server.waiting ≤ 4294967295) × (contents_size after.nodes ≤ contents_size t.nodes)
  stays dir g after done is =
      let h = subst (λ (p : Tree × Result TreeChange Status). IsBounded p.0 × (p.0.changes + server.entries_held k.server.waiting + 0 ≤ 4294967295) × (contents_size p.0.nodes ≤ contents_size t.nodes)) is (step_stays t held dir g kept.server.bounded room) in
      let left = h.1 in
      (h.0, omega (arith, left), h.2)

  -- it is told something alone
  says_got : (xid : ℕ) (m : Nfs) → Got book k n (asks_tree s n xid (t, Some (Answered (said m))))
  says_got xid m = quietly_got book k qs n (asks_tree s n xid (t, Some (Answered (said m)))) k.server.temps k.server.index (later k.server.leasing now) kept (ap (λ (l : List Entry). record k.server { journal = l; leasing = later k.server.leasing now }) (append-nil k.server.journal)) kept.server.leases refl (refl, tt) (temps_same n k.server.temps kept.shelf)

  -- one that waits has room
  waits_got : (xid : ℕ) (a : Asked) (g : File) → xid < 4294967296 → the_files.file_at t (file_of a) ≡ Some g → IsSpared t held (entries_of a) → has_waiting k.server.waiting n ≡ false → AreTwo a → IsWalkSmall (walk_for a) → Got book k n (asks_tree s n xid (t, Some (ToWait a)))
  waits_got xid a g small there spare free two walk =
      let d : FileChange = change_of n xid (file_of a) (wanted.Asked a) in
      let e = entries_more k.server.waiting d in
      let b = sizes_more k.server.waiting d in
      let bytes = kept.server.bytes in
      coming_got book k qs n now k.server.temps d kept (temps_same n k.server.temps kept.shelf) refl (none_waits n k.server.waiting free) (refl, two, walk) (omega (arith, e, spare)) (omega (arith, b, bytes)) (omega arith) (is_there book (file_of a) g (subst (FileIs book (file_of a)) there (kept.server.held (file_of a)))) small

  -- what a name stands for is a file, if its body is a content
  plain_file : (dir : ℕ) (name : List ℕ) (m : TreeNode) (content : List ℕ) → named t.nodes dir name ≡ Some m → m.body ≡ Plain content → the_files.file_at t m.id ≡ Some (record { id = m.id; version = m.version; content = content })
  plain_file dir name m content there is = ap the_files.file_of_node (named_id t.nodes dir name m (given t kept.server.bounded).apart there) ∙ ap (the_files.file_of_body m) is

  -- something is made or removed at once
  builds_got : (xid dir : ℕ) (g : Goal) → builds_at [] g ≡ true → Got book k n (asks_tree s n xid (some (answered_at (made_by t held dir g))))
  builds_got xid dir g makes = by (made_walk t held (record { dir = dir; left = []; goal = g }) makes)
    where
      one_name : (e : TreeEntry) → is_of_file e.kind ≡ false → AreNames (written_by n e ∷ [])
      one_name e is zero d there = ap (λ (z : Entry). is_of_file z.kind) (sym (some_is (written_by n e) d there)) ∙ is
      one_name e is (suc i) d there = nothing_there d there

      by : MadeSo t held (record { dir = dir; left = []; goal = g }) → Got book k n (asks_tree s n xid (some (answered_at (made_by t held dir g))))
      by (refuses st r is err turned leads procs) = subst (λ (p : Tree × Finished). Got book k n (asks_tree s n xid (some (answered_at p)))) (sym is) (says_got xid (name_answer r))
      by (enters done e r after is step first second entry_is after_is leads procs) = subst (λ (p : Tree × Finished). Got book k n (asks_tree s n xid (some (answered_at p)))) (sym is) (file_or_name (creates_at [] g) refl)
        where
          left : IsBounded after × (after.changes + server.entries_held k.server.waiting ≤ 4294967295) × (contents_size after.nodes ≤ contents_size t.nodes)
          left = stays dir g after done step

          root : IsRooted after.nodes
          root = after_rooted t dir g after (step_named t held dir g done makes (ap (λ (p : Tree × Result TreeChange Status). p.1) step)) (given t kept.server.bounded) after_is kept.server.rooted

          file_or_name : (b : Bool) → creates_at [] g ≡ b → Got book k n (asks_tree s n xid (after, Some (Answered (record { answer = name_answer r; first = Some e; second = None }))))
          file_or_name false none =
              let names = name_goal [] g makes none in
              named_got book k qs n _ after (written_by n e ∷ []) (later k.server.leasing now) kept (one_name e (ap is_of_file (entry_name t g e names entry_is))) refl kept.server.leases refl (refl, tt) (λ f. files_same t dir g after (given t kept.server.bounded) after_is names f) (λ f u. unused_named t dir g after f (given t kept.server.bounded) after_is names u) left.0
              (none_after t dir g after 0 (given t kept.server.bounded) after_is (positive t dir g after after_is kept.server.bounded) kept.server.zero) root left.1 left.2
          file_or_name true is_file =
              let aim = make_goal [] g makes is_file in
              let entry : e ≡ made_entry t.next = subst (λ (z : Goal). EntryAt t z e) aim.1 entry_is in
              made_got book k qs n dir aim.0 _ after (later k.server.leasing now) kept (ap (λ (z : TreeEntry). record k.server { tree = after; journal = k.server.journal ++ written_by n z ∷ []; leasing = later k.server.leasing now }) entry) kept.server.leases refl (refl, tt) (subst (λ (z : Goal). AfterAt t dir z after) aim.1 after_is) left.0 root left.1 left.2

  removes_got : (xid dir : ℕ) (name : List ℕ) → xid < 4294967296 → Got book k n (asks_tree s n xid (t, Some (removing dir name (asks_remove t held (has_waiting k.server.waiting n) dir name))))
  removes_got xid dir name small = by (remove_comes_so t held (has_waiting k.server.waiting n) dir name)
    where
      by : RemoveComes t held (has_waiting k.server.waiting n) dir name → Got book k n (asks_tree s n xid (t, Some (removing dir name (asks_remove t held (has_waiting k.server.waiting n) dir name))))
      by (remove_turned st r is why refuses_ leads procs) = subst (λ (o : Outcome). Got book k n (asks_tree s n xid (t, Some o))) (sym is) (says_got xid (name_answer r))
      by (remove_waits m content is free there body_ spare) =
          let names = remove_waits_named t held (has_waiting k.server.waiting n) dir name (remove_asked dir name m.id) is in
          subst (λ (o : Outcome). Got book k n (asks_tree s n xid (t, Some o))) (sym is) (waits_got xid (remove_asked dir name m.id) (record { id = m.id; version = m.version; content = content }) small (plain_file dir name m content there body_) spare free tt
          (record { dir = small_directory t dir kept.server.bounded names.1; named = (no_names, names.0); asking = tt; ahead = tt }))

  renames_got : (xid from : ℕ) (name : List ℕ) (to : ℕ) (to_name : List ℕ) → xid < 4294967296 → Got book k n (asks_tree s n xid (some (renaming t held from name to to_name (asks_rename t held (has_waiting k.server.waiting n) from name to to_name))))
  renames_got xid from name to to_name small = by (rename_comes_so t (given t kept.server.bounded) held (has_waiting k.server.waiting n) from name to to_name)
    where
      turned : (a b : ℕ) → (b == a) ≡ false → (a == b) ≡ false
      turned a b e = grind (arith, nat_tests, e)

      both_names : (first second : Option TreeEntry) → IsName first → IsName second → AreNames (entries_by n first second)
      both_names None None a b i e there = nothing_there e there
      both_names None (Some y) a b zero e there = ap (λ (z : Entry). is_of_file z.kind) (sym (some_is (written_by n y) e there)) ∙ ap is_of_file (b y refl)
      both_names None (Some y) a b (suc i) e there = nothing_there e there
      both_names (Some x) second a b zero e there = ap (λ (z : Entry). is_of_file z.kind) (sym (some_is (written_by n x) e there)) ∙ ap is_of_file (a x refl)
      both_names (Some x) None a b (suc i) e there = nothing_there e there
      both_names (Some x) (Some y) a b (suc zero) e there = ap (λ (z : Entry). is_of_file z.kind) (sym (some_is (written_by n y) e there)) ∙ ap is_of_file (b y refl)
      both_names (Some x) (Some y) a b (suc (suc i)) e there = nothing_there e there

      by : RenameComes t held (has_waiting k.server.waiting n) from name to to_name → Got book k n (asks_tree s n xid (some (renaming t held from name to to_name (asks_rename t held (has_waiting k.server.waiting n) from name to to_name))))
      by (rename_turned st r is why refuses_ leads procs) = subst (λ (p : Tree × Outcome). Got book k n (asks_tree s n xid (some p))) (sym is) (says_got xid (name_answer r))
      by (rename_now done after r is m leads procs) =
          let left = stays to (goal.RenameTo from name to_name) after done m.step in
          let names = renamed_named t held from name to to_name after done m.step in
          subst (λ (p : Tree × Outcome). Got book k n (asks_tree s n xid (some p))) (sym is)
          (named_got book k qs n _ after (entries_by n done.first done.second) (later k.server.leasing now) kept (both_names done.first done.second m.first m.second) refl kept.server.leases (count_is n done.first done.second) (refl, tt) m.keeps.files (λ f u. unused_same t after f m.keeps.next (m.keeps.none f) (m.keeps.files f) u) left.0 (m.keeps.none 0 kept.server.zero)
          (subst (λ (p : Tree × Result TreeChange Status). IsRooted p.0.nodes) m.step (rename_rooted t held from name to to_name (some_letter name names.0.2) (some_letter to_name names.1.2) names.1.1 kept.server.rooted)) left.1 left.2)
      by (rename_waits m g content is free there over_ apart body_ spare) =
          let names = rename_waits_named t held (has_waiting k.server.waiting n) from name to to_name (rename_asked from name to to_name m.id g.id) is in
          subst (λ (p : Tree × Outcome). Got book k n (asks_tree s n xid (some p))) (sym is) (waits_got xid (rename_asked from name to to_name m.id g.id) (record { id = g.id; version = g.version; content = content }) small (plain_file to to_name g content over_ body_) spare free (turned m.id g.id apart)
          (record { dir = small_directory t to kept.server.bounded names.1.1; named = (no_names, (names.0.0, names.0.1)); asking = small_directory t from kept.server.bounded names.1.0; ahead = tt }))

  tree_got : (xid : ℕ) (p : Tree × Option Outcome) → xid < 4294967296 → TreeAny t held (has_waiting k.server.waiting n) p → Got book k n (asks_tree s n xid p)
  tree_got xid p small (quietly o is) = subst (λ (z : Tree × Option Outcome). Got book k n (asks_tree s n xid z)) (sym is) (by o)
    where
      by : (o : Option Nfs) → Got book k n (asks_tree s n xid (t, told_outcome o))
      by None = plain (asks_tree s n xid (t, None)) refl kept.server.leases refl (refl, tt)
      by (Some m) = says_got xid m
  tree_got xid p small (builds dir g makes is) = subst (λ (z : Tree × Option Outcome). Got book k n (asks_tree s n xid z)) (sym is) (builds_got xid dir g makes)
  tree_got xid p small (removes dir name is) = subst (λ (z : Tree × Option Outcome). Got book k n (asks_tree s n xid z)) (sym is) (removes_got xid dir name small)
  tree_got xid p small (renames from name to to_name is) = subst (λ (z : Tree × Option Outcome). Got book k n (asks_tree s n xid z)) (sym is) (renames_got xid from name to to_name small)

  nfs_got : (xid : ℕ) (m : Nfs) → xid < 4294967296 → Got book k n (called s n xid (body.Nfs m))
  nfs_got xid nfs.Null small = plain (called s n xid (body.Nfs nfs.Null)) refl kept.server.leases refl (refl, tt)
  nfs_got xid (nfs.Read r) small = plain (called s n xid (body.Nfs (nfs.Read r))) refl kept.server.leases refl (refl, tt)
  nfs_got xid m small = tree_got xid (calls t held (has_waiting k.server.waiting n) m) small (tree_any t held (has_waiting k.server.waiting n) m)

  -- ---- any message

  any_got : (m : Message) → (is_unfit m ≡ false → IsSpelled m) → Got book k n (got_if k.server true n m now)
  any_got (message.Call xid (body.Lb m)) spelled = let h = spelled refl in lb_got xid m h.0 (fd_fits m h.1.1.1)
  any_got (message.Call xid (body.Nfs m)) spelled = nfs_got xid m (spelled refl).0
  any_got (message.Call xid (body.Back z)) spelled = plain (called s n xid (body.Back z)) refl kept.server.leases refl (refl, tt)
  any_got (message.Unfit xid why) spelled = plain (got_if k.server true n (message.Unfit xid why) now) refl kept.server.leases refl (refl, tt)
  any_got (message.Answer xid b) spelled = plain (got_if k.server true n (message.Answer xid b) now) refl (kept.server.leases.0, used_recalls n xid k.server.leasing.calls kept.server.leases.1) refl tt
  any_got (message.Refuse xid why) spelled = plain (got_if k.server true n (message.Refuse xid why) now) refl (kept.server.leases.0, used_recalls n xid k.server.leasing.calls kept.server.leases.1) refl tt

  -- ---- any bytes

  raw_serves : (bytes : List ℕ) (x : Session) → numbered k.sessions n ≡ Some x → is_raw x ≡ true → AreBytes bytes → Leads book qs (happens k (Serves n now bytes))
  raw_serves bytes x there its fits = subst (λ (o : Option Session). Leads book qs (serves k n now bytes o)) (sym there) (by x.hung refl)
    where
      queue : (q : Queue) × (numbered qs n ≡ Some q)
      queue = also_numbered k.sessions qs n x kept.made.1 there

      closes : x.hung ≡ false → Leads book qs (loses k n x)
      closes unhung = leads_hung book k qs n x queue.0 kept there queue.1 false unhung

      none : x.hung ≡ false → (e : WireFault) → Leads book qs (serves_none k n x e)
      none unhung (fault.UnknownXid xid) = leads_idle book k qs kept
      none unhung (fault.NotRpc place) = closes unhung
      none unhung (fault.Garbage place) = closes unhung

      read : x.hung ≡ false → (r : Result Message WireFault) → parse_of (server_waits k n) bytes ≡ r → Leads book qs (serves_if k n now x r)
      read unhung (Ok m) is = got_leads book k qs n now x m there its unhung kept (any_got m (λ fit. (read_is_said (server_waits k n) m bytes (is_bytes bytes fits) fit is).0.0))
      read unhung (Err e) is = none unhung e

      by : (b : Bool) → x.hung ≡ b → Leads book qs (serves_unless k n now bytes x b)
      by true hung = leads_quiet book k qs kept
      by false unhung = read unhung (parse_of (server_waits k n) bytes) refl

pub kept_raws : KeptRaws
kept_raws = λ book k qs n now bytes x at its fits kept noted. raw_serves book k qs n now kept bytes x at its fits

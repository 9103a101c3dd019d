-- What comes of a REMOVE or a RENAME when the server takes it: it's refused; or done at once, and no file goes by that; or it waits, until a file may go. And of one that waited, once
-- nothing blocks it: it's refused, or its file goes.
use Rattle.std.proofs.Common.{inl, inr, ◌≡◌, ℕ, ◌+◌, List, [], Option, Some, None, Result, Ok, Err, Bool, true, false, not, ◌==◌, refl, sym, ap, ◌∙◌, subst, arith, if◌then◌else◌}
use Rattle.std.proofs.lemmas.Bool.Decides.{nat_tests}
use Rattle.xdr_codec.specs.declared.answer.Answer.TheVariants as answer
use Rattle.xdr_codec.specs.declared.status.Status.{Status}
use Rattle.xdr_codec.specs.declared.status.Status.TheVariants as status
use Rattle.nfs3_calls.specs.Nfs.{nfs_proc}
use Rattle.tree_nodes.specs.declared.node.Node.{Node}
use Rattle.tree_nodes.specs.declared.node.Body.{Body}
use Rattle.tree_nodes.specs.declared.node.Body.TheVariants.{Directory, File as Plain}
use Rattle.tree_nodes.specs.Nodes.{with_id, named}
use Rattle.tree_reading.specs.Chain.{◌>>=◌}
use Rattle.tree_reading.specs.Reading.{stands_for, standing_of, version}
use Rattle.tree_reading.specs.Tree.{Tree, is_directory}
use Rattle.tree_reading.specs.Plans.{one, nothing, move_done, gone_entry, name_entry, remove_plan, is_same, rename_plan}
use Rattle.file_tree.specs.Step.{remove_if, remove, removed, moved, rename, rename_if}
use Rattle.tree_reading.specs.declared.call.Changed.{Changed}
use Rattle.tree_reading.specs.declared.call.Reservation.{Reservation}
use Rattle.tree_reading.specs.declared.call.Planned.TheVariants as plan
use Rattle.tree_reading.specs.declared.reading.Standing.{Standing}
use Rattle.tree_reading.specs.declared.entry.Entry.{Entry}
use Rattle.tree_reading.specs.declared.entry.EntryKind.TheVariants as kind
use Rattle.file_tree.proofs.lemmas.States.{named_id}
use Rattle.tree_calls.specs.declared.asked.Asked.{Asked}
use Rattle.tree_calls.specs.declared.asked.Asked.TheVariants as asked
use Rattle.tree_calls.specs.declared.asked.Done.{Done}
use Rattle.tree_calls.specs.declared.asked.Outcome.TheVariants.{Answered, Waits}
use Rattle.tree_calls.specs.declared.asked.Removing.{Removing}
use Rattle.tree_calls.specs.declared.asked.Renaming.{Renaming}
use Rattle.tree_calls.specs.Changing.{before, both_sides, no_side, said, removed as removed_done, renamed, with_done}
use Rattle.tree_calls.specs.Waiting.{spot_of, remove_comes, rename_comes, over_comes, with_node, still, remove_again, rename_again, asks_remove, removing, asks_rename, renaming, removes_if, renames_if, settles}
use Rattle.path_calls.specs.Told.{walk_told}
use Rattle.path_calls.specs.Walk.{next_call}
use Rattle.path_calls.specs.declared.answers.Ended.TheVariants as ended
use Rattle.path_calls.specs.declared.answers.Told.TheVariants as told
use Rattle.path_calls.specs.declared.walk.Goal.TheVariants as goal
use Rattle.path_calls.specs.declared.walk.Walk.{Walk}
use Rattle.chunk_calls.specs.Files as the_files
use Rattle.server_law.proofs.lemmas.Trees.{IsGiven, no_file}
use Rattle.server_law.proofs.lemmas.TreeCalls.{HasDirectory, bind_ok}
use Rattle.trace_replay.specs.Naming.{refusal_of}
use Rattle.kept_promise.proofs.Common.{NameReply, NameReply.Gone, NameReply.Renamed, name_answer}
use Rattle.kept_promise.proofs.TreeBounds.{IsSpared}
use Rattle.kept_promise.proofs.TreeMade.{still_is}
use Rattle.kept_promise.proofs.TreeTold.{stands}
use Rattle.kept_promise.proofs.Goings.{RemovedSo, no_remove, goes, removed_so, RenamedSo, no_rename, stays, moves, goes_over, renamed_so, renames_moved, renames_over, RefusedBy, file_moved, file_over, none_moved}

-- ---- what is left where no file goes

-- of names alone the entries tell
abbrev pub IsName : Option Entry → Type 0
IsName o = (e : Entry) → o ≡ Some e → e.kind ≡ kind.Name

-- each file is as it was, and no node has another id, or a new one
pub record KeepsFiles (t after : Tree) : Type 0 where
  pub files : (f : ℕ) → the_files.file_at after f ≡ the_files.file_at t f
  pub none : (f : ℕ) → with_id t.nodes f ≡ None → with_id after.nodes f ≡ None
  pub next : after.next ≡ t.next

keeps_same : (t : Tree) → KeepsFiles t t
keeps_same t = record { files = λ f. refl; none = λ f z. z; next = refl }

none_some : {A : Type 0} (x : A) → ◌≡◌ {A = Option A} None (Some x) → ⊥
none_some x e = absurd cc

some_is : {A : Type 0} (x y : A) → ◌≡◌ {A = Option A} (Some x) (Some y) → x ≡ y
some_is x y e = cc

pub no_name : IsName None
no_name e is = absurd (none_some e is)

pub name_is : (id : ℕ) → IsName (Some (name_entry id))
name_is id e is = ap (λ (z : Entry). z.kind) (sym (some_is (name_entry id) e is))

gone_name : (n : Node) (b : Body) → is_directory b ≡ true → IsName (Some (gone_entry n b))
gone_name n Directory e = name_is n.id
gone_name n (Plain c) e = absurd cc

-- a directory is no file
no_file_goes : (t : Tree) (m : Node) (f : ℕ) → with_id t.nodes m.id ≡ Some m → is_directory m.body ≡ true → (b : Bool) → (m.id == f) ≡ b → (if b then None else the_files.file_at t f) ≡ the_files.file_at t f
no_file_goes t m f there is false e = refl
no_file_goes t m f there is true e = sym (ap (the_files.file_at t) (sym same) ∙ no_file t.nodes m.id m there is)
  where
    same : m.id ≡ f
    same = grind (arith, nat_tests, e)

-- ---- a REMOVE that comes

abbrev remove_walk : (dir : ℕ) → List ℕ → Walk
remove_walk dir name = record { dir = dir; left = []; goal = goal.Remove name }

abbrev pub remove_asked : (dir : ℕ) → List ℕ → (file : ℕ) → Asked
remove_asked dir name file = asked.Remove (record { spot = spot_of dir name; file = file })

pub data RemoveComes (t : Tree) (held : Reservation) (busy : Bool) (dir : ℕ) (name : List ℕ) : Type 0 where
  remove_turned : (s : Status) (r : NameReply) → removing dir name (asks_remove t held busy dir name) ≡ Answered (said (name_answer r)) → RefusedBy t dir (goal.Remove name) s → refusal_of (name_answer r) ≡ Some s → walk_told (remove_walk dir name) (name_answer r) ≡ told.Ends (ended.Refused s) → nfs_proc (name_answer r) ≡ nfs_proc (next_call (remove_walk dir name)) → RemoveComes t held busy dir name
  remove_waits : (n : Node) (content : List ℕ) → removing dir name (asks_remove t held busy dir name) ≡ Waits (remove_asked dir name n.id) → busy ≡ false → named t.nodes dir name ≡ Some n → n.body ≡ Plain content → IsSpared t held 1 → RemoveComes t held busy dir name

pub remove_comes_so : (t : Tree) (held : Reservation) (busy : Bool) (dir : ℕ) (name : List ℕ) → RemoveComes t held busy dir name
remove_comes_so t held busy dir name = by (asks_remove t held busy dir name) refl
  where
    waits_for : (b : Bool) (r : Result Changed Status) (file : ℕ) → remove_comes b r ≡ Ok file → (b ≡ false) × (c : Changed) × (r ≡ Ok c) × (c.id ≡ file)
    waits_for b (Err s) file e = absurd cc
    waits_for true (Ok c) file e = absurd cc
    waits_for false (Ok c) file e = (refl, c, refl, same e)
      where
        same : ◌≡◌ {A = Result ℕ Status} (Ok c.id) (Ok file) → c.id ≡ file
        same e = cc

    ok_err : (c : Changed) (s : Status) → ◌≡◌ {A = Result Changed Status} (Ok c) (Err s) → ⊥
    ok_err c s e = absurd cc

    ok_same : (c d : Changed) → ◌≡◌ {A = Result Changed Status} (Ok c) (Ok d) → c ≡ d
    ok_same c d e = cc

    -- the tree's own step by the plan
    step : (c : Changed) → remove_plan t held dir name ≡ Ok c → (remove t held dir name).1 ≡ Ok c
    step c e = ap (λ (r : Result Changed Status). (remove_if t dir r).1) e

    file : (id : ℕ) → asks_remove t held busy dir name ≡ Ok id → (c : Changed) → remove_plan t held dir name ≡ Ok c → c.id ≡ id → busy ≡ false → RemovedSo t held dir name → RemoveComes t held busy dir name
    file id e c is same free (no_remove s err) = absurd (ok_err c s (sym (step c is) ∙ ap (λ (p : Tree × Result Changed Status). p.1) err))
    file id e c is same free (goes n content at body d room done) =
        let own : n.id ≡ id = ap (λ (z : Changed). z.id) (sym (ok_same c (one n.id (n.version + 1) (gone_entry n (Plain content))) (sym (step c is) ∙ ap (λ (p : Tree × Result Changed Status). p.1) done))) ∙ same in
        remove_waits n content (ap (removing dir name) e ∙ ap (λ (i : ℕ). Waits (remove_asked dir name i)) (sym own)) free at body room

    by : (r : Result ℕ Status) → asks_remove t held busy dir name ≡ r → RemoveComes t held busy dir name
    by (Err s) e = remove_turned s (Gone (answer.Failed s no_side)) (ap (removing dir name) e) (inl (held, busy, e)) refl refl refl
    by (Ok id) e = let w = waits_for busy (remove_plan t held dir name) id e in file id e w.1 w.2 w.3 w.0 (removed_so t held dir name)

-- ---- a RENAME that comes

abbrev rename_walk : (from : ℕ) → List ℕ → (to : ℕ) → List ℕ → Walk
rename_walk from name to to_name = record { dir = to; left = []; goal = goal.RenameTo from name to_name }

abbrev pub rename_asked : (from : ℕ) → List ℕ → (to : ℕ) → List ℕ → (node file : ℕ) → Asked
rename_asked from name to to_name node file = asked.Rename (record { from = spot_of from name; to = spot_of to to_name; node = node; file = file })

-- one is done at once: its entries are of names alone
pub record IsMovedNow (t : Tree) (held : Reservation) (from : ℕ) (name : List ℕ) (to : ℕ) (to_name : List ℕ) (after : Tree) (done : Changed) : Type 0 where
  pub step : rename t held from name to to_name ≡ (after, Ok done)
  pub first : IsName done.first
  pub second : IsName done.second
  -- where there is no first entry nothing was changed
  pub plain : done.first ≡ None → (done.second ≡ None) × (after ≡ t)
  pub keeps : KeepsFiles t after

pub data RenameComes (t : Tree) (held : Reservation) (busy : Bool) (from : ℕ) (name : List ℕ) (to : ℕ) (to_name : List ℕ) : Type 0 where
  rename_turned : (s : Status) (r : NameReply) → renaming t held from name to to_name (asks_rename t held busy from name to to_name) ≡ (t, Answered (said (name_answer r))) → RefusedBy t to (goal.RenameTo from name to_name) s → refusal_of (name_answer r) ≡ Some s → walk_told (rename_walk from name to to_name) (name_answer r) ≡ told.Ends (ended.Refused s) → nfs_proc (name_answer r) ≡ nfs_proc (next_call (rename_walk from name to to_name)) → RenameComes t held busy from name to to_name
  rename_now : (done : Changed) (after : Tree) (r : NameReply) → renaming t held from name to to_name (asks_rename t held busy from name to to_name) ≡ (after, Answered (record { answer = name_answer r; first = done.first; second = done.second })) → IsMovedNow t held from name to to_name after done → walk_told (rename_walk from name to to_name) (name_answer r) ≡ told.Ends ended.Done → nfs_proc (name_answer r) ≡ nfs_proc (next_call (rename_walk from name to to_name)) → RenameComes t held busy from name to to_name
  rename_waits : (n m : Node) (content : List ℕ) → renaming t held from name to to_name (asks_rename t held busy from name to to_name) ≡ (t, Waits (rename_asked from name to to_name n.id m.id)) → busy ≡ false → named t.nodes from name ≡ Some n → named t.nodes to to_name ≡ Some m → (m.id == n.id) ≡ false → m.body ≡ Plain content → IsSpared t held 2 → RenameComes t held busy from name to to_name

module _ (t : Tree) (given : IsGiven t) (held : Reservation) (busy : Bool) (from : ℕ) (name : List ℕ) (to : ℕ) (to_name : List ℕ) where
  abbrev asks : Result (Option (ℕ × ℕ)) Status
  asks = asks_rename t held busy from name to to_name

  turns : (s : Status) → asks ≡ Err s → RenameComes t held busy from name to to_name
  turns s e = rename_turned s (Renamed (answer.Failed s (record { from = no_side; to = no_side }))) (ap (renaming t held from name to to_name) e) (inl (held, busy, e)) refl refl refl

  -- at once
  abbrev answers : Tree × Result Changed Status → Tree × Done
  answers p = with_done (renamed (before t.nodes from) (before t.nodes to) from to) p

  abbrev in_time : Tree → Changed → NameReply
  in_time after done = Renamed (answer.Done (record { from = both_sides (before t.nodes from) after.nodes from; to = both_sides (before t.nodes to) after.nodes to }))

  at_once : asks ≡ Ok None → renaming t held from name to to_name asks ≡ ((answers (rename t held from name to to_name)).0, Answered (answers (rename t held from name to to_name)).1)
  at_once e = ap (renaming t held from name to to_name) e

  moved_now : (done : Changed) (after : Tree) → asks ≡ Ok None → IsMovedNow t held from name to to_name after done → RenameComes t held busy from name to to_name
  moved_now done after e m = rename_now done after (in_time after done) (at_once e ∙ ap (λ (p : Tree × Result Changed Status). ((answers p).0, Answered (answers p).1)) m.step) m refl refl

  refused_now : (s : Status) → asks ≡ Ok None → rename_plan t held from name to to_name ≡ Err s → RenameComes t held busy from name to to_name
  refused_now s e is =
      let step : rename t held from name to to_name ≡ (t, Err s) = ap (rename_if t from name to to_name) is in
      rename_turned s (Renamed (answer.Failed s (record { from = no_side; to = no_side }))) (at_once e ∙ ap (λ (p : Tree × Result Changed Status). ((answers p).0, Answered (answers p).1)) step) (inr (inr (held, ap (λ (p : Tree × Result Changed Status). p.1) step))) refl refl refl

  -- what a name of the tree stands for
  there : (dir : ℕ) (word : List ℕ) (n : Node) → named t.nodes dir word ≡ Some n → with_id t.nodes n.id ≡ Some n
  there dir word n at = named_id t.nodes dir word n given.apart at

  free : (n : Node) → named t.nodes from name ≡ Some n → HasDirectory t from × HasDirectory t to → rename_plan t held from name to to_name ≡ Ok (plan.Free (move_done n None)) → IsMovedNow t held from name to to_name (moved t from n None to to_name) (move_done n None)
  free n at d is = record {
    step = renames_moved t held from name to to_name n at is;
    first = name_is n.id;
    second = no_name;
    plain = λ e. absurd (none_some (name_entry n.id) (sym e));
    keeps = record { files = λ f. file_moved t from n to to_name f (there from name n at) d; none = λ f z. none_moved t from n None to to_name f (there from name n at) (λ m e. absurd (none_some m e)) z; next = refl };
  }

  directory_over : (n m : Node) → named t.nodes from name ≡ Some n → named t.nodes to to_name ≡ Some m → (m.id == n.id) ≡ false → is_directory m.body ≡ true → HasDirectory t from × HasDirectory t to → rename_plan t held from name to to_name ≡ Ok (plan.Over (move_done n (Some m)))
      → IsMovedNow t held from name to to_name (moved t from n (Some m) to to_name) (move_done n (Some m))
  directory_over n m at over apart directory d is = record {
    step = renames_over t held from name to to_name n m at over is;
    first = gone_name m m.body directory;
    second = name_is n.id;
    plain = λ e. absurd (none_some (gone_entry m m.body) (sym e));
    keeps = record {
      files = λ f. file_over t from n m to to_name f (there from name n at) apart d ∙ no_file_goes t m f (there to to_name m over) directory (m.id == f) refl;
      none = λ f z. none_moved t from n (Some m) to to_name f (there from name n at) (λ k e. subst (λ (j : Node). (j.id == n.id) ≡ false) (some_is m k e) apart) z;
      next = refl;
    };
  }

  -- by what it is over
  comes_over : (n m : Node) → named t.nodes from name ≡ Some n → named t.nodes to to_name ≡ Some m → (m.id == n.id) ≡ false → HasDirectory t from × HasDirectory t to → IsSpared t held 2 → rename_plan t held from name to to_name ≡ Ok (plan.Over (move_done n (Some m))) → (b : Body) → m.body ≡ b → RenameComes t held busy from name to to_name
  comes_over n m at over apart d room is b body = by b body busy refl
    where
      found : (c : Bool) → asks_rename t held c from name to to_name ≡ (over_comes c (Some (standing_of m)) >>= λ file. Ok (with_node n.id file))
      found c = ap (rename_comes c (stands_for t.nodes to to_name)) is ∙ ap (λ (o : Option Standing). over_comes c o >>= λ file. Ok (with_node n.id file)) (stands t.nodes to to_name m over)

      by : (b : Body) → m.body ≡ b → (c : Bool) → busy ≡ c → RenameComes t held busy from name to to_name
      by Directory body c free_ =
          let directory : is_directory m.body ≡ true = ap is_directory body in
          moved_now (move_done n (Some m)) (moved t from n (Some m) to to_name) (found busy ∙ ap (λ (x : Bool). (let r : Result (Option ℕ) Status = if not x then (if busy then Err status.Jukebox else Ok (Some m.id)) else Ok None in r) >>= λ file. Ok (with_node n.id file)) directory) (directory_over n m at over apart directory d is)
      by (Plain content) body true free_ = turns status.Jukebox (found busy ∙ ap (λ (x : Bool). (let r : Result (Option ℕ) Status = if not x then (if busy then Err status.Jukebox else Ok (Some m.id)) else Ok None in r) >>= λ file. Ok (with_node n.id file)) (ap is_directory body) ∙ ap (λ (x : Bool). (let r : Result (Option ℕ) Status = if x then Err status.Jukebox else Ok (Some m.id) in r) >>= λ file. Ok (with_node n.id file)) free_)
      by (Plain content) body false free_ =
          let e : asks ≡ Ok (Some (n.id, m.id)) = found busy ∙ ap (λ (x : Bool). (let r : Result (Option ℕ) Status = if not x then (if busy then Err status.Jukebox else Ok (Some m.id)) else Ok None in r) >>= λ file. Ok (with_node n.id file)) (ap is_directory body) ∙ ap (λ (x : Bool). (let r : Result (Option ℕ) Status = if x then Err status.Jukebox else Ok (Some m.id) in r) >>= λ file. Ok (with_node n.id file)) free_ in
          rename_waits n m content (ap (renaming t held from name to to_name) e) free_ at over apart body room

  pub rename_comes_so : RenameComes t held busy from name to to_name
  rename_comes_so = by (renamed_so t held from name to to_name)
    where
      refused : (s : Status) → rename_plan t held from name to to_name ≡ Err s → (r : Result (Option (ℕ × ℕ)) Status) → asks ≡ r → RenameComes t held busy from name to to_name
      refused s is (Err z) e = turns z e
      refused s is (Ok None) e = refused_now s e is
      refused s is (Ok (Some p)) e = absurd (no (sym (ap (rename_comes busy (stands_for t.nodes to to_name)) is) ∙ e))
        where
          no : {x : Status} → ◌≡◌ {A = Result (Option (ℕ × ℕ)) Status} (Err x) (Ok (Some p)) → ⊥
          no e = absurd cc

      by : RenamedSo t held from name to to_name → RenameComes t held busy from name to to_name
      by (no_rename s e) = refused s e asks refl
      by (stays n at same e) = moved_now (nothing n) t (ap (rename_comes busy (stands_for t.nodes to to_name)) e) (record { step = ap (rename_if t from name to to_name) e; first = no_name; second = no_name; plain = λ z. (refl, refl); keeps = keeps_same t })
      by (moves n at none d room e) = moved_now (move_done n None) (moved t from n None to to_name) (ap (rename_comes busy (stands_for t.nodes to to_name)) e) (free n at d e)
      by (goes_over n m at over apart same d room e) = comes_over n m at over apart d room e m.body refl

-- ---- one that waited, once nothing blocks it

pub data RemoveSettles (t : Tree) (held : Reservation) (r : Removing) : Type 0 where
  remove_fails : (s : Status) (m : NameReply) → settles t held (asked.Remove r) ≡ (t, said (name_answer m)) → RefusedBy t r.spot.dir (goal.Remove r.spot.name) s → refusal_of (name_answer m) ≡ Some s → walk_told (remove_walk r.spot.dir r.spot.name) (name_answer m) ≡ told.Ends (ended.Refused s) → nfs_proc (name_answer m) ≡ nfs_proc (next_call (remove_walk r.spot.dir r.spot.name)) → RemoveSettles t held r
  remove_goes : (n : Node) (content : List ℕ) (m : NameReply) → settles t held (asked.Remove r) ≡ (removed t r.spot.dir n.id, record { answer = name_answer m; first = Some (gone_entry n (Plain content)); second = None }) → n.id ≡ r.file → named t.nodes r.spot.dir r.spot.name ≡ Some n → n.body ≡ Plain content → HasDirectory t r.spot.dir
      → remove t held r.spot.dir r.spot.name ≡ (removed t r.spot.dir n.id, Ok (one n.id (n.version + 1) (gone_entry n (Plain content)))) → walk_told (remove_walk r.spot.dir r.spot.name) (name_answer m) ≡ told.Ends ended.Done → nfs_proc (name_answer m) ≡ nfs_proc (next_call (remove_walk r.spot.dir r.spot.name)) → RemoveSettles t held r

pub remove_settles_so : (t : Tree) (held : Reservation) (r : Removing) → RemoveSettles t held r
remove_settles_so t held r = by (remove_again t.nodes r) refl
  where
    answers : Tree × Result Changed Status → Tree × Done
    answers p = with_done (removed_done (before t.nodes r.spot.dir) r.spot.dir) p

    made : (u : Unit) → remove_again t.nodes r ≡ Ok u → RemovedSo t held r.spot.dir r.spot.name → RemoveSettles t held r
    made u e (no_remove s is) = remove_fails s (Gone (answer.Failed s no_side)) (ap (removes_if t held r.spot) e ∙ ap answers is) (inr (inr (held, ap (λ (p : Tree × Result Changed Status). p.1) is))) refl refl refl
    made u e (goes n content at body d room is) =
        let a = bind_ok (version t.nodes r.file) (λ v. still t.nodes r.spot r.file) u e in
        let b = still_is t.nodes r.spot r.file u a.2 in
        let after : Tree = removed t r.spot.dir n.id in
        remove_goes n content (Gone (answer.Done (both_sides (before t.nodes r.spot.dir) after.nodes r.spot.dir))) (ap (removes_if t held r.spot) e ∙ ap answers is) (ap (λ (z : Node). z.id) (some_is n b.0 (sym at ∙ b.1)) ∙ b.2) at body d is refl refl

    by : (g : Result Unit Status) → remove_again t.nodes r ≡ g → RemoveSettles t held r
    by (Err s) e = remove_fails s (Gone (answer.Failed s no_side)) (ap (removes_if t held r.spot) e) (inr (inl (r.file, e))) refl refl refl
    by (Ok u) e = made u e (removed_so t held r.spot.dir r.spot.name)

pub data RenameSettles (t : Tree) (held : Reservation) (r : Renaming) : Type 0 where
  rename_fails : (s : Status) (m : NameReply) → settles t held (asked.Rename r) ≡ (t, said (name_answer m)) → RefusedBy t r.to.dir (goal.RenameTo r.from.dir r.from.name r.to.name) s → refusal_of (name_answer m) ≡ Some s → walk_told (rename_walk r.from.dir r.from.name r.to.dir r.to.name) (name_answer m) ≡ told.Ends (ended.Refused s) → nfs_proc (name_answer m) ≡ nfs_proc (next_call (rename_walk r.from.dir r.from.name r.to.dir r.to.name)) → RenameSettles t held r
  rename_goes : (n g : Node) (content : List ℕ) (m : NameReply) → settles t held (asked.Rename r) ≡ (moved t r.from.dir n (Some g) r.to.dir r.to.name, record { answer = name_answer m; first = Some (gone_entry g (Plain content)); second = Some (name_entry n.id) }) → g.id ≡ r.file → named t.nodes r.from.dir r.from.name ≡ Some n → named t.nodes r.to.dir r.to.name ≡ Some g → (g.id == n.id) ≡ false → g.body ≡ Plain content → HasDirectory t r.from.dir × HasDirectory t r.to.dir
      → rename t held r.from.dir r.from.name r.to.dir r.to.name ≡ (moved t r.from.dir n (Some g) r.to.dir r.to.name, Ok (move_done n (Some g))) → walk_told (rename_walk r.from.dir r.from.name r.to.dir r.to.name) (name_answer m) ≡ told.Ends ended.Done → nfs_proc (name_answer m) ≡ nfs_proc (next_call (rename_walk r.from.dir r.from.name r.to.dir r.to.name)) → RenameSettles t held r

-- the node and the file that a RENAME waited with are two, and the file is no directory
pub rename_settles_so : (t : Tree) (held : Reservation) (r : Renaming) → IsGiven t → (r.node == r.file) ≡ false → ((d : Node) → with_id t.nodes r.file ≡ Some d → is_directory d.body ≡ false) → RenameSettles t held r
rename_settles_so t held r given two file = by (rename_again t.nodes r) refl
  where
    answers : Tree × Result Changed Status → Tree × Done
    answers p = with_done (renamed (before t.nodes r.from.dir) (before t.nodes r.to.dir) r.from.dir r.to.dir) p

    not_same : (n : Node) (o : Option Node) (m : Node) → o ≡ Some m → is_same n o ≡ true → (m.id == n.id) ≡ true
    not_same n None m e same = absurd cc
    not_same n (Some k) m e same = subst (λ (z : Node). (z.id == n.id) ≡ true) (some_is k m e) same

    differ : (n m : Node) → n.id ≡ r.node → m.id ≡ r.file → (m.id == n.id) ≡ true → ⊥
    differ n m a b same = let two_ = two in absurd (grind (arith, nat_tests, a, b, same, two_))

    goes_plain : (n g : Node) (b : Body) → g.body ≡ b → is_directory b ≡ false → (u : Unit) → rename_again t.nodes r ≡ Ok u → g.id ≡ r.file → named t.nodes r.from.dir r.from.name ≡ Some n → named t.nodes r.to.dir r.to.name ≡ Some g → (g.id == n.id) ≡ false → HasDirectory t r.from.dir × HasDirectory t r.to.dir → rename t held r.from.dir r.from.name r.to.dir r.to.name ≡ (moved t r.from.dir n (Some g) r.to.dir r.to.name, Ok (move_done n (Some g))) → RenameSettles t held r
    goes_plain n g Directory body plain u e id at over apart d step = absurd cc
    goes_plain n g (Plain content) body plain u e id at over apart d step =
        let after : Tree = moved t r.from.dir n (Some g) r.to.dir r.to.name in
        let m : NameReply = Renamed (answer.Done (record { from = both_sides (before t.nodes r.from.dir) after.nodes r.from.dir; to = both_sides (before t.nodes r.to.dir) after.nodes r.to.dir })) in
        rename_goes n g content m (ap (renames_if t held r.from r.to) e ∙ ap answers step ∙ ap (λ (b : Body). (after, record { answer = name_answer m; first = Some (gone_entry g b); second = Some (name_entry n.id) })) body) id at over apart body d step refl refl

    made : (u : Unit) → rename_again t.nodes r ≡ Ok u → RenamedSo t held r.from.dir r.from.name r.to.dir r.to.name → RenameSettles t held r
    made u e so =
        let a = bind_ok (version t.nodes r.file) (λ v. still t.nodes r.from r.node >>= λ x. still t.nodes r.to r.file) u e in
        let b = bind_ok (still t.nodes r.from r.node) (λ x. still t.nodes r.to r.file) u a.2 in
        let p = still_is t.nodes r.from r.node b.0 b.1 in
        let q = still_is t.nodes r.to r.file u b.2 in
        of p.0 p.1 p.2 q.0 q.1 q.2 so
      where
        of : (n : Node) → named t.nodes r.from.dir r.from.name ≡ Some n → n.id ≡ r.node → (g : Node) → named t.nodes r.to.dir r.to.name ≡ Some g → g.id ≡ r.file → RenamedSo t held r.from.dir r.from.name r.to.dir r.to.name → RenameSettles t held r
        of n at node g over id (no_rename s is) =
            let step : rename t held r.from.dir r.from.name r.to.dir r.to.name ≡ (t, Err s) = ap (rename_if t r.from.dir r.from.name r.to.dir r.to.name) is in
            rename_fails s (Renamed (answer.Failed s (record { from = no_side; to = no_side }))) (ap (renames_if t held r.from r.to) e ∙ ap answers step) (inr (inr (held, ap (λ (p : Tree × Result Changed Status). p.1) step))) refl refl refl
        of n at node g over id (stays k there same is) = absurd (differ k g (ap (λ (z : Node). z.id) (some_is k n (sym there ∙ at)) ∙ node) id (not_same k (named t.nodes r.to.dir r.to.name) g over same))
        of n at node g over id (moves k there none d room is) = absurd (none_some g (sym none ∙ over))
        of n at node g over id (goes_over k m there over_ apart same d room is) =
            let own : m.id ≡ r.file = ap (λ (z : Node). z.id) (some_is m g (sym over_ ∙ over)) ∙ id in
            let found : with_id t.nodes r.file ≡ Some m = ap (with_id t.nodes) (sym own) ∙ named_id t.nodes r.to.dir r.to.name m given.apart over_ in
            goes_plain k m m.body refl (file m found) u e own there over_ apart d (renames_over t held r.from.dir r.from.name r.to.dir r.to.name k m there over_ is)

    by : (g : Result Unit Status) → rename_again t.nodes r ≡ g → RenameSettles t held r
    by (Err s) e = rename_fails s (Renamed (answer.Failed s (record { from = no_side; to = no_side }))) (ap (renames_if t held r.from r.to) e) (inr (inl (r.node, r.file, e))) refl refl refl
    by (Ok u) e = made u e (renamed_so t held r.from.dir r.from.name r.to.dir r.to.name)

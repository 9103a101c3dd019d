-- What the server answers to a call that makes, removes or renames fits its record, where its tree is within the limits, before and after.
use Rattle.std.proofs.Common.{◌≡◌, ℕ, ◌<◌, ◌^◌, List, [], Option, Some, None, Result, Ok, Err, Bool, true, false, refl, sym, ap, subst, arith, lit<}
use Rattle.std.specs.Option.{option_map}
use Rattle.xdr_codec.specs.Xdr.{bool_fits}
use Rattle.xdr_codec.specs.Attr.{attr_form}
use Rattle.xdr_codec.specs.Choice.{optional}
use Rattle.xdr_codec.specs.declared.attr.Attr.{Attr}
use Rattle.xdr_codec.specs.declared.answer.Answer.TheVariants as answer
use Rattle.xdr_codec.specs.declared.status.Status.{Status}
use Rattle.nfs3_calls.specs.Calls.{before_form, wcc_form, made_form, moved_form}
use Rattle.nfs3_calls.specs.declared.message.Nfs.TheVariants as nfs
use Rattle.wire.proofs.lemmas.Sizes.{small_fits}
use Rattle.wire.specs.Message.{MessageFits}
use Rattle.wire.specs.declared.message.Body.TheVariants as body
use Rattle.wire.specs.declared.message.Message.TheVariants as message
use Rattle.tree_reading.specs.Tree.{Tree, node_of}
use Rattle.tree_reading.specs.Reading.{attr, attr_of}
use Rattle.tree_reading.specs.declared.call.Changed.{Changed}
use Rattle.tree_reading.proofs.lemmas.Found.{id_bounded}
use Rattle.file_tree.proofs.lemmas.Limits.{bounds}
use Rattle.tree_calls.specs.Changing.{known, before, before_of, both_sides, no_side, made_of, created, made_directory, removed_directory, removed, renamed, refused_rename, renames, said}
use Rattle.tree_calls.specs.Waiting.{removing, renaming, answered, asks_remove, asks_rename, spot_of, removes_if, renames_if, remove_again, rename_again, settles}
use Rattle.tree_calls.specs.declared.asked.Asked.{Asked}
use Rattle.tree_calls.specs.declared.asked.Asked.TheVariants as asked
use Rattle.tree_calls.specs.declared.asked.Done.{Done}
use Rattle.tree_calls.specs.declared.asked.Outcome.{Outcome}
use Rattle.tree_calls.specs.declared.asked.Outcome.TheVariants.{Answered, Waits}
use Rattle.server_law.proofs.lemmas.TreeCalls.{bind_ok, ok_is}
use Rattle.server_law.proofs.lemmas.Trees.{nodes_of, IsBounded}
use Rattle.path_calls.specs.declared.walk.Goal.{Goal}
use Rattle.path_calls.specs.declared.walk.Goal.TheVariants as goal
use Rattle.file_tree.specs.Step.{create, mkdir, rmdir, remove, rename}
use Rattle.tree_reading.specs.declared.call.CreateMode.TheVariants as mode
use Rattle.tree_reading.specs.declared.call.Reservation.{Reservation}
use Rattle.kept_promise.proofs.Makings.{made_by}
use Rattle.kept_promise.proofs.NamesSpelled.{node_fits, stale_is}
use Rattle.kept_promise.proofs.Departures.{comes_by}
use Rattle.kept_promise.proofs.PathNames.{builds_at, goes_at}
use Rattle.kept_promise.proofs.Statements.{MakingAnswersFit, GoingAnswersFit, SettledAnswersFit}

-- the attributes of a node, if they are told
attr_fits : (t : Tree) (id : ℕ) → IsBounded t → (r : Result Attr Status) → attr t.nodes id ≡ r → (optional attr_form).Fits (known r)
attr_fits t id h (Err s) e = (bool_fits false, refl)
attr_fits t id h (Ok a) e =
    let c = bind_ok (node_of t.nodes id) (λ n. Ok (attr_of t.nodes n)) a e in
    let fits = node_fits t c.0 h (id_bounded (nodes_of t) t.changes id c.0 (bounds (nodes_of t) t.changes h) (stale_is _ c.0 c.1)) in
    (bool_fits true, subst attr_form.Fits (ok_is (attr_of t.nodes c.0) a c.2) fits)

-- and what is told of one as it was before
before_parts : (a : Attr) → attr_form.Fits a → before_form.Fits (before_of a)
unfolding before_form attr_form
before_parts a (k, (m, (l, (u, (g, (s, (d, (j, (n, (f, (i, (x, (y, z))))))))))))) = (s, (y, z))

before_fits : (t : Tree) (dir : ℕ) → IsBounded t → (optional before_form).Fits (before t.nodes dir)
before_fits t dir h = by (attr t.nodes dir) (attr_fits t dir h (attr t.nodes dir) refl)
  where
    by : (r : Result Attr Status) → (optional attr_form).Fits (known r) → (optional before_form).Fits (option_map before_of (known r))
    by (Err s) f = (bool_fits false, refl)
    by (Ok a) f = (bool_fits true, before_parts a f.1)

sides_fit : (t u : Tree) (dir : ℕ) → IsBounded t → IsBounded u → wcc_form.Fits (both_sides (before t.nodes dir) u.nodes dir)
unfolding wcc_form
sides_fit t u dir h k = (before_fits t dir h, attr_fits u dir k (attr u.nodes dir) refl)

no_side_fits : wcc_form.Fits no_side
unfolding wcc_form
no_side_fits = ((bool_fits false, refl), (bool_fits false, refl))

made_fits : (t u : Tree) (dir : ℕ) (c : Changed) → IsBounded t → IsBounded u → made_form.Fits (made_of (before t.nodes dir) dir u.nodes c)
unfolding made_form
made_fits t u dir c h k = ((bool_fits true, (lit< tt, omega arith)), (attr_fits u c.id k (attr u.nodes c.id) refl, sides_fit t u dir h k))

pub created_fits : (t u : Tree) (xid dir : ℕ) (r : Result Changed Status) → IsBounded t → IsBounded u → xid < 2 ^ 32 → MessageFits (message.Answer xid (body.Nfs (created (before t.nodes dir) dir u.nodes r).answer))
created_fits t u xid dir (Ok c) h k x = small_fits (message.Answer xid (body.Nfs (nfs.CreateAnswer (answer.Done (made_of (before t.nodes dir) dir u.nodes c))))) (x, (refl, made_fits t u dir c h k)) tt
created_fits t u xid dir (Err s) h k x = small_fits (message.Answer xid (body.Nfs (nfs.CreateAnswer (answer.Failed s no_side)))) (x, (refl, no_side_fits)) tt

pub made_directory_fits : (t u : Tree) (xid dir : ℕ) (r : Result Changed Status) → IsBounded t → IsBounded u → xid < 2 ^ 32 → MessageFits (message.Answer xid (body.Nfs (made_directory (before t.nodes dir) dir u.nodes r).answer))
made_directory_fits t u xid dir (Ok c) h k x = small_fits (message.Answer xid (body.Nfs (nfs.MkDirAnswer (answer.Done (made_of (before t.nodes dir) dir u.nodes c))))) (x, (refl, made_fits t u dir c h k)) tt
made_directory_fits t u xid dir (Err s) h k x = small_fits (message.Answer xid (body.Nfs (nfs.MkDirAnswer (answer.Failed s no_side)))) (x, (refl, no_side_fits)) tt

pub removed_directory_fits : (t u : Tree) (xid dir : ℕ) (r : Result Changed Status) → IsBounded t → IsBounded u → xid < 2 ^ 32 → MessageFits (message.Answer xid (body.Nfs (removed_directory (before t.nodes dir) dir u.nodes r).answer))
removed_directory_fits t u xid dir (Ok c) h k x = small_fits (message.Answer xid (body.Nfs (nfs.RmDirAnswer (answer.Done (both_sides (before t.nodes dir) u.nodes dir))))) (x, (refl, sides_fit t u dir h k)) tt
removed_directory_fits t u xid dir (Err s) h k x = small_fits (message.Answer xid (body.Nfs (nfs.RmDirAnswer (answer.Failed s no_side)))) (x, (refl, no_side_fits)) tt

-- ---- what lets a file go, or renames

pub removed_fits : (t u : Tree) (xid dir : ℕ) (r : Result Changed Status) → IsBounded t → IsBounded u → xid < 2 ^ 32 → MessageFits (message.Answer xid (body.Nfs (removed (before t.nodes dir) dir u.nodes r).answer))
removed_fits t u xid dir (Ok c) h k x = small_fits (message.Answer xid (body.Nfs (nfs.RemoveAnswer (answer.Done (both_sides (before t.nodes dir) u.nodes dir))))) (x, (refl, sides_fit t u dir h k)) tt
removed_fits t u xid dir (Err s) h k x = small_fits (message.Answer xid (body.Nfs (nfs.RemoveAnswer (answer.Failed s no_side)))) (x, (refl, no_side_fits)) tt

pub renamed_fits : (t u : Tree) (xid dir to : ℕ) (r : Result Changed Status) → IsBounded t → IsBounded u → xid < 2 ^ 32 → MessageFits (message.Answer xid (body.Nfs (renamed (before t.nodes dir) (before t.nodes to) dir to u.nodes r).answer))
unfolding moved_form
renamed_fits t u xid dir to (Ok c) h k x = small_fits (message.Answer xid (body.Nfs (nfs.RenameAnswer (answer.Done (record { from = both_sides (before t.nodes dir) u.nodes dir; to = both_sides (before t.nodes to) u.nodes to }))))) (x, (refl, (sides_fit t u dir h k, sides_fit t u to h k))) tt
renamed_fits t u xid dir to (Err s) h k x = small_fits (message.Answer xid (body.Nfs (nfs.RenameAnswer (answer.Failed s (record { from = no_side; to = no_side }))))) (x, (refl, (no_side_fits, no_side_fits))) tt

-- ---- any of them

pub making_answers_fit : MakingAnswersFit
making_answers_fit = λ xid t held w x h k making. by xid t held w.dir w.left w.goal x h k making
  where
    by : (xid : ℕ) (t : Tree) (held : Reservation) (dir : ℕ) (left : List (List ℕ)) (g : Goal) → xid < 2 ^ 32 → IsBounded t → IsBounded (made_by t held dir g).0 → builds_at left g ≡ true → MessageFits (message.Answer xid (body.Nfs (made_by t held dir g).1.answer))
    by xid t held dir [] (goal.Make n) x h k e = created_fits t (create t held dir n mode.Guarded).0 xid dir (create t held dir n mode.Guarded).1 h k x
    by xid t held dir [] (goal.MakeDir n) x h k e = made_directory_fits t (mkdir t held dir n).0 xid dir (mkdir t held dir n).1 h k x
    by xid t held dir [] (goal.RemoveDir n) x h k e = removed_directory_fits t (rmdir t held dir n).0 xid dir (rmdir t held dir n).1 h k x
    by xid t held dir _ _ x h k e = absurd cc

-- ---- and one that removes or renames

no_answer : {A : Type 0} (t after : Tree) (a : Asked) (d : Done) → ◌≡◌ {A = Tree × Outcome} (t, Waits a) (after, Answered d) → A
no_answer t after a d e = apart (ap (λ (p : Tree × Outcome). p.1) e)
  where
    apart : {A : Type 0} → Waits a ≡ Answered d → A
    apart e = absurd cc

same_answer : (c d : Done) → Answered c ≡ Answered d → c ≡ d
same_answer c d e = cc

refused_removal : (xid : ℕ) (s : Status) → xid < 2 ^ 32 → MessageFits (message.Answer xid (body.Nfs (nfs.RemoveAnswer (answer.Failed s no_side))))
refused_removal xid s x = small_fits (message.Answer xid (body.Nfs (nfs.RemoveAnswer (answer.Failed s no_side)))) (x, (refl, no_side_fits)) tt

refused_move : (xid : ℕ) (s : Status) → xid < 2 ^ 32 → MessageFits (message.Answer xid (body.Nfs (refused_rename s).answer))
unfolding moved_form
refused_move xid s x = small_fits (message.Answer xid (body.Nfs (nfs.RenameAnswer (answer.Failed s (record { from = no_side; to = no_side }))))) (x, (refl, (no_side_fits, no_side_fits))) tt

answered_is : (p : Tree × Done) (after : Tree) (d : Done) → ◌≡◌ {A = Tree × Outcome} (answered p) (after, Answered d) → (p.0 ≡ after) × (p.1 ≡ d)
answered_is p after d e = (ap (λ (z : Tree × Outcome). z.0) e, same_answer p.1 d (ap (λ (z : Tree × Outcome). z.1) e))

pub going_answers_fit : GoingAnswersFit
going_answers_fit = λ xid t held busy w after d x h k is going. by xid t held busy w.dir w.left w.goal after d x h k is going
  where
    said_is : (t after : Tree) (c d : Done) → ◌≡◌ {A = Tree × Outcome} (t, Answered c) (after, Answered d) → c ≡ d
    said_is t after c d e = same_answer c d (ap (λ (z : Tree × Outcome). z.1) e)

    removal : (xid : ℕ) (t : Tree) (dir : ℕ) (name : List ℕ) (after : Tree) (d : Done) (r : Result ℕ Status) → xid < 2 ^ 32 → ◌≡◌ {A = Tree × Outcome} (t, removing dir name r) (after, Answered d) → MessageFits (message.Answer xid (body.Nfs d.answer))
    removal xid t dir name after d (Err s) x is = subst (λ (z : Done). MessageFits (message.Answer xid (body.Nfs z.answer))) (said_is t after (said (nfs.RemoveAnswer (answer.Failed s no_side))) d is) (refused_removal xid s x)
    removal xid t dir name after d (Ok file) x is = no_answer t after (asked.Remove (record { spot = spot_of dir name; file = file })) d is

    move : (xid : ℕ) (t : Tree) (held : Reservation) (from : ℕ) (name : List ℕ) (to : ℕ) (other : List ℕ) (after : Tree) (d : Done) (r : Result (Option (ℕ × ℕ)) Status) → xid < 2 ^ 32 → IsBounded t → IsBounded after → renaming t held from name to other r ≡ (after, Answered d) → MessageFits (message.Answer xid (body.Nfs d.answer))
    move xid t held from name to other after d (Err s) x h k is = subst (λ (z : Done). MessageFits (message.Answer xid (body.Nfs z.answer))) (said_is t after (refused_rename s) d is) (refused_move xid s x)
    move xid t held from name to other after d (Ok None) x h k is =
        let e = answered_is (renames t held from name to other) after d is in
        subst (λ (z : Done). MessageFits (message.Answer xid (body.Nfs z.answer))) e.1 (renamed_fits t (rename t held from name to other).0 xid from to (rename t held from name to other).1 h (subst IsBounded (sym e.0) k) x)
    move xid t held from name to other after d (Ok (Some p)) x h k is = no_answer t after (asked.Rename (record { from = spot_of from name; to = spot_of to other; node = p.0; file = p.1 })) d is

    by : (xid : ℕ) (t : Tree) (held : Reservation) (busy : Bool) (dir : ℕ) (left : List (List ℕ)) (g : Goal) (after : Tree) (d : Done) → xid < 2 ^ 32 → IsBounded t → IsBounded after → comes_by t held busy dir g ≡ (after, Answered d) → goes_at left g ≡ true → MessageFits (message.Answer xid (body.Nfs d.answer))
    by xid t held busy dir [] (goal.Remove n) after d x h k is e = removal xid t dir n after d (asks_remove t held busy dir n) x is
    by xid t held busy dir [] (goal.RenameTo from n to) after d x h k is e = move xid t held from n dir to after d (asks_rename t held busy from n dir to) x h k is
    by xid t held busy dir left g after d x h k is e = absurd cc

pub settled_answers_fit : SettledAnswersFit
settled_answers_fit = λ xid t held a x h k. by xid t held a x h k
  where
    removal : (xid : ℕ) (t : Tree) (held : Reservation) (dir : ℕ) (name : List ℕ) (r : Result Unit Status) → xid < 2 ^ 32 → IsBounded t → IsBounded (removes_if t held (spot_of dir name) r).0 → MessageFits (message.Answer xid (body.Nfs (removes_if t held (spot_of dir name) r).1.answer))
    removal xid t held dir name (Err s) x h k = refused_removal xid s x
    removal xid t held dir name (Ok u) x h k = removed_fits t (remove t held dir name).0 xid dir (remove t held dir name).1 h k x

    move : (xid : ℕ) (t : Tree) (held : Reservation) (from : ℕ) (name : List ℕ) (to : ℕ) (other : List ℕ) (r : Result Unit Status) → xid < 2 ^ 32 → IsBounded t → IsBounded (renames_if t held (spot_of from name) (spot_of to other) r).0 → MessageFits (message.Answer xid (body.Nfs (renames_if t held (spot_of from name) (spot_of to other) r).1.answer))
    move xid t held from name to other (Err s) x h k = refused_move xid s x
    move xid t held from name to other (Ok u) x h k = renamed_fits t (rename t held from name to other).0 xid from to (rename t held from name to other).1 h k x

    by : (xid : ℕ) (t : Tree) (held : Reservation) (a : Asked) → xid < 2 ^ 32 → IsBounded t → IsBounded (settles t held a).0 → MessageFits (message.Answer xid (body.Nfs (settles t held a).1.answer))
    by xid t held (asked.Remove q) x h k = removal xid t held q.spot.dir q.spot.name (remove_again t.nodes q) x h k
    by xid t held (asked.Rename q) x h k = move xid t held q.from.dir q.from.name q.to.dir q.to.name (rename_again t.nodes q) x h k

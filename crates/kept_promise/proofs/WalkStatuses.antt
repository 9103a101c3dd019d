-- What a command on names may be refused by, by its own call that the server's tree refused: one that tells, and one that makes, removes or renames something.
use Rattle.std.proofs.Common.{inl, inr, ◌≡◌, ℕ, List, [], ◌∷◌, ◌++◌, Option, Some, None, Result, Ok, Err, refl, sym, ap, ◌∙◌, subst, arith}
use Rattle.limits.specs.declared.TheConstants.{LISTING_MOST}
use Rattle.xdr_codec.specs.Handle.{handle_bytes}
use Rattle.xdr_codec.specs.Status.{status_number}
use Rattle.xdr_codec.specs.declared.attr.Attr.{Attr}
use Rattle.xdr_codec.specs.declared.status.Status.{Status}
use Rattle.command_text.specs.declared.path.PathCommand.{PathCommand}
use Rattle.command_text.specs.declared.path.PathCommand.TheVariants as path
use Rattle.nfs3_calls.specs.declared.listing.Listing.{Listing}
use Rattle.nfs3_calls.specs.declared.listing.ListRange.{ListRange}
use Rattle.nfs3_calls.specs.declared.message.Nfs.{Nfs}
use Rattle.nfs3_calls.specs.declared.message.Nfs.TheVariants as nfs
use Rattle.nfs3_calls.specs.declared.place.Found.{Found}
use Rattle.tree_nodes.specs.declared.node.Node.{Node}
use Rattle.tree_reading.specs.Tree.{Tree}
use Rattle.tree_calls.specs.Waiting.{spot_of}
use Rattle.tree_calls.specs.Telling.{answer_of, found, getattr, listing, told as told_by}
use Rattle.path_calls.specs.declared.walk.Goal.{Goal}
use Rattle.path_calls.specs.declared.walk.Goal.TheVariants as goal
use Rattle.path_calls.specs.declared.walk.Pages.{Pages}
use Rattle.path_calls.specs.declared.walk.Walk.{Walk}
use Rattle.path_calls.specs.Walk.{place, call_at, goal_call, next_call}
use Rattle.register_model.specs.declared.op.Outcome.TheVariants as told
use Rattle.xdr_codec.specs.declared.handle.TheConstants.{ROOT}
use Rattle.trace_replay.specs.Book.{Book}
use Rattle.trace_replay.specs.Complete.{IsPathRefused, IsNameRefused, EndsNamed}
use Rattle.trace_replay.specs.Naming.{Leads, refusal_of}
use Rattle.kept_promise.proofs.PathNames.{AreNames, IsName, IsGoalNamed, IsWalkSmall}
use Rattle.kept_promise.proofs.Goings.{RefusedBy, RefusedAs}
use Rattle.kept_promise.proofs.GoingStatuses.{remove_asked, remove_late, remove_refused, rename_asked, rename_late, rename_refused}
use Rattle.kept_promise.proofs.MakingStatuses.{create_refused, mkdir_refused, rmdir_refused}
use Rattle.kept_promise.proofs.Rooted.{IsRooted, all_short}
use Rattle.kept_promise.proofs.NameStatuses.{found_refused, attr_refused, page_refused}
use Rattle.kept_promise.proofs.Walked.{IsReached, HasWalk}

-- ---- where a walk of no names is

none_left : (done left : List (List ℕ)) → [] ≡ done ++ left → (done ≡ []) × (left ≡ [])
none_left [] left e = (refl, sym e)
none_left (n ∷ ns) left e = absurd cc

-- at the root
at_root : (book : Book) (begin step : ℕ) (w : Walk) → IsReached book begin [] w step → (w.left ≡ []) × (w.dir ≡ ROOT)
at_root book begin step w h =
    let none = none_left h.0 w.left h.1 in
    (none.1, (subst (λ (l : List (List ℕ)). Leads book begin ROOT l w.dir step) none.0 h.2).0)

-- ---- the call that was refused

some_nfs : (a b : Nfs) → ◌≡◌ {A = Option Nfs} (Some a) (Some b) → a ≡ b
some_nfs a b e = cc

some_status : (a b : Status) → ◌≡◌ {A = Option Status} (Some a) (Some b) → a ≡ b
some_status a b e = cc

none_status : (s : Status) {B : Type 0} → ◌≡◌ {A = Option Status} None (Some s) → B
none_status s e = absurd cc

looked_up : (r : Result Found Status) (s : Status) → refusal_of (nfs.LookupAnswer (answer_of None r)) ≡ Some s → r ≡ Err s
looked_up (Ok f) s e = none_status s e
looked_up (Err t) s e = ap (λ (z : Status). Err z) (some_status t s e)

told_of : (r : Result Attr Status) (s : Status) → refusal_of (nfs.GetAttrAnswer (answer_of tt r)) ≡ Some s → r ≡ Err s
told_of (Ok x) s e = none_status s e
told_of (Err t) s e = ap (λ (z : Status). Err z) (some_status t s e)

paged : (r : Result Listing Status) (s : Status) → refusal_of (nfs.ReadDirAnswer (answer_of None r)) ≡ Some s → r ≡ Err s
paged (Ok x) s e = none_status s e
paged (Err t) s e = ap (λ (z : Status). Err z) (some_status t s e)

module _ (nodes : List Node) (w : Walk) (a : Nfs) (s : Status) (rooted : IsRooted nodes) (small : IsWalkSmall w) (told_is : told_by nodes (next_call w) ≡ Some a) (refused : refusal_of a ≡ Some s) where
  -- what was told of a call refuses it
  refuses : (c b : Nfs) → next_call w ≡ c → told_by nodes c ≡ Some b → refusal_of b ≡ Some s
  refuses c b call is = ap refusal_of (some_nfs b a (sym is ∙ sym (ap (told_by nodes) call) ∙ told_is)) ∙ refused

  look_up : (name : List ℕ) → IsName name → next_call w ≡ nfs.Lookup (place w.dir name) → IsPathRefused (status_number s)
  look_up name h call = found_refused nodes w.dir name small.dir h.0 h.1 h.2 s (looked_up (found nodes (place w.dir name)) s (refuses (nfs.Lookup (place w.dir name)) (nfs.LookupAnswer (answer_of None (found nodes (place w.dir name)))) call refl))

  -- the goal's own
  goal_is : (g : Goal) → w.left ≡ [] → w.goal ≡ g → next_call w ≡ goal_call w.dir g
  goal_is g left aim = ap (λ (l : List (List ℕ)). call_at w.dir l w.goal) left ∙ ap (goal_call w.dir) aim

  -- a name on the way
  on_way : (n : List ℕ) (ns : List (List ℕ)) → w.left ≡ n ∷ ns → IsPathRefused (status_number s)
  on_way n ns left = look_up n (subst AreNames left small.named.0).0.0 (ap (λ (l : List (List ℕ)). call_at w.dir l w.goal) left)

  -- nothing is told of what changes names
  untold : (g : Goal) → w.left ≡ [] → w.goal ≡ g → told_by nodes (goal_call w.dir g) ≡ None → ⊥
  untold g left aim none = some_none (sym told_is ∙ ap (told_by nodes) (goal_is g left aim) ∙ none)
    where
      some_none : ◌≡◌ {A = Option Nfs} (Some a) None → ⊥
      some_none e = absurd cc

  root_refused : w.left ≡ [] → w.dir ≡ ROOT → w.goal ≡ goal.LookRoot → ⊥
  root_refused left dir aim =
      let call : next_call w ≡ nfs.GetAttr (handle_bytes ROOT) = goal_is goal.LookRoot left aim ∙ ap (λ (i : ℕ). nfs.GetAttr (handle_bytes i)) dir in
      attr_refused nodes ROOT (omega arith) rooted.root s (told_of (getattr nodes (handle_bytes ROOT)) s (refuses (nfs.GetAttr (handle_bytes ROOT)) (nfs.GetAttrAnswer (answer_of tt (getattr nodes (handle_bytes ROOT)))) call refl))

  list_refused : (p : List (List ℕ)) (pages : Pages) → w.left ≡ [] → w.goal ≡ goal.List pages → EndsNamed (path.List p) (told.Refused (status_number s))
  list_refused p pages left aim = page_refused nodes w.dir pages.cookie pages.verifier small.dir (all_short nodes rooted) s (paged (listing nodes range) s (refuses (nfs.ReadDir range) (nfs.ReadDirAnswer (answer_of None (listing nodes range))) (goal_is (goal.List pages) left aim) refl))
    where
      range : ListRange
      range = record { dir = handle_bytes w.dir; cookie = pages.cookie; verifier = pages.verifier; count = LISTING_MOST }

  module _ (book : Book) (begin step : ℕ) where
    way_refused : (k : PathCommand) → HasWalk book begin k w step → (n : List ℕ) (ns : List (List ℕ)) → w.left ≡ n ∷ ns → EndsNamed k (told.Refused (status_number s))
    way_refused (path.Look x) h n ns left = on_way n ns left
    way_refused path.LookRoot h n ns left = absurd (some (sym (at_root book begin step w h.0).0 ∙ left))
      where
        some : ◌≡◌ {A = List (List ℕ)} [] (n ∷ ns) → ⊥
        some e = absurd cc
    way_refused _ h n ns left = inl (on_way n ns left)

    goal_refused : (k : PathCommand) → HasWalk book begin k w step → w.left ≡ [] → EndsNamed k (told.Refused (status_number s))
    goal_refused (path.Find x) h left = inl (look_up x.name (subst IsGoalNamed h.1 small.named.1) (goal_is (goal.Find x.name) left h.1))
    goal_refused (path.Rewrite x) h left = inl (look_up x.name (subst IsGoalNamed h.1 small.named.1) (goal_is (goal.Rewrite x.name) left h.1))
    goal_refused (path.Look x) h left = look_up x.name (subst IsGoalNamed h.1 small.named.1) (goal_is (goal.Look x.name) left h.1)
    goal_refused path.LookRoot h left = absurd (root_refused left (at_root book begin step w h.0).1 h.1)
    goal_refused (path.List p) h left = list_refused p h.pages left h.goal_is
    goal_refused (path.Make x) h left = absurd (untold (goal.Make x.name) left h.1 refl)
    goal_refused (path.MakeDir x) h left = absurd (untold (goal.MakeDir x.name) left h.1 refl)
    goal_refused (path.Remove x) h left = absurd (untold (goal.Remove x.name) left h.1 refl)
    goal_refused (path.RemoveDir x) h left = absurd (untold (goal.RemoveDir x.name) left h.1 refl)
    goal_refused (path.Rename x y) (inl h) left = absurd (some (sym left ∙ h.left_is))
      where
        some : ◌≡◌ {A = List (List ℕ)} [] (h.next ∷ h.others) → ⊥
        some e = absurd cc
    goal_refused (path.Rename x y) (inr h) left = absurd (untold (goal.RenameTo h.dir x.name y.name) left h.has.1 refl)

    -- by its path, or as the command may be
    pub walk_refused : (k : PathCommand) → HasWalk book begin k w step → EndsNamed k (told.Refused (status_number s))
    walk_refused k h = by w.left refl
      where
        by : (l : List (List ℕ)) → w.left ≡ l → EndsNamed k (told.Refused (status_number s))
        by [] left = goal_refused k h left
        by (n ∷ ns) left = way_refused k h n ns left

-- ---- the call that was refused, where it makes, removes or renames something

removed_as : (t : Tree) (dir : ℕ) (name : List ℕ) (s : Status) → IsName name → RefusedBy t dir (goal.Remove name) s → IsNameRefused (status_number s) (21 ∷ 28 ∷ 10008 ∷ [])
removed_as t dir name s n (inl (held, busy, e)) = remove_asked t held busy dir name s n e
removed_as t dir name s n (inr (inl (file, e))) = remove_late t.nodes (record { spot = spot_of dir name; file = file }) s e
removed_as t dir name s n (inr (inr (held, e))) = remove_refused t held dir name s n e

renamed_as : (t : Tree) (from : ℕ) (name : List ℕ) (to : ℕ) (to_name : List ℕ) (s : Status) → IsName name → IsName to_name → RefusedBy t to (goal.RenameTo from name to_name) s → IsNameRefused (status_number s) (17 ∷ 22 ∷ 28 ∷ 10008 ∷ [])
renamed_as t from name to to_name s n m (inl (held, busy, e)) = rename_asked t held busy from name to to_name s n m e
renamed_as t from name to to_name s n m (inr (inl (node, file, e))) = rename_late t.nodes (record { from = spot_of from name; to = spot_of to to_name; node = node; file = file }) s e
renamed_as t from name to to_name s n m (inr (inr (held, e))) = rename_refused t held from name to to_name s n m e

pub making_refused : (t : Tree) (book : Book) (begin step : ℕ) (k : PathCommand) (w : Walk) (s : Status) → IsWalkSmall w → HasWalk book begin k w step → RefusedAs t w s → EndsNamed k (told.Refused (status_number s))
making_refused t book begin step k w s small h why = by k h
  where
    named : (g : Goal) → w.goal ≡ g → IsGoalNamed g
    named g aim = subst IsGoalNamed aim small.named.1

    refused : (g : Goal) → w.goal ≡ g → RefusedBy t w.dir g s
    refused g aim = subst (λ (z : Goal). RefusedBy t w.dir z s) aim why

    by : (k : PathCommand) → HasWalk book begin k w step → EndsNamed k (told.Refused (status_number s))
    by (path.Find x) h = absurd (refused (goal.Find x.name) h.1)
    by (path.Rewrite x) h = absurd (refused (goal.Rewrite x.name) h.1)
    by (path.Look x) h = absurd (refused (goal.Look x.name) h.1)
    by path.LookRoot h = absurd (refused goal.LookRoot h.1)
    by (path.List p) h = absurd (refused (goal.List h.pages) h.goal_is)
    by (path.Make x) h = let n = named (goal.Make x.name) h.1 in let e = refused (goal.Make x.name) h.1 in create_refused t e.0 w.dir x.name s n.0 n.1 n.2 e.1
    by (path.MakeDir x) h = let n = named (goal.MakeDir x.name) h.1 in let e = refused (goal.MakeDir x.name) h.1 in mkdir_refused t e.0 w.dir x.name s n.0 n.1 n.2 e.1
    by (path.RemoveDir x) h = let n = named (goal.RemoveDir x.name) h.1 in let e = refused (goal.RemoveDir x.name) h.1 in rmdir_refused t e.0 w.dir x.name s n.0 n.1 n.2 e.1
    by (path.Remove x) h = removed_as t w.dir x.name s (named (goal.Remove x.name) h.1) (refused (goal.Remove x.name) h.1)
    by (path.Rename x y) (inl h) = absurd (refused (goal.RenameFrom x.name y) h.has.1)
    by (path.Rename x y) (inr h) = let n = named (goal.RenameTo h.dir x.name y.name) h.has.1 in renamed_as t h.dir x.name w.dir y.name s n.0 n.1 (refused (goal.RenameTo h.dir x.name y.name) h.has.1)

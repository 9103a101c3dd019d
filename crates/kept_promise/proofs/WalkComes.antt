-- What the answer to a walk's next call makes of it, where the tree of a moment gave it: it's refused; or the walk goes on as its command has it; or it ends
-- by what that tree tells.
use Rattle.std.proofs.Common.{◌⊎◌, inl, inr, ◌≡◌, ℕ, ◌+◌, ◌<◌, ◌≤◌, List, [], ◌∷◌, ◌++◌, length, drop, Option, Some, None, Ok, Bool, true, false, not, ◌==◌, ◌&&◌, refl, sym, ap, ◌∙◌, subst, arith}
use Rattle.std.specs.Prelude.{Contains, nat_le}
use Rattle.std.proofs.lemmas.Bool.Decides.{nat_tests}
use Rattle.command_text.specs.declared.path.PathCommand.{PathCommand}
use Rattle.command_text.specs.declared.path.PathCommand.TheVariants as path
use Rattle.nfs3_calls.specs.declared.listing.Entry.{Entry}
use Rattle.nfs3_calls.specs.declared.listing.Listing.{Listing}
use Rattle.nfs3_calls.specs.declared.message.Nfs.{Nfs}
use Rattle.tree_nodes.specs.declared.node.Node.{Node}
use Rattle.tree_nodes.specs.Nodes.{with_id, named, names}
use Rattle.tree_reading.specs.Tree.{directory_of}
use Rattle.tree_reading.specs.declared.reading.Standing.{Standing}
use Rattle.tree_calls.specs.Telling.{told as told_by}
use Rattle.path_calls.specs.declared.answers.Ended.TheVariants as ended
use Rattle.path_calls.specs.declared.answers.Told.{Told}
use Rattle.path_calls.specs.declared.answers.Told.TheVariants as told
use Rattle.path_calls.specs.declared.walk.Goal.{Goal}
use Rattle.path_calls.specs.declared.walk.Goal.TheVariants as goal
use Rattle.path_calls.specs.declared.walk.Pages.{Pages}
use Rattle.path_calls.specs.declared.walk.Walk.{Walk}
use Rattle.path_calls.specs.Walk.{pages_most, arrives, call_at, goal_call, next_call}
use Rattle.path_calls.specs.Told.{with_page, asks_page, more_pages, lists_on, walk_told}
use Rattle.xdr_codec.specs.declared.handle.TheConstants.{ROOT}
use Rattle.trace_replay.specs.Trail.{Moment, step_of}
use Rattle.trace_replay.specs.Book.{Book}
use Rattle.trace_replay.specs.Naming.{tree_at, Leads, all_names}
use Rattle.kept_promise.proofs.PathNames.{AreNames, IsGoalNamed, IsWalkNamed}
use Rattle.server_law.proofs.lemmas.Trees.{IsBounded}
use Rattle.kept_promise.proofs.TreeDirs.{names_in}
use Rattle.kept_promise.proofs.TreeTold.{IsPage}
use Rattle.kept_promise.proofs.TreeWalks.{IsUndotted, IsRefusal, Sees, looks_down, finds_file, rewrites_file, sees_name, sees_root, lists_page}
use Rattle.kept_promise.proofs.Walked.{HasPages, HasList, IsPast, HasWalk, reached_all, page_comes, walk_goes, walk_finds}

-- ---- how one ends

-- a listing has all names; or it has more pages than it may ask for
abbrev pub IsListing : Book → Moment → (dir : ℕ) → Told → Type 0
IsListing book m dir r = ((d : Node) × (directory_of (tree_at m).nodes dir ≡ Ok d) × (r ≡ told.Ends (ended.Names (names_in (tree_at m).nodes dir)))) ⊎ (r ≡ told.Ends ended.NoLink)

-- by the answer that was given at this moment
abbrev pub WalkEnds : Book → (begin step : ℕ) → Moment → PathCommand → Walk → Told → Type 0
WalkEnds book begin step m (path.Find x) w r = (s : Standing) × (r ≡ told.Finds s.id) × Leads book begin ROOT (all_names x) s.id (step_of m)
WalkEnds book begin step m (path.Rewrite x) w r = (s : Standing) × (r ≡ told.Rewrites s.id) × Leads book begin ROOT (all_names x) s.id (step_of m)
WalkEnds book begin step m (path.Look x) w r = (n : Node) × Leads book begin ROOT x.dirs w.dir step × (named (tree_at m).nodes w.dir x.name ≡ Some n) × Sees (tree_at m).nodes n r
WalkEnds book begin step m path.LookRoot w r = (n : Node) × (with_id (tree_at m).nodes ROOT ≡ Some n) × Sees (tree_at m).nodes n r
WalkEnds book begin step m (path.List p) w r = (found_at : ℕ) × Leads book begin ROOT p w.dir found_at × (found_at ≤ step) × IsListing book m w.dir r
WalkEnds book begin step m k w r = ⊥

abbrev pub WalkComes : Book → (begin step : ℕ) → Moment → PathCommand → Walk → Nfs → Told → Type 0
WalkComes book begin step m k w a r = IsRefusal a r ⊎ (((v : Walk) × (r ≡ told.Asks v) × HasWalk book begin k v (step_of m)) ⊎ WalkEnds book begin step m k w r)

-- ---- a page

page_ends : (book : Book) (begin step : ℕ) (m : Moment) (path_ : List (List ℕ)) (w : Walk) (h : HasList book begin path_ w step) (x : Listing) (r : Told) → w.left ≡ [] → IsPast book m → Contains book.moments m → step ≤ step_of m → IsPage (tree_at m).nodes w.dir h.pages.cookie h.pages.verifier x → r ≡ lists_on w.dir (with_page h.pages x) x.entries x.eof
    → ((v : Walk) × (r ≡ told.Asks v) × HasList book begin path_ v (step_of m)) ⊎ ((found_at : ℕ) × Leads book begin ROOT path_ w.dir found_at × (found_at ≤ step) × IsListing book m w.dir r)
page_ends book begin step m path_ w h x r left past there le page is = by x.eof refl x.entries refl
  where
    so_far : ((h.pages.cookie ≡ 0) × (h.pages.names ≡ [])) ⊎ HasPages book w.dir h.found_at step h.pages
    so_far = elim h.so_far [ inl none ↦ inl none | inr some ↦ inr some.1 ]

    came : HasPages book w.dir h.found_at (step_of m) (with_page h.pages x) × (x.eof ≡ true → (with_page h.pages x).names ≡ names_in (tree_at m).nodes w.dir)
    came = page_comes book w.dir h.found_at step h.pages m x so_far past there h.before le page

    found : Leads book begin ROOT path_ w.dir h.found_at
    found = reached_all book begin path_ w h.found_at h.reached left

    -- a page that isn't the last has an entry
    full : x.eof ≡ false → x.entries ≡ [] → ⊥
    full last none =
        let count : length x.entries ≡ 0 = ap (λ (l : List Entry). length l) none in
        empty (length x.entries) (length (drop h.pages.cookie (names (tree_at m).nodes w.dir))) count (sym page.eof_is ∙ last) page.more
      where
        empty : (a b : ℕ) → a ≡ 0 → (a == b) ≡ false → (not (b == 0) && (a == 0)) ≡ false → ⊥
        empty a b zero_is other some = grind (arith, nat_tests, zero_is, other, some)

    asks : (e : Entry) (es : List Entry) (b : Bool) → r ≡ asks_page w.dir (with_page h.pages x) b → ((v : Walk) × (r ≡ told.Asks v) × HasList book begin path_ v (step_of m)) ⊎ ((found_at : ℕ) × Leads book begin ROOT path_ w.dir found_at × (found_at ≤ step) × IsListing book m w.dir r)
    asks e es true same = inr (h.found_at, found, h.before, inr same)
    asks e es false same =
        let p : Pages = with_page h.pages x in
        let before = h.before in
        let c = came.0 in
        inl (
          record { dir = w.dir; left = []; goal = goal.List (record p { count = p.count + 1 }) },
          same,
          record {
            found_at = h.found_at;
            reached = (h.reached.0, h.reached.1 ∙ ap (λ (l : List (List ℕ)). h.reached.0 ++ l) left, h.reached.2);
            before = omega (arith, before, le);
            pages = record p { count = p.count + 1 };
            goal_is = refl;
            so_far = inr (refl, record { moment = c.moment; there = c.there; after = c.after; before = c.before; node = c.node; directory = c.directory; verifier_is = c.verifier_is; names_are = c.names_are });
          },
        )

    by : (b : Bool) → x.eof ≡ b → (l : List Entry) → x.entries ≡ l → ((v : Walk) × (r ≡ told.Asks v) × HasList book begin path_ v (step_of m)) ⊎ ((found_at : ℕ) × Leads book begin ROOT path_ w.dir found_at × (found_at ≤ step) × IsListing book m w.dir r)
    by true last l entries = inr (h.found_at, found, h.before, inl (page.node, page.directory, is ∙ ap (lists_on w.dir (with_page h.pages x) x.entries) last ∙ ap (λ (ns : List (List ℕ)). told.Ends (ended.Names ns)) (came.1 last)))
    by false more [] entries = absurd (full more entries)
    by false more (e ∷ es) entries = asks e es (nat_le pages_most ((with_page h.pages x).count + 1)) (is ∙ ap (lists_on w.dir (with_page h.pages x) x.entries) more ∙ ap (more_pages w.dir (with_page h.pages x)) entries)

-- ---- any answer

module _ (book : Book) (begin step : ℕ) (m : Moment) (w : Walk) (a : Nfs) (bounded : IsBounded (tree_at m)) (small : w.dir < 18446744073709551616) (plain : IsWalkNamed w) (past : IsPast book m) (there : Contains book.moments m) (le : step ≤ step_of m) (is : told_by (tree_at m).nodes (next_call w) ≡ Some a) where
  -- behind a look-up on the way
  down : (k : PathCommand) → HasWalk book begin k w step → (n : List ℕ) (ns : List (List ℕ)) → w.left ≡ n ∷ ns → WalkComes book begin step m k w a (walk_told w a)
  down k h n ns left = elim (looks_down (tree_at m) w n ns a bounded small (name_of left) left is) [
    | inl f ↦ inl f
    | inr s ↦ inr (inl (arrives s.0.id ns w.goal, s.2, walk_goes book begin k w step n ns m s.0 h left there le s.1))
  ]
    where
      name_of : w.left ≡ n ∷ ns → IsUndotted n
      name_of e = (subst AreNames e plain.0).0.0.0

  -- what the goal asks for changes the tree: nothing is told
  silent : (g : Goal) → w.left ≡ [] → w.goal ≡ g → told_by (tree_at m).nodes (goal_call w.dir g) ≡ None → ⊥
  silent g left aim none = no (sym is ∙ ap (λ (l : List (List ℕ)). told_by (tree_at m).nodes (call_at w.dir l w.goal)) left ∙ ap (λ (z : Goal). told_by (tree_at m).nodes (goal_call w.dir z)) aim ∙ none)
    where
      no : ◌≡◌ {A = Option Nfs} (Some a) None → ⊥
      no e = absurd cc

  -- behind the goal's own call
  last : (k : PathCommand) → HasWalk book begin k w step → w.left ≡ [] → WalkComes book begin step m k w a (walk_told w a)
  last (path.Find x) h left = elim (finds_file (tree_at m) w x.name a bounded small (subst IsGoalNamed h.1 plain.1).0 left h.1 is) [
    | inl f ↦ inl f
    | inr s ↦ inr (inr (s.0, s.2, walk_finds book begin x (goal.Find x.name) w step m s.0 h left there le s.1))
  ]
  last (path.Rewrite x) h left = elim (rewrites_file (tree_at m) w x.name a bounded small (subst IsGoalNamed h.1 plain.1).0 left h.1 is) [
    | inl f ↦ inl f
    | inr s ↦ inr (inr (s.0, s.2, walk_finds book begin x (goal.Rewrite x.name) w step m s.0 h left there le s.1))
  ]
  last (path.Look x) h left = elim (sees_name (tree_at m) w x.name a bounded small (subst IsGoalNamed h.1 plain.1).0 left h.1 is) [
    | inl f ↦ inl f
    | inr s ↦ inr (inr (s.0, reached_all book begin x.dirs w step h.0 left, s.1, s.2))
  ]
  last path.LookRoot h left = elim (sees_root (tree_at m) w a bounded small left h.1 is) [
    | inl f ↦ inl f
    | inr s ↦ inr (inr (s.0, ap (with_id (tree_at m).nodes) (sym (reached_all book begin [] w step h.0 left).0) ∙ s.1, s.3))
  ]
  last (path.List p) h left = elim (lists_page (tree_at m) w h.pages a small left h.goal_is is) [
    | inl f ↦ inl f
    | inr s ↦ inr (page_ends book begin step m p w h s.0 (walk_told w a) left past there le s.1 s.2)
  ]
  last (path.Make x) h left = absurd (silent (goal.Make x.name) left h.1 refl)
  last (path.MakeDir x) h left = absurd (silent (goal.MakeDir x.name) left h.1 refl)
  last (path.Remove x) h left = absurd (silent (goal.Remove x.name) left h.1 refl)
  last (path.RemoveDir x) h left = absurd (silent (goal.RemoveDir x.name) left h.1 refl)
  last (path.Rename x y) (inl h) left = absurd (no (sym left ∙ h.left_is))
    where
      no : ◌≡◌ {A = List (List ℕ)} [] (h.next ∷ h.others) → ⊥
      no e = absurd cc
  last (path.Rename x y) (inr h) left = absurd (silent (goal.RenameTo h.dir x.name y.name) left h.has.1 refl)

  pub walk_comes : (k : PathCommand) → HasWalk book begin k w step → WalkComes book begin step m k w a (walk_told w a)
  walk_comes k h = by w.left refl
    where
      by : (l : List (List ℕ)) → w.left ≡ l → WalkComes book begin step m k w a (walk_told w a)
      by [] left = last k h left
      by (n ∷ ns) left = down k h n ns left

-- How far a walk has come: what its names led to, at which moments; and what the answer to its next call, which a tree of such a moment gave, adds to that.
use Rattle.std.proofs.Common.{◌⊎◌, inl, inr, ◌≡◌, ℕ, ◌<◌, ◌≤◌, List, [], ◌∷◌, ◌++◌, take, Option, Some, None, Result, Ok, Err, Bool, true, false, refl, sym, ap, ◌∙◌, subst, arith, if◌then◌else◌}
use Rattle.std.specs.Prelude.{Contains}
use Rattle.command_text.specs.declared.path.PathCommand.{PathCommand}
use Rattle.command_text.specs.declared.path.PathCommand.TheVariants as path
use Rattle.command_text.specs.declared.path.Spot.{Spot}
use Rattle.nfs3_calls.specs.declared.listing.Listing.{Listing}
use Rattle.xdr_codec.specs.declared.status.Status.{Status}
use Rattle.xdr_codec.specs.declared.status.Status.TheVariants as status
use Rattle.tree_nodes.specs.declared.node.Node.{Node}
use Rattle.tree_nodes.specs.declared.node.Body.{Body}
use Rattle.tree_nodes.specs.declared.node.Body.TheVariants.{Directory, File}
use Rattle.tree_nodes.specs.Nodes.{with_id}
use Rattle.tree_reading.specs.Tree.{Tree, is_directory, directory_of, directory_or, or_stale}
use Rattle.tree_reading.specs.Chain.{◌>>=◌}
use Rattle.tree_reading.specs.Reading.{stands_for}
use Rattle.tree_reading.specs.declared.reading.Standing.{Standing}
use Rattle.path_calls.specs.declared.walk.Goal.{Goal}
use Rattle.path_calls.specs.declared.walk.Goal.TheVariants as goal
use Rattle.path_calls.specs.declared.walk.Pages.{Pages}
use Rattle.path_calls.specs.declared.walk.Walk.{Walk}
use Rattle.path_calls.specs.Walk.{no_pages, arrives, begun}
use Rattle.path_calls.specs.Told.{with_page}
use Rattle.xdr_codec.specs.declared.handle.TheConstants.{ROOT}
use Rattle.trace_replay.specs.Trail.{Moment, step_of}
use Rattle.trace_replay.specs.Book.{Book}
use Rattle.trace_replay.specs.Naming.{tree_at, Leads, all_names}
use Rattle.server_law.proofs.lemmas.Trees.{IsGiven, below_next}
use Rattle.server_law.proofs.lemmas.TreeCalls.{ok_is}
use Rattle.kept_promise.proofs.TreeDirs.{version_in, version_of, names_in, directory_version, IsDirSince}
use Rattle.kept_promise.proofs.TreeNames.{AreDirsLater}
use Rattle.kept_promise.proofs.TreeTold.{IsPage, pages_on}

-- ---- lists

more_then : {A : Type 0} (xs : List A) (n : A) (ns : List A) → xs ++ (n ∷ ns) ≡ (xs ++ (n ∷ [])) ++ ns
more_then [] n ns = refl
more_then (x ∷ xs) n ns = ap (λ l. x ∷ l) (more_then xs n ns)

then_none : {A : Type 0} (xs : List A) → xs ++ [] ≡ xs
then_none [] = refl
then_none (x ∷ xs) = ap (λ l. x ∷ l) (then_none xs)

-- ---- paths

-- one name more
pub leads_more : (book : Book) (from dir : ℕ) (ns : List (List ℕ)) (id step : ℕ) (n : List ℕ) (m : Moment) (s : Standing) → Leads book from dir ns id step → Contains book.moments m → step ≤ step_of m → stands_for (tree_at m).nodes id n ≡ Some s → Leads book from dir (ns ++ n ∷ []) s.id (step_of m)
leads_more book from dir [] id step n m s h there le at = let same = h.1 in (m, s, there, omega (arith, same, le), ap (λ (i : ℕ). stands_for (tree_at m).nodes i n) (sym h.0) ∙ at, (refl, refl))
leads_more book from dir (x ∷ ns) id step n m s h there le at = (h.0, h.1, h.2, h.3, h.4, leads_more book (step_of h.0) h.1.id ns id step n m s h.5 there le at)

pub leads_past : (book : Book) (from dir : ℕ) (ns : List (List ℕ)) (id step : ℕ) → Leads book from dir ns id step → from ≤ step
leads_past book from dir [] id step h = let same = h.1 in omega (arith, same)
leads_past book from dir (x ∷ ns) id step h = let le = h.3 in let later = leads_past book (step_of h.0) h.1.id ns id step h.5 in omega (arith, le, later)

-- ---- as far as the names of a path go

-- the names before those that are left led to its directory
abbrev pub IsReached : Book → (from : ℕ) → (whole : List (List ℕ)) → Walk → (step : ℕ) → Type 0
IsReached book from whole w step = (done : List (List ℕ)) × (whole ≡ done ++ w.left) × Leads book from ROOT done w.dir step

pub reached_all : (book : Book) (from : ℕ) (whole : List (List ℕ)) (w : Walk) (step : ℕ) → IsReached book from whole w step → w.left ≡ [] → Leads book from ROOT whole w.dir step
reached_all book from whole w step h left =
    let same : whole ≡ h.0 = h.1 ∙ ap (λ (l : List (List ℕ)). h.0 ++ l) left ∙ then_none h.0 in
    subst (λ (l : List (List ℕ)). Leads book from ROOT l w.dir step) (sym same) h.2

abbrev pub is_from : Goal → Bool
is_from (goal.RenameFrom name to) = true
is_from g = false

arrives_else : (id : ℕ) (ns : List (List ℕ)) (g : Goal) → is_from g ≡ false → arrives id ns g ≡ record { dir = id; left = ns; goal = g }
arrives_else id [] (goal.RenameFrom name to) e = absurd cc
arrives_else id _ _ e = refl

-- a step down
reaches_on : (book : Book) (from : ℕ) (whole : List (List ℕ)) (w : Walk) (step : ℕ) (n : List ℕ) (ns : List (List ℕ)) (m : Moment) (s : Standing) → IsReached book from whole w step → w.left ≡ n ∷ ns → Contains book.moments m → step ≤ step_of m → stands_for (tree_at m).nodes w.dir n ≡ Some s → (done : List (List ℕ)) × (whole ≡ done ++ ns) × Leads book from ROOT done s.id (step_of m)
reaches_on book from whole w step n ns m s h left there le at = (h.0 ++ n ∷ [], h.1 ∙ ap (λ (l : List (List ℕ)). h.0 ++ l) left ∙ more_then h.0 n ns, leads_more book from ROOT h.0 w.dir step n m s h.2 there le at)

goes_on : (book : Book) (from : ℕ) (whole : List (List ℕ)) (g : Goal) (w : Walk) (step : ℕ) (n : List ℕ) (ns : List (List ℕ)) (m : Moment) (s : Standing) → is_from g ≡ false → IsReached book from whole w step → w.goal ≡ g → w.left ≡ n ∷ ns → Contains book.moments m → step ≤ step_of m → stands_for (tree_at m).nodes w.dir n ≡ Some s → IsReached book from whole (arrives s.id ns w.goal) (step_of m) × ((arrives s.id ns w.goal).goal ≡ g)
goes_on book from whole g w step n ns m s other h aim left there le at =
    let is : arrives s.id ns w.goal ≡ record { dir = s.id; left = ns; goal = g } = ap (arrives s.id ns) aim ∙ arrives_else s.id ns g other in
    subst (λ (v : Walk). IsReached book from whole v (step_of m) × (v.goal ≡ g)) (sym is) (reaches_on book from whole w step n ns m s h left there le at, refl)

-- ---- pages

-- the names that came are the first of those that the directory had at a moment
pub record HasPages (book : Book) (dir from now : ℕ) (p : Pages) : Type 0 where
  pub moment : Moment
  pub there : Contains book.moments moment
  pub after : from ≤ step_of moment
  pub before : step_of moment ≤ now
  pub node : Node
  pub directory : directory_of (tree_at moment).nodes dir ≡ Ok node
  pub verifier_is : p.verifier ≡ node.version
  pub names_are : p.names ≡ take p.cookie (names_in (tree_at moment).nodes dir)

-- of the moments of a book up to one: ids were given once then, and directories that are there since have their names, or a later version
abbrev pub IsPast : Book → Moment → Type 0
IsPast book m = (e : Moment) → Contains book.moments e → step_of e ≤ step_of m → IsGiven (tree_at e) × AreDirsLater (tree_at e) (tree_at m)

directory_is : (nodes : List Node) (dir : ℕ) (d : Node) → directory_of nodes dir ≡ Ok d → (with_id nodes dir ≡ Some d) × (directory_version nodes dir ≡ Some d.version)
directory_is nodes dir d e = by (with_id nodes dir) refl e
  where
    of_body : (n : Node) (b : Body) → with_id nodes dir ≡ Some n → n.body ≡ b → (let r : Result Node Status = if is_directory b then Ok n else Err status.NotDir in r ≡ Ok d) → (with_id nodes dir ≡ Some d) × (directory_version nodes dir ≡ Some d.version)
    of_body n Directory at is same =
        let own = ok_is n d same in
        (at ∙ ap Some own, ap version_of at ∙ ap (version_in n) is ∙ ap (λ (z : Node). Some z.version) own)
    of_body n (File c) at is same = absurd cc

    by : (o : Option Node) → with_id nodes dir ≡ o → (or_stale o >>= directory_or status.NotDir) ≡ Ok d → (with_id nodes dir ≡ Some d) × (directory_version nodes dir ≡ Some d.version)
    by None at same = absurd cc
    by (Some n) at same = of_body n n.body at refl same

-- one directory version has one list of names
same_names : (a b : Tree) (dir : ℕ) (d e : Node) → IsGiven a → AreDirsLater a b → directory_of a.nodes dir ≡ Ok d → directory_of b.nodes dir ≡ Ok e → d.version ≡ e.version → names_in a.nodes dir ≡ names_in b.nodes dir
same_names a b dir d e given later at there same =
    let x = directory_is a.nodes dir d at in
    let y = directory_is b.nodes dir e there in
    let since = subst (λ (o : Option ℕ). IsDirSince o (directory_version b.nodes dir) (names_in a.nodes dir) (names_in b.nodes dir)) x.1 (later.each dir (below_next a dir d given x.0)) in
    by (subst (λ (o : Option ℕ). IsDirSince (Some d.version) o (names_in a.nodes dir) (names_in b.nodes dir)) y.1 since)
  where
    by : (d.version < e.version) ⊎ ((d.version ≡ e.version) × (names_in a.nodes dir ≡ names_in b.nodes dir)) → names_in a.nodes dir ≡ names_in b.nodes dir
    by (inl less) = absurd (omega (arith, less, same))
    by (inr h) = h.1

-- one page more
pub page_comes : (book : Book) (dir from now : ℕ) (p : Pages) (m : Moment) (x : Listing) → ((p.cookie ≡ 0) × (p.names ≡ [])) ⊎ HasPages book dir from now p → IsPast book m → Contains book.moments m → from ≤ now → now ≤ step_of m → IsPage (tree_at m).nodes dir p.cookie p.verifier x
    → HasPages book dir from (step_of m) (with_page p x) × (x.eof ≡ true → (with_page p x).names ≡ names_in (tree_at m).nodes dir)
page_comes book dir from now p m x so_far past there after le page =
    let on = pages_on (tree_at m).nodes dir p x page (first so_far) in
    (record { moment = m; there = there; after = omega (arith, after, le); before = omega arith; node = page.node; directory = page.directory; verifier_is = page.verifier_is; names_are = on.0 }, on.1)
  where
    none : (names : List (List ℕ)) → p.cookie ≡ 0 → names ≡ [] → names ≡ take p.cookie (names_in (tree_at m).nodes dir)
    none names zero_is is = is ∙ sym (ap (λ (n : ℕ). take n (names_in (tree_at m).nodes dir)) zero_is)

    seen : (h : HasPages book dir from now p) → (p.cookie ≡ 0) ⊎ (p.verifier ≡ page.node.version) → p.names ≡ take p.cookie (names_in (tree_at m).nodes dir)
    seen h (inl zero_is) = none p.names zero_is (h.names_are ∙ ap (λ (n : ℕ). take n (names_in (tree_at h.moment).nodes dir)) zero_is)
    seen h (inr same) =
        let before = h.before in
        let old = past h.moment h.there (omega (arith, before, le)) in
        h.names_are ∙ ap (take p.cookie) (same_names (tree_at h.moment) (tree_at m) dir h.node page.node old.0 old.1 h.directory page.directory (sym h.verifier_is ∙ same))

    first : ((p.cookie ≡ 0) × (p.names ≡ [])) ⊎ HasPages book dir from now p → p.names ≡ take p.cookie (names_in (tree_at m).nodes dir)
    first (inl h) = none p.names h.0 h.1
    first (inr h) = seen h page.same

-- ---- a walk

abbrev pub HasGoal : Book → (from : ℕ) → (whole : List (List ℕ)) → Goal → Walk → (step : ℕ) → Type 0
HasGoal book from whole g w step = IsReached book from whole w step × (w.goal ≡ g)

-- a listing: the directory was found at a step, and since then pages came
pub record HasList (book : Book) (begin : ℕ) (whole : List (List ℕ)) (w : Walk) (step : ℕ) : Type 0 where
  pub found_at : ℕ
  pub reached : IsReached book begin whole w found_at
  pub before : found_at ≤ step
  pub pages : Pages
  pub goal_is : w.goal ≡ goal.List pages
  pub so_far : ((pages.cookie ≡ 0) × (pages.names ≡ [])) ⊎ ((w.left ≡ []) × HasPages book w.dir found_at step pages)

-- a rename: names of the first path are left; or that led to a directory, and the walk is on the second
pub record IsFirst (book : Book) (begin : ℕ) (s t : Spot) (w : Walk) (step : ℕ) : Type 0 where
  pub next : List ℕ
  pub others : List (List ℕ)
  pub left_is : w.left ≡ next ∷ others
  pub has : HasGoal book begin s.dirs (goal.RenameFrom s.name t) w step

pub record IsSecond (book : Book) (begin : ℕ) (s t : Spot) (w : Walk) (step : ℕ) : Type 0 where
  pub dir : ℕ
  pub found_at : ℕ
  pub found : Leads book begin ROOT s.dirs dir found_at
  pub has : HasGoal book found_at t.dirs (goal.RenameTo dir s.name t.name) w step

-- the walk of a command that began at this step, as far as it was at that
abbrev pub HasWalk : Book → (begin : ℕ) → PathCommand → Walk → (step : ℕ) → Type 0
HasWalk book begin (path.Find s) w step = HasGoal book begin s.dirs (goal.Find s.name) w step
HasWalk book begin (path.Rewrite s) w step = HasGoal book begin s.dirs (goal.Rewrite s.name) w step
HasWalk book begin (path.Look s) w step = HasGoal book begin s.dirs (goal.Look s.name) w step
HasWalk book begin path.LookRoot w step = HasGoal book begin [] goal.LookRoot w step
HasWalk book begin (path.List p) w step = HasList book begin p w step
HasWalk book begin (path.Make s) w step = HasGoal book begin s.dirs (goal.Make s.name) w step
HasWalk book begin (path.MakeDir s) w step = HasGoal book begin s.dirs (goal.MakeDir s.name) w step
HasWalk book begin (path.Remove s) w step = HasGoal book begin s.dirs (goal.Remove s.name) w step
HasWalk book begin (path.RemoveDir s) w step = HasGoal book begin s.dirs (goal.RemoveDir s.name) w step
HasWalk book begin (path.Rename s t) w step = IsFirst book begin s t w step ⊎ IsSecond book begin s t w step

-- it begins at the root
pub walk_begins : (book : Book) (begin : ℕ) (k : PathCommand) → HasWalk book begin k (begun k) begin
walk_begins book begin (path.List p) = record { found_at = begin; reached = ([], refl, (refl, refl)); before = omega arith; pages = no_pages; goal_is = refl; so_far = inl (refl, refl) }
walk_begins book begin (path.Rename s t) = by s.dirs refl
  where
    by : (ns : List (List ℕ)) → s.dirs ≡ ns → IsFirst book begin s t (arrives ROOT ns (goal.RenameFrom s.name t)) begin ⊎ IsSecond book begin s t (arrives ROOT ns (goal.RenameFrom s.name t)) begin
    by [] e = inr (record { dir = ROOT; found_at = begin; found = subst (λ (l : List (List ℕ)). Leads book begin ROOT l ROOT begin) (sym e) (refl, refl); has = (([], refl, (refl, refl)), refl) })
    by (n ∷ ns) e = inl (record { next = n; others = ns; left_is = refl; has = (([], e, (refl, refl)), refl) })
walk_begins book begin _ = (([], refl, (refl, refl)), refl)

-- a name stood for a node, and it goes on there
pub walk_goes : (book : Book) (begin : ℕ) (k : PathCommand) (w : Walk) (step : ℕ) (n : List ℕ) (ns : List (List ℕ)) (m : Moment) (s : Standing) → HasWalk book begin k w step → w.left ≡ n ∷ ns → Contains book.moments m → step ≤ step_of m → stands_for (tree_at m).nodes w.dir n ≡ Some s → HasWalk book begin k (arrives s.id ns w.goal) (step_of m)
walk_goes book begin (path.Find x) w step n ns m s h left there le at = goes_on book begin x.dirs (goal.Find x.name) w step n ns m s refl h.0 h.1 left there le at
walk_goes book begin (path.Rewrite x) w step n ns m s h left there le at = goes_on book begin x.dirs (goal.Rewrite x.name) w step n ns m s refl h.0 h.1 left there le at
walk_goes book begin (path.Look x) w step n ns m s h left there le at = goes_on book begin x.dirs (goal.Look x.name) w step n ns m s refl h.0 h.1 left there le at
walk_goes book begin path.LookRoot w step n ns m s h left there le at = goes_on book begin [] goal.LookRoot w step n ns m s refl h.0 h.1 left there le at
walk_goes book begin (path.Make x) w step n ns m s h left there le at = goes_on book begin x.dirs (goal.Make x.name) w step n ns m s refl h.0 h.1 left there le at
walk_goes book begin (path.MakeDir x) w step n ns m s h left there le at = goes_on book begin x.dirs (goal.MakeDir x.name) w step n ns m s refl h.0 h.1 left there le at
walk_goes book begin (path.Remove x) w step n ns m s h left there le at = goes_on book begin x.dirs (goal.Remove x.name) w step n ns m s refl h.0 h.1 left there le at
walk_goes book begin (path.RemoveDir x) w step n ns m s h left there le at = goes_on book begin x.dirs (goal.RemoveDir x.name) w step n ns m s refl h.0 h.1 left there le at
walk_goes book begin (path.List p) w step n ns m s h left there le at =
    let before = h.before in
    let on = goes_on book begin p (goal.List h.pages) w h.found_at n ns m s refl h.reached h.goal_is left there (omega (arith, before, le)) at in
    record { found_at = step_of m; reached = on.0; before = omega arith; pages = h.pages; goal_is = on.1; so_far = inl (none h.so_far) }
  where
    none : ((h.pages.cookie ≡ 0) × (h.pages.names ≡ [])) ⊎ ((w.left ≡ []) × HasPages book w.dir h.found_at step h.pages) → (h.pages.cookie ≡ 0) × (h.pages.names ≡ [])
    none (inl x) = x
    none (inr x) = absurd (no (sym x.0 ∙ left))
      where
        no : ◌≡◌ {A = List (List ℕ)} [] (n ∷ ns) → ⊥
        no e = absurd cc
walk_goes book begin (path.Rename x y) w step n ns m s (inl h) left there le at = by ns refl (reaches_on book begin x.dirs w step n ns m s h.has.0 left there le at)
  where
    by : (l : List (List ℕ)) → ns ≡ l → ((done : List (List ℕ)) × (x.dirs ≡ done ++ ns) × Leads book begin ROOT done s.id (step_of m)) → IsFirst book begin x y (arrives s.id ns w.goal) (step_of m) ⊎ IsSecond book begin x y (arrives s.id ns w.goal) (step_of m)
    by [] e d =
        let is : arrives s.id ns w.goal ≡ record { dir = ROOT; left = y.dirs; goal = goal.RenameTo s.id x.name y.name } = ap (λ (l : List (List ℕ)). arrives s.id l w.goal) e ∙ ap (arrives s.id []) h.has.1 in
        let whole : x.dirs ≡ d.0 = d.1 ∙ ap (λ (l : List (List ℕ)). d.0 ++ l) e ∙ then_none d.0 in
        inr (subst (λ (v : Walk). IsSecond book begin x y v (step_of m)) (sym is) (record { dir = s.id; found_at = step_of m; found = subst (λ (l : List (List ℕ)). Leads book begin ROOT l s.id (step_of m)) (sym whole) d.2; has = (([], refl, (refl, refl)), refl) }))
    by (o ∷ os) e d =
        let is : arrives s.id ns w.goal ≡ record { dir = s.id; left = o ∷ os; goal = goal.RenameFrom x.name y } = ap (λ (l : List (List ℕ)). arrives s.id l w.goal) e ∙ ap (arrives s.id (o ∷ os)) h.has.1 in
        inl (subst (λ (v : Walk). IsFirst book begin x y v (step_of m)) (sym is) (record { next = o; others = os; left_is = refl; has = ((d.0, d.1 ∙ ap (λ (l : List (List ℕ)). d.0 ++ l) e, d.2), refl) }))
walk_goes book begin (path.Rename x y) w step n ns m s (inr h) left there le at = inr (record { dir = h.dir; found_at = h.found_at; found = h.found; has = goes_on book h.found_at y.dirs (goal.RenameTo h.dir x.name y.name) w step n ns m s refl h.has.0 h.has.1 left there le at })

-- the last name of an open's path, or a rewrite's, stood for a file
pub walk_finds : (book : Book) (begin : ℕ) (x : Spot) (g : Goal) (w : Walk) (step : ℕ) (m : Moment) (s : Standing) → HasGoal book begin x.dirs g w step → w.left ≡ [] → Contains book.moments m → step ≤ step_of m → stands_for (tree_at m).nodes w.dir x.name ≡ Some s → Leads book begin ROOT (all_names x) s.id (step_of m)
walk_finds book begin x g w step m s h left there le at = leads_more book begin ROOT x.dirs w.dir step x.name m s (reached_all book begin x.dirs w step h.0 left) there le at

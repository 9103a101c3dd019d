-- What the answer of a tree within the limits makes of a walk: it goes on with fewer calls left, it has found a file, or it ends; it is never taken for a fault.
use Rattle.std.proofs.Common.{if◌then◌else◌, ◌≡◌, inl, inr, ℕ, ◌+◌, ◌-◌, ◌<◌, ◌≤◌, List, [], ◌∷◌, length, drop, Some, Bool, true, false, not, ◌==◌, ◌&&◌, refl, sym, ap, ◌∙◌, subst, arith, None, Option}
use Rattle.std.specs.Prelude.{nat_le}
use Rattle.std.proofs.lemmas.Bool.Decides.{nat_tests}
use Rattle.nfs3_calls.specs.declared.listing.Entry.{Entry}
use Rattle.nfs3_calls.specs.declared.listing.Listing.{Listing}
use Rattle.nfs3_calls.specs.declared.message.Nfs.{Nfs}
use Rattle.tree_nodes.specs.Nodes.{names}
use Rattle.tree_reading.specs.Tree.{Tree}
use Rattle.tree_reading.specs.Reading.{entry_size, page as page_of}
use Rattle.tree_nodes.specs.declared.node.Node.{Node}
use Rattle.tree_calls.specs.Telling.{told as told_by}
use Rattle.path_calls.specs.declared.answers.Ended.{Ended}
use Rattle.path_calls.specs.declared.answers.Ended.TheVariants as ended
use Rattle.path_calls.specs.declared.answers.Told.{Told}
use Rattle.path_calls.specs.declared.answers.Told.TheVariants as told
use Rattle.path_calls.specs.declared.walk.Goal.{Goal}
use Rattle.path_calls.specs.declared.walk.Goal.TheVariants as goal
use Rattle.path_calls.specs.declared.walk.Pages.{Pages}
use Rattle.path_calls.specs.declared.walk.Walk.{Walk}
use Rattle.path_calls.specs.Walk.{pages_most, arrives, goal_left, next_call, goal_call, call_at}
use Rattle.path_calls.specs.Told.{last_cookie, with_page, asks_page, more_pages, lists_on, walk_told}
use Rattle.register_model.specs.declared.op.Word.TheVariants as words
use Rattle.tree_reading.proofs.lemmas.Found.{id_bounded}
use Rattle.file_tree.proofs.lemmas.Limits.{bounds}
use Rattle.server_law.proofs.lemmas.Trees.{nodes_of, IsBounded}
use Rattle.kept_promise.proofs.PathNames.{AreNames, IsGoalNamed, IsAsking, IsAhead, IsWalkSmall, arrives_named, arrives_ahead, open_calls, walk_calls, is_making, makes_later, makes_at}
use Rattle.kept_promise.proofs.TreeTold.{IsPage}
use Rattle.kept_promise.proofs.TreeWalks.{looks_down, finds_file, rewrites_file, sees_name, sees_root, lists_page}
use Rattle.kept_promise.proofs.NamesSpelled.{few_names, drop_few, directory_there}
use Rattle.kept_promise.proofs.Messages.{goal_word, Job, WalkCame}
use Rattle.kept_promise.proofs.MakingGoals.{changes_later}
use Rattle.register_model.specs.Register.{changes}
use Rattle.kept_promise.proofs.Lists.{nothing_there}
use Rattle.kept_promise.proofs.Common.{Book, Moment, Op}
use Rattle.trace_replay.specs.Naming.{tree_at}

-- only a look sees, only a list lists or gives up, and only what makes, removes or renames something is done
abbrev pub EndsFor : Walk → Ended → Type 0
EndsFor w (ended.Names ns) = goal_word w.goal ≡ words.List
EndsFor w (ended.Seen id kind version len) = goal_word w.goal ≡ words.Look
EndsFor w ended.Done = is_making w ≡ true
EndsFor w ended.NoLink = goal_word w.goal ≡ words.List
EndsFor w e = Unit {0}

-- what comes of an answer to this walk's next call
pub data WalkStep (w : Walk) (r : Told) : Type 0 where
  over : (e : Ended) → r ≡ told.Ends e → EndsFor w e → WalkStep w r
  asks : (v : Walk) → r ≡ told.Asks v → IsWalkSmall v → walk_calls v + 1 ≤ walk_calls w → goal_word v.goal ≡ goal_word w.goal → (changes (goal_word v.goal) ≡ true → makes_later w.left w.goal ≡ true) → WalkStep w r
  file : (id : ℕ) → r ≡ told.Finds id → id < 18446744073709551616 → goal_word w.goal ≡ words.Open → 380002 ≤ walk_calls w → WalkStep w r
  anew : (id : ℕ) → r ≡ told.Rewrites id → id < 18446744073709551616 → goal_word w.goal ≡ words.Rewrite → 1 ≤ walk_calls w → WalkStep w r

-- where a name leads to a directory, all is as it was, and one call fewer is left
arrives_dir : (id : ℕ) (ns : List (List ℕ)) (g : Goal) → id < 18446744073709551616 → (arrives id ns g).dir < 18446744073709551616
arrives_dir id [] (goal.RenameFrom n to) small = omega arith
arrives_dir id _ _ small = small

arrives_asking : (id : ℕ) (ns : List (List ℕ)) (g : Goal) → id < 18446744073709551616 → IsAsking g → IsAsking (arrives id ns g).goal
arrives_asking id [] (goal.RenameFrom n to) small h = small
arrives_asking id _ _ small h = h

arrives_small : (id : ℕ) (ns : List (List ℕ)) (g : Goal) → id < 18446744073709551616 → AreNames ns → IsGoalNamed g → IsAsking g → IsWalkSmall (arrives id ns g)
arrives_small id ns g small names aim asking = record { dir = arrives_dir id ns g small; named = arrives_named id ns g names aim; asking = arrives_asking id ns g small asking; ahead = arrives_ahead id ns g }

arrives_calls : (id : ℕ) (ns : List (List ℕ)) (g : Goal) → walk_calls (arrives id ns g) ≡ length ns + goal_left g + open_calls g
arrives_calls id [] (goal.RenameFrom n to) = omega arith
arrives_calls id _ _ = refl

arrives_word : (id : ℕ) (ns : List (List ℕ)) (g : Goal) → goal_word (arrives id ns g).goal ≡ goal_word g
arrives_word id (n ∷ ns) g = refl
arrives_word id [] (goal.RenameFrom n to) = refl
arrives_word id _ _ = refl

-- the last entry of a page comes no further than the names do
last_page : (ns : List Node) (room cookie : ℕ) → last_cookie cookie (page_of room cookie ns) ≤ cookie + length ns
last_page [] room cookie = omega arith
last_page (n ∷ ns) room cookie = by (nat_le (entry_size n.name) room) (last_page ns (room - entry_size n.name) (cookie + 1))
  where
    by : (b : Bool) → last_cookie (cookie + 1) (page_of (room - entry_size n.name) (cookie + 1) ns) ≤ cookie + 1 + length ns → last_cookie cookie (if b then record { fileid = n.id; name = n.name; cookie = cookie + 1 } ∷ page_of (room - entry_size n.name) (cookie + 1) ns else []) ≤ cookie + length (n ∷ ns)
    by true later = omega (arith, later)
    by false later = omega arith

-- a page of a directory leads to a number that has a spelling
page_small : (t : Tree) (dir : ℕ) (p : Pages) (x : Listing) → IsBounded t → IsPage t.nodes dir p.cookie p.verifier x → IsAsking (goal.List (with_page p x))
page_small t dir p x b page =
    let left = drop p.cookie (names t.nodes dir) in
    let last = last_page left page.room p.cookie in
    let is = ap (last_cookie p.cookie) page.entries_are in
    let few = few_names t dir b in
    let whole = drop_few p.cookie (names t.nodes dir) page.within in
    let node = id_bounded (nodes_of t) t.changes dir page.node (bounds (nodes_of t) t.changes b) (directory_there t.nodes dir page.node page.directory) in
    let version = node.version in
    let count = b.count in
    let same = page.verifier_is in
    (omega (arith, last, is, few, whole), omega (arith, version, count, same))

-- a page that isn't the last has an entry
page_full : (t : Tree) (dir : ℕ) (p : Pages) (x : Listing) → IsPage t.nodes dir p.cookie p.verifier x → x.eof ≡ false → x.entries ≡ [] → ⊥
page_full t dir p x page last none =
    let count : length x.entries ≡ 0 = ap (λ (l : List Entry). length l) none in
    empty (length x.entries) (length (drop p.cookie (names t.nodes dir))) count (sym page.eof_is ∙ last) page.more
  where
    empty : (a b : ℕ) → a ≡ 0 → (a == b) ≡ false → (not (b == 0) && (a == 0)) ≡ false → ⊥
    empty a b zero_is other some = grind (arith, nat_tests, zero_is, other, some)

module _ (t : Tree) (w : Walk) (a : Nfs) (b : IsBounded t) (small : IsWalkSmall w) (is : told_by t.nodes (next_call w) ≡ Some a) where
  down : (n : List ℕ) (ns : List (List ℕ)) → w.left ≡ n ∷ ns → WalkStep w (walk_told w a)
  down n ns left = elim (looks_down t w n ns a b small.dir (subst AreNames left small.named.0).0.0.0 left is) [
    | inl f ↦ over (ended.Refused f.0) f.2 tt
    | inr s ↦
        let v : Walk = arrives s.0.id ns w.goal in
        let fewer : length w.left ≡ length (n ∷ ns) = ap (λ (l : List (List ℕ)). length l) left in
        let all = subst AreNames left small.named.0 in
        let few = all.1 in
        let calls = arrives_calls s.0.id ns w.goal in
        asks v s.2 (arrives_small s.0.id ns w.goal s.3 (all.0.1, omega (arith, few)) small.named.1 small.asking) (omega (arith, fewer, calls)) (arrives_word s.0.id ns w.goal) (λ may. ap (λ (l : List (List ℕ)). makes_later l w.goal) left ∙ changes_later n ns w.goal (sym (ap changes (arrives_word s.0.id ns w.goal)) ∙ may))
  ]

  page : (p : Pages) (x : Listing) → w.left ≡ [] → w.goal ≡ goal.List p → IsPage t.nodes w.dir p.cookie p.verifier x → walk_told w a ≡ lists_on w.dir (with_page p x) x.entries x.eof → WalkStep w (walk_told w a)
  page p x left aim of same = by x.eof refl x.entries refl
    where
      on : (e : Entry) (es : List Entry) (c : Bool) → nat_le pages_most (p.count + 1) ≡ c → walk_told w a ≡ asks_page w.dir (with_page p x) c → WalkStep w (walk_told w a)
      on e es true most is = over ended.NoLink is (ap goal_word aim)
      on e es false most is =
          let less : p.count + 1 < 900000 = grind (arith, nat_tests, most) in
          let next = page_small t w.dir p x b of in
          let calls : walk_calls w ≡ 0 + (900000 - p.count) + 0 = ap (λ (l : List (List ℕ)). length l + goal_left w.goal + open_calls w.goal) left ∙ ap (λ (g : Goal). 0 + goal_left g + open_calls g) aim in
          asks (record { dir = w.dir; left = []; goal = goal.List (record (with_page p x) { count = p.count + 1 }) }) is (record { dir = small.dir; named = ((tt, omega arith), tt); asking = next; ahead = tt }) (omega (arith, less, calls)) (sym (ap goal_word aim)) (λ make. absurd cc)

      by : (c : Bool) → x.eof ≡ c → (l : List Entry) → x.entries ≡ l → WalkStep w (walk_told w a)
      by true last l entries = over (ended.Names (with_page p x).names) (same ∙ ap (lists_on w.dir (with_page p x) x.entries) last) (ap goal_word aim)
      by false more [] entries = absurd (page_full t w.dir p x of more entries)
      by false more (e ∷ es) entries = on e es (nat_le pages_most (p.count + 1)) refl (same ∙ ap (lists_on w.dir (with_page p x) x.entries) more ∙ ap (more_pages w.dir (with_page p x)) entries)

  -- a call that makes, removes or renames something is told nothing
  silent : (g : Goal) → w.left ≡ [] → w.goal ≡ g → told_by t.nodes (goal_call w.dir g) ≡ None → ⊥
  silent g left aim none = nothing_there a (sym none ∙ sym (ap (λ (z : Goal). told_by t.nodes (goal_call w.dir z)) aim) ∙ sym (ap (λ (l : List (List ℕ)). told_by t.nodes (call_at w.dir l w.goal)) left) ∙ is)

  last : (g : Goal) → w.goal ≡ g → IsAhead [] g → IsGoalNamed g → w.left ≡ [] → WalkStep w (walk_told w a)
  last (goal.Find n) aim ahead named left = elim (finds_file t w n a b small.dir named.0 left aim is) [
    | inl f ↦ over (ended.Refused f.0) f.2 tt
    | inr s ↦
        let calls : walk_calls w ≡ length w.left + 0 + 380002 = ap (λ (g : Goal). length w.left + goal_left g + open_calls g) aim in
        file s.0.id s.2 s.3 (ap goal_word aim) (omega (arith, calls))
  ]
  last (goal.Rewrite n) aim ahead named left = elim (rewrites_file t w n a b small.dir named.0 left aim is) [
    | inl f ↦ over (ended.Refused f.0) f.2 tt
    | inr s ↦
        let calls : walk_calls w ≡ length w.left + 0 + 1 = ap (λ (g : Goal). length w.left + goal_left g + open_calls g) aim in
        anew s.0.id s.2 s.3 (ap goal_word aim) (omega (arith, calls))
  ]
  last (goal.Look n) aim ahead named left = elim (sees_name t w n a b small.dir named.0 left aim is) [
    | inl f ↦ over (ended.Refused f.0) f.2 tt
    | inr s ↦ over _ s.2 (ap goal_word aim)
  ]
  last goal.LookRoot aim ahead named left = elim (sees_root t w a b small.dir left aim is) [
    | inl f ↦ over (ended.Refused f.0) f.2 tt
    | inr s ↦ over _ s.3 (ap goal_word aim)
  ]
  last (goal.List p) aim ahead named left = elim (lists_page t w p a small.dir left aim is) [
    | inl f ↦ over (ended.Refused f.0) f.2 tt
    | inr s ↦ page p s.0 left aim s.1 s.2
  ]
  last (goal.RenameFrom n to) aim ahead named left = absurd ahead
  last e aim ahead named left = absurd (silent e left aim refl)

  pub walk_sound : WalkStep w (walk_told w a)
  walk_sound = by w.left refl
    where
      by : (l : List (List ℕ)) → w.left ≡ l → WalkStep w (walk_told w a)
      by [] left = last w.goal refl (subst (λ (l : List (List ℕ)). IsAhead l w.goal) left small.ahead) small.named.1 left
      by (n ∷ ns) left = down n ns left

-- ---- whatever came of its call

pub came_sound : (book : Book) (at : Moment) (moment : ℕ) (closing : Option ℕ) (j : Job) (o : Op) (w : Walk) (a : Nfs) → IsBounded (tree_at at) → IsWalkSmall w → WalkCame book at moment closing j o w a → WalkStep w (walk_told w a)
came_sound book at moment closing j o w a b small (inl tells) = walk_sound (tree_at at) w a b small tells.0
came_sound book at moment closing j o w a b small (inr (inl refuses)) = over (ended.Refused refuses.why) refuses.leads tt
came_sound book at moment closing j o w a b small (inr (inr makes)) = over ended.Done makes.leads makes.making

-- what makes, removes or renames something isn't told
pub untold_making : (nodes : List Node) (dir : ℕ) (left : List (List ℕ)) (g : Goal) (a : Nfs) → makes_at left g ≡ true → told_by nodes (call_at dir left g) ≡ Some a → ⊥
untold_making nodes dir [] (goal.Make n) a e is = nothing_there a is
untold_making nodes dir [] (goal.MakeDir n) a e is = nothing_there a is
untold_making nodes dir [] (goal.Remove n) a e is = nothing_there a is
untold_making nodes dir [] (goal.RemoveDir n) a e is = nothing_there a is
untold_making nodes dir [] (goal.RenameTo from n to) a e is = nothing_there a is
untold_making nodes dir left g a e is = absurd cc

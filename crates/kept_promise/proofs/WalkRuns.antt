-- How far each command on names under way has come, by what its names led to; and what each that ended was told.
use Rattle.std.proofs.Common.{◌⊎◌, inl, inr, ◌≡◌, ℕ, ◌<◌, ◌≤◌, List, [], ◌∷◌, ◌++◌, length, Option, Some, None, Result, Ok, Bool, true, false, eq-eqb, refl, sym, ap, ◌∙◌, subst, arith}
use Rattle.std.specs.Option.{option_map}
use Rattle.xdr_codec.specs.Status.{status_number}
use Rattle.xdr_codec.specs.declared.status.Status.{Status}
use Rattle.xdr_codec.specs.declared.status.Status.TheVariants as statuses
use Rattle.trace_replay.specs.Causes.{look_up_point, HasNeither}
use Rattle.command_text.specs.declared.command.Command.TheVariants as command
use Rattle.command_text.specs.declared.path.PathCommand.{PathCommand}
use Rattle.command_text.specs.declared.path.PathCommand.TheVariants as path
use Rattle.command_text.specs.declared.path.Spot.{Spot}
use Rattle.nfs3_calls.specs.declared.message.Nfs.{Nfs}
use Rattle.wire.specs.declared.message.Body.TheVariants as body
use Rattle.wire.specs.declared.message.Message.TheVariants as message
use Rattle.path_calls.specs.Told.{walk_told}
use Rattle.path_calls.specs.declared.answers.Ended.TheVariants as walk_end
use Rattle.path_calls.specs.declared.answers.Told.{Told as Leading}
use Rattle.path_calls.specs.declared.answers.Told.TheVariants as leading
use Rattle.path_calls.specs.declared.walk.Goal.{Goal}
use Rattle.path_calls.specs.declared.walk.Walk.{Walk}
use Rattle.client_state.specs.declared.task.Stage.TheVariants as stage
use Rattle.client_state.specs.declared.step.Outcome.TheVariants as outcome
use Rattle.client_state.specs.State as client
use Rattle.client_cache.specs.Cache.{content_of, reserved}
use Rattle.client_cache.specs.declared.kept.Content.{Content}
use Rattle.client_state.specs.Ending.{is_open, forgets}
use Rattle.file_open.specs.Fetching.{asks_kept}
use Rattle.open_close.specs.Walking.{finding, finds_if, renews_if, is_look, walked}
use Rattle.register_model.specs.declared.op.Outcome.{Outcome as History}
use Rattle.register_model.specs.declared.op.Outcome.TheVariants as told
use Rattle.register_model.specs.declared.op.Word.TheVariants as words
use Rattle.trace_ends.specs.Commands.{path_word, word_of}
use Rattle.xdr_codec.specs.declared.handle.TheConstants.{ROOT}
use Rattle.xdr_codec.specs.declared.answer.Answer.TheVariants.{Failed}
use Rattle.nfs3_calls.specs.declared.message.Nfs.TheVariants as nfs
use Rattle.tree_reading.specs.Tree.{Tree}
use Rattle.file_tree.specs.Step.{create, mkdir, remove, rmdir, rename}
use Rattle.tree_reading.specs.declared.call.Changed.{Changed}
use Rattle.tree_reading.specs.declared.call.CreateMode.TheVariants as mode
use Rattle.tree_reading.specs.declared.call.Reservation.{Reservation}
use Rattle.tree_calls.specs.Telling.{told as told_by}
use Rattle.path_calls.specs.Walk.{next_call, call_at, goal_call, place, create_call, make_dir_call, rename_call}
use Rattle.server_core.specs.Closing.{entries_by}
use Rattle.path_calls.specs.declared.walk.Goal.TheVariants as goal
use Rattle.trace_replay.specs.Complete.{EndsNamed}
use Rattle.trace_replay.specs.Naming.{tree_at, Leads, IsInside, all_names, FindsFile, IsSeen, IsRootSeen, IsListed, IsRefused, refusal_of, entry_file, IsPointed, Makes, MakesIn, NameDone}
use Rattle.trace_replay.specs.OwnCalls.{TakesCall, ComesTo, held_at}
use Rattle.kept_promise.proofs.Tells.{waits_in}
use Rattle.kept_promise.proofs.Makings.{step_by}
use Rattle.kept_promise.proofs.MakingTrees.{IsNameGoal, names_file}
use Rattle.kept_promise.proofs.MakingGoals.{making_left, MakesGoal, making_goal, creates_makes, changes_owed}
use Rattle.kept_promise.proofs.WalkReplies.{making_untold}
use Rattle.kept_promise.proofs.Common.{slice_get, ◌||◌, ◌==◌, if◌then◌else◌, has_call, Contains, Command, ClientStep, Ended, Pending, Stage, Task, Op, TakenCall, op_after, Core, Seat, numbered, Moment, step_of, Deed, deeds_of, Book, taken_by, Body, took, Word, Event.Hears, point_if, has_point, changes}
use Rattle.kept_promise.proofs.Lists.{some_is, nothing_there}
use Rattle.kept_promise.proofs.Messages.{Job, job, goal_word, UnmadeBy, PointedBy, RefusesWalk, IsTakenFor, MakesWalk, WalkCame, WalkTold}
use Rattle.kept_promise.proofs.PathNames.{IsWalkSmall, is_making, is_creating, creates_at, makes_at, builds_at, makes_later}
use Rattle.kept_promise.proofs.StepCases.{IsOfFile, Cases, took_cases}
use Rattle.tree_reading.specs.Reading.{attr_of}
use Rattle.kept_promise.proofs.TreeDirs.{names_in}
use Rattle.file_open.specs.Caching.{fresh_content}
use Rattle.file_open.specs.Fetching.{finds_kept, opens_fresh}
use Rattle.file_open.specs.Rewriting.{asks_version, empties_kept, empties_fresh}
use Rattle.kept_promise.proofs.Walked.{HasWalk, reached_all}
use Rattle.kept_promise.proofs.WalkComes.{WalkEnds, WalkComes, walk_comes}
use Rattle.kept_promise.proofs.Goings.{RefusedAs}
use Rattle.kept_promise.proofs.WalkStatuses.{walk_refused, making_refused}
use Rattle.kept_promise.proofs.Alike.{AreInOrder}
use Rattle.kept_promise.proofs.Fetched.{IsFetched}
use Rattle.kept_promise.proofs.RefusedCalls.{tree_tells}

-- ---- what is said

-- a book that says of the past what its moments are
abbrev pub bare : List Moment → Book
bare all = record { lbfs = 0; opening = []; ops = []; raws = []; steps = 0; journal = []; entries = []; moments = all }

-- one that changes no file has none yet, and no point
abbrev pub IsBare : PathCommand → Op → Type 0
IsBare (path.Make s) o = Unit {0}
IsBare (path.Remove s) o = Unit {0}
IsBare (path.Rename s t) o = Unit {0}
IsBare k o = (o.file ≡ 0) × (o.point ≡ None)

-- it is to open the file that this path stands for, or to write it anew
abbrev pub GetsFile : PathCommand → Spot → Type 0
GetsFile c s = (c ≡ path.Find s) ⊎ (c ≡ path.Rewrite s)

-- an operation under way still walks; or its path led to its file, which it opens, or writes anew
abbrev pub OnWay : List Moment → PathCommand → Op → Stage → (now : ℕ) → Type 0
OnWay all c o (stage.Walking x w) now = (step : ℕ) × HasWalk (bare all) o.begin c w step × (step ≤ now) × IsBare c o × (o.word ≡ path_word c)
OnWay all c o st now = ((s : Spot) × GetsFile c s × ((step : ℕ) × Leads (bare all) o.begin ROOT (all_names s) o.file step × (step ≤ now))) × (o.point ≡ None) × (o.word ≡ path_word c)

abbrev pub IsOn : List Moment → Command → Op → Stage → (now : ℕ) → Type 0
IsOn all (command.Named c) o st now = OnWay all c o st now
IsOn all d o st now = IsOfFile st

-- what was refused in this step has no file and no point, but an open for which a directory was gone has a point
abbrev pub IsPointless : PathCommand → Op → (status step : ℕ) → Type 0
IsPointless (path.Find s) o status step = o.point ≡ look_up_point status step
IsPointless k o status step = HasNeither o

-- how one ended whose path led to no file: where it was refused, by a status that its command may have
abbrev pub EndsUnfound : List Moment → PathCommand → Op → History → Type 0
EndsUnfound all k o (told.Refused status) = (r : IsRefused (bare all) o status) × IsPointless k o status (step_of r.moment) × EndsNamed k (told.Refused status)
EndsUnfound all k o told.Lost = Unit {0}
EndsUnfound all k o told.Running = Unit {0}
EndsUnfound all k o u = ⊥

-- how one ended that asked the server: an open's path led to its file, or it has none, and so for a rewrite's
abbrev pub EndsAs : List Moment → PathCommand → Op → History → Type 0
EndsAs all (path.Find s) o u = (FindsFile (bare all) o s × (u ≡ told.AlreadyOpen → o.point ≡ None) × IsFetched words.Open u) ⊎ ((o.file ≡ 0) × EndsUnfound all (path.Find s) o u)
EndsAs all (path.Rewrite s) o u = (FindsFile (bare all) o s × IsFetched words.Rewrite u) ⊎ ((o.file ≡ 0) × EndsUnfound all (path.Rewrite s) o u)
EndsAs all (path.Look s) o (told.Seen id kind version len) = IsSeen (bare all) o s id kind version len × (o.file ≡ id) × (o.point ≡ None)
EndsAs all path.LookRoot o (told.Seen id kind version len) = IsRootSeen (bare all) o id kind version len × HasNeither o
EndsAs all (path.List p) o (told.Names list) = IsListed (bare all) o p list × HasNeither o
EndsAs all (path.List p) o told.NoLink = HasNeither o
-- the tree's own step was made
EndsAs all k o told.Done = NameDone (bare all) o k
EndsAs all k o u = EndsUnfound all k o u

-- ---- an answer comes to a walk

-- a command that opens a file
abbrev is_find : PathCommand → Bool
is_find (path.Find s) = true
is_find k = false

-- what becomes of its operation
pub record Onward (all : List Moment) (c : PathCommand) (r : client.State × ClientStep) (new : Op) (now : ℕ) : Type 0 where
  pub way : r.1.ended ≡ None → (u : Task) → r.0.task ≡ Some u → OnWay all c new u.stage now
  pub ends : (e : Ended) → r.1.ended ≡ Some e → EndsAs all c new new.outcome

none_some : {A : Type 0} (x : A) → {B : Type 0} → ◌≡◌ {A = Option A} None (Some x) → B
none_some x e = absurd cc

some_none : {A : Type 0} (x : A) → {B : Type 0} → ◌≡◌ {A = Option A} (Some x) None → B
some_none x e = absurd cc

bare_same : (k : PathCommand) (o r : Op) → r.file ≡ o.file → r.point ≡ o.point → IsBare k o → IsBare k r
bare_same (path.Make s) o r file point h = tt
bare_same (path.Remove s) o r file point h = tt
bare_same (path.Rename s t) o r file point h = tt
bare_same _ o r file point h = (file ∙ h.0, point ∙ h.1)

-- an answer that refuses leads to that
pub refused_leads : (w : Walk) (a : Nfs) (s : Status) → refusal_of a ≡ Some s → walk_told w a ≡ leading.Ends (walk_end.Refused s)
refused_leads w (nfs.LookupAnswer (Failed r f)) s e = ap (λ (z : Status). leading.Ends (walk_end.Refused z)) (some_is r s e)
refused_leads w (nfs.GetAttrAnswer (Failed r f)) s e = ap (λ (z : Status). leading.Ends (walk_end.Refused z)) (some_is r s e)
refused_leads w (nfs.ReadDirAnswer (Failed r f)) s e = ap (λ (z : Status). leading.Ends (walk_end.Refused z)) (some_is r s e)
refused_leads w (nfs.CreateAnswer (Failed r f)) s e = ap (λ (z : Status). leading.Ends (walk_end.Refused z)) (some_is r s e)
refused_leads w (nfs.MkDirAnswer (Failed r f)) s e = ap (λ (z : Status). leading.Ends (walk_end.Refused z)) (some_is r s e)
refused_leads w (nfs.RemoveAnswer (Failed r f)) s e = ap (λ (z : Status). leading.Ends (walk_end.Refused z)) (some_is r s e)
refused_leads w (nfs.RmDirAnswer (Failed r f)) s e = ap (λ (z : Status). leading.Ends (walk_end.Refused z)) (some_is r s e)
refused_leads w (nfs.RenameAnswer (Failed r f)) s e = ap (λ (z : Status). leading.Ends (walk_end.Refused z)) (some_is r s e)
refused_leads w _ s e = nothing_there s e

-- what changes names alone is no remove, and no rename
name_builds : (left : List (List ℕ)) (g : Goal) → makes_at left g ≡ true → IsNameGoal g → builds_at left g ≡ true
name_builds [] (goal.MakeDir n) e names = refl
name_builds [] (goal.RemoveDir n) e names = refl
name_builds [] g e names = absurd names
name_builds (m ∷ ms) g e names = absurd cc

-- a look-up for an open makes nothing
abbrev is_find_goal : Goal → Bool
is_find_goal (goal.Find name) = true
is_find_goal g = false

making_none : (left : List (List ℕ)) (g : Goal) → is_find_goal g ≡ true → makes_at left g ≡ false
making_none [] (goal.Find name) e = refl
making_none (n ∷ ns) (goal.Find name) e = refl
making_none left g e = absurd cc

-- a status says that an id is nothing's, or it gives no open a point
stale_or_not : (e : Status) → (e ≡ statuses.Stale) ⊎ (((status_number e == 70) ≡ false) × (has_point words.Open (outcome.Refused e) ≡ false))
stale_or_not statuses.Stale = inl refl
stale_or_not _ = inr (refl, refl)

-- a walk whose last call made something had come so far before that was taken
abbrev pub EarlyBy : (book : Book) (at : Moment) (moment : ℕ) (closing : Option ℕ) (j : Job) (o : Op) (w : Walk) (a : Nfs) (step : ℕ) → WalkCame book at moment closing j o w a → Type 0
EarlyBy book at moment closing j o w a step (inl t) = Unit {0}
EarlyBy book at moment closing j o w a step (inr (inl f)) = Unit {0}
EarlyBy book at moment closing j o w a step (inr (inr m)) = step ≤ step_of m.taken.at

-- it is the operation's own call that was taken
taken_own : (all : List Moment) (book : Book) → book.moments ≡ all → (client_ c : ℕ) (j : Job) (session xid : ℕ) (w : Walk) (asks : Nfs) → c ≡ client_ → next_call w ≡ asks → (t : IsTakenFor book client_ j session xid w) → (h : TakesCall (bare all) c (step_of t.at) xid (body.Nfs asks)) × (h.session ≡ session)
taken_own all book are client_ c j session xid w asks same is t = (
  record {
    moment = t.at;
    there = subst (λ (l : List Moment). Contains l t.at) are t.noted;
    step_is = refl;
    session = session;
    now = t.now;
    bytes = t.bytes;
    event_is = t.event_is;
    parsed = t.parsed ∙ ap (λ (m : Nfs). Ok (message.Call xid (body.Nfs m))) is;
    waits = record { seat = t.seat; seat_is = ap (numbered t.at.before.seats) same ∙ t.seat_is; newest = t.newest; own = waits_in t.seat.place t.seat.client.task j xid t.job_is (ap (λ (z : Stage). has_call (client.pending_in z) xid) t.stage_is ∙ ap (λ (b : Bool). b || false) (eq-eqb xid xid refl)) };
  },
  refl,
)

module _ (all : List Moment) (book : Book) (are : book.moments ≡ all) (order : AreInOrder all) (taken : List TakenCall) (closing : Option ℕ) (j : Job) (x : ℕ) (w : Walk) (a : Nfs) (h : WalkTold book taken closing j x w a) (walking : j.stage ≡ stage.Walking x w) (small : IsWalkSmall w) (c : PathCommand) (o : Op) (mine : h.op ≡ o) (idle : IsBare c o) (owed : makes_later w.left w.goal ≡ true → HasNeither o) (word : o.word ≡ path_word c)
    (step : ℕ) (old : HasWalk (bare all) o.begin c w step) (le : step ≤ step_of h.at) (early : EarlyBy book h.at h.moment closing j h.op w a step h.came) (now : ℕ) (late : h.moment < now)
    (heard : Moment) (noted : Contains all heard) (heard_is : step_of heard ≡ now) (reading : ℕ) (bytes : List ℕ) (on_session : heard.event ≡ Hears h.session reading bytes) (takes : Contains (taken_by heard.before o.client heard.event) (message.Answer x (body.Nfs a))) where
  there : Contains all h.at
  there = subst (λ (l : List Moment). Contains l h.at) are h.noted

  comes : told_by (tree_at h.at).nodes (next_call w) ≡ Some a → WalkComes (bare all) o.begin step h.at c w a (walk_told w a)
  comes told_is = walk_comes (bare all) o.begin step h.at w a h.bounded small.dir small.named (λ e e_there before. order h.at e there e_there before) there le told_is c old

  at_le : step_of h.at ≤ now
  at_le = let is = h.step_is in omega (arith, is, late)

  begun : o.begin ≤ step_of h.at
  begun = let is = h.step_is in let after = subst (λ (z : Op). z.begin ≤ h.moment) mine h.after in omega (arith, is, after)

  -- within an operation that ends now
  inside : (new : Op) → new.end ≡ Some now → (from : ℕ) → from ≤ step_of h.at → IsInside new from (step_of h.at)
  inside new end from before = (before, λ e is. let same : now ≡ e = some_of (sym end ∙ is) in omega (arith, at_le, same))
    where
      some_of : {n m : ℕ} → ◌≡◌ {A = Option ℕ} (Some n) (Some m) → n ≡ m
      some_of {n} {m} e = ap (λ (z : Option ℕ). or_else z) e
        where
          or_else : Option ℕ → ℕ
          or_else None = 0
          or_else (Some n) = n

  abbrev refused_is : (new : Op) (s : Status) → new.end ≡ Some now → new.begin ≡ o.begin → new.client ≡ o.client → refusal_of a ≡ Some s → IsRefused (bare all) new (status_number s)
  refused_is new s end begin client_is is = record {
    moment = h.at;
    there = there;
    inside = inside new end new.begin (subst (λ (b : ℕ). b ≤ step_of h.at) (sym begin) begun);
    session = h.session;
    xid = x;
    answer = a;
    sent = h.sent;
    refuses = ap (option_map status_number) is;
    waits = record { seat = h.seat; seat_is = ap (numbered h.at.before.seats) (client_is ∙ ap (λ (z : Op). z.client) (sym mine)) ∙ h.seat_is; newest = h.newest; own = waits_in h.seat.place h.seat.client.task j x h.job_is (ap (λ (z : Stage). has_call (client.pending_in z) x) walking ∙ ap (λ (b : Bool). b || false) (eq-eqb x x refl)) };
    tells = tree_tells h.at.before h.at.event h.session x a s is h.sent;
    taken = heard;
    taken_there = noted;
    now = reading;
    bytes = bytes;
    event_is = on_session;
    ends = end ∙ ap (λ (n : ℕ). Some n) (sym heard_is);
    takes = subst (λ (i : ℕ). Contains (taken_by heard.before i heard.event) (message.Answer x (body.Nfs a))) (sym client_is) takes;
  }

  -- what becomes of the operation by what the answer leads to
  abbrev become : client.State × ClientStep → Op
  become r = op_after o r.0 taken now r.1

  abbrev Comes : client.State → List Pending → (is_look : Bool) → PathCommand → Leading → Type 0
  Comes s calls l k t = (let r = walked s calls x l t in Onward all k r (op_after o r.0 taken now r.1) now)

  -- an open of a path has no file yet
  bare_file : (k : PathCommand) → c ≡ k → is_find k ≡ true → o.file ≡ 0
  bare_file (path.Find s) is e = (subst (λ (k : PathCommand). IsBare k o) is idle).0
  bare_file _ is e = absurd cc

  refused_as : (k : PathCommand) (new : Op) (status : ℕ) → (is_find k ≡ true → new.file ≡ 0) → (r : IsRefused (bare all) new status) → IsPointless k new status (step_of r.moment) → EndsNamed k (told.Refused status) → EndsAs all k new (told.Refused status)
  refused_as (path.Find s) new status none is point named = inr (none refl, (is, point, named))
  refused_as (path.Rewrite s) new status none is point named = inr (point.0, (is, point, named))
  refused_as _ new status none is point named = (is, point, named)

  -- what is refused, or is open already, gets no point by that
  same_point : (k : PathCommand) → o.word ≡ path_word k → (is_find k ≡ false) → (e : Ended) → (r : client.State × ClientStep) → r.1.ended ≡ Some e → (become r).point ≡ o.point
  same_point k w other e r is = ap (λ (l : Option Ended). (op_after o r.0 taken now (record r.1 { ended = l })).point) is ∙ by k w other
    where
      by : (k : PathCommand) → o.word ≡ path_word k → (is_find k ≡ false) → point_if (has_point o.word e.outcome) taken e.rests_on now o.point ≡ o.point
      by (path.Find s) w other = absurd cc
      by _ w other = ap (λ (z : Word). point_if (has_point z e.outcome) taken e.rests_on now o.point) w

  -- one that may change a file has none while its call is still to come, and none if that was refused
  at_last : changes (goal_word w.goal) ≡ true → is_creating w ≡ false → HasNeither o
  at_last alters none = owed (changes_owed w.left w.goal alters none)

  unmade_before : (s : Status) → refusal_of a ≡ Some s → changes (goal_word w.goal) ≡ true → HasNeither o
  unmade_before s refused alters = by h.came
    where
      not_done : (t : Leading) → t ≡ leading.Ends (walk_end.Refused s) → t ≡ leading.Ends walk_end.Done → ⊥
      not_done t e f = (let z : leading.Ends (walk_end.Refused s) ≡ leading.Ends walk_end.Done = sym e ∙ f in absurd cc)

      refused_by : (f : RefusesWalk h.at closing j h.op w a) → (b : Bool) → is_creating w ≡ b → HasNeither o
      refused_by f false none = at_last alters none
      refused_by f true some = let u = subst (λ (b : Bool). UnmadeBy b closing j h.op) some f.unmade in (ap (λ (z : Op). z.file) (sym mine) ∙ u.1, ap (λ (z : Op). z.point) (sym mine) ∙ u.0.1)

      by : WalkCame book h.at h.moment closing j h.op w a → HasNeither o
      by (inl t) = at_last alters (creates_makes w.left w.goal (making_untold (tree_at h.at) w a t.0))
      by (inr (inl f)) = refused_by f (is_creating w) refl
      by (inr (inr m)) = absurd (not_done (walk_told w a) (refused_leads w a s refused) m.leads)

  -- it has none before, if what it waited for was refused
  none_before : (s : Status) → refusal_of a ≡ Some s → (k : PathCommand) → c ≡ k → is_find k ≡ false → HasNeither o
  none_before s refused (path.Find p) is other = absurd cc
  none_before s refused (path.Make p) is other = unmade_before s refused (ap (λ (g : Goal). changes (goal_word g)) (subst (λ (k : PathCommand). HasWalk (bare all) o.begin k w step) is old).1)
  none_before s refused (path.Remove p) is other = unmade_before s refused (ap (λ (g : Goal). changes (goal_word g)) (subst (λ (k : PathCommand). HasWalk (bare all) o.begin k w step) is old).1)
  none_before s refused (path.Rename p q) is other = unmade_before s refused (by (subst (λ (k : PathCommand). HasWalk (bare all) o.begin k w step) is old))
    where
      by : HasWalk (bare all) o.begin (path.Rename p q) w step → changes (goal_word w.goal) ≡ true
      by (inl has) = ap (λ (g : Goal). changes (goal_word g)) has.has.1
      by (inr has) = ap (λ (g : Goal). changes (goal_word g)) has.has.1
  none_before s refused _ is other = subst (λ (k : PathCommand). IsBare k o) is idle

  refused_pointless : (k : PathCommand) → c ≡ k → o.word ≡ path_word k → (e : Status) → refusal_of a ≡ Some e → (r : client.State × ClientStep) → r.1.ended ≡ Some (record { outcome = outcome.Refused e; rests_on = x }) → (become r).file ≡ o.file → IsPointless k (become r) (status_number e) (step_of h.at)
  refused_pointless k same own_word e refused r is file = by k same own_word (is_find k) refl
    where
      pointless_as : (k : PathCommand) → is_find k ≡ false → HasNeither (become r) → IsPointless k (become r) (status_number e) (step_of h.at)
      pointless_as (path.Find s) other none = absurd cc
      pointless_as _ other none = none

      -- a look-up is answered as it is taken
      looks : (s : Spot) → c ≡ path.Find s → is_making w ≡ false
      looks s same = making_none w.left w.goal (ap (λ (g : Goal). is_find_goal g) (subst (λ (k : PathCommand). HasWalk (bare all) o.begin k w step) same old).1)

      pointless_find : (k : PathCommand) → c ≡ k → o.word ≡ path_word k → is_find k ≡ true → IsPointless k (become r) (status_number e) (step_of h.at)
      pointless_find (path.Find s) same own_word found = ap (λ (l : Option Ended). (op_after o r.0 taken now (record r.1 { ended = l })).point) is ∙ ap (λ (z : Word). point_if (has_point z (outcome.Refused e)) taken x now o.point) own_word ∙ elim (stale_or_not e) [
        | inl stale ↦
            ap (λ (z : Status). point_if (has_point words.Open (outcome.Refused z)) taken x now o.point) stale
            ∙ ap (λ (z : Option ℕ). Some (Rattle.std.specs.Prelude.unwrap_or z now)) (h.was (looks s same))
            ∙ ap (λ (n : ℕ). Some n) (sym h.step_is)
            ∙ sym (ap (λ (z : Status). look_up_point (status_number z) (step_of h.at)) stale)
        | inr other ↦
            ap (λ (b : Bool). point_if b taken x now o.point) other.1
            ∙ (subst (λ (k : PathCommand). IsBare k o) same idle).1
            ∙ sym (ap (λ (b : Bool). let p : Option ℕ = if b then Some (step_of h.at) else None in p) other.0)
      ]
      pointless_find _ same own_word found = absurd cc

      by : (k : PathCommand) → c ≡ k → o.word ≡ path_word k → (b : Bool) → is_find k ≡ b → IsPointless k (become r) (status_number e) (step_of h.at)
      by k same own_word true found = pointless_find k same own_word found
      by k same own_word false other = (let n = none_before e refused k same other in pointless_as k other (file ∙ n.0, same_point k own_word other (record { outcome = outcome.Refused e; rests_on = x }) r is ∙ n.1))

  -- by a status that its command may have
  named : (e : Status) → refusal_of a ≡ Some e → EndsNamed c (told.Refused (status_number e))
  named e is = by h.came
    where
      by : WalkCame book h.at h.moment closing j h.op w a → EndsNamed c (told.Refused (status_number e))
      by (inl t) = walk_refused (tree_at h.at).nodes w a e h.rooted small t.0 is (bare all) o.begin step c old
      by (inr (inl f)) =
          let why : f.why ≡ e = some_is f.why e (sym f.refuses ∙ is) in
          making_refused (tree_at h.at) (bare all) o.begin step c w e small old (subst (RefusedAs (tree_at h.at) w) why f.why_is)
      by (inr (inr m)) = absurd (done_not (walk_told w a) (refused_leads w a e is) m.leads)
        where
          done_not : (t : Leading) → t ≡ leading.Ends (walk_end.Refused e) → t ≡ leading.Ends walk_end.Done → ⊥
          done_not t x y = (let z : leading.Ends (walk_end.Refused e) ≡ leading.Ends walk_end.Done = sym x ∙ y in absurd cc)

  refusal : (s : client.State) (calls : List Pending) (l : Bool) (e : Status) → refusal_of a ≡ Some e → Comes s calls l c (leading.Ends (walk_end.Refused e))
  refusal s calls true e is = record { way = λ none u at. some_none _ none; ends = λ z at. refused_as c (become (walked s calls x true (leading.Ends (walk_end.Refused e)))) (status_number e) (bare_file c refl) (refused_is (become (walked s calls x true (leading.Ends (walk_end.Refused e)))) e refl refl refl is) (refused_pointless c refl word e is (walked s calls x true (leading.Ends (walk_end.Refused e))) refl refl) (named e is) }
  refusal s calls false e is = record { way = λ none u at. some_none _ none; ends = λ z at. refused_as c (become (walked s calls x false (leading.Ends (walk_end.Refused e)))) (status_number e) (bare_file c refl) (refused_is (become (walked s calls x false (leading.Ends (walk_end.Refused e)))) e refl refl refl is) (refused_pointless c refl word e is (walked s calls x false (leading.Ends (walk_end.Refused e))) refl refl) (named e is) }

  asks_on : (s : client.State) (calls : List Pending) (l : Bool) (k : PathCommand) (v : Walk) → o.word ≡ path_word k → IsBare k o → HasWalk (bare all) o.begin k v (step_of h.at) → Comes s calls l k (leading.Asks v)
  asks_on s calls l k v w plain has = record { way = λ none u at. subst (λ (t : Task). OnWay all k (become (walked s calls x l (leading.Asks v))) t.stage now) (some_is (record { file = 0; stage = stage.Walking s.next_xid v }) u at) (step_of h.at, has, at_le, bare_same k o (become (walked s calls x l (leading.Asks v))) refl refl plain, w); ends = λ e at. none_some e at }

  finds_of : (s : client.State) (calls : List Pending) (spot : Spot) (id : ℕ) → o.word ≡ words.Open → o.point ≡ None → Leads (bare all) o.begin ROOT (all_names spot) id (step_of h.at) → (is_open : Bool) → (let r = finds_if s calls x id is_open in Onward all (path.Find spot) r (op_after o r.0 taken now r.1) now)
  finds_of s calls spot id w pointless leads true = record { way = λ none u at. some_none _ none; ends = λ e at. inl (record { step = step_of h.at; found = leads; inside = inside (become (finds_if s calls x id true)) refl o.begin begun }, λ is. ap (λ (z : Word). point_if (has_point z outcome.AlreadyOpen) taken 0 now o.point) w ∙ pointless, tt) }
  finds_of s calls spot id w pointless leads false = fresh (fresh_content s.cache id s.clock)
    where
      by : (kept : Option Content) → (let r = finding id (asks_kept (record s { cache = reserved s.cache id }) id kept) in Onward all (path.Find spot) r (op_after o r.0 taken now r.1) now)
      by None = record { way = λ none u at. subst (λ (t : Task). OnWay all (path.Find spot) (become (finding id (asks_kept (record s { cache = reserved s.cache id }) id None))) t.stage now) (some_is (record { file = id; stage = stage.Hashing 1 s.next_xid }) u at) ((spot, inl refl, (step_of h.at, leads, at_le)), pointless, w); ends = λ e at. none_some e at }
      by (Some kept) = record { way = λ none u at. subst (λ (t : Task). OnWay all (path.Find spot) (become (finding id (asks_kept (record s { cache = reserved s.cache id }) id (Some kept)))) t.stage now) (some_is (record { file = id; stage = stage.Asking s.next_xid }) u at) ((spot, inl refl, (step_of h.at, leads, at_le)), pointless, w); ends = λ e at. none_some e at }

      fresh : (v : Option Content) → (let r = finding id (finds_kept s calls x id v) in Onward all (path.Find spot) r (op_after o r.0 taken now r.1) now)
      fresh None = by (content_of s.cache id)
      fresh (Some v) = record { way = λ none u at. some_none _ none; ends = λ e at. inl (record { step = step_of h.at; found = leads; inside = inside (become (finding id (opens_fresh (forgets s calls x) id v))) refl o.begin begun }, (λ is. absurd cc), tt) }

  renews_of : (s : client.State) (calls : List Pending) (spot : Spot) (id : ℕ) → o.word ≡ words.Rewrite → o.point ≡ None → Leads (bare all) o.begin ROOT (all_names spot) id (step_of h.at) → (is_open : Bool) → (let r = renews_if s calls x id is_open in Onward all (path.Rewrite spot) r (op_after o r.0 taken now r.1) now)
  renews_of s calls spot id w pointless leads true = record { way = λ none u at. some_none _ none; ends = λ e at. inl (record { step = step_of h.at; found = leads; inside = inside (become (renews_if s calls x id true)) refl o.begin begun }, tt) }
  renews_of s calls spot id w pointless leads false = fresh (fresh_content s.cache id s.clock)
    where
      fresh : (v : Option Content) → (let r = finding id (empties_kept s calls x id v) in Onward all (path.Rewrite spot) r (op_after o r.0 taken now r.1) now)
      fresh (Some v) = record { way = λ none u at. some_none _ none; ends = λ e at. inl (record { step = step_of h.at; found = leads; inside = inside (become (finding id (empties_fresh (forgets s calls x) id v))) refl o.begin begun }, refl) }
      fresh None = record { way = λ none u at. subst (λ (t : Task). OnWay all (path.Rewrite spot) (become (finding id (asks_version (record s { cache = reserved s.cache id }) id))) t.stage now) (some_is (record { file = id; stage = stage.Rewriting s.next_xid }) u at) ((spot, inr refl, (step_of h.at, leads, at_le)), pointless, w); ends = λ e at. none_some e at }

  ends_by : (s : client.State) (calls : List Pending) (k : PathCommand) → o.word ≡ path_word k → IsBare k o → HasWalk (bare all) o.begin k w step → (t : Leading) → WalkEnds (bare all) o.begin step h.at k w t → Comes s calls (is_look w.goal) k t
  ends_by s calls (path.Find spot) wd plain has t (found, is, leads) = subst (Comes s calls (is_look w.goal) (path.Find spot)) (sym is) (finds_of s calls spot found.id wd plain.1 leads (is_open s.opened found.id))
  ends_by s calls (path.Rewrite spot) wd plain has t (found, is, leads) = subst (Comes s calls (is_look w.goal) (path.Rewrite spot)) (sym is) (renews_of s calls spot found.id wd plain.1 leads (is_open s.opened found.id))
  ends_by s calls (path.Look spot) wd plain has t (n, leads, named_is, is) = subst (λ (g : Goal). Comes s calls (is_look g) (path.Look spot) t) (sym has.1) (subst (Comes s calls true (path.Look spot)) (sym is) (record {
    way = λ none u at. some_none _ none;
    ends = λ e at. (record { dir = w.dir; found_at = step; found = leads; moment = h.at; there = there; inside = inside (become (walked s calls x true (leading.Ends (walk_end.Seen n.id (attr_of (tree_at h.at).nodes n).kind n.version (attr_of (tree_at h.at).nodes n).size)))) refl step le; node = n; node_is = named_is; shows = (refl, refl, refl, refl) }, refl, same_point (path.Look spot) wd refl e (walked s calls x true (leading.Ends (walk_end.Seen n.id (attr_of (tree_at h.at).nodes n).kind n.version (attr_of (tree_at h.at).nodes n).size))) at ∙ plain.1);
  }))
  ends_by s calls path.LookRoot wd plain has t (n, root_is, is) = subst (λ (g : Goal). Comes s calls (is_look g) path.LookRoot t) (sym has.1) (subst (Comes s calls false path.LookRoot) (sym is) (record {
    way = λ none u at. some_none _ none;
    ends = λ e at. (record { moment = h.at; there = there; inside = inside (become (walked s calls x false (leading.Ends (walk_end.Seen n.id (attr_of (tree_at h.at).nodes n).kind n.version (attr_of (tree_at h.at).nodes n).size)))) refl o.begin begun; node = n; node_is = root_is; shows = (refl, refl, refl, refl) }, (plain.0, same_point path.LookRoot wd refl e (walked s calls x false (leading.Ends (walk_end.Seen n.id (attr_of (tree_at h.at).nodes n).kind n.version (attr_of (tree_at h.at).nodes n).size))) at ∙ plain.1));
  }))
  ends_by s calls (path.List p) wd plain has t (found_at, leads, before, inl (d, directory, is)) = subst (λ (g : Goal). Comes s calls (is_look g) (path.List p) t) (sym has.goal_is) (subst (Comes s calls false (path.List p)) (sym is) (record {
    way = λ none u at. some_none _ none;
    ends = λ e at. (record { dir = w.dir; found_at = found_at; found = leads; moment = h.at; there = there; inside = inside (become (walked s calls x false (leading.Ends (walk_end.Names (names_in (tree_at h.at).nodes w.dir))))) refl found_at (omega (arith, before, le)); node = d; directory = directory; names_are = refl }, (plain.0, same_point (path.List p) wd refl e (walked s calls x false (leading.Ends (walk_end.Names (names_in (tree_at h.at).nodes w.dir)))) at ∙ plain.1));
  }))
  ends_by s calls (path.List p) wd plain has t (found_at, leads, before, inr is) = subst (λ (g : Goal). Comes s calls (is_look g) (path.List p) t) (sym has.goal_is) (subst (Comes s calls false (path.List p)) (sym is) (record { way = λ none u at. some_none _ none; ends = λ e at. (plain.0, same_point (path.List p) wd refl e (walked s calls x false (leading.Ends walk_end.NoLink)) at ∙ plain.1) }))
  ends_by s calls _ wd plain has t e = absurd e

  -- ---- something was made, removed or renamed

  -- an operation that ends so has the point and the file that it had
  abbrev ends_done : client.State → List Pending → (l : Bool) → client.State × ClientStep
  ends_done s calls l = walked s calls x l (leading.Ends walk_end.Done)

  new_end : (s : client.State) (calls : List Pending) (l : Bool) (r : client.State × ClientStep) → r ≡ ends_done s calls l → (become r).end ≡ Some now
  new_end s calls l r same = ap (λ (z : client.State × ClientStep). (become z).end) same ∙ by l
    where
      by : (l : Bool) → (become (ends_done s calls l)).end ≡ Some now
      by true = refl
      by false = refl

  new_begin : (s : client.State) (calls : List Pending) (l : Bool) (r : client.State × ClientStep) → r ≡ ends_done s calls l → (become r).begin ≡ o.begin
  new_begin s calls l r same = ap (λ (z : client.State × ClientStep). (become z).begin) same ∙ by l
    where
      by : (l : Bool) → (become (ends_done s calls l)).begin ≡ o.begin
      by true = refl
      by false = refl

  new_client : (s : client.State) (calls : List Pending) (l : Bool) (r : client.State × ClientStep) → r ≡ ends_done s calls l → (become r).client ≡ o.client
  new_client s calls l r same = ap (λ (z : client.State × ClientStep). (become z).client) same ∙ by l
    where
      by : (l : Bool) → (become (ends_done s calls l)).client ≡ o.client
      by true = refl
      by false = refl

  new_file : (s : client.State) (calls : List Pending) (l : Bool) (r : client.State × ClientStep) → r ≡ ends_done s calls l → (become r).file ≡ o.file
  new_file s calls l r same = ap (λ (z : client.State × ClientStep). (become z).file) same ∙ by l
    where
      by : (l : Bool) → (become (ends_done s calls l)).file ≡ o.file
      by true = refl
      by false = refl

  new_point : (k : PathCommand) → o.word ≡ path_word k → is_find k ≡ false → (s : client.State) (calls : List Pending) (l : Bool) (r : client.State × ClientStep) → r ≡ ends_done s calls l → (become r).point ≡ o.point
  new_point k wd other s calls l r same = ap (λ (z : client.State × ClientStep). (become z).point) same ∙ by l
    where
      by : (l : Bool) → (become (ends_done s calls l)).point ≡ o.point
      by true = same_point k wd other (record { outcome = outcome.Done; rests_on = x }) (ends_done s calls true) refl
      by false = same_point k wd other (record { outcome = outcome.Done; rests_on = x }) (ends_done s calls false) refl

  -- the file of one that changed one is that of the entry; one that changed none has none
  pointed_file : (m : MakesWalk book h.at h.moment closing j h.op w a) → is_creating w ≡ true → (new : Op) → new.point ≡ o.point → new.file ≡ o.file → IsPointed new (step_of h.at) (entry_file m.done.first)
  pointed_file m some new point file = by (subst (λ (b : Bool). PointedBy b closing j h.op h.moment (entry_file m.done.first)) some m.pointed)
    where
      by : PointedBy true closing j h.op h.moment (entry_file m.done.first) → IsPointed new (step_of h.at) (entry_file m.done.first)
      by (inl was) = subst (IsPointed new (step_of h.at)) (sym was.0) (point ∙ ap (λ (z : Op). z.point) (sym mine) ∙ was.1.0.1, file ∙ ap (λ (z : Op). z.file) (sym mine) ∙ was.1.1)
      by (inr was) = subst (IsPointed new (step_of h.at)) (sym was.1) (point ∙ ap (λ (z : Op). z.point) (sym mine) ∙ was.3 ∙ ap (λ (n : ℕ). Some n) (sym h.step_is), file ∙ ap (λ (z : Op). z.file) (sym mine) ∙ was.4)

  -- its call is the one that may change a file
  is_last : MakesWalk book h.at h.moment closing j h.op w a → (g : Goal) → w.goal ≡ g → creates_at [] g ≡ true → is_creating w ≡ true
  is_last m g aim last = ap (λ (l : List (List ℕ)). creates_at l w.goal) (making_left w.left w.goal m.making) ∙ ap (creates_at []) aim ∙ last

  pointed_name : (m : MakesWalk book h.at h.moment closing j h.op w a) → IsNameGoal w.goal → (o.file ≡ 0) × (o.point ≡ None) → (new : Op) → new.point ≡ o.point → new.file ≡ o.file → IsPointed new (step_of h.at) (entry_file m.done.first)
  pointed_name m names plain new point file = subst (IsPointed new (step_of h.at)) (sym (names_file (tree_at h.at) (held_at h.at) w m.done (name_builds w.left w.goal m.making names) names m.step_is)) (point ∙ plain.1, file ∙ plain.0)

  makes : (m : MakesWalk book h.at h.moment closing j h.op w a) → step ≤ step_of m.taken.at → (new : Op) → new.end ≡ Some now → new.client ≡ o.client → (g : Goal) → w.goal ≡ g → (call : ℕ → Tree → Reservation → Tree × Result Changed Status) → ((t : Tree) (held : Reservation) → step_by t held w.dir g ≡ call w.dir t held) → IsPointed new (step_of h.at) (entry_file m.done.first) → Makes (bare all) new step (goal_call w.dir g) (call w.dir)
  makes m first new end client_is g aim call same pointed = record {
    xid = m.xid;
    taken = step_of m.taken.at;
    takes = own.0;
    after = first;
    moment = h.at;
    there = there;
    comes = subst (λ (s : ℕ). ComesTo h.at s m.xid (step_of m.taken.at)) (sym own.1) m.comes;
    inside = inside new end (step_of m.taken.at) (let is = h.step_is in let before = m.before in omega (arith, is, before));
    done = m.done;
    done_is = ap (λ (p : Tree × Result Changed Status). p.1) (sym (ap (λ (z : Goal). step_by (tree_at h.at) (held_at h.at) w.dir z) aim ∙ same (tree_at h.at) (held_at h.at))) ∙ m.step_is;
    tree_is = m.tree_is ∙ ap (λ (p : Tree × Result Changed Status). p.0) (ap (λ (z : Goal). step_by (tree_at h.at) (held_at h.at) w.dir z) aim ∙ same (tree_at h.at) (held_at h.at));
    journal_is = m.journal_is ∙ ap (λ (s : ℕ). h.at.before.server.journal ++ entries_by s m.done.first m.done.second) (sym own.1);
    pointed = pointed;
  }
    where
      call_is : next_call w ≡ goal_call w.dir g
      call_is = ap (λ (l : List (List ℕ)). call_at w.dir l w.goal) (making_left w.left w.goal m.making) ∙ ap (goal_call w.dir) aim

      own : (t : TakesCall (bare all) new.client (step_of m.taken.at) m.xid (body.Nfs (goal_call w.dir g))) × (t.session ≡ m.session)
      own = taken_own all book are h.op.client new.client j m.session m.xid w (goal_call w.dir g) (client_is ∙ ap (λ (z : Op). z.client) (sym mine)) call_is m.taken

  done_as : (s : client.State) (calls : List Pending) (l : Bool) (k : PathCommand) → c ≡ k → o.word ≡ path_word k → IsBare k o → HasWalk (bare all) o.begin k w step → (m : MakesWalk book h.at h.moment closing j h.op w a) → step ≤ step_of m.taken.at → (r : client.State × ClientStep) → r ≡ ends_done s calls l → EndsAs all k (become r) told.Done
  done_as s calls l (path.Make p) is wd plain has m first r same =
      let new = become r in
      (w.dir, step, subst (λ (b : ℕ). Leads (bare all) b ROOT p.dirs w.dir step) (sym (new_begin s calls l r same)) (reached_all (bare all) o.begin p.dirs w step has.0 (making_left w.left w.goal m.making)), makes m first new (new_end s calls l r same) (new_client s calls l r same) (goal.Make p.name) has.1 (λ dir t held. create t held dir p.name mode.Guarded) (λ t held. refl) (pointed_file m (is_last m (goal.Make p.name) has.1 refl) new (new_point (path.Make p) wd refl s calls l r same) (new_file s calls l r same)))
  done_as s calls l (path.MakeDir p) is wd plain has m first r same =
      let new = become r in
      (w.dir, step, subst (λ (b : ℕ). Leads (bare all) b ROOT p.dirs w.dir step) (sym (new_begin s calls l r same)) (reached_all (bare all) o.begin p.dirs w step has.0 (making_left w.left w.goal m.making)), makes m first new (new_end s calls l r same) (new_client s calls l r same) (goal.MakeDir p.name) has.1 (λ dir t held. mkdir t held dir p.name) (λ t held. refl) (pointed_name m (subst IsNameGoal (sym has.1) tt) plain new (new_point (path.MakeDir p) wd refl s calls l r same) (new_file s calls l r same)))
  done_as s calls l (path.RemoveDir p) is wd plain has m first r same =
      let new = become r in
      (w.dir, step, subst (λ (b : ℕ). Leads (bare all) b ROOT p.dirs w.dir step) (sym (new_begin s calls l r same)) (reached_all (bare all) o.begin p.dirs w step has.0 (making_left w.left w.goal m.making)), makes m first new (new_end s calls l r same) (new_client s calls l r same) (goal.RemoveDir p.name) has.1 (λ dir t held. rmdir t held dir p.name) (λ t held. refl) (pointed_name m (subst IsNameGoal (sym has.1) tt) plain new (new_point (path.RemoveDir p) wd refl s calls l r same) (new_file s calls l r same)))
  done_as s calls l (path.Find p) is wd plain has m first r same = absurd (subst MakesGoal has.1 (making_goal w.left w.goal m.making))
  done_as s calls l (path.Rewrite p) is wd plain has m first r same = absurd (subst MakesGoal has.1 (making_goal w.left w.goal m.making))
  done_as s calls l (path.Look p) is wd plain has m first r same = absurd (subst MakesGoal has.1 (making_goal w.left w.goal m.making))
  done_as s calls l path.LookRoot is wd plain has m first r same = absurd (subst MakesGoal has.1 (making_goal w.left w.goal m.making))
  done_as s calls l (path.List p) is wd plain has m first r same = absurd (subst MakesGoal has.goal_is (making_goal w.left w.goal m.making))
  done_as s calls l (path.Remove p) is wd plain has m first r same =
      let new = become r in
      (w.dir, step, subst (λ (b : ℕ). Leads (bare all) b ROOT p.dirs w.dir step) (sym (new_begin s calls l r same)) (reached_all (bare all) o.begin p.dirs w step has.0 (making_left w.left w.goal m.making)), makes m first new (new_end s calls l r same) (new_client s calls l r same) (goal.Remove p.name) has.1 (λ dir t held. remove t held dir p.name) (λ t held. refl) (pointed_file m (is_last m (goal.Remove p.name) has.1 refl) new (new_point (path.Remove p) wd refl s calls l r same) (new_file s calls l r same)))
  done_as s calls l (path.Rename p q) is wd plain (inl has) m first r same = absurd (subst MakesGoal has.has.1 (making_goal w.left w.goal m.making))
  done_as s calls l (path.Rename p q) is wd plain (inr has) m first r same =
      let new = become r in
      (has.dir, has.found_at, w.dir, step, subst (λ (b : ℕ). Leads (bare all) b ROOT p.dirs has.dir has.found_at) (sym (new_begin s calls l r same)) has.found, reached_all (bare all) has.found_at q.dirs w step has.has.0 (making_left w.left w.goal m.making), makes m first new (new_end s calls l r same) (new_client s calls l r same) (goal.RenameTo has.dir p.name q.name) has.has.1 (λ to t held. rename t held has.dir p.name to q.name) (λ t held. refl) (pointed_file m (is_last m (goal.RenameTo has.dir p.name q.name) has.has.1 refl) new (new_point (path.Rename p q) wd refl s calls l r same) (new_file s calls l r same)))

  finished : (s : client.State) (calls : List Pending) (l : Bool) → (m : MakesWalk book h.at h.moment closing j h.op w a) → step ≤ step_of m.taken.at → Comes s calls l c (leading.Ends walk_end.Done)
  finished s calls true m first = record { way = λ none u at. some_none _ none; ends = λ e at. done_as s calls true c refl word idle old m first (ends_done s calls true) refl }
  finished s calls false m first = record { way = λ none u at. some_none _ none; ends = λ e at. done_as s calls false c refl word idle old m first (ends_done s calls false) refl }

  pub heard_walk : (s : client.State) (calls : List Pending) → Comes s calls (is_look w.goal) c (walk_told w a)
  heard_walk s calls = came h.came early
    where
      by : (t : Leading) → WalkComes (bare all) o.begin step h.at c w a t → Comes s calls (is_look w.goal) c t
      by t (inl (e, is, ends)) = subst (Comes s calls (is_look w.goal) c) (sym ends) (refusal s calls (is_look w.goal) e is)
      by t (inr (inl (v, is, has))) = subst (Comes s calls (is_look w.goal) c) (sym is) (asks_on s calls (is_look w.goal) c v word idle has)
      by t (inr (inr ends)) = ends_by s calls c word idle old t ends

      came : (z : WalkCame book h.at h.moment closing j h.op w a) → EarlyBy book h.at h.moment closing j h.op w a step z → Comes s calls (is_look w.goal) c (walk_told w a)
      came (inl t) first = by (walk_told w a) (comes t.0)
      came (inr (inl f)) first = subst (Comes s calls (is_look w.goal) c) (sym f.leads) (refusal s calls (is_look w.goal) f.why f.refuses)
      came (inr (inr m)) first = subst (Comes s calls (is_look w.goal) c) (sym m.leads) (finished s calls (is_look w.goal) m first)

-- ---- an answer comes to an operation on a file

-- no walk is under way then
abbrev OnFile : client.State × ClientStep → Type 0
OnFile r = (u : Task) → r.0.task ≡ Some u → IsOfFile u.stage

of_some : (t u : Task) → ◌≡◌ {A = Option Task} (Some t) (Some u) → IsOfFile t.stage → IsOfFile u.stage
of_some t u e h = subst (λ (z : Task). IsOfFile z.stage) (some_is t u e) h

file_cases : (s : client.State) (calls : List Pending) (file : ℕ) (st : Stage) (x : ℕ) (b : Body) → Cases (λ found r. OnFile r) s calls file st x b
file_cases s calls file st x b = record {
  ends = λ r e unchanged came. λ u at. nothing_there u (sym e.task ∙ at);
  uses = λ y l bytes at is kept. λ u e. nothing_there u e;
  fetches = λ y l at is. λ u e. of_some _ u e tt;
  anew = λ f version bytes open_ gave few came. λ u e. of_some _ u e tt;
  changed = λ r f version e open_ gave last is. λ u at. nothing_there u (sym e.task ∙ at);
  lists = λ f g is at same far. λ u e. of_some _ u e tt;
  reads = λ f bytes now here. λ u e. of_some _ u e tt;
  opens = λ f bytes now here. λ u e. nothing_there u e;
  names = λ w at known none e. λ u is. of_some _ u is tt;
  commits = λ w at known none e. λ u is. of_some _ u is tt;
  whole = λ old c k at unknown none found name chunk. λ u e. of_some _ u e tt;
}

pub took_file : (s : client.State) (calls : List Pending) (file : ℕ) (st : Stage) (x : ℕ) (b : Body) → IsOfFile st → OnFile (took s calls file st x b)
took_file s calls file st x b of = took_cases (λ found r. OnFile r) s calls file st x b of (λ found r g until lease is h. h) (file_cases s calls file st x b)

-- ---- all operations

-- each client's operation under way has its command
abbrev pub JobsOn : (all : List Moment) → List Deed → Core → Type 0
JobsOn all ds k = (i : ℕ) (seat : Seat) (j : Job) → numbered k.seats i ≡ Some seat → job seat ≡ Some j → (d : Deed) × (o : Op) × (slice_get ds j.place ≡ Some d) × (slice_get k.ops j.place ≡ Some o) × (o.begin ≡ d.begin) × (o.word ≡ word_of d.command) × IsOn all d.command o j.stage k.steps

-- one that its client answered by itself is over in its first step
abbrev pub IsOver : List Moment → Command → Op → Type 0
IsOver all (command.Named c) o = (o.word ≡ path_word c) × ((o.outcome ≡ told.Running) ⊎ ((o.end ≡ Some o.begin) ⊎ EndsAs all c o o.outcome))
IsOver all d o = Unit {0}

pub record Walks (all past : List Moment) (k : Core) : Type 0 where
  pub count : length k.ops ≡ length (deeds_of past)
  pub jobs : JobsOn all (deeds_of past) k
  pub over : (p : ℕ) (d : Deed) (o : Op) → slice_get (deeds_of past) p ≡ Some d → slice_get k.ops p ≡ Some o → IsOver all d.command o
  -- and so it was
  pub before : (m : Moment) → Contains past m → JobsOn all (deeds_of past) m.before

-- ---- what stays

-- an operation has what is said of its way
pub record SameWay (o r : Op) : Type 0 where
  pub client : r.client ≡ o.client
  pub word : r.word ≡ o.word
  pub file : r.file ≡ o.file
  pub begin : r.begin ≡ o.begin
  pub end : r.end ≡ o.end
  pub outcome : r.outcome ≡ o.outcome
  -- a change gives a close its point
  pub point : (r.point ≡ o.point) ⊎ (o.word ≡ words.Close)

pub same_way : (o : Op) → SameWay o o
same_way o = record { client = refl; word = refl; point = inl refl; file = refl; begin = refl; end = refl; outcome = refl }

not_close : (c : PathCommand) → path_word c ≡ words.Close → ⊥
not_close (path.Find s) e = absurd cc
not_close _ e = absurd cc

found_on : (all : List Moment) (c : PathCommand) (o r : Op) (n m : ℕ) → r.begin ≡ o.begin → r.file ≡ o.file → n ≤ m → ((s : Spot) × GetsFile c s × ((step : ℕ) × Leads (bare all) o.begin ROOT (all_names s) o.file step × (step ≤ n)))
    → (s : Spot) × GetsFile c s × ((step : ℕ) × Leads (bare all) r.begin ROOT (all_names s) r.file step × (step ≤ m))
found_on all c o r n m begin file le (s, is, (step, leads, before)) = (s, is, (step, subst (λ (b : ℕ). Leads (bare all) b ROOT (all_names s) r.file step) (sym begin) (subst (λ (f : ℕ). Leads (bare all) o.begin ROOT (all_names s) f step) (sym file) leads), omega (arith, le, before)))

point_stays : (c : PathCommand) (o r : Op) → (r.point ≡ o.point) ⊎ (o.word ≡ words.Close) → o.point ≡ None → o.word ≡ path_word c → r.point ≡ None
point_stays c o r (inl same) none is = same ∙ none
point_stays c o r (inr close) none is = absurd (not_close c (sym is ∙ close))

bare_on : (c : PathCommand) (o r : Op) → r.file ≡ o.file → (r.point ≡ o.point) ⊎ (o.word ≡ words.Close) → o.word ≡ path_word c → IsBare c o → IsBare c r
bare_on c o r file (inl point) is h = bare_same c o r file point h
bare_on c o r file (inr close) is h = absurd (not_close c (sym is ∙ close))

way_on : (all : List Moment) (c : PathCommand) (o r : Op) (st : Stage) (n m : ℕ) → r.word ≡ o.word → (r.point ≡ o.point) ⊎ (o.word ≡ words.Close) → r.begin ≡ o.begin → r.file ≡ o.file → n ≤ m → OnWay all c o st n → OnWay all c r st m
way_on all c o r (stage.Walking x w) n m word point begin file le (step, has, before, plain, is) = (step, subst (λ (b : ℕ). HasWalk (bare all) b c w step) (sym begin) has, omega (arith, le, before), bare_on c o r file point is plain, word ∙ is)
way_on all c o r _ n m word point begin file le h = (found_on all c o r n m begin file le h.0, point_stays c o r point h.1 h.2, word ∙ h.2)

pub is_on : (all : List Moment) (d : Command) (o r : Op) (st : Stage) (n m : ℕ) → r.word ≡ o.word → (r.point ≡ o.point) ⊎ (o.word ≡ words.Close) → r.begin ≡ o.begin → r.file ≡ o.file → n ≤ m → IsOn all d o st n → IsOn all d r st m
is_on all (command.Named c) o r st n m word point begin file le h = way_on all c o r st n m word point begin file le h
is_on all _ o r st n m word point begin file le h = h

inside_on : (o r : Op) (from step : ℕ) → r.end ≡ o.end → IsInside o from step → IsInside r from step
inside_on o r from step end h = (h.0, λ e is. h.1 e (sym end ∙ is))

abbrev refused_on : (all : List Moment) (o r : Op) (status : ℕ) → SameWay o r → IsRefused (bare all) o status → IsRefused (bare all) r status
refused_on all o r status s h = record { moment = h.moment; there = h.there; inside = subst (λ (b : ℕ). IsInside r b (step_of h.moment)) (sym s.begin) (inside_on o r o.begin (step_of h.moment) s.end h.inside); session = h.session; xid = h.xid; answer = h.answer; sent = h.sent; refuses = h.refuses; waits = record { seat = h.waits.seat; seat_is = ap (numbered h.moment.before.seats) s.client ∙ h.waits.seat_is; newest = h.waits.newest; own = h.waits.own }; tells = h.tells; taken = h.taken; taken_there = h.taken_there; now = h.now; bytes = h.bytes; event_is = h.event_is; ends = s.end ∙ h.ends; takes = subst (λ (i : ℕ). Contains (taken_by h.taken.before i h.taken.event) (message.Answer h.xid (body.Nfs h.answer))) (sym s.client) h.takes }

finds_on : (all : List Moment) (o r : Op) (spot : Spot) → SameWay o r → FindsFile (bare all) o spot → FindsFile (bare all) r spot
finds_on all o r spot s h = record {
  step = h.step;
  found = subst (λ (b : ℕ). Leads (bare all) b ROOT (all_names spot) r.file h.step) (sym s.begin) (subst (λ (f : ℕ). Leads (bare all) o.begin ROOT (all_names spot) f h.step) (sym s.file) h.found);
  inside = subst (λ (b : ℕ). IsInside r b h.step) (sym s.begin) (inside_on o r o.begin h.step s.end h.inside);
}

seen_on : (all : List Moment) (o r : Op) (spot : Spot) (id k v n : ℕ) → SameWay o r → IsSeen (bare all) o spot id k v n → IsSeen (bare all) r spot id k v n
seen_on all o r spot id k v n s h = record { dir = h.dir; found_at = h.found_at; found = subst (λ (b : ℕ). Leads (bare all) b ROOT spot.dirs h.dir h.found_at) (sym s.begin) h.found; moment = h.moment; there = h.there; inside = inside_on o r h.found_at (step_of h.moment) s.end h.inside; node = h.node; node_is = h.node_is; shows = h.shows }

root_on : (all : List Moment) (o r : Op) (id k v n : ℕ) → SameWay o r → IsRootSeen (bare all) o id k v n → IsRootSeen (bare all) r id k v n
root_on all o r id k v n s h = record { moment = h.moment; there = h.there; inside = subst (λ (b : ℕ). IsInside r b (step_of h.moment)) (sym s.begin) (inside_on o r o.begin (step_of h.moment) s.end h.inside); node = h.node; node_is = h.node_is; shows = h.shows }

listed_on : (all : List Moment) (o r : Op) (p list : List (List ℕ)) → SameWay o r → IsListed (bare all) o p list → IsListed (bare all) r p list
listed_on all o r p list s h = record { dir = h.dir; found_at = h.found_at; found = subst (λ (b : ℕ). Leads (bare all) b ROOT p h.dir h.found_at) (sym s.begin) h.found; moment = h.moment; there = h.there; inside = inside_on o r h.found_at (step_of h.moment) s.end h.inside; node = h.node; directory = h.directory; names_are = h.names_are }

pointless_on : (c : PathCommand) (o r : Op) → o.word ≡ path_word c → SameWay o r → (status step : ℕ) → IsPointless c o status step → IsPointless c r status step
pointless_on c o r is s status step h = by s.point
  where
    none : (k : PathCommand) → r.point ≡ o.point → IsPointless k o status step → IsPointless k r status step
    none (path.Find z) same h = same ∙ h
    none _ same h = (s.file ∙ h.0, same ∙ h.1)

    by : (r.point ≡ o.point) ⊎ (o.word ≡ words.Close) → IsPointless c r status step
    by (inl same) = none c same h
    by (inr close) = absurd (not_close c (sym is ∙ close))

pointed_on : (o r : Op) (at_step : ℕ) (changed : Option ℕ) → r.point ≡ o.point → r.file ≡ o.file → IsPointed o at_step changed → IsPointed r at_step changed
pointed_on o r at_step None point file p = (point ∙ p.0, file ∙ p.1)
pointed_on o r at_step (Some f) point file p = (point ∙ p.0, file ∙ p.1)

-- what was taken for an operation was taken for it as it is now
pub takes_on : (book more : Book) (c d step xid : ℕ) (call : Body) → ((m : Moment) → Contains book.moments m → Contains more.moments m) → d ≡ c → (t : TakesCall book c step xid call) → (u : TakesCall more d step xid call) × (u.session ≡ t.session)
takes_on book more c d step xid call there same t = (record { moment = t.moment; there = there t.moment t.there; step_is = t.step_is; session = t.session; now = t.now; bytes = t.bytes; event_is = t.event_is; parsed = t.parsed; waits = record { seat = t.waits.seat; seat_is = ap (numbered t.moment.before.seats) same ∙ t.waits.seat_is; newest = t.waits.newest; own = t.waits.own } }, refl)

makes_on : (all : List Moment) (o r : Op) (behind : ℕ) (asks : Nfs) (call : Tree → Reservation → Tree × Result Changed Status) → SameWay o r → r.point ≡ o.point → Makes (bare all) o behind asks call → Makes (bare all) r behind asks call
makes_on all o r behind asks call s point h =
    let t = takes_on (bare all) (bare all) o.client r.client h.taken h.xid (body.Nfs asks) (λ m there. there) s.client h.takes in
    record { xid = h.xid; taken = h.taken; takes = t.0; after = h.after; moment = h.moment; there = h.there; comes = subst (λ (n : ℕ). ComesTo h.moment n h.xid h.taken) (sym t.1) h.comes; inside = inside_on o r h.taken (step_of h.moment) s.end h.inside; done = h.done; done_is = h.done_is; tree_is = h.tree_is; journal_is = h.journal_is ∙ ap (λ (n : ℕ). h.moment.before.server.journal ++ entries_by n h.done.first h.done.second) (sym t.1); pointed = pointed_on o r (step_of h.moment) (entry_file h.done.first) point s.file h.pointed }

makes_in_on : (all : List Moment) (o r : Op) (dirs : List (List ℕ)) (asks : (dir : ℕ) → Nfs) (call : (dir : ℕ) → Tree → Reservation → Tree × Result Changed Status) → SameWay o r → r.point ≡ o.point → MakesIn (bare all) o dirs asks call → MakesIn (bare all) r dirs asks call
makes_in_on all o r dirs asks call s point (dir, step, leads, made) = (dir, step, subst (λ (b : ℕ). Leads (bare all) b ROOT dirs dir step) (sym s.begin) leads, makes_on all o r step (asks dir) (call dir) s point made)

done_on : (all : List Moment) (c : PathCommand) (o r : Op) → o.word ≡ path_word c → SameWay o r → NameDone (bare all) o c → NameDone (bare all) r c
done_on all c o r is s h = by s.point
  where
    same : (c : PathCommand) → r.point ≡ o.point → NameDone (bare all) o c → NameDone (bare all) r c
    same (path.Make p) point h = makes_in_on all o r p.dirs (λ dir. create_call dir p.name) (λ dir t held. create t held dir p.name mode.Guarded) s point h
    same (path.MakeDir p) point h = makes_in_on all o r p.dirs (λ dir. make_dir_call dir p.name) (λ dir t held. mkdir t held dir p.name) s point h
    same (path.Remove p) point h = makes_in_on all o r p.dirs (λ dir. nfs.Remove (place dir p.name)) (λ dir t held. remove t held dir p.name) s point h
    same (path.RemoveDir p) point h = makes_in_on all o r p.dirs (λ dir. nfs.RmDir (place dir p.name)) (λ dir t held. rmdir t held dir p.name) s point h
    same (path.Rename p q) point (dir, first, to, second, leads, more, made) = (dir, first, to, second, subst (λ (b : ℕ). Leads (bare all) b ROOT p.dirs dir first) (sym s.begin) leads, more, makes_on all o r second (rename_call dir p.name to q.name) (λ tree held. rename tree held dir p.name to q.name) s point made)
    same _ point h = absurd h

    by : (r.point ≡ o.point) ⊎ (o.word ≡ words.Close) → NameDone (bare all) r c
    by (inl point) = same c point h
    by (inr close) = absurd (not_close c (sym is ∙ close))

unfound_on : (all : List Moment) (c : PathCommand) (o r : Op) (u : History) → o.word ≡ path_word c → SameWay o r → EndsUnfound all c o u → EndsUnfound all c r u
unfound_on all c o r (told.Refused status) is s h = (refused_on all o r status s h.0, pointless_on c o r is s status (step_of h.0.moment) h.1, h.2)
unfound_on all c o r told.Lost is s h = tt
unfound_on all c o r told.Running is s h = tt
unfound_on all c o r _ is s h = absurd h

already_on : (c : PathCommand) (o r : Op) (u : History) → o.word ≡ path_word c → SameWay o r → (u ≡ told.AlreadyOpen → o.point ≡ None) → u ≡ told.AlreadyOpen → r.point ≡ None
already_on c o r u is s h e = by s.point
  where
    by : (r.point ≡ o.point) ⊎ (o.word ≡ words.Close) → r.point ≡ None
    by (inl same) = same ∙ h e
    by (inr close) = absurd (not_close c (sym is ∙ close))

no_point_on : (c : PathCommand) (o r : Op) → o.word ≡ path_word c → SameWay o r → o.point ≡ None → r.point ≡ None
no_point_on c o r is s none = elim s.point [ inl same ↦ same ∙ none | inr close ↦ absurd (not_close c (sym is ∙ close)) ]

ends_on : (all : List Moment) (c : PathCommand) (o r : Op) (u : History) → o.word ≡ path_word c → SameWay o r → EndsAs all c o u → EndsAs all c r u
ends_on all (path.Find spot) o r u is s (inl h) = inl (finds_on all o r spot s h.0, already_on (path.Find spot) o r u is s h.1, h.2)
ends_on all (path.Find spot) o r u is s (inr h) = inr (s.file ∙ h.0, unfound_on all (path.Find spot) o r u is s h.1)
ends_on all (path.Rewrite spot) o r u is s (inl h) = inl (finds_on all o r spot s h.0, h.1)
ends_on all (path.Rewrite spot) o r u is s (inr h) = inr (s.file ∙ h.0, unfound_on all (path.Rewrite spot) o r u is s h.1)
ends_on all (path.Look spot) o r (told.Seen id k v n) is s h = (seen_on all o r spot id k v n s h.0, s.file ∙ h.1, no_point_on (path.Look spot) o r is s h.2)
ends_on all path.LookRoot o r (told.Seen id k v n) is s h = (root_on all o r id k v n s h.0, (s.file ∙ h.1.0, no_point_on path.LookRoot o r is s h.1.1))
ends_on all (path.List p) o r (told.Names list) is s h = (listed_on all o r p list s h.0, (s.file ∙ h.1.0, no_point_on (path.List p) o r is s h.1.1))
ends_on all (path.List p) o r told.NoLink is s h = (s.file ∙ h.0, no_point_on (path.List p) o r is s h.1)
ends_on all (path.Look p) o r told.Done is s h = absurd h
ends_on all path.LookRoot o r told.Done is s h = absurd h
ends_on all (path.List p) o r told.Done is s h = absurd h
ends_on all k o r told.Done is s h = done_on all k o r is s h
ends_on all k o r u is s h = unfound_on all k o r u is s h

pub is_over : (all : List Moment) (d : Command) (o r : Op) → SameWay o r → IsOver all d o → IsOver all d r
is_over all (command.Named c) o r s (is, inl h) = (s.word ∙ is, inl (s.outcome ∙ h))
is_over all (command.Named c) o r s (is, inr (inl h)) = (s.word ∙ is, inr (inl (s.end ∙ h ∙ ap (λ (n : ℕ). Some n) (sym s.begin))))
is_over all (command.Named c) o r s (is, inr (inr h)) = (s.word ∙ is, inr (inr (subst (EndsAs all c r) (sym s.outcome) (ends_on all c o r o.outcome is s h))))
is_over all _ o r s h = tt

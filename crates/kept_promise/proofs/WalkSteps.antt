-- A client hears the answer to the call of a walk: the next call goes out, or the file that was found is opened, or the operation ends.
use Rattle.std.proofs.Common.{◌⊎◌, inl, inr, ◌≡◌, ℕ, ◌+◌, ◌<◌, ◌≤◌, List, [], ◌∷◌, ◌++◌, Option, Some, None, Bool, true, false, refl, sym, ap, ◌∙◌, subst, arith, map, eq-eqb, IsSome}
use Rattle.xdr_codec.specs.Status.{status_number}
use Rattle.xdr_codec.specs.declared.status.Status.{Status}
use Rattle.xdr_codec.specs.declared.status.Status.TheVariants as status
use Rattle.wire.specs.declared.message.Body.TheVariants as body
use Rattle.nfs3_calls.specs.declared.message.Nfs.{Nfs}
use Rattle.path_calls.specs.Told.{walk_told}
use Rattle.path_calls.specs.declared.answers.Ended.{Ended as WalkEnd}
use Rattle.path_calls.specs.declared.answers.Ended.TheVariants as walk_end
use Rattle.path_calls.specs.declared.answers.Told.{Told as Leading}
use Rattle.path_calls.specs.declared.answers.Told.TheVariants as leading
use Rattle.path_calls.specs.declared.walk.Goal.TheVariants as goal
use Rattle.path_calls.specs.declared.walk.Walk.{Walk}
use Rattle.open_close.specs.Walking.{asks_next, finding, outcome_of, is_look, is_its, seen_in}
use Rattle.client_cache.specs.Cache.{reserved}
use Rattle.client_state.specs.State as client
use Rattle.client_state.specs.Counting.{ends}
use Rattle.client_state.specs.Ending.{forgets as forgets_of}
use Rattle.client_state.specs.declared.step.Outcome.{Outcome as Told_as}
use Rattle.client_state.specs.declared.step.Outcome.TheVariants as outcome
use Rattle.client_state.specs.declared.task.Stage.TheVariants as stage
use Rattle.file_open.specs.Fetching.{asks_kept}
use Rattle.file_open.specs.Rewriting.{asks_version}
use Rattle.register_model.specs.declared.op.Outcome.{Outcome}
use Rattle.register_model.specs.declared.op.Outcome.TheVariants as told
use Rattle.register_model.specs.declared.op.Word.TheVariants as words
use Rattle.trace_replay.specs.Causes.{Within}
use Rattle.trace_replay.specs.Naming.{tree_at, entry_file}
use Rattle.trace_replay.specs.OwnCalls.{held_at}
use Rattle.trace_ends.specs.Ops.{op_ended, file_with, told_of, value_of}
use Rattle.kept_promise.proofs.Common.{cond, ask_message, place_after, Contains, Moment, numbered, slice_set, changes, is_running, has_point, point_if, counted, no_counts, op_after, ClientStep, Stage, Op, Word, Core, Session, Book, Call.Walks, Call.Hash, Call.Lease, Reply.Walked, NameReply, name_answer, Ask, Told, Queue, idle, took, not, Pending, Program, reply_program, nat_lt, nat_tests}
use Rattle.kept_promise.proofs.Keys.{times}
use Rattle.kept_promise.proofs.Lists.{some_is, nothing_there, false_and_true}
use Rattle.kept_promise.proofs.Messages.{hash_offset, Job, goal_word, stage_word, FetchOf, AnswerOf, WalkTold, IsNameOwed, CloseOf, UnmadeBy, PointedBy}
use Rattle.kept_promise.proofs.PathNames.{IsAhead, IsWalkSmall, walk_calls, is_making, is_creating, creates_at, makes_later}
use Rattle.kept_promise.proofs.Rights.{WasWalk, Caused, RefusedBy, IsUnmade, DoneBy}
use Rattle.kept_promise.proofs.Caches.{cached_reserved}
use Rattle.kept_promise.proofs.Facts.{IsSession, IsOf, HasXids, is_naming}
use Rattle.kept_promise.proofs.Heard.{Moves, told_pending, ask_pending, change_once}
use Rattle.kept_promise.proofs.Moves.{moves_single}
use Rattle.kept_promise.proofs.Steps.{speaks_at, spoken_at, goal_not_close, Here, session_at, job_op, on, Quiet, others_in_order}
use Rattle.kept_promise.proofs.Comes.{client_at}
use Rattle.kept_promise.proofs.CloseEnds.{quiet_walked}
use Rattle.kept_promise.proofs.CloseSteps.{calls_are, task_is}
use Rattle.kept_promise.proofs.OpenSteps.{said}
use Rattle.kept_promise.proofs.Commands.{walk_is, hash_first, lease_first, renew_first}
use Rattle.kept_promise.proofs.Acted.{leads_acted, leads_goes, ops_now, place_of}
use Rattle.kept_promise.proofs.StepCases.{IsBad, IsUntold, walk_cases}
use Rattle.kept_promise.proofs.Fresh.{ActsAt}
use Rattle.kept_promise.proofs.WalkEnds.{Leads_to, IsWalkWord, walk_word, walk_op, PointOf, IsAsBefore, leads_over, IsUnseen, unpointed, pointed_open, point_by, leads_opened, leads_emptied}
use Rattle.kept_promise.proofs.WalkFinds.{finding_op, of_file, FindsOn, kept_finds}
use Rattle.kept_promise.proofs.WalkSound.{WalkStep, WalkStep.over, WalkStep.asks, WalkStep.file, WalkStep.anew, EndsFor, untold_making, came_sound}
use Rattle.register_model.specs.Register.{success}
use Rattle.kept_promise.proofs.MakingGoals.{creates_changes, later_changes, changes_later, changes_now, making_left, creates_making, making_unopened, making_unrenewed}
use Rattle.kept_promise.proofs.MakingFiles.{fileless_rename}
use Rattle.tree_calls.specs.Telling.{told as told_by}
use Rattle.path_calls.specs.Walk.{next_call}

-- ---- the step

module _ (book : Book) (k : Core) (qs : List Queue) (n : ℕ) (x : Session) (q : Queue) (t : Told) (ts : List Told) (j : Job) (g : Here book k qs n x q t ts j) (w : Walk) (r : NameReply) (at : j.stage ≡ stage.Walking t.xid w) (is : t.reply ≡ Walked r) (only : client.pending_in (stage.Walking t.xid w) ≡ told_pending t ∷ []) (own : is_its w (name_answer r) ≡ true) where
  abbrev c : client.State
  c = client_at book k qs n x q t ts j g

  abbrev h : IsSession book k.seats k.server n x q
  h = session_at book k qs n x q t ts j g

  abbrev of : IsOf book x.owner j
  of = job_op book k qs x h.seat j g.kept h.owner g.job_is

  fact : (j.file ≡ 0) × IsWalkSmall w
  fact = subst (FetchOf book x.taken j) at ((h.talk g.uncut).fetch j g.job_is)

  heard : WalkTold book x.taken x.closing j t.xid w (name_answer r)
  heard = subst (AnswerOf book x.taken x.closing (Some j) t.xid) is (said book k qs n x q t ts j g) j w refl at

  step : WalkStep w (walk_told w (name_answer r))
  step = came_sound book heard.at heard.moment x.closing j heard.op w (name_answer r) heard.bounded fact.1 heard.came

  word_is : stage_word j.stage ≡ goal_word w.goal
  word_is = ap stage_word at

  word : IsWalkWord (stage_word j.stage)
  word = subst IsWalkWord (sym word_is) (walk_word w.goal fact.1.asking)

  quiet : Quiet k n q
  quiet = quiet_walked book k qs n x q t ts j g w at (ap program_of only)
    where
      program_of : List Pending → Program
      program_of [] = reply_program t.reply
      program_of (p ∷ ps) = p.program

  xids : HasXids c.next_xid (stage.Walking t.xid w)
  xids = subst (HasXids c.next_xid) at ((g.kept.seats x.owner h.seat h.owner).xids j g.job_is)

  op_file : changes of.op.word ≡ false → of.op.file ≡ 0
  op_file e = of.file (ap is_naming at ∙ ap changes (sym word_is ∙ sym of.word) ∙ e) ∙ fact.0

  mine : heard.op ≡ of.op
  mine = some_is heard.op of.op (sym heard.there ∙ of.there)

  began : of.op.begin ≤ heard.moment
  began = subst (λ (z : Op). z.begin ≤ heard.moment) mine heard.after

  -- what is told makes nothing, and so does an open
  made_not : told_by (tree_at heard.at).nodes (next_call w) ≡ Some (name_answer r) → is_making w ≡ false
  made_not told_is = by (is_making w) refl
    where
      by : (b : Bool) → is_making w ≡ b → is_making w ≡ false
      by true e = absurd (untold_making (tree_at heard.at).nodes w.dir w.left w.goal (name_answer r) e told_is)
      by false e = e

  open_not : of.op.word ≡ words.Open → is_making w ≡ false
  open_not opens = by (is_making w) refl
    where
      by : (b : Bool) → is_making w ≡ b → is_making w ≡ false
      by true e = absurd (making_unopened w.left w.goal e (sym word_is ∙ sym of.word ∙ opens))
      by false e = e

  point : (o : Told_as) → PointOf book of.op (point_if (has_point of.op.word o) x.taken t.xid (book.steps + 1) of.op.point)
  point o = elim heard.came [
    | inl tells ↦ point_by book of.op x.taken t.xid heard.moment o (heard.was (made_not tells.0)) began heard.past tells.1
    | inr (inl refuses) ↦ unopened refuses.making
    | inr (inr makes) ↦ unopened makes.making
  ]
    where
      unopened : is_making w ≡ true → PointOf book of.op (point_if (has_point of.op.word o) x.taken t.xid (book.steps + 1) of.op.point)
      unopened making = by (has_point of.op.word o) refl
        where
          by : (b : Bool) → has_point of.op.word o ≡ b → PointOf book of.op (point_if b x.taken t.xid (book.steps + 1) of.op.point)
          by false e = λ m p. inl p
          by true e = absurd (making_unopened w.left w.goal making (sym word_is ∙ sym of.word ∙ pointed_open of.op.word o e))

  moves : (s : Stage) (a : Ask) → client.pending_in s ≡ ask_pending a ∷ [] → Moves (client.calls_of c) (client.pending_in s ++ c.forgotten) t (a ∷ [])
  moves s a e = subst (λ l. Moves l (client.pending_in s ++ c.forgotten) t (a ∷ [])) (sym (calls_are h.seat j g.job_is)) (moves_single (client.pending_in j.stage) (client.pending_in s) c.forgotten t (a ∷ []) (ap client.pending_in at ∙ only) (λ m y. ap (λ (l : List Pending). times y (map m l)) e))

  -- ---- the answer is its call's

  its_told : (z : ℕ) (v : Walk) (m : Nfs) (o : Leading) → stage.Walking t.xid w ≡ stage.Walking z v → body.Nfs (name_answer r) ≡ body.Nfs m → walk_told v m ≡ o → walk_told w (name_answer r) ≡ o
  its_told z v m o same is told = ap (λ (u : Walk). walk_told u (name_answer r)) (walk_is t.xid z w v same) ∙ ap (walk_told v) (answer_is (name_answer r) m is) ∙ told
    where
      answer_is : (a m : Nfs) → body.Nfs a ≡ body.Nfs m → a ≡ m
      answer_is a m e = cc

  -- no fault is in it
  sound : IsUntold (stage.Walking t.xid w) (body.Nfs (name_answer r)) → ⊥
  sound bad = by (walk_told w (name_answer r)) refl (bad t.xid w (name_answer r) refl refl own) step
    where
      by : (o : Leading) → walk_told w (name_answer r) ≡ o → IsBad (walk_told w (name_answer r)) → WalkStep w (walk_told w (name_answer r)) → ⊥
      by o e b (over f is g) = subst IsBad is b
      by o e b (asks v is s l m p) = subst IsBad is b
      by o e b (file id is s m l) = subst IsBad is b
      by o e b (anew id is s m l) = subst IsBad is b

  -- ---- the next call

  -- one that may change a file and has not asked for that yet
  owed : makes_later w.left w.goal ≡ true → IsNameOwed book x.closing j w.goal
  owed later = subst (CloseOf book x.closing h.contents c.next_temp j (client.local_bytes c.opened j.file)) at (h.closes g.uncut j g.job_is) later

  goes_on : (v : Walk) → IsWalkSmall v → walk_calls v + 1 ≤ walk_calls w → goal_word v.goal ≡ goal_word w.goal → (changes (goal_word v.goal) ≡ true → makes_later w.left w.goal ≡ true) → Leads_to book k qs n x q t ts j g (asks_next (idle c) v)
  goes_on v small less same later =
      let s = stage.Walking c.next_xid v in
      let a : Ask = record { lbfs = c.lbfs; xid = c.next_xid; call = Walks v } in
      let next = (g.kept.seats x.owner h.seat h.owner).next.0 in
      let room = xids in
      leads_goes book k qs n x q t ts j g (asks_next (idle c) v).0 (asks_next (idle c) v).1 refl (record {
        to = s;
        next = c.next_xid + 1;
        forgotten = c.forgotten;
        cache = c.cache;
        index = c.index;
        sent = c.sent;
        asks = a ∷ [];
        shows = record {
          quiet = quiet;
          word = same ∙ sym word_is;
          again = record {
            lease = λ y lt e. nothing_there y e;
            hash = λ y o lt e. nothing_there o e;
            commit = λ y lt e. absurd cc;
            walk = λ y u lt e. (let z = xid_is c.next_xid y v u e in omega (arith, z, lt));
            read = λ y d f lt e. absurd cc;
          };
          moves = moves s a refl;
          rising = (omega arith, omega arith);
          asked = (λ i u e f. sym (walk_is c.next_xid c.next_xid v u (ap (λ (z : Job). z.stage) (some_is (on j s) i e) ∙ f)), tt);
          fits = ((omega (arith, room, less), small), tt);
          speak = (speaks_at book k qs n x q t ts j g, tt);
          commits = ((λ making. let o = owed (later (creates_changes v.left v.goal making)) in record { place = j.place; known = o.known; op = o.op; there = o.there; unmade = o.unmade; word_is = o.word_is ∙ sym same; file_is = o.file_is; waited = λ u. ap (λ (z : ℕ). Some (record { place = j.place; file = z; stage = s })) fact.0 }), tt);
          pieces = (tt, tt);
          under = (tt, tt);
          few = let one = change_once a.call in omega (arith, one);
          fetch = (fact.0, small);
          busy = omega arith;
          closes = λ making. let o = owed (later (later_changes v.left v.goal making)) in record { known = o.known; op = o.op; there = o.there; unmade = o.unmade; word_is = o.word_is ∙ sym same; file_is = o.file_is };
          trying = λ m y e. absurd cc;
          xids = omega (arith, room, less);
          bounded = omega (arith, room, less);
          orderly = others_in_order book k qs n x q t ts j g s (c.next_xid + 1) c.forgotten (a ∷ []) word.0 (goal_not_close v.goal) (tt, tt);
        };
        cached = (g.kept.seats x.owner h.seat h.owner).kept;
        state_is = ap (λ (z : ℕ). record c { next_xid = c.next_xid + 1; task = Some (record { file = z; stage = s }) }) (sym fact.0);
        send_is = refl;
        ended_is = refl;
      })
    where
      xid_is : (x y : ℕ) (w v : Walk) → stage.Walking x w ≡ stage.Walking y v → x ≡ y
      xid_is x y w v e = cc

  -- ---- it is over

  -- what it has come to, where it may change a file
  may_change : changes of.op.word ≡ true → changes (goal_word w.goal) ≡ true
  may_change e = sym (ap changes (of.word ∙ word_is)) ∙ e

  refused_so : (s : Status) → walk_told w (name_answer r) ≡ leading.Ends (walk_end.Refused s) → changes (goal_word w.goal) ≡ true → IsUnmade of.op × (x.closing ≡ Some j.place)
  refused_so s led may = by w.left refl
    where
      not_done : walk_told w (name_answer r) ≡ leading.Ends walk_end.Done → ⊥
      not_done e = never (sym led ∙ e)
        where
          never : leading.Ends (walk_end.Refused s) ≡ leading.Ends walk_end.Done → ⊥
          never e = absurd cc

      now : w.left ≡ [] → IsUnmade of.op × (x.closing ≡ Some j.place)
      now left =
          let creating : is_creating w ≡ true = ap (λ (l : List (List ℕ)). creates_at l w.goal) left ∙ changes_now w.goal (subst (λ (l : List (List ℕ)). IsAhead l w.goal) left fact.1.ahead) may in
          elim heard.came [
            | inl tells ↦ absurd (untold_making (tree_at heard.at).nodes w.dir w.left w.goal (name_answer r) (creates_making w.left w.goal creating) tells.0)
            | inr (inl refuses) ↦ let u = subst (λ (b : Bool). UnmadeBy b x.closing j heard.op) creating refuses.unmade in (subst IsUnmade mine u.0, u.2)
            | inr (inr makes) ↦ absurd (not_done makes.leads)
          ]

      by : (l : List (List ℕ)) → w.left ≡ l → IsUnmade of.op × (x.closing ≡ Some j.place)
      by [] left = now left
      by (m ∷ ms) left = let o = owed (ap (λ (l : List (List ℕ)). makes_later l w.goal) left ∙ changes_later m ms w.goal may) in (subst IsUnmade (some_is o.op of.op (sym o.there ∙ of.there)) o.unmade, o.known)

  -- it changed its file; or it's a rename over none, which never will
  done_so : walk_told w (name_answer r) ≡ leading.Ends walk_end.Done → is_making w ≡ true → changes (goal_word w.goal) ≡ true → (IsUnmade of.op × (of.op.file ≡ 0) × (x.closing ≡ Some j.place) × (of.op.word ≡ words.Rename)) ⊎ (of.op.point ≡ Some heard.moment)
  done_so led making may = elim heard.came [
    | inl tells ↦ absurd (untold_making (tree_at heard.at).nodes w.dir w.left w.goal (name_answer r) making tells.0)
    | inr (inl refuses) ↦ absurd (never refuses.why (sym led ∙ refuses.leads))
    | inr (inr makes) ↦ elim (subst (λ (b : Bool). PointedBy b x.closing j heard.op heard.moment (entry_file makes.done.first)) creating makes.pointed) [
      | inl none ↦ inl (subst IsUnmade mine none.1.0, ap (λ (z : Op). z.file) (sym mine) ∙ none.1.1, none.1.2, of.word ∙ word_is ∙ fileless_rename (tree_at heard.at) (held_at heard.at) w makes.done making makes.step_is none.0 may)
      | inr p ↦ inr (ap (λ (z : Op). z.point) (sym mine) ∙ p.3)
    ]
  ]
    where
      left : w.left ≡ []
      left = making_left w.left w.goal making

      creating : is_creating w ≡ true
      creating = ap (λ (l : List (List ℕ)). creates_at l w.goal) left ∙ changes_now w.goal (subst (λ (l : List (List ℕ)). IsAhead l w.goal) left fact.1.ahead) may

      never : (s : Status) → leading.Ends walk_end.Done ≡ leading.Ends (walk_end.Refused s) → ⊥
      never s e = absurd cc

  -- its point, its file and its value are as they were, where it may change a file
  same_point : (o : Told_as) (xid : ℕ) → changes of.op.word ≡ true → point_if (has_point of.op.word o) x.taken xid (book.steps + 1) of.op.point ≡ of.op.point
  same_point o xid e = ap (λ (b : Bool). point_if b x.taken xid (book.steps + 1) of.op.point) (unpointed of.op.word o e)

  unseen : (b : Bool) (e : WalkEnd) → IsUnseen e → file_with of.op.file (seen_in b e) ≡ of.op.file
  unseen true (walk_end.Seen id kind version len) u = absurd u
  unseen _ _ u = refl

  -- what changes no file is as its client left it
  unchanged : (named : ℕ) (p : Option ℕ) (u : Outcome) (v : List ℕ) → changes of.op.word ≡ false → IsAsBefore x.closing j.place of.op None named p u v
  unchanged named p u v unlike = record {
    point = λ c. absurd (false_and_true (changes of.op.word) unlike c);
    file = λ c. absurd (false_and_true (changes of.op.word) unlike c);
    value = λ c. absurd (false_and_true (changes of.op.word) unlike c);
    unmade = λ n z. absurd (false_and_true (changes of.op.word) unlike z.0);
    fails = λ c s n. absurd (false_and_true (changes of.op.word) unlike c);
    made_here = λ m e. nothing_there m e;
  }

  word_of_goal : (z : Word) → goal_word w.goal ≡ z → changes z ≡ false → changes of.op.word ≡ false
  word_of_goal z e unlike = ap changes (of.word ∙ word_is ∙ e) ∙ unlike

  refused_cause : (s : Status) (named : ℕ) (v : List ℕ) (more : Book) → more.moments ≡ book.moments → (changes of.op.word ≡ false → named ≡ 0) → RefusedBy more (walk_op of.op (counted of.op.traffic no_counts) (book.steps + 1) named (point_if (has_point of.op.word (outcome.Refused s)) x.taken t.xid (book.steps + 1) of.op.point) (told.Refused (status_number s)) v) of.op.word (status_number s)
  refused_cause s named v more noted zero_is = by of.op.word refl (subst IsWalkWord (sym of.word) word)
    where
      stale : (s : Status) → of.op.word ≡ words.Open → status_number s ≡ 70 → (p : ℕ) × Within (walk_op of.op (counted of.op.traffic no_counts) (book.steps + 1) named (point_if (has_point of.op.word (outcome.Refused s)) x.taken t.xid (book.steps + 1) of.op.point) (told.Refused (status_number s)) v) p
      stale status.Stale e m = let past = heard.past in (heard.moment, (ap (λ z. point_if (has_point z (outcome.Refused status.Stale)) x.taken t.xid (book.steps + 1) of.op.point) e ∙ ap (λ (z : Option ℕ). Some (Rattle.std.specs.Prelude.unwrap_or z (book.steps + 1))) (heard.was (open_not e)), began, (book.steps + 1, refl, omega (arith, past))))
      stale s e m = absurd (omega (arith, m))

      walk_was : WasWalk more (walk_op of.op (counted of.op.traffic no_counts) (book.steps + 1) named (point_if (has_point of.op.word (outcome.Refused s)) x.taken t.xid (book.steps + 1) of.op.point) (told.Refused (status_number s)) v)
      walk_was = record {
        at = heard.at;
        noted = subst (λ (l : List Moment). Contains l heard.at) (sym noted) heard.noted;
        seat = heard.seat;
        seat_is = ap (λ (z : Op). numbered heard.at.before.seats z.client) (sym mine) ∙ heard.seat_is;
        place = j.place;
        place_is = place_of heard.seat j heard.job_is;
        task = record { file = j.file; stage = j.stage };
        task_is = task_is heard.seat j heard.job_is;
        xid = t.xid;
        walk = w;
        stage_is = at;
        then_op = heard.then_op;
        then_is = heard.then_is;
        then_began = heard.then_began ∙ ap (λ (z : Op). z.begin) mine;
      }

      by : (z : Word) → of.op.word ≡ z → IsWalkWord z → RefusedBy more (walk_op of.op (counted of.op.traffic no_counts) (book.steps + 1) named (point_if (has_point of.op.word (outcome.Refused s)) x.taken t.xid (book.steps + 1) of.op.point) (told.Refused (status_number s)) v) z (status_number s)
      by words.Open e a = inr (zero_is (ap changes e), stale s e, walk_was)
      by words.Rewrite e a = inr (zero_is (ap changes e), walk_was)
      by words.Look e a = tt
      by words.List e a = tt
      by words.Make e a = tt
      by words.Mkdir e a = tt
      by words.Remove e a = tt
      by words.Rename e a = tt
      by words.Rmdir e a = tt
      by words.Close e a = absurd (a.0 refl)
      by _ e a = absurd (remote_not a.1)
        where
          remote_not : false ≡ true → ⊥
          remote_not e = absurd cc

  done_cause : (more : Book) (named : ℕ) (v : List ℕ) → named ≡ of.op.file → walk_told w (name_answer r) ≡ leading.Ends walk_end.Done → is_making w ≡ true → DoneBy more (walk_op of.op (counted of.op.traffic no_counts) (book.steps + 1) named (point_if (has_point of.op.word outcome.Done) x.taken t.xid (book.steps + 1) of.op.point) told.Done v) of.op.word
  done_cause more named v same led making = by of.op.word refl
    where
      pointed : changes of.op.word ≡ true → of.op.point ≡ Some heard.moment → IsSome (point_if (has_point of.op.word outcome.Done) x.taken t.xid (book.steps + 1) of.op.point)
      pointed change is = subst (λ (p : Option ℕ). IsSome p) (sym (same_point outcome.Done t.xid change ∙ is)) refl

      by : (z : Word) → of.op.word ≡ z → DoneBy more (walk_op of.op (counted of.op.traffic no_counts) (book.steps + 1) named (point_if (has_point of.op.word outcome.Done) x.taken t.xid (book.steps + 1) of.op.point) told.Done v) z
      by words.Rewrite e = absurd (making_unrenewed w.left w.goal making (sym word_is ∙ sym of.word ∙ e))
      by words.Make e = elim (done_so led making (may_change (ap changes e))) [ inl none ↦ absurd (apart (sym e ∙ none.3)) | inr is ↦ pointed (ap changes e) is ]
        where
          apart : words.Make ≡ words.Rename → ⊥
          apart e = absurd cc
      by words.Remove e = elim (done_so led making (may_change (ap changes e))) [ inl none ↦ absurd (apart (sym e ∙ none.3)) | inr is ↦ pointed (ap changes e) is ]
        where
          apart : words.Remove ≡ words.Rename → ⊥
          apart e = absurd cc
      by words.Rename e = λ some. elim (done_so led making (may_change (ap changes e))) [ inl none ↦ absurd (never (sym (ap (nat_lt 0) (same ∙ none.1)) ∙ some)) | inr is ↦ pointed (ap changes e) is ]
        where
          never : nat_lt 0 0 ≡ true → ⊥
          never e = absurd cc
      by z e = tt

  ended_cause : (e : WalkEnd) → walk_told w (name_answer r) ≡ leading.Ends e → EndsFor w e → (v : List ℕ) (more : Book) → more.moments ≡ book.moments → Caused more (walk_op of.op (counted of.op.traffic no_counts) (book.steps + 1) (file_with of.op.file (seen_in (is_look w.goal) e)) (point_if (has_point of.op.word (outcome_of e)) x.taken t.xid (book.steps + 1) of.op.point) (told_of (outcome_of e)) v) (told_of (outcome_of e))
  ended_cause walk_end.Done led f v more noted = done_cause more (file_with of.op.file (seen_in (is_look w.goal) walk_end.Done)) v (unseen (is_look w.goal) walk_end.Done tt) led f
  ended_cause (walk_end.Names ns) led f v more noted = of.word ∙ word_is ∙ f
  ended_cause (walk_end.Seen id kind version len) led f v more noted = of.word ∙ word_is ∙ f
  ended_cause (walk_end.Refused s) led f v more noted = refused_cause s (file_with of.op.file (seen_in (is_look w.goal) (walk_end.Refused s))) v more noted (λ e. unseen (is_look w.goal) (walk_end.Refused s) tt ∙ op_file e)
  ended_cause walk_end.NoLink led f v more noted = tt

  not_running : (e : WalkEnd) → is_running (told_of (outcome_of e)) ≡ false
  not_running walk_end.Done = refl
  not_running _ = refl

  -- what was refused is to change nothing any more
  abbrev Before : Option ℕ → WalkEnd → Type 0
  Before made e = IsAsBefore x.closing j.place of.op made (file_with of.op.file (seen_in (is_look w.goal) e)) (point_if (has_point of.op.word (outcome_of e)) x.taken t.xid (book.steps + 1) of.op.point) (told_of (outcome_of e)) (value_of of.op.value (forgets_of (idle c) (client.calls_of c) t.xid) (outcome_of e))

  refused_before : (s : Status) → walk_told w (name_answer r) ≡ leading.Ends (walk_end.Refused s) → changes of.op.word ≡ true → Before (Some j.place) (walk_end.Refused s)
  refused_before s led change =
      let so = refused_so s led (may_change change) in
      record {
        point = λ e. same_point (outcome.Refused s) t.xid e;
        file = λ e. unseen (is_look w.goal) (walk_end.Refused s) tt;
        value = λ e. refl;
        unmade = λ n u. absurd (n refl);
        fails = λ e f n. same_point (outcome.Refused s) t.xid e ∙ so.0.1;
        made_here = λ m e. so.1 ∙ e;
      }

  -- and so is what was done
  done_before : (made : Option ℕ) → walk_told w (name_answer r) ≡ leading.Ends walk_end.Done → changes of.op.word ≡ true → ((made ≡ Some j.place → ⊥) → IsUnmade of.op → ⊥) → ((m : ℕ) → made ≡ Some m → x.closing ≡ Some m) → (success of.op.word of.op.file told.Done ≡ false → of.op.point ≡ None) → Before made walk_end.Done
  done_before made led change past known fails = record {
    point = λ e. same_point outcome.Done t.xid e;
    file = λ e. unseen (is_look w.goal) walk_end.Done tt;
    value = λ e. refl;
    unmade = λ n u. absurd (past n u);
    fails = λ e f n. same_point outcome.Done t.xid e ∙ fails (sym (ap (λ (z : ℕ). success of.op.word z told.Done) (unseen (is_look w.goal) walk_end.Done tt)) ∙ f);
    made_here = known;
  }

  -- what has its point is a success
  succeeds : (z : Word) (f : ℕ) → changes z ≡ true → (z ≡ words.Close → ⊥) → 0 < f → success z f told.Done ≡ true
  succeeds words.Make f may n some = refl
  succeeds words.Remove f may n some = refl
  succeeds words.Rename f may n some = grind (arith, nat_tests, some)
  succeeds words.Close f may n some = absurd (n refl)
  succeeds z f may n some = absurd cc

  abbrev Over : WalkEnd → Type 0
  Over e = Leads_to book k qs n x q t ts j g (forgets_of (idle c) (client.calls_of c) t.xid, record (ends (outcome_of e) t.xid 0) { found = seen_in (is_look w.goal) e })

  over_so : (e : WalkEnd) (made : Option ℕ) → walk_told w (name_answer r) ≡ leading.Ends e → EndsFor w e → Before made e → Over e
  over_so e made led f same = leads_over book k qs n x q t ts j g made (outcome_of e) t.xid (seen_in (is_look w.goal) e) c.opened quiet word (not_running e) (point (outcome_of e)) same (λ more noted grows steps. ended_cause e led f _ more noted) (g.kept.seats x.owner h.seat h.owner).opened

  ends_in : (e : WalkEnd) → walk_told w (name_answer r) ≡ leading.Ends e → EndsFor w e → Over e
  ends_in e led f = by e led f (changes of.op.word) refl
    where
      true_not : true ≡ false → ⊥
      true_not e = absurd cc

      by : (e : WalkEnd) → walk_told w (name_answer r) ≡ leading.Ends e → EndsFor w e → (b : Bool) → changes of.op.word ≡ b → Over e
      by (walk_end.Refused s) led f true change = over_so (walk_end.Refused s) (Some j.place) led f (refused_before s led change)
      by walk_end.Done led f true change = elim (done_so led f (may_change change)) [
        | inl none ↦ over_so walk_end.Done (Some j.place) led f (done_before (Some j.place) led change (λ n u. n refl) (λ m e. none.2 ∙ e) (λ e. none.0.1))
        | inr is ↦
            let fit = g.kept.sound.fits j.place of.op of.there change heard.moment is in
            let some : 0 < of.op.file = let big = fit.0 in omega (arith, big) in
            over_so walk_end.Done None led f (done_before None led change (λ n u. nothing_there heard.moment (sym u.1 ∙ is)) (λ m e. nothing_there m e) (λ e. absurd (true_not (sym (succeeds of.op.word of.op.file change (λ close. word.0 (sym of.word ∙ close)) some) ∙ e))))
      ]
      by (walk_end.Names ns) led f true change = absurd (false_and_true (changes of.op.word) (word_of_goal words.List f refl) change)
      by (walk_end.Seen id kind version len) led f true change = absurd (false_and_true (changes of.op.word) (word_of_goal words.Look f refl) change)
      by walk_end.NoLink led f true change = absurd (false_and_true (changes of.op.word) (word_of_goal words.List f refl) change)
      by e led f false unlike = over_so e None led f (unchanged _ _ _ _ unlike)

  already : (id : ℕ) → changes of.op.word ≡ false → Leads_to book k qs n x q t ts j g (finding id (forgets_of (idle c) (client.calls_of c) t.xid, ends outcome.AlreadyOpen 0 0))
  already id fixed = leads_over book k qs n x q t ts j g None outcome.AlreadyOpen 0 (Some id) c.opened quiet word refl (λ m e. inl (open_unpointed of.op.word m e)) (unchanged _ _ _ _ fixed) (λ more noted grows steps. tt) (g.kept.seats x.owner h.seat h.owner).opened
    where
      open_unpointed : (v : Word) (m : ℕ) → point_if (has_point v outcome.AlreadyOpen) x.taken 0 (book.steps + 1) of.op.point ≡ Some m → of.op.point ≡ Some m
      open_unpointed words.Open m e = e
      open_unpointed v m e = e

  -- ---- a file was found

  finds_on : (id : ℕ) (s : Stage) (a : Ask) (acts : ClientStep) → FindsOn book k qs n x q t ts j g id s a → acts.found ≡ Some id → acts.ended ≡ None → acts.send ≡ map ask_message (a ∷ []) → Leads_to book k qs n x q t ts j g (record c { cache = reserved c.cache id; next_xid = c.next_xid + 1; task = Some (record { file = id; stage = s }); sent = c.clock }, acts)
  finds_on id s a acts shows found ended send =
      let state = record c { cache = reserved c.cache id; next_xid = c.next_xid + 1; task = Some (record { file = id; stage = s }); sent = c.clock } in
      let tr = counted of.op.traffic acts.counts in
      let op_is : op_after of.op state x.taken (book.steps + 1) acts ≡ finding_op of.op tr id =
      ap (λ (z : Option ℕ). op_ended (record of.op { file = file_with of.op.file z; traffic = tr }) state x.taken (book.steps + 1) acts.ended) found
      ∙ ap (λ z. op_ended (finding_op of.op tr id) state x.taken (book.steps + 1) z) ended in
      leads_acted book k qs n x q ts h.seat state acts (Some j.place) (slice_set book.ops j.place (finding_op of.op tr id)) (a ∷ []) g.kept g.at g.is h.owner (h.here g.uncut).0
      (ap (place_after h.seat.place) ended ∙ place_of h.seat j g.job_is)
      (ops_now book x.owner h.seat j of state x.taken acts g.job_is ∙ ap (slice_set book.ops j.place) op_is) send
      (λ seats after around queues. kept_finds book k qs n x q t ts j g id s a (reserved c.cache id) c.clock tr seats after shows (cached_reserved book c.cache id (g.kept.seats x.owner h.seat h.owner).kept) around queues)

  fetches_on : (id : ℕ) → id < 18446744073709551616 → goal_word w.goal ≡ words.Open → 380002 ≤ walk_calls w → FindsOn book k qs n x q t ts j g id (stage.Hashing 1 c.next_xid) (record { lbfs = c.lbfs; xid = c.next_xid; call = Hash id 0 })
  fetches_on id small opens room =
      let first = hash_first c.lbfs c.next_xid id in
      let has = xids in
      record {
        quiet = quiet;
        was = ap changes (word_is ∙ opens);
        word = sym (word_is ∙ opens);
        none = omega arith;
        first = first;
        moves = moves (stage.Hashing 1 c.next_xid) (record { lbfs = c.lbfs; xid = c.next_xid; call = Hash id 0 }) first.pending;
        asked = λ i o e w. (ap (λ (z : Job). z.file) (sym (some_is (of_file j id (stage.Hashing 1 c.next_xid)) i e)), sym (some_is 0 o (sym (ap (λ b. cond b (Some 0) None) (eq-eqb c.next_xid c.next_xid refl)) ∙ ap (λ (z : Job). hash_offset z.stage c.next_xid) (some_is (of_file j id (stage.Hashing 1 c.next_xid)) i e) ∙ w)));
        fits = (omega (arith, has, room), small, omega arith, spoken_at book k qs n x q t ts j g);
        speaks = speaks_at book k qs n x q t ts j g;
        piece = tt;
        under = tt;
        fetching = (tt, tt);
        fetch = λ more. tt;
        closes = λ more. tt;
        tries = λ m y e. sym (tries_are m y e);
        xids = (3, refl, omega (arith, has, room));
        bounded = omega (arith, has, room);
      }
    where
      tries_are : (m y : ℕ) → stage.Hashing 1 c.next_xid ≡ stage.Hashing m y → 1 ≡ m
      tries_are m y e = ap tries_of e
        where
          tries_of : Stage → ℕ
          tries_of (stage.Hashing n z) = n
          tries_of s = 0

  leases_on : (id : ℕ) → id < 18446744073709551616 → goal_word w.goal ≡ words.Open → 380002 ≤ walk_calls w → FindsOn book k qs n x q t ts j g id (stage.Asking c.next_xid) (record { lbfs = c.lbfs; xid = c.next_xid; call = Lease id })
  leases_on id small opens room =
      let first = lease_first c.lbfs c.next_xid id in
      let has = xids in
      record {
        quiet = quiet;
        was = ap changes (word_is ∙ opens);
        word = sym (word_is ∙ opens);
        none = omega arith;
        first = first;
        moves = moves (stage.Asking c.next_xid) (record { lbfs = c.lbfs; xid = c.next_xid; call = Lease id }) first.pending;
        asked = λ i e w. ap (λ (z : Job). z.file) (sym (some_is (of_file j id (stage.Asking c.next_xid)) i e));
        fits = (omega (arith, has, room), small, spoken_at book k qs n x q t ts j g);
        speaks = speaks_at book k qs n x q t ts j g;
        piece = tt;
        under = tt;
        fetching = (tt, tt);
        fetch = λ more. tt;
        closes = λ more. tt;
        tries = λ m y e. absurd cc;
        xids = omega (arith, has, room);
        bounded = omega (arith, has, room);
      }

  renews_on : (id : ℕ) → id < 18446744073709551616 → goal_word w.goal ≡ words.Rewrite → 1 ≤ walk_calls w → FindsOn book k qs n x q t ts j g id (stage.Rewriting c.next_xid) (record { lbfs = c.lbfs; xid = c.next_xid; call = Lease id })
  renews_on id small renews room =
      let first = renew_first c.lbfs c.next_xid id in
      let has = xids in
      record {
        quiet = quiet;
        was = ap changes (word_is ∙ renews);
        word = sym (word_is ∙ renews);
        none = omega arith;
        first = first;
        moves = moves (stage.Rewriting c.next_xid) (record { lbfs = c.lbfs; xid = c.next_xid; call = Lease id }) first.pending;
        asked = λ i e w. ap (λ (z : Job). z.file) (sym (some_is (of_file j id (stage.Rewriting c.next_xid)) i e));
        fits = (omega (arith, has, room), small, spoken_at book k qs n x q t ts j g);
        speaks = speaks_at book k qs n x q t ts j g;
        piece = tt;
        under = tt;
        fetching = (tt, tt);
        fetch = λ more. tt;
        closes = λ more. tt;
        tries = λ m y e. absurd cc;
        xids = omega (arith, has, room);
        bounded = omega (arith, has, room);
      }

  -- ---- by what is told

  asks_as : (v : Walk) → walk_told w (name_answer r) ≡ leading.Asks v → WalkStep w (walk_told w (name_answer r)) → Leads_to book k qs n x q t ts j g (asks_next (idle c) v)
  asks_as v e (asks u is small less same later) = subst (λ (z : Walk). Leads_to book k qs n x q t ts j g (asks_next (idle c) z)) (told_same u v (sym is ∙ e)) (goes_on u small less same later)
    where
      told_same : (u v : Walk) → leading.Asks u ≡ leading.Asks v → u ≡ v
      told_same u v e = cc
  asks_as v e (over f is g) = absurd (apart f v (sym is ∙ e))
    where
      apart : (f : WalkEnd) (v : Walk) → leading.Ends f ≡ leading.Asks v → ⊥
      apart f v e = cc
  asks_as v e (file id is s m l) = absurd (apart id v (sym is ∙ e))
    where
      apart : (id : ℕ) (v : Walk) → leading.Finds id ≡ leading.Asks v → ⊥
      apart id v e = cc
  asks_as v e (anew id is s m l) = absurd (apart id v (sym is ∙ e))
    where
      apart : (id : ℕ) (v : Walk) → leading.Rewrites id ≡ leading.Asks v → ⊥
      apart id v e = cc

  ends_as : (f : WalkEnd) → walk_told w (name_answer r) ≡ leading.Ends f → WalkStep w (walk_told w (name_answer r)) → EndsFor w f
  ends_as f e (over u is for) = subst (EndsFor w) (told_same u f (sym is ∙ e)) for
    where
      told_same : (u v : WalkEnd) → leading.Ends u ≡ leading.Ends v → u ≡ v
      told_same u v e = cc
  ends_as f e (asks v is s l m p) = absurd (apart f v (sym is ∙ e))
    where
      apart : (f : WalkEnd) (v : Walk) → leading.Asks v ≡ leading.Ends f → ⊥
      apart f v e = cc
  ends_as f e (file id is s m l) = absurd (apart id f (sym is ∙ e))
    where
      apart : (id : ℕ) (f : WalkEnd) → leading.Finds id ≡ leading.Ends f → ⊥
      apart id f e = cc
  ends_as f e (anew id is s m l) = absurd (apart id f (sym is ∙ e))
    where
      apart : (id : ℕ) (f : WalkEnd) → leading.Rewrites id ≡ leading.Ends f → ⊥
      apart id f e = cc

  finds_as : (id : ℕ) → walk_told w (name_answer r) ≡ leading.Finds id → WalkStep w (walk_told w (name_answer r)) → (id < 18446744073709551616) × (goal_word w.goal ≡ words.Open) × (380002 ≤ walk_calls w)
  finds_as id e (file u is small opens room) = (subst (λ (z : ℕ). z < 18446744073709551616) (told_same u id (sym is ∙ e)) small, opens, room)
    where
      told_same : (u v : ℕ) → leading.Finds u ≡ leading.Finds v → u ≡ v
      told_same u v e = cc
  finds_as id e (over f is g) = absurd (apart f id (sym is ∙ e))
    where
      apart : (f : WalkEnd) (v : ℕ) → leading.Ends f ≡ leading.Finds v → ⊥
      apart f v e = cc
  finds_as id e (asks v is s l m p) = absurd (apart id v (sym is ∙ e))
    where
      apart : (id : ℕ) (v : Walk) → leading.Asks v ≡ leading.Finds id → ⊥
      apart id v e = cc
  finds_as id e (anew u is s l m) = absurd (apart u id (sym is ∙ e))
    where
      apart : (u v : ℕ) → leading.Rewrites u ≡ leading.Finds v → ⊥
      apart u v e = cc

  anew_as : (id : ℕ) → walk_told w (name_answer r) ≡ leading.Rewrites id → WalkStep w (walk_told w (name_answer r)) → (id < 18446744073709551616) × (goal_word w.goal ≡ words.Rewrite) × (1 ≤ walk_calls w)
  anew_as id e (anew u is small renews room) = (subst (λ (z : ℕ). z < 18446744073709551616) (told_same u id (sym is ∙ e)) small, renews, room)
    where
      told_same : (u v : ℕ) → leading.Rewrites u ≡ leading.Rewrites v → u ≡ v
      told_same u v e = cc
  anew_as id e (over f is g) = absurd (apart f id (sym is ∙ e))
    where
      apart : (f : WalkEnd) (v : ℕ) → leading.Ends f ≡ leading.Rewrites v → ⊥
      apart f v e = cc
  anew_as id e (asks v is s l m p) = absurd (apart id v (sym is ∙ e))
    where
      apart : (id : ℕ) (v : Walk) → leading.Asks v ≡ leading.Rewrites id → ⊥
      apart id v e = cc
  anew_as id e (file u is s l m) = absurd (apart u id (sym is ∙ e))
    where
      apart : (u v : ℕ) → leading.Finds u ≡ leading.Rewrites v → ⊥
      apart u v e = cc

  pub leads_walked : ((took (idle c) (client.calls_of c) j.file (stage.Walking t.xid w) t.xid (body.Nfs (name_answer r))).1.send ≡ [] → ActsAt book k x.owner h.seat []) → Leads_to book k qs n x q t ts j g (took (idle c) (client.calls_of c) j.file (stage.Walking t.xid w) t.xid (body.Nfs (name_answer r)))
  leads_walked = walk_cases (λ r. (r.1.send ≡ [] → ActsAt book k x.owner h.seat []) → Leads_to book k qs n x q t ts j g r) (idle c) (client.calls_of c) j.file t.xid w t.xid (body.Nfs (name_answer r)) (record {
    fault = λ f bad acts. absurd (sound bad);
    asks = λ v k acts. asks_as v (its_told k.asked k.walk k.answer (leading.Asks v) k.stage_is k.body_is k.told_is) step;
    open_already = λ id k is acts. already id (word_of_goal words.Open (finds_as id (its_told k.asked k.walk k.answer (leading.Finds id) k.stage_is k.body_is k.told_is) step).1 refl);
    renew_already = λ id k is acts. already id (word_of_goal words.Rewrite (anew_as id (its_told k.asked k.walk k.answer (leading.Rewrites id) k.stage_is k.body_is k.told_is) step).1 refl);
    renews = λ id k shut acts. (let f = anew_as id (its_told k.asked k.walk k.answer (leading.Rewrites id) k.stage_is k.body_is k.told_is) step in finds_on id (stage.Rewriting c.next_xid) (record { lbfs = c.lbfs; xid = c.next_xid; call = Lease id }) (finding id (asks_version (record (idle c) { cache = reserved c.cache id }) id)).1 (renews_on id f.0 f.1 f.2) refl refl refl);
    fetches = λ id k shut none acts. (let f = finds_as id (its_told k.asked k.walk k.answer (leading.Finds id) k.stage_is k.body_is k.told_is) step in finds_on id (stage.Hashing 1 c.next_xid) (record { lbfs = c.lbfs; xid = c.next_xid; call = Hash id 0 }) (finding id (asks_kept (record (idle c) { cache = reserved c.cache id }) id None)).1 (fetches_on id f.0 f.1 f.2) refl refl refl);
    leases = λ id v k shut some acts. (let f = finds_as id (its_told k.asked k.walk k.answer (leading.Finds id) k.stage_is k.body_is k.told_is) step in finds_on id (stage.Asking c.next_xid) (record { lbfs = c.lbfs; xid = c.next_xid; call = Lease id }) (finding id (asks_kept (record (idle c) { cache = reserved c.cache id }) id (Some v))).1 (leases_on id f.0 f.1 f.2) refl refl refl);
    opens_now = λ id v z shut fresh acts. leads_opened book k qs n x q t ts j g quiet word id v fresh (acts refl) (of.word ∙ word_is ∙ (finds_as id (its_told z.asked z.walk z.answer (leading.Finds id) z.stage_is z.body_is z.told_is) step).1);
    empties_now = λ id v z shut fresh acts. leads_emptied book k qs n x q t ts j g quiet word id v fresh (acts refl) (of.word ∙ word_is ∙ (anew_as id (its_told z.asked z.walk z.answer (leading.Rewrites id) z.stage_is z.body_is z.told_is) step).1);
    ends = λ v e b same acts. subst (λ (z : Walk). Leads_to book k qs n x q t ts j g (forgets_of (idle c) (client.calls_of c) t.xid, record (ends (outcome_of e) t.xid 0) { found = seen_in (is_look z.goal) e })) (walk_is t.xid b.asked w b.walk b.stage_is ∙ same) (let told = its_told b.asked b.walk b.answer (leading.Ends e) b.stage_is b.body_is b.told_is in ends_in e told (ends_as e told step));
  })

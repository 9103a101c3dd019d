-- An operation on names ends by the answer to a call of its walk, or at once, where the file that was found is fresh.
use Rattle.std.proofs.Common.{length, ◌⊎◌, inl, inr, ◌≡◌, ℕ, ◌+◌, ◌≤◌, List, [], Option, Some, None, Bool, true, false, refl, sym, ap, ◌∙◌, subst, arith, IsSome}
use Rattle.path_calls.specs.declared.answers.Ended.{Ended as WalkEnd}
use Rattle.path_calls.specs.declared.answers.Ended.TheVariants as walk_end
use Rattle.path_calls.specs.declared.walk.Goal.{Goal}
use Rattle.path_calls.specs.declared.walk.Goal.TheVariants as goal
use Rattle.open_close.specs.Walking.{finding}
use Rattle.client_state.specs.State as client
use Rattle.client_state.specs.Counting.{ends}
use Rattle.client_state.specs.Ending.{forgets as forgets_of}
use Rattle.client_state.specs.declared.step.Outcome.{Outcome as Told_as}
use Rattle.client_state.specs.declared.step.Outcome.TheVariants as outcome
use Rattle.client_state.specs.declared.task.Stage.TheVariants as stage
use Rattle.register_model.specs.declared.op.Outcome.{Outcome}
use Rattle.register_model.specs.declared.op.Outcome.TheVariants as told
use Rattle.register_model.specs.declared.op.Word.TheVariants as words
use Rattle.trace_ends.specs.Ops.{file_with, told_of, taken_at, value_of}
use Rattle.kept_promise.proofs.Common.{TakenCall, Moment, numbered, slice_get, slice_set, changes, is_running, has_point, point_if, counted, no_counts, ClientStep, Op, Word, Traffic, Core, Session, Book, Told, Queue, idle, acted, not, is_untold}
use Rattle.kept_promise.proofs.Lists.{some_is, nothing_there, false_and_true, true_and_false, same_or_not}
use Rattle.kept_promise.proofs.Messages.{Job, goal_word, stage_word}
use Rattle.kept_promise.proofs.PathNames.{IsAsking}
use Rattle.kept_promise.proofs.Rights.{AreLeased, EndsFresh, WasThere, RenewedNow, is_remote, may_point, Caused, IsUnmade, DoneBy}
use Rattle.kept_promise.proofs.History.{onward, Becomes, grows_becomes}
use Rattle.kept_promise.proofs.Later.{cached_later}
use Rattle.kept_promise.proofs.Fresh.{ActsAt, fresh_short, fresh_there, fresh_value, fresh_some, fresh_ends}
use Rattle.kept_promise.proofs.Growth.{Grows, value_later, or_later, there_later}
use Rattle.client_cache.specs.declared.kept.Content.{Content}
use Rattle.file_open.specs.Caching.{fresh_content}
use Rattle.file_open.specs.Fetching.{opens_fresh}
use Rattle.file_open.specs.Rewriting.{empties_fresh}
use Rattle.kept_promise.proofs.Common.{option_map, unwrap_or, sha1, Local, value_at, step_of, local_at_itself, local_at_another}
use Rattle.kept_promise.proofs.Facts.{IsSession, IsOf}
use Rattle.kept_promise.proofs.Leading.{Leads}
use Rattle.kept_promise.proofs.Steps.{goal_not_close, Here, session_at, job_op, Quiet, Stops, kept_stops}
use Rattle.kept_promise.proofs.Comes.{client_at, op_at, Opened_ok}
use Rattle.kept_promise.proofs.CloseEnds.{forgets}
use Rattle.kept_promise.proofs.Acted.{rest_down, leads_acted, ops_now}
use Rattle.register_model.specs.Register.{success}

-- the step leads to the facts again
abbrev pub Leads_to : (book : Book) (k : Core) (qs : List Queue) (n : ℕ) (x : Session) (q : Queue) (t : Told) (ts : List Told) (j : Job) → Here book k qs n x q t ts j → client.State × ClientStep → Type 0
Leads_to book k qs n x q t ts j g r = Leads book (rest_down qs n q ts) (acted k x.owner (session_at book k qs n x q t ts j g).seat r.0 r.1)

-- ---- what a walk is for

abbrev pub IsWalkWord : Word → Type 0
IsWalkWord w = (w ≡ words.Close → ⊥) × (is_remote w ≡ true)

pub walk_word : (g : Goal) → IsAsking g → IsWalkWord (goal_word g)
walk_word g h = (goal_not_close g, by g h)
  where
    by : (g : Goal) → IsAsking g → is_remote (goal_word g) ≡ true
    by (goal.Find n) h = refl
    by _ h = refl

-- ---- it ends

-- the operation that ended
abbrev pub walk_op : Op → Traffic → (step named : ℕ) → Option ℕ → Outcome → List ℕ → Op
walk_op o tr step named p u v = record o { file = named; end = Some step; point = p; outcome = u; value = v; traffic = tr }

-- its point is one that it had, or that of an open: a moment within it, its last step too, in which no change was made
abbrev pub PointOf : Book → Op → Option ℕ → Type 0
PointOf book o p = (m : ℕ) → p ≡ Some m → (o.point ≡ Some m) ⊎ ((o.word ≡ words.Open) × (o.begin ≤ m) × (m ≤ book.steps + 1) × ((i : ℕ) → slice_get book.entries i ≡ Some m → ⊥))

-- one that may change a file is as it was, but for how it ended; where that is no success, it has no point, and none that is to come
pub record IsAsBefore (closing : Option ℕ) (place : ℕ) (o : Op) (made : Option ℕ) (named : ℕ) (p : Option ℕ) (u : Outcome) (v : List ℕ) : Type 0 where
  pub point : changes o.word ≡ true → p ≡ o.point
  pub file : changes o.word ≡ true → named ≡ o.file
  pub value : changes o.word ≡ true → v ≡ o.value
  pub unmade : (made ≡ Some place → ⊥) → IsUnmade o → is_untold u ≡ true
  pub fails : changes o.word ≡ true → success o.word named u ≡ false → is_untold u ≡ false → p ≡ None
  pub made_here : (m : ℕ) → made ≡ Some m → closing ≡ Some m

becomes_over : (book : Book) (o : Op) (place : ℕ) (tr : Traffic) (closing made : Option ℕ) (named : ℕ) (p : Option ℕ) (u : Outcome) (v : List ℕ) → IsWalkWord o.word → PointOf book o p → IsAsBefore closing place o made named p u v → Becomes book made (Some place) place o (walk_op o tr (book.steps + 1) named p u v)
becomes_over book o place tr closing made named p u v w point same = record {
  follows = record {
    client = refl;
    word = refl;
    file = λ n g. absurd (n refl);
    close_file = λ c. absurd (w.0 c);
    own_file = λ c n. same.file c;
    begin = refl;
    point = λ c q e. (same.point c ∙ e, same.file c);
    value = λ c. same.value c;
    unmade = λ n z. (z.0, same.point z.0 ∙ z.1, same.unmade n z);
    end = λ e s. let is = some_is (book.steps + 1) e s in inr (omega (arith, is));
    running = λ n e. absurd (n refl);
  };
  change_point = λ c. same.point c;
  change_file = λ c. same.file c;
  point = λ m e. elim (point m e) [ inl was ↦ inl was | inr new ↦ inr (new.0, new.3) ];
}

pub running_not : (u : Outcome) → is_running u ≡ false → u ≡ told.Running → ⊥
running_not u s e = false_and_true (is_running u) s (ap is_running e)

stops_over : (book : Book) (k : Core) (qs : List Queue) (n : ℕ) (x : Session) (q : Queue) (t : Told) (ts : List Told) (j : Job) (g : Here book k qs n x q t ts j) (tr : Traffic) (made : Option ℕ) (named : ℕ) (p : Option ℕ) (u : Outcome) (v : List ℕ) (opened : List (ℕ × Local)) → Quiet k n q → IsWalkWord (stage_word j.stage) → is_running u ≡ false → PointOf book (op_at book k qs n x q t ts j g) p
    → IsAsBefore x.closing j.place (op_at book k qs n x q t ts j g) made named p u v
    → ((more : Book) → more.moments ≡ book.moments → Grows book more made (Some j.place) → more.steps ≡ book.steps + 1 → Caused more (walk_op (op_at book k qs n x q t ts j g) tr (book.steps + 1) named p u v) u) → Opened_ok book opened
    → Stops book k qs n x q t ts j g (walk_op (op_at book k qs n x q t ts j g) tr (book.steps + 1) named p u v) made opened (client.without_call (client.calls_of (client_at book k qs n x q t ts j g)) t.xid)
stops_over book k qs n x q t ts j g tr made named p u v opened quiet word stopped_ point same cause ok =
    let h = session_at book k qs n x q t ts j g in
    let of = job_op book k qs x h.seat j g.kept h.owner g.job_is in
    let r = walk_op of.op tr (book.steps + 1) named p u v in
    let more = onward book 1 (slice_set book.ops j.place r) in
    let w : IsWalkWord of.op.word = subst IsWalkWord (sym of.word) word in
    let right = g.kept.sound.rights j.place of.op of.there in
    let became = becomes_over book of.op j.place tr x.closing made named p u v w point same in
    record {
      quiet = quiet;
      moves = forgets book k qs n x q t ts j g;
      becomes = became;
      right = record {
        cause = cause more refl (grows_becomes book 1 made (Some j.place) j.place of.op r of.there became) refl;
        begun = let b = right.begun in omega (arith, b);
        pointed = λ m e. elim (point m e) [
          | inl was ↦ let old = right.pointed m was in let le = old.1 in (old.0, omega (arith, le), old.2)
          | inr new ↦ let le = new.2 in (new.1, omega (arith, le), ap may_point new.0)
        ];
        past = λ e s. let is = some_is (book.steps + 1) e s in let b = right.begun in (omega (arith, b, is), omega (arith, is));
        ends = sym (ap not stopped_);
        within = λ l m e f s. let is = some_is (book.steps + 1) e s in elim (point m f) [
          | inl was ↦ let old = right.pointed m was in let le = old.1 in omega (arith, le, is)
          | inr new ↦ let le = new.2 in omega (arith, le, is)
        ];
        failed = λ c s n. same.fails c s n;
      };
      stops = λ e. running_not u stopped_ e;
      over = inl (word.0);
      made_here = same.made_here;
      opened_ok = ok;
    }

pub leads_over : (book : Book) (k : Core) (qs : List Queue) (n : ℕ) (x : Session) (q : Queue) (t : Told) (ts : List Told) (j : Job) (g : Here book k qs n x q t ts j) (made : Option ℕ) (o : Told_as) (rests : ℕ) (found : Option ℕ) (opened : List (ℕ × Local)) → Quiet k n q → IsWalkWord (stage_word j.stage) → is_running (told_of o) ≡ false
    → (let op = op_at book k qs n x q t ts j g in
    let named = file_with op.file found in
    let p = point_if (has_point op.word o) x.taken rests (book.steps + 1) op.point in
    let v = value_of op.value (record (forgets_of (idle (client_at book k qs n x q t ts j g)) (client.calls_of (client_at book k qs n x q t ts j g)) t.xid) { opened = opened }) o in
    PointOf book op p → IsAsBefore x.closing j.place op made named p (told_of o) v → ((more : Book) → more.moments ≡ book.moments → Grows book more made (Some j.place) → more.steps ≡ book.steps + 1 → Caused more (walk_op op (counted op.traffic no_counts) (book.steps + 1) named p (told_of o) v) (told_of o)) → Opened_ok book opened
    → Leads_to book k qs n x q t ts j g (record (forgets_of (idle (client_at book k qs n x q t ts j g)) (client.calls_of (client_at book k qs n x q t ts j g)) t.xid) { opened = opened }, record (ends o rests 0) { found = found }))
leads_over book k qs n x q t ts j g made o rests found opened quiet word stops point same cause ok =
    let h = session_at book k qs n x q t ts j g in
    let of = job_op book k qs x h.seat j g.kept h.owner g.job_is in
    let c : client.State = record (forgets_of (idle h.seat.client) (client.calls_of h.seat.client) t.xid) { opened = opened } in
    let acts : ClientStep = record (ends o rests 0) { found = found } in
    let r = walk_op of.op (counted of.op.traffic no_counts) (book.steps + 1) (file_with of.op.file found) (point_if (has_point of.op.word o) x.taken rests (book.steps + 1) of.op.point) (told_of o) (value_of of.op.value c o) in
    let shows = stops_over book k qs n x q t ts j g (counted of.op.traffic no_counts) made (file_with of.op.file found) (point_if (has_point of.op.word o) x.taken rests (book.steps + 1) of.op.point) (told_of o) (value_of of.op.value c o) opened quiet word stops point same cause ok in
    leads_acted book k qs n x q ts h.seat c acts None (slice_set book.ops j.place r) [] g.kept g.at g.is h.owner (h.here g.uncut).0 refl (ops_now book x.owner h.seat j of c x.taken acts g.job_is) refl
    (λ seats after around queues. kept_stops book k qs n x q t ts j g r made opened (client.without_call (client.calls_of h.seat.client) t.xid) h.seat.client.cache h.seat.client.index seats after shows (cached_later book (onward book 1 (slice_set book.ops j.place r)) made (Some j.place) h.seat.client.cache (grows_becomes book 1 made (Some j.place) j.place of.op r of.there shows.becomes) (g.kept.seats x.owner h.seat h.owner).kept) around queues)

-- what is seen has a file, and nothing else
abbrev pub IsUnseen : WalkEnd → Type 0
IsUnseen (walk_end.Seen id kind version len) = ⊥
IsUnseen e = Unit {0}

-- what may change a file has no point by how it ends
pub unpointed : (w : Word) (o : Told_as) → changes w ≡ true → has_point w o ≡ false
unpointed words.Close o e = refl
unpointed words.Make o e = refl
unpointed words.Remove o e = refl
unpointed words.Rename o e = refl
unpointed w o e = absurd cc

-- where an outcome has a point, it is that of an open
pub pointed_open : (w : Word) (o : Told_as) → has_point w o ≡ true → w ≡ words.Open
pointed_open words.Open o e = refl
pointed_open w o e = absurd cc

pub point_by : (book : Book) (op : Op) (taken : List TakenCall) (xid moment : ℕ) (o : Told_as) → taken_at taken xid ≡ Some moment → op.begin ≤ moment → moment ≤ book.steps → ((i : ℕ) → slice_get book.entries i ≡ Some moment → ⊥) → PointOf book op (point_if (has_point op.word o) taken xid (book.steps + 1) op.point)
point_by book op taken xid moment o was after past apart = by (has_point op.word o) refl
  where
    by : (b : Bool) → has_point op.word o ≡ b → PointOf book op (point_if b taken xid (book.steps + 1) op.point)
    by false e = λ m p. inl p
    by true e = λ m p.
        let same = ap (λ (z : Option ℕ). unwrap_or z (book.steps + 1)) (sym was) ∙ some_is (unwrap_or (taken_at taken xid) (book.steps + 1)) m p in
        inr (pointed_open op.word o e, omega (arith, after, same), omega (arith, past, same), λ i at. apart i (at ∙ ap (λ z. Some z) (sym same)))

-- ---- what was found is fresh

-- one that changes no file is as it was, but for how it ended
pub as_before : (closing : Option ℕ) (place : ℕ) (o : Op) (named : ℕ) (p : Option ℕ) (u : Outcome) (v : List ℕ) → changes o.word ≡ false → IsAsBefore closing place o None named p u v
as_before closing place o named p u v unlike = record {
  point = λ c. absurd (true_and_false (changes o.word) c unlike);
  file = λ c. absurd (true_and_false (changes o.word) c unlike);
  value = λ c. absurd (true_and_false (changes o.word) c unlike);
  unmade = λ m z. absurd (true_and_false (changes o.word) z.0 unlike);
  fails = λ c. absurd (true_and_false (changes o.word) c unlike);
  made_here = λ m e. nothing_there m e;
}

module _ (book : Book) (k : Core) (qs : List Queue) (n : ℕ) (x : Session) (q : Queue) (t : Told) (ts : List Told) (j : Job) (g : Here book k qs n x q t ts j) (quiet : Quiet k n q) (word : IsWalkWord (stage_word j.stage)) (id : ℕ) (v : Content) (fresh : fresh_content (client_at book k qs n x q t ts j g).cache id (client_at book k qs n x q t ts j g).clock ≡ Some v) (acts : ActsAt book k x.owner (session_at book k qs n x q t ts j g).seat []) where
  abbrev h : IsSession book k.seats k.server n x q
  h = session_at book k qs n x q t ts j g

  abbrev c : client.State
  c = h.seat.client

  abbrev of : IsOf book x.owner j
  of = job_op book k qs x h.seat j g.kept h.owner g.job_is

  abbrev with_bytes : List ℕ → List (ℕ × Local)
  with_bytes bytes = client.with_local c.opened id (record { version = v.version; bytes = bytes })

  ok : (bytes : List ℕ) → length bytes ≤ 67108864 → Opened_ok book (with_bytes bytes)
  ok bytes short f l is = elim (same_or_not f id) [
    | inr apart ↦ (g.kept.seats x.owner h.seat h.owner).opened f l (sym (local_at_another c.opened id (record { version = v.version; bytes = bytes }) f apart) ∙ is)
    | inl same ↦
        let e : record { version = v.version; bytes = bytes } ≡ l = some_is (record { version = v.version; bytes = bytes }) l (sym (local_at_itself c.opened id (record { version = v.version; bytes = bytes })) ∙ ap (client.local_at (with_bytes bytes)) (sym same) ∙ is) in
        (subst (λ (z : ℕ). WasThere book z) (sym same) (fresh_there book k qs x.owner h.seat g.kept h.owner id v fresh), subst (λ (z : Local). length z.bytes ≤ 67108864) e short)
  ]

  begun : of.op.begin ≤ book.steps
  begun = (g.kept.sound.rights j.place of.op of.there).begun

  none : taken_at x.taken 0 ≡ None
  none = (h.talk g.uncut).numbered.1

  own_step : (o : Told_as) → has_point of.op.word o ≡ true → point_if (has_point of.op.word o) x.taken 0 (book.steps + 1) of.op.point ≡ Some (book.steps + 1)
  own_step o e = ap (λ (b : Bool). point_if b x.taken 0 (book.steps + 1) of.op.point) e ∙ ap (λ (z : Option ℕ). Some (unwrap_or z (book.steps + 1))) none

  point : (o : Told_as) → PointOf book of.op (point_if (has_point of.op.word o) x.taken 0 (book.steps + 1) of.op.point)
  point o = by (has_point of.op.word o) refl
    where
      by : (b : Bool) → has_point of.op.word o ≡ b → PointOf book of.op (point_if b x.taken 0 (book.steps + 1) of.op.point)
      by false e = λ m p. inl p
      by true e = λ m p.
          let same : book.steps + 1 ≡ m = ap (λ (z : Option ℕ). unwrap_or z (book.steps + 1)) (sym none) ∙ some_is (unwrap_or (taken_at x.taken 0) (book.steps + 1)) m p in
          let le = begun in
          inr (pointed_open of.op.word o e, omega (arith, le, same), omega (arith, same), λ i at. (let past = (g.kept.sound.past i m at).1 in absurd (omega (arith, past, same))))

  at_step : step_of acts.at ≡ book.steps + 1
  at_step = ap (λ (s : ℕ). s + 1) (acts.steps_is ∙ sym g.kept.steps)

  pub leads_opened : of.op.word ≡ words.Open → Leads_to book k qs n x q t ts j g (finding id (opens_fresh (forgets_of (idle c) (client.calls_of c) t.xid) id v))
  leads_opened opens = leads_over book k qs n x q t ts j g None o 0 (Some id) (with_bytes v.bytes) quiet word refl (point o) (as_before x.closing j.place of.op _ _ _ _ (ap changes opens)) cause (ok v.bytes (fresh_short book k qs x.owner h.seat g.kept h.owner id v fresh))
    where
      o : Told_as
      o = outcome.Opened id (length v.bytes) (sha1 v.bytes)

      local_is : client.local_bytes (with_bytes v.bytes) id ≡ v.bytes
      local_is = ap (λ (l : Option Local). unwrap_or (option_map (λ (z : Local). z.bytes) l) []) (local_at_itself c.opened id (record { version = v.version; bytes = v.bytes }))

      p : Option ℕ
      p = point_if (has_point of.op.word (outcome.Opened id (length v.bytes) (sha1 v.bytes))) x.taken 0 (book.steps + 1) of.op.point

      cause : (more : Book) → more.moments ≡ book.moments → Grows book more None (Some j.place) → more.steps ≡ book.steps + 1 → Caused more (walk_op of.op (counted of.op.traffic no_counts) (book.steps + 1) id p (told.Opened (length v.bytes) (sha1 v.bytes)) (client.local_bytes (with_bytes v.bytes) id)) (told.Opened (length v.bytes) (sha1 v.bytes))
      cause more moments grows steps = (
        opens,
        record {
          length_is = ap (λ (l : List ℕ). length l) (sym local_is);
          digest_is = ap sha1 (sym local_is);
          point = book.steps + 1;
          within = (own_step (outcome.Opened id (length v.bytes) (sha1 v.bytes)) (ap (λ (w : Word). has_point w (outcome.Opened id (length v.bytes) (sha1 v.bytes))) opens), (let le = begun in omega (arith, le)), (book.steps + 1, refl, omega arith));
          value_is = λ leased. or_later book more None (Some j.place) (value_at book id (book.steps + 1) ≡ Some v.bytes) (value_at more id (book.steps + 1) ≡ Some (client.local_bytes (with_bytes v.bytes) id)) grows
              (λ e. value_later book more None (Some j.place) id (book.steps + 1) grows (omega arith) ∙ e ∙ ap (λ (l : List ℕ). Some l) (sym local_is)) (fresh_value book k qs x.owner h.seat g.kept h.owner id v fresh [] acts (subst AreLeased moments leased));
        },
        there_later book more None (Some j.place) id grows (fresh_there book k qs x.owner h.seat g.kept h.owner id v fresh),
      )

  pub leads_emptied : of.op.word ≡ words.Rewrite → Leads_to book k qs n x q t ts j g (finding id (empties_fresh (forgets_of (idle c) (client.calls_of c) t.xid) id v))
  leads_emptied renews = leads_over book k qs n x q t ts j g None outcome.Done 0 (Some id) (with_bytes []) quiet word refl (point outcome.Done) (as_before x.closing j.place of.op _ _ _ _ (ap changes renews)) (λ more moments grows steps. subst (DoneBy more (ended of.op.value)) (sym renews) (inr (now more moments grows steps))) (ok [] (omega arith))
    where
      ended : List ℕ → Op
      ended value = walk_op of.op (counted of.op.traffic no_counts) (book.steps + 1) id (point_if (has_point of.op.word outcome.Done) x.taken 0 (book.steps + 1) of.op.point) told.Done value

      now : (more : Book) → more.moments ≡ book.moments → Grows book more None (Some j.place) → more.steps ≡ book.steps + 1 → RenewedNow more (ended of.op.value)
      now more moments grows steps = record {
        ends = subst (λ (ms : List Moment). EndsFresh ms (ended of.op.value)) (sym moments) (fresh_ends book k qs x.owner h.seat g.kept h.owner id v fresh [] acts refl (ended of.op.value) of.client refl (ap (λ (s : ℕ). Some (s + 1)) g.kept.steps));
        past = omega (arith, at_step, steps);
        value_is = λ leased. subst (λ (s : ℕ). IsSome (value_at more id s)) (sym at_step) (subst (λ (z : Option (List ℕ)). IsSome z) (sym (value_later book more None (Some j.place) id (book.steps + 1) grows (omega arith))) (fresh_some book k qs x.owner h.seat g.kept h.owner id v fresh [] acts (subst AreLeased moments leased)));
        known = there_later book more None (Some j.place) id grows (fresh_there book k qs x.owner h.seat g.kept h.owner id v fresh);
      }

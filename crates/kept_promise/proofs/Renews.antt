-- What a rewrite comes to by the answer to its GETLEASE: its file is open with nothing in it, or it was refused as an open is.
use Rattle.std.proofs.Common.{◌⊎◌, inl, inr, ◌≡◌, ℕ, ◌+◌, ◌≤◌, List, [], length, Some, None, false, true, refl, sym, ap, ◌∙◌, subst, arith}
use Rattle.hash_calls.specs.declared.call.Leased.{Leased}
use Rattle.xdr_codec.specs.declared.status.Status.TheVariants as status
use Rattle.client_state.specs.State as client
use Rattle.client_state.specs.declared.step.Outcome.TheVariants as outcome
use Rattle.client_state.specs.declared.task.Stage.TheVariants as stage
use Rattle.file_open.specs.Rewriting.{told_anew, opened_empty}
use Rattle.register_model.specs.declared.op.Outcome.{Outcome}
use Rattle.register_model.specs.declared.op.Outcome.TheVariants as told
use Rattle.register_model.specs.declared.op.Word.TheVariants as words
use Rattle.trace_replay.specs.Causes.{IsDirectory}
use Rattle.trace_replay.specs.Naming.{tree_at, IsInside}
use Rattle.trace_replay.specs.OwnCalls.{TakesCall}
use Rattle.tree_reading.specs.Tree.{directory_of}
use Rattle.kept_promise.proofs.Common.{slice_set, not, has_point, point_if, counted, no_counts, is_running, changes, idle, value_at, Answer, Done, Failed, Status, Local, Op, Traffic, Word, Core, Session, Book, Reply.Versioned, Told, Queue, local_at_itself, local_at_another}
use Rattle.kept_promise.proofs.Lists.{some_is, nothing_there, same_or_not, false_and_true, true_and_false}
use Rattle.kept_promise.proofs.Messages.{Job, stage_word, lease_xid, lease_body, AnswerOf, RefusedTold, IsLeased, LeaseTold}
use Rattle.kept_promise.proofs.Rights.{Caused, RefusedBy, DoneBy, Renewed, WasThere}
use Rattle.kept_promise.proofs.Growth.{Grows, value_later, there_later, takes_later}
use Rattle.kept_promise.proofs.History.{onward, Becomes, grows_becomes}
use Rattle.kept_promise.proofs.Facts.{IsSession, IsOf}
use Rattle.kept_promise.proofs.Steps.{Here, session_at, Quiet, job_op, Stops, renew_unnamed}
use Rattle.kept_promise.proofs.StepCases.{renew_and_close, IsOfFile}
use Rattle.kept_promise.proofs.CloseEnds.{forgets, quiet_before}
use Rattle.kept_promise.proofs.Comes.{client_at, op_at, open_op, Opened_ok, Comes, refused_at}

-- ---- it ends

not_change : (w : Word) → w ≡ words.Rewrite → changes w ≡ true → ⊥
not_change w e f = true_and_false (changes w) f (ap changes e)

becomes_renewed : (book : Book) (o : Op) (place : ℕ) (tr : Traffic) (u : Outcome) → o.word ≡ words.Rewrite → Becomes book None (Some place) place o (open_op o tr (book.steps + 1) o.point u o.value)
becomes_renewed book o place tr u w = record {
  follows = record {
    client = refl;
    word = refl;
    file = λ n g. refl;
    close_file = λ c. refl;
    own_file = λ c n. refl;
    begin = refl;
    point = λ c q e. (e, refl);
    value = λ c. refl;
    unmade = λ n z. absurd (not_change o.word w z.0);
    end = λ e s. let is = some_is (book.steps + 1) e s in inr (omega (arith, is));
    running = λ n e. absurd (n refl);
  };
  change_point = λ c. refl;
  change_file = λ c. refl;
  point = λ m e. inl e;
}

stops_renewed : (book : Book) (k : Core) (qs : List Queue) (n : ℕ) (x : Session) (q : Queue) (t : Told) (ts : List Told) (j : Job) (g : Here book k qs n x q t ts j) (tr : Traffic) (u : Outcome) (opened : List (ℕ × Local)) → Quiet k n q → stage_word j.stage ≡ words.Rewrite → is_running u ≡ false
    → (let o = op_at book k qs n x q t ts j g in let r = open_op o tr (book.steps + 1) o.point u o.value in ((more : Book) → Grows book more None (Some j.place) → more.steps ≡ book.steps + 1 → Caused more r u) → Opened_ok book opened
    → Stops book k qs n x q t ts j g r None opened (client.without_call (client.calls_of (client_at book k qs n x q t ts j g)) t.xid))
stops_renewed book k qs n x q t ts j g tr u opened quiet word stopped_ cause ok =
    let h = session_at book k qs n x q t ts j g in
    let of = job_op book k qs x h.seat j g.kept h.owner g.job_is in
    let r = open_op of.op tr (book.steps + 1) of.op.point u of.op.value in
    let more = onward book 1 (slice_set book.ops j.place r) in
    let w : of.op.word ≡ words.Rewrite = of.word ∙ word in
    let became = becomes_renewed book of.op j.place tr u w in
    let grows = grows_becomes book 1 None (Some j.place) j.place of.op r of.there became in
    let right = g.kept.sound.rights j.place of.op of.there in
    record {
      quiet = quiet;
      moves = forgets book k qs n x q t ts j g;
      becomes = became;
      right = record {
        cause = cause more grows refl;
        begun = let b = right.begun in omega (arith, b);
        pointed = λ m e. let old = right.pointed m e in let le = old.1 in (old.0, omega (arith, le), old.2);
        past = λ e s. let is = some_is (book.steps + 1) e s in let b = right.begun in (omega (arith, b, is), omega (arith, is));
        ends = sym (ap not stopped_);
        within = λ l m e f s. let is = some_is (book.steps + 1) e s in let old = right.pointed m f in let le = old.1 in omega (arith, le, is);
        failed = λ c. absurd (not_change of.op.word w c);
      };
      stops = λ e. running_not u stopped_ e;
      over = inl (renew_and_close (stage_word j.stage) word);
      made_here = λ m e. nothing_there m e;
      opened_ok = ok;
    }
  where
    running_not : (u : Outcome) → is_running u ≡ false → u ≡ told.Running → ⊥
    running_not u s e = false_and_true (is_running u) s (ap is_running e)

-- ---- an answer

pub comes_renewed : (book : Book) (k : Core) (qs : List Queue) (n : ℕ) (x : Session) (q : Queue) (t : Told) (ts : List Told) (j : Job) (g : Here book k qs n x q t ts j) (a : Answer Leased Unit) → j.stage ≡ stage.Rewriting t.xid → t.reply ≡ Versioned a → AnswerOf book x.taken x.closing (Some j) t.xid (Versioned a)
    → Comes book k qs n x q t ts j g (told_anew (idle (client_at book k qs n x q t ts j g)) (client.calls_of (client_at book k qs n x q t ts j g)) j.file t.xid a)
comes_renewed book k qs n x q t ts j g a at e said = by a (said j refl (ap lease_xid at))
  where
    h : IsSession book k.seats k.server n x q
    h = session_at book k qs n x q t ts j g

    c : client.State
    c = h.seat.client

    of : IsOf book x.owner j
    of = job_op book k qs x h.seat j g.kept h.owner g.job_is

    quiet : Quiet k n q
    quiet = quiet_before book k qs n x q t ts j g (λ y s. apart y (sym at ∙ s)) (subst IsOfFile (sym at) tt)
      where
        apart : (y : ℕ) → stage.Rewriting t.xid ≡ stage.Committing y → ⊥
        apart y e = absurd cc

    word : stage_word j.stage ≡ words.Rewrite
    word = ap stage_word at

    w : of.op.word ≡ words.Rewrite
    w = of.word ∙ word

    file : of.op.file ≡ j.file
    file = of.file (renew_unnamed j.stage word)

    tr : Traffic
    tr = counted of.op.traffic no_counts

    -- the operation, where it ends so
    ended : Outcome → Op
    ended u = open_op of.op tr (book.steps + 1) of.op.point u of.op.value

    -- its file is open with nothing in it
    done : (l : Leased) → IsLeased book x.taken j t.xid l → Comes book k qs n x q t ts j g (opened_empty (idle c) (client.calls_of c) j.file t.xid l.version)
    done l told_ = inr (record {
      op = ended told.Done;
      ended = record { outcome = outcome.Done; rests_on = t.xid };
      made = None;
      opened = opened;
      forgotten = client.without_call (client.calls_of c) t.xid;
      cache = c.cache;
      index = c.index;
      shows = stops_renewed book k qs n x q t ts j g tr told.Done opened quiet word refl (λ more grows steps. subst (DoneBy more (ended told.Done)) (sym w) (inl (renewed more grows steps))) (λ f v is. ok f v is (same_or_not f j.file));
      cached = inl (g.kept.seats x.owner h.seat h.owner).kept;
      state_is = refl;
      send_is = refl;
      ended_is = refl;
      op_is = ap (λ v. open_op of.op tr (book.steps + 1) (point_if (has_point v outcome.Done) x.taken t.xid (book.steps + 1) of.op.point) told.Done of.op.value) w;
    })
      where
        opened : List (ℕ × Local)
        opened = client.with_local c.opened j.file (record { version = l.version; bytes = [] })

        after : of.op.begin ≤ told_.told.moment
        after = subst (λ (o : Op). o.begin ≤ told_.told.moment) (some_is told_.told.op of.op (sym told_.told.there ∙ of.there)) told_.told.after

        taken : TakesCall book of.op.client told_.told.moment t.xid (lease_body book.lbfs of.op.file)
        taken =
            let moment_is : told_.call.moment ≡ told_.told.moment = some_is told_.call.moment told_.told.moment (sym told_.call.was ∙ told_.told.was) in
            let same : told_.call.op ≡ of.op = some_is told_.call.op of.op (sym told_.call.there ∙ of.there) in
            subst (λ (f : ℕ). TakesCall book of.op.client told_.told.moment t.xid (lease_body book.lbfs f)) (sym file) (subst (λ (s : ℕ). TakesCall book of.op.client s t.xid (lease_body book.lbfs j.file)) moment_is (subst (λ (z : Op). TakesCall book z.client told_.call.moment t.xid (lease_body book.lbfs j.file)) same told_.call.takes))

        renewed : (more : Book) → Grows book more None (Some j.place) → more.steps ≡ book.steps + 1 → Renewed more (ended told.Done)
        renewed more grows steps =
            let past = told_.told.past in
            record {
              step = told_.told.moment;
              inside = (after, λ e q. let end = some_is (book.steps + 1) e q in omega (arith, past, end));
              past = omega (arith, past, steps);
              value = told_.value;
              value_is = ap (λ f. value_at more f told_.told.moment) file ∙ value_later book more None (Some j.place) j.file told_.told.moment grows (omega (arith, past)) ∙ told_.told.value;
              xid = t.xid;
              taken = subst (λ (v : ℕ). TakesCall more of.op.client told_.told.moment t.xid (lease_body v of.op.file)) (sym grows.lbfs) (takes_later book more None (Some j.place) of.op.client of.op.client told_.told.moment t.xid (lease_body book.lbfs of.op.file) grows refl taken);
              known = there_later book more None (Some j.place) of.op.file grows (subst (λ (z : ℕ). WasThere book z) (sym file) told_.known);
            }

        ok : (f : ℕ) (v : Local) → client.local_at opened f ≡ Some v → (f ≡ j.file) ⊎ (f ≡ j.file → ⊥) → WasThere book f × (length v.bytes ≤ 67108864)
        ok f v is (inr apart) = (g.kept.seats x.owner h.seat h.owner).opened f v (sym (local_at_another c.opened j.file (record { version = l.version; bytes = [] }) f apart) ∙ is)
        ok f v is (inl same) =
            let v_is : record { version = l.version; bytes = [] } ≡ v = some_is (record { version = l.version; bytes = [] }) v (sym (local_at_itself c.opened j.file (record { version = l.version; bytes = [] })) ∙ ap (client.local_at opened) (sym same) ∙ is) in
            let len = ap (λ (z : Local). length z.bytes) v_is in
            (subst (λ (z : ℕ). WasThere book z) (sym same) told_.known, omega (arith, len))

    refused_so : (s : Status) → RefusedTold book x.taken j t.xid s → Comes book k qs n x q t ts j g (refused_at (client_at book k qs n x q t ts j g) t.xid s)
    refused_so s (inl dir) = subst (λ z. Comes book k qs n x q t ts j g (refused_at (client_at book k qs n x q t ts j g) t.xid z)) (sym dir.0) (inr (record {
      op = ended (told.Refused 21);
      ended = record { outcome = outcome.Refused status.IsDir; rests_on = t.xid };
      made = None;
      opened = c.opened;
      forgotten = client.without_call (client.calls_of c) t.xid;
      cache = c.cache;
      index = c.index;
      shows = stops_renewed book k qs n x q t ts j g tr (told.Refused 21) c.opened quiet word refl (λ more grows steps. subst (λ v. RefusedBy more (ended (told.Refused 21)) v 21) (sym w) (inl (inl (refl, inside more grows)))) (g.kept.seats x.owner h.seat h.owner).opened;
      cached = inl (g.kept.seats x.owner h.seat h.owner).kept;
      state_is = refl;
      send_is = refl;
      ended_is = refl;
      op_is = ap (λ v. open_op of.op tr (book.steps + 1) (point_if (has_point v (outcome.Refused status.IsDir)) x.taken t.xid (book.steps + 1) of.op.point) (told.Refused 21) of.op.value) w;
    }))
      where
        after : of.op.begin ≤ dir.1.moment
        after = subst (λ (o : Op). o.begin ≤ dir.1.moment) (some_is dir.1.op of.op (sym dir.1.there ∙ of.there)) dir.1.after

        inside : (more : Book) → Grows book more None (Some j.place) → IsDirectory more (ended (told.Refused 21)) of.op.file
        inside more grows =
            let is = dir.1.step_is in
            let past = dir.1.past in
            record {
              moment = dir.1.at;
              there = grows.happened dir.1.at dir.1.noted;
              inside = (omega (arith, after, is), λ e q. let end = some_is (book.steps + 1) e q in omega (arith, past, is, end));
              node = dir.1.node;
              node_is = ap (directory_of (tree_at dir.1.at).nodes) file ∙ dir.1.node_is;
            }
    refused_so s (inr stale) = subst (λ z. Comes book k qs n x q t ts j g (refused_at (client_at book k qs n x q t ts j g) t.xid z)) (sym stale.0) (inr (record {
      op = ended (told.Refused 70);
      ended = record { outcome = outcome.Refused status.Stale; rests_on = t.xid };
      made = None;
      opened = c.opened;
      forgotten = client.without_call (client.calls_of c) t.xid;
      cache = c.cache;
      index = c.index;
      shows = stops_renewed book k qs n x q t ts j g tr (told.Refused 70) c.opened quiet word refl (λ more grows steps. subst (λ v. RefusedBy more (ended (told.Refused 70)) v 70) (sym w) (inl (inr (refl, gone more grows steps)))) (g.kept.seats x.owner h.seat h.owner).opened;
      cached = inl (g.kept.seats x.owner h.seat h.owner).kept;
      state_is = refl;
      send_is = refl;
      ended_is = refl;
      op_is = ap (λ v. open_op of.op tr (book.steps + 1) (point_if (has_point v (outcome.Refused status.Stale)) x.taken t.xid (book.steps + 1) of.op.point) (told.Refused 70) of.op.value) w;
    }))
      where
        m : ℕ
        m = stale.1.1.moment

        past : m ≤ book.steps
        past = stale.1.1.past

        after : of.op.begin ≤ m
        after = subst (λ (o : Op). o.begin ≤ m) (some_is stale.1.1.op of.op (sym stale.1.1.there ∙ of.there)) stale.1.1.after

        gone : (more : Book) → Grows book more None (Some j.place) → more.steps ≡ book.steps + 1 → (step : ℕ) × IsInside (ended (told.Refused 70)) of.op.begin step × (step ≤ more.steps) × (value_at more of.op.file step ≡ None)
        gone more grows steps = (m, (after, λ e q. let end = some_is (book.steps + 1) e q in omega (arith, past, end)), omega (arith, past, steps), ap (λ f. value_at more f m) file ∙ value_later book more None (Some j.place) j.file m grows (omega (arith, past)) ∙ stale.1.1.value)

    by : (a : Answer Leased Unit) → LeaseTold book x.taken j t.xid a → Comes book k qs n x q t ts j g (told_anew (idle c) (client.calls_of c) j.file t.xid a)
    by (Failed s tt) told_ = refused_so s told_
    by (Done l) told_ = done l told_

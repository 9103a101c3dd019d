-- What a client comes to by an answer that its operation waits for: it goes on, or the operation ends.
use Rattle.std.proofs.Common.{◌⊎◌, inl, inr, ◌≡◌, ℕ, ◌+◌, ◌≤◌, List, [], length, Option, Some, None, false, refl, sym, ap, ◌∙◌, subst, arith, map, true}
use Rattle.xdr_codec.specs.declared.status.Status.TheVariants as status
use Rattle.client_state.specs.State as client
use Rattle.client_state.specs.declared.step.Outcome.TheVariants as outcome
use Rattle.register_model.specs.declared.op.Outcome.{Outcome}
use Rattle.register_model.specs.declared.op.Outcome.TheVariants as told
use Rattle.register_model.specs.declared.op.Word.TheVariants as words
use Rattle.kept_promise.proofs.Common.{refused, unwrap_or, slice_get, slice_set, not, Pending, Status, Entries, Indexed, no_counts, idle, ClientStep, Ended, Local, Stage, Op, Traffic, Word, Core, Session, has_point, point_if, counted, ended_op, Book, value_at, IsOpenRefused, is_running, Ask, Told, Queue, ask_message, changes}
use Rattle.kept_promise.proofs.Lists.{some_is, nothing_there, false_and_true, true_and_false}
use Rattle.kept_promise.proofs.Messages.{Job, stage_word, IsTold, RefusedTold}
use Rattle.kept_promise.proofs.Rights.{may_point, Caused, RefusedBy, WasThere}
use Rattle.tree_reading.specs.Tree.{directory_of}
use Rattle.trace_replay.specs.Causes.{IsDirectory}
use Rattle.trace_replay.specs.Naming.{tree_at}
use Rattle.kept_promise.proofs.Growth.{Grows, value_later}
use Rattle.kept_promise.proofs.History.{onward, Becomes, grows_becomes}
use Rattle.kept_promise.proofs.Facts.{Cached, IsSession, IsOf}
use Rattle.kept_promise.proofs.OrderSteps.{open_no_close}
use Rattle.kept_promise.proofs.Steps.{Here, session_at, Quiet, job_op, GoesOn, Stops, gone_on, stopped, counting, open_unnamed}
use Rattle.kept_promise.proofs.CloseEnds.{forgets}

abbrev pub op_at : (book : Book) (k : Core) (qs : List Queue) (n : ℕ) (x : Session) (q : Queue) (t : Told) (ts : List Told) (j : Job) → Here book k qs n x q t ts j → Op
op_at book k qs n x q t ts j g = (job_op book k qs x (session_at book k qs n x q t ts j g).seat j g.kept (session_at book k qs n x q t ts j g).owner g.job_is).op

abbrev pub client_at : (book : Book) (k : Core) (qs : List Queue) (n : ℕ) (x : Session) (q : Queue) (t : Told) (ts : List Told) (j : Job) → Here book k qs n x q t ts j → client.State
client_at book k qs n x q t ts j g = (session_at book k qs n x q t ts j g).seat.client

pub record GoesTo (book : Book) (k : Core) (qs : List Queue) (n : ℕ) (x : Session) (q : Queue) (t : Told) (ts : List Told) (j : Job) (g : Here book k qs n x q t ts j) (c : client.State) (acts : ClientStep) : Type 0 where
  pub to : Stage
  pub next : ℕ
  pub forgotten : List Pending
  pub cache : Entries
  pub index : Indexed
  -- when its last call went out that may bring a lease
  pub sent : ℕ
  pub asks : List Ask
  pub shows : GoesOn book k qs n x q t ts j g to next forgotten asks
  pub cached : Cached book cache
  pub state_is : c ≡ gone_on (client_at book k qs n x q t ts j g) j.file next sent to forgotten cache index
  pub send_is : acts.send ≡ map ask_message asks
  pub ended_is : acts.ended ≡ None

pub record EndsIn (book : Book) (k : Core) (qs : List Queue) (n : ℕ) (x : Session) (q : Queue) (t : Told) (ts : List Told) (j : Job) (g : Here book k qs n x q t ts j) (c : client.State) (acts : ClientStep) : Type 0 where
  pub op : Op
  pub ended : Ended
  pub made : Option ℕ
  pub opened : List (ℕ × Local)
  pub forgotten : List Pending
  pub cache : Entries
  pub index : Indexed
  pub shows : Stops book k qs n x q t ts j g op made opened forgotten
  pub cached : Cached book cache ⊎ Cached (onward book 1 (slice_set book.ops j.place op)) cache
  pub state_is : c ≡ stopped (client_at book k qs n x q t ts j g) opened forgotten cache index
  pub send_is : acts.send ≡ []
  pub ended_is : acts.ended ≡ Some ended
  pub op_is : ended_op (counting (op_at book k qs n x q t ts j g) (counted (op_at book k qs n x q t ts j g).traffic acts.counts)) c x.taken (book.steps + 1) ended ≡ op

abbrev pub Comes : (book : Book) (k : Core) (qs : List Queue) (n : ℕ) (x : Session) (q : Queue) (t : Told) (ts : List Told) (j : Job) → Here book k qs n x q t ts j → client.State × ClientStep → Type 0
Comes book k qs n x q t ts j g r = GoesTo book k qs n x q t ts j g r.0 r.1 ⊎ EndsIn book k qs n x q t ts j g r.0 r.1

-- ---- an open ends

abbrev pub open_op : Op → Traffic → (step : ℕ) → Option ℕ → Outcome → List ℕ → Op
open_op o tr step p u v = record o { end = Some step; point = p; outcome = u; value = v; traffic = tr }

-- its point is one that it had, or a moment within it in which no change was made
abbrev pub PointOf : Book → Op → Option ℕ → Type 0
PointOf book o p = (m : ℕ) → p ≡ Some m → (o.point ≡ Some m) ⊎ ((o.begin ≤ m) × (m ≤ book.steps) × ((i : ℕ) → slice_get book.entries i ≡ Some m → ⊥))

not_change : (w : Word) → w ≡ words.Open → changes w ≡ true → ⊥
not_change w e f = true_and_false (changes w) f (ap changes e)

becomes_open : (book : Book) (o : Op) (place : ℕ) (tr : Traffic) (p : Option ℕ) (u : Outcome) (v : List ℕ) → o.word ≡ words.Open → PointOf book o p → Becomes book None (Some place) place o (open_op o tr (book.steps + 1) p u v)
becomes_open book o place tr p u v w point = record {
  follows = record {
    client = refl;
    word = refl;
    file = λ n g. refl;
    close_file = λ c. refl;
    own_file = λ c n. refl;
    begin = refl;
    point = λ c q e. absurd (not_change o.word w c);
    value = λ c. absurd (not_change o.word w c);
    unmade = λ n z. absurd (not_change o.word w z.0);
    end = λ e s. let is = some_is (book.steps + 1) e s in inr (omega (arith, is));
    running = λ n e. absurd (n refl);
  };
  change_point = λ c. absurd (not_change o.word w c);
  change_file = λ c. refl;
  point = λ m e. elim (point m e) [ inl was ↦ inl was | inr new ↦ inr (w, new.2) ];
}

abbrev pub Opened_ok : Book → List (ℕ × Local) → Type 0
Opened_ok book opened = (f : ℕ) (l : Local) → client.local_at opened f ≡ Some l → WasThere book f × (length l.bytes ≤ 67108864)

pub stops_open : (book : Book) (k : Core) (qs : List Queue) (n : ℕ) (x : Session) (q : Queue) (t : Told) (ts : List Told) (j : Job) (g : Here book k qs n x q t ts j) (tr : Traffic) (p : Option ℕ) (u : Outcome) (v : List ℕ) (opened : List (ℕ × Local)) → Quiet k n q → stage_word j.stage ≡ words.Open → is_running u ≡ false
    → PointOf book (op_at book k qs n x q t ts j g) p → ((more : Book) → Grows book more None (Some j.place) → more.steps ≡ book.steps + 1 → Caused more (open_op (op_at book k qs n x q t ts j g) tr (book.steps + 1) p u v) u) → Opened_ok book opened
    → Stops book k qs n x q t ts j g (open_op (op_at book k qs n x q t ts j g) tr (book.steps + 1) p u v) None opened (client.without_call (client.calls_of (client_at book k qs n x q t ts j g)) t.xid)
stops_open book k qs n x q t ts j g tr p u v opened quiet word stopped_ point cause ok =
    let h = session_at book k qs n x q t ts j g in
    let of = job_op book k qs x h.seat j g.kept h.owner g.job_is in
    let r = open_op of.op tr (book.steps + 1) p u v in
    let more = onward book 1 (slice_set book.ops j.place r) in
    let w : of.op.word ≡ words.Open = of.word ∙ word in
    let became = becomes_open book of.op j.place tr p u v w point in
    let grows = grows_becomes book 1 None (Some j.place) j.place of.op r of.there became in
    let right = g.kept.sound.rights j.place of.op of.there in
    record {
      quiet = quiet;
      moves = forgets book k qs n x q t ts j g;
      becomes = became;
      right = record {
        cause = cause more grows refl;
        begun = let b = right.begun in omega (arith, b);
        pointed = λ m e. elim (point m e) [
          | inl was ↦ let old = right.pointed m was in let le = old.1 in (old.0, omega (arith, le), ap may_point w)
          | inr new ↦ let le = new.1 in (new.0, omega (arith, le), ap may_point w)
        ];
        past = λ e s. let is = some_is (book.steps + 1) e s in let b = right.begun in (omega (arith, b, is), omega (arith, is));
        ends = sym (ap not stopped_);
        within = λ l m e f s. let is = some_is (book.steps + 1) e s in elim (point m f) [
          | inl was ↦ let old = right.pointed m was in let le = old.1 in omega (arith, le, is)
          | inr new ↦ let le = new.1 in omega (arith, le, is)
        ];
        failed = λ c. absurd (not_change of.op.word w c);
      };
      stops = λ e. running_not u stopped_ e;
      over = inl (open_no_close j.stage word);
      made_here = λ m e. nothing_there m e;
      opened_ok = ok;
    }
  where
    running_not : (u : Outcome) → is_running u ≡ false → u ≡ told.Running → ⊥
    running_not u s e = false_and_true (is_running u) s (ap is_running e)

-- ---- it was refused

-- a moment at which a call was taken is one within the operation
pub told_point : (book : Book) (k : Core) (qs : List Queue) (n : ℕ) (x : Session) (q : Queue) (t : Told) (ts : List Told) (j : Job) (g : Here book k qs n x q t ts j) (y : ℕ) (v : Option (List ℕ)) (version : ℕ) → (is : IsTold book x.taken j y v version) → PointOf book (op_at book k qs n x q t ts j g) (Some is.moment)
told_point book k qs n x q t ts j g y v version is m e =
    let here = some_is is.moment m e in
    let same = begins book k qs n x q t ts j g y v version is in
    inr (subst (λ z. (op_at book k qs n x q t ts j g).begin ≤ z) here same, subst (λ z. z ≤ book.steps) here is.past, λ i f. is.apart i (f ∙ ap (λ z. Some z) (sym here)))
  where
    begins : (book : Book) (k : Core) (qs : List Queue) (n : ℕ) (x : Session) (q : Queue) (t : Told) (ts : List Told) (j : Job) (g : Here book k qs n x q t ts j) (y : ℕ) (v : Option (List ℕ)) (version : ℕ) → (is : IsTold book x.taken j y v version) → (op_at book k qs n x q t ts j g).begin ≤ is.moment
    begins book k qs n x q t ts j g y v version is =
        let h = session_at book k qs n x q t ts j g in
        let of = job_op book k qs x h.seat j g.kept h.owner g.job_is in
        let same : is.op ≡ of.op = some_is is.op of.op (sym is.there ∙ of.there) in
        subst (λ (o : Op). o.begin ≤ is.moment) same is.after

abbrev pub refused_at : client.State → (xid : ℕ) → Status → client.State × ClientStep
refused_at c xid s = refused (idle c) (client.calls_of c) xid s

pub comes_refused : (book : Book) (k : Core) (qs : List Queue) (n : ℕ) (x : Session) (q : Queue) (t : Told) (ts : List Told) (j : Job) (g : Here book k qs n x q t ts j) (s : Status) → stage_word j.stage ≡ words.Open → Quiet k n q → RefusedTold book x.taken j t.xid s
    → Comes book k qs n x q t ts j g (refused_at (client_at book k qs n x q t ts j g) t.xid s)
comes_refused book k qs n x q t ts j g s word quiet refused_ = by refused_
  where
    h : IsSession book k.seats k.server n x q
    h = session_at book k qs n x q t ts j g

    c : client.State
    c = h.seat.client

    of : IsOf book x.owner j
    of = job_op book k qs x h.seat j g.kept h.owner g.job_is

    w : of.op.word ≡ words.Open
    w = of.word ∙ word

    tr : Traffic
    tr = counted of.op.traffic no_counts

    as_open : (more : Book) (r : Op) (code : ℕ) (v : Word) → v ≡ words.Open → IsOpenRefused more r.file r code → RefusedBy more r v code
    as_open more r code words.Open e i = inl i
    as_open more r code _ e i = absurd cc

    by : RefusedTold book x.taken j t.xid s → Comes book k qs n x q t ts j g (refused_at (client_at book k qs n x q t ts j g) t.xid s)
    by (inl dir) = subst (λ z. Comes book k qs n x q t ts j g (refused_at (client_at book k qs n x q t ts j g) t.xid z)) (sym dir.0) (inr (record {
      op = r;
      ended = record { outcome = outcome.Refused status.IsDir; rests_on = t.xid };
      made = None;
      opened = c.opened;
      forgotten = client.without_call (client.calls_of c) t.xid;
      cache = c.cache;
      index = c.index;
      shows = stops_open book k qs n x q t ts j g tr of.op.point (told.Refused 21) of.op.value c.opened quiet word refl (λ m e. inl e) (λ more grows steps. as_open more r 21 of.op.word w (inl (refl, inside more grows))) (g.kept.seats x.owner h.seat h.owner).opened;
      cached = inl (g.kept.seats x.owner h.seat h.owner).kept;
      state_is = refl;
      send_is = refl;
      ended_is = refl;
      op_is = ap (λ v. open_op of.op tr (book.steps + 1) (point_if (has_point v (outcome.Refused status.IsDir)) x.taken t.xid (book.steps + 1) of.op.point) (told.Refused 21) of.op.value) w;
    }))
      where
        r : Op
        r = open_op of.op tr (book.steps + 1) of.op.point (told.Refused 21) of.op.value

        after : of.op.begin ≤ dir.1.moment
        after = subst (λ (o : Op). o.begin ≤ dir.1.moment) (some_is dir.1.op of.op (sym dir.1.there ∙ of.there)) dir.1.after

        inside : (more : Book) → Grows book more None (Some j.place) → IsDirectory more r of.op.file
        inside more grows =
            let is = dir.1.step_is in
            let past = dir.1.past in
            record {
              moment = dir.1.at;
              there = grows.happened dir.1.at dir.1.noted;
              inside = (omega (arith, after, is), λ e q. let end = some_is (book.steps + 1) e q in omega (arith, past, is, end));
              node = dir.1.node;
              node_is = ap (directory_of (tree_at dir.1.at).nodes) (of.file (open_unnamed j.stage word)) ∙ dir.1.node_is;
            }
    by (inr stale) = subst (λ z. Comes book k qs n x q t ts j g (refused_at (client_at book k qs n x q t ts j g) t.xid z)) (sym stale.0) (inr (record {
      op = r;
      ended = record { outcome = outcome.Refused status.Stale; rests_on = t.xid };
      made = None;
      opened = c.opened;
      forgotten = client.without_call (client.calls_of c) t.xid;
      cache = c.cache;
      index = c.index;
      shows = stops_open book k qs n x q t ts j g tr (Some m) (told.Refused 70) of.op.value c.opened quiet word refl (told_point book k qs n x q t ts j g t.xid None stale.1.0 stale.1.1) (λ more grows steps. as_open more r 70 of.op.word w (inr (
        refl,
        (m, (refl, after, (book.steps + 1, refl, omega (arith, past))), ap (λ f. value_at more f m) (of.file (open_unnamed j.stage word)) ∙ value_later book more None (Some j.place) j.file m grows (omega (arith, past)) ∙ stale.1.1.value),
      ))) (g.kept.seats x.owner h.seat h.owner).opened;
      cached = inl (g.kept.seats x.owner h.seat h.owner).kept;
      state_is = refl;
      send_is = refl;
      ended_is = refl;
      op_is = ap (λ v. open_op of.op tr (book.steps + 1) (point_if (has_point v (outcome.Refused status.Stale)) x.taken t.xid (book.steps + 1) of.op.point) (told.Refused 70) of.op.value) w ∙ ap (λ p. open_op of.op tr (book.steps + 1) (Some (unwrap_or p (book.steps + 1))) (told.Refused 70) of.op.value) stale.1.1.was;
    }))
      where
        m : ℕ
        m = stale.1.1.moment

        past : m ≤ book.steps
        past = stale.1.1.past

        after : of.op.begin ≤ m
        after = subst (λ (o : Op). o.begin ≤ m) (some_is stale.1.1.op of.op (sym stale.1.1.there ∙ of.there)) stale.1.1.after

        r : Op
        r = open_op of.op tr (book.steps + 1) (Some m) (told.Refused 70) of.op.value

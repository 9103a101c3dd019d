-- How an open gets its content in a step of its client: by a call that it made, or at once, since a content of its file was fresh. Then nobody is asked.
use Rattle.std.proofs.Common.{◌⊎◌, inl, inr, ◌≡◌, ℕ, ◌+◌, List, [], ◌∷◌, ◌++◌, length, Option, Some, None, Bool, true, false, refl, sym, ap, ◌∙◌, subst}
use Rattle.sha1.specs.Sha1.{sha1}
use Rattle.client_cache.specs.Cache.{Entries}
use Rattle.client_cache.specs.declared.kept.Content.{Content}
use Rattle.client_state.specs.State as client
use Rattle.client_state.specs.declared.step.Ended.{Ended}
use Rattle.client_state.specs.declared.step.Outcome.{Outcome}
use Rattle.client_state.specs.declared.step.Outcome.TheVariants as outcome
use Rattle.client_state.specs.declared.task.Stage.TheVariants as stage
use Rattle.command_text.specs.declared.command.Command.TheVariants as command
use Rattle.file_open.specs.Caching.{fresh_content}
use Rattle.open_close.specs.Walking.{outcome_of}
use Rattle.path_calls.specs.declared.answers.Ended.{Ended as WalkEnd}
use Rattle.path_calls.specs.declared.answers.Ended.TheVariants as walk_end
use Rattle.path_calls.specs.declared.walk.Walk.{Walk}
use Rattle.register_model.specs.declared.op.Word.TheVariants as words
use Rattle.trace_replay.specs.AtOnce.{acts_at, EndsFresh}
use Rattle.wire.specs.declared.message.Message.TheVariants as message
use Rattle.kept_promise.proofs.Common.{Contains, Contains-append_left, local_at_itself, option_map, unwrap_or, value_of, Body, Command, Pending, got_message, took, took_if, drops, idle, command_step, has_call, ClientStep, Local, Stage, State, Task, Op, TakenCall, taken_at, has_point, point_if, op_after, numbered, happens, Moment, step_of, Seat}
use Rattle.kept_promise.proofs.Lists.{some_is, nothing_there}
use Rattle.kept_promise.proofs.StepCases.{took_cases, walk_cases, command_cases, reads_of, IsOpenedBy, IsPlain}
use Rattle.kept_promise.proofs.Shapes.{TookIn, took_now, good_fetch}

-- ---- a step

-- what was fresh was opened, and nobody is asked
pub record OpensNow (cache : Entries) (clock : ℕ) (r : State × ClientStep) (e : Ended) : Type 0 where
  pub file : ℕ
  pub content : Content
  pub fresh : fresh_content cache file clock ≡ Some content
  pub sends : r.1.send ≡ []
  pub outcome_is : e.outcome ≡ outcome.Opened file (length content.bytes) (sha1 content.bytes)
  pub rests : e.rests_on ≡ 0
  pub bytes : client.local_bytes r.0.opened file ≡ content.bytes

abbrev pub IsWalk : Stage → Type 0
IsWalk st = (y : ℕ) × (w : Walk) × (st ≡ stage.Walking y w)

-- by an answer: behind a walk that found the file, or by a call of which this is true
abbrev pub Hears : (ℕ → ℕ → Type 0) → Stage → Entries → (clock : ℕ) → State × ClientStep → Type 0
Hears Q st cache clock r = (e : Ended) → r.1.ended ≡ Some e → IsOpenedBy e.outcome
    → ((n : OpensNow cache clock r e) × (r.1.found ≡ Some n.file) × IsWalk st) ⊎ ((r.1.found ≡ None) × ((v : ℕ) × Q v e.rests_on))

-- what ends so got no content
unopened_as : {A : Type 0} (z e : Ended) → (IsOpenedBy z.outcome → ⊥) → ◌≡◌ {A = Option Ended} (Some z) (Some e) → IsOpenedBy e.outcome → A
unopened_as z e never is op = absurd (never (subst (λ (y : Ended). IsOpenedBy y.outcome) (sym (some_is z e is)) op))

walk_unopened : (v : WalkEnd) → IsOpenedBy (outcome_of v) → ⊥
walk_unopened walk_end.Done op = op
walk_unopened _ op = op

kept_bytes : (s : State) (file version : ℕ) (bytes : List ℕ) → client.local_bytes (client.with_local s.opened file (record { version = version; bytes = bytes })) file ≡ bytes
kept_bytes s file version bytes = ap (λ (o : Option Local). unwrap_or (option_map (λ (z : Local). z.bytes) o) []) (local_at_itself s.opened file (record { version = version; bytes = bytes }))

-- at a stage of a file a call was made
abbrev Rests : (ℕ → ℕ → Type 0) → ClientStep → Type 0
Rests Q acts = (e : Ended) → acts.ended ≡ Some e → IsOpenedBy e.outcome → (acts.found ≡ None) × ((v : ℕ) × Q v e.rests_on)

rests_as : (Q : ℕ → ℕ → Type 0) (z e : Ended) (v : ℕ) → Q v z.rests_on → ◌≡◌ {A = Option Ended} (Some z) (Some e) → (v : ℕ) × Q v e.rests_on
rests_as Q z e v q is = (v, subst (λ (y : Ended). Q v y.rests_on) (some_is z e is) q)

opens_took : (Q : ℕ → ℕ → Type 0) (s : State) (calls : List Pending) (file : ℕ) (st : Stage) (x : ℕ) (b : Body) → TookIn Q st x b → Hears Q st s.cache s.clock (took s calls file st x b)
opens_took Q s calls file (stage.Walking y w) x b q = walk_cases (Hears Q (stage.Walking y w) s.cache s.clock) s calls file y w x b (record {
  fault = λ f bad e is op. unopened_as _ e (λ z. z) is op;
  asks = λ v k e is op. nothing_there e is;
  open_already = λ id k there e is op. unopened_as _ e (λ z. z) is op;
  fetches = λ id k shut none e is op. nothing_there e is;
  leases = λ id c k shut some e is op. nothing_there e is;
  opens_now = λ id c k shut now e is op. inl (
    record {
      file = id;
      content = c;
      fresh = now;
      sends = refl;
      outcome_is = ap (λ (z : Ended). z.outcome) (sym (some_is _ e is));
      rests = ap (λ (z : Ended). z.rests_on) (sym (some_is _ e is));
      bytes = kept_bytes s id c.version c.bytes;
    },
    refl,
    (y, w, refl),
  );
  renew_already = λ id k there e is op. unopened_as _ e (λ z. z) is op;
  renews = λ id k shut e is op. nothing_there e is;
  empties_now = λ id c k shut now e is op. unopened_as _ e (λ z. z) is op;
  ends = λ v end k same e is op. unopened_as _ e (walk_unopened end) is op;
})
opens_took Q s calls file st x b q = λ e is op. inr (took_cases (λ found r. Rests Q r.1) s calls file st x b tt (λ found r g until lease is h. h) (record {
  ends = λ r d unchanged came e is op. absurd (d.unopened (subst (λ (y : Ended). IsOpenedBy y.outcome) (some_is e d.ended (sym is ∙ d.ended_is)) op));
  changed = λ r f version d open_ gave last at e is op. absurd (d.unopened (subst (λ (y : Ended). IsOpenedBy y.outcome) (some_is e d.ended (sym is ∙ d.ended_is)) op));
  uses = λ y l bytes at came kept e is op. (refl, rests_as Q _ e l.version (subst (TookIn Q (stage.Asking y) x) came (subst (λ z. TookIn Q z x b) at q)) is);
  fetches = λ y l at came e is op. nothing_there e is;
  anew = λ f version bytes open_ gave few came e is op. nothing_there e is;
  lists = λ f h came at same far e is op. nothing_there e is;
  reads = λ f bytes now here e is op. nothing_there e is;
  opens = λ f bytes now here e is op. (refl, rests_as Q _ e (reads_of s file f).fetch.version (good_fetch Q s file f (took_now Q st x b f bytes q now)) is);
  names = λ w at known none some e is op. nothing_there e is;
  commits = λ w at known none some e is op. nothing_there e is;
  whole = λ old c k at unknown none found name chunk e is op. nothing_there e is;
}) e is op)

opens_drops : (Q : ℕ → ℕ → Type 0) (st : Stage) (cache : Entries) (clock : ℕ) (s : State) (t : Option Task) (x : ℕ) (b : Bool) → Hears Q st cache clock (drops s t x b)
opens_drops Q st cache clock s t x true e is op = nothing_there e is
opens_drops Q st cache clock s (Some t) x false e is op = unopened_as _ e (λ z. z) is op
opens_drops Q st cache clock s None x false e is op = nothing_there e is

pub opens_answer : (Q : ℕ → ℕ → Type 0) (s : State) (t : Task) (x : ℕ) (b : Body) → s.task ≡ Some t → (has_call (client.pending s.task) x ≡ true → TookIn Q t.stage x b) → Hears Q t.stage s.cache s.clock (got_message s s.task (message.Answer x b))
opens_answer Q s t x b is taken = subst (λ (o : Option Task). Hears Q t.stage s.cache s.clock (took_if s o x b (has_call (client.pending s.task) x))) (sym is) (by (has_call (client.pending s.task) x) refl)
  where
    by : (own : Bool) → has_call (client.pending s.task) x ≡ own → Hears Q t.stage s.cache s.clock (took_if s (Some t) x b own)
    by true e = opens_took Q (idle s) (client.calls_of s) t.file t.stage x b (taken e)
    by false e = opens_drops Q t.stage s.cache s.clock s (Some t) x (has_call s.forgotten x)

-- by a command
pub opens_command : (s : State) (d : Command) (now : ℕ) (e : Ended) → (command_step s d now).1.ended ≡ Some e → IsOpenedBy e.outcome → (n : OpensNow s.cache now (command_step s d now) e) × ((command_step s d now).1.found ≡ None) × (d ≡ command.Open n.file)
opens_command s d now = command_cases (λ r. (e : Ended) → r.1.ended ≡ Some e → IsOpenedBy e.outcome → (n : OpensNow s.cache now r e) × (r.1.found ≡ None) × (d ≡ command.Open n.file)) s d now (record {
  busy = λ t there e is op. unopened_as _ e (λ z. z) is op;
  answers = λ free opened o plain e is op. unopened_as _ e (plain_unopened o plain) is op;
  fetches = λ file told free may e is op. nothing_there e is;
  asks = λ file c told free may at e is op. nothing_there e is;
  renews = λ file told free may e is op. nothing_there e is;
  opens_now = λ file c told free shut fresh e is op. (
    record {
      file = file;
      content = c;
      fresh = fresh;
      sends = refl;
      outcome_is = ap (λ (z : Ended). z.outcome) (sym (some_is _ e is));
      rests = ap (λ (z : Ended). z.rests_on) (sym (some_is _ e is));
      bytes = kept_bytes s file c.version c.bytes;
    },
    refl,
    told,
  );
  empties_now = λ file c told free shut fresh e is op. unopened_as _ e (λ z. z) is op;
  walks = λ c told free may e is op. nothing_there e is;
  closes = λ file l told free may at e is op. nothing_there e is;
})
  where
    plain_unopened : (o : Outcome) → IsPlain o → IsOpenedBy o → ⊥
    plain_unopened (outcome.Opened file len digest) plain op = plain
    plain_unopened o plain op = op

-- ---- the operation

-- it ended so: its point is that step, and its value what was fresh
abbrev pub EndsNow : List Moment → Op → Type 0
EndsNow ms o = (e : EndsFresh ms o) × (o.point ≡ Some (step_of e.moment)) × (o.value ≡ e.content.bytes)

pub now_later : (past : List Moment) (m : Moment) (o : Op) → EndsNow past o → EndsNow (past ++ m ∷ []) o
now_later past m o (e, point, value) = (
  record {
    moment = e.moment;
    there = Contains-append_left past (m ∷ []) e.moment e.there;
    end_is = e.end_is;
    quiet = e.quiet;
    now = e.now;
    acts = e.acts;
    seat = e.seat;
    seat_is = e.seat_is;
    content = e.content;
    fresh = e.fresh;
  },
  point,
  value,
)

pub ends_now : (ms : List Moment) (m : Moment) (now : ℕ) (seat : Seat) (o : Op) (taken : List TakenCall) (r : State × ClientStep) (e : Ended) → (n : OpensNow seat.client.cache now r e) → r.1.ended ≡ Some e → Contains ms m → o.word ≡ words.Open
    → (op_after o r.0 taken (step_of m) r.1).file ≡ n.file → taken_at taken 0 ≡ None → numbered m.before.seats o.client ≡ Some seat → acts_at m.before m.event ≡ Some (o.client, now) → (happens m.before m.event).up ≡ [] → EndsNow ms (op_after o r.0 taken (step_of m) r.1)
ends_now ms m now seat o taken r e n is there word file none here acts quiet = by r.1.ended is file
  where
    with_end : Option Ended → Op
    with_end l = op_after o r.0 taken (step_of m) (record r.1 { ended = l })

    by : (l : Option Ended) → l ≡ Some e → (op_after o r.0 taken (step_of m) (record r.1 { ended = l })).file ≡ n.file → EndsNow ms (op_after o r.0 taken (step_of m) (record r.1 { ended = l }))
    by None is file = nothing_there e is
    by (Some d) is file =
        let same = some_is d e is in
        let outcome_is : d.outcome ≡ outcome.Opened n.file (length n.content.bytes) (sha1 n.content.bytes) = ap (λ (z : Ended). z.outcome) same ∙ n.outcome_is in
        let rests : d.rests_on ≡ 0 = ap (λ (z : Ended). z.rests_on) same ∙ n.rests in (
          record {
            moment = m;
            there = there;
            end_is = refl;
            quiet = quiet;
            now = now;
            acts = acts;
            seat = seat;
            seat_is = here;
            content = n.content;
            fresh = ap (λ (f : ℕ). fresh_content seat.client.cache f now) file ∙ n.fresh;
          },
          ap (λ w. point_if (has_point w d.outcome) taken d.rests_on (step_of m) o.point) word
              ∙ ap (λ u. point_if (has_point words.Open u) taken d.rests_on (step_of m) o.point) outcome_is
              ∙ ap (λ (x : ℕ). Some (unwrap_or (taken_at taken x) (step_of m))) rests
              ∙ ap (λ (z : Option ℕ). Some (unwrap_or z (step_of m))) none,
          ap (value_of o.value r.0) outcome_is ∙ n.bytes,
        )

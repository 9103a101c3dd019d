-- What an event leaves of how far each command on names under way has come, by what becomes of jobs and operations: nothing changes, a change is made, a client joins or goes on.
use Rattle.register_model.specs.declared.op.Outcome.{Outcome as History}
use Rattle.std.proofs.Common.{◌⊎◌, inl, inr, ◌≡◌, ℕ, ◌+◌, ◌≤◌, List, [], ◌∷◌, ◌++◌, length, append-nil, Option, Some, None, true, refl, sym, ap, ◌∙◌, subst, arith}
use Rattle.command_text.specs.declared.command.Command.TheVariants as command
use Rattle.command_text.specs.declared.path.PathCommand.{PathCommand}
use Rattle.command_text.specs.declared.path.Spot.{Spot}
use Rattle.command_text.specs.declared.path.PathCommand.TheVariants as path
use Rattle.client_state.specs.State as client
use Rattle.client_state.specs.declared.task.Stage.TheVariants as stage
use Rattle.register_model.specs.declared.op.Outcome.TheVariants as told
use Rattle.register_model.specs.declared.op.Word.TheVariants as words
use Rattle.trace_ends.specs.Commands.{path_word}
use Rattle.kept_promise.proofs.Common.{slice_get, slice_set, Contains-push_cases, Command, ClientStep, Ended, Stage, Task, Op, Opening, TakenCall, op_after, ops_with, ops_after, Core, Seat, Event, Event.Does, numbered, with_numbered, CoreStep, Moment, Deed, deeds_of, deed_by, Queue, idle, ends, word_of, is_untold}
use Rattle.kept_promise.proofs.Actors.{job_place, own_op, foreign_at}
use Rattle.kept_promise.proofs.Lists.{set_count, some_is, nothing_there, kept_appended, at_replaced, same_or_not, set_else, true_and_false}
use Rattle.kept_promise.proofs.Messages.{Job, job}
use Rattle.kept_promise.proofs.Facts.{IsKept, IsMatched}
use Rattle.kept_promise.proofs.Locally.{deeds_more}
use Rattle.kept_promise.proofs.JobFacts.{ops_shape}
use Rattle.kept_promise.proofs.RunsCarried.{book_at, moment}
use Rattle.kept_promise.proofs.Versions.{of_numbered}
use Rattle.kept_promise.proofs.EventCases.{IsChange, Remembers, Settled, IsStill, old_job}
use Rattle.kept_promise.proofs.Rights.{gets_file}
use Rattle.kept_promise.proofs.Walked.{HasWalk}
use Rattle.kept_promise.proofs.WalkRuns.{bare, GetsFile, OnWay, IsOn, EndsAs, JobsOn, IsOver, Walks, SameWay, same_way, is_on, is_over, IsBare}

-- ---- an operation as it was

-- one that gets its file from the server has got it, and nobody was told
pub record MadeWay (o r : Op) : Type 0 where
  pub client : r.client ≡ o.client
  pub word : r.word ≡ o.word
  pub begin : r.begin ≡ o.begin
  pub end : r.end ≡ o.end
  pub outcome : r.outcome ≡ o.outcome
  pub gets : gets_file o.word ≡ true
  pub untold : is_untold o.outcome ≡ true

abbrev pub WayKept : Op → Op → Type 0
WayKept o r = SameWay o r ⊎ MadeWay o r

pub same_kept : (o : Op) → WayKept o o
same_kept o = inl (same_way o)

kept_begin : (o r : Op) → WayKept o r → r.begin ≡ o.begin
kept_begin o r (inl s) = s.begin
kept_begin o r (inr s) = s.begin

kept_word : (o r : Op) → WayKept o r → r.word ≡ o.word
kept_word o r (inl s) = s.word
kept_word o r (inr s) = s.word

bare_make : (c : PathCommand) (r : Op) → gets_file (path_word c) ≡ true → IsBare c r
bare_make (path.Make s) r e = tt
bare_make (path.Remove s) r e = tt
bare_make (path.Rename s t) r e = tt
bare_make c r e = absurd cc

no_make : (c : PathCommand) (s : Spot) → GetsFile c s → gets_file (path_word c) ≡ true → ⊥
no_make c s (inl is) e = true_and_false (gets_file (path_word c)) e (ap (λ (z : PathCommand). gets_file (path_word z)) is)
no_make c s (inr is) e = true_and_false (gets_file (path_word c)) e (ap (λ (z : PathCommand). gets_file (path_word z)) is)

made_on : (all : List Moment) (c : PathCommand) (o r : Op) (st : Stage) (n m : ℕ) → MadeWay o r → n ≤ m → OnWay all c o st n → OnWay all c r st m
made_on all c o r (stage.Walking x w) n m s le (step, has, before, plain, is) = (step, subst (λ (b : ℕ). HasWalk (bare all) b c w step) (sym s.begin) has, omega (arith, le, before), bare_make c r (ap gets_file (sym is) ∙ s.gets), s.word ∙ is)
made_on all c o r _ n m s le h = absurd (no_make c h.0.0 h.0.1 (ap gets_file (sym h.2) ∙ s.gets))

kept_on : (all : List Moment) (d : Command) (o r : Op) (st : Stage) (n m : ℕ) → WayKept o r → n ≤ m → IsOn all d o st n → IsOn all d r st m
kept_on all d o r st n m (inl s) le h = is_on all d o r st n m s.word s.point s.begin s.file le h
kept_on all (command.Named c) o r st n m (inr s) le h = made_on all c o r st n m s le h
kept_on all _ o r st n m (inr s) le h = h

made_ends : (all : List Moment) (c : PathCommand) (o r : Op) (u : History) → gets_file (path_word c) ≡ true → is_untold u ≡ true → EndsAs all c o u → EndsAs all c r u
made_ends all (path.Make s) o r told.Lost e t h = tt
made_ends all (path.Make s) o r told.Running e t h = tt
made_ends all (path.Make s) o r u e t h = absurd cc
made_ends all (path.Remove s) o r told.Lost e t h = tt
made_ends all (path.Remove s) o r told.Running e t h = tt
made_ends all (path.Remove s) o r u e t h = absurd cc
made_ends all (path.Rename s z) o r told.Lost e t h = tt
made_ends all (path.Rename s z) o r told.Running e t h = tt
made_ends all (path.Rename s z) o r u e t h = absurd cc
made_ends all c o r u e t h = absurd cc

over_kept : (all : List Moment) (d : Command) (o r : Op) → WayKept o r → IsOver all d o → IsOver all d r
over_kept all d o r (inl s) h = is_over all d o r s h
over_kept all (command.Named c) o r (inr s) h = (
  s.word ∙ h.0,
  elim h.1 [
    | inl running ↦ inl (s.outcome ∙ running)
    | inr over ↦ inr (elim over [
      | inl first ↦ inl (s.end ∙ first ∙ ap (λ (n : ℕ). Some n) (sym s.begin))
      | inr ends ↦ inr (subst (EndsAs all c r) (sym s.outcome) (made_ends all c o r o.outcome (ap gets_file (sym h.0) ∙ s.gets) s.untold ends))
    ])
  ],
)
over_kept all (command.Open f) o r (inr s) h = tt
over_kept all _ o r (inr s) h = tt

-- ---- an event

-- what is told of the commands of these moments, where one more came
abbrev pub More : (past : List Moment) → (k : Core) → Event → List Deed
More past k e = deeds_of past ++ deed_by past k e

-- an operation is as it was, as far as its way goes
abbrev Still : List Op → List Op → Type 0
Still ops after = (p : ℕ) (o : Op) → slice_get ops p ≡ Some o → (q : Op) × (slice_get after p ≡ Some q) × WayKept o q

-- a job behind the event was there, and its operation is as it was; or its operation is this one, which is on its way so
abbrev pub JobCame : (all : List Moment) → (ds : List Deed) → (k r : Core) → Type 0
JobCame all ds k r = (i : ℕ) (seat : Seat) (j : Job) → numbered r.seats i ≡ Some seat → job seat ≡ Some j
    → ((old : Seat) × (numbered k.seats i ≡ Some old) × (job old ≡ Some j) × ((o : Op) → slice_get k.ops j.place ≡ Some o → (q : Op) × (slice_get r.ops j.place ≡ Some q) × WayKept o q)) ⊎ ((d : Deed) × (o : Op) × (slice_get ds j.place ≡ Some d) × (slice_get r.ops j.place ≡ Some o) × (o.begin ≡ d.begin) × (o.word ≡ word_of d.command) × IsOn all d.command o j.stage r.steps)

-- and so is each operation
abbrev pub OpCame : (all past : List Moment) → (ds : List Deed) → (k r : Core) → Type 0
OpCame all past ds k r = (p : ℕ) (d : Deed) (q : Op) → slice_get ds p ≡ Some d → slice_get r.ops p ≡ Some q → ((o : Op) × (slice_get (deeds_of past) p ≡ Some d) × (slice_get k.ops p ≡ Some o) × WayKept o q) ⊎ IsOver all d.command q

prefixed : (past : List Moment) (k : Core) (e : Event) (p : ℕ) (d : Deed) → slice_get (deeds_of past) p ≡ Some d → slice_get (More past k e) p ≡ Some d
prefixed past k (Does c now x) p d at = kept_appended (deeds_of past) _ p d at
prefixed past k _ p d at = ap (λ (l : List Deed). slice_get l p) (append-nil (deeds_of past)) ∙ at

jobs_longer : (all : List Moment) (ds more : List Deed) (k : Core) → ((p : ℕ) (d : Deed) → slice_get ds p ≡ Some d → slice_get more p ≡ Some d) → JobsOn all ds k → JobsOn all more k
jobs_longer all ds more k longer h = λ i seat j here is. let w = h i seat j here is in (w.0, w.1, longer j.place w.0 w.2, w.3, w.4, w.5, w.6)

-- an event's walks, by what came of jobs and operations
pub onward : (all past : List Moment) (k r : Core) (e : Event) → k.steps ≤ r.steps → length r.ops ≡ length (More past k e) → JobCame all (More past k e) k r → OpCame all past (More past k e) k r → Walks all past k → Walks all (past ++ moment k e ∷ []) r
onward all past k r e le count jobs over h = record {
  count = count ∙ ap (λ (l : List Deed). length l) (sym more);
  jobs = subst (λ (l : List Deed). JobsOn all l r) (sym more) (λ i seat j here is. elim (jobs i seat j here is) [
    | inr own ↦ own
    | inl old ↦
        let w = h.jobs i old.0 j old.1 old.2 in
        let q = old.3 w.1 w.3 in
        (w.0, q.0, longer j.place w.0 w.2, q.1, kept_begin w.1 q.0 q.2 ∙ w.4, kept_word w.1 q.0 q.2 ∙ w.5, kept_on all w.0.command w.1 q.0 j.stage k.steps r.steps q.2 le w.6)
  ]);
  over = λ p d q at is. elim (over p d q (ap (λ (l : List Deed). slice_get l p) (sym more) ∙ at) is) [
    | inr own ↦ own
    | inl old ↦ over_kept all d.command old.0 q old.3 (h.over p d old.0 old.1 old.2)
  ];
  before = λ m there. elim (Contains-push_cases past (moment k e) m there) [
    | inl old ↦ subst (λ (l : List Deed). JobsOn all l m.before) (sym more) (jobs_longer all (deeds_of past) (More past k e) m.before longer (h.before m old))
    | inr new ↦ subst (λ (z : Moment). JobsOn all (deeds_of (past ++ moment k e ∷ [])) z.before) new (subst (λ (l : List Deed). JobsOn all l k) (sym more) (jobs_longer all (deeds_of past) (More past k e) k longer h.jobs))
  ];
}
  where
    more : deeds_of (past ++ moment k e ∷ []) ≡ More past k e
    more = deeds_more past (moment k e)

    longer : (p : ℕ) (d : Deed) → slice_get (deeds_of past) p ≡ Some d → slice_get (More past k e) p ≡ Some d
    longer = prefixed past k e

-- ---- events in which no command begins, and no client goes on

-- no deed is more
abbrev pub IsNoDeed : (past : List Moment) → Core → Event → Type 0
IsNoDeed past k e = More past k e ≡ deeds_of past

-- jobs are as they were, and operations as far as their way goes
still_onward : (all past : List Moment) (k r : Core) (e : Event) → k.steps ≤ r.steps → IsNoDeed past k e → length r.ops ≡ length k.ops → ((i : ℕ) (seat : Seat) (j : Job) → numbered r.seats i ≡ Some seat → job seat ≡ Some j → (old : Seat) × (numbered k.seats i ≡ Some old) × (job old ≡ Some j)) → Still k.ops r.ops
    → ((p : ℕ) (q : Op) → slice_get r.ops p ≡ Some q → (o : Op) × (slice_get k.ops p ≡ Some o) × WayKept o q) → Walks all past k → Walks all (past ++ moment k e ∷ []) r
still_onward all past k r e le none count seats still back h = onward all past k r e le (count ∙ h.count ∙ ap (λ (l : List Deed). length l) (sym none))
    (λ i seat j here is. let w = seats i seat j here is in inl (w.0, w.1, w.2, λ o at. still j.place o at))
    (λ p d q at is. let w = back p q is in inl (w.0, ap (λ (l : List Deed). slice_get l p) (sym none) ∙ at, w.1, w.2)) h

-- an operation's change was made
change_onward : (all past : List Moment) (k : Core) (e : Event) (t : CoreStep) → IsStill k e t → IsNoDeed past k e → IsChange k t.core.ops → Walks all past k → Walks all (past ++ moment k e ∷ []) t.core
change_onward all past k e t s none c h = still_onward all past k t.core e s.passes none (ap (λ (l : List Op). length l) c.is ∙ set_count k.ops c.place new) (λ i seat j here on. let w = s.jobs i seat j here on in (w.0, w.3, old_job w.0 seat w.1 w.2 j w.4 on))
    (λ p q there. elim (same_or_not p c.place) [
      | inr apart ↦ (q, ap (λ (l : List Op). slice_get l p) c.is ∙ set_else k.ops c.place p new apart ∙ there, same_kept q)
      | inl mine ↦ (let e : c.op ≡ q = some_is c.op q (sym c.there ∙ ap (slice_get k.ops) (sym mine) ∙ there) in (new, ap (λ (l : List Op). slice_get l p) c.is ∙ ap (slice_get (slice_set k.ops c.place new)) mine ∙ at_replaced k.ops c.place new c.op c.there, subst (λ (z : Op). WayKept z new) e (way c.kind)))
    ])
    (λ p q there. elim (same_or_not p c.place) [
      | inr apart ↦ (q, sym (set_else k.ops c.place p new apart) ∙ ap (λ (l : List Op). slice_get l p) (sym c.is) ∙ there, same_kept q)
      | inl mine ↦ (let e : new ≡ q = some_is new q (sym (at_replaced k.ops c.place new c.op c.there) ∙ ap (slice_get (slice_set k.ops c.place new)) (sym mine) ∙ ap (λ (l : List Op). slice_get l p) (sym c.is) ∙ there) in (c.op, ap (slice_get k.ops) mine ∙ c.there, subst (WayKept c.op) e (way c.kind)))
    ]) h
  where
    new : Op
    new = record c.op { file = c.file; point = Some (k.steps + 1) }

    way : ((c.op.word ≡ words.Close) × (c.file ≡ c.op.file) × Remembers k c.place) ⊎ ((gets_file c.op.word ≡ true) × (c.op.file ≡ 0)) → WayKept c.op new
    way (inl close) = inl (record { client = refl; word = refl; file = close.1; begin = refl; end = refl; outcome = refl; point = inr close.0 })
    way (inr make) = inr (record { client = refl; word = refl; begin = refl; end = refl; outcome = refl; gets = make.0; untold = c.unmade.2 })

-- clients and operations are as they were, but for a change that is made
pub walks_still : (all past : List Moment) (k : Core) (e : Event) (t : CoreStep) → IsStill k e t → Walks all past k → Walks all (past ++ moment k e ∷ []) t.core
walks_still all past k e t s h = by s.ops
  where
    none : IsNoDeed past k e
    none = ap (λ (l : List Deed). deeds_of past ++ l) (s.deedless past) ∙ append-nil (deeds_of past)

    by : Settled k t.core.ops → Walks all (past ++ moment k e ∷ []) t.core
    by (inl same) = still_onward all past k t.core e s.passes none (ap (λ (l : List Op). length l) same) (λ i seat j here on. let w = s.jobs i seat j here on in (w.0, w.3, old_job w.0 seat w.1 w.2 j w.4 on)) (λ p o at. (o, ap (λ (l : List Op). slice_get l p) same ∙ at, same_kept o)) (λ p q at. (q, ap (λ (l : List Op). slice_get l p) (sym same) ∙ at, same_kept q)) h
    by (inr c) = change_onward all past k e t s none c h

-- ---- a client goes on

-- no other operation is another
acted_else : (ops : List Op) (place : Option ℕ) (c : client.State) (taken : List TakenCall) (step : ℕ) (acts : ClientStep) (p : ℕ) → (place ≡ Some p → ⊥) → slice_get (ops_with ops place c taken step acts) p ≡ slice_get ops p
acted_else ops None c taken step acts p apart = refl
acted_else ops (Some l) c taken step acts p apart = by (slice_get ops l)
  where
    by : (o : Option Op) → slice_get (ops_after ops l o c taken step acts) p ≡ slice_get ops p
    by None = refl
    by (Some o) = set_else ops l p (op_after o c taken step acts) (λ e. apart (ap (λ (n : ℕ). Some n) (sym e)))

acted_count : (ops : List Op) (place : Option ℕ) (c : client.State) (taken : List TakenCall) (step : ℕ) (acts : ClientStep) → length (ops_with ops place c taken step acts) ≡ length ops
acted_count ops None c taken step acts = refl
acted_count ops (Some l) c taken step acts = by (slice_get ops l)
  where
    by : (o : Option Op) → length (ops_after ops l o c taken step acts) ≡ length ops
    by None = refl
    by (Some o) = set_count ops l (op_after o c taken step acts)

pub begin_stays : (o : Op) (c : client.State) (taken : List TakenCall) (step : ℕ) (acts : ClientStep) → (op_after o c taken step acts).begin ≡ o.begin
begin_stays o c taken step acts = by acts.ended
  where
    by : (l : Option Ended) → (op_after o c taken step (record acts { ended = l })).begin ≡ o.begin
    by None = refl
    by (Some e) = refl

pub word_stays : (o : Op) (c : client.State) (taken : List TakenCall) (step : ℕ) (acts : ClientStep) → (op_after o c taken step acts).word ≡ o.word
word_stays o c taken step acts = by acts.ended
  where
    by : (l : Option Ended) → (op_after o c taken step (record acts { ended = l })).word ≡ o.word
    by None = refl
    by (Some e) = refl

pub acted_at : (ops : List Op) (l : ℕ) (o : Op) (c : client.State) (taken : List TakenCall) (step : ℕ) (acts : ClientStep) → slice_get ops l ≡ Some o → slice_get (ops_with ops (Some l) c taken step acts) l ≡ Some (op_after o c taken step acts)
acted_at ops l o c taken step acts at = ap (λ (z : Option Op). slice_get (ops_after ops l z c taken step acts) l) at ∙ at_replaced ops l (op_after o c taken step acts) o at

-- one that runs isn't over
runs_over : (all : List Moment) (d : Command) (o : Op) → o.word ≡ word_of d → o.outcome ≡ told.Running → IsOver all d o
runs_over all (command.Named c) o w e = (w, inl e)
runs_over all _ o w e = tt

-- what a step of the client makes of its operation
pub record StepComes (all : List Moment) (d : Deed) (o : Op) (r : client.State × ClientStep) (taken : List TakenCall) (now : ℕ) : Type 0 where
  pub way : r.1.ended ≡ None → (u : Task) → r.0.task ≡ Some u → IsOn all d.command (op_after o r.0 taken now r.1) u.stage now
  pub over : (e : Ended) → r.1.ended ≡ Some e → IsOver all d.command (op_after o r.0 taken now r.1)

pub acted_onward : (all past : List Moment) (opening : List Opening) (k : Core) (qs : List Queue) (e : Event) (c : ℕ) (seat then_ : Seat) (s : client.State) (acts : ClientStep) (taken : List TakenCall) (r : Core) → IsKept (book_at opening k all) k qs → numbered k.seats c ≡ Some seat → IsNoDeed past k e
    → r.steps ≡ k.steps + 1 → r.seats ≡ with_numbered k.seats c then_ → r.ops ≡ ops_with k.ops seat.place s taken (k.steps + 1) acts → ((j : Job) → job then_ ≡ Some j → (seat.place ≡ Some j.place) × (acts.ended ≡ None) × (s.task ≡ Some (record { file = j.file; stage = j.stage })))
    → ((j : Job) (d : Deed) (o : Op) → job seat ≡ Some j → slice_get (deeds_of past) j.place ≡ Some d → slice_get k.ops j.place ≡ Some o → o.begin ≡ d.begin → o.word ≡ word_of d.command → IsOn all d.command o j.stage k.steps → StepComes all d o (s, acts) taken (k.steps + 1))
    → Walks all past k → Walks all (past ++ moment k e ∷ []) r
acted_onward all past opening k qs e c seat then_ s acts taken r kept here none steps seats ops after comes h = onward all past k r e (omega (arith, steps)) (ap (λ (l : List Op). length l) ops ∙ acted_count k.ops seat.place s taken (k.steps + 1) acts ∙ h.count ∙ ap (λ (l : List Deed). length l) (sym none))
    (λ i z j there is. elim (of_numbered k.seats c then_ i z (ap (λ (l : List Seat). numbered l i) (sym seats) ∙ there)) [
      | inr other ↦ inl (z, other.1, is, λ o at. (o, ap (λ (l : List Op). slice_get l j.place) ops ∙ acted_else k.ops seat.place s taken (k.steps + 1) acts j.place (foreign_at (book_at opening k all) k qs c seat kept here i z j o other.1 is at other.0) ∙ at, same_kept o))
      | inl mine ↦ (let a = after j (ap job (sym mine.1) ∙ is) in inr (own j a.0 a.1 a.2))
    ])
    (λ p d q at is. by p d q (ap (λ (l : List Deed). slice_get l p) (sym none) ∙ at) (ops_shape k.ops seat.place s taken (k.steps + 1) acts p q (ap (λ (l : List Op). slice_get l p) (sym ops) ∙ is)))
    h
  where
    -- the client's operation before
    before : (p : ℕ) → seat.place ≡ Some p → (o : Op) → slice_get k.ops p ≡ Some o → (j : Job) × (d : Deed) × (job seat ≡ Some j) × (j.place ≡ p) × (slice_get (deeds_of past) p ≡ Some d) × (o.begin ≡ d.begin) × (o.word ≡ word_of d.command) × IsOn all d.command o j.stage k.steps
    before p place o at =
        let w = own_op (book_at opening k all) k qs c seat p o kept here place at in
        let v = h.jobs c seat w.0 here w.1 in
        let same : v.1 ≡ o = some_is v.1 o (sym v.3 ∙ ap (slice_get k.ops) w.2 ∙ at) in
        (w.0, v.0, w.1, w.2, ap (slice_get (deeds_of past)) (sym w.2) ∙ v.2, ap (λ (z : Op). z.begin) (sym same) ∙ v.4, ap (λ (z : Op). z.word) (sym same) ∙ v.5, subst (λ (z : Op). IsOn all v.0.command z w.0.stage k.steps) same v.6)

    step_of_job : (j : Job) (d : Deed) (p : ℕ) (o : Op) → job seat ≡ Some j → j.place ≡ p → slice_get (deeds_of past) p ≡ Some d → slice_get k.ops p ≡ Some o → o.begin ≡ d.begin → o.word ≡ word_of d.command → IsOn all d.command o j.stage k.steps → StepComes all d o (s, acts) taken (k.steps + 1)
    step_of_job j d p o is place deed at begin word way = comes j d o is (ap (slice_get (deeds_of past)) place ∙ deed) (ap (slice_get k.ops) place ∙ at) begin word way

    there_op : (p : ℕ) → seat.place ≡ Some p → (o : Op) × (slice_get k.ops p ≡ Some o)
    there_op p place = from (kept.seats c seat here).matched
      where
        from : IsMatched seat → (o : Op) × (slice_get k.ops p ≡ Some o)
        from (inl idle) = nothing_there p (sym idle.0 ∙ place)
        from (inr m) = let of = (kept.seats c seat here).task m.0 m.1 in (of.op, ap (slice_get k.ops) (some_is p m.0.place (sym place ∙ job_place seat.place seat.client.task m.0 m.1)) ∙ of.there)

    own : (j : Job) → seat.place ≡ Some j.place → acts.ended ≡ None → s.task ≡ Some (record { file = j.file; stage = j.stage }) → (d : Deed) × (o : Op) × (slice_get (More past k e) j.place ≡ Some d) × (slice_get r.ops j.place ≡ Some o) × (o.begin ≡ d.begin) × (o.word ≡ word_of d.command) × IsOn all d.command o j.stage r.steps
    own j place runs task =
        let o = there_op j.place place in
        let b = before j.place place o.0 o.1 in
        let comes_ = step_of_job b.0 b.1 j.place o.0 b.2 b.3 b.4 o.1 b.5 b.6 b.7 in (
          b.1,
          op_after o.0 s taken (k.steps + 1) acts,
          ap (λ (l : List Deed). slice_get l j.place) none ∙ b.4,
          ap (λ (l : List Op). slice_get l j.place) ops ∙ ap (λ (l : Option ℕ). slice_get (ops_with k.ops l s taken (k.steps + 1) acts) j.place) place ∙ acted_at k.ops j.place o.0 s taken (k.steps + 1) acts o.1,
          begin_stays o.0 s taken (k.steps + 1) acts ∙ b.5,
          word_stays o.0 s taken (k.steps + 1) acts ∙ b.6,
          subst (λ (n : ℕ). IsOn all b.1.command (op_after o.0 s taken (k.steps + 1) acts) j.stage n) (sym steps) (comes_.way runs (record { file = j.file; stage = j.stage }) task),
        )

    running : (acts_ended : Option Ended) → acts.ended ≡ acts_ended → (p : ℕ) (d : Deed) (o : Op) → StepComes all d o (s, acts) taken (k.steps + 1) → slice_get k.ops p ≡ Some o → o.outcome ≡ told.Running → o.word ≡ word_of d.command → IsOver all d.command (op_after o s taken (k.steps + 1) acts)
    running (Some x) is p d o comes_ at run word = comes_.over x is
    running None is p d o comes_ at run word = runs_over all d.command (op_after o s taken (k.steps + 1) acts) (word_stays o s taken (k.steps + 1) acts ∙ word) (ap (λ (l : Option Ended). (op_after o s taken (k.steps + 1) (record acts { ended = l })).outcome) is ∙ run)

    by : (p : ℕ) (d : Deed) (q : Op) → slice_get (deeds_of past) p ≡ Some d → ((o : Op) × (seat.place ≡ Some p) × (slice_get k.ops p ≡ Some o) × (q ≡ op_after o s taken (k.steps + 1) acts)) ⊎ ((seat.place ≡ Some p → ⊥) × (slice_get k.ops p ≡ Some q))
        → ((o : Op) × (slice_get (deeds_of past) p ≡ Some d) × (slice_get k.ops p ≡ Some o) × WayKept o q) ⊎ IsOver all d.command q
    by p d q deed (inr old) = inl (q, deed, old.1, same_kept q)
    by p d q deed (inl new) =
        let b = before p new.1 new.0 new.2 in
        let w = own_op (book_at opening k all) k qs c seat p new.0 kept here new.1 new.2 in
        let same : b.1 ≡ d = some_is b.1 d (sym b.4 ∙ deed) in
        inr (subst (IsOver all d.command) (sym new.3) (subst (λ (z : Deed). IsOver all z.command (op_after new.0 s taken (k.steps + 1) acts)) same (running acts.ended refl p b.1 new.0 (step_of_job b.0 b.1 p new.0 b.2 b.3 b.4 new.2 b.5 b.6 b.7) new.2 w.4 b.6)))

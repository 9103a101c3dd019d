-- A run carries that each open gave the content of a version that came to its client.
use Rattle.std.proofs.Common.{◌⊎◌, inl, inr, ◌≡◌, ℕ, ◌+◌, ◌≤◌, List, [], ◌∷◌, ◌++◌, length, Option, Some, None, Result, Ok, Bool, true, false, refl, sym, ap, ◌∙◌, subst, arith, append-nil, eqb-true, eq-eqb}
use Rattle.std.specs.Option.{option_map}
use Rattle.wire.specs.declared.message.Message.TheVariants as message
use Rattle.client_state.specs.State as client
use Rattle.client_state.specs.Noting.{at as at_clock}
use Rattle.client_cache.specs.declared.kept.Content.{Content}
use Rattle.file_open.specs.Caching.{fresh_content}
use Rattle.path_calls.specs.declared.answers.Ended.{Ended as WalkEnd}
use Rattle.path_calls.specs.declared.answers.Ended.TheVariants as walk_end
use Rattle.open_close.specs.Walking.{outcome_of}
use Rattle.client_state.specs.declared.step.Outcome.TheVariants as outcome
use Rattle.client_state.specs.declared.task.Stage.TheVariants as stage
use Rattle.register_model.specs.declared.op.Outcome.{Outcome as History}
use Rattle.register_model.specs.declared.op.Outcome.TheVariants as told
use Rattle.register_model.specs.declared.op.Word.TheVariants as words
use Rattle.trace_ends.specs.Ops.{taken_on, file_with}
use Rattle.trace_ends.specs.Session.{taken_of as session_taken}
use Rattle.trace_replay.specs.Trail.{taken_of}
use Rattle.trace_replay.specs.Faithful.{Carries, OpensVersion}
use Rattle.kept_promise.proofs.Common.{unwrap_or, Body, Pending, file_of, value_at_begin, idle, took, Entries, Indexed, nat_tests, Contains-append_left, Contains-append_right, Contains-append_cases, Contains-push, ◌==◌, ◌&&◌, ◌||◌, nat_le, slice_get, slice_set, cond, find, Contains, Command, Done, Hashes, WireFault, Message, has_call, pending, command_step, got_step, ended_by, ClientStep, Ended, Outcome, Stage, Task, changes, changed_before, Op, Opening, TakenCall, word_of, told_of, has_point, point_if, op_after, begun, taken_at, place_after, place_with, Core, Seat, Session, Event, Event.Does, Event.Hears, Event.Cuts, CoreStep, numbered, with_numbered, commanded_session, commanded_sessions, cut_session, session_of, ops_after, ops_with, acted, does, cuts_if, happens, Moment, Said, all_said, owner_in, client_of, wanted_if, wanted_by, taken_by, Book, version_at, until, TellsVersion, Reply, Reply.Versioned, Reply.Hashed, Reply.Bytes, Told, Queue, reply_body, told_message, Reply.Walked, NameReply.LookedUp}
use Rattle.kept_promise.proofs.Lists.{some_is, nothing_there, at_end, same_or_not, of_replaced, of_appended, at_replaced, false_and_true, true_and_false}
use Rattle.kept_promise.proofs.Marks.{unpointed, too_late, unchanging}
use Rattle.kept_promise.proofs.Messages.{Job, job, job_of, AllTolds, AllUnder, hash_offset, IsTold, IsHashed, IsLeased, AnswerOf, IsAnswer, stage_word, lease_xid}
use Rattle.kept_promise.proofs.Rights.{AreLeased, acts_at, acts_for, IsRight, Caused, close_not_open, gets_file}
use Rattle.kept_promise.proofs.Fits.{FitLaws}
use Rattle.kept_promise.proofs.Keys.{own}
use Rattle.kept_promise.proofs.Heard.{rising_to}
use Rattle.kept_promise.proofs.Facts.{FileIs, IsKept, IsSession, IsMatched, is_naming}
use Rattle.kept_promise.proofs.RunsCarried.{book_at, moment, Step, Carried}
use Rattle.kept_promise.proofs.Counted.{IsActor, first_or_rest, said_by, said_at, early, of_step, SaidBy, said_later, said_append, said_now, AlikeUpTo}
use Rattle.kept_promise.proofs.JobFacts.{ops_shape, job_after}
use Rattle.kept_promise.proofs.Actors.{acts_alone, job_place, job_task, Heard, heard_acts, heard_takes, own_op, foreign_at}
use Rattle.kept_promise.proofs.CountedRuns.{CountedAt, carried_counts, taken_more}
use Rattle.kept_promise.proofs.Shapes.{TaskGood, Good, TookIn, TaskTook, good_answer, good_command, busy_command, StageGood, OutcomeWell, EndWell, Well, well_answer}
use Rattle.kept_promise.proofs.Found.{heard_quiet, heard_apart, Quietly, IsFresh, step_found, took_finds, command_finds}
use Rattle.kept_promise.proofs.Adjusts.{with_kept}
use Rattle.kept_promise.proofs.EventCases.{IsChange, Remembers, Settled, takens_else, takens_with, IsStill, event_cases, old_job}
use Rattle.kept_promise.proofs.Versions.{of_numbered, version_by, version_split, versions_later, early_of, by_counts, count_replaced, count_appended, CameTo, Since, Attempt, Untold, takens, JobVersion, IsNow, HaveVersions, Alike, alike_same, Extends, extends_same, came_alike, since_alike, job_alike, JobCame, versions_onward}
use Rattle.kept_promise.proofs.Taking.{versions_after}
use Rattle.kept_promise.proofs.CommandOps.{made_by, made_later, made_quiet, made_point, last_right, old_jobs}
use Rattle.kept_promise.proofs.StepCases.{IsOpenedBy, IsOfFile, IsPlain, got_cases, walk_cases, command_cases}
use Rattle.kept_promise.proofs.Caches.{fresh_in_is}
use Rattle.kept_promise.proofs.PathNames.{IsSmall}
use Rattle.kept_promise.proofs.Turns.{has_owner}

abbrev pub VersionsAt : (all : List Moment) → (base : ℕ → ℕ → ℕ) → (past : List Moment) → Core → Type 0
VersionsAt all base past k = HaveVersions all base (taken_of past) k.sessions k.seats k.ops

abbrev pub VersionsBy : (all : List Moment) → (base : ℕ → ℕ → ℕ) → (past : List Moment) → Core → Event → CoreStep → Type 0
VersionsBy all base past k e t = HaveVersions all base (taken_of past ++ all_said (k.steps + 1) (client_of k e) (taken_by k (client_of k e) e)) t.core.sessions t.core.seats t.core.ops

-- nothing is said
unsaid : (all : List Moment) → (base : ℕ → ℕ → ℕ) → (said : List Said) (sessions : List Session) (seats : List Seat) (ops : List Op) → HaveVersions all base said sessions seats ops → HaveVersions all base (said ++ []) sessions seats ops
unsaid all base said sessions seats ops h = subst (λ z. HaveVersions all base z sessions seats ops) (sym (append-nil said)) h

-- the points of operations are past
points_of : (book : Book) (k : Core) (qs : List Queue) → IsKept book k qs → (p q : ℕ) (o : Op) → slice_get k.ops p ≡ Some o → o.point ≡ Some q → q ≤ k.steps
points_of book k qs kept p q o at is =
    let le = ((kept.sound.rights p o (ap (λ (l : List Op). slice_get l p) kept.ops ∙ at)).pointed q is).1 in
    let steps = kept.steps in
    omega (arith, le, steps)

-- what has an xid from a floor on was not taken
not_taken : (floor : ℕ) (taken : List TakenCall) (y q : ℕ) → AllUnder floor taken → floor ≤ y → taken_at taken y ≡ Some q → ⊥
not_taken floor [] y q under le e = nothing_there q e
not_taken floor (t ∷ taken) y q under le e = by (t.xid == y) refl e (not_taken floor taken y q under.1 le)
  where
    by : (b : Bool) → (t.xid == y) ≡ b → option_map (λ (z : TakenCall). z.step) (cond b (Some t) (find (λ (z : TakenCall). z.xid == y) taken)) ≡ Some q → (taken_at taken y ≡ Some q → ⊥) → ⊥
    by true same e later = let lt = under.0 in grind (arith, nat_tests, same, lt, le)
    by false same e later = later e

-- ---- clients and operations are as they were, but for a change that is made

-- clients with a job are as they were, and operations
versions_moved : (all : List Moment) → (base : ℕ → ℕ → ℕ) → (n : ℕ) (said : List Said) (sessions later : List Session) (seats next : List Seat) (ops : List Op) → SaidBy n said → ((i : ℕ) (seat : Seat) (j : Job) → numbered next i ≡ Some seat → job seat ≡ Some j → (old : Seat) × (es : Entries) × (ix : Indexed × ℕ) × (numbered seats i ≡ Some old) × (seat ≡ with_kept old es ix)) → ((i : ℕ) (seat : Seat) → numbered seats i ≡ Some seat → Extends n (takens sessions seat) (takens later seat)) → HaveVersions all base said sessions seats ops → HaveVersions all base said later next ops
versions_moved all base n said sessions later seats next ops past jobs newer h = versions_onward all base n said said sessions later seats next ops ops past (λ f q le. refl) (λ p q o at is. refl)
    (λ i seat j r here is at. let w = jobs i seat j here is in inl (w.0, r, w.3, old_job w.0 seat w.1 w.2 j w.4 is, at, alike_same said r, subst (λ (z : Seat). Extends n (takens sessions w.0) (takens later z)) (sym w.4) (newer i w.0 w.3)))
    (λ p len q digest r at is point. inl (at, alike_same said r)) h

-- a close has ended as no open
pub rewrite_not_opened : (book : Book) (o : Op) (len : ℕ) (digest : List ℕ) → IsRight book o → o.word ≡ words.Rewrite → o.outcome ≡ told.Opened len digest → ⊥
rewrite_not_opened book o len digest r renew e = no (sym renew ∙ (subst (Caused book o) e r.cause).0)
  where
    no : words.Rewrite ≡ words.Open → ⊥
    no z = absurd cc

pub close_not_opened : (book : Book) (o : Op) (len : ℕ) (digest : List ℕ) → IsRight book o → o.word ≡ words.Close → o.outcome ≡ told.Opened len digest → ⊥
close_not_opened book o len digest r close e = close_not_open (sym close ∙ (subst (Caused book o) e r.cause).0)

-- nor has any change
pub change_not_opened : (book : Book) (o : Op) (len : ℕ) (digest : List ℕ) → IsRight book o → changes o.word ≡ true → o.outcome ≡ told.Opened len digest → ⊥
change_not_opened book o len digest r change e = true_and_false (changes o.word) change (ap changes (subst (Caused book o) e r.cause).0)

-- no version before now is another
pub change_versions : (k : Core) (ops : List Op) (c : IsChange k ops) (f q : ℕ) → q ≤ k.steps → changed_before f q (record c.op { file = c.file; point = Some (k.steps + 1) }) ≡ changed_before f q c.op
change_versions k ops c f q le = too_late f q (k.steps + 1) (record c.op { file = c.file; point = Some (k.steps + 1) }) refl (omega (arith, le)) ∙ sym (unpointed f q c.op c.unmade.1)

-- an operation's change was made
versions_change : (book : Book) (past : List Moment) (k : Core) (qs : List Queue) (ops : List Op) → IsKept book k qs → CountedAt past k → IsChange k ops → VersionsAt book.moments (early_of book.opening book.raws) past k → HaveVersions book.moments (early_of book.opening book.raws) (taken_of past) k.sessions k.seats ops
versions_change book past k qs ops kept counted c h =
    subst (HaveVersions book.moments (early_of book.opening book.raws) (taken_of past) k.sessions k.seats) (sym c.is)
    (versions_onward book.moments (early_of book.opening book.raws) k.steps (taken_of past) (taken_of past) k.sessions k.sessions k.seats k.seats k.ops (slice_set k.ops c.place new) counted.taken_by (λ f q le. ap (λ z. z + 1) (count_replaced f q k.ops c.place c.op new c.there (change_versions k ops c f q le))) (λ p q o at is. ap (λ z. z + 1) (count_replaced o.file q k.ops c.place c.op new c.there (change_versions k ops c o.file q (points_of book k qs kept p q o at is))))
    (λ i z j r here job_is was. elim (of_replaced k.ops c.place new j.place r was) [
      | inr old ↦ inl (z, r, here, job_is, old.1, alike_same (taken_of past) r, extends_same k.steps (takens k.sessions z))
      | inl made ↦ subst (JobCame (early_of book.opening book.raws) k.steps (taken_of past) (taken_of past) k.sessions k.sessions k.seats k.ops (slice_set k.ops c.place new) i z j) (sym made.1) (job_changed i z j here job_is made.0 c.kind)
    ])
    (λ p len q digest r was e point. elim (of_replaced k.ops c.place new p r was) [
      | inr old ↦ inl (old.1, alike_same (taken_of past) r)
      | inl made ↦ absurd (change_not_opened book c.op len digest (kept.sound.rights c.place c.op there) c.unmade.0 (ap (λ (z : Op). z.outcome) (sym made.1) ∙ e))
    ]) h)
  where
    new : Op
    new = record c.op { file = c.file; point = Some (k.steps + 1) }

    there : slice_get book.ops c.place ≡ Some c.op
    there = ap (λ (l : List Op). slice_get l c.place) kept.ops ∙ c.there

    job_changed : (i : ℕ) (z : Seat) (j : Job) → numbered k.seats i ≡ Some z → job z ≡ Some j → j.place ≡ c.place → ((c.op.word ≡ words.Close) × (c.file ≡ c.op.file) × Remembers k c.place) ⊎ ((gets_file c.op.word ≡ true) × (c.op.file ≡ 0)) → JobCame (early_of book.opening book.raws) k.steps (taken_of past) (taken_of past) k.sessions k.sessions k.seats k.ops (slice_set k.ops c.place new) i z j new
    job_changed i z j here job_is at (inl own) = inl (z, c.op, here, job_is, ap (slice_get k.ops) at ∙ c.there, record { file = own.1; forth = λ s m e. (m, e); back = λ s m e. (m, e) }, extends_same k.steps (takens k.sessions z))
    job_changed i z j here job_is at (inr make) =
        let of = (kept.seats i z here).task j job_is in
        let same : of.op ≡ c.op = some_is of.op c.op (sym of.there ∙ ap (slice_get book.ops) at ∙ there) in
        inr (made_job j.stage (ap gets_file (sym of.word ∙ ap (λ (z : Op). z.word) same) ∙ make.0))
      where
        made_job : (s : Stage) → gets_file (stage_word s) ≡ true → JobVersion (early_of book.opening book.raws) (taken_of past) (slice_set k.ops c.place new) (takens k.sessions z) new s
        made_job (stage.Walking x w) e = tt
        made_job s e = absurd cc

versions_still : (book : Book) (past : List Moment) (k : Core) (qs : List Queue) (e : Event) (t : CoreStep) → IsKept book k qs → IsStill k e t → CountedAt past k → VersionsAt book.moments (early_of book.opening book.raws) past k → VersionsBy book.moments (early_of book.opening book.raws) past k e t
versions_still book past k qs e t kept s counted h =
    subst (λ (l : List Message). HaveVersions book.moments (early_of book.opening book.raws) (taken_of past ++ all_said (k.steps + 1) (client_of k e) l) t.core.sessions t.core.seats t.core.ops) (sym s.silent.0)
    (unsaid book.moments (early_of book.opening book.raws) (taken_of past) t.core.sessions t.core.seats t.core.ops (versions_moved book.moments (early_of book.opening book.raws) k.steps (taken_of past) k.sessions t.core.sessions k.seats t.core.seats t.core.ops counted.taken_by s.jobs s.newer (by s.ops)))
  where
    by : Settled k t.core.ops → HaveVersions book.moments (early_of book.opening book.raws) (taken_of past) k.sessions k.seats t.core.ops
    by (inl same) = subst (HaveVersions book.moments (early_of book.opening book.raws) (taken_of past) k.sessions k.seats) (sym same) h
    by (inr c) = versions_change book past k qs t.core.ops kept counted c h

-- ---- a client's own operation

-- the server gives no file to what changes none, nor at a stage of a file
pub unnamed : (s : Stage) → changes (stage_word s) ≡ false → is_naming s ≡ false
unnamed (stage.Walking x w) e = e
unnamed s e = refl

pub of_file_unnamed : (s : Stage) → IsOfFile s → is_naming s ≡ false
of_file_unnamed (stage.Walking x w) h = absurd h
of_file_unnamed s h = refl

-- a step of its client in which it hears an answer finds a file for none that changes one
pub heard_finds : (book : Book) (k : Core) (qs : List Queue) (n now : ℕ) (bytes : List ℕ) (mid : List Queue) (kept : IsKept book k qs) (h : Heard k qs n now bytes mid) (m : Result Message WireFault) (p : ℕ) (o : Op) → h.seat.place ≡ Some p → slice_get k.ops p ≡ Some o → Quietly (got_step h.seat.client m now).1 o.word
heard_finds book k qs n now bytes mid kept h m p o e at =
    let w = own_op book k qs h.session.owner h.seat p o kept h.owner e at in
    let of = (kept.seats h.session.owner h.seat h.owner).task w.0 w.1 in
    let same : of.op ≡ o = some_is of.op o (sym of.there ∙ ap (slice_get book.ops) w.2 ∙ ap (λ (l : List Op). slice_get l p) kept.ops ∙ at) in
    subst (Quietly (got_step h.seat.client m now).1) (sym (ap (λ (z : Op). z.word) (sym same) ∙ of.word)) (heard_quiet book k qs n now bytes mid kept h m w.0 w.1)

-- nor for one that has its file
pub heard_shut : (book : Book) (k : Core) (qs : List Queue) (n now : ℕ) (bytes : List ℕ) (mid : List Queue) (kept : IsKept book k qs) (h : Heard k qs n now bytes mid) (m : Result Message WireFault) (p : ℕ) (o : Op) → h.seat.place ≡ Some p → slice_get k.ops p ≡ Some o → ((got_step h.seat.client m now).1.found ≡ None) ⊎ (o.file ≡ 0)
heard_shut book k qs n now bytes mid kept h m p o e at =
    let w = own_op book k qs h.session.owner h.seat p o kept h.owner e at in
    let of = (kept.seats h.session.owner h.seat h.owner).task w.0 w.1 in
    let same : of.op ≡ o = some_is of.op o (sym of.there ∙ ap (slice_get book.ops) w.2 ∙ ap (λ (l : List Op). slice_get l p) kept.ops ∙ at) in
    elim (heard_finds book k qs n now bytes mid kept h m p o e at) [
      | inl none ↦ inl none
      | inr quiet ↦ elim (heard_apart book k qs n now bytes mid kept h m w.0 w.1) [ inl none ↦ inl none | inr shut ↦ inr (w.5 (unnamed w.0.stage (ap changes (sym of.word ∙ ap (λ (z : Op). z.word) same) ∙ quiet)) ∙ shut) ]
    ]

-- what was said by this step is still of it
running_upto : (o : Op) (c : client.State) (taken : List TakenCall) (n : ℕ) (acts : ClientStep) → o.end ≡ None → AlikeUpTo (n + 1) o (op_after o c taken (n + 1) acts)
running_upto o c taken n acts none = λ step i le. by acts.ended step i le
  where
    by : (e : Option Ended) (step i : ℕ) → step ≤ n + 1 → of_step (op_after o c taken (n + 1) (record acts { ended = e })) step i ≡ of_step o step i
    by None step i le = refl
    by (Some e) step i le = ap (λ b. (i == o.client) && (nat_le o.begin step && b)) (let t : nat_le step (n + 1) ≡ true = grind (arith, nat_tests, le) in t ∙ sym (ap (λ z. until z step) none))

pub opened_by : (u : Outcome) (len : ℕ) (digest : List ℕ) → told_of u ≡ told.Opened len digest → (file : ℕ) × (u ≡ outcome.Opened file len digest)
opened_by (outcome.Opened file l d) len digest e = (file, ap (λ (z : History). outcome.Opened file (opened_len z) (opened_digest z)) e)
  where
    opened_len : History → ℕ
    opened_len (told.Opened l d) = l
    opened_len u = 0

    opened_digest : History → List ℕ
    opened_digest (told.Opened l d) = d
    opened_digest u = []
opened_by u len digest e = absurd cc

pub word_after : (o : Op) (c : client.State) (taken : List TakenCall) (step : ℕ) (acts : ClientStep) → (op_after o c taken step acts).word ≡ o.word
word_after o c taken step acts = by acts.ended
  where
    by : (l : Option Ended) → (op_after o c taken step (record acts { ended = l })).word ≡ o.word
    by None = refl
    by (Some e) = refl

pub or_none : (b : Bool) → (b || false) ≡ true → b ≡ true
or_none true e = refl
or_none false e = e

same_reply : (t : Told) (r : Reply) → t.reply ≡ r → told_message t ≡ message.Answer t.xid (reply_body r)
same_reply t r e = ap (λ z. message.Answer t.xid (reply_body z)) e

-- a running operation's part of its client's step
open_now : (o : Op) (n i : ℕ) → o.client ≡ i → o.end ≡ None → o.begin ≤ n → of_step o (n + 1) i ≡ true
open_now o n i mine none begun =
    ap (λ b. b && (nat_le o.begin (n + 1) && until o.end (n + 1))) (eq-eqb i o.client (sym mine))
    ∙ ap (λ b. true && (b && until o.end (n + 1))) (let t : nat_le o.begin (n + 1) ≡ true = grind (arith, nat_tests, begun) in t)
    ∙ ap (λ z. until z (n + 1)) none

-- ---- a client acts

-- what is said in a client's step is of no other operation
alike_other : (said : List Said) (step i : ℕ) (ms : List Message) (o : Op) → of_step o step i ≡ false → Alike said (said ++ all_said step i ms) o o
alike_other said step i ms o none = record {
  file = refl;
  forth = λ s c e. (Contains-append_left said (all_said step i ms) s c, e);
  back = λ s c e. elim (Contains-append_cases said (all_said step i ms) s c) [
    | inl old ↦ (old, e)
    | inr now ↦ absurd (apart s (said_at step i ms s now) e)
  ];
}
  where
    apart : (s : Said) → (s.step ≡ step) × (s.client ≡ i) → of_step o s.step s.client ≡ true → ⊥
    apart s (a, b) e = false_and_true (of_step o step i) none (sym (ap (λ z. of_step o z s.client) a ∙ ap (of_step o step) b) ∙ e)

-- an operation and what becomes of it in its client's step
alike_after : (n : ℕ) (said : List Said) (o r : Op) → SaidBy n said → r.file ≡ o.file → AlikeUpTo n o r → Alike said said o r
alike_after n said o r past file same = record {
  file = file;
  forth = λ s c e. (c, same s.step s.client (said_by n said s past c) ∙ e);
  back = λ s c e. (c, sym (same s.step s.client (said_by n said s past c)) ∙ e);
}

file_after : (o : Op) (c : client.State) (taken : List TakenCall) (step : ℕ) (acts : ClientStep) → acts.found ≡ None → (op_after o c taken step acts).file ≡ o.file
file_after o c taken step acts none = by acts.ended ∙ ap (file_with o.file) none
  where
    by : (e : Option Ended) → (op_after o c taken step (record acts { ended = e })).file ≡ file_with o.file acts.found
    by None = refl
    by (Some e) = refl

client_after : (o : Op) (c : client.State) (taken : List TakenCall) (step : ℕ) (acts : ClientStep) → (op_after o c taken step acts).client ≡ o.client
client_after o c taken step acts = by acts.ended
  where
    by : (e : Option Ended) → (op_after o c taken step (record acts { ended = e })).client ≡ o.client
    by None = refl
    by (Some e) = refl

found_file : (o : Op) (c : client.State) (taken : List TakenCall) (step : ℕ) (acts : ClientStep) (id : ℕ) → acts.found ≡ Some id → (op_after o c taken step acts).file ≡ id
found_file o c taken step acts id found = by acts.ended ∙ ap (file_with o.file) found
  where
    by : (e : Option Ended) → (op_after o c taken step (record acts { ended = e })).file ≡ file_with o.file acts.found
    by None = refl
    by (Some e) = refl

end_after : (o : Op) (c : client.State) (taken : List TakenCall) (step : ℕ) (acts : ClientStep) (l : Ended) → acts.ended ≡ Some l → (op_after o c taken step acts).end ≡ Some step
end_after o c taken step acts l is = ap (λ (z : Option Ended). (op_after o c taken step (record acts { ended = z })).end) is

-- one that was under way and got its content ended so
ended_with : (o : Op) (c : client.State) (taken : List TakenCall) (step : ℕ) (acts : ClientStep) (len : ℕ) (digest : List ℕ) → o.outcome ≡ told.Running → (op_after o c taken step acts).outcome ≡ told.Opened len digest → (l : Ended) × (acts.ended ≡ Some l) × IsOpenedBy l.outcome × (told_of l.outcome ≡ told.Opened len digest)
ended_with o c taken step acts len digest running opened = by acts.ended refl opened
  where
    running_not : told.Running ≡ told.Opened len digest → ⊥
    running_not z = absurd cc

    by : (e : Option Ended) → acts.ended ≡ e → (op_after o c taken step (record acts { ended = e })).outcome ≡ told.Opened len digest → (l : Ended) × (acts.ended ≡ Some l) × IsOpenedBy l.outcome × (told_of l.outcome ≡ told.Opened len digest)
    by None is z = absurd (running_not (sym running ∙ z))
    by (Some l) is z = (l, is, subst IsOpenedBy (sym (opened_by l.outcome len digest z).1) tt, z)

-- its point is by the call that it rests on, or now
pointed_as : (o : Op) (taken : List TakenCall) (step x : ℕ) (u : Outcome) (file len q : ℕ) (digest : List ℕ) → u ≡ outcome.Opened file len digest → o.word ≡ words.Open → point_if (has_point o.word u) taken x step o.point ≡ Some q → Some (unwrap_or (taken_at taken x) step) ≡ Some q
pointed_as o taken step x u file len q digest is w g = ap (λ z. point_if (has_point z (outcome.Opened file len digest)) taken x step o.point) (sym w) ∙ ap (λ z. point_if (has_point o.word z) taken x step o.point) (sym is) ∙ g

-- ---- an open that gets its content at once

-- what does so, where a content of its file is fresh to its client that acts
now_gave : (book : Book) (k : Core) (qs : List Queue) → IsKept book k qs → (e : Event) (c now f : ℕ) (seat : Seat) (v : Content) → Contains book.moments (moment k e) → acts_at k e ≡ Some (c, now) → numbered k.seats c ≡ Some seat → fresh_content seat.client.cache f now ≡ Some v → (happens k e).up ≡ []
    → (o : Op) → o.client ≡ c → o.file ≡ f → o.end ≡ Some (k.steps + 1) → (q : ℕ) → q ≡ k.steps + 1 → (version : ℕ) → version_by (early_of book.opening book.raws) k.ops f (k.steps + 1) ≡ version → IsNow book.moments o q version
now_gave book k qs kept e c now f seat v there acts here fresh quiet o client file end q at version is = record {
  ends = record {
    moment = moment k e;
    there = there;
    end_is = end;
    quiet = quiet;
    now = now;
    acts = acts ∙ ap (λ (i : ℕ). Some (i, now)) (sym client);
    seat = seat;
    seat_is = ap (numbered k.seats) client ∙ here;
    content = v;
    fresh = ap (λ (g : ℕ). fresh_content seat.client.cache g now) file ∙ fresh;
  };
  at = at;
  version_is = λ leased.
      let w = fresh_in_is seat.client.cache f now v fresh in
      let g = leased (moment k e) c now f seat v there acts here w.kept w.fresh in
      let held = subst (FileIs book f) g.1 (kept.server.held f) in
      sym (held.4 ∙ g.2) ∙ ap (λ (n : ℕ). version_at book f (n + 1)) kept.steps ∙ version_split book f (k.steps + 1) ∙ ap (λ (l : List Op). version_by (early_of book.opening book.raws) l f (k.steps + 1)) kept.ops ∙ is;
}

unopened : (a l : Ended) → (IsOpenedBy a.outcome → ⊥) → Some a ≡ Some l → IsOpenedBy l.outcome → ⊥
unopened a l shut at o = shut (subst (λ (z : Ended). IsOpenedBy z.outcome) (sym (some_is a l at)) o)

-- where a step finds a file and opens it, a content of it is fresh
abbrev FreshFound : client.State → client.State × ClientStep → Type 0
FreshFound s r = (id : ℕ) → r.1.found ≡ Some id → (l : Ended) → r.1.ended ≡ Some l → IsOpenedBy l.outcome → (c : Content) × (fresh_content s.cache id s.clock ≡ Some c)

plain_end : (e : WalkEnd) → IsOpenedBy (outcome_of e) → ⊥
plain_end walk_end.Done h = h
plain_end _ h = h

took_fresh : (s : client.State) (calls : List Pending) (file : ℕ) (st : Stage) (x : ℕ) (b : Body) → FreshFound s (took s calls file st x b)
took_fresh s calls file (stage.Walking y w) x b = walk_cases (FreshFound s) s calls file y w x b (record {
  fault = λ f bad id e l at o. nothing_there id e;
  asks = λ v k id e l at o. nothing_there id e;
  open_already = λ found k is id e l at o. absurd (unopened _ l (λ z. z) at o);
  fetches = λ found k shut none id e l at o. nothing_there l at;
  leases = λ found c k shut there id e l at o. nothing_there l at;
  opens_now = λ found c k shut fresh id e l at o. (c, subst (λ (z : ℕ). fresh_content s.cache z s.clock ≡ Some c) (some_is found id e) fresh);
  empties_now = λ found c k shut fresh id e l at o. absurd (unopened _ l (λ z. z) at o);
  renew_already = λ found k is id e l at o. absurd (unopened _ l (λ z. z) at o);
  renews = λ found k shut id e l at o. nothing_there l at;
  ends = λ v end k same id e l at o. absurd (unopened _ l (plain_end end) at o);
})
took_fresh s calls file st x b = λ id e l at o. nothing_there id (sym (took_finds s calls file st x b tt) ∙ e)

step_fresh : (s : client.State) (m : Result Message WireFault) (now : ℕ) → FreshFound (at_clock s now) (got_step s m now)
step_fresh s m now = got_cases (FreshFound (at_clock s now)) s m now (record {
  took = λ t is xid b. took_fresh (idle (at_clock s now)) (client.calls_of s) t.file t.stage xid b;
  memory = λ t is xid id e l at o. nothing_there id e;
  bad = λ t is f id e l at o. nothing_there id e;
  off = λ none id e l at o. nothing_there id e;
  forgot = λ xid id e l at o. nothing_there id e;
  recalled = λ xid o id e l at z. nothing_there id e;
  greeted = λ xid id e l at o. nothing_there id e;
  unfit = λ xid r id e l at o. nothing_there id e;
  call = λ id e l at o. nothing_there id e;
})

-- where a command opens a file at once, a content of it is fresh
record OpensAtOnce (s : client.State) (d : Command) (r : client.State × ClientStep) : Type 0 where
  pub content : Content
  pub fresh : fresh_content s.cache (file_of d) s.clock ≡ Some content
  pub quiet : r.1.send ≡ []

plain_shut : (o : Outcome) → IsPlain o → IsOpenedBy o → ⊥
plain_shut (outcome.Opened file len digest) plain o = plain
plain_shut u plain o = o

command_opens : (s : client.State) (d : Command) (now : ℕ) (l : Ended) → (command_step s d now).1.ended ≡ Some l → IsOpenedBy l.outcome → OpensAtOnce (at_clock s now) d (command_step s d now)
command_opens s d now = command_cases (λ r. (l : Ended) → r.1.ended ≡ Some l → IsOpenedBy l.outcome → OpensAtOnce (at_clock s now) d r) s d now (record {
  busy = λ t is l at o. absurd (unopened _ l (λ z. z) at o);
  answers = λ free opened u plain l at o. absurd (unopened _ l (plain_shut u plain) at o);
  fetches = λ file is free may l at o. nothing_there l at;
  asks = λ file c is free may at l e o. nothing_there l e;
  renews = λ file is free may l at o. nothing_there l at;
  opens_now = λ file c is free shut fresh l at o. record { content = c; fresh = ap (λ (z : Command). fresh_content s.cache (file_of z) now) is ∙ fresh; quiet = refl };
  empties_now = λ file c is free shut fresh l at o. absurd (unopened _ l (λ z. z) at o);
  walks = λ c is free may l at o. nothing_there l at;
  closes = λ file k is free may at l e o. nothing_there l e;
})

made_unchanging : (k : Core) (c now : ℕ) (d : Command) (seat : Seat) (s : client.State) (acts : ClientStep) (f q : ℕ) → changed_before f q (made_by k c now d seat s acts) ≡ false
made_unchanging k c now d seat s acts f q = elim (made_quiet k c now d seat s acts acts.ended) [ inl none ↦ unpointed f q (made_by k c now d seat s acts) none | inr word ↦ unchanging f q (made_by k c now d seat s acts) word ]

at_once : (book : Book) (k : Core) (qs : List Queue) (c now : ℕ) (d : Command) (seat : Seat) → IsKept book k qs → Contains book.moments (moment k (Does c now d)) → IsSmall d → numbered k.seats c ≡ Some seat
    → (let r = command_step seat.client d now in let new = made_by k c now d seat r.0 r.1 in (q len : ℕ) (digest : List ℕ) → new.outcome ≡ told.Opened len digest → new.point ≡ Some q → IsNow book.moments new q (version_by (early_of book.opening book.raws) (k.ops ++ new ∷ []) new.file q))
at_once book k qs c now d seat kept noted small here q len digest opened point =
    let r = command_step seat.client d now in
    let new : Op = made_by k c now d seat r.0 r.1 in
    let start : Op = begun c (word_of d) (file_of d) (value_at_begin seat.client (word_of d) (file_of d) r.1.ended) (k.steps + 1) in
    let l = ended_with start r.0 [] (k.steps + 1) r.1 len digest refl opened in
    let a = command_opens seat.client d now l.0 l.1 l.2 in
    let q_is : q ≡ k.steps + 1 = made_point k c now d seat r.0 r.1 r.1.ended q point in
    let file : new.file ≡ file_of d = file_after start r.0 [] (k.steps + 1) r.1 (command_finds seat.client d now small) in
    now_gave book k qs kept (Does c now d) c now (file_of d) seat a.content noted refl here a.fresh (ap (λ (o : Option Seat). (does k c now d o).up) here ∙ a.quiet) new (client_after start r.0 [] (k.steps + 1) r.1) file (end_after start r.0 [] (k.steps + 1) r.1 l.0 l.1) q q_is (version_by (early_of book.opening book.raws) (k.ops ++ new ∷ []) new.file q)
    (sym (ap (version_by (early_of book.opening book.raws) (k.ops ++ new ∷ []) new.file) q_is ∙ ap (λ (f : ℕ). version_by (early_of book.opening book.raws) (k.ops ++ new ∷ []) f (k.steps + 1)) file ∙ by_counts (early_of book.opening book.raws) (k.ops ++ new ∷ []) k.ops (file_of d) (k.steps + 1) (ap (λ z. z + 1) (count_appended (file_of d) (k.steps + 1) k.ops new (made_unchanging k c now d seat r.0 r.1 (file_of d) (k.steps + 1))))))

-- a connection is lost

versions_lost : (book : Book) (past : List Moment) (k : Core) (qs : List Queue) (c : ℕ) (seat : Seat) → IsKept book k qs → numbered k.seats c ≡ Some seat → CountedAt past k → VersionsAt book.moments (early_of book.opening book.raws) past k → VersionsBy book.moments (early_of book.opening book.raws) past k (Cuts c) (cuts_if k c seat true)
versions_lost book past k qs c seat kept here counted h = unsaid book.moments (early_of book.opening book.raws) (taken_of past) (cut_session k.sessions seat.session (session_of k.sessions seat.session)) (with_numbered k.seats c (gone_seat seat.client.task)) (ops_with k.ops seat.place gone taken (k.steps + 1) (ended_by seat.client.task lost)) (by seat.client.task)
  where
    lost : Ended
    lost = record { outcome = outcome.Lost; rests_on = 0 }

    taken : List TakenCall
    taken = session_taken (session_of k.sessions seat.session)

    gone : client.State
    gone = record seat.client { linked = false; task = None; forgotten = [] }

    gone_seat : Option Task → Seat
    gone_seat t = record seat { client = gone; place = place_after seat.place (ended_by t lost).ended }

    no_job : (l : Option ℕ) → job_of l None ≡ None
    no_job None = refl
    no_job (Some l) = refl

    cut_taken : (i : ℕ) (z : Seat) → numbered k.seats i ≡ Some z → Extends k.steps (takens k.sessions z) (takens (cut_session k.sessions seat.session (session_of k.sessions seat.session)) z)
    cut_taken i z there = newest seat.session
      where
        at : (m : ℕ) (x : Option Session) → numbered k.sessions m ≡ x → Extends k.steps (takens k.sessions z) (takens (cut_session k.sessions (Some m) x) z)
        at m None e = extends_same k.steps (takens k.sessions z)
        at m (Some x) e = takens_with k.steps m k.sessions x (record x { cut = true }) z.session e (extends_same k.steps x.taken)

        newest : (l : Option ℕ) → Extends k.steps (takens k.sessions z) (takens (cut_session k.sessions l (session_of k.sessions l)) z)
        newest None = extends_same k.steps (takens k.sessions z)
        newest (Some m) = at m (numbered k.sessions m) refl

    ended_none : (t : Option Task) → (ended_by t lost).found ≡ None
    ended_none None = refl
    ended_none (Some u) = refl

    not_opened : (t : Option Task) (o : Op) → o.outcome ≡ told.Running → (len : ℕ) (digest : List ℕ) → (op_after o gone taken (k.steps + 1) (ended_by t lost)).outcome ≡ told.Opened len digest → ⊥
    not_opened None o run len digest z = running_not (sym run ∙ z)
      where
        running_not : told.Running ≡ told.Opened len digest → ⊥
        running_not z = absurd cc
    not_opened (Some u) o run len digest z = absurd cc

    by : (t : Option Task) → HaveVersions book.moments (early_of book.opening book.raws) (taken_of past) (cut_session k.sessions seat.session (session_of k.sessions seat.session)) (with_numbered k.seats c (gone_seat t)) (ops_with k.ops seat.place gone taken (k.steps + 1) (ended_by t lost))
    by t = versions_onward book.moments (early_of book.opening book.raws) k.steps (taken_of past) (taken_of past) k.sessions (cut_session k.sessions seat.session (session_of k.sessions seat.session)) k.seats (with_numbered k.seats c (gone_seat t)) k.ops (ops_with k.ops seat.place gone taken (k.steps + 1) (ended_by t lost)) counted.taken_by (λ f q le. versions_after k.ops seat.place gone taken (k.steps + 1) (ended_by t lost) (λ p o e at. inl (ended_none t)) f q) (λ p q o at is. versions_after k.ops seat.place gone taken (k.steps + 1) (ended_by t lost) (λ p o e at. inl (ended_none t)) o.file q)
        (λ i z j r there is at. elim (of_numbered k.seats c (gone_seat t) i z there) [
          | inl mine ↦ nothing_there j (sym (no_job (place_after seat.place (ended_by t lost).ended)) ∙ ap job (sym mine.1) ∙ is)
          | inr other ↦ elim (ops_shape k.ops seat.place gone taken (k.steps + 1) (ended_by t lost) j.place r at) [
            | inl new ↦ absurd (foreign_at book k qs c seat kept here i z j new.0 other.1 is new.2 other.0 new.1)
            | inr old ↦ inl (z, r, other.1, is, old.1, alike_same (taken_of past) r, cut_taken i z other.1)
          ]
        ])
        (λ p len q digest r at e point. elim (ops_shape k.ops seat.place gone taken (k.steps + 1) (ended_by t lost) p r at) [
          | inl new ↦ absurd (not_opened t new.0 (own_op book k qs c seat p new.0 kept here new.1 new.2).4 len digest (ap (λ (z : Op). z.outcome) (sym new.3) ∙ e))
          | inr old ↦ inl (old.1, alike_same (taken_of past) r)
        ]) h

-- ---- a command

versions_does : (book more : Book) (past : List Moment) (k : Core) (qs after : List Queue) (c now : ℕ) (d : Command) (seat : Seat) → IsKept book k qs → Contains book.moments (moment k (Does c now d)) → IsSmall d → numbered k.seats c ≡ Some seat → IsKept more (does k c now d (Some seat)).core after → CountedAt past k → VersionsAt book.moments (early_of book.opening book.raws) past k → VersionsBy book.moments (early_of book.opening book.raws) past k (Does c now d) (does k c now d (Some seat))
versions_does book more past k qs after c now d seat kept noted small here left counted h =
    let r = command_step seat.client d now in
    unsaid book.moments (early_of book.opening book.raws) (taken_of past) (later r.1) (with_numbered k.seats c (record seat { client = r.0; place = place_with seat.place (length k.ops) r.1.ended })) (k.ops ++ new r.0 r.1 ∷ [])
    (grown r.0 r.1 (at_once book k qs c now d seat kept noted small here) (own_job r.0 r.1 (kept.seats c seat here).matched (λ Q R fresh free. (good_command Q R seat.client fresh d now free).0) (λ t e. (busy_command seat.client d now t e).1)))
  where
    new : client.State → ClientStep → Op
    new s acts = made_by k c now d seat s acts

    -- nothing was said of it before
    fresh : (s : client.State) (acts : ClientStep) (taken : List TakenCall) (x : ℕ) → Untold (taken_of past) taken (made_by k c now d seat s acts) x
    fresh s acts taken x = λ q was z there of lt is. false_and_true (of_step (new s acts) z.step z.client) (early (new s acts) z.step z.client (let le = said_by k.steps (taken_of past) z counted.taken_by there in let b = made_later k c now d seat s acts acts.ended in omega (arith, le, b))) of

    later : ClientStep → List Session
    later acts = commanded_sessions k.sessions seat.session (session_of k.sessions seat.session) seat.place (length k.ops) (word_of d) acts

    -- the calls of a seat, where it is another's, or where an operation was under way
    kept_taken : (acts : ClientStep) (i : ℕ) (z : Seat) → numbered k.seats i ≡ Some z → (i ≡ c → (p : ℕ) × (seat.place ≡ Some p)) → Extends k.steps (session_taken (session_of k.sessions z.session)) (session_taken (session_of (commanded_sessions k.sessions seat.session (session_of k.sessions seat.session) seat.place (length k.ops) (word_of d) acts) z.session))
    kept_taken acts i z there mine = newest seat.session (λ m e. (kept.seats c seat here).session m e)
      where
        on : (l : Option ℕ) (t : List TakenCall) (p : ℕ) → l ≡ Some p → t ≡ taken_on l t
        on None t p e = nothing_there p e
        on (Some l) t p e = refl

        at : (m : ℕ) (x : Session) → numbered k.sessions m ≡ Some x → x.owner ≡ c → Extends k.steps (session_taken (session_of k.sessions z.session)) (session_taken (session_of (with_numbered k.sessions m (commanded_session x seat.place (length k.ops) (word_of d) acts)) z.session))
        at m x e owner = elim (same_or_not i c) [
          | inl same ↦ (let w = mine same in takens_with k.steps m k.sessions x (commanded_session x seat.place (length k.ops) (word_of d) acts) z.session e (subst (Extends k.steps x.taken) (on seat.place x.taken w.0 w.1) (extends_same k.steps x.taken)))
          | inr apart ↦ takens_else k.steps m k.sessions (commanded_session x seat.place (length k.ops) (word_of d) acts) z.session (λ q. let w = (kept.seats i z there).session m q in apart (sym w.2 ∙ ap (λ (y : Session). y.owner) (some_is w.0 x (sym w.1 ∙ e)) ∙ owner))
        ]

        newest : (l : Option ℕ) → ((m : ℕ) → l ≡ Some m → (x : Session) × (numbered k.sessions m ≡ Some x) × (x.owner ≡ c)) → Extends k.steps (session_taken (session_of k.sessions z.session)) (session_taken (session_of (commanded_sessions k.sessions l (session_of k.sessions l) seat.place (length k.ops) (word_of d) acts) z.session))
        newest None has = extends_same k.steps (session_taken (session_of k.sessions z.session))
        newest (Some m) has = let w = has m refl in subst (λ y. Extends k.steps (session_taken (session_of k.sessions z.session)) (session_taken (session_of (commanded_sessions k.sessions (Some m) y seat.place (length k.ops) (word_of d) acts) z.session))) (sym w.1) (at m w.0 w.1 w.2)

    old_op : (s : client.State) (acts : ClientStep) (i : ℕ) (z : Seat) (j : Job) (r : Op) → numbered k.seats i ≡ Some z → job z ≡ Some j → slice_get (k.ops ++ made_by k c now d seat s acts ∷ []) j.place ≡ Some r → slice_get k.ops j.place ≡ Some r
    old_op s acts i z j r there is at = elim (of_appended k.ops (new s acts) j.place r at) [
      | inr old ↦ old
      | inl last ↦ (let lt = old_jobs book k qs kept i z j there is in let e = last.0 in absurd (omega (arith, lt, e)))
    ]

    OwnJob : (s : client.State) (acts : ClientStep) → Type 0
    OwnJob s acts = (j : Job) (r : Op) → job_of (place_with seat.place (length k.ops) acts.ended) s.task ≡ Some j → slice_get (k.ops ++ made_by k c now d seat s acts ∷ []) j.place ≡ Some r
        → JobCame (early_of book.opening book.raws) k.steps (taken_of past) (taken_of past) k.sessions (commanded_sessions k.sessions seat.session (session_of k.sessions seat.session) seat.place (length k.ops) (word_of d) acts) k.seats k.ops (k.ops ++ made_by k c now d seat s acts ∷ []) c (record seat { client = s; place = place_with seat.place (length k.ops) acts.ended }) j r

    own_job : (s : client.State) (acts : ClientStep) → IsMatched seat → ((Q : ℕ → ℕ → Type 0) (R : ℕ → Type 0) → R seat.client.next_xid → TaskGood Q R seat.client.task → TaskGood Q R s.task) → ((t : Task) → seat.client.task ≡ Some t → s ≡ at_clock seat.client now)
        → (j : Job) (r : Op) → job_of (place_with seat.place (length k.ops) acts.ended) s.task ≡ Some j → slice_get (k.ops ++ made_by k c now d seat s acts ∷ []) j.place ≡ Some r
        → JobCame (early_of book.opening book.raws) k.steps (taken_of past) (taken_of past) k.sessions (commanded_sessions k.sessions seat.session (session_of k.sessions seat.session) seat.place (length k.ops) (word_of d) acts) k.seats k.ops (k.ops ++ made_by k c now d seat s acts ∷ []) c (record seat { client = s; place = place_with seat.place (length k.ops) acts.ended }) j r
    own_job s acts (inl (no_place, free)) good busy j r is at = by acts.ended (subst (λ l. job_of (place_with l (length k.ops) acts.ended) s.task ≡ Some j) no_place is)
      where
        taken : List TakenCall
        taken = session_taken (session_of (commanded_sessions k.sessions seat.session (session_of k.sessions seat.session) seat.place (length k.ops) (word_of d) acts) seat.session)

        all : List Op
        all = k.ops ++ made_by k c now d seat s acts ∷ []

        by : (e : Option Ended) → job_of (place_with None (length k.ops) e) s.task ≡ Some j → JobCame (early_of book.opening book.raws) k.steps (taken_of past) (taken_of past) k.sessions (commanded_sessions k.sessions seat.session (session_of k.sessions seat.session) seat.place (length k.ops) (word_of d) acts) k.seats k.ops (k.ops ++ made_by k c now d seat s acts ∷ []) c (record seat { client = s; place = place_with seat.place (length k.ops) acts.ended }) j r
        by (Some e) is = nothing_there j is
        by None is =
            let place : length k.ops ≡ j.place = some_is (length k.ops) j.place (job_place (Some (length k.ops)) s.task j is) in
            let same : new s acts ≡ r = some_is (new s acts) r (sym (at_end k.ops (new s acts)) ∙ ap (slice_get (k.ops ++ new s acts ∷ [])) place ∙ at) in
            let on = subst (TaskGood (Attempt (early_of book.opening book.raws) (taken_of past) all taken (new s acts)) (Untold (taken_of past) taken (new s acts))) (job_task (Some (length k.ops)) s.task j is) (good (Attempt (early_of book.opening book.raws) (taken_of past) all taken (new s acts)) (Untold (taken_of past) taken (new s acts)) (fresh s acts taken seat.client.next_xid) (subst (TaskGood (Attempt (early_of book.opening book.raws) (taken_of past) all taken (new s acts)) (Untold (taken_of past) taken (new s acts))) (sym free) tt)) in
            inr (subst (λ (z : Op). JobVersion (early_of book.opening book.raws) (taken_of past) all taken z j.stage) same on)
    own_job s acts (inr (i, was)) good busy j r is at =
        let place = job_place seat.place seat.client.task i was in
        let same = busy (record { file = i.file; stage = i.stage }) (job_task seat.place seat.client.task i was) in
        let still : job seat ≡ Some j = by seat.place place (ap (λ (z : client.State). job_of (place_with seat.place (length k.ops) acts.ended) z.task) (sym same) ∙ is) in
        inl (seat, r, here, still, old_op s acts c seat j r here still at, alike_same (taken_of past) r, kept_taken acts c seat here (λ e. (i.place, place)))
      where
        by : (l : Option ℕ) → l ≡ Some i.place → job_of (place_with l (length k.ops) acts.ended) seat.client.task ≡ Some j → job_of l seat.client.task ≡ Some j
        by None w q = nothing_there i.place w
        by (Some p) w q = q

    grown : (s : client.State) (acts : ClientStep) → ((q len : ℕ) (digest : List ℕ) → (made_by k c now d seat s acts).outcome ≡ told.Opened len digest → (made_by k c now d seat s acts).point ≡ Some q → IsNow book.moments (made_by k c now d seat s acts) q (version_by (early_of book.opening book.raws) (k.ops ++ made_by k c now d seat s acts ∷ []) (made_by k c now d seat s acts).file q))
        → ((j : Job) (r : Op) → job_of (place_with seat.place (length k.ops) acts.ended) s.task ≡ Some j → slice_get (k.ops ++ made_by k c now d seat s acts ∷ []) j.place ≡ Some r
        → JobCame (early_of book.opening book.raws) k.steps (taken_of past) (taken_of past) k.sessions (commanded_sessions k.sessions seat.session (session_of k.sessions seat.session) seat.place (length k.ops) (word_of d) acts) k.seats k.ops (k.ops ++ made_by k c now d seat s acts ∷ []) c (record seat { client = s; place = place_with seat.place (length k.ops) acts.ended }) j r)
        → HaveVersions book.moments (early_of book.opening book.raws) (taken_of past) (commanded_sessions k.sessions seat.session (session_of k.sessions seat.session) seat.place (length k.ops) (word_of d) acts) (with_numbered k.seats c (record seat { client = s; place = place_with seat.place (length k.ops) acts.ended })) (k.ops ++ made_by k c now d seat s acts ∷ [])
    grown s acts now_open mine = versions_onward book.moments (early_of book.opening book.raws) k.steps (taken_of past) (taken_of past) k.sessions (later acts) k.seats (with_numbered k.seats c (record seat { client = s; place = place_with seat.place (length k.ops) acts.ended })) k.ops (k.ops ++ new s acts ∷ []) counted.taken_by (λ f q le. ap (λ z. z + 1) (count_appended f q k.ops (new s acts) (made_unchanging k c now d seat s acts f q))) (λ p q o at is. ap (λ z. z + 1) (count_appended o.file q k.ops (new s acts) (made_unchanging k c now d seat s acts o.file q)))
        (λ i z j r there is at. elim (of_numbered k.seats c (record seat { client = s; place = place_with seat.place (length k.ops) acts.ended }) i z there) [
          | inr other ↦ inl (z, r, other.1, is, old_op s acts i z j r other.1 is at, alike_same (taken_of past) r, kept_taken acts i z other.1 (λ e. absurd (other.0 e)))
          | inl own ↦ subst (λ n. JobCame (early_of book.opening book.raws) k.steps (taken_of past) (taken_of past) k.sessions (later acts) k.seats k.ops (k.ops ++ new s acts ∷ []) n z j r) (sym own.0) (subst (λ y. JobCame (early_of book.opening book.raws) k.steps (taken_of past) (taken_of past) k.sessions (later acts) k.seats k.ops (k.ops ++ new s acts ∷ []) c y j r) (sym own.1) (mine j r (ap job (sym own.1) ∙ is) at))
        ])
        (λ p len q digest r at e point. elim (of_appended k.ops (new s acts) p r at) [
          | inr old ↦ inl (old, alike_same (taken_of past) r)
          | inl last ↦ inr (inr (subst (λ (z : Op). IsNow book.moments z q (version_by (early_of book.opening book.raws) (k.ops ++ new s acts ∷ []) z.file q)) (sym last.1) (now_open q len digest (ap (λ (z : Op). z.outcome) (sym last.1) ∙ e) (ap (λ (z : Op). z.point) (sym last.1) ∙ point))))
        ]) h

-- ---- an answer

-- one answer more was said, or none
one_more : (said : List Said) (s z : Said) → Contains (said ++ s ∷ []) z → Contains said z ⊎ (z ≡ s)
one_more said s z c = elim (Contains-append_cases said (s ∷ []) z c) [
  | inl old ↦ inl old
  | inr now ↦ elim (first_or_rest s [] z now) [
    | inl same ↦ inr same
    | inr none ↦ (let lt = none.1 in absurd (omega (arith, lt)))
  ]
]

alike_none : (said more : List Said) (o : Op) → more ≡ [] → Alike said (said ++ more) o o
alike_none said more o none = record {
  file = refl;
  forth = λ s c e. (Contains-append_left said more s c, e);
  back = λ s c e. (subst (λ l. Contains l s) (ap (λ l. said ++ l) none ∙ append-nil said) c, e);
}

-- what an attempt has when one more answer of it came
attempt_more : (base : ℕ → ℕ → ℕ) → (said : List Said) (ops : List Op) (taken : List TakenCall) (o : Op) (s : Said) (v x : ℕ) → (TellsVersion s.message → Carries v s.message) → Attempt base said ops taken o v x → Attempt base (said ++ s ∷ []) ops taken o v x
attempt_more base said ops taken o s v x carries (q, was, version, (z, there, of, lt, c), since) = (
  q,
  was,
  version,
  (z, Contains-append_left said (s ∷ []) z there, of, lt, c),
  λ w here mine late is. elim (one_more said s w here) [
    | inl old ↦ since w old mine late is
    | inr same ↦ subst (λ (y : Said). Carries v y.message) (sym same) (carries (subst (λ (y : Said). TellsVersion y.message) same is))
  ],
)

-- what it has by the answer to its first call
attempt_first : (book : Book) (k : Core) (said : List Said) (i : ℕ) (taken : List TakenCall) (t : Told) (j : Job) (o : Op) → book.ops ≡ k.ops → book.steps ≡ k.steps → o.file ≡ j.file → o.client ≡ i → o.end ≡ None → o.begin ≤ k.steps → (y version : ℕ) (v : List ℕ) → (y == t.xid) ≡ true → IsTold book taken j t.xid (Some v) version → Carries version (told_message t)
    → Untold said taken o y → Attempt (early_of book.opening book.raws) (said ++ record { step = k.steps + 1; client = i; message = told_message t } ∷ []) k.ops taken o version t.xid
attempt_first book k said i taken t j o ops steps file mine none begun y version v own told carries old =
    let q = told.moment in
    let s : Said = record { step = k.steps + 1; client = i; message = told_message t } in
    let past = told.past in
    let same_xid : y ≡ t.xid = grind (arith, nat_tests, own) in (
      q,
      told.was,
      ap (λ l. version_by (early_of book.opening book.raws) l o.file q) (sym ops) ∙ ap (λ z. version_by (early_of book.opening book.raws) book.ops z q) file ∙ sym (version_split book j.file q) ∙ told.version_is,
      (s, Contains-append_right said (s ∷ []) s (Contains-push [] s), open_now o k.steps i mine none begun, omega (arith, past, steps), carries),
      λ w here of late tells. elim (one_more said s w here) [
        | inl was ↦ absurd (old q (ap (taken_at taken) same_xid ∙ told.was) w was of late tells)
        | inr same ↦ subst (λ (z : Said). Carries version z.message) (sym same) carries
      ],
    )

took_in : (book : Book) (k : Core) (said : List Said) (i : ℕ) (taken : List TakenCall) (closing : Option ℕ) (t : Told) (j : Job) (o : Op) → book.ops ≡ k.ops → book.steps ≡ k.steps → (is_naming j.stage ≡ false → o.file ≡ j.file) → o.client ≡ i → o.end ≡ None → o.begin ≤ k.steps → has_call (client.pending_in j.stage) t.xid ≡ true → AnswerOf book taken closing (Some j) t.xid t.reply
    → (st : Stage) → j.stage ≡ st → (r : Reply) → t.reply ≡ r → JobVersion (early_of book.opening book.raws) said k.ops taken o st → TookIn (Attempt (early_of book.opening book.raws) (said ++ record { step = k.steps + 1; client = i; message = told_message t } ∷ []) k.ops taken o) st t.xid (reply_body r)
took_in book k said i taken closing t j o ops steps file mine none begun has answer (stage.Asking y) at (Versioned (Done l)) is old =
    let own : (y == t.xid) ≡ true = or_none (y == t.xid) (ap (λ z. has_call (client.pending_in z) t.xid) (sym at) ∙ has) in
    let h : IsLeased book taken j t.xid l = subst (AnswerOf book taken closing (Some j) t.xid) is answer j refl (ap lease_xid at ∙ ap (λ z. Some z) (eqb-true y t.xid own)) in
    attempt_first book k said i taken t j o ops steps (file (ap is_naming at)) mine none begun y l.version h.value own h.told (subst (λ m. Carries l.version m) (sym (same_reply t (Versioned (Done l)) is)) refl) old
took_in book k said i taken closing t j o ops steps file mine none begun has answer (stage.Hashing tries y) at (Hashed (Done g)) is old =
    let own : (y == t.xid) ≡ true = or_none (y == t.xid) (ap (λ z. has_call (client.pending_in z) t.xid) (sym at) ∙ has) in
    let told = subst (AnswerOf book taken closing (Some j) t.xid) is answer j 0 refl (ap (λ s. hash_offset s t.xid) at ∙ ap (λ b. cond b (Some 0) None) own) in
    let h : IsHashed book taken j t.xid 0 g = told.0 in
    attempt_first book k said i taken t j o ops steps (file (ap is_naming at)) mine none begun y g.version h.value own (subst (IsTold book taken j t.xid (Some h.value)) (sym (ap (λ (z : Hashes). z.version) h.is)) h.told) (subst (λ m. Carries g.version m) (sym (same_reply t (Hashed (Done g)) is)) refl) old
took_in book k said i taken closing t j o ops steps file mine none begun has answer (stage.Listing y f) at (Hashed (Done g)) is old = λ same.
    attempt_more (early_of book.opening book.raws) said k.ops taken o (record { step = k.steps + 1; client = i; message = told_message t }) f.version f.first (λ hashes. subst (λ m. Carries f.version m) (sym (same_reply t (Hashed (Done g)) is)) (eqb-true g.version f.version same)) old
took_in book k said i taken closing t j o ops steps file mine none begun has answer (stage.Reading f) at (Bytes (Done p)) is old =
    attempt_more (early_of book.opening book.raws) said k.ops taken o (record { step = k.steps + 1; client = i; message = told_message t }) f.version f.first (λ hashes. absurd (subst (λ m. TellsVersion m) (same_reply t (Bytes (Done p)) is) hashes)) old
took_in book k said i taken closing t j o ops steps file mine none begun has answer (stage.Reading f) at (Walked (LookedUp a)) is old = tt
took_in book k said i taken closing t j o ops steps file mine none begun has answer _ at _ is old = tt

-- what gave an open its content: what came, or what was there
abbrev GaveBy : (all : List Moment) → (base : ℕ → ℕ → ℕ) → List Said → List Op → Op → (q : ℕ) → Type 0
GaveBy all base said ops o q = (CameTo said o q (version_by base ops o.file q) × Since said o q (version_by base ops o.file q)) ⊎ IsNow all o q (version_by base ops o.file q)

versions_hears : FitLaws → (book more : Book) (past : List Moment) (k : Core) (qs after : List Queue) (n now : ℕ) (bytes : List ℕ) (mid : List Queue) → IsKept book k qs → Contains book.moments (moment k (Hears n now bytes)) → (h : Heard k qs n now bytes mid) → (let r = got_step h.seat.client (Ok (told_message h.told)) now in let t = acted k h.session.owner h.seat r.0 r.1 in IsKept more t.core after → CountedAt past k → VersionsAt book.moments (early_of book.opening book.raws) past k → VersionsBy book.moments (early_of book.opening book.raws) past k (Hears n now bytes) t)
versions_hears laws book more past k qs after n now bytes mid kept noted h left counted before =
    subst (λ i. HaveVersions book.moments (early_of book.opening book.raws) (taken_of past ++ all_said (k.steps + 1) i (taken_by k i (Hears n now bytes))) k.sessions (with_numbered k.seats h.session.owner new) (ops_with k.ops h.seat.place r.0 taken (k.steps + 1) r.1)) (sym owner)
    (subst (λ l. HaveVersions book.moments (early_of book.opening book.raws) (taken_of past ++ all_said (k.steps + 1) h.session.owner l) k.sessions (with_numbered k.seats h.session.owner new) (ops_with k.ops h.seat.place r.0 taken (k.steps + 1) r.1)) (sym (heard_takes laws book k qs n now bytes mid kept h))
    (versions_onward book.moments (early_of book.opening book.raws) k.steps (taken_of past) said k.sessions k.sessions k.seats (with_numbered k.seats h.session.owner new) k.ops (ops_with k.ops h.seat.place r.0 taken (k.steps + 1) r.1) counted.taken_by (λ f q le. versions_after k.ops h.seat.place r.0 taken (k.steps + 1) r.1 finds f q) (λ p q o at is. versions_after k.ops h.seat.place r.0 taken (k.steps + 1) r.1 finds o.file q)
    (λ i z j o there is at. elim (of_numbered k.seats h.session.owner new i z there) [
      | inr other ↦ elim (ops_shape k.ops h.seat.place r.0 taken (k.steps + 1) r.1 j.place o at) [
        | inl mine ↦ absurd (foreign_at book k qs h.session.owner h.seat kept h.owner i z j mine.0 other.1 is mine.2 other.0 mine.1)
        | inr old ↦ inl (z, o, other.1, is, old.1, alike_other (taken_of past) (k.steps + 1) h.session.owner (wanted_by h.seat.client (Ok (told_message h.told))) o (actor.other j.place o old.1 old.0), extends_same k.steps (takens k.sessions z))
      ]
      | inl own ↦ (let w = job_after r.0 h.seat.place r.1.ended j (ap job (sym own.1) ∙ is) in elim (ops_shape k.ops h.seat.place r.0 taken (k.steps + 1) r.1 j.place o at) [
        | inl mine ↦ inr (subst (λ (y : Seat). JobVersion (early_of book.opening book.raws) said (ops_with k.ops h.seat.place r.0 taken (k.steps + 1) r.1) (takens k.sessions y) o j.stage) (sym own.1) (subst (λ (y : Op). JobVersion (early_of book.opening book.raws) said (ops_with k.ops h.seat.place r.0 taken (k.steps + 1) r.1) taken y j.stage) (sym mine.3) (own_job j.place mine.0 mine.1 mine.2 j w.2)))
        | inr old ↦ absurd (old.0 w.0)
      ])
    ])
    (λ p len q digest o at e point. elim (ops_shape k.ops h.seat.place r.0 taken (k.steps + 1) r.1 p o at) [
      | inr old ↦ inl (old.1, alike_other (taken_of past) (k.steps + 1) h.session.owner (wanted_by h.seat.client (Ok (told_message h.told))) o (actor.other p o old.1 old.0))
      | inl mine ↦ inr (subst (λ (y : Op). GaveBy book.moments (early_of book.opening book.raws) said (ops_with k.ops h.seat.place r.0 taken (k.steps + 1) r.1) y q) (sym mine.3) (ended p mine.0 mine.1 mine.2 len q digest (ap (λ (y : Op). y.outcome) (sym mine.3) ∙ e) (ap (λ (y : Op). y.point) (sym mine.3) ∙ point)))
    ]) before))
  where
    r : client.State × ClientStep
    r = got_step h.seat.client (Ok (told_message h.told)) now

    taken : List TakenCall
    taken = session_taken (session_of k.sessions h.seat.session)

    new : Seat
    new = record h.seat { client = r.0; place = place_after h.seat.place r.1.ended }

    said : List Said
    said = taken_of past ++ all_said (k.steps + 1) h.session.owner (wanted_by h.seat.client (Ok (told_message h.told)))

    owner : owner_in (numbered k.sessions n) ≡ h.session.owner
    owner = ap owner_in h.at

    taken_is : h.session.taken ≡ taken
    taken_is = sym (ap (λ l. session_taken (session_of k.sessions l)) h.newest ∙ ap session_taken h.at)

    actor : IsActor k.ops h.session.owner h.seat.place k.steps
    actor = acts_alone book k qs h.session.owner h.seat kept h.owner

    s : IsSession book k.seats k.server n h.session h.queue
    s = kept.sessions n h.session h.queue h.at h.queue_is (has_owner k.seats h.session h.seat h.owner)

    same_seat : s.seat ≡ h.seat
    same_seat = some_is s.seat h.seat (sym s.owner ∙ h.owner)

    finds : (p : ℕ) (o : Op) → h.seat.place ≡ Some p → slice_get k.ops p ≡ Some o → Quietly r.1 o.word
    finds p o e at = heard_finds book k qs n now bytes mid kept h (Ok (told_message h.told)) p o e at

    said_past : SaidBy (k.steps + 1) said
    said_past = said_append (k.steps + 1) (taken_of past) (all_said (k.steps + 1) h.session.owner (wanted_by h.seat.client (Ok (told_message h.told)))) (said_later k.steps (k.steps + 1) (taken_of past) (omega arith) counted.taken_by) (said_now (k.steps + 1) h.session.owner (wanted_by h.seat.client (Ok (told_message h.told))))

    -- the operation as it was, after the answer
    good : (p : ℕ) (o : Op) → h.seat.place ≡ Some p → slice_get k.ops p ≡ Some o → Good (Attempt (early_of book.opening book.raws) said k.ops taken o) (Untold said taken o) r × Well (Attempt (early_of book.opening book.raws) said k.ops taken o) r
    good p o e at =
        let w = own_op book k qs h.session.owner h.seat p o kept h.owner e at in
        let j : Job = w.0 in
        let own = actor.own p o e at in
        let task = job_task h.seat.place h.seat.client.task j w.1 in
        let job_is : job s.seat ≡ Some j = ap job same_seat ∙ w.1 in
        let talk = s.talk h.uncut in
        let answer = subst (λ z. AnswerOf book z h.session.closing (Some j) h.told.xid h.told.reply) taken_is (subst (λ z. AnswerOf book h.session.taken h.session.closing z h.told.xid h.told.reply) job_is (subst (AllTolds (IsAnswer book h.session.taken h.session.closing (job s.seat))) h.first talk.answers).0) in
        let old = before.jobs h.session.owner h.seat j o h.owner w.1 (ap (slice_get k.ops) w.2 ∙ at) in
        let floor = rising_to talk.floor h.queue.ups s.seat.client.next_xid talk.rising in
        let fresh : Untold said taken o h.seat.client.next_xid = λ q was. absurd (not_taken talk.floor h.session.taken h.seat.client.next_xid q talk.under (subst (λ (z : Seat). talk.floor ≤ z.client.next_xid) same_seat floor) (ap (λ l. taken_at l h.seat.client.next_xid) taken_is ∙ was)) in
        let came : has_call (pending h.seat.client.task) h.told.xid ≡ true → TaskTook (Attempt (early_of book.opening book.raws) said k.ops taken o) h.seat.client.task h.told.xid (reply_body h.told.reply) =
        λ has. subst (λ (l : List Message). TaskTook (Attempt (early_of book.opening book.raws) (taken_of past ++ all_said (k.steps + 1) h.session.owner l) k.ops taken o) h.seat.client.task h.told.xid (reply_body h.told.reply)) (sym (ap (λ b. wanted_if b (told_message h.told)) has))
        (subst (λ z. TaskTook (Attempt (early_of book.opening book.raws) (taken_of past ++ record { step = k.steps + 1; client = h.session.owner; message = told_message h.told } ∷ []) k.ops taken o) z h.told.xid (reply_body h.told.reply)) (sym task)
        (took_in book k (taken_of past) h.session.owner taken h.session.closing h.told j o kept.ops kept.steps w.5 w.3 own.1 own.2 (ap (λ z. has_call (pending z) h.told.xid) (sym task) ∙ has) answer j.stage refl h.told.reply refl old)) in (
          good_answer (Attempt (early_of book.opening book.raws) said k.ops taken o) (Untold said taken o) (at_clock h.seat.client now) fresh h.told.xid (reply_body h.told.reply)
              (λ free. subst (TaskGood (Attempt (early_of book.opening book.raws) said k.ops taken o) (Untold said taken o)) (sym task) (job_alike (early_of book.opening book.raws) k.steps (taken_of past) said k.ops k.ops taken taken o o j.stage counted.taken_by (alike_none (taken_of past) (all_said (k.steps + 1) h.session.owner (wanted_by h.seat.client (Ok (told_message h.told)))) o (ap (λ b. all_said (k.steps + 1) h.session.owner (wanted_if b (told_message h.told))) free)) (extends_same k.steps taken) (λ f q le. refl) old))
              came,
          well_answer (Attempt (early_of book.opening book.raws) said k.ops taken o) (at_clock h.seat.client now) h.told.xid (reply_body h.told.reply) came,
        )

    -- and in its new form
    alike : (p : ℕ) (o : Op) → h.seat.place ≡ Some p → slice_get k.ops p ≡ Some o → r.1.found ≡ None → Alike said said o (op_after o r.0 taken (k.steps + 1) r.1)
    alike p o e at none = alike_after (k.steps + 1) said o (op_after o r.0 taken (k.steps + 1) r.1) said_past (file_after o r.0 taken (k.steps + 1) r.1 none) (running_upto o r.0 taken k.steps r.1 (actor.own p o e at).1)

    own_job : (p : ℕ) (o : Op) → h.seat.place ≡ Some p → slice_get k.ops p ≡ Some o → (j : Job) → r.0.task ≡ Some (record { file = j.file; stage = j.stage }) → JobVersion (early_of book.opening book.raws) said (ops_with k.ops h.seat.place r.0 taken (k.steps + 1) r.1) taken (op_after o r.0 taken (k.steps + 1) r.1) j.stage
    own_job p o e at j task = by r.1.found refl
      where
        old : StageGood (Attempt (early_of book.opening book.raws) said k.ops taken o) (Untold said taken o) j.stage
        old = subst (TaskGood (Attempt (early_of book.opening book.raws) said k.ops taken o) (Untold said taken o)) task (good p o e at).0.0

        -- nothing that tells a version was said to it since
        untold : (x : ℕ) → Untold said taken o x → Untold said taken (op_after o r.0 taken (k.steps + 1) r.1) x
        untold x h2 q was z there of lt is = h2 q was z there (sym (running_upto o r.0 taken k.steps r.1 (actor.own p o e at).1 z.step z.client (said_by (k.steps + 1) said z said_past there)) ∙ of) lt is

        begun : (st : Stage) → IsFresh st → StageGood (Attempt (early_of book.opening book.raws) said k.ops taken o) (Untold said taken o) st → JobVersion (early_of book.opening book.raws) said (ops_with k.ops h.seat.place r.0 taken (k.steps + 1) r.1) taken (op_after o r.0 taken (k.steps + 1) r.1) st
        begun (stage.Asking x) fresh h2 = untold x h2
        begun (stage.Hashing tries x) fresh h2 = untold x h2
        begun (stage.Rewriting x) fresh h2 = tt
        begun st fresh h2 = absurd fresh

        by : (found : Option ℕ) → r.1.found ≡ found → JobVersion (early_of book.opening book.raws) said (ops_with k.ops h.seat.place r.0 taken (k.steps + 1) r.1) taken (op_after o r.0 taken (k.steps + 1) r.1) j.stage
        by (Some id) is = begun j.stage ((step_found h.seat.client (Ok (told_message h.told)) now id is).begins (record { file = j.file; stage = j.stage }) task) old
        by None none = job_alike (early_of book.opening book.raws) (k.steps + 1) said said k.ops (ops_with k.ops h.seat.place r.0 taken (k.steps + 1) r.1) taken taken o (op_after o r.0 taken (k.steps + 1) r.1) j.stage said_past (alike p o e at none) (extends_same (k.steps + 1) taken) (λ f q le. versions_after k.ops h.seat.place r.0 taken (k.steps + 1) r.1 finds f q) old

    -- one that got its content by what came
    by_came : (p : ℕ) (o : Op) → h.seat.place ≡ Some p → slice_get k.ops p ≡ Some o → (len q : ℕ) (digest : List ℕ) → o.word ≡ words.Open → r.1.found ≡ None → (op_after o r.0 taken (k.steps + 1) r.1).outcome ≡ told.Opened len digest → (op_after o r.0 taken (k.steps + 1) r.1).point ≡ Some q → GaveBy book.moments (early_of book.opening book.raws) said (ops_with k.ops h.seat.place r.0 taken (k.steps + 1) r.1) (op_after o r.0 taken (k.steps + 1) r.1) q
    by_came p o e at len q digest word none opened point =
        let running = (own_op book k qs h.session.owner h.seat p o kept h.owner e at).4 in
        let a = by running r.1.ended ((good p o e at).1 none) opened point in
        let same = alike p o e at none in
        let version = ap (λ f. version_by (early_of book.opening book.raws) (ops_with k.ops h.seat.place r.0 taken (k.steps + 1) r.1) f q) same.file ∙ by_counts (early_of book.opening book.raws) (ops_with k.ops h.seat.place r.0 taken (k.steps + 1) r.1) k.ops o.file q (versions_after k.ops h.seat.place r.0 taken (k.steps + 1) r.1 finds o.file q) ∙ a.1 in
        inl (subst (λ v. CameTo said (op_after o r.0 taken (k.steps + 1) r.1) q v × Since said (op_after o r.0 taken (k.steps + 1) r.1) q v) (sym version) (came_alike said said o (op_after o r.0 taken (k.steps + 1) r.1) q a.0 same a.2, since_alike said said o (op_after o r.0 taken (k.steps + 1) r.1) q a.0 same a.3))
      where
        ends : (x : ℕ) (u : Outcome) (file : ℕ) → u ≡ outcome.Opened file len digest → OutcomeWell (Attempt (early_of book.opening book.raws) said k.ops taken o) u x → (v : ℕ) × Attempt (early_of book.opening book.raws) said k.ops taken o v x
        ends x u file is g = subst (λ (z : Outcome). OutcomeWell (Attempt (early_of book.opening book.raws) said k.ops taken o) z x) is g

        by : o.outcome ≡ told.Running → (l : Option Ended) → EndWell (Attempt (early_of book.opening book.raws) said k.ops taken o) l → (op_after o r.0 taken (k.steps + 1) (record r.1 { ended = l })).outcome ≡ told.Opened len digest → (op_after o r.0 taken (k.steps + 1) (record r.1 { ended = l })).point ≡ Some q → (v : ℕ) × (version_by (early_of book.opening book.raws) k.ops o.file q ≡ v) × CameTo said o q v × Since said o q v
        by running None g opened point = absurd (running_not (sym running ∙ opened))
          where
            running_not : told.Running ≡ told.Opened len digest → ⊥
            running_not z = absurd cc
        by running (Some l) g opened point =
            let is = opened_by l.outcome len digest opened in
            let a = ends l.rests_on l.outcome is.0 is.1 g in
            let same : a.1.0 ≡ q = ap (λ (z : Option ℕ). unwrap_or z (k.steps + 1)) (sym a.1.1) ∙ some_is (unwrap_or (taken_at taken l.rests_on) (k.steps + 1)) q (pointed_as o taken (k.steps + 1) l.rests_on l.outcome is.0 len q digest is.1 word point) in
            (a.0, ap (version_by (early_of book.opening book.raws) k.ops o.file) (sym same) ∙ a.1.2, subst (λ z. CameTo said o z a.0) same a.1.3, subst (λ z. Since said o z a.0) same a.1.4)

    -- one that found its file, of which a content was fresh
    by_now : (p : ℕ) (o : Op) → h.seat.place ≡ Some p → slice_get k.ops p ≡ Some o → (len q id : ℕ) (digest : List ℕ) → o.word ≡ words.Open → r.1.found ≡ Some id → (op_after o r.0 taken (k.steps + 1) r.1).outcome ≡ told.Opened len digest → (op_after o r.0 taken (k.steps + 1) r.1).point ≡ Some q → GaveBy book.moments (early_of book.opening book.raws) said (ops_with k.ops h.seat.place r.0 taken (k.steps + 1) r.1) (op_after o r.0 taken (k.steps + 1) r.1) q
    by_now p o e at len q id digest word found opened point =
        let new : Op = op_after o r.0 taken (k.steps + 1) r.1 in
        let w = own_op book k qs h.session.owner h.seat p o kept h.owner e at in
        let l = ended_with o r.0 taken (k.steps + 1) r.1 len digest w.4 opened in
        let v = step_fresh h.seat.client (Ok (told_message h.told)) now id found l.0 l.1 l.2 in
        let quiet = (step_found h.seat.client (Ok (told_message h.told)) now id found).unopened l.0 l.1 l.2 in
        let is = opened_by l.0.outcome len digest l.3 in
        let none : taken_at taken 0 ≡ None = ap (λ (t : List TakenCall). taken_at t 0) (sym taken_is) ∙ (s.talk h.uncut).numbered.1 in
        let point_is : point_if (has_point o.word l.0.outcome) taken l.0.rests_on (k.steps + 1) o.point ≡ Some q = ap (λ (z : Option Ended). (op_after o r.0 taken (k.steps + 1) (record r.1 { ended = z })).point) (sym l.1) ∙ point in
        let q_is : q ≡ k.steps + 1 = sym (ap (λ (z : Option ℕ). unwrap_or z (k.steps + 1)) (sym none) ∙ ap (λ (x : ℕ). unwrap_or (taken_at taken x) (k.steps + 1)) (sym quiet.0) ∙ some_is (unwrap_or (taken_at taken l.0.rests_on) (k.steps + 1)) q (pointed_as o taken (k.steps + 1) l.0.rests_on l.0.outcome is.0 len q digest is.1 word point_is)) in
        let file : new.file ≡ id = found_file o r.0 taken (k.steps + 1) r.1 id found in
        inr (now_gave book k qs kept (Hears n now bytes) h.session.owner now id h.seat v.0 noted (ap (acts_for (Hears n now bytes)) h.at) h.owner v.1 (ap (λ (t : CoreStep). t.up) (heard_acts laws book k qs n now bytes mid kept h) ∙ quiet.1) new (client_after o r.0 taken (k.steps + 1) r.1 ∙ w.3) file (end_after o r.0 taken (k.steps + 1) r.1 l.0 l.1) q q_is (version_by (early_of book.opening book.raws) (ops_with k.ops h.seat.place r.0 taken (k.steps + 1) r.1) new.file q)
        (sym (ap (version_by (early_of book.opening book.raws) (ops_with k.ops h.seat.place r.0 taken (k.steps + 1) r.1) new.file) q_is ∙ ap (λ (f : ℕ). version_by (early_of book.opening book.raws) (ops_with k.ops h.seat.place r.0 taken (k.steps + 1) r.1) f (k.steps + 1)) file ∙ by_counts (early_of book.opening book.raws) (ops_with k.ops h.seat.place r.0 taken (k.steps + 1) r.1) k.ops id (k.steps + 1) (versions_after k.ops h.seat.place r.0 taken (k.steps + 1) r.1 finds id (k.steps + 1)))))

    ended : (p : ℕ) (o : Op) → h.seat.place ≡ Some p → slice_get k.ops p ≡ Some o → (len q : ℕ) (digest : List ℕ) → (op_after o r.0 taken (k.steps + 1) r.1).outcome ≡ told.Opened len digest → (op_after o r.0 taken (k.steps + 1) r.1).point ≡ Some q → GaveBy book.moments (early_of book.opening book.raws) said (ops_with k.ops h.seat.place r.0 taken (k.steps + 1) r.1) (op_after o r.0 taken (k.steps + 1) r.1) q
    ended p o e at len q digest opened point =
        let there : slice_get more.ops p ≡ Some (op_after o r.0 taken (k.steps + 1) r.1) =
        ap (λ (l : List Op). slice_get l p) (left.ops ∙ ap (λ l. ops_with k.ops l r.0 taken (k.steps + 1) r.1) e ∙ ap (λ l. ops_after k.ops p l r.0 taken (k.steps + 1) r.1) at) ∙ at_replaced k.ops p (op_after o r.0 taken (k.steps + 1) r.1) o at in
        let right = left.sound.rights p (op_after o r.0 taken (k.steps + 1) r.1) there in
        let word : o.word ≡ words.Open = sym (word_after o r.0 taken (k.steps + 1) r.1) ∙ (subst (Caused more (op_after o r.0 taken (k.steps + 1) r.1)) opened right.cause).0 in
        by word r.1.found refl
      where
        by : o.word ≡ words.Open → (found : Option ℕ) → r.1.found ≡ found → GaveBy book.moments (early_of book.opening book.raws) said (ops_with k.ops h.seat.place r.0 taken (k.steps + 1) r.1) (op_after o r.0 taken (k.steps + 1) r.1) q
        by word None none = by_came p o e at len q digest word none opened point
        by word (Some id) found = by_now p o e at len q id digest word found opened point

-- ---- any event

versions_event : FitLaws → (all past rest : List Moment) (opening : List Opening) (k : Core) (qs : List Queue) (e : Event) (mid after : List Queue) → Step all past rest opening k qs e mid after → CountedAt past k → VersionsAt all (early_of opening k.raws) past k → VersionsBy all (early_of opening k.raws) past k e (happens k e)
versions_event laws all past rest opening k qs e mid after s counted h = event_cases laws all past rest opening k qs e mid after s (VersionsBy all (early_of opening k.raws) past k) (record {
  still = λ t still. versions_still (book_at opening k all) past k qs e t s.kept still counted h;
  begins = λ c now d seat w here small left. versions_does (book_at opening k all) (book_at opening (does k c now d (Some seat)).core all) past k qs after c now d seat s.kept w.noted.there small here left counted h;
  hears = λ n now bytes st w left. (let r = got_step w.seat.client (Ok (told_message w.told)) now in versions_hears laws (book_at opening k all) (book_at opening (acted k w.session.owner w.seat r.0 r.1).core all) past k qs after n now bytes mid s.kept st.noted.there w left counted h);
  lost = λ c seat w here. versions_lost (book_at opening k all) past k qs c seat s.kept here counted h;
})

abbrev pub Versions : (all past : List Moment) → List Opening → Core → List Queue → Type 0
Versions all past opening k qs = CountedAt past k × VersionsAt all (early_of opening k.raws) past k

pub carried_versions : FitLaws → Carried Versions
carried_versions laws = record {
  first = λ all opening tree count kept. ((carried_counts laws).first all opening tree count kept, record { jobs = λ i seat j o here is at. nothing_there o at; opened = λ p len q digest o at e point. nothing_there o at });
  steps = λ all past rest opening k qs e mid after s h. (
    (carried_counts laws).steps all past rest opening k qs e mid after s h.0,
    versions_later all opening k e (taken_of (past ++ moment k e ∷ [])) ((carried_counts laws).steps all past rest opening k qs e mid after s h.0).taken_by (points_of (book_at opening (happens k e).core all) (happens k e).core after s.left)
        (subst (λ z. HaveVersions all (early_of opening k.raws) z (happens k e).core.sessions (happens k e).core.seats (happens k e).core.ops) (taken_more past (moment k e)) (versions_event laws all past rest opening k qs e mid after s h.0 h.1)),
  );
  adjusts = λ all past opening k qs index seats same h. (
    (carried_counts laws).adjusts all past opening k qs index seats same h.0,
    record {
      jobs = λ i seat j o here is at. let w = same.was i seat here in subst (λ (z : Seat). JobVersion (early_of opening k.raws) (taken_of past) k.ops (takens k.sessions z) o j.stage) (sym w.4) (h.1.jobs i w.0 j o w.3 (ap job (sym w.4) ∙ is) at);
      opened = h.1.opened;
    },
  );
}

-- ---- what it makes of the promise

pub opens_version : (book : Book) (k : Core) (qs : List Queue) → IsKept book k qs → AreLeased book.moments → VersionsAt book.moments (early_of book.opening book.raws) book.moments k → (p : ℕ) (o : Op) → slice_get book.ops p ≡ Some o → OpensVersion book o o.outcome
opens_version book k qs kept leased h p o at = by o.outcome refl (kept.sound.rights p o at).cause
  where
    by : (u : History) → o.outcome ≡ u → Caused book o u → OpensVersion book o u
    by (told.Opened len digest) e cause =
        let point = cause.1.point in
        let version : version_at book o.file point ≡ version_by (early_of book.opening book.raws) k.ops o.file point = version_split book o.file point ∙ ap (λ l. version_by (early_of book.opening book.raws) l o.file point) kept.ops in
        elim (h.opened p len point digest o (ap (λ (l : List Op). slice_get l p) (sym kept.ops) ∙ at) e cause.1.within.0) [
          | inl w ↦ (let v = subst (λ v. CameTo (taken_of book.moments) o point v × Since (taken_of book.moments) o point v) (sym version) w in inl (record { point = point; point_is = cause.1.within.0; some = v.0; all = v.1 }))
          | inr n ↦ inr (n.ends, cause.1.within.0 ∙ ap (λ (q : ℕ). Some q) n.at, n.version_is leased ∙ sym version ∙ ap (version_at book o.file) n.at)
        ]
    by _ e cause = tt

-- By what an open that got its content has its point: by its GETLEASE, where it began no attempt, and else by the first GETHASH of the attempt in which it
-- ended; or, where its content was fresh, in the step in which it ended.
use Rattle.std.proofs.Common.{◌⊎◌, inl, inr, ◌≡◌, ℕ, zero, suc, ◌<◌, List, length, Option, Some, None, Ok, true, refl, sym, ap, ◌∙◌, subst, arith, eqb-true}
use Rattle.client_state.specs.State as client
use Rattle.client_state.specs.declared.step.Outcome.TheVariants as outcome
use Rattle.client_state.specs.declared.task.Stage.TheVariants as stage
use Rattle.register_model.specs.declared.op.Outcome.{Outcome as History}
use Rattle.register_model.specs.declared.op.Outcome.TheVariants as told
use Rattle.register_model.specs.declared.op.Word.TheVariants as words
use Rattle.trace_replay.specs.OwnCalls.{TakesCall}
use Rattle.trace_replay.specs.Faithful.{IsFirstOf, PointsAsked, HasPoint, OpensAt}
use Rattle.trace_replay.specs.Traffic.{attempts_in, no_attempt}
use Rattle.kept_promise.proofs.Common.{unwrap_or, ◌==◌, cond, slice_get, Contains, Body, Done, has_call, got_step, ClientStep, Ended, Outcome, Stage, State, Op, TakenCall, has_point, point_if, taken_at, op_after, Moment, deals_of, Deal, Book, Reply, Reply.Versioned, Reply.Hashed, Reply.Bytes, Told, told_message, reply_body, Reply.Walked, NameReply.LookedUp}
use Rattle.kept_promise.proofs.Lists.{some_is, nothing_there}
use Rattle.kept_promise.proofs.Messages.{Job, stage_word, lease_body, hash_body, hash_offset, IsServed, IsLeased, AnswerOf, FetchOf, TriedBy, lease_xid}
use Rattle.kept_promise.proofs.VersionRuns.{opened_by, or_none}
use Rattle.client_state.specs.Noting.{at as at_clock}
use Rattle.kept_promise.proofs.Shapes.{TookIn}
use Rattle.kept_promise.proofs.OpenedNow.{Hears, EndsNow, opens_answer}
use Rattle.kept_promise.proofs.LogSums.{begins_in, attempts_log}
use Rattle.kept_promise.proofs.MetLog.{MeetsBy, Tries, count_of, begun_count}

-- ---- the call on which an end rests

abbrev pub StageCall : Book → List TakenCall → Job → Stage → (xid : ℕ) → Type 0
StageCall book taken j (stage.Asking y) x = IsServed book taken j x (lease_body book.lbfs j.file)
-- no walk opens anything, nor a rewrite by an answer to an open
StageCall book taken j (stage.Walking y w) x = ⊥
StageCall book taken j (stage.Rewriting y) x = ⊥
StageCall book taken j st x = IsServed book taken j x (hash_body book.lbfs j.file 0)

served_in : (book : Book) (taken : List TakenCall) (closing : Option ℕ) (t : Told) (j : Job) → has_call (client.pending_in j.stage) t.xid ≡ true → FetchOf book taken j j.stage → AnswerOf book taken closing (Some j) t.xid t.reply
    → (st : Stage) → j.stage ≡ st → (r : Reply) → t.reply ≡ r → TookIn (λ v x. StageCall book taken j st x) st t.xid (reply_body r)
served_in book taken closing t j has fetch answer (stage.Asking y) at (Versioned (Done l)) is =
    let own : (y == t.xid) ≡ true = or_none (y == t.xid) (ap (λ z. has_call (client.pending_in z) t.xid) (sym at) ∙ has) in
    let h : IsLeased book taken j t.xid l = subst (AnswerOf book taken closing (Some j) t.xid) is answer j refl (ap lease_xid at ∙ ap (λ z. Some z) (eqb-true y t.xid own)) in
    h.call
served_in book taken closing t j has fetch answer (stage.Hashing tries y) at (Hashed (Done g)) is =
    let own : (y == t.xid) ≡ true = or_none (y == t.xid) (ap (λ z. has_call (client.pending_in z) t.xid) (sym at) ∙ has) in
    let told = subst (AnswerOf book taken closing (Some j) t.xid) is answer j 0 refl (ap (λ s. hash_offset s t.xid) at ∙ ap (λ b. cond b (Some 0) None) own) in
    (subst (TriedBy book taken j t.xid) at told.1).call
served_in book taken closing t j has fetch answer (stage.Listing y f) at (Hashed (Done g)) is = λ same. (subst (FetchOf book taken j) at fetch).0.tried.call
served_in book taken closing t j has fetch answer (stage.Reading f) at (Bytes (Done p)) is = (subst (FetchOf book taken j) at fetch).0.tried.call
served_in book taken closing t j has fetch answer (stage.Reading f) at (Walked (LookedUp a)) is = tt
served_in book taken closing t j has fetch answer _ at _ is = tt

-- so what it ends by rests on that call, or nobody was asked
pub rests_on : (book : Book) (taken : List TakenCall) (closing : Option ℕ) (t : Told) (j : Job) (s : State) (now : ℕ) → s.task ≡ Some (record { file = j.file; stage = j.stage }) → FetchOf book taken j j.stage → AnswerOf book taken closing (Some j) t.xid t.reply
    → Hears (λ v x. StageCall book taken j j.stage x) j.stage s.cache now (got_step s (Ok (told_message t)) now)
rests_on book taken closing t j s now task fetch answer = opens_answer (λ v x. StageCall book taken j j.stage x) (at_clock s now) (record { file = j.file; stage = j.stage }) t.xid (reply_body t.reply) task
    (λ has. served_in book taken closing t j (ap (λ z. has_call (client.pending z) t.xid) (sym task) ∙ has) fetch answer j.stage refl t.reply refl)

-- ---- the point

-- an open has its point by this call, after so many attempts
pub record CalledAt (book : Book) (past : List Moment) (o : Op) : Type 0 where
  pub point : ℕ
  pub point_is : o.point ≡ Some point
  pub xid : ℕ
  pub call : Body
  pub first : IsFirstOf (begins_in (deals_of o past)) o.file call
  pub taken : TakesCall book o.client point xid call

pub called_as : (book more : Book) (past later : List Moment) (o r : Op) → ((z : Moment) → Contains book.moments z → Contains more.moments z) → r.client ≡ o.client → r.file ≡ o.file → ((p : ℕ) → o.point ≡ Some p → r.point ≡ Some p) → begins_in (deals_of r later) ≡ begins_in (deals_of o past) → CalledAt book past o → CalledAt more later r
called_as book more past later o r there client_is file_is point begins h = record {
  point = h.point;
  point_is = point h.point h.point_is;
  xid = h.xid;
  call = h.call;
  first = subst (λ n. IsFirstOf n r.file h.call) (sym begins) (subst (λ f. IsFirstOf (begins_in (deals_of o past)) f h.call) (sym file_is) h.first);
  taken = subst (λ c. TakesCall more c h.point h.xid h.call) (sym client_is) (record { moment = t.moment; there = there t.moment t.there; step_is = t.step_is; session = t.session; now = t.now; bytes = t.bytes; event_is = t.event_is; parsed = t.parsed; waits = t.waits });
}
  where
    t : TakesCall book o.client h.point h.xid h.call
    t = h.taken

-- by a call, or at once
abbrev pub PointedAt : (book : Book) (past : List Moment) → Op → Type 0
PointedAt book past o = CalledAt book past o ⊎ EndsNow past o

-- the attempts that began, by the stage
first_of : (log : List Deal) (file : ℕ) (v : List ℕ) (st : Stage) → MeetsBy log file v st → stage_word st ≡ words.Open → (book : Book) (taken : List TakenCall) (j : Job) (x : ℕ) → StageCall book taken j st x → (call : Body) × IsServed book taken j x call × IsFirstOf (begins_in log) j.file call
first_of log file v st h word book taken j x served = by st h word served
  where
    some : (n : ℕ) → 0 < n → IsFirstOf n j.file (hash_body book.lbfs j.file 0)
    some zero lt = absurd (omega (arith, lt))
    some (suc n) lt = (refl, refl)

    tried : (n : ℕ) (a : Rattle.trace_replay.specs.Traffic.Attempt) → Tries (attempts_in log) n a → 0 < begins_in log
    tried n a t =
        let c = begun_count log no_attempt in
        let last = ap (λ l. length (Rattle.trace_replay.specs.Traffic.given_up l)) t.0 in
        omega (arith, c, last)

    by : (st : Stage) → MeetsBy log file v st → stage_word st ≡ words.Open → StageCall book taken j st x → (call : Body) × IsServed book taken j x call × IsFirstOf (begins_in log) j.file call
    by (stage.Asking y) h w served =
        let c = begun_count log no_attempt in
        let none = ap count_of h in
        let zero_is : begins_in log ≡ 0 = omega (arith, c, none) in
        (lease_body book.lbfs j.file, served, subst (λ n. IsFirstOf n j.file (lease_body book.lbfs j.file)) (sym zero_is) refl)
    by (stage.Hashing tries y) h w served = (hash_body book.lbfs j.file 0, served, some (begins_in log) (tried tries _ h))
    by (stage.Listing y f) h w served = (hash_body book.lbfs j.file 0, served, some (begins_in log) (tried f.tries _ h.1))
    by (stage.Reading f) h w served = (hash_body book.lbfs j.file 0, served, some (begins_in log) (tried f.tries _ h.1))
    by (stage.Rewriting y) h w served = absurd served
    by (stage.Making y temp) h w served = absurd cc
    by (stage.Storing store) h w served = absurd cc
    by (stage.Committing y) h w served = absurd cc
    by (stage.Walking y walk) h w served = absurd served

-- where an open ends so
pub point_now : (book : Book) (past : List Moment) (o : Op) (j : Job) (c : State) (taken : List TakenCall) (step : ℕ) (acts : ClientStep) (e : Ended) (len : ℕ) (digest : List ℕ) → slice_get book.ops j.place ≡ Some o → o.file ≡ j.file → o.word ≡ words.Open → stage_word j.stage ≡ words.Open → MeetsBy (deals_of o past) o.file o.value j.stage
    → acts.ended ≡ Some e → (op_after o c taken step acts).outcome ≡ told.Opened len digest → (v : ℕ) × StageCall book taken j j.stage e.rests_on → CalledAt book past (record o { point = (op_after o c taken step acts).point })
point_now book past o j c taken step acts e len digest there file word open_ meets ended is served = by acts.ended ended is
  where
    same_op : (p : Op) → slice_get book.ops j.place ≡ Some p → p ≡ o
    same_op p at = some_is p o (sym at ∙ there)

    -- its point is the step in which that call was taken
    pointed : (x : ℕ) (u : Outcome) (f : ℕ) → u ≡ outcome.Opened f len digest → point_if (has_point o.word u) taken x step o.point ≡ Some (unwrap_or (taken_at taken x) step)
    pointed x u f at = ap (λ w. point_if (has_point w u) taken x step o.point) word ∙ ap (λ z. point_if (has_point words.Open z) taken x step o.point) at

    at_end : (x : ℕ) (t : Option ℕ) → t ≡ Some (unwrap_or (taken_at taken x) step) → (v : ℕ) × StageCall book taken j j.stage x → CalledAt book past (record o { point = t })
    at_end x t same (v, served) =
        let f = first_of (deals_of o past) o.file o.value j.stage meets open_ book taken j x served in
        record {
          point = f.1.moment;
          point_is = same ∙ ap (λ (z : Option ℕ). Some (unwrap_or z step)) f.1.was;
          xid = x;
          call = f.0;
          first = subst (λ n. IsFirstOf n o.file f.0) (sym (ap begins_in (Rattle.kept_promise.proofs.Logs.deals_pointed o t past))) (subst (λ g. IsFirstOf (begins_in (deals_of o past)) g f.0) (sym file) f.2);
          taken = subst (λ (z : Op). TakesCall book z.client f.1.moment x f.0) (same_op f.1.op f.1.there) f.1.takes;
        }

    by : (l : Option Ended) → l ≡ Some e → (op_after o c taken step (record acts { ended = l })).outcome ≡ told.Opened len digest → CalledAt book past (record o { point = (op_after o c taken step (record acts { ended = l })).point })
    by None same z = nothing_there e same
    by (Some d) same z =
        let u = opened_by d.outcome len digest z in
        at_end d.rests_on (point_if (has_point o.word d.outcome) taken d.rests_on step o.point) (pointed d.rests_on d.outcome u.0 u.1) (subst (λ (y : Ended). (v : ℕ) × StageCall book taken j j.stage y.rests_on) (sym (some_is d e same)) served)

-- ---- what it makes of the promise

asked_by : (book : Book) (o : Op) → CalledAt book book.moments o → PointsAsked book o
asked_by book o h = record { point = h.point; point_is = h.point_is; xid = h.xid; call = h.call; first = subst (λ n. IsFirstOf n o.file h.call) (sym (attempts_log o book.moments)) h.first; taken = h.taken }

has_point_by : (book : Book) (o : Op) → PointedAt book book.moments o → HasPoint book o
has_point_by book o (inl h) = inl (asked_by book o h)
has_point_by book o (inr now) = inr now

pub opens_at : (book : Book) (o : Op) → ((len : ℕ) (digest : List ℕ) → o.outcome ≡ told.Opened len digest → PointedAt book book.moments o) → OpensAt book o o.outcome
opens_at book o called = by o.outcome refl
  where
    by : (u : History) → o.outcome ≡ u → OpensAt book o u
    by (told.Opened len digest) is = has_point_by book o (called len digest is)
    by u is = tt

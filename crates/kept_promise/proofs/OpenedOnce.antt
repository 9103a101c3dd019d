-- A run carries that an open which got its content, and began more than one attempt, had its file change between its begin and its end; and what opens
-- counted by that.
use Rattle.std.proofs.Common.{◌⊎◌, inl, inr, ◌≡◌, ℕ, ◌+◌, ◌<◌, ◌≤◌, List, [], ◌∷◌, ◌++◌, length, Option, Some, None, Ok, Bool, true, false, refl, sym, ap, ◌∙◌, subst, arith, map}
use Rattle.client_state.specs.Noting.{at as at_clock}
use Rattle.client_state.specs.State as client
use Rattle.client_state.specs.declared.task.Stage.TheVariants as stage
use Rattle.register_model.specs.declared.op.Outcome.TheVariants as told
use Rattle.register_model.specs.declared.op.Word.TheVariants as words
use Rattle.trace_ends.specs.Session.{taken_of as session_taken}
use Rattle.trace_replay.specs.Faithful.{OpenedBy}
use Rattle.trace_replay.specs.Traffic.{attempts_in, no_attempt}
use Rattle.trace_replay.specs.Trail.{given_by_message}
use Rattle.kept_promise.proofs.Common.{Contains-append_right, Contains-push, Event.Does, Command, Seat, command_step, word_of, file_of, value_at_begin, does, calls_in, taken_at, Deal.Sent, Deal.Took, Deal.Found, nat_tests, ◌==◌, ◌&&◌, nat_le, nat_lt, slice_get, slice_set, Body, Message, Pending, got_step, idle, took_if, drops, ClientStep, Ended, Stage, State, Task, until, Op, Opening, TakenCall, op_after, Core, Event, Event.Hears, CoreStep, numbered, session_of, ops_after, ops_with, acted, happens, Moment, client_of, owner_in, wanted_by, is_in, Deal, deals_with, deals_of, Book, Queue, version_at, told_message, took, history}
use Rattle.kept_promise.proofs.Lists.{some_is, nothing_there, at_replaced, of_appended}
use Rattle.kept_promise.proofs.Messages.{Job, job, stage_word, AllTolds, AnswerOf, IsAnswer, FetchOf, IsTrying}
use Rattle.kept_promise.proofs.Rights.{Caused}
use Rattle.kept_promise.proofs.Fits.{FitLaws}
use Rattle.kept_promise.proofs.Facts.{IsKept, IsSession, is_naming}
use Rattle.kept_promise.proofs.RunsCarried.{book_at, moment, Step, Carried}
use Rattle.kept_promise.proofs.Actors.{job_task, Heard, heard_at, heard_acts, own_op}
use Rattle.kept_promise.proofs.Replies.{recall_ops}
use Rattle.kept_promise.proofs.Versions.{version_in, versions_beside}
use Rattle.kept_promise.proofs.VersionRuns.{word_after, heard_finds, opened_by, unnamed}
use Rattle.kept_promise.proofs.JobFacts.{ops_shape}
use Rattle.kept_promise.proofs.Adjusts.{adjusted_core}
use Rattle.kept_promise.proofs.Leases.{client_stays}
use Rattle.kept_promise.proofs.LogEvents.{file_stays}
use Rattle.kept_promise.proofs.Points.{CalledAt, PointedAt, StageCall, called_as, point_now, rests_on}
use Rattle.kept_promise.proofs.OpenedNow.{OpensNow, IsWalk, opens_command, now_later, ends_now}
use Rattle.trace_replay.specs.AtOnce.{acts_for}
use Rattle.trace_ends.specs.Ops.{begun as begun_op, file_with}
use Rattle.command_text.specs.declared.command.Command.TheVariants as command
use Rattle.kept_promise.proofs.OpsAfter.{OpsAfter, MayOpen, ops_after_event, versions_all, opened_before}
use Rattle.kept_promise.proofs.StepCases.{Cases, took_cases, walk_cases, IsOpenedBy}
use Rattle.kept_promise.proofs.Taking.{Moved, version_later, versions_after, tries_of, moved_by}
use Rattle.kept_promise.proofs.Logs.{deals_apart, deals_same, deals_pointed, deals_silent, deals_early}
use Rattle.kept_promise.proofs.LogSums.{begins_in, sum_join, sum_took, IsSum}
use Rattle.kept_promise.proofs.LogEvents.{LogsAt, carried_logs}
use Rattle.kept_promise.proofs.Found.{Quietly}
use Rattle.kept_promise.proofs.MetLog.{MeetsBy, OpenMet, meets_laws, Tries, count_of, begun_count}
use Rattle.kept_promise.proofs.OwnLog.{OpOwn}
use Rattle.kept_promise.proofs.NamesLog.{names_count}
use Rattle.kept_promise.proofs.OpensLog.{OpenRead, last_most, once_is}
use Rattle.register_model.specs.Register.{changes}
use Rattle.kept_promise.proofs.OpFacts.{heard_log}
use Rattle.kept_promise.proofs.Turns.{has_owner}
use Rattle.register_model.specs.Raw.{op_of}

-- ---- what is carried

-- an open that got its content ended by now; where it began more than one attempt its file had changed
pub record IsOnce (past : List Moment) (book : Book) (o : Op) : Type 0 where
  pub end : ℕ
  pub end_is : o.end ≡ Some end
  pub by : end ≤ book.steps
  pub once : 1 < begins_in (deals_of o past) → Moved (history book).ops o.file o.begin end
  pub called : PointedAt book past o

abbrev OnceAt : (all past : List Moment) → List Opening → Core → Type 0
OnceAt all past opening k = (p len : ℕ) (digest : List ℕ) (o : Op) → slice_get k.ops p ≡ Some o → o.outcome ≡ told.Opened len digest → IsOnce past (book_at opening k all) o

pub record Once (all past : List Moment) (opening : List Opening) (k : Core) : Type 0 where
  pub met : LogsAt MeetsBy OpenMet past k
  pub once : OnceAt all past opening k

-- ---- one that ended before

-- nothing is said for it any more
ended_apart : (o : Op) (e n c : ℕ) → o.end ≡ Some e → e ≤ n → is_in o (n + 1) c ≡ false
ended_apart o e n c at le = ap (λ t. (c == o.client) && (nat_le o.begin (n + 1) && until t (n + 1))) at ∙ by (c == o.client) (nat_le o.begin (n + 1)) (nat_le (n + 1) e) refl
  where
    by : (a b d : Bool) → nat_le (n + 1) e ≡ d → (a && (b && d)) ≡ false
    by a b true f = absurd (grind (arith, nat_tests, f, le))
    by true true false f = refl
    by true false false f = refl
    by false b false f = refl

-- a history that has the same versions so far
stays : (all past : List Moment) (opening : List Opening) (k : Core) (e : Event) (after : Core) (o : Op) → k.steps ≤ after.steps → ((f q : ℕ) → q ≤ k.steps → version_in (after.ops ++ map op_of after.raws) f q ≡ version_in (k.ops ++ map op_of k.raws) f q) → IsOnce past (book_at opening k all) o → IsOnce (past ++ moment k e ∷ []) (book_at opening after all) o
stays all past opening k e after o le alike h = record {
  end = h.end;
  end_is = h.end_is;
  by = let b = h.by in omega (arith, b, le);
  once = λ lt.
      let m = h.once (subst (λ l. 1 < begins_in l) same lt) in
      let a = m.1 in
      let b = m.2 in
      let c = h.by in
      (m.0, m.1, m.2, λ v. m.3 (sym (alike o.file o.begin (omega (arith, a, b, c))) ∙ v ∙ alike o.file m.0 (omega (arith, b, c))));
  called = elim h.called [
    | inl called ↦ inl (called_as (book_at opening k all) (book_at opening after all) past (past ++ moment k e ∷ []) o o (λ z c. c) refl refl (λ p is. is) (ap begins_in same) called)
    | inr now ↦ inr (now_later past (moment k e) o now)
  ];
}
  where
    same : deals_of o (past ++ moment k e ∷ []) ≡ deals_of o past
    same = deals_same o past (moment k e) (deals_apart o (moment k e) (ended_apart o h.end k.steps (client_of k e) h.end_is h.by))

-- ---- an answer

-- whatever ends an operation sends nothing
abbrev IsQuiet : State × ClientStep → Type 0
IsQuiet r = (e : Ended) → r.1.ended ≡ Some e → r.1.send ≡ []

quiet_cases : (s : State) (calls : List Pending) (file : ℕ) (st : Stage) (x : ℕ) (b : Body) → Cases (λ found r. IsQuiet r) s calls file st x b
quiet_cases s calls file st x b = record {
  ends = λ r e unchanged came. λ d is. e.sent;
  uses = λ y l bytes at is kept. λ d e. refl;
  fetches = λ y l at is. λ d e. nothing_there d e;
  anew = λ f version bytes open_ gave few came. λ d e. nothing_there d e;
  changed = λ r f version e open_ gave last is. λ d at. e.sent;
  lists = λ f g is at same far. λ d e. nothing_there d e;
  reads = λ f bytes now here. λ d e. nothing_there d e;
  opens = λ f bytes now here. λ d e. refl;
  names = λ w at known none e. λ d is. nothing_there d is;
  commits = λ w at known none e. λ d is. nothing_there d is;
  whole = λ old c k at unknown none found name chunk. λ d e. nothing_there d e;
}

quiet_drops : (s : State) (o : Option Task) (x : ℕ) (b : Bool) → IsQuiet (drops s o x b)
quiet_drops s o x true d e = refl
quiet_drops s (Some t) x false d e = refl
quiet_drops s None x false d e = refl

quiet_took : (s : State) (calls : List Pending) (file : ℕ) (st : Stage) (x : ℕ) (b : Body) → IsQuiet (took s calls file st x b)
quiet_took s calls file (stage.Walking y w) x b = walk_cases IsQuiet s calls file y w x b (record {
  fault = λ f bad d e. refl;
  asks = λ v k d e. nothing_there d e;
  open_already = λ id k is d e. refl;
  fetches = λ id k shut none d e. nothing_there d e;
  leases = λ id c k shut there d e. nothing_there d e;
  opens_now = λ id c k shut now d e. refl;
  renew_already = λ id k is d e. refl;
  renews = λ id k shut d e. nothing_there d e;
  empties_now = λ id c k shut now d e. refl;
  ends = λ v end k same d e. refl;
})
quiet_took s calls file st x b = took_cases (λ found r. IsQuiet r) s calls file st x b tt (λ found r g until lease is z. z) (quiet_cases s calls file st x b)

quiet_answer : (s : State) (o : Option Task) (x : ℕ) (b : Body) (own : Bool) → IsQuiet (took_if s o x b own)
quiet_answer s (Some t) x b true = quiet_took (idle s) (client.calls_of s) t.file t.stage x b
quiet_answer s (Some t) x b false = quiet_drops s (Some t) x (client.has_call s.forgotten x)
quiet_answer s None x b own = quiet_drops s None x (client.has_call s.forgotten x)

-- attempts that began, by the stage
begun_by : (log : List Deal) (file : ℕ) (v : List ℕ) (st : Stage) → MeetsBy log file v st → stage_word st ≡ words.Open → 1 < begins_in log → 1 < tries_of st
begun_by log file v st h word lt = by st h word
  where
    tried : (n : ℕ) (a : Rattle.trace_replay.specs.Traffic.Attempt) → Tries (attempts_in log) n a → 1 < n
    tried n a t =
        let c = begun_count log no_attempt in
        let last = ap (λ l. length (Rattle.trace_replay.specs.Traffic.given_up l)) t.0 in
        let count = t.1 in
        omega (arith, c, last, count, lt)

    by : (st : Stage) → MeetsBy log file v st → stage_word st ≡ words.Open → 1 < tries_of st
    by (stage.Asking x) h w = let c = begun_count log no_attempt in let none = ap count_of h in absurd (omega (arith, c, none, lt))
    by (stage.Hashing tries x) h w = tried tries _ h
    by (stage.Listing x f) h w = tried f.tries _ h.1
    by (stage.Reading f) h w = tried f.tries _ h.1
    by (stage.Rewriting x) h w = absurd cc
    by (stage.Making x temp) h w = absurd cc
    by (stage.Storing st) h w = absurd cc
    by (stage.Committing x) h w = absurd cc
    by (stage.Walking x walk) h w = let c = (names_count log h).begins in absurd (omega (arith, c, lt))

once_hears : FitLaws → (all past : List Moment) (opening : List Opening) (k : Core) (qs after : List Queue) (n now : ℕ) (bytes : List ℕ) (mid : List Queue) → IsKept (book_at opening k all) k qs → (h : Heard k qs n now bytes mid) → IsKept (book_at opening (happens k (Hears n now bytes)).core all) (happens k (Hears n now bytes)).core after
    → LogsAt MeetsBy OpenMet past k → OnceAt all past opening k → OnceAt all (past ++ moment k (Hears n now bytes) ∷ []) opening (happens k (Hears n now bytes)).core
once_hears fits all past opening k qs after n now bytes mid kept h left met before =
    subst (λ (t : CoreStep). OnceAt all (past ++ moment k (Hears n now bytes) ∷ []) opening t.core) (sym turned)
    (λ p len digest q at is. elim (ops_shape k.ops h.seat.place r.0 taken (k.steps + 1) r.1 p q at) [
      | inr old ↦ stays all past opening k (Hears n now bytes) (acted k h.session.owner h.seat r.0 r.1).core q (omega arith) (λ f m le. moved_none f m) (before p len digest q old.1 is)
      | inl new ↦ subst (IsOnce (past ++ moment k (Hears n now bytes) ∷ []) (book_at opening (acted k h.session.owner h.seat r.0 r.1).core all)) (sym new.3) (ended p len digest new.0 new.1 new.2 (ap (λ (z : Op). z.outcome) (sym new.3) ∙ is))
    ])
  where
    book : Book
    book = book_at opening k all

    more : Book
    more = book_at opening (happens k (Hears n now bytes)).core all

    r : State × ClientStep
    r = got_step h.seat.client (Ok (told_message h.told)) now

    finds : (p : ℕ) (o : Op) → h.seat.place ≡ Some p → slice_get k.ops p ≡ Some o → Quietly r.1 o.word
    finds p o e at = heard_finds book k qs n now bytes mid kept h (Ok (told_message h.told)) p o e at

    taken : List TakenCall
    taken = session_taken (session_of k.sessions h.seat.session)

    -- no version is another by what a client hears
    moved_none : (f q : ℕ) → version_in (ops_with k.ops h.seat.place r.0 taken (k.steps + 1) r.1 ++ map op_of k.raws) f q ≡ version_in (k.ops ++ map op_of k.raws) f q
    moved_none f q = versions_beside f q (ops_with k.ops h.seat.place r.0 taken (k.steps + 1) r.1) k.ops k.raws (versions_after k.ops h.seat.place r.0 taken (k.steps + 1) r.1 finds f q)

    turned : happens k (Hears n now bytes) ≡ acted k h.session.owner h.seat (got_step h.seat.client (Ok (told_message h.told)) now).0 (got_step h.seat.client (Ok (told_message h.told)) now).1
    turned = heard_acts fits (book_at opening k all) k qs n now bytes mid kept h

    owner : owner_in (numbered k.sessions n) ≡ h.session.owner
    owner = ap owner_in h.at

    taken_is : h.session.taken ≡ session_taken (session_of k.sessions h.seat.session)
    taken_is = sym (ap (λ l. session_taken (session_of k.sessions l)) h.newest ∙ ap session_taken h.at)

    s : IsSession (book_at opening k all) k.seats k.server n h.session h.queue
    s = kept.sessions n h.session h.queue h.at h.queue_is (has_owner k.seats h.session h.seat h.owner)

    same_seat : s.seat ≡ h.seat
    same_seat = some_is s.seat h.seat (sym s.owner ∙ h.owner)

    ended : (p len : ℕ) (digest : List ℕ) (o : Op) → h.seat.place ≡ Some p → slice_get k.ops p ≡ Some o → (op_after o (got_step h.seat.client (Ok (told_message h.told)) now).0 (session_taken (session_of k.sessions h.seat.session)) (k.steps + 1) (got_step h.seat.client (Ok (told_message h.told)) now).1).outcome ≡ told.Opened len digest
        → IsOnce (past ++ moment k (Hears n now bytes) ∷ []) (book_at opening (acted k h.session.owner h.seat (got_step h.seat.client (Ok (told_message h.told)) now).0 (got_step h.seat.client (Ok (told_message h.told)) now).1).core all) (op_after o (got_step h.seat.client (Ok (told_message h.told)) now).0 (session_taken (session_of k.sessions h.seat.session)) (k.steps + 1) (got_step h.seat.client (Ok (told_message h.told)) now).1)
    ended p len digest o e at is = record { end = k.steps + 1; end_is = end_is r.1.ended is; by = omega arith; once = λ lt. once_by how lt; called = called_by how }
      where
        w : (j : Job) × (job h.seat ≡ Some j) × (j.place ≡ p) × (o.client ≡ h.session.owner) × (o.outcome ≡ told.Running) × (is_naming j.stage ≡ false → o.file ≡ j.file)
        w = own_op book k qs h.session.owner h.seat p o kept h.owner e at

        new : Op
        new = op_after o (got_step h.seat.client (Ok (told_message h.told)) now).0 (session_taken (session_of k.sessions h.seat.session)) (k.steps + 1) (got_step h.seat.client (Ok (told_message h.told)) now).1

        running : told.Running ≡ told.Opened len digest → ⊥
        running z = absurd cc

        end_is : (l : Option Ended) → (op_after o r.0 taken (k.steps + 1) (record r.1 { ended = l })).outcome ≡ told.Opened len digest → (op_after o r.0 taken (k.steps + 1) (record r.1 { ended = l })).end ≡ Some (k.steps + 1)
        end_is None z = absurd (running (sym w.4 ∙ z))
        end_is (Some x) z = refl

        -- it ended by this
        ended_as : (l : Option Ended) → r.1.ended ≡ l → (op_after o r.0 taken (k.steps + 1) (record r.1 { ended = l })).outcome ≡ told.Opened len digest → (x : Ended) × (r.1.ended ≡ Some x) × IsOpenedBy x.outcome
        ended_as None f z = absurd (running (sym w.4 ∙ z))
        ended_as (Some x) f z = let v = opened_by x.outcome len digest z in (x, f, subst IsOpenedBy (sym v.1) tt)

        last : (x : Ended) × (r.1.ended ≡ Some x) × IsOpenedBy x.outcome
        last = ended_as r.1.ended refl is

        -- it ended, and so sent nothing
        silent : (got_step h.seat.client (Ok (told_message h.told)) now).1.send ≡ []
        silent = by r.1.ended refl is
          where
            by : (l : Option Ended) → (got_step h.seat.client (Ok (told_message h.told)) now).1.ended ≡ l → (op_after o r.0 taken (k.steps + 1) (record r.1 { ended = l })).outcome ≡ told.Opened len digest → (got_step h.seat.client (Ok (told_message h.told)) now).1.send ≡ []
            by None f z = absurd (running (sym w.4 ∙ z))
            by (Some x) f z = quiet_answer (at_clock h.seat.client now) h.seat.client.task h.told.xid (Rattle.kept_promise.proofs.Common.reply_body h.told.reply) (client.has_call (client.pending h.seat.client.task) h.told.xid) x f

        job_is : job s.seat ≡ Some w.0
        job_is = ap job same_seat ∙ w.1

        fetch : FetchOf (book_at opening k all) (session_taken (session_of k.sessions h.seat.session)) w.0 w.0.stage
        fetch = subst (λ z. FetchOf (book_at opening k all) z w.0 w.0.stage) taken_is ((s.talk h.uncut).fetch w.0 job_is)

        answer : AnswerOf (book_at opening k all) (session_taken (session_of k.sessions h.seat.session)) h.session.closing (Some w.0) h.told.xid h.told.reply
        answer = subst (λ z. AnswerOf (book_at opening k all) z h.session.closing (Some w.0) h.told.xid h.told.reply) taken_is (subst (λ z. AnswerOf (book_at opening k all) h.session.taken h.session.closing z h.told.xid h.told.reply) job_is (subst (AllTolds (IsAnswer (book_at opening k all) h.session.taken h.session.closing (job s.seat))) h.first (s.talk h.uncut).answers).0)

        there : slice_get k.ops w.0.place ≡ Some o
        there = ap (slice_get k.ops) w.2 ∙ at

        open_word : o.word ≡ words.Open
        open_word =
            let ops_are : more.ops ≡ slice_set k.ops p new = ap (λ (t : CoreStep). t.core.ops) turned ∙ ap (λ l. ops_with k.ops l r.0 taken (k.steps + 1) r.1) e ∙ ap (λ l. ops_after k.ops p l r.0 taken (k.steps + 1) r.1) at in
            let right = left.sound.rights p new (ap (λ (l : List Op). slice_get l p) ops_are ∙ at_replaced k.ops p new o at) in
            sym (word_after o r.0 taken (k.steps + 1) r.1) ∙ (subst (Caused more new) is right.cause).0

        stage_open : stage_word w.0.stage ≡ words.Open
        stage_open =
            let of = (kept.seats h.session.owner h.seat h.owner).task w.0 w.1 in
            sym (ap (λ (z : Op). z.word) (some_is o of.op (sym there ∙ of.there)) ∙ of.word) ∙ open_word

        -- it began no attempt in this step
        begun : begins_in (deals_of new (past ++ moment k (Hears n now bytes) ∷ [])) ≡ begins_in (deals_of o past)
        begun =
            let log = heard_log fits opening all past k qs n now bytes mid kept h met.by p o e at in
            let ts = wanted_by h.seat.client (Ok (told_message h.told)) in
            let fs = given_by_message h.seat.client (Ok (told_message h.told)) in
            let a = ap begins_in log in
            let b = sum_join Rattle.kept_promise.proofs.Common.first_number (deals_of o past) (deals_with ts fs r.1.send) in
            let c = sum_join Rattle.kept_promise.proofs.Common.first_number (map Took ts ++ map Found fs) (map Sent r.1.send) in
            let d = sum_took Rattle.kept_promise.proofs.Common.first_number ts fs in
            let none = ap (λ (ms : List Message). begins_in (map Sent ms)) silent in
            omega (arith, a, b, c, d, none)

        how : ((x : OpensNow h.seat.client.cache now r last.0) × (r.1.found ≡ Some x.file) × IsWalk w.0.stage) ⊎ ((r.1.found ≡ None) × ((v : ℕ) × StageCall book taken w.0 w.0.stage last.0.rests_on))
        how = rests_on (book_at opening k all) taken h.session.closing h.told w.0 h.seat.client now (job_task h.seat.place h.seat.client.task w.0 w.1) fetch answer last.0 last.1 last.2

        -- a number of a call is none of what was taken
        unnumbered : taken_at taken 0 ≡ None
        unnumbered = subst (λ (l : List TakenCall). taken_at l 0 ≡ None) taken_is (s.talk h.uncut).numbered.1

        after_file : (l : Option Ended) → (op_after o r.0 taken (k.steps + 1) (record r.1 { ended = l })).file ≡ file_with o.file r.1.found
        after_file None = refl
        after_file (Some x) = refl

        called : r.1.found ≡ None → (v : ℕ) × StageCall book taken w.0 w.0.stage last.0.rests_on → CalledAt (book_at opening (acted k h.session.owner h.seat (got_step h.seat.client (Ok (told_message h.told)) now).0 (got_step h.seat.client (Ok (told_message h.told)) now).1).core all) (past ++ moment k (Hears n now bytes) ∷ []) (op_after o (got_step h.seat.client (Ok (told_message h.told)) now).0 (session_taken (session_of k.sessions h.seat.session)) (k.steps + 1) (got_step h.seat.client (Ok (told_message h.told)) now).1)
        called unfound served = called_as (book_at opening k all) (book_at opening (acted k h.session.owner h.seat r.0 r.1).core all) past (past ++ moment k (Hears n now bytes) ∷ []) (record o { point = new.point }) new (λ z c. c) (client_stays o r.0 taken (k.steps + 1) r.1) (file_stays o r.0 taken (k.steps + 1) r.1 unfound) (λ q z. z)
            (begun ∙ ap begins_in (sym (deals_pointed o new.point past)))
            (point_now (book_at opening k all) past o w.0 r.0 taken (k.steps + 1) r.1 last.0 len digest there (w.5 (unnamed w.0.stage (ap changes stage_open))) open_word stage_open (met.jobs h.session.owner h.seat w.0 o h.owner w.1 there) last.1 is served)

        called_by : ((x : OpensNow h.seat.client.cache now r last.0) × (r.1.found ≡ Some x.file) × IsWalk w.0.stage) ⊎ ((r.1.found ≡ None) × ((v : ℕ) × StageCall book taken w.0 w.0.stage last.0.rests_on)) → PointedAt (book_at opening (acted k h.session.owner h.seat r.0 r.1).core all) (past ++ moment k (Hears n now bytes) ∷ []) (op_after o r.0 taken (k.steps + 1) r.1)
        called_by (inl (x, found, walk)) = inr (ends_now (past ++ moment k (Hears n now bytes) ∷ []) (moment k (Hears n now bytes)) now h.seat o taken r last.0 x last.1 (Contains-append_right past (moment k (Hears n now bytes) ∷ []) (moment k (Hears n now bytes)) (Contains-push [] (moment k (Hears n now bytes)))) open_word (after_file r.1.ended ∙ ap (file_with o.file) found) unnumbered (ap (numbered k.seats) w.3 ∙ h.owner) (ap (acts_for (Hears n now bytes)) h.at ∙ ap (λ (c : ℕ). Some (c, now)) (sym w.3)) (ap (λ (t : CoreStep). t.up) turned ∙ silent))
        called_by (inr (unfound, served)) = inl (called unfound served)

        moved : r.1.found ≡ None → 1 < begins_in (deals_of (op_after o (got_step h.seat.client (Ok (told_message h.told)) now).0 (session_taken (session_of k.sessions h.seat.session)) (k.steps + 1) (got_step h.seat.client (Ok (told_message h.told)) now).1) (past ++ moment k (Hears n now bytes) ∷ []))
            → Moved (ops_with k.ops h.seat.place (got_step h.seat.client (Ok (told_message h.told)) now).0 (session_taken (session_of k.sessions h.seat.session)) (k.steps + 1) (got_step h.seat.client (Ok (told_message h.told)) now).1 ++ map op_of k.raws) (op_after o (got_step h.seat.client (Ok (told_message h.told)) now).0 (session_taken (session_of k.sessions h.seat.session)) (k.steps + 1) (got_step h.seat.client (Ok (told_message h.told)) now).1).file (op_after o (got_step h.seat.client (Ok (told_message h.told)) now).0 (session_taken (session_of k.sessions h.seat.session)) (k.steps + 1) (got_step h.seat.client (Ok (told_message h.told)) now).1).begin (k.steps + 1)
        moved unfound lt =
            let j : Job = w.0 in
            let trying = subst (IsTrying book) w.1 (kept.seats h.session.owner h.seat h.owner).trying in
            let same = begun in
            let more_ = begun_by (deals_of o past) o.file o.value j.stage (met.jobs h.session.owner h.seat j o h.owner w.1 there) stage_open (omega (arith, lt, same)) in
            let m = moved_by book taken j o there trying fetch stage_open more_ in
            subst (λ f. Moved (ops_with k.ops h.seat.place r.0 taken (k.steps + 1) r.1 ++ map op_of k.raws) f new.begin (k.steps + 1)) (sym (file_stays o r.0 taken (k.steps + 1) r.1 unfound ∙ w.5 (unnamed w.0.stage (ap changes stage_open))))
            (let begin = begin_is r.1.ended in let m1 = m.1 in (m.0, omega (arith, m1, begin), m.2, λ v. m.3 (ap (version_in (k.ops ++ map op_of k.raws) j.file) (sym begin) ∙ sym (moved_none j.file new.begin) ∙ v ∙ moved_none j.file m.0)))
          where
            begin_is : (l : Option Ended) → (op_after o r.0 taken (k.steps + 1) (record r.1 { ended = l })).begin ≡ o.begin
            begin_is None = refl
            begin_is (Some x) = refl

        once_by : ((x : OpensNow h.seat.client.cache now r last.0) × (r.1.found ≡ Some x.file) × IsWalk w.0.stage) ⊎ ((r.1.found ≡ None) × ((v : ℕ) × StageCall book taken w.0 w.0.stage last.0.rests_on))
            → 1 < begins_in (deals_of (op_after o r.0 taken (k.steps + 1) r.1) (past ++ moment k (Hears n now bytes) ∷ [])) → Moved (ops_with k.ops h.seat.place r.0 taken (k.steps + 1) r.1 ++ map op_of k.raws) (op_after o r.0 taken (k.steps + 1) r.1).file (op_after o r.0 taken (k.steps + 1) r.1).begin (k.steps + 1)
        once_by (inr (unfound, served)) lt = moved unfound lt
        once_by (inl (x, found, (y, v, walk))) lt =
            let names = subst (MeetsBy (deals_of o past) o.file o.value) walk (met.jobs h.session.owner h.seat w.0 o h.owner w.1 there) in
            let none = (names_count (deals_of o past) names).begins in
            let same = begun in
            absurd (omega (arith, none, same, lt))

-- ---- any event

-- at which no client hears anything
once_quiet : FitLaws → (all past rest : List Moment) (opening : List Opening) (k : Core) (qs : List Queue) (e : Event) (mid after : List Queue) → Step all past rest opening k qs e mid after → (MayOpen e → ⊥) → OnceAt all past opening k → OnceAt all (past ++ moment k e ∷ []) opening (happens k e).core
once_quiet laws all past rest opening k qs e mid after s quiet h = λ p len digest r at is.
    let w = ops_after_event laws all past rest opening k qs e mid after s in
    let o = opened_before (book_at opening k all) k qs e (happens k e).core.ops s.kept quiet w.0 p len digest r at is in
    stays all past opening k e (happens k e).core r w.1 (versions_all k e (happens k e).core.ops w.0) (h p len digest r o is)

-- an open at once
once_does : FitLaws → (all past rest : List Moment) (opening : List Opening) (k : Core) (qs : List Queue) (c now : ℕ) (d : Command) (mid after : List Queue) → Step all past rest opening k qs (Does c now d) mid after → Once all past opening k → OnceAt all (past ++ moment k (Does c now d) ∷ []) opening (happens k (Does c now d)).core
once_does laws all past rest opening k qs c now d mid after s h = λ p len digest o at is. elim (of_appended k.ops new p o (ap (λ (t : CoreStep). slice_get t.core.ops p) (sym turned) ∙ at)) [
  | inr old ↦ stays all past opening k (Does c now d) (happens k (Does c now d)).core o w.1 (versions_all k (Does c now d) (happens k (Does c now d)).core.ops w.0) (h.once p len digest o old is)
  | inl last ↦ subst (IsOnce (past ++ moment k (Does c now d) ∷ []) (book_at opening (happens k (Does c now d)).core all)) (sym last.1) (begun len digest (ap (λ (z : Op). z.outcome) (sym last.1) ∙ is))
]
  where
    seat : Seat
    seat = s.finds.0

    here : numbered k.seats c ≡ Some seat
    here = s.finds.1

    w : OpsAfter (Does c now d) k (happens k (Does c now d)).core.ops × (k.steps ≤ (happens k (Does c now d)).core.steps)
    w = ops_after_event laws all past rest opening k qs (Does c now d) mid after s

    r : State × ClientStep
    r = command_step seat.client d now

    first : Op
    first = begun_op c (word_of d) (file_of d) (value_at_begin seat.client (word_of d) (file_of d) r.1.ended) (k.steps + 1)

    new : Op
    new = op_after first r.0 [] (k.steps + 1) r.1

    turned : happens k (Does c now d) ≡ does k c now d (Some seat)
    turned = ap (does k c now d) here

    begun : (len : ℕ) (digest : List ℕ) → new.outcome ≡ told.Opened len digest → IsOnce (past ++ moment k (Does c now d) ∷ []) (book_at opening (happens k (Does c now d)).core all) new
    begun len digest is = by (ended_as r.1.ended refl is)
      where
        not_running : told.Running ≡ told.Opened len digest → ⊥
        not_running z = absurd cc

        ended_as : (l : Option Ended) → r.1.ended ≡ l → (op_after first r.0 [] (k.steps + 1) (record r.1 { ended = l })).outcome ≡ told.Opened len digest → (x : Ended) × (r.1.ended ≡ Some x) × IsOpenedBy x.outcome
        ended_as None f z = absurd (not_running z)
        ended_as (Some x) f z = let v = opened_by x.outcome len digest z in (x, f, subst IsOpenedBy (sym v.1) tt)

        ends : (l : Option Ended) (x : Ended) → l ≡ Some x → (op_after first r.0 [] (k.steps + 1) (record r.1 { ended = l })).end ≡ Some (k.steps + 1)
        ends None x e = nothing_there x e
        ends (Some y) x e = refl

        files : (l : Option Ended) → (op_after first r.0 [] (k.steps + 1) (record r.1 { ended = l })).file ≡ file_with (file_of d) r.1.found
        files None = refl
        files (Some y) = refl

        late : (l : Option Ended) → k.steps < (op_after first r.0 [] (k.steps + 1) (record r.1 { ended = l })).begin
        late None = omega arith
        late (Some y) = omega arith

        by : (x : Ended) × (r.1.ended ≡ Some x) × IsOpenedBy x.outcome → IsOnce (past ++ moment k (Does c now d) ∷ []) (book_at opening (happens k (Does c now d)).core all) new
        by (x, ended, op) = shown (opens_command seat.client d now x ended op)
          where
            shown : (n : OpensNow seat.client.cache now r x) × (r.1.found ≡ None) × (d ≡ command.Open n.file) → IsOnce (past ++ moment k (Does c now d) ∷ []) (book_at opening (happens k (Does c now d)).core all) new
            shown (n, found, told_) = record {
              end = k.steps + 1;
              end_is = ends r.1.ended x ended;
              by = subst (λ (t : CoreStep). k.steps + 1 ≤ t.core.steps) (sym turned) (omega arith);
              once = λ lt. (let none = ap begins_in (deals_same new past (moment k (Does c now d)) (deals_silent new (moment k (Does c now d)) (refl, refl, ap calls_in up)) ∙ deals_early k.steps new past (late r.1.ended) h.met.by) in absurd (omega (arith, none, lt)));
              called = inr (ends_now (past ++ moment k (Does c now d) ∷ []) (moment k (Does c now d)) now seat first [] r x n ended (Contains-append_right past (moment k (Does c now d) ∷ []) (moment k (Does c now d)) (Contains-push [] (moment k (Does c now d)))) (ap word_of told_) (files r.1.ended ∙ ap (file_with (file_of d)) found ∙ ap file_of told_) refl here refl up);
            }
              where
                up : (happens k (Does c now d)).up ≡ []
                up = ap (λ (t : CoreStep). t.up) turned ∙ n.sends

once_event : FitLaws → (all past rest : List Moment) (opening : List Opening) (k : Core) (qs : List Queue) (e : Event) (mid after : List Queue) → Step all past rest opening k qs e mid after → Once all past opening k → OnceAt all (past ++ moment k e ∷ []) opening (happens k e).core
once_event laws all past rest opening k qs (Hears n now bytes) mid after s h = elim s.finds [
  | inl told ↦ once_hears laws all past opening k qs after n now bytes mid s.kept (heard_at (book_at opening k all) k qs n now bytes mid s.kept told) s.left h.met h.once
  | inr recall ↦ (λ p len digest r at is.
      let w = ops_after_event laws all past rest opening k qs (Hears n now bytes) mid after s in
      let same = recall_ops laws (book_at opening k all) k qs n now bytes mid s.kept recall in
      stays all past opening k (Hears n now bytes) (happens k (Hears n now bytes)).core r w.1 (versions_all k (Hears n now bytes) (happens k (Hears n now bytes)).core.ops w.0) (h.once p len digest r (ap (λ (l : List Op). slice_get l p) (sym same) ∙ at) is))
]
once_event laws all past rest opening k qs (Does c now d) mid after s h = once_does laws all past rest opening k qs c now d mid after s h
once_event laws all past rest opening k qs e mid after s h = once_quiet laws all past rest opening k qs e mid after s (λ z. elim z [ inl does ↦ does | inr hears ↦ hears ]) h.once

met_carried : FitLaws → Carried (λ all past opening k qs. LogsAt MeetsBy OpenMet past k)
met_carried laws = carried_logs (λ all. MeetsBy) (λ all. OpenMet) meets_laws laws

abbrev pub IsMet : (all past : List Moment) → List Opening → Core → List Queue → Type 0
IsMet all past opening k qs = Once all past opening k

pub carried_once : FitLaws → Carried IsMet
carried_once laws = record {
  first = λ all opening tree count kept. record { met = (met_carried laws).first all opening tree count kept; once = λ p len digest o at e. nothing_there o at };
  steps = λ all past rest opening k qs e mid after s h. record { met = (met_carried laws).steps all past rest opening k qs e mid after s h.met; once = once_event laws all past rest opening k qs e mid after s h };
  adjusts = λ all past opening k qs index seats same h. record { met = (met_carried laws).adjusts all past opening k qs index seats same h.met; once = λ p len digest o at is. (let w = h.once p len digest o at is in record { end = w.end; end_is = w.end_is; by = w.by; once = w.once; called = elim w.called [ inl called ↦ inl (called_as (book_at opening k all) (book_at opening (adjusted_core k index seats) all) past past o o (λ z c. c) refl refl (λ p is. is) refl called) | inr now ↦ inr now ] }) };
}

-- ---- what it makes of the promise

-- an open counted its last attempt at least; just that where its file had one version
pub opened_once : (book : Book) (o : Op) (len : ℕ) (digest : List ℕ) → o.outcome ≡ told.Opened len digest → o.word ≡ words.Open → IsSum o.traffic (deals_of o book.moments) → OpOwn (deals_of o book.moments) o.word o.file o.value o.outcome → OpenRead book.moments (deals_of o book.moments) o.word o.file o.value o.outcome → IsOnce book.moments book o → OpenedBy book o
opened_once book o len digest is open_ sum own read once = record {
  reads = let r = sum.read in let b = (last_most (deals_of o book.moments)).0 in omega (arith, r, b);
  bytes = let d = sum.data_is in let b = (last_most (deals_of o book.moments)).1 in omega (arith, d, b);
  once = λ e at versions. once_is book.moments o book.moments len digest is open_ own read sum (one e at versions);
}
  where
    -- it began one attempt alone
    one : (e : ℕ) → o.end ≡ Some e → version_at book o.file o.begin ≡ version_at book o.file (e + 1) → begins_in (deals_of o book.moments) ≤ 1
    one e at versions = by (nat_lt 1 (begins_in (deals_of o book.moments))) refl
      where
        by : (b : Bool) → nat_lt 1 (begins_in (deals_of o book.moments)) ≡ b → begins_in (deals_of o book.moments) ≤ 1
        by false f = grind (arith, nat_tests, f)
        by true f =
            let m = once.once (grind (arith, nat_tests, f)) in
            let last : e ≡ once.end = some_is e once.end (sym at ∙ once.end_is) in
            let le = m.2 in
            let x = version_later (history book).ops o.file o.begin m.0 m.1 in
            let y = version_later (history book).ops o.file m.0 (e + 1) (omega (arith, le, last)) in
            absurd (m.3 (omega (arith, x, y, versions)))

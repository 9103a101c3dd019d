-- What a client hears of a GETLEASE: whose answer it is, and that it tells the version which the file had when the server took the call.
use Rattle.std.proofs.Common.{◌⊎◌, inl, inr, ◌≡◌, ℕ, ◌+◌, ◌<◌, ◌≤◌, List, [], length, Option, Some, None, Ok, Bool, true, false, refl, sym, ap, ◌∙◌, subst, arith, eqb-true, map, ◌++◌}
use Rattle.hash_calls.specs.declared.call.Leased.{Leased}
use Rattle.hash_calls.specs.declared.message.Lb.TheVariants as lb
use Rattle.wire.specs.declared.message.Body.TheVariants as body
use Rattle.wire.specs.declared.message.Message.TheVariants as message
use Rattle.client_state.specs.Noting.{at as at_clock}
use Rattle.client_state.specs.State as client
use Rattle.client_state.specs.declared.step.BadPeer.TheVariants as bad
use Rattle.client_state.specs.declared.task.Stage.TheVariants as stage
use Rattle.client_state.specs.declared.task.Way.TheVariants as way
use Rattle.register_model.specs.declared.op.Outcome.TheVariants as told
use Rattle.trace_replay.specs.OwnCalls.{WaitsFor, TakesCall}
use Rattle.trace_ends.specs.Session.{taken_of as session_taken}
use Rattle.trace_replay.specs.Saving.{lease_told, LeasedAt, TellsLease}
use Rattle.trace_replay.specs.Book.{first_version}
use Rattle.kept_promise.proofs.Common.{◌==◌, Contains, Contains-push_cases, Way, answered, slice_get, Answer, Done, Body, Message, Pending, got_step, took, took_if, told_stored, told_way, idle, ClientStep, Ended, Stage, Upload, UploadCall, Task, store_at, Op, Opening, TakenCall, op_after, Core, Seat, Event, Event.Hears, CoreStep, numbered, session_of, acted, happens, Moment, step_of, client_of, owner_in, wanted_if, taken_by, is_in, Book, version_at, changed_before, content_of, filter, Queue, Reply, Reply.Versioned, told_message, reply_body}
use Rattle.kept_promise.proofs.SameVersion.{same_version}
use Rattle.kept_promise.proofs.Lists.{some_is, of_appended, of_replaced, true_and_false}
use Rattle.kept_promise.proofs.Messages.{Job, job, lease_xid, lease_body, AllTolds, IsLeased, LeaseTold, AnswerOf, IsAnswer}
use Rattle.kept_promise.proofs.Fits.{FitLaws}
use Rattle.kept_promise.proofs.Facts.{IsKept, IsSession, is_naming}
use Rattle.kept_promise.proofs.RunsCarried.{FindsTold, book_at, moment, Step}
use Rattle.kept_promise.proofs.Replies.{recall_untaken}
use Rattle.kept_promise.proofs.Actors.{job_task, acts_alone, Heard, heard_at, heard_acts, heard_takes, own_op}
use Rattle.kept_promise.proofs.Counted.{IsActor, early, running_past}
use Rattle.kept_promise.proofs.CountedRuns.{no_fault_after}
use Rattle.kept_promise.proofs.JobFacts.{ops_shape}
use Rattle.kept_promise.proofs.StepCases.{IsFault, IsOfFile}
use Rattle.kept_promise.proofs.VersionRuns.{or_none}
use Rattle.kept_promise.proofs.LogEvents.{file_stays}
use Rattle.kept_promise.proofs.Versions.{version_in}
use Rattle.kept_promise.proofs.OpsAfter.{OpsAfter, versions_all}
use Rattle.kept_promise.proofs.Found.{took_finds}
use Rattle.kept_promise.proofs.Rights.{WasThere}
use Rattle.kept_promise.proofs.Turns.{has_owner}
use Rattle.register_model.specs.Raw.{op_of}
use Rattle.register_model.specs.declared.raw.Raw.{Raw}

-- ---- whose answer it is

-- one that waits for no such answer meets a fault
store_fault : (s : client.State) (calls : List Pending) (file x : ℕ) (content : List ℕ) (st : Upload) (l : Leased) (o : Option UploadCall) → IsFault (told_stored s calls file x content st (body.Lb (lb.GetLeaseAnswer (Done l))) o).1.ended
store_fault s calls file x content st l None = (bad.UnknownXid x, refl)
store_fault s calls file x content st l (Some c) = by c.way
  where
    by : (w : Way) → IsFault (told_way s calls file x content (answered st x) c w (body.Lb (lb.GetLeaseAnswer (Done l)))).1.ended
    by way.Named = (bad.UnknownXid x, refl)
    by way.Whole = (bad.UnknownXid x, refl)

-- an open waits for a GETLEASE, or a rewrite does
abbrev pub AsksLease : (xid : ℕ) → Stage → Type 0
AsksLease x st = (st ≡ stage.Asking x) ⊎ (st ≡ stage.Rewriting x)

asks_xid : (st : Stage) (x : ℕ) → AsksLease x st → lease_xid st ≡ Some x
asks_xid st x (inl e) = ap lease_xid e
asks_xid st x (inr e) = ap lease_xid e

asks_file : (st : Stage) (x : ℕ) → AsksLease x st → IsOfFile st
asks_file st x (inl e) = subst IsOfFile (sym e) tt
asks_file st x (inr e) = subst IsOfFile (sym e) tt

asks_unnamed : (st : Stage) (x : ℕ) → AsksLease x st → is_naming st ≡ false
asks_unnamed st x (inl e) = ap is_naming e
asks_unnamed st x (inr e) = ap is_naming e

takes_lease : (s : client.State) (calls : List Pending) (file : ℕ) (st : Stage) (x : ℕ) (l : Leased) → IsFault (took s calls file st x (body.Lb (lb.GetLeaseAnswer (Done l)))).1.ended ⊎ ((y : ℕ) × AsksLease y st)
takes_lease s calls file (stage.Asking y) x l = inr (y, inl refl)
takes_lease s calls file (stage.Rewriting y) x l = inr (y, inr refl)
takes_lease s calls file (stage.Storing st) x l = inl (store_fault s calls file x (client.local_bytes s.opened file) st l (store_at st.under x))
takes_lease s calls file _ x l = inl (bad.UnknownXid x, refl)

-- an operation at whose step its client takes an answer to a GETLEASE had asked for that: what it was before, the client's job, and what comes of it
pub record HeardLease (k : Core) (seat : Seat) (now : ℕ) (x : ℕ) (l : Leased) (p : ℕ) (o : Op) : Type 0 where
  pub old : Op
  pub was : slice_get k.ops p ≡ Some old
  pub of : Job
  pub job_is : job seat ≡ Some of
  pub place : of.place ≡ p
  pub file : old.file ≡ of.file
  pub asking : AsksLease x of.stage
  pub got : got_step seat.client (Ok (lease_told x l)) now ≡ took (idle (at_clock seat.client now)) (client.calls_of seat.client) of.file of.stage x (body.Lb (lb.GetLeaseAnswer (Done l)))
  pub finds : (got_step seat.client (Ok (lease_told x l)) now).1.found ≡ None
  pub is : o ≡ op_after old (got_step seat.client (Ok (lease_told x l)) now).0 (session_taken (session_of k.sessions seat.session)) (k.steps + 1) (got_step seat.client (Ok (lease_told x l)) now).1

pub heard_lease : FitLaws → (all : List Moment) (opening : List Opening) (k : Core) (qs after : List Queue) (n now : ℕ) (bytes : List ℕ) (mid : List Queue) → (kept : IsKept (book_at opening k all) k qs) → (h : Heard k qs n now bytes mid) → IsKept (book_at opening (happens k (Hears n now bytes)).core all) (happens k (Hears n now bytes)).core after
    → (p : ℕ) (o : Op) → slice_get (happens k (Hears n now bytes)).core.ops p ≡ Some o → (x : ℕ) (l : Leased) → is_in o (k.steps + 1) (owner_in (numbered k.sessions n)) ≡ true → Contains (taken_by k (owner_in (numbered k.sessions n)) (Hears n now bytes)) (lease_told x l) → (told_message h.told ≡ lease_told x l) × ((happens k (Hears n now bytes)).up ≡ (got_step h.seat.client (Ok (lease_told x l)) now).1.send) × HeardLease k h.seat now x l p o
heard_lease fits all opening k qs after n now bytes mid kept h left p o at x l mine there = by (is_it (client.has_call (client.pending h.seat.client.task) h.told.xid) refl heard)
  where
    book : Book
    book = book_at opening k all

    taken : List TakenCall
    taken = session_taken (session_of k.sessions h.seat.session)

    owner : owner_in (numbered k.sessions n) ≡ h.session.owner
    owner = ap owner_in h.at

    actor : IsActor k.ops h.session.owner h.seat.place k.steps
    actor = acts_alone (book_at opening k all) k qs h.session.owner h.seat kept h.owner

    heard : Contains (wanted_if (client.has_call (client.pending h.seat.client.task) h.told.xid) (told_message h.told)) (lease_told x l)
    heard = subst (λ (ms : List Message). Contains ms (lease_told x l)) (ap (λ i. taken_by k i (Hears n now bytes)) owner ∙ heard_takes fits (book_at opening k all) k qs n now bytes mid kept h) there

    -- it is the one that its operation waits for
    is_it : (b : Bool) → client.has_call (client.pending h.seat.client.task) h.told.xid ≡ b → Contains (wanted_if b (told_message h.told)) (lease_told x l) → (client.has_call (client.pending h.seat.client.task) h.told.xid ≡ true) × (told_message h.told ≡ lease_told x l)
    is_it false own c = (let lt = c.1 in absurd (omega (arith, lt)))
    is_it true own c = elim (Contains-push_cases [] (told_message h.told) (lease_told x l) c) [
      | inl none ↦ (let lt = none.1 in absurd (omega (arith, lt)))
      | inr same ↦ (own, same)
    ]

    by : (client.has_call (client.pending h.seat.client.task) h.told.xid ≡ true) × (told_message h.told ≡ lease_told x l) → (told_message h.told ≡ lease_told x l) × ((happens k (Hears n now bytes)).up ≡ (got_step h.seat.client (Ok (lease_told x l)) now).1.send) × HeardLease k h.seat now x l p o
    by (own, same) = elim (ops_shape k.ops h.seat.place r.0 taken (k.steps + 1) r.1 p o (ap (λ (t : CoreStep). slice_get t.core.ops p) (sym turned) ∙ at)) [
      | inr old ↦ absurd (true_and_false (is_in o (k.steps + 1) h.session.owner) (ap (is_in o (k.steps + 1)) (sym owner) ∙ mine) (actor.other p o old.1 old.0))
      | inl new ↦ (same, ap (λ (t : CoreStep). t.up) turned, acting new.0 new.1 new.2 new.3 (own_op (book_at opening k all) k qs h.session.owner h.seat p new.0 kept h.owner new.1 new.2))
    ]
      where
        r : client.State × ClientStep
        r = got_step h.seat.client (Ok (lease_told x l)) now

        turned : happens k (Hears n now bytes) ≡ acted k h.session.owner h.seat (got_step h.seat.client (Ok (lease_told x l)) now).0 (got_step h.seat.client (Ok (lease_told x l)) now).1
        turned = subst (λ (m : Message). happens k (Hears n now bytes) ≡ acted k h.session.owner h.seat (got_step h.seat.client (Ok m) now).0 (got_step h.seat.client (Ok m) now).1) same (heard_acts fits (book_at opening k all) k qs n now bytes mid kept h)

        xid_is : (a : ℕ) (b : Body) → message.Answer a b ≡ lease_told x l → a ≡ x
        xid_is a b e = cc

        waits : client.has_call (client.pending h.seat.client.task) x ≡ true
        waits = ap (client.has_call (client.pending h.seat.client.task)) (sym (xid_is h.told.xid (reply_body h.told.reply) same)) ∙ own

        acting : (q : Op) → h.seat.place ≡ Some p → slice_get k.ops p ≡ Some q → o ≡ op_after q (got_step h.seat.client (Ok (lease_told x l)) now).0 (session_taken (session_of k.sessions h.seat.session)) (k.steps + 1) (got_step h.seat.client (Ok (lease_told x l)) now).1
            → (j : Job) × (job h.seat ≡ Some j) × (j.place ≡ p) × (q.client ≡ h.session.owner) × (q.outcome ≡ told.Running) × (is_naming j.stage ≡ false → q.file ≡ j.file) → HeardLease k h.seat now x l p o
        acting q place was is (j, job_is, at_place, client_is, running, file) = elim (takes_lease (idle (at_clock h.seat.client now)) (client.calls_of h.seat.client) j.file j.stage x l) [
          | inl fault ↦ absurd (no_fault_after (book_at opening (happens k (Hears n now bytes)).core all) q r.0 taken (k.steps + 1) r.1 (left.sound.rights p _ (at ∙ ap (λ (z : Op). Some z) is)) (subst (λ (z : client.State × ClientStep). IsFault z.1.ended) (sym got) fault))
          | inr (y, asking) ↦ record {
            old = q;
            was = was;
            of = j;
            job_is = job_is;
            place = at_place;
            file = file (asks_unnamed j.stage y asking);
            asking = elim asking [
              | inl e ↦ inl (e ∙ ap (λ z. stage.Asking z) (eqb-true y x (or_none (y == x) (ap (λ st. client.has_call (client.pending_in st) x) (sym e) ∙ ap (λ (t : Option Task). client.has_call (client.pending t) x) (sym task) ∙ waits))))
              | inr e ↦ inr (e ∙ ap (λ z. stage.Rewriting z) (eqb-true y x (or_none (y == x) (ap (λ st. client.has_call (client.pending_in st) x) (sym e) ∙ ap (λ (t : Option Task). client.has_call (client.pending t) x) (sym task) ∙ waits))))
            ];
            got = got;
            finds = ap (λ (z : client.State × ClientStep). z.1.found) got ∙ took_finds (idle (at_clock h.seat.client now)) (client.calls_of h.seat.client) j.file j.stage x (body.Lb (lb.GetLeaseAnswer (Done l))) (asks_file j.stage y asking);
            is = is;
          }
        ]
          where
            task : h.seat.client.task ≡ Some (record { file = j.file; stage = j.stage })
            task = job_task h.seat.place h.seat.client.task j job_is

            got : got_step h.seat.client (Ok (lease_told x l)) now ≡ took (idle (at_clock h.seat.client now)) (client.calls_of h.seat.client) j.file j.stage x (body.Lb (lb.GetLeaseAnswer (Done l)))
            got =
                ap (λ (t : Option Task). took_if (at_clock h.seat.client now) t x (body.Lb (lb.GetLeaseAnswer (Done l))) (client.has_call (client.pending t) x)) task
                ∙ ap (took_if (at_clock h.seat.client now) (Some (record { file = j.file; stage = j.stage })) x (body.Lb (lb.GetLeaseAnswer (Done l)))) (ap (λ (t : Option Task). client.has_call (client.pending t) x) (sym task) ∙ waits)

-- ---- what it tells

-- the same of a book that has the same moments, of what the operation has become
leased_as : (book more : Book) (o r : Op) (m : Moment) (x version n : ℕ) → more.lbfs ≡ book.lbfs → ((z : Moment) → Contains book.moments z → Contains more.moments z) → r.client ≡ o.client → r.file ≡ o.file → r.begin ≡ o.begin → ((f q : ℕ) → q ≤ n → version_at more f q ≡ version_at book f q) → step_of m ≤ n + 1 → LeasedAt book o m x version → LeasedAt more r m x version
leased_as book more o r m x version n speak there client_is file_is begin_is versions le h = record {
  step = h.step;
  taken = record { moment = t.moment; there = there t.moment t.there; step_is = t.step_is; session = t.session; now = t.now; bytes = t.bytes; event_is = t.event_is; parsed = t.parsed ∙ ap (λ f. Ok (message.Call x (lease_body book.lbfs f))) (sym file_is) ∙ ap (λ (v : ℕ). Ok (message.Call x (lease_body v r.file))) (sym speak); waits = subst (λ c. WaitsFor t.moment c t.session x) (sym client_is) t.waits };
  within = subst (λ b. b ≤ h.step) (sym begin_is) h.within;
  before = h.before;
  version_is = ap (λ f. version_at more f h.step) file_is ∙ versions o.file h.step (let lt = h.before in omega (arith, lt, le)) ∙ h.version_is;
}
  where
    t : TakesCall book o.client h.step x (lease_body book.lbfs o.file)
    t = h.taken

begin_stays : (o : Op) (c : client.State) (taken : List TakenCall) (step : ℕ) (acts : ClientStep) → (op_after o c taken step acts).begin ≡ o.begin
begin_stays o c taken step acts = by acts.ended
  where
    by : (e : Option Ended) → (op_after o c taken step (record acts { ended = e })).begin ≡ o.begin
    by None = refl
    by (Some e) = refl

pub client_stays : (o : Op) (c : client.State) (taken : List TakenCall) (step : ℕ) (acts : ClientStep) → (op_after o c taken step acts).client ≡ o.client
client_stays o c taken step acts = by acts.ended
  where
    by : (e : Option Ended) → (op_after o c taken step (record acts { ended = e })).client ≡ o.client
    by None = refl
    by (Some e) = refl

leased_after : (book more : Book) (o : Op) (c : client.State) (taken : List TakenCall) (n : ℕ) (acts : ClientStep) (m : Moment) (x version : ℕ) → acts.found ≡ None → more.lbfs ≡ book.lbfs → ((z : Moment) → Contains book.moments z → Contains more.moments z) → ((f q : ℕ) → q ≤ n → version_at more f q ≡ version_at book f q) → step_of m ≤ n + 1 → LeasedAt book o m x version → LeasedAt more (op_after o c taken (n + 1) acts) m x version
leased_after book more o c taken n acts m x version none speak there versions le = leased_as book more o (op_after o c taken (n + 1) acts) m x version n speak there (client_stays o c taken (n + 1) acts) (file_stays o c taken (n + 1) acts none) (begin_stays o c taken (n + 1) acts) versions le

-- such an answer is told to one that has its file
abbrev pub HasFile : Moment → Op → Type 0
HasFile m o = (x : ℕ) (l : Leased) → is_in o (step_of m) (client_of m.before m.event) ≡ true → Contains (taken_by m.before (client_of m.before m.event) m.event) (lease_told x l) → o.file ≡ 0 → ⊥

-- an answer that is waited for is of a file that is there
known_by : (book : Book) (taken : List TakenCall) (closing : Option ℕ) (j : Job) (x : ℕ) (l : Leased) (r : Reply) → AsksLease x j.stage → reply_body r ≡ body.Lb (lb.GetLeaseAnswer (Done l)) → AnswerOf book taken closing (Some j) x r → WasThere book j.file
known_by book taken closing j x l (Versioned a) asking is answer = (subst (LeaseTold book taken j x) (same a is) (answer j refl (asks_xid j.stage x asking))).known
  where
    same : (a : Answer Leased Unit) → body.Lb (lb.GetLeaseAnswer a) ≡ body.Lb (lb.GetLeaseAnswer (Done l)) → a ≡ Done l
    same a e = cc
known_by book taken closing j x l r asking is answer = absurd cc

-- an answer that is waited for is that of the version then
leased_by : (book : Book) (k : Core) (taken : List TakenCall) (closing : Option ℕ) (j : Job) (m : Moment) (o : Op) (x : ℕ) (l : Leased) (r : Reply) → book.ops ≡ k.ops → book.steps < step_of m → slice_get k.ops j.place ≡ Some o → o.file ≡ j.file → AsksLease x j.stage → reply_body r ≡ body.Lb (lb.GetLeaseAnswer (Done l)) → AnswerOf book taken closing (Some j) x r → LeasedAt book o m x l.version
leased_by book k taken closing j m o x l (Versioned a) ops steps at file asking is answer = by (subst (LeaseTold book taken j x) (same a is) (answer j refl (asks_xid j.stage x asking)))
  where
    same : (a : Answer Leased Unit) → body.Lb (lb.GetLeaseAnswer a) ≡ body.Lb (lb.GetLeaseAnswer (Done l)) → a ≡ Done l
    same a e = cc

    own : (p : Op) → slice_get book.ops j.place ≡ Some p → p ≡ o
    own p e = some_is p o (sym e ∙ ap (λ (z : List Op). slice_get z j.place) ops ∙ at)

    by : IsLeased book taken j x l → LeasedAt book o m x l.version
    by h =
        let moment_is : h.call.moment ≡ h.told.moment = some_is h.call.moment h.told.moment (sym h.call.was ∙ h.told.was) in
        let past = h.told.past in
        record {
          step = h.told.moment;
          taken = subst (λ f. TakesCall book o.client h.told.moment x (lease_body book.lbfs f)) (sym file) (subst (λ s. TakesCall book o.client s x (lease_body book.lbfs j.file)) moment_is (subst (λ (z : Op). TakesCall book z.client h.call.moment x (lease_body book.lbfs j.file)) (own h.call.op h.call.there) h.call.takes));
          within = subst (λ (z : Op). z.begin ≤ h.told.moment) (own h.told.op h.told.there) h.told.after;
          before = (omega (arith, past, steps));
          version_is = ap (λ f. version_at book f h.told.moment) file ∙ h.told.version_is;
        }
leased_by book k taken closing j m o x l r ops steps at file asking is answer = absurd cc

-- of two books with one opening
counted_so : (book more : Book) (f q : ℕ) → more.opening ≡ book.opening → version_in (more.ops ++ map op_of more.raws) f q ≡ version_in (book.ops ++ map op_of book.raws) f q → version_at more f q ≡ version_at book f q
counted_so book more f q opening same =
    let count : length (filter (changed_before f q) (more.ops ++ map op_of more.raws)) ≡ length (filter (changed_before f q) (book.ops ++ map op_of book.raws)) = omega (arith, same) in
    ap (λ (z : List Opening). length (filter (changed_before f q) (more.ops ++ map op_of more.raws)) + first_version (content_of z f)) opening ∙ ap (λ (n : ℕ). n + first_version (content_of book.opening f)) count

leased_hears : FitLaws → (all past rest : List Moment) (opening : List Opening) (k : Core) (qs : List Queue) (n now : ℕ) (bytes : List ℕ) (mid after : List Queue) → Step all past rest opening k qs (Hears n now bytes) mid after → FindsTold qs n bytes mid → OpsAfter (Hears n now bytes) k (happens k (Hears n now bytes)).core.ops
    → (p : ℕ) (o : Op) → slice_get (happens k (Hears n now bytes)).core.ops p ≡ Some o → TellsLease (book_at opening (happens k (Hears n now bytes)).core all) (moment k (Hears n now bytes)) o
leased_hears fits all past rest opening k qs n now bytes mid after s told grown p o at x l mine there = by (heard_lease fits all opening k qs after n now bytes mid s.kept h s.left p o at x l mine there)
  where
    book : Book
    book = book_at opening k all

    h : Heard k qs n now bytes mid
    h = heard_at (book_at opening k all) k qs n now bytes mid s.kept told

    x_is : IsSession (book_at opening k all) k.seats k.server n h.session h.queue
    x_is = s.kept.sessions n h.session h.queue h.at h.queue_is (has_owner k.seats h.session h.seat h.owner)

    xid_is : (a : ℕ) (b : Body) → message.Answer a b ≡ lease_told x l → a ≡ x
    xid_is a b e = cc

    body_is : (a : ℕ) (b : Body) → message.Answer a b ≡ lease_told x l → b ≡ body.Lb (lb.GetLeaseAnswer (Done l))
    body_is a b e = cc

    by : (told_message h.told ≡ lease_told x l) × ((happens k (Hears n now bytes)).up ≡ (got_step h.seat.client (Ok (lease_told x l)) now).1.send) × HeardLease k h.seat now x l p o → LeasedAt (book_at opening (happens k (Hears n now bytes)).core all) o (moment k (Hears n now bytes)) x l.version
    by (same, up, w) =
        let xid = xid_is h.told.xid (reply_body h.told.reply) same in
        let job_is : job x_is.seat ≡ Some w.of = ap job (some_is x_is.seat h.seat (sym x_is.owner ∙ h.owner)) ∙ w.job_is in
        let answer = (subst (AllTolds (IsAnswer (book_at opening k all) h.session.taken h.session.closing (job x_is.seat))) h.first (x_is.talk h.uncut).answers).0 in
        let answer = subst (λ z. AnswerOf (book_at opening k all) h.session.taken h.session.closing z h.told.xid h.told.reply) job_is answer in
        let answer = subst (λ z. AnswerOf (book_at opening k all) h.session.taken h.session.closing (Some w.of) z h.told.reply) xid answer in
        let old = leased_by (book_at opening k all) k h.session.taken h.session.closing w.of (moment k (Hears n now bytes)) w.old x l h.told.reply refl (omega arith) (ap (slice_get k.ops) w.place ∙ w.was) w.file w.asking (body_is h.told.xid (reply_body h.told.reply) same) answer in
        subst (λ z. LeasedAt (book_at opening (happens k (Hears n now bytes)).core all) z (moment k (Hears n now bytes)) x l.version) (sym w.is)
        (leased_after (book_at opening k all) (book_at opening (happens k (Hears n now bytes)).core all) w.old (got_step h.seat.client (Ok (lease_told x l)) now).0 (session_taken (session_of k.sessions h.seat.session)) k.steps (got_step h.seat.client (Ok (lease_told x l)) now).1 (moment k (Hears n now bytes)) x l.version w.finds (same_version k (Hears n now bytes)) (λ z c. c) (λ f q lt. counted_so (book_at opening k all) (book_at opening (happens k (Hears n now bytes)).core all) f q refl (versions_all k (Hears n now bytes) (happens k (Hears n now bytes)).core.ops grown f q lt)) (omega arith) old)

-- and its operation has its file
shut_hears : FitLaws → (all past rest : List Moment) (opening : List Opening) (k : Core) (qs : List Queue) (n now : ℕ) (bytes : List ℕ) (mid after : List Queue) → Step all past rest opening k qs (Hears n now bytes) mid after → FindsTold qs n bytes mid
    → (p : ℕ) (o : Op) → slice_get (happens k (Hears n now bytes)).core.ops p ≡ Some o → HasFile (moment k (Hears n now bytes)) o
shut_hears fits all past rest opening k qs n now bytes mid after s told p o at x l mine there zero = by (heard_lease fits all opening k qs after n now bytes mid s.kept h s.left p o at x l mine there)
  where
    h : Heard k qs n now bytes mid
    h = heard_at (book_at opening k all) k qs n now bytes mid s.kept told

    x_is : IsSession (book_at opening k all) k.seats k.server n h.session h.queue
    x_is = s.kept.sessions n h.session h.queue h.at h.queue_is (has_owner k.seats h.session h.seat h.owner)

    xid_is : (a : ℕ) (b : Body) → message.Answer a b ≡ lease_told x l → a ≡ x
    xid_is a b e = cc

    body_is : (a : ℕ) (b : Body) → message.Answer a b ≡ lease_told x l → b ≡ body.Lb (lb.GetLeaseAnswer (Done l))
    body_is a b e = cc

    by : (told_message h.told ≡ lease_told x l) × ((happens k (Hears n now bytes)).up ≡ (got_step h.seat.client (Ok (lease_told x l)) now).1.send) × HeardLease k h.seat now x l p o → ⊥
    by (same, up, w) =
        let xid = xid_is h.told.xid (reply_body h.told.reply) same in
        let job_is : job x_is.seat ≡ Some w.of = ap job (some_is x_is.seat h.seat (sym x_is.owner ∙ h.owner)) ∙ w.job_is in
        let answer = (subst (AllTolds (IsAnswer (book_at opening k all) h.session.taken h.session.closing (job x_is.seat))) h.first (x_is.talk h.uncut).answers).0 in
        let answer = subst (λ z. AnswerOf (book_at opening k all) h.session.taken h.session.closing z h.told.xid h.told.reply) job_is answer in
        let answer = subst (λ z. AnswerOf (book_at opening k all) h.session.taken h.session.closing (Some w.of) z h.told.reply) xid answer in
        let known = known_by (book_at opening k all) h.session.taken h.session.closing w.of x l h.told.reply w.asking (body_is h.told.xid (reply_body h.told.reply) same) answer in
        let file : w.of.file ≡ 0 = sym w.file ∙ sym (ap (λ (z : Op). z.file) w.is ∙ file_stays w.old (got_step h.seat.client (Ok (lease_told x l)) now).0 (session_taken (session_of k.sessions h.seat.session)) (k.steps + 1) (got_step h.seat.client (Ok (lease_told x l)) now).1 w.finds) ∙ zero in
        (let lt = known.positive in omega (arith, lt, file))

-- ---- any event

pub none_leased : (book : Book) (m : Moment) (o : Op) → taken_by m.before (client_of m.before m.event) m.event ≡ [] → TellsLease book m o
none_leased book m o none x l mine there = (let lt = (subst (λ (ms : List Message). Contains ms (lease_told x l)) none there).1 in absurd (omega (arith, lt)))

pub leased_now : FitLaws → (all past rest : List Moment) (opening : List Opening) (k : Core) (qs : List Queue) (e : Event) (mid after : List Queue) → Step all past rest opening k qs e mid after → OpsAfter e k (happens k e).core.ops → (p : ℕ) (o : Op) → slice_get (happens k e).core.ops p ≡ Some o → TellsLease (book_at opening (happens k e).core all) (moment k e) o
leased_now fits all past rest opening k qs (Hears n now bytes) mid after s grown p o at = elim s.finds [
  | inl told ↦ leased_hears fits all past rest opening k qs n now bytes mid after s told grown p o at
  | inr recall ↦ none_leased (book_at opening (happens k (Hears n now bytes)).core all) (moment k (Hears n now bytes)) o (recall_untaken fits (book_at opening k all) k qs n now bytes mid s.kept recall)
]
leased_now fits all past rest opening k qs e mid after s grown p o at = none_leased (book_at opening (happens k e).core all) (moment k e) o refl

pub none_shut : (m : Moment) (o : Op) → taken_by m.before (client_of m.before m.event) m.event ≡ [] → HasFile m o
none_shut m o none x l mine there zero = (let lt = (subst (λ (ms : List Message). Contains ms (lease_told x l)) none there).1 in absurd (omega (arith, lt)))

pub shut_now : FitLaws → (all past rest : List Moment) (opening : List Opening) (k : Core) (qs : List Queue) (e : Event) (mid after : List Queue) → Step all past rest opening k qs e mid after → (p : ℕ) (o : Op) → slice_get (happens k e).core.ops p ≡ Some o → HasFile (moment k e) o
shut_now fits all past rest opening k qs (Hears n now bytes) mid after s p o at = elim s.finds [
  | inl told ↦ shut_hears fits all past rest opening k qs n now bytes mid after s told p o at
  | inr recall ↦ none_shut (moment k (Hears n now bytes)) o (recall_untaken fits (book_at opening k all) k qs n now bytes mid s.kept recall)
]
shut_now fits all past rest opening k qs e mid after s p o at = none_shut (moment k e) o refl

pub shut_stays : (book : Book) (k : Core) (qs : List Queue) (e : Event) (ops : List Op) (m : Moment) → IsKept book k qs → step_of m ≤ k.steps → OpsAfter e k ops → ((p : ℕ) (o : Op) → slice_get k.ops p ≡ Some o → HasFile m o) → (p : ℕ) (o : Op) → slice_get ops p ≡ Some o → HasFile m o
shut_stays book k qs e ops m kept le (inl same) h p o at = h p o (ap (λ (l : List Op). slice_get l p) (sym same) ∙ at)
shut_stays book k qs e ops m kept le (inr (inl n)) h p o at = elim (of_appended k.ops n.new p o (ap (λ (l : List Op). slice_get l p) (sym n.is) ∙ at)) [
  | inl last ↦ subst (HasFile m) (sym last.1) (λ x l mine c zero. (let lt = n.late in absurd (true_and_false (is_in n.new (step_of m) (client_of m.before m.event)) mine (early n.new (step_of m) (client_of m.before m.event) (omega (arith, lt, le))))))
  | inr old ↦ h p o old
]
shut_stays book k qs e ops m kept le (inr (inr (inl a))) h p o at = elim (ops_shape k.ops a.seat.place a.after (session_taken (session_of k.sessions a.seat.session)) (k.steps + 1) a.acts p o (ap (λ (l : List Op). slice_get l p) (sym a.is) ∙ at)) [
  | inr old ↦ h p o old.1
  | inl mine ↦ subst (HasFile m) (sym mine.3) (λ x l in_it c zero.
      let running = ((acts_alone book k qs a.index a.seat kept a.here).own p mine.0 mine.1 mine.2).1 in
      let was = sym (running_past mine.0 a.after (session_taken (session_of k.sessions a.seat.session)) k.steps a.acts running (step_of m) (client_of m.before m.event) le) ∙ in_it in
      elim (a.apart p mine.0 mine.1 mine.2) [
        | inl none ↦ h p mine.0 mine.2 x l was c (sym (file_stays mine.0 a.after (session_taken (session_of k.sessions a.seat.session)) (k.steps + 1) a.acts none) ∙ zero)
        | inr shut ↦ h p mine.0 mine.2 x l was c shut
      ])
]
shut_stays book k qs e ops m kept le (inr (inr (inr (inl same)))) h p o at = h p o (ap (λ (l : List Op). slice_get l p) (sym same) ∙ at)
shut_stays book k qs e ops m kept le (inr (inr (inr (inr s)))) h p o at = elim (of_replaced k.ops s.place (record s.op { file = s.file; point = Some (k.steps + 1) }) p o (ap (λ (l : List Op). slice_get l p) (sym s.is) ∙ at)) [
  | inr old ↦ h p o old.1
  | inl made ↦ subst (HasFile m) (sym made.1) (elim s.kind [
    | inl close ↦ λ x l mine c zero. h s.place s.op s.there x l mine c (sym close.1 ∙ zero)
    | inr make ↦ λ x l mine c zero. h s.place s.op s.there x l mine c make.1
  ])
]

-- what is past stays
pub leased_stays : (book more : Book) (k : Core) (qs : List Queue) (e : Event) (m : Moment) → IsKept book k qs → step_of m ≤ k.steps → OpsAfter e k more.ops → more.opening ≡ book.opening → more.raws ≡ (happens k e).core.raws → more.lbfs ≡ book.lbfs → ((z : Moment) → Contains book.moments z → Contains more.moments z) → ((p : ℕ) (o : Op) → slice_get k.ops p ≡ Some o → TellsLease book m o) → ((p : ℕ) (o : Op) → slice_get k.ops p ≡ Some o → HasFile m o) → (p : ℕ) (o : Op) → slice_get more.ops p ≡ Some o → TellsLease more m o
leased_stays book more k qs e m kept le grown opening raws speak there h shut p o at = by grown
  where
    versions : (f q : ℕ) → q ≤ k.steps → version_at more f q ≡ version_at book f q
    versions f q lt = counted_so book more f q opening (
        ap (λ (z : List Raw). version_in (more.ops ++ map op_of z) f q) raws
        ∙ versions_all k e more.ops grown f q lt
        ∙ sym (ap (λ (z : List Op). version_in (z ++ map op_of book.raws) f q) kept.ops ∙ ap (λ (z : List Raw). version_in (k.ops ++ map op_of z) f q) kept.raws)
        )

    still : (o : Op) → TellsLease book m o → TellsLease more m o
    still o h x l mine c = leased_as book more o o m x l.version k.steps speak there refl refl refl versions (omega (arith, le)) (h x l mine c)

    by : OpsAfter e k more.ops → TellsLease more m o
    by (inl same) = still o (h p o (ap (λ (l : List Op). slice_get l p) (sym same) ∙ at))
    by (inr (inl n)) = elim (of_appended k.ops n.new p o (ap (λ (l : List Op). slice_get l p) (sym n.is) ∙ at)) [
      | inl last ↦ subst (TellsLease more m) (sym last.1) (λ x l mine c. (let lt = n.late in absurd (true_and_false (is_in n.new (step_of m) (client_of m.before m.event)) mine (early n.new (step_of m) (client_of m.before m.event) (omega (arith, lt, le))))))
      | inr old ↦ still o (h p o old)
    ]
    by (inr (inr (inl a))) = elim (ops_shape k.ops a.seat.place a.after (session_taken (session_of k.sessions a.seat.session)) (k.steps + 1) a.acts p o (ap (λ (l : List Op). slice_get l p) (sym a.is) ∙ at)) [
      | inr old ↦ still o (h p o old.1)
      | inl mine ↦ subst (TellsLease more m) (sym mine.3) (λ x l in_it c.
          let running = ((acts_alone book k qs a.index a.seat kept a.here).own p mine.0 mine.1 mine.2).1 in
          let was = sym (running_past mine.0 a.after (session_taken (session_of k.sessions a.seat.session)) k.steps a.acts running (step_of m) (client_of m.before m.event) le) ∙ in_it in
          elim (a.apart p mine.0 mine.1 mine.2) [
            | inl none ↦ leased_after book more mine.0 a.after (session_taken (session_of k.sessions a.seat.session)) k.steps a.acts m x l.version none speak there versions (omega (arith, le)) (h p mine.0 mine.2 x l was c)
            | inr none ↦ absurd (shut p mine.0 mine.2 x l was c none)
          ])
    ]
    by (inr (inr (inr (inl same)))) = still o (h p o (ap (λ (l : List Op). slice_get l p) (sym same) ∙ at))
    by (inr (inr (inr (inr s)))) = elim (of_replaced k.ops s.place (record s.op { file = s.file; point = Some (k.steps + 1) }) p o (ap (λ (l : List Op). slice_get l p) (sym s.is) ∙ at)) [
      | inr old ↦ still o (h p o old.1)
      | inl made ↦ subst (TellsLease more m) (sym made.1) (elim s.kind [
        | inl close ↦ λ x l mine c. leased_as book more s.op (record s.op { file = s.file; point = Some (k.steps + 1) }) m x l.version k.steps speak there refl close.1 refl versions (omega (arith, le)) (h s.place s.op s.there x l mine c)
        | inr make ↦ λ x l mine c. absurd (shut s.place s.op s.there x l mine c make.1)
      ])
    ]

-- A run carries that each COMMITTMP on its way, and each change that waits, is of a close that sent it; and what closes stored by that.
use Rattle.std.proofs.Common.{◌⊎◌, inl, inr, ◌≡◌, ℕ, ◌+◌, ◌<◌, List, [], ◌∷◌, ◌++◌, length, Option, Some, None, Bool, true, false, refl, sym, ap, ◌∙◌, subst, arith}
use Rattle.hash_calls.specs.declared.message.Lb.TheVariants as lb
use Rattle.nfs3_calls.specs.declared.message.Nfs.TheVariants as nfs
use Rattle.wire.specs.declared.message.Body.TheVariants as body
use Rattle.wire.specs.declared.message.Message.TheVariants as message
use Rattle.path_calls.specs.declared.walk.Walk.{Walk}
use Rattle.path_calls.specs.declared.walk.Goal.{Goal}
use Rattle.path_calls.specs.declared.walk.Goal.TheVariants as goal
use Rattle.tree_calls.specs.declared.asked.Asked.{Asked}
use Rattle.tree_calls.specs.declared.asked.Asked.TheVariants as asked
use Rattle.server_core.specs.declared.change.Wanted.TheVariants as wanted
use Rattle.client_state.specs.State as client
use Rattle.client_state.specs.declared.task.Stage.TheVariants as stage
use Rattle.register_model.specs.declared.op.Outcome.{Outcome as History}
use Rattle.register_model.specs.declared.op.Word.TheVariants as words
use Rattle.trace_ends.specs.Session.{taken_of as session_taken}
use Rattle.trace_replay.specs.Trail.{taken_of}
use Rattle.trace_replay.specs.Traffic.{traffic_of, commit_number, commits_in as commits_said, IsFetchCall, IsVersionCall}
use Rattle.kept_promise.proofs.Common.{changes, slice_get, FileChange, cut, ClientStep, Ended, Outcome, Op, Opening, Word, TakenCall, has_point, point_if, op_after, Core, Seat, Session, Event, numbered, session_of, ops_with, happens, Moment, sent_in, sent_of, SentCommit, Book, Message, Call, Call.Commit, Ask, Queue, Contains-append_left, Said, Deal, Deal.Took, Deal.Found, Deal.Sent, deals_of, stored_traffic, cond, Call.Walks, Wanted}
use Rattle.kept_promise.proofs.Lists.{some_is, nothing_there, within, of_replaced, of_appended, true_and_false}
use Rattle.kept_promise.proofs.Keys.{own}
use Rattle.kept_promise.proofs.Messages.{job, AllAsks, IsCommit, CommitOf, IsPending, Job, IsCreating, goal_word, IsGoing, WaitsFor, asked_word}
use Rattle.kept_promise.proofs.Fits.{FitLaws}
use Rattle.kept_promise.proofs.Turns.{also_numbered, owned_closing}
use Rattle.kept_promise.proofs.Facts.{IsKept, IsSession, commits_in}
use Rattle.kept_promise.proofs.RunsCarried.{book_at, moment, Step, Carried}
use Rattle.kept_promise.proofs.Counted.{AlikeUpTo, SaidBy, said_by, running_past}
use Rattle.kept_promise.proofs.CountedRuns.{CountedAt, carried_counts, sent_more}
use Rattle.kept_promise.proofs.Actors.{acts_alone}
use Rattle.kept_promise.proofs.OpsAfter.{OpsAfter, ops_after_event, stays_in}
use Rattle.kept_promise.proofs.Promised.{HaveStored}
use Rattle.kept_promise.proofs.LeftCommits.{commits_left}
use Rattle.kept_promise.proofs.LogEvents.{LogsAt, carried_logs}
use Rattle.kept_promise.proofs.LogSums.{commit_log, log_commit}
use Rattle.kept_promise.proofs.ClosesLog.{ClosesBy, CloseNamed, closes_laws, stores_all}
use Rattle.kept_promise.proofs.OwnLog.{AreNear, OpOwn, close_asks}
use Rattle.kept_promise.proofs.NamesLog.{one_none, names_count}
use Rattle.kept_promise.proofs.Rights.{open_not_close, gets_file}
use Rattle.kept_promise.proofs.JobFacts.{ops_shape}
use Rattle.kept_promise.proofs.PathNames.{is_creating}
use Rattle.kept_promise.proofs.EventCases.{Remembers}

-- ---- a COMMITTMP stays sent

commit_more : (o : Op) (sent more : List Said) → SentCommit o sent → SentCommit o (sent ++ more)
commit_more o sent more (s, there, of, is) = (s, Contains-append_left sent more s there, of, is)

commit_kept : (n : ℕ) (o r : Op) (sent : List Said) → AlikeUpTo n o r → SaidBy n sent → SentCommit o sent → SentCommit r sent
commit_kept n o r sent same by (s, there, of, is) = (s, there, same s.step s.client (said_by n sent s by there) ∙ of, is)

-- ---- what is on its way

goal_not_close : (g : Goal) → goal_word g ≡ words.Close → ⊥
goal_not_close (goal.Find n) e = absurd cc
goal_not_close _ e = absurd cc

asked_not_close : (a : Asked) → asked_word a ≡ words.Close → ⊥
asked_not_close (asked.Remove r) e = absurd cc
asked_not_close (asked.Rename r) e = absurd cc

-- the close that a session with a COMMITTMP on its way, or with a pending change, remembers
abbrev pub Waits : (past : List Moment) → Core → List Queue → (cut : Bool) → Type 0
Waits past k qs cut = (n p : ℕ) (x : Session) (q : Queue) (o : Op) → numbered k.sessions n ≡ Some x → numbered qs n ≡ Some q → x.cut ≡ cut → x.closing ≡ Some p → 0 < commits_in q.ups + length (own n k.server.waiting) → slice_get k.ops p ≡ Some o → o.word ≡ words.Close → SentCommit o (sent_of past)

-- what is on its way, or waits, is known: a COMMITTMP, a call that may change a file, or a remove or a rename
abbrev OnWay : (book : Book) → Option ℕ → (cut : Bool) → Option Job → Type 0
OnWay book closing cut job = ((xid file : ℕ) × (v : List ℕ) × IsPending book closing cut job xid file v) ⊎ (((xid : ℕ) × (w : Walk) × IsCreating book closing cut job xid w) ⊎ ((xid : ℕ) × (a : Asked) × (session : ℕ) × IsGoing book session closing cut job xid a))

on_its_way : (book : Book) (seats : List Seat) (k : Core) (n : ℕ) (x : Session) (q : Queue) → (h : IsSession book seats k.server n x q) → 0 < commits_in q.ups + length (own n k.server.waiting) → OnWay book x.closing x.cut (job h.seat)
on_its_way book seats k n x q h lt = by (own n k.server.waiting) refl
  where
    asked : (us : List Ask) → AllAsks (IsCommit book x.closing x.cut (job h.seat) h.contents) us → 0 < commits_in us → OnWay book x.closing x.cut (job h.seat)
    asked [] all lt = absurd (omega (arith, lt))
    asked (a ∷ us) all lt = one a.call all.0 lt (asked us all.1)
      where
        one : (c : Call) → CommitOf book x.closing x.cut (job h.seat) h.contents a.xid c → 0 < commits_in (record a { call = c } ∷ us) → (0 < commits_in us → OnWay book x.closing x.cut (job h.seat)) → OnWay book x.closing x.cut (job h.seat)
        one (Commit temp file size) all lt later = inl (a.xid, file, h.contents temp, all.0)
        one (Walks w) all lt later = creates (is_creating w) refl lt
          where
            creates : (b : Bool) → is_creating w ≡ b → 0 < cond b 1 0 + commits_in us → OnWay book x.closing x.cut (job h.seat)
            creates true some lt = inr (inl (a.xid, w, all some))
            creates false none lt = later (omega (arith, lt))
        one _ all lt later = later (omega (arith, lt))

    by : (cs : List FileChange) → own n k.server.waiting ≡ cs → OnWay book x.closing x.cut (job h.seat)
    by (c ∷ cs) e = waiting c.what (h.pending 0 c (ap (λ (l : List FileChange). slice_get l 0) e))
      where
        waiting : (w : Wanted) → WaitsFor book c.session x.closing x.cut (job h.seat) c.xid c.file w → OnWay book x.closing x.cut (job h.seat)
        waiting (wanted.Content content) p = inl (c.xid, c.file, content, p)
        waiting (wanted.Asked a) p = inr (inr (c.xid, a, c.session, p))
    by [] e = asked q.ups h.commits (let z = ap length e in omega (arith, lt, z))

-- as long as the owner is there, its job tells that it has sent its COMMITTMP
waits_here : (book : Book) (past : List Moment) (k : Core) (qs : List Queue) → IsKept book k qs → LogsAt ClosesBy CloseNamed past k → Waits past k qs false
waits_here book past k qs kept closes = λ n p x q o at is uncut known lt there close.
    let h = kept.sessions n x q at is (owned_closing kept n x p at known) in
    elim (on_its_way book k.seats k n x q h lt) [
      | inl w ↦
          let pending = w.3 in
          let place : pending.place ≡ p = some_is pending.place p (sym pending.known ∙ known) in
          let one = (closes.jobs x.owner h.seat (record { place = pending.place; file = w.1; stage = stage.Committing w.0 }) o h.owner (pending.waited uncut) (ap (slice_get k.ops) place ∙ there)).commits in
          log_commit o past (omega (arith, one))
      | inr else ↦ elim else [
        | inl w ↦
            let c = w.2 in
            let place : c.place ≡ p = some_is c.place p (sym c.known ∙ known) in
            let same : c.op ≡ o = some_is c.op o (sym c.there ∙ ap (slice_get book.ops) place ∙ ap (λ (l : List Op). slice_get l p) kept.ops ∙ there) in
            absurd (goal_not_close w.1.goal (sym c.word_is ∙ ap (λ (z : Op). z.word) same ∙ close))
        | inr w ↦
            let c = w.3 in
            let place : c.place ≡ p = some_is c.place p (sym c.known ∙ known) in
            let same : c.op ≡ o = some_is c.op o (sym c.there ∙ ap (slice_get book.ops) place ∙ ap (λ (l : List Op). slice_get l p) kept.ops ∙ there) in
            absurd (asked_not_close w.1 (sym c.word_is ∙ ap (λ (z : Op). z.word) same ∙ close))
      ]
    ]

-- ---- what was made

-- each close that has its point had sent its COMMITTMP
abbrev pub MadeAt : (past : List Moment) → Core → Type 0
MadeAt past k = (p q : ℕ) (o : Op) → slice_get k.ops p ≡ Some o → o.word ≡ words.Close → o.point ≡ Some q → SentCommit o (sent_of past)

-- what an operation was before an event that gave a close its point, or none
abbrev Came : Core → (p : ℕ) → Op → Type 0
Came k p r = ((o : Op) × (slice_get k.ops p ≡ Some o) × AlikeUpTo k.steps o r × (o.word ≡ r.word) × (r.word ≡ words.Close → r.point ≡ o.point)) ⊎ (((p ≡ length k.ops) × ((r.point ≡ None) ⊎ (changes r.word ≡ false))) ⊎ ((o : Op) × (slice_get k.ops p ≡ Some o) × AlikeUpTo k.steps o r × (o.word ≡ words.Close) × Remembers k p))

abbrev AllCame : Core → List Op → Type 0
AllCame k ops = (p : ℕ) (r : Op) → slice_get ops p ≡ Some r → Came k p r

came_same : (k : Core) → AllCame k k.ops
came_same k = λ p r at. inl (r, at, λ step i le. refl, refl, λ w. refl)

-- an end gives no close its point
close_point : (o : Op) (c : client.State) (taken : List TakenCall) (step : ℕ) (acts : ClientStep) → (op_after o c taken step acts).word ≡ words.Close → (op_after o c taken step acts).point ≡ o.point
close_point o c taken step acts = by acts.ended
  where
    word : (w : Word) (u : Outcome) (x : ℕ) → w ≡ words.Close → point_if (has_point w u) taken x step o.point ≡ o.point
    word words.Open u x e = absurd (open_not_close e)
    word _ u x e = refl

    by : (e : Option Ended) → (op_after o c taken step (record acts { ended = e })).word ≡ words.Close → (op_after o c taken step (record acts { ended = e })).point ≡ o.point
    by None w = refl
    by (Some e) w = word o.word e.outcome e.rests_on w

same_word : (o : Op) (c : client.State) (taken : List TakenCall) (step : ℕ) (acts : ClientStep) → o.word ≡ (op_after o c taken step acts).word
same_word o c taken step acts = by acts.ended
  where
    by : (e : Option Ended) → o.word ≡ (op_after o c taken step (record acts { ended = e })).word
    by None = refl
    by (Some e) = refl

came_acts : (book : Book) (k : Core) (qs : List Queue) (i : ℕ) (seat : Seat) (c : client.State) (taken : List TakenCall) (acts : ClientStep) → IsKept book k qs → numbered k.seats i ≡ Some seat → AllCame k (ops_with k.ops seat.place c taken (k.steps + 1) acts)
came_acts book k qs i seat c taken acts kept here = λ p r at. elim (ops_shape k.ops seat.place c taken (k.steps + 1) acts p r at) [
  | inr old ↦ came_same k p r old.1
  | inl new ↦
      let running = (acts_alone book k qs i seat kept here).own p new.0 new.1 new.2 in
      subst (Came k p) (sym new.3) (inl (new.0, new.2, running_past new.0 c taken k.steps acts running.1, same_word new.0 c taken (k.steps + 1) acts, close_point new.0 c taken (k.steps + 1) acts))
]

came_event : FitLaws → (all past rest : List Moment) (opening : List Opening) (k : Core) (qs : List Queue) (e : Event) (mid after : List Queue) → Step all past rest opening k qs e mid after → AllCame k (happens k e).core.ops
came_event laws all past rest opening k qs e mid after s = by (ops_after_event laws all past rest opening k qs e mid after s).0
  where
    by : OpsAfter e k (happens k e).core.ops → AllCame k (happens k e).core.ops
    by (inl same) = subst (AllCame k) (sym same) (came_same k)
    by (inr (inl n)) = subst (AllCame k) (sym n.is) (λ p r at. elim (of_appended k.ops n.new p r at) [
      | inl new ↦ inr (inl (new.0, subst (λ (z : Op). (z.point ≡ None) ⊎ (changes z.word ≡ false)) (sym new.1) n.quiet))
      | inr old ↦ came_same k p r old
    ])
    by (inr (inr (inl a))) = subst (AllCame k) (sym a.is) (came_acts (book_at opening k all) k qs a.index a.seat a.after (session_taken (session_of k.sessions a.seat.session)) a.acts s.kept a.here)
    by (inr (inr (inr (inl same)))) = subst (AllCame k) (sym same) (came_same k)
    by (inr (inr (inr (inr new)))) = subst (AllCame k) (sym new.is) (λ p r at. elim (of_replaced k.ops new.place (record new.op { file = new.file; point = Some (k.steps + 1) }) p r at) [
      | inr other ↦ came_same k p r other.1
      | inl made ↦ subst (Came k p) (sym made.1) (elim new.kind [
        | inl close ↦ inr (inr (new.op, ap (slice_get k.ops) made.0 ∙ new.there, λ step i le. refl, close.0, subst (Remembers k) (sym made.0) close.2))
        | inr make ↦ inl (new.op, ap (slice_get k.ops) made.0 ∙ new.there, λ step i le. refl, refl, λ close. absurd (true_and_false (gets_file new.op.word) make.0 (ap gets_file close)))
      ])
    ])

-- what closes now did before
word_before : (k : Core) (p : ℕ) (r : Op) → Came k p r → (o : Op) → slice_get k.ops p ≡ Some o → r.word ≡ words.Close → o.word ≡ words.Close
word_before k p r (inl was) o there close = ap (λ (z : Op). z.word) (some_is o was.0 (sym there ∙ was.1)) ∙ was.3 ∙ close
word_before k p r (inr (inl new)) o there close = let at = new.0 in let lt = within k.ops p o there in absurd (omega (arith, at, lt))
word_before k p r (inr (inr was)) o there close = ap (λ (z : Op). z.word) (some_is o was.0 (sym there ∙ was.1)) ∙ was.3

-- ---- what a run carries

pub record Stored (all past : List Moment) (opening : List Opening) (k : Core) (qs : List Queue) : Type 0 where
  pub counted : CountedAt past k
  pub closes : LogsAt ClosesBy CloseNamed past k
  pub waits : Waits past k qs true
  pub made : MadeAt past k

waits_before : (book : Book) (past : List Moment) (k : Core) (qs : List Queue) → IsKept book k qs → LogsAt ClosesBy CloseNamed past k → Waits past k qs true → (b : Bool) → Waits past k qs b
waits_before book past k qs kept closes waits true = waits
waits_before book past k qs kept closes waits false = waits_here book past k qs kept closes

waits_event : FitLaws → (all past rest : List Moment) (opening : List Opening) (k : Core) (qs : List Queue) (e : Event) (mid after : List Queue) → Step all past rest opening k qs e mid after → Stored all past opening k qs → Waits (past ++ moment k e ∷ []) (happens k e).core after true
waits_event laws all past rest opening k qs e mid after s h = λ n p y r o at is is_cut known lt there close.
    let w = commits_left laws all past rest opening k qs e mid after s n y r at is (owned_closing s.left n y p at known, is_cut) in
    let x : Session = w.0 in
    let q : Queue = w.1 in
    let le = w.5 in
    let old = (s.kept.sessions n x q w.2 w.3 (owned_closing s.kept n x p w.2 (sym w.4 ∙ known))).old p (sym w.4 ∙ known) in
    let sent = waits_before (book_at opening k all) past k qs s.kept h.closes h.waits x.cut n p x q old.0 w.2 w.3 refl (sym w.4 ∙ known) (omega (arith, le, lt)) old.1 (word_before k p o (came_event laws all past rest opening k qs e mid after s p o there) old.0 old.1 close) in
    let follows = stays_in (book_at opening k all) k qs e (happens k e).core.ops s.kept (ops_after_event laws all past rest opening k qs e mid after s).0 p old.0 old.1 in
    let same : follows.0 ≡ o = some_is follows.0 o (sym follows.1 ∙ there) in
    subst (λ l. SentCommit o l) (sent_more past (moment k e)) (commit_more o (sent_of past) (sent_in (moment k e)) (subst (λ (z : Op). SentCommit z (sent_of past)) same (commit_kept k.steps old.0 follows.0 (sent_of past) follows.2 h.counted.sent_by sent)))

made_event : FitLaws → (all past rest : List Moment) (opening : List Opening) (k : Core) (qs : List Queue) (e : Event) (mid after : List Queue) → Step all past rest opening k qs e mid after → Stored all past opening k qs → MadeAt (past ++ moment k e ∷ []) (happens k e).core
made_event laws all past rest opening k qs e mid after s h = λ p q r at close point.
    subst (λ l. SentCommit r l) (sent_more past (moment k e)) (commit_more r (sent_of past) (sent_in (moment k e)) (elim (came_event laws all past rest opening k qs e mid after s p r at) [
      | inl was ↦ commit_kept k.steps was.0 r (sent_of past) was.2 h.counted.sent_by (h.made p q was.0 was.1 (was.3 ∙ close) (sym (was.4 close) ∙ point))
      | inr rest ↦ elim rest [
        | inl none ↦ elim none.1 [ inl bare ↦ nothing_there q (sym bare ∙ point) | inr quiet ↦ absurd (true_not (sym (ap changes close) ∙ quiet)) ]
        | inr (o, there, alike, closes, from) ↦
            let w = also_numbered k.sessions qs from.0 from.2 s.kept.made.1 from.4 in
            let lt = within (own from.0 k.server.waiting) from.1 from.3 from.6 in
            commit_kept k.steps o r (sent_of past) alike h.counted.sent_by (waits_before (book_at opening k all) past k qs s.kept h.closes h.waits from.2.cut from.0 p from.2 w.0 o from.4 w.1 refl from.5 (omega (arith, lt)) there closes)
      ]
    ]))
  where
    true_not : true ≡ false → ⊥
    true_not e = cc

closes_carried : FitLaws → Carried (λ all past opening k qs. LogsAt ClosesBy CloseNamed past k)
closes_carried laws = carried_logs (λ all. ClosesBy) (λ all. CloseNamed) closes_laws laws

pub carried_stored : FitLaws → Carried Stored
carried_stored laws = record {
  first = λ all opening tree count kept. record {
    counted = (carried_counts laws).first all opening tree count kept;
    closes = (closes_carried laws).first all opening tree count kept;
    waits = λ n p x q o at is is_cut known lt there close. nothing_there o there;
    made = λ p q o at close point. nothing_there o at;
  };
  steps = λ all past rest opening k qs e mid after s h. record {
    counted = (carried_counts laws).steps all past rest opening k qs e mid after s h.counted;
    closes = (closes_carried laws).steps all past rest opening k qs e mid after s h.closes;
    waits = waits_event laws all past rest opening k qs e mid after s h;
    made = made_event laws all past rest opening k qs e mid after s h;
  };
  adjusts = λ all past opening k qs index seats same h. record {
    counted = (carried_counts laws).adjusts all past opening k qs index seats same h.counted;
    closes = (closes_carried laws).adjusts all past opening k qs index seats same h.closes;
    waits = h.waits;
    made = h.made;
  };
}

-- ---- what it makes of the promise

-- a close that has a point sent its COMMITTMP
pub made_sent : (book : Book) (all : List Moment) (opening : List Opening) (k : Core) (qs : List Queue) → IsKept book k qs → Stored all book.moments opening k qs → (i p : ℕ) (o : Op) → slice_get book.ops i ≡ Some o → o.word ≡ words.Close → o.point ≡ Some p → SentCommit o (sent_of book.moments)
made_sent book all opening k qs kept h = λ i p o at close point. h.made i p o (ap (λ (l : List Op). slice_get l i) (sym kept.ops) ∙ at) close point

-- one that sent its COMMITTMP is a close
open_commits : (file : ℕ) (v : List ℕ) (log : List Deal) → AreNear words.Open file v log → commits_said log ≡ 0
open_commits file v [] h = refl
open_commits file v (Took m ∷ log) h = let l = open_commits file v log h.1 in omega (arith, l)
open_commits file v (Found z ∷ log) h = let l = open_commits file v log h.1 in omega (arith, l)
open_commits file v (Sent m ∷ log) h = let l = open_commits file v log h.1 in elim h.0 [
  | inl own ↦ let e = by m own in omega (arith, l, e)
  | inr name ↦ let e = (one_none (Sent m) name).commits in omega (arith, l, e)
]
  where
    by : (m : Message) → IsFetchCall file m → commit_number (Sent m) ≡ 0
    by (message.Call xid (body.Lb (lb.GetLease z))) own = refl
    by (message.Call xid (body.Lb (lb.GetHash z))) own = refl
    by (message.Call xid (body.Nfs (nfs.Read z))) own = refl
    by m own = absurd own

renew_commits : (file : ℕ) (v : List ℕ) (log : List Deal) → AreNear words.Rewrite file v log → commits_said log ≡ 0
renew_commits file v [] h = refl
renew_commits file v (Took m ∷ log) h = let l = renew_commits file v log h.1 in omega (arith, l)
renew_commits file v (Found z ∷ log) h = let l = renew_commits file v log h.1 in omega (arith, l)
renew_commits file v (Sent m ∷ log) h = let l = renew_commits file v log h.1 in elim h.0 [
  | inl own ↦ let e = by m own in omega (arith, l, e)
  | inr name ↦ let e = (one_none (Sent m) name).commits in omega (arith, l, e)
]
  where
    by : (m : Message) → IsVersionCall file m → commit_number (Sent m) ≡ 0
    by (message.Call xid (body.Lb (lb.GetLease z))) own = refl
    by m own = absurd own

is_close : (w : Word) (file : ℕ) (v : List ℕ) (u : History) (log : List Deal) → OpOwn log w file v u → 0 < commits_said log → w ≡ words.Close
is_close words.Close file v u log own some = refl
is_close words.Open file v u log own some = let none = open_commits file v log own.0 in absurd (omega (arith, some, none))
is_close words.Rewrite file v u log own some = let none = renew_commits file v log own.0 in absurd (omega (arith, some, none))
is_close w file v u log own some = let none = (names_count log own.1).commits in absurd (omega (arith, some, none))

-- and so counted a CONDWRITE for each chunk of its value, and the bytes of those that the server didn't know
pub has_stored : (past : List Moment) (o : Op) → o.traffic ≡ traffic_of o (sent_of past) (taken_of past) → CloseNamed (deals_of o past) o.word o.file o.value o.outcome → OpOwn (deals_of o past) o.word o.file o.value o.outcome → SentCommit o (sent_of past) → o.traffic ≡ stored_traffic o.value (deals_of o past)
has_stored past o counted named own sent =
    let close = is_close o.word o.file o.value o.outcome (deals_of o past) own (commit_log o past sent) in
    stores_all past o close (close_asks o.file o.value (deals_of o past) (subst (λ w. AreNear w o.file o.value (deals_of o past)) close own.0)) named counted sent

pub have_stored : (book : Book) (all past : List Moment) (opening : List Opening) (k : Core) (qs : List Queue) → IsKept book k qs → Stored all past opening k qs → ((p : ℕ) (o : Op) → slice_get k.ops p ≡ Some o → OpOwn (deals_of o past) o.word o.file o.value o.outcome) → HaveStored past k
have_stored book all past opening k qs kept h calls = λ n p i x o c at known there waiting close.
    let q = also_numbered k.sessions qs n x kept.made.1 at in
    has_stored past o (h.counted.counts p o there) (h.closes.each p o there) (calls p o there)
    (waits_before book past k qs kept h.closes h.waits x.cut n p x q.0 o at q.1 refl known (let lt = within (own n k.server.waiting) i c waiting in omega (arith, lt)) there close)

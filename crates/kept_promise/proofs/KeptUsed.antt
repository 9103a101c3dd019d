-- An open that is told the version in which its client keeps a content ends by that content, and counts nothing; so does a rewrite that is told any.
use Rattle.std.proofs.Common.{◌⊎◌, inl, inr, ◌≡◌, ℕ, ◌+◌, ◌≤◌, List, [], ◌∷◌, ◌++◌, Option, Some, None, Ok, true, refl, sym, ap, ◌∙◌, subst, arith}
use Rattle.hash_calls.specs.declared.message.Lb.TheVariants as lb
use Rattle.wire.specs.declared.message.Body.TheVariants as body
use Rattle.wire.specs.declared.message.Message.TheVariants as message
use Rattle.client_cache.specs.Cache.{content_of}
use Rattle.file_open.specs.Caching.{content_in}
use Rattle.client_state.specs.Noting.{at as at_clock, noted_until}
use Rattle.client_state.specs.declared.step.Ended.{Ended}
use Rattle.client_state.specs.declared.step.Outcome.{Outcome}
use Rattle.client_state.specs.declared.step.Outcome.TheVariants as outcome
use Rattle.lease_rules.specs.Leases.{note_until}
use Rattle.client_state.specs.State as client
use Rattle.register_model.specs.declared.op.Word.TheVariants as words
use Rattle.trace_ends.specs.Session.{taken_of as session_taken}
use Rattle.trace_replay.specs.Saving.{lease_told, EndsBy, UsesKept, TellsLease, EndsAnew, FetchesNone}
use Rattle.hash_calls.specs.declared.call.Leased.{Leased}
use Rattle.client_state.specs.declared.task.Stage.TheVariants as stage
use Rattle.kept_promise.proofs.Common.{value_of, Contains, Contains-push_cases, no_counts, slice_get, option_map, unwrap_or, Done, Message, Pending, got_step, took, uses_kept, idle, hash_call, ClientStep, Local, Stage, Op, Word, Opening, TakenCall, op_after, counted, no_traffic, Core, Seat, Event, Event.Hears, numbered, session_of, happens, Moment, step_of, client_of, owner_in, taken_by, is_in, local_at_itself, deals_of, CountsOwn, Book, Queue, told_message}
use Rattle.kept_promise.proofs.SameVersion.{same_version}
use Rattle.kept_promise.proofs.Lists.{some_is, nothing_there, of_appended, of_replaced, true_and_false}
use Rattle.kept_promise.proofs.Messages.{stage_word}
use Rattle.kept_promise.proofs.Fits.{FitLaws}
use Rattle.kept_promise.proofs.Facts.{IsKept}
use Rattle.kept_promise.proofs.RunsCarried.{book_at, moment, Step}
use Rattle.kept_promise.proofs.Actors.{acts_alone, Heard, heard_at}
use Rattle.kept_promise.proofs.Replies.{recall_untaken}
use Rattle.kept_promise.proofs.Counted.{early, running_past}
use Rattle.kept_promise.proofs.JobFacts.{ops_shape}
use Rattle.kept_promise.proofs.Logs.{IsSilent}
use Rattle.kept_promise.proofs.LogSums.{IsSum, counts_log}
use Rattle.kept_promise.proofs.LogEvents.{LogsAt, file_stays}
use Rattle.kept_promise.proofs.CountedRuns.{CountedAt}
use Rattle.kept_promise.proofs.Leases.{AsksLease, HeardLease, HasFile, heard_lease, none_leased, none_shut, leased_now, leased_stays, shut_now, shut_stays}
use Rattle.kept_promise.proofs.OpsAfter.{OpsAfter, Becomes, ops_after_event}
use Rattle.kept_promise.proofs.OpensLog.{OpensBy, OpenRead, bare_counts}
use Rattle.kept_promise.proofs.OwnLog.{OwnBy, OpOwn, own_counts}
use Rattle.kept_promise.proofs.VersionRuns.{word_after}
use Rattle.kept_promise.proofs.AtOnceRuns.{AreAtOnce, at_once_event}

-- ---- what is carried

-- what an operation of this word comes to by the answer to its GETLEASE
abbrev pub EndsOf : Word → Moment → Op → Leased → Type 0
EndsOf words.Open m o l = (seat : Seat) → numbered m.before.seats (client_of m.before m.event) ≡ Some seat → EndsBy m.before.lbfs o (step_of m) (happens m.before m.event).up (content_in l.version (content_of seat.client.cache o.file))
EndsOf words.Rewrite m o l = EndsAnew o (step_of m) (happens m.before m.event).up
EndsOf w m o l = Unit {0}

abbrev pub Follows : Moment → Op → Type 0
Follows m o = (x : ℕ) (l : Leased) → is_in o (step_of m) (client_of m.before m.event) ≡ true → Contains (taken_by m.before (client_of m.before m.event) m.event) (lease_told x l) → EndsOf o.word m o l

pub follows_used : (m : Moment) (o : Op) → Follows m o → UsesKept m o
follows_used m o h x l seat word mine here there = subst (λ (w : Word). EndsOf w m o l) word (h x l mine there) seat here

pub follows_anew : (m : Moment) (o : Op) → Follows m o → FetchesNone m o
follows_anew m o h x l word mine there = subst (λ (w : Word). EndsOf w m o l) word (h x l mine there)

pub record AreUsed (past : List Moment) (book : Book) : Type 0 where
  pub by : (m : Moment) → Contains past m → (step_of m ≤ book.steps) ⊎ IsSilent m
  pub leased : (m : Moment) → Contains past m → (p : ℕ) (o : Op) → slice_get book.ops p ≡ Some o → TellsLease book m o
  pub each : (m : Moment) → Contains past m → (p : ℕ) (o : Op) → slice_get book.ops p ≡ Some o → Follows m o
  pub shut : (m : Moment) → Contains past m → (p : ℕ) (o : Op) → slice_get book.ops p ≡ Some o → HasFile m o
  -- and what is fresh is open at once
  pub now : AreAtOnce past book.steps book.ops

abbrev pub UsedAt : (all past : List Moment) → List Opening → Core → Type 0
UsedAt all past opening k = AreUsed past (book_at opening k all)

-- nothing is taken then
none_taken : (m : Moment) (o : Op) → taken_by m.before (client_of m.before m.event) m.event ≡ [] → Follows m o
none_taken m o none x l mine there = (let lt = (subst (λ (ms : List Message). Contains ms (message.Answer x (body.Lb (lb.GetLeaseAnswer (Done l))))) none there).1 in absurd (omega (arith, lt)))

-- ---- what is past stays

-- an operation that went on had not ended
went_on : (m : Moment) (n : ℕ) (q : Op) (c : client.State) (taken : List TakenCall) (acts : ClientStep) → (acts.found ≡ None) ⊎ (q.file ≡ 0) → HasFile m q → step_of m ≤ n → q.end ≡ None → Follows m q → Follows m (op_after q c taken (n + 1) acts)
went_on m n q c taken acts (inr none) shut le running h x l mine there = absurd (shut x l (sym (running_past q c taken n acts running (step_of m) (client_of m.before m.event) le) ∙ mine) there none)
went_on m n q c taken acts (inl none) shut le running h x l mine there =
    let was : is_in q (step_of m) (client_of m.before m.event) ≡ true = sym (running_past q c taken n acts running (step_of m) (client_of m.before m.event) le) ∙ mine in
    subst (λ (w : Word). EndsOf w m (op_after q c taken (n + 1) acts) l) (sym (word_after q c taken (n + 1) acts)) (each q.word (h x l was there))
  where
    file : (op_after q c taken (n + 1) acts).file ≡ q.file
    file = file_stays q c taken (n + 1) acts none

    by : (kept : Option (List ℕ)) → EndsBy m.before.lbfs q (step_of m) (happens m.before m.event).up kept → EndsBy m.before.lbfs (op_after q c taken (n + 1) acts) (step_of m) (happens m.before m.event).up kept
    by (Some bytes) e = nothing_there (step_of m) (sym running ∙ e.1)
    by None e = (e.0, e.1 ∙ ap (λ f. hash_call m.before.lbfs e.0 f 0 ∷ []) (sym (file_stays q c taken (n + 1) acts none)))

    each : (w : Word) → EndsOf w m q l → EndsOf w m (op_after q c taken (n + 1) acts) l
    each words.Open e = λ seat here. subst (λ f. EndsBy m.before.lbfs (op_after q c taken (n + 1) acts) (step_of m) (happens m.before m.event).up (content_in l.version (content_of seat.client.cache f))) (sym file) (by (content_in l.version (content_of seat.client.cache q.file)) (e seat here))
    each words.Rewrite e = nothing_there (step_of m) (sym running ∙ e.1)
    each w e = tt

changed_ends : (m : Moment) (o : Op) (step : ℕ) (l : Leased) (w : Word) → EndsOf w m o l → EndsOf w m (record o { point = Some step }) l
changed_ends m o step l words.Open e = e
changed_ends m o step l words.Rewrite e = e
changed_ends m o step l w e = tt

stays : (book : Book) (k : Core) (qs : List Queue) (e : Event) (ops : List Op) (m : Moment) → IsKept book k qs → step_of m ≤ k.steps → OpsAfter e k ops → ((p : ℕ) (o : Op) → slice_get k.ops p ≡ Some o → Follows m o) → ((p : ℕ) (o : Op) → slice_get k.ops p ≡ Some o → HasFile m o) → (p : ℕ) (o : Op) → slice_get ops p ≡ Some o → Follows m o
stays book k qs e ops m kept le (inl same) h shut p o at = h p o (ap (λ (l : List Op). slice_get l p) (sym same) ∙ at)
stays book k qs e ops m kept le (inr (inl n)) h shut p o at = elim (of_appended k.ops n.new p o (ap (λ (l : List Op). slice_get l p) (sym n.is) ∙ at)) [
  | inl last ↦ subst (Follows m) (sym last.1) (λ x l mine there. (let lt = n.late in absurd (true_and_false (is_in n.new (step_of m) (client_of m.before m.event)) mine (early n.new (step_of m) (client_of m.before m.event) (omega (arith, lt, le))))))
  | inr old ↦ h p o old
]
stays book k qs e ops m kept le (inr (inr (inl a))) h shut p o at = elim (ops_shape k.ops a.seat.place a.after (session_taken (session_of k.sessions a.seat.session)) (k.steps + 1) a.acts p o (ap (λ (l : List Op). slice_get l p) (sym a.is) ∙ at)) [
  | inl mine ↦ subst (Follows m) (sym mine.3) (went_on m k.steps mine.0 a.after (session_taken (session_of k.sessions a.seat.session)) a.acts (a.apart p mine.0 mine.1 mine.2) (shut p mine.0 mine.2) le ((acts_alone book k qs a.index a.seat kept a.here).own p mine.0 mine.1 mine.2).1 (h p mine.0 mine.2))
  | inr old ↦ h p o old.1
]
stays book k qs e ops m kept le (inr (inr (inr (inl same)))) h shut p o at = h p o (ap (λ (l : List Op). slice_get l p) (sym same) ∙ at)
stays book k qs e ops m kept le (inr (inr (inr (inr s)))) h shut p o at = elim (of_replaced k.ops s.place (record s.op { file = s.file; point = Some (k.steps + 1) }) p o (ap (λ (l : List Op). slice_get l p) (sym s.is) ∙ at)) [
  | inr old ↦ h p o old.1
  | inl made ↦ subst (Follows m) (sym made.1) (elim s.kind [
    | inl close ↦ subst (λ (f : ℕ). Follows m (record s.op { file = f; point = Some (k.steps + 1) })) (sym close.1) (λ x l mine there. changed_ends m s.op (k.steps + 1) l s.op.word (h s.place s.op s.there x l mine there))
    | inr make ↦ λ x l mine there. absurd (shut s.place s.op s.there x l mine there make.1)
  ])
]

-- what is noted of a lease is nothing to an operation
noted_after : (q : Op) (c : client.State) (file version : ℕ) (until : Option ℕ) (taken : List TakenCall) (step : ℕ) (acts : ClientStep) → op_after q (noted_until c file version until) taken step acts ≡ op_after q c taken step acts
noted_after q c file version None taken step acts = refl
noted_after q c file version (Some until) taken step acts = by acts.ended
  where
    value : (u : Outcome) → value_of q.value (noted_until c file version (Some until)) u ≡ value_of q.value c u
    value (outcome.Opened g len digest) = refl
    value u = refl

    by : (e : Option Ended) → op_after q (noted_until c file version (Some until)) taken step (record acts { ended = e }) ≡ op_after q c taken step (record acts { ended = e })
    by None = refl
    by (Some e) = ap (λ (v : List ℕ). record (op_after q c taken step (record acts { ended = Some e })) { value = v }) (value e.outcome)

-- ---- the answer to a GETLEASE

-- what it comes to
kept_ends : (q : Op) (s : client.State) (calls : List Pending) (file x version step : ℕ) (taken : List TakenCall) → q.file ≡ file → q.traffic ≡ no_traffic → (kept : Option (List ℕ))
    → EndsBy s.lbfs (op_after q (uses_kept s calls file x version kept).0 taken step (uses_kept s calls file x version kept).1) step (uses_kept s calls file x version kept).1.send kept
kept_ends q s calls file x version step taken file_is none (Some bytes) = (refl, refl, value, refl, ap (λ t. counted t (record no_counts { bytes = 0 })) none)
  where
    value : client.local_bytes (client.with_local s.opened file (record { version = version; bytes = bytes })) file ≡ bytes
    value = ap (λ (o : Option Local). unwrap_or (option_map (λ (z : Local). z.bytes) o) []) (local_at_itself s.opened file (record { version = version; bytes = bytes }))
kept_ends q s calls file x version step taken file_is none None = (s.next_xid, ap (λ f. hash_call s.lbfs s.next_xid f 0 ∷ []) (sym file_is))

-- ---- an answer is heard

-- what is known before a step
pub record Known (all past : List Moment) (k : Core) : Type 0 where
  pub opens : LogsAt OpensBy (OpenRead all) past k
  pub own : LogsAt OwnBy OpOwn past k
  pub counted : CountedAt past k

used_hears : FitLaws → (all past : List Moment) (opening : List Opening) (k : Core) (qs after : List Queue) (n now : ℕ) (bytes : List ℕ) (mid : List Queue) → (kept : IsKept (book_at opening k all) k qs) → (h : Heard k qs n now bytes mid) → IsKept (book_at opening (happens k (Hears n now bytes)).core all) (happens k (Hears n now bytes)).core after → Known all past k
    → (p : ℕ) (o : Op) → slice_get (happens k (Hears n now bytes)).core.ops p ≡ Some o → Follows (moment k (Hears n now bytes)) o
used_hears fits all past opening k qs after n now bytes mid kept h left known p o at x l mine there = by (heard_lease fits all opening k qs after n now bytes mid kept h left p o at x l mine there)
  where
    m : Moment
    m = moment k (Hears n now bytes)

    taken : List TakenCall
    taken = session_taken (session_of k.sessions h.seat.session)

    by : (told_message h.told ≡ lease_told x l) × ((happens k (Hears n now bytes)).up ≡ (got_step h.seat.client (Ok (lease_told x l)) now).1.send) × HeardLease k h.seat now x l p o → EndsOf o.word m o l
    by (same, up, w) = subst (λ (z : Op). EndsOf z.word m z l) (sym w.is) (subst (λ (z : Word). EndsOf z m (op_after w.old r.0 taken (k.steps + 1) r.1) l) (sym (word_after w.old r.0 taken (k.steps + 1) r.1 ∙ word)) (each w.asking))
      where
        r : client.State × ClientStep
        r = got_step h.seat.client (Ok (lease_told x l)) now

        at_place : slice_get k.ops w.of.place ≡ Some w.old
        at_place = ap (slice_get k.ops) w.place ∙ w.was

        word : w.old.word ≡ stage_word w.of.stage
        word =
            let of = (kept.seats h.session.owner h.seat h.owner).task w.of w.job_is in
            ap (λ (z : Op). z.word) (some_is w.old of.op (sym at_place ∙ ap (λ (l : List Op). slice_get l w.of.place) (sym kept.ops) ∙ of.there)) ∙ of.word

        own : OpOwn (deals_of w.old past) w.old.word w.old.file w.old.value w.old.outcome
        own = known.own.each p w.old w.was

        sum : IsSum w.old.traffic (deals_of w.old past)
        sum = counts_log w.old past (known.counted.counts p w.old w.was)

        became : (st : Stage) → w.of.stage ≡ st → got_step h.seat.client (Ok (lease_told x l)) now ≡ took (idle (at_clock h.seat.client now)) (client.calls_of h.seat.client) w.of.file st x (body.Lb (lb.GetLeaseAnswer (Done l)))
        became st is = w.got ∙ ap (λ (st : Stage). took (idle (at_clock h.seat.client now)) (client.calls_of h.seat.client) w.of.file st x (body.Lb (lb.GetLeaseAnswer (Done l)))) is

        -- an open
        opened : w.of.stage ≡ stage.Asking x → EndsOf words.Open m (op_after w.old r.0 taken (k.steps + 1) r.1) l
        opened asking seat here =
            let same_seat : h.seat ≡ seat = some_is h.seat seat (sym h.owner ∙ ap (numbered k.seats) (sym (ap owner_in h.at)) ∙ here) in
            let bare = (subst (OpensBy (deals_of w.old past) w.old.file w.old.value) asking (known.opens.jobs h.session.owner h.seat w.of w.old h.owner w.job_is at_place)).0 in
            let none = bare_counts past w.old (word ∙ ap stage_word asking) own bare sum in
            subst (λ ms. EndsBy k.lbfs (op_after w.old r.0 taken (k.steps + 1) r.1) (k.steps + 1) ms (content_in l.version (content_of seat.client.cache (op_after w.old r.0 taken (k.steps + 1) r.1).file))) (sym up)
            (subst (λ f. EndsBy k.lbfs (op_after w.old r.0 taken (k.steps + 1) r.1) (k.steps + 1) r.1.send (content_in l.version (content_of seat.client.cache f))) (sym (file_stays w.old r.0 taken (k.steps + 1) r.1 w.finds ∙ w.file))
            (subst (λ (c : Seat). EndsBy k.lbfs (op_after w.old r.0 taken (k.steps + 1) r.1) (k.steps + 1) r.1.send (content_in l.version (content_of c.client.cache w.of.file))) same_seat
            (subst (λ (z : client.State × ClientStep). EndsBy k.lbfs (op_after w.old z.0 taken (k.steps + 1) z.1) (k.steps + 1) z.1.send (content_in l.version (content_of h.seat.client.cache w.of.file))) (sym (became (stage.Asking x) asking))
            (let z : client.State × ClientStep = uses_kept (idle (at_clock h.seat.client now)) (client.calls_of h.seat.client) w.of.file x l.version (content_in l.version (content_of h.seat.client.cache w.of.file)) in
            subst (λ (o : Op). EndsBy k.lbfs o (k.steps + 1) z.1.send (content_in l.version (content_of h.seat.client.cache w.of.file))) (sym (noted_after w.old z.0 w.of.file l.version (note_until h.seat.client.sent l.term z.0.drift) taken (k.steps + 1) z.1))
            (subst (λ (v : ℕ). EndsBy v (op_after w.old z.0 taken (k.steps + 1) z.1) (k.steps + 1) z.1.send (content_in l.version (content_of h.seat.client.cache w.of.file))) (kept.seats h.session.owner h.seat h.owner).speaks
            (kept_ends w.old (idle (at_clock h.seat.client now)) (client.calls_of h.seat.client) w.of.file x l.version (k.steps + 1) taken w.file none (content_in l.version (content_of h.seat.client.cache w.of.file))))))))

        -- a rewrite
        renewed : w.of.stage ≡ stage.Rewriting x → EndsOf words.Rewrite m (op_after w.old r.0 taken (k.steps + 1) r.1) l
        renewed asking =
            let none : w.old.traffic ≡ no_traffic = subst (λ (z : Word). CountsOwn z w.old.traffic) (word ∙ ap stage_word asking) (own_counts past w.old own sum) in
            subst (EndsAnew (op_after w.old r.0 taken (k.steps + 1) r.1) (k.steps + 1)) (sym up)
            (subst (λ (z : client.State × ClientStep). EndsAnew (op_after w.old z.0 taken (k.steps + 1) z.1) (k.steps + 1) z.1.send) (sym (became (stage.Rewriting x) asking)) (refl, refl, refl, ap (λ t. counted t no_counts) none))

        each : AsksLease x w.of.stage → EndsOf (stage_word w.of.stage) m (op_after w.old r.0 taken (k.steps + 1) r.1) l
        each (inl asking) = subst (λ (z : Word). EndsOf z m (op_after w.old r.0 taken (k.steps + 1) r.1) l) (sym (ap stage_word asking)) (opened asking)
        each (inr asking) = subst (λ (z : Word). EndsOf z m (op_after w.old r.0 taken (k.steps + 1) r.1) l) (sym (ap stage_word asking)) (renewed asking)

-- ---- any event

used_now : FitLaws → (all past rest : List Moment) (opening : List Opening) (k : Core) (qs : List Queue) (e : Event) (mid after : List Queue) → Step all past rest opening k qs e mid after → Known all past k → (p : ℕ) (o : Op) → slice_get (happens k e).core.ops p ≡ Some o → Follows (moment k e) o
used_now fits all past rest opening k qs (Hears n now bytes) mid after s known p o at = elim s.finds [
  | inl told ↦ used_hears fits all past opening k qs after n now bytes mid s.kept (heard_at (book_at opening k all) k qs n now bytes mid s.kept told) s.left known p o at
  | inr recall ↦ none_taken (moment k (Hears n now bytes)) o (recall_untaken fits (book_at opening k all) k qs n now bytes mid s.kept recall)
]
used_now fits all past rest opening k qs e mid after s known p o at = none_taken (moment k e) o refl

pub used_event : FitLaws → (all past rest : List Moment) (opening : List Opening) (k : Core) (qs : List Queue) (e : Event) (mid after : List Queue) → Step all past rest opening k qs e mid after → Known all past k → (step_of (moment k e) ≤ (happens k e).core.steps) ⊎ IsSilent (moment k e) → UsedAt all past opening k → UsedAt all (past ++ moment k e ∷ []) opening (happens k e).core
used_event fits all past rest opening k qs e mid after s known said h = record {
  by = λ z there. elim (Contains-push_cases past (moment k e) z there) [
    | inl old ↦ elim (h.by z old) [ inl lt ↦ inl (let le = w.1 in omega (arith, le, lt)) | inr silent ↦ inr silent ]
    | inr new ↦ subst (λ (y : Moment). (step_of y ≤ (happens k e).core.steps) ⊎ IsSilent y) new said
  ];
  leased = λ z there p o at. elim (Contains-push_cases past (moment k e) z there) [
    | inl old ↦ elim (h.by z old) [
      | inl lt ↦ leased_stays (book_at opening k all) (book_at opening (happens k e).core all) k qs e z s.kept lt w.0 refl refl (same_version k e) (λ y c. c) (h.leased z old) (h.shut z old) p o at
      | inr silent ↦ none_leased (book_at opening (happens k e).core all) z o silent.0
    ]
    | inr new ↦ subst (λ (y : Moment). TellsLease (book_at opening (happens k e).core all) y o) new (leased_now fits all past rest opening k qs e mid after s w.0 p o at)
  ];
  each = λ z there p o at. elim (Contains-push_cases past (moment k e) z there) [
    | inl old ↦ elim (h.by z old) [
      | inl lt ↦ stays (book_at opening k all) k qs e (happens k e).core.ops z s.kept lt w.0 (h.each z old) (h.shut z old) p o at
      | inr silent ↦ none_taken z o silent.0
    ]
    | inr new ↦ subst (λ (y : Moment). Follows y o) new (used_now fits all past rest opening k qs e mid after s known p o at)
  ];
  shut = λ z there p o at. elim (Contains-push_cases past (moment k e) z there) [
    | inl old ↦ elim (h.by z old) [
      | inl lt ↦ shut_stays (book_at opening k all) k qs e (happens k e).core.ops z s.kept lt w.0 (h.shut z old) p o at
      | inr silent ↦ none_shut z o silent.0
    ]
    | inr new ↦ subst (λ (y : Moment). HasFile y o) new (shut_now fits all past rest opening k qs e mid after s p o at)
  ];
  now = at_once_event fits all past rest opening k qs e mid after s h.now;
}
  where
    w : Becomes e k (happens k e)
    w = ops_after_event fits all past rest opening k qs e mid after s

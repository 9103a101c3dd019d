-- Whose change a change is: the operation that gets its point by it waited for the answer to its call, at this moment, or before its client left.
use Rattle.std.proofs.Common.{◌⊎◌, inl, inr, ◌≡◌, ℕ, zero, suc, ◌+◌, ◌-◌, ◌≤◌, List, [], ◌∷◌, ◌++◌, length, drop, Option, Some, None, Result, Ok, Bool, true, false, refl, sym, ap, ◌∙◌, subst, arith, eq-eqb, replicate}
use Rattle.std.proofs.lemmas.List.{length-append}
use Rattle.wire.specs.declared.message.Body.{Body}
use Rattle.wire.specs.declared.message.Message.TheVariants as message
use Rattle.client_state.specs.State as client
use Rattle.server_core.specs.State as server
use Rattle.server_core.specs.declared.change.Wanted.TheVariants as wanted
use Rattle.server_core.specs.declared.event.Event.TheVariants as event
use Rattle.register_model.specs.declared.op.Word.TheVariants as words
use Rattle.server_rules.specs.declared.told.Told.TheVariants as announced
use Rattle.server_core.specs.declared.event.ServerStep.{ServerStep}
use Rattle.server_core.specs.Closing.{at as closing_at, ready_by, settles_by}
use Rattle.callback_core.specs.Waits.{without}
use Rattle.trace_ends.specs.Core.{newest_entries, changed_file, server_got, settles as core_settles, settled_by}
use Rattle.trace_ends.specs.Ops.{pointed_at, pointed, point_if, has_point, begun, ops_after}
use Rattle.trace_ends.specs.Session.{settled_ops, taken_of as session_taken}
use Rattle.trace_replay.specs.Entries.{Awaited, GrowsBy, IsChangedBy}
use Rattle.kept_promise.proofs.Common.{nat_tests, ◌==◌, ◌&&◌, ◌||◌, nat_le, cond, slice_get, slice_set, Contains, Contains-append_left, Contains-append_right, Contains-push, changes, parse_of, Message, WireFault, stands, makes_change, serves, serves_if, server_step, command_step, word_of, file_of, value_at_begin, ClientStep, Ended, Outcome, Op, Opening, Word, TakenCall, op_after, ops_with, Core, Session, Event, Event.Serves, Event.Settles, CoreStep, numbered, session_of, server_waiting, server_waits, happens, Moment, step_of, is_in, until, Book, Queue, Ask, ask_message, call_message, unless, Call, Call.Commit, Call.Walks, FileChange, Wanted, Entry, is_raw, serves_unless}
use Rattle.kept_promise.proofs.TakenOut.{ready_waits}
use Rattle.kept_promise.proofs.Lists.{some_is, nothing_there, of_appended, of_replaced, kept_appended, at_replaced, set_else, same_or_not, true_and_false, all_append, AllOf}
use Rattle.kept_promise.proofs.Messages.{Job, job, AllAsks, CommitOf, IsCommit, WaitsFor as Pends}
use Rattle.kept_promise.proofs.PathNames.{is_creating}
use Rattle.kept_promise.proofs.Fits.{FitLaws}
use Rattle.kept_promise.proofs.Facts.{IsKept, IsSession, change_number}
use Rattle.kept_promise.proofs.Turns.{also_numbered, raw_or_owned, owned_up, owned_closing, unhung_up}
use Rattle.kept_promise.proofs.RunsCarried.{book_at, moment, FindsAsk, Step, Carried}
use Rattle.kept_promise.proofs.SentUp.{asked_only}
use Rattle.kept_promise.proofs.Counted.{AlikeUpTo, running_now}
use Rattle.kept_promise.proofs.Actors.{job_place, acts_alone, serves_read, serves_read_plain}
use Rattle.kept_promise.proofs.OpsAfter.{OpsAfter, ops_after_event, stays_in}
use Rattle.kept_promise.proofs.Tells.{waits_in}
use Rattle.kept_promise.proofs.Leading.{queues_lost, ups_put, queues_after}
use Rattle.kept_promise.proofs.LeftCommits.{QueuesHave, have_lost, have_ups, have_downs, taken_off, leaves, got_waits, no_asks, IsLeft}
use Rattle.kept_promise.proofs.ServesQuietly.{serves_still}
use Rattle.kept_promise.proofs.Promised.{own_there}
use Rattle.kept_promise.proofs.EntriesGrow.{Grows, GrewBy, ByEvent, event_grows, AllEntered, carried_entered, entered_event, grown_later, grown_now, settled_at}
use Rattle.kept_promise.proofs.Happens.{what_happens}
use Rattle.kept_promise.proofs.OwnersKept.{owned_before}

-- ---- what is waited for

-- it was so by a step that is past
record Held (past : List Moment) (steps : ℕ) (o : Op) (n xid : ℕ) : Type 0 where
  awaited : Awaited past o n xid
  by : step_of awaited.moment ≤ steps

held_later : (past : List Moment) (m : Moment) (steps after n xid : ℕ) (o r : Op) → AlikeUpTo steps o r → steps ≤ after → Held past steps o n xid → Held (past ++ m ∷ []) after r n xid
held_later past m steps after n xid o r same le h = record {
  awaited = record { moment = h.awaited.moment; there = Contains-append_left past (m ∷ []) h.awaited.moment h.awaited.there; client = h.awaited.client; own = same (step_of h.awaited.moment) h.awaited.client h.by ∙ h.awaited.own; waits = h.awaited.waits };
  by = (let lt = h.by in omega (arith, lt, le));
}

-- the job of the operation that a session remembers waits for this
abbrev JobFor : (closing : Option ℕ) → Option Job → (xid : ℕ) → Type 0
JobFor closing job xid = (p : ℕ) × (j : Job) × (closing ≡ Some p) × (j.place ≡ p) × (job ≡ Some j) × (client.has_call (client.pending_in j.stage) xid ≡ true)

one_call : (xid : ℕ) → ((xid == xid) || false) ≡ true
one_call xid = ap (λ (b : Bool). b || false) (eq-eqb xid xid refl)

is_one : (b : Bool) → (let n : ℕ = cond b 1 0 in n ≡ 1) → b ≡ true
is_one true e = refl
is_one false e = (let z : 0 ≡ 1 = e in absurd (omega (arith, z)))

-- so it is of a call on its way that may change a file
ask_job : (book : Book) (closing : Option ℕ) (cut : Bool) (job : Option Job) (contents : ℕ → List ℕ) (xid : ℕ) (c : Call) → CommitOf book closing cut job contents xid c → change_number c ≡ 1 → cut ≡ false → JobFor closing job xid
ask_job book closing cut job contents xid (Commit temp file size) h one uncut = (h.0.place, _, h.0.known, refl, h.0.waited uncut, one_call xid)
ask_job book closing cut job contents xid (Walks w) h one uncut = (let c = h (is_one (is_creating w) one) in (c.place, _, c.known, refl, c.waited uncut, one_call xid))
ask_job book closing cut job contents xid c h one uncut = (let z : 0 ≡ 1 = one in absurd (omega (arith, z)))

-- and of a pending change
change_job : (book : Book) (session : ℕ) (closing : Option ℕ) (cut : Bool) (job : Option Job) (xid file : ℕ) (w : Wanted) → Pends book session closing cut job xid file w → cut ≡ false → JobFor closing job xid
change_job book session closing cut job xid file (wanted.Content content) h uncut = (h.place, _, h.known, refl, h.waited uncut, one_call xid)
change_job book session closing cut job xid file (wanted.Asked a) h uncut = (h.place, _, h.known, refl, (h.waited uncut).1, one_call xid)

-- ---- an operation that runs is one of its client's in the next step

running_in : (o : Op) (n : ℕ) → o.end ≡ None → o.begin ≤ n → is_in o (n + 1) o.client ≡ true
running_in o n none le =
    let before : nat_le o.begin (n + 1) ≡ true = grind (arith, nat_tests, le) in
    ap (λ z. z && (nat_le o.begin (n + 1) && until o.end (n + 1))) (eq-eqb o.client o.client refl) ∙ ap (λ z. true && (z && until o.end (n + 1))) before ∙ ap (λ z. until z (n + 1)) none

runs_into : (book : Book) (k : Core) (qs : List Queue) (e : Event) (ops : List Op) → IsKept book k qs → OpsAfter e k ops → (p : ℕ) (o : Op) → slice_get k.ops p ≡ Some o → o.end ≡ None → o.begin ≤ k.steps → (r : Op) × (slice_get ops p ≡ Some r) × (is_in r (k.steps + 1) o.client ≡ true)
runs_into book k qs e ops kept (inl same) p o at none le = (o, ap (λ (l : List Op). slice_get l p) same ∙ at, running_in o k.steps none le)
runs_into book k qs e ops kept (inr (inl n)) p o at none le = (o, ap (λ (l : List Op). slice_get l p) n.is ∙ kept_appended k.ops n.new p o at, running_in o k.steps none le)
runs_into book k qs e ops kept (inr (inr (inl a))) p o at none le = subst (λ (l : List Op). (r : Op) × (slice_get l p ≡ Some r) × (is_in r (k.steps + 1) o.client ≡ true)) (sym a.is) (by a.seat.place)
  where
    taken : List TakenCall
    taken = session_taken (session_of k.sessions a.seat.session)

    at_place : (l : ℕ) (q : Option Op) → slice_get k.ops l ≡ q → (r : Op) × (slice_get (ops_after k.ops l q a.after (session_taken (session_of k.sessions a.seat.session)) (k.steps + 1) a.acts) p ≡ Some r) × (is_in r (k.steps + 1) o.client ≡ true)
    at_place l None is = (o, at, running_in o k.steps none le)
    at_place l (Some q) is = elim (same_or_not p l) [
      | inl same ↦
          let mine : q ≡ o = some_is q o (sym is ∙ ap (slice_get k.ops) (sym same) ∙ at) in
          let new : Op = op_after q a.after (session_taken (session_of k.sessions a.seat.session)) (k.steps + 1) a.acts in
          (new, ap (slice_get (slice_set k.ops l new)) same ∙ at_replaced k.ops l new q is, subst (λ (z : Op). is_in (op_after z a.after (session_taken (session_of k.sessions a.seat.session)) (k.steps + 1) a.acts) (k.steps + 1) o.client ≡ true) (sym mine) (running_now o a.after (session_taken (session_of k.sessions a.seat.session)) k.steps o.client a.acts refl none le))
      | inr apart ↦ (o, set_else k.ops l p (op_after q a.after (session_taken (session_of k.sessions a.seat.session)) (k.steps + 1) a.acts) apart ∙ at, running_in o k.steps none le)
    ]

    by : (place : Option ℕ) → (r : Op) × (slice_get (ops_with k.ops place a.after (session_taken (session_of k.sessions a.seat.session)) (k.steps + 1) a.acts) p ≡ Some r) × (is_in r (k.steps + 1) o.client ≡ true)
    by None = (o, at, running_in o k.steps none le)
    by (Some l) = at_place l (slice_get k.ops l) refl
runs_into book k qs e ops kept (inr (inr (inr (inl same)))) p o at none le = (o, ap (λ (l : List Op). slice_get l p) same ∙ at, running_in o k.steps none le)
runs_into book k qs e ops kept (inr (inr (inr (inr s)))) p o at none le = subst (λ (l : List Op). (r : Op) × (slice_get l p ≡ Some r) × (is_in r (k.steps + 1) o.client ≡ true)) (sym s.is) (elim (same_or_not p s.place) [
  | inr apart ↦ (o, set_else k.ops s.place p (record s.op { file = s.file; point = Some (k.steps + 1) }) apart ∙ at, running_in o k.steps none le)
  | inl same ↦
      let mine : s.op ≡ o = some_is s.op o (sym s.there ∙ ap (slice_get k.ops) (sym same) ∙ at) in
      (record s.op { file = s.file; point = Some (k.steps + 1) }, ap (slice_get (slice_set k.ops s.place (record s.op { file = s.file; point = Some (k.steps + 1) }))) same ∙ at_replaced k.ops s.place (record s.op { file = s.file; point = Some (k.steps + 1) }) s.op s.there, subst (λ (z : Op). is_in z (k.steps + 1) o.client ≡ true) (sym mine) (running_in o k.steps none le))
])

-- ---- what is waited for at an event

-- of what a session remembers: its operation waited for the call of this number
abbrev Sender : (past : List Moment) → Core → Session → (n xid : ℕ) → Type 0
Sender past k x n xid = (p : ℕ) (o : Op) → x.closing ≡ Some p → slice_get k.ops p ≡ Some o → Held past k.steps o n xid

held_next : FitLaws → (all past rest : List Moment) (opening : List Opening) (k : Core) (qs : List Queue) (e : Event) (mid after : List Queue) → Step all past rest opening k qs e mid after
    → (n xid : ℕ) (x : Session) (q : Queue) → numbered k.sessions n ≡ Some x → (h : IsSession (book_at opening k all) k.seats k.server n x q) → (x.cut ≡ false → k.steps + 1 ≤ (happens k e).core.steps) → (x.cut ≡ true → Sender past k x n xid) → (x.cut ≡ false → JobFor x.closing (job h.seat) xid)
    → (p : ℕ) (r : Op) → x.closing ≡ Some p → slice_get (happens k e).core.ops p ≡ Some r → Held (past ++ moment k e ∷ []) (happens k e).core.steps r n xid
held_next fits all past rest opening k qs e mid after s n xid x q at h stepped gone here p r known there = by x.cut refl
  where
    book : Book
    book = book_at opening k all

    turned : OpsAfter e k (happens k e).core.ops × (k.steps ≤ (happens k e).core.steps)
    turned = ops_after_event fits all past rest opening k qs e mid after s

    by : (b : Bool) → x.cut ≡ b → Held (past ++ moment k e ∷ []) (happens k e).core.steps r n xid
    by true cut =
        let old = h.old p known in
        let stay = stays_in (book_at opening k all) k qs e (happens k e).core.ops s.kept turned.0 p old.0 old.1 in
        let same : stay.0 ≡ r = some_is stay.0 r (sym stay.1 ∙ there) in
        subst (λ (z : Op). Held (past ++ moment k e ∷ []) (happens k e).core.steps z n xid) same (held_later past (moment k e) k.steps (happens k e).core.steps n xid old.0 stay.0 stay.2 turned.1 (gone cut p old.0 known old.1))
    by false uncut =
        let w = here uncut in
        let j : Job = w.1 in
        let place : j.place ≡ p = w.3 ∙ some_is w.0 p (sym w.2 ∙ known) in
        let of = (s.kept.seats x.owner h.seat h.owner).task j w.4 in
        let at_op : slice_get k.ops p ≡ Some of.op = ap (slice_get k.ops) (sym place) ∙ of.there in
        let acts = (acts_alone (book_at opening k all) k qs x.owner h.seat s.kept h.owner).own p of.op (job_place h.seat.place h.seat.client.task j w.4 ∙ ap (λ (z : ℕ). Some z) place) at_op in
        let runs = runs_into (book_at opening k all) k qs e (happens k e).core.ops s.kept turned.0 p of.op at_op acts.1 acts.2 in
        let same : runs.0 ≡ r = some_is runs.0 r (sym runs.1 ∙ there) in
        record {
          awaited = record {
            moment = moment k e;
            there = Contains-append_right past (moment k e ∷ []) (moment k e) (Contains-push [] (moment k e));
            client = x.owner;
            own = ap (λ (z : Op). is_in z (k.steps + 1) x.owner) (sym same) ∙ ap (is_in runs.0 (k.steps + 1)) (sym acts.0) ∙ runs.2;
            waits = record { seat = h.seat; seat_is = h.owner; newest = (h.here uncut).0; own = waits_in h.seat.place h.seat.client.task j xid w.4 w.5 };
          };
          by = stepped uncut;
        }

-- ---- what is carried

-- of each session that its client left: each call on its way that may change a file, and each change that waits, was waited for
abbrev LeftAsk : (past : List Moment) → Core → (n : ℕ) → Ask → Type 0
LeftAsk past k n a = (y : Session) → numbered k.sessions n ≡ Some y → IsLeft y → change_number a.call ≡ 1 → Sender past k y n a.xid

abbrev LeftAsks : (past : List Moment) → Core → (n : ℕ) → Queue → Type 0
LeftAsks past k n q = AllAsks (LeftAsk past k n) q.ups

-- an operation that changed a file waited for the call by which it was done
record MadeBy (past : List Moment) (opening : List Opening) (k : Core) (o : Op) (point : ℕ) : Type 0 where
  moment_ : Moment
  there : Contains past moment_
  step_is : step_of moment_ ≡ point
  grows : GrowsBy (book_at opening k past) moment_
  held : Held past k.steps o grows.session grows.xid

pub record AllAwaited (all past : List Moment) (opening : List Opening) (k : Core) (qs : List Queue) : Type 0 where
  pub entered : AllEntered all past opening k qs
  ups : QueuesHave (LeftAsks past k) qs
  waiting : (i : ℕ) (c : FileChange) (y : Session) → slice_get k.server.waiting i ≡ Some c → numbered k.sessions c.session ≡ Some y → IsLeft y → Sender past k y c.session c.xid
  made : (p q : ℕ) (o : Op) → slice_get k.ops p ≡ Some o → changes o.word ≡ true → o.point ≡ Some q → MadeBy past opening k o q

-- a session that is cut now was there, or is cut in a step
moves : (k : Core) (e : Event) → ((happens k e).core.sessions ≡ k.sessions) ⊎ (k.steps + 1 ≤ (happens k e).core.steps)
moves k e = what_happens k e (λ t. (t.core.sessions ≡ k.sessions) ⊎ (k.steps + 1 ≤ t.core.steps)) (record {
  nothing = inl refl;
  idle = inl refl;
  joins = λ c seat is. inr (omega arith);
  refuses = λ c seat is. inl refl;
  does = λ c now d seat is. inr (omega arith);
  takes = λ n now bytes x m is at unhung read. inr (omega arith);
  hears = λ n now bytes owner seat is. inr (omega arith);
  settles = λ now is. inl refl;
  cuts = λ c seat is. inr (omega arith);
  hangs = λ n x is at unhung. inr (omega arith);
  closes = λ n now bytes x is at unhung. inr (omega arith);
  raw_joins = λ is. inr (omega arith);
  raw_refuses = λ is. inl refl;
})

stepped_by : (k : Core) (e : Event) (n : ℕ) (x y : Session) → numbered k.sessions n ≡ Some x → numbered (happens k e).core.sessions n ≡ Some y → y.cut ≡ true → x.cut ≡ false → k.steps + 1 ≤ (happens k e).core.steps
stepped_by k e n x y at there gone uncut = elim (moves k e) [
  | inr step ↦ step
  | inl same ↦ absurd (true_and_false x.cut (ap (λ (z : Session). z.cut) (some_is x y (sym at ∙ ap (λ (l : List Session). numbered l n) (sym same) ∙ there)) ∙ gone) uncut)
]

-- of what stays of a session
sender_next : FitLaws → (all past rest : List Moment) (opening : List Opening) (k : Core) (qs : List Queue) (e : Event) (mid after : List Queue) → Step all past rest opening k qs e mid after
    → (n xid : ℕ) (x y : Session) (q : Queue) → numbered k.sessions n ≡ Some x → (h : IsSession (book_at opening k all) k.seats k.server n x q) → numbered (happens k e).core.sessions n ≡ Some y → y.cut ≡ true → y.closing ≡ x.closing → (x.cut ≡ true → Sender past k x n xid) → (x.cut ≡ false → JobFor x.closing (job h.seat) xid)
    → Sender (past ++ moment k e ∷ []) (happens k e).core y n xid
sender_next fits all past rest opening k qs e mid after s n xid x y q at h there gone same before here p r known is = held_next fits all past rest opening k qs e mid after s n xid x q at h (stepped_by k e n x y at there gone) before here p r (sym same ∙ known) is

-- two facts of each
both_map : {A : Type 0} (P Q R : A → Type 0) → ((a : A) → P a → Q a → R a) → (xs : List A) → AllOf P xs → AllOf Q xs → AllOf R xs
both_map P Q R f [] a b = tt
both_map P Q R f (x ∷ xs) a b = (f x a.0 b.0, both_map P Q R f xs a.1 b.1)

ups_event : FitLaws → (all past rest : List Moment) (opening : List Opening) (k : Core) (qs : List Queue) (e : Event) (mid after : List Queue) → Step all past rest opening k qs e mid after → QueuesHave (LeftAsks past k) qs → QueuesHave (LeftAsks (past ++ moment k e ∷ []) (happens k e).core) after
ups_event fits all past rest opening k qs e mid after s h = subst (QueuesHave T) (sym s.after_is) (put (taken_off T k qs mid e (λ n q a us is g. (subst (AllAsks (LeftAsk (past ++ moment k e ∷ []) (happens k e).core n)) is g).1) (λ n q t ts is g. g) s.finds before))
  where
    T : ℕ → Queue → Type 0
    T = LeftAsks (past ++ moment k e ∷ []) (happens k e).core

    before : QueuesHave (LeftAsks (past ++ moment k e ∷ []) (happens k e).core) qs
    before n q is = (let x = also_numbered qs k.sessions n q (sym s.kept.made.1) is in elim (raw_or_owned x.0) [ inr owned ↦ of x.0 x.1 owned (s.kept.sessions n x.0 q x.1 is owned) | inl raw ↦ subst (AllAsks (LeftAsk (past ++ moment k e ∷ []) (happens k e).core n)) (sym (s.kept.strangers n x.0 q x.1 is raw).ups) tt ])
      where
        of : (x : Session) → numbered k.sessions n ≡ Some x → is_raw x ≡ false → IsSession (book_at opening k all) k.seats k.server n x q → LeftAsks (past ++ moment k e ∷ []) (happens k e).core n q
        of x at owned b = both_map (IsCommit (book_at opening k all) x.closing x.cut (job b.seat) b.contents) (LeftAsk past k n) (LeftAsk (past ++ moment k e ∷ []) (happens k e).core n) (λ a commit old y there gone one.
            let was = (leaves fits opening all k qs mid e s.kept s.finds).were n y there gone in
            let same : was.0 ≡ x = some_is was.0 x (sym was.1 ∙ at) in
            sender_next fits all past rest opening k qs e mid after s n a.xid x y q at b there gone.1 (was.2 ∙ ap (λ (z : Session). z.closing) same) (λ cut. old x at (owned, cut) one) (λ uncut. ask_job (book_at opening k all) x.closing x.cut (job b.seat) b.contents a.xid a.call commit one uncut)) q.ups b.commits (h n q is)

    -- nothing is sent on a session that its client left
    put : QueuesHave (LeftAsks (past ++ moment k e ∷ []) (happens k e).core) mid → QueuesHave (LeftAsks (past ++ moment k e ∷ []) (happens k e).core) (queues_after mid (happens k e) s.sends)
    put g =
        let t : CoreStep = happens k e in
        let lost = have_lost (LeftAsks (past ++ moment k e ∷ []) (happens k e).core) mid t.loss g tt (λ n q z. z) (λ n q z. tt) in
        let ups = have_ups (LeftAsks (past ++ moment k e ∷ []) (happens k e).core) t.core.sessions (queues_lost mid t.loss) t.session s.sends.asks lost (λ n x q is at there z. more n q x.hung is z) in
        have_downs (LeftAsks (past ++ moment k e ∷ []) (happens k e).core) (λ u. Unit {0}) t.core.sessions s.sends.tolds (ups_put t.core.sessions (queues_lost mid t.loss) t.session s.sends.asks) (none s.sends.tolds) ups (λ n u q lost f z. z)
      where
        none : {A : Type 0} (xs : List A) → AllOf (λ (a : A). Unit {0}) xs
        none [] = tt
        none (x ∷ xs) = (tt, none xs)

        new : (n : ℕ) → (happens k e).session ≡ Some n → (us : List Ask) → us ≡ s.sends.asks → AllAsks (LeftAsk (past ++ moment k e ∷ []) (happens k e).core n) us
        new n is [] all_ = tt
        new n is (a ∷ us) all_ = every (a ∷ us) (λ y there gone. absurd (some_sent y there gone))
          where
            every : (us : List Ask) → ((y : Session) → numbered (happens k e).core.sessions n ≡ Some y → IsLeft y → ⊥) → AllAsks (LeftAsk (past ++ moment k e ∷ []) (happens k e).core n) us
            every [] never = tt
            every (b ∷ bs) never = ((λ y there gone one. absurd (never y there gone)), every bs never)

            not_none : {a : Ask} {us : List Ask} → a ∷ us ≡ [] → ⊥
            not_none z = absurd cc

            some_sent : (y : Session) → numbered (happens k e).core.sessions n ≡ Some y → IsLeft y → ⊥
            some_sent y there gone = not_none (all_ ∙ no_asks s.sends.replies s.sends.asks (sym ((leaves fits opening all k qs mid e s.kept s.finds).quiet n y is there gone) ∙ s.sends.up_is))

        more : (n : ℕ) (q : Queue) (lost : Bool) → (happens k e).session ≡ Some n → LeftAsks (past ++ moment k e ∷ []) (happens k e).core n q → AllAsks (LeftAsk (past ++ moment k e ∷ []) (happens k e).core n) (unless lost q.ups s.sends.asks)
        more n q true is z = z
        more n q false is z = all_append (LeftAsk (past ++ moment k e ∷ []) (happens k e).core n) q.ups s.sends.asks z (new n is s.sends.asks refl)

-- ---- what waits

-- a change that waited
waited_before : FitLaws → (all past rest : List Moment) (opening : List Opening) (k : Core) (qs : List Queue) (e : Event) (mid after : List Queue) → Step all past rest opening k qs e mid after → AllAwaited all past opening k qs
    → (j : ℕ) (c : FileChange) → slice_get k.server.waiting j ≡ Some c → ((x : Session) → numbered k.sessions c.session ≡ Some x → is_raw x ≡ false) → (x : Session) × (q : Queue) × (numbered k.sessions c.session ≡ Some x) × ((h : IsSession (book_at opening k all) k.seats k.server c.session x q) × (x.cut ≡ true → Sender past k x c.session c.xid) × (x.cut ≡ false → JobFor x.closing (job h.seat) c.xid))
waited_before fits all past rest opening k qs e mid after s h j c there owned =
    let home = s.kept.home j c there in
    let q = also_numbered k.sessions qs c.session home.0 s.kept.made.1 home.1 in
    let b = s.kept.sessions c.session home.0 q.0 home.1 q.1 (owned home.0 home.1) in
    let mine = own_there k.server.waiting j c there in
    (home.0, q.0, home.1, (b, (λ cut. h.waiting j c home.0 there home.1 (owned home.0 home.1, cut)), (λ uncut. change_job (book_at opening k all) c.session home.0.closing home.0.cut (job b.seat) c.xid c.file c.what (b.pending mine.0 c mine.1) uncut)))

abbrev number_of : Message → ℕ
number_of (message.Call x b) = x
number_of m = 0

number_is : (lbfs x : ℕ) (c : Call) → number_of (call_message lbfs x c) ≡ x
number_is lbfs x (Walks w) = refl
number_is lbfs x _ = refl

-- a call that is taken, and may change a file
ask_before : FitLaws → (all past rest : List Moment) (opening : List Opening) (k : Core) (qs : List Queue) (n now : ℕ) (bytes : List ℕ) (mid after : List Queue) → (s : Step all past rest opening k qs (Serves n now bytes) mid after) → (f : FindsAsk qs n bytes mid) → AllAwaited all past opening k qs → (xid : ℕ) (b : Body) → parse_of server_waiting bytes ≡ Ok (message.Call xid b) → change_number f.1.call ≡ 1
    → (x : Session) × (numbered k.sessions n ≡ Some x) × ((h : IsSession (book_at opening k all) k.seats k.server n x f.0) × (x.cut ≡ true → Sender past k x n xid) × (x.cut ≡ false → JobFor x.closing (job h.seat) xid))
ask_before fits all past rest opening k qs n now bytes mid after s f h xid b read one =
    let x = also_numbered qs k.sessions n f.0 (sym s.kept.made.1) f.3 in
    let owned = owned_up s.kept n x.0 f.0 x.1 f.3 f.1 f.2 f.4 in
    let c = s.kept.sessions n x.0 f.0 x.1 f.3 owned in
    let commit = (subst (AllAsks (IsCommit (book_at opening k all) x.0.closing x.0.cut (job c.seat) c.contents)) f.4 c.commits).0 in
    let left = (subst (AllAsks (LeftAsk past k n)) f.4 (h.ups n f.0 f.3)).0 in
    (x.0, x.1, (c, (λ cut. subst (Sender past k x.0 n) number (left x.0 x.1 (owned, cut) one)), (λ uncut. subst (JobFor x.0.closing (job c.seat)) number (ask_job (book_at opening k all) x.0.closing x.0.cut (job c.seat) c.contents f.1.xid f.1.call commit one uncut))))
  where
    same_read : (r : Result Message WireFault) (p q : Message) → r ≡ Ok p → r ≡ Ok q → p ≡ q
    same_read r p q e f = cc

    xid_is : (a : Ask) → ask_message a ≡ message.Call xid b → a.xid ≡ xid
    xid_is a e = sym (number_is a.lbfs a.xid a.call) ∙ ap number_of e

    number : f.1.xid ≡ xid
    number = xid_is f.1 (same_read (parse_of server_waiting bytes) (ask_message f.1) (message.Call xid b) (serves_read_plain fits (book_at opening k all) k qs n now bytes mid s.kept f) read)

-- what waits then
waiting_event : FitLaws → (all past rest : List Moment) (opening : List Opening) (k : Core) (qs : List Queue) (e : Event) (mid after : List Queue) → Step all past rest opening k qs e mid after → AllAwaited all past opening k qs
    → (i : ℕ) (c : FileChange) (y : Session) → slice_get (happens k e).core.server.waiting i ≡ Some c → numbered (happens k e).core.sessions c.session ≡ Some y → IsLeft y → Sender (past ++ moment k e ∷ []) (happens k e).core y c.session c.xid
waiting_event fits all past rest opening k qs e mid after s h i c y there at gone = elim ((event_grows k e).came i c there) [
  | inl old ↦ of_old old.0 old.1
  | inr new ↦ of_new e s there at new
]
  where
    of_old : (j : ℕ) → slice_get k.server.waiting j ≡ Some c → Sender (past ++ moment k e ∷ []) (happens k e).core y c.session c.xid
    of_old j was =
        let x = (leaves fits opening all k qs mid e s.kept s.finds).were c.session y at gone in
        let w = waited_before fits all past rest opening k qs e mid after s h j c was (λ z found. owned_before k e c.session z y found at gone.0) in
        let same : x.0 ≡ w.0 = some_is x.0 w.0 (sym x.1 ∙ w.2) in
        sender_next fits all past rest opening k qs e mid after s c.session c.xid w.0 y w.1 w.2 w.3.0 at gone.1 (x.2 ∙ ap (λ (z : Session). z.closing) same) w.3.1 w.3.2

    of_new : (e : Event) → Step all past rest opening k qs e mid after → slice_get (happens k e).core.server.waiting i ≡ Some c → numbered (happens k e).core.sessions c.session ≡ Some y → ((now : ℕ) × (bytes : List ℕ) × (b : Body) × (e ≡ Serves c.session now bytes) × (parse_of server_waiting bytes ≡ Ok (message.Call c.xid b)) × Rattle.trace_replay.specs.Entries.MayEnter b) → Sender (past ++ moment k e ∷ []) (happens k e).core y c.session c.xid
    of_new e s there at (now, bytes, b, is, read, may) = of_served e s there at is
      where
        of_served : (e : Event) → Step all past rest opening k qs e mid after → slice_get (happens k e).core.server.waiting i ≡ Some c → numbered (happens k e).core.sessions c.session ≡ Some y → e ≡ Serves c.session now bytes → Sender (past ++ moment k e ∷ []) (happens k e).core y c.session c.xid
        of_served e s there at is = subst (λ (z : Event). Step all past rest opening k qs z mid after → slice_get (happens k z).core.server.waiting i ≡ Some c → numbered (happens k z).core.sessions c.session ≡ Some y → Sender (past ++ moment k z ∷ []) (happens k z).core y c.session c.xid) (sym is) serve s there at
          where
            ask : FindsAsk qs c.session bytes mid → Step all past rest opening k qs (Serves c.session now bytes) mid after → slice_get (happens k (Serves c.session now bytes)).core.server.waiting i ≡ Some c → numbered (happens k (Serves c.session now bytes)).core.sessions c.session ≡ Some y → Sender (past ++ moment k (Serves c.session now bytes) ∷ []) (happens k (Serves c.session now bytes)).core y c.session c.xid
            ask f s there at = elim (got_waits k.server c.session now f.1 (stands k.server c.session) (Rattle.kept_promise.proofs.Actors.serves_fits (book_at opening k all) k qs c.session now bytes mid s.kept f)) [
              | inl same ↦
                  let was : slice_get k.server.waiting i ≡ Some c = ap (λ (l : List FileChange). slice_get l i) (sym same) ∙ ap (λ (z : server.State). slice_get z.waiting i) (sym server_is) ∙ there in
                  let w = waited_before fits all past rest opening k qs (Serves c.session now bytes) mid after s h i c was (λ z found. owned_before k (Serves c.session now bytes) c.session z y found at gone.0) in
                  let x = (leaves fits opening all k qs mid (Serves c.session now bytes) s.kept s.finds).were c.session y at gone in
                  let one : x.0 ≡ w.0 = some_is x.0 w.0 (sym x.1 ∙ w.2) in
                  sender_next fits all past rest opening k qs (Serves c.session now bytes) mid after s c.session c.xid w.0 y w.1 w.2 w.3.0 at gone.1 (x.2 ∙ ap (λ (z : Session). z.closing) one) w.3.1 w.3.2
              | inr new ↦
                  let w = ask_before fits all past rest opening k qs c.session now bytes mid after s f h c.xid b read new.3 in
                  let x = (leaves fits opening all k qs mid (Serves c.session now bytes) s.kept s.finds).were c.session y at gone in
                  let one : x.0 ≡ w.0 = some_is x.0 w.0 (sym x.1 ∙ w.1) in
                  sender_next fits all past rest opening k qs (Serves c.session now bytes) mid after s c.session c.xid w.0 y f.0 w.1 w.2.0 at gone.1 (x.2 ∙ ap (λ (z : Session). z.closing) one) w.2.1 w.2.2
            ]
              where
                x : (x : Session) × (numbered k.sessions c.session ≡ Some x)
                x = also_numbered qs k.sessions c.session f.0 (sym s.kept.made.1) f.3

                server_is : (happens k (Serves c.session now bytes)).core.server ≡ (server_step k.server (event.Got c.session (ask_message f.1) now)).0
                server_is = ap (λ (o : Option Session). (serves k c.session now bytes o).core.server) x.1 ∙ ap (λ (b : Bool). (serves_unless k c.session now bytes x.0 b).core.server) (unhung_up s.kept c.session x.0 f.0 x.1 f.3 f.1 f.2 f.4) ∙ ap (λ (r : Result Message WireFault). (serves_if k c.session now x.0 r).core.server) (serves_read fits (book_at opening k all) k qs c.session now bytes mid s.kept f)

            serve : Step all past rest opening k qs (Serves c.session now bytes) mid after → slice_get (happens k (Serves c.session now bytes)).core.server.waiting i ≡ Some c → numbered (happens k (Serves c.session now bytes)).core.sessions c.session ≡ Some y → Sender (past ++ moment k (Serves c.session now bytes) ∷ []) (happens k (Serves c.session now bytes)).core y c.session c.xid
            serve s there at = ask (asked_only fits k qs c.session now bytes mid s.finds (λ z found. owned_before k (Serves c.session now bytes) c.session z y found at gone.0) c.xid b read) s there at

-- ---- points of changes

-- an operation has it as before, or has it by what is made in this step, as the one that a session remembers
abbrev OldPoint : Core → (p : ℕ) → (q : ℕ) → Type 0
OldPoint k p q = (o : Op) × (slice_get k.ops p ≡ Some o) × (changes o.word ≡ true) × (o.point ≡ Some q)

abbrev NewPoint : Core → Event → CoreStep → (p q : ℕ) → Type 0
NewPoint k e t p q = (q ≡ k.steps + 1) × (k.steps + 1 ≤ t.core.steps) × ((g : GrewBy k e t) × (x : Session) × (numbered k.sessions g.session ≡ Some x) × (x.closing ≡ Some p))

record Points (k : Core) (e : Event) (t : CoreStep) : Type 0 where
  by : (p q : ℕ) (r : Op) → slice_get t.core.ops p ≡ Some r → changes r.word ≡ true → r.point ≡ Some q → OldPoint k p q ⊎ NewPoint k e t p q

same_points : (k : Core) (e : Event) (t : CoreStep) → t.core.ops ≡ k.ops → Points k e t
same_points k e t same = record { by = λ p q r at alters point. inl (r, ap (λ (l : List Op). slice_get l p) (sym same) ∙ at, alters, point) }

-- an end gives no change its point
acted_point : (o : Op) (c : client.State) (taken : List TakenCall) (step : ℕ) (acts : ClientStep) → changes (op_after o c taken step acts).word ≡ true → (changes o.word ≡ true) × ((op_after o c taken step acts).point ≡ o.point)
acted_point o c taken step acts = by acts.ended
  where
    word : (w : Word) (u : Outcome) (x : ℕ) → changes w ≡ true → point_if (has_point w u) taken x step o.point ≡ o.point
    word words.Open u x e = absurd cc
    word _ u x e = refl

    by : (e : Option Ended) → changes (op_after o c taken step (record acts { ended = e })).word ≡ true → (changes o.word ≡ true) × ((op_after o c taken step (record acts { ended = e })).point ≡ o.point)
    by None e = (e, refl)
    by (Some u) e = (e, word o.word u.outcome u.rests_on e)

acted_points : (k : Core) (e : Event) (t : CoreStep) (place : Option ℕ) (c : client.State) (taken : List TakenCall) (step : ℕ) (acts : ClientStep) → t.core.ops ≡ ops_with k.ops place c taken step acts → Points k e t
acted_points k e t place c taken step acts is = record { by = λ p q r at alters point. by_place place is p q r (ap (λ (l : List Op). slice_get l p) (sym is) ∙ at) alters point }
  where
    at_place : (l : ℕ) (o : Option Op) → slice_get k.ops l ≡ o → (p q : ℕ) (r : Op) → slice_get (ops_after k.ops l o c taken step acts) p ≡ Some r → changes r.word ≡ true → r.point ≡ Some q → OldPoint k p q ⊎ NewPoint k e t p q
    at_place l None none p q r at alters point = inl (r, at, alters, point)
    at_place l (Some o) there p q r at alters point = elim (of_replaced k.ops l (op_after o c taken step acts) p r at) [
      | inr old ↦ inl (r, old.1, alters, point)
      | inl new ↦ (let w = acted_point o c taken step acts (ap (λ (z : Op). changes z.word) (sym new.1) ∙ alters) in inl (o, ap (slice_get k.ops) new.0 ∙ there, w.0, sym w.1 ∙ ap (λ (z : Op). z.point) (sym new.1) ∙ point))
    ]

    by_place : (place : Option ℕ) → t.core.ops ≡ ops_with k.ops place c taken step acts → (p q : ℕ) (r : Op) → slice_get (ops_with k.ops place c taken step acts) p ≡ Some r → changes r.word ≡ true → r.point ≡ Some q → OldPoint k p q ⊎ NewPoint k e t p q
    by_place None is p q r at alters point = inl (r, at, alters, point)
    by_place (Some l) is p q r at alters point = at_place l (slice_get k.ops l) refl p q r at alters point

-- what a change that is made points
pointed_points : (ops : List Op) (closing : Option ℕ) (step : ℕ) (changed : Option ℕ) (p q : ℕ) (r : Op) → slice_get (pointed_at ops closing step changed) p ≡ Some r → r.point ≡ Some q → (slice_get ops p ≡ Some r) ⊎ ((closing ≡ Some p) × (q ≡ step) × ((file : ℕ) × (changed ≡ Some file)))
pointed_points ops None step changed p q r at point = inl at
pointed_points ops (Some l) step None p q r at point = inl at
pointed_points ops (Some l) step (Some file) p q r at point = by (slice_get ops l) refl at
  where
    by : (o : Option Op) → slice_get ops l ≡ o → slice_get (pointed ops l file step o) p ≡ Some r → (slice_get ops p ≡ Some r) ⊎ ((Some l ≡ Some p) × (q ≡ step) × ((f : ℕ) × (Some file ≡ Some f)))
    by None none at = inl at
    by (Some o) there at = elim (of_replaced ops l (record o { file = file; point = Some step }) p r at) [
      | inr old ↦ inl old.1
      | inl new ↦ inr (ap (λ (n : ℕ). Some n) (sym new.0), some_is q step (sym point ∙ ap (λ (z : Op). z.point) new.1), (file, refl))
    ]

drop_all : {A : Type 0} (xs : List A) (n : ℕ) → n ≡ length xs → drop n xs ≡ []
drop_all [] zero e = refl
drop_all [] (suc n) e = refl
drop_all (x ∷ xs) zero e = absurd (omega (arith, e))
drop_all (x ∷ xs) (suc n) e = drop_all xs n (omega (arith, e))

length_replicate : (n y : ℕ) → length (replicate n y) ≡ n
length_replicate zero y = refl
length_replicate (suc n) y = ap suc (length_replicate n y)

-- where the journal stays no file was changed
none_changed : (entries : List ℕ) (count step : ℕ) (journal : List Entry) → entries ++ replicate count step ≡ entries → changed_file (newest_entries journal count) ≡ None
none_changed entries count step journal same =
    let both = length-append entries (replicate count step) in
    let own = length_replicate count step in
    let all_ = ap length same in
    let zero_ : count ≡ 0 = omega (arith, both, own, all_) in
    let from : length journal - count ≡ length journal = omega (arith, zero_) in
    ap changed_file (drop_all journal (length journal - count) from)

no_file : {A : Type 0} (o : Option ℕ) (f : ℕ) → o ≡ None → o ≡ Some f → A
no_file o f none some = nothing_there f (sym none ∙ some)

points_by : (k : Core) (e : Event) → Points k e (happens k e)
points_by k e = what_happens k e (Points k e) (record {
  nothing = same_points k e _ refl;
  idle = same_points k e _ refl;
  joins = λ c seat is. same_points k e _ refl;
  refuses = λ c seat is. same_points k e _ refl;
  does = λ c now d seat is. record {
    by = λ p q r at alters point. elim (of_appended k.ops _ p r at) [
      | inr old ↦ inl (r, old, alters, point)
      | inl last ↦ (let step = command_step seat.client d now in let w = acted_point (begun c (word_of d) (file_of d) (value_at_begin seat.client (word_of d) (file_of d) step.1.ended) (k.steps + 1)) step.0 [] (k.steps + 1) step.1 (ap (λ (z : Op). changes z.word) (sym last.1) ∙ alters) in nothing_there q (sym w.1 ∙ ap (λ (z : Op). z.point) (sym last.1) ∙ point))
    ];
  };
  takes = λ n now bytes x m is there unhung read. subst (λ (w : Event). Points k w (server_got k n now x m)) (sym is) (taken n now bytes x m there read (Rattle.kept_promise.proofs.EntriesGrow.taken_grows k n now bytes x m read));
  hears = λ n now bytes owner seat is. acted_points k e _ seat.place _ _ (k.steps + 1) _ refl;
  settles = λ now is. subst (λ (w : Event). Points k w (core_settles k now)) (sym is) (settled now (Rattle.kept_promise.proofs.EntriesGrow.settled_grows k now));
  cuts = λ c seat is. acted_points k e _ seat.place _ _ (k.steps + 1) _ refl;
  hangs = λ n x is there unhung. same_points k e _ refl;
  closes = λ n now bytes x is there unhung. same_points k e _ refl;
  raw_joins = λ is. same_points k e _ refl;
  raw_refuses = λ is. same_points k e _ refl;
})
  where
    served_on : (n now m t : ℕ) (bytes z : List ℕ) → Serves n now bytes ≡ Serves m t z → n ≡ m
    served_on n now m t bytes z e = cc

    not_settles : {A : Type 0} (n now t : ℕ) (bytes : List ℕ) → Serves n now bytes ≡ Settles t → A
    not_settles n now t bytes e = absurd cc

    not_serves : {A : Type 0} (n now t : ℕ) (bytes : List ℕ) → Settles t ≡ Serves n now bytes → A
    not_serves n now t bytes e = absurd cc

    taken : (n now : ℕ) (bytes : List ℕ) (x : Session) (m : Message) → numbered k.sessions n ≡ Some x → parse_of (server_waits k n) bytes ≡ Ok m → Grows k (Serves n now bytes) (server_got k n now x m) → Points k (Serves n now bytes) (server_got k n now x m)
    taken n now bytes x m there read g = record {
      by = λ p q r at alters point.
          let step = server_step k.server (event.Got n m now) in
          elim (pointed_points k.ops x.closing (k.steps + 1) (changed_file (newest_entries step.0.journal step.1.entries)) p q r at point) [
            | inl old ↦ inl (r, old, alters, point)
            | inr new ↦ elim g.journal [
              | inl same ↦ no_file (changed_file (newest_entries step.0.journal step.1.entries)) new.2.0 (none_changed k.entries step.1.entries (k.steps + 1) step.0.journal same.1) new.2.1
              | inr grew ↦ inr (new.1, omega arith, (grew, x, elim grew.by [ inl by ↦ ap (numbered k.sessions) (sym (served_on n now grew.session by.0 bytes by.1 by.3)) ∙ there | inr by ↦ not_settles n now by.0 bytes by.2 ], new.0))
            ]
          ];
    }

    settled : (now : ℕ) → Grows k (Settles now) (core_settles k now) → Points k (Settles now) (core_settles k now)
    settled now g = record { by = λ p q r at alters point. of_those (ready_by k.server now) refl p q r at alters point }
      where
        ops_of : server.State × ServerStep → List Op
        ops_of step = settled_by k (changed_file (newest_entries step.0.journal step.1.entries)) step.1.told

        told_is : (s : server.State) (c : FileChange) (w : Wanted) → (makes_change s c w).1.told ≡ announced.Settled c.session c.xid
        told_is s c (wanted.Content content) = refl
        told_is s c (wanted.Asked a) = refl

        of_those : (next : Option FileChange) → ready_by k.server now ≡ next → (p q : ℕ) (r : Op) → slice_get (core_settles k now).core.ops p ≡ Some r → changes r.word ≡ true → r.point ≡ Some q → OldPoint k p q ⊎ NewPoint k (Settles now) (core_settles k now) p q
        of_those None none p q r at alters point = inl (r, ap (λ (next : Option FileChange). let step = settles_by k.server false now next in slice_get (settled_by k (changed_file (newest_entries step.0.journal step.1.entries)) step.1.told) p) (sym none) ∙ at, alters, point)
        of_those (Some c) is p q r at alters point = at_session (numbered k.sessions c.session) refl
          where
            step : server.State × ServerStep
            step = server_step k.server (event.Settle now)

            told : (server_step k.server (event.Settle now)).1.told ≡ announced.Settled c.session c.xid
            told = ap (λ (next : Option FileChange). (settles_by k.server false now next).1.told) is ∙ told_is (closing_at (record k.server { waiting = without k.server.waiting c.session }) now) c c.what

            at_session : (o : Option Session) → numbered k.sessions c.session ≡ o → OldPoint k p q ⊎ NewPoint k (Settles now) (core_settles k now) p q
            at_session o home = elim (by o home) [
              | inl old ↦ inl (r, old, alters, point)
              | inr new ↦ elim g.journal [
                | inl same ↦ no_file (changed_file (newest_entries (server_step k.server (event.Settle now)).0.journal (server_step k.server (event.Settle now)).1.entries)) new.3.0 (none_changed k.entries (server_step k.server (event.Settle now)).1.entries (k.steps + 1) (server_step k.server (event.Settle now)).0.journal same.1) new.3.1
                | inr grew ↦ inr (new.2, omega arith, (grew, new.0, elim grew.by [ inl b ↦ not_serves grew.session b.0 now b.1 b.3 | inr b ↦ ap (numbered k.sessions) (sym b.4 ∙ ap (λ (z : FileChange). z.session) (some_is b.1 c (sym b.3 ∙ ap (λ (m : ℕ). ready_by k.server m) (sym (settled_at now b.0 b.2)) ∙ is))) ∙ home ∙ new.1.0 ], new.1.1))
              ]
            ]
              where
                there : slice_get (settled_ops k.ops (k.steps + 1) (changed_file (newest_entries (server_step k.server (event.Settle now)).0.journal (server_step k.server (event.Settle now)).1.entries)) (numbered k.sessions c.session)) p ≡ Some r
                there = ap (λ t. slice_get (settled_by k (changed_file (newest_entries (server_step k.server (event.Settle now)).0.journal (server_step k.server (event.Settle now)).1.entries)) t) p) (sym told) ∙ at

                by : (o : Option Session) → numbered k.sessions c.session ≡ o → (slice_get k.ops p ≡ Some r) ⊎ ((x : Session) × ((o ≡ Some x) × (x.closing ≡ Some p)) × (q ≡ k.steps + 1) × ((f : ℕ) × (changed_file (newest_entries (server_step k.server (event.Settle now)).0.journal (server_step k.server (event.Settle now)).1.entries) ≡ Some f)))
                by None none = inl (ap (λ (o : Option Session). slice_get (settled_ops k.ops (k.steps + 1) (changed_file (newest_entries (server_step k.server (event.Settle now)).0.journal (server_step k.server (event.Settle now)).1.entries)) o) p) (sym none) ∙ there)
                by (Some x) some = elim (pointed_points k.ops x.closing (k.steps + 1) (changed_file (newest_entries (server_step k.server (event.Settle now)).0.journal (server_step k.server (event.Settle now)).1.entries)) p q r (ap (λ (o : Option Session). slice_get (settled_ops k.ops (k.steps + 1) (changed_file (newest_entries (server_step k.server (event.Settle now)).0.journal (server_step k.server (event.Settle now)).1.entries)) o) p) (sym some) ∙ there) point) [
                  | inl old ↦ inl old
                  | inr new ↦ inr (x, (refl, new.0), new.1, new.2)
                ]

-- ---- what was made

zero_or_one : (c : Call) → (change_number c ≡ 0) ⊎ (change_number c ≡ 1)
zero_or_one (Commit temp file size) = inr refl
zero_or_one (Walks w) = by (is_creating w)
  where
    by : (b : Bool) → (let n : ℕ = cond b 1 0 in (n ≡ 0) ⊎ (n ≡ 1))
    by true = inr refl
    by false = inl refl
zero_or_one c = inl refl

made_event : FitLaws → (all past rest : List Moment) (opening : List Opening) (k : Core) (qs : List Queue) (e : Event) (mid after : List Queue) → Step all past rest opening k qs e mid after → AllAwaited all past opening k qs
    → (p q : ℕ) (o : Op) → slice_get (happens k e).core.ops p ≡ Some o → changes o.word ≡ true → o.point ≡ Some q → MadeBy (past ++ moment k e ∷ []) opening (happens k e).core o q
made_event fits all past rest opening k qs e mid after s h p q r at alters point = elim ((points_by k e).by p q r at alters point) [
  | inl old ↦ was old
  | inr new ↦ now new.0 new.1 new.2.0 new.2.1 new.2.2 new.2.3
]
  where
    here : Contains (past ++ moment k e ∷ []) (moment k e)
    here = Contains-append_right past (moment k e ∷ []) (moment k e) (Contains-push [] (moment k e))

    turned : OpsAfter e k (happens k e).core.ops × (k.steps ≤ (happens k e).core.steps)
    turned = ops_after_event fits all past rest opening k qs e mid after s

    was : OldPoint k p q → MadeBy (past ++ moment k e ∷ []) opening (happens k e).core r q
    was (o, there, alters_, pointed_) =
        let m = h.made p q o there alters_ pointed_ in
        let stay = stays_in (book_at opening k all) k qs e (happens k e).core.ops s.kept turned.0 p o (ap (λ (l : List Op). slice_get l p) s.kept.ops ∙ there) in
        let same : stay.0 ≡ r = some_is stay.0 r (sym stay.1 ∙ at) in
        record {
          moment_ = m.moment_;
          there = Contains-append_left past (moment k e ∷ []) m.moment_ m.there;
          step_is = m.step_is;
          grows = grown_later past opening k e m.moment_ m.grows;
          held = subst (λ (z : Op). Held (past ++ moment k e ∷ []) (happens k e).core.steps z m.grows.session m.grows.xid) same (held_later past (moment k e) k.steps (happens k e).core.steps m.grows.session m.grows.xid o stay.0 stay.2 turned.1 m.held);
        }

    now : q ≡ k.steps + 1 → k.steps + 1 ≤ (happens k e).core.steps → (g : GrewBy k e (happens k e)) → (x : Session) → numbered k.sessions g.session ≡ Some x → x.closing ≡ Some p → MadeBy (past ++ moment k e ∷ []) opening (happens k e).core r q
    now step_is stepped g x home known = elim (by g.by) [
      | inl old ↦ was old
      | inr held ↦ record { moment_ = moment k e; there = here; step_is = sym step_is; grows = grown_now fits all past rest opening k qs e mid after s h.entered g (x, home, owned); held = held }
    ]
      where
        owned : is_raw x ≡ false
        owned = owned_closing s.kept g.session x p home known

        of_settling : (now : ℕ) (c : FileChange) → ready_by k.server now ≡ Some c → c.session ≡ g.session → c.xid ≡ g.xid → OldPoint k p q ⊎ Held (past ++ moment k e ∷ []) (happens k e).core.steps r g.session g.xid
        of_settling now c first session number =
            let z = ready_waits k.server now c first in
            let w = waited_before fits all past rest opening k qs e mid after s h z.0 c z.1 (λ v found. ap is_raw (some_is v x (sym found ∙ ap (numbered k.sessions) session ∙ home)) ∙ owned) in
            let mine : x ≡ w.0 = some_is x w.0 (sym home ∙ ap (numbered k.sessions) (sym session) ∙ w.2) in
            inr (subst (λ (i : ℕ). Held (past ++ moment k e ∷ []) (happens k e).core.steps r i g.xid) session (subst (λ (i : ℕ). Held (past ++ moment k e ∷ []) (happens k e).core.steps r c.session i) number
            (held_next fits all past rest opening k qs e mid after s c.session c.xid w.0 w.1 w.2 w.3.0 (λ uncut. stepped) w.3.1 w.3.2 p r (ap (λ (v : Session). v.closing) (sym mine) ∙ known) at)))

        by : ByEvent k e g.session g.xid → OldPoint k p q ⊎ Held (past ++ moment k e ∷ []) (happens k e).core.steps r g.session g.xid
        by (inr (now, c, is, first, session, number)) = of_settling now c first session number
        by (inl (now, bytes, b, is, read, may)) = of_serving
          where
            ask : FindsAsk qs g.session bytes mid → Step all past rest opening k qs (Serves g.session now bytes) mid after → slice_get (happens k (Serves g.session now bytes)).core.ops p ≡ Some r → k.steps + 1 ≤ (happens k (Serves g.session now bytes)).core.steps → OldPoint k p q ⊎ Held (past ++ moment k (Serves g.session now bytes) ∷ []) (happens k (Serves g.session now bytes)).core.steps r g.session g.xid
            ask f t there stepped_ = elim (zero_or_one f.1.call) [
              | inl none ↦ inl (r, ap (λ (l : List Op). slice_get l p) (sym (serves_still fits (book_at opening k all) k qs g.session now bytes mid t.kept f none)) ∙ there, alters, point)
              | inr one ↦
                  let w = ask_before fits all past rest opening k qs g.session now bytes mid after t f h g.xid b read one in
                  let mine : x ≡ w.0 = some_is x w.0 (sym home ∙ w.1) in
                  inr (held_next fits all past rest opening k qs (Serves g.session now bytes) mid after t g.session g.xid w.0 f.0 w.1 w.2.0 (λ uncut. stepped_) w.2.1 w.2.2 p r (ap (λ (v : Session). v.closing) (sym mine) ∙ known) there)
            ]

            serve : Step all past rest opening k qs (Serves g.session now bytes) mid after → slice_get (happens k (Serves g.session now bytes)).core.ops p ≡ Some r → k.steps + 1 ≤ (happens k (Serves g.session now bytes)).core.steps → OldPoint k p q ⊎ Held (past ++ moment k (Serves g.session now bytes) ∷ []) (happens k (Serves g.session now bytes)).core.steps r g.session g.xid
            serve t there stepped_ = ask (asked_only fits k qs g.session now bytes mid t.finds (λ v found. ap is_raw (some_is v x (sym found ∙ home)) ∙ owned) g.xid b read) t there stepped_

            of_serving : OldPoint k p q ⊎ Held (past ++ moment k e ∷ []) (happens k e).core.steps r g.session g.xid
            of_serving = subst (λ (z : Event). Step all past rest opening k qs z mid after → slice_get (happens k z).core.ops p ≡ Some r → k.steps + 1 ≤ (happens k z).core.steps → OldPoint k p q ⊎ Held (past ++ moment k z ∷ []) (happens k z).core.steps r g.session g.xid) (sym is) serve s at stepped

pub carried_awaited : FitLaws → Carried AllAwaited
carried_awaited fits = record {
  first = λ all opening tree count kept. record {
    entered = (carried_entered fits).first all opening tree count kept;
    ups = λ n q at_. none_numbered n q at_;
    waiting = λ i c y there home cut. nothing_there c there;
    made = λ p q o there alters point. nothing_there o there;
  };
  steps = λ all past rest opening k qs e mid after s h. record {
    entered = entered_event fits all past rest opening k qs e mid after s h.entered;
    ups = ups_event fits all past rest opening k qs e mid after s h.ups;
    waiting = waiting_event fits all past rest opening k qs e mid after s h;
    made = made_event fits all past rest opening k qs e mid after s h;
  };
  adjusts = λ all past opening k qs index seats same h. record {
    entered = (carried_entered fits).adjusts all past opening k qs index seats same h.entered;
    ups = h.ups;
    waiting = h.waiting;
    made = λ p q o there alters point. (let m = h.made p q o there alters point in record { moment_ = m.moment_; there = m.there; step_is = m.step_is; grows = record { session = m.grows.session; xid = m.grows.xid; takes = m.grows.takes; comes = m.grows.comes; new = m.grows.new; journal_is = m.grows.journal_is; steps = m.grows.steps; sessions = m.grows.sessions }; held = m.held });
  };
}
  where
    none_numbered : {B : Type 0} (n : ℕ) (q : Queue) → numbered [] n ≡ Some q → B
    none_numbered zero q at_ = nothing_there q at_
    none_numbered (suc n) q at_ = nothing_there q at_

-- ---- what it makes of the promise

pub changed_by : (all past : List Moment) (opening : List Opening) (k : Core) (qs : List Queue) → AllAwaited all past opening k qs → (p q : ℕ) (o : Op) → slice_get k.ops p ≡ Some o → changes o.word ≡ true → o.point ≡ Some q → IsChangedBy (book_at opening k past) o q
changed_by all past opening k qs h p q o there alters point = (let m = h.made p q o there alters point in record { moment = m.moment_; there = m.there; step_is = m.step_is; grows = m.grows; awaited = m.held.awaited })

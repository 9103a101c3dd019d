-- A session that its client left gets no new call that may change a file, and remembers the operation that it did.
use Rattle.std.proofs.Common.{◌⊎◌, inl, inr, ◌≡◌, ℕ, zero, suc, ◌+◌, ◌≤◌, List, [], ◌∷◌, ◌++◌, length, Option, Some, None, Bool, true, false, refl, sym, ap, ◌∙◌, subst, arith, append-nil, map, Ok, Result, Err}
use Rattle.std.proofs.lemmas.List.{length-append}
use Rattle.tree_reading.specs.Tree.{Tree}
use Rattle.tree_calls.specs.Waiting.{some}
use Rattle.tree_calls.specs.declared.asked.Outcome.{Outcome}
use Rattle.tree_calls.specs.declared.asked.Outcome.TheVariants.{Answered, Waits as ToWait}
use Rattle.server_core.specs.State as server
use Rattle.server_core.specs.Step.{asks_tree}
use Rattle.server_core.specs.Closing as closing
use Rattle.server_core.specs.Step as stepping
use Rattle.client_state.specs.State as client
use Rattle.wire.specs.declared.fault.WireFault.TheVariants as fault
use Rattle.register_model.specs.declared.op.Word.TheVariants as words
use Rattle.server_core.specs.declared.event.ServerStep.{ServerStep}
use Rattle.path_calls.specs.Walk.{begun}
use Rattle.path_calls.specs.declared.walk.Walk.{Walk}
use Rattle.client_state.specs.View.{walk_left}
use Rattle.kept_promise.proofs.Common.{reply_message, nat_lt, ◌&&◌, not, cond, filter, ◌==◌, Command, parse_of, got_if, stands, connect, has_room, FileChange, may_ask, command_step, ended_by, ClientStep, Ended, Task, Opening, Word, word_of, Core, Seat, Session, Event, Event.Joins, Event.Does, Event.Serves, Event.Hears, Event.Settles, Event.Cuts, Event.Hangs, CoreStep, numbered, with_numbered, server_waits, session_of, serves_if, serves, is_newest, hears_if, hears_at, hears, commanded_session, commanded_sessions, does, joins_as, joins, settles, cut_session, cuts_if, cuts, hangs_if, hangs, happens, closing_with, Moment, unless, Call, Call.Commit, Ask, Told, Queue, ask_message, Loss, Loss.Nothing, Loss.Down_of, Loss.Up_of, no_queue, Call.Walks, has_waiting, Book, is_raw, WireFault, Message, serves_unless, loses, raw_joins, raw_joins_as, raw_session, Event.RawJoins}
use Rattle.kept_promise.proofs.StepCases.{command_cases}
use Rattle.kept_promise.proofs.CallsKeep.{IsByCommit, is_of_files, Waits, got_if_keeps, makes_call, walk_made}
use Rattle.kept_promise.proofs.Statements.{CallFits}
use Rattle.kept_promise.proofs.Lists.{some_is, nothing_there, same_or_not, set_count, true_and_false, AllOf, all_at}
use Rattle.kept_promise.proofs.Keys.{own}
use Rattle.kept_promise.proofs.Messages.{AllAsks}
use Rattle.kept_promise.proofs.Fits.{FitLaws}
use Rattle.kept_promise.proofs.Turns.{also_numbered, numbered_within, owned_up, owned_down, unhung_up, unnoted}
use Rattle.kept_promise.proofs.Facts.{IsKept, commits_in, change_number}
use Rattle.kept_promise.proofs.Leading.{Sends, ups_put_in, ups_put, downs_put_in, downs_put, downs_lost, ups_lost, queues_lost, queues_after}
use Rattle.kept_promise.proofs.RunsCarried.{book_at, Finds, FindsAsk, Step}
use Rattle.kept_promise.proofs.Serves.{parsed_at}
use Rattle.kept_promise.proofs.Replies.{reply_taken}
use Rattle.kept_promise.proofs.Waitings.{own_more, own_there}
use Rattle.kept_promise.proofs.TakenOut.{own_fewer, made_waiting, WhatSettles, settles_one, settles_none, what_settles}
use Rattle.kept_promise.proofs.Takes.{commits_tail}
use Rattle.kept_promise.proofs.Makings.{called_making}
use Rattle.kept_promise.proofs.PathNames.{IsWalkSmall, is_building, is_going, is_creating, making_is, going_creates}
use Rattle.kept_promise.proofs.Departures.{comes_by, called_going}
use Rattle.kept_promise.proofs.GoingSteps.{coming}
use Rattle.trace_ends.specs.Core.{Loss.Made, idles, serves_none}
use Rattle.kept_promise.proofs.AnyCall.{any_waits}
use Rattle.kept_promise.proofs.Places.{of_with, of_more}

-- ---- the queues after an event

-- each queue has this
abbrev pub QueuesHave : (ℕ → Queue → Type 0) → List Queue → Type 0
QueuesHave P qs = (n : ℕ) (q : Queue) → numbered qs n ≡ Some q → P n q

pub have_with : (P : ℕ → Queue → Type 0) (qs : List Queue) (m : ℕ) (r : Queue) → QueuesHave P qs → P m r → QueuesHave P (with_numbered qs m r)
have_with P qs m r h p n q e = elim (of_with qs m n r q e) [
  | inl at ↦ subst (λ (z : ℕ). P z q) (sym at.0) (subst (P m) (sym at.1) p)
  | inr was ↦ h n q was
]

pub have_ups : (P : ℕ → Queue → Type 0) (sessions : List Session) (qs : List Queue) (o : Option ℕ) (asks : List Ask) → QueuesHave P qs
    → ((n : ℕ) (x : Session) (q : Queue) → o ≡ Some n → numbered sessions n ≡ Some x → numbered qs n ≡ Some q → P n q → P n (record q { ups = unless x.hung q.ups asks })) → QueuesHave P (ups_put sessions qs o asks)
have_ups P sessions qs None asks h put = h
have_ups P sessions qs (Some m) asks h put = by (numbered sessions m) (numbered qs m) refl refl
  where
    by : (x : Option Session) (q : Option Queue) → numbered sessions m ≡ x → numbered qs m ≡ q → QueuesHave P (ups_put_in qs m asks x q)
    by (Some x) (Some q) e f = have_with P qs m (record q { ups = unless x.hung q.ups asks }) h (put m x q refl e f (h m q f))
    by _ _ e f = h

pub have_downs : (P : ℕ → Queue → Type 0) (Q : ℕ × Told → Type 0) (sessions : List Session) (ps : List (ℕ × Told)) (qs : List Queue) → AllOf Q ps → QueuesHave P qs
    → ((n : ℕ) (t : Told) (q : Queue) (lost : Bool) → Q (n, t) → P n q → P n (record q { downs = unless lost q.downs (t ∷ []) })) → QueuesHave P (downs_put sessions qs ps)
have_downs P Q sessions [] qs all h put = h
have_downs P Q sessions (p ∷ ps) qs all h put = have_downs P Q sessions ps (downs_put_in qs p (numbered sessions p.0) (numbered qs p.0)) all.1 (by (numbered sessions p.0) (numbered qs p.0) refl) put
  where
    by : (x : Option Session) (q : Option Queue) → numbered qs p.0 ≡ q → QueuesHave P (downs_put_in qs p x q)
    by (Some x) (Some q) f = have_with P qs p.0 (record q { downs = unless x.cut q.downs (p.1 ∷ []) }) h (put p.0 p.1 q x.cut all.0 (h p.0 q f))
    by _ _ f = h

pub have_lost : (P : ℕ → Queue → Type 0) (qs : List Queue) (loss : Loss) → QueuesHave P qs → P (suc (length qs)) no_queue → ((n : ℕ) (q : Queue) → P n q → P n (record q { downs = [] })) → ((n : ℕ) (q : Queue) → P n q → P n (record q { ups = [] })) → QueuesHave P (queues_lost qs loss)
have_lost P qs Nothing h new down up = h
have_lost P qs Made h new down up = λ n q e. elim (of_more qs n no_queue q e) [
  | inl at ↦ subst (λ (z : ℕ). P z q) (sym at.0) (subst (P (suc (length qs))) (sym at.1) new)
  | inr was ↦ h n q was
]
have_lost P qs (Down_of m) h new down up = by (numbered qs m) refl
  where
    by : (q : Option Queue) → numbered qs m ≡ q → QueuesHave P (downs_lost qs m q)
    by None e = h
    by (Some q) e = have_with P qs m (record q { downs = [] }) h (down m q (h m q e))
have_lost P qs (Up_of m) h new down up = by (numbered qs m) refl
  where
    by : (q : Option Queue) → numbered qs m ≡ q → QueuesHave P (ups_lost qs m q)
    by None e = h
    by (Some q) e = have_with P qs m (record q { ups = [] }) h (up m q (h m q e))

-- what an event takes off is the first of what it is taken from
pub taken_off : (P : ℕ → Queue → Type 0) (k : Core) (qs mid : List Queue) (e : Event) → ((n : ℕ) (q : Queue) (a : Ask) (us : List Ask) → q.ups ≡ a ∷ us → P n q → P n (record q { ups = us })) → ((n : ℕ) (q : Queue) (t : Told) (ts : List Told) → q.downs ≡ t ∷ ts → P n q → P n (record q { downs = ts })) → Finds k qs e mid → QueuesHave P qs → QueuesHave P mid
taken_off P k qs mid (Joins c) up down f h = subst (QueuesHave P) (sym f.5) h
taken_off P k qs mid (Does c now d) up down f h = subst (QueuesHave P) (sym f.3) h
taken_off P k qs mid (Serves n now bytes) up down (inl f) h = subst (QueuesHave P) (sym f.6) (have_with P qs n (record f.0 { ups = f.2 }) h (up n f.0 f.1 f.2 f.4 (h n f.0 f.3)))
taken_off P k qs mid (Serves n now bytes) up down (inr (inl f)) h = subst (QueuesHave P) (sym f.mid_is) h
taken_off P k qs mid (Serves n now bytes) up down (inr (inr f)) h = subst (QueuesHave P) (sym f.3) h
taken_off P k qs mid (Hears n now bytes) up down (inl f) h = subst (QueuesHave P) (sym f.6) (have_with P qs n (record f.0 { downs = f.2 }) h (down n f.0 f.1 f.2 f.4 (h n f.0 f.3)))
taken_off P k qs mid (Hears n now bytes) up down (inr f) h = subst (QueuesHave P) (sym f.mid_is) h
taken_off P k qs mid (Settles now) up down f h = subst (QueuesHave P) (sym f) h
taken_off P k qs mid (Cuts c) up down f h = subst (QueuesHave P) (sym f.2) h
taken_off P k qs mid (Hangs n) up down f h = subst (QueuesHave P) (sym f.2) h
taken_off P k qs mid RawJoins up down f h = subst (QueuesHave P) (sym f.2) h

-- ---- a client that isn't joined sends nothing, and answers at once

abbrev IsSilent : client.State × ClientStep → Type 0
IsSilent r = (r.1.send ≡ []) × ((e : Ended) × (r.1.ended ≡ Some e))

not_joined : (s : client.State) → s.linked ≡ false → may_ask s ≡ false
not_joined s e = ap (λ (b : Bool). elim b as (λ (x : Bool). Bool) [ true ↦ Rattle.client_state.specs.Ending.has_xids s.next_xid | false ↦ false ]) e

both_first : (a b : Bool) → (a && b) ≡ true → a ≡ true
both_first true b e = refl
both_first false b e = absurd cc

command_silent : (s : client.State) (d : Command) (now : ℕ) → s.linked ≡ false → IsSilent (command_step s d now)
command_silent s d now off = command_cases IsSilent s d now (record {
  busy = λ t is. (refl, (_, refl));
  answers = λ free opened o plain. (refl, (_, refl));
  fetches = λ file is free may. absurd (true_and_false (may_ask s) may (not_joined s off));
  asks = λ file c is free may at. absurd (true_and_false (may_ask s) may (not_joined s off));
  renews = λ file is free may. absurd (true_and_false (may_ask s) may (not_joined s off));
  opens_now = λ file c is free shut fresh. (refl, (_, refl));
  empties_now = λ file c is free shut fresh. (refl, (_, refl));
  walks = λ c is free may. absurd (true_and_false (may_ask s) (both_first (may_ask s) (nat_lt (s.next_xid + 1 + walk_left (begun c)) 4294967296) may) (not_joined s off));
  closes = λ file l is free may at. absurd (true_and_false (may_ask s) may (not_joined s off));
})

-- the session of a client that is joined is not cut
left_off : (opening : List Opening) (all : List Moment) (k : Core) (qs : List Queue) (c n : ℕ) (seat : Seat) (x : Session) → IsKept (book_at opening k all) k qs → numbered k.seats c ≡ Some seat → seat.session ≡ Some n → numbered k.sessions n ≡ Some x → x.cut ≡ true → seat.client.linked ≡ false
left_off opening all k qs c n seat x kept here newest at gone = by seat.client.linked refl
  where
    by : (b : Bool) → seat.client.linked ≡ b → b ≡ false
    by false e = refl
    by true e =
        let l = (kept.seats c seat here).linked e in
        let same : l.0 ≡ n = some_is l.0 n (sym l.2 ∙ newest) in
        let is : l.1 ≡ x = some_is l.1 x (sym l.3 ∙ ap (numbered k.sessions) same ∙ at) in
        absurd (true_and_false x.cut gone (ap (λ (z : Session). z.cut) (sym is) ∙ l.4))

closing_stays : (c : Option ℕ) (place : ℕ) (w : Word) (o : Option Ended) (e : Ended) → o ≡ Some e → closing_with c place w o ≡ c
closing_stays c place w o e is = ap (closing_with c place w) is ∙ by w
  where
    by : (w : Word) → closing_with c place w (Some e) ≡ c
    by words.Close = refl
    by w = refl

-- ---- what waits at the server

pub got_waits : (s : server.State) (n now : ℕ) (a : Ask) (b : Bool) → CallFits a.lbfs a.xid a.call → Waits s.waiting n (λ d. change_number a.call ≡ 1) (got_if s b n (ask_message a) now).0.waiting
got_waits s n now a b fits = by (makes_call a.call) refl
  where
    of_commit : (d : FileChange) (c : Call) → IsByCommit (ask_message (record { lbfs = a.lbfs; xid = a.xid; call = c })) d → change_number c ≡ 1
    of_commit d (Commit temp g size) h = refl
    of_commit d _ h = absurd h

    building : (w : Walk) → IsWalkSmall w → is_building w ≡ true → (b : Bool) → (got_if s b n (ask_message (record { lbfs = a.lbfs; xid = a.xid; call = Walks w })) now).0.waiting ≡ s.waiting
    building w small builds true = ap (λ (r : server.State × ServerStep). r.0.waiting) (called_making (closing.at s now) n a.xid w small builds)
    building w small builds false = refl

    -- by what the tree makes of a call that removes or renames
    asks : (w : Walk) → is_creating w ≡ true → (p : Tree × Outcome) → Waits s.waiting n (λ d. change_number (Walks w) ≡ 1) (asks_tree (closing.at s now) n a.xid (some p)).0.waiting
    asks w creates (t, Answered d) = inl refl
    asks w creates (t, ToWait c) = inr (coming n a.xid c, refl, refl, ap (λ (b : Bool). cond b 1 0) creates)

    going : (w : Walk) → IsWalkSmall w → is_going w ≡ true → (b : Bool) → Waits s.waiting n (λ d. change_number (Walks w) ≡ 1) (got_if s b n (ask_message (record { lbfs = a.lbfs; xid = a.xid; call = Walks w })) now).0.waiting
    going w small goes true = subst (λ (r : server.State × ServerStep). Waits s.waiting n (λ d. change_number (Walks w) ≡ 1) r.0.waiting) (sym (called_going (closing.at s now) n a.xid w small goes)) (asks w (going_creates w.left w.goal goes) (comes_by s.tree (server.held s.waiting) (has_waiting s.waiting n) w.dir w.goal))
    going w small goes false = inl refl

    by : (c : Bool) → makes_call a.call ≡ c → Waits s.waiting n (λ d. change_number a.call ≡ 1) (got_if s b n (ask_message a) now).0.waiting
    by false none = elim (got_if_keeps (λ r. Waits s.waiting n (IsByCommit (ask_message a)) r.waiting) s n (ask_message a) now (is_of_files a fits none) (λ temps waiting index moment w. w) b) [
      | inl same ↦ inl same
      | inr c ↦ inr (c.0, c.1, c.2, of_commit c.0 a.call c.3)
    ]
    by true some_ =
        let w = walk_made a.call some_ in
        let fit = subst (CallFits a.lbfs a.xid) w.1 fits in
        subst (λ (c : Call). Waits s.waiting n (λ d. change_number c ≡ 1) (got_if s b n (ask_message (record { lbfs = a.lbfs; xid = a.xid; call = c })) now).0.waiting) (sym w.1) (elim (making_is w.0.left w.0.goal w.2) [
          | inl builds ↦ inl (building w.0 fit.1 builds b)
          | inr goes ↦ going w.0 fit.1 goes b
        ])

-- ---- changes of a session

own_one : (n : ℕ) (ws : List FileChange) (c : FileChange) → length (own n (ws ++ c ∷ [])) ≤ length (own n ws) + 1
own_one n ws c = let e = ap (λ (l : List FileChange). length l) (own_more n ws c) in let l = length-append (own n ws) (own n (c ∷ [])) in let s = single (c.session == n) in omega (arith, e, l, s)
  where
    single : (b : Bool) → length (cond b (c ∷ []) []) ≤ 1
    single true = omega arith
    single false = omega arith

own_less : (n : ℕ) (c : FileChange) (cs : List FileChange) → length (own n cs) ≤ length (own n (c ∷ cs))
own_less n c cs = by (c.session == n)
  where
    by : (b : Bool) → length (own n cs) ≤ length (cond b (c ∷ own n cs) (own n cs))
    by true = omega arith
    by false = omega arith

own_filter : (n m : ℕ) (ws : List FileChange) → length (own n (filter (λ c. not (c.session == m)) ws)) ≤ length (own n ws)
own_filter n m [] = omega arith
own_filter n m (c ∷ ws) = by (c.session == m) (own_filter n m ws)
  where
    by : (b : Bool) → length (own n (filter (λ d. not (d.session == m)) ws)) ≤ length (own n ws) → length (own n (cond (not b) (c ∷ filter (λ d. not (d.session == m)) ws) (filter (λ d. not (d.session == m)) ws))) ≤ length (own n (c ∷ ws))
    by true le = let l = own_less n c ws in omega (arith, le, l)
    by false le = kept (c.session == n)
      where
        kept : (b : Bool) → length (cond b (c ∷ own n (filter (λ d. not (d.session == m)) ws)) (own n (filter (λ d. not (d.session == m)) ws))) ≤ length (cond b (c ∷ own n ws) (own n ws))
        kept true = omega (arith, le)
        kept false = le

-- ---- what an event leaves of a session that its client left

-- its client left it: it isn't one that never was a client's
abbrev pub IsLeft : Session → Type 0
IsLeft y = (is_raw y ≡ false) × (y.cut ≡ true)

-- it was there, and remembers the same close
abbrev pub SessionWas : Core → (n : ℕ) → Session → Type 0
SessionWas k n y = (x : Session) × (numbered k.sessions n ≡ Some x) × (y.closing ≡ x.closing)

abbrev pub SessionsWere : Core → List Session → Type 0
SessionsWere k sessions = (n : ℕ) (y : Session) → numbered sessions n ≡ Some y → IsLeft y → SessionWas k n y

were_same : (k : Core) → SessionsWere k k.sessions
were_same k n y at gone = (y, at, refl)

were_with : (k : Core) (m : ℕ) (x z : Session) → numbered k.sessions m ≡ Some x → z.closing ≡ x.closing → SessionsWere k (with_numbered k.sessions m z)
were_with k m x z at same n y is gone = elim (of_with k.sessions m n z y is) [
  | inl here ↦ (x, ap (numbered k.sessions) here.0 ∙ at, ap (λ (v : Session). v.closing) here.1 ∙ same)
  | inr was ↦ (y, was, refl)
]

-- what is on its way there, or waits, is no more than before
abbrev CommitsWere : Core → List Queue → (after : List FileChange) → (n : ℕ) → Queue → Type 0
CommitsWere k qs after n r = (q : Queue) × (numbered qs n ≡ Some q) × (commits_in r.ups + length (own n after) ≤ commits_in q.ups + length (own n k.server.waiting))

-- of each session that its client left
abbrev LeftSo : Core → List Queue → Core → (n : ℕ) → Queue → Type 0
LeftSo k qs after n r = (y : Session) → numbered after.sessions n ≡ Some y → IsLeft y → CommitsWere k qs after.server.waiting n r

-- what an event is to show
pub record Leaves (k : Core) (qs mid : List Queue) (t : CoreStep) : Type 0 where
  pub were : SessionsWere k t.core.sessions
  count : length mid ≡ length qs
  taken : QueuesHave (LeftSo k qs t.core) mid
  pub quiet : (n : ℕ) (y : Session) → t.session ≡ Some n → numbered t.core.sessions n ≡ Some y → IsLeft y → t.up ≡ []

pub no_asks : (rs : List ℕ) (us : List Ask) → [] ≡ map reply_message rs ++ map ask_message us → us ≡ []
no_asks [] [] e = refl
no_asks [] (a ∷ us) e = absurd cc
no_asks (r ∷ rs) us e = absurd cc

nothing_put : (b : Bool) (us asks : List Ask) → asks ≡ [] → unless b us asks ≡ us
nothing_put true us asks e = refl
nothing_put false us asks e = ap (λ l. us ++ l) e ∙ append-nil us

left_after : (k : Core) (qs mid : List Queue) (t : CoreStep) (s : Sends t) → length qs ≡ length k.sessions → Leaves k qs mid t → QueuesHave (LeftSo k qs t.core) (queues_after mid t s)
left_after k qs mid t s made l =
    let P = LeftSo k qs t.core in
    let one = have_lost P mid t.loss l.taken (λ y at gone. let x = l.were (suc (length mid)) y at gone in let w = numbered_within k.sessions (suc (length mid)) x.0 x.1 in let c = l.count in absurd (omega (arith, w, c, made))) (λ n q h. h)
    (λ n q h y at gone. let w = h y at gone in let le = w.2 in (w.0, w.1, omega (arith, le))) in
    let two = have_ups P t.core.sessions (queues_lost mid t.loss) t.session s.asks one (λ n x q is at there h y is_y gone.
    let none = no_asks s.replies s.asks (sym (l.quiet n y is is_y gone) ∙ s.up_is) in
    let w = h y is_y gone in
    let same = ap commits_in (nothing_put x.hung q.ups s.asks none) in
    let le = w.2 in
    (w.0, w.1, omega (arith, le, same))) in
    have_downs P (λ u. Unit {0}) t.core.sessions s.tolds (ups_put t.core.sessions (queues_lost mid t.loss) t.session s.asks) (all_at (λ p. Unit {0}) s.tolds (λ i p at. tt)) two (λ n u q lost f h. h)

-- nothing is taken, and no more waits
taken_none : (k : Core) (qs mid : List Queue) (t : CoreStep) → mid ≡ qs → ((n : ℕ) → length (own n t.core.server.waiting) ≤ length (own n k.server.waiting)) → QueuesHave (LeftSo k qs t.core) mid
taken_none k qs mid t same less n q at y is gone = let le = less n in (q, ap (λ (l : List Queue). numbered l n) (sym same) ∙ at, omega (arith, le))

no_less : (k : Core) (after : Core) → after.server.waiting ≡ k.server.waiting → (n : ℕ) → length (own n after.server.waiting) ≤ length (own n k.server.waiting)
no_less k after same n = let e = ap (λ ws. length (own n ws)) same in omega (arith, e)

-- with no session that sends up, where nothing is taken
leaves_plain : (k : Core) (qs mid : List Queue) (t : CoreStep) → SessionsWere k t.core.sessions → mid ≡ qs → t.session ≡ None → ((n : ℕ) → length (own n t.core.server.waiting) ≤ length (own n k.server.waiting)) → Leaves k qs mid t
leaves_plain k qs mid t were same none less = record { were = were; count = ap (λ (l : List Queue). length l) same; taken = taken_none k qs mid t same less; quiet = λ n y is at gone. nothing_there n (sym none ∙ is) }

-- what is noted of messages that came is nothing of it
leaves_noted : (k : Core) (qs mid : List Queue) (t : CoreStep) → Leaves k qs mid (unnoted k t) → Leaves k qs mid t
leaves_noted k qs mid t h = record { were = h.were; count = h.count; taken = h.taken; quiet = h.quiet }

-- ---- each event

leaves_joins : (k : Core) (qs mid : List Queue) (c : ℕ) → mid ≡ qs → Leaves k qs mid (joins k c (numbered k.seats c))
leaves_joins k qs mid c same = by (numbered k.seats c)
  where
    new_apart : (n m : ℕ) (y : Session) → ((n ≡ suc (length k.sessions)) × (y ≡ Rattle.trace_ends.specs.Session.new_session m)) ⊎ (numbered k.sessions n ≡ Some y) → IsLeft y → SessionWas k n y
    new_apart n m y (inr was) gone = (y, was, refl)
    new_apart n m y (inl new) gone = absurd (not_true (sym (ap (λ (z : Session). z.cut) new.1) ∙ gone.1))
      where
        not_true : false ≡ true → ⊥
        not_true e = absurd cc

    by_room : (seat : Seat) (b : Bool) → (let r = connect k.server b in Leaves k qs mid (joins_as k c seat r.0 r.1.told))
    by_room seat true = leaves_plain k qs mid _ (λ n y at gone. new_apart n c y (of_more k.sessions n (Rattle.trace_ends.specs.Session.new_session c) y at) gone) same refl (λ n. omega arith)
    by_room seat false = leaves_plain k qs mid _ (were_same k) same refl (λ n. omega arith)

    by : (o : Option Seat) → Leaves k qs mid (joins k c o)
    by None = leaves_plain k qs mid _ (were_same k) same refl (λ n. omega arith)
    by (Some seat) = by_room seat (has_room k.server)

-- the server loses a session, or closes it
leaves_loses : (k : Core) (qs mid : List Queue) (m : ℕ) (x : Session) → mid ≡ qs → numbered k.sessions m ≡ Some x → Leaves k qs mid (loses k m x)
leaves_loses k qs mid m x same at = leaves_plain k qs mid (loses k m x) (were_with k m x (record x { hung = true }) at refl) same refl (less (stands k.server m))
  where
    less : (b : Bool) (n : ℕ) → length (own n (stepping.hangs_if k.server b m).0.waiting) ≤ length (own n k.server.waiting)
    less true n = own_filter n m k.server.waiting
    less false n = omega arith

leaves_hangs : (k : Core) (qs mid : List Queue) (m : ℕ) → mid ≡ qs → Leaves k qs mid (hangs k m (numbered k.sessions m))
leaves_hangs k qs mid m same = by (numbered k.sessions m) refl
  where
    by_hung : (x : Session) → numbered k.sessions m ≡ Some x → (b : Bool) → Leaves k qs mid (hangs_if k m x b)
    by_hung x at true = leaves_plain k qs mid _ (were_same k) same refl (λ n. omega arith)
    by_hung x at false = leaves_loses k qs mid m x same at

    by : (o : Option Session) → numbered k.sessions m ≡ o → Leaves k qs mid (hangs k m o)
    by None at = leaves_plain k qs mid _ (were_same k) same refl (λ n. omega arith)
    by (Some x) at = by_hung x at x.hung

leaves_settles : (book : Book) (k : Core) (qs mid : List Queue) (now : ℕ) → IsKept book k qs → mid ≡ qs → Leaves k qs mid (settles k now)
leaves_settles book k qs mid now kept same = leaves_plain k qs mid _ (were_same k) same refl (by (what_settles book k qs now kept))
  where
    by : WhatSettles k now → (n : ℕ) → length (own n (settles k now).core.server.waiting) ≤ length (own n k.server.waiting)
    by (settles_none none is) n = let e = ap (λ (t : CoreStep). length (own n t.core.server.waiting)) is in omega (arith, e)
    by (settles_one c cs out) n =
        let left = ap (λ (t : CoreStep). length (own n t.core.server.waiting)) out.is in
        let rest = ap (λ (l : List FileChange). length (own n l)) (made_waiting (closing.at (record k.server { waiting = cs }) now) c c.what) in
        let less = own_fewer k.server.waiting c cs out.out n in
        omega (arith, left, rest, less)

cut_silent : (t : Option Task) (e : Ended) → (ended_by t e).send ≡ []
cut_silent None e = refl
cut_silent (Some t) e = refl

leaves_cuts : (k : Core) (qs mid : List Queue) (c : ℕ) → mid ≡ qs → Leaves k qs mid (cuts k c (numbered k.seats c))
leaves_cuts k qs mid c same = by (numbered k.seats c)
  where
    cut_were : (o : Option ℕ) (x : Option Session) → session_of k.sessions o ≡ x → SessionsWere k (cut_session k.sessions o x)
    cut_were (Some m) (Some x) e = were_with k m x (record x { cut = true }) e refl
    cut_were _ _ e = were_same k

    by_linked : (seat : Seat) (b : Bool) → Leaves k qs mid (cuts_if k c seat b)
    by_linked seat false = leaves_plain k qs mid _ (were_same k) same refl (λ n. omega arith)
    by_linked seat true = record {
      were = cut_were seat.session (session_of k.sessions seat.session) refl;
      count = ap (λ (l : List Queue). length l) same;
      taken = taken_none k qs mid (cuts_if k c seat true) same (λ n. omega arith);
      quiet = λ n y is at gone. cut_silent seat.client.task _;
    }

    by : (o : Option Seat) → Leaves k qs mid (cuts k c o)
    by None = leaves_plain k qs mid _ (were_same k) same refl (λ n. omega arith)
    by (Some seat) = by_linked seat seat.client.linked

leaves_does : (opening : List Opening) (all : List Moment) (k : Core) (qs mid : List Queue) (c now : ℕ) (d : Command) → IsKept (book_at opening k all) k qs → mid ≡ qs → Leaves k qs mid (does k c now d (numbered k.seats c))
leaves_does opening all k qs mid c now d kept same = by (numbered k.seats c) refl
  where
    by_session : (seat : Seat) → numbered k.seats c ≡ Some seat → (o : Option ℕ) → seat.session ≡ o → (z : Option Session) → session_of k.sessions o ≡ z
        → SessionsWere k (commanded_sessions k.sessions o z seat.place (length k.ops) (word_of d) (command_step seat.client d now).1) × ((n : ℕ) (y : Session) → o ≡ Some n → numbered (commanded_sessions k.sessions o z seat.place (length k.ops) (word_of d) (command_step seat.client d now).1) n ≡ Some y → IsLeft y → (command_step seat.client d now).1.send ≡ [])
    by_session seat here None e z f = (were_same k, λ n y is at gone. nothing_there n is)
    by_session seat here (Some m) e None f = (were_same k, λ n y is at gone. nothing_there y (sym f ∙ ap (numbered k.sessions) (some_is m n is) ∙ at))
    by_session seat here (Some m) e (Some x) f =
        let acts = (command_step seat.client d now).1 in
        let z : Session = commanded_session x seat.place (length k.ops) (word_of d) acts in (
          λ n y at gone. elim (of_with k.sessions m n z y at) [
            | inr was ↦ (y, was, refl)
            | inl new ↦
                let off = left_off opening all k qs c m seat x kept here e f (sym (ap (λ (v : Session). v.cut) new.1) ∙ gone.1) in
                let end = (command_silent seat.client d now off).1 in
                (x, ap (numbered k.sessions) new.0 ∙ f, ap (λ (v : Session). v.closing) new.1 ∙ closing_stays x.closing (length k.ops) (word_of d) acts.ended end.0 end.1)
          ],
          λ n y is at gone. elim (of_with k.sessions m n z y at) [
            | inl new ↦ (command_silent seat.client d now (left_off opening all k qs c m seat x kept here e f (sym (ap (λ (v : Session). v.cut) new.1) ∙ gone.1))).0
            | inr was ↦ (command_silent seat.client d now (left_off opening all k qs c n seat y kept here (e ∙ is) was gone.1)).0
          ],
        )

    by : (o : Option Seat) → numbered k.seats c ≡ o → Leaves k qs mid (does k c now d o)
    by None here = leaves_plain k qs mid _ (were_same k) same refl (λ n. omega arith)
    by (Some seat) here =
        let w = by_session seat here seat.session refl (session_of k.sessions seat.session) refl in
        record { were = w.0; count = ap (λ (l : List Queue). length l) same; taken = taken_none k qs mid (does k c now d (Some seat)) same (λ n. omega arith); quiet = w.1 }

-- what is heard comes on a session that is not cut
leaves_heard : (k : Core) (qs mid : List Queue) (m now : ℕ) (bytes : List ℕ) → length mid ≡ length qs → ((t : CoreStep) → t.core.server.waiting ≡ k.server.waiting → QueuesHave (LeftSo k qs t.core) mid) → ((x : Session) → numbered k.sessions m ≡ Some x → x.cut ≡ true → ⊥) → Leaves k qs mid (hears k m now bytes (numbered k.sessions m))
leaves_heard k qs mid m now bytes count_with heard full = by (numbered k.sessions m) refl
  where
    plain : (t : CoreStep) → t.core ≡ k → t.session ≡ None → Leaves k qs mid t
    plain t core none = record { were = subst (λ (z : Core). SessionsWere k z.sessions) (sym core) (were_same k); count = count_with; taken = heard t (ap (λ (z : Core). z.server.waiting) core); quiet = λ n y is at gone. nothing_there n (sym none ∙ is) }

    by_newest : (seat : Seat) (x : Session) → numbered k.sessions m ≡ Some x → (b : Bool) → is_newest seat.session m ≡ b → Leaves k qs mid (hears_if k x.owner now seat bytes b)
    by_newest seat x at false e = plain _ refl refl
    by_newest seat x at true e = record {
      were = were_same k;
      count = count_with;
      taken = heard (hears_if k x.owner now seat bytes true) refl;
      quiet = λ n y is there gone. absurd (full y (ap (numbered k.sessions) (newest seat.session n is e) ∙ there) gone.1);
    }
      where
        newest : (o : Option ℕ) (n : ℕ) → o ≡ Some n → is_newest o m ≡ true → m ≡ n
        newest (Some i) n is e = sym (Rattle.std.proofs.Common.eqb-true i m e) ∙ some_is i n is
        newest None n is e = nothing_there n is

    by_seat : (x : Session) → numbered k.sessions m ≡ Some x → (o : Option Seat) → Leaves k qs mid (hears_at k m x.owner now bytes o)
    by_seat x at None = plain _ refl refl
    by_seat x at (Some seat) = by_newest seat x at (is_newest seat.session m) refl

    by : (o : Option Session) → numbered k.sessions m ≡ o → Leaves k qs mid (hears k m now bytes o)
    by None at = plain _ refl refl
    by (Some x) at = by_seat x at (numbered k.seats x.owner)

leaves_hears : (opening : List Opening) (all : List Moment) (k : Core) (qs mid : List Queue) (m now : ℕ) (bytes : List ℕ) → IsKept (book_at opening k all) k qs → Finds k qs (Hears m now bytes) mid → Leaves k qs mid (hears k m now bytes (numbered k.sessions m))
leaves_hears opening all k qs mid m now bytes kept (inr f) = leaves_heard k qs mid m now bytes (ap (λ (l : List Queue). length l) f.mid_is) (λ t waiting. taken_none k qs mid t f.mid_is (no_less k t.core waiting)) (λ x at gone. true_and_false x.cut gone (ap (λ (z : Session). z.cut) (some_is x f.session (sym at ∙ f.at)) ∙ f.uncut))
leaves_hears opening all k qs mid m now bytes kept (inl f) = leaves_heard k qs mid m now bytes count_with heard full
  where
    count_with : length mid ≡ length qs
    count_with = ap (λ (l : List Queue). length l) f.6 ∙ with_count qs m (record f.0 { downs = f.2 })
      where
        with_count : (xs : List Queue) (i : ℕ) (x : Queue) → length (with_numbered xs i x) ≡ length xs
        with_count xs zero x = refl
        with_count xs (suc i) x = set_count xs i x

    heard : (t : CoreStep) → t.core.server.waiting ≡ k.server.waiting → QueuesHave (LeftSo k qs t.core) mid
    heard t waiting = subst (QueuesHave (LeftSo k qs t.core)) (sym f.6) (have_with (LeftSo k qs t.core) qs m (record f.0 { downs = f.2 }) (taken_none k qs qs t refl (no_less k t.core waiting)) (λ y at gone. let le = no_less k t.core waiting m in (f.0, f.3, omega (arith, le))))

    full : (x : Session) → numbered k.sessions m ≡ Some x → x.cut ≡ true → ⊥
    full x at gone = none (sym (sym f.4 ∙ z))
      where
        z : f.0.downs ≡ []
        z = (kept.sessions m x f.0 at f.3 (owned_down kept m x f.0 at f.3 f.1 f.2 f.4)).shut gone

        none : [] ≡ f.1 ∷ f.2 → ⊥
        none e = absurd cc

-- a COMMITTMP that is taken waits then, if it does
leaves_serves : FitLaws → (opening : List Opening) (all : List Moment) (k : Core) (qs mid : List Queue) (m now : ℕ) (bytes : List ℕ) → IsKept (book_at opening k all) k qs → FindsAsk qs m bytes mid → Leaves k qs mid (serves k m now bytes (numbered k.sessions m))
leaves_serves laws opening all k qs mid m now bytes kept f =
    let x = also_numbered qs k.sessions m f.0 (sym kept.made.1) f.3 in
    let s = kept.sessions m x.0 f.0 x.1 f.3 (owned_up kept m x.0 f.0 x.1 f.3 f.1 f.2 f.4) in
    let fits : AllAsks (λ a. CallFits a.lbfs a.xid a.call) (f.1 ∷ f.2) = subst (AllAsks (λ a. CallFits a.lbfs a.xid a.call)) f.4 s.ups_fit in
    let parsed : parse_of (server_waits k m) bytes ≡ Ok (ask_message f.1) = ap (parse_of (server_waits k m)) f.5 ∙ parsed_at laws k m f.1 fits.0 in
    let got_as : serves k m now bytes (Some x.0) ≡ serves_if k m now x.0 (Ok (ask_message f.1)) = ap (serves_unless k m now bytes x.0) (unhung_up kept m x.0 f.0 x.1 f.3 f.1 f.2 f.4) ∙ ap (serves_if k m now x.0) parsed in
    subst (λ (o : Option Session). Leaves k qs mid (serves k m now bytes o)) (sym x.1) (subst (Leaves k qs mid) (sym got_as) (by x.0 x.1 (got_waits k.server m now f.1 (stands k.server m) fits.0)))
  where
    with_count : (xs : List Queue) (i : ℕ) (x : Queue) → length (with_numbered xs i x) ≡ length xs
    with_count xs zero x = refl
    with_count xs (suc i) x = set_count xs i x

    -- such a call was on its way
    one_less : (a : Ask) (us : List Ask) → change_number a.call ≡ 1 → commits_in (a ∷ us) ≡ suc (commits_in us)
    one_less a us h = omega (arith, h)

    same_there : (after : List FileChange) → Waits k.server.waiting m (λ d. change_number f.1.call ≡ 1) after → commits_in f.2 + length (own m after) ≤ commits_in f.0.ups + length (own m k.server.waiting)
    same_there after (inl e) = let w = ap (λ ws. length (own m ws)) e in let n = commits_tail f.1 f.2 in let u = ap commits_in f.4 in omega (arith, w, n, u)
    same_there after (inr c) = let w = ap (λ ws. length (own m ws)) c.2 in let l = own_one m k.server.waiting c.0 in let n = one_less f.1 f.2 c.3 in let u = ap commits_in f.4 in omega (arith, w, l, n, u)

    same_else : (after : List FileChange) (n : ℕ) → (n ≡ m → ⊥) → Waits k.server.waiting m (λ d. change_number f.1.call ≡ 1) after → length (own n after) ≤ length (own n k.server.waiting)
    same_else after n apart (inl e) = let w = ap (λ ws. length (own n ws)) e in omega (arith, w)
    same_else after n apart (inr c) = let w = ap (λ ws. length (own n ws)) (c.2) in let o = ap (λ (l : List FileChange). length l) (own_there n k.server.waiting c.0 (λ e. apart (sym e ∙ c.1))) in omega (arith, w, o)

    by : (x : Session) → numbered k.sessions m ≡ Some x → Waits k.server.waiting m (λ d. change_number f.1.call ≡ 1) (got_if k.server (stands k.server m) m (ask_message f.1) now).0.waiting → Leaves k qs mid (serves_if k m now x (Ok (ask_message f.1)))
    by x at waits =
        let t = serves_if k m now x (Ok (ask_message f.1)) in
        record {
          were = were_with k m x _ at refl;
          count = ap (λ (l : List Queue). length l) f.6 ∙ with_count qs m (record f.0 { ups = f.2 });
          taken = λ n r is y there gone. elim (of_with qs m n (record f.0 { ups = f.2 }) r (ap (λ (l : List Queue). numbered l n) (sym f.6) ∙ is)) [
            | inl new ↦ let u = ap (λ (z : Queue). commits_in z.ups) new.1 in let le = same_there t.core.server.waiting waits in subst (λ (z : ℕ). CommitsWere k qs t.core.server.waiting z r) (sym new.0) (f.0, f.3, omega (arith, u, le))
            | inr was ↦ elim (same_or_not n m) [
              | inr apart ↦ let le = same_else t.core.server.waiting n apart waits in (r, was, omega (arith, le))
              | inl same ↦
                  let mine : r ≡ record f.0 { ups = f.2 } = some_is r (record f.0 { ups = f.2 }) (sym is ∙ ap (λ (l : List Queue). numbered l n) f.6 ∙ ap (numbered (with_numbered qs m (record f.0 { ups = f.2 }))) same ∙ (Rattle.kept_promise.proofs.Turns.around_with qs m f.0 (record f.0 { ups = f.2 }) f.3).there) in
                  let u = ap (λ (z : Queue). commits_in z.ups) mine in
                  let le = same_there t.core.server.waiting waits in
                  subst (λ (z : ℕ). CommitsWere k qs t.core.server.waiting z r) (sym same) (f.0, f.3, omega (arith, u, le))
            ]
          ];
          quiet = λ n y is there gone. nothing_there n is;
        }

-- what comes on a session that is no client's is nothing of any that a client left
leaves_raw : (k : Core) (qs mid : List Queue) (m now : ℕ) (bytes : List ℕ) (x : Session) → numbered k.sessions m ≡ Some x → is_raw x ≡ true → mid ≡ qs → Leaves k qs mid (serves k m now bytes (Some x))
leaves_raw k qs mid m now bytes x at raw same = by x.hung
  where
    none : (e : WireFault) → Leaves k qs mid (serves_none k m x e)
    none (fault.UnknownXid xid) = leaves_plain k qs mid _ (were_same k) same refl (λ n. omega arith)
    none (fault.NotRpc place) = leaves_loses k qs mid m x same at
    none (fault.Garbage place) = leaves_loses k qs mid m x same at

    -- a change more is that session's
    else_less : (n : ℕ) (ws : List FileChange) → (n ≡ m → ⊥) → Waits k.server.waiting m (λ d. Unit {0}) ws → length (own n ws) ≤ length (own n k.server.waiting)
    else_less n ws apart (inl e) = let w = ap (λ l. length (own n l)) e in omega (arith, w)
    else_less n ws apart (inr c) = let w = ap (λ l. length (own n l)) c.2 in let o = ap (λ (l : List FileChange). length l) (own_there n k.server.waiting c.0 (λ e. apart (sym e ∙ c.1))) in omega (arith, w, o)

    read : (r : Result Message WireFault) → Leaves k qs mid (serves_if k m now x r)
    read (Err e) = none e
    read (Ok message_) =
        let t = serves_if k m now x (Ok message_) in
        let waits = any_waits k.server m message_ now (stands k.server m) in
        record {
          were = were_with k m x _ at refl;
          count = ap (λ (l : List Queue). length l) same;
          taken = λ n r is y there gone. elim (same_or_not n m) [
            | inr apart ↦ let le = else_less n t.core.server.waiting apart waits in (r, ap (λ (l : List Queue). numbered l n) (sym same) ∙ is, omega (arith, le))
            | inl here ↦ elim (of_with k.sessions m n _ y there) [
              | inl new ↦ absurd (true_and_false (is_raw y) (ap is_raw new.1 ∙ raw) gone.0)
              | inr was ↦ absurd (true_and_false (is_raw y) (ap is_raw (some_is y x (sym was ∙ ap (numbered k.sessions) here ∙ at)) ∙ raw) gone.0)
            ]
          ];
          quiet = λ n y is there gone. nothing_there n is;
        }

    by : (b : Bool) → Leaves k qs mid (serves_unless k m now bytes x b)
    by true = leaves_plain k qs mid _ (were_same k) same refl (λ n. omega arith)
    by false = read (parse_of (server_waits k m) bytes)

-- nor is such a session that is made
leaves_raw_joins : (k : Core) (qs mid : List Queue) → mid ≡ qs → Leaves k qs mid (raw_joins k)
leaves_raw_joins k qs mid same = by_room (has_room k.server)
  where
    new_apart : (n : ℕ) (y : Session) → ((n ≡ suc (length k.sessions)) × (y ≡ raw_session)) ⊎ (numbered k.sessions n ≡ Some y) → IsLeft y → SessionWas k n y
    new_apart n y (inr was) gone = (y, was, refl)
    new_apart n y (inl new) gone = absurd (true_and_false (is_raw y) (ap is_raw new.1) gone.0)

    by_room : (b : Bool) → (let r = connect k.server b in Leaves k qs mid (raw_joins_as k r.0 r.1.told))
    by_room true = leaves_plain k qs mid _ (λ n y at gone. new_apart n y (of_more k.sessions n raw_session y at) gone) same refl (λ n. omega arith)
    by_room false = leaves_plain k qs mid _ (were_same k) same refl (λ n. omega arith)

pub leaves : FitLaws → (opening : List Opening) (all : List Moment) (k : Core) (qs mid : List Queue) (e : Event) → IsKept (book_at opening k all) k qs → Finds k qs e mid → Leaves k qs mid (happens k e)
leaves laws opening all k qs mid (Joins c) kept f = leaves_joins k qs mid c f.5
leaves laws opening all k qs mid (Does c now d) kept f = leaves_does opening all k qs mid c now d kept f.3
leaves laws opening all k qs mid (Serves n now bytes) kept (inl f) = leaves_serves laws opening all k qs mid n now bytes kept f
leaves laws opening all k qs mid (Serves n now bytes) kept (inr (inl f)) = elim (reply_taken laws k qs n now bytes mid f) [
  | inl taken ↦ leaves_noted k qs mid _ (subst (Leaves k qs mid) (sym taken.1) (leaves_plain k qs mid (idles (record k { server = record k.server { leasing = taken.0 } })) (were_same k) f.mid_is refl (λ m. omega arith)))
  | inr lost ↦ subst (Leaves k qs mid) (sym lost) (leaves_loses k qs mid n f.session f.mid_is f.at)
]
leaves laws opening all k qs mid (Serves n now bytes) kept (inr (inr f)) = subst (λ (o : Option Session). Leaves k qs mid (serves k n now bytes o)) (sym f.1) (leaves_raw k qs mid n now bytes f.0 f.1 f.2 f.3)
leaves laws opening all k qs mid (Hears n now bytes) kept f = leaves_hears opening all k qs mid n now bytes kept f
leaves laws opening all k qs mid (Settles now) kept f = leaves_settles (book_at opening k all) k qs mid now kept f
leaves laws opening all k qs mid (Cuts c) kept f = leaves_cuts k qs mid c f.2
leaves laws opening all k qs mid (Hangs n) kept f = leaves_hangs k qs mid n f.2
leaves laws opening all k qs mid RawJoins kept f = leaves_raw_joins k qs mid f.2

-- A session that its client left was there before, with the same close, and no more COMMITTMPs are on its way, or wait, than then.
pub commits_left : FitLaws → (all past rest : List Moment) (opening : List Opening) (k : Core) (qs : List Queue) (e : Event) (mid after : List Queue) → Step all past rest opening k qs e mid after
    → (n : ℕ) (y : Session) (r : Queue) → numbered (happens k e).core.sessions n ≡ Some y → numbered after n ≡ Some r → IsLeft y
    → (x : Session) × (q : Queue) × (numbered k.sessions n ≡ Some x) × (numbered qs n ≡ Some q) × (y.closing ≡ x.closing) × (commits_in r.ups + length (own n (happens k e).core.server.waiting) ≤ commits_in q.ups + length (own n k.server.waiting))
commits_left laws all past rest opening k qs e mid after s n y r at is gone =
    let l = leaves laws opening all k qs mid e s.kept s.finds in
    let x = l.were n y at gone in
    let w = left_after k qs mid (happens k e) s.sends s.kept.made.1 l n r (ap (λ (z : List Queue). numbered z n) (sym s.after_is) ∙ is) y at gone in
    (x.0, w.0, x.1, w.1, x.2, w.2)

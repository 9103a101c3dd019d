-- A run carries that the calls of each session are numbered from 1 on, in the order in which they are sent.
use Rattle.std.proofs.Common.{inl, inr, ◌≡◌, ℕ, zero, suc, ◌+◌, ◌-◌, ◌<◌, List, [], ◌∷◌, ◌++◌, length, Option, Some, None, Result, Ok, Bool, true, false, refl, sym, ap, ◌∙◌, subst, arith, append-nil, length-append, replicate, ◌≤◌}
use Rattle.wire.specs.declared.message.Message.TheVariants as message
use Rattle.client_state.specs.Noting.{at as at_clock}
use Rattle.client_state.specs.State as client
use Rattle.trace_replay.specs.Numbered.{numbers_among, numbers_if, numbers_by, numbers_of, CountOn}
use Rattle.client_state.specs.declared.task.Stage.{Stage}
use Rattle.client_state.specs.declared.task.Stage.TheVariants as stage
use Rattle.kept_promise.proofs.Common.{nat_tests, slice_get, Chunk, Command, Body, Message, Pending, WireFault, names_from, names_all, calls_most, reads_from, reads_chunk, command_step, got_step, idle, took, Reads, ClientStep, Fetch, Stage, Upload, Opening, Word, word_of, calls_among, asked_in, Core, Seat, Session, Event, Event.Joins, Event.Does, Event.Hears, Event.Cuts, CoreStep, new_seat, new_session, joined, numbered, with_numbered, session_of, commanded_sessions, cut_session, is_newest, acted, does, joins, cuts_if, happens, Moment, Book, Queue, told_message}
use Rattle.kept_promise.proofs.Lists.{some_is, nothing_there, within as inside}
use Rattle.kept_promise.proofs.Facts.{IsKept}
use Rattle.kept_promise.proofs.SendsCalls.{number_calls}
use Rattle.kept_promise.proofs.RunsCarried.{book_at, moment, Step, Carried}
use Rattle.kept_promise.proofs.Actors.{newest_is, heard_acts}
use Rattle.kept_promise.proofs.Versions.{of_numbered}
use Rattle.kept_promise.proofs.StepCases.{reads_keep, names_keep, reads_of, Cases, took_cases, walk_cases, command_cases, got_cases}
use Rattle.kept_promise.proofs.Numbering.{got_number, command_number}
use Rattle.kept_promise.proofs.EventCases.{joins_silent, cuts_silent, event_turns, joins_now, with_count}
use Rattle.kept_promise.proofs.Fits.{FitLaws}

-- ---- numbers joined

among_join : (a b : List Message) → numbers_among (a ++ b) ≡ numbers_among a ++ numbers_among b
among_join [] b = refl
among_join (message.Call x c ∷ a) b = ap (λ l. x ∷ l) (among_join a b)
among_join (m ∷ a) b = among_join a b

among_count : (ms : List Message) → length (numbers_among ms) ≡ calls_among ms
among_count [] = refl
among_count (message.Call x c ∷ ms) = let h = among_count ms in omega (arith, h)
among_count (m ∷ ms) = let h = among_count ms in omega (arith, h)

pub count_join : (k : ℕ) (xs ys : List ℕ) → CountOn k xs → CountOn (k + length xs) ys → CountOn k (xs ++ ys)
count_join k [] ys h g = subst (λ z. CountOn z ys) (let e : k + 0 ≡ k = omega arith in e) g
count_join k (x ∷ xs) ys h g = (h.0, count_join (k + 1) xs ys h.1 (subst (λ z. CountOn z ys) (let e : k + length (x ∷ xs) ≡ (k + 1) + length xs = omega arith in e) g))

-- ---- a client's step

-- calls go out with the numbers from this one on, of which that one is the next
abbrev Sends : (from next : ℕ) → List Message → Type 0
Sends from next ms = CountOn from (numbers_among ms) × (next ≡ from + length (numbers_among ms))

-- one more
sends_more : (from next : ℕ) (ms : List Message) (b : Body) → Sends from next ms → Sends from (next + 1) (ms ++ message.Call next b ∷ [])
sends_more from next ms b h =
    let all : numbers_among (ms ++ message.Call next b ∷ []) ≡ numbers_among ms ++ next ∷ [] = among_join ms (message.Call next b ∷ []) in
    let l = ap (λ (z : List ℕ). length z) all in
    let n = length-append (numbers_among ms) (next ∷ []) in
    let e = h.1 in
    (subst (CountOn from) (sym all) (count_join from (numbers_among ms) (next ∷ []) h.0 (e, tt)), omega (arith, l, n, e))

reads_sent : (s : client.State) (file : ℕ) (f : Fetch) → Sends s.next_xid (reads_of s file f).next_xid (reads_of s file f).send
reads_sent s file f = reads_keep (λ r. Sends s.next_xid r.next_xid r.send) s.cache s.index file (λ r c o h at is. by r c o h) (length f.chunks - f.asked) (reads_from f s.next_xid) (tt, omega arith)
  where
    by : (r : Reads) (c : Chunk) (o : Option (List ℕ)) → Sends s.next_xid r.next_xid r.send → Sends s.next_xid (reads_chunk file r c o).next_xid (reads_chunk file r c o).send
    by r c (Some bytes) h = h
    by r c None h = sends_more s.next_xid r.next_xid r.send _ h

names_sent : (lbfs : ℕ) (w : Upload) (next : ℕ) → Sends next (names_all lbfs w next).next_xid (names_all lbfs w next).send
names_sent lbfs w next = names_keep lbfs (λ n. Sends next n.next_xid n.send) (λ n c h at. sends_more next n.next_xid n.send _ h) (calls_most - length w.under) (names_from w next) (tt, omega arith)

abbrev Numbers : client.State → client.State × ClientStep → Type 0
Numbers s r = CountOn s.next_xid (numbers_among r.1.send)

took_numbers : (s : client.State) (calls : List Pending) (file : ℕ) (st : Stage) (x : ℕ) (b : Body) → Cases (λ found r. Numbers s r) s calls file st x b
took_numbers s calls file st x b = record {
  ends = λ r e unchanged came. subst (λ ms. CountOn s.next_xid (numbers_among ms)) (sym e.sent) tt;
  changed = λ r f version e open_ gave last is. subst (λ ms. CountOn s.next_xid (numbers_among ms)) (sym e.sent) tt;
  uses = λ y l bytes at is kept. tt;
  fetches = λ y l at is. (refl, tt);
  anew = λ f version bytes open_ gave few came. (refl, tt);
  lists = λ f g is at same far. (refl, tt);
  reads = λ f bytes now here. (reads_sent s file f).0;
  opens = λ f bytes now here. tt;
  names = λ w at known none is. (names_sent s.lbfs w s.next_xid).0;
  commits = λ w at known none is. (sends_more s.next_xid (names_all s.lbfs w s.next_xid).next_xid (names_all s.lbfs w s.next_xid).send _ (names_sent s.lbfs w s.next_xid)).0;
  whole = λ old c k at unknown none found name chunk. (refl, tt);
}

answer_numbers : (s : client.State) (calls : List Pending) (file : ℕ) (st : Stage) (x : ℕ) (b : Body) → Numbers s (took s calls file st x b)
answer_numbers s calls file (stage.Walking y w) x b = walk_cases (Numbers s) s calls file y w x b (record {
  fault = λ f bad. tt;
  asks = λ v k. (refl, tt);
  open_already = λ id k is. tt;
  fetches = λ id k shut none. (refl, tt);
  leases = λ id c k shut some. (refl, tt);
  opens_now = λ id c k shut fresh. tt;
  renew_already = λ id k is. tt;
  renews = λ id k shut. (refl, tt);
  empties_now = λ id c k shut fresh. tt;
  ends = λ w e k is. tt;
})
answer_numbers s calls file st x b = took_cases (λ found r. Numbers s r) s calls file st x b tt (λ found r g until lease is h. h) (took_numbers s calls file st x b)

got_numbers : (s : client.State) (m : Result Message WireFault) (now : ℕ) → Numbers s (got_step s m now)
got_numbers s m now = got_cases (Numbers s) s m now (record {
  took = λ t is x b. answer_numbers (idle (at_clock s now)) (client.calls_of (at_clock s now)) t.file t.stage x b;
  memory = λ t is x. tt;
  bad = λ t is f. tt;
  off = λ none. tt;
  recalled = λ xid file. tt;
  greeted = λ xid. tt;
  forgot = λ x. tt;
  unfit = λ x r. tt;
  call = tt;
})

command_numbers : (s : client.State) (d : Command) (now : ℕ) → Numbers s (command_step s d now)
command_numbers s d now = command_cases (Numbers s) s d now (record {
  busy = λ t is. tt;
  answers = λ un opened o plain. tt;
  fetches = λ file is un may. (refl, tt);
  asks = λ file kept is un may at. (refl, tt);
  renews = λ file is un may. (refl, tt);
  opens_now = λ file c is un shut fresh. tt;
  empties_now = λ file c is un shut fresh. tt;
  walks = λ c is un may. (refl, tt);
  closes = λ file l is un may at. (refl, tt);
})

-- ---- what is carried

pub record AreNumbered (past : List Moment) (seats : List Seat) (made : ℕ) : Type 0 where
  pub each : (n : ℕ) → CountOn 1 (numbers_of n past)
  pub next : (i n : ℕ) (seat : Seat) → numbered seats i ≡ Some seat → seat.session ≡ Some n → seat.client.next_xid ≡ 1 + length (numbers_of n past)
  pub none : (n : ℕ) → made < n → numbers_of n past ≡ []

abbrev At : List Moment → Core → Type 0
At past k = AreNumbered past k.seats (length k.sessions)

of_more : (n : ℕ) (past : List Moment) (m : Moment) → numbers_of n (past ++ m ∷ []) ≡ numbers_of n past ++ numbers_by n (happens m.before m.event)
of_more n [] m = append-nil (numbers_by n (happens m.before m.event))
of_more n (z ∷ past) m = ap (λ l. numbers_by n (happens z.before z.event) ++ l) (of_more n past m) ∙ sym (joined (numbers_by n (happens z.before z.event)) (numbers_of n past) (numbers_by n (happens m.before m.event)))
  where
    joined : (xs ys zs : List ℕ) → (xs ++ ys) ++ zs ≡ xs ++ (ys ++ zs)
    joined [] ys zs = refl
    joined (x ∷ xs) ys zs = ap (λ l. x ∷ l) (joined xs ys zs)

-- ---- no call is sent

same_of : (n : ℕ) (past : List Moment) (m : Moment) → asked_in m ≡ [] → numbers_of n (past ++ m ∷ []) ≡ numbers_of n past
same_of n past m silent = of_more n past m ∙ ap (λ l. numbers_of n past ++ l) (by (is_newest (happens m.before m.event).session n)) ∙ append-nil (numbers_of n past)
  where
    by : (b : Bool) → numbers_if b (happens m.before m.event).up ≡ []
    by true = number_calls (happens m.before m.event).up ∙ ap numbers_among silent
    by false = refl

quiet : (past : List Moment) (m : Moment) (seats after : List Seat) (made more : ℕ) → asked_in m ≡ [] → made ≤ more
    → ((i n : ℕ) (seat : Seat) → numbered after i ≡ Some seat → seat.session ≡ Some n → (j : ℕ) × (old : Seat) × (numbered seats j ≡ Some old) × (old.session ≡ Some n) × (seat.client.next_xid ≡ old.client.next_xid))
    → AreNumbered past seats made → AreNumbered (past ++ m ∷ []) after more
quiet past m seats after made more silent count was h = record {
  each = λ n. subst (CountOn 1) (sym (same_of n past m silent)) (h.each n);
  next = λ i n seat at on. let o = was i n seat at on in o.4 ∙ h.next o.0 n o.1 o.2 o.3 ∙ ap (λ (l : List ℕ). 1 + length l) (sym (same_of n past m silent));
  none = λ n lt. same_of n past m silent ∙ h.none n (omega (arith, lt, count));
}

-- ---- a client acts

on_newest : (session : Option ℕ) (n : ℕ) → is_newest session n ≡ true → session ≡ Some n
on_newest None n e = absurd cc
on_newest (Some m) n e = ap (λ z. Some z) (let q : m ≡ n = grind (arith, nat_tests, e) in q)

acts : (past : List Moment) (m : Moment) (seats : List Seat) (made more i : ℕ) (seat : Seat) (c : client.State) (place : Option ℕ) (step : CoreStep) → happens m.before m.event ≡ step → step.session ≡ seat.session → numbered seats i ≡ Some seat → more ≡ made
    → ((n : ℕ) → seat.session ≡ Some n → n < made + 1)
    → ((j n : ℕ) (other : Seat) → numbered seats j ≡ Some other → other.session ≡ Some n → seat.session ≡ Some n → j ≡ i)
    → CountOn seat.client.next_xid (numbers_among step.up) → c.next_xid ≡ seat.client.next_xid + calls_among step.up
    → AreNumbered past seats made → AreNumbered (past ++ m ∷ []) (with_numbered seats i (record seat { client = c; place = place })) more
acts past m seats made more i seat c place step is on here count within alone sends next h = record {
  each = λ n. subst (CountOn 1) (sym (all n)) (each n (is_newest seat.session n) refl);
  next = λ j n other at there. elim (of_numbered seats i (record seat { client = c; place = place }) j other at) [
    | inl mine ↦
        let mine_on : seat.session ≡ Some n = ap (λ (z : Seat). z.session) (sym mine.1) ∙ there in
        let e = ap (λ (z : Seat). z.client.next_xid) mine.1 in
        let was = h.next i n seat here mine_on in
        let l = ap (λ (z : List ℕ). length z) (all n ∙ ap (λ b. numbers_of n past ++ numbers_if b step.up) (newest seat.session n mine_on)) in
        let k = length-append (numbers_of n past) (numbers_among step.up) in
        let q = among_count step.up in
        omega (arith, e, next, was, l, k, q)
    | inr away ↦
        let was = h.next j n other away.1 there in
        let l = ap (λ (z : List ℕ). length z) (all n ∙ ap (λ b. numbers_of n past ++ numbers_if b step.up) (not_on (is_newest seat.session n) (is_newest seat.session n) refl (λ e. away.0 (alone j n other away.1 there (on_newest seat.session n e)))) ∙ append-nil (numbers_of n past)) in
        omega (arith, was, l)
  ];
  none = λ n lt. all n ∙ ap (λ b. numbers_of n past ++ numbers_if b step.up) (not_on (is_newest seat.session n) (is_newest seat.session n) refl (λ e. let k = within n (on_newest seat.session n e) in omega (arith, lt, count, k))) ∙ append-nil (numbers_of n past) ∙ h.none n (omega (arith, lt, count));
}
  where
    all : (n : ℕ) → numbers_of n (past ++ m ∷ []) ≡ numbers_of n past ++ numbers_if (is_newest seat.session n) step.up
    all n = of_more n past m ∙ ap (λ (t : CoreStep). numbers_of n past ++ numbers_by n t) is ∙ ap (λ o. numbers_of n past ++ numbers_if (is_newest o n) step.up) on

    newest : (o : Option ℕ) (n : ℕ) → o ≡ Some n → is_newest o n ≡ true
    newest o n e = newest_is o n e

    not_on : (t b : Bool) → t ≡ b → (t ≡ true → ⊥) → t ≡ false
    not_on t true e never = absurd (never e)
    not_on t false e never = e

    each : (n : ℕ) (b : Bool) → is_newest seat.session n ≡ b → CountOn 1 (numbers_of n past ++ numbers_if b step.up)
    each n true e = count_join 1 (numbers_of n past) (numbers_among step.up) (h.each n) (subst (λ z. CountOn z (numbers_among step.up)) (h.next i n seat here (on_newest seat.session n e)) sends)
    each n false e = subst (CountOn 1) (sym (append-nil (numbers_of n past))) (h.each n)

-- no other client is at its session
alone_at : (book : Book) (k : Core) (qs : List Queue) (i : ℕ) (seat : Seat) → IsKept book k qs → numbered k.seats i ≡ Some seat → (j n : ℕ) (other : Seat) → numbered k.seats j ≡ Some other → other.session ≡ Some n → seat.session ≡ Some n → j ≡ i
alone_at book k qs i seat kept here j n other at there on =
    let a = (kept.seats i seat here).session n on in
    let b = (kept.seats j other at).session n there in
    sym b.2 ∙ ap (λ (z : Session). z.owner) (some_is b.0 a.0 (sym b.1 ∙ a.1)) ∙ a.2

within_at : (book : Book) (k : Core) (qs : List Queue) (i : ℕ) (seat : Seat) → IsKept book k qs → numbered k.seats i ≡ Some seat → (n : ℕ) → seat.session ≡ Some n → n < length k.sessions + 1
within_at book k qs i seat kept here n on = let a = (kept.seats i seat here).session n on in by n a.1
  where
    by : (n : ℕ) {x : Session} → numbered k.sessions n ≡ Some x → n < length k.sessions + 1
    by zero e = omega arith
    by (suc n) e = let lt = inside k.sessions n _ e in omega (arith, lt)

-- ---- any event

commanded_count : (sessions : List Session) (number : Option ℕ) (x : Option Session) (running : Option ℕ) (place : ℕ) (w : Word) (r : ClientStep) → length (commanded_sessions sessions number x running place w r) ≡ length sessions
commanded_count sessions (Some n) (Some x) running place w r = with_count sessions n _
commanded_count sessions (Some n) None running place w r = refl
commanded_count sessions None x running place w r = refl

cut_count : (sessions : List Session) (number : Option ℕ) (x : Option Session) → length (cut_session sessions number x) ≡ length sessions
cut_count sessions (Some n) (Some x) = with_count sessions n _
cut_count sessions (Some n) None = refl
cut_count sessions None x = refl

numbers_join : (past : List Moment) (k : Core) (c : ℕ) (seat : Seat) → length k.sessions ≡ k.server.sessions_made → numbered k.seats c ≡ Some seat → At past k → At (past ++ moment k (Joins c) ∷ []) (joins_now k c seat).core
numbers_join past k c seat made here h = record {
  each = λ n. subst (CountOn 1) (sym (same n)) (h.each n);
  next = λ j n other at there. elim (of_numbered k.seats c now j other at) [
    | inl mine ↦
        let e : n ≡ k.server.sessions_made + 1 = some_is n (k.server.sessions_made + 1) (sym there ∙ ap (λ (z : Seat). z.session) mine.1) in
        let z = ap (λ (z : Seat). z.client.next_xid) mine.1 in
        let l = ap (λ (z : List ℕ). length z) (same n ∙ h.none n (omega (arith, e, made))) in
        omega (arith, z, l)
    | inr away ↦ h.next j n other away.1 there ∙ ap (λ (l : List ℕ). 1 + length l) (sym (same n))
  ];
  none = λ n lt. same n ∙ h.none n (let l = length-append k.sessions (new_session c ∷ []) in omega (arith, lt, l));
}
  where
    now : Seat
    now = record seat { client = joined seat.client; session = Some (k.server.sessions_made + 1) }

    same : (n : ℕ) → numbers_of n (past ++ moment k (Joins c) ∷ []) ≡ numbers_of n past
    same n = same_of n past (moment k (Joins c)) (joins_silent k c).2

-- a client whose connection is lost has sent what it had
numbers_lost : (past : List Moment) (k : Core) (c : ℕ) (seat : Seat) → numbered k.seats c ≡ Some seat → At past k → At (past ++ moment k (Cuts c) ∷ []) (cuts_if k c seat true).core
numbers_lost past k c seat here h = quiet past (moment k (Cuts c)) k.seats _ (length k.sessions) _ (cuts_silent k c).2 (let e = cut_count k.sessions seat.session (session_of k.sessions seat.session) in omega (arith, e)) (was _) h
  where
    gone : (p : Option ℕ) → Seat
    gone p = record seat { client = record seat.client { linked = false; task = None; forgotten = [] }; place = p }

    was : (p : Option ℕ) (i n : ℕ) (other : Seat) → numbered (with_numbered k.seats c (gone p)) i ≡ Some other → other.session ≡ Some n → (j : ℕ) × (old : Seat) × (numbered k.seats j ≡ Some old) × (old.session ≡ Some n) × (other.client.next_xid ≡ old.client.next_xid)
    was p i n other at on = elim (of_numbered k.seats c (gone p) i other at) [
      | inl mine ↦ (c, seat, here, ap (λ (z : Seat). z.session) (sym mine.1) ∙ on, ap (λ (z : Seat). z.client.next_xid) mine.1)
      | inr away ↦ (i, other, away.1, on, refl)
    ]

numbers_event : FitLaws → (all past rest : List Moment) (opening : List Opening) (k : Core) (qs : List Queue) (e : Event) (mid after : List Queue) → Step all past rest opening k qs e mid after → At past k → At (past ++ moment k e ∷ []) (happens k e).core
numbers_event fits all past rest opening k qs e mid after s h = event_turns fits all past rest opening k qs e mid after s (λ e t. At (past ++ moment k e ∷ []) t.core) (record {
  idle = λ t i. quiet past (moment k e) k.seats t.core.seats (length k.sessions) (length t.core.sessions) i.still.silent.2 i.count (λ j n seat at on. let w = i.seats.was j seat at in (j, w.0, w.3, ap (λ (y : Seat). y.session) (sym w.4) ∙ on, ap (λ (y : Seat). y.client.next_xid) w.4)) h;
  joins = λ c seat is s here still. numbers_join past k c seat s.kept.made.0 here h;
  begins = λ c now d seat s here small left. acts past (moment k (Does c now d)) k.seats (length k.sessions) (length (does k c now d (Some seat)).core.sessions) c seat (command_step seat.client d now).0 _ (does k c now d (Some seat)) (ap (does k c now d) here) refl here (commanded_count k.sessions seat.session (session_of k.sessions seat.session) seat.place (length k.ops) (word_of d) (command_step seat.client d now).1) (within_at book k qs c seat s.kept here) (alone_at book k qs c seat s.kept here) (command_numbers seat.client d now) (command_number seat.client d now) h;
  hears = λ n now bytes s w left.
      (let m : Result Message WireFault = Ok (told_message w.told) in
      let r = got_step w.seat.client m now in
      acts past (moment k (Hears n now bytes)) k.seats (length k.sessions) (length k.sessions) w.session.owner w.seat r.0 _ (acted k w.session.owner w.seat r.0 r.1) (heard_acts fits book k qs n now bytes mid s.kept w) refl w.owner refl (within_at book k qs w.session.owner w.seat s.kept w.owner) (alone_at book k qs w.session.owner w.seat s.kept w.owner) (got_numbers w.seat.client m now) (got_number w.seat.client m now) h);
  lost = λ c seat s here left. numbers_lost past k c seat here h;
})
  where
    book : Book
    book = book_at opening k all

abbrev pub AllNumbered : (all past : List Moment) → List Opening → Core → List Queue → Type 0
AllNumbered all past opening k qs = At past k

pub carried_numbered : FitLaws → Carried AllNumbered
carried_numbered fits = record {
  first = λ all opening tree count kept. record { each = λ n. tt; next = λ i n seat at on. nothing_on i n seat count.drift count.lbfs count.count at on; none = λ n lt. refl };
  steps = λ all past rest opening k qs e mid after s h. numbers_event fits all past rest opening k qs e mid after s h;
  adjusts = λ all past opening k qs index seats same h. record {
    each = h.each;
    next = λ i n seat at on. let w = same.was i seat at in ap (λ (z : Seat). z.client.next_xid) w.4 ∙ h.next i n w.0 w.3 (ap (λ (z : Seat). z.session) (sym w.4) ∙ on);
    none = h.none;
  };
}
  where
    -- no client was at a session yet
    at_none : (drift lbfs count k : ℕ) (seat : Seat) → slice_get (replicate count (new_seat drift lbfs)) k ≡ Some seat → seat.session ≡ None
    at_none drift lbfs zero k seat at = nothing_there seat at
    at_none drift lbfs (suc count) zero seat at = ap (λ (z : Seat). z.session) (sym (some_is (new_seat drift lbfs) seat at))
    at_none drift lbfs (suc count) (suc k) seat at = at_none drift lbfs count k seat at

    nothing_on : (i n : ℕ) (seat : Seat) (drift lbfs count : ℕ) → numbered (replicate count (new_seat drift lbfs)) i ≡ Some seat → seat.session ≡ Some n → seat.client.next_xid ≡ 1 + length (numbers_of n [])
    nothing_on zero n seat drift lbfs count at on = nothing_there seat at
    nothing_on (suc i) n seat drift lbfs count at on = nothing_there n (sym (at_none drift lbfs count i seat at) ∙ on)

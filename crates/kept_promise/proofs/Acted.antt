-- A client has acted on an answer: its core and its queues are those of the facts, whatever came of the answer.
use Rattle.std.proofs.Common.{inl, inr, ◌≡◌, ℕ, ◌+◌, List, [], Option, Some, None, refl, sym, ap, ◌∙◌, subst, map}
use Rattle.client_state.specs.State as client
use Rattle.kept_promise.proofs.Common.{slice_set, Message, ClientStep, Ended, Op, TakenCall, Core, Seat, Session, CoreStep, Loss.Nothing, numbered, with_numbered, taken_of, session_of, ops_after, ops_with, acted, counted, op_ended, op_after, place_after, Book, Ask, Told, Queue, ask_message}
use Rattle.kept_promise.proofs.Lists.{some_is, nothing_there}
use Rattle.kept_promise.proofs.Messages.{Job, job, job_of}
use Rattle.kept_promise.proofs.History.{onward, grows_becomes}
use Rattle.kept_promise.proofs.Later.{cached_later}
use Rattle.kept_promise.proofs.Turns.{Around, around_with, turned_core}
use Rattle.kept_promise.proofs.Facts.{IsOf, IsKept}
use Rattle.kept_promise.proofs.Found.{op_found}
use Rattle.kept_promise.proofs.Leading.{Leads, ups_put, ups_put_in}
use Rattle.kept_promise.proofs.Cuts.{cut_core}
use Rattle.kept_promise.proofs.Heard.{put_up}
use Rattle.kept_promise.proofs.Steps.{Here, session_at, job_op, counting, kept_goes, kept_stops}
use Rattle.kept_promise.proofs.Comes.{GoesTo, EndsIn, Comes}

-- ---- the turn

-- a client acted: this is its state and the place of its operation now, and these are the operations
abbrev pub acted_as : Core → (i : ℕ) → (was : Option ℕ) → client.State → (place : Option ℕ) → List Op → (session : Option ℕ) → List Message → CoreStep
acted_as k i was c place ops session up = record {
  core = record k {
    server = k.server;
    seats = with_numbered k.seats i (record { client = c; session = was; place = place });
    sessions = k.sessions;
    steps = k.steps + 1;
    ops = ops;
    entries = k.entries;
  };
  loss = Nothing;
  session = session;
  up = up;
  down = [];
}

acted_is : (k : Core) (i n : ℕ) (x : Session) (seat : Seat) (c : client.State) (acts : ClientStep) (place : Option ℕ) (ops : List Op) (asks : List Ask) → numbered k.sessions n ≡ Some x → seat.session ≡ Some n → place_after seat.place acts.ended ≡ place → ops_with k.ops seat.place c x.taken (k.steps + 1) acts ≡ ops → acts.send ≡ map ask_message asks
    → acted k i seat c acts ≡ acted_as k i seat.session c place ops (Some n) (map ask_message asks)
acted_is k i n x seat c acts place ops asks at here place_is ops_is send_is =
    let taken : taken_of (session_of k.sessions seat.session) ≡ x.taken = ap (λ (o : Option ℕ). taken_of (session_of k.sessions o)) here ∙ ap taken_of at in
    let ops_now : ops_with k.ops seat.place c (taken_of (session_of k.sessions seat.session)) (k.steps + 1) acts ≡ ops = ap (λ (l : List TakenCall). ops_with k.ops seat.place c l (k.steps + 1) acts) taken ∙ ops_is in
    ap (λ (p : Option ℕ). acted_as k i seat.session c p (ops_with k.ops seat.place c (taken_of (session_of k.sessions seat.session)) (k.steps + 1) acts) seat.session acts.send) place_is
    ∙ ap (λ (l : List Op). acted_as k i seat.session c place l seat.session acts.send) ops_now
    ∙ ap (λ (o : Option ℕ). acted_as k i seat.session c place ops o acts.send) here
    ∙ ap (acted_as k i seat.session c place ops (Some n)) send_is

-- ---- the queues

abbrev pub rest_down : List Queue → (n : ℕ) → Queue → List Told → List Queue
rest_down qs n q ts = with_numbered qs n (record q { downs = ts })

-- what goes up the session is put behind what is on its way there
ups_is : (qs : List Queue) (sessions : List Session) (n : ℕ) (x : Session) (q : Queue) (ts : List Told) (asks : List Ask) → numbered sessions n ≡ Some x → numbered qs n ≡ Some q → ups_put sessions (rest_down qs n q ts) (Some n) asks ≡ with_numbered (rest_down qs n q ts) n (put_up q x.hung asks ts)
ups_is qs sessions n x q ts asks at is =
    ap (λ (o : Option Session). ups_put_in (rest_down qs n q ts) n asks o (numbered (rest_down qs n q ts) n)) at
    ∙ ap (ups_put_in (rest_down qs n q ts) n asks (Some x)) (around_with qs n q (record q { downs = ts }) is).there

ups_around : (qs : List Queue) (n : ℕ) (q r : Queue) (ts : List Told) → numbered qs n ≡ Some q → Around qs (with_numbered (rest_down qs n q ts) n r) n r
ups_around qs n q r ts is =
    let one = around_with qs n q (record q { downs = ts }) is in
    let two = around_with (rest_down qs n q ts) n (record q { downs = ts }) r one.there in
    record { there = two.there; others = λ m apart. two.others m apart ∙ one.others m apart; count = two.count ∙ one.count }

-- ---- what is kept

pub leads_acted : (book : Book) (k : Core) (qs : List Queue) (n : ℕ) (x : Session) (q : Queue) (ts : List Told) (seat : Seat) (c : client.State) (acts : ClientStep) (place : Option ℕ) (ops : List Op) (asks : List Ask) → IsKept book k qs → numbered k.sessions n ≡ Some x → numbered qs n ≡ Some q → numbered k.seats x.owner ≡ Some seat → seat.session ≡ Some n
    → place_after seat.place acts.ended ≡ place → ops_with book.ops seat.place c x.taken (book.steps + 1) acts ≡ ops → acts.send ≡ map ask_message asks
    → ((seats : List Seat) (after : List Queue) → Around k.seats seats x.owner (record seat { client = c; place = place }) → Around qs after n (put_up q x.hung asks ts) → IsKept (onward book 1 ops) (turned_core k (onward book 1 ops) k.server seats k.sessions) after)
    → Leads book (rest_down qs n q ts) (acted k x.owner seat c acts)
leads_acted book k qs n x q ts seat c acts place ops asks kept at is owner here place_is ops_is send_is done =
    let more = onward book 1 ops in
    let seats = with_numbered k.seats x.owner (record { client = c; session = seat.session; place = place }) in
    let after = with_numbered (rest_down qs n q ts) n (put_up q x.hung asks ts) in
    let now = done seats after (around_with k.seats x.owner seat (record { client = c; session = seat.session; place = place }) owner) (ups_around qs n q (put_up q x.hung asks ts) ts is) in
    let core = cut_core book more k k.server seats k.sessions ops (ap (λ (s : ℕ). s + 1) kept.steps) refl kept.entries in
    let ops_now : ops_with k.ops seat.place c x.taken (k.steps + 1) acts ≡ ops = ap (λ (l : List Op). ops_with l seat.place c x.taken (k.steps + 1) acts) (sym kept.ops) ∙ ap (λ (s : ℕ). ops_with book.ops seat.place c x.taken (s + 1) acts) (sym kept.steps) ∙ ops_is in
    subst (Leads book (rest_down qs n q ts)) (sym (acted_is k x.owner n x seat c acts place ops asks at here place_is ops_now send_is)) (record {
      sends = record { replies = []; replies_fit = tt; asks = asks; up_is = refl; strays = []; strays_cut = tt; recalls = []; recalls_fit = tt; tolds = []; down_is = refl };
      more = more;
      moments = refl;
      opening = refl;
      kept = subst (λ (l : List Queue). IsKept more (acted_as k x.owner seat.session c place ops (Some n) (map ask_message asks)).core l) (sym (ups_is qs k.sessions n x q ts asks at is)) (subst (λ (z : Core). IsKept more z after) core now);
    })

-- ---- an answer that is waited for

-- a job's operation has its client's place
pub place_of : (seat : Seat) (j : Job) → job seat ≡ Some j → seat.place ≡ Some j.place
place_of seat j e = by seat.place seat.client.task e
  where
    by : (p : Option ℕ) (o : Option Rattle.client_state.specs.declared.task.Task.Task) → job_of p o ≡ Some j → p ≡ Some j.place
    by (Some p) (Some o) e = ap (λ (z : Job). Some z.place) (some_is _ j e)
    by _ _ e = nothing_there j e

-- the operation after the step
pub ops_now : (book : Book) (i : ℕ) (seat : Seat) (j : Job) (of : IsOf book i j) (c : client.State) (taken : List TakenCall) (acts : ClientStep) → job seat ≡ Some j → ops_with book.ops seat.place c taken (book.steps + 1) acts ≡ slice_set book.ops j.place (op_after of.op c taken (book.steps + 1) acts)
ops_now book i seat j of c taken acts is =
    ap (λ (p : Option ℕ). ops_with book.ops p c taken (book.steps + 1) acts) (place_of seat j is)
    ∙ ap (λ (o : Option Op). ops_after book.ops j.place o c taken (book.steps + 1) acts) of.there

pub leads_goes : (book : Book) (k : Core) (qs : List Queue) (n : ℕ) (x : Session) (q : Queue) (t : Told) (ts : List Told) (j : Job) (g : Here book k qs n x q t ts j) (c : client.State) (acts : ClientStep) → acts.found ≡ None → GoesTo book k qs n x q t ts j g c acts → Leads book (rest_down qs n q ts) (acted k x.owner (session_at book k qs n x q t ts j g).seat c acts)
leads_goes book k qs n x q t ts j g c acts none w =
    let h = session_at book k qs n x q t ts j g in
    let of = job_op book k qs x h.seat j g.kept h.owner g.job_is in
    let tr = counted of.op.traffic acts.counts in
    let ops_is = ops_now book x.owner h.seat j of c x.taken acts g.job_is ∙ ap (slice_set book.ops j.place) (op_found of.op c x.taken (book.steps + 1) acts none) ∙ ap (λ (e : Option Ended). slice_set book.ops j.place (op_ended (counting of.op tr) c x.taken (book.steps + 1) e)) w.ended_is in
    let place_is = ap (place_after h.seat.place) w.ended_is ∙ place_of h.seat j g.job_is in
    leads_acted book k qs n x q ts h.seat c acts (Some j.place) (slice_set book.ops j.place (counting of.op tr)) w.asks g.kept g.at g.is h.owner (h.here g.uncut).0 place_is ops_is w.send_is
    (λ seats after around queues. kept_goes book k qs n x q t ts j g w.to w.next w.forgotten w.asks w.cache w.index w.sent tr seats after w.shows w.cached (subst (λ (s : client.State). Around k.seats seats x.owner (record h.seat { client = s; place = Some j.place })) w.state_is around) queues)

leads_ends : (book : Book) (k : Core) (qs : List Queue) (n : ℕ) (x : Session) (q : Queue) (t : Told) (ts : List Told) (j : Job) (g : Here book k qs n x q t ts j) (c : client.State) (acts : ClientStep) → acts.found ≡ None → EndsIn book k qs n x q t ts j g c acts → Leads book (rest_down qs n q ts) (acted k x.owner (session_at book k qs n x q t ts j g).seat c acts)
leads_ends book k qs n x q t ts j g c acts none w =
    let h = session_at book k qs n x q t ts j g in
    let of = job_op book k qs x h.seat j g.kept h.owner g.job_is in
    let tr = counted of.op.traffic acts.counts in
    let ops_is = ops_now book x.owner h.seat j of c x.taken acts g.job_is ∙ ap (slice_set book.ops j.place) (op_found of.op c x.taken (book.steps + 1) acts none) ∙ ap (λ (e : Option Ended). slice_set book.ops j.place (op_ended (counting of.op tr) c x.taken (book.steps + 1) e)) w.ended_is ∙ ap (slice_set book.ops j.place) w.op_is in
    let place_is = ap (place_after h.seat.place) w.ended_is in
    leads_acted book k qs n x q ts h.seat c acts None (slice_set book.ops j.place w.op) [] g.kept g.at g.is h.owner (h.here g.uncut).0 place_is ops_is w.send_is
    (λ seats after around queues. kept_stops book k qs n x q t ts j g w.op w.made w.opened w.forgotten w.cache w.index seats after w.shows (elim w.cached [ inl old ↦ cached_later book (onward book 1 (slice_set book.ops j.place w.op)) w.made (Some j.place) w.cache (grows_becomes book 1 w.made (Some j.place) j.place of.op w.op of.there w.shows.becomes) old | inr new ↦ new ]) (subst (λ (s : client.State). Around k.seats seats x.owner (record h.seat { client = s; place = None })) w.state_is around) queues)

pub leads_comes : (book : Book) (k : Core) (qs : List Queue) (n : ℕ) (x : Session) (q : Queue) (t : Told) (ts : List Told) (j : Job) (g : Here book k qs n x q t ts j) (r : client.State × ClientStep) → r.1.found ≡ None → Comes book k qs n x q t ts j g r → Leads book (rest_down qs n q ts) (acted k x.owner (session_at book k qs n x q t ts j g).seat r.0 r.1)
leads_comes book k qs n x q t ts j g r none (inl goes) = leads_goes book k qs n x q t ts j g r.0 r.1 none goes
leads_comes book k qs n x q t ts j g r none (inr ends) = leads_ends book k qs n x q t ts j g r.0 r.1 none ends

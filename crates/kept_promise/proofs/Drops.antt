-- A client takes an answer to a call that it has forgotten: it is dropped, and what is under way stays as it is.
use Rattle.std.proofs.Common.{inl, inr, ◌≡◌, ℕ, zero, suc, ◌+◌, ◌<◌, ◌≤◌, List, [], ◌∷◌, ◌++◌, Option, Some, None, Bool, true, false, refl, sym, ap, ◌∙◌, subst, arith, eq-eqb, map}
use Rattle.client_state.specs.State as client
use Rattle.register_model.specs.declared.op.Outcome.TheVariants as told
use Rattle.client_state.specs.declared.task.Stage.TheVariants as stage
use Rattle.kept_promise.proofs.Common.{slice_get, slice_set, ◌==◌, ◌||◌, Pending, has_call, without_call, no_counts, nothing_done, store_pending, Stage, Op, Core, Seat, Session, numbered, ops_with, ops_after, acted, counted, Book, Told, Queue, Upload, UploadCall, is_raw}
use Rattle.kept_promise.proofs.Lists.{some_is, nothing_there, same_or_not, of_replaced, false_and_true, all_map}
use Rattle.kept_promise.proofs.Keys.{times, there_by}
use Rattle.kept_promise.proofs.Messages.{Job, job, AllTolds, IsAnswer, IsCommit}
use Rattle.kept_promise.proofs.History.{Goes, Still, onward, goes_same, still_same, still_becomes}
use Rattle.kept_promise.proofs.Later.{answer_later, commit_later, waits_later, close_later, has_fetch_later, seat_later, Spares}
use Rattle.kept_promise.proofs.Taken.{times_map_append}
use Rattle.kept_promise.proofs.Turns.{Around, turned_core}
use Rattle.kept_promise.proofs.OrderSteps.{IsElse, orderly_dropped}
use Rattle.kept_promise.proofs.CloseSteps.{calls_are, pending_there}
use Rattle.kept_promise.proofs.Facts.{IsSession, IsSeat, IsKept}
use Rattle.kept_promise.proofs.Heard.{told_pending, Moves, put_up, kept_heard}
use Rattle.kept_promise.proofs.Moves.{told_there, without_moves}
use Rattle.kept_promise.proofs.Steps.{job_op, counting, becomes_counting, goes_counting}
use Rattle.kept_promise.proofs.Leading.{Leads}
use Rattle.kept_promise.proofs.Acted.{rest_down, leads_acted, place_of}

-- ---- the call that is forgotten

-- one of two lists has it
in_either : (mine others : List Pending) (i : ℕ) (p : Pending) → slice_get (mine ++ others) i ≡ Some p → has_call mine p.xid ≡ false → (k : ℕ) × (slice_get others k ≡ Some p)
in_either [] others i p at none = (i, at)
in_either (c ∷ cs) others i p at none = by (c.xid == p.xid) refl none i at (λ m. in_either cs others m p)
  where
    by : (b : Bool) → (c.xid == p.xid) ≡ b → (b || has_call cs p.xid) ≡ false → (i : ℕ) → slice_get (c ∷ (cs ++ others)) i ≡ Some p → ((m : ℕ) → slice_get (cs ++ others) m ≡ Some p → has_call cs p.xid ≡ false → (k : ℕ) × (slice_get others k ≡ Some p)) → (k : ℕ) × (slice_get others k ≡ Some p)
    by true same none i at later = absurd cc
    by false same none zero at later = absurd (false_and_true (c.xid == p.xid) same (eq-eqb c.xid p.xid (ap (λ (z : Pending). z.xid) (some_is c p at))))
    by false same none (suc i) at later = later i at none

pub has_there : (calls : List Pending) (i : ℕ) (p : Pending) → slice_get calls i ≡ Some p → has_call calls p.xid ≡ true
has_there [] i p at = nothing_there p at
has_there (c ∷ cs) zero p at = ap (λ b. b || has_call cs p.xid) (eq-eqb c.xid p.xid (ap (λ (z : Pending). z.xid) (some_is c p at)))
has_there (c ∷ cs) (suc i) p at = by (c.xid == p.xid) (has_there cs i p at)
  where
    by : (b : Bool) → has_call cs p.xid ≡ true → (b || has_call cs p.xid) ≡ true
    by true e = refl
    by false e = e

-- a client without a call that it has forgotten
abbrev pub dropped : client.State → (xid : ℕ) → client.State
dropped c xid = record c { forgotten = without_call c.forgotten xid }

-- an answer that the operation under way does not wait for is to a forgotten call
pub forgotten_there : (book : Book) (k : Core) (qs : List Queue) (n : ℕ) (x : Session) (q : Queue) (t : Told) (ts : List Told) → (h : IsSession book k.seats k.server n x q) → q.downs ≡ t ∷ ts → x.cut ≡ false → has_call (client.pending h.seat.client.task) t.xid ≡ false → (i : ℕ) × (slice_get h.seat.client.forgotten i ≡ Some (told_pending t))
forgotten_there book k qs n x q t ts h first uncut none =
    let c = h.seat.client in
    let there = told_there n k.server.waiting q x.hung c.next_xid (client.calls_of c) 0 t (h.talk uncut).balanced (ap (λ (l : List Told). slice_get l 0) first) in
    in_either (client.pending c.task) c.forgotten there.0 (told_pending t) there.1 none

moves_drops : (mine forgotten : List Pending) (i : ℕ) (t : Told) → slice_get forgotten i ≡ Some (told_pending t) → times t.xid (map (λ c. c.xid) (mine ++ forgotten)) ≤ 1 → Moves (mine ++ forgotten) (mine ++ without_call forgotten t.xid) t []
moves_drops mine forgotten i t at once = λ f y.
    let both = times_map_append (λ (c : Pending). c.xid) t.xid mine forgotten in
    let gone = without_moves f y forgotten i (told_pending t) at (omega (arith, both, once)) in
    let before = times_map_append f y mine forgotten in
    let after = times_map_append f y mine (without_call forgotten t.xid) in
    omega (arith, gone, before, after)

-- so no call of the close under way has its xid
nothing_under : (book : Book) (k : Core) (n : ℕ) (x : Session) (q : Queue) (t : Told) → (h : IsSession book k.seats k.server n x q) → x.cut ≡ false → (i : ℕ) → slice_get h.seat.client.forgotten i ≡ Some (told_pending t) → IsElse (job h.seat) t.xid
nothing_under book k n x q t h uncut i there = ((λ j st m u is at under same. stored_under j st m u is at under same), λ j y m is at same. made_under j y m is at same)
  where
    stored_under : (j : Job) (st : Upload) (m : ℕ) (u : UploadCall) → job h.seat ≡ Some j → j.stage ≡ stage.Storing st → slice_get st.under m ≡ Some u → u.xid ≡ t.xid → ⊥
    stored_under j st m u is at under same =
        let c = h.seat.client in
        let once = (h.talk uncut).balanced.once t.xid in
        let calls = ap (λ l. times t.xid (map (λ (p : Pending). p.xid) l)) (calls_are h.seat j is) in
        let split = times_map_append (λ (p : Pending). p.xid) t.xid (client.pending_in j.stage) c.forgotten in
        let stored = ap (λ (z : Stage). times t.xid (map (λ (p : Pending). p.xid) (client.pending_in z))) at in
        let one = subst (λ (y : ℕ). 0 < times y (map (λ (p : Pending). p.xid) (map store_pending st.under))) same (there_by (λ (p : Pending). p.xid) (map store_pending st.under) m (store_pending u) (pending_there st.under m u under)) in
        let two = there_by (λ (p : Pending). p.xid) c.forgotten i (told_pending t) there in
        omega (arith, once, calls, split, stored, one, two)

    made_under : (j : Job) (y m : ℕ) → job h.seat ≡ Some j → j.stage ≡ stage.Making y m → y ≡ t.xid → ⊥
    made_under j y m is at same =
        let c = h.seat.client in
        let once = (h.talk uncut).balanced.once t.xid in
        let calls = ap (λ l. times t.xid (map (λ (p : Pending). p.xid) l)) (calls_are h.seat j is) in
        let split = times_map_append (λ (p : Pending). p.xid) t.xid (client.pending_in j.stage) c.forgotten in
        let stored = ap (λ (z : Stage). times t.xid (map (λ (p : Pending). p.xid) (client.pending_in z))) at in
        let one = subst (λ (z : ℕ). 0 < times z (map (λ (p : Pending). p.xid) (client.pending_in (stage.Making y m)))) same (there_by (λ (p : Pending). p.xid) (client.pending_in (stage.Making y m)) 0 _ refl) in
        let two = there_by (λ (p : Pending). p.xid) c.forgotten i (told_pending t) there in
        omega (arith, once, calls, split, stored, one, two)

-- ---- what is kept

-- nothing that a client has under way is another
kept_dropped : (book : Book) (ops : List Op) (k : Core) (qs : List Queue) (n : ℕ) (x : Session) (q : Queue) (t : Told) (ts : List Told) (seats : List Seat) (after : List Queue) → (kept : IsKept book k qs) → (at : numbered k.sessions n ≡ Some x) → (is : numbered qs n ≡ Some q) → (owned : is_raw x ≡ false) → q.downs ≡ t ∷ ts → x.cut ≡ false
    → (i : ℕ) → slice_get (kept.sessions n x q at is owned).seat.client.forgotten i ≡ Some (told_pending t)
    → Goes book (onward book 1 ops) None None → Still book (onward book 1 ops)
    → IsSeat (onward book 1 ops) k.sessions x.owner (record (kept.sessions n x q at is owned).seat { client = dropped (kept.sessions n x q at is owned).seat.client t.xid })
    → ((others : List Seat) → Around k.seats others x.owner (record (kept.sessions n x q at is owned).seat { client = dropped (kept.sessions n x q at is owned).seat.client t.xid }) → (p : ℕ) (o : Op) → slice_get ops p ≡ Some o → o.outcome ≡ told.Running → (e : Seat) × (j : Job) × (numbered others o.client ≡ Some e) × (job e ≡ Some j) × (j.place ≡ p))
    → Around k.seats seats x.owner (record (kept.sessions n x q at is owned).seat { client = dropped (kept.sessions n x q at is owned).seat.client t.xid }) → Around qs after n (put_up q x.hung [] ts)
    → IsKept (onward book 1 ops) (turned_core k (onward book 1 ops) k.server seats k.sessions) after
kept_dropped book ops k qs n x q t ts seats after kept at is owned first uncut i there goes still seat running around queues =
    let h = kept.sessions n x q at is owned in
    let more = onward book 1 ops in
    let c = dropped h.seat.client t.xid in
    let talk = h.talk uncut in
    let spares : Spares x.closing None = λ p u v. nothing_there p v in
    kept_heard book ops k qs n x q t ts c h.seat.place [] None None seats after kept at is owned first uncut around queues (record {
      goes = goes;
      still = still;
      made_here = λ p f. nothing_there p f;
      ended_here = λ p o f. nothing_there p f;
      old_asks = talk.asked;
      old_tolds = (subst (AllTolds (IsAnswer more x.taken x.closing (job h.seat))) first (all_map (IsAnswer book x.taken x.closing (job h.seat)) (IsAnswer more x.taken x.closing (job h.seat)) (λ u a. answer_later book more None None x.taken x.closing (job h.seat) u goes.grows spares a) q.downs talk.answers)).1;
      old_commits = all_map (IsCommit book x.closing x.cut (job h.seat) h.contents) (IsCommit more x.closing x.cut (job h.seat) h.contents) (λ a m. commit_later book more None None x.closing x.cut (job h.seat) (job h.seat) h.contents a goes.grows spares (λ u. refl) m) q.ups h.commits;
      old_pending = λ m d f. waits_later book more None None x.closing x.cut (job h.seat) (job h.seat) d.session d.xid d.file d.what goes.grows spares (λ u. refl) (h.pending m d f);
      moves = moves_drops (client.pending h.seat.client.task) h.seat.client.forgotten i t there (talk.balanced.once t.xid);
      rising = omega arith;
      asked = tt;
      fits = tt;
      speak = tt;
      commits = tt;
      pieces = tt;
      under = tt;
      few = let s = h.single in omega (arith, s);
      linked = (h.here uncut).1;
      numbers = refl;
      fetch = has_fetch_later book more None None x.taken (job h.seat) goes.grows talk.fetch;
      busy = talk.busy;
      closes = λ j f. close_later book more None None x.closing h.contents h.seat.client.next_temp j (client.local_bytes h.seat.client.opened j.file) j.stage goes.grows spares (h.closes uncut j f);
      seat = seat;
      orderly = (let o = orderly_dropped book more None None n k.server.temps x.hung q t ts h.seat goes.grows first (nothing_under book k n x q t h uncut i there) (h.orderly uncut) in record { asks = o.asks; tolds = o.tolds; holds = o.holds; tree = o.tree });
      running = running;
    })

-- the owner's facts stay but for what it has forgotten
seat_dropped : (book : Book) (sessions : List Session) (i : ℕ) (seat : Seat) (xid : ℕ) → seat.client.linked ≡ true → IsSeat book sessions i seat → IsSeat book sessions i (record seat { client = dropped seat.client xid })
seat_dropped book sessions i seat xid linked h = record {
  session = h.session;
  linked = h.linked;
  unlinked = λ e. absurd (false_and_true seat.client.linked e linked);
  speaks = h.speaks;
  matched = h.matched;
  task = h.task;
  trying = h.trying;
  xids = h.xids;
  next = h.next;
  opened = h.opened;
  kept = h.kept;
}

-- another client's running operation is its job still
elsewhere : (book : Book) (k : Core) (qs : List Queue) (i : ℕ) (seat : Seat) (d : Seat) (others : List Seat) → IsKept book k qs → numbered k.seats i ≡ Some seat → job d ≡ job seat → Around k.seats others i d → (p : ℕ) (o : Op) → slice_get book.ops p ≡ Some o → o.outcome ≡ told.Running → (e : Seat) × (j : Job) × (numbered others o.client ≡ Some e) × (job e ≡ Some j) × (j.place ≡ p)
elsewhere book k qs i seat d others kept was same round p o at run =
    let r = kept.running p o at run in
    elim (same_or_not o.client i) [
      | inr apart ↦ (r.0, r.1, round.others o.client apart ∙ r.2, r.3, r.4)
      | inl mine ↦
          let here : r.0 ≡ seat = some_is r.0 seat (sym r.2 ∙ ap (numbered k.seats) mine ∙ was) in
          (d, r.1, ap (numbered others) mine ∙ round.there, same ∙ ap job (sym here) ∙ r.3, r.4)
    ]

-- with nothing under way
drops_free : (book : Book) (k : Core) (qs : List Queue) (n : ℕ) (x : Session) (q : Queue) (t : Told) (ts : List Told) (i : ℕ) → (kept : IsKept book k qs) → (at : numbered k.sessions n ≡ Some x) → (is : numbered qs n ≡ Some q) → (owned : is_raw x ≡ false) → q.downs ≡ t ∷ ts → x.cut ≡ false
    → slice_get (kept.sessions n x q at is owned).seat.client.forgotten i ≡ Some (told_pending t) → (kept.sessions n x q at is owned).seat.place ≡ None → Leads book (rest_down qs n q ts) (acted k x.owner (kept.sessions n x q at is owned).seat (dropped (kept.sessions n x q at is owned).seat.client t.xid) nothing_done)
drops_free book k qs n x q t ts i kept at is owned first uncut there free =
    let h = kept.sessions n x q at is owned in
    let c = dropped h.seat.client t.xid in
    let goes = goes_same book 1 kept.sound in
    let d : Seat = record h.seat { client = c } in
    let seat = seat_later book (onward book 1 book.ops) None None k.sessions k.sessions x.owner h.seat goes.grows (λ m z f. (z, f, refl, λ e. refl)) (λ p o f. nothing_there p f) (kept.seats x.owner h.seat h.owner) in
    leads_acted book k qs n x q ts h.seat c nothing_done h.seat.place book.ops [] kept at is h.owner (h.here uncut).0 refl (ap (λ (p : Option ℕ). ops_with book.ops p c x.taken (book.steps + 1) nothing_done) free) refl
    (λ seats after around queues. kept_dropped book book.ops k qs n x q t ts seats after kept at is owned first uncut i there goes (still_same book 1 kept.sound) (seat_dropped (onward book 1 book.ops) k.sessions x.owner h.seat t.xid (h.here uncut).1 seat) (λ others round. elsewhere book k qs x.owner h.seat d others kept h.owner refl round) around queues)

-- with an operation under way, which goes on
drops_busy : (book : Book) (k : Core) (qs : List Queue) (n : ℕ) (x : Session) (q : Queue) (t : Told) (ts : List Told) (i : ℕ) (j : Job) → (kept : IsKept book k qs) → (at : numbered k.sessions n ≡ Some x) → (is : numbered qs n ≡ Some q) → (owned : is_raw x ≡ false) → q.downs ≡ t ∷ ts → x.cut ≡ false
    → slice_get (kept.sessions n x q at is owned).seat.client.forgotten i ≡ Some (told_pending t) → job (kept.sessions n x q at is owned).seat ≡ Some j → Leads book (rest_down qs n q ts) (acted k x.owner (kept.sessions n x q at is owned).seat (dropped (kept.sessions n x q at is owned).seat.client t.xid) nothing_done)
drops_busy book k qs n x q t ts i j kept at is owned first uncut there job_is =
    let h = kept.sessions n x q at is owned in
    let c = dropped h.seat.client t.xid in
    let d : Seat = record h.seat { client = c } in
    let of = job_op book k qs x h.seat j kept h.owner job_is in
    let tr = counted of.op.traffic no_counts in
    let r = counting of.op tr in
    let ops = slice_set book.ops j.place r in
    let more = onward book 1 ops in
    let goes = goes_counting book x.owner j tr of kept.sound in
    let seat = seat_later book more None None k.sessions k.sessions x.owner h.seat goes.grows (λ m z f. (z, f, refl, λ e. refl)) (λ p o f. nothing_there p f) (kept.seats x.owner h.seat h.owner) in
    let ops_is = ap (λ (p : Option ℕ). ops_with book.ops p c x.taken (book.steps + 1) nothing_done) (place_of h.seat j job_is) ∙ ap (λ (o : Option Op). ops_after book.ops j.place o c x.taken (book.steps + 1) nothing_done) of.there in
    leads_acted book k qs n x q ts h.seat c nothing_done h.seat.place ops [] kept at is h.owner (h.here uncut).0 refl ops_is refl
    (λ seats after around queues. kept_dropped book ops k qs n x q t ts seats after kept at is owned first uncut i there goes (still_becomes book 1 None None j.place of.op r of.there (becomes_counting book x.owner j tr of kept.sound) kept.sound) (seat_dropped more k.sessions x.owner h.seat t.xid (h.here uncut).1 seat)
    (λ others round p o f run. elim (of_replaced book.ops j.place r p o f) [
      | inl here ↦ (d, j, ap (λ (z : Op). numbered others z.client) here.1 ∙ ap (numbered others) of.client ∙ round.there, job_is, sym here.0)
      | inr was ↦ elsewhere book k qs x.owner h.seat d others kept h.owner refl round p o was.1 run
    ]) around queues)

pub leads_drops : (book : Book) (k : Core) (qs : List Queue) (n : ℕ) (x : Session) (q : Queue) (t : Told) (ts : List Told) → (kept : IsKept book k qs) → (at : numbered k.sessions n ≡ Some x) → (is : numbered qs n ≡ Some q) → (owned : is_raw x ≡ false) → q.downs ≡ t ∷ ts → x.cut ≡ false → has_call (client.pending (kept.sessions n x q at is owned).seat.client.task) t.xid ≡ false
    → Leads book (rest_down qs n q ts) (acted k x.owner (kept.sessions n x q at is owned).seat (dropped (kept.sessions n x q at is owned).seat.client t.xid) nothing_done)
leads_drops book k qs n x q t ts kept at is owned first uncut none =
    let h = kept.sessions n x q at is owned in
    let there = forgotten_there book k qs n x q t ts h first uncut none in
    elim (kept.seats x.owner h.seat h.owner).matched [
      | inl free ↦ drops_free book k qs n x q t ts there.0 kept at is owned first uncut there.1 free.0
      | inr busy ↦ drops_busy book k qs n x q t ts there.0 busy.0 kept at is owned first uncut there.1 busy.1
    ]

-- A client takes an answer: the frame of all that it makes of it.
use Rattle.std.proofs.Common.{inl, inr, ◌≡◌, ℕ, zero, suc, ◌+◌, ◌<◌, ◌≤◌, List, [], ◌∷◌, ◌++◌, length, Option, Some, Bool, true, false, refl, sym, ap, ◌∙◌, subst, arith, eqb-true, ne_eqb, map}
use Rattle.client_state.specs.State as client
use Rattle.register_model.specs.declared.op.Outcome.TheVariants as told
use Rattle.kept_promise.proofs.Common.{nat_tests, slice_get, cond, ◌==◌, nat_le, MessageFits, Pending, FileChange, Op, Core, Seat, Session, numbered, unless, hashed_of, Book, Call, Call.Commit, Call.Walks, Ask, Told, Queue, told_message, call_program, reply_program, is_raw}
use Rattle.kept_promise.proofs.Statements.{ToldFits, CallFits}
use Rattle.kept_promise.proofs.Keys.{times, times_append, own, on_way, change_key, ask_key, told_key, pending_key, IsOurs, call_ours, found_by, there_by, key_code}
use Rattle.kept_promise.proofs.Messages.{Job, job, job_of, AllAsks, AllTolds, Rising, IsAsked, IsAnswer, HasFetch, IsCommit, IsPiece, WaitsFor, TempUnder, CloseOf}
use Rattle.kept_promise.proofs.History.{Goes, Still, onward}
use Rattle.kept_promise.proofs.Later.{same_view}
use Rattle.kept_promise.proofs.Taken.{rising_append, times_map_append}
use Rattle.kept_promise.proofs.Turns.{Around, around_same, turned_core, kept_turn}
use Rattle.kept_promise.proofs.Orderly.{Orderly}
use Rattle.kept_promise.proofs.Facts.{IsBalanced, IsSession, IsSeat, IsKept, commits_in, change_number}
use Rattle.kept_promise.proofs.Takes.{server_still}
use Rattle.kept_promise.proofs.Lists.{false_and_true, all_unless}
use Rattle.kept_promise.proofs.PathNames.{is_creating}

-- ---- calls that wait

abbrev pub ask_pending : Ask → Pending
ask_pending a = record { xid = a.xid; program = call_program a.call }

abbrev pub told_pending : Told → Pending
told_pending t = record { xid = t.xid; program = reply_program t.reply }

-- one call was answered, and these were sent
abbrev pub Moves : (calls after : List Pending) → Told → List Ask → Type 0
Moves calls after t asks = (f : Pending → ℕ) (y : ℕ) → times y (map f after) + times y (f (told_pending t) ∷ []) ≡ times y (map f calls) + times y (map (λ a. f (ask_pending a)) asks)

pub rising_to : (n : ℕ) (asks : List Ask) (top : ℕ) → Rising n asks top → n ≤ top
rising_to n [] top r = r
rising_to n (a ∷ us) top r = let le = r.0 in let later = rising_to (a.xid + 1) us top r.1 in omega (arith, le, later)

pub rising_below : (n : ℕ) (asks : List Ask) (top y : ℕ) → Rising n asks top → y < n → times y (map (λ a. a.xid) asks) ≡ 0
rising_below n [] top y r lt = refl
rising_below n (a ∷ us) top y r lt = let le = r.0 in ap (λ b. cond b (suc (times y (map (λ b. b.xid) us))) (times y (map (λ b. b.xid) us))) (ne_eqb a.xid y (λ e. omega (arith, le, lt, e))) ∙ rising_below (a.xid + 1) us top y r.1 (omega (arith, le, lt))

pub rising_above : (n : ℕ) (asks : List Ask) (top y : ℕ) → Rising n asks top → top ≤ y → times y (map (λ a. a.xid) asks) ≡ 0
rising_above n [] top y r le = refl
rising_above n (a ∷ us) top y r le = let later = rising_to (a.xid + 1) us top r.1 in ap (λ b. cond b (suc (times y (map (λ b. b.xid) us))) (times y (map (λ b. b.xid) us))) (ne_eqb a.xid y (λ e. omega (arith, le, later, e))) ∙ rising_above (a.xid + 1) us top y r.1 le

-- xids that rise are there once, and none is below the first or above the last
pub rising_times : (n : ℕ) (asks : List Ask) (top y : ℕ) → Rising n asks top → times y (map (λ a. a.xid) asks) ≤ 1
rising_times n [] top y r = omega arith
rising_times n (a ∷ us) top y r = by (a.xid == y) refl (rising_times (a.xid + 1) us top y r.1)
  where
    by : (b : Bool) → (a.xid == y) ≡ b → times y (map (λ b. b.xid) us) ≤ 1 → cond b (suc (times y (map (λ b. b.xid) us))) (times y (map (λ b. b.xid) us)) ≤ 1
    by true e le = let none = rising_below (a.xid + 1) us top y r.1 (let s = eqb-true a.xid y e in omega (arith, s)) in omega (arith, none)
    by false e le = le

-- ---- an answer

-- what a client comes to that takes the first answer of a session
pub record Hearing (book : Book) (ops : List Op) (k : Core) (n : ℕ) (x : Session) (q : Queue) (t : Told) (ts : List Told) (c : client.State) (place : Option ℕ) (asks : List Ask) (made ended : Option ℕ) (h : IsSession book k.seats k.server n x q) : Type 0 where
  pub goes : Goes book (onward book 1 ops) made ended
  pub still : Still book (onward book 1 ops)
  pub made_here : (p : ℕ) → made ≡ Some p → x.closing ≡ Some p
  pub ended_here : (p : ℕ) (o : Op) → ended ≡ Some p → slice_get book.ops p ≡ Some o → o.client ≡ x.owner
  -- what is on its way already
  pub old_asks : AllAsks (IsAsked (job_of place c.task)) q.ups
  pub old_tolds : AllTolds (IsAnswer (onward book 1 ops) x.taken x.closing (job_of place c.task)) ts
  pub old_commits : AllAsks (IsCommit (onward book 1 ops) x.closing x.cut (job_of place c.task) h.contents) q.ups
  pub old_pending : (i : ℕ) (d : FileChange) → slice_get (own n k.server.waiting) i ≡ Some d → WaitsFor (onward book 1 ops) d.session x.closing x.cut (job_of place c.task) d.xid d.file d.what
  -- what goes up
  pub moves : Moves (client.calls_of h.seat.client) (client.calls_of c) t asks
  pub rising : Rising h.seat.client.next_xid asks c.next_xid
  pub asked : AllAsks (IsAsked (job_of place c.task)) asks
  pub fits : AllAsks (λ a. CallFits a.lbfs a.xid a.call) asks
  pub speak : AllAsks (λ a. a.lbfs ≡ book.lbfs) asks
  pub commits : AllAsks (IsCommit (onward book 1 ops) x.closing x.cut (job_of place c.task) h.contents) asks
  pub pieces : AllAsks (IsPiece (hashed_of book.moments) h.contents) asks
  pub under : AllAsks (λ a. TempUnder c.next_temp a.call) asks
  pub few : commits_in q.ups + commits_in asks + length (own n k.server.waiting) ≤ 1
  -- the client
  pub linked : c.linked ≡ true
  pub numbers : c.next_temp ≡ h.seat.client.next_temp
  pub fetch : HasFetch (onward book 1 ops) x.taken (job_of place c.task)
  pub busy : (j : Job) → job_of place c.task ≡ Some j → 0 < length (client.pending_in j.stage)
  pub closes : (j : Job) → job_of place c.task ≡ Some j → CloseOf (onward book 1 ops) x.closing h.contents c.next_temp j (client.local_bytes c.opened j.file) j.stage
  pub seat : IsSeat (onward book 1 ops) k.sessions x.owner (record h.seat { client = c; place = place })
  pub orderly : Orderly (onward book 1 ops) n k.server.temps x.hung (record { ups = unless x.hung q.ups asks; downs = ts }) (record h.seat { client = c; place = place })
  pub running : (seats : List Seat) → Around k.seats seats x.owner (record h.seat { client = c; place = place }) → (p : ℕ) (o : Op) → slice_get ops p ≡ Some o → o.outcome ≡ told.Running → (e : Seat) × (j : Job) × (numbered seats o.client ≡ Some e) × (job e ≡ Some j) × (j.place ≡ p)

-- a call makes one change at most
pub change_once : (c : Call) → change_number c ≤ 1
change_once (Commit temp file size) = omega arith
change_once (Walks w) = by (is_creating w)
  where
    by : (b : Bool) → cond b 1 0 ≤ 1
    by true = omega arith
    by false = omega arith
change_once _ = omega arith

pub commits_both : (us vs : List Ask) → commits_in (us ++ vs) ≡ commits_in us + commits_in vs
commits_both [] vs = omega arith
commits_both (a ∷ us) vs = let both = commits_both us vs in omega (arith, both)

rising_unless : (hung : Bool) (n : ℕ) (us vs : List Ask) (top next : ℕ) → Rising n us top → Rising top vs next → Rising n (unless hung us vs) next
rising_unless true n us vs top next a b = wider n us top next (rising_to top vs next b) a
  where
    wider : (n : ℕ) (us : List Ask) (top next : ℕ) → top ≤ next → Rising n us top → Rising n us next
    wider n [] top next le r = omega (arith, r, le)
    wider n (u ∷ us) top next le r = (r.0, wider (u.xid + 1) us top next le r.1)
rising_unless false n us vs top next a b = rising_append n us vs top next a b

pub commits_unless : (hung : Bool) (us vs : List Ask) → commits_in (unless hung us vs) ≤ commits_in us + commits_in vs
commits_unless true us vs = omega arith
commits_unless false us vs = let e = commits_both us vs in omega (arith, e)

-- an answer that was taken has left, and what was sent has come, unless the server lost the connection
way_heard : (n y : ℕ) (w : List FileChange) (q : Queue) (t : Told) (ts : List Told) (asks : List Ask) → q.downs ≡ t ∷ ts → times y (on_way n w (record { ups = q.ups ++ asks; downs = ts })) + times y (told_key t ∷ []) ≡ times y (on_way n w q) + times y (map ask_key asks)
way_heard n y w q t ts asks e =
    let middle = map change_key (own n w) in
    let one = times_append y (map ask_key (q.ups ++ asks)) (middle ++ map told_key ts) in
    let two = times_append y middle (map told_key ts) in
    let three = times_map_append ask_key y q.ups asks in
    let was = ap (λ (l : List Told). times y (map ask_key q.ups ++ (middle ++ map told_key l))) e in
    let four = times_append y (map ask_key q.ups) (middle ++ map told_key (t ∷ ts)) in
    let five = times_append y middle (map told_key (t ∷ ts)) in
    let six = times_append y (told_key t ∷ []) (map told_key ts) in
    omega (arith, one, two, three, was, four, five, six)

way_dropped : (n y : ℕ) (w : List FileChange) (q : Queue) (t : Told) (ts : List Told) → q.downs ≡ t ∷ ts → times y (on_way n w (record { ups = q.ups; downs = ts })) + times y (told_key t ∷ []) ≡ times y (on_way n w q)
way_dropped n y w q t ts e =
    let middle = map change_key (own n w) in
    let one = times_append y (map ask_key q.ups) (middle ++ map told_key ts) in
    let two = times_append y middle (map told_key ts) in
    let was = ap (λ (l : List Told). times y (map ask_key q.ups ++ (middle ++ map told_key l))) e in
    let four = times_append y (map ask_key q.ups) (middle ++ map told_key (t ∷ ts)) in
    let five = times_append y middle (map told_key (t ∷ ts)) in
    let six = times_append y (told_key t ∷ []) (map told_key ts) in
    omega (arith, one, two, was, four, five, six)

abbrev pub put_up : Queue → (hung : Bool) → List Ask → List Told → Queue
put_up q hung asks ts = record { ups = unless hung q.ups asks; downs = ts }

balanced_heard : (n : ℕ) (w : List FileChange) (q : Queue) (hung : Bool) (next top : ℕ) (calls after : List Pending) (t : Told) (ts : List Told) (asks : List Ask) → q.downs ≡ t ∷ ts → Moves calls after t asks → Rising next asks top → IsBalanced n w q hung next calls → IsBalanced n w (put_up q hung asks ts) hung top after
balanced_heard n w q hung next top calls after t ts asks e moves rising h = record {
  most = λ y. most_by hung y (h.most y) (moves pending_key y);
  least = λ up y. least_by hung up y (h.least up y) (moves pending_key y);
  once = λ y. once_by y (nat_le next y) refl (moves (λ p. p.xid) y);
  below = λ y le. let m = moves (λ p. p.xid) y in let a = rising_above next asks top y rising le in let r = rising_to next asks top rising in let b = h.below y (omega (arith, r, le)) in omega (arith, m, a, b);
  ours = λ i p at. ours_by p (there_by pending_key after i p at) (moves pending_key (pending_key p));
}
  where
    most_by : (b : Bool) (y : ℕ) → times y (on_way n w q) ≤ times y (map pending_key calls) → times y (map pending_key after) + times y (told_key t ∷ []) ≡ times y (map pending_key calls) + times y (map ask_key asks) → times y (on_way n w (put_up q b asks ts)) ≤ times y (map pending_key after)
    most_by true y le m = let u = way_dropped n y w q t ts e in omega (arith, le, m, u)
    most_by false y le m = let u = way_heard n y w q t ts asks e in omega (arith, le, m, u)

    least_by : (b : Bool) → b ≡ false → (y : ℕ) → times y (map pending_key calls) ≤ times y (on_way n w q) → times y (map pending_key after) + times y (told_key t ∷ []) ≡ times y (map pending_key calls) + times y (map ask_key asks) → times y (map pending_key after) ≤ times y (on_way n w (put_up q b asks ts))
    least_by true up y le m = absurd cc
    least_by false up y le m = let u = way_heard n y w q t ts asks e in omega (arith, le, m, u)

    once_by : (y : ℕ) (b : Bool) → nat_le next y ≡ b → times y (map (λ p. p.xid) after) + times y (t.xid ∷ []) ≡ times y (map (λ p. p.xid) calls) + times y (map (λ a. a.xid) asks) → times y (map (λ p. p.xid) after) ≤ 1
    once_by y true le m = let z = h.below y (grind (arith, nat_tests, le)) in let r = rising_times next asks top y rising in omega (arith, m, z, r)
    once_by y false lt m = let z = h.once y in let r = rising_below next asks top y rising (grind (arith, nat_tests, lt)) in omega (arith, m, z, r)

    ours_by : (p : Pending) → 0 < times (pending_key p) (map pending_key after) → times (pending_key p) (map pending_key after) + times (pending_key p) (told_key t ∷ []) ≡ times (pending_key p) (map pending_key calls) + times (pending_key p) (map ask_key asks) → IsOurs p.program
    ours_by p lt m = by (times (pending_key p) (map pending_key calls)) refl
      where
        by : (z : ℕ) → times (pending_key p) (map pending_key calls) ≡ z → IsOurs p.program
        by (suc z) e2 = let f = found_by pending_key calls (pending_key p) (omega (arith, e2)) in let o = h.ours f.0 f.1 f.2 in let c = key_code f.1.xid p.xid f.1.program p.program f.3 in omega (arith, o, c)
        by zero e2 = let f = found_by ask_key asks (pending_key p) (omega (arith, e2, lt, m)) in let o = call_ours f.1.call in let c = key_code f.1.xid p.xid (call_program f.1.call) p.program f.3 in omega (arith, o, c)

pub kept_heard : (book : Book) (ops : List Op) (k : Core) (qs : List Queue) (n : ℕ) (x : Session) (q : Queue) (t : Told) (ts : List Told) (c : client.State) (place : Option ℕ) (asks : List Ask) (made ended : Option ℕ) (seats : List Seat) (after : List Queue)
    → (kept : IsKept book k qs) → (at : numbered k.sessions n ≡ Some x) → (is : numbered qs n ≡ Some q) → (owned : is_raw x ≡ false) → q.downs ≡ t ∷ ts → x.cut ≡ false
    → Around k.seats seats x.owner (record (kept.sessions n x q at is owned).seat { client = c; place = place }) → Around qs after n (put_up q x.hung asks ts)
    → Hearing book ops k n x q t ts c place asks made ended (kept.sessions n x q at is owned)
    → IsKept (onward book 1 ops) (turned_core k (onward book 1 ops) k.server seats k.sessions) after
kept_heard book ops k qs n x q t ts c place asks made ended seats after kept at is owned e uncut around queues shows =
    let h = kept.sessions n x q at is owned in
    let more = onward book 1 ops in
    let d : Seat = record h.seat { client = c; place = place } in
    let first_down : (P : Told → Type 0) → AllTolds P q.downs → AllTolds P ts = λ P all. (subst (AllTolds P) e all).1 in
    let top_le = rising_to h.seat.client.next_xid asks c.next_xid shows.rising in
    let single = shows.few in
    let less = commits_unless x.hung q.ups asks in
    kept_turn book more k qs k.server seats k.sessions after n x x (put_up q x.hung asks ts) h.seat d made ended (record {
      at = at;
      was = h.owner;
      session_around = around_same k.sessions n x at;
      queue_around = queues;
      seat_around = around;
      owner = refl;
      goes = shows.goes;
      server = server_still book more made ended k.server k.server.leasing k.server.temps k.server.index kept.server.leases shows.goes.grows shows.still kept.server;
      sessions_made = refl;
      view = λ m apart. same_view m k.server;
      elsewhere = inr (h.here uncut).0;
      closing = λ p f. inl f;
      made_here = shows.made_here;
      ended_here = shows.ended_here;
      session = record {
        seat = d;
        owner = around.there;
        here = λ u. ((h.here uncut).0, shows.linked);
        shut = λ cut. absurd (false_and_true x.cut uncut cut);
        lost = λ hung. hung_ups x.hung hung (h.lost hung);
        stands_is = h.stands_is;
        ups_fit = all_unless (λ (a : Ask). CallFits a.lbfs a.xid a.call) x.hung q.ups asks h.ups_fit shows.fits;
        ups_speak = all_unless (λ (a : Ask). a.lbfs ≡ book.lbfs) x.hung q.ups asks h.ups_speak shows.speak;
        downs_fit = first_down (ToldFits book.lbfs) h.downs_fit;
        talk = λ u.
            let talk = h.talk uncut in
            record {
              floor = talk.floor;
              numbered = talk.numbered;
              under = talk.under;
              rising = rising_unless x.hung talk.floor q.ups asks h.seat.client.next_xid c.next_xid talk.rising shows.rising;
              asked = all_unless (IsAsked (job_of place c.task)) x.hung q.ups asks shows.old_asks shows.asked;
              answers = shows.old_tolds;
              fetch = shows.fetch;
              balanced = balanced_heard n k.server.waiting q x.hung h.seat.client.next_xid c.next_xid (client.calls_of h.seat.client) (client.calls_of c) t ts asks e shows.moves shows.rising talk.balanced;
              busy = shows.busy;
            };
        contents = h.contents;
        lengths = h.lengths;
        commits = all_unless (IsCommit more x.closing x.cut (job_of place c.task) h.contents) x.hung q.ups asks shows.old_commits shows.commits;
        pieces = all_unless (IsPiece (hashed_of book.moments) h.contents) x.hung q.ups asks h.pieces shows.pieces;
        temps = h.temps;
        temps_below = λ u. let f = h.temps_below uncut in (all_unless (λ (a : Ask). TempUnder c.next_temp a.call) x.hung q.ups asks (subst (λ (z : ℕ). AllAsks (λ a. TempUnder z a.call) q.ups) (sym shows.numbers) f.0) shows.under, λ i m w lt b key. subst (λ (z : ℕ). m < z) (sym shows.numbers) (f.1 i m w lt b key));
        closes = λ u j f. shows.closes j f;
        pending = shows.old_pending;
        single = omega (arith, single, less);
        old = λ p f. let o = h.old p f in let u = shows.goes.grows.each p o.0 o.1 in (u.0, u.1, u.2.client ∙ o.2);
        orderly = λ u. shows.orderly;
      };
      seat = shows.seat;
      running = shows.running seats around;
      shelf = kept.shelf;
      home = kept.home;
    }) kept.journal kept
  where
    hung_ups : (b : Bool) → b ≡ true → q.ups ≡ [] → unless b q.ups asks ≡ []
    hung_ups true u none = none
    hung_ups false u none = absurd cc

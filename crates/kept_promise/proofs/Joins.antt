-- A client joins: a session begins, with nothing on its way.
use Rattle.std.proofs.Common.{◌⊎◌, inl, inr, ◌≡◌, ℕ, zero, suc, ◌+◌, ◌<◌, List, [], ◌∷◌, ◌++◌, length, Option, Some, None, Bool, true, false, refl, sym, ap, ◌∙◌, subst, arith, eq-eqb, ne_eqb, map}
use Rattle.std.proofs.lemmas.List.Folds.{list_any-append}
use Rattle.server_core.specs.State as server
use Rattle.chunk_calls.specs.Files as the_files
use Rattle.client_state.specs.State as client
use Rattle.kept_promise.proofs.Common.{nat_tests, slice_get, cond, ◌==◌, ◌||◌, nat_lt, list_any, has_room, connect, Temp, temp_at, key_of, FileChange, ServerStep, joined, Task, Pending, Op, Core, Seat, Session, is_raw, new_session, numbered, with_numbered, joins_as, joins, Book, Queue, no_queue, raw_session, raw_joins_as}
use Rattle.kept_promise.proofs.Lists.{some_is, nothing_there, same_or_not, at_end, of_appended, kept_appended, count_more, true_and_false, false_and_true}
use Rattle.kept_promise.proofs.Keys.{times, own, on_way, change_key, pending_key}
use Rattle.kept_promise.proofs.Messages.{Job, job, job_of}
use Rattle.kept_promise.proofs.History.{onward, grows_same, goes_same, still_same}
use Rattle.kept_promise.proofs.Later.{session_later, seat_later, cached_later, SameView, raw_later}
use Rattle.kept_promise.proofs.Turns.{around_with, turned_core, numbered_within, has_owner, came_new}
use Rattle.kept_promise.proofs.Shelves.{of_lookup}
use Rattle.kept_promise.proofs.Ordered.{orderly_new}
use Rattle.kept_promise.proofs.Facts.{IsTalk, IsSession, IsSeat, IsMatched, IsKept, IsRawSession}
use Rattle.kept_promise.proofs.Leading.{Leads, KeptJoins, KeptRawJoins}
use Rattle.kept_promise.proofs.Takes.{file_still, fresh_still}
use Rattle.kept_promise.proofs.Hangs.{leads_quiet}
use Rattle.kept_promise.proofs.Growth.{there_later}

-- ---- lists with one more

at_new : {A : Type 0} (xs : List A) (x : A) (n : ℕ) → n ≡ suc (length xs) → numbered (xs ++ x ∷ []) n ≡ Some x
at_new xs x n e = ap (numbered (xs ++ x ∷ [])) e ∙ at_end xs x

still_there : {A : Type 0} (xs : List A) (x : A) (n : ℕ) (y : A) → numbered xs n ≡ Some y → numbered (xs ++ x ∷ []) n ≡ Some y
still_there xs x zero y e = nothing_there y e
still_there xs x (suc k) y e = kept_appended xs x k y e

-- what stands at a number is the new one, or was there
of_new : {A : Type 0} (xs : List A) (x : A) (n : ℕ) (y : A) → numbered (xs ++ x ∷ []) n ≡ Some y → ((n ≡ suc (length xs)) × (y ≡ x)) ⊎ (numbered xs n ≡ Some y)
of_new xs x zero y e = nothing_there y e
of_new xs x (suc k) y e = elim (of_appended xs x k y e) [ inl h ↦ inl (ap suc h.0, h.1) | inr h ↦ inr h ]

-- ---- a client without a task

no_job : (place : Option ℕ) (task : Option Task) → task ≡ None → job_of place task ≡ None
no_job (Some k) (Some t) e = absurd cc
no_job _ _ e = refl

no_calls : (task : Option Task) (forgotten : List Pending) → task ≡ None → forgotten ≡ [] → client.pending task ++ forgotten ≡ []
no_calls None forgotten e f = f
no_calls (Some t) forgotten e f = absurd cc

unmatched : (seat : Seat) → seat.client.task ≡ None → IsMatched seat → (seat.place ≡ None)
unmatched seat none (inl h) = h.0
unmatched seat none (inr h) = nothing_there h.0 (sym (no_job seat.place seat.client.task none) ∙ h.1)

-- ---- the server

pub own_none : (n : ℕ) (ws : List FileChange) → ((i : ℕ) (c : FileChange) → slice_get ws i ≡ Some c → c.session ≡ n → ⊥) → own n ws ≡ []
own_none n [] h = refl
own_none n (c ∷ ws) h = let e : (c.session == n) ≡ false = ne_eqb c.session n (h 0 c refl) in ap (λ t. cond t (c ∷ own n ws) (own n ws)) e ∙ own_none n ws (λ i d f. h (suc i) d f)

stands_more : (m n : ℕ) (ks : List ℕ) → (m ≡ n → ⊥) → list_any (λ k. k == m) (ks ++ n ∷ []) ≡ list_any (λ k. k == m) ks
stands_more m n ks apart =
    let e : (n == m) ≡ false = ne_eqb n m (λ q. apart (sym q)) in
    list_any-append (λ k. k == m) ks (n ∷ []) ∙ rw e (by (list_any (λ k. k == m) ks))
  where
    by : (b : Bool) → (b || (false || false)) ≡ b
    by true = refl
    by false = refl

stands_new : (n : ℕ) (ks : List ℕ) → list_any (λ k. k == n) (ks ++ n ∷ []) ≡ true
stands_new n ks =
    let e : (n == n) ≡ true = eq-eqb n n refl in
    list_any-append (λ k. k == n) ks (n ∷ []) ∙ rw e (by (list_any (λ k. k == n) ks))
  where
    by : (b : Bool) → (b || (true || false)) ≡ true
    by true = refl
    by false = refl

-- ---- the event

abbrev with_session : server.State → (n : ℕ) → server.State
with_session s n = record s { sessions = s.sessions ++ n ∷ []; sessions_made = s.sessions_made + 1 }

-- of a new session no message came
abbrev pub one_came : Core → Core
one_came k = record k { came = k.came ++ 0 ∷ [] }

abbrev seated : Seat → (n : ℕ) → Seat
seated seat n = record seat { client = joined seat.client; session = Some n }

new_talk : (book : Book) (s : server.State) (n c : ℕ) (seat : Seat) → seat.client.task ≡ None → own n s.waiting ≡ [] → IsTalk book n s.waiting (new_session c) no_queue (seated seat n)
new_talk book s n c seat free none =
    let jobs : job (seated seat n) ≡ None = no_job seat.place seat.client.task free in
    let calls : client.calls_of (joined seat.client) ≡ [] = no_calls seat.client.task [] free refl in
    let way : on_way n s.waiting no_queue ≡ [] = ap (λ (l : List FileChange). map change_key l ++ []) none in
    record {
      floor = 1;
      numbered = (omega arith, refl);
      under = tt;
      rising = omega arith;
      asked = tt;
      answers = tt;
      fetch = λ j e. nothing_there j (sym jobs ∙ e);
      balanced = record {
        most = λ y. let a = ap (times y) way in let b = ap (λ l. times y (map pending_key l)) calls in omega (arith, a, b);
        least = λ e y. let a = ap (times y) way in let b = ap (λ l. times y (map pending_key l)) calls in omega (arith, a, b);
        once = λ y. let b = ap (λ l. times y (map (λ p. p.xid) l)) calls in omega (arith, b);
        below = λ y le. ap (λ l. times y (map (λ p. p.xid) l)) calls;
        ours = λ i p e. nothing_there p (ap (λ l. slice_get l i) (sym calls) ∙ e);
      };
      busy = λ j e. nothing_there j (sym jobs ∙ e);
    }

joined_now : (book : Book) (k : Core) (qs : List Queue) (c n : ℕ) (seat : Seat) → IsKept book k qs → n ≡ k.server.sessions_made + 1 → numbered k.seats c ≡ Some seat → seat.client.linked ≡ false
    → IsKept (onward book 2 book.ops) (turned_core (one_came k) (onward book 2 book.ops) (with_session k.server n) (with_numbered k.seats c (seated seat n)) (k.sessions ++ new_session c ∷ [])) (qs ++ no_queue ∷ [])
joined_now book k qs c n seat kept number at unlinked =
    let more = onward book 2 book.ops in
    let g = grows_same book 2 in
    let s = k.server in
    let r = with_session s n in
    let seats = with_numbered k.seats c (seated seat n) in
    let sessions = k.sessions ++ new_session c ∷ [] in
    let around = around_with k.seats c seat (seated seat n) at in
    let was = kept.seats c seat at in
    let free : seat.client.task ≡ None = (was.unlinked unlinked).0 in
    let jobs : job (seated seat n) ≡ None = no_job seat.place seat.client.task free in
    let made = kept.made.0 in
    let late : n ≡ suc (length k.sessions) = omega (arith, number, made) in
    let late_q : n ≡ suc (length qs) = omega (arith, late, kept.made.1) in
    let none : own n s.waiting ≡ [] = own_none n s.waiting (λ i d e same. let z = kept.home i d e in let w = numbered_within k.sessions d.session z.0 z.1 in omega (arith, w, same, late)) in
    record {
      lbfs = kept.lbfs;
      ops = refl;
      steps = refl;
      journal = kept.journal;
      entries = refl;
      sound = (goes_same book 2 kept.sound).sound;
      raws = kept.raws;
      came = let s = kept.steps in came_new k.came (length k.sessions) (length sessions) k.steps more.steps (count_more k.sessions (new_session c)) (omega (arith, s)) kept.came;
      server = record { held = λ f. file_still book more None None f (the_files.file_at s.tree f) g (still_same book 2 kept.sound) (kept.server.held f); fresh = fresh_still book more None None s.tree g (still_same book 2 kept.sound) kept.server.fresh; bounded = kept.server.bounded; zero = kept.server.zero; rooted = kept.server.rooted; wants = kept.server.wants; changes = kept.server.changes; bytes = kept.server.bytes; lengths = kept.server.lengths; targets = λ i c e. there_later book more None None c.file g (kept.server.targets i c e); xids = kept.server.xids; leases = kept.server.leases; serves = kept.server.serves };
      made = (let a = count_more k.sessions (new_session c) in omega (arith, a, made), count_more qs no_queue ∙ ap suc kept.made.1 ∙ sym (count_more k.sessions (new_session c)));
      sessions = λ m z p f h own. elim (of_new k.sessions (new_session c) m z f) [
        | inl new ↦ elim (of_new qs no_queue m p h) [
          | inl also ↦ new_session_is m z p (new.0 ∙ sym late) new.1 also.1 free none
          | inr old ↦ let w = numbered_within qs m p old in absurd (omega (arith, w, new.0, kept.made.1))
        ]
        | inr old ↦ elim (of_new qs no_queue m p h) [
          | inl also ↦ let w = numbered_within k.sessions m z old in absurd (omega (arith, w, also.0, kept.made.1))
          | inr there ↦ old_session m z p late old (kept.sessions m z p old there own) (same_or_not z.owner c)
        ]
      ];
      strangers = λ m z p f h raw. elim (of_new k.sessions (new_session c) m z f) [
        | inl new ↦ absurd (true_and_false (is_raw z) raw (ap is_raw new.1 ∙ has_owner k.seats (new_session c) seat at))
        | inr old ↦ elim (of_new qs no_queue m p h) [
          | inl also ↦ let w = numbered_within k.sessions m z old in absurd (omega (arith, w, also.0, kept.made.1))
          | inr there ↦ raw_later k.server (with_session k.server n) m z p (view m z late old) (kept.strangers m z p old there raw)
        ]
      ];
      seats = λ i e f. elim (same_or_not i c) [
        | inl own ↦ subst (IsSeat more sessions i) (sym (some_is e (seated seat n) (sym f ∙ ap (numbered seats) own ∙ around.there))) (subst (λ (z : ℕ). IsSeat more sessions z (seated seat n)) (sym own) (new_seat_is late free was))
        | inr apart ↦ seat_later book more None None k.sessions sessions i e g (λ m z h. (z, still_there k.sessions (new_session c) m z h, refl, λ mine. refl)) (λ p o h. nothing_there p h) (kept.seats i e (sym (around.others i apart) ∙ f))
      ];
      running = λ p o f run. let old = kept.running p o f run in elim (same_or_not o.client c) [
        | inr apart ↦ (old.0, old.1, around.others o.client apart ∙ old.2, old.3, old.4)
        | inl mine ↦ absurd (busy old.0 old.1 (some_is old.0 seat (sym old.2 ∙ ap (numbered k.seats) mine ∙ at)) old.3 free)
      ];
      closings = λ a b p u v f h e q. elim (of_new k.sessions (new_session c) a u f) [
        | inl new ↦ nothing_there p (ap (λ (z : Session). z.closing) (sym new.1) ∙ e)
        | inr one ↦ elim (of_new k.sessions (new_session c) b v h) [
          | inl new ↦ nothing_there p (ap (λ (z : Session). z.closing) (sym new.1) ∙ q)
          | inr two ↦ kept.closings a b p u v one two e q
        ]
      ];
      home = λ i d f. let z = kept.home i d f in (z.0, still_there k.sessions (new_session c) d.session z.0 z.1, z.2);
      shelf = kept.shelf;
      unborn = λ o m i e past lt g at. kept.unborn o m i e (let a = count_more k.sessions (new_session c) in omega (arith, past, a)) lt g at;
    }
  where
    busy : (e : Seat) (j : Job) → e ≡ seat → job e ≡ Some j → seat.client.task ≡ None → ⊥
    busy e j same is none = nothing_there j (sym (no_job seat.place seat.client.task none) ∙ ap job (sym same) ∙ is)

    -- no temporary file is of the new session
    no_temp : (m : ℕ) → m < 4294967296 → temp_at k.server.temps n m ≡ None
    no_temp m lt = by (temp_at k.server.temps n m) refl
      where
        by : (o : Option Temp) → temp_at k.server.temps n m ≡ o → o ≡ None
        by None e = refl
        by (Some t) e = let f = of_lookup k.server.temps (key_of n m) t e in let made = kept.made.0 in absurd (kept.unborn n m f.0 f.1 (omega (arith, number, made)) lt f.2 f.3)

    new_session_is : (m : ℕ) (z : Session) (p : Queue) → m ≡ n → z ≡ new_session c → p ≡ no_queue → seat.client.task ≡ None → own n k.server.waiting ≡ [] → IsSession (onward book 2 book.ops) (with_numbered k.seats c (seated seat n)) (with_session k.server n) m z p
    new_session_is m z p e f h free none =
        let more = onward book 2 book.ops in
        let seats = with_numbered k.seats c (seated seat n) in
        let around = around_with k.seats c seat (seated seat n) at in
        let made = kept.made.0 in
        subst (λ (i : ℕ). IsSession more seats (with_session k.server n) i z p) (sym e)
        (subst (λ (x : Session). IsSession more seats (with_session k.server n) n x p) (sym f)
        (subst (λ (q : Queue). IsSession more seats (with_session k.server n) n (new_session c) q) (sym h) (record {
          seat = seated seat n;
          owner = around.there;
          here = λ uncut. (refl, refl);
          shut = λ cut. absurd cc;
          lost = λ hung. absurd cc;
          stands_is = stands_new n k.server.sessions;
          ups_fit = tt;
          ups_speak = tt;
          downs_fit = tt;
          talk = λ uncut. new_talk more (with_session k.server n) n c seat free none;
          contents = λ i. [];
          lengths = λ i. omega arith;
          commits = tt;
          pieces = tt;
          temps = λ i m e lt g at. absurd (kept.unborn n m i e (omega (arith, number, made)) lt g at);
          temps_below = λ uncut. (tt, λ i m e lt g at. absurd (kept.unborn n m i e (omega (arith, number, made)) lt g at));
          closes = λ uncut j g. nothing_there j (sym (no_job seat.place seat.client.task free) ∙ g);
          pending = λ i d g. nothing_there d (ap (λ (l : List FileChange). slice_get l i) (sym none) ∙ g);
          single = let l = ap length none in omega (arith, l);
          old = λ i g. nothing_there i g;
          orderly = λ uncut. orderly_new more n k.server.temps (seated seat n) (no_job seat.place seat.client.task free) (λ m lt. no_temp m lt);
        })))

    view : (m : ℕ) (z : Session) → n ≡ suc (length k.sessions) → numbered k.sessions m ≡ Some z → SameView m k.server (with_session k.server n)
    view m z late f = let w = numbered_within k.sessions m z f in record { stands_is = stands_more m n k.server.sessions (λ q. omega (arith, w, q, late)); waiting = refl; temps = λ i m e lt g at. (i, g); found = λ m lt. refl }

    old_session : (m : ℕ) (z : Session) (p : Queue) → n ≡ suc (length k.sessions) → numbered k.sessions m ≡ Some z → IsSession book k.seats k.server m z p → ((z.owner ≡ c) ⊎ (z.owner ≡ c → ⊥)) → IsSession (onward book 2 book.ops) (with_numbered k.seats c (seated seat n)) (with_session k.server n) m z p
    old_session m z p late f old (inr apart) =
        session_later book (onward book 2 book.ops) None None k.seats (with_numbered k.seats c (seated seat n)) k.server (with_session k.server n) m z p old.seat old.seat (grows_same book 2) old.owner ((around_with k.seats c seat (seated seat n) at).others z.owner apart ∙ old.owner) (λ e. refl) (λ i u v. nothing_there i v) (view m z late f) old
    old_session m z p late f old (inl mine) =
        let here : old.seat ≡ seat = some_is old.seat seat (sym old.owner ∙ ap (numbered k.seats) mine ∙ at) in
        session_later book (onward book 2 book.ops) None None k.seats (with_numbered k.seats c (seated seat n)) k.server (with_session k.server n) m z p old.seat (seated seat n) (grows_same book 2) old.owner (ap (numbered (with_numbered k.seats c (seated seat n))) mine ∙ (around_with k.seats c seat (seated seat n) at).there)
        (λ uncut. absurd (linked_not (ap (λ (v : Seat). v.client.linked) (sym here) ∙ (old.here uncut).1))) (λ i u v. nothing_there i v) (view m z late f) old
      where
        linked_not : seat.client.linked ≡ true → ⊥
        linked_not e = absurd cc

    new_seat_is : n ≡ suc (length k.sessions) → seat.client.task ≡ None → IsSeat book k.sessions c seat → IsSeat (onward book 2 book.ops) (k.sessions ++ new_session c ∷ []) c (seated seat n)
    new_seat_is late free was =
        let jobs : job (seated seat n) ≡ None = no_job seat.place seat.client.task free in
        record {
          session = λ i e. let same : n ≡ i = some_is n i e in (new_session c, ap (numbered (k.sessions ++ new_session c ∷ [])) (sym same) ∙ at_new k.sessions (new_session c) n late, refl);
          linked = λ e. (n, new_session c, refl, at_new k.sessions (new_session c) n late, refl);
          unlinked = λ e. absurd cc;
          speaks = was.speaks;
          matched = inl (unmatched seat free was.matched, free);
          task = λ j e. nothing_there j (sym jobs ∙ e);
          trying = λ j i x e f. nothing_there j (sym jobs ∙ e);
          xids = λ j e. nothing_there j (sym jobs ∙ e);
          next = (omega arith, omega arith);
          opened = λ f l e. let o = was.opened f l e in (there_later book (onward book 2 book.ops) None None f (grows_same book 2) o.0, o.1);
          kept = cached_later book (onward book 2 book.ops) None None seat.client.cache (grows_same book 2) was.kept;
        }

core_joined : (book : Book) (k : Core) (qs : List Queue) (r : server.State) (seats : List Seat) (sessions : List Session) → IsKept book k qs → turned_core (one_came k) (onward book 2 book.ops) r seats sessions ≡ record (one_came k) { server = r; seats = seats; sessions = sessions; steps = k.steps + 2; ops = k.ops; entries = k.entries }
core_joined book k qs r seats sessions h =
    ap (λ (s : ℕ). record (one_came k) { server = r; seats = seats; sessions = sessions; steps = s + 2; ops = book.ops; entries = book.entries }) h.steps
    ∙ ap (λ (o : List Op). record (one_came k) { server = r; seats = seats; sessions = sessions; steps = k.steps + 2; ops = o; entries = book.entries }) h.ops
    ∙ ap (λ (e : List ℕ). record (one_came k) { server = r; seats = seats; sessions = sessions; steps = k.steps + 2; ops = k.ops; entries = e }) h.entries

-- below the limits the server makes a session
pub connects : (s : server.State) → s.sessions_made < 4294967295 → length s.sessions < 64 → connect s (has_room s) ≡ connect s true
connects s made few =
    let a : nat_lt (length s.sessions) 64 ≡ true = grind (arith, nat_tests, few) in
    let b : nat_lt s.sessions_made 4294967295 ≡ true = grind (arith, nat_tests, made) in
    let room : has_room s ≡ true = rw (a, b) refl in
    ap (connect s) room

leads_joined : (book : Book) (k : Core) (qs : List Queue) (c : ℕ) (seat : Seat) → IsKept book k qs → numbered k.seats c ≡ Some seat → seat.client.linked ≡ false → k.server.sessions_made < 4294967295 → length k.server.sessions < 64 → Leads book qs (joins k c (Some seat))
leads_joined book k qs c seat kept at unlinked made few =
    let n : ℕ = k.server.sessions_made + 1 in
    let step = connects k.server made few in
    let seats = with_numbered k.seats c (seated seat n) in
    let sessions = k.sessions ++ new_session c ∷ [] in
    let now = subst (λ (z : Core). IsKept (onward book 2 book.ops) z (qs ++ no_queue ∷ [])) (core_joined book k qs (with_session k.server n) seats sessions kept) (joined_now book k qs c n seat kept refl at unlinked) in
    subst (λ (r : server.State × ServerStep). Leads book qs (joins_as k c seat r.0 r.1.told)) (sym step) (record {
      sends = record { replies = []; replies_fit = tt; asks = []; up_is = refl; strays = []; strays_cut = tt; recalls = []; recalls_fit = tt; tolds = []; down_is = refl };
      more = onward book 2 book.ops;
      moments = refl;
      opening = refl;
      kept = now;
    })

pub kept_joins : KeptJoins
kept_joins = λ book k qs c kept noted made few free. by book k qs c kept made few (numbered k.seats c) refl (λ seat e. free seat e)
  where
    by : (book : Book) (k : Core) (qs : List Queue) (c : ℕ) → IsKept book k qs → k.server.sessions_made < 4294967295 → length k.server.sessions < 64 → (o : Option Seat) → numbered k.seats c ≡ o → ((seat : Seat) → numbered k.seats c ≡ Some seat → seat.client.linked ≡ false) → Leads book qs (joins k c o)
    by book k qs c kept made few None at free = leads_quiet book k qs kept
    by book k qs c kept made few (Some seat) at free = leads_joined book k qs c seat kept at (free seat at) made few

-- ---- a session is made that is no client's

raw_view : (book : Book) (k : Core) (qs : List Queue) (n m : ℕ) (z : Session) → IsKept book k qs → n ≡ suc (length k.sessions) → numbered k.sessions m ≡ Some z → SameView m k.server (with_session k.server n)
raw_view book k qs n m z kept late f = let w = numbered_within k.sessions m z f in record { stands_is = stands_more m n k.server.sessions (λ q. omega (arith, w, q, late)); waiting = refl; temps = λ i m e lt g at. (i, g); found = λ m lt. refl }

raw_joined : (book : Book) (k : Core) (qs : List Queue) (n : ℕ) → IsKept book k qs → n ≡ k.server.sessions_made + 1
    → IsKept (onward book 1 book.ops) (record (one_came k) { steps = k.steps + 1; server = with_session k.server n; sessions = k.sessions ++ raw_session ∷ [] }) (qs ++ no_queue ∷ [])
raw_joined book k qs n kept number =
    let more = onward book 1 book.ops in
    let g = grows_same book 1 in
    let s = k.server in
    let r = with_session s n in
    let sessions = k.sessions ++ raw_session ∷ [] in
    let made = kept.made.0 in
    let late : n ≡ suc (length k.sessions) = omega (arith, number, made) in
    let none : own n s.waiting ≡ [] = own_none n s.waiting (λ i d e same. let z = kept.home i d e in let w = numbered_within k.sessions d.session z.0 z.1 in omega (arith, w, same, late)) in
    record {
      lbfs = kept.lbfs;
      ops = kept.ops;
      steps = ap (λ (m : ℕ). m + 1) kept.steps;
      journal = kept.journal;
      entries = kept.entries;
      sound = (goes_same book 1 kept.sound).sound;
      raws = kept.raws;
      came = came_new k.came (length k.sessions) (length sessions) k.steps (k.steps + 1) (count_more k.sessions raw_session) (omega arith) kept.came;
      server = record { held = λ f. file_still book more None None f (the_files.file_at s.tree f) g (still_same book 1 kept.sound) (kept.server.held f); fresh = fresh_still book more None None s.tree g (still_same book 1 kept.sound) kept.server.fresh; bounded = kept.server.bounded; zero = kept.server.zero; rooted = kept.server.rooted; wants = kept.server.wants; changes = kept.server.changes; bytes = kept.server.bytes; lengths = kept.server.lengths; targets = λ i c e. there_later book more None None c.file g (kept.server.targets i c e); xids = kept.server.xids; leases = kept.server.leases; serves = kept.server.serves };
      made = (let a = count_more k.sessions raw_session in omega (arith, a, made), count_more qs no_queue ∙ ap suc kept.made.1 ∙ sym (count_more k.sessions raw_session));
      sessions = λ m z p f h owned. elim (of_new k.sessions raw_session m z f) [
        | inl new ↦ absurd (false_and_true (is_raw z) owned (ap is_raw new.1))
        | inr old ↦ elim (of_new qs no_queue m p h) [
          | inl also ↦ let w = numbered_within k.sessions m z old in absurd (omega (arith, w, also.0, kept.made.1))
          | inr there ↦
              let was = kept.sessions m z p old there owned in
              session_later book more None None k.seats k.seats s r m z p was.seat was.seat g was.owner was.owner (λ e. refl) (λ i u v. nothing_there i v) (raw_view book k qs n m z kept late old) was
        ]
      ];
      strangers = λ m z p f h raw. elim (of_new k.sessions raw_session m z f) [
        | inl new ↦ elim (of_new qs no_queue m p h) [
          | inl also ↦ raw_new m z p (new.0 ∙ sym late) new.1 also.1 none
          | inr old ↦ let w = numbered_within qs m p old in absurd (omega (arith, w, new.0, kept.made.1))
        ]
        | inr old ↦ elim (of_new qs no_queue m p h) [
          | inl also ↦ let w = numbered_within k.sessions m z old in absurd (omega (arith, w, also.0, kept.made.1))
          | inr there ↦ raw_later s r m z p (raw_view book k qs n m z kept late old) (kept.strangers m z p old there raw)
        ]
      ];
      seats = λ i e f. seat_later book more None None k.sessions sessions i e g (λ m z h. (z, still_there k.sessions raw_session m z h, refl, λ mine. refl)) (λ p o h. nothing_there p h) (kept.seats i e f);
      running = kept.running;
      closings = λ a b p u v f h e q. elim (of_new k.sessions raw_session a u f) [
        | inl new ↦ nothing_there p (ap (λ (z : Session). z.closing) (sym new.1) ∙ e)
        | inr one ↦ elim (of_new k.sessions raw_session b v h) [
          | inl new ↦ nothing_there p (ap (λ (z : Session). z.closing) (sym new.1) ∙ q)
          | inr two ↦ kept.closings a b p u v one two e q
        ]
      ];
      home = λ i d f. let z = kept.home i d f in (z.0, still_there k.sessions raw_session d.session z.0 z.1, z.2);
      shelf = kept.shelf;
      unborn = λ o m i e past lt g at. kept.unborn o m i e (let a = count_more k.sessions raw_session in omega (arith, past, a)) lt g at;
    }
  where
    raw_new : (m : ℕ) (z : Session) (p : Queue) → m ≡ n → z ≡ raw_session → p ≡ no_queue → own n k.server.waiting ≡ [] → IsRawSession (with_session k.server n) m z p
    raw_new m z p e f h none =
        let made = kept.made.0 in
        subst (λ (i : ℕ). IsRawSession (with_session k.server n) i z p) (sym e)
        (subst (λ (x : Session). IsRawSession (with_session k.server n) n x p) (sym f)
        (subst (λ (q : Queue). IsRawSession (with_session k.server n) n raw_session q) (sym h) (record {
          shut = refl;
          closing = refl;
          ups = refl;
          downs = refl;
          stands_is = stands_new n k.server.sessions;
          temps = λ i m e lt g at. absurd (kept.unborn n m i e (omega (arith, number, made)) lt g at);
          single = let l = ap length none in omega (arith, l);
        })))

pub kept_raw_joins : KeptRawJoins
kept_raw_joins book k qs kept noted made few =
    let n : ℕ = k.server.sessions_made + 1 in
    subst (λ (r : server.State × ServerStep). Leads book qs (raw_joins_as k r.0 r.1.told)) (sym (connects k.server made few)) (record {
      sends = record { replies = []; replies_fit = tt; asks = []; up_is = refl; strays = []; strays_cut = tt; recalls = []; recalls_fit = tt; tolds = []; down_is = refl };
      more = onward book 1 book.ops;
      moments = refl;
      opening = refl;
      kept = raw_joined book k qs n kept refl;
    })

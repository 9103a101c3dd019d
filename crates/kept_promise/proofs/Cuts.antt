-- A client sees its connection lost: its operation ends by that, and what is on its way down goes.
use Rattle.std.proofs.Common.{inl, inr, ◌≡◌, ℕ, ◌+◌, ◌<◌, List, [], Option, Some, None, Bool, true, false, refl, sym, ap, ◌∙◌, subst, arith, append-nil}
use Rattle.server_core.specs.State as server
use Rattle.chunk_calls.specs.Files as the_files
use Rattle.client_state.specs.State as client
use Rattle.client_state.specs.declared.step.Outcome.TheVariants as outcome
use Rattle.register_model.specs.declared.op.Outcome.TheVariants as told
use Rattle.register_model.specs.declared.op.Word.TheVariants as words
use Rattle.trace_ends.specs.Core.{idles, loss_down}
use Rattle.server_core.specs.declared.change.Wanted.TheVariants as wanted
use Rattle.kept_promise.proofs.Common.{slice_get, slice_set, cut, ended_by, nothing_done, ClientStep, Ended, Task, Op, Word, TakenCall, Core, Seat, Session, Event.Cuts, CoreStep, taken_of, session_of, ops_after, ops_with, cut_session, cuts_if, cuts, numbered, with_numbered, has_point, point_if, op_after, place_after, unless, hashed_of, Book, Ask, Queue, Call, Call.Commit, Call.Walks, Wanted}
use Rattle.kept_promise.proofs.Lists.{some_is, nothing_there, same_or_not, of_replaced, all_map}
use Rattle.kept_promise.proofs.Messages.{Job, job, job_of, IsCommit, CommitOf, IsPending, WaitsFor}
use Rattle.kept_promise.proofs.Rights.{IsRight, is_remote, Caused}
use Rattle.kept_promise.proofs.History.{Goes, Still, Becomes, onward, grows_same, goes_same, still_same, goes_becomes, still_becomes}
use Rattle.kept_promise.proofs.Later.{speak_later, serves_later, commit_later, waits_later, pieces_later, parts_later, cached_later, same_view, Spares}
use Rattle.kept_promise.proofs.Turns.{Around, around_with, also_numbered, turned_core, kept_turn, has_owner}
use Rattle.kept_promise.proofs.Rests.{kept_rest}
use Rattle.kept_promise.proofs.Facts.{IsSeat, IsMatched, IsKept}
use Rattle.kept_promise.proofs.Leading.{IsNoted, Leads, ups_put_in, ups_put, downs_lost, KeptCuts}
use Rattle.kept_promise.proofs.Takes.{file_still, fresh_still}
use Rattle.kept_promise.proofs.Hangs.{leads_quiet, core_is}
use Rattle.kept_promise.proofs.Growth.{there_later}

-- ---- a change on its way is that of an operation which nobody waits for any more

cut_pending : (book : Book) (closing : Option ℕ) (b : Bool) (j r : Option Job) (x f : ℕ) (v : List ℕ) → IsPending book closing b j x f v → IsPending book closing true r x f v
cut_pending book closing b j r x f v p = record { place = p.place; known = p.known; op = p.op; there = p.there; unmade = p.unmade; word_is = p.word_is; file_is = p.file_is; size_is = p.size_is; value_is = p.value_is; waited = λ e. absurd cc }

cut_waits : (book : Book) (closing : Option ℕ) (b : Bool) (j r : Option Job) (s x f : ℕ) (what : Wanted) → WaitsFor book s closing b j x f what → WaitsFor book s closing true r x f what
cut_waits book closing b j r s x f (wanted.Content content) p = cut_pending book closing b j r x f content p
cut_waits book closing b j r s x f (wanted.Asked a) p = record { place = p.place; known = p.known; op = p.op; there = p.there; unmade = p.unmade; word_is = p.word_is; file_is = p.file_is; waited = λ e. absurd cc; taken = λ e. absurd cc }

cut_commit : (book : Book) (closing : Option ℕ) (b : Bool) (j r : Option Job) (contents : ℕ → List ℕ) (x : ℕ) (c : Call) → CommitOf book closing b j contents x c → CommitOf book closing true r contents x c
cut_commit book closing b j r contents x (Commit temp file size) h = (cut_pending book closing b j r x file (contents temp) h.0, h.1)
cut_commit book closing b j r contents x (Walks w) h = λ making. let p = h making in record { place = p.place; known = p.known; op = p.op; there = p.there; unmade = p.unmade; word_is = p.word_is; file_is = p.file_is; waited = λ e. absurd cc }
cut_commit book closing b j r contents x _ h = tt

-- ---- what is the same for a client with an operation under way, and for one without

abbrev cut_seat : Seat → Seat
cut_seat seat = record { client = (cut seat.client).0; session = seat.session; place = None }

abbrev left_queue : Queue → Queue
left_queue q = record { ups = q.ups; downs = [] }

cut_kept : (book more : Book) (k : Core) (qs : List Queue) (c n : ℕ) (x : Session) (q : Queue) (seat : Seat) (ended : Option ℕ) (after : List Queue) → IsKept book k qs → numbered k.seats c ≡ Some seat → numbered k.sessions n ≡ Some x → numbered qs n ≡ Some q → x.owner ≡ c → seat.session ≡ Some n
    → Goes book more None ended → Still book more → more.opening ≡ book.opening → more.journal ≡ book.journal
    → ((p : ℕ) (o : Op) → ended ≡ Some p → slice_get book.ops p ≡ Some o → o.client ≡ c)
    → ((p : ℕ) (o : Op) → slice_get more.ops p ≡ Some o → o.outcome ≡ told.Running → (e : Seat) × (j : Job) × (numbered (with_numbered k.seats c (cut_seat seat)) o.client ≡ Some e) × (job e ≡ Some j) × (j.place ≡ p))
    → Around qs after n (left_queue q)
    → IsKept more (turned_core k more k.server (with_numbered k.seats c (cut_seat seat)) (with_numbered k.sessions n (record x { cut = true }))) after
cut_kept book more k qs c n x q seat ended after kept here at is owner newest goes still opening journal ends running queues =
    let h = kept.sessions n x q at is (has_owner k.seats x seat (ap (numbered k.seats) owner ∙ here)) in
    let g = goes.grows in
    let y : Session = record x { cut = true } in
    let d = cut_seat seat in
    let seats = with_numbered k.seats c d in
    let sessions = with_numbered k.sessions n y in
    let around = around_with k.sessions n x y at in
    let seated = around_with k.seats c seat d here in
    let was = kept.seats c seat here in
    let spares : Spares x.closing None = λ p u v. nothing_there p v in
    kept_turn book more k qs k.server seats sessions after n x y (left_queue q) seat d None ended (record {
      at = at;
      was = ap (numbered k.seats) owner ∙ here;
      session_around = around;
      queue_around = queues;
      seat_around = subst (λ (z : ℕ). Around k.seats seats z d) (sym owner) seated;
      owner = refl;
      goes = goes;
      server = record { held = λ f. file_still book more None ended f (the_files.file_at k.server.tree f) g still (kept.server.held f); fresh = fresh_still book more None ended k.server.tree g still kept.server.fresh; bounded = kept.server.bounded; zero = kept.server.zero; rooted = kept.server.rooted; wants = kept.server.wants; changes = kept.server.changes; bytes = kept.server.bytes; lengths = kept.server.lengths; targets = λ i z e. there_later book more None ended z.file g (kept.server.targets i z e); xids = kept.server.xids; leases = kept.server.leases; serves = serves_later book more None ended g kept.server.serves };
      sessions_made = refl;
      view = λ m apart. same_view m k.server;
      elsewhere = inr newest;
      closing = λ p f. inl f;
      made_here = λ p f. nothing_there p f;
      ended_here = λ p o f g. ends p o f g ∙ sym owner;
      session = record {
        seat = d;
        owner = ap (numbered seats) owner ∙ seated.there;
        here = λ e. absurd cc;
        shut = λ e. refl;
        lost = h.lost;
        stands_is = h.stands_is;
        ups_fit = h.ups_fit;
        ups_speak = speak_later book more None ended q.ups g h.ups_speak;
        downs_fit = tt;
        talk = λ e. absurd cc;
        contents = h.contents;
        lengths = h.lengths;
        commits = all_map (IsCommit book x.closing x.cut (job h.seat) h.contents) (IsCommit more x.closing true (job d) h.contents) (λ a m. commit_later book more None ended x.closing true (job d) (job d) h.contents a g spares (λ e. refl) (cut_commit book x.closing x.cut (job h.seat) (job d) h.contents a.xid a.call m)) q.ups h.commits;
        pieces = pieces_later (hashed_of book.moments) (hashed_of more.moments) h.contents q.ups g.hashed h.pieces;
        temps = λ i m e lt f key. let o = h.temps i m e lt f key in (parts_later (hashed_of book.moments) (hashed_of more.moments) (h.contents m) e.1.pieces g.hashed o.0, o.1);
        temps_below = λ e. absurd cc;
        closes = λ e. absurd cc;
        pending = λ i z f. waits_later book more None ended x.closing true (job d) (job d) z.session z.xid z.file z.what g spares (λ e. refl) (cut_waits book x.closing x.cut (job h.seat) (job d) z.session z.xid z.file z.what (h.pending i z f));
        single = h.single;
        old = λ p f. let o = h.old p f in let u = g.each p o.0 o.1 in (u.0, u.1, u.2.client ∙ o.2);
        orderly = λ e. absurd cc;
      };
      seat = subst (λ (z : ℕ). IsSeat more sessions z d) (sym owner) (record {
        session = λ m e. let same : n ≡ m = some_is n m (sym newest ∙ e) in (y, ap (numbered sessions) (sym same) ∙ around.there, owner);
        linked = λ e. absurd cc;
        unlinked = λ e. (refl, refl);
        speaks = was.speaks ∙ sym g.lbfs;
        matched = inl (refl, refl);
        task = λ j e. nothing_there j e;
        trying = λ j i z e f. nothing_there j e;
        xids = λ j e. nothing_there j e;
        next = was.next;
        opened = λ f l e. let o = was.opened f l e in (there_later book more None ended f g o.0, o.1);
        kept = cached_later book more None ended seat.client.cache g was.kept;
      });
      running = running;
      shelf = kept.shelf;
      home = λ i z f. let w = kept.home i z f in homes around w.0 z.session w.1 w.2;
    }) (journal ∙ kept.journal) kept
  where
    homes : Around k.sessions (with_numbered k.sessions n (record x { cut = true })) n (record x { cut = true }) → (w : Session) (m : ℕ) → numbered k.sessions m ≡ Some w → w.hung ≡ false → (v : Session) × (numbered (with_numbered k.sessions n (record x { cut = true })) m ≡ Some v) × (v.hung ≡ false)
    homes around w m f hung = elim (same_or_not m n) [
      | inr apart ↦ (w, around.others m apart ∙ f, hung)
      | inl e ↦
          let same : w ≡ x = some_is w x (sym f ∙ ap (numbered k.sessions) e ∙ at) in
          (record x { cut = true }, ap (numbered (with_numbered k.sessions n (record x { cut = true }))) e ∙ around.there, ap (λ (v : Session). v.hung) (sym same) ∙ hung)
    ]

-- ---- the operation ends

lost_pointless : (w : Word) → has_point w outcome.Lost ≡ false
lost_pointless words.Open = refl
lost_pointless _ = refl

abbrev lost : Ended
lost = record { outcome = outcome.Lost; rests_on = 0 }

abbrev lost_step : ClientStep
lost_step = record nothing_done { ended = Some lost }

abbrev lost_op : Op → client.State → List TakenCall → ℕ → Op
lost_op o s taken step = op_after o s taken step lost_step

lost_becomes : (book : Book) (p : ℕ) (o : Op) (s : client.State) (taken : List TakenCall) (step : ℕ) → book.steps < step → Becomes book None (Some p) p o (lost_op o s taken step)
lost_becomes book p o s taken step late =
    record {
      follows = record {
        client = refl;
        word = refl;
        file = λ n w. refl;
        close_file = λ w. refl;
        own_file = λ c n. refl;
        begin = refl;
        point = λ w q e. (lost_point ∙ e, refl);
        value = λ w. refl;
        unmade = λ f u. (u.0, lost_point ∙ u.1, refl);
        end = λ e q. inr (subst (λ (z : ℕ). book.steps < z) (some_is step e q) late);
        running = λ f e. absurd (f refl);
      };
      change_point = λ w. lost_point;
      change_file = λ w. refl;
      point = λ q e. inl (sym lost_point ∙ e);
    }
  where
    lost_point : (lost_op o s taken step).point ≡ o.point
    lost_point = ap (λ (b : Bool). point_if b taken 0 step o.point) (lost_pointless o.word)

lost_right : (book : Book) (k : Core) (qs : List Queue) (c p : ℕ) (o : Op) (s : client.State) (taken : List TakenCall) → IsKept book k qs → IsNoted book k (Cuts c) → slice_get book.ops p ≡ Some o → o.client ≡ c → is_remote o.word ≡ true
    → IsRight (onward book 1 (slice_set book.ops p (lost_op o s taken (k.steps + 1)))) (lost_op o s taken (k.steps + 1))
lost_right book k qs c p o s taken kept noted there mine remote =
    let r = kept.sound.rights p o there in
    let steps = kept.steps in
    let point : (lost_op o s taken (k.steps + 1)).point ≡ o.point = ap (λ (b : Bool). point_if b taken 0 (k.steps + 1) o.point) (lost_pointless o.word) in
    record {
      cause = (remote, record { end = k.steps + 1; end_is = refl; moment = record { before = k; event = Cuts c }; there = noted.there; step_is = refl; event_is = ap Cuts (sym mine) });
      begun = let b = r.begun in omega (arith, b);
      pointed = λ q e. let w = r.pointed q (sym point ∙ e) in (w.0, omega (arith, w.1), w.2);
      past = λ e q. let same : k.steps + 1 ≡ e = some_is (k.steps + 1) e q in let b = r.begun in (omega (arith, b, same, steps), omega (arith, same, steps));
      ends = refl;
      within = λ l. absurd cc;
      failed = λ w a b. absurd cc;
    }

-- ---- the event

pub idle_kept : (book : Book) (k : Core) (qs : List Queue) → IsKept book k qs → IsKept (onward book 1 book.ops) (record k { steps = k.steps + 1 }) qs
idle_kept book k qs kept =
    subst (λ (z : Core). IsKept (onward book 1 book.ops) z qs) (core_is book k qs k.server k.seats k.sessions kept)
    (kept_rest book (onward book 1 book.ops) k qs k.server (goes_same book 1 kept.sound)
    (record { held = λ f. file_still book (onward book 1 book.ops) None None f (the_files.file_at k.server.tree f) (grows_same book 1) (still_same book 1 kept.sound) (kept.server.held f); fresh = fresh_still book (onward book 1 book.ops) None None k.server.tree (grows_same book 1) (still_same book 1 kept.sound) kept.server.fresh; bounded = kept.server.bounded; zero = kept.server.zero; rooted = kept.server.rooted; wants = kept.server.wants; changes = kept.server.changes; bytes = kept.server.bytes; lengths = kept.server.lengths; targets = λ i c e. there_later book (onward book 1 book.ops) None None c.file (grows_same book 1) (kept.server.targets i c e); xids = kept.server.xids; leases = kept.server.leases; serves = kept.server.serves })
    refl (λ m. same_view m k.server) kept.home kept.running kept.journal kept.shelf kept)

pub leads_idle : (book : Book) (k : Core) (qs : List Queue) → IsKept book k qs → Leads book qs (idles k)
leads_idle book k qs kept = record { sends = record { replies = []; replies_fit = tt; asks = []; up_is = refl; strays = []; strays_cut = tt; recalls = []; recalls_fit = tt; tolds = []; down_is = refl }; more = onward book 1 book.ops; moments = refl; opening = refl; kept = idle_kept book k qs kept }

-- what a cut leaves, by what its client had under way
abbrev cut_after : Core → (c : ℕ) → Seat → (place : Option ℕ) → ClientStep → (session : Option ℕ) → CoreStep
cut_after k c seat place did session = record {
  core = record k {
    server = k.server;
    seats = with_numbered k.seats c (record { client = (cut seat.client).0; session = seat.session; place = place_after place did.ended });
    sessions = cut_session k.sessions session (session_of k.sessions session);
    steps = k.steps + 1;
    ops = ops_with k.ops place (cut seat.client).0 (taken_of (session_of k.sessions session)) (k.steps + 1) did;
    entries = k.entries;
  };
  loss = loss_down session;
  session = session;
  up = did.send;
  down = [];
}

-- the queues after it, where nothing is sent
queue_cut : (sessions : List Session) (qs : List Queue) (n : ℕ) (x : Session) (q : Queue) → numbered qs n ≡ Some q → numbered sessions n ≡ Some x → Around qs (ups_put sessions (downs_lost qs n (numbered qs n)) (Some n) []) n (left_queue q)
queue_cut sessions qs n x q is at =
    let one = around_with qs n q (left_queue q) is in
    let lost = with_numbered qs n (left_queue q) in
    let two = around_with lost n (left_queue q) (record { ups = unless x.hung q.ups []; downs = [] }) one.there in
    subst (λ (o : Option Queue). Around qs (ups_put sessions (downs_lost qs n o) (Some n) []) n (left_queue q)) (sym is)
    (subst (λ (o : Option Session). Around qs (ups_put_in lost n [] o (numbered lost n)) n (left_queue q)) (sym at)
    (subst (λ (o : Option Queue). Around qs (ups_put_in lost n [] (Some x) o) n (left_queue q)) (sym one.there)
    (record {
      there = two.there ∙ ap (λ (us : List Ask). Some (record { ups = us; downs = [] })) (no_more x.hung);
      others = λ m apart. two.others m apart ∙ one.others m apart;
      count = two.count ∙ one.count;
    })))
  where
    no_more : (b : Bool) → unless b q.ups [] ≡ q.ups
    no_more true = refl
    no_more false = append-nil q.ups

pub cut_core : (book more : Book) (k : Core) (r : server.State) (seats : List Seat) (sessions : List Session) (ops : List Op) → more.steps ≡ k.steps + 1 → more.ops ≡ ops → more.entries ≡ k.entries → turned_core k more r seats sessions ≡ record k { server = r; seats = seats; sessions = sessions; steps = k.steps + 1; ops = ops; entries = k.entries }
cut_core book more k r seats sessions ops a b c =
    ap (λ (s : ℕ). record k { server = r; seats = seats; sessions = sessions; steps = s; ops = more.ops; entries = more.entries }) a
    ∙ ap (λ (o : List Op). record k { server = r; seats = seats; sessions = sessions; steps = k.steps + 1; ops = o; entries = more.entries }) b
    ∙ ap (λ (e : List ℕ). record k { server = r; seats = seats; sessions = sessions; steps = k.steps + 1; ops = ops; entries = e }) c

-- with nothing under way
cut_free : (book : Book) (k : Core) (qs : List Queue) (c n : ℕ) (x : Session) (q : Queue) (seat : Seat) → IsKept book k qs → numbered k.seats c ≡ Some seat → numbered k.sessions n ≡ Some x → numbered qs n ≡ Some q → x.owner ≡ c → seat.session ≡ Some n → job seat ≡ None → Leads book qs (cut_after k c seat None nothing_done (Some n))
cut_free book k qs c n x q seat kept here at is owner newest free =
    let more = onward book 1 book.ops in
    let y : Session = record x { cut = true } in
    let sessions = with_numbered k.sessions n y in
    let around = around_with k.sessions n x y at in
    let seated = around_with k.seats c seat (cut_seat seat) here in
    let cuts_ : cut_session k.sessions (Some n) (session_of k.sessions (Some n)) ≡ sessions = ap (cut_session k.sessions (Some n)) at in
    let after = ups_put sessions (downs_lost qs n (numbered qs n)) (Some n) [] in
    let now = cut_kept book more k qs c n x q seat None after kept here at is owner newest (goes_same book 1 kept.sound) (still_same book 1 kept.sound) refl refl (λ p o f. nothing_there p f) (λ p o f run. runs seated p o f run) (queue_cut sessions qs n y q is around.there) in
    let core = cut_core book more k k.server (with_numbered k.seats c (cut_seat seat)) sessions k.ops (ap (λ s. s + 1) kept.steps) kept.ops kept.entries in
    record {
      sends = record { replies = []; replies_fit = tt; asks = []; up_is = refl; strays = []; strays_cut = tt; recalls = []; recalls_fit = tt; tolds = []; down_is = refl };
      more = more;
      moments = refl;
      opening = refl;
      kept = subst (λ (zs : List Session). IsKept more (record k { server = k.server; seats = with_numbered k.seats c (cut_seat seat); sessions = zs; steps = k.steps + 1; ops = k.ops; entries = k.entries }) (ups_put zs (downs_lost qs n (numbered qs n)) (Some n) [])) (sym cuts_) (subst (λ (z : Core). IsKept more z after) core now);
    }
  where
    runs : Around k.seats (with_numbered k.seats c (cut_seat seat)) c (cut_seat seat) → (p : ℕ) (o : Op) → slice_get book.ops p ≡ Some o → o.outcome ≡ told.Running → (e : Seat) × (j : Job) × (numbered (with_numbered k.seats c (cut_seat seat)) o.client ≡ Some e) × (job e ≡ Some j) × (j.place ≡ p)
    runs seated p o f run = let old = kept.running p o f run in elim (same_or_not o.client c) [
      | inr apart ↦ (old.0, old.1, seated.others o.client apart ∙ old.2, old.3, old.4)
      | inl mine ↦ let e : old.0 ≡ seat = some_is old.0 seat (sym old.2 ∙ ap (numbered k.seats) mine ∙ here) in nothing_there old.1 (sym free ∙ ap job (sym e) ∙ old.3)
    ]

-- with an operation under way, which ends by it
cut_busy : (book : Book) (k : Core) (qs : List Queue) (c n p : ℕ) (x : Session) (q : Queue) (seat : Seat) (j : Job) → IsKept book k qs → IsNoted book k (Cuts c) → numbered k.seats c ≡ Some seat → numbered k.sessions n ≡ Some x → numbered qs n ≡ Some q → x.owner ≡ c → seat.session ≡ Some n → job seat ≡ Some j → j.place ≡ p → Leads book qs (cut_after k c seat (Some p) lost_step (Some n))
cut_busy book k qs c n p x q seat j kept noted here at is owner newest busy place =
    let of = (kept.seats c seat here).task j busy in
    let o = of.op in
    let there : slice_get book.ops p ≡ Some o = ap (slice_get book.ops) (sym place) ∙ of.there in
    let taken = taken_of (session_of k.sessions (Some n)) in
    let s = (cut seat.client).0 in
    let r = lost_op o s taken (k.steps + 1) in
    let more = onward book 1 (slice_set book.ops p r) in
    let remote : is_remote o.word ≡ true = (subst (Caused book o) of.running (kept.sound.rights p o there).cause).0 in
    let becomes = lost_becomes book p o s taken (k.steps + 1) (let e = kept.steps in omega (arith, e)) in
    let goes = goes_becomes book 1 None (Some p) p o r there becomes (lost_right book k qs c p o s taken kept noted there of.client remote) kept.sound in
    let y : Session = record x { cut = true } in
    let sessions = with_numbered k.sessions n y in
    let around = around_with k.sessions n x y at in
    let seated = around_with k.seats c seat (cut_seat seat) here in
    let cuts_ : cut_session k.sessions (Some n) (session_of k.sessions (Some n)) ≡ sessions = ap (cut_session k.sessions (Some n)) at in
    let after = ups_put sessions (downs_lost qs n (numbered qs n)) (Some n) [] in
    let now = cut_kept book more k qs c n x q seat (Some p) after kept here at is owner newest goes (still_becomes book 1 None (Some p) p o r there becomes kept.sound) refl refl
    (λ i z f g. let same : p ≡ i = some_is p i f in ap (λ (w : Op). w.client) (some_is z o (sym g ∙ ap (slice_get book.ops) (sym same) ∙ there)) ∙ of.client)
    (λ i z f run. runs seated r refl i z f run) (queue_cut sessions qs n y q is around.there) in
    let ops_is : ops_with k.ops (Some p) s taken (k.steps + 1) lost_step ≡ slice_set book.ops p r = ap (λ (os : List Op). ops_with os (Some p) s taken (k.steps + 1) lost_step) (sym kept.ops) ∙ ap (λ (z : Option Op). ops_after book.ops p z s taken (k.steps + 1) lost_step) there in
    let core = cut_core book more k k.server (with_numbered k.seats c (cut_seat seat)) sessions (ops_with k.ops (Some p) s taken (k.steps + 1) lost_step) (ap (λ z. z + 1) kept.steps) (sym ops_is) kept.entries in
    record {
      sends = record { replies = []; replies_fit = tt; asks = []; up_is = refl; strays = []; strays_cut = tt; recalls = []; recalls_fit = tt; tolds = []; down_is = refl };
      more = more;
      moments = refl;
      opening = refl;
      kept = subst (λ (zs : List Session). IsKept more (record k { server = k.server; seats = with_numbered k.seats c (cut_seat seat); sessions = zs; steps = k.steps + 1; ops = ops_with k.ops (Some p) s taken (k.steps + 1) lost_step; entries = k.entries }) (ups_put zs (downs_lost qs n (numbered qs n)) (Some n) [])) (sym cuts_) (subst (λ (z : Core). IsKept more z after) core now);
    }
  where
    not_lost : told.Lost ≡ told.Running → ⊥
    not_lost e = absurd cc

    runs : Around k.seats (with_numbered k.seats c (cut_seat seat)) c (cut_seat seat) → (r : Op) → r.outcome ≡ told.Lost → (i : ℕ) (z : Op) → slice_get (slice_set book.ops p r) i ≡ Some z → z.outcome ≡ told.Running → (e : Seat) × (g : Job) × (numbered (with_numbered k.seats c (cut_seat seat)) z.client ≡ Some e) × (job e ≡ Some g) × (g.place ≡ i)
    runs seated r lost i z f run = elim (of_replaced book.ops p r i z f) [
      | inl new ↦ absurd (not_lost (sym lost ∙ ap (λ (w : Op). w.outcome) (sym new.1) ∙ run))
      | inr was ↦ let old = kept.running i z was.1 run in elim (same_or_not z.client c) [
        | inr apart ↦ (old.0, old.1, seated.others z.client apart ∙ old.2, old.3, old.4)
        | inl mine ↦
            let e : old.0 ≡ seat = some_is old.0 seat (sym old.2 ∙ ap (numbered k.seats) mine ∙ here) in
            let same : old.1 ≡ j = some_is old.1 j (sym old.3 ∙ ap job e ∙ busy) in
            absurd (was.0 (sym old.4 ∙ ap (λ (w : Job). w.place) same ∙ place))
      ]
    ]

cut_matched : (book : Book) (k : Core) (qs : List Queue) (c n : ℕ) (x : Session) (q : Queue) (seat : Seat) → IsKept book k qs → IsNoted book k (Cuts c) → numbered k.seats c ≡ Some seat → numbered k.sessions n ≡ Some x → numbered qs n ≡ Some q → x.owner ≡ c → seat.session ≡ Some n
    → (place : Option ℕ) (task : Option Task) → seat.place ≡ place → seat.client.task ≡ task → IsMatched seat → Leads book qs (cut_after k c seat place (ended_by task lost) (Some n))
cut_matched book k qs c n x q seat kept noted here at is owner newest None None e f m = cut_free book k qs c n x q seat kept here at is owner newest (ap (λ (p : Option ℕ). job_of p seat.client.task) e)
cut_matched book k qs c n x q seat kept noted here at is owner newest (Some p) (Some t) e f m = cut_busy book k qs c n p x q seat (record { place = p; file = t.file; stage = t.stage }) kept noted here at is owner newest (ap (λ (z : Option ℕ). job_of z seat.client.task) e ∙ ap (job_of (Some p)) f) refl
cut_matched book k qs c n x q seat kept noted here at is owner newest None (Some t) e f (inl m) = nothing_there t (sym m.1 ∙ f)
cut_matched book k qs c n x q seat kept noted here at is owner newest None (Some t) e f (inr m) = nothing_there m.0 (sym (ap (λ (p : Option ℕ). job_of p seat.client.task) e) ∙ m.1)
cut_matched book k qs c n x q seat kept noted here at is owner newest (Some p) None e f (inl m) = nothing_there p (sym m.0 ∙ e)
cut_matched book k qs c n x q seat kept noted here at is owner newest (Some p) None e f (inr m) = nothing_there m.0 (sym (ap (λ (z : Option ℕ). job_of z seat.client.task) e ∙ ap (job_of (Some p)) f) ∙ m.1)

cut_linked : (book : Book) (k : Core) (qs : List Queue) (c : ℕ) (seat : Seat) → IsKept book k qs → IsNoted book k (Cuts c) → numbered k.seats c ≡ Some seat → (b : Bool) → seat.client.linked ≡ b → Leads book qs (cuts_if k c seat b)
cut_linked book k qs c seat kept noted here false e = leads_idle book k qs kept
cut_linked book k qs c seat kept noted here true e =
    let s = kept.seats c seat here in
    let l = s.linked e in
    let own = s.session l.0 l.2 in
    let same : own.0 ≡ l.1 = some_is own.0 l.1 (sym own.1 ∙ l.3) in
    let owner : l.1.owner ≡ c = ap (λ (z : Session). z.owner) (sym same) ∙ own.2 in
    let q = also_numbered k.sessions qs l.0 l.1 kept.made.1 l.3 in
    subst (λ (o : Option ℕ). Leads book qs (cut_after k c seat seat.place (ended_by seat.client.task lost) o)) (sym l.2)
    (cut_matched book k qs c l.0 l.1 q.0 seat kept noted here l.3 q.1 owner l.2 seat.place seat.client.task refl refl s.matched)

pub kept_cuts : KeptCuts
kept_cuts = λ book k qs c kept noted. by book k qs c kept noted (numbered k.seats c) refl
  where
    by : (book : Book) (k : Core) (qs : List Queue) (c : ℕ) → IsKept book k qs → IsNoted book k (Cuts c) → (o : Option Seat) → numbered k.seats c ≡ o → Leads book qs (cuts k c o)
    by book k qs c kept noted None at = leads_quiet book k qs kept
    by book k qs c kept noted (Some seat) at = cut_linked book k qs c seat kept noted at seat.client.linked refl

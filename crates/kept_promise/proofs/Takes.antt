-- The server takes a call: the frame of all that it answers at once.
use Rattle.std.proofs.Common.{inl, inr, ◌≡◌, ℕ, ◌+◌, ◌<◌, ◌≤◌, List, [], ◌∷◌, ◌++◌, Option, Some, None, Bool, true, false, refl, sym, ap, ◌∙◌, subst, arith, map}
use Rattle.tree_reading.specs.Tree.{Tree}
use Rattle.server_core.specs.State as server
use Rattle.chunk_calls.specs.Files as the_files
use Rattle.client_state.specs.State as client
use Rattle.register_model.specs.declared.op.Outcome.TheVariants as told
use Rattle.kept_promise.proofs.Common.{slice_get, Indexed, MessageFits, Temp, key_of, FileChange, File, TakenCall, Core, Session, numbered, unless, hashed_of, Book, value_at, Reply, Ask, Told, Queue, told_message, call_program, reply_program, version_at, Entry, Op, Seat, Tree, Leasing, is_raw}
use Rattle.kept_promise.proofs.Statements.{ToldFits, CallFits}
use Rattle.kept_promise.proofs.Lists.{some_is, nothing_there, same_or_not, false_and_true, all_append, all_map, all_unless}
use Rattle.kept_promise.proofs.Keys.{times, times_append, own, on_way, key, change_key, ask_key, told_key}
use Rattle.kept_promise.proofs.Messages.{job, AllAsks, Rising, IsAsked, AnswerOf, IsAnswer, IsCommit, IsPiece, TempUnder, AreParts, Job, AllTolds, WaitsFor, CloseOf}
use Rattle.kept_promise.proofs.Growth.{Grows, or_later, value_alike, version_alike, there_later}
use Rattle.kept_promise.proofs.History.{Still, onward, grows_same, goes_same, still_same, Goes}
use Rattle.kept_promise.proofs.Later.{speak_later, fit_later, serves_later, answer_later, has_fetch_later, commit_later, close_later, waits_later, seat_later, Stays, Spares, pieces_later, parts_later}
use Rattle.kept_promise.proofs.Taken.{zero_last, finds_more, under_more, answer_found, has_fetch_found, times_map_append}
use Rattle.kept_promise.proofs.Turns.{Around, around_same, turned_core, kept_turn}
use Rattle.kept_promise.proofs.Shelf.{IsShelf}
use Rattle.kept_promise.proofs.Orderly.{locals_of, Wanted, HoldsTemp, Orderly}
use Rattle.kept_promise.proofs.Ordered.{SameFound, orderly_answered}
use Rattle.kept_promise.proofs.Facts.{IsValue, FileIs, IsLeasing, IsServer, IsTalk, IsSession, IsKept, commits_in}
use Rattle.kept_promise.proofs.Unused.{IsUnused}

-- ---- the tree, where no file changes

-- the value of a file stays
pub value_still : (book more : Book) (made ended : Option ℕ) (f : ℕ) (x : List ℕ) → Grows book more made ended → value_at more f (more.steps + 1) ≡ value_at book f (book.steps + 1) → IsValue book f x → IsValue more f x
value_still book more made ended f x g same h = record { value = h.value; is = same ∙ h.is; size = h.size; same = or_later book more made ended _ _ g (λ e. e) h.same }

pub file_still : (book more : Book) (made ended : Option ℕ) (f : ℕ) (g : Option File) → Grows book more made ended → Still book more → FileIs book f g → FileIs more f g
file_still book more made ended f None grows still h = value_alike book more f (more.steps + 1) (book.steps + 1) grows.opening (still f) ∙ h
file_still book more made ended f (Some g) grows still h = (h.0, h.1, h.2, value_still book more made ended f g.content grows (value_alike book more f (more.steps + 1) (book.steps + 1) grows.opening (still f)) h.3, version_alike book more f (more.steps + 1) (book.steps + 1) grows.opening (still f) ∙ h.4, h.5)

pub fresh_still : (book more : Book) (made ended : Option ℕ) (t : Tree) → Grows book more made ended → Still book more → ((f : ℕ) → IsUnused t f → version_at book f (book.steps + 1) ≡ 0) → (f : ℕ) → IsUnused t f → version_at more f (more.steps + 1) ≡ 0
fresh_still book more made ended t grows still h f le = version_alike book more f (more.steps + 1) (book.steps + 1) grows.opening (still f) ∙ h f le

pub server_still : (book more : Book) (made ended : Option ℕ) (s : server.State) (leasing : Leasing) (temps : List (ℕ × Temp)) (index : Indexed) → IsLeasing leasing → Grows book more made ended → Still book more → IsServer book s → IsServer more (record s { leasing = leasing; temps = temps; index = index })
server_still book more made ended s leasing temps index leases grows still h = record { held = λ f. file_still book more made ended f (the_files.file_at s.tree f) grows still (h.held f); fresh = fresh_still book more made ended s.tree grows still h.fresh; bounded = h.bounded; zero = h.zero; rooted = h.rooted; wants = h.wants; changes = h.changes; bytes = h.bytes; lengths = h.lengths; targets = λ i c e. there_later book more made ended c.file grows (h.targets i c e); xids = h.xids; leases = leases; serves = serves_later book more made ended grows h.serves }

-- ---- a session that took a call

abbrev pub took : Session → (xid step : ℕ) → Session
took x xid step = record x { taken = x.taken ++ record { xid = xid; step = step } ∷ [] }

pub commits_tail : (a : Ask) (us : List Ask) → commits_in us ≤ commits_in (a ∷ us)
commits_tail a us = omega arith

abbrev pub put_down : Queue → List Ask → (cut : Bool) → Told → Queue
put_down q us cut t = record { ups = us; downs = unless cut q.downs (t ∷ []) }

-- a message that is answered is where its call was
pub way_moved : (n y : ℕ) (w : List FileChange) (q : Queue) (a : Ask) (us : List Ask) (t : Told) → q.ups ≡ a ∷ us → told_key t ≡ ask_key a → times y (on_way n w (put_down q us false t)) ≡ times y (on_way n w q)
way_moved n y w q a us t e same =
    let middle = map change_key (own n w) in
    let one = times_append y (map ask_key us) (middle ++ map told_key (q.downs ++ t ∷ [])) in
    let two = times_append y middle (map told_key (q.downs ++ t ∷ [])) in
    let three = times_map_append told_key y q.downs (t ∷ []) in
    let was = ap (λ (l : List Ask). times y (map ask_key l ++ (middle ++ map told_key q.downs))) e in
    let four = times_append y (map ask_key (a ∷ us)) (middle ++ map told_key q.downs) in
    let five = times_append y middle (map told_key q.downs) in
    let six = times_append y (ask_key a ∷ []) (map ask_key us) in
    let seven : times y (told_key t ∷ []) ≡ times y (ask_key a ∷ []) = ap (λ k. times y (k ∷ [])) same in
    omega (arith, one, two, three, was, four, five, six, seven)

-- the server, with what it makes of a call that it answers at once
abbrev left_server : server.State → Leasing → Tree → List Entry → List (ℕ × Temp) → Indexed → server.State
left_server s leasing tree journal temps index = record s { leasing = leasing; tree = tree; journal = journal; temps = temps; index = index }

-- what a call that is taken is to show, of the book after it, where the server is this one then
pub record Shows (book more : Book) (k : Core) (n : ℕ) (x : Session) (q : Queue) (a : Ask) (us : List Ask) (s : server.State) (r : Reply) (made : Option ℕ) (h : IsSession book k.seats k.server n x q) : Type 0 where
  pub goes : Goes book more made None
  pub server : IsServer more s
  pub journal_is : more.journal ≡ s.journal
  pub made_here : (p : ℕ) → made ≡ Some p → x.closing ≡ Some p
  pub program : reply_program r ≡ call_program a.call
  pub fits : ToldFits book.lbfs (record { xid = a.xid; reply = r })
  pub answer : x.cut ≡ false → AnswerOf more (x.taken ++ record { xid = a.xid; step = book.steps + 1 } ∷ []) x.closing (job h.seat) a.xid r
  -- the facts of the session that speak of what it remembers
  pub answers : x.cut ≡ false → AllTolds (IsAnswer more (x.taken ++ record { xid = a.xid; step = book.steps + 1 } ∷ []) x.closing (job h.seat)) q.downs
  pub commits : AllAsks (IsCommit more x.closing x.cut (job h.seat) h.contents) us
  pub closes : x.cut ≡ false → (j : Job) → job h.seat ≡ Some j → CloseOf more x.closing h.contents h.seat.client.next_temp j (client.local_bytes h.seat.client.opened j.file) j.stage
  pub pending : (i : ℕ) (c : FileChange) → slice_get (own n k.server.waiting) i ≡ Some c → WaitsFor more c.session x.closing x.cut (job h.seat) c.xid c.file c.what
  pub wanted : x.cut ≡ false → Wanted more (job h.seat) a.xid r
  pub held : x.cut ≡ false → HoldsTemp s.temps n us (unless x.cut q.downs (record { xid = a.xid; reply = r } ∷ [])) (locals_of h.seat.client) (job h.seat)
  pub running : (p : ℕ) (o : Op) → slice_get more.ops p ≡ Some o → o.outcome ≡ told.Running → (e : Seat) × (j : Job) × (numbered k.seats o.client ≡ Some e) × (job e ≡ Some j) × (j.place ≡ p)

-- and of the temporary files that it leaves
pub record Leaves (book : Book) (k : Core) (n : ℕ) (x : Session) (q : Queue) (temps : List (ℕ × Temp)) (h : IsSession book k.seats k.server n x q) : Type 0 where
  pub pieces : (i m : ℕ) (e : ℕ × Temp) → m < 4294967296 → slice_get temps i ≡ Some e → e.0 ≡ key_of n m → AreParts (hashed_of book.moments) (h.contents m) e.1.pieces × (key_of e.1.session e.1.fd ≡ e.0)
  pub below : x.cut ≡ false → (i m : ℕ) (e : ℕ × Temp) → m < 4294967296 → slice_get temps i ≡ Some e → e.0 ≡ key_of n m → m < h.seat.client.next_temp
  pub shelf : IsShelf temps
  pub found : (o : ℕ) → (o ≡ n → ⊥) → SameFound k.server.temps temps o
  pub others : (o i m : ℕ) (e : ℕ × Temp) → (o ≡ n → ⊥) → m < 4294967296 → slice_get temps i ≡ Some e → e.0 ≡ key_of o m → (j : ℕ) × (slice_get k.server.temps j ≡ Some e)

pub kept_taken : (book more : Book) (k : Core) (qs : List Queue) (n : ℕ) (leasing : Leasing) (tree : Tree) (journal : List Entry) (temps : List (ℕ × Temp)) (index : Indexed) (x : Session) (q : Queue) (a : Ask) (us : List Ask) (r : Reply) (made : Option ℕ) (sessions : List Session) (after : List Queue)
    → (kept : IsKept book k qs) → (at : numbered k.sessions n ≡ Some x) → (is : numbered qs n ≡ Some q) → (owned : is_raw x ≡ false) → q.ups ≡ a ∷ us → x.hung ≡ false
    → Around k.sessions sessions n (took x a.xid (book.steps + 1)) → Around qs after n (put_down q us x.cut (record { xid = a.xid; reply = r }))
    → Shows book more k n x q a us (left_server k.server leasing tree journal temps index) r made (kept.sessions n x q at is owned) → Leaves book k n x q temps (kept.sessions n x q at is owned)
    → IsKept more (turned_core k more (left_server k.server leasing tree journal temps index) k.seats sessions) after
kept_taken book more k qs n leasing tree journal temps index x q a us r made sessions after kept at is owned e unhung around queues shows leaves =
    let h = kept.sessions n x q at is owned in
    let s = left_server k.server leasing tree journal temps index in
    let g = shows.goes.grows in
    let y = took x a.xid (book.steps + 1) in
    let t : Told = record { xid = a.xid; reply = r } in
    let c = h.seat in
    let ups_of : (P : Ask → Type 0) → AllAsks P q.ups → P a × AllAsks P us = λ P all. subst (AllAsks P) e all in
    kept_turn book more k qs s k.seats sessions after n x y (put_down q us x.cut t) c c made None (record {
      at = at;
      was = h.owner;
      session_around = around;
      queue_around = queues;
      seat_around = around_same k.seats x.owner c h.owner;
      owner = refl;
      goes = shows.goes;
      server = shows.server;
      sessions_made = refl;
      view = λ o apart. record { stands_is = refl; waiting = refl; temps = λ i m u lt at q. leaves.others o i m u apart lt at q; found = leaves.found o apart };
      elsewhere = inl refl;
      closing = λ p f. inl f;
      made_here = shows.made_here;
      ended_here = λ p o f. nothing_there p f;
      session = record {
        seat = c;
        owner = h.owner;
        here = h.here;
        shut = λ cut. cut_downs x.cut cut (h.shut cut);
        lost = λ hung. absurd (false_and_true x.hung unhung hung);
        stands_is = h.stands_is;
        ups_fit = (ups_of (λ b. CallFits b.lbfs b.xid b.call) h.ups_fit).1;
        ups_speak = speak_later book more made None us g (ups_of (λ b. b.lbfs ≡ book.lbfs) h.ups_speak).1;
        downs_fit = fit_later book more made None (unless x.cut q.downs (t ∷ [])) g (all_unless (λ (u : Told). ToldFits book.lbfs u) x.cut q.downs (t ∷ []) h.downs_fit (shows.fits, tt));
        talk = λ uncut. subst (λ (b : Bool). IsTalk more n k.server.waiting y (put_down q us b t) c) (sym uncut) (talks h shows uncut (h.talk uncut));
        contents = h.contents;
        lengths = h.lengths;
        commits = shows.commits;
        pieces = pieces_later (hashed_of book.moments) (hashed_of more.moments) h.contents us g.hashed (ups_of (IsPiece (hashed_of book.moments) h.contents) h.pieces).1;
        temps = λ i m u lt w key_is. let o = leaves.pieces i m u lt w key_is in (parts_later (hashed_of book.moments) (hashed_of more.moments) (h.contents m) u.1.pieces g.hashed o.0, o.1);
        temps_below = λ uncut. ((ups_of (λ b. TempUnder c.client.next_temp b.call) (h.temps_below uncut).0).1, leaves.below uncut);
        closes = shows.closes;
        pending = shows.pending;
        single = let a1 = h.single in let b1 = commits_tail a us in let c1 = ap commits_in e in omega (arith, a1, b1, c1);
        old = λ p f. let o = h.old p f in let u = g.each p o.0 o.1 in (u.0, u.1, u.2.client ∙ o.2);
        orderly = λ uncut. subst (λ (b : Bool). Orderly more n temps b (put_down q us x.cut t) c) (sym unhung) (orderly_answered book more made None n k.server.temps temps x.cut q a us t c g e (shows.wanted uncut) (shows.held uncut) (subst (λ (b : Bool). Orderly book n k.server.temps b q c) unhung (h.orderly uncut)));
      };
      seat = seat_later book more made None k.sessions sessions x.owner c g stays (λ p o f. nothing_there p f) (kept.seats x.owner c h.owner);
      running = shows.running;
      shelf = leaves.shelf;
      home = λ i d f. let z = kept.home i d f in homes z.0 d.session z.1 z.2;
    }) shows.journal_is kept
  where
    cut_downs : (b : Bool) → b ≡ true → q.downs ≡ [] → unless b q.downs (record { xid = a.xid; reply = r } ∷ []) ≡ []
    cut_downs true u none = none
    cut_downs false u none = absurd cc

    later_session : (z : Session) (m : ℕ) → numbered k.sessions m ≡ Some z → (v : Session) × (numbered sessions m ≡ Some v) × (v.owner ≡ z.owner) × (v.cut ≡ z.cut) × (v.hung ≡ z.hung)
    later_session z m f = elim (same_or_not m n) [
      | inr apart ↦ (z, around.others m apart ∙ f, refl, refl, refl)
      | inl here ↦
          let same : x ≡ z = some_is x z (sym at ∙ ap (numbered k.sessions) (sym here) ∙ f) in
          (took x a.xid (book.steps + 1), ap (numbered sessions) here ∙ around.there, ap (λ (v : Session). v.owner) same, ap (λ (v : Session). v.cut) same, ap (λ (v : Session). v.hung) same)
    ]

    homes : (z : Session) (m : ℕ) → numbered k.sessions m ≡ Some z → z.hung ≡ false → (v : Session) × (numbered sessions m ≡ Some v) × (v.hung ≡ false)
    homes z m f hung = let v = later_session z m f in (v.0, v.1, v.4 ∙ hung)

    stays : Stays k.sessions sessions x.owner
    stays m z f = let v = later_session z m f in (v.0, v.1, v.2, λ mine. v.3)

    talks : (h : IsSession book k.seats k.server n x q) → Shows book more k n x q a us (left_server k.server leasing tree journal temps index) r made h → x.cut ≡ false → IsTalk book n k.server.waiting x q h.seat → IsTalk more n k.server.waiting (took x a.xid (book.steps + 1)) (put_down q us false (record { xid = a.xid; reply = r })) h.seat
    talks h shows uncut talk =
        let g = shows.goes.grows in
        let t : Told = record { xid = a.xid; reply = r } in
        let z : TakenCall = record { xid = a.xid; step = book.steps + 1 } in
        let finds = finds_more x.taken z in
        let rising = subst (λ (l : List Ask). Rising talk.floor l h.seat.client.next_xid) e talk.rising in
        let keys : told_key t ≡ ask_key a = ap (key a.xid) shows.program in
        record {
          floor = a.xid + 1;
          under = under_more talk.floor x.taken z talk.under rising.0;
          rising = rising.1;
          numbered = (omega arith, zero_last x.taken z talk.numbered.1 (let some = talk.numbered.0 in let le = rising.0 in omega (arith, some, le)));
          asked = (subst (AllAsks (IsAsked (job h.seat))) e talk.asked).1;
          answers = all_append (IsAnswer more (x.taken ++ z ∷ []) x.closing (job h.seat)) q.downs (t ∷ []) (shows.answers uncut) (shows.answer uncut, tt);
          fetch = has_fetch_found more x.taken (x.taken ++ z ∷ []) (job h.seat) finds (has_fetch_later book more made None x.taken (job h.seat) g talk.fetch);
          balanced = record {
            most = λ v. let m = talk.balanced.most v in let w = way_moved n v k.server.waiting q a us t e keys in omega (arith, m, w);
            least = λ hung v. let m = talk.balanced.least hung v in let w = way_moved n v k.server.waiting q a us t e keys in omega (arith, m, w);
            once = talk.balanced.once;
            below = talk.balanced.below;
            ours = talk.balanced.ours;
          };
          busy = talk.busy;
        }

-- ---- one that changes no file

-- what a call that is answered at once is to show
pub record Answers (book : Book) (k : Core) (n : ℕ) (x : Session) (q : Queue) (a : Ask) (temps : List (ℕ × Temp)) (r : Reply) (h : IsSession book k.seats k.server n x q) : Type 0 where
  pub program : reply_program r ≡ call_program a.call
  pub fits : ToldFits book.lbfs (record { xid = a.xid; reply = r })
  pub answer : x.cut ≡ false → AnswerOf (onward book 1 book.ops) (x.taken ++ record { xid = a.xid; step = book.steps + 1 } ∷ []) x.closing (job h.seat) a.xid r
  pub pieces : (i m : ℕ) (e : ℕ × Temp) → m < 4294967296 → slice_get temps i ≡ Some e → e.0 ≡ key_of n m → AreParts (hashed_of book.moments) (h.contents m) e.1.pieces × (key_of e.1.session e.1.fd ≡ e.0)
  pub below : x.cut ≡ false → (i m : ℕ) (e : ℕ × Temp) → m < 4294967296 → slice_get temps i ≡ Some e → e.0 ≡ key_of n m → m < h.seat.client.next_temp
  pub shelf : IsShelf temps
  pub found : (o : ℕ) → (o ≡ n → ⊥) → SameFound k.server.temps temps o
  pub wanted : x.cut ≡ false → Wanted (onward book 1 book.ops) (job h.seat) a.xid r
  pub held : x.cut ≡ false → (us : List Ask) → q.ups ≡ a ∷ us → HoldsTemp temps n us (unless x.cut q.downs (record { xid = a.xid; reply = r } ∷ [])) (locals_of h.seat.client) (job h.seat)
  pub others : (o i m : ℕ) (e : ℕ × Temp) → (o ≡ n → ⊥) → m < 4294967296 → slice_get temps i ≡ Some e → e.0 ≡ key_of o m → (j : ℕ) × (slice_get k.server.temps j ≡ Some e)

pub kept_reply : (book : Book) (k : Core) (qs : List Queue) (n : ℕ) (leasing : Leasing) (x : Session) (q : Queue) (a : Ask) (us : List Ask) (temps : List (ℕ × Temp)) (index : Indexed) (r : Reply) (sessions : List Session) (after : List Queue)
    → IsLeasing leasing → (kept : IsKept book k qs) → (at : numbered k.sessions n ≡ Some x) → (is : numbered qs n ≡ Some q) → (owned : is_raw x ≡ false) → q.ups ≡ a ∷ us → x.hung ≡ false
    → Around k.sessions sessions n (took x a.xid (book.steps + 1)) → Around qs after n (put_down q us x.cut (record { xid = a.xid; reply = r }))
    → Answers book k n x q a temps r (kept.sessions n x q at is owned)
    → IsKept (onward book 1 book.ops) (turned_core k (onward book 1 book.ops) (record k.server { leasing = leasing; temps = temps; index = index }) k.seats sessions) after
kept_reply book k qs n leasing x q a us temps index r sessions after leases kept at is owned e unhung around queues shows =
    let h = kept.sessions n x q at is owned in
    let more = onward book 1 book.ops in
    let g = grows_same book 1 in
    let z : TakenCall = record { xid = a.xid; step = book.steps + 1 } in
    let spares : Spares x.closing None = λ p u v. nothing_there p v in
    kept_taken book more k qs n leasing k.server.tree k.server.journal temps index x q a us r None sessions after kept at is owned e unhung around queues (record {
      goes = goes_same book 1 kept.sound;
      server = server_still book more None None k.server leasing temps index leases g (still_same book 1 kept.sound) kept.server;
      journal_is = kept.journal;
      made_here = λ p f. nothing_there p f;
      program = shows.program;
      fits = shows.fits;
      answer = shows.answer;
      answers = λ uncut. all_map (IsAnswer book x.taken x.closing (job h.seat)) (IsAnswer more (x.taken ++ z ∷ []) x.closing (job h.seat)) (λ u f. answer_found more x.taken (x.taken ++ z ∷ []) x.closing (job h.seat) u (finds_more x.taken z) (answer_later book more None None x.taken x.closing (job h.seat) u g spares f)) q.downs (h.talk uncut).answers;
      commits = (subst (AllAsks (IsCommit more x.closing x.cut (job h.seat) h.contents)) e (all_map (IsCommit book x.closing x.cut (job h.seat) h.contents) (IsCommit more x.closing x.cut (job h.seat) h.contents) (λ b m. commit_later book more None None x.closing x.cut (job h.seat) (job h.seat) h.contents b g spares (λ u. refl) m) q.ups h.commits)).1;
      closes = λ uncut j f. close_later book more None None x.closing h.contents h.seat.client.next_temp j (client.local_bytes h.seat.client.opened j.file) j.stage g spares (h.closes uncut j f);
      pending = λ i d f. waits_later book more None None x.closing x.cut (job h.seat) (job h.seat) d.session d.xid d.file d.what g spares (λ u. refl) (h.pending i d f);
      wanted = shows.wanted;
      held = λ uncut. shows.held uncut us e;
      running = kept.running;
    }) (record { pieces = shows.pieces; below = shows.below; shelf = shows.shelf; found = shows.found; others = shows.others })

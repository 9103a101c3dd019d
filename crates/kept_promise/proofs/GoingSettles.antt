-- A remove, or a rename over a file, that waited is settled, and its session told: it's refused, or its file goes.
use Rattle.std.proofs.Common.{inl, ◌≡◌, ℕ, ◌+◌, List, [], ◌∷◌, ◌++◌, length, map, Option, Some, None, Bool, true, false, refl, sym, ap, ◌∙◌, subst, arith}
use Rattle.nfs3_calls.specs.Nfs.{nfs_proc}
use Rattle.wire.specs.declared.message.Body.TheVariants as body
use Rattle.wire.specs.declared.message.Message.TheVariants as message
use Rattle.wire.specs.declared.message.Program.TheVariants as program
use Rattle.tree_reading.specs.Tree.{Tree}
use Rattle.tree_calls.specs.declared.asked.Asked.{Asked}
use Rattle.tree_calls.specs.declared.asked.Asked.TheVariants as asked
use Rattle.path_calls.specs.Walk.{next_call}
use Rattle.path_calls.specs.declared.walk.Walk.{Walk}
use Rattle.server_core.specs.State as server
use Rattle.server_core.specs.declared.change.Wanted.TheVariants as wanted
use Rattle.client_state.specs.State as client
use Rattle.client_state.specs.declared.task.Stage.TheVariants as stage
use Rattle.register_model.specs.declared.op.Outcome.TheVariants as told
use Rattle.kept_promise.proofs.Common.{slice_get, Contains, MessageFits, FileChange, Entry, Op, Core, Seat, Session, Event.Settles, numbered, with_numbered, happens, unless, hashed_of, Book, Reply.Walked, NameReply, name_answer, Told, Queue, told_message, Reply, Indexed, Leasing, later, is_raw}
use Rattle.kept_promise.proofs.Tells.{came_told}
use Rattle.kept_promise.proofs.Orderly.{Wanted}
use Rattle.kept_promise.proofs.Lists.{some_is, nothing_there, true_and_false, all_append, all_unless}
use Rattle.kept_promise.proofs.Keys.{times, times_append, own, on_way, key, change_key, ask_key, told_key}
use Rattle.kept_promise.proofs.PathNames.{is_making, makes_later}
use Rattle.kept_promise.proofs.Messages.{walk_for, walk_is, Job, job, AnswerOf, IsAnswer, IsGoing, CloseOf, WalkCame, WalkTold, AllTolds}
use Rattle.kept_promise.proofs.History.{Goes}
use Rattle.kept_promise.proofs.Later.{speak_later, fit_later, pieces_later, parts_later, has_fetch_later, seat_later}
use Rattle.kept_promise.proofs.Taken.{tolds_at, times_map_append}
use Rattle.kept_promise.proofs.Turns.{around_same, around_with, turned_core, kept_turn}
use Rattle.kept_promise.proofs.Ordered.{orderly_later, orderly_told, TellsNone}
use Rattle.kept_promise.proofs.OrderSteps.{waits_untold}
use Rattle.kept_promise.proofs.TakenOut.{IsOut}
use Rattle.kept_promise.proofs.Unwaited.{unwaited}
use Rattle.kept_promise.proofs.Steps.{no_commits}
use Rattle.kept_promise.proofs.Facts.{IsServer, IsTalk, IsSession, IsKept, commits_in}
use Rattle.kept_promise.proofs.Leading.{IsNoted}
use Rattle.kept_promise.proofs.Statements.{ToldFits}

-- ---- the walk whose last call waits

pub makes_for : (a : Asked) → is_making (walk_for a) ≡ true
makes_for (asked.Remove r) = refl
makes_for (asked.Rename r) = refl

none_later : (a : Asked) → makes_later (walk_for a).left (walk_for a).goal ≡ true → ⊥
none_later (asked.Remove r) e = absurd cc
none_later (asked.Rename r) e = absurd cc

-- what is answered is of the procedure that waited
pub answer_key : (c : FileChange) (a : Asked) (r : NameReply) → c.what ≡ wanted.Asked a → nfs_proc (name_answer r) ≡ nfs_proc (next_call (walk_for a)) → told_key (record { xid = c.xid; reply = Walked r }) ≡ change_key c
answer_key c a r what procs = ap (λ p. key c.xid (program.Nfs p)) procs ∙ by a ∙ sym (ap (λ w. change_key (record c { what = w })) what)
  where
    by : (a : Asked) → key c.xid (program.Nfs (nfs_proc (next_call (walk_for a)))) ≡ change_key (record c { what = wanted.Asked a })
    by (asked.Remove r) = refl
    by (asked.Rename r) = refl

-- ---- the queue

-- what is settled is told where it waited
way_settled : (y : ℕ) (c : FileChange) (waits cs : List FileChange) (q : Queue) (t : Told) → IsOut waits c cs → told_key t ≡ change_key c → times y (on_way c.session cs (record q { downs = q.downs ++ t ∷ [] })) ≡ times y (on_way c.session waits q)
way_settled y c waits cs q t out same =
    let n : ℕ = c.session in
    let ups = map ask_key q.ups in
    let a = times_append y ups (map change_key (own n cs) ++ map told_key (q.downs ++ t ∷ [])) in
    let b = times_append y (map change_key (own n cs)) (map told_key (q.downs ++ t ∷ [])) in
    let d = times_map_append told_key y q.downs (t ∷ []) in
    let e = ap (λ (l : List FileChange). times y (ups ++ (map change_key l ++ map told_key q.downs))) (out.mine ∙ ap (λ (l : List FileChange). c ∷ l) (sym out.none)) in
    let f = times_append y ups (map change_key (c ∷ own n cs) ++ map told_key q.downs) in
    let g = times_append y (map change_key (c ∷ own n cs)) (map told_key q.downs) in
    let h = times_append y (change_key c ∷ []) (map change_key (own n cs)) in
    let k : times y (told_key t ∷ []) ≡ times y (change_key c ∷ []) = ap (λ z. times y (z ∷ [])) same in
    omega (arith, a, b, d, e, f, g, h, k)

-- ---- the frame

-- the server then
abbrev pub settled_server : server.State → (now : ℕ) → List FileChange → Tree → List Entry → server.State
settled_server s now cs tree journal = record s { leasing = later s.leasing now; waiting = cs; tree = tree; journal = journal }

-- what is to show where a change waits no more, and its client is told this of it
pub record ShowsTold (book more : Book) (k : Core) (c : FileChange) (x : Session) (q : Queue) (s : server.State) (r : Reply) (made : Option ℕ) (h : IsSession book k.seats k.server c.session x q) : Type 0 where
  pub goes : Goes book more made None
  pub server : IsServer more s
  pub journal_is : more.journal ≡ s.journal
  pub made_here : (p : ℕ) → made ≡ Some p → x.closing ≡ Some p
  pub key_is : told_key (record { xid = c.xid; reply = r }) ≡ change_key c
  pub fits : ToldFits book.lbfs (record { xid = c.xid; reply = r })
  pub answers : x.cut ≡ false → AllTolds (IsAnswer more x.taken x.closing (job h.seat)) q.downs
  pub answer : x.cut ≡ false → AnswerOf more x.taken x.closing (job h.seat) c.xid r
  pub closes : x.cut ≡ false → (j : Job) → job h.seat ≡ Some j → CloseOf more x.closing h.contents h.seat.client.next_temp j (client.local_bytes h.seat.client.opened j.file) j.stage
  pub plain : TellsNone r
  pub wanted : x.cut ≡ false → Wanted more (job h.seat) c.xid r
  pub running : (p : ℕ) (o : Op) → slice_get more.ops p ≡ Some o → o.outcome ≡ told.Running → (e : Seat) × (j : Job) × (numbered k.seats o.client ≡ Some e) × (job e ≡ Some j) × (j.place ≡ p)

module _ (book more : Book) (k : Core) (qs : List Queue) (now : ℕ) (c : FileChange) (cs : List FileChange) (x : Session) (q : Queue) (leasing : Leasing) (tree : Tree) (journal : List Entry) (index : Indexed) (r : Reply) (made : Option ℕ)
    (kept : IsKept book k qs) (out : IsOut k.server.waiting c cs) (here : numbered k.sessions c.session ≡ Some x) (is : numbered qs c.session ≡ Some q) (owned : is_raw x ≡ false) (shows : ShowsTold book more k c x q (record (settled_server k.server now cs tree journal) { leasing = leasing; index = index }) r made (kept.sessions c.session x q here is owned)) where
  abbrev n : ℕ
  n = c.session

  abbrev h : IsSession book k.seats k.server n x q
  h = kept.sessions n x q here is owned

  abbrev t : Told
  t = record { xid = c.xid; reply = r }

  abbrev s : server.State
  s = record (settled_server k.server now cs tree journal) { leasing = leasing; index = index }

  abbrev p : Queue
  p = record q { downs = unless x.cut q.downs (t ∷ []) }

  -- it's the one of its session
  alone : (commits_in q.ups ≡ 0) × (length (own n cs) ≡ 0)
  alone =
      let single = h.single in
      let one = ap (λ (l : List FileChange). length l) out.mine in
      let none = ap (λ (l : List FileChange). length l) out.none in
      (omega (arith, single, one), omega (arith, none))

  cut_downs : (b : Bool) → b ≡ true → q.downs ≡ [] → unless b q.downs (t ∷ []) ≡ []
  cut_downs true u none = none
  cut_downs false u none = absurd cc

  talks : x.cut ≡ false → IsTalk book n k.server.waiting x q h.seat → IsTalk more n cs x (record q { downs = q.downs ++ t ∷ [] }) h.seat
  talks uncut talk = record {
    floor = talk.floor;
    numbered = talk.numbered;
    under = talk.under;
    rising = talk.rising;
    asked = talk.asked;
    answers = all_append (IsAnswer more x.taken x.closing (job h.seat)) q.downs (t ∷ []) (shows.answers uncut) (shows.answer uncut, tt);
    fetch = has_fetch_later book more made None x.taken (job h.seat) shows.goes.grows talk.fetch;
    balanced = record {
      most = λ y. let b = talk.balanced.most y in let w = way_settled y c k.server.waiting cs q t out shows.key_is in omega (arith, b, w);
      least = λ hung y. let b = talk.balanced.least hung y in let w = way_settled y c k.server.waiting cs q t out shows.key_is in omega (arith, b, w);
      once = talk.balanced.once;
      below = talk.balanced.below;
      ours = talk.balanced.ours;
    };
    busy = talk.busy;
  }

  pub kept_told : IsKept more (turned_core k more s k.seats k.sessions) (with_numbered qs n p)
  kept_told =
      let g = shows.goes.grows in
      kept_turn book more k qs s k.seats k.sessions (with_numbered qs n p) n x x p h.seat h.seat made None (record {
        at = here;
        was = h.owner;
        session_around = around_same k.sessions n x here;
        queue_around = around_with qs n q p is;
        seat_around = around_same k.seats x.owner h.seat h.owner;
        owner = refl;
        goes = shows.goes;
        server = shows.server;
        sessions_made = refl;
        view = λ m apart. record { stands_is = refl; waiting = out.apart m apart; temps = λ i m2 u lt z w. (i, z); found = λ m2 lt. refl };
        elsewhere = inl refl;
        closing = λ z w. inl w;
        made_here = shows.made_here;
        ended_here = λ z u w. nothing_there z w;
        session = record {
          seat = h.seat;
          owner = h.owner;
          here = h.here;
          shut = λ cut. cut_downs x.cut cut (h.shut cut);
          lost = h.lost;
          stands_is = h.stands_is;
          ups_fit = h.ups_fit;
          ups_speak = speak_later book more made None q.ups g h.ups_speak;
          downs_fit = fit_later book more made None (unless x.cut q.downs (t ∷ [])) g (all_unless (λ (u : Told). ToldFits book.lbfs u) x.cut q.downs (t ∷ []) h.downs_fit (shows.fits, tt));
          talk = λ uncut. subst (λ (b : Bool). IsTalk more n cs x (record q { downs = unless b q.downs (t ∷ []) }) h.seat) (sym uncut) (talks uncut (h.talk uncut));
          contents = h.contents;
          lengths = h.lengths;
          commits = no_commits more x.closing x.cut (job h.seat) h.contents q.ups alone.0;
          pieces = pieces_later (hashed_of book.moments) (hashed_of more.moments) h.contents q.ups g.hashed h.pieces;
          temps = λ i m u lt w key_is. let o = h.temps i m u lt w key_is in (parts_later (hashed_of book.moments) (hashed_of more.moments) (h.contents m) u.1.pieces g.hashed o.0, o.1);
          temps_below = h.temps_below;
          closes = shows.closes;
          pending = λ i d f. nothing_there d (ap (λ (l : List FileChange). slice_get l i) (sym out.none) ∙ f);
          single = let z = alone.0 in let y = alone.1 in omega (arith, z, y);
          old = λ z w. let u = h.old z w in let v = g.each z u.0 u.1 in (v.0, v.1, v.2.client ∙ u.2);
          orderly = λ uncut. orderly_told more n k.server.temps x.hung x.cut q t h.seat shows.plain (shows.wanted uncut) (orderly_later book more made None n k.server.temps k.server.temps x.hung q h.seat g (λ m lt. refl) (h.orderly uncut));
        };
        seat = seat_later book more made None k.sessions k.sessions x.owner h.seat g (λ m z w. (z, w, refl, λ u. refl)) (λ z u w. nothing_there z w) (kept.seats x.owner h.seat h.owner);
        running = shows.running;
        shelf = kept.shelf;
        home = λ i d w. let z = out.others i d w in kept.home z.0 d z.1;
      }) shows.journal_is kept

-- ---- a change of names

pub record ShowsSettled (book more : Book) (k : Core) (now : ℕ) (c : FileChange) (cs : List FileChange) (x : Session) (q : Queue) (tree : Tree) (journal : List Entry) (r : NameReply) (made : Option ℕ) (h : IsSession book k.seats k.server c.session x q) : Type 0 where
  pub goes : Goes book more made None
  pub server : IsServer more (settled_server k.server now cs tree journal)
  pub journal_is : more.journal ≡ journal
  pub made_here : (p : ℕ) → made ≡ Some p → x.closing ≡ Some p
  pub key_is : told_key (record { xid = c.xid; reply = Walked r }) ≡ change_key c
  pub fits : ToldFits book.lbfs (record { xid = c.xid; reply = Walked r })
  pub answer : x.cut ≡ false → AnswerOf more x.taken x.closing (job h.seat) c.xid (Walked r)
  pub running : (p : ℕ) (o : Op) → slice_get more.ops p ≡ Some o → o.outcome ≡ told.Running → (e : Seat) × (j : Job) × (numbered k.seats o.client ≡ Some e) × (job e ≡ Some j) × (j.place ≡ p)

module _ (book more : Book) (k : Core) (qs : List Queue) (now : ℕ) (c : FileChange) (cs : List FileChange) (a : Asked) (x : Session) (q : Queue) (tree : Tree) (journal : List Entry) (r : NameReply) (made : Option ℕ)
    (kept : IsKept book k qs) (out : IsOut k.server.waiting c cs) (here : numbered k.sessions c.session ≡ Some x) (unhung : x.hung ≡ false) (is : numbered qs c.session ≡ Some q) (owned : is_raw x ≡ false)
    (pending : IsGoing book c.session x.closing x.cut (job (kept.sessions c.session x q here is owned).seat) c.xid a) (shows : ShowsSettled book more k now c cs x q tree journal r made (kept.sessions c.session x q here is owned)) where
  abbrev its : IsSession book k.seats k.server c.session x q
  its = kept.sessions c.session x q here is owned

  -- its client waits for it
  waits_here : x.cut ≡ false → (j : Job) → job its.seat ≡ Some j → j.stage ≡ stage.Walking c.xid (walk_for a)
  waits_here uncut j at =
      let w = pending.waited uncut in
      ap (λ (z : Job). z.stage) (some_is j (record { place = pending.place; file = 0; stage = stage.Walking c.xid w.0 }) (sym at ∙ w.1)) ∙ ap (stage.Walking c.xid) (walk_is w.0 a w.2)

  pub kept_settled : IsKept more (turned_core k more (settled_server k.server now cs tree journal) k.seats k.sessions) (with_numbered qs c.session (record q { downs = unless x.cut q.downs (record { xid = c.xid; reply = Walked r } ∷ []) }))
  kept_settled = kept_told book more k qs now c cs x q (later k.server.leasing now) tree journal k.server.index (Walked r) made kept out here is owned (record {
    goes = shows.goes;
    server = shows.server;
    journal_is = shows.journal_is;
    made_here = shows.made_here;
    key_is = shows.key_is;
    fits = shows.fits;
    answers = λ uncut.
        let talk = its.talk uncut in
        tolds_at (IsAnswer book x.taken x.closing (job its.seat)) (IsAnswer more x.taken x.closing (job its.seat)) q.downs (λ i u at f. unwaited book more x.taken x.taken x.closing (job its.seat) c.xid (walk_for a) u (waits_here uncut) (λ same. waits_untold c.session k.server.waiting q x.hung its.seat.client.next_xid (client.calls_of its.seat.client) 0 i c u talk.balanced (ap (λ (l : List FileChange). slice_get l 0) out.mine) at (sym same)) f) talk.answers;
    answer = shows.answer;
    closes = λ uncut j f. subst (CloseOf more x.closing its.contents its.seat.client.next_temp j (client.local_bytes its.seat.client.opened j.file)) (sym (waits_here uncut j f)) (λ later. absurd (none_later a later));
    plain = tt;
    wanted = λ uncut. tt;
    running = shows.running;
  })

-- ---- what is told of it

pub settled_came : (book more : Book) (k : Core) (qs : List Queue) (now n : ℕ) (x : Session) (q : Queue) (xid : ℕ) (a : Asked) (c : Seat) (r : NameReply) → IsKept book k qs → numbered k.seats x.owner ≡ Some c → c.session ≡ Some n → IsNoted book k (Settles now)
    → Contains (happens k (Settles now)).down (record { session = n; message = message.Answer xid (body.Nfs (name_answer r)) }) → more.moments ≡ book.moments → more.steps ≡ book.steps + 1
    → ((j : Job) → job c ≡ Some j → j.stage ≡ stage.Walking xid (walk_for a))
    → ((j : Job) (o : Op) → job c ≡ Some j → slice_get book.ops j.place ≡ Some o → (z : Op) × (slice_get more.ops j.place ≡ Some z) × (z.begin ≡ o.begin) × (z.client ≡ o.client) × WalkCame more (record { before = k; event = Settles now }) (book.steps + 1) x.closing j z (walk_for a) (name_answer r))
    → AnswerOf more x.taken x.closing (job c) xid (Walked r)
settled_came book more k qs now n x q xid a c r kept was here noted sent moments steps waits came = λ j v is at.
    subst (λ (u : Walk). WalkTold more x.taken x.closing j xid u (name_answer r)) (sym (walks_same xid v (walk_for a) (sym at ∙ waits j is)))
    (came_told book more k qs n x x.taken xid (walk_for a) c r (Settles now) kept was here noted sent moments steps j is (λ none. absurd (true_and_false (is_making (walk_for a)) (makes_for a) none)) (λ o there. came j o is there))
  where
    walks_same : (y : ℕ) (v w : Walk) → stage.Walking y v ≡ stage.Walking y w → v ≡ w
    walks_same y v w e = cc

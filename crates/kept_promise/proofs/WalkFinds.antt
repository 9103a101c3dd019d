-- The walk of an open has found a file: the open goes on as one of the file, with a first call.
use Rattle.std.proofs.Common.{false, inl, inr, ◌≡◌, ℕ, ◌+◌, ◌<◌, ◌≤◌, List, [], ◌∷◌, ◌++◌, length, Some, None, refl, sym, ap, ◌∙◌, subst, arith, true}
use Rattle.client_state.specs.State as client
use Rattle.client_state.specs.declared.task.Stage.TheVariants as stage
use Rattle.register_model.specs.declared.op.Outcome.{Outcome}
use Rattle.register_model.specs.declared.op.Outcome.TheVariants as told
use Rattle.kept_promise.proofs.Common.{changes, slice_get, slice_set, Pending, FileChange, Stage, Op, Traffic, Core, Seat, Session, numbered, hashed_of, Book, Entries, Ask, Told, Queue, Word}
use Rattle.kept_promise.proofs.Statements.{CallFits}
use Rattle.kept_promise.proofs.Lists.{some_is, nothing_there, same_or_not, of_replaced, at_replaced, false_and_true, all_map}
use Rattle.kept_promise.proofs.Messages.{Job, job, stage_word, AllTolds, IsAsked, IsAnswer, Trying, FetchOf, IsPiece, TempUnder, CloseOf}
use Rattle.kept_promise.proofs.Rights.{Caused, IsRight}
use Rattle.kept_promise.proofs.History.{onward, Becomes, goes_becomes, still_becomes}
use Rattle.kept_promise.proofs.Later.{cached_later}
use Rattle.kept_promise.proofs.Turns.{Around, turned_core}
use Rattle.kept_promise.proofs.Ordered.{AllFetching}
use Rattle.kept_promise.proofs.OrderSteps.{orderly_ends, free_on}
use Rattle.kept_promise.proofs.Facts.{Cached, IsOf, HasXids, IsKept, commits_in}
use Rattle.kept_promise.proofs.Heard.{Moves, put_up, kept_heard}
use Rattle.kept_promise.proofs.Begins.{First, call_first, answer_first}
use Rattle.kept_promise.proofs.Steps.{Here, session_at, Quiet, job_op, gone_on, asks_below, tolds_below, no_commits}
use Rattle.kept_promise.proofs.Growth.{there_later}

-- its operation is of the file now
abbrev pub finding_op : Op → Traffic → (id : ℕ) → Op
finding_op o tr id = record o { file = id; traffic = tr }

abbrev pub of_file : Job → (id : ℕ) → Stage → Job
of_file j id s = record { place = j.place; file = id; stage = s }

no_change : {A : Type 0} (w : Word) → changes w ≡ false → changes w ≡ true → A
no_change w is c = absurd (false_and_true (changes w) is c)

becomes_finding : (book : Book) (place : ℕ) (o : Op) (tr : Traffic) (id : ℕ) → changes o.word ≡ false → Becomes book None (Some place) place o (finding_op o tr id)
becomes_finding book place o tr id w = record {
  follows = record {
    client = refl;
    word = refl;
    file = λ n g. absurd (n refl);
    close_file = λ c. no_change o.word w (ap changes c);
    own_file = λ c n. no_change o.word w c;
    begin = refl;
    point = λ c p e. no_change o.word w c;
    value = λ c. refl;
    unmade = λ n u. u;
    end = λ e q. inl q;
    running = λ n e. e;
  };
  change_point = λ c. refl;
  change_file = λ c. no_change o.word w c;
  point = λ p e. inl e;
}

right_finding : (book more : Book) (o : Op) (tr : Traffic) (id : ℕ) → changes o.word ≡ false → IsRight book o → o.outcome ≡ told.Running → book.steps ≤ more.steps → IsRight more (finding_op o tr id)
right_finding book more o tr id w r run le = record {
  cause = subst (λ (u : Outcome). Caused more (finding_op o tr id) u) (sym run) (subst (Caused book o) run r.cause);
  begun = let b = r.begun in omega (arith, b, le);
  pointed = λ p e. let h = r.pointed p e in let b = h.1 in (h.0, omega (arith, b, le), h.2);
  past = λ e q. let h = r.past e q in let b = h.1 in (h.0, omega (arith, b, le));
  ends = r.ends;
  within = r.within;
  failed = λ c s n. no_change o.word w c;
}

-- what it shows
pub record FindsOn (book : Book) (k : Core) (qs : List Queue) (n : ℕ) (x : Session) (q : Queue) (t : Told) (ts : List Told) (j : Job) (g : Here book k qs n x q t ts j) (id : ℕ) (s : Stage) (a : Ask) : Type 0 where
  pub quiet : Quiet k n q
  pub was : changes (stage_word j.stage) ≡ false
  pub word : stage_word s ≡ stage_word j.stage
  pub none : commits_in (a ∷ []) ≡ 0
  pub first : First (session_at book k qs n x q t ts j g).seat.client.next_xid s a
  pub moves : Moves (client.calls_of (session_at book k qs n x q t ts j g).seat.client) (client.pending_in s ++ (session_at book k qs n x q t ts j g).seat.client.forgotten) t (a ∷ [])
  pub asked : IsAsked (Some (of_file j id s)) a
  pub fits : CallFits a.lbfs a.xid a.call
  pub speaks : a.lbfs ≡ book.lbfs
  pub piece : IsPiece (hashed_of book.moments) (session_at book k qs n x q t ts j g).contents a
  pub under : TempUnder (session_at book k qs n x q t ts j g).seat.client.next_temp a.call
  pub fetching : AllFetching (a ∷ [])
  pub fetch : (more : Book) → FetchOf more x.taken (of_file j id s) s
  pub closes : (more : Book) → CloseOf more x.closing (session_at book k qs n x q t ts j g).contents (session_at book k qs n x q t ts j g).seat.client.next_temp (of_file j id s) (client.local_bytes (session_at book k qs n x q t ts j g).seat.client.opened id) s
  pub tries : (m y : ℕ) → s ≡ stage.Hashing m y → m ≡ 1
  pub xids : HasXids ((session_at book k qs n x q t ts j g).seat.client.next_xid + 1) s
  pub bounded : (session_at book k qs n x q t ts j g).seat.client.next_xid + 1 ≤ 4294967296

pub kept_finds : (book : Book) (k : Core) (qs : List Queue) (n : ℕ) (x : Session) (q : Queue) (t : Told) (ts : List Told) (j : Job) (g : Here book k qs n x q t ts j) (id : ℕ) (s : Stage) (a : Ask) (cache : Entries) (sent : ℕ) (tr : Traffic) (seats : List Seat) (after : List Queue) → FindsOn book k qs n x q t ts j g id s a → Cached book cache
    → (let h = session_at book k qs n x q t ts j g in
    let c = gone_on h.seat.client id (h.seat.client.next_xid + 1) sent s h.seat.client.forgotten cache h.seat.client.index in
    let of = job_op book k qs x h.seat j g.kept h.owner g.job_is in
    let ops = slice_set book.ops j.place (finding_op of.op tr id) in
    Around k.seats seats x.owner (record h.seat { client = c; place = Some j.place }) → Around qs after n (put_up q x.hung (a ∷ []) ts) → IsKept (onward book 1 ops) (turned_core k (onward book 1 ops) k.server seats k.sessions) after)
kept_finds book k qs n x q t ts j g id s a cache sent tr seats after w cached around queues =
    let h = session_at book k qs n x q t ts j g in
    let c = gone_on h.seat.client id (h.seat.client.next_xid + 1) sent s h.seat.client.forgotten cache h.seat.client.index in
    let of = job_op book k qs x h.seat j g.kept h.owner g.job_is in
    let r = finding_op of.op tr id in
    let ops = slice_set book.ops j.place r in
    let more = onward book 1 ops in
    let i : Job = of_file j id s in
    let d : Seat = record h.seat { client = c; place = Some j.place } in
    let right = g.kept.sound.rights j.place of.op of.there in
    let became = becomes_finding book j.place of.op tr id (ap changes of.word ∙ w.was) in
    let goes = goes_becomes book 1 None (Some j.place) j.place of.op r of.there became (right_finding book more of.op tr id (ap changes of.word ∙ w.was) right of.running (omega arith)) g.kept.sound in
    let talk = h.talk g.uncut in
    let seat_was = g.kept.seats x.owner h.seat h.owner in
    let bound = tolds_below n k.server.waiting q x.hung h.seat.client.next_xid (client.calls_of h.seat.client) talk.balanced in
    let moved : IsOf more x.owner i = record { op = r; there = at_replaced book.ops j.place r of.op of.there; client = of.client; word = of.word ∙ sym w.word; file = λ n. refl; running = of.running } in
    kept_heard book ops k qs n x q t ts c (Some j.place) (a ∷ []) None (Some j.place) seats after g.kept g.at g.is g.owned g.first g.uncut around queues (record {
      goes = goes;
      still = still_becomes book 1 None (Some j.place) j.place of.op r of.there became g.kept.sound;
      made_here = λ p f. nothing_there p f;
      ended_here = λ p o e there. ap (λ (z : Op). z.client) (some_is o of.op (sym there ∙ ap (slice_get book.ops) (sym (some_is j.place p e)) ∙ of.there)) ∙ of.client;
      old_asks = all_map (λ (v : Ask). v.xid < h.seat.client.next_xid) (IsAsked (Some i)) (λ v lt. call_first h.seat.client.next_xid i s a w.first refl v.xid v.call lt) q.ups (asks_below talk.floor q.ups h.seat.client.next_xid talk.rising);
      old_tolds = (subst (AllTolds (IsAnswer more x.taken x.closing (Some i))) g.first (all_map (λ (v : Told). v.xid < h.seat.client.next_xid) (IsAnswer more x.taken x.closing (Some i)) (λ v lt. answer_first more x.taken x.closing h.seat.client.next_xid i s a w.first refl v.xid v.reply lt) q.downs bound)).1;
      old_commits = no_commits more x.closing x.cut (Some i) h.contents q.ups w.quiet.ups;
      old_pending = λ m z f. nothing_there z (ap (λ (l : List FileChange). slice_get l m) (sym w.quiet.waiting) ∙ f);
      moves = w.moves;
      rising = (let e = w.first.xid in omega (arith, e), let e = w.first.xid in omega (arith, e));
      asked = (w.asked, tt);
      fits = (w.fits, tt);
      speak = (w.speaks, tt);
      commits = no_commits more x.closing x.cut (Some i) h.contents (a ∷ []) w.none;
      pieces = (w.piece, tt);
      under = (w.under, tt);
      few = let u = w.quiet.ups in let b = ap (λ (l : List FileChange). length l) w.quiet.waiting in let f = w.none in omega (arith, u, b, f);
      linked = (h.here g.uncut).1;
      numbers = refl;
      fetch = λ m f. subst (λ (z : Job). FetchOf more x.taken z z.stage) (some_is i m f) (w.fetch more);
      busy = λ m f. subst (λ (z : Job). 0 < length (client.pending_in z.stage)) (some_is i m f) (let l = ap (λ (z : List Pending). length z) w.first.pending in omega (arith, l));
      closes = λ m f. subst (λ (z : Job). CloseOf more x.closing h.contents h.seat.client.next_temp z (client.local_bytes h.seat.client.opened z.file) z.stage) (some_is i m f) (w.closes more);
      seat = record {
        session = seat_was.session;
        linked = seat_was.linked;
        unlinked = λ f. absurd (false_and_true h.seat.client.linked f (h.here g.uncut).1);
        speaks = seat_was.speaks;
        matched = inr (i, refl);
        task = λ m f. subst (IsOf more x.owner) (some_is i m f) moved;
        trying = λ v m y f e. let same = some_is i v f in subst (λ (z : Job). Trying more z m) same (let one = w.tries m y (ap (λ (z : Job). z.stage) same ∙ e) in record { op = r; there = at_replaced book.ops j.place r of.op of.there; count = 0; tries_is = one; tried = let b = right.begun in omega (arith, b) });
        xids = λ m f. subst (λ (z : Job). HasXids (h.seat.client.next_xid + 1) z.stage) (some_is i m f) w.xids;
        next = (w.bounded, let b = seat_was.next.1 in omega (arith, b));
        opened = λ f l e. let o = seat_was.opened f l e in (there_later book more None (Some j.place) f goes.grows o.0, o.1);
        kept = cached_later book more None (Some j.place) cache goes.grows cached;
      };
      orderly = orderly_ends book more n k.server.temps k.server.waiting q x.hung h.seat.client.next_xid (client.calls_of h.seat.client) t ts h.seat d j (a ∷ []) talk.balanced g.first g.job_is (inl (λ e. no_change (stage_word j.stage) w.was (ap changes e))) (h.orderly g.uncut) (free_on d i refl (λ e. no_change (stage_word s) (ap changes w.word ∙ w.was) (ap changes e))) w.fetching;
      running = λ others round p o at run. elim (of_replaced book.ops j.place r p o at) [
        | inl here ↦ (d, i, ap (λ (z : Op). numbered others z.client) here.1 ∙ ap (numbered others) of.client ∙ round.there, refl, sym here.0)
        | inr there ↦
            let u = g.kept.running p o there.1 run in
            elim (same_or_not o.client x.owner) [
              | inr apart ↦ (u.0, u.1, round.others o.client apart ∙ u.2, u.3, u.4)
              | inl mine ↦
                  let same : u.0 ≡ h.seat = some_is u.0 h.seat (sym u.2 ∙ ap (numbered k.seats) mine ∙ h.owner) in
                  let job_same : u.1 ≡ j = some_is u.1 j (sym u.3 ∙ ap job same ∙ g.job_is) in
                  absurd (there.0 (sym u.4 ∙ ap (λ (z : Job). z.place) job_same))
            ]
      ];
    })

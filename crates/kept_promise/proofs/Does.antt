-- A client does what it is told to: it answers by itself, or an operation begins.
use Rattle.std.proofs.Common.{inl, inr, ◌≡◌, ℕ, zero, suc, ◌+◌, ◌<◌, ◌≤◌, List, [], ◌∷◌, ◌++◌, length, Option, Some, None, true, refl, sym, ap, ◌∙◌, subst, arith, false}
use Rattle.server_core.specs.State as server
use Rattle.client_state.specs.State as client
use Rattle.client_state.specs.declared.step.Outcome.TheVariants as outcome
use Rattle.register_model.specs.declared.op.Outcome.TheVariants as told
use Rattle.register_model.specs.declared.op.Word.TheVariants as words
use Rattle.kept_promise.proofs.Common.{slice_get, slice_set, not, ends, Ended, Outcome, Local, Op, Word, TakenCall, Core, Seat, Session, Loss.Nothing, CoreStep, numbered, with_numbered, session_of, commanded_sessions, begun, has_point, point_if, told_of, op_after, place_with, closing_with, Book, is_running, Ask, Told, Queue, is_raw}
use Rattle.kept_promise.proofs.Lists.{some_is, nothing_there, same_or_not, of_appended, true_and_false}
use Rattle.kept_promise.proofs.Messages.{Job, job, AllTolds, IsAnswer}
use Rattle.kept_promise.proofs.Rights.{Caused, IsRight, WasThere, DoneBy, is_remote}
use Rattle.kept_promise.proofs.History.{onward, MakesNone, makes_none, goes_added, still_added, grows_added}
use Rattle.kept_promise.proofs.Later.{same_view}
use Rattle.kept_promise.proofs.Turns.{Around, around_with, turned_core, has_owner, with_same, came_later}
use Rattle.kept_promise.proofs.Rests.{kept_rest, with_opened, kept_opened}
use Rattle.kept_promise.proofs.Facts.{IsSession, IsKept}
use Rattle.kept_promise.proofs.Leading.{Leads, ups_put_in, ups_put}
use Rattle.kept_promise.proofs.Takes.{server_still}
use Rattle.kept_promise.proofs.Cuts.{cut_core}
use Rattle.kept_promise.proofs.OrderSteps.{ups_same}
use Rattle.kept_promise.proofs.Growth.{there_later}

-- ---- the calls that the server took are forgotten where nothing is under way

abbrev pub cleared : Session → Session
cleared x = record x { taken = [] }

answers_free : (book : Book) (taken : List TakenCall) (closing : Option ℕ) (o : Option Job) (ts : List Told) → o ≡ None → AllTolds (IsAnswer book taken closing o) ts
answers_free book taken closing o ts e = subst (λ (z : Option Job). AllTolds (IsAnswer book taken closing z) ts) (sym e) (Rattle.kept_promise.proofs.Steps.answers_none book taken closing ts)

session_cleared : (book : Book) (seats : List Seat) (s : server.State) (n : ℕ) (x : Session) (q : Queue) → (h : IsSession book seats s n x q) → job h.seat ≡ None → IsSession book seats s n (cleared x) q
session_cleared book seats s n x q h free = record {
  seat = h.seat;
  owner = h.owner;
  here = h.here;
  shut = h.shut;
  lost = h.lost;
  stands_is = h.stands_is;
  ups_fit = h.ups_fit;
  ups_speak = h.ups_speak;
  downs_fit = h.downs_fit;
  talk = λ u. let t = h.talk u in record { floor = t.floor; under = tt; rising = t.rising; numbered = (t.numbered.0, refl); asked = t.asked; answers = answers_free book [] x.closing (job h.seat) q.downs free; fetch = λ j e. nothing_there j (sym free ∙ e); balanced = t.balanced; busy = t.busy };
  contents = h.contents;
  lengths = h.lengths;
  commits = h.commits;
  pieces = h.pieces;
  temps = h.temps;
  temps_below = h.temps_below;
  closes = h.closes;
  pending = h.pending;
  single = h.single;
  old = h.old;
  orderly = h.orderly;
}

pub kept_cleared : (book : Book) (k : Core) (qs : List Queue) (n : ℕ) (x : Session) (seat : Seat) → IsKept book k qs → numbered k.sessions n ≡ Some x → numbered k.seats x.owner ≡ Some seat → job seat ≡ None → IsKept book (record k { sessions = with_numbered k.sessions n (cleared x) }) qs
kept_cleared book k qs n x seat h at here free = record {
  lbfs = h.lbfs;
  ops = h.ops;
  steps = h.steps;
  journal = h.journal;
  entries = h.entries;
  sound = h.sound;
  raws = h.raws;
  came = came_later k.came (length k.sessions) _ k.steps k.steps around.count (omega arith) h.came;
  server = h.server;
  made = (around.count ∙ h.made.0, h.made.1 ∙ sym around.count);
  sessions = λ m z q f is own. elim (same_or_not m n) [
    | inr apart ↦ h.sessions m z q (sym (around.others m apart) ∙ f) is own
    | inl e ↦
        let same : z ≡ cleared x = some_is z (cleared x) (sym f ∙ ap (numbered after) e ∙ around.there) in
        let old = h.sessions n x q at (sym (ap (numbered qs) e) ∙ is) (has_owner k.seats x seat here) in
        let new = session_cleared book k.seats k.server n x q old (ap job (some_is old.seat seat (sym old.owner ∙ here)) ∙ free) in
        subst (λ (i : ℕ). IsSession book k.seats k.server i z q) (sym e) (subst (λ (v : Session). IsSession book k.seats k.server n v q) (sym same) new)
  ];
  strangers = λ m z q f is raw. elim (same_or_not m n) [
    | inr apart ↦ h.strangers m z q (sym (around.others m apart) ∙ f) is raw
    | inl e ↦ absurd (true_and_false (is_raw z) raw (ap is_raw (some_is z (cleared x) (sym f ∙ ap (numbered after) e ∙ around.there)) ∙ has_owner k.seats x seat here))
  ];
  seats = λ i e f. let s = h.seats i e f in record {
    session = λ m g. let w = s.session m g in let v = moved m w.0 w.1 in (v.0, v.1, v.2 ∙ w.2);
    linked = λ g. let w = s.linked g in let v = moved w.0 w.1 w.3 in (w.0, v.0, w.2, v.1, v.3 ∙ w.4);
    unlinked = s.unlinked;
    speaks = s.speaks;
    matched = s.matched;
    task = s.task;
    trying = s.trying;
    xids = s.xids;
    next = s.next;
    opened = s.opened;
    kept = s.kept;
  };
  running = h.running;
  closings = λ a b p u v f g c d. let one = was a u f in let two = was b v g in h.closings a b p one.0 two.0 one.1 two.1 (one.2 ∙ c) (two.2 ∙ d);
  home = λ i c f. let w = h.home i c f in let v = moved c.session w.0 w.1 in (v.0, v.1, v.4 ∙ w.2);
  shelf = h.shelf;
  unborn = λ o m i e late lt f key. h.unborn o m i e (subst (λ (l : ℕ). l < o) around.count late) lt f key;
}
  where
    after : List Session
    after = with_numbered k.sessions n (cleared x)

    around : Around k.sessions (with_numbered k.sessions n (cleared x)) n (cleared x)
    around = around_with k.sessions n x (cleared x) at

    moved : (m : ℕ) (z : Session) → numbered k.sessions m ≡ Some z → (v : Session) × (numbered (with_numbered k.sessions n (cleared x)) m ≡ Some v) × (v.owner ≡ z.owner) × (v.cut ≡ z.cut) × (v.hung ≡ z.hung)
    moved m z f = elim (same_or_not m n) [
      | inr apart ↦ (z, around.others m apart ∙ f, refl, refl, refl)
      | inl e ↦
          let same : x ≡ z = some_is x z (sym at ∙ ap (numbered k.sessions) (sym e) ∙ f) in
          (cleared x, ap (numbered after) e ∙ around.there, ap (λ (v : Session). v.owner) same, ap (λ (v : Session). v.cut) same, ap (λ (v : Session). v.hung) same)
    ]

    was : (m : ℕ) (z : Session) → numbered (with_numbered k.sessions n (cleared x)) m ≡ Some z → (v : Session) × (numbered k.sessions m ≡ Some v) × (v.closing ≡ z.closing)
    was m z f = elim (same_or_not m n) [
      | inr apart ↦ (z, sym (around.others m apart) ∙ f, refl)
      | inl e ↦ let same : cleared x ≡ z = some_is (cleared x) z (sym around.there ∙ ap (numbered after) (sym e) ∙ f) in (x, ap (numbered k.sessions) e ∙ at, ap (λ (v : Session). v.closing) same)
    ]

-- ---- what a client answers by itself

abbrev pub IsOwn : Word → Outcome → Type 0
IsOwn w outcome.Done = is_remote w ≡ false
IsOwn w outcome.Busy = Unit {0}
IsOwn w outcome.NotOpen = Unit {0}
IsOwn w outcome.AlreadyOpen = Unit {0}
IsOwn w outcome.NoLink = Unit {0}
IsOwn w (outcome.TooBig n) = Unit {0}
IsOwn w (outcome.Piece len sha1) = Unit {0}
IsOwn w o = ⊥

own_right : (more : Book) (step c : ℕ) (w : Word) (file : ℕ) (value : List ℕ) (s : client.State) (o : Outcome) → IsOwn w o → more.steps ≡ step → IsRight more (op_after (begun c w file value step) s [] step (ends o 0 0))
own_right more step c w file value s o own now = record {
  cause = cause o own;
  begun = omega (arith, now);
  pointed = λ p e. nothing_there p (sym (none w o own) ∙ e);
  past = λ e q. let is = some_is step e q in (omega (arith, is), omega (arith, is, now));
  ends = ends_by o own;
  within = λ l p e f. nothing_there p (sym (none w o own) ∙ f);
  failed = λ a b d. none w o own;
}
  where
    none : (w : Word) (o : Outcome) → IsOwn w o → point_if (has_point w o) [] 0 step None ≡ None
    none words.Open outcome.Done i = refl
    none words.Open outcome.Busy i = refl
    none words.Open outcome.NotOpen i = refl
    none words.Open outcome.AlreadyOpen i = refl
    none words.Open outcome.NoLink i = refl
    none words.Open (outcome.TooBig n) i = refl
    none words.Open (outcome.Piece l d) i = refl
    none words.Open o i = absurd i
    none w o i = refl

    done_by : (z : Word) → is_remote z ≡ false → DoneBy more (op_after (begun c w file value step) s [] step (ends outcome.Done 0 0)) z
    done_by words.Make i = absurd cc
    done_by words.Remove i = absurd cc
    done_by words.Rename i = absurd cc
    done_by words.Rewrite i = absurd cc
    done_by _ i = tt

    cause : (o : Outcome) → IsOwn w o → Caused more (op_after (begun c w file value step) s [] step (ends o 0 0)) (told_of o)
    cause outcome.Done i = done_by w i
    cause outcome.Busy i = tt
    cause outcome.NotOpen i = tt
    cause outcome.AlreadyOpen i = tt
    cause outcome.NoLink i = tt
    cause (outcome.TooBig n) i = tt
    cause (outcome.Piece l d) i = tt
    cause o i = absurd i

    ends_by : (o : Outcome) → IsOwn w o → true ≡ not (is_running (told_of o))
    ends_by outcome.Done i = refl
    ends_by outcome.Busy i = refl
    ends_by outcome.NotOpen i = refl
    ends_by outcome.AlreadyOpen i = refl
    ends_by outcome.NoLink i = refl
    ends_by (outcome.TooBig n) i = refl
    ends_by (outcome.Piece l d) i = refl
    ends_by o i = absurd i

-- ---- nothing is sent

pub ups_none : (sessions : List Session) (qs : List Queue) (session : Option ℕ) → ups_put sessions qs session [] ≡ qs
ups_none sessions qs None = refl
ups_none sessions qs (Some n) = by (numbered sessions n) (numbered qs n) refl
  where
    by : (x : Option Session) (q : Option Queue) → numbered qs n ≡ q → ups_put_in qs n [] x q ≡ qs
    by (Some x) (Some q) e = ap (λ (us : List Ask). with_numbered qs n (record { ups = us; downs = q.downs })) (ups_same x.hung q.ups) ∙ with_same qs n q e
    by _ _ e = refl

closing_same : (closing : Option ℕ) (place : ℕ) (w : Word) (e : Ended) → closing_with closing place w (Some e) ≡ closing
closing_same closing place words.Close e = refl
closing_same closing place w e = refl

-- ---- what an own answer leaves

abbrev pub own_ended : Outcome → Ended
own_ended o = record { outcome = o; rests_on = 0 }

abbrev pub own_op : Core → (c : ℕ) → Word → (file : ℕ) → (value : List ℕ) → client.State → Outcome → Op
own_op k c w file value s o = op_after (begun c w file value (k.steps + 1)) s [] (k.steps + 1) (ends o 0 0)

abbrev pub after_own : Core → (c : ℕ) → Seat → (place session : Option ℕ) → Option Session → Word → (file : ℕ) → (value : List ℕ) → client.State → Outcome → CoreStep
after_own k c seat place session found w file value s o = record {
  core = record k {
    server = k.server;
    seats = with_numbered k.seats c (record { client = s; session = seat.session; place = place_with place (length k.ops) (Some (own_ended o)) });
    sessions = commanded_sessions k.sessions session found place (length k.ops) w (ends o 0 0);
    steps = k.steps + 1;
    ops = k.ops ++ own_op k c w file value s o ∷ [];
    entries = k.entries;
  };
  loss = Nothing;
  session = session;
  up = [];
  down = [];
}

not_running : (w : Word) (o : Outcome) → IsOwn w o → told_of o ≡ told.Running → ⊥
not_running w outcome.Done i e = absurd cc
not_running w outcome.Busy i e = absurd cc
not_running w outcome.NotOpen i e = absurd cc
not_running w outcome.AlreadyOpen i e = absurd cc
not_running w outcome.NoLink i e = absurd cc
not_running w (outcome.TooBig n) i e = absurd cc
not_running w (outcome.Piece l d) i e = absurd cc
not_running w o i e = absurd i

own_pointless : (k : Core) (c : ℕ) (w : Word) (file : ℕ) (value : List ℕ) (s : client.State) (o : Outcome) → IsOwn w o → (own_op k c w file value s o).point ≡ None
own_pointless k c w file value s o own = by (own_op k c w file value s o).point refl
  where
    r : IsRight (record { lbfs = 0; opening = []; ops = []; raws = []; steps = k.steps + 1; journal = []; entries = []; moments = [] }) (own_op k c w file value s o)
    r = own_right (record { lbfs = 0; opening = []; ops = []; raws = []; steps = k.steps + 1; journal = []; entries = []; moments = [] }) (k.steps + 1) c w file value s o own refl

    by : (p : Option ℕ) → (own_op k c w file value s o).point ≡ p → p ≡ None
    by None e = refl
    by (Some p) e = none_of w o own e
      where
        none_of : (w : Word) (o : Outcome) → IsOwn w o → point_if (has_point w o) [] 0 (k.steps + 1) None ≡ Some p → Some p ≡ None
        none_of words.Open outcome.Done i e = nothing_there p e
        none_of words.Open outcome.Busy i e = nothing_there p e
        none_of words.Open outcome.NotOpen i e = nothing_there p e
        none_of words.Open outcome.AlreadyOpen i e = nothing_there p e
        none_of words.Open outcome.NoLink i e = nothing_there p e
        none_of words.Open (outcome.TooBig n) i e = nothing_there p e
        none_of words.Open (outcome.Piece l d) i e = nothing_there p e
        none_of words.Open o i e = absurd i
        none_of w o i e = nothing_there p e

-- an operation that ends in its first step, and makes no change
pub record EndsFirst (book : Book) (new : Op) : Type 0 where
  pub none : MakesNone book new
  pub right : IsRight (onward book 1 (book.ops ++ new ∷ [])) new
  pub over : new.outcome ≡ told.Running → ⊥

own_first : (book : Book) (k : Core) (qs : List Queue) (c : ℕ) (w : Word) (file : ℕ) (value : List ℕ) (s : client.State) (o : Outcome) → IsOwn w o → IsKept book k qs → EndsFirst book (own_op k c w file value s o)
own_first book k qs c w file value s o own kept =
    let new = own_op k c w file value s o in
    let more = onward book 1 (book.ops ++ new ∷ []) in
    record {
      none = makes_none book new (own_pointless k c w file value s o own);
      right = own_right more (k.steps + 1) c w file value s o own (ap (λ z. z + 1) kept.steps);
      over = not_running w o own;
    }

-- the operation is appended, and nothing else changes
first_appended : (book : Book) (k : Core) (qs : List Queue) (new : Op) → EndsFirst book new → IsKept book k qs → (let more = onward book 1 (book.ops ++ new ∷ []) in IsKept more (turned_core k more k.server k.seats k.sessions) qs)
first_appended book k qs new first kept =
    let more = onward book 1 (book.ops ++ new ∷ []) in
    let goes = goes_added book new first.none first.right kept.sound in
    kept_rest book more k qs k.server goes (server_still book more None None k.server k.server.leasing k.server.temps k.server.index kept.server.leases goes.grows (still_added book new first.none kept.sound) kept.server) refl (λ m. same_view m k.server) kept.home
    (λ p q at run. elim (of_appended book.ops new p q at) [
      | inl last ↦ absurd (first.over (ap (λ (z : Op). z.outcome) (sym last.1) ∙ run))
      | inr was ↦ kept.running p q was run
    ]) kept.journal kept.shelf kept

-- with nothing under way
pub leads_first : (book : Book) (k : Core) (qs : List Queue) (c : ℕ) (seat : Seat) (session : Option ℕ) (found : Option Session) (w : Word) (file : ℕ) (value : List ℕ) (opened : List (ℕ × Local)) (o : Outcome) → EndsFirst book (own_op k c w file value (record seat.client { opened = opened }) o) → IsKept book k qs → numbered k.seats c ≡ Some seat → seat.place ≡ None → job seat ≡ None
    → ((f : ℕ) (l : Local) → client.local_at opened f ≡ Some l → WasThere book f × (length l.bytes ≤ 67108864))
    → session_of k.sessions session ≡ found → ((n : ℕ) (x : Session) → session ≡ Some n → found ≡ Some x → x.owner ≡ c)
    → Leads book qs (after_own k c seat None session found w file value (record seat.client { opened = opened }) o)
leads_first book k qs c seat session found w file value opened o first kept here idle free fits is owners =
    let s : client.State = record seat.client { opened = opened } in
    let new = own_op k c w file value s o in
    let more = onward book 1 (book.ops ++ new ∷ []) in
    let seats = with_numbered k.seats c (with_opened seat opened) in
    let one = first_appended book k qs new first kept in
    let two = kept_opened more (turned_core k more k.server k.seats k.sessions) qs seats c seat opened free here (around_with k.seats c seat (with_opened seat opened) here) (λ f l e. let there = fits f l e in (there_later book more None None f (grows_added book new first.none) there.0, there.1)) one in
    let sat : with_numbered k.seats c (record { client = s; session = seat.session; place = None }) ≡ seats = ap (λ (p : Option ℕ). with_numbered k.seats c (record { client = s; session = seat.session; place = p })) (sym idle) in
    let three = by session found is owners more seats two in
    let core = cut_core book more k k.server seats (commanded_sessions k.sessions session found None (length k.ops) w (ends o 0 0)) (k.ops ++ new ∷ []) (ap (λ z. z + 1) kept.steps) (ap (λ (l : List Op). l ++ new ∷ []) kept.ops) kept.entries in
    let four = subst (λ (z : Core). IsKept more z qs) core three in
    let five = subst (λ (z : List Seat). IsKept more (record k { server = k.server; seats = z; sessions = commanded_sessions k.sessions session found None (length k.ops) w (ends o 0 0); steps = k.steps + 1; ops = k.ops ++ new ∷ []; entries = k.entries }) qs) (sym sat) four in
    record {
      sends = record { replies = []; replies_fit = tt; asks = []; up_is = refl; strays = []; strays_cut = tt; recalls = []; recalls_fit = tt; tolds = []; down_is = refl };
      more = more;
      moments = refl;
      opening = refl;
      kept = subst (λ (z : List Queue). IsKept more (after_own k c seat None session found w file value s o).core z) (sym (ups_none (commanded_sessions k.sessions session found None (length k.ops) w (ends o 0 0)) qs session)) five;
    }
  where
    by : (session : Option ℕ) (found : Option Session) → session_of k.sessions session ≡ found → ((n : ℕ) (x : Session) → session ≡ Some n → found ≡ Some x → x.owner ≡ c) → (more : Book) (seats : List Seat) → IsKept more (turned_core k more k.server (with_numbered k.seats c (with_opened seat opened)) k.sessions) qs → IsKept more (turned_core k more k.server (with_numbered k.seats c (with_opened seat opened)) (commanded_sessions k.sessions session found None (length k.ops) w (ends o 0 0))) qs
    by None found is owners more seats h = h
    by (Some n) None is owners more seats h = h
    by (Some n) (Some x) is owners more seats h =
        let around = around_with k.seats c seat (with_opened seat opened) here in
        let own = ap (numbered (with_numbered k.seats c (with_opened seat opened))) (owners n x refl refl) ∙ around.there in
        let done = kept_cleared more (turned_core k more k.server (with_numbered k.seats c (with_opened seat opened)) k.sessions) qs n x (with_opened seat opened) h is own free in
        subst (λ (p : Option ℕ). IsKept more (turned_core k more k.server (with_numbered k.seats c (with_opened seat opened)) (with_numbered k.sessions n (record x { taken = []; closing = p }))) qs) (sym (closing_same x.closing (length k.ops) w (own_ended o))) done

pub leads_free : (book : Book) (k : Core) (qs : List Queue) (c : ℕ) (seat : Seat) (session : Option ℕ) (found : Option Session) (w : Word) (file : ℕ) (value : List ℕ) (opened : List (ℕ × Local)) (o : Outcome) → IsOwn w o → IsKept book k qs → numbered k.seats c ≡ Some seat → seat.place ≡ None → job seat ≡ None
    → ((f : ℕ) (l : Local) → client.local_at opened f ≡ Some l → WasThere book f × (length l.bytes ≤ 67108864))
    → session_of k.sessions session ≡ found → ((n : ℕ) (x : Session) → session ≡ Some n → found ≡ Some x → x.owner ≡ c)
    → Leads book qs (after_own k c seat None session found w file value (record seat.client { opened = opened }) o)
leads_free book k qs c seat session found w file value opened o own kept here idle free fits is owners = leads_first book k qs c seat session found w file value opened o (own_first book k qs c w file value (record seat.client { opened = opened }) o own kept) kept here idle free fits is owners

-- with an operation under way it is busy
pub leads_busy : (book : Book) (k : Core) (qs : List Queue) (c p : ℕ) (seat : Seat) (session : Option ℕ) (found : Option Session) (w : Word) (file : ℕ) (value : List ℕ) → IsKept book k qs → numbered k.seats c ≡ Some seat → seat.place ≡ Some p → session_of k.sessions session ≡ found
    → Leads book qs (after_own k c seat (Some p) session found w file value seat.client outcome.Busy)
leads_busy book k qs c p seat session found w file value kept here busy is =
    let new = own_op k c w file value seat.client outcome.Busy in
    let more = onward book 1 (book.ops ++ new ∷ []) in
    let one = first_appended book k qs new (own_first book k qs c w file value seat.client outcome.Busy tt kept) kept in
    let sat : with_numbered k.seats c (record { client = seat.client; session = seat.session; place = Some p }) ≡ k.seats = ap (λ (q : Option ℕ). with_numbered k.seats c (record { client = seat.client; session = seat.session; place = q })) (sym busy) ∙ with_same k.seats c seat here in
    let stays = by session found is in
    let core = cut_core book more k k.server k.seats k.sessions (k.ops ++ new ∷ []) (ap (λ z. z + 1) kept.steps) (ap (λ (l : List Op). l ++ new ∷ []) kept.ops) kept.entries in
    let two = subst (λ (z : Core). IsKept more z qs) core one in
    let three = subst (λ (z : List Seat). IsKept more (record k { server = k.server; seats = z; sessions = k.sessions; steps = k.steps + 1; ops = k.ops ++ new ∷ []; entries = k.entries }) qs) (sym sat) two in
    let four = subst (λ (z : List Session). IsKept more (record k { server = k.server; seats = with_numbered k.seats c (record { client = seat.client; session = seat.session; place = Some p }); sessions = z; steps = k.steps + 1; ops = k.ops ++ new ∷ []; entries = k.entries }) qs) (sym stays) three in
    record {
      sends = record { replies = []; replies_fit = tt; asks = []; up_is = refl; strays = []; strays_cut = tt; recalls = []; recalls_fit = tt; tolds = []; down_is = refl };
      more = more;
      moments = refl;
      opening = refl;
      kept = subst (λ (z : List Queue). IsKept more (after_own k c seat (Some p) session found w file value seat.client outcome.Busy).core z) (sym (ups_none (commanded_sessions k.sessions session found (Some p) (length k.ops) w (ends outcome.Busy 0 0)) qs session)) four;
    }
  where
    by : (session : Option ℕ) (found : Option Session) → session_of k.sessions session ≡ found → commanded_sessions k.sessions session found (Some p) (length k.ops) w (ends outcome.Busy 0 0) ≡ k.sessions
    by (Some n) (Some x) is = ap (λ (q : Option ℕ). with_numbered k.sessions n (record x { closing = q })) (closing_same x.closing (length k.ops) w (own_ended outcome.Busy)) ∙ with_same k.sessions n x is
    by _ _ is = refl

-- Steps in which no session turns: none changes, or a client's open files alone do.
use Rattle.std.proofs.Common.{inl, inr, ◌≡◌, ℕ, ◌<◌, ◌≤◌, List, length, Option, Some, None, true, false, refl, sym, ap, ◌∙◌, subst, arith}
use Rattle.server_core.specs.State as server
use Rattle.client_state.specs.State as client
use Rattle.register_model.specs.declared.op.Outcome.TheVariants as told
use Rattle.kept_promise.proofs.Common.{slice_get, Temp, key_of, FileChange, Local, Op, Core, Seat, Session, numbered, Book, Queue}
use Rattle.kept_promise.proofs.Lists.{some_is, nothing_there, same_or_not}
use Rattle.kept_promise.proofs.Messages.{Job, job, AllAsks, IsCommit, TempUnder, WaitsFor}
use Rattle.kept_promise.proofs.History.{Goes}
use Rattle.kept_promise.proofs.Later.{SameView, Stays, session_later, seat_later, raw_later}
use Rattle.kept_promise.proofs.Turns.{Around, turned_core, came_later}
use Rattle.kept_promise.proofs.Shelf.{IsShelf}
use Rattle.kept_promise.proofs.Ordered.{orderly_free, none_free}
use Rattle.kept_promise.proofs.Facts.{IsTalk, IsSession, IsSeat, IsServer, IsKept}
use Rattle.kept_promise.proofs.Rights.{WasThere}

stays_same : (sessions : List Session) (i : ℕ) → Stays sessions sessions i
stays_same sessions i n x at = (x, at, refl, λ e. refl)

spares_none : (closing : Option ℕ) (p : ℕ) → closing ≡ Some p → None ≡ Some p → ⊥
spares_none closing p e f = nothing_there p f

-- no client changes either
pub kept_rest : (book more : Book) (k : Core) (qs : List Queue) (r : server.State) → Goes book more None None → IsServer more r → r.sessions_made ≡ k.server.sessions_made → ((m : ℕ) → SameView m k.server r)
    → ((i : ℕ) (g : FileChange) → slice_get r.waiting i ≡ Some g → (z : Session) × (numbered k.sessions g.session ≡ Some z) × (z.hung ≡ false))
    → ((p : ℕ) (o : Op) → slice_get more.ops p ≡ Some o → o.outcome ≡ told.Running → (e : Seat) × (j : Job) × (numbered k.seats o.client ≡ Some e) × (job e ≡ Some j) × (j.place ≡ p))
    → more.journal ≡ r.journal → IsShelf r.temps → IsKept book k qs → IsKept more (turned_core k more r k.seats k.sessions) qs
kept_rest book more k qs r goes server made view home running journal shelf h = record {
  lbfs = goes.grows.lbfs ∙ h.lbfs;
  ops = refl;
  steps = refl;
  journal = journal;
  entries = refl;
  sound = goes.sound;
  raws = goes.raws ∙ h.raws;
  came = let n = goes.grows.passes in let s = h.steps in came_later k.came (length k.sessions) (length k.sessions) k.steps more.steps refl (omega (arith, n, s)) h.came;
  server = server;
  made = (h.made.0 ∙ sym made, h.made.1);
  sessions = λ n x q at is own. let old = h.sessions n x q at is own in session_later book more None None k.seats k.seats k.server r n x q old.seat old.seat goes.grows old.owner old.owner (λ e. refl) (spares_none x.closing) (view n) old;
  strangers = λ n x q at is raw. raw_later k.server r n x q (view n) (h.strangers n x q at is raw);
  seats = λ i e at. seat_later book more None None k.sessions k.sessions i e goes.grows (stays_same k.sessions i) (λ p o f there mine. nothing_there p f) (h.seats i e at);
  running = running;
  closings = h.closings;
  home = home;
  shelf = shelf;
  unborn = λ o m i e late lt at key. let w = (view o).temps i m e lt at key in h.unborn o m w.0 e late lt w.1 key;
}

-- a client with these files open
abbrev pub with_opened : Seat → List (ℕ × Local) → Seat
with_opened c o = record c { client = record c.client { opened = o } }

session_opened : (book : Book) (seats others : List Seat) (s : server.State) (n : ℕ) (x : Session) (q : Queue) (c : Seat) (o : List (ℕ × Local)) → job c ≡ None → numbered seats x.owner ≡ Some c → numbered others x.owner ≡ Some (with_opened c o) → IsSession book seats s n x q → IsSession book others s n x q
session_opened book seats others s n x q c o free was is h =
    let e : h.seat ≡ c = some_is h.seat c (sym h.owner ∙ was) in
    let jobs : job h.seat ≡ job c = ap job e in
    record {
      seat = with_opened c o;
      owner = is;
      here = λ at. subst (λ (z : Seat). (z.session ≡ Some n) × (z.client.linked ≡ true)) e (h.here at);
      shut = h.shut;
      lost = h.lost;
      stands_is = h.stands_is;
      ups_fit = h.ups_fit;
      ups_speak = h.ups_speak;
      downs_fit = h.downs_fit;
      talk = λ at. let t = subst (IsTalk book n s.waiting x q) e (h.talk at) in record { floor = t.floor; under = t.under; rising = t.rising; numbered = t.numbered; asked = t.asked; answers = t.answers; fetch = t.fetch; balanced = t.balanced; busy = t.busy };
      contents = h.contents;
      lengths = h.lengths;
      commits = subst (λ (z : Option Job). AllAsks (IsCommit book x.closing x.cut z h.contents) q.ups) jobs h.commits;
      pieces = h.pieces;
      temps = h.temps;
      temps_below = λ at. let f = h.temps_below at in subst (λ (z : Seat). AllAsks (λ a. TempUnder z.client.next_temp a.call) q.ups × ((i m : ℕ) (u : ℕ × Temp) → m < 4294967296 → slice_get s.temps i ≡ Some u → u.0 ≡ key_of n m → m < z.client.next_temp)) e f;
      closes = λ at j f. nothing_there j (sym free ∙ f);
      pending = λ i g at. subst (λ (z : Option Job). WaitsFor book g.session x.closing x.cut z g.xid g.file g.what) jobs (h.pending i g at);
      single = h.single;
      old = h.old;
      orderly = λ at. orderly_free book n s.temps x.hung q h.seat (with_opened c o) (none_free (job h.seat) (jobs ∙ free)) (none_free (job c) free) (h.orderly at);
    }

-- a client that has nothing under way has other files open
pub kept_opened : (book : Book) (k : Core) (qs : List Queue) (seats : List Seat) (i : ℕ) (c : Seat) (o : List (ℕ × Local)) → job c ≡ None → numbered k.seats i ≡ Some c → Around k.seats seats i (with_opened c o)
    → ((f : ℕ) (l : Local) → client.local_at o f ≡ Some l → WasThere book f × (length l.bytes ≤ 67108864))
    → IsKept book k qs → IsKept book (record k { seats = seats }) qs
kept_opened book k qs seats i c o free was around opened h = record {
  lbfs = h.lbfs;
  ops = h.ops;
  steps = h.steps;
  journal = h.journal;
  entries = h.entries;
  sound = h.sound;
  raws = h.raws;
  came = h.came;
  server = h.server;
  made = h.made;
  strangers = h.strangers;
  sessions = λ n x q at is own. let old = h.sessions n x q at is own in elim (same_or_not x.owner i) [
    | inl mine ↦ session_opened book k.seats seats k.server n x q c o free (ap (numbered k.seats) mine ∙ was) (ap (numbered seats) mine ∙ around.there) old
    | inr away ↦ session_else n x q old (around.others x.owner away ∙ old.owner)
  ];
  seats = λ j e at. elim (same_or_not j i) [
    | inl mine ↦ subst (IsSeat book k.sessions j) (sym (some_is e (with_opened c o) (sym at ∙ ap (numbered seats) mine ∙ around.there))) (subst (λ (z : ℕ). IsSeat book k.sessions z (with_opened c o)) (sym mine) own_seat)
    | inr away ↦ h.seats j e (sym (around.others j away) ∙ at)
  ];
  running = λ p op at run. let r = h.running p op at run in elim (same_or_not op.client i) [
    | inr away ↦ (r.0, r.1, around.others op.client away ∙ r.2, r.3, r.4)
    | inl mine ↦ absurd (busy r.0 r.1 (some_is r.0 c (sym r.2 ∙ ap (numbered k.seats) mine ∙ was)) r.3)
  ];
  closings = h.closings;
  home = h.home;
  shelf = h.shelf;
  unborn = h.unborn;
}
  where
    busy : (e : Seat) (j : Job) → e ≡ c → job e ≡ Some j → ⊥
    busy e j same is = nothing_there j (sym free ∙ ap job (sym same) ∙ is)

    session_else : (n : ℕ) (x : Session) (q : Queue) → (old : IsSession book k.seats k.server n x q) → numbered seats x.owner ≡ Some old.seat → IsSession book seats k.server n x q
    session_else n x q old is = record { seat = old.seat; owner = is; here = old.here; shut = old.shut; lost = old.lost; stands_is = old.stands_is; ups_fit = old.ups_fit; ups_speak = old.ups_speak; downs_fit = old.downs_fit; talk = old.talk; contents = old.contents; lengths = old.lengths; commits = old.commits; pieces = old.pieces; temps = old.temps; temps_below = old.temps_below; closes = old.closes; pending = old.pending; single = old.single; old = old.old; orderly = old.orderly }

    own_seat : IsSeat book k.sessions i (with_opened c o)
    own_seat = let s = h.seats i c was in record { session = s.session; linked = s.linked; unlinked = s.unlinked; speaks = s.speaks; matched = s.matched; task = s.task; trying = s.trying; xids = s.xids; next = s.next; opened = opened; kept = s.kept }

-- Clients whose clock, cache or index is another: of whatever else the facts speak, they are as they were.
use Rattle.std.proofs.Common.{inl, inr, ◌≡◌, ℕ, zero, suc, List, [], ◌∷◌, Bool, Option, Some, None, refl, sym, ap, ◌∙◌, subst}
use Rattle.chunk_index.specs.Index.{Indexed}
use Rattle.server_core.specs.State as server
use Rattle.server_core.specs.Step.{with_index}
use Rattle.client_state.specs.State as client
use Rattle.client_state.specs.declared.step.Outcome.TheVariants as outcome
use Rattle.trace_ends.specs.Ops.{file_with}
use Rattle.kept_promise.proofs.Common.{slice_get, slice_set, ClientStep, Ended, Outcome, Local, Op, TakenCall, counted, value_of, ended_op, op_ended, op_after, ops_after, ops_with, Entries, Core, Seat, Session, numbered, with_numbered, Book, Queue}
use Rattle.kept_promise.proofs.Lists.{some_is, same_or_not}
use Rattle.kept_promise.proofs.Orderly.{Orderly}
use Rattle.kept_promise.proofs.Facts.{Cached, IsTalk, IsSession, IsSeat, IsServer, IsKept}
use Rattle.kept_promise.proofs.Turns.{Around, around_with}

-- ---- what is put at a number twice

set_twice : {A : Type 0} (xs : List A) (i : ℕ) (a b : A) → slice_set (slice_set xs i a) i b ≡ slice_set xs i b
set_twice [] i a b = refl
set_twice (x ∷ xs) zero a b = refl
set_twice (x ∷ xs) (suc i) a b = ap (λ l. x ∷ l) (set_twice xs i a b)

pub with_twice : {A : Type 0} (xs : List A) (n : ℕ) (a b : A) → with_numbered (with_numbered xs n a) n b ≡ with_numbered xs n b
with_twice xs zero a b = refl
with_twice xs (suc i) a b = set_twice xs i a b

-- ---- what becomes of operations

value_alike : (value : List ℕ) (c d : client.State) → c.opened ≡ d.opened → (o : Outcome) → value_of value c o ≡ value_of value d o
value_alike value c d same (outcome.Opened file len digest) = ap (λ (o : List (ℕ × Local)). client.local_bytes o file) same
value_alike value c d same o = refl

op_alike : (o : Op) (c d : client.State) → c.opened ≡ d.opened → (taken : List TakenCall) (step : ℕ) (acts : ClientStep) → op_after o c taken step acts ≡ op_after o d taken step acts
op_alike o c d same taken step acts = by acts.ended
  where
    now : Op
    now = record o { file = file_with o.file acts.found; traffic = counted o.traffic acts.counts }

    by : (e : Option Ended) → op_ended now c taken step e ≡ op_ended now d taken step e
    by None = refl
    by (Some e) = ap (λ (v : List ℕ). record (ended_op now d taken step e) { value = v }) (value_alike o.value c d same e.outcome)

-- they are the same where what is open is
pub ops_alike : (ops : List Op) (place : Option ℕ) (c d : client.State) → c.opened ≡ d.opened → (taken : List TakenCall) (step : ℕ) (acts : ClientStep) → ops_with ops place c taken step acts ≡ ops_with ops place d taken step acts
ops_alike ops None c d same taken step acts = refl
ops_alike ops (Some p) c d same taken step acts = by (slice_get ops p)
  where
    by : (o : Option Op) → ops_after ops p o c taken step acts ≡ ops_after ops p o d taken step acts
    by None = refl
    by (Some o) = ap (slice_set ops p) (op_alike o c d same taken step acts)

-- ---- a client

-- what no fact but `Cached` speaks of
pub record Parts : Type 0 where
  pub clock : ℕ
  pub sent : ℕ
  pub cache : Entries
  pub index : Indexed

abbrev pub parts_of : Seat → Parts
parts_of c = record { clock = c.client.clock; sent = c.client.sent; cache = c.client.cache; index = c.client.index }

abbrev pub with_parts : Seat → Parts → Seat
with_parts c p = record c { client = record c.client { clock = p.clock; sent = p.sent; cache = p.cache; index = p.index } }

-- each client is as it was, but for these
pub record Kin (seats after : List Seat) : Type 0 where
  pub was : (i : ℕ) (e : Seat) → numbered after i ≡ Some e → (c : Seat) × (p : Parts) × (numbered seats i ≡ Some c) × (e ≡ with_parts c p)
  pub is : (i : ℕ) (c : Seat) → numbered seats i ≡ Some c → (p : Parts) × (numbered after i ≡ Some (with_parts c p))

pub one_kin : (seats : List Seat) (i : ℕ) (c : Seat) (p : Parts) → numbered seats i ≡ Some c → Kin seats (with_numbered seats i (with_parts c p))
one_kin seats i c p here = record {
  was = λ j e at. elim (same_or_not j i) [
    | inl mine ↦ (c, p, ap (numbered seats) mine ∙ here, some_is e (with_parts c p) (sym at ∙ ap (numbered after) mine ∙ around.there))
    | inr away ↦ (e, parts_of e, sym (around.others j away) ∙ at, refl)
  ];
  is = λ j d at. elim (same_or_not j i) [
    | inl mine ↦ let same : c ≡ d = some_is c d (sym here ∙ ap (numbered seats) (sym mine) ∙ at) in (p, ap (numbered after) mine ∙ around.there ∙ ap (λ (z : Seat). Some (with_parts z p)) same)
    | inr away ↦ (parts_of d, around.others j away ∙ at)
  ];
}
  where
    after : List Seat
    after = with_numbered seats i (with_parts c p)

    around : Around seats (with_numbered seats i (with_parts c p)) i (with_parts c p)
    around = around_with seats i c (with_parts c p) here

-- ---- what is kept

talk_kin : (book : Book) (n : ℕ) (s : server.State) (index : Indexed) (x : Session) (q : Queue) (c : Seat) (p : Parts) → IsTalk book n s.waiting x q c → IsTalk book n (with_index s index).waiting x q (with_parts c p)
talk_kin book n s index x q c p t = record { floor = t.floor; under = t.under; rising = t.rising; numbered = t.numbered; asked = t.asked; answers = t.answers; fetch = t.fetch; balanced = t.balanced; busy = t.busy }

orderly_kin : (book : Book) (n : ℕ) (s : server.State) (index : Indexed) (hung : Bool) (q : Queue) (c : Seat) (p : Parts) → Orderly book n s.temps hung q c → Orderly book n (with_index s index).temps hung q (with_parts c p)
orderly_kin book n s index hung q c p o = record { asks = o.asks; tolds = o.tolds; holds = o.holds; tree = o.tree }

session_kin : (book : Book) (seats after : List Seat) (s : server.State) (index : Indexed) (n : ℕ) (x : Session) (q : Queue) → Kin seats after → IsSession book seats s n x q → IsSession book after (with_index s index) n x q
session_kin book seats after s index n x q kin h =
    let e = kin.is x.owner h.seat h.owner in
    record {
      seat = with_parts h.seat e.0;
      owner = e.1;
      here = h.here;
      shut = h.shut;
      lost = h.lost;
      stands_is = h.stands_is;
      ups_fit = h.ups_fit;
      ups_speak = h.ups_speak;
      downs_fit = h.downs_fit;
      talk = λ uncut. talk_kin book n s index x q h.seat e.0 (h.talk uncut);
      contents = h.contents;
      lengths = h.lengths;
      commits = h.commits;
      pieces = h.pieces;
      temps = h.temps;
      temps_below = h.temps_below;
      closes = h.closes;
      pending = h.pending;
      single = h.single;
      old = h.old;
      orderly = λ uncut. orderly_kin book n s index x.hung q h.seat e.0 (h.orderly uncut);
    }

seat_kin : (book : Book) (sessions : List Session) (i : ℕ) (c : Seat) (p : Parts) → Cached book p.cache → IsSeat book sessions i c → IsSeat book sessions i (with_parts c p)
seat_kin book sessions i c p cached h = record { session = h.session; linked = h.linked; unlinked = h.unlinked; speaks = h.speaks; matched = h.matched; task = h.task; trying = h.trying; xids = h.xids; next = h.next; opened = h.opened; kept = cached }

server_kin : (book : Book) (s : server.State) (index : Indexed) → IsServer book s → IsServer book (with_index s index)
server_kin book s index h = record { held = h.held; fresh = h.fresh; bounded = h.bounded; zero = h.zero; rooted = h.rooted; wants = h.wants; changes = h.changes; bytes = h.bytes; lengths = h.lengths; targets = h.targets; xids = h.xids; leases = h.leases; serves = h.serves }

-- the two ends, with such clients and another index of the server
abbrev pub kin_core : Core → Indexed → List Seat → Core
kin_core k index seats = record k { server = with_index k.server index; seats = seats }

-- where each content that is kept is still what its file had in its version
pub kept_kin : (book : Book) (k : Core) (qs : List Queue) (index : Indexed) (seats : List Seat) → Kin k.seats seats → ((i : ℕ) (e : Seat) → numbered seats i ≡ Some e → Cached book e.client.cache) → IsKept book k qs → IsKept book (kin_core k index seats) qs
kept_kin book k qs index seats kin cached h = record {
  lbfs = h.lbfs;
  ops = h.ops;
  steps = h.steps;
  journal = h.journal;
  entries = h.entries;
  sound = h.sound;
  raws = h.raws;
  came = h.came;
  server = server_kin book k.server index h.server;
  made = h.made;
  sessions = λ n x q at is own. session_kin book k.seats seats k.server index n x q kin (h.sessions n x q at is own);
  strangers = λ n x q at is raw. let o = h.strangers n x q at is raw in record { shut = o.shut; closing = o.closing; ups = o.ups; downs = o.downs; stands_is = o.stands_is; temps = o.temps; single = o.single };
  seats = λ i e at. let w = kin.was i e at in subst (IsSeat book k.sessions i) (sym w.3) (seat_kin book k.sessions i w.0 w.1 (subst (λ (z : Seat). Cached book z.client.cache) w.3 (cached i e at)) (h.seats i w.0 w.2));
  running = λ p o at run. let r = h.running p o at run in let e = kin.is o.client r.0 r.2 in (with_parts r.0 e.0, r.1, e.1, r.3, r.4);
  closings = h.closings;
  home = h.home;
  shelf = h.shelf;
  unborn = h.unborn;
}

-- one client, and the server as it was
pub kept_one : (book : Book) (k : Core) (qs : List Queue) (i : ℕ) (c : Seat) (p : Parts) → numbered k.seats i ≡ Some c → Cached book p.cache → IsKept book k qs → IsKept book (record k { seats = with_numbered k.seats i (with_parts c p) }) qs
kept_one book k qs i c p here cached h = kept_kin book k qs k.server.index (with_numbered k.seats i (with_parts c p)) (one_kin k.seats i c p here) each h
  where
    around : Around k.seats (with_numbered k.seats i (with_parts c p)) i (with_parts c p)
    around = around_with k.seats i c (with_parts c p) here

    each : (j : ℕ) (e : Seat) → numbered (with_numbered k.seats i (with_parts c p)) j ≡ Some e → Cached book e.client.cache
    each j e at = elim (same_or_not j i) [
      | inl mine ↦ subst (λ (z : Seat). Cached book z.client.cache) (some_is (with_parts c p) e (sym around.there ∙ ap (numbered (with_numbered k.seats i (with_parts c p))) (sym mine) ∙ at)) cached
      | inr away ↦ (h.seats j e (sym (around.others j away) ∙ at)).kept
    ]

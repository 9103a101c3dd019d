-- The server sees a connection lost: what is on its way up goes, the session's temporary files, and its change that waits.
use Rattle.std.proofs.Common.{inl, inr, ◌≡◌, ℕ, zero, suc, ◌+◌, ◌≤◌, List, [], ◌∷◌, ◌++◌, length, Option, Some, None, Bool, true, false, refl, sym, ap, ◌∙◌, subst, arith, eq-eqb, eqb-true, map, ◌⊎◌}
use Rattle.server_core.specs.State as server
use Rattle.chunk_calls.specs.Files as the_files
use Rattle.server_core.specs.Step.{hangs, hangs_if}
use Rattle.server_core.specs.declared.event.Event.TheVariants as event
use Rattle.client_state.specs.State as client
use Rattle.trace_ends.specs.Core.{hangs_if as core_hangs_if, hangs as core_hangs}
use Rattle.kept_promise.proofs.Common.{slice_get, not, cond, ◌==◌, filter, list_any, stands, server_step, FileChange, Op, Core, Seat, Session, quiet, numbered, with_numbered, Book, Ask, Queue, version_at, is_raw, CoreStep}
use Rattle.kept_promise.proofs.Lists.{some_is, nothing_there, same_or_not, all_map}
use Rattle.kept_promise.proofs.Keys.{times, times_append, own, on_way, change_key, ask_key, told_key, pending_key}
use Rattle.kept_promise.proofs.Messages.{job, Rising, IsAnswer}
use Rattle.kept_promise.proofs.History.{onward, grows_same, goes_same, still_same}
use Rattle.kept_promise.proofs.Later.{answer_later, has_fetch_later, close_later, seat_later, Stays, Spares, SameView}
use Rattle.kept_promise.proofs.Turns.{Around, around_same, around_with, also_numbered, turned_core, kept_turn, raw_core, kept_raw_turn, raw_or_owned, with_same, kept_noted, unnoted, CameOn}
use Rattle.kept_promise.proofs.Shelf.{shelf_left, else_left}
use Rattle.kept_promise.proofs.Ordered.{orderly_hung}
use Rattle.kept_promise.proofs.Facts.{FileIs, IsServer, IsTalk, IsKept}
use Rattle.kept_promise.proofs.Leading.{Leads, ups_lost, KeptHangs, Sends, queues_after}
use Rattle.kept_promise.proofs.Takes.{file_still, fresh_still}
use Rattle.kept_promise.proofs.Chunks.{is_other}
use Rattle.server_law.proofs.lemmas.TreeCalls.{fewer_need}
use Rattle.kept_promise.proofs.Growth.{there_later}
use Rattle.kept_promise.proofs.Unused.{IsUnused}
use Rattle.register_model.specs.declared.raw.Raw.{Raw}
use Rattle.kept_promise.proofs.RecallsKept.{OnlyRecalls, all_kept}
use Rattle.callback_core.specs.BackCalls.{is_at}

-- ---- what the server still has of other sessions

-- a session's own among those of others
own_else : (m n : ℕ) → (m ≡ n → ⊥) → (ws : List FileChange) → own m (filter (λ c. not (c.session == n)) ws) ≡ own m ws
own_else m n apart [] = refl
own_else m n apart (c ∷ ws) = by (c.session == n) refl (own_else m n apart ws)
  where
    gone : c.session ≡ n → (c.session == m) ≡ false
    gone e = is_other c.session m (λ q. apart (sym q ∙ e))

    by : (b : Bool) → (c.session == n) ≡ b → own m (filter (λ d. not (d.session == n)) ws) ≡ own m ws → own m (cond (not b) (c ∷ filter (λ d. not (d.session == n)) ws) (filter (λ d. not (d.session == n)) ws)) ≡ cond (c.session == m) (c ∷ own m ws) (own m ws)
    by true e h = h ∙ sym (ap (λ t. cond t (c ∷ own m ws) (own m ws)) (gone (eqb-true c.session n e)))
    by false e h = ap (λ l. cond (c.session == m) (c ∷ l) l) h

own_gone : (n : ℕ) (ws : List FileChange) → own n (filter (λ c. not (c.session == n)) ws) ≡ []
own_gone n [] = refl
own_gone n (c ∷ ws) = by (c.session == n) refl (own_gone n ws)
  where
    by : (b : Bool) → (c.session == n) ≡ b → own n (filter (λ d. not (d.session == n)) ws) ≡ [] → own n (cond (not b) (c ∷ filter (λ d. not (d.session == n)) ws) (filter (λ d. not (d.session == n)) ws)) ≡ []
    by true e h = h
    by false e h = ap (λ t. cond t (c ∷ own n (filter (λ d. not (d.session == n)) ws)) (own n (filter (λ d. not (d.session == n)) ws))) e ∙ h

stands_else : (m n : ℕ) → (m ≡ n → ⊥) → (ks : List ℕ) → list_any (λ k. k == m) (filter (λ k. not (k == n)) ks) ≡ list_any (λ k. k == m) ks
stands_else m n apart [] = refl
stands_else m n apart (k ∷ ks) = by (k == n) refl (stands_else m n apart ks)
  where
    by : (b : Bool) → (k == n) ≡ b → list_any (λ z. z == m) (filter (λ z. not (z == n)) ks) ≡ list_any (λ z. z == m) ks → list_any (λ z. z == m) (cond (not b) (k ∷ filter (λ z. not (z == n)) ks) (filter (λ z. not (z == n)) ks)) ≡ list_any (λ z. z == m) (k ∷ ks)
    by true e h = let f : (k == m) ≡ false = is_other k m (λ q. apart (sym q ∙ eqb-true k n e)) in rw (f, h) refl
    by false e h = rw h refl

stands_gone : (n : ℕ) (ks : List ℕ) → list_any (λ k. k == n) (filter (λ k. not (k == n)) ks) ≡ false
stands_gone n [] = refl
stands_gone n (k ∷ ks) = by (k == n) refl (stands_gone n ks)
  where
    by : (b : Bool) → (k == n) ≡ b → list_any (λ z. z == n) (filter (λ z. not (z == n)) ks) ≡ false → list_any (λ z. z == n) (cond (not b) (k ∷ filter (λ z. not (z == n)) ks) (filter (λ z. not (z == n)) ks)) ≡ false
    by true e h = h
    by false e h = rw (e, h) refl

-- what a test leaves was there
was_there : {A : Type 0} (p : A → Bool) (xs : List A) (i : ℕ) (x : A) → slice_get (filter p xs) i ≡ Some x → (j : ℕ) × (slice_get xs j ≡ Some x)
was_there p [] i x e = nothing_there x e
was_there p (y ∷ xs) i x e = by (p y) i e (λ k f. was_there p xs k x f)
  where
    by : (b : Bool) (i : ℕ) → slice_get (cond b (y ∷ filter p xs) (filter p xs)) i ≡ Some x → ((k : ℕ) → slice_get (filter p xs) k ≡ Some x → (j : ℕ) × (slice_get xs j ≡ Some x)) → (j : ℕ) × (slice_get (y ∷ xs) j ≡ Some x)
    by false i e later = let r = later i e in (suc r.0, r.1)
    by true zero e later = (zero, e)
    by true (suc k) e later = let r = later k e in (suc r.0, r.1)

-- ---- the changes that are left

pub left_there : (n : ℕ) (ws : List FileChange) (i : ℕ) (c : FileChange) → slice_get (filter (λ d. not (d.session == n)) ws) i ≡ Some c → ((j : ℕ) × (slice_get ws j ≡ Some c)) × (c.session ≡ n → ⊥)
left_there n [] i c e = nothing_there c e
left_there n (d ∷ ws) i c e = by (d.session == n) refl i e (λ k f. left_there n ws k c f)
  where
    by : (b : Bool) → (d.session == n) ≡ b → (i : ℕ) → slice_get (cond (not b) (d ∷ filter (λ z. not (z.session == n)) ws) (filter (λ z. not (z.session == n)) ws)) i ≡ Some c
        → ((k : ℕ) → slice_get (filter (λ z. not (z.session == n)) ws) k ≡ Some c → ((j : ℕ) × (slice_get ws j ≡ Some c)) × (c.session ≡ n → ⊥))
        → ((j : ℕ) × (slice_get (d ∷ ws) j ≡ Some c)) × (c.session ≡ n → ⊥)
    by true f k g later = let r = later k g in ((suc r.0.0, r.0.1), r.1)
    by false f zero g later = let same : d ≡ c = some_is d c g in ((0, g), λ q. differ (ap (λ (z : FileChange). z.session == n) (sym same) ∙ f) q)
      where
        differ : (c.session == n) ≡ false → c.session ≡ n → ⊥
        differ h q = let t : (c.session == n) ≡ true = eq-eqb c.session n q in absurd cc
    by false f (suc k) g later = let r = later k g in ((suc r.0.0, r.0.1), r.1)

-- ---- the event

server_hung : (book : Book) (s : server.State) (n : ℕ) → (kept : IsServer book s) → ((f : ℕ) → FileIs (onward book 1 book.ops) f (the_files.file_at s.tree f)) → ((f : ℕ) → IsUnused s.tree f → version_at (onward book 1 book.ops) f (book.steps + 1 + 1) ≡ 0) → IsServer (onward book 1 book.ops) (hangs s n)
server_hung book s n kept held fresh = record {
  held = held;
  bounded = kept.bounded;
  fresh = fresh;
  zero = kept.zero;
  rooted = kept.rooted;
  wants = λ i c e. let r = left_there n s.waiting i c e in kept.wants r.0.0 c r.0.1;
  changes = let a = kept.changes in let b = (fewer_need (λ d. not (d.session == n)) s.waiting).0 in omega (arith, a, b);
  bytes = let a = kept.bytes in let b = (fewer_need (λ d. not (d.session == n)) s.waiting).1 in omega (arith, a, b);
  lengths = λ i c e. let r = left_there n s.waiting i c e in kept.lengths r.0.0 c r.0.1;
  targets = λ i c e. let r = left_there n s.waiting i c e in there_later book (onward book 1 book.ops) None None c.file (grows_same book 1) (kept.targets r.0.0 c r.0.1);
  xids = λ i c e. let r = left_there n s.waiting i c e in kept.xids r.0.0 c r.0.1;
  leases = (kept.leases.0, all_kept (λ c. OnlyRecalls c.waits) (λ c. not (is_at n c)) s.leasing.calls kept.leases.1);
  serves = kept.serves;
}

-- what a hung session and its owner still say to each other
talk_hung : (book : Book) (s : server.State) (n : ℕ) (x : Session) (q : Queue) (c : Seat) → IsTalk book n s.waiting x q c → IsTalk (onward book 1 book.ops) n (filter (λ d. not (d.session == n)) s.waiting) (record x { hung = true }) (record q { ups = [] }) c
talk_hung book s n x q c t =
    let g = grows_same book 1 in
    let spares : Spares x.closing None = λ p u v. nothing_there p v in
    record {
      floor = t.floor;
      numbered = t.numbered;
      under = t.under;
      rising = top t.floor q.ups t.rising;
      asked = tt;
      answers = all_map (IsAnswer book x.taken x.closing (job c)) (IsAnswer (onward book 1 book.ops) x.taken x.closing (job c)) (λ u f. answer_later book (onward book 1 book.ops) None None x.taken x.closing (job c) u g spares f) q.downs t.answers;
      fetch = has_fetch_later book (onward book 1 book.ops) None None x.taken (job c) g t.fetch;
      balanced = record { most = λ y. less y (t.balanced.most y); least = λ e y. absurd cc; once = t.balanced.once; below = t.balanced.below; ours = t.balanced.ours };
      busy = t.busy;
    }
  where
    top : (k : ℕ) (us : List Ask) → Rising k us c.client.next_xid → k ≤ c.client.next_xid
    top k [] h = h
    top k (a ∷ us) h = let r = top (a.xid + 1) us h.1 in omega (arith, h.0, r)

    less : (y : ℕ) → times y (on_way n s.waiting q) ≤ times y (map pending_key (client.calls_of c.client)) → times y (on_way n (filter (λ d. not (d.session == n)) s.waiting) (record q { ups = [] })) ≤ times y (map pending_key (client.calls_of c.client))
    less y h =
        let none : own n (filter (λ d. not (d.session == n)) s.waiting) ≡ [] = own_gone n s.waiting in
        let now : times y (on_way n (filter (λ d. not (d.session == n)) s.waiting) (record q { ups = [] })) ≡ times y (map told_key q.downs) = ap (λ (l : List FileChange). times y (map change_key l ++ map told_key q.downs)) none in
        let a = times_append y (map ask_key q.ups) (map change_key (own n s.waiting) ++ map told_key q.downs) in
        let b = times_append y (map change_key (own n s.waiting)) (map told_key q.downs) in
        omega (arith, h, now, a, b)

pub core_is : (book : Book) (k : Core) (qs : List Queue) (r : server.State) (seats : List Seat) (sessions : List Session) → IsKept book k qs → turned_core k (onward book 1 book.ops) r seats sessions ≡ record k { server = r; seats = seats; sessions = sessions; steps = k.steps + 1; ops = k.ops; entries = k.entries }
core_is book k qs r seats sessions h =
    ap (λ (s : ℕ). record k { server = r; seats = seats; sessions = sessions; steps = s + 1; ops = book.ops; entries = book.entries }) h.steps
    ∙ ap (λ (o : List Op). record k { server = r; seats = seats; sessions = sessions; steps = k.steps + 1; ops = o; entries = book.entries }) h.ops
    ∙ ap (λ (e : List ℕ). record k { server = r; seats = seats; sessions = sessions; steps = k.steps + 1; ops = k.ops; entries = e }) h.entries

-- what other sessions have there stays
hung_view : (book : Book) (k : Core) (qs : List Queue) (n : ℕ) → IsKept book k qs → (o : ℕ) → (o ≡ n → ⊥) → SameView o k.server (hangs k.server n)
hung_view book k qs n kept o apart = record { stands_is = stands_else o n apart k.server.sessions; waiting = own_else o n apart k.server.waiting; temps = λ i m e lt f g. was_there (λ z. not (z.1.session == n)) k.server.temps i e f; found = λ m lt. else_left k.server.temps n o m apart lt kept.shelf.1 }

pub raw_core_is : (book : Book) (k : Core) (qs : List Queue) (r : server.State) (sessions : List Session) → IsKept book k qs → raw_core k (onward book 1 book.ops) r sessions ≡ record k { server = r; seats = k.seats; sessions = sessions; steps = k.steps + 1; ops = k.ops; entries = k.entries }
raw_core_is book k qs r sessions h =
    ap (λ (s : ℕ). record k { server = r; sessions = sessions; steps = s + 1; ops = book.ops; entries = book.entries; raws = book.raws }) h.steps
    ∙ ap (λ (o : List Op). record k { server = r; sessions = sessions; steps = k.steps + 1; ops = o; entries = book.entries; raws = book.raws }) h.ops
    ∙ ap (λ (e : List ℕ). record k { server = r; sessions = sessions; steps = k.steps + 1; ops = k.ops; entries = e; raws = book.raws }) h.entries
    ∙ ap (λ (l : List Raw). record k { server = r; sessions = sessions; steps = k.steps + 1; ops = k.ops; entries = k.entries; raws = l }) h.raws

hung_now : (book : Book) (k : Core) (qs : List Queue) (n : ℕ) (x : Session) (q : Queue) → (kept : IsKept book k qs) → numbered k.sessions n ≡ Some x → numbered qs n ≡ Some q → is_raw x ≡ false → x.hung ≡ false
    → IsKept (onward book 1 book.ops) (turned_core k (onward book 1 book.ops) (hangs k.server n) k.seats (with_numbered k.sessions n (record x { hung = true }))) (with_numbered qs n (record q { ups = [] }))
hung_now book k qs n x q kept at is owned unhung =
    let h = kept.sessions n x q at is owned in
    let more = onward book 1 book.ops in
    let g = grows_same book 1 in
    let y : Session = record x { hung = true } in
    let p : Queue = record q { ups = [] } in
    let r = hangs k.server n in
    let c = h.seat in
    let spares : Spares x.closing None = λ p u v. nothing_there p v in
    let sessions = with_numbered k.sessions n y in
    let around = around_with k.sessions n x y at in
    let none : own n r.waiting ≡ [] = own_gone n k.server.waiting in
    kept_turn book more k qs r k.seats sessions (with_numbered qs n p) n x y p c c None None (record {
      at = at;
      was = h.owner;
      session_around = around;
      queue_around = around_with qs n q p is;
      seat_around = around_same k.seats x.owner c h.owner;
      owner = refl;
      goes = goes_same book 1 kept.sound;
      server = server_hung book k.server n kept.server (λ f. file_still book more None None f (the_files.file_at k.server.tree f) g (still_same book 1 kept.sound) (kept.server.held f)) (fresh_still book more None None k.server.tree g (still_same book 1 kept.sound) kept.server.fresh);
      sessions_made = refl;
      view = λ o apart. hung_view book k qs n kept o apart;
      elsewhere = inl refl;
      closing = λ z f. inl f;
      made_here = λ z f. nothing_there z f;
      ended_here = λ z o f. nothing_there z f;
      session = record {
        seat = c;
        owner = h.owner;
        here = h.here;
        shut = h.shut;
        lost = λ hung. refl;
        stands_is = stands_gone n k.server.sessions;
        ups_fit = tt;
        ups_speak = tt;
        downs_fit = h.downs_fit;
        talk = λ uncut. talk_hung book k.server n x q c (h.talk uncut);
        contents = h.contents;
        lengths = h.lengths;
        commits = tt;
        pieces = tt;
        temps = λ i m e lt f g. let w = was_there (λ z. not (z.1.session == n)) k.server.temps i e f in h.temps w.0 m e lt w.1 g;
        temps_below = λ uncut. (tt, λ i m e lt f g. let w = was_there (λ z. not (z.1.session == n)) k.server.temps i e f in (h.temps_below uncut).1 w.0 m e lt w.1 g);
        closes = λ uncut j f. close_later book more None None x.closing h.contents c.client.next_temp j (client.local_bytes c.client.opened j.file) j.stage g spares (h.closes uncut j f);
        pending = λ i d f. nothing_there d (ap (λ (l : List FileChange). slice_get l i) (sym none) ∙ f);
        single = let l = ap length none in omega (arith, l);
        old = λ z f. let o = h.old z f in let u = g.each z o.0 o.1 in (u.0, u.1, u.2.client ∙ o.2);
        orderly = λ uncut. orderly_hung book more None None n k.server.temps r.temps x.hung q c g (h.orderly uncut);
      };
      seat = seat_later book more None None k.sessions sessions x.owner c g (stays x.owner around) (λ z o f. nothing_there z f) (kept.seats x.owner c h.owner);
      running = kept.running;
      shelf = shelf_left k.server.temps n kept.shelf;
      home = λ i d f. let l = left_there n k.server.waiting i d f in let z = kept.home l.0.0 d l.0.1 in (z.0, around.others d.session l.1 ∙ z.1, z.2);
    }) kept.journal kept
  where
    stays : (i : ℕ) → Around k.sessions (with_numbered k.sessions n (record x { hung = true })) n (record x { hung = true }) → Stays k.sessions (with_numbered k.sessions n (record x { hung = true })) i
    stays i around m z f = elim (same_or_not m n) [
      | inr apart ↦ (z, around.others m apart ∙ f, refl, λ mine. refl)
      | inl here ↦
          let same : x ≡ z = some_is x z (sym at ∙ ap (numbered k.sessions) (sym here) ∙ f) in
          (record x { hung = true }, ap (numbered (with_numbered k.sessions n (record x { hung = true }))) here ∙ around.there, ap (λ (v : Session). v.owner) same, λ mine. ap (λ (v : Session). v.cut) same)
    ]

-- one that is no client's: what it had at the server goes
raw_hung : (book : Book) (k : Core) (qs : List Queue) (n : ℕ) (x : Session) → IsKept book k qs → numbered k.sessions n ≡ Some x → is_raw x ≡ true
    → IsKept (onward book 1 book.ops) (raw_core k (onward book 1 book.ops) (hangs k.server n) (with_numbered k.sessions n (record x { hung = true }))) qs
raw_hung book k qs n x kept at raw =
    let more = onward book 1 book.ops in
    let g = grows_same book 1 in
    let y : Session = record x { hung = true } in
    let r = hangs k.server n in
    let sessions = with_numbered k.sessions n y in
    let around = around_with k.sessions n x y at in
    let none : own n r.waiting ≡ [] = own_gone n k.server.waiting in
    kept_raw_turn book more k qs r sessions n x y (record {
      at = at;
      raw = raw;
      around = around;
      owner = refl;
      grows = g;
      sound = (goes_same book 1 kept.sound).sound;
      ops = refl;
      server = server_hung book k.server n kept.server (λ f. file_still book more None None f (the_files.file_at k.server.tree f) g (still_same book 1 kept.sound) (kept.server.held f)) (fresh_still book more None None k.server.tree g (still_same book 1 kept.sound) kept.server.fresh);
      sessions_made = refl;
      view = λ o apart. hung_view book k qs n kept o apart;
      session = λ q is. let h = kept.strangers n x q at is raw in record {
        shut = h.shut;
        closing = h.closing;
        ups = h.ups;
        downs = h.downs;
        stands_is = stands_gone n k.server.sessions;
        temps = λ i m e lt f g. let w = was_there (λ z. not (z.1.session == n)) k.server.temps i e f in h.temps w.0 m e lt w.1 g;
        single = let l = ap length none in omega (arith, l);
      };
      shelf = shelf_left k.server.temps n kept.shelf;
      home = λ i d f. let l = left_there n k.server.waiting i d f in let z = kept.home l.0.0 d l.0.1 in (z.0, around.others d.session l.1 ∙ z.1, z.2);
    }) kept.journal kept

-- what a step leads to, with what is noted beside it of messages that came
pub leads_noted : (book : Book) (k : Core) (qs : List Queue) (t : CoreStep) → t.core.raws ≡ k.raws → CameOn k.came t.core.came t.core.steps → Leads book qs (unnoted k t) → Leads book qs t
leads_noted book k qs t raws on h = record { sends = sends; more = h.more; moments = h.moments; opening = h.opening; kept = kept_noted h.more t.core (queues_after qs t sends) k.came k.raws raws on h.kept }
  where
    sends : Sends t
    sends = record { replies = h.sends.replies; replies_fit = h.sends.replies_fit; asks = h.sends.asks; up_is = h.sends.up_is; strays = h.sends.strays; strays_cut = h.sends.strays_cut; recalls = h.sends.recalls; recalls_fit = h.sends.recalls_fit; tolds = h.sends.tolds; down_is = h.sends.down_is }

-- nothing is done, and nothing sent
pub leads_quiet : (book : Book) (k : Core) (qs : List Queue) → IsKept book k qs → Leads book qs (quiet k)
leads_quiet book k qs kept = record { sends = record { replies = []; replies_fit = tt; asks = []; up_is = refl; strays = []; strays_cut = tt; recalls = []; recalls_fit = tt; tolds = []; down_is = refl }; more = book; moments = refl; opening = refl; kept = kept }

pub leads_hung : (book : Book) (k : Core) (qs : List Queue) (n : ℕ) (x : Session) (q : Queue) → IsKept book k qs → numbered k.sessions n ≡ Some x → numbered qs n ≡ Some q → (hung : Bool) → x.hung ≡ hung → Leads book qs (core_hangs_if k n x hung)
leads_hung book k qs n x q kept at is true e = leads_quiet book k qs kept
leads_hung book k qs n x q kept at is false e =
    let stands_is : stands k.server n ≡ true = stands_unless n x q at is (raw_or_owned x) ∙ ap not e in
    let r : (server_step k.server (event.Hang n)).0 ≡ hangs k.server n = ap (λ (b : Bool). (hangs_if k.server b n).0) stands_is in
    let sessions = with_numbered k.sessions n (record x { hung = true }) in
    let now : IsKept (onward book 1 book.ops) (record k { server = hangs k.server n; seats = k.seats; sessions = sessions; steps = k.steps + 1; ops = k.ops; entries = k.entries }) (with_numbered qs n (record q { ups = [] })) = elim (raw_or_owned x) [
      | inr owned ↦ subst (λ (z : Core). IsKept (onward book 1 book.ops) z (with_numbered qs n (record q { ups = [] }))) (core_is book k qs (hangs k.server n) k.seats sessions kept) (hung_now book k qs n x q kept at is owned e)
      | inl raw ↦
          let none = (kept.strangers n x q at is raw).ups in
          let same : with_numbered qs n (record q { ups = [] }) ≡ qs = ap (λ (us : List Ask). with_numbered qs n (record q { ups = us })) (sym none) ∙ with_same qs n q is in
          subst (IsKept (onward book 1 book.ops) (record k { server = hangs k.server n; seats = k.seats; sessions = sessions; steps = k.steps + 1; ops = k.ops; entries = k.entries })) (sym same)
          (subst (λ (z : Core). IsKept (onward book 1 book.ops) z qs) (raw_core_is book k qs (hangs k.server n) sessions kept) (raw_hung book k qs n x kept at raw))
    ] in
    let with_server = subst (λ (z : server.State). IsKept (onward book 1 book.ops) (record k { server = z; seats = k.seats; sessions = sessions; steps = k.steps + 1; ops = k.ops; entries = k.entries }) (with_numbered qs n (record q { ups = [] }))) (sym r) now in
    record {
      sends = record { replies = []; replies_fit = tt; asks = []; up_is = refl; strays = []; strays_cut = tt; recalls = []; recalls_fit = tt; tolds = []; down_is = refl };
      more = onward book 1 book.ops;
      moments = refl;
      opening = refl;
      kept = subst (λ (o : Option Queue). IsKept (onward book 1 book.ops) (record k { server = (server_step k.server (event.Hang n)).0; seats = k.seats; sessions = sessions; steps = k.steps + 1; ops = k.ops; entries = k.entries }) (ups_lost qs n o)) (sym is) with_server;
    }
  where
    stands_unless : (n : ℕ) (x : Session) (q : Queue) → numbered k.sessions n ≡ Some x → numbered qs n ≡ Some q → (is_raw x ≡ true) ⊎ (is_raw x ≡ false) → stands k.server n ≡ not x.hung
    stands_unless n x q at is (inr owned) = (kept.sessions n x q at is owned).stands_is
    stands_unless n x q at is (inl raw) = (kept.strangers n x q at is raw).stands_is

pub kept_hangs : KeptHangs
kept_hangs = λ book k qs n kept noted. by book k qs n kept (numbered k.sessions n) refl
  where
    by : (book : Book) (k : Core) (qs : List Queue) (n : ℕ) → IsKept book k qs → (o : Option Session) → numbered k.sessions n ≡ o → Leads book qs (core_hangs k n o)
    by book k qs n kept None at = leads_quiet book k qs kept
    by book k qs n kept (Some x) at = let q = also_numbered k.sessions qs n x kept.made.1 at in leads_hung book k qs n x q.0 kept at q.1 x.hung refl

-- An open asks for chunks: the next of them, or all again after another version.
use Rattle.std.proofs.Common.{inl, inr, ◌≡◌, ℕ, zero, suc, ◌+◌, ◌*◌, ◌<◌, ◌≤◌, List, [], ◌∷◌, ◌++◌, length, Some, None, Bool, true, false, refl, sym, ap, ◌∙◌, subst, arith, eqb-true}
use Rattle.hash_calls.specs.declared.message.LbProc.TheVariants as lb_proc
use Rattle.hash_calls.specs.declared.message.LbProc.{LbProc}
use Rattle.nfs3_calls.specs.declared.message.NfsProc.{NfsProc}
use Rattle.wire.specs.declared.message.Program.{Program}
use Rattle.wire.specs.declared.message.Program.TheVariants as program
use Rattle.client_state.specs.State as client
use Rattle.file_open.specs.Fetching.{changes}
use Rattle.client_state.specs.declared.step.Outcome.TheVariants as outcome
use Rattle.client_state.specs.declared.task.Stage.TheVariants as stage
use Rattle.register_model.specs.declared.op.Outcome.TheVariants as told
use Rattle.register_model.specs.declared.op.Word.TheVariants as words
use Rattle.kept_promise.proofs.Common.{nat_tests, slice_get, cond, ◌==◌, nat_lt, Pending, no_counts, tries_most, idle, retries, Fetch, Stage, Op, Traffic, Core, Session, has_point, point_if, counted, Book, version_at, Tried, Call.Hash, Ask, Told, Queue}
use Rattle.kept_promise.proofs.Lists.{some_is, nothing_there}
use Rattle.kept_promise.proofs.Messages.{Job, stage_word, hash_offset, FetchOf, CloseOf, IsFetch, Trying, lease_xid}
use Rattle.kept_promise.proofs.Growth.{version_later, tried_later}
use Rattle.kept_promise.proofs.Facts.{HasXids, IsSession, IsOf, IsKept}
use Rattle.kept_promise.proofs.Heard.{Moves}
use Rattle.kept_promise.proofs.Moves.{told_there, moves_retries}
use Rattle.kept_promise.proofs.Steps.{speaks_at, spoken_at, Here, session_at, Quiet, job_op, GoesOn, on, opens_in_order, open_unnamed}
use Rattle.kept_promise.proofs.Attempts.{tried_again}
use Rattle.kept_promise.proofs.Comes.{client_at, Comes, open_op, stops_open}
use Rattle.kept_promise.proofs.Rights.{WasThere}

-- what is in the tree has a handle
pub file_small : (book : Book) (k : Core) (qs : List Queue) (f : ℕ) → IsKept book k qs → WasThere book f → f < 18446744073709551616
file_small book k qs f kept known = known.small

apart_call : (x y v o : ℕ) → y < x → cond (x == y) (Some v) None ≡ Some o → ⊥
apart_call x y v o lt e = by (x == y) refl e
  where
    by : (b : Bool) → (x == y) ≡ b → cond b (Some v) None ≡ Some o → ⊥
    by true q e = let s = eqb-true x y q in omega (arith, lt, s)
    by false q e = nothing_there o e

same_call : (x y v o : ℕ) → cond (x == y) (Some v) None ≡ Some o → o ≡ v
same_call x y v o e = by (x == y) e
  where
    by : (b : Bool) → cond b (Some v) None ≡ Some o → o ≡ v
    by true e = sym (some_is v o e)
    by false e = nothing_there o e

abbrev pub hash_ask : (lbfs xid file offset : ℕ) → Ask
hash_ask lbfs xid file offset = record { lbfs = lbfs; xid = xid; call = Hash file offset }

-- no walk waits for one
lb_not_nfs : (p : NfsProc) (q : LbProc) → program.Nfs p ≡ program.Lb q → ⊥
lb_not_nfs p q e = absurd cc

unwalking_at : {A : Type 0} (xid y : ℕ) (p : NfsProc) → client.nfs_pending p y ≡ client.lb_pending lb_proc.GetHash xid → A
unwalking_at xid y p e = absurd (lb_not_nfs p lb_proc.GetHash (by e))
  where
    first : List Pending → Program
    first [] = program.Nfs p
    first (c ∷ cs) = c.program

    by : client.nfs_pending p y ≡ client.lb_pending lb_proc.GetHash xid → program.Nfs p ≡ program.Lb lb_proc.GetHash
    by e = ap first e

-- a GETHASH goes out
pub goes_hash : (book : Book) (k : Core) (qs : List Queue) (n : ℕ) (x : Session) (q : Queue) (t : Told) (ts : List Told) (j : Job) (g : Here book k qs n x q t ts j) (s : Stage) (offset : ℕ) (forgotten : List Pending) → (let c = client_at book k qs n x q t ts j g in
    Quiet k n q → stage_word s ≡ stage_word j.stage → ((y : ℕ) → hash_offset s y ≡ cond (c.next_xid == y) (Some offset) None) → ((y : ℕ) → s ≡ stage.Committing y → ⊥) → ((y : ℕ) → lease_xid s ≡ Some y → ⊥) → ((f : Fetch) → s ≡ stage.Reading f → ⊥) → client.pending_in s ≡ client.lb_pending lb_proc.GetHash c.next_xid
    → Moves (client.calls_of c) (client.pending_in s ++ forgotten) t (hash_ask c.lbfs c.next_xid j.file offset ∷ []) → j.file < 18446744073709551616 → offset ≤ 67108864 → FetchOf book x.taken (on j s) s
    → CloseOf book x.closing (session_at book k qs n x q t ts j g).contents c.next_temp (on j s) (client.local_bytes c.opened j.file) s
    → ((m y : ℕ) → s ≡ stage.Hashing m y → Trying book (on j s) m) → HasXids (c.next_xid + 1) s → c.next_xid + 1 ≤ 4294967296 → stage_word j.stage ≡ words.Open → GoesOn book k qs n x q t ts j g s (c.next_xid + 1) forgotten (hash_ask c.lbfs c.next_xid j.file offset ∷ []))
goes_hash book k qs n x q t ts j g s offset forgotten quiet word waits uncommitting unasking unreading pends moves small le fetch closes trying xids bound opens =
    let c = client_at book k qs n x q t ts j g in
    record {
      quiet = quiet;
      word = word;
      again = record {
        lease = λ y lt e. unasking y e;
        walk = λ y w lt e. unwalking_at _ y _ (sym (ap client.pending_in e) ∙ pends);
        hash = λ y o lt e. apart_call c.next_xid y offset o lt (sym (waits y) ∙ e);
        commit = λ y lt e. uncommitting y e;
        read = λ y d f lt e at. absurd (unreading f e);
      };
      moves = moves;
      rising = (omega arith, omega arith);
      asked = (λ i o e w. let same = some_is (on j s) i e in (sym (ap (λ (z : Job). z.file) same), same_call c.next_xid c.next_xid offset o (sym (waits c.next_xid) ∙ subst (λ (z : Job). hash_offset z.stage c.next_xid ≡ Some o) (sym same) w)), tt);
      fits = ((omega (arith, bound), small, le, spoken_at book k qs n x q t ts j g), tt);
      speak = (speaks_at book k qs n x q t ts j g, tt);
      commits = (tt, tt);
      pieces = (tt, tt);
      under = (tt, tt);
      few = omega arith;
      fetch = fetch;
      busy = let e = ap (λ (l : List Pending). length l) pends in omega (arith, e);
      closes = closes;
      trying = trying;
      xids = xids;
      bounded = bound;
      orderly = opens_in_order book k qs n x q t ts j g s (c.next_xid + 1) forgotten (hash_ask c.lbfs c.next_xid j.file offset ∷ []) opens (word ∙ opens) (tt, tt);
    }

-- ---- another version

-- what an attempt has left of xids, where all its calls may be sent
abbrev pub Left : (next tries : ℕ) → Type 0
Left next tries = (spare : ℕ) × (tries + spare ≡ 4) × (next + 100000 * spare + 40000 ≤ 4294967296 + 32769)

pub comes_changed : (book : Book) (k : Core) (qs : List Queue) (n : ℕ) (x : Session) (q : Queue) (t : Told) (ts : List Told) (j : Job) (g : Here book k qs n x q t ts j) (f : Fetch) (last version bytes : ℕ) → (fact : IsFetch book x.taken j f) → stage_word j.stage ≡ words.Open → Quiet k n q
    → fact.told.moment < last → last ≤ book.steps → version_at book j.file last ≡ version → (version ≡ f.version → ⊥) → Left (client_at book k qs n x q t ts j g).next_xid f.tries
    → Comes book k qs n x q t ts j g (changes (idle (client_at book k qs n x q t ts j g)) (client.calls_of (client_at book k qs n x q t ts j g)) j.file t.xid f version bytes)
comes_changed book k qs n x q t ts j g f last version bytes fact word quiet lt le is apart left = by (nat_lt f.tries tries_most) refl
  where
    h : IsSession book k.seats k.server n x q
    h = session_at book k qs n x q t ts j g

    c : client.State
    c = h.seat.client

    of : IsOf book x.owner j
    of = job_op book k qs x h.seat j g.kept h.owner g.job_is

    w : of.op.word ≡ words.Open
    w = of.word ∙ word

    small : j.file < 18446744073709551616
    small = file_small book k qs j.file g.kept fact.known

    s : Stage
    s = stage.Hashing (f.tries + 1) c.next_xid

    forgotten : List Pending
    forgotten = client.without_call (client.calls_of c) t.xid

    moves : Moves (client.calls_of c) (client.pending_in s ++ forgotten) t (hash_ask c.lbfs c.next_xid j.file 0 ∷ [])
    moves =
        let b = (h.talk g.uncut).balanced in
        let there = told_there n k.server.waiting q x.hung c.next_xid (client.calls_of c) 0 t b (ap (λ (l : List Told). slice_get l 0) g.first) in
        moves_retries (client.calls_of c) there.0 t (hash_ask c.lbfs c.next_xid j.file 0) there.1 (b.once t.xid)

    began : fact.told.moment ≤ book.steps
    began = fact.told.past

    tries_of : Stage → ℕ
    tries_of (stage.Hashing m y) = m
    tries_of z = 0

    xids : f.tries < 4 → HasXids (c.next_xid + 1) s
    xids less = spared left.0 left.1 left.2
      where
        spared : (spare : ℕ) → f.tries + spare ≡ 4 → c.next_xid + 100000 * spare + 40000 ≤ 4294967296 + 32769 → HasXids (c.next_xid + 1) s
        spared zero e b = absurd (omega (arith, e, less))
        spared (suc z) e b = (z, omega (arith, e), omega (arith, b))

    tr : Traffic
    tr = counted of.op.traffic (record no_counts { bytes = bytes })

    r : Op
    r = open_op of.op tr (book.steps + 1) of.op.point (told.Changed f.version version) of.op.value

    moment_is : fact.tried.moment ≡ fact.told.moment
    moment_is = some_is fact.tried.moment fact.told.moment (sym fact.tried.was ∙ fact.told.was)

    op_is : fact.tried.op ≡ of.op
    op_is = some_is fact.tried.op of.op (sym fact.tried.there ∙ of.there)

    -- all attempts before it
    three : nat_lt f.tries tries_most ≡ false → Tried book j.file of.op.begin 3 fact.told.moment
    three many =
        let e = fact.tried.tries_is in
        let z = left.1 in
        let least : 4 ≤ f.tries = grind (arith, nat_tests, many) in
        let three : fact.tried.count ≡ 3 = omega (arith, e, z, least) in
        subst (λ m. Tried book j.file of.op.begin 3 m) moment_is (subst (λ v. Tried book j.file of.op.begin v fact.tried.moment) three (subst (λ (o : Op). Tried book j.file o.begin fact.tried.count fact.tried.moment) op_is fact.tried.tried))

    by : (b : Bool) → nat_lt f.tries tries_most ≡ b → Comes book k qs n x q t ts j g (retries (idle c) (client.calls_of c) j.file t.xid b f version bytes)
    by true less = inl (record {
      to = s;
      next = c.next_xid + 1;
      forgotten = forgotten;
      cache = c.cache;
      index = c.index;
      sent = c.clock;
      asks = hash_ask c.lbfs c.next_xid j.file 0 ∷ [];
      shows = goes_hash book k qs n x q t ts j g s 0 forgotten quiet (sym word) (λ y. refl) (λ y e. absurd cc) (λ y e. nothing_there y e) (λ f e. absurd cc) refl moves small (omega arith) tt tt
          (λ m y e. subst (λ v. Trying book (on j s) v) (ap tries_of e) (tried_again book x.taken j s f last fact lt le (λ same. apart (sym is ∙ same)))) (xids (grind (arith, nat_tests, less))) (let b = left.2 in let z = left.0 in omega (arith, b)) word;
      cached = (g.kept.seats x.owner h.seat h.owner).kept;
      state_is = refl;
      send_is = refl;
      ended_is = refl;
    })
    by false many = inr (record {
      op = r;
      ended = record { outcome = outcome.Changed f.version version; rests_on = 0 };
      made = None;
      opened = c.opened;
      forgotten = forgotten;
      cache = c.cache;
      index = c.index;
      shows = stops_open book k qs n x q t ts j g tr of.op.point (told.Changed f.version version) of.op.value c.opened quiet word refl (λ m e. inl e) (λ more grows steps. (
        w,
        record {
          end = book.steps + 1;
          end_is = refl;
          first = fact.told.moment;
          last = last;
          before = subst (λ z. Tried more z of.op.begin 3 fact.told.moment) (sym (of.file (open_unnamed j.stage word))) (tried_later book more None (Some j.place) j.file of.op.begin 3 fact.told.moment grows (omega (arith, began)) (three many));
          order = lt;
          past = omega (arith, le);
          first_is = ap (λ z. version_at more z fact.told.moment) (of.file (open_unnamed j.stage word)) ∙ version_later book more None (Some j.place) j.file fact.told.moment grows (omega (arith, began)) ∙ fact.told.version_is;
          last_is = ap (λ z. version_at more z last) (of.file (open_unnamed j.stage word)) ∙ version_later book more None (Some j.place) j.file last grows (omega (arith, le)) ∙ is;
          apart = λ e. apart (sym e);
        },
      )) (g.kept.seats x.owner h.seat h.owner).opened;
      cached = inl (g.kept.seats x.owner h.seat h.owner).kept;
      state_is = refl;
      send_is = refl;
      ended_is = refl;
      op_is = ap (λ v. open_op of.op tr (book.steps + 1) (point_if (has_point v (outcome.Changed f.version version)) x.taken 0 (book.steps + 1) of.op.point) (told.Changed f.version version) of.op.value) w;
    })

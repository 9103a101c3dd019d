-- A call of a store that the operation under way waits for: its chunk, and that it is alone with its xid.
use Rattle.std.proofs.Common.{◌≡◌, ℕ, ◌<◌, ◌≤◌, List, [], ◌∷◌, length, Some, false, refl, sym, ap, ◌∙◌, subst, arith, map}
use Rattle.server_core.specs.State as server
use Rattle.client_state.specs.State as client
use Rattle.kept_promise.proofs.Common.{slice_get, chunks_of, Pending, store_pending, Stage, Upload, UploadCall, Way, Seat, Session, Book, Queue}
use Rattle.kept_promise.proofs.Keys.{times}
use Rattle.kept_promise.proofs.OrderSteps.{place_once}
use Rattle.kept_promise.proofs.Messages.{job, CloseOf}
use Rattle.kept_promise.proofs.Taken.{times_map_append}
use Rattle.kept_promise.proofs.Orderly.{IsStore, locals_of}
use Rattle.kept_promise.proofs.Facts.{IsSession}
use Rattle.kept_promise.proofs.CloseSteps.{calls_are, store_found}

under_xids : (us : List UploadCall) → map (λ (p : Pending). p.xid) (map store_pending us) ≡ map (λ (u : UploadCall). u.xid) us
under_xids [] = refl
under_xids (u ∷ us) = ap (λ l. u.xid ∷ l) (under_xids us)

pub record InStore (v : List ℕ) (st : Upload) (xid : ℕ) (u : UploadCall) : Type 0 where
  pub chunks : st.chunks ≡ chunks_of v
  pub short : length v ≤ 67108864
  pub place : ℕ
  pub there : slice_get st.under place ≡ Some u
  pub same : u.xid ≡ xid
  pub inside : u.index < st.named
  pub unique : (i : ℕ) (w : UploadCall) → slice_get st.under i ≡ Some w → w.xid ≡ xid → i ≡ place

pub in_store : (book : Book) (seats : List Seat) (s : server.State) (n : ℕ) (x : Session) (q : Queue) (h : IsSession book seats s n x q) → x.cut ≡ false → (xid : ℕ) (w : Way) (c : IsStore (job h.seat) xid w) → InStore (locals_of h.seat.client c.of.file) c.store xid c.call
in_store book seats s n x q h uncut xid w c =
    let f = store_found c.store.under xid c.call c.found in
    let close = subst (CloseOf book x.closing h.contents h.seat.client.next_temp c.of (locals_of h.seat.client c.of.file)) c.at (h.closes uncut c.of c.is) in
    let once = (h.talk uncut).balanced.once xid in
    let calls = ap (λ l. times xid (map (λ (p : Pending). p.xid) l)) (calls_are h.seat c.of c.is) in
    let parts = times_map_append (λ (p : Pending). p.xid) xid (client.pending_in c.of.stage) h.seat.client.forgotten in
    let stored = ap (λ (z : Stage). times xid (map (λ (p : Pending). p.xid) (client.pending_in z))) c.at in
    let xids = ap (times xid) (under_xids c.store.under) in
    let few : times xid (map (λ (u : UploadCall). u.xid) c.store.under) ≤ 1 = omega (arith, once, calls, parts, stored, xids) in
    record {
      chunks = close.3.chunks;
      short = subst (λ (l : List ℕ). length l ≤ 67108864) close.1 (h.lengths c.store.temp);
      place = f.0;
      there = f.1;
      same = f.2;
      inside = close.3.inside f.0 c.call f.1;
      unique = λ i z at e. place_once (λ (u : UploadCall). u.xid) c.store.under i f.0 z c.call at f.1 (e ∙ sym f.2) (subst (λ (y : ℕ). times y (map (λ (u : UploadCall). u.xid) c.store.under) ≤ 1) (sym f.2) few);
    }

-- What the temporary file of a close holds once an answer to it was taken.
use Rattle.std.proofs.Common.{◌≡◌, ℕ, zero, suc, List, ◌∷◌, ◌++◌, Some, false, refl, sym, ap, ◌∙◌, subst}
use Rattle.client_state.specs.State as client
use Rattle.client_state.specs.declared.task.Stage.TheVariants as stage
use Rattle.client_state.specs.declared.task.Way.TheVariants as way
use Rattle.kept_promise.proofs.Common.{slice_get, chunk_bytes, Chunk, store_of, store_at, answered, with_whole, Stage, Upload, UploadCall, Way, Core, Session, Book, Call.Make, Call.Send, Reply, Ask, Told, Queue, Status, Done, Failed, Reply.Made}
use Rattle.kept_promise.proofs.Lists.{some_is}
use Rattle.kept_promise.proofs.Messages.{Job}
use Rattle.kept_promise.proofs.Orderly.{locals_of, UpMake, UpSend, DownKnown, known_reply, Holds, HeldIn, HoldsTemp, DownRefused}
use Rattle.kept_promise.proofs.Ordered.{TellsNone}
use Rattle.kept_promise.proofs.OrderSteps.{up_apart, down_apart}
use Rattle.kept_promise.proofs.Filling.{holds_first, holds_answered, holds_heard, holds_known_heard, holds_whole}
use Rattle.kept_promise.proofs.Steps.{Here, session_at}
use Rattle.kept_promise.proofs.CloseSteps.{seat_at, local_of, sending, Filled, store_older}
use Rattle.kept_promise.proofs.Stored.{InStore, in_store}

held_now : (book : Book) (k : Core) (qs : List Queue) (n : ℕ) (x : Session) (q : Queue) (t : Told) (ts : List Told) (j : Job) (g : Here book k qs n x q t ts j) (s : Stage) → j.stage ≡ s → x.hung ≡ false → HeldIn k.server.temps n q.ups (t ∷ ts) (local_of g) s
held_now book k qs n x q t ts j g s at up =
    let h = session_at book k qs n x q t ts j g in
    subst (HeldIn k.server.temps n q.ups (t ∷ ts) (local_of g)) at (subst (λ (l : List Told). HoldsTemp k.server.temps n q.ups l (locals_of h.seat.client) (Some j)) g.first (subst (HoldsTemp k.server.temps n q.ups q.downs (locals_of h.seat.client)) g.job_is ((h.orderly g.uncut).holds up)))

-- no other call has the answer's xid
no_up : (book : Book) (k : Core) (qs : List Queue) (n : ℕ) (x : Session) (q : Queue) (t : Told) (ts : List Told) (j : Job) (g : Here book k qs n x q t ts j) (i : ℕ) (a : Ask) → slice_get q.ups i ≡ Some a → a.xid ≡ t.xid → ⊥
no_up book k qs n x q t ts j g i a at = let h = session_at book k qs n x q t ts j g in up_apart n k.server.waiting q x.hung h.seat.client.next_xid (client.calls_of h.seat.client) t ts i a (h.talk g.uncut).balanced g.first at

-- nor has any other answer
no_down : (book : Book) (k : Core) (qs : List Queue) (n : ℕ) (x : Session) (q : Queue) (t : Told) (ts : List Told) (j : Job) (g : Here book k qs n x q t ts j) → DownKnown ts t.xid → ⊥
no_down book k qs n x q t ts j g z = let h = session_at book k qs n x q t ts j g in down_apart n k.server.waiting q x.hung h.seat.client.next_xid (client.calls_of h.seat.client) t ts z.0 (record { xid = t.xid; reply = known_reply }) (h.talk g.uncut).balanced g.first z.1 refl

pub filled_made : (book : Book) (k : Core) (qs : List Queue) (n : ℕ) (x : Session) (q : Queue) (t : Told) (ts : List Told) (j : Job) (g : Here book k qs n x q t ts j) (temp : ℕ) → j.stage ≡ stage.Making t.xid temp → (u : Unit {0}) → t.reply ≡ Made (Done u) → Filled book k qs n x q t ts j g q.ups (store_of temp (local_of g))
filled_made book k qs n x q t ts j g temp waits u done up =
    let f = (held_now book k qs n x q t ts j g (stage.Making t.xid temp) waits up).1 (λ (u : UpMake q.ups t.xid). no_up book k qs n x q t ts j g u.0 (record { lbfs = u.3; xid = t.xid; call = Make u.1 u.2 }) u.4 refl) refused in
    (f.0, f.1, subst (Holds (local_of g) q.ups ts (store_of temp (local_of g))) (sym f.2) (holds_first (local_of g) q.ups ts temp))
  where
    apart : (s : Status) (v : Unit {0}) → ◌≡◌ {A = Reply} (Made (Done u)) (Made (Failed s v)) → ⊥
    apart s v e = absurd cc

    refused : DownRefused (t ∷ ts) t.xid → ⊥
    refused (zero, s, v, e) = apart s v (sym done ∙ ap (λ (z : Told). z.reply) (some_is t _ e))
    refused (suc i, s, v, e) = let h = session_at book k qs n x q t ts j g in down_apart n k.server.waiting q x.hung h.seat.client.next_xid (client.calls_of h.seat.client) t ts i (record { xid = t.xid; reply = Made (Failed s v) }) (h.talk g.uncut).balanced g.first e refl

stored_at : (book : Book) (k : Core) (qs : List Queue) (n : ℕ) (x : Session) (q : Queue) (t : Told) (ts : List Told) (j : Job) (g : Here book k qs n x q t ts j) (st : Upload) (u : UploadCall) (w : Way) → j.stage ≡ stage.Storing st → store_at st.under t.xid ≡ Some u → u.way ≡ w → InStore (local_of g) st t.xid u
stored_at book k qs n x q t ts j g st u w waits found by_way = let h = session_at book k qs n x q t ts j g in in_store book k.seats k.server n x q h g.uncut t.xid w (record { of = j; is = g.job_is; store = st; at = waits; call = u; found = found; way = by_way })

alone : (v : List ℕ) (st : Upload) (xid : ℕ) (u : UploadCall) (s : InStore v st xid u) (i : ℕ) (w : UploadCall) → slice_get st.under i ≡ Some w → w.xid ≡ xid → w ≡ u
alone v st xid u s i w at e = some_is w u (sym at ∙ ap (slice_get st.under) (s.unique i w at e) ∙ s.there)

pub filled_answered : (book : Book) (k : Core) (qs : List Queue) (n : ℕ) (x : Session) (q : Queue) (t : Told) (ts : List Told) (j : Job) (g : Here book k qs n x q t ts j) (st : Upload) (u : UploadCall) → j.stage ≡ stage.Storing st → store_at st.under t.xid ≡ Some u → u.way ≡ way.Whole → TellsNone t.reply → Filled book k qs n x q t ts j g q.ups (answered st t.xid)
filled_answered book k qs n x q t ts j g st u waits found whole none up =
    let f = held_now book k qs n x q t ts j g (stage.Storing st) waits up in
    let s = stored_at book k qs n x q t ts j g st u way.Whole waits found whole in
    (f.0, f.1, holds_answered (local_of g) q.ups ts st f.0.pieces t.xid s.place u s.there s.same whole (λ i w at e. alone (local_of g) st t.xid u s i w at e) (λ (z : UpSend q.ups t.xid). no_up book k qs n x q t ts j g z.0 (record { lbfs = z.4; xid = t.xid; call = Send z.1 z.2 z.3 }) z.5 refl) (holds_heard (local_of g) q.ups t ts st f.0.pieces none f.2))

pub filled_named : (book : Book) (k : Core) (qs : List Queue) (n : ℕ) (x : Session) (q : Queue) (t : Told) (ts : List Told) (j : Job) (g : Here book k qs n x q t ts j) (st : Upload) (u : UploadCall) (c : Chunk) → j.stage ≡ stage.Storing st → store_at st.under t.xid ≡ Some u → u.way ≡ way.Named → TellsNone t.reply
    → Filled book k qs n x q t ts j g (q.ups ++ sending (seat_at g).client.lbfs (answered st t.xid) (seat_at g).client.next_xid (local_of g) c) (with_whole (answered st t.xid) u (seat_at g).client.next_xid)
filled_named book k qs n x q t ts j g st u c waits found by_name none up =
    let f = held_now book k qs n x q t ts j g (stage.Storing st) waits up in
    let s = stored_at book k qs n x q t ts j g st u way.Named waits found by_name in
    (f.0, f.1, holds_whole (local_of g) q.ups ts st f.0.pieces t.xid s.place (seat_at g).client.lbfs (seat_at g).client.next_xid st.temp c.start (chunk_bytes (local_of g) c) u s.there s.same by_name (λ i w at e. alone (local_of g) st t.xid u s i w at e) (λ i w at. store_older book k qs n x q t ts j g st i w waits at) (no_down book k qs n x q t ts j g) (holds_heard (local_of g) q.ups t ts st f.0.pieces none f.2))

-- the server knew the chunk
pub filled_known : (book : Book) (k : Core) (qs : List Queue) (n : ℕ) (x : Session) (q : Queue) (t : Told) (ts : List Told) (j : Job) (g : Here book k qs n x q t ts j) (st : Upload) (u : UploadCall) → j.stage ≡ stage.Storing st → store_at st.under t.xid ≡ Some u → u.way ≡ way.Named → t.reply ≡ known_reply → Filled book k qs n x q t ts j g q.ups (answered st t.xid)
filled_known book k qs n x q t ts j g st u waits found by_name knows up =
    let f = held_now book k qs n x q t ts j g (stage.Storing st) waits up in
    let s = stored_at book k qs n x q t ts j g st u way.Named waits found by_name in
    (f.0, f.1, holds_known_heard (local_of g) q.ups ts st f.0.pieces t.xid s.place u s.there s.same by_name (λ i w at e. alone (local_of g) st t.xid u s i w at e) (subst (λ (r : Reply). Holds (local_of g) q.ups (record { xid = t.xid; reply = r } ∷ ts) st f.0.pieces) knows f.2))

-- A client takes an answer that its operation waits for: by its stage, what comes of it.
use Rattle.std.proofs.Common.{◌≡◌, ℕ, zero, suc, ◌<◌, ◌≤◌, List, [], ◌∷◌, length, Option, Some, true, refl, sym, ap, ◌∙◌, subst, arith, map}
use Rattle.client_state.specs.State as client
use Rattle.client_state.specs.declared.task.Stage.TheVariants as stage
use Rattle.client_state.specs.declared.task.Way.TheVariants as way
use Rattle.kept_promise.proofs.Common.{slice_get, Contains, Chunk, Answer, Done, Failed, Attr, Committed, Piece, Body, Pending, has_call, store_pending, read_pending, store_at, answered, read_at, idle, told_way, told_stored, Fetch, ReadCall, Stage, Upload, UploadCall, Way, Core, Session, hashed_of, Book, Reply, Reply.Bytes, Reply.Changed, Told, Queue, reply_body, reply_program}
use Rattle.open_close.specs.Step.{takes}
use Rattle.kept_promise.proofs.Lists.{some_is, nothing_there, there_at}
use Rattle.kept_promise.proofs.Keys.{times, code_of}
use Rattle.kept_promise.proofs.Messages.{Job, AnswerOf, FetchOf, IsFetch, IsReading, CloseOf, read_chunk, chunk_for, stage_word}
use Rattle.kept_promise.proofs.Facts.{IsSession}
use Rattle.kept_promise.proofs.Heard.{told_pending}
use Rattle.kept_promise.proofs.Moves.{told_there}
use Rattle.kept_promise.proofs.Steps.{Here, session_at, Quiet}
use Rattle.kept_promise.proofs.StepCases.{IsOfFile}
use Rattle.kept_promise.proofs.CloseSteps.{local_of, calls_are}
use Rattle.kept_promise.proofs.Comes.{client_at, comes_refused}
use Rattle.kept_promise.proofs.OpenSteps.{said, Finds, comes_hashing, comes_listing, comes_leased}
use Rattle.kept_promise.proofs.Renews.{comes_renewed}
use Rattle.kept_promise.proofs.ReadSteps.{comes_read}
use Rattle.kept_promise.proofs.CloseComes.{Makes, comes_made, comes_named, comes_stored, comes_failed, comes_closed}
use Rattle.kept_promise.proofs.Answered.{own_call, one_call, store_here, read_here, lease_reply, hash_reply, made_reply, named_reply, stored_reply, changed_reply, read_reply}
use Rattle.kept_promise.proofs.CloseEnds.{quiet_before}

-- the call of the operation that it answers
pub own_of : (book : Book) (k : Core) (qs : List Queue) (n : ℕ) (x : Session) (q : Queue) (t : Told) (ts : List Told) (j : Job) (g : Here book k qs n x q t ts j) → has_call (client.pending_in j.stage) t.xid ≡ true → (i : ℕ) × (slice_get (client.pending_in j.stage) i ≡ Some (told_pending t))
own_of book k qs n x q t ts j g has =
    let h = session_at book k qs n x q t ts j g in
    let b = (h.talk g.uncut).balanced in
    let calls = calls_are h.seat j g.job_is in
    let there = told_there n k.server.waiting q x.hung h.seat.client.next_xid (client.calls_of h.seat.client) 0 t b (ap (λ (l : List Told). slice_get l 0) g.first) in
    own_call (client.pending_in j.stage) h.seat.client.forgotten there.0 t (ap (λ l. slice_get l there.0) (sym calls) ∙ there.1) (subst (λ l. times t.xid (map (λ (c : Pending). c.xid) l) ≤ 1) calls (b.once t.xid)) has

code_is : (p : Pending) (t : Told) → p ≡ told_pending t → code_of p.program ≡ code_of (reply_program t.reply)
code_is p t e = ap (λ (z : Pending). code_of z.program) e

pub single : (p : Pending) (i : ℕ) (t : Told) → slice_get (p ∷ []) i ≡ Some (told_pending t) → p ≡ told_pending t
single p zero t e = some_is p (told_pending t) e
single p (suc i) t e = nothing_there (told_pending t) e

abbrev Took : (book : Book) (k : Core) (qs : List Queue) (n : ℕ) (x : Session) (q : Queue) (t : Told) (ts : List Told) (j : Job) → Here book k qs n x q t ts j → Stage → Body → Type 0
Took book k qs n x q t ts j g s b = Makes book k qs n x q t ts j g (takes (idle (client_at book k qs n x q t ts j g)) (client.calls_of (client_at book k qs n x q t ts j g)) j.file s t.xid b)

-- bytes of a READ that have their chunk's length are noted, where this is the READ of that chunk
abbrev pub Noted : (book : Book) (t : Told) (f : Fetch) → Type 0
Noted book t f = (p : Piece) (r : ReadCall) (c : Chunk) → t.reply ≡ Bytes (Done p) → read_at f.under t.xid ≡ Some r → slice_get f.chunks r.index ≡ Some c → length p.bytes ≡ c.len → Contains (hashed_of book.moments) p.bytes

took_read : (book : Book) (k : Core) (qs : List Queue) (n : ℕ) (x : Session) (q : Queue) (t : Told) (ts : List Told) (j : Job) (g : Here book k qs n x q t ts j) (f : Fetch) → j.stage ≡ stage.Reading f → Noted book t f → Finds book k qs n x q t ts j g → (r : ReadCall) → read_at f.under t.xid ≡ Some r → (a : Answer Piece (Option Attr)) → t.reply ≡ Bytes a → Took book k qs n x q t ts j g (stage.Reading f) (reply_body (Bytes a))
took_read book k qs n x q t ts j g f at noted looked r under a is = by a is
  where
    h : IsSession book k.seats k.server n x q
    h = session_at book k qs n x q t ts j g

    fetch : (fact : IsFetch book x.taken j f) × IsReading book fact.file.content f
    fetch = subst (FetchOf book x.taken j) at ((h.talk g.uncut).fetch j g.job_is)

    chunk : (c : Chunk) × (slice_get f.chunks r.index ≡ Some c)
    chunk =
        let found = Rattle.kept_promise.proofs.ReadCalls.read_found f.under t.xid r under in
        let inside = fetch.1.inside found.0 r found.1 in
        let asked = fetch.1.asked in
        there_at f.chunks r.index (omega (arith, inside, asked))

    quiet : Quiet k n q
    quiet = quiet_before book k qs n x q t ts j g (λ y e. not_committing y (sym at ∙ e)) (subst IsOfFile (sym at) tt)
      where
        not_committing : (y : ℕ) → stage.Reading f ≡ stage.Committing y → ⊥
        not_committing y e = absurd cc

    by : (a : Answer Piece (Option Attr)) → t.reply ≡ Bytes a → Took book k qs n x q t ts j g (stage.Reading f) (reply_body (Bytes a))
    by (Done p) is = λ named. comes_read book k qs n x q t ts j g f p r chunk.0 (record { at = at; reply_is = is; under = under; chunk = chunk.1; noted = λ len. noted p r chunk.0 is under chunk.1 len; looked = looked })
    by (Failed s v) is = λ named. comes_refused book k qs n x q t ts j g s (ap stage_word at) quiet (subst (AnswerOf book x.taken x.closing (Some j) t.xid) is (said book k qs n x q t ts j g) j f chunk.0 refl at (ap (λ z. read_chunk z t.xid) at ∙ ap (chunk_for f.chunks) under ∙ chunk.1))

took_stored : (book : Book) (k : Core) (qs : List Queue) (n : ℕ) (x : Session) (q : Queue) (t : Told) (ts : List Told) (j : Job) (g : Here book k qs n x q t ts j) (st : Upload) → j.file < 18446744073709551616 → j.stage ≡ stage.Storing st → (u : UploadCall) → store_at st.under t.xid ≡ Some u → store_pending u ≡ told_pending t → Took book k qs n x q t ts j g (stage.Storing st) (reply_body t.reply)
took_stored book k qs n x q t ts j g st fits at u found same = subst (λ (o : Option UploadCall). Makes book k qs n x q t ts j g (told_stored (idle (client_at book k qs n x q t ts j g)) (client.calls_of (client_at book k qs n x q t ts j g)) j.file t.xid (local_of g) st (reply_body t.reply) o)) (sym found) (by u.way refl)
  where
    by : (w : Way) → u.way ≡ w → Makes book k qs n x q t ts j g (told_way (idle (client_at book k qs n x q t ts j g)) (client.calls_of (client_at book k qs n x q t ts j g)) j.file t.xid (local_of g) (answered st t.xid) u w (reply_body t.reply))
    by way.Named e =
        let r = named_reply t.reply (ap (λ (v : Way). code_of (store_pending (record u { way = v })).program) (sym e) ∙ code_is (store_pending u) t same) in
        subst (λ (b : Reply). Makes book k qs n x q t ts j g (told_way (idle (client_at book k qs n x q t ts j g)) (client.calls_of (client_at book k qs n x q t ts j g)) j.file t.xid (local_of g) (answered st t.xid) u way.Named (reply_body b))) (sym r.1) (comes_named book k qs n x q t ts j g st u r.0 fits at found e same r.1)
    by way.Whole e =
        let r = stored_reply t.reply (ap (λ (v : Way). code_of (store_pending (record u { way = v })).program) (sym e) ∙ code_is (store_pending u) t same) in
        subst (λ (b : Reply). Makes book k qs n x q t ts j g (told_way (idle (client_at book k qs n x q t ts j g)) (client.calls_of (client_at book k qs n x q t ts j g)) j.file t.xid (local_of g) (answered st t.xid) u way.Whole (reply_body b))) (sym r.1) (comes_stored book k qs n x q t ts j g st u r.0 fits at found e same r.1)

took_committed : (book : Book) (k : Core) (qs : List Queue) (n : ℕ) (x : Session) (q : Queue) (t : Told) (ts : List Told) (j : Job) (g : Here book k qs n x q t ts j) → j.stage ≡ stage.Committing t.xid → (a : Answer Committed Unit) → t.reply ≡ Changed a → Took book k qs n x q t ts j g (stage.Committing t.xid) (reply_body (Changed a))
took_committed book k qs n x q t ts j g at (Done c) is = λ named. comes_closed book k qs n x q t ts j g c at is (subst (AnswerOf book x.taken x.closing (Some j) t.xid) is (said book k qs n x q t ts j g) j refl at)
took_committed book k qs n x q t ts j g at (Failed s v) is = λ named. comes_failed book k qs n x q t ts j g s v at is (subst (AnswerOf book x.taken x.closing (Some j) t.xid) is (said book k qs n x q t ts j g) j refl at)

pub comes_taken : (book : Book) (k : Core) (qs : List Queue) (n : ℕ) (x : Session) (q : Queue) (t : Told) (ts : List Told) (j : Job) (g : Here book k qs n x q t ts j) (s : Stage) → IsOfFile s → j.stage ≡ s → (i : ℕ) → slice_get (client.pending_in s) i ≡ Some (told_pending t) → times t.xid (map (λ (c : Pending). c.xid) (client.pending_in s)) ≤ 1 → ((f : Fetch) → s ≡ stage.Reading f → Noted book t f) → Finds book k qs n x q t ts j g → Took book k qs n x q t ts j g s (reply_body t.reply)
comes_taken book k qs n x q t ts j g (stage.Asking y) of at i here once noted looked =
    let p = single _ i t here in
    let r = lease_reply t.reply (code_is _ t p) in
    let xid = ap (λ (z : Pending). z.xid) p in
    subst (λ (b : Reply). Took book k qs n x q t ts j g (stage.Asking y) (reply_body b)) (sym r.1) (λ named. comes_leased book k qs n x q t ts j g r.0 (at ∙ ap stage.Asking xid) r.1)
comes_taken book k qs n x q t ts j g (stage.Rewriting y) of at i here once noted looked =
    let p = single _ i t here in
    let r = lease_reply t.reply (code_is _ t p) in
    let xid = ap (λ (z : Pending). z.xid) p in
    subst (λ (b : Reply). Took book k qs n x q t ts j g (stage.Rewriting y) (reply_body b)) (sym r.1) (λ named. comes_renewed book k qs n x q t ts j g r.0 (at ∙ ap stage.Rewriting xid) r.1 (subst (AnswerOf book x.taken x.closing (Some j) t.xid) r.1 (said book k qs n x q t ts j g)))
comes_taken book k qs n x q t ts j g (stage.Hashing tries y) of at i here once noted looked =
    let p = single _ i t here in
    let r = hash_reply t.reply (code_is _ t p) in
    let xid = ap (λ (z : Pending). z.xid) p in
    subst (λ (b : Reply). Took book k qs n x q t ts j g (stage.Hashing tries y) (reply_body b)) (sym r.1) (λ named. comes_hashing book k qs n x q t ts j g tries r.0 (at ∙ ap (stage.Hashing tries) xid) r.1 looked)
comes_taken book k qs n x q t ts j g (stage.Listing y f) of at i here once noted looked =
    let p = single _ i t here in
    let r = hash_reply t.reply (code_is _ t p) in
    let xid = ap (λ (z : Pending). z.xid) p in
    subst (λ (b : Reply). Took book k qs n x q t ts j g (stage.Listing y f) (reply_body b)) (sym r.1) (λ named. comes_listing book k qs n x q t ts j g f r.0 (at ∙ ap (λ z. stage.Listing z f) xid) r.1 looked)
comes_taken book k qs n x q t ts j g (stage.Reading f) of at i here once noted looked =
    let u = read_here f.under i t here in
    let r = read_reply t.reply (read_code f.under i t here) in
    subst (λ (b : Reply). Took book k qs n x q t ts j g (stage.Reading f) (reply_body b)) (sym r.1) (took_read book k qs n x q t ts j g f at (noted f refl) looked u.0 u.1 r.0 r.1)
  where
    read_code : (under : List ReadCall) (i : ℕ) (t : Told) → slice_get (map read_pending under) i ≡ Some (told_pending t) → 6 ≡ code_of (reply_program t.reply)
    read_code [] i t e = nothing_there (told_pending t) e
    read_code (u ∷ us) zero t e = code_is (read_pending u) t (some_is (read_pending u) (told_pending t) e)
    read_code (u ∷ us) (suc i) t e = read_code us i t e
comes_taken book k qs n x q t ts j g (stage.Walking y w) of at i here once noted looked = absurd of
comes_taken book k qs n x q t ts j g (stage.Making y temp) of at i here once noted looked =
    let p = single _ i t here in
    let r = made_reply t.reply (code_is _ t p) in
    let xid = ap (λ (z : Pending). z.xid) p in
    let h = session_at book k qs n x q t ts j g in
    let small = (subst (CloseOf book x.closing h.contents h.seat.client.next_temp j (local_of g)) at (h.closes g.uncut j g.job_is)).0.small in
    subst (λ (b : Reply). Took book k qs n x q t ts j g (stage.Making y temp) (reply_body b)) (sym r.1) (comes_made book k qs n x q t ts j g temp r.0 small (at ∙ ap (λ z. stage.Making z temp) xid) r.1)
comes_taken book k qs n x q t ts j g (stage.Storing st) of at i here once noted looked =
    let u = store_here st.under i t here in
    let same = one_call (map store_pending st.under) u.0 i (store_pending u.1) (told_pending t) u.3 here u.4 once in
    let h = session_at book k qs n x q t ts j g in
    let small = (subst (CloseOf book x.closing h.contents h.seat.client.next_temp j (local_of g)) at (h.closes g.uncut j g.job_is)).0.small in
    took_stored book k qs n x q t ts j g st small at u.1 u.2 same
comes_taken book k qs n x q t ts j g (stage.Committing y) of at i here once noted looked =
    let p = single _ i t here in
    let r = changed_reply t.reply (code_is _ t p) in
    let xid = ap (λ (z : Pending). z.xid) p in
    subst (λ (b : Reply). Took book k qs n x q t ts j g (stage.Committing y) (reply_body b)) (sym r.1) (subst (λ (z : ℕ). Took book k qs n x q t ts j g (stage.Committing z) (reply_body (Changed r.0))) (sym xid) (took_committed book k qs n x q t ts j g (at ∙ ap stage.Committing xid) r.0 r.1))

-- A close goes on by an answer: chunks are named, the bytes of one go out, or its commit.
use Rattle.std.proofs.Common.{◌⊎◌, inl, inr, ◌≡◌, ℕ, zero, suc, ◌+◌, ◌-◌, ◌*◌, ◌<◌, ◌≤◌, List, [], ◌∷◌, ◌++◌, length, Option, Some, None, Bool, true, false, refl, sym, ap, ◌∙◌, subst, arith, eqb-true, eq-eqb, append_assoc, map}
use Rattle.sha1.specs.Sha1.{sha1, digest_bytes}
use Rattle.hash_calls.specs.declared.message.LbProc.TheVariants as lb_proc
use Rattle.wire.specs.declared.message.Program.TheVariants as program
use Rattle.open_close.specs.Hashed.{named_by as part_of_named, named as parts_named}
use Rattle.client_state.specs.State as client
use Rattle.client_state.specs.declared.task.Stage.TheVariants as stage
use Rattle.client_state.specs.declared.task.Way.TheVariants as way
use Rattle.register_model.specs.declared.op.Word.TheVariants as words
use Rattle.kept_promise.proofs.Common.{nat_tests, slice_get, not, cond, ◌==◌, ◌&&◌, nat_le, chunks_of, chunk_bytes, Chunk, Pending, Program, Temp, store_pending, without_call, names_from, names_all, store_of, is_stored, store_at, without_store, answered, with_whole, commit_call, calls_most, is_none, Names, Stage, Upload, UploadCall, Task, Way, Op, Contains, Contains-append_left, Contains-append_right, Contains-push, Message, call_message, hashed_of, Core, Seat, Session, Book, unless, Call, Call.Name, Call.Send, Call.Commit, Ask, Told, Queue, ask_message, reply_program}
use Rattle.kept_promise.proofs.Statements.{IsSpoken, CallFits, AreInRow, PiecesOf, SameShape}
use Rattle.kept_promise.proofs.Lists.{some_is, nothing_there, of_appended, at_end, there_at, false_and_true, all_append, all_at, all_in, all_map, all_unless}
use Rattle.kept_promise.proofs.Keys.{times, times_append, there_by}
use Rattle.kept_promise.proofs.Messages.{Job, job, stage_word, AllAsks, AllTolds, IsAsked, IsCommit, IsNamed, PieceOf, IsPiece, TempUnder, IsOwed, IsStoring, CloseOf}
use Rattle.kept_promise.proofs.Chunks.{chunks_in_row, chunks_are_long, chunks_are_named}
use Rattle.kept_promise.proofs.Facts.{IsSession, HasXids, commits_in, names_in}
use Rattle.kept_promise.proofs.Taken.{rising_append, times_map_append}
use Rattle.kept_promise.proofs.Heard.{ask_pending, told_pending, change_once, commits_both}
use Rattle.kept_promise.proofs.Moves.{without_moves}
use Rattle.kept_promise.proofs.StepCases.{some_call}
use Rattle.kept_promise.proofs.Naming.{Ran, names_run, named_rising, named_bound, named_all, named_count, named_inside, named_times, named_note, named_commits}
use Rattle.kept_promise.proofs.Steps.{speaks_at, spoken_at, tolds_below, Again, Here, session_at, Quiet, on, job_op, GoesOn, GoesInOrder, close_unnamed}
use Rattle.kept_promise.proofs.Shelf.{OneTemp}
use Rattle.kept_promise.proofs.Orderly.{IsStore, locals_of, InPlace, IsInPlace, IsWanted, UpCommit, DownKnown, known_reply, Holds, HeldIn}
use Rattle.kept_promise.proofs.Ordered.{IsFetching, IsFetched, AllFetching, AllFetched, fetching_place, fetched_wanted}
use Rattle.kept_promise.proofs.OrderSteps.{WaitsFor, others_fetch, up_apart, down_apart}
use Rattle.kept_promise.proofs.Filling.{holds_named, holds_all, was_under}
use Rattle.kept_promise.proofs.InOrder.{GoesOver, place_over, want_over, store_still, store_front, store_behind, idle_call, idle_reply, name_noted, no_asks}
use Rattle.kept_promise.proofs.Rights.{WasThere}

-- ---- how many chunks there are

count_from : (cs : List Chunk) (from to : ℕ) → AreInRow from cs to → ((i : ℕ) (c : Chunk) → slice_get cs i ≡ Some c → suc i < length cs → 2048 ≤ c.len) → from + 2048 * length cs ≤ to + 2048
count_from [] from to r long = omega (arith, r)
count_from (c ∷ []) from to r long = let s = r.0 in let e = r.3 in omega (arith, s, e)
count_from (c ∷ d ∷ ds) from to r long =
    let s = r.0 in
    let l = long 0 c refl (omega arith) in
    let later = count_from (d ∷ ds) (c.start + c.len) to r.3 (λ i z at lt. long (suc i) z at (omega (arith, lt))) in
    omega (arith, s, l, later)

pub chunks_few : (x : List ℕ) → length x ≤ 67108864 → length (chunks_of x) ≤ 32769
chunks_few x short = let le = count_from (chunks_of x) 0 (length x) (chunks_in_row x) (chunks_are_long x) in omega (arith, le, short)

sha1_len : (bytes : List ℕ) → length (sha1 bytes) ≡ 20
unfolding sha1 digest_bytes
sha1_len bytes = refl

-- ---- the client and what it waits for

abbrev pub seat_at : {book : Book} {k : Core} {qs : List Queue} {n : ℕ} {x : Session} {q : Queue} {t : Told} {ts : List Told} {j : Job} → Here book k qs n x q t ts j → Seat
seat_at {book} {k} {qs} {n} {x} {q} {t} {ts} {j} g = (session_at book k qs n x q t ts j g).seat

abbrev pub contents_at : {book : Book} {k : Core} {qs : List Queue} {n : ℕ} {x : Session} {q : Queue} {t : Told} {ts : List Told} {j : Job} → Here book k qs n x q t ts j → ℕ → List ℕ
contents_at {book} {k} {qs} {n} {x} {q} {t} {ts} {j} g = (session_at book k qs n x q t ts j g).contents

abbrev pub local_of : {book : Book} {k : Core} {qs : List Queue} {n : ℕ} {x : Session} {q : Queue} {t : Told} {ts : List Told} {j : Job} → Here book k qs n x q t ts j → List ℕ
local_of {book} {k} {qs} {n} {x} {q} {t} {ts} {j} g = client.local_bytes (seat_at g).client.opened j.file

pub task_is : (seat : Seat) (j : Job) → job seat ≡ Some j → seat.client.task ≡ Some (record { file = j.file; stage = j.stage })
task_is seat j e = by seat.place seat.client.task e
  where
    by : (p : Option ℕ) (o : Option Task) → Rattle.kept_promise.proofs.Messages.job_of p o ≡ Some j → o ≡ Some (record { file = j.file; stage = j.stage })
    by (Some p) (Some o) e = ap (λ (z : Job). Some (record { file = z.file; stage = z.stage })) (some_is _ j e)
    by None o e = nothing_there j e
    by (Some p) None e = nothing_there j e

pub calls_are : (seat : Seat) (j : Job) → job seat ≡ Some j → client.calls_of seat.client ≡ client.pending_in j.stage ++ seat.client.forgotten
calls_are seat j e = ap (λ (o : Option Task). client.pending o ++ seat.client.forgotten) (task_is seat j e)

-- ---- a close that may go on, with this of its temporary file

pub record Ready (book : Book) (k : Core) (qs : List Queue) (n : ℕ) (x : Session) (q : Queue) (t : Told) (ts : List Told) (j : Job) (g : Here book k qs n x q t ts j) (st : Upload) : Type 0 where
  pub quiet : Quiet k n q
  pub word : stage_word j.stage ≡ words.Close
  pub owed : IsOwed book x.closing j (local_of g)
  pub content : contents_at g st.temp ≡ local_of g
  pub temp : st.temp < (seat_at g).client.next_temp
  pub storing : IsStoring (local_of g) st
  pub pend : (f : Pending → ℕ) (y : ℕ) → times y (map f (map store_pending st.under)) + times y (map f (seat_at g).client.forgotten) + times y (f (told_pending t) ∷ []) ≡ times y (map f (client.calls_of (seat_at g).client))
  pub xids : (seat_at g).client.next_xid + 80001 + names_in st.under ≤ 4294967296 + 2 * st.named
  -- what else is on its way is of this store
  pub places : AllAsks (IsInPlace (Some (on j (stage.Storing st))) (locals_of (seat_at g).client)) q.ups
  pub wants : AllTolds (IsWanted book (Some (on j (stage.Storing st)))) ts
  pub known : WasThere book j.file
  pub older : (i : ℕ) (w : UploadCall) → slice_get st.under i ≡ Some w → w.xid < (seat_at g).client.next_xid

-- and what its temporary file holds, where the server has the connection
abbrev pub Filled : (book : Book) (k : Core) (qs : List Queue) (n : ℕ) (x : Session) (q : Queue) (t : Told) (ts : List Told) (j : Job) (g : Here book k qs n x q t ts j) (us : List Ask) (st : Upload) → Type 0
Filled book k qs n x q t ts j g us st = x.hung ≡ false → (w : Temp) × OneTemp k.server.temps n st.temp w × Holds (local_of g) us ts st w.pieces

-- the calls and answers that were on their way are of the store that it goes on to
stays_in_order : (book : Book) (k : Core) (qs : List Queue) (n : ℕ) (x : Session) (q : Queue) (t : Told) (ts : List Told) (j : Job) (g : Here book k qs n x q t ts j) (st more : Upload) → Ready book k qs n x q t ts j g st → more.temp ≡ st.temp → more.chunks ≡ st.chunks → ((y : ℕ) (u : UploadCall) → store_at st.under y ≡ Some u → store_at more.under y ≡ Some u)
    → AllAsks (IsInPlace (Some (on j (stage.Storing more))) (locals_of (seat_at g).client)) q.ups × AllTolds (IsWanted book (Some (on j (stage.Storing more)))) ts
stays_in_order book k qs n x q t ts j g st more w temp chunks found = (
  all_map (IsInPlace (Some (on j (stage.Storing st))) (locals_of (seat_at g).client)) (IsInPlace (Some (on j (stage.Storing more))) (locals_of (seat_at g).client)) (λ a h. place_over (on j (stage.Storing st)) (on j (stage.Storing more)) (locals_of (seat_at g).client) st more a.xid a.call (over a.xid) h) q.ups w.places,
  all_map (IsWanted book (Some (on j (stage.Storing st)))) (IsWanted book (Some (on j (stage.Storing more)))) (λ u h. want_over book (on j (stage.Storing st)) (on j (stage.Storing more)) st more u.xid u.reply (over u.xid) h) ts w.wants,
)
  where
    over : (y : ℕ) → GoesOver (on j (stage.Storing st)) (on j (stage.Storing more)) st more y
    over y = record { was = refl; is = refl; file = refl; temp = temp; chunks = chunks; found = found y }

known_on : (book : Book) (j i : Job) (s : Stage) → WasThere book j.file → Some (on j s) ≡ Some i → WasThere book i.file
known_on book j i s known e = subst (λ (z : Job). WasThere book z.file) (some_is (on j s) i e) known

-- no stage of a close waits for a GETHASH or a READ, and a commit's xid is new
again_storing : (next : ℕ) (j : Job) (st : Upload) → Again next j (stage.Storing st)
again_storing next j st = record { lease = λ y lt e. nothing_there y e; walk = λ y w lt e. absurd cc; hash = λ y o lt e. nothing_there o e; commit = λ y lt e. absurd cc; read = λ y c f lt e. absurd cc }

again_committing : (next : ℕ) (j : Job) (y : ℕ) → next ≤ y → Again next j (stage.Committing y)
again_committing next j y le = record { lease = λ z lt e. nothing_there z e; walk = λ z w lt e. absurd cc; hash = λ z o lt e. nothing_there o e; commit = λ z lt e. let same : y ≡ z = ap xid_of e in omega (arith, le, lt, same); read = λ z c f lt e. absurd cc }
  where
    xid_of : Stage → ℕ
    xid_of (stage.Committing y) = y
    xid_of s = 0

abbrev names_if : Way → ℕ → ℕ
names_if w n = elim w [ way.Named ↦ suc n | way.Whole ↦ n ]

names_both : (us vs : List UploadCall) → names_in (us ++ vs) ≡ names_in us + names_in vs
names_both [] vs = omega arith
names_both (u ∷ us) vs = by u.way (names_both us vs)
  where
    by : (w : Way) → names_in (us ++ vs) ≡ names_in us + names_in vs → names_if w (names_in (us ++ vs)) ≡ names_if w (names_in us) + names_in vs
    by way.Named e = omega (arith, e)
    by way.Whole e = e

-- what a call that is under way is one of: the first or the others
of_both : {A : Type 0} (xs ys : List A) (k : ℕ) (y : A) → slice_get (xs ++ ys) k ≡ Some y → ((m : ℕ) × (slice_get xs m ≡ Some y)) ⊎ ((m : ℕ) × (slice_get ys m ≡ Some y))
of_both [] ys k y e = inr (k, e)
of_both (x ∷ xs) ys zero y e = inl (0, e)
of_both (x ∷ xs) ys (suc k) y e = elim (of_both xs ys k y e) [ inl h ↦ inl (suc h.0, h.1) | inr h ↦ inr h ]

pub pendings_both : (us vs : List UploadCall) → map store_pending (us ++ vs) ≡ map store_pending us ++ map store_pending vs
pendings_both [] vs = refl
pendings_both (u ∷ us) vs = ap (λ l. store_pending u ∷ l) (pendings_both us vs)

-- ---- chunks are named

-- the CONDWRITEs
naming_fits : (lbfs : ℕ) → IsSpoken lbfs → (content : List ℕ) (temp : ℕ) (xid i : ℕ) (c : Chunk) → length content ≤ 67108864 → temp < 4294967296 → xid < 4294967296 → slice_get (chunks_of content) i ≡ Some c → CallFits lbfs xid (Name temp c)
naming_fits lbfs spoken content temp xid i c short t less at =
    let named = chunks_are_named content i c at in
    let whole = named.2 in
    (less, t, omega (arith, whole, short), len_at (chunks_of content) 0 (length content) i (chunks_in_row content) at, ap length named.0 ∙ sha1_len (chunk_bytes content c), spoken)
  where
    len_at : (cs : List Chunk) (from to i : ℕ) → AreInRow from cs to → slice_get cs i ≡ Some c → c.len ≤ 65536
    len_at [] from to i r e = nothing_there c e
    len_at (d ∷ ds) from to zero r e = subst (λ (z : Chunk). z.len ≤ 65536) (some_is d c e) r.2
    len_at (d ∷ ds) from to (suc i) r e = len_at ds (d.start + d.len) to i r.3 e

-- what the chunks that are named make of it
abbrev pub named : (lbfs : ℕ) → Upload → (next : ℕ) → Names
named lbfs st next = names_all lbfs st next

abbrev pub run_of : (lbfs : ℕ) (st : Upload) (next : ℕ) → Ran lbfs (names_from st next) (calls_most - length st.under) (named lbfs st next)
run_of lbfs st next = names_run lbfs (calls_most - length st.under) (names_from st next)

-- the calls that name them
abbrev pub naming : (lbfs : ℕ) (st : Upload) (next : ℕ) → List Ask
naming lbfs st next = (run_of lbfs st next).asks

pub naming_sent : (lbfs : ℕ) (st : Upload) (next : ℕ) → (named lbfs st next).send ≡ map ask_message (naming lbfs st next)
naming_sent lbfs st next = (run_of lbfs st next).send_is

-- ---- chunks that are named are noted

-- what these messages name of the content is hashed
abbrev pub NamesNoted : {book : Book} {k : Core} {qs : List Queue} {n : ℕ} {x : Session} {q : Queue} {t : Told} {ts : List Told} {j : Job} → Here book k qs n x q t ts j → List Message → Type 0
NamesNoted {book} {k} {qs} {n} {x} {q} {t} {ts} {j} g ms = (b : List ℕ) → Contains (parts_named (local_of g) ms) b → Contains (hashed_of book.moments) b

part_named : (v : List ℕ) (us : List Ask) (m temp : ℕ) (a : Ask) (c : Chunk) → slice_get us m ≡ Some a → a.call ≡ Name temp c → Contains (parts_named v (map ask_message us)) (chunk_bytes v c)
part_named v [] m temp a c at e = nothing_there a at
part_named v (u ∷ us) (suc m) temp a c at e = Contains-append_right (part_of_named v (ask_message u)) (parts_named v (map ask_message us)) (chunk_bytes v c) (part_named v us m temp a c at e)
part_named v (u ∷ us) zero temp a c at e = subst (λ (d : Call). Contains (part_of_named v (call_message u.lbfs u.xid d) ++ parts_named v (map ask_message us)) (chunk_bytes v c)) (sym (ap (λ (z : Ask). z.call) (some_is u a at) ∙ e)) (Contains-append_left (chunk_bytes v c ∷ []) (parts_named v (map ask_message us)) (chunk_bytes v c) (Contains-push [] (chunk_bytes v c)))

-- so each CONDWRITE is of a part that was hashed
names_pieces : (book : Book) (k : Core) (qs : List Queue) (n : ℕ) (x : Session) (q : Queue) (t : Told) (ts : List Told) (j : Job) (g : Here book k qs n x q t ts j) (st : Upload) → Ready book k qs n x q t ts j g st → NamesNoted g (named (seat_at g).client.lbfs st (seat_at g).client.next_xid).send → AllAsks (IsPiece (hashed_of book.moments) (contents_at g)) (naming (seat_at g).client.lbfs st (seat_at g).client.next_xid)
names_pieces book k qs n x q t ts j g st w noted = all_at (IsPiece (hashed_of book.moments) (contents_at g)) r.asks one
  where
    r : Ran (seat_at g).client.lbfs (names_from st (seat_at g).client.next_xid) (calls_most - length st.under) (named (seat_at g).client.lbfs st (seat_at g).client.next_xid)
    r = run_of (seat_at g).client.lbfs st (seat_at g).client.next_xid

    one : (m : ℕ) (a : Ask) → slice_get r.asks m ≡ Some a → IsPiece (hashed_of book.moments) (contents_at g) a
    one m a at =
        let h = name_noted (seat_at g).client.lbfs st.temp st.chunks (seat_at g).client.next_xid st.named r.notes r.asks (named (seat_at g).client.lbfs st (seat_at g).client.next_xid).next_xid m a r.named at in
        let call : a.call ≡ Name st.temp h.1 = ap (λ (z : Ask). z.call) h.5 in
        let is = chunks_are_named (local_of g) h.0.index h.1 (ap (λ (l : List Chunk). slice_get l h.0.index) (sym w.storing.chunks) ∙ h.4) in
        let own : IsNamed (hashed_of book.moments) (local_of g) h.1 = record { digest = is.0; len = is.1; there = noted (chunk_bytes (local_of g) h.1) (subst (λ (l : List Message). Contains (parts_named (local_of g) l) (chunk_bytes (local_of g) h.1)) (sym (naming_sent (seat_at g).client.lbfs st (seat_at g).client.next_xid)) (part_named (local_of g) r.asks m st.temp a h.1 at call)) } in
        subst (PieceOf (hashed_of book.moments) (contents_at g)) (sym call) (subst (λ (l : List ℕ). IsNamed (hashed_of book.moments) l h.1) (sym w.content) own)

-- the answers that are on their way are to calls that were sent
known_below : (book : Book) (k : Core) (qs : List Queue) (n : ℕ) (x : Session) (q : Queue) (t : Told) (ts : List Told) (j : Job) (g : Here book k qs n x q t ts j) (z : ℕ) → DownKnown ts z → z < (seat_at g).client.next_xid
known_below book k qs n x q t ts j g z d =
    let h = session_at book k qs n x q t ts j g in
    all_in (λ (u : Told). u.xid < h.seat.client.next_xid) ts d.0 (record { xid = z; reply = known_reply }) (subst (AllTolds (λ u. u.xid < h.seat.client.next_xid)) g.first (tolds_below n k.server.waiting q x.hung h.seat.client.next_xid (client.calls_of h.seat.client) (h.talk g.uncut).balanced)).1 d.1

-- where nothing is under way all chunks were named, since one more would have been
idle_is_stored : (n : Names) (st : Upload) (notes : List UploadCall) → n.store ≡ record st { named = st.named + length notes; under = st.under ++ notes } → (length st.under < calls_most → (c : Chunk) → slice_get st.chunks st.named ≡ Some c → 0 < length notes) → st.named + length notes ≤ length st.chunks → is_stored n.store ≡ false → 0 < length n.store.under
idle_is_stored n st notes is some le off = by st.under notes refl refl
  where
    off_as : (us vs : List UploadCall) → st.under ≡ us → notes ≡ vs → (is_none (us ++ vs) && (st.named + length vs == length st.chunks)) ≡ false
    off_as us vs e f = ap (λ (l : List UploadCall). is_none (l ++ vs) && (st.named + length vs == length st.chunks)) (sym e) ∙ ap (λ (l : List UploadCall). is_none (st.under ++ l) && (st.named + length l == length st.chunks)) (sym f) ∙ ap is_stored (sym is) ∙ off

    long : (us vs : List UploadCall) → st.under ≡ us → notes ≡ vs → 0 < length (us ++ vs) → 0 < length n.store.under
    long us vs e f lt = subst (λ (z : Upload). 0 < length z.under) (sym is) (subst (λ (l : List UploadCall). 0 < length (l ++ notes)) (sym e) (subst (λ (l : List UploadCall). 0 < length (us ++ l)) (sym f) lt))

    by : (us vs : List UploadCall) → st.under ≡ us → notes ≡ vs → 0 < length n.store.under
    by (u ∷ us) vs e f = long (u ∷ us) vs e f (omega arith)
    by [] (v ∷ vs) e f = long [] (v ∷ vs) e f (omega arith)
    by [] [] e f =
        let differs = off_as [] [] e f in
        let none = ap (λ (l : List UploadCall). length l) e in
        let ended = ap (λ (l : List UploadCall). length l) f in
        let apart : st.named ≡ length st.chunks → ⊥ = λ same. absurd (false_and_true (st.named + 0 == length st.chunks) differs (eq-eqb (st.named + 0) (length st.chunks) (omega (arith, same)))) in
        let c = there_at st.chunks st.named (less le ended apart) in
        let one = some_call in
        let there = some (omega (arith, none, one)) c.0 c.1 in
        absurd (omega (arith, there, ended))
      where
        less : st.named + length notes ≤ length st.chunks → length notes ≡ 0 → (st.named ≡ length st.chunks → ⊥) → st.named < length st.chunks
        less le none apart = under (st.named == length st.chunks) refl
          where
            ne_of : (a b : ℕ) → (a == b) ≡ false → (a < b) ⊎ (b < a)
            ne_of a b e = grind (arith, nat_tests, e)

            under : (b : Bool) → (st.named == length st.chunks) ≡ b → st.named < length st.chunks
            under true e = absurd (apart (eqb-true st.named (length st.chunks) e))
            under false e = let ne = ne_of st.named (length st.chunks) e in omega (arith, le, none, ne)

pub goes_storing : (book : Book) (k : Core) (qs : List Queue) (n : ℕ) (x : Session) (q : Queue) (t : Told) (ts : List Told) (j : Job) (g : Here book k qs n x q t ts j) (st : Upload) → Ready book k qs n x q t ts j g st
    → (let c = (seat_at g).client in
    Filled book k qs n x q t ts j g q.ups st → NamesNoted g (named c.lbfs st c.next_xid).send → is_stored (named c.lbfs st c.next_xid).store ≡ false → GoesOn book k qs n x q t ts j g (stage.Storing (named c.lbfs st c.next_xid).store) (named c.lbfs st c.next_xid).next_xid c.forgotten (naming c.lbfs st c.next_xid))
goes_storing book k qs n x q t ts j g st w filled noted off =
    let h = session_at book k qs n x q t ts j g in
    let c = h.seat.client in
    let r = run_of c.lbfs st c.next_xid in
    let more = named c.lbfs st c.next_xid in
    let seat_was = g.kept.seats x.owner h.seat h.owner in
    let counts = named_count c.lbfs st.temp st.chunks c.next_xid st.named r.notes r.asks more.next_xid r.named in
    let inside = named_inside c.lbfs st.temp st.chunks c.next_xid st.named r.notes r.asks more.next_xid w.storing.named r.named in
    let few = ap (λ (l : List Chunk). length l) w.storing.chunks in
    let short = subst (λ (l : List ℕ). length l ≤ 67108864) w.content (h.lengths st.temp) in
    let most = chunks_few (local_of g) short in
    let one = counts.0 in
    let two = counts.1 in
    let three = names_both st.under r.notes in
    let room = w.xids in
    let temp_less = w.temp in
    let next_ok = seat_was.next.1 in
    let all_ok = seat_was.next.0 in
    record {
      quiet = w.quiet;
      word = sym w.word;
      again = again_storing c.next_xid j more.store;
      moves = λ f y.
          let a = ap (λ (z : Upload). times y (map f (map store_pending z.under ++ c.forgotten))) r.store_is in
          let b = times_map_append f y (map store_pending (st.under ++ r.notes)) c.forgotten in
          let d = pend_both f y st.under r.notes in
          let e = named_times f y c.lbfs st.temp st.chunks c.next_xid st.named r.notes r.asks more.next_xid r.named in
          let p = w.pend f y in
          omega (arith, a, b, d, e, p);
      rising = named_rising c.lbfs st.temp st.chunks c.next_xid st.named r.notes r.asks more.next_xid r.named;
      asked = named_all (IsAsked (Some (on j (stage.Storing more.store)))) c.lbfs st.temp st.chunks c.next_xid st.named r.notes r.asks more.next_xid (λ z i d at le lt. tt) r.named;
      fits = named_all (λ a. CallFits a.lbfs a.xid a.call) c.lbfs st.temp st.chunks c.next_xid st.named r.notes r.asks more.next_xid (λ z i d at le lt. naming_fits c.lbfs (spoken_at book k qs n x q t ts j g) (local_of g) st.temp z i d short (omega (arith, temp_less, next_ok, all_ok)) (omega (arith, lt, one, two, three, room, inside, few, most)) (ap (λ (l : List Chunk). slice_get l i) (sym w.storing.chunks) ∙ at)) r.named;
      speak = named_all (λ a. a.lbfs ≡ book.lbfs) c.lbfs st.temp st.chunks c.next_xid st.named r.notes r.asks more.next_xid (λ z i d at le lt. speaks_at book k qs n x q t ts j g) r.named;
      commits = named_all (IsCommit book x.closing x.cut (Some (on j (stage.Storing more.store))) h.contents) c.lbfs st.temp st.chunks c.next_xid st.named r.notes r.asks more.next_xid (λ z i d at le lt. tt) r.named;
      pieces = names_pieces book k qs n x q t ts j g st w noted;
      under = named_all (λ a. TempUnder c.next_temp a.call) c.lbfs st.temp st.chunks c.next_xid st.named r.notes r.asks more.next_xid (λ z i d at le lt. w.temp) r.named;
      few = let z = named_commits c.lbfs st.temp st.chunks c.next_xid st.named r.notes r.asks more.next_xid r.named in omega (arith, z);
      fetch = tt;
      busy = subst (λ m. 0 < m) (sym (map_count more.store.under)) (idle_is_stored more st r.notes r.store_is (λ lt d at. r.some (omega (arith, lt)) d at) inside off);
      closes = subst (λ (z : Upload). CloseOf book x.closing h.contents c.next_temp (on j (stage.Storing more.store)) (local_of g) (stage.Storing z)) (sym r.store_is) (owed_on w.owed, w.content, w.temp, record { chunks = w.storing.chunks; named = inside; inside = λ m u at. elim (of_both st.under r.notes m u at) [ inl old ↦ let lt = w.storing.inside old.0 u old.1 in omega (arith, lt) | inr new ↦ named_note c.lbfs st.temp st.chunks c.next_xid st.named r.notes r.asks more.next_xid new.0 u r.named new.1 ] });
      trying = λ m y e. absurd cc;
      xids = subst (λ (z : Upload). HasXids more.next_xid (stage.Storing z)) (sym r.store_is) (omega (arith, one, two, three, room));
      bounded = omega (arith, one, two, three, room, inside, few, most);
      orderly = subst (λ (z : Upload). GoesInOrder book k qs n x q t ts j g (stage.Storing z) more.next_xid c.forgotten r.asks) (sym r.store_is) (λ cache index reading. record {
        asks = all_unless (IsInPlace (Some (on j (stage.Storing after))) (locals_of c)) x.hung q.ups r.asks stays.0 (all_at (IsInPlace (Some (on j (stage.Storing after))) (locals_of c)) r.asks (λ i a at. names_in_place a (name_noted c.lbfs st.temp st.chunks c.next_xid st.named r.notes r.asks more.next_xid i a r.named at)));
        tolds = stays.1;
        holds = λ up. subst (λ (b : Bool). HeldIn k.server.temps n (unless b q.ups r.asks) ts (local_of g) (stage.Storing after)) (sym up) (let f = filled up in (f.0, f.1, holds_named (local_of g) q.ups r.asks ts st f.0.pieces c.lbfs c.next_xid more.next_xid r.notes r.named w.storing.inside (known_below book k qs n x q t ts j g) f.2));
        tree = λ i e z. known_on book j i (stage.Storing after) w.known e;
      });
    }
  where
    after : Upload
    after = record st { named = st.named + length (run_of (seat_at g).client.lbfs st (seat_at g).client.next_xid).notes; under = st.under ++ (run_of (seat_at g).client.lbfs st (seat_at g).client.next_xid).notes }

    stays : AllAsks (IsInPlace (Some (on j (stage.Storing after))) (locals_of (seat_at g).client)) q.ups × AllTolds (IsWanted book (Some (on j (stage.Storing after)))) ts
    stays = stays_in_order book k qs n x q t ts j g st after w refl refl (λ y u e. store_front st.under (run_of (seat_at g).client.lbfs st (seat_at g).client.next_xid).notes y u e)

    names_in_place : (a : Ask) → (u : UploadCall) × (c : Chunk) × (store_at (run_of (seat_at g).client.lbfs st (seat_at g).client.next_xid).notes a.xid ≡ Some u) × (u.way ≡ way.Named) × (slice_get st.chunks u.index ≡ Some c) × (a ≡ record { lbfs = (seat_at g).client.lbfs; xid = a.xid; call = Name st.temp c }) × ((seat_at g).client.next_xid ≤ a.xid) → IsInPlace (Some (on j (stage.Storing after))) (locals_of (seat_at g).client) a
    names_in_place a h =
        let le = h.6 in
        let found : store_at (st.under ++ (run_of (seat_at g).client.lbfs st (seat_at g).client.next_xid).notes) a.xid ≡ Some h.0 = store_behind st.under (run_of (seat_at g).client.lbfs st (seat_at g).client.next_xid).notes a.xid (λ i z at e. let lt = w.older i z at in omega (arith, lt, le, e)) ∙ h.2 in
        let call : Call.Name st.temp h.1 ≡ a.call = ap (λ (z : Ask). z.call) (sym h.5) in
        let s : IsStore (Some (on j (stage.Storing after))) a.xid way.Named = record { of = on j (stage.Storing after); is = refl; store = after; at = refl; call = h.0; found = found; way = h.3 } in
        subst (InPlace (Some (on j (stage.Storing after))) (locals_of (seat_at g).client) a.xid) call (s, refl, h.4)

    pend_both : (f : Pending → ℕ) (y : ℕ) (us vs : List UploadCall) → times y (map f (map store_pending (us ++ vs))) ≡ times y (map f (map store_pending us)) + times y (map f (map store_pending vs))
    pend_both f y us vs = ap (λ l. times y (map f l)) (pendings_both us vs) ∙ times_map_append f y (map store_pending us) (map store_pending vs)

    map_count : (us : List UploadCall) → length (map store_pending us) ≡ length us
    map_count [] = refl
    map_count (u ∷ us) = ap suc (map_count us)

    owed_on : IsOwed book x.closing j (local_of g) → IsOwed book x.closing (on j (stage.Storing (named (seat_at g).client.lbfs st (seat_at g).client.next_xid).store)) (local_of g)
    owed_on o = record { known = o.known; op = o.op; there = o.there; unmade = o.unmade; word_is = o.word_is; value_is = o.value_is; small = o.small }

-- ---- all chunks are stored, and the commit goes out

abbrev pub committing : (lbfs : ℕ) (st : Upload) (next file : ℕ) → (size : ℕ) → List Ask
committing lbfs st next file size = naming lbfs st next ++ record { lbfs = lbfs; xid = (named lbfs st next).next_xid; call = Commit (named lbfs st next).store.temp file size } ∷ []

pub committing_sent : (lbfs : ℕ) (st : Upload) (next file size : ℕ) → (named lbfs st next).send ++ commit_call lbfs (named lbfs st next).next_xid (named lbfs st next).store.temp file size ∷ [] ≡ map ask_message (committing lbfs st next file size)
committing_sent lbfs st next file size = ap (λ l. l ++ commit_call lbfs (named lbfs st next).next_xid (named lbfs st next).store.temp file size ∷ []) (naming_sent lbfs st next) ∙ sym (map_one (naming lbfs st next) (record { lbfs = lbfs; xid = (named lbfs st next).next_xid; call = Commit (named lbfs st next).store.temp file size }))
  where
    map_one : (us : List Ask) (a : Ask) → map ask_message (us ++ a ∷ []) ≡ map ask_message us ++ ask_message a ∷ []
    map_one [] a = refl
    map_one (u ∷ us) a = ap (λ l. ask_message u ∷ l) (map_one us a)

-- nothing is under way then
stored_idle : (n : Names) (st : Upload) (notes : List UploadCall) → n.store ≡ record st { named = st.named + length notes; under = st.under ++ notes } → is_stored n.store ≡ true → (st.under ≡ []) × (notes ≡ [])
stored_idle n st notes is on = by st.under notes (ap is_stored (sym is) ∙ on)
  where
    by : (us vs : List UploadCall) → (is_none (us ++ vs) && (st.named + length notes == length st.chunks)) ≡ true → (us ≡ []) × (vs ≡ [])
    by [] [] e = (refl, refl)
    by (u ∷ us) vs e = absurd cc
    by [] (v ∷ vs) e = absurd cc

commits_more : (us : List Ask) (a : Ask) → commits_in us ≡ 0 → commits_in (us ++ a ∷ []) ≤ 1
commits_more us a e = let both = commits_both us (a ∷ []) in let one = change_once a.call in omega (arith, e, both, one)

pub goes_committing : (book : Book) (k : Core) (qs : List Queue) (n : ℕ) (x : Session) (q : Queue) (t : Told) (ts : List Told) (j : Job) (g : Here book k qs n x q t ts j) (st : Upload) → j.file < 18446744073709551616 → Ready book k qs n x q t ts j g st
    → (let c = (seat_at g).client in
    Filled book k qs n x q t ts j g q.ups st → NamesNoted g (named c.lbfs st c.next_xid).send → is_stored (named c.lbfs st c.next_xid).store ≡ true → GoesOn book k qs n x q t ts j g (stage.Committing (named c.lbfs st c.next_xid).next_xid) ((named c.lbfs st c.next_xid).next_xid + 1) c.forgotten (committing c.lbfs st c.next_xid j.file (length (local_of g))))
goes_committing book k qs n x q t ts j g st fits_file w filled noted on_ =
    let h = session_at book k qs n x q t ts j g in
    let c = h.seat.client in
    let r = run_of c.lbfs st c.next_xid in
    let more = named c.lbfs st c.next_xid in
    let s : Stage = stage.Committing more.next_xid in
    let a : Ask = record { lbfs = c.lbfs; xid = more.next_xid; call = Commit more.store.temp j.file (length (local_of g)) } in
    let seat_was = g.kept.seats x.owner h.seat h.owner in
    let counts = named_count c.lbfs st.temp st.chunks c.next_xid st.named r.notes r.asks more.next_xid r.named in
    let inside = named_inside c.lbfs st.temp st.chunks c.next_xid st.named r.notes r.asks more.next_xid w.storing.named r.named in
    let few = ap (λ (l : List Chunk). length l) w.storing.chunks in
    let short = subst (λ (l : List ℕ). length l ≤ 67108864) w.content (h.lengths st.temp) in
    let most = chunks_few (local_of g) short in
    let one = counts.0 in
    let two = counts.1 in
    let three = names_both st.under r.notes in
    let room = w.xids in
    let temp_less = w.temp in
    let next_ok = seat_was.next.1 in
    let all_ok = seat_was.next.0 in
    let same_temp : more.store.temp ≡ st.temp = ap (λ (z : Upload). z.temp) r.store_is in
    let idle = stored_idle more st r.notes r.store_is on_ in
    let bound : more.next_xid + 1 ≤ 4294967296 = omega (arith, one, two, three, room, inside, few, most) in
    let of = job_op book k qs x h.seat j g.kept h.owner g.job_is in
    let same_op : w.owed.op ≡ of.op = some_is w.owed.op of.op (sym w.owed.there ∙ of.there) in
    record {
      quiet = w.quiet;
      word = sym w.word;
      again = again_committing c.next_xid j more.next_xid (named_bound c.lbfs st.temp st.chunks c.next_xid st.named r.notes r.asks more.next_xid r.named);
      moves = λ f y.
          let e = named_times f y c.lbfs st.temp st.chunks c.next_xid st.named r.notes r.asks more.next_xid r.named in
          let p = w.pend f y in
          let d = ap (λ (l : List UploadCall). times y (map f (map store_pending l))) idle.0 in
          let m = ap (λ (l : List UploadCall). times y (map f (map store_pending l))) idle.1 in
          let u = times_map_append (λ (b : Ask). f (ask_pending b)) y r.asks (a ∷ []) in
          let v = times_append y (f (ask_pending a) ∷ []) (map f c.forgotten) in
          omega (arith, e, p, d, m, u, v);
      rising = rising_append c.next_xid r.asks (a ∷ []) more.next_xid (more.next_xid + 1) (named_rising c.lbfs st.temp st.chunks c.next_xid st.named r.notes r.asks more.next_xid r.named) (omega arith, omega arith);
      asked = all_append (IsAsked (Some (on j s))) r.asks (a ∷ []) (named_all (IsAsked (Some (on j s))) c.lbfs st.temp st.chunks c.next_xid st.named r.notes r.asks more.next_xid (λ z i d at le lt. tt) r.named) (tt, tt);
      fits = all_append (λ (b : Ask). CallFits b.lbfs b.xid b.call) r.asks (a ∷ []) (named_all (λ b. CallFits b.lbfs b.xid b.call) c.lbfs st.temp st.chunks c.next_xid st.named r.notes r.asks more.next_xid (λ z i d at le lt. naming_fits c.lbfs (spoken_at book k qs n x q t ts j g) (local_of g) st.temp z i d short (omega (arith, temp_less, next_ok, all_ok)) (omega (arith, lt, bound)) (ap (λ (l : List Chunk). slice_get l i) (sym w.storing.chunks) ∙ at)) r.named) ((omega (arith, bound), omega (arith, same_temp, temp_less, next_ok, all_ok), fits_file, short, spoken_at book k qs n x q t ts j g), tt);
      speak = all_append (λ (b : Ask). b.lbfs ≡ book.lbfs) r.asks (a ∷ []) (named_all (λ b. b.lbfs ≡ book.lbfs) c.lbfs st.temp st.chunks c.next_xid st.named r.notes r.asks more.next_xid (λ z i d at le lt. speaks_at book k qs n x q t ts j g) r.named) (speaks_at book k qs n x q t ts j g, tt);
      commits = all_append (IsCommit book x.closing x.cut (Some (on j s)) h.contents) r.asks (a ∷ []) (named_all (IsCommit book x.closing x.cut (Some (on j s)) h.contents) c.lbfs st.temp st.chunks c.next_xid st.named r.notes r.asks more.next_xid (λ z i d at le lt. tt) r.named) (
        (
          record {
            place = j.place;
            known = w.owed.known;
            op = w.owed.op;
            there = w.owed.there;
            unmade = w.owed.unmade;
            word_is = w.owed.word_is;
            file_is = ap (λ (z : Op). z.file) same_op ∙ of.file (close_unnamed j.stage w.word);
            size_is = ap (λ (l : List ℕ). length l) (w.owed.value_is ∙ sym w.content ∙ ap h.contents (sym same_temp));
            value_is = inl (w.owed.value_is ∙ sym w.content ∙ ap h.contents (sym same_temp));
            waited = λ u. refl;
          },
          ap (λ (l : List ℕ). length l) (sym w.content) ∙ ap (λ m. length (h.contents m)) (sym same_temp),
        ),
        tt,
      );
      pieces = all_append (IsPiece (hashed_of book.moments) h.contents) r.asks (a ∷ []) (names_pieces book k qs n x q t ts j g st w noted) (tt, tt);
      under = all_append (λ (b : Ask). TempUnder c.next_temp b.call) r.asks (a ∷ []) (named_all (λ b. TempUnder c.next_temp b.call) c.lbfs st.temp st.chunks c.next_xid st.named r.notes r.asks more.next_xid (λ z i d at le lt. w.temp) r.named) (subst (λ (m : ℕ). m < c.next_temp) (sym same_temp) w.temp, tt);
      few = commits_more r.asks a (named_commits c.lbfs st.temp st.chunks c.next_xid st.named r.notes r.asks more.next_xid r.named);
      fetch = tt;
      busy = omega arith;
      closes = (w.owed.op, w.owed.there, w.owed.word_is, w.owed.value_is);
      trying = λ m y e. absurd cc;
      xids = bound;
      bounded = bound;
      orderly = λ cache index reading. record {
        asks = all_unless (IsInPlace (Some (on j s)) (locals_of c)) x.hung q.ups (r.asks ++ a ∷ []) (fetching_place (Some (on j s)) (locals_of c) q.ups (idle_ups idle.0)) (all_append (IsInPlace (Some (on j s)) (locals_of c)) r.asks (a ∷ []) (subst (AllAsks (IsInPlace (Some (on j s)) (locals_of c))) (sym (no_asks (seat_at g).client.lbfs st.temp st.chunks c.next_xid st.named r.notes r.asks more.next_xid idle.1 r.named)) tt) ((on j s, refl, refl, refl, refl), tt));
        tolds = fetched_wanted book (Some (on j s)) ts (idle_downs idle.0);
        holds = λ up. subst (λ (b : Bool). HeldIn k.server.temps n (unless b q.ups (r.asks ++ a ∷ [])) ts (local_of g) s) (sym up) (λ u. full (filled up) idle.0 idle.1 u, λ gone. absurd (gone (length (q.ups ++ r.asks), more.store.temp, j.file, length (local_of g), c.lbfs, ap (λ (l : List Ask). slice_get l (length (q.ups ++ r.asks))) (sym (append_assoc q.ups r.asks (a ∷ []))) ∙ at_end (q.ups ++ r.asks) a)));
        tree = λ i e z. known_on book j i s w.known e;
      };
    }
  where
    idle_ups : st.under ≡ [] → AllFetching q.ups
    idle_ups none = all_map (IsInPlace (Some (on j (stage.Storing st))) (locals_of (seat_at g).client)) (λ a. IsFetching a.call) (λ a h. idle_call (on j (stage.Storing st)) (locals_of (seat_at g).client) st a.xid a.call refl none h) q.ups w.places

    idle_downs : st.under ≡ [] → AllFetched ts
    idle_downs none = all_map (IsWanted book (Some (on j (stage.Storing st)))) (λ u. IsFetched u.reply) (λ u h. idle_reply book (on j (stage.Storing st)) st u.xid u.reply refl none h) ts w.wants

    no_commit : (us : List Ask) → AllFetching us → (i : ℕ) (v y m f size : ℕ) → slice_get us i ≡ Some (record { lbfs = v; xid = y; call = Commit m f size }) → ⊥
    no_commit us h i v y m f size at = all_in (λ (b : Ask). IsFetching b.call) us i (record { lbfs = v; xid = y; call = Commit m f size }) h at

    -- the temporary file holds all
    full : (f : (z : Temp) × OneTemp k.server.temps n st.temp z × Holds (local_of g) q.ups ts st z.pieces) → st.under ≡ [] → (run_of (seat_at g).client.lbfs st (seat_at g).client.next_xid).notes ≡ [] → (u : UpCommit (q.ups ++ committing (seat_at g).client.lbfs st (seat_at g).client.next_xid j.file (length (local_of g))) (named (seat_at g).client.lbfs st (seat_at g).client.next_xid).next_xid) → (z : Temp) × OneTemp k.server.temps n u.1 z × SameShape z.pieces (PiecesOf (local_of g) (λ c. true) (chunks_of (local_of g)))
    full f none ended u =
        let r = run_of (seat_at g).client.lbfs st (seat_at g).client.next_xid in
        let same_temp : (named (seat_at g).client.lbfs st (seat_at g).client.next_xid).store.temp ≡ st.temp = ap (λ (z : Upload). z.temp) r.store_is in
        let nothing = no_asks (seat_at g).client.lbfs st.temp st.chunks (seat_at g).client.next_xid st.named r.notes r.asks (named (seat_at g).client.lbfs st (seat_at g).client.next_xid).next_xid ended r.named in
        let at = ap (λ (l : List Ask). slice_get (q.ups ++ (l ++ record { lbfs = (seat_at g).client.lbfs; xid = (named (seat_at g).client.lbfs st (seat_at g).client.next_xid).next_xid; call = Commit (named (seat_at g).client.lbfs st (seat_at g).client.next_xid).store.temp j.file (length (local_of g)) } ∷ [])) u.0) (sym nothing) ∙ u.5 in
        elim (of_appended q.ups (record { lbfs = (seat_at g).client.lbfs; xid = (named (seat_at g).client.lbfs st (seat_at g).client.next_xid).next_xid; call = Commit (named (seat_at g).client.lbfs st (seat_at g).client.next_xid).store.temp j.file (length (local_of g)) }) u.0 _ at) [
          | inl last ↦
              let m : u.1 ≡ st.temp = commit_temp (ap (λ (z : Ask). z.call) last.1) ∙ same_temp in
              (f.0, subst (λ (z : ℕ). OneTemp k.server.temps n z f.0) (sym m) f.1, holds_all (local_of g) q.ups ts st f.0.pieces none (all_named none ended) f.2)
          | inr old ↦ absurd (no_commit q.ups (idle_ups none) u.0 u.4 _ u.1 u.2 u.3 old)
        ]
      where
        commit_temp : {m f s p h z : ℕ} → Commit m f s ≡ Commit p h z → m ≡ p
        commit_temp e = cc

        all_named : st.under ≡ [] → (run_of (seat_at g).client.lbfs st (seat_at g).client.next_xid).notes ≡ [] → length (chunks_of (local_of g)) ≤ st.named
        all_named a b =
            let r = run_of (seat_at g).client.lbfs st (seat_at g).client.next_xid in
            let e = ap is_stored (sym r.store_is) ∙ on_ in
            let few = ap (λ (l : List Chunk). length l) w.storing.chunks in
            let none = ap (λ (l : List UploadCall). length l) b in
            let c = counted (st.under ++ r.notes) (st.named + length r.notes) (length st.chunks) e in
            omega (arith, few, none, c)
          where
            counted : (us : List UploadCall) (p m : ℕ) → (is_none us && (p == m)) ≡ true → p ≡ m
            counted [] p m e = eqb-true p m e
            counted (u ∷ us) p m e = absurd cc

-- ---- the bytes of a chunk go out

abbrev pub sending : (lbfs : ℕ) (st : Upload) (next : ℕ) (content : List ℕ) → Chunk → List Ask
sending lbfs st next content c = record { lbfs = lbfs; xid = next; call = Send st.temp c.start (chunk_bytes content c) } ∷ []

pub goes_whole : (book : Book) (k : Core) (qs : List Queue) (n : ℕ) (x : Session) (q : Queue) (t : Told) (ts : List Told) (j : Job) (g : Here book k qs n x q t ts j) (st : Upload) (u : UploadCall) (d : Chunk) → Ready book k qs n x q t ts j g st → u.index < st.named → slice_get st.chunks u.index ≡ Some d
    → (let c = (seat_at g).client in
    Filled book k qs n x q t ts j g (q.ups ++ sending c.lbfs st c.next_xid (local_of g) d) (with_whole st u c.next_xid) → c.next_xid + 1 + 80001 + names_in st.under ≤ 4294967296 + 2 * st.named → GoesOn book k qs n x q t ts j g (stage.Storing (with_whole st u c.next_xid)) (c.next_xid + 1) c.forgotten (sending c.lbfs st c.next_xid (local_of g) d))
goes_whole book k qs n x q t ts j g st u d w inside at filled room =
    let h = session_at book k qs n x q t ts j g in
    let c = h.seat.client in
    let note : UploadCall = record { xid = c.next_xid; index = u.index; way = way.Whole } in
    let s : Stage = stage.Storing (with_whole st u c.next_xid) in
    let a : Ask = record { lbfs = c.lbfs; xid = c.next_xid; call = Send st.temp d.start (chunk_bytes (local_of g) d) } in
    let seat_was = g.kept.seats x.owner h.seat h.owner in
    let few = ap (λ (l : List Chunk). length l) w.storing.chunks in
    let short = subst (λ (l : List ℕ). length l ≤ 67108864) w.content (h.lengths st.temp) in
    let most = chunks_few (local_of g) short in
    let named_le = w.storing.named in
    let names = names_both st.under (note ∷ []) in
    let temp_less = w.temp in
    let next_ok = seat_was.next.1 in
    let all_ok = seat_was.next.0 in
    let there = ap (λ (l : List Chunk). slice_get l u.index) (sym w.storing.chunks) ∙ at in
    let chunk = chunks_are_named (local_of g) u.index d there in
    let whole = chunk.2 in
    let len = chunk.1 in
    let fits = naming_fits c.lbfs (spoken_at book k qs n x q t ts j g) (local_of g) st.temp c.next_xid u.index d short (omega (arith, temp_less, next_ok, all_ok)) (omega (arith, room, named_le, few, most)) there in
    let len_ok = fits.3 in
    record {
      quiet = w.quiet;
      word = sym w.word;
      again = again_storing c.next_xid j (with_whole st u c.next_xid);
      moves = λ f y.
          let b = times_map_append f y (map store_pending (st.under ++ note ∷ [])) c.forgotten in
          let e = ap (λ l. times y (map f l)) (pendings_both st.under (note ∷ [])) ∙ times_map_append f y (map store_pending st.under) (store_pending note ∷ []) in
          let p = w.pend f y in
          omega (arith, b, e, p);
      rising = (omega arith, omega arith);
      asked = (tt, tt);
      fits = ((fits.0, fits.1, fits.2, omega (arith, len, len_ok), spoken_at book k qs n x q t ts j g), tt);
      speak = (speaks_at book k qs n x q t ts j g, tt);
      commits = (tt, tt);
      pieces = (subst (λ (l : List ℕ). chunk_bytes (local_of g) d ≡ Rattle.std.specs.Prelude.take (length (chunk_bytes (local_of g) d)) (Rattle.std.specs.Prelude.drop d.start l)) (sym w.content) (ap (λ m. Rattle.std.specs.Prelude.take m (Rattle.std.specs.Prelude.drop d.start (local_of g))) (sym len)), tt);
      under = (w.temp, tt);
      few = omega arith;
      fetch = tt;
      busy = some_there st.under note;
      closes = (record { known = w.owed.known; op = w.owed.op; there = w.owed.there; unmade = w.owed.unmade; word_is = w.owed.word_is; value_is = w.owed.value_is; small = w.owed.small }, w.content, w.temp, record { chunks = w.storing.chunks; named = w.storing.named; inside = λ m v e. elim (of_appended st.under note m v e) [ inl new ↦ subst (λ (z : UploadCall). z.index < st.named) (sym new.1) inside | inr old ↦ w.storing.inside m v old ] });
      trying = λ m y e. absurd cc;
      xids = omega (arith, names, room);
      bounded = omega (arith, room, named_le, few, most);
      orderly = λ cache index reading. record {
        asks = all_unless (IsInPlace (Some (on j s)) (locals_of c)) x.hung q.ups (a ∷ []) stays.0 ((sent, refl, (d, at, refl, refl)), tt);
        tolds = stays.1;
        holds = λ up. subst (λ (b : Bool). HeldIn k.server.temps n (unless b q.ups (a ∷ [])) ts (local_of g) s) (sym up) (filled up);
        tree = λ i e z. known_on book j i s w.known e;
      };
    }
  where
    more : Upload
    more = with_whole st u (seat_at g).client.next_xid

    stays : AllAsks (IsInPlace (Some (on j (stage.Storing more))) (locals_of (seat_at g).client)) q.ups × AllTolds (IsWanted book (Some (on j (stage.Storing more)))) ts
    stays = stays_in_order book k qs n x q t ts j g st more w refl refl (λ y v e. store_front st.under (record { xid = (seat_at g).client.next_xid; index = u.index; way = way.Whole } ∷ []) y v e)

    sent : IsStore (Some (on j (stage.Storing more))) (seat_at g).client.next_xid way.Whole
    sent = record {
      of = on j (stage.Storing more);
      is = refl;
      store = more;
      at = refl;
      call = record { xid = (seat_at g).client.next_xid; index = u.index; way = way.Whole };
      found = store_behind st.under (record { xid = (seat_at g).client.next_xid; index = u.index; way = way.Whole } ∷ []) (seat_at g).client.next_xid (λ i z f e. let lt = w.older i z f in omega (arith, lt, e)) ∙ ap (λ b. cond b (Some (record { xid = (seat_at g).client.next_xid; index = u.index; way = way.Whole })) None) (eq-eqb (seat_at g).client.next_xid (seat_at g).client.next_xid refl);
      way = refl;
    }

    some_there : (us : List UploadCall) (v : UploadCall) → 0 < length (map store_pending (us ++ v ∷ []))
    some_there [] v = omega arith
    some_there (u ∷ us) v = omega arith

-- ---- what is answered

-- the temporary file was made
pub ready_made : (book : Book) (k : Core) (qs : List Queue) (n : ℕ) (x : Session) (q : Queue) (t : Told) (ts : List Told) (j : Job) (g : Here book k qs n x q t ts j) (temp : ℕ) → j.stage ≡ stage.Making t.xid temp → reply_program t.reply ≡ program.Lb lb_proc.MkTmpFile → Quiet k n q → Ready book k qs n x q t ts j g (store_of temp (local_of g))
ready_made book k qs n x q t ts j g temp waits answers quiet =
    let h = session_at book k qs n x q t ts j g in
    let c = h.seat.client in
    let seat_was = g.kept.seats x.owner h.seat h.owner in
    let close = subst (CloseOf book x.closing h.contents c.next_temp j (local_of g)) waits (h.closes g.uncut j g.job_is) in
    let room = subst (HasXids c.next_xid) waits (seat_was.xids j g.job_is) in
    record {
      quiet = quiet;
      word = ap stage_word waits;
      owed = close.0;
      content = close.1;
      temp = close.2;
      storing = record { chunks = refl; named = omega arith; inside = λ m u at. nothing_there u at };
      pend = λ f y.
          let a = ap (λ l. times y (map f l)) (calls_are h.seat j g.job_is) in
          let b = times_map_append f y (client.pending_in j.stage) c.forgotten in
          let d = ap (λ (z : Stage). times y (map f (client.pending_in z))) waits in
          let e : f (record { xid = t.xid; program = program.Lb lb_proc.MkTmpFile }) ≡ f (told_pending t) = ap (λ (z : Program). f (record { xid = t.xid; program = z })) (sym answers) in
          let i = ap (λ m. times y (m ∷ [])) e in
          omega (arith, a, b, d, i);
      xids = omega (arith, room);
      places = fetching_place (Some (on j (stage.Storing (store_of temp (local_of g))))) (locals_of c) q.ups alone.0;
      wants = fetched_wanted book (Some (on j (stage.Storing (store_of temp (local_of g))))) ts alone.1;
      known = (h.orderly g.uncut).tree j g.job_is (ap stage_word waits);
      older = λ i w at. nothing_there w at;
    }
  where
    alone : AllFetching q.ups × AllFetched ts
    alone = let h = session_at book k qs n x q t ts j g in others_fetch book n k.server.temps k.server.waiting q x.hung h.seat.client.next_xid (client.calls_of h.seat.client) t ts h.seat j (h.talk g.uncut).balanced g.first g.job_is (subst (λ (s : Stage). WaitsFor s t.xid) (sym waits) refl) (h.orderly g.uncut)

-- a call under way, found by its xid
pub store_found : (under : List UploadCall) (x : ℕ) (u : UploadCall) → store_at under x ≡ Some u → (i : ℕ) × (slice_get under i ≡ Some u) × (u.xid ≡ x)
store_found [] x u e = nothing_there u e
store_found (v ∷ vs) x u e = by (v.xid == x) refl e (store_found vs x u)
  where
    by : (b : Bool) → (v.xid == x) ≡ b → cond b (Some v) (store_at vs x) ≡ Some u → (store_at vs x ≡ Some u → (i : ℕ) × (slice_get vs i ≡ Some u) × (u.xid ≡ x)) → (i : ℕ) × (slice_get (v ∷ vs) i ≡ Some u) × (u.xid ≡ x)
    by true same e later = (zero, e, sym (ap (λ (z : UploadCall). z.xid) (some_is v u e)) ∙ eqb-true v.xid x same)
    by false same e later = let h = later e in (suc h.0, h.1, h.2)

without_is : (us : List UploadCall) (x : ℕ) → map store_pending (without_store us x) ≡ without_call (map store_pending us) x
without_is [] x = refl
without_is (u ∷ us) x = by (u.xid == x) (without_is us x)
  where
    by : (b : Bool) → map store_pending (without_store us x) ≡ without_call (map store_pending us) x → map store_pending (cond (not b) (u ∷ without_store us x) (without_store us x)) ≡ cond (not b) (store_pending u ∷ without_call (map store_pending us) x) (without_call (map store_pending us) x)
    by true e = e
    by false e = ap (λ l. store_pending u ∷ l) e

pub pending_there : (us : List UploadCall) (i : ℕ) (u : UploadCall) → slice_get us i ≡ Some u → slice_get (map store_pending us) i ≡ Some (store_pending u)
pending_there [] i u e = nothing_there u e
pending_there (v ∷ vs) zero u e = ap (λ (z : UploadCall). Some (store_pending z)) (some_is v u e)
pending_there (v ∷ vs) (suc i) u e = pending_there vs i u e

-- what stays was there
store_was : (us : List UploadCall) (x m : ℕ) (u : UploadCall) → slice_get (without_store us x) m ≡ Some u → (i : ℕ) × (slice_get us i ≡ Some u)
store_was [] x m u at = nothing_there u at
store_was (v ∷ vs) x m u at = by (v.xid == x) m at (store_was vs x)
  where
    by : (b : Bool) (m : ℕ) → slice_get (cond (not b) (v ∷ without_store vs x) (without_store vs x)) m ≡ Some u → ((m : ℕ) (u : UploadCall) → slice_get (without_store vs x) m ≡ Some u → (i : ℕ) × (slice_get vs i ≡ Some u)) → (i : ℕ) × (slice_get (v ∷ vs) i ≡ Some u)
    by true m at later = let h = later m u at in (suc h.0, h.1)
    by false zero at later = (zero, at)
    by false (suc m) at later = let h = later m u at in (suc h.0, h.1)

names_less : (us : List UploadCall) (x : ℕ) → names_in (without_store us x) ≤ names_in us
names_less [] x = omega arith
names_less (u ∷ us) x = by (u.xid == x) u.way (names_less us x)
  where
    by : (b : Bool) (w : Way) → names_in (without_store us x) ≤ names_in us → names_in (cond (not b) (record u { way = w } ∷ without_store us x) (without_store us x)) ≤ names_if w (names_in us)
    by true way.Named le = omega (arith, le)
    by true way.Whole le = le
    by false way.Named le = omega (arith, le)
    by false way.Whole le = le

-- one that named a chunk is one less of these
names_one_less : (us : List UploadCall) (x i : ℕ) (u : UploadCall) → slice_get us i ≡ Some u → u.xid ≡ x → u.way ≡ way.Named → names_in (without_store us x) + 1 ≤ names_in us
names_one_less [] x i u at same way_is = nothing_there u at
names_one_less (v ∷ vs) x zero u at same way_is =
    let here = some_is v u at in
    let head : (v.xid == x) ≡ true = eq-eqb v.xid x (ap (λ (z : UploadCall). z.xid) here ∙ same) in
    let a = ap (λ b. names_in (cond (not b) (v ∷ without_store vs x) (without_store vs x))) head in
    let b = ap (λ w. names_if w (names_in vs)) (ap (λ (z : UploadCall). z.way) here ∙ way_is) in
    let le = names_less vs x in
    omega (arith, a, b, le)
names_one_less (v ∷ vs) x (suc i) u at same way_is = by (v.xid == x) v.way (names_one_less vs x i u at same way_is)
  where
    by : (b : Bool) (w : Way) → names_in (without_store vs x) + 1 ≤ names_in vs → names_in (cond (not b) (record v { way = w } ∷ without_store vs x) (without_store vs x)) + 1 ≤ names_if w (names_in vs)
    by true way.Named le = omega (arith, le)
    by true way.Whole le = le
    by false way.Named le = omega (arith, le)
    by false way.Whole le = le

-- a call that is under way was sent before
pub store_older : (book : Book) (k : Core) (qs : List Queue) (n : ℕ) (x : Session) (q : Queue) (t : Told) (ts : List Told) (j : Job) (g : Here book k qs n x q t ts j) (st : Upload) (i : ℕ) (w : UploadCall) → j.stage ≡ stage.Storing st → slice_get st.under i ≡ Some w → w.xid < (seat_at g).client.next_xid
store_older book k qs n x q t ts j g st i w waits at = by (nat_le c.next_xid w.xid) refl
  where
    h : IsSession book k.seats k.server n x q
    h = session_at book k qs n x q t ts j g

    c : client.State
    c = h.seat.client

    by : (b : Bool) → nat_le c.next_xid w.xid ≡ b → w.xid < c.next_xid
    by false lt = grind (arith, nat_tests, lt)
    by true le =
        let none = (h.talk g.uncut).balanced.below w.xid (grind (arith, nat_tests, le)) in
        let calls = ap (λ l. times w.xid (map (λ (p : Pending). p.xid) l)) (calls_are h.seat j g.job_is) in
        let parts = times_map_append (λ (p : Pending). p.xid) w.xid (client.pending_in j.stage) c.forgotten in
        let stored = ap (λ (z : Stage). times w.xid (map (λ (p : Pending). p.xid) (client.pending_in z))) waits in
        let there = there_by (λ (p : Pending). p.xid) (map store_pending st.under) i (store_pending w) (pending_there st.under i w at) in
        absurd (omega (arith, none, calls, parts, stored, there))

-- a chunk was stored, or was found not to be
pub ready_answered : (book : Book) (k : Core) (qs : List Queue) (n : ℕ) (x : Session) (q : Queue) (t : Told) (ts : List Told) (j : Job) (g : Here book k qs n x q t ts j) (st : Upload) (u : UploadCall) → j.stage ≡ stage.Storing st → store_at st.under t.xid ≡ Some u → store_pending u ≡ told_pending t → Quiet k n q → Ready book k qs n x q t ts j g (answered st t.xid)
ready_answered book k qs n x q t ts j g st u waits found answers quiet =
    let h = session_at book k qs n x q t ts j g in
    let c = h.seat.client in
    let seat_was = g.kept.seats x.owner h.seat h.owner in
    let close = subst (CloseOf book x.closing h.contents c.next_temp j (local_of g)) waits (h.closes g.uncut j g.job_is) in
    let room = subst (HasXids c.next_xid) waits (seat_was.xids j g.job_is) in
    let less = names_less st.under t.xid in
    let f = store_found st.under t.xid u found in
    let once = (h.talk g.uncut).balanced.once t.xid in
    let calls = ap (λ l. times t.xid (map (λ (p : Pending). p.xid) l)) (calls_are h.seat j g.job_is) in
    let parts = times_map_append (λ (p : Pending). p.xid) t.xid (client.pending_in j.stage) c.forgotten in
    let stored = ap (λ (z : Stage). times t.xid (map (λ (p : Pending). p.xid) (client.pending_in z))) waits in
    let few : times t.xid (map (λ (p : Pending). p.xid) (map store_pending st.under)) ≤ 1 = omega (arith, once, calls, parts, stored) in
    record {
      quiet = quiet;
      word = ap stage_word waits;
      owed = close.0;
      content = close.1;
      temp = close.2;
      storing = record { chunks = close.3.chunks; named = close.3.named; inside = λ m v at. let w = store_was st.under t.xid m v at in close.3.inside w.0 v w.1 };
      pend = λ p y.
          let a = ap (λ l. times y (map p l)) (calls_are h.seat j g.job_is) in
          let b = times_map_append p y (client.pending_in j.stage) c.forgotten in
          let d = ap (λ (z : Stage). times y (map p (client.pending_in z))) waits in
          let e = ap (λ l. times y (map p l)) (without_is st.under t.xid) in
          let m = subst (λ (v : ℕ). times v (map (λ (w : Pending). w.xid) (map store_pending st.under)) ≤ 1 → times y (map p (without_call (map store_pending st.under) v)) + times y (p (store_pending u) ∷ []) ≡ times y (map p (map store_pending st.under))) f.2 (without_moves p y (map store_pending st.under) f.0 (store_pending u) (pending_there st.under f.0 u f.1)) few in
          let i = ap (λ (z : Pending). times y (p z ∷ [])) answers in
          omega (arith, a, b, d, e, m, i);
      xids = omega (arith, room, less);
      places = all_at (IsInPlace (Some (on j (stage.Storing (answered st t.xid)))) (locals_of c)) q.ups (λ i a at. place_over j (on j (stage.Storing (answered st t.xid))) (locals_of c) st (answered st t.xid) a.xid a.call (over a.xid (λ e. up_apart n k.server.waiting q x.hung c.next_xid (client.calls_of c) t ts i a (h.talk g.uncut).balanced g.first at e)) (all_in (IsInPlace (Some j) (locals_of c)) q.ups i a (subst (λ (o : Option Job). AllAsks (IsInPlace o (locals_of c)) q.ups) g.job_is (h.orderly g.uncut).asks) at));
      wants = all_at (IsWanted book (Some (on j (stage.Storing (answered st t.xid))))) ts (λ i v at. want_over book j (on j (stage.Storing (answered st t.xid))) st (answered st t.xid) v.xid v.reply (over v.xid (λ e. down_apart n k.server.waiting q x.hung c.next_xid (client.calls_of c) t ts i v (h.talk g.uncut).balanced g.first at e)) (all_in (IsWanted book (Some j)) ts i v (subst (AllTolds (IsWanted book (Some j))) g.first (subst (λ (o : Option Job). AllTolds (IsWanted book o) q.downs) g.job_is (h.orderly g.uncut).tolds)).1 at));
      known = (h.orderly g.uncut).tree j g.job_is (ap stage_word waits);
      older = λ i w at. let o = was_under st.under t.xid i w at in store_older book k qs n x q t ts j g st o.0 w waits o.1;
    }
  where
    over : (y : ℕ) → (y ≡ t.xid → ⊥) → GoesOver j (on j (stage.Storing (answered st t.xid))) st (answered st t.xid) y
    over y apart = record { was = waits; is = refl; file = refl; temp = refl; chunks = refl; found = λ v e. store_still st.under t.xid y apart ∙ e }

-- and where a name was answered, one more call may go out
pub ready_named : (book : Book) (k : Core) (qs : List Queue) (n : ℕ) (x : Session) (q : Queue) (t : Told) (ts : List Told) (j : Job) (g : Here book k qs n x q t ts j) (st : Upload) (u : UploadCall) → j.stage ≡ stage.Storing st → store_at st.under t.xid ≡ Some u → u.way ≡ way.Named → (seat_at g).client.next_xid + 1 + 80001 + names_in (answered st t.xid).under ≤ 4294967296 + 2 * (answered st t.xid).named
ready_named book k qs n x q t ts j g st u waits found way_is =
    let h = session_at book k qs n x q t ts j g in
    let seat_was = g.kept.seats x.owner h.seat h.owner in
    let room = subst (HasXids h.seat.client.next_xid) waits (seat_was.xids j g.job_is) in
    let f = store_found st.under t.xid u found in
    let less = names_one_less st.under t.xid f.0 u f.1 f.2 way_is in
    omega (arith, room, less)

-- What a client comes to by an answer that its close waits for.
use Rattle.std.proofs.Common.{◌⊎◌, inl, inr, ◌≡◌, ℕ, ◌+◌, ◌<◌, ◌≤◌, List, [], ◌∷◌, ◌++◌, append_assoc, length, Option, Some, None, Bool, true, false, refl, sym, ap, ◌∙◌, subst, arith}
use Rattle.xdr_codec.specs.declared.status.Status.TheVariants as status
use Rattle.client_state.specs.State as client
use Rattle.client_state.specs.declared.step.Outcome.TheVariants as outcome
use Rattle.client_state.specs.declared.task.Stage.TheVariants as stage
use Rattle.client_state.specs.declared.task.Way.TheVariants as way
use Rattle.register_model.specs.declared.op.Outcome.TheVariants as told
use Rattle.register_model.specs.declared.op.Word.TheVariants as words
use Rattle.client_cache.specs.Cache.{reserved, with_content, without_note}
use Rattle.open_close.specs.Hashed.{named_by as part_of_named, named as parts_named}
use Rattle.file_close.specs.Storing.{closed}
use Rattle.kept_promise.proofs.Common.{refused, slice_get, sha1, Chunk, Answer, Done, Failed, Status, Committed, store_pending, store_of, is_stored, store_at, answered, no_counts, idle, goes_on, goes_if, told_temp, sends_whole, told_named, told_whole, Local, Upload, UploadCall, Op, Traffic, Contains, Contains-append_left, slice_set, unwrap_or, option_map, Message, ClientStep, Core, Session, has_point, point_if, counted, Book, HadContent, value_at, version_at, Reply, Reply.Made, Reply.Named, Reply.Stored, Reply.Changed, Told, Queue, reply_program}
use Rattle.kept_promise.proofs.Lists.{some_is, there_at}
use Rattle.kept_promise.proofs.Messages.{Job, CommitTold, CloseOf, stage_word}
use Rattle.kept_promise.proofs.Rights.{IsMade}
use Rattle.kept_promise.proofs.Growth.{Grows, value_later, version_later, there_later}
use Rattle.kept_promise.proofs.History.{onward, grows_becomes}
use Rattle.kept_promise.proofs.Later.{cached_later}
use Rattle.kept_promise.proofs.Facts.{Cached}
use Rattle.kept_promise.proofs.Caches.{cached_reserved, cached_unnoted, cached_with}
use Rattle.kept_promise.proofs.Heard.{told_pending}
use Rattle.kept_promise.proofs.Steps.{Here, session_at, Quiet, job_op, close_unnamed}
use Rattle.kept_promise.proofs.CloseEnds.{quiet_before, quiet_after, Unmade, refused_op, stops_refused, closed_op, stops_closed}
use Rattle.kept_promise.proofs.CloseSteps.{seat_at, local_of, NamesNoted, Ready, named, naming, naming_sent, goes_storing, committing, committing_sent, goes_committing, sending, goes_whole, ready_made, ready_answered, ready_named, store_found, Filled}
use Rattle.kept_promise.proofs.Comes.{op_at, client_at, Comes}
use Rattle.kept_promise.proofs.Orderly.{Went, Denied, Wanted}
use Rattle.kept_promise.proofs.Ordered.{TellsNone}
use Rattle.kept_promise.proofs.OrderSteps.{first_wanted, EndsAt}
use Rattle.kept_promise.proofs.CloseFills.{filled_made, filled_answered, filled_named, filled_known}
use Rattle.kept_promise.proofs.StepCases.{IsOfFile}
use Rattle.xdr_codec.specs.Status.{status_number}

-- what its client keeps
abbrev seat_kept : {book : Book} {k : Core} {qs : List Queue} {n : ℕ} {x : Session} {q : Queue} {t : Told} {ts : List Told} {j : Job} → (g : Here book k qs n x q t ts j) → Cached book (seat_at g).client.cache
seat_kept {book} {k} {qs} {n} {x} {q} {t} {ts} {j} g = (g.kept.seats x.owner (session_at book k qs n x q t ts j g).seat (session_at book k qs n x q t ts j g).owner).kept

-- what its messages name being noted, a client comes to this
abbrev pub Makes : (book : Book) (k : Core) (qs : List Queue) (n : ℕ) (x : Session) (q : Queue) (t : Told) (ts : List Told) (j : Job) → Here book k qs n x q t ts j → client.State × ClientStep → Type 0
Makes book k qs n x q t ts j g r = NamesNoted g r.1.send → Comes book k qs n x q t ts j g r

-- ---- it goes on

named_front : (v : List ℕ) (ms ns : List Message) (b : List ℕ) → Contains (parts_named v ms) b → Contains (parts_named v (ms ++ ns)) b
named_front v ms ns b h = subst (λ (l : List (List ℕ)). Contains l b) (sym (joined ms)) (Contains-append_left (parts_named v ms) (parts_named v ns) b h)
  where
    joined : (ms : List Message) → parts_named v (ms ++ ns) ≡ parts_named v ms ++ parts_named v ns
    joined [] = refl
    joined (m ∷ ms) = ap (λ l. part_of_named v m ++ l) (joined ms) ∙ sym (append_assoc (part_of_named v m) (parts_named v ms) (parts_named v ns))

pub comes_on : (book : Book) (k : Core) (qs : List Queue) (n : ℕ) (x : Session) (q : Queue) (t : Told) (ts : List Told) (j : Job) (g : Here book k qs n x q t ts j) (st : Upload) → j.file < 18446744073709551616 → Ready book k qs n x q t ts j g st → Filled book k qs n x q t ts j g q.ups st → Makes book k qs n x q t ts j g (goes_on (idle (client_at book k qs n x q t ts j g)) j.file (local_of g) st)
comes_on book k qs n x q t ts j g st fits w filled = by (is_stored (named (client_at book k qs n x q t ts j g).lbfs st (client_at book k qs n x q t ts j g).next_xid).store) refl
  where
    by : (b : Bool) → is_stored (named (client_at book k qs n x q t ts j g).lbfs st (client_at book k qs n x q t ts j g).next_xid).store ≡ b → Makes book k qs n x q t ts j g (goes_if (idle (client_at book k qs n x q t ts j g)) j.file (local_of g) (named (client_at book k qs n x q t ts j g).lbfs st (client_at book k qs n x q t ts j g).next_xid) b)
    by true e noted =
        let c = client_at book k qs n x q t ts j g in
        inl (record {
          to = stage.Committing (named c.lbfs st c.next_xid).next_xid;
          next = (named c.lbfs st c.next_xid).next_xid + 1;
          forgotten = c.forgotten;
          cache = without_note (reserved c.cache j.file) j.file;
          index = c.index;
          sent = c.clock;
          asks = committing c.lbfs st c.next_xid j.file (length (local_of g));
          shows = goes_committing book k qs n x q t ts j g st fits w filled (λ b h. noted b (named_front (local_of g) (named c.lbfs st c.next_xid).send _ b h)) e;
          cached = cached_unnoted book (reserved c.cache j.file) j.file (cached_reserved book c.cache j.file (seat_kept g));
          state_is = refl;
          send_is = committing_sent c.lbfs st c.next_xid j.file (length (local_of g));
          ended_is = refl;
        })
    by false e noted =
        let c = client_at book k qs n x q t ts j g in
        inl (record {
          to = stage.Storing (named c.lbfs st c.next_xid).store;
          next = (named c.lbfs st c.next_xid).next_xid;
          forgotten = c.forgotten;
          cache = c.cache;
          index = c.index;
          sent = c.sent;
          asks = naming c.lbfs st c.next_xid;
          shows = goes_storing book k qs n x q t ts j g st w filled noted e;
          cached = seat_kept g;
          state_is = refl;
          send_is = naming_sent c.lbfs st c.next_xid;
          ended_is = refl;
        })

-- ---- it is refused

-- a temporary file or a commit is, for want of room, or since its file is gone
pub comes_unmade : (book : Book) (k : Core) (qs : List Queue) (n : ℕ) (x : Session) (q : Queue) (t : Told) (ts : List Told) (j : Job) (g : Here book k qs n x q t ts j) (s : Status) → Quiet k n q → EndsAt j t → stage_word j.stage ≡ words.Close → Denied book (op_at book k qs n x q t ts j g) s → Unmade book x j (op_at book k qs n x q t ts j g) → Comes book k qs n x q t ts j g (refused (idle (client_at book k qs n x q t ts j g)) (client.calls_of (client_at book k qs n x q t ts j g)) t.xid s)
comes_unmade book k qs n x q t ts j g s quiet over close denied u =
    let c = client_at book k qs n x q t ts j g in
    let o = op_at book k qs n x q t ts j g in
    let tr : Traffic = counted o.traffic no_counts in
    inr (record {
      op = refused_op o tr (book.steps + 1) (status_number s);
      ended = record { outcome = outcome.Refused s; rests_on = t.xid };
      made = Some j.place;
      opened = c.opened;
      forgotten = client.without_call (client.calls_of c) t.xid;
      cache = c.cache;
      index = c.index;
      shows = stops_refused book k qs n x q t ts j g tr s quiet over close denied u;
      cached = inl (seat_kept g);
      state_is = refl;
      send_is = refl;
      ended_is = refl;
      op_is = ap (λ v. record o { end = Some (book.steps + 1); point = point_if (has_point v (outcome.Refused s)) x.taken t.xid (book.steps + 1) o.point; outcome = told.Refused (status_number s); traffic = tr }) ((job_op book k qs x (session_at book k qs n x q t ts j g).seat j g.kept (session_at book k qs n x q t ts j g).owner g.job_is).word ∙ close);
    })

-- what the answer is
answer_is : (book : Book) (k : Core) (qs : List Queue) (n : ℕ) (x : Session) (q : Queue) (t : Told) (ts : List Told) (j : Job) (g : Here book k qs n x q t ts j) (r : Reply) → t.reply ≡ r → Wanted book (Some j) t.xid r
answer_is book k qs n x q t ts j g r is = let h = session_at book k qs n x q t ts j g in subst (Wanted book (Some j) t.xid) is (first_wanted book n k.server.temps q x.hung t ts h.seat j g.first g.job_is (h.orderly g.uncut))

not_done : {s : Status} {u : Unit {0}} {v : Unit {0}} → ◌≡◌ {A = Answer Unit Unit} (Failed s u) (Done v) → ⊥
not_done e = absurd cc

-- ---- by the answer to MKTMPFILE

before_making : (x temp y : ℕ) → stage.Making x temp ≡ stage.Committing y → ⊥
before_making x temp y e = absurd cc

before_storing : (st : Upload) (y : ℕ) → stage.Storing st ≡ stage.Committing y → ⊥
before_storing st y e = absurd cc

pub comes_made : (book : Book) (k : Core) (qs : List Queue) (n : ℕ) (x : Session) (q : Queue) (t : Told) (ts : List Told) (j : Job) (g : Here book k qs n x q t ts j) (temp : ℕ) (a : Answer Unit Unit) → j.file < 18446744073709551616 → j.stage ≡ stage.Making t.xid temp → t.reply ≡ Made a → Makes book k qs n x q t ts j g (told_temp (idle (client_at book k qs n x q t ts j g)) (client.calls_of (client_at book k qs n x q t ts j g)) j.file t.xid temp (local_of g) a)
comes_made book k qs n x q t ts j g temp a fits waits is = by a is
  where
    quiet : Quiet k n q
    quiet = quiet_before book k qs n x q t ts j g (λ y e. before_making t.xid temp y (sym waits ∙ e)) (subst IsOfFile (sym waits) tt)

    ready : Ready book k qs n x q t ts j g (store_of temp (local_of g))
    ready = ready_made book k qs n x q t ts j g temp waits (ap reply_program is) quiet

    by : (a : Answer Unit Unit) → t.reply ≡ Made a → Makes book k qs n x q t ts j g (told_temp (idle (client_at book k qs n x q t ts j g)) (client.calls_of (client_at book k qs n x q t ts j g)) j.file t.xid temp (local_of g) a)
    by (Done u) is = comes_on book k qs n x q t ts j g (store_of temp (local_of g)) fits ready (filled_made book k qs n x q t ts j g temp waits u is)
    by (Failed s u) is = λ noted.
        (let h = session_at book k qs n x q t ts j g in
        let of = job_op book k qs x h.seat j g.kept h.owner g.job_is in
        let told_ = answer_is book k qs n x q t ts j g (Made (Failed s u)) is in
        let same : told_.4.0 ≡ of.op = some_is told_.4.0 of.op (sym told_.4.1 ∙ ap (λ (z : Job). slice_get book.ops z.place) (sym (some_is j told_.0 told_.2)) ∙ of.there) in
        let owed = (subst (CloseOf book x.closing h.contents h.seat.client.next_temp j (local_of g)) waits (h.closes g.uncut j g.job_is)).0 in
        comes_unmade book k qs n x q t ts j g s quiet (inr (inr (temp, s, u, waits, is))) (ap stage_word waits) (inr (subst (Went book) same told_.4.3, told_.4.4)) (record { known = owed.known; unmade = subst Rattle.kept_promise.proofs.Rights.IsUnmade (some_is owed.op of.op (sym owed.there ∙ of.there)) owed.unmade }))

-- ---- by the answer to a CONDWRITE or a TMPWRITE

stored_close : (book : Book) (k : Core) (qs : List Queue) (n : ℕ) (x : Session) (q : Queue) (t : Told) (ts : List Told) (j : Job) (g : Here book k qs n x q t ts j) (st : Upload) → j.stage ≡ stage.Storing st → CloseOf book x.closing (session_at book k qs n x q t ts j g).contents (client_at book k qs n x q t ts j g).next_temp j (local_of g) (stage.Storing st)
stored_close book k qs n x q t ts j g st waits = let h = session_at book k qs n x q t ts j g in subst (CloseOf book x.closing h.contents h.seat.client.next_temp j (local_of g)) waits (h.closes g.uncut j g.job_is)

pub comes_stored : (book : Book) (k : Core) (qs : List Queue) (n : ℕ) (x : Session) (q : Queue) (t : Told) (ts : List Told) (j : Job) (g : Here book k qs n x q t ts j) (st : Upload) (u : UploadCall) (a : Answer Unit Unit) → j.file < 18446744073709551616 → j.stage ≡ stage.Storing st → store_at st.under t.xid ≡ Some u → u.way ≡ way.Whole → store_pending u ≡ told_pending t → t.reply ≡ Stored a
    → Makes book k qs n x q t ts j g (told_whole (idle (client_at book k qs n x q t ts j g)) (client.calls_of (client_at book k qs n x q t ts j g)) j.file t.xid (local_of g) (answered st t.xid) a)
comes_stored book k qs n x q t ts j g st u a fits waits found whole same is = by a is
  where
    quiet : Quiet k n q
    quiet = quiet_before book k qs n x q t ts j g (λ y e. before_storing st y (sym waits ∙ e)) (subst IsOfFile (sym waits) tt)

    ready : Ready book k qs n x q t ts j g (answered st t.xid)
    ready = ready_answered book k qs n x q t ts j g st u waits found same quiet

    by : (a : Answer Unit Unit) → t.reply ≡ Stored a → Makes book k qs n x q t ts j g (told_whole (idle (client_at book k qs n x q t ts j g)) (client.calls_of (client_at book k qs n x q t ts j g)) j.file t.xid (local_of g) (answered st t.xid) a)
    by (Done v) is = comes_on book k qs n x q t ts j g (answered st t.xid) fits ready (filled_answered book k qs n x q t ts j g st u waits found whole (subst TellsNone (sym is) tt))
    by (Failed s v) is = absurd (not_done (answer_is book k qs n x q t ts j g (Stored (Failed s v)) is).1)

pub comes_named : (book : Book) (k : Core) (qs : List Queue) (n : ℕ) (x : Session) (q : Queue) (t : Told) (ts : List Told) (j : Job) (g : Here book k qs n x q t ts j) (st : Upload) (u : UploadCall) (a : Answer Unit Unit) → j.file < 18446744073709551616 → j.stage ≡ stage.Storing st → store_at st.under t.xid ≡ Some u → u.way ≡ way.Named → store_pending u ≡ told_pending t → t.reply ≡ Named a
    → Makes book k qs n x q t ts j g (told_named (idle (client_at book k qs n x q t ts j g)) (client.calls_of (client_at book k qs n x q t ts j g)) j.file t.xid (local_of g) (answered st t.xid) u a)
comes_named book k qs n x q t ts j g st u a fits waits found by_name same is = by (answer_is book k qs n x q t ts j g (Named a) is).1
  where
    quiet : Quiet k n q
    quiet = quiet_before book k qs n x q t ts j g (λ y e. before_storing st y (sym waits ∙ e)) (subst IsOfFile (sym waits) tt)

    ready : Ready book k qs n x q t ts j g (answered st t.xid)
    ready = ready_answered book k qs n x q t ts j g st u waits found same quiet

    inside : u.index < st.named
    inside = let f = store_found st.under t.xid u found in (stored_close book k qs n x q t ts j g st waits).3.inside f.0 u f.1

    whole : TellsNone t.reply → (c : Chunk) → slice_get st.chunks u.index ≡ Some c → Comes book k qs n x q t ts j g (sends_whole (idle (client_at book k qs n x q t ts j g)) j.file t.xid (local_of g) (answered st t.xid) u (Some c))
    whole none c at =
        let s = client_at book k qs n x q t ts j g in
        inl (record {
          to = stage.Storing (Rattle.file_close.specs.Closing.with_whole (answered st t.xid) u s.next_xid);
          next = s.next_xid + 1;
          forgotten = s.forgotten;
          cache = s.cache;
          index = s.index;
          sent = s.sent;
          asks = sending s.lbfs (answered st t.xid) s.next_xid (local_of g) c;
          shows = goes_whole book k qs n x q t ts j g (answered st t.xid) u c ready inside at (filled_named book k qs n x q t ts j g st u c waits found by_name none) (ready_named book k qs n x q t ts j g st u waits found by_name);
          cached = seat_kept g;
          state_is = refl;
          send_is = refl;
          ended_is = refl;
        })

    unknown : TellsNone t.reply → Comes book k qs n x q t ts j g (sends_whole (idle (client_at book k qs n x q t ts j g)) j.file t.xid (local_of g) (answered st t.xid) u (slice_get st.chunks u.index))
    unknown none =
        let le = (stored_close book k qs n x q t ts j g st waits).3.named in
        let i = inside in
        let c = there_at st.chunks u.index (omega (arith, le, i)) in
        subst (λ (o : Option Chunk). Comes book k qs n x q t ts j g (sends_whole (idle (client_at book k qs n x q t ts j g)) j.file t.xid (local_of g) (answered st t.xid) u o)) (sym c.1) (whole none c.0 c.1)

    by : (a ≡ Done tt) ⊎ (a ≡ Failed status.HashNotFound tt) → Makes book k qs n x q t ts j g (told_named (idle (client_at book k qs n x q t ts j g)) (client.calls_of (client_at book k qs n x q t ts j g)) j.file t.xid (local_of g) (answered st t.xid) u a)
    by (inl knows) = subst (λ (b : Answer Unit Unit). Makes book k qs n x q t ts j g (told_named (idle (client_at book k qs n x q t ts j g)) (client.calls_of (client_at book k qs n x q t ts j g)) j.file t.xid (local_of g) (answered st t.xid) u b)) (sym knows)
        (comes_on book k qs n x q t ts j g (answered st t.xid) fits ready (filled_known book k qs n x q t ts j g st u waits found by_name (is ∙ ap Named knows)))
    by (inr lacks) = subst (λ (b : Answer Unit Unit). Makes book k qs n x q t ts j g (told_named (idle (client_at book k qs n x q t ts j g)) (client.calls_of (client_at book k qs n x q t ts j g)) j.file t.xid (local_of g) (answered st t.xid) u b)) (sym lacks)
        (λ noted. unknown (subst TellsNone (sym (is ∙ ap Named lacks)) tt))

-- ---- by the answer to COMMITTMP

pub comes_failed : (book : Book) (k : Core) (qs : List Queue) (n : ℕ) (x : Session) (q : Queue) (t : Told) (ts : List Told) (j : Job) (g : Here book k qs n x q t ts j) (s : Status) (v : Unit {0}) → j.stage ≡ stage.Committing t.xid → t.reply ≡ Changed (Failed s v) → CommitTold book x.closing j (Failed s v)
    → Comes book k qs n x q t ts j g (refused (idle (client_at book k qs n x q t ts j g)) (client.calls_of (client_at book k qs n x q t ts j g)) t.xid s)
comes_failed book k qs n x q t ts j g s v waits is fact =
    let h = session_at book k qs n x q t ts j g in
    let of = job_op book k qs x h.seat j g.kept h.owner g.job_is in
    let told_ = answer_is book k qs n x q t ts j g (Changed (Failed s v)) is in
    let same : told_.1 ≡ of.op = some_is told_.1 of.op (sym told_.4 ∙ ap (λ (z : Job). slice_get book.ops z.place) (sym (some_is j told_.0 told_.2)) ∙ of.there) in
    comes_unmade book k qs n x q t ts j g s (quiet_after book k qs n x q t ts j g (ap reply_program is) waits) (inr (inl waits)) (ap stage_word waits) (subst (λ (o : Op). Denied book o s) same told_.6) (record { known = fact.3; unmade = subst Rattle.kept_promise.proofs.Rights.IsUnmade (some_is fact.0 of.op (sym fact.1 ∙ of.there)) fact.2 })

-- its content is kept, which the file had in that version
local_short : (es : List (ℕ × Local)) (f : ℕ) → ((l : Local) → client.local_at es f ≡ Some l → length l.bytes ≤ 67108864) → length (client.local_bytes es f) ≤ 67108864
local_short es f h = by (client.local_at es f) refl
  where
    by : (o : Option Local) → client.local_at es f ≡ o → length (unwrap_or (option_map (λ (l : Local). l.bytes) o) []) ≤ 67108864
    by None e = omega arith
    by (Some l) e = h l e

closed_kept : (book : Book) (k : Core) (qs : List Queue) (n : ℕ) (x : Session) (q : Queue) (t : Told) (ts : List Told) (j : Job) (g : Here book k qs n x q t ts j) (new : Op) (version : ℕ) → IsMade book j.place version → local_of g ≡ (op_at book k qs n x q t ts j g).value → Grows book (onward book 1 (slice_set book.ops j.place new)) None (Some j.place)
    → Cached (onward book 1 (slice_set book.ops j.place new)) (with_content (client_at book k qs n x q t ts j g).cache j.file version (local_of g))
closed_kept book k qs n x q t ts j g new version made value grows =
    let h = session_at book k qs n x q t ts j g in
    let c = h.seat.client in
    let of = job_op book k qs x h.seat j g.kept h.owner g.job_is in
    let more = onward book 1 (slice_set book.ops j.place new) in
    let same : made.0 ≡ of.op = some_is made.0 of.op (sym made.2 ∙ of.there) in
    let file : j.file ≡ made.0.file = sym (of.file (close_unnamed j.stage (sym of.word ∙ ap (λ (z : Op). z.word) (sym same) ∙ made.3))) ∙ ap (λ (z : Op). z.file) (sym same) in
    let m = made.7 in
    let had : HadContent more j.file version (local_of g) = record {
      moment = m.0;
      past = m.1;
      version_is = version_later book more None (Some j.place) j.file m.0 grows m.1 ∙ ap (λ f. version_at book f m.0) file ∙ m.2;
      value_is = inl (value_later book more None (Some j.place) j.file m.0 grows m.1 ∙ ap (λ f. value_at book f m.0) file ∙ m.3 ∙ ap (λ (z : Op). Some z.value) same ∙ ap (λ (l : List ℕ). Some l) (sym value));
    } in
    let word = sym of.word ∙ ap (λ (z : Op). z.word) (sym same) ∙ made.3 in
    cached_with more c.cache j.file version (local_of g) had (there_later book more None (Some j.place) j.file grows ((h.orderly g.uncut).tree j g.job_is word)) (local_short c.opened j.file (λ l at. ((g.kept.seats x.owner h.seat h.owner).opened j.file l at).1)) (cached_later book more None (Some j.place) c.cache grows (seat_kept g))

pub comes_closed : (book : Book) (k : Core) (qs : List Queue) (n : ℕ) (x : Session) (q : Queue) (t : Told) (ts : List Told) (j : Job) (g : Here book k qs n x q t ts j) (c : Committed) → j.stage ≡ stage.Committing t.xid → t.reply ≡ Changed (Done c) → CommitTold book x.closing j (Done c)
    → Comes book k qs n x q t ts j g (closed (idle (client_at book k qs n x q t ts j g)) (client.calls_of (client_at book k qs n x q t ts j g)) j.file t.xid c.version (local_of g))
comes_closed book k qs n x q t ts j g d waits is made =
    let h = session_at book k qs n x q t ts j g in
    let c = h.seat.client in
    let of = job_op book k qs x h.seat j g.kept h.owner g.job_is in
    let o = of.op in
    let tr : Traffic = counted o.traffic no_counts in
    let close = subst (CloseOf book x.closing h.contents c.next_temp j (local_of g)) waits (h.closes g.uncut j g.job_is) in
    let same : close.0 ≡ o = some_is close.0 o (sym close.1 ∙ of.there) in
    let word : o.word ≡ words.Close = ap (λ (z : Op). z.word) (sym same) ∙ close.2 in
    let value : local_of g ≡ o.value = sym close.3 ∙ ap (λ (z : Op). z.value) same in
    let shows = stops_closed book k qs n x q t ts j g tr d.version (quiet_after book k qs n x q t ts j g (ap reply_program is) waits) waits made in
    inr (record {
      op = closed_op o tr (book.steps + 1) d.version;
      ended = record { outcome = outcome.Closed j.file d.version (length (local_of g)) (sha1 (local_of g)); rests_on = t.xid };
      made = None;
      opened = client.without_local c.opened j.file;
      forgotten = client.without_call (client.calls_of c) t.xid;
      cache = with_content c.cache j.file d.version (local_of g);
      index = c.index;
      shows = shows;
      cached = inr (closed_kept book k qs n x q t ts j g (closed_op o tr (book.steps + 1) d.version) d.version made value (grows_becomes book 1 None (Some j.place) j.place o (closed_op o tr (book.steps + 1) d.version) of.there shows.becomes));
      state_is = refl;
      send_is = refl;
      ended_is = refl;
      op_is = ap (λ v. record o { end = Some (book.steps + 1); point = point_if (has_point v (outcome.Closed j.file d.version (length (local_of g)) (sha1 (local_of g)))) x.taken t.xid (book.steps + 1) o.point; outcome = told.Closed d.version (length (local_of g)) (sha1 (local_of g)); traffic = tr }) word ∙ ap (λ (l : List ℕ). record o { end = Some (book.steps + 1); outcome = told.Closed d.version (length l) (sha1 l); traffic = tr }) value;
    })

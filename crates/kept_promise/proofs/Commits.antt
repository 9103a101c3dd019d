-- The server takes a commit: it is refused, or its change waits.
use Rattle.std.proofs.Common.{inl, inr, ◌≡◌, ℕ, ◌+◌, ◌≤◌, List, [], ◌∷◌, ◌++◌, length, Option, Some, None, Bool, true, false, refl, sym, ap, ◌∙◌, subst, arith, eq-eqb, Result, Ok, Err, ◌⊎◌}
use Rattle.xdr_codec.specs.declared.status.Status.TheVariants as status
use Rattle.hash_calls.specs.declared.message.Lb.TheVariants as lb
use Rattle.server_core.specs.State as server
use Rattle.server_core.specs.Closing.{answers, changes_most, tree_most}
use Rattle.temp_files.specs.Pieces.{joined}
use Rattle.client_state.specs.State as client
use Rattle.client_state.specs.declared.task.Stage.TheVariants as stage
use Rattle.kept_promise.proofs.Common.{nat_tests, slice_get, cond, ◌==◌, ◌||◌, nat_lt, if◌then◌else◌, handle_bytes, chunks_of, Failed, Status, message_spell, Node, directory, file, node_of, at, takes_commit, takes_commit_on, commits_whole, has_waiting, is_full, size_most, Temp, temp_at, without_temp, key_of, assembled, FileChange, File, Stage, Op, Core, Session, Event.Serves, numbered, hashed_of, Book, Or, Call.Commit, Reply.Changed, Ask, Queue, ask_message, value_at, later, change_of}
use Rattle.server_core.specs.Recalling.{comes}
use Rattle.kept_promise.proofs.Lists.{some_is, nothing_there, false_and_true}
use Rattle.kept_promise.proofs.Keys.{own}
use Rattle.kept_promise.proofs.Messages.{Job, job, stage_word, AllAsks, AnswerOf, IsCommit, IsPending, AreParts}
use Rattle.kept_promise.proofs.Growth.{or_both}
use Rattle.kept_promise.proofs.History.{onward, grows_same}
use Rattle.kept_promise.proofs.Later.{pending_later}
use Rattle.kept_promise.proofs.Fits.{FitLaws}
use Rattle.kept_promise.proofs.Shelf.{IsShelf, shelf_out, one_out, other_out}
use Rattle.kept_promise.proofs.Orderly.{locals_of, Wanted, HeldIn, HoldsTemp}
use Rattle.kept_promise.proofs.Ordered.{SameFound, held_told}
use Rattle.kept_promise.proofs.Chunks.{pieces_are_whole}
use Rattle.kept_promise.proofs.Statements.{PiecesOf}
use Rattle.kept_promise.proofs.Gone.{IsStill, IsNone, still_or_none, close_gone}
use Rattle.kept_promise.proofs.Facts.{FileIs, IsSession, commits_in, is_there, is_naming}
use Rattle.kept_promise.proofs.Serves.{answered, parsed}
use Rattle.kept_promise.proofs.Tells.{Found, is_directory, is_gone, is_file, looked, waits_in}
use Rattle.kept_promise.proofs.Shelves.{of_removed, of_lookup, joined_alike, joined_is}
use Rattle.kept_promise.proofs.Waitings.{leads_coming}
use Rattle.kept_promise.proofs.Calls.{Given, session_in, first_fits, rest_of, leads_by, served, held_at, place_at, rest_above}
use Rattle.kept_promise.proofs.Leading.{Leads}
use Rattle.server_core.specs.declared.change.Wanted.TheVariants as what
use Rattle.server_law.proofs.lemmas.TreeCalls.{entries_more, sizes_more}
use Rattle.kept_promise.proofs.Rights.{WasThere}

-- ---- it is refused

-- the commit's close is unmade, and its client waits
pub refusal_told : (book : Book) (k : Core) (qs : List Queue) (n now : ℕ) (x : Session) (q : Queue) (lbfs xid m f size : ℕ) (us : List Ask) (s : Status) → (g : Given book k qs n now x q (record { lbfs = lbfs; xid = xid; call = Commit m f size }) us) → x.cut ≡ false
    → AnswerOf (onward book 1 book.ops) (x.taken ++ record { xid = xid; step = book.steps + 1 } ∷ []) x.closing (job (session_in book k qs n now x q (record { lbfs = lbfs; xid = xid; call = Commit m f size }) us g).seat) xid (Changed (Failed s tt))
refusal_told book k qs n now x q lbfs xid m f size us s g uncut = λ j is at.
    let h = session_in book k qs n now x q (record { lbfs = lbfs; xid = xid; call = Commit m f size }) us g in
    let p = (subst (AllAsks (IsCommit book x.closing x.cut (job h.seat) h.contents)) g.first h.commits).0.0 in
    let same : p.place ≡ j.place = ap (λ (z : Job). z.place) (some_is _ j (sym (p.waited uncut) ∙ is)) in
    (p.op, ap (λ (i : ℕ). slice_get book.ops i) (sym same) ∙ p.there, p.unmade, p.known ∙ ap (λ i. Some i) same)

tails : {b c : Ask} {us vs : List Ask} → b ∷ us ≡ c ∷ vs → us ≡ vs
tails e = cc

-- with the temporary file gone, or with all as they were
refused_with : FitLaws → (book : Book) (k : Core) (qs : List Queue) (n now : ℕ) (x : Session) (q : Queue) (lbfs xid m f size : ℕ) (us : List Ask) (s : Status) (temps : List (ℕ × Temp)) → (g : Given book k qs n now x q (record { lbfs = lbfs; xid = xid; call = Commit m f size }) us) → ((i : ℕ) (e : ℕ × Temp) → slice_get temps i ≡ Some e → (j : ℕ) × (slice_get k.server.temps j ≡ Some e))
    → IsShelf temps → ((o : ℕ) → (o ≡ n → ⊥) → SameFound k.server.temps temps o) → (x.cut ≡ false → Wanted (onward book 1 book.ops) (job (session_in book k qs n now x q (record { lbfs = lbfs; xid = xid; call = Commit m f size }) us g).seat) xid (Changed (Failed s tt)))
    → (x.cut ≡ false → HoldsTemp temps n us q.downs (locals_of (session_in book k qs n now x q (record { lbfs = lbfs; xid = xid; call = Commit m f size }) us g).seat.client) (job (session_in book k qs n now x q (record { lbfs = lbfs; xid = xid; call = Commit m f size }) us g).seat))
    → Leads book (rest_of qs n q us) (answered k n (later k.server.leasing now) x (record { lbfs = lbfs; xid = xid; call = Commit m f size }) temps k.server.index (Changed (Failed s tt)))
refused_with laws book k qs n now x q lbfs xid m f size us s temps g were shelf found wanted held =
    let a : Ask = record { lbfs = lbfs; xid = xid; call = Commit m f size } in
    let h = session_in book k qs n now x q a us g in
    let fits = first_fits book k qs n now x q a us g in
    leads_by book k qs n now x q a us temps k.server.index (Changed (Failed s tt)) g (record {
      program = refl;
      fits = laws.plain book.lbfs xid (Changed (Failed s tt)) fits.0 tt;
      answer = λ uncut. refusal_told book k qs n now x q lbfs xid m f size us s g uncut;
      pieces = λ i o e lt is key. let w = were i e is in h.temps w.0 o e lt w.1 key;
      below = λ uncut i o e lt is key. let w = were i e is in (h.temps_below uncut).1 w.0 o e lt w.1 key;
      others = λ o i p e apart lt is key. were i e is;
      shelf = shelf;
      found = found;
      wanted = wanted;
      held = λ uncut vs e. held_told temps n vs q.downs (record { xid = xid; reply = Changed (Failed s tt) }) x.cut (locals_of h.seat.client) (job h.seat) tt (subst (λ (l : List Ask). HoldsTemp temps n l q.downs (locals_of h.seat.client) (job h.seat)) (tails (sym g.first ∙ e)) (held uncut));
    })

-- ---- its change waits

-- there is room for a change with this content
abbrev Roomy : server.State → List ℕ → Type 0
Roomy s content = (s.tree.changes + server.entries_held s.waiting + 1 ≤ 4294967295) × (server.bytes_held s + length content ≤ 1073741824)

-- bytes are a content, but for those that were known by their digest
abbrev SameBytes : Book → (content bytes : List ℕ) → Type 0
SameBytes book content bytes = (length content ≡ length bytes) × Or book (bytes ≡ content)

-- a change has what its temporary file comes to
pending_with : (book : Book) (closing : Option ℕ) (cut : Bool) (o : Option Job) (x f : ℕ) (v bytes : List ℕ) → SameBytes book v bytes → IsPending book closing cut o x f v → IsPending book closing cut o x f bytes
pending_with book closing cut o x f v bytes same p = record { place = p.place; known = p.known; op = p.op; there = p.there; unmade = p.unmade; word_is = p.word_is; file_is = p.file_is; size_is = p.size_is ∙ same.0; value_is = or_both book _ _ _ (λ a b. a ∙ sym b) p.value_is same.1; waited = p.waited }

-- a commit comes to wait
leads_waits : (book : Book) (k : Core) (qs : List Queue) (n now : ℕ) (x : Session) (q : Queue) (lbfs xid m f size : ℕ) (us : List Ask) (temps : List (ℕ × Temp)) (content : List ℕ) → (g : Given book k qs n now x q (record { lbfs = lbfs; xid = xid; call = Commit m f size }) us)
    → ((i : ℕ) (e : ℕ × Temp) → slice_get temps i ≡ Some e → (j : ℕ) × (slice_get k.server.temps j ≡ Some e))
    → SameBytes book ((session_in book k qs n now x q (record { lbfs = lbfs; xid = xid; call = Commit m f size }) us g).contents m) content
    → Roomy k.server content → WasThere book f → IsShelf temps → ((o : ℕ) → (o ≡ n → ⊥) → SameFound k.server.temps temps o)
    → (x.cut ≡ false → HoldsTemp temps n us q.downs (locals_of (session_in book k qs n now x q (record { lbfs = lbfs; xid = xid; call = Commit m f size }) us g).seat.client) (job (session_in book k qs n now x q (record { lbfs = lbfs; xid = xid; call = Commit m f size }) us g).seat))
    → Leads book (rest_of qs n q us) (served k n x xid (comes (record (at k.server now) { temps = temps }) (change_of n xid f (what.Content content))))
leads_waits book k qs n now x q lbfs xid m f size us temps content g were same room known shelf found held =
    let h = session_in book k qs n now x q (record { lbfs = lbfs; xid = xid; call = Commit m f size }) us g in
    let d : FileChange = change_of n xid f (what.Content content) in
    let first = (subst (AllAsks (IsCommit book x.closing x.cut (job h.seat) h.contents)) g.first h.commits).0.0 in
    let more = onward book 1 book.ops in
    leads_coming book k qs n now x q (record { lbfs = lbfs; xid = xid; call = Commit m f size }) us temps d g (record {
      session_is = refl;
      xid_is = refl;
      key_is = refl;
      number = refl;
      were = were;
      wants = tt;
      changes = let e = entries_more k.server.waiting d in let r = room.0 in omega (arith, e, r);
      bytes = let e = sizes_more k.server.waiting d in let r = room.1 in omega (arith, e, r);
      length_is = subst (λ (z : ℕ). z ≤ 67108864) same.0 (h.lengths m);
      known = known;
      shelf = shelf;
      found = found;
      held = held;
      waits = pending_with more x.closing x.cut (job h.seat) xid f (h.contents m) content same (pending_later book more None None x.closing x.cut (job h.seat) (job h.seat) xid f (h.contents m) (grows_same book 1) (λ p u v. nothing_there p v) (λ z. refl) first);
    })

-- ---- whatever becomes of it

pub not_full : (a b c d : ℕ) → (nat_lt a b || nat_lt c d) ≡ false → (b ≤ a) × (d ≤ c)
not_full a b c d e = by (nat_lt a b) refl e
  where
    by : (t : Bool) → nat_lt a b ≡ t → (t || nat_lt c d) ≡ false → (b ≤ a) × (d ≤ c)
    by true same e = absurd cc
    by false same e = (grind (arith, nat_tests, same), grind (arith, nat_tests, e))

-- where its client is there, a commit finds its temporary file whole, and its file in the tree
pub record IsReady (book : Book) (k : Core) (qs : List Queue) (n now : ℕ) (x : Session) (q : Queue) (lbfs xid m f size : ℕ) (us : List Ask) (g : Given book k qs n now x q (record { lbfs = lbfs; xid = xid; call = Commit m f size }) us) : Type 0 where
  pub job_ : Job
  pub is : job (session_in book k qs n now x q (record { lbfs = lbfs; xid = xid; call = Commit m f size }) us g).seat ≡ Some job_
  pub stage_is : job_.stage ≡ stage.Committing xid
  pub temp : Temp
  pub found : temp_at k.server.temps n m ≡ Some temp
  pub content : List ℕ
  pub whole : assembled temp size ≡ Some content
  pub target : IsStill k.server f ⊎ IsNone book k.server f
  pub small : nat_lt size_most size ≡ false
  pub alone : has_waiting k.server.waiting n ≡ false
  pub left : HoldsTemp (without_temp k.server.temps n m) n us q.downs (locals_of (session_in book k qs n now x q (record { lbfs = lbfs; xid = xid; call = Commit m f size }) us g).seat.client) (job (session_in book k qs n now x q (record { lbfs = lbfs; xid = xid; call = Commit m f size }) us g).seat)

none_waits : (n : ℕ) (ws : List FileChange) → length (own n ws) ≡ 0 → has_waiting ws n ≡ false
none_waits n [] e = refl
none_waits n (w ∷ ws) e = by (w.session == n) e (none_waits n ws)
  where
    by : (b : Bool) → length (cond b (w ∷ own n ws) (own n ws)) ≡ 0 → (length (own n ws) ≡ 0 → has_waiting ws n ≡ false) → (b || has_waiting ws n) ≡ false
    by true e later = absurd (omega (arith, e))
    by false e later = later e

is_ready : (book : Book) (k : Core) (qs : List Queue) (n now : ℕ) (x : Session) (q : Queue) (lbfs xid m f size : ℕ) (us : List Ask) → (g : Given book k qs n now x q (record { lbfs = lbfs; xid = xid; call = Commit m f size }) us) → x.cut ≡ false → IsReady book k qs n now x q lbfs xid m f size us g
is_ready book k qs n now x q lbfs xid m f size us g uncut =
    let a : Ask = record { lbfs = lbfs; xid = xid; call = Commit m f size } in
    let h = session_in book k qs n now x q a us g in
    let p = place_at book k qs n now x q a us g uncut in
    let v = locals_of h.seat.client p.0.file in
    let held = subst (HeldIn k.server.temps n (a ∷ us) q.downs v) p.2 (subst (HoldsTemp k.server.temps n (a ∷ us) q.downs (locals_of h.seat.client)) p.1 (held_at book k qs n now x q a us g uncut)) in
    let t = held.0 (0, m, f, size, lbfs, refl) in
    let sized_is : size ≡ length (h.contents m) = (subst (AllAsks (IsCommit book x.closing x.cut (job h.seat) h.contents)) g.first h.commits).0.1 in
    let short = h.lengths m in
    let there = still_or_none book k.server f g.kept.server (subst (λ (z : ℕ). WasThere book z) p.3 ((h.orderly uncut).tree p.0 p.1 (ap stage_word p.2))) (first_fits book k qs n now x q a us g).2 in
    let single = h.single in
    let first = ap commits_in g.first in
    let joins = joined_alike t.0.pieces (PiecesOf v (λ c. true) (chunks_of v)) 0 (length v) v t.2 (pieces_are_whole v) in
    record {
      job_ = p.0;
      is = p.1;
      stage_is = p.2;
      temp = t.0;
      found = t.1.3;
      content = joins.0;
      whole = ap (λ (z : ℕ). joined 0 z t.0.pieces) p.4 ∙ joins.1;
      target = there;
      small = (let le : size ≤ 67108864 = omega (arith, sized_is, short) in grind (arith, nat_tests, le));
      alone = none_waits n k.server.waiting (omega (arith, single, first));
      left = subst (HoldsTemp (without_temp k.server.temps n m) n us q.downs (locals_of h.seat.client)) (sym p.1) (subst (HeldIn (without_temp k.server.temps n m) n us q.downs v) (sym p.2) (λ u. absurd (rest_above book k qs n now x q a us g uncut u.0 (record { lbfs = u.4; xid = xid; call = Commit u.1 u.2 u.3 }) u.5 refl), λ u. one_out k.server.temps n m t.0 g.kept.shelf t.1));
    }

-- it is refused for want of room
no_room : FitLaws → (book : Book) (k : Core) (qs : List Queue) (n now : ℕ) (x : Session) (q : Queue) (lbfs xid m f size : ℕ) (us : List Ask) → (g : Given book k qs n now x q (record { lbfs = lbfs; xid = xid; call = Commit m f size }) us) → (content : List ℕ) → x.cut ≡ false → SameBytes book ((session_in book k qs n now x q (record { lbfs = lbfs; xid = xid; call = Commit m f size }) us g).contents m) content → is_full k.server (length content) ≡ true
    → Wanted (onward book 1 book.ops) (job (session_in book k qs n now x q (record { lbfs = lbfs; xid = xid; call = Commit m f size }) us g).seat) xid (Changed (Failed status.NoSpc tt))
no_room laws book k qs n now x q lbfs xid m f size us g content uncut is full =
    let a : Ask = record { lbfs = lbfs; xid = xid; call = Commit m f size } in
    let h = session_in book k qs n now x q a us g in
    let p = place_at book k qs n now x q a us g uncut in
    let of = (g.kept.seats x.owner h.seat h.owner).task p.0 p.1 in
    let c = (subst (AllAsks (IsCommit book x.closing x.cut (job h.seat) h.contents)) g.first h.commits).0.0 in
    let place : c.place ≡ p.0.place = ap (λ (z : Job). z.place) (some_is _ p.0 (sym (c.waited uncut) ∙ p.1)) in
    let same : c.op ≡ of.op = some_is c.op of.op (sym c.there ∙ ap (slice_get book.ops) place ∙ of.there) in
    let value : length (h.contents m) ≡ length of.op.value = sym c.size_is ∙ ap (λ (z : Op). length z.value) same in
    let steps = g.kept.steps in
    let begun = (g.kept.sound.rights p.0.place of.op of.there).begun in (
      p.0,
      of.op,
      p.1,
      p.2,
      of.there,
      of.word ∙ ap stage_word p.2,
      inl (
        record {
          moment = record { before = k; event = Serves n now (message_spell (ask_message a)) };
          there = g.noted.there;
          session = n;
          now = now;
          bytes = message_spell (ask_message a);
          event_is = refl;
          xid = xid;
          call = record { lbfs = lbfs; fd = m; handle = handle_bytes f; size = size; base = None };
          parsed = parsed laws a (first_fits book k qs n now x q a us g);
          size = (subst (AllAsks (IsCommit book x.closing x.cut (job h.seat) h.contents)) g.first h.commits).0.1 ∙ value;
          after = omega (arith, begun, steps);
          before = omega (arith, steps);
          waits = record {
            seat = h.seat;
            seat_is = ap (numbered k.seats) of.client ∙ h.owner;
            newest = (h.here uncut).0;
            own = waits_in h.seat.place h.seat.client.task p.0 xid p.1 (ap (λ (s : Stage). client.has_call (client.pending_in s) xid) p.2 ∙ ap (λ b. b || false) (eq-eqb xid xid refl));
          };
          full = subst (λ (z : ℕ). is_full k.server z ≡ true) (sym is.0 ∙ value) full;
        },
        refl,
      ),
    )

-- it is refused since its file is gone
target_gone : (book : Book) (k : Core) (qs : List Queue) (n now : ℕ) (x : Session) (q : Queue) (lbfs xid m f size : ℕ) (us : List Ask) → (g : Given book k qs n now x q (record { lbfs = lbfs; xid = xid; call = Commit m f size }) us) → x.cut ≡ false → value_at book f (book.steps + 1) ≡ None
    → Wanted (onward book 1 book.ops) (job (session_in book k qs n now x q (record { lbfs = lbfs; xid = xid; call = Commit m f size }) us g).seat) xid (Changed (Failed status.Stale tt))
target_gone book k qs n now x q lbfs xid m f size us g uncut gone =
    let a : Ask = record { lbfs = lbfs; xid = xid; call = Commit m f size } in
    let h = session_in book k qs n now x q a us g in
    let p = place_at book k qs n now x q a us g uncut in
    let w = close_gone book k qs x.owner h.seat p.0 g.kept h.owner p.1 (ap stage_word p.2) (ap is_naming p.2) (ap (λ (z : ℕ). value_at book z (book.steps + 1)) p.3 ∙ gone) in
    (p.0, w.0, p.1, p.2, w.1, w.2, inr (w.3, refl))

pub serve_commit : FitLaws → (book : Book) (k : Core) (qs : List Queue) (n now : ℕ) (x : Session) (q : Queue) (lbfs xid m f size : ℕ) (us : List Ask) → Given book k qs n now x q (record { lbfs = lbfs; xid = xid; call = Commit m f size }) us
    → Leads book (rest_of qs n q us) (served k n x xid (takes_commit (at k.server now) n xid (record { lbfs = lbfs; fd = m; handle = handle_bytes f; size = size; base = None }) (temp_at k.server.temps n m)))
serve_commit laws book k qs n now x q lbfs xid m f size us g = by (temp_at k.server.temps n m) refl
  where
    a : Ask
    a = record { lbfs = lbfs; xid = xid; call = Commit m f size }

    h : IsSession book k.seats k.server n x q
    h = session_in book k qs n now x q a us g

    ready : x.cut ≡ false → IsReady book k qs n now x q lbfs xid m f size us g
    ready uncut = is_ready book k qs n now x q lbfs xid m f size us g uncut

    left : List (ℕ × Temp)
    left = without_temp k.server.temps n m

    others : (o : ℕ) → (o ≡ n → ⊥) → SameFound k.server.temps left o
    others o apart p lt = other_out k.server.temps n m o p (first_fits book k qs n now x q a us g).1 lt apart

    fails : (s : Status) → (x.cut ≡ false → ⊥) → Leads book (rest_of qs n q us) (answered k n (later k.server.leasing now) x a k.server.temps k.server.index (Changed (Failed s tt)))
    fails s never = refused_with laws book k qs n now x q lbfs xid m f size us s k.server.temps g (λ i e is. (i, is)) g.kept.shelf (λ o apart p lt. refl) (λ uncut. absurd (never uncut)) (λ uncut. absurd (never uncut))

    ends : (s : Status) → (x.cut ≡ false → Wanted (onward book 1 book.ops) (job h.seat) xid (Changed (Failed s tt))) → Leads book (rest_of qs n q us) (answered k n (later k.server.leasing now) x a left k.server.index (Changed (Failed s tt)))
    ends s wanted = refused_with laws book k qs n now x q lbfs xid m f size us s left g (λ i e is. of_removed _ k.server.temps i e is) (shelf_out k.server.temps n m g.kept.shelf) others wanted (λ uncut. (ready uncut).left)

    has_room : (id : ℕ) (content : List ℕ) (w full : Bool) → has_waiting k.server.waiting n ≡ w → is_full (record (at k.server now) { temps = left }) (length content) ≡ full → id ≡ f → WasThere book f → SameBytes book (h.contents m) content
        → Leads book (rest_of qs n q us) (served k n x xid (if w then answers (record (at k.server now) { temps = left }) n xid (lb.CommitTmpAnswer (Failed status.Jukebox tt)) else if full then answers (record (at k.server now) { temps = left }) n xid (lb.CommitTmpAnswer (Failed status.NoSpc tt)) else comes (record (at k.server now) { temps = left }) (change_of n xid id (what.Content content))))
    has_room id content true full waits e same known is = ends status.Jukebox (λ uncut. absurd (false_and_true (has_waiting k.server.waiting n) (ready uncut).alone waits))
    has_room id content false true waits e same known is = ends status.NoSpc (λ uncut. no_room laws book k qs n now x q lbfs xid m f size us g content uncut is e)
    has_room id content false false waits e same known is = subst (λ (i : ℕ). Leads book (rest_of qs n q us) (served k n x xid (comes (record (at k.server now) { temps = left }) (change_of n xid i (what.Content content))))) (sym same) (leads_waits book k qs n now x q lbfs xid m f size us left content g (λ i u w. of_removed _ k.server.temps i u w) is (not_full changes_most (k.server.tree.changes + server.entries_held k.server.waiting + 1) tree_most (server.bytes_held k.server + length content) e) known (shelf_out k.server.temps n m g.kept.shelf) others (λ uncut. (ready uncut).left))

    whole : (id : ℕ) (t : Temp) (o : Option (List ℕ)) → temp_at k.server.temps n m ≡ Some t → assembled t size ≡ o → id ≡ f → WasThere book f → ((c : List ℕ) → o ≡ Some c → SameBytes book (h.contents m) c) → Leads book (rest_of qs n q us) (served k n x xid (commits_whole (record (at k.server now) { temps = left }) n xid id o))
    whole id t None found none same known is = ends status.Inval (λ uncut. let r = ready uncut in nothing_there r.content (sym none ∙ ap (λ (z : Temp). assembled z size) (some_is t r.temp (sym found ∙ r.found)) ∙ r.whole))
    whole id t (Some c) found some same known is = has_room id c (has_waiting k.server.waiting n) (is_full (record (at k.server now) { temps = left }) (length c)) refl refl same known (is c refl)

    sized : (b : Bool) (id : ℕ) (t : Temp) → nat_lt size_most size ≡ b → temp_at k.server.temps n m ≡ Some t → id ≡ f → WasThere book f → Leads book (rest_of qs n q us) (served k n x xid (if b then answers (record (at k.server now) { temps = left }) n xid (lb.CommitTmpAnswer (Failed status.FBig tt)) else commits_whole (record (at k.server now) { temps = left }) n xid id (assembled t size)))
    sized true id t big found same known = ends status.FBig (λ uncut. absurd (false_and_true (nat_lt size_most size) (ready uncut).small big))
    sized false id t big found same known =
        let fits = first_fits book k qs n now x q a us g in
        let e = of_lookup k.server.temps (key_of n m) t found in
        let held = h.temps e.0 m e.1 fits.1 e.2 e.3 in
        let parts : AreParts (hashed_of book.moments) (h.contents m) t.pieces = subst (λ (u : Temp). AreParts (hashed_of book.moments) (h.contents m) u.pieces) e.4 held.0 in
        let sized_is : size ≡ length (h.contents m) = (subst (AllAsks (IsCommit book x.closing x.cut (job h.seat) h.contents)) g.first h.commits).0.1 in
        whole id t (assembled t size) found refl same known (λ c is. joined_is (hashed_of book.moments) (h.contents m) t.pieces c parts (ap (λ (z : ℕ). joined 0 z t.pieces) (sym sized_is) ∙ is))

    nodes : (t : Temp) → temp_at k.server.temps n m ≡ Some t → Found k.server.tree f → Leads book (rest_of qs n q us) (served k n x xid (takes_commit_on (record (at k.server now) { temps = left }) n xid size t (node_of k.server.tree (handle_bytes f))))
    nodes t found (is_directory d there none e) = subst (λ (nd : Result Node Status). Leads book (rest_of qs n q us) (served k n x xid (takes_commit_on (record (at k.server now) { temps = left }) n xid size t nd))) (sym e) (ends status.IsDir (λ uncut. elim (ready uncut).target [ inl still ↦ absurd (not_root still.0 (sym e ∙ still.2)) | inr gone ↦ absurd (not_gone (sym e ∙ gone.1)) ]))
      where
        not_gone : ◌≡◌ {A = Result Node Status} (Ok directory) (Err status.Stale) → ⊥
        not_gone q = absurd cc

        not_root : (z : File) → ◌≡◌ {A = Result Node Status} (Ok directory) (Ok (file z)) → ⊥
        not_root z q = absurd cc
    nodes t found (is_gone none e) = subst (λ (nd : Result Node Status). Leads book (rest_of qs n q us) (served k n x xid (takes_commit_on (record (at k.server now) { temps = left }) n xid size t nd))) (sym e) (ends status.Stale (λ uncut. target_gone book k qs n now x q lbfs xid m f size us g uncut (subst (FileIs book f) none (g.kept.server.held f))))
    nodes t found (is_file z there e) = subst (λ (nd : Result Node Status). Leads book (rest_of qs n q us) (served k n x xid (takes_commit_on (record (at k.server now) { temps = left }) n xid size t nd))) (sym e) (sized (nat_lt size_most size) z.id t refl found (subst (FileIs book f) there (g.kept.server.held f)).0 (is_there book f z (subst (FileIs book f) there (g.kept.server.held f))))

    by : (o : Option Temp) → temp_at k.server.temps n m ≡ o → Leads book (rest_of qs n q us) (served k n x xid (takes_commit (at k.server now) n xid (record { lbfs = lbfs; fd = m; handle = handle_bytes f; size = size; base = None }) o))
    by None found = fails status.BadFd (λ uncut. let r = ready uncut in nothing_there r.temp (sym found ∙ r.found))
    by (Some t) found = nodes t found (looked k.server.tree f (first_fits book k qs n now x q a us g).2)

-- An operation begins that asks the server: its first call goes up.
use Rattle.std.proofs.Common.{◌⊎◌, inl, inr, ◌≡◌, ℕ, zero, suc, ◌+◌, ◌<◌, ◌≤◌, List, [], ◌∷◌, ◌++◌, length, Option, Some, None, Bool, true, false, refl, sym, ap, ◌∙◌, subst, arith, eq-eqb, ne_eqb, map}
use Rattle.path_calls.specs.declared.walk.Walk.{Walk}
use Rattle.client_state.specs.State as client
use Rattle.client_state.specs.declared.task.Stage.TheVariants as stage
use Rattle.server_core.specs.declared.change.Wanted.TheVariants as wanted
use Rattle.register_model.specs.declared.op.Outcome.TheVariants as told
use Rattle.register_model.specs.declared.op.Word.TheVariants as words
use Rattle.kept_promise.proofs.Common.{nat_tests, slice_get, cond, ◌==◌, Pending, Temp, key_of, FileChange, Wanted, Stage, Op, TakenCall, Core, Entries, Seat, Session, numbered, unless, hashed_of, Book, Call, Call.Lease, Call.Hash, Call.Read, Call.Name, Call.Send, Call.Commit, Reply, Reply.Versioned, Reply.Hashed, Reply.Bytes, Reply.Changed, Ask, Queue, Call.Walks, Reply.Walked, Told}
use Rattle.kept_promise.proofs.Statements.{CallFits}
use Rattle.kept_promise.proofs.Lists.{some_is, nothing_there, same_or_not, at_end, of_appended, false_and_true, all_map, all_unless}
use Rattle.kept_promise.proofs.Keys.{times, times_append, own, on_way, ask_key, change_key, told_key, pending_key, IsOurs, call_ours}
use Rattle.kept_promise.proofs.Messages.{lease_xid, Job, job, stage_word, AllAsks, Rising, hash_offset, read_chunk, CallOf, IsAsked, AnswerOf, IsAnswer, FetchOf, IsCommit, CommitOf, IsNamed, IsPiece, PieceOf, TempUnder, AreParts, CloseOf, Trying, IsCreating, WaitsFor}
use Rattle.kept_promise.proofs.Rights.{IsRight, WasThere}
use Rattle.kept_promise.proofs.PathNames.{is_creating}
use Rattle.kept_promise.proofs.History.{onward, goes_appended, still_appended}
use Rattle.kept_promise.proofs.Later.{same_view, cached_later}
use Rattle.kept_promise.proofs.Turns.{Around, turned_core, kept_turn, has_owner}
use Rattle.kept_promise.proofs.Taken.{rising_append, times_map_append}
use Rattle.kept_promise.proofs.Orderly.{locals_of, InPlace}
use Rattle.kept_promise.proofs.Ordered.{BeginsWith, orderly_clear, orderly_begun}
use Rattle.kept_promise.proofs.Facts.{IsBalanced, IsTalk, IsOf, IsSeat, Cached, HasXids, IsKept, commits_in, change_number}
use Rattle.kept_promise.proofs.Takes.{server_still}
use Rattle.kept_promise.proofs.Heard.{ask_pending, change_once, commits_unless}
use Rattle.kept_promise.proofs.Steps.{no_commits, asks_below, tolds_below}
use Rattle.kept_promise.proofs.Growth.{there_later}

-- ---- nothing of a change is on its way where nothing is under way

free_commits : (book : Book) (closing : Option ℕ) (cut : Bool) (o : Option Job) (contents : ℕ → List ℕ) (us : List Ask) → cut ≡ false → o ≡ None → AllAsks (IsCommit book closing cut o contents) us → commits_in us ≡ 0
free_commits book closing cut o contents [] uncut free all = refl
free_commits book closing cut o contents (a ∷ us) uncut free all = by a.call all.0 (free_commits book closing cut o contents us uncut free all.1)
  where
    creates : (w : Walk) (b : Bool) → is_creating w ≡ b → (is_creating w ≡ true → IsCreating book closing cut o a.xid w) → commits_in us ≡ 0 → cond b 1 0 + commits_in us ≡ 0
    creates w true e h none = nothing_there _ (sym free ∙ (h e).waited uncut)
    creates w false e h none = omega (arith, none)

    by : (c : Call) → CommitOf book closing cut o contents a.xid c → commits_in us ≡ 0 → change_number c + commits_in us ≡ 0
    by (Commit temp file size) h none = nothing_there _ (sym free ∙ h.0.waited uncut)
    by (Walks w) h none = creates w (is_creating w) refl h none
    by _ h none = omega (arith, none)

free_waiting : (book : Book) (closing : Option ℕ) (cut : Bool) (o : Option Job) (cs : List FileChange) → cut ≡ false → o ≡ None → ((i : ℕ) (d : FileChange) → slice_get cs i ≡ Some d → WaitsFor book d.session closing cut o d.xid d.file d.what) → cs ≡ []
free_waiting book closing cut o [] uncut free all = refl
free_waiting book closing cut o (d ∷ cs) uncut free all = by d.what (all 0 d refl)
  where
    by : (what : Wanted) → WaitsFor book d.session closing cut o d.xid d.file what → d ∷ cs ≡ []
    by (wanted.Content content) p = nothing_there _ (sym free ∙ p.waited uncut)
    by (wanted.Asked a) p = nothing_there _ (sym free ∙ (p.waited uncut).1)

-- ---- its first stage waits for one call

-- what waits for the next xid alone waits for none before it
pub record First (next : ℕ) (s : Stage) (a : Ask) : Type 0 where
  pub xid : a.xid ≡ next
  pub pending : client.pending_in s ≡ ask_pending a ∷ []
  pub hash : (y o : ℕ) → y < next → hash_offset s y ≡ Some o → ⊥
  pub read : (y : ℕ) → read_chunk s y ≡ None
  pub commit : (y : ℕ) → s ≡ stage.Committing y → ⊥
  pub walk : (y : ℕ) (w : Walk) → y < next → s ≡ stage.Walking y w → ⊥
  pub lease : (y : ℕ) → y < next → lease_xid s ≡ Some y → ⊥

pub call_first : (next : ℕ) (j : Job) (s : Stage) (a : Ask) → First next s a → j.stage ≡ s → (y : ℕ) (c : Call) → y < next → CallOf (Some j) y c
call_first next j s a f is y (Lease g) lt = λ i e w. absurd (f.lease y lt (ap lease_xid (sym is) ∙ ap (λ (z : Job). lease_xid z.stage) (some_is j i e) ∙ w))
call_first next j s a f is y (Hash g o) lt = λ i p e w. absurd (f.hash y p lt (ap (λ (z : Stage). hash_offset z y) (sym is) ∙ ap (λ (z : Job). hash_offset z.stage y) (some_is j i e) ∙ w))
call_first next j s a f is y (Read g d) lt = λ i p e w. nothing_there p (sym (f.read y) ∙ ap (λ (z : Stage). read_chunk z y) (sym is) ∙ ap (λ (z : Job). read_chunk z.stage y) (some_is j i e) ∙ w)
call_first next j s a f is y (Walks w) lt = λ i v e at. absurd (f.walk y v lt (sym is ∙ ap (λ (z : Job). z.stage) (some_is j i e) ∙ at))
call_first next j s a f is y _ lt = tt

pub answer_first : (book : Book) (taken : List TakenCall) (closing : Option ℕ) (next : ℕ) (j : Job) (s : Stage) (a : Ask) → First next s a → j.stage ≡ s → (y : ℕ) (r : Reply) → y < next → AnswerOf book taken closing (Some j) y r
answer_first book taken closing next j s a f is y (Versioned h) lt = λ i e w. absurd (f.lease y lt (ap lease_xid (sym is) ∙ ap (λ (z : Job). lease_xid z.stage) (some_is j i e) ∙ w))
answer_first book taken closing next j s a f is y (Hashed h) lt = λ i p e w. absurd (f.hash y p lt (ap (λ (z : Stage). hash_offset z y) (sym is) ∙ ap (λ (z : Job). hash_offset z.stage y) (some_is j i e) ∙ w))
answer_first book taken closing next j s a f is y (Bytes h) lt = λ i g c e at w. nothing_there c (sym (f.read y) ∙ ap (λ (z : Stage). read_chunk z y) (sym is) ∙ ap (λ (z : Job). read_chunk z.stage y) (some_is j i e) ∙ w)
answer_first book taken closing next j s a f is y (Changed h) lt = λ i e w. absurd (f.commit y (sym is ∙ ap (λ (z : Job). z.stage) (some_is j i e) ∙ w))
answer_first book taken closing next j s a f is y (Walked r) lt = λ i w e at. absurd (f.walk y w lt (sym is ∙ ap (λ (z : Job). z.stage) (some_is j i e) ∙ at))
answer_first book taken closing next j s a f is y _ lt = tt

unless_rising : (hung : Bool) (n : ℕ) (us : List Ask) (a : Ask) (top : ℕ) → Rising n us top → a.xid ≡ top → Rising n (unless hung us (a ∷ [])) (top + 1)
unless_rising true n us a top r e = wider n us r
  where
    wider : (n : ℕ) (us : List Ask) → Rising n us top → Rising n us (top + 1)
    wider n [] r = omega (arith, r)
    wider n (u ∷ us) r = (r.0, wider (u.xid + 1) us r.1)
unless_rising false n us a top r e = rising_append n us (a ∷ []) top (top + 1) r (omega (arith, e), omega (arith, e))

unless_commits : (hung : Bool) (us : List Ask) (a : Ask) → commits_in us ≡ 0 → commits_in (unless hung us (a ∷ [])) ≤ 1
unless_commits hung us a e = let both = commits_unless hung us (a ∷ []) in let one = change_once a.call in omega (arith, e, both, one)

balanced_first : (n : ℕ) (w : List FileChange) (q : Queue) (hung : Bool) (next : ℕ) (calls : List Pending) (a : Ask) → a.xid ≡ next → IsBalanced n w q hung next calls → IsBalanced n w (record { ups = unless hung q.ups (a ∷ []); downs = q.downs }) hung (next + 1) (ask_pending a ∷ calls)
balanced_first n w q hung next calls a e h = record {
  most = λ y. most_by hung y (h.most y);
  least = λ up y. least_by hung up y (h.least up y);
  once = λ y. once_by y (h.once y);
  below = λ y le. below_by y le (h.below y (omega (arith, le)));
  ours = λ i p at. ours_by i p at;
}
  where
    way_more : (y : ℕ) → times y (on_way n w (record { ups = q.ups ++ a ∷ []; downs = q.downs })) ≡ times y (on_way n w q) + times y (ask_key a ∷ [])
    way_more y =
        let middle = map change_key (own n w) ++ map told_key q.downs in
        let one = times_append y (map ask_key (q.ups ++ a ∷ [])) middle in
        let two = times_append y (map ask_key q.ups) middle in
        let three = times_map_append ask_key y q.ups (a ∷ []) in
        omega (arith, one, two, three)

    keyed : (y : ℕ) → times y (map pending_key (ask_pending a ∷ calls)) ≡ times y (map pending_key calls) + times y (ask_key a ∷ [])
    keyed y = let f = times_append y (ask_key a ∷ []) (map pending_key calls) in omega (arith, f)

    most_by : (b : Bool) (y : ℕ) → times y (on_way n w q) ≤ times y (map pending_key calls) → times y (on_way n w (record { ups = unless b q.ups (a ∷ []); downs = q.downs })) ≤ times y (map pending_key (ask_pending a ∷ calls))
    most_by true y le = let k = keyed y in omega (arith, le, k)
    most_by false y le = let k = keyed y in let m = way_more y in omega (arith, le, k, m)

    least_by : (b : Bool) → b ≡ false → (y : ℕ) → times y (map pending_key calls) ≤ times y (on_way n w q) → times y (map pending_key (ask_pending a ∷ calls)) ≤ times y (on_way n w (record { ups = unless b q.ups (a ∷ []); downs = q.downs }))
    least_by true up y le = absurd cc
    least_by false up y le = let k = keyed y in let m = way_more y in omega (arith, le, k, m)

    once_by : (y : ℕ) → times y (map (λ p. p.xid) calls) ≤ 1 → times y (map (λ p. p.xid) (ask_pending a ∷ calls)) ≤ 1
    once_by y le = by (a.xid == y) refl
      where
        by : (b : Bool) → (a.xid == y) ≡ b → cond b (suc (times y (map (λ (p : Pending). p.xid) calls))) (times y (map (λ (p : Pending). p.xid) calls)) ≤ 1
        by true same = let z = h.below y (let s : a.xid ≡ y = grind (arith, nat_tests, same) in omega (arith, s, e)) in omega (arith, z)
        by false same = le

    below_by : (y : ℕ) → next + 1 ≤ y → times y (map (λ p. p.xid) calls) ≡ 0 → times y (map (λ p. p.xid) (ask_pending a ∷ calls)) ≡ 0
    below_by y le none = ap (λ b. cond b (suc (times y (map (λ (p : Pending). p.xid) calls))) (times y (map (λ (p : Pending). p.xid) calls))) (ne_eqb a.xid y (λ s. omega (arith, s, e, le))) ∙ none

    ours_by : (i : ℕ) (p : Pending) → slice_get (ask_pending a ∷ calls) i ≡ Some p → IsOurs p.program
    ours_by zero p at = subst (λ (z : Pending). IsOurs z.program) (some_is (ask_pending a) p at) (call_ours a.call)
    ours_by (suc i) p at = h.ours i p at

-- ---- an operation begins

-- the temporary file of the next number is to be this
abbrev pub with_content : (ℕ → List ℕ) → ℕ → List ℕ → ℕ → List ℕ
with_content f n v m = cond (m == n) v (f m)

content_else : (f : ℕ → List ℕ) (n : ℕ) (v : List ℕ) (m : ℕ) → (m ≡ n → ⊥) → with_content f n v m ≡ f m
content_else f n v m apart = ap (λ b. cond b v (f m)) (ne_eqb m n apart)

pub content_at : (f : ℕ → List ℕ) (n : ℕ) (v : List ℕ) → with_content f n v n ≡ v
content_at f n v = ap (λ b. cond b v (f n)) (eq-eqb n n refl)

piece_else : (hashed : List (List ℕ)) (f : ℕ → List ℕ) (n : ℕ) (v : List ℕ) (a : Ask) → TempUnder n a.call → IsPiece hashed f a → IsPiece hashed (with_content f n v) a
piece_else hashed f n v a lt h = by a.call lt h
  where
    by : (c : Call) → TempUnder n c → PieceOf hashed f c → PieceOf hashed (with_content f n v) c
    by (Name m c) lt h = subst (λ (l : List ℕ). IsNamed hashed l c) (sym (content_else f n v m (λ e. omega (arith, lt, e)))) h
    by (Send m s b) lt h = subst (λ (l : List ℕ). b ≡ Rattle.std.specs.Prelude.take (length b) (Rattle.std.specs.Prelude.drop s l)) (sym (content_else f n v m (λ e. omega (arith, lt, e)))) h
    by _ lt h = tt

pieces_else : (hashed : List (List ℕ)) (f : ℕ → List ℕ) (n : ℕ) (v : List ℕ) (us : List Ask) → AllAsks (λ a. TempUnder n a.call) us → AllAsks (IsPiece hashed f) us → AllAsks (IsPiece hashed (with_content f n v)) us
pieces_else hashed f n v [] lt h = tt
pieces_else hashed f n v (a ∷ us) lt h = (piece_else hashed f n v a lt.0 h.0, pieces_else hashed f n v us lt.1 h.1)

under_more : (n m : ℕ) → n ≤ m → (us : List Ask) → AllAsks (λ a. TempUnder n a.call) us → AllAsks (λ a. TempUnder m a.call) us
under_more n m le [] h = tt
under_more n m le (a ∷ us) h = (by a.call h.0, under_more n m le us h.1)
  where
    by : (c : Call) → TempUnder n c → TempUnder m c
    by (Lease g) lt = tt
    by (Hash g o) lt = tt
    by (Read g c) lt = tt
    by (Walks w) lt = tt
    by _ lt = omega (arith, lt, le)

-- the client's session, and that nothing is under way
pub record Free (book : Book) (k : Core) (qs : List Queue) (c n : ℕ) (x : Session) (q : Queue) (seat : Seat) : Type 0 where
  pub kept : IsKept book k qs
  pub here : numbered k.seats c ≡ Some seat
  pub at : numbered k.sessions n ≡ Some x
  pub is : numbered qs n ≡ Some q
  pub owner : x.owner ≡ c
  pub newest : seat.session ≡ Some n
  pub uncut : x.cut ≡ false
  pub linked : seat.client.linked ≡ true
  pub task : seat.client.task ≡ None
  pub free : job seat ≡ None

abbrev pub begun_client : client.State → (cache : Entries) → (sent temp file : ℕ) → Stage → client.State
begun_client s cache sent temp file g = record s { cache = cache; sent = sent; next_xid = s.next_xid + 1; next_temp = temp; task = Some (record { file = file; stage = g }) }

-- what an operation shows that begins
pub record Starts (book : Book) (k : Core) (qs : List Queue) (c n : ℕ) (x : Session) (q : Queue) (seat : Seat) (new : Op) (cache : Entries) (temp file : ℕ) (s : Stage) (a : Ask) (closing : Option ℕ) (value : List ℕ) : Type 0 where
  pub first : First seat.client.next_xid s a
  pub of_client : new.client ≡ c
  pub word : new.word ≡ stage_word s
  pub of_file : new.file ≡ file
  pub running : new.outcome ≡ told.Running
  pub pointless : new.point ≡ None
  pub right : IsRight (onward book 1 (book.ops ++ new ∷ [])) new
  pub asked : IsAsked (Some (record { place = length book.ops; file = file; stage = s })) a
  pub commit : (contents : ℕ → List ℕ) → IsCommit (onward book 1 (book.ops ++ new ∷ [])) closing x.cut (Some (record { place = length book.ops; file = file; stage = s })) contents a
  pub fits : CallFits a.lbfs a.xid a.call
  pub speaks : a.lbfs ≡ book.lbfs
  pub under : TempUnder temp a.call
  pub piece : (f : ℕ → List ℕ) → IsPiece (hashed_of book.moments) f a
  pub cached : Cached book cache
  pub temps : seat.client.next_temp ≤ temp
  pub short : length value ≤ 67108864
  pub fetch : (taken : List TakenCall) → FetchOf (onward book 1 (book.ops ++ new ∷ [])) taken (record { place = length book.ops; file = file; stage = s }) s
  pub closes : (contents : ℕ → List ℕ) → contents seat.client.next_temp ≡ value → CloseOf (onward book 1 (book.ops ++ new ∷ [])) closing contents temp (record { place = length book.ops; file = file; stage = s }) (client.local_bytes seat.client.opened file) s
  pub trying : (m y : ℕ) → s ≡ stage.Hashing m y → Trying (onward book 1 (book.ops ++ new ∷ [])) (record { place = length book.ops; file = file; stage = s }) m
  pub xids : HasXids (seat.client.next_xid + 1) s
  pub bounded : (seat.client.next_xid + 1 ≤ 4294967296) × (temp ≤ seat.client.next_xid + 1)
  pub closing_is : (closing ≡ x.closing) ⊎ (closing ≡ Some (length book.ops))
  pub place : (d : Seat) → job d ≡ Some (record { place = length book.ops; file = file; stage = s }) → InPlace (job d) (locals_of d.client) a.xid a.call
  pub begins : BeginsWith s a
  pub tree : stage_word s ≡ words.Close → WasThere book file

pub kept_begins : (book : Book) (k : Core) (qs : List Queue) (c n : ℕ) (x : Session) (q : Queue) (seat : Seat) (new : Op) (cache : Entries) (sent temp file : ℕ) (s : Stage) (a : Ask) (closing : Option ℕ) (value : List ℕ) (seats : List Seat) (sessions : List Session) (after : List Queue) → Free book k qs c n x q seat → Starts book k qs c n x q seat new cache temp file s a closing value
    → Around k.seats seats c (record { client = begun_client seat.client cache sent temp file s; session = seat.session; place = Some (length book.ops) }) → Around k.sessions sessions n (record x { closing = closing }) → Around qs after n (record { ups = unless x.hung q.ups (a ∷ []); downs = q.downs })
    → (let more = onward book 1 (book.ops ++ new ∷ []) in IsKept more (turned_core k more k.server seats sessions) after)
kept_begins book k qs c n x q seat new cache sent temp file s a closing value seats sessions after g w seat_around session_around queue_around =
    let h = g.kept.sessions n x q g.at g.is (has_owner k.seats x seat (ap (numbered k.seats) g.owner ∙ g.here)) in
    let more = onward book 1 (book.ops ++ new ∷ []) in
    let j : Job = record { place = length book.ops; file = file; stage = s } in
    let d : Seat = record { client = begun_client seat.client cache sent temp file s; session = seat.session; place = Some (length book.ops) } in
    let y : Session = record x { closing = closing } in
    let ups = unless x.hung q.ups (a ∷ []) in
    let seat_is : h.seat ≡ seat = some_is h.seat seat (sym h.owner ∙ ap (numbered k.seats) g.owner ∙ g.here) in
    let free : job h.seat ≡ None = ap job seat_is ∙ g.free in
    let seat_was = g.kept.seats c seat g.here in
    let none_up = free_commits book x.closing x.cut (job h.seat) h.contents q.ups g.uncut free h.commits in
    let none_waits = free_waiting book x.closing x.cut (job h.seat) (own n k.server.waiting) g.uncut free h.pending in
    let goes = goes_appended book new w.pointless w.right g.kept.sound in
    let contents = with_content h.contents seat.client.next_temp value in
    let talk = subst (IsTalk book n k.server.waiting x q) seat_is (h.talk g.uncut) in
    let below = subst (λ (z : Seat). AllAsks (λ u. TempUnder z.client.next_temp u.call) q.ups × ((i m : ℕ) (e : ℕ × Temp) → m < 4294967296 → slice_get k.server.temps i ≡ Some e → e.0 ≡ key_of n m → m < z.client.next_temp)) seat_is (h.temps_below g.uncut) in
    let calls : client.calls_of d.client ≡ ask_pending a ∷ seat.client.forgotten = ap (λ l. l ++ seat.client.forgotten) w.first.pending in
    let forgot : client.calls_of seat.client ≡ seat.client.forgotten = ap (λ t. client.pending t ++ seat.client.forgotten) g.task in
    let new_job : IsOf more c j = record { op = new; there = at_end book.ops new; client = w.of_client; word = w.word; file = λ n. w.of_file; running = w.running } in
    kept_turn book more k qs k.server seats sessions after n x y (record { ups = ups; downs = q.downs }) seat d None None (record {
      at = g.at;
      was = ap (numbered k.seats) g.owner ∙ g.here;
      session_around = session_around;
      queue_around = queue_around;
      seat_around = subst (λ (z : ℕ). Around k.seats seats z d) (sym g.owner) seat_around;
      owner = refl;
      goes = goes;
      server = server_still book more None None k.server k.server.leasing k.server.temps k.server.index g.kept.server.leases goes.grows (still_appended book new w.pointless g.kept.sound) g.kept.server;
      sessions_made = refl;
      view = λ m apart. same_view m k.server;
      elsewhere = inr g.newest;
      closing = λ p e. elim w.closing_is [ inl was ↦ inl (sym was ∙ e) | inr is ↦ inr (past_end book.ops p (some_is (length book.ops) p (sym is ∙ e))) ];
      made_here = λ p f. nothing_there p f;
      ended_here = λ p o f. nothing_there p f;
      session = record {
        seat = d;
        owner = ap (numbered seats) g.owner ∙ seat_around.there;
        here = λ u. (g.newest, g.linked);
        shut = λ cut. absurd (false_and_true x.cut g.uncut cut);
        lost = λ hung. absurd_hung hung;
        stands_is = h.stands_is;
        ups_fit = all_unless (λ (u : Ask). CallFits u.lbfs u.xid u.call) x.hung q.ups (a ∷ []) h.ups_fit (w.fits, tt);
        ups_speak = all_unless (λ (u : Ask). u.lbfs ≡ book.lbfs) x.hung q.ups (a ∷ []) h.ups_speak (w.speaks, tt);
        downs_fit = h.downs_fit;
        talk = λ u. record {
          floor = talk.floor;
          numbered = talk.numbered;
          under = talk.under;
          rising = unless_rising x.hung talk.floor q.ups a seat.client.next_xid talk.rising w.first.xid;
          asked = all_unless (IsAsked (Some j)) x.hung q.ups (a ∷ []) (all_map (λ (v : Ask). v.xid < seat.client.next_xid) (IsAsked (Some j)) (λ v lt. call_first seat.client.next_xid j s a w.first refl v.xid v.call lt) q.ups (asks_below talk.floor q.ups seat.client.next_xid talk.rising)) (w.asked, tt);
          answers = all_map (λ (v : Told). v.xid < seat.client.next_xid) (IsAnswer more x.taken closing (Some j)) (λ v lt. answer_first more x.taken closing seat.client.next_xid j s a w.first refl v.xid v.reply lt) q.downs (tolds_below n k.server.waiting q x.hung seat.client.next_xid (client.calls_of seat.client) talk.balanced);
          fetch = λ i e. subst (λ (z : Job). FetchOf more x.taken z z.stage) (some_is j i e) (w.fetch x.taken);
          balanced = subst (IsBalanced n k.server.waiting (record { ups = ups; downs = q.downs }) x.hung (seat.client.next_xid + 1)) (sym calls) (balanced_first n k.server.waiting q x.hung seat.client.next_xid seat.client.forgotten a w.first.xid (subst (IsBalanced n k.server.waiting q x.hung seat.client.next_xid) forgot talk.balanced));
          busy = λ i e. subst (λ (z : Job). 0 < length (client.pending_in z.stage)) (some_is j i e) (let l = ap (λ (z : List Pending). length z) w.first.pending in omega (arith, l));
        };
        contents = contents;
        lengths = λ m. short_by (m == seat.client.next_temp) m h.lengths;
        commits = all_unless (IsCommit more closing x.cut (Some j) contents) x.hung q.ups (a ∷ []) (no_commits more closing x.cut (Some j) contents q.ups none_up) (w.commit contents, tt);
        pieces = all_unless (IsPiece (hashed_of book.moments) contents) x.hung q.ups (a ∷ []) (pieces_else (hashed_of book.moments) h.contents seat.client.next_temp value q.ups below.0 h.pieces) (w.piece contents, tt);
        temps = λ i m e lt b key. let t = h.temps i m e lt b key in let less = below.1 i m e lt b key in (subst (λ l. AreParts (hashed_of book.moments) l e.1.pieces) (sym (content_else h.contents seat.client.next_temp value m (λ same. omega (arith, same, less)))) t.0, t.1);
        temps_below = λ u. (all_unless (λ (v : Ask). TempUnder temp v.call) x.hung q.ups (a ∷ []) (under_more seat.client.next_temp temp w.temps q.ups below.0) (w.under, tt), λ i m e lt b key. let less = below.1 i m e lt b key in let le = w.temps in omega (arith, less, le));
        closes = λ u i e. subst (λ (z : Job). CloseOf more closing contents temp z (client.local_bytes seat.client.opened z.file) z.stage) (some_is j i e) (w.closes contents (content_at h.contents seat.client.next_temp value));
        pending = λ i z f. nothing_there z (ap (λ (l : List FileChange). slice_get l i) (sym none_waits) ∙ f);
        single = let u = unless_commits x.hung q.ups a none_up in let v = ap (λ (l : List FileChange). length l) none_waits in omega (arith, u, v);
        old = λ p e. elim w.closing_is [
          | inl was ↦ let o = h.old p (sym was ∙ e) in let u = goes.grows.each p o.0 o.1 in (u.0, u.1, u.2.client ∙ o.2)
          | inr is ↦ (new, ap (slice_get (book.ops ++ new ∷ [])) (sym (some_is (length book.ops) p (sym is ∙ e))) ∙ at_end book.ops new, w.of_client ∙ sym g.owner)
        ];
        orderly = λ u. orderly_begun more n k.server.temps x.hung q a d j refl (w.place d refl) w.begins (λ e. there_later book more None None file goes.grows (w.tree e)) (orderly_clear book n k.server.temps x.hung q h.seat free (h.orderly g.uncut));
      };
      seat = subst (λ (z : ℕ). IsSeat more sessions z d) (sym g.owner) (record {
        session = λ m e. let same : n ≡ m = some_is n m (sym g.newest ∙ e) in (y, ap (numbered sessions) (sym same) ∙ session_around.there, g.owner);
        linked = λ e. (n, y, g.newest, session_around.there, g.uncut);
        unlinked = λ e. absurd (false_and_true seat.client.linked e g.linked);
        speaks = seat_was.speaks;
        matched = inr (j, refl);
        task = λ i e. subst (IsOf more c) (some_is j i e) new_job;
        trying = λ i m z e f. let same = some_is j i e in subst (λ (v : Job). Trying more v m) same (w.trying m z (ap (λ (v : Job). v.stage) same ∙ f));
        xids = λ i e. subst (λ (z : Job). HasXids (seat.client.next_xid + 1) z.stage) (some_is j i e) w.xids;
        next = w.bounded;
        opened = λ f l e. let o = seat_was.opened f l e in (there_later book more None None f goes.grows o.0, o.1);
        kept = cached_later book more None None cache goes.grows w.cached;
      });
      running = λ p o at run. elim (of_appended book.ops new p o at) [
        | inl last ↦ (d, j, ap (λ (z : Op). numbered seats z.client) last.1 ∙ ap (numbered seats) w.of_client ∙ seat_around.there, refl, sym last.0)
        | inr was ↦ let r = g.kept.running p o was run in elim (same_or_not o.client c) [
          | inr apart ↦ (r.0, r.1, seat_around.others o.client apart ∙ r.2, r.3, r.4)
          | inl mine ↦ let e : r.0 ≡ seat = some_is r.0 seat (sym r.2 ∙ ap (numbered k.seats) mine ∙ g.here) in nothing_there r.1 (sym g.free ∙ ap job (sym e) ∙ r.3)
        ]
      ];
      shelf = g.kept.shelf;
      home = λ i z f. let u = g.kept.home i z f in elim (same_or_not z.session n) [
        | inr apart ↦ (u.0, session_around.others z.session apart ∙ u.1, u.2)
        | inl e ↦ (y, ap (numbered sessions) e ∙ session_around.there, ap (λ (v : Session). v.hung) (some_is x u.0 (sym g.at ∙ ap (numbered k.sessions) (sym e) ∙ u.1)) ∙ u.2)
      ];
    }) g.kept.journal g.kept
  where
    past_end : {A : Type 0} (xs : List A) (p : ℕ) → length xs ≡ p → slice_get xs p ≡ None
    past_end [] p e = refl
    past_end (z ∷ xs) zero e = absurd (omega (arith, e))
    past_end (z ∷ xs) (suc p) e = past_end xs p (omega (arith, e))

    absurd_hung : x.hung ≡ true → unless x.hung q.ups (a ∷ []) ≡ []
    absurd_hung e = by x.hung e ((g.kept.sessions n x q g.at g.is (has_owner k.seats x seat (ap (numbered k.seats) g.owner ∙ g.here))).lost e)
      where
        by : (b : Bool) → b ≡ true → q.ups ≡ [] → unless b q.ups (a ∷ []) ≡ []
        by true e none = none
        by false e none = absurd cc

    short_by : (b : Bool) (m : ℕ) → ((m : ℕ) → length ((g.kept.sessions n x q g.at g.is (has_owner k.seats x seat (ap (numbered k.seats) g.owner ∙ g.here))).contents m) ≤ 67108864) → length (cond b value ((g.kept.sessions n x q g.at g.is (has_owner k.seats x seat (ap (numbered k.seats) g.owner ∙ g.here))).contents m)) ≤ 67108864
    short_by true m f = w.short
    short_by false m f = f m

-- Facts of messages, sessions and clients stay true while the history grows.
use Rattle.std.proofs.Common.{◌⊎◌, inl, inr, ◌≡◌, ℕ, ◌+◌, ◌<◌, ◌≤◌, List, [], ◌∷◌, ◌++◌, length, Option, Some, None, Bool, true, false, refl, sym, ap, ◌∙◌, subst, arith, map}
use Rattle.client_cache.specs.Cache.{Entries}
use Rattle.hash_calls.specs.declared.call.Leased.{Leased}
use Rattle.tree_calls.specs.declared.asked.Asked.{Asked}
use Rattle.server_core.specs.State as server
use Rattle.server_core.specs.declared.change.Wanted.TheVariants as wanted
use Rattle.client_state.specs.State as client
use Rattle.client_state.specs.declared.task.Stage.TheVariants as stage
use Rattle.kept_promise.proofs.Common.{Body, slice_get, Contains, Status, Chunk, Answer, Done, Failed, Committed, Hashes, Piece, Attr, Pending, stands, Temp, key_of, FileChange, Fetch, Stage, Value, Op, TakenCall, Seat, Session, numbered, hashed_of, Book, Collides, Tried, Call, Call.Name, Call.Send, Call.Commit, Call.Walks, Reply, Reply.Versioned, Reply.Hashed, Reply.Bytes, Reply.Changed, Ask, Told, Queue, Reply.Walked, name_answer, Moment, changes, Wanted}
use Rattle.kept_promise.proofs.Keys.{times, own, on_way, change_key, ask_key, told_key, pending_key}
use Rattle.kept_promise.proofs.Lists.{some_is, all_map}
use Rattle.nfs3_calls.specs.declared.message.Nfs.{Nfs}
use Rattle.path_calls.specs.declared.walk.Walk.{Walk}
use Rattle.kept_promise.proofs.Messages.{WalkTold, Job, job, lease_body, hash_body, AllAsks, AllTolds, IsTold, IsServed, IsTried, Trying, RefusedTold, HashTold, LeaseTold, PieceOf, IsPiece, IsPartOf, AreParts, ReadTold, CommitTold, TriedBy, AnswerOf, IsAnswer, IsFetch, IsReading, FetchOf, HasFetch, IsPending, CommitOf, IsCommit, IsOwed, CloseOf, TempUnder, WalkCame, UnmadeBy, PointedBy, IsCreating, IsNameOwed, goal_word, stage_word, walk_for, IsGoing, WaitsFor, IsTakenFor}
use Rattle.kept_promise.proofs.Growth.{Grows, takes_later, value_later, version_later, or_later, held_later, tried_later, tried_wider, made_later, there_later, Follows}
use Rattle.kept_promise.proofs.Orderly.{Orderly}
use Rattle.kept_promise.proofs.Ordered.{SameFound, orderly_later}
use Rattle.kept_promise.proofs.Statements.{IsSpoken, ToldFits}
use Rattle.kept_promise.proofs.Facts.{commits_in, Cached, IsBalanced, IsTalk, IsSession, IsOf, IsSeat, is_naming, IsRawSession}
use Rattle.kept_promise.proofs.Rights.{gets_file}
use Rattle.kept_promise.proofs.PathNames.{is_creating}
use Rattle.trace_replay.specs.Naming.{entry_file}
use Rattle.path_calls.specs.declared.walk.Goal.{Goal}
use Rattle.path_calls.specs.declared.walk.Goal.TheVariants as goal

-- ---- messages

pub told_later : (book more : Book) (made ended : Option ℕ) (taken : List TakenCall) (j : Job) (x : ℕ) (v : Value) (version : ℕ) → Grows book more made ended → IsTold book taken j x v version → IsTold more taken j x v version
told_later book more made ended taken j x v version g h =
    let r = g.each j.place h.op h.there in
    let le = h.past in
    let n = g.passes in
    record {
      moment = h.moment;
      was = h.was;
      past = omega (arith, le, n);
      value = value_later book more made ended j.file h.moment g (omega (arith, le)) ∙ h.value;
      version_is = version_later book more made ended j.file h.moment g (omega (arith, le)) ∙ h.version_is;
      op = r.0;
      there = r.1;
      after = subst (λ (b : ℕ). b ≤ h.moment) (sym r.2.begin) h.after;
      apart = λ i e. elim (g.entries_new i h.moment e) [ inl old ↦ h.apart i old | inr new ↦ omega (arith, le, new) ];
    }

served_later : (book more : Book) (made ended : Option ℕ) (taken : List TakenCall) (j : Job) (x : ℕ) (call : Body) → Grows book more made ended → IsServed book taken j x call → IsServed more taken j x call
served_later book more made ended taken j x call g h =
    let r = g.each j.place h.op h.there in
    record { moment = h.moment; was = h.was; op = r.0; there = r.1; takes = takes_later book more made ended h.op.client r.0.client h.moment x call g r.2.client h.takes }

pub is_tried_later : (book more : Book) (made ended : Option ℕ) (taken : List TakenCall) (j : Job) (x n : ℕ) → Grows book more made ended → IsTried book taken j x n → IsTried more taken j x n
is_tried_later book more made ended taken j x n g h =
    let r = g.each j.place h.op h.there in
    let le = h.past in
    let p = g.passes in
    record { moment = h.moment; was = h.was; past = omega (arith, le, p); op = r.0; there = r.1; count = h.count; tries_is = h.tries_is; tried = subst (λ (b : ℕ). Tried more j.file b h.count h.moment) (sym r.2.begin) (tried_later book more made ended j.file h.op.begin h.count h.moment g (omega (arith, le)) h.tried); call = subst (λ v. IsServed more taken j x (hash_body v j.file 0)) (sym g.lbfs) (served_later book more made ended taken j x (hash_body book.lbfs j.file 0) g h.call) }

pub trying_later : (book more : Book) (made ended : Option ℕ) (j : Job) (n : ℕ) → Grows book more made ended → Trying book j n → Trying more j n
trying_later book more made ended j n g h =
    let r = g.each j.place h.op h.there in
    let p = g.passes in
    record { op = r.0; there = r.1; count = h.count; tries_is = h.tries_is; tried = subst (λ (b : ℕ). Tried more j.file b h.count (more.steps + 1)) (sym r.2.begin) (tried_wider more j.file h.op.begin h.count (book.steps + 1) (more.steps + 1) (omega (arith, p)) (tried_later book more made ended j.file h.op.begin h.count (book.steps + 1) g (omega arith) h.tried)) }

refused_told_later : (book more : Book) (made ended : Option ℕ) (taken : List TakenCall) (j : Job) (x : ℕ) (s : Status) → Grows book more made ended → RefusedTold book taken j x s → RefusedTold more taken j x s
refused_told_later book more made ended taken j x s g (inl (is, h)) =
    let r = g.each j.place h.op h.there in
    let le = h.past in
    let n = g.passes in
    inl (is, record { at = h.at; noted = g.happened h.at h.noted; moment = h.moment; step_is = h.step_is; was = h.was; past = omega (arith, le, n); op = r.0; there = r.1; after = subst (λ (b : ℕ). b ≤ h.moment) (sym r.2.begin) h.after; node = h.node; node_is = h.node_is })
refused_told_later book more made ended taken j x s g (inr h) = inr (h.0, (h.1.0, told_later book more made ended taken j x None h.1.0 g h.1.1))

hash_later : (book more : Book) (made ended : Option ℕ) (taken : List TakenCall) (j : Job) (x o : ℕ) (a : Answer Hashes Unit) → Grows book more made ended → HashTold book taken j x o a → HashTold more taken j x o a
hash_later book more made ended taken j x o (Failed s u) g h = refused_told_later book more made ended taken j x s g h
hash_later book more made ended taken j x o (Done a) g h = record {
  file = h.file;
  is = h.is;
  held = held_later book more made ended j.file h.file g h.held;
  value = h.value;
  told = told_later book more made ended taken j x (Some h.value) h.file.version g h.told;
  value_is = or_later book more made ended _ _ g (λ e. e) h.value_is;
  short = h.short;
  known = there_later book more made ended j.file g h.known;
  hashed = λ i c e. g.hashed _ (h.hashed i c e);
}

lease_later : (book more : Book) (made ended : Option ℕ) (taken : List TakenCall) (j : Job) (x : ℕ) (a : Answer Leased Unit) → Grows book more made ended → LeaseTold book taken j x a → LeaseTold more taken j x a
lease_later book more made ended taken j x (Failed s u) g h = refused_told_later book more made ended taken j x s g h
lease_later book more made ended taken j x (Done a) g h = record { value = h.value; told = told_later book more made ended taken j x (Some h.value) a.version g h.told; call = subst (λ v. IsServed more taken j x (lease_body v j.file)) (sym g.lbfs) (served_later book more made ended taken j x (lease_body book.lbfs j.file) g h.call); known = there_later book more made ended j.file g h.known }

read_later : (book more : Book) (made ended : Option ℕ) (taken : List TakenCall) (j : Job) (x first : ℕ) (c : Chunk) (a : Answer Piece (Option Attr)) → Grows book more made ended → ReadTold book taken j x first c a → ReadTold more taken j x first c a
read_later book more made ended taken j x first c (Failed s a) g h = refused_told_later book more made ended taken j x s g h
read_later book more made ended taken j x first c (Done p) g h =
    let le = h.past in
    let n = g.passes in
    record { file = h.file; is = h.is; held = held_later book more made ended j.file h.file g h.held; began = h.began; was = h.was; last = h.last; order = h.order; past = omega (arith, le, n); version_is = version_later book more made ended j.file h.last g (omega (arith, le)) ∙ h.version_is }

-- a close that the session remembers is not the one that is made, or decided, unless the session is that one's
abbrev pub Spares : (closing made : Option ℕ) → Type 0
Spares closing made = (p : ℕ) → closing ≡ Some p → made ≡ Some p → ⊥

commit_told_later : (book more : Book) (made ended closing : Option ℕ) (j : Job) (a : Answer Committed Unit) → Grows book more made ended → Spares closing made → CommitTold book closing j a → CommitTold more closing j a
commit_told_later book more made ended closing j (Done c) g spares h = made_later book more made ended j.place c.version g h
commit_told_later book more made ended closing j (Failed s u) g spares h = let r = g.each j.place h.0 h.1 in (r.0, r.1, r.2.unmade (spares j.place h.3) h.2, h.3)

tried_by_later : (book more : Book) (made ended : Option ℕ) (taken : List TakenCall) (j : Job) (x : ℕ) (s : Stage) → Grows book more made ended → TriedBy book taken j x s → TriedBy more taken j x s
tried_by_later book more made ended taken j x (stage.Hashing tries y) g h = is_tried_later book more made ended taken j x tries g h
tried_by_later book more made ended taken j x (stage.Listing y f) g h = h
tried_by_later book more made ended taken j x _ g h = tt

-- a walk's call was taken
abbrev pub taken_for_later : (book more : Book) (made ended : Option ℕ) (c d : ℕ) (j : Job) (s x : ℕ) (w : Walk) → Grows book more made ended → d ≡ c → IsTakenFor book c j s x w → IsTakenFor more d j s x w
taken_for_later book more made ended c d j s x w g same h =
    let le = h.past in
    let n = g.passes in
    record { at = h.at; noted = g.happened h.at h.noted; past = omega (arith, le, n); now = h.now; bytes = h.bytes; event_is = h.event_is; parsed = h.parsed; seat = h.seat; seat_is = ap (numbered h.at.before.seats) same ∙ h.seat_is; newest = h.newest; job_is = h.job_is; stage_is = h.stage_is }

-- for what is the same job
abbrev pub taken_for_same : (book : Book) (c : ℕ) (i j : Job) (s x : ℕ) (w : Walk) → i ≡ j → IsTakenFor book c i s x w → IsTakenFor book c j s x w
taken_for_same book c i j s x w same h = record { at = h.at; noted = h.noted; past = h.past; now = h.now; bytes = h.bytes; event_is = h.event_is; parsed = h.parsed; seat = h.seat; seat_is = h.seat_is; newest = h.newest; job_is = h.job_is ∙ ap (λ (z : Job). Some z) same; stage_is = ap (λ (z : Job). z.stage) (sym same) ∙ h.stage_is }

-- what came of a walk's call
walk_came_later : (book more : Book) (made ended closing : Option ℕ) (at : Moment) (step : ℕ) (j : Job) (o r : Op) (w : Walk) (m : Nfs) → Grows book more made ended → Spares closing made → step ≤ book.steps → Follows book made ended j.place o r → WalkCame book at step closing j o w m → WalkCame more at step closing j r w m
walk_came_later book more made ended closing at step j o r w m g spares le f (inl h) = inl (h.0, λ i e. elim (g.entries_new i step e) [ inl old ↦ h.1 i old | inr new ↦ omega (arith, le, new) ])
walk_came_later book more made ended closing at step j o r w m g spares le f (inr (inl h)) = inr (inl (record { making = h.making; why = h.why; why_is = h.why_is; refuses = h.refuses; leads = h.leads; unmade = unmade (is_creating w) h.unmade }))
  where
    unmade : (b : Bool) → UnmadeBy b closing j o → UnmadeBy b closing j r
    unmade false u = tt
    unmade true u = (f.unmade (spares j.place u.2) u.0, f.own_file u.0.0 (spares j.place u.2) ∙ u.1, u.2)
walk_came_later book more made ended closing at step j o r w m g spares le f (inr (inr h)) = inr (inr (record { making = h.making; session = h.session; xid = h.xid; taken = taken_for_later book more made ended o.client r.client j h.session h.xid w g f.client h.taken; comes = h.comes; before = h.before; done = h.done; step_is = h.step_is; tree_is = h.tree_is; journal_is = h.journal_is; leads = h.leads; pointed = pointed (is_creating w) h.pointed }))
  where
    pointed : (b : Bool) → PointedBy b closing j o step (entry_file h.done.first) → PointedBy b closing j r step (entry_file h.done.first)
    pointed false u = tt
    pointed true (inl u) = inl (u.0, (f.unmade (spares j.place u.1.2) u.1.0, f.own_file u.1.0.0 (spares j.place u.1.2) ∙ u.1.1, u.1.2))
    pointed true (inr u) = let p = f.point u.2 step u.3 in inr (u.0, u.1, ap changes f.word ∙ u.2, p.0, p.1 ∙ u.4)

walk_told_later : (book more : Book) (made ended : Option ℕ) (taken : List TakenCall) (closing : Option ℕ) (j : Job) (x : ℕ) (w : Walk) (m : Nfs) → Grows book more made ended → Spares closing made → WalkTold book taken closing j x w m → WalkTold more taken closing j x w m
walk_told_later book more made ended taken closing j x w m g spares h =
    let r = g.each j.place h.op h.there in
    let le = h.past in
    let n = g.passes in
    record { at = h.at; noted = g.happened h.at h.noted; moment = h.moment; step_is = h.step_is; was = h.was; past = omega (arith, le, n); op = r.0; there = r.1; after = subst (λ (b : ℕ). b ≤ h.moment) (sym r.2.begin) h.after; bounded = h.bounded; rooted = h.rooted; came = walk_came_later book more made ended closing h.at h.moment j h.op r.0 w m g spares h.past r.2 h.came; session = h.session; sent = h.sent; seat = h.seat; seat_is = ap (numbered h.at.before.seats) r.2.client ∙ h.seat_is; newest = h.newest; job_is = h.job_is; then_op = h.then_op; then_is = h.then_is; then_began = h.then_began ∙ sym r.2.begin }

answer_of_later : (book more : Book) (made ended : Option ℕ) (taken : List TakenCall) (closing : Option ℕ) (job : Option Job) (x : ℕ) (r : Reply) → Grows book more made ended → Spares closing made → AnswerOf book taken closing job x r → AnswerOf more taken closing job x r
answer_of_later book more made ended taken closing job x (Versioned a) g spares h = λ j e s. lease_later book more made ended taken j x a g (h j e s)
answer_of_later book more made ended taken closing job x (Hashed a) g spares h = λ j o e w. let r = h j o e w in (hash_later book more made ended taken j x o a g r.0, tried_by_later book more made ended taken j x j.stage g r.1)
answer_of_later book more made ended taken closing job x (Bytes a) g spares h = λ j f c e s w. read_later book more made ended taken j x f.first c a g (h j f c e s w)
answer_of_later book more made ended taken closing job x (Changed a) g spares h = λ j e s. commit_told_later book more made ended closing j a g spares (h j e s)
answer_of_later book more made ended taken closing job x (Walked r) g spares h = λ j w e s. walk_told_later book more made ended taken closing j x w (name_answer r) g spares (h j w e s)
answer_of_later book more made ended taken closing job x _ g spares h = tt

pub answer_later : (book more : Book) (made ended : Option ℕ) (taken : List TakenCall) (closing : Option ℕ) (job : Option Job) (t : Told) → Grows book more made ended → Spares closing made → IsAnswer book taken closing job t → IsAnswer more taken closing job t
answer_later book more made ended taken closing job t g spares h = answer_of_later book more made ended taken closing job t.xid t.reply g spares h

abbrev pub fetch_later : (book more : Book) (made ended : Option ℕ) (taken : List TakenCall) (j : Job) (f : Fetch) → Grows book more made ended → IsFetch book taken j f → IsFetch more taken j f
fetch_later book more made ended taken j f g h = record { file = h.file; held = held_later book more made ended j.file h.file g h.held; version = h.version; value = h.value; told = told_later book more made ended taken j f.first (Some h.value) f.version g h.told; value_is = or_later book more made ended _ _ g (λ e. e) h.value_is; tried = is_tried_later book more made ended taken j f.first f.tries g h.tried; size = h.size; short = h.short; known = there_later book more made ended j.file g h.known; count = h.count; within = h.within; chunks = h.chunks; hashed = λ i c e. g.hashed _ (h.hashed i c e) }

pub reading_later : (book more : Book) (made ended : Option ℕ) (x : List ℕ) (f : Fetch) → Grows book more made ended → IsReading book x f → IsReading more x f
reading_later book more made ended x f g h = record { whole = h.whole; slots = h.slots; came = λ i b c e w. let p = h.came i b c e w in (or_later book more made ended _ _ g (λ p. p) p.0, p.1); asked = h.asked; inside = h.inside; filled = h.filled }

pub fetch_of_later : (book more : Book) (made ended : Option ℕ) (taken : List TakenCall) (j : Job) (s : Stage) → Grows book more made ended → FetchOf book taken j s → FetchOf more taken j s
fetch_of_later book more made ended taken j (stage.Listing x f) g h = (fetch_later book more made ended taken j f g h.0, h.1, h.2)
fetch_of_later book more made ended taken j (stage.Reading f) g h = (fetch_later book more made ended taken j f g h.0, reading_later book more made ended h.0.file.content f g h.1)
fetch_of_later book more made ended taken j (stage.Walking x w) g h = h
fetch_of_later book more made ended taken j _ g h = tt

pub has_fetch_later : (book more : Book) (made ended : Option ℕ) (taken : List TakenCall) (job : Option Job) → Grows book more made ended → HasFetch book taken job → HasFetch more taken job
has_fetch_later book more made ended taken job g h = λ j e. fetch_of_later book more made ended taken j j.stage g (h j e)

-- ---- changes and closes

pub pending_later : (book more : Book) (made ended closing : Option ℕ) (cut : Bool) (job after : Option Job) (x f : ℕ) (v : List ℕ) → Grows book more made ended → Spares closing made → (cut ≡ false → after ≡ job) → IsPending book closing cut job x f v → IsPending more closing cut after x f v
pending_later book more made ended closing cut job after x f v g spares same h =
    let r = g.each h.place h.op h.there in
    record { place = h.place; known = h.known; op = r.0; there = r.1; unmade = r.2.unmade (spares h.place h.known) h.unmade; word_is = r.2.word ∙ h.word_is; file_is = r.2.close_file h.word_is ∙ h.file_is; size_is = ap (λ (l : List ℕ). length l) (r.2.value h.unmade.0) ∙ h.size_is; value_is = or_later book more made ended _ _ g (λ e. r.2.value h.unmade.0 ∙ e) h.value_is; waited = λ at. same at ∙ h.waited at }

-- a remove, or a rename over a file, that waits
pub going_later : (book more : Book) (made ended closing : Option ℕ) (cut : Bool) (job after : Option Job) (s x : ℕ) (a : Asked) → Grows book more made ended → Spares closing made → (cut ≡ false → after ≡ job) → IsGoing book s closing cut job x a → IsGoing more s closing cut after x a
going_later book more made ended closing cut job after s x a g spares same h =
    let r = g.each h.place h.op h.there in
    record { place = h.place; known = h.known; op = r.0; there = r.1; unmade = r.2.unmade (spares h.place h.known) h.unmade; word_is = r.2.word ∙ h.word_is; file_is = r.2.own_file h.unmade.0 (spares h.place h.known) ∙ h.file_is; waited = λ at. (let w = h.waited at in (w.0, same at ∙ w.1, w.2)); taken = λ at. taken_for_later book more made ended h.op.client r.0.client (record { place = h.place; file = 0; stage = stage.Walking x (walk_for a) }) s x (walk_for a) g r.2.client (h.taken at) }

-- whatever waits
pub waits_later : (book more : Book) (made ended closing : Option ℕ) (cut : Bool) (job after : Option Job) (s x f : ℕ) (what : Wanted) → Grows book more made ended → Spares closing made → (cut ≡ false → after ≡ job) → WaitsFor book s closing cut job x f what → WaitsFor more s closing cut after x f what
waits_later book more made ended closing cut job after s x f (wanted.Content content) g spares same h = pending_later book more made ended closing cut job after x f content g spares same h
waits_later book more made ended closing cut job after s x f (wanted.Asked a) g spares same h = going_later book more made ended closing cut job after s x a g spares same h

-- a call that may change a file
creating_later : (book more : Book) (made ended closing : Option ℕ) (cut : Bool) (job after : Option Job) (x : ℕ) (w : Walk) → Grows book more made ended → Spares closing made → (cut ≡ false → after ≡ job) → IsCreating book closing cut job x w → IsCreating more closing cut after x w
creating_later book more made ended closing cut job after x w g spares same h =
    let r = g.each h.place h.op h.there in
    record { place = h.place; known = h.known; op = r.0; there = r.1; unmade = r.2.unmade (spares h.place h.known) h.unmade; word_is = r.2.word ∙ h.word_is; file_is = r.2.own_file h.unmade.0 (spares h.place h.known) ∙ h.file_is; waited = λ at. same at ∙ h.waited at }

pub commit_later : (book more : Book) (made ended closing : Option ℕ) (cut : Bool) (job after : Option Job) (contents : ℕ → List ℕ) (a : Ask) → Grows book more made ended → Spares closing made → (cut ≡ false → after ≡ job) → IsCommit book closing cut job contents a → IsCommit more closing cut after contents a
commit_later book more made ended closing cut job after contents a g spares same h = by a.call h
  where
    by : (c : Call) → CommitOf book closing cut job contents a.xid c → CommitOf more closing cut after contents a.xid c
    by (Commit temp file size) h = (pending_later book more made ended closing cut job after a.xid file (contents temp) g spares same h.0, h.1)
    by (Walks w) h = λ creates. creating_later book more made ended closing cut job after a.xid w g spares same (h creates)
    by _ h = tt

pub owed_later : (book more : Book) (made ended closing : Option ℕ) (j : Job) (v : List ℕ) → Grows book more made ended → Spares closing made → IsOwed book closing j v → IsOwed more closing j v
owed_later book more made ended closing j v g spares h =
    let r = g.each j.place h.op h.there in
    record { known = h.known; op = r.0; there = r.1; unmade = r.2.unmade (spares j.place h.known) h.unmade; word_is = r.2.word ∙ h.word_is; value_is = r.2.value h.unmade.0 ∙ h.value_is; small = h.small }

name_owed_later : (book more : Book) (made ended closing : Option ℕ) (j : Job) (aim : Goal) → Grows book more made ended → Spares closing made → IsNameOwed book closing j aim → IsNameOwed more closing j aim
name_owed_later book more made ended closing j aim g spares h =
    let r = g.each j.place h.op h.there in
    record { known = h.known; op = r.0; there = r.1; unmade = r.2.unmade (spares j.place h.known) h.unmade; word_is = r.2.word ∙ h.word_is; file_is = r.2.own_file h.unmade.0 (spares j.place h.known) ∙ h.file_is }

pub close_later : (book more : Book) (made ended closing : Option ℕ) (contents : ℕ → List ℕ) (n : ℕ) (j : Job) (v : List ℕ) (s : Stage) → Grows book more made ended → Spares closing made → CloseOf book closing contents n j v s → CloseOf more closing contents n j v s
close_later book more made ended closing contents n j v (stage.Making x temp) g spares h = (owed_later book more made ended closing j v g spares h.0, h.1, h.2)
close_later book more made ended closing contents n j v (stage.Storing st) g spares h = (owed_later book more made ended closing j v g spares h.0, h.1, h.2, h.3)
close_later book more made ended closing contents n j v (stage.Committing x) g spares h = let r = g.each j.place h.0 h.1 in (r.0, r.1, r.2.word ∙ h.2, r.2.value (ap changes h.2) ∙ h.3)
close_later book more made ended closing contents n j v (stage.Walking x w) g spares h = λ later. name_owed_later book more made ended closing j w.goal g spares (h later)
close_later book more made ended closing contents n j v _ g spares h = tt

-- ---- pieces

-- from one list of hashed bytes to a longer one
abbrev Adds : (hashed after : List (List ℕ)) → Type 0
Adds hashed after = (b : List ℕ) → Contains hashed b → Contains after b

piece_of_later : (hashed after : List (List ℕ)) (contents : ℕ → List ℕ) (c : Call) → Adds hashed after → PieceOf hashed contents c → PieceOf after contents c
piece_of_later hashed after contents (Name temp c) adds h = record { digest = h.digest; len = h.len; there = adds _ h.there }
piece_of_later hashed after contents (Send temp s b) adds h = h
piece_of_later hashed after contents _ adds h = tt

pub pieces_later : (hashed after : List (List ℕ)) (contents : ℕ → List ℕ) (us : List Ask) → Adds hashed after → AllAsks (IsPiece hashed contents) us → AllAsks (IsPiece after contents) us
pieces_later hashed after contents us adds h = all_map (IsPiece hashed contents) (IsPiece after contents) (λ a p. piece_of_later hashed after contents a.call adds p) us h

pub parts_later : (hashed after : List (List ℕ)) (v : List ℕ) (ps : List (ℕ × List ℕ)) → Adds hashed after → AreParts hashed v ps → AreParts after v ps
parts_later hashed after v [] adds h = tt
parts_later hashed after v (p ∷ ps) adds h = (by h.0, parts_later hashed after v ps adds h.1)
  where
    by : IsPartOf v p.0 p.1 ⊎ Collides hashed → IsPartOf v p.0 p.1 ⊎ Collides after
    by (inl e) = inl e
    by (inr c) = inr (record { a = c.a; b = c.b; first = adds c.a c.first; second = adds c.b c.second; same = c.same; apart = c.apart })

-- ---- sessions

-- what the server has of a session
pub record SameView (n : ℕ) (s r : server.State) : Type 0 where
  pub stands_is : stands r n ≡ stands s n
  pub waiting : own n r.waiting ≡ own n s.waiting
  pub temps : (i m : ℕ) (e : ℕ × Temp) → m < 4294967296 → slice_get r.temps i ≡ Some e → e.0 ≡ key_of n m → (j : ℕ) × (slice_get s.temps j ≡ Some e)
  pub found : SameFound s.temps r.temps n

pub same_view : (n : ℕ) (s : server.State) → SameView n s s
same_view n s = record { stands_is = refl; waiting = refl; temps = λ i m e lt at k. (i, at); found = λ m lt. refl }

-- on its way is the same where the session's changes are
way_same : (n : ℕ) (w v : List FileChange) (q : Queue) → own n v ≡ own n w → on_way n v q ≡ on_way n w q
way_same n w v q e = ap (λ (l : List FileChange). map ask_key q.ups ++ (map change_key l ++ map told_key q.downs)) e

balanced_later : (n : ℕ) (w v : List FileChange) (q : Queue) (hung : Bool) (next : ℕ) (calls : List Pending) → own n v ≡ own n w → IsBalanced n w q hung next calls → IsBalanced n v q hung next calls
balanced_later n w v q hung next calls e h = record {
  most = λ y. subst (λ (l : List ℕ). times y l ≤ times y (map pending_key calls)) (sym (way_same n w v q e)) (h.most y);
  least = λ a y. subst (λ (l : List ℕ). times y (map pending_key calls) ≤ times y l) (sym (way_same n w v q e)) (h.least a y);
  once = h.once;
  below = h.below;
  ours = h.ours;
}

pub talk_later : (book more : Book) (made ended : Option ℕ) (n : ℕ) (w v : List FileChange) (x : Session) (q : Queue) (seat : Seat) → Grows book more made ended → Spares x.closing made → own n v ≡ own n w → IsTalk book n w x q seat → IsTalk more n v x q seat
talk_later book more made ended n w v x q seat g spares e h = record {
  floor = h.floor;
  numbered = h.numbered;
  under = h.under;
  rising = h.rising;
  asked = h.asked;
  answers = all_map (IsAnswer book x.taken x.closing (job seat)) (IsAnswer more x.taken x.closing (job seat)) (λ t a. answer_later book more made ended x.taken x.closing (job seat) t g spares a) q.downs h.answers;
  fetch = has_fetch_later book more made ended x.taken (job seat) g h.fetch;
  balanced = balanced_later n w v q x.hung seat.client.next_xid (client.calls_of seat.client) e h.balanced;
  busy = h.busy;
}

-- the version that the clients speak is the same
pub speak_later : (book more : Book) (made ended : Option ℕ) (us : List Ask) → Grows book more made ended → AllAsks (λ a. a.lbfs ≡ book.lbfs) us → AllAsks (λ a. a.lbfs ≡ more.lbfs) us
speak_later book more made ended us g h = subst (λ v. AllAsks (λ a. a.lbfs ≡ v) us) (sym g.lbfs) h

pub fit_later : (book more : Book) (made ended : Option ℕ) (ts : List Told) → Grows book more made ended → AllTolds (ToldFits book.lbfs) ts → AllTolds (ToldFits more.lbfs) ts
fit_later book more made ended ts g h = subst (λ (v : ℕ). AllTolds (ToldFits v) ts) (sym g.lbfs) h

pub serves_later : (book more : Book) (made ended : Option ℕ) → Grows book more made ended → IsSpoken book.lbfs → IsSpoken more.lbfs
serves_later book more made ended g h = subst IsSpoken (sym g.lbfs) h

-- a session whose owner is as it was, or is elsewhere
pub session_later : (book more : Book) (made ended : Option ℕ) (seats others : List Seat) (s r : server.State) (n : ℕ) (x : Session) (q : Queue) (c d : Seat) → Grows book more made ended → numbered seats x.owner ≡ Some c → numbered others x.owner ≡ Some d → (x.cut ≡ false → d ≡ c) → Spares x.closing made → SameView n s r
    → IsSession book seats s n x q → IsSession more others r n x q
session_later book more made ended seats others s r n x q c d g was is same spares view h =
    let e : h.seat ≡ c = some_is h.seat c (sym h.owner ∙ was) in
    let there : x.cut ≡ false → d ≡ h.seat = λ at. same at ∙ sym e in
    let jobs : x.cut ≡ false → job d ≡ job h.seat = λ at. ap job (there at) in
    record {
      seat = d;
      owner = is;
      here = λ at. subst (λ (z : Seat). (z.session ≡ Some n) × (z.client.linked ≡ true)) (sym (there at)) (h.here at);
      shut = h.shut;
      lost = h.lost;
      stands_is = view.stands_is ∙ h.stands_is;
      ups_fit = h.ups_fit;
      ups_speak = speak_later book more made ended q.ups g h.ups_speak;
      downs_fit = fit_later book more made ended q.downs g h.downs_fit;
      talk = λ at. subst (λ (z : Seat). IsTalk more n r.waiting x q z) (sym (there at)) (talk_later book more made ended n s.waiting r.waiting x q h.seat g spares view.waiting (h.talk at));
      contents = h.contents;
      lengths = h.lengths;
      commits = all_map (IsCommit book x.closing x.cut (job h.seat) h.contents) (IsCommit more x.closing x.cut (job d) h.contents) (λ a m. commit_later book more made ended x.closing x.cut (job h.seat) (job d) h.contents a g spares jobs m) q.ups h.commits;
      pieces = pieces_later (hashed_of book.moments) (hashed_of more.moments) h.contents q.ups g.hashed h.pieces;
      temps = λ i m u lt at k. let w = view.temps i m u lt at k in let o = h.temps w.0 m u lt w.1 k in (parts_later (hashed_of book.moments) (hashed_of more.moments) (h.contents m) u.1.pieces g.hashed o.0, o.1);
      temps_below = λ at. let f = h.temps_below at in subst (λ (z : Seat). AllAsks (λ a. TempUnder z.client.next_temp a.call) q.ups × ((i m : ℕ) (u : ℕ × Temp) → m < 4294967296 → slice_get r.temps i ≡ Some u → u.0 ≡ key_of n m → m < z.client.next_temp)) (sym (there at)) (f.0, λ i m u lt is k. let w = view.temps i m u lt is k in f.1 w.0 m u lt w.1 k);
      closes = λ at j q. subst (λ (z : Seat). CloseOf more x.closing h.contents z.client.next_temp j (client.local_bytes z.client.opened j.file) j.stage) (sym (there at)) (close_later book more made ended x.closing h.contents h.seat.client.next_temp j (client.local_bytes h.seat.client.opened j.file) j.stage g spares (h.closes at j (sym (jobs at) ∙ q)));
      pending = λ i c at. waits_later book more made ended x.closing x.cut (job h.seat) (job d) c.session c.xid c.file c.what g spares jobs (h.pending i c (ap (λ (l : List FileChange). slice_get l i) (sym view.waiting) ∙ at));
      single = subst (λ (l : List FileChange). commits_in q.ups + length l ≤ 1) (sym view.waiting) h.single;
      old = λ k at. let o = h.old k at in let p = g.each k o.0 o.1 in (p.0, p.1, p.2.client ∙ o.2);
      orderly = λ at. subst (λ (z : Seat). Orderly more n r.temps x.hung q z) (sym (there at)) (orderly_later book more made ended n s.temps r.temps x.hung q h.seat g view.found (h.orderly at));
    }

-- one that is no client's: what it has at the server is as it was
pub raw_later : (s r : server.State) (n : ℕ) (x : Session) (q : Queue) → SameView n s r → IsRawSession s n x q → IsRawSession r n x q
raw_later s r n x q view h = record {
  shut = h.shut;
  closing = h.closing;
  ups = h.ups;
  downs = h.downs;
  stands_is = view.stands_is ∙ h.stands_is;
  temps = λ i m u lt at k. let w = view.temps i m u lt at k in h.temps w.0 m u lt w.1 k;
  single = subst (λ (l : List FileChange). length l ≤ 1) (sym view.waiting) h.single;
}

-- ---- clients

-- each session is still there, with its owner; one that its owner has not left has not been cut
abbrev pub Stays : List Session → List Session → (i : ℕ) → Type 0
Stays sessions after i = (n : ℕ) (x : Session) → numbered sessions n ≡ Some x → (y : Session) × (numbered after n ≡ Some y) × (y.owner ≡ x.owner) × (x.owner ≡ i → y.cut ≡ x.cut)

goal_gets : (g : Goal) → changes (goal_word g) ≡ false → gets_file (goal_word g) ≡ false
goal_gets (goal.Find n) e = refl
goal_gets (goal.Rewrite n) e = refl
goal_gets (goal.Look n) e = refl
goal_gets goal.LookRoot e = refl
goal_gets (goal.List p) e = refl
goal_gets (goal.MakeDir n) e = refl
goal_gets (goal.RemoveDir n) e = refl
goal_gets g e = absurd cc

-- an operation whose stage the server doesn't give a file
pub stage_gets : (s : Stage) → is_naming s ≡ false → gets_file (stage_word s) ≡ false
stage_gets (stage.Walking x w) e = goal_gets w.goal e
stage_gets _ e = refl

pub of_later : (book more : Book) (made ended : Option ℕ) (i : ℕ) (j : Job) → Grows book more made ended → ((p : ℕ) (o : Op) → ended ≡ Some p → slice_get book.ops p ≡ Some o → o.client ≡ i → ⊥) → IsOf book i j → IsOf more i j
of_later book more made ended i j g apart h =
    let r = g.each j.place h.op h.there in
    record { op = r.0; there = r.1; client = r.2.client ∙ h.client; word = r.2.word ∙ h.word; file = λ named. r.2.file (λ e. apart j.place h.op e h.there h.client) (ap gets_file h.word ∙ stage_gets j.stage named) ∙ h.file named; running = r.2.running (λ e. apart j.place h.op e h.there h.client) h.running }

pub cached_later : (book more : Book) (made ended : Option ℕ) (cache : Entries) → Grows book more made ended → Cached book cache → Cached more cache
cached_later book more made ended cache g h = λ f c e.
    let o = h f c e in
    let n = g.passes in (
      λ positive.
          let had = o.0 positive in
          let le = had.past in
          record {
            moment = had.moment;
            past = omega (arith, le, n);
            version_is = version_later book more made ended f had.moment g (omega (arith, le)) ∙ had.version_is;
            value_is = or_later book more made ended _ _ g (λ v. value_later book more made ended f had.moment g (omega (arith, le)) ∙ v) had.value_is;
          },
      o.1,
      λ positive. there_later book more made ended f g (o.2 positive),
      o.3,
    )

pub seat_later : (book more : Book) (made ended : Option ℕ) (sessions after : List Session) (i : ℕ) (c : Seat) → Grows book more made ended → Stays sessions after i → ((p : ℕ) (o : Op) → ended ≡ Some p → slice_get book.ops p ≡ Some o → o.client ≡ i → ⊥) → IsSeat book sessions i c → IsSeat more after i c
seat_later book more made ended sessions after i c g stays apart h = record {
  session = λ n e. let x = h.session n e in let y = stays n x.0 x.1 in (y.0, y.1, y.2 ∙ x.2);
  linked = λ e. let l = h.linked e in let x = h.session l.0 l.2 in let y = stays l.0 l.1 l.3 in let same : l.1 ≡ x.0 = some_is l.1 x.0 (sym l.3 ∙ x.1) in (l.0, y.0, l.2, y.1, y.3 (ap (λ (z : Session). z.owner) same ∙ x.2) ∙ l.4);
  unlinked = h.unlinked;
  speaks = h.speaks ∙ sym g.lbfs;
  matched = h.matched;
  task = λ j e. of_later book more made ended i j g apart (h.task j e);
  trying = λ j n x e s. trying_later book more made ended j n g (h.trying j n x e s);
  xids = h.xids;
  next = h.next;
  opened = λ f l e. let o = h.opened f l e in (there_later book more made ended f g o.0, o.1);
  kept = cached_later book more made ended c.client.cache g h.kept;
}

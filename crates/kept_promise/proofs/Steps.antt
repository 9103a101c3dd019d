-- A client takes an answer that its operation waits for: it goes on, or the operation ends. What each of both has to show.
use Rattle.std.proofs.Common.{inl, inr, ◌≡◌, ℕ, suc, ◌+◌, ◌<◌, ◌≤◌, List, [], ◌∷◌, ◌++◌, length, Option, Some, None, Bool, true, false, refl, sym, ap, ◌∙◌, subst, arith, map}
use Rattle.path_calls.specs.declared.walk.Goal.{Goal}
use Rattle.path_calls.specs.declared.walk.Goal.TheVariants as goal
use Rattle.path_calls.specs.declared.walk.Walk.{Walk}
use Rattle.kept_promise.proofs.PathNames.{is_creating}
use Rattle.client_state.specs.State as client
use Rattle.client_state.specs.declared.task.Stage.TheVariants as stage
use Rattle.register_model.specs.declared.op.Outcome.{Outcome}
use Rattle.register_model.specs.declared.op.Outcome.TheVariants as told
use Rattle.register_model.specs.declared.op.Word.TheVariants as words
use Rattle.kept_promise.proofs.Common.{changes, cond, nat_tests, slice_get, slice_set, nat_le, Chunk, Answer, Done, Failed, Attr, Piece, Pending, FileChange, Fetch, Local, Stage, Op, Traffic, TakenCall, Core, Seat, Session, numbered, unless, hashed_of, Book, Entries, Indexed, Call, Call.Lease, Call.Hash, Call.Read, Call.Commit, Reply, Reply.Versioned, Reply.Hashed, Reply.Bytes, Reply.Changed, Ask, Told, Queue, reply_program, Call.Walks, Reply.Walked, Status, is_raw}
use Rattle.kept_promise.proofs.Statements.{IsSpoken, CallFits}
use Rattle.kept_promise.proofs.Lists.{some_is, nothing_there, same_or_not, of_replaced, at_replaced, false_and_true, all_both, all_map}
use Rattle.kept_promise.proofs.Keys.{times, times_append, own, on_way, ask_key, change_key, told_key, pending_key, found_by, there_by, key_xid}
use Rattle.kept_promise.proofs.Messages.{lease_xid, Job, job, stage_word, AllAsks, AllTolds, Rising, hash_offset, read_chunk, CallOf, IsAsked, AnswerOf, IsAnswer, Trying, FetchOf, ReadTold, CommitOf, IsCommit, IsPiece, TempUnder, CloseOf, IsCreating, goal_word, RefusedTold}
use Rattle.kept_promise.proofs.Rights.{Caused, IsRight, IsSound, WasThere}
use Rattle.kept_promise.proofs.History.{Goes, onward, Becomes, goes_becomes, still_becomes}
use Rattle.kept_promise.proofs.Later.{cached_later, answer_later, trying_later, close_later, commit_later, fetch_of_later, Spares}
use Rattle.kept_promise.proofs.Turns.{Around, turned_core}
use Rattle.kept_promise.proofs.Orderly.{Orderly}
use Rattle.kept_promise.proofs.Ordered.{AllFetching, none_free, orderly_later}
use Rattle.kept_promise.proofs.OrderSteps.{EndsAt, orderly_ends, free_on, IsNoClose, open_no_close}
use Rattle.kept_promise.proofs.Facts.{spoken_by, Cached, IsBalanced, IsSession, IsOf, HasXids, IsKept, commits_in, change_number, is_naming}
use Rattle.kept_promise.proofs.Heard.{Moves, rising_to, put_up, kept_heard}
use Rattle.kept_promise.proofs.Growth.{there_later}

-- ---- an operation that goes on

pub job_op : (book : Book) (k : Core) (qs : List Queue) (x : Session) (seat : Seat) (j : Job) → IsKept book k qs → numbered k.seats x.owner ≡ Some seat → job seat ≡ Some j → IsOf book x.owner j
job_op book k qs x seat j kept was is = (kept.seats x.owner seat was).task j is

-- it counts more
abbrev pub counting : Op → Traffic → Op
counting o tr = record o { traffic = tr }

pub becomes_counting : (book : Book) (i : ℕ) (j : Job) (tr : Traffic) → (of : IsOf book i j) → IsSound book → Becomes book None None j.place of.op (counting of.op tr)
becomes_counting book i j tr of sound = record {
  follows = record { client = refl; word = refl; file = λ n w. refl; close_file = λ w. refl; own_file = λ c n. refl; begin = refl; point = λ w p e. (e, refl); value = λ w. refl; unmade = λ n u. u; end = λ e q. inl q; running = λ n e. e };
  change_point = λ w. refl;
  change_file = λ w. refl;
  point = λ p e. inl e;
}

right_counting : (book more : Book) (o : Op) (tr : Traffic) → IsRight book o → o.outcome ≡ told.Running → book.steps ≤ more.steps → IsRight more (counting o tr)
right_counting book more o tr r run le = record {
  cause = subst (λ (u : Outcome). Caused more (counting o tr) u) (sym run) (subst (Caused book o) run r.cause);
  begun = let b = r.begun in omega (arith, b, le);
  pointed = λ p e. let h = r.pointed p e in let b = h.1 in (h.0, omega (arith, b, le), h.2);
  past = λ e q. let h = r.past e q in let b = h.1 in (h.0, omega (arith, b, le));
  ends = r.ends;
  within = r.within;
  failed = r.failed;
}

pub goes_counting : (book : Book) (i : ℕ) (j : Job) (tr : Traffic) → (of : IsOf book i j) → IsSound book → Goes book (onward book 1 (slice_set book.ops j.place (counting of.op tr))) None None
goes_counting book i j tr of sound = goes_becomes book 1 None None j.place of.op (counting of.op tr) of.there (becomes_counting book i j tr of sound) (right_counting book (onward book 1 (slice_set book.ops j.place (counting of.op tr))) of.op tr (sound.rights j.place of.op of.there) of.running (omega arith)) sound

-- ---- facts of messages that are on their way already

-- what a new stage waits for with an old xid it waited for before
pub record Again (next : ℕ) (j : Job) (s : Stage) : Type 0 where
  pub lease : (y : ℕ) → y < next → lease_xid s ≡ Some y → ⊥
  pub hash : (y o : ℕ) → y < next → hash_offset s y ≡ Some o → ⊥
  pub commit : (y : ℕ) → y < next → s ≡ stage.Committing y → ⊥
  pub walk : (y : ℕ) (w : Walk) → y < next → s ≡ stage.Walking y w → ⊥
  pub read : (y : ℕ) (c : Chunk) (f : Fetch) → y < next → s ≡ stage.Reading f → read_chunk s y ≡ Some c → (g : Fetch) × (j.stage ≡ stage.Reading g) × (read_chunk j.stage y ≡ Some c) × (g.first ≡ f.first)

abbrev pub on : Job → Stage → Job
on j s = record { place = j.place; file = j.file; stage = s }

call_anew : (next : ℕ) (j : Job) (s : Stage) (y : ℕ) (c : Call) → Again next j s → y < next → CallOf (Some j) y c → CallOf (Some (on j s)) y c
call_anew next j s y (Lease g) again lt old = λ i e w. absurd (again.lease y lt (ap (λ (z : Job). lease_xid z.stage) (some_is (on j s) i e) ∙ w))
call_anew next j s y (Hash g o) again lt old = λ i p e w. absurd (again.hash y p lt (subst (λ (z : Job). hash_offset z.stage y ≡ Some p) (sym (some_is (on j s) i e)) w))
call_anew next j s y (Read g d) again lt old = λ i p e w.
    let same = some_is (on j s) i e in
    by s refl p (subst (λ (z : Job). read_chunk z.stage y ≡ Some p) (sym same) w) (ap (λ (z : Job). z.file) same)
  where
    by : (r : Stage) → s ≡ r → (p : Chunk) → read_chunk s y ≡ Some p → {i : ℕ} → j.file ≡ i → (i ≡ g) × (p ≡ d)
    by (stage.Reading f) at p w {i} file = let o = again.read y p f lt at w in let z = old j p refl o.2 in (sym file ∙ z.0, z.1)
    by r at p w file = nothing_there p (sym (ap (λ (v : Stage). read_chunk v y) at) ∙ w)
call_anew next j s y (Walks w) again lt old = λ i v e at. absurd (again.walk y v lt (ap (λ (z : Job). z.stage) (some_is (on j s) i e) ∙ at))
call_anew next j s y _ again lt old = tt

refused_on : (book : Book) (taken : List TakenCall) (j : Job) (s : Stage) (x : ℕ) (why : Status) → RefusedTold book taken j x why → RefusedTold book taken (on j s) x why
refused_on book taken j s x why (inl (is, h)) = inl (is, record { at = h.at; noted = h.noted; moment = h.moment; step_is = h.step_is; was = h.was; past = h.past; op = h.op; there = h.there; after = h.after; node = h.node; node_is = h.node_is })
refused_on book taken j s x why (inr (is, (version, h))) = inr (is, (version, record { moment = h.moment; was = h.was; past = h.past; value = h.value; version_is = h.version_is; op = h.op; there = h.there; after = h.after; apart = h.apart }))

read_on : (book : Book) (taken : List TakenCall) (j : Job) (s : Stage) (x first : ℕ) (c : Chunk) (a : Answer Piece (Option Attr)) → ReadTold book taken j x first c a → ReadTold book taken (on j s) x first c a
read_on book taken j s x first c (Failed u a) h = refused_on book taken j s x u h
read_on book taken j s x first c (Done p) h = record { file = h.file; is = h.is; held = h.held; began = h.began; was = h.was; last = h.last; order = h.order; past = h.past; version_is = h.version_is }

answer_anew : (book : Book) (taken : List TakenCall) (closing : Option ℕ) (next : ℕ) (j : Job) (s : Stage) (y : ℕ) (r : Reply) → Again next j s → y < next → AnswerOf book taken closing (Some j) y r → AnswerOf book taken closing (Some (on j s)) y r
answer_anew book taken closing next j s y (Versioned a) again lt old = λ i e w. absurd (again.lease y lt (ap (λ (z : Job). lease_xid z.stage) (some_is (on j s) i e) ∙ w))
answer_anew book taken closing next j s y (Hashed a) again lt old = λ i p e w. absurd (again.hash y p lt (subst (λ (z : Job). hash_offset z.stage y ≡ Some p) (sym (some_is (on j s) i e)) w))
answer_anew book taken closing next j s y (Changed a) again lt old = λ i e w. absurd (again.commit y lt (ap (λ (z : Job). z.stage) (some_is (on j s) i e) ∙ w))
answer_anew book taken closing next j s y (Bytes a) again lt old = λ i f c e at w.
    let same = some_is (on j s) i e in
    let o = again.read y c f lt (ap (λ (z : Job). z.stage) same ∙ at) (subst (λ (z : Job). read_chunk z.stage y ≡ Some c) (sym same) w) in
    let z = old j o.0 c refl o.1 o.2 in
    subst (λ (v : Job). ReadTold book taken v y f.first c a) same (read_on book taken j s y f.first c a (subst (λ (n : ℕ). ReadTold book taken j y n c a) o.3 z))
answer_anew book taken closing next j s y (Walked r) again lt old = λ i w e at. absurd (again.walk y w lt (ap (λ (z : Job). z.stage) (some_is (on j s) i e) ∙ at))
answer_anew book taken closing next j s y _ again lt old = tt

-- ---- xids that are on their way are below the next

pub asks_below : (n : ℕ) (us : List Ask) (top : ℕ) → Rising n us top → AllAsks (λ a. a.xid < top) us
asks_below n [] top r = tt
asks_below n (a ∷ us) top r = let le = rising_to (a.xid + 1) us top r.1 in (omega (arith, le), asks_below (a.xid + 1) us top r.1)

pub tolds_below : (n : ℕ) (w : List FileChange) (q : Queue) (hung : Bool) (next : ℕ) (calls : List Pending) → IsBalanced n w q hung next calls → AllTolds (λ t. t.xid < next) q.downs
tolds_below n w q hung next calls h = by q.downs (λ i t at. below t (reach t i at))
  where
    reach : (t : Told) (i : ℕ) → slice_get q.downs i ≡ Some t → 0 < times (told_key t) (on_way n w q)
    reach t i at =
        let a = there_by told_key q.downs i t at in
        let b = times_append (told_key t) (map ask_key q.ups) (map change_key (own n w) ++ map told_key q.downs) in
        let c = times_append (told_key t) (map change_key (own n w)) (map told_key q.downs) in
        omega (arith, a, b, c)

    under : (y z : ℕ) → z ≡ y → 0 < times z (map (λ (p : Pending). p.xid) calls) → (b : Bool) → nat_le next y ≡ b → y < next
    under y z same there true le = let zero_ = h.below y (grind (arith, nat_tests, le)) in let moved = subst (λ (v : ℕ). 0 < times v (map (λ (p : Pending). p.xid) calls)) same there in absurd (omega (arith, zero_, moved))
    under y z same there false le = grind (arith, nat_tests, le)

    below : (t : Told) → 0 < times (told_key t) (on_way n w q) → t.xid < next
    below t lt =
        let m = h.most (told_key t) in
        let f = found_by pending_key calls (told_key t) (omega (arith, lt, m)) in
        let same = key_xid f.1.xid t.xid f.1.program (reply_program t.reply) f.3 in
        let there = there_by (λ (p : Pending). p.xid) calls f.0 f.1 f.2 in
        under t.xid f.1.xid same there (nat_le next t.xid) refl

    by : (ts : List Told) → ((i : ℕ) (t : Told) → slice_get ts i ≡ Some t → t.xid < next) → AllTolds (λ t. t.xid < next) ts
    by [] f = tt
    by (t ∷ ts) f = (f 0 t refl, by ts (λ i u at. f (suc i) u at))

-- ---- it goes on

-- where no commit is on its way up, nothing is to be shown of any
pub no_commits : (book : Book) (closing : Option ℕ) (cut : Bool) (job : Option Job) (contents : ℕ → List ℕ) (us : List Ask) → commits_in us ≡ 0 → AllAsks (IsCommit book closing cut job contents) us
no_commits book closing cut job contents [] e = tt
no_commits book closing cut job contents (a ∷ us) e = by a.call e (no_commits book closing cut job contents us)
  where
    creates : (w : Walk) (b : Bool) → is_creating w ≡ b → cond b 1 0 + commits_in us ≡ 0 → is_creating w ≡ true → IsCreating book closing cut job a.xid w
    creates w true is e f = absurd (omega (arith, e))
    creates w false is e f = absurd (false_and_true (is_creating w) is f)

    none : (w : Walk) (b : Bool) → is_creating w ≡ b → cond b 1 0 + commits_in us ≡ 0 → commits_in us ≡ 0
    none w true is e = absurd (omega (arith, e))
    none w false is e = omega (arith, e)

    by : (c : Call) → change_number c + commits_in us ≡ 0 → (commits_in us ≡ 0 → AllAsks (IsCommit book closing cut job contents) us) → CommitOf book closing cut job contents a.xid c × AllAsks (IsCommit book closing cut job contents) us
    by (Commit temp file size) e later = absurd (omega (arith, e))
    by (Walks w) e later = (creates w (is_creating w) refl e, later (none w (is_creating w) refl e))
    by _ e later = (tt, later (omega (arith, e)))

-- the session, its client and its job
pub record Here (book : Book) (k : Core) (qs : List Queue) (n : ℕ) (x : Session) (q : Queue) (t : Told) (ts : List Told) (j : Job) : Type 0 where
  pub kept : IsKept book k qs
  pub at : numbered k.sessions n ≡ Some x
  pub is : numbered qs n ≡ Some q
  pub owned : is_raw x ≡ false
  pub first : q.downs ≡ t ∷ ts
  pub uncut : x.cut ≡ false
  pub job_is : job (kept.sessions n x q at is owned).seat ≡ Some j

abbrev pub session_at : (book : Book) (k : Core) (qs : List Queue) (n : ℕ) (x : Session) (q : Queue) (t : Told) (ts : List Told) (j : Job) → Here book k qs n x q t ts j → IsSession book k.seats k.server n x q
session_at book k qs n x q t ts j g = g.kept.sessions n x q g.at g.is g.owned

-- its owner speaks the version that all clients do, which is one that is served
pub speaks_at : (book : Book) (k : Core) (qs : List Queue) (n : ℕ) (x : Session) (q : Queue) (t : Told) (ts : List Told) (j : Job) (g : Here book k qs n x q t ts j) → (session_at book k qs n x q t ts j g).seat.client.lbfs ≡ book.lbfs
speaks_at book k qs n x q t ts j g = let h = session_at book k qs n x q t ts j g in (g.kept.seats x.owner h.seat h.owner).speaks

pub spoken_at : (book : Book) (k : Core) (qs : List Queue) (n : ℕ) (x : Session) (q : Queue) (t : Told) (ts : List Told) (j : Job) (g : Here book k qs n x q t ts j) → IsSpoken (session_at book k qs n x q t ts j g).seat.client.lbfs
spoken_at book k qs n x q t ts j g = let h = session_at book k qs n x q t ts j g in spoken_by book k qs x.owner h.seat g.kept h.owner

-- nothing of a change is on its way
pub record Quiet (k : Core) (n : ℕ) (q : Queue) : Type 0 where
  pub ups : commits_in q.ups ≡ 0
  pub waiting : own n k.server.waiting ≡ []

abbrev pub gone_on : client.State → (file next sent : ℕ) → Stage → List Pending → Entries → Indexed → client.State
gone_on c file next sent s forgotten cache index = record c { next_xid = next; task = Some (record { file = file; stage = s }); forgotten = forgotten; cache = cache; index = index; sent = sent }

pub goal_not_close : (g : Goal) → goal_word g ≡ words.Close → ⊥
goal_not_close (goal.Find n) e = absurd cc
goal_not_close _ e = absurd cc

-- what goes on is given a file by the server where it was before
pub naming_same : (s t : Stage) → stage_word s ≡ stage_word t → is_naming s ≡ false → is_naming t ≡ false
naming_same s (stage.Walking x w) same none = by s same none
  where
    by : (s : Stage) → stage_word s ≡ goal_word w.goal → is_naming s ≡ false → changes (goal_word w.goal) ≡ false
    by (stage.Walking y v) same none = ap changes (sym same) ∙ none
    by (stage.Making y temp) same none = absurd (goal_not_close w.goal (sym same))
    by (stage.Storing st) same none = absurd (goal_not_close w.goal (sym same))
    by (stage.Committing y) same none = absurd (goal_not_close w.goal (sym same))
    by (stage.Asking y) same none = ap changes (sym same)
    by (stage.Rewriting y) same none = ap changes (sym same)
    by (stage.Hashing tries y) same none = ap changes (sym same)
    by (stage.Listing y f) same none = ap changes (sym same)
    by (stage.Reading f) same none = ap changes (sym same)
naming_same s _ same none = refl

-- none of an open, a rewrite or a close of a file is
pub open_unnamed : (s : Stage) → stage_word s ≡ words.Open → is_naming s ≡ false
open_unnamed s e = naming_same (stage.Asking 0) s (sym e) refl

pub renew_unnamed : (s : Stage) → stage_word s ≡ words.Rewrite → is_naming s ≡ false
renew_unnamed s e = naming_same (stage.Rewriting 0) s (sym e) refl

pub close_unnamed : (s : Stage) → stage_word s ≡ words.Close → is_naming s ≡ false
close_unnamed s e = naming_same (stage.Committing 0) s (sym e) refl

-- what else is on its way of closes is in order then
abbrev pub GoesInOrder : (book : Book) (k : Core) (qs : List Queue) (n : ℕ) (x : Session) (q : Queue) (t : Told) (ts : List Told) (j : Job) (g : Here book k qs n x q t ts j) (s : Stage) (next : ℕ) (forgotten : List Pending) (asks : List Ask) → Type 0
GoesInOrder book k qs n x q t ts j g s next forgotten asks = (cache : Entries) (index : Indexed) (sent : ℕ) → Orderly book n k.server.temps x.hung (record { ups = unless x.hung q.ups asks; downs = ts }) (record (session_at book k qs n x q t ts j g).seat { client = gone_on (session_at book k qs n x q t ts j g).seat.client j.file next sent s forgotten cache index; place = Some j.place })

-- what goes on that is no close has nothing of a close on its way
pub others_in_order : (book : Book) (k : Core) (qs : List Queue) (n : ℕ) (x : Session) (q : Queue) (t : Told) (ts : List Told) (j : Job) (g : Here book k qs n x q t ts j) (s : Stage) (next : ℕ) (forgotten : List Pending) (asks : List Ask) → IsNoClose j.stage → IsNoClose s → AllFetching asks → GoesInOrder book k qs n x q t ts j g s next forgotten asks
others_in_order book k qs n x q t ts j g s next forgotten asks was is fetch cache index sent =
    let h = session_at book k qs n x q t ts j g in
    let d : Seat = record h.seat { client = gone_on h.seat.client j.file next sent s forgotten cache index; place = Some j.place } in
    orderly_ends book book n k.server.temps k.server.waiting q x.hung h.seat.client.next_xid (client.calls_of h.seat.client) t ts h.seat d j asks (h.talk g.uncut).balanced g.first g.job_is (inl was) (h.orderly g.uncut) (free_on d (on j s) refl is) fetch

pub opens_in_order : (book : Book) (k : Core) (qs : List Queue) (n : ℕ) (x : Session) (q : Queue) (t : Told) (ts : List Told) (j : Job) (g : Here book k qs n x q t ts j) (s : Stage) (next : ℕ) (forgotten : List Pending) (asks : List Ask) → stage_word j.stage ≡ words.Open → stage_word s ≡ words.Open → AllFetching asks → GoesInOrder book k qs n x q t ts j g s next forgotten asks
opens_in_order book k qs n x q t ts j g s next forgotten asks was is fetch = others_in_order book k qs n x q t ts j g s next forgotten asks (open_no_close j.stage was) (open_no_close s is) fetch

-- what a job that goes on to this stage has to show, once it sent these calls
pub record GoesOn (book : Book) (k : Core) (qs : List Queue) (n : ℕ) (x : Session) (q : Queue) (t : Told) (ts : List Told) (j : Job) (g : Here book k qs n x q t ts j) (s : Stage) (next : ℕ) (forgotten : List Pending) (asks : List Ask) : Type 0 where
  pub quiet : Quiet k n q
  pub word : stage_word s ≡ stage_word j.stage
  pub again : Again (session_at book k qs n x q t ts j g).seat.client.next_xid j s
  pub moves : Moves (client.calls_of (session_at book k qs n x q t ts j g).seat.client) (client.pending_in s ++ forgotten) t asks
  pub rising : Rising (session_at book k qs n x q t ts j g).seat.client.next_xid asks next
  pub asked : AllAsks (IsAsked (Some (on j s))) asks
  pub fits : AllAsks (λ a. CallFits a.lbfs a.xid a.call) asks
  pub speak : AllAsks (λ a. a.lbfs ≡ book.lbfs) asks
  pub commits : AllAsks (IsCommit book x.closing x.cut (Some (on j s)) (session_at book k qs n x q t ts j g).contents) asks
  pub pieces : AllAsks (IsPiece (hashed_of book.moments) (session_at book k qs n x q t ts j g).contents) asks
  pub under : AllAsks (λ a. TempUnder (session_at book k qs n x q t ts j g).seat.client.next_temp a.call) asks
  pub few : commits_in asks ≤ 1
  pub fetch : FetchOf book x.taken (on j s) s
  pub busy : 0 < length (client.pending_in s)
  pub closes : CloseOf book x.closing (session_at book k qs n x q t ts j g).contents (session_at book k qs n x q t ts j g).seat.client.next_temp (on j s) (client.local_bytes (session_at book k qs n x q t ts j g).seat.client.opened j.file) s
  pub trying : (m y : ℕ) → s ≡ stage.Hashing m y → Trying book (on j s) m
  pub xids : HasXids next s
  pub bounded : next ≤ 4294967296
  pub orderly : GoesInOrder book k qs n x q t ts j g s next forgotten asks

pub kept_goes : (book : Book) (k : Core) (qs : List Queue) (n : ℕ) (x : Session) (q : Queue) (t : Told) (ts : List Told) (j : Job) (g : Here book k qs n x q t ts j) (s : Stage) (next : ℕ) (forgotten : List Pending) (asks : List Ask) (cache : Entries) (index : Indexed) (sent : ℕ) (tr : Traffic) (seats : List Seat) (after : List Queue) → GoesOn book k qs n x q t ts j g s next forgotten asks → Cached book cache
    → (let h = session_at book k qs n x q t ts j g in
    let c = gone_on h.seat.client j.file next sent s forgotten cache index in
    let of = job_op book k qs x h.seat j g.kept h.owner g.job_is in
    let ops = slice_set book.ops j.place (counting of.op tr) in
    Around k.seats seats x.owner (record h.seat { client = c; place = Some j.place }) → Around qs after n (put_up q x.hung asks ts) → IsKept (onward book 1 ops) (turned_core k (onward book 1 ops) k.server seats k.sessions) after)
kept_goes book k qs n x q t ts j g s next forgotten asks cache index sent tr seats after w cached around queues =
    let h = session_at book k qs n x q t ts j g in
    let c = gone_on h.seat.client j.file next sent s forgotten cache index in
    let of = job_op book k qs x h.seat j g.kept h.owner g.job_is in
    let ops = slice_set book.ops j.place (counting of.op tr) in
    let more = onward book 1 ops in
    let goes = goes_counting book x.owner j tr of g.kept.sound in
    let talk = h.talk g.uncut in
    let seat_was = g.kept.seats x.owner h.seat h.owner in
    let spares : Spares x.closing None = λ p u v. nothing_there p v in
    let old_asks = subst (λ (o : Option Job). AllAsks (IsAsked o) q.ups) g.job_is talk.asked in
    let old_tolds = subst (λ (o : Option Job). AllTolds (IsAnswer book x.taken x.closing o) q.downs) g.job_is talk.answers in
    let bound = tolds_below n k.server.waiting q x.hung h.seat.client.next_xid (client.calls_of h.seat.client) talk.balanced in
    let moved : IsOf more x.owner (on j s) = record { op = counting of.op tr; there = at_replaced book.ops j.place (counting of.op tr) of.op of.there; client = of.client; word = of.word ∙ sym w.word; file = λ n. of.file (naming_same s j.stage w.word n); running = of.running } in
    kept_heard book ops k qs n x q t ts c (Some j.place) asks None None seats after g.kept g.at g.is g.owned g.first g.uncut around queues (record {
      goes = goes;
      still = still_becomes book 1 None None j.place of.op (counting of.op tr) of.there (becomes_counting book x.owner j tr of g.kept.sound) g.kept.sound;
      made_here = λ p f. nothing_there p f;
      ended_here = λ p o f. nothing_there p f;
      old_asks = all_both (λ (a : Ask). a.xid < h.seat.client.next_xid) (IsAsked (Some j)) (IsAsked (Some (on j s))) (λ a lt old. call_anew h.seat.client.next_xid j s a.xid a.call w.again lt old) q.ups (asks_below talk.floor q.ups h.seat.client.next_xid talk.rising) old_asks;
      old_tolds = (subst (AllTolds (IsAnswer more x.taken x.closing (Some (on j s)))) g.first (all_both (λ (u : Told). u.xid < h.seat.client.next_xid) (IsAnswer book x.taken x.closing (Some j)) (IsAnswer more x.taken x.closing (Some (on j s))) (λ u lt old. answer_anew more x.taken x.closing h.seat.client.next_xid j s u.xid u.reply w.again lt (answer_later book more None None x.taken x.closing (Some j) u goes.grows spares old)) q.downs bound old_tolds)).1;
      old_commits = no_commits more x.closing x.cut (Some (on j s)) h.contents q.ups w.quiet.ups;
      old_pending = λ i d f. nothing_there d (ap (λ (l : List FileChange). slice_get l i) (sym w.quiet.waiting) ∙ f);
      moves = w.moves;
      rising = w.rising;
      asked = w.asked;
      fits = w.fits;
      speak = w.speak;
      commits = all_map (IsCommit book x.closing x.cut (Some (on j s)) h.contents) (IsCommit more x.closing x.cut (Some (on j s)) h.contents) (λ a m. commit_later book more None None x.closing x.cut (Some (on j s)) (Some (on j s)) h.contents a goes.grows spares (λ u. refl) m) asks w.commits;
      pieces = w.pieces;
      under = w.under;
      few = let a = w.quiet.ups in let b = ap (λ (l : List FileChange). length l) w.quiet.waiting in let f = w.few in omega (arith, a, b, f);
      linked = (h.here g.uncut).1;
      numbers = refl;
      fetch = λ i f. subst (λ (z : Job). FetchOf more x.taken z z.stage) (some_is (on j s) i f) (fetch_of_later book more None None x.taken (on j s) s goes.grows w.fetch);
      busy = λ i f. subst (λ (z : Job). 0 < length (client.pending_in z.stage)) (some_is (on j s) i f) w.busy;
      closes = λ i f. subst (λ (z : Job). CloseOf more x.closing h.contents h.seat.client.next_temp z (client.local_bytes h.seat.client.opened z.file) z.stage) (some_is (on j s) i f) (close_later book more None None x.closing h.contents h.seat.client.next_temp (on j s) (client.local_bytes h.seat.client.opened j.file) s goes.grows spares w.closes);
      seat = record {
        session = seat_was.session;
        linked = seat_was.linked;
        unlinked = λ f. absurd (false_and_true h.seat.client.linked f (h.here g.uncut).1);
        speaks = seat_was.speaks;
        matched = inr (on j s, refl);
        task = λ i f. subst (IsOf more x.owner) (some_is (on j s) i f) moved;
        trying = λ i m y f e. let same = some_is (on j s) i f in subst (λ (z : Job). Trying more z m) same (trying_later book more None None (on j s) m goes.grows (w.trying m y (ap (λ (z : Job). z.stage) same ∙ e)));
        xids = λ i f. subst (λ (z : Job). HasXids next z.stage) (some_is (on j s) i f) w.xids;
        next = (w.bounded, let a = seat_was.next.1 in let b = rising_to h.seat.client.next_xid asks next w.rising in omega (arith, a, b));
        opened = λ f l e. let o = seat_was.opened f l e in (there_later book more None None f goes.grows o.0, o.1);
        kept = cached_later book more None None cache goes.grows cached;
      };
      orderly = orderly_later book more None None n k.server.temps k.server.temps x.hung (record { ups = unless x.hung q.ups asks; downs = ts }) (record h.seat { client = c; place = Some j.place }) goes.grows (λ m lt. refl) (w.orderly cache index sent);
      running = λ others round p o at run. elim (of_replaced book.ops j.place (counting of.op tr) p o at) [
        | inl here ↦ (record h.seat { client = c; place = Some j.place }, on j s, ap (λ (z : Op). numbered others z.client) here.1 ∙ ap (numbered others) of.client ∙ round.there, refl, sym here.0)
        | inr there ↦
            let r = g.kept.running p o there.1 run in
            elim (same_or_not o.client x.owner) [
              | inr apart ↦ (r.0, r.1, round.others o.client apart ∙ r.2, r.3, r.4)
              | inl mine ↦
                  let same : r.0 ≡ h.seat = some_is r.0 h.seat (sym r.2 ∙ ap (numbered k.seats) mine ∙ h.owner) in
                  let job_same : r.1 ≡ j = some_is r.1 j (sym r.3 ∙ ap job same ∙ g.job_is) in
                  absurd (there.0 (sym r.4 ∙ ap (λ (z : Job). z.place) job_same))
            ]
      ];
    })

-- ---- it ends

asked_none : (us : List Ask) → AllAsks (IsAsked None) us
asked_none [] = tt
asked_none (a ∷ us) = (by a.call, asked_none us)
  where
    by : (c : Call) → CallOf None a.xid c
    by (Lease g) = λ j e. nothing_there j e
    by (Hash g o) = λ j p e. nothing_there j e
    by (Read g d) = λ j p e. nothing_there j e
    by (Walks w) = λ j v e. nothing_there j e
    by _ = tt

pub answers_none : (book : Book) (taken : List TakenCall) (closing : Option ℕ) (ts : List Told) → AllTolds (IsAnswer book taken closing None) ts
answers_none book taken closing [] = tt
answers_none book taken closing (t ∷ ts) = (by t.reply, answers_none book taken closing ts)
  where
    by : (r : Reply) → AnswerOf book taken closing None t.xid r
    by (Versioned a) = λ j e. nothing_there j e
    by (Hashed a) = λ j o e. nothing_there j e
    by (Bytes a) = λ j f c e. nothing_there j e
    by (Changed a) = λ j e. nothing_there j e
    by (Walked r) = λ j w e. nothing_there j e
    by _ = tt

abbrev pub stopped : client.State → (opened : List (ℕ × Local)) → List Pending → Entries → Indexed → client.State
stopped c opened forgotten cache index = record c { task = None; opened = opened; forgotten = forgotten; cache = cache; index = index }

-- what a job that ends has to show, whose operation becomes this
pub record Stops (book : Book) (k : Core) (qs : List Queue) (n : ℕ) (x : Session) (q : Queue) (t : Told) (ts : List Told) (j : Job) (g : Here book k qs n x q t ts j) (r : Op) (made : Option ℕ) (opened : List (ℕ × Local)) (forgotten : List Pending) : Type 0 where
  pub quiet : Quiet k n q
  pub moves : Moves (client.calls_of (session_at book k qs n x q t ts j g).seat.client) forgotten t []
  pub becomes : Becomes book made (Some j.place) j.place (job_op book k qs x (session_at book k qs n x q t ts j g).seat j g.kept (session_at book k qs n x q t ts j g).owner g.job_is).op r
  pub right : IsRight (onward book 1 (slice_set book.ops j.place r)) r
  pub stops : r.outcome ≡ told.Running → ⊥
  pub over : EndsAt j t
  pub made_here : (p : ℕ) → made ≡ Some p → x.closing ≡ Some p
  pub opened_ok : (f : ℕ) (l : Local) → client.local_at opened f ≡ Some l → WasThere book f × (length l.bytes ≤ 67108864)

pub kept_stops : (book : Book) (k : Core) (qs : List Queue) (n : ℕ) (x : Session) (q : Queue) (t : Told) (ts : List Told) (j : Job) (g : Here book k qs n x q t ts j) (r : Op) (made : Option ℕ) (opened : List (ℕ × Local)) (forgotten : List Pending) (cache : Entries) (index : Indexed) (seats : List Seat) (after : List Queue) → Stops book k qs n x q t ts j g r made opened forgotten → Cached (onward book 1 (slice_set book.ops j.place r)) cache
    → (let h = session_at book k qs n x q t ts j g in
    let ops = slice_set book.ops j.place r in
    Around k.seats seats x.owner (record h.seat { client = stopped h.seat.client opened forgotten cache index; place = None }) → Around qs after n (put_up q x.hung [] ts) → IsKept (onward book 1 ops) (turned_core k (onward book 1 ops) k.server seats k.sessions) after)
kept_stops book k qs n x q t ts j g r made opened forgotten cache index seats after w cached around queues =
    let h = session_at book k qs n x q t ts j g in
    let c = stopped h.seat.client opened forgotten cache index in
    let of = job_op book k qs x h.seat j g.kept h.owner g.job_is in
    let ops = slice_set book.ops j.place r in
    let more = onward book 1 ops in
    let goes = goes_becomes book 1 made (Some j.place) j.place of.op r of.there w.becomes w.right g.kept.sound in
    let seat_was = g.kept.seats x.owner h.seat h.owner in
    kept_heard book ops k qs n x q t ts c None [] made (Some j.place) seats after g.kept g.at g.is g.owned g.first g.uncut around queues (record {
      goes = goes;
      still = still_becomes book 1 made (Some j.place) j.place of.op r of.there w.becomes g.kept.sound;
      made_here = w.made_here;
      ended_here = λ p o e there. ap (λ (z : Op). z.client) (some_is o of.op (sym there ∙ ap (slice_get book.ops) (sym (some_is j.place p e)) ∙ of.there)) ∙ of.client;
      old_asks = asked_none q.ups;
      old_tolds = answers_none more x.taken x.closing ts;
      old_commits = no_commits more x.closing x.cut None h.contents q.ups w.quiet.ups;
      old_pending = λ i d f. nothing_there d (ap (λ (l : List FileChange). slice_get l i) (sym w.quiet.waiting) ∙ f);
      moves = w.moves;
      rising = omega arith;
      asked = tt;
      fits = tt;
      speak = tt;
      commits = tt;
      pieces = tt;
      under = tt;
      few = let a = w.quiet.ups in let b = ap (λ (l : List FileChange). length l) w.quiet.waiting in omega (arith, a, b);
      linked = (h.here g.uncut).1;
      numbers = refl;
      fetch = λ i f. nothing_there i f;
      busy = λ i f. nothing_there i f;
      closes = λ i f. nothing_there i f;
      seat = record {
        session = seat_was.session;
        linked = seat_was.linked;
        unlinked = λ f. absurd (false_and_true h.seat.client.linked f (h.here g.uncut).1);
        speaks = seat_was.speaks;
        matched = inl (refl, refl);
        task = λ i f. nothing_there i f;
        trying = λ i m y f. nothing_there i f;
        xids = λ i f. nothing_there i f;
        next = seat_was.next;
        opened = λ f l e. let o = w.opened_ok f l e in (there_later book more made (Some j.place) f goes.grows o.0, o.1);
        kept = cached;
      };
      orderly = orderly_ends book more n k.server.temps k.server.waiting q x.hung h.seat.client.next_xid (client.calls_of h.seat.client) t ts h.seat (record h.seat { client = c; place = None }) j [] (h.talk g.uncut).balanced g.first g.job_is w.over (h.orderly g.uncut) (none_free None refl) tt;
      running = λ others round p o at run. elim (of_replaced book.ops j.place r p o at) [
        | inl here ↦ absurd (w.stops (ap (λ (z : Op). z.outcome) (sym here.1) ∙ run))
        | inr there ↦
            let u = g.kept.running p o there.1 run in
            elim (same_or_not o.client x.owner) [
              | inr apart ↦ (u.0, u.1, round.others o.client apart ∙ u.2, u.3, u.4)
              | inl mine ↦
                  let same : u.0 ≡ h.seat = some_is u.0 h.seat (sym u.2 ∙ ap (numbered k.seats) mine ∙ h.owner) in
                  let job_same : u.1 ≡ j = some_is u.1 j (sym u.3 ∙ ap job same ∙ g.job_is) in
                  absurd (there.0 (sym u.4 ∙ ap (λ (z : Job). z.place) job_same))
            ]
      ];
    })

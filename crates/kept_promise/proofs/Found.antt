-- A step finds no file by a path, where its command has none and no walk is under way: its operation has the file that it began with.
use Rattle.std.proofs.Common.{[], ◌≡◌, ℕ, List, Option, Some, None, Bool, true, false, Result, length, refl, sym, ap, ◌∙◌, subst, inl, inr, ◌⊎◌}
use Rattle.command_text.specs.declared.command.Command.TheVariants as command
use Rattle.xdr_codec.specs.declared.status.Status.TheVariants as status
use Rattle.hash_calls.specs.declared.message.Lb.TheVariants as lb
use Rattle.nfs3_calls.specs.declared.message.Nfs.TheVariants as nfs
use Rattle.wire.specs.declared.message.Body.TheVariants as body
use Rattle.client_cache.specs.Cache.{content_of, reserved}
use Rattle.client_state.specs.declared.step.Outcome.TheVariants as outcome
use Rattle.client_state.specs.declared.task.Stage.TheVariants as stage
use Rattle.client_state.specs.declared.task.Way.TheVariants as way
use Rattle.file_open.specs.Caching.{content_in, found_all, fresh_content}
use Rattle.client_state.specs.Noting.{at as clocked}
use Rattle.file_open.specs.Fetching.{changes as gives_up, opens_kept}
use Rattle.file_open.specs.Rewriting.{asks_anew, rewrites_if, rewrites, renews_kept, told_anew}
use Rattle.kept_promise.proofs.Common.{Word, changes, Op, TakenCall, op_after, op_ended, counted, Book, Core, Queue, ends, too_big, done_with, Part, content_length, content_bytes, nat_lt, ◌==◌, if◌then◌else◌, slice_get, Answer, Done, Failed, Hashes, Leased, Piece, Body, Message, Pending, WireFault, Content, Chunk, Command, Broken, broken_of, with_hashes, listed, reads_all, is_here, looked_up, read_at, with_bytes, fault_in, other_version, fetch_of, tries_most, State, local_at, local_bytes, calls_of, idle, may_ask, is_open, ended_by, cut, on_local, local_most, written_size, written, truncated, edits, writes, truncates, reads, abandons, opens, opens_if, asks_file, asks_kept, retries, reads_if, reads_on, lists_on, told_shape, told_version, told_hashes, told_first, uses_kept, told_lease, misfits, told_bytes, told_chunk, told_piece, store_of, store_at, answered, names_all, is_stored, goes_if, goes_on, told_temp, sends_whole, told_named, told_whole, told_way, told_stored, closes, asks_temp, command_step, took, got_step, BadPeer, ClientStep, Ended, Fetch, Local, ReadCall, Stage, Upload, UploadCall, Task, Way}
use Rattle.trace_ends.specs.Ops.{file_with}
use Rattle.kept_promise.proofs.Lists.{some_is, nothing_there}
use Rattle.kept_promise.proofs.Messages.{Job, job, goal_word, stage_word, FetchOf}
use Rattle.kept_promise.proofs.Facts.{IsKept}
use Rattle.kept_promise.proofs.PathNames.{IsSmall}
use Rattle.kept_promise.proofs.Actors.{job_task, Heard}
use Rattle.path_calls.specs.Walk.{begun as walk_begun}
use Rattle.path_calls.specs.declared.walk.Goal.{Goal}
use Rattle.path_calls.specs.declared.walk.Goal.TheVariants as goal
use Rattle.open_close.specs.Walking.{walks, walks_if, outcome_of, is_look, seen_in}
use Rattle.client_state.specs.Ending.{may_walk}
use Rattle.kept_promise.proofs.StepCases.{IsOfFile, IsOpenedBy, walk_cases, got_cases}
use Rattle.path_calls.specs.declared.answers.Ended.{Ended as WalkEnd}
use Rattle.path_calls.specs.declared.answers.Ended.TheVariants as walk_end
use Rattle.kept_promise.proofs.FindsOpen.{finds_open, finds_rewrite}
use Rattle.path_calls.specs.declared.walk.Walk.{Walk}
use Rattle.nfs3_calls.specs.declared.message.Nfs.{Nfs}
use Rattle.register_model.specs.declared.op.Word.TheVariants as words
use Rattle.path_calls.specs.Told.{walk_told}
use Rattle.path_calls.specs.declared.answers.Told.TheVariants as walk_told_as
use Rattle.kept_promise.proofs.Rights.{gets_file}
use Rattle.kept_promise.proofs.Turns.{has_owner}

abbrev FindsNone : State × ClientStep → Type 0
FindsNone r = r.1.found ≡ None

-- ---- an operation

pub op_found : (o : Op) (c : State) (taken : List TakenCall) (step : ℕ) (acts : ClientStep) → acts.found ≡ None → op_after o c taken step acts ≡ op_ended (record o { traffic = counted o.traffic acts.counts }) c taken step acts.ended
op_found o c taken step acts none = ap (λ (z : Option ℕ). op_ended (record o { file = file_with o.file z; traffic = counted o.traffic acts.counts }) c taken step acts.ended) none

pub file_after : (o : Op) (c : State) (taken : List TakenCall) (step : ℕ) (acts : ClientStep) → acts.found ≡ None → (op_after o c taken step acts).file ≡ o.file
file_after o c taken step acts none = ap (λ (z : Op). z.file) (op_found o c taken step acts none) ∙ by acts.ended
  where
    by : (e : Option Ended) → (op_ended (record o { traffic = counted o.traffic acts.counts }) c taken step e).file ≡ o.file
    by None = refl
    by (Some e) = refl

-- ---- a command

asks_none : (s : State) (file : ℕ) (b : Bool) → FindsNone (asks_file s file b)
asks_none s file true = by (content_of s.cache file)
  where
    by : (o : Option Content) → FindsNone (asks_kept (record s { cache = reserved s.cache file }) file o)
    by None = refl
    by (Some c) = refl
asks_none s file false = refl

opens_none : (s : State) (file : ℕ) (t : Option Task) → FindsNone (opens s file t)
opens_none s file (Some t) = refl
opens_none s file None = by (is_open s.opened file)
  where
    fresh : (o : Option Content) → FindsNone (opens_kept s file o)
    fresh None = asks_none s file (may_ask s)
    fresh (Some c) = refl

    by : (b : Bool) → FindsNone (opens_if s file b)
    by true = refl
    by false = fresh (fresh_content s.cache file s.clock)

renews_none : (s : State) (file : ℕ) (b : Bool) → FindsNone (asks_anew s file b)
renews_none s file true = refl
renews_none s file false = refl

rewrites_none : (s : State) (file : ℕ) (t : Option Task) → FindsNone (rewrites s file t)
rewrites_none s file (Some t) = refl
rewrites_none s file None = by (is_open s.opened file)
  where
    fresh : (o : Option Content) → FindsNone (renews_kept s file o)
    fresh None = renews_none s file (may_ask s)
    fresh (Some c) = refl

    by : (b : Bool) → FindsNone (rewrites_if s file b)
    by true = refl
    by false = fresh (fresh_content s.cache file s.clock)

local_none : (s : State) (t : Option Task) (l : Option Local) (does : Local → State × ClientStep) → ((l : Local) → FindsNone (does l)) → FindsNone (on_local s t l does)
local_none s (Some t) l does h = refl
local_none s None None does h = refl
local_none s None (Some l) does h = h l

edits_none : (s : State) (file : ℕ) (l : Local) (size : ℕ) (x : List ℕ) → FindsNone (edits s file l size x)
edits_none s file l size x = by (nat_lt local_most size)
  where
    by : (b : Bool) → FindsNone (if b then too_big s size else done_with s file l x)
    by true = refl
    by false = refl

writes_none : (s : State) (file offset : ℕ) (content : List Part) (l : Local) → FindsNone (writes s file offset content l)
writes_none s file offset content l = by (content_length content == 0)
  where
    by : (b : Bool) → FindsNone (if b then (s, ends outcome.Done 0 0) else edits s file l (written_size (length l.bytes) offset (content_length content)) (written l.bytes offset (content_bytes content)))
    by true = refl
    by false = edits_none s file l (written_size (length l.bytes) offset (content_length content)) (written l.bytes offset (content_bytes content))

closes_none : (s : State) (file : ℕ) (l : Local) → FindsNone (closes s file l)
closes_none s file l = by (may_ask s)
  where
    by : (b : Bool) → FindsNone (asks_temp s file b)
    by true = refl
    by false = refl

pub command_finds : (s : State) (d : Command) (now : ℕ) → IsSmall d → (command_step s d now).1.found ≡ None
command_finds s (command.Open file) now small = opens_none (clocked s now) file s.task
command_finds s (command.Rewrite file) now small = rewrites_none (clocked s now) file s.task
command_finds s (command.Write file offset content) now small = local_none (clocked s now) s.task (local_at s.opened file) (writes (clocked s now) file offset content) (λ l. writes_none (clocked s now) file offset content l)
command_finds s (command.Trunc file size) now small = local_none (clocked s now) s.task (local_at s.opened file) (truncates (clocked s now) file size) (λ l. edits_none (clocked s now) file l size (truncated l.bytes size))
command_finds s (command.Read file offset count) now small = local_none (clocked s now) s.task (local_at s.opened file) (reads (clocked s now) offset count) (λ l. refl)
command_finds s (command.Close file) now small = local_none (clocked s now) s.task (local_at s.opened file) (closes (clocked s now) file) (λ l. closes_none (clocked s now) file l)
command_finds s (command.Abandon file) now small = local_none (clocked s now) s.task (local_at s.opened file) (abandons (clocked s now) file) (λ l. refl)
command_finds s (command.Named c) now small = by s.task
  where
    asks : (b : Bool) → FindsNone (walks_if (clocked s now) (walk_begun c) b)
    asks true = refl
    asks false = refl

    by : (t : Option Task) → FindsNone (walks (clocked s now) c t)
    by (Some t) = refl
    by None = asks (may_walk (clocked s now) (walk_begun c))

-- ---- an answer to an open

retries_none : (s : State) (calls : List Pending) (file xid : ℕ) (f : Fetch) (version bytes : ℕ) → FindsNone (gives_up s calls file xid f version bytes)
retries_none s calls file xid f version bytes = by (nat_lt f.tries tries_most)
  where
    by : (b : Bool) → FindsNone (retries s calls file xid b f version bytes)
    by true = refl
    by false = refl

reads_none : (s : State) (calls : List Pending) (file xid : ℕ) (f : Fetch) (bytes : ℕ) → FindsNone (reads_on s calls file xid f bytes)
reads_none s calls file xid f bytes = by (is_here (reads_all s.cache s.index file f s.next_xid).fetch)
  where
    by : (b : Bool) → FindsNone (reads_if (record s { index = found_all s.index (looked_up f (reads_all s.cache s.index file f s.next_xid)) }) calls file xid (reads_all s.cache s.index file f s.next_xid) bytes b)
    by true = refl
    by false = refl

hashes_none : (s : State) (calls : List Pending) (file xid : ℕ) (f : Fetch) (a : Answer Hashes Unit) → FindsNone (told_hashes s calls file xid f a)
hashes_none s calls file xid f (Failed t u) = refl
hashes_none s calls file xid f (Done h) = same (h.version == f.version)
  where
    lists : (b : Bool) → FindsNone (lists_on s calls file xid (with_hashes f h) b)
    lists true = reads_none s calls file xid (listed (with_hashes f h)) 0
    lists false = refl

    shape : (b : Broken) → FindsNone (told_shape s calls file xid f h b)
    shape None = lists h.eof
    shape (Some b) = refl

    same : (b : Bool) → FindsNone (told_version s calls file xid f h b)
    same true = shape (broken_of f h)
    same false = retries_none s calls file xid f h.version 0

first_none : (s : State) (calls : List Pending) (file xid tries : ℕ) (a : Answer Hashes Unit) → FindsNone (told_first s calls file xid tries a)
first_none s calls file xid tries (Failed t u) = refl
first_none s calls file xid tries (Done h) = hashes_none s calls file xid (fetch_of tries xid h) (Done h)

lease_none : (s : State) (calls : List Pending) (file xid : ℕ) (a : Answer Leased Unit) → FindsNone (told_lease s calls file xid a)
lease_none s calls file xid (Failed t u) = refl
lease_none s calls file xid (Done l) = by (content_in l.version (content_of s.cache file))
  where
    by : (o : Option (List ℕ)) → FindsNone (uses_kept s calls file xid l.version o)
    by None = refl
    by (Some bytes) = refl

anew_none : (s : State) (calls : List Pending) (file xid : ℕ) (a : Answer Leased Unit) → FindsNone (told_anew s calls file xid a)
anew_none s calls file xid (Failed t u) = refl
anew_none s calls file xid (Done l) = refl

piece_none : (s : State) (calls : List Pending) (file xid : ℕ) (f : Fetch) (p : Piece) (o : Option ReadCall) → FindsNone (told_piece s calls file xid f p o)
piece_none s calls file xid f p None = refl
piece_none s calls file xid f p (Some c) = chunk (slice_get f.chunks c.index)
  where
    misfit : (b : BadPeer) (o : Option ℕ) → FindsNone (misfits s calls file xid f b (length p.bytes) o)
    misfit b (Some v) = retries_none s calls file xid f v (length p.bytes)
    misfit b None = refl

    bytes : (o : Option BadPeer) → FindsNone (told_bytes s calls file xid f c p o)
    bytes None = reads_none s calls file xid (with_bytes f c p.bytes) (length p.bytes)
    bytes (Some b) = misfit b (other_version f.version p.attr)

    chunk : (o : Option Chunk) → FindsNone (told_chunk s calls file xid f c p o)
    chunk None = refl
    chunk (Some k) = bytes (fault_in k p.bytes (length p.bytes == k.len))

-- ---- an answer to a close

goes_none : (s : State) (file : ℕ) (content : List ℕ) (st : Upload) → FindsNone (goes_on s file content st)
goes_none s file content st = by (is_stored (names_all s.lbfs st s.next_xid).store)
  where
    by : (b : Bool) → FindsNone (goes_if s file content (names_all s.lbfs st s.next_xid) b)
    by true = refl
    by false = refl

temp_none : (s : State) (calls : List Pending) (file xid temp : ℕ) (content : List ℕ) (a : Answer Unit Unit) → FindsNone (told_temp s calls file xid temp content a)
temp_none s calls file xid temp content (Failed t u) = refl
temp_none s calls file xid temp content (Done u) = goes_none s file content (store_of temp content)

named_none : (s : State) (calls : List Pending) (file xid : ℕ) (content : List ℕ) (st : Upload) (c : UploadCall) (a : Answer Unit Unit) → FindsNone (told_named s calls file xid content st c a)
named_none s calls file xid content st c (Done u) = goes_none s file content st
named_none s calls file xid content st c (Failed status.HashNotFound u) = by (slice_get st.chunks c.index)
  where
    by : (o : Option Chunk) → FindsNone (sends_whole s file xid content st c o)
    by None = refl
    by (Some k) = refl
named_none s calls file xid content st c (Failed t u) = refl

stored_none : (s : State) (calls : List Pending) (file xid : ℕ) (content : List ℕ) (st : Upload) (b : Body) (o : Option UploadCall) → FindsNone (told_stored s calls file xid content st b o)
stored_none s calls file xid content st b None = refl
stored_none s calls file xid content st b (Some c) = by c.way b
  where
    whole : (a : Answer Unit Unit) → FindsNone (told_whole s calls file xid content (answered st xid) a)
    whole (Done u) = goes_none s file content (answered st xid)
    whole (Failed t u) = refl

    by : (w : Way) (b : Body) → FindsNone (told_way s calls file xid content (answered st xid) c w b)
    by way.Named (body.Lb (lb.CondWriteAnswer a)) = named_none s calls file xid content (answered st xid) c a
    by way.Whole (body.Lb (lb.TmpWriteAnswer a)) = whole a
    by w b = refl

-- ---- any answer

pub took_finds : (s : State) (calls : List Pending) (file : ℕ) (st : Stage) (xid : ℕ) (b : Body) → IsOfFile st → (took s calls file st xid b).1.found ≡ None
took_finds s calls file (stage.Asking y) xid (body.Lb (lb.GetLeaseAnswer a)) of = lease_none s calls file xid a
took_finds s calls file (stage.Rewriting y) xid (body.Lb (lb.GetLeaseAnswer a)) of = anew_none s calls file xid a
took_finds s calls file (stage.Hashing tries y) xid (body.Lb (lb.GetHashAnswer a)) of = first_none s calls file xid tries a
took_finds s calls file (stage.Listing y f) xid (body.Lb (lb.GetHashAnswer a)) of = hashes_none s calls file xid f a
took_finds s calls file (stage.Reading f) xid (body.Nfs (nfs.ReadAnswer (Failed t a))) of = refl
took_finds s calls file (stage.Reading f) xid (body.Nfs (nfs.ReadAnswer (Done p))) of = piece_none s calls file xid f p (read_at f.under xid)
took_finds s calls file (stage.Making y temp) xid (body.Lb (lb.MkTmpFileAnswer a)) of = temp_none s calls file xid temp (local_bytes s.opened file) a
took_finds s calls file (stage.Storing st) xid b of = stored_none s calls file xid (local_bytes s.opened file) st b (store_at st.under xid)
took_finds s calls file (stage.Committing y) xid (body.Lb (lb.CommitTmpAnswer (Failed t u))) of = refl
took_finds s calls file (stage.Committing y) xid (body.Lb (lb.CommitTmpAnswer (Done c))) of = refl
took_finds s calls file (stage.Walking y w) xid b of = absurd of
took_finds s calls file st xid b of = refl

-- a step finds no file where an answer to what is under way finds none
got_none : (s : State) (m : Result Message WireFault) (now : ℕ) → ((t : Task) → s.task ≡ Some t → (xid : ℕ) (b : Body) → FindsNone (took (idle (clocked s now)) (calls_of s) t.file t.stage xid b)) → (got_step s m now).1.found ≡ None
got_none s m now none = got_cases FindsNone s m now (record {
  took = none;
  memory = λ t is xid. refl;
  bad = λ t is f. refl;
  off = λ free. refl;
  forgot = λ xid. refl;
  recalled = λ xid o. refl;
  greeted = λ xid. refl;
  unfit = λ xid r. refl;
  call = refl;
})

-- what is under way, if anything is, is no walk
abbrev pub NoWalk : Option Task → Type 0
NoWalk t = (u : Task) → t ≡ Some u → IsOfFile u.stage

pub got_finds : (s : State) (m : Result Message WireFault) (now : ℕ) → NoWalk s.task → (got_step s m now).1.found ≡ None
got_finds s m now none = got_none s m now (λ t is xid b. took_finds (idle (clocked s now)) (calls_of s) t.file t.stage xid b (none t is))

-- ---- the connection is lost

pub cut_finds : (s : State) → (cut s).1.found ≡ None
cut_finds s = by s.task
  where
    by : (t : Option Task) → (ended_by t (record { outcome = outcome.Lost; rests_on = 0 })).found ≡ None
    by None = refl
    by (Some t) = refl

-- ---- what is under way

-- a walk that is under way is for what changes no file, or for what gets its file by a change
pub stage_quiet : (st : Stage) → IsOfFile st ⊎ ((changes (stage_word st) ≡ false) ⊎ (gets_file (stage_word st) ≡ true))
stage_quiet (stage.Walking x w) = inr (by w.goal)
  where
    by : (g : Goal) → (changes (goal_word g) ≡ false) ⊎ (gets_file (goal_word g) ≡ true)
    by (goal.Make n) = inr refl
    by (goal.Remove n) = inr refl
    by (goal.RenameFrom n to) = inr refl
    by (goal.RenameTo from n to) = inr refl
    by _ = inl refl
stage_quiet st = inl tt

-- and an answer to that finds no file
took_makes : (s : State) (calls : List Pending) (file : ℕ) (st : Stage) (x : ℕ) (b : Body) → gets_file (stage_word st) ≡ true → FindsNone (took s calls file st x b)
took_makes s calls file (stage.Walking y w) x b make = walk_cases FindsNone s calls file y w x b (record {
  fault = λ f bad. refl;
  asks = λ v k. refl;
  open_already = λ id k is. absurd (never k.asked k.walk k.answer id k.stage_is k.told_is);
  fetches = λ id k shut none. absurd (never k.asked k.walk k.answer id k.stage_is k.told_is);
  leases = λ id c k shut there. absurd (never k.asked k.walk k.answer id k.stage_is k.told_is);
  opens_now = λ id c k shut fresh. absurd (never k.asked k.walk k.answer id k.stage_is k.told_is);
  empties_now = λ id c k shut fresh. absurd (never_anew k.asked k.walk k.answer id k.stage_is k.told_is);
  renew_already = λ id k is. absurd (never_anew k.asked k.walk k.answer id k.stage_is k.told_is);
  renews = λ id k shut. absurd (never_anew k.asked k.walk k.answer id k.stage_is k.told_is);
  ends = λ v e k same. ap (λ (b : Bool). seen_in b e) (unseen v.goal (ap (λ (z : Walk). gets_file (goal_word z.goal)) (sym (walk_is k.asked k.walk k.stage_is ∙ same)) ∙ make)) ∙ none_seen e;
})
  where
    walk_is : (z : ℕ) (v : Walk) → stage.Walking y w ≡ stage.Walking z v → w ≡ v
    walk_is z v e = cc

    open_not : gets_file words.Open ≡ true → ⊥
    open_not e = absurd cc

    never : (z : ℕ) (v : Walk) (a : Nfs) (id : ℕ) → stage.Walking y w ≡ stage.Walking z v → walk_told v a ≡ walk_told_as.Finds id → ⊥
    never z v a id e told = open_not (sym (ap (λ (u : Walk). gets_file (goal_word u.goal)) (walk_is z v e) ∙ ap gets_file (finds_open v a id told)) ∙ make)

    renew_not : gets_file words.Rewrite ≡ true → ⊥
    renew_not e = absurd cc

    never_anew : (z : ℕ) (v : Walk) (a : Nfs) (id : ℕ) → stage.Walking y w ≡ stage.Walking z v → walk_told v a ≡ walk_told_as.Rewrites id → ⊥
    never_anew z v a id e told = renew_not (sym (ap (λ (u : Walk). gets_file (goal_word u.goal)) (walk_is z v e) ∙ ap gets_file (finds_rewrite v a id told)) ∙ make)

    unseen : (g : Goal) → gets_file (goal_word g) ≡ true → is_look g ≡ false
    unseen (goal.Look n) e = absurd cc
    unseen g e = refl

    none_seen : (e : WalkEnd) → seen_in false e ≡ None
    none_seen e = refl
took_makes s calls file st x b make = absurd cc

got_makes : (s : State) (m : Result Message WireFault) (now : ℕ) → ((u : Task) → s.task ≡ Some u → gets_file (stage_word u.stage) ≡ true) → (got_step s m now).1.found ≡ None
got_makes s m now make = got_none s m now (λ t is xid b. took_makes (idle (clocked s now)) (calls_of s) t.file t.stage xid b (make t is))

-- a step finds no file, or is of an operation that changes no file
abbrev pub Quietly : ClientStep → Word → Type 0
Quietly acts w = (acts.found ≡ None) ⊎ (changes w ≡ false)

-- so is each that hears an answer
pub heard_quiet : (book : Book) (k : Core) (qs : List Queue) (n now : ℕ) (bytes : List ℕ) (mid : List Queue) → IsKept book k qs → (h : Heard k qs n now bytes mid) → (m : Result Message WireFault) (j : Job) → job h.seat ≡ Some j → Quietly (got_step h.seat.client m now).1 (stage_word j.stage)
heard_quiet book k qs n now bytes mid kept h m j is =
    let s = kept.sessions n h.session h.queue h.at h.queue_is (has_owner k.seats h.session h.seat h.owner) in
    let same : s.seat ≡ h.seat = some_is s.seat h.seat (sym s.owner ∙ h.owner) in
    let task = job_task h.seat.place h.seat.client.task j is in
    elim (stage_quiet j.stage) [
      | inl of ↦ inl (got_finds h.seat.client m now (λ u at. subst (λ (z : Task). IsOfFile z.stage) (some_is (record { file = j.file; stage = j.stage }) u (sym task ∙ at)) of))
      | inr (inl none) ↦ inr none
      | inr (inr make) ↦ inl (got_makes h.seat.client m now (λ u at. subst (λ (z : Task). gets_file (stage_word z.stage) ≡ true) (some_is (record { file = j.file; stage = j.stage }) u (sym task ∙ at)) make))
    ]

-- and none of an operation that has its file
pub heard_apart : (book : Book) (k : Core) (qs : List Queue) (n now : ℕ) (bytes : List ℕ) (mid : List Queue) → IsKept book k qs → (h : Heard k qs n now bytes mid) → (m : Result Message WireFault) (j : Job) → job h.seat ≡ Some j → ((got_step h.seat.client m now).1.found ≡ None) ⊎ (j.file ≡ 0)
heard_apart book k qs n now bytes mid kept h m j is =
    let s = kept.sessions n h.session h.queue h.at h.queue_is (has_owner k.seats h.session h.seat h.owner) in
    let same : s.seat ≡ h.seat = some_is s.seat h.seat (sym s.owner ∙ h.owner) in
    let task = job_task h.seat.place h.seat.client.task j is in
    elim (by j.stage ((s.talk h.uncut).fetch j (ap job same ∙ is))) [
      | inl of ↦ inl (got_finds h.seat.client m now (λ u at. subst (λ (z : Task). IsOfFile z.stage) (some_is (record { file = j.file; stage = j.stage }) u (sym task ∙ at)) of))
      | inr none ↦ inr none
    ]
  where
    by : (st : Stage) → FetchOf book h.session.taken j st → IsOfFile st ⊎ (j.file ≡ 0)
    by (stage.Walking x w) f = inr f.0
    by st f = inl tt

-- ---- a step that finds one

-- an open or a rewrite begins for it, or ends; and nothing is opened in it
abbrev pub IsFresh : Stage → Type 0
IsFresh (stage.Asking x) = Unit {0}
IsFresh (stage.Rewriting x) = Unit {0}
IsFresh (stage.Hashing tries x) = Unit {0}
IsFresh st = ⊥

pub record FoundSo (r : State × ClientStep) : Type 0 where
  pub begins : (u : Task) → r.0.task ≡ Some u → IsFresh u.stage
  -- unless it is fresh, and opened at once
  pub unopened : (e : Ended) → r.1.ended ≡ Some e → IsOpenedBy e.outcome → (e.rests_on ≡ 0) × (r.1.send ≡ [])

abbrev none_sent : List Message
none_sent = []

abbrev WhereFound : State × ClientStep → Type 0
WhereFound r = (id : ℕ) → r.1.found ≡ Some id → FoundSo r

found_none : (r : State × ClientStep) → r.1.found ≡ None → WhereFound r
found_none r none id e = nothing_there id (sym none ∙ e)

end_plain : (e : WalkEnd) → IsOpenedBy (outcome_of e) → ⊥
end_plain walk_end.Done h = h
end_plain _ h = h

took_found : (s : State) (calls : List Pending) (file : ℕ) (st : Stage) (x : ℕ) (b : Body) → WhereFound (took s calls file st x b)
took_found s calls file (stage.Walking y w) x b = walk_cases WhereFound s calls file y w x b (record {
  fault = λ f bad id e. nothing_there id e;
  asks = λ v k id e. nothing_there id e;
  open_already = λ found k is id e. record { begins = λ u at. nothing_there u at; unopened = λ d at. subst (λ (z : Ended). IsOpenedBy z.outcome → (z.rests_on ≡ 0) × (none_sent ≡ [])) (some_is _ d at) (λ h. absurd h) };
  fetches = λ found k shut none id e. record { begins = λ u at. subst (λ (z : Task). IsFresh z.stage) (some_is _ u at) tt; unopened = λ d at. nothing_there d at };
  leases = λ found c k shut there id e. record { begins = λ u at. subst (λ (z : Task). IsFresh z.stage) (some_is _ u at) tt; unopened = λ d at. nothing_there d at };
  opens_now = λ found c k shut fresh id e. record { begins = λ u at. nothing_there u at; unopened = λ d at. subst (λ (z : Ended). IsOpenedBy z.outcome → (z.rests_on ≡ 0) × (none_sent ≡ [])) (some_is _ d at) (λ h. (refl, refl)) };
  empties_now = λ found c k shut fresh id e. record { begins = λ u at. nothing_there u at; unopened = λ d at. subst (λ (z : Ended). IsOpenedBy z.outcome → (z.rests_on ≡ 0) × (none_sent ≡ [])) (some_is _ d at) (λ h. (refl, refl)) };
  renew_already = λ found k is id e. record { begins = λ u at. nothing_there u at; unopened = λ d at. subst (λ (z : Ended). IsOpenedBy z.outcome → (z.rests_on ≡ 0) × (none_sent ≡ [])) (some_is _ d at) (λ h. absurd h) };
  renews = λ found k shut id e. record { begins = λ u at. subst (λ (z : Task). IsFresh z.stage) (some_is _ u at) tt; unopened = λ d at. nothing_there d at };
  ends = λ v end k same id e. record { begins = λ u at. nothing_there u at; unopened = λ d at. subst (λ (z : Ended). IsOpenedBy z.outcome → (z.rests_on ≡ 0) × (none_sent ≡ [])) (some_is _ d at) (λ h. absurd (end_plain end h)) };
})
took_found s calls file st x b = found_none (took s calls file st x b) (took_finds s calls file st x b tt)

pub step_found : (s : State) (m : Result Message WireFault) (now : ℕ) → WhereFound (got_step s m now)
step_found s m now = got_cases WhereFound s m now (record {
  took = λ t is xid b. took_found (idle (clocked s now)) (calls_of s) t.file t.stage xid b;
  memory = λ t is xid id e. nothing_there id e;
  bad = λ t is f id e. nothing_there id e;
  off = λ none id e. nothing_there id e;
  forgot = λ xid id e. nothing_there id e;
  recalled = λ xid o id e. nothing_there id e;
  greeted = λ xid id e. nothing_there id e;
  unfit = λ xid r id e. nothing_there id e;
  call = λ id e. nothing_there id e;
})

-- A run carries that an operation sends its own calls alone, or calls on names: an open asks for chunks and bytes of its file, a close stores its value and
-- commits it to its file, a rewrite asks for the version of its file, and for any other nothing else is said.
use Rattle.std.proofs.Common.{◌⊎◌, append-nil, inl, inr, ◌≡◌, ℕ, ◌+◌, ◌-◌, List, [], ◌∷◌, ◌++◌, length, Option, Some, None, true, false, refl, sym, ap, ◌∙◌, subst, arith, map}
use Rattle.hash_calls.specs.declared.message.Lb.TheVariants as lb
use Rattle.nfs3_calls.specs.declared.message.Nfs.TheVariants as nfs
use Rattle.wire.specs.declared.message.Body.TheVariants as body
use Rattle.wire.specs.declared.message.Message.TheVariants as message
use Rattle.client_state.specs.State as client
use Rattle.client_state.specs.declared.task.Stage.TheVariants as stage
use Rattle.register_model.specs.declared.op.Word.TheVariants as words
use Rattle.trace_replay.specs.Traffic.{IsFetchCall, IsVersionCall, IsStoreCall, bytes_in, IsOwnCall, AreOwn, named_by, named_in}
use Rattle.register_model.specs.declared.op.Outcome.{Outcome as History}
use Rattle.kept_promise.proofs.Common.{chunks_of, Chunk, Body, Message, Pending, lease_call, hash_call, cond_call, commit_call, names_from, names_all, calls_most, read_call, reads_from, reads_chunk, with_hashes, idle, forgets, tries_anew, lists_on, reads_if, goes_if, sends_whole, took, Reads, ClientStep, Ended, Fetch, Stage, Upload, Task, Op, Word, TakenCall, op_after, no_traffic, Moment, Deal, Deal.Took, Deal.Found, Deal.Sent, deals_with, deals_of, CountsOwn, first_number, Book}
use Rattle.kept_promise.proofs.Lists.{some_is, nothing_there}
use Rattle.kept_promise.proofs.Messages.{Job, stage_word}
use Rattle.kept_promise.proofs.Counted.{traffic_is}
use Rattle.kept_promise.proofs.CountedRuns.{no_fault_after}
use Rattle.kept_promise.proofs.VersionRuns.{close_not_opened, rewrite_not_opened, word_after}
use Rattle.kept_promise.proofs.StepCases.{IsFault, reads_keep, names_keep, JustEnds, StoreIn, reads_of, looked, in_open, now_open, either_word, Cases, took_cases, IsOfFile}
use Rattle.kept_promise.proofs.Logs.{Going, Ending}
use Rattle.kept_promise.proofs.LogSums.{sent_more, came_in, came_join, asked_in, read_number, begins_in, IsSum, whole_in}
use Rattle.kept_promise.proofs.NamesLog.{IsNameDeal, NamesOnly, one_none, names_count}
use Rattle.kept_promise.proofs.WalkRuns.{took_file}
use Rattle.kept_promise.proofs.LogEvents.{Answering, Answered, found_in, LogLaws, value_stays, file_stays}
use Rattle.file_open.specs.Looking.{reading_by, with_file}
use Rattle.trace_replay.specs.Trail.{given_in}
use Rattle.xdr_codec.specs.declared.answer.Answer.TheVariants.{Done, Failed}
use Rattle.kept_promise.proofs.Rights.{gets_file}

-- ---- what is carried

-- the chunks that a store is of
abbrev pub StageChunks : Stage → (value : List ℕ) → Type 0
StageChunks (stage.Storing w) v = w.chunks ≡ chunks_of v
StageChunks st v = Unit {0}

-- whatever was sent is its own, or on names
abbrev pub IsNear : Word → (file : ℕ) → (value : List ℕ) → Deal → Type 0
IsNear w file v (Sent m) = IsOwnCall w file v m ⊎ IsNameDeal (Sent m)
IsNear w file v d = Unit {0}

abbrev pub AreNear : Word → (file : ℕ) → (value : List ℕ) → List Deal → Type 0
AreNear w file v [] = Unit {0}
AreNear w file v (d ∷ ds) = IsNear w file v d × AreNear w file v ds

-- no bytes came for a rewrite; for any other than an open and a close nothing was said, but by a walk
abbrev IsBare : Word → List Deal → Type 0
IsBare words.Open log = Unit {0}
IsBare words.Close log = Unit {0}
IsBare words.Rewrite log = came_in log ≡ 0
IsBare w log = NamesOnly log

abbrev pub OwnBy : Going
OwnBy log file v (stage.Walking x w) = NamesOnly log
OwnBy log file v st = AreNear (stage_word st) file v log × (StageChunks st v × IsBare (stage_word st) log)

abbrev pub OpOwn : Ending
OpOwn log w file v u = AreNear w file v log × IsBare w log

-- at a stage of a file
own_at : (log : List Deal) (file : ℕ) (v : List ℕ) (st : Stage) → IsOfFile st → AreNear (stage_word st) file v log × (StageChunks st v × IsBare (stage_word st) log) → OwnBy log file v st
own_at log file v (stage.Walking x w) of h = absurd of
own_at log file v st of h = h

own_of : (log : List Deal) (file : ℕ) (v : List ℕ) (st : Stage) → IsOfFile st → OwnBy log file v st → AreNear (stage_word st) file v log × (StageChunks st v × IsBare (stage_word st) log)
own_of log file v (stage.Walking x w) of h = absurd of
own_of log file v st of h = h

-- ---- logs joined

pub own_join : (w : Word) (file : ℕ) (v : List ℕ) (a b : List Deal) → AreOwn w file v a → AreOwn w file v b → AreOwn w file v (a ++ b)
own_join w file v [] b h k = k
own_join w file v (Took m ∷ a) b h k = own_join w file v a b h k
own_join w file v (Found z ∷ a) b h k = own_join w file v a b h k
own_join w file v (Sent m ∷ a) b h k = (h.0, own_join w file v a b h.1 k)

near_join : (w : Word) (file : ℕ) (v : List ℕ) (a b : List Deal) → AreNear w file v a → AreNear w file v b → AreNear w file v (a ++ b)
near_join w file v [] b h k = k
near_join w file v (d ∷ a) b h k = (h.0, near_join w file v a b h.1 k)

near_own : (w : Word) (file : ℕ) (v : List ℕ) (log : List Deal) → AreOwn w file v log → AreNear w file v log
near_own w file v [] h = tt
near_own w file v (Took m ∷ log) h = (tt, near_own w file v log h)
near_own w file v (Found z ∷ log) h = (tt, near_own w file v log h)
near_own w file v (Sent m ∷ log) h = (inl h.0, near_own w file v log h.1)

near_names : (w : Word) (file : ℕ) (v : List ℕ) (log : List Deal) → NamesOnly log → AreNear w file v log
near_names w file v [] h = tt
near_names w file v (Took m ∷ log) h = (tt, near_names w file v log h.1)
near_names w file v (Found z ∷ log) h = (tt, near_names w file v log h.1)
near_names w file v (Sent m ∷ log) h = (inr h.0, near_names w file v log h.1)

-- an open's calls don't depend on a value
open_near : (file : ℕ) (v x : List ℕ) (log : List Deal) → AreNear words.Open file v log → AreNear words.Open file x log
open_near file v x [] h = tt
open_near file v x (Took m ∷ log) h = (tt, open_near file v x log h.1)
open_near file v x (Found z ∷ log) h = (tt, open_near file v x log h.1)
open_near file v x (Sent m ∷ log) h = (h.0, open_near file v x log h.1)

near_found : (w : Word) (file : ℕ) (v : List ℕ) (ps : List (ℕ × ℕ)) → AreNear w file v (map Found ps)
near_found w file v [] = tt
near_found w file v (z ∷ ps) = (tt, near_found w file v ps)

-- ---- what goes out

pub reads_own : (s : client.State) (file : ℕ) (v : List ℕ) (f : Fetch) → AreOwn words.Open file v (map Sent (reads_of s file f).send)
reads_own s file v f = reads_keep (λ r. AreOwn words.Open file v (map Sent r.send)) s.cache s.index file (λ r c o h at found. by r c h o) (length f.chunks - f.asked) (reads_from f s.next_xid) tt
  where
    by : (r : Reads) (c : Chunk) → AreOwn words.Open file v (map Sent r.send) → (o : Option (List ℕ)) → AreOwn words.Open file v (map Sent (reads_chunk file r c o).send)
    by r c h None = subst (AreOwn words.Open file v) (sym (sent_more r.send (read_call r.next_xid file c))) (own_join words.Open file v (map Sent r.send) (Sent (read_call r.next_xid file c) ∷ []) h (refl, tt))
    by r c h (Some bytes) = h

pub names_own : (lbfs : ℕ) (file : ℕ) (v : List ℕ) (w : Upload) (next : ℕ) → AreOwn words.Close file v (map Sent (names_all lbfs w next).send) × ((names_all lbfs w next).store.chunks ≡ w.chunks)
names_own lbfs file v w next = names_keep lbfs (λ n. AreOwn words.Close file v (map Sent n.send) × (n.store.chunks ≡ w.chunks)) (λ n c h at. (subst (AreOwn words.Close file v) (sym (sent_more n.send (cond_call lbfs n.next_xid n.store.temp c))) (own_join words.Close file v (map Sent n.send) (Sent (cond_call lbfs n.next_xid n.store.temp c) ∷ []) h.0 (tt, tt)), h.1)) (calls_most - length w.under) (names_from w next) (tt, refl)

-- ---- an answer

-- what a step sends, and what stage it leaves
abbrev pub Sends : (w : Word) (file : ℕ) (v : List ℕ) → client.State × ClientStep → Type 0
Sends w file v r = ((u : Task) → r.1.ended ≡ None → r.0.task ≡ Some u → (stage_word u.stage ≡ w) × StageChunks u.stage v) × AreOwn w file v (map Sent r.1.send)

store_is : (st : Stage) (x : ℕ) (v content : List ℕ) (w : Upload) → StoreIn st x content w → StageChunks st v → (stage_word st ≡ words.Close → v ≡ content) → (stage_word st ≡ words.Close) × (v ≡ content) × (w.chunks ≡ chunks_of v)
store_is st x v content w (inl (y, temp, is, e)) h same = let close = ap stage_word is in let v_is = same close in (close, v_is, ap (λ (z : Upload). z.chunks) e ∙ ap chunks_of (sym v_is))
store_is st x v content w (inr (old, is, e)) h same = let close = ap stage_word is in (close, same close, ap (λ (z : Upload). z.chunks) e ∙ subst (λ (t : Stage). StageChunks t v) is h)

pub sends_cases : (s : client.State) (calls : List Pending) (file : ℕ) (v : List ℕ) (st : Stage) (x : ℕ) (b : Body) → StageChunks st v → (stage_word st ≡ words.Close → v ≡ client.local_bytes s.opened file) → Cases (λ found r. Sends (stage_word st) file v r) s calls file st x b
sends_cases s calls file v st x b h same = record {
  ends = λ r e unchanged came. ended r e;
  changed = λ r f version e open_ gave last is. ended r e;
  uses = λ y l bytes at is kept. ((λ u running. nothing_there _ (sym running)), tt);
  fetches = λ y l at is. opening (ap stage_word at) (tries_anew (forgets s calls x) file 1 0) ((λ u running task. subst (λ (z : Task). (stage_word z.stage ≡ words.Open) × StageChunks z.stage v) (some_is _ u task) (refl, tt)), (refl, tt));
  anew = λ f version bytes open_ gave few came. opening open_ (tries_anew (forgets s calls x) file (f.tries + 1) bytes) ((λ u running task. subst (λ (z : Task). (stage_word z.stage ≡ words.Open) × StageChunks z.stage v) (some_is _ u task) (refl, tt)), (refl, tt));
  lists = λ f g is at told far. opening (in_open st x g f at) (lists_on s calls file x (with_hashes f g) false) ((λ u running task. subst (λ (z : Task). (stage_word z.stage ≡ words.Open) × StageChunks z.stage v) (some_is _ u task) (refl, tt)), (refl, tt));
  reads = λ f bytes now here. opening (now_open st x b f bytes now) (reads_if (looked s file f) calls file x (reads_of s file f) bytes false) ((λ u running task. subst (λ (z : Task). (stage_word z.stage ≡ words.Open) × StageChunks z.stage v) (some_is _ u task) (refl, tt)), reads_own s file v f);
  opens = λ f bytes now here. ((λ u running. nothing_there _ (sym running)), tt);
  names = λ w at known none is.
      let k = store_is st x v (client.local_bytes s.opened file) w at h same in
      let own = names_own s.lbfs file v w s.next_xid in
      closing k.0 (goes_if s file (client.local_bytes s.opened file) (names_all s.lbfs w s.next_xid) false) ((λ u running task. subst (λ (z : Task). (stage_word z.stage ≡ words.Close) × StageChunks z.stage v) (some_is _ u task) (refl, own.1 ∙ k.2)), own.0);
  commits = λ w at known none is.
      let k = store_is st x v (client.local_bytes s.opened file) w at h same in
      let own = names_own s.lbfs file v w s.next_xid in
      let n = names_all s.lbfs w s.next_xid in
      let commit : Message = commit_call s.lbfs n.next_xid n.store.temp file (length (client.local_bytes s.opened file)) in
      closing k.0 (goes_if s file (client.local_bytes s.opened file) (names_all s.lbfs w s.next_xid) true) (
        (λ u running task. subst (λ (z : Task). (stage_word z.stage ≡ words.Close) × StageChunks z.stage v) (some_is _ u task) (refl, tt)),
        subst (AreOwn words.Close file v) (sym (sent_more n.send commit)) (own_join words.Close file v (map Sent n.send) (Sent commit ∷ []) own.0 ((refl, ap length (sym k.1)), tt)),
      );
  whole = λ old c k at unknown none found name chunk.
      let close = ap stage_word at in
      let chunks : old.chunks ≡ chunks_of v = subst (λ (t : Stage). StageChunks t v) at h in
      closing close (sends_whole s file x (client.local_bytes s.opened file) (Rattle.file_close.specs.Closing.answered old x) c (Some k)) (
        (λ u running task. subst (λ (z : Task). (stage_word z.stage ≡ words.Close) × StageChunks z.stage v) (some_is _ u task) (refl, chunks)),
        (tt, tt),
      );
}
  where
    ended : (r : client.State × ClientStep) → JustEnds x b r → Sends (stage_word st) file v r
    ended r e = ((λ u running. nothing_there e.ended (sym running ∙ e.ended_is)), subst (λ (ms : List Message). AreOwn (stage_word st) file v (map Sent ms)) (sym e.sent) tt)

    opening : stage_word st ≡ words.Open → (r : client.State × ClientStep) → Sends words.Open file v r → Sends (stage_word st) file v r
    opening is r k = subst (λ w. Sends w file v r) (sym is) k

    closing : stage_word st ≡ words.Close → (r : client.State × ClientStep) → Sends words.Close file v r → Sends (stage_word st) file v r
    closing is r k = subst (λ w. Sends w file v r) (sym is) k

-- no bytes come for a rewrite
silent_after : (log : List Deal) (s : client.State) (calls : List Pending) (file : ℕ) (st : Stage) (x : ℕ) (b : Body) → IsOfFile st → IsBare (stage_word st) log → (let r = took s calls file st x b in IsFault r.1.ended ⊎ IsBare (stage_word st) (log ++ deals_with (message.Answer x b ∷ []) (given_in s (with_file file (reading_by st x b))) r.1.send))
silent_after log s calls file (stage.Walking y w) x b of was = absurd of
silent_after log s calls file (stage.Rewriting y) x b of was = by b
  where
    by : (b : Body) → (let r = took s calls file (stage.Rewriting y) x b in IsFault r.1.ended ⊎ IsBare words.Rewrite (log ++ deals_with (message.Answer x b ∷ []) [] r.1.send))
    by (body.Lb (lb.GetLeaseAnswer (Done l))) = inr (let m = message.Answer x (body.Lb (lb.GetLeaseAnswer (Done l))) in let j = came_join log (Took m ∷ []) in omega (arith, j, was))
    by (body.Lb (lb.GetLeaseAnswer (Failed t u))) = inr (let m = message.Answer x (body.Lb (lb.GetLeaseAnswer (Failed t u))) in let j = came_join log (Took m ∷ []) in omega (arith, j, was))
    by b = inl (_, refl)
silent_after log s calls file st x b of was = inr tt

own_heard : (book more : Book) (taken : List TakenCall) (j : Job) (o : Op) (p : ℕ) (s : client.State) (x : ℕ) (b : Body) → Answering book more taken j o p s x b (took (idle s) (client.calls_of s) j.file j.stage x b) → (log : List Deal) → OwnBy log o.file o.value j.stage
    → Answered OwnBy OpOwn book taken o log x b (found_in s j.file j.stage x b) (took (idle s) (client.calls_of s) j.file j.stage x b)
own_heard book more taken j o p s x b a log h = record {
  stage = λ u running is.
      let w = sends.0 u running is in
      own_at log2 new.file new.value u.stage (took_file (idle s) (client.calls_of s) j.file j.stage x b a.known u is) (
        subst (λ z. AreNear z new.file new.value log2) (a.taking.word ∙ sym w.0) each,
        (subst (StageChunks u.stage) (sym (running_value r.1.ended running)) w.1, subst (λ z. IsBare z log2) (sym w.0) bare),
      );
  each = (
    subst (λ z. AreNear z (op_after o r.0 taken (book.steps + 1) r.1).file (op_after o r.0 taken (book.steps + 1) r.1).value log2) (sym (word_after o r.0 taken (book.steps + 1) r.1)) each,
    subst (λ z. IsBare z log2) (sym (word_after o r.0 taken (book.steps + 1) r.1 ∙ a.taking.word)) bare,
  );
}
  where
    r : client.State × ClientStep
    r = took (idle s) (client.calls_of s) j.file j.stage x b

    new : Op
    new = op_after o (took (idle s) (client.calls_of s) j.file j.stage x b).0 taken (book.steps + 1) (took (idle s) (client.calls_of s) j.file j.stage x b).1

    log2 : List Deal
    log2 = log ++ deals_with (message.Answer x b ∷ []) (found_in s j.file j.stage x b) (took (idle s) (client.calls_of s) j.file j.stage x b).1.send

    had : AreNear (stage_word j.stage) o.file o.value log × (StageChunks j.stage o.value × IsBare (stage_word j.stage) log)
    had = own_of log o.file o.value j.stage a.known h

    sends : Sends (stage_word j.stage) j.file o.value (took (idle s) (client.calls_of s) j.file j.stage x b)
    sends = took_cases (λ found r. Sends (stage_word j.stage) j.file o.value r) (idle s) (client.calls_of s) j.file j.stage x b a.known (λ found r g until lease is z. z) (sends_cases (idle s) (client.calls_of s) j.file o.value j.stage x b had.1.0 a.value)

    bare : IsBare (stage_word j.stage) log2
    bare = elim (silent_after log (idle s) (client.calls_of s) j.file j.stage x b a.known had.1.1) [
      | inl fault ↦ absurd (no_fault_after more o r.0 taken (book.steps + 1) r.1 a.right fault)
      | inr silent ↦ silent
    ]

    running_value : (e : Option Ended) → e ≡ None → (op_after o r.0 taken (book.steps + 1) (record r.1 { ended = e })).value ≡ o.value
    running_value None is = refl
    running_value (Some e) is = nothing_there e (sym is)

    all : AreNear o.word o.file o.value log2
    all = subst (λ w. AreNear w o.file o.value log2) (sym a.taking.word) (near_join (stage_word j.stage) o.file o.value log (Took (message.Answer x b) ∷ (map Found (found_in s j.file j.stage x b) ++ map Sent r.1.send)) had.0 (
      tt,
      near_join (stage_word j.stage) o.file o.value (map Found (found_in s j.file j.stage x b)) (map Sent r.1.send) (near_found (stage_word j.stage) o.file o.value (found_in s j.file j.stage x b))
          (near_own (stage_word j.stage) o.file o.value (map Sent r.1.send) (subst (λ f. AreOwn (stage_word j.stage) f o.value (map Sent r.1.send)) (sym a.taking.file) sends.1)),
    ))

    each : AreNear o.word (op_after o r.0 taken (book.steps + 1) r.1).file (op_after o r.0 taken (book.steps + 1) r.1).value log2
    each = subst (λ f. AreNear o.word f (op_after o r.0 taken (book.steps + 1) r.1).value log2) (sym (file_stays o r.0 taken (book.steps + 1) r.1 a.finds)) (elim (either_word j.stage a.known) [
      | inl open_ ↦ (let w : o.word ≡ words.Open = a.taking.word ∙ open_ in subst (λ z. AreNear z o.file (op_after o r.0 taken (book.steps + 1) r.1).value log2) (sym w) (open_near o.file o.value (op_after o r.0 taken (book.steps + 1) r.1).value log2 (subst (λ z. AreNear z o.file o.value log2) w all)))
      | inr (inl close) ↦ (let w : o.word ≡ words.Close = a.taking.word ∙ close in subst (λ v. AreNear o.word o.file v log2) (sym (value_stays o r.0 taken (book.steps + 1) r.1 (λ len digest z. close_not_opened more (op_after o r.0 taken (book.steps + 1) r.1) len digest a.right (word_after o r.0 taken (book.steps + 1) r.1 ∙ w) z))) all)
      | inr (inr renew) ↦ (let w : o.word ≡ words.Rewrite = a.taking.word ∙ renew in subst (λ v. AreNear o.word o.file v log2) (sym (value_stays o r.0 taken (book.steps + 1) r.1 (λ len digest z. rewrite_not_opened more (op_after o r.0 taken (book.steps + 1) r.1) len digest a.right (word_after o r.0 taken (book.steps + 1) r.1 ∙ w) z))) all)
    ])

-- an operation that gets its file from the server
moves_own : (log : List Deal) (file other : ℕ) (v : List ℕ) (w : Word) (u : History) → gets_file w ≡ true → OpOwn log w file v u → OpOwn log w other v u
moves_own log file other v words.Make u gets h = (near_names words.Make other v log h.1, h.1)
moves_own log file other v words.Remove u gets h = (near_names words.Remove other v log h.1, h.1)
moves_own log file other v words.Rename u gets h = (near_names words.Rename other v log h.1, h.1)
moves_own log file other v w u gets h = absurd cc

pub own_laws : (all : List Moment) → LogLaws all OwnBy OpOwn
own_laws all = record {
  walks = λ log file v x w h. h;
  walked = λ log file v x w h. h;
  none = λ w file v u un same log names. (near_names w file v log names, none w log names);
  now = λ log file v len digest names. (near_names words.Open file v log names, none words.Open log names);
  asks = λ log names lbfs x file v. (near_join words.Open file v log (Sent (lease_call lbfs x file) ∷ []) (near_names words.Open file v log names) (inl refl, tt), (tt, tt));
  renews = λ log names lbfs x file v. (near_join words.Rewrite file v log (Sent (lease_call lbfs x file) ∷ []) (near_names words.Rewrite file v log names) (inl refl, tt), (tt, (let j = came_join log (Sent (lease_call lbfs x file) ∷ []) in let n = (names_count log names).came in omega (arith, j, n))));
  opens = λ log names lbfs x file v. (near_join words.Open file v log (Sent (hash_call lbfs x file 0) ∷ []) (near_names words.Open file v log names) (inl refl, tt), (tt, tt));
  closes = λ lbfs x temp file v. ((inl refl, tt), (tt, tt));
  moves = λ log file other v w u gets h. moves_own log file other v w u gets h;
  other = λ log file v st u of p un same. let own = own_of log file v st of p in (own.0, own.1.1);
  heard = λ book more taken j o p s x b all_is a log h. own_heard book more taken j o p s x b a log h;
}
  where
    none : (w : Word) (log : List Deal) → NamesOnly log → IsBare w log
    none words.Open log names = tt
    none words.Close log names = tt
    none words.Rewrite log names = (names_count log names).came
    none w log names = names

-- ---- what it makes of the promise

-- where no call on names was sent all are its own
abbrev pub NoneNamed : List Deal → Type 0
NoneNamed [] = Unit {0}
NoneNamed (Sent m ∷ ds) = (IsNameDeal (Sent m) → ⊥) × NoneNamed ds
NoneNamed (d ∷ ds) = NoneNamed ds

pub near_is_own : (w : Word) (file : ℕ) (v : List ℕ) (log : List Deal) → AreNear w file v log → NoneNamed log → AreOwn w file v log
near_is_own w file v [] h none = tt
near_is_own w file v (Took m ∷ log) h none = near_is_own w file v log h.1 none
near_is_own w file v (Found z ∷ log) h none = near_is_own w file v log h.1 none
near_is_own w file v (Sent m ∷ log) h none = (elim h.0 [ inl own ↦ own | inr name ↦ absurd (none.0 name) ], near_is_own w file v log h.1 none.1)

-- no open stores anything, and no close reads
pub open_stores : (file : ℕ) (v : List ℕ) (log : List Deal) → AreNear words.Open file v log → (length (named_in log) ≡ 0) × (whole_in log ≡ 0)
open_stores file v [] h = (refl, refl)
open_stores file v (Took m ∷ log) h = let l = open_stores file v log h.1 in let a = l.0 in let b = l.1 in (omega (arith, a), omega (arith, b))
open_stores file v (Found z ∷ log) h = let l = open_stores file v log h.1 in let a = l.0 in let b = l.1 in (omega (arith, a), omega (arith, b))
open_stores file v (Sent m ∷ log) h = let l = open_stores file v log h.1 in elim h.0 [
  | inl own ↦ by m own l.0 l.1
  | inr name ↦
      let n = one_none (Sent m) name in
      let a = l.0 in
      let b = l.1 in
      let c = ap length (ap (λ k. k ++ named_in log) (sym (append-nil (named_by (Sent m))) ∙ n.named)) in
      let d = n.whole in
      (omega (arith, a, c), omega (arith, b, d))
]
  where
    by : (m : Message) → IsFetchCall file m → length (named_in log) ≡ 0 → whole_in log ≡ 0 → (length (named_in (Sent m ∷ log)) ≡ 0) × (whole_in (Sent m ∷ log) ≡ 0)
    by (message.Call xid (body.Lb (lb.GetLease z))) own a b = (omega (arith, a), omega (arith, b))
    by (message.Call xid (body.Lb (lb.GetHash z))) own a b = (omega (arith, a), omega (arith, b))
    by (message.Call xid (body.Nfs (nfs.Read z))) own a b = (omega (arith, a), omega (arith, b))
    by m own a b = absurd own

pub close_asks : (file : ℕ) (v : List ℕ) (log : List Deal) → AreNear words.Close file v log → asked_in log ≡ 0
close_asks file v [] h = refl
close_asks file v (Took m ∷ log) h = let l = close_asks file v log h.1 in omega (arith, l)
close_asks file v (Found z ∷ log) h = let l = close_asks file v log h.1 in omega (arith, l)
close_asks file v (Sent m ∷ log) h = let l = close_asks file v log h.1 in elim h.0 [
  | inl own ↦ let e = by m own in omega (arith, l, e)
  | inr name ↦ let e = (one_none (Sent m) name).asked in omega (arith, l, e)
]
  where
    by : (m : Message) → IsStoreCall file v m → read_number m ≡ 0
    by (message.Call xid (body.Lb (lb.MkTmpFile z))) own = refl
    by (message.Call xid (body.Lb (lb.CondWrite z))) own = refl
    by (message.Call xid (body.Lb (lb.TmpWrite z))) own = refl
    by (message.Call xid (body.Lb (lb.CommitTmp z))) own = refl
    by m own = absurd own

-- a rewrite does neither, and sends no bytes
pub renew_counts : (file : ℕ) (v : List ℕ) (log : List Deal) → AreNear words.Rewrite file v log → (begins_in log ≡ 0) × (length (named_in log) ≡ 0) × (whole_in log ≡ 0) × (asked_in log ≡ 0) × (bytes_in log ≡ 0)
renew_counts file v [] h = (refl, refl, refl, refl, refl)
renew_counts file v (Took m ∷ log) h = let l = renew_counts file v log h.1 in let a = l.0 in let b = l.1 in let c = l.2 in let d = l.3 in let e = l.4 in (omega (arith, a), omega (arith, b), omega (arith, c), omega (arith, d), omega (arith, e))
renew_counts file v (Found z ∷ log) h = let l = renew_counts file v log h.1 in let a = l.0 in let b = l.1 in let c = l.2 in let d = l.3 in let e = l.4 in (omega (arith, a), omega (arith, b), omega (arith, c), omega (arith, d), omega (arith, e))
renew_counts file v (Sent m ∷ log) h = (let l = renew_counts file v log h.1 in elim h.0 [
  | inl own ↦ by m own l.0 l.1 l.2 l.3 l.4
  | inr name ↦
      let n = one_none (Sent m) name in
      let a = l.0 in
      let b = l.1 in
      let c = l.2 in
      let d = l.3 in
      let e = l.4 in
      let p = n.begins in
      let q = ap length (ap (λ k. k ++ named_in log) (sym (append-nil (named_by (Sent m))) ∙ n.named)) in
      let r = n.whole in
      let t = n.asked in
      let u = n.bytes in
      (omega (arith, a, p), omega (arith, b, q), omega (arith, c, r), omega (arith, d, t), omega (arith, e, u))
])
  where
    by : (m : Message) → IsVersionCall file m → begins_in log ≡ 0 → length (named_in log) ≡ 0 → whole_in log ≡ 0 → asked_in log ≡ 0 → bytes_in log ≡ 0 → (let d = Sent m ∷ log in (begins_in d ≡ 0) × (length (named_in d) ≡ 0) × (whole_in d ≡ 0) × (asked_in d ≡ 0) × (bytes_in d ≡ 0))
    by (message.Call xid (body.Lb (lb.GetLease z))) own a b c d e = (omega (arith, a), omega (arith, b), omega (arith, c), omega (arith, d), omega (arith, e))
    by m own a b c d e = absurd own

-- and neither begins an attempt but an open
pub none_begin : (past : List Moment) (o : Op) → (o.word ≡ words.Open → ⊥) → OpOwn (deals_of o past) o.word o.file o.value o.outcome → begins_in (deals_of o past) ≡ 0
none_begin past o other h = by o.word refl h
  where
    close : (log : List Deal) → AreNear words.Close o.file o.value log → begins_in log ≡ 0
    close [] h = refl
    close (Took m ∷ log) h = let l = close log h.1 in omega (arith, l)
    close (Found z ∷ log) h = let l = close log h.1 in omega (arith, l)
    close (Sent m ∷ log) h = let l = close log h.1 in elim h.0 [
      | inl own ↦ let e = one m own in omega (arith, l, e)
      | inr name ↦ let e = (one_none (Sent m) name).begins in omega (arith, l, e)
    ]
      where
        one : (m : Message) → IsStoreCall o.file o.value m → first_number m ≡ 0
        one (message.Call xid (body.Lb (lb.MkTmpFile z))) own = refl
        one (message.Call xid (body.Lb (lb.CondWrite z))) own = refl
        one (message.Call xid (body.Lb (lb.TmpWrite z))) own = refl
        one (message.Call xid (body.Lb (lb.CommitTmp z))) own = refl
        one m own = absurd own

    by : (w : Word) → o.word ≡ w → OpOwn (deals_of o past) w o.file o.value o.outcome → begins_in (deals_of o past) ≡ 0
    by words.Open e h = absurd (other e)
    by words.Close e h = close (deals_of o past) h.0
    by words.Rewrite e h = (renew_counts o.file o.value (deals_of o past) h.0).0
    by w e h = (names_count (deals_of o past) h.1).begins

pub own_counts : (past : List Moment) (o : Op) → OpOwn (deals_of o past) o.word o.file o.value o.outcome → IsSum o.traffic (deals_of o past) → CountsOwn o.word o.traffic
own_counts past o h s = by o.word h
  where
    by : (w : Word) → OpOwn (deals_of o past) w o.file o.value o.outcome → CountsOwn w o.traffic
    by words.Open h = let n = open_stores o.file o.value (deals_of o past) h.0 in (s.cond ∙ n.0, s.tmp ∙ n.1)
    by words.Close h = s.read ∙ close_asks o.file o.value (deals_of o past) h.0
    by words.Rewrite h =
        let n = renew_counts o.file o.value (deals_of o past) h.0 in
        let came = h.1 in
        let a = n.1 in
        let b = n.2 in
        let c = n.3 in
        let e = n.4 in
        let p = s.cond in
        let q = s.tmp in
        let r = s.read in
        let d = s.data_is in
        traffic_is o.traffic no_traffic (omega (arith, p, a)) (omega (arith, q, b)) (omega (arith, r, c)) (omega (arith, d, e, came))
    by w h =
        let c = names_count (deals_of o past) h.1 in
        let n = ap length c.named in
        let b = c.bytes in
        let p = s.cond in
        let q = s.tmp in
        let r = s.read in
        let d = s.data_is in
        let t = c.whole in
        let u = c.asked in
        let v = c.came in
        traffic_is o.traffic no_traffic (omega (arith, p, n)) (omega (arith, q, t)) (omega (arith, r, u)) (omega (arith, d, b, v))

-- A run carries what closes name and send: the first chunks of their values, in order, the bytes of those that the server doesn't know, one MKTMPFILE, and one
-- COMMITTMP once all are named.
use Rattle.std.proofs.Common.{◌⊎◌, inl, inr, ◌≡◌, ℕ, zero, suc, ◌+◌, ◌-◌, ◌<◌, ◌≤◌, List, [], ◌∷◌, ◌++◌, length, Option, Some, None, true, refl, sym, ap, ◌∙◌, subst, arith, append-nil, map, take}
use Rattle.hash_calls.specs.declared.message.Lb.TheVariants as lb
use Rattle.wire.specs.declared.message.Body.TheVariants as body
use Rattle.wire.specs.declared.message.Message.TheVariants as message
use Rattle.file_close.specs.Closing.{is_stored}
use Rattle.client_state.specs.State as client
use Rattle.client_state.specs.declared.task.Stage.TheVariants as stage
use Rattle.client_state.specs.declared.task.Way.TheVariants as way
use Rattle.register_model.specs.declared.op.Outcome.{Outcome as History}
use Rattle.register_model.specs.declared.op.Word.TheVariants as words
use Rattle.trace_replay.specs.Traffic.{named_in, unknown_in, made_in, commits_in, traffic_of, bytes_number, bytes_in, NamesChunks}
use Rattle.trace_replay.specs.Owing.{Owing, owes_nothing, asked_at, without_asked, owing_with, owing_from, PaysAll}
use Rattle.kept_promise.proofs.Common.{Deal.Sent, nat_tests, slice_get, chunks_of, Chunk, Body, Message, cond_call, commit_call, temp_call, store_of, without_store, names_from, names_all, calls_most, idle, took, Names, ClientStep, Ended, Stage, Upload, Task, Op, Word, TakenCall, op_after, Moment, Deal, Deal.Took, deals_of, deals_with, Book, SentCommit, stored_traffic}
use Rattle.trace_replay.specs.Trail.{sent_of, taken_of}
use Rattle.kept_promise.proofs.Lists.{some_is, nothing_there}
use Rattle.kept_promise.proofs.Messages.{Job, stage_word}
use Rattle.kept_promise.proofs.CountedRuns.{no_fault_after}
use Rattle.kept_promise.proofs.Counted.{traffic_is}
use Rattle.kept_promise.proofs.VersionRuns.{close_not_opened, word_after}
use Rattle.kept_promise.proofs.StepCases.{IsFault, IsUnknown, bytes_came, names_keep, StoreIn, open_and_close, renew_and_close, OfCloses, of_closes, took_cases, IsOfFile}
use Rattle.kept_promise.proofs.Paying.{owing_join, pays_join, pays_end, pays_whole, asked_of, asked_more, asked_whole, asked_without, asked_found, owing_at, plain_pays, whole_pays, owing_plain}
use Rattle.kept_promise.proofs.Logs.{Going, Ending}
use Rattle.kept_promise.proofs.LogSums.{sent_more, named_join, made_join, commits_join, came_in, came_join, none_came, asked_in, counts_log, commit_log, whole_number, whole_in}
use Rattle.kept_promise.proofs.Steps.{goal_not_close}
use Rattle.kept_promise.proofs.WalkRuns.{took_file}
use Rattle.kept_promise.proofs.NamesLog.{NamesOnly, names_count, names_pay}
use Rattle.kept_promise.proofs.LogEvents.{Answering, Answered, found_in, LogLaws, value_stays, by_getting}

-- ---- what is carried

-- so many chunks of the value were named, and those sent that the server doesn't know; and so many temporary files were asked for, and commits
pub record HasNamed (v : List ℕ) (log : List Deal) (count temps ends : ℕ) (cs : List Chunk) : Type 0 where
  pub named : named_in log ≡ take count cs
  pub paid : PaysAll v owes_nothing log
  pub made : made_in log ≡ temps
  pub commits : commits_in log ≡ ends
  pub came : came_in log ≡ 0

-- these CONDWRITEs are under way
abbrev Asked : List Deal → List (ℕ × Chunk) → Type 0
Asked log asked = (owing_from owes_nothing log).asked ≡ asked

abbrev pub ClosesBy : Going
ClosesBy log file v (stage.Making x temp) = HasNamed v log 0 1 0 (chunks_of v) × Asked log []
ClosesBy log file v (stage.Storing st) = HasNamed v log st.named 1 0 st.chunks × (st.chunks ≡ chunks_of v) × Asked log (asked_of st.chunks st.under)
ClosesBy log file v (stage.Committing x) = HasNamed v log (length (chunks_of v)) 1 1 (chunks_of v)
ClosesBy log file v (stage.Walking x w) = NamesOnly log
ClosesBy log file v st = Unit {0}

pub record HasClosed (v : List ℕ) (log : List Deal) : Type 0 where
  pub count : ℕ
  pub made : ℕ
  pub commits : ℕ
  pub named : HasNamed v log count made commits (chunks_of v)
  pub few : (made ≤ 1) × (commits ≤ 1)
  pub all : 0 < commits → count ≡ length (chunks_of v)

abbrev pub CloseNamed : Ending
CloseNamed log words.Close file v u = HasClosed v log
CloseNamed log w file v u = Unit {0}

-- a close at any stage has named some
any_named : (log : List Deal) (file : ℕ) (v : List ℕ) (st : Stage) → ClosesBy log file v st → stage_word st ≡ words.Close → HasClosed v log
any_named log file v (stage.Making x temp) h w = record { count = 0; made = 1; commits = 0; named = h.0; few = (omega arith, omega arith); all = λ lt. absurd (omega (arith, lt)) }
any_named log file v (stage.Storing st) h w = record { count = st.named; made = 1; commits = 0; named = subst (HasNamed v log st.named 1 0) h.1 h.0; few = (omega arith, omega arith); all = λ lt. absurd (omega (arith, lt)) }
any_named log file v (stage.Committing x) h w = record { count = length (chunks_of v); made = 1; commits = 1; named = h; few = (omega arith, omega arith); all = λ lt. refl }
any_named log file v (stage.Walking y z) h w = absurd (goal_not_close z.goal w)
any_named log file v st h w = absurd cc

-- ---- an answer, and what was sent

went : (v : List ℕ) (log : List Deal) (x : ℕ) (b : Body) (ms : List Message) (cs : List Chunk) (n k made c d : ℕ) → HasNamed v log n made c cs → PaysAll v (owing_from owes_nothing log) (Took (message.Answer x b) ∷ map Sent ms) → bytes_came x b ≡ 0 → named_in log ++ named_in (map Sent ms) ≡ take k cs → made_in (map Sent ms) ≡ 0 → commits_in (map Sent ms) ≡ d
    → HasNamed v (log ++ Took (message.Answer x b) ∷ map Sent ms) k made (c + d) cs
went v log x b ms cs n k made c d h pays came named no_made commits =
    let t : Deal = Took (message.Answer x b) in
    let m = made_join log (t ∷ map Sent ms) in
    let z = commits_join log (t ∷ map Sent ms) in
    let a = came_join log (t ∷ map Sent ms) in
    let r = none_came ms in
    let g = h.made in
    let i = h.commits in
    let j = h.came in
    record {
      named = named_join log (t ∷ map Sent ms) ∙ named;
      paid = pays_join v owes_nothing log (t ∷ map Sent ms) h.paid pays;
      made = omega (arith, m, g, no_made);
      commits = omega (arith, z, i, commits);
      came = omega (arith, a, r, j, came);
    }

-- ---- CONDWRITEs go out

-- a chunk more
pub take_more : {A : Type 0} (xs : List A) (n : ℕ) (x : A) → slice_get xs n ≡ Some x → take (suc n) xs ≡ take n xs ++ x ∷ []
take_more [] n x e = nothing_there x e
take_more (y ∷ xs) zero x e = ap (λ z. z ∷ []) (some_is y x e)
take_more (y ∷ xs) (suc n) x e = ap (λ l. y ∷ l) (take_more xs n x e)

record Naming (v : List ℕ) (log : List Deal) (cs : List Chunk) (start : Owing) (n : Names) : Type 0 where
  chunks : n.store.chunks ≡ cs
  named : named_in log ++ named_in (map Sent n.send) ≡ take n.store.named cs
  pays : PaysAll v start (map Sent n.send)
  owes : owing_from start (map Sent n.send) ≡ owing_at (asked_of cs n.store.under)
  made : made_in (map Sent n.send) ≡ 0
  commits : commits_in (map Sent n.send) ≡ 0

joined_one : (a b c : List Chunk) (x : Chunk) → c ≡ a ++ b → c ++ x ∷ [] ≡ a ++ (b ++ x ∷ [])
joined_one a b c x e = ap (λ l. l ++ x ∷ []) e ∙ by a
  where
    by : (a : List Chunk) → (a ++ b) ++ x ∷ [] ≡ a ++ (b ++ x ∷ [])
    by [] = refl
    by (y ∷ a) = ap (λ l. y ∷ l) (by a)

names_go : (lbfs : ℕ) (v : List ℕ) (log : List Deal) (w : Upload) (next : ℕ) → named_in log ≡ take w.named w.chunks → Naming v log w.chunks (owing_at (asked_of w.chunks w.under)) (names_all lbfs w next)
names_go lbfs v log w next h = names_keep lbfs (Naming v log w.chunks (owing_at (asked_of w.chunks w.under))) more (calls_most - length w.under) (names_from w next) (record { chunks = refl; named = append-nil (named_in log) ∙ h; pays = refl; owes = refl; made = refl; commits = refl })
  where
    more : (n : Names) (c : Chunk) → Naming v log w.chunks (owing_at (asked_of w.chunks w.under)) n → slice_get n.store.chunks n.store.named ≡ Some c → Naming v log w.chunks (owing_at (asked_of w.chunks w.under)) (Rattle.kept_promise.proofs.Common.names_next lbfs n (Some c))
    more n c h e =
        let cs : List Chunk = w.chunks in
        let m : Message = cond_call lbfs n.next_xid n.store.temp c in
        let start : Owing = owing_at (asked_of w.chunks w.under) in
        let all : map Sent (n.send ++ m ∷ []) ≡ map Sent n.send ++ Sent m ∷ [] = sent_more n.send m in
        let there : slice_get cs n.store.named ≡ Some c = ap (λ (l : List Chunk). slice_get l n.store.named) (sym h.chunks) ∙ e in
        let two = made_join (map Sent n.send) (Sent m ∷ []) in
        let three = commits_join (map Sent n.send) (Sent m ∷ []) in
        let b = h.made in
        let d = h.commits in
        let q = ap made_in all in
        let r = ap commits_in all in
        record {
          chunks = h.chunks;
          named = ap (λ l. named_in log ++ named_in l) all ∙ ap (λ l. named_in log ++ l) (named_join (map Sent n.send) (Sent m ∷ [])) ∙ sym (joined_one (named_in log) (named_in (map Sent n.send)) (take n.store.named cs) c (sym h.named)) ∙ sym (ap (λ k. take k cs) (let e : n.store.named + 1 ≡ suc n.store.named = omega arith in e) ∙ take_more cs n.store.named c there);
          pays = subst (PaysAll v start) (sym all) (pays_join v start (map Sent n.send) (Sent m ∷ []) h.pays (subst (λ (o : Owing). PaysAll v o (Sent m ∷ [])) (sym h.owes) (tt, tt, refl)));
          owes = ap (owing_from start) all ∙ owing_join start (map Sent n.send) (Sent m ∷ []) ∙ ap (λ (o : Owing). owing_with o (Sent m)) h.owes ∙ ap owing_at (sym (asked_more cs n.store.under n.next_xid n.store.named c there));
          made = omega (arith, two, b, q);
          commits = omega (arith, three, d, r);
        }

-- ---- what a step leaves of a close

abbrev Leaves : (log : List Deal) (x : ℕ) → Body → (v : List ℕ) → Stage → List (ℕ × ℕ) → client.State × ClientStep → Type 0
Leaves log x b v st found r =
    ((file : ℕ) (u : Task) → r.1.ended ≡ None → r.0.task ≡ Some u → IsOfFile u.stage → ClosesBy (log ++ deals_with (message.Answer x b ∷ []) found r.1.send) file v u.stage)
    × (stage_word st ≡ words.Close → IsFault r.1.ended ⊎ HasClosed v (log ++ deals_with (message.Answer x b ∷ []) found r.1.send))

none_open : (log : List Deal) (file : ℕ) (v : List ℕ) (t : Stage) → IsOfFile t → stage_word t ≡ words.Open → ClosesBy log file v t
none_open log file v (stage.Making y temp) of e = absurd cc
none_open log file v (stage.Storing w) of e = absurd cc
none_open log file v (stage.Committing y) of e = absurd cc
none_open log file v (stage.Walking y z) of e = absurd of
none_open log file v t of e = tt

-- a store goes on by an answer
abbrev Ready : (v : List ℕ) → List Deal → (xid : ℕ) → Upload → Type 0
Ready v log x w = HasNamed v log w.named 1 0 w.chunks × (w.chunks ≡ chunks_of v) × (without_asked (owing_from owes_nothing log).asked x ≡ asked_of w.chunks w.under)

ready : (log : List Deal) (file x : ℕ) (v content : List ℕ) (st : Stage) (w : Upload) → ClosesBy log file v st → (stage_word st ≡ words.Close → v ≡ content) → StoreIn st x content w → Ready v log x w
ready log file x v content st w h value (inl (y, temp, is, e)) =
    let made : HasNamed v log 0 1 0 (chunks_of v) × Asked log [] = subst (ClosesBy log file v) is h in
    subst (Ready v log x) (sym e) (subst (λ (c : List ℕ). Ready v log x (store_of temp c)) (value (ap stage_word is)) (made.0, refl, ap (λ l. without_asked l x) made.1))
ready log file x v content st w h value (inr (old, is, e)) =
    let had : HasNamed v log old.named 1 0 old.chunks × (old.chunks ≡ chunks_of v) × Asked log (asked_of old.chunks old.under) = subst (ClosesBy log file v) is h in
    subst (Ready v log x) (sym e) (had.0, had.1, ap (λ l. without_asked l x) had.2 ∙ asked_without old.chunks old.under x)

-- what goes out then owes nothing
ready_pays : (v : List ℕ) (log : List Deal) (x : ℕ) (b : Body) (w : Upload) (ms : List Message) → Ready v log x w → (IsUnknown b → ⊥) → PaysAll v (owing_at (asked_of w.chunks w.under)) (map Sent ms) → PaysAll v (owing_from owes_nothing log) (Took (message.Answer x b) ∷ map Sent ms)
ready_pays v log x b w ms r known pays = plain_pays v (owing_from owes_nothing log) x b ms (pays_end v owes_nothing log r.0.paid) known (subst (λ l. PaysAll v (owing_at l) (map Sent ms)) (sym r.2) pays)

-- and is under way
ready_asked : (v : List ℕ) (log : List Deal) (x : ℕ) (b : Body) (w : Upload) (ms : List Message) (asked : List (ℕ × Chunk)) → Ready v log x w → (IsUnknown b → ⊥) → owing_from (owing_at (asked_of w.chunks w.under)) (map Sent ms) ≡ owing_at asked → Asked (log ++ Took (message.Answer x b) ∷ map Sent ms) asked
ready_asked v log x b w ms asked r known owes =
    ap (λ (o : Owing). o.asked) (owing_join owes_nothing log (Took (message.Answer x b) ∷ map Sent ms))
    ∙ ap (λ (o : Owing). (owing_from o (map Sent ms)).asked) (owing_plain (owing_from owes_nothing log) x b known ∙ ap owing_at r.2)
    ∙ ap (λ (o : Owing). o.asked) owes

leaves_cases : (log : List Deal) (s : client.State) (file : ℕ) (v : List ℕ) (st : Stage) (x : ℕ) (b : Body) → ClosesBy log file v st → (stage_word st ≡ words.Close → v ≡ client.local_bytes s.opened file) → OfCloses (Leaves log x b v st) s file st x b
leaves_cases log s file v st x b h value = record {
  opens = λ open_ found r goes. (λ f u running is of. none_open (log ++ deals_with (message.Answer x b ∷ []) found r.1.send) f v u.stage of (goes u running is), λ close. absurd (open_and_close (stage_word st) open_ close));
  renews = λ renew r e came. ((λ f u running is of. nothing_there e.ended (sym running ∙ e.ended_is)), λ close. absurd (renew_and_close (stage_word st) renew close));
  ends = λ close r e came. (
    λ f u running is of. nothing_there e.ended (sym running ∙ e.ended_is),
    λ close. elim came [
      | inl fault ↦ inl fault
      | inr none ↦ elim e.known [
        | inl fault ↦ inl fault
        | inr known ↦
            let n = any_named log file v st h close in
            inr (subst (λ (ms : List Message). HasClosed v (log ++ deals_with (message.Answer x b ∷ []) [] ms)) (sym e.sent) (record {
              count = n.count;
              made = n.made;
              commits = n.commits + 0;
              named = went v log x b [] (chunks_of v) n.count n.count n.made n.commits 0 n.named (plain_pays v (owing_from owes_nothing log) x b [] (pays_end v owes_nothing log n.named.paid) known.0 refl) none (append-nil (named_in log) ∙ n.named.named) refl refl;
              few = (n.few.0, let le = n.few.1 in omega (arith, le));
              all = λ lt. n.all (omega (arith, lt));
            }))
      ]
    ],
  );
  names = λ w at known none is.
      let r = ready log file x v (client.local_bytes s.opened file) st w h value at in
      let go = names_go s.lbfs v log w s.next_xid r.0.named in
      let n = names_all s.lbfs w s.next_xid in
      let log2 : List Deal = log ++ Took (message.Answer x b) ∷ map Sent n.send in
      let now : HasNamed v log2 n.store.named 1 0 w.chunks = went v log x b n.send w.chunks w.named n.store.named 1 0 0 r.0 (ready_pays v log x b w n.send r known go.pays) none go.named go.made go.commits in
      let asked : Asked log2 (asked_of w.chunks n.store.under) = ready_asked v log x b w n.send (asked_of w.chunks n.store.under) r known go.owes in (
        λ f u running task of. subst (λ (z : Task). ClosesBy log2 f v z.stage) (some_is _ u task) (subst (HasNamed v log2 n.store.named 1 0) (sym go.chunks) now, go.chunks ∙ r.1, subst (λ (l : List Chunk). Asked log2 (asked_of l n.store.under)) (sym go.chunks) asked),
        λ close. inr (record { count = n.store.named; made = 1; commits = 0; named = subst (HasNamed v log2 n.store.named 1 0) r.1 now; few = (omega arith, omega arith); all = λ lt. absurd (omega (arith, lt)) }),
      );
  commits = λ w at known none is.
      let r = ready log file x v (client.local_bytes s.opened file) st w h value at in
      let go = names_go s.lbfs v log w s.next_xid r.0.named in
      let n = names_all s.lbfs w s.next_xid in
      let m : Message = commit_call s.lbfs n.next_xid n.store.temp file (length (client.local_bytes s.opened file)) in
      let start : Owing = owing_at (asked_of w.chunks w.under) in
      let all = sent_more n.send m in
      let two = made_join (map Sent n.send) (Sent m ∷ []) in
      let three = commits_join (map Sent n.send) (Sent m ∷ []) in
      let c = go.made in
      let d = go.commits in
      let q = ap made_in all in
      let t = ap commits_in all in
      let log2 : List Deal = log ++ Took (message.Answer x b) ∷ map Sent (n.send ++ m ∷ []) in
      let count : n.store.named ≡ length (chunks_of v) = all_named n.store is ∙ ap length (go.chunks ∙ r.1) in
      let pays : PaysAll v start (map Sent (n.send ++ m ∷ [])) = subst (PaysAll v start) (sym all) (pays_join v start (map Sent n.send) (Sent m ∷ []) go.pays (subst (λ (o : Owing). PaysAll v o (Sent m ∷ [])) (sym go.owes) (tt, tt, refl))) in
      let now : HasNamed v log2 n.store.named 1 1 w.chunks = went v log x b (n.send ++ m ∷ []) w.chunks w.named n.store.named 1 0 1 r.0 (ready_pays v log x b w (n.send ++ m ∷ []) r known pays) none (ap (λ l. named_in log ++ named_in l) all ∙ ap (λ l. named_in log ++ l) (named_join (map Sent n.send) (Sent m ∷ []) ∙ append-nil (named_in (map Sent n.send))) ∙ go.named) (omega (arith, two, c, q)) (omega (arith, three, d, t)) in
      let full : HasNamed v log2 (length (chunks_of v)) 1 1 (chunks_of v) = subst (λ k. HasNamed v log2 k 1 1 (chunks_of v)) count (subst (HasNamed v log2 n.store.named 1 1) r.1 now) in (
        λ f u running task of. subst (λ (z : Task). ClosesBy log2 f v z.stage) (some_is _ u task) full,
        λ close. inr (record { count = length (chunks_of v); made = 1; commits = 1; named = full; few = (omega arith, omega arith); all = λ lt. refl }),
      );
  whole = λ old c k at unknown none found name chunk.
      let had : HasNamed v log old.named 1 0 old.chunks × (old.chunks ≡ chunks_of v) × Asked log (asked_of old.chunks old.under) = subst (ClosesBy log file v) at h in
      let owing : Owing = owing_from owes_nothing log in
      let m : Message = temp_call s.lbfs s.next_xid old.temp (client.local_bytes s.opened file) k in
      let log2 : List Deal = log ++ Took (message.Answer x b) ∷ Sent m ∷ [] in
      let mine : asked_at owing.asked x ≡ Some k = ap (λ l. asked_at l x) had.2 ∙ asked_found old.chunks old.under x c k found name chunk in
      let pays : PaysAll v owing (Took (message.Answer x b) ∷ Sent m ∷ []) = subst (λ z. PaysAll v owing (Took (message.Answer x b) ∷ Sent (temp_call s.lbfs s.next_xid old.temp z k) ∷ [])) (value (ap stage_word at)) (whole_pays v owing x b s.lbfs s.next_xid old.temp k (pays_end v owes_nothing log had.0.paid) unknown mine) in
      let now : HasNamed v log2 old.named 1 0 old.chunks = went v log x b (m ∷ []) old.chunks old.named old.named 1 0 0 had.0 pays none (append-nil (named_in log) ∙ had.0.named) refl refl in
      let asked : Asked log2 (asked_of old.chunks (without_store old.under x ++ record { xid = s.next_xid; index = c.index; way = way.Whole } ∷ [])) =
      ap (λ (o : Owing). o.asked) (owing_join owes_nothing log (Took (message.Answer x b) ∷ Sent m ∷ []))
      ∙ ap (λ l. without_asked l x) had.2
      ∙ asked_without old.chunks old.under x
      ∙ sym (asked_whole old.chunks (without_store old.under x) s.next_xid c.index) in (
        λ f y running is of. subst (λ (t : Task). ClosesBy log2 f v t.stage) (some_is _ y is) (now, had.1, asked),
        λ close. inr (record { count = old.named; made = 1; commits = 0; named = subst (HasNamed v log2 old.named 1 0) had.1 now; few = (omega arith, omega arith); all = λ lt. absurd (omega (arith, lt)) }),
      );
}
  where
    all_named : (w : Upload) → is_stored w ≡ true → w.named ≡ length w.chunks
    all_named w is = grind (arith, nat_tests, is)

closes_heard : (book more : Book) (taken : List TakenCall) (j : Job) (o : Op) (p : ℕ) (s : client.State) (x : ℕ) (b : Body) → Answering book more taken j o p s x b (took (idle s) (client.calls_of s) j.file j.stage x b) → (log : List Deal) → ClosesBy log o.file o.value j.stage
    → Answered ClosesBy CloseNamed book taken o log x b (found_in s j.file j.stage x b) (took (idle s) (client.calls_of s) j.file j.stage x b)
closes_heard book more taken j o p s x b a log h = record {
  stage = λ u running is. subst (λ v. ClosesBy log2 (op_after o r.0 taken (book.steps + 1) r.1).file v u.stage) (sym (running_value r.1.ended running)) (left.0 (op_after o r.0 taken (book.steps + 1) r.1).file u running is (took_file (idle s) (client.calls_of s) j.file j.stage x b known u is));
  each = by (op_after o r.0 taken (book.steps + 1) r.1).word refl;
}
  where
    r : client.State × ClientStep
    r = took (idle s) (client.calls_of s) j.file j.stage x b

    log2 : List Deal
    log2 = log ++ deals_with (message.Answer x b ∷ []) (found_in s j.file j.stage x b) (took (idle s) (client.calls_of s) j.file j.stage x b).1.send

    known : IsOfFile j.stage
    known = a.known

    left : Leaves log x b o.value j.stage (found_in s j.file j.stage x b) (took (idle s) (client.calls_of s) j.file j.stage x b)
    left = took_cases (Leaves log x b o.value j.stage) (idle s) (client.calls_of s) j.file j.stage x b known (λ found r g until lease is z. z) (of_closes (Leaves log x b o.value j.stage) (idle s) (client.calls_of s) j.file j.stage x b known (leaves_cases log (idle s) j.file o.value j.stage x b (subst (λ f. ClosesBy log f o.value j.stage) a.taking.file h) a.value))

    running_value : (e : Option Ended) → e ≡ None → (op_after o r.0 taken (book.steps + 1) (record r.1 { ended = e })).value ≡ o.value
    running_value None is = refl
    running_value (Some e) is = nothing_there e (sym is)

    by : (w : Word) → (op_after o r.0 taken (book.steps + 1) r.1).word ≡ w → CloseNamed log2 w (op_after o r.0 taken (book.steps + 1) r.1).file (op_after o r.0 taken (book.steps + 1) r.1).value (op_after o r.0 taken (book.steps + 1) r.1).outcome
    by words.Close word =
        let now : Op = op_after o r.0 taken (book.steps + 1) r.1 in
        let value : now.value ≡ o.value = value_stays o r.0 taken (book.steps + 1) r.1 (λ len digest z. close_not_opened more now len digest a.right word z) in
        elim (left.1 (sym a.taking.word ∙ sym (word_after o r.0 taken (book.steps + 1) r.1) ∙ word)) [
          | inl fault ↦ absurd (no_fault_after more o r.0 taken (book.steps + 1) r.1 a.right fault)
          | inr n ↦ subst (λ v. HasClosed v log2) (sym value) n
        ]
    by w word = tt

pub closes_laws : (all : List Moment) → LogLaws all ClosesBy CloseNamed
closes_laws all = record {
  walks = λ log file v x w h. h;
  walked = λ log file v x w h. h;
  none = λ w file v u un same log names. none w file v u log names;
  now = λ log file v len digest names. tt;
  asks = λ log names lbfs x file v. tt;
  opens = λ log names lbfs x file v. tt;
  renews = λ log names lbfs x file v. tt;
  closes = λ lbfs x temp file v. (record { named = refl; paid = (tt, tt, refl); made = refl; commits = refl; came = refl }, refl);
  moves = λ log file other v w u gets. by_getting (λ z. CloseNamed log z file v u → CloseNamed log z other v u) (λ h. h) (λ h. h) (λ h. h) w gets;
  other = λ log file v st u of p un same. other log file v st u of p;
  heard = λ book more taken j o p s x b all_is a log h. closes_heard book more taken j o p s x b a log h;
}
  where
    none : (w : Word) (file : ℕ) (v : List ℕ) (u : History) (log : List Deal) → NamesOnly log → CloseNamed log w file v u
    none words.Close file v u log names = let c = names_count log names in record { count = 0; made = 0; commits = 0; named = record { named = c.named; paid = names_pay v log names; made = c.made; commits = c.commits; came = c.came }; few = (omega arith, omega arith); all = λ lt. absurd (omega (arith, lt)) }
    none w file v u log names = tt

    other : (log : List Deal) (file : ℕ) (v : List ℕ) (st : Stage) (u : History) → IsOfFile st → ClosesBy log file v st → CloseNamed log (stage_word st) file v u
    other log file v (stage.Making x temp) u of p = any_named log file v (stage.Making x temp) p refl
    other log file v (stage.Storing w) u of p = any_named log file v (stage.Storing w) p refl
    other log file v (stage.Committing x) u of p = any_named log file v (stage.Committing x) p refl
    other log file v (stage.Walking x w) u of p = absurd of
    other log file v st u of p = tt

-- ---- what it makes of the promise

pub names_chunks : (past : List Moment) (o : Op) → o.word ≡ words.Close → CloseNamed (deals_of o past) o.word o.file o.value o.outcome → NamesChunks o.value (deals_of o past)
names_chunks past o close h =
    let n = subst (λ w. CloseNamed (deals_of o past) w o.file o.value o.outcome) close h in
    let m = n.named.made in
    let c = n.named.commits in
    let le = n.few.0 in
    let lf = n.few.1 in
    record { count = n.count; named = n.named.named; makes = omega (arith, m, le); commits = omega (arith, c, lf) }

pub pays_all : (past : List Moment) (o : Op) → o.word ≡ words.Close → CloseNamed (deals_of o past) o.word o.file o.value o.outcome → PaysAll o.value owes_nothing (deals_of o past)
pays_all past o close h = (subst (λ w. CloseNamed (deals_of o past) w o.file o.value o.outcome) close h).named.paid

-- so it sent as many whole as answers told it aren't known
all_paid : (v : List ℕ) (log : List Deal) → HasClosed v log → whole_in log ≡ unknown_in log
all_paid v log n = let w = pays_whole v owes_nothing log n.named.paid in omega (arith, w)

take_all : {A : Type 0} (xs : List A) → take (length xs) xs ≡ xs
take_all [] = refl
take_all (x ∷ xs) = ap (λ l. x ∷ l) (take_all xs)

-- one that sent its COMMITTMP named all chunks of its value
pub stores_all : (past : List Moment) (o : Op) → o.word ≡ words.Close → asked_in (deals_of o past) ≡ 0 → CloseNamed (deals_of o past) o.word o.file o.value o.outcome → o.traffic ≡ traffic_of o (sent_of past) (taken_of past) → SentCommit o (sent_of past) → o.traffic ≡ stored_traffic o.value (deals_of o past)
stores_all past o close asked h counted sent =
    let n = subst (λ w. CloseNamed (deals_of o past) w o.file o.value o.outcome) close h in
    let s = counts_log o past counted in
    let lt = commit_log o past sent in
    let c = n.named.commits in
    let count : n.count ≡ length (chunks_of o.value) = n.all (omega (arith, lt, c)) in
    let named : named_in (deals_of o past) ≡ chunks_of o.value = n.named.named ∙ ap (λ k. take k (chunks_of o.value)) count ∙ take_all (chunks_of o.value) in
    let d = s.data_is in
    let e = n.named.came in
    let r = s.read in
    traffic_is o.traffic (stored_traffic o.value (deals_of o past)) (s.cond ∙ ap length named) (s.tmp ∙ all_paid o.value (deals_of o past) n) (omega (arith, r, asked)) (omega (arith, d, e))

-- where no TMPWRITE was sent, no bytes were
pub none_sent : (log : List Deal) → whole_in log ≡ 0 → bytes_in log ≡ 0
none_sent [] none = refl
none_sent (d ∷ log) none = let h = none_sent log (omega (arith, none)) in let z = one d (omega (arith, none)) in omega (arith, h, z)
  where
    one : (d : Deal) → whole_number d ≡ 0 → bytes_number d ≡ 0
    one (Sent (message.Call xid (body.Lb (lb.TmpWrite a)))) none = absurd (omega (arith, none))
    one d none = refl

-- and one whose chunks the server all knew sent no byte of them
pub saves_all : (past : List Moment) (o : Op) → o.word ≡ words.Close → CloseNamed (deals_of o past) o.word o.file o.value o.outcome → o.traffic ≡ traffic_of o (sent_of past) (taken_of past) → unknown_in (deals_of o past) ≡ 0 → (o.traffic.tmp ≡ 0) × (o.traffic.«data» ≡ 0)
saves_all past o close h counted known =
    let n = subst (λ w. CloseNamed (deals_of o past) w o.file o.value o.outcome) close h in
    let s = counts_log o past counted in
    let w = all_paid o.value (deals_of o past) n in
    let t = s.tmp in
    let d = s.data_is in
    let e = n.named.came in
    let b = none_sent (deals_of o past) (omega (arith, w, known)) in
    (omega (arith, t, w, known), omega (arith, d, e, b))

-- A run carries what opens read: in each attempt each chunk that was looked up was given by the index, or a READ went out for it, in order; and one that
-- got its content reached all chunks by its last attempt.
use Rattle.std.proofs.Common.{◌⊎◌, inl, inr, ◌≡◌, ℕ, ◌+◌, ◌≤◌, List, [], ◌∷◌, ◌++◌, length, Option, Some, None, Bool, true, false, refl, sym, ap, ◌∙◌, subst, arith, length-append, map}
use Rattle.hash_calls.specs.declared.message.Lb.TheVariants as lb
use Rattle.nfs3_calls.specs.declared.message.Nfs.TheVariants as nfs
use Rattle.wire.specs.declared.message.Body.TheVariants as body
use Rattle.wire.specs.declared.message.Message.TheVariants as message
use Rattle.client_state.specs.State as client
use Rattle.client_state.specs.declared.step.Outcome.TheVariants as outcome
use Rattle.client_state.specs.declared.task.Stage.TheVariants as stage
use Rattle.register_model.specs.declared.op.Outcome.{Outcome as History}
use Rattle.register_model.specs.declared.op.Outcome.TheVariants as told
use Rattle.register_model.specs.declared.op.Word.TheVariants as words
use Rattle.trace_replay.specs.Fetches.{Fetched, no_fetch, fetch_if, fetch_with, fetch_from, last_fetch, over_from, lengths_of, AllReach, EachReaches, ReachesAll, GotBy, read_traffic}
use Rattle.kept_promise.proofs.Common.{unwrap_or, Deal.Sent, Deal.Found, nat_tests, ◌==◌, slice_get, slice_set, Chunk, Done, Hashes, Body, Message, Pending, lease_call, hash_call, with_hashes, with_pairs, is_none, without_read, fault_in, idle, took, ClientStep, Ended, Fetch, Stage, Task, Op, Word, TakenCall, op_after, told_of, has_point, point_if, taken_at, no_traffic, Moment, hashed_of, Deal, Deal.Took, deals_with, deals_of, Book, Collides, value_at}
use Rattle.kept_promise.proofs.Lists.{some_is, nothing_there, both_true}
use Rattle.kept_promise.proofs.Messages.{Job, stage_word, IsFetch}
use Rattle.kept_promise.proofs.Rights.{AreLeased, IsOpenedIf, Caused}
use Rattle.kept_promise.proofs.VersionRuns.{opened_by, word_after}
use Rattle.kept_promise.proofs.Counted.{traffic_is}
use Rattle.kept_promise.proofs.Taking.{Taking, IsApart, same_value}
use Rattle.kept_promise.proofs.StepCases.{bytes_came, IsOpenedBy, JustEnds, FetchIn, FetchNow, FetchNow.all_told, FetchNow.one_came, GaveUp, reads_of, given, open_and_close, renew_and_open, OfOpens, of_opens, took_cases, IsOfFile}
use Rattle.kept_promise.proofs.Logs.{Going, Ending}
use Rattle.kept_promise.proofs.LogSums.{came_in, came_join, asked_in, read_number, begins_in, sum_join, IsSum}
use Rattle.kept_promise.proofs.LogEvents.{IsUnopened, Answering, Answered, found_in, LogLaws, file_stays, by_getting}
use Rattle.kept_promise.proofs.Reached.{Reached, OneFetch, IsBare, AreReached, each_reached, told_only, first_told, first_reached, over_took, reached_took, over_join, over_begins, over_lists, chosen_count, under_lens, lens_less, len_is, read_xid, appended, fetch_join, came_one, last_one, reads_ask, goes_onward}
use Rattle.kept_promise.proofs.ClosesLog.{none_sent}
use Rattle.kept_promise.proofs.OwnLog.{OpOwn, open_stores}
use Rattle.kept_promise.proofs.Steps.{goal_not_close}
use Rattle.kept_promise.proofs.NamesLog.{NamesOnly, names_count}

-- ---- what is carried

abbrev pub OpensBy : Going
OpensBy log file v (stage.Asking x) = IsBare log × (last_fetch log ≡ no_fetch) × AllReach (over_from no_fetch log)
OpensBy log file v (stage.Hashing tries x) = (last_fetch log ≡ no_fetch) × OneFetch log
OpensBy log file v (stage.Listing x f) = (last_fetch log ≡ told_only f.chunks) × OneFetch log × (f.asked ≡ 0) × (f.under ≡ [])
OpensBy log file v (stage.Reading f) = Reached (last_fetch log) f.chunks f.asked f.under × OneFetch log
OpensBy log file v (stage.Walking x w) = NamesOnly log
OpensBy log file v st = Unit {0}

abbrev pub EachOpen : Word → List Deal → Type 0
EachOpen words.Open log = EachReaches log
EachOpen w log = Unit {0}

abbrev pub GotAll : (all : List Moment) → List Deal → (value : List ℕ) → History → Type 0
GotAll all log v (told.Opened len digest) = IsBare log ⊎ (OneFetch log × ((content : List ℕ) × ReachesAll content (last_fetch log) × (AreLeased all → (v ≡ content) ⊎ Collides (hashed_of all))))
GotAll all log v u = Unit {0}

abbrev pub OpenRead : (all : List Moment) → Ending
OpenRead all log w file v u = EachOpen w log × GotAll all log v u

-- a walk reached none
names_reached : (log : List Deal) → NamesOnly log → AreReached log
names_reached log h = let c = names_count log h in (subst AllReach (sym (c.over no_fetch)) tt, first_told (last_fetch log) [] (c.fetch no_fetch))

-- and one call more behind it
names_last : (log : List Deal) (d : Deal) → NamesOnly log → last_fetch (log ++ d ∷ []) ≡ fetch_with no_fetch d
names_last log d h = fetch_join no_fetch log (d ∷ []) ∙ ap (λ (f : Fetched). fetch_with f d) ((names_count log h).fetch no_fetch)

names_over : (log : List Deal) (d : Deal) → NamesOnly log → over_from no_fetch (log ++ d ∷ []) ≡ over_from no_fetch (d ∷ [])
names_over log d h =
    let c = names_count log h in
    over_join no_fetch log (d ∷ [])
    ∙ ap (λ l. l ++ over_from (fetch_from no_fetch log) (d ∷ [])) (c.over no_fetch)
    ∙ ap (λ (f : Fetched). over_from f (d ∷ [])) (c.fetch no_fetch)

-- an open at any stage has reached chunks so
any_reached : (log : List Deal) (file : ℕ) (v : List ℕ) (st : Stage) → OpensBy log file v st → stage_word st ≡ words.Open → AreReached log
any_reached log file v (stage.Asking x) h w = (h.2, first_told (last_fetch log) [] h.1)
any_reached log file v (stage.Hashing tries x) h w = (h.1.over, first_told (last_fetch log) [] h.0)
any_reached log file v (stage.Listing x f) h w = (h.1.over, first_told (last_fetch log) f.chunks h.0)
any_reached log file v (stage.Reading f) h w = (h.1.over, first_reached (last_fetch log) f.chunks f.asked f.under h.0)
any_reached log file v (stage.Walking y z) h w = names_reached log h
any_reached log file v st h w = absurd cc

-- ---- an answer

-- all of these chunks were told, and reached
record ReachesChunks (f : Fetched) (cs : List Chunk) : Type 0 where
  told_is : f.told ≡ cs
  all : length f.found + length f.reads ≡ length f.told
  bytes : f.bytes ≡ lengths_of f.reads

-- all of it came, by the attempt under way, or nothing was read
abbrev Whole : List Deal → Stage → (xid : ℕ) → Body → (rests : ℕ) → Type 0
Whole log st x b rests = IsBare log ⊎ ((f : Fetch) × (bytes : ℕ) × FetchNow st x b f bytes × OneFetch log × ReachesChunks (last_fetch log) f.chunks × (rests ≡ f.first))

abbrev Gets : (log : List Deal) (x : ℕ) → Body → Stage → List (ℕ × ℕ) → client.State × ClientStep → Type 0
Gets log x b st found r =
    ((file : ℕ) (v : List ℕ) (u : Task) → r.1.ended ≡ None → r.0.task ≡ Some u → OpensBy (log ++ deals_with (message.Answer x b ∷ []) found r.1.send) file v u.stage)
    × ((e : Ended) → r.1.ended ≡ Some e → IsOpenedBy e.outcome → Whole (log ++ deals_with (message.Answer x b ∷ []) found r.1.send) st x b e.rests_on)
    × (stage_word st ≡ words.Open → AreReached (log ++ deals_with (message.Answer x b ∷ []) found r.1.send))

none_close : (log : List Deal) (file : ℕ) (v : List ℕ) (t : Stage) → stage_word t ≡ words.Close → OpensBy log file v t
none_close log file v (stage.Making y temp) e = tt
none_close log file v (stage.Storing w) e = tt
none_close log file v (stage.Committing y) e = tt
none_close log file v (stage.Walking y z) e = absurd (goal_not_close z.goal e)
none_close log file v t e = absurd cc

-- no attempt got anything yet
none_yet : (log : List Deal) (file : ℕ) (v : List ℕ) (st : Stage) (x : ℕ) (h : Hashes) (f : Fetch) → OpensBy log file v st → FetchIn st x h f → (last_fetch log ≡ told_only f.chunks) × OneFetch log × (f.asked ≡ 0) × (f.under ≡ [])
none_yet log file v st x h f p (inl (tries, y, is, e)) = let w = subst (OpensBy log file v) is p in (w.0 ∙ ap (λ (z : Fetch). told_only z.chunks) (sym e), w.1, ap (λ (z : Fetch). z.asked) e, ap (λ (z : Fetch). z.under) e)
none_yet log file v st x h f p (inr (y, is)) = subst (OpensBy log file v) is p

one_gave : (log : List Deal) (file : ℕ) (v : List ℕ) (st : Stage) (x : ℕ) (b : Body) (f : Fetch) (version : ℕ) → OpensBy log file v st → GaveUp st x b f version → OneFetch log
one_gave log file v st x b f version p (inl (h, is, at, shown, other)) = (none_yet log file v st x h f p at).1
one_gave log file v st x b f version p (inr (piece, is, at, shown)) = (subst (OpensBy log file v) at p).1

-- an answer to a GETHASH brings chunks, and no bytes
hash_one : (log : List Deal) (x : ℕ) (b : Body) (h : Hashes) (cs : List Chunk) → b ≡ body.Lb (lb.GetHashAnswer (Done h)) → last_fetch log ≡ told_only cs → OneFetch log → (last_fetch (log ++ Took (message.Answer x b) ∷ []) ≡ told_only (with_pairs cs h.pairs)) × OneFetch (log ++ Took (message.Answer x b) ∷ [])
hash_one log x b h cs is none one =
    let last : last_fetch (log ++ Took (message.Answer x b) ∷ []) ≡ told_only (with_pairs cs h.pairs) = last_one log x b ∙ ap (λ (z : Fetched). fetch_with z (Took (message.Answer x b))) none ∙ ap (λ c. fetch_with (told_only cs) (Took (message.Answer x c))) is in
    let w = came_one log x b in
    let a = w.0 in
    let c = w.1 in
    let d = w.2 in
    let z = ap (bytes_came x) is in (
      last,
      record {
        over = subst AllReach (sym (over_took log x b)) one.over;
        begun = (let e = one.begun in omega (arith, e, a));
        few = λ few.
            let g = one.few (omega (arith, few, a)) in
            let i = g.0 in
            let j = g.1 in
            let k = ap (λ (y : Fetched). length y.reads) last in
            let l = ap (λ (y : Fetched). y.bytes) last in
            let m = ap (λ (y : Fetched). length y.reads) none in
            let n = ap (λ (y : Fetched). y.bytes) none in
            (omega (arith, c, i, k, m), omega (arith, d, z, j, l, n));
      },
    )

-- what is reached once an answer has come
now_reached : (log : List Deal) (file : ℕ) (v : List ℕ) (st : Stage) (x : ℕ) (b : Body) (f : Fetch) (bytes : ℕ) → OpensBy log file v st → IsApart x st → FetchNow st x b f bytes → Reached (last_fetch (log ++ Took (message.Answer x b) ∷ [])) f.chunks f.asked f.under × OneFetch (log ++ Took (message.Answer x b) ∷ [])
now_reached log file v st x b f bytes p apart (all_told g h is eof at same f_is none) =
    let n = none_yet log file v st x h g p at in
    let w = hash_one log x b h g.chunks is n.0 n.1 in (
      subst (λ (z : Fetch). Reached (last_fetch (log ++ Took (message.Answer x b) ∷ [])) z.chunks z.asked z.under) (sym f_is) (subst (λ (z : Fetched). Reached z (with_hashes g h).chunks g.asked g.under) (sym w.0)
          (subst (λ k. Reached (told_only (with_hashes g h).chunks) (with_hashes g h).chunks k g.under) (sym n.2) (subst (Reached (told_only (with_hashes g h).chunks) (with_hashes g h).chunks 0) (sym n.3) (record { told = refl; flags = []; count = refl; found = refl; reads = refl; bytes = refl; inside = omega arith })))),
      w.1,
    )
now_reached log file v st x b f bytes p apart (one_came g c k piece is at found chunk fits f_is len) =
    let had = subst (OpensBy log file v) at p in
    let h = had.0 in
    let one = had.1 in
    let last : last_fetch (log ++ Took (message.Answer x b) ∷ []) ≡ record (last_fetch log) { bytes = (last_fetch log).bytes + length piece.bytes } = last_one log x b ∙ ap (λ d. fetch_with (last_fetch log) (Took (message.Answer x d))) is in
    let less = lens_less g.chunks g.under x c found (subst (IsApart x) at apart) in
    let size = len_is g.chunks c.index k chunk in
    let whole = fits_len k piece.bytes fits in
    let xid = ap (λ y. under_lens g.chunks (without_read g.under y)) (read_xid g.under x c found) in
    let w = came_one log x b in
    let a = w.0 in
    let d = w.1 in
    let e = w.2 in
    let came : bytes_came x b ≡ length piece.bytes = ap (bytes_came x) is ∙ (let q : bytes_came x (body.Nfs (nfs.ReadAnswer (Done piece))) ≡ length piece.bytes = omega arith in q) in (
      subst (λ (z : Fetch). Reached (last_fetch (log ++ Took (message.Answer x b) ∷ [])) z.chunks z.asked z.under) (sym f_is) (subst (λ (z : Fetched). Reached z g.chunks g.asked (without_read g.under c.xid)) (sym last) (record {
        told = h.told;
        flags = h.flags;
        count = h.count;
        found = h.found;
        reads = h.reads;
        bytes = (let y = h.bytes in omega (arith, y, less, size, whole, xid));
        inside = h.inside;
      })),
      record {
        over = subst AllReach (sym (over_took log x b)) one.over;
        begun = (let y = one.begun in omega (arith, y, a));
        few = λ few.
            let g = one.few (omega (arith, few, a)) in
            let i = g.0 in
            let j = g.1 in
            let k = ap (λ (y : Fetched). length y.reads) last in
            let l = ap (λ (y : Fetched). y.bytes) last in
            (omega (arith, d, i, k), omega (arith, e, came, j, l));
      },
    )
  where
    fits_len : (k : Chunk) (bytes : List ℕ) → fault_in k bytes (length bytes == k.len) ≡ None → length bytes ≡ k.len
    fits_len k bytes = by (length bytes == k.len) refl
      where
        by : (b : Bool) → (length bytes == k.len) ≡ b → fault_in k bytes b ≡ None → length bytes ≡ k.len
        by true e fits = grind (arith, nat_tests, e)
        by false e fits = absurd cc

-- with an answer, what was found and what was sent
log_is : (log : List Deal) (x : ℕ) (b : Body) (found : List (ℕ × ℕ)) (ms : List Message) → (log ++ Took (message.Answer x b) ∷ []) ++ (map Found found ++ map Sent ms) ≡ log ++ deals_with (message.Answer x b ∷ []) found ms
log_is log x b found ms = appended log (Took (message.Answer x b) ∷ []) (map Found found ++ map Sent ms)

gets_cases : (log : List Deal) (s : client.State) (calls : List Pending) (file : ℕ) (v : List ℕ) (st : Stage) (x : ℕ) (b : Body) → OpensBy log file v st → IsApart x st → OfOpens (Gets log x b st) s calls file st x b
gets_cases log s calls file v st x b p apart = record {
  closes = λ close r goes unopened unchanged. (λ g w u running is. none_close (log ++ deals_with (message.Answer x b ∷ []) [] r.1.send) g w u.stage (goes u running is), λ e is opened. absurd (unopened e is opened), λ open_. absurd (open_and_close (stage_word st) open_ close));
  renews = λ renew r e unchanged. ((λ g w u running is. nothing_there e.ended (sym running ∙ e.ended_is)), λ d is opened. absurd (e.unopened (subst (λ (z : Ended). IsOpenedBy z.outcome) (some_is d e.ended (sym is ∙ e.ended_is)) opened)), λ open_. absurd (renew_and_open (stage_word st) renew open_));
  ends = λ open_ r e unchanged. ended r e;
  changed = λ r f version e open_ gave last is. ended r e;
  uses = λ y l bytes at is kept.
      let was : IsBare log × (last_fetch log ≡ no_fetch) × AllReach (over_from no_fetch log) = subst (OpensBy log file v) at p in
      let w = came_one log x b in
      let z = ap (bytes_came x) is in
      let a = w.0 in
      let c = w.1 in
      let d = w.2 in
      let i = was.0.0 in
      let j = was.0.1 in
      let k = was.0.2 in (
        λ g w u running. nothing_there _ (sym running),
        λ e ended opened. inl (omega (arith, a, i), omega (arith, c, j), omega (arith, d, k, z)),
        λ open_. reached_took log x b (any_reached log file v st p open_),
      );
  fetches = λ y l at is.
      let was : IsBare log × (last_fetch log ≡ no_fetch) × AllReach (over_from no_fetch log) = subst (OpensBy log file v) at p in
      let m : Message = hash_call s.lbfs s.next_xid file 0 in
      let z = ap (bytes_came x) is in
      let log2 : List Deal = log ++ Took (message.Answer x b) ∷ Sent m ∷ [] in
      let last : last_fetch log2 ≡ no_fetch = fetch_join no_fetch log (Took (message.Answer x b) ∷ Sent m ∷ []) in
      let over : AllReach (over_from no_fetch log2) = over_begins log x b s.lbfs s.next_xid file (any_reached log file v st p (ap stage_word at)) in
      let a = sum_join Rattle.kept_promise.proofs.Common.first_number log (Took (message.Answer x b) ∷ Sent m ∷ []) in
      let c = sum_join read_number log (Took (message.Answer x b) ∷ Sent m ∷ []) in
      let d = came_join log (Took (message.Answer x b) ∷ Sent m ∷ []) in
      let i = was.0.0 in
      let j = was.0.1 in
      let k = was.0.2 in
      let r = ap (λ (y : Fetched). length y.reads) last in
      let q = ap (λ (y : Fetched). y.bytes) last in (
        λ g w u running task. subst (λ (z : Task). OpensBy log2 g w z.stage) (some_is _ u task) (last, record { over = over; begun = omega (arith, a, i); few = λ few. (omega (arith, c, j, r), omega (arith, d, k, z, q)) }),
        λ e ended. nothing_there e ended,
        λ open_. (over, first_told (last_fetch log2) [] last),
      );
  anew = λ f version bytes open_ gave few came.
      let m : Message = hash_call s.lbfs s.next_xid file 0 in
      let log2 : List Deal = log ++ Took (message.Answer x b) ∷ Sent m ∷ [] in
      let one = one_gave log file v st x b f version p gave in
      let a = sum_join Rattle.kept_promise.proofs.Common.first_number log (Took (message.Answer x b) ∷ Sent m ∷ []) in
      let i = one.begun in
      let last : last_fetch log2 ≡ no_fetch = fetch_join no_fetch log (Took (message.Answer x b) ∷ Sent m ∷ []) in
      let over : AllReach (over_from no_fetch log2) = over_begins log x b s.lbfs s.next_xid file (any_reached log file v st p open_) in (
        λ g w u running task. subst (λ (z : Task). OpensBy log2 g w z.stage) (some_is _ u task) (last, record { over = over; begun = omega (arith, a, i); few = λ few. absurd (omega (arith, few, a, i)) }),
        λ e ended. nothing_there e ended,
        λ open_. (over, first_told (last_fetch log2) [] last),
      );
  lists = λ f h is at same far.
      let n = none_yet log file v st x h f p at in
      let offset = Rattle.chunk_cut.specs.Places.end_of (with_hashes f h).chunks in
      let m : Message = hash_call s.lbfs s.next_xid file offset in
      let log2 : List Deal = log ++ Took (message.Answer x b) ∷ Sent m ∷ [] in
      let z = ap (bytes_came x) is in
      let last : last_fetch log2 ≡ told_only (with_hashes f h).chunks = fetch_join no_fetch log (Took (message.Answer x b) ∷ Sent m ∷ []) ∙ ap (λ t. fetch_if t (fetch_with (last_fetch log) (Took (message.Answer x b)))) far ∙ ap (λ (y : Fetched). fetch_with y (Took (message.Answer x b))) n.0 ∙ ap (λ c. fetch_with (told_only f.chunks) (Took (message.Answer x c))) is in
      let over : AllReach (over_from no_fetch log2) = subst AllReach (sym (over_lists log x b s.lbfs s.next_xid file offset far)) n.1.over in
      let a = sum_join Rattle.kept_promise.proofs.Common.first_number log (Took (message.Answer x b) ∷ Sent m ∷ []) in
      let t = ap (λ y. Rattle.kept_promise.proofs.Common.number_if y 1) far in
      let c = sum_join read_number log (Took (message.Answer x b) ∷ Sent m ∷ []) in
      let d = came_join log (Took (message.Answer x b) ∷ Sent m ∷ []) in
      let i = n.1.begun in (
        λ g w u running task. subst (λ (z : Task). OpensBy log2 g w z.stage) (some_is _ u task) (
          last,
          record {
            over = over;
            begun = omega (arith, a, i, t);
            few = λ few.
                let y = n.1.few (omega (arith, few, a, t)) in
                let j = y.0 in
                let k = y.1 in
                let r = ap (λ (y : Fetched). length y.reads) last in
                let q = ap (λ (y : Fetched). y.bytes) last in
                let l = ap (λ (y : Fetched). length y.reads) n.0 in
                let o = ap (λ (y : Fetched). y.bytes) n.0 in
                (omega (arith, c, j, r, l), omega (arith, d, k, z, q, o));
          },
          n.2,
          n.3,
        ),
        λ e ended. nothing_there e ended,
        λ open_. (over, first_told (last_fetch log2) (with_hashes f h).chunks last),
      );
  reads = λ f bytes now here.
      let w = now_reached log file v st x b f bytes p apart now in
      let o = goes_onward (log ++ Took (message.Answer x b) ∷ []) s file f w.0 w.1 in
      let r = reads_of s file f in
      let chunks = (reads_ask s file f w.0.inside).chunks in
      let log2 : List Deal = log ++ deals_with (message.Answer x b ∷ []) (given s file f) r.send in
      let both : Reached (last_fetch log2) f.chunks r.fetch.asked r.fetch.under × OneFetch log2 = subst (λ (l : List Deal). Reached (last_fetch l) f.chunks r.fetch.asked r.fetch.under × OneFetch l) (log_is log x b (given s file f) r.send) (o.reached, o.one) in (
        λ g y u running task. subst (λ (z : Task). OpensBy log2 g y z.stage) (some_is _ u task) (subst (λ (l : List Chunk). Reached (last_fetch log2) l r.fetch.asked r.fetch.under) (sym chunks) both.0, both.1),
        λ e ended. nothing_there e ended,
        λ open_. (both.1.over, first_reached (last_fetch log2) f.chunks r.fetch.asked r.fetch.under both.0),
      );
  opens = λ f bytes now here.
      let w = now_reached log file v st x b f bytes p apart now in
      let o = goes_onward (log ++ Took (message.Answer x b) ∷ []) s file f w.0 w.1 in
      let go = reads_ask s file f w.0.inside in
      let r = reads_of s file f in
      let h = both_true (is_none r.fetch.under) (r.fetch.asked == length r.fetch.chunks) here in
      let none : r.fetch.under ≡ [] = none_is r.fetch.under h.0 in
      let log2 : List Deal = log ++ deals_with (message.Answer x b ∷ []) (given s file f) [] in
      let both : Reached (last_fetch log2) f.chunks r.fetch.asked r.fetch.under × OneFetch log2 = subst (λ (ms : List Message). let l : List Deal = log ++ deals_with (message.Answer x b ∷ []) (given s file f) ms in Reached (last_fetch l) f.chunks r.fetch.asked r.fetch.under × OneFetch l) (go.some none)
      (subst (λ (l : List Deal). Reached (last_fetch l) f.chunks r.fetch.asked r.fetch.under × OneFetch l) (log_is log x b (given s file f) r.send) (o.reached, o.one)) in
      let all : ReachesChunks (last_fetch log2) f.chunks = record {
        told_is = both.0.told;
        all = (
            let q = h.1 in
            let e : r.fetch.asked ≡ length r.fetch.chunks = grind (arith, nat_tests, q) in
            let k = both.0.count in
            let l = ap length go.chunks in
            let m = chosen_count both.0.flags f.chunks (let i = both.0.inside in omega (arith, i, k)) in
            let n = ap length both.0.found in
            let o = ap length both.0.reads in
            let t = ap length both.0.told in
            omega (arith, e, k, l, m, n, o, t)
            );
        bytes = (let y = both.0.bytes in let z = ap (under_lens f.chunks) none in omega (arith, y, z));
      } in (
        λ g y u running. nothing_there _ (sym running),
        λ e ended opened. inr (f, bytes, now, both.1, all, ap (λ (z : Ended). z.rests_on) (sym (some_is _ e ended)) ∙ go.first),
        λ open_. (both.1.over, first_reached (last_fetch log2) f.chunks r.fetch.asked r.fetch.under both.0),
      );
}
  where
    none_is : {A : Type 0} (xs : List A) → is_none xs ≡ true → xs ≡ []
    none_is [] e = refl
    none_is (x ∷ xs) e = absurd cc

    ended : (r : client.State × ClientStep) → JustEnds x b r → Gets log x b st [] r
    ended r e = (
      λ g v u running. nothing_there e.ended (sym running ∙ e.ended_is),
      λ y is opened. absurd (e.unopened (subst (λ (z : Ended). IsOpenedBy z.outcome) (some_is y e.ended (sym is ∙ e.ended_is)) opened)),
      λ open_. subst (λ (ms : List Message). AreReached (log ++ deals_with (message.Answer x b ∷ []) [] ms)) (sym e.sent) (reached_took log x b (any_reached log file v st p open_)),
    )

-- ---- the content

-- where an open rests on an attempt that reached all chunks of a content, this is its value
opened_content : (book more : Book) (taken : List TakenCall) (j : Job) (o new : Op) (p len : ℕ) (digest : List ℕ) (f : Fetch) → Taking book more taken j o p → more.ops ≡ slice_set book.ops p new → more.moments ≡ book.moments → new.word ≡ words.Open → new.file ≡ o.file → IsOpenedIf more new.file new len digest → stage_word j.stage ≡ words.Open → (h : IsFetch book taken j f)
    → ((q : ℕ) → new.point ≡ Some q → taken_at taken f.first ≡ Some q) → AreLeased book.moments → (new.value ≡ h.file.content) ⊎ Collides (hashed_of book.moments)
opened_content book more taken j o new p len digest f t are moments word file opened at h point leased = elim (opened.value_is (subst AreLeased (sym moments) leased)) [
  | inr collides ↦ inr (subst (λ (l : List Moment). Collides (hashed_of l)) moments collides)
  | inl value ↦ elim h.value_is [
    | inr collides ↦ inr collides
    | inl content ↦
        let q : ℕ = opened.point in
        let moment_is : h.told.moment ≡ q = some_is h.told.moment q (sym h.told.was ∙ point q opened.within.0) in
        let there : slice_get book.ops p ≡ Some o = ap (slice_get book.ops) (sym t.place) ∙ t.at in
        let old_word : o.word ≡ words.Open = t.word ∙ at in
        let same : value_at more new.file q ≡ value_at book new.file q = same_value book more new.file q p o new t.opening t.raws are there old_word word in
        let had : value_at book new.file q ≡ Some h.value = ap (λ z. value_at book z q) (file ∙ t.file) ∙ ap (value_at book j.file) (sym moment_is) ∙ h.told.value in
        inl (some_is new.value h.value (sym value ∙ same ∙ had) ∙ content)
  ]
]

opens_heard : (book more : Book) (taken : List TakenCall) (j : Job) (o : Op) (p : ℕ) (s : client.State) (x : ℕ) (b : Body) → Answering book more taken j o p s x b (took (idle s) (client.calls_of s) j.file j.stage x b) → (log : List Deal) → OpensBy log o.file o.value j.stage
    → Answered OpensBy (OpenRead book.moments) book taken o log x b (found_in s j.file j.stage x b) (took (idle s) (client.calls_of s) j.file j.stage x b)
opens_heard book more taken j o p s x b a log h = record {
  stage = λ u running is. gets.0 (op_after o r.0 taken (book.steps + 1) r.1).file (op_after o r.0 taken (book.steps + 1) r.1).value u running is;
  each = (reached (op_after o r.0 taken (book.steps + 1) r.1).word refl, by r.1.ended refl (op_after o r.0 taken (book.steps + 1) r.1).outcome refl);
}
  where
    r : client.State × ClientStep
    r = took (idle s) (client.calls_of s) j.file j.stage x b

    log2 : List Deal
    log2 = log ++ deals_with (message.Answer x b ∷ []) (found_in s j.file j.stage x b) (took (idle s) (client.calls_of s) j.file j.stage x b).1.send

    known : IsOfFile j.stage
    known = a.known

    gets : Gets log x b j.stage (found_in s j.file j.stage x b) (took (idle s) (client.calls_of s) j.file j.stage x b)
    gets = took_cases (Gets log x b j.stage) (idle s) (client.calls_of s) j.file j.stage x b known (λ found r g until lease is z. z) (of_opens (Gets log x b j.stage) (idle s) (client.calls_of s) j.file j.stage x b known (gets_cases log (idle s) (client.calls_of s) j.file o.value j.stage x b (subst (λ f. OpensBy log f o.value j.stage) a.taking.file h) a.apart))

    point_is : (l : Option Ended) (e : Ended) (file len : ℕ) (digest : List ℕ) (q : ℕ) → l ≡ Some e → e.outcome ≡ outcome.Opened file len digest → o.word ≡ words.Open → (op_after o r.0 taken (book.steps + 1) (record r.1 { ended = l })).point ≡ Some q → Some (unwrap_or (taken_at taken e.rests_on) (book.steps + 1)) ≡ Some q
    point_is None e file len digest q is opened word point = nothing_there e is
    point_is (Some y) e file len digest q is opened word point =
        ap (λ w. point_if (has_point w (outcome.Opened file len digest)) taken e.rests_on (book.steps + 1) o.point) (sym word)
        ∙ ap (λ u. point_if (has_point o.word u) taken e.rests_on (book.steps + 1) o.point) (sym opened)
        ∙ ap (λ (z : Ended). point_if (has_point o.word z.outcome) taken z.rests_on (book.steps + 1) o.point) (sym (some_is y e is))
        ∙ point

    outcome_is : (l : Option Ended) (u : History) → l ≡ None → (op_after o r.0 taken (book.steps + 1) (record r.1 { ended = l })).outcome ≡ u → u ≡ told.Running
    outcome_is None u is e = sym e ∙ a.taking.running
    outcome_is (Some y) u is e = nothing_there y (sym is)

    told_is : (l : Option Ended) (e : Ended) → l ≡ Some e → (op_after o r.0 taken (book.steps + 1) (record r.1 { ended = l })).outcome ≡ told_of e.outcome
    told_is None e is = nothing_there e is
    told_is (Some y) e is = ap (λ (z : Ended). told_of z.outcome) (some_is y e is)

    running_not : (len : ℕ) (digest : List ℕ) → told.Running ≡ told.Opened len digest → ⊥
    running_not len digest z = absurd cc

    whole : (e : Ended) (len : ℕ) (digest : List ℕ) → r.1.ended ≡ Some e → (op_after o r.0 taken (book.steps + 1) r.1).outcome ≡ told.Opened len digest → IsBare log2 ⊎ (OneFetch log2 × ((content : List ℕ) × ReachesAll content (last_fetch log2) × (AreLeased book.moments → ((op_after o r.0 taken (book.steps + 1) r.1).value ≡ content) ⊎ Collides (hashed_of book.moments))))
    whole e len digest is out =
        let new : Op = op_after o r.0 taken (book.steps + 1) r.1 in
        let opened = opened_by e.outcome len digest (sym (told_is r.1.ended e is) ∙ out) in
        let cause = subst (Caused more new) out a.right.cause in
        let word : o.word ≡ words.Open = sym (word_after o r.0 taken (book.steps + 1) r.1) ∙ cause.0 in
        elim (gets.1 e is (subst IsOpenedBy (sym opened.1) tt)) [
          | inl bare ↦ inl bare
          | inr (f, bytes, now, one, all, rests) ↦
              let h = a.fetched f bytes now in
              let c = opened_content book more taken j o new p len digest f a.taking a.ops a.moments cause.0 (file_stays o r.0 taken (book.steps + 1) r.1 a.finds) cause.1 (sym a.taking.word ∙ word) h.0 (λ q at. h.0.told.was ∙ sym (ap (λ (z : Option ℕ). Some (unwrap_or z (book.steps + 1))) (ap (taken_at taken) rests ∙ h.0.told.was)) ∙ point_is r.1.ended e opened.0 len digest q is opened.1 word at) in
              inr (
                one,
                (
                  h.0.file.content,
                  record { told = all.told_is ∙ h.1; all = all.all; bytes = all.bytes },
                  c,
                ),
              )
        ]

    reached : (w : Word) → (op_after o r.0 taken (book.steps + 1) r.1).word ≡ w → EachOpen w log2
    reached words.Open is = each_reached log2 (gets.2 (sym a.taking.word ∙ sym (word_after o r.0 taken (book.steps + 1) r.1) ∙ is))
    reached w is = tt

    by : (l : Option Ended) → r.1.ended ≡ l → (u : History) → (op_after o r.0 taken (book.steps + 1) r.1).outcome ≡ u → GotAll book.moments log2 (op_after o r.0 taken (book.steps + 1) r.1).value u
    by (Some e) is (told.Opened len digest) out = whole e len digest is out
    by None is (told.Opened len digest) out = absurd (running_not len digest (sym (outcome_is r.1.ended (told.Opened len digest) is out)))
    by l is u out = tt

pub opens_laws : (all : List Moment) → LogLaws all OpensBy (OpenRead all)
opens_laws all = record {
  walks = λ log file v x w h. h;
  walked = λ log file v x w h. h;
  none = λ w file v u un same log names. (nothing w log names, other log v u un);
  now = λ log file v len digest names. (nothing words.Open log names, inl (let n = names_count log names in (n.begins, n.asked, n.came)));
  asks = λ log names lbfs x file v. asked log names lbfs x file;
  opens = λ log names lbfs x file v. begun log names lbfs x file;
  renews = λ log names lbfs x file v. tt;
  closes = λ lbfs x temp file v. tt;
  moves = λ log file other v w u gets. by_getting (λ z. OpenRead all log z file v u → OpenRead all log z other v u) (λ h. h) (λ h. h) (λ h. h) w gets;
  other = λ log file v st u of p un same. (any (stage_word st) st refl log file v p, other log v u un);
  heard = λ book more taken j o p s x b all_is a log h. subst (λ (l : List Moment). Answered OpensBy (OpenRead l) book taken o log x b (found_in s j.file j.stage x b) (took (idle s) (client.calls_of s) j.file j.stage x b)) all_is (opens_heard book more taken j o p s x b a log h);
}
  where
    nothing : (w : Word) (log : List Deal) → NamesOnly log → EachOpen w log
    nothing words.Open log names = each_reached log (names_reached log names)
    nothing w log names = tt

    asked : (log : List Deal) → NamesOnly log → (lbfs x file : ℕ) → IsBare (log ++ Sent (lease_call lbfs x file) ∷ []) × (last_fetch (log ++ Sent (lease_call lbfs x file) ∷ []) ≡ no_fetch) × AllReach (over_from no_fetch (log ++ Sent (lease_call lbfs x file) ∷ []))
    asked log names lbfs x file =
        let d : Deal = Sent (lease_call lbfs x file) in
        let n = names_count log names in
        let a = sum_join Rattle.kept_promise.proofs.Common.first_number log (d ∷ []) in
        let b = sum_join read_number log (d ∷ []) in
        let c = came_join log (d ∷ []) in
        let p = n.begins in
        let q = n.asked in
        let r = n.came in
        ((omega (arith, a, p), omega (arith, b, q), omega (arith, c, r)), names_last log d names, subst AllReach (sym (names_over log d names)) tt)

    begun : (log : List Deal) → NamesOnly log → (lbfs x file : ℕ) → (last_fetch (log ++ Sent (hash_call lbfs x file 0) ∷ []) ≡ no_fetch) × OneFetch (log ++ Sent (hash_call lbfs x file 0) ∷ [])
    begun log names lbfs x file =
        let d : Deal = Sent (hash_call lbfs x file 0) in
        let n = names_count log names in
        let a = sum_join Rattle.kept_promise.proofs.Common.first_number log (d ∷ []) in
        let b = sum_join read_number log (d ∷ []) in
        let c = came_join log (d ∷ []) in
        let p = n.begins in
        let q = n.asked in
        let r = n.came in
        let last : last_fetch (log ++ Sent (hash_call lbfs x file 0) ∷ []) ≡ no_fetch = names_last log d names in
        let s = ap (λ (y : Fetched). length y.reads) last in
        let t = ap (λ (y : Fetched). y.bytes) last in
        (last, record { over = subst AllReach (sym (names_over log d names)) (first_told no_fetch [] refl, tt); begun = omega (arith, a, p); few = λ few. (omega (arith, b, q, s), omega (arith, c, r, t)) })

    any : (w : Word) (st : Stage) → stage_word st ≡ w → (log : List Deal) (file : ℕ) (v : List ℕ) → OpensBy log file v st → EachOpen w log
    any words.Open st is log file v p = each_reached log (any_reached log file v st p is)
    any w st is log file v p = tt

    other : (log : List Deal) (v : List ℕ) (u : History) → IsUnopened u → GotAll all log v u
    other log v (told.Opened len digest) un = absurd (un len digest refl)
    other log v u un = tt

-- each attempt of an open reached the first of what it was told
pub each_reaches : (past : List Moment) (o : Op) (all : List Moment) → o.word ≡ words.Open → OpenRead all (deals_of o past) o.word o.file o.value o.outcome → EachReaches (deals_of o past)
each_reaches past o all open_ read = subst (λ w. EachOpen w (deals_of o past)) open_ read.0

-- ---- what it makes of the promise

-- no more than was asked for, and came, is of the last attempt
fetch_most : (f : Fetched) (log : List Deal) → (length (fetch_from f log).reads ≤ length f.reads + asked_in log) × ((fetch_from f log).bytes ≤ f.bytes + came_in log)
fetch_most f [] = (omega arith, omega arith)
fetch_most f (d ∷ log) = let h = fetch_most (fetch_with f d) log in let a = h.0 in let b = h.1 in let w = one d in let c = w.0 in let e = w.1 in (omega (arith, a, c), omega (arith, b, e))
  where
    again : (b : Bool) → (length (fetch_if b f).reads ≤ length f.reads) × ((fetch_if b f).bytes ≤ f.bytes)
    again true = (omega arith, omega arith)
    again false = (omega arith, omega arith)

    one : (d : Deal) → (length (fetch_with f d).reads ≤ length f.reads + asked_in (d ∷ [])) × ((fetch_with f d).bytes ≤ f.bytes + came_in (d ∷ []))
    one (Sent (message.Call xid (body.Lb (lb.GetHash a)))) = let h = again (a.offset == 0) in let p = h.0 in let q = h.1 in (omega (arith, p), omega (arith, q))
    one (Sent (message.Call xid (body.Nfs (nfs.Read r)))) = let l = length-append f.reads ((r.offset, r.count) ∷ []) in (omega (arith, l), omega arith)
    one (Took (message.Answer xid (body.Nfs (nfs.ReadAnswer (Done p))))) = (omega arith, omega arith)
    one (Took (message.Answer xid (body.Lb (lb.GetHashAnswer (Done h))))) = (omega arith, omega arith)
    one (Found place) = (omega arith, omega arith)
    one d = (omega arith, omega arith)

pub last_most : (log : List Deal) → (length (last_fetch log).reads ≤ asked_in log) × ((last_fetch log).bytes ≤ came_in log)
last_most log = let h = fetch_most no_fetch log in let a = h.0 in let b = h.1 in (omega (arith, a), omega (arith, b))

-- what an open stores comes to nothing
own_bytes : (past : List Moment) (o : Op) → o.word ≡ words.Open → OpOwn (deals_of o past) o.word o.file o.value o.outcome → (length (Rattle.trace_replay.specs.Traffic.named_in (deals_of o past)) ≡ 0) × (Rattle.kept_promise.proofs.LogSums.whole_in (deals_of o past) ≡ 0) × (Rattle.trace_replay.specs.Traffic.bytes_in (deals_of o past) ≡ 0)
own_bytes past o open_ own = let n = open_stores o.file o.value (deals_of o past) (subst (λ w. OpOwn (deals_of o past) w o.file o.value o.outcome) open_ own).0 in (n.0, n.1, none_sent (deals_of o past) n.1)

-- one that read nothing counts nothing
pub bare_counts : (past : List Moment) (o : Op) → o.word ≡ words.Open → OpOwn (deals_of o past) o.word o.file o.value o.outcome → IsBare (deals_of o past) → IsSum o.traffic (deals_of o past) → o.traffic ≡ no_traffic
bare_counts past o open_ own bare s =
    let n = own_bytes past o open_ own in
    let a = n.0 in
    let b = n.1 in
    let c = n.2 in
    let asked = bare.1 in
    let came = bare.2 in
    let p = s.cond in
    let q = s.tmp in
    let r = s.read in
    let d = s.data_is in
    traffic_is o.traffic no_traffic (omega (arith, p, a)) (omega (arith, q, b)) (omega (arith, r, asked)) (omega (arith, d, c, came))

-- where it began one attempt alone, it counts just what that one read
pub once_is : (past : List Moment) (o : Op) (all : List Moment) (len : ℕ) (digest : List ℕ) → o.outcome ≡ told.Opened len digest → o.word ≡ words.Open → OpOwn (deals_of o past) o.word o.file o.value o.outcome → OpenRead all (deals_of o past) o.word o.file o.value o.outcome → IsSum o.traffic (deals_of o past) → begins_in (deals_of o past) ≤ 1 → o.traffic ≡ read_traffic (last_fetch (deals_of o past))
once_is past o all len digest is open_ own read s few =
    let n = own_bytes past o open_ own in
    let a = n.0 in
    let b = n.1 in
    let c = n.2 in
    let p = s.cond in
    let q = s.tmp in
    let r = s.read in
    let d = s.data_is in
    let m = last_most (deals_of o past) in
    let w = counts (subst (GotAll all (deals_of o past) o.value) is read.1) m.0 m.1 in
    let x = w.0 in
    let y = w.1 in
    traffic_is o.traffic (read_traffic (last_fetch (deals_of o past))) (omega (arith, p, a)) (omega (arith, q, b)) (omega (arith, r, x)) (omega (arith, d, c, y))
  where
    counts : (IsBare (deals_of o past) ⊎ (OneFetch (deals_of o past) × ((content : List ℕ) × ReachesAll content (last_fetch (deals_of o past)) × (AreLeased all → (o.value ≡ content) ⊎ Collides (hashed_of all))))) → length (last_fetch (deals_of o past)).reads ≤ asked_in (deals_of o past) → (last_fetch (deals_of o past)).bytes ≤ came_in (deals_of o past)
        → (asked_in (deals_of o past) ≡ length (last_fetch (deals_of o past)).reads) × (came_in (deals_of o past) ≡ (last_fetch (deals_of o past)).bytes)
    counts (inl (none, asked, came)) le lf = (omega (arith, asked, le), omega (arith, came, lf))
    counts (inr (one, more)) le lf = one.few few

-- an open got its content by what was kept, or reached each of its chunks
pub got_by : (book : Book) (o : Op) (len : ℕ) (digest : List ℕ) → o.outcome ≡ told.Opened len digest → o.word ≡ words.Open → OpOwn (deals_of o book.moments) o.word o.file o.value o.outcome → OpenRead book.moments (deals_of o book.moments) o.word o.file o.value o.outcome → IsSum o.traffic (deals_of o book.moments) → AreLeased book.moments → GotBy book o (deals_of o book.moments)
got_by book o len digest is open_ own read s leased = by (subst (GotAll book.moments (deals_of o book.moments) o.value) is read.1)
  where
    by : (IsBare (deals_of o book.moments) ⊎ (OneFetch (deals_of o book.moments) × ((content : List ℕ) × ReachesAll content (last_fetch (deals_of o book.moments)) × (AreLeased book.moments → (o.value ≡ content) ⊎ Collides (hashed_of book.moments))))) → GotBy book o (deals_of o book.moments)
    by (inl bare) = inl (Rattle.kept_promise.proofs.MetLog.none_begun (deals_of o book.moments) bare.0, bare_counts book.moments o open_ own bare s)
    by (inr (one, (content, all, so))) = inr (content, all, so leased)

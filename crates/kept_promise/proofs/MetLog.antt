-- A run carries that an open gives an attempt up just where an answer showed another version, and that one which ended by that gave up as many as there may be.
use Rattle.std.proofs.Common.{inl, inr, ◌≡◌, ℕ, ◌+◌, ◌-◌, ◌≤◌, List, [], ◌∷◌, ◌++◌, length, Option, Some, None, Bool, true, false, refl, sym, ap, ◌∙◌, subst, arith, map}
use Rattle.std.proofs.lemmas.List.{length-append}
use Rattle.hash_calls.specs.declared.message.Lb.TheVariants as lb
use Rattle.nfs3_calls.specs.declared.message.Nfs.TheVariants as nfs
use Rattle.wire.specs.declared.message.Body.TheVariants as body
use Rattle.wire.specs.declared.message.Message.TheVariants as message
use Rattle.client_state.specs.State as client
use Rattle.client_state.specs.declared.step.Outcome.TheVariants as outcome
use Rattle.client_state.specs.declared.task.Stage.TheVariants as stage
use Rattle.register_model.specs.declared.op.Outcome.{Outcome as History}
use Rattle.register_model.specs.declared.op.Outcome.TheVariants as told
use Rattle.register_model.specs.declared.op.Word.TheVariants as words
use Rattle.trace_replay.specs.Traffic.{Attempt, new_attempt, Attempts, no_attempt, other_if, told_if, shown_if, given_up, begun_anew, begun_if, attempts_with, attempts_from, attempts_in, HasMet, AllMet, AttemptsMet, AttemptsEnd}
use Rattle.trace_replay.specs.Trail.{sent_of}
use Rattle.kept_promise.proofs.Common.{nat_tests, ◌==◌, nat_lt, option_map, Done, Attr, Hashes, Piece, Body, Message, Pending, end_of, tries_most, lease_call, hash_call, read_call, with_hashes, reads_from, reads_chunk, other_version, shown_version, idle, took, Reads, ClientStep, Ended, Outcome, Fetch, Stage, Task, Chunk, Op, Word, TakenCall, op_after, told_of, Moment, Deal, Deal.Took, Deal.Found, Deal.Sent, deals_with, deals_of, Book}
use Rattle.kept_promise.proofs.Lists.{some_is, nothing_there}
use Rattle.kept_promise.proofs.Messages.{Job, stage_word}
use Rattle.kept_promise.proofs.Rights.{IsRight, Caused}
use Rattle.kept_promise.proofs.VersionRuns.{word_after}
use Rattle.kept_promise.proofs.StepCases.{reads_keep, FetchIn, FetchNow, FetchNow.all_told, FetchNow.one_came, GaveUp, IsChangedBy, reads_of, open_and_close, renew_and_open, OfOpens, of_opens, took_cases, IsOfFile}
use Rattle.kept_promise.proofs.Logs.{Going, Ending}
use Rattle.kept_promise.proofs.LogSums.{sent_more, begins_in, attempts_log}
use Rattle.kept_promise.proofs.LogEvents.{IsUnchanged, Answering, Answered, found_in, LogLaws, by_getting}
use Rattle.kept_promise.proofs.OwnLog.{OpOwn, none_begin}
use Rattle.kept_promise.proofs.Steps.{goal_not_close}
use Rattle.kept_promise.proofs.NamesLog.{NamesOnly, names_count}

-- ---- what is carried

-- so many attempts began, the last of which is this one
abbrev pub Tries : Attempts → (tries : ℕ) → Attempt → Type 0
Tries t n a = (t.last ≡ Some a) × (length t.failed + 1 ≡ n) × AllMet t.failed × (n ≤ tries_most)

-- of which this version was told
abbrev pub Told : Attempts → (tries version : ℕ) → Type 0
Told t n v = (m : Option ℕ) × Tries t n (record { told = Some v; met = m })

-- each that was given up had met another version, and there are not too many
abbrev pub Fine : Attempts → Type 0
Fine t = AllMet t.failed × (length t.failed + length (given_up t.last) ≤ tries_most)

abbrev pub MeetsBy : Going
MeetsBy log file v (stage.Asking x) = attempts_in log ≡ no_attempt
MeetsBy log file v (stage.Hashing tries x) = Tries (attempts_in log) tries new_attempt
MeetsBy log file v (stage.Listing x f) = Told (attempts_in log) f.tries f.version
MeetsBy log file v (stage.Reading f) = Told (attempts_in log) f.tries f.version
MeetsBy log file v (stage.Walking x w) = NamesOnly log
MeetsBy log file v st = Unit {0}

abbrev pub Met : List Deal → History → Type 0
Met log (told.Changed first last) = Fine (attempts_in log) × (length (attempts_in log).failed + 1 ≡ tries_most) × ((a : Attempt) × ((attempts_in log).last ≡ Some a) × HasMet first last a)
Met log u = Fine (attempts_in log)

abbrev pub OpenMet : Ending
OpenMet log words.Open file v u = Met log u
OpenMet log w file v u = Unit {0}

-- ---- logs joined

attempts_join : (t : Attempts) (a b : List Deal) → attempts_from t (a ++ b) ≡ attempts_from (attempts_from t a) b
attempts_join t [] b = refl
attempts_join t (d ∷ a) b = attempts_join (attempts_with t d) a b

attempts_found : (t : Attempts) (ps : List (ℕ × ℕ)) → attempts_from t (map Found ps) ≡ t
attempts_found t [] = refl
attempts_found t (p ∷ ps) = attempts_found t ps

-- READs begin no attempt, and go on with theirs
record Quiet (t : Attempts) (f : Fetch) (r : Reads) : Type 0 where
  none : attempts_from t (map Sent r.send) ≡ t
  tries : r.fetch.tries ≡ f.tries
  version : r.fetch.version ≡ f.version

reads_quiet : (t : Attempts) (s : client.State) (file : ℕ) (f : Fetch) → Quiet t f (reads_of s file f)
reads_quiet t s file f = reads_keep (Quiet t f) s.cache s.index file (λ r c o h at found. by r c h o) (length f.chunks - f.asked) (reads_from f s.next_xid) (record { none = refl; tries = refl; version = refl })
  where
    by : (r : Reads) (c : Chunk) → Quiet t f r → (o : Option (List ℕ)) → Quiet t f (reads_chunk file r c o)
    by r c h None = record { none = ap (attempts_from t) (sent_more r.send (read_call r.next_xid file c)) ∙ attempts_join t (map Sent r.send) (Sent (read_call r.next_xid file c) ∷ []) ∙ h.none; tries = h.tries; version = h.version }
    by r c h (Some bytes) = record { none = h.none; tries = h.tries; version = h.version }

-- ---- an answer

-- an answer gives no attempt up
took_fine : (t : Attempts) (x : ℕ) (b : Body) → Fine t → Fine (attempts_with t (Took (message.Answer x b)))
took_fine t x (body.Lb (lb.GetHashAnswer (Done h))) (all, few) = (all, by t.last few)
  where
    by : (l : Option Attempt) → length t.failed + length (given_up l) ≤ tries_most → length t.failed + length (given_up (option_map (λ (z : Attempt). told_if z.told h.version) l)) ≤ tries_most
    by None le = le
    by (Some a) le = le
took_fine t x (body.Nfs (nfs.ReadAnswer (Done p))) (all, few) = (all, by t.last few)
  where
    by : (l : Option Attempt) → length t.failed + length (given_up l) ≤ tries_most → length t.failed + length (given_up (option_map (λ (z : Attempt). shown_if z.told p.attr) l)) ≤ tries_most
    by None le = le
    by (Some a) le = le
took_fine t x b h = h

-- what an answer to a GETHASH makes of the attempt
hash_told : (t : Attempts) (x n : ℕ) (a : Attempt) (h : Hashes) → Tries t n a → Tries (attempts_with t (Took (message.Answer x (body.Lb (lb.GetHashAnswer (Done h)))))) n (told_if a.told h.version)
hash_told t x n a h (last, count, all, most) = (ap (option_map (λ (z : Attempt). told_if z.told h.version)) last, count, all, most)

read_told : (t : Attempts) (x n : ℕ) (a : Attempt) (p : Piece) → Tries t n a → Tries (attempts_with t (Took (message.Answer x (body.Nfs (nfs.ReadAnswer (Done p)))))) n (shown_if a.told p.attr)
read_told t x n a p (last, count, all, most) = (ap (option_map (λ (z : Attempt). shown_if z.told p.attr)) last, count, all, most)

told_in : (log : List Deal) (file : ℕ) (v : List ℕ) (st : Stage) (x : ℕ) (b : Body) (h : Hashes) (f : Fetch) → MeetsBy log file v st → b ≡ body.Lb (lb.GetHashAnswer (Done h)) → FetchIn st x h f → Told (attempts_with (attempts_in log) (Took (message.Answer x b))) f.tries f.version
told_in log file v st x b h f p is (inl (tries, y, at, e)) =
    let was : Tries (attempts_in log) tries new_attempt = subst (MeetsBy log file v) at p in
    subst (λ (z : Fetch). Told (attempts_with (attempts_in log) (Took (message.Answer x b))) z.tries z.version) (sym e)
    (subst (λ (c : Body). Told (attempts_with (attempts_in log) (Took (message.Answer x c))) tries h.version) (sym is) (None, hash_told (attempts_in log) x tries new_attempt h was))
told_in log file v st x b h f p is (inr (y, at)) =
    let was : Told (attempts_in log) f.tries f.version = subst (MeetsBy log file v) at p in
    subst (λ (c : Body). Told (attempts_with (attempts_in log) (Took (message.Answer x c))) f.tries f.version) (sym is) (other_if (h.version == f.version) h.version, hash_told (attempts_in log) x f.tries (record { told = Some f.version; met = was.0 }) h was.1)

-- where another version showed it met that one
gave_up : (log : List Deal) (file : ℕ) (v : List ℕ) (st : Stage) (x : ℕ) (b : Body) (f : Fetch) (version : ℕ) → MeetsBy log file v st → GaveUp st x b f version → Tries (attempts_with (attempts_in log) (Took (message.Answer x b))) f.tries (record { told = Some f.version; met = Some version }) × (f.version ≡ version → ⊥)
gave_up log file v st x b f version p (inl (h, is, inl (tries, y, at, e), same, other)) = absurd (differs h.version f.version other (sym (ap (λ (z : Fetch). z.version) e)))
  where
    differs : (m n : ℕ) → (m == n) ≡ false → m ≡ n → ⊥
    differs m n e same = grind (arith, nat_tests, e, same)
gave_up log file v st x b f version p (inl (h, is, inr (y, at), same, other)) =
    let was : Told (attempts_in log) f.tries f.version = subst (MeetsBy log file v) at p in
    let told = hash_told (attempts_in log) x f.tries (record { told = Some f.version; met = was.0 }) h was.1 in
    let met : other_if (h.version == f.version) h.version ≡ Some version = ap (λ t. other_if t h.version) other ∙ ap (λ n. Some n) (sym same) in (
      subst (λ (c : Body). Tries (attempts_with (attempts_in log) (Took (message.Answer x c))) f.tries (record { told = Some f.version; met = Some version })) (sym is) (subst (λ (o : Option ℕ). Tries (attempts_with (attempts_in log) (Took (message.Answer x (body.Lb (lb.GetHashAnswer (Done h)))))) f.tries (record { told = Some f.version; met = o })) met told),
      λ e. differs h.version f.version other (sym same ∙ sym e),
    )
  where
    differs : (m n : ℕ) → (m == n) ≡ false → m ≡ n → ⊥
    differs m n e same = grind (arith, nat_tests, e, same)
gave_up log file v st x b f version p (inr (piece, is, at, shows)) =
    let was : Told (attempts_in log) f.tries f.version = subst (MeetsBy log file v) at p in
    let told = read_told (attempts_in log) x f.tries (record { told = Some f.version; met = was.0 }) piece was.1 in (
      subst (λ (c : Body). Tries (attempts_with (attempts_in log) (Took (message.Answer x c))) f.tries (record { told = Some f.version; met = Some version })) (sym is) (subst (λ (o : Option ℕ). Tries (attempts_with (attempts_in log) (Took (message.Answer x (body.Nfs (nfs.ReadAnswer (Done piece)))))) f.tries (record { told = Some f.version; met = o })) shows told),
      differs f.version piece.attr version shows,
    )
  where
    differs : (version : ℕ) (o : Option Attr) (w : ℕ) → other_version version o ≡ Some w → version ≡ w → ⊥
    differs version None w e = nothing_there w e
    differs version (Some a) w e = by (shown_version a == version) refl e
      where
        by : (t : Bool) → (shown_version a == version) ≡ t → (let o : Option ℕ = Rattle.std.specs.Prelude.cond t None (Some (shown_version a)) in o) ≡ Some w → version ≡ w → ⊥
        by true s e = nothing_there w e
        by false s e = λ same. (let q = some_is (shown_version a) w e in grind (arith, nat_tests, s, same, q))

tries_fine : (t : Attempts) (n : ℕ) (a : Attempt) → Tries t n a → Fine t
tries_fine t n a (last, count, all, most) = (all, (let e = ap (λ (o : Option Attempt). length (given_up o)) last in omega (arith, e, count, most)))

-- a walk began none
names_fine : (log : List Deal) → NamesOnly log → Fine (attempts_in log)
names_fine log h = subst Fine (sym ((names_count log h).attempts no_attempt)) (tt, omega arith)

-- and one call more behind it
names_begun : (log : List Deal) (d : Deal) → NamesOnly log → attempts_in (log ++ d ∷ []) ≡ attempts_with no_attempt d
names_begun log d h = attempts_join no_attempt log (d ∷ []) ∙ ap (λ (t : Attempts). attempts_with t d) ((names_count log h).attempts no_attempt)

all_met : (log : List Deal) (file : ℕ) (v : List ℕ) (st : Stage) → MeetsBy log file v st → stage_word st ≡ words.Open → Fine (attempts_in log)
all_met log file v (stage.Asking x) p w = subst Fine (sym p) (tt, omega arith)
all_met log file v (stage.Hashing tries x) p w = tries_fine (attempts_in log) tries new_attempt p
all_met log file v (stage.Listing x f) p w = tries_fine (attempts_in log) f.tries _ p.1
all_met log file v (stage.Reading f) p w = tries_fine (attempts_in log) f.tries _ p.1
all_met log file v (stage.Walking y z) p w = names_fine log p
all_met log file v st p w = absurd cc

-- what a step leaves of an open
abbrev Meets : (log : List Deal) (x : ℕ) → Body → Stage → List (ℕ × ℕ) → client.State × ClientStep → Type 0
Meets log x b st found r =
    ((file : ℕ) (v : List ℕ) (u : Task) → r.1.ended ≡ None → r.0.task ≡ Some u → MeetsBy (log ++ deals_with (message.Answer x b ∷ []) found r.1.send) file v u.stage)
    × ((first last : ℕ) → IsChangedBy first last r → Met (log ++ deals_with (message.Answer x b ∷ []) found r.1.send) (told.Changed first last))
    × (stage_word st ≡ words.Open → Fine (attempts_in (log ++ deals_with (message.Answer x b ∷ []) found r.1.send)))

-- the log with an answer, what was found and what was sent
joined_log : (log : List Deal) (x : ℕ) (b : Body) (found : List (ℕ × ℕ)) (ms : List Message) → attempts_in (log ++ deals_with (message.Answer x b ∷ []) found ms) ≡ attempts_from (attempts_with (attempts_in log) (Took (message.Answer x b))) (map Sent ms)
joined_log log x b found ms =
    let t = attempts_with (attempts_in log) (Took (message.Answer x b)) in
    attempts_join no_attempt log (deals_with (message.Answer x b ∷ []) found ms) ∙ attempts_join t (map Found found) (map Sent ms) ∙ ap (λ (z : Attempts). attempts_from z (map Sent ms)) (attempts_found t found)

-- what is sent is no GETHASH of a first byte
quiet_met : (log : List Deal) (file : ℕ) (v : List ℕ) (st : Stage) (x : ℕ) (b : Body) (found : List (ℕ × ℕ)) (ms : List Message) → MeetsBy log file v st → attempts_from (attempts_with (attempts_in log) (Took (message.Answer x b))) (map Sent ms) ≡ attempts_with (attempts_in log) (Took (message.Answer x b)) → stage_word st ≡ words.Open → Fine (attempts_in (log ++ deals_with (message.Answer x b ∷ []) found ms))
quiet_met log file v st x b found ms p none open_ = subst Fine (sym (joined_log log x b found ms ∙ none)) (took_fine (attempts_in log) x b (all_met log file v st p open_))

met_append : (earlier : List Attempt) (a : Attempt) → AllMet earlier → (told : ℕ) × (met : ℕ) × HasMet told met a → AllMet (earlier ++ a ∷ [])
met_append [] a h one = (one, tt)
met_append (z ∷ earlier) a h one = (h.0, met_append earlier a h.1 one)

-- one more was given up
given_more : (t : Attempts) (n version met : ℕ) → Tries t n (record { told = Some version; met = Some met }) → (version ≡ met → ⊥) → n + 1 ≤ tries_most → Tries (begun_anew t) (n + 1) new_attempt
given_more t n version met (last, count, all, most) apart few =
    let a : Attempt = record { told = Some version; met = Some met } in
    let is : t.failed ++ given_up t.last ≡ t.failed ++ a ∷ [] = ap (λ o. t.failed ++ given_up o) last in
    let more = length-append t.failed (a ∷ []) in
    let size = ap length is in (
      refl,
      omega (arith, size, more, count),
      subst AllMet (sym is) (met_append t.failed a all (version, met, (refl, refl, apart))),
      few,
    )

told_now : (log : List Deal) (file : ℕ) (v : List ℕ) (st : Stage) (x : ℕ) (b : Body) (f : Fetch) (bytes : ℕ) → MeetsBy log file v st → FetchNow st x b f bytes → Told (attempts_with (attempts_in log) (Took (message.Answer x b))) f.tries f.version
told_now log file v st x b f bytes p (all_told g h is eof at same f_is none) = subst (λ (z : Fetch). Told (attempts_with (attempts_in log) (Took (message.Answer x b))) z.tries z.version) (sym f_is) (told_in log file v st x b h g p is at)
told_now log file v st x b f bytes p (one_came g c k piece is at found chunk fits f_is len) =
    let was : Told (attempts_in log) g.tries g.version = subst (MeetsBy log file v) at p in
    subst (λ (z : Fetch). Told (attempts_with (attempts_in log) (Took (message.Answer x b))) z.tries z.version) (sym f_is)
    (subst (λ (d : Body). Told (attempts_with (attempts_in log) (Took (message.Answer x d))) g.tries g.version) (sym is) (other_version g.version piece.attr, read_told (attempts_in log) x g.tries (record { told = Some g.version; met = was.0 }) piece was.1))

none_close : (log : List Deal) (file : ℕ) (v : List ℕ) (t : Stage) → stage_word t ≡ words.Close → MeetsBy log file v t
none_close log file v (stage.Making y temp) e = tt
none_close log file v (stage.Storing w) e = tt
none_close log file v (stage.Committing y) e = tt
none_close log file v (stage.Walking y z) e = absurd (goal_not_close z.goal e)
none_close log file v t e = absurd cc

opened_not : (file len : ℕ) (digest : List ℕ) (first last : ℕ) → outcome.Opened file len digest ≡ outcome.Changed first last → ⊥
opened_not file len digest first last z = absurd cc

meets_cases : (log : List Deal) (s : client.State) (calls : List Pending) (file : ℕ) (v : List ℕ) (st : Stage) (x : ℕ) (b : Body) → MeetsBy log file v st → OfOpens (Meets log x b st) s calls file st x b
meets_cases log s calls file v st x b p = record {
  closes = λ close r goes unopened unchanged. (
    λ g w u running is. none_close (log ++ deals_with (message.Answer x b ∷ []) [] r.1.send) g w u.stage (goes u running is),
    λ first last is. absurd (unchanged first last is),
    λ open_. absurd (open_and_close (stage_word st) open_ close),
  );
  renews = λ renew r e unchanged. ((λ g w u running is. nothing_there e.ended (sym running ∙ e.ended_is)), (λ first last is. absurd (unchanged first last is)), λ open_. absurd (renew_and_open (stage_word st) renew open_));
  ends = λ open_ r e unchanged. (
    λ g w u running. nothing_there e.ended (sym running ∙ e.ended_is),
    λ first last is. absurd (unchanged first last is),
    λ w. subst (λ (ms : List Message). Fine (attempts_in (log ++ deals_with (message.Answer x b ∷ []) [] ms))) (sym e.sent) (quiet_met log file v st x b [] [] p refl w),
  );
  uses = λ y l bytes at is kept. (
    λ g w u running. nothing_there _ (sym running),
    λ first last (e, ended, c). absurd (opened_not file _ _ first last (ap (λ (z : Ended). z.outcome) (some_is _ e ended) ∙ c)),
    λ w. quiet_met log file v st x b [] [] p refl w,
  );
  fetches = λ y l at is.
      let was : attempts_in log ≡ no_attempt = subst (MeetsBy log file v) at p in
      let now : Tries (attempts_in (log ++ deals_with (message.Answer x b ∷ []) [] (hash_call s.lbfs s.next_xid file 0 ∷ []))) 1 new_attempt = subst (λ (t : Attempts). Tries t 1 new_attempt) (sym (joined_log log x b [] (hash_call s.lbfs s.next_xid file 0 ∷ []) ∙ ap (λ (c : Body). begun_anew (attempts_with (attempts_in log) (Took (message.Answer x c)))) is ∙ ap begun_anew was)) (refl, refl, tt, omega arith) in (
        λ h w u running task. subst (λ (z : Task). MeetsBy (log ++ deals_with (message.Answer x b ∷ []) [] (hash_call s.lbfs s.next_xid file 0 ∷ [])) h w z.stage) (some_is _ u task) now,
        λ first last (e, ended, z). nothing_there e ended,
        λ w. tries_fine (attempts_in (log ++ deals_with (message.Answer x b ∷ []) [] (hash_call s.lbfs s.next_xid file 0 ∷ []))) 1 new_attempt now,
      );
  anew = λ f version bytes open_ gave few came.
      let g = gave_up log file v st x b f version p gave in
      let now : Tries (attempts_in (log ++ deals_with (message.Answer x b ∷ []) [] (hash_call s.lbfs s.next_xid file 0 ∷ []))) (f.tries + 1) new_attempt = subst (λ (t : Attempts). Tries t (f.tries + 1) new_attempt) (sym (joined_log log x b [] (hash_call s.lbfs s.next_xid file 0 ∷ []))) (given_more (attempts_with (attempts_in log) (Took (message.Answer x b))) f.tries f.version version g.0 g.1 (below f.tries few)) in (
        λ h w u running is. subst (λ (z : Task). MeetsBy (log ++ deals_with (message.Answer x b ∷ []) [] (hash_call s.lbfs s.next_xid file 0 ∷ [])) h w z.stage) (some_is _ u is) now,
        λ first last (e, is, z). nothing_there e is,
        λ w. tries_fine (attempts_in (log ++ deals_with (message.Answer x b ∷ []) [] (hash_call s.lbfs s.next_xid file 0 ∷ []))) (f.tries + 1) new_attempt now,
      );
  changed = λ r f version e open_ gave many is.
      let g = gave_up log file v st x b f version p gave in
      let all : f.tries ≡ tries_most = at_most f.tries many g.0.3 in
      let count = g.0.1 in
      let now : attempts_in (log ++ deals_with (message.Answer x b ∷ []) [] r.1.send) ≡ attempts_with (attempts_in log) (Took (message.Answer x b)) = ap (λ (ms : List Message). attempts_in (log ++ deals_with (message.Answer x b ∷ []) [] ms)) e.sent ∙ joined_log log x b [] [] in
      let fine = tries_fine (attempts_with (attempts_in log) (Took (message.Answer x b))) f.tries (record { told = Some f.version; met = Some version }) g.0 in (
        λ h w u running. nothing_there e.ended (sym running ∙ e.ended_is),
        λ first last (y, at, c).
            let told_is : outcome.Changed f.version version ≡ outcome.Changed first last = sym is.2 ∙ ap (λ (z : Ended). z.outcome) (some_is is.0 y (sym is.1 ∙ at)) ∙ c in
            subst (λ (t : Attempts). Fine t × (length t.failed + 1 ≡ tries_most) × ((a : Attempt) × (t.last ≡ Some a) × HasMet first last a)) (sym now)
            (fine, count ∙ all, (record { told = Some f.version; met = Some version }, g.0.0, (ap (λ n. Some n) (ap first_of told_is), ap (λ n. Some n) (ap last_of told_is), λ same. g.1 (ap first_of told_is ∙ same ∙ sym (ap last_of told_is))))),
        λ w. subst Fine (sym now) fine,
      );
  lists = λ f h is at same far.
      let told = told_in log file v st x b h f p is at in
      let m : Message = hash_call s.lbfs s.next_xid file (end_of (with_hashes f h).chunks) in
      let quiet : attempts_from (attempts_with (attempts_in log) (Took (message.Answer x b))) (map Sent (m ∷ [])) ≡ attempts_with (attempts_in log) (Took (message.Answer x b)) = ap (λ t. begun_if t (attempts_with (attempts_in log) (Took (message.Answer x b)))) far in
      let now : Told (attempts_in (log ++ deals_with (message.Answer x b ∷ []) [] (m ∷ []))) f.tries f.version = subst (λ (t : Attempts). Told t f.tries f.version) (sym (joined_log log x b [] (m ∷ []) ∙ quiet)) told in (
        λ g w u running task. subst (λ (z : Task). MeetsBy (log ++ deals_with (message.Answer x b ∷ []) [] (m ∷ [])) g w z.stage) (some_is _ u task) now,
        λ first last (e, ended, c). nothing_there e ended,
        λ open_. quiet_met log file v st x b [] (m ∷ []) p quiet open_,
      );
  reads = λ f bytes now here.
      let t = attempts_with (attempts_in log) (Took (message.Answer x b)) in
      let r = reads_of s file f in
      let q = reads_quiet t s file f in
      let fs = Rattle.kept_promise.proofs.StepCases.given s file f in
      let on : Told (attempts_in (log ++ deals_with (message.Answer x b ∷ []) fs r.send)) r.fetch.tries r.fetch.version = subst (λ (z : Attempts). Told z r.fetch.tries r.fetch.version) (sym (joined_log log x b fs r.send ∙ q.none)) (subst (λ n. Told t n r.fetch.version) (sym q.tries) (subst (Told t f.tries) (sym q.version) (told_now log file v st x b f bytes p now))) in (
        λ g w u running is. subst (λ (z : Task). MeetsBy (log ++ deals_with (message.Answer x b ∷ []) fs r.send) g w z.stage) (some_is _ u is) on,
        λ first last (e, is, c). nothing_there e is,
        λ open_. quiet_met log file v st x b fs r.send p q.none open_,
      );
  opens = λ f bytes now here. (
    λ g w u running. nothing_there _ (sym running),
    λ first last (e, is, c). absurd (opened_not file _ _ first last (ap (λ (z : Ended). z.outcome) (some_is _ e is) ∙ c)),
    λ open_. quiet_met log file v st x b (Rattle.kept_promise.proofs.StepCases.given s file f) [] p refl open_,
  );
}
  where
    below : (n : ℕ) → nat_lt n tries_most ≡ true → n + 1 ≤ tries_most
    below n e = grind (arith, nat_tests, e)

    at_most : (n : ℕ) → nat_lt n tries_most ≡ false → n ≤ tries_most → n ≡ tries_most
    at_most n e le = grind (arith, nat_tests, e, le)

    first_of : Outcome → ℕ
    first_of (outcome.Changed first last) = first
    first_of o = 0

    last_of : Outcome → ℕ
    last_of (outcome.Changed first last) = last
    last_of o = 0

-- an outcome of the history is that of a step
changed_by : (u : Outcome) (first last : ℕ) → told_of u ≡ told.Changed first last → u ≡ outcome.Changed first last
changed_by (outcome.Changed a b) first last e = ap (λ (z : History). outcome.Changed (first_in z) (last_in z)) e
  where
    first_in : History → ℕ
    first_in (told.Changed a b) = a
    first_in u = 0

    last_in : History → ℕ
    last_in (told.Changed a b) = b
    last_in u = 0
changed_by u first last e = absurd cc

meets_heard : (book more : Book) (taken : List TakenCall) (j : Job) (o : Op) (p : ℕ) (s : client.State) (x : ℕ) (b : Body) → Answering book more taken j o p s x b (took (idle s) (client.calls_of s) j.file j.stage x b) → (log : List Deal) → MeetsBy log o.file o.value j.stage
    → Answered MeetsBy OpenMet book taken o log x b (found_in s j.file j.stage x b) (took (idle s) (client.calls_of s) j.file j.stage x b)
meets_heard book more taken j o p s x b a log h = record {
  stage = λ u running is. left.0 (op_after o r.0 taken (book.steps + 1) r.1).file (op_after o r.0 taken (book.steps + 1) r.1).value u running is;
  each = by (op_after o r.0 taken (book.steps + 1) r.1).word refl;
}
  where
    r : client.State × ClientStep
    r = took (idle s) (client.calls_of s) j.file j.stage x b

    log2 : List Deal
    log2 = log ++ deals_with (message.Answer x b ∷ []) (found_in s j.file j.stage x b) (took (idle s) (client.calls_of s) j.file j.stage x b).1.send

    known : IsOfFile j.stage
    known = a.known

    left : Meets log x b j.stage (found_in s j.file j.stage x b) (took (idle s) (client.calls_of s) j.file j.stage x b)
    left = took_cases (Meets log x b j.stage) (idle s) (client.calls_of s) j.file j.stage x b known (λ found r g until lease is z. z) (of_opens (Meets log x b j.stage) (idle s) (client.calls_of s) j.file j.stage x b known (meets_cases log (idle s) (client.calls_of s) j.file o.value j.stage x b (subst (λ f. MeetsBy log f o.value j.stage) a.taking.file h)))

    running_not : (first last : ℕ) → told.Running ≡ told.Changed first last → ⊥
    running_not first last z = absurd cc

    ended : (l : Option Ended) (first last : ℕ) → (op_after o r.0 taken (book.steps + 1) (record r.1 { ended = l })).outcome ≡ told.Changed first last → (e : Ended) × (l ≡ Some e) × (e.outcome ≡ outcome.Changed first last)
    ended None first last is = absurd (running_not first last (sym a.taking.running ∙ is))
    ended (Some e) first last is = (e, refl, changed_by e.outcome first last is)

    met : stage_word j.stage ≡ words.Open → (u : History) → (op_after o r.0 taken (book.steps + 1) r.1).outcome ≡ u → Met log2 u
    met open_ (told.Changed first last) is = left.1 first last (ended r.1.ended first last is)
    met open_ u is = left.2 open_

    by : (w : Word) → (op_after o r.0 taken (book.steps + 1) r.1).word ≡ w → OpenMet log2 w (op_after o r.0 taken (book.steps + 1) r.1).file (op_after o r.0 taken (book.steps + 1) r.1).value (op_after o r.0 taken (book.steps + 1) r.1).outcome
    by words.Open e = met (sym a.taking.word ∙ sym (word_after o r.0 taken (book.steps + 1) r.1) ∙ e) (op_after o r.0 taken (book.steps + 1) r.1).outcome refl
    by w e = tt

pub meets_laws : (all : List Moment) → LogLaws all MeetsBy OpenMet
meets_laws all = record {
  walks = λ log file v x w h. h;
  walked = λ log file v x w h. h;
  none = λ w file v u un same log names. none w file v u same log names;
  now = λ log file v len digest names. none words.Open file v (told.Opened len digest) (λ first last e. unchanged len digest first last e) log names;
  asks = λ log names lbfs x file v. names_begun log (Sent (lease_call lbfs x file)) names;
  opens = λ log names lbfs x file v. subst (λ (t : Attempts). Tries t 1 new_attempt) (sym (names_begun log (Sent (hash_call lbfs x file 0)) names)) (refl, refl, tt, (let le : 1 ≤ tries_most = omega arith in le));
  renews = λ log names lbfs x file v. tt;
  closes = λ lbfs x temp file v. tt;
  moves = λ log file other v w u gets. by_getting (λ z. OpenMet log z file v u → OpenMet log z other v u) (λ h. h) (λ h. h) (λ h. h) w gets;
  other = λ log file v st u of p un same. other log file v st u of p same;
  heard = λ book more taken j o p s x b all_is a log h. meets_heard book more taken j o p s x b a log h;
}
  where
    unchanged : (len : ℕ) (digest : List ℕ) (first last : ℕ) → told.Opened len digest ≡ told.Changed first last → ⊥
    unchanged len digest first last e = absurd cc

    plain : (log : List Deal) (u : History) → Fine (attempts_in log) → IsUnchanged u → Met log u
    plain log (told.Changed first last) h same = absurd (same first last refl)
    plain log u h same = h

    none : (w : Word) (file : ℕ) (v : List ℕ) (u : History) → IsUnchanged u → (log : List Deal) → NamesOnly log → OpenMet log w file v u
    none words.Open file v u same log names = plain log u (names_fine log names) same
    none w file v u same log names = tt

    other : (log : List Deal) (file : ℕ) (v : List ℕ) (st : Stage) (u : History) → IsOfFile st → MeetsBy log file v st → IsUnchanged u → OpenMet log (stage_word st) file v u
    other log file v (stage.Walking x w) u of p same = absurd of
    other log file v (stage.Rewriting x) u of p same = tt
    other log file v (stage.Making x temp) u of p same = tt
    other log file v (stage.Storing st) u of p same = tt
    other log file v (stage.Committing x) u of p same = tt
    other log file v e u of p same = plain log u (all_met log file v e p refl) same

-- ---- what it makes of the promise

pub attempts_met : (past : List Moment) (o : Op) → o.word ≡ words.Open → OpenMet (deals_of o past) o.word o.file o.value o.outcome → AttemptsMet o (deals_of o past)
attempts_met past o open_ h = record { each = (fine_of (deals_of o past) o.outcome met).0; changed = λ first last is. let w = subst (Met (deals_of o past)) is met in (w.1, w.2) }
  where
    met : Met (deals_of o past) o.outcome
    met = subst (λ w. OpenMet (deals_of o past) w o.file o.value o.outcome) open_ h

    fine_of : (log : List Deal) (u : History) → Met log u → Fine (attempts_in log)
    fine_of log (told.Changed first last) h = h.0
    fine_of log u h = h

-- how many began
abbrev pub count_of : Attempts → ℕ
count_of t = length t.failed + length (given_up t.last)

pub begun_count : (log : List Deal) (t : Attempts) → count_of (attempts_from t log) ≡ count_of t + begins_in log
begun_count [] t = omega arith
begun_count (d ∷ log) t = let h = begun_count log (attempts_with t d) in let e = one d in omega (arith, h, e)
  where
    same : (g : Attempt → Attempt) (l : Option Attempt) → length (given_up (option_map g l)) ≡ length (given_up l)
    same g None = refl
    same g (Some a) = refl

    anew : (b : Bool) → count_of (begun_if b t) ≡ count_of t + Rattle.kept_promise.proofs.Common.number_if b 1
    anew true = let l = length-append t.failed (given_up t.last) in omega (arith, l)
    anew false = omega arith

    one : (d : Deal) → count_of (attempts_with t d) ≡ count_of t + (begins_in (d ∷ []))
    one (Sent (message.Call xid (body.Lb (lb.GetHash a)))) = let h = anew (a.offset == 0) in omega (arith, h)
    one (Took (message.Answer xid (body.Lb (lb.GetHashAnswer (Done h))))) = let e = same (λ (z : Attempt). told_if z.told h.version) t.last in omega (arith, e)
    one (Took (message.Answer xid (body.Nfs (nfs.ReadAnswer (Done p))))) = let e = same (λ (z : Attempt). shown_if z.told p.attr) t.last in omega (arith, e)
    one d = omega arith

-- where none began, none is under way
pub none_begun : (log : List Deal) → begins_in log ≡ 0 → (attempts_in log).last ≡ None
none_begun log none = let c = begun_count log no_attempt in by (attempts_in log).last (omega (arith, c, none))
  where
    by : (l : Option Attempt) → length (given_up l) ≡ 0 → l ≡ None
    by None e = refl
    by (Some a) e = absurd (omega (arith, e))

abbrev IsShut : Word → Type 0
IsShut words.Open = ⊥
IsShut w = Unit {0}

pub attempts_end : (book : Book) (past : List Moment) (o : Op) → IsRight book o → OpenMet (deals_of o past) o.word o.file o.value o.outcome → OpOwn (deals_of o past) o.word o.file o.value o.outcome → AttemptsEnd (sent_of past) o
attempts_end book past o right met own = by o.word refl
  where
    by : (w : Word) → o.word ≡ w → AttemptsEnd (sent_of past) o
    by words.Open open_ =
        let m = attempts_met past o open_ met in
        let n = attempts_log o past in
        let c = begun_count (deals_of o past) no_attempt in
        let few = (fine o.outcome (subst (λ w. OpenMet (deals_of o past) w o.file o.value o.outcome) open_ met)).1 in
        record {
          most = omega (arith, n, c, few);
          all = λ first last is. (let w = m.changed first last is in let k = w.0 in let e = ap (λ (l : Option Attempt). length (given_up l)) w.1.1 in omega (arith, n, c, k, e));
        }
      where
        fine : (u : History) → Met (deals_of o past) u → Fine (attempts_in (deals_of o past))
        fine (told.Changed first last) h = h.0
        fine u h = h
    by w other =
        let n = attempts_log o past in
        let z = none_begin past o (λ open_. not_open w tt (sym other ∙ open_)) own in
        record { most = omega (arith, n, z); all = λ first last is. absurd (not_open w tt (sym other ∙ (subst (Caused book o) is right.cause).0)) }
      where
        not_open : (w : Word) → IsShut w → w ≡ words.Open → ⊥
        not_open w h e = subst IsShut e h

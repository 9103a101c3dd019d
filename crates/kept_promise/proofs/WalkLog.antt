-- What is sent and taken for an operation on names is its walk's, and then its file's.
use Rattle.std.proofs.Common.{◌⊎◌, inl, inr, ◌≡◌, ℕ, List, [], ◌∷◌, ◌++◌, length, Option, Some, None, true, refl, sym, ap, ◌∙◌, subst, map, append-nil}
use Rattle.command_text.specs.declared.command.Command.TheVariants as command
use Rattle.command_text.specs.declared.path.PathCommand.{PathCommand}
use Rattle.nfs3_calls.specs.declared.message.Nfs.{Nfs}
use Rattle.nfs3_calls.specs.declared.message.Nfs.TheVariants as nfs
use Rattle.wire.specs.declared.message.Body.TheVariants as body
use Rattle.wire.specs.declared.message.Message.TheVariants as message
use Rattle.path_calls.specs.Told.{walk_told}
use Rattle.path_calls.specs.Walk.{next_call}
use Rattle.path_calls.specs.declared.answers.Told.{Told as Leading}
use Rattle.path_calls.specs.declared.answers.Told.TheVariants as leading
use Rattle.path_calls.specs.declared.walk.Walk.{Walk}
use Rattle.client_state.specs.State as client
use Rattle.client_state.specs.declared.task.Stage.TheVariants as stage
use Rattle.file_open.specs.Fetching.{asks_kept}
use Rattle.file_open.specs.Rewriting.{asks_version}
use Rattle.open_close.specs.Walking.{is_its, outcome_of}
use Rattle.path_calls.specs.declared.answers.Ended.{Ended as WalkEnd}
use Rattle.path_calls.specs.declared.answers.Ended.TheVariants as walk_end
use Rattle.client_state.specs.declared.step.Outcome.TheVariants as outcome
use Rattle.client_state.specs.declared.step.BadPeer.{BadPeer}
use Rattle.register_model.specs.declared.op.Outcome.{Outcome as History}
use Rattle.register_model.specs.declared.op.Outcome.TheVariants as told
use Rattle.register_model.specs.declared.op.Word.TheVariants as words
use Rattle.trace_ends.specs.Ops.{file_with}
use Rattle.trace_replay.specs.Traffic.{AreOwn, IsOwnCall}
use Rattle.trace_replay.specs.Walking.{Part, Part.asks, Part.waits, IsWalk}
use Rattle.kept_promise.proofs.Common.{Body, Message, Pending, Command, command_step, commit_call, names_all, took, ClientStep, Ended, Stage, Task, Word, told_of, Deal, Deal.Sent, Deal.Took, Deal.Found}
use Rattle.sha1.specs.Sha1.{sha1}
use Rattle.kept_promise.proofs.Lists.{some_is, nothing_there}
use Rattle.kept_promise.proofs.Messages.{stage_word}
use Rattle.kept_promise.proofs.StepCases.{IsOfFile, IsFault, Walks, fronts, walk_cases, took_cases, command_cases, reads_of}
use Rattle.kept_promise.proofs.OwnLog.{Sends, StageChunks, NoneNamed, sends_cases, reads_own, names_own, own_join}
use Rattle.kept_promise.proofs.LogSums.{sent_more}
use Rattle.kept_promise.proofs.WalkRuns.{took_file}

-- ---- what is said

-- an operation goes on as one of this word on its file, in this stage, by what was said since
abbrev pub GoesAs : Word → (id file : ℕ) → List Deal → Stage → Type 0
GoesAs what id file ds st = (id ≡ file) × AreOwn what id [] ds × IsOfFile st × (stage_word st ≡ what)

-- behind what was said so far from this part of a walk on, its client is in this stage: the walk waits there, or its operation goes on as an open, or a rewrite, of this file
abbrev pub IsUnder : Part → List Deal → (file : ℕ) → Stage → Type 0
IsUnder (asks w) (Sent (message.Call xid (body.Nfs m)) ∷ ds) file st = (m ≡ next_call w) × IsUnder (waits xid w) ds file st
IsUnder (waits xid w) [] file st = st ≡ stage.Walking xid w
IsUnder (waits xid w) (Took (message.Answer y (body.Nfs a)) ∷ ds) file st = (y ≡ xid) × (is_its w a ≡ true) × elim (walk_told w a) [ leading.Asks v ↦ IsUnder (asks v) ds file st | leading.Finds id ↦ GoesAs words.Open id file ds st | leading.Rewrites id ↦ GoesAs words.Rewrite id file ds st | _ ↦ ⊥ ]
IsUnder p ds file st = ⊥

-- what its walk leads to, of an operation that ends so
abbrev LedTo : History → Leading → List Deal → Type 0
LedTo u (leading.Asks v) ds = IsWalk u (asks v) ds
LedTo u (leading.Finds id) ds = AreOwn words.Open id [] ds
LedTo u (leading.Rewrites id) ds = AreOwn words.Rewrite id [] ds
LedTo u (leading.Ends e) ds = (ds ≡ []) × (u ≡ told_of (outcome_of e))
LedTo u t ds = ⊥

led : (u : History) (t : Leading) (ds : List Deal) → LedTo u t ds → elim t as (λ (x : Leading). Type 0) [ leading.Asks v ↦ IsWalk u (asks v) ds | leading.Finds id ↦ AreOwn words.Open id [] ds | leading.Rewrites id ↦ AreOwn words.Rewrite id [] ds | leading.Ends e ↦ (ds ≡ []) × (u ≡ told_of (outcome_of e)) | _ ↦ ⊥ ]
led u (leading.Asks v) ds k = k
led u (leading.Finds id) ds k = k
led u (leading.Rewrites id) ds k = k
led u (leading.Ends e) ds k = k
led u t ds k = absurd k

-- where a walk waits, its operation is under way, or its connection was lost
abbrev pub WaitsSo : History → Stage → Type 0
WaitsSo u (stage.Walking x w) = (u ≡ told.Running) ⊎ (u ≡ told.Lost)
WaitsSo u st = Unit {0}

pub runs_so : (st : Stage) → WaitsSo told.Running st
runs_so (stage.Walking x w) = inl refl
runs_so st = tt

pub lost_so : (st : Stage) → WaitsSo told.Lost st
lost_so (stage.Walking x w) = inr refl
lost_so st = tt

-- so it is its walk's
pub under_walk : (u : History) (p : Part) (ds : List Deal) (file : ℕ) (st : Stage) → WaitsSo u st → IsUnder p ds file st → IsWalk u p ds
under_walk u (asks w) (Sent (message.Call xid (body.Nfs m)) ∷ ds) file st so h = (h.0, under_walk u (waits xid w) ds file st so h.1)
under_walk u (waits xid w) [] file st so h = subst (WaitsSo u) h so
under_walk u (waits xid w) (Took (message.Answer y (body.Nfs a)) ∷ ds) file st so h = (h.0, led u (walk_told w a) ds (by (walk_told w a) (λ v k. under_walk u (asks v) ds file st so k) h.2))
  where
    by : (t : Leading) → ((v : Walk) → IsUnder (asks v) ds file st → IsWalk u (asks v) ds) → elim t as (λ (x : Leading). Type 0) [ leading.Asks v ↦ IsUnder (asks v) ds file st | leading.Finds id ↦ GoesAs words.Open id file ds st | leading.Rewrites id ↦ GoesAs words.Rewrite id file ds st | _ ↦ ⊥ ] → LedTo u t ds
    by (leading.Asks v) rest k = rest v k
    by (leading.Finds id) rest k = k.1
    by (leading.Rewrites id) rest k = k.1
    by t rest k = absurd k
under_walk u p ds file st so h = absurd h

-- ---- more is said

-- from where a walk waits on
abbrev FromWait : (later : Stage) → (Part → Type 0) → Type 0
FromWait (stage.Walking x w) z = z (waits x w)
FromWait st z = Unit {0}

module _ (z : List Deal → Part → Type 0)
    (sent : (w : Walk) (x : ℕ) (ds : List Deal) → z ds (waits x w) → z (Sent (message.Call x (body.Nfs (next_call w))) ∷ ds) (asks w))
    (goes : (w v : Walk) (x : ℕ) (a : Nfs) (ds : List Deal) → is_its w a ≡ true → walk_told w a ≡ leading.Asks v → z ds (asks v) → z (Took (message.Answer x (body.Nfs a)) ∷ ds) (waits x w)) where
  -- whatever holds behind a walk that waits holds from its beginning on
  pub walk_more : (p : Part) (ds : List Deal) (file x : ℕ) (w : Walk) → IsUnder p ds file (stage.Walking x w) → (more : List Deal) → z more (waits x w) → z (ds ++ more) p
  walk_more (asks u) (Sent (message.Call y (body.Nfs m)) ∷ ds) file x w h more k = subst (λ (n : Nfs). z (Sent (message.Call y (body.Nfs n)) ∷ (ds ++ more)) (asks u)) (sym h.0) (sent u y (ds ++ more) (walk_more (waits y u) ds file x w h.1 more k))
  walk_more (waits y u) [] file x w h more k = subst (λ (st : Stage). FromWait st (z more)) h k
  walk_more (waits y u) (Took (message.Answer n (body.Nfs a)) ∷ ds) file x w h more k = by (walk_told u a) refl (λ v g. walk_more (asks v) ds file x w g more k) h.2
    where
      by : (t : Leading) → walk_told u a ≡ t → ((v : Walk) → IsUnder (asks v) ds file (stage.Walking x w) → z (ds ++ more) (asks v)) → elim t as (λ (x : Leading). Type 0) [ leading.Asks v ↦ IsUnder (asks v) ds file (stage.Walking x w) | leading.Finds id ↦ GoesAs words.Open id file ds (stage.Walking x w) | leading.Rewrites id ↦ GoesAs words.Rewrite id file ds (stage.Walking x w) | _ ↦ ⊥ ] → z (Took (message.Answer n (body.Nfs a)) ∷ (ds ++ more)) (waits y u)
      by (leading.Asks v) is rest g = subst (λ (m : ℕ). z (Took (message.Answer m (body.Nfs a)) ∷ (ds ++ more)) (waits y u)) (sym h.0) (goes u v y a (ds ++ more) h.1 is (rest v g))
      by (leading.Finds id) is rest g = absurd g.2
      by (leading.Rewrites id) is rest g = absurd g.2
      by t is rest g = absurd g
  walk_more p ds file x w h more k = absurd h

-- what an answer leads to
told_to : (w : Walk) (a : Nfs) (x file : ℕ) (ds : List Deal) (st : Stage) (t : Leading) → is_its w a ≡ true → walk_told w a ≡ t → elim t as (λ (x : Leading). Type 0) [ leading.Asks v ↦ IsUnder (asks v) ds file st | leading.Finds id ↦ GoesAs words.Open id file ds st | leading.Rewrites id ↦ GoesAs words.Rewrite id file ds st | _ ↦ ⊥ ] → IsUnder (waits x w) (Took (message.Answer x (body.Nfs a)) ∷ ds) file st
told_to w a x file ds st t its is k = (refl, its, subst (λ (z : Leading). elim z as (λ (x : Leading). Type 0) [ leading.Asks v ↦ IsUnder (asks v) ds file st | leading.Finds id ↦ GoesAs words.Open id file ds st | leading.Rewrites id ↦ GoesAs words.Rewrite id file ds st | _ ↦ ⊥ ]) (sym is) k)

told_walk : (u : History) (w : Walk) (a : Nfs) (x : ℕ) (ds : List Deal) (t : Leading) → walk_told w a ≡ t → LedTo u t ds → IsWalk u (waits x w) (Took (message.Answer x (body.Nfs a)) ∷ ds)
told_walk u w a x ds t is k = (refl, led u (walk_told w a) ds (subst (λ (z : Leading). LedTo u z ds) (sym is) k))

pub under_more : (p : Part) (ds : List Deal) (file x : ℕ) (w : Walk) → IsUnder p ds file (stage.Walking x w) → (more : List Deal) (later : ℕ) (st : Stage) → IsUnder (waits x w) more later st → IsUnder p (ds ++ more) later st
under_more p ds file x w h more later st k = walk_more (λ (l : List Deal) (q : Part). IsUnder q l later st) (λ u y l g. (refl, g)) (λ u v y a l its is g. told_to u a y later l st (leading.Asks v) its is g) p ds file x w h more k

-- a walk that is under way has no file yet
pub under_walking : (p : Part) (ds : List Deal) (f g x : ℕ) (w : Walk) → IsUnder p ds f (stage.Walking x w) → IsUnder p ds g (stage.Walking x w)
under_walking p ds f g x w h = subst (λ (l : List Deal). IsUnder p l g (stage.Walking x w)) (append-nil ds) (under_more p ds f x w h [] g (stage.Walking x w) refl)

pub over_more : (o : History) (p : Part) (ds : List Deal) (file x : ℕ) (w : Walk) → IsUnder p ds file (stage.Walking x w) → (more : List Deal) → IsWalk o (waits x w) more → IsWalk o p (ds ++ more)
over_more o p ds file x w h more k = walk_more (λ (l : List Deal) (q : Part). IsWalk o q l) (λ u y l g. (refl, g)) (λ u v y a l its is g. told_walk o u a y l (leading.Asks v) is g) p ds file x w h more k

-- what was said ends by giving up
abbrev pub GaveUp : Part → List Deal → Type 0
GaveUp (asks w) (Sent (message.Call xid (body.Nfs m)) ∷ ds) = (m ≡ next_call w) × GaveUp (waits xid w) ds
GaveUp (waits xid w) (Took (message.Answer y (body.Nfs a)) ∷ ds) = (y ≡ xid) × (is_its w a ≡ true) × elim (walk_told w a) [ leading.Asks v ↦ GaveUp (asks v) ds | leading.Ends e ↦ (ds ≡ []) × (e ≡ walk_end.NoLink) | _ ↦ ⊥ ]
GaveUp p ds = ⊥

told_gave : (w : Walk) (a : Nfs) (x : ℕ) (ds : List Deal) (t : Leading) → is_its w a ≡ true → walk_told w a ≡ t → elim t as (λ (x : Leading). Type 0) [ leading.Asks v ↦ GaveUp (asks v) ds | leading.Ends e ↦ (ds ≡ []) × (e ≡ walk_end.NoLink) | _ ↦ ⊥ ] → GaveUp (waits x w) (Took (message.Answer x (body.Nfs a)) ∷ ds)
told_gave w a x ds t its is k = (refl, its, subst (λ (z : Leading). elim z as (λ (x : Leading). Type 0) [ leading.Asks v ↦ GaveUp (asks v) ds | leading.Ends e ↦ (ds ≡ []) × (e ≡ walk_end.NoLink) | _ ↦ ⊥ ]) (sym is) k)

gave_more : (p : Part) (ds : List Deal) (file x : ℕ) (w : Walk) → IsUnder p ds file (stage.Walking x w) → (more : List Deal) → GaveUp (waits x w) more → GaveUp p (ds ++ more)
gave_more p ds file x w h more k = walk_more (λ (l : List Deal) (q : Part). GaveUp q l) (λ u y l g. (refl, g)) (λ u v y a l its is g. told_gave u a y l (leading.Asks v) its is g) p ds file x w h more k

end_no_link : (e : WalkEnd) → outcome_of e ≡ outcome.NoLink → e ≡ walk_end.NoLink
end_no_link walk_end.NoLink h = refl
end_no_link _ h = absurd cc

-- an open, or a rewrite, goes on with its own calls
pub file_more : (p : Part) (ds : List Deal) (file : ℕ) (st : Stage) → IsUnder p ds file st → IsOfFile st → (more : List Deal) → AreOwn (stage_word st) file [] more → (next : Stage) → IsOfFile next → stage_word next ≡ stage_word st → IsUnder p (ds ++ more) file next
file_more (asks u) (Sent (message.Call y (body.Nfs m)) ∷ ds) file st h of more own next there word = (h.0, file_more (waits y u) ds file st h.1 of more own next there word)
file_more (waits y u) [] file st h of more own next there word = absurd (subst IsOfFile h of)
file_more (waits y u) (Took (message.Answer n (body.Nfs a)) ∷ ds) file st h of more own next there word = (h.0, h.1, by (walk_told u a) (λ v k. file_more (asks v) ds file st k of more own next there word) h.2)
  where
    goes : (what : Word) (id : ℕ) → GoesAs what id file ds st → GoesAs what id file (ds ++ more) next
    goes what id k = (k.0, own_join what id [] ds more k.1 (subst (λ (f : ℕ). AreOwn what f [] more) (sym k.0) (subst (λ (z : Word). AreOwn z file [] more) k.3 own)), there, word ∙ k.3)

    by : (t : Leading) → ((v : Walk) → IsUnder (asks v) ds file st → IsUnder (asks v) (ds ++ more) file next) → elim t as (λ (x : Leading). Type 0) [ leading.Asks v ↦ IsUnder (asks v) ds file st | leading.Finds id ↦ GoesAs words.Open id file ds st | leading.Rewrites id ↦ GoesAs words.Rewrite id file ds st | _ ↦ ⊥ ] → elim t as (λ (x : Leading). Type 0) [ leading.Asks v ↦ IsUnder (asks v) (ds ++ more) file next | leading.Finds id ↦ GoesAs words.Open id file (ds ++ more) next | leading.Rewrites id ↦ GoesAs words.Rewrite id file (ds ++ more) next | _ ↦ ⊥ ]
    by (leading.Asks v) rest k = rest v k
    by (leading.Finds id) rest k = goes words.Open id k
    by (leading.Rewrites id) rest k = goes words.Rewrite id k
    by t rest k = absurd k
file_more p ds file st h of more own next there word = absurd h

-- one that opens a file, or writes it anew
abbrev pub IsGetting : Word → Type 0
IsGetting what = (what ≡ words.Open) ⊎ (what ≡ words.Rewrite)

pub under_word : (p : Part) (ds : List Deal) (file : ℕ) (st : Stage) → IsUnder p ds file st → IsOfFile st → IsGetting (stage_word st)
under_word (asks u) (Sent (message.Call y (body.Nfs m)) ∷ ds) file st h of = under_word (waits y u) ds file st h.1 of
under_word (waits y u) [] file st h of = absurd (subst IsOfFile h of)
under_word (waits y u) (Took (message.Answer n (body.Nfs a)) ∷ ds) file st h of = by (walk_told u a) (λ v k. under_word (asks v) ds file st k of) h.2
  where
    by : (t : Leading) → ((v : Walk) → IsUnder (asks v) ds file st → IsGetting (stage_word st)) → elim t as (λ (x : Leading). Type 0) [ leading.Asks v ↦ IsUnder (asks v) ds file st | leading.Finds id ↦ GoesAs words.Open id file ds st | leading.Rewrites id ↦ GoesAs words.Rewrite id file ds st | _ ↦ ⊥ ] → IsGetting (stage_word st)
    by (leading.Asks v) rest k = rest v k
    by (leading.Finds id) rest k = inl k.3
    by (leading.Rewrites id) rest k = inr k.3
    by t rest k = absurd k
under_word p ds file st h of = absurd h

-- ---- an answer comes

-- how an operation under way is told by what ends it
abbrev pub outcome_by : Option Ended → History
outcome_by None = told.Running
outcome_by (Some e) = told_of e.outcome

-- what is true then, of an operation with this file
pub record SaidOn (p : Part) (log : List Deal) (file : ℕ) (r : client.State × ClientStep) : Type 0 where
  pub stage : (u : Task) → r.1.ended ≡ None → r.0.task ≡ Some u → IsUnder p log file u.stage
  pub each : IsWalk (outcome_by r.1.ended) p log

-- behind the answer
abbrev pub SaidBy : Part → List Deal → (file x : ℕ) → Body → client.State × ClientStep → Type 0
SaidBy p log file x b r = (IsFault r.1.ended → ⊥) → SaidOn p (log ++ Took (message.Answer x b) ∷ map Sent r.1.send) (file_with file r.1.found) r

-- a walk that ends so gave up
abbrev pub GaveBy : Part → List Deal → (x : ℕ) → Body → client.State × ClientStep → Type 0
GaveBy p log x b r = (e : Ended) → r.1.ended ≡ Some e → e.outcome ≡ outcome.NoLink → GaveUp p (log ++ Took (message.Answer x b) ∷ map Sent r.1.send)

not_given : (f : BadPeer) → outcome.BadPeer f ≡ outcome.NoLink → ⊥
not_given f e = absurd cc

not_already : outcome.AlreadyOpen ≡ outcome.NoLink → ⊥
not_already e = absurd cc

not_opened : (file len : ℕ) (digest : List ℕ) → outcome.Opened file len digest ≡ outcome.NoLink → ⊥
not_opened file len digest e = absurd cc

not_done : outcome.Done ≡ outcome.NoLink → ⊥
not_done e = absurd cc

pub walk_gave : (p : Part) (log : List Deal) (file : ℕ) (s : client.State) (calls : List Pending) (task y : ℕ) (w : Walk) (x : ℕ) (b : Body) → x ≡ y → IsUnder p log file (stage.Walking y w) → GaveBy p log x b (took s calls task (stage.Walking y w) x b)
walk_gave p log file s calls task y w x b same h = walk_cases (GaveBy p log x b) s calls task y w x b (record {
  fault = λ f bad e at link. absurd (not_given f (ap (λ (z : Ended). z.outcome) (some_is _ e at) ∙ link));
  asks = λ v k e at link. nothing_there e at;
  open_already = λ id k is e at link. absurd (not_already (ap (λ (z : Ended). z.outcome) (some_is _ e at) ∙ link));
  fetches = λ id k shut none e at link. nothing_there e at;
  leases = λ id c k shut there e at link. nothing_there e at;
  opens_now = λ id c k shut fresh e at link. absurd (not_opened id (length c.bytes) (sha1 c.bytes) (ap (λ (z : Ended). z.outcome) (some_is _ e at) ∙ link));
  empties_now = λ id c k shut fresh e at link. absurd (not_done (ap (λ (z : Ended). z.outcome) (some_is _ e at) ∙ link));
  renew_already = λ id k is e at link. absurd (not_already (ap (λ (z : Ended). z.outcome) (some_is _ e at) ∙ link));
  renews = λ id k shut e at link. nothing_there e at;
  ends = λ v z k is e at link. gave_more p log file y w h (Took (message.Answer x b) ∷ []) (takes (λ (m : Deal). GaveUp (waits y w) (m ∷ [])) k (told_gave w k.answer y [] (leading.Ends z) (its k) (told_by k) (refl, end_no_link z (ap (λ (q : Ended). q.outcome) (some_is _ e at) ∙ link))));
})
  where
    walk_is : (z : ℕ) (v : Walk) → stage.Walking y w ≡ stage.Walking z v → w ≡ v
    walk_is z v e = cc

    told_by : {t : Leading} (k : Walks (stage.Walking y w) b t) → walk_told w k.answer ≡ t
    told_by k = ap (λ (u : Walk). walk_told u k.answer) (walk_is k.asked k.walk k.stage_is) ∙ k.told_is

    its : {t : Leading} (k : Walks (stage.Walking y w) b t) → is_its w k.answer ≡ true
    its k = ap (λ (u : Walk). is_its u k.answer) (walk_is k.asked k.walk k.stage_is) ∙ k.its

    takes : (z : Deal → Type 0) {t : Leading} (k : Walks (stage.Walking y w) b t) → z (Took (message.Answer y (body.Nfs k.answer))) → z (Took (message.Answer x b))
    takes z k h = subst (λ (c : Body). z (Took (message.Answer x c))) (sym k.body_is) (subst (λ (n : ℕ). z (Took (message.Answer n (body.Nfs k.answer)))) (sym same) h)

-- to a walk
pub walk_said : (p : Part) (log : List Deal) (file : ℕ) (s : client.State) (calls : List Pending) (task y : ℕ) (w : Walk) (x : ℕ) (b : Body) → x ≡ y → IsUnder p log file (stage.Walking y w) → SaidBy p log file x b (took s calls task (stage.Walking y w) x b)
walk_said p log file s calls task y w x b same h = walk_cases (SaidBy p log file x b) s calls task y w x b (record {
  fault = λ f bad no. absurd (no (f, refl));
  asks = λ v k no. record {
    stage = λ u running is. subst (λ (t : Task). IsUnder p (log ++ Took (message.Answer x b) ∷ Sent (message.Call s.next_xid (body.Nfs (next_call v))) ∷ []) file t.stage) (some_is (record { file = 0; stage = stage.Walking s.next_xid v }) u is) (under_more p log file y w h (Took (message.Answer x b) ∷ Sent (message.Call s.next_xid (body.Nfs (next_call v))) ∷ []) file (stage.Walking s.next_xid v) (takes (λ (m : Deal). IsUnder (waits y w) (m ∷ Sent (message.Call s.next_xid (body.Nfs (next_call v))) ∷ []) file (stage.Walking s.next_xid v)) k (told_to w k.answer y file (Sent (message.Call s.next_xid (body.Nfs (next_call v))) ∷ []) (stage.Walking s.next_xid v) (leading.Asks v) (its k) (told_by k) (refl, refl))));
    each = over_more told.Running p log file y w h (Took (message.Answer x b) ∷ Sent (message.Call s.next_xid (body.Nfs (next_call v))) ∷ []) (takes (λ (m : Deal). IsWalk told.Running (waits y w) (m ∷ Sent (message.Call s.next_xid (body.Nfs (next_call v))) ∷ [])) k (told_walk told.Running w k.answer y (Sent (message.Call s.next_xid (body.Nfs (next_call v))) ∷ []) (leading.Asks v) (told_by k) (refl, inl refl)));
  };
  open_already = λ id k is no. record {
    stage = λ u running. nothing_there _ (sym running);
    each = over_more told.AlreadyOpen p log file y w h (Took (message.Answer x b) ∷ []) (takes (λ (m : Deal). IsWalk told.AlreadyOpen (waits y w) (m ∷ [])) k (told_walk told.AlreadyOpen w k.answer y [] (leading.Finds id) (told_by k) tt));
  };
  fetches = λ id k shut none no. record {
    stage = λ u running is. subst (λ (t : Task). IsUnder p (log ++ Took (message.Answer x b) ∷ map Sent (asks_kept (fronts s id) id None).1.send) id t.stage) (some_is (record { file = id; stage = stage.Hashing 1 s.next_xid }) u is) (under_more p log file y w h (Took (message.Answer x b) ∷ map Sent (asks_kept (fronts s id) id None).1.send) id (stage.Hashing 1 s.next_xid) (takes (λ (m : Deal). IsUnder (waits y w) (m ∷ map Sent (asks_kept (fronts s id) id None).1.send) id (stage.Hashing 1 s.next_xid)) k (told_to w k.answer y id (map Sent (asks_kept (fronts s id) id None).1.send) (stage.Hashing 1 s.next_xid) (leading.Finds id) (its k) (told_by k) (refl, (refl, tt), tt, refl))));
    each = over_more told.Running p log file y w h (Took (message.Answer x b) ∷ map Sent (asks_kept (fronts s id) id None).1.send) (takes (λ (m : Deal). IsWalk told.Running (waits y w) (m ∷ map Sent (asks_kept (fronts s id) id None).1.send)) k (told_walk told.Running w k.answer y (map Sent (asks_kept (fronts s id) id None).1.send) (leading.Finds id) (told_by k) (refl, tt)));
  };
  leases = λ id c k shut there no. record {
    stage = λ u running is. subst (λ (t : Task). IsUnder p (log ++ Took (message.Answer x b) ∷ map Sent (asks_kept (fronts s id) id (Some c)).1.send) id t.stage) (some_is (record { file = id; stage = stage.Asking s.next_xid }) u is) (under_more p log file y w h (Took (message.Answer x b) ∷ map Sent (asks_kept (fronts s id) id (Some c)).1.send) id (stage.Asking s.next_xid) (takes (λ (m : Deal). IsUnder (waits y w) (m ∷ map Sent (asks_kept (fronts s id) id (Some c)).1.send) id (stage.Asking s.next_xid)) k (told_to w k.answer y id (map Sent (asks_kept (fronts s id) id (Some c)).1.send) (stage.Asking s.next_xid) (leading.Finds id) (its k) (told_by k) (refl, (refl, tt), tt, refl))));
    each = over_more told.Running p log file y w h (Took (message.Answer x b) ∷ map Sent (asks_kept (fronts s id) id (Some c)).1.send) (takes (λ (m : Deal). IsWalk told.Running (waits y w) (m ∷ map Sent (asks_kept (fronts s id) id (Some c)).1.send)) k (told_walk told.Running w k.answer y (map Sent (asks_kept (fronts s id) id (Some c)).1.send) (leading.Finds id) (told_by k) (refl, tt)));
  };
  renew_already = λ id k is no. record {
    stage = λ u running. nothing_there _ (sym running);
    each = over_more told.AlreadyOpen p log file y w h (Took (message.Answer x b) ∷ []) (takes (λ (m : Deal). IsWalk told.AlreadyOpen (waits y w) (m ∷ [])) k (told_walk told.AlreadyOpen w k.answer y [] (leading.Rewrites id) (told_by k) tt));
  };
  renews = λ id k shut no. record {
    stage = λ u running is. subst (λ (t : Task). IsUnder p (log ++ Took (message.Answer x b) ∷ map Sent (asks_version (fronts s id) id).1.send) id t.stage) (some_is (record { file = id; stage = stage.Rewriting s.next_xid }) u is) (under_more p log file y w h (Took (message.Answer x b) ∷ map Sent (asks_version (fronts s id) id).1.send) id (stage.Rewriting s.next_xid) (takes (λ (m : Deal). IsUnder (waits y w) (m ∷ map Sent (asks_version (fronts s id) id).1.send) id (stage.Rewriting s.next_xid)) k (told_to w k.answer y id (map Sent (asks_version (fronts s id) id).1.send) (stage.Rewriting s.next_xid) (leading.Rewrites id) (its k) (told_by k) (refl, (refl, tt), tt, refl))));
    each = over_more told.Running p log file y w h (Took (message.Answer x b) ∷ map Sent (asks_version (fronts s id) id).1.send) (takes (λ (m : Deal). IsWalk told.Running (waits y w) (m ∷ map Sent (asks_version (fronts s id) id).1.send)) k (told_walk told.Running w k.answer y (map Sent (asks_version (fronts s id) id).1.send) (leading.Rewrites id) (told_by k) (refl, tt)));
  };
  opens_now = λ id c k shut fresh no. record {
    stage = λ u running. nothing_there _ (sym running);
    each = over_more (told.Opened (length c.bytes) (sha1 c.bytes)) p log file y w h (Took (message.Answer x b) ∷ []) (takes (λ (m : Deal). IsWalk (told.Opened (length c.bytes) (sha1 c.bytes)) (waits y w) (m ∷ [])) k (told_walk (told.Opened (length c.bytes) (sha1 c.bytes)) w k.answer y [] (leading.Finds id) (told_by k) tt));
  };
  empties_now = λ id c k shut fresh no. record {
    stage = λ u running. nothing_there _ (sym running);
    each = over_more told.Done p log file y w h (Took (message.Answer x b) ∷ []) (takes (λ (m : Deal). IsWalk told.Done (waits y w) (m ∷ [])) k (told_walk told.Done w k.answer y [] (leading.Rewrites id) (told_by k) tt));
  };
  ends = λ v e k is no. record {
    stage = λ u running. nothing_there _ (sym running);
    each = over_more (told_of (outcome_of e)) p log file y w h (Took (message.Answer x b) ∷ []) (takes (λ (m : Deal). IsWalk (told_of (outcome_of e)) (waits y w) (m ∷ [])) k (told_walk (told_of (outcome_of e)) w k.answer y [] (leading.Ends e) (told_by k) (refl, refl)));
  };
})
  where
    walk_is : (z : ℕ) (v : Walk) → stage.Walking y w ≡ stage.Walking z v → w ≡ v
    walk_is z v e = cc

    told_by : {t : Leading} (k : Walks (stage.Walking y w) b t) → walk_told w k.answer ≡ t
    told_by k = ap (λ (u : Walk). walk_told u k.answer) (walk_is k.asked k.walk k.stage_is) ∙ k.told_is

    its : {t : Leading} (k : Walks (stage.Walking y w) b t) → is_its w k.answer ≡ true
    its k = ap (λ (u : Walk). is_its u k.answer) (walk_is k.asked k.walk k.stage_is) ∙ k.its

    -- it is the one that was waited for
    takes : (z : Deal → Type 0) {t : Leading} (k : Walks (stage.Walking y w) b t) → z (Took (message.Answer y (body.Nfs k.answer))) → z (Took (message.Answer x b))
    takes z k h = subst (λ (c : Body). z (Took (message.Answer x c))) (sym k.body_is) (subst (λ (n : ℕ). z (Took (message.Answer n (body.Nfs k.answer)))) (sym same) h)

found_own : (what : Word) (file : ℕ) (ps : List (ℕ × ℕ)) → AreOwn what file [] (map Found ps)
found_own what file [] = tt
found_own what file (n ∷ ps) = found_own what file ps

-- to an open, or a rewrite, of a file
pub file_said : (p : Part) (log : List Deal) (file : ℕ) (s : client.State) (calls : List Pending) (st : Stage) (x : ℕ) (b : Body) (found : List (ℕ × ℕ)) → IsOfFile st → IsGetting (stage_word st) → IsUnder p log file st → (let r = took s calls file st x b in SaidOn p (log ++ Took (message.Answer x b) ∷ (map Found found ++ map Sent r.1.send)) file r)
file_said p log file s calls st x b found of gets h = record {
  stage = λ u running is. file_more p log file st h of ds own u.stage (took_file s calls file st x b of u is) (sends.0 u running is).0;
  each = over;
}
  where
    r : client.State × ClientStep
    r = took s calls file st x b

    ds : List Deal
    ds = Took (message.Answer x b) ∷ (map Found found ++ map Sent (took s calls file st x b).1.send)

    chunks : (z : Stage) → IsGetting (stage_word z) → StageChunks z []
    chunks (stage.Storing t) (inl e) = absurd cc
    chunks (stage.Storing t) (inr e) = absurd cc
    chunks z e = tt

    sends : Sends (stage_word st) file [] (took s calls file st x b)
    sends = took_cases (λ found r. Sends (stage_word st) file [] r) s calls file st x b of (λ found r g until lease is z. z) (sends_cases s calls file [] st x b (chunks st gets) (λ close. absurd (apart (stage_word st) gets close)))
      where
        apart : (what : Word) → IsGetting what → what ≡ words.Close → ⊥
        apart words.Close (inl e) close = absurd cc
        apart words.Close (inr e) close = absurd cc
        apart what e close = absurd cc

    own : AreOwn (stage_word st) file [] ds
    own = own_join (stage_word st) file [] (map Found found) (map Sent (took s calls file st x b).1.send) (found_own (stage_word st) file found) sends.1

    so : (u : History) (z : Stage) → IsOfFile z → WaitsSo u z
    so u (stage.Walking y w) is = absurd is
    so u z is = tt

    over : IsWalk (outcome_by (took s calls file st x b).1.ended) p (log ++ ds)
    over = under_walk (outcome_by (took s calls file st x b).1.ended) p (log ++ ds) file st (so (outcome_by (took s calls file st x b).1.ended) st of) (file_more p log file st h of ds own st of refl)

-- ---- it begins

pub first_said : (x : ℕ) (w : Walk) (file : ℕ) → IsUnder (asks w) (Sent (message.Call x (body.Nfs (next_call w))) ∷ []) file (stage.Walking x w)
first_said x w file = (refl, refl)

-- ---- an operation of a file by its id

-- it sends no call on names
abbrev pub SendsNone : List Deal → Type 0
SendsNone [] = Unit {0}
SendsNone (Sent (message.Call x (body.Nfs (nfs.Read r))) ∷ ds) = SendsNone ds
SendsNone (Sent (message.Call x (body.Nfs m)) ∷ ds) = ⊥
SendsNone (d ∷ ds) = SendsNone ds

pub none_join : (a b : List Deal) → SendsNone a → SendsNone b → SendsNone (a ++ b)
none_join [] b h k = k
none_join (Took m ∷ a) b h k = none_join a b h k
none_join (Found n ∷ a) b h k = none_join a b h k
none_join (Sent m ∷ a) b h k = by m (λ g. none_join a b g k) h
  where
    by : (m : Message) → (SendsNone a → SendsNone (a ++ b)) → SendsNone (Sent m ∷ a) → SendsNone (Sent m ∷ (a ++ b))
    by (message.Call x (body.Nfs (nfs.Read r))) rest h = rest h
    by (message.Call x (body.Nfs m)) rest h = absurd h
    by m rest h = rest h

found_none : (ps : List (ℕ × ℕ)) → SendsNone (map Found ps)
found_none [] = tt
found_none (n ∷ ps) = found_none ps

-- nor are an open's calls on names, or a rewrite's, or a close's
own_none : (w : Word) (file : ℕ) (v : List ℕ) (ds : List Deal) → AreOwn w file v ds → SendsNone ds
own_none w file v [] h = tt
own_none w file v (Took m ∷ ds) h = own_none w file v ds h
own_none w file v (Found n ∷ ds) h = own_none w file v ds h
own_none w file v (Sent m ∷ ds) h = by w m h.0 (own_none w file v ds h.1)
  where
    by : (w : Word) (m : Message) → IsOwnCall w file v m → SendsNone ds → SendsNone (Sent m ∷ ds)
    by words.Open (message.Call x (body.Lb l)) own k = k
    by words.Open (message.Call x (body.Nfs (nfs.Read r))) own k = k
    by words.Rewrite (message.Call x (body.Lb l)) own k = k
    by words.Close (message.Call x (body.Lb l)) own k = k
    by w m own k = absurd own

file_none : (s : client.State) (calls : List Pending) (file : ℕ) (st : Stage) (x : ℕ) (b : Body) → IsOfFile st → SendsNone (map Sent (took s calls file st x b).1.send)
file_none s calls file st x b of = took_cases (λ found r. SendsNone (map Sent r.1.send)) s calls file st x b of (λ found r g until lease is z. z) (record {
  ends = λ r e unchanged came. quiet r e.sent;
  changed = λ r f version e open_ gave last is. quiet r e.sent;
  uses = λ y l bytes at is kept. tt;
  fetches = λ y l at is. tt;
  anew = λ f version bytes open_ gave few came. tt;
  lists = λ f g is at told far. tt;
  reads = λ f bytes now here. own_none words.Open file [] (map Sent (reads_of s file f).send) (reads_own s file [] f);
  opens = λ f bytes now here. tt;
  names = λ w at known none is. own_none words.Close file (client.local_bytes s.opened file) (map Sent (names_all s.lbfs w s.next_xid).send) (names_own s.lbfs file (client.local_bytes s.opened file) w s.next_xid).0;
  commits = λ w at known none is.
      let n = names_all s.lbfs w s.next_xid in
      let commit : Message = commit_call s.lbfs n.next_xid n.store.temp file (length (client.local_bytes s.opened file)) in
      own_none words.Close file (client.local_bytes s.opened file) (map Sent (n.send ++ commit ∷ [])) (subst (AreOwn words.Close file (client.local_bytes s.opened file)) (sym (sent_more n.send commit)) (own_join words.Close file (client.local_bytes s.opened file) (map Sent n.send) (Sent commit ∷ []) (names_own s.lbfs file (client.local_bytes s.opened file) w s.next_xid).0 ((refl, refl), tt)));
  whole = λ old c k at unknown none found name chunk. tt;
})
  where
    quiet : (r : client.State × ClientStep) → r.1.send ≡ [] → SendsNone (map Sent r.1.send)
    quiet r e = subst (λ (ms : List Message). SendsNone (map Sent ms)) (sym e) tt

-- what is true of one behind an answer
pub record PlainOn (log : List Deal) (r : client.State × ClientStep) : Type 0 where
  pub stage : (u : Task) → r.1.ended ≡ None → r.0.task ≡ Some u → IsOfFile u.stage
  pub each : SendsNone log

pub plain_said : (log : List Deal) (s : client.State) (calls : List Pending) (file : ℕ) (st : Stage) (x : ℕ) (b : Body) (found : List (ℕ × ℕ)) → IsOfFile st → SendsNone log → (let r = took s calls file st x b in PlainOn (log ++ Took (message.Answer x b) ∷ (map Found found ++ map Sent r.1.send)) r)
plain_said log s calls file st x b found of none = record {
  stage = λ u running is. took_file s calls file st x b of u is;
  each = none_join log (Took (message.Answer x b) ∷ (map Found found ++ map Sent (took s calls file st x b).1.send)) none (none_join (map Found found) (map Sent (took s calls file st x b).1.send) (found_none found) (file_none s calls file st x b of));
}

-- a command by an id sends none, and its operation goes on as one of a file
pub command_none : (s : client.State) (d : Command) (now : ℕ) → ((c : PathCommand) → d ≡ command.Named c → ⊥) → SendsNone (map Sent (command_step s d now).1.send)
command_none s d now not = command_cases (λ r. SendsNone (map Sent r.1.send)) s d now (record {
  busy = λ t is. tt;
  answers = λ un opened o plain. tt;
  fetches = λ file is un may. tt;
  asks = λ file kept is un may at. tt;
  renews = λ file is un may. tt;
  opens_now = λ file c is un shut fresh. tt;
  empties_now = λ file c is un shut fresh. tt;
  walks = λ c is un may. absurd (not c is);
  closes = λ file l is un may at. tt;
})

pub command_plain : (s : client.State) (d : Command) (now : ℕ) → ((c : PathCommand) → d ≡ command.Named c → ⊥) → s.task ≡ None → (u : Task) → (command_step s d now).0.task ≡ Some u → IsOfFile u.stage
command_plain s d now not free = command_cases (λ r. (u : Task) → r.0.task ≡ Some u → IsOfFile u.stage) s d now (record {
  busy = λ t is u at. nothing_there t (sym free ∙ is);
  answers = λ un opened o plain u at. nothing_there u (sym free ∙ at);
  fetches = λ file is un may u at. of_task _ u at tt;
  asks = λ file kept is un may has u at. of_task _ u at tt;
  renews = λ file is un may u at. of_task _ u at tt;
  opens_now = λ file c is un shut fresh u at. nothing_there u (sym free ∙ at);
  empties_now = λ file c is un shut fresh u at. nothing_there u (sym free ∙ at);
  walks = λ c is un may u at. absurd (not c is);
  closes = λ file l is un may has u at. of_task _ u at tt;
})
  where
    of_task : (t u : Task) → ◌≡◌ {A = Option Task} (Some t) (Some u) → IsOfFile t.stage → IsOfFile u.stage
    of_task t u e h = subst (λ (z : Task). IsOfFile z.stage) (some_is t u e) h

-- so none of what was sent is on names
pub none_named : (ds : List Deal) → SendsNone ds → NoneNamed ds
none_named [] h = tt
none_named (Took m ∷ ds) h = none_named ds h
none_named (Found n ∷ ds) h = none_named ds h
none_named (Sent m ∷ ds) h = by m (none_named ds) h
  where
    by : (m : Message) → (SendsNone ds → NoneNamed ds) → SendsNone (Sent m ∷ ds) → NoneNamed (Sent m ∷ ds)
    by (message.Call x (body.Nfs (nfs.Read r))) rest h = ((λ z. z), rest h)
    by (message.Call x (body.Nfs m)) rest h = absurd h
    by m rest h = ((λ z. z), rest h)

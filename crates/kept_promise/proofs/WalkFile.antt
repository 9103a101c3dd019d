-- Which file an operation on names has, by the answers that its walk took.
use Rattle.std.proofs.Common.{inl, inr, ◌≡◌, ℕ, List, [], ◌∷◌, ◌++◌, Option, Some, None, Bool, true, false, refl, sym, ap, ◌∙◌, subst, map}
use Rattle.command_text.specs.declared.command.Command.TheVariants as command
use Rattle.command_text.specs.declared.path.PathCommand.{PathCommand}
use Rattle.nfs3_calls.specs.declared.message.Nfs.{Nfs}
use Rattle.wire.specs.declared.message.Body.TheVariants as body
use Rattle.wire.specs.declared.message.Message.TheVariants as message
use Rattle.path_calls.specs.Told.{walk_told}
use Rattle.path_calls.specs.Walk.{begun, next_call}
use Rattle.path_calls.specs.declared.answers.Told.{Told as Leading}
use Rattle.path_calls.specs.declared.answers.Told.TheVariants as leading
use Rattle.path_calls.specs.declared.walk.Walk.{Walk}
use Rattle.client_state.specs.State as client
use Rattle.client_state.specs.Ending.{may_walk}
use Rattle.client_state.specs.Noting.{at as clocked}
use Rattle.client_state.specs.declared.step.Outcome.TheVariants as outcome
use Rattle.client_state.specs.declared.task.Stage.TheVariants as stage
use Rattle.file_open.specs.Fetching.{asks_kept}
use Rattle.file_open.specs.Rewriting.{asks_version}
use Rattle.open_close.specs.Walking.{walks, walks_if}
use Rattle.register_model.specs.Register.{changes}
use Rattle.register_model.specs.declared.op.Word.TheVariants as words
use Rattle.trace_ends.specs.Ops.{file_with, has_point, point_if}
use Rattle.trace_replay.specs.Walking.{Part, Part.asks, Part.waits, IsUnfound, HasWalkFile, HasFoundFile}
use Rattle.kept_promise.proofs.Common.{Body, Pending, Command, command_step, took, Ended, Stage, Task, Word, Op, TakenCall, op_after, Deal, Deal.Sent, Deal.Took, ClientStep, file_of, is_some}
use Rattle.kept_promise.proofs.Messages.{goal_word}
use Rattle.kept_promise.proofs.FindsOpen.{finds_open, finds_rewrite, asks_word}
use Rattle.kept_promise.proofs.StepCases.{IsOfFile, IsFault, Walks, fronts, walk_cases}
use Rattle.kept_promise.proofs.WalkLog.{GoesAs, IsUnder, IsGetting, walk_more}

-- ---- by what an answer leads to

abbrev FiledBy : Op → Leading → List Deal → Type 0
FiledBy o t ds = elim t as (λ (x : Leading). Type 0) [ leading.Asks v ↦ HasWalkFile o (asks v) ds | leading.Finds id ↦ o.file ≡ id | leading.Rewrites id ↦ o.file ≡ id | _ ↦ Unit {0} ]

told_filed : (o : Op) (w : Walk) (a : Nfs) (x : ℕ) (ds : List Deal) (t : Leading) → walk_told w a ≡ t → FiledBy o t ds → HasWalkFile o (waits x w) (Took (message.Answer x (body.Nfs a)) ∷ ds)
told_filed o w a x ds t is k = subst (λ (z : Leading). FiledBy o z ds) (sym is) k

-- where its walk waits, and more is said
pub filed_more : (o : Op) (p : Part) (ds : List Deal) (file x : ℕ) (w : Walk) → IsUnder p ds file (stage.Walking x w) → (more : List Deal) → HasWalkFile o (waits x w) more → HasWalkFile o p (ds ++ more)
filed_more o p ds file x w h more k = walk_more (λ (l : List Deal) (q : Part). HasWalkFile o q l) (λ u y l g. g) (λ u v y a l its is g. told_filed o u a y l (leading.Asks v) is g) p ds file x w h more k

-- and where it goes on as an open, or a rewrite, of its file
pub filed_found : (o : Op) (p : Part) (ds : List Deal) (file : ℕ) (st : Stage) → IsUnder p ds file st → IsOfFile st → o.file ≡ file → (more : List Deal) → HasWalkFile o p (ds ++ more)
filed_found o (asks u) (Sent (message.Call y (body.Nfs m)) ∷ ds) file st h of is more = filed_found o (waits y u) ds file st h.1 of is more
filed_found o (waits y u) [] file st h of is more = absurd (subst IsOfFile h of)
filed_found o (waits y u) (Took (message.Answer n (body.Nfs a)) ∷ ds) file st h of is more = by (walk_told u a) (λ v k. filed_found o (asks v) ds file st k of is more) h.2
  where
    by : (t : Leading) → ((v : Walk) → IsUnder (asks v) ds file st → HasWalkFile o (asks v) (ds ++ more)) → elim t as (λ (x : Leading). Type 0) [ leading.Asks v ↦ IsUnder (asks v) ds file st | leading.Finds id ↦ GoesAs words.Open id file ds st | leading.Rewrites id ↦ GoesAs words.Rewrite id file ds st | _ ↦ ⊥ ] → FiledBy o t (ds ++ more)
    by (leading.Asks v) rest k = rest v k
    by (leading.Finds id) rest k = is ∙ sym k.0
    by (leading.Rewrites id) rest k = is ∙ sym k.0
    by t rest k = absurd k
filed_found o p ds file st h of is more = absurd h

-- a walk that waits has found none
pub unfound_of : (o : Op) (p : Part) (ds : List Deal) (file x : ℕ) (w : Walk) → IsUnder p ds file (stage.Walking x w) → HasWalkFile o p ds → IsUnfound o
unfound_of o (asks u) (Sent (message.Call y (body.Nfs m)) ∷ ds) file x w h k = unfound_of o (waits y u) ds file x w h.1 k
unfound_of o (waits y u) [] file x w h k = k
unfound_of o (waits y u) (Took (message.Answer n (body.Nfs a)) ∷ ds) file x w h k = by (walk_told u a) (λ v g l. unfound_of o (asks v) ds file x w g l) h.2 k
  where
    by : (t : Leading) → ((v : Walk) → IsUnder (asks v) ds file (stage.Walking x w) → HasWalkFile o (asks v) ds → IsUnfound o) → elim t as (λ (x : Leading). Type 0) [ leading.Asks v ↦ IsUnder (asks v) ds file (stage.Walking x w) | leading.Finds id ↦ GoesAs words.Open id file ds (stage.Walking x w) | leading.Rewrites id ↦ GoesAs words.Rewrite id file ds (stage.Walking x w) | _ ↦ ⊥ ] → FiledBy o t ds → IsUnfound o
    by (leading.Asks v) rest g l = rest v g l
    by (leading.Finds id) rest g l = absurd g.2
    by (leading.Rewrites id) rest g l = absurd g.2
    by t rest g l = absurd g
unfound_of o p ds file x w h k = absurd h

-- ---- what becomes of its operation

pub unfound_as : (o r : Op) → r.file ≡ o.file → r.word ≡ o.word → r.point ≡ o.point → IsUnfound o → IsUnfound r
unfound_as o r file word point (inl none) = inl (file ∙ none)
unfound_as o r file word point (inr made) = inr (ap changes word ∙ made.0, ap (λ (t : Option ℕ). is_some t) point ∙ made.1)

-- it keeps its file
pub filed_as : (o r : Op) → r.file ≡ o.file → (IsUnfound o → IsUnfound r) → (p : Part) (ds : List Deal) → HasWalkFile o p ds → HasWalkFile r p ds
filed_as o r same un (asks w) (Sent (message.Call y (body.Nfs m)) ∷ ds) h = filed_as o r same un (waits y w) ds h
filed_as o r same un (waits x w) [] h = un h
filed_as o r same un (waits x w) (Took (message.Answer y (body.Nfs a)) ∷ ds) h = by (walk_told w a) (λ v k. filed_as o r same un (asks v) ds k) h
  where
    by : (t : Leading) → ((v : Walk) → HasWalkFile o (asks v) ds → HasWalkFile r (asks v) ds) → FiledBy o t ds → FiledBy r t ds
    by (leading.Asks v) rest k = rest v k
    by (leading.Finds id) rest k = same ∙ k
    by (leading.Rewrites id) rest k = same ∙ k
    by t rest k = tt
filed_as o r same un p ds h = tt

abbrev part_word : Part → Word
part_word (asks w) = goal_word w.goal
part_word (waits x w) = goal_word w.goal

-- or its change was made: it is no open, and no rewrite, whose walk finds a file
pub filed_made : (o r : Op) → IsUnfound r → (p : Part) (ds : List Deal) → (IsGetting (part_word p) → ⊥) → HasWalkFile o p ds → HasWalkFile r p ds
filed_made o r un (asks w) (Sent (message.Call y (body.Nfs m)) ∷ ds) not h = filed_made o r un (waits y w) ds not h
filed_made o r un (waits x w) [] not h = un
filed_made o r un (waits x w) (Took (message.Answer y (body.Nfs a)) ∷ ds) not h = by (walk_told w a) refl (λ v is k. filed_made o r un (asks v) ds (λ e. not (subst IsGetting (asks_word w a v is) e)) k) h
  where
    by : (t : Leading) → walk_told w a ≡ t → ((v : Walk) → walk_told w a ≡ leading.Asks v → HasWalkFile o (asks v) ds → HasWalkFile r (asks v) ds) → FiledBy o t ds → FiledBy r t ds
    by (leading.Asks v) is rest k = rest v is k
    by (leading.Finds id) is rest k = absurd (not (inl (finds_open w a id is)))
    by (leading.Rewrites id) is rest k = absurd (not (inr (finds_rewrite w a id is)))
    by t is rest k = tt
filed_made o r un p ds not h = tt

-- ---- an answer comes to a walk

-- an operation that has the file then which is found, if one is
abbrev pub FiledOn : Op → (file : ℕ) → Part → List Deal → (x : ℕ) → Body → client.State × ClientStep → Type 0
FiledOn n file p log x b r = (IsFault r.1.ended → ⊥) → n.file ≡ file_with file r.1.found → (r.1.found ≡ None → r.1.ended ≡ None → IsUnfound n) → HasWalkFile n p (log ++ Took (message.Answer x b) ∷ map Sent r.1.send)

pub walk_filed : (n : Op) (file : ℕ) (p : Part) (log : List Deal) (was : ℕ) (s : client.State) (calls : List Pending) (task y : ℕ) (w : Walk) (x : ℕ) (b : Body) → x ≡ y → IsUnder p log was (stage.Walking y w) → FiledOn n file p log x b (took s calls task (stage.Walking y w) x b)
walk_filed n file p log was s calls task y w x b same h = walk_cases (FiledOn n file p log x b) s calls task y w x b (record {
  fault = λ f bad no is un. absurd (no (f, refl));
  asks = λ v k no is un. filed_more n p log was y w h (Took (message.Answer x b) ∷ Sent (message.Call s.next_xid (body.Nfs (next_call v))) ∷ []) (takes (λ (m : Deal). HasWalkFile n (waits y w) (m ∷ Sent (message.Call s.next_xid (body.Nfs (next_call v))) ∷ [])) k (told_filed n w k.answer y (Sent (message.Call s.next_xid (body.Nfs (next_call v))) ∷ []) (leading.Asks v) (told_by k) (un refl refl)));
  open_already = λ id k already no is un. filed_more n p log was y w h (Took (message.Answer x b) ∷ []) (takes (λ (m : Deal). HasWalkFile n (waits y w) (m ∷ [])) k (told_filed n w k.answer y [] (leading.Finds id) (told_by k) is));
  fetches = λ id k shut none no is un. filed_more n p log was y w h (Took (message.Answer x b) ∷ map Sent (asks_kept (fronts s id) id None).1.send) (takes (λ (m : Deal). HasWalkFile n (waits y w) (m ∷ map Sent (asks_kept (fronts s id) id None).1.send)) k (told_filed n w k.answer y (map Sent (asks_kept (fronts s id) id None).1.send) (leading.Finds id) (told_by k) is));
  leases = λ id c k shut there no is un. filed_more n p log was y w h (Took (message.Answer x b) ∷ map Sent (asks_kept (fronts s id) id (Some c)).1.send) (takes (λ (m : Deal). HasWalkFile n (waits y w) (m ∷ map Sent (asks_kept (fronts s id) id (Some c)).1.send)) k (told_filed n w k.answer y (map Sent (asks_kept (fronts s id) id (Some c)).1.send) (leading.Finds id) (told_by k) is));
  renew_already = λ id k already no is un. filed_more n p log was y w h (Took (message.Answer x b) ∷ []) (takes (λ (m : Deal). HasWalkFile n (waits y w) (m ∷ [])) k (told_filed n w k.answer y [] (leading.Rewrites id) (told_by k) is));
  renews = λ id k shut no is un. filed_more n p log was y w h (Took (message.Answer x b) ∷ map Sent (asks_version (fronts s id) id).1.send) (takes (λ (m : Deal). HasWalkFile n (waits y w) (m ∷ map Sent (asks_version (fronts s id) id).1.send)) k (told_filed n w k.answer y (map Sent (asks_version (fronts s id) id).1.send) (leading.Rewrites id) (told_by k) is));
  opens_now = λ id c k shut fresh no is un. filed_more n p log was y w h (Took (message.Answer x b) ∷ []) (takes (λ (m : Deal). HasWalkFile n (waits y w) (m ∷ [])) k (told_filed n w k.answer y [] (leading.Finds id) (told_by k) is));
  empties_now = λ id c k shut fresh no is un. filed_more n p log was y w h (Took (message.Answer x b) ∷ []) (takes (λ (m : Deal). HasWalkFile n (waits y w) (m ∷ [])) k (told_filed n w k.answer y [] (leading.Rewrites id) (told_by k) is));
  ends = λ v e k last no is un. filed_more n p log was y w h (Took (message.Answer x b) ∷ []) (takes (λ (m : Deal). HasWalkFile n (waits y w) (m ∷ [])) k (told_filed n w k.answer y [] (leading.Ends e) (told_by k) tt));
})
  where
    walk_is : (z : ℕ) (v : Walk) → stage.Walking y w ≡ stage.Walking z v → w ≡ v
    walk_is z v e = cc

    told_by : {t : Leading} (k : Walks (stage.Walking y w) b t) → walk_told w k.answer ≡ t
    told_by k = ap (λ (u : Walk). walk_told u k.answer) (walk_is k.asked k.walk k.stage_is) ∙ k.told_is

    takes : (z : Deal → Type 0) {t : Leading} (k : Walks (stage.Walking y w) b t) → z (Took (message.Answer y (body.Nfs k.answer))) → z (Took (message.Answer x b))
    takes z k h = subst (λ (c : Body). z (Took (message.Answer x c))) (sym k.body_is) (subst (λ (n : ℕ). z (Took (message.Answer n (body.Nfs k.answer)))) (sym same) h)

-- ---- a command begins

walk_begins : (n : Op) → n.file ≡ 0 → (s : client.State) (c : PathCommand) (t : Option Task) → HasWalkFile n (asks (begun c)) (map Sent (walks s c t).1.send)
walk_begins n none s c (Some t) = tt
walk_begins n none s c None = by (may_walk s (begun c))
  where
    by : (b : Bool) → HasWalkFile n (asks (begun c)) (map Sent (walks_if s (begun c) b).1.send)
    by true = inl none
    by false = tt

pub command_filed : (n : Op) (s : client.State) (d : Command) (now : ℕ) → n.file ≡ file_of d → HasFoundFile d n (map Sent (command_step s d now).1.send)
command_filed n s (command.Named c) now none = walk_begins n none (clocked s now) c s.task
command_filed n s d now none = tt

-- ---- of a command

-- its operation keeps its file
pub found_as : (d : Command) (o r : Op) (ds : List Deal) → r.file ≡ o.file → (IsUnfound o → IsUnfound r) → HasFoundFile d o ds → HasFoundFile d r ds
found_as (command.Named c) o r ds same un h = filed_as o r same un (asks (begun c)) ds h
found_as d o r ds same un h = tt

-- a client that loses its connection leaves its operation's point
lost_pointless : (w : Word) → has_point w outcome.Lost ≡ false
lost_pointless words.Open = refl
lost_pointless w = refl

pub lost_point : (o : Op) (c : client.State) (taken : List TakenCall) (step : ℕ) (acts : ClientStep) → ((e : Ended) → acts.ended ≡ Some e → e.outcome ≡ outcome.Lost) → (op_after o c taken step acts).point ≡ o.point
lost_point o c taken step acts lost = by acts.ended lost
  where
    by : (l : Option Ended) → ((e : Ended) → l ≡ Some e → e.outcome ≡ outcome.Lost) → (op_after o c taken step (record acts { ended = l })).point ≡ o.point
    by None none = refl
    by (Some e) is = ap (λ (b : Bool). point_if b taken e.rests_on step o.point) (ap (has_point o.word) (is e refl) ∙ lost_pointless o.word)

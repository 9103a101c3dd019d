-- What a client that looks names up leaves in a step: its open files are as they were, and it ends with no content.
use Rattle.std.proofs.Common.{◌⊎◌, inl, inr, ap, false, ◌≡◌, ℕ, ◌+◌, ◌≤◌, List, Option, Some, None, refl, sym, ◌∙◌, subst, arith, Result, true}
use Rattle.path_calls.specs.declared.answers.Ended.TheVariants as walk_end
use Rattle.path_calls.specs.declared.answers.Ended.{Ended as WalkEnd}
use Rattle.path_calls.specs.declared.answers.Told.TheVariants as leading
use Rattle.register_model.specs.declared.op.Word.TheVariants as words
use Rattle.path_calls.specs.declared.walk.Walk.{Walk}
use Rattle.client_state.specs.State as client
use Rattle.client_state.specs.declared.step.Outcome.TheVariants as outcome
use Rattle.client_state.specs.declared.task.Stage.TheVariants as stage
use Rattle.open_close.specs.Walking.{outcome_of, is_its}
use Rattle.kept_promise.proofs.Common.{calls_most, Body, Message, Pending, WireFault, idle, took, got_step, ClientStep, Ended, Outcome, Stage, Task}
use Rattle.kept_promise.proofs.Lists.{some_is, nothing_there}
use Rattle.kept_promise.proofs.StepCases.{some_call, IsOfFile, walk_cases, got_cases}
use Rattle.kept_promise.proofs.WalkRuns.{took_file}
use Rattle.nfs3_calls.specs.declared.message.Nfs.{Nfs}
use Rattle.path_calls.specs.Told.{walk_told}
use Rattle.register_model.specs.declared.op.Word.{Word}
use Rattle.kept_promise.proofs.Messages.{goal_word}
use Rattle.kept_promise.proofs.Undone.{rewrite_undone}
use Rattle.kept_promise.proofs.FindsOpen.{FoundFor, found_for}
use Rattle.kept_promise.proofs.Leaving.{EndsWith}
use Rattle.hash_calls.specs.declared.message.Back.TheVariants as back
use Rattle.wire.specs.declared.message.Body.TheVariants as body
use Rattle.wire.specs.declared.message.Message.TheVariants as message
use Rattle.client_state.specs.Noting.{at as clocked}
use Rattle.client_state.specs.Counting.{sends_one}
use Rattle.client_state.specs.Ending.{is_open}
use Rattle.open_close.specs.Step.{recalls}

-- ---- what is said

-- neither of a content that was got, nor of a file that was replaced; and none of a rewrite is done
abbrev pub IsNeither : (what : Word) → Outcome → Type 0
IsNeither what (outcome.Opened g len digest) = ⊥
IsNeither what (outcome.Closed g version len digest) = ⊥
IsNeither what outcome.Done = what ≡ words.Rewrite → ⊥
IsNeither what u = Unit {0}

abbrev pub EndsNeither : (what : Word) → Option Ended → Type 0
EndsNeither what None = Unit {0}
EndsNeither what (Some e) = IsNeither what e.outcome

-- or the file that was found is fresh, and open at once, which it wasn't
abbrev pub OpensNow : (what : Word) → client.State → client.State × ClientStep → Type 0
OpensNow what s r = (id : ℕ) × (r.1.found ≡ Some id) × ((e : Ended) × (r.1.ended ≡ Some e) × EndsWith what s.opened r.0.opened id e.outcome × (is_open s.opened id ≡ false))

abbrev pub IsWalkLeft : (what : Word) → client.State → client.State × ClientStep → Type 0
IsWalkLeft what s r = (r.0.next_xid ≤ s.next_xid + calls_most) × (((r.0.opened ≡ s.opened) × EndsNeither what r.1.ended) ⊎ OpensNow what s r)

-- ---- an answer

end_neither : (w : Walk) (a : Nfs) (e : WalkEnd) → is_its w a ≡ true → walk_told w a ≡ leading.Ends e → IsNeither (goal_word w.goal) (outcome_of e)
end_neither w a walk_end.Done own told = λ renews. rewrite_undone w a own told renews
end_neither w a _ own told = tt

walk_at : {y : ℕ} {w : Walk} (z : ℕ) (v : Walk) → stage.Walking y w ≡ stage.Walking z v → v ≡ w
walk_at z v e = cc

took_walk_left : (s : client.State) (calls : List Pending) (file y : ℕ) (w : Walk) (xid : ℕ) (b : Body) → IsWalkLeft (goal_word w.goal) s (took s calls file (stage.Walking y w) xid b)
took_walk_left s calls file y w xid b = walk_cases (IsWalkLeft (goal_word w.goal) s) s calls file y w xid b (record {
  fault = λ f untold. (omega arith, inl (refl, tt));
  asks = λ v is. (let o = some_call in omega (arith, o), inl (refl, tt));
  open_already = λ id is e. (omega arith, inl (refl, tt));
  fetches = λ id is shut e. (let o = some_call in omega (arith, o), inl (refl, tt));
  leases = λ id c is shut e. (let o = some_call in omega (arith, o), inl (refl, tt));
  opens_now = λ id c is shut e. (omega arith, inr (id, refl, (_, refl, (refl, (_, refl)), shut)));
  empties_now = λ id c is shut e. (omega arith, inr (id, refl, (_, refl, (renews id is.asked is.walk is.answer is.stage_is is.told_is, (_, refl, refl)), shut)));
  renew_already = λ id is e. (omega arith, inl (refl, tt));
  renews = λ id is shut. (let o = some_call in omega (arith, o), inl (refl, tt));
  ends = λ v e is same. (omega arith, inl (refl, subst (λ (z : Walk). IsNeither (goal_word z.goal) (outcome_of e)) (walk_at is.asked is.walk is.stage_is) (end_neither is.walk is.answer e is.its is.told_is)));
})
  where
    renews : (id z : ℕ) (v : Walk) (a : Nfs) → stage.Walking y w ≡ stage.Walking z v → walk_told v a ≡ leading.Rewrites id → goal_word w.goal ≡ words.Rewrite
    renews id z v a at told = ap (λ (u : Walk). goal_word u.goal) (sym (walk_at z v at)) ∙ subst (FoundFor (goal_word v.goal)) told (found_for v a)

-- whatever comes
pub walk_left : (s : client.State) (m : Result Message WireFault) (now : ℕ) (t : Task) (y : ℕ) (w : Walk) → s.task ≡ Some t → t.stage ≡ stage.Walking y w → IsWalkLeft (goal_word w.goal) s (got_step s m now)
walk_left s m now t y w at is = got_cases (IsWalkLeft (goal_word w.goal) s) s m now (record {
  took = λ u same xid b. subst (λ (z : Task). IsWalkLeft (goal_word w.goal) s (took (idle (clocked s now)) (client.calls_of s) z.file z.stage xid b)) (some_is t u (sym at ∙ same)) (subst (λ (st : Stage). IsWalkLeft (goal_word w.goal) s (took (idle (clocked s now)) (client.calls_of s) t.file st xid b)) (sym is) (took_walk_left (idle (clocked s now)) (client.calls_of s) t.file y w xid b));
  memory = λ u same xid. (omega arith, inl (refl, tt));
  bad = λ u same f. (omega arith, inl (refl, tt));
  off = λ none. (omega arith, inl (refl, tt));
  forgot = λ xid. (omega arith, inl (refl, tt));
  recalled = λ xid o. back_by o xid;
  greeted = λ xid. (omega arith, inl (refl, tt));
  unfit = λ xid r. (omega arith, inl (refl, tt));
  call = (omega arith, inl (refl, tt));
})
  where
    back_by : (o : Option ℕ) (xid : ℕ) → IsWalkLeft (goal_word w.goal) s (recalls (clocked s now) o, sends_one (message.Answer xid (body.Back back.RecallAnswer)) 0)
    back_by None xid = (omega arith, inl (refl, tt))
    back_by (Some f) xid = (omega arith, inl (refl, tt))

-- ---- a file that is known stays so

-- what is under way is of a file that is known
abbrev pub OnFile : client.State × ClientStep → Type 0
OnFile r = (u : Task) → r.0.task ≡ Some u → IsOfFile u.stage

pub got_file : (s : client.State) (m : Result Message WireFault) (now : ℕ) (t : Task) → s.task ≡ Some t → IsOfFile t.stage → OnFile (got_step s m now)
got_file s m now t at known = got_cases OnFile s m now (record {
  took = λ u is xid b. subst (λ (z : Task). OnFile (took (idle (clocked s now)) (client.calls_of s) z.file z.stage xid b)) (some_is t u (sym at ∙ is)) (took_file (idle (clocked s now)) (client.calls_of s) t.file t.stage xid b known);
  memory = λ u is xid v e. nothing_there v e;
  bad = λ u is f v e. nothing_there v e;
  off = λ none v e. same v e;
  forgot = λ xid. same;
  recalled = λ xid o. back_by o;
  greeted = λ xid. same;
  unfit = λ xid r. same;
  call = same;
})
  where
    same : (u : Task) → s.task ≡ Some u → IsOfFile u.stage
    same u e = subst (λ (z : Task). IsOfFile z.stage) (some_is t u (sym at ∙ e)) known

    back_by : (o : Option ℕ) (u : Task) → (recalls (clocked s now) o).task ≡ Some u → IsOfFile u.stage
    back_by None = same
    back_by (Some f) = same

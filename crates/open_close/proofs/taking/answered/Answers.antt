use Rattle.std.proofs.Common.{◌≡◌, refl, ap, sym, subst, ◌∙◌, List, true, false, IfOk, rules}
use Rattle.std.specs.Prelude.{Option, Ok, OnErr}
use Rattle.wire.specs.declared.message.Message.TheVariants as message
use Rattle.wire.specs.declared.message.Pending.{Pending}
use Rattle.open_close.specs.Step.{IsCommitting, took, got_message}
use Rattle.client_state.specs.Ending.{drops, forgets, idle}
use Rattle.client_state.specs.State.{State, pending, has_call}
use Rattle.client_state.specs.View.{state_of, IsSound, TaskHasXids, TaskIsWithin, TaskIsThere, HasXids, StageIsThere}
use Rattle.client_state.specs.declared.state.ClientState.{ClientState}
use Rattle.client_state.specs.declared.step.ClientStep.{ClientStep}
use Rattle.client_state.specs.declared.task.Task.{Task}
use Rattle.file_open.proofs.lemmas.Comings.{comes_so, on_err_both}
use Rattle.file_open.specs.Fetching.{Comes}
use Rattle.file_open.specs.Looking.{Entering, with_file, reading_by, entering, entering_by}
use Rattle.open_close.proofs.Takings.{taken, entered}
use Rattle.open_close.proofs.taking.answered.Goals as goal

pub returns-then-not-has_call-clause-ok : goal.returns-then-not-has_call-clause-ok
returns-then-not-has_call-clause-ok c =
    let s = c.args.state.now in
    let so : got_message (state_of s) s.task (message.Answer c.args.xid c.args.body) ≡ (state_of c.take_other.new.self, c.take_other.result) = search rules in
    comes_so s.index (got_message (state_of s) s.task (message.Answer c.args.xid c.args.body)) (state_of c.take_other.new.self) c.take_other.result so c.take_other.ensures.done

pub take_own-requires-clause-xids : goal.take_own-requires-clause-xids
take_own-requires-clause-xids c =
    let s = c.args.state.now in
    let t = c.in-Some.task in
    subst (λ (u : ClientState). HasXids u.next_xid t.stage) (sym c.take_task.ensures.rest) (subst (λ (o : Option Task). TaskHasXids s.next_xid o) (sym c.in-Some.ensures.task) c.requires.xids)

pub take_own-requires-clause-within : goal.take_own-requires-clause-within
take_own-requires-clause-within c = subst TaskIsWithin (sym c.in-Some.ensures.task) c.requires.within

pub take_own-requires-clause-there : goal.take_own-requires-clause-there
take_own-requires-clause-there c =
    let s = c.args.state.now in
    let t = c.in-Some.task in
    subst (λ (u : ClientState). StageIsThere u.cache t.file t.stage) (sym c.take_task.ensures.rest) (subst (λ (o : Option Task). TaskIsThere s.cache o) (sym c.in-Some.ensures.task) c.requires.there)

pub returns-in-Some-clause-ok : goal.returns-in-Some-clause-ok
returns-in-Some-clause-ok c =
    let s = c.args.state.now in
    let t = c.in-Some.task in
    let xid = c.args.xid in
    let b = c.args.body in
    let r = c.take_own.result in
    let new = state_of c.take_own.new.state in
    let own : has_call (pending s.task) xid ≡ true = ap (λ (ps : List Pending). has_call ps xid) (sym c.own_calls.ensures) ∙ (sym c.has_call.ensures ∙ c.if-not-has_call.false) in
    let held : IfOk r (λ (a : ClientStep). Comes s.index (entering_by (idle (state_of s)) (with_file t.file (reading_by t.stage xid b))) (took (idle (state_of s)) s.waiting.calls t.file t.stage xid b) new a) =
    subst (λ (u : ClientState). IfOk r (λ (a : ClientStep). Comes u.index (entering_by (state_of u) (with_file t.file (reading_by t.stage xid b))) (took (state_of u) u.waiting.calls t.file t.stage xid b) new a)) c.take_task.ensures.rest c.take_own.ensures.ok in
    let enters : IfOk r (λ (a : ClientStep). Comes s.index (entering (state_of s) (Ok (message.Answer xid b))) (took (idle (state_of s)) s.waiting.calls t.file t.stage xid b) new a) =
    subst (λ (o : Option Entering). IfOk r (λ (a : ClientStep). Comes s.index o (took (idle (state_of s)) s.waiting.calls t.file t.stage xid b) new a)) (entered (state_of s) t xid b c.in-Some.ensures.task own) held in
    subst (λ (v : State × ClientStep). IfOk r (λ (a : ClientStep). Comes s.index (entering (state_of s) (Ok (message.Answer xid b))) v new a)) (taken s t xid b c.requires c.in-Some.ensures.task own) enters

pub returns-in-Some-clause-err : goal.returns-in-Some-clause-err
returns-in-Some-clause-err c =
    let s = c.args.state.now in
    let xid = c.args.xid in
    let r = c.take_own.result in
    let new = state_of c.take_own.new.state in
    let held : OnErr r (new ≡ forgets (state_of s) s.waiting.calls xid) =
    subst (λ (u : ClientState). OnErr r (new ≡ forgets (state_of u) u.waiting.calls xid)) c.take_task.ensures.rest c.take_own.ensures.err in
    subst (λ (ps : List Pending). OnErr r (new ≡ forgets (state_of s) ps xid)) c.requires.calls held

pub returns-in-Some-clause-sure : goal.returns-in-Some-clause-sure
returns-in-Some-clause-sure c =
    let s = c.args.state.now in
    let xid = c.args.xid in
    let own : has_call (pending s.task) xid ≡ true = ap (λ (ps : List Pending). has_call ps xid) (sym c.own_calls.ensures) ∙ (sym c.has_call.ensures ∙ c.if-not-has_call.false) in
    on_err_both c.take_own.result (has_call (pending s.task) xid ≡ true) (IsCommitting s.task → ⊥) own (subst (λ (o : Option Task). OnErr c.take_own.result (IsCommitting o → ⊥)) c.in-Some.ensures.task c.take_own.ensures.calm)

pub take_other-requires-in-None-clause-sound : goal.take_other-requires-in-None-clause-sound
take_other-requires-in-None-clause-sound c =
    let s = c.args.state.now in
    let none : c.take_task.new.self ≡ s = c.take_task.ensures.rest ∙ ap (λ (o : Option Task). record s { task = o }) c.in-None.ensures.task in
    subst IsSound (sym none) c.requires

pub take_other-requires-in-None-clause-other : goal.take_other-requires-in-None-clause-other
take_other-requires-in-None-clause-other c = subst (λ (u : ClientState). has_call (pending u.task) c.args.xid ≡ false) (sym c.take_task.ensures.rest) refl

pub returns-in-None-clause-ok : goal.returns-in-None-clause-ok
returns-in-None-clause-ok c =
    let s = c.args.state.now in
    let xid = c.args.xid in
    let end : State × ClientStep = (state_of c.take_other-in-None.new.self, c.take_other-in-None.result) in
    let none : c.take_task.new.self ≡ s = c.take_task.ensures.rest ∙ ap (λ (o : Option Task). record s { task = o }) c.in-None.ensures.task in
    let other : drops (state_of s) s.task xid (has_call (state_of s).forgotten xid) ≡ end =
    subst (λ (u : ClientState). drops (state_of u) u.task xid (has_call (state_of u).forgotten xid) ≡ end) none c.take_other-in-None.ensures.ok in
    let got : Option Task → State × ClientStep = λ o. got_message (state_of s) o (message.Answer xid c.args.body) in
    let so : got s.task ≡ end = ap got (sym c.in-None.ensures.task) ∙ (ap (λ (o : Option Task). drops (state_of s) o xid (has_call (state_of s).forgotten xid)) c.in-None.ensures.task ∙ other) in
    comes_so s.index (got s.task) (state_of c.take_other-in-None.new.self) c.take_other-in-None.result so c.take_other-in-None.ensures.done

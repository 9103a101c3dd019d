use Rattle.std.proofs.Common.{◌≡◌, ap, subst, sym, ◌∙◌, ℕ}
use Rattle.client_state.specs.Noting.{at}
use Rattle.client_state.specs.State.{State, local_at}
use Rattle.client_state.specs.View.{state_of}
use Rattle.client_state.specs.declared.step.ClientStep.{ClientStep}
use Rattle.open_close.specs.Step.{does, MayMissCommand}
use Rattle.open_close.specs.Putting.{put_of}
use Rattle.open_close.proofs.Clocks.{unchanged}
use Rattle.open_close.proofs.Writes.{puts_so, may_miss_so}
use Rattle.open_close.proofs.client.Client.put.Goals as goal

pub returns-in-Ok-clause-exact : goal.returns-in-Ok-clause-exact
returns-in-Ok-clause-exact c = λ said.
    let s = state_of c.set_clock.new.self in
    let b = c.args.content in
    subst (λ (t : State). ◌≡◌ {A = State × ClientStep} (does t (put_of c.args.file b)) (state_of c.put.new.state, c.in-Ok.step)) (c.set_clock.ensures.rest ∙ ap (λ (t : State). at t c.args.now) c.self.view_is)
    (puts_so s s.task (local_at s.opened c.args.file) c.args.file b ∙ c.in-Ok.ensures.ok)

pub returns-in-Err-clause-missed : goal.returns-in-Err-clause-missed
returns-in-Err-clause-missed c = λ said.
    unchanged c.args.self.now (state_of c.put.new.state) (state_of c.set_clock-in-Err.new.self) c.args.now
    (c.in-Err.ensures.err ∙ (c.set_clock.ensures.rest ∙ ap (λ (t : State). at t c.args.now) c.self.view_is))
    (c.set_clock-in-Err.ensures.rest ∙ ap (λ (before : ℕ). at (state_of c.put.new.state) before) (c.clock-before.ensures ∙ ap (λ (t : State). t.clock) c.self.view_is))

pub returns-in-Err-clause-sure : goal.returns-in-Err-clause-sure
returns-in-Err-clause-sure c = λ said.
    let s = state_of c.set_clock.new.self in
    let b = c.args.content in
    subst (λ (t : State). MayMissCommand t (put_of c.args.file b)) (c.set_clock.ensures.rest ∙ ap (λ (t : State). at t c.args.now) c.self.view_is)
    (subst (λ (T : Type 0). T) (sym (may_miss_so s.task (local_at s.opened c.args.file) b)) c.in-Err.ensures.sure)

use Rattle.std.proofs.Common.{◌≡◌, ap, subst, ◌∙◌, ℕ}
use Rattle.client_state.specs.Noting.{at}
use Rattle.client_state.specs.State.{State}
use Rattle.client_state.specs.View.{state_of}
use Rattle.client_state.specs.declared.step.ClientStep.{ClientStep}
use Rattle.open_close.specs.Step.{does, MayMissCommand}
use Rattle.open_close.proofs.Clocks.{unchanged}
use Rattle.open_close.proofs.client.Client.command.Goals as goal

pub returns-in-Ok-clause-exact : goal.returns-in-Ok-clause-exact
returns-in-Ok-clause-exact c = λ said. subst (λ (t : State). ◌≡◌ {A = State × ClientStep} (does t c.args.command) (state_of c.command.new.state, c.in-Ok.step)) (c.set_clock.ensures.rest ∙ ap (λ (t : State). at t c.args.now) c.self.view_is) c.in-Ok.ensures.ok

pub returns-in-Err-clause-missed : goal.returns-in-Err-clause-missed
returns-in-Err-clause-missed c = λ said.
    unchanged c.args.self.now (state_of c.command.new.state) (state_of c.set_clock-in-Err.new.self) c.args.now
    (c.in-Err.ensures.err ∙ (c.set_clock.ensures.rest ∙ ap (λ (t : State). at t c.args.now) c.self.view_is))
    (c.set_clock-in-Err.ensures.rest ∙ ap (λ (before : ℕ). at (state_of c.command.new.state) before) (c.clock-before.ensures ∙ ap (λ (t : State). t.clock) c.self.view_is))

pub returns-in-Err-clause-sure : goal.returns-in-Err-clause-sure
returns-in-Err-clause-sure c = λ said. subst (λ (t : State). MayMissCommand t c.args.command) (c.set_clock.ensures.rest ∙ ap (λ (t : State). at t c.args.now) c.self.view_is) c.in-Err.ensures.sure

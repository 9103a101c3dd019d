use Rattle.std.proofs.Common.{ap, subst, ◌∙◌, ℕ}
use Rattle.client_state.specs.Noting.{at}
use Rattle.client_state.specs.State.{State}
use Rattle.client_state.specs.View.{state_of}
use Rattle.open_close.specs.Step.{missed_at, MayMiss}
use Rattle.open_close.proofs.Clocks.{came_so, lacks_so, missed_so}
use Rattle.open_close.proofs.client.Client.got.Goals as goal

pub returns-in-Ok-clause-exact : goal.returns-in-Ok-clause-exact
returns-in-Ok-clause-exact c = (came_so c.args.self.now c.args.message c.args.now (state_of c.set_clock.new.self) (state_of c.got.new.state) c.in-Ok.step (c.set_clock.ensures.rest ∙ ap (λ (t : State). at t c.args.now) c.self.view_is) c.in-Ok.ensures.ok).exact

pub returns-in-Ok-clause-missed : goal.returns-in-Ok-clause-missed
returns-in-Ok-clause-missed c = λ said. lacks_so c.args.self.now c.args.message c.args.now (state_of c.got.new.state) c.in-Ok.step
    (came_so c.args.self.now c.args.message c.args.now (state_of c.set_clock.new.self) (state_of c.got.new.state) c.in-Ok.step (c.set_clock.ensures.rest ∙ ap (λ (t : State). at t c.args.now) c.self.view_is) c.in-Ok.ensures.ok) said

pub returns-in-Err-clause-missed : goal.returns-in-Err-clause-missed
returns-in-Err-clause-missed c = λ said. missed_so c.args.self.now c.args.message c.args.now (state_of c.got.new.state) (state_of c.set_clock-in-Err.new.self) c.missed.result
    (subst (λ (t : State). MayMiss t c.args.message) (c.set_clock.ensures.rest ∙ ap (λ (t : State). at t c.args.now) c.self.view_is) c.in-Err.ensures.sure)
    (c.in-Err.ensures.err ∙ ap (λ (t : State). missed_at t c.args.message) (c.set_clock.ensures.rest ∙ ap (λ (t : State). at t c.args.now) c.self.view_is))
    (c.set_clock-in-Err.ensures.rest ∙ ap (λ (before : ℕ). at (state_of c.got.new.state) before) (c.clock-before.ensures ∙ ap (λ (t : State). t.clock) c.self.view_is)) c.missed.ensures

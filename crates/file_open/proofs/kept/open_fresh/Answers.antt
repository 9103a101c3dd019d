use Rattle.std.proofs.Common.{sym, ap, ◌∙◌}
use Rattle.client_state.specs.State.{State, with_local}
use Rattle.client_state.specs.View.{state_of}
use Rattle.client_state.specs.declared.step.ClientStep.{ClientStep}
use Rattle.file_open.proofs.kept.open_fresh.Goals as goal

pub returns-clause-ok : goal.returns-clause-ok
returns-clause-ok c =
    let s = c.args.state.now in
    let opened : State = record (state_of s) { opened = with_local s.opened.entries c.args.file (record { version = c.args.version; bytes = c.args.bytes }) } in
    sym (ap (λ (t : State). (t, c.in_ok-step.step)) c.in_ok-step.ensures.rest ∙ ap (λ (a : ClientStep). (opened, a)) c.in_ok-step.ensures.ok)

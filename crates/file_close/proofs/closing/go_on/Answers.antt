use Rattle.std.proofs.Common.{◌≡◌, sym, subst, true, IfOk}
use Rattle.client_state.specs.State.{State, local_bytes}
use Rattle.client_state.specs.View.{state_of}
use Rattle.client_state.specs.declared.step.ClientStep.{ClientStep}
use Rattle.file_close.proofs.Going.{goes_named}
use Rattle.file_close.proofs.closing.go_on.Goals as goal

pub returns-then-is_stored-clause-ok : goal.returns-then-is_stored-clause-ok
returns-then-is_stored-clause-ok c =
    let content = local_bytes c.args.state.now.opened.entries c.args.file in
    subst (λ (v : State × ClientStep). IfOk c.ask_commit.result (λ (a : ClientStep). v ≡ (state_of c.ask_commit.new.state, a))) (sym (goes_named (state_of c.args.state.now) c.args.file content c.args.store c.in_ok-names.names true c.in_ok-names.ensures.all (sym c.if-is_stored.ensures))) c.ask_commit.ensures.ok

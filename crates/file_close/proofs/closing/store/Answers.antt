use Rattle.std.proofs.Common.{◌≡◌, subst, IfOk}
use Rattle.client_state.specs.State.{local_bytes}
use Rattle.file_close.specs.Storing.{goes_on}
use Rattle.client_state.specs.View.{state_of}
use Rattle.client_state.specs.declared.step.ClientStep.{ClientStep}
use Rattle.client_state.specs.declared.task.Upload.{Upload}
use Rattle.file_close.proofs.closing.store.Goals as goal

pub returns-clause-ok : goal.returns-clause-ok
returns-clause-ok c =
    let content = local_bytes c.args.state.now.opened.entries c.args.file in
    subst (λ (st : Upload). IfOk c.go_on.result (λ (a : ClientStep). goes_on (state_of c.args.state.now) c.args.file content st ≡ (state_of c.go_on.new.state, a))) c.in_ok-store.ensures.store c.go_on.ensures.ok

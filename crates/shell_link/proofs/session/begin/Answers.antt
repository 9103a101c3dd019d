use Rattle.lbfs_client.specs.Client.{Takes}
use Rattle.shell_link.specs.Asking.{Runs.takes}
use Rattle.shell_link.proofs.Running.{sent}
use Rattle.shell_link.proofs.session.begin.Goals as goal

pub returns : goal.returns
returns g c =
    let took : Takes c.args.client.now c.args.command c.args.now c.command-step.new.self c.command-step.result = record { exact = c.command-step.ensures.exact; missed = λ m. (c.command-step.ensures.missed m, c.command-step.ensures.silent m, c.command-step.ensures.sure m) } in
    sent _ _ _ _ _ _ _ (takes _ _ _ took) c.send.ensures

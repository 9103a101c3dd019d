use Rattle.lbfs_client.specs.Client.{Hears}
use Rattle.shell_link.specs.Asking.{Runs.hears}
use Rattle.shell_link.proofs.Running.{sent}
use Rattle.shell_link.proofs.session.hear.Goals as goal

pub returns : goal.returns
returns g c =
    let took : Hears c.args.client.now c.args.message c.args.now c.got-step.new.self c.got-step.result = record { exact = c.got-step.ensures.exact; missed = c.got-step.ensures.missed } in
    λ o k r. sent _ _ _ _ _ _ _ (hears _ _ _ _ _ _ _ r c.heed.ensures took) c.send.ensures

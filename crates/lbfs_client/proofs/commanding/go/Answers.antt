use Rattle.lbfs_client.specs.Client.{Takes}
use Rattle.lbfs_client.proofs.Leadings.{goes_is}
use Rattle.lbfs_client.proofs.commanding.go.Goals as goal

pub returns : goal.returns
returns c =
    let takes : Takes c.args.client.now c.args.command c.args.now c.command-step.new.self c.command-step.result = record { exact = c.command-step.ensures.exact; missed = λ m. (c.command-step.ensures.missed m, c.command-step.ensures.silent m, c.command-step.ensures.sure m) } in
    goes_is c.gather.result _ _ _ _ _ _ _ takes c.gather.ensures.ended c.gather.ensures.sent

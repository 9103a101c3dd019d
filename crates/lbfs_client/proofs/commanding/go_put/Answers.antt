use Rattle.open_close.specs.Putting.{put_of}
use Rattle.lbfs_client.specs.Client.{Takes}
use Rattle.lbfs_client.proofs.Leadings.{goes_is}
use Rattle.lbfs_client.proofs.commanding.go_put.Goals as goal

pub returns : goal.returns
returns c =
    let takes : Takes c.args.client.now (put_of c.args.file c.args.bytes) c.args.now c.put-step.new.self c.put-step.result = record { exact = c.put-step.ensures.exact; missed = λ m. (c.put-step.ensures.missed m, c.put-step.ensures.silent m, c.put-step.ensures.sure m) } in
    goes_is c.gather.result _ _ _ _ _ _ _ takes c.gather.ensures.ended c.gather.ensures.sent

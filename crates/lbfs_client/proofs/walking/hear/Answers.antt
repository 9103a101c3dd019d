use Rattle.std.proofs.lemmas.Result.{IfOk-weaker}
use Rattle.lbfs_client.specs.Client.{Hears}
use Rattle.lbfs_client.proofs.Leadings.{hearing_is}
use Rattle.lbfs_client.proofs.walking.hear.Goals as goal

pub returns : goal.returns
returns g c =
    let hears : Hears c.args.client.now c.args.message c.args.now c.got-step.new.self c.got-step.result = record { exact = c.got-step.ensures.exact; missed = c.got-step.ensures.missed } in
    IfOk-weaker c.follow.result _ _ (λ said p. hearing_is _ _ _ _ _ _ _ _ _ hears p) c.follow.ensures

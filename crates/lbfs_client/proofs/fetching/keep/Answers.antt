use Rattle.std.proofs.lemmas.Result.{IfOk-weaker}
use Rattle.lbfs_client.proofs.Sayings.{keeps_is}
use Rattle.lbfs_client.proofs.fetching.keep.Goals as goal

pub returns : goal.returns
returns g c = IfOk-weaker c.abandon.result _ _ (λ said p. keeps_is _ _ _ _ _ _ _ _ _ _ _ _ _ c.local.ensures c.write-wrote.ensures c.in_ok-answer.ensures p) c.abandon.ensures

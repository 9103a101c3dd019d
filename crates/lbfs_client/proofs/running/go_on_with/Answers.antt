use Rattle.std.proofs.lemmas.Result.{IfOk-weaker}
use Rattle.lbfs_client.proofs.Runnings.{goes_on_is}
use Rattle.lbfs_client.proofs.running.go_on_with.Goals as goal

pub returns-in-Reads : goal.returns-in-Reads
returns-in-Reads g c = IfOk-weaker c.begin.result _ _ (λ said p. goes_on_is _ _ _ _ _ _ _ _ _ _ _ _ c.in-Reads.is c.file.ensures c.with_found.ensures c.renewing.ensures p) c.begin.ensures

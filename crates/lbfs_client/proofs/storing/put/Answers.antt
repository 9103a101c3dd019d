use Rattle.std.proofs.lemmas.Result.{IfOk-weaker}
use Rattle.lbfs_client.proofs.storing.put.Goals as goal

pub returns : goal.returns
returns c = IfOk-weaker c.closes-said.result _ _ (λ said p. record { client = c.store.new.client; ended = c.in_ok-ended.ended; sent = c.store.new.send; stores = c.in_ok-ended.ensures; goes_on = p }) c.closes-said.ensures

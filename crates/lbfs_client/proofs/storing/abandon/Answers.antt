use Rattle.std.proofs.lemmas.Result.{IfOk-weaker}
use Rattle.lbfs_client.proofs.storing.abandon.Goals as goal

pub returns : goal.returns
returns c = IfOk-weaker c.says.result _ _ (λ said e. record { ended = c.in_ok-gone.gone; sent = c.go.new.send; goes = c.in_ok-gone.ensures; is_said = e }) c.says.ensures

use Rattle.std.proofs.lemmas.Result.{IfOk-weaker}
use Rattle.path_commands.proofs.doing.remove_deep.Goals as goal

pub returns : goal.returns
returns g c = IfOk-weaker c.deep_told.result _ _ (λ told h. (c.in_ok-gone.gone, c.in_ok-gone.ensures, h)) c.deep_told.ensures

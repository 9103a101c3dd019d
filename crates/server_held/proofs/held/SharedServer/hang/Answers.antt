use Rattle.server_held.proofs.Hanging.{hang_is}
use Rattle.server_held.proofs.held.SharedServer.hang.Goals as goal

pub returns : goal.returns
returns g c = record {
  hangs = hang_is _ _ c.args.self.now.kept.server c.args.session c.step-step.new.self.server c.step-step.result c.step-step.ensures.stepped;
  gone = c.close.ensures.gone;
  others = c.close.ensures.others;
  store = c.step-step.ensures.store;
}

use Rattle.lbfs_client.proofs.Runnings.{commands_is}
use Rattle.lbfs_client.proofs.running.plain.Goals as goal

pub returns : goal.returns
returns c = commands_is c.says_step-said.result _ _ _ _ _ _ _ c.new-send.ensures c.in_ok-ended.ensures c.says_step-said.ensures

use Rattle.lbfs_client.proofs.Runnings.{begins_is}
use Rattle.lbfs_client.proofs.running.begin.Goals as goal

pub returns-in-Ok : goal.returns-in-Ok
returns-in-Ok g c = begins_is c.lead-said.result _ _ _ _ _ _ _ _ _ _ _ c.new-send.ensures c.in-Ok.ensures c.lead-said.ensures

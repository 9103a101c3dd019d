use Rattle.lbfs_client.proofs.Leadings.{follows_noted}
use Rattle.lbfs_client.proofs.walking.follow.Goals as goal

pub returns-in-Ok : goal.returns-in-Ok
returns-in-Ok g c = follows_noted c.lead-said.result _ _ _ _ c.args.step _ _ _ _ _ _ c.note.ensures c.new-send.ensures c.in-Ok.ensures c.into_parts-more.ensures.send c.into_parts-more.ensures.ended c.lead-said.ensures

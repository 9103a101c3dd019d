use Rattle.folder_tasks.proofs.Sparing.{spares_put}
use Rattle.folder_tasks.proofs.visiting.visit.Goals as goal

pub returns-in-Put-clause-spares : goal.returns-in-Put-clause-spares
returns-in-Put-clause-spares g c = spares_put _ _ _ _ _ _ _ _ _ _ c.visit_put.result c.as_slice.ensures c.in-Put.is c.visit_put.ensures.spares

use Rattle.folder_tasks.proofs.Removed.{told_so}
use Rattle.folder_tasks.proofs.visiting.visit_removal.Goals as goal

pub returns-clause-removes : goal.returns-clause-removes
returns-clause-removes g c = told_so _ _ _ _ _ _ _ c.in_ok-gone.ensures c.removed.ensures

use Rattle.folder_tasks.proofs.Touching.{only_listed}
use Rattle.folder_tasks.proofs.putting.put_folder.Goals as goal

pub returns-in-Ok-clause-touches : goal.returns-in-Ok-clause-touches
returns-in-Ok-clause-touches g c = only_listed _ _ _ _ c.names.ensures

pub returns-in-Err-clause-touches : goal.returns-in-Err-clause-touches
returns-in-Err-clause-touches g c = only_listed _ _ _ _ c.names.ensures

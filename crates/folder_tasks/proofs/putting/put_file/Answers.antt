use Rattle.folder_tasks.proofs.Touching.{only_read}
use Rattle.folder_tasks.proofs.putting.put_file.Goals as goal

pub returns-in-Ok-clause-touches : goal.returns-in-Ok-clause-touches
returns-in-Ok-clause-touches g c = only_read _ _ _ _ c.read.ensures.read

pub returns-in-Err-clause-touches : goal.returns-in-Err-clause-touches
returns-in-Err-clause-touches g c = only_read _ _ _ _ c.read.ensures.read

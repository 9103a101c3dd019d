use Rattle.std.proofs.Common.{refl}
use Rattle.folder_tasks.proofs.Touching.{stayed}
use Rattle.folder_tasks.proofs.putting.put_deep.Goals as goal

pub returns-else-storing-clause-touches : goal.returns-else-storing-clause-touches
returns-else-storing-clause-touches g c = stayed _ _ _ refl

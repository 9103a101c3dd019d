use Rattle.std.proofs.Common.{refl}
use Rattle.folder_tasks.proofs.Touching.{stayed}
use Rattle.folder_tasks.proofs.putting.put_kind.Goals as goal

pub returns-in-Missing-clause-touches : goal.returns-in-Missing-clause-touches
returns-in-Missing-clause-touches g c = stayed _ _ _ refl

pub returns-in-Other-clause-touches : goal.returns-in-Other-clause-touches
returns-in-Other-clause-touches g c = stayed _ _ _ refl

pub returns-in-Link-clause-touches : goal.returns-in-Link-clause-touches
returns-in-Link-clause-touches g c = stayed _ _ _ refl

pub returns-in-Hidden-clause-touches : goal.returns-in-Hidden-clause-touches
returns-in-Hidden-clause-touches g c = stayed _ _ _ refl

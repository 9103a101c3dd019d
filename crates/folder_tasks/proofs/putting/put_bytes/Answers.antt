use Rattle.folder_tasks.proofs.Bytes.{made, put}
use Rattle.folder_tasks.proofs.putting.put_bytes.Goals as goal

pub returns-then-storing : goal.returns-then-storing
returns-then-storing g c = made _ _ _ _ _ _ _ _ _ _ _ _ c.as_slice.ensures c.is_compared.ensures c.offer_copy.ensures c.if-storing.true c.make.ensures

pub returns-else-storing : goal.returns-else-storing
returns-else-storing g c = put _ _ _ _ _ _ _ _ _ _ _ _ c.as_slice.ensures c.is_compared.ensures c.offer_copy.ensures c.if-storing.false c.put.ensures

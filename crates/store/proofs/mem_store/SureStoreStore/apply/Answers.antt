use Rattle.store.proofs.Putting.{spare_left}
use Rattle.store.proofs.mem_store.SureStoreStore.apply.Goals as goal

pub returns-clause-spare : goal.returns-clause-spare
returns-clause-spare c = rw (← c.self.view_is) (spare_left c.args.head c.args.first c.args.second c.self.inside.records.items _ _ _ c.apply.ensures.done c.apply.ensures.capacity)

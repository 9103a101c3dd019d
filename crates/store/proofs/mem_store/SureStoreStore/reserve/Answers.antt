use Rattle.std.proofs.Common.{refl}
use Rattle.store.proofs.Putting.{spare_if}
use Rattle.store.proofs.mem_store.SureStoreStore.reserve.Goals as goal

pub returns-clause-room : goal.returns-clause-room
returns-clause-room c = spare_if c.reserve.result c.reserve.new.records.items c.reserve.new.records.items _ c.args.count refl c.reserve.ensures.room

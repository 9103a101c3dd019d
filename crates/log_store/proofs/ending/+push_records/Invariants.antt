use Rattle.std.proofs.Common.{length}
use Rattle.log_store.proofs.ending.+push_records.Given as goal

abbrev pub decreases-push_records : goal.decreases-push_records
decreases-push_records l = length l.names.now

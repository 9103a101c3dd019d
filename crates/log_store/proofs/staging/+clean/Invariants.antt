use Rattle.std.proofs.Common.{length}
use Rattle.log_store.proofs.staging.+clean.Given as goal

abbrev pub decreases-clean : goal.decreases-clean
decreases-clean g l = length l.edits.now

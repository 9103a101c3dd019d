use Rattle.std.proofs.Common.{length}
use Rattle.log_store.proofs.staging.+stage.Given as goal

abbrev pub decreases-stage : goal.decreases-stage
decreases-stage g l = length l.edits.now

use Rattle.std.proofs.Common.{length}
use Rattle.log_store.proofs.edit.+push_larges.Given as goal

abbrev pub decreases-push_larges : goal.decreases-push_larges
decreases-push_larges l = length l.edits.now

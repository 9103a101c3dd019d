use Rattle.std.proofs.Common.{length}
use Rattle.log_store.proofs.edit.+names.Given as goal

abbrev pub decreases-names : goal.decreases-names
decreases-names l = length l.lines.now

use Rattle.std.proofs.Common.{length}
use Rattle.log_store.proofs.carrying.+redo.Given as goal

abbrev pub decreases-redo : goal.decreases-redo
decreases-redo g l = length l.lines.now

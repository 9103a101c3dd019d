use Rattle.std.proofs.Common.{length}
use Rattle.log_store.proofs.room.+is_frugal.Given as goal

abbrev pub decreases-is_frugal : goal.decreases-is_frugal
decreases-is_frugal g l = length l.edits.now

use Rattle.std.proofs.Common.{length}
use Rattle.log_store.proofs.entry.+put_entry.Given as goal

abbrev pub decreases-put_entry : goal.decreases-put_entry
decreases-put_entry l = length l.edits.now

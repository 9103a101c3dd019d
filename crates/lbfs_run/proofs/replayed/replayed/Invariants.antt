use Rattle.lbfs_run.proofs.Parts.{Ran}
use Rattle.lbfs_run.proofs.replayed.replayed.Given as goal

abbrev pub invariant-loop-block : goal.invariant-loop-block
invariant-loop-block l = Ran l.seed l.block l.world l.next

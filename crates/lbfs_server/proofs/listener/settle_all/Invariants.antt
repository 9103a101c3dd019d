use Rattle.turn_post.specs.Passes.{Follows}
use Rattle.lbfs_server.proofs.listener.settle_all.Given as goal

abbrev pub invariant-loop-at : goal.invariant-loop-at
invariant-loop-at g l = Follows l.shared.post l.fn.pass l.pass

use Rattle.turn_post.specs.Passes.{Follows}
use Rattle.lbfs_server.proofs.session.session_out.Given as goal

abbrev pub invariant-loop-turn : goal.invariant-loop-turn
invariant-loop-turn g l = Follows l.shared.post l.fn.pass l.pass

use Rattle.turn_post.specs.Passes.{IsPassOf}
use Rattle.lbfs_server.proofs.listener.tick.Given as goal

abbrev pub invariant-loop-turn : goal.invariant-loop-turn
invariant-loop-turn g l = IsPassOf l.shared.post l.pass

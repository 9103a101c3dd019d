use Rattle.turn_post.specs.Passes.{Follows}
use Rattle.server_turns.proofs.shared.Shared.await_said.Given as goal

abbrev pub invariant-loop-turn : goal.invariant-loop-turn
invariant-loop-turn g l = Follows l.self.post l.fn.pass l.pass

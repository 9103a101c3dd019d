use Rattle.turn_post.specs.Passes.{Follows}
use Rattle.server_turns.proofs.shared.Shared.hang_others.Given as goal

abbrev pub invariant-loop-at : goal.invariant-loop-at
invariant-loop-at g l = Follows l.self.post l.fn.pass l.pass

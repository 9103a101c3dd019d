use Rattle.turn_post.specs.Passes.{Follows}
use Rattle.server_turns.proofs.shared.Shared.shut_links.Given as goal

abbrev pub invariant-loop-one : goal.invariant-loop-one
invariant-loop-one g l = Follows l.self.post l.fn.pass l.pass

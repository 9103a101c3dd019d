use Rattle.turn_post.specs.Passes.{IsPassOf}
use Rattle.rows_session.proofs.sessions.put_connections.Given as goal

abbrev pub invariant-loop-next : goal.invariant-loop-next
invariant-loop-next g l = IsPassOf l.shared.post l.pass

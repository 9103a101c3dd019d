use Rattle.turn_post.specs.Passes.{IsPassOf}
use Rattle.rows_session.proofs.hashing.store_pieces.Given as goal

abbrev pub invariant-loop-at : goal.invariant-loop-at
invariant-loop-at g l = IsPassOf l.shared.post l.pass

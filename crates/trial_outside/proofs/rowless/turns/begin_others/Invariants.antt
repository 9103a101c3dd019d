use Rattle.turn_post.specs.Passes.{IsPassOf}
use Rattle.trial_outside.proofs.rowless.turns.begin_others.Given as goal

abbrev pub invariant-loop-at : goal.invariant-loop-at
invariant-loop-at g l = IsPassOf l.post l.pass

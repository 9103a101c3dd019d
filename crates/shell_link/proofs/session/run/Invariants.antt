use Rattle.shell_link.specs.Asking.{Runs}
use Rattle.shell_link.proofs.session.run.Given as goal

abbrev pub invariant-loop-turn : goal.invariant-loop-turn
invariant-loop-turn g l = Runs l.fn.client l.fn.command l.heard l.client l.ended

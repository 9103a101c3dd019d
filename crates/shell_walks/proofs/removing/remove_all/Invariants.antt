use Rattle.shell_walks.specs.Removing.{Removes}
use Rattle.shell_walks.proofs.removing.remove_all.Given as goal

abbrev pub invariant-loop-turn : goal.invariant-loop-turn
invariant-loop-turn g l = Removes g.R.Remote.asks l.fn.remote l.fn.path l.doomed.items l.remote l.removal

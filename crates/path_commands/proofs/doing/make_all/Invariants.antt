use Rattle.path_commands.specs.Doing.{Makes}
use Rattle.path_commands.proofs.doing.make_all.Given as goal

abbrev pub invariant-loop-end : goal.invariant-loop-end
invariant-loop-end g l = Makes g.R.Remote.asks l.fn.remote l.path l.end l.remote

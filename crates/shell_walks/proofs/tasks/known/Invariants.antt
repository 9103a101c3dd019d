use Rattle.std.proofs.Common.{◌≡◌, drop}
use Rattle.shell_walks.specs.Tasks.{known}
use Rattle.shell_walks.proofs.tasks.known.Given as goal

abbrev pub invariant-loop-at : goal.invariant-loop-at
invariant-loop-at l = known l.storing l.ids l.at (drop l.at l.names) l.name ≡ known l.storing l.ids 0 l.names l.name

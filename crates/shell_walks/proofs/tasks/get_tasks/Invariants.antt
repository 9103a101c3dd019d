use Rattle.std.proofs.Common.{◌≡◌, ◌++◌, drop}
use Rattle.shell_walks.specs.Tasks.{get_tasks}
use Rattle.shell_walks.proofs.tasks.get_tasks.Given as goal

abbrev pub invariant-loop-at : goal.invariant-loop-at
invariant-loop-at l = l.tasks ++ get_tasks l.path l.local l.ids l.at (drop l.at l.names) ≡ get_tasks l.path l.local l.ids 0 l.names

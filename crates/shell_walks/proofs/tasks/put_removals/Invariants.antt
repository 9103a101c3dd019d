use Rattle.std.proofs.Common.{◌≡◌, ◌++◌, drop}
use Rattle.shell_walks.specs.Tasks.{removals}
use Rattle.shell_walks.proofs.tasks.put_removals.Given as goal

abbrev pub invariant-loop-name : goal.invariant-loop-name
invariant-loop-name l = l.tasks ++ removals l.path l.held (drop l.name-index l.names) ≡ l.initial.tasks ++ removals l.path l.held l.names

use Rattle.std.proofs.Common.{◌≡◌, ◌++◌, drop}
use Rattle.shell_walks.specs.Tasks.{put_tasks}
use Rattle.shell_walks.proofs.tasks.put_tasks.Given as goal

abbrev pub invariant-loop-name : goal.invariant-loop-name
invariant-loop-name l = l.tasks ++ put_tasks l.local l.path l.storing (drop l.name-index l.names) ≡ put_tasks l.local l.path l.storing l.names

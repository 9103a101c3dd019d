use Rattle.std.proofs.Common.{◌≡◌, ◌++◌, drop}
use Rattle.shell_walks.specs.Tasks.{put_known}
use Rattle.shell_walks.proofs.tasks.put_known.Given as goal

abbrev pub invariant-loop-name : goal.invariant-loop-name
invariant-loop-name l = l.tasks ++ put_known l.local l.path l.storing l.listed (drop l.name-index l.names) ≡ put_known l.local l.path l.storing l.listed l.names

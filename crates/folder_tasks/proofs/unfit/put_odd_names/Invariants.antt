use Rattle.std.proofs.Common.{◌≡◌, ◌++◌, drop}
use Rattle.folder_tasks.specs.Visiting.{odd_names}
use Rattle.folder_tasks.proofs.unfit.put_odd_names.Given as goal

abbrev pub invariant-loop-name : goal.invariant-loop-name
invariant-loop-name l = l.out ++ odd_names l.path (drop l.name-index l.names) ≡ l.initial.out ++ odd_names l.path l.names

use Rattle.std.proofs.Common.{◌≡◌, ◌++◌, drop}
use Rattle.folder_tasks.specs.Visiting.{bad_names}
use Rattle.folder_tasks.proofs.unfit.bad_names.Given as goal

abbrev pub invariant-loop-name : goal.invariant-loop-name
invariant-loop-name l = l.note ++ bad_names l.folder (drop l.name-index l.names) ≡ bad_names l.folder l.names

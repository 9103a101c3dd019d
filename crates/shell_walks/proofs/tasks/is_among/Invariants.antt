use Rattle.std.proofs.Common.{◌≡◌, drop}
use Rattle.shell_walks.specs.Tasks.{is_among}
use Rattle.shell_walks.proofs.tasks.is_among.Given as goal

abbrev pub invariant-loop-other : goal.invariant-loop-other
invariant-loop-other l = is_among l.name (drop l.other-index l.names) ≡ is_among l.name l.names

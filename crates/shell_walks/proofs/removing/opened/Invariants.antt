use Rattle.std.proofs.Common.{◌≡◌, ◌++◌, drop}
use Rattle.shell_walks.specs.Removing.{opened, within}
use Rattle.shell_walks.proofs.removing.opened.Given as goal

abbrev pub invariant-loop-name : goal.invariant-loop-name
invariant-loop-name l = l.more ++ within l.path (drop l.name-index l.names) ≡ opened l.path l.names

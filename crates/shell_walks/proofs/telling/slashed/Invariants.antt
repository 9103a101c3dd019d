use Rattle.std.proofs.Common.{◌≡◌, ◌++◌, drop}
use Rattle.shell_walks.specs.Telling.{slashed}
use Rattle.shell_walks.proofs.telling.slashed.Given as goal

abbrev pub invariant-loop-name : goal.invariant-loop-name
invariant-loop-name l = l.out ++ slashed (drop l.name-index l.path) ≡ slashed l.path

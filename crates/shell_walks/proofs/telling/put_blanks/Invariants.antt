use Rattle.std.proofs.Common.{◌≡◌, ◌++◌, replicate}
use Rattle.shell_walks.proofs.telling.put_blanks.Given as goal

abbrev pub invariant-loop-at : goal.invariant-loop-at
invariant-loop-at l = l.out ≡ l.initial.out ++ replicate l._at 32

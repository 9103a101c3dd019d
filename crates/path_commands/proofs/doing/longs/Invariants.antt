use Rattle.std.proofs.Common.{take}
use Rattle.path_commands.specs.Doing.{Longs}
use Rattle.path_commands.proofs.doing.longs.Given as goal

abbrev pub invariant-loop-at : goal.invariant-loop-at
invariant-loop-at g l = Longs g.R.Remote.asks l.fn.remote l.path (take l.at l.names) l.told l.remote

use Rattle.std.proofs.Common.{rules}
use Rattle.trace_ends.proofs.Begun.{begun}
use Rattle.trace_ends.proofs.world_core.Core.new.Goals as goal

pub returns : goal.returns
returns c = begun _ _ _ _ _ _ _ c.in_ok-server.ensures (search rules) (search rules) (search rules) (search rules) (search rules) (search rules)

use Rattle.std.proofs.Common.{length}
use Rattle.server_turns.proofs.outgoing.+any_tells.Given as goal

abbrev pub decreases-any_tells : goal.decreases-any_tells
decreases-any_tells l = length l.messages.now

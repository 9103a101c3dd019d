use Rattle.std.proofs.Common.{rules}
use Rattle.trace_generator.proofs.choosing.client_of.Goals as goal

pub returns : goal.returns
returns c = search rules

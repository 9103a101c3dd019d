use Rattle.std.proofs.Common.{rules}
use Rattle.trace_generator.proofs.choosing.choice.Goals as goal

pub returns-clause-chosen : goal.returns-clause-chosen
returns-clause-chosen c = search rules

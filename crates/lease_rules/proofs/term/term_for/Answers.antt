use Rattle.std.proofs.Common.{rules}
use Rattle.lease_rules.proofs.term.term_for.Goals as goal

pub returns-then-waits : goal.returns-then-waits
returns-then-waits c = search rules

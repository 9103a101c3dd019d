use Rattle.std.proofs.Common.{rules}
use Rattle.session_rules.proofs.wire.Wire.take_down.Goals as goal

pub returns-clause-records : goal.returns-clause-records
returns-clause-records c = search rules

pub returns-clause-rest : goal.returns-clause-rest
returns-clause-rest c = search rules

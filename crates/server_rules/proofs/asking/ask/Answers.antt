use Rattle.std.proofs.Common.{rules}
use Rattle.server_rules.proofs.asking.ask.Goals as goal

pub returns-in-Err-clause-records : goal.returns-in-Err-clause-records
returns-in-Err-clause-records g c = search rules

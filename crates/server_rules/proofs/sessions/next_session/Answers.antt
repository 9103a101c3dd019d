use Rattle.std.proofs.Common.{rules}
use Rattle.server_rules.proofs.sessions.next_session.Goals as goal

pub returns-clause-number : goal.returns-clause-number
returns-clause-number c = search rules
